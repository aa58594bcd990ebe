use Rattle.std.proofs.Common.{◌≡◌, length, sym, take, arith}
use Rattle.std.proofs.lemmas.List.{take_all}
use Rattle.volume_scan.proofs.NoGroups.{none_in_nothing, none_in_tail}
use Rattle.volume_scan.proofs.placed.group_in.Goals as goal

pub returns-in-Ok-Group-clause-stands : goal.returns-in-Ok-Group-clause-stands
returns-in-Ok-Group-clause-stands c =
    let bytes = c.args.bytes.now in
    let all : bytes ≡ take (length bytes) bytes = sym (take_all (length bytes) bytes (omega arith)) in
    rw c.in-Ok-Group.field-0-is at (c.in-Ok-Group.ensures.next bytes c.requires all)

pub returns-in-Ok-Nothing-clause-missing : goal.returns-in-Ok-Nothing-clause-missing
returns-in-Ok-Nothing-clause-missing c =
    let bytes = c.args.bytes.now in
    let all : bytes ≡ take (length bytes) bytes = sym (take_all (length bytes) bytes (omega arith)) in
    none_in_nothing c.args.namespace.now c.args.number bytes (rw c.in-Ok-Nothing.field-0-is at (c.in-Ok-Nothing.ensures.next bytes c.requires all))

pub returns-in-Ok-Tail-clause-missing : goal.returns-in-Ok-Tail-clause-missing
returns-in-Ok-Tail-clause-missing c =
    let bytes = c.args.bytes.now in
    let all : bytes ≡ take (length bytes) bytes = sym (take_all (length bytes) bytes (omega arith)) in
    none_in_tail c.args.namespace.now c.args.number bytes (rw c.in-Ok-Tail.field-0-is at (c.in-Ok-Tail.ensures.next bytes c.requires all))

pub returns-in-Ok-Damaged-clause-missing : goal.returns-in-Ok-Damaged-clause-missing
returns-in-Ok-Damaged-clause-missing c =
    let bytes = c.args.bytes.now in
    let all : bytes ≡ take (length bytes) bytes = sym (take_all (length bytes) bytes (omega arith)) in
    let damaged = rw c.in-Ok-Damaged.field-0-is at (c.in-Ok-Damaged.ensures.next bytes c.requires all) in
    damaged.1
