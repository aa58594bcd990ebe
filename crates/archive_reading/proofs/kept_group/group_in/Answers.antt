use Rattle.std.proofs.Common.{rules, ◌≡◌, false, ℕ, List, sym, subst, ◌∙◌}
use Rattle.warc_scan.specs.Outlines.{BeginsWithOutline}
use Rattle.warc_scan.specs.Answers.{HasNoGroup}
use Rattle.record_opening.specs.Rests.{IsUnfinished}
use Rattle.archive_reading.proofs.KeptGroupLaws.{none_in_damage, none_in_nothing, none_in_tail}
use Rattle.archive_reading.proofs.kept_group.group_in.Goals as goal

pub returns-in-Ok : goal.returns-in-Ok
returns-in-Ok c =
    let same : c.as_slice.result.now ≡ c.args.bytes.items = search rules in
    c.cut_off.ensures c.args.namespace.now c.args.number
    (subst (λ (b : List ℕ). BeginsWithOutline c.args.namespace.now c.args.number b c.in-Ok.outline) same c.in-Ok.ensures.ok)

pub returns-in-Err-End : goal.returns-in-Err-End
returns-in-Err-End c =
    let same : c.as_slice.result.now ≡ c.args.bytes.items = search rules in
    none_in_nothing c.args.namespace.now c.args.number c.args.bytes.items (sym same ∙ (rw c.in-Err-End.field-0-is at c.in-Err-End.ensures.none).0)

pub returns-in-Err-Unfinished : goal.returns-in-Err-Unfinished
returns-in-Err-Unfinished c =
    let same : c.as_slice.result.now ≡ c.args.bytes.items = search rules in
    none_in_tail c.args.namespace.now c.args.number c.args.bytes.items
    (subst (λ (b : List ℕ). IsUnfinished false b) same (rw c.in-Err-Unfinished.field-0-is at c.in-Err-Unfinished.ensures.none))

pub returns-in-Err-Damaged : goal.returns-in-Err-Damaged
returns-in-Err-Damaged c =
    let same : c.as_slice.result.now ≡ c.args.bytes.items = search rules in
    none_in_damage c.args.namespace.now c.args.number c.args.bytes.items
    (subst (λ (b : List ℕ). HasNoGroup c.args.namespace.now c.args.number false b) same (rw c.in-Err-Damaged.field-0-is at c.in-Err-Damaged.ensures.none).1)
