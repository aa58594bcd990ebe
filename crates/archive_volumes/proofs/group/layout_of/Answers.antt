use Rattle.std.proofs.Common.{◌+◌, ◌-◌, length, arith}
use Rattle.warc_text.specs.Lengths.{request_length}
use Rattle.archive_volumes.specs.Grouping.{block_of}
use Rattle.archive_volumes.proofs.Places.{block_stands, stands_at, stands_long}
use Rattle.archive_volumes.proofs.group.layout_of.Goals as goal

pub overflow_sub-record_len : goal.overflow_sub-record_len
overflow_sub-record_len c =
    let is = block_stands c.requires.group.0 c.args.taken.now c.requires.group.1 c.args.same c.args.group.now c.requires.group.2 in
    omega (arith, stands_long c.args.group.now (block_of c.args.taken.now c.args.same) (4 + request_length c.args.taken.now) is, c.request_len.ensures.value)

pub overflow_sub-result : goal.overflow_sub-result
overflow_sub-result c =
    let is = block_stands c.requires.group.0 c.args.taken.now c.requires.group.1 c.args.same c.args.group.now c.requires.group.2 in
    omega (arith, stands_long c.args.group.now (block_of c.args.taken.now c.args.same) (4 + request_length c.args.taken.now) is, c.request_len.ensures.value)

pub overflow_sub-result-2 : goal.overflow_sub-result-2
overflow_sub-result-2 c =
    let is = block_stands c.requires.group.0 c.args.taken.now c.requires.group.1 c.args.same c.args.group.now c.requires.group.2 in
    omega (arith, stands_long c.args.group.now (block_of c.args.taken.now c.args.same) (4 + request_length c.args.taken.now) is, c.request_len.ensures.value, c.block_len.ensures.value)

pub returns : goal.returns
returns c =
    let is = block_stands c.requires.group.0 c.args.taken.now c.requires.group.1 c.args.same c.args.group.now c.requires.group.2 in
    let long = stands_long c.args.group.now (block_of c.args.taken.now c.args.same) (4 + request_length c.args.taken.now) is in
    stands_at c.args.taken.now c.args.same c.args.group.now
    (record { record_len = length c.args.group.now - c.request_len.result; head_at = length c.args.group.now - c.request_len.result - 4 - c.block_len.result })
    is (omega (arith, long, c.request_len.ensures.value)) (omega (arith, long, c.request_len.ensures.value, c.block_len.ensures.value))
