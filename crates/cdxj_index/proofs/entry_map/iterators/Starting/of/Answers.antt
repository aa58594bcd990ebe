use Rattle.std.proofs.Common.{sym, ◌∙◌}
use Rattle.cdxj_index.proofs.Starts.{starting_from, starting_none, starting_nothing}
use Rattle.cdxj_index.proofs.entry_map.iterators.Starting.of.Goals as goal
use Rattle.cdxj_index.proofs.entry_map.iterators.Starting.of.Goals.{in_default-via-in-Some+else-starts_with, in_default-via-in_default}

pub returns-in-Some : goal.returns-in-Some
returns-in-Some c =
    starting_from c.args.keys.now c.args.start.now c.as_slice-bytes.result.now c.as_slice.result.now c.as_slice-in-Some.result.now c.range-in-Some.result c.requires c.as_slice-bytes.ensures (sym c.starts_with.ensures.value ∙ c.if-starts_with.true) (c.as_slice-in-Some.ensures ∙ sym c.as_slice.ensures) (c.range-in-Some.ensures.between tt)

pub returns-in_default : goal.returns-in_default
returns-in_default c =
    elim c.in_default.branch [
      | in_default-via-in-Some+else-starts_with w ↦ starting_none c.args.keys.now c.args.start.now c.as_slice-bytes.result.now w.as_slice.result.now (w.in-Some.first.now, w.in-Some.field-0-1.now) c.range.result c.next.new.self c.requires c.as_slice-bytes.ensures w.as_slice.ensures (sym w.starts_with.ensures.value ∙ w.if-starts_with.false) w.in-Some.ensures.steps (c.range.ensures.between tt)
      | in_default-via-in_default w ↦ starting_nothing c.args.keys.now c.args.start.now c.range.result c.requires w.in_default.ensures.steps.0 (c.range.ensures.between tt)
    ]
