use Rattle.std.proofs.Common.{inl, inr, sym, ◌∙◌}
use Rattle.record_opening.proofs.Numbers.{no_bytes, no_digits, open_number, some_bytes}
use Rattle.record_opening.proofs.block.open_number.Goals as goal

pub returns-then-is_empty : goal.returns-then-is_empty
returns-then-is_empty c = open_number c.args.bytes.now (inl (no_bytes c.args.bytes.now (sym c.is_empty.ensures ∙ c.if-is_empty.true))) c.requires

pub returns-in-Some : goal.returns-in-Some
returns-in-Some c = open_number c.args.bytes.now (inr (c.in-Some.field-0, c.in-Some.ensures.some.0, c.in-Some.ensures.some.1)) c.requires

pub returns-in-None : goal.returns-in-None
returns-in-None c = no_digits c.args.bytes.now (some_bytes c.args.bytes.now (sym c.is_empty.ensures ∙ c.if-is_empty.false)) c.requires c.in-None.ensures.none
