use Rattle.std.proofs.Common.{sym}
use Rattle.record_opening.proofs.Targets.{no_targets, open_targets}
use Rattle.record_opening.proofs.fields.open_target.Goals as goal

pub returns-then-is_target_text : goal.returns-then-is_target_text
returns-then-is_target_text c = open_targets c.args.bytes.now c.requires (sym c.if-is_target_text.ensures)

pub returns-else-is_target_text : goal.returns-else-is_target_text
returns-else-is_target_text c = no_targets c.args.bytes.now c.requires (sym c.if-is_target_text.ensures)
