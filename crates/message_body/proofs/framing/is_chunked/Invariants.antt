use Rattle.message_body.proofs.FieldLaws.{TellsCoding}
use Rattle.message_body.proofs.framing.is_chunked.Given as goal

abbrev pub invariant-loop-i : goal.invariant-loop-i
invariant-loop-i l = TellsCoding l.fields l.i
