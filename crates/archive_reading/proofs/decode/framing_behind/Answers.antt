use Rattle.std.proofs.Common.{◌≡◌, Bool, sym, subst}
use Rattle.message_body.specs.Framings.{framing_answer, told_by_response}
use Rattle.archive_reading.proofs.DecodeLaws.{said_err, tells_none}
use Rattle.archive_reading.proofs.decode.framing_behind.Goals as goal

pub returns : goal.returns
returns c =
    tells_none c.args.method.now c.args.head.now c.in-Ok.parts c.in-Err-framing_of.field-0 c.in-Ok.ensures.ok
    (subst (λ (b : Bool). framing_answer (told_by_response b c.in-Ok.parts) ≡ said_err c.in-Err-framing_of.field-0) c.is_head.ensures
    (sym c.in-Err-framing_of.ensures))
