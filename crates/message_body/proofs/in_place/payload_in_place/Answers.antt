use Rattle.std.proofs.Common.{true, sym, subst}
use Rattle.message_body.specs.Slices.{IsLeft}
use Rattle.message_body.proofs.SliceLaws.{left_of_payload}
use Rattle.message_body.proofs.in_place.payload_in_place.Goals as goal

pub returns-in-Chunked : goal.returns-in-Chunked
returns-in-Chunked c = λ cut payload is.
    c.data_in_place.ensures payload (subst (λ wire. IsLeft true wire payload) (sym c.into_vec.ensures)
    (rw c.in-Chunked.is at (left_of_payload cut c.args.framing c.args.wire payload is)))
