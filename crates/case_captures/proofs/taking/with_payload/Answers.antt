-- A capture that may be stored has the payload of the response.
use Rattle.case_captures.proofs.PreparedLaws.{has_payload}
use Rattle.case_captures.proofs.taking.with_payload.Goals as goal

pub returns-in-Ok-Some : goal.returns-in-Ok-Some
returns-in-Ok-Some c = record {
  fits = rw c.in-Ok-Some.field-0-is at c.in-Ok-Some.ensures.fits;
  has = has_payload _ _ _ _ c.requires.response c.requires.payload (rw c.in-Ok-Some.field-0-is at c.in-Ok-Some.ensures.is);
}
