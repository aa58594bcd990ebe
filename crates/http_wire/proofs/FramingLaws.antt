-- What is told of a body, within its limit.
use Rattle.std.proofs.Common.{◌≡◌, ℕ, ◌<◌, ◌≤◌, ◌^◌, ltb, Some, None, Ok, Err, refl, sym, ap, ◌∙◌, arith}
use Rattle.std.proofs.lemmas.Bool.{cond_both, lt-ltb, le-ltb, ltb-false}
use Rattle.capture.specs.First.{fault_at_head}
use Rattle.capture.specs.declared.framing.Framing.{Framing}
use Rattle.capture.specs.declared.framing.Framing.TheVariants.{Empty, Length, Chunked, ToEnd}
use Rattle.capture.specs.declared.framing.FramingFault.TheVariants.{Malformed, CodingRefused}
use Rattle.capture.specs.declared.framing.MessageFault.TheVariants as due
use Rattle.capture.specs.declared.limits.TheConstants.{BODY_LIMIT}
use Rattle.http_head.specs.declared.head.WireFault.{WireFault}
use Rattle.http_head.specs.declared.head.WireFault.TheVariants as wire
use Rattle.message_body.specs.Framings.{framing_answer}
use Rattle.http_wire.specs.steps.Told.{IsTold}
use Rattle.message_body.proofs.ToldFramings.{Told, ok_is_no_err, ok_was_told, telling, told_err, told_ok}

same_fault : (a b : WireFault) → told_err a ≡ told_err b → a ≡ b
same_fault a b e = cc

-- and within the limit
pub told_within : (told : Told) (framing : Framing) → told_ok framing ≡ framing_answer told → fault_at_head (telling framing) ≡ None
    → IsTold told (Ok framing)
told_within told framing e short =
    let is = ok_was_told told framing e in (is, ap fault_at_head is ∙ short)

pub length_within : (n : ℕ) → n ≤ BODY_LIMIT → fault_at_head (telling (Length n)) ≡ None
length_within n h = rw (le-ltb BODY_LIMIT n h) refl

-- a length that passes it
pub length_beyond : (told : Told) (n : ℕ) → told_ok (Length n) ≡ framing_answer told → BODY_LIMIT < n → IsTold told (Err wire.BodyTooLong)
length_beyond told n e h =
    let at : fault_at_head (telling (Length n)) ≡ Some due.BodyTooLong = rw (lt-ltb BODY_LIMIT n h) refl in
    (due.BodyTooLong, ap fault_at_head (ok_was_told told (Length n) e) ∙ at, refl)

-- an answer that is a fault was told
pub err_was_told : (told : Told) (fault : WireFault) → told_err fault ≡ framing_answer told → IsTold told (Err fault)
err_was_told (Ok Empty) fault e = absurd (ok_is_no_err Empty fault (sym e))
err_was_told (Ok (Length n)) fault e =
    cond_both (ltb n (2 ^ 64)) (told_ok (Length n)) (told_err wire.BodyTooLong)
    (λ a. told_err fault ≡ a → IsTold (telling (Length n)) (Err fault))
    (λ _ d. absurd (ok_is_no_err (Length n) fault (sym d)))
    (λ large d.
    let at : fault_at_head (telling (Length n)) ≡ Some due.BodyTooLong =
    rw (lt-ltb BODY_LIMIT n (omega (arith, ltb-false n (2 ^ 64) large))) refl in
    (due.BodyTooLong, at, same_fault fault wire.BodyTooLong d))
    e
err_was_told (Ok Chunked) fault e = absurd (ok_is_no_err Chunked fault (sym e))
err_was_told (Ok ToEnd) fault e = absurd (ok_is_no_err ToEnd fault (sym e))
err_was_told (Err Malformed) fault e = (due.Malformed, refl, same_fault fault wire.Malformed e)
err_was_told (Err CodingRefused) fault e = (due.CodingRefused, refl, same_fault fault wire.CodingRefused e)
