-- What an answer of framings tells.
use Rattle.std.proofs.Common.{◌≡◌, ◌^◌, ltb, Ok, Err, ap}
use Rattle.std.specs.Prelude.{Result}
use Rattle.std.proofs.lemmas.Bool.{cond_both}
use Rattle.capture.specs.declared.framing.Framing.{Framing}
use Rattle.capture.specs.declared.framing.Framing.TheVariants.{Empty, Length, Chunked, ToEnd}
use Rattle.capture.specs.declared.framing.FramingFault.{FramingFault}
use Rattle.capture.specs.declared.framing.FramingFault.TheVariants.{Malformed, CodingRefused}
use Rattle.http_head.specs.declared.head.WireFault.{WireFault}
use Rattle.http_head.specs.declared.head.WireFault.TheVariants as wire
use Rattle.message_body.specs.Framings.{framing_answer}

abbrev pub Answer : Type 0
Answer = Result Framing WireFault

abbrev pub told_ok : Framing → Answer
told_ok framing = Ok framing

abbrev pub told_err : WireFault → Answer
told_err fault = Err fault

pub ok_is_no_err : (framing : Framing) (fault : WireFault) → told_ok framing ≡ told_err fault → ⊥
ok_is_no_err framing fault e = cc

same_framing : (a b : Framing) → told_ok a ≡ told_ok b → b ≡ a
same_framing a b e = cc

abbrev pub Told : Type 0
Told = Result Framing FramingFault

abbrev pub telling : Framing → Told
telling framing = Ok framing

-- an answer that is a framing was told
pub ok_was_told : (told : Told) (framing : Framing) → told_ok framing ≡ framing_answer told → told ≡ telling framing
ok_was_told (Ok Empty) framing e = ap telling (same_framing framing Empty e)
ok_was_told (Ok (Length n)) framing e =
    cond_both (ltb n (2 ^ 64)) (told_ok (Length n)) (told_err wire.BodyTooLong)
    (λ a. told_ok framing ≡ a → telling (Length n) ≡ telling framing)
    (λ _ d. ap telling (same_framing framing (Length n) d)) (λ _ d. absurd (ok_is_no_err framing wire.BodyTooLong d)) e
ok_was_told (Ok Chunked) framing e = ap telling (same_framing framing Chunked e)
ok_was_told (Ok ToEnd) framing e = ap telling (same_framing framing ToEnd e)
ok_was_told (Err Malformed) framing e = absurd (ok_is_no_err framing wire.Malformed e)
ok_was_told (Err CodingRefused) framing e = absurd (ok_is_no_err framing wire.CodingRefused e)
