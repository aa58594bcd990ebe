-- What is held is a body, and what heads in parts tell.
use Rattle.std.proofs.Common.{◌≡◌, ℕ, List, [], ◌∷◌, ◌++◌, length, refl, sym, ap, ◌∙◌, arith, append-nil, length-append}
use Rattle.httparse.specs.Grammar.{status_code}
use Rattle.capture.specs.Chunks.{print_chunked}
use Rattle.capture.specs.Fields.{named_values}
use Rattle.capture.specs.Framing.{framing_of_request, framing_of_response}
use Rattle.capture.specs.declared.framing.Framing.TheVariants.{Empty, Length, Chunked, ToEnd}
use Rattle.http_head.specs.Heads.{minor_of}
use Rattle.message_body.specs.BodyLaws.{HeldBodiesAreBodies, RequestHeadsTell, ResponseHeadsTell}

nothing : (s : List ℕ) → length s ≡ 0 → s ≡ []
nothing [] e = refl
nothing (b ∷ s) e = absurd (omega (arith, e))

pub held_is_body : HeldBodiesAreBodies
held_is_body Empty ended stream held = nothing stream held
held_is_body (Length n) ended stream held = held.2
held_is_body Chunked ended stream held =
    let all : held.rest ≡ [] =
    nothing held.rest (omega (arith, ap length held.composed, length-append (print_chunked held.body) held.rest, held.used_is)) in (
      held.body,
      held.valid,
      held.composed ∙ ap (λ r. print_chunked held.body ++ r) all ∙ append-nil (print_chunked held.body),
    )
held_is_body ToEnd ended stream held = tt

pub request_tells : RequestHeadsTell
request_tells text head holds =
    let h = holds.0 in
    let is = holds.1 in (
      h,
      is.reads,
      ap (λ minor. framing_of_request minor (named_values h.fields)) (sym is.version)
          ∙ ap (framing_of_request (minor_of head.version)) (sym is.fields),
    )

pub response_tells : ResponseHeadsTell
response_tells answers_head text head holds =
    let h = holds.0 in
    let is = holds.1 in (
      h,
      is.reads,
      ap (λ minor. framing_of_response answers_head minor (status_code h) (named_values h.fields)) (sym is.version)
          ∙ ap (λ status. framing_of_response answers_head (minor_of head.version) status (named_values h.fields)) (sym is.status)
          ∙ ap (framing_of_response answers_head (minor_of head.version) head.status) (sym is.fields),
    )
