-- A stream of requests that has ended between them has nothing but line ends that are skipped.
use Rattle.std.proofs.Common.{◌≡◌, ℕ, Bool, true, false, ◌||◌, ◌==◌, List, Ok, Err, inl, inr, sym, subst, ◌∙◌, arith, if◌then◌else◌}
use Rattle.std.specs.Prelude.{Result}
use Rattle.httparse.specs.Grammar.{RequestHead}
use Rattle.capture.specs.BodyLaws.{NoBodyIsWholeAndCut}
use Rattle.capture.specs.Fields.{named_values, has_field, values_of, members_of}
use Rattle.capture.specs.First.{Requests, Message, NothingBegun, IsFirst, HoldsBody, BeginsBody, HeadTells}
use Rattle.capture.specs.Framing.{transfer_encoding, content_length, is_chunked, length_of_members, request_framing}
use Rattle.capture.specs.declared.framing.Framing.{Framing}
use Rattle.capture.specs.declared.framing.Framing.TheVariants.{Empty, Length, Chunked, ToEnd}
use Rattle.capture.specs.declared.framing.FramingFault.{FramingFault}
use Rattle.capture.specs.declared.framing.FramingFault.TheVariants.{Malformed, CodingRefused}
use Rattle.http_wire.specs.Reading.{Standing, Open, IsUndecided}
use Rattle.http_wire.specs.RequestReading.{EndsBetween}
use Rattle.http_wire.proofs.OneHead.{no_head_in_more, no_head_is_none}
use Rattle.http_wire.proofs.OneBody.{whole_or_cut}
use Rattle.http_wire.proofs.OneHead.{same_head, same_ok}

-- ---- no request has a body up to the end

by_tests : (coding refused told chunked : Bool) (found : Result ℕ FramingFault)
    → (if coding then (if refused then Err Malformed else (if chunked then Ok Chunked else Err CodingRefused))
    else (if told then (elim found [ Ok n ↦ Ok (Length n) | Err e ↦ Err e ]) else Ok Empty)) ≡ Ok ToEnd → ⊥
by_tests true true told chunked found e = cc
by_tests true false told true found e = cc
by_tests true false told false found e = cc
by_tests false refused true chunked (Ok n) e = cc
by_tests false refused true chunked (Err fault) e = cc
by_tests false refused false chunked found e = cc

ends_itself : (h : RequestHead) → request_framing h ≡ Ok ToEnd → ⊥
ends_itself h e =
    let fields = named_values h.fields in
    by_tests (has_field transfer_encoding fields) (h.minor == 0 || has_field content_length fields) (has_field content_length fields)
    (is_chunked (values_of transfer_encoding fields)) (length_of_members (members_of content_length fields)) e

-- ---- a whole request is decided

whole_or_begun : NoBodyIsWholeAndCut → (framing : Framing) (rest : List ℕ) (used : ℕ) (text : List ℕ) → HeadTells Requests text (Ok framing)
    → HoldsBody framing true rest used → BeginsBody framing false rest → ⊥
whole_or_begun apart Empty rest used text tells holds begins = begins
whole_or_begun apart (Length n) rest used text tells holds begins = absurd (omega (arith, holds.1, begins.0))
whole_or_begun apart Chunked rest used text tells holds begins = whole_or_cut apart rest used holds begins
whole_or_begun apart ToEnd rest used text tells holds begins = ends_itself tells.0 tells.2

undecided_or_whole : NoBodyIsWholeAndCut → (stream : List ℕ) (used : ℕ) → IsUndecided Requests false stream → IsFirst Requests true stream (Message used)
    → ⊥
undecided_or_whole apart stream used (inl nothing) whole = no_head_is_none whole.head.skipped whole.head.text (sym nothing.0 ∙ whole.head.front)
undecided_or_whole apart stream used (inr (inl (inl nothing))) whole =
    no_head_is_none whole.head.skipped whole.head.text (sym nothing.0 ∙ whole.head.front)
undecided_or_whole apart stream used (inr (inl (inr more))) whole =
    no_head_in_more whole.head.skipped whole.head.text (sym more ∙ whole.head.front)
undecided_or_whole apart stream used (inr (inr body)) whole =
    let same = same_head Requests stream (Ok whole.framing) (Ok body.framing) whole.end body.end whole.rest body.rest whole.head body.head in
    let framing = same_ok whole.framing body.framing same.told_is in
    let framed : BeginsBody whole.framing false body.rest = subst (λ f. BeginsBody f false body.rest) (sym framing) body.body in
    whole_or_begun apart whole.framing whole.rest whole.body_len whole.head.text whole.head.tells whole.body
    (subst (λ r. BeginsBody whole.framing false r) (sym same.rest_is) framed)

-- the end of a stream that was undecided stands between requests only where nothing has begun
pub nothing_begun : NoBodyIsWholeAndCut → (stream : List ℕ) (standing : Standing) → IsUndecided Requests false stream → EndsBetween stream standing
    → (standing ≡ Open) × IsFirst Requests true stream NothingBegun
nothing_begun apart stream standing undecided (inl nothing) = nothing
nothing_begun apart stream standing undecided (inr whole) = absurd (undecided_or_whole apart stream _ undecided whole.1)
