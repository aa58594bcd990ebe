-- What a reader holds that has taken a piece.
use Rattle.std.proofs.Common.{◌≡◌, ◌≢◌, ℕ, ◌+◌, ◌-◌, ◌<◌, ◌≤◌, List, ◌++◌, length, take, Some, None, sym, ap, ◌∙◌, refl, arith, length-append, length-take, min}
use Rattle.std.proofs.lemmas.Bool.{lt-ltb}
use Rattle.std.proofs.lemmas.List.{take-take}
use Rattle.capture.specs.Head.{head_end, front_by}
use Rattle.capture.specs.declared.limits.TheConstants.{HEAD_LIMIT}
use Rattle.http_head.specs.HeadReading.{IsOpen, IsTooLong}
use Rattle.http_head.specs.steps.HeadSeek.{seek_after}
use Rattle.http_head.specs.declared.seek.Seek.{Seek}
use Rattle.http_head.specs.declared.seek.Seek.TheVariants.{Before, Ended}
use Rattle.http_head.proofs.SeekLaws.{seek_after-append, open_from_going, going_from_open, ended_has_end, ends_last}

pub going_at : (q : Seek) (bytes s : List ℕ) → q ≡ seek_after Before bytes → bytes ≡ s → head_end s ≡ None → q ≢ Ended
going_at q bytes s is held e ended =
    going_from_open s e (sym (ap (seek_after Before) held) ∙ sym is ∙ ended)

pub open_at : (q : Seek) (bytes s : List ℕ) → q ≡ seek_after Before bytes → bytes ≡ s → q ≢ Ended → head_end s ≡ None
open_at q bytes s is held going = open_from_going s (λ e. going (is ∙ ap (seek_after Before) held ∙ e))

pub ends_at : (q : Seek) (bytes s : List ℕ) → q ≡ seek_after Before bytes → bytes ≡ s → q ≡ Ended
    → ((n : ℕ) → head_end s ≡ Some n → n ≡ length s) → head_end s ≡ Some (length s)
ends_at q bytes s is held ended last =
    let end = ended_has_end s (sym (is ∙ ap (seek_after Before) held) ∙ ended) in
    end.1 ∙ ap Some (last end.0 end.1)

pub too_long_at : (q : Seek) (bytes s : List ℕ) → q ≡ seek_after Before bytes → bytes ≡ s → q ≢ Ended
    → HEAD_LIMIT < length s → IsTooLong s
too_long_at q bytes s is held going h =
    ap (front_by s) (open_at q bytes s is held going) ∙ rw (lt-ltb HEAD_LIMIT (length s) h) refl

-- what is taken of the piece is taken of its part that fits
pub grown_within : (s bytes old taken piece within : List ℕ) (u m : ℕ) → s ≡ bytes ++ taken → bytes ≡ old
    → taken ≡ take u piece → within ≡ take m piece → u ≤ length within → s ≡ old ++ take u within
grown_within s bytes old taken piece within u m grown held front cut fits =
    let low : u ≤ m = omega (arith, ap length cut, length-take m piece) in
    let same : take u within ≡ take u piece = ap (take u) cut ∙ take-take u m piece low in
    grown ∙ ap (λ b. b ++ taken) held ∙ ap (λ t. old ++ t) (front ∙ sym same)

pub fed_seek : (start after : Seek) (bytes within s : List ℕ) (u : ℕ) → start ≡ seek_after Before bytes
    → after ≡ seek_after start (take u within) → s ≡ bytes ++ take u within → after ≡ seek_after Before s
fed_seek start after bytes within s u is found grown =
    found ∙ ap (λ q. seek_after q (take u within)) is ∙ sym (seek_after-append Before bytes (take u within))
    ∙ sym (ap (seek_after Before) grown)

going_before_last : (start : Seek) (bytes within : List ℕ) (u : ℕ) → start ≡ seek_after Before bytes
    → seek_after start (take (u - 1) within) ≢ Ended → seek_after Before (bytes ++ take (u - 1) within) ≢ Ended
going_before_last start bytes within u is going e =
    going (ap (λ q. seek_after q (take (u - 1) within)) is
    ∙ sym (seek_after-append Before bytes (take (u - 1) within)) ∙ e)

pub fed_ends : (start : Seek) (bytes within s : List ℕ) (u : ℕ) → start ≡ seek_after Before bytes → u ≤ length within
    → seek_after start (take (u - 1) within) ≢ Ended → s ≡ bytes ++ take u within
    → (n : ℕ) → head_end s ≡ Some n → n ≡ length s
fed_ends start bytes within s u is fits going grown n e =
    ends_last bytes within u fits (going_before_last start bytes within u is going) n (sym (ap head_end grown) ∙ e)
    ∙ sym (ap length grown)

pub fed_soonest : (start : Seek) (bytes piece within old : List ℕ) (u m : ℕ) → start ≡ seek_after Before bytes
    → bytes ≡ old → within ≡ take m piece → u ≤ length within → length old ≤ HEAD_LIMIT → m ≤ HEAD_LIMIT + 1 - length old
    → seek_after start (take (u - 1) within) ≢ Ended → IsOpen (old ++ take (u - 1) piece)
fed_soonest start bytes piece within old u m is held cut fits short room going =
    let low : u ≤ m = omega (arith, ap length cut, length-take m piece) in
    let same : take (u - 1) within ≡ take (u - 1) piece =
    ap (take (u - 1)) cut ∙ take-take (u - 1) m piece (omega arith) in
    let all : bytes ++ take (u - 1) within ≡ old ++ take (u - 1) piece =
    ap (λ b. b ++ take (u - 1) within) held ∙ ap (λ t. old ++ t) same in (
      ap head_end (sym all) ∙ open_from_going (bytes ++ take (u - 1) within) (going_before_last start bytes within u is going),
      omega (arith, length-append old (take (u - 1) piece), length-take (u - 1) piece),
    )

pub fed_whole : (q : Seek) (old piece within s : List ℕ) (u m : ℕ) → q ≡ seek_after Before s → IsOpen s
    → (q ≢ Ended → u ≡ length within) → within ≡ take m piece → s ≡ old ++ take u within → length old ≤ HEAD_LIMIT
    → m ≡ min (length piece) (HEAD_LIMIT + 1 - length old) → u ≡ length piece
fed_whole q old piece within s u m is more all cut grown short room =
    let used : u ≡ length within = all (going_at q s s is refl more.0) in
    omega (
      arith,
      used,
      ap length cut,
      length-take m piece,
      ap length grown,
      length-append old (take u within),
      length-take u within,
      more.1,
      room,
    )
