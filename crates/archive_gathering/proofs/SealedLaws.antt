-- The volumes of a book but the last.
use Rattle.std.proofs.Common.{◌≡◌, ◌+◌, ◌<◌, ◌≤◌, List, [], ◌∷◌, ◌++◌, length, refl, ap, arith, append-nil, length-append}
use Rattle.capture.specs.Captures.{captures_in}
use Rattle.capture.specs.declared.book.Volume.{Volume}
use Rattle.capture.specs.declared.captured.Stored.{Stored}
use Rattle.warc_text.proofs.BookLaws.{captures_in-append}
use Rattle.archive_shelf.specs.Storing.{add_to_last}
use Rattle.archive_gathering.specs.Shapes.{sealed_in}

pub sealed_push : (volumes : List Volume) (last : Volume) → sealed_in (volumes ++ last ∷ []) ≡ volumes
sealed_push [] last = refl
sealed_push (v ∷ []) last = refl
sealed_push (v ∷ w ∷ others) last = ap (λ (l : List Volume). v ∷ l) (sealed_push (w ∷ others) last)

pub sealed_with : (volumes : List Volume) (stored : Stored) → sealed_in (add_to_last volumes stored) ≡ sealed_in volumes
sealed_with [] stored = refl
sealed_with (v ∷ []) stored = refl
sealed_with (v ∷ w ∷ []) stored = refl
sealed_with (v ∷ w ∷ x ∷ others) stored = ap (λ (l : List Volume). v ∷ l) (sealed_with (w ∷ x ∷ others) stored)

-- with the last one they are all
pub with_last : (volumes : List Volume) → 0 < length volumes → (last : Volume) × (volumes ≡ sealed_in volumes ++ last ∷ [])
with_last [] some = absurd (omega (arith, some))
with_last (v ∷ []) some = (v, refl)
with_last (v ∷ w ∷ others) some =
    let rest = with_last (w ∷ others) (omega arith) in
    (rest.0, ap (λ (l : List Volume). v ∷ l) rest.1)

pub sum_with_last : (volumes : List Volume) (last : Volume) → volumes ≡ sealed_in volumes ++ last ∷ []
    → length (captures_in volumes) ≡ length (captures_in (sealed_in volumes)) + length last.captures
sum_with_last volumes last is =
    let own : length (captures_in (last ∷ [])) ≡ length last.captures = ap length (append-nil last.captures) in
    omega (
      arith,
      own,
      ap (λ (l : List Volume). length (captures_in l)) is,
      ap length (captures_in-append (sealed_in volumes) (last ∷ [])),
      length-append (captures_in (sealed_in volumes)) (captures_in (last ∷ [])),
    )

pub sum_at_least : (volumes : List Volume) → length (captures_in (sealed_in volumes)) ≤ length (captures_in volumes)
sum_at_least [] = omega arith
sum_at_least (v ∷ others) =
    let last = with_last (v ∷ others) (omega arith) in
    omega (arith, sum_with_last (v ∷ others) last.0 last.1)
