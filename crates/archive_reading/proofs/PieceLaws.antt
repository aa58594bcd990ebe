-- A comparison in pieces: that what came so far is alike.
use Rattle.std.proofs.Common.{◌≡◌, ℕ, zero, suc, ◌+◌, ◌-◌, ◌≤◌, Bool, true, false, List, [], ◌∷◌, ◌++◌, length, take, drop, refl, sym, ap, ◌∙◌, arith}
use Rattle.std.specs.Prelude.{not}
use Rattle.std.specs.Str.{bytes_eq}
use Rattle.std.proofs.Math.Seq.{drop-nil, take-add}
use Rattle.std.proofs.lemmas.Bool.{false≢true}
use Rattle.std.proofs.lemmas.List.{drop-take, length-drop, length-take-le, take_all}
use Rattle.std.proofs.lemmas.Slice.Eq.{bytes_eq-Decides}
use Rattle.archive_volumes.specs.Spots.{HasPlace, part, text_at, wire_in}
use Rattle.archive_volumes.specs.declared.spot.Spot.{Spot}

-- ---- parts

-- a part that stands within a text is as long as was asked
pub part_long : (text : List ℕ) (at long : ℕ) → at + long ≤ length text → length (part text at long) ≡ long
part_long text at long within = length-take-le long (drop at text) (omega (arith, within, length-drop at text))

pub wire_long : (texts : List (List ℕ)) (spot : Spot) → HasPlace texts spot → length (wire_in texts spot) ≡ spot.wire_len
wire_long texts spot place = part_long (text_at texts spot.volume) (spot.head_at + spot.head_len) spot.wire_len (omega (arith, place.within))

drop_twice : (a k : ℕ) (xs : List ℕ) → drop (a + k) xs ≡ drop k (drop a xs)
drop_twice zero k xs = ap (λ (n : ℕ). drop n xs) (none k)
  where
    none : (n : ℕ) → 0 + n ≡ n
    none n = omega arith
drop_twice (suc a) k [] = drop-nil (suc a + k) ∙ sym (drop-nil k)
drop_twice (suc a) k (x ∷ xs) = ap (λ (n : ℕ). drop n (x ∷ xs)) (more a k) ∙ drop_twice a k xs
  where
    more : (m n : ℕ) → suc m + n ≡ suc (m + n)
    more m n = omega arith

take_nothing : (n : ℕ) → take {A = ℕ} n [] ≡ []
take_nothing zero = refl
take_nothing (suc n) = refl

take_front : (m more : ℕ) (xs : List ℕ) → take m (take (m + more) xs) ≡ take m xs
take_front zero more xs = refl
take_front (suc m) more [] = ap (take (suc m)) (take_nothing (suc m + more))
take_front (suc m) more (x ∷ xs) = ap (λ (n : ℕ). take (suc m) (take n (x ∷ xs))) (step m more) ∙ ap (λ (l : List ℕ). x ∷ l) (take_front m more xs)
  where
    step : (i j : ℕ) → suc i + j ≡ suc (i + j)
    step i j = omega arith

-- a piece of a part is a part
pub piece_is : (text : List ℕ) (at long done many : ℕ) → done + many ≤ long → part text (at + done) many ≡ take many (drop done (part text at long))
piece_is text at long done many le =
    let split : long ≡ done + (many + (long - (done + many))) = omega (arith, le) in
    ap (take many) (drop_twice at done text)
    ∙ sym (take_front many (long - (done + many)) (drop done (drop at text)))
    ∙ ap (take many) (sym (drop-take done (many + (long - (done + many))) (drop at text)))
    ∙ ap (λ (n : ℕ). take many (drop done (take n (drop at text)))) (sym split)

-- ---- what came so far

-- a piece more is alike
pub alike_more : (text bytes piece : List ℕ) (done many : ℕ) → take done text ≡ take done bytes → piece ≡ take many (drop done text)
    → piece ≡ take many (drop done bytes) → take (done + many) text ≡ take (done + many) bytes
alike_more text bytes piece done many so_far of_text of_bytes =
    take-add done many text
    ∙ ap (λ (p : List ℕ). take done text ++ p) (sym of_text ∙ of_bytes)
    ∙ ap (λ (f : List ℕ). f ++ take many (drop done bytes)) so_far
    ∙ sym (take-add done many bytes)

-- all came
pub all_alike : (text bytes : List ℕ) (done : ℕ) → length text ≡ length bytes → length bytes ≤ done → take done text ≡ take done bytes → text ≡ bytes
all_alike text bytes done long all so_far =
    sym (take_all done text (omega (arith, long, all))) ∙ so_far ∙ take_all done bytes all

-- a piece isn't another one
pub equal_by : (xs ys : List ℕ) (other : Bool) → other ≡ not (bytes_eq xs ys) → other ≡ false → xs ≡ ys
equal_by xs ys other is none = (bytes_eq-Decides xs ys).0 (flipped (bytes_eq xs ys) (sym is ∙ none))
  where
    flipped : (b : Bool) → not b ≡ false → b ≡ true
    flipped true e = refl
    flipped false e = absurd (false≢true (sym e))
