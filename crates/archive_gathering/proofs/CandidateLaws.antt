-- Which captures have a digest, of those that keep their whole wire, or may do so.
use Rattle.std.proofs.Common.{◌≡◌, ◌⊎◌, ℕ, zero, suc, ◌+◌, ◌-◌, ◌^◌, ◌<◌, true, List, [], ◌∷◌, ◌++◌, length, length-append, map, refl, sym, ap, subst, ◌∙◌, inl, inr, ⊎_elim, arith}
use Rattle.std.specs.Prelude.{All, Contains, Some, bytes_eq, filter, if◌then◌else◌, slice_get}
use Rattle.std.specs.Cmp.Lexicographic.{other_text, same_text}
use Rattle.std.proofs.lemmas.Bool.{cond_both, false≢true}
use Rattle.std.proofs.lemmas.List.Elements.{Contains-append_right}
use Rattle.std.proofs.lemmas.Option.{same_Some, slice_get_within}
use Rattle.capture.specs.Captures.{captures}
use Rattle.capture.specs.declared.book.Book.{Book}
use Rattle.capture.specs.declared.captured.Stored.{Stored}
use Rattle.revisit_table.specs.Table.{numbers_of}
use Rattle.archive_gathering.specs.Gathering.{IsInStepWith}
use Rattle.archive_volumes.proofs.SpotLaws.{table_with, whole_below}
use Rattle.archive_volumes.specs.Spots.{may_be_whole, whole_from}
use Rattle.archive_volumes.specs.declared.spot.Spot.{Spot}

-- a capture that keeps its whole wire, or may do so, under this digest
pub record IsCandidate (from : ℕ) (spots : List Spot) (digest : List ℕ) (number : ℕ) : Type 0 where
  pub place : ℕ
  pub spot : Spot
  pub at : slice_get spots place ≡ Some spot
  pub number_is : number ≡ from + place
  pub whole : may_be_whole spot.form ≡ true
  pub digest_is : spot.digest ≡ digest

later : (from : ℕ) (s : Spot) (spots : List Spot) (digest : List ℕ) (number : ℕ) → IsCandidate (suc from) spots digest number → IsCandidate from (s ∷ spots) digest number
later from s spots digest number is = record {
  place = suc is.place;
  spot = is.spot;
  at = is.at;
  number_is = omega (arith, is.number_is);
  whole = is.whole;
  digest_is = is.digest_is;
}

first_or : (x y : ℕ) (xs : List ℕ) → Contains (x ∷ xs) y → (x ≡ y) ⊎ Contains xs y
first_or x y xs (zero, less, same) = inl same
first_or x y xs (suc k, less, same) = inr (k, omega (arith, less), same)

none_in : (n : ℕ) → Contains [] n → ⊥
none_in n has = omega (arith, has.1)

pub from_numbers : (from : ℕ) (spots : List Spot) (digest : List ℕ) (number : ℕ) → Contains (numbers_of digest (whole_from from spots)) number
    → IsCandidate from spots digest number
from_numbers from [] digest number = λ has. absurd (none_in number has)
from_numbers from (s ∷ spots) digest number =
    let rest = whole_from (suc from) spots in
    let behind : Contains (numbers_of digest rest) number → IsCandidate from (s ∷ spots) digest number =
    (λ has. later from s spots digest number (from_numbers (suc from) spots digest number has)) in
    cond_both (may_be_whole s.form) ((s.digest, from) ∷ rest) rest (λ (l : List (List ℕ × ℕ)). Contains (numbers_of digest l) number → IsCandidate from (s ∷ spots) digest number)
    (λ whole. cond_both (bytes_eq s.digest digest) ((s.digest, from) ∷ filter (λ (e : List ℕ × ℕ). bytes_eq e.0 digest) rest) (filter (λ (e : List ℕ × ℕ). bytes_eq e.0 digest) rest)
    (λ (l : List (List ℕ × ℕ)). Contains (map (λ (e : List ℕ × ℕ). e.1) l) number → IsCandidate from (s ∷ spots) digest number)
    (λ same has. ⊎_elim
    (λ (is : from ≡ number). record {
      place = 0;
      spot = s;
      at = refl;
      number_is = omega (arith, is);
      whole = whole;
      digest_is = same_text s.digest digest (sym same);
    })
    behind
    (first_or from number (numbers_of digest rest) has))
    (λ other has. behind has))
    (λ not has. behind has)

behind_more : (from n : ℕ) (nums : List ℕ) → Contains nums n → Contains (from ∷ nums) n
behind_more from n nums has = Contains-append_right (from ∷ []) nums n has

pub to_numbers : (from : ℕ) (spots : List Spot) (digest : List ℕ) (place : ℕ) (spot : Spot) → slice_get spots place ≡ Some spot → may_be_whole spot.form ≡ true
    → spot.digest ≡ digest → Contains (numbers_of digest (whole_from from spots)) (from + place)
to_numbers from [] digest place spot at whole same = absurd (omega (arith, slice_get_within [] place spot at))
to_numbers from (s ∷ spots) digest zero spot at whole same =
    let rest = whole_from (suc from) spots in
    let is : s ≡ spot = same_Some s spot at in
    cond_both (may_be_whole s.form) ((s.digest, from) ∷ rest) rest (λ (l : List (List ℕ × ℕ)). Contains (numbers_of digest l) (from + 0))
    (λ is_so. cond_both (bytes_eq s.digest digest) ((s.digest, from) ∷ filter (λ (e : List ℕ × ℕ). bytes_eq e.0 digest) rest) (filter (λ (e : List ℕ × ℕ). bytes_eq e.0 digest) rest)
    (λ (l : List (List ℕ × ℕ)). Contains (map (λ (e : List ℕ × ℕ). e.1) l) (from + 0))
    (λ equal. (0, omega arith, omega arith))
    (λ other. absurd (other_text s.digest digest (sym other) (ap (λ (x : Spot). x.digest) is ∙ same))))
    (λ no_whole. absurd (false≢true (sym no_whole ∙ ap (λ (x : Spot). may_be_whole x.form) is ∙ whole)))
to_numbers from (s ∷ spots) digest (suc place) spot at whole same =
    let rest = whole_from (suc from) spots in
    let next : suc from + place ≡ from + suc place = omega arith in
    let has : Contains (numbers_of digest rest) (from + suc place) =
    subst (Contains (numbers_of digest rest)) next (to_numbers (suc from) spots digest place spot at whole same) in
    cond_both (may_be_whole s.form) ((s.digest, from) ∷ rest) rest (λ (l : List (List ℕ × ℕ)). Contains (numbers_of digest l) (from + suc place))
    (λ is_so. cond_both (bytes_eq s.digest digest) ((s.digest, from) ∷ filter (λ (e : List ℕ × ℕ). bytes_eq e.0 digest) rest) (filter (λ (e : List ℕ × ℕ). bytes_eq e.0 digest) rest)
    (λ (l : List (List ℕ × ℕ)). Contains (map (λ (e : List ℕ × ℕ). e.1) l) (from + suc place))
    (λ equal. behind_more from (from + suc place) (numbers_of digest rest) has)
    (λ other. has))
    (λ no_whole. has)

-- the numbers in a table are below the count
pub above_by : (spots : List Spot) (kept : List (List ℕ × ℕ)) (n : ℕ) → kept ≡ whole_from 0 spots → n ≡ length spots → All (λ (e : List ℕ × ℕ). e.1 < n) kept
above_by spots kept n is count =
    subst (λ (l : List (List ℕ × ℕ)). All (λ (e : List ℕ × ℕ). e.1 < n) l) (sym is)
    (subst (λ (m : ℕ). All (λ (e : List ℕ × ℕ). e.1 < m) (whole_from 0 spots)) (sym count) (whole_below spots))

-- the parts stay in step when a capture is added
pub steady_with : (old new : Book) (stored : Stored) (spots after : List Spot) (spot : Spot) (table now : List (List ℕ × ℕ)) (lengths longer : List ℕ) (len : ℕ)
    → IsInStepWith old spots table lengths → captures new ≡ captures old ++ stored ∷ [] → after ≡ spots ++ spot ∷ [] → longer ≡ lengths ++ len ∷ []
    → now ≡ table ++ (if may_be_whole spot.form then (spot.digest, length spots) ∷ [] else []) → length spots + 1 < 2 ^ 32 - 1
    → IsInStepWith new after now longer
steady_with old new stored spots after spot table now lengths longer len is gains more longer_is kept few = record {
  count = omega (arith, is.count, ap length gains, ap length more, length-append spots (spot ∷ []), length-append (captures old) (stored ∷ []));
  lengths_too = omega (arith, is.lengths_too, ap length more, ap length longer_is, length-append spots (spot ∷ []), length-append lengths (len ∷ []));
  few = omega (arith, few, ap length more, length-append spots (spot ∷ []));
  table_is =
      kept ∙ ap (λ (l : List (List ℕ × ℕ)). l ++ (if may_be_whole spot.form then (spot.digest, length spots) ∷ [] else [])) is.table_is
      ∙ sym (table_with spots spot) ∙ ap (whole_from 0) (sym more);
}
