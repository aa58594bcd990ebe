-- The volumes of a book, one after the other.
use Rattle.std.proofs.Common.{◌≡◌, ℕ, zero, suc, ◌+◌, ◌<◌, ◌≤◌, List, [], ◌∷◌, length, get_or, take, Bool, true, false, if◌then◌else◌, Some, Result, Ok, Err, refl, sym, ap, subst, ◌∙◌, ⊎_elim, length-append, arith, ◌-◌, IsTrue, ◌^◌}
use Rattle.std.specs.Prelude.{IsErrAnd, slice_get, slice_index_or, Contains}
use Rattle.std.proofs.lemmas.Option.{same_Some}
use Rattle.capture.specs.Captures.{captures, captures_in, first_number}
use Rattle.capture.specs.declared.book.Book.{Book}
use Rattle.capture.specs.declared.book.Volume.{Volume}
use Rattle.archive_volumes.specs.Facts.{facts_from, facts_of}
use Rattle.archive_volumes.specs.declared.spot.Spot.{Spot}
use Rattle.archive_volumes.specs.declared.volume_facts.VolumeFacts.{VolumeFacts}
use Rattle.disk_model.specs.declared.disk.Disk.{Ghosts}
use Rattle.checkpoint.specs.declared.fault.CheckpointFault.{CheckpointFault}
use Rattle.cdxj_line.specs.declared.line.Line.{Line}
use Rattle.checkpoint.specs.OfVolume.{AreLinesOf}
use Rattle.volume_lines.specs.OfGroups.{IsFactsOf}
use Rattle.volume_lines.specs.OfSpots.{AreLinesOfSpots}
use Rattle.archive_settling.proofs.FinishedLaws.{volume_at}
use Rattle.archive_settling.specs.Supplying.{GoesOnBy, Stopped, Went, AreLinesFrom, shelved_as}
use Rattle.std.proofs.lemmas.Bool.{cases_lt}
use Rattle.archive_settling.specs.Finished.{AreLinedTo}
use Rattle.archive_volumes.specs.Spots.{is_told_form}
use Rattle.warc_journal.specs.declared.journal.Journal.{Journal}
use Rattle.archive_volumes.specs.Volumes.{IsMeasured}

pub many_facts : (volumes : List Volume) (volume first : ℕ) → length (facts_from volume first volumes) ≡ length volumes
many_facts [] volume first = refl
many_facts (v ∷ vs) volume first = ap suc (many_facts vs (suc volume) (first + length v.captures))

-- what is told of the volume at a place
record IsFactAt (volumes : List Volume) (volume first k : ℕ) (v : Volume) (facts : VolumeFacts) : Type 0 where
  volume_is : facts.volume ≡ volume + k
  first_is : facts.first ≡ first + length (captures_in (take k volumes))
  count_is : facts.count ≡ length v.captures

fact_at : (volumes : List Volume) (volume first k : ℕ) (d : VolumeFacts) (v : Volume) → slice_get volumes k ≡ Some v
    → IsFactAt volumes volume first k v (get_or (facts_from volume first volumes) k d)
fact_at [] volume first k d v at = cc
fact_at (w ∷ ws) volume first zero d v at = record {
  volume_is = omega arith;
  first_is = omega arith;
  count_is = ap (λ (x : Volume). length x.captures) (same_Some w v at);
}
fact_at (w ∷ ws) volume first (suc k) d v at =
    let on = fact_at ws (suc volume) (first + length w.captures) k d v at in
    record {
      volume_is = omega (arith, on.volume_is);
      first_is = omega (arith, on.first_is, length-append w.captures (captures_in (take k ws)));
      count_is = on.count_is;
    }

-- its captures are among all
captures_within : (volumes : List Volume) (k : ℕ) (v : Volume) → slice_get volumes k ≡ Some v
    → length (captures_in (take k volumes)) + length v.captures ≤ length (captures_in volumes)
captures_within [] k v at = cc
captures_within (w ∷ ws) zero v at =
    omega (arith, length-append w.captures (captures_in ws), ap (λ (x : Volume). length x.captures) (same_Some w v at))
captures_within (w ∷ ws) (suc k) v at = omega (
  arith,
  captures_within ws k v at,
  length-append w.captures (captures_in (take k ws)),
  length-append w.captures (captures_in ws),
)

-- what is told of a sealed volume
pub record IsSealedFact (book : Book) (k : ℕ) (facts : VolumeFacts) : Type 0 where
  pub volume_is : facts.volume ≡ k
  pub of : IsFactsOf book facts
  pub some : 0 < facts.count
  pub small : facts.first + facts.count ≤ length (captures book)

pub sealed_fact : (book : Book) (k : ℕ) (d : VolumeFacts)
    → ((j : ℕ) (volume : Volume) → slice_get book.volumes j ≡ Some volume → j + 1 < length book.volumes → 0 < length volume.captures)
    → k + 1 < length (facts_of book) → IsSealedFact book k (get_or (facts_of book) k d)
sealed_fact book k d filled less =
    let sealed : k + 1 < length book.volumes = omega (arith, less, many_facts book.volumes 0 0) in
    let v = volume_at book.volumes k (omega (arith, sealed)) in
    let at = fact_at book.volumes 0 0 k d v.0 v.1 in
    let facts = get_or (facts_of book) k d in
    let number : facts.volume ≡ k = omega (arith, at.volume_is) in
    let first : facts.first ≡ length (captures_in (take k book.volumes)) = omega (arith, at.first_is) in
    let is : IsFactsOf book facts = record {
      of = v.0;
      placed = subst (λ (n : ℕ). slice_get book.volumes n ≡ Some v.0) (sym number) v.1;
      first = subst (λ (n : ℕ). facts.first ≡ first_number book n) (sym number) first;
      count = at.count_is;
    } in
    record {
      volume_is = number;
      of = is;
      some = omega (arith, filled k v.0 v.1 sealed, at.count_is);
      small = omega (arith, at.first_is, at.count_is, captures_within book.volumes k v.0 v.1);
    }

-- and of the one that was found there, while the book stays
pub found_fact : (was now : Book) → now ≡ was → (facts : List VolumeFacts) (k : ℕ) (f : VolumeFacts) → facts ≡ facts_of was → f ≡ slice_index_or facts k f
    → ((j : ℕ) (volume : Volume) → slice_get was.volumes j ≡ Some volume → j + 1 < length was.volumes → 0 < length volume.captures)
    → k + 1 < length facts → IsSealedFact now k f
found_fact was now same facts k f all found filled less =
    subst (λ (book : Book). IsSealedFact book k f) (sym same)
    (subst (IsSealedFact was k) (sym (found ∙ ap (λ (l : List VolumeFacts). slice_index_or l k f) all))
    (sealed_fact was k f filled (omega (arith, less, ap (λ (l : List VolumeFacts). length l) all))))

-- the lines of a volume of which this is told
pub lines_from : (told : Bool) (book : Book) (spots : List Spot) (facts : VolumeFacts) → IsFactsOf book facts → (lines : List Line)
    → AreLinesOfSpots spots facts.first facts.count lines → (IsTrue told → AreLinesOf book facts.volume lines)
    → AreLinesFrom (shelved_as told book spots) facts.volume lines
lines_from told book spots facts of lines kept are = record {
  of = of.of;
  placed = of.placed;
  kept = subst (λ (n : ℕ). AreLinesOfSpots spots n (length of.of.captures) lines) of.first
      (subst (λ (n : ℕ). AreLinesOfSpots spots facts.first n lines) of.count kept);
  are = are;
}

-- ---- one volume after the other

pub one_at_most : (b : Bool) (n : ℕ) → n ≡ (if b then 1 else 0) → n ≤ 1
one_at_most true n is = omega (arith, is)
one_at_most false n is = omega (arith, is)

-- what a `?` hands out is the same fault
pub at_exit : (P : Result ℕ CheckpointFault → Type 0) (fault : CheckpointFault) (result : Result ℕ CheckpointFault)
    → IsErrAnd result (λ f. f ≡ fault) → P (Err fault) → P result
at_exit P fault (Ok n) is p = absurd is
at_exit P fault (Err f) is p = subst (λ (g : CheckpointFault). P (Err g)) (sym is) p

module _ {D : Type 0} (d : Ghosts D) (told : Bool) (was now : Book) (same : now ≡ was) (spots : List Spot) (k n volume : ℕ) (number : volume ≡ k)
    (from old new : D) (went : Went d (shelved_as told was spots) k n from old) where
  goes : (result : Result Bool CheckpointFault) → GoesOnBy d (shelved_as told now spots) volume old new result
      → GoesOnBy d (shelved_as told was spots) k old new result
  goes result by = subst (λ (m : ℕ). GoesOnBy d (shelved_as told was spots) m old new result) number
      (subst (λ (b : Book). GoesOnBy d (shelved_as told b spots) volume old new result) same by)

  pub goes_next : (wrote : Bool) (more : ℕ) → more ≡ (if wrote then 1 else 0) → GoesOnBy d (shelved_as told now spots) volume old new (Ok wrote)
      → Went d (shelved_as told was spots) (k + 1) (n + more) from new
  goes_next true more is by = subst (λ (m : ℕ). Went d (shelved_as told was spots) (k + 1) (n + m) from new) (sym is) (goes (Ok true) by from n went)
  goes_next false more is by =
      let none : n ≡ n + more = omega (arith, is) in
      subst (λ (m : ℕ). Went d (shelved_as told was spots) (k + 1) m from new) none (goes (Ok false) by from n went)

  pub goes_no_further : (fault : CheckpointFault) → GoesOnBy d (shelved_as told now spots) volume old new (Err fault) → Stopped d (shelved_as told was spots) k fault from new
  goes_no_further fault by = goes (Err fault) by from n went

-- ---- the volumes of which lines told

-- a volume more of which a line told
pub lined_next : (spots : List Spot) (n : ℕ) (spot : Spot) → Contains spots spot → (is : Bool) → (IsTrue is → (is_told_form spot.form ≡ true) × (spot.volume ≡ n))
    → (more : ℕ) → more ≡ (if is then 1 else 0) → AreLinedTo spots n → AreLinedTo spots (n + more)
lined_next spots n spot one true tells more is lined k less = ⊎_elim
    (λ (before : k < n). lined k before)
    (λ (last : n ≤ k). record {
      spot = spot;
      one = one;
      told = (tells refl).0;
      volume_is = let at = (tells refl).1 in omega (arith, at, less, is, last);
    })
    (cases_lt k n)
lined_next spots n spot one false tells more is lined k less = lined k (omega (arith, less, is))

-- ---- how many volumes there are

by_captures : (volumes : List Volume) → ((k : ℕ) (volume : Volume) → slice_get volumes k ≡ Some volume → k + 1 < length volumes → 0 < length volume.captures)
    → length volumes ≤ length (captures_in volumes) + 1
by_captures [] filled = omega arith
by_captures (v ∷ []) filled = omega arith
by_captures (v ∷ w ∷ vs) filled =
    omega (
      arith,
      by_captures (w ∷ vs) (λ k volume at less. filled (suc k) volume at (omega (arith, less))),
      filled 0 v refl (omega arith),
      length-append v.captures (captures_in (w ∷ vs)),
    )

pub few_volumes : {D : Type 0} (journal : Journal D) (book : Book) → IsMeasured journal book → length (captures book) < 2 ^ 32 - 1
    → length book.volumes < 2 ^ 32
few_volumes journal book measured few = omega (arith, few, by_captures book.volumes measured.filled)
