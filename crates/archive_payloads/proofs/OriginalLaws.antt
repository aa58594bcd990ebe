-- What a revisit refers to of which a line alone told is found by the id of its record.
use Rattle.std.proofs.Common.{◌≡◌, ◌≢◌, ℕ, suc, ◌+◌, ◌-◌, ◌<◌, ◌≤◌, Bool, true, List, length, get_or, Option, Some, None, sym, ap, subst, ◌∙◌, ⊎_elim, arith}
use Rattle.std.specs.Prelude.{slice_get}
use Rattle.std.specs.List.Sorted.{IsStrictlyIncreasing}
use Rattle.std.proofs.lemmas.Bool.{cases_lt, false≢true}
use Rattle.std.proofs.lemmas.Option.{same_Some, slice_get_within}
use Rattle.sha1.specs.Sha1.{sha1}
use Rattle.capture.proofs.PayloadLaws.{captures_have_one}
use Rattle.capture.specs.Captures.{captures, IsPayloadBy, IsPayloadOf, KeepsPayload}
use Rattle.capture.specs.declared.book.Book.{Book}
use Rattle.capture.specs.declared.captured.Kept.{Kept}
use Rattle.capture.specs.declared.captured.Kept.TheVariants.{Same}
use Rattle.capture.specs.declared.captured.Stored.{Stored}
use Rattle.revisit_table.specs.Table.{numbers_of}
use Rattle.warc_scan.specs.declared.group.Revisited.{Revisited}
use Rattle.warc_text.specs.Ids.{id_of}
use Rattle.warc_text.specs.declared.id.IdKind.TheVariants.{Response}
use Rattle.archive_shelf.specs.Answers.{IsBrought}
use Rattle.archive_shelf.specs.Comparing.{KeepsWire}
use Rattle.archive_payloads.proofs.ChooseLaws.{Stands, may_be, rises, there_is, whole_number}
use Rattle.archive_reading.specs.Bringing.{brought_of}
use Rattle.archive_reading.specs.Rereading.{HasItsPayload, IsFirstTold, IsOwnOf, IsRereadOf, IsSameOf, TellsOf, id_of_response, revisit_by}
use Rattle.archive_volumes.specs.Spots.{ArePlaced, AreSpotsOf, IsFoundById, IsPlaced, IsSpotOf, form_of, is_same_form, is_told_form, whole_from}
use Rattle.archive_reading.specs.declared.reread.Reread.{Reread}
use Rattle.archive_reading.specs.declared.reread.Reread.TheVariants as reread
use Rattle.archive_volumes.specs.declared.spot.Form.TheVariants as forms
use Rattle.archive_volumes.specs.declared.spot.Spot.{Spot}

-- ---- one candidate after another

module _ (book : Book) (same : Revisited) (candidates : List ℕ) (first : ℕ) (is : IsFirstTold book same candidates first) (k : ℕ) (so_far : k ≤ is.place)
    (found : Option (List ℕ))
    (right : KeepsWire book (get_or candidates k 0) → TellsOf book (get_or candidates k 0) same → HasItsPayload book (get_or candidates k 0) found) where
  at_place : is.place ≤ k → HasItsPayload book first found
  at_place le =
      let here : get_or candidates k 0 ≡ first = ap (λ (i : ℕ). get_or candidates i 0) (both k is.place so_far le) ∙ sym is.is in
      subst (λ (n : ℕ). HasItsPayload book n found) here
      (right (subst (KeepsWire book) (sym here) is.keeps) (subst (λ (n : ℕ). TellsOf book n same) (sym here) is.tells))
    where
      both : (a b : ℕ) → a ≤ b → b ≤ a → a ≡ b
      both a b x y = omega (arith, x, y)

  -- nothing was found at this one: it stands further on
  pub not_here : found ≡ None → k + 1 ≤ is.place
  not_here none = ⊎_elim
      (λ (less : k < is.place). omega (arith, less))
      (λ (le : is.place ≤ k). absurd (subst (λ (f : Option (List ℕ)). HasItsPayload book first f) none (at_place le)))
      (cases_lt k is.place)

  -- what is found where the id is met is its payload
  pub found_here : id_of_response book.namespace (get_or candidates k 0) ≡ same.id → HasItsPayload book first found
  found_here met = ⊎_elim
      (λ (less : k < is.place). absurd (is.before k less met))
      (λ (le : is.place ≤ k). at_place le)
      (cases_lt k is.place)

-- ---- the one that is referred to is a candidate

from_none : (n : ℕ) → 0 + n ≡ n
from_none n = omega arith

module _ (book : Book) (spots : List Spot) (are : AreSpotsOf book spots) (texts : List (List ℕ)) (placed : ArePlaced texts book spots) (number : ℕ)
    (spot : Spot) (here : slice_get spots number ≡ Some spot) (form : spot.form ≡ forms.Told true) where
  its : IsSpotOf book number spot
  its = are.each number spot here

  place : IsPlaced texts book number spot
  place = placed.each number spot here

  -- it is a revisit
  no_own : (head payload : List ℕ) (cut : Bool) → IsOwnOf book number head payload cut → ⊥
  no_own head payload cut own =
      let stored : its.stored ≡ own.are.has.stored = same_Some its.stored own.are.has.stored (sym its.placed ∙ own.are.has.placed) in
      false≢true (sym own.own ∙ ap is_same_form (ap (λ (s : Stored). form_of s.kept) (sym stored)) ∙ sym its.revisit ∙ ap is_same_form form)

  -- and one is read of it
  pub revisit_told : (read : Reread) → revisit_by read ≡ None → IsRereadOf book number read → ⊥
  revisit_told (reread.Own head payload cut) none is = no_own head payload cut is
  revisit_told (reread.Same head same) none is = cc
  revisit_told (reread.Damaged found) none is = is

  module _ (head : List ℕ) (same : Revisited) (is : IsSameOf book number head same) where
    stored_is : place.has.stored ≡ is.stored
    stored_is = same_Some place.has.stored is.stored (sym place.has.placed ∙ is.placed)

    kept_is : place.has.stored.kept ≡ Same is.first
    kept_is = ap (λ (s : Stored). s.kept) stored_is ∙ is.kept

    by_first : IsPayloadBy book place.has.stored (Same is.first) place.payload
    by_first = subst (λ (k : Kept). IsPayloadBy book place.has.stored k place.payload) kept_is place.has.by_kept

    keeps_it : KeepsPayload book is.first by_first.0 by_first.1 place.payload
    keeps_it = by_first.2

    keeps : KeepsWire book is.first
    keeps = record { stored = by_first.0; wire = by_first.1; placed = keeps_it.placed; kept = keeps_it.kept }

    first_has : IsPayloadOf book is.first place.payload
    first_has = record {
      stored = by_first.0;
      placed = keeps_it.placed;
      by_kept = subst (λ (k : Kept). IsPayloadBy book by_first.0 k place.payload) (sym keeps_it.kept) keeps_it.has;
    }

    first_id : (other : ℕ) → other < is.first → id_of book.namespace Response other ≢ id_of book.namespace Response is.first
    first_id = subst (IsFoundById book.namespace) kept_is (place.found (ap is_told_form form))

    stands : (candidates : List ℕ) → candidates ≡ numbers_of spot.digest (whole_from 0 spots) → Stands candidates is.first
    stands candidates all =
        let less : is.first < length spots = omega (arith, are.count, slice_get_within (captures book) is.first by_first.0 keeps_it.placed) in
        let keeper : Spot = (there_is spots is.first less).0 in
        let at : slice_get spots is.first ≡ Some keeper = (there_is spots is.first less).1 in
        let kept : IsSpotOf book is.first keeper = are.each is.first keeper at in
        let there : IsPlaced texts book is.first keeper = placed.each is.first keeper at in
        let whole = may_be keeper.form kept.stored.kept kept.form kept.revisit by_first.1
        (ap (λ (s : Stored). s.kept) (same_Some kept.stored by_first.0 (sym kept.placed ∙ keeps_it.placed)) ∙ keeps_it.kept) in
        let digest : keeper.digest ≡ spot.digest =
        there.digest ∙ ap sha1 (captures_have_one book is.first there.payload place.payload there.has first_has) ∙ sym place.digest in
        subst (λ (l : List ℕ). Stands l is.first) (sym all)
        (subst (Stands (numbers_of spot.digest (whole_from 0 spots))) (from_none is.first) (whole_number spot.digest 0 spots is.first keeper at whole digest))

    pub first_told : (candidates : List ℕ) → candidates ≡ numbers_of spot.digest (whole_from 0 spots) → IsStrictlyIncreasing candidates
        → IsFirstTold book same candidates is.first
    first_told candidates all rising =
        let s : Stands candidates is.first = stands candidates all in
        record {
          place = s.place;
          within = s.within;
          is = s.is;
          keeps = keeps;
          tells = is.tells;
          before = λ k less met.
              let there : k + suc (s.place - suc k) ≡ s.place = omega (arith, less) in
              let below : get_or candidates k 0 < get_or candidates (k + suc (s.place - suc k)) 0 =
              rises candidates rising (s.place - suc k) k (omega (arith, there, s.within)) in
              first_id (get_or candidates k 0) (omega (arith, below, ap (λ (i : ℕ). get_or candidates i 0) there, s.is)) (met ∙ is.tells.id_is);
        }

    -- it is brought with the payload of that one
    pub told_brought : (payload : List ℕ) → IsPayloadOf book is.first payload → IsBrought book number (brought_of spot head payload)
    told_brought payload has =
        let one : place.payload ≡ payload = captures_have_one book is.first place.payload payload first_has has in
        let stored : its.stored ≡ is.stored = same_Some its.stored is.stored (sym its.placed ∙ is.placed) in
        record {
          has = record {
            stored = is.stored;
            placed = is.placed;
            by_kept = subst (λ (s : Stored). IsPayloadBy book s s.kept payload) stored_is
                (subst (λ (p : List ℕ). IsPayloadBy book place.has.stored place.has.stored.kept p) one place.has.by_kept);
          };
          method = its.method ∙ ap (λ (s : Stored). s.method) stored;
          uri = its.uri ∙ ap (λ (s : Stored). s.uri) stored;
          date = its.date ∙ ap (λ (s : Stored). s.date) stored;
          head = is.head_is;
        }
