-- What was gathered, with a capture more.
use Rattle.std.proofs.Common.{◌≡◌, ◌≢◌, ℕ, ◌^◌, ◌<◌, ◌≤◌, false, List, [], ◌∷◌, ◌++◌, length, refl, sym, ap, subst, ◌∙◌, ⊎_elim, arith, length-append}
use Rattle.std.specs.Prelude.{Contains, Option, Some, None, slice_get}
use Rattle.std.specs.Cmp.{nat_cmp_is}
use Rattle.std.specs.List.{AllByRecursion}
use Rattle.std.specs.List.Sorted.{IsStrictlySortedBy}
use Rattle.std.specs.declared.cmp.Ordering.TheVariants.{Less}
use Rattle.std.proofs.lemmas.Bool.{cases_lt}
use Rattle.std.proofs.lemmas.List.Elements.{Contains-append_left, Contains-append_right, Contains-push, Contains-push_cases}
use Rattle.std.proofs.lemmas.List.{get_or_append_left, get_or_push}
use Rattle.std.proofs.lemmas.Option.{same_Some, slice_get_within}
use Rattle.capture.specs.Captures.{HasPayload, captures}
use Rattle.capture.specs.declared.book.Book.{Book}
use Rattle.capture.specs.declared.captured.Kept.{Kept}
use Rattle.capture.specs.declared.captured.Kept.TheVariants.{Wire, Same, Cut}
use Rattle.capture.specs.declared.captured.Stored.{Stored}
use Rattle.capture.specs.Growth.{Grows}
use Rattle.capture.specs.GrowthLaws.{GrowthKeepsCaptures}
use Rattle.index_entry.specs.Facts.{Facts}
use Rattle.index_entry.specs.OfBook.{AreEntries, IsEntryOf, IsFoundByDate, by_number}
use Rattle.index_entry.specs.Order.{with_entry}
use Rattle.warc_scan.specs.Groups.{IsAnswer, IsGroup, reference_in}
use Rattle.warc_scan.specs.declared.group.Group.{Group}
use Rattle.warc_scan.specs.declared.group.Revisited.{Revisited}
use Rattle.warc_text.proofs.BookLaws.{get_behind}
use Rattle.warc_text.specs.References.{Reference}
use Rattle.archive_shelf.proofs.ComparingLaws.{placed_before}
use Rattle.archive_shelf.proofs.EntryLaws.{contains_entry, entries_gain_one, entry_contained, others_contained}
use Rattle.archive_gathering.specs.Gathering.{AreLengths, GroupWasRead}
use Rattle.archive_volumes.proofs.SpotLaws.{get_before}
use Rattle.archive_volumes.specs.declared.spot.Spot.{Spot}
use Rattle.archive_gathering.specs.Measuring.{IsLengthOf}
use Rattle.archive_gathering.specs.Noting.{referring}
use Rattle.archive_gathering.specs.Revisits.{IsCaptureOf, IsKeptAs, IsOriginalOf, RefersRight}

-- ---- the capture of a group

none_by : (same : Option Revisited) → reference_in same ≡ None → same ≡ None
none_by None e = refl
none_by (Some r) e = cc

keeps_own : (book : Book) (number : ℕ) (group : Group) (found : Kept) → IsAnswer group.stored.method group.stored.head group.digest (reference_in group.same) found
    → group.same ≡ None → IsKeptAs book number group found found
keeps_own book number group (Wire wire) answer none = refl
keeps_own book number group (Cut wire) answer none = refl
keeps_own book number group (Same unknown) answer none = absurd (apart answer.1.reference (sym (ap reference_in none) ∙ answer.1.refers))
  where
    apart : (r : Reference) → None ≡ Some r → ⊥
    apart r e = cc

keeps_other : (book : Book) (number : ℕ) (group : Group) (first : ℕ) (found : Kept) → IsAnswer group.stored.method group.stored.head group.digest (reference_in group.same) found
    → group.same ≢ None → IsOriginalOf book number group first → IsKeptAs book number group found (Same first)
keeps_other book number group first (Wire wire) answer some of = absurd (some (none_by group.same answer.0))
keeps_other book number group first (Cut wire) answer some of = absurd (some (none_by group.same answer.0))
keeps_other book number group first (Same unknown) answer some of = (first, refl, of)

pub captured : (book : Book) (group : Group) (text : List ℕ) → IsGroup book.namespace (length (captures book)) text group → (first : Option ℕ)
    → RefersRight book group first → IsCaptureOf book (length (captures book)) group (referring group.stored first)
captured book group text is None right = record {
  kept = keeps_own book (length (captures book)) group group.stored.kept is.answer right;
  others = refl;
}
captured book group text is (Some first) right = record {
  kept = keeps_other book (length (captures book)) group first group.stored.kept is.answer right.0 right.1;
  others = refl;
}

-- ---- lengths

pub lengths_with : (old new : Book) (stored : Stored) (spots : List Spot) (last : Spot) (lengths : List ℕ) (len : ℕ) → captures new ≡ captures old ++ stored ∷ []
    → length lengths ≡ length (captures old) → length spots ≡ length (captures old) → AreLengths old spots lengths
    → (GroupWasRead last → (wire : List ℕ) → stored.kept ≡ Wire wire → IsLengthOf stored.method stored.head wire len) → len < 2 ^ 64
    → AreLengths new (spots ++ last ∷ []) (lengths ++ len ∷ [])
lengths_with old new stored spots last lengths len gains count spots_count are is fits = record {
  small = λ number less. ⊎_elim
      (λ (before : number < length lengths).
      let same = get_or_append_left lengths (len ∷ []) 0 number before in omega (arith, same, are.small number before))
      (λ (behind : length lengths ≤ number).
      let at : length lengths ≡ number = omega (arith, behind, less, length-append lengths (len ∷ [])) in
      let same = get_or_push lengths len 0 number at in omega (arith, same, fits))
      (cases_lt number (length lengths));
  each = λ number s wire payload keeps spot at read. ⊎_elim
      (λ (before : number < length (captures old)).
      let was : slice_get (captures old) number ≡ Some s = placed_before old new (stored ∷ []) gains number s before keeps.placed in
      get_or_append_left lengths (len ∷ []) 0 number (omega (arith, before, count))
      ∙ are.each number s wire payload (record { placed = was; kept = keeps.kept; has = keeps.has }) spot
      (sym (get_before spots last number (omega (arith, before, spots_count))) ∙ at) read)
      (λ (behind : length (captures old) ≤ number).
      let within : number < length (captures new) = slice_get_within (captures new) number s keeps.placed in
      let here : length (captures old) ≡ number = omega (arith, behind, within, ap length gains, length-append (captures old) (stored ∷ [])) in
      let last_is : last ≡ spot = same_Some last spot (sym (get_behind (spots ++ last ∷ []) spots last [] number refl (omega (arith, here, spots_count))) ∙ at) in
      let same : stored ≡ s = same_Some stored s (sym (get_behind (captures old ++ stored ∷ []) (captures old) stored [] number refl here)
      ∙ sym (ap (λ (l : List Stored). slice_get l number) gains) ∙ keeps.placed) in
      let kept : stored.kept ≡ Wire wire = ap (λ (x : Stored). x.kept) same ∙ keeps.kept in
      get_or_push lengths len 0 number (omega (arith, here, count))
      ∙ is (subst GroupWasRead (sym last_is) read) wire kept payload (subst (λ (x : Stored). HasPayload false x.method x.head wire payload) (sym same) keeps.has))
      (cases_lt number (length (captures old)));
}

-- ---- entries

all_push : (P : Facts → Type 0) (entries : List Facts) (entry : Facts) → AllByRecursion P entries → P entry → AllByRecursion P (entries ++ entry ∷ [])
all_push P [] entry all is = (is, tt)
all_push P (e ∷ es) entry all is = (all.0, all_push P es entry all.1 is)

pub sorted_push : (entries : List Facts) (entry : Facts) → IsStrictlySortedBy by_number entries → ((e : Facts) → Contains entries e → by_number e entry ≡ Less)
    → IsStrictlySortedBy by_number (entries ++ entry ∷ [])
unfolding IsStrictlySortedBy
sorted_push [] entry sorted below = (tt, tt)
sorted_push (e ∷ es) entry sorted below = (
  all_push (λ y. by_number e y ≡ Less) es entry sorted.0 (below e (Contains-append_left (e ∷ []) es e (Contains-push [] e))),
  sorted_push es entry sorted.1 (λ f has. below f (Contains-append_right (e ∷ []) es f has)),
)

pub entries_push : GrowthKeepsCaptures → (old new : Book) (stored : Stored) (entries : List Facts) (entry : Facts) → Grows old new
    → captures new ≡ captures old ++ stored ∷ [] → AreEntries old entries → IsFoundByDate stored → entry.number ≡ length (captures old)
    → IsEntryOf new (length (captures old)) entry → AreEntries new (entries ++ entry ∷ [])
entries_push keeps old new stored entries entry grow gains are found number of =
    let one = entries_gain_one keeps old new stored entries entry grow gains are.of_book found number of in
    let from : (e : Facts) → Contains (entries ++ entry ∷ []) e → Contains (with_entry entry entries) e =
    (λ e has. ⊎_elim (λ c. others_contained entry entries e c) (λ same. subst (Contains (with_entry entry entries)) same (entry_contained entry entries))
    (Contains-push_cases entries entry e has)) in
    let to : (e : Facts) → Contains (with_entry entry entries) e → Contains (entries ++ entry ∷ []) e =
    (λ e has. ⊎_elim (λ same. subst (Contains (entries ++ entry ∷ [])) same (Contains-push entries entry)) (λ c. Contains-append_left entries (entry ∷ []) e c)
    (contains_entry entry entries e has)) in
    record {
      in_order = sorted_push entries entry are.in_order (λ e has.
          let of_old = are.of_book.each e has in
          let below : e.number < length (captures old) = slice_get_within (captures old) e.number of_old.group.stored of_old.group.placed in
          sym (nat_cmp_is e.number entry.number Less (omega (arith, below, number))));
      of_book = record {
        each = λ e has. one.each e (from e has);
        found = λ e s has at. one.found e s (from e has) at;
        all = λ n s at by_date. let e = one.all n s at by_date in (e.0, to e.0 e.1, e.2);
      };
    }
