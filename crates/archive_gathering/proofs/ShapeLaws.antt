-- What is gathered of a group, as far as no book is known.
use Rattle.std.proofs.Common.{◌≡◌, ◌≢◌, ℕ, zero, suc, ◌+◌, ◌^◌, ◌<◌, ◌≤◌, false, true, List, [], ◌∷◌, ◌++◌, length, refl, sym, ap, subst, ◌∙◌, ⊎_elim, arith, append-nil, length-append}
use Rattle.std.specs.Prelude.{Contains, Option, Some, None, IfSome, option_to_list, slice_get}
use Rattle.std.specs.Cmp.{nat_cmp_is}
use Rattle.std.specs.List.Sorted.{IsStrictlySortedBy}
use Rattle.std.specs.declared.cmp.Ordering.TheVariants.{Less}
use Rattle.std.proofs.lemmas.List.Elements.{Contains-push_cases}
use Rattle.index_entry.specs.Facts.{Facts}
use Rattle.index_entry.specs.OfBook.{by_number}
use Rattle.archive_shelf.proofs.ComparingLaws.{placed_later}
use Rattle.archive_volumes.specs.Entries.{EntersAs, IsNamedAs}
use Rattle.std.proofs.lemmas.Bool.{cases_lt, false≢true}
use Rattle.std.proofs.lemmas.Option.{same_Some, slice_get_within}
use Rattle.capture.specs.Captures.{captures, kept_wire, taken_back}
use Rattle.capture.specs.WellFormed.{IsRequestOf}
use Rattle.capture.specs.declared.book.Book.{Book}
use Rattle.capture.specs.declared.book.Volume.{Volume}
use Rattle.capture.specs.declared.captured.Kept.{Kept}
use Rattle.capture.specs.declared.captured.Kept.TheVariants.{Wire, Same, Cut}
use Rattle.capture.specs.declared.captured.Stored.{Stored}
use Rattle.capture.specs.declared.captured.Taken.{Taken}
use Rattle.digest32.specs.Base32.{IsDigest}
use Rattle.httparse.specs.Grammar.{ResponseHead, print_blank, print_end, print_request, print_section, print_version}
use Rattle.time_text.specs.Texts.{InRange}
use Rattle.warc_scan.proofs.FoundTexts.{found_writable}
use Rattle.warc_journal.specs.declared.place.Place.{Place}
use Rattle.warc_scan.specs.Groups.{IsAnswer, IsGroup, reference_in}
use Rattle.warc_scan.specs.declared.group.Group.{Group}
use Rattle.warc_scan.specs.declared.group.Revisited.{Revisited}
use Rattle.warc_text.proofs.BookLaws.{get_behind}
use Rattle.warc_text.proofs.LengthLaws.{response_group_length, revisit_group_length}
use Rattle.warc_text.specs.Groups.{answer_block}
use Rattle.warc_text.specs.Records.{group_text}
use Rattle.warc_text.specs.References.{Reference}
use Rattle.archive_shelf.proofs.GainingSoundness.{no_volumes}
use Rattle.archive_shelf.proofs.StoringLaws.{capture_grows, captures_more}
use Rattle.archive_shelf.specs.Comparing.{HasRequest, KeepsWire}
use Rattle.archive_shelf.specs.Storing.{add_to_last, with_capture}
use Rattle.archive_volumes.proofs.GroupPlaces.{in_last_volume}
use Rattle.archive_volumes.proofs.SpotLaws.{form_read, get_before, made_with, spots_with}
use Rattle.archive_volumes.specs.Spots.{AreHeldWhole, AreSpotsOf, HasOwnDigest, IsInVolume, IsSpotOf, MayBeWholeAt, RefersBack, form_of, is_told_form, may_be_whole, spot_of}
use Rattle.archive_volumes.specs.Held.{book_of}
use Rattle.archive_volumes.specs.declared.spot.Form.{Form}
use Rattle.archive_volumes.specs.declared.spot.Form.TheVariants as forms
use Rattle.archive_volumes.specs.declared.spot.Spot.{Spot}
use Rattle.archive_gathering.proofs.PlaceLaws.{first_within}
use Rattle.archive_gathering.proofs.SealedLaws.{sealed_with}
use Rattle.archive_gathering.proofs.TakeLaws.{sorted_push}
use Rattle.archive_gathering.specs.Gathering.{HasAdded, IsSteady}
use Rattle.archive_gathering.specs.Noting.{IsNoted, IsWithin, record_at, referring}
use Rattle.archive_gathering.specs.Shapes.{AreFilledBefore, AreNumbered, AreRequested, HasTakenOne, IsMadeUp, RefersAt, sealed_in}
use Rattle.archive_gathering.specs.declared.gathered.Gathered.{Gathered}
use Rattle.archive_gathering.specs.declared.noting.Noted.{Noted}

-- a group has the target twice
target_twice : (namespace : List ℕ) (number : ℕ) (taken : Taken) (digest : List ℕ) → IsDigest digest → (same : Option Reference)
    → length taken.uri + length taken.uri ≤ length (group_text namespace number taken digest same)
target_twice namespace number taken digest is None = omega (arith, response_group_length namespace number taken digest is)
target_twice namespace number taken digest is (Some reference) = omega (arith, revisit_group_length namespace number taken digest reference is)

-- what is kept of a capture stands in its block
kept_within : (stored : Stored) (digest : List ℕ) (same : Option Revisited) (found : Kept) (first : Option ℕ)
    → IsAnswer stored.method stored.head digest (reference_in same) found → RefersAt same first
    → length stored.head + length (kept_wire (referring (record stored { kept = found }) first).kept)
    ≤ length (answer_block (taken_back (record stored { kept = found })) (reference_in same))
kept_within stored digest None (Wire wire) None is refers = omega (arith, length-append stored.head wire)
kept_within stored digest None (Cut wire) None is refers = omega (arith, length-append stored.head wire)
kept_within stored digest None (Same n) None is refers = absurd (none_is is.1.reference is.1.refers)
  where
    none_is : (r : Reference) → None ≡ Some r → ⊥
    none_is r e = cc
kept_within stored digest None found (Some first) is refers = absurd (refers refl)
kept_within stored digest (Some r) found None is refers = absurd (apart r refers)
  where
    apart : (x : Revisited) → Some x ≡ None → ⊥
    apart x e = cc
kept_within stored digest (Some r) found (Some first) is refers = omega arith

-- its digest is that of its payload, where it keeps one
own_digest : (stored : Stored) (digest : List ℕ) (same : Option Revisited) (found : Kept) (first : Option ℕ)
    → IsAnswer stored.method stored.head digest (reference_in same) found → RefersAt same first
    → HasOwnDigest (referring (record stored { kept = found }) first) (referring (record stored { kept = found }) first).kept digest
own_digest stored digest same (Wire wire) None is refers = (is.1.payload, is.1.has, is.1.digest_is)
own_digest stored digest same (Cut wire) None is refers = (is.1.payload, is.1.has, is.1.digest_is)
own_digest stored digest same (Same n) None is refers = tt
own_digest stored digest same found (Some first) is refers = tt

-- what it refers to keeps its whole wire
keeps_at : (book : Book) (spots : List Spot) → AreSpotsOf book spots → AreHeldWhole book spots → (number : ℕ) → MayBeWholeAt spots number → KeepsWire book number
keeps_at book spots are made number whole =
    let of = are.each number whole.spot whole.placed in
    by whole.spot.form of.stored.kept whole.whole of.form (λ told. made.each number whole.spot whole.placed told) of.stored of.placed refl
  where
    by : (form : Form) (kept : Kept) → may_be_whole form ≡ true → (is_told_form form ≡ false → form ≡ form_of kept) → (form ≡ forms.Told false → KeepsWire book number)
        → (stored : Stored) → slice_get (captures book) number ≡ Some stored → kept ≡ stored.kept → KeepsWire book number
    by (forms.Told true) kept is same held stored placed kept_is = absurd (false≢true is)
    by (forms.Told false) kept is same held stored placed kept_is = held refl
    by (forms.Same first) kept is same held stored placed kept_is = absurd (false≢true is)
    by forms.Cut kept is same held stored placed kept_is = absurd (false≢true is)
    by forms.Whole (Wire wire) is same held stored placed kept_is = record { stored = stored; wire = wire; placed = placed; kept = sym kept_is }
    by forms.Whole (Same first) is same held stored placed kept_is = absurd (apart first (same refl))
      where
        apart : (n : ℕ) → forms.Whole ≡ forms.Same n → ⊥
        apart n e = cc
    by forms.Whole (Cut wire) is same held stored placed kept_is = absurd (apart (same refl))
      where
        apart : forms.Whole ≡ forms.Cut → ⊥
        apart e = cc

pub same_length : (volumes : List Volume) (stored : Stored) → length (add_to_last volumes stored) ≡ length volumes
same_length [] stored = refl
same_length (v ∷ []) stored = refl
same_length (v ∷ w ∷ others) stored = ap suc (same_length (w ∷ others) stored)

-- the volumes but the last stay
pub sealed_at : (volumes : List Volume) (stored : Stored) (k : ℕ) (volume : Volume) → slice_get (add_to_last volumes stored) k ≡ Some volume
    → k + 1 < length (add_to_last volumes stored) → slice_get volumes k ≡ Some volume
sealed_at [] stored k volume at less = at
sealed_at (v ∷ []) stored k volume at less = absurd (omega (arith, less))
sealed_at (v ∷ w ∷ others) stored zero volume at less = at
sealed_at (v ∷ w ∷ others) stored (suc k) volume at less = sealed_at (w ∷ others) stored k volume at (omega (arith, less))

-- and the last one holds a capture
pub last_some : (volumes : List Volume) (stored : Stored) → 0 < length volumes → (k : ℕ) (volume : Volume) → k + 1 ≡ length (add_to_last volumes stored)
    → slice_get (add_to_last volumes stored) k ≡ Some volume → volume.captures ≢ []
last_some [] stored some k volume last at none = omega (arith, some)
last_some (v ∷ []) stored some zero volume last at none =
    let same : record { born = v.born; captures = v.captures ++ stored ∷ [] } ≡ volume = same_Some _ volume at in
    omega (arith, length-append v.captures (stored ∷ []), ap (λ (x : Volume). length x.captures) same, ap length none)
last_some (v ∷ []) stored some (suc k) volume last at none = omega (arith, last)
last_some (v ∷ w ∷ others) stored some zero volume last at none = omega (arith, last, same_length (w ∷ others) stored)
last_some (v ∷ w ∷ others) stored some (suc k) volume last at none = last_some (w ∷ others) stored (omega arith) k volume (omega (arith, last)) at none

-- a capture's entry has its number, its target, its date and its digest
pub record IsEntryFor (number : ℕ) (spot : Spot) (entry : Facts) : Type 0 where
  pub number_is : entry.number ≡ number
  pub named : IsNamedAs spot entry

-- with a capture more, and its entry, if there is one
module _ (was is : Gathered) (spot : Spot) (steady : IsSteady was) (are : AreNumbered was) (spots : is.spots.items ≡ was.spots.items ++ spot ∷ [])
    (counted : length (captures (book_of is.held)) ≡ length (captures (book_of was.held)) + 1) where
  abbrev next : ℕ
  next = length (captures (book_of was.held))

  named_before : (e : Facts) → Contains was.entries.items e → (s : Spot) → slice_get is.spots.items e.number ≡ Some s → IsNamedAs s e
  named_before e has s at =
      are.named e has s
      (sym (get_before was.spots.items spot e.number (omega (arith, are.below e has, steady.count)))
      ∙ sym (ap (λ (l : List Spot). slice_get l e.number) spots) ∙ at)

  named_here : (e : Facts) → IsEntryFor next spot e → (s : Spot) → slice_get is.spots.items e.number ≡ Some s → IsNamedAs s e
  named_here e for s at =
      let same : spot ≡ s = same_Some spot s
      (sym (get_behind (was.spots.items ++ spot ∷ []) was.spots.items spot [] e.number refl (omega (arith, for.number_is, steady.count)))
      ∙ sym (ap (λ (l : List Spot). slice_get l e.number) spots) ∙ at) in
      subst (λ (x : Spot). IsNamedAs x e) same for.named

  pub numbered_with : (entry : Option Facts) → is.entries.items ≡ was.entries.items ++ option_to_list entry → IfSome entry (IsEntryFor next spot) → AreNumbered is
  numbered_with None more for =
      let same : is.entries.items ≡ was.entries.items = more ∙ append-nil was.entries.items in
      record {
        in_order = subst (IsStrictlySortedBy by_number) (sym same) are.in_order;
        below = λ e has. omega (arith, are.below e (subst (λ (l : List Facts). Contains l e) same has), counted);
        named = λ e has. named_before e (subst (λ (l : List Facts). Contains l e) same has);
      }
  numbered_with (Some entry) more for = record {
    in_order = subst (IsStrictlySortedBy by_number) (sym more) (sorted_push was.entries.items entry are.in_order (λ e has.
        sym (nat_cmp_is e.number entry.number Less (omega (arith, are.below e has, for.number_is)))));
    below = λ e has. ⊎_elim (λ (c : Contains was.entries.items e). omega (arith, are.below e c, counted))
        (λ (same : entry ≡ e). omega (arith, ap (λ (f : Facts). f.number) same, for.number_is, counted))
        (Contains-push_cases was.entries.items entry e (subst (λ (l : List Facts). Contains l e) more has));
    named = λ e has. ⊎_elim (λ (c : Contains was.entries.items e). named_before e c)
        (λ (same : entry ≡ e). named_here e (subst (λ (x : Facts). IsEntryFor next spot x) same for))
        (Contains-push_cases was.entries.items entry e (subst (λ (l : List Facts). Contains l e) more has));
  }

-- ---- requests

-- a text in which a byte stands isn't empty
not_empty : (a b c d e rest : List ℕ) (x : ℕ) → [] ≡ a ++ x ∷ b ++ c ++ d ++ e ++ rest → ⊥
not_empty [] b c d e rest x none = omega (arith, ap length none)
not_empty (y ∷ a) b c d e rest x none = omega (arith, ap length none)

some_request : (method text : List ℕ) → IsRequestOf method text → text ≢ []
unfolding print_request
some_request method text is empty =
    let h = is.head in
    not_empty (print_blank h.blank ++ h.method) h.target (32 ∷ print_version h.minor) (print_end h.line_end) (print_section h.fields h.last) is.wire 32
    (sym empty ∙ is.whole.head.reads.1)

-- with a capture more
module _ (was is : Gathered) (stored : Stored) (spot : Spot) (steady : IsSteady was) (are : AreRequested was)
    (gains : captures (book_of is.held) ≡ captures (book_of was.held) ++ stored ∷ []) (spots : is.spots.items ≡ was.spots.items ++ spot ∷ []) where
  abbrev number : ℕ
  number = length (captures (book_of was.held))

  placed_here : slice_get (captures (book_of is.held)) number ≡ Some stored
  placed_here = ap (λ (l : List Stored). slice_get l number) gains
      ∙ get_behind (captures (book_of was.held) ++ stored ∷ []) (captures (book_of was.held)) stored [] number refl refl

  request_stays : (k : ℕ) → HasRequest (book_of was.held) k → HasRequest (book_of is.held) k
  request_stays k has = (has.0, placed_later (book_of was.held) (book_of is.held) (stored ∷ []) gains k has.0 has.1, has.2)

  pub requested_with : (is_told_form spot.form ≡ false → stored.request ≢ []) → AreRequested is
  requested_with some = record {
    each = λ k s at read.
        let here : slice_get (was.spots.items ++ spot ∷ []) k ≡ Some s = sym (ap (λ (l : List Spot). slice_get l k) spots) ∙ at in
        ⊎_elim
        (λ (before : k < length was.spots.items). request_stays k (are.each k s (sym (get_before was.spots.items spot k before) ∙ here) read))
        (λ (behind : length was.spots.items ≤ k).
        let last : length was.spots.items ≡ k =
        omega (arith, behind, slice_get_within (was.spots.items ++ spot ∷ []) k s here, length-append was.spots.items (spot ∷ [])) in
        let same : spot ≡ s = same_Some spot s (sym (get_behind (was.spots.items ++ spot ∷ []) was.spots.items spot [] k refl last) ∙ here) in (
          stored,
          subst (λ (n : ℕ). slice_get (captures (book_of is.held)) n ≡ Some stored) (sym steady.count ∙ last) placed_here,
          some (subst (λ (x : Spot). is_told_form x.form ≡ false) (sym same) read),
        ))
        (cases_lt k (length was.spots.items));
  }

module _ (was is : Gathered) (place : Place) (group : Group) (namespace : List ℕ) (number : ℕ) (text : List ℕ) (found : IsGroup namespace number text group)
    (first : Option ℕ) (refers : RefersAt group.same first) (head : ResponseHead) (noted : Noted) (n : IsNoted head place group first noted)
    (within : IsWithin (length was.spots.items) place group) (steady : IsSteady was) (len : place.len ≡ group.len) (some : 0 < length (book_of was.held).volumes)
    (number_is : group.number ≡ length (captures (book_of was.held))) (added : HasAdded was is noted) where
  abbrev book : Book
  book = book_of was.held

  abbrev stored : Stored
  stored = referring group.stored first

  abbrev new : Book
  new = with_capture book stored

  abbrev spot : Spot
  spot = spot_of stored group.digest place.volume place.at (place.at + group.head_at)

  gains : captures new ≡ captures book ++ stored ∷ []
  gains = captures_more book.volumes stored (no_volumes book.volumes some)

  book_is : book_of is.held ≡ new
  book_is = added.book ∙ ap (with_capture book) n.stored

  spots_are : is.spots.items ≡ was.spots.items ++ spot ∷ []
  spots_are = added.spots
      ∙ (λ i. was.spots.items ++ spot_of (n.stored i) (n.digest i) (n.volume i) (n.at i) (n.head_at i) ∷ [])

  head_same : (o : Option ℕ) → (referring group.stored o).head ≡ group.stored.head
  head_same None = refl
  head_same (Some f) = refl

  uri_same : (o : Option ℕ) → (referring group.stored o).uri ≡ group.stored.uri
  uri_same None = refl
  uri_same (Some f) = refl

  request_same : (o : Option ℕ) → (referring group.stored o).request ≡ group.stored.request
  request_same None = refl
  request_same (Some f) = refl

  date_same : (o : Option ℕ) → (referring group.stored o).date ≡ group.stored.date
  date_same None = refl
  date_same (Some f) = refl

  ends : spot.head_at + spot.head_len + spot.wire_len ≤ place.at + place.len
  ends =
      let own = kept_within group.stored group.digest group.same group.stored.kept first found.answer refers in
      omega (arith, own, found.places.head, found.places.first_len, first_within namespace number text group found, len, ap length (head_same first))

  short : length stored.uri < 2 ^ 61
  short = omega (
    arith,
    ap length (uri_same first),
    target_twice namespace number (taken_back group.stored) group.digest (found_writable namespace number text group found).payload_digest (reference_in group.same),
    ap length found.composed,
    found.places.len,
    len,
    within.ends,
  )

  module _ (last : place.volume + 1 ≡ length book.volumes) (first_whole : IfSome first (MayBeWholeAt was.spots.items)) (made : IsMadeUp was) where
    placed : slice_get (captures new) (length (captures book)) ≡ Some stored
    placed = ap (λ (l : List Stored). slice_get l (length (captures book))) gains
        ∙ get_behind (captures book ++ stored ∷ []) (captures book) stored [] (length (captures book)) refl refl

    refers_back : (o : Option ℕ) → IfSome o (MayBeWholeAt was.spots.items) → (kept : Kept) → IsAnswer group.stored.method group.stored.head group.digest (reference_in group.same) kept
        → RefersAt group.same o → RefersBack new (length (captures book)) (form_of (referring (record group.stored { kept = kept }) o).kept)
    refers_back None whole (Wire wire) answer r = tt
    refers_back None whole (Cut wire) answer r = tt
    refers_back None whole (Same k) answer r = absurd (none_is answer.1.reference (sym (ap reference_in r) ∙ answer.1.refers))
      where
        none_is : (x : Reference) → None ≡ Some x → ⊥
        none_is x e = cc
    refers_back (Some f) whole kept answer r =
        let keeps = keeps_at book was.spots.items made.spots made.made f whole in (
          omega (arith, slice_get_within (captures book) f keeps.stored keeps.placed),
          record { stored = keeps.stored; wire = keeps.wire; placed = later f keeps.stored keeps.placed; kept = keeps.kept },
        )
      where
        later : (k : ℕ) (s : Stored) → slice_get (captures book) k ≡ Some s → slice_get (captures new) k ≡ Some s
        later k s at = placed_later book new (stored ∷ []) gains k s at

    spot_is : IsSpotOf new (length (captures book)) spot
    spot_is = record {
      stored = stored;
      placed = placed;
      method = refl;
      uri = refl;
      date = refl;
      form = λ read. refl;
      revisit = refl;
      digest = λ read. own_digest group.stored group.digest group.same group.stored.kept first found.answer refers;
      line = λ told request. absurd (false≢true (sym (form_read stored.kept) ∙ told));
      refers = refers_back first first_whole group.stored.kept found.answer refers;
      inside = subst (IsInVolume new (length (captures book))) (omega (arith, last)) (in_last_volume book stored some);
      in_range = subst InRange (sym (date_same first)) found.date;
      short = short;
      ends = omega (arith, ends, within.ends);
    }

    pub made_on : IsMadeUp is
    made_on = record {
      spots = subst (λ (b : Book). AreSpotsOf b is.spots.items) (sym book_is)
          (subst (AreSpotsOf new) (sym spots_are)
          (spots_with book new stored gains (capture_grows book stored) was.spots.items spot made.spots spot_is));
      made = subst (λ (b : Book). AreHeldWhole b is.spots.items) (sym book_is)
          (subst (AreHeldWhole new) (sym spots_are)
          (made_with book new (stored ∷ []) gains (capture_grows book stored) was.spots.items spot made.made (form_read stored.kept)));
    }

  pub taken_one : IfSome first (MayBeWholeAt was.spots.items) → HasTakenOne was is place
  taken_one whole = record {
    captures_are = ap (λ (b : Book). length (captures b)) book_is ∙ ap length gains ∙ length-append (captures book) (stored ∷ []);
    volumes = ap (λ (b : Book). length b.volumes) book_is ∙ same_length book.volumes stored;
    sealed = ap (λ (b : Book). sealed_in b.volumes) book_is ∙ sealed_with book.volumes stored;
    namespace = ap (λ (b : Book). b.namespace) book_is;
    filled = λ filled. subst AreFilledBefore (sym book_is) (λ k volume at less.
        filled k volume (sealed_at book.volumes stored k volume at less) (omega (arith, less, same_length book.volumes stored)));
    last = λ k volume at placed none.
        last_some book.volumes stored some k volume (at ∙ ap (λ (b : Book). length b.volumes) book_is)
        (sym (ap (λ (b : Book). slice_get b.volumes k) book_is) ∙ placed) none;
    spot = spot;
    spots = spots_are;
    read = form_read stored.kept;
    volume_is = refl;
    at_is = refl;
    within = ends;
    ends = within.ends;
    numbered = λ numbered.
        numbered_with was is spot steady numbered spots_are
        (ap (λ (b : Book). length (captures b)) book_is ∙ ap length gains ∙ length-append (captures book) (stored ∷ [])) noted.entry added.entries
        (entry_for noted.entry n.entry);
    requested = λ are.
        requested_with was is stored spot steady are (ap (λ (b : Book). captures b) book_is ∙ gains) spots_are
        (λ read empty. some_request group.stored.method group.stored.request found.request (sym (request_same first) ∙ empty));
    made = λ last made. made_on last whole made;
  }
    where
      entry_for : (entry : Option Facts) → EntersAs noted.stored head (record_at place group) entry → IfSome entry (IsEntryFor (length (captures book)) spot)
      entry_for None enters = tt
      entry_for (Some e) enters = record {
        number_is = enters.number ∙ number_is;
        named = record {
          uri = enters.uri ∙ ap (λ (s : Stored). s.uri) n.stored;
          date = enters.date ∙ ap (λ (s : Stored). s.date) n.stored;
          digest = enters.digest;
        };
      }
