-- The entries of a book that gained a capture.
use Rattle.std.proofs.Common.{◌≡◌, ◌⊎◌, ℕ, zero, suc, ◌+◌, ◌<◌, ◌≤◌, Bool, true, false, List, [], ◌∷◌, ◌++◌, length, take, refl, sym, ap, ap₂, subst, ◌∙◌, inl, inr, ⊎_elim, arith, append-nil, length-append}
use Rattle.std.specs.Prelude.{Contains, Option, Some, None, slice_get, slice_index_or}
use Rattle.std.proofs.lemmas.Bool.{cases_lt}
use Rattle.std.proofs.lemmas.Option.{same_Some, slice_get_within}
use Rattle.sha1.specs.Sha1.{sha1}
use Rattle.capture.specs.Captures.{captures, captures_in, first_number, taken_back}
use Rattle.capture.specs.Growth.{Grows}
use Rattle.capture.specs.Fields.{named_values}
use Rattle.capture.specs.GrowthLaws.{GrowthKeepsCaptures}
use Rattle.capture.specs.Message.{IsResponseHeadText}
use Rattle.capture.specs.declared.book.Book.{Book}
use Rattle.capture.specs.declared.book.Volume.{Volume}
use Rattle.capture.specs.declared.captured.Kept.{Kept}
use Rattle.capture.specs.declared.captured.Kept.TheVariants.{Wire, Same, Cut}
use Rattle.capture.specs.declared.captured.Stored.{Stored}
use Rattle.index_entry.proofs.Entries.{Among-with_entry, Among-with_entry_back}
use Rattle.index_entry.proofs.Members.{Among, among_from_contains, contains_from_among}
use Rattle.index_entry.specs.Facts.{Facts}
use Rattle.index_entry.specs.OfBook.{AreOf, IsBefore, IsEntryOf, IsFoundByDate, mime_by, record_of}
use Rattle.index_entry.specs.Order.{with_entry}
use Rattle.surt_key.specs.Key.{key_of}
use Rattle.warc_text.proofs.BookLaws.{get_behind}
use Rattle.warc_text.specs.Books.{IsGroupText, IsVolumeText, RefersBy, joined}
use Rattle.warc_text.specs.Ids.{id_of}
use Rattle.warc_text.specs.Records.{answer_text, group_text, info_text}
use Rattle.warc_text.specs.References.{reference_of}
use Rattle.warc_text.specs.declared.id.IdKind.TheVariants.{Response}
use Rattle.warc_text.specs.declared.same_of.SameOf.{SameOf}
use Rattle.archive_shelf.proofs.ComparingLaws.{payload_later, placed_before, placed_later}
use Rattle.archive_shelf.proofs.GainingTexts.{last_placed, number_in_last}
use Rattle.archive_shelf.proofs.GainingSoundness.{no_volumes}
use Rattle.archive_shelf.proofs.StoringLaws.{capture_grows, captures_more}
use Rattle.archive_shelf.specs.Entering.{EntriesAreAll, EntriesGainOne, EntriesStay, EntriesStayAll, NewEntriesAreOfTheirCaptures, TellsOfNew}
use Rattle.archive_shelf.specs.Storing.{with_capture}

-- ---- what a book keeps when it grows

refers_later : (old new : Book) (added : List Stored) (is : captures new ≡ captures old ++ added) (kept : Kept) (same : Option SameOf)
    → RefersBy old kept same → RefersBy new kept same
refers_later old new added is (Wire wire) same refers = refers
refers_later old new added is (Cut wire) same refers = refers
refers_later old new added is (Same first) same refers = (refers.0, placed_later old new added is first refers.0 refers.1, refers.2)

group_later : (old new : Book) (added : List Stored) (is : captures new ≡ captures old ++ added) → new.namespace ≡ old.namespace
    → (number : ℕ) (text : List ℕ) → IsGroupText old number text → IsGroupText new number text
group_later old new added is namespace number text g = record {
  stored = g.stored;
  payload = g.payload;
  same = g.same;
  placed = placed_later old new added is number g.stored g.placed;
  payload_is = payload_later old new added is g.stored g.stored.kept g.payload g.payload_is;
  refers = refers_later old new added is g.stored.kept g.same g.refers;
  composed = g.composed ∙ ap (λ (n : List ℕ). group_text n number (taken_back g.stored) (sha1 g.payload) (reference_of n g.same)) (sym namespace);
}

takes_alike : (xs ys : List Volume) (k : ℕ) → ((j : ℕ) → j < k → slice_get ys j ≡ slice_get xs j) → take k ys ≡ take k xs
takes_alike xs ys zero same = refl
takes_alike [] [] (suc k) same = refl
takes_alike [] (y ∷ ys) (suc k) same = let first : Some y ≡ None = same 0 (omega arith) in cc
takes_alike (x ∷ xs) [] (suc k) same = let first : None ≡ Some x = same 0 (omega arith) in cc
takes_alike (x ∷ xs) (y ∷ ys) (suc k) same =
    ap₂ (λ (a : Volume) (l : List Volume). a ∷ l) (same_Some y x (same 0 (omega arith))) (takes_alike xs ys k (λ j less. same (suc j) (omega (arith, less))))

pub first_stays : (old new : Book) (k : ℕ) → Grows old new → k < length old.volumes → first_number new k ≡ first_number old k
first_stays old new k grow within =
    ap (λ (l : List Volume). length (captures_in l)) (takes_alike old.volumes new.volumes k (λ j less. grow.sealed j (omega (arith, less, within))))

-- the volume as it is in the new book
record HasVolume (new : Book) (k : ℕ) (old : Volume) : Type 0 where
  volume : Volume
  placed : slice_get new.volumes k ≡ Some volume
  born : volume.born ≡ old.born
  longer : length old.captures ≤ length volume.captures

volume_later : (old new : Book) (k : ℕ) (volume : Volume) → Grows old new → slice_get old.volumes k ≡ Some volume → HasVolume new k volume
volume_later old new k volume grow at = ⊎_elim
    (λ (sealed : k + 1 < length old.volumes). record {
      volume = volume;
      placed = grow.sealed k sealed ∙ at;
      born = refl;
      longer = omega arith;
    })
    (λ (behind : length old.volumes ≤ k + 1).
    let last = grow.last k volume (omega (arith, behind, slice_get_within old.volumes k volume at)) at in
    record {
      volume = last.volume;
      placed = last.placed;
      born = last.grown.born;
      longer = omega (arith, ap length last.grown.captures, length-append volume.captures last.grown.added);
    })
    (cases_lt (k + 1) (length old.volumes))

before_later : (old new : Book) (added : List Stored) (is : captures new ≡ captures old ++ added) (k place : ℕ) (text : List ℕ) → Grows old new
    → IsBefore old k place text → IsBefore new k place text
before_later old new added is k place text grow b =
    let within : k < length old.volumes = slice_get_within old.volumes k b.volume b.placed in
    let has = volume_later old new k b.volume grow b.placed in
    let first : first_number new k ≡ first_number old k = first_stays old new k grow within in
    record {
      volume = has.volume;
      groups = b.groups;
      placed = has.placed;
      within = omega (arith, b.within, has.longer);
      count = b.count;
      each = λ j less.
          subst (λ (n : ℕ). IsGroupText new (n + j) (slice_index_or b.groups j [])) (sym first)
          (group_later old new added is grow.namespace (first_number old k + j) (slice_index_or b.groups j []) (b.each j less));
      composed = b.composed ∙ ap₂ (λ (n : List ℕ) (t : ℕ). info_text n k t ++ joined b.groups) (sym grow.namespace) (sym has.born);
    }

entry_later : (old new : Book) (added : List Stored) (is : captures new ≡ captures old ++ added) (number : ℕ) (entry : Facts) → Grows old new
    → IsEntryOf old number entry → IsEntryOf new number entry
entry_later old new added is number entry grow e = record {
  text = e.text;
  group = record {
    stored = e.group.stored;
    payload = e.group.payload;
    same = e.group.same;
    placed = placed_later old new added is number e.group.stored e.group.placed;
    payload_is = payload_later old new added is e.group.stored e.group.stored.kept e.group.payload e.group.payload_is;
    refers = refers_later old new added is e.group.stored.kept e.group.same e.group.refers;
    composed = e.group.composed
        ∙ ap (λ (n : List ℕ). group_text n number (taken_back e.group.stored) (sha1 e.group.payload) (reference_of n e.group.same)) (sym grow.namespace);
  };
  head = e.head;
  parsed = e.parsed;
  keyed = e.keyed;
  date_is = e.date_is;
  number_is = e.number_is;
  uri_is = e.uri_is;
  mime_is = e.mime_is;
  status_is = e.status_is;
  digest_is = e.digest_is;
  place = e.place;
  before = e.before;
  numbered = e.numbered
      ∙ ap (λ (n : ℕ). n + e.place) (sym (first_stays old new entry.volume grow (slice_get_within old.volumes entry.volume e.behind.volume e.behind.placed)));
  behind = before_later old new added is entry.volume e.place e.before grow e.behind;
  offset_is = e.offset_is;
  length_is = e.length_is
      ∙ ap (λ (n : List ℕ). length (answer_text (id_of n Response number) (taken_back e.group.stored) (sha1 e.group.payload) (reference_of n e.group.same))) (sym grow.namespace);
}

pub entries_stay : GrowthKeepsCaptures → EntriesStay
entries_stay keeps old new number entry grow e =
    let more = keeps old new grow in
    entry_later old new more.0 more.1 number entry grow e

-- ---- the entry of a new capture

pub new_entries : GrowthKeepsCaptures → NewEntriesAreOfTheirCaptures
new_entries keeps book stored entry tells =
    let new : Book = with_capture book stored in
    let number : ℕ = length (captures book) in
    let grow : Grows book new = capture_grows book stored in
    let is : captures new ≡ captures book ++ stored ∷ [] = captures_more book.volumes stored (no_volumes book.volumes (omega (arith, tells.volume_is))) in
    let ends = tells.ends in
    let group = tells.group in
    let is_number : first_number new entry.volume + length ends.volume.captures ≡ number =
    number_in_last book stored entry.volume ends.volume tells.volume_is ends.placed in
    let first : first_number new entry.volume ≡ first_number book entry.volume = first_stays book new entry.volume grow (omega (arith, tells.volume_is)) in
    let there : slice_get (captures new) number ≡ Some stored =
    ap (λ (l : List Stored). slice_get l number) is ∙ get_behind (captures book ++ stored ∷ []) (captures book) stored [] number refl refl in
    let same : stored ≡ group.stored = same_Some stored group.stored (sym there ∙ group.placed) in
    record {
      text = tells.group_text;
      group = group;
      head = tells.head;
      parsed = subst (λ (s : Stored). IsResponseHeadText s.head tells.head) same tells.parsed;
      keyed = ap (λ (s : Stored). key_of s.uri) (sym same) ∙ tells.keyed;
      date_is = tells.date_is ∙ ap (λ (s : Stored). s.date) same;
      number_is = tells.number_is;
      uri_is = tells.uri_is ∙ ap (λ (s : Stored). s.uri) same;
      mime_is = tells.mime_is ∙ ap (λ (s : Stored). mime_by s.kept (named_values tells.head.fields)) same;
      status_is = tells.status_is;
      digest_is = tells.digest_is;
      place = length ends.volume.captures;
      before = tells.text;
      numbered = sym is_number;
      behind = record {
        volume = record { born = ends.volume.born; captures = ends.volume.captures ++ stored ∷ [] };
        groups = ends.groups;
        placed = last_placed book.volumes stored entry.volume ends.volume tells.volume_is ends.placed;
        within = omega (arith, length-append ends.volume.captures (stored ∷ []));
        count = ends.count;
        each = λ j less.
            subst (λ (n : ℕ). IsGroupText new (n + j) (slice_index_or ends.groups j [])) (sym first)
            (group_later book new (stored ∷ []) is grow.namespace (first_number book entry.volume + j) (slice_index_or ends.groups j []) (ends.each j less));
        composed = ends.composed;
      };
      offset_is = tells.offset_is;
      length_is = tells.length_is
          ∙ ap (λ (s : Stored). length (record_of new number s group.payload group.same)) same;
    }

-- ---- all entries

-- what a list holds with an entry in its place
pub contains_entry : (entry : Facts) (entries : List Facts) (e : Facts) → Contains (with_entry entry entries) e → (entry ≡ e) ⊎ Contains entries e
contains_entry entry entries e has = ⊎_elim
    (λ (is : entry ≡ e). inl is)
    (λ (among : Among entries e). inr (contains_from_among entries e among))
    (Among-with_entry entry entries e (among_from_contains (with_entry entry entries) e has))

pub entry_contained : (entry : Facts) (entries : List Facts) → Contains (with_entry entry entries) entry
entry_contained entry entries = contains_from_among (with_entry entry entries) entry (Among-with_entry_back entry entries entry (inl refl))

pub others_contained : (entry : Facts) (entries : List Facts) (e : Facts) → Contains entries e → Contains (with_entry entry entries) e
others_contained entry entries e has =
    contains_from_among (with_entry entry entries) e (Among-with_entry_back entry entries e (inr (among_from_contains entries e has)))

-- a capture of the new book is one of the old, or the new one
capture_by : (old new : Book) (stored : Stored) (is : captures new ≡ captures old ++ stored ∷ []) (number : ℕ) (s : Stored)
    → slice_get (captures new) number ≡ Some s
    → (slice_get (captures old) number ≡ Some s) ⊎ ((number ≡ length (captures old)) × (s ≡ stored))
capture_by old new stored is number s at = ⊎_elim
    (λ (before : number < length (captures old)). inl (placed_before old new (stored ∷ []) is number s before at))
    (λ (behind : length (captures old) ≤ number).
    let within : number < length (captures new) = slice_get_within (captures new) number s at in
    let last : length (captures old) ≡ number = omega (arith, behind, within, ap length is, length-append (captures old) (stored ∷ [])) in
    inr (
      sym last,
      same_Some s stored (sym at ∙ ap (λ (l : List Stored). slice_get l number) is
          ∙ get_behind (captures old ++ stored ∷ []) (captures old) stored [] number refl last),
    ))
    (cases_lt number (length (captures old)))

-- an entry's capture is there
entry_below : (book : Book) (number : ℕ) (entry : Facts) → IsEntryOf book number entry → number < length (captures book)
entry_below book number entry e = slice_get_within (captures book) number e.group.stored e.group.placed

pub entries_gain_one : GrowthKeepsCaptures → EntriesGainOne
entries_gain_one keeps old new stored entries entry grow is are found number_is of =
    let more = keeps old new grow in
    let count : length (captures old) ≡ entry.number = sym number_is in
    record {
      each = λ e has. ⊎_elim
          (λ (same : entry ≡ e).
          subst (λ (x : Facts). IsEntryOf new x.number x) same (subst (λ (n : ℕ). IsEntryOf new n entry) count of))
          (λ (c : Contains entries e). entry_later old new more.0 more.1 e.number e grow (are.each e c))
          (contains_entry entry entries e has);
      found = λ e s has at. ⊎_elim
          (λ (same : entry ≡ e).
          let here : slice_get (captures new) (length (captures old)) ≡ Some s =
          ap (slice_get (captures new)) (count ∙ ap (λ (x : Facts). x.number) same) ∙ at in
          let is_new : s ≡ stored = same_Some s stored (sym here ∙ ap (λ (l : List Stored). slice_get l (length (captures old))) is
          ∙ get_behind (captures old ++ stored ∷ []) (captures old) stored [] (length (captures old)) refl refl) in
          subst IsFoundByDate (sym is_new) found)
          (λ (c : Contains entries e).
          are.found e s c (placed_before old new (stored ∷ []) is e.number s (entry_below old e.number e (are.each e c)) at))
          (contains_entry entry entries e has);
      all = λ number s at by_date. ⊎_elim
          (λ (was : slice_get (captures old) number ≡ Some s).
          let e = are.all number s was by_date in
          (e.0, others_contained entry entries e.0 e.1, e.2))
          (λ (new_one : (number ≡ length (captures old)) × (s ≡ stored)). (entry, entry_contained entry entries, number_is ∙ sym new_one.0))
          (capture_by old new stored is number s at);
    }

pub entries_are_all : GrowthKeepsCaptures → EntriesAreAll
entries_are_all keeps old new stored entries grow is are none =
    let more = keeps old new grow in
    record {
      each = λ e has. entry_later old new more.0 more.1 e.number e grow (are.each e has);
      found = λ e s has at.
          are.found e s has (placed_before old new (stored ∷ []) is e.number s (entry_below old e.number e (are.each e has)) at);
      all = λ number s at by_date. ⊎_elim
          (λ (was : slice_get (captures old) number ≡ Some s). are.all number s was by_date)
          (λ (new_one : (number ≡ length (captures old)) × (s ≡ stored)). absurd (none (subst IsFoundByDate new_one.1 by_date)))
          (capture_by old new stored is number s at);
    }

pub entries_stay_all : GrowthKeepsCaptures → EntriesStayAll
entries_stay_all keeps old new entries grow is are =
    let more = keeps old new grow in
    record {
      each = λ e has. entry_later old new more.0 more.1 e.number e grow (are.each e has);
      found = λ e s has at. are.found e s has (sym (ap (λ (l : List Stored). slice_get l e.number) is) ∙ at);
      all = λ number s at by_date. are.all number s (sym (ap (λ (l : List Stored). slice_get l number) is) ∙ at) by_date;
    }
