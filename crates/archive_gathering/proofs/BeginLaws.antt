-- What was gathered, with a volume more.
use Rattle.std.proofs.Common.{◌≡◌, ℕ, zero, suc, ◌+◌, ◌<◌, ◌≤◌, List, [], ◌∷◌, ◌++◌, length, get_or, refl, sym, ap, subst, ◌∙◌, ⊎_elim, arith, append-nil}
use Rattle.std.specs.Prelude.{false, true, ◌==◌, nat_eq, not, Some, slice_get, IfNone, None, Option}
use Rattle.std.specs.List.Sorted.{IsStrictlySortedBy}
use Rattle.std.proofs.lemmas.Bool.{cases_lt, eqb-true, false≢true, not-false}
use Rattle.std.proofs.lemmas.List.{get_or_append_left, length_push}
use Rattle.std.proofs.lemmas.List.Elements.{All-nil}
use Rattle.std.proofs.lemmas.Option.{same_Some, slice_get_within}
use Rattle.capture.specs.Captures.{captures, captures_in}
use Rattle.capture.specs.declared.book.Book.{Book}
use Rattle.capture.specs.declared.book.Volume.{Volume}
use Rattle.capture.specs.declared.captured.Stored.{Stored}
use Rattle.index_entry.specs.Facts.{Facts}
use Rattle.record_opening.specs.Infos.{IsInfo}
use Rattle.warc_text.specs.Books.{AreVolumeTexts}
use Rattle.warc_text.specs.Ids.{IsUuid}
use Rattle.archive_shelf.proofs.EntryLaws.{entries_stay_all}
use Rattle.archive_shelf.proofs.StoringLaws.{captures_stay, volume_grows}
use Rattle.archive_shelf.specs.Gaining.{AreFilled}
use Rattle.archive_shelf.specs.Storing.{empty_book, with_volume}
use Rattle.archive_gathering.proofs.ReadingLaws.{nothing_read, with_info}
use Rattle.archive_volumes.proofs.SpotLaws.{GoOn, placed_stay, spots_stay}
use Rattle.archive_gathering.specs.Gathering.{AreLengths, GroupWasRead, HasBegun, HasVolumeMore, IsGathered, TellsOf, AreAllRead}
use Rattle.archive_gathering.specs.Refusing.{HasEmptyLast}
use Rattle.archive_gathering.specs.Shapes.{AreFilledBefore}
use Rattle.archive_volumes.specs.Held.{book_of, is_filled}
use Rattle.archive_gathering.specs.Reading.{IsRead, Laws}
use Rattle.archive_gathering.specs.declared.gathered.Gathered.{Gathered}
use Rattle.archive_volumes.specs.declared.spot.Spot.{Spot}

-- a text behind the others
pub go_on_push : (texts : List (List ℕ)) (text : List ℕ) → GoOn texts (texts ++ text ∷ [])
go_on_push texts text = record {
  count = omega (arith, length_push texts text);
  rest = λ k. [];
  each = λ k less. get_or_append_left texts (text ∷ []) [] k less ∙ sym (append-nil (get_or texts k []));
}

pub lengths_stay : (old new : Book) (spots : List Spot) (lengths : List ℕ) → captures new ≡ captures old → AreLengths old spots lengths → AreLengths new spots lengths
lengths_stay old new spots lengths same are = record {
  each = λ number stored wire payload keeps spot at read. are.each number stored wire payload (record {
    placed = sym (ap (λ (l : List Stored). slice_get l number) same) ∙ keeps.placed;
    kept = keeps.kept;
    has = keeps.has;
  }) spot at read;
  small = are.small;
}

pub tells_with_volume : (laws : Laws) (known : Option Book) (book : Book) (texts : List (List ℕ)) (spots : List Spot) (lengths : List ℕ) (entries : List Facts)
    → TellsOf known book texts spots lengths entries → (text : List ℕ) (born : ℕ) → IsInfo (length texts) text book.namespace born (length text)
    → AreFilled book → TellsOf known (with_volume book born) (texts ++ text ∷ []) spots lengths entries
tells_with_volume laws known book texts spots lengths entries is text born info filled =
    let new : Book = with_volume book born in
    let same : captures new ≡ captures book = captures_stay book.volumes born in
    record {
      read = with_info laws book texts known is.read text born info filled;
      spots_are = spots_stay book new same (volume_grows book born) spots is.spots_are;
      placed = placed_stay texts (texts ++ text ∷ []) (go_on_push texts text) book new [] (same ∙ sym (append-nil (captures book))) (volume_grows book born) spots is.placed;
      all_read = is.all_read;
      lengths_are = lengths_stay book new spots lengths same is.lengths_are;
      entries_are = record {
        in_order = is.entries_are.in_order;
        of_book = entries_stay_all laws.keeps book new entries (volume_grows book born) same is.entries_are.of_book;
      };
    }

-- each volume holds a capture, where the last one does
filled_last : (volumes : List Volume) → is_filled volumes ≡ true → (k : ℕ) (volume : Volume) → k + 1 ≡ length volumes → slice_get volumes k ≡ Some volume
    → 0 < length volume.captures
filled_last [] is k volume last placed = absurd (false≢true is)
filled_last (v ∷ []) is zero volume last placed = some_by (length volume.captures) (ap (λ (w : Volume). not (nat_eq (length w.captures) 0)) (sym (same_Some v volume placed)) ∙ is)
  where
    some_by : (n : ℕ) → not (nat_eq n 0) ≡ true → 0 < n
    some_by zero e = absurd (false≢true e)
    some_by (suc n) e = omega arith
filled_last (v ∷ []) is (suc k) volume last placed = absurd (omega (arith, last))
filled_last (v ∷ w ∷ others) is zero volume last placed = absurd (omega (arith, last))
filled_last (v ∷ w ∷ others) is (suc k) volume last placed = filled_last (w ∷ others) is k volume (omega (arith, last)) placed

pub filled_all : (book : Book) → AreFilledBefore book → is_filled book.volumes ≡ true → AreFilled book
filled_all book before is k volume placed = ⊎_elim
    (λ (sealed : k + 1 < length book.volumes). before k volume placed sealed)
    (λ (last : length book.volumes ≤ k + 1).
    filled_last book.volumes is k volume (omega (arith, last, slice_get_within book.volumes k volume placed)) placed)
    (cases_lt (k + 1) (length book.volumes))

pub filled_by : (known : Option Book) (book : Book) (texts : List (List ℕ)) → IsRead known book texts → is_filled book.volumes ≡ true → AreFilled book
filled_by known book texts read is = filled_all book read.sound.sound.filled is

-- a volume without a capture is the last one
empty_last : (volumes : List Volume) (namespace : List ℕ) → 0 < length volumes → is_filled volumes ≡ false → HasEmptyLast (record { namespace = namespace; volumes = volumes })
empty_last [] namespace some is = absurd (omega (arith, some))
empty_last (v ∷ []) namespace some is =
    let none : length v.captures ≡ 0 = eqb-true (length v.captures) 0 (not-false (nat_eq (length v.captures) 0) is) in
    record { number = 0; volume = v; last = refl; placed = refl; none = none_by v.captures none }
  where
    none_by : (captures : List Stored) → length captures ≡ 0 → captures ≡ []
    none_by [] e = refl
    none_by (c ∷ cs) e = absurd (omega (arith, e))
empty_last (v ∷ w ∷ others) namespace some is =
    let last = empty_last (w ∷ others) namespace (omega arith) is in
    record { number = suc last.number; volume = last.volume; last = omega (arith, last.last); placed = last.placed; none = last.none }

pub empty_by : (book : Book) → 0 < length book.volumes → is_filled book.volumes ≡ false → HasEmptyLast book
empty_by book some is = empty_last book.volumes book.namespace some is

none_read : (known : Option Book) → IfNone known (AreAllRead [])
none_read None = All-nil GroupWasRead
none_read (Some book) = tt

-- nothing was gathered
pub nothing_gathered : (known : Option Book) (namespace : List ℕ) → IsUuid namespace → TellsOf known (empty_book namespace) [] [] [] []
unfolding IsStrictlySortedBy
nothing_gathered known namespace is = record {
  read = nothing_read known namespace is;
  spots_are = record { count = refl; each = λ number spot at. absurd (omega (arith, slice_get_within [] number spot at)) };
  placed = record {
    each = λ number spot at. absurd (omega (arith, slice_get_within [] number spot at));
    apart = λ number spot next group at after same is. absurd (omega (arith, slice_get_within [] number spot at));
  };
  all_read = none_read known;
  lengths_are = record {
    each = λ number stored wire payload keeps spot at read. absurd (omega (arith, slice_get_within [] number stored keeps.placed));
    small = λ number less. absurd (omega (arith, less));
  };
  entries_are = record {
    in_order = tt;
    of_book = record {
      each = λ entry has. absurd (omega (arith, has.1));
      found = λ entry stored has at. absurd (omega (arith, has.1));
      all = λ number stored at found. absurd (omega (arith, slice_get_within [] number stored at));
    };
  };
}

pub not_zero : (n : ℕ) → false ≡ (n == 0) → 0 < n
not_zero zero e = absurd (false≢true e)
not_zero (suc n) e = omega arith

-- no texts are the texts of no number
pub no_texts : (texts : List (List ℕ)) → 0 ≡ length texts → texts ≡ []
no_texts [] e = refl
no_texts (t ∷ ts) e = absurd (omega (arith, e))

-- a volume more was gathered
pub begun : (laws : Laws) (known : Option Book) (was is : Gathered) (texts : List (List ℕ)) (text namespace : List ℕ) (born : ℕ) → IsGathered known was texts
    → IsInfo (length texts) text namespace born (length text) → namespace ≡ (book_of was.held).namespace → AreFilled (book_of was.held)
    → HasVolumeMore was is born → HasBegun known was is texts text namespace
begun laws known was is texts text namespace born gathered info same filled more =
    let book : Book = book_of was.held in
    let of_book : IsInfo (length texts) text book.namespace born (length text) = subst (λ (n : List ℕ). IsInfo (length texts) text n born (length text)) same info in
    let tells = tells_with_volume laws known book texts was.spots.items was.lengths.items was.entries.items gathered text born of_book filled in
    record {
      gathered =
          subst (λ (b : Book). TellsOf known b (texts ++ text ∷ []) is.spots.items is.lengths.items is.entries.items) (sym more.book)
          (subst (λ (x : List Spot). TellsOf known (with_volume book born) (texts ++ text ∷ []) x is.lengths.items is.entries.items) (sym more.spots)
          (subst (λ (x : List ℕ). TellsOf known (with_volume book born) (texts ++ text ∷ []) was.spots.items x is.entries.items) (sym more.lengths)
          (subst (λ (x : List Facts). TellsOf known (with_volume book born) (texts ++ text ∷ []) was.spots.items was.lengths.items x) (sym more.entries) tells)));
      namespace_is = ap (λ (b : Book). b.namespace) more.book ∙ sym same;
      count = ap (λ (b : Book). length (captures b)) more.book ∙ ap length (captures_stay book.volumes born);
    }

no_volumes : (book : Book) → AreVolumeTexts book [] → AreFilled book
no_volumes book are k volume placed = absurd (omega (arith, are.count, slice_get_within book.volumes k volume placed))

-- the first volume was gathered
pub begun_first : (laws : Laws) (known : Option Book) (was first is : Gathered) (texts : List (List ℕ)) (text namespace : List ℕ) (volume born : ℕ) → IsGathered known was texts
    → 0 ≡ length texts → volume ≡ length texts → IsInfo volume text namespace born (length text) → book_of first.held ≡ empty_book namespace
    → IsGathered known first [] → HasVolumeMore first is born → HasBegun known was is texts text namespace
begun_first laws known was first is texts text namespace volume born gathered none at info empty fresh more =
    let nothing = no_texts texts none in
    let of_first : IsInfo 0 text namespace born (length text) = subst (λ (v : ℕ). IsInfo v text namespace born (length text)) (at ∙ sym none) info in
    let one = begun laws known first is [] text namespace born fresh of_first (ap (λ (b : Book). b.namespace) (sym empty)) (no_volumes (book_of first.held) fresh.read.are) more in
    let was_none : length (captures (book_of was.held)) ≡ 0 = no_captures (book_of was.held).volumes (omega (arith, gathered.read.are.count, none)) in
    record {
      gathered = subst (λ (t : List (List ℕ)). IsGathered known is (t ++ text ∷ [])) (sym nothing) one.gathered;
      namespace_is = one.namespace_is;
      count = one.count ∙ ap (λ (b : Book). length (captures b)) empty ∙ sym was_none;
    }
  where
    no_captures : (volumes : List Volume) → length volumes ≡ 0 → length (captures_in volumes) ≡ 0
    no_captures [] e = refl
    no_captures (v ∷ vs) e = absurd (omega (arith, e))
