-- What is gathered of a volume that begins, as far as no book is known.
use Rattle.std.proofs.Common.{◌≡◌, ℕ, zero, suc, ◌<◌, List, [], ◌∷◌, ◌++◌, length, refl, sym, ap, subst, ◌∙◌, arith, append-nil}
use Rattle.std.specs.Prelude.{Contains, Some, slice_get}
use Rattle.std.specs.List.Sorted.{IsStrictlySortedBy}
use Rattle.std.proofs.lemmas.List.{length_push}
use Rattle.std.proofs.lemmas.Option.{slice_get_within}
use Rattle.capture.specs.Captures.{captures}
use Rattle.capture.specs.declared.book.Book.{Book}
use Rattle.capture.specs.declared.book.Volume.{Volume}
use Rattle.capture.specs.declared.captured.Stored.{Stored}
use Rattle.index_entry.specs.Facts.{Facts}
use Rattle.index_entry.specs.OfBook.{by_number}
use Rattle.archive_shelf.proofs.StoringLaws.{captures_stay, volume_grows}
use Rattle.archive_shelf.specs.Gaining.{AreFilled}
use Rattle.archive_shelf.specs.Storing.{empty_book, new_volume, with_volume}
use Rattle.archive_volumes.proofs.SpotLaws.{made_stay, spots_stay}
use Rattle.archive_volumes.specs.Held.{book_of}
use Rattle.archive_volumes.specs.Spots.{AreHeldWhole, AreSpotsOf}
use Rattle.archive_volumes.specs.declared.spot.Spot.{Spot}
use Rattle.archive_gathering.proofs.SealedLaws.{sealed_push}
use Rattle.archive_gathering.specs.Gathering.{HasVolumeMore, IsSteady}
use Rattle.archive_gathering.specs.Shapes.{AreFilledBefore, HasBegunOne, sealed_in}
use Rattle.archive_gathering.specs.declared.gathered.Gathered.{Gathered}

-- each volume before a new one is one of those that were there
pub before_new : (volumes : List Volume) (last volume : Volume) (k : ℕ) → slice_get (volumes ++ last ∷ []) k ≡ Some volume → k < length volumes
    → slice_get volumes k ≡ Some volume
before_new [] last volume k at less = absurd (omega (arith, less))
before_new (v ∷ vs) last volume zero at less = at
before_new (v ∷ vs) last volume (suc k) at less = before_new vs last volume k at (omega (arith, less))

-- a volume more
pub begun_one : (was is : Gathered) (born : ℕ) → (AreFilledBefore (book_of was.held) → AreFilled (book_of was.held)) → HasVolumeMore was is born
    → HasBegunOne was is (book_of was.held).namespace
begun_one was is born filled more =
    let old : Book = book_of was.held in
    let new : Book = with_volume old born in
    let same : captures new ≡ captures old = captures_stay old.volumes born in
    let same_is : captures (book_of is.held) ≡ captures old = ap (λ (b : Book). captures b) more.book ∙ same in
    record {
      captures_are = same_is;
      volumes = ap (λ (b : Book). length b.volumes) more.book ∙ length_push old.volumes (new_volume born);
      sealed = ap (λ (b : Book). sealed_in b.volumes) more.book ∙ sealed_push old.volumes (new_volume born);
      namespace_is = ap (λ (b : Book). b.namespace) more.book;
      namespace_stays = λ some. ap (λ (b : Book). b.namespace) more.book;
      spots = more.spots;
      filled = λ before. subst AreFilledBefore (sym more.book) (λ k volume at less.
          let within : k < length old.volumes = omega (arith, less, length_push old.volumes (new_volume born)) in
          filled before k volume (before_new old.volumes (new_volume born) volume k at within));
      numbered = λ are. record {
        in_order = subst (IsStrictlySortedBy by_number) (sym more.entries) are.in_order;
        below = λ e has. omega (arith, are.below e (subst (λ (l : List Facts). Contains l e) more.entries has), ap length same_is);
        named = λ e has spot at.
            are.named e (subst (λ (l : List Facts). Contains l e) more.entries has) spot (sym (ap (λ (l : List Spot). slice_get l e.number) more.spots) ∙ at);
      };
      requested = λ are. record {
        each = λ number spot at read.
            let has = are.each number spot (sym (ap (λ (l : List Spot). slice_get l number) more.spots) ∙ at) read in
            (has.0, ap (λ (l : List Stored). slice_get l number) same_is ∙ has.1, has.2);
      };
      made = λ made. record {
        spots = subst (λ (b : Book). AreSpotsOf b is.spots.items) (sym more.book)
            (subst (AreSpotsOf new) (sym more.spots) (spots_stay old new same (volume_grows old born) was.spots.items made.spots));
        made = subst (λ (b : Book). AreHeldWhole b is.spots.items) (sym more.book)
            (subst (AreHeldWhole new) (sym more.spots)
            (made_stay old new [] (same ∙ sym (append-nil (captures old))) (volume_grows old born) was.spots.items made.made));
      };
    }

pub none_left : (spots : List Spot) → length spots ≡ 0 → spots ≡ []
none_left [] e = refl
none_left (s ∷ ss) e = absurd (omega (arith, e))

pub no_captures : (book : Book) → length book.volumes ≡ 0 → captures book ≡ []
no_captures book e = by book.volumes e
  where
    by : (volumes : List Volume) → length volumes ≡ 0 → captures (record { namespace = book.namespace; volumes = volumes }) ≡ []
    by [] e = refl
    by (v ∷ vs) e = absurd (omega (arith, e))

sorted_none : IsStrictlySortedBy by_number []
unfolding IsStrictlySortedBy
sorted_none = tt

-- the first volume
pub begun_anew : (was first is : Gathered) (namespace : List ℕ) (born : ℕ) → IsSteady was → length (book_of was.held).volumes ≡ 0
    → book_of first.held ≡ empty_book namespace → first.spots.items ≡ [] → first.entries.items ≡ [] → HasVolumeMore first is born → HasBegunOne was is namespace
begun_anew was first is namespace born steady none empty no_spots no_entries more =
    let one = begun_one first is born (λ before k volume at.
    absurd (omega (arith, slice_get_within (book_of first.held).volumes k volume at, ap (λ (b : Book). length b.volumes) empty))) more in
    let nothing : captures (book_of was.held) ≡ [] = no_captures (book_of was.held) none in
    let first_none : captures (book_of first.held) ≡ [] = ap (λ (b : Book). captures b) empty in
    let spots : was.spots.items ≡ [] = none_left was.spots.items (omega (arith, steady.count, ap length nothing)) in
    record {
      captures_are = one.captures_are ∙ first_none ∙ sym nothing;
      volumes = omega (arith, one.volumes, none, ap (λ (b : Book). length b.volumes) empty);
      sealed = one.sealed ∙ ap (λ (b : Book). b.volumes) empty ∙ sym (no_volume (book_of was.held).volumes none);
      namespace_is = one.namespace_is ∙ ap (λ (b : Book). b.namespace) empty;
      namespace_stays = λ some. absurd (omega (arith, some, none));
      spots = one.spots ∙ no_spots ∙ sym spots;
      filled = λ before. one.filled (λ k volume at less.
          absurd (omega (arith, less, ap (λ (b : Book). length b.volumes) empty)));
      numbered = λ are. one.numbered (record {
        in_order = subst (IsStrictlySortedBy by_number) (sym no_entries) sorted_none;
        below = λ e has. absurd (none_in e (subst (λ (l : List Facts). Contains l e) no_entries has));
        named = λ e has. absurd (none_in e (subst (λ (l : List Facts). Contains l e) no_entries has));
      });
      requested = λ are. one.requested (record {
        each = λ number spot at. absurd (omega (arith, slice_get_within first.spots.items number spot at, ap length no_spots));
      });
      made = λ made. one.made (record {
        spots = record {
          count = omega (arith, ap length no_spots, ap length first_none);
          each = λ number spot at. absurd (omega (arith, slice_get_within first.spots.items number spot at, ap length no_spots));
        };
        made = record { each = λ number spot at told. absurd (omega (arith, slice_get_within first.spots.items number spot at, ap length no_spots)) };
      });
    }
  where
    no_volume : (volumes : List Volume) → length volumes ≡ 0 → volumes ≡ []
    no_volume [] e = refl
    no_volume (v ∷ vs) e = absurd (omega (arith, e))

    none_in : (e : Facts) → Contains [] e → ⊥
    none_in e has = omega (arith, has.1)
