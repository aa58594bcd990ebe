-- What stands before the group of a book's next capture, and how long that group is.
use Rattle.std.proofs.Common.{◌≡◌, ◌≢◌, ℕ, zero, suc, ◌+◌, ◌<◌, ◌≤◌, ◌^◌, Bool, true, false, List, [], ◌∷◌, ◌++◌, length, take, slice_get, slice_index_or, Option, Some, None, nat_eq, not, inl, inr, refl, sym, ap, subst, ◌∙◌, length-append, eqb-true, suc-ne-zero, arith}
use Rattle.std.proofs.lemmas.List.Elements.{All-get_or}
use Rattle.std.proofs.lemmas.Option.{get_or_from_slice_get, slice_get_within}
use Rattle.capture.specs.Captures.{captures, captures_in}
use Rattle.capture.specs.declared.book.Book.{Book}
use Rattle.capture.specs.declared.book.Volume.{Volume}
use Rattle.capture.specs.declared.captured.Stored.{Stored}
use Rattle.capture.proofs.PayloadLaws.{captures_have_one}
use Rattle.time_text.specs.Texts.{InRange}
use Rattle.warc_text.specs.Books.{IsGroupText, joined}
use Rattle.warc_text.specs.Records.{info_text}
use Rattle.warc_text.specs.Sound.{IsSound}
use Rattle.warc_text.proofs.OneTextLaws.{one_group, volumes_have_one_text}
use Rattle.archive_shelf.specs.Pieces.{IsFront}
use Rattle.archive_shelf.specs.Storing.{add_to_last, new_volume}
use Rattle.archive_shelf.proofs.ShortTexts.{located}
use Rattle.archive_shelf.proofs.StoringLaws.{captures_stay}
use Rattle.archive_volumes.specs.Held.{is_filled}
use Rattle.archive_pieces.specs.NextPieces.{IsFrontBy, MayBegin, Takes}
use Rattle.archive_pieces.proofs.NextPiece.{IsNext}

same_some : {A : Type 0} (x y : A) → Some x ≡ Some y → x ≡ y
same_some x y e = cc

none_some : {A : Type 0} (x : A) → None ≡ Some x → ⊥
none_some x e = cc

no_true : false ≡ true → ⊥
no_true e = cc

zero_by : (n : ℕ) → not (nat_eq n 0) ≡ false → n ≡ 0
zero_by n e = eqb-true n 0 (turned (nat_eq n 0) e) where
  turned : (b : Bool) → not b ≡ false → b ≡ true
  turned true e = refl
  turned false e = cc

more_than_zero : (n : ℕ) → not (nat_eq n 0) ≡ true → 0 < n
more_than_zero zero e = absurd (no_true e)
more_than_zero (suc n) e = omega arith

nothing_in : {A : Type 0} (xs : List A) → length xs ≡ 0 → xs ≡ []
nothing_in [] is = refl
nothing_in (x ∷ xs) is = absurd (suc-ne-zero (length xs) is)

some_in : (volumes : List Volume) → is_filled volumes ≡ true → 0 < length (captures_in volumes)
some_in [] filled = absurd (no_true filled)
some_in (v ∷ []) filled =
    let some = more_than_zero (length v.captures) filled in let all = length-append v.captures [] in omega (arith, some, all)
some_in (v ∷ u ∷ vs) filled =
    let later = some_in (u ∷ vs) filled in let all = length-append v.captures (captures_in (u ∷ vs)) in omega (arith, later, all)

-- ---- the volume of which a capture behind all others is the first

-- the capture behind those of the old volumes is the first of the volume with this number
abbrev IsFirstIn : List Volume → List Volume → ℕ → Volume → Type 0
IsFirstIn old new k volume =
    (slice_get new k ≡ Some volume) × (0 < length volume.captures) × (length (captures_in old) ≡ length (captures_in (take k new)))

-- of none, where the last volume holds a capture
first_of_none : (old : List Volume) (stored : Stored) → is_filled old ≡ true → (k : ℕ) (volume : Volume)
    → IsFirstIn old (add_to_last old stored) k volume → ⊥
first_of_none [] stored filled k volume first = no_true filled
first_of_none (v ∷ []) stored filled zero volume first =
    let some = more_than_zero (length v.captures) filled in
    let all = length-append v.captures [] in
    let none = first.2 in
    absurd (omega (arith, some, all, none))
first_of_none (v ∷ []) stored filled (suc k) volume first = none_some volume first.0
first_of_none (v ∷ u ∷ vs) stored filled zero volume first =
    let some = some_in (v ∷ u ∷ vs) filled in let none = first.2 in absurd (omega (arith, some, none))
first_of_none (v ∷ u ∷ vs) stored filled (suc k) volume first =
    let a = length-append v.captures (captures_in (u ∷ vs)) in
    let b = length-append v.captures (captures_in (take k (add_to_last (u ∷ vs) stored))) in
    let c = first.2 in
    first_of_none (u ∷ vs) stored filled k volume (first.0, first.1, omega (arith, a, b, c))

-- the last one, which holds none
record IsEmptyAt (old : List Volume) (k : ℕ) (volume : Volume) : Type 0 where
  was : Volume
  last : k + 1 ≡ length old
  placed : slice_get old k ≡ Some was
  none : was.captures ≡ []
  born : was.born ≡ volume.born

empty_first : (old : List Volume) (stored : Stored) → is_filled old ≡ false → (k : ℕ) (volume : Volume)
    → IsFirstIn old (add_to_last old stored) k volume → IsEmptyAt old k volume
empty_first [] stored empty k volume first = absurd (none_some volume first.0)
empty_first (v ∷ []) stored empty zero volume first = record {
  was = v;
  last = omega arith;
  placed = refl;
  none = nothing_in v.captures (zero_by (length v.captures) empty);
  born = ap (λ (x : Volume). x.born) (same_some (record { born = v.born; captures = v.captures ++ stored ∷ [] }) volume first.0);
}
empty_first (v ∷ []) stored empty (suc k) volume first = absurd (none_some volume first.0)
empty_first (v ∷ u ∷ vs) stored empty zero volume first =
    let all = length-append v.captures (captures_in (u ∷ vs)) in
    let same = ap (λ (x : Volume). length x.captures) (same_some v volume first.0) in
    let some = first.1 in
    let none = first.2 in
    absurd (omega (arith, all, same, some, none))
empty_first (v ∷ u ∷ vs) stored empty (suc k) volume first =
    let a = length-append v.captures (captures_in (u ∷ vs)) in
    let b = length-append v.captures (captures_in (take k (add_to_last (u ∷ vs) stored))) in
    let c = first.2 in
    let later = empty_first (u ∷ vs) stored empty k volume (first.0, first.1, omega (arith, a, b, c)) in
    record { was = later.was; last = (let l = later.last in omega (arith, l)); placed = later.placed; none = later.none; born = later.born }

-- and it is the first of that
record HasFirst (old new : List Volume) : Type 0 where
  k : ℕ
  volume : Volume
  is : IsFirstIn old new k volume

has_first : (old : List Volume) (stored : Stored) → old ≢ [] → is_filled old ≡ false → HasFirst old (add_to_last old stored)
has_first [] stored some empty = absurd (some refl)
has_first (v ∷ []) stored some empty =
    let all = length-append v.captures [] in
    let more = length-append v.captures (stored ∷ []) in
    let none = zero_by (length v.captures) empty in
    record {
      k = 0;
      volume = record { born = v.born; captures = v.captures ++ stored ∷ [] };
      is = (refl, omega (arith, more), omega (arith, all, none));
    }
has_first (v ∷ u ∷ vs) stored some empty =
    let later = has_first (u ∷ vs) stored (λ e. cc) empty in
    let a = length-append v.captures (captures_in (u ∷ vs)) in
    let b = length-append v.captures (captures_in (take later.k (add_to_last (u ∷ vs) stored))) in
    let c = later.is.2 in
    record { k = suc later.k; volume = later.volume; is = (later.is.0, later.is.1, omega (arith, a, b, c)) }

-- ---- how long a group of a sound book is

part_of_joined : (texts : List (List ℕ)) (j : ℕ) → j < length texts → length (slice_index_or texts j []) ≤ length (joined texts)
part_of_joined [] j less = absurd (omega (arith, less))
part_of_joined (t ∷ ts) zero less = let a = length-append t (joined ts) in omega (arith, a)
part_of_joined (t ∷ ts) (suc j) less =
    let later = part_of_joined ts j (omega (arith, less)) in let a = length-append t (joined ts) in omega (arith, later, a)

pub group_is_short : (book : Book) (number : ℕ) (text : List ℕ) → IsSound book → IsGroupText book number text → length text < 2 ^ 62
group_is_short book number text sound group =
    let is = located book.volumes number group.stored group.placed in
    let one = volumes_have_one_text book is.k sound (slice_get_within book.volumes is.k is.volume is.placed) in
    let volume : one.is.volume ≡ is.volume = same_some one.is.volume is.volume (sym one.is.placed ∙ is.placed) in
    let inside = slice_get_within is.volume.captures is.place group.stored is.there in
    let long = ap (λ (v : Volume). length v.captures) volume in
    let count = one.is.count in
    let within : is.place < length one.is.groups = omega (arith, inside, count, long) in
    let there : IsGroupText book number (slice_index_or one.is.groups is.place [])
    = subst (λ (n : ℕ). IsGroupText book n (slice_index_or one.is.groups is.place [])) (sym is.numbered) (one.is.each is.place within) in
    let same = ap (λ (l : List ℕ). length l) (one_group captures_have_one book number text (slice_index_or one.is.groups is.place []) group there).texts in
    let whole = ap (λ (l : List ℕ). length l) one.is.composed in
    let all = length-append (info_text book.namespace is.k one.is.volume.born) (joined one.is.groups) in
    let part = part_of_joined one.is.groups is.place within in
    let most = sound.short_texts is.k one.text one.is in
    omega (arith, same, whole, all, part, most)

-- ---- what stands before its group

unfilled_behind : (volumes : List Volume) (born : ℕ) → is_filled (volumes ++ new_volume born ∷ []) ≡ false
unfilled_behind [] born = refl
unfilled_behind (v ∷ []) born = refl
unfilled_behind (v ∷ u ∷ vs) born = unfilled_behind (u ∷ vs) born

some_behind : (volumes : List Volume) (v : Volume) → volumes ++ v ∷ [] ≢ []
some_behind [] v = λ e. cc
some_behind (w ∷ ws) v = λ e. cc

last_behind : (volumes : List Volume) (v : Volume) (k : ℕ) → k + 1 ≡ length (volumes ++ v ∷ []) → slice_get (volumes ++ v ∷ []) k ≡ Some v
last_behind [] v zero is = refl
last_behind [] v (suc k) is = absurd (omega (arith, is))
last_behind (w ∷ ws) v zero is = let a = length-append ws (v ∷ []) in absurd (omega (arith, is, a))
last_behind (w ∷ ws) v (suc k) is = last_behind ws v k (omega (arith, is))

module _ (book after : Book) (bytes : List ℕ) (takes : Takes book bytes after) where
  front_inside : (stored : Stored) → book.volumes ≢ [] → after.volumes ≡ add_to_last book.volumes stored → (filled : Bool) → is_filled book.volumes ≡ filled
      → IsFront after (length (captures book)) takes.piece.front → IsFrontBy book takes.piece.front None
  front_inside stored some new_is true filled (inl b) =
      absurd (first_of_none book.volumes stored filled b.0 b.1.volume
      (subst (λ (l : List Volume). IsFirstIn book.volumes l b.0 b.1.volume) new_is (b.1.placed, b.1.some, b.1.first)))
  front_inside stored some new_is true filled (inr n) = inl (filled, n.1)
  front_inside stored some new_is false empty (inl b) =
      let e = empty_first book.volumes stored empty b.0 b.1.volume
      (subst (λ (l : List Volume). IsFirstIn book.volumes l b.0 b.1.volume) new_is (b.1.placed, b.1.some, b.1.first)) in
      inr (record {
        number = b.0;
        volume = e.was;
        last = e.last;
        placed = e.placed;
        none = e.none;
        info = b.2 ∙ (λ i. info_text (takes.grown.namespace i) b.0 (sym e.born i));
      })
  front_inside stored some new_is false empty (inr n) =
      let f = has_first book.volumes stored some empty in
      let there : IsFirstIn book.volumes after.volumes f.k f.volume
      = subst (λ (l : List Volume). IsFirstIn book.volumes l f.k f.volume) (sym new_is) f.is in
      absurd (n.0 f.k (record { volume = f.volume; placed = there.0; some = there.1; first = there.2 }))

  born_there : (k : ℕ) (volume : Volume) → slice_get after.volumes k ≡ Some volume → InRange volume.born
  born_there k volume placed =
      subst (λ (v : Volume). InRange v.born) (get_or_from_slice_get after.volumes k volume volume placed)
      (All-get_or (λ (v : Volume). InRange v.born) after.volumes k volume (slice_get_within after.volumes k volume placed) takes.sound.births)

  module _ (stored : Stored) (born : ℕ) (may : MayBegin book)
      (new_is : after.volumes ≡ add_to_last (book.volumes ++ new_volume born ∷ []) stored) where
    abbrev with_it : List Volume
    with_it = book.volumes ++ new_volume born ∷ []

    first_in : (k : ℕ) (volume : Volume) → IsFirstIn book.volumes after.volumes k volume → IsFirstIn with_it (add_to_last with_it stored) k volume
    first_in k volume first =
        subst (λ (l : List Volume). IsFirstIn with_it l k volume) new_is
        (first.0, first.1, ap (λ (l : List Stored). length l) (captures_stay book.volumes born) ∙ first.2)

    front_beginning : IsFront after (length (captures book)) takes.piece.front → IsFrontBy book takes.piece.front (Some born)
    front_beginning (inl b) =
        let e = empty_first with_it stored (unfilled_behind book.volumes born) b.0 b.1.volume
        (first_in b.0 b.1.volume (b.1.placed, b.1.some, b.1.first)) in
        let was : e.was ≡ new_volume born
        = same_some e.was (new_volume born) (sym e.placed ∙ last_behind book.volumes (new_volume born) b.0 e.last) in
        let date : b.1.volume.born ≡ born = sym e.born ∙ ap (λ (v : Volume). v.born) was in
        let long = length-append book.volumes (new_volume born ∷ []) in
        let last = e.last in
        let number : b.0 ≡ length book.volumes = omega (arith, last, long) in (
          may,
          subst InRange date (born_there b.0 b.1.volume b.1.placed),
          b.2 ∙ (λ i. info_text (takes.grown.namespace i) (number i) (date i)),
        )
    front_beginning (inr n) =
        let f = has_first with_it stored (some_behind book.volumes (new_volume born)) (unfilled_behind book.volumes born) in
        let there : IsFirstIn with_it after.volumes f.k f.volume
        = subst (λ (l : List Volume). IsFirstIn with_it l f.k f.volume) (sym new_is) f.is in
        absurd (n.0 f.k (record {
          volume = f.volume;
          placed = there.0;
          some = there.1;
          first = sym (ap (λ (l : List Stored). length l) (captures_stay book.volumes born)) ∙ there.2;
        }))

  pub front_by : (begins : Option ℕ) (stored : Stored) → IsNext book.volumes after.volumes stored begins → IsFrontBy book takes.piece.front begins
  front_by None stored next = front_inside stored next.0 next.1 (is_filled book.volumes) refl takes.piece.before
  front_by (Some born) stored next = front_beginning stored born next.0 next.1 takes.piece.before
