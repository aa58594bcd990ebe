-- The next piece of a book that a source goes on from.
use Rattle.std.proofs.Common.{◌≡◌, ◌≢◌, ◌⊎◌, ℕ, zero, suc, ◌+◌, ◌<◌, ◌≤◌, true, not, nat_eq, List, [], ◌∷◌, ◌++◌, length, take, slice_get, slice_index, slice_index_or, Option, Some, None, inl, inr, ⊎_elim, refl, sym, ap, subst, ◌∙◌, append_assoc, length-append, eq-or-lt_of_le, arith}
use mathlib.Core.Bool.{true≢false}
use Rattle.std.proofs.lemmas.Bool.{cases_lt}
use Rattle.std.proofs.lemmas.List.{append-nil}
use Rattle.std.proofs.lemmas.Option.{slice_get_within}
use Rattle.sha1.specs.Sha1.{sha1}
use Rattle.capture.specs.Captures.{captures, captures_in, taken_back}
use Rattle.capture.specs.Growth.{Grows, HasGrown, HasGrownAt}
use Rattle.capture.specs.declared.book.Book.{Book}
use Rattle.capture.specs.declared.book.Volume.{Volume}
use Rattle.capture.specs.declared.captured.Stored.{Stored}
use Rattle.capture.specs.declared.captured.Taken.{Taken}
use Rattle.capture.proofs.GrowthLaws.{growth_goes_on, growth_keeps_captures, growth_keeps_payloads}
use Rattle.capture.proofs.PayloadLaws.{captures_have_one}
use Rattle.warc_text.specs.Books.{IsGroupText}
use Rattle.warc_text.specs.Ids.{IsUuid, id_of}
use Rattle.warc_text.specs.declared.id.IdKind.TheVariants.{Response}
use Rattle.warc_text.specs.Lines.{field, opening, type_line, version_line}
use Rattle.warc_text.specs.Records.{answer_text, group_text, info_opening, info_text, response_opening, response_text, revisit_front, revisit_opening, revisit_text}
use Rattle.warc_text.specs.References.{Reference, reference_of}
use Rattle.warc_text.specs.Sound.{IsSound}
use Rattle.warc_text.specs.StandsFor.{IdsDifferIn}
use Rattle.warc_text.proofs.GroupLaws.{groups_of_books_tell_their_captures}
use Rattle.warc_text.proofs.GrowthLaws.{GrowthKeeps, groups_stay, last_volume_goes_on, sealed_volumes_stay}
use Rattle.warc_text.proofs.InfoLaws.{info_front}
use Rattle.warc_text.proofs.OneTextLaws.{one_group, volumes_have_one_text}
use Rattle.archive_shelf.specs.Pieces.{IsFirstOf, IsFront, IsPiece}
use Rattle.archive_shelf.specs.Storing.{add_to_last, new_volume, with_capture, with_volume}
use Rattle.archive_shelf.proofs.EarlierSoundness.{growth_leaves_soundness}
use Rattle.archive_shelf.proofs.EntryLaws.{first_stays}
use Rattle.archive_shelf.proofs.ShortTexts.{located}
use Rattle.archive_shelf.proofs.StoringLaws.{capture_grows, captures_more, captures_stay, volume_grows}
use Rattle.archive_volumes.specs.Held.{is_filled}
use Rattle.archive_pieces.specs.NextPieces.{IsFrontBy, IsOfEmpty, LeadsOn, MayBegin, NextPiecesLeadOn, Takes}
use Rattle.archive_pieces.proofs.NextFronts.{front_by, group_is_short}
use Rattle.archive_pieces.proofs.NextPiece.{FilledIn, GrowIn, empty_is_unfilled, IsNext, filled_in, grow_in, is_filled_by, next_of}

-- ---- the source's next capture

record IsSome {A : Type 0} (xs : List A) : Type 0 where
  first : A
  rest : List A
  is : xs ≡ first ∷ rest

some_of : {A : Type 0} (xs : List A) → 0 < length xs → IsSome xs
some_of [] some = absurd (omega (arith, some))
some_of (x ∷ xs) some = record { first = x; rest = xs; is = refl }

first_capture : (v : Volume) (vs : List Volume) → FilledIn (v ∷ vs) → 0 < length (captures_in (v ∷ vs)) → IsSome v.captures
first_capture v [] filled some = let a = length-append v.captures [] in some_of v.captures (omega (arith, some, a))
first_capture v (w ∷ ws) filled some = some_of v.captures filled.0

-- the volumes with it, from which those of the source have grown
record HasMore (old new : List Volume) : Type 0 where
  stored : Stored
  begins : Option ℕ
  next : List Volume
  is : IsNext old next stored begins
  grows : GrowIn next new

no_nil : {A : Type 0} (x : A) (xs : List A) → x ∷ xs ≡ [] → ⊥
no_nil x xs e = cc

added_some : (volumes : List Volume) (stored : Stored) → volumes ≢ [] → add_to_last volumes stored ≢ []
added_some [] stored some = absurd (some refl)
added_some (v ∷ []) stored some = λ e. cc
added_some (v ∷ u ∷ vs) stored some = λ e. cc

behind_some : (volumes : List Volume) (v : Volume) → volumes ++ v ∷ [] ≢ []
behind_some [] v = λ e. cc
behind_some (w ∷ ws) v = λ e. cc

next_some : (old next : List Volume) (stored : Stored) (begins : Option ℕ) → IsNext old next stored begins → next ≢ []
next_some old next stored None is = λ none. added_some old stored is.0 (sym is.1 ∙ none)
next_some old next stored (Some born) is =
    λ none. added_some (old ++ new_volume born ∷ []) stored (behind_some old (new_volume born)) (sym is.1 ∙ none)

grow_behind : (v w : Volume) (next new : List Volume) → next ≢ [] → w ≡ v → GrowIn next new → GrowIn (v ∷ next) (w ∷ new)
grow_behind v w [] new some same grows = absurd (some refl)
grow_behind v w (n ∷ ns) new some same grows = (same, grows)

is_behind : (v u : Volume) (vs next : List Volume) (stored : Stored) (begins : Option ℕ) → IsNext (u ∷ vs) next stored begins
    → IsNext (v ∷ u ∷ vs) (v ∷ next) stored begins
is_behind v u vs next stored None is = (λ e. cc, ap (λ (l : List Volume). v ∷ l) is.1)
is_behind v u vs next stored (Some born) is =
    (inr (⊎_elim (λ none. absurd (no_nil u vs none)) (λ filled. filled) is.0), ap (λ (l : List Volume). v ∷ l) is.1)

more_after : (v w : Volume) (ws : List Volume) → HasGrown v w → (added : List Stored) → w.captures ≡ v.captures ++ added → FilledIn (w ∷ ws)
    → length (captures_in (v ∷ [])) < length (captures_in (w ∷ ws)) → HasMore (v ∷ []) (w ∷ ws)
more_after v w ws grown (s ∷ rest) is filled more = record {
  stored = s;
  begins = None;
  next = record { born = v.born; captures = v.captures ++ s ∷ [] } ∷ [];
  is = (λ e. cc, refl);
  grows = record { added = rest; born = grown.born; captures = is ∙ sym (append_assoc v.captures (s ∷ []) rest) };
}
more_after v w [] grown [] is filled more =
    let a = ap (λ (l : List Stored). length l) (is ∙ append-nil v.captures) in
    let b = length-append v.captures [] in
    let c = length-append w.captures [] in
    absurd (omega (arith, a, b, c, more))
more_after v w (x ∷ xs) grown [] is filled more =
    let same : w.captures ≡ v.captures = is ∙ append-nil v.captures in
    let a = ap (λ (l : List Stored). length l) same in
    let b = length-append v.captures [] in
    let c = length-append w.captures (captures_in (x ∷ xs)) in
    let f = first_capture x xs filled.1 (omega (arith, a, b, c, more)) in
    record {
      stored = f.first;
      begins = Some x.born;
      next = v ∷ record { born = x.born; captures = f.first ∷ [] } ∷ [];
      is = (inr (is_filled_by v (omega (arith, filled.0, a))), refl);
      grows = (λ i. record { born = grown.born i; captures = same i }, record { added = f.rest; born = refl; captures = f.is });
    }

none_grown : (u : Volume) (vs : List Volume) → GrowIn (u ∷ vs) [] → ⊥
none_grown u [] g = g
none_grown u (t ∷ ts) g = g

more_in : (old new : List Volume) → GrowIn old new → FilledIn new → length (captures_in old) < length (captures_in new) → HasMore old new
more_in [] [] grows filled more = absurd (omega (arith, more))
more_in [] (x ∷ xs) grows filled more =
    let f = first_capture x xs filled (omega (arith, more)) in
    record {
      stored = f.first;
      begins = Some x.born;
      next = record { born = x.born; captures = f.first ∷ [] } ∷ [];
      is = (inl refl, refl);
      grows = record { added = f.rest; born = refl; captures = f.is };
    }
more_in (v ∷ []) [] grows filled more = absurd grows
more_in (v ∷ []) (w ∷ ws) grows filled more = more_after v w ws grows grows.added grows.captures filled more
more_in (v ∷ u ∷ vs) [] grows filled more = absurd grows
more_in (v ∷ u ∷ vs) (w ∷ []) grows filled more = absurd (none_grown u vs grows.1)
more_in (v ∷ u ∷ vs) (w ∷ x ∷ xs) grows filled more =
    let a = length-append w.captures (captures_in (x ∷ xs)) in
    let b = length-append v.captures (captures_in (u ∷ vs)) in
    let e = ap (λ (y : Volume). length y.captures) grows.0 in
    let later = more_in (u ∷ vs) (x ∷ xs) grows.1 filled.1 (omega (arith, a, b, e, more)) in
    record {
      stored = later.stored;
      begins = later.begins;
      next = v ∷ later.next;
      is = is_behind v u vs later.next later.stored later.begins later.is;
      grows = grow_behind v w later.next (x ∷ xs) (next_some (u ∷ vs) later.next later.stored later.begins later.is) grows.0 later.grows;
    }

-- ---- a growth of lists is one of books

sealed_of : (old new : List Volume) → GrowIn old new → (k : ℕ) → k + 1 < length old → slice_get new k ≡ slice_get old k
sealed_of [] new grows k less = absurd (omega (arith, less))
sealed_of (v ∷ []) new grows k less = absurd (omega (arith, less))
sealed_of (v ∷ u ∷ vs) [] grows k less = absurd grows
sealed_of (v ∷ u ∷ vs) (w ∷ ws) grows zero less = ap (λ (x : Volume). Some x) grows.0
sealed_of (v ∷ u ∷ vs) (w ∷ ws) grows (suc k) less = sealed_of (u ∷ vs) ws grows.1 k (omega (arith, less))

same_some : {A : Type 0} (x y : A) → Some x ≡ Some y → x ≡ y
same_some x y e = cc

none_some : {A : Type 0} (x : A) → None ≡ Some x → ⊥
none_some x e = cc

last_of : (old new : List Volume) → GrowIn old new → (k : ℕ) (volume : Volume) → k + 1 ≡ length old → slice_get old k ≡ Some volume
    → HasGrownAt new k volume
last_of [] new grows k volume is placed = absurd (none_some volume placed)
last_of (v ∷ []) [] grows k volume is placed = absurd grows
last_of (v ∷ []) (w ∷ ws) grows zero volume is placed =
    record { volume = w; placed = refl; grown = subst (λ (x : Volume). HasGrown x w) (same_some v volume placed) grows }
last_of (v ∷ []) (w ∷ ws) grows (suc k) volume is placed = absurd (none_some volume placed)
last_of (v ∷ u ∷ vs) [] grows k volume is placed = absurd grows
last_of (v ∷ u ∷ vs) (w ∷ ws) grows zero volume is placed = absurd (omega (arith, is))
last_of (v ∷ u ∷ vs) (w ∷ ws) grows (suc k) volume is placed =
    let at = last_of (u ∷ vs) ws grows.1 k volume (omega (arith, is)) placed in
    record { volume = at.volume; placed = at.placed; grown = at.grown }

filled_last : (volumes : List Volume) (stored : Stored) → volumes ≢ [] → is_filled (add_to_last volumes stored) ≡ true
filled_last [] stored some = absurd (some refl)
filled_last (v ∷ []) stored some =
    is_filled_by (record { born = v.born; captures = v.captures ++ stored ∷ [] }) (let a = length-append v.captures (stored ∷ []) in omega (arith, a))
filled_last (v ∷ u ∷ []) stored some = filled_last (u ∷ []) stored (λ e. cc)
filled_last (v ∷ u ∷ t ∷ ts) stored some = filled_last (u ∷ t ∷ ts) stored (λ e. cc)

-- ---- a warcinfo is no group

front_is_no_group : (namespace : List ℕ) (k born : ℕ) (x : List ℕ) (n : ℕ) (taken : Taken) (digest : List ℕ) (same : Option Reference) (y : List ℕ)
    → info_text namespace k born ++ x ≡ group_text namespace n taken digest same ++ y → ⊥
unfolding info_text info_opening group_text answer_text response_text response_opening revisit_text revisit_opening revisit_front opening version_line type_line field
front_is_no_group namespace k born x n taken digest None y e =
    let a : slice_index (info_text namespace k born ++ x) 21 ≡ 119 = refl in
    let b : slice_index (group_text namespace n taken digest None ++ y) 21 ≡ 114 = refl in
    let c = ap (λ (l : List ℕ). slice_index l 21) e in
    omega (arith, a, b, c)
front_is_no_group namespace k born x n taken digest (Some reference) y e =
    let a : slice_index (info_text namespace k born ++ x) 21 ≡ 119 = refl in
    let b : slice_index (group_text namespace n taken digest (Some reference) ++ y) 21 ≡ 114 = refl in
    let c = ap (λ (l : List ℕ). slice_index l 21) e in
    omega (arith, a, b, c)

-- ---- the book with the source's next capture

-- what it is of a book to have a capture more
from_next : (book : Book) (next : List Volume) (stored : Stored) (begins : Option ℕ) → IsNext book.volumes next stored begins
    → Grows book (record { namespace = book.namespace; volumes = next }) × (captures_in next ≡ captures book ++ stored ∷ []) × (is_filled next ≡ true)
from_next book next stored None is = (
  subst (λ (l : List Volume). Grows book (record { namespace = book.namespace; volumes = l })) (sym is.1) (capture_grows book stored),
  ap (λ (l : List Volume). captures_in l) is.1 ∙ captures_more book.volumes stored is.0,
  ap (λ (l : List Volume). is_filled l) is.1 ∙ filled_last book.volumes stored is.0,
)
from_next book next stored (Some born) is =
    let room = with_volume book born in
    let some = behind_some book.volumes (new_volume born) in (
      subst (λ (l : List Volume). Grows book (record { namespace = book.namespace; volumes = l })) (sym is.1)
          (growth_goes_on book room (with_capture room stored) (volume_grows book born) (capture_grows room stored)),
      ap (λ (l : List Volume). captures_in l) is.1 ∙ (captures_more room.volumes stored some
          ∙ ap (λ (l : List Stored). l ++ stored ∷ []) (captures_stay book.volumes born)),
      ap (λ (l : List Volume). is_filled l) is.1 ∙ filled_last room.volumes stored some,
    )

next_same : (old new other : List Volume) (stored as_stored : Stored) (begins as_begins : Option ℕ) → IsNext old new stored begins
    → IsNext old other as_stored as_begins → begins ≡ as_begins → stored ≡ as_stored → new ≡ other
next_same old new other stored as_stored None None is as_is same equal =
    is.1 ∙ (ap (λ (s : Stored). add_to_last old s) equal ∙ sym as_is.1)
next_same old new other stored as_stored None (Some born) is as_is same equal = absurd (none_some born same)
next_same old new other stored as_stored (Some born) None is as_is same equal = absurd (none_some born (sym same))
next_same old new other stored as_stored (Some born) (Some b) is as_is same equal =
    is.1 ∙ ((λ i. add_to_last (old ++ new_volume (same_some born b same i) ∷ []) (equal i)) ∙ sym as_is.1)

last_get : (xs : List Stored) (s : Stored) → slice_get (xs ++ s ∷ []) (length xs) ≡ Some s
last_get [] s = refl
last_get (x ∷ xs) s = last_get xs s

-- each capture of a sound book has a group
record HasGroup (book : Book) (number : ℕ) : Type 0 where
  text : List ℕ
  is : IsGroupText book number text

has_group : (book : Book) (number : ℕ) (stored : Stored) → IsSound book → slice_get (captures book) number ≡ Some stored → HasGroup book number
has_group book number stored sound placed =
    let at = located book.volumes number stored placed in
    let one = volumes_have_one_text book at.k sound (slice_get_within book.volumes at.k at.volume at.placed) in
    let volume : one.is.volume ≡ at.volume = same_some one.is.volume at.volume (sym one.is.placed ∙ at.placed) in
    let inside = slice_get_within at.volume.captures at.place stored at.there in
    let long = ap (λ (v : Volume). length v.captures) volume in
    let count = one.is.count in
    let within : at.place < length one.is.groups = omega (arith, inside, count, long) in
    record {
      text = slice_index_or one.is.groups at.place [];
      is = subst (λ (n : ℕ). IsGroupText book n (slice_index_or one.is.groups at.place [])) (sym at.numbered) (one.is.each at.place within);
    }

-- ---- which volume a capture is the first of, in both

record HasBoth (new : Book) (k : ℕ) (old : Volume) : Type 0 where
  volume : Volume
  placed : slice_get new.volumes k ≡ Some volume
  born : volume.born ≡ old.born
  longer : length old.captures ≤ length volume.captures

both : (old new : Book) → Grows old new → (k : ℕ) (volume : Volume) → slice_get old.volumes k ≡ Some volume → HasBoth new k volume
both old new grows k volume placed = ⊎_elim
    (λ (last : k + 1 ≡ length old.volumes).
    let at = grows.last k volume last placed in
    let a = ap (λ (l : List Stored). length l) at.grown.captures in
    let b = length-append volume.captures at.grown.added in
    record { volume = at.volume; placed = at.placed; born = at.grown.born; longer = omega (arith, a, b) })
    (λ (less : k + 1 < length old.volumes).
    record { volume = volume; placed = grows.sealed k less ∙ placed; born = refl; longer = omega arith })
    (eq-or-lt_of_le (let w = slice_get_within old.volumes k volume placed in omega (arith, w)))

record HasAt (volumes : List Volume) (k : ℕ) : Type 0 where
  volume : Volume
  placed : slice_get volumes k ≡ Some volume

has_at : (volumes : List Volume) (k : ℕ) → k < length volumes → HasAt volumes k
has_at [] k less = absurd (omega (arith, less))
has_at (v ∷ vs) zero less = record { volume = v; placed = refl }
has_at (v ∷ vs) (suc k) less = let later = has_at vs k (omega (arith, less)) in record { volume = later.volume; placed = later.placed }

some_by : (n : ℕ) → not (nat_eq n 0) ≡ true → 0 < n
some_by zero e = absurd (true≢false (sym e))
some_by (suc n) e = omega arith

filled_at : (volumes : List Volume) (k : ℕ) (v : Volume) → is_filled volumes ≡ true → k + 1 ≡ length volumes → slice_get volumes k ≡ Some v
    → 0 < length v.captures
filled_at [] k v filled last placed = absurd (none_some v placed)
filled_at (w ∷ []) zero v filled last placed =
    let some = some_by (length w.captures) filled in
    let same = ap (λ (x : Volume). length x.captures) (same_some w v placed) in omega (arith, some, same)
filled_at (w ∷ []) (suc k) v filled last placed = absurd (none_some v placed)
filled_at (w ∷ u ∷ vs) zero v filled last placed = absurd (omega (arith, last))
filled_at (w ∷ u ∷ vs) (suc k) v filled last placed = filled_at (u ∷ vs) k v filled (omega (arith, last)) placed

-- the captures of volumes that have grown stand in the first of the grown ones
at_least : (old new : List Volume) → GrowIn old new → (k : ℕ) → length old ≤ k → length (captures_in old) ≤ length (captures_in (take k new))
at_least [] new grows k le = omega arith
at_least (v ∷ []) [] grows k le = absurd grows
at_least (v ∷ []) (w ∷ ws) grows zero le = absurd (omega (arith, le))
at_least (v ∷ []) (w ∷ ws) grows (suc k) le =
    let a = length-append v.captures [] in
    let b = length-append w.captures (captures_in (take k ws)) in
    let c = ap (λ (l : List Stored). length l) grows.captures in
    let d = length-append v.captures grows.added in
    omega (arith, a, b, c, d)
at_least (v ∷ u ∷ vs) [] grows k le = absurd grows
at_least (v ∷ u ∷ vs) (w ∷ ws) grows zero le = absurd (omega (arith, le))
at_least (v ∷ u ∷ vs) (w ∷ ws) grows (suc k) le =
    let later = at_least (u ∷ vs) ws grows.1 k (omega (arith, le)) in
    let a = length-append v.captures (captures_in (u ∷ vs)) in
    let b = length-append w.captures (captures_in (take k ws)) in
    let e = ap (λ (y : Volume). length y.captures) grows.0 in
    omega (arith, later, a, b, e)

-- ---- two fronts of one book

module _ (book : Book) (uuid : IsUuid book.namespace) where
  filled_apart : {A : Type 0} (front : List ℕ) → is_filled book.volumes ≡ true → IsOfEmpty book front → A
  filled_apart front filled e = absurd (true≢false (sym filled ∙ empty_is_unfilled book.volumes e.number e.volume e.last e.placed e.none))

  begin_apart : {A : Type 0} (front : List ℕ) → MayBegin book → IsOfEmpty book front → A
  begin_apart front (inl none) e = let a = ap (λ (l : List Volume). length l) none in let b = e.last in absurd (omega (arith, a, b))
  begin_apart front (inr filled) e = filled_apart front filled e

  pub record IsGroupHere (n : ℕ) (text : List ℕ) : Type 0 where
    pub taken : Taken
    pub digest : List ℕ
    pub same : Option Reference
    pub is : text ≡ group_text book.namespace n taken digest same

  group_apart : {A : Type 0} (n k born : ℕ) (f x g y : List ℕ) → IsGroupHere n x → f ≡ [] → g ≡ info_text book.namespace k born → f ++ x ≡ g ++ y → A
  group_apart n k born f x g y is none info e =
      absurd (front_is_no_group book.namespace k born y n is.taken is.digest is.same []
      (ap (λ (l : List ℕ). l ++ y) (sym info) ∙ (sym e ∙ (ap (λ (l : List ℕ). l ++ x) none ∙ (is.is ∙ sym (append-nil _))))))

  inside : (n : ℕ) (f x g y : List ℕ) → ((is_filled book.volumes ≡ true) × (f ≡ [])) ⊎ IsOfEmpty book f
      → ((is_filled book.volumes ≡ true) × (g ≡ [])) ⊎ IsOfEmpty book g → f ++ x ≡ g ++ y → x ≡ y
  inside n f x g y (inl a) (inl b) e = ap (λ (l : List ℕ). l ++ x) (sym a.1) ∙ (e ∙ ap (λ (l : List ℕ). l ++ y) b.1)
  inside n f x g y (inl a) (inr b) e = filled_apart g a.0 b
  inside n f x g y (inr a) (inl b) e = filled_apart f b.0 a
  inside n f x g y (inr a) (inr b) e =
      let p = a.last in
      let q = b.last in
      let k : a.number ≡ b.number = omega (arith, p, q) in
      let v : a.volume ≡ b.volume
      = same_some a.volume b.volume (sym a.placed ∙ (ap (λ (m : ℕ). slice_get book.volumes m) k ∙ b.placed)) in
      let f_is : f ≡ info_text book.namespace b.number b.volume.born
      = a.info ∙ (λ i. info_text book.namespace (k i) (v i).born) in
      (info_front book.namespace book.namespace b.number b.volume.born b.volume.born x y uuid uuid
      (ap (λ (l : List ℕ). l ++ x) (sym f_is) ∙ (e ∙ ap (λ (l : List ℕ). l ++ y) b.info))).2

  pub fronts : (n : ℕ) (f x g y : List ℕ) (a b : Option ℕ) → IsFrontBy book f a → IsFrontBy book g b → IsGroupHere n x → IsGroupHere n y
      → f ++ x ≡ g ++ y → (a ≡ b) × (x ≡ y)
  fronts n f x g y None None is other here there e = (refl, inside n f x g y is other e)
  fronts n f x g y None (Some born) (inl is) other here there e = group_apart n (length book.volumes) born f x g y here is.1 other.2 e
  fronts n f x g y None (Some born) (inr is) other here there e = begin_apart f other.0 is
  fronts n f x g y (Some born) None is (inl other) here there e = group_apart n (length book.volumes) born g y f x there other.1 is.2 (sym e)
  fronts n f x g y (Some born) None is (inr other) here there e = begin_apart g is.0 other
  fronts n f x g y (Some born) (Some b) is other here there e =
      let t = info_front book.namespace book.namespace (length book.volumes) born b x y uuid uuid
      (ap (λ (l : List ℕ). l ++ x) (sym is.2) ∙ (e ∙ ap (λ (l : List ℕ). l ++ y) other.2)) in
      (ap (λ (m : ℕ). some_number m) t.1, t.2) where
        some_number : ℕ → Option ℕ
        some_number m = Some m

-- ---- the law

keep : GrowthKeeps
keep = record { captures = growth_keeps_captures; payloads = growth_keeps_payloads }

group_here : (book : Book) (uuid : IsUuid book.namespace) (other : Book) → other.namespace ≡ book.namespace → (n : ℕ) (text : List ℕ)
    → IsGroupText other n text → IsGroupHere book uuid n text
group_here book uuid other namespaces n text is = record {
  taken = taken_back is.stored;
  digest = sha1 is.payload;
  same = reference_of other.namespace is.same;
  is = is.composed ∙ ap (λ (m : List ℕ). group_text m n (taken_back is.stored) (sha1 is.payload) (reference_of other.namespace is.same)) namespaces;
}

module _ (book source : Book) (bytes : List ℕ) (sound : IsSound source) (grown : Grows book source)
    (more : length (captures book) < length (captures source)) (piece : IsPiece source (length (captures book)) bytes) where
  abbrev number : ℕ
  number = length (captures book)

  found : HasMore book.volumes source.volumes
  found = more_in book.volumes source.volumes (grow_in book.volumes source.volumes grown.sealed grown.last)
      (filled_in source.volumes sound.sound.filled) more

  abbrev next : Book
  next = record { namespace = book.namespace; volumes = found.next }

  next_grows : Grows next source
  next_grows = record {
    namespace = grown.namespace;
    sealed = sealed_of found.next source.volumes found.grows;
    last = last_of found.next source.volumes found.grows;
  }

  of_next : Grows book next × (captures next ≡ captures book ++ found.stored ∷ []) × (is_filled found.next ≡ true)
  of_next = from_next book found.next found.stored found.begins found.is

  sound_next : IsSound next
  sound_next = growth_leaves_soundness growth_keeps_captures (sealed_volumes_stay keep) (last_volume_goes_on keep) volumes_have_one_text next source
      next_grows sound

  count_next : length (captures next) ≡ number + 1
  count_next = ap (λ (l : List Stored). length l) of_next.1 ∙ length-append (captures book) (found.stored ∷ [])

  placed_next : slice_get (captures next) number ≡ Some found.stored
  placed_next = ap (λ (l : List Stored). slice_get l number) of_next.1 ∙ last_get (captures book) found.stored

  group_next : IsGroupText next number piece.group
  group_next =
      let has = has_group next number found.stored sound_next placed_next in
      let later = groups_stay keep next source number has.text next_grows has.is in
      subst (λ (l : List ℕ). IsGroupText next number l) (one_group captures_have_one source number has.text piece.group later piece.is).texts has.is

  -- the volume of which the capture is the first is the same in both
  to_source : (k : ℕ) → IsFirstOf next number k → IsFirstOf source number k
  to_source k first =
      let there = both next source next_grows k first.volume first.placed in
      let some = first.some in
      let longer = there.longer in
      record {
        volume = there.volume;
        placed = there.placed;
        some = omega (arith, some, longer);
        first = first.first ∙ sym (first_stays next source k next_grows (slice_get_within next.volumes k first.volume first.placed));
      }

  within_next : (k : ℕ) → IsFirstOf source number k → k < length found.next
  within_next k first = ⊎_elim
      (λ (less : k < length found.next). less)
      (λ (past : length found.next ≤ k).
      let least = at_least found.next source.volumes found.grows k past in
      let here = first.first in
      absurd (omega (arith, least, here, count_next)))
      (cases_lt k (length found.next))

  from_source : (k : ℕ) (first : IsFirstOf source number k) → (one : IsFirstOf next number k) × (first.volume.born ≡ one.volume.born)
  from_source k first =
      let less = within_next k first in
      let here = has_at found.next k less in
      let there = both next source next_grows k here.volume here.placed in
      let same : there.volume ≡ first.volume = same_some there.volume first.volume (sym there.placed ∙ first.placed) in
      let some : 0 < length here.volume.captures = ⊎_elim
      (λ (last : k + 1 ≡ length found.next). filled_at found.next k here.volume of_next.2 last here.placed)
      (λ (sealed : k + 1 < length found.next).
      let alike : here.volume ≡ first.volume
      = same_some here.volume first.volume (sym here.placed ∙ (sym (next_grows.sealed k sealed) ∙ first.placed)) in
      let a = ap (λ (v : Volume). length v.captures) alike in
      let b = first.some in
      omega (arith, a, b))
      (eq-or-lt_of_le (omega (arith, less))) in (
        record {
          volume = here.volume;
          placed = here.placed;
          some = some;
          first = first.first ∙ first_stays next source k next_grows less;
        },
        ap (λ (v : Volume). v.born) (sym same) ∙ there.born,
      )

  front_next : IsFront source number piece.front → IsFront next number piece.front
  front_next (inl b) =
      let one = from_source b.0 b.1 in
      inl (b.0, one.0, b.2 ∙ (λ i. info_text (grown.namespace i) b.0 (one.1 i)))
  front_next (inr n) = inr (λ k first. n.0 k (to_source k first), n.1)

  takes_next : Takes book bytes next
  takes_next = record {
    sound = sound_next;
    grown = of_next.0;
    count = count_next;
    last = of_next.2;
    piece = record {
      front = piece.front;
      group = piece.group;
      before = front_next piece.before;
      is = group_next;
      composed = piece.composed;
    };
  }

  ids_next : IdsDifferIn source → IdsDifferIn next
  ids_next differ m n p q same =
      differ m n (omega (arith, p, count_next, more)) (omega (arith, q, count_next, more))
      (subst (λ (l : List ℕ). id_of l Response m ≡ id_of l Response n) (sym grown.namespace) same)

  -- no other one has the piece
  only : IdsDifferIn source → (after : Book) → Takes book bytes after → after ≡ next
  unfolding takes_next
  only differ after takes =
      let has = next_of book after takes.grown takes.sound.sound.filled takes.last takes.count in
      let uuid : IsUuid book.namespace = sound_next.namespace_is in
      let mine = front_by book next bytes takes_next found.begins found.stored found.is in
      let yours = front_by book after bytes takes has.begins has.stored has.is in
      let of_after = from_next book after.volumes has.stored has.begins has.is in
      let placed_after : slice_get (captures after) number ≡ Some has.stored
      = ap (λ (l : List Stored). slice_get l number) of_after.1 ∙ last_get (captures book) has.stored in
      let told = fronts book uuid number takes_next.piece.front takes_next.piece.group takes.piece.front takes.piece.group found.begins has.begins
      mine yours (group_here book uuid next refl number takes_next.piece.group group_next)
      (group_here book uuid after takes.grown.namespace number takes.piece.group takes.piece.is)
      (sym takes_next.piece.composed ∙ takes.piece.composed) in
      let stored : found.stored ≡ has.stored
      = (groups_of_books_tell_their_captures next after number found.stored has.stored piece.group takes.piece.group [] [] sound_next takes.sound
      (ids_next differ) (sym takes.grown.namespace) placed_next placed_after group_next takes.piece.is
      (group_is_short next number piece.group sound_next group_next) (group_is_short after number takes.piece.group takes.sound takes.piece.is)
      (ap (λ (l : List ℕ). l ++ []) told.1)).0 in
      let volumes : after.volumes ≡ found.next
      = sym (next_same book.volumes found.next after.volumes found.stored has.stored found.begins has.begins found.is has.is told.0 stored) in
      λ i. record { namespace = takes.grown.namespace i; volumes = volumes i }

  leads : LeadsOn book source bytes
  leads = record { next = next; takes = takes_next; grown = next_grows; only = only }

pub next_pieces : NextPiecesLeadOn
next_pieces book source bytes sound grown more piece = leads book source bytes sound grown more piece
