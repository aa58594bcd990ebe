-- A book takes a piece with the capture that was read of it, or there is none that does.
use Rattle.std.proofs.Common.{◌≡◌, ◌≢◌, ℕ, zero, suc, ◌+◌, ◌-◌, ◌^◌, ◌<◌, ◌≤◌, true, List, [], ◌∷◌, ◌++◌, length, get_or, Option, Some, None, refl, sym, ap, ◌∙◌, inl, inr, ⊎_elim, arith, length-append, take}
use Rattle.std.specs.Prelude.{slice_get}
use Rattle.std.proofs.lemmas.Bool.{false≢true}
use Rattle.std.proofs.lemmas.List.{get_or_push, length_push}
use Rattle.capture.proofs.GrowthLaws.{growth_goes_on}
use Rattle.capture.specs.Captures.{captures, captures_in, taken_back}
use Rattle.capture.specs.Growth.{Grows}
use Rattle.capture.specs.declared.book.Book.{Book}
use Rattle.capture.specs.declared.book.Volume.{Volume}
use Rattle.capture.specs.declared.captured.Stored.{Stored}
use Rattle.warc_text.proofs.BookLaws.{get_behind}
use Rattle.warc_text.specs.Books.{AreVolumeTexts, IsGroupText}
use Rattle.warc_text.specs.Ids.{IsUuid}
use Rattle.warc_text.specs.Records.{group_text, info_text}
use Rattle.warc_text.specs.References.{Reference}
use Rattle.warc_text.specs.Sound.{IsSound}
use Rattle.warc_scan.specs.Groups.{reference_in}
use Rattle.warc_scan.specs.declared.group.Group.{Group}
use Rattle.warc_scan.specs.declared.group.Revisited.{Revisited}
use Rattle.archive_shelf.proofs.GainingTexts.{last_placed, number_in_last}
use Rattle.archive_shelf.proofs.StoringLaws.{capture_grows, captures_more, captures_stay, volume_grows}
use Rattle.archive_shelf.specs.Gaining.{CapturesAddTheirGroup, VolumesAddTheirText}
use Rattle.archive_shelf.specs.Pieces.{IsFirstOf, IsFront, IsSomePiece}
use Rattle.archive_shelf.specs.Storing.{add_to_last, new_volume, with_capture, with_volume}
use Rattle.archive_gathering.specs.Noting.{referring}
use Rattle.archive_gathering.specs.Revisits.{RefersToNone}
use Rattle.archive_volumes.specs.Held.{is_filled}
use Rattle.archive_pieces.specs.NextPieces.{IsFrontBy, Takes}
use Rattle.archive_pieces.specs.PieceParts.{IsNoPiece, IsReadAs, book_by, room_by}
use Rattle.archive_pieces.specs.PieceReady.{IsPastBounds, MayHold, end_by, end_in}
use Rattle.archive_pieces.proofs.NextParts.{has_original, more_texts, request_is_short, text_is_short}
use Rattle.archive_pieces.proofs.NextPiece.{is_filled_by, some_in}

-- ---- what stands before the group

no_some : {A : Type 0} (x : A) → None ≡ Some x → ⊥
no_some x e = cc

-- behind a capture of its volume it is the first of none
no_first : (vs : List Volume) (stored : Stored) (k : ℕ) (v : Volume) → is_filled vs ≡ true → slice_get (add_to_last vs stored) k ≡ Some v
    → length (captures_in vs) ≡ length (captures_in (take k (add_to_last vs stored))) → ⊥
no_first [] stored k v filled at same = cc
no_first (u ∷ []) stored zero v filled at same = omega (arith, some_in (u ∷ []) filled, same)
no_first (u ∷ []) stored (suc k) v filled at same = no_some v at
no_first (u ∷ w ∷ ws) stored zero v filled at same =
    omega (arith, some_in (w ∷ ws) filled, same, length-append u.captures (captures_in (w ∷ ws)))
no_first (u ∷ w ∷ ws) stored (suc k) v filled at same =
    no_first (w ∷ ws) stored k v filled at (omega (
      arith,
      same,
      length-append u.captures (captures_in (w ∷ ws)),
      length-append u.captures (captures_in (take k (add_to_last (w ∷ ws) stored))),
    ))

-- in a volume without captures it is the first
first_in : (room : Book) (stored : Stored) (k : ℕ) (v : Volume) → k + 1 ≡ length room.volumes → slice_get room.volumes k ≡ Some v → v.captures ≡ []
    → IsFirstOf (with_capture room stored) (length (captures room)) k
first_in room stored k v last at none = record {
  volume = record { born = v.born; captures = v.captures ++ stored ∷ [] };
  placed = last_placed room.volumes stored k v last at;
  some = let long = length-append v.captures (stored ∷ []) in omega (arith, long);
  first = omega (arith, number_in_last room stored k v last at, ap (λ (l : List Stored). length l) none);
}

front_after : (book : Book) (stored : Stored) (front : List ℕ) (begins : Option ℕ) → IsFrontBy book front begins
    → IsFront (with_capture (room_by book begins) stored) (length (captures book)) front
unfolding first_in
front_after book stored front None (inl filled) =
    inr (λ k is. no_first book.volumes stored k is.volume filled.0 is.placed is.first, filled.1)
front_after book stored front None (inr empty) =
    inl (empty.number, first_in book stored empty.number empty.volume empty.last empty.placed empty.none, empty.info)
front_after book stored front (Some born) is =
    let room : Book = with_volume book born in
    let more = length-append book.volumes (new_volume born ∷ []) in
    let at : slice_get room.volumes (length book.volumes) ≡ Some (new_volume born)
    = get_behind room.volumes book.volumes (new_volume born) [] (length book.volumes) refl refl in
    let first = first_in room stored (length book.volumes) (new_volume born) (omega (arith, more)) at refl in
    let same : length (captures room) ≡ length (captures book) = ap (λ (l : List Stored). length l) (captures_stay book.volumes born) in
    inl (
      length book.volumes,
      record {
        volume = first.volume;
        placed = first.placed;
        some = first.some;
        first = sym same ∙ first.first;
      },
      is.2,
    )

-- ---- the book with the capture

filled_more : (vs : List Volume) (stored : Stored) → 0 < length vs → is_filled (add_to_last vs stored) ≡ true
filled_more [] stored some = absurd (omega (arith, some))
filled_more (v ∷ []) stored some =
    let long = length-append v.captures (stored ∷ []) in
    is_filled_by (record { born = v.born; captures = v.captures ++ stored ∷ [] }) (omega (arith, long))
filled_more (v ∷ u ∷ []) stored some = filled_more (u ∷ []) stored (omega arith)
filled_more (v ∷ u ∷ w ∷ ws) stored some = filled_more (u ∷ w ∷ ws) stored (omega arith)

room_some : (book : Book) (begins : Option ℕ) → MayHold book begins → 0 < length (room_by book begins).volumes
room_some book None may = may
room_some book (Some born) may = let more = length-append book.volumes (new_volume born ∷ []) in omega (arith, more)

room_same : (book : Book) (begins : Option ℕ) → captures (room_by book begins) ≡ captures book
room_same book None = refl
room_same book (Some born) = captures_stay book.volumes born

some_not_nil : (vs : List Volume) → 0 < length vs → vs ≢ []
some_not_nil [] some = absurd (omega (arith, some))
some_not_nil (v ∷ vs) some = λ e. cc

grown_by : (book : Book) (begins : Option ℕ) (stored : Stored) → Grows book (with_capture (room_by book begins) stored)
grown_by book None stored = capture_grows book stored
grown_by book (Some born) stored =
    growth_goes_on book (with_volume book born) (with_capture (with_volume book born) stored) (volume_grows book born)
    (capture_grows (with_volume book born) stored)

some_filled : (vs : List Volume) → is_filled vs ≡ true → 0 < length vs
some_filled [] is = absurd (false≢true is)
some_filled (v ∷ vs) is = omega arith

-- what stands before the group tells that there is room
pub may_hold : (book : Book) (front : List ℕ) (begins : Option ℕ) → IsFrontBy book front begins → MayHold book begins
may_hold book front None (inl filled) = some_filled book.volumes filled.0
may_hold book front None (inr empty) = omega (arith, empty.last)
may_hold book front (Some born) is = (is.0, is.1)

pub same_end : (book : Book) (front : List ℕ) (begins : Option ℕ) (at last : ℕ) → IsFrontBy book front begins → at ≡ length front
    → end_by begins at last ≡ end_in book last begins
same_end book front None at last is at_is = refl
same_end book front (Some born) at last is at_is = at_is ∙ ap (λ (l : List ℕ). length l) is.2

namespace_by : (book : Book) (begins : Option ℕ) → (room_by book begins).namespace ≡ book.namespace
namespace_by book None = refl
namespace_by book (Some born) = refl

module _ (book : Book) (bytes : List ℕ) (begins : Option ℕ) (at : ℕ) (group : Group) (read : IsReadAs book bytes begins at group) (first : Option ℕ) where
  abbrev stored : Stored
  stored = referring group.stored first

  abbrev after : Book
  after = book_by book begins group first

  may : MayHold book begins
  may = may_hold book read.front begins read.is_front

  gains : captures after ≡ captures book ++ stored ∷ []
  gains = captures_more (room_by book begins).volumes stored (some_not_nil (room_by book begins).volumes (room_some book begins may))
      ∙ ap (λ (l : List Stored). l ++ stored ∷ []) (room_same book begins)

  -- with it the book takes the piece
  pub takes_by : IsSound after → IsGroupText after (length (captures book)) read.text → Takes book bytes after
  takes_by sound is = record {
    sound = sound;
    grown = grown_by book begins stored;
    count = ap (λ (l : List Stored). length l) gains ∙ length-append (captures book) (stored ∷ []);
    last = filled_more (room_by book begins).volumes stored (room_some book begins may);
    piece = record {
      front = read.front;
      group = read.text;
      before = front_after book stored read.front begins read.is_front;
      is = is;
      composed = read.composed;
    };
  }

  -- whatever is told, the bytes are some piece in its place
  pub some_piece : IsSomePiece after (length (captures book)) bytes
  some_piece = record {
    front = read.front;
    taken = taken_back group.stored;
    digest = group.digest;
    same = reference_in group.same;
    before = front_after book stored read.front begins read.is_front;
    composed = read.composed ∙ ap (λ (l : List ℕ). read.front ++ l) read.is.composed
        ∙ ap (λ (n : List ℕ). read.front ++ group_text n (length (captures book)) (taken_back group.stored) group.digest (reference_in group.same))
        (sym (namespace_by book begins));
  }

-- ---- no book takes it

record HasReference (same : Option Revisited) : Type 0 where
  reference : Reference
  is : reference_in same ≡ Some reference

reference_by : (same : Option Revisited) → same ≢ None → HasReference same
reference_by None some = absurd (some refl)
reference_by (Some r) some = record { reference = record { id = r.id; uri = r.uri; date = r.date }; is = refl }

last_end : (texts : List (List ℕ)) (book : Book) (begins : Option ℕ) (front : List ℕ) (at last : ℕ) → IsFrontBy book front begins → at ≡ length front
    → (begins ≡ None → length (get_or texts (length texts - 1) []) ≡ last)
    → length (get_or (more_texts book texts begins) (length (more_texts book texts begins) - 1) []) ≡ end_by begins at last
last_end texts book None front at last is at_is long = long refl
last_end texts book (Some born) front at last is at_is long =
    let info = info_text book.namespace (length book.volumes) born in
    ap (λ (l : List ℕ). length l) (get_or_push texts info [] (length (texts ++ info ∷ []) - 1) (omega (arith, length_push texts info)))
    ∙ sym (at_is ∙ ap (λ (l : List ℕ). length l) is.2)

module _ (book : Book) (uuid : IsUuid book.namespace) (bytes : List ℕ) (begins : Option ℕ) (at : ℕ) (group : Group)
    (read : IsReadAs book bytes begins at group) where
  -- it passes a bound
  pub past_is_none : VolumesAddTheirText → CapturesAddTheirGroup → (texts : List (List ℕ)) → AreVolumeTexts book texts → (last : ℕ)
      → (begins ≡ None → length (get_or texts (length texts - 1) []) ≡ last) → IsPastBounds group (end_by begins at last) → IsNoPiece book bytes
  past_is_none add_volume add_group texts are last long past after takes = ⊎_elim
      (λ (request : 2 ^ 34 ≤ length group.stored.request).
      omega (arith, request, request_is_short book uuid bytes begins at group read after takes))
      (λ (ends : 2 ^ 62 ≤ end_by begins at last + group.len).
      omega (
        arith,
        ends,
        read.is.places.len,
        last_end texts book begins read.front at last read.is_front read.at_is long,
        text_is_short book uuid bytes begins at group read after takes add_volume add_group texts are,
      ))
      past

  -- it refers to no capture
  pub lost_is_none : RefersToNone book group → IsNoPiece book bytes
  lost_is_none none after takes =
      let reference = reference_by group.same none.some in
      let of = has_original book uuid bytes begins at group read after takes reference.reference reference.is in
      none.none of.0 of.1
