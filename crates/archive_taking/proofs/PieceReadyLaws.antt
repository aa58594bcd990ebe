-- What was read of a piece can be written and kept.
use Rattle.std.proofs.Common.{◌≡◌, ℕ, ◌+◌, ◌-◌, ◌<◌, ◌≤◌, ◌^◌, Bool, IsTrue, List, [], ◌∷◌, ◌++◌, length, Option, Some, None, refl, sym, ap, subst, ◌∙◌, arith, append_assoc, length-append}
use Rattle.std.specs.Prelude.{drop, slice_get, take}
use Rattle.std.proofs.Math.Seq.{drop-append_seam, take-append_seam}
use Rattle.std.proofs.lemmas.Bool.{false≢true}
use Rattle.std.proofs.lemmas.Grind.{get_or-set_at}
use Rattle.std.proofs.lemmas.List.{append-nil, length-set}
use Rattle.std.proofs.lemmas.Option.{slice_get_within}
use Rattle.capture.specs.Captures.{captures, kept_wire, taken_back}
use Rattle.capture.specs.Tails.{IsCommitted}
use Rattle.capture.specs.Target.{is_accepted_uri}
use Rattle.capture.specs.declared.book.Book.{Book}
use Rattle.capture.specs.declared.captured.Kept.{Kept}
use Rattle.capture.specs.declared.captured.Kept.TheVariants.{Wire, Same, Cut}
use Rattle.capture.specs.declared.captured.Stored.{Stored}
use Rattle.capture.specs.declared.captured.Taken.{Taken}
use Rattle.digest32.specs.Base32.{IsDigest}
use Rattle.disk_model.specs.declared.disk.Disk.{Ghosts}
use Rattle.time_text.specs.Texts.{InRange}
use Rattle.warc_journal.specs.Journals.{IsInStep, texts}
use Rattle.warc_journal.specs.Texts.{with_more}
use Rattle.warc_journal.specs.declared.place.Place.{Place}
use Rattle.warc_text.proofs.BookLaws.{get_behind}
use Rattle.warc_text.proofs.LengthLaws.{response_group_length, revisit_group_length}
use Rattle.warc_text.specs.Books.{AreVolumeTexts, IsGroupText, same_of}
use Rattle.warc_text.specs.Groups.{answer_block}
use Rattle.warc_text.specs.Lengths.{request_length}
use Rattle.warc_text.specs.Records.{group_text}
use Rattle.warc_text.specs.References.{Reference, reference_to}
use Rattle.warc_text.specs.Sound.{IsSound}
use Rattle.warc_text.specs.StandsFor.{commit_byte}
use Rattle.warc_scan.specs.Groups.{IsAnswer, IsGroup, reference_in}
use Rattle.warc_scan.specs.declared.group.Group.{Group}
use Rattle.warc_scan.specs.declared.group.Revisited.{Revisited}
use Rattle.archive_shelf.proofs.ComparingLaws.{placed_later}
use Rattle.archive_shelf.proofs.GainingSoundness.{volumes_keep_soundness}
use Rattle.archive_shelf.proofs.ShortTexts.{is_digest}
use Rattle.archive_shelf.specs.Comparing.{KeepsWire}
use Rattle.archive_shelf.specs.Gaining.{VolumesAddTheirText}
use Rattle.archive_shelf.specs.Storing.{with_capture}
use Rattle.archive_gathering.proofs.CaptureLaws.{text_is}
use Rattle.archive_gathering.proofs.PlaceLaws.{answer_and_request}
use Rattle.archive_gathering.proofs.SpottedLaws.{sound_taken, spot_placed}
use Rattle.archive_gathering.proofs.TakeLaws.{captured}
use Rattle.archive_gathering.specs.Noting.{IsGroupAt, IsWithin, referring}
use Rattle.archive_gathering.specs.Reading.{Laws}
use Rattle.archive_gathering.specs.Revisits.{IsCaptureOf, IsOriginalOf, RefersRight}
use Rattle.archive_volumes.proofs.GroupPlaces.{in_last_volume}
use Rattle.archive_volumes.proofs.Places.{block_in_group, stands_long}
use Rattle.archive_volumes.proofs.RoomLaws.{texts_count}
use Rattle.archive_volumes.proofs.SpotLaws.{form_read}
use Rattle.archive_volumes.proofs.WayLaws.{room_captures, room_gains, room_namespace}
use Rattle.archive_volumes.specs.Held.{book_of, stored_in}
use Rattle.archive_volumes.specs.Ready.{CanCommit, spot_in}
use Rattle.archive_volumes.specs.Spots.{HasOwnDigest, HasPlace, IsInVolume, IsPlaced, IsSpotOf, RefersBack, form_of, spot_of, text_at}
use Rattle.archive_volumes.specs.Volumes.{HoldsBook, IsMeasured}
use Rattle.archive_volumes.specs.Writing.{HasRoomFor, end_with, texts_with, with_prepared}
use Rattle.archive_volumes.specs.declared.ready.Ready.{Ready}
use Rattle.archive_volumes.specs.declared.room.Prepared.{Prepared}
use Rattle.archive_volumes.specs.declared.spot.Spot.{Spot}
use Rattle.archive_volumes.specs.declared.volumes.Volumes.{Volumes}
use Rattle.archive_pieces.specs.PieceParts.{room_by}
use Rattle.archive_pieces.specs.PieceReady.{IsReadyGroup, RefersSo}
use Rattle.archive_core.proofs.ExitLaws.{texts_by}
use Rattle.archive_pieces.proofs.PieceReading.{group_is_committed}
use Rattle.archive_core.proofs.ReadyLaws.{with_count, with_end}

-- there is room for it, in the last volume or in one that is begun, born at that time
pub record HasRoomBy {D : Type 0} (volumes_now : Volumes D) (begins : Option ℕ) (len : ℕ) (prepared : Option Prepared) : Type 0 where
  pub room : HasRoomFor volumes_now prepared
  pub room_is : with_prepared (book_of volumes_now.held) prepared ≡ room_by (book_of volumes_now.held) begins
  pub some : 0 < length (with_prepared (book_of volumes_now.held) prepared).volumes
  pub fits : end_with volumes_now prepared + len < 2 ^ 62

-- ---- a group, by its text

has_digest : (method head digest : List ℕ) (same : Option Reference) (kept : Kept) → IsAnswer method head digest same kept → IsDigest digest
has_digest method head digest same (Wire wire) is = subst (λ (d : List ℕ). IsDigest d) (sym is.1.digest_is) (is_digest is.1.payload)
has_digest method head digest same (Same number) is = is.1.digest_is
has_digest method head digest same (Cut wire) is = subst (λ (d : List ℕ). IsDigest d) (sym is.1.digest_is) (is_digest is.1.payload)

-- its head stands in it
abbrev behind_head : Taken → Option Reference → List ℕ
behind_head taken None = taken.wire
behind_head taken (Some reference) = []

block_begins : (taken : Taken) (same : Option Reference) → answer_block taken same ≡ taken.head ++ behind_head taken same
block_begins taken None = refl
block_begins taken (Some reference) = sym (append-nil taken.head)

front_by : (head_at block first asked all front : ℕ) → head_at + block + 4 ≡ first → all ≡ first + asked → all ≡ front + block + (4 + asked) → head_at ≡ front
front_by head_at block first asked all front places whole stands = omega (arith, places, whole, stands)

pub record StandsAtHead (text : List ℕ) (group : Group) : Type 0 where
  pub front : List ℕ
  pub rest : List ℕ
  pub composed : text ≡ front ++ (group.stored.head ++ rest)
  pub at : group.head_at ≡ length front

pub head_stands : (namespace : List ℕ) (number : ℕ) (text : List ℕ) (group : Group) → IsGroup namespace number text group → StandsAtHead text group
head_stands namespace number text group is =
    let taken : Taken = taken_back group.stored in
    let same : Option Reference = reference_in group.same in
    let stands = block_in_group namespace number taken group.digest same in
    let long = stands_long (group_text namespace number taken group.digest same) (answer_block taken same) (4 + request_length taken) stands in
    record {
      front = stands.front;
      rest = behind_head taken same ++ stands.rest;
      composed = is.composed ∙ stands.composed ∙ ap (λ (b : List ℕ). stands.front ++ (b ++ stands.rest)) (block_begins taken same)
          ∙ ap (λ (l : List ℕ). stands.front ++ l) (append_assoc taken.head (behind_head taken same) stands.rest);
      at = front_by group.head_at _ _ _ _ (length stands.front) is.places.head (answer_and_request namespace number taken group.digest same) long;
    }

-- what stands from there on
pub from_head : (text : List ℕ) (group : Group) (stands : StandsAtHead text group) → drop group.head_at text ≡ group.stored.head ++ stands.rest
from_head text group stands = (λ i. drop (stands.at i) (stands.composed i)) ∙ drop-append_seam stands.front (group.stored.head ++ stands.rest)

pub head_there : (text : List ℕ) (group : Group) → StandsAtHead text group → take (length group.stored.head) (drop group.head_at text) ≡ group.stored.head
head_there text group stands =
    ap (λ (l : List ℕ). take (length group.stored.head) l) (from_head text group stands) ∙ take-append_seam group.stored.head stands.rest

-- it has the target twice
target_twice : (namespace : List ℕ) (number : ℕ) (taken : Taken) (digest : List ℕ) (same : Option Reference) → IsDigest digest
    → length taken.uri + length taken.uri ≤ length (group_text namespace number taken digest same)
target_twice namespace number taken digest None is = omega (arith, response_group_length namespace number taken digest is)
target_twice namespace number taken digest (Some reference) is = omega (arith, revisit_group_length namespace number taken digest reference is)

none_is_some : (r : Reference) → None ≡ Some r → ⊥
none_is_some r e = cc

module _ (told : Bool) (book : Book) (group : Group) (text : List ℕ) (of : IsGroup book.namespace (length (captures book)) text group) where
  abbrev number : ℕ
  number = length (captures book)

  own_by : (kept : Kept) → IsAnswer group.stored.method group.stored.head group.digest (reference_in group.same) kept
      → HasOwnDigest group.stored kept group.digest
  own_by (Wire wire) is = (is.1.payload, is.1.has, is.1.digest_is)
  own_by (Same unknown) is = tt
  own_by (Cut wire) is = (is.1.payload, is.1.has, is.1.digest_is)

  own : (first : Option ℕ) → HasOwnDigest (referring group.stored first) (referring group.stored first).kept group.digest
  own None = own_by group.stored.kept of.answer
  own (Some n) = tt

  back_by : (new : Book) (kept : Kept) → IsAnswer group.stored.method group.stored.head group.digest (reference_in group.same) kept
      → group.same ≡ None → RefersBack new number (form_of kept)
  back_by new (Wire wire) is none = tt
  back_by new (Same unknown) is none =
      absurd (none_is_some is.1.reference (sym (ap (λ (o : Option Revisited). reference_in o) none) ∙ is.1.refers))
  back_by new (Cut wire) is none = tt

  back : (new : Book) (stored : Stored) → captures new ≡ captures book ++ stored ∷ [] → (first : Option ℕ) → RefersSo told book group first
      → RefersBack new number (form_of (referring group.stored first).kept)
  back new stored gains None refers = back_by new group.stored.kept of.answer refers
  back new stored gains (Some n) refers =
      let k : KeepsWire book n = refers.1.keeps in (
        slice_get_within (captures book) n k.stored k.placed,
        record { stored = k.stored; wire = k.wire; placed = placed_later book new (stored ∷ []) gains n k.stored k.placed; kept = k.kept },
      )

  -- the block of its first record is the head with the wire that is kept
  block_by : (same : Option Revisited) → group.same ≡ same → (first : Option ℕ) → RefersSo told book group first
      → length (answer_block (taken_back group.stored) (reference_in same)) ≡ length group.stored.head + length (kept_wire (referring group.stored first).kept)
  block_by None e None refers = length-append group.stored.head (kept_wire group.stored.kept)
  block_by (Some r) e (Some n) refers = omega arith
  block_by None e (Some n) refers = absurd (refers.0 e)
  block_by (Some r) e None refers = absurd (apart r (sym e ∙ refers)) where
    apart : (x : Revisited) → Some x ≡ None → ⊥
    apart x f = cc

  -- and stands in it
  within_text : (first : Option ℕ) → RefersSo told book group first
      → group.head_at + (length group.stored.head + length (kept_wire (referring group.stored first).kept)) ≤ length text
  within_text first refers =
      let long = ap (λ (l : List ℕ). length l) of.composed
      ∙ answer_and_request book.namespace number (taken_back group.stored) group.digest (reference_in group.same) in
      omega (arith, of.places.head, long, block_by group.same refl first refers)

  same_head : (first : Option ℕ) → (referring group.stored first).head ≡ group.stored.head
  same_head None = refl
  same_head (Some n) = refl

  same_date : (first : Option ℕ) → (referring group.stored first).date ≡ group.stored.date
  same_date None = refl
  same_date (Some n) = refl

  same_uri : (first : Option ℕ) → (referring group.stored first).uri ≡ group.stored.uri
  same_uri None = refl
  same_uri (Some n) = refl

  pub good_target : (first : Option ℕ) → IsTrue (is_accepted_uri (referring group.stored first).uri)
  good_target first = subst (λ (u : List ℕ). IsTrue (is_accepted_uri u)) (sym (same_uri first)) of.target

  -- whatever the disk tells: so it is kept of it
  pub any_spot : (room : Book) (first : Option ℕ) → RefersSo told book group first → captures room ≡ captures book → 0 < length room.volumes
      → captures (with_capture room (referring group.stored first)) ≡ captures book ++ referring group.stored first ∷ []
      → (end : ℕ) → end + length text < 2 ^ 62
      → IsSpotOf (with_capture room (referring group.stored first)) number
      (spot_of (referring group.stored first) group.digest (length room.volumes - 1) end (end + group.head_at))
  any_spot room first refers same some gains end fits =
      let stored : Stored = referring group.stored first in
      let new : Book = with_capture room stored in
      let twice = target_twice book.namespace number (taken_back group.stored) group.digest (reference_in group.same)
      (has_digest group.stored.method group.stored.head group.digest (reference_in group.same) group.stored.kept of.answer) in
      record {
        stored = stored;
        placed = ap (λ (l : List Stored). slice_get l number) gains ∙ get_behind (captures book ++ stored ∷ []) (captures book) stored [] number refl refl;
        method = refl;
        uri = refl;
        date = refl;
        form = λ read. refl;
        revisit = refl;
        digest = λ read. own first;
        line = λ line_told some_request. absurd (false≢true (sym (form_read stored.kept) ∙ line_told));
        refers = back new stored gains first refers;
        inside = subst (λ (all : List Stored). IsInVolume new (length all) (length room.volumes - 1)) same (in_last_volume room stored some);
        in_range = subst InRange (sym (same_date first)) of.date;
        short = omega (arith, twice, ap (λ (l : List ℕ). length l) of.composed, ap (λ (l : List ℕ). length l) (same_uri first), fits);
        ends = omega (arith, within_text first refers, fits, ap (λ (l : List ℕ). length l) (same_head first));
      }

-- what a revisit refers to, in a book with the same captures
in_room : (book room : Book) (group : Group) (n : ℕ) → captures room ≡ captures book → room.namespace ≡ book.namespace
    → IsOriginalOf book (length (captures book)) group n → IsOriginalOf room (length (captures room)) group n
in_room book room group n same namespaces of = record {
  earlier = omega (arith, of.earlier, ap (λ (l : List Stored). length l) same);
  original = of.original;
  wire = of.wire;
  payload = of.payload;
  keeps = record {
    placed = ap (λ (l : List Stored). slice_get l n) same ∙ of.keeps.placed;
    kept = of.keeps.kept;
    has = of.keeps.has;
  };
  refers = of.refers ∙ (λ i. Some (reference_to (sym namespaces i) (same_of n of.original)));
  digest = of.digest;
  head = of.head;
}

right_by : (told : Bool) (book room : Book) (group : Group) → captures room ≡ captures book → room.namespace ≡ book.namespace → IsTrue told
    → (first : Option ℕ) → RefersSo told book group first → RefersRight room group first
right_by told book room group same namespaces so None refers = refers
right_by told book room group same namespaces so (Some n) refers = (refers.0, in_room book room group n same namespaces (refers.1.is so))

sound_room : Laws → {D : Type 0} (now : Volumes D) (prepared : Option Prepared) → HasRoomFor now prepared → IsSound (book_of now.held)
    → IsSound (with_prepared (book_of now.held) prepared)
sound_room laws now None room sound = sound
sound_room laws now (Some p) room sound =
    volumes_keep_soundness laws.sealed_stay laws.last_goes_on laws.one_group laws.one_text (book_of now.held) p.shadow.born sound room.filled room.born

module _ {D : Type 0} (d : Ghosts D) (laws : Laws) (add : VolumesAddTheirText) (told : Bool) (now : Volumes D) (text : List ℕ)
    (group : Group) (first begins : Option ℕ) (ready : Ready) (is : IsReadyGroup text group first ready)
    (room_is : HasRoomBy now begins (length text) ready.prepared)
    (of : IsGroup (book_of now.held).namespace (length (captures (book_of now.held))) text group) (refers : RefersSo told (book_of now.held) group first)
    (few : length (captures (book_of now.held)) + 1 < 2 ^ 32 - 1) (request : length group.stored.request < 2 ^ 34)
    (holds : HoldsBook d told now.journal (book_of now.held)) (measured : IsMeasured now.journal (book_of now.held)) where
  abbrev held : Book
  held = book_of now.held

  abbrev room : Book
  room = with_prepared held ready.prepared

  abbrev stored : Stored
  stored = referring group.stored first

  abbrev end : ℕ
  end = end_with now ready.prepared

  abbrev all : List (List ℕ)
  all = texts_with (texts d now.journal) ready.prepared

  abbrev spot : Spot
  spot = spot_of stored group.digest (length room.volumes - 1) end (end + group.head_at)

  same : captures room ≡ captures held
  same = room_captures held ready.prepared

  namespaces : room.namespace ≡ held.namespace
  namespaces = room_namespace held ready.prepared

  gains : captures (with_capture room stored) ≡ captures held ++ stored ∷ []
  gains = room_gains held ready.prepared stored room_is.some

  spot_any : IsSpotOf (with_capture room stored) (length (captures held)) spot
  spot_any = any_spot told held group text of room first refers same room_is.some gains end room_is.fits

  spot_same : spot_in now ready ≡ spot
  spot_same = λ i. spot_of (is.stored i) (is.digest i) (length room.volumes - 1) end (end + is.head_at i)

  book_same : with_capture room (stored_in ready.stored) ≡ with_capture room stored
  book_same = ap (λ (s : Stored). with_capture room s) is.stored

  -- ---- where the disk tells

  counted : IsInStep d now.journal → length all ≡ length room.volumes
  counted step = with_count held (texts d now.journal) ready.prepared (texts_count d now.journal step ∙ measured.count)

  stands : IsInStep d now.journal → HasPlace (with_more all text) spot
  stands step =
      let count = counted step in
      let k : ℕ = length all - 1 in
      let last : List ℕ = text_at all k in
      let long : length last ≡ end = with_end d now held ready.prepared step measured.count room_is.some in
      let more : text_at (with_more all text) k ≡ last ++ text = get_or-set_at all k k (last ++ text) [] refl (omega (arith, room_is.some, count)) in
      let reach : length (text_at (with_more all text) k) ≡ end + length text
      = omega (arith, ap (λ (l : List ℕ). length l) more, length-append last text, long) in
      let fits = within_text told held group text of first refers in
      let head = ap (λ (l : List ℕ). length l) (same_head told held group text of first) in
      subst (λ (n : ℕ). HasPlace (with_more all text) (spot_of stored group.digest (n - 1) end (end + group.head_at))) count (record {
        there = omega (arith, length-set all k (last ++ text), room_is.some, count);
        begins = omega (arith, reach);
        within = omega (arith, reach, fits, head);
      })

  -- ---- where the book is told

  module _ (so : IsTrue told) where
    step : IsInStep d now.journal
    step = holds.in_step (holds.tells so)

    room_sound : IsSound room
    room_sound = sound_room laws now ready.prepared room_is.room (holds.sound so)

    room_texts : AreVolumeTexts room all
    room_texts = texts_by now (texts d now.journal) ready.prepared add (holds.texts_are so) room_is.room

    count : length all ≡ length room.volumes
    count = counted step

    abbrev place : Place
    place = record { volume = length all - 1; at = end; len = length text }

    of_room : IsGroup room.namespace (length (captures room)) text group
    of_room =
        subst (λ (n : List ℕ). IsGroup n (length (captures room)) text group) (sym namespaces)
        (subst (λ (l : List Stored). IsGroup held.namespace (length l) text group) (sym same) of)

    at : IsGroupAt room all text place group
    at = record {
      some = omega (arith, count, room_is.some);
      is = of_room;
      volume = omega (arith, count, room_is.some);
      at = sym (with_end d now held ready.prepared step measured.count room_is.some);
      len = refl;
    }

    of_group : IsCaptureOf room (length (captures room)) group stored
    of_group = captured room group text of_room first (right_by told held room group same namespaces so first refers)

    within : IsWithin (length (captures room)) place group
    within = record {
      few = omega (arith, few, ap (λ (l : List Stored). length l) same);
      request = request;
      ends = room_is.fits;
    }

    group_is : IsGroupText (with_capture room stored) (length (captures room)) text
    group_is = text_is laws room all room_texts text group at.some of_room stored of_group

    sound_after : IsSound (with_capture room stored)
    sound_after = sound_taken laws room all room_sound room_texts text place group at stored of_group within

    placed_after : IsPlaced (with_more all text) (with_capture room stored) (length (captures held)) spot
    placed_after =
        subst (λ (l : List Stored). IsPlaced (with_more all text) (with_capture room stored) (length l) spot) same
        (subst (λ (n : ℕ). IsPlaced (with_more all text) (with_capture room stored) (length (captures room))
        (spot_of stored group.digest (n - 1) end (end + group.head_at))) count
        (spot_placed laws room all room_sound room_texts text place group at stored of_group within))

  pub good_group : IsTrue told → IsGroupText (with_capture room stored) (length (captures room)) text
  good_group so = group_is so

  pub good_place : IsTrue told → IsPlaced (with_more all text) (with_capture room stored) (length (captures held)) spot
  good_place so = placed_after so

  pub can_commit_piece : CanCommit d told now ready
  can_commit_piece = record {
    room = room_is.room;
    kept = is.kept;
    committed = subst (λ (l : List ℕ). IsCommitted commit_byte l) (sym is.text_is) (group_is_committed held.namespace (length (captures held)) text group of);
    fits = omega (arith, room_is.fits, ap (λ (l : List ℕ). length l) is.text_is);
    gains = room_gains held ready.prepared (stored_in ready.stored) room_is.some;
    spot = subst (λ (b : Book). IsSpotOf b (length (captures held)) (spot_in now ready)) (sym book_same)
        (subst (λ (sp : Spot). IsSpotOf (with_capture room stored) (length (captures held)) sp) (sym spot_same) spot_any);
    group = λ so. subst (λ (b : Book). IsGroupText b (length (captures room)) ready.group) (sym book_same)
        (subst (λ (l : List ℕ). IsGroupText (with_capture room stored) (length (captures room)) l) (sym is.text_is) (group_is so));
    sound = λ so. subst (λ (b : Book). IsSound b) (sym book_same) (sound_after so);
    within = λ tells. subst (λ (l : List ℕ). HasPlace (with_more all l) (spot_in now ready)) (sym is.text_is)
        (subst (λ (sp : Spot). HasPlace (with_more all text) sp) (sym spot_same) (stands (holds.in_step tells)));
    placed = λ so. subst (λ (b : Book). IsPlaced (with_more all ready.group) b (length (captures held)) (spot_in now ready)) (sym book_same)
        (subst (λ (l : List ℕ). IsPlaced (with_more all l) (with_capture room stored) (length (captures held)) (spot_in now ready)) (sym is.text_is)
        (subst (λ (sp : Spot). IsPlaced (with_more all text) (with_capture room stored) (length (captures held)) sp) (sym spot_same) (placed_after so)));
  }
