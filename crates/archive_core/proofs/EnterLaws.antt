-- The entries of a book to which a capture is written.
use Rattle.std.proofs.Common.{◌≡◌, ◌⊎◌, ℕ, ◌+◌, ◌<◌, List, length, Option, Some, None, refl, sym, ap, subst, ◌∙◌, inl, inr, arith, length-append}
use Rattle.std.specs.Prelude.{slice_get}
use Rattle.std.proofs.lemmas.Option.{same_Some}
use Rattle.httparse.specs.Grammar.{ResponseHead, status_code}
use Rattle.sha1.specs.Sha1.{sha1}
use Rattle.capture.specs.Captures.{captures, taken_back}
use Rattle.capture.specs.Fields.{named_values}
use Rattle.capture.specs.Growth.{Grows}
use Rattle.capture.specs.Message.{IsResponseHeadText}
use Rattle.capture.specs.declared.book.Book.{Book}
use Rattle.capture.specs.declared.captured.Stored.{Stored}
use Rattle.index_entry.specs.Facts.{Facts}
use Rattle.index_entry.specs.OfBook.{AreOf, IsFoundByDate, mime_by, record_of}
use Rattle.index_entry.specs.Order.{with_entry}
use Rattle.surt_key.specs.Key.{key_of}
use Rattle.warc_text.proofs.LengthLaws.{length-request_text}
use Rattle.warc_text.specs.Books.{IsGroupText, IsVolumeText}
use Rattle.warc_text.specs.Ids.{id_of}
use Rattle.warc_text.specs.Lengths.{request_length}
use Rattle.warc_text.specs.Records.{group_text, request_text}
use Rattle.warc_text.specs.declared.id.IdKind.TheVariants as ids
use Rattle.archive_shelf.proofs.GainingSoundness.{no_volumes}
use Rattle.archive_shelf.proofs.StoringLaws.{capture_grows, captures_more, captures_stay, volume_grows}
use Rattle.archive_shelf.specs.Entering.{EntriesAreAll, EntriesGainOne, EntriesStayAll, NewEntriesAreOfTheirCaptures, TellsOfNew}
use Rattle.archive_shelf.specs.Storing.{with_capture}
use Rattle.archive_volumes.proofs.TakenGroup.{IsGroupWith}
use Rattle.archive_volumes.specs.Writing.{with_prepared}
use Rattle.archive_volumes.specs.declared.room.Prepared.{Prepared}

-- ---- the entry of the capture

-- the first record of a group has all of it but the request's
record_long : (book : Book) (number : ℕ) (group : List ℕ) (g : IsGroupText book number group)
    → length (record_of book number g.stored g.payload g.same) + request_length (taken_back g.stored) ≡ length group
unfolding group_text
record_long book number group g =
    let asked : List ℕ = request_text (id_of book.namespace ids.Request number) (id_of book.namespace ids.Response number) (taken_back g.stored) in
    omega (
      arith,
      ap length g.composed,
      length-append (record_of book number g.stored g.payload g.same) asked,
      length-request_text (id_of book.namespace ids.Request number) (id_of book.namespace ids.Response number) (taken_back g.stored),
    )

-- what an entry tells of a capture that is to stand behind all others of a book with room for it
pub record TellsOfCapture (room : Book) (stored : Stored) (head : ResponseHead) (payload group text : List ℕ) (entry : Facts) : Type 0 where
  pub parsed : IsResponseHeadText stored.head head
  pub keyed : key_of stored.uri ≡ Some entry.key
  pub date_is : entry.date ≡ stored.date
  pub number_is : entry.number ≡ length (captures room)
  pub uri_is : entry.uri ≡ stored.uri
  pub mime_is : entry.mime ≡ mime_by stored.kept (named_values head.fields)
  pub status_is : entry.status ≡ status_code head
  pub volume_is : entry.volume + 1 ≡ length room.volumes
  pub ends : IsVolumeText room entry.volume text
  pub offset_is : entry.offset ≡ length text
  pub digest_is : entry.digest ≡ sha1 payload
  pub length_is : entry.length + request_length (taken_back stored) ≡ length group

pub tells_of_new : (room : Book) (stored : Stored) (head : ResponseHead) (payload group text : List ℕ) (entry : Facts)
    → slice_get (captures (with_capture room stored)) (length (captures room)) ≡ Some stored
    → IsGroupWith (with_capture room stored) (length (captures room)) payload group → TellsOfCapture room stored head payload group text entry
    → TellsOfNew room stored entry
tells_of_new room stored head payload group text entry placed with_payload tells =
    let after : Book = with_capture room stored in
    let number : ℕ = length (captures room) in
    let g : IsGroupText after number group = with_payload.is in
    let same : g.stored ≡ stored = same_Some g.stored stored (sym g.placed ∙ placed) in
    let long : length (record_of after number stored g.payload g.same) + request_length (taken_back stored) ≡ length group =
    subst (λ (s : Stored). length (record_of after number s g.payload g.same) + request_length (taken_back s) ≡ length group) same (record_long after number group g) in
    record {
      head = head;
      parsed = tells.parsed;
      keyed = tells.keyed;
      date_is = tells.date_is;
      number_is = tells.number_is;
      uri_is = tells.uri_is;
      mime_is = tells.mime_is;
      status_is = tells.status_is;
      volume_is = tells.volume_is;
      text = text;
      ends = tells.ends;
      offset_is = tells.offset_is;
      group_text = group;
      group = g;
      digest_is = tells.digest_is ∙ ap sha1 (sym with_payload.payload_is);
      length_is = omega (arith, tells.length_is, long);
    }

-- ---- the entries of the book

room_grows : (itself : (book : Book) → Grows book book) (book : Book) (prepared : Option Prepared) → Grows book (with_prepared book prepared)
room_grows itself book None = itself book
room_grows itself book (Some p) = volume_grows book p.shadow.born

same_captures : (book : Book) (prepared : Option Prepared) → captures (with_prepared book prepared) ≡ captures book
same_captures book None = refl
same_captures book (Some p) = captures_stay book.volumes p.shadow.born

-- with room for a capture they stay
pub known_room : EntriesStayAll → ((book : Book) → Grows book book) → (book : Book) (prepared : Option Prepared) (index : List Facts)
    → AreOf book index → AreOf (with_prepared book prepared) index
known_room stay itself book prepared index are =
    stay book (with_prepared book prepared) index (room_grows itself book prepared) (same_captures book prepared) are

-- the same where the capture was refused
pub known_left : EntriesStayAll → ((book : Book) → Grows book book) → (book now : Book) (prepared : Option Prepared) (index : List Facts)
    → (now ≡ book) ⊎ (now ≡ with_prepared book prepared) → AreOf book index → AreOf now index
known_left stay itself book now prepared index (inl is) are = subst (λ (b : Book). AreOf b index) (sym is) are
known_left stay itself book now prepared index (inr is) are =
    subst (λ (b : Book). AreOf b index) (sym is) (known_room stay itself book prepared index are)

-- with the capture they gain its own, where it is found by date
pub known_with : EntriesGainOne → NewEntriesAreOfTheirCaptures → (room : Book) (stored : Stored) (entry : Facts) (index : List Facts)
    → 0 < length room.volumes → AreOf room index → IsFoundByDate stored → TellsOfNew room stored entry
    → AreOf (with_capture room stored) (with_entry entry index)
known_with gain are_new room stored entry index some are found tells =
    gain room (with_capture room stored) stored index entry (capture_grows room stored)
    (captures_more room.volumes stored (no_volumes room.volumes some)) are found tells.number_is (are_new room stored entry tells)

-- and else they stay
pub known_without : EntriesAreAll → (room : Book) (stored : Stored) (index : List Facts) → 0 < length room.volumes → AreOf room index
    → (IsFoundByDate stored → ⊥) → AreOf (with_capture room stored) index
known_without all room stored index some are none =
    all room (with_capture room stored) stored index (capture_grows room stored) (captures_more room.volumes stored (no_volumes room.volumes some)) are none
