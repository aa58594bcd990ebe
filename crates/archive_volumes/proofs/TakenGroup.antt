-- The group of a capture that is taken is its group in each book that gains it.
use Rattle.std.proofs.Common.{◌≡◌, ℕ, Bool, true, false, List, [], ◌∷◌, ◌++◌, length, Option, Some, None, refl, sym, ap, ◌∙◌}
use Rattle.std.specs.Prelude.{slice_get}
use Rattle.sha1.specs.Sha1.{sha1}
use Rattle.capture.specs.Captures.{captures, HasPayload, KeepsPayload}
use Rattle.capture.specs.declared.book.Book.{Book}
use Rattle.capture.specs.declared.captured.Stored.{Stored}
use Rattle.capture.specs.declared.captured.Taken.{Taken}
use Rattle.warc_text.proofs.BookLaws.{get_behind}
use Rattle.warc_text.specs.Books.{IsGroupText, same_of}
use Rattle.warc_text.specs.Records.{answer_text, group_text, request_text, revisit_text}
use Rattle.warc_text.specs.References.{Reference, reference_of, reference_to}
use Rattle.warc_text.specs.Sound.{IsSound}
use Rattle.warc_text.specs.declared.same_of.SameOf.{SameOf}
use Rattle.archive_shelf.proofs.ComparingLaws.{first_keeps_its_wire, placed_later}
use Rattle.archive_shelf.specs.Comparing.{RefersBy}
use Rattle.archive_shelf.specs.Laws.{IsOriginal}
use Rattle.archive_shelf.specs.Storing.{as_stored}
use Rattle.archive_volumes.specs.Grouping.{TellsSame}

-- a revisit says nothing of the wire, nor that it was cut
revisit_alike : (namespace : List ℕ) (number : ℕ) (method uri : List ℕ) (date : ℕ) (request head wire digest : List ℕ) (reference : Reference)
    → group_text namespace number (record { method = method; uri = uri; date = date; request = request; head = head; wire = wire; cut = false }) digest (Some reference)
    ≡ group_text namespace number (record { method = method; uri = uri; date = date; request = request; head = head; wire = []; cut = false }) digest (Some reference)
unfolding group_text answer_text revisit_text request_text
revisit_alike namespace number method uri date request head wire digest reference = refl

-- the group of the capture with this number, which has this payload
pub record IsGroupWith (book : Book) (number : ℕ) (payload group : List ℕ) : Type 0 where
  pub is : IsGroupText book number group
  pub payload_is : is.payload ≡ payload

module _ (book new : Book) (method uri : List ℕ) (date : ℕ) (request head wire payload : List ℕ) (sound : IsSound book) (namespace : new.namespace ≡ book.namespace) where
  abbrev of_cut : Bool → Taken
  of_cut cut = record { method = method; uri = uri; date = date; request = request; head = head; wire = wire; cut = cut }

  pub group_by : (cut : Bool) (same : Option ℕ) (other : Option SameOf) (group : List ℕ)
      → captures new ≡ captures book ++ as_stored (of_cut cut) same ∷ [] → HasPayload cut method head wire payload
      → RefersBy cut book (length (captures book)) payload same → TellsSame book same other
      → group ≡ group_text book.namespace (length (captures book)) (of_cut cut) (sha1 payload) (reference_of book.namespace other)
      → IsGroupWith new (length (captures book)) payload group
  group_by true None other group gains has refers tells composed =
      let number : ℕ = length (captures book) in
      let stored : Stored = as_stored (of_cut true) None in
      record {
        payload_is = refl;
        is = record {
          stored = stored;
          payload = payload;
          same = None;
          placed = ap (λ (l : List Stored). slice_get l number) gains ∙ get_behind (captures book ++ stored ∷ []) (captures book) stored [] number refl refl;
          payload_is = has;
          refers = refl;
          composed = composed
              ∙ ap (λ (o : Option SameOf). group_text book.namespace number (of_cut true) (sha1 payload) (reference_of book.namespace o)) tells
              ∙ ap (λ (n : List ℕ). group_text n number (of_cut true) (sha1 payload) None) (sym namespace);
        };
      }
  group_by true (Some first) other group gains has refers tells composed = absurd (nothing first refers)
    where
      nothing : (n : ℕ) → Some n ≡ None → ⊥
      nothing n e = cc
  group_by false None other group gains has refers tells composed =
      let number : ℕ = length (captures book) in
      let stored : Stored = as_stored (of_cut false) None in
      record {
        payload_is = refl;
        is = record {
          stored = stored;
          payload = payload;
          same = None;
          placed = ap (λ (l : List Stored). slice_get l number) gains ∙ get_behind (captures book ++ stored ∷ []) (captures book) stored [] number refl refl;
          payload_is = has;
          refers = refl;
          composed = composed
              ∙ ap (λ (o : Option SameOf). group_text book.namespace number (of_cut false) (sha1 payload) (reference_of book.namespace o)) tells
              ∙ ap (λ (n : List ℕ). group_text n number (of_cut false) (sha1 payload) None) (sym namespace);
        };
      }
  group_by false (Some first) other group gains has refers tells composed =
      let number : ℕ = length (captures book) in
      let stored : Stored = as_stored (of_cut false) (Some first) in
      let is : IsOriginal book first payload = first_keeps_its_wire book first payload sound.sound refers.2 refers.3 in
      let keeps : KeepsPayload book first is.stored is.wire payload = is.keeps in
      record {
        payload_is = refl;
        is = record {
          stored = stored;
          payload = payload;
          same = Some (same_of first tells.0);
          placed = ap (λ (l : List Stored). slice_get l number) gains ∙ get_behind (captures book ++ stored ∷ []) (captures book) stored [] number refl refl;
          payload_is = (
            is.stored,
            is.wire,
            record { placed = placed_later book new (stored ∷ []) gains first is.stored keeps.placed; kept = keeps.kept; has = keeps.has },
          );
          refers = (tells.0, placed_later book new (stored ∷ []) gains first tells.0 tells.1, refl);
          composed = composed
              ∙ ap (λ (o : Option SameOf). group_text book.namespace number (of_cut false) (sha1 payload) (reference_of book.namespace o)) tells.2
              ∙ revisit_alike book.namespace number method uri date request head wire (sha1 payload) (reference_to book.namespace (same_of first tells.0))
              ∙ ap (λ (n : List ℕ). group_text n number (record { method = method; uri = uri; date = date; request = request; head = head; wire = []; cut = false }) (sha1 payload)
              (Some (reference_to n (same_of first tells.0)))) (sym namespace);
        };
      }
