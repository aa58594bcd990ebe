-- Which volume a capture stands in, and where its group begins there.
use Rattle.std.proofs.Common.{◌≡◌, ℕ, ◌+◌, ◌-◌, ◌<◌, ◌≤◌, Bool, IsTrue, List, [], ◌∷◌, ◌++◌, length, get_or, Option, Some, None, sym, ap, ◌∙◌, ⊎_elim, arith, append_assoc, length-append}
use Rattle.std.specs.Prelude.{slice_get}
use Rattle.std.proofs.lemmas.Bool.{cases_lt}
use Rattle.std.proofs.lemmas.List.{get_or_past}
use Rattle.std.proofs.lemmas.Option.{slice_get-get_or, slice_get_within}
use Rattle.capture.proofs.GrowthLaws.{growth_keeps_captures, growth_keeps_payloads}
use Rattle.capture.proofs.PayloadLaws.{captures_have_one}
use Rattle.capture.specs.Captures.{captures}
use Rattle.capture.specs.Growth.{Grows}
use Rattle.capture.specs.declared.book.Book.{Book}
use Rattle.capture.specs.declared.book.Volume.{Volume}
use Rattle.capture.specs.declared.captured.Stored.{Stored}
use Rattle.disk_model.specs.declared.disk.Disk.{Ghosts}
use Rattle.warc_journal.specs.Journals.{texts}
use Rattle.warc_text.proofs.GrowthLaws as growth
use Rattle.warc_text.proofs.OneTextLaws as one_text
use Rattle.warc_text.specs.Books.{IsGroupText}
use Rattle.warc_text.specs.Growth.{GroupsStay, NumbersHaveOneGroup}
use Rattle.archive_shelf.proofs.EntryLaws.{first_stays}
use Rattle.archive_shelf.proofs.GainingTexts.{last_placed, number_in_last, same_length}
use Rattle.archive_shelf.specs.Storing.{new_volume, with_capture}
use Rattle.archive_volumes.proofs.RoomLaws.{last_long, texts_count}
use Rattle.archive_volumes.specs.Held.{book_of}
use Rattle.archive_volumes.specs.Spots.{HasGroupAt, IsInVolume, text_at}
use Rattle.archive_volumes.specs.Volumes.{HoldsBook}
use Rattle.archive_volumes.specs.Writing.{end_with, with_prepared}
use Rattle.archive_volumes.specs.declared.room.Prepared.{Prepared}
use Rattle.archive_volumes.specs.declared.volumes.Volumes.{Volumes}

-- ---- the volume

pub in_volume_later : (old new : Book) (number k : ℕ) → Grows old new → IsInVolume old number k → IsInVolume new number k
in_volume_later old new number k grow is =
    let within : k < length old.volumes = slice_get_within old.volumes k is.of is.placed in
    let first = first_stays old new k grow within in
    ⊎_elim
    (λ (sealed : k + 1 < length old.volumes). record {
      of = is.of;
      placed = grow.sealed k sealed ∙ is.placed;
      from = omega (arith, is.from, first);
      below = omega (arith, is.below, first);
    })
    (λ (behind : length old.volumes ≤ k + 1).
    let last = grow.last k is.of (omega (arith, behind, within)) is.placed in
    record {
      of = last.volume;
      placed = last.placed;
      from = omega (arith, is.from, first);
      below = omega (arith, is.below, first, ap length last.grown.captures, length-append is.of.captures last.grown.added);
    })
    (cases_lt (k + 1) (length old.volumes))

-- a capture that is gained stands in the last volume
pub in_last_volume : (room : Book) (stored : Stored) → 0 < length room.volumes
    → IsInVolume (with_capture room stored) (length (captures room)) (length room.volumes - 1)
in_last_volume room stored some =
    let k : ℕ = length room.volumes - 1 in
    let is : k + 1 ≡ length room.volumes = omega (arith, some) in
    let last : Volume = get_or room.volumes k (new_volume 0) in
    let at : slice_get room.volumes k ≡ Some last = slice_get-get_or room.volumes k (new_volume 0) (omega (arith, some)) in
    let number = number_in_last room stored k last is at in
    record {
      of = record { born = last.born; captures = last.captures ++ stored ∷ [] };
      placed = last_placed room.volumes stored k last is at;
      from = omega (arith, number);
      below = omega (arith, number, length-append last.captures (stored ∷ []));
    }

-- ---- the group

pub groups_stay : GroupsStay
groups_stay = growth.groups_stay (record { captures = growth_keeps_captures; payloads = growth_keeps_payloads })

pub one_group : NumbersHaveOneGroup
one_group = one_text.one_group captures_have_one

-- it stays when the book grows and the text goes on
pub group_at_later : (old new : Book) (number at : ℕ) (text more now : List ℕ) → Grows old new → now ≡ text ++ more → HasGroupAt old number text at
    → HasGroupAt new number now at
group_at_later old new number at text more now grow goes is = record {
  front = is.front;
  group = is.group;
  rest = is.rest ++ more;
  is = groups_stay old new number is.group grow is.is;
  composed = goes ∙ ap (λ (t : List ℕ). t ++ more) is.composed
      ∙ append_assoc is.front (is.group ++ is.rest) more ∙ ap (λ (t : List ℕ). is.front ++ t) (append_assoc is.group is.rest more);
  behind = is.behind;
}

-- it ends in the text
pub ends_in_text : (book : Book) (number at : ℕ) (text : List ℕ) (is : HasGroupAt book number text at) → at + length is.group ≤ length text
ends_in_text book number at text is =
    omega (arith, is.behind, ap length is.composed, length-append is.front (is.group ++ is.rest), length-append is.group is.rest)

-- so does each text of it, in a book that has grown from this one
pub each_ends : (old new : Book) (number at bound : ℕ) (text group : List ℕ) → Grows old new → (is : HasGroupAt old number text at) → at + length is.group ≤ bound
    → IsGroupText new number group → at + length group ≤ bound
each_ends old new number at bound text group grow is ends g =
    let one = (one_group new number is.group group (groups_stay old new number is.group grow is.is) g).texts in
    omega (arith, ends, ap length one)

-- ---- the place of a new group

-- it begins where the text of its volume ended, which was the last one or is new
pub begins_behind : {D : Type 0} (d : Ghosts D) (now : Volumes D) (prepared : Option Prepared) {known : Bool} → IsTrue known
    → HoldsBook d known now.journal (book_of now.held)
    → 0 < length (with_prepared (book_of now.held) prepared).volumes
    → length (text_at (texts d now.journal) (length (with_prepared (book_of now.held) prepared).volumes - 1)) ≤ end_with now prepared
begins_behind d now None told holds some =
    let all : List (List ℕ) = texts d now.journal in
    let step = holds.in_step (holds.tells told) in
    let count = texts_count d now.journal step in
    let are = (holds.texts_are told).count in
    omega (
      arith,
      ap (λ (n : ℕ). length (get_or all (n - 1) [])) (sym are ∙ count),
      last_long d now.journal step (omega (arith, some, count, are)),
    )
begins_behind d now (Some p) told holds some =
    let all : List (List ℕ) = texts d now.journal in
    let volumes : List Volume = (book_of now.held).volumes in
    let are = (holds.texts_are told).count in
    let more = length-append volumes (new_volume p.shadow.born ∷ []) in
    omega (arith, ap length (get_or_past all (length (volumes ++ new_volume p.shadow.born ∷ []) - 1) [] (omega (arith, are, more))))

-- a book with a capture at some place has a volume
pub has_volume : (room : Book) (stored : Stored) (number : ℕ) → IsInVolume (with_capture room stored) number (length room.volumes - 1) → 0 < length room.volumes
has_volume room stored number is =
    omega (
      arith,
      slice_get_within (with_capture room stored).volumes (length room.volumes - 1) is.of is.placed,
      same_length room.volumes stored,
    )
