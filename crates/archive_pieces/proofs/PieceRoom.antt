-- Room for the capture of a piece.
use Rattle.std.proofs.Common.{◌≡◌, ℕ, zero, suc, ◌+◌, ◌-◌, ◌<◌, ◌^◌, true, not, nat_eq, List, [], ◌∷◌, length, Option, Some, None, sym, ap, subst, ◌∙◌, inl, inr, arith}
use Rattle.std.specs.Prelude.{slice_get}
use Rattle.std.proofs.lemmas.Option.{slice_get_within}
use Rattle.capture.specs.Captures.{captures}
use Rattle.capture.specs.declared.book.Book.{Book}
use Rattle.capture.specs.declared.book.Volume.{Volume}
use Rattle.time_text.specs.Texts.{InRange}
use Rattle.warc_journal.specs.Journals.{last_len, volumes}
use Rattle.warc_journal.specs.declared.journal.Journal.{Journal}
use Rattle.warc_text.specs.Records.{info_text}
use Rattle.archive_shelf.proofs.GainingSoundness.{filled_count}
use Rattle.archive_shelf.specs.Gaining.{AreFilled}
use Rattle.archive_shelf.specs.Storing.{with_volume}
use Rattle.archive_volumes.specs.Held.{TakesCapture, TakesVolume, book_of, is_filled}
use Rattle.archive_volumes.specs.Volumes.{IsMeasured, IsPrepared}
use Rattle.archive_volumes.specs.declared.held.Held.{Held}
use Rattle.archive_volumes.specs.declared.room.Prepared.{Prepared}
use Rattle.archive_volumes.specs.declared.volumes.Volumes.{Volumes}
use Rattle.archive_pieces.specs.NextPieces.{MayBegin}
use Rattle.archive_pieces.specs.PieceParts.{room_by}
use Rattle.archive_pieces.specs.PieceReady.{MakesRoom, MayHold, end_in}

-- where the last volume holds a capture, and each before it, all do
pub all_filled : (volumes : List Volume) → is_filled volumes ≡ true
    → ((k : ℕ) (volume : Volume) → slice_get volumes k ≡ Some volume → k + 1 < length volumes → 0 < length volume.captures)
    → (k : ℕ) (volume : Volume) → slice_get volumes k ≡ Some volume → 0 < length volume.captures
all_filled [] filled before k volume at = cc
all_filled (last ∷ []) filled before zero volume at = by (length last.captures) filled (ap size at)
  where
    size : Option Volume → ℕ
    size (Some v) = length v.captures
    size None = 0

    by : (n : ℕ) → not (nat_eq n 0) ≡ true → n ≡ length volume.captures → 0 < length volume.captures
    by zero e is = cc
    by (suc n) e is = omega (arith, is)
all_filled (last ∷ []) filled before (suc k) volume at = cc
all_filled (first ∷ next ∷ others) filled before zero volume at = before zero volume at (omega arith)
all_filled (first ∷ next ∷ others) filled before (suc k) volume at =
    all_filled (next ∷ others) filled (λ j v there less. before (suc j) v there (omega (arith, less))) k volume at

-- a volume may be begun where there is none, or all hold a capture
may_begin : (book : Book) → MayBegin book
    → ((k : ℕ) (volume : Volume) → slice_get book.volumes k ≡ Some volume → k + 1 < length book.volumes → 0 < length volume.captures) → AreFilled book
may_begin book (inl none) before k volume there =
    absurd (omega (arith, slice_get_within book.volumes k volume there, ap (λ (l : List Volume). length l) none))
may_begin book (inr filled) before k volume there = all_filled book.volumes filled before k volume there

pub begun_room : {D : Type 0} (old new : Volumes D) (begins : Option ℕ) (born : ℕ) (prepared : Prepared) → begins ≡ Some born
    → MayHold (book_of old.held) begins → IsMeasured old.journal (book_of old.held) → length (captures (book_of old.held)) < 2 ^ 32 - 1
    → IsPrepared (book_of old.held) prepared → prepared.shadow.born ≡ born → TakesVolume new.held → book_of new.held ≡ book_of old.held
    → new.journal ≡ old.journal → MakesRoom old new begins (Some prepared)
begun_room {D} old new begins born prepared begins_is holds measured few is born_is space book_is journal_is =
    let book : Book = book_of old.held in
    let may : MayBegin book × InRange born = subst (λ (b : Option ℕ). MayHold book b) begins_is holds in
    let filled : AreFilled book = may_begin book may.0 measured.filled in
    record {
      room = record {
        prepared_is = subst (λ (b : Book). IsPrepared b prepared) (sym book_is) is;
        space = space;
        filled = subst (λ (b : Book). AreFilled b) (sym book_is) filled;
        number = omega (arith, few, filled_count book.volumes filled, measured.count, ap (λ (j : Journal D). volumes j) journal_is);
        born = subst (λ (n : ℕ). InRange n) (sym born_is) may.1;
      };
      room_is = ap (λ (n : ℕ). with_volume book n) born_is ∙ ap (λ (b : Option ℕ). room_by book b) (sym begins_is);
      ends = ap (λ (l : List ℕ). length l) is.info
          ∙ ap (λ (n : ℕ). length (info_text book.namespace (length book.volumes) n)) born_is
          ∙ ap (λ (b : Option ℕ). end_in book (last_len old.journal) b) (sym begins_is);
    }

pub same_room : {D : Type 0} (old : Volumes D) (now_held : Held) (begins : Option ℕ) → begins ≡ None → TakesCapture now_held
    → MakesRoom old (record { journal = old.journal; held = now_held }) begins None
same_room old now_held begins begins_is space = record {
  room = space;
  room_is = ap (λ (b : Option ℕ). room_by (book_of old.held) b) (sym begins_is);
  ends = ap (λ (b : Option ℕ). end_in (book_of old.held) (last_len old.journal) b) (sym begins_is);
}
