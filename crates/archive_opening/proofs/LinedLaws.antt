-- How many captures a volume has that was begun: as many as it has lines, where these are taken, or as its groups tell.
use Rattle.std.proofs.Common.{◌≡◌, ℕ, ◌+◌, ◌-◌, ◌<◌, List, [], ◌∷◌, length, sym, ap, subst, ◌∙◌, arith}
use Rattle.std.specs.Prelude.{Option, Some, slice_get}
use Rattle.std.specs.List.Sorted.{IsPermutation, IsSorted}
use Rattle.std.proofs.lemmas.List.Sorted.{length_permutation}
use Rattle.std.proofs.lemmas.Option.{slice_get_within}
use Rattle.capture.specs.Captures.{captures, captures_in}
use Rattle.capture.specs.declared.book.Book.{Book}
use Rattle.capture.specs.declared.book.Volume.{Volume}
use Rattle.cdxj_line.specs.declared.line.Line.{Line}
use Rattle.checkpoint.proofs.ReadingLaws.{one_list}
use Rattle.checkpoint.specs.Checkpoints.{IsCheckpoint, checkpoint_of}
use Rattle.disk_model.specs.Image.{Image, file_count, file_of}
use Rattle.disk_model.specs.declared.disk.Disk.{Ghosts}
use Rattle.disk_model.specs.declared.kind.Kind.TheVariants.{Warc}
use Rattle.volume_scan.specs.Scannings.{captures_of, position_of}
use Rattle.volume_scan.specs.declared.position.Position.{Position}
use Rattle.volume_scan.specs.declared.position.Stage.{Stage}
use Rattle.volume_scan.specs.declared.position.Stage.TheVariants as stages
use Rattle.volume_scan.specs.declared.scanning.Scanning.{Scanning}
use Rattle.archive_volumes.specs.Held.{book_of}
use Rattle.archive_gathering.proofs.LineOrderLaws.{taken_as_sorted}
use Rattle.archive_gathering.proofs.SealedLaws.{sum_at_least}
use Rattle.archive_opening.specs.Counting.{AreCounted, CountsOn, CountsUpTo, HasCountsOf, HasInfo, HasItsLines, IsToldBy, Reaches, last_counted}
use Rattle.archive_gathering.specs.Lines.{AreBehind, AreNext, AreTakable, HasMoreCaptures, line_numbers}
use Rattle.archive_opening.specs.Telling.{GoesWith, IsReadOf, OpensAt}
use Rattle.archive_gathering.specs.Shapes.{sealed_in}
use Rattle.archive_gathering.specs.declared.gathered.Gathered.{Gathered}
use Rattle.archive_opening.specs.declared.telling.FileLines.{FileLines}

module _ {D : Type 0} (d : Ghosts D) (known : Option Book) (old : Scanning D) (was : Gathered) (goes : GoesWith d known old was) (volume : ℕ)
    (opens : OpensAt old volume) (image : Image) (counts : CountsUpTo image (position_of old) (book_of was.held)) where
  abbrev book : Book
  book = book_of was.held

  abbrev first : ℕ
  first = length (captures_in (sealed_in book.volumes))

  at : volume + 1 ≡ length book.volumes
  at = opens.volume_is ∙ goes.volumes

  -- it has no capture yet
  empty : length (captures book) - first ≡ 0
  empty = (subst (λ (s : Stage). Reaches s image (last_counted book volume) (position_of old).extent.end) opens.stage (counts.last volume at)).0

  first_is : captures_of old ≡ first
  first_is = omega (arith, empty, sum_at_least book.volumes, goes.count)

  module _ (told : FileLines) (same : told.volume ≡ volume) (read_of : IsReadOf image told) (lines : List Line) (moved : IsPermutation told.lines.items lines)
    where
      -- the lines aren't those of the next captures
      pub read_unfit : IsSorted line_numbers lines → (AreNext (captures_of old) told.len lines → AreBehind 0 lines → ⊥) → CountsOn image (position_of old) book
      read_unfit up unfit = (
        counts,
        λ k is other ls by.
            let e : k ≡ told.volume = omega (arith, is, at, same) in
            let finished : IsCheckpoint told.volume ls (checkpoint_of image told.volume) = subst (λ (n : ℕ). IsCheckpoint n ls (checkpoint_of image n)) e by.finished in
            let one : ls ≡ told.lines.items =
            sym (one_list told.volume told.volume told.lines.items ls (checkpoint_of image told.volume) read_of.checkpoint finished).1 in
            let takable : AreTakable (captures_of old) told.len told.lines.items =
            subst (AreTakable (captures_of old) told.len) one
            (subst (λ (n : ℕ). AreTakable n told.len ls) (sym first_is)
            (subst (λ (n : ℕ). AreTakable first n ls) (ap (λ (n : ℕ). length (file_of image Warc n)) e ∙ sym read_of.len_is) by.takable)) in
            let next = taken_as_sorted (captures_of old) told.len told.lines.items lines takable moved up in
            unfit next.0 next.1,
      )

      -- they are, and were taken
      module _ (new : Scanning D) (is : Gathered) (next : AreNext (captures_of old) told.len lines) (behind : AreBehind 0 lines)
          (more : HasMoreCaptures was is (length lines)) (stage : (position_of new).stage ≡ stages.Skipped) (followed : volume + 1 < file_count image Warc) where
        abbrev with_them : Book
        with_them = book_of is.held

        first_same : first ≡ length (captures_in (sealed_in with_them.volumes))
        first_same = ap (λ (l : List Volume). length (captures_in l)) (sym more.sealed)

        told_by : IsToldBy image volume (length (captures_in (sealed_in with_them.volumes))) told.lines.items
        told_by = record {
          followed = followed;
          finished = subst (λ (n : ℕ). IsCheckpoint n told.lines.items (checkpoint_of image n)) same read_of.checkpoint;
          takable =
              subst (λ (n : ℕ). AreTakable n (length (file_of image Warc volume)) told.lines.items) (first_is ∙ first_same)
              (subst (λ (n : ℕ). AreTakable (captures_of old) n told.lines.items) (read_of.len_is ∙ ap (λ (n : ℕ). length (file_of image Warc n)) same)
              (record { in_order = lines; moved = moved; next = next; behind = behind }));
        }

        count : length (captures with_them) - length (captures_in (sealed_in with_them.volumes)) ≡ length told.lines.items
        count = omega (arith, more.captures_are, first_same, empty, sum_at_least book.volumes, length_permutation told.lines.items lines moved)

        pub counts_lined : CountsOn image (position_of new) with_them
        counts_lined = (
          record {
            infos = λ k less. subst (λ (n : List ℕ). HasInfo image n k) (sym more.namespace) (counts.infos k (omega (arith, less, more.volumes)));
            sealed = subst (AreCounted image with_them.namespace) (sym more.sealed)
                (subst (λ (n : List ℕ). AreCounted image n (sealed_in book.volumes)) (sym more.namespace) counts.sealed);
            last = λ k last.
                let e : volume ≡ k = omega (arith, last, more.volumes, at) in
                subst (λ (s : Stage). Reaches s image (last_counted with_them k) (position_of new).extent.end) (sym stage)
                (subst (λ (n : ℕ). HasItsLines image (last_counted with_them n)) e (record { lines = told.lines.items; told = told_by; count = count }));
          },
          λ k last other. absurd (other stage),
        )

-- before the first step nothing is counted
pub counts_first : (image : Image) (position : Position) (book : Book) → length book.volumes ≡ 0 → CountsOn image position book
counts_first image position book none = (
  record {
    infos = λ k less. absurd (omega (arith, less, none));
    sealed = λ k v placed. absurd (none_in book.volumes none k v placed);
    last = λ k last. absurd (omega (arith, last, none));
  },
  λ k last other lines by. omega (arith, last, none),
)
  where
    none_in : (volumes : List Volume) → length volumes ≡ 0 → (k : ℕ) (v : Volume) → slice_get (sealed_in volumes) k ≡ Some v → ⊥
    none_in [] e k v placed = omega (arith, slice_get_within [] k v placed)
    none_in (w ∷ others) e k v placed = omega (arith, e)

-- so it is where there is no volume
pub counts_none : (image : Image) (book other : Book) → length book.volumes ≡ 0 → length other.volumes ≡ 0 → HasCountsOf image book → HasCountsOf image other
counts_none image book other none empty_too counts = record {
  infos = λ k less. absurd (omega (arith, less, empty_too));
  none = λ k namespace behind info. counts.none k namespace (omega (arith, none)) info;
  counts = λ k v placed. absurd (omega (arith, empty_too, slice_get_within other.volumes k v placed));
}
