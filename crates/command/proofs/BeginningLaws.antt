-- What is known of a disk stays known where a command begins with it.
use Rattle.std.proofs.Common.{◌≡◌, ◌⊎◌, ◌<◌, ◌≤◌, ◌+◌, ℕ, IsTrue, List, length, Option, Some, None, inl, inr, sym, ap, subst, arith}
use Rattle.std.specs.Prelude.{IfSome}
use Rattle.std.proofs.lemmas.Bool.{cases_order}
use Rattle.archive_opening.specs.Telling.{IsAskedFor, IsSettledFor, MayBeSettled}
use Rattle.archive_settling.proofs.KeepingLaws.{opens_beside, warc_cleared}
use Rattle.archive_shelf.specs.Openings.{ImageStandsFor}
use Rattle.archive_volumes.proofs.ChangeLaws.{DiskLaws}
use Rattle.capture.specs.declared.book.Book.{Book}
use Rattle.cdxj_line.specs.declared.line.Line.{Line}
use Rattle.checkpoint.proofs.WritingLaws.{is_committed}
use Rattle.checkpoint.specs.Checkpoints.{IsCheckpoint, checkpoint_of}
use Rattle.checkpoint.specs.Clearing.{ClearsUnsealed, IsCleared, sealed_count}
use Rattle.checkpoint.specs.OfVolume.{AreLinesOf}
use Rattle.disk_model.specs.declared.disk.Disk.{Ghosts as Disks}
use Rattle.warc_journal.specs.Extents.{warc_files}
use Rattle.warc_text.specs.StandsFor.{StandsFor}
use Rattle.command.specs.Beginning.{BeginningKeepsTheBook, BeginningOpensNoMore, BeginsWith, IsBegun, IsKeptFor, MayBegin, SettledIsKept, stores}
use Rattle.command.specs.Words.{asked_of}
use Rattle.command.specs.declared.words.Command.{Command}
use Rattle.command.specs.declared.words.Command.TheVariants.{Check, Follow, Import, Pipe, Serve, Trial, Verify}

still_stands : {D : Type 0} (disks : Disks D) (was is : D) → ClearsUnsealed disks was is
    → (book : Book) → ImageStandsFor (disks.reading was) book → ImageStandsFor (disks.reading is) book
still_stands disks was is clears book stands = record {
  for = subst (λ (files : List (List ℕ)). StandsFor files book) (sym clears.reading.warc) stands.for;
  sound = stands.sound;
}

pub opens_no_more : {D : Type 0} (disks : Disks D) → DiskLaws disks → BeginningOpensNoMore disks
opens_no_more disks laws was is tells clears =
    opens_beside disks laws was is (λ so. warc_cleared disks (sealed_count (warc_files (disks.reading was))) was is clears)

pub stays_kept : {D : Type 0} (disks : Disks D) → BeginningKeepsTheBook disks
stays_kept disks was is book clears kept = record {
  stands = still_stands disks was is clears book kept.stands;
  ids = kept.ids;
  sealed = λ k lines less finished.
      let before : k < sealed_count (warc_files (disks.reading was)) =
      subst (λ (files : List (List ℕ)). k < sealed_count files) clears.reading.warc less in
      kept.sealed k lines before (subst (λ (bytes : List ℕ). IsCheckpoint k lines bytes) (clears.reading.others k before) finished);
}

pub settled_is_kept : SettledIsKept
settled_is_kept image book settled = record {
  stands = settled.stands;
  ids = settled.ids;
  sealed = λ k lines within is. settled.checkpoints.each k lines is;
}

module _ {D : Type 0} (disks : Disks D) (was begun : D) (now : IsTrue disks.tells → disks.images begun (disks.reading begun))
    (is : IsBegun disks was begun) (tells : IsTrue disks.tells) where
  -- the checkpoints that are finished are of sealed volumes
  finished_sealed : (book : Book) → IsKeptFor (disks.reading was) book → (k : ℕ) (lines : List Line) → IsCheckpoint k lines (checkpoint_of (disks.reading begun) k)
      → (k + 1 < length book.volumes) × AreLinesOf book k lines
  finished_sealed book kept k lines finished = by (cases_order k sealed)
    where
      sealed : ℕ
      sealed = sealed_count (warc_files (disks.reading was))

      cleared : IsCleared disks was begun
      cleared = is.cleared tells

      none : sealed ≤ k → (k + 1 < length book.volumes) × AreLinesOf book k lines
      none past = absurd (omega (
        arith,
        ap (λ (bytes : List ℕ). length bytes) (cleared.none (disks.reading begun) (now tells) k past),
        (is_committed lines (checkpoint_of (disks.reading begun) k) finished.text).more,
      ))

      below : k < sealed → (k + 1 < length book.volumes) × AreLinesOf book k lines
      below less = kept.sealed k lines less (subst (λ (bytes : List ℕ). IsCheckpoint k lines bytes) (cleared.clears.reading.others k less) finished)

      by : (k ≡ sealed) ⊎ ((k < sealed) ⊎ (sealed < k)) → (k + 1 < length book.volumes) × AreLinesOf book k lines
      by (inl same) = none (omega (arith, same))
      by (inr (inl less)) = below less
      by (inr (inr more)) = none (omega (arith, more))

  settled_begun : (book : Book) → IsKeptFor (disks.reading was) book → IsSettledFor (disks.reading begun) book
  settled_begun book kept = record {
    stands = still_stands disks was begun (is.cleared tells).clears book kept.stands;
    ids = kept.ids;
    checkpoints = record { each = finished_sealed book kept };
  }

module _ {D : Type 0} (disks : Disks D) (was begun : D) (now : IsTrue disks.tells → disks.images begun (disks.reading begun)) where
  -- a command that stores
  storing : (known : Option Book) (asked : Option (List ℕ)) → IsBegun disks was begun
      → IfSome known (λ book. IsTrue disks.tells → IsKeptFor (disks.reading was) book × IsAskedFor asked book) → MayBeSettled disks begun asked known
  storing None asked is may = tt
  storing (Some book) asked is may = λ tells. (settled_begun disks was begun now is tells book (may tells).0, (may tells).1)

  -- and another one
  other : (known : Option Book) (asked : Option (List ℕ)) → begun ≡ was → MayBeSettled disks was asked known → MayBeSettled disks begun asked known
  other known asked same may = subst (λ (d : D). MayBeSettled disks d asked known) (sym same) may

  pub begun_known : (known : Option Book) (command : Command) → BeginsWith disks (stores command) was begun → MayBegin disks was known command
      → MayBeSettled disks begun (asked_of command) known
  begun_known known Check = other known None
  begun_known known (Follow namespace) = storing known (Some namespace)
  begun_known known (Import namespace) = storing known (Some namespace)
  begun_known known (Pipe namespace) = storing known (Some namespace)
  begun_known known (Serve namespace workers) = storing known (Some namespace)
  begun_known known (Trial count seed) = other known None
  begun_known known (Verify workers) = other known None
