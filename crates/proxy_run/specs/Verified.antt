-- When `verify` finds each volume of an archive sound.
use Rattle.std.specs.Prelude.{◌≡◌, ◌⊎◌, ℕ, List, IsTrue, Some, None, Option}
use Rattle.archive_reopening.specs.Known.{told_at}
use Rattle.archive_opening.specs.Telling.{IsReadWhole}
use Rattle.archive_shelf.specs.declared.depth.Depth.TheVariants.{Checkpoints}
use Rattle.capture.specs.declared.book.Book.{Book}
use Rattle.capture.specs.declared.site.Site.{Site}
use Rattle.disk_model.specs.declared.disk.Disk.{Ghosts as Disks}
use Rattle.proxy_run.specs.Complete.{IsReady, NoFaults}
use Rattle.command.specs.Objects.{Kinds, Objects}
use Rattle.proxy_run.specs.Runs.{Runs}
use Rattle.command.specs.declared.status.Status.{Status}
use Rattle.command.specs.declared.status.Status.TheVariants.{Done, Memory}
use Rattle.command.specs.declared.words.Command.TheVariants.{Verify}

-- the book on a disk that tells is known, or what a read gives is ready and has no checkpoint that is taken in place of a volume
abbrev pub IsSureOf : {D : Type 0} → Disks D → Option Book → D → Type 0
IsSureOf disks known disk =
    IsTrue (told_at Checkpoints disks.tells known) ⊎ (IsTrue disks.tells × IsReady None (disks.reading disk) × IsReadWhole (disks.reading disk))

-- Where nothing failed and the book is sure, `verify` finds each volume sound, or memory ran out.
abbrev pub VerifiesAreAnswered : {D G L P N M C O : Type 0} → Kinds D G L P N M C O → Type 0
VerifiesAreAnswered {D = D} {G = G} {N = N} {C = C} {O = O} kinds =
    (workers : ℕ) (was is : Objects D G (List (N × C)) O) (status : Status) (known : Option Book) → IsSureOf kinds.disks known was.disk → NoFaults kinds was is
    → (site : Option Site) → Runs kinds known (Verify workers) site was is status → (status ≡ Done) ⊎ (status ≡ Memory)
