-- A book's checkpoints stay right where those that are missing are written.
use Rattle.std.proofs.Common.{◌<◌, ◌+◌, ℕ, List, length, sym, subst, inr, ⊎_elim}
use Rattle.cdxj_line.specs.declared.line.Line.{Line}
use Rattle.checkpoint.specs.Checkpoints.{IsCheckpoint, checkpoint_of}
use Rattle.checkpoint.specs.OfVolume.{AreLinesOf}
use Rattle.checkpoint.specs.Putting.{FinishedIsGiven}
use Rattle.archive_settling.specs.Settling.{KeepsSettled}

pub settled_stays : FinishedIsGiven → KeepsSettled
settled_stays given shelved upto first before image told goes right = record { each = each }
  where
    each : (k : ℕ) (lines : List Line) → IsCheckpoint k lines (checkpoint_of image k) → (k + 1 < length shelved.book.volumes) × AreLinesOf shelved.book k lines
    each k lines is = ⊎_elim
        (λ same. right.each k lines (subst (λ (bytes : List ℕ). IsCheckpoint k lines bytes) same is))
        (λ supplied. ⊎_elim
        (λ was. right.each k lines was)
        (λ done. (
          supplied.2.sealed,
          subst (AreLinesOf shelved.book k) (sym done.lines_are) (supplied.2.are told),
        ))
        (given k supplied.1 k lines before image (inr supplied.3) is))
        (goes.each k)
