-- What is told of a disk, where of its book less is told than the disk tells.
use Rattle.std.proofs.Common.{Bool, true, false, IsTrue, refl, subst, arith}
use Rattle.std.proofs.lemmas.Bool.{false≢true}
use Rattle.disk_model.specs.declared.disk.Disk.{Ghosts}
use Rattle.archive_volumes.specs.Volumes.{IsQuiet, muted}

-- where nothing more may be opened of the disk, nothing more may be of its book
pub quiet_muted : {D : Type 0} (d : Ghosts D) (told : Bool) → (IsTrue told → IsTrue d.tells) → (old new : D) → IsQuiet d old new
    → IsQuiet (muted told d) old new
quiet_muted {D} d told only old new quiet = by told only
  where
    by : (b : Bool) → (IsTrue b → IsTrue d.tells) → IsQuiet (muted b d) old new
    by true tells = subst (λ (b : Bool). IsQuiet (muted b d) old new) (tells refl) quiet
    by false tells = record {
      later = omega arith;
      moves = λ t x le o. absurd (false≢true o.0);
      covered = λ t le all told. absurd (false≢true told);
      kept = λ files has. absurd (false≢true has.0);
    }
