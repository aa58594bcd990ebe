-- What stands on a disk where a checkpoint was written, or was begun.
use Rattle.std.proofs.Common.{◌≤◌, ℕ, List, length, refl, ap, subst, inl, inr, ⊎_elim, arith}
use Rattle.capture.specs.Tails.{IsRest}
use Rattle.disk_model.specs.Image.{Image}
use Rattle.disk_model.proofs.MomentLaws.{now_has}
use Rattle.disk_model.specs.declared.disk.Disk.{Ghosts}
use Rattle.cdxj_line.specs.declared.line.Line.{Line}
use Rattle.checkpoint.specs.Checkpoints.{IsCheckpoint, checkpoint_of}
use Rattle.checkpoint.specs.Putting.{FinishedIsGiven, HasPut, VolumesStay}
use Rattle.checkpoint.proofs.ReadingLaws.{one_list}
use Rattle.checkpoint.proofs.WritingLaws.{is_committed}

-- what is unfinished is no finished checkpoint
rest_is_none : (volume : ℕ) (lines : List Line) (bytes : List ℕ) → IsRest 33 bytes → IsCheckpoint volume lines bytes → ⊥
rest_is_none volume lines bytes rest is =
    let whole = is_committed lines bytes is.text in
    ⊎_elim
    (λ empty. omega (arith, ap (λ (t : List ℕ). length t) empty, whole.more))
    (λ tail. ⊎_elim (λ other. other whole.begins) (λ alone. omega (arith, alone, whole.more)) tail.unfinished)
    rest

-- a checkpoint that is finished where these lines were written was finished before, or has them
pub finished_is_given : FinishedIsGiven
finished_is_given volume lines other others before image own is = ⊎_elim
    (λ same. inl (subst (λ (bytes : List ℕ). IsCheckpoint other others bytes) same is))
    (λ new. ⊎_elim
    (λ rest. absurd (rest_is_none other others (checkpoint_of image volume) rest is))
    (λ given. inr (let one = one_list other volume others lines (checkpoint_of image volume) is given in record { volume_is = one.0; lines_are = one.1 }))
    new)
    own

pub volumes_stay : {D : Type 0} (d : Ghosts D)
    → ((disk : D) (t : ℕ) (i : Image) → t ≤ d.moment disk → d.images disk i → d.images_since disk t i)
    → ((disk : D) (i : Image) → d.images_since disk (d.moment disk) i → d.images disk i)
    → VolumesStay d
volumes_stay d counts only volume lines old new puts image left =
    ⊎_elim
    (λ was. record { before = image; was = was; same = refl })
    (λ has. record { before = has.before; was = has.was; same = has.beside.warc })
    (now_has d.moment d.images_since old new (d.images old) (HasPut volume lines (d.images old)) (d.images new)
    (λ i now. counts new (d.moment old) i puts.leaves.later now) (only old) puts.leaves image left)
