-- Whether the checkpoint of a volume is missing.
use Rattle.std.proofs.Common.{◌≡◌, ◌≤◌, ◌<◌, ◌⊎◌, ◌↔◌, ℕ, Bool, true, false, not, IsTrue, List, length, refl, sym, ap, subst, inl, inr, arith}
use Rattle.std.specs.Bool.{Decides}
use Rattle.std.specs.Prelude.{IfOk, IsErrAnd, Result, Ok, Err}
use Rattle.std.proofs.lemmas.Bool.{cases_order, false≢true}
use Rattle.std.proofs.lemmas.Bool.Decides.{Decides-and, Decides-eqb, Decides-like}
use Rattle.std.proofs.lemmas.Slice.Eq.{bytes_eq-Decides}
use Rattle.disk_model.specs.Crash.{Leaves}
use Rattle.disk_model.proofs.MomentLaws.{joined, weakened}
use Rattle.disk_model.specs.Image.{Image, file_count}
use Rattle.disk_model.specs.declared.disk.Disk.{Ghosts}
use Rattle.disk_model.specs.declared.kind.Kind.TheVariants.{Cdxj}
use Rattle.warc_journal.specs.Journals.{Rests}
use Rattle.cdxj_line.specs.declared.line.Line.{Line}
use Rattle.cdxj_line.specs.contracts.line.LinePartialEq.TheImpl as line
use Rattle.checkpoint.specs.Checkpoints.{IsCheckpoint, checkpoint_of}
use Rattle.checkpoint.specs.Putting.{HasPut, HoldsCheckpoint, IsBeside, Puts}
use Rattle.checkpoint.specs.declared.fault.CheckpointFault.{CheckpointFault}
use Rattle.checkpoint.specs.declared.fault.CheckpointFault.TheVariants as checkpoints
use Rattle.checkpoint.specs.Reading.{HasCheckpointOf, IsNoCheckpoint}
use Rattle.checkpoint.proofs.Missing.{missing_file}
use Rattle.checkpoint.proofs.ReadingLaws.{one_list}
use Rattle.checkpoint.proofs.WritingLaws.{is_committed}
use Rattle.archive_settling.specs.Settling.{IsDue, Supplies}

-- the parts of two lines are the same
abbrev HasParts : Line → Line → Type 0
HasParts a b = (a.key ≡ b.key) × ((a.date ≡ b.date) × ((a.digest ≡ b.digest) × ((a.volume ≡ b.volume) × ((a.length ≡ b.length) × ((a.method ≡ b.method) × ((a.mime ≡ b.mime) × ((a.number ≡ b.number) × ((a.offset ≡ b.offset) × ((a.status ≡ b.status) × (a.url ≡ b.url))))))))))

one_line : (a b : Line) → HasParts a b → a ≡ b
one_line a b e i = record {
  key = e.0 i;
  date = e.1.0 i;
  digest = e.1.1.0 i;
  volume = e.1.1.1.0 i;
  length = e.1.1.1.1.0 i;
  method = e.1.1.1.1.1.0 i;
  mime = e.1.1.1.1.1.1.0 i;
  number = e.1.1.1.1.1.1.1.0 i;
  offset = e.1.1.1.1.1.1.1.1.0 i;
  status = e.1.1.1.1.1.1.1.1.1.0 i;
  url = e.1.1.1.1.1.1.1.1.1.1 i;
}

same_parts : (a b : Line) → a ≡ b → HasParts a b
same_parts a b e = (ap (λ (l : Line). l.key) e, (ap (λ (l : Line). l.date) e, (ap (λ (l : Line). l.digest) e, (ap (λ (l : Line). l.volume) e, (ap (λ (l : Line). l.length) e, (ap (λ (l : Line). l.method) e, (ap (λ (l : Line). l.mime) e, (ap (λ (l : Line). l.number) e, (ap (λ (l : Line). l.offset) e, (ap (λ (l : Line). l.status) e, ap (λ (l : Line). l.url) e))))))))))

-- `==` of two lines tells whether they are the same
pub line_decides : (a b : Line) → Decides (line.eq-value.it a b) (a ≡ b)
line_decides a b = Decides-like (line.eq-value.it a b) (one_line a b) (same_parts a b)
    (Decides-and _ _ (bytes_eq-Decides a.key b.key)
    (Decides-and _ _ (Decides-eqb a.date b.date)
    (Decides-and _ _ (bytes_eq-Decides a.digest b.digest)
    (Decides-and _ _ (Decides-eqb a.volume b.volume)
    (Decides-and _ _ (Decides-eqb a.length b.length)
    (Decides-and _ _ (bytes_eq-Decides a.method b.method)
    (Decides-and _ _ (bytes_eq-Decides a.mime b.mime)
    (Decides-and _ _ (Decides-eqb a.number b.number)
    (Decides-and _ _ (Decides-eqb a.offset b.offset)
    (Decides-and _ _ (Decides-eqb a.status b.status)
    (bytes_eq-Decides a.url b.url)))))))))))

-- ---- a file that is there

-- a finished checkpoint's file is there
pub is_there : (volume : ℕ) (lines : List Line) (image : Image) → IsCheckpoint volume lines (checkpoint_of image volume) → volume < file_count image Cdxj
is_there volume lines image is = by (cases_order volume (file_count image Cdxj))
  where
    past : file_count image Cdxj ≤ volume → volume < file_count image Cdxj
    past at =
        omega (arith, ap (λ (t : List ℕ). length t) (missing_file image volume at), (is_committed lines (checkpoint_of image volume) is.text).more)

    by : (volume ≡ file_count image Cdxj) ⊎ ((volume < file_count image Cdxj) ⊎ (file_count image Cdxj < volume)) → volume < file_count image Cdxj
    by (inl e) = past (omega (arith, e))
    by (inr (inl less)) = less
    by (inr (inr more)) = past (omega (arith, more))

-- an image that has the file as a read gave it has the checkpoint
pub held_as_read : (volume : ℕ) (lines : List Line) (reading image : Image) → IsCheckpoint volume lines (checkpoint_of reading volume)
    → checkpoint_of image volume ≡ checkpoint_of reading volume → HoldsCheckpoint volume lines image
held_as_read volume lines reading image is same =
    let here = subst (λ (bytes : List ℕ). IsCheckpoint volume lines bytes) (sym same) is in
    record { there = is_there volume lines image here; finished = here }

-- where a finished checkpoint was found, it has to be written where it has other lines
pub due_by_found : {D : Type 0} (d : Ghosts D) (volume : ℕ) (lines found : List Line) (old new : D) (same : Bool)
    → IsCheckpoint volume found (checkpoint_of (d.reading old) volume)
    → Leaves (d.images new) (HasCheckpointOf (d.reading old) volume) → (IsTrue same ↔ found ≡ lines) → IsDue d volume lines old new (not same)
due_by_found d volume lines found old new true is left tells = λ le.
    let here = subst (λ (all : List Line). IsCheckpoint volume all (checkpoint_of (d.reading old) volume)) (tells.0 refl) is in
    record {
      was = record { there = is_there volume lines (d.reading old) here; finished = here };
      is = λ image now. held_as_read volume lines (d.reading old) image here (left image now);
    }
due_by_found d volume lines found old new false is left tells = (
  omega (arith, is_there volume found (d.reading old) is),
  λ other. absurd (false≢true (tells.1 (one_list volume volume found lines (checkpoint_of (d.reading old) volume) is other).1)),
)

-- where none was found, it has to be written where there is a place for it
pub due_by_place : {D : Type 0} (d : Ghosts D) (volume : ℕ) (lines : List Line) (old mid new : D) (result : Result Bool CheckpointFault)
    → d.reading mid ≡ d.reading old → IsNoCheckpoint volume (checkpoint_of (d.reading old) volume)
    → IfOk result (λ is. IsTrue is ↔ volume ≤ file_count (d.reading mid) Cdxj) → IfOk result (IsDue d volume lines old new)
due_by_place d volume lines old mid new (Ok true) same none place =
    (subst (λ (image : Image). volume ≤ file_count image Cdxj) same (place.0 refl), none lines)
due_by_place d volume lines old mid new (Ok false) same none place =
    λ le. absurd (false≢true (place.1 (subst (λ (image : Image). volume ≤ file_count image Cdxj) (sym same) le)))
due_by_place d volume lines old mid new (Err fault) same none place = tt

-- ---- what is written after it was looked for

put_after : {D : Type 0} (d : Ghosts D) (volume : ℕ) (lines : List Line) (old mid new : D) → Rests d old mid → Puts d volume lines mid new
    → Puts d volume lines old new
put_after d volume lines old mid new rests puts = record {
  leaves = joined d.moment d.images_since old mid new (HasPut volume lines (d.images old))
      (weakened d.moment d.images_since old mid (λ image. ⊥) (HasPut volume lines (d.images old)) (λ image none. absurd none) rests.leaves)
      (weakened d.moment d.images_since mid new (HasPut volume lines (d.images mid)) (HasPut volume lines (d.images old))
      (λ image has. record { before = has.before; was = rests.crash has.before has.was; beside = has.beside; own = has.own }) puts.leaves);
  reading = subst (λ (i : Image). IsBeside volume i (d.reading new)) rests.read puts.reading;
}

-- refused: for want of memory nothing was written
pub refused_by : {D : Type 0} (d : Ghosts D) (volume : ℕ) (lines : List Line) (old mid new : D) (fault : CheckpointFault) → Rests d old mid
    → (IsCheckpoint volume lines (checkpoint_of (d.reading old) volume) → ⊥) → Puts d volume lines mid new → (fault ≡ checkpoints.Memory → new ≡ mid)
    → Supplies d volume lines old new (Err fault)
refused_by d volume lines old mid new checkpoints.DiskFault rests missing puts memory =
    inr (record { missing = missing; puts = put_after d volume lines old mid new rests puts })
refused_by {D} d volume lines old mid new checkpoints.Memory rests missing puts memory = subst (λ (n : D). Rests d old n) (sym (memory refl)) rests

pub rests_refused : {D : Type 0} (d : Ghosts D) (volume : ℕ) (lines : List Line) (old new : D) (fault : CheckpointFault) → Rests d old new
    → Supplies d volume lines old new (Err fault)
rests_refused d volume lines old new checkpoints.DiskFault rests = inl rests
rests_refused d volume lines old new checkpoints.Memory rests = rests

-- what a `?` hands out is the same fault
pub same_fault : (P : Result Bool CheckpointFault → Type 0) (fault : CheckpointFault) (result : Result Bool CheckpointFault)
    → IsErrAnd result (λ f. f ≡ fault) → P (Err fault) → P result
same_fault P fault (Ok wrote) is p = absurd is
same_fault P fault (Err f) is p = subst (λ (g : CheckpointFault). P (Err g)) (sym is) p
