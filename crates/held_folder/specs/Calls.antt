-- What the calls of a disk over a folder leave, clause by clause as `Disk` has them.
use Rattle.std.specs.Prelude.{◌≡◌, ℕ, Bool, IsTrue, List, [], take, length, Result, IfOk, OnOk, OnErr, ⊤}
use Rattle.disk_model.specs.Crash.{Torn, Cut, OnFile, MayCreate, HasFile, Within, Follows, Stepped, Leaves, Elapses}
use Rattle.disk_model.specs.Image.{file_count, file_of, with_file, with_new, written}
use Rattle.disk_model.specs.declared.kind.Kind.{Kind}
use Rattle.folder_model.specs.Times.{moment_of}
use Rattle.held_folder.specs.State.{State, IsKnown, reading, images, images_since}

pub record Creates {E : Type 0} (tells : Bool) (name : Kind → ℕ → List ℕ) (kind : Kind) (old new : State) (result : Result ℕ E) : Type 0 where
  pub known : IsTrue tells → IsKnown name new
  pub number : IsTrue tells → IfOk result (λ file. file ≡ file_count (reading name old) kind)
  pub created : IsTrue tells → OnOk result (reading name new ≡ with_new (reading name old) kind)
  pub partial : IsTrue tells → OnErr result (MayCreate kind (file_count (reading name old) kind) (reading name old) (reading name new))
  pub crash : Follows (MayCreate kind (file_count (reading name old) kind)) (images tells name old) (images tells name new)
  pub durable : IfOk result (λ file. Leaves (images tells name new) (HasFile kind file []))
  pub time : Elapses (moment_of old.times) (moment_of new.times) (images_since tells name old) (images_since tells name new)
      (Stepped (MayCreate kind (file_count (reading name old) kind)) (images tells name old))

pub record WritesAt {E : Type 0} (tells : Bool) (name : Kind → ℕ → List ℕ) (kind : Kind) (file at : ℕ) (bytes : List ℕ) (old new : State) (result : Result ⊤ E) : Type 0 where
  pub known : IsTrue tells → IsKnown name new
  pub written : IsTrue tells → OnOk result (reading name new ≡ with_file (reading name old) kind file (written (file_of (reading name old) kind file) at bytes))
  pub partial : IsTrue tells → OnErr result (OnFile kind file (Torn at (length bytes)) (reading name old) (reading name new))
  pub crash : Follows (OnFile kind file (Torn at (length bytes))) (images tells name old) (images tells name new)
  pub time : Elapses (moment_of old.times) (moment_of new.times) (images_since tells name old) (images_since tells name new) (images tells name new)

pub record Cuts {E : Type 0} (tells : Bool) (name : Kind → ℕ → List ℕ) (kind : Kind) (file len : ℕ) (old new : State) (result : Result ⊤ E) : Type 0 where
  pub known : IsTrue tells → IsKnown name new
  pub cut : IsTrue tells → OnOk result (reading name new ≡ with_file (reading name old) kind file (take len (file_of (reading name old) kind file)))
  pub partial : IsTrue tells → OnErr result (OnFile kind file (Cut len) (reading name old) (reading name new))
  pub crash : Follows (OnFile kind file (Cut len)) (images tells name old) (images tells name new)
  pub time : Elapses (moment_of old.times) (moment_of new.times) (images_since tells name old) (images_since tells name new) (images tells name new)

pub record Syncs {E : Type 0} (tells : Bool) (name : Kind → ℕ → List ℕ) (kind : Kind) (file : ℕ) (old new : State) (result : Result ⊤ E) : Type 0 where
  pub known : IsTrue tells → IsKnown name new
  pub durable : OnOk result (Leaves (images tells name new) (HasFile kind file (file_of (reading name old) kind file)))
  pub same : IsTrue tells → reading name new ≡ reading name old
  pub crash : Within (images tells name old) (images tells name new)
  pub time : Elapses (moment_of old.times) (moment_of new.times) (images_since tells name old) (images_since tells name new) (images tells name new)

-- a call that only looks
pub record Looks (tells : Bool) (name : Kind → ℕ → List ℕ) (old new : State) : Type 0 where
  pub known : IsTrue tells → IsKnown name new
  pub same : IsTrue tells → reading name new ≡ reading name old
  pub crash : Within (images tells name old) (images tells name new)
  pub time : Elapses (moment_of old.times) (moment_of new.times) (images_since tells name old) (images_since tells name new) (images tells name new)
