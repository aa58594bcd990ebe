-- A disk in memory as contracts see it, and what its calls count.
use Rattle.std.specs.Prelude.{◌≡◌, ◌⊎◌, ℕ, ◌+◌, ◌-◌, ◌^◌, min, Bool, false, IsTrue, ◌||◌, ◌==◌, Option, Some, None, List, [], ◌∷◌, ◌++◌, length}
use Rattle.std.specs.List.{list_any}
use Rattle.disk_model.specs.Image.{Image, no_files, file_count}
use Rattle.disk_model.specs.Changes.{replayed, may_leave, left_since, stopped_changes}
use Rattle.disk_model.specs.declared.kind.Kind.{Kind}
use Rattle.disk_model.specs.declared.change.Change.{Change}
use Rattle.disk_model.specs.declared.change.Change.TheVariants.{HalfMade}

pub record Device : Type 0 where
  -- the files that it had first, all of them durable
  pub first : Image
  -- its changes and syncs since, in order
  pub changes : List Change
  -- the numbers of the calls that are to fail
  pub fails : List ℕ
  -- after how many further calls each call fails
  pub fuse : Option ℕ
  -- whether a `create` that is to fail leaves its file half made
  pub half_makes : Bool
  -- how many calls were made, and how many of them reads
  pub calls : ℕ
  pub reads : ℕ
  -- how many of them failed
  pub faults : ℕ

-- a disk without files, whose calls of these numbers fail
abbrev pub new_device : List ℕ → Device
new_device fails = record { first = no_files; changes = []; fails = fails; fuse = None; half_makes = false; calls = 0; reads = 0; faults = 0 }

-- what a read gives
abbrev pub reading_of : Device → Image
reading_of device = replayed device.changes device.first

-- the images that a crash now may leave
abbrev pub images_of : Device → Image → Type 0
images_of device = may_leave device.changes device.first

-- the moment, which is the number of changes
abbrev pub moment_of : Device → ℕ
moment_of device = length device.changes

-- the images that a crash at some moment since t might have left
abbrev pub images_since_of : Device → ℕ → Image → Type 0
images_since_of device = left_since device.changes device.first

-- a count after one more, which stands still at its end
abbrev pub counted : ℕ → ℕ
counted n = min (n + 1) (2 ^ 64 - 1)

abbrev pub is_burnt_down : Option ℕ → Bool
is_burnt_down (Some calls) = calls == 0
is_burnt_down None = false

abbrev pub burnt : Option ℕ → Option ℕ
burnt (Some calls) = Some (calls - 1)
burnt None = None

-- whether the next call is to fail: by the list or by the fuse
abbrev pub is_to_fail : Device → Bool
is_to_fail device = list_any (λ number. number == device.calls) device.fails || is_burnt_down device.fuse

-- the disk after a call was counted
abbrev pub called : Device → Device
called device = record device { calls = counted device.calls; fuse = burnt device.fuse }

-- the disk after a read was counted
abbrev pub read_called : Device → Device
read_called device = record device { reads = counted device.reads }

-- the disk after a failure was counted
abbrev pub faulted : Device → Device
faulted device = record device { faults = counted device.faults }

-- the disk after a change
abbrev pub changed : Change → Device → Device
changed change device = record device { changes = device.changes ++ change ∷ [] }

-- the disk after a file was half made, of the number that comes next
abbrev pub half_made : Kind → Device → Device
half_made kind device = changed (HalfMade kind (file_count (reading_of device) kind)) device

-- After a `create` that failed: only the counts are others, or, where it is to fail and this disk does so, a file is half made.
abbrev pub IsFailedCreate : Kind → Device → Device → Type 0
IsFailedCreate kind old new =
    (new ≡ faulted (called old)) ⊎ (IsTrue (is_to_fail old) × IsTrue old.half_makes × (new ≡ half_made kind (faulted (called old))))

-- the disk that is left when this one is stopped
abbrev pub stopped : Device → ℕ → Device
stopped device choice = record {
  first = replayed (stopped_changes choice device.changes) device.first;
  changes = [];
  fails = [];
  fuse = None;
  half_makes = false;
  calls = 0;
  reads = 0;
  faults = device.faults;
}
