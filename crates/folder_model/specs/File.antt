-- What was done to one file, and what reads and a crash then find of it. Lists of deeds have the newest first.
use Rattle.std.specs.Prelude.{◌≡◌, ℕ, ◌+◌, ◌-◌, Bool, true, false, not, IsTrue, Option, Some, None, is_some, List, [], ◌∷◌, length, take, ⊤}
use Rattle.std.specs.Option.{option_map}
use Rattle.disk_model.specs.Image.{written}
use Rattle.disk_model.specs.Crash.{Torn, Cut}

pub data FileDeed : Type 0 where
  -- it was made, empty
  Made : FileDeed
  -- these bytes were written at a place, and `rest` more were to be, which reads don't show
  Wrote : (at : ℕ) (bytes : List ℕ) (rest : ℕ) → FileDeed
  -- it was cut to a length, and was to lose `rest` bytes more
  Shortened : (len rest : ℕ) → FileDeed
  -- a sync of its bytes was done, or failed
  Synced : (done : Bool) → FileDeed
  -- a sync of its folder's names was done, or failed
  Listed : (done : Bool) → FileDeed

-- What reads find of a file, where the disk had `first` of it when the machine was started: nothing, or its bytes.
abbrev pub read_of : Option (List ℕ) → List FileDeed → Option (List ℕ)
read_of first [] = first
read_of first (Made ∷ earlier) = Some []
read_of first (Wrote at bytes rest ∷ earlier) = option_map (λ old. written old at bytes) (read_of first earlier)
read_of first (Shortened len rest ∷ earlier) = option_map (take len) (read_of first earlier)
read_of first (Synced done ∷ earlier) = read_of first earlier
read_of first (Listed done ∷ earlier) = read_of first earlier

-- after which event one looks at the disk
pub data After : Type 0 where
  -- a sync now that answers `Ok`
  Sync : After
  -- a crash now
  Crash : After

-- The bytes that the disk may hold of a file then. A sync that is done writes all since the sync before it, and answers for
-- nothing else: what a failed one was to write stays in doubt, as after a crash, until it is written anew.
abbrev pub MayHold : Option (List ℕ) → List FileDeed → After → List ℕ → Type 0
MayHold first [] after bytes = first ≡ Some bytes
MayHold first (Made ∷ earlier) after bytes = bytes ≡ []
MayHold first (Wrote at some rest ∷ earlier) Sync bytes = (old : List ℕ) × MayHold first earlier Sync old × (bytes ≡ written old at some)
MayHold first (Wrote at some rest ∷ earlier) Crash bytes = (old : List ℕ) × MayHold first earlier Crash old × Torn at (length some + rest) old bytes
MayHold first (Shortened len rest ∷ earlier) Sync bytes = (old : List ℕ) × MayHold first earlier Sync old × (bytes ≡ take len old)
MayHold first (Shortened len rest ∷ earlier) Crash bytes = (old : List ℕ) × MayHold first earlier Crash old × Cut (len - rest) old bytes
MayHold first (Synced true ∷ earlier) after bytes = MayHold first earlier Sync bytes
MayHold first (Synced false ∷ earlier) after bytes = MayHold first earlier Crash bytes
MayHold first (Listed done ∷ earlier) after bytes = MayHold first earlier after bytes

-- Whether the folder may lack the file's name then. What a failed sync of the folder was to write stays in doubt.
abbrev pub may_lack : Option (List ℕ) → List FileDeed → After → Bool
may_lack first [] after = not (is_some first)
may_lack first (Made ∷ earlier) Sync = false
may_lack first (Made ∷ earlier) Crash = true
may_lack first (Wrote at bytes rest ∷ earlier) after = may_lack first earlier after
may_lack first (Shortened len rest ∷ earlier) after = may_lack first earlier after
may_lack first (Synced done ∷ earlier) after = may_lack first earlier after
may_lack first (Listed true ∷ earlier) after = may_lack first earlier Sync
may_lack first (Listed false ∷ earlier) after = may_lack first earlier Crash

-- What a crash now may leave of a file: no name, or bytes that the disk may hold.
abbrev pub IsLeft : Option (List ℕ) → List FileDeed → Option (List ℕ) → Type 0
IsLeft first deeds None = IsTrue (may_lack first deeds Crash)
IsLeft first deeds (Some bytes) = MayHold first deeds Crash bytes

-- What a sync of the file now, if it answers `Ok`, leaves is what reads find: no sync of it failed, or what that one was to write
-- was written anew.
abbrev pub AreBytesSure : Option (List ℕ) → List FileDeed → Type 0
AreBytesSure first deeds = (bytes : List ℕ) → MayHold first deeds Sync bytes → read_of first deeds ≡ Some bytes

-- What a crash now leaves of the file's bytes, where it leaves the file, is what reads find.
abbrev pub AreBytesLeft : Option (List ℕ) → List FileDeed → Type 0
AreBytesLeft first deeds = (bytes : List ℕ) → MayHold first deeds Crash bytes → read_of first deeds ≡ Some bytes

-- After a sync of the folder now, if it answers `Ok`, it has the name of a file that reads find: none failed since it was made.
abbrev pub IsNameSure : Option (List ℕ) → List FileDeed → Type 0
IsNameSure first deeds = IsTrue (may_lack first deeds Sync) → read_of first deeds ≡ None

-- Of a file that is there before and after, a step of its bytes; of one that is there neither before nor after, nothing.
abbrev pub OnEntry : (List ℕ → List ℕ → Type 0) → Option (List ℕ) → Option (List ℕ) → Type 0
OnEntry Step None None = ⊤
OnEntry Step None (Some new) = ⊥
OnEntry Step (Some old) None = ⊥
OnEntry Step (Some old) (Some new) = Step old new
