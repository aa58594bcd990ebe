-- What is in doubt of a disk's files, and what its calls make of that.
use Rattle.std.specs.Prelude.{◌^◌, ◌≡◌, ◌≢◌, ◌⊎◌, ◌<◌, ◌≤◌, ◌+◌, ℕ, true, false, if◌then◌else◌, IsTrue, Option, Some, None, is_some, IfSome, Err, List, ⊤}
use Rattle.disk_model.specs.declared.kind.Kind.{Kind}
use Rattle.disk_model.specs.declared.kind.Kind.TheVariants.{Warc, Cdxj}
use Rattle.folder_model.specs.Folder.{FolderPast, contents_of, IsNameSureAt, AreBytesLeftAt}
use Rattle.folder_model.specs.Ranges.{IsTornAt}
use Rattle.folder_model.specs.Whole.{MakesInPart, OnListed}
use Rattle.folder_model.specs.declared.durable.MakeFault.{MakeFault}
use Rattle.held_folder.specs.declared.trust.Further.{Further}
use Rattle.held_folder.specs.declared.trust.Further.TheVariants.{Absent, Unsettled, Unlisted}
use Rattle.held_folder.specs.declared.trust.Trust.{Trust}
use Rattle.held_folder.specs.declared.trust.Written.{Written}

-- what is known of a file of a kind
abbrev pub range_of : Trust → Kind → Option Written
range_of trust Warc = trust.warc
range_of trust Cdxj = trust.cdxj

abbrev pub with_range : Kind → Option Written → Trust → Trust
with_range Warc range trust = record trust { warc = range }
with_range Cdxj range trust = record trust { cdxj = range }

-- what is known of a file behind those of a kind that are known
abbrev pub further_of : Trust → Kind → Further
further_of trust Warc = trust.further_warc
further_of trust Cdxj = trust.further_cdxj

abbrev pub with_further : Kind → Further → Trust → Trust
with_further Warc further trust = record trust { further_warc = further }
with_further Cdxj further trust = record trust { further_cdxj = further }

-- after a sync of the folder that failed
abbrev pub unlisted : Further → Further
unlisted Absent = Absent
unlisted Unsettled = Unlisted
unlisted Unlisted = Unlisted

abbrev pub unlisted_all : Trust → Trust
unlisted_all trust = record trust { further_warc = unlisted trust.further_warc; further_cdxj = unlisted trust.further_cdxj }

-- What is known of a file of this name that was to be made is so: it isn't there; or a crash leaves of it what reads find, and a sync of the folder answers for its
-- name; or nothing is known.
abbrev pub IsFurther : Further → FolderPast → List ℕ → Type 0
IsFurther Absent past name = contents_of past name ≡ None
IsFurther Unsettled past name = IsNameSureAt past name × AreBytesLeftAt past name
IsFurther Unlisted past name = ⊤

-- A file of this name was to be made: it was, with nothing but syncs behind it, or nothing was done. Where no sync of the folder failed the next one answers for each
-- name that it answered for.
pub record IsMissed (name : List ℕ) (fault : MakeFault) (old new : FolderPast) : Type 0 where
  pub partial : MakesInPart name old new
  pub listed : (m : List ℕ) → IsNameSureAt old m → OnListed {T = ⊤} (Err fault) (IsNameSureAt new m)

-- the number of the file, where it is in doubt
abbrev pub doubt_in : Option Written → Option ℕ
doubt_in None = None
doubt_in (Some range) = if range.in_doubt then Some range.number else None

abbrev pub doubts_of : Trust → Kind → Option ℕ
doubts_of trust kind = doubt_in (range_of trust kind)

-- what is known of a file is so
abbrev pub IsTornTo : (Kind → ℕ → List ℕ) → FolderPast → Kind → Written → Type 0
IsTornTo name past kind range = (range.number < 2 ^ 32) × IsTornAt past (name kind range.number) range.at range.len

abbrev pub AreTorn : (Kind → ℕ → List ℕ) → FolderPast → Trust → Type 0
AreTorn name past trust = (kind : Kind) → IfSome (range_of trust kind) (IsTornTo name past kind)

-- ---- what is known after a call of what was known before

-- the write was to another file, or within the range
abbrev pub IsUnharmed : ℕ → ℕ → ℕ → Written → Type 0
IsUnharmed number at len range = (range.number ≢ number) ⊎ ((range.at ≤ at) × (at + len ≤ range.at + range.len))

-- after a write of which all bytes may be torn
abbrev pub AfterWhole : ℕ → ℕ → ℕ → Option Written → Option Written → Type 0
AfterWhole number at len old None = ⊤
AfterWhole number at len None (Some new) = ⊥
AfterWhole number at len (Some old) (Some new) =
    ((new ≡ old) × IsUnharmed number at len old) ⊎ ((old.number ≡ number) × (old.len ≡ 0) × (new ≡ record old { at = at; len = len }))

-- after writes within these bytes
abbrev pub AfterPart : ℕ → ℕ → ℕ → Option Written → Option Written → Type 0
AfterPart number at len old None = ⊤
AfterPart number at len None (Some new) = ⊥
AfterPart number at len (Some old) (Some new) = (new ≡ old) × IsUnharmed number at len old

-- After a cut that was done: it is forgotten only behind a write to the file.
abbrev pub AfterCut : ℕ → Option Written → Option Written → Type 0
AfterCut number None None = ⊤
AfterCut number (Some old) None = (old.number ≡ number) × (old.len ≢ 0)
AfterCut number None (Some new) = ⊥
AfterCut number (Some old) (Some new) = ((new ≡ old) × (old.number ≢ number)) ⊎ ((old.number ≡ number) × (old.len ≡ 0) × (new ≡ record old { at = 0 }))

-- after one that failed
abbrev pub AfterCutPart : ℕ → Option Written → Option Written → Type 0
AfterCutPart number old None = ⊤
AfterCutPart number None (Some new) = ⊥
AfterCutPart number (Some old) (Some new) = (new ≡ old) × (old.number ≢ number)

-- a file that is as it was synced
abbrev pub clean : ℕ → Written
clean number = record { number = number; at = 0; len = 0; in_doubt = false }

-- after a sync of a file that was done: another file that is in doubt stays so
abbrev pub AfterSync : ℕ → Option Written → Option Written → Type 0
AfterSync number old new =
    ((new ≡ Some (clean number)) × ((doubt_in old ≡ None) ⊎ (doubt_in old ≡ Some number)))
    ⊎ ((new ≡ old) × IfSome old (λ range. range.number ≢ number))

-- no file in doubt is forgotten
abbrev pub KeepsDoubt : Option Written → Option Written → Type 0
KeepsDoubt old new = (doubt_in old ≡ None) ⊎ IsTrue (is_some new)

-- What is known of the file of a kind goes on so, or the disk gives up.
pub record GoesOn (kind : Kind) (After : Option Written → Option Written → Type 0) (old new : Trust) : Type 0 where
  pub range : Option Written
  pub after : After (range_of old kind) range
  pub only : new ≡ with_range kind range (record old { gave_up = new.gave_up })
  pub going : new.gave_up ≡ false → old.gave_up ≡ false
  pub doubt : new.gave_up ≡ false → KeepsDoubt (range_of old kind) range

-- what is known after a sync of a file that was done
pub record SyncedTo (kind : Kind) (number : ℕ) (old new : Trust) : Type 0 where
  pub range : Option Written
  pub after : AfterSync number (range_of old kind) range
  pub only : new ≡ with_range kind range old

-- nothing is known of a file
abbrev pub IsOtherRange : ℕ → Option Written → Type 0
IsOtherRange number range = IfSome range (λ r. r.number ≢ number)

-- after one that failed: the file is in doubt, or the disk gives up, where nothing is known of it
abbrev pub AfterFailure : Kind → ℕ → Trust → Trust → Type 0
AfterFailure kind number old new =
    ((new ≡ record old { gave_up = true }) × IsOtherRange number (range_of old kind))
    ⊎ ((range : Written) × (range_of old kind ≡ Some range) × (range.number ≡ number) × (new ≡ with_range kind (Some (record range { in_doubt = true })) old))
