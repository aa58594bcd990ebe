-- What the model promises to those who reason about a disk in a folder.
use Rattle.std.specs.Prelude.{◌^◌, ◌≡◌, ◌≢◌, ◌⊎◌, ◌<◌, ◌≤◌, ◌+◌, ◌-◌, ℕ, Bool, true, false, List, [], length, Option, Some, ◌∷◌, take, drop}
use Rattle.disk_model.specs.Crash.{Torn, Cut, OnFile, MayCreate, HasFile, Within, Follows, Leaves}
use Rattle.disk_model.specs.Image.{Image, file_count, file_of}
use Rattle.disk_model.specs.declared.kind.Kind.{Kind}
use Rattle.folder_model.specs.File.{Made, Wrote, Shortened, Synced, AreBytesSure, FileDeed, Sync, MayHold, read_of}
use Rattle.folder_model.specs.Folder.{Contents, FolderPast, SyncedFolder, SyncedAround, did, did_to, deeds_of, contents_of, MayLeave, IsUnfailed, IsNameSureAt, AreBytesLeftAt}
use Rattle.folder_model.specs.Seen.{NamesApart, IsSeen, images_of, IsNamed, IsPlaced, FolderIs}
use Rattle.folder_model.specs.Times.{Times, IsTimed, moment_of, images_since_of}
use Rattle.folder_model.specs.Known.{IsInDoubt, Knows}
use Rattle.folder_model.specs.Ranges.{IsTornIn, IsTornAt, MendsIn}
use Rattle.folder_model.specs.Whole.{WritesWithin, OnlySyncs, MakesInPart, settled_durably, made_durably}
use Rattle.folder_model.specs.DiskCalls.{WriteLeaves, CutLeaves, SyncDone, SyncsLeave, CreateDone, CreateFailed}

-- what reads find is an image that a crash may leave, and none has more files of a kind
abbrev pub ReadingIsLeft : Type 0
ReadingIsLeft =
    (name : Kind → ℕ → List ℕ) (past : FolderPast) (reading : Image) → IsSeen name (contents_of past) reading → images_of name past reading

abbrev pub NoMoreFilesAreLeft : Type 0
NoMoreFilesAreLeft =
    (name : Kind → ℕ → List ℕ) (past : FolderPast) (reading image : Image) (kind : Kind) → IsSeen name (contents_of past) reading
    → images_of name past image → file_count image kind ≤ file_count reading kind

-- a write to a file is a torn write of the disk's file, a cut is a cut of it, and a file that is made may be made
abbrev pub WriteIsTorn : Type 0
WriteIsTorn =
    (name : Kind → ℕ → List ℕ) → NamesApart name → (kind : Kind) (file : ℕ) → file < 2 ^ 32 → (past : FolderPast) (at : ℕ) (bytes : List ℕ) (rest : ℕ)
    → Follows (OnFile kind file (Torn at (length bytes + rest))) (images_of name past) (images_of name (did_to past (name kind file) (Wrote at bytes rest)))

abbrev pub CutIsCut : Type 0
CutIsCut =
    (name : Kind → ℕ → List ℕ) → NamesApart name → (kind : Kind) (file : ℕ) → file < 2 ^ 32 → (past : FolderPast) (len rest : ℕ)
    → Follows (OnFile kind file (Cut (len - rest))) (images_of name past) (images_of name (did_to past (name kind file) (Shortened len rest)))

abbrev pub MakingMayCreate : Type 0
MakingMayCreate =
    (name : Kind → ℕ → List ℕ) → NamesApart name → (past : FolderPast) (reading : Image) (kind : Kind) → file_count reading kind < 2 ^ 32 → IsSeen name (contents_of past) reading
    → Follows (MayCreate kind (file_count reading kind)) (images_of name past) (images_of name (did_to past (name kind (file_count reading kind)) Made))

-- a sync, done or failed, adds no image
abbrev pub SyncAddsNothing : Type 0
SyncAddsNothing =
    (name : Kind → ℕ → List ℕ) (past : FolderPast) (n : List ℕ) (done : Bool) → Within (images_of name past) (images_of name (did_to past n (Synced done)))

-- Once a file is synced a crash leaves of it what reads find, where folder and name are on the disk, and no sync of the file failed, or
-- what that was to write was written anew.
abbrev pub SyncedFileIsDurable : Type 0
SyncedFileIsDurable =
    (name : Kind → ℕ → List ℕ) (past : FolderPast) (reading : Image) (kind : Kind) (file : ℕ) → FolderIs name past reading
    → file < file_count reading kind → IsNamed past (name kind file) → AreBytesSure (past.first (name kind file)) (deeds_of (name kind file) past.deeds)
    → Leaves (images_of name (did_to past (name kind file) (Synced true))) (HasFile kind file (file_of reading kind file))

-- Where the disk has the same as reads up to a place, whatever a sync leaves, a sync answers for the file again once it was cut at its length and
-- written anew from that place on.
abbrev pub WrittenAnewIsSure : Type 0
WrittenAnewIsSure =
    (first : Option (List ℕ)) (deeds : List FileDeed) (p : ℕ) (reading : List ℕ) → read_of first deeds ≡ Some reading → p ≤ length reading
    → ((old : List ℕ) → MayHold first deeds Sync old → take p old ≡ take p reading)
    → AreBytesSure first (Wrote p (drop p reading) 0 ∷ Shortened (length reading) 0 ∷ deeds)

-- Where a file was written in one range alone since a sync of it was done, a sync answers for it again once that range is written anew as it is read, and the
-- file cut where that ends, whatever syncs failed between; and that adds nothing to what a crash may leave, however much of it was done.
abbrev pub RangeAnewIsSure : Type 0
RangeAnewIsSure =
    (first : Option (List ℕ)) (deeds : List FileDeed) (at many : ℕ) (reading : List ℕ) → IsTornIn first deeds at many → read_of first deeds ≡ Some reading
    → AreBytesSure first (Shortened (length reading) 0 ∷ Wrote at (take many (drop at reading)) 0 ∷ deeds)

abbrev pub RangeAnewAddsNothing : Type 0
RangeAnewAddsNothing =
    (name : Kind → ℕ → List ℕ) → NamesApart name → (kind : Kind) (file at many : ℕ) (old new : FolderPast) (reading : Image)
    → FolderIs name old reading → file < file_count reading kind → IsTornAt old (name kind file) at many → MendsIn (name kind file) at many (file_of reading kind file) old new
    → Within (images_of name old) (images_of name new)

-- once the folder is synced behind a file that was made a crash leaves the file there, where the folder is on the disk
abbrev pub NewFileIsDurable : Type 0
NewFileIsDurable =
    (name : Kind → ℕ → List ℕ) (past : FolderPast) (reading : Image) (kind : Kind) → file_count reading kind < 2 ^ 32 → IsPlaced past
    → Leaves (images_of name (did (did_to past (name kind (file_count reading kind)) Made) (SyncedFolder true))) (HasFile kind (file_count reading kind) [])

-- a folder of which no sync has failed is a disk, once it and the folder around it are synced
abbrev pub OpenedFolderIsDisk : Type 0
OpenedFolderIsDisk =
    (name : Kind → ℕ → List ℕ) (past : FolderPast) (reading : Image) → IsUnfailed past → IsSeen name (contents_of past) reading
    → FolderIs name (did (did past (SyncedFolder true)) (SyncedAround true)) reading

-- whatever a crash leaves of a folder that is a disk is a disk, without a gap
abbrev pub EachLeftIsDisk : Type 0
EachLeftIsDisk =
    (name : Kind → ℕ → List ℕ) (past : FolderPast) (reading : Image) (contents : Contents) → FolderIs name past reading
    → MayLeave past contents → (image : Image) × IsSeen name contents image

-- an image now is one since each moment, one since now is one now, and one since a later moment is one since an earlier
abbrev pub ImagesNowCount : Type 0
ImagesNowCount =
    (name : Kind → ℕ → List ℕ) (past : FolderPast) (times : Times) (t : ℕ) (image : Image) → IsTimed times past
    → images_of name past image → images_since_of name past times t image

abbrev pub SinceNowIsNow : Type 0
SinceNowIsNow =
    (name : Kind → ℕ → List ℕ) (past : FolderPast) (times : Times) (image : Image) → IsTimed times past
    → images_since_of name past times (moment_of times) image → images_of name past image

abbrev pub LaterIsSinceEarlier : Type 0
LaterIsSinceEarlier =
    (name : Kind → ℕ → List ℕ) (past : FolderPast) (times : Times) (t s : ℕ) (image : Image) → IsTimed times past → t ≤ s
    → images_since_of name past times s image → images_since_of name past times t image

-- ---- each call of a disk over a folder leaves what `Disk` says of it

-- writes within a range of a file, however they ended, are a write of the disk
abbrev pub WritesAreTheDisks : Type 0
WritesAreTheDisks =
    (name : Kind → ℕ → List ℕ) → NamesApart name
    → (kind : Kind) (file at many : ℕ) (old new : FolderPast) (known : Kind → ℕ) (gave_up : Bool) (doubts : Kind → Option ℕ) (times : Times) (reading : Image)
    → Knows name old known gave_up doubts times reading → file < file_count reading kind → WritesWithin (name kind file) at many old new
    → WriteLeaves name kind file at many old new known gave_up doubts times reading

abbrev pub CutsAreTheDisks : Type 0
CutsAreTheDisks =
    (name : Kind → ℕ → List ℕ) → NamesApart name
    → (kind : Kind) (file len rest : ℕ) (old new : FolderPast) (known : Kind → ℕ) (gave_up : Bool) (doubts : Kind → Option ℕ) (times : Times) (reading : Image)
    → Knows name old known gave_up doubts times reading → file < file_count reading kind → new ≡ did_to old (name kind file) (Shortened (len + rest) rest)
    → CutLeaves name kind file len rest old new known gave_up doubts times reading

-- a sync that is done, by a disk that hasn't given up, of a file that syncs answer for, is a sync of the disk; that file isn't in doubt from then on
abbrev pub SyncsAreTheDisks : Type 0
SyncsAreTheDisks =
    (name : Kind → ℕ → List ℕ) (kind : Kind) (file : ℕ) (old new : FolderPast) (known : Kind → ℕ) (doubts left : Kind → Option ℕ) (times : Times) (reading : Image)
    → Knows name old known false doubts times reading → file < known kind
    → AreBytesSure (old.first (name kind file)) (deeds_of (name kind file) old.deeds)
    → ((m : List ℕ) → IsInDoubt name doubts m → (m ≡ name kind file) ⊎ IsInDoubt name left m)
    → new ≡ did_to old (name kind file) (Synced true)
    → SyncDone name kind file old new known left times reading

-- one that fails changes nothing, and the disk gives up, or it goes on and has one file more in doubt
abbrev pub FailedSyncsAreTheDisks : Type 0
FailedSyncsAreTheDisks =
    (name : Kind → ℕ → List ℕ) (n : List ℕ) (old new : FolderPast) (known : Kind → ℕ) (gave_up : Bool) (doubts left : Kind → Option ℕ) (times : Times) (reading : Image)
    → Knows name old known gave_up doubts times reading → new ≡ did_to old n (Synced false) → SyncsLeave name old new known true left times reading

abbrev pub DoubtsAreTheDisks : Type 0
DoubtsAreTheDisks =
    (name : Kind → ℕ → List ℕ) (n : List ℕ) (old new : FolderPast) (known : Kind → ℕ) (gave_up : Bool) (doubts left : Kind → Option ℕ) (times : Times) (reading : Image)
    → Knows name old known gave_up doubts times reading → ((m : List ℕ) → IsInDoubt name doubts m → IsInDoubt name left m) → IsInDoubt name left n → new ≡ did_to old n (Synced false)
    → SyncsLeave name old new known gave_up left times reading

-- writing anew the range of a file that is in doubt, done or not, changes nothing either; where all of it and the sync behind it is done, it is a sync of the disk
abbrev pub MendingsAreTheDisks : Type 0
MendingsAreTheDisks =
    (name : Kind → ℕ → List ℕ) → NamesApart name
    → (kind : Kind) (file at many : ℕ) (old new : FolderPast) (known : Kind → ℕ) (gave_up : Bool) (doubts : Kind → Option ℕ) (times : Times) (reading : Image)
    → Knows name old known gave_up doubts times reading → file < file_count reading kind → IsTornAt old (name kind file) at many → IsInDoubt name doubts (name kind file)
    → MendsIn (name kind file) at many (file_of reading kind file) old new
    → SyncsLeave name old new known gave_up doubts times reading

abbrev pub MendedSyncsAreTheDisks : Type 0
MendedSyncsAreTheDisks =
    (name : Kind → ℕ → List ℕ) → NamesApart name
    → (kind : Kind) (file at many : ℕ) (old mid new : FolderPast) (known : Kind → ℕ) (doubts left : Kind → Option ℕ) (times : Times) (reading : Image)
    → Knows name old known false doubts times reading → file < known kind → IsTornAt old (name kind file) at many
    → ((m : List ℕ) → IsInDoubt name doubts m → (m ≡ name kind file) ⊎ IsInDoubt name left m)
    → mid ≡ did_to (did_to old (name kind file) (Wrote at (take many (drop at (file_of reading kind file))) 0)) (name kind file) (Shortened (length (file_of reading kind file)) 0)
    → new ≡ did_to mid (name kind file) (Synced true)
    → SyncDone name kind file old new known left times reading

-- a file that is made so that it outlasts a crash, by a disk that hasn't given up and knows of all files of the kind, is made by the disk; where that fails, there
-- may be a file that the disk doesn't know of
abbrev pub CreatesAreTheDisks : Type 0
CreatesAreTheDisks =
    (name : Kind → ℕ → List ℕ) → NamesApart name
    → (kind : Kind) (old : FolderPast) (known : Kind → ℕ) (doubts : Kind → Option ℕ) (times : Times) (reading : Image) → Knows name old known false doubts times reading → file_count reading kind ≡ known kind
    → (new : FolderPast) (more : Kind → ℕ) → new ≡ made_durably (name kind (file_count reading kind)) old
    → ((k : Kind) → more k < 2 ^ 32) → more kind ≡ known kind + 1 → ((k : Kind) → k ≢ kind → more k ≡ known k)
    → CreateDone name kind old new more doubts times reading

abbrev pub FailedCreatesAreTheDisks : Type 0
FailedCreatesAreTheDisks =
    (name : Kind → ℕ → List ℕ) → NamesApart name
    → (kind : Kind) (old : FolderPast) (known : Kind → ℕ) (doubts : Kind → Option ℕ) (times : Times) (reading : Image) → Knows name old known false doubts times reading → file_count reading kind ≡ known kind
    → (new : FolderPast) → MakesInPart (name kind (file_count reading kind)) old new → CreateFailed name kind old new known doubts times reading

-- Syncs of such a file and of the folders, done or failed, change nothing where a crash leaves of its bytes what reads find; once all of them are done the disk knows of
-- it, where the folder's sync answers for its name.
abbrev pub SettlingsAreTheDisks : Type 0
SettlingsAreTheDisks =
    (name : Kind → ℕ → List ℕ) (kind : Kind) (old : FolderPast) (known : Kind → ℕ) (gave_up : Bool) (doubts : Kind → Option ℕ) (times : Times) (reading : Image)
    → Knows name old known gave_up doubts times reading → AreBytesLeftAt old (name kind (known kind))
    → (new : FolderPast) → OnlySyncs (name kind (known kind)) old new → SyncsLeave name old new known gave_up doubts times reading

abbrev pub SettledFilesAreTheDisks : Type 0
SettledFilesAreTheDisks =
    (name : Kind → ℕ → List ℕ) (kind : Kind) (old : FolderPast) (known : Kind → ℕ) (gave_up : Bool) (doubts : Kind → Option ℕ) (times : Times) (reading : Image)
    → Knows name old known gave_up doubts times reading → AreBytesLeftAt old (name kind (known kind))
    → (new : FolderPast) (more : Kind → ℕ) (remaining : Kind → Option ℕ) → new ≡ settled_durably (name kind (known kind)) old
    → known kind < file_count reading kind → IsNameSureAt old (name kind (known kind))
    → ((m : List ℕ) → IsInDoubt name doubts m → (m ≡ name kind (known kind)) ⊎ IsInDoubt name remaining m)
    → ((k : Kind) → more k < 2 ^ 32) → more kind ≡ known kind + 1 → ((k : Kind) → k ≢ kind → more k ≡ known k)
    → SyncsLeave name old new more gave_up remaining times reading

-- a disk that counted the files of a folder, and then synced it and the one around it, knows of them
abbrev pub OpenedDiskKnows : Type 0
OpenedDiskKnows =
    (name : Kind → ℕ → List ℕ) (past : FolderPast) (known : Kind → ℕ) (doubts : Kind → Option ℕ) (image : Image)
    → IsUnfailed past → IsSeen name (contents_of past) image → ((kind : Kind) → known kind < 2 ^ 32)
    → ((kind : Kind) → file_count image kind ≡ known kind)
    → Knows name (did (did past (SyncedFolder true)) (SyncedAround true)) known false doubts
    (record { made = length (did (did past (SyncedFolder true)) (SyncedAround true)).deeds; begun = [] }) image
