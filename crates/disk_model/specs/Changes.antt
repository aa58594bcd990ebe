-- A record of changes and syncs: what a read gives after it, what a crash may leave after it, and what a disk that
-- is stopped is left with.
use Rattle.std.specs.Prelude.{◌≡◌, ◌<◌, ◌≤◌, ℕ, zero, suc, ◌-◌, Bool, true, false, not, ◌&&◌, ◌==◌, nat_le, if◌then◌else◌, List, [], ◌∷◌, ◌++◌, length, take}
use Rattle.std.specs.List.{list_any}
use Rattle.disk_model.specs.Image.{Image, file_count, file_of, with_file, with_new, written}
use Rattle.disk_model.specs.Crash.{Torn, Cut, OnFile, MayCreate}
use Rattle.disk_model.specs.declared.kind.Kind.{Kind}
use Rattle.disk_model.specs.declared.kind.Kind.TheVariants.{Warc, Cdxj}
use Rattle.disk_model.specs.declared.change.Change.{Change}
use Rattle.disk_model.specs.declared.change.Change.TheVariants.{Wrote, Shortened, Made, HalfMade, Synced}

-- The files after a change. A file that was half made is there for reads; where the files before it are missing, it makes none.
abbrev pub done : Change → Image → Image
done (Wrote kind file at bytes) image = with_file image kind file (written (file_of image kind file) at bytes)
done (Shortened kind file len) image = with_file image kind file (take len (file_of image kind file))
done (Made kind) image = with_new image kind
done (HalfMade kind file) image = if file == file_count image kind then with_new image kind else image
done (Synced kind file) image = image

-- the files after these changes, in order
abbrev pub replayed : List Change → Image → Image
replayed [] image = image
replayed (change ∷ later) image = replayed later (done change image)

-- What a crash may leave after a change, where a read gave `reading` before it and a crash might have left `images`. A file that
-- was half made is there or not; once a file behind it was made, or it was synced, it is there.
abbrev pub left_by : Change → Image → (Image → Type 0) → Image → Type 0
left_by (Wrote kind file at bytes) reading images image = (before : Image) × images before × OnFile kind file (Torn at (length bytes)) before image
left_by (Shortened kind file len) reading images image = (before : Image) × images before × OnFile kind file (Cut len) before image
left_by (Made kind) reading images image = (before : Image) × images before × (file_count before kind ≡ file_count reading kind) × (image ≡ with_new before kind)
left_by (HalfMade kind file) reading images image = (before : Image) × images before × MayCreate kind file before image
left_by (Synced kind file) reading images image = images image × (file < file_count reading kind → file < file_count image kind) × (file_of image kind file ≡ file_of reading kind file)

-- What a crash may leave after these changes, in order.
abbrev pub left_after : List Change → Image → (Image → Type 0) → Image → Type 0
left_after [] reading images = images
left_after (change ∷ later) reading images = left_after later (done change reading) (left_by change reading images)

-- What a crash may leave of a disk that had these files, all of them durable, and then saw these changes.
abbrev pub may_leave : List Change → Image → Image → Type 0
may_leave changes first = left_after changes first (λ image. image ≡ first)

-- What a crash might have left at some moment since t, where the moment is the number of changes.
abbrev pub left_since : List Change → Image → ℕ → Image → Type 0
left_since changes first t image = (k : ℕ) × (t ≤ k) × (k ≤ length changes) × may_leave (take k changes) first image

abbrev pub is_kind : Kind → Kind → Bool
is_kind Warc Warc = true
is_kind Warc Cdxj = false
is_kind Cdxj Warc = false
is_kind Cdxj Cdxj = true

-- whether a change is a sync of the file
abbrev pub is_sync_of : Kind → ℕ → Change → Bool
is_sync_of kind file (Wrote k f at bytes) = false
is_sync_of kind file (Shortened k f len) = false
is_sync_of kind file (Made k) = false
is_sync_of kind file (HalfMade k f) = false
is_sync_of kind file (Synced k f) = is_kind kind k && (file == f)

-- whether after a change a crash leaves the file there: a later file of the kind was made, or it or a later one was synced
abbrev pub keeps_file : Kind → ℕ → Change → Bool
keeps_file kind file (Wrote k f at bytes) = false
keeps_file kind file (Shortened k f len) = false
keeps_file kind file (Made k) = is_kind kind k
keeps_file kind file (HalfMade k f) = false
keeps_file kind file (Synced k f) = is_kind kind k && nat_le file f

-- Whether a change isn't durable, by the changes after it: its file isn't synced among them, or none of them keeps the file
-- that was half made.
abbrev pub is_pending : Change → List Change → Bool
is_pending (Wrote kind file at bytes) later = not (list_any (is_sync_of kind file) later)
is_pending (Shortened kind file len) later = not (list_any (is_sync_of kind file) later)
is_pending (Made kind) later = false
is_pending (HalfMade kind file) later = not (list_any (keeps_file kind file) later)
is_pending (Synced kind file) later = false

-- the changes without those that are pending
abbrev pub durable_changes : List Change → List Change
durable_changes [] = []
durable_changes (change ∷ later) = if is_pending change later then durable_changes later else change ∷ durable_changes later

-- The changes, of which the pending ones are made for so many written bytes, in order. The next byte of a pending
-- write is `W` (87), and no later pending change is made.
abbrev pub torn_changes : ℕ → List Change → List Change
torn_changes budget [] = []
torn_changes budget (Wrote kind file at bytes ∷ later) =
    if is_pending (Wrote kind file at bytes) later
    then (if nat_le (length bytes) budget
    then Wrote kind file at bytes ∷ torn_changes (budget - length bytes) later
    else Wrote kind file at (take budget bytes ++ 87 ∷ []) ∷ durable_changes later)
    else Wrote kind file at bytes ∷ torn_changes budget later
torn_changes budget (change ∷ later) = change ∷ torn_changes budget later

-- The changes that a disk is left with when it is stopped: at choice 0 those that were synced, at 1 all, and at c
-- above 1 the pending ones for c - 2 bytes.
abbrev pub stopped_changes : ℕ → List Change → List Change
stopped_changes zero changes = durable_changes changes
stopped_changes (suc zero) changes = changes
stopped_changes (suc (suc budget)) changes = torn_changes budget changes
