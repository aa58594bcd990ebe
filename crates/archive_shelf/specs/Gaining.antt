-- What a book keeps when it gains a volume or a capture: its texts, and that it is sound.
use Rattle.std.specs.Prelude.{◌≡◌, ℕ, ◌+◌, ◌-◌, ◌^◌, ◌<◌, List, [], ◌∷◌, ◌++◌, length, slice_get, Some}
use Rattle.capture.specs.Captures.{captures}
use Rattle.capture.specs.Growth.{Grows}
use Rattle.capture.specs.declared.book.Book.{Book}
use Rattle.capture.specs.declared.book.Volume.{Volume}
use Rattle.capture.specs.declared.captured.Stored.{Stored}
use Rattle.capture.specs.declared.captured.Taken.{Taken}
use Rattle.time_text.specs.Texts.{InRange}
use Rattle.warc_journal.specs.Texts.{with_more}
use Rattle.warc_text.specs.Books.{AreVolumeTexts, IsGroupText}
use Rattle.warc_text.specs.Fits.{Fits}
use Rattle.warc_text.specs.Records.{info_text}
use Rattle.warc_text.specs.Sound.{IsSound}
use Rattle.archive_shelf.specs.Storing.{Storing, stored_by, with_capture, with_volume}

-- the text of a new volume stands behind those of the others
abbrev pub VolumesAddTheirText : Type 0
VolumesAddTheirText =
    (book : Book) (born : ℕ) (texts : List (List ℕ)) → AreVolumeTexts book texts
    → AreVolumeTexts (with_volume book born) (texts ++ info_text book.namespace (length book.volumes) born ∷ [])

-- the group of a new capture stands behind the text of the last volume
abbrev pub CapturesAddTheirGroup : Type 0
CapturesAddTheirGroup =
    (book : Book) (stored : Stored) (texts : List (List ℕ)) (group : List ℕ) → 0 < length book.volumes
    → AreVolumeTexts book texts → IsGroupText (with_capture book stored) (length (captures book)) group
    → AreVolumeTexts (with_capture book stored) (with_more texts group)

-- each volume holds a capture
abbrev pub AreFilled : Book → Type 0
AreFilled book = (k : ℕ) (volume : Volume) → slice_get book.volumes k ≡ Some volume → 0 < length volume.captures

-- a sound book whose volumes all hold a capture stays sound with a new volume
abbrev pub VolumesKeepSoundness : Type 0
VolumesKeepSoundness =
    (book : Book) (born : ℕ) → IsSound book → AreFilled book → InRange born → IsSound (with_volume book born)

-- storing a capture that fits keeps a book sound, and leaves a sound one where it makes room alone
abbrev pub StoringKeepsSoundness : Type 0
StoringKeepsSoundness =
    (limit : ℕ) (book : Book) (taken : Taken) (storing : Storing limit book taken) → Fits taken → IsSound book
    → limit < 2 ^ 62 → length (captures book) + 1 < 2 ^ 32 - 1
    → IsSound storing.unfilled × IsSound (stored_by storing)

-- a book from which a sound one has grown is sound
abbrev pub GrowthLeavesSoundness : Type 0
GrowthLeavesSoundness = (old new : Book) → Grows old new → IsSound new → IsSound old
