-- What is printed.
use Rattle.std.specs.Prelude.{◌≡◌, ℕ, List, [], ◌∷◌, ◌++◌, codes, decimal}
use Rattle.httparse.specs.Ascii.{line_feed}
use Rattle.archive_shelf.specs.declared.counts.Counts.{Counts}
use Rattle.archive_shelf.specs.declared.fault.ReopenFault.{ReopenFault}
use Rattle.archive_shelf.specs.declared.fault.ReopenFault.TheVariants as faults
use Rattle.cdxj_line.specs.Lines.{six_digits}
use Rattle.disk_model.specs.declared.kind.Kind.{Kind}
use Rattle.disk_model.specs.declared.kind.Kind.TheVariants.{Warc, Cdxj}
use Rattle.uuid.specs.Text.{hyphenated_text, lower}

-- the forms of the command line
abbrev pub usage : List ℕ
usage = codes "usage: memproxy pipe NS, serve NS BASE WORKERS, check, trial COUNT NUMBER, import NS, verify WORKERS, follow NS BASE\n"

-- how many captures, revisits and volumes there are
unfoldable pub counts_front : Counts → List ℕ
counts_front counts =
    codes "captures " ++ decimal counts.captures ++ codes " revisits " ++ decimal counts.revisits ++ codes " volumes "
    ++ decimal counts.volumes

-- how much an archive holds
unfoldable pub counts_text : Counts → List ℕ
counts_text counts = counts_front counts ++ (line_feed ∷ [])

-- how many captures there are
unfoldable pub captures_line : ℕ → List ℕ
captures_line count = codes "captures " ++ decimal count ++ (line_feed ∷ [])

-- how much an archive holds, with the bytes of its volumes, and how many captures were brought back
unfoldable pub trial_text : Counts → (bytes replayed : ℕ) → List ℕ
trial_text counts bytes replayed =
    counts_front counts ++ codes " bytes " ++ decimal bytes ++ codes " replayed " ++ decimal replayed ++ (line_feed ∷ [])

-- the ending of a kind of files
unfoldable pub ending_of : Kind → List ℕ
ending_of Warc = codes ".warc"
ending_of Cdxj = codes ".cdxj"

-- the name of a file of the archive
unfoldable pub file_name : Kind → ℕ → List ℕ
file_name kind file = codes "vol-" ++ six_digits file ++ ending_of kind

-- the file and the place in it where damage begins
unfoldable pub damage_text : Kind → ℕ → ℕ → List ℕ
damage_text kind file place = codes "damaged " ++ file_name kind file ++ codes " " ++ decimal place ++ (line_feed ∷ [])

-- the namespace of an archive that another one was asked for (RFC 9562, section 4)
unfoldable pub other_text : List ℕ → List ℕ
other_text namespace = codes "other namespace " ++ hyphenated_text lower namespace ++ (line_feed ∷ [])

-- What is printed of an archive that isn't opened. Of want of memory nothing is.
abbrev pub IsFaultText : ReopenFault → List ℕ → Type 0
IsFaultText (faults.Damaged kind file place) text = text ≡ damage_text kind file place
IsFaultText (faults.OtherNamespace other) text = text ≡ other_text other
IsFaultText faults.DiskFault text = text ≡ codes "disk fault\n"
IsFaultText faults.Memory text = ⊥

-- ---- an archive that takes no more

-- how many captures it holds, and its limit
unfoldable pub full_line : (count limit : ℕ) → List ℕ
full_line count limit = codes "full " ++ decimal count ++ codes " " ++ decimal limit ++ (line_feed ∷ [])

unfoldable pub damaged_capture : ℕ → List ℕ
damaged_capture number = codes "damaged capture " ++ decimal number ++ (line_feed ∷ [])
