-- What `verify` tells of an archive whose bytes are what was written.
use Rattle.std.specs.Prelude.{◌≡◌, false, List, length, map, All}
use Rattle.std.specs.List.{list_any}
use Rattle.archive_opening.specs.Counting.{HasCountsOf}
use Rattle.archive_shelf.specs.Openings.{ImageStandsFor}
use Rattle.archive_volumes.specs.Facts.{facts_of}
use Rattle.capture.specs.declared.book.Book.{Book}
use Rattle.disk_model.specs.Image.{Image}
use Rattle.verifying.specs.Verifies.{Checked, IsRight, is_damaged}

-- Of files that stand for a sound book no volume is damaged, by the verdict that its bytes have.
abbrev pub SoundVolumesVerify : Type 0
SoundVolumesVerify =
    (image : Image) (book : Book) (checked : List Checked) → ImageStandsFor image book
    → map (λ (c : Checked). c.facts) checked ≡ facts_of book → All (IsRight book.namespace (length (facts_of book)) image) checked
    → list_any (λ (c : Checked). is_damaged c.verdict) checked ≡ false

-- The verdicts on volumes that are due by bytes alone are one, whoever finds them, and whatever is known of the book.
abbrev pub VolumesVerifyOneWay : Type 0
VolumesVerifyOneWay =
    (image : Image) (book other : Book) (checked others : List Checked) → HasCountsOf image book → HasCountsOf image other
    → map (λ (c : Checked). c.facts) checked ≡ facts_of book → map (λ (c : Checked). c.facts) others ≡ facts_of other
    → All (IsRight book.namespace (length (facts_of book)) image) checked → All (IsRight other.namespace (length (facts_of other)) image) others
    → checked ≡ others
