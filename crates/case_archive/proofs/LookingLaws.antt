-- What was just found of a capture's payload is right of the capture.
use Rattle.std.proofs.Common.{◌≡◌, [], subst}
use Rattle.std.specs.Prelude.{ℕ, Bool, IsTrue, List}
use Rattle.capture.specs.GrowthLaws.{GrowsFromItself}
use Rattle.capture.specs.declared.book.Book.{Book}
use Rattle.capture.specs.declared.captured.Taken.{Taken}
use Rattle.warc_text.specs.Sound.{IsSound}
use Rattle.archive_shelf.specs.Comparing.{IsRight}
use Rattle.archive_shelf.specs.Contents.{Contents}
use Rattle.archive_shelf.specs.declared.looked.Looked.{Looked}
use Rattle.archive_core.specs.Looking.{FoundServesLater}
use Rattle.case_captures.specs.Preparing.{IsPayloadOfTaken}

-- an archive with this book
abbrev with_book : Bool → Book → Contents
with_book tells book = record { tells = tells; seen = book; shown = []; mine = []; limits = record { volume_bytes = 0; captures = 0 } }

pub right_now : FoundServesLater → GrowsFromItself → (tells : Bool) (book : Book) (taken : Taken) (payload asked : List ℕ) (looked : Looked)
    → (IsTrue tells → IsSound book) → IsPayloadOfTaken taken payload → asked ≡ payload → IsRight tells book asked looked
    → (other : List ℕ) → IsPayloadOfTaken taken other → IsRight tells book other looked
right_now serves itself tells book taken payload asked looked sound has same right =
    serves (with_book tells book) (with_book tells book) taken payload looked (λ told. (sound told).sound) (itself book) has
    (subst (λ (p : List ℕ). IsRight tells book p looked) same right)
