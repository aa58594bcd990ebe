-- What is promised of what a round stored.
use Rattle.std.specs.Prelude.{ℕ, List, length}
use Rattle.archive_shelf.specs.Answers.{IsByRule}
use Rattle.archive_shelf.specs.declared.receipt.Receipt.{Receipt}
use Rattle.capture.specs.Captures.{captures, HasPayload, IsPayloadOf}
use Rattle.capture.specs.Soundness.{HasSoundCaptures}
use Rattle.capture.specs.declared.book.Book.{Book}
use Rattle.capture.specs.declared.captured.Taken.{Taken}

-- A capture that was stored by the rule has its payload, by its number, in the book after it, which is sound: also where another
-- capture keeps it.
abbrev pub StoredCapturesHaveTheirPayload : Type 0
StoredCapturesHaveTheirPayload =
    (limit : ℕ) (book : Book) (taken : Taken) (receipt : Receipt) (after : Book) (payload : List ℕ)
    → IsByRule limit book taken receipt after → HasPayload taken.cut taken.method taken.head taken.wire payload
    → HasSoundCaptures after → IsPayloadOf after (length (captures book)) payload
