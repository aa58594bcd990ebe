-- Which books are sound: those that an archive may hold.
use Rattle.std.specs.Prelude.{ℕ, ◌^◌, ◌<◌, List, length, All}
use Rattle.time_text.specs.Texts.{InRange}
use Rattle.capture.specs.Captures.{captures}
use Rattle.capture.specs.Soundness.{HasSoundCaptures}
use Rattle.capture.specs.declared.book.Book.{Book}
use Rattle.warc_text.specs.Books.{IsVolumeText}
use Rattle.warc_text.specs.Ids.{IsUuid}

-- the book is sound
pub record IsSound (book : Book) : Type 0 where
  -- the namespace is a UUID
  pub namespace_is : IsUuid book.namespace
  -- each volume's birth and each capture's date has a text
  pub births : All (λ volume. InRange volume.born) book.volumes
  pub dates : All (λ stored. InRange stored.date) (captures book)
  -- each capture is sound by what it keeps, and each volume but the last holds one
  pub sound : HasSoundCaptures book
  -- the text of each volume is shorter than 2^62 bytes
  pub short_texts : (k : ℕ) (text : List ℕ) → IsVolumeText book k text → length text < 2 ^ 62
