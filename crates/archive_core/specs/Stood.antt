-- An archive's book and the finished texts of its volumes as they stood at a moment, and that none of these loses a byte from then on.
use Rattle.std.specs.Prelude.{ℕ, ◌<◌, ◌≤◌, List, [], length, slice_index_or}
use Rattle.capture.specs.declared.book.Book.{Book}
use Rattle.disk_model.specs.Crash.{Leaves}
use Rattle.disk_model.specs.declared.disk.Disk.{Ghosts}
use Rattle.warc_journal.specs.Extents.{warc_files}
use Rattle.warc_journal.specs.Journals.{disk_of, texts}
use Rattle.warc_journal.specs.declared.journal.Journal.{Journal}
use Rattle.archive_shelf.specs.Contents.{Begins}
use Rattle.archive_shelf.specs.Storing.{empty_book}

-- which book an archive had, which texts stood in the volumes' files, in order, at which moment of the disk, and how many faults that had counted
pub record Stood : Type 0 where
  pub book : Book
  pub finished : List (List ℕ)
  pub moment : ℕ
  pub faults : ℕ

-- none did
abbrev pub none_stood : Stood
none_stood = record { book = empty_book []; finished = []; moment = 0; faults = 0 }

-- each text stands at the front of its file
pub record BeginWith (finished files : List (List ℕ)) : Type 0 where
  pub enough : length finished ≤ length files
  pub each : (k : ℕ) → k < length finished → Begins (slice_index_or finished k []) (slice_index_or files k [])

-- Whatever is told of a book: at each moment from that one on, a crash leaves each text at the front of its file.
pub record Lasts {D : Type 0} (d : Ghosts D) (stood : Stood) (disk : D) : Type 0 where
  pub later : stood.moment ≤ d.moment disk
  pub images : Leaves (d.images_since disk stood.moment) (λ image. BeginWith stood.finished (warc_files image))

-- and a journal goes on with all of them
pub record KeepsStood {D : Type 0} (d : Ghosts D) (stood : Stood) (journal : Journal D) : Type 0 where
  pub lasts : Lasts d stood (disk_of journal)
  pub begins : BeginWith stood.finished (texts d journal)
