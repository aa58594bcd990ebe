-- What a request leaves outside of its connection.
use Rattle.std.specs.Prelude.{None, ◌≡◌, ℕ, Bool, List, [], IsTrue}
use Rattle.archive_shelf.specs.Contents.{Contents, Leads, LeadsShown}
use Rattle.capture.specs.Faults.{RoseBy}
use Rattle.capture.specs.declared.book.Book.{Book}
use Rattle.capture.specs.declared.limits.Limits.{Limits}
use Rattle.capture.specs.declared.site.Site.{Site}
use Rattle.index_entry.specs.Facts.{Facts}
use Rattle.index_entry.specs.OfBook.{AreEntries}
use Rattle.outside.specs.declared.dialer.Transcript.{Transcript}

-- Where and over what a connection is served: the archive's site, whether nobody else stores in the archive, whether its disk is
-- told, and its limits.
pub record Terms : Type 0 where
  pub site : Site
  pub alone : Bool
  pub tells : Bool
  pub limits : Limits

-- What is seen of the archive: its book, and the entries that are shown by date. And how many faults have been met: of the dialer
-- with its links, and of the disk.
pub record View : Type 0 where
  pub book : Book
  pub shown : List Facts
  pub dialer_faults : ℕ
  pub disk_faults : ℕ

-- what a shelf shows of its archive, where so many faults have been met
abbrev pub view_of : Contents → (dialer_faults disk_faults : ℕ) → View
view_of contents dialer_faults disk_faults = record {
  book = contents.seen;
  shown = contents.shown;
  dialer_faults = dialer_faults;
  disk_faults = disk_faults;
}

-- what a shelf tells, for as long as a connection lasts
abbrev pub terms_of : Site → Bool → Contents → Terms
terms_of site alone contents = record { site = site; alone = alone; tells = contents.tells; limits = contents.limits }

-- The clock's answers, the transcripts of the links that were hung up, and what was seen when the answer was decided and behind it.
pub record Traces : Type 0 where
  pub times : List ℕ
  pub transcripts : List Transcript
  pub before : View
  pub after : View

-- What is seen leads on, and no fault is met: alone the archive is the same, in company it may have grown.
pub record LeadsView (terms : Terms) (old new : View) : Type 0 where
  pub book : Leads terms.alone old.book new.book
  pub shown : LeadsShown terms.alone None old.shown new.shown
  pub same_dialer : new.dialer_faults ≡ old.dialer_faults
  pub same_disk : new.disk_faults ≡ old.disk_faults

-- A count rises by the faults that were met at least, and stays where none was.
pub record CountsMet (met before now : ℕ) : Type 0 where
  pub rose : RoseBy met before now
  pub steady : met ≡ 0 → now ≡ before

-- alone the entries that are shown are those of the book, where the disk is told
abbrev pub IsConsistentView : Terms → View → Type 0
IsConsistentView terms view = IsTrue terms.alone → IsTrue terms.tells → AreEntries view.book view.shown

-- the book is the same, and so are the entries that are shown; in company there may be more of these
pub record StaysView (terms : Terms) (old new : View) : Type 0 where
  pub book : new.book ≡ old.book
  pub shown : LeadsShown terms.alone None old.shown new.shown

-- neither clock nor origin was asked, and nothing was stored
pub record IsIdle (terms : Terms) (traces : Traces) : Type 0 where
  pub times : traces.times ≡ []
  pub transcripts : traces.transcripts ≡ []
  pub untouched : StaysView terms traces.before traces.after
