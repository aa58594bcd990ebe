-- What is told of an archive that was opened.
use Rattle.std.proofs.Common.{◌≡◌, ◌⊎◌, ℕ, true, IsTrue, List, Some, None, is_some, sym, ◌∙◌, ap, inl, inr, arith}
use Rattle.std.proofs.lemmas.Bool.{false≢true}
use Rattle.archive_core.specs.Holdings.{Holdings, contents_of}
use Rattle.archive_reopening.specs.Known.{IsNotOpenedKnown, Opening}
use Rattle.archive_reopening.specs.Reopening.{IsNotOpened as IsRefused}
use Rattle.archive_shelf.specs.Contents.{IsConsistent}
use Rattle.archive_shelf.specs.Openings.{HasIds, ImageStandsFor, SameBook}
use Rattle.archive_shelf.specs.declared.depth.Depth.TheVariants.{Whole}
use Rattle.archive_shelf.specs.declared.fault.ReopenFault.{ReopenFault}
use Rattle.capture.specs.declared.book.Book.{Book}
use Rattle.disk_model.specs.declared.disk.Disk.{Ghosts as Disks}
use Rattle.outside.specs.declared.sink.Sink.{Ghosts as Sinks}
use Rattle.command.specs.Opening.{IsNotOpened, IsOpened}
use Rattle.command.specs.Printing.{LacksMemory, Printed, Prints}
use Rattle.command.specs.Texts.{IsFaultText}
use Rattle.command.specs.declared.status.Status.TheVariants.{Archive}
use Rattle.warc_text.specs.StandsFor.{IdsDifferIn}

module _ {D : Type 0} (disks : Disks D) {opening : Opening D} {held : Holdings D} (o : IsOpened disks opening held) where
  -- where the book is told, what a read gives stands for it
  pub opened_stands : IsTrue held.told → ImageStandsFor (disks.reading opening.disk) held.book
  opened_stands so = record { for = (o.is.whole so).stands (sym (o.is.whole so).told_is ∙ so); sound = (o.is.whole so).sound }

  pub opened_consistent : IsConsistent true (contents_of held)
  opened_consistent = record { sound = λ so. (o.is.whole so).sound; shown = λ alone so. (o.is.whole so).shown }

-- it was refused, and that was told
pub refused_as : {D O : Type 0} (disks : Disks D) (sinks : Sinks O) (opening : Opening D) (refused : ReopenFault × D) (printed : Printed O)
    → IsNotOpenedKnown disks opening.disk opening.asked opening.known refused → (opening.depth ≡ Whole → IsRefused disks opening.disk opening.asked refused)
    → ((text : List ℕ) × IsFaultText refused.0 text × Prints sinks Archive text printed.was printed.is printed.status)
    ⊎ LacksMemory sinks printed.was printed.is printed.status → IsNotOpened disks sinks opening refused.1 printed
refused_as disks sinks opening (fault, is) printed refused whole told =
    record { fault = fault; refused = refused; whole = whole; told = told }

-- ---- books for which a disk stands

pub ids_differ : (book : Book) → HasIds book → IdsDifferIn book
ids_differ book ids m n less less₂ e = ids m n (omega (arith, less)) (omega (arith, less₂)) e

pub only_one : {x y : Book} → SameBook x y ⊎ (None ≡ Some x) → SameBook x y
only_one (inl same) = same
only_one (inr other) = absurd (false≢true (ap is_some other))
