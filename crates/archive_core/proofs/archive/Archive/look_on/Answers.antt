-- An archive stays one while its disk is read.
use Rattle.std.proofs.Common.{List, ℕ, refl, sym, ap, subst, ◌∙◌}
use Rattle.std.specs.Prelude.{IfOk, IfSome, filter, nat_le}
use Rattle.sha1.specs.Sha1.{sha1}
use Rattle.capture.specs.declared.book.Book.{Book}
use Rattle.revisit_table.specs.Table.{numbers_of}
use Rattle.archive_shelf.specs.Comparing.{IsRight}
use Rattle.archive_payloads.specs.Choosing.{IsKeptWith, LooksOn}
use Rattle.archive_reading.specs.Rereading.{IsChosenThere}
use Rattle.archive_volumes.specs.declared.spot.Spot.{Spot}
use Rattle.archive_volumes.specs.Held.{book_of}
use Rattle.archive_volumes.specs.Spots.{AreHeldWhole, whole_from}
use Rattle.warc_journal.specs.Journals.{texts}
use Rattle.archive_core.specs.Holdings.{Holdings}
use Rattle.archive_core.specs.Looking.{IsFoundThere, OnlyLooks}
use Rattle.archive_core.specs.View.{holdings_of}
use Rattle.archive_core.proofs.ReadLaws as laws
use Rattle.archive_core.proofs.ThereLaws.{found_there}
use Rattle.archive_volumes.specs.Volumes.{CanReadBy}
use Rattle.archive_core.proofs.archive.Archive.look_on.Goals as goal

pub look_on_wire-requires-clause-readable : goal.look_on_wire-requires-clause-readable
look_on_wire-requires-clause-readable g c =
    subst (CanReadBy g.D.Disk c.self.inside.told.value c.self.inside.volumes.journal (book_of c.self.inside.volumes.held)) (sym c.as_slice.ensures.value)
    (laws.readable g.D.Disk c.self.invariant)

pub look_on_wire-requires-clause-made : goal.look_on_wire-requires-clause-made
look_on_wire-requires-clause-made g c untold =
    subst (AreHeldWhole (book_of c.self.inside.volumes.held)) (sym c.as_slice.ensures.value) (c.self.invariant.made untold)

pub invariant_of-self : goal.invariant_of-self
invariant_of-self g c =
    laws.reads_archive g.D.Disk (holdings_of c.self.inside) c.self.inside.volumes c.look_on_wire.new.volumes refl refl c.look_on_wire.ensures.reads c.self.invariant

pub look_on_wire-requires-clause-candidates : goal.look_on_wire-requires-clause-candidates
look_on_wire-requires-clause-candidates g c payload is =
    let upto = c.args.looked.upto in
    c.candidates_from-candidates.ensures.numbers
    ∙ ap (λ (d : List ℕ). filter (λ number. nat_le upto number) (numbers_of d c.self.inside.table.kept)) (c.requires.digest payload is)
    ∙ ap (λ kept. filter (λ number. nat_le upto number) (numbers_of (sha1 payload) kept)) c.self.invariant.table
    ∙ ap (λ spots. filter (λ number. nat_le upto number) (numbers_of (sha1 payload) (whole_from 0 spots))) (sym c.as_slice.ensures.value)

pub look_on_wire-requires-clause-right : goal.look_on_wire-requires-clause-right
look_on_wire-requires-clause-right g c payload is =
    subst (λ (held : Holdings _). IsRight held.told held.book payload c.args.looked) (sym c.self.view_is) (c.requires.right payload is)

pub returns-clause-looks : goal.returns-clause-looks
returns-clause-looks g c payload is =
    subst (λ (b : Book). LooksOn c.self.inside.told.value b payload c.look_on_wire.result) (sym (ap book_of c.look_on_wire.ensures.reads.held))
    (c.look_on_wire.ensures.looks payload is)

pub returns-clause-only_looks : goal.returns-clause-only_looks
returns-clause-only_looks g c =
    subst (λ (held : Holdings _). OnlyLooks g.D.Disk held (record (holdings_of c.self.inside) { journal = c.look_on_wire.new.volumes.journal; book = book_of c.look_on_wire.new.volumes.held })) c.self.view_is
    (laws.looks g.D.Disk (holdings_of c.self.inside) c.self.inside.volumes c.look_on_wire.new.volumes refl refl c.look_on_wire.ensures.reads c.self.invariant.holds.tells)

pub returns-clause-there : goal.returns-clause-there
returns-clause-there g c payload is none =
    let was : Holdings _ = holdings_of c.self.inside in
    let read = c.look_on_wire.result in
    subst (λ (held : Holdings _). IfOk read (λ now. IfSome now.same (IsFoundThere g.D.Disk held payload))) c.self.view_is
    (found_there g.D.Disk was payload read
    (subst (λ (l : List Spot). IfOk read (λ now. IfSome now.same (IsKeptWith l (sha1 payload)))) c.as_slice.ensures.value
    (c.look_on_wire.ensures.digest payload is none))
    (λ tells. subst (λ (l : List Spot). IfOk read (λ now. IfSome now.same (IsChosenThere (texts g.D.Disk was.journal) was.book.namespace l payload))) c.as_slice.ensures.value
    (c.look_on_wire.ensures.there tells payload is none)))
