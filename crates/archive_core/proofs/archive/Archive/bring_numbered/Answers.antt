use Rattle.std.proofs.Common.{◌≡◌, ◌<◌, ◌≤◌, List, refl, sym, ap, subst, ◌∙◌, arith}
use Rattle.std.specs.Prelude.{length, slice_get}
use Rattle.capture.specs.Captures.{captures}
use Rattle.capture.specs.declared.book.Book.{Book}
use Rattle.archive_shelf.specs.Answers.{NamesKeeper}
use Rattle.archive_shelf.specs.Digests.{GoesByDigest}
use Rattle.archive_reading.specs.Bringing.{BringsFrom}
use Rattle.archive_volumes.specs.Volumes.{CanReadBy}
use Rattle.archive_reading.specs.Digests.{GoesByKept}
use Rattle.archive_volumes.specs.Held.{book_of}
use Rattle.archive_volumes.specs.Spots.{whole_from}
use Rattle.archive_volumes.specs.declared.spot.Spot.{Spot}
use Rattle.archive_core.specs.Bringing.{BringsAsThere}
use Rattle.archive_core.specs.Holdings.{Holdings, IsArchive}
use Rattle.archive_core.specs.Looking.{OnlyLooks}
use Rattle.archive_core.specs.View.{holdings_of}
use Rattle.archive_core.proofs.ReadLaws as laws
use Rattle.archive_volumes.proofs.ChangeLaws.{DiskLaws}
use Rattle.archive_core.proofs.archive.Archive.bring_numbered.Given.{Over}
use Rattle.archive_core.proofs.archive.Archive.bring_numbered.Goals as goal

-- what is asked of the disk
disk_laws : (g : Over) → DiskLaws g.D.Disk
disk_laws g = record { earlier = g.met.D.Disk.earlier; now_counts = g.met.D.Disk.now_counts; now_only = g.met.D.Disk.now_only }

pub returns-then-number-count-clause-brings : goal.returns-then-number-count-clause-brings
returns-then-number-count-clause-brings g c =
    let is = subst (λ (held : Holdings _). IsArchive g.D.Disk held) c.self.view_is c.self.invariant in
    let many : c.len-count.result ≡ length c.self.inside.spots.items = omega (arith, c.len-count.ensures, c.self.inside.spots.ok.0) in
    let count : c.len-count.result ≡ length (captures c.args.self.now.book) =
    many ∙ subst (λ (held : Holdings _). length c.self.inside.spots.items ≡ length (captures held.book)) c.self.view_is c.self.invariant.spots.count in
    let above : length (captures c.args.self.now.book) ≤ c.args.number = omega (arith, count, c.if-number-count.true) in
    (count, c.if-number-count.true, laws.none_shown g.D.Disk c.args.self.now c.args.number is above)

pub bring-requires-clause-readable : goal.bring-requires-clause-readable
bring-requires-clause-readable g c =
    subst (CanReadBy g.D.Disk c.self.inside.told.value c.self.inside.volumes.journal (book_of c.self.inside.volumes.held)) (sym c.as_slice.ensures.value)
    (laws.readable g.D.Disk c.self.invariant)

pub bring-requires-clause-table : goal.bring-requires-clause-table
bring-requires-clause-table g c =
    c.self.invariant.table ∙ sym (ap (λ (l : List Spot). whole_from 0 l) c.as_slice.ensures.value)

pub invariant_of-self : goal.invariant_of-self
invariant_of-self g c =
    laws.reads_archive g.D.Disk (holdings_of c.self.inside) c.self.inside.volumes c.bring.new.volumes refl refl c.bring.ensures.reads c.self.invariant

pub returns-clause-brings : goal.returns-clause-brings
returns-clause-brings g c =
    let many : c.len-count.result ≡ length c.self.inside.spots.items = omega (arith, c.len-count.ensures, c.self.inside.spots.ok.0) in
    let same = laws.same_book g.D.Disk (holdings_of c.self.inside) c.self.inside.volumes c.bring.new.volumes refl refl c.bring.ensures.reads in
    laws.brings_by g.D.Disk (record (holdings_of c.self.inside) { journal = c.bring.new.volumes.journal; book = book_of c.bring.new.volumes.held })
    c.args.number c.bring.result
    (laws.reads_archive g.D.Disk (holdings_of c.self.inside) c.self.inside.volumes c.bring.new.volumes refl refl c.bring.ensures.reads c.self.invariant)
    (subst (λ (b : Book). c.args.number < length (captures b)) (sym same) (omega (arith, many, c.self.invariant.spots.count, c.if-number-count.false)))
    (subst (λ (b : Book). BringsFrom c.self.inside.told.value b c.args.number c.bring.result) (sym same) c.bring.ensures.brings)
    (λ spot at. c.bring.ensures.own spot (ap (λ (l : List Spot). slice_get l c.args.number) c.as_slice.ensures.value ∙ at))

pub returns-clause-names : goal.returns-clause-names
returns-clause-names g c =
    let same = laws.same_book g.D.Disk (holdings_of c.self.inside) c.self.inside.volumes c.bring.new.volumes refl refl c.bring.ensures.reads in
    subst (λ (b : Book). NamesKeeper b c.args.number c.bring.result) (sym same) c.bring.ensures.names

pub returns-clause-digests : goal.returns-clause-digests
returns-clause-digests g c =
    let same = laws.same_book g.D.Disk (holdings_of c.self.inside) c.self.inside.volumes c.bring.new.volumes refl refl c.bring.ensures.reads in
    subst (λ (b : Book). GoesByDigest b c.args.number c.bring.result) (sym same) c.bring.ensures.digests

pub returns-clause-looks : goal.returns-clause-looks
returns-clause-looks g c =
    subst (λ (held : Holdings _). OnlyLooks g.D.Disk held (record (holdings_of c.self.inside) { journal = c.bring.new.volumes.journal; book = book_of c.bring.new.volumes.held })) c.self.view_is
    (laws.looks g.D.Disk (holdings_of c.self.inside) c.self.inside.volumes c.bring.new.volumes refl refl c.bring.ensures.reads c.self.invariant.holds.tells)

pub returns-clause-kept : goal.returns-clause-kept
returns-clause-kept g c =
    subst (λ (held : Holdings _). GoesByKept held.spots c.args.number c.bring.result) c.self.view_is
    (subst (λ (l : List Spot). GoesByKept l c.args.number c.bring.result) c.as_slice.ensures.value c.bring.ensures.kept)

pub returns-clause-there : goal.returns-clause-there
returns-clause-there g c =
    subst (λ (held : Holdings _). BringsAsThere g.D.Disk held c.args.number c.bring.result) c.self.view_is
    (λ tells spot at. c.bring.ensures.there tells spot (ap (λ (l : List Spot). slice_get l c.args.number) c.as_slice.ensures.value ∙ at))

pub returns-then-number-count-clause-looks : goal.returns-then-number-count-clause-looks
returns-then-number-count-clause-looks g c = laws.looks_itself g.D.Disk (disk_laws g) c.args.self.now
