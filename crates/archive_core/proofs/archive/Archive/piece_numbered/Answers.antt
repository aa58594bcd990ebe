use Rattle.std.proofs.Common.{◌≡◌, ◌<◌, ◌≤◌, List, refl, sym, ap, subst, ◌∙◌, arith}
use Rattle.std.specs.Prelude.{length, slice_get}
use Rattle.capture.specs.Captures.{captures}
use Rattle.capture.specs.declared.book.Book.{Book}
use Rattle.archive_shelf.specs.Digests.{PieceGoesByDigest}
use Rattle.archive_volumes.specs.Held.{book_of}
use Rattle.archive_reading.specs.KeptGroups.{GivesPieceFrom, PieceGoesByKept}
use Rattle.archive_volumes.specs.declared.spot.Spot.{Spot}
use Rattle.archive_core.specs.Bringing.{PieceTellsKept}
use Rattle.archive_core.specs.Holdings.{Holdings, IsArchive}
use Rattle.archive_core.specs.Looking.{OnlyLooks}
use Rattle.archive_core.specs.View.{holdings_of}
use Rattle.archive_core.proofs.PieceLaws.{gives_by}
use Rattle.archive_core.proofs.ReadLaws as laws
use Rattle.archive_volumes.proofs.ChangeLaws.{DiskLaws}
use Rattle.archive_core.proofs.archive.Archive.piece_numbered.Given.{Over}
use Rattle.archive_volumes.specs.Volumes.{CanReadBy}
use Rattle.archive_core.proofs.archive.Archive.piece_numbered.Goals as goal

-- what is asked of the disk
disk_laws : (g : Over) → DiskLaws g.D.Disk
disk_laws g = record { earlier = g.met.D.Disk.earlier; now_counts = g.met.D.Disk.now_counts; now_only = g.met.D.Disk.now_only }

pub returns-then-number-count-clause-gives : goal.returns-then-number-count-clause-gives
returns-then-number-count-clause-gives g c =
    let is = subst (λ (held : Holdings _). IsArchive g.D.Disk held) c.self.view_is c.self.invariant in
    let many : c.len-count.result ≡ length c.self.inside.spots.items = omega (arith, c.len-count.ensures, c.self.inside.spots.ok.0) in
    let count : c.len-count.result ≡ length (captures c.args.self.now.book) =
    many ∙ subst (λ (held : Holdings _). length c.self.inside.spots.items ≡ length (captures held.book)) c.self.view_is c.self.invariant.spots.count in
    let above : length (captures c.args.self.now.book) ≤ c.args.number = omega (arith, count, c.if-number-count.true) in
    (count, c.if-number-count.true, laws.none_shown g.D.Disk c.args.self.now c.args.number is above)

pub piece-requires-clause-readable : goal.piece-requires-clause-readable
piece-requires-clause-readable g c =
    subst (CanReadBy g.D.Disk c.self.inside.told.value c.self.inside.volumes.journal (book_of c.self.inside.volumes.held)) (sym c.as_slice.ensures.value)
    (laws.readable g.D.Disk c.self.invariant)

pub invariant_of-self : goal.invariant_of-self
invariant_of-self g c =
    laws.reads_archive g.D.Disk (holdings_of c.self.inside) c.self.inside.volumes c.piece.new.volumes refl refl c.piece.ensures.reads c.self.invariant

pub returns-clause-gives : goal.returns-clause-gives
returns-clause-gives g c =
    let many : c.len-count.result ≡ length c.self.inside.spots.items = omega (arith, c.len-count.ensures, c.self.inside.spots.ok.0) in
    let same = laws.same_book g.D.Disk (holdings_of c.self.inside) c.self.inside.volumes c.piece.new.volumes refl refl c.piece.ensures.reads in
    gives_by g.D.Disk (record (holdings_of c.self.inside) { journal = c.piece.new.volumes.journal; book = book_of c.piece.new.volumes.held })
    c.args.number c.piece.result
    (laws.reads_archive g.D.Disk (holdings_of c.self.inside) c.self.inside.volumes c.piece.new.volumes refl refl c.piece.ensures.reads c.self.invariant)
    (subst (λ (b : Book). c.args.number < length (captures b)) (sym same) (omega (arith, many, c.self.invariant.spots.count, c.if-number-count.false)))
    (subst (λ (b : Book). GivesPieceFrom c.self.inside.told.value b c.args.number c.piece.result) (sym same) c.piece.ensures.gives)
    (λ spot at. subst (λ (b : Book). PieceGoesByKept b c.args.number spot.digest c.piece.result) (sym same)
    (c.piece.ensures.kept spot (ap (λ (l : List Spot). slice_get l c.args.number) c.as_slice.ensures.value ∙ at)))

pub returns-clause-digests : goal.returns-clause-digests
returns-clause-digests g c =
    let same = laws.same_book g.D.Disk (holdings_of c.self.inside) c.self.inside.volumes c.piece.new.volumes refl refl c.piece.ensures.reads in
    subst (λ (b : Book). PieceGoesByDigest b c.args.number c.piece.result) (sym same) c.piece.ensures.digests

pub returns-clause-looks : goal.returns-clause-looks
returns-clause-looks g c =
    subst (λ (held : Holdings _). OnlyLooks g.D.Disk held (record (holdings_of c.self.inside) { journal = c.piece.new.volumes.journal; book = book_of c.piece.new.volumes.held })) c.self.view_is
    (laws.looks g.D.Disk (holdings_of c.self.inside) c.self.inside.volumes c.piece.new.volumes refl refl c.piece.ensures.reads c.self.invariant.holds.tells)

pub returns-clause-kept : goal.returns-clause-kept
returns-clause-kept g c =
    subst (λ (held : Holdings _). PieceTellsKept held c.args.number c.piece.result) c.self.view_is
    (λ spot at. c.piece.ensures.kept spot (ap (λ (l : List Spot). slice_get l c.args.number) c.as_slice.ensures.value ∙ at))

pub returns-then-number-count-clause-looks : goal.returns-then-number-count-clause-looks
returns-then-number-count-clause-looks g c = laws.looks_itself g.D.Disk (disk_laws g) c.args.self.now
