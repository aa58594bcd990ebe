use Rattle.std.proofs.Common.{ℕ, List, inl, refl, sym, ap, subst, ◌∙◌}
use Rattle.std.specs.Prelude.{IfOk, IfSome}
use Rattle.capture.specs.declared.book.Book.{Book}
use Rattle.warc_journal.specs.Journals.{last_len}
use Rattle.archive_volumes.proofs.ChangeLaws.{DiskLaws}
use Rattle.archive_volumes.specs.Held.{book_of}
use Rattle.archive_volumes.specs.Spots.{AreHeldWhole, whole_from}
use Rattle.archive_volumes.specs.declared.spot.Spot.{Spot}
use Rattle.archive_payloads.specs.Choosing.{IsKeptWith}
use Rattle.archive_index.specs.Shown.{numbered}
use Rattle.archive_core.specs.Holdings.{Holdings, IsArchive}
use Rattle.archive_core.specs.Looking.{OnlyLooks}
use Rattle.archive_pieces.specs.PieceOriginals.{FindsOriginal, IsNextGroup}
use Rattle.archive_pieces.specs.PieceReady.{IsPastBounds, IsWithinBounds, end_by}
use Rattle.archive_core.specs.View.{holdings_of}
use Rattle.archive_taking.specs.TakingPieces.{ShowDigest}
use Rattle.archive_taking.proofs.PieceTakenLaws.{finds_within, found_shown}
use Rattle.archive_core.proofs.ReadLaws as laws
use Rattle.archive_taking.proofs.next_piece.original_in.Given.{Over}
use Rattle.archive_volumes.specs.Volumes.{CanReadBy}
use Rattle.archive_taking.proofs.next_piece.original_in.Goals as goal

-- what is asked of the disk
disk_laws : (g : Over) → DiskLaws g.D.Disk
disk_laws g = record { earlier = g.met.D.Disk.earlier; now_counts = g.met.D.Disk.now_counts; now_only = g.met.D.Disk.now_only }

pub returns-then-passes_bounds-clause-finds : goal.returns-then-passes_bounds-clause-finds
returns-then-passes_bounds-clause-finds g c =
    let found = c.args.found.now in
    let end = c.end_of-end.ensures ∙ ap (λ (n : ℕ). end_by found.begins found.at n)
    (c.last_len.ensures.length ∙ ap (λ (held : Holdings _). last_len held.journal) c.archive.view_is) in
    inl (refl, subst (λ (n : ℕ). IsPastBounds found.group n) end (c.passes_bounds.ensures.past c.if-passes_bounds.true))

pub returns-then-passes_bounds-clause-looks : goal.returns-then-passes_bounds-clause-looks
returns-then-passes_bounds-clause-looks g c = laws.looks_itself g.D.Disk (disk_laws g) c.args.archive.now

pub returns-then-passes_bounds-clause-was : goal.returns-then-passes_bounds-clause-was
returns-then-passes_bounds-clause-was g c = subst (λ (held : Holdings _). IsArchive g.D.Disk held) c.archive.view_is c.archive.invariant

pub original_of-requires-clause-readable : goal.original_of-requires-clause-readable
original_of-requires-clause-readable g c =
    subst (CanReadBy g.D.Disk c.archive.inside.told.value c.archive.inside.volumes.journal (book_of c.archive.inside.volumes.held)) (sym c.as_slice.ensures.value)
    (laws.readable g.D.Disk c.archive.invariant)

pub original_of-requires-clause-made : goal.original_of-requires-clause-made
original_of-requires-clause-made g c untold =
    subst (AreHeldWhole (book_of c.archive.inside.volumes.held)) (sym c.as_slice.ensures.value) (c.archive.invariant.made untold)

pub original_of-requires-clause-table : goal.original_of-requires-clause-table
original_of-requires-clause-table g c =
    c.archive.invariant.table ∙ sym (ap (λ (l : List Spot). whole_from 0 l) c.as_slice.ensures.value)

pub original_of-requires-clause-group : goal.original_of-requires-clause-group
original_of-requires-clause-group g c =
    subst (λ (held : Holdings _). IsNextGroup held.book c.args.found.now.group) (sym c.archive.view_is) c.requires

pub invariant_of-archive : goal.invariant_of-archive
invariant_of-archive g c =
    laws.reads_archive g.D.Disk (holdings_of c.archive.inside) c.archive.inside.volumes c.original_of.new.volumes refl refl c.original_of.ensures.reads c.archive.invariant

pub returns-clause-finds : goal.returns-clause-finds
returns-clause-finds g c =
    let found = c.args.found.now in
    let end = c.end_of-end.ensures ∙ ap (λ (n : ℕ). end_by found.begins found.at n)
    (c.last_len.ensures.length ∙ ap (λ (held : Holdings _). last_len held.journal) c.archive.view_is) in
    let same = laws.same_book g.D.Disk (holdings_of c.archive.inside) c.archive.inside.volumes c.original_of.new.volumes refl refl c.original_of.ensures.reads in
    finds_within c.archive.inside.told.value (book_of c.original_of.new.volumes.held) found.group (end_by found.begins found.at (last_len c.args.archive.now.journal))
    (subst (λ (n : ℕ). IsWithinBounds found.group n) end (c.passes_bounds.ensures.within c.if-passes_bounds.false)) c.original_of.result
    (subst (λ (b : Book). FindsOriginal c.archive.inside.told.value b found.group c.original_of.result) (sym same) c.original_of.ensures.finds)

pub returns-clause-shown : goal.returns-clause-shown
returns-clause-shown g c =
    let digest = c.args.found.now.group.digest in
    subst (λ (held : Holdings _). IfOk c.original_of.result (ShowDigest (numbered held.index) digest)) c.archive.view_is
    (found_shown g.D.Disk (holdings_of c.archive.inside) c.archive.invariant digest c.original_of.result
    (subst (λ (l : List Spot). IfOk c.original_of.result (λ found. IfSome found (IsKeptWith l digest))) c.as_slice.ensures.value c.original_of.ensures.kept))

pub returns-clause-was : goal.returns-clause-was
returns-clause-was g c = subst (λ (held : Holdings _). IsArchive g.D.Disk held) c.archive.view_is c.archive.invariant

pub returns-clause-looks : goal.returns-clause-looks
returns-clause-looks g c =
    subst (λ (held : Holdings _). OnlyLooks g.D.Disk held (record (holdings_of c.archive.inside) { journal = c.original_of.new.volumes.journal; book = book_of c.original_of.new.volumes.held })) c.archive.view_is
    (laws.looks g.D.Disk (holdings_of c.archive.inside) c.archive.inside.volumes c.original_of.new.volumes refl refl c.original_of.ensures.reads c.archive.invariant.holds.tells)
