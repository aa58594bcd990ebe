use Rattle.std.proofs.Common.{◌-◌, ◌≤◌, ℕ, List, length, ◌∙◌, subst, arith}
use Rattle.cdxj_line.specs.declared.line.Line.{Line}
use Rattle.warc_journal.specs.Journals.{texts}
use Rattle.archive_reading.proofs.BringLaws.{readable_on, reads_then}
use Rattle.archive_volumes.specs.Held.{book_of}
use Rattle.archive_volumes.specs.Spots.{text_at}
use Rattle.volume_lines.proofs.WalkLaws.{all_of, facts_within, goes_from, kept_next, lines_fit, lines_of_spots, lines_of_volume, numbered, text_of, told_next, walked_next}
use Rattle.volume_lines.specs.OfSpots.{AreLinesOfSpots}
use Rattle.volume_lines.proofs.lines.lines_of.Goals as goal

pub line_at-requires-clause-readable : goal.line_at-requires-clause-readable
line_at-requires-clause-readable g c =
    readable_on g.D.Disk c.args.told.now.value c.args.volumes.now c.captures-2.volumes c.captures-2.invariant.reads c.args.spots.now c.requires.readable

pub line_at-requires-clause-below : goal.line_at-requires-clause-below
line_at-requires-clause-below g c =
    omega (arith, facts_within (book_of c.args.volumes.now.held) c.args.volume c.requires.there, c.captures-test.true, c.requires.readable.are.count)

pub returns-in_err-line-clause-reads : goal.returns-in_err-line-clause-reads
returns-in_err-line-clause-reads g c =
    reads_then g.D.Disk c.args.volumes.now c.captures-2.volumes c.line_at.new.volumes c.captures-2.invariant.reads c.in_err-line.ensures.reads

pub returns-in_default-clause-reads : goal.returns-in_default-clause-reads
returns-in_default-clause-reads g c =
    reads_then g.D.Disk c.args.volumes.now c.captures-2.volumes c.line_at.new.volumes c.captures-2.invariant.reads c.in_ok-line.ensures.reads

pub returns-in_err-keep-clause-reads : goal.returns-in_err-keep-clause-reads
returns-in_err-keep-clause-reads g c =
    reads_then g.D.Disk c.args.volumes.now c.captures-2.volumes c.line_at.new.volumes c.captures-2.invariant.reads c.in_ok-line.ensures.reads

pub returns-in_default-clause-exact : goal.returns-in_default-clause-exact
returns-in_default-clause-exact g c = λ tells.
    let inv = c.captures-2.invariant in
    let text : List ℕ = text_at (texts g.D.Disk c.args.volumes.now.journal) c.args.volume.volume in
    let is = text_of (book_of c.args.volumes.now.held) (texts g.D.Disk c.args.volumes.now.journal) (c.requires.readable.holds.texts_are tells) c.args.volume c.requires.there in
    let ends : length text ≤ c.in_ok-text_len.field-0 = omega (arith, c.in_ok-text_len.ensures.len (c.requires.readable.holds.tells tells)) in
    rw c.in_default.is at (goes_from (λ f. f.0) (λ f. f.1) c.args.volumes.now.held c.captures-2.volumes.held inv.reads.held c.args.volume c.requires.there
    c.in_ok-text_len.field-0 c.captures-2.number c.captures-2.at c.in_ok-line.field-0 (c.in_ok-line.ensures.exact tells) text is ends inv.from
    c.captures-test.true (inv.told tells text is ends).here)

pub captures-preserved : goal.captures-preserved
captures-preserved g c =
    let inv = c.captures-2.invariant in
    let first : ℕ = c.args.volume.first in
    let number : ℕ = c.captures-2.number in
    let line : Line = c.in-Some.line in
    record {
      reads = reads_then g.D.Disk c.args.volumes.now c.captures-2.volumes c.line_at.new.volumes inv.reads c.in_ok-line.ensures.reads;
      faults = c.in_ok-line.ensures.faults ∙ inv.faults;
      from = omega (arith, inv.from);
      to = omega (arith, c.captures-test.true);
      walked = walked_next c.args.volume.volume first c.captures-2.lines.items c.keep.new.lines.items line number inv.from inv.walked
          (rw c.in-Some.is at c.in_ok-line.ensures.fit) c.in_ok-keep.ensures;
      kept = kept_next c.args.spots.now first c.captures-2.lines.items c.keep.new.lines.items line number inv.from inv.walked.count inv.kept
          (rw c.in-Some.is at c.in_ok-line.ensures.kept) c.in_ok-keep.ensures;
      told = λ tells text is ends.
          let told = inv.told tells text is ends in
          told_next is first c.captures-2.lines.items c.keep.new.lines.items line number c.captures-2.at c.in-Some.next inv.from inv.walked.count told
          (rw c.in-Some.is at (goes_from (λ f. f.0) (λ f. f.1) c.args.volumes.now.held c.captures-2.volumes.held inv.reads.held c.args.volume c.requires.there
          c.in_ok-text_len.field-0 number c.captures-2.at c.in_ok-line.field-0 (c.in_ok-line.ensures.exact tells) text is ends inv.from
          c.captures-test.true told.here)) c.in_ok-keep.ensures;
    }

pub sort_lines-requires : goal.sort_lines-requires
sort_lines-requires g c = record {
  numbered = numbered c.args.volume.volume c.args.volume.first c.captures-2.lines.items (c.captures-2.number - c.args.volume.first) c.captures-2.invariant.walked;
}

pub returns-clause-fit : goal.returns-clause-fit
returns-clause-fit g c =
    let inv = c.captures-2.invariant in
    lines_fit c.args.volume.volume c.args.volume.first c.captures-2.lines.items c.sort_lines.new.lines.items (c.captures-2.number - c.args.volume.first) inv.walked
    c.sort_lines.ensures.same c.sort_lines.ensures.in_order (omega (arith, c.captures-test.false, c.requires.some))

pub returns-clause-of_spots : goal.returns-clause-of_spots
returns-clause-of_spots g c =
    let inv = c.captures-2.invariant in
    let facts = c.args.volume in
    let done : ℕ = c.captures-2.number - facts.first in
    subst (λ (n : ℕ). AreLinesOfSpots c.args.spots.now facts.first n c.sort_lines.new.lines.items) (omega (arith, c.captures-test.false, inv.to))
    (lines_of_spots facts.volume facts.first c.captures-2.lines.items c.sort_lines.new.lines.items done inv.walked
    c.sort_lines.ensures.same c.sort_lines.ensures.in_order c.args.spots.now inv.kept)

pub returns-clause-exact : goal.returns-clause-exact
returns-clause-exact g c = λ tells.
    let inv = c.captures-2.invariant in
    let facts = c.args.volume in
    let text : List ℕ = text_at (texts g.D.Disk c.args.volumes.now.journal) facts.volume in
    let is = text_of (book_of c.args.volumes.now.held) (texts g.D.Disk c.args.volumes.now.journal) (c.requires.readable.holds.texts_are tells) facts c.requires.there in
    let ends : length text ≤ c.in_ok-text_len.field-0 = omega (arith, c.in_ok-text_len.ensures.len (c.requires.readable.holds.tells tells)) in
    lines_of_volume facts.volume facts.first c.captures-2.lines.items c.sort_lines.new.lines.items (c.captures-2.number - facts.first) inv.walked
    c.sort_lines.ensures.same c.sort_lines.ensures.in_order is c.captures-2.at (inv.told tells text is ends) c.requires.there.first
    (all_of (book_of c.args.volumes.now.held) facts c.requires.there c.captures-2.number c.captures-test.false inv.to text is)
