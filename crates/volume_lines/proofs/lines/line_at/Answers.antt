use Rattle.std.proofs.Common.{◌≡◌, ◌+◌, ◌≤◌, ℕ, length, ◌∙◌, arith, subst, sym}
use Rattle.std.specs.Prelude.{IsSomeAnd}
use Rattle.capture.specs.declared.book.Book.{Book}
use Rattle.warc_journal.specs.Journals.{texts}
use Rattle.archive_reading.proofs.PieceFronts.{spot_there}
use Rattle.archive_volumes.specs.Held.{book_of}
use Rattle.checkpoint.specs.OfVolume.{IsLineOf}
use Rattle.volume_lines.proofs.LineLaws.{ends_within, goes_on, has_key, kept_can, kept_only, line_tells}
use Rattle.volume_lines.specs.OfGroups.{CanBeIn, GoesOnBy}
use Rattle.volume_lines.specs.OfSpots.{TellsKept}
use Rattle.volume_lines.proofs.lines.line_at.Goals as goal
use Rattle.volume_lines.proofs.lines.line_at.Goals.{then-at-walk-via-then-at-walk, then-at-walk-via-else-at-walk+then-len-walk}

pub returns-then-at-walk-clause-exact : goal.returns-then-at-walk-clause-exact
returns-then-at-walk-clause-exact g c = λ tells place text is number_is within here ends.
    let group = rw c.in-Right.is at c.in_ok-bytes.ensures.some in
    let own = rw c.in-Right.is at (c.in_ok-bytes.ensures.exact tells) in
    let fits : c.args.at + length c.in-Right.bytes ≤ length text = ends_within is place c.args.at c.args.number within number_is here c.in-Right.bytes own.is in
    let long = group.told.len_is ∙ group.is.places.len in
    elim c.then-at-walk.branch [
      | then-at-walk-via-then-at-walk w ↦ omega (arith, fits, ends, w.if-at-walk)
      | then-at-walk-via-else-at-walk+then-len-walk w ↦ omega (arith, fits, ends, long, w.if-len-walk)
    ]

pub returns-in-Some-clause-exact : goal.returns-in-Some-clause-exact
returns-in-Some-clause-exact g c = λ tells place text is number_is within here ends.
    let group = rw c.in-Right.is at c.in_ok-bytes.ensures.some in
    let own = rw c.in-Right.is at (c.in_ok-bytes.ensures.exact tells) in
    let line = rw c.in-Some.is at (c.in_ok-line.ensures.line _ c.args.number c.in-Right.bytes group.group group.is group.told) in
    let book : Book = book_of c.args.volumes.now.held in
    let goes : GoesOnBy is place c.in-Some.line (c.args.at + c.in-Right.outline.len) =
    goes_on is (c.requires.readable.holds.sound tells) place c.args.at c.args.number within number_is here c.in-Right.bytes own.is group.group group.is
    c.in-Some.line line c.in-Right.outline.len group.told.len_is in
    let spot = spot_there c.args.walk.spots.now c.args.number c.requires.below in
    let told = line_tells book (texts g.D.Disk c.args.volumes.now.journal) c.args.number spot.0 c.in-Some.line (c.requires.readable.are.each c.args.number spot.0 spot.1)
    ((c.requires.readable.placed tells).each c.args.number spot.0 spot.1)
    (subst (λ (n : ℕ). IsLineOf book n c.in-Some.line) (sym number_is) goes.line_is) in
    subst (λ found. IsSomeAnd found (λ f. GoesOnBy is place f.0 f.1)) (sym (c.if_kept.ensures.same spot.0 spot.1 told)) goes

pub returns-in-None-clause-exact : goal.returns-in-None-clause-exact
returns-in-None-clause-exact g c = λ tells place text is number_is within here ends.
    let group = rw c.in-Right.is at c.in_ok-bytes.ensures.some in
    let none = rw c.in-None.is at (c.in_ok-line.ensures.line _ c.args.number c.in-Right.bytes group.group group.is group.told) in
    has_key c.accepted_targets_have_keys.ensures _ c.args.number c.in-Right.bytes group.group group.is none

pub returns-in-Some-clause-fit : goal.returns-in-Some-clause-fit
returns-in-Some-clause-fit g c =
    let group = rw c.in-Right.is at c.in_ok-bytes.ensures.some in
    let number : c.in-Right.outline.number ≡ c.args.number = group.told.number_is ∙ group.is.number_is in
    kept_can (λ f. f.0) (CanBeIn c.args.walk.volume c.args.number) (TellsKept c.args.walk.spots.now c.args.number) c.if_kept.result c.in-Some.line
    c.if_kept.ensures.some
    (subst (λ (n : ℕ). CanBeIn c.args.walk.volume n c.in-Some.line) number (rw c.in-Some.is at c.in_ok-line.ensures.fit))

pub returns-in-Some-clause-kept : goal.returns-in-Some-clause-kept
returns-in-Some-clause-kept g c = kept_only (λ f. f.0) c.in-Some.line (TellsKept c.args.walk.spots.now c.args.number) c.if_kept.result c.if_kept.ensures.some
