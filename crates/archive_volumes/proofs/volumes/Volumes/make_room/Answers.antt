use Rattle.std.proofs.Common.{◌≡◌, ◌+◌, ◌≤◌, false, sym, ap, subst, ⊎_elim, arith}
use Rattle.capture.specs.declared.book.Book.{Book}
use Rattle.time_text.specs.Texts.{InRange}
use Rattle.warc_journal.specs.Journals.{last_len, volumes}
use Rattle.archive_shelf.specs.Gaining.{AreFilled}
use Rattle.archive_volumes.specs.Held.{book_of, is_filled}
use Rattle.archive_volumes.specs.Volumes.{IsPrepared}
use Rattle.archive_volumes.proofs.RoomLaws.{are_filled, few_volumes, short_end}
use Rattle.archive_volumes.proofs.volumes.Volumes.make_room.Goals as goal

pub returns-then-needs_volume-clause-room : goal.returns-then-needs_volume-clause-room
returns-then-needs_volume-clause-room g c =
    let old = c.args.self.now in
    let book : Book = book_of old.held in
    let filled : AreFilled book = are_filled old.journal book c.args.limit (last_len old.journal) c.args.group c.requires.measured c.if-needs_volume.ensures in
    record {
      prepared_is = subst (λ (b : Book). IsPrepared b c.in_ok-prepared.prepared) (sym c.prepare.ensures.book) c.in_ok-prepared.ensures.prepared;
      space = c.in_ok-prepared.ensures.space;
      filled = subst AreFilled (sym c.prepare.ensures.book) filled;
      number = omega (arith, c.requires.few, few_volumes book filled, c.requires.measured.count, ap (λ j. volumes j) c.prepare.ensures.journal);
      born = subst InRange (sym c.in_ok-prepared.ensures.born) c.requires.date;
    }

pub returns-then-needs_volume-clause-decided : goal.returns-then-needs_volume-clause-decided
returns-then-needs_volume-clause-decided g c = c.if-needs_volume.ensures

pub returns-then-needs_volume-clause-born : goal.returns-then-needs_volume-clause-born
returns-then-needs_volume-clause-born g c = c.in_ok-prepared.ensures.born

pub returns-then-needs_volume-clause-fits : goal.returns-then-needs_volume-clause-fits
returns-then-needs_volume-clause-fits g c = omega (arith, c.in_ok-prepared.ensures.prepared.short, c.requires.group)

pub reserve-requires : goal.reserve-requires
reserve-requires g c = c.if-needs_volume.ensures.0

pub returns-clause-decided : goal.returns-clause-decided
returns-clause-decided g c = c.if-needs_volume.ensures

pub returns-clause-fits : goal.returns-clause-fits
returns-clause-fits g c =
    let old = c.args.self.now in
    let book : Book = book_of old.held in
    ⊎_elim
    (λ (empty : is_filled book.volumes ≡ false). omega (arith, c.requires.group, short_end old.journal book c.requires.measured c.if-needs_volume.ensures.0 empty))
    (λ (within : last_len old.journal + c.args.group ≤ c.args.limit). omega (arith, within, c.requires.limit))
    c.if-needs_volume.ensures.1
