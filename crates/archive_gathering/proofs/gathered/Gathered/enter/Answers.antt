use Rattle.std.proofs.Common.{rules, ◌≡◌, ap, ◌∙◌}
use Rattle.capture.specs.Captures.{captures}
use Rattle.capture.specs.declared.book.Book.{Book}
use Rattle.capture.specs.declared.captured.Stored.{Stored}
use Rattle.archive_shelf.proofs.GainingSoundness.{no_volumes}
use Rattle.archive_shelf.proofs.StoringLaws.{captures_more}
use Rattle.archive_shelf.specs.Storing.{with_capture}
use Rattle.archive_volumes.specs.Held.{book_of, stored_in}
use Rattle.archive_gathering.proofs.CandidateLaws.{above_by, steady_with}
use Rattle.archive_gathering.proofs.gathered.Gathered.enter.Goals as goal

pub add_digest-requires : goal.add_digest-requires
add_digest-requires c = record {
  above = above_by c.args.self.now.spots.items c.args.self.now.table.kept c.len-number.result c.requires.steady.table_is (search rules);
}

pub returns-clause-steady : goal.returns-clause-steady
returns-clause-steady c =
    let was = c.args.self.now in
    let old : Book = book_of was.held in
    let stored : Stored = stored_in c.args.shown in
    let book : book_of c.add_ghost.new.self ≡ with_capture old stored = search rules in
    let gains = ap (λ (b : Book). captures b) book ∙ captures_more old.volumes stored (no_volumes old.volumes c.requires.volume) in
    steady_with old (book_of c.add_ghost.new.self) stored was.spots.items c.push.new.self.items c.args.spot was.table.kept c.add_digest.new.table.kept was.lengths.items
    c.push-2.new.self.items c.args.payload_len c.requires.steady gains (search rules) (search rules) (search rules) c.requires.few
