use Rattle.std.proofs.Common.{◌≡◌, ◌++◌, ◌∷◌, [], List, ap, ◌∙◌}
use Rattle.std.specs.Prelude.{option_to_list}
use Rattle.std.proofs.lemmas.Result.{on_ok_weaker}
use Rattle.capture.specs.declared.captured.Stored.{Stored}
use Rattle.index_entry.specs.Facts.{Facts}
use Rattle.archive_shelf.specs.Storing.{with_capture}
use Rattle.archive_volumes.specs.Held.{book_of}
use Rattle.archive_volumes.specs.declared.spot.Spot.{Spot}
use Rattle.archive_gathering.specs.Gathering.{IsInStepWith}
use Rattle.archive_gathering.specs.Lines.{HasAddedLine, capture_by}
use Rattle.archive_gathering.proofs.gathered.Gathered.add_line.Goals as goal

pub returns-clause-steady : goal.returns-clause-steady
returns-clause-steady c =
    let mid = c.enter.new.self in
    on_ok_weaker {P = c.add_entry.new.entries.items ≡ mid.entries.items ++ option_to_list c.entry_in.result}
    {Q = IsInStepWith (book_of mid.held) mid.spots.items mid.table.kept mid.lengths.items} c.add_entry.result (λ _. c.in_ok-enter.ensures.steady) c.add_entry.ensures

pub returns-clause-added : goal.returns-clause-added
returns-clause-added c =
    let was = c.args.self.now in
    let mid = c.enter.new.self in
    let stored : Stored = capture_by c.args.known.now.value c.args.line in
    on_ok_weaker {P = c.add_entry.new.entries.items ≡ mid.entries.items ++ option_to_list c.entry_in.result}
    {Q = HasAddedLine was (record mid { entries = c.add_entry.new.entries }) stored c.args.line} c.add_entry.result
    (λ more. record {
      book = c.in_ok-enter.ensures.book ∙ ap (λ (s : Stored). with_capture (book_of was.held) s) c.told_ghost.ensures;
      spots = c.in_ok-enter.ensures.spots ∙ ap (λ (s : Spot). was.spots.items ++ s ∷ []) c.in_ok-spot.ensures;
      lengths = c.in_ok-enter.ensures.lengths;
      entry = c.entry_in.result;
      entries = more ∙ ap (λ (l : List Facts). l ++ option_to_list c.entry_in.result) c.enter.ensures.entries;
      enters = c.entry_in.ensures;
    }) c.add_entry.ensures
