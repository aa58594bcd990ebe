use Rattle.std.proofs.Common.{◌≡◌, List, ℕ, [], sym, subst}
use Rattle.capture.specs.declared.book.Book.{Book}
use Rattle.index_entry.specs.Facts.{Facts}
use Rattle.archive_shelf.specs.Storing.{empty_book}
use Rattle.archive_gathering.specs.Gathering.{TellsOf}
use Rattle.archive_volumes.specs.declared.spot.Spot.{Spot}
use Rattle.archive_gathering.proofs.BeginLaws.{nothing_gathered}
use Rattle.archive_gathering.proofs.gathered.Gathered.new.Goals as goal

pub returns-clause-gathered : goal.returns-clause-gathered
returns-clause-gathered c = λ known.
    let spots : c.new-2.result.items ≡ [] = c.new-2.ensures.items in
    let lengths : c.new-3.result.items ≡ [] = c.new-3.ensures.items in
    let entries : c.new-5.result.items ≡ [] = c.new-5.ensures.items in
    subst (λ (b : Book). TellsOf known b [] c.new-2.result.items c.new-3.result.items c.new-5.result.items) (sym c.new.ensures)
    (subst (λ (x : List Spot). TellsOf known (empty_book c.args.namespace) [] x c.new-3.result.items c.new-5.result.items) (sym spots)
    (subst (λ (x : List ℕ). TellsOf known (empty_book c.args.namespace) [] [] x c.new-5.result.items) (sym lengths)
    (subst (λ (x : List Facts). TellsOf known (empty_book c.args.namespace) [] [] [] x) (sym entries) (nothing_gathered known c.args.namespace c.requires))))
