-- The lines that are left are those of the next captures.
use Rattle.std.proofs.Common.{◌≡◌, ◌+◌, ◌<◌, ◌++◌, length, map, ℕ}
use Rattle.std.specs.Prelude.{All, List, None, Some}
use Rattle.std.specs.Vec.Iter.{into_iter_items, into_iter_len}
use Rattle.capture.specs.Captures.{captures}
use Rattle.capture.specs.declared.book.Book.{Book}
use Rattle.cdxj_line.specs.Lines.{IsWritable}
use Rattle.archive_volumes.specs.Held.{book_of}
use Rattle.archive_volumes.specs.Lines.{told_spot}
use Rattle.archive_gathering.specs.Gathering.{IsSteady}
use Rattle.archive_gathering.specs.Lines.{AreLinesIn, AreNext, ArePlacedIn, Comes, IsLastFilled, IsSoFar}
use Rattle.archive_gathering.specs.Shapes.{AreFilledBefore, AreNumbered, AreRequested, IsMadeUp, sealed_in}
use Rattle.archive_volumes.specs.Spots.{AreWithin}
use Rattle.archive_gathering.proofs.gathered.Gathered.add_lines.Given as goal

abbrev pub invariant-lines : goal.invariant-lines
invariant-lines l = record {
  steady : IsSteady l.self;
  volumes : length (book_of l.self.held).volumes ≡ length (book_of l.fn.self.held).volumes;
  sealed : sealed_in (book_of l.self.held).volumes ≡ sealed_in (book_of l.fn.self.held).volumes;
  namespace : (book_of l.self.held).namespace ≡ (book_of l.fn.self.held).namespace;
  count : length (captures (book_of l.self.held)) + length (into_iter_items l.rest) ≡ length (captures (book_of l.fn.self.held)) + length l.fn.lines.items;
  next : AreNext (length l.self.spots.items) l.fn.len (into_iter_items l.rest);
  writable : All IsWritable (into_iter_items l.rest);
  of_volume : All (λ line. line.volume + 1 ≡ length (book_of l.fn.self.held).volumes) (into_iter_items l.rest);
  filled : AreFilledBefore (book_of l.fn.self.held) → AreFilledBefore (book_of l.self.held);
  last : length (into_iter_items l.rest) < length l.fn.lines.items → IsLastFilled (book_of l.self.held);
  spots : l.self.spots.items ++ map (λ line. told_spot line) (into_iter_items l.rest) ≡ l.fn.self.spots.items ++ map (λ line. told_spot line) l.fn.lines.items;
  numbered : AreNumbered l.fn.self → AreNumbered l.self;
  requested : AreRequested l.fn.self → AreRequested l.self;
  within : (texts : List (List ℕ)) → AreWithin texts l.fn.self.spots.items → ArePlacedIn texts l.fn.lines.items
      → AreWithin texts l.self.spots.items × ArePlacedIn texts (into_iter_items l.rest);
  made : l.fn.known.value ≡ None → IsMadeUp l.fn.self → IsMadeUp l.self;
  told : (book : Book) (texts : List (List ℕ)) → l.fn.known.value ≡ Some book → IsSoFar book l.fn.self texts → AreLinesIn book texts l.fn.lines.items
      → Comes book texts l.self (into_iter_items l.rest);
}

abbrev pub decreases-lines : goal.decreases-lines
decreases-lines l = into_iter_len l.rest
