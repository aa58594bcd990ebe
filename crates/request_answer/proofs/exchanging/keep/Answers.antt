-- What the shelf said decides the answer.
use Rattle.std.proofs.Common.{Err}
use Rattle.request_answer.proofs.exchanging.keep.Goals as goal

pub returns-in-Err : goal.returns-in-Err
returns-in-Err g c payload is = record {
  said = Err c.in-Err.fault;
  stores = c.in-Err.ensures.stores;
  shows = c.in-Err.ensures.shows;
  follows = rw c.why_unstored.ensures at c.declined.ensures.declines;
}
