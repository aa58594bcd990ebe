-- What a store makes of a round: the capture of its exchange was stored, or the disk refused it.
use Rattle.std.specs.Prelude.{◌≡◌, Bool, IsTrue, Ok, Err}
use Rattle.archive_shelf.specs.Told.{StoresOn, Told}
use Rattle.archive_shelf.specs.declared.fault.StoreFault.TheVariants.{DiskFault}
use Rattle.archive_shelf.specs.declared.receipt.Receipt.{Receipt}
use Rattle.capture.specs.declared.site.Site.{Site}
use Rattle.request_answer.specs.Exchanges.{Exchange, HasRoom, taken_of}
use Rattle.request_answer.specs.Images.{Stores, IsDenied, deed_of}
use Rattle.request_answer.specs.Rounds.{Round}
use Rattle.request_answer.specs.Traces.{terms_of}

module _ (alone : Bool) (site : Site) (r : Round) (e : Exchange) where
  -- a capture was stored in the book that was seen before
  pub record HasKept (was is : Told) : Type 0 where
    pub room : HasRoom (terms_of site alone was.contents) e r.traces
    pub deed : deed_of r.outcome ≡ Stores e room.received
    pub found : IsTrue alone → r.traces.before.book ≡ was.contents.seen
    pub after : r.traces.after.book ≡ is.contents.seen
    pub receipt : Receipt
    pub stores : StoresOn alone (taken_of e room.fetched.date room.received) was is (Ok receipt)

  -- the disk refused to store a capture in the book that was seen before
  pub record WasDenied (was is : Told) : Type 0 where
    pub deed : deed_of r.outcome ≡ IsDenied e
    pub room : HasRoom (terms_of site alone was.contents) e r.traces
    pub found : IsTrue alone → r.traces.before.book ≡ was.contents.seen
    pub after : r.traces.after.book ≡ is.contents.seen
    pub stores : StoresOn alone (taken_of e room.fetched.date room.received) was is (Err DiskFault)
