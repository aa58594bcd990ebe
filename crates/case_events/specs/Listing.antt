-- How the archive of a run of events may be asked to open.
use Rattle.warc_text.specs.Ids.{IsUuid}
use Rattle.archive_core.specs.Holdings.{AreLimits}
use Rattle.case_events.specs.declared.events.Listing.{Listing}

-- the limits are ones that an archive can have, and the namespace is one
pub record IsListing (listing : Listing) : Type 0 where
  pub limits : AreLimits listing.limits
  pub uuid : IsUuid listing.namespace
