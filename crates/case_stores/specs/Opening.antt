-- How an archive may be asked to open.
use Rattle.std.specs.Prelude.{IfSome}
use Rattle.warc_text.specs.Ids.{IsUuid}
use Rattle.archive_core.specs.Holdings.{AreLimits}
use Rattle.case_stores.specs.declared.terms.Opening.{Opening as Asked}

-- the limits are ones that an archive can have, and the namespace is one
pub record IsOpening (opening : Asked) : Type 0 where
  pub limits : AreLimits opening.limits
  pub uuid : IfSome opening.namespace IsUuid
