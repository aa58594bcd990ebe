-- What storing builds on: the laws of the crates below.
use Rattle.capture.specs.BodyLaws.{BodiesHaveAPayload, CutWiresHaveAPayload, WiresHaveOnePayload}
use Rattle.capture.specs.GrowthLaws.{GrowsFromItself}
use Rattle.warc_text.specs.StandsFor.{GroupsAreCommitted}
use Rattle.archive_shelf.specs.Entering.{EntriesAreAll, EntriesGainOne, EntriesStayAll, NewEntriesAreOfTheirCaptures}
use Rattle.archive_shelf.specs.Gaining.{CapturesAddTheirGroup, StoringKeepsSoundness, VolumesAddTheirText}
use Rattle.surt_key.specs.Targets.{TargetsHaveKeys}

pub record StoringBasis : Type 0 where
  pub committed : GroupsAreCommitted
  pub volumes : VolumesAddTheirText
  pub groups : CapturesAddTheirGroup
  pub sound : StoringKeepsSoundness
  pub of_new : NewEntriesAreOfTheirCaptures
  pub gain : EntriesGainOne
  pub all : EntriesAreAll
  pub stay : EntriesStayAll
  pub keys : TargetsHaveKeys
  pub itself : GrowsFromItself
  pub one : WiresHaveOnePayload
  pub whole : BodiesHaveAPayload
  pub cut : CutWiresHaveAPayload
