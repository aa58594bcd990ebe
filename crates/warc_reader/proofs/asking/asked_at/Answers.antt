use Rattle.std.proofs.Common.{subst}
use Rattle.warc_reader.specs.Files.{asked_with}
use Rattle.warc_reader.specs.Records.{HoldsRecord}
use Rattle.warc_reader.proofs.AskLaws.{asked_in_it}
use Rattle.warc_reader.proofs.RecordLaws.{if_ok}
use Rattle.warc_reader.proofs.asking.asked_at.Goals as goal

pub returns-in-Ok : goal.returns-in-Ok
returns-in-Ok c =
    if_ok _ _
    (λ ask is. asked_in_it _ c.in-Ok.record c.args.uri.now (asked_with ask)
    (subst (λ t. HoldsRecord t c.in-Ok.record) c.split_at.ensures.back c.in-Ok.ensures.ok) is)
    c.asked_in.result c.asked_in.ensures
