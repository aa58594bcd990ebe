use Rattle.std.proofs.Common.{Err, ap}
use Rattle.warc_reader.specs.Files.{asked_with}
use Rattle.warc_reader.proofs.AskLaws.{asked_block, not_asked}
use Rattle.warc_reader.proofs.RecordLaws.{if_ok}
use Rattle.warc_reader.proofs.asking.asked_in.Goals as goal

pub returns-in-Ok : goal.returns-in-Ok
returns-in-Ok c =
    if_ok _ _ (λ ask h. asked_block c.args.block.now c.args.uri.now c.in-Ok.message (asked_with ask) c.in-Ok.ensures.ok h.0 h.1)
    c.ask_of.result c.ask_of.ensures

pub returns-in-Err : goal.returns-in-Err
returns-in-Err c =
    if_ok _ _
    (λ ask h. not_asked c.args.block.now c.args.uri.now c.in-Err.fault (asked_with ask) c.in-Err.ensures.faults
    (λ e. c.in-Err.ensures.malformed (ap Err e)) h.0 h.1)
    c.asked_without.result c.asked_without.ensures
