-- What is read of a text of that length is a UUID.
use Rattle.record_opening.proofs.UuidParsing.{parsed_is_uuid}
use Rattle.case_stores.proofs.terms.uuid_in.Goals as goal

pub returns-in-Ok : goal.returns-in-Ok
returns-in-Ok c = parsed_is_uuid c.args.text.now c.in-Ok.namespace c.requires c.in-Ok.ensures.bytes
