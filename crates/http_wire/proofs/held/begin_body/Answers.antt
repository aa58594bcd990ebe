use Rattle.http_wire.proofs.BodyLaws.{begun_chunked}
use Rattle.http_wire.proofs.held.begin_body.Goals as goal

pub returns-in-Chunked : goal.returns-in-Chunked
returns-in-Chunked c = begun_chunked c.args.framing _ c.in-Chunked.is c.open_body-in-Chunked.ensures
