-- A capture has one payload.
use Rattle.std.proofs.Common.{refl}
use Rattle.sha1.specs.Sha1.{sha1}
use Rattle.archive_core.proofs.MatchLaws.{digest_by, right_later}
use Rattle.archive_core.proofs.laws.compared_payloads_serve_later.Goals as goal

pub returns-clause-digest : goal.returns-clause-digest
returns-clause-digest c taken payload has = digest_by c.wires_have_one_payload.ensures.one taken (sha1 payload) payload has refl

pub returns-clause-found : goal.returns-clause-found
returns-clause-found c = right_later c.wires_have_one_payload.ensures.one c.looked_stays_right.ensures
