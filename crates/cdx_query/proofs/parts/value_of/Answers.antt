use Rattle.std.proofs.Common.{map}
use Rattle.cdx_query.proofs.GivenParts.{given_long}
use Rattle.cdx_query.proofs.parts.value_of.Goals as goal

pub decoded_behind-requires : goal.decoded_behind-requires
decoded_behind-requires c = given_long c.args.name.now c.in-Once.part.now (map (λ p. p.now) c.args.parts.now) c.in-Once.ensures
