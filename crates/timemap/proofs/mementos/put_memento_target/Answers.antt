-- The address, in angle brackets.
use Rattle.std.proofs.Common.{arith}
use Rattle.std.proofs.lemmas.Grind.{common_steps}
use Rattle.replay_url.specs.Links.{link_target}
use Rattle.timemap.proofs.mementos.put_memento_target.Goals as goal

pub returns : goal.returns
unfolding link_target
returns c = grind (arith, common_steps)
