use Rattle.std.specs.Prelude.{◌≡◌, ◌-◌, ◌++◌}
use Rattle.load_maker.specs.Load as load
use Rattle.load_maker.proofs.asking.client.Given as goal

abbrev pub invariant-loop-number : goal.invariant-loop-number
invariant-loop-number l = l.out.items ++ load.requests_text l.number (l.to - l.number) ≡ load.requests_text l.from (l.to - l.from)
