use Rattle.std.proofs.Common.{arith}
use Rattle.std.proofs.Math.Seq.{take-add}
use Rattle.std.proofs.lemmas.List.{drop-drop}
use Rattle.outside.proofs.source.Source.give.Goals as goal

pub returns-clause-after : goal.returns-clause-after
returns-clause-after c =
    let bytes = c.self.inside.bytes.items in
    let at = c.self.inside.at in
    rw (take-add at c.if-self.many bytes, ← drop-drop c.if-self.many at bytes) (rw (← c.self.view_is) (grind arith))
