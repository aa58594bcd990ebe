use Rattle.std.specs.Prelude.{nat_eq}
use Rattle.std.specs.List.{starts_with}
use Rattle.vault_lists.proofs.FindingLaws.{there_of}
use Rattle.vault_lists.proofs.finding.starting.Goals as goal

pub take-requires-clause-there : goal.take-requires-clause-there
take-requires-clause-there c =
    there_of (λ e. starts_with nat_eq e.key c.args.start.now) c.args.index.now c.loop-entry.entries.items c.next.new.self c.loop-entry.entry-iterator c.in-Some.entry.now c.loop-entry.invariant
    c.in-Some.ensures.steps
