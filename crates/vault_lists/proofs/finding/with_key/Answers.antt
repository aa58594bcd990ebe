use Rattle.std.specs.Prelude.{bytes_eq}
use Rattle.vault_lists.proofs.FindingLaws.{there_of}
use Rattle.vault_lists.proofs.finding.with_key.Goals as goal

pub take-requires-clause-there : goal.take-requires-clause-there
take-requires-clause-there c =
    there_of (λ e. bytes_eq c.args.key.now e.key) c.args.index.now c.loop-entry.entries.items c.next.new.self c.loop-entry.entry-iterator c.in-Some.entry.now c.loop-entry.invariant
    c.in-Some.ensures.steps
