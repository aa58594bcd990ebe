use Rattle.cdx_query.proofs.length.key_of.Goals as goal

pub returns-clause-no_space : goal.returns-clause-no_space
returns-clause-no_space c = rw c.as_slice.ensures (c.keys_hold_no_space.ensures c.entry.inside.uri c.entry.inside.key c.entry.invariant.keyed)
