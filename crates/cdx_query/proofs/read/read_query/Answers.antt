use Rattle.cdx_query.proofs.read.read_query.Goals as goal

pub returns-clause-query : goal.returns-clause-query
returns-clause-query c = rw (c.as_slice.ensures.value, c.in_ok-parts.ensures) at c.query_of.ensures.query

pub returns-clause-bad : goal.returns-clause-bad
returns-clause-bad c = rw (c.as_slice.ensures.value, c.in_ok-parts.ensures) at c.query_of.ensures.bad
