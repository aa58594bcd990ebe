use Rattle.std.proofs.Common.{drop, length}
use Rattle.cdx_query.specs.Passing.{IsPartOf, rest_text}
use Rattle.cdx_query.proofs.length.answer_len.Given as goal

-- the length so far, and that of what is to come
abbrev pub invariant-loop-entry : goal.invariant-loop-entry
invariant-loop-entry l = IsPartOf l.query l.len l.left (drop l.entry-index l.entries) (length (rest_text l.query l.initial.left l.entries))
