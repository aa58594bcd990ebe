use Rattle.std.proofs.Common.{◌≡◌, ◌++◌, drop}
use Rattle.cdx_query.specs.Passing.{rest_text}
use Rattle.cdx_query.proofs.put.put_answer.Given as goal

-- what is written, and what is to come
abbrev pub invariant-loop-entry : goal.invariant-loop-entry
invariant-loop-entry l =
    l.out.items ++ rest_text l.query l.left (drop l.entry-index l.entries)
    ≡ l.initial.out.items ++ rest_text l.query l.initial.left l.entries
