use Rattle.std.proofs.Common.{◌≡◌, ◌++◌, drop}
use Rattle.timemap.specs.Passing.{later_texts}
use Rattle.timemap.proofs.mementos.put_later_mementos.Given as goal

-- what is written, and what is to come
abbrev pub invariant-loop-entry : goal.invariant-loop-entry
invariant-loop-entry l =
    l.out.items ++ later_texts l.site.base l.last l.previous (drop l.entry-index l.entries)
    ≡ l.initial.out.items ++ later_texts l.site.base l.last l.initial.previous l.entries
