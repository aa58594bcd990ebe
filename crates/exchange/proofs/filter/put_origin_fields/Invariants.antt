use Rattle.std.proofs.Common.{◌≡◌, ◌++◌, ℕ, List, Bor, map}
use Rattle.exchange.specs.Texts.{goes_to_origin}
use Rattle.exchange.proofs.FilterLemmas.{lines_so_far}
use Rattle.exchange.proofs.filter.put_origin_fields.Given as goal

-- the lines of the fields so far
abbrev pub invariant-loop-field : goal.invariant-loop-field
invariant-loop-field l =
    l.out.items ≡ l.initial.out.items ++ lines_so_far (goes_to_origin (map (λ (n : Bor (List ℕ)). n.now) l.listed.items)) l.fields l.field-index
