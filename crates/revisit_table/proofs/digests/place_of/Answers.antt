use Rattle.std.proofs.Common.{◌≡◌, rules, ℕ, List}
use Rattle.std.proofs.lemmas.Fn.{always_returns_same}
use Rattle.std.specs.List.{remove}
use Rattle.revisit_table.specs.Table.{without}
use Rattle.revisit_table.proofs.Searches.{search_is_filter, found_from_search, absent_from_search}
use Rattle.revisit_table.proofs.digests.place_of.Goals as goal

-- the closure tells an entry's number
pub returns-clause-found : goal.returns-clause-found
returns-clause-found c =
    let search_ = c.binary_search_by_key.ensures in
    let position = search_.position (λ entry. entry.1) (always_returns_same _ _ _ (λ entry o f called. search rules)) in
    rw c.ok.ensures.value (found_from_search c.binary_search_by_key.result (λ place. without c.args.number c.args.kept.now ≡ remove c.args.kept.now place) (without c.args.number c.args.kept.now ≡ c.args.kept.now) (search_is_filter (λ (entry : List ℕ × ℕ). entry.1) c.args.kept.now c.args.number _ c.requires search_.bound position))

pub returns-clause-absent : goal.returns-clause-absent
returns-clause-absent c =
    let search_ = c.binary_search_by_key.ensures in
    let position = search_.position (λ entry. entry.1) (always_returns_same _ _ _ (λ entry o f called. search rules)) in
    rw c.ok.ensures.value (absent_from_search c.binary_search_by_key.result (λ place. without c.args.number c.args.kept.now ≡ remove c.args.kept.now place) (without c.args.number c.args.kept.now ≡ c.args.kept.now) (search_is_filter (λ (entry : List ℕ × ℕ). entry.1) c.args.kept.now c.args.number _ c.requires search_.bound position))
