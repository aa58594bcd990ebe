-- What the contracts of the queue say of a share of its ledger.
use Rattle.std.specs.Prelude.{◌≡◌, ℕ, ◌+◌, List, [], ◌∷◌, ◌++◌}
use Rattle.std.specs.List.{sum_by}
use Rattle.atomic_table.specs.Seated.{TableId}

-- which ledger it is
abbrev pub LedgerId : Type 0
LedgerId = TableId

-- into how many parts a ledger is cut: 2 ^ 33
abbrev pub all_parts : ℕ
all_parts = 8589934592

-- What a share stands for: its parts of the ledger, the links that were put by it and those that were taken by it, in order
pub record Account (K : Type 0) : Type 0 where
  pub parts : ℕ
  pub put : List K
  pub taken : List K

-- a share of one part, by which nothing was put or taken
abbrev pub newcomer : {K : Type 0} → Account K
newcomer = record { parts = 1; put = []; taken = [] }

-- the share after a link was put by it
abbrev pub with_put : {K : Type 0} → Account K → K → Account K
with_put a link = record a { put = a.put ++ link ∷ [] }

-- the share after a link was taken by it
abbrev pub with_taken : {K : Type 0} → Account K → K → Account K
with_taken a link = record a { taken = a.taken ++ link ∷ [] }

-- one share for two
abbrev pub merged : {K : Type 0} → Account K → Account K → Account K
merged a b = record { parts = a.parts + b.parts; put = a.put ++ b.put; taken = a.taken ++ b.taken }

-- However links are weighed, those that were put weigh as much as those that were taken and those that are left. So each link that
-- was put was taken or is left, as often as it was put
abbrev pub IsWhole : {K : Type 0} → List K → List K → List K → Type 0
IsWhole {K} put taken left = (weigh : K → ℕ) → sum_by weigh put ≡ sum_by weigh taken + sum_by weigh left
