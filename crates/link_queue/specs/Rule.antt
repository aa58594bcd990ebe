-- The rule of the ledger's table.
use Rattle.std.specs.Prelude.{◌≡◌, ℕ, ◌+◌, ◌<◌, List, [], ◌∷◌}
use Rattle.std.specs.List.{sum_by}
use mathlib.Core.Option.{some}
use lib.ListN.{get_elem?}
use Rattle.atomic_table.specs.Table.{State}
use Rattle.link_queue.specs.declared.view.Holding.{Holding}
use Rattle.link_queue.specs.Accounts.{Account, all_parts}

module _ {K : Type 0} where
  abbrev pub holding : ℕ → List K → List K → List K → Holding K
  holding parts put taken held = record { parts = parts; put = put; taken = taken; held = held }

  -- the view of the first seat
  abbrev pub founder : Holding K
  founder = holding all_parts [] [] []

  -- a view that knows nothing
  abbrev pub spent : Holding K
  spent = holding 0 [] [] []

  -- the view of the queue's own seat, where these links wait
  abbrev pub keeper : List K → Holding K
  keeper held = holding 1 [] [] held

  -- the view of a badge that has one
  abbrev pub sole : List (Holding K) → Holding K
  sole [] = spent
  sole (v ∷ vs) = v

  -- what the view of a share stands for
  abbrev pub account_of : Holding K → Account K
  account_of v = record { parts = v.parts; put = v.put; taken = v.taken }

  -- the badge of a share has one view, with a part of the ledger, in which nothing waits
  pub record IsShare (views : List (Holding K)) : Type 0 where
    pub one : views ≡ sole views ∷ []
    pub none_held : (sole views).held ≡ []
    pub some_part : 0 < (sole views).parts

  -- what the links of a view weigh that were taken or wait
  abbrev pub kept_weight : (K → ℕ) → Holding K → ℕ
  kept_weight weigh v = sum_by weigh v.taken + sum_by weigh v.held

  -- there are no links in the view
  pub record IsEmpty (v : Holding K) : Type 0 where
    pub put : v.put ≡ []
    pub taken : v.taken ≡ []
    pub held : v.held ≡ []

  -- The rule. The parts of all views are the ledger's. However links are weighed, those put weigh as much as those taken and those
  -- that wait. A view without a part has no links
  pub record Kept (s : State K (Holding K)) : Type 0 where
    pub parts : sum_by (λ (v : Holding K). v.parts) s.views ≡ all_parts
    pub even : (weigh : K → ℕ) → sum_by (λ (v : Holding K). sum_by weigh v.put) s.views ≡ sum_by (kept_weight weigh) s.views
    pub idle : (seat : ℕ) (v : Holding K) → get_elem? s.views seat ≡ some v → v.parts ≡ 0 → IsEmpty v
