-- What each step on the ledger's table tells.
use Rattle.std.specs.Prelude.{◌≡◌, ℕ, ◌+◌, ◌-◌, [], ◌∷◌, ◌++◌, take, drop}
use Rattle.std.specs.List.{sum_by}
use mathlib.Core.Option.{some, none}
use mathlib.Core.Option as maybe
use Rattle.atomic_table.specs.Table.{Me, Step}
use Rattle.link_queue.specs.declared.view.Holding.{Holding}
use Rattle.link_queue.specs.Accounts.{all_parts}
use Rattle.link_queue.specs.Rule.{holding, keeper, kept_weight}

module _ {K : Type 0} where
  -- the view after this link was put, if there is one
  abbrev pub one_put : maybe.Option K → Holding K → Holding K
  one_put (some link) v = holding v.parts (v.put ++ link ∷ []) v.taken (v.held ++ link ∷ [])
  one_put none v = v

  -- the link that the step is told was put, and waits
  abbrev pub puts : Step K → Me K (Holding K) → ℕ → Me K (Holding K) → Type 0
  puts st v n w = w ≡ (one_put st.said v.0, v.1)

  -- nothing changed; a view with all parts has as much put as taken and waiting, however it is weighed
  abbrev pub audits : Step K → Me K (Holding K) → ℕ → Me K (Holding K) → Type 0
  audits st v n w = (w ≡ v) × (v.0.parts ≡ all_parts → (weigh : K → ℕ) → sum_by weigh v.0.put ≡ kept_weight weigh v.0)

  -- all but one part
  abbrev pub less_one : Holding K → Holding K
  less_one v = holding (v.parts - 1) v.put v.taken v.held

  -- one part alone
  abbrev pub one_part : Holding K → Holding K
  one_part v = keeper []

  -- the links that wait, with one part
  abbrev pub waiting_of : Holding K → Holding K
  waiting_of v = keeper v.held

  -- all else
  abbrev pub rest_of : Holding K → Holding K
  rest_of v = holding (v.parts - 1) v.put v.taken []

  -- the links that wait but the first, with one part
  abbrev pub others_of : Holding K → Holding K
  others_of v = keeper (drop 1 v.held)

  -- all else, with the first link that waits taken
  abbrev pub taker_of : Holding K → Holding K
  taker_of v = holding (v.parts - 1) v.put (v.taken ++ take 1 v.held) []

  -- both
  abbrev pub both : Holding K → Holding K → Holding K
  both v w = holding (v.parts + w.parts) (v.put ++ w.put) (v.taken ++ w.taken) (w.held ++ v.held)
