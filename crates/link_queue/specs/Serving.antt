-- What comes of one who accepts links beside those who serve them.
use Rattle.std.specs.Prelude.{◌≡◌, List, [], ◌∷◌, ◌++◌, Option, Some}
use Rattle.link_queue.specs.Accounts.{IsWhole}

-- all links of these lists
abbrev pub all_of : {K : Type 0} → List (List K) → List K
all_of [] = []
all_of (links ∷ more) = links ++ all_of more

module _ {A K : Type 0} (accepts : A → Option K → A → Type 0) where
  -- these links were accepted, in order
  abbrev pub Accepts : A → List K → A → Type 0
  Accepts a [] b = b ≡ a
  Accepts a (link ∷ links) b = (m : A) × accepts a (Some link) m × Accepts m links b

  -- these were accepted and put, and then there was no more, or one that the queue refused
  abbrev pub HasAccepted : A → List K → Option K → A → Type 0
  HasAccepted a links last b = (m : A) × Accepts a links m × accepts m last b

module _ {W K : Type 0} (stays : W → W → Type 0) (serves : W → K → W → Type 0) where
  -- these links were served, in order, each after room was made for it
  abbrev pub Serves : W → List K → W → Type 0
  Serves a [] b = b ≡ a
  Serves a (link ∷ links) b = (m : W) × (n : W) × stays a m × serves m link n × Serves n links b

  -- these were served, and then there was no more, or no room
  abbrev pub IsShift : W → List K → W → Type 0
  IsShift a links b = (m : W) × Serves a links m × stays m b

  -- each worker has served its links
  abbrev pub AreShifts : List W → List (List K) → List W → Type 0
  AreShifts [] [] [] = Unit {0}
  AreShifts (a ∷ others) (links ∷ more) (b ∷ bs) = IsShift a links b × AreShifts others more bs
  AreShifts _ _ _ = ⊥

-- The links that were put are, up to order, those that the workers served and those that are left. What was accepted last wasn't put
pub record HasServed {A W K : Type 0} (accepts : A → Option K → A → Type 0) (stays : W → W → Type 0) (serves : W → K → W → Type 0) (a b : A) (before after : List W) (last : Option K) (left : List K) : Type 0 where
  pub put : List K
  pub shifts : List (List K)
  pub accepted : HasAccepted accepts a put last b
  pub served : AreShifts stays serves before shifts after
  pub whole : IsWhole put (all_of shifts) left
