-- Captures that are stored one after the other, up to a refusal, and what a stop may leave of that.
use Rattle.std.specs.Prelude.{◌≡◌, ◌⊎◌, ℕ, Bool, false, List, [], ◌∷◌, ◌++◌, map, length, IsTrue, Option, Some, None, Err, ⊤, true}
use Rattle.archive_shelf.specs.Answers.{CountsIf, HasStored, StoreLeaves}
use Rattle.archive_shelf.specs.Contents.{Contents}
use Rattle.archive_shelf.specs.Openings.{HasIds, MayLeave, Moves, SameBook}
use Rattle.archive_shelf.specs.Storing.{Storing, stored_by}
use Rattle.archive_shelf.specs.Told.{GoesOn, Told}
use Rattle.archive_shelf.specs.declared.fault.StoreFault.{StoreFault}
use Rattle.archive_shelf.specs.declared.fault.StoreFault.TheVariants.{Full, DiskFault, Damaged, Memory}
use Rattle.archive_shelf.specs.declared.receipt.Receipt.{Receipt}
use Rattle.capture.specs.declared.book.Book.{Book}
use Rattle.capture.specs.declared.captured.Taken.{Taken}

-- a capture that was stored, its receipt, and what was seen before and after it
pub record Step : Type 0 where
  pub taken : Taken
  pub receipt : Receipt
  pub before : Contents
  pub after : Contents

-- each of them was stored by the rule, behind the one before it
abbrev pub AreStored : Bool → Contents → List Step → Contents → Type 0
AreStored alone was [] is = is ≡ was
AreStored alone was (step ∷ steps) is =
    (step.before ≡ was) × HasStored alone step.taken step.before step.after step.receipt × AreStored alone step.after steps is

-- Behind the last that was stored none is left; or the first that is left was refused, and nothing more was stored.
abbrev pub EndsBy : Bool → Option StoreFault → List Taken → Contents → Contents → Type 0
EndsBy alone None rest reached now = (rest ≡ []) × (now ≡ reached)
EndsBy alone (Some fault) rest reached now =
    (refused : Taken) × (others : List Taken) × (rest ≡ refused ∷ others) × StoreLeaves alone refused reached now (Err fault)

-- ---- what a stop may leave

-- the ids of the captures of each book on the way differ, and that of one more
abbrev pub HaveIds : List Step → Type 0
HaveIds [] = ⊤
HaveIds (step ∷ steps) = HasIds step.before.seen × HaveIds steps

-- storing one of them, wherever it is stopped, may leave the book
abbrev pub IsOnWay : List Step → Book → Type 0
IsOnWay [] x = ⊥
IsOnWay (step ∷ steps) x = MayLeave step.before.limits.volume_bytes step.before.seen step.taken x ⊎ IsOnWay steps x

-- and storing the one that was refused
abbrev pub IsOfRefused : Option StoreFault → List Taken → Contents → Book → Type 0
IsOfRefused None rest reached x = ⊥
IsOfRefused (Some fault) [] reached x = ⊥
IsOfRefused (Some fault) (refused ∷ others) reached x = MayLeave reached.limits.volume_bytes reached.seen refused x

-- Which books may be opened behind them, by those that might be before: behind a store the last book alone.
abbrev pub OpensBehind : List Step → Contents → (Book → Type 0) → Book → Type 0
OpensBehind [] reached Before x = Before x
OpensBehind (step ∷ steps) reached Before x = SameBook x reached.seen

-- the disk refused to store the capture: it may be there, or the volume that it needs
abbrev pub IsOfDenied : Taken → Contents → Book → Type 0
IsOfDenied refused reached x =
    (storing : Storing reached.limits.volume_bytes reached.seen refused) × ((x ≡ storing.unfilled) ⊎ (x ≡ stored_by storing))

-- Which books may be opened behind a refusal: only the disk's leaves another than those before it.
abbrev pub OpensPast : StoreFault → Taken → Contents → Contents → (Book → Type 0) → Book → Type 0
OpensPast (Full count limit) refused reached now Before x = Before x
OpensPast DiskFault refused reached now Before x =
    ((now.seen ≡ reached.seen) × Before x) ⊎ SameBook x now.seen ⊎ IsOfDenied refused reached x
OpensPast (Damaged number kept found) refused reached now Before x = Before x
OpensPast Memory refused reached now Before x = Before x

-- and so at last
abbrev pub OpensAtLast : Option StoreFault → List Taken → Contents → Contents → (Book → Type 0) → Book → Type 0
OpensAtLast None rest reached now Before x = Before x
OpensAtLast (Some fault) [] reached now Before x = Before x
OpensAtLast (Some fault) (refused ∷ others) reached now Before x = OpensPast fault refused reached now Before x

-- ---- the whole

-- Captures that are to be stored, in order; how many of them were, and why the next one was refused, if one was.
pub record Intake : Type 0 where
  pub takens : List Taken
  pub stored : ℕ
  pub refused : Option StoreFault

abbrev pub intake_of : List Taken → ℕ → Option StoreFault → Intake
intake_of takens stored refused = record { takens = takens; stored = stored; refused = refused }

-- a fault of the disk refused a capture
abbrev pub is_denied : Option StoreFault → Bool
is_denied (Some DiskFault) = true
is_denied other = false

-- Of the captures the first so many were stored, in order, and each by the rule. All were, unless one was refused for this cause.
pub record Keeps (alone : Bool) (intake : Intake) (was is : Told) : Type 0 where
  pub steps : List Step
  pub rest : List Taken
  pub reached : Contents
  pub in_order : intake.takens ≡ map (λ (step : Step). step.taken) steps ++ rest
  pub count_is : intake.stored ≡ length steps
  pub stored : AreStored alone was.contents steps reached
  pub ends : EndsBy alone intake.refused rest reached is.contents
  pub goes_on : GoesOn alone was is
  pub faults : CountsIf (is_denied intake.refused) was.faults is.faults
  -- a book that may be opened since a moment might have been before, or storing one of them may leave it
  pub moves : HaveIds steps → HasIds reached.seen
      → Moves was.crash is.crash (λ x. IsOnWay steps x ⊎ IsOfRefused intake.refused rest reached x)
  -- behind the last that was stored no other book may be opened than the last one, but what a refusal by the disk leaves
  pub left : IsTrue alone → IsTrue was.contents.tells → HaveIds steps → HasIds reached.seen
      → (x : Book) → is.crash.openings is.crash.moment x
      → OpensAtLast intake.refused rest reached is.contents (OpensBehind steps reached (λ b. was.crash.openings was.crash.moment b)) x
