-- What a crew leaves, told of its shelves in other words.
use Rattle.std.proofs.Common.{◌≡◌, ℕ, ◌≤◌, Bool, List, [], ◌∷◌, ◌++◌, length, map, refl, sym, ap, ◌∙◌, subst, arith}
use Rattle.std.specs.Prelude.{get_or}
use Rattle.archive_shelf.specs.Told.{Told}
use Rattle.outside.specs.Gate.{Connections}
use Rattle.outside.specs.declared.clock.Clock.{Ghosts as Clocks}
use Rattle.outside.specs.declared.dialer.Dialer.{Ghosts as Dialers}
use Rattle.outside.specs.declared.gate.Heard.{Heard}
use Rattle.crew.specs.Crews.{ServesAll}
use Rattle.crew.specs.Shifts.{AreShifts, GoOn, Hand, IsShift, ServesThis, hand_of, hands_of}
use Rattle.request_answer.specs.Gains.{Setting}

-- the same hand, with its shelf in other words
abbrev pub hand_as : {S T : Type 0} → (S → T) → Hand S → Hand T
hand_as f hand = record { shelf = f hand.shelf; links = hand.links; dialer_faults = hand.dialer_faults; answers = hand.answers }

module _ {S T N M C : Type 0} (f : S → T) (dialers : Dialers N M) (clocks : Clocks C) where
  hands_as : (shelves : List S) (crew : List (N × C)) → map (hand_as f) (hands_of dialers clocks shelves crew) ≡ hands_of dialers clocks (map f shelves) crew
  hands_as [] crew = refl
  hands_as (shelf ∷ shelves) [] = refl
  hands_as (shelf ∷ shelves) (member ∷ crew) = ap (λ hs. hand_of dialers clocks (f shelf) member ∷ hs) (hands_as shelves crew)

  module _ (alone : Bool) (told : S → Told) (tells : T → Told) (setting : Setting)
      (of : (was is : Hand S) (heard : Heard) → ServesThis alone told setting was heard is → ServesThis alone tells setting (hand_as f was) heard (hand_as f is)) where
    shift_as : (was : Hand S) (heards : List Heard) (is : Hand S) → IsShift alone told setting was heards is → IsShift alone tells setting (hand_as f was) heards (hand_as f is)
    shift_as was [] is same = ap (hand_as f) same
    shift_as was (heard ∷ heards) is shift = (hand_as f shift.0, of was shift.0 heard shift.1, shift_as shift.0 heards is shift.2)

    shifts_as : (before : List (Hand S)) (heards : List (List Heard)) (after : List (Hand S)) → AreShifts alone told setting before heards after
        → AreShifts alone tells setting (map (hand_as f) before) heards (map (hand_as f) after)
    shifts_as [] [] [] shifts = tt
    shifts_as (was ∷ before) (heards ∷ others) (is ∷ after) shifts = (shift_as was heards is shifts.0, shifts_as before others after shifts.1)
    shifts_as [] [] (is ∷ after) shifts = absurd shifts
    shifts_as [] (heards ∷ others) [] shifts = absurd shifts
    shifts_as [] (heards ∷ others) (is ∷ after) shifts = absurd shifts
    shifts_as (was ∷ before) [] [] shifts = absurd shifts
    shifts_as (was ∷ before) [] (is ∷ after) shifts = absurd shifts
    shifts_as (was ∷ before) (heards ∷ others) [] shifts = absurd shifts

    -- a crew over such shelves
    pub serves_as : (was is : Connections) (before after : List S) (crew now : List (N × C))
        → ServesAll (record { alone = alone; told = told; setting = setting }) was is (hands_of dialers clocks before crew) (hands_of dialers clocks after now)
        → ServesAll (record { alone = alone; told = tells; setting = setting }) was is (hands_of dialers clocks (map f before) crew) (hands_of dialers clocks (map f after) now)
    serves_as was is before after crew now all = record {
      heards = all.heards;
      shifts = subst (λ (z : List (Hand T) × List (Hand T)). AreShifts alone tells setting z.0 all.heards z.1)
          (λ i. (hands_as before crew i, hands_as after now i))
          (shifts_as (hands_of dialers clocks before crew) all.heards (hands_of dialers clocks after now) all.shifts);
      logged = all.logged;
    }

-- ---- who comes back

module _ {S N M C : Type 0} (dialers : Dialers N M) (clocks : Clocks C) (alone : Bool) (told : S → Told) (number : S → ℕ) (own : S → List ℕ)
    (numbered : (shelf : S) → (told shelf).contents.mine ≡ number shelf ∷ own shelf) where
  -- the shelves that come back have the numbers that stood in their places
  pub same_numbers : (shelves back : List S) (crew now : List (N × C)) → length shelves ≤ length crew → length back ≡ length shelves
      → GoOn alone told (hands_of dialers clocks shelves crew) (hands_of dialers clocks back now) → map number back ≡ map number shelves
  same_numbers [] [] crew now few many on = refl
  same_numbers (shelf ∷ shelves) (again ∷ back) (member ∷ crew) (next ∷ now) few many on =
      let mine = on.0.0.mine in
      let whole : number again ∷ own again ≡ (number shelf ∷ own shelf) ++ mine.rest =
      sym (numbered again) ∙ (mine.joined ∙ ap (λ ns. ns ++ mine.rest) (numbered shelf)) in
      let one : number again ≡ number shelf = ap (λ (ns : List ℕ). get_or ns 0 0) whole in
      let rest : map number back ≡ map number shelves = same_numbers shelves back crew now (omega (arith, few)) (omega (arith, many)) on.1 in
      λ i. one i ∷ rest i
  same_numbers (shelf ∷ shelves) back [] now few many on = absurd (omega (arith, few))
  same_numbers (shelf ∷ shelves) [] (member ∷ crew) now few many on = absurd (omega (arith, many))
  same_numbers (shelf ∷ shelves) (again ∷ back) (member ∷ crew) [] few many on = absurd on
  same_numbers [] (again ∷ back) crew now few many on = absurd (omega (arith, many))
