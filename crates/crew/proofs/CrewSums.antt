-- What a crew leaves in all.
use Rattle.std.proofs.Common.{◌≡◌, ℕ, suc, ◌+◌, ◌-◌, Bool, true, false, ◌&&◌, if◌then◌else◌, IsTrue, List, [], ◌∷◌, ◌++◌, drop, length, map, refl, sym, ap, ◌∙◌, subst, arith}
use Rattle.std.proofs.lemmas.Bool.{false≢true}
use Rattle.std.proofs.lemmas.List.{append-nil, map-append}
use Rattle.std.proofs.Math.Seq.{drop-append_seam}
use Rattle.archive_shelf.specs.Told.{Told}
use Rattle.capture.specs.declared.site.Site.{Site}
use Rattle.link_queue.specs.Serving.{all_of}
use Rattle.outside.specs.Gate.{Connections}
use Rattle.outside.specs.declared.clock.Clock.{Ghosts as Clocks}
use Rattle.outside.specs.declared.dialer.Dialer.{Ghosts as Dialers}
use Rattle.outside.specs.declared.gate.Heard.{Heard}
use Rattle.crew.proofs.CrewLaws.{stands_still}
use Rattle.crew.specs.Crews.{IsEnd, ServesAll, all_hung_up}
use Rattle.crew.specs.Shifts.{AreShifts, GoOn, Hand, hand_of, hands_of}
use Rattle.command.specs.declared.status.Status.{Status}
use Rattle.command.specs.declared.status.Status.TheVariants.{Memory}
use Rattle.crew.specs.steps.Working.{Desk, HaveServed, all_ended, hung_up, more_given, new_desk}

pub both_true : (a b : Bool) → IsTrue a → IsTrue b → IsTrue (a && b)
both_true true b s t = t
both_true false b s t = s

pub first_true : (a b : Bool) → IsTrue (a && b) → IsTrue a
first_true true b t = refl
first_true false b t = t

pub second_true : (a b : Bool) → IsTrue (a && b) → IsTrue b
second_true true b t = t
second_true false b t = absurd (false≢true t)

map_all : {A B : Type 0} (f : A → B) (lists : List (List A)) → map f (all_of lists) ≡ all_of (map (map f) lists)
map_all f [] = refl
map_all f (xs ∷ lists) = map-append f xs (all_of lists) ∙ ap (λ ys. map f xs ++ ys) (map_all f lists)

pub length_map : {A B : Type 0} (f : A → B) (xs : List A) → length (map f xs) ≡ length xs
length_map f [] = refl
length_map f (x ∷ xs) = ap (λ n. suc n) (length_map f xs)

-- ---- the members

-- what the members work with, by their shelves and the front of the crew
module _ {S N M C W P : Type 0} (dialers : Dialers N M) (clocks : Clocks C) (shelf : W → S) (member : W → N × C) (desk : W → Desk S P)
    (of : (m : W) → hand_of dialers clocks (shelf m) (member m) ≡ (desk m).hand) where
  hands_behind : (members : List W) (others : List (N × C)) → hands_of dialers clocks (map shelf members) (map member members ++ others) ≡ map (λ d. d.hand) (map desk members)
  hands_behind [] others = refl
  hands_behind (m ∷ members) others = λ i. of m i ∷ hands_behind members others i

  pub crew_hands : (members : List W) (others : List (N × C)) (shelves : List S) (front crew : List (N × C)) → shelves ≡ map shelf members → front ≡ map member members
      → crew ≡ front ++ others → hands_of dialers clocks shelves crew ≡ map (λ d. d.hand) (map desk members)
  crew_hands members others shelves front crew first second all =
      (λ i. hands_of dialers clocks (first i) ((all ∙ ap (λ ms. ms ++ others) second) i)) ∙ hands_behind members others

module _ {S P : Type 0} (alone : Bool) (told : S → Told) (clock_tells : Bool) (kept : P → Heard) (tells : Bool) (site : Site) where
  -- each member's shift
  pub shifts_are : (hands : List (Hand S)) (pasts : List (List P)) (after : List (Desk S P)) → HaveServed alone told clock_tells kept tells (map (new_desk site) hands) pasts after
      → IsTrue tells → AreShifts alone told (record { site = site; clock_tells = clock_tells }) hands (map (map kept) pasts) (map (λ d. d.hand) after)
  shifts_are [] [] [] have t = tt
  shifts_are (hand ∷ hands) (past ∷ pasts) (desk ∷ after) have t = (have.0.shift t, shifts_are hands pasts after have.1 t)
  shifts_are [] [] (desk ∷ after) have t = absurd have
  shifts_are [] (past ∷ pasts) [] have t = absurd have
  shifts_are [] (past ∷ pasts) (desk ∷ after) have t = absurd have
  shifts_are (hand ∷ hands) [] [] have t = absurd have
  shifts_are (hand ∷ hands) [] (desk ∷ after) have t = absurd have
  shifts_are (hand ∷ hands) (past ∷ pasts) [] have t = absurd have

  pub go_on : (hands : List (Hand S)) (pasts : List (List P)) (after : List (Desk S P)) → HaveServed alone told clock_tells kept tells (map (new_desk site) hands) pasts after
      → GoOn alone told hands (map (λ d. d.hand) after)
  go_on [] [] [] have = tt
  go_on (hand ∷ hands) (past ∷ pasts) (desk ∷ after) have = (have.0.goes_on, go_on hands pasts after have.1)
  go_on [] [] (desk ∷ after) have = absurd have
  go_on [] (past ∷ pasts) [] have = absurd have
  go_on [] (past ∷ pasts) (desk ∷ after) have = absurd have
  go_on (hand ∷ hands) [] [] have = absurd have
  go_on (hand ∷ hands) [] (desk ∷ after) have = absurd have
  go_on (hand ∷ hands) (past ∷ pasts) [] have = absurd have

  -- who begins keeps nothing
  none_ended : (hands : List (Hand S)) → all_ended (map (new_desk {S = S} {P = P} site) hands) ≡ []
  none_ended [] = refl
  none_ended (hand ∷ hands) = none_ended hands

  pub none_kept : (hands : List (Hand S)) (desks : List (Desk S P)) → desks ≡ map (new_desk site) hands → all_ended desks ≡ []
  none_kept hands desks are = ap all_ended are ∙ none_ended hands

  -- ---- nobody worked

  pub idle_shifts : (hands : List (Hand S)) → AreShifts alone told (record { site = site; clock_tells = clock_tells }) hands (map (λ h. []) hands) hands
  idle_shifts [] = tt
  idle_shifts (hand ∷ hands) = (refl, idle_shifts hands)

  pub idle_go_on : (hands : List (Hand S)) → GoOn alone told hands hands
  idle_go_on [] = tt
  idle_go_on (hand ∷ hands) = (stands_still alone told hand, idle_go_on hands)

  none_heard : (hands : List (Hand S)) → all_of {K = Heard} (map (λ h. []) hands) ≡ []
  none_heard [] = refl
  none_heard (hand ∷ hands) = none_heard hands

  all_none : (connections : Connections) (heards : List Heard) → heards ≡ [] → connections ≡ all_hung_up connections heards
  all_none connections heards none =
      let gave : connections.gave ≡ connections.gave + length heards = omega (arith, ap length none) in
      λ i. record connections { log = (sym (append-nil connections.log) ∙ ap (λ hs. connections.log ++ hs) (sym none)) i; gave = gave i }

  -- nothing was served
  pub serves_none : (was is : Connections) (before after : List (Hand S)) → is ≡ was → after ≡ before
      → ServesAll (record { alone = alone; told = told; setting = record { site = site; clock_tells = clock_tells } }) was is before after
  serves_none was is before after same same_hands = record {
    heards = map (λ h. []) before;
    shifts = subst (λ hs. AreShifts alone told (record { site = site; clock_tells = clock_tells }) before (map (λ h. []) before) hs) (sym same_hands) (idle_shifts before);
    logged = same ∙ all_none was (all_of (map (λ h. []) before)) (none_heard before);
  }

-- ---- the gate

-- all that was given was served and hung up
pub all_hung : {P : Type 0} (kept : P → Heard) (pasts : List (List P)) (connections : Connections)
    → hung_up kept (all_of pasts) (more_given (length (all_of pasts)) connections) ≡ all_hung_up connections (all_of (map (map kept) pasts))
all_hung kept pasts connections =
    let n = length (all_of pasts) in
    let same : length (all_of (map (map kept) pasts)) ≡ n = sym (ap length (map_all kept pasts)) ∙ length_map kept (all_of pasts) in
    let out : connections.out + n - n ≡ connections.out = omega arith in
    let gave : connections.gave + n ≡ connections.gave + length (all_of (map (map kept) pasts)) = omega (arith, same) in
    λ i. record connections { log = connections.log ++ map_all kept pasts i; out = out i; gave = gave i }

-- ---- the status

pub end_by : (starved closed : Bool) (before now : ℕ) (said status : Status) → status ≡ (if starved then Memory else said) → IsEnd closed before now said
    → IsEnd closed before now status
end_by true closed before now said status is ended = subst (λ s. IsEnd closed before now s) (sym is) tt
end_by false closed before now said status is ended = subst (λ s. IsEnd closed before now s) (sym is) ended

-- ---- the others

pub others_stay : {A : Type 0} (front others all : List A) (n : ℕ) → length front ≡ n → others ≡ drop n all → drop n (front ++ others) ≡ drop n all
others_stay front others all n long is = ap (λ k. drop k (front ++ others)) (sym long) ∙ (drop-append_seam front others ∙ is)
