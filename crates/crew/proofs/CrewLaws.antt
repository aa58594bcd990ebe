-- What a crew leaves, put together of what its members do.
use Rattle.std.proofs.Common.{◌≡◌, ℕ, suc, ◌+◌, ◌-◌, ◌<◌, ◌≤◌, Bool, true, false, ◌||◌, if◌then◌else◌, is_some, IsTrue, List, [], ◌∷◌, ◌++◌, drop, length, map, Option, Some, None, refl, sym, ap, ◌∙◌, subst, arith, append_assoc}
use Rattle.std.specs.List.{sum_by}
use Rattle.std.specs.Prelude.{get_or, set}
use Rattle.std.proofs.lemmas.List.Sums.{sum_by-cons}
use Rattle.std.proofs.lemmas.List.{append-nil, drop-drop, length-append, map-append}
use Rattle.archive_shelf.proofs.CallLaws.{goes_on_both, goes_on_itself}
use Rattle.archive_shelf.specs.Told.{Told}
use Rattle.capture.specs.declared.site.Site.{Site}
use Rattle.link_queue.specs.Serving as queue
use Rattle.outside.specs.Gate.{Connections, one_given}
use Rattle.outside.specs.declared.clock.Clock.{Ghosts as Clocks}
use Rattle.outside.specs.declared.dialer.Dialer.{Ghosts as Dialers}
use Rattle.outside.specs.declared.gate.Heard.{Heard}
use Rattle.crew.specs.Crews.{IsEnd}
use Rattle.command.specs.Gates.{GateTold}
use Rattle.crew.specs.Shifts.{Hand, IsShift, WorksOn, hand_of, hands_of}
use Rattle.crew.specs.steps.Working.{Desk, Door, Finishes, HasServed, HasWorked, HaveServed, HaveWorked, Rests, ServesNext, ServesOn, Takes, Works, all_ended, any_starved, hung_up, more_given, new_desk, setting_at}
use Rattle.command.specs.declared.status.Status.TheVariants.{Memory}
use Rattle.request_answer.specs.Gains.{Setting}

-- ---- the first of a list

pub first_is : {A : Type 0} (items : List A) (first any : A) → 0 < length items → first ≡ get_or items 0 any → items ≡ first ∷ drop 1 items
first_is [] first any some same = absurd (omega (arith, some))
first_is (item ∷ items) first any some same = ap (λ x. x ∷ items) (sym same)

pub first_set : {A : Type 0} (items : List A) (item : A) → 0 < length items → set items 0 item ≡ item ∷ drop 1 items
first_set [] item some = absurd (omega (arith, some))
first_set (first ∷ items) item some = refl

-- two lists that are empty together
front_empty : {A : Type 0} (front back : List A) → front ++ back ≡ [] → front ≡ []
front_empty [] back none = refl
front_empty (x ∷ front) back none = absurd (omega (arith, ap length none))

back_empty : {A : Type 0} (front back : List A) → front ++ back ≡ [] → back ≡ []
back_empty [] back none = none
back_empty (x ∷ front) back none = absurd (omega (arith, ap length none))

-- ---- hanging up

module _ {P : Type 0} (kept : P → Heard) where
  pub hung_none : (connections : Connections) → hung_up kept [] connections ≡ connections
  hung_none connections =
      let out : connections.out - 0 ≡ connections.out = omega arith in
      λ i. record connections { log = append-nil connections.log i; out = out i }

  pub hung_twice : (first second : List P) (connections : Connections)
      → hung_up kept second (hung_up kept first connections) ≡ hung_up kept (first ++ second) connections
  hung_twice first second connections =
      let out : connections.out - length first - length second ≡ connections.out - length (first ++ second) = omega (arith, length-append first second) in
      λ i. record connections {
        log = (append_assoc connections.log (map kept first) (map kept second) ∙ ap (λ hs. connections.log ++ hs) (sym (map-append kept first second))) i;
        out = out i;
      }

  -- the connections of the first member were hung up
  pub hung_on : {W : Type 0} (ended : W → List P) (all : Connections) (was is : Connections) (first : W) (rest after : List W) (sum : List W → List P)
      → hung_up kept (sum rest) was ≡ all → rest ≡ first ∷ after → sum (first ∷ after) ≡ ended first ++ sum after → is ≡ hung_up kept (ended first) was
      → hung_up kept (sum after) is ≡ all
  hung_on ended all was is first rest after sum so_far head split now =
      ap (λ (c : Connections). hung_up kept (sum after) c) now ∙ (hung_twice (ended first) (sum after) was
      ∙ (ap (λ ps. hung_up kept ps was) (sym split) ∙ (ap (λ ws. hung_up kept (sum ws) was) (sym head) ∙ so_far)))

  -- enough are still out
  pub out_on : {W : Type 0} (ended : W → List P) (was is : Connections) (first : W) (rest after : List W) (sum : List W → List P)
      → length (sum rest) ≤ was.out → rest ≡ first ∷ after → sum (first ∷ after) ≡ ended first ++ sum after → is ≡ hung_up kept (ended first) was
      → length (sum after) ≤ is.out
  out_on ended was is first rest after sum le head split now =
      omega (arith, le, ap (λ ws. length (sum ws)) head, ap length split, length-append (ended first) (sum after), ap (λ (c : Connections). c.out) now)

-- ---- shifts

module _ {S : Type 0} (alone : Bool) (told : S → Told) (setting : Setting) where
  -- one shift behind another
  pub shift_twice : (was mid is : Hand S) (first second : List Heard) → IsShift alone told setting was first mid → IsShift alone told setting mid second is
      → IsShift alone told setting was (first ++ second) is
  shift_twice was mid is [] second same rest = subst (λ h. IsShift alone told setting h second is) same rest
  shift_twice was mid is (heard ∷ first) second shift rest = (shift.0, shift.1, shift_twice shift.0 mid is first second shift.2 rest)

module _ {S : Type 0} (alone : Bool) (told : S → Told) where
  pub stands_still : (hand : Hand S) → WorksOn alone told hand hand
  stands_still hand = (goes_on_itself alone (told hand.shelf), omega arith)

  pub on_and_on : (was mid is : Hand S) → WorksOn alone told was mid → WorksOn alone told mid is → WorksOn alone told was is
  on_and_on was mid is first second = (goes_on_both alone (told was.shelf) (told mid.shelf) (told is.shelf) first.0 second.0, omega (arith, first.1, second.1))

module _ {S P : Type 0} (alone : Bool) (told : S → Told) (clock_tells : Bool) (kept : P → Heard) (tells : Bool) where
  -- the same desk, by what is left of it
  rested : (was is : Desk S P) → Rests was is → HasWorked alone told clock_tells kept tells was [] is
  rested was is rests = subst (λ d. HasWorked alone told clock_tells kept tells was [] d) (sym rests.same) (record {
    site_is = refl;
    ended_is = sym (append-nil was.ended);
    shift = λ t. refl;
    goes_on = stands_still alone told was.hand;
  })

  idle : (desk : Desk S P) → HasWorked alone told clock_tells kept tells desk [] desk
  idle desk = record { site_is = refl; ended_is = sym (append-nil desk.ended); shift = λ t. refl; goes_on = stands_still alone told desk.hand }

  served_next : (was is : Desk S P) (one : ServesNext alone told clock_tells kept tells was is) → HasWorked alone told clock_tells kept tells was (one.past ∷ []) is
  served_next was is one = record {
    site_is = ap (λ (d : Desk S P). d.site) one.same;
    ended_is = ap (λ (d : Desk S P). d.ended) one.same;
    shift = λ t. (is.hand, one.serves t, refl);
    goes_on = one.goes_on;
  }

  -- one after the other
  pub worked_twice : (was mid is : Desk S P) (first second : List P) → HasWorked alone told clock_tells kept tells was first mid
      → HasWorked alone told clock_tells kept tells mid second is → HasWorked alone told clock_tells kept tells was (first ++ second) is
  worked_twice was mid is first second h k = record {
    site_is = k.site_is ∙ h.site_is;
    ended_is = k.ended_is ∙ (ap (λ xs. xs ++ second) h.ended_is ∙ append_assoc was.ended first second);
    shift = λ t.
        subst (λ xs. IsShift alone told (setting_at clock_tells was) was.hand xs is.hand) (sym (map-append kept first second))
        (shift_twice alone told (setting_at clock_tells was) was.hand mid.hand is.hand (map kept first) (map kept second) (h.shift t)
        (subst (λ s. IsShift alone told (record { site = s; clock_tells = clock_tells }) mid.hand (map kept second) is.hand) h.site_is (k.shift t)));
    goes_on = on_and_on alone told was.hand mid.hand is.hand h.goes_on k.goes_on;
  }

  -- the links that a worker of the queue has served
  module _ {W K : Type 0} (desk : W → Desk S P) (stays : W → W → Type 0) (serves : W → K → W → Type 0) (of_stay : (a b : W) → stays a b → Rests (desk a) (desk b))
      (of_serve : (a b : W) (link : K) → serves a link b → ServesNext alone told clock_tells kept tells (desk a) (desk b)) where
    worked : (a b : W) (links : List K) → queue.Serves stays serves a links b
        → (pasts : List P) × (length pasts ≡ length links) × HasWorked alone told clock_tells kept tells (desk a) pasts (desk b)
    worked a b [] same = ([], refl, subst (λ w. HasWorked alone told clock_tells kept tells (desk a) [] (desk w)) (sym same) (idle (desk a)))
    worked a b (link ∷ links) steps =
        let m = steps.0 in
        let n = steps.1 in
        let one = of_serve m n link steps.3 in
        let rest = worked n b links steps.4 in (
          one.past ∷ rest.0,
          ap (λ k. suc k) rest.1,
          worked_twice (desk a) (desk n) (desk b) (one.past ∷ []) rest.0
              (worked_twice (desk a) (desk m) (desk n) [] (one.past ∷ []) (rested (desk a) (desk m) (of_stay a m steps.2)) (served_next (desk m) (desk n) one)) rest.2,
        )

    pub shift_worked : (a b : W) (links : List K) → queue.IsShift stays serves a links b
        → (pasts : List P) × (length pasts ≡ length links) × HasWorked alone told clock_tells kept tells (desk a) pasts (desk b)
    shift_worked a b links shift =
        let w = worked a shift.0 links shift.1 in (
          w.0,
          w.1,
          subst (λ ps. HasWorked alone told clock_tells kept tells (desk a) ps (desk b)) (append-nil w.0)
              (worked_twice (desk a) (desk shift.0) (desk b) w.0 [] w.2 (rested (desk shift.0) (desk b) (of_stay shift.0 b shift.2))),
        )

    pub shifts_worked : (before after : List W) (links : List (List K)) → queue.AreShifts stays serves before links after
        → (pasts : List (List P)) × (length (queue.all_of pasts) ≡ length (queue.all_of links)) × HaveWorked alone told clock_tells kept tells (map desk before) pasts (map desk after)
    shifts_worked [] [] [] shifts = ([], refl, tt)
    shifts_worked (a ∷ before) (b ∷ after) (links ∷ others) shifts =
        let one = shift_worked a b links shifts.0 in
        let rest = shifts_worked before after others shifts.1 in
        (one.0 ∷ rest.0, length-append one.0 (queue.all_of rest.0) ∙ ((λ i. one.1 i + rest.1 i) ∙ sym (length-append links (queue.all_of others))), (one.2, rest.2))
    shifts_worked [] [] (links ∷ others) shifts = absurd shifts
    shifts_worked [] (b ∷ after) [] shifts = absurd shifts
    shifts_worked [] (b ∷ after) (links ∷ others) shifts = absurd shifts
    shifts_worked (a ∷ before) [] [] shifts = absurd shifts
    shifts_worked (a ∷ before) [] (links ∷ others) shifts = absurd shifts
    shifts_worked (a ∷ before) (b ∷ after) [] shifts = absurd shifts

  -- ---- what was served, whoever keeps it

  worked_served : (before after : List (Desk S P)) (pasts : List (List P)) → HaveWorked alone told clock_tells kept tells before pasts after
      → HaveServed alone told clock_tells kept tells before pasts after
  worked_served [] [] [] have = tt
  worked_served (was ∷ before) (is ∷ after) (past ∷ pasts) have = (record { shift = have.0.shift; goes_on = have.0.goes_on }, worked_served before after pasts have.1)
  worked_served [] [] (past ∷ pasts) have = absurd have
  worked_served [] (is ∷ after) [] have = absurd have
  worked_served [] (is ∷ after) (past ∷ pasts) have = absurd have
  worked_served (was ∷ before) [] [] have = absurd have
  worked_served (was ∷ before) [] (past ∷ pasts) have = absurd have
  worked_served (was ∷ before) (is ∷ after) [] have = absurd have

  -- what they keep is what they have served
  kept_are : (before after : List (Desk S P)) (pasts : List (List P)) → HaveWorked alone told clock_tells kept tells before pasts after → all_ended before ≡ []
      → all_ended after ≡ queue.all_of pasts
  kept_are [] [] [] have none = refl
  kept_are (was ∷ before) (is ∷ after) (past ∷ pasts) have none =
      let first : is.ended ≡ past = have.0.ended_is ∙ ap (λ xs. xs ++ past) (front_empty was.ended (all_ended before) none) in
      let rest : all_ended after ≡ queue.all_of pasts = kept_are before after pasts have.1 (back_empty was.ended (all_ended before) none) in
      λ i. first i ++ rest i
  kept_are [] [] (past ∷ pasts) have none = absurd have
  kept_are [] (is ∷ after) [] have none = absurd have
  kept_are [] (is ∷ after) (past ∷ pasts) have none = absurd have
  kept_are (was ∷ before) [] [] have none = absurd have
  kept_are (was ∷ before) [] (past ∷ pasts) have none = absurd have
  kept_are (was ∷ before) (is ∷ after) [] have none = absurd have

  -- one after the other
  served_twice : (was mid is : Desk S P) (first second : List P) → mid.site ≡ was.site → HasServed alone told clock_tells kept tells was first mid
      → HasServed alone told clock_tells kept tells mid second is → HasServed alone told clock_tells kept tells was (first ++ second) is
  served_twice was mid is first second site h k = record {
    shift = λ t.
        subst (λ xs. IsShift alone told (setting_at clock_tells was) was.hand xs is.hand) (sym (map-append kept first second))
        (shift_twice alone told (setting_at clock_tells was) was.hand mid.hand is.hand (map kept first) (map kept second) (h.shift t)
        (subst (λ s. IsShift alone told (record { site = s; clock_tells = clock_tells }) mid.hand (map kept second) is.hand) site (k.shift t)));
    goes_on = on_and_on alone told was.hand mid.hand is.hand h.goes_on k.goes_on;
  }

  -- ---- what is left

  module _ (clients_tell : Bool) where
    pub serves_on_none : (gate : GateTold) (desk : Desk S P) → ServesOn alone told clock_tells kept tells clients_tell 0 gate gate desk desk
    serves_on_none gate desk = record {
      pasts = [];
      count_is = refl;
      stays = refl;
      served = record { shift = λ t. refl; goes_on = stands_still alone told desk.hand };
      logs = λ t. sym (hung_none kept gate.connections);
      same_closed = refl;
      same_faults = refl;
    }

    pub serves_on_twice : (first second : ℕ) (was mid is : GateTold) (before between after : Desk S P)
        → ServesOn alone told clock_tells kept tells clients_tell first was mid before between → ServesOn alone told clock_tells kept tells clients_tell second mid is between after
        → ServesOn alone told clock_tells kept tells clients_tell (first + second) was is before after
    serves_on_twice first second was mid is before between after h k = record {
      pasts = h.pasts ++ k.pasts;
      count_is = omega (arith, length-append h.pasts k.pasts, h.count_is, k.count_is);
      stays = k.stays ∙ ap (λ (d : Desk S P). record d { hand = after.hand }) h.stays;
      served = served_twice before between after h.pasts k.pasts (ap (λ (d : Desk S P). d.site) h.stays) h.served k.served;
      logs = λ t. k.logs t ∙ (ap (λ (c : Connections). hung_up kept k.pasts c) (h.logs t) ∙ hung_twice kept h.pasts k.pasts was.connections);
      same_closed = k.same_closed ∙ h.same_closed;
      same_faults = k.same_faults ∙ h.same_faults;
    }

    -- so many fewer are out
    pub out_left : (count : ℕ) (was is : GateTold) (before after : Desk S P) → ServesOn alone told clock_tells kept tells clients_tell count was is before after
        → IsTrue clients_tell → is.connections.out ≡ was.connections.out - count
    out_left count was is before after on t = omega (arith, ap (λ (c : Connections). c.out) (on.logs t), on.count_is)

    -- what was kept is hung up before
    pub finishes_by : (count : ℕ) (was mid is : GateTold) (before between after : Desk S P) → between ≡ record before { ended = [] }
        → (IsTrue clients_tell → mid.connections ≡ hung_up kept before.ended was.connections) → mid.closed ≡ was.closed → mid.faults ≡ was.faults
        → ServesOn alone told clock_tells kept tells clients_tell count mid is between after → Finishes alone told clock_tells kept tells clients_tell count was is before after
    finishes_by count was mid is before between after same logs closed faults on =
        let served = subst (λ (d : Desk S P). HasServed alone told clock_tells kept tells d on.pasts after) same on.served in
        record {
          pasts = on.pasts;
          count_is = on.count_is;
          ended_is = ap (λ (d : Desk S P). d.ended) on.stays ∙ ap (λ (d : Desk S P). d.ended) same;
          served = record { shift = served.shift; goes_on = served.goes_on };
          logs = λ t. on.logs t ∙ (ap (λ (c : Connections). hung_up kept on.pasts c) (logs t) ∙ hung_twice kept before.ended on.pasts was.connections);
          same_closed = on.same_closed ∙ closed;
          same_faults = on.same_faults ∙ faults;
        }

-- ---- beginning

module _ {S P N M C W : Type 0} (dialers : Dialers N M) (clocks : Clocks C) (site : Site) (desk : W → Desk S P) where
  -- one more member begins
  pub enlisted : (members : List W) (member : W) (shelf : S) (shelves after : List S) (hand : N × C) (hands behind : List (N × C)) (all : List (Desk S P))
      → map desk members ++ map (new_desk site) (hands_of dialers clocks shelves hands) ≡ all → shelves ≡ shelf ∷ after → hands ≡ hand ∷ behind
      → desk member ≡ new_desk site (hand_of dialers clocks shelf hand)
      → map desk (members ++ member ∷ []) ++ map (new_desk site) (hands_of dialers clocks after behind) ≡ all
  enlisted members member shelf shelves after hand hands behind all so_far first second is =
      ap (λ zs. zs ++ map (new_desk site) (hands_of dialers clocks after behind)) (map-append desk members (member ∷ []))
      ∙ (append_assoc (map desk members) (desk member ∷ []) (map (new_desk site) (hands_of dialers clocks after behind))
      ∙ (ap (λ d. map desk members ++ d ∷ map (new_desk site) (hands_of dialers clocks after behind)) is
      ∙ (ap (λ (z : List S × List (N × C)). map desk members ++ map (new_desk site) (hands_of dialers clocks z.0 z.1)) (λ i. (sym first i, sym second i)) ∙ so_far)))

or_assoc : (a b c : Bool) → ((a || b) || c) ≡ (a || (b || c))
or_assoc true b c = refl
or_assoc false b c = refl

-- whether one had no room, so far
pub starved_on : {S P W : Type 0} (desk : W → Desk S P) (so_far now : Bool) (first : W) (rest after : List W) (all : Bool) → (so_far || any_starved (map desk rest)) ≡ all
    → rest ≡ first ∷ after → now ≡ (so_far || (desk first).starved) → (now || any_starved (map desk after)) ≡ all
starved_on desk so_far now first rest after all was head is =
    ap (λ b. b || any_starved (map desk after)) is ∙ (or_assoc so_far (desk first).starved (any_starved (map desk after))
    ∙ (ap (λ ws. so_far || any_starved (map desk ws)) (sym head) ∙ was))

-- what is left behind so many, and one more
pub dropped_on : {A : Type 0} (all now after : List A) (item : A) (n m : ℕ) → now ≡ drop n all → now ≡ item ∷ after → m ≡ n + 1 → after ≡ drop m all
dropped_on all now after item n m is first more =
    ap (drop 1) (sym first ∙ is) ∙ (drop-drop 1 n all ∙ ap (λ k. drop k all) (omega (arith, more)))

-- ---- the gate

more_none : (connections : Connections) → more_given 0 connections ≡ connections
more_none connections =
    let out : connections.out + 0 ≡ connections.out = omega arith in
    let gave : connections.gave + 0 ≡ connections.gave = omega arith in
    λ i. record connections { out = out i; gave = gave i }

one_behind : (n : ℕ) (connections : Connections) → one_given (more_given n connections) ≡ more_given (n + 1) connections
one_behind n connections =
    let out : connections.out + n + 1 ≡ connections.out + (n + 1) = omega arith in
    let gave : connections.gave + n + 1 ≡ connections.gave + (n + 1) = omega arith in
    λ i. record connections { out = out i; gave = gave i }

more_once : (n : ℕ) (connections : Connections) → more_given n (one_given connections) ≡ more_given (suc n) connections
more_once n connections =
    let out : connections.out + 1 + n ≡ connections.out + suc n = omega arith in
    let gave : connections.gave + 1 + n ≡ connections.gave + suc n = omega arith in
    λ i. record connections { out = out i; gave = gave i }

-- so many connections were accepted, and nothing else changed
record HasTaken (tells : Bool) (count : ℕ) (was is : Door) : Type 0 where
  gave : IsTrue tells → is.gate.connections ≡ more_given count was.gate.connections
  same_faults : is.gate.faults ≡ was.gate.faults
  same_status : is.status ≡ was.status

-- and then the accepting has ended, with so many more that were given
pub record HasEnded (tells : Bool) (count : ℕ) (was is : Door) : Type 0 where
  pub gave : IsTrue tells → is.gate.connections ≡ more_given count was.gate.connections
  pub later : was.gate.faults ≤ is.gate.faults
  pub ended : IsEnd is.gate.closed was.gate.faults is.gate.faults is.status

module _ {A K : Type 0} (tells : Bool) (door : A → Door) (accepts : A → Option K → A → Type 0)
    (of_accept : (a b : A) (answer : Option K) → accepts a answer b → Takes tells (door a) answer (door b)) where
  taken : (a b : A) (links : List K) → queue.Accepts accepts a links b → HasTaken tells (length links) (door a) (door b)
  taken a b [] same = record {
    gave = λ t. ap (λ x. (door x).gate.connections) same ∙ sym (more_none (door a).gate.connections);
    same_faults = ap (λ x. (door x).gate.faults) same;
    same_status = ap (λ x. (door x).status) same;
  }
  taken a b (link ∷ links) steps =
      let m = steps.0 in
      let one = of_accept a m (Some link) steps.1 in
      let rest = taken m b links steps.2 in
      record {
        gave = λ t. rest.gave t ∙ (ap (λ (c : Connections). more_given (length links) c) (one.gave t) ∙ more_once (length links) (door a).gate.connections);
        same_faults = rest.same_faults ∙ one.same_faults;
        same_status = rest.same_status ∙ one.same_status;
      }

  -- the one who accepts has met the end, or a connection that the queue refused
  pub has_ended : (a b : A) (links : List K) (last : Option K) → queue.HasAccepted accepts a links last b → (door a).status ≡ Memory
      → HasEnded tells (length links + (if is_some last then 1 else 0)) (door a) (door b)
  has_ended a b links (Some link) steps memory =
      let m = steps.0 in
      let h = taken a m links steps.1 in
      let one = of_accept m b (Some link) steps.2 in
      record {
        gave = λ t. one.gave t ∙ (ap (λ (c : Connections). one_given c) (h.gave t) ∙ one_behind (length links) (door a).gate.connections);
        later = omega (arith, h.same_faults, one.same_faults);
        ended = subst (λ s. IsEnd (door b).gate.closed (door a).gate.faults (door b).gate.faults s) (sym (one.same_status ∙ (h.same_status ∙ memory))) tt;
      }
  has_ended a b links None steps memory =
      let m = steps.0 in
      let h = taken a m links steps.1 in
      let none = of_accept m b None steps.2 in
      let same : length links + 0 ≡ length links = omega arith in
      record {
        gave = λ t. none.gave t ∙ (h.gave t ∙ ap (λ n. more_given n (door a).gate.connections) (sym same));
        later = omega (arith, h.same_faults, none.later);
        ended = subst (λ f. IsEnd (door b).gate.closed f (door b).gate.faults (door b).status) h.same_faults none.ended;
      }

-- ---- all together

ones : {K : Type 0} (links : List K) → sum_by (λ link. 1) links ≡ length links
ones [] = refl
ones (link ∷ links) = omega (arith, sum_by-cons (λ k. 1) link links, ones links)

module _ {S P : Type 0} (alone : Bool) (told : S → Told) (clock_tells : Bool) (kept : P → Heard) (tells clients_tell : Bool) where
  all_idle : (desks : List (Desk S P)) → HaveServed alone told clock_tells kept tells desks (map (λ d. []) desks) desks
  all_idle [] = tt
  all_idle (desk ∷ desks) = (record { shift = λ t. refl; goes_on = stands_still alone told desk.hand }, all_idle desks)

  none_of : (desks : List (Desk S P)) → queue.all_of {K = P} (map (λ d. []) desks) ≡ []
  none_of [] = refl
  none_of (desk ∷ desks) = none_of desks

  -- nobody worked
  pub works_none : (was is : Door) (before after : List (Desk S P)) → all_ended before ≡ [] → is ≡ was → was.status ≡ Memory → after ≡ before
      → Works alone told clock_tells kept tells clients_tell was is before after
  works_none was is before after none same memory same_desks =
      let ended : all_ended after ≡ [] = ap (λ ds. all_ended ds) same_desks ∙ none in
      let all : List P = queue.all_of (map (λ (d : Desk S P). []) before) in
      let empty : all ≡ [] = none_of before in
      record {
        pasts = map (λ d. []) before;
        served = subst (λ ds. HaveServed alone told clock_tells kept tells before (map (λ d. []) before) ds) (sym same_desks) (all_idle before);
        hung = λ t.
            let gate : is.gate.connections ≡ more_given (length all) was.gate.connections =
            ap (λ (d : Door). d.gate.connections) same ∙ (sym (more_none was.gate.connections) ∙ ap (λ n. more_given n was.gate.connections) (sym (ap length empty))) in
            λ i. hung_up kept ((ended ∙ sym empty) i) (gate i);
        out = λ t. omega (arith, ap length ended);
        later = omega (arith, ap (λ (d : Door). d.gate.faults) same);
        ended = subst (λ s. IsEnd is.gate.closed was.gate.faults is.gate.faults s) (sym (ap (λ (d : Door). d.status) same ∙ memory)) tt;
      }

  -- the first has served more
  first_more : (before : List (Desk S P)) (pasts : List (List P)) (first now : Desk S P) (others : List (Desk S P)) (more : List P)
      → HaveWorked alone told clock_tells kept tells before pasts (first ∷ others) → all_ended before ≡ [] → HasServed alone told clock_tells kept tells first more now
      → (all : List (List P)) × (length (queue.all_of all) ≡ length (queue.all_of pasts) + length more) × ((first.ended ++ more) ++ all_ended others ≡ queue.all_of all)
      × HaveServed alone told clock_tells kept tells before all (now ∷ others)
  first_more (desk ∷ before) (past ∷ pasts) first now others more have none serves =
      let own : first.ended ≡ past = have.0.ended_is ∙ ap (λ xs. xs ++ past) (front_empty desk.ended (all_ended before) none) in
      let rest : all_ended others ≡ queue.all_of pasts =
      kept_are alone told clock_tells kept tells before others pasts have.1 (back_empty desk.ended (all_ended before) none) in (
        (past ++ more) ∷ pasts,
        omega (arith, length-append (past ++ more) (queue.all_of pasts), length-append past more, length-append past (queue.all_of pasts)),
        (λ i. (own i ++ more) ++ rest i),
        (
          served_twice alone told clock_tells kept tells desk first now past more have.0.site_is (record { shift = have.0.shift; goes_on = have.0.goes_on }) serves,
          worked_served alone told clock_tells kept tells before others pasts have.1,
        ),
      )
  first_more [] [] first now others more have none serves = absurd have
  first_more [] (past ∷ pasts) first now others more have none serves = absurd have
  first_more (desk ∷ before) [] first now others more have none serves = absurd have

  module _ {A W K : Type 0} (door : A → Door) (desk : W → Desk S P) (accepts : A → Option K → A → Type 0) (stays : W → W → Type 0) (serves : W → K → W → Type 0)
      (of_accept : (a b : A) (answer : Option K) → accepts a answer b → Takes clients_tell (door a) answer (door b))
      (of_stay : (a b : W) → stays a b → Rests (desk a) (desk b))
      (of_serve : (a b : W) (link : K) → serves a link b → ServesNext alone told clock_tells kept tells (desk a) (desk b)) where
    -- how many connections were given, by who served them
    given_are : (a b : A) (before after : List W) (last : Option K) (left : List K) (served : queue.HasServed accepts stays serves a b before after last left)
        → length served.put ≡ length (queue.all_of served.shifts) + length left
    given_are a b before after last left served =
        sym (ones served.put) ∙ (served.whole (λ k. 1) ∙ (λ i. ones (queue.all_of served.shifts) i + ones left i))

    -- what the first one keeps, and what is left, is still out
    pub still_out : (a b : A) (before after : List W) (first : W) (others : List W) (last : Option K) (left : List K)
        → queue.HasServed accepts stays serves a b before after last left → after ≡ first ∷ others → all_ended (map desk before) ≡ [] → (door a).status ≡ Memory
        → IsTrue clients_tell → length (desk first).ended + (length left + (if is_some last then 1 else 0)) ≤ (door b).gate.connections.out
    still_out a b before after first others last left served same none memory t =
        let ends = has_ended clients_tell door accepts of_accept a b served.put last served.accepted memory in
        let w = shifts_worked alone told clock_tells kept tells desk stays serves of_stay of_serve before after served.shifts served.served in
        let keep : (desk first).ended ++ all_ended (map desk others) ≡ queue.all_of w.0 =
        ap (λ ws. all_ended (map desk ws)) (sym same) ∙ kept_are alone told clock_tells kept tells (map desk before) (map desk after) w.0 w.2 none in
        omega (
          arith,
          given_are a b before after last left served,
          w.1,
          ap length keep,
          length-append (desk first).ended (all_ended (map desk others)),
          ap (λ (c : Connections). c.out) (ends.gave t),
        )

    -- the members have worked, and the first one on what was left
    pub works_all : (a b : A) (gate : GateTold) (before after is : List W) (first now : W) (others : List W) (last : Option K) (left : List K)
        → queue.HasServed accepts stays serves a b before after last left → after ≡ first ∷ others → is ≡ now ∷ others → all_ended (map desk before) ≡ []
        → Finishes alone told clock_tells kept tells clients_tell (length left + (if is_some last then 1 else 0)) (door b).gate gate (desk first) (desk now)
        → (door a).status ≡ Memory
        → Works alone told clock_tells kept tells clients_tell (door a) (record { gate = gate; status = (door b).status }) (map desk before) (map desk is)
    works_all a b gate before after is first now others last left served same now_is none rest memory =
        let ends = has_ended clients_tell door accepts of_accept a b served.put last served.accepted memory in
        let w = shifts_worked alone told clock_tells kept tells desk stays serves of_stay of_serve before after served.shifts served.served in
        let have = subst (λ ws. HaveWorked alone told clock_tells kept tells (map desk before) w.0 (map desk ws)) same w.2 in
        let f = first_more (map desk before) w.0 (desk first) (desk now) (map desk others) rest.pasts have none rest.served in
        let count : length served.put + (if is_some last then 1 else 0) ≡ length (queue.all_of f.0) =
        omega (arith, given_are a b before after last left served, w.1, f.1, rest.count_is) in
        let gave : IsTrue clients_tell → (door b).gate.connections ≡ more_given (length (queue.all_of f.0)) (door a).gate.connections =
        λ t. ends.gave t ∙ ap (λ n. more_given n (door a).gate.connections) count in
        let keep : all_ended (map desk is) ≡ all_ended (map desk others) =
        ap (λ ws. all_ended (map desk ws)) now_is ∙ ap (λ xs. xs ++ all_ended (map desk others)) rest.ended_is in
        record {
          pasts = f.0;
          served = subst (λ ws. HaveServed alone told clock_tells kept tells (map desk before) f.0 (map desk ws)) (sym now_is) f.3;
          hung = λ t.
              (λ i. hung_up kept (keep i) (rest.logs t i))
              ∙ (hung_twice kept ((desk first).ended ++ rest.pasts) (all_ended (map desk others)) (door b).gate.connections
              ∙ (λ i. hung_up kept (f.2 i) (gave t i)));
          out = λ t.
              omega (
                arith,
                ap length keep,
                ap (λ (c : Connections). c.out) (rest.logs t),
                ap (λ (c : Connections). c.out) (gave t),
                ap length f.2,
                length-append ((desk first).ended ++ rest.pasts) (all_ended (map desk others)),
              );
          later = omega (arith, ends.later, rest.same_faults);
          ended = subst (λ (z : Bool × ℕ). IsEnd z.0 (door a).gate.faults z.1 (door b).status) (λ i. (sym rest.same_closed i, sym rest.same_faults i)) ends.ended;
        }

pub as_many : {W K : Type 0} (stays : W → W → Type 0) (serves : W → K → W → Type 0) (before after : List W) (links : List (List K))
    → queue.AreShifts stays serves before links after → length after ≡ length before
as_many stays serves [] [] [] shifts = refl
as_many stays serves (a ∷ before) (b ∷ after) (links ∷ others) shifts = ap (λ n. suc n) (as_many stays serves before after others shifts.1)
as_many stays serves [] [] (links ∷ others) shifts = absurd shifts
as_many stays serves [] (b ∷ after) [] shifts = absurd shifts
as_many stays serves [] (b ∷ after) (links ∷ others) shifts = absurd shifts
as_many stays serves (a ∷ before) [] [] shifts = absurd shifts
as_many stays serves (a ∷ before) [] (links ∷ others) shifts = absurd shifts
as_many stays serves (a ∷ before) (b ∷ after) [] shifts = absurd shifts

-- an iterator that has come to its end
pub none_items : {X : Type 0} (items : List X) (n : ℕ) → n ≡ length items → n ≡ 0 → items ≡ []
none_items [] n is none = refl
none_items (item ∷ items) n is none = absurd (omega (arith, is, none))
