-- One capture more: it is stored, it is refused, or it stands behind one that was refused.
use Rattle.std.proofs.Common.{◌≡◌, ℕ, ◌+◌, ◌≤◌, Bool, IsTrue, List, [], ◌∷◌, ◌++◌, length, map, Option, Some, None, Ok, Err, refl, sym, ap, subst, ◌∙◌, inl, inr, ⊎_elim, arith, append-nil, append_assoc, length-append}
use Rattle.std.proofs.lemmas.List.{map-append}
use Rattle.archive_shelf.proofs.CallLaws.{goes_on_both, goes_on_itself, no_more, stored_goes_on}
use Rattle.archive_shelf.specs.Answers.{CountsIf, HasStored, is_store_fault}
use Rattle.archive_shelf.specs.Contents.{Contents, IsConsistent}
use Rattle.archive_shelf.specs.Openings.{CrashStates, HasIds, IsEarlier, IsRefused, MayLeave, Moves, SameBook}
use Rattle.archive_shelf.specs.Told.{GoesOn, StoresOn, Told}
use Rattle.archive_shelf.specs.declared.fault.StoreFault.{StoreFault}
use Rattle.archive_shelf.specs.declared.fault.StoreFault.TheVariants.{Full, DiskFault, Damaged, Memory}
use Rattle.archive_shelf.specs.declared.receipt.Receipt.{Receipt}
use Rattle.capture.specs.declared.book.Book.{Book}
use Rattle.capture.specs.declared.captured.Taken.{Taken}
use Rattle.command.proofs.OpeningLaws.{only_one}
use Rattle.importing.specs.Keeping.{AreStored, HaveIds, IsOfRefused, IsOnWay, Keeps, OpensAtLast, OpensBehind, OpensPast, Step, intake_of, is_denied}

-- ---- steps

stored_more : (alone : Bool) (was : Contents) (steps : List Step) (mid : Contents) (step : Step) → AreStored alone was steps mid → step.before ≡ mid
    → HasStored alone step.taken step.before step.after step.receipt → AreStored alone was (steps ++ step ∷ []) step.after
stored_more alone was [] mid step are before has = (before ∙ are, has, refl)
stored_more alone was (s ∷ steps) mid step are before has = (are.0, are.1, stored_more alone s.after steps mid step are.2 before has)

ids_before : (steps : List Step) (step : Step) → HaveIds (steps ++ step ∷ []) → HaveIds steps × HasIds step.before.seen
ids_before [] step ids = (tt, ids.0)
ids_before (s ∷ steps) step ids = let rest = ids_before steps step ids.1 in ((ids.0, rest.0), rest.1)

on_way_before : (steps : List Step) (step : Step) (x : Book) → IsOnWay steps x → IsOnWay (steps ++ step ∷ []) x
on_way_before [] step x on = absurd on
on_way_before (s ∷ steps) step x (inl may) = inl may
on_way_before (s ∷ steps) step x (inr on) = inr (on_way_before steps step x on)

on_way_last : (steps : List Step) (step : Step) (x : Book) → MayLeave step.before.limits.volume_bytes step.before.seen step.taken x → IsOnWay (steps ++ step ∷ []) x
on_way_last [] step x may = inl may
on_way_last (s ∷ steps) step x may = inr (on_way_last steps step x may)

opens_last : (steps : List Step) (step : Step) (reached : Contents) (Before : Book → Type 0) (x : Book) → SameBook x reached.seen
    → OpensBehind (steps ++ step ∷ []) reached Before x
opens_last [] step reached Before x same = same
opens_last (s ∷ steps) step reached Before x same = same

is_other : {x y : Book} → Some y ≡ Some x → x ≡ y
is_other e = sym cc

-- ---- all were stored so far

-- nothing was refused: the last that was stored leads to what is seen
record KeepsAll (alone : Bool) (takens : List Taken) (count : ℕ) (was is : Told) : Type 0 where
  steps : List Step
  in_order : takens ≡ map (λ (step : Step). step.taken) steps
  count_is : count ≡ length steps
  stored : AreStored alone was.contents steps is.contents
  goes_on : GoesOn alone was is
  faults : is.faults ≡ was.faults
  moves : HaveIds steps → HasIds is.contents.seen → Moves was.crash is.crash (IsOnWay steps)
  left : IsTrue alone → IsTrue was.contents.tells → HaveIds steps → HasIds is.contents.seen
      → (x : Book) → is.crash.openings is.crash.moment x → OpensBehind steps is.contents (λ b. was.crash.openings was.crash.moment b) x

all_kept : (alone : Bool) (takens : List Taken) (count : ℕ) (was is : Told) → Keeps alone (intake_of takens count None) was is → KeepsAll alone takens count was is
all_kept alone takens count was is k =
    let taken_of : Step → Taken = λ (step : Step). step.taken in
    let same : k.reached ≡ is.contents = sym k.ends.1 in
    record {
      steps = k.steps;
      in_order = k.in_order ∙ ap (λ r. map taken_of k.steps ++ r) k.ends.0 ∙ append-nil (map taken_of k.steps);
      count_is = k.count_is;
      stored = subst (AreStored alone was.contents k.steps) same k.stored;
      goes_on = k.goes_on;
      faults = k.faults;
      moves = λ ids last t x le o. ⊎_elim
          (λ before. inl before)
          (λ on. inr (no_more on))
          (k.moves ids (subst (λ (c : Contents). HasIds c.seen) (sym same) last) t x le o);
      left = λ a tells ids last x o. subst (λ (c : Contents). OpensBehind k.steps c (λ b. was.crash.openings was.crash.moment b) x) same
          (k.left a tells ids (subst (λ (c : Contents). HasIds c.seen) (sym same) last) x o);
    }

-- none so far
pub keeps_none : (alone : Bool) (count : ℕ) (refused : Option StoreFault) (now : Told) → count ≡ 0 → refused ≡ None → Keeps alone (intake_of [] count refused) now now
keeps_none alone count refused now zero none = subst (λ r. Keeps alone (intake_of [] count r) now now) (sym none) (record {
  steps = [];
  rest = [];
  reached = now.contents;
  in_order = refl;
  count_is = zero;
  stored = refl;
  ends = (refl, refl);
  goes_on = goes_on_itself alone now;
  faults = refl;
  moves = λ ids last t x le o. inl o;
  left = λ a tells ids last x o. o;
})

in_line : (takens steps : List Taken) (t : Taken) (rest : List Taken) → takens ≡ steps → takens ++ t ∷ rest ≡ steps ++ t ∷ rest
in_line takens steps t rest e = ap (λ ts. ts ++ t ∷ rest) e

-- one more is stored
keeps_stored_all : (alone : Bool) (takens : List Taken) (count : ℕ) (was mid is : Told) (t : Taken) (receipt : Receipt) → KeepsAll alone takens count was mid
    → IsConsistent alone is.contents → StoresOn alone t mid is (Ok receipt) → Keeps alone (intake_of (takens ++ t ∷ []) (count + 1) None) was is
keeps_stored_all alone takens count was mid is t receipt k consistent stores =
    let step : Step = record { taken = t; receipt = receipt; before = mid.contents; after = is.contents } in
    let taken_of : Step → Taken = λ (s : Step). s.taken in
    record {
      steps = k.steps ++ step ∷ [];
      rest = [];
      reached = is.contents;
      in_order = in_line takens (map taken_of k.steps) t [] k.in_order ∙ sym (map-append taken_of k.steps (step ∷ []))
          ∙ sym (append-nil (map taken_of (k.steps ++ step ∷ [])));
      count_is = omega (arith, k.count_is, length-append k.steps (step ∷ []));
      stored = stored_more alone was.contents k.steps mid.contents step k.stored refl stores.leaves;
      ends = (refl, refl);
      goes_on = goes_on_both alone was mid is k.goes_on (stored_goes_on alone t mid is (Ok receipt) consistent stores);
      faults = stores.faults ∙ k.faults;
      moves = λ ids last t₁ x le o. ⊎_elim
          (λ before. ⊎_elim
          (λ first. inl first)
          (λ on. inr (inl (on_way_before k.steps step x on)))
          (k.moves (ids_before k.steps step ids).0 (ids_before k.steps step ids).1 t₁ x le before))
          (λ may. inr (inl (on_way_last k.steps step x may)))
          (stores.crash.moves (ids_before k.steps step ids).1 t₁ x (omega (arith, le, k.goes_on.later)) o);
      left = λ a tells ids last x o. opens_last k.steps step is.contents (λ b. was.crash.openings was.crash.moment b) x
          (only_one (stores.crash.only (ids_before k.steps step ids).1 x o));
    }

pub keeps_stored : (alone : Bool) (takens : List Taken) (count : ℕ) (was mid is : Told) (t : Taken) (receipt : Receipt) (refused : Option StoreFault)
    → refused ≡ None → Keeps alone (intake_of takens count refused) was mid → IsConsistent alone is.contents → StoresOn alone t mid is (Ok receipt)
    → Keeps alone (intake_of (takens ++ t ∷ []) (count + 1) refused) was is
keeps_stored alone takens count was mid is t receipt refused none k consistent stores =
    subst (λ r. Keeps alone (intake_of (takens ++ t ∷ []) (count + 1) r) was is) (sym none)
    (keeps_stored_all alone takens count was mid is t receipt
    (all_kept alone takens count was mid (subst (λ r. Keeps alone (intake_of takens count r) was mid) none k)) consistent stores)

-- ---- one is refused

-- nothing was written by a refusal that isn't the disk's
opened_then : (was is : CrashStates) (x : Book) → IsEarlier is → was.moment ≤ is.moment → Moves was is (λ y. ⊥) → is.openings is.moment x
    → was.openings was.moment x
opened_then was is x earlier later moves o = no_more (moves was.moment x (omega arith) (earlier was.moment is.moment x later o))

denied : (Before : Book → Type 0) (mid is : Told) (t : Taken) (x : Book) → ((b : Book) → mid.crash.openings mid.crash.moment b → Before b)
    → IsRefused mid.crash is.crash mid.contents is.contents t → is.crash.openings is.crash.moment x → OpensPast DiskFault t mid.contents is.contents Before x
denied Before mid is t x before (inl (same, keeps)) o = ⊎_elim
    (λ then. inl (same, before x then))
    (λ alike. inr (inl (subst (λ b. SameBook x b) (sym same) alike)))
    (keeps x o)
denied Before mid is t x before (inr (storing, inl state)) o = ⊎_elim
    (λ alike. inr (inl alike))
    (λ other. inr (inr (storing, inl (is_other other))))
    (state x o)
denied Before mid is t x before (inr (storing, inr state)) o = ⊎_elim
    (λ alike. inr (inl alike))
    (λ other. inr (inr (storing, inr (is_other other))))
    (state x o)

past : (alone : Bool) (Before : Book → Type 0) (mid is : Told) (t : Taken) (fault : StoreFault) (x : Book) → IsTrue alone → IsTrue mid.contents.tells
    → HasIds mid.contents.seen → IsEarlier is.crash → ((b : Book) → mid.crash.openings mid.crash.moment b → Before b)
    → StoresOn alone t mid is (Err fault) → is.crash.openings is.crash.moment x → OpensPast fault t mid.contents is.contents Before x
past alone Before mid is t (Full count limit) x a tells ids earlier before stores o =
    before x (opened_then mid.crash is.crash x earlier stores.crash.later (stores.crash.quiet tt) o)
past alone Before mid is t DiskFault x a tells ids earlier before stores o =
    denied Before mid is t x before (stores.crash.refused a tells ids refl) o
past alone Before mid is t (Damaged number kept found) x a tells ids earlier before stores o =
    before x (opened_then mid.crash is.crash x earlier stores.crash.later (stores.crash.quiet tt) o)
past alone Before mid is t Memory x a tells ids earlier before stores o =
    before x (opened_then mid.crash is.crash x earlier stores.crash.later (stores.crash.quiet tt) o)

denied_is : (fault : StoreFault) → is_store_fault (Err fault) ≡ is_denied (Some fault)
denied_is (Full count limit) = refl
denied_is DiskFault = refl
denied_is (Damaged number kept found) = refl
denied_is Memory = refl

keeps_refused_all : (alone : Bool) (takens : List Taken) (count : ℕ) (was mid is : Told) (t : Taken) (fault : StoreFault) → KeepsAll alone takens count was mid
    → IsEarlier is.crash → IsConsistent alone is.contents → StoresOn alone t mid is (Err fault)
    → Keeps alone (intake_of (takens ++ t ∷ []) count (Some fault)) was is
keeps_refused_all alone takens count was mid is t fault k earlier consistent stores =
    let taken_of : Step → Taken = λ (s : Step). s.taken in
    record {
      steps = k.steps;
      rest = t ∷ [];
      reached = mid.contents;
      in_order = in_line takens (map taken_of k.steps) t [] k.in_order;
      count_is = k.count_is;
      stored = k.stored;
      ends = (t, [], refl, stores.leaves);
      goes_on = goes_on_both alone was mid is k.goes_on (stored_goes_on alone t mid is (Err fault) consistent stores);
      faults = subst (λ (b : Bool). CountsIf b was.faults is.faults) (denied_is fault)
          (subst (λ (n : ℕ). CountsIf (is_store_fault (Err fault)) n is.faults) k.faults stores.faults);
      moves = λ ids last t₁ x le o. ⊎_elim
          (λ before. ⊎_elim (λ first. inl first) (λ on. inr (inl on)) (k.moves ids last t₁ x le before))
          (λ may. inr (inr may))
          (stores.crash.moves last t₁ x (omega (arith, le, k.goes_on.later)) o);
      left = λ a tells ids last x o. past alone (OpensBehind k.steps mid.contents (λ b. was.crash.openings was.crash.moment b)) mid is t fault x a
          (subst IsTrue (sym k.goes_on.same_tells) tells) last earlier (λ b p. k.left a tells ids last b p) stores o;
    }

pub keeps_refused : (alone : Bool) (takens : List Taken) (count : ℕ) (was mid is : Told) (t : Taken) (fault : StoreFault) (refused : Option StoreFault)
    → refused ≡ None → Keeps alone (intake_of takens count refused) was mid → IsEarlier is.crash → IsConsistent alone is.contents
    → StoresOn alone t mid is (Err fault) → Keeps alone (intake_of (takens ++ t ∷ []) count (Some fault)) was is
keeps_refused alone takens count was mid is t fault refused none k earlier consistent stores =
    keeps_refused_all alone takens count was mid is t fault
    (all_kept alone takens count was mid (subst (λ r. Keeps alone (intake_of takens count r) was mid) none k)) earlier consistent stores

-- ---- behind a refusal

refused_more : (fault : StoreFault) (rest : List Taken) (t : Taken) (reached : Contents) (x : Book) → IsOfRefused (Some fault) rest reached x
    → IsOfRefused (Some fault) (rest ++ t ∷ []) reached x
refused_more fault [] t reached x of = absurd of
refused_more fault (refused ∷ others) t reached x of = of

last_more : (fault : StoreFault) (rest : List Taken) (refused : Taken) (others : List Taken) (t : Taken) (reached now : Contents) (Before : Book → Type 0) (x : Book)
    → rest ≡ refused ∷ others → OpensAtLast (Some fault) rest reached now Before x → OpensAtLast (Some fault) (rest ++ t ∷ []) reached now Before x
last_more fault [] refused others t reached now Before x is o = absurd cc
last_more fault (r ∷ rest) refused others t reached now Before x is o = o

keeps_past_fault : (alone : Bool) (takens : List Taken) (count : ℕ) (was is : Told) (t : Taken) (fault : StoreFault)
    → Keeps alone (intake_of takens count (Some fault)) was is → Keeps alone (intake_of (takens ++ t ∷ []) count (Some fault)) was is
keeps_past_fault alone takens count was is t fault k =
    let taken_of : Step → Taken = λ (s : Step). s.taken in
    record {
      steps = k.steps;
      rest = k.rest ++ t ∷ [];
      reached = k.reached;
      in_order = ap (λ ts. ts ++ t ∷ []) k.in_order ∙ append_assoc (map taken_of k.steps) k.rest (t ∷ []);
      count_is = k.count_is;
      stored = k.stored;
      ends = (k.ends.0, k.ends.1 ++ t ∷ [], ap (λ ts. ts ++ t ∷ []) k.ends.2, k.ends.3);
      goes_on = k.goes_on;
      faults = k.faults;
      moves = λ ids last t₁ x le o. ⊎_elim
          (λ first. inl first)
          (λ on. ⊎_elim (λ way. inr (inl way)) (λ of. inr (inr (refused_more fault k.rest t k.reached x of))) on)
          (k.moves ids last t₁ x le o);
      left = λ a tells ids last x o. last_more fault k.rest k.ends.0 k.ends.1 t k.reached is.contents
          (OpensBehind k.steps k.reached (λ b. was.crash.openings was.crash.moment b)) x k.ends.2 (k.left a tells ids last x o);
    }

pub keeps_past : (alone : Bool) (takens : List Taken) (count : ℕ) (was is : Told) (t : Taken) (fault : StoreFault) (refused : Option StoreFault)
    → refused ≡ Some fault → Keeps alone (intake_of takens count refused) was is → Keeps alone (intake_of (takens ++ t ∷ []) count refused) was is
keeps_past alone takens count was is t fault refused same k =
    subst (λ r. Keeps alone (intake_of (takens ++ t ∷ []) count r) was is) (sym same)
    (keeps_past_fault alone takens count was is t fault (subst (λ r. Keeps alone (intake_of takens count r) was is) same k))

-- nothing more
pub keeps_as : (alone : Bool) (takens : List Taken) (count : ℕ) (refused : Option StoreFault) (was is : Told) → Keeps alone (intake_of takens count refused) was is
    → Keeps alone (intake_of (takens ++ []) count refused) was is
keeps_as alone takens count refused was is k = subst (λ ts. Keeps alone (intake_of ts count refused) was is) (sym (append-nil takens)) k
