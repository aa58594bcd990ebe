-- A run goes on with an event.
use Rattle.std.proofs.Common.{◌≡◌, ℕ, zero, suc, ◌+◌, ◌<◌, ◌≤◌, List, [], ◌∷◌, ◌++◌, length, get_or, take, drop, refl, sym, ap, subst, ◌∙◌, inr, arith}
use Rattle.std.proofs.lemmas.List.{take_all}
use Rattle.capture.specs.declared.limits.Limits.{Limits}
use Rattle.disk_model.specs.Image.{Image}
use Rattle.archive_shelf.specs.Told.{Told}
use Rattle.archive_shelf.specs.declared.fault.ReopenFault.{ReopenFault}
use Rattle.event_core.proofs.TallyLaws.{least_may}
use Rattle.event_core.specs.Events.{Runs, Steps}
use Rattle.event_core.specs.Machine.{IsEither, State, sealed}
use Rattle.event_core.specs.Running.{HoldsOne, IsLeftBy, IsLeftByNext, IsUnopened, RunSo}
use Rattle.event_core.specs.declared.event.Event.{Event}
use Rattle.event_core.specs.declared.event.Event.TheVariants as evs
use Rattle.event_core.specs.declared.reply.Reply.{Reply}
use Rattle.event_core.specs.steps.Standing.{EndsBy, Follows, GoesOn, Standing, Stands, state_at}

pub runs_push : (limits : Limits) (a b c : State) (events : List Event) (replies : List Reply) (event : Event) (reply : Reply)
    → Runs limits a events replies b → Steps limits b event reply c → Runs limits a (events ++ event ∷ []) (replies ++ reply ∷ []) c
runs_push limits a b c [] [] event reply run step = (c, subst (λ (s : State). Steps limits s event reply c) run step, refl)
runs_push limits a b c (e ∷ events) (r ∷ replies) event reply run step =
    (run.0, run.1, runs_push limits run.0 b c events replies event reply run.2 step)
runs_push limits a b c [] (r ∷ replies) event reply run step = absurd run
runs_push limits a b c (e ∷ events) [] event reply run step = absurd run

take_suc : (events : List Event) (k : ℕ) (event : Event) → k < length events → event ≡ get_or events k event
    → take (suc k) events ≡ take k events ++ event ∷ []
take_suc [] k event less is = absurd (omega (arith, less))
take_suc (e ∷ events) zero event less is = ap (λ (x : Event). x ∷ []) (sym is)
take_suc (e ∷ events) (suc k) event less is = ap (λ (l : List Event). e ∷ l) (take_suc events k event (omega (arith, less)) is)

take_next : (events : List Event) (k : ℕ) (event : Event) → k < length events → event ≡ get_or events k event
    → take (k + 1) events ≡ take k events ++ event ∷ []
take_next events k event less is =
    let one : suc k ≡ k + 1 = omega arith in
    subst (λ (n : ℕ). take n events ≡ take k events ++ event ∷ []) one (take_suc events k event less is)

drop_next : (events : List Event) (k : ℕ) (event : Event) → k < length events → event ≡ get_or events k event
    → drop k events ≡ event ∷ drop (suc k) events
drop_next [] k event less is = absurd (omega (arith, less))
drop_next (e ∷ events) zero event less is = ap (λ (x : Event). x ∷ events) (sym is)
drop_next (e ∷ events) (suc k) event less is = drop_next events k event (omega (arith, less)) is

module _ (limits : Limits) (namespace : List ℕ) (start : State) (events : List Event) (k : ℕ) (replies : List Reply) (now : Told)
    (so : Follows limits namespace start (take k events) replies now) where
  -- the state with the least number of checkpoints
  abbrev least : State
  least = state_at so.is so.is.tally.least

  least_runs : Runs limits start (take k events) replies least
  least_runs = so.runs so.is.tally.least (least_may now.crash.checkpoints (sealed so.is.book) so.is.tally so.stands.tallied)

  -- with one event more
  pub run_next : (event : Event) (reply : Reply) (next : Told) (all : List Reply) → k < length events → event ≡ get_or events k event
      → all ≡ replies ++ reply ∷ [] → GoesOn limits namespace now next event reply
      → Follows limits namespace start (take (k + 1) events) all next
  run_next event reply next all less is same gives =
      let step = gives so.is so.stands in
      subst (λ (l : List Reply). Follows limits namespace start (take (k + 1) events) l next) (sym same)
      (subst (λ (l : List Event). Follows limits namespace start l (replies ++ reply ∷ []) next) (sym (take_next events k event less is)) (record {
        is = step.is;
        stands = step.stands;
        runs = λ n may.
            let by = step.steps n may in
            runs_push limits start (state_at so.is by.0) (state_at step.is n) (take k events) replies event reply (so.runs by.0 by.1) by.2;
      }))

  -- it ended behind these
  pub run_so : (image : Image) → ((was : Standing) → Stands limits namespace now was → HoldsOne image (IsEither (state_at was 0)))
      → RunSo limits start (take k events) replies image
  run_so image holds =
      let one = holds so.is so.stands in
      record { is = least; runs = least_runs; holds = record { book = one.book; stands = one.stands; allowed = one.allowed } }

  pub run_lacks : (image : Image) (all : List Reply) → all ≡ replies → length replies ≡ k
      → ((was : Standing) → Stands limits namespace now was → HoldsOne image (IsEither (state_at was 0)))
      → RunSo limits start (take (length all) events) all image
  run_lacks image all same count holds =
      subst (λ (l : List Reply). RunSo limits start (take (length l) events) l image) (sym same)
      (subst (λ (n : ℕ). RunSo limits start (take n events) replies image) (sym count) (run_so image holds))

  pub run_whole : (image : Image) (all : List Reply) → all ≡ replies → length events ≤ k
      → ((was : Standing) → Stands limits namespace now was → HoldsOne image (IsEither (state_at was 0)))
      → RunSo limits start events all image
  run_whole image all same le holds =
      subst (λ (l : List Reply). RunSo limits start events l image) (sym same)
      (subst (λ (l : List Event). RunSo limits start l replies image) (take_all k events le) (run_so image holds))

  -- or before the next event's reply
  pub run_part : (event : Event) (fault : ReopenFault) (image : Image) (all : List Reply) → all ≡ replies → length replies ≡ k
      → k < length events → event ≡ get_or events k event → EndsBy limits namespace now event fault image
      → IsUnopened limits start events all fault image
  run_part event fault image all same count less is ends =
      let shut = ends so.is so.stands in
      subst (λ (l : List Reply). IsUnopened limits start events l fault image) (sym same) (record {
        outside = shut.outside;
        ran = inr (record {
          is = least;
          runs = subst (λ (n : ℕ). Runs limits start (take n events) replies least) (sym count) least_runs;
          holds = record {
            book = shut.holds.book;
            stands = shut.holds.stands;
            allowed = subst (λ (l : List Event). IsLeftByNext limits least l shut.holds.book) (sym next) (left event shut.holds.allowed);
          };
        });
      })
    where
      next : drop (length replies) events ≡ event ∷ drop (suc k) events
      next = ap (λ (n : ℕ). drop n events) count ∙ drop_next events k event less is

      left : (e : Event) → IsLeftBy limits (state_at so.is 0) e (ends so.is so.stands).holds.book → IsLeftBy limits least e (ends so.is so.stands).holds.book
      left (evs.Store taken) h = h
      left (evs.Roll born) h = h
      left (evs.Bring number) h = h
      left (evs.ByDate key time) h = h
      left (evs.Map key) h = h
      left evs.Settle h = h
      left (evs.Stop choice) h = h
      left (evs.StopWithin taken calls choice) h = h
