-- A window that is fed to a reader, by what the reader tells.
use Rattle.std.proofs.Common.{◌≡◌, ℕ, ◌+◌, ◌*◌, ◌-◌, ◌<◌, false, List, [], ◌++◌, length, take, drop, Ok, Err, inl, inr, refl, sym, ap, subst, ◌∙◌, arith, length-append}
use Rattle.std.specs.Prelude.{IsSome, Option, Result}
use Rattle.std.proofs.lemmas.List.{drop_all, take_all}
use Rattle.capture.specs.First.{Side, Message, IsFirst}
use Rattle.capture.specs.declared.limits.TheConstants.{HEAD_LIMIT, BODY_LIMIT}
use Rattle.http_head.specs.declared.head.WireFault.{WireFault}
use Rattle.http_wire.specs.Answers.{HeadsBy, Reaches, LeavesAt, IsWholeNow}
use Rattle.http_wire.specs.Reading.{Standing, Open, Whole, Failed, HasFault, IsUndecided, ComesBeforeTheEnd, TakesSome}
use Rattle.http_wire.specs.declared.progress.Fed.{Fed}
use Rattle.http_wire.specs.declared.progress.Progress.{Progress}
use Rattle.http_wire.specs.declared.progress.Progress.TheVariants.{More, Head}
use Rattle.http_wire.specs.declared.progress.Progress.TheVariants.{Whole as WholeNow}
use Rattle.exchange.specs.Receiving.{Input, MayGoOn}
use Rattle.exchange.specs.steps.Feeding.{BringsHead, Feeds}
use Rattle.exchange.proofs.AccountLaws.{split_window, front_of_window}
use Rattle.http_wire.proofs.FrontParts.{undecided_is_short}

abbrev pub input : List ℕ → List ℕ → Input
input stream window = record { stream = stream; window = window }

-- what a reader says of a message that was whole before
pub record StaysWhole (progress : Progress) (stream stream_now : List ℕ) (standing : Standing) : Type 0 where
  pub says : progress ≡ WholeNow
  pub same : stream_now ≡ stream
  pub whole : standing ≡ Whole

abbrev ok_fed : Fed → Result Fed WireFault
ok_fed fed = Ok fed

pub says_whole : (fed : Fed) → ok_fed fed ≡ ok_fed (record { used = 0; progress = WholeNow }) → fed.progress ≡ WholeNow
says_whole fed e = let same : fed ≡ record { used = 0; progress = WholeNow } = cc in ap (λ (f : Fed). f.progress) same

abbrev err_fed : WireFault → Result Fed WireFault
err_fed fault = Err fault

pub err_is_not_ok : (fault : WireFault) (fed : Fed) → err_fed fault ≡ ok_fed fed → ⊥
err_is_not_ok fault fed e = cc

more_is_not_whole : More ≡ WholeNow → ⊥
more_is_not_whole e = cc

head_is_not_whole : Head ≡ WholeNow → ⊥
head_is_not_whole e = cc

may_go_on : (side : Side) (stream : List ℕ) (standing : Standing) → LeavesAt Head standing → IsWholeNow side stream standing
    → MayGoOn side stream standing
may_go_on side stream standing (inl is_open) now = inl is_open
may_go_on side stream standing (inr whole) now = inr (whole, now whole)

pub feeds_ok : (side : Side) (progress : Progress) (used : ℕ) (stream window stream_now window_now : List ℕ) (old new : Standing)
    → MayGoOn side stream old → stream_now ≡ stream ++ take used window → window_now ≡ drop used window
    → (progress ≡ More → used ≡ length window) → (old ≡ Open → Reaches side progress stream_now) → (old ≡ Open → LeavesAt progress new)
    → (old ≡ Open → IsWholeNow side stream_now new) → (old ≡ Whole → StaysWhole progress stream stream_now new)
    → Feeds side (Ok progress) (input stream window) (input stream_now window_now) new
feeds_ok side More used stream window stream_now window_now old new (inl is_open) taken left all reaches leaves whole again =
    let n : used ≡ length window = all refl in
    let every : take used window ≡ window = take_all used window (omega (arith, n)) in
    let none : drop used window ≡ [] = drop_all used window (omega (arith, n)) in
    (taken ∙ ap (λ w. stream ++ w) every, left ∙ none, leaves is_open, reaches is_open)
feeds_ok side Head used stream window stream_now window_now old new (inl is_open) taken left all reaches leaves whole again = (
  split_window stream window stream_now window_now used taken left,
  reaches is_open,
  may_go_on side stream_now new (leaves is_open) (whole is_open),
)
feeds_ok side WholeNow used stream window stream_now window_now old new (inl is_open) taken left all reaches leaves whole again =
    (split_window stream window stream_now window_now used taken left, leaves is_open, reaches is_open)
feeds_ok side More used stream window stream_now window_now old new (inr was) taken left all reaches leaves whole again =
    absurd (more_is_not_whole (again was.0).says)
feeds_ok side Head used stream window stream_now window_now old new (inr was) taken left all reaches leaves whole again =
    absurd (head_is_not_whole (again was.0).says)
feeds_ok side WholeNow used stream window stream_now window_now old new (inr was) taken left all reaches leaves whole again =
    let stays = again was.0 in (
      split_window stream window stream_now window_now used taken left,
      stays.whole,
      subst (λ s. IsFirst side false s (Message (length s))) (sym stays.same) was.1,
    )

pub feeds_err : (side : Side) (fault : WireFault) (stream window stream_now window_now : List ℕ) (old new : Standing) → MayGoOn side stream old
    → TakesSome side stream window stream_now → window_now ≡ [] → HasFault side fault stream_now → (old ≡ Open → new ≡ Failed fault)
    → (old ≡ Open → ComesBeforeTheEnd fault) → (old ≡ Whole → ⊥)
    → Feeds side (Err fault) (input stream window) (input stream_now window_now) new
feeds_err side fault stream window stream_now window_now old new (inl is_open) takes none has leaves before never =
    (front_of_window stream window stream_now takes.0 takes.1.stream_is, none, leaves is_open, has, before is_open)
feeds_err side fault stream window stream_now window_now old new (inr was) takes none has leaves before never = absurd (never was.0)

-- ---- the head

pub heads_ok : {H : Type 0} → (side : Side) (progress : Progress) (stream : List ℕ) (old new : Option H) (standing : Standing)
    → MayGoOn side stream standing → (standing ≡ Whole → IsSome old) → (standing ≡ Open → HeadsBy progress old new)
    → (standing ≡ Whole → (progress ≡ WholeNow) × (new ≡ old)) → BringsHead (Ok progress) old new
heads_ok side More stream old new standing (inl is_open) held heads again = heads is_open
heads_ok side Head stream old new standing (inl is_open) held heads again = heads is_open
heads_ok side WholeNow stream old new standing (inl is_open) held heads again = heads is_open
heads_ok side More stream old new standing (inr was) held heads again = absurd (more_is_not_whole (again was.0).0)
heads_ok side Head stream old new standing (inr was) held heads again = absurd (head_is_not_whole (again was.0).0)
heads_ok side WholeNow stream old new standing (inr was) held heads again = (held was.0, (again was.0).1)

-- ---- the loop

-- an undecided message and what was read of it grow, and it has a limit
pub further_on : (side : Side) (stream window stream_now window_now : List ℕ) → stream_now ≡ stream ++ window
    → IsUndecided side false stream_now → 0 < length window_now
    → 2 * (HEAD_LIMIT + BODY_LIMIT) + 3 - (2 * length stream_now + length window_now)
    < 2 * (HEAD_LIMIT + BODY_LIMIT) + 3 - (2 * length stream + length window)
further_on side stream window stream_now window_now e undecided more =
    omega (arith, ap length e, length-append stream window, undecided_is_short side stream_now undecided, more)
