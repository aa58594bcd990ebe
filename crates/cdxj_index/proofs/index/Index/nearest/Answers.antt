use Rattle.std.proofs.Common.{arith, ap, subst, sym}
use Rattle.index_entry.specs.Facts.{Facts}
use Rattle.cdxj_index.specs.Maps.{HasNoneFrom, IsFirstAfter, IsFirstFrom, IsLastUntil}
use Rattle.index_entry.specs.Queries.{HasNone, IsNearest}
use Rattle.cdxj_index.proofs.Calls.{after_date, at_none, at_some, both_after, both_before, if_none_weaker, if_some_weaker, only_after, only_before, some_from, until_date}
use Rattle.cdxj_index.proofs.Nearest.{nearest-no_key, nearest-nothing}
use Rattle.cdxj_index.proofs.Sides.{on_none}
use Rattle.cdxj_index.proofs.index.Index.nearest.Goals as goal

pub returns-in_err-captures-clause-none : goal.returns-in_err-captures-clause-none
returns-in_err-captures-clause-none g c =
    on_none c.from_residual.result (subst (λ es. HasNone es c.args.key.now) c.self.view_is (nearest-no_key c.self.inside.map.keys c.args.key.now c.self.invariant.of_keys (sym c.in_err-captures.ensures.found)))

pub overflow_sub-after-inside : goal.overflow_sub-after-inside
overflow_sub-after-inside g c =
    let captures = c.in_ok-captures.captures.now in
    let of = c.self.invariant.of_keys.each c.args.key.now captures (sym c.in_ok-captures.ensures.found) in
    let next = at_some (λ e. IsFirstAfter captures c.args.time e.now) c.first_after-after.result c.in-Some-Some.after c.in-Some-Some.is-1 c.first_after-after.ensures.some in
    let late = after_date c.args.key.now captures c.args.time c.in-Some-Some.after.now of next in
    omega (arith, late, ap (λ (f : Facts). f.date) c.after.view_is)

pub overflow_sub-time : goal.overflow_sub-time
overflow_sub-time g c =
    let captures = c.in_ok-captures.captures.now in
    let of = c.self.invariant.of_keys.each c.args.key.now captures (sym c.in_ok-captures.ensures.found) in
    let last = at_some (λ e. IsLastUntil captures c.args.time e.now) c.last_until-before.result c.in-Some-Some.before c.in-Some-Some.is-0 c.last_until-before.ensures.some in
    let early = until_date c.args.key.now captures c.args.time c.in-Some-Some.before.now of last in
    omega (arith, early, ap (λ (f : Facts). f.date) c.before-in-Some-Some.view_is)

pub returns-then-after-time-clause-some : goal.returns-then-after-time-clause-some
returns-then-after-time-clause-some g c =
    let captures = c.in_ok-captures.captures.now in
    let last = at_some (λ e. IsLastUntil captures c.args.time e.now) c.last_until-before.result c.in-Some-Some.before c.in-Some-Some.is-0 c.last_until-before.ensures.some in
    let next = at_some (λ e. IsFirstAfter captures c.args.time e.now) c.first_after-after.result c.in-Some-Some.after c.in-Some-Some.is-1 c.first_after-after.ensures.some in
    subst (λ es. IsNearest es c.args.key.now c.args.time c.in-Some-Some.after.now) c.self.view_is
    (both_after c.self.inside.map.keys c.args.key.now captures c.args.time c.self.invariant.of_keys c.in_ok-captures.ensures.found c.in-Some-Some.before.now c.in-Some-Some.after.now last next (omega (arith, c.if-after-time.true, ap (λ (f : Facts). f.date) c.after.view_is, ap (λ (f : Facts). f.date) c.before-in-Some-Some.view_is)))

pub returns-else-after-time-clause-some : goal.returns-else-after-time-clause-some
returns-else-after-time-clause-some g c =
    let captures = c.in_ok-captures.captures.now in
    let last = at_some (λ e. IsLastUntil captures c.args.time e.now) c.last_until-before.result c.in-Some-Some.before c.in-Some-Some.is-0 c.last_until-before.ensures.some in
    let next = at_some (λ e. IsFirstAfter captures c.args.time e.now) c.first_after-after.result c.in-Some-Some.after c.in-Some-Some.is-1 c.first_after-after.ensures.some in
    if_some_weaker (λ e. IsFirstFrom captures c.before-in-Some-Some.inside.date e.now) (λ e. IsNearest c.args.self.now c.args.key.now c.args.time e.now) c.first_from.result (λ e first.
    subst (λ es. IsNearest es c.args.key.now c.args.time e.now) c.self.view_is
    (both_before c.self.inside.map.keys c.args.key.now captures c.args.time c.self.invariant.of_keys c.in_ok-captures.ensures.found c.in-Some-Some.before.now c.in-Some-Some.after.now e.now last next (omega (arith, c.if-after-time.false, ap (λ (f : Facts). f.date) c.after.view_is, ap (λ (f : Facts). f.date) c.before-in-Some-Some.view_is)) (subst (λ d. IsFirstFrom captures d e.now) (ap (λ (f : Facts). f.date) c.before-in-Some-Some.view_is) first))) c.first_from.ensures.some

pub returns-else-after-time-clause-none : goal.returns-else-after-time-clause-none
returns-else-after-time-clause-none g c =
    let captures = c.in_ok-captures.captures.now in
    let last = at_some (λ e. IsLastUntil captures c.args.time e.now) c.last_until-before.result c.in-Some-Some.before c.in-Some-Some.is-0 c.last_until-before.ensures.some in
    if_none_weaker c.first_from.result (λ none. absurd (some_from c.self.inside.map.keys c.args.key.now captures c.args.time c.self.invariant.of_keys c.in_ok-captures.ensures.found c.in-Some-Some.before.now last (subst (λ d. HasNoneFrom captures d) (ap (λ (f : Facts). f.date) c.before-in-Some-Some.view_is) none))) c.first_from.ensures.none

pub returns-in-Some-None-clause-some : goal.returns-in-Some-None-clause-some
returns-in-Some-None-clause-some g c =
    let captures = c.in_ok-captures.captures.now in
    let last = at_some (λ e. IsLastUntil captures c.args.time e.now) c.last_until-before.result c.in-Some-None.before c.in-Some-None.is-0 c.last_until-before.ensures.some in
    let late = at_none c.first_after-after.result c.in-Some-None.is-1 c.first_after-after.ensures.none in
    if_some_weaker (λ e. IsFirstFrom captures c.before-in-Some-None.inside.date e.now) (λ e. IsNearest c.args.self.now c.args.key.now c.args.time e.now) c.first_from-in-Some-None.result (λ e first.
    subst (λ es. IsNearest es c.args.key.now c.args.time e.now) c.self.view_is
    (only_before c.self.inside.map.keys c.args.key.now captures c.args.time c.self.invariant.of_keys c.in_ok-captures.ensures.found c.in-Some-None.before.now e.now last late (subst (λ d. IsFirstFrom captures d e.now) (ap (λ (f : Facts). f.date) c.before-in-Some-None.view_is) first))) c.first_from-in-Some-None.ensures.some

pub returns-in-Some-None-clause-none : goal.returns-in-Some-None-clause-none
returns-in-Some-None-clause-none g c =
    let captures = c.in_ok-captures.captures.now in
    let last = at_some (λ e. IsLastUntil captures c.args.time e.now) c.last_until-before.result c.in-Some-None.before c.in-Some-None.is-0 c.last_until-before.ensures.some in
    if_none_weaker c.first_from-in-Some-None.result (λ none. absurd (some_from c.self.inside.map.keys c.args.key.now captures c.args.time c.self.invariant.of_keys c.in_ok-captures.ensures.found c.in-Some-None.before.now last (subst (λ d. HasNoneFrom captures d) (ap (λ (f : Facts). f.date) c.before-in-Some-None.view_is) none))) c.first_from-in-Some-None.ensures.none

pub returns-in-None-default-clause-some : goal.returns-in-None-default-clause-some
returns-in-None-default-clause-some g c =
    let captures = c.in_ok-captures.captures.now in
    let early = at_none c.last_until-before.result c.in-None-default.is-0 c.last_until-before.ensures.none in
    if_some_weaker (λ e. IsFirstAfter captures c.args.time e.now) (λ e. IsNearest c.args.self.now c.args.key.now c.args.time e.now) c.first_after-after.result (λ e next.
    subst (λ es. IsNearest es c.args.key.now c.args.time e.now) c.self.view_is
    (only_after c.self.inside.map.keys c.args.key.now captures c.args.time c.self.invariant.of_keys c.in_ok-captures.ensures.found e.now early next)) c.first_after-after.ensures.some

pub returns-in-None-default-clause-none : goal.returns-in-None-default-clause-none
returns-in-None-default-clause-none g c =
    let captures = c.in_ok-captures.captures.now in
    let early = at_none c.last_until-before.result c.in-None-default.is-0 c.last_until-before.ensures.none in
    if_none_weaker c.first_after-after.result (λ late. subst (λ es. HasNone es c.args.key.now) c.self.view_is (nearest-nothing c.self.inside.map.keys c.args.key.now captures c.args.time c.self.invariant.of_keys (sym c.in_ok-captures.ensures.found) early late)) c.first_after-after.ensures.none
