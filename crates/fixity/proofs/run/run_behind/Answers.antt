use Rattle.std.proofs.Common.{◌+◌, ◌-◌, ◌≤◌, drop, length, ap, subst, arith}
use Rattle.std.proofs.lemmas.List.{length-drop}
use Rattle.fixity.specs.steps.Nexts.{Fits, IsNextGroup}
use Rattle.fixity.proofs.Judging.{is_behind}
use Rattle.fixity.proofs.ShareLaws.{no_run, runs_in_all}
use Rattle.fixity.proofs.RunLaws.{none_stands, run_goes_on}
use Rattle.fixity.proofs.run.run_behind.Goals as goal

pub groups-preserved : goal.groups-preserved
groups-preserved c = record {
  few = omega (arith, c.groups-test.true);
  inside =
      let behind = c.split_at.result.1.now in
      let fits : c.in-Stands.n ≤ length behind = subst (λ x. Fits (length behind) (c.args.room - c.groups.len) x) c.in-Stands.is c.in_ok-next.ensures.fits in
      omega (arith, fits, ap length c.split_at.ensures.back, length-drop c.groups.len c.args.bytes.now, c.groups.invariant.inside);
  runs = λ rest long same.
      let len = c.groups.len in
      let number = c.args.number + c.groups.groups in
      let behind = is_behind rest c.args.bytes.now c.split_at.result.1.now c.args.room len c.groups.invariant.inside long same c.split_at.ensures.back in
      let told = c.in_ok-next.ensures.next (drop len rest) behind.long behind.same in
      run_goes_on c.args.namespace.now c.args.number rest c.groups.groups len c.in-Stands.n (c.groups.invariant.runs rest long same)
      (subst (λ x. IsNextGroup c.args.namespace.now number (drop len rest) x) c.in-Stands.is told);
  first = λ e. omega (arith, e);
}

pub returns-in-Missing-clause-run : goal.returns-in-Missing-clause-run
returns-in-Missing-clause-run c = λ rest long same.
    let len = c.groups.len in
    let number = c.args.number + c.groups.groups in
    let behind = is_behind rest c.args.bytes.now c.split_at.result.1.now c.args.room len c.groups.invariant.inside long same c.split_at.ensures.back in
    let told = c.in_ok-next.ensures.next (drop len rest) behind.long behind.same in
    record {
      stands = c.groups.invariant.runs rest long same;
      ends = (c.groups-test.true, none_stands c.args.namespace.now number rest len (subst (λ x. IsNextGroup c.args.namespace.now number (drop len rest) x) c.in-Missing.is told));
    }

pub groups-init : goal.groups-init
groups-init c = record {
  few = c.requires.few;
  inside = c.requires.front.inside;
  runs = λ rest long same. runs_in_all c.args.namespace.now c.args.number c.args.bytes.now rest c.args.front.groups c.args.front.len same c.requires.front.stands;
  first = λ none. no_run c.args.namespace.now c.args.number c.args.bytes.now c.args.front.groups c.args.front.len none c.requires.front.stands;
}
