use Rattle.std.proofs.Common.{List, length, sym, subst, arith}
use Rattle.std.specs.Vec.{vec_len}
use Rattle.cdxj_line.specs.declared.line.Line.{Line}
use Rattle.checkpoint.specs.steps.Lines.{IsNextLine}
use Rattle.checkpoint.proofs.ReadingLaws.{IsReadSoFar, begins, front_shorter, goes_on_by, is_whole, next_none, next_some, no_first_line, no_lines, no_next_line, none_if, some_if}
use Rattle.checkpoint.proofs.parse.lines_of.Goals as goal

pub returns-in_default-clause-whole : goal.returns-in_default-clause-whole
returns-in_default-clause-whole c = no_first_line c.args.volume c.args.bytes.now c.in_default.ensures.none

pub loop-rest-init : goal.loop-rest-init
loop-rest-init c =
    subst (λ (xs : List Line). IsReadSoFar c.args.volume c.args.bytes.now xs c.in-Some.rest.now) (sym c.new-lines.ensures.items)
    (begins c.args.volume c.args.bytes.now c.in-Some.rest.now c.in-Some.ensures.some)

pub returns-in_default-2-clause-whole : goal.returns-in_default-2-clause-whole
returns-in_default-2-clause-whole c =
    no_next_line c.args.volume c.args.bytes.now c.loop-rest.lines.items c.loop-rest.rest.now c.loop-rest.invariant
    (some_if (length c.loop-rest.rest.now) c.is_empty.result c.is_empty.ensures c.loop-rest-test.true)
    (next_none c.args.volume c.loop-rest.lines.items c.loop-rest.rest.now c.in_ok-line.field-0 (λ x e. c.in_default-2.not-Some x e)
    (subst (λ (xs : List Line). IsNextLine c.args.volume xs c.loop-rest.rest.now c.in_ok-line.field-0) c.as_slice.ensures.value c.in_ok-line.ensures))

pub loop-rest-smaller : goal.loop-rest-smaller
loop-rest-smaller c =
    let next = subst (λ (xs : List Line). IsNextLine c.args.volume xs c.loop-rest.rest.now c.in_ok-line.field-0) c.as_slice.ensures.value c.in_ok-line.ensures in
    let step = next_some c.args.volume c.loop-rest.lines.items c.loop-rest.rest.now c.in_ok-line.field-0 c.in-Some-2.line c.in-Some-2.behind c.in-Some-2.is next in
    front_shorter c.in-Some-2.line c.in-Some-2.behind.now c.loop-rest.rest.now step.0

pub loop-rest-preserved : goal.loop-rest-preserved
loop-rest-preserved c =
    let next = subst (λ (xs : List Line). IsNextLine c.args.volume xs c.loop-rest.rest.now c.in_ok-line.field-0) c.as_slice.ensures.value c.in_ok-line.ensures in
    let step = next_some c.args.volume c.loop-rest.lines.items c.loop-rest.rest.now c.in_ok-line.field-0 c.in-Some-2.line c.in-Some-2.behind c.in-Some-2.is next in
    subst (λ (xs : List Line). IsReadSoFar c.args.volume c.args.bytes.now xs c.in-Some-2.behind.now) (sym c.in_ok-push.ensures.items)
    (goes_on_by c.args.volume c.args.bytes.now c.loop-rest.lines.items c.loop-rest.rest.now c.in-Some-2.line c.in-Some-2.behind.now c.loop-rest.invariant step.0 step.1)

pub returns-then-is_empty-clause-whole : goal.returns-then-is_empty-clause-whole
returns-then-is_empty-clause-whole c =
    no_lines c.args.volume c.args.bytes.now c.loop-rest.lines.items c.loop-rest.rest.now c.loop-rest.invariant
    (none_if (length c.loop-rest.rest.now) c.is_empty.result c.is_empty.ensures c.loop-rest-test.false)
    (let none = none_if (vec_len c.loop-rest.lines) c.is_empty-2.result c.is_empty-2.ensures c.if-is_empty.true in
    omega (arith, none, c.loop-rest.lines.ok.0))

pub returns-clause-whole : goal.returns-clause-whole
returns-clause-whole c =
    is_whole c.args.volume c.args.bytes.now c.loop-rest.lines.items c.loop-rest.rest.now c.loop-rest.invariant
    (none_if (length c.loop-rest.rest.now) c.is_empty.result c.is_empty.ensures c.loop-rest-test.false)
    (let some = some_if (vec_len c.loop-rest.lines) c.is_empty-2.result c.is_empty-2.ensures c.if-is_empty.false in
    omega (arith, some, c.loop-rest.lines.ok.0))

pub returns-clause-fit : goal.returns-clause-fit
returns-clause-fit c =
    (is_whole c.args.volume c.args.bytes.now c.loop-rest.lines.items c.loop-rest.rest.now c.loop-rest.invariant
    (none_if (length c.loop-rest.rest.now) c.is_empty.result c.is_empty.ensures c.loop-rest-test.false)
    (let some = some_if (vec_len c.loop-rest.lines) c.is_empty-2.result c.is_empty-2.ensures c.if-is_empty.false in
    omega (arith, some, c.loop-rest.lines.ok.0))).fit
