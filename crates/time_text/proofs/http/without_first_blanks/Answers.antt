use Rattle.std.proofs.Common.{sym, ◌∙◌}
use Rattle.time_text.proofs.BlankLemmas.{trim_start-blank, trim_start-other, trim_start-nil}
use Rattle.time_text.proofs.http.without_first_blanks.Goals as goal

pub front-preserved : goal.front-preserved
front-preserved c =
    trim_start-blank c.front.text.now c.in-Some.first.now c.in-Some.rest.now c.in-Some.ensures.cases.0 (sym c.is_blank.ensures ∙ c.if-not-is_blank.false) ∙ c.front.invariant

pub returns-then-not-is_blank : goal.returns-then-not-is_blank
returns-then-not-is_blank c =
    sym (trim_start-other c.front.text.now c.in-Some.first.now c.in-Some.rest.now c.in-Some.ensures.cases.0 (sym c.is_blank.ensures ∙ c.if-not-is_blank.true)) ∙ c.front.invariant

pub returns : goal.returns
returns c = sym (trim_start-nil c.front.text.now c.in_default.ensures.cases) ∙ c.front.invariant
