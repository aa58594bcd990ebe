use Rattle.std.proofs.Common.{sym, ◌∙◌}
use Rattle.time_text.proofs.BlankLemmas.{trim_end-blank, trim_end-other, trim_end-nil}
use Rattle.time_text.proofs.http.without_last_blanks.Goals as goal

pub back-preserved : goal.back-preserved
back-preserved c =
    trim_end-blank c.back.text.now c.in-Some.last.now c.in-Some.rest.now c.in-Some.ensures.cases.0 (sym c.is_blank.ensures ∙ c.if-not-is_blank.false) ∙ c.back.invariant

pub returns-then-not-is_blank : goal.returns-then-not-is_blank
returns-then-not-is_blank c =
    sym (trim_end-other c.back.text.now c.in-Some.last.now c.in-Some.rest.now c.in-Some.ensures.cases.0 (sym c.is_blank.ensures ∙ c.if-not-is_blank.true)) ∙ c.back.invariant

pub returns : goal.returns
returns c = sym (trim_end-nil c.back.text.now c.in_default.ensures.cases) ∙ c.back.invariant
