use Rattle.std.proofs.Common.{◌≡◌, ℕ, List, length, sym, subst, ◌∙◌}
use Rattle.std.proofs.lemmas.Bool.{false≢true}
use Rattle.std.proofs.lemmas.Slice.Eq.{bytes_eq-Decides}
use Rattle.fixity.specs.Verdicts.{InfoEndsAt}
use Rattle.fixity.proofs.Judging.{info_is_read, info_there, no_info_at_end, no_info_at_tail, no_info_there, other_info_there}
use Rattle.fixity.proofs.info.info_end.Goals as goal

pub returns-in-End-clause-info : goal.returns-in-End-clause-info
returns-in-End-clause-info c = λ rest long same.
    no_info_at_end c.args.bytes.now rest c.args.room long same c.args.volume c.in-End.ensures.tells c.args.namespace.now

pub returns-in-Unfinished-clause-info : goal.returns-in-Unfinished-clause-info
returns-in-Unfinished-clause-info c = λ rest long same.
    no_info_at_tail c.args.bytes.now rest c.args.room long same c.args.volume c.in-Unfinished.ensures.tells c.args.namespace.now

pub returns-in-Damaged-clause-info : goal.returns-in-Damaged-clause-info
returns-in-Damaged-clause-info c = λ rest long same.
    no_info_there c.args.bytes.now rest c.args.room long same c.args.volume c.in-Damaged.ensures.tells.1 c.args.namespace.now

pub returns-in-Need-clause-info : goal.returns-in-Need-clause-info
returns-in-Need-clause-info c = λ rest long same.
    absurd (info_is_read (length c.args.bytes.now) c.args.room _ c.in-Need.ensures.tells.0 c.requires.enough c.in-Need.ensures.tells.1 c.in-Need.ensures.little)

pub returns-then-eq-clause-info : goal.returns-then-eq-clause-info
returns-then-eq-clause-info c = λ rest long same.
    let found : c.in-Info.found ≡ c.args.namespace.now = (bytes_eq-Decides c.in-Info.found c.args.namespace.now).0 (sym c.if-eq.ensures) in
    subst (λ (n : List ℕ). InfoEndsAt c.args.volume n rest c.in-Info.len) found
    (info_there c.args.bytes.now rest c.args.room long same c.args.volume c.in-Info.found c.in-Info.born c.in-Info.len c.in-Info.ensures.tells)

pub returns-else-eq-clause-info : goal.returns-else-eq-clause-info
returns-else-eq-clause-info c = λ rest long same.
    other_info_there c.args.bytes.now rest c.args.room long same c.args.volume c.in-Info.found c.args.namespace.now c.in-Info.born c.in-Info.len c.in-Info.ensures.tells
    (λ e. false≢true (c.if-eq.ensures ∙ (bytes_eq-Decides c.in-Info.found c.args.namespace.now).1 e))
