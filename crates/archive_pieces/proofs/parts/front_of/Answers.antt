use Rattle.std.proofs.Common.{sym, ◌∙◌}
use mathlib.Core.Bool.{true≢false}
use Rattle.std.proofs.lemmas.Slice.Eq.{bytes_eq-Decides}
use Rattle.archive_pieces.proofs.PieceReading.{no_front_damaged, no_front_end, no_front_other, no_front_tail}
use Rattle.archive_pieces.proofs.parts.front_of.Goals as goal

pub returns-in-End-clause-none : goal.returns-in-End-clause-none
returns-in-End-clause-none c uuid = no_front_end c.args.namespace.now c.args.volume c.args.bytes.now c.in-End.ensures.tells

pub returns-in-Unfinished-clause-none : goal.returns-in-Unfinished-clause-none
returns-in-Unfinished-clause-none c uuid = no_front_tail c.args.namespace.now c.args.volume c.args.bytes.now c.in-Unfinished.ensures.tells

pub returns-in-Damaged-clause-none : goal.returns-in-Damaged-clause-none
returns-in-Damaged-clause-none c uuid = no_front_damaged c.args.namespace.now c.args.volume c.args.bytes.now uuid c.in-Damaged.ensures.tells.1

pub returns-else-eq-clause-none : goal.returns-else-eq-clause-none
returns-else-eq-clause-none c uuid =
    no_front_other c.args.namespace.now c.args.volume c.args.bytes.now uuid c.in-Info.own c.in-Info.born c.in-Info.len c.in-Info.ensures.tells
    (λ same. true≢false (sym ((bytes_eq-Decides c.in-Info.own c.args.namespace.now).1 same) ∙ (sym c.eq.ensures ∙ c.if-eq.false)))
