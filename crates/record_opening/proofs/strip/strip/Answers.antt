use Rattle.std.proofs.Common.{sym, ◌∙◌, arith}
use Rattle.std.proofs.lemmas.Bool.{false≢true}
use Rattle.std.proofs.lemmas.Slice.Eq.{bytes_eq-Decides}
use Rattle.record_opening.proofs.Refusals.{differs_open, differs_wrong, other_front, other_text}
use Rattle.record_opening.proofs.strip.strip.Goals as goal

pub returns-then-eq-clause-err : goal.returns-then-eq-clause-err
returns-then-eq-clause-err c =
    let bytes = c.args.bytes.now in
    differs_open bytes c.args.text.now (omega arith)
    (sym c.split_at.ensures.front ∙ (bytes_eq-Decides c.split_at.result.0.now bytes).0 (sym c.if-eq.ensures))

pub returns-then-bytes-text-clause-err : goal.returns-then-bytes-text-clause-err
returns-then-bytes-text-clause-err c =
    let bytes = c.args.bytes.now in
    differs_wrong bytes c.args.text.now (other_front bytes c.args.text.now (omega arith)
    (λ e. false≢true (c.if-eq.ensures ∙ (bytes_eq-Decides c.split_at.result.0.now bytes).1 (c.split_at.ensures.front ∙ e))))

pub returns-else-eq-2-clause-err : goal.returns-else-eq-2-clause-err
returns-else-eq-2-clause-err c =
    let text = c.args.text.now in
    differs_wrong c.args.bytes.now text (other_text c.args.bytes.now text (omega arith)
    (λ e. false≢true (c.if-eq-2.ensures ∙ (bytes_eq-Decides c.split_at-2.result.0.now text).1 (c.split_at-2.ensures.front ∙ e))))
