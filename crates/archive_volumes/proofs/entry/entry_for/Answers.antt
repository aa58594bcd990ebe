use Rattle.std.proofs.Common.{◌≡◌, List, ℕ, sym, ap, ◌∙◌, subst}
use Rattle.std.specs.Prelude.{IfOk}
use Rattle.httparse.proofs.GrammarLemmas.{response_unique}
use Rattle.httparse.specs.Grammar as grammar
use Rattle.archive_volumes.specs.Entries.{EntersAs}
use Rattle.archive_volumes.specs.Held.{stored_in}
use Rattle.archive_volumes.specs.Spots.{is_same_form}
use Rattle.archive_volumes.specs.declared.spot.Spot.{Spot}
use Rattle.archive_volumes.proofs.entry.entry_for.Goals as goal

pub returns-in-Ok : goal.returns-in-Ok
returns-in-Ok c h is =
    let text : List ℕ = c.args.head.now in
    let found = c.in-Ok.ensures.ok in
    let same : found.0 ≡ h = (response_unique text found.0 h _ _ found.1.reads.reads is.reads).0 in
    let kept = c.requires.kept in
    subst (λ (k : grammar.ResponseHead). IfOk c.entry_by.result (EntersAs (stored_in c.args.ready.now.stored) k c.args.at)) same
    (c.entry_by.ensures (stored_in c.args.ready.now.stored) text found.0
    (record {
      method_is = sym (c.as_slice.ensures.value ∙ ap (λ (s : Spot). s.method) kept);
      uri_is = sym (ap (λ (s : Spot). s.uri) kept);
      date_is = sym (ap (λ (s : Spot). s.date) kept);
      revisit_is = c.is_same.ensures ∙ ap (λ (s : Spot). is_same_form s.form) kept;
    }) found.1)
