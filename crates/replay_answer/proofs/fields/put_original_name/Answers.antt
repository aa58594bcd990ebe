use Rattle.std.proofs.Common.{◌++◌, ◌∙◌, codes, ap, append_assoc}
use Rattle.std.proofs.lemmas.Result.{on_ok_weaker}
use Rattle.replay_answer.specs.StoredFields.{original_name}
use Rattle.replay_answer.proofs.fields.put_original_name.Goals as goal

pub returns : goal.returns
unfolding original_name
returns c =
    let name = c.args.name.now in
    on_ok_weaker c.put_all-2.result (λ e. e ∙ ap (λ t. t ++ name) c.in_ok-put_all.ensures ∙ append_assoc c.args.out.now.items (codes "X-Archive-Orig-") name) c.put_all-2.ensures
