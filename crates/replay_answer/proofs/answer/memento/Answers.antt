use Rattle.std.proofs.lemmas.Result.{IfOk-weaker}
use Rattle.replay_answer.proofs.MementoLemmas.{is_memento}
use Rattle.replay_answer.proofs.answer.memento.Goals as goal

pub returns : goal.returns
returns c =
    IfOk-weaker c.memento_with.result _ _ (λ text is. is_memento _ _ _ _ _ _ _ _ _ text c.in_ok-head.ensures c.as_slice.ensures c.in_ok-page.ensures c.body_in.ensures is)
    c.memento_with.ensures
