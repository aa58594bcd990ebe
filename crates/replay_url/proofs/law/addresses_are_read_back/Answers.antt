use Rattle.replay_url.proofs.ReadBackLaws.{read_back}
use Rattle.replay_url.proofs.law.addresses_are_read_back.Goals as goal

pub returns : goal.returns
returns c = read_back c.texts_have_no_blanks.ensures.digits
