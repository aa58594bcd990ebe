use Rattle.std.proofs.Common.{rules}
use Rattle.link_queue.proofs.Keeps.{cuts}
use Rattle.link_queue.proofs.ledger.Ledger.cut.Goals as goal

pub split_seat-cut-requires : goal.split_seat-cut-requires
split_seat-cut-requires g c = (search rules, search rules, cuts _ _ (search rules))
