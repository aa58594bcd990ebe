use Rattle.warc_reader.proofs.InTurn.{given_all, given_more, given_none}
use Rattle.warc_reader.proofs.laws.imports_come_in_turn.Goals as goal

pub returns-clause-first : goal.returns-clause-first
returns-clause-first c = given_none

pub returns-clause-more : goal.returns-clause-more
returns-clause-more c = λ old new outcomes o given gives. (given_more old new outcomes o given gives).given

pub returns-clause-last : goal.returns-clause-last
returns-clause-last c = given_all
