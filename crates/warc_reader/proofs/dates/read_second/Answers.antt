use Rattle.std.proofs.Common.{◌++◌, ◌∷◌, [], ap}
use Rattle.warc_reader.proofs.DateTextLaws.{second_read}
use Rattle.warc_reader.proofs.dates.read_second.Goals as goal

pub returns-in-Ok-clause-some : goal.returns-in-Ok-clause-some
returns-in-Ok-clause-some c =
    second_read c.args.front.now (c.copy_from_slice.new.self ++ 90 ∷ []) c.in-Ok.second c.requires
    (ap (λ t. t ++ 90 ∷ []) c.copy_from_slice.ensures.after) c.in-Ok.ensures.read.0 c.in-Ok.ensures.read.1
