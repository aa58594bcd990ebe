use Rattle.std.proofs.lemmas.Result.{on_ok_weaker}
use Rattle.cdxj_line.specs.Parts.{line_of}
use Rattle.cdxj_line.proofs.Objects.{object_put}
use Rattle.cdxj_line.proofs.object.put_object.Goals as goal

pub returns : goal.returns
returns c =
    on_ok_weaker c.put_last.result (λ last.
    object_put c.args.further (line_of c.args.parts.now) c.args.out.now.items c.put_first.new.out.items c.put_numbers.new.out.items c.put_last.new.out.items
    c.in_ok-put_first.ensures c.in_ok-put_numbers.ensures last)
    c.put_last.ensures
