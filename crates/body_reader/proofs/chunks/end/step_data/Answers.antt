use Rattle.std.proofs.Common.{arith, rules}
use Rattle.body_reader.proofs.ChunkEndSteps.{data_goes_on_at, data_ends_at, some_left_at}
use Rattle.body_reader.proofs.chunks.end.step_data.Goals as goal

pub returns-then-rest-left : goal.returns-then-rest-left
returns-then-rest-left c = record {
  stands = data_goes_on_at c.args.text.now c.args.at c.args.left c.requires.inside c.requires.stands c.if-rest-left.true;
  going = search rules;
  further = c.requires.inside;
  fits = omega arith;
}

pub returns : goal.returns
returns c =
    let some = some_left_at c.args.text.now c.args.at c.args.left c.requires.stands in
    record {
      stands = data_ends_at c.args.text.now c.args.at c.args.left (omega arith) c.requires.stands;
      going = search rules;
      further = omega arith;
      fits = omega arith;
    }
