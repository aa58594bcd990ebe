use Rattle.std.proofs.Common.{◌∙◌}
use Rattle.message_body.proofs.InPlaceLaws.{chunk_goes_on, cut_is_gathered, last_is_gathered}
use Rattle.message_body.proofs.in_place.gather.Goals as goal

pub chunks-preserved : goal.chunks-preserved
chunks-preserved c = record {
  goes = chunk_goes_on c.args.bytes.now c.chunks.bytes c.move_forward.new.bytes c.split_at.result.1.now c.chunks.len c.chunks.at c.in-Piece.span
      c.chunks.invariant.goes c.split_at.ensures.back c.in-Piece.ensures c.move_forward.ensures.front c.move_forward.ensures.behind
      c.move_forward.ensures.len;
  long = c.move_forward.ensures.len ∙ c.chunks.invariant.long;
}

pub returns-in-Last-clause-gathered : goal.returns-in-Last-clause-gathered
returns-in-Last-clause-gathered c =
    last_is_gathered c.args.bytes.now c.chunks.bytes c.split_at.result.1.now c.chunks.len c.chunks.at c.in-Last.start
    c.chunks.invariant.goes c.split_at.ensures.back c.in-Last.ensures

pub returns-in-Cut-clause-gathered : goal.returns-in-Cut-clause-gathered
returns-in-Cut-clause-gathered c =
    cut_is_gathered c.args.bytes.now c.chunks.bytes c.move_forward-in-Cut.new.bytes c.split_at.result.1.now c.chunks.len c.chunks.at c.in-Cut.span
    c.chunks.invariant.goes c.split_at.ensures.back c.in-Cut.ensures c.move_forward-in-Cut.ensures.front
