-- At the end each piece is written.
use Rattle.surt_key.proofs.Joined.{join_with_byte-written}
use Rattle.surt_key.proofs.pieces.put_joined.Goals as goal

pub returns : goal.returns
returns c = join_with_byte-written c.args.delimiter c.loop-piece.piece-index c.args.pieces.now _ c.args.out.now.items c.put_all.new.out.items c.loop-piece.out.items c.in-len1-up.len_at_least c.loop-piece-test.false c.in_ok-put_all.ensures c.loop-piece.invariant
