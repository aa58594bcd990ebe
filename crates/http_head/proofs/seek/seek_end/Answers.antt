use Rattle.std.proofs.Common.{◌∙◌, arith, rules}
use Rattle.http_head.proofs.SeekLaws.{sought_further, going_further, going_at_less}
use Rattle.http_head.proofs.seek.seek_end.Goals as goal

pub returns-then-eq-clause-seek : goal.returns-then-eq-clause-seek
returns-then-eq-clause-seek c =
    sought_further c.args.start c.seeking.seek _ c.args.piece.now _ c.seeking.used _ c.seeking.invariant.seek
    c.split_at.ensures.back c.seek_on-found.ensures.seek

pub returns-then-eq-clause-soonest : goal.returns-then-eq-clause-soonest
returns-then-eq-clause-soonest c =
    going_further c.args.start c.seeking.seek c.args.piece.now _ c.seeking.used _ c.seeking.invariant.seek
    c.split_at.ensures.back c.seek_on-found.ensures.some c.seek_on-found.ensures.soonest

pub seeking-preserved : goal.seeking-preserved
seeking-preserved c = record {
  fits = search rules;
  seek =
      sought_further c.args.start c.seeking.seek _ c.args.piece.now _ c.seeking.used _ c.seeking.invariant.seek
      c.split_at.ensures.back c.seek_on-found.ensures.seek;
  going = search rules;
}

pub returns-clause-soonest : goal.returns-clause-soonest
returns-clause-soonest c =
    going_at_less c.args.start c.args.piece.now _ c.seeking.used (omega arith)
    (λ e. c.seeking.invariant.going (c.seeking.invariant.seek ∙ e))
