use Rattle.std.proofs.Common.{◌≡◌, ◌+◌, List, ℕ, Bool, drop, sym, ap, subst, ◌∙◌}
use Rattle.std.proofs.lemmas.List.{drop-drop}
use Rattle.message_body.specs.Slices.{LeavesBehind}
use Rattle.message_body.proofs.SliceLaws.{chunk_leaves, end_leaves, last_left, none_left_at_last}
use Rattle.message_body.proofs.slices.Slices.next_chunk.Goals as goal

pub returns-in-Piece-clause-front : goal.returns-in-Piece-clause-front
returns-in-Piece-clause-front c left is =
    let rest : List ℕ = c.args.rest.now in
    let behind : c.split_at-in-Piece.result.1.now ≡ drop (c.in-Piece.span.end + 2) rest =
    c.split_at-in-Piece.ensures.back ∙ ap (drop 2) c.split_at.ensures.back ∙ drop-drop 2 c.in-Piece.span.end rest in
    chunk_leaves rest c.of.result.now c.split_at-in-Piece.result.1.now left c.in-Piece.span c.in-Piece.ensures c.of.ensures behind is

pub returns-in-Last-clause-front : goal.returns-in-Last-clause-front
returns-in-Last-clause-front c left is =
    subst (λ (b : Bool). LeavesBehind left c.end.result.now b c.end.new.self.rest.now) (sym c.end.ensures.chunked)
    (end_leaves c.end.result.now c.end.new.self.rest.now left
    (none_left_at_last c.args.rest.now c.in-Last.field-0 left c.in-Last.ensures is ∙ sym c.end.ensures.none) c.end.ensures.rest)

pub returns-in-Cut-clause-front : goal.returns-in-Cut-clause-front
returns-in-Cut-clause-front c left is =
    subst (λ (b : Bool). LeavesBehind left c.of-in-Cut.result.now b c.end-none.new.self.rest.now) (sym c.end-none.ensures.chunked)
    (end_leaves c.of-in-Cut.result.now c.end-none.new.self.rest.now left
    (last_left c.args.rest.now c.in-Cut.span left c.in-Cut.ensures is ∙ sym c.of-in-Cut.ensures) c.end-none.ensures.rest)
