use Rattle.std.proofs.Common.{◌≡◌, None, ◌+◌, ◌++◌, List, ℕ, drop, sym, ap, subst, ◌∙◌}
use Rattle.std.proofs.lemmas.List.{drop-drop}
use Rattle.capture.specs.Head.{section_len}
use Rattle.capture.specs.Payload.{IsJoined, IsCutJoined}
use Rattle.httparse.specs.Spans.{span_bytes}
use Rattle.message_body.specs.steps.Decoding.{IsTrailerSeen}
use Rattle.http_head.specs.Sections.{IsSection}
use Rattle.message_body.specs.declared.decode.TrailerSeen.TheVariants.{Wrong}
use Rattle.message_body.proofs.DecodeLaws.{Decodes, decodes_further, whole_at_last, cut_at_last, neither_at_last, cut_at_end}
use Rattle.message_body.proofs.decode.decode.Goals as goal

pub chunks-preserved : goal.chunks-preserved
chunks-preserved c =
    let wire : List ℕ = c.args.wire.now in
    let rest : List ℕ = c.chunks.rest.now in
    let behind : drop (c.in-Piece.span.end + 2) rest ≡ c.split_at-in-Piece.result.1.now =
    sym (drop-drop 2 c.in-Piece.span.end rest) ∙ ap (drop 2) (sym c.split_at.ensures.back)
    ∙ sym c.split_at-in-Piece.ensures.back in
    let data_is : c.chunks.payload.items ++ span_bytes rest c.in-Piece.span ≡ c.extend_from_slice.new.self.items =
    ap (λ s. c.chunks.payload.items ++ s) (sym c.of.ensures) ∙ sym c.in_ok-extend_from_slice-in-Piece.ensures.items in
    subst (λ r. Decodes wire c.extend_from_slice.new.self.items r) behind
    (subst (λ p. Decodes wire p (drop (c.in-Piece.span.end + 2) rest)) data_is
    (decodes_further wire c.chunks.payload.items rest c.in-Piece.span c.chunks.invariant c.in-Piece.ensures))

pub returns-in-Whole : goal.returns-in-Whole
returns-in-Whole c =
    let seen = rw c.in-Whole.is at c.in_ok-trailer_of-in-Last.ensures in
    subst (IsJoined c.args.wire.now) (sym c.of-in-Whole.ensures)
    (whole_at_last c.args.wire.now c.chunks.payload.items c.chunks.rest.now c.in-Last.start c.chunks.invariant c.in-Last.ensures
    (subst IsSection c.split_at-in-Last.ensures.back seen))

pub returns-in-Open : goal.returns-in-Open
returns-in-Open c =
    let seen = rw c.in-Open.is at c.in_ok-trailer_of-in-Last.ensures in
    subst (IsCutJoined c.args.wire.now) (sym c.of-in-Open.ensures)
    (cut_at_last c.args.wire.now c.chunks.payload.items c.chunks.rest.now c.in-Last.start c.chunks.invariant c.in-Last.ensures
    (subst (λ s. section_len s ≡ None) c.split_at-in-Last.ensures.back seen))

pub returns-in-Wrong : goal.returns-in-Wrong
returns-in-Wrong c =
    let seen = rw c.in-Wrong.is at c.in_ok-trailer_of-in-Last.ensures in
    let there = subst (λ s. IsTrailerSeen s Wrong) c.split_at-in-Last.ensures.back seen in
    neither_at_last c.args.wire.now c.chunks.payload.items c.chunks.rest.now c.in-Last.start c.chunks.invariant c.in-Last.ensures
    there.0 there.1

pub returns-in-Cut : goal.returns-in-Cut
returns-in-Cut c =
    let data_is : c.chunks.payload.items ++ span_bytes c.chunks.rest.now c.in-Cut.span ≡ c.of-in-Cut.result =
    ap (λ s. c.chunks.payload.items ++ s) (sym c.of-come.ensures) ∙ sym c.in_ok-extend_from_slice-in-Cut.ensures.items
    ∙ sym c.of-in-Cut.ensures in
    subst (IsCutJoined c.args.wire.now) data_is
    (cut_at_end c.args.wire.now c.chunks.payload.items c.chunks.rest.now c.in-Cut.span c.chunks.invariant c.in-Cut.ensures)
