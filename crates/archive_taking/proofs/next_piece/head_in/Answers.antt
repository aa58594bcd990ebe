use Rattle.std.proofs.Common.{ℕ, List, ◌++◌, length, ap, ◌∙◌, arith, length-append}
use Rattle.std.specs.Prelude.{take}
use Rattle.archive_taking.proofs.PieceReadyLaws.{from_head, head_stands, head_there}
use Rattle.archive_taking.proofs.next_piece.head_in.Goals as goal

pub split_at-requires : goal.split_at-requires
split_at-requires c =
    let group = c.args.group.now in
    let stands = head_stands c.requires.namespace c.requires.number c.args.text.now group c.requires.is in
    omega (
      arith,
      ap (λ (l : List ℕ). length l) stands.composed,
      length-append stands.front (group.stored.head ++ stands.rest),
      stands.at,
    )

pub split_at-requires-2 : goal.split_at-requires-2
split_at-requires-2 c =
    let group = c.args.group.now in
    let stands = head_stands c.requires.namespace c.requires.number c.args.text.now group c.requires.is in
    omega (
      arith,
      ap (λ (l : List ℕ). length l) (c.split_at.ensures.back ∙ from_head c.args.text.now group stands),
      length-append group.stored.head stands.rest,
      ap (λ (l : List ℕ). length l) c.as_slice.ensures,
    )

pub returns : goal.returns
returns c =
    let group = c.args.group.now in
    let stands = head_stands c.requires.namespace c.requires.number c.args.text.now group c.requires.is in
    c.split_at-2.ensures.front
    ∙ ap (λ (l : List ℕ). take (length l) c.split_at.result.1.now) c.as_slice.ensures
    ∙ ap (λ (l : List ℕ). take (length group.stored.head) l) c.split_at.ensures.back
    ∙ head_there c.args.text.now group stands
