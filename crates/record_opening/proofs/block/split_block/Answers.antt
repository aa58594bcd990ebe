-- Which blocks may stand behind an opening.
use Rattle.std.proofs.Common.{◌≡◌, ℕ, ◌-◌, List, ◌++◌, length, length-append, drop, take, arith, sym, ap, ◌∙◌}
use Rattle.std.proofs.lemmas.List.{take-append-drop}
use Rattle.warc_text.specs.Lines.{record_end}
use Rattle.record_opening.specs.BlockParts.{AsksForBlock, RefusesBlock}
use Rattle.record_opening.proofs.BlockStops.{asks_for_closing, asks_for_length, ends_inside_block, has_block, length-told, length-whole, no_length, other_closing, telling, too_long, until}
use Rattle.record_opening.proofs.Exits.{at_exit}
use Rattle.record_opening.proofs.block.split_block.Goals as goal

-- what stands before a place and from it on
parts : (n : ℕ) (bytes behind : List ℕ) → behind ≡ drop n bytes → bytes ≡ take n bytes ++ behind
parts n bytes behind e = sym (take-append-drop n bytes) ∙ ap (λ t. take n bytes ++ t) (sym e)

-- and its two halves
halves : (n : ℕ) (bytes front behind : List ℕ) → front ≡ take n bytes → behind ≡ drop n bytes → bytes ≡ front ++ behind
halves n bytes front behind e₁ e₂ = parts n bytes behind e₂ ∙ ap (λ t. t ++ behind) (sym e₁)

pub returns-in_err-told-clause-err : goal.returns-in_err-told-clause-err
returns-in_err-told-clause-err c =
    let opening = take c.args.opening_len c.args.bytes.now in
    at_exit (λ s. RefusesBlock s opening c.args.bytes.now) _ c.from_residual.result c.from_residual.ensures.1
    (no_length opening c.args.bytes.now c.split_at.result.1.now _
    (parts c.args.opening_len c.args.bytes.now c.split_at.result.1.now c.split_at.ensures.back) c.in_err-told.ensures.err)

pub returns-in_err-told-clause-asks : goal.returns-in_err-told-clause-asks
returns-in_err-told-clause-asks c =
    let opening = take c.args.opening_len c.args.bytes.now in
    at_exit (λ s. AsksForBlock opening c.args.bytes.now s) _ c.from_residual.result c.from_residual.ensures.1
    (asks_for_length opening c.args.bytes.now c.split_at.result.1.now _
    (parts c.args.opening_len c.args.bytes.now c.split_at.result.1.now c.split_at.ensures.back) c.in_err-told.ensures.err)

pub returns-in_default-clause-err : goal.returns-in_default-clause-err
returns-in_default-clause-err c =
    let opening = take c.args.opening_len c.args.bytes.now in
    let read = telling opening c.args.bytes.now c.split_at.result.1.now c.in_ok-told.come.now c.in_ok-told.told c.in_ok-told.ensures.ok.0
    (parts c.args.opening_len c.args.bytes.now c.split_at.result.1.now c.split_at.ensures.back) c.in_ok-told.ensures.ok.1 in
    too_long opening c.args.bytes.now c.in_ok-told.come.now c.in_ok-told.told read
    (length c.args.bytes.now - length c.in_ok-told.come.now) (omega (arith, length-told opening c.args.bytes.now c.in_ok-told.come.now c.in_ok-told.told read)) c.in_default.ensures.none

pub returns-then-bytes-end-clause-err : goal.returns-then-bytes-end-clause-err
returns-then-bytes-end-clause-err c =
    let opening = take c.args.opening_len c.args.bytes.now in
    let read = telling opening c.args.bytes.now c.split_at.result.1.now c.in_ok-told.come.now c.in_ok-told.told c.in_ok-told.ensures.ok.0
    (parts c.args.opening_len c.args.bytes.now c.split_at.result.1.now c.split_at.ensures.back) c.in_ok-told.ensures.ok.1 in
    until opening c.args.bytes.now c.in_ok-told.come.now c.in_ok-told.told read
    (length c.args.bytes.now - length c.in_ok-told.come.now) c.in-Some.end
    (omega (arith, length-told opening c.args.bytes.now c.in_ok-told.come.now c.in_ok-told.told read)) c.in-Some.ensures.some.0 (omega arith)

pub returns-then-bytes-end-clause-asks : goal.returns-then-bytes-end-clause-asks
returns-then-bytes-end-clause-asks c =
    let opening = take c.args.opening_len c.args.bytes.now in
    let read = telling opening c.args.bytes.now c.split_at.result.1.now c.in_ok-told.come.now c.in_ok-told.told c.in_ok-told.ensures.ok.0
    (parts c.args.opening_len c.args.bytes.now c.split_at.result.1.now c.split_at.ensures.back) c.in_ok-told.ensures.ok.1 in
    ends_inside_block opening c.args.bytes.now c.in_ok-told.come.now c.in_ok-told.told read
    (length c.args.bytes.now - length c.in_ok-told.come.now) c.in-Some.end
    (omega (arith, length-told opening c.args.bytes.now c.in_ok-told.come.now c.in_ok-told.told read)) c.in-Some.ensures.some.0 (omega arith) c.in-Some.ensures.some.1

pub returns-in_err-rest-clause-err : goal.returns-in_err-rest-clause-err
unfolding record_end
returns-in_err-rest-clause-err c =
    let opening = take c.args.opening_len c.args.bytes.now in
    let read = telling opening c.args.bytes.now c.split_at.result.1.now c.in_ok-told.come.now c.in_ok-told.told c.in_ok-told.ensures.ok.0
    (parts c.args.opening_len c.args.bytes.now c.split_at.result.1.now c.split_at.ensures.back) c.in_ok-told.ensures.ok.1 in
    at_exit (λ s. RefusesBlock s opening c.args.bytes.now) _ c.from_residual-in_err-rest.result c.from_residual-in_err-rest.ensures.1
    (other_closing opening c.args.bytes.now c.in_ok-told.come.now c.in_ok-told.told read c.split_at-2.result.0.now c.split_at-2.result.1.now
    (halves c.in_ok-told.told c.in_ok-told.come.now c.split_at-2.result.0.now c.split_at-2.result.1.now c.split_at-2.ensures.front c.split_at-2.ensures.back)
    c.split_at-2.ensures.front_len _ c.in_err-rest.ensures.err)

pub returns-in_err-rest-clause-asks : goal.returns-in_err-rest-clause-asks
unfolding record_end
returns-in_err-rest-clause-asks c =
    let opening = take c.args.opening_len c.args.bytes.now in
    let read = telling opening c.args.bytes.now c.split_at.result.1.now c.in_ok-told.come.now c.in_ok-told.told c.in_ok-told.ensures.ok.0
    (parts c.args.opening_len c.args.bytes.now c.split_at.result.1.now c.split_at.ensures.back) c.in_ok-told.ensures.ok.1 in
    at_exit (λ s. AsksForBlock opening c.args.bytes.now s) _ c.from_residual-in_err-rest.result c.from_residual-in_err-rest.ensures.1
    (asks_for_closing opening c.args.bytes.now c.split_at-2.result.1.now _
    (omega (
      arith,
      length-told opening c.args.bytes.now c.in_ok-told.come.now c.in_ok-told.told read,
      c.in-Some.ensures.some.0,
      ap length (halves c.in_ok-told.told c.in_ok-told.come.now c.split_at-2.result.0.now c.split_at-2.result.1.now c.split_at-2.ensures.front c.split_at-2.ensures.back),
      length-append c.split_at-2.result.0.now c.split_at-2.result.1.now,
      c.split_at-2.ensures.front_len,
    ))
    c.in_err-rest.ensures.err)

pub returns-clause-ok : goal.returns-clause-ok
unfolding record_end
returns-clause-ok c =
    let opening = take c.args.opening_len c.args.bytes.now in
    let read = telling opening c.args.bytes.now c.split_at.result.1.now c.in_ok-told.come.now c.in_ok-told.told c.in_ok-told.ensures.ok.0
    (parts c.args.opening_len c.args.bytes.now c.split_at.result.1.now c.split_at.ensures.back) c.in_ok-told.ensures.ok.1 in
    let long = length-whole opening c.args.bytes.now c.in_ok-told.come.now c.in_ok-told.told read c.split_at-2.result.0.now (sym c.split_at-2.ensures.front_len) in
    record {
      composed = has_block opening c.args.bytes.now c.in_ok-told.come.now c.in_ok-told.told read c.split_at-2.result.0.now c.split_at-2.result.1.now
          (halves c.in_ok-told.told c.in_ok-told.come.now c.split_at-2.result.0.now c.split_at-2.result.1.now c.split_at-2.ensures.front c.split_at-2.ensures.back)
          c.split_at-2.ensures.front_len c.in_ok-rest.rest.now c.in_ok-rest.ensures.ok;
      short = omega (arith, long, length-told opening c.args.bytes.now c.in_ok-told.come.now c.in_ok-told.told read, c.in-Some.ensures.some.0, c.in-Some.ensures.some.1);
    }
