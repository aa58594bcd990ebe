-- The first closer, or the end.
use Rattle.std.proofs.Common.{◌≡◌, ◌∙◌, ◌+◌, ◌==◌, not, true, false, ap, sym, arith, get_or, drop}
use Rattle.std.specs.List.{prefix_len}
use Rattle.std.proofs.lemmas.List.{length-drop, take_rest}
use Rattle.std.proofs.lemmas.List.Sums.{prefix_len-le-length}
use Rattle.html_rewrite.specs.Bytes.{begins_with}
use Rattle.html_rewrite.proofs.FirstBytes.{closer_first, passed, passed_next}
use Rattle.html_rewrite.proofs.Places.{up_to_here, up_to_end}
use Rattle.html_rewrite.proofs.through.len_before.Goals as goal

pub places-init : goal.places-init
places-init c =
    let closer = c.args.closer.now in
    (c.place_of-len.ensures.within, λ k h. passed (get_or closer 0 0) (begins_with closer) c.args.text.now k (closer_first closer c.requires) (omega (arith, h, c.place_of-len.ensures.value)))

pub places-preserved : goal.places-preserved
places-preserved c =
    let closer = c.args.closer.now in
    let text = c.args.text.now in
    let len = c.places.len in
    let first = get_or closer 0 0 in
    let here : begins_with closer (drop len text) ≡ false = ap (begins_with closer) (sym (take_rest text len)) ∙ sym c.starts_with.ensures.value ∙ c.if-not-starts_with.true in
    let more : c.place_of-len-in-places.result ≡ prefix_len (λ b. not (b == first)) (drop (len + 1) text) = c.place_of-len-in-places.ensures.value ∙ ap (prefix_len (λ b. not (b == first))) (take_rest text (len + 1)) in
    (omega (arith, more, prefix_len-le-length (λ b. not (b == first)) (drop (len + 1) text), length-drop (len + 1) text, c.places-test.true), passed_next first (begins_with closer) text len c.place_of-len-in-places.result (closer_first closer c.requires) c.places.invariant.1 here more)

pub returns-else-not-starts_with-clause-front : goal.returns-else-not-starts_with-clause-front
returns-else-not-starts_with-clause-front c =
    let here : begins_with c.args.closer.now (drop c.places.len c.args.text.now) ≡ true = ap (begins_with c.args.closer.now) (sym (take_rest c.args.text.now c.places.len)) ∙ sym c.starts_with.ensures.value ∙ c.if-not-starts_with.false in
    up_to_here (begins_with c.args.closer.now) c.places.len c.args.text.now c.places.invariant.0 c.places.invariant.1 here

pub returns-after-places-clause-front : goal.returns-after-places-clause-front
returns-after-places-clause-front c =
    up_to_end (begins_with c.args.closer.now) c.places.len c.args.text.now c.places.invariant.0 c.places.invariant.1 c.places-test.false
