-- The first end tag, or the end.
use Rattle.std.proofs.Common.{◌≡◌, ◌∙◌, ◌+◌, ◌==◌, not, true, false, ap, sym, arith, drop}
use Rattle.std.specs.List.{prefix_len}
use Rattle.std.proofs.lemmas.List.{length-drop, take_rest}
use Rattle.std.proofs.lemmas.List.Sums.{prefix_len-le-length}
use Rattle.html_rewrite.specs.Bytes.{less}
use Rattle.html_rewrite.specs.Split.{ends_raw_text}
use Rattle.html_rewrite.proofs.FirstBytes.{end_tag_needs, passed, passed_next}
use Rattle.html_rewrite.proofs.Places.{up_to_here, up_to_end}
use Rattle.html_rewrite.proofs.raw_text.len_before_end_tag.Goals as goal

pub places-init : goal.places-init
places-init c =
    let element = c.args.element.now in
    (c.place_of-len.ensures.within, λ k h. passed less (ends_raw_text element) c.args.text.now k (end_tag_needs element) (omega (arith, h, c.place_of-len.ensures.value)))

pub places-preserved : goal.places-preserved
places-preserved c =
    let element = c.args.element.now in
    let text = c.args.text.now in
    let len = c.places.len in
    let here : ends_raw_text element (drop len text) ≡ false = ap (ends_raw_text element) (sym (take_rest text len)) ∙ sym c.is_end_tag.ensures ∙ c.if-not-is_end_tag.true in
    let more : c.place_of-len-in-places.result ≡ prefix_len (λ b. not (b == less)) (drop (len + 1) text) = c.place_of-len-in-places.ensures.value ∙ ap (prefix_len (λ b. not (b == less))) (take_rest text (len + 1)) in
    (omega (arith, more, prefix_len-le-length (λ b. not (b == less)) (drop (len + 1) text), length-drop (len + 1) text, c.places-test.true), passed_next less (ends_raw_text element) text len c.place_of-len-in-places.result (end_tag_needs element) c.places.invariant.1 here more)

pub returns-else-not-is_end_tag-clause-front : goal.returns-else-not-is_end_tag-clause-front
returns-else-not-is_end_tag-clause-front c =
    let here : ends_raw_text c.args.element.now (drop c.places.len c.args.text.now) ≡ true = ap (ends_raw_text c.args.element.now) (sym (take_rest c.args.text.now c.places.len)) ∙ sym c.is_end_tag.ensures ∙ c.if-not-is_end_tag.false in
    up_to_here (ends_raw_text c.args.element.now) c.places.len c.args.text.now c.places.invariant.0 c.places.invariant.1 here

pub returns-after-places-clause-front : goal.returns-after-places-clause-front
returns-after-places-clause-front c =
    up_to_end (ends_raw_text c.args.element.now) c.places.len c.args.text.now c.places.invariant.0 c.places.invariant.1 c.places-test.false
