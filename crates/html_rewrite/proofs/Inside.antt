-- Reading the inside of a tag, attribute by attribute.
use Rattle.std.proofs.Common.{◌≡◌, ℕ, List, [], ◌∷◌, ◌++◌, length, take, drop, refl, sym, ◌∙◌, ap, subst, arith}
use Rattle.std.proofs.lemmas.List.{append_assoc, length-append, length-drop, take_at, drop_at}
use Rattle.std.specs.List.{flat_map, prefix_len}
use Rattle.html_rewrite.specs.declared.rewriter.Rewriter.{Rewriter}
use Rattle.html_rewrite.specs.Bytes.{greater, is_gap, IsRun}
use Rattle.html_rewrite.specs.Pieces.{replaced}
use Rattle.html_rewrite.specs.Tags.{Attribute, IsInside, inside_text}
use Rattle.html_rewrite.specs.Split.{attribute_pieces}
use Rattle.html_rewrite.specs.steps.Reading.{Closes, Earlier, HasInside, LacksInside, Later, LeadsOn, Passes, ReadsInside, ahead, done, grown}
use Rattle.html_rewrite.proofs.Grown.{done_still, grown_twice}
use Rattle.html_rewrite.proofs.Runs.{run_is}

-- from here the inside of a tag goes on as it does from there
pub record GoesOn (limit : ℕ) (link : List ℕ → List ℕ) (element : List ℕ) (old new : Rewriter) : Type 0 where
  pub onward : (attributes : List Attribute) (gap rest : List ℕ) → IsInside attributes gap rest → ahead new ≡ inside_text attributes gap rest → Earlier limit link element old new attributes gap rest
  pub back : (attributes : List Attribute) (gap rest : List ℕ) → IsInside attributes gap rest → ahead old ≡ inside_text attributes gap rest → Later new gap rest

pub goes_none : (limit : ℕ) (link : List ℕ → List ℕ) (element : List ℕ) (rewriter : Rewriter) → GoesOn limit link element rewriter rewriter
goes_none limit link element rewriter = record {
  onward = λ attributes gap rest inside e. record { whole = attributes; inside = inside; parts = e; written = refl };
  back = λ attributes gap rest inside e. record { attributes = attributes; inside = inside; parts = e };
}

pub goes_more : (limit : ℕ) (link : List ℕ → List ℕ) (element : List ℕ) (one two three : Rewriter) → GoesOn limit link element one two → LeadsOn limit link element two three → GoesOn limit link element one three
goes_more limit link element one two three first second = record {
  onward = λ attributes gap rest inside e.
      let b = second.onward attributes gap rest inside e in
      let a = first.onward b.whole gap rest b.inside b.parts in
      record { whole = a.whole; inside = a.inside; parts = a.parts; written = a.written ∙ b.written };
  back = λ attributes gap rest inside e.
      let a = first.back attributes gap rest inside e in
      second.back a.attributes gap rest a.inside a.parts;
}

-- no end from here, so none from there
pub lacks_more : (limit : ℕ) (link : List ℕ → List ℕ) (element : List ℕ) (one two : Rewriter) → GoesOn limit link element one two → LacksInside (ahead two) → LacksInside (ahead one)
lacks_more limit link element one two first none attributes gap rest inside e =
    let a = first.back attributes gap rest inside e in
    none a.attributes gap rest a.inside a.parts

-- the page ends behind the gap
pub lacks_here : (limit : ℕ) (link : List ℕ → List ℕ) (element : List ℕ) (one two : Rewriter) → GoesOn limit link element one two → prefix_len is_gap (ahead two) ≡ length (ahead two) → LacksInside (ahead one)
lacks_here limit link element one two first all = lacks_more limit link element one two first none
  where
    nothing : (gap behind : List ℕ) (b : ℕ) → IsRun is_gap gap (b ∷ behind) → ahead two ≡ gap ++ (b ∷ behind) → ⊥
    nothing gap behind b run e =
        let found = run_is is_gap gap (b ∷ behind) (ahead two) run e in
        let n = prefix_len is_gap (ahead two) in
        let sizes : length (b ∷ behind) ≡ length (drop n (ahead two)) = ap length found.1 in
        omega (arith, sizes, length-drop n (ahead two), all)

    none : (attributes : List Attribute) (gap rest : List ℕ) → IsInside attributes gap rest → ahead two ≡ inside_text attributes gap rest → ⊥
    none [] gap rest inside e = nothing gap rest greater inside.last e
    none (a ∷ attributes) gap rest inside e = nothing a.gap _ a.first inside.each.0.gap e

-- the tag ends here
pub reads_end : (limit : ℕ) (link : List ℕ → List ℕ) (element : List ℕ) (one two three : Rewriter) (len : ℕ) → GoesOn limit link element one two → Closes (ahead two) len → Passes len two three → ReadsInside limit link element one three
reads_end limit link element one two three len first closes passes =
    let gap = closes.gap in
    let size : length (gap ++ (greater ∷ [])) ≡ len = length-append gap (greater ∷ []) ∙ closes.lasts in
    let whole : ahead two ≡ (gap ++ (greater ∷ [])) ++ closes.rest = closes.parts ∙ sym (append_assoc gap (greater ∷ []) closes.rest) in
    let rest : ahead three ≡ closes.rest = passes.rest ∙ ap (drop len) whole ∙ drop_at (gap ++ (greater ∷ [])) closes.rest len size in
    let read : take len (ahead two) ≡ gap ++ (greater ∷ []) = ap (take len) whole ∙ take_at (gap ++ (greater ∷ [])) closes.rest len size in
    let inside : IsInside [] gap closes.rest = record { each = tt; last = closes.run } in
    let found = first.onward [] gap closes.rest inside closes.parts in
    record {
      attributes = found.whole;
      gap = gap;
      inside = subst (λ (x : List ℕ). IsInside found.whole gap x) (sym rest) found.inside;
      parts = subst (λ (x : List ℕ). ahead one ≡ inside_text found.whole gap x) (sym rest) found.parts;
      written =
          passes.written limit
          ∙ ap (grown limit (done limit two)) read
          ∙ ap (λ x. grown limit x (gap ++ (greater ∷ []))) (sym (found.written ∙ done_still limit two))
          ∙ grown_twice limit (done limit one) (replaced link (flat_map (attribute_pieces element) found.whole)) (gap ++ (greater ∷ []));
    }

-- what was read as the inside of a tag is one
pub has_read : (limit : ℕ) (link : List ℕ → List ℕ) (element : List ℕ) (old new : Rewriter) → ReadsInside limit link element old new → HasInside (ahead old)
has_read limit link element old new reads =
    record { attributes = reads.attributes; gap = reads.gap; rest = ahead new; inside = reads.inside; parts = reads.parts }
