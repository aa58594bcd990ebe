-- Every page has a split.
use Rattle.std.proofs.Common.{◌≡◌, ℕ, zero, suc, ◌+◌, ◌<◌, Bool, true, false, not, cond, MatchBool, List, [], ◌∷◌, ◌++◌, length, take, drop, codes, refl, sym, ◌∙◌, ap, subst, inl, inr, arith}
use Rattle.std.proofs.Math.Numerals.{one-add}
use Rattle.std.proofs.lemmas.List.{append-nil, length-append, length-drop, take-append-drop}
use Rattle.std.specs.List.{flat_map, prefix_len}
use Rattle.html_rewrite.specs.declared.opening.Opening.{Opening}
use Rattle.html_rewrite.specs.declared.opening.Opening.TheVariants.{Comment, Declaration, EndTag, StartTag, Other}
use Rattle.html_rewrite.specs.Bytes.{less, begins_with, is_name_end, IsRun, IsUpTo}
use Rattle.html_rewrite.specs.Names.{is_raw_text}
use Rattle.html_rewrite.specs.steps.Reading.{HasInside, LacksInside}
use Rattle.html_rewrite.specs.Split.{Element, HasSplit, IsRawText, IsRead, IsThrough, Part, Takes, Untouched, ends_raw_text, opening_at, part_pieces, part_text}
use Rattle.html_rewrite.specs.Tags.{IsInside, IsTag, Tag, inside_text, tag_text}
use Rattle.html_rewrite.proofs.Attributes.{tails}
use Rattle.html_rewrite.proofs.PageLemmas.{read_joined}
use Rattle.html_rewrite.proofs.Places.{through_at, through_closer}
use Rattle.html_rewrite.proofs.Runs.{run_unique}
use Rattle.html_rewrite.proofs.SomeInside.{inside_told}
use Rattle.html_rewrite.proofs.TagLemmas.{OpensElement, inside_longer, opens_element}

-- the first place that passes the test, or the text's end
abbrev place_of : (List ℕ → Bool) → List ℕ → ℕ
place_of stops [] = 0
place_of stops (b ∷ t) = cond (stops (b ∷ t)) 0 (1 + place_of stops t)

place_more : (stops : List ℕ → Bool) (b : ℕ) (t : List ℕ) (n : ℕ) → stops (b ∷ t) ≡ false → IsUpTo stops (take n t) (drop n t) → IsUpTo stops (take (1 + n) (b ∷ t)) (drop (1 + n) (b ∷ t))
place_more stops b t n e u = rw (one-add n) (rw (take-append-drop n t) e, u)

up_to_place : (stops : List ℕ → Bool) (t : List ℕ) → IsUpTo stops (take (place_of stops t) t) (drop (place_of stops t) t)
up_to_place stops [] = refl
up_to_place stops (b ∷ t) =
    elim (stops (b ∷ t)) as (λ v. stops (b ∷ t) ≡ v → IsUpTo stops (take (cond v 0 (1 + place_of stops t)) (b ∷ t)) (drop (cond v 0 (1 + place_of stops t)) (b ∷ t))) [
      | true ↦ λ e. e
      | false ↦ λ e. place_more stops b t (place_of stops t) e (up_to_place stops t)
    ]
    refl

-- the next part of a page
record NextPart (page : List ℕ) : Type 0 where
  part : Part
  rest : List ℕ
  taken : Takes (opening_at page) part rest
  parts : page ≡ part_text part rest
  shorter : length rest < length page

-- a part that stays as it is
untouched : (page : List ℕ) (n : ℕ) (opening : Opening) → opening_at page ≡ opening → 0 < length page → 0 < n → Takes opening (Untouched (take n page)) (drop n page) → NextPart page
untouched page n opening opens some within takes = record {
  part = Untouched (take n page);
  rest = drop n page;
  taken = subst (λ (x : Opening). Takes x (Untouched (take n page)) (drop n page)) (sym opens) takes;
  parts = sym (take-append-drop n page);
  shorter = omega (arith, length-drop n page, some, within);
}

through : (page closer : List ℕ) (opening : ℕ) → IsThrough opening closer (take (opening + place_of (begins_with closer) (drop opening page) + length closer) page) (drop (opening + place_of (begins_with closer) (drop opening page) + length closer) page)
through page closer opening =
    let len = place_of (begins_with closer) (drop opening page) in
    through_at page opening len (opening + len + length closer) closer (up_to_place (begins_with closer) (drop opening page)) (through_closer page opening len closer)

-- the text behind a start tag that is passed over, and what stands behind it
record HasRawText (element t : List ℕ) : Type 0 where
  raw : List ℕ
  rest : List ℕ
  is : IsRawText element raw rest
  parts : t ≡ raw ++ rest

raw_text_of : (element t : List ℕ) → HasRawText element t
raw_text_of element t =
    elim (is_raw_text element) as (λ v. is_raw_text element ≡ v → HasRawText element t) [
      | true ↦ λ e.
          let k = place_of (ends_raw_text element) t in
          record {
            raw = take k t;
            rest = drop k t;
            is = subst (λ (v : Bool). MatchBool v (IsUpTo (ends_raw_text element) (take k t) (drop k t)) (take k t ≡ [])) (sym e) (up_to_place (ends_raw_text element) t);
            parts = sym (take-append-drop k t);
          }
      | false ↦ λ e.
          let nothing : List ℕ = [] in
          record {
            raw = nothing;
            rest = t;
            is = subst (λ (v : Bool). MatchBool v (IsUpTo (ends_raw_text element) nothing t) (nothing ≡ nothing)) (sym e) refl;
            parts = refl;
          }
    ]
    refl

-- a start tag with the text behind it
element_here : (page name behind : List ℕ) → opening_at page ≡ StartTag → OpensElement page name behind → HasInside behind → NextPart page
element_here page name behind opens element h =
    let found = raw_text_of name h.rest in
    let text = found.raw ++ found.rest in
    let insides : behind ≡ inside_text h.attributes h.gap text = h.parts ∙ ap (inside_text h.attributes h.gap) found.parts in
    let tag : Tag = record { name = name; attributes = h.attributes; gap = h.gap } in
    let is_tag : IsTag tag text = record {
      letter = element.letter;
      name = subst (λ (x : List ℕ). IsRun (λ b. not (is_name_end b)) name x) insides element.run;
      inside = subst (λ (x : List ℕ). IsInside h.attributes h.gap x) found.parts h.inside;
    } in
    record {
      part = Element tag found.raw;
      rest = found.rest;
      taken = subst (λ (x : Opening). Takes x (Element tag found.raw) found.rest) (sym opens) (is_tag, found.is);
      parts = element.parts ∙ ap (λ x. less ∷ (name ++ x)) insides;
      shorter = omega (arith, ap length element.parts, ap length h.parts, ap length found.parts, inside_longer h.attributes h.gap h.rest, length-append found.raw found.rest, length-append name behind);
    }

-- a page that ends inside a tag
unfinished : (page name behind : List ℕ) → opening_at page ≡ StartTag → OpensElement page name behind → LacksInside behind → NextPart page
unfinished page name behind opens element none = record {
  part = Untouched page;
  rest = [];
  taken = subst (λ (x : Opening). Takes x (Untouched page) []) (sym opens) (no_tag, refl);
  parts = sym (append-nil page);
  shorter = omega (arith, ap length element.parts);
}
  where
    no_tag : (tag : Tag) (rest : List ℕ) → IsTag tag rest → page ≡ tag_text tag rest → ⊥
    no_tag tag rest is e =
        let same = run_unique (λ b. not (is_name_end b)) name tag.name behind (inside_text tag.attributes tag.gap rest) element.run is.name (tails less less (name ++ behind) (tag.name ++ inside_text tag.attributes tag.gap rest) (sym element.parts ∙ e)) in
        none tag.attributes tag.gap rest is.inside same.1

start_tag : (page : List ℕ) → opening_at page ≡ StartTag → NextPart page
start_tag page opens =
    let name = take (prefix_len (λ (b : ℕ). not (is_name_end b)) (drop 1 page)) (drop 1 page) in
    let behind = drop (1 + length name) page in
    let element = opens_element page name opens refl in
    elim (inside_told behind) [
      | inl h ↦ element_here page name behind opens element h
      | inr none ↦ unfinished page name behind opens element none
    ]

next_part : (b : ℕ) (t : List ℕ) → NextPart (b ∷ t)
next_part b t = by_opening (opening_at (b ∷ t)) refl
  where
    by_opening : (v : Opening) → opening_at (b ∷ t) ≡ v → NextPart (b ∷ t)
    by_opening Comment e = untouched (b ∷ t) _ Comment e (omega arith) (omega arith) (through (b ∷ t) (codes "-->") 4)
    by_opening Declaration e = untouched (b ∷ t) _ Declaration e (omega arith) (omega arith) (through (b ∷ t) (codes ">") 2)
    by_opening EndTag e = untouched (b ∷ t) _ EndTag e (omega arith) (omega arith) (through (b ∷ t) (codes ">") 2)
    by_opening StartTag e = start_tag (b ∷ t) e
    by_opening Other e = untouched (b ∷ t) 1 Other e (omega arith) (omega arith) refl

-- the parts of a page
pub record HasParts (page : List ℕ) : Type 0 where
  pub parts : List Part
  pub read : IsRead parts page

parts_within : (fuel : ℕ) (page : List ℕ) → length page < fuel → HasParts page
parts_within zero page within = absurd (omega (arith, within))
parts_within (suc fuel) [] within = record { parts = []; read = refl }
parts_within (suc fuel) (b ∷ t) within =
    let next = next_part b t in
    let others = parts_within fuel next.rest (omega (arith, within, next.shorter)) in
    record { parts = next.part ∷ others.parts; read = (next.rest, next.parts, next.taken, others.read) }

pub parts_of : (page : List ℕ) → HasParts page
parts_of page = parts_within (length page + 1) page (omega arith)

pub split_of : (page : List ℕ) → HasSplit page
split_of page =
    let all = parts_of page in
    record {
      pieces = flat_map part_pieces all.parts;
      split = record { parts = all.parts; read = all.read; of_parts = refl; joins = read_joined all.parts page all.read };
    }
