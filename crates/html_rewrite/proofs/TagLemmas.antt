-- Reading a start tag.
use Rattle.std.proofs.Common.{◌≡◌, ℕ, ◌+◌, ◌<◌, ◌≤◌, Bool, true, false, not, ◌&&◌, ◌||◌, ◌==◌, cond, List, [], ◌∷◌, ◌++◌, length, take, drop, refl, sym, ◌∙◌, ap, subst, arith, codes, Option, Some, None}
use Rattle.std.proofs.Math.Numerals.{one-add}
use Rattle.std.proofs.lemmas.List.{append_assoc, append-nil, length-append, length-drop, length-take-le, drop_all, drop-drop, take-append-drop, take_all, take_at}
use Rattle.std.proofs.lemmas.List.Sums.{prefix_len-le-length}
use Rattle.std.proofs.lemmas.Bool.{false≢true, eqb-true}
use Rattle.std.specs.Char.{is_ascii_alphabetic}
use Rattle.std.specs.List.{flat_map, prefix_len}
use Rattle.html_rewrite.specs.declared.opening.Opening.{Opening}
use Rattle.html_rewrite.specs.declared.opening.Opening.TheVariants.{Comment, Declaration, EndTag, StartTag, Other}
use Rattle.html_rewrite.specs.declared.rewriter.Rewriter.{Rewriter}
use Rattle.html_rewrite.specs.Bytes.{equals, greater, less, begins, begins_with, is_name_end, IsRun}
use Rattle.html_rewrite.specs.Pieces.{Plain, replaced}
use Rattle.html_rewrite.specs.Tags.{Assignment, Attribute, IsInside, IsTag, Tag, assigned_text, attributes_text, inside_text, quote_text, tag_text, value_text}
use Rattle.html_rewrite.specs.Split.{Element, IsRawText, Part, Takes, Untouched, attribute_pieces, opening_at}
use Rattle.html_rewrite.specs.steps.Reading.{LacksInside, Passes, ReadsInside, ReadsParts, ahead, done, grown}
use Rattle.html_rewrite.proofs.Grown.{grown_twice}
use Rattle.html_rewrite.proofs.Parts.{one_part}
use Rattle.html_rewrite.proofs.Runs.{run_at, run_unique}
use Rattle.html_rewrite.proofs.Attributes.{tails}
use Rattle.html_rewrite.proofs.Steps.{replaced-append}

start_of : (a b c d : Bool) → cond a Comment (cond b Declaration (cond c EndTag (cond d StartTag Other))) ≡ StartTag → d ≡ true
start_of true b c d e = absurd (cc)
start_of false true c d e = absurd (cc)
start_of false false true d e = absurd (cc)
start_of false false false true e = refl
start_of false false false false e = absurd (cc)

both : (a b : Bool) → (a && b) ≡ true → (a ≡ true) × (b ≡ true)
both true b e = (refl, e)
both false b e = absurd (false≢true e)

-- what a start tag opens with
pub start_opens : (t : List ℕ) → opening_at t ≡ StartTag → (begins_with (codes "<") t ≡ true) × (begins is_ascii_alphabetic (drop 1 t) ≡ true)
unfolding opening_at
start_opens t e =
    both (begins_with (codes "<") t) (begins is_ascii_alphabetic (drop 1 t)) (start_of (begins_with (codes "<!--") t) (begins_with (codes "<!") t || begins_with (codes "<?") t) (begins_with (codes "</") t && begins is_ascii_alphabetic (drop 2 t)) (begins_with (codes "<") t && begins is_ascii_alphabetic (drop 1 t)) e)

-- a text that begins with `<`
pub less_first : (t : List ℕ) → begins_with (codes "<") t ≡ true → t ≡ less ∷ drop 1 t
less_first [] e = absurd (false≢true e)
less_first (b ∷ t) e = let same : less ≡ b = eqb-true less b (both (less == b) true e).0 in ap (λ x. x ∷ t) (sym same)

differs : (b c : ℕ) → is_ascii_alphabetic b ≡ true → is_ascii_alphabetic c ≡ false → (b == c) ≡ false
differs b c letter other =
    elim (b == c) as (λ v. (b == c) ≡ v → v ≡ false) [
      | true ↦ λ e. absurd (false≢true (sym other ∙ ap is_ascii_alphabetic (sym (eqb-true b c e)) ∙ letter))
      | false ↦ λ e. refl
    ]
    refl

neither : (a b : Bool) → a ≡ false → b ≡ false → (a || b) ≡ false
neither a b e f = rw (e, f) refl

-- no name ends before a letter
letter_no_end : (b : ℕ) → is_ascii_alphabetic b ≡ true → is_name_end b ≡ false
letter_no_end b h =
    neither _ _ (neither _ _ (neither _ _ (neither _ _ (neither _ _ (neither _ _ (differs b 9 h refl) (differs b 10 h refl)) (differs b 12 h refl)) (differs b 13 h refl)) (differs b 32 h refl)) (differs b 47 h refl)) (differs b 62 h refl)

letter_kept : (u : List ℕ) → begins is_ascii_alphabetic u ≡ true → begins is_ascii_alphabetic (take (prefix_len (λ b. not (is_name_end b)) u) u) ≡ true
letter_kept [] h = absurd (false≢true h)
letter_kept (b ∷ u) h = rw (letter_no_end b h, one-add (prefix_len (λ c. not (is_name_end c)) u)) h

-- a start tag opens, with its name
pub record OpensElement (t name behind : List ℕ) : Type 0 where
  pub parts : t ≡ less ∷ (name ++ behind)
  pub run : IsRun (λ b. not (is_name_end b)) name behind
  pub letter : begins is_ascii_alphabetic name ≡ true

pub opens_element : (t name : List ℕ) → opening_at t ≡ StartTag → name ≡ take (prefix_len (λ b. not (is_name_end b)) (drop 1 t)) (drop 1 t) → OpensElement t name (drop (1 + length name) t)
opens_element t name opens is =
    let u = drop 1 t in
    let test : ℕ → Bool = λ b. not (is_name_end b) in
    let n = prefix_len test u in
    let first = start_opens t opens in
    let size : length name ≡ n = ap length is ∙ length-take-le n u (prefix_len-le-length test u) in
    let behind : drop n u ≡ drop (1 + length name) t = drop-drop n 1 t ∙ ap (λ x. drop (1 + x) t) (sym size) in
    record {
      parts = less_first t first.0 ∙ ap (λ x. less ∷ x) (sym (take-append-drop n u) ∙ ap (λ x. x ++ drop n u) (sym is) ∙ ap (λ x. name ++ x) behind);
      run = subst (λ (x : List ℕ). IsRun test name x) behind (subst (λ (x : List ℕ). IsRun test x (drop n u)) (sym is) (run_at test u));
      letter = ap (begins is_ascii_alphabetic) is ∙ letter_kept u first.1;
    }

pub assigned_longer : (a : Option Assignment) (rest : List ℕ) → length rest ≤ length (assigned_text a rest)
assigned_longer None rest = omega arith
assigned_longer (Some a) rest = omega (arith, length-append a.before (equals ∷ (a.after ++ value_text a rest)), length-append a.after (value_text a rest), length-append (quote_text a.quote) (a.value ++ (quote_text a.quote ++ rest)), length-append a.value (quote_text a.quote ++ rest), length-append (quote_text a.quote) rest)

attributes_longer : (attributes : List Attribute) (rest : List ℕ) → length rest ≤ length (attributes_text attributes rest)
attributes_longer [] rest = omega arith
attributes_longer (a ∷ attributes) rest =
    let after = attributes_text attributes rest in
    omega (arith, attributes_longer attributes rest, assigned_longer a.assigned after, length-append a.gap (a.first ∷ (a.others ++ assigned_text a.assigned after)), length-append a.others (assigned_text a.assigned after))

pub inside_longer : (attributes : List Attribute) (gap rest : List ℕ) → length rest < length (inside_text attributes gap rest)
inside_longer attributes gap rest = omega (arith, attributes_longer attributes (gap ++ (greater ∷ rest)), length-append gap (greater ∷ rest))

tag_gather : (inside gap raw : List ℕ) → (inside ++ (gap ++ (greater ∷ []))) ++ raw ≡ inside ++ ((gap ++ (greater ∷ raw)) ++ [])
tag_gather inside gap raw = simp (append_assoc, append-nil)

-- a start tag and the text behind it
pub reads_tag : (limit : ℕ) (link : List ℕ → List ℕ) (old one two three : Rewriter) (name : List ℕ) (k : ℕ) → opening_at (ahead old) ≡ StartTag → OpensElement (ahead old) name (ahead one) → Passes (1 + length name) old one → ReadsInside limit link name one two → IsRawText name (take k (ahead two)) (drop k (ahead two)) → Passes k two three → ReadsParts limit link old three
reads_tag limit link old one two three name k opens element first inside raw second =
    let text = take k (ahead two) in
    let split : ahead two ≡ text ++ ahead three = sym (take-append-drop k (ahead two)) ∙ ap (λ x. text ++ x) (sym second.rest) in
    let insides : ahead one ≡ inside_text inside.attributes inside.gap (text ++ ahead three) = inside.parts ∙ ap (inside_text inside.attributes inside.gap) split in
    let whole : ahead old ≡ less ∷ (name ++ inside_text inside.attributes inside.gap (text ++ ahead three)) = element.parts ∙ ap (λ x. less ∷ (name ++ x)) insides in
    let is_tag : IsTag (record { name = name; attributes = inside.attributes; gap = inside.gap }) (text ++ ahead three) = record {
      letter = element.letter;
      name = subst (λ (x : List ℕ). IsRun (λ b. not (is_name_end b)) name x) insides element.run;
      inside = subst (λ (x : List ℕ). IsInside inside.attributes inside.gap x) split inside.inside;
    } in
    let front : take (1 + length name) (ahead old) ≡ less ∷ name = ap (take (1 + length name)) element.parts ∙ take_at (less ∷ name) (ahead one) (1 + length name) (omega arith) in
    let is_raw : IsRawText name text (ahead three) = subst (λ (x : List ℕ). IsRawText name text x) (sym second.rest) raw in
    let part : Part = Element (record { name = name; attributes = inside.attributes; gap = inside.gap }) text in
    let lengths : length (ahead old) ≡ length (less ∷ (name ++ ahead one)) = ap length element.parts in
    let links = replaced link (flat_map (attribute_pieces name) inside.attributes) in
    one_part limit link old three (record {
      part = part;
      taken = subst (λ (x : Opening). Takes x part (ahead three)) (sym opens) (is_tag, is_raw);
      parts = whole;
      written =
          second.written limit
          ∙ ap (λ x. grown limit x text) inside.written
          ∙ ap (λ x. grown limit (grown limit x (links ++ (inside.gap ++ (greater ∷ [])))) text) (first.written limit ∙ ap (grown limit (done limit old)) front)
          ∙ grown_twice limit (grown limit (done limit old) (less ∷ name)) (links ++ (inside.gap ++ (greater ∷ []))) text
          ∙ grown_twice limit (done limit old) (less ∷ name) ((links ++ (inside.gap ++ (greater ∷ []))) ++ text)
          ∙ ap (λ x. grown limit (done limit old) ((less ∷ name) ++ x)) (tag_gather links inside.gap text ∙ sym (replaced-append link (flat_map (attribute_pieces name) inside.attributes) (Plain (inside.gap ++ (greater ∷ text)) ∷ [])));
      shorter = omega (arith, lengths, ap length second.rest, length-drop k (ahead two), ap length inside.parts, inside_longer inside.attributes inside.gap (ahead two), length-append name (ahead one));
    })

-- no start tag stands where the page ends inside it
pub reads_rest : (limit : ℕ) (link : List ℕ → List ℕ) (old one new : Rewriter) (name : List ℕ) → opening_at (ahead old) ≡ StartTag → OpensElement (ahead old) name (ahead one) → Passes (1 + length name) old one → LacksInside (ahead one) → Passes (length (ahead one)) one new → ReadsParts limit link old new
reads_rest limit link old one new name opens element first lacks second =
    let t = ahead old in
    let u = ahead one in
    let end : ahead new ≡ [] = second.rest ∙ drop_all (length u) u (omega arith) in
    let front : take (1 + length name) t ≡ less ∷ name = ap (take (1 + length name)) element.parts ∙ take_at (less ∷ name) u (1 + length name) (omega arith) in
    one_part limit link old new (record {
      part = Untouched t;
      taken = subst (λ (x : Opening). Takes x (Untouched t) (ahead new)) (sym opens) (none, end);
      parts = sym (append-nil t) ∙ ap (λ x. t ++ x) (sym end);
      written =
          second.written limit
          ∙ ap (grown limit (done limit one)) (take_all (length u) u (omega arith))
          ∙ ap (λ x. grown limit x u) (first.written limit ∙ ap (grown limit (done limit old)) front)
          ∙ grown_twice limit (done limit old) (less ∷ name) u
          ∙ ap (grown limit (done limit old)) (sym element.parts ∙ sym (append-nil t));
      shorter = omega (arith, ap length end, ap length element.parts);
    })
  where
    none : (tag : Tag) (rest : List ℕ) → IsTag tag rest → ahead old ≡ tag_text tag rest → ⊥
    none tag rest is e =
        let same = run_unique (λ b. not (is_name_end b)) name tag.name (ahead one) (inside_text tag.attributes tag.gap rest) element.run is.name (tails less less (name ++ ahead one) (tag.name ++ inside_text tag.attributes tag.gap rest) (sym element.parts ∙ e)) in
        lacks tag.attributes tag.gap rest is.inside same.1
