-- Reading one attribute.
use Rattle.std.proofs.Common.{◌≡◌, ℕ, ◌+◌, ◌<◌, Bool, true, false, not, ◌==◌, List, [], ◌∷◌, ◌++◌, length, take, drop, refl, sym, ◌∙◌, ap, subst, arith, Option, Some, None}
use Rattle.std.proofs.Math.Numerals.{one-add}
use Rattle.std.proofs.lemmas.List.{append_assoc, append-nil, length-append, length-drop, take-append-drop, take_at, drop_at}
use Rattle.std.proofs.lemmas.List.Concat.{flat_map-append}
use Rattle.std.proofs.lemmas.Bool.{false≢true}
use Rattle.std.specs.List.{flat_map, prefix_len}
use Rattle.html_rewrite.specs.declared.rewriter.Rewriter.{Rewriter}
use Rattle.html_rewrite.specs.Bytes.{greater, equals, is_gap, begins, IsRun}
use Rattle.html_rewrite.specs.Pieces.{Piece, piece_with, replaced}
use Rattle.html_rewrite.specs.Tags.{Assignment, Attribute, IsAssignedIfAny, IsAttribute, IsInside, assigns, assigned_text, attribute_text, inside_text, is_attribute_byte, quote_text}
use Rattle.html_rewrite.specs.Split.{attribute_pieces, value_piece}
use Rattle.html_rewrite.specs.Names.{is_link}
use Rattle.html_rewrite.specs.steps.Reading.{BeginsAttribute, IsUnclosed, IsValueAt, LacksInside, Later, LeadsOn, Passes, Reads, ahead, done, grown}
use Rattle.html_rewrite.proofs.Grown.{grown_four_times, grown_twice}
use Rattle.html_rewrite.proofs.Attributes.{attribute_unique, end_or_attribute, heads, tails}
use Rattle.html_rewrite.proofs.Runs.{run_at, run_unique}

-- an attribute's name, read behind its gap
pub record IsNamed (t : List ℕ) (len : ℕ) (name behind : List ℕ) : Type 0 where
  pub first : ℕ
  pub others : List ℕ
  pub named : name ≡ first ∷ others
  pub parts : t ≡ take len t ++ (first ∷ (others ++ behind))
  pub gap : IsRun is_gap (take len t) (first ∷ (others ++ behind))
  pub begun : (first == greater) ≡ false
  pub run : IsRun is_attribute_byte others behind
  pub whole : drop len t ≡ name ++ behind

is_not : (v : Bool) → not v ≡ true → v ≡ false
is_not true h = absurd (false≢true h)
is_not false h = refl

name_split : (u : List ℕ) → begins (λ b. not (b == greater)) u ≡ true → (first : ℕ) × (u ≡ first ∷ drop 1 u) × ((first == greater) ≡ false)
name_split [] h = absurd (false≢true h)
name_split (b ∷ u) h = (b, refl, is_not (b == greater) h)

take_first : (n : ℕ) (u v : List ℕ) (f : ℕ) → u ≡ f ∷ v → take (1 + n) u ≡ f ∷ take n v
take_first n u v f e = rw (e, one-add n) refl

-- the name, by its length
pub name_at : (t : List ℕ) (len : ℕ) → BeginsAttribute t len → IsNamed t len (take (1 + prefix_len is_attribute_byte (drop 1 (drop len t))) (drop len t)) (drop (prefix_len is_attribute_byte (drop 1 (drop len t))) (drop 1 (drop len t)))
name_at t len begun =
    let u = drop len t in
    let n = prefix_len is_attribute_byte (drop 1 u) in
    let split = name_split u begun.first in
    let others : drop 1 u ≡ take n (drop 1 u) ++ drop n (drop 1 u) = sym (take-append-drop n (drop 1 u)) in
    let whole : u ≡ split.0 ∷ (take n (drop 1 u) ++ drop n (drop 1 u)) = split.1 ∙ ap (λ x. split.0 ∷ x) others in
    record {
      first = split.0;
      others = take n (drop 1 u);
      named = take_first n u (drop 1 u) split.0 split.1;
      parts = sym (take-append-drop len t) ∙ ap (λ x. take len t ++ x) whole;
      gap = subst (λ (x : List ℕ). IsRun is_gap (take len t) x) whole (subst (λ (m : ℕ). IsRun is_gap (take m t) (drop m t)) (sym begun.run) (run_at is_gap t));
      begun = split.2;
      run = run_at is_attribute_byte (drop 1 u);
      whole = whole ∙ ap (λ x. x ++ drop n (drop 1 u)) (sym (take_first n u (drop 1 u) split.0 split.1));
    }

-- the attribute of this name and value
abbrev pub named_attribute : (t : List ℕ) (len : ℕ) (name behind : List ℕ) → IsNamed t len name behind → Option Assignment → Attribute
named_attribute t len name behind n assigned = record { gap = take len t; first = n.first; others = n.others; assigned = assigned }

pub named_is_attribute : (t : List ℕ) (len : ℕ) (name behind : List ℕ) (n : IsNamed t len name behind) (assigned : Option Assignment) (rest : List ℕ) → behind ≡ assigned_text assigned rest → IsAssignedIfAny assigned rest → IsAttribute (named_attribute t len name behind n assigned) rest
named_is_attribute t len name behind n assigned rest e is = record {
  gap = subst (λ (x : List ℕ). IsRun is_gap (take len t) (n.first ∷ (n.others ++ x))) e n.gap;
  begun = n.begun;
  name = subst (λ (x : List ℕ). IsRun is_attribute_byte n.others x) e n.run;
  assigned = is;
}

pub named_text : (t : List ℕ) (len : ℕ) (name behind : List ℕ) (n : IsNamed t len name behind) (assigned : Option Assignment) (rest : List ℕ) → behind ≡ assigned_text assigned rest → t ≡ attribute_text (named_attribute t len name behind n assigned) rest
named_text t len name behind n assigned rest e = n.parts ∙ ap (λ x. take len t ++ (n.first ∷ (n.others ++ x))) e

-- the pieces behind others
pub replaced-append : (link : List ℕ → List ℕ) (xs ys : List Piece) → replaced link (xs ++ ys) ≡ replaced link xs ++ replaced link ys
replaced-append link xs ys = flat_map-append (piece_with link) xs ys

-- the inside of a tag goes on behind an attribute that was read
pub leads_on : (limit : ℕ) (link : List ℕ → List ℕ) (element : List ℕ) (old new : Rewriter) (a : Attribute) → IsAttribute a (ahead new) → ahead old ≡ attribute_text a (ahead new) → done limit new ≡ grown limit (done limit old) (replaced link (attribute_pieces element a)) → length (ahead new) < length (ahead old) → LeadsOn limit link element old new
leads_on limit link element old new a is parts written shorter = record {
  onward = λ attributes gap rest inside e. record {
    whole = a ∷ attributes;
    inside = record { each = (subst (λ (x : List ℕ). IsAttribute a x) e is, inside.each); last = inside.last };
    parts = parts ∙ ap (attribute_text a) e;
    written =
        ap (grown limit (done limit old)) (replaced-append link (attribute_pieces element a) (flat_map (attribute_pieces element) attributes))
        ∙ sym (grown_twice limit (done limit old) (replaced link (attribute_pieces element a)) (replaced link (flat_map (attribute_pieces element) attributes)))
        ∙ ap (λ x. grown limit x (replaced link (flat_map (attribute_pieces element) attributes))) (sym written);
  };
  back = λ attributes gap rest inside e. goes_back attributes gap rest inside e;
  shorter = shorter;
}
  where
    goes_back : (attributes : List Attribute) (gap rest : List ℕ) → IsInside attributes gap rest → ahead old ≡ inside_text attributes gap rest → Later new gap rest
    goes_back [] gap rest inside e = absurd (end_or_attribute a (ahead new) gap rest is inside.last (sym parts ∙ e))
    goes_back (b ∷ attributes) gap rest inside e =
        let found = attribute_unique a b (ahead new) (inside_text attributes gap rest) is inside.each.0 (sym parts ∙ e) in
        record { attributes = attributes; inside = record { each = inside.each.1; last = inside.last }; parts = found.1 }

-- what stands before a value
abbrev pub lead_text : Assignment → List ℕ
lead_text a = a.before ++ (equals ∷ (a.after ++ quote_text a.quote))

lead_assoc : (before after quote rest : List ℕ) → before ++ (equals ∷ (after ++ (quote ++ rest))) ≡ (before ++ (equals ∷ (after ++ quote))) ++ rest
lead_assoc before after quote rest =
    ap (λ x. before ++ (equals ∷ x)) (sym (append_assoc after quote rest)) ∙ sym (append_assoc before (equals ∷ (after ++ quote)) rest)

-- the parts of a value by their lengths
pub value_steps : (t : List ℕ) (lead len closing : ℕ) (v : IsValueAt t lead len closing) → (take lead t ≡ lead_text v.assignment) × (drop lead t ≡ v.assignment.value ++ (quote_text v.assignment.quote ++ v.rest)) × (take len (drop lead t) ≡ v.assignment.value) × (drop len (drop lead t) ≡ quote_text v.assignment.quote ++ v.rest) × (take closing (drop len (drop lead t)) ≡ quote_text v.assignment.quote) × (drop closing (drop len (drop lead t)) ≡ v.rest)
value_steps t lead len closing v =
    let a = v.assignment in
    let inner = a.value ++ (quote_text a.quote ++ v.rest) in
    let whole : t ≡ lead_text a ++ inner = v.parts ∙ lead_assoc a.before a.after (quote_text a.quote) inner in
    let size : length (lead_text a) ≡ lead = omega (arith, v.leads, length-append a.before (equals ∷ (a.after ++ quote_text a.quote)), length-append a.after (quote_text a.quote)) in
    let first : take lead t ≡ lead_text a = ap (take lead) whole ∙ take_at (lead_text a) inner lead size in
    let second : drop lead t ≡ inner = ap (drop lead) whole ∙ drop_at (lead_text a) inner lead size in
    let third : take len (drop lead t) ≡ a.value = ap (take len) second ∙ take_at a.value (quote_text a.quote ++ v.rest) len v.lasts in
    let fourth : drop len (drop lead t) ≡ quote_text a.quote ++ v.rest = ap (drop len) second ∙ drop_at a.value (quote_text a.quote ++ v.rest) len v.lasts in
    (first, second, third, fourth, ap (take closing) fourth ∙ take_at (quote_text a.quote) v.rest closing v.closes, ap (drop closing) fourth ∙ drop_at (quote_text a.quote) v.rest closing v.closes)

-- a gap and a name were read
pub record Named (len : ℕ) (name : List ℕ) (old new : Rewriter) : Type 0 where
  pub is : IsNamed (ahead old) len name (ahead new)
  pub written : (limit : ℕ) → done limit new ≡ grown limit (done limit old) (take len (ahead old) ++ name)
  pub shorter : length (ahead new) < length (ahead old)

pub reads_name : (old one two : Rewriter) (len : ℕ) (name : List ℕ) → BeginsAttribute (ahead old) len → Passes len old one → name ≡ take (1 + prefix_len is_attribute_byte (drop 1 (ahead one))) (ahead one) → Passes (length name) one two → Named len name old two
reads_name old one two len name begun first is second =
    let t = ahead old in
    let u = drop len t in
    let behind = drop (prefix_len is_attribute_byte (drop 1 u)) (drop 1 u) in
    let same : name ≡ take (1 + prefix_len is_attribute_byte (drop 1 u)) u = is ∙ ap (λ x. take (1 + prefix_len is_attribute_byte (drop 1 x)) x) first.rest in
    let named : IsNamed t len name behind = subst (λ (x : List ℕ). IsNamed t len x behind) (sym same) (name_at t len begun) in
    let joined : ahead one ≡ name ++ behind = first.rest ∙ named.whole in
    let rest : ahead two ≡ behind = second.rest ∙ ap (drop (length name)) joined ∙ drop_at name behind (length name) refl in
    let read : take (length name) (ahead one) ≡ name = ap (take (length name)) joined ∙ take_at name behind (length name) refl in
    let sizes : length t ≡ length (take len t ++ (named.first ∷ (named.others ++ behind))) = ap length named.parts in
    record {
      is = subst (λ (x : List ℕ). IsNamed t len name x) (sym rest) named;
      written = λ limit.
          second.written limit
          ∙ ap (λ x. grown limit x (take (length name) (ahead one))) (first.written limit)
          ∙ ap (λ x. grown limit (grown limit (done limit old) (take len t)) x) read
          ∙ grown_twice limit (done limit old) (take len t) name;
      shorter = omega (arith, sizes, ap length rest, length-append (take len t) (named.first ∷ (named.others ++ behind)), length-append named.others behind);
    }

name_written : (gap others : List ℕ) (first : ℕ) (name : List ℕ) → name ≡ first ∷ others → gap ++ name ≡ (gap ++ (first ∷ others)) ++ []
name_written gap others first name e = ap (λ x. gap ++ x) e ∙ sym (append-nil (gap ++ (first ∷ others)))

-- an attribute without a value
pub leads_missing : (limit : ℕ) (link : List ℕ → List ℕ) (element name : List ℕ) (len : ℕ) (old new : Rewriter) → Named len name old new → assigns (ahead new) ≡ false → LeadsOn limit link element old new
leads_missing limit link element name len old new n none =
    let t = ahead old in
    leads_on limit link element old new (named_attribute t len name (ahead new) n.is None) (named_is_attribute t len name (ahead new) n.is None (ahead new) refl none) (named_text t len name (ahead new) n.is None (ahead new) refl) (n.written limit ∙ ap (grown limit (done limit old)) (name_written (take len t) n.is.others n.is.first name n.is.named)) n.shorter

-- no tag ends behind an attribute whose value has no end
pub no_end_behind : (t name behind : List ℕ) (len : ℕ) → IsNamed t len name behind → IsUnclosed behind → (attributes : List Attribute) (gap rest : List ℕ) → IsInside attributes gap rest → t ≡ inside_text attributes gap rest → ⊥
no_end_behind t name behind len n unclosed = none
  where
    by_value : (assigned : Option Assignment) (rest : List ℕ) → IsAssignedIfAny assigned rest → behind ≡ assigned_text assigned rest → ⊥
    by_value None rest is e = false≢true (sym is ∙ ap assigns (sym e) ∙ unclosed.signed)
    by_value (Some a) rest is e = unclosed.none a rest is e

    none : (attributes : List Attribute) (gap rest : List ℕ) → IsInside attributes gap rest → t ≡ inside_text attributes gap rest → ⊥
    none [] gap rest inside e =
        let found = run_unique is_gap (take len t) gap (n.first ∷ (n.others ++ behind)) (greater ∷ rest) n.gap inside.last (sym n.parts ∙ e) in
        let same : n.first ≡ greater = heads n.first greater (n.others ++ behind) rest found.1 in
        let equal : (n.first == greater) ≡ true = ap (λ b. b == greater) same in
        let begun : (n.first == greater) ≡ false = n.begun in
        false≢true (sym begun ∙ equal)
    none (b ∷ attributes) gap rest inside e =
        let after = inside_text attributes gap rest in
        let found = run_unique is_gap (take len t) b.gap (n.first ∷ (n.others ++ behind)) (b.first ∷ (b.others ++ assigned_text b.assigned after)) n.gap inside.each.0.gap (sym n.parts ∙ e) in
        let others = run_unique is_attribute_byte n.others b.others behind (assigned_text b.assigned after) n.run inside.each.0.name (tails n.first b.first (n.others ++ behind) (b.others ++ assigned_text b.assigned after) found.1) in
        by_value b.assigned after inside.each.0.assigned others.1

-- an attribute whose value has no end
pub lacks_unclosed : (name : List ℕ) (len : ℕ) (old new : Rewriter) → Named len name old new → IsUnclosed (ahead new) → LacksInside (ahead old)
lacks_unclosed name len old new n unclosed = no_end_behind (ahead old) name (ahead new) len n.is unclosed

gather : (gap others lead value quote name : List ℕ) (first : ℕ) → name ≡ first ∷ others → (gap ++ name) ++ (lead ++ (value ++ quote)) ≡ (gap ++ (first ∷ (others ++ lead))) ++ (value ++ (quote ++ []))
gather gap others lead value quote name first e = rw e (simp (append_assoc, append-nil))

-- an attribute with its value
pub leads_value : (limit : ℕ) (link : List ℕ → List ℕ) (element name : List ℕ) (len lead size closing : ℕ) (old two three four five : Rewriter) → Named len name old two → IsValueAt (ahead two) lead size closing → Passes lead two three → Reads limit link element name size three four → Passes closing four five → LeadsOn limit link element old five
leads_value limit link element name len lead size closing old two three four five n v first second third =
    let t = ahead old in
    let a = v.assignment in
    let steps = value_steps (ahead two) lead size closing v in
    let at_three : ahead three ≡ drop lead (ahead two) = first.rest in
    let at_four : ahead four ≡ drop size (drop lead (ahead two)) = second.rest ∙ ap (drop size) at_three in
    let at_five : ahead five ≡ v.rest = third.rest ∙ ap (drop closing) at_four ∙ steps.5 in
    let is = named_is_attribute t len name (ahead two) n.is (Some a) v.rest v.parts v.assigned in
    let parts = named_text t len name (ahead two) n.is (Some a) v.rest v.parts in
    let reads : List ℕ → List ℕ = λ x. piece_with link (value_piece (is_link element name) x) in
    let linked : is_link element name ≡ is_link element (n.is.first ∷ n.is.others) = ap (is_link element) n.is.named in
    let sizes : length (ahead five) ≡ length (drop closing (drop size (drop lead (ahead two)))) = ap length (third.rest ∙ ap (drop closing) at_four) in
    leads_on limit link element old five (named_attribute t len name (ahead two) n.is (Some a)) (subst (λ (x : List ℕ). IsAttribute (named_attribute t len name (ahead two) n.is (Some a)) x) (sym at_five) is) (subst (λ (x : List ℕ). ahead old ≡ attribute_text (named_attribute t len name (ahead two) n.is (Some a)) x) (sym at_five) parts)
    (third.written limit
    ∙ ap (grown limit (done limit four)) (ap (take closing) at_four ∙ steps.4)
    ∙ ap (λ x. grown limit x (quote_text a.quote)) (second.written ∙ ap (λ x. grown limit (done limit three) (reads x)) (ap (take size) at_three ∙ steps.2))
    ∙ ap (λ x. grown limit (grown limit x (reads a.value)) (quote_text a.quote)) (first.written limit ∙ ap (grown limit (done limit two)) steps.0)
    ∙ ap (λ x. grown limit (grown limit (grown limit x (lead_text a)) (reads a.value)) (quote_text a.quote)) (n.written limit)
    ∙ grown_four_times limit (done limit old) (take len t ++ name) (lead_text a) (reads a.value) (quote_text a.quote)
    ∙ ap (grown limit (done limit old)) (gather (take len t) n.is.others (lead_text a) (reads a.value) (quote_text a.quote) name n.is.first n.is.named)
    ∙ ap (λ x. grown limit (done limit old) ((take len t ++ (n.is.first ∷ (n.is.others ++ lead_text a))) ++ (piece_with link (value_piece x a.value) ++ (quote_text a.quote ++ [])))) linked)
    (omega (arith, sizes, n.shorter, length-drop closing (drop size (drop lead (ahead two))), length-drop size (drop lead (ahead two)), length-drop lead (ahead two)))
