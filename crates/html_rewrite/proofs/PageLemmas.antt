-- The pieces of a page that was read are the page.
use Rattle.std.proofs.Common.{◌≡◌, ℕ, Bool, true, false, List, [], ◌∷◌, ◌++◌, refl, sym, ◌∙◌, ap, Option, Some, None}
use Rattle.std.proofs.lemmas.List.{append_assoc, append-nil}
use Rattle.std.specs.List.{flat_map}
use Rattle.html_rewrite.specs.Bytes.{equals, greater, less}
use Rattle.html_rewrite.specs.Names.{is_link}
use Rattle.html_rewrite.specs.Pieces.{Piece, Plain, joined, piece_with}
use Rattle.html_rewrite.specs.Tags.{Assignment, Attribute, attribute_text, attributes_text, quote_text}
use Rattle.html_rewrite.specs.Split.{Element, IsRead, Part, Untouched, attribute_pieces, part_pieces, part_text, value_piece}
use Rattle.html_rewrite.proofs.Steps.{replaced-append}

value_kept : (linked : Bool) (text : List ℕ) → piece_with (λ x. x) (value_piece linked text) ≡ text
value_kept true text = refl
value_kept false text = refl

gathered : (gap others before after quote value rest : List ℕ) (first : ℕ) → ((gap ++ (first ∷ (others ++ (before ++ (equals ∷ (after ++ quote)))))) ++ (value ++ (quote ++ []))) ++ rest ≡ gap ++ (first ∷ (others ++ (before ++ (equals ∷ (after ++ (quote ++ (value ++ (quote ++ rest))))))))
gathered gap others before after quote value rest first = simp (append_assoc, append-nil)

attribute_joined : (element gap others rest : List ℕ) (first : ℕ) (assigned : Option Assignment) → joined (attribute_pieces element (record { gap = gap; first = first; others = others; assigned = assigned })) ++ rest ≡ attribute_text (record { gap = gap; first = first; others = others; assigned = assigned }) rest
attribute_joined element gap others rest first None = simp (append_assoc, append-nil)
attribute_joined element gap others rest first (Some a) =
    ap (λ x. ((gap ++ (first ∷ (others ++ (a.before ++ (equals ∷ (a.after ++ quote_text a.quote)))))) ++ (x ++ (quote_text a.quote ++ []))) ++ rest) (value_kept (is_link element (first ∷ others)) a.value)
    ∙ gathered gap others a.before a.after (quote_text a.quote) a.value rest first

attributes_joined : (element : List ℕ) (attributes : List Attribute) (rest : List ℕ) → joined (flat_map (attribute_pieces element) attributes) ++ rest ≡ attributes_text attributes rest
attributes_joined element [] rest = refl
attributes_joined element (a ∷ attributes) rest =
    ap (λ x. x ++ rest) (replaced-append (λ x. x) (attribute_pieces element a) (flat_map (attribute_pieces element) attributes))
    ∙ append_assoc (joined (attribute_pieces element a)) (joined (flat_map (attribute_pieces element) attributes)) rest
    ∙ ap (λ x. joined (attribute_pieces element a) ++ x) (attributes_joined element attributes rest)
    ∙ attribute_joined element a.gap a.others (attributes_text attributes rest) a.first a.assigned

part_joined : (part : Part) (rest : List ℕ) → joined (part_pieces part) ++ rest ≡ part_text part rest
part_joined (Untouched text) rest = ap (λ x. x ++ rest) (append-nil text)
part_joined (Element tag raw) rest =
    let end : List Piece = Plain (tag.gap ++ (greater ∷ raw)) ∷ [] in
    let inside = flat_map (attribute_pieces tag.name) tag.attributes in
    ap (λ x. ((less ∷ tag.name) ++ x) ++ rest) (replaced-append (λ x. x) inside end)
    ∙ whole (less ∷ tag.name) (joined inside) tag.gap raw rest
    ∙ ap (λ x. (less ∷ tag.name) ++ x) (attributes_joined tag.name tag.attributes (tag.gap ++ (greater ∷ (raw ++ rest))))
  where
    whole : (name inside gap raw rest : List ℕ) → (name ++ (inside ++ ((gap ++ (greater ∷ raw)) ++ []))) ++ rest ≡ name ++ (inside ++ (gap ++ (greater ∷ (raw ++ rest))))
    whole name inside gap raw rest = simp (append_assoc, append-nil)

-- the pieces of a page that was read are the page
pub read_joined : (parts : List Part) (page : List ℕ) → IsRead parts page → joined (flat_map part_pieces parts) ≡ page
read_joined [] page read = sym read
read_joined (part ∷ parts) page read =
    replaced-append (λ x. x) (part_pieces part) (flat_map part_pieces parts)
    ∙ ap (λ x. joined (part_pieces part) ++ x) (read_joined parts read.0 read.3)
    ∙ part_joined part read.0
    ∙ sym read.1
