-- The members of a list between commas, and the blanks around each.
use Rattle.std.proofs.Common.{◌≡◌, ℕ, ◌+◌, ◌-◌, ◌<◌, ◌≤◌, suc, Bool, true, false, not, ◌==◌, List, [], ◌∷◌, map, length, take, drop, cond, refl, sym, ap, ◌∙◌, arith, if◌then◌else◌}
use Rattle.std.specs.List.{prefix_len}
use Rattle.std.proofs.Math.Seq.{take-length}
use Rattle.httparse.specs.Ascii.{comma}
use Rattle.httparse.specs.Grammar.{trim_ows}
use Rattle.capture.specs.Fields.{split_at_commas, onto_first}
use Rattle.message_body.specs.Framings.{members}

-- the first piece, and the pieces behind the comma after it
pub pieces_from : List ℕ → List ℕ → List (List ℕ)
pieces_from first [] = first ∷ []
pieces_from first (separator ∷ rest) = first ∷ split_at_commas rest

onto_pieces : (b : ℕ) (first rest : List ℕ) → onto_first b (pieces_from first rest) ≡ pieces_from (b ∷ first) rest
unfolding pieces_from
onto_pieces b first [] = refl
onto_pieces b first (separator ∷ rest) = refl

split_step : (ends : Bool) (b : ℕ) (bytes : List ℕ) (n : ℕ) → split_at_commas bytes ≡ pieces_from (take n bytes) (drop n bytes) → (if ends then [] ∷ split_at_commas bytes else onto_first b (split_at_commas bytes)) ≡ pieces_from (take (cond (not ends) (1 + n) 0) (b ∷ bytes)) (drop (cond (not ends) (1 + n) 0) (b ∷ bytes))
unfolding pieces_from
split_step true b bytes n h = refl
split_step false b bytes n h =
    let e : 1 + n ≡ suc n = omega arith in
    rw e (ap (onto_first b) h ∙ onto_pieces b (take n bytes) (drop n bytes))

-- a list is cut at its first comma
split_at_commas_is : (bytes : List ℕ) → let n = prefix_len (λ b. not (b == comma)) bytes in split_at_commas bytes ≡ pieces_from (take n bytes) (drop n bytes)
unfolding pieces_from
split_at_commas_is [] = refl
split_at_commas_is (b ∷ bytes) = split_step (b == comma) b bytes _ (split_at_commas_is bytes)

-- a list cut at its first comma
pub record IsCutList (list member rest : List ℕ) (n : ℕ) : Type 0 where
  pub place : n ≡ prefix_len (λ b. not (b == comma)) list
  pub front : member ≡ take n list
  pub back : rest ≡ drop n list

cut_pieces : (list member rest : List ℕ) (n : ℕ) → IsCutList list member rest n → split_at_commas list ≡ pieces_from member rest
cut_pieces list member rest n cut =
    split_at_commas_is list ∙ ap (λ k. pieces_from (take k list) (drop k list)) (sym cut.place)
    ∙ ap (λ first. pieces_from first (drop n list)) (sym cut.front) ∙ ap (pieces_from member) (sym cut.back)

pub last_member : (list member rest trimmed : List ℕ) (n : ℕ) → IsCutList list member rest n → trimmed ≡ trim_ows member → rest ≡ []
    → members list ≡ trimmed ∷ []
unfolding pieces_from
last_member list member rest trimmed n cut bare none =
    ap (map trim_ows) (cut_pieces list member rest n cut ∙ ap (pieces_from member) none) ∙ ap (λ m. m ∷ []) (sym bare)

pub first_member : (list member rest trimmed behind : List ℕ) (separator n : ℕ) → IsCutList list member rest n → trimmed ≡ trim_ows member
    → rest ≡ separator ∷ behind → members list ≡ trimmed ∷ members behind
unfolding pieces_from
first_member list member rest trimmed behind separator n cut bare more =
    ap (map trim_ows) (cut_pieces list member rest n cut ∙ ap (pieces_from member) more) ∙ ap (λ m. m ∷ members behind) (sym bare)

pub last_member_at : (list member rest trimmed : List ℕ) (n : ℕ) → IsCutList list member rest n → trimmed ≡ trim_ows member
    → length rest < 1 → members list ≡ trimmed ∷ []
last_member_at list member [] trimmed n cut bare none = last_member list member [] trimmed n cut bare refl
last_member_at list member (separator ∷ behind) trimmed n cut bare none = absurd (omega (arith, none))

pub first_member_at : (list member rest trimmed : List ℕ) (n : ℕ) → IsCutList list member rest n → trimmed ≡ trim_ows member
    → 1 ≤ length rest → members list ≡ trimmed ∷ members (take (length rest - 1) (drop 1 rest))
first_member_at list member [] trimmed n cut bare some = absurd (omega (arith, some))
first_member_at list member (separator ∷ behind) trimmed n cut bare some =
    let len : length (separator ∷ behind) - 1 ≡ length behind = omega arith in
    first_member list member (separator ∷ behind) trimmed behind separator n cut bare refl
    ∙ ap (λ s. trimmed ∷ members s) (sym (ap (λ k. take k behind) len ∙ take-length behind))
