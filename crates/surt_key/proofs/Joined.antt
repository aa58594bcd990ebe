-- Pieces joined by a byte: the first, and then the byte before each other.
use Rattle.std.proofs.Common.{◌≡◌, ℕ, ◌-◌, ◌≤◌, List, [], ◌∷◌, ◌++◌, map, length, take, drop, get_or, Bor, ap, sym, ◌∙◌, append-nil, append_assoc, arith}
use Rattle.std.proofs.lemmas.List.{take_all}
use Rattle.std.specs.List.{flat_map, join_with_byte}

-- each piece with the byte before it
abbrev pub each_behind : ℕ → List (Bor (List ℕ)) → List ℕ
each_behind c pieces = flat_map (λ p. c ∷ p.now) pieces

pub join_with_byte-cons : (c : ℕ) (first : Bor (List ℕ)) (others : List (Bor (List ℕ))) → join_with_byte c (map (λ p. p.now) (first ∷ others)) ≡ first.now ++ each_behind c others
join_with_byte-cons c first [] = sym (append-nil first.now)
join_with_byte-cons c first (second ∷ others) = ap (λ t. first.now ++ (c ∷ t)) (join_with_byte-cons c second others)

-- at a slice that was taken apart: its first element, and so many of those behind it as there are at least
pub join_with_byte-split_first : (c i : ℕ) (pieces : List (Bor (List ℕ))) (d : Bor (List ℕ)) → 1 ≤ length pieces → length (take (length pieces - 1) (drop 1 pieces)) ≤ i → join_with_byte c (map (λ p. p.now) pieces) ≡ (get_or pieces 0 d).now ++ each_behind c (take i (take (length pieces - 1) (drop 1 pieces)))
join_with_byte-split_first c i [] d some enough = absurd (omega (arith, some))
join_with_byte-split_first c i (first ∷ others) d some enough =
    let whole : take (length (first ∷ others) - 1) others ≡ others = take_all (length (first ∷ others) - 1) others (omega arith) in
    let all : take i (take (length (first ∷ others) - 1) others) ≡ others = take_all i _ enough ∙ whole in
    join_with_byte-cons c first others ∙ ap (λ t. first.now ++ each_behind c t) (sym all)

-- the first piece was put behind the old text, and then the others
pub join_with_byte-written : (c i : ℕ) (pieces : List (Bor (List ℕ))) (d : Bor (List ℕ)) (old first out : List ℕ) → 1 ≤ length pieces → length (take (length pieces - 1) (drop 1 pieces)) ≤ i → first ≡ old ++ (get_or pieces 0 d).now → out ≡ first ++ each_behind c (take i (take (length pieces - 1) (drop 1 pieces))) → out ≡ old ++ join_with_byte c (map (λ p. p.now) pieces)
join_with_byte-written c i pieces d old first out some enough one others =
    let rest = each_behind c (take i (take (length pieces - 1) (drop 1 pieces))) in
    others ∙ ap (λ t. t ++ rest) one ∙ append_assoc old (get_or pieces 0 d).now rest
    ∙ ap (λ t. old ++ t) (sym (join_with_byte-split_first c i pieces d some enough))
