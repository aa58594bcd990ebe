-- What a window shows, as it is moved on.
use Rattle.std.proofs.Common.{◌≡◌, ◌≤◌, ℕ, ◌+◌, ◌-◌, List, ◌++◌, length, take, drop, sym, ap, ◌∙◌, arith}
use Rattle.std.proofs.Math.Seq.{take-add}
use Rattle.std.proofs.lemmas.List.{drop-drop, drop-take, length-drop, length-take, take_at}

-- the bytes from a place on are those that stand there
pub shown_from : (file bytes : List ℕ) (from place : ℕ) → from ≤ place → place ≤ from + length bytes
    → bytes ≡ take (length bytes) (drop from file)
    → drop (place - from) bytes ≡ take (length (drop (place - from) bytes)) (drop place file)
shown_from file bytes from place after within shown =
    let k = place - from in
    let m = length bytes - k in
    let all : length bytes ≡ k + m = omega (arith, after, within) in
    let count : length (drop k bytes) ≡ m = length-drop k bytes in
    ap (λ (l : List ℕ). drop k l) (shown ∙ ap (λ (n : ℕ). take n (drop from file)) all)
    ∙ drop-take k m (drop from file)
    ∙ ap (λ (l : List ℕ). take m l) (drop-drop k from file ∙ ap (λ (n : ℕ). drop n file) (omega (arith, after)))
    ∙ ap (λ (n : ℕ). take n (drop place file)) (sym count)

-- bytes that are there, and those read behind them
pub read_behind : (file there into : List ℕ) (place wanted m : ℕ) → m ≡ length there → m ≤ wanted
    → there ≡ take (length there) (drop place file)
    → into ≡ take (wanted - m) (drop (place + m) file)
    → there ++ into ≡ take wanted (drop place file)
read_behind file there into place wanted m is fits first second =
    (λ i. (first ∙ ap (λ (n : ℕ). take n (drop place file)) (sym is)) i ++ (second ∙ ap (λ (l : List ℕ). take (wanted - m) l) (sym (drop-drop m place file))) i)
    ∙ sym (take-add m (wanted - m) (drop place file))
    ∙ ap (λ (n : ℕ). take n (drop place file)) (omega (arith, fits))

-- the bytes that are there are put first, room is made behind them, and the rest is read into it
pub read_whole : (file there front into resized : List ℕ) (place wanted m n len : ℕ) → m ≡ length there → m ≤ wanted → place + wanted ≤ length file
    → there ≡ take (length there) (drop place file) → take m resized ≡ there → front ≡ take m resized → n + m ≡ wanted
    → into ≡ take n (drop (place + m) file) → len ≡ wanted
    → take len (front ++ into ++ drop (length (front ++ into)) resized) ≡ take wanted (drop place file)
read_whole file there front into resized place wanted m n len is fits long first room before count second whole =
    let begins : front ≡ there = before ∙ room in
    let rest : n ≡ wanted - m = omega (arith, count) in
    let second_is : into ≡ take (wanted - m) (drop (place + m) file) = second ∙ ap (λ (i : ℕ). take i (drop (place + m) file)) rest in
    let all : front ++ into ≡ take wanted (drop place file) =
    ap (λ (l : List ℕ). l ++ into) begins ∙ read_behind file there into place wanted m is fits first second_is in
    let size : length (front ++ into) ≡ len =
    omega (arith, ap length all, length-take wanted (drop place file), length-drop place file, long, whole) in
    take_at (front ++ into) (drop (length (front ++ into)) resized) len size ∙ all
