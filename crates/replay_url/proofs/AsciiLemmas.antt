-- Texts of ASCII.
use Rattle.std.proofs.Common.{◌≡◌, ◌<◌, ◌^◌, ℕ, Bool, true, false, ◌&&◌, eqb, List, [], ◌∷◌, ◌++◌, codes, decimal, refl, arith}
use Rattle.std.proofs.lemmas.Bool.{false≢true, ltb-true, eq-eqb}
use Rattle.std.proofs.lemmas.Fmt.{IsAscii-decimal}
use Rattle.std.proofs.lemmas.Str.{IsAscii-append}
use Rattle.std.proofs.lemmas.Str.Ascii.{IsAscii-nil, IsAscii-cons, IsAscii-from_all}
use Rattle.std.specs.Char.{is_ascii}
use Rattle.std.specs.Cmp.Lexicographic.{pointwise}
use Rattle.std.specs.List.{All, list_all}
use Rattle.std.specs.Str.{IsAscii}
use Rattle.time_text.specs.Bytes.{IsDigit}
use Rattle.replay_url.specs.Forms.{gate_address, map_address, memento_address, number_address, piece_address, query_address, raw_text}

both : (a b : Bool) → (a && b) ≡ true → (a ≡ true) × (b ≡ true)
both true b e = (refl, e)
both false b e = absurd (false≢true e)

ascii_of_all : (t : List ℕ) → list_all is_ascii t ≡ true → IsAscii t
ascii_of_all [] e = IsAscii-nil
ascii_of_all (b ∷ t) e =
    let parts = both (is_ascii b) (list_all is_ascii t) e in
    IsAscii-cons b t (ltb-true b 128 parts.0) (ascii_of_all t parts.1)

-- digits are of ASCII
pub digits_are_ascii : (t : List ℕ) → All IsDigit t → IsAscii t
digits_are_ascii t h = IsAscii-from_all t (λ k d below. let digit = h k d below in omega (arith, digit.1))

pub raw_is_ascii : (raw : Bool) → IsAscii (raw_text raw)
raw_is_ascii true = ascii_of_all (codes "id_") refl
raw_is_ascii false = IsAscii-nil

-- equal texts are found equal
pub equal_texts : (a b : List ℕ) → a ≡ b → pointwise eqb a b ≡ true
equal_texts [] [] e = refl
equal_texts [] (c ∷ b) e = absurd (cc)
equal_texts (c ∷ a) [] e = absurd (cc)
equal_texts (c ∷ a) (d ∷ b) e =
    let head : c ≡ d = cc in
    let tail : a ≡ b = cc in
    rw (eq-eqb c d head) (equal_texts a b tail)

web_is_ascii : (base : List ℕ) → IsAscii base → IsAscii (base ++ codes "/web/")
web_is_ascii base b = IsAscii-append base (codes "/web/") b (ascii_of_all (codes "/web/") refl)

pub memento_is_ascii : (base digits url : List ℕ) (raw : Bool) → IsAscii base → IsAscii digits → IsAscii url → IsAscii (memento_address base digits raw url)
unfolding memento_address
memento_is_ascii base digits url raw b h u =
    let front = IsAscii-append (base ++ codes "/web/") digits (web_is_ascii base b) h in
    let modified = IsAscii-append (base ++ codes "/web/" ++ digits) (raw_text raw) front (raw_is_ascii raw) in
    let slashed = IsAscii-append (base ++ codes "/web/" ++ digits ++ raw_text raw) (codes "/") modified (ascii_of_all (codes "/") refl) in
    IsAscii-append (base ++ codes "/web/" ++ digits ++ raw_text raw ++ codes "/") url slashed u

pub gate_is_ascii : (base url : List ℕ) → IsAscii base → IsAscii url → IsAscii (gate_address base url)
unfolding gate_address
gate_is_ascii base url b u = IsAscii-append (base ++ codes "/web/") url (web_is_ascii base b) u

pub map_is_ascii : (base url : List ℕ) → IsAscii base → IsAscii url → IsAscii (map_address base url)
unfolding map_address
map_is_ascii base url b u =
    let front = codes "/web/timemap/link/" in
    IsAscii-append (base ++ front) url (IsAscii-append base front b (ascii_of_all front refl)) u

pub number_is_ascii : (base : List ℕ) (number : ℕ) → number < 2 ^ 64 → IsAscii base → IsAscii (number_address base number)
unfolding number_address
number_is_ascii base number h b =
    let front = codes "/web/rec/" in
    IsAscii-append (base ++ front) (decimal number) (IsAscii-append base front b (ascii_of_all front refl)) (IsAscii-decimal number h)

pub query_is_ascii : (base text : List ℕ) → IsAscii base → IsAscii text → IsAscii (query_address base text)
unfolding query_address
query_is_ascii base text b u =
    let front = codes "/web/cdx?" in
    IsAscii-append (base ++ front) text (IsAscii-append base front b (ascii_of_all front refl)) u

pub piece_is_ascii : (base : List ℕ) (number : ℕ) → number < 2 ^ 64 → IsAscii base → IsAscii (piece_address base number)
unfolding piece_address
piece_is_ascii base number h b =
    let front = codes "/web/ship/" in
    IsAscii-append (base ++ front) (decimal number) (IsAscii-append base front b (ascii_of_all front refl)) (IsAscii-decimal number h)
