-- What the parts of an address that was written are.
use Rattle.std.proofs.Common.{◌≡◌, ℕ, suc, ◌+◌, ◌<◌, ◌≤◌, Bool, true, false, eqb, leb, ltb, List, [], ◌∷◌, ◌++◌, length, take, drop, codes, decimal, Contains, refl, ap, ◌∙◌, inl, inr, append_assoc, lt-ltb, arith}
use Rattle.std.proofs.Math.Seq.{take-append_seam, drop-append_seam}
use Rattle.std.proofs.lemmas.Bool.{and_from, and_parts, cond-true, eqb-true, false≢true, le-leb, leb-true, ne_eqb, or_cases}
use Rattle.std.proofs.lemmas.List.{length-take}
use Rattle.std.proofs.lemmas.List.Elements.{All-contains}
use Rattle.std.proofs.lemmas.List.Sums.{AllPass-from_list_all}
use Rattle.std.specs.Char.{is_ascii_digit, to_ascii_lowercase}
use Rattle.std.specs.List.{All, prefix_len}
use Rattle.std.specs.Str.{bytes_eq, str_eq_ignore_ascii_case, str_to_ascii_lowercase}
use Rattle.time_text.specs.Bytes.{IsDigit}
use Rattle.time_text.specs.Reading.{lengths}
use Rattle.time_text.specs.Texts.{all_digits}
use Rattle.replay_url.specs.Address.{Numbered, Shipped, Mapped, Queried, Timed, Open, behind_digits, behind_web, digits_first, parts_at}
use Rattle.surt_key.specs.Addresses.{has_scheme}
use Rattle.replay_url.specs.Forms.{gate_address, map_address, memento_address, memento_digits, number_address, piece_address, query_address, raw_text}

-- a byte that is `h` in lower case
abbrev pub IsH : ℕ → Type 0
IsH c = eqb (to_ascii_lowercase c) 104 ≡ true

scheme_begins : (c : ℕ) (text : List ℕ) → has_scheme (c ∷ text) ≡ true → IsH c
scheme_begins c text h =
    let lower = to_ascii_lowercase in
    let http = str_eq_ignore_ascii_case (take 7 (c ∷ text)) (codes "http://") in
    let https = str_eq_ignore_ascii_case (take 8 (c ∷ text)) (codes "https://") in
    elim (or_cases http https h) [
      | inl e ↦ (and_parts (eqb (lower c) 104) (bytes_eq (str_to_ascii_lowercase (take 6 text)) (codes "ttp://")) e).0
      | inr e ↦ (and_parts (eqb (lower c) 104) (bytes_eq (str_to_ascii_lowercase (take 7 text)) (codes "ttps://")) e).0
    ]

no_r : (c : ℕ) → IsH c → eqb 114 c ≡ false
no_r c h = ne_eqb 114 c (λ e. false≢true (ap (λ b. eqb (to_ascii_lowercase b) 104) e ∙ h))

no_t : (c : ℕ) → IsH c → eqb 116 c ≡ false
no_t c h = ne_eqb 116 c (λ e. false≢true (ap (λ b. eqb (to_ascii_lowercase b) 104) e ∙ h))

no_s : (c : ℕ) → IsH c → eqb 115 c ≡ false
no_s c h = ne_eqb 115 c (λ e. false≢true (ap (λ b. eqb (to_ascii_lowercase b) 104) e ∙ h))

no_c : (c : ℕ) → IsH c → eqb 99 c ≡ false
no_c c h = ne_eqb 99 c (λ e. false≢true (ap (λ b. eqb (to_ascii_lowercase b) 104) e ∙ h))

no_low : (c : ℕ) → IsH c → c < 65 → ⊥
no_low c h low =
    let lowered : to_ascii_lowercase c ≡ c = cond-true (ltb c 65) c _ (lt-ltb c 65 low) in
    let same : to_ascii_lowercase c ≡ 104 = eqb-true (to_ascii_lowercase c) 104 h in
    omega (arith, lowered, same, low)

no_digit : (c : ℕ) → IsH c → is_ascii_digit c ≡ false
no_digit c h =
    elim (is_ascii_digit c) as (λ b. is_ascii_digit c ≡ b → b ≡ false) [
      | true ↦ λ e. absurd (let most = leb-true c 57 (and_parts (leb 48 c) (leb c 57) e).1 in no_low c h (omega (arith, most)))
      | false ↦ λ e. refl
    ] refl

open_at : (c : ℕ) (text : List ℕ) → eqb 114 c ≡ false → eqb 115 c ≡ false → eqb 116 c ≡ false → eqb 99 c ≡ false → is_ascii_digit c ≡ false
    → behind_web (c ∷ text) ≡ Open (c ∷ text)
open_at c text r s t q digit = rw (r, s, t, q, digit) refl

url_is_open : (url : List ℕ) → has_scheme url ≡ true → behind_web url ≡ Open url
url_is_open [] h = absurd (false≢true h)
url_is_open (c ∷ url) h =
    let begins = scheme_begins c url h in
    open_at c url (no_r c begins) (no_s c begins) (no_t c begins) (no_c c begins) (no_digit c begins)

pub gate_parts : (url : List ℕ) → has_scheme url ≡ true → parts_at (gate_address [] url) ≡ Open url
unfolding parts_at gate_address
gate_parts url h = url_is_open url h

pub map_parts : (url : List ℕ) → parts_at (map_address [] url) ≡ Mapped url
unfolding parts_at map_address
map_parts url = refl

pub number_parts : (number : ℕ) → parts_at (number_address [] number) ≡ Numbered (decimal number)
unfolding parts_at number_address
number_parts number = refl

pub query_parts : (text : List ℕ) → parts_at (query_address [] text) ≡ Queried text
unfolding parts_at query_address
query_parts text = refl

pub piece_parts : (number : ℕ) → parts_at (piece_address [] number) ≡ Shipped (decimal number)
unfolding parts_at piece_address
piece_parts number = refl

-- each byte is a digit
abbrev pub AreDigits : List ℕ → Type 0
AreDigits [] = Unit {0}
AreDigits (b ∷ text) = (is_ascii_digit b ≡ true) × AreDigits text

pub are_digits : (text : List ℕ) → All IsDigit text → AreDigits text
are_digits [] h = tt
are_digits (b ∷ text) h =
    let digit : IsDigit b = h 0 b (omega arith) in
    let passes : is_ascii_digit b ≡ true = and_from (leb 48 b) (leb b 57) (le-leb 48 b digit.0) (le-leb b 57 digit.1) in
    (passes, are_digits text (λ k d within. h (suc k) d (omega (arith, within))))

run_len : (text rest : List ℕ) → AreDigits text → prefix_len is_ascii_digit rest ≡ 0 → prefix_len is_ascii_digit (text ++ rest) ≡ length text
run_len [] rest h none = none
run_len (b ∷ text) rest h none =
    let others = run_len text rest h.1 none in
    let one : 1 + prefix_len is_ascii_digit (text ++ rest) ≡ suc (length text) = omega (arith, others) in
    cond-true (is_ascii_digit b) (1 + prefix_len is_ascii_digit (text ++ rest)) 0 h.0 ∙ one

digit_no_r : (b : ℕ) → is_ascii_digit b ≡ true → eqb 114 b ≡ false
digit_no_r b h = ne_eqb 114 b (λ e. false≢true (ap is_ascii_digit e ∙ h))

digit_no_t : (b : ℕ) → is_ascii_digit b ≡ true → eqb 116 b ≡ false
digit_no_t b h = ne_eqb 116 b (λ e. false≢true (ap is_ascii_digit e ∙ h))

digit_no_s : (b : ℕ) → is_ascii_digit b ≡ true → eqb 115 b ≡ false
digit_no_s b h = ne_eqb 115 b (λ e. false≢true (ap is_ascii_digit e ∙ h))

digit_no_c : (b : ℕ) → is_ascii_digit b ≡ true → eqb 99 b ≡ false
digit_no_c b h = ne_eqb 99 b (λ e. false≢true (ap is_ascii_digit e ∙ h))

-- what stands behind the digits of a memento
abbrev pub behind_time : Bool → List ℕ → List ℕ
behind_time raw url = raw_text raw ++ (codes "/" ++ url)

no_digit_behind : (raw : Bool) (url : List ℕ) → prefix_len is_ascii_digit (behind_time raw url) ≡ 0
no_digit_behind true url = refl
no_digit_behind false url = refl

timed_parts : (digits url whole : List ℕ) (raw : Bool) → behind_digits digits (behind_time raw url) whole ≡ Timed digits raw url
timed_parts digits url whole true = refl
timed_parts digits url whole false = refl

digits_come_first : (b : ℕ) (text : List ℕ) → is_ascii_digit b ≡ true → behind_web (b ∷ text) ≡ digits_first (prefix_len is_ascii_digit (b ∷ text)) (b ∷ text)
digits_come_first b text digit = rw (digit_no_r b digit, digit_no_s b digit, digit_no_t b digit, digit_no_c b digit) refl

pub memento_parts : (digits url : List ℕ) (raw : Bool) → AreDigits digits → 1 ≤ length digits → parts_at (memento_address [] digits raw url) ≡ Timed digits raw url
unfolding parts_at memento_address
memento_parts [] url raw h some = absurd (omega (arith, some))
memento_parts (b ∷ digits) url raw h some =
    let rest = behind_time raw url in
    let whole : (b ∷ digits) ++ raw_text raw ++ codes "/" ++ url ≡ (b ∷ digits) ++ rest = append_assoc ((b ∷ digits) ++ raw_text raw) (codes "/") url ∙ append_assoc (b ∷ digits) (raw_text raw) (codes "/" ++ url) in
    let text = (b ∷ digits) ++ rest in
    ap behind_web whole
    ∙ digits_come_first b (digits ++ rest) h.0
    ∙ ap (λ n. digits_first n text) (run_len (b ∷ digits) rest h (no_digit_behind raw url))
    ∙ ap (λ t. behind_digits t (drop (suc (length digits)) text) text) (take-append_seam (b ∷ digits) rest)
    ∙ ap (λ t. behind_digits (b ∷ digits) t text) (drop-append_seam (b ∷ digits) rest)
    ∙ timed_parts (b ∷ digits) url text raw

all_len : (date : ℕ) → length (all_digits date) ≡ 17
unfolding all_digits
all_len date = refl

pub digits_counted : (date n : ℕ) → Contains lengths n → n ≡ length (memento_digits date n)
digits_counted date n known =
    let most : n ≤ 17 = leb-true n 17 (All-contains (λ k. leb k 17 ≡ true) lengths n (AllPass-from_list_all (λ k. leb k 17) lengths refl) known) in
    omega (arith, length-take n (all_digits date), all_len date, most)

pub digits_some : (n : ℕ) → Contains lengths n → 1 ≤ n
digits_some n known = leb-true 1 n (All-contains (λ k. leb 1 k ≡ true) lengths n (AllPass-from_list_all (λ k. leb 1 k) lengths refl) known)
