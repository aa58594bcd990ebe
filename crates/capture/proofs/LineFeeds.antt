-- Which parts of a head hold no LF, and how a first empty line is found behind them.
use Rattle.std.proofs.Common.{◌≡◌, ℕ, ◌+◌, true, false, eqb, List, [], ◌∷◌, ◌++◌, length, Option, Some, None, refl, sym, ap, subst, ◌∙◌, arith, append_assoc, length-append}
use Rattle.std.specs.Prelude.{All, option_map}
use Rattle.std.specs.List.{flat_map}
use Rattle.std.specs.Char.{is_ascii_digit}
use Rattle.std.proofs.lemmas.Bool.{false≢true, ne_eqb}
use Rattle.std.proofs.lemmas.List.Elements.{All-cons, All-head, All-tail, All-weaker, All-append}
use Rattle.httparse.specs.Grammar.{is_token_byte, is_value_byte, is_uri_byte, IsToken, LineEnd, crlf, lf, print_end, Field, IsField, print_field, print_section, AllPass}
use Rattle.capture.specs.Head.{head_len, section_len}

-- no byte is LF
abbrev pub HasNoLf : List ℕ → Type 0
HasNoLf text = All (λ b. eqb b 10 ≡ false) text

-- a place further on
abbrev pub further : ℕ → Option ℕ → Option ℕ
further k place = option_map (λ n. k + n) place

-- the bytes that pass a test have no LF, where LF doesn't pass it
passes_without_lf : (test : ℕ → _) → test 10 ≡ false → (bytes : List ℕ) → AllPass test bytes → HasNoLf bytes
passes_without_lf test lf_fails bytes pass =
    All-weaker (λ b. test b ≡ true) (λ b. eqb b 10 ≡ false)
    (λ b passed. ne_eqb b 10 (λ is_lf. false≢true (sym lf_fails ∙ ap test (sym is_lf) ∙ passed))) bytes pass

lf_is_no_token : is_token_byte 10 ≡ false
unfolding is_token_byte
lf_is_no_token = refl

cr_is_no_token : is_token_byte 13 ≡ false
unfolding is_token_byte
cr_is_no_token = refl

pub token_without_lf : (bytes : List ℕ) → AllPass is_token_byte bytes → HasNoLf bytes
token_without_lf bytes = passes_without_lf is_token_byte lf_is_no_token bytes

pub value_without_lf : (bytes : List ℕ) → AllPass is_value_byte bytes → HasNoLf bytes
value_without_lf bytes = passes_without_lf is_value_byte refl bytes

pub uri_without_lf : (bytes : List ℕ) → AllPass is_uri_byte bytes → HasNoLf bytes
uri_without_lf bytes = passes_without_lf is_uri_byte refl bytes

pub digits_without_lf : (bytes : List ℕ) → AllPass is_ascii_digit bytes → HasNoLf bytes
digits_without_lf bytes = passes_without_lf is_ascii_digit refl bytes

-- ---- the first empty line

further-further : (j k : ℕ) (place : Option ℕ) → further j (further k place) ≡ further (j + k) place
further-further j k None = refl
further-further j k (Some n) = ap Some (omega arith)

pub further-zero : (place : Option ℕ) → further 0 place ≡ place
further-zero None = refl
further-zero (Some n) = ap Some (omega arith)

-- a text without LF holds no empty line
pub head_len-past : (text rest : List ℕ) → HasNoLf text → head_len (text ++ rest) ≡ further (length text) (head_len rest)
head_len-past [] rest none = sym (further-zero (head_len rest))
head_len-past (b ∷ text) rest none =
    let first : eqb b 10 ≡ false = All-head (λ c. eqb c 10 ≡ false) b text none in
    let others = head_len-past text rest (All-tail (λ c. eqb c 10 ≡ false) b text none) in
    let here : head_len (b ∷ (text ++ rest)) ≡ further 1 (head_len (text ++ rest)) = rw first refl in
    let one : 1 + length text ≡ length (b ∷ text) = omega arith in
    here ∙ ap (further 1) others ∙ further-further 1 (length text) (head_len rest)
    ∙ ap (λ n. further n (head_len rest)) one

-- a byte that is neither LF nor CR
pub record IsPlain (b : ℕ) : Type 0 where
  pub no_lf : eqb b 10 ≡ false
  pub no_cr : eqb b 13 ≡ false

pub token_byte_is_plain : (b : ℕ) → is_token_byte b ≡ true → IsPlain b
token_byte_is_plain b is = record {
  no_lf = ne_eqb b 10 (λ e. false≢true (sym lf_is_no_token ∙ ap is_token_byte (sym e) ∙ is));
  no_cr = ne_eqb b 13 (λ e. false≢true (sym cr_is_no_token ∙ ap is_token_byte (sym e) ∙ is));
}

-- a line end before a plain byte ends no head
pub head_len-line_end : (e : LineEnd) (b : ℕ) (rest : List ℕ) → IsPlain b
    → head_len (print_end e ++ b ∷ rest) ≡ further (length (print_end e)) (head_len (b ∷ rest))
head_len-line_end lf b rest plain = rw (plain.no_lf, plain.no_cr) refl
head_len-line_end crlf b rest plain = rw (plain.no_lf, plain.no_cr) (further-further 1 1 _)

-- two line ends, one behind the other, end a head
pub head_len-two_line_ends : (e last : LineEnd) (rest : List ℕ)
    → head_len (print_end e ++ (print_end last ++ rest)) ≡ Some (length (print_end e) + length (print_end last))
head_len-two_line_ends lf lf rest = refl
head_len-two_line_ends lf crlf rest = refl
head_len-two_line_ends crlf lf rest = refl
head_len-two_line_ends crlf crlf rest = refl

-- ---- sections

-- a field line, behind which more stands
regrouped : (line end more last rest : List ℕ)
    → line ++ end ++ more ++ last ++ rest ≡ line ++ (end ++ ((more ++ last) ++ rest))
regrouped line end more last rest = simp append_assoc

-- a field's name, the colon and its value
abbrev field_line : Field → List ℕ
field_line f = f.name ++ 58 ∷ f.raw

field_line_without_lf : (f : Field) → IsField f → HasNoLf (field_line f)
field_line_without_lf f is =
    All-append (λ b. eqb b 10 ≡ false) f.name (58 ∷ f.raw) (token_without_lf f.name is.name.1)
    (All-cons (λ b. eqb b 10 ≡ false) 58 f.raw refl (value_without_lf f.raw is.raw))

-- a text begins with a plain byte
pub record BeginsPlain (text : List ℕ) : Type 0 where
  pub byte : ℕ
  pub others : List ℕ
  pub composed : text ≡ byte ∷ others
  pub plain : IsPlain byte

pub token_begins_plain : (name others : List ℕ) → IsToken name → BeginsPlain (name ++ others)
token_begins_plain [] others token = absurd (omega (arith, token.0))
token_begins_plain (b ∷ name) others token = record {
  byte = b;
  others = name ++ others;
  composed = refl;
  plain = token_byte_is_plain b (All-head (λ c. is_token_byte c ≡ true) b name token.1);
}

-- a line end before a text that begins so
head_len-before : (e : LineEnd) (text : List ℕ) → BeginsPlain text
    → head_len (print_end e ++ text) ≡ further (length (print_end e)) (head_len text)
head_len-before e text begins =
    subst (λ t. head_len (print_end e ++ t) ≡ further (length (print_end e)) (head_len t)) (sym begins.composed)
    (head_len-line_end e begins.byte begins.others begins.plain)

further-some : (a b c : ℕ) → further a (further b (Some c)) ≡ Some (a + (b + c))
further-some a b c = refl

length-section : (line end more last : List ℕ)
    → length (line ++ end ++ more ++ last) ≡ length line + (length end + length (more ++ last))
length-section line end more last =
    omega (
      arith,
      length-append (line ++ end ++ more) last,
      length-append (line ++ end) more,
      length-append line end,
      length-append more last,
    )

-- a text that begins so has no empty line at its beginning
section_len-plain : (text : List ℕ) → BeginsPlain text → section_len text ≡ head_len text
section_len-plain text begins =
    subst (λ t. section_len t ≡ head_len t) (sym begins.composed) (rw (begins.plain.no_lf, begins.plain.no_cr) refl)

-- behind a line end, a section ends a head with its own end
pub head_len-section : (e : LineEnd) (fields : List Field) (last : LineEnd) (rest : List ℕ) → All IsField fields
    → head_len (print_end e ++ (print_section fields last ++ rest)) ≡ Some (length (print_end e) + length (print_section fields last))
head_len-section e [] last rest all = head_len-two_line_ends e last rest
head_len-section e (f ∷ fields) last rest all =
    let is = All-head IsField f fields all in
    let behind : List ℕ = print_end f.end ++ (print_section fields last ++ rest) in
    let text = regrouped (field_line f) (print_end f.end) (flat_map print_field fields) (print_end last) rest in
    let behind_ends = head_len-section f.end fields last rest (All-tail IsField f fields all) in
    let line_ends = head_len-past (field_line f) behind (field_line_without_lf f is) ∙ ap (further (length (field_line f))) behind_ends in
    let begins : BeginsPlain (field_line f ++ behind) =
    subst BeginsPlain (sym (append_assoc f.name (58 ∷ f.raw) behind)) (token_begins_plain f.name ((58 ∷ f.raw) ++ behind) is.name) in
    ap (λ t. head_len (print_end e ++ t)) text ∙ head_len-before e (field_line f ++ behind) begins
    ∙ ap (further (length (print_end e))) line_ends
    ∙ ap (λ n. Some (length (print_end e) + n))
    (sym (length-section (field_line f) (print_end f.end) (flat_map print_field fields) (print_end last)))

-- a section is found up to its end, whatever follows
pub section_len-section : (fields : List Field) (last : LineEnd) (rest : List ℕ) → All IsField fields
    → section_len (print_section fields last ++ rest) ≡ Some (length (print_section fields last))
section_len-section [] lf rest all = refl
section_len-section [] crlf rest all = refl
section_len-section (f ∷ fields) last rest all =
    let is = All-head IsField f fields all in
    let behind : List ℕ = print_end f.end ++ (print_section fields last ++ rest) in
    let text = regrouped (field_line f) (print_end f.end) (flat_map print_field fields) (print_end last) rest in
    let behind_ends = head_len-section f.end fields last rest (All-tail IsField f fields all) in
    let line_ends = head_len-past (field_line f) behind (field_line_without_lf f is) ∙ ap (further (length (field_line f))) behind_ends in
    let begins : BeginsPlain (field_line f ++ behind) =
    subst BeginsPlain (sym (append_assoc f.name (58 ∷ f.raw) behind)) (token_begins_plain f.name ((58 ∷ f.raw) ++ behind) is.name) in
    ap section_len text ∙ section_len-plain (field_line f ++ behind) begins ∙ line_ends
    ∙ ap Some (sym (length-section (field_line f) (print_end f.end) (flat_map print_field fields) (print_end last)))
