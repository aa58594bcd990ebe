use Rattle.std.proofs.Common.{◌≡◌, ◌++◌, ◌∷◌, ◌∙◌, [], List, ℕ, ap, sym, subst}
use Rattle.std.specs.Prelude.{IfSome}
use Rattle.json.specs.Print.{escape_byte}
use Rattle.cdxj_line.proofs.Escapes.{short_escape, long_escape, no_escape}
use Rattle.cdxj_line.proofs.unescaping.strip_escape.Goals as goal

pub returns-then-letter-gt0-clause-some : goal.returns-then-letter-gt0-clause-some
returns-then-letter-gt0-clause-some c =
    let escape = short_escape c.args.byte c.letter_of-letter.result c.letter_of-letter.ensures c.if-letter-gt0.true in
    subst (λ (front : List ℕ). IfSome c.strip.result (λ rest. c.args.text.now ≡ front ++ rest.now)) (sym escape) c.strip.ensures.some

pub returns-then-letter-gt0-clause-found : goal.returns-then-letter-gt0-clause-found
returns-then-letter-gt0-clause-found c = λ rest is.
    let escape = short_escape c.args.byte c.letter_of-letter.result c.letter_of-letter.ensures c.if-letter-gt0.true in
    c.strip.ensures.found rest (is ∙ ap (λ front. front ++ rest) escape)

pub returns-then-byte-lt32-clause-some : goal.returns-then-byte-lt32-clause-some
returns-then-byte-lt32-clause-some c =
    let long = long_escape c.args.byte c.letter_of-letter.result c.letter_of-letter.ensures c.if-letter-gt0.false c.if-byte-lt32.true in
    let escape : escape_byte c.args.byte ≡ 92 ∷ 117 ∷ 48 ∷ 48 ∷ c.hex_digit-high.result ∷ c.hex_digit-low.result ∷ [] = cc (long, c.hex_digit-high.ensures, c.hex_digit-low.ensures) in
    subst (λ (front : List ℕ). IfSome c.strip-then-byte-lt32.result (λ rest. c.args.text.now ≡ front ++ rest.now)) (sym escape) c.strip-then-byte-lt32.ensures.some

pub returns-then-byte-lt32-clause-found : goal.returns-then-byte-lt32-clause-found
returns-then-byte-lt32-clause-found c = λ rest is.
    let long = long_escape c.args.byte c.letter_of-letter.result c.letter_of-letter.ensures c.if-letter-gt0.false c.if-byte-lt32.true in
    let escape : escape_byte c.args.byte ≡ 92 ∷ 117 ∷ 48 ∷ 48 ∷ c.hex_digit-high.result ∷ c.hex_digit-low.result ∷ [] = cc (long, c.hex_digit-high.ensures, c.hex_digit-low.ensures) in
    c.strip-then-byte-lt32.ensures.found rest (is ∙ ap (λ front. front ++ rest) escape)

pub returns-clause-some : goal.returns-clause-some
returns-clause-some c =
    let escape = no_escape c.args.byte c.letter_of-letter.result c.letter_of-letter.ensures c.if-letter-gt0.false c.if-byte-lt32.false in
    subst (λ (front : List ℕ). IfSome c.strip-2.result (λ rest. c.args.text.now ≡ front ++ rest.now)) (sym escape) c.strip-2.ensures.some

pub returns-clause-found : goal.returns-clause-found
returns-clause-found c = λ rest is.
    let escape = no_escape c.args.byte c.letter_of-letter.result c.letter_of-letter.ensures c.if-letter-gt0.false c.if-byte-lt32.false in
    c.strip-2.ensures.found rest (is ∙ ap (λ front. front ++ rest) escape)
