-- The value that stands behind an attribute's name.
use Rattle.std.proofs.Common.{◌≡◌, ℕ, ◌+◌, ◌<◌, ◌≤◌, Bool, true, false, not, ◌||◌, ◌==◌, cond, List, [], ◌∷◌, ◌++◌, length, take, drop, refl, sym, ◌∙◌, ap, subst, arith, Some}
use Rattle.std.proofs.Math.Numerals.{one-add}
use Rattle.std.proofs.Math.Seq.{drop-append_seam}
use Rattle.std.proofs.lemmas.List.{take-append-drop, length-append, length-drop, length-take-le, drop-drop}
use Rattle.std.proofs.lemmas.List.Sums.{prefix_len-le-length}
use Rattle.std.proofs.lemmas.Bool.{false≢true, eqb-true}
use Rattle.std.specs.List.{prefix_len}
use Rattle.html_rewrite.specs.declared.attribute.Quote.{Quote}
use Rattle.html_rewrite.specs.declared.attribute.Quote.TheVariants.{Double, Single, Bare}
use Rattle.html_rewrite.specs.Bytes.{equals, quotation, apostrophe, is_blank, is_empty, begins, IsRun}
use Rattle.html_rewrite.specs.Tags.{Assignment, IsAssigned, assigns, assigned_text, quote_at, quote_text, is_value_byte, value_text}
use Rattle.html_rewrite.specs.steps.Reading.{IsValueAt, IsUnclosed, sign_len}
use Rattle.html_rewrite.proofs.Runs.{run_at, run_is, up_to_stops}

assigns_step : (b : ℕ) (t : List ℕ) (v : Bool) → assigns t ≡ begins (λ c. c == equals) (drop (prefix_len is_blank t) t) → cond v (assigns t) (b == equals) ≡ begins (λ c. c == equals) (drop (cond v (1 + prefix_len is_blank t) 0) (b ∷ t))
assigns_step b t true e = rw (one-add (prefix_len is_blank t)) e
assigns_step b t false e = refl

-- `=` follows where it stands behind the blanks
pub assigns_is : (t : List ℕ) → assigns t ≡ begins (λ b. b == equals) (drop (prefix_len is_blank t) t)
assigns_is [] = refl
assigns_is (b ∷ t) = assigns_step b t (is_blank b) (assigns_is t)

-- a text that begins with a byte
pub begins_split : (c : ℕ) (t : List ℕ) → begins (λ b. b == c) t ≡ true → t ≡ c ∷ drop 1 t
begins_split c [] e = absurd (false≢true e)
begins_split c (b ∷ t) e = ap (λ x. x ∷ t) (eqb-true b c e)

-- the sign is there only where `=` is
pub sign_begins : (t : List ℕ) → 0 < sign_len t → begins (λ b. b == equals) (drop (prefix_len is_blank t) t) ≡ true
sign_begins t h =
    elim (begins (λ b. b == equals) (drop (prefix_len is_blank t) t))
    as (λ v. 0 < cond v (prefix_len is_blank t + 1 + prefix_len is_blank (drop 1 (drop (prefix_len is_blank t) t))) 0 → v ≡ true)
    [ true ↦ λ _. refl | false ↦ λ l. absurd (omega (arith, l)) ] h

-- no sign, and no `=`
pub sign_missing : (t : List ℕ) → sign_len t ≡ 0 → assigns t ≡ false
sign_missing t h =
    assigns_is t ∙ (elim (begins (λ b. b == equals) (drop (prefix_len is_blank t) t))
    as (λ v. cond v (prefix_len is_blank t + 1 + prefix_len is_blank (drop 1 (drop (prefix_len is_blank t) t))) 0 ≡ 0 → v ≡ false)
    [ true ↦ λ l. absurd (omega (arith, l)) | false ↦ λ _. refl ] h)

sign_is : (t : List ℕ) → begins (λ b. b == equals) (drop (prefix_len is_blank t) t) ≡ true → sign_len t ≡ prefix_len is_blank t + 1 + prefix_len is_blank (drop 1 (drop (prefix_len is_blank t) t))
sign_is t e = rw e refl

-- what stands behind the sign
pub sign_rest : (t : List ℕ) → begins (λ b. b == equals) (drop (prefix_len is_blank t) t) ≡ true → drop (sign_len t) t ≡ drop (prefix_len is_blank (drop 1 (drop (prefix_len is_blank t) t))) (drop 1 (drop (prefix_len is_blank t) t))
sign_rest t e =
    let p = prefix_len is_blank t in
    let q = prefix_len is_blank (drop 1 (drop p t)) in
    let sum : sign_len t ≡ p + (1 + q) = sign_is t e ∙ (omega arith) in
    ap (λ n. drop n t) sum ∙ sym (drop-drop (1 + q) p t) ∙ sym (drop-drop q 1 (drop p t))

quote_cases : (b : ℕ) (t : List ℕ) (v w : Bool) (q : Quote) → (b == quotation) ≡ v → (b == apostrophe) ≡ w → cond v Double (cond w Single Bare) ≡ q → b ∷ t ≡ quote_text q ++ drop (length (quote_text q)) (b ∷ t)
quote_cases b t true w q d s e = subst (λ (x : Quote). b ∷ t ≡ quote_text x ++ drop (length (quote_text x)) (b ∷ t)) e (ap (λ x. x ∷ t) (eqb-true b quotation d))
quote_cases b t false true q d s e = subst (λ (x : Quote). b ∷ t ≡ quote_text x ++ drop (length (quote_text x)) (b ∷ t)) e (ap (λ x. x ∷ t) (eqb-true b apostrophe s))
quote_cases b t false false q d s e = subst (λ (x : Quote). b ∷ t ≡ quote_text x ++ drop (length (quote_text x)) (b ∷ t)) e refl

-- a text begins with its quote
pub quote_split : (t : List ℕ) (q : Quote) → quote_at t ≡ q → t ≡ quote_text q ++ drop (length (quote_text q)) t
quote_split [] q e = subst (λ (x : Quote). [] ≡ quote_text x ++ drop (length (quote_text x)) []) e refl
quote_split (b ∷ t) q e = quote_cases b t (b == quotation) (b == apostrophe) q refl refl e

closed_by : (c : ℕ) (t : List ℕ) → 1 ≤ length t → (is_empty t || not (begins (λ b. not (b == c)) t)) ≡ true → t ≡ c ∷ drop 1 t
closed_by c [] h e = absurd (omega arith)
closed_by c (b ∷ t) h e = ap (λ x. x ∷ t) (eqb-true b c (not_not (b == c) e))
  where
    not_not : (v : Bool) → not (not v) ≡ true → v ≡ true
    not_not true h = refl
    not_not false h = absurd (false≢true h)

-- what stands behind a value begins with its closing quote
pub closing_split : (q : Quote) (t : List ℕ) → prefix_len (is_value_byte q) t + length (quote_text q) ≤ length t → drop (prefix_len (is_value_byte q) t) t ≡ quote_text q ++ drop (length (quote_text q)) (drop (prefix_len (is_value_byte q) t) t)
closing_split Double t h =
    let n = prefix_len (is_value_byte Double) t in
    closed_by quotation (drop n t) (omega (arith, length-drop n t)) (up_to_stops (λ text. not (begins (is_value_byte Double) text)) (take n t) (drop n t) (run_at (is_value_byte Double) t))
closing_split Single t h =
    let n = prefix_len (is_value_byte Single) t in
    closed_by apostrophe (drop n t) (omega (arith, length-drop n t)) (up_to_stops (λ text. not (begins (is_value_byte Single) text)) (take n t) (drop n t) (run_at (is_value_byte Single) t))
closing_split Bare t h = refl

value_parts : (t : List ℕ) (q : Quote) (before tail after behind inner value closed rest : List ℕ) → IsRun is_blank before (equals ∷ tail) → t ≡ before ++ (equals ∷ tail) → IsRun is_blank after behind → tail ≡ after ++ behind → quote_at behind ≡ q → behind ≡ quote_text q ++ inner → IsRun (is_value_byte q) value closed → inner ≡ value ++ closed → closed ≡ quote_text q ++ rest → IsValueAt t (length before + 1 + length after + length (quote_text q)) (length value) (length (quote_text q))
value_parts t q before tail after behind inner value closed rest run_before eq_t run_after eq_tail is_q eq_behind run_value eq_inner eq_closed =
    let whole : behind ≡ quote_text q ++ (value ++ (quote_text q ++ rest)) = eq_behind ∙ ap (λ x. quote_text q ++ x) (eq_inner ∙ ap (λ x. value ++ x) eq_closed) in
    let tails : tail ≡ after ++ (quote_text q ++ (value ++ (quote_text q ++ rest))) = eq_tail ∙ ap (λ x. after ++ x) whole in
    record {
      assignment = record { before = before; after = after; quote = q; value = value };
      rest = rest;
      assigned = record {
        before = subst (λ (x : List ℕ). IsRun is_blank before (equals ∷ x)) tails run_before;
        after = subst (λ (x : List ℕ). IsRun is_blank after x) whole run_after;
        quote = ap quote_at (sym whole) ∙ is_q;
        value = subst (λ (x : List ℕ). IsRun (is_value_byte q) value x) eq_closed run_value;
      };
      parts = eq_t ∙ ap (λ x. before ++ (equals ∷ x)) tails;
      leads = refl;
      lasts = refl;
      closes = refl;
    }

-- the value, where it has its end
pub value_found : (t : List ℕ) (n c len : ℕ) (q : Quote) → n ≡ sign_len t → 0 < n → q ≡ quote_at (drop n t) → c ≡ length (quote_text q) → len ≡ prefix_len (is_value_byte q) (drop c (drop n t)) → len + c ≤ length (drop c (drop n t)) → IsValueAt t (n + c) len c
value_found t n c len q is_n some is_q is_c is_len fits =
    let p = prefix_len is_blank t in
    let tail = drop 1 (drop p t) in
    let s = prefix_len is_blank tail in
    let behind = drop s tail in
    let signed : 0 < sign_len t = omega (arith, is_n) in
    let begun : drop p t ≡ equals ∷ tail = begins_split equals (drop p t) (sign_begins t signed) in
    let same : drop n t ≡ behind = ap (λ x. drop x t) is_n ∙ sign_rest t (sign_begins t signed) in
    let quoted : quote_at behind ≡ q = ap quote_at (sym same) ∙ sym is_q in
    let k = length (quote_text q) in
    let inner = drop k behind in
    let inner_is : drop c (drop n t) ≡ inner = rw is_c (ap (drop k) same) in
    let l = prefix_len (is_value_byte q) inner in
    let l_is : len ≡ l = is_len ∙ ap (prefix_len (is_value_byte q)) inner_is in
    let lengths : length (drop c (drop n t)) ≡ length inner = ap length inner_is in
    let ends : l + k ≤ length inner = omega (arith, fits, l_is, is_c, lengths) in
    let found = value_parts t q (take p t) tail (take s tail) behind inner (take l inner) (drop l inner) (drop k (drop l inner)) (subst (λ (x : List ℕ). IsRun is_blank (take p t) x) begun (run_at is_blank t)) (sym (take-append-drop p t) ∙ ap (λ x. take p t ++ x) begun) (run_at is_blank tail) (sym (take-append-drop s tail)) quoted (quote_split behind q quoted) (run_at (is_value_byte q) inner) (sym (take-append-drop l inner)) (closing_split q inner ends) in
    let first : length (take p t) ≡ p = length-take-le p t (prefix_len-le-length is_blank t) in
    let second : length (take s tail) ≡ s = length-take-le s tail (prefix_len-le-length is_blank tail) in
    let third : length (take l inner) ≡ l = length-take-le l inner (prefix_len-le-length (is_value_byte q) inner) in
    let sum : length (take p t) + 1 + length (take s tail) + k ≡ n + c = omega (arith, first, second, is_n, is_c, sign_is t (sign_begins t signed)) in
    subst (λ (x : ℕ). IsValueAt t (n + c) len x) (sym is_c) (subst (λ (x : ℕ). IsValueAt t (n + c) x k) (third ∙ sym l_is) (subst (λ (x : ℕ). IsValueAt t x (length (take l inner)) k) sum found))

-- what stands behind the sign of a value
pub assigned_behind : (t : List ℕ) (a : Assignment) (rest : List ℕ) → IsAssigned a rest → t ≡ assigned_text (Some a) rest → 0 < sign_len t → drop (sign_len t) t ≡ value_text a rest
assigned_behind t a rest is e signed =
    let p = prefix_len is_blank t in
    let sign : equals ∷ (a.after ++ value_text a rest) ≡ drop p t = (run_is is_blank a.before (equals ∷ (a.after ++ value_text a rest)) t is.before e).1 in
    let tail : drop 1 (drop p t) ≡ a.after ++ value_text a rest = ap (drop 1) (sym sign) in
    sign_rest t (sign_begins t signed) ∙ sym (run_is is_blank a.after (value_text a rest) (drop 1 (drop p t)) is.after tail).1

-- no value, where the closing quote is missing
pub value_unclosed : (t : List ℕ) (n c len : ℕ) (q : Quote) → n ≡ sign_len t → 0 < n → q ≡ quote_at (drop n t) → c ≡ length (quote_text q) → len ≡ prefix_len (is_value_byte q) (drop c (drop n t)) → length (drop c (drop n t)) < len + c → IsUnclosed t
value_unclosed t n c len q is_n some is_q is_c is_len short =
    let signed : 0 < sign_len t = omega (arith, is_n) in
    record {
      signed = assigns_is t ∙ sign_begins t signed;
      none = λ a rest is e.
          let behind : drop n t ≡ value_text a rest = ap (λ x. drop x t) is_n ∙ assigned_behind t a rest is e signed in
          let quoted : q ≡ a.quote = is_q ∙ ap quote_at behind ∙ is.quote in
          let k : c ≡ length (quote_text a.quote) = is_c ∙ ap (λ x. length (quote_text x)) quoted in
          let inner : drop c (drop n t) ≡ a.value ++ (quote_text a.quote ++ rest) = rw (k, behind) (drop-append_seam (quote_text a.quote) (a.value ++ (quote_text a.quote ++ rest))) in
          let l : len ≡ prefix_len (is_value_byte a.quote) (drop c (drop n t)) = is_len ∙ ap (λ x. prefix_len (is_value_byte x) (drop c (drop n t))) quoted in
          let closed : quote_text a.quote ++ rest ≡ drop (prefix_len (is_value_byte a.quote) (drop c (drop n t))) (drop c (drop n t)) = (run_is (is_value_byte a.quote) a.value (quote_text a.quote ++ rest) (drop c (drop n t)) is.value inner).1 in
          let sizes : length (quote_text a.quote ++ rest) ≡ length (drop (prefix_len (is_value_byte a.quote) (drop c (drop n t))) (drop c (drop n t))) = ap length closed in
          let m = prefix_len (is_value_byte a.quote) (drop c (drop n t)) in
          let bound : m ≤ length (drop c (drop n t)) = prefix_len-le-length (is_value_byte a.quote) (drop c (drop n t)) in
          omega (arith, sizes, bound, l, k, short, length-append (quote_text a.quote) rest, length-drop m (drop c (drop n t)));
    }
