-- The machine that seeks the end of a head finds it where the definition says.
use Rattle.std.proofs.Common.{◌≡◌, ◌≢◌, ℕ, zero, suc, ◌+◌, ◌-◌, ◌<◌, ◌≤◌, true, false, eqb, List, [], ◌∷◌, ◌++◌, length, take, drop, get_or, Option, Some, None, ◌⊎◌, inl, inr, refl, sym, ap, subst, ◌∙◌, append_assoc, length-append, arith}
use Rattle.std.specs.Prelude.{option_map}
use Rattle.std.proofs.lemmas.List.{take_more, take-take, take-append-drop}
use Rattle.std.proofs.lemmas.Bool.{cases_Bool}
use Rattle.std.proofs.lemmas.Bool.Decides.{eqb_tells}
use Rattle.std.proofs.Math.Seq.{take-add}
use Rattle.capture.specs.Head.{head_end, head_len, line_ends_len, empty_line_len, after_line_ends}
use Rattle.http_head.specs.steps.HeadSeek.{next_seek, seek_after}
use Rattle.http_head.specs.declared.seek.Seek.{Seek}
use Rattle.http_head.specs.declared.seek.Seek.TheVariants.{Before, BeforeCr, Line, AfterLf, AfterLfCr, Ended}

-- a byte is LF, or CR, or neither
pub cases_byte : (b : ℕ) → (b ≡ 10) ⊎ ((b ≡ 13) ⊎ ((eqb b 10 ≡ false) × (eqb b 13 ≡ false)))
cases_byte b =
    elim (eqb_tells b 10) [
      | inl lf ↦ inl lf.1
      | inr not_lf ↦ elim (eqb_tells b 13) [ inl cr ↦ inr (inl cr.1) | inr not_cr ↦ inr (inr (not_lf.0, not_cr.0)) ]
    ]

-- a place further on
abbrev pub shift : ℕ → Option ℕ → Option ℕ
shift k o = option_map (λ n. k + n) o

pub shift-shift : (j k : ℕ) (o : Option ℕ) → shift j (shift k o) ≡ shift (j + k) o
shift-shift j k None = refl
shift-shift j k (Some n) = ap Some (omega arith)

pub shift-zero : (o : Option ℕ) → shift 0 o ≡ o
shift-zero None = refl
shift-zero (Some n) = ap Some (omega arith)

-- how many bytes are left up to the head's end, after one more
abbrev pub further : Seek → Option ℕ → Option ℕ
further Before o = shift 1 o
further BeforeCr o = shift 1 o
further Line o = shift 1 o
further AfterLf o = shift 1 o
further AfterLfCr o = shift 1 o
further Ended o = Some 0

-- none are left where the head has ended
abbrev pub at_end : Seek → Option ℕ
at_end Before = None
at_end BeforeCr = None
at_end Line = None
at_end AfterLf = None
at_end AfterLfCr = None
at_end Ended = Some 0

-- how many bytes are left up to the head's end
abbrev pub rest_len : Seek → List ℕ → Option ℕ
rest_len seek [] = at_end seek
rest_len seek (b ∷ bytes) = further seek (rest_len (next_seek seek b) bytes)

pub rest_len-ended : (s : List ℕ) → rest_len Ended s ≡ Some 0
rest_len-ended [] = refl
rest_len-ended (b ∷ s) = refl

-- ---- the definitions, a byte at a time

pub head_len-other : (b : ℕ) (s : List ℕ) → eqb b 10 ≡ false → head_len (b ∷ s) ≡ shift 1 (head_len s)
head_len-other b s e = rw e refl

empty_line_len-other : (b : ℕ) (s : List ℕ) → eqb b 10 ≡ false → eqb b 13 ≡ false → empty_line_len (b ∷ s) ≡ 0
empty_line_len-other b s e f = rw (e, f) refl

head_len-lf_other : (b : ℕ) (s : List ℕ) → eqb b 10 ≡ false → eqb b 13 ≡ false
    → head_len (10 ∷ b ∷ s) ≡ shift 1 (head_len (b ∷ s))
head_len-lf_other b s e f = rw empty_line_len-other refl

head_len-lf_cr_other : (b : ℕ) (s : List ℕ) → eqb b 10 ≡ false
    → head_len (10 ∷ 13 ∷ b ∷ s) ≡ shift 1 (shift 1 (head_len (b ∷ s)))
head_len-lf_cr_other b s e = rw e refl

pub line_ends_len-lf : (s : List ℕ) → line_ends_len (10 ∷ s) ≡ 1 + line_ends_len s
line_ends_len-lf [] = refl
line_ends_len-lf (b ∷ s) = refl

pub line_ends_len-other : (b : ℕ) (s : List ℕ) → eqb b 10 ≡ false → eqb b 13 ≡ false → line_ends_len (b ∷ s) ≡ 0
line_ends_len-other b [] e f = rw e refl
line_ends_len-other b (c ∷ s) e f = rw (e, f) refl

pub line_ends_len-cr_other : (b : ℕ) (s : List ℕ) → eqb b 10 ≡ false → line_ends_len (13 ∷ b ∷ s) ≡ 0
line_ends_len-cr_other b s e = rw e refl

pub drop-one_more : (k : ℕ) (b : ℕ) (s : List ℕ) → drop (1 + k) (b ∷ s) ≡ drop k s
drop-one_more k b s = let e : 1 + k ≡ suc k = omega arith in rw e refl

pub drop-two_more : (k : ℕ) (b c : ℕ) (s : List ℕ) → drop (2 + k) (b ∷ c ∷ s) ≡ drop k s
drop-two_more k b c s = let e : 2 + k ≡ suc (suc k) = omega arith in rw e refl

pub after_line_ends-lf : (s : List ℕ) → after_line_ends (10 ∷ s) ≡ after_line_ends s
after_line_ends-lf s = rw (line_ends_len-lf, drop-one_more) refl

pub after_line_ends-crlf : (s : List ℕ) → after_line_ends (13 ∷ 10 ∷ s) ≡ after_line_ends s
after_line_ends-crlf s = drop-two_more (line_ends_len s) 13 10 s

pub head_end-lf : (s : List ℕ) → head_end (10 ∷ s) ≡ shift 1 (head_end s)
head_end-lf s =
    rw (line_ends_len-lf, drop-one_more) (sym (shift-shift 1 (line_ends_len s) (head_len (after_line_ends s))))

pub head_end-crlf : (s : List ℕ) → head_end (13 ∷ 10 ∷ s) ≡ shift 2 (head_end s)
head_end-crlf s = rw drop-two_more (sym (shift-shift 2 (line_ends_len s) (head_len (after_line_ends s))))

pub head_end-other : (b : ℕ) (s : List ℕ) → eqb b 10 ≡ false → eqb b 13 ≡ false → head_end (b ∷ s) ≡ head_len (b ∷ s)
head_end-other b s e f = rw line_ends_len-other (shift-zero (head_len (b ∷ s)))

head_end-cr_other : (b : ℕ) (s : List ℕ) → eqb b 10 ≡ false → head_end (13 ∷ b ∷ s) ≡ head_len (13 ∷ b ∷ s)
head_end-cr_other b s e = rw line_ends_len-cr_other (shift-zero (head_len (13 ∷ b ∷ s)))

-- ---- the law

pub record SeeksEnd (s : List ℕ) : Type 0 where
  pub before : head_end s ≡ rest_len Before s
  pub before_cr : head_end (13 ∷ s) ≡ shift 1 (rest_len BeforeCr s)
  pub line : head_len s ≡ rest_len Line s
  pub after_lf : head_len (10 ∷ s) ≡ shift 1 (rest_len AfterLf s)
  pub after_lf_cr : head_len (10 ∷ 13 ∷ s) ≡ shift 2 (rest_len AfterLfCr s)

seeks-nothing : SeeksEnd []
seeks-nothing = record { before = refl; before_cr = refl; line = refl; after_lf = refl; after_lf_cr = refl }

seeks-lf : (s : List ℕ) → SeeksEnd s → SeeksEnd (10 ∷ s)
seeks-lf s law = record {
  before = head_end-lf s ∙ ap (shift 1) law.before;
  before_cr = head_end-crlf s ∙ rw law.before (sym (shift-shift 1 1 (rest_len Before s)));
  line = law.after_lf;
  after_lf = ap (λ o. shift 1 (shift 1 o)) (sym (rest_len-ended s));
  after_lf_cr = ap (λ o. shift 2 (shift 1 o)) (sym (rest_len-ended s));
}

seeks-cr : (s : List ℕ) → SeeksEnd s → SeeksEnd (13 ∷ s)
seeks-cr s law = record {
  before = law.before_cr;
  before_cr = head_end-cr_other 13 s refl ∙ ap (λ o. shift 1 (shift 1 o)) law.line;
  line = ap (shift 1) law.line;
  after_lf = law.after_lf_cr ∙ sym (shift-shift 1 1 (rest_len AfterLfCr s));
  after_lf_cr = ap (λ o. shift 1 (shift 1 (shift 1 o))) law.line ∙ shift-shift 1 1 (shift 1 (rest_len Line s));
}

seeks-other : (b : ℕ) (s : List ℕ) → eqb b 10 ≡ false → eqb b 13 ≡ false → SeeksEnd s → SeeksEnd (b ∷ s)
seeks-other b s e f law =
    let here : head_len (b ∷ s) ≡ shift 1 (rest_len Line s) = head_len-other b s e ∙ ap (shift 1) law.line in
    let at_before : rest_len Before (b ∷ s) ≡ shift 1 (rest_len Line s) = rw (e, f) refl in
    let at_before_cr : rest_len BeforeCr (b ∷ s) ≡ shift 1 (rest_len Line s) = rw e refl in
    let at_line : rest_len Line (b ∷ s) ≡ shift 1 (rest_len Line s) = rw e refl in
    let at_lf : rest_len AfterLf (b ∷ s) ≡ shift 1 (rest_len Line s) = rw (e, f) refl in
    let at_lf_cr : rest_len AfterLfCr (b ∷ s) ≡ shift 1 (rest_len Line s) = rw e refl in
    record {
      before = head_end-other b s e f ∙ here ∙ sym at_before;
      before_cr = head_end-cr_other b s e ∙ ap (shift 1) (here ∙ sym at_before_cr);
      line = here ∙ sym at_line;
      after_lf = head_len-lf_other b s e f ∙ ap (shift 1) (here ∙ sym at_lf);
      after_lf_cr =
          head_len-lf_cr_other b s e ∙ ap (λ o. shift 1 (shift 1 o)) (here ∙ sym at_lf_cr)
          ∙ shift-shift 1 1 (rest_len AfterLfCr (b ∷ s));
    }

pub seeks_end : (s : List ℕ) → SeeksEnd s
seeks_end [] = seeks-nothing
seeks_end (b ∷ s) =
    elim (cases_byte b) [
      | inl lf ↦ subst (λ c. SeeksEnd (c ∷ s)) (sym lf) (seeks-lf s (seeks_end s))
      | inr no_lf ↦ elim no_lf [
        | inl cr ↦ subst (λ c. SeeksEnd (c ∷ s)) (sym cr) (seeks-cr s (seeks_end s))
        | inr other ↦ seeks-other b s other.0 other.1 (seeks_end s)
      ]
    ]

-- ---- what a state says of the bytes so far

pub seek_after-ended : (s : List ℕ) → seek_after Ended s ≡ Ended
seek_after-ended [] = refl
seek_after-ended (b ∷ s) = seek_after-ended s

pub seek_after-append : (q : Seek) (s t : List ℕ) → seek_after q (s ++ t) ≡ seek_after (seek_after q s) t
seek_after-append q [] t = refl
seek_after-append q (b ∷ s) t = seek_after-append (next_seek q b) s t

pub seek_after-take_more : (q : Seek) (s : List ℕ) (i : ℕ) → i < length s
    → seek_after q (take (i + 1) s) ≡ next_seek (seek_after q (take i s)) (get_or s i 0)
seek_after-take_more q s i h =
    ap (seek_after q) (take_more s i 0 h) ∙ seek_after-append q (take i s) (get_or s i 0 ∷ [])

-- before a state that isn't the end none was
pub going_before : (q : Seek) (s t : List ℕ) → seek_after q (s ++ t) ≢ Ended → seek_after q s ≢ Ended
going_before q s t going ended =
    going (seek_after-append q s t ∙ ap (λ p. seek_after p t) ended ∙ seek_after-ended t)

pub going_at_less : (q : Seek) (s : List ℕ) (m n : ℕ) → m ≤ n → seek_after q (take n s) ≢ Ended
    → seek_after q (take m s) ≢ Ended
going_at_less q s m n h going ended =
    let split : take m s ++ drop m (take n s) ≡ take n s =
    ap (λ f. f ++ drop m (take n s)) (sym (take-take m n s h)) ∙ take-append-drop m (take n s) in
    going_before q (take m s) (drop m (take n s)) (λ e. going (ap (seek_after q) (sym split) ∙ e)) ended

pub further-going : (q : Seek) (o : Option ℕ) → q ≢ Ended → further q o ≡ shift 1 o
further-going Before o going = refl
further-going BeforeCr o going = refl
further-going Line o going = refl
further-going AfterLf o going = refl
further-going AfterLfCr o going = refl
further-going Ended o going = absurd (going refl)

going_first : (q : Seek) (s : List ℕ) → seek_after q s ≢ Ended → q ≢ Ended
going_first q s going = going_before q [] s going

pub at_end-going : (q : Seek) → q ≢ Ended → at_end q ≡ None
at_end-going Before going = refl
at_end-going BeforeCr going = refl
at_end-going Line going = refl
at_end-going AfterLf going = refl
at_end-going AfterLfCr going = refl
at_end-going Ended going = absurd (going refl)

pub at_end-some : (q : Seek) (n : ℕ) → at_end q ≡ Some n → n ≡ 0
at_end-some Before n e = cc
at_end-some BeforeCr n e = cc
at_end-some Line n e = cc
at_end-some AfterLf n e = cc
at_end-some AfterLfCr n e = cc
at_end-some Ended n e = cc

pub shift-some : (k : ℕ) (o : Option ℕ) (n : ℕ) → shift k o ≡ Some n → (m : ℕ) × (o ≡ Some m) × (n ≡ k + m)
shift-some k None n e = cc
shift-some k (Some m) n e = (m, refl, cc)

pub shift-none : (k : ℕ) (o : Option ℕ) → shift k o ≡ None → o ≡ None
shift-none k None e = refl
shift-none k (Some m) e = cc

-- while the machine goes on, no end is found
pub rest_len-going : (q : Seek) (s : List ℕ) → seek_after q s ≢ Ended → rest_len q s ≡ None
rest_len-going q [] going = at_end-going q going
rest_len-going q (b ∷ s) going =
    further-going q _ (going_first q (b ∷ s) going) ∙ ap (shift 1) (rest_len-going (next_seek q b) s going)

-- where it ends, an end is found
pub rest_len-some : (q : Seek) (s : List ℕ) → seek_after q s ≡ Ended → rest_len q s ≢ None
rest_len-some q [] ended e = let f : at_end Ended ≡ None = ap at_end (sym ended) ∙ e in cc
rest_len-some Before (b ∷ s) ended e = rest_len-some (next_seek Before b) s ended (shift-none 1 _ e)
rest_len-some BeforeCr (b ∷ s) ended e = rest_len-some (next_seek BeforeCr b) s ended (shift-none 1 _ e)
rest_len-some Line (b ∷ s) ended e = rest_len-some (next_seek Line b) s ended (shift-none 1 _ e)
rest_len-some AfterLf (b ∷ s) ended e = rest_len-some (next_seek AfterLf b) s ended (shift-none 1 _ e)
rest_len-some AfterLfCr (b ∷ s) ended e = rest_len-some (next_seek AfterLfCr b) s ended (shift-none 1 _ e)
rest_len-some Ended (b ∷ s) ended e = cc

-- an end that one byte makes is behind that byte
pub rest_len-last : (q : Seek) (s : List ℕ) (b n : ℕ) → seek_after q s ≢ Ended → rest_len q (s ++ b ∷ []) ≡ Some n
    → n ≡ length s + 1
rest_len-last q [] b n going e =
    let m = shift-some 1 (at_end (next_seek q b)) n (sym (further-going q _ going) ∙ e) in
    omega (arith, m.2, at_end-some (next_seek q b) m.0 m.1)
rest_len-last q (c ∷ s) b n going e =
    let m = shift-some 1 (rest_len (next_seek q c) (s ++ b ∷ [])) n
    (sym (further-going q _ (going_first q (c ∷ s) going)) ∙ e) in
    omega (arith, m.2, rest_len-last (next_seek q c) s b m.0 going m.1)

-- ---- going on by more than a byte

-- after the bytes of a first part, and of one behind it
pub seek_after-take_further : (q : Seek) (s : List ℕ) (m n : ℕ)
    → seek_after q (take (m + n) s) ≡ seek_after (seek_after q (take m s)) (take n (drop m s))
seek_after-take_further q s m n =
    ap (seek_after q) (take-add m n s) ∙ seek_after-append q (take m s) (take n (drop m s))

-- what was found behind a first part is found of the whole
pub sought_further : (start q after : Seek) (s rest : List ℕ) (m n : ℕ) → q ≡ seek_after start (take m s)
    → rest ≡ drop m s → after ≡ seek_after q (take n rest) → after ≡ seek_after start (take (m + n) s)
sought_further start q after s rest m n is back found =
    found ∙ ap (λ t. seek_after q (take n t)) back ∙ ap (λ p. seek_after p (take n (drop m s))) is
    ∙ sym (seek_after-take_further start s m n)

pub going_further : (start q : Seek) (s rest : List ℕ) (m n : ℕ) → q ≡ seek_after start (take m s) → rest ≡ drop m s
    → 0 < n → seek_after q (take (n - 1) rest) ≢ Ended → seek_after start (take (m + n - 1) s) ≢ Ended
going_further start q s rest m n is back some going ended =
    let same : m + n - 1 ≡ m + (n - 1) = omega arith in
    let at : seek_after start (take (m + (n - 1)) s) ≡ Ended = rw same at ended in
    going (sought_further start q _ s rest m (n - 1) is back refl ∙ at)

-- inside a line only a LF is looked at
pub line_goes_on : (s : List ℕ) (n : ℕ) → ((k : ℕ) → k < n → eqb (get_or s k 0) 10 ≡ true → ⊥)
    → seek_after Line (take n s) ≡ Line
line_goes_on s zero none = refl
line_goes_on [] (suc n) none = refl
line_goes_on (b ∷ s) (suc n) none =
    elim (cases_Bool (eqb b 10)) [
      | inl lf ↦ absurd (none 0 (omega arith) lf)
      | inr other ↦
          let line : next_seek Line b ≡ Line = rw other refl in
          ap (λ q. seek_after q (take n s)) line ∙ line_goes_on s n (λ k h. none (suc k) (omega arith))
    ]

pub line_ends_at : (s : List ℕ) (n : ℕ) → n < length s → ((k : ℕ) → k < n → eqb (get_or s k 0) 10 ≡ true → ⊥)
    → eqb (get_or s n 0) 10 ≡ true → seek_after Line (take (n + 1) s) ≡ AfterLf
line_ends_at s n h none lf =
    seek_after-take_more Line s n h ∙ ap (λ q. next_seek q (get_or s n 0)) (line_goes_on s n none) ∙ rw lf refl

-- ---- where a head ends

pub open_from_going : (s : List ℕ) → seek_after Before s ≢ Ended → head_end s ≡ None
open_from_going s going = (seeks_end s).before ∙ rest_len-going Before s going

pub going_from_open : (s : List ℕ) → head_end s ≡ None → seek_after Before s ≢ Ended
going_from_open s e ended = rest_len-some Before s ended (sym (seeks_end s).before ∙ e)

some_since_not_none : (o : Option ℕ) → o ≢ None → (n : ℕ) × (o ≡ Some n)
some_since_not_none None h = absurd (h refl)
some_since_not_none (Some n) h = (n, refl)

pub ended_has_end : (s : List ℕ) → seek_after Before s ≡ Ended → (n : ℕ) × (head_end s ≡ Some n)
ended_has_end s ended = some_since_not_none (head_end s) (λ e. going_from_open s e ended)

pub ends_last : (s t : List ℕ) (u : ℕ) → u ≤ length t → seek_after Before (s ++ take (u - 1) t) ≢ Ended
    → (n : ℕ) → head_end (s ++ take u t) ≡ Some n → n ≡ length (s ++ take u t)
ends_last s t zero h going n e =
    let none = open_from_going (s ++ take 0 t) going in cc
ends_last s t (suc k) h going n e =
    let last : take (suc k) t ≡ take k t ++ get_or t k 0 ∷ [] =
    let f : suc k ≡ k + 1 = omega arith in rw f (take_more t k 0 (omega arith)) in
    let all : s ++ take (suc k) t ≡ (s ++ take k t) ++ get_or t k 0 ∷ [] =
    ap (λ r. s ++ r) last ∙ sym (append_assoc s (take k t) (get_or t k 0 ∷ [])) in
    let same : suc k - 1 ≡ k = omega arith in
    let before : seek_after Before (s ++ take k t) ≢ Ended = rw same at going in
    let found = rest_len-last Before (s ++ take k t) (get_or t k 0) n before
    (ap (rest_len Before) (sym all) ∙ sym (seeks_end (s ++ take (suc k) t)).before ∙ e) in
    found ∙ sym (ap length all ∙ length-append (s ++ take k t) (get_or t k 0 ∷ []))
