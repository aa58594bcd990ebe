-- What a state of the machine says of the line ends at a stream's front.
use Rattle.std.proofs.Common.{◌≡◌, ◌≢◌, ℕ, ◌+◌, ◌-◌, ◌≤◌, false, ◌&&◌, cond, eqb, List, [], ◌∷◌, length, inl, inr, refl, sym, ap, subst, ◌∙◌, arith, length-drop}
use Rattle.std.proofs.lemmas.Bool.{eq-eqb, eqb-true, eqb-false, le-ltb, cond_both, cases_Bool}
use Rattle.std.proofs.lemmas.List.{drop_all}
use Rattle.capture.specs.Head.{head_end, head_len, line_ends_len, after_line_ends, front_without_head, front_by, front_of}
use Rattle.capture.specs.Head as head
use Rattle.capture.specs.declared.limits.TheConstants.{HEAD_LIMIT}
use Rattle.http_head.specs.HeadReading.{IsOpen, IsBlank}
use Rattle.http_head.specs.steps.HeadSeek.{next_seek, seek_after}
use Rattle.http_head.specs.declared.seek.Seek.{Seek}
use Rattle.http_head.specs.declared.seek.Seek.TheVariants.{Before, BeforeCr, Line, AfterLf, AfterLfCr, Ended}
use Rattle.http_head.proofs.SeekLaws.{cases_byte, line_ends_len-other, line_ends_len-cr_other, after_line_ends-lf, after_line_ends-crlf}

-- a text has begun
pub record HasBegun (text : List ℕ) : Type 0 where
  pub some : text ≢ []
  pub no_cr : text ≢ 13 ∷ []

-- what stands behind the line ends
abbrev pub StandsBehind : Seek → List ℕ → Type 0
StandsBehind Before text = text ≡ []
StandsBehind BeforeCr text = text ≡ 13 ∷ []
StandsBehind Line text = HasBegun text
StandsBehind AfterLf text = HasBegun text
StandsBehind AfterLfCr text = HasBegun text
StandsBehind Ended text = HasBegun text

-- a state that is met once a text has begun
abbrev pub IsLate : Seek → Type 0
IsLate Before = ⊥
IsLate BeforeCr = ⊥
IsLate Line = Unit {0}
IsLate AfterLf = Unit {0}
IsLate AfterLfCr = Unit {0}
IsLate Ended = Unit {0}

IsLate-next : (q : Seek) (b : ℕ) → IsLate q → IsLate (next_seek q b)
IsLate-next Before b h = absurd h
IsLate-next BeforeCr b h = absurd h
IsLate-next Line b h = cond_both (eqb b 10) AfterLf Line IsLate (λ _. tt) (λ _. tt)
IsLate-next AfterLf b h =
    cond_both (eqb b 10) Ended (cond (eqb b 13) AfterLfCr Line) IsLate (λ _. tt)
    (λ _. cond_both (eqb b 13) AfterLfCr Line IsLate (λ _. tt) (λ _. tt))
IsLate-next AfterLfCr b h = cond_both (eqb b 10) Ended Line IsLate (λ _. tt) (λ _. tt)
IsLate-next Ended b h = tt

IsLate-after : (q : Seek) (s : List ℕ) → IsLate q → IsLate (seek_after q s)
IsLate-after q [] h = h
IsLate-after q (b ∷ s) h = IsLate-after (next_seek q b) s (IsLate-next q b h)

StandsBehind-late : (q : Seek) (text : List ℕ) → IsLate q → HasBegun text → StandsBehind q text
StandsBehind-late Before text h begun = absurd h
StandsBehind-late BeforeCr text h begun = absurd h
StandsBehind-late Line text h begun = begun
StandsBehind-late AfterLf text h begun = begun
StandsBehind-late AfterLfCr text h begun = begun
StandsBehind-late Ended text h begun = begun

-- behind the first byte of a line the text has begun
stands_late : (s text : List ℕ) → HasBegun text → StandsBehind (seek_after Line s) text
stands_late s text begun = StandsBehind-late (seek_after Line s) text (IsLate-after Line s tt) begun

HasBegun-other : (b : ℕ) (s : List ℕ) → eqb b 13 ≡ false → HasBegun (b ∷ s)
HasBegun-other b s f = record { some = λ e. cc; no_cr = λ e. eqb-false b 13 f (cc e) }

HasBegun-two : (b c : ℕ) (s : List ℕ) → HasBegun (b ∷ c ∷ s)
HasBegun-two b c s = record { some = λ e. cc; no_cr = λ e. cc }

-- ---- the law

pub record Behind (s : List ℕ) : Type 0 where
  pub before : StandsBehind (seek_after Before s) (after_line_ends s)
  pub before_cr : StandsBehind (seek_after BeforeCr s) (after_line_ends (13 ∷ s))

behind-lf : (s : List ℕ) → Behind s → Behind (10 ∷ s)
behind-lf s law = record {
  before = rw after_line_ends-lf law.before;
  before_cr = rw after_line_ends-crlf law.before;
}

behind-cr : (s : List ℕ) → Behind s → Behind (13 ∷ s)
behind-cr s law = record {
  before = law.before_cr;
  before_cr = stands_late s (13 ∷ 13 ∷ s) (HasBegun-two 13 13 s);
}

behind-other : (b : ℕ) (s : List ℕ) → eqb b 10 ≡ false → eqb b 13 ≡ false → Behind (b ∷ s)
behind-other b s e f =
    let one : next_seek Before b ≡ Line = rw (e, f) refl in
    let two : next_seek BeforeCr b ≡ Line = rw e refl in
    let text : after_line_ends (b ∷ s) ≡ b ∷ s = rw line_ends_len-other refl in
    let text_cr : after_line_ends (13 ∷ b ∷ s) ≡ 13 ∷ b ∷ s = rw line_ends_len-cr_other refl in
    record {
      before = subst (λ q. StandsBehind (seek_after q s) (after_line_ends (b ∷ s))) (sym one)
          (subst (λ t. StandsBehind (seek_after Line s) t) (sym text) (stands_late s (b ∷ s) (HasBegun-other b s f)));
      before_cr = subst (λ q. StandsBehind (seek_after q s) (after_line_ends (13 ∷ b ∷ s))) (sym two)
          (subst (λ t. StandsBehind (seek_after Line s) t) (sym text_cr)
          (stands_late s (13 ∷ b ∷ s) (HasBegun-two 13 b s)));
    }

pub behind : (s : List ℕ) → Behind s
behind [] = record { before = refl; before_cr = refl }
behind (b ∷ s) =
    elim (cases_byte b) [
      | inl lf ↦ subst (λ c. Behind (c ∷ s)) (sym lf) (behind-lf s (behind s))
      | inr no_lf ↦ elim no_lf [
        | inl cr ↦ subst (λ c. Behind (c ∷ s)) (sym cr) (behind-cr s (behind s))
        | inr other ↦ behind-other b s other.0 other.1
      ]
    ]

-- what stands behind the line ends, by the state
pub stands_behind : (q : Seek) (s : List ℕ) → q ≡ seek_after Before s → StandsBehind q (after_line_ends s)
stands_behind q s e = subst (λ p. StandsBehind p (after_line_ends s)) (sym e) (behind s).before

-- ---- the tests

cons_not_nil : (b : ℕ) (s : List ℕ) → b ∷ s ≡ [] → ⊥
cons_not_nil b s e = cc

pub not_blank : (q : Seek) (text : List ℕ) → q ≢ Before → StandsBehind q text → text ≢ []
not_blank Before text h stands = absurd (h refl)
not_blank BeforeCr text h stands = λ e. cons_not_nil 13 [] (sym stands ∙ e)
not_blank Line text h stands = stands.some
not_blank AfterLf text h stands = stands.some
not_blank AfterLfCr text h stands = stands.some
not_blank Ended text h stands = stands.some

pub not_cr : (q : Seek) (text : List ℕ) → q ≢ Before → q ≢ BeforeCr → StandsBehind q text → text ≢ 13 ∷ []
not_cr Before text h i stands = absurd (h refl)
not_cr BeforeCr text h i stands = absurd (i refl)
not_cr Line text h i stands = stands.no_cr
not_cr AfterLf text h i stands = stands.no_cr
not_cr AfterLfCr text h i stands = stands.no_cr
not_cr Ended text h i stands = stands.no_cr

line_ends_len-le : (s : List ℕ) → line_ends_len s ≤ length s
line_ends_len-le [] = omega arith
line_ends_len-le (b ∷ []) = cond_both (eqb b 10) 1 0 (λ n. n ≤ 1) (λ _. omega arith) (λ _. omega arith)
line_ends_len-le (b ∷ c ∷ s) =
    let one = line_ends_len-le (c ∷ s) in
    let two = line_ends_len-le s in
    let P : ℕ → Type 0 = λ n. n ≤ length (b ∷ c ∷ s) in
    cond_both (eqb b 10) (1 + line_ends_len (c ∷ s)) (cond (eqb b 13 && eqb c 10) (2 + line_ends_len s) 0) P
    (λ _. omega arith)
    (λ _. cond_both (eqb b 13 && eqb c 10) (2 + line_ends_len s) 0 P (λ _. omega arith) (λ _. omega arith))

-- a stream of line ends alone, in lengths
blank_len : (s : List ℕ) → IsBlank s → line_ends_len s ≡ length s
blank_len s e =
    let left : length s - line_ends_len s ≡ 0 = sym (length-drop (line_ends_len s) s) ∙ ap length e in
    omega (arith, left, line_ends_len-le s)

blank_from_len : (s : List ℕ) → line_ends_len s ≡ length s → IsBlank s
blank_from_len s e = drop_all (line_ends_len s) s (omega (arith, e))

pub front_of-open : (s : List ℕ) → IsOpen s → front_of s ≡ front_without_head s
front_of-open s going = ap (front_by s) going.0

pub front_of-blank : (s : List ℕ) → IsOpen s → IsBlank s → front_of s ≡ head.Nothing
front_of-blank s going blank =
    front_of-open s going ∙ rw (le-ltb HEAD_LIMIT (length s) going.1, eq-eqb _ _ (blank_len s blank)) refl

pub blank_from_front : (s : List ℕ) → IsOpen s → front_of s ≡ head.Nothing → IsBlank s
blank_from_front s going e =
    let f : front_without_head s ≡ head.Nothing = sym (front_of-open s going) ∙ e in
    let g : cond (eqb (line_ends_len s) (length s)) head.Nothing head.More ≡ head.Nothing =
    rw (le-ltb HEAD_LIMIT (length s) going.1) at f in
    elim (cases_Bool (eqb (line_ends_len s) (length s))) [
      | inl same ↦ blank_from_len s (eqb-true _ _ same)
      | inr other ↦ let h : head.More ≡ head.Nothing = rw other at g in cc
    ]

-- ---- the tests of a reader that holds these bytes in this state

stands_at : (q : Seek) (bytes s : List ℕ) → q ≡ seek_after Before bytes → bytes ≡ s → StandsBehind q (after_line_ends s)
stands_at q bytes s is held = subst (λ t. StandsBehind q (after_line_ends t)) held (stands_behind q bytes is)

pub blank_at : (q : Seek) (bytes s : List ℕ) → q ≡ seek_after Before bytes → bytes ≡ s → q ≡ Before → IsBlank s
blank_at q bytes s is held e = subst (λ p. StandsBehind p (after_line_ends s)) e (stands_at q bytes s is held)

pub cr_at : (q : Seek) (bytes s : List ℕ) → q ≡ seek_after Before bytes → bytes ≡ s → q ≡ BeforeCr
    → after_line_ends s ≡ 13 ∷ []
cr_at q bytes s is held e = subst (λ p. StandsBehind p (after_line_ends s)) e (stands_at q bytes s is held)

pub not_blank_at : (q : Seek) (bytes s : List ℕ) → q ≡ seek_after Before bytes → bytes ≡ s → q ≢ Before → IsBlank s → ⊥
not_blank_at q bytes s is held h = not_blank q (after_line_ends s) h (stands_at q bytes s is held)

pub not_cr_at : (q : Seek) (bytes s : List ℕ) → q ≡ seek_after Before bytes → bytes ≡ s → q ≢ Before → q ≢ BeforeCr
    → after_line_ends s ≡ 13 ∷ [] → ⊥
not_cr_at q bytes s is held h i = not_cr q (after_line_ends s) h i (stands_at q bytes s is held)
