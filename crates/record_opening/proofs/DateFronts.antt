-- A WARC-Date at the front of bytes.
use Rattle.std.proofs.Common.{◌≡◌, ℕ, zero, suc, ◌+◌, ◌/◌, ◌%◌, ◌<◌, ◌≤◌, inl, inr, true, false, List, [], ◌∷◌, ◌++◌, length, take, get_or, refl, sym, ap, subst, ◌∙◌, arith}
use Rattle.std.specs.Prelude.{IsTrue, codes, nat_eq}
use Rattle.std.proofs.lemmas.Bool.Decides.{eqb_tells, nat_tests}
use Rattle.std.proofs.Math.ListN.{get_or-append}
use Rattle.std.proofs.lemmas.List.{take_at, take-append-le}
use Rattle.time_text.specs.Calendar.{HasDigits, civil_at}
use Rattle.time_text.specs.Texts.{InRange, clock_of, four_digits, three_digits, two_digits, warc_date, warc_of}
use Rattle.time_text.specs.declared.civil.Civil.{Civil}
use Rattle.time_text.proofs.Moments.{HasDigits-at}
use Rattle.time_text.proofs.WarcLemmas.{warc_cases}
use Rattle.time_text.proofs.DateLaws.{warc_date_front}
use Rattle.record_opening.specs.steps.Dates.{IsDateLen}
use Rattle.record_opening.specs.Stops.{IsFormStop, NoValueStands}
use Rattle.record_opening.specs.Forms.{date_form, fits}
use Rattle.record_opening.specs.OpenValues.{IsPartOfDate}
use Rattle.record_opening.specs.declared.stop.Stop.{Stop}
use Rattle.record_opening.specs.declared.stop.Stop.TheVariants.{Open, Wrong}
use Rattle.record_opening.proofs.Forms.{AllFit, form_stop}
use Rattle.record_opening.proofs.Refusals.{wrong_is_not_open, IsTold}

-- it has twenty bytes at least
pub date_is_long : (date : ℕ) → 20 ≤ length (warc_date date)
unfolding warc_date
date_is_long date = elim (warc_cases (civil_at date)) [
  | inl is ↦ omega (arith, is.long)
  | inr is ↦ omega (arith, is.long)
]

-- and twenty-four at most
pub date_is_short : (date : ℕ) → length (warc_date date) ≤ 24
unfolding warc_date
date_is_short date = elim (warc_cases (civil_at date)) [
  | inl is ↦ omega (arith, is.long)
  | inr is ↦ omega (arith, is.long)
]

-- where a `Z` stands behind its second it has twenty, else twenty-four
front_byte : (bytes after other : List ℕ) (date : ℕ) → 19 < length bytes → bytes ++ after ≡ warc_date date ++ other
    → get_or bytes 19 0 ≡ get_or (warc_date date) 19 0
front_byte bytes after other date long e =
    sym (get_or-append bytes after 0 19 long) ∙ ap (λ (l : List ℕ). get_or l 19 0) e
    ∙ get_or-append (warc_date date) other 0 19 (omega (arith, date_is_long date))

pub whole_len : (bytes after other : List ℕ) (date : ℕ) → 19 < length bytes → get_or bytes 19 0 ≡ 90 → bytes ++ after ≡ warc_date date ++ other
    → 20 ≡ length (warc_date date)
unfolding warc_date
whole_len bytes after other date long z e = elim (warc_cases (civil_at date)) [
  | inl is ↦ sym is.long
  | inr is ↦ absurd (omega (arith, z, front_byte bytes after other date long e, is.last))
]

pub fraction_len : (bytes after other : List ℕ) (date : ℕ) → 19 < length bytes → ¬ (get_or bytes 19 0 ≡ 90) → bytes ++ after ≡ warc_date date ++ other
    → 24 ≡ length (warc_date date)
unfolding warc_date
fraction_len bytes after other date long z e = elim (warc_cases (civil_at date)) [
  | inl is ↦ absurd (z (front_byte bytes after other date long e ∙ is.last))
  | inr is ↦ sym is.long
]

-- ---- the bytes of a date, by their places

-- the bytes of a text fit those of a form, each its own
abbrev Fit : List ℕ → List ℕ → Type 0
Fit form [] = Unit {0}
Fit [] (b ∷ text) = ⊥
Fit (f ∷ form) (b ∷ text) = IsTrue (fits f b) × Fit form text

fit_at : (form text : List ℕ) → Fit form text → (k : ℕ) → k < length text → IsTrue (fits (get_or form k 0) (get_or text k 0))
fit_at form [] fit k lt = absurd (omega arith)
fit_at [] (b ∷ text) fit k lt = absurd fit
fit_at (f ∷ form) (b ∷ text) fit zero lt = fit.0
fit_at (f ∷ form) (b ∷ text) fit (suc k) lt = fit_at form text fit.1 k (omega arith)

digit : (d : ℕ) → d < 10 → fits 57 (48 + d) ≡ true
digit d small = grind (arith, nat_tests)

-- up to its second
abbrev second_of : Civil → List ℕ
second_of c =
    four_digits c.year ++ codes "-" ++ two_digits c.month ++ codes "-" ++ two_digits c.day ++ codes "T" ++ clock_of c

second_fits : (c : Civil) → HasDigits c → Fit date_form (second_of c)
second_fits c is = (
  digit (c.year / 100 / 10) (omega (arith, is.year)),
  (
    digit (c.year / 100 % 10) (omega arith),
    (
      digit (c.year % 100 / 10) (omega arith),
      (
        digit (c.year % 100 % 10) (omega arith),
        (
          refl,
          (
            digit (c.month / 10) (omega (arith, is.month)),
            (
              digit (c.month % 10) (omega arith),
              (
                refl,
                (
                  digit (c.day / 10) (omega (arith, is.day)),
                  (
                    digit (c.day % 10) (omega arith),
                    (
                      refl,
                      (
                        digit (c.hour / 10) (omega (arith, is.hour)),
                        (
                          digit (c.hour % 10) (omega arith),
                          (
                            refl,
                            (
                              digit (c.minute / 10) (omega (arith, is.minute)),
                              (
                                digit (c.minute % 10) (omega arith),
                                (refl, (digit (c.second / 10) (omega (arith, is.second)), (digit (c.second % 10) (omega arith), tt))),
                              ),
                            ),
                          ),
                        ),
                      ),
                    ),
                  ),
                ),
              ),
            ),
          ),
        ),
      ),
    ),
  ),
)

-- behind it
abbrev end_form : List ℕ
end_form = codes ".999Z"

end_fits : (c : Civil) → HasDigits c → Fit end_form (codes "." ++ three_digits c.millisecond ++ codes "Z")
end_fits c is = (
  refl,
  (
    digit (c.millisecond / 100) (omega (arith, is.millisecond)),
    (digit (c.millisecond % 100 / 10) (omega arith), (digit (c.millisecond % 100 % 10) (omega arith), (refl, tt))),
  ),
)

-- of two texts that fit, the one behind the other
fit_append : (form more a b : List ℕ) → length form ≡ length a → Fit form a → Fit more b → Fit (form ++ more) (a ++ b)
fit_append [] more [] b len fit then_ = then_
fit_append (f ∷ form) more [] b len fit then_ = absurd (omega arith)
fit_append [] more (c ∷ a) b len fit then_ = absurd fit
fit_append (f ∷ form) more (c ∷ a) b len fit then_ = (fit.0, fit_append form more a b (omega arith) fit.1 then_)

whole_fits : (c : Civil) → HasDigits c → nat_eq c.millisecond 0 ≡ true → AllFit date_form (warc_of c)
whole_fits c is z k lt =
    let same : warc_of c ≡ second_of c ++ codes "Z" = rw z refl in
    let small : k < 19 = omega (arith, lt, ap length same) in
    let byte : get_or (warc_of c) k 0 ≡ get_or (second_of c) k 0 =
    ap (λ (l : List ℕ). get_or l k 0) same ∙ get_or-append (second_of c) (codes "Z") 0 k small in
    subst (λ b. IsTrue (fits (get_or date_form k 0) b)) (sym byte) (fit_at date_form (second_of c) (second_fits c is) k small)

fraction_fits : (c : Civil) → HasDigits c → nat_eq c.millisecond 0 ≡ false → AllFit date_form (warc_of c)
fraction_fits c is z k lt =
    let end = codes "." ++ three_digits c.millisecond ++ codes "Z" in
    let same : warc_of c ≡ second_of c ++ end = rw z refl in
    subst (λ t. IsTrue (fits (get_or date_form k 0) (get_or t k 0))) (sym same)
    (fit_at date_form (second_of c ++ end) (fit_append (codes "9999-99-99T99:99:99") end_form (second_of c) end refl (second_fits c is) (end_fits c is)) k
    (omega (arith, lt, ap length same)))

pub date_fits : (date : ℕ) → InRange date → AllFit date_form (warc_date date)
unfolding warc_date
date_fits date is =
    let c = civil_at date in
    elim (eqb_tells c.millisecond 0) [
      | inl h ↦ whole_fits c (HasDigits-at date is) h.0
      | inr h ↦ fraction_fits c (HasDigits-at date is) h.0
    ]

-- bytes that are too few for a date
pub date_stop : (bytes : List ℕ) (len : ℕ) (stop : Stop) → IsDateLen bytes len → length bytes < len → IsFormStop date_form bytes stop
    → NoValueStands InRange warc_date IsPartOfDate stop bytes
date_stop bytes len stop is short why =
    form_stop InRange warc_date date_form bytes date_fits stop 0 (omega arith) (omega (arith, date_is_long 0)) (is.most short)
    (λ date after other was e. is.more short date after other e) why

-- a text of the date's length that is no date's
pub wrong_date : (bytes text : List ℕ) (len : ℕ) → IsDateLen bytes len → len ≤ length bytes → text ≡ take len bytes
    → ((date : ℕ) → InRange date → ¬ (text ≡ warc_date date)) → NoValueStands InRange warc_date IsPartOfDate Wrong bytes
wrong_date bytes text len is fits front none = record {
  refuses = λ date was after other e.
      none date was (front ∙ sym (take-append-le len bytes after fits) ∙ ap (take len) e
      ∙ take_at (warc_date date) other len (sym (is.fits fits date after other e)));
  line = tt;
  ends = λ is_open. absurd (wrong_is_not_open Wrong Open refl refl is_open);
}

-- a date is told by its text
pub date_told : (date : ℕ) → IsTold InRange warc_date date
date_told date w x y was e = warc_date_front date w x y e

-- so long is the date that stands there
pub few_bytes : (bytes : List ℕ) → length bytes < 20 → IsDateLen bytes 24
few_bytes bytes few = record {
  most = λ short. short;
  fits = λ long date after other e. absurd (omega arith);
  more = λ short date after other e. omega (arith, few, date_is_long date);
}

pub whole_date : (bytes : List ℕ) → 19 < length bytes → get_or bytes 19 0 ≡ 90 → IsDateLen bytes 20
whole_date bytes long z = record {
  most = λ few. omega arith;
  fits = λ enough date after other e. whole_len bytes after other date long z e;
  more = λ few date after other e. absurd (omega arith);
}

pub fraction_date : (bytes : List ℕ) → 19 < length bytes → ¬ (get_or bytes 19 0 ≡ 90) → IsDateLen bytes 24
fraction_date bytes long z = record {
  most = λ few. few;
  fits = λ enough date after other e. fraction_len bytes after other date long z e;
  more = λ few date after other e. omega (arith, few, fraction_len bytes after other date long z e);
}
