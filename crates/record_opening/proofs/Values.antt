-- Texts of several values, one after another.
use Rattle.std.proofs.Common.{◌≡◌, ℕ, List, ◌++◌, append_assoc, sym, ap, subst, ◌∙◌}
use Rattle.record_opening.specs.Stops.{Leaves, NoneStands}
use Rattle.record_opening.specs.OpenValues.{EndsInside}
use Rattle.record_opening.specs.declared.stop.Stop.{Stop}
use Rattle.record_opening.proofs.Refusals.{refuses_more, refuses_behind, ends_more, ends_behind, IsTold}

-- a value that has others in it
pub none_of : {V W : Type 0} (Is : V → Type 0) (text : V → List ℕ) (Are : W → Type 0) (f : W → V) (stop : Stop) (bytes : List ℕ)
    → ((w : W) → Are w → Is (f w)) → ((v : V) → Is v → (w : W) × Are w × (f w ≡ v))
    → NoneStands Is text stop bytes → NoneStands Are (λ w. text (f w)) stop bytes
none_of Is text Are f stop bytes has made none = record {
  refuses = λ w are. none.refuses (f w) (has w are);
  line = none.line;
  ends = λ open_.
      let some = none.ends open_ in
      let whole = made some.0 some.1 in
      (whole.0, whole.1, subst (λ v. EndsInside (text v) bytes) (sym whole.2) some.2);
}

module _ {V W : Type 0} (Is : V → Type 0) (text : V → List ℕ) (Are : W → Type 0) (others : W → List ℕ) where
  -- both values
  abbrev pub Both : V × W → Type 0
  Both p = Is p.0 × Are p.1

  abbrev pub both_texts : V × W → List ℕ
  both_texts p = text p.0 ++ others p.1

  pub both_told : (v : V) (w : W) → IsTold Is text v → IsTold Are others w → IsTold Both both_texts (v, w)
  both_told v w told told₂ p x y is e =
      let first = told p.0 (others w ++ x) (others p.1 ++ y) is.0 (sym (append_assoc (text v) (others w) x) ∙ e ∙ append_assoc (text p.0) (others p.1) y) in
      let second = told₂ p.1 x y is.1 first.1 in
      ((λ i. (first.0 i, second.0 i)), second.1)

  -- the first is refused
  pub first_refused : (stop : Stop) (bytes : List ℕ) (w : W) → Are w → NoneStands Is text stop bytes → NoneStands Both both_texts stop bytes
  first_refused stop bytes w are none = record {
    refuses = λ p is. refuses_more stop bytes (text p.0) (others p.1) (none.refuses p.0 is.0);
    line = none.line;
    ends = λ open_. let some = none.ends open_ in ((some.0, w), (some.1, are), ends_more (text some.0) (others w) bytes some.2);
  }

  -- the first stands, and the second is refused
  pub second_refused : (stop : Stop) (bytes rest : List ℕ) (v : V) → Is v → IsTold Is text v → bytes ≡ text v ++ rest
      → NoneStands Are others stop rest → NoneStands Both both_texts stop bytes
  second_refused stop bytes rest v is told composed none = record {
    refuses = λ p are after other e.
        let apart : text v ++ (rest ++ after) ≡ text p.0 ++ (others p.1 ++ other) =
        sym (append_assoc (text v) rest after) ∙ sym (ap (λ t. t ++ after) composed) ∙ e ∙ append_assoc (text p.0) (others p.1) other in
        let same = told p.0 (rest ++ after) (others p.1 ++ other) are.0 apart in
        subst (λ u. Leaves stop bytes (text u ++ others p.1)) same.0
        (refuses_behind stop bytes (text v) rest (others p.1) none.line composed (none.refuses p.1 are.1) after other
        (e ∙ ap (λ u. (text u ++ others p.1) ++ other) (sym same.0)));
    line = none.line;
    ends = λ open_. let some = none.ends open_ in ((v, some.0), (is, some.1), ends_behind bytes (text v) rest (others some.0) composed some.2);
  }
