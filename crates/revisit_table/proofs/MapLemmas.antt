-- A map in which one value was written, read through a function of the values.
use Rattle.std.proofs.Common.{◌≡◌, ℕ, Bool, true, false, cond, List, Option, None, Some, refl, sym, ◌∙◌, ap}
use Rattle.std.specs.BTreeMap.{BTreeMap, Updates, get}
use Rattle.std.specs.Cmp.Lexicographic.{slice_cmp}
use Rattle.std.specs.Option.{option_map_or}
use Rattle.std.specs.Ordering.{nat_cmp, is_eq}
use Rattle.std.specs.Str.{bytes_eq}
use Rattle.std.proofs.lemmas.Bool.{cond_both}
use Rattle.std.proofs.lemmas.Map.Text.{is_eq-slice_cmp}
use Rattle.std.proofs.lemmas.Slice.Eq.{bytes_eq-Decides}

module _ {X R : Type 0} (f : X → R) (d : R) where
  -- what is read at a key
  abbrev pub read_at : BTreeMap (List ℕ) X → List ℕ → R
  read_at m key = option_map_or f (get (slice_cmp nat_cmp) m key) d

  -- what is read after the value at a key was written, or taken out by `None`
  read-updated : (m n : BTreeMap (List ℕ) X) (key : List ℕ) (w : Option X) → Updates (slice_cmp nat_cmp) m n key w → (other : List ℕ) → read_at n other ≡ cond (bytes_eq key other) (option_map_or f w d) (read_at m other)
  read-updated m n key w updates other =
      ap (λ o. option_map_or f o d) (updates.0 other) ∙ chosen (is_eq (slice_cmp nat_cmp key other)) (bytes_eq key other) (is_eq-slice_cmp key other)
    where
      chosen : (a b : Bool) → a ≡ b → option_map_or f (cond a w (get (slice_cmp nat_cmp) m other)) d ≡ cond b (option_map_or f w d) (read_at m other)
      chosen true true same = refl
      chosen true false same = cc
      chosen false true same = cc
      chosen false false same = refl

  -- a relation between what is read before and after an update at a key
  related_by : (m n : BTreeMap (List ℕ) X) (key : List ℕ) (w : Option X) → Updates (slice_cmp nat_cmp) m n key w → (P : R → R → Type 0) (other : List ℕ) → (bytes_eq key other ≡ true → P (read_at m key) (option_map_or f w d)) → (bytes_eq key other ≡ false → P (read_at m other) (read_at m other)) → P (read_at m other) (read_at n other)
  related_by m n key w updates P other here elsewhere =
      rw (read-updated m n key w updates other)
      (cond_both (bytes_eq key other) (option_map_or f w d) (read_at m other) (P (read_at m other))
      (λ yes. rw (sym ((bytes_eq-Decides key other).0 yes)) (here yes))
      elsewhere)

  -- the same where a value was written
  pub related : (m n : BTreeMap (List ℕ) X) (key : List ℕ) (w : X) → Updates (slice_cmp nat_cmp) m n key (Some w) → (P : R → R → Type 0) (other : List ℕ) → (bytes_eq key other ≡ true → P (read_at m key) (f w)) → (bytes_eq key other ≡ false → P (read_at m other) (read_at m other)) → P (read_at m other) (read_at n other)
  related m n key w updates = related_by m n key (Some w) updates

  -- the same where the value was taken out
  pub related_without : (m n : BTreeMap (List ℕ) X) (key : List ℕ) → Updates (slice_cmp nat_cmp) m n key None → (P : R → R → Type 0) (other : List ℕ) → (bytes_eq key other ≡ true → P (read_at m key) d) → (bytes_eq key other ≡ false → P (read_at m other) (read_at m other)) → P (read_at m other) (read_at n other)
  related_without m n key updates = related_by m n key None updates
