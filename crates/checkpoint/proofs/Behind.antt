-- Lines in strict order, and a line that stands behind them.
use Rattle.std.proofs.Common.{◌≡◌, ℕ, zero, suc, ◌+◌, ◌-◌, true, List, [], ◌∷◌, ◌++◌, length, refl, ap, arith}
use Rattle.std.specs.Prelude.{All, Some, slice_get}
use Rattle.std.specs.declared.cmp.Ordering.{Ordering}
use Rattle.std.specs.declared.cmp.Ordering.TheVariants.{Less, Equal, Greater}
use Rattle.std.specs.Cmp.{IsTotalOrder}
use Rattle.std.specs.List.{AllByRecursion}
use Rattle.std.specs.List.Sorted.{IsStrictlySortedBy}
use Rattle.std.specs.Ordering.{is_lt}
use Rattle.std.proofs.lemmas.Cmp.{on_total}
use Rattle.std.proofs.lemmas.List.Elements.{All-append, All-cons, All-nil}
use Rattle.std.proofs.lemmas.Option.{same_Some}
use Rattle.cdxj_line.specs.declared.line.Line.{Line}
use Rattle.index_entry.specs.OfLine.{facts_of}
use Rattle.index_entry.proofs.Orders.{order_total}
use Rattle.checkpoint.specs.Checkpoints.{line_order}
use Rattle.checkpoint.specs.steps.Lines.{is_behind}

pub line_total : IsTotalOrder line_order
line_total = on_total (λ (l : Line). facts_of l) order_total

less_from_lt : (o : Ordering) → is_lt o ≡ true → o ≡ Less
less_from_lt Less e = refl
less_from_lt Equal e = cc
less_from_lt Greater e = cc

-- all lines stand before one that is behind the last
all_before : (xs : List Line) (y : Line) → IsStrictlySortedBy line_order xs → is_behind xs y ≡ true → AllByRecursion (λ x. line_order x y ≡ Less) xs
unfolding IsStrictlySortedBy
all_before [] y sorted behind = tt
all_before (x ∷ []) y sorted behind = (less_from_lt (line_order x y) behind, tt)
all_before (x ∷ z ∷ zs) y sorted behind =
    let rest = all_before (z ∷ zs) y sorted.1 behind in
    (line_total.trans x z y sorted.0.0 rest.0, rest)

all_push : (P : Line → Type 0) (xs : List Line) (y : Line) → AllByRecursion P xs → P y → AllByRecursion P (xs ++ y ∷ [])
all_push P [] y all here = (here, tt)
all_push P (x ∷ xs) y all here = (all.0, all_push P xs y all.1 here)

sorted_push : (xs : List Line) (y : Line) → IsStrictlySortedBy line_order xs → AllByRecursion (λ x. line_order x y ≡ Less) xs → IsStrictlySortedBy line_order (xs ++ y ∷ [])
unfolding IsStrictlySortedBy
sorted_push [] y sorted before = (tt, tt)
sorted_push (x ∷ xs) y sorted before = (all_push (λ z. line_order x z ≡ Less) xs y sorted.0 before.0, sorted_push xs y sorted.1 before.1)

-- lines in order with one more behind the last
pub sorted_more : (xs : List Line) (y : Line) → IsStrictlySortedBy line_order xs → is_behind xs y ≡ true → IsStrictlySortedBy line_order (xs ++ y ∷ [])
sorted_more xs y sorted behind = sorted_push xs y sorted (all_before xs y sorted behind)

pub sorted_none : IsStrictlySortedBy line_order []
unfolding IsStrictlySortedBy
sorted_none = tt

-- of lines in order, each stands behind those before it
pub behind_from : (xs : List Line) (y : Line) (ys : List Line) → IsStrictlySortedBy line_order (xs ++ y ∷ ys) → is_behind xs y ≡ true
unfolding IsStrictlySortedBy
behind_from [] y ys sorted = refl
behind_from (x ∷ []) y ys sorted = ap is_lt sorted.0.0
behind_from (x ∷ z ∷ zs) y ys sorted = behind_from (z ∷ zs) y ys sorted.1

-- a line is behind those before where it is behind the last
pub behind_last : (xs : List Line) (last y : Line) (n : ℕ) → n + 1 ≡ length xs → slice_get xs n ≡ Some last → is_behind xs y ≡ is_lt (line_order last y)
behind_last [] last y n long at = absurd (omega (arith, long))
behind_last (x ∷ []) last y zero long at = ap (λ (l : Line). is_lt (line_order l y)) (same_Some x last at)
behind_last (x ∷ []) last y (suc n) long at = absurd (omega (arith, long))
behind_last (x ∷ z ∷ zs) last y zero long at = absurd (omega (arith, long))
behind_last (x ∷ z ∷ zs) last y (suc n) long at = behind_last (z ∷ zs) last y n (omega (arith, long)) at

pub has_last : (xs : List Line) (last : Line) → slice_get xs (length xs - 1) ≡ Some last → length xs - 1 + 1 ≡ length xs
has_last [] last at = cc
has_last (x ∷ xs) last at = omega arith

-- what holds of all holds of one among them, and of one more
pub all_at : (P : Line → Type 0) (xs : List Line) (y : Line) (ys : List Line) → All P (xs ++ y ∷ ys) → P y
all_at P [] y ys all = all 0 y (omega arith)
all_at P (x ∷ xs) y ys all = all_at P xs y ys (λ k d lt. all (suc k) d (omega (arith, lt)))

pub all_more : (P : Line → Type 0) (xs : List Line) (y : Line) → All P xs → P y → All P (xs ++ y ∷ [])
all_more P xs y all here = All-append P xs (y ∷ []) all (All-cons P y [] here (All-nil P))
