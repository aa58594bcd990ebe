-- The order of entries is total, and only entries of one key, date and number are tied.
use Rattle.std.proofs.Common.{◌≡◌, ℕ, List, refl, sym, ap, ◌∙◌, true}
use Rattle.std.specs.declared.cmp.Ordering.{Ordering}
use Rattle.std.specs.declared.cmp.Ordering.TheVariants.{Less, Equal, Greater}
use Rattle.std.specs.Cmp.{IsTotalOrder}
use Rattle.std.specs.Cmp.Lexicographic.{slice_cmp}
use Rattle.std.specs.Ordering.{nat_cmp, is_eq, ordering_then}
use Rattle.std.proofs.lemmas.Cmp.{ranked, nat_cmp_total, on_total, then_total, nat_list_cmp_total}
use Rattle.std.proofs.lemmas.Map.Text.{is_eq-slice_cmp}
use Rattle.std.proofs.lemmas.Slice.Eq.{bytes_eq-Decides}
use Rattle.index_entry.specs.Facts.{Facts}
use Rattle.index_entry.specs.Order.{Moment, moment_of, moment_cmp, order}

pub moment_total : IsTotalOrder moment_cmp
moment_total = then_total (on_total (λ (m : Moment). m.0) nat_cmp_total) (on_total (λ (m : Moment). m.1) nat_cmp_total)

pub order_total : IsTotalOrder order
order_total = then_total (on_total (λ (e : Facts). e.key) nat_list_cmp_total) (on_total moment_of moment_total)

pub equal_from_is_eq : (o : Ordering) → is_eq o ≡ true → o ≡ Equal
equal_from_is_eq Less e = cc
equal_from_is_eq Equal e = refl
equal_from_is_eq Greater e = cc

pub key_tied : (a b : List ℕ) → slice_cmp nat_cmp a b ≡ Equal → a ≡ b
key_tied a b e = (bytes_eq-Decides a b).0 (sym (is_eq-slice_cmp a b) ∙ ap is_eq e)

-- the two orders of a tie
pub both_equal : (o p : Ordering) → ordering_then o p ≡ Equal → (o ≡ Equal) × (p ≡ Equal)
both_equal Less p e = (e, cc)
both_equal Equal p e = (refl, e)
both_equal Greater p e = (e, cc)

nat_tied : (a b : ℕ) → nat_cmp a b ≡ Equal → a ≡ b
nat_tied a b e = ranked a b Equal (sym e)

pub moment_tied : (a b : Moment) → moment_cmp a b ≡ Equal → a ≡ b
moment_tied a b e =
    let both = both_equal (nat_cmp a.0 b.0) (nat_cmp a.1 b.1) e in
    let date = nat_tied a.0 b.0 both.0 in
    let number = nat_tied a.1 b.1 both.1 in
    λ i. (date i, number i)
