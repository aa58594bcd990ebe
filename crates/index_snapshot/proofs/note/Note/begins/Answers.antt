use Rattle.std.proofs.Common.{◌≡◌, ℕ, ◌≤◌, Bool, true, false, MatchBool, List, length, refl, ap, subst, arith, nat_le}
use Rattle.std.proofs.lemmas.Bool.Decides.{nat_tests}
use mathlib.Core.List.{IsPrefix}
use Rattle.index_snapshot.proofs.Beginnings.{prefix_shorter}
use Rattle.index_snapshot.proofs.note.Note.begins.Goals as goal

cases : {E : Type 0} (b : Bool) (m n : ℕ) (xs ys zs : List E) → m ≡ length xs → n ≡ length ys → nat_le m n ≡ b → IsPrefix xs zs → IsPrefix ys zs → MatchBool b (IsPrefix xs ys) (IsPrefix ys xs)
cases true m n xs ys zs a b is p q = let le : length xs ≤ length ys = grind (arith, nat_tests) in prefix_shorter xs ys zs p q le
cases false m n xs ys zs a b is p q = let le : length ys ≤ length xs = grind (arith, nat_tests) in prefix_shorter ys xs zs q p le

pub returns : goal.returns
returns g c =
    let both = c.learn.new.self.log in
    let this : IsPrefix c.self.inside.seen.log both = subst (λ (l : List _). IsPrefix l both) (ap (λ s. s.log) c.again-both.ensures) c.learn.ensures.2 in
    rw (← c.self.view_is, ← c.other.view_is) (cases _ c.self.inside.len c.other.inside.len c.self.inside.seen.log c.other.inside.seen.log both c.self.invariant c.other.invariant refl this c.learn.ensures.3)
