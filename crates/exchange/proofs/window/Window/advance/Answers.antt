use Rattle.std.proofs.Common.{◌≡◌, ℕ, List, ◌+◌, ◌-◌, ◌≤◌, length, take, drop, inl, inr, sym, ap, ◌∙◌, arith, length-take}
use Rattle.std.proofs.lemmas.Bool.{cases_lt}
use Rattle.std.proofs.lemmas.List.{drop-drop, drop-take, drop_all}
use Rattle.std.specs.Prelude.{slice_range}
use Rattle.exchange.proofs.window.Window.advance.Goals as goal

-- a range that begins further on
slice_range-further : (n at end : ℕ) (xs : List ℕ) → slice_range xs (at + n) end ≡ drop n (slice_range xs at end)
slice_range-further n at end xs =
    elim (cases_lt (end - at) n) [
      | inl less ↦
          let none : end - (at + n) ≡ 0 = omega arith in
          let short : length (take (end - at) (drop at xs)) ≤ n = omega (arith, length-take (end - at) (drop at xs)) in
          ap (λ k. take k (drop (at + n) xs)) none ∙ sym (drop_all n (take (end - at) (drop at xs)) short)
      | inr within ↦
          let split : end - at ≡ n + (end - (at + n)) = omega arith in
          ap (take (end - (at + n))) (sym (drop-drop n at xs))
          ∙ sym (drop-take n (end - (at + n)) (drop at xs))
          ∙ ap (λ k. drop n (take k (drop at xs))) (sym split)
    ]

pub returns : goal.returns
returns c = rw (← c.self.view_is) (slice_range-further c.args.n c.self.inside.at c.self.inside.end c.self.inside.buffer.items)
