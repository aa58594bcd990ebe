-- Laws of what a run of calls adds to what a crash may leave.
use Rattle.std.proofs.Common.{ℕ, ◌≤◌, ◌⊎◌, inl, inr, ⊎_elim, arith}
use Rattle.disk_model.specs.Crash.{Elapses}
use Rattle.disk_model.specs.Image.{Image}
use Rattle.disk_model.specs.Moments.{AddsOnly}

module _ {D : Type 0} (moment : D → ℕ) (images_since : D → ℕ → Image → Type 0) where
  -- before the first call
  pub none_added : (old : D) (P : Image → Type 0) → AddsOnly moment images_since old old P
  none_added old P = record { later = omega arith; adds = λ t image le left. inl left }

  -- one call more, after which a crash leaves what has P
  pub goes_on : (old mid new : D) (P images : Image → Type 0)
      → AddsOnly moment images_since old mid P
      → Elapses (moment mid) (moment new) (images_since mid) (images_since new) images
      → ((image : Image) → images image → P image)
      → AddsOnly moment images_since old new P
  goes_on old mid new P images so_far time here = record {
    later = omega (arith, so_far.later, time.later);
    adds = λ t image le left. ⊎_elim (so_far.adds t image le) (λ now. inr (here image now)) (time.nothing_else t image (omega (arith, le, so_far.later)) left);
  }

  -- one run after another
  pub joined : (old mid new : D) (P : Image → Type 0) → AddsOnly moment images_since old mid P → AddsOnly moment images_since mid new P → AddsOnly moment images_since old new P
  joined old mid new P run next = record {
    later = omega (arith, run.later, next.later);
    adds = λ t image le left. ⊎_elim (run.adds t image le) (λ has. inr has) (next.adds t image (omega (arith, le, run.later)) left);
  }

  -- what has P has Q
  pub weakened : (old new : D) (P Q : Image → Type 0) → ((image : Image) → P image → Q image) → AddsOnly moment images_since old new P → AddsOnly moment images_since old new Q
  weakened old new P Q gives run = record {
    later = run.later;
    adds = λ t image le left. ⊎_elim (λ was. inl was) (λ has. inr (gives image has)) (run.adds t image le left);
  }

  -- what a crash might have left when the run began isn't added
  pub absorbed : (old new : D) (first P : Image → Type 0)
      → ((t : ℕ) (image : Image) → t ≤ moment old → first image → images_since old t image)
      → AddsOnly moment images_since old new (λ image. first image ⊎ P image)
      → AddsOnly moment images_since old new P
  absorbed old new first P counts run = record {
    later = run.later;
    adds = λ t image le left. ⊎_elim (λ was. inl was) (⊎_elim (λ was. inl (counts t image le was)) (λ has. inr has)) (run.adds t image le left);
  }

  -- from the moments of the run to its end: what a crash leaves now, it might have left when the run began, or it has P
  pub now_has : (old new : D) (first P images : Image → Type 0)
      → ((image : Image) → images image → images_since new (moment old) image)
      → ((image : Image) → images_since old (moment old) image → first image)
      → AddsOnly moment images_since old new P
      → (image : Image) → images image → first image ⊎ P image
  now_has old new first P images counts only run image left =
      ⊎_elim (λ was. inl (only image was)) (λ has. inr has) (run.adds (moment old) image (omega arith) (counts image left))

  -- where what a crash might have left when the run began has P, so has what it leaves at each moment of the run
  pub each_has : (old new : D) (P : Image → Type 0)
      → ((image : Image) → images_since old (moment old) image → P image)
      → AddsOnly moment images_since old new P
      → (image : Image) → images_since new (moment old) image → P image
  each_has old new P here run image left = ⊎_elim (here image) (λ has. has) (run.adds (moment old) image (omega arith) left)
