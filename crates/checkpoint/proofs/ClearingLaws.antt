-- What taking checkpoints away leaves.
use Rattle.std.proofs.Common.{◌≡◌, ◌⊎◌, ◌<◌, ◌≤◌, ℕ, ◌+◌, [], Result, Ok, Err, refl, sym, ap, subst, ◌∙◌, inl, inr, ⊎_elim, arith}
use Rattle.std.specs.Prelude.{OnOk}
use Rattle.std.proofs.lemmas.Bool.{cases_order}
use Rattle.capture.specs.Tails.{IsRest}
use Rattle.disk_model.specs.Crash.{Elapses, HasFile, Leaves, Within}
use Rattle.disk_model.specs.Image.{Image, file_count}
use Rattle.disk_model.specs.declared.disk.Disk.{Ghosts}
use Rattle.disk_model.specs.declared.kind.Kind.TheVariants.{Cdxj}
use Rattle.warc_journal.specs.Extents.{warc_files}
use Rattle.warc_journal.specs.Journals.{Rests}
use Rattle.disk_model.proofs.MomentLaws.{goes_on, joined, none_added, now_has, weakened}
use Rattle.checkpoint.specs.Checkpoints.{checkpoint_of}
use Rattle.checkpoint.specs.Clearing.{AreCleared, Clears, ClearsUnsealed, HasCleared, IsBesideFrom, IsCleared, sealed_count}
use Rattle.checkpoint.specs.Putting.{IsBeside, commit_byte}
use Rattle.checkpoint.specs.steps.Texts.{HasText, PutsText}
use Rattle.checkpoint.proofs.Missing.{missing_file}

-- ---- an image beside another

from_itself : (first : ℕ) (image : Image) → IsBesideFrom first image image
from_itself first image = record { warc = refl; others = λ volume less. refl; no_fewer = omega arith }

apart : (first volume k : ℕ) → first ≤ volume → k < first → k ≡ volume → ⊥
apart first volume k le less same = omega (arith, le, less, same)

counted : (k m i : ℕ) → (i ≡ m) ⊎ ((m ≡ k) × (i ≡ k + 1)) → m ≤ i
counted k m i (inl e) = omega (arith, e)
counted k m i (inr e) = omega (arith, e.0, e.1)

-- one file more was cleared
beside_then : (first volume : ℕ) (old mid new : Image) → first ≤ volume → IsBesideFrom first old mid → IsBeside volume mid new → IsBesideFrom first old new
beside_then first volume old mid new le so_far one = record {
  warc = one.warc ∙ so_far.warc;
  others = λ k less. one.others k (apart first volume k le less) ∙ so_far.others k less;
  no_fewer = omega (arith, so_far.no_fewer, counted volume (file_count mid Cdxj) (file_count new Cdxj) one.count);
}

-- ---- on a disk

-- nothing stands in so many of the files from the first on
abbrev pub AreClearedTo : ℕ → ℕ → Image → Type 0
AreClearedTo first upto image = (volume : ℕ) → first ≤ volume → volume < upto → checkpoint_of image volume ≡ []

module _ {D : Type 0} (d : Ghosts D) (first : ℕ) where
  -- nothing was written
  pub clears_none : (old new : D) → Elapses (d.moment old) (d.moment new) (d.images_since old) (d.images_since new) (d.images new)
      → Within (d.images old) (d.images new) → d.reading new ≡ d.reading old → Clears d first old new
  clears_none old new time within same = record {
    leaves = goes_on d.moment d.images_since old old new (HasCleared first (d.images old)) (d.images new)
        (none_added d.moment d.images_since old (HasCleared first (d.images old))) time
        (λ i left. record { before = i; was = within i left; beside = from_itself first i; each = λ volume. inl refl });
    reading = subst (IsBesideFrom first (d.reading old)) (sym same) (from_itself first (d.reading old));
    made_none = ap (λ (i : Image). file_count i Cdxj) same;
  }

  module _ (counts : (disk : D) (t : ℕ) (i : Image) → t ≤ d.moment disk → d.images disk i → d.images_since disk t i)
      (only : (disk : D) (i : Image) → d.images_since disk (d.moment disk) i → d.images disk i) where
    from_old : (old mid : D) → Clears d first old mid → (image : Image) → d.images mid image → HasCleared first (d.images old) image
    from_old old mid clears image left = ⊎_elim
        (λ was. record { before = image; was = was; beside = from_itself first image; each = λ volume. inl refl })
        (λ has. has)
        (now_has d.moment d.images_since old mid (d.images old) (HasCleared first (d.images old)) (d.images mid)
        (λ i now. counts mid (d.moment old) i clears.leaves.later now) (only old) clears.leaves image left)

    module _ (volume : ℕ) (from : first ≤ volume) where
      one_more : (old mid : D) → Clears d first old mid → (image : Image) → HasText volume [] (d.images mid) image → HasCleared first (d.images old) image
      one_more old mid clears image is = record {
        before = was.before;
        was = was.was;
        beside = beside_then first volume was.before is.before image from was.beside is.beside;
        each = λ k. each k (cases_order k volume);
      }
        where
          was : HasCleared first (d.images old) is.before
          was = from_old old mid clears is.before is.was

          Stands : ℕ → Type 0
          Stands k = (checkpoint_of image k ≡ checkpoint_of was.before k) ⊎ IsRest commit_byte (checkpoint_of image k)

          as_was : (k : ℕ) → checkpoint_of image k ≡ checkpoint_of is.before k → Stands k
          as_was k same = ⊎_elim (λ e. inl (same ∙ e)) (λ rest. inr (subst (IsRest commit_byte) (sym same) rest)) (was.each k)

          own : Stands volume
          own = ⊎_elim (as_was volume) (λ new. inr (⊎_elim (λ rest. rest) (λ empty. inl empty) new)) is.own

          each : (k : ℕ) → (k ≡ volume) ⊎ ((k < volume) ⊎ (volume < k)) → Stands k
          each k (inl same) = subst Stands (sym same) own
          each k (inr (inl less)) = as_was k (is.beside.others k (λ e. omega (arith, less, e)))
          each k (inr (inr more)) = as_was k (is.beside.others k (λ e. omega (arith, more, e)))

      pub clears_then : (old mid new : D) → volume < file_count (d.reading mid) Cdxj → Clears d first old mid → PutsText d volume [] mid new
          → Clears d first old new
      clears_then old mid new there clears put = record {
        leaves = joined d.moment d.images_since old mid new (HasCleared first (d.images old)) clears.leaves
            (weakened d.moment d.images_since mid new (HasText volume [] (d.images mid)) (HasCleared first (d.images old)) (one_more old mid clears) put.leaves);
        reading = beside_then first volume (d.reading old) (d.reading mid) (d.reading new) from clears.reading put.reading;
        made_none = ⊎_elim (λ same. same ∙ clears.made_none) (λ more. absurd (omega (arith, there, more.0))) put.reading.count;
      }

      pub cleared_then : (mid new : D) → Leaves (d.images mid) (AreClearedTo first volume) → PutsText d volume [] mid new
          → Leaves (d.images new) (HasFile Cdxj volume []) → Leaves (d.images new) (AreClearedTo first (volume + 1))
      cleared_then mid new so_far put own image left k le less = by (cases_order k volume)
        where
          before : k < volume → checkpoint_of image k ≡ []
          before below = ⊎_elim
              (λ was. so_far image was k le below)
              (λ has. has.beside.others k (λ e. omega (arith, below, e)) ∙ so_far has.before has.was k le below)
              (now_has d.moment d.images_since mid new (d.images mid) (HasText volume [] (d.images mid)) (d.images new)
              (λ i now. counts new (d.moment mid) i put.leaves.later now) (only mid) put.leaves image left)

          by : (k ≡ volume) ⊎ ((k < volume) ⊎ (volume < k)) → checkpoint_of image k ≡ []
          by (inl same) = ap (checkpoint_of image) same ∙ (own image left).same
          by (inr (inl below)) = before below
          by (inr (inr above)) = absurd (omega (arith, above, less))

  -- all files that are there were cleared
  pub cleared_all : (old new : D) (upto : ℕ) → ((image : Image) → d.images new image → file_count image Cdxj ≤ file_count (d.reading new) Cdxj)
      → file_count (d.reading old) Cdxj ≤ upto → Clears d first old new → Leaves (d.images new) (AreClearedTo first upto) → Leaves (d.images new) (AreCleared first)
  cleared_all old new upto few past clears done image left volume le = by (cases_order volume upto)
    where
      there_is_none : upto ≤ volume → checkpoint_of image volume ≡ []
      there_is_none at = missing_file image volume (omega (arith, few image left, clears.made_none, past, at))

      by : (volume ≡ upto) ⊎ ((volume < upto) ⊎ (upto < volume)) → checkpoint_of image volume ≡ []
      by (inl same) = there_is_none (omega (arith, same))
      by (inr (inl less)) = done image left volume le less
      by (inr (inr more)) = there_is_none (omega (arith, more))

  -- what was looked at before was taken away
  pub clears_after : (old mid new : D) → Rests d old mid → Clears d first mid new → Clears d first old new
  clears_after old mid new rests clears = record {
    leaves = joined d.moment d.images_since old mid new (HasCleared first (d.images old))
        (weakened d.moment d.images_since old mid (λ i. ⊥) (HasCleared first (d.images old)) (λ i none. absurd none) rests.leaves)
        (weakened d.moment d.images_since mid new (HasCleared first (d.images mid)) (HasCleared first (d.images old))
        (λ i has. record { before = has.before; was = rests.crash has.before has.was; beside = has.beside; each = has.each }) clears.leaves);
    reading = subst (λ (i : Image). IsBesideFrom first i (d.reading new)) rests.read clears.reading;
    made_none = clears.made_none ∙ ap (λ (i : Image). file_count i Cdxj) rests.read;
  }

  -- nothing was taken away
  pub clears_resting : (old new : D) → Rests d old new → Clears d first old new
  clears_resting old new rests = record {
    leaves = weakened d.moment d.images_since old new (λ i. ⊥) (HasCleared first (d.images old)) (λ i none. absurd none) rests.leaves;
    reading = subst (IsBesideFrom first (d.reading old)) (sym rests.read) (from_itself first (d.reading old));
    made_none = ap (λ (i : Image). file_count i Cdxj) rests.read;
  }

module _ {D : Type 0} (d : Ghosts D) (first : ℕ) (old mid new : D) (is : first ≡ sealed_count (warc_files (d.reading old)))
    (rests : Rests d old mid) (clears : Clears d first mid new) where
  pub clears_unsealed : ClearsUnsealed d old new
  clears_unsealed = subst (λ (k : ℕ). Clears d k old new) is (clears_after d first old mid new rests clears)

  pub cleared_by : {T E : Type 0} (result : Result T E) → OnOk result (Leaves (d.images new) (AreCleared first)) → OnOk result (IsCleared d old new)
  cleared_by (Ok done) none = record { clears = clears_unsealed; none = subst (λ (k : ℕ). Leaves (d.images new) (AreCleared k)) is none }
  cleared_by (Err fault) none = tt
