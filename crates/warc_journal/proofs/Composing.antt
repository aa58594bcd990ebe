-- The files are made ready, and then a text is added: what both leave.
use Rattle.std.proofs.Common.{◌≡◌, ◌≢◌, ◌⊎◌, ℕ, ◌≤◌, false, List, subst, ◌∙◌, refl, inl, inr, ⊎_elim, Result, Ok, Err, OnErr, OnOk}
use Rattle.std.specs.Result.{IsErr}
use Rattle.disk_model.specs.Image.{Image}
use Rattle.disk_model.proofs.MomentLaws.{joined, weakened}
use Rattle.disk_model.specs.declared.disk.Disk.{Ghosts}
use Rattle.warc_journal.specs.Journals.{Changes, IsInStep, IsLeft, Prepares, texts}
use Rattle.warc_journal.specs.Extents.{warc_files}
use Rattle.warc_journal.specs.Texts.{AreJust, Hold, HoldEither}
use Rattle.warc_journal.specs.declared.extent.Further.TheVariants.{Unknown}
use Rattle.warc_journal.specs.declared.journal.Journal.{Journal}
use Rattle.warc_journal.proofs.Files.{are_just}
use Rattle.warc_journal.proofs.Preparing.{failed_has, left_now, left_on, on_err}

on_ok_map : {T E P Q : Type 0} (result : Result T E) → (P → Q) → OnOk result P → OnOk result Q
on_ok_map (Ok v) gives p = gives p
on_ok_map (Err e) gives p = tt

on_err_map : {T E P Q : Type 0} (result : Result T E) → (P → Q) → OnErr result P → OnErr result Q
on_err_map (Ok v) gives p = tt
on_err_map (Err e) gives p = gives p

-- of another description
left_weaker : (images : Image → Type 0) (P Q : List (List ℕ) → Type 0) (image : Image) → ((files : List (List ℕ)) → P files → Q files) → IsLeft images P image → IsLeft images Q image
left_weaker images P Q image gives is = record { before = is.before; was = is.was; others = is.others; described = gives (warc_files image) is.described }

module _ {D : Type 0} (d : Ghosts D)
    (counts : (disk : D) (t : ℕ) (i : Image) → t ≤ d.moment disk → d.images disk i → d.images_since disk t i)
    (only : (disk : D) (i : Image) → d.images_since disk (d.moment disk) i → d.images disk i) where
  -- the files couldn't be made ready
  pub not_prepared : {T E : Type 0} (old new : Journal D) (after : List (List ℕ)) (result : Result T E) → IsErr result
      → Prepares d old new → Changes d old new after result
  not_prepared old new after result failed first = record {
    leaves =
        weakened d.moment d.images_since old.disk new.disk (IsLeft (d.images old.disk) (Hold (texts d old))) (IsLeft (d.images old.disk) (HoldEither (texts d old) after))
        (λ i is. left_weaker (d.images old.disk) (Hold (texts d old)) (HoldEither (texts d old) after) i (λ files h. inl h) is)
        first.leaves;
    added = failed_has _ result failed;
    only = failed_has _ result failed;
    stays = on_err _ result first.same;
    refused = on_err _ result (inl (left_now d counts only old.disk new.disk (IsLeft (d.images old.disk) (Hold (texts d old))) first.leaves));
    others = first.others;
  }

  -- they are clean
  pub all_clean : {T E : Type 0} (old new : Journal D) (value : T)
      → Prepares d old new → IsInStep d new → new.extent.is_dirty ≡ false → new.extent.further ≢ Unknown
      → Changes {E = E} d old new (texts d old) (Ok value)
  all_clean old new value first in_step clean known = record {
    leaves =
        weakened d.moment d.images_since old.disk new.disk (IsLeft (d.images old.disk) (Hold (texts d old))) (IsLeft (d.images old.disk) (HoldEither (texts d old) (texts d old)))
        (λ i is. left_weaker (d.images old.disk) (Hold (texts d old)) (HoldEither (texts d old) (texts d old)) i (λ files h. inl h) is)
        first.leaves;
    added = first.same;
    only = λ i left. ⊎_elim
        (λ was. record { before = i; was = was; others = refl; described = just i left })
        (λ is. record { before = is.before; was = is.was; others = is.others; described = just i left })
        (left_now d counts only old.disk new.disk (IsLeft (d.images old.disk) (Hold (texts d old))) first.leaves i left);
    stays = tt;
    refused = tt;
    others = first.others;
  }
    where
      just : (i : Image) → d.images new.disk i → AreJust (texts d old) (warc_files i)
      just i left =
          subst (λ (ts : List (List ℕ)). AreJust ts (warc_files i)) first.same
          (are_just (texts d new) (warc_files i) (in_step.sealed i left) (in_step.clean clean i left) (in_step.known known i left))

  pub repaired : {T E : Type 0} (old new : Journal D) (result : Result T E)
      → Prepares d old new → IsInStep d new → OnOk result (new.extent.is_dirty ≡ false) → new.extent.further ≢ Unknown
      → Changes d old new (texts d old) result
  repaired old new (Ok value) first in_step clean known = all_clean old new value first in_step clean known
  repaired old new (Err e) first in_step clean known = not_prepared old new (texts d old) (Err e) refl first

  -- a text was added, or refused, behind files that were made ready
  pub changes_on : {T E : Type 0} (old mid new : Journal D) (after : List (List ℕ)) (result : Result T E)
      → Prepares d old mid → Changes d mid new after result
      → Changes d old new after result
  changes_on old mid new after result first second = record {
    leaves =
        joined d.moment d.images_since old.disk mid.disk new.disk (IsLeft (d.images old.disk) (HoldEither (texts d old) after))
        (weakened d.moment d.images_since old.disk mid.disk (IsLeft (d.images old.disk) (Hold (texts d old))) (IsLeft (d.images old.disk) (HoldEither (texts d old) after))
        (λ i is. left_weaker (d.images old.disk) (Hold (texts d old)) (HoldEither (texts d old) after) i (λ files h. inl h) is) first.leaves)
        (weakened d.moment d.images_since mid.disk new.disk (IsLeft (d.images mid.disk) (HoldEither (texts d mid) after)) (IsLeft (d.images old.disk) (HoldEither (texts d old) after)) either second.leaves);
    added = second.added;
    only = on_ok_map result (λ leaves i left. seen_from (AreJust after) i (leaves i left)) second.only;
    stays = on_err_map result (λ same. same ∙ first.same) second.stays;
    refused = on_err_map result
        (⊎_elim
        (λ kept. inl (λ i left. ⊎_elim (from i) (λ is. inr (subst (λ (ts : List (List ℕ)). IsLeft (d.images old.disk) (Hold ts) i) first.same (seen_from (Hold (texts d mid)) i is))) (kept i left)))
        (λ fors. inr (λ i left. either i (fors i left))))
        second.refused;
    others = second.others ∙ first.others;
  }
    where
      from : (i : Image) → d.images mid.disk i → d.images old.disk i ⊎ IsLeft (d.images old.disk) (Hold (texts d old)) i
      from = left_now d counts only old.disk mid.disk (IsLeft (d.images old.disk) (Hold (texts d old))) first.leaves

      seen_from : (Q : List (List ℕ) → Type 0) (i : Image) → IsLeft (d.images mid.disk) Q i → IsLeft (d.images old.disk) Q i
      seen_from Q i is = left_on (d.images old.disk) (d.images mid.disk) (Hold (texts d old)) Q i from is

      either : (i : Image) → IsLeft (d.images mid.disk) (HoldEither (texts d mid) after) i → IsLeft (d.images old.disk) (HoldEither (texts d old) after) i
      either i is = subst (λ (ts : List (List ℕ)). IsLeft (d.images old.disk) (HoldEither ts after) i) first.same (seen_from (HoldEither (texts d mid) after) i is)
