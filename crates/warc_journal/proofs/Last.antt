-- The last volume's file is mended, or a text is added to it: what that leaves.
use Rattle.std.proofs.Common.{◌≡◌, ◌≢◌, ◌⊎◌, ◌<◌, ◌≤◌, ℕ, ◌+◌, ◌-◌, Bool, true, false, List, [], length, get_or, take, sym, ap, subst, ◌∙◌, ⊎_elim, arith, get_or-set_same}
use Rattle.std.proofs.lemmas.List.{append-nil, length-set, length-take}
use lib.ListN.{set}
use Rattle.capture.specs.Tails.{HoldsText}
use Rattle.disk_model.specs.Crash.{Leaves}
use Rattle.disk_model.specs.Image.{Image, file_of}
use Rattle.disk_model.specs.Moments.{AddsOnly}
use Rattle.disk_model.proofs.MomentLaws.{weakened}
use Rattle.disk_model.specs.declared.disk.Disk.{Ghosts}
use Rattle.disk_model.specs.declared.kind.Kind.TheVariants.{Warc}
use Rattle.gated_file.specs.Files.{HoldsBefore, IsAdded, IsFinished, KeepsText, Rewrites}
use Rattle.warc_text.specs.StandsFor.{commit_byte}
use Rattle.warc_journal.specs.Journals.{IsInStep, IsLeft, Prepares, texts}
use Rattle.warc_journal.specs.Extents.{Reaches, cdxj_files, last_of, texts_in, warc_files}
use Rattle.warc_journal.specs.Texts.{AreSealed, Hold, IsFurtherEmpty, IsLastJust}
use Rattle.warc_journal.specs.declared.extent.Further.TheVariants.{Empty, Unknown}
use Rattle.warc_journal.specs.declared.journal.Journal.{Journal}
use Rattle.warc_journal.proofs.Files.{further_beside, hold_last, last_set, length_texts, sealed_set, text_last, texts_front}
use Rattle.warc_journal.proofs.Preparing.{cdxj_written, file_is, left_by, left_now, rewritten_warc, warc_written}

module _ {D : Type 0} (d : Ghosts D)
    (counts : (disk : D) (t : ℕ) (i : Image) → t ≤ d.moment disk → d.images disk i → d.images_since disk t i)
    (only : (disk : D) (i : Image) → d.images_since disk (d.moment disk) i → d.images disk i)
    (old : Journal D) (disk : D) (in_step : IsInStep d old)
    (some : 0 < old.extent.volumes) (known : old.extent.further ≢ Unknown) where
  abbrev ts : List (List ℕ)
  ts = texts d old

  abbrev l : ℕ
  l = old.extent.volumes - 1

  at : l + 1 ≡ old.extent.volumes
  at = omega (arith, some)

  count : length ts ≡ old.extent.volumes
  count = length_texts old.extent (warc_files (d.reading old.disk)) in_step.enough

  pub last_within : old.extent.end ≤ length (file_of (d.reading old.disk) Warc (old.extent.volumes - 1))
  last_within = omega (arith, in_step.within l at, ap length (file_is (d.reading old.disk) l))

  last_text : get_or ts l [] ≡ take old.extent.end (file_of (d.reading old.disk) Warc l)
  last_text = text_last old.extent (warc_files (d.reading old.disk)) l at in_step.enough ∙ ap (λ (b : List ℕ). take old.extent.end b) (sym (file_is (d.reading old.disk) l))

  -- an image in which that file is finished holds the texts
  pub last_left : (image : Image) → Rewrites Warc (old.extent.volumes - 1) (d.images old.disk) (HoldsBefore (last_of old.extent) (d.reading old.disk)) image → IsLeft (d.images old.disk) (Hold (texts d old)) image
  last_left image is =
      left_by l (d.images old.disk) (HoldsBefore (last_of old.extent) (d.reading old.disk)) (Hold ts) image is
      (hold_last ts (warc_files is.before) (in_step.sealed is.before is.was) l is.bytes (at ∙ sym count) (in_step.known known is.before is.was)
      (subst (λ (t : List ℕ). HoldsText commit_byte t is.bytes) (sym last_text) is.described))

  module _ (stays : KeepsText (last_of old.extent) (d.reading old.disk) (d.reading disk)) where
    read_now : warc_files (d.reading disk) ≡ set (warc_files (d.reading old.disk)) l stays.bytes
    read_now = ap warc_files stays.whole ∙ warc_written (d.reading old.disk) l stays.bytes

    read_count : length (warc_files (d.reading disk)) ≡ length (warc_files (d.reading old.disk))
    read_count = ap length read_now ∙ length-set (warc_files (d.reading old.disk)) l stays.bytes

    pub last_others : cdxj_files (d.reading disk) ≡ cdxj_files (d.reading old.disk)
    last_others = ap cdxj_files stays.whole ∙ cdxj_written (d.reading old.disk) l stays.bytes

    pub last_same : texts_in old.extent (warc_files (d.reading disk)) ≡ texts d old
    last_same =
        ap (texts_in old.extent) read_now
        ∙ texts_front old.extent (warc_files (d.reading old.disk)) l stays.bytes in_step.enough at (stays.step ∙ ap (λ (b : List ℕ). take old.extent.end b) (file_is (d.reading old.disk) l))

    within : (k : ℕ) → k + 1 ≡ old.extent.volumes → old.extent.end ≤ length (get_or (warc_files (d.reading disk)) k [])
    within k is =
        let one : k ≡ l = omega (arith, is, at) in
        let here : get_or (warc_files (d.reading disk)) k [] ≡ stays.bytes =
        (λ i. get_or (read_now i) (one i) []) ∙ get_or-set_same (warc_files (d.reading old.disk)) l stays.bytes [] (omega (arith, at, in_step.enough)) in
        omega (arith, ap length here, ap length stays.step, last_within, length-take old.extent.end stays.bytes, length-take old.extent.end (file_of (d.reading old.disk) Warc l))

    module _ (Q : List ℕ → Type 0) (adds : AddsOnly d.moment d.images_since old.disk disk (Rewrites Warc (old.extent.volumes - 1) (d.images old.disk) Q)) where
      from : (i : Image) → d.images disk i → d.images old.disk i ⊎ Rewrites Warc l (d.images old.disk) Q i
      from = left_now d counts only old.disk disk (Rewrites Warc l (d.images old.disk) Q) adds

      sealed : (i : Image) → d.images disk i → AreSealed ts (warc_files i)
      sealed i left =
          ⊎_elim (in_step.sealed i)
          (λ is. subst (AreSealed ts) (sym (rewritten_warc l (d.images old.disk) Q i is)) (sealed_set ts (warc_files is.before) (in_step.sealed is.before is.was) l is.bytes (omega (arith, at, count))))
          (from i left)

      empty : (i : Image) → d.images disk i → IsFurtherEmpty ts (warc_files i)
      empty i left =
          ⊎_elim (in_step.known known i)
          (λ is. subst (IsFurtherEmpty ts) (sym (rewritten_warc l (d.images old.disk) Q i is)) (further_beside ts (warc_files is.before) (in_step.sealed is.before is.was) l is.bytes (omega (arith, at, count)) (in_step.known known is.before is.was)))
          (from i left)

      there : old.extent.further ≡ Empty → (i : Image) → d.images disk i → old.extent.volumes < length (warc_files i)
      there is i left =
          ⊎_elim (in_step.there is i)
          (λ r. omega (arith, in_step.there is r.before r.was, ap length (rewritten_warc l (d.images old.disk) Q i r), length-set (warc_files r.before) l r.bytes))
          (from i left)

      -- refused, the file is dirty
      pub last_failed : IsInStep d (record { disk = disk; extent = record old.extent { is_dirty = true } })
      last_failed = subst (λ (t : List (List ℕ)). Reaches (record old.extent { is_dirty = true }) t (d.reading disk) (d.images disk)) (sym last_same) record {
        none = in_step.none;
        enough = omega (arith, in_step.enough, read_count);
        one_more = omega (arith, in_step.one_more, read_count);
        within = within;
        sealed = sealed;
        clean = λ is. cc is;
        known = λ apart. empty;
        absent = λ is. omega (arith, in_step.absent is, read_count);
        there = there;
        held = λ dirty unknown. absurd (known unknown);
      }

      -- with just its text in each image it is clean
      pub last_mended : Leaves (d.images disk) (IsAdded (last_of old.extent) (d.reading old.disk) (d.images old.disk) [])
          → IsInStep d (record { disk = disk; extent = record old.extent { is_dirty = false } })
      last_mended mended = subst (λ (t : List (List ℕ)). Reaches (record old.extent { is_dirty = false }) t (d.reading disk) (d.images disk)) (sym last_same) record {
        none = in_step.none;
        enough = omega (arith, in_step.enough, read_count);
        one_more = omega (arith, in_step.one_more, read_count);
        within = within;
        sealed = sealed;
        clean = λ is i left. let r = mended i left in
            subst (IsLastJust ts) (sym (ap warc_files r.whole ∙ warc_written r.before l r.bytes))
            (last_set ts (warc_files r.before) (in_step.sealed r.before r.was) l r.bytes (at ∙ sym count) (r.described ∙ append-nil (take old.extent.end (file_of (d.reading old.disk) Warc l)) ∙ sym last_text));
        known = λ apart. empty;
        absent = λ is. omega (arith, in_step.absent is, read_count);
        there = there;
        held = λ dirty. cc dirty;
      }

    pub last_prepared : (is_dirty : Bool) → AddsOnly d.moment d.images_since old.disk disk (IsFinished (last_of old.extent) (d.reading old.disk) (d.images old.disk))
        → Prepares d old (record { disk = disk; extent = record old.extent { is_dirty = is_dirty } })
    last_prepared is_dirty adds = record {
      leaves = weakened d.moment d.images_since old.disk disk (Rewrites Warc l (d.images old.disk) (HoldsBefore (last_of old.extent) (d.reading old.disk))) (IsLeft (d.images old.disk) (Hold ts)) last_left adds;
      same = last_same;
      others = last_others;
    }
