-- A text is added to the last volume's clean file.
use Rattle.std.proofs.Common.{◌≡◌, ◌≢◌, ◌⊎◌, ◌<◌, ◌≤◌, ℕ, ◌+◌, ◌-◌, true, false, List, [], ◌++◌, length, get_or, take, sym, ap, subst, ◌∙◌, inl, inr, ⊎_elim, arith, length-append, get_or-set_other, get_or-set_same, Result, Ok}
use Rattle.std.specs.Result.{IsErr}
use Rattle.std.proofs.lemmas.List.{length-set, length-take-le, take_all}
use lib.ListN.{set}
use Rattle.disk_model.specs.Crash.{Leaves}
use Rattle.disk_model.specs.Image.{Image, file_of, with_file}
use Rattle.disk_model.specs.Moments.{AddsOnly}
use Rattle.disk_model.proofs.MomentLaws.{weakened}
use Rattle.disk_model.specs.declared.disk.Disk.{Ghosts}
use Rattle.disk_model.specs.declared.kind.Kind.TheVariants.{Warc}
use Rattle.gated_file.specs.Files.{HoldsAfter, HoldsBefore, HoldsEither, IsAdded, IsEither, IsFinished, IsKnown, KeepsText, Rewrites}
use Rattle.warc_journal.specs.Journals.{Changes, IsInStep, IsLeft, texts}
use Rattle.warc_journal.specs.Extents.{Reaches, cdxj_files, last_of, texts_in, warc_files}
use Rattle.warc_journal.specs.Texts.{AreJust, AreSealed, HoldEither, IsFurtherEmpty, IsLastJust, with_more}
use Rattle.warc_journal.specs.declared.extent.Extent.{Extent}
use Rattle.warc_journal.specs.declared.extent.Further.TheVariants.{Unknown}
use Rattle.warc_journal.specs.declared.journal.Journal.{Journal}
use Rattle.warc_journal.proofs.Files.{are_just, hold_just, length_texts, more_further, more_last, more_sealed, text_last, text_sealed, texts_told, with_more_is}
use Rattle.warc_journal.proofs.Last.{last_left, last_others, last_same, last_within}
use Rattle.warc_journal.proofs.Preparing.{cdxj_written, failed_has, file_is, on_err, left_by, rewritten_warc, warc_written}

module _ {D : Type 0} (d : Ghosts D)
    (counts : (disk : D) (t : ℕ) (i : Image) → t ≤ d.moment disk → d.images disk i → d.images_since disk t i)
    (only : (disk : D) (i : Image) → d.images_since disk (d.moment disk) i → d.images disk i)
    (old : Journal D) (disk : D) (in_step : IsInStep d old)
    (some : 0 < old.extent.volumes) (known : old.extent.further ≢ Unknown) (clean : old.extent.is_dirty ≡ false) (more : List ℕ) where
  abbrev ts : List (List ℕ)
  ts = texts d old

  abbrev l : ℕ
  l = old.extent.volumes - 1

  -- the text in the file
  abbrev own : List ℕ
  own = take old.extent.end (file_of (d.reading old.disk) Warc (old.extent.volumes - 1))

  at : l + 1 ≡ old.extent.volumes
  at = omega (arith, some)

  count : length ts ≡ old.extent.volumes
  count = length_texts old.extent (warc_files (d.reading old.disk)) in_step.enough

  own_text : get_or ts l [] ≡ own
  own_text = text_last old.extent (warc_files (d.reading old.disk)) l at in_step.enough ∙ ap (λ (b : List ℕ). take old.extent.end b) (sym (file_is (d.reading old.disk) l))

  after_is : with_more ts more ≡ set ts l (own ++ more)
  after_is = with_more_is ts l more (at ∙ sym count) ∙ ap (λ (b : List ℕ). set ts l (b ++ more)) own_text

  -- the file is known
  pub add_known : IsKnown (last_of old.extent) (d.reading old.disk) (d.images old.disk)
  add_known is i left = record {
    there = omega (arith, (in_step.sealed i left).enough, count, at);
    same = file_is i l ∙ in_step.clean clean i left l (at ∙ sym count) ∙ own_text;
  }

  -- an image with the text holds the texts after, and just these
  after_sealed : (image : Image) → (is : Rewrites Warc l (d.images old.disk) (HoldsAfter (last_of old.extent) (d.reading old.disk) more) image) → AreSealed (with_more ts more) (warc_files image)
  after_sealed image is =
      subst (λ (t : List (List ℕ)). AreSealed t (warc_files image)) (sym after_is)
      (subst (AreSealed (set ts l (own ++ more))) (sym (rewritten_warc l (d.images old.disk) (HoldsAfter (last_of old.extent) (d.reading old.disk) more) image is ∙ ap (set (warc_files is.before) l) is.described))
      (more_sealed ts (warc_files is.before) (in_step.sealed is.before is.was) l (own ++ more) (at ∙ sym count)))

  after_last : (image : Image) → (is : Rewrites Warc l (d.images old.disk) (HoldsAfter (last_of old.extent) (d.reading old.disk) more) image) → IsLastJust (with_more ts more) (warc_files image)
  after_last image is =
      subst (λ (t : List (List ℕ)). IsLastJust t (warc_files image)) (sym after_is)
      (subst (IsLastJust (set ts l (own ++ more))) (sym (rewritten_warc l (d.images old.disk) (HoldsAfter (last_of old.extent) (d.reading old.disk) more) image is ∙ ap (set (warc_files is.before) l) is.described))
      (more_last ts (warc_files is.before) (in_step.sealed is.before is.was) l (own ++ more) (at ∙ sym count)))

  after_further : (image : Image) → (is : Rewrites Warc l (d.images old.disk) (HoldsAfter (last_of old.extent) (d.reading old.disk) more) image) → IsFurtherEmpty (with_more ts more) (warc_files image)
  after_further image is =
      subst (λ (t : List (List ℕ)). IsFurtherEmpty t (warc_files image)) (sym after_is)
      (subst (IsFurtherEmpty (set ts l (own ++ more))) (sym (rewritten_warc l (d.images old.disk) (HoldsAfter (last_of old.extent) (d.reading old.disk) more) image is ∙ ap (set (warc_files is.before) l) is.described))
      (more_further ts (warc_files is.before) (in_step.sealed is.before is.was) l (own ++ more) (at ∙ sym count) (in_step.known known is.before is.was)))

  -- an image that an append leaves at some moment
  left_with : (Description : List (List ℕ) → Type 0) (Q : List ℕ → Type 0) (image : Image) → (is : Rewrites Warc l (d.images old.disk) Q image) → Description (warc_files image) → IsLeft (d.images old.disk) Description image
  left_with Description Q image is described = left_by l (d.images old.disk) Q Description image is (subst Description (rewritten_warc l (d.images old.disk) Q image is) described)

  add_left : (image : Image) → Rewrites Warc l (d.images old.disk) (HoldsEither (last_of old.extent) (d.reading old.disk) more) image → IsLeft (d.images old.disk) (HoldEither ts (with_more ts more)) image
  add_left image is = ⊎_elim before after is.described
    where
      before : HoldsBefore (last_of old.extent) (d.reading old.disk) is.bytes → IsLeft (d.images old.disk) (HoldEither ts (with_more ts more)) image
      before holds =
          let one = last_left d counts only old disk in_step some known image (record { before = is.before; was = is.was; there = is.there; bytes = is.bytes; described = holds; whole = is.whole }) in
          record { before = one.before; was = one.was; others = one.others; described = inl one.described }

      after : HoldsAfter (last_of old.extent) (d.reading old.disk) more is.bytes → IsLeft (d.images old.disk) (HoldEither ts (with_more ts more)) image
      after has =
          let r : Rewrites Warc l (d.images old.disk) (HoldsAfter (last_of old.extent) (d.reading old.disk) more) image = record { before = is.before; was = is.was; there = is.there; bytes = is.bytes; described = has; whole = is.whole } in
          left_with (HoldEither ts (with_more ts more)) (HoldsEither (last_of old.extent) (d.reading old.disk) more) image is
          (inr (hold_just (with_more ts more) (warc_files image) (after_sealed image r) (after_last image r) (after_further image r)))

  add_leaves : AddsOnly d.moment d.images_since old.disk disk (IsEither (last_of old.extent) (d.reading old.disk) (d.images old.disk) more)
      → AddsOnly d.moment d.images_since old.disk disk (IsLeft (d.images old.disk) (HoldEither ts (with_more ts more)))
  add_leaves adds = weakened d.moment d.images_since old.disk disk (Rewrites Warc l (d.images old.disk) (HoldsEither (last_of old.extent) (d.reading old.disk) more)) (IsLeft (d.images old.disk) (HoldEither ts (with_more ts more))) add_left adds

  -- the text was refused
  pub add_refused : {T E : Type 0} (result : Result T E) → IsErr result
      → AddsOnly d.moment d.images_since old.disk disk (IsEither (last_of old.extent) (d.reading old.disk) (d.images old.disk) more)
      → KeepsText (last_of old.extent) (d.reading old.disk) (d.reading disk)
      → (Leaves (d.images disk) (λ image. d.images old.disk image ⊎ IsFinished (last_of old.extent) (d.reading old.disk) (d.images old.disk) image)
      ⊎ Leaves (d.images disk) (IsEither (last_of old.extent) (d.reading old.disk) (d.images old.disk) more))
      → Changes d old (record { disk = disk; extent = record old.extent { is_dirty = true } }) (with_more ts more) result
  add_refused result failed adds stays refused = record {
    leaves = add_leaves adds;
    added = failed_has _ result failed;
    only = failed_has _ result failed;
    stays = on_err _ result (last_same d counts only old disk in_step some known stays);
    refused = on_err _ result
        (⊎_elim
        (λ kept. inl (λ i left. ⊎_elim (λ was. inl was) (λ is. inr (last_left d counts only old disk in_step some known i is)) (kept i left)))
        (λ fors. inr (λ i left. add_left i (fors i left)))
        refused);
    others = last_others d counts only old disk in_step some known stays;
  }

  module _ (read : d.reading disk ≡ with_file (d.reading old.disk) Warc (old.extent.volumes - 1) (own ++ more))
      (added : Leaves (d.images disk) (IsAdded (last_of old.extent) (d.reading old.disk) (d.images old.disk) more)) where
    read_now : warc_files (d.reading disk) ≡ set (warc_files (d.reading old.disk)) l (own ++ more)
    read_now = ap warc_files read ∙ warc_written (d.reading old.disk) l (own ++ more)

    read_count : length (warc_files (d.reading disk)) ≡ length (warc_files (d.reading old.disk))
    read_count = ap length read_now ∙ length-set (warc_files (d.reading old.disk)) l (own ++ more)

    here : get_or (warc_files (d.reading disk)) l [] ≡ own ++ more
    here = ap (λ (files : List (List ℕ)). get_or files l []) read_now ∙ get_or-set_same (warc_files (d.reading old.disk)) l (own ++ more) [] (omega (arith, at, in_step.enough))

    own_size : length own ≡ old.extent.end
    own_size = length-take-le old.extent.end (file_of (d.reading old.disk) Warc l) (last_within d counts only old disk in_step some known)

    size : length (own ++ more) ≡ old.extent.end + length more
    size = length-append own more ∙ ap (λ (n : ℕ). n + length more) own_size

    abbrev grown : Extent
    grown = record old.extent { end = old.extent.end + length more; is_dirty = false }

    texts_now : texts_in grown (warc_files (d.reading disk)) ≡ with_more ts more
    texts_now =
        texts_told grown (warc_files (d.reading disk)) (with_more ts more) (omega (arith, read_count, in_step.enough)) (length-set ts (length ts - 1) _ ∙ count)
        (λ k less.
        ap (λ (t : List (List ℕ)). get_or t k []) after_is
        ∙ get_or-set_other ts l k (own ++ more) [] (omega (arith, less, at))
        ∙ text_sealed old.extent (warc_files (d.reading old.disk)) k less
        ∙ sym (ap (λ (files : List (List ℕ)). get_or files k []) read_now ∙ get_or-set_other (warc_files (d.reading old.disk)) l k (own ++ more) [] (omega (arith, less, at))))
        (λ k is.
        let one : k ≡ l = omega (arith, is, at) in
        (λ i. get_or (after_is i) (one i) [])
        ∙ get_or-set_same ts l (own ++ more) [] (omega (arith, at, count))
        ∙ sym (take_all (old.extent.end + length more) (own ++ more) (omega (arith, size)))
        ∙ sym (λ i. take (old.extent.end + length more) ((ap (λ (n : ℕ). get_or (warc_files (d.reading disk)) n []) one ∙ here) i)))

    within : (k : ℕ) → k + 1 ≡ old.extent.volumes → old.extent.end + length more ≤ length (get_or (warc_files (d.reading disk)) k [])
    within k is =
        let one : k ≡ l = omega (arith, is, at) in
        omega (arith, size, ap length (ap (λ (n : ℕ). get_or (warc_files (d.reading disk)) n []) one ∙ here))

    -- the text was added
    pub add_in_step : IsInStep d (record { disk = disk; extent = record old.extent { end = old.extent.end + length more; is_dirty = false } })
    add_in_step = subst (λ (t : List (List ℕ)). Reaches grown t (d.reading disk) (d.images disk)) (sym texts_now) record {
      none = λ is. absurd (omega (arith, is, some));
      enough = omega (arith, in_step.enough, read_count);
      one_more = omega (arith, in_step.one_more, read_count);
      within = within;
      sealed = λ i left. after_sealed i (added i left);
      clean = λ is i left. after_last i (added i left);
      known = λ apart i left. after_further i (added i left);
      absent = λ is. omega (arith, in_step.absent is, read_count);
      there = λ is i left. let r = added i left in
          omega (arith, in_step.there is r.before r.was, ap length (rewritten_warc l (d.images old.disk) (HoldsAfter (last_of old.extent) (d.reading old.disk) more) i r), length-set (warc_files r.before) l r.bytes);
      held = λ dirty. cc dirty;
    }

    pub add_done : {T E : Type 0} (value : T)
        → AddsOnly d.moment d.images_since old.disk disk (IsEither (last_of old.extent) (d.reading old.disk) (d.images old.disk) more)
        → Changes {E = E} d old (record { disk = disk; extent = record old.extent { end = old.extent.end + length more; is_dirty = false } }) (with_more ts more) (Ok value)
    add_done value adds = record {
      leaves = add_leaves adds;
      added = texts_now;
      only = λ i left. left_with (AreJust (with_more ts more)) (HoldsAfter (last_of old.extent) (d.reading old.disk) more) i (added i left)
          (are_just (with_more ts more) (warc_files i) (after_sealed i (added i left)) (after_last i (added i left)) (after_further i (added i left)));
      stays = tt;
      refused = tt;
      others = ap cdxj_files read ∙ cdxj_written (d.reading old.disk) l (own ++ more);
    }
