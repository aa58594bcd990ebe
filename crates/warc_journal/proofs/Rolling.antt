-- A volume begins in the further file.
use Rattle.std.proofs.Common.{◌≡◌, ◌≢◌, ◌⊎◌, ◌<◌, ◌≤◌, ℕ, ◌+◌, false, List, [], ◌∷◌, ◌++◌, length, get_or, take, refl, sym, ap, subst, ◌∙◌, inl, inr, ⊎_elim, arith, get_or-set_other, get_or-set_same, Result, Ok}
use Rattle.std.specs.Result.{IsErr}
use Rattle.std.proofs.lemmas.Bool.{cases_lt}
use Rattle.std.proofs.lemmas.List.{get_or_append_left, get_or_push, length-set, length_push, take_all}
use lib.ListN.{set}
use Rattle.disk_model.specs.Crash.{Leaves}
use Rattle.disk_model.specs.Image.{Image, with_file}
use Rattle.disk_model.specs.Moments.{AddsOnly}
use Rattle.disk_model.proofs.MomentLaws.{weakened}
use Rattle.disk_model.specs.declared.disk.Disk.{Ghosts}
use Rattle.disk_model.specs.declared.kind.Kind.TheVariants.{Warc}
use Rattle.gated_file.specs.Files.{HoldsAfter, HoldsBefore, HoldsEither, IsAdded, IsEither, IsFinished, IsKnown, KeepsText, Rewrites}
use Rattle.warc_journal.specs.Journals.{Changes, IsInStep, IsLeft, texts}
use Rattle.warc_journal.specs.Extents.{Reaches, cdxj_files, further_of, texts_in, warc_files}
use Rattle.warc_journal.specs.Texts.{AreJust, AreSealed, Hold, HoldEither, IsFurtherEmpty, IsLastJust}
use Rattle.warc_journal.specs.declared.extent.Extent.{Extent}
use Rattle.warc_journal.specs.declared.extent.Further.TheVariants.{Absent, Empty, Unknown}
use Rattle.warc_journal.specs.declared.journal.Journal.{Journal}
use Rattle.warc_journal.proofs.Files.{are_just, hold_further, hold_just, last_beside, length_texts, new_further, new_last, new_sealed, sealed_set, texts_beside, texts_told}
use Rattle.warc_journal.proofs.Preparing.{cdxj_written, failed_has, file_is, left_by, left_now, on_err, rest_of_further, rewritten_warc, warc_written}

-- The text is put into the further file, which is empty.
module _ {D : Type 0} (d : Ghosts D)
    (counts : (disk : D) (t : ℕ) (i : Image) → t ≤ d.moment disk → d.images disk i → d.images_since disk t i)
    (only : (disk : D) (i : Image) → d.images_since disk (d.moment disk) i → d.images disk i)
    (old : Journal D) (disk : D) (in_step : IsInStep d old)
    (clean : old.extent.is_dirty ≡ false) (empty : old.extent.further ≡ Empty) (is_read : d.images old.disk (d.reading old.disk)) (info : List ℕ) where
  abbrev ts : List (List ℕ)
  ts = texts d old

  abbrev v : ℕ
  v = old.extent.volumes

  known : old.extent.further ≢ Unknown
  known unknown = cc (sym empty ∙ unknown)

  count : length ts ≡ v
  count = length_texts old.extent (warc_files (d.reading old.disk)) in_step.enough

  -- the file is known
  pub begin_known : IsKnown (further_of old.extent false) (d.reading old.disk) (d.images old.disk)
  begin_known is i left = record {
    there = in_step.there empty i left;
    same = file_is i v ∙ in_step.known known i left v (in_step.there empty i left) (omega (arith, count));
  }

  -- an image with the text holds the texts after, and just these
  after_files : (image : Image) → (is : Rewrites Warc v (d.images old.disk) (HoldsAfter (further_of old.extent false) (d.reading old.disk) info) image) → warc_files image ≡ set (warc_files is.before) v info
  after_files image is = rewritten_warc v (d.images old.disk) (HoldsAfter (further_of old.extent false) (d.reading old.disk) info) image is ∙ ap (set (warc_files is.before) v) is.described

  after_sealed : (image : Image) → Rewrites Warc v (d.images old.disk) (HoldsAfter (further_of old.extent false) (d.reading old.disk) info) image → AreSealed (ts ++ info ∷ []) (warc_files image)
  after_sealed image is = subst (AreSealed (ts ++ info ∷ [])) (sym (after_files image is)) (new_sealed ts (warc_files is.before) (in_step.sealed is.before is.was) v info (sym count) is.there (in_step.clean clean is.before is.was))

  after_last : (image : Image) → Rewrites Warc v (d.images old.disk) (HoldsAfter (further_of old.extent false) (d.reading old.disk) info) image → IsLastJust (ts ++ info ∷ []) (warc_files image)
  after_last image is = subst (IsLastJust (ts ++ info ∷ [])) (sym (after_files image is)) (new_last ts (warc_files is.before) (in_step.sealed is.before is.was) v info (sym count) is.there)

  after_further : (image : Image) → Rewrites Warc v (d.images old.disk) (HoldsAfter (further_of old.extent false) (d.reading old.disk) info) image → IsFurtherEmpty (ts ++ info ∷ []) (warc_files image)
  after_further image is = subst (IsFurtherEmpty (ts ++ info ∷ [])) (sym (after_files image is)) (new_further ts (warc_files is.before) (in_step.sealed is.before is.was) v info (sym count) is.there)

  left_with : (Description : List (List ℕ) → Type 0) (Q : List ℕ → Type 0) (image : Image) → (is : Rewrites Warc v (d.images old.disk) Q image) → Description (warc_files image) → IsLeft (d.images old.disk) Description image
  left_with Description Q image is described = left_by v (d.images old.disk) Q Description image is (subst Description (rewritten_warc v (d.images old.disk) Q image is) described)

  -- an image in which the file is finished still holds the texts before
  begin_left : (image : Image) → Rewrites Warc v (d.images old.disk) (HoldsBefore (further_of old.extent false) (d.reading old.disk)) image → IsLeft (d.images old.disk) (Hold ts) image
  begin_left image is =
      left_by v (d.images old.disk) (HoldsBefore (further_of old.extent false) (d.reading old.disk)) (Hold ts) image is
      (hold_further ts (warc_files is.before) (in_step.sealed is.before is.was) v is.bytes (sym count)
      (hold_just ts (warc_files is.before) (in_step.sealed is.before is.was) (in_step.clean clean is.before is.was) (in_step.known known is.before is.was)).last
      (rest_of_further old.extent false (d.reading old.disk) is.bytes is.described))

  either_left : (image : Image) → Rewrites Warc v (d.images old.disk) (HoldsEither (further_of old.extent false) (d.reading old.disk) info) image → IsLeft (d.images old.disk) (HoldEither ts (ts ++ info ∷ [])) image
  either_left image is = ⊎_elim before after is.described
    where
      before : HoldsBefore (further_of old.extent false) (d.reading old.disk) is.bytes → IsLeft (d.images old.disk) (HoldEither ts (ts ++ info ∷ [])) image
      before holds =
          let one = begin_left image (record { before = is.before; was = is.was; there = is.there; bytes = is.bytes; described = holds; whole = is.whole }) in
          record { before = one.before; was = one.was; others = one.others; described = inl one.described }

      after : HoldsAfter (further_of old.extent false) (d.reading old.disk) info is.bytes → IsLeft (d.images old.disk) (HoldEither ts (ts ++ info ∷ [])) image
      after has =
          let r : Rewrites Warc v (d.images old.disk) (HoldsAfter (further_of old.extent false) (d.reading old.disk) info) image = record { before = is.before; was = is.was; there = is.there; bytes = is.bytes; described = has; whole = is.whole } in
          left_with (HoldEither ts (ts ++ info ∷ [])) (HoldsEither (further_of old.extent false) (d.reading old.disk) info) image is
          (inr (hold_just (ts ++ info ∷ []) (warc_files image) (after_sealed image r) (after_last image r) (after_further image r)))

  begin_leaves : AddsOnly d.moment d.images_since old.disk disk (IsEither (further_of old.extent false) (d.reading old.disk) (d.images old.disk) info)
      → AddsOnly d.moment d.images_since old.disk disk (IsLeft (d.images old.disk) (HoldEither ts (ts ++ info ∷ [])))
  begin_leaves adds = weakened d.moment d.images_since old.disk disk (Rewrites Warc v (d.images old.disk) (HoldsEither (further_of old.extent false) (d.reading old.disk) info)) (IsLeft (d.images old.disk) (HoldEither ts (ts ++ info ∷ []))) either_left adds

  module _ (stays : KeepsText (further_of old.extent false) (d.reading old.disk) (d.reading disk))
      (adds : AddsOnly d.moment d.images_since old.disk disk (IsEither (further_of old.extent false) (d.reading old.disk) (d.images old.disk) info)) where
    abbrev Q : List ℕ → Type 0
    Q = HoldsEither (further_of old.extent false) (d.reading old.disk) info

    read_stays : warc_files (d.reading disk) ≡ set (warc_files (d.reading old.disk)) v stays.bytes
    read_stays = ap warc_files stays.whole ∙ warc_written (d.reading old.disk) v stays.bytes

    same : texts_in old.extent (warc_files (d.reading disk)) ≡ ts
    same = ap (texts_in old.extent) read_stays ∙ texts_beside old.extent (warc_files (d.reading old.disk)) v stays.bytes in_step.enough (omega arith)

    stays_count : length (warc_files (d.reading disk)) ≡ length (warc_files (d.reading old.disk))
    stays_count = ap length read_stays ∙ length-set (warc_files (d.reading old.disk)) v stays.bytes

    from : (i : Image) → d.images disk i → d.images old.disk i ⊎ Rewrites Warc v (d.images old.disk) Q i
    from = left_now d counts only old.disk disk (Rewrites Warc v (d.images old.disk) Q) adds

    -- refused, the further file is unknown
    pub begin_failed : IsInStep d (record { disk = disk; extent = record old.extent { further = Unknown } })
    begin_failed = subst (λ (t : List (List ℕ)). Reaches (record old.extent { further = Unknown }) t (d.reading disk) (d.images disk)) (sym same) record {
      none = in_step.none;
      enough = omega (arith, in_step.enough, stays_count);
      one_more = omega (arith, in_step.one_more, stays_count);
      within = λ k is. let other : get_or (warc_files (d.reading disk)) k [] ≡ get_or (warc_files (d.reading old.disk)) k [] =
          ap (λ (files : List (List ℕ)). get_or files k []) read_stays ∙ get_or-set_other (warc_files (d.reading old.disk)) v k stays.bytes [] (omega (arith, is)) in
          omega (arith, in_step.within k is, ap length other);
      sealed = λ i left. ⊎_elim (in_step.sealed i) (λ is. subst (AreSealed ts) (sym (rewritten_warc v (d.images old.disk) Q i is)) (sealed_set ts (warc_files is.before) (in_step.sealed is.before is.was) v is.bytes (omega (arith, count)))) (from i left);
      clean = λ _ i left. ⊎_elim (in_step.clean clean i) (λ is. subst (IsLastJust ts) (sym (rewritten_warc v (d.images old.disk) Q i is)) (last_beside ts (warc_files is.before) (in_step.sealed is.before is.was) v is.bytes (omega (arith, count)) (in_step.clean clean is.before is.was))) (from i left);
      known = λ apart. absurd (apart refl);
      absent = λ is. cc is;
      there = λ is. cc is;
      held = λ dirty. cc (sym clean ∙ dirty);
    }

    pub begin_refused : {T E : Type 0} (result : Result T E) → IsErr result
        → (Leaves (d.images disk) (λ image. d.images old.disk image ⊎ IsFinished (further_of old.extent false) (d.reading old.disk) (d.images old.disk) image)
        ⊎ Leaves (d.images disk) (IsEither (further_of old.extent false) (d.reading old.disk) (d.images old.disk) info))
        → Changes d old (record { disk = disk; extent = record old.extent { further = Unknown } }) (ts ++ info ∷ []) result
    begin_refused result failed refused = record {
      leaves = begin_leaves adds;
      added = failed_has _ result failed;
      only = failed_has _ result failed;
      stays = on_err _ result same;
      refused = on_err _ result
          (⊎_elim
          (λ kept. inl (λ i left. ⊎_elim (λ was. inl was) (λ is. inr (begin_left i is)) (kept i left)))
          (λ fors. inr (λ i left. either_left i (fors i left)))
          refused);
      others = ap cdxj_files stays.whole ∙ cdxj_written (d.reading old.disk) v stays.bytes;
    }

  module _ (read : d.reading disk ≡ with_file (d.reading old.disk) Warc old.extent.volumes info)
      (added : Leaves (d.images disk) (IsAdded (further_of old.extent false) (d.reading old.disk) (d.images old.disk) info)) where
    abbrev begun : Extent
    begun = record { volumes = old.extent.volumes + 1; end = length info; is_dirty = false; further = Absent }

    read_now : warc_files (d.reading disk) ≡ set (warc_files (d.reading old.disk)) v info
    read_now = ap warc_files read ∙ warc_written (d.reading old.disk) v info

    there : v < length (warc_files (d.reading old.disk))
    there = in_step.there empty (d.reading old.disk) is_read

    read_count : length (warc_files (d.reading disk)) ≡ v + 1
    read_count = omega (arith, ap length read_now, length-set (warc_files (d.reading old.disk)) v info, there, in_step.one_more)

    here : get_or (warc_files (d.reading disk)) v [] ≡ info
    here = ap (λ (files : List (List ℕ)). get_or files v []) read_now ∙ get_or-set_same (warc_files (d.reading old.disk)) v info [] there

    read_was : (k : ℕ) → k < v → get_or ts k [] ≡ get_or (warc_files (d.reading old.disk)) k []
    read_was k less =
        sym (⊎_elim
        (λ earlier. (in_step.sealed (d.reading old.disk) is_read).sealed k earlier)
        (λ last. in_step.clean clean (d.reading old.disk) is_read k (omega (arith, last, less, count)))
        (cases_lt (k + 1) (length ts)))

    texts_now : texts_in begun (warc_files (d.reading disk)) ≡ ts ++ info ∷ []
    texts_now =
        texts_told begun (warc_files (d.reading disk)) (ts ++ info ∷ []) (omega (arith, read_count)) (omega (arith, length_push ts info, count))
        (λ k less.
        let before : k < v = omega (arith, less) in
        get_or_append_left ts (info ∷ []) [] k (omega (arith, before, count))
        ∙ read_was k before
        ∙ sym (ap (λ (files : List (List ℕ)). get_or files k []) read_now ∙ get_or-set_other (warc_files (d.reading old.disk)) v k info [] (omega (arith, before))))
        (λ k is.
        let one : k ≡ v = omega (arith, is) in
        get_or_push ts info [] k (omega (arith, one, count))
        ∙ sym (take_all (length info) info (omega arith))
        ∙ sym (ap (λ (b : List ℕ). take (length info) b) (ap (λ (i : ℕ). get_or (warc_files (d.reading disk)) i []) one ∙ here)))

    -- the volume is there
    pub begin_in_step : IsInStep d (record { disk = disk; extent = record { volumes = old.extent.volumes + 1; end = length info; is_dirty = false; further = Absent } })
    begin_in_step = subst (λ (t : List (List ℕ)). Reaches begun t (d.reading disk) (d.images disk)) (sym texts_now) record {
      none = λ is. absurd (omega (arith, is));
      enough = omega (arith, read_count);
      one_more = omega (arith, read_count);
      within = λ k is. let one : k ≡ v = omega (arith, is) in omega (arith, ap length (ap (λ (i : ℕ). get_or (warc_files (d.reading disk)) i []) one ∙ here));
      sealed = λ i left. after_sealed i (added i left);
      clean = λ is i left. after_last i (added i left);
      known = λ apart i left. after_further i (added i left);
      absent = λ is. read_count;
      there = λ is. cc is;
      held = λ dirty. cc dirty;
    }

    pub begin_done : {T E : Type 0} (value : T)
        → AddsOnly d.moment d.images_since old.disk disk (IsEither (further_of old.extent false) (d.reading old.disk) (d.images old.disk) info)
        → Changes {E = E} d old (record { disk = disk; extent = record { volumes = old.extent.volumes + 1; end = length info; is_dirty = false; further = Absent } }) (ts ++ info ∷ []) (Ok value)
    begin_done value adds = record {
      leaves = begin_leaves adds;
      added = texts_now;
      only = λ i left. left_with (AreJust (ts ++ info ∷ [])) (HoldsAfter (further_of old.extent false) (d.reading old.disk) info) i (added i left)
          (are_just (ts ++ info ∷ []) (warc_files i) (after_sealed i (added i left)) (after_last i (added i left)) (after_further i (added i left)));
      stays = tt;
      refused = tt;
      others = ap cdxj_files read ∙ cdxj_written (d.reading old.disk) v info;
    }
