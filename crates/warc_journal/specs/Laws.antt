-- Laws for those who add texts, and who work on other files of the disk.
use Rattle.std.proofs.Common.{◌≡◌, ◌≤◌, ℕ, List, [], ◌∷◌, length, get_or, refl, sym, ap, subst, ◌∙◌, inl, inr, ⊎_elim, arith}
use Rattle.std.proofs.lemmas.List.{append-nil, get_or_append_left, get_or_push, length_push}
use Rattle.disk_model.specs.Crash.{Leaves}
use Rattle.disk_model.specs.Image.{Image}
use Rattle.disk_model.specs.Moments.{AddsOnly}
use Rattle.disk_model.proofs.MomentLaws.{now_has}
use Rattle.disk_model.specs.declared.disk.Disk.{Ghosts}
use Rattle.warc_journal.specs.Extents.{Reaches, cdxj_files, texts_in, warc_files}
use Rattle.warc_journal.specs.Journals.{IsInStep, IsLeft, texts}
use Rattle.warc_journal.specs.Texts.{AreJust, AreSealed, Hold, HoldEither, IsFurtherEmpty, IsLastJust}
use Rattle.warc_journal.specs.declared.extent.Extent.{Extent}
use Rattle.warc_journal.specs.declared.journal.Journal.{Journal}

-- files that are just the texts hold them
abbrev pub JustTextsAreHeld : Type 0
JustTextsAreHeld = (texts files : List (List ℕ)) → AreJust texts files → Hold texts files

-- an image with the Warc files of an image from before
pub record HasWarcOf (images : Image → Type 0) (image : Image) : Type 0 where
  pub before : Image
  pub was : images before
  pub same : warc_files image ≡ warc_files before

-- where a read gives the same Warc files, and a crash leaves those that it might have left, a journal stays in step
abbrev pub TextsStayBesideOtherWork : {D : Type 0} → Ghosts D → Type 0
TextsStayBesideOtherWork {D} d =
    (old : Journal D) (disk : D) → warc_files (d.reading disk) ≡ warc_files (d.reading old.disk)
    → Leaves (d.images disk) (HasWarcOf (d.images old.disk)) → IsInStep d old
    → IsInStep d (record old { disk = disk })

-- an image with the Cdxj files of an image from before
pub record HasCdxjOf (images : Image → Type 0) (image : Image) : Type 0 where
  pub before : Image
  pub was : images before
  pub same : cdxj_files image ≡ cdxj_files before

-- where a run leaves the texts before or after, with the Cdxj files of an image from before, each image has such Cdxj files
abbrev pub CheckpointsStayBesideTexts : {D : Type 0} → Ghosts D → Type 0
CheckpointsStayBesideTexts {D} d =
    (old disk : D) (before after : List (List ℕ))
    → AddsOnly d.moment d.images_since old disk (IsLeft (d.images old) (HoldEither before after))
    → Leaves (d.images disk) (HasCdxjOf (d.images old))

pub checkpoints_stay : {D : Type 0} (d : Ghosts D)
    → ((disk : D) (t : ℕ) (i : Image) → t ≤ d.moment disk → d.images disk i → d.images_since disk t i)
    → ((disk : D) (i : Image) → d.images_since disk (d.moment disk) i → d.images disk i)
    → CheckpointsStayBesideTexts d
checkpoints_stay d counts only old disk before after leaves image left =
    ⊎_elim
    (λ was. record { before = image; was = was; same = refl })
    (λ is. record { before = is.before; was = is.was; same = is.others })
    (now_has d.moment d.images_since old disk (d.images old) (IsLeft (d.images old) (HoldEither before after)) (d.images disk)
    (λ i now. counts disk (d.moment old) i leaves.later now) (only old) leaves image left)

pub just_are_held : JustTextsAreHeld
just_are_held texts files (inl same) = record {
  enough = omega (arith, ap length same);
  one_more = omega (arith, ap length same);
  sealed = λ k less. ap (λ (l : List (List ℕ)). get_or l k []) same;
  last = λ k is. record { rest = []; unfinished = inl refl; composed = ap (λ (l : List (List ℕ)). get_or l k []) same ∙ sym (append-nil (get_or texts k [])) };
  further = λ k less behind. absurd (omega (arith, less, behind, ap length same));
}
just_are_held texts files (inr more) = record {
  enough = omega (arith, ap length more, length_push texts []);
  one_more = omega (arith, ap length more, length_push texts []);
  sealed = λ k less. ap (λ (l : List (List ℕ)). get_or l k []) more ∙ get_or_append_left texts ([] ∷ []) [] k (omega (arith, less));
  last = λ k is. record {
    rest = [];
    unfinished = inl refl;
    composed = ap (λ (l : List (List ℕ)). get_or l k []) more ∙ get_or_append_left texts ([] ∷ []) [] k (omega (arith, is)) ∙ sym (append-nil (get_or texts k []));
  };
  further = λ k less behind. inl (ap (λ (l : List (List ℕ)). get_or l k []) more ∙ get_or_push texts [] [] k (omega (arith, less, behind, ap length more, length_push texts [])));
}

-- where a read gives the same Warc files, and a crash leaves those that it might have left, the texts reach as far
stay_beside : (extent : Extent) (texts : List (List ℕ)) (old new : Image) (before after : Image → Type 0)
    → warc_files new ≡ warc_files old → ((image : Image) → after image → HasWarcOf before image)
    → Reaches extent texts old before → Reaches extent texts new after
stay_beside extent texts old new before after read from reaches = record {
  none = reaches.none;
  enough = omega (arith, reaches.enough, ap length read);
  one_more = omega (arith, reaches.one_more, ap length read);
  within = λ k is. omega (arith, reaches.within k is, ap length (ap (λ (l : List (List ℕ)). get_or l k []) read));
  sealed = λ i left. subst (AreSealed texts) (sym (from i left).same) (reaches.sealed (from i left).before (from i left).was);
  clean = λ is i left. subst (IsLastJust texts) (sym (from i left).same) (reaches.clean is (from i left).before (from i left).was);
  known = λ is i left. subst (IsFurtherEmpty texts) (sym (from i left).same) (reaches.known is (from i left).before (from i left).was);
  absent = λ is. omega (arith, reaches.absent is, ap length read);
  there = λ is i left. omega (arith, reaches.there is (from i left).before (from i left).was, ap length (from i left).same);
  held = λ dirty is i left. subst (Hold texts) (sym (from i left).same) (reaches.held dirty is (from i left).before (from i left).was);
}

pub in_step_beside : {D : Type 0} (d : Ghosts D) → TextsStayBesideOtherWork d
in_step_beside d old disk read from in_step =
    subst (λ (texts : List (List ℕ)). Reaches old.extent texts (d.reading disk) (d.images disk)) (sym (ap (texts_in old.extent) read))
    (stay_beside old.extent (texts d old) (d.reading old.disk) (d.reading disk) (d.images old.disk) (d.images disk) read from in_step)
