-- What stands behind the texts is taken away: what that leaves.
use Rattle.std.proofs.Common.{◌≡◌, ◌⊎◌, ◌<◌, ◌≤◌, ℕ, ◌+◌, Bool, true, false, List, [], length, get_or, refl, sym, ap, subst, ◌∙◌, inl, ⊎_elim, arith, get_or-set_other, Result, Ok, Err, OnErr, OnOk}
use Rattle.std.specs.Result.{IsErr}
use Rattle.std.proofs.lemmas.Bool.{false≢true}
use Rattle.std.proofs.lemmas.List.{append-nil, length-set}
use lib.ListN.{set}
use Rattle.capture.specs.Tails.{HoldsText, IsRest}
use Rattle.disk_model.specs.Crash.{Leaves, OnFile}
use Rattle.disk_model.specs.Image.{Image, file_count, file_of, files_of, with_file}
use Rattle.disk_model.specs.steps.ImageLaws.{files_of-with_files, files_of-with_file_kind}
use Rattle.disk_model.specs.Moments.{AddsOnly}
use Rattle.disk_model.proofs.MomentLaws.{joined, now_has, weakened}
use Rattle.disk_model.specs.declared.disk.Disk.{Ghosts}
use Rattle.disk_model.specs.declared.kind.Kind.{Kind}
use Rattle.disk_model.specs.declared.kind.Kind.TheVariants.{Warc, Cdxj}
use Rattle.gated_file.specs.Files.{HoldsBefore, IsAdded, IsFinished, KeepsText, Rewrites}
use Rattle.gated_file.proofs.RewriteLaws.{on_file_count}
use Rattle.warc_text.specs.StandsFor.{commit_byte}
use Rattle.warc_journal.specs.Journals.{IsInStep, IsLeft, Prepares, texts}
use Rattle.warc_journal.specs.Extents.{MakesNoFile, Reaches, cdxj_files, further_of, texts_in, warc_files}
use Rattle.warc_journal.specs.Texts.{AreSealed, Hold, IsFurtherEmpty, IsLastJust}
use Rattle.warc_journal.specs.declared.extent.Extent.{Extent}
use Rattle.warc_journal.specs.declared.extent.Further.{Further}
use Rattle.warc_journal.specs.declared.extent.Further.TheVariants.{Absent, Empty, Unknown}
use Rattle.warc_journal.specs.declared.journal.Journal.{Journal}
use Rattle.warc_journal.proofs.Files.{further_set, hold_further, last_beside, length_texts, sealed_set, texts_beside}

-- what holds, holds at a refusal, and of a refusal all holds at Ok
pub on_err : {T E : Type 0} (P : Type 0) (result : Result T E) → P → OnErr result P
on_err P (Ok v) p = tt
on_err P (Err e) p = p

pub failed_has : {T E : Type 0} (P : Type 0) (result : Result T E) → IsErr result → OnOk result P
failed_has P (Ok v) failed = absurd (false≢true failed)
failed_has P (Err e) failed = tt

-- a file that is written, in the list of files
pub warc_written : (image : Image) (file : ℕ) (bytes : List ℕ) → warc_files (with_file image Warc file bytes) ≡ set (warc_files image) file bytes
unfolding with_file
warc_written image file bytes = files_of-with_files image Warc (set (files_of image Warc) file bytes)

pub cdxj_written : (image : Image) (file : ℕ) (bytes : List ℕ) → cdxj_files (with_file image Warc file bytes) ≡ cdxj_files image
cdxj_written image file bytes = files_of-with_file_kind image Warc file bytes Cdxj (λ same. cc)

-- a call on a file makes none
pub no_file : (kind : Kind) (file : ℕ) (Step : List ℕ → List ℕ → Type 0) (old new : Image) → OnFile kind file Step old new → MakesNoFile old new
no_file kind file Step old new stays = on_file_count kind file Step old new Warc stays

pub file_is : (image : Image) (file : ℕ) → file_of image Warc file ≡ get_or (warc_files image) file []
unfolding file_of
file_is image file = refl

-- an image that is rewritten
pub rewritten_warc : (file : ℕ) (images : Image → Type 0) (Q : List ℕ → Type 0) (image : Image) → (is : Rewrites Warc file images Q image) → warc_files image ≡ set (warc_files is.before) file is.bytes
rewritten_warc file images Q image is = ap warc_files is.whole ∙ warc_written is.before file is.bytes

pub left_by : (file : ℕ) (images : Image → Type 0) (Q : List ℕ → Type 0) (Description : List (List ℕ) → Type 0) (image : Image)
    → (is : Rewrites Warc file images Q image) → Description (set (warc_files is.before) file is.bytes) → IsLeft images Description image
left_by file images Q Description image is described = record {
  before = is.before;
  was = is.was;
  others = ap cdxj_files is.whole ∙ cdxj_written is.before file is.bytes;
  described = subst Description (sym (rewritten_warc file images Q image is)) described;
}

-- a further file that is finished is empty or has an unfinished tail
pub rest_of_further : (extent : Extent) (is_dirty : Bool) (reading : Image) (bytes : List ℕ) → HoldsBefore (further_of extent is_dirty) reading bytes → IsRest commit_byte bytes
rest_of_further extent is_dirty reading bytes holds = subst (IsRest commit_byte) (sym holds.composed) holds.unfinished

-- the last file of an image holds its text where the further one is unknown
pub last_holds : (extent : Extent) (ts : List (List ℕ)) (reading : Image) (images : Image → Type 0) → Reaches extent ts reading images → extent.further ≡ Unknown
    → (image : Image) → images image → (k : ℕ) → k + 1 ≡ length ts → HoldsText commit_byte (get_or ts k []) (get_or (warc_files image) k [])
last_holds extent ts reading images reaches unknown image left k is = by_case extent.is_dirty refl
  where
    by_case : (b : Bool) → extent.is_dirty ≡ b → HoldsText commit_byte (get_or ts k []) (get_or (warc_files image) k [])
    by_case true dirty = (reaches.held dirty unknown image left).last k is
    by_case false clean = record { rest = []; unfinished = inl refl; composed = reaches.clean clean image left k is ∙ sym (append-nil (get_or ts k [])) }

-- an image that is left by what an earlier call left
pub left_on : (old mid : Image → Type 0) (P Q : List (List ℕ) → Type 0) (image : Image)
    → ((i : Image) → mid i → old i ⊎ IsLeft old P i) → IsLeft mid Q image → IsLeft old Q image
left_on old mid P Q image from is =
    ⊎_elim
    (λ was. record { before = is.before; was = was; others = is.others; described = is.described })
    (λ first. record { before = first.before; was = first.was; others = is.others ∙ first.others; described = is.described })
    (from is.before is.was)

module _ {D : Type 0} (d : Ghosts D)
    (counts : (disk : D) (t : ℕ) (i : Image) → t ≤ d.moment disk → d.images disk i → d.images_since disk t i)
    (only : (disk : D) (i : Image) → d.images_since disk (d.moment disk) i → d.images disk i) where
  -- what a crash leaves now
  pub left_now : (old new : D) (P : Image → Type 0) → AddsOnly d.moment d.images_since old new P → (i : Image) → d.images new i → d.images old i ⊎ P i
  left_now old new P adds = now_has d.moment d.images_since old new (d.images old) P (d.images new) (λ i left. counts new (d.moment old) i adds.later left) (only old) adds

  -- one step after another
  pub prepared_twice : (old mid new : Journal D) → Prepares d old mid → Prepares d mid new → Prepares d old new
  prepared_twice old mid new first second = record {
    leaves =
        joined d.moment d.images_since old.disk mid.disk new.disk (IsLeft (d.images old.disk) (Hold (texts d old))) first.leaves
        (weakened d.moment d.images_since mid.disk new.disk (IsLeft (d.images mid.disk) (Hold (texts d mid))) (IsLeft (d.images old.disk) (Hold (texts d old)))
        (λ i is. subst (λ (ts : List (List ℕ)). IsLeft (d.images old.disk) (Hold ts) i) first.same
        (left_on (d.images old.disk) (d.images mid.disk) (Hold (texts d old)) (Hold (texts d mid)) i (left_now old.disk mid.disk (IsLeft (d.images old.disk) (Hold (texts d old))) first.leaves) is))
        second.leaves);
    same = second.same ∙ first.same;
    others = second.others ∙ first.others;
  }

  module _ (old : Journal D) (disk : D) (in_step : IsInStep d old) where
    abbrev ts : List (List ℕ)
    ts = texts d old

    abbrev v : ℕ
    v = old.extent.volumes

    count : length ts ≡ v
    count = length_texts old.extent (warc_files (d.reading old.disk)) in_step.enough

    module _ (unknown : old.extent.further ≡ Unknown) (stays : KeepsText (further_of old.extent true) (d.reading old.disk) (d.reading disk))
        (adds : AddsOnly d.moment d.images_since old.disk disk (IsFinished (further_of old.extent true) (d.reading old.disk) (d.images old.disk))) where
      abbrev Q : List ℕ → Type 0
      Q = HoldsBefore (further_of old.extent true) (d.reading old.disk)

      read_now : warc_files (d.reading disk) ≡ set (warc_files (d.reading old.disk)) v stays.bytes
      read_now = ap warc_files stays.whole ∙ warc_written (d.reading old.disk) v stays.bytes

      same : texts_in old.extent (warc_files (d.reading disk)) ≡ ts
      same = ap (texts_in old.extent) read_now ∙ texts_beside old.extent (warc_files (d.reading old.disk)) v stays.bytes in_step.enough (omega arith)

      read_count : length (warc_files (d.reading disk)) ≡ length (warc_files (d.reading old.disk))
      read_count = ap length read_now ∙ length-set (warc_files (d.reading old.disk)) v stays.bytes

      holds : (i : Image) → (is : Rewrites Warc v (d.images old.disk) Q i) → Hold ts (set (warc_files is.before) v is.bytes)
      holds i is =
          hold_further ts (warc_files is.before) (in_step.sealed is.before is.was) v is.bytes (sym count)
          (last_holds old.extent ts (d.reading old.disk) (d.images old.disk) in_step unknown is.before is.was)
          (rest_of_further old.extent true (d.reading old.disk) is.bytes is.described)

      from : (i : Image) → d.images disk i → d.images old.disk i ⊎ Rewrites Warc v (d.images old.disk) Q i
      from = left_now old.disk disk (Rewrites Warc v (d.images old.disk) Q) adds

      pub further_leaves : AddsOnly d.moment d.images_since old.disk disk (IsLeft (d.images old.disk) (Hold (texts d old)))
      further_leaves =
          weakened d.moment d.images_since old.disk disk (Rewrites Warc v (d.images old.disk) Q) (IsLeft (d.images old.disk) (Hold ts))
          (λ i is. left_by v (d.images old.disk) Q (Hold ts) i is (holds i is)) adds

      pub further_prepared : (is_dirty : Bool) (further : Further)
          → Prepares d old (record { disk = disk; extent = record old.extent { is_dirty = is_dirty; further = further } })
      further_prepared is_dirty further = record { leaves = further_leaves; same = same; others = ap cdxj_files stays.whole ∙ cdxj_written (d.reading old.disk) v stays.bytes }

      sealed : (i : Image) → d.images disk i → AreSealed ts (warc_files i)
      sealed i left =
          ⊎_elim (in_step.sealed i)
          (λ is. subst (AreSealed ts) (sym (rewritten_warc v (d.images old.disk) Q i is)) (sealed_set ts (warc_files is.before) (in_step.sealed is.before is.was) v is.bytes (omega (arith, count))))
          (from i left)

      just : old.extent.is_dirty ≡ false → (i : Image) → d.images disk i → IsLastJust ts (warc_files i)
      just clean i left =
          ⊎_elim (in_step.clean clean i)
          (λ is. subst (IsLastJust ts) (sym (rewritten_warc v (d.images old.disk) Q i is)) (last_beside ts (warc_files is.before) (in_step.sealed is.before is.was) v is.bytes (omega (arith, count)) (in_step.clean clean is.before is.was)))
          (from i left)

      within : (k : ℕ) → k + 1 ≡ v → old.extent.end ≤ length (get_or (warc_files (d.reading disk)) k [])
      within k is =
          let other : get_or (warc_files (d.reading disk)) k [] ≡ get_or (warc_files (d.reading old.disk)) k [] =
          ap (λ (files : List (List ℕ)). get_or files k []) read_now ∙ get_or-set_other (warc_files (d.reading old.disk)) v k stays.bytes [] (omega (arith, is)) in
          omega (arith, in_step.within k is, ap length other)

      -- where that failed, the further file is unknown still
      pub further_failed : IsInStep d (record { disk = disk; extent = old.extent })
      further_failed = subst (λ (t : List (List ℕ)). Reaches old.extent t (d.reading disk) (d.images disk)) (sym same) record {
        none = in_step.none;
        enough = omega (arith, in_step.enough, read_count);
        one_more = omega (arith, in_step.one_more, read_count);
        within = within;
        sealed = sealed;
        clean = just;
        known = λ apart. absurd (apart unknown);
        absent = λ is. omega (arith, in_step.absent is, read_count);
        there = λ is. cc (sym unknown ∙ is);
        held = λ dirty is i left. ⊎_elim (in_step.held dirty unknown i) (λ r. subst (Hold ts) (sym (rewritten_warc v (d.images old.disk) Q i r)) (holds i r)) (from i left);
      }

      -- and else it is empty
      pub further_cleared : Leaves (d.images disk) (IsAdded (further_of old.extent true) (d.reading old.disk) (d.images old.disk) [])
          → IsInStep d (record { disk = disk; extent = record old.extent { further = Empty } })
      further_cleared cleared = subst (λ (t : List (List ℕ)). Reaches (record old.extent { further = Empty }) t (d.reading disk) (d.images disk)) (sym same) record {
        none = in_step.none;
        enough = omega (arith, in_step.enough, read_count);
        one_more = omega (arith, in_step.one_more, read_count);
        within = within;
        sealed = sealed;
        clean = just;
        known = λ apart i left. let is = cleared i left in
            subst (IsFurtherEmpty ts) (sym (rewritten_warc v (d.images old.disk) (λ (b : List ℕ). b ≡ []) i is)) (further_set ts (warc_files is.before) (in_step.sealed is.before is.was) v is.bytes (sym count) is.described);
        absent = λ is. cc is;
        there = λ is i left. let r = cleared i left in omega (arith, r.there, ap length (rewritten_warc v (d.images old.disk) (λ (b : List ℕ). b ≡ []) i r), length-set (warc_files r.before) v r.bytes);
        held = λ dirty is. cc is;
      }

-- where there is no further file, none is left
pub further_absent : (extent : Extent) (ts : List (List ℕ)) (reading : Image) (images : Image → Type 0)
    → ((i : Image) → images i → file_count i Warc ≤ file_count reading Warc) → (extent.volumes < length (warc_files reading) → ⊥)
    → length ts ≡ extent.volumes → Reaches extent ts reading images → Reaches (record extent { further = Absent }) ts reading images
further_absent extent ts reading images fewer none count reaches = record {
  none = reaches.none;
  enough = reaches.enough;
  one_more = reaches.one_more;
  within = reaches.within;
  sealed = reaches.sealed;
  clean = reaches.clean;
  known = λ apart i left k less behind. absurd (none (omega (arith, fewer i left, less, behind, count)));
  absent = λ is. omega (arith, reaches.enough, none);
  there = λ is. cc is;
  held = λ dirty is. cc is;
}

-- how many texts a journal has
pub texts_count : {D : Type 0} (d : Ghosts D) (journal : Journal D) → IsInStep d journal → length (texts d journal) ≡ journal.extent.volumes
texts_count d journal in_step = length_texts journal.extent (warc_files (d.reading journal.disk)) in_step.enough
