-- A file is mended: what a read gives and what a crash leaves.
use Rattle.std.proofs.Common.{◌≡◌, ◌⊎◌, ◌<◌, ◌≤◌, ℕ, List, [], ◌++◌, length, take, sym, ap, ◌∙◌, subst, inl, arith}
use Rattle.std.proofs.lemmas.List.{append-nil, length-take-le, take-take}
use Rattle.disk_model.specs.Crash.{Cut, Elapses, Follows, OnFile, Stepped, Within}
use Rattle.disk_model.specs.Image.{Image, file_count, with_file}
use Rattle.disk_model.specs.steps.ImageLaws.{with_file-with_file}
use Rattle.disk_model.specs.Moments.{AddsOnly}
use Rattle.disk_model.proofs.MomentLaws.{none_added, goes_on, joined, weakened, absorbed, now_has}
use Rattle.capture.specs.Tails.{HoldsText, IsRest}
use Rattle.gated_file.specs.Files.{HoldsAfter, HoldsBefore, IsEnded, KeepsFront, Rewrites, bytes_of, text_of}
use Rattle.gated_file.specs.steps.Mending.{IsSynced, rest_of}
use Rattle.gated_file.specs.declared.file.GatedFile.{GatedFile}
use Rattle.gated_file.proofs.Bytes.{cut_keeps, holds_cut, holds_split, kept_length}
use Rattle.gated_file.proofs.RewriteLaws.{bytes_after, on_file_step, on_file_there, on_file_weaker, rewritten_has, rewritten_there, rewrites_step, rewrites_synced, rewrites_twice, rewrites_weaker}
use Rattle.gated_file.proofs.Putting.{front_stays_twice}

-- the text as a read gives it is kept
pub same_text : (gated : GatedFile) (old new : Image) → gated.file < file_count old gated.kind → OnFile gated.kind gated.file (KeepsFront gated.end) old new → text_of gated new ≡ text_of gated old
same_text gated old new there on = on_file_step gated.kind gated.file (KeepsFront gated.end) old new there on

-- and the file is there, and long enough
pub stays_within : (gated : GatedFile) (old new : Image) → gated.file < file_count old gated.kind → gated.end ≤ length (bytes_of gated old) → OnFile gated.kind gated.file (KeepsFront gated.end) old new → gated.end ≤ length (bytes_of gated new)
stays_within gated old new there within on = kept_length gated.end (bytes_of gated old) (bytes_of gated new) within (same_text gated old new there on)

-- a cut at the end keeps it
pub cut_stays : (gated : GatedFile) (old new : Image) → gated.end ≤ length (bytes_of gated old) → OnFile gated.kind gated.file (Cut gated.end) old new → OnFile gated.kind gated.file (KeepsFront gated.end) old new
cut_stays gated old new within = on_file_weaker gated.kind gated.file (Cut gated.end) (KeepsFront gated.end) old new (λ bytes cut. cut_keeps gated.end (bytes_of gated old) bytes within cut)

module _ {D : Type 0} (moment : D → ℕ) (images_since : D → ℕ → Image → Type 0) (images : D → Image → Type 0) (reading : D → Image)
    (counts : (d : D) (t : ℕ) (i : Image) → t ≤ moment d → images d i → images_since d t i)
    (only : (d : D) (i : Image) → images_since d (moment d) i → images d i)
    (gated : GatedFile) (start : D) where
  abbrev text : List ℕ
  text = text_of gated (reading start)

  -- a call that adds no images
  pub no_more : (new : D) (P : Image → Type 0) → Within (images start) (images new) → Elapses (moment start) (moment new) (images_since start) (images_since new) (images new) → AddsOnly moment images_since start new P
  no_more new P within time =
      absorbed moment images_since start new (images start) P (λ t i le was. counts start t i le was)
      (goes_on moment images_since start start new (λ i. images start i ⊎ P i) (images new) (none_added moment images_since start (λ i. images start i ⊎ P i)) time (λ i left. inl (within i left)))

  -- what a crash leaves after calls that add such images
  pub left_now : (new : D) (P : Image → Type 0) → AddsOnly moment images_since start new P → (i : Image) → images new i → images start i ⊎ P i
  left_now new P run = now_has moment images_since start new (images start) P (images new) (λ i left. counts new (moment start) i run.later left) (only start) run

  module _ (there : gated.file < file_count (reading start) gated.kind) (within : gated.end ≤ length (bytes_of gated (reading start))) where
    size : length text ≡ gated.end
    size = length-take-le gated.end (bytes_of gated (reading start)) within

    -- what stands behind the end is a tail in each image, and is cut off
    module _ (two : D) (synced : IsSynced gated (reading two) (images two)) (tail : IsRest gated.commit (rest_of gated (reading two)))
        (stays : OnFile gated.kind gated.file (KeepsFront gated.end) (reading start) (reading two))
        (leaves : AddsOnly moment images_since start two (Rewrites gated.kind gated.file (images start) (HoldsBefore gated (reading start)))) where
      held : HoldsText gated.commit text (bytes_of gated (reading two))
      held =
          subst (λ (l : List ℕ). HoldsText gated.commit l (bytes_of gated (reading two))) (same_text gated (reading start) (reading two) there stays)
          (holds_split gated.commit gated.end (bytes_of gated (reading two)) tail)

      cut_holds : (i : Image) → images two i → (bytes : List ℕ) → Cut gated.end (bytes_of gated i) bytes → HoldsBefore gated (reading start) bytes
      cut_holds i left bytes cut =
          holds_cut gated.commit text (bytes_of gated (reading two)) bytes held
          (subst (λ (l : List ℕ). Cut (length text) l bytes) (synced i left).same (subst (λ (n : ℕ). Cut n (bytes_of gated i) bytes) (sym size) cut))

      after_cut : (i : Image) → Stepped (OnFile gated.kind gated.file (Cut gated.end)) (images two) i → Rewrites gated.kind gated.file (images start) (HoldsBefore gated (reading start)) i
      after_cut i stepped =
          rewrites_twice gated (images start) (images two) (HoldsBefore gated (reading start)) (HoldsBefore gated (reading start)) i
          (left_now two (Rewrites gated.kind gated.file (images start) (HoldsBefore gated (reading start))) leaves)
          (rewrites_step gated (images two) (Cut gated.end) (HoldsBefore gated (reading start)) i (λ j left. (synced j left).there) cut_holds stepped)

      pub cut_adds : (new : D) → AddsOnly moment images_since two new (Stepped (OnFile gated.kind gated.file (Cut gated.end)) (images two))
          → AddsOnly moment images_since start new (Rewrites gated.kind gated.file (images start) (HoldsBefore gated (reading start)))
      cut_adds new run =
          joined moment images_since start two new (Rewrites gated.kind gated.file (images start) (HoldsBefore gated (reading start))) leaves
          (weakened moment images_since two new (Stepped (OnFile gated.kind gated.file (Cut gated.end)) (images two)) (Rewrites gated.kind gated.file (images start) (HoldsBefore gated (reading start))) after_cut run)

      pub cut_only : (new : D) → Follows (OnFile gated.kind gated.file (Cut gated.end)) (images two) (images new)
          → IsSynced gated (reading new) (images new)
          → reading new ≡ with_file (reading two) gated.kind gated.file (text_of gated (reading two))
          → (i : Image) → images new i → Rewrites gated.kind gated.file (images start) (HoldsAfter gated (reading start) []) i
      cut_only new follows durable is i left =
          rewrites_weaker gated (images start) (images start) (λ b. b ≡ bytes_of gated (reading new)) (HoldsAfter gated (reading start) []) i (λ j was. was) (λ b e. e ∙ bytes)
          (rewrites_synced gated (images start) (HoldsBefore gated (reading start)) (bytes_of gated (reading new)) i (durable i left) (after_cut i (follows i left)))
        where
          bytes : bytes_of gated (reading new) ≡ text ++ []
          bytes =
              bytes_after gated.kind gated.file _ (reading two) (reading new) (on_file_there gated.kind gated.file (KeepsFront gated.end) (reading start) (reading two) there stays) is
              ∙ same_text gated (reading start) (reading two) there stays
              ∙ sym (append-nil text)

      pub cut_reading : (new : D) → reading new ≡ with_file (reading two) gated.kind gated.file (text_of gated (reading two)) → reading new ≡ with_file (reading start) gated.kind gated.file text
      cut_reading new is =
          is
          ∙ (λ i. with_file (stays.whole i) gated.kind gated.file (same_text gated (reading start) (reading two) there stays i))
          ∙ with_file-with_file (reading start) gated.kind gated.file stays.bytes text

  -- the same, seen from before a sync
  pub seen_before : (first : D) → reading start ≡ reading first → Within (images first) (images start) → (Q : GatedFile → Image → List ℕ → Type 0) → (i : Image)
      → Rewrites gated.kind gated.file (images start) (Q gated (reading start)) i → Rewrites gated.kind gated.file (images first) (Q gated (reading first)) i
  seen_before first same within Q i is =
      rewrites_weaker gated (images start) (images first) (Q gated (reading start)) (Q gated (reading first)) i within (λ bytes has. subst (λ (r : Image). Q gated r bytes) same has) is

  pub adds_before : (first new : D) → reading start ≡ reading first → Within (images first) (images start)
      → AddsOnly moment images_since first start (Rewrites gated.kind gated.file (images first) (HoldsBefore gated (reading first)))
      → AddsOnly moment images_since start new (Rewrites gated.kind gated.file (images start) (HoldsBefore gated (reading start)))
      → AddsOnly moment images_since first new (Rewrites gated.kind gated.file (images first) (HoldsBefore gated (reading first)))
  adds_before first new same within run next =
      joined moment images_since first start new (Rewrites gated.kind gated.file (images first) (HoldsBefore gated (reading first))) run
      (weakened moment images_since start new (Rewrites gated.kind gated.file (images start) (HoldsBefore gated (reading start))) (Rewrites gated.kind gated.file (images first) (HoldsBefore gated (reading first)))
      (seen_before first same within HoldsBefore) next)

-- the whole: a sync from first to start, the commit byte taken off until two, a cut until new
module _ {D : Type 0} (moment : D → ℕ) (images_since : D → ℕ → Image → Type 0) (images : D → Image → Type 0) (reading : D → Image)
    (counts : (d : D) (t : ℕ) (i : Image) → t ≤ moment d → images d i → images_since d t i)
    (only : (d : D) (i : Image) → images_since d (moment d) i → images d i)
    (gated : GatedFile) (first start two : D)
    (there_first : gated.file < file_count (reading first) gated.kind) (within_first : gated.end ≤ length (bytes_of gated (reading first)))
    (same : reading start ≡ reading first) (before : Within (images first) (images start))
    (time : Elapses (moment first) (moment start) (images_since first) (images_since start) (images start))
    (uncommitted : AddsOnly moment images_since start two (Rewrites gated.kind gated.file (images start) (HoldsBefore gated (reading start)))) where
  abbrev pub Adds : D → Type 0
  Adds new = AddsOnly moment images_since first new (Rewrites gated.kind gated.file (images first) (HoldsBefore gated (reading first)))

  pub all_until : (new : D) → AddsOnly moment images_since start new (Rewrites gated.kind gated.file (images start) (HoldsBefore gated (reading start))) → Adds new
  all_until new run =
      adds_before moment images_since images reading counts only gated start first new same before
      (no_more moment images_since images reading counts only gated first start (Rewrites gated.kind gated.file (images first) (HoldsBefore gated (reading first))) before time) run

  there_start : gated.file < file_count (reading start) gated.kind
  there_start = subst (λ (i : Image). gated.file < file_count i gated.kind) (sym same) there_first

  within_start : gated.end ≤ length (bytes_of gated (reading start))
  within_start = subst (λ (i : Image). gated.end ≤ length (bytes_of gated i)) (sym same) within_first

  module _ (stays : OnFile gated.kind gated.file (KeepsFront gated.end) (reading start) (reading two)) where
    pub stays_two : OnFile gated.kind gated.file (KeepsFront gated.end) (reading first) (reading two)
    stays_two = subst (λ (i : Image). OnFile gated.kind gated.file (KeepsFront gated.end) i (reading two)) same stays

    pub stays_new : (new : D) → OnFile gated.kind gated.file (Cut gated.end) (reading two) (reading new) → OnFile gated.kind gated.file (KeepsFront gated.end) (reading first) (reading new)
    stays_new new cut =
        front_stays_twice gated (reading first) (reading two) (reading new) there_first stays_two
        (cut_stays gated (reading two) (reading new) (stays_within gated (reading first) (reading two) there_first within_first stays_two) cut)

    module _ (synced : IsSynced gated (reading two) (images two)) (tail : IsRest gated.commit (rest_of gated (reading two))) where
      pub mend_leaves : (new : D) → AddsOnly moment images_since two new (Stepped (OnFile gated.kind gated.file (Cut gated.end)) (images two)) → Adds new
      mend_leaves new run =
          all_until new (cut_adds moment images_since images reading counts only gated start there_start within_start two synced tail stays uncommitted new run)

      pub mend_only : (new : D) → Follows (OnFile gated.kind gated.file (Cut gated.end)) (images two) (images new)
          → IsSynced gated (reading new) (images new)
          → reading new ≡ with_file (reading two) gated.kind gated.file (text_of gated (reading two))
          → (i : Image) → images new i → Rewrites gated.kind gated.file (images first) (HoldsAfter gated (reading first) []) i
      mend_only new follows durable is i left =
          seen_before moment images_since images reading counts only gated start first same before (λ (x : GatedFile) (r : Image). HoldsAfter x r []) i
          (cut_only moment images_since images reading counts only gated start there_start within_start two synced tail stays uncommitted new follows durable is i left)

      pub mend_reading : (new : D) → reading new ≡ with_file (reading two) gated.kind gated.file (text_of gated (reading two)) → reading new ≡ with_file (reading first) gated.kind gated.file (text_of gated (reading first))
      mend_reading new is =
          cut_reading moment images_since images reading counts only gated start there_start within_start two synced tail stays uncommitted new is
          ∙ ap (λ (r : Image). with_file r gated.kind gated.file (text_of gated r)) same

-- where each image has just the text, nothing stands behind it
pub ended : (gated : GatedFile) (first : Image) (images olds : Image → Type 0) (new : Image) → gated.file < file_count first gated.kind
    → new ≡ with_file first gated.kind gated.file (text_of gated first)
    → ((i : Image) → images i → Rewrites gated.kind gated.file olds (HoldsAfter gated first []) i)
    → IsEnded gated new images
ended gated first images olds new there is only i left = record {
  there = rewritten_there gated olds (HoldsAfter gated first []) i (only i left);
  same = rewritten_has gated olds (HoldsAfter gated first []) i (only i left) ∙ append-nil (text_of gated first) ∙ sym same_as_first;
}
  where
    same_as_first : text_of gated new ≡ text_of gated first
    same_as_first = ap (λ (l : List ℕ). take gated.end l) (bytes_after gated.kind gated.file _ first new there is) ∙ take-take gated.end gated.end (bytes_of gated first) (omega arith)
