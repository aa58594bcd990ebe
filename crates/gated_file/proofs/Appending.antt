-- A file is made clean, and a text is put behind the finished one.
use Rattle.std.proofs.Common.{◌≡◌, ◌⊎◌, ◌<◌, ◌≤◌, ◌+◌, ℕ, false, List, [], ◌++◌, length, take, sym, ap, ◌∙◌, subst, inl, inr, ⊎_elim, arith, length-append}
use Rattle.std.proofs.lemmas.List.{append-nil, length-take-le, take_all}
use Rattle.disk_model.specs.Image.{Image, file_count, with_file}
use Rattle.disk_model.specs.steps.ImageLaws.{with_file-with_file}
use Rattle.disk_model.specs.Moments.{AddsOnly}
use Rattle.disk_model.proofs.MomentLaws.{joined, weakened}
use Rattle.capture.specs.Tails.{HoldsText}
use Rattle.gated_file.specs.Files.{HoldsAfter, HoldsBefore, HoldsEither, IsEnded, Rewrites, bytes_of, text_of}
use Rattle.gated_file.specs.declared.file.GatedFile.{GatedFile}
use Rattle.gated_file.proofs.Bytes.{holds_alone}
use Rattle.gated_file.proofs.Mending.{left_now}
use Rattle.gated_file.proofs.RewriteLaws.{bytes_after, rewritten_has, rewritten_there, rewrites_twice, rewrites_weaker}

module _ {D : Type 0} (moment : D → ℕ) (images_since : D → ℕ → Image → Type 0) (images : D → Image → Type 0) (reading : D → Image)
    (counts : (d : D) (t : ℕ) (i : Image) → t ≤ moment d → images d i → images_since d t i)
    (only : (d : D) (i : Image) → images_since d (moment d) i → images d i)
    (gated : GatedFile) (more : List ℕ) (first mid : D)
    (there : gated.file < file_count (reading first) gated.kind) (within : gated.end ≤ length (bytes_of gated (reading first)))
    (mended : reading mid ≡ with_file (reading first) gated.kind gated.file (text_of gated (reading first)))
    (cleaned : (i : Image) → images mid i → Rewrites gated.kind gated.file (images first) (HoldsAfter gated (reading first) []) i)
    (adds : AddsOnly moment images_since first mid (Rewrites gated.kind gated.file (images first) (HoldsBefore gated (reading first)))) where
  abbrev text : List ℕ
  text = text_of gated (reading first)

  size : length text ≡ gated.end
  size = length-take-le gated.end (bytes_of gated (reading first)) within

  bytes_mid : bytes_of gated (reading mid) ≡ text
  bytes_mid = bytes_after gated.kind gated.file text (reading first) (reading mid) there mended

  pub length_mid : gated.end ≡ length (bytes_of gated (reading mid))
  length_mid = omega (arith, size, ap length bytes_mid)

  text_mid : text_of gated (reading mid) ≡ text
  text_mid = ap (λ (l : List ℕ). take gated.end l) bytes_mid ∙ take_all gated.end text (omega (arith, size))

  pub ended_mid : IsEnded gated (reading mid) (images mid)
  ended_mid i left = record {
    there = rewritten_there gated (images first) (HoldsAfter gated (reading first) []) i (cleaned i left);
    same = rewritten_has gated (images first) (HoldsAfter gated (reading first) []) i (cleaned i left) ∙ append-nil text ∙ sym text_mid;
  }

  -- an image that is rewritten behind the clean file, seen from before
  seen_from : (Q : List ℕ → List ℕ → Type 0) (i : Image)
      → Rewrites gated.kind gated.file (images mid) (Q (text_of gated (reading mid))) i → Rewrites gated.kind gated.file (images first) (Q text) i
  seen_from Q i is =
      rewrites_twice gated (images first) (images mid) (HoldsAfter gated (reading first) []) (Q text) i (λ j left. inr (cleaned j left))
      (rewrites_weaker gated (images mid) (images mid) (Q (text_of gated (reading mid))) (Q text) i (λ j was. was) (λ bytes has. subst (λ (l : List ℕ). Q l bytes) text_mid has) is)

  either : (i : Image) → Rewrites gated.kind gated.file (images mid) (HoldsEither gated (reading mid) more) i → Rewrites gated.kind gated.file (images first) (HoldsEither gated (reading first) more) i
  either = seen_from (λ (t bytes : List ℕ). HoldsText gated.commit t bytes ⊎ (bytes ≡ t ++ more))

  pub append_adds : (new : D) → AddsOnly moment images_since mid new (Rewrites gated.kind gated.file (images mid) (HoldsEither gated (reading mid) more))
      → AddsOnly moment images_since first new (Rewrites gated.kind gated.file (images first) (HoldsEither gated (reading first) more))
  append_adds new run =
      joined moment images_since first mid new (Rewrites gated.kind gated.file (images first) (HoldsEither gated (reading first) more))
      (weakened moment images_since first mid (Rewrites gated.kind gated.file (images first) (HoldsBefore gated (reading first))) (Rewrites gated.kind gated.file (images first) (HoldsEither gated (reading first) more))
      (λ i is. rewrites_weaker gated (images first) (images first) (HoldsBefore gated (reading first)) (HoldsEither gated (reading first) more) i (λ j was. was) (λ bytes holds. inl holds) is)
      adds)
      (weakened moment images_since mid new (Rewrites gated.kind gated.file (images mid) (HoldsEither gated (reading mid) more)) (Rewrites gated.kind gated.file (images first) (HoldsEither gated (reading first) more)) either run)

  pub append_only : (new : D) → ((i : Image) → images new i → Rewrites gated.kind gated.file (images mid) (HoldsAfter gated (reading mid) more) i)
      → (i : Image) → images new i → Rewrites gated.kind gated.file (images first) (HoldsAfter gated (reading first) more) i
  append_only new leaves i left = seen_from (λ (t bytes : List ℕ). bytes ≡ t ++ more) i (leaves i left)

  -- what a crash leaves after a text that couldn't be put there
  pub append_refused : (new : D) → AddsOnly moment images_since mid new (Rewrites gated.kind gated.file (images mid) (HoldsEither gated (reading mid) more))
      → (i : Image) → images new i → Rewrites gated.kind gated.file (images first) (HoldsEither gated (reading first) more) i
  append_refused new run i left =
      ⊎_elim
      (λ was. rewrites_weaker gated (images first) (images first) (HoldsAfter gated (reading first) []) (HoldsEither gated (reading first) more) i (λ j before. before)
      (λ bytes is. inl (subst (HoldsText gated.commit text) (sym (is ∙ append-nil text)) (holds_alone gated.commit text)))
      (cleaned i was))
      (either i)
      (left_now moment images_since images reading counts only gated mid new (Rewrites gated.kind gated.file (images mid) (HoldsEither gated (reading mid) more)) run i left)

  pub append_reading : (new : D) → reading new ≡ with_file (reading mid) gated.kind gated.file (text_of gated (reading mid) ++ more)
      → reading new ≡ with_file (reading first) gated.kind gated.file (text ++ more)
  append_reading new is =
      is
      ∙ (λ i. with_file (mended i) gated.kind gated.file (text_mid i ++ more))
      ∙ with_file-with_file (reading first) gated.kind gated.file text (text ++ more)

  pub append_ended : (new : D) → reading new ≡ with_file (reading first) gated.kind gated.file (text ++ more)
      → ((i : Image) → images new i → Rewrites gated.kind gated.file (images first) (HoldsAfter gated (reading first) more) i)
      → IsEnded (record gated { end = gated.end + length more; is_dirty = false }) (reading new) (images new)
  append_ended new is leaves i left = record {
    there = rewritten_there gated (images first) (HoldsAfter gated (reading first) more) i (leaves i left);
    same = rewritten_has gated (images first) (HoldsAfter gated (reading first) more) i (leaves i left) ∙ sym whole;
  }
    where
      whole : take (gated.end + length more) (bytes_of gated (reading new)) ≡ text ++ more
      whole =
          ap (λ (l : List ℕ). take (gated.end + length more) l) (bytes_after gated.kind gated.file (text ++ more) (reading first) (reading new) there is)
          ∙ take_all (gated.end + length more) (text ++ more) (omega (arith, size, length-append text more))
