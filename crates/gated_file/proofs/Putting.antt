-- A text is put behind the finished one in three steps: what a read gives and what a crash leaves after each.
use Rattle.std.proofs.Common.{◌≡◌, ◌<◌, ◌≤◌, ◌+◌, ℕ, List, [], ◌∷◌, ◌++◌, length, take, drop, sym, ap, ◌∙◌, subst, inl, inr, ⊎_elim, arith}
use Rattle.std.proofs.lemmas.List.{length-take-le}
use Rattle.disk_model.specs.Crash.{Follows, HasFile, Leaves, OnFile, Stepped, Torn}
use Rattle.disk_model.specs.steps.CrashLaws.{length-written}
use Rattle.disk_model.specs.Image.{Image, file_count, with_file, written}
use Rattle.disk_model.specs.steps.ImageLaws.{with_file-with_file}
use Rattle.disk_model.specs.Moments.{AddsOnly}
use Rattle.disk_model.proofs.MomentLaws.{none_added}
use Rattle.capture.specs.Tails.{IsCommitted}
use Rattle.gated_file.specs.Files.{HoldsEither, IsEnded, KeepsFront, Rewrites, bytes_of, text_of}
use Rattle.gated_file.specs.declared.file.GatedFile.{GatedFile}
use Rattle.gated_file.proofs.Bytes.{committed_split, holds_behind, holds_one, one_byte, torn_keeps, whole_or_tail, written_first, written_second, written_third}
use Rattle.gated_file.proofs.RewriteLaws.{adds_on, all_after, bytes_after, on_file_joined, on_file_weaker, rewrites_none, there_after}

-- a write behind the end keeps what a read gives of the text
pub front_stays : (gated : GatedFile) (at n : ℕ) (old new : Image) → gated.end ≤ at → at ≤ length (bytes_of gated old)
    → OnFile gated.kind gated.file (Torn at n) old new → OnFile gated.kind gated.file (KeepsFront gated.end) old new
front_stays gated at n old new behind within =
    on_file_weaker gated.kind gated.file (Torn at n) (KeepsFront gated.end) old new (λ bytes torn. torn_keeps gated.end at n (bytes_of gated old) bytes behind within torn)

-- and two calls that keep it
pub front_stays_twice : (gated : GatedFile) (old mid new : Image) → gated.file < file_count old gated.kind
    → OnFile gated.kind gated.file (KeepsFront gated.end) old mid → OnFile gated.kind gated.file (KeepsFront gated.end) mid new → OnFile gated.kind gated.file (KeepsFront gated.end) old new
front_stays_twice gated old mid new there =
    on_file_joined gated.kind gated.file (KeepsFront gated.end) (KeepsFront gated.end) (KeepsFront gated.end) old mid new there (λ middle bytes first second. second ∙ first)

-- the place behind a byte that was written at the end is in the file
pub second_within : (gated : GatedFile) (old new : Image) (byte : ℕ) → gated.file < file_count old gated.kind → gated.end ≤ length (bytes_of gated old)
    → new ≡ with_file old gated.kind gated.file (written (bytes_of gated old) gated.end (byte ∷ []))
    → gated.end + 1 ≤ length (bytes_of gated new)
second_within gated old new byte there within is =
    omega (arith, within, ap length (bytes_after gated.kind gated.file _ old new there is), length-written (bytes_of gated old) gated.end (byte ∷ []))

-- a write doesn't make the file shorter
pub still_within : (gated : GatedFile) (old new : Image) (place at : ℕ) (bytes : List ℕ) → gated.file < file_count old gated.kind → place ≤ length (bytes_of gated old)
    → new ≡ with_file old gated.kind gated.file (written (bytes_of gated old) at bytes)
    → place ≤ length (bytes_of gated new)
still_within gated old new place at bytes there within is =
    omega (arith, within, ap length (bytes_after gated.kind gated.file _ old new there is), length-written (bytes_of gated old) at bytes)

module _ {D : Type 0} (moment : D → ℕ) (images_since : D → ℕ → Image → Type 0) (images : D → Image → Type 0) (reading : D → Image) (gated : GatedFile) where
  -- bytes were written and synced
  pub record Wrote (old new : D) (at : ℕ) (bytes : List ℕ) : Type 0 where
    pub is : reading new ≡ with_file (reading old) gated.kind gated.file (written (bytes_of gated (reading old)) at bytes)
    pub durable : Leaves (images new) (HasFile gated.kind gated.file (bytes_of gated (reading new)))
    pub crash : Follows (OnFile gated.kind gated.file (Torn at (length bytes))) (images old) (images new)

  -- bytes were written, or that failed
  abbrev pub Writes : D → D → ℕ → ℕ → Type 0
  Writes old new at n = AddsOnly moment images_since old new (Stepped (OnFile gated.kind gated.file (Torn at n)) (images old))

  module _ (more head rest : List ℕ) (is_head : head ≡ take 1 more) (is_rest : rest ≡ drop 1 more) (apart : gated.commit ≡ 45 → ⊥) (committed : IsCommitted gated.commit more)
      (start : D) (there : gated.file < file_count (reading start) gated.kind) (within : gated.end ≤ length (bytes_of gated (reading start)))
      (alone : bytes_of gated (reading start) ≡ text_of gated (reading start)) where
    abbrev text : List ℕ
    text = text_of gated (reading start)

    size : length text ≡ gated.end
    size = length-take-le gated.end (bytes_of gated (reading start)) within

    whole : more ≡ gated.commit ∷ rest
    whole = committed_split gated.commit more committed ∙ ap (λ (l : List ℕ). gated.commit ∷ l) (sym is_rest)

    one_byte_head : head ≡ gated.commit ∷ []
    one_byte_head = is_head ∙ ap (λ (l : List ℕ). take 1 l) whole

    -- the bytes after each step
    first_bytes : (one : D) → reading one ≡ with_file (reading start) gated.kind gated.file (written (bytes_of gated (reading start)) gated.end (45 ∷ [])) → bytes_of gated (reading one) ≡ text ++ 45 ∷ []
    first_bytes one is =
        bytes_after gated.kind gated.file _ (reading start) (reading one) there is
        ∙ ap (λ (n : ℕ). written (bytes_of gated (reading start)) n (45 ∷ [])) (sym size)
        ∙ written_first text (bytes_of gated (reading start)) 45 alone

    second_bytes : (one two : D) → gated.file < file_count (reading one) gated.kind → bytes_of gated (reading one) ≡ text ++ 45 ∷ []
        → reading two ≡ with_file (reading one) gated.kind gated.file (written (bytes_of gated (reading one)) (gated.end + 1) rest) → bytes_of gated (reading two) ≡ text ++ 45 ∷ rest
    second_bytes one two there_one bytes is =
        bytes_after gated.kind gated.file _ (reading one) (reading two) there_one is
        ∙ ap (λ (n : ℕ). written (bytes_of gated (reading one)) (n + 1) rest) (sym size)
        ∙ written_second text (bytes_of gated (reading one)) rest 45 bytes

    third_bytes : (two three : D) → gated.file < file_count (reading two) gated.kind → bytes_of gated (reading two) ≡ text ++ 45 ∷ rest
        → reading three ≡ with_file (reading two) gated.kind gated.file (written (bytes_of gated (reading two)) gated.end head) → bytes_of gated (reading three) ≡ text ++ more
    third_bytes two three there_two bytes is =
        bytes_after gated.kind gated.file _ (reading two) (reading three) there_two is
        ∙ (λ i. written (bytes_of gated (reading two)) (sym size i) (one_byte_head i))
        ∙ written_third text (bytes_of gated (reading two)) rest 45 gated.commit bytes
        ∙ ap (λ (l : List ℕ). text ++ l) (sym whole)

    -- what a read gives at the end
    pub put_reading : (one two three : D)
        → reading one ≡ with_file (reading start) gated.kind gated.file (written (bytes_of gated (reading start)) gated.end (45 ∷ []))
        → reading two ≡ with_file (reading one) gated.kind gated.file (written (bytes_of gated (reading one)) (gated.end + 1) rest)
        → reading three ≡ with_file (reading two) gated.kind gated.file (written (bytes_of gated (reading two)) gated.end head)
        → reading three ≡ with_file (reading start) gated.kind gated.file (text ++ more)
    put_reading one two three is_one is_two is_three =
        let there_one = there_after gated.kind gated.file _ (reading start) (reading one) there is_one in
        let there_two = there_after gated.kind gated.file _ (reading one) (reading two) there_one is_two in
        let bytes = third_bytes two three there_two (second_bytes one two there_one (first_bytes one is_one) is_two) is_three in
        let last : List ℕ = written (bytes_of gated (reading two)) gated.end head in
        is_three
        ∙ ap (λ (i : Image). with_file i gated.kind gated.file last) is_two
        ∙ with_file-with_file (reading one) gated.kind gated.file _ last
        ∙ ap (λ (i : Image). with_file i gated.kind gated.file last) is_one
        ∙ with_file-with_file (reading start) gated.kind gated.file _ last
        ∙ ap (λ (l : List ℕ). with_file (reading start) gated.kind gated.file l) (sym (bytes_after gated.kind gated.file last (reading two) (reading three) there_two is_three) ∙ bytes)

    abbrev Either : List ℕ → Type 0
    Either = HoldsEither gated (reading start) more

    module _ (ended : IsEnded gated (reading start) (images start)) where
      all_start : (i : Image) → images start i → Rewrites gated.kind gated.file (images start) (λ b. b ≡ text) i
      all_start i was = rewrites_none gated (images start) (λ b. b ≡ text) i was (ended i was).there (ended i was).same

      all_first : (one : D) → Wrote start one gated.end (45 ∷ []) → (i : Image) → images one i → Rewrites gated.kind gated.file (images start) (λ b. b ≡ text ++ 45 ∷ []) i
      all_first one wrote =
          all_after gated (images start) (images start) (images one) (Torn gated.end 1) text (text ++ 45 ∷ []) (bytes_of gated (reading one)) all_start wrote.crash wrote.durable (first_bytes one wrote.is)

      there_first : (one : D) → Wrote start one gated.end (45 ∷ []) → gated.file < file_count (reading one) gated.kind
      there_first one wrote = there_after gated.kind gated.file _ (reading start) (reading one) there wrote.is

      second_is : (one two : D) → Wrote start one gated.end (45 ∷ []) → Wrote one two (gated.end + 1) rest → bytes_of gated (reading two) ≡ text ++ 45 ∷ rest
      second_is one two first second = second_bytes one two (there_first one first) (first_bytes one first.is) second.is

      all_second : (one two : D) → Wrote start one gated.end (45 ∷ []) → Wrote one two (gated.end + 1) rest → (i : Image) → images two i → Rewrites gated.kind gated.file (images start) (λ b. b ≡ text ++ 45 ∷ rest) i
      all_second one two first second =
          all_after gated (images start) (images one) (images two) (Torn (gated.end + 1) (length rest)) (text ++ 45 ∷ []) (text ++ 45 ∷ rest) (bytes_of gated (reading two)) (all_first one first) second.crash second.durable (second_is one two first second)

      -- each image at the end has the text
      pub put_only : (one two three : D) → Wrote start one gated.end (45 ∷ []) → Wrote one two (gated.end + 1) rest → Wrote two three gated.end head
          → (i : Image) → images three i → Rewrites gated.kind gated.file (images start) (λ b. b ≡ text ++ more) i
      put_only one two three first second third =
          all_after gated (images start) (images two) (images three) (Torn gated.end (length head)) (text ++ 45 ∷ rest) (text ++ more) (bytes_of gated (reading three)) (all_second one two first second) third.crash third.durable
          (third_bytes two three (there_after gated.kind gated.file _ (reading one) (reading two) (there_first one first) second.is) (second_is one two first second) third.is)

      -- what a crash leaves within each step
      pub put_first : (one : D) → Writes start one gated.end 1 → AddsOnly moment images_since start one (Rewrites gated.kind gated.file (images start) Either)
      put_first one writes =
          adds_on gated moment images_since images start start one (Torn gated.end 1) text Either gives all_start (none_added moment images_since start (Rewrites gated.kind gated.file (images start) Either)) writes
        where
          gives : (bytes : List ℕ) → Torn gated.end 1 text bytes → Either bytes
          gives bytes torn = inl (holds_one gated.commit text bytes (subst (λ (n : ℕ). Torn n 1 text bytes) (sym size) torn))

      pub put_second : (one two : D) → Writes start one gated.end 1 → Wrote start one gated.end (45 ∷ []) → Writes one two (gated.end + 1) (length rest)
          → AddsOnly moment images_since start two (Rewrites gated.kind gated.file (images start) Either)
      put_second one two writes first writes_two =
          adds_on gated moment images_since images start one two (Torn (gated.end + 1) (length rest)) (text ++ 45 ∷ []) Either gives (all_first one first) (put_first one writes) writes_two
        where
          gives : (bytes : List ℕ) → Torn (gated.end + 1) (length rest) (text ++ 45 ∷ []) bytes → Either bytes
          gives bytes torn =
              inl (holds_behind gated.commit 45 (length rest) text bytes (λ same. apart (sym same)) (subst (λ (n : ℕ). Torn (n + 1) (length rest) (text ++ 45 ∷ []) bytes) (sym size) torn))

      pub put_third : (one two three : D) → Writes start one gated.end 1 → Wrote start one gated.end (45 ∷ []) → Writes one two (gated.end + 1) (length rest) → Wrote one two (gated.end + 1) rest
          → Writes two three gated.end (length head)
          → AddsOnly moment images_since start three (Rewrites gated.kind gated.file (images start) Either)
      put_third one two three writes first writes_two second writes_three =
          adds_on gated moment images_since images start two three (Torn gated.end (length head)) (text ++ 45 ∷ rest) Either gives (all_second one two first second) (put_second one two writes first writes_two) writes_three
        where
          one_long : length head ≡ 1
          one_long = ap length one_byte_head

          gives : (bytes : List ℕ) → Torn gated.end (length head) (text ++ 45 ∷ rest) bytes → Either bytes
          gives bytes torn =
              let torn_one : Torn (length text) 1 (text ++ 45 ∷ rest) bytes =
              subst (λ (n : ℕ). Torn (length text) n (text ++ 45 ∷ rest) bytes) one_long (subst (λ (n : ℕ). Torn n (length head) (text ++ 45 ∷ rest) bytes) (sym size) torn) in
              let written_one = one_byte text rest bytes 45 torn_one in
              subst Either (sym written_one.1)
              (⊎_elim
              (λ held. inl held)
              (λ is. inr (is ∙ ap (λ (l : List ℕ). text ++ l) (sym whole)))
              (whole_or_tail gated.commit written_one.0 text rest))
