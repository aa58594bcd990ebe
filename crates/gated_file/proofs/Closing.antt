-- `-` is written over a commit byte, and the commit byte is put back where the sync fails.
use Rattle.std.proofs.Common.{◌≡◌, ◌⊎◌, ◌<◌, ℕ, List, [], ◌∷◌, ◌++◌, length, take, drop, length-drop, take-append-drop, Result, Ok, Err, OnOk, OnErr, subst, arith, sym, ap, ◌∙◌, inl, inr, ⊎_elim}
use Rattle.std.proofs.lemmas.Bool.{cases_eq}
use Rattle.std.proofs.lemmas.List.{length-take-le}
use Rattle.disk_model.specs.Crash.{Elapses, Follows, HasFile, OnFile, Stepped, Torn, Within}
use Rattle.disk_model.specs.steps.CrashLaws.{torn_written}
use Rattle.disk_model.specs.Image.{Image, file_count, with_file, written}
use Rattle.disk_model.specs.steps.ImageLaws.{with_file-file_of}
use Rattle.disk_model.specs.Moments.{AddsOnly}
use Rattle.disk_model.proofs.MomentLaws.{goes_on, none_added}
use Rattle.capture.specs.Tails.{HoldsText, IsCommitted}
use Rattle.gated_file.specs.steps.Mending.{IsSynced, rest_of}
use Rattle.gated_file.specs.Files.{Rewrites, bytes_of}
use Rattle.gated_file.specs.declared.file.GatedFile.{GatedFile}
use Rattle.gated_file.proofs.Bytes.{committed_split, holds_closed, one_byte, torn_twice}
use Rattle.gated_file.proofs.RewriteLaws.{on_file_joined}

-- a write, and then a sync that changes no reading
pub after_sync : (gated : GatedFile) (bytes : List ℕ) (start one two : Image) → two ≡ one → one ≡ with_file start gated.kind gated.file bytes → two ≡ with_file start gated.kind gated.file bytes
after_sync gated bytes start one two same is = same ∙ is

-- one byte was written
pub torn_done : (gated : GatedFile) (byte : ℕ) (old new : Image) → new ≡ with_file old gated.kind gated.file (written (bytes_of gated old) gated.end (byte ∷ []))
    → OnFile gated.kind gated.file (Torn gated.end 1) old new
torn_done gated byte old new is = record { bytes = _; step = torn_written gated.end 1 (bytes_of gated old) (byte ∷ []) (omega arith); whole = is }

-- one byte was written, or that failed
pub torn_either_way : {T E : Type 0} (gated : GatedFile) (byte : ℕ) (old new : Image) (result : Result T E)
    → OnOk result (new ≡ with_file old gated.kind gated.file (written (bytes_of gated old) gated.end (byte ∷ [])))
    → OnErr result (OnFile gated.kind gated.file (Torn gated.end 1) old new)
    → OnFile gated.kind gated.file (Torn gated.end 1) old new
torn_either_way gated byte old new (Ok v) is failed = torn_done gated byte old new is
torn_either_way gated byte old new (Err e) is failed = failed

-- two writes of one byte behind the end are one
pub stepped_twice : (gated : GatedFile) (bytes : List ℕ) (first second : Image → Type 0) (image : Image) → IsCommitted gated.commit (drop gated.end bytes)
    → ((i : Image) → first i → (gated.file < file_count i gated.kind) × (bytes_of gated i ≡ bytes))
    → ((i : Image) → second i → Stepped (OnFile gated.kind gated.file (Torn gated.end 1)) first i)
    → Stepped (OnFile gated.kind gated.file (Torn gated.end 1)) second image
    → Stepped (OnFile gated.kind gated.file (Torn gated.end 1)) first image
stepped_twice gated bytes first second image committed has from stepped =
    let one = from stepped.0 stepped.1 in
    let there = has one.0 one.1 in
    let inside : gated.end < length (bytes_of gated one.0) = omega (arith, committed.more, length-drop gated.end bytes, ap length there.1) in (
      one.0,
      one.1,
      on_file_joined gated.kind gated.file (Torn gated.end 1) (Torn gated.end 1) (Torn gated.end 1) one.0 stepped.0 image there.0
          (λ middle b here next. torn_twice gated.end (bytes_of gated one.0) middle b inside here next) one.2 stepped.2,
    )

-- what a crash leaves where the sync fails and the byte is put back
pub put_back_adds : {D : Type 0} (moment : D → ℕ) (images_since : D → ℕ → Image → Type 0) (images : D → Image → Type 0) (reading : D → Image)
    (gated : GatedFile) (start one two three : D) → IsCommitted gated.commit (rest_of gated (reading start)) → IsSynced gated (reading start) (images start)
    → Follows (OnFile gated.kind gated.file (Torn gated.end 1)) (images start) (images one)
    → Elapses (moment start) (moment one) (images_since start) (images_since one) (images one)
    → Within (images one) (images two)
    → Elapses (moment one) (moment two) (images_since one) (images_since two) (images two)
    → Follows (OnFile gated.kind gated.file (Torn gated.end 1)) (images two) (images three)
    → Elapses (moment two) (moment three) (images_since two) (images_since three) (images three)
    → AddsOnly moment images_since start three (Stepped (OnFile gated.kind gated.file (Torn gated.end 1)) (images start))
put_back_adds moment images_since images reading gated start one two three committed synced first time_one within time_two second time_three =
    let P : Image → Type 0 = Stepped (OnFile gated.kind gated.file (Torn gated.end 1)) (images start) in
    goes_on moment images_since start two three P (images three)
    (goes_on moment images_since start one two P (images two)
    (goes_on moment images_since start start one P (images one) (none_added moment images_since start P) time_one first)
    time_two (λ i left. first i (within i left)))
    time_three
    (λ i left. stepped_twice gated (bytes_of gated (reading start)) (images start) (images two) i committed (λ j was. ((synced j was).there, (synced j was).same)) (λ j was. first j (within j was)) (second i left))

-- The commit byte of what stands behind the end is written over: each image is one from before, or holds the text.
pub uncommitted : (gated : GatedFile) (bytes : List ℕ) (images : Image → Type 0) (image : Image)
    → IsCommitted gated.commit (drop gated.end bytes)
    → ((i : Image) → images i → HasFile gated.kind gated.file bytes i)
    → Stepped (OnFile gated.kind gated.file (Torn gated.end 1)) images image
    → images image ⊎ Rewrites gated.kind gated.file images (HoldsText gated.commit (take gated.end bytes)) image
uncommitted gated bytes images image committed has stepped = ⊎_elim same other (cases_eq written.0 gated.commit)
  where
    text : List ℕ
    text = take gated.end bytes

    rest : List ℕ
    rest = drop 1 (drop gated.end bytes)

    long : length text ≡ gated.end
    long = length-take-le gated.end bytes (omega (arith, committed.more, length-drop gated.end bytes))

    split : bytes ≡ text ++ gated.commit ∷ rest
    split = sym (take-append-drop gated.end bytes) ∙ ap (λ (l : List ℕ). text ++ l) (committed_split gated.commit (drop gated.end bytes) committed)

    torn : Torn (length text) 1 (text ++ gated.commit ∷ rest) stepped.2.bytes
    torn =
        subst (λ (l : List ℕ). Torn (length text) 1 l stepped.2.bytes) ((has stepped.0 stepped.1).same ∙ split)
        (subst (λ (n : ℕ). Torn n 1 (bytes_of gated stepped.0) stepped.2.bytes) (sym long) stepped.2.step)

    written : (b : ℕ) × (stepped.2.bytes ≡ text ++ b ∷ rest)
    written = one_byte text rest stepped.2.bytes gated.commit torn

    same : written.0 ≡ gated.commit → images image ⊎ Rewrites gated.kind gated.file images (HoldsText gated.commit text) image
    same is =
        let bytes_same : stepped.2.bytes ≡ bytes_of gated stepped.0 =
        written.1 ∙ ap (λ (b : ℕ). text ++ b ∷ rest) is ∙ sym split ∙ sym (has stepped.0 stepped.1).same in
        let image_same : image ≡ stepped.0 =
        stepped.2.whole ∙ ap (λ (l : List ℕ). with_file stepped.0 gated.kind gated.file l) bytes_same ∙ with_file-file_of stepped.0 gated.kind gated.file in
        inl (subst images (sym image_same) stepped.1)

    other : (written.0 ≡ gated.commit → ⊥) → images image ⊎ Rewrites gated.kind gated.file images (HoldsText gated.commit text) image
    other apart = inr (record {
      before = stepped.0;
      was = stepped.1;
      there = (has stepped.0 stepped.1).there;
      bytes = stepped.2.bytes;
      described = subst (HoldsText gated.commit text) (sym written.1) (holds_closed gated.commit written.0 text rest apart);
      whole = stepped.2.whole;
    })
