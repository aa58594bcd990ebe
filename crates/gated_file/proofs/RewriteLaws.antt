-- Laws of images that were changed in one file.
use Rattle.std.proofs.Common.{◌≡◌, ◌⊎◌, ◌<◌, ℕ, List, refl, sym, ap, ◌∙◌, subst, arith, inr, ⊎_elim, take}
use Rattle.disk_model.specs.Crash.{OnFile, HasFile, Follows, Leaves, Stepped}
use Rattle.disk_model.specs.steps.CrashLaws.{on_file_none}
use Rattle.disk_model.specs.Image.{Image, IsApart, file_count, file_of, with_file}
use Rattle.disk_model.specs.steps.ImageLaws.{file_of-with_file, file_count-with_file, others_stay, with_file-with_file, with_file-file_of}
use Rattle.disk_model.specs.Moments.{AddsOnly}
use Rattle.disk_model.proofs.MomentLaws.{joined, weakened}
use Rattle.disk_model.specs.declared.kind.Kind.{Kind}
use Rattle.gated_file.specs.Files.{IsKnown, Rewrites, bytes_of, text_of}
use Rattle.gated_file.specs.declared.file.GatedFile.{GatedFile}

-- a file that is there is there with other bytes
pub there_after : (kind : Kind) (file : ℕ) (bytes : List ℕ) (old new : Image) → file < file_count old kind → new ≡ with_file old kind file bytes → file < file_count new kind
there_after kind file bytes old new there is =
    omega (arith, there, ap (λ (image : Image). file_count image kind) is, file_count-with_file old kind file bytes kind)

-- and has them
pub bytes_after : (kind : Kind) (file : ℕ) (bytes : List ℕ) (old new : Image) → file < file_count old kind → new ≡ with_file old kind file bytes → file_of new kind file ≡ bytes
bytes_after kind file bytes old new there is = ap (λ (image : Image). file_of image kind file) is ∙ file_of-with_file old kind file bytes there

-- a step on a file that is there leaves it there
pub on_file_there : (kind : Kind) (file : ℕ) (Step : List ℕ → List ℕ → Type 0) (old new : Image) → file < file_count old kind → OnFile kind file Step old new → file < file_count new kind
on_file_there kind file Step old new there on = there_after kind file on.bytes old new there on.whole

-- its bytes are those of the step
pub on_file_bytes : (kind : Kind) (file : ℕ) (Step : List ℕ → List ℕ → Type 0) (old new : Image) → file < file_count old kind → (on : OnFile kind file Step old new) → file_of new kind file ≡ on.bytes
on_file_bytes kind file Step old new there on = bytes_after kind file on.bytes old new there on.whole

pub on_file_step : (kind : Kind) (file : ℕ) (Step : List ℕ → List ℕ → Type 0) (old new : Image) → file < file_count old kind → OnFile kind file Step old new → Step (file_of old kind file) (file_of new kind file)
on_file_step kind file Step old new there on = subst (Step (file_of old kind file)) (sym (on_file_bytes kind file Step old new there on)) on.step

-- the other files stay, and so does how many there are
pub on_file_others : (kind : Kind) (file : ℕ) (Step : List ℕ → List ℕ → Type 0) (old new : Image) (k : Kind) (n : ℕ) → IsApart kind file k n → OnFile kind file Step old new → file_of new k n ≡ file_of old k n
on_file_others kind file Step old new k n apart on = ap (λ (image : Image). file_of image k n) on.whole ∙ others_stay old kind file on.bytes k n apart

pub on_file_count : (kind : Kind) (file : ℕ) (Step : List ℕ → List ℕ → Type 0) (old new : Image) (k : Kind) → OnFile kind file Step old new → file_count new k ≡ file_count old k
on_file_count kind file Step old new k on = ap (λ (image : Image). file_count image k) on.whole ∙ file_count-with_file old kind file on.bytes k

-- a step that allows more
pub on_file_weaker : (kind : Kind) (file : ℕ) (Step Other : List ℕ → List ℕ → Type 0) (old new : Image) → ((bytes : List ℕ) → Step (file_of old kind file) bytes → Other (file_of old kind file) bytes) → OnFile kind file Step old new → OnFile kind file Other old new
on_file_weaker kind file Step Other old new gives on = record { bytes = on.bytes; step = gives on.bytes on.step; whole = on.whole }

-- an image that is the same, where a step may do nothing
pub on_file_same : (kind : Kind) (file : ℕ) (Step : List ℕ → List ℕ → Type 0) (old new : Image) → Step (file_of old kind file) (file_of old kind file) → new ≡ old → OnFile kind file Step old new
on_file_same kind file Step old new none same = subst (OnFile kind file Step old) (sym same) (on_file_none kind file Step old none)

-- two steps on one file are one
pub on_file_joined : (kind : Kind) (file : ℕ) (First Second Both : List ℕ → List ℕ → Type 0) (old mid new : Image) → file < file_count old kind
    → ((middle bytes : List ℕ) → First (file_of old kind file) middle → Second middle bytes → Both (file_of old kind file) bytes)
    → OnFile kind file First old mid → OnFile kind file Second mid new → OnFile kind file Both old new
on_file_joined kind file First Second Both old mid new there both first second = record {
  bytes = second.bytes;
  step = both first.bytes second.bytes first.step (subst (λ (middle : List ℕ). Second middle second.bytes) (on_file_bytes kind file First old mid there first) second.step);
  whole =
      second.whole
      ∙ ap (λ (image : Image). with_file image kind file second.bytes) first.whole
      ∙ with_file-with_file old kind file first.bytes second.bytes;
}

module _ (gated : GatedFile) where
  -- the file of such an image
  pub rewritten_bytes : (images : Image → Type 0) (Q : List ℕ → Type 0) (image : Image) → (is : Rewrites gated.kind gated.file images Q image) → bytes_of gated image ≡ is.bytes
  rewritten_bytes images Q image is = bytes_after gated.kind gated.file is.bytes is.before image is.there is.whole

  pub rewritten_has : (images : Image → Type 0) (Q : List ℕ → Type 0) (image : Image) → Rewrites gated.kind gated.file images Q image → Q (bytes_of gated image)
  rewritten_has images Q image is = subst Q (sym (rewritten_bytes images Q image is)) is.described

  pub rewritten_there : (images : Image → Type 0) (Q : List ℕ → Type 0) (image : Image) → Rewrites gated.kind gated.file images Q image → gated.file < file_count image gated.kind
  rewritten_there images Q image is = there_after gated.kind gated.file is.bytes is.before image is.there is.whole

  -- its other files
  pub rewritten_others : (images : Image → Type 0) (Q : List ℕ → Type 0) (image : Image) (k : Kind) (n : ℕ) → IsApart gated.kind gated.file k n
      → (is : Rewrites gated.kind gated.file images Q image) → file_of image k n ≡ file_of is.before k n
  rewritten_others images Q image k n apart is = ap (λ (i : Image). file_of i k n) is.whole ∙ others_stay is.before gated.kind gated.file is.bytes k n apart

  -- and how many files it has
  pub rewritten_count : (images : Image → Type 0) (Q : List ℕ → Type 0) (image : Image) (k : Kind) → (is : Rewrites gated.kind gated.file images Q image) → file_count image k ≡ file_count is.before k
  rewritten_count images Q image k is = ap (λ (i : Image). file_count i k) is.whole ∙ file_count-with_file is.before gated.kind gated.file is.bytes k

  -- an image is one of its own, with the bytes that it has
  pub rewrites_none : (images : Image → Type 0) (Q : List ℕ → Type 0) (image : Image) → images image → gated.file < file_count image gated.kind → Q (bytes_of gated image) → Rewrites gated.kind gated.file images Q image
  rewrites_none images Q image was there has = record {
    before = image;
    was = was;
    there = there;
    bytes = bytes_of gated image;
    described = has;
    whole = sym (with_file-file_of image gated.kind gated.file);
  }

  -- of other images, and by another description
  pub rewrites_weaker : (images others : Image → Type 0) (Q R : List ℕ → Type 0) (image : Image) → ((i : Image) → images i → others i) → ((bytes : List ℕ) → Q bytes → R bytes) → Rewrites gated.kind gated.file images Q image → Rewrites gated.kind gated.file others R image
  rewrites_weaker images others Q R image gives describes is = record {
    before = is.before;
    was = gives is.before is.was;
    there = is.there;
    bytes = is.bytes;
    described = describes is.bytes is.described;
    whole = is.whole;
  }

  -- the file was rewritten, or not, and then rewritten
  pub rewrites_twice : (images middle : Image → Type 0) (Q R : List ℕ → Type 0) (image : Image)
      → ((i : Image) → middle i → images i ⊎ Rewrites gated.kind gated.file images Q i)
      → Rewrites gated.kind gated.file middle R image → Rewrites gated.kind gated.file images R image
  rewrites_twice images middle Q R image from is = ⊎_elim once twice (from is.before is.was)
    where
      once : images is.before → Rewrites gated.kind gated.file images R image
      once was = record { before = is.before; was = was; there = is.there; bytes = is.bytes; described = is.described; whole = is.whole }

      twice : Rewrites gated.kind gated.file images Q is.before → Rewrites gated.kind gated.file images R image
      twice first = record {
        before = first.before;
        was = first.was;
        there = first.there;
        bytes = is.bytes;
        described = is.described;
        whole =
            is.whole
            ∙ ap (λ (i : Image). with_file i gated.kind gated.file is.bytes) first.whole
            ∙ with_file-with_file first.before gated.kind gated.file first.bytes is.bytes;
      }

  -- a step on the file of an image that has it
  pub rewrites_step : (images : Image → Type 0) (Step : List ℕ → List ℕ → Type 0) (R : List ℕ → Type 0) (image : Image)
      → ((i : Image) → images i → gated.file < file_count i gated.kind)
      → ((i : Image) → images i → (bytes : List ℕ) → Step (bytes_of gated i) bytes → R bytes)
      → Stepped (OnFile gated.kind gated.file Step) images image → Rewrites gated.kind gated.file images R image
  rewrites_step images Step R image there gives stepped = record {
    before = stepped.0;
    was = stepped.1;
    there = there stepped.0 stepped.1;
    bytes = stepped.2.bytes;
    described = gives stepped.0 stepped.1 stepped.2.bytes stepped.2.step;
    whole = stepped.2.whole;
  }

  -- a step where each image is rewritten already
  pub rewrites_on : (first images : Image → Type 0) (Step : List ℕ → List ℕ → Type 0) (Q R : List ℕ → Type 0)
      → ((i : Image) → images i → Rewrites gated.kind gated.file first Q i)
      → ((old new : List ℕ) → Q old → Step old new → R new)
      → (image : Image) → Stepped (OnFile gated.kind gated.file Step) images image → Rewrites gated.kind gated.file first R image
  rewrites_on first images Step Q R all gives image stepped =
      rewrites_twice first images Q R image (λ i left. inr (all i left))
      (rewrites_step images Step R image (λ i left. rewritten_there first Q i (all i left))
      (λ i left bytes step. gives (bytes_of gated i) bytes (rewritten_has first Q i (all i left)) step) stepped)

  -- after a sync the bytes are known
  pub rewrites_synced : (images : Image → Type 0) (Q : List ℕ → Type 0) (bytes : List ℕ) (image : Image) → HasFile gated.kind gated.file bytes image → Rewrites gated.kind gated.file images Q image → Rewrites gated.kind gated.file images (λ b. b ≡ bytes) image
  rewrites_synced images Q bytes image has is = record {
    before = is.before;
    was = is.was;
    there = is.there;
    bytes = is.bytes;
    described = sym (rewritten_bytes images Q image is) ∙ has.same;
    whole = is.whole;
  }

  -- a step and a sync
  pub all_after : (first images new : Image → Type 0) (Step : List ℕ → List ℕ → Type 0) (old bytes synced : List ℕ)
      → ((i : Image) → images i → Rewrites gated.kind gated.file first (λ b. b ≡ old) i)
      → Follows (OnFile gated.kind gated.file Step) images new
      → Leaves new (HasFile gated.kind gated.file synced)
      → synced ≡ bytes
      → (i : Image) → new i → Rewrites gated.kind gated.file first (λ b. b ≡ bytes) i
  all_after first images new Step old bytes synced all follows leaves same i left =
      let anything : List ℕ → Type 0 = λ b. b ≡ b in
      let is : Rewrites gated.kind gated.file first (λ b. b ≡ synced) i =
      rewrites_synced first anything synced i (leaves i left) (rewrites_on first images Step (λ b. b ≡ old) anything all (λ a b is step. refl) i (follows i left)) in
      rewrites_weaker first first (λ b. b ≡ synced) (λ b. b ≡ bytes) i (λ j was. was) (λ b e. e ∙ same) is

  module _ {D : Type 0} (moment : D → ℕ) (images_since : D → ℕ → Image → Type 0) (images : D → Image → Type 0) where
    -- one call more on the file, which every image has with these bytes
    pub adds_on : (start mid new : D) (Step : List ℕ → List ℕ → Type 0) (old : List ℕ) (P : List ℕ → Type 0)
        → ((bytes : List ℕ) → Step old bytes → P bytes)
        → ((i : Image) → images mid i → Rewrites gated.kind gated.file (images start) (λ b. b ≡ old) i)
        → AddsOnly moment images_since start mid (Rewrites gated.kind gated.file (images start) P)
        → AddsOnly moment images_since mid new (Stepped (OnFile gated.kind gated.file Step) (images mid))
        → AddsOnly moment images_since start new (Rewrites gated.kind gated.file (images start) P)
    adds_on start mid new Step old P gives all run next =
        joined moment images_since start mid new (Rewrites gated.kind gated.file (images start) P) run
        (weakened moment images_since mid new (Stepped (OnFile gated.kind gated.file Step) (images mid)) (Rewrites gated.kind gated.file (images start) P)
        (rewrites_on (images start) (images mid) Step (λ b. b ≡ old) P all (λ a b is step. gives b (subst (λ (l : List ℕ). Step l b) is step)))
        next)

-- what is known of a file is known after a call on another
pub known_apart : (gated other : GatedFile) (Step : List ℕ → List ℕ → Type 0) (Q : List ℕ → Type 0) (old_reading new_reading : Image) (old new : Image → Type 0)
    → IsApart other.kind other.file gated.kind gated.file
    → OnFile other.kind other.file Step old_reading new_reading
    → ((i : Image) → new i → old i ⊎ Rewrites other.kind other.file old Q i)
    → IsKnown gated old_reading old → IsKnown gated new_reading new
known_apart gated other Step Q old_reading new_reading old new apart on from known clean i left =
    subst (λ (text : List ℕ). HasFile gated.kind gated.file text i) (sym same)
    (⊎_elim
    (λ was. known clean i was)
    (λ is. record {
      there = omega (arith, (known clean is.before is.was).there, rewritten_count other old Q i gated.kind is);
      same = rewritten_others other old Q i gated.kind gated.file apart is ∙ (known clean is.before is.was).same;
    })
    (from i left))
  where
    same : text_of gated new_reading ≡ text_of gated old_reading
    same = ap (λ (bytes : List ℕ). take gated.end bytes) (on_file_others other.kind other.file Step old_reading new_reading gated.kind gated.file apart on)
