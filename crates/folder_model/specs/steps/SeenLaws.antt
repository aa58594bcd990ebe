-- Laws of a folder that is seen as a disk: each deed is the disk's step.
use Rattle.std.proofs.Common.{◌^◌, ◌≡◌, ◌<◌, ◌≤◌, ◌+◌, ◌-◌, ℕ, Bool, Option, Some, None, List, ◌∷◌, length, refl, sym, ap, ◌∙◌, subst, inl, inr, ⊎_elim, true≢false, arith}
use Rattle.std.proofs.lemmas.Bool.{cases_lt}
use Rattle.std.proofs.lemmas.Option.{none-some, same_Some}
use Rattle.disk_model.specs.declared.kind.Kind.{Kind}
use Rattle.disk_model.specs.Image.{Image, file_count, file_of, with_file}
use Rattle.disk_model.specs.Crash.{Torn, Cut, OnFile, HasFile, Within, Follows, Stepped, Leaves}
use Rattle.disk_model.specs.steps.CrashLaws.{torn_none, cut_none, on_file_none}
use Rattle.disk_model.specs.steps.ImageLaws.{same_or_apart, others_stay, file_of-with_file, file_count-with_file, with_file-with_file, with_file-file_of}
use Rattle.folder_model.specs.File.{FileDeed, Wrote, Shortened, Synced, Crash, MayHold, IsLeft, OnEntry}
use Rattle.folder_model.specs.Folder.{Contents, FolderPast, did_to, deeds_of, contents_of, MayLeave}
use Rattle.folder_model.specs.Seen.{NamesApart, IsSeen, images_of, IsNamed, IsPlaced}
use Rattle.folder_model.specs.steps.FileLaws.{read_is_left, none_is_left, named_is_left}
use Rattle.folder_model.specs.steps.FolderLaws.{Before, before_deed, wrote_back, shortened_back, synced_file}

-- a file is there in an image, where the folder has something under its name
pub there_is : (name : Kind → ℕ → List ℕ) (contents : Contents) (image : Image) (kind : Kind) (file : ℕ) (bytes : List ℕ)
    → IsSeen name contents image → file < 2 ^ 32 → contents (name kind file) ≡ Some bytes → file < file_count image kind
there_is name contents image kind file bytes seen number is =
    ⊎_elim (λ there. there) (λ past. absurd (none-some bytes (sym (seen.no_more kind file past number) ∙ is))) (cases_lt file (file_count image kind))

-- what reads find is an image that a crash may leave
pub reading_is_left : (name : Kind → ℕ → List ℕ) (past : FolderPast) (reading : Image) → IsSeen name (contents_of past) reading → images_of name past reading
reading_is_left name past reading seen =
    (contents_of past, inr (λ n. read_is_left (past.first n) (deeds_of n past.deeds) (contents_of past n) refl), seen)

-- under a name that reads don't find a crash leaves nothing
pub nothing_is_left : (past : FolderPast) (contents : Contents) (n : List ℕ) → contents_of past n ≡ None → MayLeave past contents → contents n ≡ None
nothing_is_left past contents n none (inl missing) = missing.1 n
nothing_is_left past contents n none (inr each) = none_is_left (past.first n) (deeds_of n past.deeds) (contents n) none (each n)

-- no image has more files of a kind than reads find
pub no_more_left : (name : Kind → ℕ → List ℕ) (past : FolderPast) (reading image : Image) (kind : Kind)
    → IsSeen name (contents_of past) reading → images_of name past image → file_count image kind ≤ file_count reading kind
no_more_left name past reading image kind seen left =
    ⊎_elim
    (λ more. absurd (none-some (file_of image kind (file_count reading kind))
    (sym (nothing_is_left past left.0 (name kind (file_count reading kind)) (seen.no_more kind (file_count reading kind) (omega arith) (omega (arith, more, left.2.few kind))) left.1)
    ∙ left.2.there kind (file_count reading kind) more)))
    (λ fewer. fewer)
    (cases_lt (file_count reading kind) (file_count image kind))

-- of a file that is there after a step it was there before
entry_before : (Step : List ℕ → List ℕ → Type 0) (was : Option (List ℕ)) (left : Option (List ℕ)) (bytes : List ℕ)
    → left ≡ Some bytes → OnEntry Step was left → (old : List ℕ) × (was ≡ Some old) × Step old bytes
entry_before Step None None bytes is step = absurd (none-some bytes is)
entry_before Step None (Some new) bytes is step = absurd step
entry_before Step (Some old) None bytes is step = absurd step
entry_before Step (Some old) (Some new) bytes is step = (old, refl, subst (Step old) (same_Some new bytes is) step)

-- and of one that isn't it wasn't
no_entry_before : (Step : List ℕ → List ℕ → Type 0) (was : Option (List ℕ)) (left : Option (List ℕ)) → left ≡ None → OnEntry Step was left → was ≡ None
no_entry_before Step None None is step = refl
no_entry_before Step None (Some new) is step = absurd step
no_entry_before Step (Some old) None is step = absurd step
no_entry_before Step (Some old) (Some new) is step = absurd (none-some new (sym is))

-- A deed that is a step of its file's bytes is that step of the disk's file.
module _ (name : Kind → ℕ → List ℕ) (apart : NamesApart name) (kind : Kind) (file : ℕ) (number : file < 2 ^ 32) (Step : List ℕ → List ℕ → Type 0) (stays : (old : List ℕ) → Step old old) where
  -- the file is there
  stepped_there : (past : FolderPast) (contents : Contents) (image : Image) (old : List ℕ)
      → (was : Before past (name kind file) (OnEntry Step) contents)
      → IsSeen name contents image → file < file_count image kind
      → was.before (name kind file) ≡ Some old → Step old (file_of image kind file)
      → Stepped (OnFile kind file Step) (images_of name past) image
  stepped_there past contents image old was seen there is step = (
    with_file image kind file old,
    (
      was.before,
      was.left,
      record {
        there = λ k f inside.
            ⊎_elim
            (λ same. subst (λ (kk : Kind). was.before (name kk f) ≡ Some (file_of (with_file image kind file old) kk f)) (sym same.0)
            (subst (λ (ff : ℕ). was.before (name kind ff) ≡ Some (file_of (with_file image kind file old) kind ff)) (sym same.1)
            (is ∙ ap (λ (b : List ℕ). Some b) (sym (file_of-with_file image kind file old there)))))
            (λ other. was.others (name k f) (apart kind file k f number (omega (arith, inside, file_count-with_file image kind file old k, seen.few k)) other)
            ∙ seen.there k f (omega (arith, inside, file_count-with_file image kind file old k))
            ∙ ap (λ (b : List ℕ). Some b) (sym (others_stay image kind file old k f other)))
            (same_or_apart kind file k f);
        few = λ k. omega (arith, seen.few k, file_count-with_file image kind file old k);
        no_more = λ k f outside in_range.
            ⊎_elim
            (λ same. absurd (beyond image old k f there same.0 same.1 outside))
            (λ other. was.others (name k f) (apart kind file k f number in_range other) ∙ seen.no_more k f (omega (arith, outside, file_count-with_file image kind file old k)) in_range)
            (same_or_apart kind file k f);
      },
    ),
    record {
      bytes = file_of image kind file;
      step = subst (λ (b : List ℕ). Step b (file_of image kind file)) (sym (file_of-with_file image kind file old there)) step;
      whole = sym (with_file-with_file image kind file old (file_of image kind file) ∙ with_file-file_of image kind file);
    },
  )
    where
      beyond : (image : Image) (old : List ℕ) (k : Kind) (f : ℕ) → file < file_count image kind → k ≡ kind → f ≡ file → file_count (with_file image kind file old) k ≤ f → ⊥
      beyond image old k f there same number outside =
          omega (arith, there, number, outside, file_count-with_file image kind file old k, ap (λ (kk : Kind). file_count image kk) same)

  -- it isn't
  stepped_nowhere : (past : FolderPast) (contents : Contents) (image : Image)
      → (was : Before past (name kind file) (OnEntry Step) contents)
      → IsSeen name contents image → was.before (name kind file) ≡ contents (name kind file)
      → Stepped (OnFile kind file Step) (images_of name past) image
  stepped_nowhere past contents image was seen same = (
    image,
    (
      was.before,
      was.left,
      record {
        few = seen.few;
        there = λ k f inside. as_before k f (omega (arith, inside, seen.few k)) ∙ seen.there k f inside;
        no_more = λ k f outside in_range. as_before k f in_range ∙ seen.no_more k f outside in_range;
      },
    ),
    on_file_none kind file Step image (stays (file_of image kind file)),
  )
    where
      as_before : (k : Kind) (f : ℕ) → f < 2 ^ 32 → was.before (name k f) ≡ contents (name k f)
      as_before k f in_range =
          ⊎_elim
          (λ one. subst (λ (kk : Kind). was.before (name kk f) ≡ contents (name kk f)) (sym one.0)
          (subst (λ (ff : ℕ). was.before (name kind ff) ≡ contents (name kind ff)) (sym one.1) same))
          (λ other. was.others (name k f) (apart kind file k f number in_range other))
          (same_or_apart kind file k f)

  pub stepped_on_file : (past : FolderPast) (deed : FileDeed)
      → ((left : Option (List ℕ)) → IsLeft (past.first (name kind file)) (deed ∷ deeds_of (name kind file) past.deeds) left
      → (was : Option (List ℕ)) × IsLeft (past.first (name kind file)) (deeds_of (name kind file) past.deeds) was × OnEntry Step was left)
      → Follows (OnFile kind file Step) (images_of name past) (images_of name (did_to past (name kind file) deed))
  stepped_on_file past deed back image left =
      let was = before_deed past (name kind file) deed (OnEntry Step) tt back left.0 left.1 in
      ⊎_elim
      (λ there.
      let old = entry_before Step (was.before (name kind file)) (left.0 (name kind file)) (file_of image kind file) (left.2.there kind file there) was.step in
      stepped_there past left.0 image old.0 was left.2 there old.1 old.2)
      (λ nowhere.
      let none = left.2.no_more kind file nowhere number in
      stepped_nowhere past left.0 image was left.2
      (no_entry_before Step (was.before (name kind file)) (left.0 (name kind file)) none was.step ∙ sym none))
      (cases_lt file (file_count image kind))

-- a write
pub write_follows : (name : Kind → ℕ → List ℕ) → NamesApart name → (kind : Kind) (file : ℕ) → file < 2 ^ 32 → (past : FolderPast) (at : ℕ) (some : List ℕ) (rest : ℕ)
    → Follows (OnFile kind file (Torn at (length some + rest))) (images_of name past) (images_of name (did_to past (name kind file) (Wrote at some rest)))
write_follows name apart kind file number past at some rest =
    stepped_on_file name apart kind file number (Torn at (length some + rest)) (torn_none at (length some + rest)) past (Wrote at some rest)
    (wrote_back (past.first (name kind file)) (deeds_of (name kind file) past.deeds) at some rest)

-- a cut
pub cut_follows : (name : Kind → ℕ → List ℕ) → NamesApart name → (kind : Kind) (file : ℕ) → file < 2 ^ 32 → (past : FolderPast) (len rest : ℕ)
    → Follows (OnFile kind file (Cut (len - rest))) (images_of name past) (images_of name (did_to past (name kind file) (Shortened len rest)))
cut_follows name apart kind file number past len rest =
    stepped_on_file name apart kind file number (Cut (len - rest)) (cut_none (len - rest)) past (Shortened len rest)
    (shortened_back (past.first (name kind file)) (deeds_of (name kind file) past.deeds) len rest)

-- syncs, done or failed, add no image
pub synced_within : (name : Kind → ℕ → List ℕ) (past : FolderPast) (n : List ℕ) (done : Bool) → Within (images_of name past) (images_of name (did_to past n (Synced done)))
synced_within name past n done image left = (left.0, synced_file past n done left.0 left.1, left.2)

-- Where folder and name are on the disk, and each of what the disk may hold of the file are these bytes, a crash leaves the file with them.
pub file_is_durable : (name : Kind → ℕ → List ℕ) (past : FolderPast) (kind : Kind) (file : ℕ) (bytes : List ℕ)
    → file < 2 ^ 32 → IsPlaced past → IsNamed past (name kind file)
    → ((held : List ℕ) → MayHold (past.first (name kind file)) (deeds_of (name kind file) past.deeds) Crash held → held ≡ bytes)
    → Leaves (images_of name past) (HasFile kind file bytes)
file_is_durable name past kind file bytes number placed named sure image left = durable left.0 left.1 left.2
  where
    durable : (contents : Contents) → MayLeave past contents → IsSeen name contents image → HasFile kind file bytes image
    durable contents (inl missing) seen = absurd (true≢false (sym missing.0 ∙ placed))
    durable contents (inr each) seen =
        let n : List ℕ = name kind file in
        let is = named_is_left (past.first n) (deeds_of n past.deeds) (contents n) named (each n) in
        let there : file < file_count image kind = there_is name contents image kind file is.0 seen number is.1 in
        record {
          there = there;
          same = sure (file_of image kind file) (subst (IsLeft (past.first n) (deeds_of n past.deeds)) (seen.there kind file there) (each n));
        }
