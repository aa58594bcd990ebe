-- Laws of a disk that only reads.
use Rattle.std.proofs.Common.{◌≡◌, ◌≢◌, ◌<◌, ◌≤◌, ◌^◌, ℕ, Bool, IsTrue, List, [], refl, sym, ap, ◌∙◌, subst, inl, true≢false, arith}
use Rattle.std.specs.Prelude.{Option, Some, None, Result, Ok, Err, OnOk, OnErr, IsErr, ⊤}
use Rattle.std.specs.Option.{unwrap_or}
use Rattle.disk_model.specs.Crash.{HasFile, Leaves, Elapses}
use Rattle.disk_model.specs.Image.{Image, file_count, file_of, files_of, no_files}
use Rattle.disk_model.specs.declared.kind.Kind.{Kind}
use Rattle.disk_model.specs.declared.kind.Kind.TheVariants.{Warc, Cdxj}
use Rattle.folder_model.specs.Folder.{FolderPast, contents_of, bytes_of}
use Rattle.folder_model.specs.Known.{bytes_or_none, image_of}
use Rattle.folder_model.specs.steps.ReadingLaws.{image_of-count, image_of-file}
use Rattle.folder_files.specs.Counting.{HasBelow, HasNoMoreOf, known_of}
use Rattle.folder_disk.specs.Reader.{ReadFolder, past_read, read_image, reading_in, images_in, IsReadIn, StaysRead}

-- ---- what is counted

found_bytes : (found : Option (List ℕ)) → found ≢ None → found ≡ Some (bytes_or_none found)
found_bytes None is = absurd (is refl)
found_bytes (Some bytes) is = refl

-- each file that was counted is in the image, and the folder has no other volume
pub is_read_in : (name : Kind → ℕ → List ℕ) (past : FolderPast) (warc cdxj : ℕ) → warc < 2 ^ 32 → HasBelow name past Warc warc → HasBelow name past Cdxj cdxj → HasNoMoreOf name past Warc warc
    → IsReadIn name (contents_of past) (image_of (λ kind file. contents_of past (name kind file)) (known_of warc cdxj))
is_read_in name past warc cdxj small volumes checkpoints no_more = record {
  few = omega (arith, small, counted Warc);
  there = λ kind file inside.
      let below : file < known_of warc cdxj kind = omega (arith, inside, counted kind) in
      found_bytes (contents_of past (name kind file)) (has kind file below)
      ∙ ap (λ (b : List ℕ). Some b) (sym (image_of-file (λ k f. contents_of past (name k f)) (known_of warc cdxj) kind file below));
  no_more = λ file outside in_range. no_more file (omega (arith, outside, counted Warc)) in_range;
}
  where
    counted : (kind : Kind) → file_count (image_of (λ k f. contents_of past (name k f)) (known_of warc cdxj)) kind ≡ known_of warc cdxj kind
    counted kind = image_of-count (λ k f. contents_of past (name k f)) (known_of warc cdxj) kind

    has : (kind : Kind) (file : ℕ) → file < known_of warc cdxj kind → contents_of past (name kind file) ≢ None
    has Warc file below = volumes file below
    has Cdxj file below = checkpoints file below

pub none_read : (kind : Kind) → 0 ≡ file_count no_files kind
unfolding files_of
none_read Warc = refl
none_read Cdxj = refl

same_bytes : (found : Option (List ℕ)) → unwrap_or found [] ≡ bytes_or_none found
same_bytes None = refl
same_bytes (Some bytes) = refl

-- ---- what is read

module _ {F : Type 0} (name : Kind → ℕ → List ℕ) (past : F → FolderPast) (it : ReadFolder F) (kind : Kind) where
  pub all_counted : known_of it.warc it.cdxj kind ≡ file_count (read_image name past it) kind
  all_counted = sym (image_of-count (λ k f. contents_of (past it.folder) (name k f)) (known_of it.warc it.cdxj) kind)

  -- the bytes of a file are those of the folder's
  pub its_bytes : (file : ℕ) → file < file_count (read_image name past it) kind → bytes_of (past it.folder) (name kind file) ≡ file_of (read_image name past it) kind file
  its_bytes file inside =
      same_bytes (contents_of (past it.folder) (name kind file))
      ∙ sym (image_of-file (λ k f. contents_of (past it.folder) (name k f)) (known_of it.warc it.cdxj) kind file (omega (arith, inside, all_counted)))

-- ---- what a call leaves

module _ {F : Type 0} (tells : Bool) (name : Kind → ℕ → List ℕ) (past : F → FolderPast) where
  pub reading_is_read : (place : Option (ReadFolder F)) → IsTrue tells → images_in tells name past place (reading_in name past place)
  reading_is_read place told = (told, refl)

  pub no_more_read : (place : Option (ReadFolder F)) (image : Image) (kind : Kind) → images_in tells name past place image
      → file_count image kind ≤ file_count (reading_in name past place) kind
  no_more_read place image kind is = omega (arith, ap (λ (i : Image). file_count i kind) is.1)

  -- what is read stays where the folder's past does
  stays_read : (old new : Option (ReadFolder F)) → (IsTrue tells → past_read past new ≡ past_read past old)
      → (IsTrue tells → reading_in name past new ≡ reading_in name past old) → StaysRead tells name past old new
  stays_read old new nothing same = record {
    nothing = nothing;
    same = same;
    crash = λ image is. (is.0, is.1 ∙ same is.0);
    time = record {
      later = omega arith;
      by_one = omega arith;
      nothing_else = λ t image le is. inl (is.0, is.1 ∙ same is.0);
      keeps = λ t image le is. (is.0, is.1 ∙ sym (same is.0));
    };
  }

  pub stays_there : (old new : ReadFolder F) → new.warc ≡ old.warc → new.cdxj ≡ old.cdxj → (IsTrue tells → past new.folder ≡ past old.folder)
      → StaysRead tells name past (Some old) (Some new)
  stays_there old new warc cdxj same =
      stays_read (Some old) (Some new) (λ told. ap (λ (p : FolderPast). Some p) (same told))
      (λ told. λ i. image_of (λ kind file. contents_of (same told i) (name kind file)) (known_of (warc i) (cdxj i)))

  pub stays_absent : StaysRead tells name past None None
  stays_absent = stays_read None None (λ told. refl) (λ told. refl)

  -- where nothing was done no time goes by, whatever a call may leave
  pub nothing_elapses : (old new : Option (ReadFolder F)) (images : Image → Type 0) → new ≡ old
      → Elapses 0 0 (λ t. images_in tells name past old) (λ t. images_in tells name past new) images
  nothing_elapses old new images same = record {
    later = omega arith;
    by_one = omega arith;
    nothing_else = λ t image le is. inl (subst (λ (p : Option (ReadFolder F)). images_in tells name past p image) same is);
    keeps = λ t image le is. subst (λ (p : Option (ReadFolder F)). images_in tells name past p image) (sym same) is;
  }

-- ---- what its calls answer

-- a call that was refused did nothing
pub never_done : {T E : Type 0} (A : Type 0) (result : Result T E) → IsErr result → OnOk result A
never_done A (Ok x) failed = absurd (true≢false (sym failed))
never_done A (Err e) failed = tt

pub left_so : {T E : Type 0} (A : Type 0) (result : Result T E) → A → OnErr result A
left_so A (Ok x) is = tt
left_so A (Err e) is = is

-- a file that is there is in each image, with the bytes that it has
pub leaves_read : {F E : Type 0} (tells : Bool) (name : Kind → ℕ → List ℕ) (past : F → FolderPast) (old new : Option (ReadFolder F)) (kind : Kind) (file : ℕ) (result : Result ⊤ E)
    → (IsTrue tells → file < file_count (reading_in name past old) kind) → (IsTrue tells → reading_in name past new ≡ reading_in name past old)
    → OnOk result (Leaves (images_in tells name past new) (HasFile kind file (file_of (reading_in name past old) kind file)))
leaves_read tells name past old new kind file (Ok x) there same = λ image is.
    let whole : image ≡ reading_in name past old = is.1 ∙ same is.0 in
    record {
      there = subst (λ (i : Image). file < file_count i kind) (sym whole) (there is.0);
      same = ap (λ (i : Image). file_of i kind file) whole;
    }
leaves_read tells name past old new kind file (Err e) there same = tt
