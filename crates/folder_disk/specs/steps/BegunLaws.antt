-- Laws of a disk without a folder, and of one whose folder was just made.
use Rattle.std.proofs.Common.{◌≡◌, ◌<◌, ◌≤◌, ◌^◌, ℕ, Bool, false, IsTrue, List, [], ◌∷◌, length, refl, sym, ap, ◌∙◌, subst, inl, inr, ⊎_elim, arith}
use Rattle.std.specs.Prelude.{Option, None, Result, Ok, Err, OnOk, OnErr, IfOk}
use Rattle.disk_model.specs.Crash.{MayCreate, Stepped}
use Rattle.disk_model.specs.Image.{Image, no_files, files_of, file_count, with_new}
use Rattle.disk_model.specs.declared.kind.Kind.{Kind}
use Rattle.disk_model.specs.declared.kind.Kind.TheVariants.{Warc, Cdxj}
use Rattle.folder_model.specs.Folder.{FolderPast}
use Rattle.folder_model.specs.Times.{moment_of}
use Rattle.folder_model.specs.Known.{image_of}
use Rattle.held_folder.specs.Calls.{Creates}
use Rattle.held_folder.specs.Doubts.{AreTorn, further_of, IsFurther}
use Rattle.held_folder.specs.declared.trust.Further.TheVariants.{Absent}
use Rattle.held_folder.specs.declared.trust.Trust.{Trust}
use Rattle.folder_disk.specs.Found.{IsAsFound}
use Rattle.folder_files.specs.Counting.{known_of}
use Rattle.held_folder.specs.State.{State, no_folder, reading, IsKnown, images, images_since, IsNew}
use Rattle.held_folder.specs.steps.StateLaws.{counted, no_more, now_counts, now_only}

-- ---- no folder

-- it has no files
pub nothing_read : (name : Kind → ℕ → List ℕ) → reading name no_folder ≡ no_files
unfolding reading no_folder image_of
nothing_read name = refl

pub no_folder_known : (name : Kind → ℕ → List ℕ) → IsKnown name no_folder
unfolding reading no_folder image_of files_of
no_folder_known name = record {
  knows = record {
    is = record {
      seen = record {
        few = λ kind. counts_small kind;
        there = λ kind file inside. absurd (omega (arith, inside, counts kind));
        no_more = λ kind file outside small. refl;
      };
      placed = refl;
      named = λ kind file inside. absurd (omega (arith, inside, counts kind));
    };
    timed = record { rises = tt; now = refl };
    numbers = numbers;
    no_fewer = λ kind. omega (arith, known_none kind);
    one_more = λ kind. omega (arith, counts kind);
    named = λ kind file inside. absurd (omega (arith, inside, known_none kind));
    sure = λ goes n. inr (λ bytes holds. holds);
  };
  torn = λ goes kind. none_torn kind;
  further = λ kind. none_further kind;
}
  where
    counts : (kind : Kind) → file_count (reading name no_folder) kind ≡ 0
    counts Warc = refl
    counts Cdxj = refl

    counts_small : (kind : Kind) → file_count (reading name no_folder) kind ≤ 2 ^ 32
    counts_small kind = omega (arith, counts kind)

    known_none : (kind : Kind) → known_of 0 0 kind ≡ 0
    known_none Warc = refl
    known_none Cdxj = refl

    numbers : (kind : Kind) → known_of 0 0 kind < 2 ^ 32
    numbers kind = omega (arith, known_none kind)

    none_torn : AreTorn name no_folder.past no_folder.trust
    none_torn Warc = tt
    none_torn Cdxj = tt

    none_further : (kind : Kind) → IsFurther (further_of no_folder.trust kind) no_folder.past (name kind (known_of no_folder.warc no_folder.cdxj kind))
    none_further Warc = refl
    none_further Cdxj = refl

-- a disk without files is as was found, where the cause that no folder was held is one that comes only where none is there
pub none_found : {S E : Type 0} (name : Kind → ℕ → List ℕ) (read : S → Image) (Missing : Type 0) (there : Option FolderPast) (result : Result S E)
    → (Missing → there ≡ None) → OnOk result Missing → IfOk result (λ s. read s ≡ no_files) → IfOk result (λ s. IsAsFound name there (read s))
none_found name read Missing there (Ok s) gives missing nothing = subst (λ (o : Option FolderPast). IsAsFound name o (read s)) (sym (gives missing)) nothing
none_found name read Missing there (Err e) gives missing nothing = tt

none_moment : moment_of no_folder.times ≡ 0
unfolding no_folder
none_moment = refl

-- ---- a folder that was just made

empty_list : {A : Type 0} (xs : List A) → length xs ≡ 0 → xs ≡ []
empty_list [] none = refl
empty_list (x ∷ xs) none = absurd (omega (arith, none))

-- an image without files
no_files_is : (image : Image) → file_count image Warc ≡ 0 → file_count image Cdxj ≡ 0 → image ≡ no_files
unfolding files_of
no_files_is image warc cdxj = λ i. record { warc = empty_list image.warc warc i; cdxj = empty_list image.cdxj cdxj i }

no_counts : (kind : Kind) → file_count no_files kind ≡ 0
unfolding files_of
no_counts Warc = refl
no_counts Cdxj = refl

pub none_counted : (name : Kind → ℕ → List ℕ) (kind : Kind) → 0 ≡ file_count (reading name no_folder) kind
none_counted name kind = omega (arith, ap (λ (i : Image). file_count i kind) (nothing_read name), no_counts kind)

-- a disk that was just begun without files
module _ (tells : Bool) (name : Kind → ℕ → List ℕ) (held : State) (is_new : IsNew 0 0 held) (known : IsTrue tells → IsKnown name held) where
  counts_none : IsTrue tells → (kind : Kind) → file_count (reading name held) kind ≡ 0
  counts_none told kind = counted name held kind (known told) (ap (λ (t : Trust). further_of t kind) is_new.fresh ∙ none_absent kind) ∙ none kind
    where
      none : (kind : Kind) → known_of held.warc held.cdxj kind ≡ 0
      none Warc = is_new.warc_is
      none Cdxj = is_new.cdxj_is

      none_absent : (kind : Kind) → further_of (record { gave_up = false; warc = None; cdxj = None; further_warc = Absent; further_cdxj = Absent }) kind ≡ Absent
      none_absent Warc = refl
      none_absent Cdxj = refl

  same_reading : IsTrue tells → reading name held ≡ reading name no_folder
  same_reading told = no_files_is (reading name held) (counts_none told Warc) (counts_none told Cdxj) ∙ sym (nothing_read name)

  to_none : (image : Image) → images tells name held image → images tells name no_folder image
  to_none image left =
      let none : (kind : Kind) → file_count image kind ≡ 0 = λ kind. omega (arith, no_more tells name held image kind left, counts_none left.0 kind) in
      (left.0, inl (no_files_is image (none Warc) (none Cdxj) ∙ sym (nothing_read name)))

  -- an image of what has no folder has no files
  of_none : (image : Image) → images tells name no_folder image → image ≡ no_files
  of_none image left =
      let none : (kind : Kind) → file_count image kind ≡ 0 =
      λ kind. omega (arith, no_more tells name no_folder image kind left, ap (λ (i : Image). file_count i kind) (nothing_read name), no_counts kind) in
      no_files_is image (none Warc) (none Cdxj)

  since_to_none : (t : ℕ) (image : Image) → t ≤ moment_of no_folder.times → images_since tells name held t image → images_since tells name no_folder t image
  since_to_none t image le since =
      let now : t ≡ moment_of held.times = omega (arith, le, none_moment, is_new.first) in
      now_counts tells name no_folder t image
      (to_none image (now_only tells name held image (subst (λ (n : ℕ). images_since tells name held n image) now since)))

  since_from_none : (t : ℕ) (image : Image) → t ≤ moment_of no_folder.times → images_since tells name no_folder t image → images_since tells name held t image
  since_from_none t image le since =
      let now : t ≡ moment_of no_folder.times = omega (arith, le, none_moment) in
      let none = of_none image (now_only tells name no_folder image (subst (λ (n : ℕ). images_since tells name no_folder n image) now since)) in
      (since.0, inl (none ∙ sym (nothing_read name) ∙ sym (same_reading since.0)))

  -- the first file of a folder that was just made is the first of a disk without a folder
  pub begun_creates : {E : Type 0} (kind : Kind) (new : State) (result : Result ℕ E) → Creates tells name kind held new result → Creates tells name kind no_folder new result
  begun_creates {E} kind new result made = record {
    known = made.known;
    number = λ told. subst (λ (i : Image). IfOk result (λ file. file ≡ file_count i kind)) (same_reading told) (made.number told);
    created = λ told. subst (λ (i : Image). OnOk result (reading name new ≡ with_new i kind)) (same_reading told) (made.created told);
    partial = λ told. subst (λ (i : Image). OnErr result (MayCreate kind (file_count i kind) i (reading name new))) (same_reading told) (made.partial told);
    crash = λ image left. stepped image left.0 (made.crash image left);
    durable = made.durable;
    time = record {
      later = omega (arith, none_moment);
      by_one = omega (arith, made.time.by_one, is_new.first, none_moment);
      nothing_else = λ t image le since.
          ⊎_elim
          (λ was. inl (since_to_none t image le was))
          (λ is. inr (stepped image since.0 is))
          (made.time.nothing_else t image (omega (arith, le, none_moment)) since);
      keeps = λ t image le since. made.time.keeps t image (omega (arith, le, none_moment)) (since_from_none t image le since);
    };
  }
    where
      stepped : (image : Image) → IsTrue tells
          → Stepped (MayCreate kind (file_count (reading name held) kind)) (images tells name held) image
          → Stepped (MayCreate kind (file_count (reading name no_folder) kind)) (images tells name no_folder) image
      stepped image told was = (
        was.0,
        to_none was.0 was.1,
        subst (λ (i : Image). MayCreate kind (file_count i kind) was.0 image) (same_reading told) was.2,
      )

-- a call of a disk without a folder that failed
pub none_created : {E : Type 0} (tells : Bool) (name : Kind → ℕ → List ℕ) (kind : Kind) (s : State) (e : E)
    → (IsTrue tells → IsKnown name s) → Creates tells name kind s s (Err e)
none_created tells name kind s e known = record {
  known = known;
  number = λ told. tt;
  created = λ told. tt;
  partial = λ told. inl refl;
  crash = λ image left. (image, left, inl refl);
  durable = tt;
  time = record {
    later = omega arith;
    by_one = omega arith;
    nothing_else = λ t image le since. inl since;
    keeps = λ t image le since. since;
  };
}
