-- What a call that changes nothing of a disk in memory keeps, and what a change of it does.
use Rattle.std.proofs.Common.{◌≡◌, ◌<◌, ℕ, List, [], ◌∷◌, ◌++◌, length, refl, sym, ap, ◌∙◌, subst, arith, inl, inr, ⊎_elim}
use Rattle.disk_model.specs.Changes.{done, replayed, left_by, may_leave, left_since}
use Rattle.disk_model.specs.steps.ChangesLaws.{replayed-push, left_after-push, half_may_create, elapses-push}
use Rattle.disk_model.specs.Crash.{OnFile, MayCreate, HasFile, Follows, Stepped, Elapses}
use Rattle.disk_model.specs.steps.CrashLaws.{elapses_weaker, on_file_none}
use Rattle.disk_model.specs.Device.{Device, IsFailedCreate, reading_of, images_of, moment_of, images_since_of}
use Rattle.disk_model.specs.Image.{Image, file_count, file_of, with_new}
use Rattle.disk_model.specs.steps.ImageLaws.{file_count-with_new, file_of-with_new}
use Rattle.disk_model.specs.declared.kind.Kind.{Kind}
use Rattle.disk_model.specs.declared.change.Change.{Change}
use Rattle.disk_model.specs.declared.change.Change.TheVariants.{Made, HalfMade, Synced}

module _ (old new : Device) (first : new.first ≡ old.first) (changes : new.changes ≡ old.changes) where
  pub kept_reading : reading_of new ≡ reading_of old
  kept_reading = λ i. replayed (changes i) (first i)

  pub kept_on_file : (kind : Kind) (file : ℕ) (Step : List ℕ → List ℕ → Type 0) → ((bytes : List ℕ) → Step bytes bytes) → OnFile kind file Step (reading_of old) (reading_of new)
  kept_on_file kind file Step none =
      subst (λ (image : Image). OnFile kind file Step (reading_of old) image) (sym kept_reading) (on_file_none kind file Step (reading_of old) (none _))

  pub kept_images : (image : Image) → images_of new image → images_of old image
  kept_images image left =
      subst (λ (some : List Change). may_leave some old.first image) changes (subst (λ (before : Image). may_leave new.changes before image) first left)

  pub kept_follows : (kind : Kind) (file : ℕ) (Step : List ℕ → List ℕ → Type 0) → ((bytes : List ℕ) → Step bytes bytes) → Follows (OnFile kind file Step) (images_of old) (images_of new)
  kept_follows kind file Step none = λ image left. (image, kept_images image left, on_file_none kind file Step image (none _))

module _ (old new : Device) (change : Change) (first : new.first ≡ old.first) (changes : new.changes ≡ old.changes ++ change ∷ []) where
  pub changed_reading : reading_of new ≡ done change (reading_of old)
  changed_reading = (λ i. replayed (changes i) (first i)) ∙ replayed-push old.changes change old.first

  pub changed_images : (image : Image) → images_of new image → left_by change (reading_of old) (images_of old) image
  changed_images image left =
      left_after-push old.changes change old.first (λ (before : Image). before ≡ old.first) image
      (subst (λ (some : List Change). may_leave some old.first image) changes (subst (λ (before : Image). may_leave new.changes before image) first left))

  pub changed_time : Elapses (length old.changes) (length new.changes) (left_since old.changes old.first) (left_since new.changes new.first) (images_of new)
  changed_time =
      subst (λ (some : List Change). Elapses (length old.changes) (length some) (left_since old.changes old.first) (left_since some new.first) (may_leave some new.first)) (sym changes)
      (subst (λ (before : Image). Elapses (length old.changes) (length (old.changes ++ change ∷ [])) (left_since old.changes old.first) (left_since (old.changes ++ change ∷ []) before) (may_leave (old.changes ++ change ∷ []) before)) (sym first)
      (elapses-push old.changes change old.first))

-- after a file was made each image has it, empty
pub made_is_there : (old new : Device) (kind : Kind) → new.first ≡ old.first → new.changes ≡ old.changes ++ Made kind ∷ [] → (image : Image) → images_of new image → HasFile kind (file_count (reading_of old) kind) [] image
made_is_there old new kind first changes image left =
    let from = changed_images old new (Made kind) first changes image left in
    let counts : file_count from.0 kind ≡ file_count (reading_of old) kind = from.2 in
    record {
      there = omega (arith, counts, ap (λ (i : Image). file_count i kind) from.3, file_count-with_new from.0 kind);
      same = ap (λ (i : Image). file_of i kind (file_count (reading_of old) kind)) from.3 ∙ ap (λ (n : ℕ). file_of (with_new from.0 kind) kind n) (sym counts) ∙ file_of-with_new from.0 kind;
    }

-- and the images come from the old ones by that file
pub made_follows : (old new : Device) (kind : Kind) → new.first ≡ old.first → new.changes ≡ old.changes ++ Made kind ∷ [] → Follows (MayCreate kind (file_count (reading_of old) kind)) (images_of old) (images_of new)
made_follows old new kind first changes image left =
    let from = changed_images old new (Made kind) first changes image left in
    (from.0, from.1, inr (from.2, from.3))

-- within the call a crash left the file, or didn't
pub made_time : (old new : Device) (kind : Kind) → new.first ≡ old.first → new.changes ≡ old.changes ++ Made kind ∷ []
    → Elapses (length old.changes) (length new.changes) (left_since old.changes old.first) (left_since new.changes new.first) (Stepped (MayCreate kind (file_count (reading_of old) kind)) (images_of old))
made_time old new kind first changes =
    elapses_weaker (length old.changes) (length new.changes) (left_since old.changes old.first) (left_since new.changes new.first) (images_of new) _
    (made_follows old new kind first changes) (changed_time old new (Made kind) first changes)

-- after a sync each image has the file as a read gives it
pub synced_is_there : (old new : Device) (kind : Kind) (file : ℕ) → new.first ≡ old.first → new.changes ≡ old.changes ++ Synced kind file ∷ [] → file < file_count (reading_of old) kind → (image : Image) → images_of new image → HasFile kind file (file_of (reading_of old) kind file) image
synced_is_there old new kind file first changes there image left =
    let from = changed_images old new (Synced kind file) first changes image left in
    record { there = from.1 there; same = from.2 }

-- What a `create` that failed leaves: nothing is changed, or a file is half made.
module _ (old new : Device) (kind : Kind) (failed : IsFailedCreate kind old new) where
  pub failed_reading : MayCreate kind (file_count (reading_of old) kind) (reading_of old) (reading_of new)
  failed_reading =
      ⊎_elim
      (λ kept. inl (kept_reading old new (ap (λ (d : Device). d.first) kept) (ap (λ (d : Device). d.changes) kept)))
      (λ half. subst (λ (image : Image). MayCreate kind (file_count (reading_of old) kind) (reading_of old) image)
      (sym (changed_reading old new (HalfMade kind (file_count (reading_of old) kind)) (ap (λ (d : Device). d.first) half.2) (ap (λ (d : Device). d.changes) half.2)))
      (half_may_create (reading_of old) kind (file_count (reading_of old) kind)))
      failed

  pub failed_follows : Follows (MayCreate kind (file_count (reading_of old) kind)) (images_of old) (images_of new)
  failed_follows image left =
      ⊎_elim
      (λ kept. (image, kept_images old new (ap (λ (d : Device). d.first) kept) (ap (λ (d : Device). d.changes) kept) image left, inl refl))
      (λ half. changed_images old new (HalfMade kind (file_count (reading_of old) kind)) (ap (λ (d : Device). d.first) half.2) (ap (λ (d : Device). d.changes) half.2) image left)
      failed

  pub failed_time : Elapses (moment_of old) (moment_of new) (images_since_of old) (images_since_of new) (Stepped (MayCreate kind (file_count (reading_of old) kind)) (images_of old))
  failed_time =
      ⊎_elim
      (λ kept. subst (λ (d : Device). Elapses (moment_of old) (moment_of d) (images_since_of old) (images_since_of d) (Stepped (MayCreate kind (file_count (reading_of old) kind)) (images_of old))) (sym kept)
      (record { later = omega arith; by_one = omega arith; nothing_else = λ t image le left. inl left; keeps = λ t image le left. left }))
      (λ half. elapses_weaker (moment_of old) (moment_of new) (images_since_of old) (images_since_of new) (images_of new) _
      failed_follows
      (changed_time old new (HalfMade kind (file_count (reading_of old) kind)) (ap (λ (d : Device). d.first) half.2) (ap (λ (d : Device). d.changes) half.2)))
      failed
