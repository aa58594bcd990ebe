-- A further file is made: what that leaves.
use Rattle.std.proofs.Common.{◌≡◌, ◌≢◌, ◌⊎◌, ◌<◌, ◌≤◌, ℕ, ◌+◌, false, List, [], ◌∷◌, ◌++◌, length, get_or, refl, sym, ap, subst, ◌∙◌, inl, inr, ⊎_elim, arith}
use Rattle.std.proofs.lemmas.List.{get_or_append_left, length_push}
use Rattle.disk_model.specs.Crash.{Elapses, Follows, HasFile, Leaves, MayCreate, Stepped}
use Rattle.disk_model.specs.Image.{Image, file_count}
use Rattle.disk_model.specs.steps.ImageLaws.{files_of-with_new, files_of-with_new_kind}
use Rattle.disk_model.proofs.MomentLaws.{goes_on, none_added}
use Rattle.disk_model.specs.declared.disk.Disk.{Ghosts}
use Rattle.disk_model.specs.declared.kind.Kind.TheVariants.{Warc, Cdxj}
use Rattle.warc_journal.specs.Journals.{IsInStep, IsLeft, Prepares, texts}
use Rattle.warc_journal.specs.Extents.{Reaches, cdxj_files, texts_in, warc_files}
use Rattle.warc_journal.specs.Texts.{AreSealed, Hold, IsFurtherEmpty, IsLastJust}
use Rattle.warc_journal.specs.declared.extent.Further.TheVariants.{Absent, Empty, Unknown}
use Rattle.warc_journal.specs.declared.journal.Journal.{Journal}
use Rattle.warc_journal.proofs.Files.{further_pushed, hold_just, last_pushed, length_texts, sealed_pushed, texts_pushed}

-- a file that may have been made, in the list of files
pub may_be_pushed : (n : ℕ) (old new : Image) → MayCreate Warc n old new → (warc_files new ≡ warc_files old) ⊎ (warc_files new ≡ warc_files old ++ [] ∷ [])
may_be_pushed n old new made = ⊎_elim (λ same. inl (ap warc_files same)) (λ (count, is). inr (ap warc_files is ∙ files_of-with_new old Warc)) made

pub cdxj_stay : (n : ℕ) (old new : Image) → MayCreate Warc n old new → cdxj_files new ≡ cdxj_files old
cdxj_stay n old new made = ⊎_elim (λ same. ap cdxj_files same) (λ (count, is). ap cdxj_files is ∙ files_of-with_new_kind old Warc Cdxj (λ same. cc)) made

module _ {D : Type 0} (d : Ghosts D)
    (old : Journal D) (disk : D) (in_step : IsInStep d old)
    (clean : old.extent.is_dirty ≡ false) (absent : old.extent.further ≡ Absent)
    (fewer : (i : Image) → d.images old.disk i → file_count i Warc ≤ file_count (d.reading old.disk) Warc)
    (follows : Follows (MayCreate Warc (file_count (d.reading old.disk) Warc)) (d.images old.disk) (d.images disk))
    (time : Elapses (d.moment old.disk) (d.moment disk) (d.images_since old.disk) (d.images_since disk)
    (Stepped (MayCreate Warc (file_count (d.reading old.disk) Warc)) (d.images old.disk)))
    (read : MayCreate Warc (file_count (d.reading old.disk) Warc) (d.reading old.disk) (d.reading disk)) where
  abbrev ts : List (List ℕ)
  ts = texts d old

  abbrev n : ℕ
  n = file_count (d.reading old.disk) Warc

  known : old.extent.further ≢ Unknown
  known unknown = cc (sym absent ∙ unknown)

  count : length ts ≡ old.extent.volumes
  count = length_texts old.extent (warc_files (d.reading old.disk)) in_step.enough

  -- an image from before, with a new file or without one
  abbrev MayHaveNew : Image → Type 0
  MayHaveNew = Stepped (MayCreate Warc n) (d.images old.disk)

  -- what holds of the files with and without a new one, holds of each image
  of_each : (P : List (List ℕ) → Type 0) → ((i : Image) → d.images old.disk i → P (warc_files i))
      → ((i : Image) → d.images old.disk i → length (warc_files i) ≤ length ts → P (warc_files i ++ [] ∷ []))
      → (i : Image) → MayHaveNew i → P (warc_files i)
  of_each P as_was pushed i made =
      ⊎_elim
      (λ same. subst P (sym same) (as_was made.0 made.1))
      (λ more. subst P (sym more) (pushed made.0 made.1 (omega (arith, fewer made.0 made.1, in_step.absent absent, count))))
      (may_be_pushed n made.0 i made.2)

  sealed : (i : Image) → MayHaveNew i → AreSealed ts (warc_files i)
  sealed = of_each (AreSealed ts) in_step.sealed (λ i was few. sealed_pushed ts (warc_files i) (in_step.sealed i was) few)

  just : (i : Image) → MayHaveNew i → IsLastJust ts (warc_files i)
  just = of_each (IsLastJust ts) (in_step.clean clean) (λ i was few. last_pushed ts (warc_files i) (in_step.sealed i was) (in_step.clean clean i was))

  empty : (i : Image) → MayHaveNew i → IsFurtherEmpty ts (warc_files i)
  empty = of_each (IsFurtherEmpty ts) (in_step.known known) (λ i was few. further_pushed ts (warc_files i) (in_step.sealed i was) few)

  same : texts_in old.extent (warc_files (d.reading disk)) ≡ ts
  same =
      ⊎_elim (λ is. ap (texts_in old.extent) is) (λ more. ap (texts_in old.extent) more ∙ texts_pushed old.extent (warc_files (d.reading old.disk)) in_step.enough)
      (may_be_pushed n (d.reading old.disk) (d.reading disk) read)

  read_enough : old.extent.volumes ≤ length (warc_files (d.reading disk))
  read_enough =
      ⊎_elim (λ is. omega (arith, ap length is, in_step.enough)) (λ more. omega (arith, ap length more, length_push (warc_files (d.reading old.disk)) [], in_step.enough))
      (may_be_pushed n (d.reading old.disk) (d.reading disk) read)

  read_one_more : length (warc_files (d.reading disk)) ≤ old.extent.volumes + 1
  read_one_more =
      ⊎_elim (λ is. omega (arith, ap length is, in_step.one_more)) (λ more. omega (arith, ap length more, length_push (warc_files (d.reading old.disk)) [], in_step.absent absent))
      (may_be_pushed n (d.reading old.disk) (d.reading disk) read)

  within : (k : ℕ) → k + 1 ≡ old.extent.volumes → old.extent.end ≤ length (get_or (warc_files (d.reading disk)) k [])
  within k is =
      let there : k < length (warc_files (d.reading old.disk)) = omega (arith, is, in_step.enough) in
      let one : get_or (warc_files (d.reading disk)) k [] ≡ get_or (warc_files (d.reading old.disk)) k [] =
      ⊎_elim (λ e. ap (λ (files : List (List ℕ)). get_or files k []) e) (λ more. ap (λ (files : List (List ℕ)). get_or files k []) more ∙ get_or_append_left (warc_files (d.reading old.disk)) ([] ∷ []) [] k there)
      (may_be_pushed n (d.reading old.disk) (d.reading disk) read) in
      omega (arith, in_step.within k is, ap length one)

  -- a crash leaves the texts, with or without the file, also within a call that fails
  pub made_prepared : Prepares d old (record { disk = disk; extent = record old.extent { further = Empty } })
  made_prepared = record {
    leaves =
        goes_on d.moment d.images_since old.disk old.disk disk (IsLeft (d.images old.disk) (Hold ts)) MayHaveNew (none_added d.moment d.images_since old.disk (IsLeft (d.images old.disk) (Hold ts))) time
        (λ i new. record {
          before = new.0;
          was = new.1;
          others = cdxj_stay n new.0 i new.2;
          described = hold_just ts (warc_files i) (sealed i new) (just i new) (empty i new);
        });
    same = same;
    others = cdxj_stay n (d.reading old.disk) (d.reading disk) read;
  }

  pub made_unknown : Prepares d old (record { disk = disk; extent = record old.extent { further = Unknown } })
  made_unknown = record { leaves = made_prepared.leaves; same = made_prepared.same; others = made_prepared.others }

  pub make_failed : IsInStep d (record { disk = disk; extent = record old.extent { further = Unknown } })
  make_failed = subst (λ (t : List (List ℕ)). Reaches (record old.extent { further = Unknown }) t (d.reading disk) (d.images disk)) (sym same) record {
    none = in_step.none;
    enough = read_enough;
    one_more = read_one_more;
    within = within;
    sealed = λ i left. sealed i (follows i left);
    clean = λ is i left. just i (follows i left);
    known = λ apart. absurd (apart refl);
    absent = λ is. cc is;
    there = λ is. cc is;
    held = λ dirty. cc (sym clean ∙ dirty);
  }

  pub made : Leaves (d.images disk) (HasFile Warc (file_count (d.reading old.disk) Warc) []) → IsInStep d (record { disk = disk; extent = record old.extent { further = Empty } })
  made durable = subst (λ (t : List (List ℕ)). Reaches (record old.extent { further = Empty }) t (d.reading disk) (d.images disk)) (sym same) record {
    none = in_step.none;
    enough = read_enough;
    one_more = read_one_more;
    within = within;
    sealed = λ i left. sealed i (follows i left);
    clean = λ is i left. just i (follows i left);
    known = λ apart i left. empty i (follows i left);
    absent = λ is. cc is;
    there = λ is i left. omega (arith, (durable i left).there, in_step.enough);
    held = λ dirty. cc (sym clean ∙ dirty);
  }
