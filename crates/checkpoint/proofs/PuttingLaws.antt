-- What making and writing a checkpoint's file leaves.
use Rattle.std.proofs.Common.{◌≡◌, ◌⊎◌, ◌<◌, ◌≤◌, ℕ, zero, suc, ◌+◌, List, [], ◌∷◌, ◌++◌, length, get_or, true, Result, Ok, Err, refl, sym, ap, subst, ◌∙◌, inl, inr, ⊎_elim, arith}
use Rattle.std.specs.Prelude.{OnOk}
use Rattle.std.proofs.lemmas.List.{length_push}
use Rattle.capture.specs.Tails.{IsRest}
use Rattle.disk_model.specs.Crash.{Elapses, HasFile, Leaves, MayCreate, Stepped, Within}
use Rattle.disk_model.specs.Image.{Image, file_count, file_of, files_of, with_file, with_new}
use Rattle.disk_model.specs.steps.ImageLaws.{file_count-with_file, file_of-with_file, file_of-with_file_number, files_of-with_file_kind, files_of-with_new, files_of-with_new_kind}
use Rattle.disk_model.specs.Moments.{AddsOnly}
use Rattle.disk_model.proofs.MomentLaws.{goes_on, joined, none_added, weakened}
use Rattle.disk_model.specs.declared.disk.Disk.{Ghosts}
use Rattle.disk_model.specs.declared.kind.Kind.TheVariants.{Warc, Cdxj}
use Rattle.gated_file.specs.Files.{HoldsAfter, HoldsEither, IsAdded, IsEither, IsFinished, KeepsText, text_of}
use Rattle.gated_file.proofs.RewriteLaws.{rewritten_has, rewritten_there}
use Rattle.gated_file.specs.declared.file.GatedFile.{GatedFile}
use Rattle.warc_journal.specs.Extents.{warc_files}
use Rattle.checkpoint.specs.Checkpoints.{checkpoint_of}
use Rattle.checkpoint.specs.Putting.{IsBeside}
use Rattle.checkpoint.specs.steps.Texts.{HasBytesOf, HasText, Makes, PutsText}

-- ---- an image beside another

pub beside_same : (volume : ℕ) (old new : Image) → new ≡ old → IsBeside volume old new
beside_same volume old new same = record {
  warc = ap warc_files same;
  others = λ file apart. ap (λ (i : Image). file_of i Cdxj file) same;
  count = inl (ap (λ (i : Image). file_count i Cdxj) same);
}

counted_twice : (volume a b c : ℕ) → (b ≡ a) ⊎ ((a ≡ volume) × (b ≡ volume + 1)) → (c ≡ b) ⊎ ((b ≡ volume) × (c ≡ volume + 1))
    → (c ≡ a) ⊎ ((a ≡ volume) × (c ≡ volume + 1))
counted_twice volume a b c (inl e) (inl f) = inl (f ∙ e)
counted_twice volume a b c (inl e) (inr f) = inr (sym e ∙ f.0, f.1)
counted_twice volume a b c (inr e) (inl f) = inr (e.0, f ∙ e.1)
counted_twice volume a b c (inr e) (inr f) = absurd (omega (arith, e.1, f.0))

pub beside_twice : (volume : ℕ) (old mid new : Image) → IsBeside volume old mid → IsBeside volume mid new → IsBeside volume old new
beside_twice volume old mid new first second = record {
  warc = second.warc ∙ first.warc;
  others = λ file apart. second.others file apart ∙ first.others file apart;
  count = counted_twice volume (file_count old Cdxj) (file_count mid Cdxj) (file_count new Cdxj) first.count second.count;
}

-- ---- a file more

pushed : (files : List (List ℕ)) (k : ℕ) → get_or (files ++ [] ∷ []) k [] ≡ get_or files k []
pushed [] zero = refl
pushed [] (suc k) = refl
pushed (f ∷ files) zero = refl
pushed (f ∷ files) (suc k) = pushed files k

more_bytes : (old : Image) (file : ℕ) → file_of (with_new old Cdxj) Cdxj file ≡ file_of old Cdxj file
unfolding file_of
more_bytes old file =
    ap (λ (files : List (List ℕ)). get_or files file []) (files_of-with_new old Cdxj) ∙ pushed (files_of old Cdxj) file

more_files : (old : Image) → file_count (with_new old Cdxj) Cdxj ≡ file_count old Cdxj + 1
more_files old = omega (arith, ap (λ (files : List (List ℕ)). length files) (files_of-with_new old Cdxj), length_push (files_of old Cdxj) [])

made_bytes : (n : ℕ) (old new : Image) → MayCreate Cdxj n old new → (file : ℕ) → file_of new Cdxj file ≡ file_of old Cdxj file
made_bytes n old new made file = ⊎_elim
    (λ same. ap (λ (i : Image). file_of i Cdxj file) same)
    (λ more. ap (λ (i : Image). file_of i Cdxj file) more.1 ∙ more_bytes old file)
    made

made_warc : (n : ℕ) (old new : Image) → MayCreate Cdxj n old new → warc_files new ≡ warc_files old
made_warc n old new made = ⊎_elim
    (λ same. ap warc_files same)
    (λ more. ap warc_files more.1 ∙ files_of-with_new_kind old Cdxj Warc (λ e. cc))
    made

made_count : (volume n : ℕ) (old new : Image) → n ≡ volume → MayCreate Cdxj n old new
    → (file_count new Cdxj ≡ file_count old Cdxj) ⊎ ((file_count old Cdxj ≡ volume) × (file_count new Cdxj ≡ volume + 1))
made_count volume n old new next made = ⊎_elim
    (λ same. inl (ap (λ (i : Image). file_count i Cdxj) same))
    (λ more. inr (more.0 ∙ next, omega (arith, ap (λ (i : Image). file_count i Cdxj) more.1, more_files old, more.0, next)))
    made

made_beside : (volume n : ℕ) (old new : Image) → n ≡ volume → MayCreate Cdxj n old new → IsBeside volume old new
made_beside volume n old new next made = record {
  warc = made_warc n old new made;
  others = λ file apart. made_bytes n old new made file;
  count = made_count volume n old new next made;
}

-- ---- a file written

wrote_beside : (volume : ℕ) (bytes : List ℕ) (old new : Image) → new ≡ with_file old Cdxj volume bytes → IsBeside volume old new
wrote_beside volume bytes old new is = record {
  warc = ap warc_files is ∙ files_of-with_file_kind old Cdxj volume bytes Warc (λ e. cc);
  others = λ file apart. ap (λ (i : Image). file_of i Cdxj file) is ∙ file_of-with_file_number old Cdxj volume bytes file apart;
  count = inl (ap (λ (i : Image). file_count i Cdxj) is ∙ file_count-with_file old Cdxj volume bytes Cdxj);
}

-- the file of a volume's checkpoint, in which anything may stand
abbrev pub gated_of : ℕ → GatedFile
gated_of volume = record { kind = Cdxj; file = volume; commit = 33; end = 0; is_dirty = true }

on_ok : {T E P Q : Type 0} (result : Result T E) → (P → Q) → OnOk result P → OnOk result Q
on_ok (Ok v) gives p = gives p
on_ok (Err e) gives p = tt

module _ {D : Type 0} (d : Ghosts D) where
  -- nothing was made
  pub makes_none : (volume : ℕ) (old new : D)
      → Elapses (d.moment old) (d.moment new) (d.images_since old) (d.images_since new) (d.images new)
      → Within (d.images old) (d.images new) → d.reading new ≡ d.reading old → Makes d volume old new
  makes_none volume old new time within same = record {
    leaves = goes_on d.moment d.images_since old old new (HasBytesOf volume (d.images old)) (d.images new)
        (none_added d.moment d.images_since old (HasBytesOf volume (d.images old))) time
        (λ i left. record { before = i; was = within i left; beside = beside_same volume i i refl; same = refl });
    reading = beside_same volume (d.reading old) (d.reading new) same;
  }

  pub makes_by : (volume : ℕ) (old mid new : D) (n : ℕ)
      → Elapses (d.moment old) (d.moment mid) (d.images_since old) (d.images_since mid) (d.images mid)
      → Within (d.images old) (d.images mid) → d.reading mid ≡ d.reading old
      → Elapses (d.moment mid) (d.moment new) (d.images_since mid) (d.images_since new) (Stepped (MayCreate Cdxj n) (d.images mid))
      → MayCreate Cdxj n (d.reading mid) (d.reading new) → n ≡ volume → Makes d volume old new
  makes_by volume old mid new n first within same time read next = record {
    leaves = goes_on d.moment d.images_since old mid new (HasBytesOf volume (d.images old)) (Stepped (MayCreate Cdxj n) (d.images mid))
        (makes_none volume old mid first within same).leaves
        time
        (λ i made. record {
          before = made.0;
          was = within made.0 made.1;
          beside = made_beside volume n made.0 i next made.2;
          same = made_bytes n made.0 i made.2 volume;
        });
    reading = beside_twice volume (d.reading old) (d.reading mid) (d.reading new) (beside_same volume (d.reading old) (d.reading mid) same) (made_beside volume n (d.reading mid) (d.reading new) next read);
  }

  module _ (volume : ℕ) (text : List ℕ) where
    own_of : (reading : Image) (bytes : List ℕ) → HoldsEither (gated_of volume) reading text bytes → IsRest 33 bytes ⊎ (bytes ≡ text)
    own_of reading bytes held = ⊎_elim
        (λ before. inl (subst (IsRest 33) (sym before.composed) before.unfinished))
        (λ after. inr after)
        held

    put_by : (reading : Image) (images : Image → Type 0) (i : Image) → IsEither (gated_of volume) reading images text i
        → HasText volume text images i
    put_by reading images i is = record {
      before = is.before;
      was = is.was;
      beside = wrote_beside volume is.bytes is.before i is.whole;
      own = inr (own_of reading (checkpoint_of i volume)
          (rewritten_has (gated_of volume) images (HoldsEither (gated_of volume) reading text) i is));
    }

    pub puts_by : (old new : D) → AddsOnly d.moment d.images_since old new (IsEither (gated_of volume) (d.reading old) (d.images old) text)
        → KeepsText (gated_of volume) (d.reading old) (d.reading new) → PutsText d volume text old new
    puts_by old new run keeps = record {
      leaves = weakened d.moment d.images_since old new (IsEither (gated_of volume) (d.reading old) (d.images old) text) (HasText volume text (d.images old))
          (λ i is. put_by (d.reading old) (d.images old) i is) run;
      reading = wrote_beside volume keeps.bytes (d.reading old) (d.reading new) keeps.whole;
    }

    pub written_by : (T E : Type 0) (result : Result T E) (old new : Image) → volume < file_count old Cdxj
        → OnOk result (new ≡ with_file old Cdxj volume (text_of (gated_of volume) old ++ text))
        → OnOk result (HasFile Cdxj volume text new)
    written_by T E result old new there added = on_ok result
        (λ is. record {
          there = omega (arith, there, ap (λ (i : Image). file_count i Cdxj) is, file_count-with_file old Cdxj volume (text_of (gated_of volume) old ++ text) Cdxj);
          same = ap (λ (i : Image). file_of i Cdxj volume) is ∙ file_of-with_file old Cdxj volume (text_of (gated_of volume) old ++ text) there;
        })
        added

    pub only_by : (T E : Type 0) (result : Result T E) (reading : Image) (images after : Image → Type 0)
        → OnOk result (Leaves after (IsAdded (gated_of volume) reading images text))
        → OnOk result (Leaves after (HasFile Cdxj volume text))
    only_by T E result reading images after only = on_ok result
        (λ all i left. record {
          there = rewritten_there (gated_of volume) images (HoldsAfter (gated_of volume) reading text) i (all i left);
          same = rewritten_has (gated_of volume) images (HoldsAfter (gated_of volume) reading text) i (all i left);
        })
        only

    alike : (images : Image → Type 0) (i : Image) → HasBytesOf volume images i → HasText volume text images i
    alike images i is = record { before = is.before; was = is.was; beside = is.beside; own = inl is.same }

    -- the file wasn't made
    pub puts_none : (old new : D) → Makes d volume old new → PutsText d volume text old new
    puts_none old new made = record {
      leaves = weakened d.moment d.images_since old new (HasBytesOf volume (d.images old)) (HasText volume text (d.images old)) (alike (d.images old)) made.leaves;
      reading = made.reading;
    }

    -- the file was made, and then written
    pub puts_after : ((disk : D) (t : ℕ) (i : Image) → t ≤ d.moment disk → d.images disk i → d.images_since disk t i)
        → ((disk : D) (i : Image) → d.images_since disk (d.moment disk) i → d.images disk i)
        → (old mid new : D) → Makes d volume old mid → PutsText d volume text mid new → PutsText d volume text old new
    puts_after counts only old mid new made put = record {
      leaves = joined d.moment d.images_since old mid new (HasText volume text (d.images old))
          (puts_none old mid made).leaves
          (weakened d.moment d.images_since mid new (HasText volume text (d.images mid)) (HasText volume text (d.images old)) (λ i is. further i is) put.leaves);
      reading = beside_twice volume (d.reading old) (d.reading mid) (d.reading new) made.reading put.reading;
    }
      where
        from_old : (i : Image) → d.images mid i → HasBytesOf volume (d.images old) i
        from_old i left = ⊎_elim
            (λ was. record { before = i; was = only old i was; beside = beside_same volume i i refl; same = refl })
            (λ is. is)
            (made.leaves.adds (d.moment old) i (omega arith) (counts mid (d.moment old) i made.leaves.later left))

        further : (i : Image) → HasText volume text (d.images mid) i → HasText volume text (d.images old) i
        further i is =
            let first = from_old is.before is.was in record {
              before = first.before;
              was = first.was;
              beside = beside_twice volume first.before is.before i first.beside is.beside;
              own = ⊎_elim (λ same. inl (same ∙ first.same)) (λ new. inr new) is.own;
            }

  -- what stood in the file was taken away
  pub puts_none_of : (volume : ℕ) (old new : D) → AddsOnly d.moment d.images_since old new (IsFinished (gated_of volume) (d.reading old) (d.images old))
      → KeepsText (gated_of volume) (d.reading old) (d.reading new) → PutsText d volume [] old new
  puts_none_of volume old new run keeps = puts_by volume [] old new
      (weakened d.moment d.images_since old new (IsFinished (gated_of volume) (d.reading old) (d.images old))
      (IsEither (gated_of volume) (d.reading old) (d.images old) [])
      (λ i is. record { before = is.before; was = is.was; there = is.there; bytes = is.bytes; described = inl is.described; whole = is.whole }) run)
      keeps
