-- What a change of the volumes, and a call that only reads, leave to be opened.
use Rattle.std.proofs.Common.{◌≡◌, ◌⊎◌, ℕ, ◌<◌, ◌≤◌, Bool, true, false, IsTrue, if◌then◌else◌, List, [], ◌∷◌, length, Some, None, Result, Ok, Err, OnOk, OnErr, IsErr, refl, sym, ap, subst, ◌∙◌, inl, inr, ⊎_elim, arith}
use Rattle.std.proofs.lemmas.Bool.{cases_lt, false≢true}
use Rattle.capture.specs.declared.book.Book.{Book}
use Rattle.capture.specs.declared.book.Volume.{Volume}
use Rattle.disk_model.specs.Image.{Image}
use Rattle.disk_model.specs.declared.disk.Disk.{Ghosts}
use Rattle.warc_journal.specs.Extents.{warc_files}
use Rattle.warc_journal.specs.Journals.{Changes, IsLeft, Rests, texts}
use Rattle.warc_journal.specs.Laws.{just_are_held}
use Rattle.warc_journal.specs.Texts.{AreJust, Hold, HoldEither}
use Rattle.warc_journal.specs.declared.journal.Journal.{Journal}
use Rattle.warc_text.proofs.BookLaws.{files_stand_for_one_book, files_stand_for_no_volume}
use Rattle.warc_text.specs.Books.{AreVolumeTexts}
use Rattle.warc_text.specs.Ids.{id_of}
use Rattle.warc_text.specs.Sound.{IsSound}
use Rattle.warc_text.specs.StandsFor.{IdsDifferIn}
use Rattle.warc_text.specs.declared.id.IdKind.TheVariants.{Response}
use Rattle.archive_shelf.specs.Openings.{HasIds, ImageStandsFor, IsState, Keeps, KeepsCheckpoints, Moves, SameBook, StaysCovered}
use Rattle.archive_volumes.specs.Volumes.{IsQuiet, IsStep, LeavesJust, Makes, OpensNear, crash_of, muted}

-- ---- a book by what stands for it

pub no_volumes_by : (volumes : List Volume) → length volumes ≡ 0 → volumes ≡ []
no_volumes_by [] is = refl
no_volumes_by (v ∷ vs) is = absurd (omega (arith, is))

pub one_with : (image : Image) (x a : Book) → ImageStandsFor image x → ImageStandsFor image a → IdsDifferIn a → 0 < length a.volumes → x ≡ a
one_with image x a for for_a ids some =
    sym (files_stand_for_one_book (warc_files image) a x for_a.sound for.sound ids for_a.for for.for some)

pub one_of : (image : Image) (x a : Book) → ImageStandsFor image x → ImageStandsFor image a → IdsDifferIn a → SameBook x a
one_of image x a for for_a ids = ⊎_elim
    (λ (some : 0 < length a.volumes). inl (one_with image x a for for_a ids some))
    (λ (none : length a.volumes ≤ 0).
    let is : length a.volumes ≡ 0 = omega (arith, none) in
    inr (no_volumes_by x.volumes (files_stand_for_no_volume (warc_files image) a x for_a.for for.for is), no_volumes_by a.volumes is))
    (cases_lt 0 (length a.volumes))

ids_before : (before : Book) → HasIds before → IdsDifferIn before
ids_before before ids m n less less₂ e = ids m n (omega (arith, less)) (omega (arith, less₂)) e

ids_after : (before after : Book) → IsStep before after → HasIds before → IdsDifferIn after
ids_after before after step ids m n less less₂ e =
    ids m n (omega (arith, less, step.count)) (omega (arith, less₂, step.count))
    (subst (λ (ns : List ℕ). id_of ns Response m ≡ id_of ns Response n) step.namespace e)

-- texts that files hold
pub stands : (book : Book) (texts : List (List ℕ)) (image : Image) → AreVolumeTexts book texts → IsSound book → Hold texts (warc_files image)
    → ImageStandsFor image book
stands book texts image are sound held = record { for = record { texts = texts; are = are; held = held }; sound = sound }

-- ---- time

pub moment_told : {D : Type 0} (d : Ghosts D) (disk : D) → IsTrue d.tells → (crash_of d disk).moment ≡ d.moment disk
moment_told d disk told = ap (λ (b : Bool). if b then d.moment disk else 0) told

later_by : {D : Type 0} (d : Ghosts D) (old new : D) (b : Bool) → (IsTrue b → d.moment old ≤ d.moment new)
    → (if b then d.moment old else 0) ≤ (if b then d.moment new else 0)
later_by d old new true later = later refl
later_by d old new false later = omega arith

-- what is asked of a disk
pub record DiskLaws {D : Type 0} (d : Ghosts D) : Type 0 where
  pub earlier : (disk : D) (t s : ℕ) (image : Image) → t ≤ s → d.images_since disk s image → d.images_since disk t image
  pub now_counts : (disk : D) (t : ℕ) (image : Image) → t ≤ d.moment disk → d.images disk image → d.images_since disk t image
  pub now_only : (disk : D) (image : Image) → d.images_since disk (d.moment disk) image → d.images disk image

-- it is asked as well of the disk of which this is told
pub laws_muted : {D : Type 0} (d : Ghosts D) (told : Bool) → DiskLaws d → DiskLaws (muted told d)
laws_muted d told laws = record { earlier = laws.earlier; now_counts = laws.now_counts; now_only = laws.now_only }

module _ {D : Type 0} (d : Ghosts D) (laws : DiskLaws d) where
  -- what may be opened now, an image now stands for
  pub now_image : (disk : D) (x : Book) (o : (crash_of d disk).openings (crash_of d disk).moment x) → d.images disk o.1
  now_image disk x o =
      laws.now_only disk o.1 (subst (λ (t : ℕ). d.images_since disk t o.1) (moment_told d disk o.0) o.2)

  -- what an image now stands for may be opened now
  pub opens_now : (disk : D) (x : Book) (image : Image) → IsTrue d.tells → d.images disk image → ImageStandsFor image x → (crash_of d disk).openings (crash_of d disk).moment x
  opens_now disk x image told now stands_for = (
    told,
    image,
    laws.now_counts disk (crash_of d disk).moment image (omega (arith, moment_told d disk told)) now,
    stands_for,
  )

  -- ---- a call that only reads

  pub quiet_by : (old new : D) → (IsTrue d.tells → Rests d old new) → IsQuiet d old new
  quiet_by old new rests = record {
    later = later_by d old new d.tells (λ told. (rests told).leaves.later);
    moves = λ t x le o. inl (
      o.0,
      o.1,
      ⊎_elim (λ was. was) (λ none. absurd none)
          ((rests o.0).leaves.adds t o.1 (omega (arith, le, moment_told d old o.0)) o.2),
      o.3,
    );
    covered = λ t le all told image left. all told image
        (⊎_elim (λ was. was) (λ none. absurd none) ((rests told).leaves.adds t image (omega (arith, le, moment_told d old told)) left));
    kept = λ files has. (has.0, has.1, (rests has.0).crash has.1 has.2, has.3);
  }

  pub near_stays : (old new : D) (book : Book) → Rests d old new → OpensNear d old book → OpensNear d new book
  near_stays old new book rests near image now = near image (rests.crash image now)

  -- ---- one change

  module _ {T E : Type 0} (old new : Journal D) (before after : Book) (texts_after : List (List ℕ)) (result : Result T E)
      (change : IsTrue d.tells → Changes d old new texts_after result)
      (are : IsTrue d.tells → AreVolumeTexts before (texts d old)) (will_be : IsTrue d.tells → AreVolumeTexts after texts_after)
      (sound : IsTrue d.tells → IsSound before) (stays_sound : IsTrue d.tells → IsSound after) (step : IsStep before after) where
    -- an image that holds the texts before or after
    fors : IsTrue d.tells → (image : Image) → IsLeft (d.images old.disk) (HoldEither (texts d old) texts_after) image
        → ImageStandsFor image before ⊎ ImageStandsFor image after
    fors told image left = ⊎_elim
        (λ (held : Hold (texts d old) (warc_files image)). inl (stands before (texts d old) image (are told) (sound told) held))
        (λ (held : Hold texts_after (warc_files image)). inr (stands after texts_after image (will_be told) (stays_sound told) held))
        left.described

    either : HasIds before → (image : Image) (x : Book) → ImageStandsFor image x → ImageStandsFor image before ⊎ ImageStandsFor image after
        → SameBook x before ⊎ (x ≡ after)
    either ids image x for which = ⊎_elim
        (λ (for_b : ImageStandsFor image before). inl (one_of image x before for for_b (ids_before before ids)))
        (λ (for_a : ImageStandsFor image after). inr (one_with image x after for for_a (ids_after before after step ids) step.some))
        which

    moved : HasIds before → Moves (crash_of d old.disk) (crash_of d new.disk) (λ x. SameBook x before ⊎ (x ≡ after))
    moved ids t x le o = ⊎_elim
        (λ (was : d.images_since old.disk t o.1). inl (o.0, o.1, was, o.3))
        (λ (left : IsLeft (d.images old.disk) (HoldEither (texts d old) texts_after) o.1).
        inr (either ids o.1 x o.3 (fors o.0 o.1 left)))
        ((change o.0).leaves.adds t o.1 (omega (arith, le, moment_told d old.disk o.0)) o.2)

    covered_on : StaysCovered (crash_of d old.disk) (crash_of d new.disk)
    covered_on t le all told image left = ⊎_elim
        (λ (was : d.images_since old.disk t image). all told image was)
        (λ (is_left : IsLeft (d.images old.disk) (HoldEither (texts d old) texts_after) image). ⊎_elim
        (λ (for_b : ImageStandsFor image before). (before, for_b))
        (λ (for_a : ImageStandsFor image after). (after, for_a))
        (fors told image is_left))
        ((change told).leaves.adds t image (omega (arith, le, moment_told d old.disk told)) left)

    -- an image now is one from before, or stands for the book before or after
    now_by : IsTrue d.tells → (image : Image) → d.images new.disk image
        → d.images old.disk image ⊎ (ImageStandsFor image before ⊎ ImageStandsFor image after)
    now_by told image now =
        let made = change told in ⊎_elim
        (λ (was : d.images_since old.disk (d.moment old.disk) image). inl (laws.now_only old.disk image was))
        (λ (left : IsLeft (d.images old.disk) (HoldEither (texts d old) texts_after) image). inr (fors told image left))
        (made.leaves.adds (d.moment old.disk) image (omega arith)
        (laws.now_counts new.disk (d.moment old.disk) image made.leaves.later now))

    -- refused, an image stands for a book next to the one before
    pub near_refused : IsTrue d.tells → OpensNear d old.disk before → OpensNear d new.disk before
    near_refused told near image now = ⊎_elim
        (λ (was : d.images old.disk image). near image was)
        (λ (which : ImageStandsFor image before ⊎ ImageStandsFor image after). ⊎_elim
        (λ (for_b : ImageStandsFor image before). (before, for_b, record { room = before; roomy = inl (inl refl); is = inl (inl refl) }))
        (λ (for_a : ImageStandsFor image after). (after, for_a, step.next))
        which)
        (now_by told image now)

    -- made, an image stands for the book after
    for_after : IsTrue d.tells → (image : Image) → IsLeft (d.images old.disk) (AreJust texts_after) image → ImageStandsFor image after
    for_after told image left =
        stands after texts_after image (will_be told) (stays_sound told) (just_are_held texts_after (warc_files image) left.described)

    only_by : HasIds before → (r : Result T E) → (IsTrue d.tells → OnOk r ((image : Image) → d.images new.disk image → IsLeft (d.images old.disk) (AreJust texts_after) image))
        → OnOk r (IsState (crash_of d new.disk) after None)
    only_by ids (Ok v) only = λ x o. inl (inl (one_with o.1 x after o.3
        (for_after o.0 o.1 (only o.0 o.1 (now_image new.disk x o))) (ids_after before after step ids) step.some))
    only_by ids (Err e) only = tt

    refused_told : HasIds before → IsTrue d.tells
        → ((image : Image) → d.images new.disk image → d.images old.disk image ⊎ IsLeft (d.images old.disk) (Hold (texts d old)) image)
        ⊎ ((image : Image) → d.images new.disk image → IsLeft (d.images old.disk) (HoldEither (texts d old) texts_after) image)
        → Keeps (crash_of d old.disk) (crash_of d new.disk) before ⊎ IsState (crash_of d new.disk) before (Some after)
    refused_told ids told (inl kept) = inl (λ x o. ⊎_elim
        (λ (was : d.images old.disk o.1). inl (opens_now old.disk x o.1 told was o.3))
        (λ (left : IsLeft (d.images old.disk) (Hold (texts d old)) o.1).
        inr (one_of o.1 x before o.3 (stands before (texts d old) o.1 (are told) (sound told) left.described) (ids_before before ids)))
        (kept o.1 (now_image new.disk x o)))
    refused_told ids told (inr left) = inr (λ x o. ⊎_elim
        (λ (same : SameBook x before). inl same)
        (λ (is : x ≡ after). inr (ap Some (sym is)))
        (either ids o.1 x o.3 (fors told o.1 (left o.1 (now_image new.disk x o)))))

    refused_by : HasIds before → (b : Bool) → b ≡ d.tells → (r : Result T E)
        → (IsTrue d.tells → OnErr r
        (((image : Image) → d.images new.disk image → d.images old.disk image ⊎ IsLeft (d.images old.disk) (Hold (texts d old)) image)
        ⊎ ((image : Image) → d.images new.disk image → IsLeft (d.images old.disk) (HoldEither (texts d old) texts_after) image)))
        → OnErr r (Keeps (crash_of d old.disk) (crash_of d new.disk) before ⊎ IsState (crash_of d new.disk) before (Some after))
    refused_by ids b at (Ok v) refused = tt
    refused_by ids false at (Err e) refused = inl (λ x o. absurd (false≢true (at ∙ o.0)))
    refused_by ids true at (Err e) refused = refused_told ids (sym at) (refused (sym at))

    -- an image now has the checkpoints of one from before
    kept_on : KeepsCheckpoints (crash_of d old.disk) (crash_of d new.disk)
    kept_on files has =
        let made = change has.0 in ⊎_elim
        (λ (was : d.images_since old.disk (d.moment old.disk) has.1).
        (has.0, has.1, laws.now_only old.disk has.1 was, has.3))
        (λ (left : IsLeft (d.images old.disk) (HoldEither (texts d old) texts_after) has.1).
        (has.0, left.before, left.was, sym left.others ∙ has.3))
        (made.leaves.adds (d.moment old.disk) has.1 (omega arith)
        (laws.now_counts new.disk (d.moment old.disk) has.1 made.leaves.later has.2))

    just_by : (r : Result T E) → (IsTrue d.tells → OnOk r ((image : Image) → d.images new.disk image → IsLeft (d.images old.disk) (AreJust texts_after) image))
        → OnOk r (LeavesJust d new.disk after)
    just_by (Ok v) only = λ told image now. (texts_after, will_be told, (only told image now).described)
    just_by (Err e) only = tt

    pub makes : Makes d old.disk new.disk before after result
    makes = record {
      later = later_by d old.disk new.disk d.tells (λ told. (change told).leaves.later);
      moves = moved;
      only = λ ids. only_by ids result (λ told. (change told).only);
      refused = λ ids. refused_by ids d.tells refl result (λ told. (change told).refused);
      covered = covered_on;
      kept = kept_on;
      just = just_by result (λ told. (change told).only);
    }

  -- once it is made, each image is next to the book after
  pub near_made : (old new : D) (after : Book) (texts_after : List (List ℕ)) → AreVolumeTexts after texts_after → IsSound after
      → ((image : Image) → d.images new image → IsLeft (d.images old) (AreJust texts_after) image) → OpensNear d new after
  near_made old new after texts_after will_be sound only image now = (
    after,
    stands after texts_after image will_be sound (just_are_held texts_after (warc_files image) (only image now).described),
    record { room = after; roomy = inl (inl refl); is = inl (inl refl) },
  )

-- a refusal is handed out as another one
pub refused_on : {D T E S F : Type 0} (d : Ghosts D) (old new : D) (before after : Book) (result : Result T E) (answer : Result S F)
    → IsErr result → IsErr answer → Makes d old new before after result → Makes d old new before after answer
refused_on d old new before after (Ok v) answer failed failed₂ made = absurd (false≢true failed)
refused_on d old new before after (Err e) (Ok v) failed failed₂ made = absurd (false≢true failed₂)
refused_on d old new before after (Err e) (Err f) failed failed₂ made = record {
  later = made.later;
  moves = made.moves;
  only = λ ids. tt;
  refused = made.refused;
  covered = made.covered;
  kept = made.kept;
  just = tt;
}
