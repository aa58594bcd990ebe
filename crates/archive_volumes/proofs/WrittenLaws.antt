-- What writing a capture leaves of the volumes' files, by what the journal leaves of its texts.
use Rattle.std.proofs.Common.{◌≡◌, ◌⊎◌, List, ℕ, Result, Ok, Err, OnOk, OnErr, IsErr, refl, ap, subst, ◌∙◌, inl, inr, ⊎_elim, arith}
use Rattle.std.proofs.lemmas.Bool.{false≢true}
use Rattle.disk_model.proofs.MomentLaws.{joined, none_added, weakened}
use Rattle.disk_model.specs.Crash.{Leaves}
use Rattle.disk_model.specs.Image.{Image}
use Rattle.disk_model.specs.declared.disk.Disk.{Ghosts}
use Rattle.warc_journal.specs.Extents.{warc_files}
use Rattle.warc_journal.specs.Journals.{Changes, IsLeft, Rests, disk_of, texts}
use Rattle.warc_journal.specs.Laws.{just_are_held}
use Rattle.warc_journal.specs.Texts.{AreJust, Hold, HoldEither, with_more}
use Rattle.warc_journal.specs.declared.journal.Journal.{Journal}
use Rattle.archive_volumes.specs.Written.{HoldOneOf, WritesTexts, texts_as}

-- ---- answers that are handed out

-- a refusal is handed out as another one
pub change_refused : {D T E S F : Type 0} (d : Ghosts D) (old new : Journal D) (after : List (List ℕ)) (fault : E) (answer : Result S F) → IsErr answer
    → Changes {T = T} d old new after (Err fault) → Changes d old new after answer
change_refused d old new after fault (Ok v) failed change = absurd (false≢true failed)
change_refused d old new after fault (Err f) failed change = record {
  leaves = change.leaves;
  added = tt;
  only = tt;
  stays = change.stays;
  refused = change.refused;
  others = change.others;
}

pub texts_refused : {D T E S F : Type 0} (d : Ghosts D) (old new : Journal D) (room after : List (List ℕ)) (fault : E) (answer : Result S F) → IsErr answer
    → WritesTexts {T = T} d old new (texts_as room after) (Err fault) → WritesTexts d old new (texts_as room after) answer
texts_refused d old new room after fault (Ok v) failed wrote = absurd (false≢true failed)
texts_refused d old new room after fault (Err f) failed wrote = record {
  leaves = wrote.leaves;
  only = tt;
  added = tt;
  stays = wrote.stays;
  refused = wrote.refused;
}

-- and what was done as what was done
pub texts_done : {D T E S F : Type 0} (d : Ghosts D) (old new : Journal D) (room after : List (List ℕ)) (value : T) (done : S)
    → WritesTexts {E = E} d old new (texts_as room after) (Ok value) → WritesTexts {E = F} d old new (texts_as room after) (Ok done)
texts_done d old new room after value done wrote = record { leaves = wrote.leaves; only = wrote.only; added = wrote.added; stays = tt; refused = tt }

pub change_done : {D T E S F : Type 0} (d : Ghosts D) (old new : Journal D) (after : List (List ℕ)) (value : T) (done : S)
    → Changes {E = E} d old new after (Ok value) → Changes {E = F} d old new after (Ok done)
change_done d old new after value done change = record {
  leaves = change.leaves;
  added = change.added;
  only = change.only;
  stays = tt;
  refused = tt;
  others = change.others;
}

-- ---- the ways

on_ok : {T E A B : Type 0} (result : Result T E) → (A → B) → OnOk result A → OnOk result B
on_ok (Ok v) go on = go on
on_ok (Err e) go on = tt

on_err : {T E A B : Type 0} (result : Result T E) → (A → B) → OnErr result A → OnErr result B
on_err (Ok v) go on = tt
on_err (Err e) go on = go on

module _ {D : Type 0} (d : Ghosts D) (old : Journal D) where
  -- an image with other texts
  left_as : (P Q : List (List ℕ) → Type 0) → ((files : List (List ℕ)) → P files → Q files) → (image : Image) → IsLeft (d.images (disk_of old)) P image
      → IsLeft (d.images (disk_of old)) Q image
  left_as P Q gives image left = record { before = left.before; was = left.was; others = left.others; described = gives (warc_files image) left.described }

  -- there is room for the capture
  pub texts_at : {T E : Type 0} (new : Journal D) (after : List (List ℕ)) (result : Result T E) → Changes d old new after result
      → WritesTexts d old new (texts_as (texts d old) after) result
  texts_at new after result change = record {
    leaves = weakened d.moment d.images_since (disk_of old) (disk_of new) (IsLeft (d.images (disk_of old)) (HoldEither (texts d old) after))
        (IsLeft (d.images (disk_of old)) (HoldOneOf (texts d old) (texts d old) after))
        (left_as (HoldEither (texts d old) after) (HoldOneOf (texts d old) (texts d old) after)
        (λ files held. ⊎_elim (λ (before : Hold (texts d old) files). inl before) (λ (then : Hold after files). inr (inr then)) held))
        change.leaves;
    only = change.only;
    added = change.added;
    stays = on_err result (λ (same : texts d new ≡ texts d old). inl same) change.stays;
    refused = on_err result (λ (same : texts d new ≡ texts d old). inl same) change.stays;
  }

  -- the volume is refused
  pub texts_none : {T E S F : Type 0} (new : Journal D) (room after : List (List ℕ)) (fault : E) (answer : Result S F) → IsErr answer
      → Changes {T = T} d old new room (Err fault) → WritesTexts d old new (texts_as room after) answer
  texts_none new room after fault (Ok v) failed change = absurd (false≢true failed)
  texts_none new room after fault (Err f) failed change = record {
    leaves = weakened d.moment d.images_since (disk_of old) (disk_of new) (IsLeft (d.images (disk_of old)) (HoldEither (texts d old) room))
        (IsLeft (d.images (disk_of old)) (HoldOneOf (texts d old) room after))
        (left_as (HoldEither (texts d old) room) (HoldOneOf (texts d old) room after)
        (λ files held. ⊎_elim (λ (before : Hold (texts d old) files). inl before) (λ (roomy : Hold room files). inr (inl roomy)) held))
        change.leaves;
    only = tt;
    added = tt;
    stays = inl change.stays;
    refused = inl change.stays;
  }

  -- a volume is begun, and then the capture is added or refused
  module _ {T E S F : Type 0} (mid new : Journal D) (room : List (List ℕ)) (group : List ℕ) (value : T) (result : Result S F)
      (first : Changes {E = E} d old mid room (Ok value)) (second : Changes d mid new (with_more (texts d mid) group) result) where
    abbrev after : List (List ℕ)
    after = with_more room group

    -- what an image of the disk on the way leaves
    from_mid : (P Q : List (List ℕ) → Type 0) → ((files : List (List ℕ)) → P files → Q files) → (image : Image) → IsLeft (d.images (disk_of mid)) P image
        → IsLeft (d.images (disk_of old)) Q image
    from_mid P Q gives image left =
        let then = first.only left.before left.was in
        record { before = then.before; was = then.was; others = left.others ∙ then.others; described = gives (warc_files image) left.described }

    more_same : with_more (texts d mid) group ≡ after
    more_same = ap (λ (all : List (List ℕ)). with_more all group) first.added

    roomed : (files : List (List ℕ)) → Hold (texts d mid) files → HoldEither room after files
    roomed files held = inl (subst (λ (all : List (List ℕ)). Hold all files) first.added held)

    -- where the capture is refused, there is room for it in each image
    has_room : (image : Image)
        → d.images (disk_of mid) image ⊎ IsLeft (d.images (disk_of mid)) (Hold (texts d mid)) image → HoldEither room after (warc_files image)
    has_room image left = ⊎_elim
        (λ (was : d.images (disk_of mid) image). inl (just_are_held room (warc_files image) (first.only image was).described))
        (λ (is : IsLeft (d.images (disk_of mid)) (Hold (texts d mid)) image). roomed (warc_files image) is.described)
        left

    has_either : (image : Image) → IsLeft (d.images (disk_of mid)) (HoldEither (texts d mid) (with_more (texts d mid) group)) image
        → HoldEither room after (warc_files image)
    has_either image left = ⊎_elim
        (λ (r : Hold (texts d mid) (warc_files image)). roomed (warc_files image) r)
        (λ (a : Hold (with_more (texts d mid) group) (warc_files image)).
        inr (subst (λ (all : List (List ℕ)). Hold all (warc_files image)) more_same a))
        left.described

    pub texts_behind : WritesTexts d old new (texts_as room after) result
    texts_behind = record {
      leaves = record {
        later = omega (arith, first.leaves.later, second.leaves.later);
        adds = λ t image le left. ⊎_elim
            (λ (was : d.images_since (disk_of mid) t image). ⊎_elim
            (λ (before : d.images_since (disk_of old) t image). inl before)
            (λ (is : IsLeft (d.images (disk_of old)) (HoldEither (texts d old) room) image).
            inr (left_as (HoldEither (texts d old) room) (HoldOneOf (texts d old) room after)
            (λ files held. ⊎_elim (λ (b : Hold (texts d old) files). inl b) (λ (r : Hold room files). inr (inl r)) held) image is))
            (first.leaves.adds t image le was))
            (λ (is : IsLeft (d.images (disk_of mid)) (HoldEither (texts d mid) (with_more (texts d mid) group)) image).
            inr (from_mid (HoldEither (texts d mid) (with_more (texts d mid) group)) (HoldOneOf (texts d old) room after)
            (λ files held. inr (⊎_elim
            (λ (r : Hold (texts d mid) files). inl (subst (λ (all : List (List ℕ)). Hold all files) first.added r))
            (λ (a : Hold (with_more (texts d mid) group) files). inr (subst (λ (all : List (List ℕ)). Hold all files) more_same a))
            held)) image is))
            (second.leaves.adds t image (omega (arith, le, first.leaves.later)) left);
      };
      only = on_ok result
          (λ (leaves : Leaves (d.images (disk_of new)) (IsLeft (d.images (disk_of mid)) (AreJust (with_more (texts d mid) group)))). λ image now.
          from_mid (AreJust (with_more (texts d mid) group)) (AreJust after)
          (λ files just. subst (λ (all : List (List ℕ)). AreJust all files) more_same just) image (leaves image now))
          second.only;
      added = on_ok result (λ (same : texts d new ≡ with_more (texts d mid) group). same ∙ more_same) second.added;
      stays = on_err result (λ (same : texts d new ≡ texts d mid). inr (same ∙ first.added)) second.stays;
      refused = on_err result
          (λ (left : Leaves (d.images (disk_of new)) (λ image. d.images (disk_of mid) image ⊎ IsLeft (d.images (disk_of mid)) (Hold (texts d mid)) image)
          ⊎ Leaves (d.images (disk_of new)) (IsLeft (d.images (disk_of mid)) (HoldEither (texts d mid) (with_more (texts d mid) group)))).
          inr (λ image now. ⊎_elim (λ old_or_room. has_room image (old_or_room image now)) (λ either. has_either image (either image now)) left))
          second.refused;
    }

-- ---- behind a call that only reads

pub rests_itself : {D : Type 0} (d : Ghosts D) (disk : D) → Rests d disk disk
rests_itself d disk = record {
  read = refl;
  crash = λ image now. now;
  leaves = none_added d.moment d.images_since disk (λ image. ⊥);
}

pub rests_on : {D : Type 0} (d : Ghosts D) (old mid new : D) → Rests d old mid → Rests d mid new → Rests d old new
rests_on d old mid new first second = record {
  read = second.read ∙ first.read;
  crash = λ image now. first.crash image (second.crash image now);
  leaves = joined d.moment d.images_since old mid new (λ image. ⊥) first.leaves second.leaves;
}

pub texts_since : {D T E : Type 0} (d : Ghosts D) (old mid new : Journal D) (room after : List (List ℕ)) (result : Result T E)
    → Rests d (disk_of old) (disk_of mid) → texts d mid ≡ texts d old → WritesTexts d mid new (texts_as room after) result → WritesTexts d old new (texts_as room after) result
texts_since d old mid new room after result rests same wrote = record {
  leaves = record {
    later = omega (arith, rests.leaves.later, wrote.leaves.later);
    adds = λ t image le left. ⊎_elim
        (λ (was : d.images_since (disk_of mid) t image). ⊎_elim
        (λ (before : d.images_since (disk_of old) t image). inl before)
        (λ none. absurd none)
        (rests.leaves.adds t image le was))
        (λ (is : IsLeft (d.images (disk_of mid)) (HoldOneOf (texts d mid) room after) image). inr (record {
          before = is.before;
          was = rests.crash is.before is.was;
          others = is.others;
          described = subst (λ (all : List (List ℕ)). HoldOneOf all room after (warc_files image)) same is.described;
        }))
        (wrote.leaves.adds t image (omega (arith, le, rests.leaves.later)) left);
  };
  only = on_ok result
      (λ (leaves : Leaves (d.images (disk_of new)) (IsLeft (d.images (disk_of mid)) (AreJust after))). λ image now.
      let is = leaves image now in
      record { before = is.before; was = rests.crash is.before is.was; others = is.others; described = is.described })
      wrote.only;
  added = wrote.added;
  stays = on_err result
      (λ (left : (texts d new ≡ texts d mid) ⊎ (texts d new ≡ room)). ⊎_elim
      (λ (stayed : texts d new ≡ texts d mid). inl (stayed ∙ same))
      (λ (roomy : texts d new ≡ room). inr roomy)
      left)
      wrote.stays;
  refused = on_err result
      (λ (left : (texts d new ≡ texts d mid) ⊎ Leaves (d.images (disk_of new)) (λ image. HoldEither room after (warc_files image))). ⊎_elim
      (λ (stayed : texts d new ≡ texts d mid). inl (stayed ∙ same))
      (λ leaves. inr leaves)
      left)
      wrote.refused;
}
