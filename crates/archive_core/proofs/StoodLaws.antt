-- What stood finished in an archive's volumes stays through each call.
use Rattle.std.proofs.Common.{◌≡◌, ◌⊎◌, ℕ, ◌+◌, ◌<◌, ◌≤◌, Bool, true, false, IsTrue, List, [], length, Option, None, Result, Ok, Err, OnOk, OnErr, sym, ap, subst, ◌∙◌, ⊎_elim, arith}
use Rattle.std.specs.Prelude.{slice_index_or}
use Rattle.std.proofs.lemmas.Bool.{cases_lt}
use Rattle.std.proofs.lemmas.List.{append-nil}
use Rattle.disk_model.specs.Image.{Image}
use Rattle.disk_model.specs.Moments.{AddsOnly}
use Rattle.disk_model.specs.declared.disk.Disk.{Ghosts}
use Rattle.warc_journal.specs.Extents.{warc_files}
use Rattle.warc_journal.specs.Journals.{IsLeft, Rests, disk_of, extent_of, texts}
use Rattle.warc_journal.specs.Texts.{Hold}
use Rattle.warc_journal.specs.declared.journal.Journal.{Journal}
use Rattle.archive_shelf.proofs.CallLaws.{begins_both}
use Rattle.archive_volumes.proofs.ChangeLaws.{DiskLaws}
use Rattle.archive_volumes.proofs.SpotLaws.{GoOn}
use Rattle.archive_volumes.proofs.VolumeLaws.{texts_rest}
use Rattle.archive_volumes.specs.Written.{HoldOneOf, WritesTexts, texts_as}
use Rattle.archive_core.specs.Holdings.{Holdings}
use Rattle.archive_core.specs.Looking.{OnlyLooks}
use Rattle.archive_core.specs.Stood.{BeginWith, KeepsStood, Lasts, Stood}
use Rattle.archive_core.proofs.TextLaws.{texts_stay}

-- ---- texts and files

pub begin_on : (was now : List (List ℕ)) → GoOn was now → BeginWith was now
begin_on was now on = record { enough = on.count; each = λ k less. record { rest = on.rest k; joined = on.each k less } }

pub begin_itself : (all : List (List ℕ)) → BeginWith all all
begin_itself all = begin_on all all (texts_stay all)

pub begin_both : (first then last : List (List ℕ)) → BeginWith first then → BeginWith then last → BeginWith first last
begin_both first then last a b = record {
  enough = omega (arith, a.enough, b.enough);
  each = λ k less.
      begins_both (slice_index_or first k []) (slice_index_or then k []) (slice_index_or last k []) (a.each k less) (b.each k (omega (arith, less, a.enough)));
}

pub begin_held : (all files : List (List ℕ)) → Hold all files → BeginWith all files
begin_held all files held = record {
  enough = held.enough;
  each = λ k less. ⊎_elim
      (λ (before : k + 1 < length all). record { rest = []; joined = held.sealed k before ∙ sym (append-nil (slice_index_or all k [])) })
      (λ (last : length all ≤ k + 1).
      let holds = held.last k (omega (arith, less, last)) in
      record { rest = holds.rest; joined = holds.composed })
      (cases_lt (k + 1) (length all));
}

-- ---- calls

module _ {D : Type 0} (d : Ghosts D) (laws : DiskLaws d) (stood : Stood) where
  -- a run that adds such images alone
  pub lasts_by : (old new : D) (P : Image → Type 0) → Lasts d stood old → AddsOnly d.moment d.images_since old new P
      → ((image : Image) → P image → BeginWith stood.finished (warc_files image)) → Lasts d stood new
  lasts_by old new P lasts run gives = record {
    later = omega (arith, lasts.later, run.later);
    images = λ image left. ⊎_elim (λ was. lasts.images image was) (λ has. gives image has) (run.adds stood.moment image lasts.later left);
  }

  -- a call that only reads
  pub keeps_rests : (old new : Journal D) → KeepsStood d stood old → Rests d (disk_of old) (disk_of new) → extent_of new ≡ extent_of old → KeepsStood d stood new
  keeps_rests old new keeps rests extent = record {
    lasts = lasts_by (disk_of old) (disk_of new) (λ image. ⊥) keeps.lasts rests.leaves (λ image none. absurd none);
    begins = subst (BeginWith stood.finished) (sym (texts_rest d old new rests extent)) keeps.begins;
  }

  pub keeps_looks : (was is : Holdings D) → IsTrue d.tells → OnlyLooks d was is → KeepsStood d stood was.journal → KeepsStood d stood is.journal
  keeps_looks was is tells looks keeps = keeps_rests was.journal is.journal keeps (looks.bytes tells) looks.extent

  -- a capture is written, behind a volume that is begun or not, or refused
  module _ (old new : Journal D) (room after : List (List ℕ)) (roomy : BeginWith (texts d old) room) (more : BeginWith room after) where
    with_after : BeginWith (texts d old) after
    with_after = begin_both (texts d old) room after roomy more

    pub keeps_writes : {T E : Type 0} (result : Result T E) → KeepsStood d stood old → WritesTexts d old new (texts_as room after) result → KeepsStood d stood new
    keeps_writes {T} {E} result keeps wrote = record {
      lasts = lasts_by (disk_of old) (disk_of new) (IsLeft (d.images (disk_of old)) (HoldOneOf (texts d old) room after)) keeps.lasts wrote.leaves
          (λ image left. ⊎_elim
          (λ (before : Hold (texts d old) (warc_files image)). behind (texts d old) (begin_itself (texts d old)) (warc_files image) before)
          (λ held. ⊎_elim
          (λ (roomed : Hold room (warc_files image)). behind room roomy (warc_files image) roomed)
          (λ (then : Hold after (warc_files image)). behind after with_after (warc_files image) then)
          held)
          left.described);
      begins = begin_both stood.finished (texts d old) (texts d new) keeps.begins (read result wrote.added wrote.stays);
    }
      where
        behind : (all : List (List ℕ)) → BeginWith (texts d old) all → (files : List (List ℕ)) → Hold all files → BeginWith stood.finished files
        behind all on files held =
            begin_both stood.finished (texts d old) files keeps.begins (begin_both (texts d old) all files on (begin_held all files held))

        read : (r : Result T E) → OnOk r (texts d new ≡ after) → OnErr r ((texts d new ≡ texts d old) ⊎ (texts d new ≡ room)) → BeginWith (texts d old) (texts d new)
        read (Ok v) added stays = subst (BeginWith (texts d old)) (sym added) with_after
        read (Err e) added stays = ⊎_elim
            (λ (same : texts d new ≡ texts d old). subst (BeginWith (texts d old)) (sym same) (begin_itself (texts d old)))
            (λ (is_room : texts d new ≡ room). subst (BeginWith (texts d old)) (sym is_room) roomy)
            stays
