-- What an archive promises where checkpoints are written is the machine's step.
use Rattle.std.proofs.Common.{length, ◌≡◌, ℕ, ◌-◌, ◌<◌, true, IsTrue, List, [], get_or, Result, Ok, Err, refl, sym, ap, subst, ◌∙◌, inl, ⊎_elim, arith}
use Rattle.std.specs.Prelude.{IfOk, OnOk}
use Rattle.capture.specs.declared.book.Book.{Book}
use Rattle.capture.specs.declared.limits.Limits.{Limits}
use Rattle.cdxj_line.specs.declared.line.Line.{Line}
use Rattle.disk_model.specs.Image.{Image}
use Rattle.disk_model.specs.declared.disk.Disk.{Ghosts}
use Rattle.warc_journal.specs.Extents.{cdxj_files}
use Rattle.warc_journal.specs.Journals.{disk_of}
use Rattle.checkpoint.specs.Checkpoints.{IsCheckpoint}
use Rattle.checkpoint.specs.OfVolume.{VolumesHaveOneListOfLines}
use Rattle.checkpoint.specs.declared.fault.CheckpointFault.{CheckpointFault}
use Rattle.archive_shelf.specs.Openings.{IsEarlier, Keeps}
use Rattle.archive_shelf.specs.Told.{ShowsItsBook}
use Rattle.archive_settling.specs.Finished.{HasCheckpoint, FirstAreFinished}
use Rattle.archive_core.specs.Holdings.{Holdings}
use Rattle.archive_core.specs.Settling.{SettlesOn}
use Rattle.archive_settling.specs.Settling.{HasWithout, KeepsSettled, Shelved, reach}
use Rattle.archive_core.specs.Told.{told_of}
use Rattle.archive_settling.specs.Supplying.{HasSupplied, shelved_as}
use Rattle.event_core.proofs.ImageLaws.{count_files, file_at, finished_of, finished_sealed, right_files, right_image}
use Rattle.event_core.proofs.StandLaws.{kept_state}
use Rattle.event_core.proofs.TallyLaws.{counted_may, least_may, open_tallied, open_tally, settled_tallied, settled_tally}
use Rattle.event_core.specs.Events.{settle_reply}
use Rattle.event_core.specs.Machine.{sealed}
use Rattle.event_core.specs.declared.event.Event.TheVariants as events
use Rattle.event_core.specs.steps.Standing.{Answers, AreRight, HasFinished, IsTallied, Standing, Stands, Tally}

-- what is asked of the laws and of the disk
pub record Basis {D : Type 0} (d : Ghosts D) (was is : Holdings D) : Type 0 where
  pub one : VolumesHaveOneListOfLines
  pub stays : KeepsSettled
  pub earlier : IsEarlier (told_of d is).crash
  pub reads : IsTrue d.tells → d.images (disk_of was.journal) (d.reading (disk_of was.journal))
  pub reads_new : IsTrue d.tells → d.images (disk_of is.journal) (d.reading (disk_of is.journal))
  pub tells : IsTrue is.told → IsTrue d.tells
  pub shows : ShowsItsBook true (told_of d is)

module _ {D : Type 0} (d : Ghosts D) (was is : Holdings D) (result : Result ℕ CheckpointFault) (basis : Basis d was is)
    (h : SettlesOn d was is result) (limits : Limits) (namespace : List ℕ) (s : Standing) (stands : Stands limits namespace (told_of d was) s) where
  same_told : is.told ≡ was.told
  same_told = ap (λ (held : Holdings D). held.told) h.others

  told : IsTrue was.told
  told = stands.tells

  d_tells : IsTrue d.tells
  d_tells = basis.tells (subst IsTrue (sym same_told) told)

  abbrev old_disk : D
  old_disk = disk_of was.journal

  abbrev first : Image
  first = d.reading old_disk

  -- the files that a crash might have left
  old_left : (image : Image) → d.images old_disk image → (told_of d was).crash.checkpoints (cdxj_files image)
  old_left image now = (told, image, now, refl)

  old_right : (image : Image) → d.images old_disk image → AreRight s.book (cdxj_files image)
  old_right image now = stands.right (cdxj_files image) (old_left image now)

  first_now : d.images old_disk first
  first_now = basis.reads d_tells

  abbrev as_shelved : Shelved
  as_shelved = shelved_as was.told s.book was.spots

  abbrev Supplied : Image → Type 0
  Supplied = HasSupplied as_shelved (reach is.settled result) first (d.images old_disk)

  supplied : (image : Image) → d.images (disk_of is.journal) image → Supplied image
  supplied image now =
      subst (λ (b : Book). HasSupplied (shelved_as was.told b was.spots) (reach is.settled result) first (d.images old_disk) image) stands.book
      ((h.leaves d_tells).images image now)

  new_right : (image : Image) → d.images (disk_of is.journal) image → AreRight s.book (cdxj_files image)
  new_right image now =
      let by = supplied image now in
      right_files s.book image
      (basis.stays as_shelved (reach is.settled result) first by.0 image told by.2 (right_image s.book by.0 (old_right by.0 by.1)))

  -- a checkpoint that was finished, in an image from before and in what a read gave, stays so
  finished_stays : (image : Image) (by : Supplied image) (k : ℕ) → HasFinished (cdxj_files by.0) k → HasFinished (cdxj_files first) k
      → HasFinished (cdxj_files image) k
  finished_stays image by k before reading = ⊎_elim
      (λ same. record {
        lines = before.lines;
        is = subst (λ (bytes : List ℕ). IsCheckpoint k before.lines bytes) (sym (file_at by.0 k) ∙ sym same ∙ file_at image k) before.is;
      })
      (λ new.
      let same : reading.lines ≡ new.1 =
      basis.one s.book k reading.lines new.1 (old_right first first_now k reading.lines reading.is).1 (new.2.are told) in
      absurd (new.2.missing
      (subst (λ (bytes : List ℕ). IsCheckpoint k new.1 bytes) (sym (file_at first k))
      (subst (λ (lines : List Line). IsCheckpoint k lines (get_or (cdxj_files first) k [])) same reading.is))))
      (by.2.each k)

  -- the archive as it is but for its journal
  abbrev here : Holdings D
  here = record was { journal = is.journal; settled = is.settled }

  keeps : Keeps (told_of d was).crash (told_of d is).crash s.book
  keeps x opened = ⊎_elim (λ was. inl was) (λ bad. absurd bad)
      (h.opens.moves (told_of d was).crash.moment x (omega arith)
      (basis.earlier (told_of d was).crash.moment (told_of d is).crash.moment x h.opens.later opened))

  stands_with : (tally : Tally) → IsTallied (told_of d here).crash.checkpoints (sealed s.book) tally
      → Stands limits namespace (told_of d is) (record s { tally = tally })
  stands_with tally tallied =
      subst (λ (held : Holdings D). Stands limits namespace (told_of d held) (record s { tally = tally })) (sym h.others) (record {
        tells = stands.tells;
        limits_are = stands.limits_are;
        book = stands.book;
        in_namespace = stands.in_namespace;
        opens = kept_state (told_of d was).crash (told_of d here).crash s.book s.other
            (subst (λ (held : Holdings D). Keeps (told_of d was).crash (told_of d held).crash s.book) h.others keeps) stands.opens;
        shows = subst (λ (held : Holdings D). ShowsItsBook true (told_of d held)) h.others basis.shows;
        ids = stands.ids;
        right = λ files left. subst (AreRight s.book) left.3 (new_right left.1 left.2);
        tallied = tallied;
      })

  -- what is finished is of a sealed volume
  only_sealed : (files : List (List ℕ)) → (told_of d here).crash.checkpoints files → (k : ℕ) → HasFinished files k → k < sealed s.book
  only_sealed files left k has =
      finished_sealed s.book files k (subst (AreRight s.book) left.3 (new_right left.1 left.2)) has

  -- refused
  pub settle_refused : (fault : CheckpointFault) → Answers limits namespace (told_of d is) s events.Settle (settle_reply (Err fault))
  settle_refused fault = record {
    is = record s { tally = open_tally (sealed s.book) s.tally };
    stands = stands_with (open_tally (sealed s.book) s.tally)
        (open_tallied (told_of d was).crash.checkpoints (told_of d here).crash.checkpoints (sealed s.book) s.tally stands.tallied
        (λ files left k less has.
        let by = supplied left.1 left.2 in
        subst (λ (fs : List (List ℕ)). HasFinished fs k) left.3
        (finished_stays left.1 by k
        (stands.tallied.sure (cdxj_files by.0) (old_left by.0 by.1) k less has)
        (stands.tallied.sure (cdxj_files first) (old_left first first_now) k less has)))
        only_sealed);
    steps = λ n may. (
      s.tally.least,
      least_may (told_of d was).crash.checkpoints (sealed s.book) s.tally stands.tallied,
      record { result = Err fault; answer = refl; settles = (may.0, may.1, refl) },
    );
  }

  -- done
  pub settle_done : (n : ℕ) → result ≡ Ok n → Answers limits namespace (told_of d is) s events.Settle (settle_reply (Ok n))
  settle_done n ok =
      let all = subst (λ (r : Result ℕ CheckpointFault). OnOk r (is.settled ≡ length was.book.volumes - 1)) ok h.all in
      let missing = subst (λ (r : Result ℕ CheckpointFault). IfOk r (HasWithout (λ k. HasCheckpoint was.book k first) (length was.book.volumes - 1))) ok
      (h.missing told) in
      let book : was.book ≡ s.book = stands.book in
      let counted = counted_may (told_of d was).crash.checkpoints (sealed s.book) s.tally (cdxj_files first) n stands.tallied (old_left first first_now)
      (count_files s.book first (sealed s.book) n (old_right first first_now)
      (subst (λ (b : Book). HasWithout (λ k. HasCheckpoint b k first) (sealed b) n) book missing)) in
      let tally = settled_tally (sealed s.book) (cdxj_files (d.reading (disk_of is.journal))) in record {
        is = record s { tally = tally };
        stands = stands_with tally
            (settled_tallied (told_of d here).crash.checkpoints (sealed s.book) (cdxj_files (d.reading (disk_of is.journal)))
            (told, d.reading (disk_of is.journal), basis.reads_new d_tells, refl)
            (λ files left k less.
            subst (λ (fs : List (List ℕ)). HasFinished fs k) left.3
            (finished_of s.book left.1 k
            (subst (λ (b : Book). FirstAreFinished b (length b.volumes - 1) left.1) book
            (subst (λ (m : ℕ). FirstAreFinished was.book m left.1) all (h.first told left.1 left.2)) k (omega (arith, less)))))
            only_sealed);
        steps = λ c may. (
          sealed s.book - n,
          counted.0,
          record {
            result = Ok n;
            answer = refl;
            settles = (omega (arith, counted.1), ap (λ (x : ℕ). record { book = s.book; other = s.other; settled = x }) may);
          },
        );
      }
