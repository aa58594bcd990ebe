-- An archive that was opened stands in a state.
use Rattle.std.proofs.Common.{◌≡◌, ℕ, ◌-◌, ◌^◌, ◌<◌, Bool, true, IsTrue, List, [], length, Option, Some, None, refl, sym, subst, ◌∙◌, inl, ⊎_elim, arith}
use Rattle.std.specs.Prelude.{IfSome, is_some}
use Rattle.std.proofs.lemmas.Bool.{false≢true}
use Rattle.std.proofs.lemmas.Option.{same_Some}
use Rattle.capture.specs.Captures.{captures}
use Rattle.capture.specs.declared.book.Book.{Book}
use Rattle.capture.specs.declared.limits.Limits.{Limits}
use Rattle.disk_model.specs.Device.{Device, reading_of}
use Rattle.disk_model.specs.Image.{Image}
use Rattle.disk_model.specs.contracts.memory_disk.MemoryDiskDisk.TheImpl.{ghosts}
use Rattle.disk_model.specs.declared.disk.Disk.{Ghosts}
use Rattle.disk_model.specs.declared.memory_disk.MemoryDisk.{MemoryDisk}
use Rattle.warc_journal.specs.Extents.{cdxj_files}
use Rattle.warc_journal.specs.Journals.{disk_of}
use Rattle.warc_text.specs.StandsFor.{IdsDifferIn}
use Rattle.archive_shelf.specs.Openings.{HasIds, ImageStandsFor}
use Rattle.archive_shelf.specs.Told.{ShowsItsBook}
use Rattle.archive_shelf.specs.declared.fault.ReopenFault.{ReopenFault}
use Rattle.archive_volumes.specs.Volumes.{crash_of, muted}
use Rattle.archive_core.specs.Holdings.{Holdings}
use Rattle.archive_reopening.specs.Known.{IsNotOpenedKnown, IsReopenedKnown, by_checkpoints}
use Rattle.archive_reopening.specs.Reopening.{IsReopened}
use Rattle.archive_opening.specs.Telling.{MayBeSettled}
use Rattle.archive_core.specs.Told.{told_of}
use Rattle.event_core.proofs.ImageLaws.{count_files, finished_sealed, right_files}
use Rattle.event_core.proofs.NextLaws.{same_is}
use Rattle.event_core.proofs.TallyLaws.{tally_stays}
use Rattle.event_core.specs.Machine.{State, sealed}
use Rattle.event_core.specs.Running.{AllIdsDiffer, IsUnopened, MayStart, Starts, first_book}
use Rattle.event_core.specs.declared.event.Event.{Event}
use Rattle.event_core.specs.declared.reply.Reply.{Reply}
use Rattle.event_core.specs.steps.Standing.{AreRight, Follows, HasFinished, IsStanding, IsTallied, Stands, Tally}

pub few_ids : (namespace : List ℕ) (book : Book) → AllIdsDiffer namespace → book.namespace ≡ namespace → length (captures book) < 2 ^ 32 - 1 → HasIds book × IdsDifferIn book
few_ids namespace book ids is few =
    let here : AllIdsDiffer book.namespace = subst AllIdsDiffer (sym is) ids in (
      λ m n lm ln e. here m n (omega (arith, few, lm)) (omega (arith, few, ln)) e,
      λ m n lm ln e. here m n (omega (arith, few, lm)) (omega (arith, few, ln)) e,
    )

module _ {D : Type 0} (d : Ghosts D) (disk : D) (namespace : List ℕ) (limits : Limits) (held : Holdings D)
    (opened : IsReopened d disk (Some namespace) limits held) (tells : IsTrue d.tells) (ids : AllIdsDiffer namespace) where
  pub opened_ids : HasIds held.book × IdsDifferIn held.book
  opened_ids = few_ids namespace held.book ids opened.in_namespace opened.sound.sound.few

  pub opened_shows : ShowsItsBook true (told_of d held)
  opened_shows = record {
    consistent = record { sound = λ told. opened.sound; shown = λ alone told. opened.shown };
    next = λ few x may. ⊎_elim
        (λ same. record { room = held.book; roomy = inl (inl refl); is = inl same })
        (λ (other : None ≡ Some x). no_other other)
        (opened.state opened_ids.1 x may);
  }
    where
      no_other : {P : Type 0} {x : Book} → None ≡ Some x → P
      no_other e = let bad : ⊥ = cc in absurd bad

  -- a crash leaves no files of checkpoints but those that it left before
  kept : (files : List (List ℕ)) → (told_of d held).crash.checkpoints files → (crash_of d disk).checkpoints files
  kept files left =
      opened.quiet.kept files (subst (λ (b : Bool). (crash_of (muted b d) (disk_of held.journal)).checkpoints files) opened.told_is left)

  stands_by : (tally : Tally)
      → ((files : List (List ℕ)) → (told_of d held).crash.checkpoints files → AreRight held.book files)
      → IsTallied (told_of d held).crash.checkpoints (sealed held.book) tally
      → Stands limits namespace (told_of d held) (record { book = held.book; other = None; tally = tally })
  stands_by tally right tallied = record {
    tells = subst IsTrue (sym opened.told_is) tells;
    limits_are = opened.limits_are;
    book = refl;
    in_namespace = opened.in_namespace;
    opens = opened.state opened_ids.1;
    shows = opened_shows;
    ids = ids;
    right = right;
    tallied = tallied;
  }

  pub opened_stands : (tally : Tally)
      → ((files : List (List ℕ)) → (crash_of d disk).checkpoints files → AreRight held.book files)
      → IsTallied (crash_of d disk).checkpoints (sealed held.book) tally
      → Stands limits namespace (told_of d held) (record { book = held.book; other = None; tally = tally })
  opened_stands tally right tallied =
      stands_by tally (λ files left. right files (kept files left))
      (tally_stays (crash_of d disk).checkpoints (told_of d held).crash.checkpoints (sealed held.book) (sealed held.book) tally kept (omega arith) tallied)

-- the tally of the files that a read gives, where so many checkpoints are finished
abbrev first_tally : State → Image → Tally
first_tally start image = record { files = cdxj_files image; upto = sealed start.book; least = start.settled; most = None }

-- at first
module _ (disk : Device) (namespace : List ℕ) (limits : Limits) (start : State) (may : Starts disk namespace start × AllIdsDiffer namespace) where
  first_follows : (held : Holdings MemoryDisk) → IsReopenedKnown ghosts (by_checkpoints disk (Some namespace) (Some start.book)) limits held
      → Follows limits namespace start [] [] (told_of ghosts held)
  first_follows held known =
      let starts = may.0 in
      let opened : IsReopened ghosts disk (Some namespace) limits held = known.whole known.told_is in
      let start_ids = few_ids namespace start.book may.1 starts.in_namespace starts.stands.sound.sound.few in
      let book : held.book ≡ start.book =
      same_is held.book start.book (opened.in_namespace ∙ sym starts.in_namespace)
      (opened.one refl start.book starts.stands.sound start_ids.1 starts.stands.for) in
      let right : AreRight start.book (cdxj_files (reading_of disk)) = right_files start.book (reading_of disk) starts.right in
      let tally = first_tally start (reading_of disk) in
      let same : (files : List (List ℕ)) → (told_of ghosts held).crash.checkpoints files → files ≡ cdxj_files (reading_of disk) =
      (λ files left. sym left.3 ∙ (known.lined refl).synced refl left.1 left.2) in
      let tallied : IsTallied (told_of ghosts held).crash.checkpoints (sealed start.book) tally = record {
        missing = sealed start.book - start.settled;
        counted = count_files start.book (reading_of disk) (sealed start.book) (sealed start.book - start.settled) right starts.missing;
        least_is = omega (arith, starts.settled);
        within = omega arith;
        bound = tt;
        sure = λ files left k less has. subst (λ (fs : List (List ℕ)). HasFinished fs k) (sym (same files left)) has;
        only = λ files left k has.
            let here = subst (λ (fs : List (List ℕ)). HasFinished fs k) (same files left) has in
            (finished_sealed start.book (cdxj_files (reading_of disk)) k right here, here);
      } in
      record {
        is = record { book = held.book; other = None; tally = tally };
        stands = stands_by ghosts disk namespace limits held opened refl may.1 tally
            (λ files left. subst (λ (b : Book). AreRight b files) (sym book) (subst (AreRight start.book) (sym (same files left)) right))
            (subst (λ (b : Book). IsTallied (told_of ghosts held).crash.checkpoints (sealed b) tally) (sym book) tallied);
        runs = λ n may. λ i. record { book = book i; other = sym starts.alone i; settled = may i };
      }

  -- it wasn't opened at first, which isn't for what the disk holds
  first_shut : (events : List Event) (all : List Reply) (fault : ReopenFault) (left : Device)
      → IsNotOpenedKnown ghosts disk (Some namespace) (Some start.book) (fault, left) → all ≡ [] → IsUnopened limits start events all fault (reading_of left)
  first_shut events all fault left not none = record {
    outside = not.complete refl;
    ran = inl (
      none,
      record {
        book = start.book;
        stands = subst (λ (image : Image). ImageStandsFor image start.book) (sym (not.rests refl).read) may.0.stands;
        allowed = inl refl;
      },
    );
  }

-- ---- where the state may be named

module _ (disk : Device) (namespace : List ℕ) (limits : Limits) where
  pub may_be_first : (start : Option State) → MayStart disk namespace start → MayBeSettled ghosts disk (Some namespace) (first_book start)
  may_be_first None may = tt
  may_be_first (Some s) may = λ so. (
    record {
      stands = may.0.stands;
      ids = (few_ids namespace s.book may.1 may.0.in_namespace may.0.stands.sound.sound.few).1;
      checkpoints = may.0.right;
    },
    λ ns asked. may.0.in_namespace ∙ same_Some namespace ns asked,
  )

  pub first_stands : (start : Option State) → MayStart disk namespace start → (held : Holdings MemoryDisk)
      → IsReopenedKnown ghosts (by_checkpoints disk (Some namespace) (first_book start)) limits held
      → IsTrue (is_some (first_book start)) → IsStanding limits namespace (told_of ghosts held)
  first_stands None may held known so = absurd (false≢true so)
  first_stands (Some s) may held known so =
      let follows = first_follows disk namespace limits s may held known in record { was = follows.is; stands = follows.stands }

  pub first_runs : (start : Option State) → MayStart disk namespace start → (held : Holdings MemoryDisk)
      → IsReopenedKnown ghosts (by_checkpoints disk (Some namespace) (first_book start)) limits held → (Runs : State → Type 0)
      → (IsTrue (is_some (first_book start)) → (s : State) → Follows limits namespace s [] [] (told_of ghosts held) → Runs s) → IfSome start Runs
  first_runs None may held known Runs by = tt
  first_runs (Some s) may held known Runs by = by refl s (first_follows disk namespace limits s may held known)

  pub first_ends : (start : Option State) → MayStart disk namespace start → (events : List Event) (all : List Reply) (fault : ReopenFault) (left : Device)
      → IsNotOpenedKnown ghosts disk (Some namespace) (first_book start) (fault, left) → all ≡ []
      → IfSome start (λ s. IsUnopened limits s events all fault (reading_of left))
  first_ends None may events all fault left not none = tt
  first_ends (Some s) may events all fault left not none = first_shut disk namespace limits s may events all fault left not none
