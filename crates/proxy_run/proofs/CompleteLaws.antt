-- A run over a disk that is ready isn't refused.
use Rattle.std.proofs.Common.{◌≡◌, ◌≢◌, ◌⊎◌, ℕ, ◌-◌, ◌^◌, ◌<◌, ◌≤◌, Bool, true, true≢false, IsTrue, List, length, Option, Some, None, Result, Ok, Err, refl, sym, ap, subst, ◌∙◌, inl, inr, ⊎_elim, arith}
use Rattle.std.specs.Prelude.{IfSome, ⊤, MatchResult}
use Rattle.archive_opening.specs.Opening.{HoldsOther, IsDamageIn, IsOtherIn, IsOutside}
use Rattle.archive_gathering.specs.Refusing.{CountsFault}
use Rattle.archive_settling.proofs.FinishedLaws.{checkpoints_later, same_checkpoints_of}
use Rattle.archive_settling.specs.Finished.{FirstAreFinished}
use Rattle.archive_core.specs.Holdings.{Holdings, contents_of}
use Rattle.archive_reopening.specs.Known.{by_checkpoints, opening_of, told_at}
use Rattle.archive_settling.specs.Settling.{KeepsSettled}
use Rattle.archive_opening.specs.Telling.{IsReadWhole}
use Rattle.checkpoint.specs.OfVolume.{HasCheckpointsOf}
use Rattle.archive_shelf.specs.declared.depth.Depth.TheVariants.{Checkpoints, Whole}
use Rattle.checkpoint.specs.declared.fault.CheckpointFault.{CheckpointFault}
use Rattle.checkpoint.specs.declared.fault.CheckpointFault.TheVariants as checkpoints
use Rattle.command.specs.Settling.{settled_status}
use Rattle.disk_model.specs.Crash.{Leaves}
use Rattle.archive_core.specs.Told.{told_on}
use Rattle.archive_core.proofs.TellingLaws.{quiet_muted}
use Rattle.archive_shelf.proofs.CallLaws.{no_more, stored_tells}
use Rattle.archive_shelf.specs.Answers.{CountsIf, IsDamaged}
use Rattle.archive_shelf.specs.declared.fault.StoreFault.{StoreFault}
use Rattle.archive_shelf.specs.declared.fault.StoreFault.TheVariants as stores
use Rattle.archive_shelf.specs.Openings.{HasIds, ImageStandsFor, SameBook}
use Rattle.archive_volumes.proofs.ChangeLaws.{one_of}
use Rattle.archive_volumes.specs.Volumes.{crash_of, muted}
use Rattle.archive_shelf.specs.declared.fault.ReopenFault.{ReopenFault}
use Rattle.archive_shelf.specs.declared.fault.ReopenFault.TheVariants as faults
use Rattle.capture.specs.Captures.{captures}
use Rattle.capture.specs.Faults.{Rose, RoseBy}
use Rattle.capture.specs.declared.book.Book.{Book}
use Rattle.capture.specs.declared.site.Site.{Site}
use Rattle.disk_model.specs.Image.{Image}
use Rattle.outside.specs.declared.sink.Sink.{Ghosts as Sinks}
use Rattle.command.proofs.OpeningLaws.{ids_differ, opened_consistent}
use Rattle.command.proofs.SettlingLaws.{closed_all, closed_from, closed_opens, closed_right, closed_rose, ready_consistent, ready_in, ready_opens, ready_tells, told_tells}
use Rattle.proxy_run.proofs.ConnectionLaws.{course_one}
use Rattle.vault_turns.proofs.CalmLaws.{ids_earlier}
use Rattle.proxy_run.proofs.PipeLaws.{faults_before, faults_behind}
use Rattle.proxy_run.proofs.StatusLaws.{settled_answered}
use Rattle.proxy_run.proofs.NextLaws.{all_next, settled_next, sound_still, stands_same}
use Rattle.proxy_run.specs.Complete.{CapturesComeBack, ChecksAreAnswered, EndsBadly, FollowsAreAnswered, FollowsBadly, FollowsLeaveReady, ImportsAreAnswered, ImportsBadly, ImportsLeaveReady, IsFullBefore, IsNotFollowed, IsNotTaken, IsReady, IsLeftSettled, IsSteady, NoFaults, PipesAreAnswered, PipesLeaveReady, PipesLeaveSettled, PipesLeaveTheLast, PipesPassOn, ServesBadly}
use Rattle.replica.specs.Following.{EndsBy as FollowEnds, is_disk_stop}
use Rattle.importing.specs.Imports.{Imports, IsTellable, Tells, status_after}
use Rattle.importing.specs.Keeping.{EndsBy, Keeps, is_denied}
use Rattle.command.specs.Objects.{Kinds, Objects, UsesFirst, objects_of, with_one}
use Rattle.proxy_run.specs.Pipes.{HasServed, Pipes, Refuses, around_in}
use Rattle.command.specs.Printing.{LacksMemory, Prints, printed_as}
use Rattle.proxy_run.specs.Checks.{IsCounted}
use Rattle.following.specs.Follows.{Follows}
use Rattle.proxy_run.specs.Serving.{status_of, pipe_site}
use Rattle.replica.specs.Sources.{source_of}
use Rattle.command.specs.Texts.{IsFaultText, captures_line}
use Rattle.replica.specs.declared.asking.SourceFault.TheVariants as sources
use Rattle.replica.specs.declared.following.Stop.{Stop}
use Rattle.replica.specs.declared.following.Stop.TheVariants.{Source, Piece}
use Rattle.archive_pieces.specs.declared.fault.PieceFault.TheVariants as pieces
use Rattle.importing.specs.declared.input.InputFault.{InputFault}
use Rattle.importing.specs.declared.input.InputFault.TheVariants as input_fault
use Rattle.command.specs.declared.status.Status.{Status}
use Rattle.command.specs.declared.status.Status.TheVariants.{Done, Words, Archive, Outside, Memory}
use Rattle.session.specs.Laws.{CoursesCountFaults, IdsDifferOnTheWay}
use Rattle.session.specs.Courses.{disk_faults}
use Rattle.session.specs.declared.served.Served.{Served}
use Rattle.session.specs.declared.served.Served.TheVariants as served
use Rattle.request_answer.specs.Traces.{terms_of}
use Rattle.crew.specs.Crews.{IsEnd}
use Rattle.following.specs.StopTexts.{TellsStop}
use Rattle.warc_journal.specs.Extents.{cdxj_files, warc_files}
use Rattle.warc_journal.specs.Journals.{disk_of}
use Rattle.warc_text.specs.Sound.{IsSound}
use Rattle.warc_text.specs.StandsFor.{FilesStandForNoVolume, FilesStandForOneBook, StandsFor}

-- ---- counts and what was printed

pub not_risen : (before now : ℕ) → IsSteady before now → Rose before now → ⊥
not_risen before now steady rose = grind (arith, steady.same, steady.below, rose)

pub printed_or_lacked : {O : Type 0} (sinks : Sinks O) (told : Status) (text : List ℕ) (was is : O) (status : Status)
    → IsSteady (sinks.faults was) (sinks.faults is) → Prints sinks told text was is status ⊎ LacksMemory sinks was is status
    → (status ≡ told) ⊎ (status ≡ Memory)
printed_or_lacked sinks told text was is status steady (inl (inl all)) = inl all.status_is
printed_or_lacked sinks told text was is status steady (inl (inr broke)) = absurd (not_risen (sinks.faults was) (sinks.faults is) steady broke.broke)
printed_or_lacked sinks told text was is status steady (inr lacked) = inr lacked.status_is

-- ---- refusals

-- the files stand for a sound book, in no other namespace than the one that is asked for: only memory can be wanting
lacks_memory : {O : Type 0} (sinks : Sinks O) (asked : Option (List ℕ)) (image : Image) (book : Book) (before now : ℕ) (out_was out_is : O) (status : Status)
    → ImageStandsFor image book → ((other : List ℕ) → HoldsOther (warc_files image) asked other → ⊥) → IsSteady before now
    → (fault : ReopenFault) → IsDamageIn (warc_files image) fault → IsOtherIn (warc_files image) asked fault → CountsFault before now fault
    → ((text : List ℕ) × IsFaultText fault text × Prints sinks Archive text out_was out_is status) ⊎ LacksMemory sinks out_was out_is status
    → status ≡ Memory
lacks_memory sinks asked image book before now out_was out_is status stands none steady (faults.Damaged kind file place) damage other counts told =
    absurd (damage.1 book stands.sound stands.for)
lacks_memory sinks asked image book before now out_was out_is status stands none steady (faults.OtherNamespace name) damage other counts told =
    absurd (none name other)
lacks_memory sinks asked image book before now out_was out_is status stands none steady faults.DiskFault damage other counts told =
    absurd (not_risen before now steady counts)
lacks_memory sinks asked image book before now out_was out_is status stands none steady faults.Memory damage other counts (inl printed) = absurd printed.1
lacks_memory sinks asked image book before now out_was out_is status stands none steady faults.Memory damage other counts (inr lacked) = lacked.status_is

-- one that isn't for what the disk holds
lacks_by : {O : Type 0} (sinks : Sinks O) (before now : ℕ) (out_was out_is : O) (status : Status) → IsSteady before now
    → (fault : ReopenFault) → IsOutside fault → CountsFault before now fault
    → ((text : List ℕ) × IsFaultText fault text × Prints sinks Archive text out_was out_is status) ⊎ LacksMemory sinks out_was out_is status
    → status ≡ Memory
lacks_by sinks before now out_was out_is status steady (faults.Damaged kind file place) outside counts told = absurd outside
lacks_by sinks before now out_was out_is status steady (faults.OtherNamespace name) outside counts told = absurd outside
lacks_by sinks before now out_was out_is status steady faults.DiskFault outside counts told = absurd (not_risen before now steady counts)
lacks_by sinks before now out_was out_is status steady faults.Memory outside counts (inl printed) = absurd printed.1
lacks_by sinks before now out_was out_is status steady faults.Memory outside counts (inr lacked) = lacked.status_is

-- what holds of a known book of a disk that tells holds where the book is told
of_known : (tells : Bool) (known : Option Book) (P : Type 0) → IsTrue (told_at Checkpoints tells known) → IfSome known (λ book. IsTrue tells → P) → P
of_known tells None P so has = absurd (true≢false (sym so))
of_known tells (Some book) P so has = has so

module _ {D G L P N M C O : Type 0} (kinds : Kinds D G L P N M C O) where
  pub refused_known : (known : Option Book) (asked : Option (List ℕ)) (was is : Objects D G (List (N × C)) O) (status : Status)
      → IsTrue (told_at Checkpoints kinds.disks.tells known) → NoFaults kinds was is → Refuses kinds (by_checkpoints was.disk asked known) was is status → status ≡ Memory
  refused_known known asked was is status told steady refuses =
      lacks_by kinds.sinks (kinds.disks.faults was.disk) (kinds.disks.faults is.disk) was.out is.out status steady.disk refuses.refused.fault
      (of_known kinds.disks.tells known (IsOutside refuses.refused.fault) told refuses.refused.refused.complete) refuses.refused.refused.faults refuses.refused.told

  -- each volume was read
  pub refused_unsettled : (known : Option Book) (was is : Objects D G (List (N × C)) O) (status : Status) → IsTrue kinds.disks.tells
      → IsReady None (kinds.disks.reading was.disk) → IsReadWhole (kinds.disks.reading was.disk)
      → NoFaults kinds was is → Refuses kinds (by_checkpoints was.disk None known) was is status → status ≡ Memory
  refused_unsettled known was is status told ready whole steady refuses =
      lacks_memory kinds.sinks None (kinds.disks.reading was.disk) ready.book (kinds.disks.faults was.disk) (kinds.disks.faults is.disk) was.out is.out status
      ready.stands (λ other holds. holds.asked_for refl) steady.disk refuses.refused.fault
      ((refuses.refused.refused.unsettled told whole).damage told) ((refuses.refused.refused.unsettled told whole).other told) refuses.refused.refused.faults refuses.refused.told

  pub refused_for_memory : (asked : Option (List ℕ)) (was is : Objects D G (List (N × C)) O) (status : Status) → IsTrue kinds.disks.tells
      → IsReady asked (kinds.disks.reading was.disk)
      → ((other : List ℕ) → HoldsOther (warc_files (kinds.disks.reading was.disk)) asked other → ⊥)
      → NoFaults kinds was is → Refuses kinds (opening_of was.disk Whole asked None) was is status → status ≡ Memory
  refused_for_memory asked was is status told ready none steady refuses =
      lacks_memory kinds.sinks asked (kinds.disks.reading was.disk) ready.book (kinds.disks.faults was.disk) (kinds.disks.faults is.disk) was.out is.out status
      ready.stands none steady.disk refuses.refused.fault ((refuses.refused.whole refl).damage told) ((refuses.refused.whole refl).other told)
      refuses.refused.refused.faults refuses.refused.told

  -- ---- `check`

  check_answered : (known : Option Book) (was is : Objects D G (List (N × C)) O) (status : Status) → IsTrue kinds.disks.tells → IsReady None (kinds.disks.reading was.disk)
      → NoFaults kinds was is → (IsCounted kinds.disks kinds.sinks was.disk is.disk (printed_as was.out is.out status) × (is ≡ record was { disk = is.disk; out = is.out }))
      ⊎ Refuses kinds (opening_of was.disk Whole None None) was is status → (status ≡ Done) ⊎ (status ≡ Memory)
  check_answered known was is status told ready steady (inl checked) =
      printed_or_lacked kinds.sinks Done _ was.out is.out status steady.out checked.0.printed
  check_answered known was is status told ready steady (inr refuses) =
      inr (refused_for_memory None was is status told ready (λ other holds. holds.asked_for refl) steady refuses)

  pub checks_answered : ChecksAreAnswered kinds
  checks_answered was is status told ready steady known site runs = check_answered known was is status told ready steady runs

  -- ---- `pipe`

  ends_or_badly : (ended : Served) (status : Status) → status ≡ status_of ended → (status ≡ Done) ⊎ (status ≡ Memory) ⊎ EndsBadly ended
  ends_or_badly served.Done status e = inl e
  ends_or_badly served.ClientBroke status e = inr (inr tt)
  ends_or_badly served.ClientEndedEarly status e = inr (inr tt)
  ends_or_badly (served.ClientRefused refusal) status e = inl e
  ends_or_badly served.WantOfMemory status e = inr (inl e)

  badly : (was is : Objects D G (List (N × C)) O) (before after : Holdings D) (status : Status) (first : UsesFirst was.crew is.crew)
      (s : HasServed kinds (with_one was first.before) (with_one is first.after) before after status)
      → (status ≡ Done) ⊎ (status ≡ Memory) ⊎ EndsBadly s.one.served → (status ≡ Done) ⊎ (status ≡ Memory) ⊎ ServesBadly kinds was is status
  badly was is before after status first s (inl done) = inl done
  badly was is before after status first s (inr (inl memory)) = inr (inl memory)
  badly was is before after status first s (inr (inr ends)) =
      inr (inr (record { before = before; after = after; first = first; served = s; badly = ends }))

  without : (closed : Bool) (before now : ℕ) (status : Status) → IsSteady before now → IsEnd closed before now status
      → (status ≡ Done) ⊎ (status ≡ Memory)
  without closed before now Done steady reason = inl refl
  without closed before now Words steady reason = absurd reason
  without closed before now Archive steady reason = absurd reason
  without closed before now Outside steady reason = absurd (not_risen before now steady reason)
  without closed before now Memory steady reason = inr refl

  one_more : {A B X : Type 0} → A ⊎ B → A ⊎ B ⊎ X
  one_more (inl a) = inl a
  one_more (inr b) = inr (inl b)

  served_answered : (was is : Objects D G (List (N × C)) O) (before after : Holdings D) (status : Status) (first : UsesFirst was.crew is.crew)
      → NoFaults kinds was is
      → HasServed kinds (with_one was first.before) (with_one is first.after) before after status
      ⊎ (IsEnd (kinds.gates.closed was.gate) (kinds.gates.faults was.gate) (kinds.gates.faults is.gate) status
      × (around_in kinds (with_one is first.after) ≡ around_in kinds (with_one was first.before)) × (after ≡ before))
      → (status ≡ Done) ⊎ (status ≡ Memory) ⊎ ServesBadly kinds was is status
  served_answered was is before after status first steady (inl s) =
      badly was is before after status first s (ends_or_badly s.one.served status s.one.status_is)
  served_answered was is before after status first steady (inr n) =
      one_more (without (kinds.gates.closed was.gate) (kinds.gates.faults was.gate) (kinds.gates.faults is.gate) status steady.gate n.0)

  pipe_answered : (known : Option Book) (namespace : List ℕ) (was is : Objects D G (List (N × C)) O) (status : Status)
      → IsTrue (told_at Checkpoints kinds.disks.tells known) → IsTrue kinds.clients_tell → IsTrue kinds.origins_tell → NoFaults kinds was is
      → ((first : UsesFirst was.crew is.crew) × Pipes kinds known (Some namespace) (with_one was first.before) (with_one is first.after) status) ⊎ Refuses kinds (by_checkpoints was.disk (Some namespace) known) was is status
      → (status ≡ Done) ⊎ (status ≡ Memory) ⊎ ServesBadly kinds was is status
  pipe_answered known namespace was is status told clients origins steady (inl piped) =
      let p = piped.1 in
      settled_answered (λ (s : Status). ServesBadly kinds was is s) p.closed.answer p.said status p.closed.status_is
      (served_answered was is p.before p.after p.said piped.0 steady (p.serves clients origins))
  pipe_answered known namespace was is status told clients origins steady (inr refuses) =
      inr (inl (refused_known known (Some namespace) was is status told steady refuses))

  pub pipes_answered : PipesAreAnswered kinds
  pipes_answered known namespace was is status told clients origins steady site runs =
      pipe_answered known namespace was is status told clients origins steady runs

  -- ---- `import`

  damage_is_untold : (told : Bool) (kept : List ℕ) (found : Option (List ℕ)) → IsTrue told → IsDamaged told kept found → ⊥
  damage_is_untold told kept found tells damaged = true≢false (sym tells ∙ damaged.untold)

  module _ (known : Option Book) (namespace : List ℕ) (was is : Objects D G (List (N × C)) O) (status : Status)
      (imported : Imports kinds.disks kinds.gates kinds.sinks kinds.clients_tell known (Some namespace) (objects_of was.disk was.gate tt was.out) (objects_of is.disk is.gate tt is.out) status)
      (untouched : is.crew ≡ was.crew) where
    not_taken : IsNotTaken imported.input imported.intake.refused → (status ≡ Done) ⊎ (status ≡ Memory) ⊎ ImportsBadly kinds known namespace was is status
    not_taken badly = inr (inr (record { imported = imported; untouched = untouched; badly = badly }))

    read_answered : IsTrue (told_at Checkpoints kinds.disks.tells known)
        → NoFaults kinds was is → (file : List ℕ) → imported.input ≡ Ok file → (refused : Option StoreFault) → imported.intake.refused ≡ refused
        → IsTellable refused → (text : List ℕ) → Prints kinds.sinks (status_after refused) text was.out is.out status
        → (status ≡ Done) ⊎ (status ≡ Memory) ⊎ ImportsBadly kinds known namespace was is status
    read_answered told steady file whole None none tellable text printed =
        one_more (printed_or_lacked kinds.sinks Done text was.out is.out status steady.out (inl printed))
    read_answered told steady file whole (Some (stores.Full count limit)) full tellable text printed =
        not_taken (subst (λ i. IsNotTaken i imported.intake.refused) (sym whole) (inr (subst IsFullBefore (sym full) tt)))
    read_answered told steady file whole (Some stores.DiskFault) fault tellable text printed =
        absurd (not_risen (kinds.disks.faults was.disk) (kinds.disks.faults is.disk) steady.disk
        (subst (λ r. CountsIf (is_denied r) (kinds.disks.faults was.disk) (kinds.disks.faults is.disk)) fault imported.keeps.faults).1)
    read_answered told steady file whole (Some (stores.Damaged number kept found)) fault tellable text printed =
        absurd (undamaged (subst (λ r. EndsBy true r k.rest k.reached imported.after) fault k.ends))
      where
        k : Keeps true imported.intake (told_on kinds.disks was.disk (contents_of imported.before)) (told_on kinds.disks is.disk imported.after)
        k = imported.keeps

        undamaged : EndsBy true (Some (stores.Damaged number kept found)) k.rest k.reached imported.after → ⊥
        undamaged ends =
            damage_is_untold k.reached.tells kept found
            (subst IsTrue (sym imported.opened.is.told_is ∙ sym k.goes_on.same_tells ∙ stored_tells true ends.0 k.reached imported.after (Err (stores.Damaged number kept found)) ends.3) told)
            ends.3.3
    read_answered told steady file whole (Some stores.Memory) fault tellable text printed = absurd tellable

    taken_answered : IsTrue (told_at Checkpoints kinds.disks.tells known)
        → NoFaults kinds was is → (input : Result (List ℕ) InputFault) → imported.input ≡ input
        → Tells kinds.sinks imported.intake (printed_as was.out is.out status) input
        → (status ≡ Done) ⊎ (status ≡ Memory) ⊎ ImportsBadly kinds known namespace was is status
    taken_answered told steady (Ok file) whole (inl read) =
        read_answered told steady file whole imported.intake.refused refl read.tellable _ read.told
    taken_answered told steady (Ok file) whole (inr (inl none)) =
        not_taken (subst (λ i. IsNotTaken i imported.intake.refused) (sym whole) (inl (none.at, none.none)))
    taken_answered told steady (Ok file) whole (inr (inr breaks)) = inr (inl breaks.lacks.status_is)
    taken_answered told steady (Err input_fault.TooLong) same tells = not_taken (subst (λ i. IsNotTaken i imported.intake.refused) (sym same) tt)
    taken_answered told steady (Err input_fault.Failed) same tells = not_taken (subst (λ i. IsNotTaken i imported.intake.refused) (sym same) tt)
    taken_answered told steady (Err input_fault.Memory) same tells = inr (inl tells.1.status_is)

  import_answered : (known : Option Book) (namespace : List ℕ) (was is : Objects D G (List (N × C)) O) (status : Status)
      → IsTrue (told_at Checkpoints kinds.disks.tells known) → NoFaults kinds was is
      → (Imports kinds.disks kinds.gates kinds.sinks kinds.clients_tell known (Some namespace) (objects_of was.disk was.gate tt was.out) (objects_of is.disk is.gate tt is.out) status × (is.crew ≡ was.crew))
      ⊎ Refuses kinds (by_checkpoints was.disk (Some namespace) known) was is status
      → (status ≡ Done) ⊎ (status ≡ Memory) ⊎ ImportsBadly kinds known namespace was is status
  import_answered known namespace was is status told steady (inl (imported, untouched)) =
      taken_answered known namespace was is status imported untouched told steady imported.input refl imported.told
  import_answered known namespace was is status told steady (inr refuses) =
      inr (inl (refused_known known (Some namespace) was is status told steady refuses))

  pub imports_answered : ImportsAreAnswered kinds
  imports_answered known namespace was is status told steady site runs = import_answered known namespace was is status told steady runs

  -- ---- `follow`

  module _ (known : Option Book) (namespace : List ℕ) (site : Site) (was is : Objects D G (List (N × C)) O) (status : Status) (first : UsesFirst was.crew is.crew)
      (follows : Follows kinds.disks kinds.dialers kinds.sinks kinds.origins_tell known (Some namespace) site (objects_of was.disk tt first.before was.out) (objects_of is.disk tt first.after is.out) status)
      (untouched : is.gate ≡ was.gate) where
    not_followed : IsNotFollowed follows.follows.result → (status ≡ Done) ⊎ (status ≡ Memory) ⊎ FollowsBadly kinds known namespace site was is status
    not_followed badly = inr (inr (record { first = first; follows = follows; untouched = untouched; badly = badly }))

    told_then : IsTrue (told_at Checkpoints kinds.disks.tells known)
        → (number at : ℕ) (kept : List ℕ) (found : Option (List ℕ))
        → FollowEnds kinds.disks (source_of site) kinds.origins_tell (Err (Piece number (pieces.Damaged at kept found))) follows.follows.followed.refused
        follows.follows.followed.reached follows.follows.followed.links follows.after (kinds.dialers.links first.after.0) → ⊥
    told_then told number at kept found ends =
        let f = follows.follows.followed in
        damage_is_untold f.reached.told kept found
        (sym (ap (λ (h : Holdings D). h.told) ends.2.leaves.1.others) ∙ f.goes_on.same_told ∙ follows.opened.is.told_is ∙ told) ends.2.leaves.3

    ended_answered : IsTrue (told_at Checkpoints kinds.disks.tells known) → NoFaults kinds was is → (result : Result ⊤ Stop) → follows.follows.result ≡ result
        → MatchResult result
        (λ done. Prints kinds.sinks Done (captures_line (length (captures follows.after.book))) was.out is.out status ⊎ LacksMemory kinds.sinks was.out is.out status)
        (λ stop. TellsStop kinds.sinks stop was.out is.out status)
        → FollowEnds kinds.disks (source_of site) kinds.origins_tell result follows.follows.followed.refused
        follows.follows.followed.reached follows.follows.followed.links follows.after (kinds.dialers.links first.after.0)
        → CountsIf (is_disk_stop result) (kinds.disks.faults was.disk) (kinds.disks.faults is.disk)
        → (status ≡ Done) ⊎ (status ≡ Memory) ⊎ FollowsBadly kinds known namespace site was is status
    ended_answered told steady (Ok done) same tells ends counts =
        one_more (printed_or_lacked kinds.sinks Done _ was.out is.out status steady.out tells)
    ended_answered told steady (Err (Source number sources.DialFault)) same tells ends counts = not_followed (subst IsNotFollowed (sym same) tt)
    ended_answered told steady (Err (Source number sources.OriginFault)) same tells ends counts = not_followed (subst IsNotFollowed (sym same) tt)
    ended_answered told steady (Err (Source number sources.Malformed)) same tells ends counts = not_followed (subst IsNotFollowed (sym same) tt)
    ended_answered told steady (Err (Source number sources.TooLong)) same tells ends counts = not_followed (subst IsNotFollowed (sym same) tt)
    ended_answered told steady (Err (Source number (sources.Refused code))) same tells ends counts = not_followed (subst IsNotFollowed (sym same) tt)
    ended_answered told steady (Err (Source number sources.Memory)) same lacked ends counts = inr (inl lacked.status_is)
    ended_answered told steady (Err (Piece number (pieces.Full count limit))) same tells ends counts = not_followed (subst IsNotFollowed (sym same) tt)
    ended_answered told steady (Err (Piece number pieces.NotAPiece)) same tells ends counts = not_followed (subst IsNotFollowed (sym same) tt)
    ended_answered told steady (Err (Piece number pieces.DiskFault)) same tells ends counts =
        absurd (not_risen (kinds.disks.faults was.disk) (kinds.disks.faults is.disk) steady.disk counts.1)
    ended_answered told steady (Err (Piece number (pieces.Damaged at kept found))) same tells ends counts =
        absurd (told_then told number at kept found ends)
    ended_answered told steady (Err (Piece number pieces.Memory)) same lacked ends counts = inr (inl lacked.status_is)

  follow_answered : (known : Option Book) (namespace : List ℕ) (site : Site) (was is : Objects D G (List (N × C)) O) (status : Status)
      → IsTrue (told_at Checkpoints kinds.disks.tells known) → NoFaults kinds was is
      → ((first : UsesFirst was.crew is.crew)
      × Follows kinds.disks kinds.dialers kinds.sinks kinds.origins_tell known (Some namespace) site (objects_of was.disk tt first.before was.out) (objects_of is.disk tt first.after is.out) status
      × (is.gate ≡ was.gate))
      ⊎ Refuses kinds (by_checkpoints was.disk (Some namespace) known) was is status ⊎ ((status ≡ Memory) × (is ≡ was))
      → (status ≡ Done) ⊎ (status ≡ Memory) ⊎ FollowsBadly kinds known namespace site was is status
  follow_answered known namespace site was is status told steady (inl (first, follows, untouched)) =
      ended_answered known namespace site was is status first follows untouched told steady follows.follows.result refl follows.follows.told follows.follows.followed.ends
      follows.disk_faults
  follow_answered known namespace site was is status told steady (inr (inl refuses)) =
      inr (inl (refused_known known (Some namespace) was is status told steady refuses))
  follow_answered known namespace site was is status told steady (inr (inr lacks)) = inr (inl lacks.0)

  pub follows_answered : FollowsAreAnswered kinds
  follows_answered known namespace site was is status told steady runs = follow_answered known namespace site was is status told steady runs

  pub follows_leave_ready : FollowsLeaveReady kinds
  follows_leave_ready known namespace site was is status f told ids image now =
      let so : IsTrue f.before.told = f.opened.is.told_is ∙ told in
      let x = f.near so image now in
      let grows = f.follows.followed.goes_on.grows in
      settled_next namespace image f.after.book x.0 (grows.namespace ∙ f.opened.is.in_namespace)
      (sound_still f.before.book f.after.book grows (f.opened.is.whole so).sound) ids x.2 x.1 (f.right so image now)

  pub imports_leave_ready : ImportsLeaveReady kinds
  imports_leave_ready known namespace was is status i told ids image now =
      let so : IsTrue i.before.told = i.opened.is.told_is ∙ told in
      let g = i.keeps.goes_on in
      let x = i.near so image now in
      settled_next namespace image i.after.seen x.0 (g.grows.namespace ∙ i.opened.is.in_namespace)
      (λ none. (g.consistent (opened_consistent kinds.disks i.opened)).sound (g.same_tells ∙ so)) ids x.2 x.1 (i.right so image now)

  -- ---- what `pipe` leaves

  module _ (known : Option Book) (asked : Option (List ℕ)) (was is : Objects D G (N × C) O) (status : Status) (piped : Pipes kinds known asked was is status)
      (told : IsTrue (told_at Checkpoints kinds.disks.tells known)) where
    tells : IsTrue kinds.disks.tells
    tells = told_tells Checkpoints kinds.disks.tells known told

    told_first : IsTrue piped.before.told
    told_first = ready_tells kinds.disks piped.opened ∙ told

    told_last : IsTrue piped.after.told
    told_last = piped.goes_on.same_tells ∙ told_first

    sound_last : IsSound piped.after.book
    sound_last = (piped.goes_on.consistent (ready_consistent kinds.disks piped.opened)).sound told_last

    -- the finished checkpoints are those of the last book, in each image that the connection leaves
    right_then : Leaves (kinds.disks.images (disk_of piped.after.journal)) (λ image. HasCheckpointsOf image piped.after.book)
    right_then image left =
        let before = piped.goes_on.kept (cdxj_files image) (told_last, image, left, refl) in
        checkpoints_later piped.before.book piped.after.book image piped.goes_on.grows
        (same_checkpoints_of image before.1 piped.before.book (sym before.3) (piped.opened.left told_first before.1 before.2).checkpoints)

    right_last : KeepsSettled → Leaves (kinds.disks.images is.disk) (λ image. HasCheckpointsOf image piped.after.book)
    right_last stays = closed_right kinds.disks piped.closed stays tells told_last right_then

    all_done : (answer : Result ℕ CheckpointFault) → piped.closed.answer ≡ answer → status ≡ settled_status answer piped.said
        → kinds.disks.faults is.disk ≡ kinds.disks.faults (disk_of piped.after.journal) → kinds.disks.faults (disk_of piped.after.journal) < 2 ^ 64 - 1 → status ≢ Memory
        → Leaves (kinds.disks.images is.disk) (FirstAreFinished piped.after.book (length piped.after.book.volumes - 1))
    all_done (Ok n) answers says same below some = closed_all kinds.disks piped.closed n answers told_last
    all_done (Err checkpoints.DiskFault) answers says same below some =
        absurd (not_risen (kinds.disks.faults (disk_of piped.after.journal)) (kinds.disks.faults is.disk) (record { same = same; below = below })
        (closed_rose kinds.disks piped.closed answers))
    all_done (Err checkpoints.Memory) answers says same below some = absurd (some says)

    pub left_settled : IsSteady (kinds.disks.faults was.disk) (kinds.disks.faults is.disk) → status ≢ Memory
        → Leaves (kinds.disks.images is.disk) (IsLeftSettled piped.after.book)
    left_settled steady some image left =
        let at = piped.near told_first image left in
        let same : kinds.disks.faults is.disk ≡ kinds.disks.faults (disk_of piped.after.journal) = steady.same ∙ sym (faults_behind kinds piped steady.same) in record {
          x = at.0;
          stands = at.1;
          next = at.2;
          checkpoints = all_done piped.closed.answer refl piped.closed.status_is same (omega (arith, same, steady.same, steady.below)) some image left;
        }

    -- ---- where the disk didn't fail

    -- what an image stands for, that the connection leaves, is the last book
    last_then : CoursesCountFaults → IdsDifferOnTheWay → HasIds piped.after.book → IsSteady (kinds.disks.faults was.disk) (kinds.disks.faults is.disk)
        → HasServed kinds was is piped.before piped.after piped.said
        ⊎ (IsEnd (kinds.gates.closed was.gate) (kinds.gates.faults was.gate) (kinds.gates.faults is.gate) piped.said
        × (around_in kinds is ≡ around_in kinds was) × (piped.after ≡ piped.before))
        → (image : Image) (x : Book) → kinds.disks.images (disk_of piped.after.journal) image → ImageStandsFor image x → SameBook x piped.after.book
    last_then counts differ ids steady (inl s) image x left stands =
        let c = s.one.connection in
        let met : RoseBy (disk_faults c.rounds) (kinds.disks.faults (disk_of piped.before.journal)) (kinds.disks.faults (disk_of piped.after.journal)) =
        (counts _ _ _ c.rounds _ c.lawful).1.rose in
        let none : disk_faults c.rounds ≡ 0 =
        omega (arith, met, faults_before kinds piped steady.same, faults_behind kinds piped steady.same, steady.same, steady.below) in
        course_one (terms_of pipe_site true (contents_of piped.before)) 0 _ c.rounds _ (λ book. SameBook book piped.before.book) x refl c.lawful none (λ b same. same)
        (s.left told_first (ids_earlier piped.before.book piped.after.book piped.goes_on.grows ids) (differ _ _ _ c.rounds _ c.lawful ids) image x left stands)
    last_then counts differ ids steady (inr n) image x left stands =
        let at : ImageStandsFor image piped.before.book =
        (piped.opened.left told_first image (subst (λ (h : Holdings D). kinds.disks.images (disk_of h.journal) image) n.2 left)).stands in
        subst (λ (now : Holdings D). SameBook x now.book) (sym n.2)
        (one_of image x piped.before.book stands at (ids_differ piped.before.book (ids_earlier piped.before.book piped.after.book piped.goes_on.grows ids)))

    pub left_last : CoursesCountFaults → IdsDifferOnTheWay → IsTrue kinds.clients_tell → IsTrue kinds.origins_tell
        → IsSteady (kinds.disks.faults was.disk) (kinds.disks.faults is.disk) → HasIds piped.after.book
        → Leaves (kinds.disks.images is.disk) (λ image. ImageStandsFor image piped.after.book)
    left_last counts differ clients origins steady ids image left =
        let at = piped.near told_first image left in
        let from = closed_from kinds.disks piped.closed tells image left in
        let stood : ImageStandsFor from.0 at.0 =
        record { for = subst (λ (files : List (List ℕ)). StandsFor files at.0) from.2 at.1.for; sound = at.1.sound } in
        stands_same image at.0 piped.after.book (last_then counts differ ids steady (piped.serves clients origins) from.0 at.0 from.1 stood) sound_last at.1

  pub pipes_leave_settled : PipesLeaveSettled kinds
  pipes_leave_settled known namespace was is status piped told steady some = left_settled known (Some namespace) was is status piped told steady some

  pub pipes_leave_the_last : CoursesCountFaults → IdsDifferOnTheWay → PipesLeaveTheLast kinds
  pipes_leave_the_last counts differ known namespace was is status piped told clients origins steady ids =
      left_last known (Some namespace) was is status piped told counts differ clients origins steady ids

  pub pipes_pass_on : PipesPassOn kinds
  pipes_pass_on known namespace was is status piped s ids t x le o =
      let quiet = quiet_muted kinds.disks piped.before.told
      (λ so. told_tells Checkpoints kinds.disks.tells known (sym (ready_tells kinds.disks piped.opened) ∙ so)) was.disk (disk_of piped.opened.held.journal)
      piped.opened.opened.is.quiet in
      let first = ready_opens kinds.disks piped.opened in
      let during = s.one.connection.images in
      let last = closed_opens kinds.disks piped.closed in
      let later : (crash_of (muted piped.before.told kinds.disks) was.disk).moment ≤ (crash_of (muted piped.before.told kinds.disks) (disk_of piped.before.journal)).moment =
      omega (arith, quiet.later, first.later) in
      let then = no_more (last.moves t x (omega (arith, le, later, during.later))
      (subst (λ (b : Bool). (crash_of (muted b kinds.disks) is.disk).openings t x) (sym piped.goes_on.same_tells) o)) in
      ⊎_elim
      (λ before. inl (no_more (quiet.moves t x le (no_more (first.moves t x (omega (arith, le, quiet.later)) before)))))
      (λ passed. inr passed)
      (during.opened refl ids t x (omega (arith, le, later)) then)

  pub pipes_leave_ready : KeepsSettled → PipesLeaveReady kinds
  pipes_leave_ready stays known namespace was is status piped told ids image now =
      let x = piped.near (told_first known (Some namespace) was is status piped told) image now in
      settled_next namespace image piped.after.book x.0 (piped.goes_on.grows.namespace ∙ ready_in kinds.disks piped.opened)
      (λ none. sound_last known (Some namespace) was is status piped told) ids x.2 x.1
      (right_last known (Some namespace) was is status piped told stays image now)

  pub captures_come_back : FilesStandForOneBook → FilesStandForNoVolume → CapturesComeBack kinds
  captures_come_back one no_volume known namespace was is status piped told ids image x now stands =
      let y = piped.near (told_first known (Some namespace) was is status piped told) image now in
      all_next one no_volume image piped.after.book y.0 x ids y.2 y.1 stands
