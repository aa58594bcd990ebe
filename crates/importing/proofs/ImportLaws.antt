-- What the command `import` leaves.
use Rattle.std.proofs.Common.{◌≡◌, ◌⊎◌, ℕ, Bool, true, IsTrue, List, [], ◌∷◌, ◌++◌, length, Option, Some, None, Result, Ok, Err, refl, sym, ap, subst, ◌∙◌, inl, inr, ⊎_elim, arith}
use Rattle.std.specs.List.{flat_map}
use Rattle.std.specs.Prelude.{⊤}
use Rattle.archive_core.proofs.TellingLaws.{quiet_muted}
use Rattle.archive_core.specs.Holdings.{Holdings, contents_of}
use Rattle.archive_settling.proofs.FinishedLaws.{checkpoints_later, same_checkpoints_of}
use Rattle.archive_reopening.specs.Known.{IsReopenedKnown, by_checkpoints}
use Rattle.command.specs.Settling.{IsOf}
use Rattle.disk_model.specs.Crash.{Leaves}
use Rattle.warc_journal.specs.Extents.{cdxj_files}
use Rattle.archive_reopening.specs.Standing.{LeavesStored}
use Rattle.archive_core.specs.Told.{told_of, told_on}
use Rattle.archive_shelf.proofs.CallLaws.{no_more, opened_before}
use Rattle.archive_shelf.specs.Answers.{CountsIf}
use Rattle.archive_shelf.specs.Contents.{Contents}
use Rattle.archive_shelf.specs.Openings.{SameBook}
use Rattle.archive_shelf.specs.Told.{Told}
use Rattle.archive_shelf.specs.declared.fault.StoreFault.{StoreFault}
use Rattle.archive_shelf.specs.declared.fault.StoreFault.TheVariants.{Full, DiskFault, Damaged, Memory}
use Rattle.archive_volumes.proofs.ChangeLaws.{DiskLaws, laws_muted, opens_now}
use Rattle.archive_volumes.proofs.StoreLaws.{opens_earlier}
use Rattle.archive_volumes.specs.Volumes.{IsQuiet, OpensNear, crash_of, muted}
use Rattle.capture.specs.declared.book.Book.{Book}
use Rattle.capture.specs.declared.captured.Taken.{Taken}
use Rattle.disk_model.specs.declared.disk.Disk.{Ghosts as Disks}
use Rattle.outside.specs.declared.gate.Gate.{Ghosts as Gates}
use Rattle.outside.specs.declared.sink.Sink.{Ghosts as Sinks}
use Rattle.command.proofs.OpeningLaws.{ids_differ, only_one}
use Rattle.importing.proofs.KeepingLaws.{keeps_none}
use Rattle.importing.specs.Imports.{Imports, IsTellable, Tells, TellsFile, status_after, takens_in}
use Rattle.command.specs.Gates.{gate_told, GateTold}
use Rattle.command.specs.Objects.{Objects}
use Rattle.importing.specs.Inputs.{Gives}
use Rattle.importing.specs.Keeping.{Intake, Keeps, OpensAtLast, OpensBehind, OpensPast, Step, intake_of, is_denied}
use Rattle.command.specs.Opening.{IsOpened, usual_limits}
use Rattle.command.specs.Printing.{LacksMemory, Printed, Prints, printed_as}
use Rattle.importing.specs.Texts.{refusal_line, skip_line, skips_in, summary_line}
use Rattle.importing.specs.declared.input.InputFault.{InputFault}
use Rattle.importing.specs.declared.input.InputFault.TheVariants as input_fault
use Rattle.command.specs.declared.status.Status.{Status}
use Rattle.importing.specs.declared.tally.Tally.{Tally}
use Rattle.importing.specs.steps.Importing.{HasImported, ImportsFirst}
use Rattle.importing.specs.steps.Taking.{HasBegun, HasSkips, HasTakenAll}
use Rattle.warc_journal.specs.Journals.{disk_of}
use Rattle.warc_reader.proofs.InTurn.{all_given}
use Rattle.warc_reader.specs.Imports.{IsImport}
use Rattle.warc_reader.specs.declared.import.Outcome.{Outcome}

-- ---- a file

pub imported_whole : {O : Type 0} (alone : Bool) (sinks : Sinks O) (file : List ℕ) (tally : Tally) (was is : Told) (printed : Printed O)
    → HasTakenAll alone file tally was is
    → ((other : List ℕ) (outcomes : List Outcome) → IsImport other outcomes → HasSkips tally outcomes → IsTellable tally.refused
    → TellsFile sinks (intake_of (takens_in outcomes) tally.stored tally.refused) printed other)
    → HasImported alone sinks (Ok file) was is printed
imported_whole alone sinks file tally was is printed taken told = record {
  intake = intake_of (takens_in taken.outcomes) tally.stored tally.refused;
  keeps = taken.keeps;
  told = told file taken.outcomes taken.import taken.skips taken.tellable;
}

pub imported_front : {O : Type 0} (alone : Bool) (sinks : Sinks O) (file : List ℕ) (was is : Told) (printed : Printed O)
    → HasBegun alone file was is → LacksMemory sinks printed.was printed.is printed.status → HasImported alone sinks (Ok file) was is printed
imported_front alone sinks file was is printed begun lacks = record {
  intake = intake_of (takens_in begun.outcomes) begun.stored begun.refused;
  keeps = begun.keeps;
  told = inr (inr (record { outcomes = begun.outcomes; begun = inr (begun.at, begun.given); takens_are = refl; lacks = lacks }));
}

pub imported_none : {O : Type 0} (alone : Bool) (sinks : Sinks O) (input : Result (List ℕ) InputFault) (now : Told) (printed : Printed O)
    → Tells sinks (intake_of [] 0 None) printed input → HasImported alone sinks input now now printed
imported_none alone sinks input now printed told = record {
  intake = intake_of [] 0 None;
  keeps = keeps_none alone 0 None now refl refl;
  told = told;
}

pub told_whole : {O : Type 0} (sinks : Sinks O) (file : List ℕ) (tally : Tally) (outcomes : List Outcome) (text : List ℕ) (printed : Printed O)
    → IsImport file outcomes → HasSkips tally outcomes → IsTellable tally.refused
    → text ≡ tally.lines.items ++ (summary_line tally.stored tally.skipped ++ refusal_line tally.refused)
    → Prints sinks (status_after tally.refused) text printed.was printed.is printed.status
    → TellsFile sinks (intake_of (takens_in outcomes) tally.stored tally.refused) printed file
told_whole sinks file tally outcomes text printed import skips tellable is told = inl (record {
  outcomes = outcomes;
  import = import;
  takens_are = refl;
  tellable = tellable;
  told = subst (λ t. Prints sinks (status_after tally.refused) t printed.was printed.is printed.status)
      (is ∙ ap (λ ls. ls ++ (summary_line tally.stored tally.skipped ++ refusal_line tally.refused)) skips.lines_are
      ∙ ap (λ (n : ℕ). flat_map skip_line (skips_in outcomes) ++ (summary_line tally.stored n ++ refusal_line tally.refused)) skips.count_is)
      told;
})

pub broke_off : {O : Type 0} (sinks : Sinks O) (file : List ℕ) (stored : ℕ) (refused : Option StoreFault) (printed : Printed O)
    → LacksMemory sinks printed.was printed.is printed.status → TellsFile sinks (intake_of [] stored refused) printed file
broke_off sinks file stored refused printed lacks = inr (inr (record { outcomes = []; begun = inl refl; takens_are = refl; lacks = lacks }))

pub untold_whole : {O : Type 0} (sinks : Sinks O) (file : List ℕ) (tally : Tally) (outcomes : List Outcome) (printed : Printed O) → IsImport file outcomes
    → LacksMemory sinks printed.was printed.is printed.status → TellsFile sinks (intake_of (takens_in outcomes) tally.stored tally.refused) printed file
untold_whole sinks file tally outcomes printed import lacks = inr (inr (record {
  outcomes = outcomes;
  begun = inr (length file, all_given file outcomes import);
  takens_are = refl;
  lacks = lacks;
}))

-- ---- the gate's first connection

pub first_read : {O : Type 0} (alone : Bool) (sinks : Sinks O) (clients_tell : Bool) (gate_was gate_is : GateTold) (was is : Told) (printed : Printed O)
    (input : Result (List ℕ) InputFault) → (IsTrue clients_tell → Gives gate_was gate_is input)
    → (input ≡ Err input_fault.Failed) ⊎ (gate_is.faults ≡ gate_was.faults) → HasImported alone sinks input was is printed
    → ImportsFirst alone sinks clients_tell gate_was gate_is was is printed
first_read alone sinks clients_tell gate_was gate_is was is printed input came failed imported = record {
  input = input;
  came = came;
  gate_failed = failed;
  imported = imported;
}

-- a fault that a result of another type tells
abbrev fails : {E : Type 0} (T : Type 0) → E → Result T E
fails T fault = Err fault

pub failed_as : {E T U : Type 0} (fault other : E) (P : Type 0) → (fails T fault ≡ fails T other) ⊎ P → (fails U fault ≡ fails U other) ⊎ P
failed_as {E} {T} {U} fault other P (inl same) = inl (ap (λ (e : E). fails U e) (inner same))
  where
    inner : fails T fault ≡ fails T other → fault ≡ other
    inner e = cc
failed_as fault other P (inr p) = inr p

pub failed_not : {E T U : Type 0} (x : T) (y : U) (other : E) (P : Type 0) → (Ok x ≡ fails T other) ⊎ P → (Ok y ≡ fails U other) ⊎ P
failed_not x y other P (inl same) = absurd cc
failed_not x y other P (inr p) = inr p

-- ---- the archive

past_by : (fault : StoreFault) (refused : Taken) (reached now : Contents) (P Q : Book → Type 0) (x : Book) → ((b : Book) → P b → Q b)
    → OpensPast fault refused reached now P x → OpensPast fault refused reached now Q x
past_by (Full count limit) refused reached now P Q x f h = f x h
past_by DiskFault refused reached now P Q x f (inl (same, h)) = inl (same, f x h)
past_by DiskFault refused reached now P Q x f (inr other) = inr other
past_by (Damaged number kept found) refused reached now P Q x f h = f x h
past_by Memory refused reached now P Q x f h = f x h

behind_by : (steps : List Step) (reached : Contents) (P Q : Book → Type 0) (x : Book) → ((b : Book) → P b → Q b) → OpensBehind steps reached P x
    → OpensBehind steps reached Q x
behind_by [] reached P Q x f h = f x h
behind_by (step ∷ steps) reached P Q x f h = h

-- of more books before, more may be opened at last
last_by : (refused : Option StoreFault) (rest : List Taken) (steps : List Step) (reached now : Contents) (P Q : Book → Type 0) (x : Book) → ((b : Book) → P b → Q b)
    → OpensAtLast refused rest reached now (OpensBehind steps reached P) x → OpensAtLast refused rest reached now (OpensBehind steps reached Q) x
last_by None rest steps reached now P Q x f h = behind_by steps reached P Q x f h
last_by (Some fault) [] steps reached now P Q x f h = behind_by steps reached P Q x f h
last_by (Some fault) (t ∷ others) steps reached now P Q x f h =
    past_by fault t reached now (OpensBehind steps reached P) (OpensBehind steps reached Q) x (λ b p. behind_by steps reached P Q b f p) h

module _ {D : Type 0} (disks : Disks D) (laws : DiskLaws disks) (given : D) (asked : Option (List ℕ)) (held left : Holdings D)
    (known : Option Book) (reopened : IsReopenedKnown disks (by_checkpoints given asked known) usual_limits held) where
  -- its book is told only where the disk tells
  told_tells : IsTrue held.told → IsTrue disks.tells
  told_tells told = sym (reopened.whole told).told_is ∙ told

  -- from the disk that was given, over which nothing was written until the archive was opened
  pub keeps_since : (intake : Intake) → Keeps true intake (told_of disks held) (told_of disks left)
      → Keeps true intake (told_on disks given (contents_of held)) (told_of disks left)
  keeps_since intake k =
      let quiet : IsQuiet (muted held.told disks) given (disk_of held.journal) =
      quiet_muted disks held.told told_tells given (disk_of held.journal) reopened.quiet in
      record {
        steps = k.steps;
        rest = k.rest;
        reached = k.reached;
        in_order = k.in_order;
        count_is = k.count_is;
        stored = k.stored;
        ends = k.ends;
        goes_on = record {
          grows = k.goes_on.grows;
          shows = k.goes_on.shows;
          mine = k.goes_on.mine;
          same_tells = k.goes_on.same_tells;
          same_limits = k.goes_on.same_limits;
          consistent = k.goes_on.consistent;
          faults = omega (arith, k.goes_on.faults, reopened.faults);
          later = omega (arith, quiet.later, k.goes_on.later);
          covered = λ t le all. k.goes_on.covered t (omega (arith, le, quiet.later)) (quiet.covered t le all);
          kept = λ files has. quiet.kept files (k.goes_on.kept files has);
        };
        faults = subst (λ (n : ℕ). CountsIf (is_denied intake.refused) n (told_of disks left).faults) reopened.faults k.faults;
        moves = λ ids last t x le o. ⊎_elim
            (λ then. inl (no_more (quiet.moves t x le then)))
            (λ on. inr on)
            (k.moves ids last t x (omega (arith, le, quiet.later)) o);
        left = λ a tells ids last x o. last_by intake.refused k.rest k.steps k.reached (contents_of left)
            (λ b. (told_of disks held).crash.openings (told_of disks held).crash.moment b)
            (λ b. (crash_of (muted held.told disks) given).openings (crash_of (muted held.told disks) given).moment b) x
            (opened_before (crash_of (muted held.told disks) given) (told_of disks held).crash
            (opens_earlier (muted held.told disks) (laws_muted disks held.told laws) (disk_of held.journal)) quiet)
            (k.left a tells ids last x o);
      }

-- an archive that was opened, and what was left of it
imports_left : {D G L P O : Type 0} (disks : Disks D) (gates : Gates G L P) (sinks : Sinks O) (clients_tell : Bool) → (laws : DiskLaws disks) (asked : Option (List ℕ))
    (was is : Objects D G ⊤ O) (status : Status) (held left : Holdings D) (known : Option Book) → IsOpened disks (by_checkpoints was.disk asked known) held
    → (IsTrue held.told → Leaves (disks.images (disk_of held.journal)) (IsOf held.book)) → (IsTrue left.told → OpensNear disks (disk_of left.journal) left.book)
    → (IsTrue disks.tells → LeavesStored disks was.disk held.book (disk_of left.journal) left.book)
    → ImportsFirst true sinks clients_tell (gate_told gates was.gate) (gate_told gates is.gate) (told_of disks held) (told_of disks left) (printed_as was.out is.out status)
    → Imports disks gates sinks clients_tell known asked was (record is { disk = disk_of left.journal }) status
unfolding keeps_since
imports_left disks gates sinks clients_tell laws asked was is status held left known opened are near stored first =
    let k = first.imported.keeps in
    let so : IsTrue held.told → IsTrue left.told = λ told. k.goes_on.same_tells ∙ told in
    record {
      before = held;
      after = contents_of left;
      opened = opened;
      input = first.input;
      came = first.came;
      gate_failed = first.gate_failed;
      intake = first.imported.intake;
      keeps = keeps_since disks laws was.disk asked held left known opened.is first.imported.intake first.imported.keeps;
      told = first.imported.told;
      near = λ told. near (so told);
      stored = stored;
      right = λ told image now.
          let before = k.goes_on.kept (cdxj_files image) (so told, image, now, refl) in
          checkpoints_later held.book left.book image k.goes_on.grows
          (same_checkpoints_of image before.1 held.book (sym before.3) (are told before.1 before.2).checkpoints);
      left = λ told ids have last image x now stands. last_by first.imported.intake.refused k.rest k.steps k.reached (contents_of left)
          (λ b. (told_of disks held).crash.openings (told_of disks held).crash.moment b) (λ b. SameBook b held.book) x
          (λ b o. only_one ((opened.is.whole told).state (ids_differ held.book ids) b o))
          (k.left refl told have last x
          (opens_now (muted left.told disks) (laws_muted disks left.told laws) (disk_of left.journal) x image (so told) now stands));
    }

-- the archive was opened, and closed behind the import
pub imports_by : {D G L P O : Type 0} (disks : Disks D) (gates : Gates G L P) (sinks : Sinks O) (clients_tell : Bool) → (laws : DiskLaws disks) (asked : Option (List ℕ))
    (was is : Objects D G ⊤ O) (out_opened : O) (status : Status) (held left : Holdings D) (known : Option Book)
    → IsOpened disks (by_checkpoints was.disk asked known) held → (IsTrue held.told → Leaves (disks.images (disk_of held.journal)) (IsOf held.book))
    → is.disk ≡ disk_of left.journal → out_opened ≡ was.out
    → (IsTrue left.told → OpensNear disks is.disk left.book) → (IsTrue disks.tells → LeavesStored disks was.disk held.book is.disk left.book)
    → ImportsFirst true sinks clients_tell (gate_told gates was.gate) (gate_told gates is.gate) (told_of disks held) (told_of disks left) (printed_as out_opened is.out status)
    → Imports disks gates sinks clients_tell known asked was is status
imports_by {D} {G} {L} {P} {O} disks gates sinks clients_tell laws asked was is out_opened status held left known opened are closed silent near stored first =
    subst (λ (d : D). Imports disks gates sinks clients_tell known asked was (record is { disk = d }) status) (sym closed)
    (imports_left disks gates sinks clients_tell laws asked was is status held left known opened are
    (λ told. subst (λ (d : D). OpensNear disks d left.book) closed (near told))
    (λ tells. subst (λ (d : D). LeavesStored disks was.disk held.book d left.book) closed (stored tells))
    (subst (λ (o : O). ImportsFirst true sinks clients_tell (gate_told gates was.gate) (gate_told gates is.gate) (told_of disks held) (told_of disks left) (printed_as o is.out status))
    silent first))
