-- What the command `follow` leaves.
use Rattle.std.proofs.Common.{◌≡◌, ◌⊎◌, ℕ, Bool, IsTrue, List, [], ◌∷◌, length, Option, Err, refl, sym, subst, ◌∙◌, inl, inr, ⊎_elim, arith}
use Rattle.std.specs.Prelude.{◌++◌, ⊤, decimal}
use Rattle.archive_core.specs.Holdings.{Holdings}
use Rattle.archive_settling.proofs.FinishedLaws.{checkpoints_later, same_checkpoints_of}
use Rattle.command.specs.Settling.{IsOf}
use Rattle.disk_model.specs.Crash.{Leaves}
use Rattle.warc_journal.specs.Extents.{cdxj_files}
use Rattle.archive_reopening.specs.Known.{by_checkpoints}
use Rattle.archive_core.proofs.LastingLaws.{stands_of}
use Rattle.archive_reopening.specs.Standing.{KeepsOn}
use Rattle.archive_core.specs.Told.{told_of}
use Rattle.archive_shelf.proofs.CallLaws.{no_more}
use Rattle.archive_shelf.specs.Answers.{CountsIf}
use Rattle.archive_shelf.specs.Openings.{Moves, SameBook, StaysCovered}
use Rattle.archive_volumes.proofs.ChangeLaws.{DiskLaws, laws_muted, opens_now}
use Rattle.archive_volumes.specs.Volumes.{OpensNear, crash_of, muted}
use Rattle.capture.specs.Captures.{captures}
use Rattle.capture.specs.declared.book.Book.{Book}
use Rattle.capture.specs.declared.site.Site.{Site}
use Rattle.disk_model.specs.declared.disk.Disk.{Ghosts as Disks}
use Rattle.exchange.specs.declared.aim.Target.{Target}
use Rattle.outside.specs.declared.dialer.Dialer.{Ghosts as Dialers}
use Rattle.outside.specs.declared.sink.Sink.{Ghosts as Sinks}
use Rattle.command.proofs.OpeningLaws.{ids_differ, only_one}
use Rattle.replica.proofs.FollowLaws.{at_last, ended_unasked}
use Rattle.replica.specs.Following.{IsOfRefused, IsOnWay, OpensBehind, Step, is_disk_stop}
use Rattle.following.specs.Follows.{Follows, FollowsTo}
use Rattle.httparse.specs.Ascii.{line_feed}
use Rattle.command.specs.Objects.{Objects}
use Rattle.command.specs.Opening.{IsOpened}
use Rattle.command.specs.Printing.{LacksMemory, Prints, printed_as}
use Rattle.replica.specs.Sources.{source_of}
use Rattle.replica.specs.declared.asking.SourceFault.TheVariants as sources
use Rattle.replica.specs.declared.following.Stop.TheVariants.{Source}
use Rattle.command.specs.declared.status.Status.{Status}
use Rattle.command.specs.declared.status.Status.TheVariants as status
use Rattle.warc_journal.specs.Journals.{disk_of}

-- there was no memory to ask
pub unasked : {D N M O : Type 0} (disks : Disks D) (dialers : Dialers N M) (sinks : Sinks O) (tells : Bool) (source : Target) (now : Holdings D) (dialer : N) (out : O)
    → FollowsTo disks dialers sinks tells source now now dialer dialer (printed_as out out status.Memory)
unasked disks dialers sinks tells source now dialer out = record {
  result = Err (Source (length (captures now.book)) sources.Memory);
  followed = ended_unasked disks source tells now (dialers.links dialer);
  dialer_faults = refl;
  told = record { status_is = refl; same = refl };
}

-- a text that tells a number
pub told_number : {O : Type 0} (sinks : Sinks O) (said : Status) (words : List ℕ) (n m : ℕ) (was is : O) (result : Status) → n ≡ m
    → Prints sinks said (words ++ decimal n ++ (line_feed ∷ [])) was is result ⊎ LacksMemory sinks was is result
    → Prints sinks said (words ++ decimal m ++ (line_feed ∷ [])) was is result ⊎ LacksMemory sinks was is result
told_number sinks said words n m was is result same told =
    subst (λ (k : ℕ). Prints sinks said (words ++ decimal k ++ (line_feed ∷ [])) was is result ⊎ LacksMemory sinks was is result) same told

behind_so : {D : Type 0} (steps : List (Step D)) (reached : Book) (Before Now : Book → Type 0) (x : Book) → (Before x → Now x)
    → OpensBehind steps reached Before x → OpensBehind steps reached Now x
behind_so [] reached Before Now x go o = go o
behind_so (step ∷ steps) reached Before Now x go o = o

covered_so : {D : Type 0} (disks : Disks D) (was is : D) (before after : Bool) → before ≡ disks.tells → after ≡ disks.tells
    → StaysCovered (crash_of (muted before disks) was) (crash_of (muted after disks) is) → StaysCovered (crash_of disks was) (crash_of disks is)
covered_so disks was is before after same_before same_after stays =
    subst (λ (told : Bool). StaysCovered (crash_of disks was) (crash_of (muted told disks) is)) same_after
    (subst (λ (told : Bool). StaysCovered (crash_of (muted told disks) was) (crash_of (muted after disks) is)) same_before stays)

moves_so : {D : Type 0} (disks : Disks D) (was is : D) (before after : Bool) (Allowed : Book → Type 0) → before ≡ disks.tells → after ≡ disks.tells
    → Moves (crash_of (muted before disks) was) (crash_of (muted after disks) is) Allowed → Moves (crash_of disks was) (crash_of disks is) Allowed
moves_so disks was is before after Allowed same_before same_after moves =
    subst (λ (told : Bool). Moves (crash_of disks was) (crash_of (muted told disks) is) Allowed) same_after
    (subst (λ (told : Bool). Moves (crash_of (muted told disks) was) (crash_of (muted after disks) is) Allowed) same_before moves)

follows_left : {D N M C O : Type 0} (disks : Disks D) (dialers : Dialers N M) (sinks : Sinks O) (tells : Bool) (known : Option Book) → (laws : DiskLaws disks) (asked : Option (List ℕ)) (site : Site)
    (was is : Objects D ⊤ (N × C) O) (status : Status) (held left : Holdings D)
    → IsOpened disks (by_checkpoints was.disk asked known) held → (IsTrue held.told → Leaves (disks.images (disk_of held.journal)) (IsOf held.book))
    → (IsTrue disks.tells → KeepsOn disks was.disk held) → (IsTrue left.told → OpensNear disks (disk_of left.journal) left.book)
    → FollowsTo disks dialers sinks tells (source_of site) held left was.crew.0 is.crew.0 (printed_as was.out is.out status)
    → is.crew.1 ≡ was.crew.1 → Follows disks dialers sinks tells known asked site was (record is { disk = disk_of left.journal }) status
follows_left disks dialers sinks tells known laws asked site was is status held left opened are standing near follows clock =
    let f = follows.followed in
    let stays = f.goes_on.same_told in
    let quiet = opened.is.quiet in
    record {
      before = held;
      after = left;
      opened = opened;
      follows = follows;
      closed = refl;
      near = λ told. near (stays ∙ told);
      bytes = λ so.
          let on = standing so in
          record { stood = on.stood; on = on.on; lasts = (f.goes_on.stands so on.stood (stands_of disks laws on.stood held on.keeps)).lasts };
      right = λ told image now.
          let before = f.goes_on.kept (cdxj_files image) (stays ∙ told, image, now, refl) in
          checkpoints_later held.book left.book image f.goes_on.grows
          (same_checkpoints_of image before.1 held.book (sym before.3) (are told before.1 before.2).checkpoints);
      covered = λ told t le all.
          let tells = (opened.is.whole told).told_is in
          covered_so disks (disk_of held.journal) (disk_of left.journal) held.told left.told tells (stays ∙ tells) f.goes_on.covered t
          (omega (arith, le, quiet.later)) (quiet.covered t le all);
      disk_faults = subst (λ (n : ℕ). CountsIf (is_disk_stop follows.result) n (told_of disks left).faults) opened.is.faults f.faults;
      moves = λ told ids last t x le o.
          let tells = (opened.is.whole told).told_is in
          ⊎_elim
          (λ then. inl (no_more (quiet.moves t x le then)))
          (λ on. inr on)
          (moves_so disks (disk_of held.journal) (disk_of left.journal) held.told left.told
          (λ y. IsOnWay f.steps y ⊎ IsOfRefused follows.result f.refused f.reached y) tells (stays ∙ tells) (f.moves ids last) t x
          (omega (arith, le, quiet.later)) o);
      left = λ told ids have last image x now stands. at_last disks (source_of site) tells follows.result f.refused f.reached left.book
          (OpensBehind f.steps f.reached.book (λ b. (told_of disks held).crash.openings (told_of disks held).crash.moment b))
          (OpensBehind f.steps f.reached.book (λ b. SameBook b held.book)) x
          (λ behind. behind_so f.steps f.reached.book (λ b. (told_of disks held).crash.openings (told_of disks held).crash.moment b) (λ b. SameBook b held.book) x
          (λ o. only_one ((opened.is.whole told).state (ids_differ held.book ids) x o)) behind)
          (f.left have last x (opens_now (muted left.told disks) (laws_muted disks left.told laws) (disk_of left.journal) x image (stays ∙ told) now stands));
      same_clock = clock;
    }

-- the archive was opened, and closed behind its source
pub follows_by : {D N M C O : Type 0} (disks : Disks D) (dialers : Dialers N M) (sinks : Sinks O) (tells : Bool) (known : Option Book) → (laws : DiskLaws disks) (asked : Option (List ℕ))
    (site : Site) (was is : Objects D ⊤ (N × C) O) (out_opened : O) (status : Status) (held left : Holdings D)
    → IsOpened disks (by_checkpoints was.disk asked known) held → (IsTrue held.told → Leaves (disks.images (disk_of held.journal)) (IsOf held.book))
    → (IsTrue disks.tells → KeepsOn disks was.disk held) → is.disk ≡ disk_of left.journal → out_opened ≡ was.out
    → (IsTrue left.told → OpensNear disks is.disk left.book)
    → FollowsTo disks dialers sinks tells (source_of site) held left was.crew.0 is.crew.0 (printed_as out_opened is.out status)
    → is.crew.1 ≡ was.crew.1 → Follows disks dialers sinks tells known asked site was is status
follows_by {D} {N} {M} {C} {O} disks dialers sinks tells known laws asked site was is out_opened status held left opened are standing closed silent near follows clock =
    subst (λ (x : D). Follows disks dialers sinks tells known asked site was (record is { disk = x }) status) (sym closed)
    (follows_left disks dialers sinks tells known laws asked site was is status held left opened are standing
    (λ told. subst (λ (x : D). OpensNear disks x left.book) closed (near told))
    (subst (λ (o : O). FollowsTo disks dialers sinks tells (source_of site) held left was.crew.0 is.crew.0 (printed_as o is.out status)) silent follows) clock)
