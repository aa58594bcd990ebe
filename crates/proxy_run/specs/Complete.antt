-- When a run isn't refused, and what the next one finds.
use Rattle.std.specs.Prelude.{◌≡◌, ◌≢◌, ◌⊎◌, ℕ, ◌-◌, ◌^◌, ◌<◌, ◌≤◌, List, [], ◌++◌, length, true, IsTrue, Option, Some, None, Result, Ok, Err, ⊤}
use Rattle.archive_settling.specs.Finished.{FirstAreFinished}
use Rattle.archive_core.specs.Holdings.{Holdings, contents_of}
use Rattle.archive_reopening.specs.Known.{told_at}
use Rattle.archive_gathering.specs.Gathering.{IsIn}
use Rattle.archive_opening.specs.Telling.{IsAskedFor, IsSettledFor}
use Rattle.archive_shelf.specs.Openings.{HasIds, ImageStandsFor, IsNext, Moves}
use Rattle.archive_volumes.specs.Volumes.{crash_of, muted}
use Rattle.archive_shelf.specs.declared.depth.Depth.TheVariants.{Checkpoints}
use Rattle.archive_shelf.specs.declared.fault.StoreFault.{StoreFault}
use Rattle.archive_shelf.specs.declared.fault.StoreFault.TheVariants as stores
use Rattle.capture.specs.Captures.{captures}
use Rattle.capture.specs.declared.book.Book.{Book}
use Rattle.capture.specs.declared.captured.Stored.{Stored}
use Rattle.capture.specs.declared.site.Site.{Site}
use Rattle.disk_model.specs.Crash.{Leaves}
use Rattle.disk_model.specs.Image.{Image}
use Rattle.command.specs.Objects.{Kinds, Objects, UsesFirst, objects_of, with_one}
use Rattle.importing.specs.Imports.{Imports}
use Rattle.following.specs.Follows.{Follows}
use Rattle.proxy_run.specs.Pipes.{HasServed, Pipes}
use Rattle.proxy_run.specs.Runs.{Runs}
use Rattle.replica.specs.declared.asking.SourceFault.TheVariants as sources
use Rattle.replica.specs.declared.following.Stop.{Stop}
use Rattle.replica.specs.declared.following.Stop.TheVariants.{Source, Piece}
use Rattle.importing.specs.declared.input.InputFault.{InputFault}
use Rattle.importing.specs.declared.input.InputFault.TheVariants as input_fault
use Rattle.command.specs.declared.status.Status.{Status}
use Rattle.command.specs.declared.status.Status.TheVariants.{Done, Memory}
use Rattle.archive_pieces.specs.declared.fault.PieceFault.TheVariants as pieces
use Rattle.command.specs.declared.words.Command.TheVariants.{Check, Follow, Import, Pipe}
use Rattle.request_answer.specs.Images.{HasAllIds, IsPassed}
use Rattle.session.specs.declared.served.Served.{Served}
use Rattle.session.specs.declared.served.Served.TheVariants as served
use Rattle.request_answer.specs.Traces.{terms_of}
use Rattle.proxy_run.specs.Serving.{pipe_site}
use Rattle.warc_reader.specs.Records.{HasNoRecordAt}
use Rattle.warc_text.specs.StandsFor.{IdsDifferIn}

-- The image stands for a sound book, the ids of whose responses differ, and which opens in the namespace that is asked for: it has
-- that, or no volumes.
pub record IsReady (asked : Option (List ℕ)) (image : Image) : Type 0 where
  pub book : Book
  pub stands : ImageStandsFor image book
  pub ids : IdsDifferIn book
  pub in_namespace : (book.volumes ≡ []) ⊎ IsIn asked book

-- all captures of a book, in order, and one more at most
pub record HoldsAll (book x : Book) : Type 0 where
  pub more : List Stored
  pub few : length more ≤ 1
  pub are : captures x ≡ captures book ++ more

-- a count of faults didn't rise, and wasn't at its end
pub record IsSteady (before now : ℕ) : Type 0 where
  pub same : now ≡ before
  pub below : before < 2 ^ 64 - 1

-- the client's link failed, or its end was met inside a message
abbrev pub EndsBadly : Served → Type 0
EndsBadly served.Done = ⊥
EndsBadly served.ClientBroke = ⊤
EndsBadly served.ClientEndedEarly = ⊤
EndsBadly (served.ClientRefused refusal) = ⊥
EndsBadly served.WantOfMemory = ⊥

-- an archive was full before all captures were stored
abbrev pub IsFullBefore : Option StoreFault → Type 0
IsFullBefore None = ⊥
IsFullBefore (Some (stores.Full count limit)) = ⊤
IsFullBefore (Some stores.DiskFault) = ⊥
IsFullBefore (Some (stores.Damaged number kept found)) = ⊥
IsFullBefore (Some stores.Memory) = ⊥

-- an input that isn't taken whole: it was too long or broke off, it is no file of records, or the archive was full
abbrev pub IsNotTaken : Result (List ℕ) InputFault → Option StoreFault → Type 0
IsNotTaken (Ok file) refused = ((at : ℕ) × HasNoRecordAt file at) ⊎ IsFullBefore refused
IsNotTaken (Err input_fault.TooLong) refused = ⊤
IsNotTaken (Err input_fault.Failed) refused = ⊤
IsNotTaken (Err input_fault.Memory) refused = ⊥

-- A source that isn't followed to its end, for a fault of its own, of the way to it, or since the archive was full.
abbrev pub IsNotFollowed : Result ⊤ Stop → Type 0
IsNotFollowed (Ok done) = ⊥
IsNotFollowed (Err (Source number sources.DialFault)) = ⊤
IsNotFollowed (Err (Source number sources.OriginFault)) = ⊤
IsNotFollowed (Err (Source number sources.Malformed)) = ⊤
IsNotFollowed (Err (Source number sources.TooLong)) = ⊤
IsNotFollowed (Err (Source number (sources.Refused status))) = ⊤
IsNotFollowed (Err (Source number sources.Memory)) = ⊥
IsNotFollowed (Err (Piece number (pieces.Full count limit))) = ⊤
IsNotFollowed (Err (Piece number pieces.NotAPiece)) = ⊤
IsNotFollowed (Err (Piece number pieces.DiskFault)) = ⊥
IsNotFollowed (Err (Piece number (pieces.Damaged at kept found))) = ⊥
IsNotFollowed (Err (Piece number pieces.Memory)) = ⊥

-- The image is settled for a book whose namespace is asked for: so the next run may know it.
pub record IsReadied (asked : Option (List ℕ)) (image : Image) : Type 0 where
  pub book : Book
  pub settled : IsSettledFor image book
  pub asked_for : IsAskedFor asked book

-- The image stands for a book next to this one, and has the finished checkpoints of all of this one's sealed volumes.
pub record IsLeftSettled (book : Book) (image : Image) : Type 0 where
  pub x : Book
  pub stands : ImageStandsFor image x
  pub next : IsNext book x
  pub checkpoints : FirstAreFinished book (length book.volumes - 1) image

module _ {D G L P N M C O : Type 0} (kinds : Kinds D G L P N M C O) where
  -- neither the disk, nor the gate, nor the output failed
  pub record NoFaults {W : Type 0} (was is : Objects D G W O) : Type 0 where
    pub disk : IsSteady (kinds.disks.faults was.disk) (kinds.disks.faults is.disk)
    pub gate : IsSteady (kinds.gates.faults was.gate) (kinds.gates.faults is.gate)
    pub out : IsSteady (kinds.sinks.faults was.out) (kinds.sinks.faults is.out)

  -- a connection was served by the first member, and ended badly
  pub record ServesBadly (was is : Objects D G (List (N × C)) O) (status : Status) : Type 0 where
    pub before : Holdings D
    pub after : Holdings D
    pub first : UsesFirst was.crew is.crew
    pub served : HasServed kinds (with_one was first.before) (with_one is first.after) before after status
    pub badly : EndsBadly served.one.served

  -- Where nothing failed and what a read gives is ready, `check` prints how much there is, or memory ran out.
  abbrev pub ChecksAreAnswered : Type 0
  ChecksAreAnswered =
      (was is : Objects D G (List (N × C)) O) (status : Status) → IsTrue kinds.disks.tells → IsReady None (kinds.disks.reading was.disk) → NoFaults was is
      → (known : Option Book) (site : Option Site) → Runs kinds known Check site was is status → (status ≡ Done) ⊎ (status ≡ Memory)

  -- Where nothing failed and the book is known, `pipe` goes well, unless its connection ends badly.
  abbrev pub PipesAreAnswered : Type 0
  PipesAreAnswered =
      (known : Option Book) (namespace : List ℕ) (was is : Objects D G (List (N × C)) O) (status : Status)
      → IsTrue (told_at Checkpoints kinds.disks.tells known) → IsTrue kinds.clients_tell → IsTrue kinds.origins_tell → NoFaults was is
      → (site : Option Site) → Runs kinds known (Pipe namespace) site was is status → (status ≡ Done) ⊎ (status ≡ Memory) ⊎ ServesBadly was is status

  -- an import took not all; the crew wasn't touched
  pub record ImportsBadly (known : Option Book) (namespace : List ℕ) (was is : Objects D G (List (N × C)) O) (status : Status) : Type 0 where
    pub imported : Imports kinds.disks kinds.gates kinds.sinks kinds.clients_tell known (Some namespace) (objects_of was.disk was.gate tt was.out)
        (objects_of is.disk is.gate tt is.out) status
    pub untouched : is.crew ≡ was.crew
    pub badly : IsNotTaken imported.input imported.intake.refused

  -- And so `import` goes well, unless its input isn't taken whole.
  abbrev pub ImportsAreAnswered : Type 0
  ImportsAreAnswered =
      (known : Option Book) (namespace : List ℕ) (was is : Objects D G (List (N × C)) O) (status : Status)
      → IsTrue (told_at Checkpoints kinds.disks.tells known) → NoFaults was is → (site : Option Site)
      → Runs kinds known (Import namespace) site was is status
      → (status ≡ Done) ⊎ (status ≡ Memory) ⊎ ImportsBadly known namespace was is status

  -- a source wasn't followed to its end, with the dialer of the crew's first member; the gate wasn't touched
  pub record FollowsBadly (known : Option Book) (namespace : List ℕ) (site : Site) (was is : Objects D G (List (N × C)) O) (status : Status) : Type 0 where
    pub first : UsesFirst was.crew is.crew
    pub follows : Follows kinds.disks kinds.dialers kinds.sinks kinds.origins_tell known (Some namespace) site (objects_of was.disk tt first.before was.out)
        (objects_of is.disk tt first.after is.out) status
    pub untouched : is.gate ≡ was.gate
    pub badly : IsNotFollowed follows.follows.result

  -- And so `follow` goes well, unless its source isn't followed to its end.
  abbrev pub FollowsAreAnswered : Type 0
  FollowsAreAnswered =
      (known : Option Book) (namespace : List ℕ) (site : Site) (was is : Objects D G (List (N × C)) O) (status : Status)
      → IsTrue (told_at Checkpoints kinds.disks.tells known) → NoFaults was is → Runs kinds known (Follow namespace) (Some site) was is status
      → (status ≡ Done) ⊎ (status ≡ Memory) ⊎ FollowsBadly known namespace site was is status

  -- Each image that `follow` may leave, and so what a read gives, is settled for a book that the next run may know, where the ids differ.
  abbrev pub FollowsLeaveReady : Type 0
  FollowsLeaveReady =
      (known : Option Book) (namespace : List ℕ) (site : Site) (was is : Objects D ⊤ (N × C) O) (status : Status)
      (follows : Follows kinds.disks kinds.dialers kinds.sinks kinds.origins_tell known (Some namespace) site was is status)
      → IsTrue (told_at Checkpoints kinds.disks.tells known) → HasIds follows.after.book → (image : Image) → kinds.disks.images is.disk image
      → IsReadied (Some namespace) image

  -- Each image that `import` may leave, and so what a read gives, is settled for a book that the next run may know, where the ids differ.
  abbrev pub ImportsLeaveReady : Type 0
  ImportsLeaveReady =
      (known : Option Book) (namespace : List ℕ) (was is : Objects D G ⊤ O) (status : Status)
      (imported : Imports kinds.disks kinds.gates kinds.sinks kinds.clients_tell known (Some namespace) was is status)
      → IsTrue (told_at Checkpoints kinds.disks.tells known) → HasIds imported.after.seen → (image : Image) → kinds.disks.images is.disk image
      → IsReadied (Some namespace) image

  -- Each image that `pipe` may leave, and so what a read gives, is settled for a book that the next run may know, where the ids differ.
  abbrev pub PipesLeaveReady : Type 0
  PipesLeaveReady =
      (known : Option Book) (namespace : List ℕ) (was is : Objects D G (N × C) O) (status : Status) (piped : Pipes kinds known (Some namespace) was is status)
      → IsTrue (told_at Checkpoints kinds.disks.tells known) → HasIds piped.after.book → (image : Image) → kinds.disks.images is.disk image
      → IsReadied (Some namespace) image

  -- Where the disk didn't fail and memory sufficed, each image that `pipe` may leave has the finished checkpoint of each volume of the last book but the last,
  -- with the lines of just that volume's captures.
  abbrev pub PipesLeaveSettled : Type 0
  PipesLeaveSettled =
      (known : Option Book) (namespace : List ℕ) (was is : Objects D G (N × C) O) (status : Status) (piped : Pipes kinds known (Some namespace) was is status)
      → IsTrue (told_at Checkpoints kinds.disks.tells known) → IsSteady (kinds.disks.faults was.disk) (kinds.disks.faults is.disk) → status ≢ Memory
      → Leaves (kinds.disks.images is.disk) (IsLeftSettled piped.after.book)

  -- Where the disk didn't fail, the links tell their traffic and the ids differ, each image that `pipe` may leave stands for the last book.
  abbrev pub PipesLeaveTheLast : Type 0
  PipesLeaveTheLast =
      (known : Option Book) (namespace : List ℕ) (was is : Objects D G (N × C) O) (status : Status) (piped : Pipes kinds known (Some namespace) was is status)
      → IsTrue (told_at Checkpoints kinds.disks.tells known) → IsTrue kinds.clients_tell → IsTrue kinds.origins_tell
      → IsSteady (kinds.disks.faults was.disk) (kinds.disks.faults is.disk) → HasIds piped.after.book
      → Leaves (kinds.disks.images is.disk) (λ image. ImageStandsFor image piped.after.book)

  -- Each book that may be opened since an earlier moment might have been before the call, or one of the connection's rounds may leave it, wherever it is stopped.
  abbrev pub PipesPassOn : Type 0
  PipesPassOn =
      (known : Option Book) (namespace : List ℕ) (was is : Objects D G (N × C) O) (status : Status) (piped : Pipes kinds known (Some namespace) was is status)
      (s : HasServed kinds was is piped.before piped.after piped.said)
      → HasAllIds s.one.connection.rounds
      → Moves (crash_of (muted piped.before.told kinds.disks) was.disk) (crash_of (muted piped.before.told kinds.disks) is.disk)
      (IsPassed (terms_of pipe_site true (contents_of piped.before)) s.one.connection.rounds)

  -- What was stored comes back: each book for which such an image stands holds all captures of the last book in order, and one more
  -- at most.
  abbrev pub CapturesComeBack : Type 0
  CapturesComeBack =
      (known : Option Book) (namespace : List ℕ) (was is : Objects D G (N × C) O) (status : Status) (piped : Pipes kinds known (Some namespace) was is status)
      → IsTrue (told_at Checkpoints kinds.disks.tells known) → HasIds piped.after.book → (image : Image) (x : Book) → kinds.disks.images is.disk image
      → ImageStandsFor image x → HoldsAll piped.after.book x
