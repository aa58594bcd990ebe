-- What a run leaves, by what its words ask for.
use Rattle.std.specs.Prelude.{◌≡◌, ◌⊎◌, ℕ, Bool, true, false, IfSome, IsTrue, List, is_some, Option, Some, None, ⊤}
use Rattle.archive_shelf.specs.declared.depth.Depth.TheVariants.{Whole}
use Rattle.capture.specs.declared.book.Book.{Book}
use Rattle.capture.specs.declared.site.Site.{Site}
use Rattle.disk_model.specs.declared.disk.Disk.{Ghosts as Disks}
use Rattle.outside.specs.declared.sink.Sink.{Ghosts as Sinks}
use Rattle.proxy_run.specs.Checks.{IsCounted}
use Rattle.following.specs.Follows.{Follows}
use Rattle.importing.specs.Imports.{Imports}
use Rattle.archive_reopening.specs.Known.{by_checkpoints}
use Rattle.command.specs.Beginning.{BeginsWith, IsNotBegun, MayBegin, stores}
use Rattle.command.specs.Objects.{Kinds, Objects, UsesFirst, objects_of, with_one}
use Rattle.proxy_run.specs.Pipes.{Pipes, Refuses}
use Rattle.command.specs.Printing.{LacksMemory, Printed, Prints, printed_as}
use Rattle.proxy_run.specs.Serves.{LacksShelves, Serves}
use Rattle.command.specs.Texts.{usage}
use Rattle.load_trial.specs.Trials.{IsTried}
use Rattle.verifying.specs.Verifies.{IsVerified}
use Rattle.command.specs.declared.status.Status.{Status}
use Rattle.command.specs.declared.status.Status.TheVariants as status
use Rattle.command.specs.declared.words.Command.{Command}
use Rattle.command.specs.declared.words.Command.TheVariants.{Check, Follow, Import, Pipe, Serve, Trial, Verify}

-- what is asked of a disk whose book is known: that it begins as the command asks; of others nothing
abbrev pub MayRun : {D : Type 0} → Disks D → D → Option Book → Option Command → Type 0
MayRun disks disk None found = ⊤
MayRun disks disk (Some book) found = IfSome found (MayBegin disks disk (Some book))

-- The words name no site, and the usage was printed, or there was no memory to look.
abbrev pub NamesNone : {O : Type 0} → Sinks O → Option Site → O → O → Status → Type 0
NamesNone sinks site was is result = ((site ≡ None) × Prints sinks status.Words usage was is result) ⊎ LacksMemory sinks was is result

-- whether a command has a base among its words: where a server listens, or whose captures are followed
abbrev pub has_base : Command → Bool
has_base Check = false
has_base (Follow namespace) = true
has_base (Import namespace) = false
has_base (Pipe namespace) = false
has_base (Serve namespace workers) = true
has_base (Trial count seed) = false
has_base (Verify workers) = false

-- whether a site is named, if one has to be
abbrev pub is_named : Bool → Option Site → Bool
is_named true site = is_some site
is_named false site = true

-- the words name the base that their command needs, if they ask for one
abbrev pub HasBase : Option Command → Option Site → Type 0
HasBase None site = ⊤
HasBase (Some command) site = IsTrue (is_named (has_base command) site)

-- They name none that it needs, and the usage was printed, or there was no memory to look.
abbrev pub LacksBase : {O : Type 0} → Sinks O → Option Command → Option Site → O → O → Status → Type 0
LacksBase sinks None site was is result = ⊥
LacksBase sinks (Some command) site was is result =
    ((is_named (has_base command) site ≡ false) × Prints sinks status.Words usage was is result) ⊎ LacksMemory sinks was is result

-- what the words' command begins with, once its base was looked at
abbrev pub IsReady : {D : Type 0} → Disks D → Option Command → Option Site → D → D → Type 0
IsReady disks None site was begun = begun ≡ was
IsReady disks (Some command) site was begun = IsTrue (is_named (has_base command) site) × BeginsWith disks (stores command) was begun

-- It didn't begin: its base is none, or there was no memory to look at it, and the disk wasn't touched; or the disk failed.
abbrev pub IsUnready : {D O : Type 0} → Disks D → Sinks O → Option Command → Option Site → D → D → Printed O → Type 0
IsUnready disks sinks None site was is printed = ⊥
IsUnready disks sinks (Some command) site was is printed =
    (LacksBase sinks (Some command) site printed.was printed.is printed.status × (is ≡ was))
    ⊎ (IsTrue (is_named (has_base command) site) × IsTrue (stores command) × IsNotBegun disks sinks was is printed)

module _ {D G L P N M C O : Type 0} (kinds : Kinds D G L P N M C O) (known : Option Book) where
  -- the words ask for nothing: the usage was printed, and nothing else was touched
  pub record Misspells (was is : Objects D G (List (N × C)) O) (result : Status) : Type 0 where
    pub printed : Prints kinds.sinks status.Words usage was.out is.out result
    pub untouched : is ≡ record was { out = is.out }

  -- By what the words ask for, and the site of a base among them, and which book is known of the disk, if one is. For a pipe, and to follow a source, the first
  -- member of the crew works, and the others stay; an import doesn't touch the crew, and to follow a source doesn't touch the gate. There may be no memory to look
  -- at the base: then nothing is touched. Where an archive is counted, or the bytes of its volumes are checked, neither gate nor crew is touched, and a trial,
  -- which is made in memory, doesn't touch the disk either. A check of bytes doesn't depend on how many workers made it.
  abbrev pub Runs : Command → Option Site → Objects D G (List (N × C)) O → Objects D G (List (N × C)) O → Status → Type 0
  Runs (Pipe namespace) site was is result =
      ((first : UsesFirst was.crew is.crew) × Pipes kinds known (Some namespace) (with_one was first.before) (with_one is first.after) result)
      ⊎ Refuses kinds (by_checkpoints was.disk (Some namespace) known) was is result
  Runs (Import namespace) site was is result =
      (Imports kinds.disks kinds.gates kinds.sinks kinds.clients_tell known (Some namespace) (objects_of was.disk was.gate tt was.out) (objects_of is.disk is.gate tt is.out) result
      × (is.crew ≡ was.crew))
      ⊎ Refuses kinds (by_checkpoints was.disk (Some namespace) known) was is result
  Runs Check site was is result =
      (IsCounted kinds.disks kinds.sinks was.disk is.disk (printed_as was.out is.out result) × (is ≡ record was { disk = is.disk; out = is.out }))
      ⊎ Refuses kinds (record { disk = was.disk; depth = Whole; asked = None; known = None }) was is result
  Runs (Follow namespace) None was is result = Misspells was is result ⊎ ((result ≡ status.Memory) × (is ≡ was))
  Runs (Follow namespace) (Some site) was is result =
      ((first : UsesFirst was.crew is.crew)
      × Follows kinds.disks kinds.dialers kinds.sinks kinds.origins_tell known (Some namespace) site (objects_of was.disk tt first.before was.out) (objects_of is.disk tt first.after is.out) result
      × (is.gate ≡ was.gate))
      ⊎ Refuses kinds (by_checkpoints was.disk (Some namespace) known) was is result ⊎ ((result ≡ status.Memory) × (is ≡ was))
  Runs (Serve namespace workers) None was is result = Misspells was is result ⊎ ((result ≡ status.Memory) × (is ≡ was))
  Runs (Serve namespace workers) (Some site) was is result =
      Serves kinds known (record { asked = Some namespace; site = site; workers = workers }) was is result
      ⊎ LacksShelves kinds known (Some namespace) was is result
      ⊎ Refuses kinds (by_checkpoints was.disk (Some namespace) known) was is result ⊎ ((result ≡ status.Memory) × (is ≡ was))
  Runs (Trial count seed) site was is result =
      (((text : List ℕ) × IsTried count seed text × Prints kinds.sinks status.Done text was.out is.out result) ⊎ LacksMemory kinds.sinks was.out is.out result)
      × (is ≡ record was { out = is.out })
  Runs (Verify workers) site was is result =
      (IsVerified kinds.disks kinds.sinks (by_checkpoints was.disk None known) is.disk (printed_as was.out is.out result) × (is ≡ record was { disk = is.disk; out = is.out }))
      ⊎ Refuses kinds (by_checkpoints was.disk None known) was is result

  -- The disk failed before an archive was opened to store, and neither gate nor crew was touched.
  pub record FailsToBegin (was is : Objects D G (List (N × C)) O) (result : Status) : Type 0 where
    pub begun : IsNotBegun kinds.disks kinds.sinks was.disk is.disk (printed_as was.out is.out result)
    pub untouched : is ≡ record was { disk = is.disk; out = is.out }

  -- What a command asks for was done over the disk that it begins with: for one that stores, without checkpoints of volumes that aren't sealed.
  abbrev pub RunsBegun : Command → Option Site → Objects D G (List (N × C)) O → Objects D G (List (N × C)) O → Status → Type 0
  RunsBegun command site was is result =
      ((begun : D) × BeginsWith kinds.disks (stores command) was.disk begun × Runs command site (record was { disk = begun }) is result)
      ⊎ (IsTrue (stores command) × FailsToBegin was is result)

  -- The words are looked at before anything is touched: where they ask for nothing, or name no base for a command that needs one, the usage was printed.
  abbrev pub RunsFrom : Option Command → Option Site → Objects D G (List (N × C)) O → Objects D G (List (N × C)) O → Status → Type 0
  RunsFrom None site was is result = Misspells was is result
  RunsFrom (Some command) site was is result =
      ((is_named (has_base command) site ≡ false) × Misspells was is result)
      ⊎ (IsTrue (is_named (has_base command) site) × RunsBegun command site was is result)
      ⊎ ((result ≡ status.Memory) × (is ≡ was))
