-- What a server promises, sentence by sentence.
use Rattle.std.specs.Prelude.{◌≡◌, ◌≢◌, ◌⊎◌, ℕ, ◌+◌, ◌≤◌, Bool, true, false, IsTrue, IsPermutation, List, [], ◌∷◌, ◌++◌, drop, length, Option, Some}
use Rattle.std.specs.List.{flat_map, range_with_len, sum_by}
use Rattle.archive_reopening.specs.Known.{told_at}
use Rattle.archive_shelf.specs.Openings.{HasIds, ImageStandsFor}
use Rattle.archive_shelf.specs.Told.{Told}
use Rattle.archive_shelf.specs.declared.depth.Depth.TheVariants.{Checkpoints}
use Rattle.capture.specs.Captures.{captures}
use Rattle.capture.specs.Faults.{Rose, RoseBy}
use Rattle.capture.specs.Growth.{Grows}
use Rattle.capture.specs.declared.book.Book.{Book}
use Rattle.capture.specs.declared.site.Site.{Site}
use Rattle.disk_model.specs.Crash.{Leaves}
use Rattle.disk_model.specs.Image.{Image}
use Rattle.link_queue.specs.Serving.{all_of}
use Rattle.outside.specs.declared.gate.Heard.{Heard}
use Rattle.command.specs.Objects.{Kinds, Objects}
use Rattle.proxy_run.specs.Complete.{HoldsAll, IsLeftSettled, IsReadied, IsSteady, NoFaults}
use Rattle.proxy_run.specs.Runs.{Runs}
use Rattle.proxy_run.specs.Serves.{Duty, LacksShelves, Serves, told_by}
use Rattle.crew.specs.Shifts.{AreShifts, Hand, IsShift, hands_of}
use Rattle.command.specs.Texts.{captures_line}
use Rattle.command.specs.declared.status.Status.{Status}
use Rattle.command.specs.declared.status.Status.TheVariants.{Done, Memory}
use Rattle.command.specs.declared.words.Command.TheVariants.{Serve}
use Rattle.request_answer.specs.Gains.{Setting, gains_of}
use Rattle.request_answer.specs.Rounds.{Round}
use Rattle.session.specs.Courses.{disk_faults, is_closed, lacks}
use Rattle.warc_text.specs.StandsFor.{IdsDifferIn}

-- What the client gave was read to its end, or to the answer that closes, unless its link failed or memory ran out.
abbrev pub IsHeardOut : Heard → List Round → Type 0
IsHeardOut heard rounds = (heard.ended ≡ true) ⊎ (is_closed 0 rounds ≡ true) ⊎ (heard.faults ≢ 0) ⊎ (lacks rounds ≡ true)

module _ {S : Type 0} (alone : Bool) (told : S → Told) (setting : Setting) where
  -- the rounds of all connections that a member served, in order
  abbrev pub rounds_in : (was : Hand S) (heards : List Heard) (is : Hand S) → IsShift alone told setting was heards is → List Round
  rounds_in was [] is same = []
  rounds_in was (heard ∷ heards) is shift = shift.1.connection.rounds ++ rounds_in shift.0 heards is shift.2

  -- and of all members
  abbrev pub rounds_of : (before : List (Hand S)) (heards : List (List Heard)) (after : List (Hand S)) → AreShifts alone told setting before heards after → List (List Round)
  rounds_of [] [] [] shifts = []
  rounds_of (was ∷ before) (heards ∷ others) (is ∷ after) shifts = rounds_in was heards is shifts.0 ∷ rounds_of before others after shifts.1
  rounds_of [] [] (is ∷ after) shifts = []
  rounds_of [] (heards ∷ others) [] shifts = []
  rounds_of [] (heards ∷ others) (is ∷ after) shifts = []
  rounds_of (was ∷ before) [] [] shifts = []
  rounds_of (was ∷ before) [] (is ∷ after) shifts = []
  rounds_of (was ∷ before) (heards ∷ others) [] shifts = []

  -- what was seen before each connection, and behind the last one, has grown into this book
  abbrev pub LeadsTo : Book → (was : Hand S) (heards : List Heard) (is : Hand S) → IsShift alone told setting was heards is → Type 0
  LeadsTo book was [] is same = Grows (told is.shelf).contents.seen book
  LeadsTo book was (heard ∷ heards) is shift = Grows (told was.shelf).contents.seen book × LeadsTo book shift.0 heards is shift.2

  -- so it is of all members
  abbrev pub LeadTo : Book → (before : List (Hand S)) (heards : List (List Heard)) (after : List (Hand S)) → AreShifts alone told setting before heards after → Type 0
  LeadTo book [] [] [] shifts = Unit {0}
  LeadTo book (was ∷ before) (heards ∷ others) (is ∷ after) shifts = LeadsTo book was heards is shifts.0 × LeadTo book before others after shifts.1
  LeadTo book [] [] (is ∷ after) shifts = ⊥
  LeadTo book [] (heards ∷ others) [] shifts = ⊥
  LeadTo book [] (heards ∷ others) (is ∷ after) shifts = ⊥
  LeadTo book (was ∷ before) [] [] shifts = ⊥
  LeadTo book (was ∷ before) [] (is ∷ after) shifts = ⊥
  LeadTo book (was ∷ before) (heards ∷ others) [] shifts = ⊥

  -- each connection was read out
  abbrev pub IsReadOut : (was : Hand S) (heards : List Heard) (is : Hand S) → IsShift alone told setting was heards is → Type 0
  IsReadOut was [] is same = Unit {0}
  IsReadOut was (heard ∷ heards) is shift = IsHeardOut heard shift.1.connection.rounds × IsReadOut shift.0 heards is shift.2

  -- so are those of all members
  abbrev pub AreReadOut : (before : List (Hand S)) (heards : List (List Heard)) (after : List (Hand S)) → AreShifts alone told setting before heards after → Type 0
  AreReadOut [] [] [] shifts = Unit {0}
  AreReadOut (was ∷ before) (heards ∷ others) (is ∷ after) shifts = IsReadOut was heards is shifts.0 × AreReadOut before others after shifts.1
  AreReadOut [] [] (is ∷ after) shifts = ⊥
  AreReadOut [] (heards ∷ others) [] shifts = ⊥
  AreReadOut [] (heards ∷ others) (is ∷ after) shifts = ⊥
  AreReadOut (was ∷ before) [] [] shifts = ⊥
  AreReadOut (was ∷ before) [] (is ∷ after) shifts = ⊥
  AreReadOut (was ∷ before) (heards ∷ others) [] shifts = ⊥

-- the numbers of the captures that rounds stored, in order
abbrev pub numbers_of : List Round → List ℕ
numbers_of rounds = (gains_of rounds).numbers

module _ {D G L P N M C O : Type 0} (kinds : Kinds D G L P N M C O) where
  -- the book has only grown, and how many captures it has was printed where all went well
  abbrev pub BooksOnlyGrow : Type 0
  BooksOnlyGrow =
      (known : Option Book) (duty : Duty) (was is : Objects D G (List (N × C)) O) (status : Status) (s : Serves kinds known duty was is status)
      → Grows s.before.book s.after.book
      × (status ≡ Done → IsTrue kinds.sinks.tells → kinds.sinks.written is.out ≡ kinds.sinks.written was.out ++ captures_line (length (captures s.after.book)))

  -- as many connections were hung up as the gate gave, whatever the status, and as many are out as were before
  abbrev pub AllAreHungUp : Type 0
  AllAreHungUp =
      (known : Option Book) (duty : Duty) (was is : Objects D G (List (N × C)) O) (status : Status) (s : Serves kinds known duty was is status)
      → IsTrue kinds.clients_tell → IsTrue kinds.origins_tell
      → ((kinds.gates.connections is.gate).gave + length (kinds.gates.connections was.gate).log
      ≡ (kinds.gates.connections was.gate).gave + length (kinds.gates.connections is.gate).log)
      × ((kinds.gates.connections is.gate).out ≡ (kinds.gates.connections was.gate).out)

  -- the gate was asked until it was closed, unless it failed or memory ran out
  abbrev pub GatesAreEmptied : Type 0
  GatesAreEmptied =
      (known : Option Book) (duty : Duty) (was is : Objects D G (List (N × C)) O) (status : Status) (s : Serves kinds known duty was is status)
      → (kinds.gates.closed is.gate ≡ true) ⊎ Rose (kinds.gates.faults was.gate) (kinds.gates.faults is.gate) ⊎ (status ≡ Memory)

  -- What the log gains is one list for each member that works, in the members' order; the others gain nothing.
  abbrev pub LogsAreInOrder : Type 0
  LogsAreInOrder =
      (known : Option Book) (duty : Duty) (was is : Objects D G (List (N × C)) O) (status : Status) (s : Serves kinds known duty was is status)
      → IsTrue kinds.clients_tell → IsTrue kinds.origins_tell → duty.workers ≤ length was.crew
      → ((heards : List (List Heard)) × (length heards ≡ duty.workers)
      × ((kinds.gates.connections is.gate).log ≡ (kinds.gates.connections was.gate).log ++ all_of heards))
      × (drop duty.workers is.crew ≡ drop duty.workers was.crew)

  -- Each capture that a round stored stands in the book that is left once, behind those that were there before, which has no other: those of
  -- one member in the order of its rounds.
  abbrev pub CapturesAreStoredOnce : Type 0
  CapturesAreStoredOnce =
      (known : Option Book) (duty : Duty) (was is : Objects D G (List (N × C)) O) (status : Status) (s : Serves kinds known duty was is status)
      (clients : IsTrue kinds.clients_tell) (origins : IsTrue kinds.origins_tell) → duty.workers ≤ length was.crew → duty.workers ≤ length is.crew
      → let served = s.serves clients origins in
      let rounds = rounds_of false told_by (record { site = duty.site; clock_tells = kinds.clocks.tells })
      (hands_of kinds.dialers kinds.clocks s.starts was.crew) served.heards (hands_of kinds.dialers kinds.clocks s.seats is.crew) served.shifts in
      let numbers = flat_map numbers_of rounds in
      IsPermutation numbers (range_with_len (length (captures s.before.book)) (length numbers))
      × (length (captures s.after.book) ≡ length (captures s.before.book) + length numbers)

  -- What each connection begins with has grown from the book that was opened, with what is shown of it, into the book that is left.
  abbrev pub BooksLeadOn : Type 0
  BooksLeadOn =
      (known : Option Book) (duty : Duty) (was is : Objects D G (List (N × C)) O) (status : Status) (s : Serves kinds known duty was is status)
      (clients : IsTrue kinds.clients_tell) (origins : IsTrue kinds.origins_tell)
      → let served = s.serves clients origins in
      LeadTo false told_by (record { site = duty.site; clock_tells = kinds.clocks.tells }) s.after.book
      (hands_of kinds.dialers kinds.clocks s.starts was.crew) served.heards (hands_of kinds.dialers kinds.clocks s.seats is.crew) served.shifts

  -- The faults of the disk that rounds met are together at most the rise of its count.
  abbrev pub FaultsAreCounted : Type 0
  FaultsAreCounted =
      (known : Option Book) (duty : Duty) (was is : Objects D G (List (N × C)) O) (status : Status) (s : Serves kinds known duty was is status)
      (clients : IsTrue kinds.clients_tell) (origins : IsTrue kinds.origins_tell) → duty.workers ≤ length is.crew
      → let served = s.serves clients origins in
      RoseBy (sum_by disk_faults (rounds_of false told_by (record { site = duty.site; clock_tells = kinds.clocks.tells })
      (hands_of kinds.dialers kinds.clocks s.starts was.crew) served.heards (hands_of kinds.dialers kinds.clocks s.seats is.crew) served.shifts))
      (kinds.disks.faults was.disk) (kinds.disks.faults is.disk)

  -- Each connection was read to its end or to the answer that closes, unless its link failed or memory ran out.
  abbrev pub AllAreReadOut : Type 0
  AllAreReadOut =
      (known : Option Book) (duty : Duty) (was is : Objects D G (List (N × C)) O) (status : Status) (s : Serves kinds known duty was is status)
      (clients : IsTrue kinds.clients_tell) (origins : IsTrue kinds.origins_tell)
      → let served = s.serves clients origins in
      AreReadOut false told_by (record { site = duty.site; clock_tells = kinds.clocks.tells })
      (hands_of kinds.dialers kinds.clocks s.starts was.crew) served.heards (hands_of kinds.dialers kinds.clocks s.seats is.crew) served.shifts

  -- Where neither the disk failed nor memory was wanting, each image that a crash may leave stands for the last book or one next to it, and has the finished
  -- checkpoint of each volume of the last book but the last, with the lines of just that volume's captures.
  abbrev pub ServersLeaveSettled : Type 0
  ServersLeaveSettled =
      (known : Option Book) (duty : Duty) (was is : Objects D G (List (N × C)) O) (status : Status)
      (s : Serves kinds known duty was is status) → IsTrue (told_at Checkpoints kinds.disks.tells known)
      → IsSteady (kinds.disks.faults was.disk) (kinds.disks.faults is.disk) → status ≢ Memory → Leaves (kinds.disks.images is.disk) (IsLeftSettled s.after.book)

  -- Where the disk didn't fail and the ids differ, each image that a crash may leave stands for the last book.
  abbrev pub ServersLeaveTheLast : Type 0
  ServersLeaveTheLast =
      (known : Option Book) (duty : Duty) (was is : Objects D G (List (N × C)) O) (status : Status)
      (s : Serves kinds known duty was is status) → IsTrue (told_at Checkpoints kinds.disks.tells known)
      → IsSteady (kinds.disks.faults was.disk) (kinds.disks.faults is.disk) → HasIds s.after.book
      → Leaves (kinds.disks.images is.disk) (λ image. ImageStandsFor image s.after.book)

  -- Each image that a server may leave, and so what a read gives, is settled for a book that the next run may know, where the ids differ.
  abbrev pub ServersLeaveReady : Type 0
  ServersLeaveReady =
      (known : Option Book) (namespace : List ℕ) (site : Site) (workers : ℕ) (was is : Objects D G (List (N × C)) O) (status : Status)
      (s : Serves kinds known (record { asked = Some namespace; site = site; workers = workers }) was is status) → IsTrue (told_at Checkpoints kinds.disks.tells known) → HasIds s.after.book
      → (image : Image) → kinds.disks.images is.disk image → IsReadied (Some namespace) image

  -- What was stored comes back: each book for which such an image stands, as the next run may know it, holds all captures of the last book in order, and
  -- one more at most.
  abbrev pub ServersCapturesComeBack : Type 0
  ServersCapturesComeBack =
      (known : Option Book) (duty : Duty) (was is : Objects D G (List (N × C)) O) (status : Status)
      (s : Serves kinds known duty was is status) → IsTrue (told_at Checkpoints kinds.disks.tells known) → HasIds s.after.book
      → (image : Image) (x : Book) → kinds.disks.images is.disk image → ImageStandsFor image x → HoldsAll s.after.book x

  -- Each image that one may leave for whose shelves there was no memory is settled so too.
  abbrev pub ServersWithoutShelvesLeaveReady : Type 0
  ServersWithoutShelvesLeaveReady =
      (known : Option Book) (namespace : List ℕ) (was is : Objects D G (List (N × C)) O) (status : Status)
      (lacks : LacksShelves kinds known (Some namespace) was is status) → IsTrue (told_at Checkpoints kinds.disks.tells known)
      → IdsDifferIn lacks.before.book → (image : Image) → kinds.disks.images is.disk image → IsReadied (Some namespace) image

  -- And each book for which such an image stands holds all captures of the one that was opened in order, and one more at most.
  abbrev pub ServersWithoutShelvesComeBack : Type 0
  ServersWithoutShelvesComeBack =
      (known : Option Book) (asked : Option (List ℕ)) (was is : Objects D G (List (N × C)) O) (status : Status)
      (lacks : LacksShelves kinds known asked was is status) → IsTrue (told_at Checkpoints kinds.disks.tells known) → HasIds lacks.before.book
      → (image : Image) (x : Book) → kinds.disks.images is.disk image → ImageStandsFor image x → HoldsAll lacks.before.book x

  -- Where nothing failed and the book is known, it goes well, or memory ran out.
  abbrev pub ServersAreAnswered : Type 0
  ServersAreAnswered =
      (known : Option Book) (namespace : List ℕ) (site : Site) (workers : ℕ) (was is : Objects D G (List (N × C)) O) (status : Status)
      → IsTrue (told_at Checkpoints kinds.disks.tells known) → NoFaults kinds was is
      → Runs kinds known (Serve namespace workers) (Some site) was is status → (status ≡ Done) ⊎ (status ≡ Memory)
