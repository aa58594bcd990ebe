-- What a server promises, from what it leaves.
use Rattle.std.proofs.Common.{◌-◌, ◌≡◌, ◌≢◌, ◌⊎◌, ℕ, suc, ◌+◌, ◌≤◌, Bool, true, false, IsTrue, IsPermutation, List, [], ◌∷◌, ◌++◌, drop, length, Option, Some, Result, Ok, Err, refl, sym, ap, ◌∙◌, subst, inl, inr, ⊎_elim, arith, append_assoc}
use Rattle.std.specs.Prelude.{IfSome, slice_get}
use Rattle.std.specs.List.{All, flat_map, range_with_len, sum_by}
use Rattle.std.proofs.lemmas.List.Elements.{All-head, All-tail}
use Rattle.std.proofs.lemmas.List.FromFn.{length-range_with_len}
use Rattle.std.proofs.lemmas.List.Sorted.{length_permutation}
use Rattle.std.proofs.lemmas.List.Sums.{sum_by-cons}
use Rattle.std.proofs.lemmas.List.{append-nil, length-append}
use Rattle.std.proofs.lemmas.Option.{same_Some}
use Rattle.archive_settling.specs.Finished.{FirstAreFinished}
use Rattle.archive_settling.specs.Settling.{KeepsSettled}
use Rattle.archive_shelf.specs.Contents.{Contents}
use Rattle.archive_shelf.specs.Openings.{ImageStandsFor, SameBook}
use Rattle.archive_core.specs.Holdings.{Holdings, contents_of}
use Rattle.archive_reopening.specs.Known.{by_checkpoints, told_at}
use Rattle.archive_shelf.specs.Told.{Told}
use Rattle.archive_shelf.specs.declared.depth.Depth.TheVariants.{Checkpoints}
use Rattle.archive_volumes.proofs.ChangeLaws.{DiskLaws, laws_muted, opens_now}
use Rattle.archive_volumes.specs.Volumes.{muted}
use Rattle.checkpoint.specs.declared.fault.CheckpointFault.{CheckpointFault}
use Rattle.checkpoint.specs.declared.fault.CheckpointFault.TheVariants as checkpoints
use Rattle.disk_model.specs.Crash.{Leaves}
use Rattle.disk_model.specs.Image.{Image}
use Rattle.disk_model.specs.declared.disk.Disk.{Ghosts as Disks}
use Rattle.capture.specs.Captures.{captures}
use Rattle.capture.proofs.GrowthLaws.{growth_goes_on, growth_keeps_captures}
use Rattle.capture.specs.Faults.{Rose, RoseBy}
use Rattle.capture.specs.Growth.{Grows}
use Rattle.capture.specs.declared.book.Book.{Book}
use Rattle.capture.specs.declared.captured.Stored.{Stored}
use Rattle.capture.specs.declared.site.Site.{Site}
use Rattle.capture.specs.First.{Requests, NothingBegun, IsFirst}
use Rattle.link_queue.specs.Serving.{all_of}
use Rattle.outside.specs.declared.clock.Clock.{Ghosts as Clocks}
use Rattle.outside.specs.declared.dialer.Dialer.{Ghosts as Dialers}
use Rattle.outside.specs.declared.gate.Heard.{Heard}
use Rattle.outside.specs.declared.sink.Sink.{Ghosts as Sinks}
use Rattle.crew.specs.Crews.{IsEnd, all_hung_up}
use Rattle.command.specs.Objects.{Kinds, Objects}
use Rattle.command.proofs.OpeningLaws.{only_one}
use Rattle.command.proofs.SettlingLaws.{closed_all, closed_faults, closed_from, closed_right, closed_rose, ready_consistent, ready_faults, ready_in, ready_none, ready_tells, told_tells}
use Rattle.command.specs.Printing.{LacksMemory, Prints}
use Rattle.command.specs.Settling.{ClosesSettled, settled_status}
use Rattle.proxy_run.proofs.CompleteLaws.{not_risen, printed_or_lacked, refused_known}
use Rattle.proxy_run.proofs.NextLaws.{all_next, settled_next, sound_still, stands_same}
use Rattle.proxy_run.specs.Complete.{IsSteady, NoFaults}
use Rattle.proxy_run.specs.Pipes.{Refuses}
use Rattle.proxy_run.proofs.StatusLaws.{memory_told, said_by, settled_well}
use Rattle.proxy_run.proofs.VaultSeats.{IsNewcomer}
use Rattle.proxy_run.specs.Promises.{AllAreHungUp, AllAreReadOut, AreReadOut, BooksLeadOn, BooksOnlyGrow, CapturesAreStoredOnce, FaultsAreCounted, GatesAreEmptied, IsHeardOut, IsReadOut, LeadTo, LeadsTo, LogsAreInOrder, ServersAreAnswered, ServersCapturesComeBack, ServersLeaveReady, ServersLeaveSettled, ServersLeaveTheLast, ServersWithoutShelvesComeBack, ServersWithoutShelvesLeaveReady, numbers_of, rounds_in, rounds_of}
use Rattle.proxy_run.specs.Serves.{LacksShelves, Seat, Serves, told_by}
use Rattle.command.specs.Gates.{unheard}
use Rattle.crew.specs.Shifts.{AreShifts, Hand, IsShift, hand_of, hands_of}
use Rattle.command.specs.Texts.{captures_line}
use Rattle.command.specs.declared.status.Status.{Status}
use Rattle.command.specs.declared.status.Status.TheVariants.{Done, Words, Archive, Outside, Memory}
use Rattle.request_answer.specs.Gains.{Setting}
use Rattle.session.specs.Laws.{CoursesCountFaults, CoursesGrow}
use Rattle.request_answer.specs.Rounds.{Round, numbers_by}
use Rattle.session.specs.Courses.{disk_faults, is_closed, lacks}
use Rattle.session.specs.Stopping.{Course, Ends, IsClosed, IsLeftOver}
use Rattle.session.specs.declared.served.Served.{Served}
use Rattle.session.specs.declared.served.Served.TheVariants as end
use Rattle.std.specs.List.Sorted.{IsStrictlyIncreasing}
use Rattle.warc_journal.specs.Journals.{disk_of}
use Rattle.warc_text.specs.Sound.{IsSound}
use Rattle.warc_text.specs.StandsFor.{FilesStandForNoVolume, FilesStandForOneBook, StandsFor}

-- ---- the last book

stands_last : (image : Image) (x was now : Book) → SameBook x now → Grows was now → IsSound was → ImageStandsFor image x → ImageStandsFor image now
stands_last image x was now (inl is) grows sound stands = subst (λ (b : Book). ImageStandsFor image b) is stands
stands_last image x was now (inr (none, none₂)) grows sound stands =
    stands_same image x now (inr (none, none₂)) (sound_still was now grows sound none₂) stands

-- ---- the status

printed_done : (said printed status : Status) → (said ≡ Memory → status ≡ Memory) → (said ≢ Memory → status ≡ printed) → status ≡ Done → printed ≡ Done
printed_done Done printed status lacking is done = sym (is (λ memory. cc memory)) ∙ done
printed_done Words printed status lacking is done = sym (is (λ memory. cc memory)) ∙ done
printed_done Archive printed status lacking is done = sym (is (λ memory. cc memory)) ∙ done
printed_done Outside printed status lacking is done = sym (is (λ memory. cc memory)) ∙ done
printed_done Memory printed status lacking is done = let memory = lacking refl in cc (memory, done)

all_printed : {O : Type 0} (sinks : Sinks O) (count : ℕ) (said printed : Status) (was is : O) → Prints sinks said (captures_line count) was is printed ⊎ LacksMemory sinks was is printed
    → printed ≡ Done → IsTrue sinks.tells → sinks.written is ≡ sinks.written was ++ captures_line count
all_printed sinks count said printed was is (inl (inl all)) done tells = all.written tells
all_printed sinks count said printed was is (inl (inr broke)) done tells = cc (done, broke.status_is)
all_printed sinks count said printed was is (inr lacks) done tells = cc (done, lacks.status_is)

-- nobody who accepted failed, and what was printed was printed whole
counted_well : (closed : Bool) (before now : ℕ) (said printed status : Status) → IsSteady before now → IsEnd closed before now said → (printed ≡ said) ⊎ (printed ≡ Memory)
    → (said ≡ Memory → status ≡ Memory) → (said ≢ Memory → status ≡ printed) → (status ≡ Done) ⊎ (status ≡ Memory)
counted_well closed before now Done printed status steady end tells lacking is =
    subst (λ (s : Status). (s ≡ Done) ⊎ (s ≡ Memory)) (sym (is (λ memory. cc memory))) tells
counted_well closed before now Words printed status steady end tells lacking is = absurd end
counted_well closed before now Archive printed status steady end tells lacking is = absurd end
counted_well closed before now Outside printed status steady end tells lacking is = absurd (not_risen before now steady end)
counted_well closed before now Memory printed status steady end tells lacking is = inr (lacking refl)

-- ---- what was stored

-- the numbers of just those captures that a book has behind the ones of another, in whatever order, are as many as these
stored_once : (before after : Book) (mine numbers : List ℕ) → Grows before after
    → IsPermutation mine (range_with_len (length (captures before)) (length (captures after) - length (captures before))) → numbers ≡ mine
    → IsPermutation numbers (range_with_len (length (captures before)) (length numbers)) × (length (captures after) ≡ length (captures before) + length numbers)
stored_once before after mine numbers grows once same =
    let kept = growth_keeps_captures before after grows in
    let more : length (captures after) ≡ length (captures before) + length kept.0 =
    ap (λ (l : List Stored). length l) kept.1 ∙ length-append (captures before) kept.0 in
    let many : length (captures after) - length (captures before) ≡ length numbers =
    sym (length-range_with_len (length (captures before)) (length (captures after) - length (captures before)))
    ∙ (length_permutation mine (range_with_len (length (captures before)) (length (captures after) - length (captures before))) once
    ∙ ap (λ (l : List ℕ). length l) (sym same)) in (
      subst (λ (z : List ℕ × ℕ). IsPermutation z.0 (range_with_len (length (captures before)) z.1)) (λ i. (sym same i, many i)) once,
      omega (arith, more, many),
    )

-- ---- what a settling leaves

module _ {D : Type 0} (disks : Disks D) {before : Holdings D} {said status : Status} {is : D} (c : ClosesSettled disks before said is status) where
  -- all checkpoints are finished behind one that wasn't refused
  finished : (answer : Result ℕ CheckpointFault) → c.answer ≡ answer → status ≡ settled_status answer said → IsTrue before.told
      → (status ≡ Memory → ⊥) → (Rose (disks.faults (disk_of before.journal)) (disks.faults is) → ⊥) → Leaves (disks.images is) (FirstAreFinished before.book (length before.book.volumes - 1))
  finished (Ok n) answers same told spared calm = closed_all disks c n answers told
  finished (Err checkpoints.DiskFault) answers same told spared calm = absurd (calm (closed_rose disks c answers))
  finished (Err checkpoints.Memory) answers same told spared calm = absurd (spared same)

-- ---- shifts

heard_out : (result : Served) (site : Site) (c : Course) (then now : Heard) → c.served ≡ 0 → Ends result site c then now → IsHeardOut now c.rounds
heard_out end.Done site c then now first ends = met ends.3
  where
    met : IsClosed c then now ⊎ ((now.ended ≡ true) × IsFirst Requests true c.rest NothingBegun × IsLeftOver site c then now) → IsHeardOut now c.rounds
    met (inl all) = inr (inl (subst (λ n. is_closed n c.rounds ≡ true) first all.closed))
    met (inr left) = inl left.0
heard_out end.ClientBroke site c then now first ends = inr (inr (inl ends.0))
heard_out end.ClientEndedEarly site c then now first ends = inl ends.2
heard_out (end.ClientRefused refusal) site c then now first ends = inr (inl (subst (λ n. is_closed n c.rounds ≡ true) first ends.3.closed))
heard_out end.WantOfMemory site c then now first ends = inr (inr (inr ends.0))

module _ {S : Type 0} (alone : Bool) (told : S → Told) (setting : Setting) where
  read_out : (was : Hand S) (heards : List Heard) (is : Hand S) (shift : IsShift alone told setting was heards is) → IsReadOut alone told setting was heards is shift
  read_out was [] is same = tt
  read_out was (heard ∷ heards) is shift = (heard_out shift.1.served setting.site _ unheard heard refl shift.1.connection.ends, read_out shift.0 heards is shift.2)

  are_read_out : (before : List (Hand S)) (heards : List (List Heard)) (after : List (Hand S)) (shifts : AreShifts alone told setting before heards after)
      → AreReadOut alone told setting before heards after shifts
  are_read_out [] [] [] shifts = tt
  are_read_out (was ∷ before) (heards ∷ others) (is ∷ after) shifts = (read_out was heards is shifts.0, are_read_out before others after shifts.1)
  are_read_out [] [] (is ∷ after) shifts = absurd shifts
  are_read_out [] (heards ∷ others) [] shifts = absurd shifts
  are_read_out [] (heards ∷ others) (is ∷ after) shifts = absurd shifts
  are_read_out (was ∷ before) [] [] shifts = absurd shifts
  are_read_out (was ∷ before) [] (is ∷ after) shifts = absurd shifts
  are_read_out (was ∷ before) (heards ∷ others) [] shifts = absurd shifts

  numbers_both : (first second : List Round) → numbers_of (first ++ second) ≡ numbers_of first ++ numbers_of second
  numbers_both [] second = refl
  numbers_both (r ∷ first) second =
      ap (λ ns. numbers_by r.outcome r.traces.before ++ ns) (numbers_both first second) ∙ sym (append_assoc (numbers_by r.outcome r.traces.before) (numbers_of first) (numbers_of second))

  -- what a member has stored
  mine_on : (was : Hand S) (heards : List Heard) (is : Hand S) (shift : IsShift alone told setting was heards is)
      → (told is.shelf).contents.mine ≡ (told was.shelf).contents.mine ++ numbers_of (rounds_in alone told setting was heards is shift)
  mine_on was [] is same = ap (λ (h : Hand S). (told h.shelf).contents.mine) same ∙ sym (append-nil (told was.shelf).contents.mine)
  mine_on was (heard ∷ heards) is shift =
      let first = ap (λ (c : Contents). c.mine) shift.1.connection.stored in
      let rest = mine_on shift.0 heards is shift.2 in
      rest ∙ (ap (λ ns. ns ++ numbers_of (rounds_in alone told setting shift.0 heards is shift.2)) first
      ∙ (append_assoc (told was.shelf).contents.mine (numbers_of shift.1.connection.rounds) (numbers_of (rounds_in alone told setting shift.0 heards is shift.2))
      ∙ ap (λ ns. (told was.shelf).contents.mine ++ ns) (sym (numbers_both shift.1.connection.rounds (rounds_in alone told setting shift.0 heards is shift.2)))))

  -- nothing was stored: the shelf's number stands alone
  abbrev pub HaveNone : List (Hand S) → Type 0
  HaveNone [] = Unit {0}
  HaveNone (hand ∷ hands) = ((n : ℕ) × ((told hand.shelf).contents.mine ≡ n ∷ [])) × HaveNone hands

  -- what all have, who had stored nothing
  all_mine_on : (before : List (Hand S)) (heards : List (List Heard)) (after : List (Hand S)) (shifts : AreShifts alone told setting before heards after)
      → HaveNone before
      → flat_map (λ h. drop 1 (told h.shelf).contents.mine) after ≡ flat_map numbers_of (rounds_of alone told setting before heards after shifts)
  all_mine_on [] [] [] shifts none = refl
  all_mine_on (was ∷ before) (heards ∷ others) (is ∷ after) shifts none =
      let numbers = numbers_of (rounds_in alone told setting was heards is shifts.0) in
      let own : drop 1 (told is.shelf).contents.mine ≡ numbers = ap (drop 1) (mine_on was heards is shifts.0 ∙ ap (λ ns. ns ++ numbers) none.0.1) in
      λ i. own i ++ all_mine_on before others after shifts.1 none.1 i
  all_mine_on [] [] (is ∷ after) shifts none = absurd shifts
  all_mine_on [] (heards ∷ others) [] shifts none = absurd shifts
  all_mine_on [] (heards ∷ others) (is ∷ after) shifts none = absurd shifts
  all_mine_on (was ∷ before) [] [] shifts none = absurd shifts
  all_mine_on (was ∷ before) [] (is ∷ after) shifts none = absurd shifts
  all_mine_on (was ∷ before) (heards ∷ others) [] shifts none = absurd shifts

  -- ---- books

  -- what was seen of a shelf before a shift has grown into what is left
  leads_to : CoursesGrow → (book : Book) (was : Hand S) (heards : List Heard) (is : Hand S) (shift : IsShift alone told setting was heards is)
      → Grows (told is.shelf).contents.seen book → LeadsTo alone told setting book was heards is shift × Grows (told was.shelf).contents.seen book
  leads_to grow book was [] is same lead = (lead, subst (λ (h : Hand S). Grows (told h.shelf).contents.seen book) same lead)
  leads_to grow book was (heard ∷ heards) is shift lead =
      let rest = leads_to grow book shift.0 heards is shift.2 lead in
      let here = growth_goes_on (told was.shelf).contents.seen (told shift.0.shelf).contents.seen book (grow _ _ _ _ _ shift.1.connection.lawful) rest.1 in
      ((here, rest.0), here)

  abbrev pub AllGrow : Book → List (Hand S) → Type 0
  AllGrow book [] = Unit {0}
  AllGrow book (hand ∷ hands) = Grows (told hand.shelf).contents.seen book × AllGrow book hands

  lead_to : CoursesGrow → (book : Book) (before : List (Hand S)) (heards : List (List Heard)) (after : List (Hand S)) (shifts : AreShifts alone told setting before heards after)
      → AllGrow book after → LeadTo alone told setting book before heards after shifts
  lead_to grow book [] [] [] shifts all = tt
  lead_to grow book (was ∷ before) (heards ∷ others) (is ∷ after) shifts all =
      ((leads_to grow book was heards is shifts.0 all.0).0, lead_to grow book before others after shifts.1 all.1)
  lead_to grow book [] [] (is ∷ after) shifts all = absurd shifts
  lead_to grow book [] (heards ∷ others) [] shifts all = absurd shifts
  lead_to grow book [] (heards ∷ others) (is ∷ after) shifts all = absurd shifts
  lead_to grow book (was ∷ before) [] [] shifts all = absurd shifts
  lead_to grow book (was ∷ before) [] (is ∷ after) shifts all = absurd shifts
  lead_to grow book (was ∷ before) (heards ∷ others) [] shifts all = absurd shifts

  -- ---- faults

  faults_both : (first second : List Round) → disk_faults (first ++ second) ≡ disk_faults first + disk_faults second
  faults_both [] second = sym (omega arith)
  faults_both (r ∷ first) second = let rest = faults_both first second in omega (arith, rest)

  -- a shelf has counted those of its rounds
  faults_on : CoursesCountFaults → (was : Hand S) (heards : List Heard) (is : Hand S) (shift : IsShift alone told setting was heards is)
      → RoseBy (disk_faults (rounds_in alone told setting was heards is shift)) (told was.shelf).faults (told is.shelf).faults
  faults_on counts was [] is same = omega (arith, ap (λ (h : Hand S). (told h.shelf).faults) same)
  faults_on counts was (heard ∷ heards) is shift =
      let one = (counts _ _ _ _ _ shift.1.connection.lawful).1.rose in
      let rest = faults_on counts shift.0 heards is shift.2 in
      omega (arith, one, rest, faults_both shift.1.connection.rounds (rounds_in alone told setting shift.0 heards is shift.2))

  abbrev pub HaveNoFaults : List (Hand S) → Type 0
  HaveNoFaults [] = Unit {0}
  HaveNoFaults (hand ∷ hands) = ((told hand.shelf).faults ≡ 0) × HaveNoFaults hands

  all_faults_on : CoursesCountFaults → (before : List (Hand S)) (heards : List (List Heard)) (after : List (Hand S)) (shifts : AreShifts alone told setting before heards after)
      → HaveNoFaults before → RoseBy (sum_by disk_faults (rounds_of alone told setting before heards after shifts)) 0 (sum_by (λ h. (told h.shelf).faults) after)
  all_faults_on counts [] [] [] shifts none = omega arith
  all_faults_on counts (was ∷ before) (heards ∷ others) (is ∷ after) shifts none =
      let one = faults_on counts was heards is shifts.0 in
      let rest = all_faults_on counts before others after shifts.1 none.1 in
      omega (
        arith,
        one,
        rest,
        none.0,
        sum_by-cons disk_faults (rounds_in alone told setting was heards is shifts.0) (rounds_of alone told setting before others after shifts.1),
        sum_by-cons (λ (h : Hand S). (told h.shelf).faults) is after,
      )
  all_faults_on counts [] [] (is ∷ after) shifts none = absurd shifts
  all_faults_on counts [] (heards ∷ others) [] shifts none = absurd shifts
  all_faults_on counts [] (heards ∷ others) (is ∷ after) shifts none = absurd shifts
  all_faults_on counts (was ∷ before) [] [] shifts none = absurd shifts
  all_faults_on counts (was ∷ before) [] (is ∷ after) shifts none = absurd shifts
  all_faults_on counts (was ∷ before) (heards ∷ others) [] shifts none = absurd shifts

  -- ---- how many

  as_many_lists : (before : List (Hand S)) (heards : List (List Heard)) (after : List (Hand S)) → AreShifts alone told setting before heards after → length heards ≡ length before
  as_many_lists [] [] [] shifts = refl
  as_many_lists (was ∷ before) (heards ∷ others) (is ∷ after) shifts = ap (λ n. suc n) (as_many_lists before others after shifts.1)
  as_many_lists [] [] (is ∷ after) shifts = absurd shifts
  as_many_lists [] (heards ∷ others) [] shifts = absurd shifts
  as_many_lists [] (heards ∷ others) (is ∷ after) shifts = absurd shifts
  as_many_lists (was ∷ before) [] [] shifts = absurd shifts
  as_many_lists (was ∷ before) [] (is ∷ after) shifts = absurd shifts
  as_many_lists (was ∷ before) (heards ∷ others) [] shifts = absurd shifts

-- ---- hands

module _ {N M C : Type 0} (dialers : Dialers N M) (clocks : Clocks C) (setting : Setting) where
  as_many_hands : (seats : List Seat) (crew : List (N × C)) → length seats ≤ length crew → length (hands_of dialers clocks seats crew) ≡ length seats
  as_many_hands [] crew few = refl
  as_many_hands (seat ∷ seats) [] few = absurd (omega (arith, few))
  as_many_hands (seat ∷ seats) (member ∷ crew) few = ap (λ n. suc n) (as_many_hands seats crew (omega (arith, few)))

  mine_of_hands : (seats : List Seat) (crew : List (N × C)) → length seats ≤ length crew
      → flat_map (λ h. drop 1 (told_by h.shelf).contents.mine) (hands_of dialers clocks seats crew) ≡ flat_map (λ (seat : Seat). seat.contents.mine) seats
  mine_of_hands [] crew few = refl
  mine_of_hands (seat ∷ seats) [] few = absurd (omega (arith, few))
  mine_of_hands (seat ∷ seats) (member ∷ crew) few = ap (λ ns. seat.contents.mine ++ ns) (mine_of_hands seats crew (omega (arith, few)))

  none_stored : (now : Contents) → now.mine ≡ [] → (seats : List Seat) (crew : List (N × C)) → All (IsNewcomer now) seats
      → HaveNone false told_by setting (hands_of dialers clocks seats crew)
  none_stored now none [] crew new = tt
  none_stored now none (seat ∷ seats) [] new = tt
  none_stored now none (seat ∷ seats) (member ∷ crew) new = (
    (seat.number, ap (λ (c : Contents). seat.number ∷ c.mine) (All-head (IsNewcomer now) seat seats new).0 ∙ ap (λ (ns : List ℕ). seat.number ∷ ns) none),
    none_stored now none seats crew (All-tail (IsNewcomer now) seat seats new),
  )

  none_met : (now : Contents) (seats : List Seat) (crew : List (N × C)) → All (IsNewcomer now) seats → HaveNoFaults false told_by setting (hands_of dialers clocks seats crew)
  none_met now [] crew new = tt
  none_met now (seat ∷ seats) [] new = tt
  none_met now (seat ∷ seats) (member ∷ crew) new =
      ((All-head (IsNewcomer now) seat seats new).2, none_met now seats crew (All-tail (IsNewcomer now) seat seats new))

  faults_of_hands : (seats : List Seat) (crew : List (N × C)) → length seats ≤ length crew
      → sum_by (λ h. (told_by h.shelf).faults) (hands_of dialers clocks seats crew) ≡ sum_by (λ (seat : Seat). seat.faults) seats
  faults_of_hands [] crew few = refl
  faults_of_hands (seat ∷ seats) [] few = absurd (omega (arith, few))
  faults_of_hands (seat ∷ seats) (member ∷ crew) few =
      let rest = faults_of_hands seats crew (omega (arith, few)) in
      omega (
        arith,
        rest,
        sum_by-cons (λ (h : Hand Seat). (told_by h.shelf).faults) (hand_of dialers clocks seat member) (hands_of dialers clocks seats crew),
        sum_by-cons (λ (x : Seat). x.faults) seat seats,
      )

  hands_grow : (book : Book) (seats : List Seat) (crew : List (N × C)) → ((k : ℕ) → IfSome (slice_get seats k) (λ (seat : Seat). Grows seat.contents.seen book × IsStrictlyIncreasing seat.contents.mine))
      → AllGrow false told_by setting book (hands_of dialers clocks seats crew)
  hands_grow book [] crew each = tt
  hands_grow book (seat ∷ seats) [] each = tt
  hands_grow book (seat ∷ seats) (member ∷ crew) each = ((each 0).0, hands_grow book seats crew (λ k. each (suc k)))

-- ---- the sentences

module _ {D G L P N M C O : Type 0} (kinds : Kinds D G L P N M C O) where
  pub books_only_grow : BooksOnlyGrow kinds
  books_only_grow known duty was is status s = (
    s.shared.grows,
    λ done tells.
        all_printed kinds.sinks (length (captures s.after.book)) s.said s.told.printed was.out is.out s.told.prints
        (printed_done s.said s.told.printed s.counted s.told.lacking s.told.status_is
        (sym (said_by s.closed.answer s.counted status s.closed.status_is (λ memory. cc (done, memory))) ∙ done)) tells,
  )

  pub all_are_hung_up : AllAreHungUp kinds
  all_are_hung_up known duty was is status s clients origins =
      let served = s.serves clients origins in
      hung (all_of served.heards) served.logged
    where
      hung : (heards : List Heard) → kinds.gates.connections is.gate ≡ all_hung_up (kinds.gates.connections was.gate) heards
          → ((kinds.gates.connections is.gate).gave + length (kinds.gates.connections was.gate).log ≡ (kinds.gates.connections was.gate).gave + length (kinds.gates.connections is.gate).log)
          × ((kinds.gates.connections is.gate).out ≡ (kinds.gates.connections was.gate).out)
      hung heards logged = (
        omega (arith, ap (λ k. k.gave) logged, ap (λ k. length k.log) logged, length-append (kinds.gates.connections was.gate).log heards),
        ap (λ k. k.out) logged,
      )

  emptied : (closed : Bool) (before now : ℕ) (said status : Status) → (said ≡ Memory → status ≡ Memory) → IsEnd closed before now said
      → (closed ≡ true) ⊎ Rose before now ⊎ (status ≡ Memory)
  emptied closed before now Done status lacking ended = inl ended.0
  emptied closed before now Words status lacking ended = absurd ended
  emptied closed before now Archive status lacking ended = absurd ended
  emptied closed before now Outside status lacking ended = inr (inl ended)
  emptied closed before now Memory status lacking ended = inr (inr (lacking refl))

  pub gates_are_emptied : GatesAreEmptied kinds
  gates_are_emptied known duty was is status s =
      ⊎_elim (λ closed. inl closed) (λ other. inr (⊎_elim (λ rose. inl rose) (λ memory. inr (memory_told s.closed.answer s.counted status s.closed.status_is memory)) other))
      (emptied (kinds.gates.closed is.gate) (kinds.gates.faults was.gate) (kinds.gates.faults is.gate) s.said s.counted s.told.lacking s.ended)

  pub logs_are_in_order : LogsAreInOrder kinds
  logs_are_in_order known duty was is status s clients origins few =
      let served = s.serves clients origins in
      let setting : Setting = record { site = duty.site; clock_tells = kinds.clocks.tells } in
      let start = s.starts in
      let many = s.workers_are in (
        (
          served.heards,
          as_many_lists false told_by setting (hands_of kinds.dialers kinds.clocks start was.crew) served.heards (hands_of kinds.dialers kinds.clocks s.seats is.crew) served.shifts
              ∙ (as_many_hands kinds.dialers kinds.clocks setting start was.crew (omega (arith, few, many)) ∙ many),
          ap (λ k. k.log) served.logged,
        ),
        s.others,
      )

  pub captures_are_stored_once : CapturesAreStoredOnce kinds
  captures_are_stored_once known duty was is status s clients origins few room =
      let served = s.serves clients origins in
      let setting : Setting = record { site = duty.site; clock_tells = kinds.clocks.tells } in
      let before = hands_of kinds.dialers kinds.clocks s.starts was.crew in
      let after = hands_of kinds.dialers kinds.clocks s.seats is.crew in
      let numbers = flat_map numbers_of (rounds_of false told_by setting before served.heards after served.shifts) in
      let same : numbers ≡ flat_map (λ (seat : Seat). seat.contents.mine) s.seats =
      sym (all_mine_on false told_by setting before served.heards after served.shifts (none_stored kinds.dialers kinds.clocks setting (contents_of s.before) (ready_none kinds.disks s.opened) s.starts was.crew s.new))
      ∙ mine_of_hands kinds.dialers kinds.clocks setting s.seats is.crew (omega (arith, room, s.count)) in
      stored_once s.before.book s.after.book (flat_map (λ (seat : Seat). seat.contents.mine) s.seats) numbers s.shared.grows s.shared.once same

  pub books_lead_on : CoursesGrow → BooksLeadOn kinds
  books_lead_on grow known duty was is status s clients origins =
      let served = s.serves clients origins in
      let setting : Setting = record { site = duty.site; clock_tells = kinds.clocks.tells } in
      lead_to false told_by setting grow s.after.book (hands_of kinds.dialers kinds.clocks s.starts was.crew) served.heards
      (hands_of kinds.dialers kinds.clocks s.seats is.crew) served.shifts (hands_grow kinds.dialers kinds.clocks setting s.after.book s.seats is.crew s.shared.each)

  pub faults_are_counted : CoursesCountFaults → FaultsAreCounted kinds
  faults_are_counted counts known duty was is status s clients origins room =
      let served = s.serves clients origins in
      let setting : Setting = record { site = duty.site; clock_tells = kinds.clocks.tells } in
      let before = hands_of kinds.dialers kinds.clocks s.starts was.crew in
      let after = hands_of kinds.dialers kinds.clocks s.seats is.crew in
      let met = all_faults_on false told_by setting counts before served.heards after served.shifts (none_met kinds.dialers kinds.clocks setting (contents_of s.before) s.starts was.crew s.new) in
      let first = ready_faults kinds.disks s.opened in
      let last = closed_faults kinds.disks s.closed in
      omega (arith, met, faults_of_hands kinds.dialers kinds.clocks setting s.seats is.crew (omega (arith, room, s.count)), s.disk_faults, first, last)

  pub all_are_read_out : AllAreReadOut kinds
  all_are_read_out known duty was is status s clients origins =
      let served = s.serves clients origins in
      let setting : Setting = record { site = duty.site; clock_tells = kinds.clocks.tells } in
      are_read_out false told_by setting (hands_of kinds.dialers kinds.clocks s.starts was.crew) served.heards
      (hands_of kinds.dialers kinds.clocks s.seats is.crew) served.shifts

  pub servers_leave_settled : ServersLeaveSettled kinds
  servers_leave_settled known duty was is status s told steady spared image left =
      let first = ready_faults kinds.disks s.opened in
      let last = closed_faults kinds.disks s.closed in
      let so : IsTrue s.before.told = ready_tells kinds.disks s.opened ∙ told in
      let near = s.near so image left in
      record {
        x = near.0;
        stands = near.1;
        next = near.2;
        checkpoints = finished kinds.disks s.closed s.closed.answer refl s.closed.status_is (s.same_told ∙ so)
            spared (λ rose. grind (arith, rose, steady.same, steady.below, s.disk_faults, first, last)) image left;
      }

  pub servers_leave_the_last : DiskLaws kinds.disks → ServersLeaveTheLast kinds
  servers_leave_the_last laws known duty was is status s told steady ids image left =
      let first = ready_faults kinds.disks s.opened in
      let last = closed_faults kinds.disks s.closed in
      let so : IsTrue s.before.told = ready_tells kinds.disks s.opened ∙ told in
      let at = s.near so image left in
      let from = closed_from kinds.disks s.closed (told_tells Checkpoints kinds.disks.tells known told) image left in
      let stood : ImageStandsFor from.0 at.0 =
      record { for = subst (λ (files : List (List ℕ)). StandsFor files at.0) from.2 at.1.for; sound = at.1.sound } in
      let none : sum_by (λ (seat : Seat). seat.faults) s.seats ≡ 0 = omega (arith, s.disk_faults, steady.same, steady.below, first, last) in
      let opened = opens_now (muted s.after.told kinds.disks) (laws_muted kinds.disks s.after.told laws) (disk_of s.after.journal) at.0 from.0 (s.same_told ∙ so) from.1 stood in
      stands_last image at.0 s.before.book s.after.book (only_one (s.only none ids at.0 opened)) s.shared.grows ((ready_consistent kinds.disks s.opened).sound so) at.1

  pub servers_leave_ready : KeepsSettled → ServersLeaveReady kinds
  servers_leave_ready stays known namespace site workers was is status s told ids image left =
      let so : IsTrue s.before.told = ready_tells kinds.disks s.opened ∙ told in
      let last : IsTrue s.after.told = s.same_told ∙ so in
      let near = s.near so image left in
      settled_next namespace image s.after.book near.0 (s.shared.grows.namespace ∙ ready_in kinds.disks s.opened)
      (sound_still s.before.book s.after.book s.shared.grows ((ready_consistent kinds.disks s.opened).sound so)) ids near.2 near.1
      (closed_right kinds.disks s.closed stays (told_tells Checkpoints kinds.disks.tells known told) last (s.right last) image left)

  pub servers_captures_come_back : FilesStandForOneBook → FilesStandForNoVolume → ServersCapturesComeBack kinds
  servers_captures_come_back one no_volume known duty was is status s told ids image x left stands =
      let near = s.near (ready_tells kinds.disks s.opened ∙ told) image left in
      all_next one no_volume image s.after.book near.0 x ids near.2 near.1 stands

  pub servers_without_shelves_leave_ready : KeepsSettled → ServersWithoutShelvesLeaveReady kinds
  servers_without_shelves_leave_ready stays known namespace was is status lacks told ids image left =
      let so : IsTrue lacks.before.told = ready_tells kinds.disks lacks.opened ∙ told in
      let tells = told_tells Checkpoints kinds.disks.tells known told in
      let from = closed_from kinds.disks lacks.closed tells image left in
      let stood = (lacks.opened.left so from.0 from.1).stands in
      record {
        book = lacks.before.book;
        settled = record {
          stands = record { for = subst (λ (files : List (List ℕ)). StandsFor files lacks.before.book) (sym from.2) stood.for; sound = stood.sound };
          ids = ids;
          checkpoints = closed_right kinds.disks lacks.closed stays tells so
              (λ before then. (lacks.opened.left so before then).checkpoints) image left;
        };
        asked_for = λ ns is. ready_in kinds.disks lacks.opened ∙ same_Some namespace ns is;
      }

  pub servers_without_shelves_come_back : FilesStandForOneBook → FilesStandForNoVolume → ServersWithoutShelvesComeBack kinds
  servers_without_shelves_come_back one no_volume known asked was is status lacks told ids image x left stands =
      let near = lacks.near (ready_tells kinds.disks lacks.opened ∙ told) image left in
      all_next one no_volume image lacks.before.book near.0 x ids near.2 near.1 stands

  server_answered : (known : Option Book) (namespace : List ℕ) (site : Site) (workers : ℕ) (was is : Objects D G (List (N × C)) O) (status : Status)
      → IsTrue (told_at Checkpoints kinds.disks.tells known) → NoFaults kinds was is
      → Serves kinds known (record { asked = Some namespace; site = site; workers = workers }) was is status ⊎ LacksShelves kinds known (Some namespace) was is status
      ⊎ Refuses kinds (by_checkpoints was.disk (Some namespace) known) was is status ⊎ ((status ≡ Memory) × (is ≡ was))
      → (status ≡ Done) ⊎ (status ≡ Memory)
  server_answered known namespace site workers was is status told steady (inl s) =
      let printed = printed_or_lacked kinds.sinks s.said (captures_line (length (captures s.after.book))) was.out is.out s.told.printed steady.out s.told.prints in
      settled_well s.closed.answer s.counted status s.closed.status_is
      (counted_well (kinds.gates.closed is.gate) (kinds.gates.faults was.gate) (kinds.gates.faults is.gate) s.said s.told.printed s.counted steady.gate s.ended printed
      s.told.lacking s.told.status_is)
  server_answered known namespace site workers was is status told steady (inr (inl lacks)) =
      settled_well lacks.closed.answer Memory status lacks.closed.status_is (inr refl)
  server_answered known namespace site workers was is status told steady (inr (inr (inl refuses))) =
      inr (refused_known kinds known (Some namespace) was is status told steady refuses)
  server_answered known namespace site workers was is status told steady (inr (inr (inr lacks))) = inr lacks.0

  pub servers_answered : ServersAreAnswered kinds
  servers_answered known namespace site workers was is status told steady runs =
      server_answered known namespace site workers was is status told steady runs
