-- The passes of a vault, told as the seats of a crew.
use Rattle.std.proofs.Common.{◌≡◌, ℕ, zero, suc, ◌+◌, ◌-◌, false, IsTrue, List, [], ◌∷◌, ◌++◌, drop, length, get_or, map, Option, None, Some, inl, refl, sym, ap, subst, ◌∙◌, arith}
use Rattle.std.specs.Prelude.{IfSome, IsPermutation, slice_get}
use Rattle.std.specs.List.{All, AllByRecursion, flat_map, range_with_len, sum_by}
use Rattle.std.proofs.lemmas.List.{length-map}
use Rattle.std.proofs.lemmas.List.Elements.{All-cons, All-from_recursion, All-nil, recursion_from_All}
use Rattle.std.proofs.lemmas.List.Sums.{sum_by-cons}
use Rattle.archive_core.specs.Holdings.{Holdings, contents_of}
use Rattle.archive_reopening.specs.Known.{by_checkpoints}
use Rattle.archive_core.specs.Stood.{Stood}
use Rattle.archive_reopening.specs.Standing.{LeavesStored}
use Rattle.archive_core.specs.Told.{told_of}
use Rattle.checkpoint.specs.OfVolume.{HasCheckpointsOf}
use Rattle.archive_shelf.specs.Contents.{Contents}
use Rattle.archive_shelf.specs.Openings.{HasIds, IsState}
use Rattle.archive_volumes.proofs.ChangeLaws.{DiskLaws, laws_muted, now_image, one_of}
use Rattle.archive_volumes.specs.Volumes.{OpensNear, muted}
use Rattle.capture.specs.Captures.{captures}
use Rattle.capture.specs.declared.book.Book.{Book}
use Rattle.capture.specs.declared.site.Site.{Site}
use Rattle.index_entry.specs.OfBook.{AreEntries}
use Rattle.disk_model.specs.Crash.{Leaves}
use Rattle.disk_model.specs.declared.disk.Disk.{Ghosts as Disks}
use Rattle.history_lock.specs.Known.{Known}
use Rattle.vault_lists.specs.Items.{shown_in}
use Rattle.vault_turns.specs.Calm.{IsCalm}
use Rattle.vault.specs.Company.{Passing, contents_at, told_at}
use Rattle.vault_turns.specs.History.{told_book}
use Rattle.vault.specs.Members.{AreMembers, AreNewMembers, IsMember, IsMemberAt, IsNewMember, VaultName}
use Rattle.vault_turns.specs.Own.{own_captures, own_faults}
use Rattle.vault.specs.Sharing.{HasItsOwn, IsLeftByAll, IsSharedOut as IsHistoryShared, all_stored}
use Rattle.vault_turns.specs.declared.noted.Noted.{Noted}
use Rattle.vault.proofs.MemberLaws.{new_captures, new_faults}
use Rattle.crew.specs.Crews.{IsEnd, ServesAll}
use Rattle.command.specs.Objects.{Kinds, Objects}
use Rattle.command.proofs.OpeningLaws.{ids_differ}
use Rattle.command.proofs.SettlingLaws.{ready_none}
use Rattle.command.specs.Printing.{printed_as}
use Rattle.command.specs.Settling.{ClosesSettled, IsOf, OpensSettled}
use Rattle.proxy_run.specs.Serves.{IsSharedOut, Seat, Serves, TellsCount, told_by}
use Rattle.crew.specs.Shifts.{hands_of}
use Rattle.command.specs.declared.status.Status.{Status}
use Rattle.proxy_run.specs.steps.Seating.{IsNameOf}
use Rattle.proxy_run.proofs.SeatLaws.{serves_as}
use Rattle.std.specs.List.Sorted.{IsStrictlyIncreasing}
use Rattle.capture.specs.Growth.{Grows}
use Rattle.warc_journal.specs.Journals.{disk_of}

-- what is told of a pass
abbrev pub seat_of : Passing → Seat
seat_of pass = record {
  number = pass.known.number;
  contents = record (contents_at pass) { mine = own_captures pass.known.numbers pass.known.seen };
  faults = own_faults pass.known.numbers pass.known.seen;
}

abbrev pub known_of : Passing → Known Noted
known_of pass = pass.known

abbrev pub number_of : Passing → ℕ
number_of pass = pass.known.number

-- ---- beginnings

-- where each image stands for the archive's book, a crash leaves that alone
pub settled_calm : {D : Type 0} (disks : Disks D) → DiskLaws disks → (held : Holdings D)
    → (IsTrue held.told → Leaves (disks.images (disk_of held.journal)) (IsOf held.book)) → IsCalm disks held
settled_calm disks laws held left ids x o =
    inl (one_of o.1 x held.book o.3
    (left o.0 o.1 (now_image (muted held.told disks) (laws_muted disks held.told laws) (disk_of held.journal) x o)).stands
    (ids_differ held.book ids))

-- A shelf that has stored nothing and met no fault, over an archive of which this is told. Where the disk is told, what is shown of it are the entries of the book.
abbrev pub IsNewcomer : Contents → Seat → Type 0
IsNewcomer now seat =
    (seat.contents ≡ record now { shown = seat.contents.shown }) × (IsTrue now.tells → AreEntries now.seen seat.contents.shown) × (seat.faults ≡ 0)

module _ (vault : VaultName) (now : Contents) (faults : ℕ) (name : IsNameOf vault now faults) (none : now.mine ≡ []) where
  newcomer : (number : ℕ) (pass : Passing) → IsNewMember vault number pass → IsNewcomer now (seat_of pass)
  newcomer number pass new =
      let tells : (contents_at pass).tells ≡ now.tells = new.member.told ∙ name.tells in
      let seen : (contents_at pass).seen ≡ now.seen = new.book_is ∙ name.book in
      let mine : own_captures pass.known.numbers pass.known.seen ≡ now.mine = new_captures vault number pass new ∙ sym none in
      let limits : (contents_at pass).limits ≡ now.limits = new.member.limits_are ∙ name.limits in (
        λ i. record { tells = tells i; seen = seen i; shown = shown_in pass.shown.items; mine = mine i; limits = limits i },
        λ told. subst (λ (b : Book). AreEntries b (shown_in pass.shown.items)) name.book (new.shows (name.tells ∙ told)),
        new_faults vault number pass new,
      )

  pub newcomers : (place : ℕ → ℕ) (passes : List Passing) → ((k : ℕ) → IfSome (slice_get passes k) (IsNewMember vault (place k))) → All (IsNewcomer now) (map seat_of passes)
  newcomers place [] each = All-nil (IsNewcomer now)
  newcomers place (pass ∷ passes) each =
      All-cons (IsNewcomer now) (seat_of pass) (map seat_of passes) (newcomer (place 0) pass (each 0)) (newcomers (λ k. place (suc k)) passes (λ k. each (suc k)))

-- ---- members

member_if : (vault : VaultName) (number : ℕ) (pass : Option Passing) → IfSome pass (IsMemberAt vault number) → IfSome pass (λ p. IsMember vault p.known)
member_if vault number None at_place = tt
member_if vault number (Some p) at_place = at_place.member

all_members : (vault : VaultName) (passes : List Passing) → ((k : ℕ) → IfSome (slice_get passes k) (λ p. IsMember vault p.known))
    → AllByRecursion (λ (p : Passing). IsMember vault p.known) passes
all_members vault [] each = tt
all_members vault (pass ∷ passes) each = (each 0, all_members vault passes (λ k. each (suc k)))

pub members_of : (vault : VaultName) (passes : List Passing) → AreMembers vault passes → All (λ (p : Passing). IsMember vault p.known) passes
members_of vault passes are =
    All-from_recursion (λ (p : Passing). IsMember vault p.known) passes
    (all_members vault passes (λ k. member_if vault (k + 1) (slice_get passes k) (are.each k)))

-- those who come back with the numbers that stood in their places are in theirs
module _ (vault : VaultName) where
  again_at : (place : ℕ → ℕ) (before after : List Passing) → ((k : ℕ) → IfSome (slice_get before k) (IsMemberAt vault (place k)))
      → AllByRecursion (λ (p : Passing). IsMember vault p.known) after → map number_of after ≡ map number_of before
      → (k : ℕ) → IfSome (slice_get after k) (IsMemberAt vault (place k))
  again_at place before [] each all same k = tt
  again_at place [] (now ∷ after) each all same k = absurd (omega (arith, ap (λ (ns : List ℕ). length ns) same))
  again_at place (was ∷ before) (now ∷ after) each all same zero =
      record { member = all.0; number_is = ap (λ (ns : List ℕ). get_or ns 0 0) same ∙ (each 0).number_is }
  again_at place (was ∷ before) (now ∷ after) each all same (suc k) =
      again_at (λ n. place (suc n)) before after (λ n. each (suc n)) all.1 (ap (λ (ns : List ℕ). drop 1 ns) same) k

  pub members_again : (before after : List Passing) → AreMembers vault before → All (λ (p : Passing). IsMember vault p.known) after
      → map number_of after ≡ map number_of before → AreMembers vault after
  members_again before after are all same = record {
    count = sym (length-map after number_of) ∙ (ap (λ (ns : List ℕ). length ns) same ∙ (length-map before number_of ∙ are.count));
    each = again_at (λ k. k + 1) before after are.each (recursion_from_All (λ (p : Passing). IsMember vault p.known) after all) same;
  }

-- ---- what they share

abbrev own_of : Known Noted → List ℕ
own_of pass = own_captures pass.numbers pass.seen

abbrev met_by : Known Noted → ℕ
met_by pass = own_faults pass.numbers pass.seen

mine_as : (passes : List Passing) → flat_map (λ (seat : Seat). seat.contents.mine) (map seat_of passes) ≡ flat_map own_of (map known_of passes)
mine_as [] = refl
mine_as (pass ∷ passes) = ap (λ ns. own_of pass.known ++ ns) (mine_as passes)

faults_as : (passes : List Passing) → sum_by (λ (seat : Seat). seat.faults) (map seat_of passes) ≡ sum_by met_by (map known_of passes)
faults_as [] = refl
faults_as (pass ∷ passes) =
    sum_by-cons (λ (seat : Seat). seat.faults) (seat_of pass) (map seat_of passes)
    ∙ (ap (λ n. met_by pass.known + n) (faults_as passes) ∙ sym (sum_by-cons met_by pass.known (map known_of passes)))

shares : (history : List Noted) (passes : List Passing) → ((k : ℕ) → IfSome (slice_get (map known_of passes) k) (HasItsOwn history))
    → (k : ℕ) → IfSome (slice_get (map seat_of passes) k) (λ (seat : Seat). Grows seat.contents.seen (told_book history) × IsStrictlyIncreasing seat.contents.mine)
shares history [] each k = tt
shares history (pass ∷ passes) each zero = ((each 0).grown, (each 0).rise)
shares history (pass ∷ passes) each (suc k) = shares history passes (λ n. each (suc n)) k

pub shared_out : (book : Book) (passes : List Passing) (history : List Noted) → IsHistoryShared book (map known_of passes) history
    → IsSharedOut book (map seat_of passes) (told_book history)
shared_out book passes history shared =
    let mine = mine_as passes in
    let many : all_stored (map known_of passes) ≡ length (captures (told_book history)) - length (captures book) = omega (arith, shared.count) in
    record {
      grows = shared.grown;
      each = shares history passes shared.own;
      once = subst (λ (z : List ℕ × ℕ). IsPermutation z.0 (range_with_len (length (captures book)) z.1)) (λ i. (sym mine i, many i)) shared.once;
    }

-- ---- what is left

module _ {D G L P N M C O : Type 0} (kinds : Kinds D G L P N M C O) (known : Option Book) (asked : Option (List ℕ)) (site : Site)
    (was is : Objects D G (List (N × C)) O) (vault : VaultName) (starts seats : List Passing) where
  -- all that a crew serves over a vault of an archive that was opened and settled
  pub serves_over : (before after : Holdings D) (lasts : Stood → Type 0) → OpensSettled kinds.disks (by_checkpoints was.disk asked known) before
      → IsNameOf vault (contents_of before) (kinds.disks.faults (disk_of before.journal)) → AreNewMembers vault starts → AreMembers vault seats → (said : Status)
      → (IsTrue kinds.clients_tell → IsTrue kinds.origins_tell
      → ServesAll (record { alone = false; told = told_at; setting = record { site = site; clock_tells = kinds.clocks.tells } })
      (kinds.gates.connections was.gate) (kinds.gates.connections is.gate)
      (hands_of kinds.dialers kinds.clocks starts was.crew) (hands_of kinds.dialers kinds.clocks seats is.crew))
      → IsEnd (kinds.gates.closed is.gate) (kinds.gates.faults was.gate) (kinds.gates.faults is.gate) said
      → IsLeftByAll vault (map known_of seats) after.book after.limits after.told (kinds.disks.faults (disk_of after.journal)) (record {
        calm = HasIds after.book → IsState (told_of kinds.disks after).crash after.book None;
        right = IsTrue after.told → Leaves (kinds.disks.images (disk_of after.journal)) (λ image. HasCheckpointsOf image after.book);
        lasts = lasts;
      })
      → (counted : Status) → TellsCount kinds.sinks (length (captures after.book)) said (printed_as was.out is.out counted)
      → (status : Status) → ClosesSettled kinds.disks after counted is.disk status → (IsTrue after.told → OpensNear kinds.disks is.disk after.book)
      → (lasts vault.sure.stood → IsTrue kinds.disks.tells → LeavesStored kinds.disks was.disk before.book is.disk after.book)
      → drop vault.passes is.crew ≡ drop vault.passes was.crew → Serves kinds known (record { asked = asked; site = site; workers = vault.passes }) was is status
  serves_over before after lasts opened name new back said serves ended of_all counted tells status closed near stored others =
      let same : after.told ≡ before.told = of_all.told_is ∙ name.tells in
      record {
        before = before;
        after = after;
        starts = map seat_of starts;
        seats = map seat_of seats;
        said = said;
        counted = counted;
        opened = opened;
        new = newcomers vault (contents_of before) (kinds.disks.faults (disk_of before.journal)) name (ready_none kinds.disks opened) (λ k. k + 1) starts new.each;
        workers_are = length-map starts seat_of ∙ new.count;
        count = length-map seats seat_of ∙ back.count;
        serves = λ t u.
            serves_as seat_of kinds.dialers kinds.clocks false told_at told_by (record { site = site; clock_tells = kinds.clocks.tells })
            (λ w i heard this. record { served = this.served; connection = this.connection })
            (kinds.gates.connections was.gate) (kinds.gates.connections is.gate) starts seats was.crew is.crew (serves t u);
        ended = ended;
        shared = subst (λ (z : Book × Book). IsSharedOut z.0 (map seat_of seats) z.1) (λ i. (name.book i, sym of_all.book_is i))
            (shared_out vault.book seats of_all.history of_all.shared);
        same_told = same;
        disk_faults =
            let met = faults_as seats in
            let risen = of_all.counted in
            omega (arith, met, risen, name.met);
        told = tells;
        closed = closed;
        only = λ none. of_all.calm name.calm (sym (faults_as seats) ∙ none);
        right = of_all.right name.right;
        near = λ t. near (same ∙ t);
        stored = stored (of_all.lasts name.lasts);
        others = others;
      }
