-- An archive whose disk was stopped, and that was opened again or wasn't.
use Rattle.std.proofs.Common.{◌≡◌, ℕ, ◌+◌, Bool, true, false, IsTrue, List, Option, Some, None, Result, Ok, Err, refl, sym, ap, subst, ◌∙◌, inl, inr, ⊎_elim}
use Rattle.std.specs.Prelude.{IfErr, IfOk, is_some}
use Rattle.std.proofs.lemmas.Bool.{false≢true}
use Rattle.std.proofs.lemmas.Option.{same_Some}
use Rattle.capture.specs.Growth.{Grows}
use Rattle.capture.specs.declared.book.Book.{Book}
use Rattle.capture.specs.declared.captured.Taken.{Taken}
use Rattle.capture.specs.declared.limits.Limits.{Limits}
use Rattle.disk_model.specs.Device.{Device, images_of, reading_of, stopped}
use Rattle.disk_model.specs.Image.{Image}
use Rattle.disk_model.specs.contracts.memory_disk.MemoryDiskDisk.TheImpl.{ghosts}
use Rattle.disk_model.specs.declared.disk.Disk.{Ghosts}
use Rattle.disk_model.specs.declared.memory_disk.MemoryDisk.{MemoryDisk}
use Rattle.disk_model.specs.steps.ChangesLaws.{left_earlier, left_now, left_only_now, replayed_is_left}
use Rattle.warc_journal.specs.Extents.{cdxj_files}
use Rattle.warc_journal.specs.Journals.{Rests, disk_of}
use Rattle.archive_shelf.specs.Openings.{ImageStandsFor, IsNext, SameBook}
use Rattle.archive_shelf.specs.Storing.{Storing, counts_of, stored_by}
use Rattle.archive_shelf.specs.Told.{Told}
use Rattle.archive_shelf.specs.declared.fault.ReopenFault.{ReopenFault}
use Rattle.archive_shelf.specs.declared.fault.ReopenFault.TheVariants as reopens
use Rattle.archive_shelf.specs.declared.fault.StoreFault.{StoreFault}
use Rattle.archive_shelf.specs.declared.fault.StoreFault.TheVariants as stores
use Rattle.archive_shelf.specs.declared.receipt.Receipt.{Receipt}
use Rattle.archive_volumes.proofs.ChangeLaws.{DiskLaws, laws_muted, opens_now}
use Rattle.archive_volumes.specs.Volumes.{OpensNear, crash_of, muted}
use Rattle.archive_core.specs.Holdings.{Holdings}
use Rattle.archive_reopening.specs.Known.{IsNotOpenedKnown, IsReopenedKnown, by_checkpoints}
use Rattle.archive_reopening.specs.Reopening.{IsReopened}
use Rattle.archive_opening.specs.Opening.{IsOutside}
use Rattle.archive_opening.specs.Telling.{IsAskedFor, IsSettledFor}
use Rattle.archive_core.specs.Told.{told_of}
use Rattle.archive_core.proofs.NextLaws.{next_grows}
use Rattle.event_core.proofs.NextLaws.{next_in_namespace, same_is, same_stands_for}
use Rattle.event_core.proofs.ImageLaws.{right_image}
use Rattle.event_core.proofs.OpenLaws.{few_ids, opened_stands}
use Rattle.event_core.proofs.StandLaws.{has_ids, is_sound, stands_on, still_shows}
use Rattle.event_core.proofs.TallyLaws.{least_may, right_stays, sealed_grows, tally_stays}
use Rattle.event_core.specs.Machine as machine
use Rattle.event_core.specs.Machine.{IsEither, IsLeftWithin, Reopens, State, StaysRefused, sealed}
use Rattle.event_core.specs.Running.{HoldsOne}
use Rattle.event_core.specs.declared.event.Event.{Event}
use Rattle.event_core.specs.declared.event.Event.TheVariants as events
use Rattle.event_core.specs.declared.reply.Reply.{Reply}
use Rattle.event_core.specs.declared.reply.Reply.TheVariants as replies
use Rattle.event_core.specs.steps.Standing.{Answers, EndsBy, GoesOn, IsShut, IsStanding, Knows, MayBe, Standing, Stands, state_at}

-- a book for which the image is settled, in this namespace
pub record IsNamed (image : Image) (namespace : List ℕ) : Type 0 where
  pub book : Book
  pub settled : IsSettledFor image book
  pub asked_for : IsAskedFor (Some namespace) book

module _ {D : Type 0} (d : Ghosts D) (laws : DiskLaws d) (limits : Limits) (namespace : List ℕ) (was : Holdings D) (s : Standing)
    (stands : Stands limits namespace (told_of d was) s) where
  -- what an image stands for may be opened
  opened_by : (x : Book) (image : Image) → d.images (disk_of was.journal) image → ImageStandsFor image x
      → (told_of d was).crash.openings (told_of d was).crash.moment x
  opened_by x image now for =
      opens_now (muted was.told d) (laws_muted d was.told laws) (disk_of was.journal) x image stands.tells now for

  next_to : (x : Book) → (told_of d was).crash.openings (told_of d was).crash.moment x → IsNext s.book x
  next_to x opened =
      subst (λ (b : Book). IsNext b x) stands.book (stands.shows.next (has_ids limits namespace (told_of d was) s stands) x opened)

  -- an image stands for the book, or for the other one
  pub image_holds : OpensNear d (disk_of was.journal) was.book → (image : Image) → d.images (disk_of was.journal) image
      → (o : HoldsOne image (IsEither (state_at s 0))) × (o.book.namespace ≡ namespace)
  image_holds near image now =
      let at = near image now in
      let opened = opened_by at.0 image now at.1 in
      let here : SameBook at.0 s.book → (o : HoldsOne image (IsEither (state_at s 0))) × (o.book.namespace ≡ namespace) =
      (λ same. (
        record {
          book = s.book;
          stands = same_stands_for image at.0 s.book at.1 (is_sound limits namespace (told_of d was) s stands) same;
          allowed = inl refl;
        },
        stands.in_namespace,
      )) in
      ⊎_elim here
      (λ other. ⊎_elim
      (λ none. here (inr none))
      (λ grows. (record { book = at.0; stands = at.1; allowed = inr other }, grows.namespace ∙ stands.in_namespace))
      (next_grows s.book at.0 (next_to at.0 opened)))
      (stands.opens at.0 opened)

  -- ---- opened again

  module _ (disk : D) (tells : IsTrue d.tells) (left : d.images (disk_of was.journal) (d.reading disk))
      (alone : (image : Image) → d.images disk image → cdxj_files image ≡ cdxj_files (d.reading disk)) where
    module _ (held : Holdings D) (opened : IsReopened d disk (Some namespace) limits held) where
      may_be_opened : (told_of d was).crash.openings (told_of d was).crash.moment held.book
      may_be_opened = opened_by held.book (d.reading disk) left (record { for = opened.stands tells; sound = opened.sound })

      same_namespace : held.book.namespace ≡ s.book.namespace
      same_namespace = opened.in_namespace ∙ sym stands.in_namespace

      has_grown : Grows s.book held.book
      has_grown = next_in_namespace s.book held.book same_namespace (next_to held.book may_be_opened)

      is_either : IsEither (state_at s 0) held.book
      is_either = ⊎_elim
          (λ same. inl (same_is held.book s.book same_namespace same))
          (λ other. inr other)
          (stands.opens held.book may_be_opened)

      -- the files that a crash leaves of it are some that it might have left before
      before : (files : List (List ℕ)) → (crash_of d disk).checkpoints files → (told_of d was).crash.checkpoints files
      before files has = (
        stands.tells,
        d.reading disk,
        left,
        sym (alone has.1 has.2) ∙ has.3,
      )

      abbrev opened_standing : Standing
      opened_standing = record { book = held.book; other = None; tally = s.tally }

      pub stop_stands : Stands limits namespace (told_of d held) opened_standing
      stop_stands = opened_stands d disk namespace limits held opened tells stands.ids s.tally
          (λ files has. right_stays s.book held.book files has_grown (stands.right files (before files has)))
          (tally_stays (told_of d was).crash.checkpoints (crash_of d disk).checkpoints (sealed s.book) (sealed held.book) s.tally before
          (sealed_grows s.book held.book has_grown) stands.tallied)

      pub stop_answers : (choice : ℕ) → Answers limits namespace (told_of d held) s (events.Stop choice) (replies.Reopened (counts_of held.book))
      stop_answers choice = record {
        is = opened_standing;
        stands = stop_stands;
        steps = λ n may. (
          n,
          may,
          record {
            either = is_either;
            reopens = record { other = refl; settled = inl refl };
            answer = refl;
          },
        );
      }

    -- ---- or not

    pub stop_shut : OpensNear d (disk_of was.journal) was.book → (choice : ℕ) (refused : ReopenFault × D) → IsOutside refused.0
        → (IsTrue d.tells → Rests d disk refused.1) → IsShut limits s (events.Stop choice) refused.0 (d.reading refused.1)
    stop_shut near choice refused outside rests = record {
      outside = outside;
      holds = subst (λ (image : Image). HoldsOne image (IsEither (state_at s 0))) (sym (rests tells).read) (image_holds near (d.reading disk) left).0;
    }

    -- ---- what is known of it

    -- the book for which it stands may be named
    pub book_left : OpensNear d (disk_of was.journal) was.book → IsNamed (d.reading disk) namespace
    book_left near =
        let holds = image_holds near (d.reading disk) left in
        let x = holds.0.book in
        let grown = next_in_namespace s.book x (holds.1 ∙ sym stands.in_namespace) (next_to x (opened_by x (d.reading disk) left holds.0.stands)) in
        let right = stands.right (cdxj_files (d.reading disk)) (stands.tells, d.reading disk, left, refl) in record {
          book = x;
          settled = record {
            stands = holds.0.stands;
            ids = (few_ids namespace x stands.ids holds.1 holds.0.stands.sound.sound.few).1;
            checkpoints = right_image x (d.reading disk) (right_stays s.book x (cdxj_files (d.reading disk)) grown right);
          };
          asked_for = λ ns asked. holds.1 ∙ same_Some namespace ns asked;
        }

-- ---- a disk in memory

memory_laws : DiskLaws ghosts
memory_laws = record {
  earlier = λ disk t s image le left. left_earlier disk.changes disk.first t s image le left;
  now_counts = λ disk t image le left. left_now disk.changes disk.first t image le left;
  now_only = λ disk image left. left_only_now disk.changes disk.first image left;
}

pub read_now : (disk : Device) → images_of disk (reading_of disk)
read_now disk = replayed_is_left disk.changes disk.first (λ image. image ≡ disk.first) refl

-- a disk that was stopped has one image
stopped_alone : (disk left : Device) (choice : ℕ) → left ≡ stopped disk choice → (image : Image) → images_of left image → image ≡ reading_of left
stopped_alone disk left choice is =
    subst (λ (d : Device). (image : Image) → images_of d image → image ≡ reading_of d) (sym is) (λ image now. now)

module _ (limits : Limits) (namespace : List ℕ) (was : Holdings MemoryDisk) (closed : Device) (same : closed ≡ disk_of was.journal)
    (near : IsTrue was.told → OpensNear ghosts closed was.book) where
  pub close_holds : (s : Standing) (image : Image) → Stands limits namespace (told_of ghosts was) s → images_of closed image
      → HoldsOne image (IsEither (state_at s 0))
  close_holds s image stands now =
      (image_holds ghosts memory_laws limits namespace was s stands
      (subst (λ (d : Device). OpensNear ghosts d was.book) same (near stands.tells)) image
      (subst (λ (d : Device). images_of d image) same now)).0

  module _ (left : Device) (choice : ℕ) (is : left ≡ stopped closed choice) (now : images_of closed (reading_of left)) where
    -- where the archive stood, the book on the disk may be named
    pub knows_left : (stood : Bool) → (IsTrue stood → IsStanding limits namespace (told_of ghosts was)) → (known : Option Book) × Knows left namespace stood known
    knows_left false standing = (None, record { may = tt; named = λ so. absurd (false≢true so) })
    knows_left true standing =
        let at = standing refl in
        let named = book_left ghosts memory_laws limits namespace was at.was at.stands left refl (subst (λ (d : Device). images_of d (reading_of left)) same now)
        (λ image there. ap cdxj_files (stopped_alone closed left choice is image there))
        (subst (λ (d : Device). OpensNear ghosts d was.book) same (near at.stands.tells)) in
        (Some named.book, record { may = λ so. (named.settled, named.asked_for); named = λ so. refl })

    module _ (stood : Bool) (known : Option Book) (knows : Knows left namespace stood known) where
      -- it was opened to the book that is known
      opened_to : (k : Option Book) (held : Holdings MemoryDisk) → IsTrue (is_some k) → IsReopenedKnown ghosts (by_checkpoints left (Some namespace) k) limits held
          → IsReopened ghosts left (Some namespace) limits held
      opened_to None held so opened = absurd (false≢true so)
      opened_to (Some book) held so opened = opened.whole opened.told_is

      pub reopen_goes : (result : Result (Holdings MemoryDisk) (ReopenFault × Device)) → IfOk result (IsReopenedKnown ghosts (by_checkpoints left (Some namespace) known) limits)
          → IfOk result (λ next. IsTrue stood
          → GoesOn limits namespace (told_of ghosts was) (told_of ghosts next) (events.Stop choice) (replies.Reopened (counts_of next.book)))
      reopen_goes (Ok held) opened = λ so s stands.
          stop_answers ghosts memory_laws limits namespace was s stands left refl (subst (λ (d : Device). images_of d (reading_of left)) same now)
          (λ image at. ap cdxj_files (stopped_alone closed left choice is image at)) held (opened_to known held (knows.named so) opened) choice
      reopen_goes (Err refused) opened = tt

      outside_by : (k : Option Book) (refused : ReopenFault × Device) → IsTrue (is_some k) → IsNotOpenedKnown ghosts left (Some namespace) k refused → IsOutside refused.0
      outside_by None refused so not = absurd (false≢true so)
      outside_by (Some book) refused so not = not.complete refl

      pub reopen_shut : (result : Result (Holdings MemoryDisk) (ReopenFault × Device)) → IfErr result (IsNotOpenedKnown ghosts left (Some namespace) known)
          → IfErr result (λ refused. IsTrue stood → EndsBy limits namespace (told_of ghosts was) (events.Stop choice) refused.0 (reading_of refused.1))
      reopen_shut (Ok held) not = tt
      reopen_shut (Err refused) not = λ so s stands.
          stop_shut ghosts memory_laws limits namespace was s stands left refl (subst (λ (d : Device). images_of d (reading_of left)) same now)
          (λ image at. ap cdxj_files (stopped_alone closed left choice is image at))
          (subst (λ (d : Device). OpensNear ghosts d was.book) same (near stands.tells)) choice refused (outside_by known refused (knows.named so) not) not.rests

  -- it wasn't even stopped
  pub unstopped_shut : (disk : Device) (choice : ℕ) → disk ≡ closed
      → EndsBy limits namespace (told_of ghosts was) (events.Stop choice) reopens.Memory (reading_of disk)
  unstopped_shut disk choice is = λ s stands. record {
    outside = tt;
    holds = subst (λ (d : Device). HoldsOne (reading_of d) (IsEither (state_at s 0))) (sym is)
        (close_holds s (reading_of closed) stands (read_now closed));
  }

-- ---- while a capture is stored

-- what a store leaves of the state, whatever it answers, may be left within it
pub left_within : (limits : Limits) (was is : State) (taken : Taken) (result : Result Receipt StoreFault) → machine.Stores limits was taken result is
    → (book : Book) → IsEither is book → IsLeftWithin limits was taken book
left_within limits was is taken (Ok receipt) h book either =
    inr (
      h.room,
      (
        h.storing,
        inr (⊎_elim
            (λ same. same ∙ ap (λ (s : State). s.book) h.left)
            (λ other. no_other (sym (ap (λ (s : State). s.other) h.left) ∙ other))
            either),
      ),
    )
  where
    no_other : {P : Type 0} → None ≡ Some book → P
    no_other e = let bad : ⊥ = cc in absurd bad
left_within limits was is taken (Err (stores.Full count limit)) h book either = inl (subst (λ (s : State). IsEither s book) h.3 either)
left_within limits was is taken (Err stores.DiskFault) h book either = ⊎_elim stays part h.1
  where
    none_some : {P : Type 0} → None ≡ Some book → P
    none_some e = let bad : ⊥ = cc in absurd bad

    stays : StaysRefused was is → IsLeftWithin limits was taken book
    stays s = inl (⊎_elim
        (λ same. inl (same ∙ ap (λ (t : State). t.book) s.left))
        (λ other. ⊎_elim
        (λ was_other. inr (sym was_other ∙ other))
        (λ none. none_some (sym none ∙ other))
        s.other)
        either)

    part : ((storing : Storing limits.volume_bytes was.book taken) × machine.LeavesPart was storing is) → IsLeftWithin limits was taken book
    part p = ⊎_elim
        (λ same. ⊎_elim
        (λ stayed. inl (inl (same ∙ stayed)))
        (λ more. inr (h.0, (p.0, inl (same ∙ more))))
        p.1.book)
        (λ other. ⊎_elim
        (λ none. none_some (sym none ∙ other))
        (λ some. ⊎_elim
        (λ volume. inr (h.0, (p.0, inl (sym (same_Some p.0.unfilled book (sym volume ∙ other))))))
        (λ stored. inr (h.0, (p.0, inr (sym (same_Some (stored_by p.0) book (sym stored ∙ other))))))
        some)
        p.1.other)
        either
left_within limits was is taken (Err (stores.Damaged number kept found)) h book either = absurd h
left_within limits was is taken (Err stores.Memory) h book either = inl (subst (λ (s : State). IsEither s book) h either)

-- a store leaves the number of checkpoints
settled_stays : (limits : Limits) (was is : State) (taken : Taken) (result : Result Receipt StoreFault) → machine.Stores limits was taken result is
    → is.settled ≡ was.settled
settled_stays limits was is taken (Ok receipt) h = ap (λ (s : State). s.settled) h.left
settled_stays limits was is taken (Err (stores.Full count limit)) h = ap (λ (s : State). s.settled) h.3
settled_stays limits was is taken (Err stores.DiskFault) h = ⊎_elim
    (λ stays. ap (λ (s : State). s.settled) stays.left)
    (λ part. ap (λ (s : State). s.settled) part.1.left)
    h.1
settled_stays limits was is taken (Err (stores.Damaged number kept found)) h = absurd h
settled_stays limits was is taken (Err stores.Memory) h = ap (λ (s : State). s.settled) h

reopens_from : (was mid is : State) → mid.settled ≡ was.settled → Reopens mid is → Reopens was is
reopens_from was mid is same reopens = record {
  other = reopens.other;
  settled = ⊎_elim
      (λ stays. inl (stays ∙ same))
      (λ more. inr (more.0 ∙ ap (λ (n : ℕ). n + 1) same, more.1))
      reopens.settled;
}

-- a store, whatever it answered, and then a stop
module _ (limits : Limits) (namespace : List ℕ) (mid : Told) (was : Standing) (taken : Taken) (reply : Reply)
    (stored : Answers limits namespace mid was (events.Store taken) reply) where
  abbrev there : Standing
  there = stored.is

  left_from : (n : ℕ) (book : Book) → MayBe there.tally n → IsEither (state_at there 0) book → IsLeftWithin limits (state_at was 0) taken book
  left_from n book may either =
      let step = stored.steps n may in
      let within : IsLeftWithin limits (state_at was step.0) taken book =
      left_within limits (state_at was step.0) (state_at there n) taken step.2.result step.2.stores book either in
      within

  pub within_answers : (new : Told) (calls choice : ℕ) (last : Reply) → Answers limits namespace new there (events.Stop choice) last
      → Answers limits namespace new was (events.StopWithin taken calls choice) last
  within_answers new calls choice last stopped = record {
    is = stopped.is;
    stands = stopped.stands;
    steps = λ n may.
        let stop = stopped.steps n may in
        let store = stored.steps stop.0 stop.1 in (
          store.0,
          store.1,
          record {
            left = left_within limits (state_at was store.0) (state_at there stop.0) taken store.2.result store.2.stores stopped.is.book stop.2.either;
            reopens = reopens_from (state_at was store.0) (state_at there stop.0) (state_at stopped.is n)
                (settled_stays limits (state_at was store.0) (state_at there stop.0) taken store.2.result store.2.stores) stop.2.reopens;
            answer = stop.2.answer;
          },
        );
  }

  pub within_shut : (calls choice : ℕ) (fault : ReopenFault) (image : Image) → IsShut limits there (events.Stop choice) fault image
      → IsShut limits was (events.StopWithin taken calls choice) fault image
  within_shut calls choice fault image shut = record {
    outside = shut.outside;
    holds = record {
      book = shut.holds.book;
      stands = shut.holds.stands;
      allowed = left_from there.tally.least shut.holds.book (least_may mid.crash.checkpoints (sealed there.book) there.tally stored.stands.tallied) shut.holds.allowed;
    };
  }

module _ (limits : Limits) (namespace : List ℕ) (was mid : Told) (taken : Taken) (reply : Reply) (choice : ℕ)
    (stored : GoesOn limits namespace was mid (events.Store taken) reply) where
  pub within_goes : (new : Told) (last : Reply) → GoesOn limits namespace mid new (events.Stop choice) last → (calls : ℕ)
      → GoesOn limits namespace was new (events.StopWithin taken calls choice) last
  within_goes new last goes calls s stands =
      let to = stored s stands in
      within_answers limits namespace mid s taken reply to new calls choice last (goes to.is to.stands)

  pub within_ends : (fault : ReopenFault) (image : Image) → EndsBy limits namespace mid (events.Stop choice) fault image → (calls : ℕ)
      → EndsBy limits namespace was (events.StopWithin taken calls choice) fault image
  within_ends fault image ends calls s stands =
      let to = stored s stands in
      within_shut limits namespace mid s taken reply to calls choice fault image (ends to.is to.stands)

-- ---- a fuse

abbrev pub fused : Holdings MemoryDisk → ℕ → Holdings MemoryDisk
fused held calls = record held { journal = record held.journal { disk = record held.journal.disk { fuse = Some calls } } }

module _ (limits : Limits) (namespace : List ℕ) (held : Holdings MemoryDisk) (calls : ℕ) where
  still_may : (x : Book) → (told_of ghosts (fused held calls)).crash.openings (told_of ghosts (fused held calls)).crash.moment x
      → (told_of ghosts held).crash.openings (told_of ghosts held).crash.moment x
  still_may x o = (o.0, o.1, o.2, o.3)

  -- the archive whose disk has a fuse stands where it stood
  pub fused_stands : (s : Standing) → Stands limits namespace (told_of ghosts held) s → Stands limits namespace (told_of ghosts (fused held calls)) s
  fused_stands s stands =
      stands_on limits namespace (told_of ghosts held) (told_of ghosts (fused held calls)) s stands refl (λ x o. inl (still_may x o))
      (λ files has. (has.0, has.1, has.2, has.3))
      (still_shows limits namespace (told_of ghosts held) (told_of ghosts (fused held calls)) refl (λ book x o. inl (still_may x o)) stands.shows)

  pub fused_goes : (is : Holdings MemoryDisk) → is ≡ fused held calls → (new : Told) (event : Event) (reply : Reply)
      → GoesOn limits namespace (told_of ghosts is) new event reply → GoesOn limits namespace (told_of ghosts held) new event reply
  fused_goes is same new event reply goes s stands =
      goes s (subst (λ (h : Holdings MemoryDisk). Stands limits namespace (told_of ghosts h) s) (sym same) (fused_stands s stands))

  pub fused_ends : (is : Holdings MemoryDisk) → is ≡ fused held calls → (event : Event) (fault : ReopenFault) (image : Image)
      → EndsBy limits namespace (told_of ghosts is) event fault image → EndsBy limits namespace (told_of ghosts held) event fault image
  fused_ends is same event fault image ends s stands =
      ends s (subst (λ (h : Holdings MemoryDisk). Stands limits namespace (told_of ghosts h) s) (sym same) (fused_stands s stands))

-- what holds of an Ok holds of it in another form
pub if_ok : {T E : Type 0} (P Q : T → Type 0) (result : Result T E) → ((x : T) → P x → Q x) → IfOk result P → IfOk result Q
if_ok P Q (Ok x) gives h = gives x h
if_ok P Q (Err e) gives h = tt

pub if_err : {T E : Type 0} (P Q : E → Type 0) (result : Result T E) → ((x : E) → P x → Q x) → IfErr result P → IfErr result Q
if_err P Q (Ok x) gives h = tt
if_err P Q (Err e) gives h = gives e h
