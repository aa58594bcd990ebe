-- What it leaves of an archive that its checkpoints were written.
use Rattle.std.proofs.Common.{◌-◌, ◌≡◌, ℕ, ◌≤◌, Bool, true, IsTrue, List, [], length, Option, Some, None, Result, Ok, Err, refl, sym, ap, subst, ◌∙◌, ⊎_elim, arith}
use Rattle.std.specs.Prelude.{IfSome, OnOk}
use Rattle.std.proofs.lemmas.Bool.{false≢true}
use Rattle.archive_settling.proofs.FinishedLaws.{same_checkpoints_of}
use Rattle.archive_core.specs.Holdings.{Holdings, contents_of}
use Rattle.archive_reopening.specs.Known.{HasCheckpointsOfKnown, IsReopenedKnown, Opening, by_checkpoints, told_at}
use Rattle.archive_settling.specs.Finished.{FirstAreFinished}
use Rattle.archive_core.proofs.LastingLaws.{counts_later}
use Rattle.archive_core.specs.Settling.{SettlesOn}
use Rattle.archive_settling.specs.Settling.{KeepsSettled, reach}
use Rattle.archive_settling.specs.Supplying.{OpensNoMore, shelved_as}
use Rattle.archive_volumes.specs.Spots.{AreSpotsOf}
use Rattle.archive_volumes.specs.Volumes.{OpensNear, crash_of, muted}
use Rattle.archive_gathering.specs.Gathering.{IsIn}
use Rattle.archive_opening.specs.Telling.{MayBeSettled}
use Rattle.checkpoint.specs.OfVolume.{HasCheckpointsOf}
use Rattle.archive_shelf.specs.Contents.{Contents, IsConsistent}
use Rattle.archive_shelf.specs.Openings.{ImageStandsFor, SameBook}
use Rattle.archive_shelf.specs.declared.depth.Depth.{Depth}
use Rattle.archive_shelf.specs.declared.depth.Depth.TheVariants.{Checkpoints, Whole}
use Rattle.capture.specs.Faults.{Rose}
use Rattle.capture.specs.declared.book.Book.{Book}
use Rattle.capture.specs.declared.book.Volume.{Volume}
use Rattle.checkpoint.specs.Faults.{CountsDisk}
use Rattle.checkpoint.specs.declared.fault.CheckpointFault.{CheckpointFault}
use Rattle.checkpoint.specs.declared.fault.CheckpointFault.TheVariants as checkpoints
use Rattle.disk_model.specs.Crash.{Leaves}
use Rattle.disk_model.specs.Image.{Image}
use Rattle.disk_model.specs.declared.disk.Disk.{Ghosts as Disks}
use Rattle.warc_journal.specs.Extents.{warc_files}
use Rattle.warc_journal.specs.Journals.{disk_of}
use Rattle.warc_text.specs.StandsFor.{StandsFor}
use Rattle.command.specs.Opening.{IsOpened, usual_limits}
use Rattle.command.specs.Settling.{ClosesSettled, IsOf, OpensSettled}
use Rattle.command.specs.declared.status.Status.{Status}
use Rattle.command.proofs.OpeningLaws.{opened_consistent}

-- ---- what is told

pub told_tells : (depth : Depth) (tells : Bool) (known : Option Book) → IsTrue (told_at depth tells known) → IsTrue tells
told_tells Whole tells known so = so
told_tells Checkpoints tells None so = absurd (false≢true so)
told_tells Checkpoints tells (Some book) so = so

pub checkpoints_known : {D : Type 0} (disks : Disks D) (disk : D) (asked : Option (List ℕ)) (known : Option Book) → MayBeSettled disks disk asked known
    → HasCheckpointsOfKnown disks disk known
checkpoints_known disks disk asked None may = tt
checkpoints_known disks disk asked (Some book) may = λ so. (may so).0.checkpoints

-- ---- the checkpoints of a book

-- those of one without volumes, of which none is finished, are those of each such
same_of : (image : Image) (a b : Book) → SameBook a b → HasCheckpointsOf image b → HasCheckpointsOf image a
same_of image a b same of = ⊎_elim
    (λ is. subst (HasCheckpointsOf image) (sym is) of)
    (λ none. record { each = λ k lines is. absurd (omega (arith, (of.each k lines is).0, ap (λ (v : List Volume). length v) none.1)) })
    same

-- the finished ones that a read gives are those of the book that was opened
right_of : {D : Type 0} (disks : Disks D) (disk : D) (asked : Option (List ℕ)) (held : Book) (known : Option Book) → MayBeSettled disks disk asked known
    → IfSome known (λ book. SameBook held book) → IsTrue (told_at Checkpoints disks.tells known) → HasCheckpointsOf (disks.reading disk) held
right_of disks disk asked held None may same so = absurd (false≢true so)
right_of disks disk asked held (Some book) may same so = same_of (disks.reading disk) held book same (may so).0.checkpoints

module _ {D : Type 0} (disks : Disks D) (stays : KeepsSettled) (before after : Holdings D) (answer : Result ℕ CheckpointFault) (h : SettlesOn disks before after answer)
    (tells : IsTrue disks.tells) (told : IsTrue before.told) (book : Book) (seen : book ≡ before.book) where
  right_still : Leaves (disks.images (disk_of before.journal)) (λ image. HasCheckpointsOf image book)
      → Leaves (disks.images (disk_of after.journal)) (λ image. HasCheckpointsOf image book)
  right_still are image left =
      let by = (h.leaves tells).images image left in
      subst (HasCheckpointsOf image) (sym seen)
      (stays (shelved_as before.told before.book before.spots) (reach after.settled answer) (disks.reading (disk_of before.journal)) by.0 image told by.2
      (subst (HasCheckpointsOf by.0) seen (are by.0 by.1)))

  stands_still : Leaves (disks.images (disk_of before.journal)) (λ image. ImageStandsFor image book)
      → Leaves (disks.images (disk_of after.journal)) (λ image. ImageStandsFor image book)
  stands_still are image left =
      let by = (h.leaves tells).images image left in record {
        for = subst (λ (files : List (List ℕ)). StandsFor files book) (sym by.2.warc) (are by.0 by.1).for;
        sound = (are by.0 by.1).sound;
      }

  is_of_still : Leaves (disks.images (disk_of before.journal)) (IsOf book) → Leaves (disks.images (disk_of after.journal)) (IsOf book)
  is_of_still are image left = record {
    stands = stands_still (λ before now. (are before now).stands) image left;
    checkpoints = right_still (λ before now. (are before now).checkpoints) image left;
  }

-- ---- opened by checkpoints, and settled

-- each image that opening leaves stands for the book, and has its checkpoints
pub opened_is_of : {D : Type 0} (disks : Disks D) (disk : D) (asked : Option (List ℕ)) (known : Option Book) → MayBeSettled disks disk asked known
    → (held : Holdings D) → IsReopenedKnown disks (by_checkpoints disk asked known) usual_limits held → IsTrue held.told
    → Leaves (disks.images (disk_of held.journal)) (IsOf held.book)
opened_is_of disks disk asked known may held is so image left =
    let tells : IsTrue disks.tells = sym (is.whole so).told_is ∙ so in
    record {
      stands = (is.whole so).only tells image left;
      checkpoints = same_checkpoints_of image (disks.reading disk) held.book ((is.lined refl).synced tells image left)
          (right_of disks disk asked held.book known may (is.known_is so) (sym is.told_is ∙ so));
    }

pub opens_settled : {D : Type 0} (disks : Disks D) → KeepsSettled → (disk : D) (asked : Option (List ℕ)) (known : Option Book) → MayBeSettled disks disk asked known
    → (held now : Holdings D) → IsOpened disks (by_checkpoints disk asked known) held → AreSpotsOf held.book held.spots → (answer : Result ℕ CheckpointFault) → SettlesOn disks held now answer
    → OpensSettled disks (by_checkpoints disk asked known) now
opens_settled {D} disks stays disk asked known may held now o kept answer h = record {
  held = held;
  opened = o;
  spots = kept;
  answer = answer;
  settles = h;
  left = λ told.
      let so : IsTrue held.told = sym (ap (λ (x : Holdings D). x.told) h.others) ∙ told in
      let same : now.book ≡ held.book = ap (λ (x : Holdings D). x.book) h.others in
      is_of_still disks stays held now answer h (sym (o.is.whole so).told_is ∙ so) so now.book same
      (subst (λ (b : Book). Leaves (disks.images (disk_of held.journal)) (IsOf b)) (sym same) (opened_is_of disks disk asked known may held o.is so));
}

-- ---- of an archive that was opened and settled

module _ {D : Type 0} (disks : Disks D) {opening : Opening D} {now : Holdings D} (o : OpensSettled disks opening now) where
  same_contents : contents_of o.held ≡ contents_of now
  same_contents = sym (ap (λ (x : Holdings D). contents_of x) o.settles.others)

  pub ready_tells : now.told ≡ told_at opening.depth disks.tells opening.known
  ready_tells = ap (λ (x : Holdings D). x.told) o.settles.others ∙ o.opened.is.told_is

  -- it is the book that is known
  pub ready_known : IsTrue now.told → IfSome opening.known (λ book. SameBook now.book book)
  ready_known =
      subst (λ (c : Contents). IsTrue c.tells → IfSome opening.known (λ book. SameBook c.seen book)) same_contents o.opened.is.known_is

  -- it has the namespace that was asked for
  pub ready_in : IsIn opening.asked now.book
  ready_in = subst (λ (c : Contents). IsIn opening.asked c.seen) same_contents o.opened.is.in_namespace

  pub ready_consistent : IsConsistent true (contents_of now)
  ready_consistent = subst (λ (c : Contents). IsConsistent true c) same_contents (opened_consistent disks o.opened)

  pub ready_limits : now.limits ≡ usual_limits
  ready_limits = ap (λ (x : Holdings D). x.limits) o.settles.others ∙ o.opened.is.limits_are

  -- none of its captures was stored by it
  pub ready_none : (contents_of now).mine ≡ []
  ready_none = subst (λ (c : Contents). c.mine ≡ []) same_contents o.opened.is.mine

  pub ready_faults : disks.faults opening.disk ≤ disks.faults (disk_of now.journal)
  ready_faults =
      let later = counts_later o.answer (disks.faults (disk_of o.held.journal)) (disks.faults (disk_of now.journal)) o.settles.faults in
      omega (arith, later, o.opened.is.faults)

  -- settling opens no more than what was opened
  pub ready_opens : OpensNoMore (crash_of (muted now.told disks) (disk_of o.held.journal)) (crash_of (muted now.told disks) (disk_of now.journal))
  ready_opens =
      subst (λ (t : Bool). OpensNoMore (crash_of (muted t disks) (disk_of o.held.journal)) (crash_of (muted now.told disks) (disk_of now.journal)))
      (sym (ap (λ (x : Holdings D). x.told) o.settles.others)) o.settles.opens

-- ---- of one that was settled and closed

pub near_still : {D : Type 0} (disks : Disks D) (before after : Holdings D) (answer : Result ℕ CheckpointFault) → SettlesOn disks before after answer → (is : D)
    → (IsTrue after.told → OpensNear disks is after.book) → IsTrue before.told → OpensNear disks is before.book
near_still {D} disks before after answer h is near told =
    subst (λ (b : Book). OpensNear disks is b) (ap (λ (x : Holdings D). x.book) h.others) (near (ap (λ (x : Holdings D). x.told) h.others ∙ told))

module _ {D : Type 0} (disks : Disks D) {before : Holdings D} {said status : Status} {is : D} (c : ClosesSettled disks before said is status) where
  -- an image that is left is one behind the settling
  there : (image : Image) → disks.images is image → disks.images (disk_of c.after.journal) image
  there image left = subst (λ (d : D). disks.images d image) c.closed left

  pub closed_opens : OpensNoMore (crash_of (muted before.told disks) (disk_of before.journal)) (crash_of (muted before.told disks) is)
  closed_opens =
      subst (λ (d : D). OpensNoMore (crash_of (muted before.told disks) (disk_of before.journal)) (crash_of (muted before.told disks) d)) (sym c.closed)
      (subst (λ (t : Bool). OpensNoMore (crash_of (muted before.told disks) (disk_of before.journal)) (crash_of (muted t disks) (disk_of c.after.journal)))
      (ap (λ (x : Holdings D). x.told) c.settles.others) c.settles.opens)

  pub closed_faults : disks.faults (disk_of before.journal) ≤ disks.faults is
  closed_faults =
      let later = counts_later c.answer (disks.faults (disk_of before.journal)) (disks.faults (disk_of c.after.journal)) c.settles.faults in
      omega (arith, later, ap disks.faults c.closed)

  -- an image that it leaves has the volumes of one from before
  pub closed_from : IsTrue disks.tells → (image : Image) → disks.images is image
      → (was : Image) × disks.images (disk_of before.journal) was × (warc_files image ≡ warc_files was)
  closed_from tells image left =
      let by = (c.settles.leaves tells).images image (there image left) in
      (by.0, by.1, by.2.warc)

  -- checkpoints that are right stay so
  pub closed_right : KeepsSettled → IsTrue disks.tells → IsTrue before.told
      → Leaves (disks.images (disk_of before.journal)) (λ image. HasCheckpointsOf image before.book)
      → Leaves (disks.images is) (λ image. HasCheckpointsOf image before.book)
  closed_right stays tells told are image left =
      right_still disks stays before c.after c.answer c.settles tells told before.book refl are image (there image left)

  -- and where it was done, all are finished
  pub closed_all : (n : ℕ) → c.answer ≡ Ok n → IsTrue before.told → Leaves (disks.images is) (FirstAreFinished before.book (length before.book.volumes - 1))
  closed_all n done told image left =
      let all = subst (λ (r : Result ℕ CheckpointFault). OnOk r (c.after.settled ≡ length before.book.volumes - 1)) done c.settles.all in
      subst (λ (k : ℕ). FirstAreFinished before.book k image) all (c.settles.first told image (there image left))

  -- a fault of the disk was counted
  pub closed_rose : c.answer ≡ Err checkpoints.DiskFault → Rose (disks.faults (disk_of before.journal)) (disks.faults is)
  closed_rose failed =
      let counts = subst (λ (r : Result ℕ CheckpointFault). CountsDisk (disks.faults (disk_of before.journal)) (disks.faults (disk_of c.after.journal)) r) failed
      c.settles.faults in
      subst (λ (d : D). Rose (disks.faults (disk_of before.journal)) (disks.faults d)) (sym c.closed) counts.1
