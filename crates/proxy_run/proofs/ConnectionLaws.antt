-- What a connection over an archive leaves of its images.
use Rattle.std.proofs.Common.{◌≡◌, ℕ, ◌+◌, true, IsTrue, List, [], ◌∷◌, refl, sym, subst, ◌∙◌, arith}
use Rattle.archive_core.specs.Holdings.{Holdings, contents_of}
use Rattle.archive_core.specs.Told.{told_of}
use Rattle.archive_shelf.proofs.CallLaws.{leads_same}
use Rattle.archive_volumes.proofs.ChangeLaws.{DiskLaws, laws_muted, now_image, one_of, opens_now}
use Rattle.archive_volumes.specs.Volumes.{muted}
use Rattle.archive_shelf.specs.Openings.{HasIds, ImageStandsFor, SameBook}
use Rattle.capture.specs.declared.book.Book.{Book}
use Rattle.capture.specs.declared.refusal.Refusal.{Refusal}
use Rattle.capture.specs.declared.refusal.Refusal.TheVariants.{Malformed, TargetRefused, BadTime, BadAcceptDatetime, BadQuery, NotAForm, NoCapture, NoSuch, MethodRefused, BodyTooLong, HeadTooLong, ClockRange, ConnectRefused, SecureRefused, CodingRefused, DialFault, OriginFault, OriginEnded, OriginMalformed, OriginTooLong, TooManyInterim, Full, DiskFault, Damaged}
use Rattle.disk_model.specs.Crash.{Leaves}
use Rattle.disk_model.specs.Image.{Image}
use Rattle.disk_model.specs.declared.disk.Disk.{Ghosts as Disks}
use Rattle.command.proofs.OpeningLaws.{ids_differ}
use Rattle.session.proofs.ImageLaws.{opens_more}
use Rattle.request_answer.specs.Exchanges.{Exchange, Fails, IsReply, Passes}
use Rattle.request_answer.specs.Images.{HasAllIds, KeepsImages, OpensAtLast, OpensBehind, deed_of}
use Rattle.request_answer.specs.Rounds.{Exchanged, IsDecided, Outcome, Refused, Round, Undecided, Visited, disk_fault}
use Rattle.session.specs.Courses.{IsCourse, disk_faults}
use Rattle.request_answer.specs.Traces.{StaysView, Terms, Traces, View, terms_of}
use Rattle.proxy_run.specs.Serving.{pipe_site}
use Rattle.warc_journal.specs.Journals.{disk_of}

-- where each image stood for the book before the connection
pub leaves_just : {D : Type 0} (disks : Disks D) → DiskLaws disks → (rounds : List Round) (was is : Holdings D) → is.told ≡ was.told
    → (IsTrue was.told → Leaves (disks.images (disk_of was.journal)) (λ image. ImageStandsFor image was.book))
    → KeepsImages (terms_of pipe_site true (contents_of was)) rounds (told_of disks was) (told_of disks is)
    → IsTrue was.told → HasIds was.book → HasAllIds rounds → (image : Image) (x : Book) → disks.images (disk_of is.journal) image → ImageStandsFor image x
    → OpensAtLast (terms_of pipe_site true (contents_of was)) (λ book. SameBook book was.book) rounds x
leaves_just disks laws rounds was is same stood k told ids all image x now stands =
    opens_more (terms_of pipe_site true (contents_of was)) rounds
    (λ b. (told_of disks was).crash.openings (told_of disks was).crash.moment b) (λ b. SameBook b was.book)
    (λ b o. one_of o.1 b was.book o.3
    (stood told o.1 (now_image (muted was.told disks) (laws_muted disks was.told laws) (disk_of was.journal) b o)) (ids_differ was.book ids)) x
    (k.left refl told all x
    (opens_now (muted is.told disks) (laws_muted disks is.told laws) (disk_of is.journal) x image (same ∙ told) now stands))

-- ---- where the disk didn't fail

stays_one : (terms : Terms) (traces : Traces) (Before : Book → Type 0) (x : Book) → StaysView terms traces.before traces.after
    → (Before x → SameBook x traces.before.book) → Before x → SameBook x traces.after.book
stays_one terms traces Before x stays one before = subst (λ (b : Book). SameBook x b) (sym stays.book) (one before)

-- the book stays where no response is passed on
failed_one : (terms : Terms) (e : Exchange) (refusal : Refusal) (traces : Traces) (Before : Book → Type 0) (x : Book) → IsReply terms e (Fails refusal) traces
    → disk_fault (Exchanged e (Fails refusal)) ≡ 0 → (Before x → SameBook x traces.before.book) → OpensBehind terms traces (deed_of (Exchanged e (Fails refusal))) Before x
    → SameBook x traces.after.book
failed_one terms e (ClockRange now) traces Before x h none one o = stays_one terms traces Before x h.3 one o
failed_one terms e DialFault traces Before x h none one o = stays_one terms traces Before x h.4 one o
failed_one terms e OriginFault traces Before x h none one o = stays_one terms traces Before x h.1 one o
failed_one terms e OriginEnded traces Before x h none one o = stays_one terms traces Before x h.1 one o
failed_one terms e OriginMalformed traces Before x h none one o = stays_one terms traces Before x h.1 one o
failed_one terms e OriginTooLong traces Before x h none one o = stays_one terms traces Before x h.1 one o
failed_one terms e TooManyInterim traces Before x h none one o = stays_one terms traces Before x h.1 one o
failed_one terms e (Full count limit) traces Before x h none one o = stays_one terms traces Before x h.5 one o
failed_one terms e (Damaged number kept found) traces Before x h none one o = stays_one terms traces Before x h.3 one o
failed_one terms e DiskFault traces Before x h none one o = absurd (omega (arith, none))
failed_one terms e (NoSuch number count) traces Before x h none one o = absurd h
failed_one terms e Malformed traces Before x h none one o = absurd h
failed_one terms e TargetRefused traces Before x h none one o = absurd h
failed_one terms e BadQuery traces Before x h none one o = absurd h
failed_one terms e BadTime traces Before x h none one o = absurd h
failed_one terms e BadAcceptDatetime traces Before x h none one o = absurd h
failed_one terms e NotAForm traces Before x h none one o = absurd h
failed_one terms e NoCapture traces Before x h none one o = absurd h
failed_one terms e MethodRefused traces Before x h none one o = absurd h
failed_one terms e BodyTooLong traces Before x h none one o = absurd h
failed_one terms e HeadTooLong traces Before x h none one o = absurd h
failed_one terms e ConnectRefused traces Before x h none one o = absurd h
failed_one terms e SecureRefused traces Before x h none one o = absurd h
failed_one terms e CodingRefused traces Before x h none one o = absurd h

-- behind a round in which the disk didn't fail just its book may be opened, where just the one before it might be
behind_one : (terms : Terms) (r : Round) (outcome : Outcome) (Before : Book → Type 0) (x : Book) → IsDecided terms r outcome → disk_fault outcome ≡ 0
    → (Before x → SameBook x r.traces.before.book) → OpensBehind terms r.traces (deed_of outcome) Before x → SameBook x r.traces.after.book
behind_one terms r Undecided Before x (lacking, stays, how) none one o = stays_one terms r.traces Before x stays one o
behind_one terms r (Refused head refusal) Before x h none one o = stays_one terms r.traces Before x h.1.untouched one o
behind_one terms r (Exchanged e (Fails refusal)) Before x h none one o = failed_one terms e refusal r.traces Before x h.1 none one o
behind_one terms r (Exchanged e (Passes received payload)) Before x h none one o = o
behind_one terms r (Visited q reply) Before x h none one o = stays_one terms r.traces Before x h.1.untouched one o

-- and so behind a course
pub course_one : (terms : Terms) (served : ℕ) (was : View) (rounds : List Round) (is : View) (Before : Book → Type 0) (x : Book) → IsTrue terms.alone
    → IsCourse terms served was rounds is → disk_faults rounds ≡ 0 → ((b : Book) → Before b → SameBook b was.book) → OpensAtLast terms Before rounds x
    → SameBook x is.book
course_one terms served was [] is Before x alone leads none one o =
    subst (λ (b : Book). SameBook x b) (sym (leads_same terms.alone was.book is.book alone leads.book)) (one x o)
course_one terms served was (r ∷ rounds) is Before x alone (lawful, leads, knows, last, others) none one o =
    let before : (b : Book) → Before b → SameBook b r.traces.before.book =
    λ b h. subst (λ (y : Book). SameBook b y) (sym (leads_same terms.alone was.book r.traces.before.book alone leads.book)) (one b h) in
    course_one terms (served + 1) r.traces.after rounds is (OpensBehind terms r.traces (deed_of r.outcome) Before) x alone others (omega (arith, none))
    (λ b behind. behind_one terms r r.outcome Before b lawful.decided (omega (arith, none)) (before b) behind) o
