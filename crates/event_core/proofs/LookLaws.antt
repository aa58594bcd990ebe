-- What a shelf alone promises of calls that only read is the machine's step.
use Rattle.std.proofs.Common.{◌≡◌, ℕ, ◌<◌, Bool, true, IsTrue, List, length, Option, Result, Ok, Err, refl, sym, ap, subst, ◌∙◌}
use Rattle.std.specs.Prelude.{bytes_eq}
use Rattle.std.proofs.lemmas.Bool.{false≢true}
use Rattle.capture.specs.Captures.{captures}
use Rattle.capture.specs.declared.book.Book.{Book}
use Rattle.capture.specs.declared.captured.Brought.{Brought}
use Rattle.capture.specs.declared.limits.Limits.{Limits}
use Rattle.capture.specs.declared.memory.Memory.{Memory}
use Rattle.index_entry.specs.Facts.{Facts}
use Rattle.index_entry.specs.OfBook.{AreEntries}
use Rattle.archive_shelf.specs.Answers.{Brings, IsBrought}
use Rattle.archive_shelf.specs.Contents.{Contents, Looks, Stays}
use Rattle.archive_shelf.specs.Openings.{IsEarlier, Keeps}
use Rattle.archive_shelf.specs.Queries.{ArePicked, IsFound}
use Rattle.archive_shelf.specs.Told.{LooksOn, ReadsOn, ShowsItsBook, Told}
use Rattle.archive_shelf.specs.declared.fault.BringFault.{BringFault}
use Rattle.archive_shelf.specs.declared.fault.BringFault.TheVariants as brings
use Rattle.event_core.proofs.StandLaws.{answers_by, quiet_keeps, stands_on, still_shows}
use Rattle.event_core.specs.Events.{Steps, bring_reply}
use Rattle.event_core.specs.Machine as machine
use Rattle.event_core.specs.Machine.{AreMapped, IsNearestIn, State}
use Rattle.event_core.specs.declared.event.Event.{Event}
use Rattle.event_core.specs.declared.event.Event.TheVariants as events
use Rattle.event_core.specs.declared.reply.EventFault.TheVariants as refusals
use Rattle.event_core.specs.declared.reply.Reply.{Reply}
use Rattle.event_core.specs.declared.reply.Reply.TheVariants as replies
use Rattle.event_core.specs.steps.Standing.{Answers, GoesOn, Standing, Stands, state_at}

-- ---- the entries that are shown

looks_same : (was is : Contents) → Looks true was is → is ≡ was
looks_same was is h = h.others ∙ (λ i. record was { shown = h.shown i })

module _ (alone : Bool) (old new : Told) (earlier : IsEarlier new.crash) (looks : LooksOn alone old new) (is : alone ≡ true) (limits : Limits)
    (namespace : List ℕ) (was : Standing) (stands : Stands limits namespace old was) where
  same_contents : new.contents ≡ old.contents
  same_contents = looks_same old.contents new.contents (subst (λ (a : Bool). Looks a old.contents new.contents) is looks.looks)

  keeps : (book : Book) → Keeps old.crash new.crash book
  keeps book = quiet_keeps old.crash new.crash book earlier looks.unwritten.crash

  still : Stands limits namespace new was
  still = stands_on limits namespace old new was stands same_contents (keeps was.book) looks.unwritten.crash.kept (still_shows limits namespace old new same_contents keeps stands.shows)

  is_told : IsTrue new.contents.tells
  is_told = subst IsTrue (sym (ap (λ (c : Contents). c.tells) same_contents)) stands.tells

  entries : AreEntries was.book new.contents.shown
  entries = subst (λ (b : Book). AreEntries b new.contents.shown) still.book (still.shows.consistent.shown refl is_told)

  answers : (event : Event) (reply : Reply) → ((n : ℕ) → Steps limits (state_at was n) event reply (state_at was n)) → Answers limits namespace new was event reply
  answers event reply step = answers_by limits namespace new was event reply was.book was.other still step

  pub found_answers : (key : List ℕ) (time : ℕ) (found : Option Facts) → IsFound new.contents.shown key time found
      → Answers limits namespace new was (events.ByDate key time) (replies.Found found)
  found_answers key time found h =
      answers (events.ByDate key time) (replies.Found found) (λ n. (record { entries = new.contents.shown; are = entries; is = h }, refl))

  pub mapped_answers : (key : List ℕ) (found : List Facts) → ArePicked (λ entry. bytes_eq key entry.key) new.contents.shown found
      → Answers limits namespace new was (events.Map key) (replies.Mapped found)
  mapped_answers key found h =
      answers (events.Map key) (replies.Mapped found) (λ n. (record { entries = new.contents.shown; are = entries; is = h }, refl))

  pub date_lacks : (key : List ℕ) (time : ℕ) (memory : Memory) → Answers limits namespace new was (events.ByDate key time) (replies.Refused (refusals.Query memory))
  date_lacks key time memory = answers (events.ByDate key time) (replies.Refused (refusals.Query memory)) (λ n. (tt, refl))

  pub map_lacks : (key : List ℕ) (memory : Memory) → Answers limits namespace new was (events.Map key) (replies.Refused (refusals.Query memory))
  map_lacks key memory = answers (events.Map key) (replies.Refused (refusals.Query memory)) (λ n. (tt, refl))

-- ---- a capture

stays_same : (was is : Contents) → Stays true was is → is ≡ was
stays_same was is h = h.others ∙ (λ i. record was { seen = h.seen i; shown = h.shown i })

brings_by : (book : Book) (now : Contents) (number : ℕ) (result : Result Brought BringFault) → IsTrue now.tells → now.seen ≡ book
    → Brings now number result → machine.Brings book number result
brings_by book now number (Ok brought) tells seen h = subst (λ (b : Book). IsBrought b number brought) seen (h.3 tells).0
brings_by book now number (Err (brings.NoSuch count)) tells seen h = (h.0 ∙ ap (λ (b : Book). length (captures b)) seen, h.1)
brings_by book now number (Err brings.DiskFault) tells seen h = subst (λ (b : Book). number < length (captures b)) seen h
brings_by book now number (Err (brings.Damaged at kept found)) tells seen h = absurd (false≢true (sym h.3.untold ∙ tells))
brings_by book now number (Err brings.Memory) tells seen h = tt

pub bring_goes_on : (alone fault : Bool) (old new : Told) (number : ℕ) (result : Result Brought BringFault) → IsEarlier new.crash
    → ReadsOn alone fault old new → ShowsItsBook alone new → Brings new.contents number result → alone ≡ true
    → (limits : Limits) (namespace : List ℕ) → GoesOn limits namespace old new (events.Bring number) (bring_reply result)
bring_goes_on alone fault old new number result earlier reads shows h is limits namespace was stands =
    let same : new.contents ≡ old.contents =
    stays_same old.contents new.contents (subst (λ (a : Bool). Stays a old.contents new.contents) is reads.stays) in
    let still : Stands limits namespace new was =
    stands_on limits namespace old new was stands same (quiet_keeps old.crash new.crash was.book earlier reads.unwritten.crash) reads.unwritten.crash.kept
    (subst (λ (a : Bool). ShowsItsBook a new) is shows) in
    answers_by limits namespace new was (events.Bring number) (bring_reply result) was.book was.other still (λ n. record {
      result = result;
      answer = refl;
      brings = brings_by was.book new.contents number result still.tells still.book h;
      stays = refl;
    })
