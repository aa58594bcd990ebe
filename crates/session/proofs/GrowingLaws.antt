-- A book only grows while a connection is served, and so does what is shown.
use Rattle.std.proofs.Common.{◌≡◌, inr, inl, ◌⊎◌, ℕ, ◌+◌, ◌≤◌, IsTrue, List, [], ◌∷◌, length, Err, refl, sym, ap, subst, arith, length-append}
use Rattle.archive_shelf.proofs.CallLaws.{begins_both, leads_begins, leads_same, past_begins, shown_same}
use Rattle.archive_shelf.specs.Contents.{Begins, Contents}
use Rattle.archive_shelf.specs.Laws.{BooksLeadToThemselves, GainsGrow, LeadingGrows, StoresGrow}
use Rattle.archive_shelf.specs.Openings.{HasIds}
use Rattle.archive_shelf.specs.declared.fault.StoreFault.TheVariants as store_fault
use Rattle.capture.specs.Captures.{captures}
use Rattle.capture.specs.Growth.{Grows}
use Rattle.capture.specs.GrowthLaws.{GrowsFromItself, GrowthGoesOn, GrowthKeepsCaptures}
use Rattle.capture.specs.declared.book.Book.{Book}
use Rattle.capture.specs.declared.captured.Stored.{Stored}
use Rattle.capture.specs.declared.refusal.Refusal.{Refusal}
use Rattle.capture.specs.declared.refusal.Refusal.TheVariants.{Malformed, TargetRefused, BadTime, BadAcceptDatetime, BadQuery, NotAForm, NoCapture, NoSuch, MethodRefused, BodyTooLong, HeadTooLong, ClockRange, ConnectRefused, SecureRefused, CodingRefused, DialFault, OriginFault, OriginEnded, OriginMalformed, OriginTooLong, TooManyInterim, Full, DiskFault, Damaged}
use Rattle.http_head.specs.declared.head.Received.{Received}
use Rattle.request_answer.specs.Exchanges.{Exchange, Fails, Passes, IsPassedOn, IsReply}
use Rattle.session.specs.Laws.{CoursesGrow, CoursesShowOn, CoursesCountFaults, CoursesStayConsistent, IdsDifferOnTheWay}
use Rattle.request_answer.specs.Rounds.{Round, Outcome, Undecided, Refused, Exchanged, Visited, IsDecided, origin_fault, disk_fault}
use Rattle.session.specs.Courses.{origin_faults, disk_faults}
use Rattle.session.proofs.GainLaws.{met_both}
use Rattle.request_answer.proofs.CountLaws.{none_met}
use Rattle.request_answer.specs.Traces.{Terms, View, Traces, CountsMet, StaysView, LeadsView, IsConsistentView}

-- what lower crates promise of books that grow
pub record Growing : Type 0 where
  pub itself : GrowsFromItself
  pub steps : GrowthGoesOn
  pub keeps : GrowthKeepsCaptures
  pub leads : BooksLeadToThemselves
  pub leading : LeadingGrows
  pub gains : GainsGrow
  pub stores : StoresGrow

-- ---- what a round leaves

-- the book stayed; or the disk refused a store; or a capture was stored
pub data Leaves (terms : Terms) (traces : Traces) : Type 0 where
  Stayed : (stays : StaysView terms traces.before traces.after) → Leaves terms traces
  Denied : (e : Exchange) (refused : IsReply terms e (Fails DiskFault) traces) → Leaves terms traces
  Stored_it : (e : Exchange) (received : Received) (payload : List ℕ) (passed : IsPassedOn terms e received payload traces) → Leaves terms traces

pub failure_leaves : (terms : Terms) (e : Exchange) (refusal : Refusal) (traces : Traces) → IsReply terms e (Fails refusal) traces
    → StaysView terms traces.before traces.after ⊎ IsReply terms e (Fails DiskFault) traces
failure_leaves terms e (ClockRange now) traces h = inl h.3
failure_leaves terms e DialFault traces h = inl h.4
failure_leaves terms e OriginFault traces h = inl h.1
failure_leaves terms e OriginEnded traces h = inl h.1
failure_leaves terms e OriginMalformed traces h = inl h.1
failure_leaves terms e OriginTooLong traces h = inl h.1
failure_leaves terms e TooManyInterim traces h = inl h.1
failure_leaves terms e (Full count limit) traces h = inl h.5
failure_leaves terms e DiskFault traces h = inr h
failure_leaves terms e (Damaged number kept found) traces h = inl h.3
failure_leaves terms e (NoSuch number count) traces h = absurd h
failure_leaves terms e Malformed traces h = absurd h
failure_leaves terms e TargetRefused traces h = absurd h
failure_leaves terms e BadQuery traces h = absurd h
failure_leaves terms e BadTime traces h = absurd h
failure_leaves terms e BadAcceptDatetime traces h = absurd h
failure_leaves terms e NotAForm traces h = absurd h
failure_leaves terms e NoCapture traces h = absurd h
failure_leaves terms e MethodRefused traces h = absurd h
failure_leaves terms e BodyTooLong traces h = absurd h
failure_leaves terms e HeadTooLong traces h = absurd h
failure_leaves terms e ConnectRefused traces h = absurd h
failure_leaves terms e SecureRefused traces h = absurd h
failure_leaves terms e CodingRefused traces h = absurd h

pub decided_leaves : (terms : Terms) (r : Round) (outcome : Outcome) → IsDecided terms r outcome → Leaves terms r.traces
decided_leaves terms r Undecided (lacking, stays, how) = Stayed stays
decided_leaves terms r (Refused head refusal) h = Stayed h.1.untouched
decided_leaves terms r (Exchanged e (Fails refusal)) h = elim (failure_leaves terms e refusal r.traces h.1) [
  | inl stays ↦ Stayed stays
  | inr refused ↦ Denied e refused
]
decided_leaves terms r (Exchanged e (Passes received payload)) h = Stored_it e received payload h.1
decided_leaves terms r (Visited q reply) h = Stayed h.1.untouched

-- ---- books

-- what a shelf with this view tells
abbrev contents_at : Terms → View → Contents
contents_at terms view = record { tells = terms.tells; seen = view.book; shown = view.shown; mine = []; limits = terms.limits }

-- a store that the disk refused leaves a book that has grown
refused_grows : Growing → (terms : Terms) (e : Exchange) (traces : Traces) → IsReply terms e (Fails DiskFault) traces
    → Grows traces.before.book traces.after.book
refused_grows laws terms e traces h =
    laws.stores terms.alone _ (contents_at terms traces.before) (contents_at terms traces.after) (Err store_fault.DiskFault)
    (traces.before.book, laws.leads terms.alone traces.before.book, h.0.room, h.1, h.2, refl)

leaves_grows : Growing → (terms : Terms) (traces : Traces) → Leaves terms traces → Grows traces.before.book traces.after.book
leaves_grows laws terms traces (Stayed h) = subst (λ (x : Book). Grows traces.before.book x) (sym h.book) (laws.itself traces.before.book)
leaves_grows laws terms traces (Denied e h) = refused_grows laws terms e traces h
leaves_grows laws terms traces (Stored_it e received payload h) = laws.gains traces.before.book traces.after.book _ h.gained

pub courses_grow : Growing → CoursesGrow
courses_grow laws terms served was [] is h = laws.leading terms.alone was.book is.book h.book
courses_grow laws terms served was (r ∷ rounds) is (lawful, leads, knows, last, others) =
    laws.steps was.book r.traces.before.book is.book (laws.leading terms.alone was.book r.traces.before.book leads.book)
    (laws.steps r.traces.before.book r.traces.after.book is.book (leaves_grows laws terms r.traces (decided_leaves terms r r.outcome lawful.decided))
    (courses_grow laws terms (served + 1) r.traces.after rounds is others))

-- ---- ids

fewer : Growing → (a b : Book) → Grows a b → length (captures a) ≤ length (captures b)
fewer laws a b grown =
    let kept = laws.keeps a b grown in
    omega (arith, ap (λ (l : List Stored). length l) kept.1, length-append (captures a) kept.0)

fewer_ids : Growing → (a b : Book) → Grows a b → HasIds b → HasIds a
fewer_ids laws a b grown ids =
    let few : length (captures a) ≤ length (captures b) = fewer laws a b grown in
    λ m n lm ln e. ids m n (omega (arith, few, lm)) (omega (arith, few, ln)) (rw grown.namespace e)

pub ids_differ : Growing → IdsDifferOnTheWay
ids_differ laws terms served was [] is h ids = tt
ids_differ laws terms served was (r ∷ rounds) is (lawful, leads, knows, last, others) ids = (
  λ some. fewer_ids laws r.traces.before.book is.book
      (laws.steps r.traces.before.book r.traces.after.book is.book (leaves_grows laws terms r.traces (decided_leaves terms r r.outcome lawful.decided))
      (courses_grow laws terms (served + 1) r.traces.after rounds is others)) ids,
  ids_differ laws terms (served + 1) r.traces.after rounds is others ids,
)

-- ---- what is shown

pub leaves_shows : (terms : Terms) (traces : Traces) → Leaves terms traces → Begins traces.before.shown traces.after.shown
leaves_shows terms traces (Stayed h) = leads_begins terms.alone traces.before.shown traces.after.shown h.shown
leaves_shows terms traces (Denied e h) = leads_begins terms.alone traces.before.shown traces.after.shown h.2
leaves_shows terms traces (Stored_it e received payload h) = past_begins terms.alone h.receipt.number traces.before.shown traces.after.shown h.shown

pub courses_show_on : CoursesShowOn
courses_show_on terms served was [] is h = leads_begins terms.alone was.shown is.shown h.shown
courses_show_on terms served was (r ∷ rounds) is (lawful, leads, knows, last, others) =
    begins_both was.shown r.traces.before.shown is.shown (leads_begins terms.alone was.shown r.traces.before.shown leads.shown)
    (begins_both r.traces.before.shown r.traces.after.shown is.shown (leaves_shows terms r.traces (decided_leaves terms r r.outcome lawful.decided))
    (courses_show_on terms (served + 1) r.traces.after rounds is others))

-- ---- faults

led_met : (met a b c : ℕ) → b ≡ a → CountsMet met b c → CountsMet met a c
led_met met a b c e h = subst (λ (n : ℕ). CountsMet met n c) e h

stays_met : (a b : ℕ) → b ≡ a → CountsMet 0 a b
stays_met a b e = subst (λ (n : ℕ). CountsMet 0 a n) (sym e) (none_met a)

pub courses_count : CoursesCountFaults
courses_count terms served was [] is h =
    (stays_met was.dialer_faults is.dialer_faults h.same_dialer, stays_met was.disk_faults is.disk_faults h.same_disk)
courses_count terms served was (r ∷ rounds) is (lawful, leads, knows, last, others) =
    let behind = courses_count terms (served + 1) r.traces.after rounds is others in (
      met_both (origin_fault r.outcome) (origin_faults rounds) was.dialer_faults r.traces.after.dialer_faults is.dialer_faults
          (led_met (origin_fault r.outcome) was.dialer_faults r.traces.before.dialer_faults r.traces.after.dialer_faults leads.same_dialer lawful.dialer)
          behind.0,
      met_both (disk_fault r.outcome) (disk_faults rounds) was.disk_faults r.traces.after.disk_faults is.disk_faults
          (led_met (disk_fault r.outcome) was.disk_faults r.traces.before.disk_faults r.traces.after.disk_faults leads.same_disk lawful.disk)
          behind.1,
    )

-- ---- alone

same_consistent : (terms : Terms) (a b : View) → b.book ≡ a.book → b.shown ≡ a.shown → IsConsistentView terms a → IsConsistentView terms b
same_consistent terms a b e f h = λ alone tells. rw (e, f) (h alone tells)

pub leads_consistent : (terms : Terms) (a b : View) → IsTrue terms.alone → LeadsView terms a b → IsConsistentView terms a → IsConsistentView terms b
leads_consistent terms a b alone leads h =
    same_consistent terms a b (leads_same terms.alone a.book b.book alone leads.book) (shown_same terms.alone a.shown b.shown alone leads.shown) h

pub leaves_consistent : (terms : Terms) (traces : Traces) → IsTrue terms.alone → Leaves terms traces → IsConsistentView terms traces.before
    → IsConsistentView terms traces.after
leaves_consistent terms traces alone (Stayed stays) h =
    same_consistent terms traces.before traces.after stays.book (shown_same terms.alone traces.before.shown traces.after.shown alone stays.shown) h
leaves_consistent terms traces alone (Denied e refused) h = refused.3
leaves_consistent terms traces alone (Stored_it e received payload passed) h = passed.consistent

pub courses_stay_consistent : CoursesStayConsistent
courses_stay_consistent terms served was [] is alone leads h = (tt, leads_consistent terms was is alone leads h)
courses_stay_consistent terms served was (r ∷ rounds) is alone (lawful, leads, knows, last, others) h =
    let before : IsConsistentView terms r.traces.before = leads_consistent terms was r.traces.before alone leads h in
    let after : IsConsistentView terms r.traces.after = leaves_consistent terms r.traces alone (decided_leaves terms r r.outcome lawful.decided) before in
    let behind = courses_stay_consistent terms (served + 1) r.traces.after rounds is alone others after in
    ((before, behind.0), behind.1)
