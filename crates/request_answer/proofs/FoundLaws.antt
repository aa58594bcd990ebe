-- What is found by its date, and what an address says of it.
use Rattle.std.proofs.Common.{◌≡◌, inl, ℕ, Bool, true, false, List, Option, Some, Result, Ok, Err, refl, sym, ◌∙◌}
use Rattle.std.specs.Prelude.{None, MatchOption, codes, slice_get}
use Rattle.archive_shelf.proofs.CallLaws.{stays_tells}
use Rattle.archive_shelf.specs.Answers.{Brings, is_bring_fault}
use Rattle.archive_shelf.specs.Contents.{Contents, LeadsShown}
use Rattle.archive_shelf.specs.Openings.{IsEarlier}
use Rattle.archive_shelf.specs.Told.{CatchesUp, ReadsOn, Told}
use Rattle.archive_shelf.specs.declared.fault.BringFault.{BringFault}
use Rattle.archive_shelf.specs.declared.fault.BringFault.TheVariants as brings
use Rattle.capture.specs.Fields.{NamedValue, values_of}
use Rattle.capture.specs.Methods.{asks_for_head}
use Rattle.capture.specs.declared.captured.Brought.{Brought}
use Rattle.capture.specs.declared.memory.Memory.{Memory}
use Rattle.capture.specs.declared.refusal.Refusal.TheVariants.{DiskFault, Damaged}
use Rattle.replay_url.specs.Questions.{Nearest, ForNearest}
use Rattle.request_answer.specs.steps.Answering.{AnswersVisit}
use Rattle.request_answer.specs.Gains.{Setting}
use Rattle.request_answer.specs.steps.Declining.{Declines, refusal_by_bring}
use Rattle.request_answer.specs.steps.Givens.{Given}
use Rattle.request_answer.specs.steps.Looking.{FindsJust, NamesNoTime, ReachesJust}
use Rattle.request_answer.specs.SiteAnswers.{SiteRequest, IsSoughtTime, Replays, IsSiteReply}
use Rattle.request_answer.specs.Traces.{Terms}
use Rattle.time_text.specs.Blanks.{trim_blanks}
use Rattle.time_text.specs.Reading.{IsHttpDate}
use Rattle.time_text.specs.declared.TheConstants.{LATEST}
use Rattle.request_answer.proofs.LookLaws.{found_lacking_by, found_refuses, shown_on}
use Rattle.request_answer.proofs.VisitLaws.{told_damaged}

-- ---- a field that names no time

pub none_sought : (fields : List NamedValue) → NamesNoTime (slice_get (values_of (codes "accept-datetime") fields) 0)
    → (time : ℕ) → IsSoughtTime None fields time → ⊥
none_sought fields none time is = by_field (slice_get (values_of (codes "accept-datetime") fields) 0) none is where
  by_field : (field : Option (List ℕ)) → NamesNoTime field → MatchOption field (time ≡ LATEST) (λ value. IsHttpDate (trim_blanks value) time) → ⊥
  by_field (Some value) none is = none time is
  by_field None none is = none

-- ---- the capture that was found is brought

-- what a test told
pub by_test : (result test : Bool) {b : Bool} → result ≡ test → result ≡ b → test ≡ b
by_test result test e f = sym e ∙ f

-- it is there
pub found_there : {P : Type 0} (alone : Bool) (mid is : Contents) (q : SiteRequest) (sought : Nearest) (number count : ℕ)
    → ReachesJust q mid.shown sought number → LeadsShown alone None mid.shown is.shown
    → Brings is number (Err (brings.NoSuch count)) → P
found_there alone mid is q sought number count h later (count_is, past, none) =
    let bad : ⊥ = none h.entry (shown_on alone mid.shown is.shown h.entry later h.reaches.nearest.member) (sym h.number_is) in absurd bad

-- and replayed
pub found_replayed : (terms : Terms) (alone : Bool) (q : SiteRequest) (sought : Nearest) (number faults disk : ℕ) (brought : Brought)
    (mid is : Contents) → ReachesJust q mid.shown sought number → LeadsShown alone None mid.shown is.shown
    → Brings is number (Ok brought) → is.tells ≡ terms.tells
    → IsSiteReply terms q (Replays (ForNearest sought) brought) (record { book = is.seen; shown = mid.shown; dialer_faults = faults; disk_faults = disk })
found_replayed terms alone q sought number faults disk brought mid is h later (there, replayable, named, known, as_shown) same = (
  number,
  (h.entry, h.reaches, h.named, h.number_is, there),
  replayable,
  named,
  λ entry shown. as_shown entry (shown_on alone mid.shown is.shown entry later shown),
  λ tells. (known (rw same tells)).0,
  λ tells entry shown at. (known (rw same tells)).1 entry (shown_on alone mid.shown is.shown entry later shown) at,
)

-- or it wasn't brought
pub found_unbrought : (alone : Bool) (setting : Setting) (q : SiteRequest) (sought : Nearest) (number : ℕ) (fault : BringFault) (asks closes : Bool)
    (result : Result Given Memory) (was mid is : Told) → IsEarlier is.crash → CatchesUp alone was mid → FindsJust alone mid.contents q sought number
    → asks ≡ asks_for_head q.message.head.method → Brings is.contents number (Err fault) → ReadsOn alone (is_bring_fault {T = Brought} (Err fault)) mid is
    → Declines (refusal_by_bring number fault) asks closes result → AnswersVisit alone setting q closes result was is
found_unbrought alone setting q sought number (brings.NoSuch count) asks closes result was mid is earlier looks h same b reads declines =
    found_there alone mid.contents is.contents q sought number count h.reaches reads.stays.shown b
found_unbrought alone setting q sought number brings.DiskFault asks closes result was mid is earlier looks h same b reads declines =
    found_refuses alone setting q DiskFault asks closes true result was mid is earlier looks h.knows reads refl
    (λ faults. inl (ForNearest sought, number, (h.reaches.entry, h.reaches.reaches, h.reaches.named, h.reaches.number_is, b))) same declines
found_unbrought alone setting q sought number (brings.Damaged at kept found) asks closes result was mid is earlier looks h same b reads declines =
    found_refuses alone setting q (Damaged at kept found) asks closes false result was mid is earlier looks h.knows reads refl
    (λ faults. (
      inl (ForNearest sought, number, (h.reaches.entry, h.reaches.reaches, h.reaches.named, h.reaches.number_is, b.0), b.2),
      told_damaged _ _ kept found
          (stays_tells alone mid.contents is.contents reads.stays ∙ stays_tells alone was.contents mid.contents looks.reads.stays) b.3,
    )) same declines
found_unbrought alone setting q sought number brings.Memory asks closes result was mid is earlier looks h same b reads declines =
    found_lacking_by alone setting q closes result was mid is earlier looks h.knows reads declines
