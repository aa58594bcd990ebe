-- What is shown stays, and is replayed.
use Rattle.std.proofs.Common.{◌≡◌, inl, inr, ℕ, ◌+◌, List, [], ◌∷◌, refl, sym, subst, arith}
use Rattle.std.specs.Prelude.{Contains}
use Rattle.std.proofs.lemmas.List.Elements.{Contains-append_left, Contains-append_cases}
use Rattle.archive_shelf.proofs.CallLaws.{begins_both, leads_begins}
use Rattle.archive_shelf.specs.Contents.{Begins}
use Rattle.index_entry.specs.Facts.{Facts}
use Rattle.index_entry.specs.OfBook.{IsEntryOf}
use Rattle.capture.specs.declared.refusal.Refusal.TheVariants.{NoSuch}
use Rattle.archive_shelf.specs.Answers.{IsBrought}
use Rattle.session.specs.Laws.{FoundCapturesAreReplayed, ShownNumbersAreThere}
use Rattle.request_answer.specs.Rounds.{Round, Outcome, IsDecided, Visited}
use Rattle.session.specs.Courses.{IsCourse}
use Rattle.request_answer.specs.SiteAnswers.{Refuses, HasNoMore}
use Rattle.request_answer.specs.Traces.{Terms, View}
use Rattle.session.proofs.GrowingLaws.{decided_leaves, leaves_shows}
use Rattle.session.proofs.StayLaws.{IsIn, lawful_in, only_this}

pub found_replayed : FoundCapturesAreReplayed
found_replayed terms q view sought brought h tells =
    let found = h.1 in (
      found.0,
      found.1,
      subst (λ (n : ℕ). IsEntryOf view.book n found.0) found.3 (h.6 tells found.0 found.1.nearest.member (sym found.3)),
      subst (λ (n : ℕ). IsBrought view.book n brought) found.3 (h.5 tells),
    )

-- what was shown before a course is shown in each of its rounds
shown_in : (terms : Terms) (served : ℕ) (was : View) (rounds : List Round) (is : View) (x : Round) → IsCourse terms served was rounds is
    → Contains rounds x → Begins was.shown x.traces.before.shown
shown_in terms served was [] is x course there = absurd (omega (arith, there.1))
shown_in terms served was (r ∷ rounds) is x (lawful, leads, knows, last, others) there = elim (Contains-append_cases (r ∷ []) rounds x there) [
  | inl here ↦ subst (λ (y : Round). Begins was.shown y.traces.before.shown) (only_this r x here)
      (leads_begins terms.alone was.shown r.traces.before.shown leads.shown)
  | inr later ↦ begins_both was.shown r.traces.before.shown x.traces.before.shown (leads_begins terms.alone was.shown r.traces.before.shown leads.shown)
      (begins_both r.traces.before.shown r.traces.after.shown x.traces.before.shown (leaves_shows terms r.traces (decided_leaves terms r r.outcome lawful.decided))
      (shown_in terms (served + 1) r.traces.after rounds is x others later))
]

still_shown : (a b : List Facts) (entry : Facts) → Begins a b → Contains a entry → Contains b entry
still_shown a b entry h there = rw h.joined (Contains-append_left a h.rest entry there)

pub shown_there : ShownNumbersAreThere
shown_there terms served was rounds is r q count entry course there shown =
    let found : IsIn terms r = lawful_in terms served was rounds is r course there in
    let decided : (o : Outcome) → r.outcome ≡ o → IsDecided terms r o = λ o same. subst (λ (o : Outcome). IsDecided terms r o) same found.lawful.decided in
    let still : Contains r.traces.before.shown entry
    = still_shown was.shown r.traces.before.shown entry (shown_in terms served was rounds is r course there) shown in (
      λ refused. (decided (Visited q (Refuses (NoSuch entry.number count))) refused).2.1 entry still refl,
      λ more. (decided (Visited q (HasNoMore entry.number)) more).2.2 entry still refl,
    )
