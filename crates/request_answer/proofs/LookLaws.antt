-- What a look at the entries that are shown makes of a round, and what is found by them.
use Rattle.std.proofs.Common.{◌≡◌, ℕ, Bool, true, false, ◌==◌, IsTrue, IsErr, List, [], ◌∷◌, length, Option, Some, Result, Ok, Err, refl, sym, ◌∙◌, ap, subst, arith}
use Rattle.std.specs.Prelude.{None, ◌≢◌, IfOk, OnOk, Contains, bytes_eq, nat_eq}
use Rattle.std.specs.List.{starts_with}
use Rattle.std.proofs.lemmas.Bool.{eqb-true, false≢true}
use Rattle.std.proofs.lemmas.List.Elements.{Contains-append_left}
use Rattle.std.proofs.lemmas.Slice.Eq.{bytes_eq-Decides}
use Rattle.archive_shelf.proofs.CallLaws.{read_both, reads_itself, stays_tells}
use Rattle.archive_shelf.specs.Contents.{Contents, LeadsShown, Shows}
use Rattle.archive_shelf.specs.Openings.{IsEarlier}
use Rattle.archive_shelf.specs.Queries.{ArePicked, IsFound}
use Rattle.archive_shelf.specs.Told.{CatchesUp, KnowsBook, ReadsOn, Told}
use Rattle.capture.specs.Methods.{asks_for_head}
use Rattle.capture.specs.declared.memory.Memory.{Memory}
use Rattle.capture.specs.declared.refusal.Refusal.{Refusal}
use Rattle.capture.specs.declared.refusal.Refusal.TheVariants.{NoCapture}
use Rattle.cdx_query.specs.Answers.{AreStarting, IsAnswer}
use Rattle.cdx_query.specs.Picking.{start_of}
use Rattle.cdx_query.specs.declared.query.Query.{Query}
use Rattle.index_entry.specs.Facts.{Facts}
use Rattle.index_entry.specs.Queries.{HasNone}
use Rattle.surt_key.specs.Key.{key_of}
use Rattle.request_answer.specs.steps.Making.{terms_at}
use Rattle.request_answer.specs.steps.Answering.{AnswersVisit}
use Rattle.request_answer.specs.Gains.{Setting}
use Rattle.request_answer.specs.steps.Declining.{IsRefusing}
use Rattle.request_answer.specs.steps.Looking.{FindsNearest, FindsAll, FindsAnswer}
use Rattle.request_answer.specs.Rounds.{Visited, IsTextOf, disk_fault}
use Rattle.request_answer.specs.SiteAnswers.{SiteRequest, SiteReply, Refuses, IsSiteReply}
use Rattle.request_answer.specs.steps.Givens.{Given}
use Rattle.request_answer.proofs.VisitLaws.{is_declined, Visits, bring_lacking, one_if, seen_at, visit_answers, visit_refuses, undecided}

-- the entries that are shown know the book that was seen before
knows_before : (alone : Bool) (was is : Told) → CatchesUp alone was is → KnowsBook alone is.contents → IsTrue was.contents.tells
    → Shows alone was.contents.seen is.contents.shown
knows_before alone was is h knows tells =
    h.knows tells is.contents.shown (knows (subst (λ (b : Bool). IsTrue b) (sym (stays_tells alone was.contents is.contents h.reads.stays)) tells))

-- ---- a reply that is decided by a look, and perhaps by what was read then

found_visits : (alone : Bool) (setting : Setting) (q : SiteRequest) (reply : SiteReply) (fault : Bool) (was mid is : Told)
    → CatchesUp alone was mid → KnowsBook alone mid.contents → ReadsOn alone fault mid is → disk_fault (Visited q reply) ≡ one_if fault
    → ((faults : ℕ) → IsSiteReply (terms_at alone setting was) q reply (seen_at mid.contents.shown faults was is))
    → Visits alone setting q reply mid.contents.shown was is
found_visits alone setting q reply fault was mid is h knows k met by = record {
  fault = fault;
  reads = read_both alone fault was mid is h.reads k;
  met = met;
  shows = h.reads.stays.shown;
  later = k.stays.shown;
  knows = λ tells from. knows_before alone was mid h knows tells;
  by = by;
}

pub found_answers : (alone : Bool) (setting : Setting) (q : SiteRequest) (reply : SiteReply) (closes fault : Bool)
    (result : Result Given Memory) (was mid is : Told) → IsEarlier is.crash
    → CatchesUp alone was mid → KnowsBook alone mid.contents → ReadsOn alone fault mid is → disk_fault (Visited q reply) ≡ one_if fault
    → is_declined reply ≡ false
    → ((faults : ℕ) → IsSiteReply (terms_at alone setting was) q reply (seen_at mid.contents.shown faults was is))
    → IfOk result (λ answer. IsTextOf (terms_at alone setting was) (Visited q reply) closes answer.text) → IfOk result (λ answer. answer.closes ≡ closes)
    → AnswersVisit alone setting q closes result was is
found_answers alone setting q reply closes fault result was mid is earlier h knows k met unrefused by text closed incoming then now answers links faults closing asked known =
    visit_answers alone setting q reply mid.contents.shown closes result was is incoming then now answers links faults earlier
    (found_visits alone setting q reply fault was mid is h knows k met by)
    unrefused text closed closing asked known

-- or refused
pub found_refuses : (alone : Bool) (setting : Setting) (q : SiteRequest) (refusal : Refusal) (asks closes fault : Bool)
    (result : Result Given Memory) (was mid is : Told) → IsEarlier is.crash
    → CatchesUp alone was mid → KnowsBook alone mid.contents → ReadsOn alone fault mid is → disk_fault (Visited q (Refuses refusal)) ≡ one_if fault
    → ((faults : ℕ) → IsSiteReply (terms_at alone setting was) q (Refuses refusal) (seen_at mid.contents.shown faults was is))
    → asks ≡ asks_for_head q.message.head.method → IsRefusing refusal asks closes result → AnswersVisit alone setting q closes result was is
found_refuses alone setting q refusal asks closes fault result was mid is earlier h knows k met by same refusing =
    visit_refuses alone setting q refusal mid.contents.shown asks closes result was is earlier
    (found_visits alone setting q (Refuses refusal) fault was mid is h knows k met by) same refusing

pub found_lacking : (alone : Bool) (setting : Setting) (q : SiteRequest) (closes : Bool) (memory : Memory) (was mid is : Told) → IsEarlier is.crash
    → CatchesUp alone was mid → KnowsBook alone mid.contents → ReadsOn alone false mid is → AnswersVisit alone setting q closes (Err memory) was is
found_lacking alone setting q closes memory was mid is earlier h knows k incoming then now answers links faults closing asked known =
    undecided alone setting incoming mid.contents.shown was is then now answers links faults earlier known
    (read_both alone false was mid is h.reads k) h.reads.stays.shown k.stays.shown

pub found_lacking_by : (alone : Bool) (setting : Setting) (q : SiteRequest) (closes : Bool) (result : Result Given Memory) (was mid is : Told) → IsEarlier is.crash
    → CatchesUp alone was mid → KnowsBook alone mid.contents → ReadsOn alone false mid is → IsErr result → AnswersVisit alone setting q closes result was is
found_lacking_by alone setting q closes (Ok answer) was mid is earlier h knows k err = let bad : ⊥ = cc in absurd bad
found_lacking_by alone setting q closes (Err memory) was mid is earlier h knows k err = found_lacking alone setting q closes memory was mid is earlier h knows k

-- by a look alone
pub looked_answers : (alone : Bool) (setting : Setting) (q : SiteRequest) (reply : SiteReply) (closes : Bool)
    (result : Result Given Memory) (was is : Told) → IsEarlier is.crash → CatchesUp alone was is
    → KnowsBook alone is.contents → disk_fault (Visited q reply) ≡ 0 → is_declined reply ≡ false
    → ((faults : ℕ) → IsSiteReply (terms_at alone setting was) q reply (seen_at is.contents.shown faults was is))
    → IfOk result (λ answer. IsTextOf (terms_at alone setting was) (Visited q reply) closes answer.text) → IfOk result (λ answer. answer.closes ≡ closes)
    → AnswersVisit alone setting q closes result was is
looked_answers alone setting q reply closes result was is earlier h knows none unrefused by text closed =
    found_answers alone setting q reply closes false result was is is earlier h knows (reads_itself alone is) none unrefused by text closed

-- that there is no capture
pub none_looked : (alone : Bool) (setting : Setting) (q : SiteRequest) (asks closes : Bool)
    (result : Result Given Memory) (was is : Told) → IsEarlier is.crash → CatchesUp alone was is → KnowsBook alone is.contents
    → ((faults : ℕ) → IsSiteReply (terms_at alone setting was) q (Refuses NoCapture) (seen_at is.contents.shown faults was is))
    → asks ≡ asks_for_head q.message.head.method → IsRefusing NoCapture asks closes result → AnswersVisit alone setting q closes result was is
none_looked alone setting q asks closes result was is earlier h knows by same refusing =
    found_refuses alone setting q NoCapture asks closes false result was is is earlier h knows (reads_itself alone is) refl by same refusing

-- there was no memory for a look, or behind it
pub look_lacking : (alone : Bool) (setting : Setting) (q : SiteRequest) (closes : Bool) (memory : Memory) (was is : Told) → IsEarlier is.crash
    → CatchesUp alone was is → AnswersVisit alone setting q closes (Err memory) was is
look_lacking alone setting q closes memory was is earlier h = bring_lacking alone setting q closes memory was is earlier h.reads

-- ---- what is found

-- an entry that is shown is shown on
pub shown_on : (alone : Bool) (a b : List Facts) (entry : Facts) → LeadsShown alone None a b → Contains a entry → Contains b entry
shown_on true a b entry h there = rw h there
shown_on false a b entry h there = rw h.joined (Contains-append_left a h.rest entry there)

-- what the nearest was sought by
pub nearest_found : (alone : Bool) (now : Contents) (url key : List ℕ) (time : ℕ) (result : Result (Option Facts) Memory) → key_of url ≡ Some key
    → IfOk result (λ found. IsFound now.shown key time found) → OnOk result (KnowsBook alone now)
    → IfOk result (λ found. FindsNearest alone now url time found)
nearest_found alone now url key time (Ok found) keyed nearest knows = record { key = key; keyed = keyed; nearest = nearest; knows = knows }
nearest_found alone now url key time (Err memory) keyed nearest knows = tt

pub all_found : {V : Type 0} (alone : Bool) (now : Contents) (url key : List ℕ) (items : V → List Facts) (result : Result V Memory) → key_of url ≡ Some key
    → IfOk result (λ found. ArePicked (λ e. bytes_eq key e.key) now.shown (items found)) → OnOk result (KnowsBook alone now)
    → IfOk result (λ found. FindsAll alone now url (items found))
all_found alone now url key items (Ok found) keyed picked knows = record { key = key; keyed = keyed; picked = picked; knows = knows }
all_found alone now url key items (Err memory) keyed picked knows = tt

-- a list of all entries of a key that holds none
pub lists_none : (alone : Bool) (now : Contents) (url : List ℕ) (found : List Facts) (h : FindsAll alone now url found) → found ≡ []
    → HasNone now.shown h.key
lists_none alone now url found h none other there keyed =
    let listed : Contains found other = h.picked.all other there ((bytes_eq-Decides h.key other.key).1 (sym keyed)) in
    none_in other (rw none at listed)
  where
    none_in : (entry : Facts) → Contains [] entry → ⊥
    none_in entry (k, within, is) = omega (arith, within)

-- a list that is found empty, or not
pub empty_list : (found : List Facts) (n : ℕ) (b : Bool) → n ≡ length found → b ≡ (n == 0) → b ≡ true → found ≡ []
empty_list [] n b counted e t = refl
empty_list (entry ∷ found) n b counted e t =
    let none : n ≡ 0 = eqb-true n 0 (sym e ∙ t) in absurd (omega (arith, none, counted))

pub some_list : (found : List Facts) (n : ℕ) (b : Bool) → n ≡ length found → b ≡ (n == 0) → b ≡ false → found ≢ []
some_list found n b counted e f none =
    let test : (n == 0) ≡ true = ap (λ k. k == 0) (counted ∙ ap (λ (l : List Facts). length l) none) in false≢true (sym f ∙ e ∙ test)

-- ---- queries

-- what an index is looked up by
starting : (start : List ℕ) (shown found : List Facts) → ArePicked (λ e. starts_with nat_eq e.key start) shown found → AreStarting start shown found
starting start shown found h = record { in_order = h.in_order; from = h.from; all = h.all }

-- the answer to a query
pub answer_found : (alone : Bool) (now : Contents) (query : Query) (entries : List Facts) (result : Result (List ℕ) Memory)
    → ArePicked (λ e. starts_with nat_eq e.key query.start) now.shown entries → KnowsBook alone now
    → ((shown : List Facts) → query.start ≡ start_of query.kind query.key → AreStarting query.start shown entries → IfOk result (IsAnswer query shown))
    → query.start ≡ start_of query.kind query.key → IfOk result (λ text. FindsAnswer alone now query text)
answer_found alone now query entries (Ok text) picked knows answers start = record {
  answers = answers now.shown start (starting query.start now.shown entries picked);
  knows = knows;
}
answer_found alone now query entries (Err memory) picked knows answers start = tt
