-- What deciding a request to the site makes of a round.
use Rattle.capture.specs.Methods.{asks_for_head}
use Rattle.std.proofs.Common.{◌≡◌, ◌≢◌, ◌==◌, inl, inr, ℕ, ◌≤◌, Bool, true, false, IsTrue, IsErr, List, [], ◌++◌, Some, Result, Ok, Err, refl, sym, ◌∙◌, ap, subst, arith}
use Rattle.std.proofs.lemmas.Bool.{eqb-true, eqb-false, false≢true}
use Rattle.std.proofs.lemmas.List.{append-nil}
use Rattle.std.specs.Prelude.{None, IfOk, MatchBool, Option}
use Rattle.archive_shelf.proofs.CallLaws.{reads_itself, shown_itself, stays_tells}
use Rattle.archive_shelf.specs.Answers.{Brings, CountsIf, IsDamaged, is_bring_fault}
use Rattle.archive_shelf.specs.Contents.{Contents, LeadsShown, Shows}
use Rattle.archive_shelf.specs.Openings.{IsEarlier}
use Rattle.archive_shelf.specs.Pieces.{GivesPiece}
use Rattle.archive_shelf.specs.Told.{ReadsOn, Told}
use Rattle.archive_shelf.specs.declared.fault.BringFault.{BringFault}
use Rattle.archive_shelf.specs.declared.fault.BringFault.TheVariants as brings
use Rattle.capture.specs.Faults.{Rose}
use Rattle.capture.specs.declared.refusal.Refusal.{Refusal}
use Rattle.capture.specs.declared.refusal.Refusal.TheVariants.{NoSuch, DiskFault, Damaged}
use Rattle.index_entry.specs.Facts.{Facts}
use Rattle.exchange.specs.Refusals.{refusal_text, memory_text}
use Rattle.exchange.specs.declared.aim.Aim.TheVariants.{Site as ToSite}
use Rattle.outside.specs.Records.{Links}
use Rattle.outside.specs.declared.dialer.Transcript.{Transcript}
use Rattle.outside.specs.declared.gate.Heard.{Heard}
use Rattle.replay_url.specs.Questions.{ForNumber}
use Rattle.replay_url.specs.declared.form.Form.TheVariants.{Number, Ship}
use Rattle.http_head.specs.declared.head.RequestHead.{RequestHead}
use Rattle.request_answer.specs.steps.Making.{terms_at}
use Rattle.request_answer.specs.steps.Answering.{Incoming, MakesRound, IsAnswered, Answers, AnswersVisit}
use Rattle.request_answer.specs.Gains.{Setting}
use Rattle.request_answer.specs.steps.Declining.{Declines, DeclinesPiece, IsRefusing, refusal_by_bring}
use Rattle.request_answer.specs.Requests.{IsAsked, IsInterim, closes_after}
use Rattle.request_answer.specs.Rounds.{Round, Refused, Visited, IsRound, IsTextOf, disk_fault, Undecided, is_from_shown}
use Rattle.request_answer.specs.SiteAnswers.{SiteRequest, SiteReply, Refuses, HasNoMore, Ships, Asks, IsSiteReply, Replays}
use Rattle.request_answer.specs.Traces.{Terms, View, CountsMet}
use Rattle.capture.specs.declared.captured.Brought.{Brought}
use Rattle.capture.specs.declared.memory.Memory.{Memory}
use Rattle.request_answer.specs.steps.Givens.{Given, nothing_text}
use Rattle.request_answer.proofs.CountLaws.{none_met, sufficed}
use Rattle.request_answer.proofs.StoreLaws.{images_unwritten}

-- what was seen when a reply was decided: the book that is seen now, and these entries
abbrev pub seen_at : List Facts → ℕ → Told → Told → View
seen_at shown dialer_faults was is = record {
  book = is.contents.seen;
  shown = shown;
  dialer_faults = dialer_faults;
  disk_faults = was.faults;
}

-- the count of a fault
abbrev pub one_if : Bool → ℕ
one_if true = 1
one_if false = 0

-- The shelf was looked at, and perhaps read: these entries were shown when the reply was decided, and the book is the one that is seen
-- now. Nothing was stored or written.
pub record Visits (alone : Bool) (setting : Setting) (q : SiteRequest) (reply : SiteReply) (shown : List Facts) (was is : Told) : Type 0 where
  pub fault : Bool
  pub reads : ReadsOn alone fault was is
  pub met : disk_fault (Visited q reply) ≡ one_if fault
  pub shows : LeadsShown alone None was.contents.shown shown
  pub later : LeadsShown alone None shown is.contents.shown
  pub knows : IsTrue was.contents.tells → IsTrue (is_from_shown (Visited q reply)) → Shows alone was.contents.seen shown
  pub by : (faults : ℕ) → IsSiteReply (terms_at alone setting was) q reply (seen_at shown faults was is)

-- a count that stayed
pub stayed_met : (before now : ℕ) → now ≡ before → CountsMet 0 before now
stayed_met before now e = subst (λ (n : ℕ). CountsMet 0 before n) (sym e) (none_met before)

-- and one that rose
pub rose_met : (before now : ℕ) → Rose before now → CountsMet 1 before now
rose_met before now rose = record { rose = rose; steady = λ e. let bad : ⊥ = omega (arith, e) in absurd bad }

pub met_if : (fault : Bool) (before now : ℕ) → CountsIf fault before now → CountsMet (one_if fault) before now
met_if true before now h = rose_met before now h.1
met_if false before now h = stayed_met before now h

-- the disk's faults that such a round met
counts : (alone : Bool) (setting : Setting) (q : SiteRequest) (reply : SiteReply) (shown : List Facts) (was is : Told)
    → Visits alone setting q reply shown was is → CountsMet (disk_fault (Visited q reply)) was.faults is.faults
counts alone setting q reply shown was is h =
    subst (λ (n : ℕ). CountsMet n was.faults is.faults) (sym h.met) (met_if h.fault was.faults is.faults h.reads.faults)

stored_none : (a b : Contents) → b ≡ record a { seen = b.seen; shown = b.shown } → b ≡ record a { seen = b.seen; shown = b.shown; mine = a.mine ++ [] }
stored_none a b e = e ∙ ap (λ (l : List ℕ). record a { seen = b.seen; shown = b.shown; mine = l }) (sym (append-nil a.mine))

-- the round that was made
abbrev visit_round : Incoming → SiteRequest → Bool → SiteReply → List Facts → List ℕ → ℕ → Told → Told → Round
visit_round incoming q lacked reply shown text faults was is = record {
  wire = incoming.wire;
  outcome = Visited q reply;
  lacked = lacked;
  traces = record {
    times = [];
    transcripts = [];
    before = seen_at shown faults was is;
    after = record {
      book = is.contents.seen;
      shown = is.contents.shown;
      dialer_faults = faults;
      disk_faults = is.faults;
    };
  };
  interim = incoming.interim;
  text = text;
}

-- the site refuses
abbrev pub is_declined : SiteReply → Bool
is_declined (Refuses refusal) = true
is_declined other = false

undeclined : (reply : SiteReply) → is_declined reply ≡ false → (refusal : Refusal) → reply ≢ Refuses refusal
undeclined reply e refusal is = let bad : true ≡ false = sym (ap (λ (r : SiteReply). is_declined r) is) ∙ e in absurd (cc)

visited_unrefused : (q : SiteRequest) (reply : SiteReply) (head : Option RequestHead) (refusal : Refusal) → Visited q reply ≢ Refused head refusal
visited_unrefused q reply head refusal e = cc

undecided_unrefused : (head : Option RequestHead) (refusal : Refusal) → Undecided ≢ Refused head refusal
undecided_unrefused head refusal e = cc

-- a lawful round was made, where its text is told
visited : (alone : Bool) (setting : Setting) (incoming : Incoming) (q : SiteRequest) (lacked : Bool) (reply : SiteReply) (shown : List Facts)
    (text : List ℕ) (was is : Told) (then now : Heard) (answers : List ℕ) (links : Links Transcript) (faults : ℕ)
    → IsEarlier is.crash → IsAsked setting.site incoming.wire q.message (ToSite q.address) → IsInterim setting.site incoming.wire incoming.interim
    → Visits alone setting q reply shown was is
    → IsRound (terms_at alone setting was) incoming.served (visit_round incoming q lacked reply shown text faults was is)
    → MakesRound alone setting incoming lacked text
    (record { heard = then; answers = answers; links = links; dialer_faults = faults; shelf = was })
    (record { heard = now; answers = answers; links = links; dialer_faults = faults; shelf = is })
visited alone setting incoming q lacked reply shown text was is then now answers links faults earlier asked known h lawful = record {
  outcome = Visited q reply;
  traces = (visit_round incoming q lacked reply shown text faults was is).traces;
  made = record {
    lawful = lawful;
    leads = record { book = h.reads.stays.seen; shown = h.shows; same_dialer = refl; same_disk = refl };
    knows = h.knows;
    left = refl;
    gained = record {
      asked = λ _ _. sym (append-nil answers);
      logged = ap (λ (l : List Transcript). record links { log = l }) (sym (append-nil links.log));
      stored = stored_none was.contents is.contents h.reads.stays.others;
    };
    images = images_unwritten alone setting.site (visit_round incoming q lacked reply shown text faults was is) was is refl earlier h.reads.unwritten;
  };
  unrefused = visited_unrefused q reply;
}

-- the reply was answered
pub visit_answered : (alone : Bool) (setting : Setting) (incoming : Incoming) (q : SiteRequest) (reply : SiteReply) (shown : List Facts)
    (answer : Given) (closes : Bool) (was is : Told) (then now : Heard) (answers : List ℕ) (links : Links Transcript) (faults : ℕ)
    → IsEarlier is.crash → closes ≡ closes_after incoming.served q.message.head
    → IsAsked setting.site incoming.wire q.message (ToSite q.address) → IsInterim setting.site incoming.wire incoming.interim
    → Visits alone setting q reply shown was is → answer.closes ≡ closes
    → IsTextOf (terms_at alone setting was) (Visited q reply) closes answer.text
    → IsAnswered alone setting incoming answer
    (record { heard = then; answers = answers; links = links; dialer_faults = faults; shelf = was })
    (record { heard = now; answers = answers; links = links; dialer_faults = faults; shelf = is })
unfolding visited
visit_answered alone setting incoming q reply shown answer closes was is then now answers links faults earlier closing asked known h closed text = record {
  makes = visited alone setting incoming q false reply shown answer.text was is then now answers links faults earlier asked known h (record {
    decided = (asked, record { times = refl; transcripts = refl; untouched = record { book = refl; shown = h.later } }, h.by faults);
    dialer = none_met faults;
    disk = counts alone setting q reply shown was is h;
    lacking = sufficed;
    interim_is = inl known;
    text_is = subst (λ (b : Bool). IsTextOf (terms_at alone setting was) (Visited q reply) b answer.text) closing text;
  });
  closes_is = sym closing ∙ sym closed;
}

-- there was no memory for its text
pub visit_lacked : (alone : Bool) (setting : Setting) (incoming : Incoming) (q : SiteRequest) (reply : SiteReply) (shown : List Facts)
    (was is : Told) (then now : Heard) (answers : List ℕ) (links : Links Transcript) (faults : ℕ)
    → IsEarlier is.crash → IsAsked setting.site incoming.wire q.message (ToSite q.address) → IsInterim setting.site incoming.wire incoming.interim
    → Visits alone setting q reply shown was is → is_declined reply ≡ false
    → MakesRound alone setting incoming true memory_text
    (record { heard = then; answers = answers; links = links; dialer_faults = faults; shelf = was })
    (record { heard = now; answers = answers; links = links; dialer_faults = faults; shelf = is })
visit_lacked alone setting incoming q reply shown was is then now answers links faults earlier asked known h unrefused =
    visited alone setting incoming q true reply shown memory_text was is then now answers links faults earlier asked known h (record {
      decided = (asked, record { times = refl; transcripts = refl; untouched = record { book = refl; shown = h.later } }, h.by faults);
      dialer = none_met faults;
      disk = counts alone setting q reply shown was is h;
      lacking = λ lacked. inr (q, reply, refl, undeclined reply unrefused);
      interim_is = inl known;
      text_is = refl;
    })

-- there was no memory to decide on a reply
abbrev undecided_round : Incoming → List Facts → ℕ → Told → Told → Round
undecided_round incoming shown faults was is = record {
  wire = incoming.wire;
  outcome = Undecided;
  lacked = true;
  traces = record {
    times = [];
    transcripts = [];
    before = seen_at shown faults was is;
    after = record {
      book = is.contents.seen;
      shown = is.contents.shown;
      dialer_faults = faults;
      disk_faults = is.faults;
    };
  };
  interim = incoming.interim;
  text = memory_text;
}

pub undecided : (alone : Bool) (setting : Setting) (incoming : Incoming) (shown : List Facts)
    (was is : Told) (then now : Heard) (answers : List ℕ) (links : Links Transcript) (faults : ℕ)
    → IsEarlier is.crash → IsInterim setting.site incoming.wire incoming.interim
    → ReadsOn alone false was is → LeadsShown alone None was.contents.shown shown → LeadsShown alone None shown is.contents.shown
    → MakesRound alone setting incoming true memory_text
    (record { heard = then; answers = answers; links = links; dialer_faults = faults; shelf = was })
    (record { heard = now; answers = answers; links = links; dialer_faults = faults; shelf = is })
undecided alone setting incoming shown was is then now answers links faults earlier known reads shows later = record {
  outcome = Undecided;
  traces = (undecided_round incoming shown faults was is).traces;
  made = record {
    lawful = record {
      decided = (refl, record { book = refl; shown = later }, inl (refl, refl));
      dialer = none_met faults;
      disk = stayed_met was.faults is.faults reads.faults;
      lacking = λ lacked. inl refl;
      interim_is = inl known;
      text_is = refl;
    };
    leads = record { book = reads.stays.seen; shown = shows; same_dialer = refl; same_disk = refl };
    knows = λ tells from. absurd (false≢true from);
    left = refl;
    gained = record {
      asked = λ _ _. sym (append-nil answers);
      logged = ap (λ (l : List Transcript). record links { log = l }) (sym (append-nil links.log));
      stored = stored_none was.contents is.contents reads.stays.others;
    };
    images = images_unwritten alone setting.site (undecided_round incoming shown faults was is) was is refl earlier reads.unwritten;
  };
  unrefused = undecided_unrefused;
}

-- the one or the other
pub visit_answers : (alone : Bool) (setting : Setting) (q : SiteRequest) (reply : SiteReply) (shown : List Facts) (closes : Bool)
    (result : Result Given Memory) (was is : Told) (incoming : Incoming) (then now : Heard) (answers : List ℕ) (links : Links Transcript) (faults : ℕ)
    → IsEarlier is.crash → Visits alone setting q reply shown was is → is_declined reply ≡ false
    → IfOk result (λ answer. IsTextOf (terms_at alone setting was) (Visited q reply) closes answer.text) → IfOk result (λ answer. answer.closes ≡ closes)
    → closes ≡ closes_after incoming.served q.message.head
    → IsAsked setting.site incoming.wire q.message (ToSite q.address) → IsInterim setting.site incoming.wire incoming.interim
    → Answers alone setting incoming result
    (record { heard = then; answers = answers; links = links; dialer_faults = faults; shelf = was })
    (record { heard = now; answers = answers; links = links; dialer_faults = faults; shelf = is })
visit_answers alone setting q reply shown closes (Ok answer) was is incoming then now answers links faults earlier h unrefused text closed closing asked known =
    visit_answered alone setting incoming q reply shown answer closes was is then now answers links faults earlier closing asked known h closed text
visit_answers alone setting q reply shown closes (Err memory) was is incoming then now answers links faults earlier h unrefused text closed closing asked known =
    visit_lacked alone setting incoming q reply shown was is then now answers links faults earlier asked known h unrefused

-- a refusal, for which no memory is needed
pub visit_refuses : (alone : Bool) (setting : Setting) (q : SiteRequest) (refusal : Refusal) (shown : List Facts) (asks closes : Bool)
    (result : Result Given Memory) (was is : Told) → IsEarlier is.crash → Visits alone setting q (Refuses refusal) shown was is
    → asks ≡ asks_for_head q.message.head.method → IsRefusing refusal asks closes result → AnswersVisit alone setting q closes result was is
visit_refuses alone setting q refusal shown asks closes result was is earlier h same refusing =
    subst (λ (r : Result Given Memory). AnswersVisit alone setting q closes r was is) (sym refusing)
    (λ incoming then now answers links faults closing asked known. visit_answered alone setting incoming q (Refuses refusal) shown
    (record { text = refusal_text refusal asks closes; closes = closes }) closes was is then now answers links faults earlier closing asked known h refl
    (ap (λ (b : Bool). refusal_text refusal b closes) same))

-- ---- the shelf wasn't called

-- a reply that is no answer from what is shown, and no fault
at_once : (alone : Bool) (setting : Setting) (q : SiteRequest) (reply : SiteReply) (shelf : Told)
    → disk_fault (Visited q reply) ≡ 0 → is_from_shown (Visited q reply) ≡ false
    → ((faults : ℕ) → IsSiteReply (terms_at alone setting shelf) q reply (seen_at shelf.contents.shown faults shelf shelf))
    → Visits alone setting q reply shelf.contents.shown shelf shelf
at_once alone setting q reply shelf none unshown by = record {
  fault = false;
  reads = reads_itself alone shelf;
  met = none;
  shows = shown_itself alone shelf.contents.shown;
  later = shown_itself alone shelf.contents.shown;
  knows = λ tells from. let bad : ⊥ = cc (unshown, from) in absurd bad;
  by = by;
}

-- there was no memory to begin with
pub lacks_visit : (alone : Bool) (setting : Setting) (shelf : Told) (incoming : Incoming) (then now : Heard)
    (answers : List ℕ) (links : Links Transcript) (faults : ℕ) → IsEarlier shelf.crash
    → IsInterim setting.site incoming.wire incoming.interim
    → MakesRound alone setting incoming true memory_text
    (record { heard = then; answers = answers; links = links; dialer_faults = faults; shelf = shelf })
    (record { heard = now; answers = answers; links = links; dialer_faults = faults; shelf = shelf })
lacks_visit alone setting shelf incoming then now answers links faults earlier known =
    undecided alone setting incoming shelf.contents.shown shelf shelf then now answers links faults earlier known
    (reads_itself alone shelf) (shown_itself alone shelf.contents.shown) (shown_itself alone shelf.contents.shown)

-- ---- a capture was brought, or wasn't

-- a reply that is decided by what was brought
brought_visits : (alone : Bool) (setting : Setting) (q : SiteRequest) (reply : SiteReply) (fault : Bool) (was is : Told)
    → ReadsOn alone fault was is → disk_fault (Visited q reply) ≡ one_if fault → is_from_shown (Visited q reply) ≡ false
    → ((faults : ℕ) → IsSiteReply (terms_at alone setting was) q reply (seen_at is.contents.shown faults was is))
    → Visits alone setting q reply is.contents.shown was is
brought_visits alone setting q reply fault was is h met unshown by = record {
  fault = fault;
  reads = h;
  met = met;
  shows = h.stays.shown;
  later = shown_itself alone is.contents.shown;
  knows = λ tells from. let bad : ⊥ = cc (unshown, from) in absurd bad;
  by = by;
}

-- a capture that was brought by its number is replayed
pub number_replayed : (terms : Terms) (q : SiteRequest) (number : ℕ) (brought : Brought) (is : Contents) (faults disk : ℕ) → Asks q (Number number)
    → Brings is number (Ok brought) → is.tells ≡ terms.tells
    → IsSiteReply terms q (Replays (ForNumber number) brought) (record { book = is.seen; shown = is.shown; dialer_faults = faults; disk_faults = disk })
number_replayed terms q number brought is faults disk asks (there, replayable, named, known, shown) same = (
  number,
  (asks, refl, there),
  replayable,
  named,
  shown,
  λ tells. (known (rw same tells)).0,
  λ tells. (known (rw same tells)).1,
)

-- a piece is shipped
pub piece_shipped : (terms : Terms) (q : SiteRequest) (number : ℕ) (piece : List ℕ) (is : Contents) (faults disk : ℕ) → Asks q (Ship number)
    → GivesPiece is number (Ok piece) → is.tells ≡ terms.tells
    → IsSiteReply terms q (Ships number piece) (record { book = is.seen; shown = is.shown; dialer_faults = faults; disk_faults = disk })
piece_shipped terms q number piece is faults disk asks (there, some, known) same = (asks, there, (some.piece, some.digest), λ tells. known (rw same tells))

-- a request that is answered by what was brought
pub bring_answers : (alone : Bool) (setting : Setting) (q : SiteRequest) (reply : SiteReply) (closes fault : Bool)
    (result : Result Given Memory) (was is : Told) → IsEarlier is.crash → ReadsOn alone fault was is
    → disk_fault (Visited q reply) ≡ one_if fault → is_from_shown (Visited q reply) ≡ false → is_declined reply ≡ false
    → ((faults : ℕ) → IsSiteReply (terms_at alone setting was) q reply (seen_at is.contents.shown faults was is))
    → IfOk result (λ answer. IsTextOf (terms_at alone setting was) (Visited q reply) closes answer.text) → IfOk result (λ answer. answer.closes ≡ closes)
    → AnswersVisit alone setting q closes result was is
bring_answers alone setting q reply closes fault result was is earlier h met unshown unrefused by text closed incoming then now answers links faults closing asked known =
    visit_answers alone setting q reply is.contents.shown closes result was is incoming then now answers links faults earlier
    (brought_visits alone setting q reply fault was is h met unshown by)
    unrefused text closed closing asked known

-- or refused by why it wasn't
bring_refuses : (alone : Bool) (setting : Setting) (q : SiteRequest) (refusal : Refusal) (asks closes fault : Bool)
    (result : Result Given Memory) (was is : Told) → IsEarlier is.crash → ReadsOn alone fault was is
    → disk_fault (Visited q (Refuses refusal)) ≡ one_if fault → is_from_shown (Visited q (Refuses refusal)) ≡ false
    → ((faults : ℕ) → IsSiteReply (terms_at alone setting was) q (Refuses refusal) (seen_at is.contents.shown faults was is))
    → asks ≡ asks_for_head q.message.head.method → IsRefusing refusal asks closes result → AnswersVisit alone setting q closes result was is
bring_refuses alone setting q refusal asks closes fault result was is earlier h met unshown by same refusing =
    visit_refuses alone setting q refusal is.contents.shown asks closes result was is earlier
    (brought_visits alone setting q (Refuses refusal) fault was is h met unshown by) same refusing

pub told_damaged : (a b : Bool) (kept : List ℕ) (found : Option (List ℕ)) → a ≡ b → IsDamaged a kept found → IsDamaged b kept found
told_damaged a b kept found e h = subst (λ (t : Bool). IsDamaged t kept found) e h

-- a capture was to be brought, and there was no memory
pub bring_lacking : (alone : Bool) (setting : Setting) (q : SiteRequest) (closes : Bool) (memory : Memory) (was is : Told) → IsEarlier is.crash
    → ReadsOn alone false was is → AnswersVisit alone setting q closes (Err memory) was is
bring_lacking alone setting q closes memory was is earlier h incoming then now answers links faults closing asked known =
    undecided alone setting incoming is.contents.shown was is then now answers links faults earlier known
    h h.stays.shown (shown_itself alone is.contents.shown)

lacking_bring : (alone : Bool) (setting : Setting) (q : SiteRequest) (closes : Bool) (result : Result Given Memory) (was is : Told) → IsEarlier is.crash
    → ReadsOn alone false was is → IsErr result → AnswersVisit alone setting q closes result was is
lacking_bring alone setting q closes (Ok answer) was is earlier h err = let bad : ⊥ = cc in absurd bad
lacking_bring alone setting q closes (Err memory) was is earlier h err = bring_lacking alone setting q closes memory was is earlier h

-- a capture with this number, which wasn't brought
pub unbrought_answers : (alone : Bool) (setting : Setting) (q : SiteRequest) (number : ℕ) (fault : BringFault) (asks closes : Bool)
    (result : Result Given Memory) (was is : Told) → IsEarlier is.crash → Asks q (Number number) → asks ≡ asks_for_head q.message.head.method
    → Brings is.contents number (Err fault) → ReadsOn alone (is_bring_fault {T = Brought} (Err fault)) was is
    → Declines (refusal_by_bring number fault) asks closes result → AnswersVisit alone setting q closes result was is
unbrought_answers alone setting q number (brings.NoSuch count) asks closes result was is earlier asked same h reads declines =
    bring_refuses alone setting q (NoSuch number count) asks closes false result was is earlier reads refl refl
    (λ faults. (inl (asked, subst (λ (n : ℕ). n ≤ number) h.0 h.1), h.2, h.0)) same declines
unbrought_answers alone setting q number brings.DiskFault asks closes result was is earlier asked same h reads declines =
    bring_refuses alone setting q DiskFault asks closes true result was is earlier reads refl refl
    (λ faults. inl (ForNumber number, number, (asked, refl, h))) same declines
unbrought_answers alone setting q number (brings.Damaged at kept found) asks closes result was is earlier asked same h reads declines =
    bring_refuses alone setting q (Damaged at kept found) asks closes false result was is earlier reads refl refl
    (λ faults. (
      inl (ForNumber number, number, (asked, refl, h.0), h.2),
      told_damaged _ _ kept found (stays_tells alone was.contents is.contents reads.stays) h.3,
    )) same declines
unbrought_answers alone setting q number brings.Memory asks closes result was is earlier asked same h reads declines =
    lacking_bring alone setting q closes result was is earlier reads declines

-- or its piece
pub unshipped_answers : (alone : Bool) (setting : Setting) (q : SiteRequest) (number : ℕ) (fault : BringFault) (asks closes : Bool)
    (result : Result Given Memory) (was is : Told) → IsEarlier is.crash → Asks q (Ship number) → asks ≡ asks_for_head q.message.head.method
    → GivesPiece is.contents number (Err fault) → ReadsOn alone (is_bring_fault {T = List ℕ} (Err fault)) was is
    → DeclinesPiece number fault asks closes result → IfOk result (λ answer. answer.closes ≡ closes)
    → AnswersVisit alone setting q closes result was is
unshipped_answers alone setting q number (brings.NoSuch count) asks closes result was is earlier asked same h reads declines closed =
    by_test (number == count) refl declines where
      by_test : (test : Bool) → (number == count) ≡ test
          → MatchBool test (IfOk result (λ answer. answer.text ≡ nothing_text closes)) (Declines (Some (NoSuch number count)) asks closes result)
          → AnswersVisit alone setting q closes result was is
      by_test true e text =
          let next : number ≡ count = eqb-true number count e in
          bring_answers alone setting q (HasNoMore number) closes false result was is earlier reads refl refl refl
          (λ faults. (asked, next ∙ h.0, h.2)) text closed
      by_test false e refuses =
          let other : number ≢ count = eqb-false number count e in
          bring_refuses alone setting q (NoSuch number count) asks closes false result was is earlier reads refl refl
          (λ faults. (inr (asked, omega (arith, h.0, h.1, other)), h.2, h.0)) same refuses
unshipped_answers alone setting q number brings.DiskFault asks closes result was is earlier asked same h reads declines closed =
    bring_refuses alone setting q DiskFault asks closes true result was is earlier reads refl refl
    (λ faults. inr (number, asked, h)) same declines
unshipped_answers alone setting q number (brings.Damaged at kept found) asks closes result was is earlier asked same h reads declines closed =
    bring_refuses alone setting q (Damaged at kept found) asks closes false result was is earlier reads refl refl
    (λ faults. (
      inr (subst (λ (n : ℕ). Asks q (Ship n)) (sym h.1) asked, omega (arith, h.0, h.1)),
      told_damaged _ _ kept found (stays_tells alone was.contents is.contents reads.stays) h.2,
    )) same declines
unshipped_answers alone setting q number brings.Memory asks closes result was is earlier asked same h reads declines closed =
    lacking_bring alone setting q closes result was is earlier reads declines

-- by what a test told
pub match_true : (P Q : Type 0) (told test : Bool) → told ≡ test → told ≡ true → P → MatchBool test P Q
match_true P Q told true e t p = p
match_true P Q told false e t p = let bad : ⊥ = cc in absurd bad

pub match_false : (P Q : Type 0) (told test : Bool) → told ≡ test → told ≡ false → Q → MatchBool test P Q
match_false P Q told false e f q = q
match_false P Q told true e f q = let bad : ⊥ = cc in absurd bad

-- a request that is refused where the shelf wasn't called
pub refusal_answers : (alone : Bool) (setting : Setting) (q : SiteRequest) (refusal : Refusal) (asks closes : Bool)
    (result : Result Given Memory) (shelf : Told) → IsEarlier shelf.crash → asks ≡ asks_for_head q.message.head.method
    → disk_fault (Visited q (Refuses refusal)) ≡ 0 → is_from_shown (Visited q (Refuses refusal)) ≡ false
    → ((faults : ℕ)
    → IsSiteReply (terms_at alone setting shelf) q (Refuses refusal) (seen_at shelf.contents.shown faults shelf shelf))
    → IsRefusing refusal asks closes result → AnswersVisit alone setting q closes result shelf shelf
refusal_answers alone setting q refusal asks closes result shelf earlier same none unshown by refusing =
    visit_refuses alone setting q refusal shelf.contents.shown asks closes result shelf shelf earlier
    (at_once alone setting q (Refuses refusal) shelf none unshown by) same refusing

pub lacking_answers : (alone : Bool) (setting : Setting) (q : SiteRequest) (closes : Bool) (memory : Memory) (shelf : Told) → IsEarlier shelf.crash
    → AnswersVisit alone setting q closes (Err memory) shelf shelf
lacking_answers alone setting q closes memory shelf earlier incoming then now answers links faults closing asked known =
    lacks_visit alone setting shelf incoming then now answers links faults earlier known

pub unserved_by : (b served : Bool) → b ≡ served → b ≡ false → served ≡ false
unserved_by b served e n = sym e ∙ n

pub served_by : (b served : Bool) → b ≡ served → b ≡ true → served ≡ true
served_by b served e n = sym e ∙ n
