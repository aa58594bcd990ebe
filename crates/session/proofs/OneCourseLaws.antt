-- A course leaves no choice.
use Rattle.std.proofs.Common.{◌≡◌, ◌⊎◌, inl, inr, ℕ, zero, suc, ◌+◌, ◌-◌, ◌^◌, ◌<◌, Bool, true, false, ◌||◌, IsTrue, List, [], ◌∷◌, ◌++◌, Option, Some, None, Result, Ok, refl, sym, ◌∙◌, ap, subst, arith, append_assoc}
use Rattle.archive_shelf.proofs.CallLaws.{leads_same, shown_same}
use Rattle.capture.specs.Faults.{RoseBy}
use Rattle.capture.specs.Head.{front_of}
use Rattle.capture.specs.Head as head_front
use Rattle.capture.specs.declared.book.Book.{Book}
use Rattle.capture.specs.declared.refusal.Refusal.{Refusal}
use Rattle.capture.specs.declared.refusal.Refusal.TheVariants.{DialFault}
use Rattle.capture.specs.declared.site.Site.{Site}
use Rattle.index_entry.specs.OfBook.{AreEntries}
use Rattle.exchange.specs.Aim.{aim_of}
use Rattle.exchange.specs.Refusals.{memory_text}
use Rattle.exchange.specs.declared.aim.Aim.{Aim}
use Rattle.exchange.specs.declared.aim.Aim.TheVariants.{Origin, Site as ToSite}
use Rattle.exchange.specs.declared.aim.AimFault.{AimFault}
use Rattle.exchange.specs.declared.aim.Target.{Target}
use Rattle.http_head.specs.declared.head.RequestHead.{RequestHead}
use Rattle.http_head.specs.declared.head.RequestMessage.{RequestMessage}
use Rattle.http_wire.proofs.OneHead.{no_head_is_none}
use Rattle.http_wire.specs.Messages.{IsRequest}
use Rattle.outside.specs.declared.dialer.Transcript.{Transcript}
use Rattle.outside.specs.declared.gate.Heard.{Heard}
use Rattle.request_answer.specs.Exchanges.{Exchange, Reply, Fails, IsReply}
use Rattle.request_answer.specs.Gains.{gains_of}
use Rattle.session.specs.OneCourse.{AreOneCourse, AreSameRounds, CoursesEndOneWay, CoursesLeaveNoChoice, IsSameRound, RoundWentWell, RoundsLeaveNoChoice, WentWell}
use Rattle.request_answer.specs.Requests.{IsAsked, IsInside, IsInterim, IsUndecided, closes_after, interim_of}
use Rattle.request_answer.specs.Rounds.{Round, Outcome, Undecided, Refused, Exchanged, Visited, IsDecided, IsRound, IsTextOf, closes_outcome, disk_fault, origin_fault}
use Rattle.session.specs.Courses.{IsCourse, course_text, course_wire, disk_faults, is_closed, lacks, origin_faults}
use Rattle.request_answer.specs.SiteAnswers.{SiteRequest, SiteReply, IsSiteReply}
use Rattle.session.specs.Stopping.{Course, Ends, IsClosed, IsLeftOver}
use Rattle.request_answer.specs.Traces.{CountsMet, IsConsistentView, IsIdle, LeadsView, Terms, View}
use Rattle.request_answer.specs.steps.Exchanging.{is_cut_off, reply_text}
use Rattle.session.specs.declared.served.Served.{Served}
use Rattle.session.specs.declared.served.Served.TheVariants.{Done, ClientBroke, ClientEndedEarly, ClientRefused, WantOfMemory}
use Rattle.session.proofs.CompleteLaws.{text_by}
use Rattle.session.proofs.CourseLaws.{EndsRefused, EndsUnrefused, first_same, no_last, refused_behind, rest_same}
use Rattle.request_answer.proofs.ExchangeLaws.{text_is_of}
use Rattle.session.proofs.GrowingLaws.{courses_count, decided_leaves, leads_consistent, leaves_consistent}
use Rattle.session.proofs.OneRequest.{Cutting, SameAsked, SameRefused, asked_is_decided, asked_isnt_refused, interim_asked, interim_refused, one_asked, one_head, one_refused, refused_is_decided, told_interim}
use Rattle.session.proofs.OneReply.{Answering, DialedAlike, SameReply, dialed_alike, none_is, one_reply}
use Rattle.session.proofs.OneVisit.{Finding, one_visit, text_once}
use Rattle.session.specs.steps.Reads.{IsBetween}
use Rattle.session.specs.steps.Stages.{closes}

-- what lower crates promise
pub record Choosing : Type 0 where
  pub cutting : Cutting
  pub answering : Answering
  pub finding : Finding

-- ---- views

view_same : (a b : View) → a.book ≡ b.book → a.shown ≡ b.shown → a.dialer_faults ≡ b.dialer_faults → a.disk_faults ≡ b.disk_faults → a ≡ b
view_same a b book shown dialer disk = λ i. record { book = book i; shown = shown i; dialer_faults = dialer i; disk_faults = disk i }

-- alone a view leads to itself
led_same : (terms : Terms) (a b : View) → IsTrue terms.alone → LeadsView terms a b → b ≡ a
led_same terms a b alone leads =
    view_same b a (leads_same terms.alone a.book b.book alone leads.book) (shown_same terms.alone a.shown b.shown alone leads.shown) leads.same_dialer leads.same_disk

-- ---- what a round is where nothing is free

lacked_isnt : {P : Type 0} (b : Bool) → IsTrue b → b ≡ false → P
lacked_isnt b t f = let bad : ⊥ = cc in absurd bad

text_of : (terms : Terms) (served : ℕ) (r : Round) → RoundWentWell terms served r → IsTextOf terms r.outcome (closes_outcome served r.outcome) r.text
text_of terms served r h = text_by r.lacked (r.text ≡ memory_text) (IsTextOf terms r.outcome (closes_outcome served r.outcome) r.text) h.memory h.lawful.text_is

one_refusal_text : (terms : Terms) (head : Option RequestHead) (refusal : Refusal) (a b : List ℕ)
    → IsTextOf terms (Refused head refusal) true a → IsTextOf terms (Refused head refusal) true b → a ≡ b
one_refusal_text terms None refusal a b h k = h ∙ sym k
one_refusal_text terms (Some head) refusal a b h k = h ∙ sym k

interim_of_round : (terms : Terms) (served : ℕ) (r : Round) → RoundWentWell terms served r → IsInterim terms.site r.wire r.interim
interim_of_round terms served r h = elim h.lawful.interim_is [
  | inl is ↦ is
  | inr (lacking, none) ↦ lacked_isnt r.lacked lacking h.memory
]

plain_closes : (terms : Terms) (served : ℕ) (r : Round) → RoundWentWell terms served r → closes served r ≡ closes_outcome served r.outcome
plain_closes terms served r h = ap (λ b. b || closes_outcome served r.outcome) h.memory

-- nor did the dialer fail, with its links
record IsPlain (terms : Terms) (served : ℕ) (r : Round) : Type 0 where
  pub well : RoundWentWell terms served r
  pub dialer : origin_fault r.outcome ≡ 0

-- what a round without faults leaves of the counts
after_counts : (terms : Terms) (served : ℕ) (r : Round) → IsPlain terms served r
    → (r.traces.after.dialer_faults ≡ r.traces.before.dialer_faults) × (r.traces.after.disk_faults ≡ r.traces.before.disk_faults)
after_counts terms served r h = (h.well.lawful.dialer.steady h.dialer, h.well.lawful.disk.steady h.well.disk)

-- so nobody was dialed in vain
dialed_not : {P : Type 0} (o : Outcome) (e : Exchange) (reply : Reply) → origin_fault o ≡ 0 → o ≡ Exchanged e reply → reply ≡ Fails DialFault → P
dialed_not o e reply none is failed =
    let one : origin_fault (Exchanged e (Fails DialFault)) ≡ 0 =
    subst (λ (x : Reply). origin_fault (Exchanged e x) ≡ 0) failed (subst (λ (x : Outcome). origin_fault x ≡ 0) is none) in
    absurd (omega (arith, one))

-- ---- aims

origin_once : (a : Result Aim AimFault) (t s : Target) → a ≡ Ok (Origin t) → a ≡ Ok (Origin s) → t ≡ s
origin_once a t s e d = cc

address_once : (a : Result Aim AimFault) (t s : List ℕ) → a ≡ Ok (ToSite t) → a ≡ Ok (ToSite s) → t ≡ s
address_once a t s e d = cc

origin_isnt_site : {P : Type 0} (a : Result Aim AimFault) (t : Target) (s : List ℕ) → a ≡ Ok (Origin t) → a ≡ Ok (ToSite s) → P
origin_isnt_site a t s e d = let bad : ⊥ = cc in absurd bad

aimed_as : (terms : Terms) (w : List ℕ) (m n : RequestMessage) (aim : Aim) → m ≡ n → IsAsked terms.site w m aim → aim_of terms.site n.head.method n.head.target ≡ Ok aim
aimed_as terms w m n aim same asked = ap (λ (x : RequestMessage). aim_of terms.site x.head.method x.head.target) (sym same) ∙ asked.aimed

exchange_same : (e d : Exchange) → e.message ≡ d.message → e.target ≡ d.target → e ≡ d
exchange_same e d message target = λ i. record { message = message i; target = target i }

request_same : (q p : SiteRequest) → q.message ≡ p.message → q.address ≡ p.address → q ≡ p
request_same q p message address = λ i. record { message = message i; address = address i }

-- ---- two rounds

-- The two rounds are the same, both close or neither, and the same is still to come of what they are given.
record IsSameStep (alone : Bool) (served : ℕ) (r s : Round) (bytes left : List ℕ) (times later : List ℕ) (transcripts further : List Transcript) : Type 0 where
  pub same : IsSameRound r s
  pub shown : IsTrue alone → r.traces.after.shown ≡ s.traces.after.shown
  pub ends : closes served r ≡ closes served s
  pub goes_on : closes served r ≡ false → (bytes ≡ left) × (times ≡ later) × (transcripts ≡ further)

true_isnt_false : {P : Type 0} (b : Bool) → b ≡ true → b ≡ false → P
true_isnt_false b t f = let bad : ⊥ = cc in absurd bad

module _ (laws : Choosing) (terms : Terms) (served : ℕ) (tells : IsTrue terms.tells) (r s : Round)
    (bytes left : List ℕ) (times later : List ℕ) (transcripts further : List Transcript)
    (rp : RoundWentWell terms served r) (sp : RoundWentWell terms served s) (before : r.traces.before ≡ s.traces.before)
    (later_book : Book) (are : AreEntries later_book r.traces.before.shown)
    (dials : (e d : Exchange) (a b : Reply) → r.outcome ≡ Exchanged e a → s.outcome ≡ Exchanged d b → DialedAlike a b)
    (given : r.wire ++ bytes ≡ s.wire ++ left) (timed : r.traces.times ++ times ≡ s.traces.times ++ later)
    (linked : r.traces.transcripts ++ transcripts ≡ s.traces.transcripts ++ further) where
  abbrev Step : Type 0
  Step = IsSameStep terms.alone served r s bytes left times later transcripts further

  before_book : r.traces.before.book ≡ s.traces.before.book
  before_book = ap (λ (v : View). v.book) before

  before_shown : r.traces.before.shown ≡ s.traces.before.shown
  before_shown = ap (λ (v : View). v.shown) before

  idle_book : IsIdle terms r.traces → IsIdle terms s.traces → r.traces.after.book ≡ s.traces.after.book
  idle_book a b = a.untouched.book ∙ before_book ∙ sym b.untouched.book

  idle_shown : IsTrue terms.alone → IsIdle terms r.traces → IsIdle terms s.traces → r.traces.after.shown ≡ s.traces.after.shown
  idle_shown alone a b =
      shown_same terms.alone r.traces.before.shown r.traces.after.shown alone a.untouched.shown ∙ before_shown
      ∙ sym (shown_same terms.alone s.traces.before.shown s.traces.after.shown alone b.untouched.shown)

  ends_by : (o p : Outcome) → r.outcome ≡ o → s.outcome ≡ p → o ≡ p → closes served r ≡ closes served s
  ends_by o p is also same =
      plain_closes terms served r rp ∙ ap (closes_outcome served) (is ∙ same ∙ sym also) ∙ sym (plain_closes terms served s sp)

  -- both were refused for themselves
  both_refused : (head other : Option RequestHead) (a b : Refusal) → r.outcome ≡ Refused head a → s.outcome ≡ Refused other b
      → IsDecided terms r (Refused head a) → IsDecided terms s (Refused other b) → IsTextOf terms (Refused head a) (closes_outcome served (Refused head a)) r.text
      → IsTextOf terms (Refused other b) (closes_outcome served (Refused other b)) s.text → Step
  both_refused head other a b is also h k text too =
      let same : SameRefused head other a b = one_refused laws.cutting terms.site r.wire s.wire bytes left head other a b given h.0 k.0 in
      let outcomes : Refused head a ≡ Refused other b =
      ap (λ (x : Option RequestHead). Refused x a) same.head_is ∙ ap (λ (x : Refusal). Refused other x) same.refusal_is in
      let own = interim_refused terms.site r.wire head a r.interim h.0 (interim_of_round terms served r rp) in
      let its = interim_refused terms.site s.wire other b s.interim k.0 (interim_of_round terms served s sp) in
      record {
        same = record {
          outcome = is ∙ outcomes ∙ sym also;
          interim = own ∙ ap (told_interim terms.site) same.head_is ∙ sym its;
          text = one_refusal_text terms other b r.text s.text (subst (λ (o : Outcome). IsTextOf terms o (closes_outcome served o) r.text) outcomes text) too;
          book = idle_book h.1 k.1;
        };
        shown = λ alone. idle_shown alone h.1 k.1;
        ends = ends_by (Refused head a) (Refused other b) is also outcomes;
        goes_on = λ open_still. true_isnt_false (closes served r) (plain_closes terms served r rp ∙ ap (closes_outcome served) is) open_still;
      }

  interim_as : (m n : RequestMessage) → m ≡ n → IsRequest r.wire m → IsRequest s.wire n → r.interim ≡ s.interim
  interim_as m n same a b =
      interim_asked terms.site r.wire m r.interim a (interim_of_round terms served r rp)
      ∙ ap (λ (x : RequestMessage). interim_of terms.site x.head) same
      ∙ sym (interim_asked terms.site s.wire n s.interim b (interim_of_round terms served s sp))

  -- both went to the same origin
  both_exchanged : (e d : Exchange) (a b : Reply) → r.outcome ≡ Exchanged e a → s.outcome ≡ Exchanged d b
      → IsDecided terms r (Exchanged e a) → IsDecided terms s (Exchanged d b) → IsTextOf terms (Exchanged e a) (closes_outcome served (Exchanged e a)) r.text
      → IsTextOf terms (Exchanged d b) (closes_outcome served (Exchanged d b)) s.text → Step
  both_exchanged e d a b is also h k text too =
      let asked : SameAsked e.message d.message bytes left = one_asked laws.cutting r.wire s.wire bytes left e.message d.message given h.0.is k.0.is in
      let target : e.target ≡ d.target =
      origin_once (aim_of terms.site d.message.head.method d.message.head.target) e.target d.target (aimed_as terms r.wire e.message d.message (Origin e.target) asked.message h.0) k.0.aimed in
      let exchange : e ≡ d = exchange_same e d asked.message target in
      let replied : IsReply terms d a r.traces = subst (λ (x : Exchange). IsReply terms x a r.traces) exchange h.1 in
      let disk : disk_fault (Exchanged d a) ≡ 0 = subst (λ (x : Exchange). disk_fault (Exchanged x a) ≡ 0) exchange (subst (λ (o : Outcome). disk_fault o ≡ 0) is rp.disk) in
      let same : SameReply terms.alone a b r.traces s.traces times later transcripts further =
      one_reply laws.answering terms d r.traces s.traces times later transcripts further tells before_book before_shown timed linked a b
      (dials e d a b is also) disk (subst (λ (o : Outcome). disk_fault o ≡ 0) also sp.disk) replied k.1 in
      let outcomes : Exchanged e a ≡ Exchanged d b = ap (λ (x : Exchange). Exchanged x a) exchange ∙ ap (λ (x : Reply). Exchanged d x) same.reply_is in
      record {
        same = record {
          outcome = is ∙ outcomes ∙ sym also;
          interim = interim_as e.message d.message asked.message h.0.is k.0.is;
          text = text_is_of terms served e a _ text ∙ ap (λ (x : Exchange). reply_text x a (is_cut_off a || closes_after served x.message.head)) exchange
              ∙ ap (λ (x : Reply). reply_text d x (is_cut_off x || closes_after served d.message.head)) same.reply_is ∙ sym (text_is_of terms served d b _ too);
          book = same.book;
        };
        shown = same.shown;
        ends = ends_by (Exchanged e a) (Exchanged d b) is also outcomes;
        goes_on = λ open_still. (asked.behind, same.times_are, same.transcripts_are);
      }

  -- both asked the site for the same
  both_visited : (q p : SiteRequest) (a b : SiteReply) → r.outcome ≡ Visited q a → s.outcome ≡ Visited p b
      → IsDecided terms r (Visited q a) → IsDecided terms s (Visited p b) → IsTextOf terms (Visited q a) (closes_outcome served (Visited q a)) r.text
      → IsTextOf terms (Visited p b) (closes_outcome served (Visited p b)) s.text → Step
  both_visited q p a b is also h k text too =
      let asked : SameAsked q.message p.message bytes left = one_asked laws.cutting r.wire s.wire bytes left q.message p.message given h.0.is k.0.is in
      let address : q.address ≡ p.address =
      address_once (aim_of terms.site p.message.head.method p.message.head.target) q.address p.address (aimed_as terms r.wire q.message p.message (ToSite q.address) asked.message h.0) k.0.aimed in
      let request : q ≡ p = request_same q p asked.message address in
      let own : IsSiteReply terms p a s.traces.before =
      subst (λ (v : View). IsSiteReply terms p a v) before (subst (λ (x : SiteRequest). IsSiteReply terms x a r.traces.before) request h.2) in
      let there : AreEntries later_book s.traces.before.shown = subst (λ (v : View). AreEntries later_book v.shown) before are in
      let disk : disk_fault (Visited p a) ≡ 0 = subst (λ (x : SiteRequest). disk_fault (Visited x a) ≡ 0) request (subst (λ (o : Outcome). disk_fault o ≡ 0) is rp.disk) in
      let reply : a ≡ b = one_visit laws.finding terms p s.traces.before later_book there a b tells disk (subst (λ (o : Outcome). disk_fault o ≡ 0) also sp.disk) own k.2 in
      let outcomes : Visited q a ≡ Visited p b = ap (λ (x : SiteRequest). Visited x a) request ∙ ap (λ (x : SiteReply). Visited p x) reply in
      record {
        same = record {
          outcome = is ∙ outcomes ∙ sym also;
          interim = interim_as q.message p.message asked.message h.0.is k.0.is;
          text = text_once laws.finding.splits terms p b (closes_after served p.message.head) r.text s.text
              (subst (λ (o : Outcome). IsTextOf terms o (closes_outcome served o) r.text) outcomes text) too;
          book = idle_book h.1 k.1;
        };
        shown = λ alone. idle_shown alone h.1 k.1;
        ends = ends_by (Visited q a) (Visited p b) is also outcomes;
        goes_on = λ open_still. (
          asked.behind,
          none_is r.traces.times s.traces.times times later h.1.times k.1.times timed,
          none_is r.traces.transcripts s.traces.transcripts transcripts further h.1.transcripts k.1.transcripts linked,
        );
      }

  -- one goes to an origin, and the other to the site
  elsewhere : {P : Type 0} (m n : RequestMessage) (target : Target) (address : List ℕ) → IsAsked terms.site r.wire m (Origin target)
      → IsAsked terms.site s.wire n (ToSite address) → P
  elsewhere m n target address h k =
      let asked : SameAsked m n bytes left = one_asked laws.cutting r.wire s.wire bytes left m n given h.is k.is in
      origin_isnt_site (aim_of terms.site n.head.method n.head.target) target address (aimed_as terms r.wire m n (Origin target) asked.message h) k.aimed

  elsewhere_too : {P : Type 0} (m n : RequestMessage) (target : Target) (address : List ℕ) → IsAsked terms.site r.wire m (ToSite address)
      → IsAsked terms.site s.wire n (Origin target) → P
  elsewhere_too m n target address h k =
      let asked : SameAsked m n bytes left = one_asked laws.cutting r.wire s.wire bytes left m n given h.is k.is in
      origin_isnt_site (aim_of terms.site n.head.method n.head.target) target address k.aimed (aimed_as terms r.wire m n (ToSite address) asked.message h)

  two_rounds : (o p : Outcome) → r.outcome ≡ o → s.outcome ≡ p → IsDecided terms r o → IsDecided terms s p → IsTextOf terms o (closes_outcome served o) r.text
      → IsTextOf terms p (closes_outcome served p) s.text → Step
  two_rounds Undecided p is also h k text too = lacked_isnt r.lacked h.0 rp.memory
  two_rounds (Refused head a) Undecided is also h k text too = lacked_isnt s.lacked k.0 sp.memory
  two_rounds (Refused head a) (Refused other b) is also h k text too = both_refused head other a b is also h k text too
  two_rounds (Refused head a) (Exchanged d b) is also h k text too =
      asked_isnt_refused laws.cutting terms.site s.wire r.wire left bytes d.message (Origin d.target) head a (sym given) k.0 h.0
  two_rounds (Refused head a) (Visited p b) is also h k text too =
      asked_isnt_refused laws.cutting terms.site s.wire r.wire left bytes p.message (ToSite p.address) head a (sym given) k.0 h.0
  two_rounds (Exchanged e a) Undecided is also h k text too = lacked_isnt s.lacked k.0 sp.memory
  two_rounds (Exchanged e a) (Refused other b) is also h k text too =
      asked_isnt_refused laws.cutting terms.site r.wire s.wire bytes left e.message (Origin e.target) other b given h.0 k.0
  two_rounds (Exchanged e a) (Exchanged d b) is also h k text too = both_exchanged e d a b is also h k text too
  two_rounds (Exchanged e a) (Visited p b) is also h k text too = elsewhere e.message p.message e.target p.address h.0 k.0
  two_rounds (Visited q a) Undecided is also h k text too = lacked_isnt s.lacked k.0 sp.memory
  two_rounds (Visited q a) (Refused other b) is also h k text too =
      asked_isnt_refused laws.cutting terms.site r.wire s.wire bytes left q.message (ToSite q.address) other b given h.0 k.0
  two_rounds (Visited q a) (Exchanged d b) is also h k text too = elsewhere_too q.message d.message d.target q.address h.0 k.0
  two_rounds (Visited q a) (Visited p b) is also h k text too = both_visited q p a b is also h k text too

  same_step : Step
  same_step = two_rounds r.outcome s.outcome refl refl rp.lawful.decided sp.lawful.decided (text_of terms served r rp) (text_of terms served s sp)

-- the transcripts of two rounds say whether somebody could be dialed
alike_round : (terms : Terms) (served : ℕ) (r s : Round) → IsTrue terms.tells → RoundWentWell terms served r → RoundWentWell terms served s
    → r.traces.times ≡ s.traces.times → r.traces.transcripts ≡ s.traces.transcripts → (e d : Exchange) (a b : Reply) → r.outcome ≡ Exchanged e a
    → s.outcome ≡ Exchanged d b → DialedAlike a b
alike_round terms served r s tells rp sp times transcripts e d a b is also =
    dialed_alike terms e d a b r.traces s.traces tells (subst (λ (o : Outcome). disk_fault o ≡ 0) is rp.disk)
    (subst (λ (o : Outcome). disk_fault o ≡ 0) also sp.disk) (subst (λ (o : Outcome). IsDecided terms r o) is rp.lawful.decided).1
    (subst (λ (o : Outcome). IsDecided terms s o) also sp.lawful.decided).1 times transcripts

-- rounds that were decided by the same view
pub round_no_choice : Choosing → RoundsLeaveNoChoice
round_no_choice laws terms served r s later tells rp sp before are bytes times transcripts =
    (same_step laws terms served tells r s [] [] [] [] [] [] rp sp before later are
    (λ e d a b is also. alike_round terms served r s tells rp sp times transcripts e d a b is also) (ap (λ (t : List ℕ). t ++ []) bytes) (ap (λ (t : List ℕ). t ++ []) times)
    (ap (λ (t : List Transcript). t ++ []) transcripts)).same

-- ---- rounds

-- neither want of memory nor a fault
record ArePlain (rounds : List Round) : Type 0 where
  pub whole : lacks rounds ≡ false
  pub dialer : origin_faults rounds ≡ 0
  pub disk : disk_faults rounds ≡ 0

neither : (a b : Bool) → a || b ≡ false → (a ≡ false) × (b ≡ false)
neither true b e = let bad : ⊥ = cc in absurd bad
neither false b e = (refl, e)

plain_first : (terms : Terms) (served : ℕ) (r : Round) (rounds : List Round) → IsRound terms served r → ArePlain (r ∷ rounds) → IsPlain terms served r
plain_first terms served r rounds lawful are = record {
  well = record { lawful = lawful; memory = (neither r.lacked (lacks rounds) are.whole).0; disk = omega (arith, are.disk) };
  dialer = omega (arith, are.dialer);
}

plain_rest : (r : Round) (rounds : List Round) → ArePlain (r ∷ rounds) → ArePlain rounds
plain_rest r rounds are = record {
  whole = (neither r.lacked (lacks rounds) are.whole).1;
  dialer = omega (arith, are.dialer);
  disk = omega (arith, are.disk);
}

-- what is still to come of what both are given, and that nothing that could be answered is left over of it
record IsToCome (terms : Terms) (served : ℕ) (rounds others : List Round) (rest left : List ℕ) : Type 0 where
  pub bytes : course_wire rounds ++ rest ≡ course_wire others ++ left
  pub times : (gains_of rounds).times ≡ (gains_of others).times
  pub transcripts : (gains_of rounds).transcripts ≡ (gains_of others).transcripts
  pub here : (is_closed served rounds ≡ true) ⊎ IsUndecided terms.site rest
  pub there : (is_closed served others ≡ true) ⊎ IsUndecided terms.site left

-- or there is no round more, of either
abbrev GoesOn : Terms → ℕ → List Round → List Round → List ℕ → List ℕ → Type 0
GoesOn terms served rounds others rest left = IsToCome terms served rounds others rest left ⊎ ((rounds ≡ []) × (others ≡ []))

-- a lawful round isn't left over
round_is_decided : {P : Type 0} → Cutting → (terms : Terms) (served : ℕ) (r : Round) (more : List ℕ) (o : Outcome) → RoundWentWell terms served r
    → IsDecided terms r o → IsUndecided terms.site (r.wire ++ more) → P
round_is_decided laws terms served r more Undecided h decided undecided = lacked_isnt r.lacked decided.0 h.memory
round_is_decided laws terms served r more (Refused head a) h decided undecided =
    refused_is_decided laws terms.site r.wire more head a decided.0 undecided
round_is_decided laws terms served r more (Exchanged e a) h decided undecided =
    asked_is_decided laws terms.site r.wire more e.message decided.0.is undecided
round_is_decided laws terms served r more (Visited q a) h decided undecided =
    asked_is_decided laws terms.site r.wire more q.message decided.0.is undecided

-- so no rounds aren't some
none_isnt_more : {P : Type 0} → Cutting → (terms : Terms) (served : ℕ) (r : Round) (rounds : List Round) (rest left : List ℕ) → RoundWentWell terms served r
    → rest ≡ (r.wire ++ course_wire rounds) ++ left → (false ≡ true) ⊎ IsUndecided terms.site rest → P
none_isnt_more laws terms served r rounds rest left h given (inl closed) = let bad : ⊥ = cc in absurd bad
none_isnt_more laws terms served r rounds rest left h given (inr undecided) =
    round_is_decided laws terms served r (course_wire rounds ++ left) r.outcome h h.lawful.decided
    (subst (λ (t : List ℕ). IsUndecided terms.site t) (given ∙ append_assoc r.wire (course_wire rounds) left) undecided)

some_isnt_none : {P : Type 0} (r : Round) (rounds : List Round) → r ∷ rounds ≡ [] → P
some_isnt_none r rounds e = let bad : ⊥ = cc in absurd bad

closed_later : {P : Type 0} (b c : Bool) → b ≡ false → (b || c ≡ true) ⊎ P → (c ≡ true) ⊎ P
closed_later true c e h = let bad : ⊥ = cc in absurd bad
closed_later false c e h = h

-- what is to come behind two rounds that don't close
behind_open : (terms : Terms) (served : ℕ) (r s : Round) (rounds others : List Round) (rest left : List ℕ)
    → IsToCome terms served (r ∷ rounds) (s ∷ others) rest left
    → IsSameStep terms.alone served r s (course_wire rounds ++ rest) (course_wire others ++ left) (gains_of rounds).times (gains_of others).times
    (gains_of rounds).transcripts (gains_of others).transcripts
    → closes served r ≡ false → IsToCome terms (served + 1) rounds others rest left
behind_open terms served r s rounds others rest left to_come step e =
    let goes = step.goes_on e in
    record {
      bytes = goes.0;
      times = goes.1;
      transcripts = goes.2;
      here = closed_later (closes served r) (is_closed (served + 1) rounds) e to_come.here;
      there = closed_later (closes served s) (is_closed (served + 1) others) (sym step.ends ∙ e) to_come.there;
    }

behind_both : (terms : Terms) (served : ℕ) (r s : Round) (rounds others : List Round) (rest left : List ℕ)
    → IsToCome terms served (r ∷ rounds) (s ∷ others) rest left
    → IsSameStep terms.alone served r s (course_wire rounds ++ rest) (course_wire others ++ left) (gains_of rounds).times (gains_of others).times
    (gains_of rounds).transcripts (gains_of others).transcripts
    → (closes served r ≡ true → rounds ≡ []) → (closes served s ≡ true → others ≡ []) → (b : Bool) → closes served r ≡ b
    → GoesOn terms (served + 1) rounds others rest left
behind_both terms served r s rounds others rest left to_come step last ends true e = inr (last e, ends (sym step.ends ∙ e))
behind_both terms served r s rounds others rest left to_come step last ends false e =
    inl (behind_open terms served r s rounds others rest left to_come step e)

-- what two courses come to
record IsOneEnd (terms : Terms) (served : ℕ) (rounds others : List Round) (rest left : List ℕ) (is other : View) : Type 0 where
  pub rounds_are : AreSameRounds rounds others
  pub closed : is_closed served rounds ≡ is_closed served others
  pub rest_is : IsToCome terms served rounds others rest left → is_closed served rounds ≡ false → rest ≡ left
  pub view : is ≡ other

module _ (laws : Choosing) (terms : Terms) (alone : IsTrue terms.alone) (tells : IsTrue terms.tells) where
  all_same : (served : ℕ) (was : View) (rounds others : List Round) (rest left : List ℕ) (is other : View) → ArePlain rounds → ArePlain others
      → IsConsistentView terms was → IsCourse terms served was rounds is → IsCourse terms served was others other
      → GoesOn terms served rounds others rest left → IsOneEnd terms served rounds others rest left is other
  all_same served was [] [] rest left is other plain also con a b goes = record {
    rounds_are = tt;
    closed = refl;
    rest_is = λ to_come none. to_come.bytes;
    view = led_same terms was is alone a ∙ sym (led_same terms was other alone b);
  }
  all_same served was [] (s ∷ others) rest left is other plain also con a (lawful, leads, knows, last, behind) (inl to_come) =
      none_isnt_more laws.cutting terms served s others rest left (plain_first terms served s others lawful also).well to_come.bytes to_come.here
  all_same served was [] (s ∷ others) rest left is other plain also con a b (inr (none, e)) = some_isnt_none s others e
  all_same served was (r ∷ rounds) [] rest left is other plain also con (lawful, leads, knows, last, behind) b (inl to_come) =
      none_isnt_more laws.cutting terms served r rounds left rest (plain_first terms served r rounds lawful plain).well (sym to_come.bytes) to_come.there
  all_same served was (r ∷ rounds) [] rest left is other plain also con a b (inr (e, none)) = some_isnt_none r rounds e
  all_same served was (r ∷ rounds) (s ∷ others) rest left is other plain also con a b (inr (e, d)) = some_isnt_none r rounds e
  all_same served was (r ∷ rounds) (s ∷ others) rest left is other plain also con (lawful, leads, knows, last, behind) (law, led, knew, ends, after)
      (inl to_come) =
      let rp : IsPlain terms served r = plain_first terms served r rounds lawful plain in
      let sp : IsPlain terms served s = plain_first terms served s others law also in
      let here : r.traces.before ≡ was = led_same terms was r.traces.before alone leads in
      let before : r.traces.before ≡ s.traces.before = here ∙ sym (led_same terms was s.traces.before alone led) in
      let consistent : IsConsistentView terms r.traces.before = leads_consistent terms was r.traces.before alone leads con in
      let step : IsSameStep terms.alone served r s (course_wire rounds ++ rest) (course_wire others ++ left) (gains_of rounds).times (gains_of others).times
      (gains_of rounds).transcripts (gains_of others).transcripts =
      same_step laws terms served tells r s (course_wire rounds ++ rest) (course_wire others ++ left) (gains_of rounds).times (gains_of others).times
      (gains_of rounds).transcripts (gains_of others).transcripts rp.well sp.well before r.traces.before.book (consistent alone tells)
      (λ e d a b is it. record { forth = dialed_not r.outcome e a rp.dialer is; back = dialed_not s.outcome d b sp.dialer it })
      (sym (append_assoc r.wire (course_wire rounds) rest) ∙ to_come.bytes ∙ append_assoc s.wire (course_wire others) left) to_come.times to_come.transcripts in
      let mine = after_counts terms served r rp in
      let its = after_counts terms served s sp in
      let view : r.traces.after ≡ s.traces.after =
      view_same r.traces.after s.traces.after step.same.book (step.shown alone)
      (mine.0 ∙ ap (λ (v : View). v.dialer_faults) before ∙ sym its.0) (mine.1 ∙ ap (λ (v : View). v.disk_faults) before ∙ sym its.1) in
      let rest_same : IsOneEnd terms (served + 1) rounds others rest left is other =
      all_same (served + 1) r.traces.after rounds others rest left is other (plain_rest r rounds plain) (plain_rest s others also)
      (leaves_consistent terms r.traces alone (decided_leaves terms r r.outcome lawful.decided) consistent) behind
      (subst (λ (v : View). IsCourse terms (served + 1) v others other) (sym view) after)
      (behind_both terms served r s rounds others rest left to_come step last ends (closes served r) refl) in
      record {
        rounds_are = (step.same, rest_same.rounds_are);
        closed = ap (λ b. b || is_closed (served + 1) rounds) step.ends ∙ ap (λ b. closes served s || b) rest_same.closed;
        rest_is = λ all stays_open.
            let both = neither (closes served r) (is_closed (served + 1) rounds) stays_open in
            rest_same.rest_is (behind_open terms served r s rounds others rest left to_come step both.0) both.1;
        view = rest_same.view;
      }

-- ---- courses

same_texts : (rounds others : List Round) → AreSameRounds rounds others → course_text rounds ≡ course_text others
same_texts [] [] are = refl
same_texts (r ∷ rounds) (s ∷ others) (same, are) =
    ap (λ (t : List ℕ). (t ++ r.text) ++ course_text rounds) same.interim ∙ ap (λ (t : List ℕ). (s.interim ++ t) ++ course_text rounds) same.text
    ∙ ap (λ (t : List ℕ). (s.interim ++ s.text) ++ t) (same_texts rounds others are)
same_texts [] (s ∷ others) are = absurd are
same_texts (r ∷ rounds) [] are = absurd are

none_met : (met before now : ℕ) → CountsMet met before now → now ≡ before → before < 2 ^ 64 - 1 → met ≡ 0
none_met zero before now h same below = refl
none_met (suc met) before now h same below =
    let rose : RoseBy (suc met) before now = h.rose in let bad : ⊥ = omega (arith, rose, same, below) in absurd bad

plain_of : (terms : Terms) (was : View) (c : Course) (is : View) → WentWell terms was c is → ArePlain c.rounds
plain_of terms was c is h =
    let counted = courses_count terms c.served was c.rounds is h.lawful in
    record {
      whole = h.memory;
      dialer = none_met (origin_faults c.rounds) was.dialer_faults is.dialer_faults counted.0 h.dialer h.dialer_counts;
      disk = none_met (disk_faults c.rounds) was.disk_faults is.disk_faults counted.1 h.disk h.disk_counts;
    }

pub no_choice : Choosing → CoursesLeaveNoChoice
no_choice laws terms was a b is other alone tells con well also same =
    let lawful : IsCourse terms a.served was b.rounds other = subst (λ n. IsCourse terms n was b.rounds other) (sym same.served) also.lawful in
    let there : (is_closed a.served b.rounds ≡ true) ⊎ IsUndecided terms.site b.rest =
    subst (λ n. (is_closed n b.rounds ≡ true) ⊎ IsUndecided terms.site b.rest) (sym same.served) also.all in
    let to_come : IsToCome terms a.served a.rounds b.rounds a.rest b.rest =
    record { bytes = same.bytes; times = same.times; transcripts = same.transcripts; here = well.all; there = there } in
    let end : IsOneEnd terms a.served a.rounds b.rounds a.rest b.rest is other =
    all_same laws terms alone tells a.served was a.rounds b.rounds a.rest b.rest is other (plain_of terms was a is well) (plain_of terms was b other also) con
    well.lawful lawful (inl to_come) in
    record {
      rounds = end.rounds_are;
      text = same_texts a.rounds b.rounds end.rounds_are;
      closed = end.closed ∙ ap (λ n. is_closed n b.rounds) same.served;
      rest = end.rest_is to_come;
      book = ap (λ (v : View). v.book) end.view;
      shown = ap (λ (v : View). v.shown) end.view;
    }

-- ---- ends

same_turned : (rounds others : List Round) → AreSameRounds rounds others → AreSameRounds others rounds
same_turned [] [] are = tt
same_turned (r ∷ rounds) (s ∷ others) (same, are) =
    (record { outcome = sym same.outcome; interim = sym same.interim; text = sym same.text; book = sym same.book }, same_turned rounds others are)
same_turned [] (s ∷ others) are = absurd are
same_turned (r ∷ rounds) [] are = absurd are

none_alike : (rounds others : List Round) → AreSameRounds rounds others → others ≡ [] → rounds ≡ []
none_alike [] others are e = refl
none_alike (r ∷ rounds) [] are e = absurd are
none_alike (r ∷ rounds) (s ∷ others) are e = let bad : ⊥ = cc in absurd bad

-- the last of each are the same
last_alike : (rounds others : List Round) → AreSameRounds rounds others → (init : List Round) (last : Round) (head : Option RequestHead) (refusal : Refusal)
    → others ≡ init ++ last ∷ [] → last.outcome ≡ Refused head refusal → EndsRefused refusal rounds
last_alike [] [] are init last head refusal e is = absurd (no_last init last e)
last_alike (r ∷ rounds) (s ∷ others) (same, are) [] last head refusal e is = (
  [],
  r,
  head,
  ap (λ (l : List Round). r ∷ l) (none_alike rounds others are (rest_same s last others [] e)),
  same.outcome ∙ ap (λ (x : Round). x.outcome) (first_same s last others [] e) ∙ is,
)
last_alike (r ∷ rounds) (s ∷ others) (same, are) (x ∷ init) last head refusal e is =
    refused_behind r rounds refusal (last_alike rounds others are init last head refusal (rest_same s x others (init ++ last ∷ []) e) is)
last_alike [] (s ∷ others) are init last head refusal e is = absurd are
last_alike (r ∷ rounds) [] are init last head refusal e is = absurd are

refused_alike : (rounds others : List Round) (refusal : Refusal) → AreSameRounds rounds others → EndsRefused refusal others → EndsRefused refusal rounds
refused_alike rounds others refusal are (init, last, head, e, is) = last_alike rounds others are init last head refusal e is

refused_isnt : {P : Type 0} (rounds : List Round) (refusal : Refusal) → EndsRefused refusal rounds → EndsUnrefused rounds → P
refused_isnt rounds refusal (init, last, head, e, is) none = absurd (none init last head refusal e is)

one_last : (init more : List Round) (last other : Round) → init ++ last ∷ [] ≡ more ++ other ∷ [] → last ≡ other
one_last [] [] last other e = first_same last other [] [] e
one_last [] (y ∷ more) last other e = absurd (no_last more other (rest_same last y [] (more ++ other ∷ []) e))
one_last (x ∷ init) [] last other e = absurd (no_last init last (sym (rest_same x other (init ++ last ∷ []) [] e)))
one_last (x ∷ init) (y ∷ more) last other e = one_last init more last other (rest_same x y (init ++ last ∷ []) (more ++ other ∷ []) e)

refusal_told : (head other : Option RequestHead) (a b : Refusal) → Refused head a ≡ Refused other b → a ≡ b
refusal_told head other a b e = cc

one_refusal : (rounds : List Round) (a b : Refusal) → EndsRefused a rounds → EndsRefused b rounds → a ≡ b
one_refusal rounds a b (init, last, head, e, is) (more, other, also, d, too) =
    refusal_told head also a b (sym is ∙ ap (λ (x : Round). x.outcome) (one_last init more last other (sym e ∙ d)) ∙ too)

nothing_isnt_more : {P : Type 0} (stream : List ℕ) → front_of stream ≡ head_front.Nothing → front_of stream ≡ head_front.More → P
nothing_isnt_more stream e d = let bad : ⊥ = cc in absurd bad

-- nothing has begun, or something has
between_isnt_inside : {P : Type 0} (site : Site) (stream : List ℕ) → IsBetween stream → IsInside site stream → P
between_isnt_inside site stream between (inl (inl (nothing, other))) = absurd (other refl)
between_isnt_inside site stream between (inl (inr more)) = nothing_isnt_more stream between.0 more
between_isnt_inside site stream between (inr awaits) =
    absurd (no_head_is_none awaits.1.skipped awaits.0.text (sym between.0 ∙ awaits.1.front))

interim_once : (site : Site) (stream a b : List ℕ) → IsInterim site stream a → IsInterim site stream b → a ≡ b
interim_once site stream a b (inl has) (inl also) =
    has.2 ∙ ap (interim_of site) (one_head stream has.0 also.0 has.1 also.1) ∙ sym also.2
interim_once site stream a b (inl has) (inr (none, e)) = absurd (none has.0 has.1)
interim_once site stream a b (inr (none, e)) (inl has) = absurd (none has.0 has.1)
interim_once site stream a b (inr (none, e)) (inr (too, d)) = e ∙ sym d

module _ (site : Site) (a b : Course) (is other : View) (then now also : Heard) (same : AreOneCourse a b is other) where
  closed_written : IsClosed a then now → IsClosed b then also → now.written ≡ also.written
  closed_written h k = h.written ∙ ap (λ (t : List ℕ). then.written ++ t) same.text ∙ sym k.written

  left_written : IsLeftOver site a then now → IsLeftOver site b then also → now.written ≡ also.written
  left_written h k =
      let rest : a.rest ≡ b.rest = same.rest h.not_closed in
      let interim : h.interim ≡ k.interim =
      interim_once site b.rest h.interim k.interim (subst (λ (t : List ℕ). IsInterim site t h.interim) rest h.interim_is) k.interim_is in
      h.written ∙ ap (λ (t : List ℕ). then.written ++ (t ++ h.interim)) same.text
      ∙ ap (λ (t : List ℕ). then.written ++ (course_text b.rounds ++ t)) interim ∙ sym k.written

  apart : {P : Type 0} → is_closed a.served a.rounds ≡ true → is_closed b.served b.rounds ≡ false → P
  apart t f = true_isnt_false (is_closed b.served b.rounds) (sym same.closed ∙ t) f

  apart_too : {P : Type 0} → is_closed a.served a.rounds ≡ false → is_closed b.served b.rounds ≡ true → P
  apart_too f t = true_isnt_false (is_closed b.served b.rounds) t (sym same.closed ∙ f)

  done_alike : IsClosed a then now ⊎ ((now.ended ≡ true) × IsBetween a.rest × IsLeftOver site a then now)
      → IsClosed b then also ⊎ ((also.ended ≡ true) × IsBetween b.rest × IsLeftOver site b then also) → now.written ≡ also.written
  done_alike (inl h) (inl k) = closed_written h k
  done_alike (inl h) (inr (met, between, k)) = apart h.closed k.not_closed
  done_alike (inr (met, between, h)) (inl k) = apart_too h.not_closed k.closed
  done_alike (inr (met, between, h)) (inr (ended, too, k)) = left_written h k

  done_isnt_early : {P : Type 0} → IsClosed a then now ⊎ ((now.ended ≡ true) × IsBetween a.rest × IsLeftOver site a then now) → IsInside site b.rest
      → IsLeftOver site b then also → P
  done_isnt_early (inl h) inside k = apart h.closed k.not_closed
  done_isnt_early (inr (met, between, h)) inside k =
      between_isnt_inside site b.rest (subst (λ (t : List ℕ). IsBetween t) (same.rest h.not_closed) between) inside

  early_isnt_done : {P : Type 0} → IsInside site a.rest → IsLeftOver site a then now
      → IsClosed b then also ⊎ ((also.ended ≡ true) × IsBetween b.rest × IsLeftOver site b then also) → P
  early_isnt_done inside h (inl k) = apart_too h.not_closed k.closed
  early_isnt_done inside h (inr (met, between, k)) =
      between_isnt_inside site b.rest between (subst (λ (t : List ℕ). IsInside site t) (same.rest h.not_closed) inside)

  end_alike : (result end : Served) → lacks a.rounds ≡ false → lacks b.rounds ≡ false → now.faults ≡ 0 → also.faults ≡ 0
      → Ends result site a then now → Ends end site b then also → (result ≡ end) × (now.written ≡ also.written)
  end_alike ClientBroke end whole_a whole_b ok fine h k = absurd (h.0 ok)
  end_alike WantOfMemory end whole_a whole_b ok fine h k = true_isnt_false (lacks a.rounds) h.0 whole_a
  end_alike Done ClientBroke whole_a whole_b ok fine h k = absurd (k.0 fine)
  end_alike Done WantOfMemory whole_a whole_b ok fine h k = true_isnt_false (lacks b.rounds) k.0 whole_b
  end_alike Done Done whole_a whole_b ok fine h k = (refl, done_alike h.3 k.3)
  end_alike Done ClientEndedEarly whole_a whole_b ok fine h k = done_isnt_early h.3 k.3 k.4
  end_alike Done (ClientRefused refusal) whole_a whole_b ok fine h k =
      refused_isnt a.rounds refusal (refused_alike a.rounds b.rounds refusal same.rounds k.2) h.2
  end_alike ClientEndedEarly ClientBroke whole_a whole_b ok fine h k = absurd (k.0 fine)
  end_alike ClientEndedEarly WantOfMemory whole_a whole_b ok fine h k = true_isnt_false (lacks b.rounds) k.0 whole_b
  end_alike ClientEndedEarly Done whole_a whole_b ok fine h k = early_isnt_done h.3 h.4 k.3
  end_alike ClientEndedEarly ClientEndedEarly whole_a whole_b ok fine h k = (refl, left_written h.4 k.4)
  end_alike ClientEndedEarly (ClientRefused refusal) whole_a whole_b ok fine h k = apart_too h.4.not_closed k.3.closed
  end_alike (ClientRefused refusal) ClientBroke whole_a whole_b ok fine h k = absurd (k.0 fine)
  end_alike (ClientRefused refusal) WantOfMemory whole_a whole_b ok fine h k = true_isnt_false (lacks b.rounds) k.0 whole_b
  end_alike (ClientRefused refusal) Done whole_a whole_b ok fine h k =
      refused_isnt b.rounds refusal (refused_alike b.rounds a.rounds refusal (same_turned a.rounds b.rounds same.rounds) h.2) k.2
  end_alike (ClientRefused refusal) ClientEndedEarly whole_a whole_b ok fine h k = apart h.3.closed k.4.not_closed
  end_alike (ClientRefused refusal) (ClientRefused why) whole_a whole_b ok fine h k = (
    ap (λ (x : Refusal). ClientRefused x) (one_refusal a.rounds refusal why h.2 (refused_alike a.rounds b.rounds why same.rounds k.2)),
    closed_written h.3 k.3,
  )

pub end_one_way : CoursesEndOneWay
end_one_way site a b is other result end then now also same whole_a whole_b h k ok fine =
    end_alike site a b is other then now also same result end whole_a whole_b ok fine h k
