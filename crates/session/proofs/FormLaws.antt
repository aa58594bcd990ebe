-- Requests to the site that are answered.
use Rattle.std.proofs.Common.{◌≡◌, ◌⊎◌, inl, inr, ℕ, ◌<◌, ◌≤◌, Bool, true, false, IsTrue, List, length, Option, Some, None, sym, ◌∙◌, ap, subst, arith}
use Rattle.std.specs.Prelude.{IsSome, MatchBool, map}
use Rattle.capture.specs.Captures.{captures}
use Rattle.capture.specs.declared.refusal.Refusal.{Refusal}
use Rattle.capture.specs.declared.refusal.Refusal.TheVariants.{Malformed, TargetRefused, BadTime, BadAcceptDatetime, BadQuery, NotAForm, NoCapture, NoSuch, MethodRefused, BodyTooLong, HeadTooLong, ClockRange, ConnectRefused, SecureRefused, CodingRefused, DialFault, OriginFault, OriginEnded, OriginMalformed, OriginTooLong, TooManyInterim, Full, DiskFault, Damaged}
use Rattle.exchange.specs.Refusals.{memory_text}
use Rattle.http_head.specs.Heads.{named_value}
use Rattle.replay_url.specs.Address.{Parts, Numbered, Shipped, Mapped, Queried, Timed, Modified, Open, Outside, parts_at}
use Rattle.replay_url.specs.Forms.{FormAt, NoFormAt, BadTimeAt, IsForm, IsUrl, IsNoUrl}
use Rattle.replay_url.specs.Questions.{Question, ForNearest, ForAll, ForQuery, ForNumber, ForPiece, asked_url, question_of}
use Rattle.replay_url.specs.declared.form.Form.{Form}
use Rattle.replay_url.specs.declared.form.Form.TheVariants.{Memento, Gate, Map, Query, Number, Ship}
use Rattle.cdx_query.specs.Reading.{IsQuery}
use Rattle.cdx_query.specs.declared.query.Query.{Query as CdxQuery}
use Rattle.surt_key.specs.Key.{key_of}
use Rattle.replay_url.proofs.OneForm.{one_form}
use Rattle.session.specs.Complete.{IsFaultless, HasShown, HasWanted, IsAnswer, CapturesThatAreThereAreReplayed}
use Rattle.request_answer.specs.Requests.{closes_after}
use Rattle.request_answer.specs.Rounds.{Outcome, Visited, IsDecided, IsTextOf, closes_outcome, disk_fault}
use Rattle.request_answer.specs.SiteAnswers.{SiteRequest, SiteReply, Refuses, Redirects, Replays, Lists, Finds, Ships, HasNoMore, Asks, IsSoughtTime, IsSiteReply, serves_method}
use Rattle.request_answer.specs.Traces.{Terms, View, Traces, CountsMet}
use Rattle.session.proofs.CompleteLaws.{rose_not, text_by, told_not_untold}

-- ---- an address with a form isn't refused

has_key : {P : Type 0} (text url : List ℕ) → IsUrl text url → IsNoUrl text → P
has_key text url h none = let bad : ⊥ = some_isnt (key_of url) h.keyed (ap key_of h.value ∙ none) in absurd bad where
  some_isnt : (key : Option (List ℕ)) → IsSome key → key ≡ None → ⊥
  some_isnt key s e = cc

pub formed : {P : Type 0} (parts : Parts) (form : Form) → FormAt parts form → NoFormAt parts → P
formed (Numbered text) (Number n) h none = absurd (none n h)
formed (Shipped text) (Ship n) h none = absurd (none n h)
formed (Mapped text) (Map url) h none = has_key text url h none
formed (Queried text) (Query asked) h none = absurd none
formed (Timed digits is_raw text) (Memento time count raw url) h none = has_key text url h.3 none.2
formed (Open text) (Gate url) h none = has_key text url h none
formed (Numbered text) (Ship n) h none = absurd h
formed (Numbered text) (Map url) h none = absurd h
formed (Numbered text) (Query asked) h none = absurd h
formed (Numbered text) (Gate url) h none = absurd h
formed (Numbered text) (Memento t c r url) h none = absurd h
formed (Shipped text) (Number n) h none = absurd h
formed (Shipped text) (Map url) h none = absurd h
formed (Shipped text) (Query asked) h none = absurd h
formed (Shipped text) (Gate url) h none = absurd h
formed (Shipped text) (Memento t c r url) h none = absurd h
formed (Mapped text) (Number n) h none = absurd h
formed (Mapped text) (Ship n) h none = absurd h
formed (Mapped text) (Query asked) h none = absurd h
formed (Mapped text) (Gate url) h none = absurd h
formed (Mapped text) (Memento t c r url) h none = absurd h
formed (Queried text) (Number n) h none = absurd h
formed (Queried text) (Ship n) h none = absurd h
formed (Queried text) (Map url) h none = absurd h
formed (Queried text) (Gate url) h none = absurd h
formed (Queried text) (Memento t c r url) h none = absurd h
formed (Timed digits is_raw text) (Number n) h none = absurd h
formed (Timed digits is_raw text) (Ship n) h none = absurd h
formed (Timed digits is_raw text) (Map url) h none = absurd h
formed (Timed digits is_raw text) (Query asked) h none = absurd h
formed (Timed digits is_raw text) (Gate url) h none = absurd h
formed (Open text) (Number n) h none = absurd h
formed (Open text) (Ship n) h none = absurd h
formed (Open text) (Map url) h none = absurd h
formed (Open text) (Query asked) h none = absurd h
formed (Open text) (Memento t c r url) h none = absurd h
formed Modified form h none = absurd h
formed Outside form h none = absurd h

pub timed : {P : Type 0} (parts : Parts) (form : Form) → FormAt parts form → BadTimeAt parts → P
timed (Timed digits is_raw text) (Memento time count raw url) h bad = absurd (bad time h.0.named)
timed (Timed digits is_raw text) (Number n) h bad = absurd h
timed (Timed digits is_raw text) (Ship n) h bad = absurd h
timed (Timed digits is_raw text) (Map url) h bad = absurd h
timed (Timed digits is_raw text) (Query asked) h bad = absurd h
timed (Timed digits is_raw text) (Gate url) h bad = absurd h
timed (Numbered text) form h bad = absurd bad
timed (Shipped text) form h bad = absurd bad
timed (Mapped text) form h bad = absurd bad
timed (Queried text) form h bad = absurd bad
timed (Open text) form h bad = absurd bad
timed Modified form h bad = absurd bad
timed Outside form h bad = absurd bad

-- ---- no refusal is lawful

pub unserved : {P : Type 0} (b : Bool) → b ≡ true → b ≡ false → P
unserved b t f = let bad : ⊥ = cc in absurd bad

-- a gate whose field names a time
pub dated : {P : Type 0} (q : SiteRequest) (form : Form) (url : List ℕ) → Asks q form → IsForm q.address (Gate url)
    → ((time : ℕ) → IsSoughtTime None (map named_value q.message.head.fields) time → ⊥) → P
dated q form url asks gate none =
    let same : form ≡ Gate url = one_form (parts_at q.address) form (Gate url) asks.is gate in
    let is : (time : ℕ) × IsSoughtTime None (map named_value q.message.head.fields) time = asks.dated url same in
    absurd (none is.0 is.1)

numbered : {P : Type 0} (q : SiteRequest) (view : View) (form : Form) (number : ℕ) → Asks q form → HasWanted view (question_of form)
    → (Asks q (Number number) × (length (captures view.book) ≤ number)) ⊎ (Asks q (Ship number) × (length (captures view.book) < number)) → P
numbered q view form number asks wanted (inl (other, past)) =
    let same : form ≡ Number number = one_form (parts_at q.address) form (Number number) asks.is other.is in
    let below : number < length (captures view.book) = subst (λ (f : Form). HasWanted view (question_of f)) same wanted in
    let bad : ⊥ = omega (arith, below, past) in
    absurd bad
numbered q view form number asks wanted (inr (other, past)) =
    let same : form ≡ Ship number = one_form (parts_at q.address) form (Ship number) asks.is other.is in
    let below : number ≤ length (captures view.book) = subst (λ (f : Form). HasWanted view (question_of f)) same wanted in
    let bad : ⊥ = omega (arith, below, past) in
    absurd bad

-- a text that is a query
queried : {P : Type 0} (q : SiteRequest) (view : View) (form : Form) (text : List ℕ) → Asks q form → HasWanted view (question_of form) → Asks q (Query text)
    → ((query : CdxQuery) → ¬ (IsQuery text query)) → P
queried q view form text asks wanted other none =
    let same : form ≡ Query text = one_form (parts_at q.address) form (Query text) asks.is other.is in
    let is : HasWanted view (ForQuery text) = subst (λ (f : Form). HasWanted view (question_of f)) same wanted in
    absurd (none is.0 is.1)

found : {P : Type 0} (q : SiteRequest) (view : View) (form : Form) → Asks q form → HasWanted view (question_of form) → (terms : Terms) → IsSiteReply terms q (Refuses NoCapture) view → P
found q view form asks wanted terms (other, also, wished, asked, key, keyed, none) =
    let same : form ≡ other = one_form (parts_at q.address) form other asks.is also.is in
    by_question (question_of other) (subst (λ (f : Form). HasWanted view (question_of f)) same wanted) asked where
      shown : {P : Type 0} (url : List ℕ) → HasShown view url → Some url ≡ Some wished → P
      shown url there e = let url_is : url ≡ wished = cc in absurd (there key (subst (λ (u : List ℕ). key_of u ≡ Some key) (sym url_is) keyed) none)

      by_question : {P : Type 0} (asked : Question) → HasWanted view asked → asked_url asked ≡ Some wished → P
      by_question (ForNearest sought) there e = shown sought.url there e
      by_question (ForAll url) there e = shown url there e
      by_question (ForQuery text) there e = let bad : ⊥ = cc in absurd bad
      by_question (ForNumber number) there e = let bad : ⊥ = cc in absurd bad
      by_question (ForPiece number) there e = let bad : ⊥ = cc in absurd bad

no_rejection : {P : Type 0} (terms : Terms) (q : SiteRequest) (refusal : Refusal) (traces : Traces) (form : Form) → IsTrue terms.tells → IsFaultless traces
    → CountsMet (disk_fault (Visited q (Refuses refusal))) traces.before.disk_faults traces.after.disk_faults
    → Asks q form → HasWanted traces.before (question_of form) → IsSiteReply terms q (Refuses refusal) traces.before → P
no_rejection terms q MethodRefused traces form tells whole disk asks wanted h = unserved (serves_method q.message.head.method) asks.served h
no_rejection terms q NotAForm traces form tells whole disk asks wanted h = formed (parts_at q.address) form asks.is h.1
no_rejection terms q BadTime traces form tells whole disk asks wanted h = timed (parts_at q.address) form asks.is h.1
no_rejection terms q BadAcceptDatetime traces form tells whole disk asks wanted h = dated q form h.1.0 asks h.1.1 h.2
no_rejection terms q BadQuery traces form tells whole disk asks wanted h = queried q traces.before form h.0 asks wanted h.1 h.2
no_rejection terms q (NoSuch number count) traces form tells whole disk asks wanted h = numbered q traces.before form number asks wanted h.0
no_rejection terms q NoCapture traces form tells whole disk asks wanted h = found q traces.before form asks wanted terms h
no_rejection terms q DiskFault traces form tells whole disk asks wanted h = rose_not _ _ disk.rose whole.disk whole.disk_counts
no_rejection terms q (Damaged at kept lost) traces form tells whole disk asks wanted h = told_not_untold terms.tells tells h.1.untold
no_rejection terms q (ClockRange now) traces form tells whole disk asks wanted h = absurd h
no_rejection terms q DialFault traces form tells whole disk asks wanted h = absurd h
no_rejection terms q OriginFault traces form tells whole disk asks wanted h = absurd h
no_rejection terms q OriginEnded traces form tells whole disk asks wanted h = absurd h
no_rejection terms q OriginMalformed traces form tells whole disk asks wanted h = absurd h
no_rejection terms q OriginTooLong traces form tells whole disk asks wanted h = absurd h
no_rejection terms q TooManyInterim traces form tells whole disk asks wanted h = absurd h
no_rejection terms q (Full count limit) traces form tells whole disk asks wanted h = absurd h
no_rejection terms q Malformed traces form tells whole disk asks wanted h = absurd h
no_rejection terms q TargetRefused traces form tells whole disk asks wanted h = absurd h
no_rejection terms q BodyTooLong traces form tells whole disk asks wanted h = absurd h
no_rejection terms q HeadTooLong traces form tells whole disk asks wanted h = absurd h
no_rejection terms q ConnectRefused traces form tells whole disk asks wanted h = absurd h
no_rejection terms q SecureRefused traces form tells whole disk asks wanted h = absurd h
no_rejection terms q CodingRefused traces form tells whole disk asks wanted h = absurd h

answers : (terms : Terms) (q : SiteRequest) (reply : SiteReply) (traces : Traces) (form : Form) → IsTrue terms.tells → IsFaultless traces
    → CountsMet (disk_fault (Visited q reply)) traces.before.disk_faults traces.after.disk_faults
    → Asks q form → HasWanted traces.before (question_of form) → IsSiteReply terms q reply traces.before → IsAnswer reply
answers terms q (Refuses refusal) traces form tells whole disk asks wanted h =
    no_rejection terms q refusal traces form tells whole disk asks wanted h
answers terms q (Redirects other entry) traces form tells whole disk asks wanted h = tt
answers terms q (Replays other brought) traces form tells whole disk asks wanted h = tt
answers terms q (Lists url entries) traces form tells whole disk asks wanted h = tt
answers terms q (Finds query found) traces form tells whole disk asks wanted h = tt
answers terms q (Ships number piece) traces form tells whole disk asks wanted h = tt
answers terms q (HasNoMore number) traces form tells whole disk asks wanted h = tt

pub replayed : CapturesThatAreThereAreReplayed
replayed terms served r q reply form lawful is tells whole asks wanted = record {
  answer = answers terms q reply r.traces form tells whole
      (subst (λ (o : Outcome). CountsMet (disk_fault o) r.traces.before.disk_faults r.traces.after.disk_faults) is lawful.disk)
      asks wanted (subst (λ (o : Outcome). IsDecided terms r o) is lawful.decided).2;
  text_is = λ sufficed. text_by r.lacked (r.text ≡ memory_text) (IsTextOf terms (Visited q reply) (closes_after served q.message.head) r.text) sufficed
      (subst (λ (o : Outcome). MatchBool r.lacked (r.text ≡ memory_text) (IsTextOf terms o (closes_outcome served o) r.text)) is lawful.text_is);
}
