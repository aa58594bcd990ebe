-- The same bytes are cut into requests in one way, and are refused in one way.
use Rattle.std.proofs.Common.{◌≡◌, ◌⊎◌, inl, inr, ℕ, ◌+◌, Bool, true, false, ◌||◌, ◌==◌, List, [], ◌∷◌, ◌++◌, length, take, drop, Option, Some, None, Result, Ok, Err, refl, sym, ◌∙◌, ap, subst, arith, length-append, if◌then◌else◌}
use Rattle.std.specs.Prelude.{map}
use Rattle.std.proofs.Math.Seq.{drop-append_seam, take-append_seam}
use Rattle.std.proofs.lemmas.List.{append_cancel_left, length-drop}
use Rattle.httparse.proofs.GrammarLemmas.{request_unique}
use Rattle.httparse.specs.Grammar.{RequestHead as GrammarHead, ReadsRequest}
use Rattle.capture.specs.BodyLaws.{WiresHaveOnePayload}
use Rattle.capture.specs.Fields.{NamedValue, named_values, has_field, values_of, members_of}
use Rattle.capture.specs.First.{Requests, Message, Refused as RefusedFirst, BodyNeeded, IsFirst, NeedsHead, HasNoHead, HoldsBody, HeadTells, RefusesAtHead, RefusesBehindHead}
use Rattle.capture.specs.First as first
use Rattle.capture.specs.Framing.{transfer_encoding, content_length, is_chunked, length_of_members, request_framing}
use Rattle.capture.specs.Head.{front_of}
use Rattle.capture.specs.Head as head_front
use Rattle.capture.specs.Message.{IsRequestHeadText}
use Rattle.capture.specs.Payload.{IsPayload}
use Rattle.capture.specs.declared.framing.Framing.{Framing}
use Rattle.capture.specs.declared.framing.Framing.TheVariants.{Empty, Length, Chunked, ToEnd}
use Rattle.capture.specs.declared.framing.FramingFault.{FramingFault}
use Rattle.capture.specs.declared.framing.FramingFault.TheVariants as framing_fault
use Rattle.capture.specs.declared.framing.MessageFault.{MessageFault}
use Rattle.capture.specs.declared.refusal.Refusal.{Refusal}
use Rattle.capture.specs.declared.refusal.Refusal.TheVariants.{ConnectRefused, SecureRefused, TargetRefused}
use Rattle.capture.specs.declared.site.Site.{Site}
use Rattle.exchange.specs.Aim.{aim_of}
use Rattle.exchange.specs.declared.aim.Aim.{Aim}
use Rattle.exchange.specs.declared.aim.AimFault.{AimFault}
use Rattle.exchange.specs.declared.aim.AimFault.TheVariants as aim_fault
use Rattle.http_head.specs.FrontLaws.{HeadsStay, TooLongStays}
use Rattle.http_head.specs.Heads.{minor_of, named_value}
use Rattle.http_head.specs.declared.head.Field.{Field}
use Rattle.http_head.specs.declared.head.RequestHead.{RequestHead}
use Rattle.http_head.specs.declared.head.RequestMessage.{RequestMessage}
use Rattle.http_head.specs.declared.head.Version.{Version}
use Rattle.http_head.specs.declared.head.Version.TheVariants.{Http10, Http11}
use Rattle.http_wire.proofs.FrontParts.{parts_of_head}
use Rattle.http_wire.proofs.OneHead.{no_head_is_none, no_head_in_more, one_skipped, one_told, same_ok}
use Rattle.http_wire.specs.Decisions.{FirstsAreOne, MessagesStay, RefusalsStay}
use Rattle.http_wire.specs.Heads.{BeginsWithRequest}
use Rattle.http_wire.specs.Messages.{IsRequest}
use Rattle.request_answer.specs.Requests.{IsAsked, IsInterim, IsRefused, IsUndecided, interim_of, refusal_of}
use Rattle.session.proofs.AskedLaws.{refused_first, somewhere, stands_first}
use Rattle.session.proofs.ReadLaws.{aims_nowhere, long_isnt_head, one_text}
use Rattle.session.specs.steps.Reads.{IsAimed, IsAimedNowhere}

-- what lower crates promise of a client's stream
pub record Cutting : Type 0 where
  pub heads : HeadsStay
  pub too_long : TooLongStays
  pub messages : MessagesStay
  pub refusals : RefusalsStay
  pub firsts : FirstsAreOne
  pub payloads : WiresHaveOnePayload

-- ---- heads

zero_isnt_one : {P : Type 0} → ◌≡◌ {A = ℕ} 0 1 → P
zero_isnt_one e = absurd (omega (arith, e))

pub version_once : (v w : Version) → minor_of v ≡ minor_of w → v ≡ w
version_once Http10 Http10 e = refl
version_once Http10 Http11 e = zero_isnt_one e
version_once Http11 Http10 e = zero_isnt_one (sym e)
version_once Http11 Http11 e = refl

first_same : {A : Type 0} (x y : A) (xs ys : List A) → x ∷ xs ≡ y ∷ ys → x ≡ y
first_same x y xs ys e = cc

rest_same : {A : Type 0} (x y : A) (xs ys : List A) → x ∷ xs ≡ y ∷ ys → xs ≡ ys
rest_same x y xs ys e = cc

none_isnt_some : {A P : Type 0} (x : A) (xs : List A) → [] ≡ x ∷ xs → P
none_isnt_some x xs e = let bad : ⊥ = cc in absurd bad

one_more_field : (f g : Field) (fields others : List Field) → f.name ≡ g.name → f.value ≡ g.value → fields ≡ others → f ∷ fields ≡ g ∷ others
one_more_field f g fields others name value same = λ i. (record { name = name i; value = value i }) ∷ same i

pub fields_once : (a b : List Field) → map named_value a ≡ map named_value b → a ≡ b
fields_once [] [] e = refl
fields_once [] (g ∷ others) e = none_isnt_some (named_value g) (map named_value others) e
fields_once (f ∷ fields) [] e = none_isnt_some (named_value f) (map named_value fields) (sym e)
fields_once (f ∷ fields) (g ∷ others) e =
    let same = first_same (named_value f) (named_value g) (map named_value fields) (map named_value others) e in
    one_more_field f g fields others (ap (λ (n : NamedValue). n.0) same) (ap (λ (n : NamedValue). n.1) same)
    (fields_once fields others (rest_same (named_value f) (named_value g) (map named_value fields) (map named_value others) e))

-- a stream begins with one head
pub one_head : (stream : List ℕ) (a b : RequestHead) → BeginsWithRequest stream a → BeginsWithRequest stream b → a ≡ b
one_head stream a b h k =
    let text : a.text ≡ b.text = one_text stream a.text b.text h.skipped k.skipped h.front k.front in
    let own = h.holds.1 in
    let reads : ReadsRequest b.text h.holds.0 [] = subst (λ (t : List ℕ). ReadsRequest t h.holds.0 []) text own.reads.reads in
    let parse = (request_unique b.text h.holds.0 k.holds.0 [] [] reads k.holds.1.reads.reads).0 in
    let method : a.method ≡ b.method = own.method ∙ ap (λ (g : GrammarHead). g.method) parse ∙ sym k.holds.1.method in
    let target : a.target ≡ b.target = own.target ∙ ap (λ (g : GrammarHead). g.target) parse ∙ sym k.holds.1.target in
    let version : a.version ≡ b.version =
    version_once a.version b.version (own.version ∙ ap (λ (g : GrammarHead). g.minor) parse ∙ sym k.holds.1.version) in
    let fields : a.fields ≡ b.fields =
    fields_once a.fields b.fields (own.fields ∙ ap (λ (g : GrammarHead). named_values g.fields) parse ∙ sym k.holds.1.fields) in
    λ i. record { method = method i; target = target i; version = version i; fields = fields i; text = text i }

-- the head of a request begins its bytes
begins_of : (wire : List ℕ) (message : RequestMessage) → IsRequest wire message → BeginsWithRequest wire message.head
begins_of wire message is = record { skipped = is.skipped; front = is.front; holds = is.holds }

begins_stays : HeadsStay → (wire more : List ℕ) (head : RequestHead) → BeginsWithRequest wire head → BeginsWithRequest (wire ++ more) head
begins_stays stay wire more head h = record { skipped = h.skipped; front = stay wire more h.skipped head.text h.front; holds = h.holds }

-- ---- messages

-- a text is one request
one_message : WiresHaveOnePayload → (wire : List ℕ) (m n : RequestMessage) → IsRequest wire m → IsRequest wire n → m ≡ n
one_message one wire m n a b =
    let head : m.head ≡ n.head = one_head wire m.head n.head (begins_of wire m a) (begins_of wire n b) in
    let text : m.head.text ≡ n.head.text = ap (λ (h : RequestHead). h.text) head in
    let skipped : a.skipped ≡ b.skipped = one_skipped a.skipped b.skipped m.head.text n.head.text (sym a.front ∙ b.front) in
    let behind : a.wire ≡ b.wire =
    append_cancel_left m.head.text a.wire b.wire
    (sym a.composed ∙ ap (λ k. drop k wire) skipped ∙ b.composed ∙ ap (λ (t : List ℕ). t ++ b.wire) (sym text)) in
    let framing : m.framing ≡ n.framing =
    same_ok m.framing n.framing
    (one_told Requests m.head.text (Ok m.framing) (Ok n.framing) a.tells (subst (λ (t : List ℕ). HeadTells Requests t (Ok n.framing)) (sym text) b.tells)) in
    let paid : IsPayload false m.framing a.wire n.payload =
    subst (λ (f : Framing). IsPayload false f a.wire n.payload) (sym framing)
    (subst (λ (w : List ℕ). IsPayload false n.framing w n.payload) (sym behind) b.payload) in
    let payload : m.payload ≡ n.payload = one false m.framing a.wire m.payload n.payload a.payload paid in
    λ i. record { head = head i; framing = framing i; payload = payload i }

-- no request has a body up to the end
by_tests : (coding refused told chunked : Bool) (found : Result ℕ FramingFault)
    → (if coding then (if refused then Err framing_fault.Malformed else (if chunked then Ok Chunked else Err framing_fault.CodingRefused))
    else (if told then (elim found [ Ok n ↦ Ok (Length n) | Err e ↦ Err e ]) else Ok Empty)) ≡ Ok ToEnd → ⊥
by_tests true true told chunked found e = cc
by_tests true false told true found e = cc
by_tests true false told false found e = cc
by_tests false refused true chunked (Ok n) e = cc
by_tests false refused true chunked (Err fault) e = cc
by_tests false refused false chunked found e = cc

ends_itself : (h : GrammarHead) → request_framing h ≡ Ok ToEnd → ⊥
ends_itself h e =
    let fields = named_values h.fields in
    by_tests (has_field transfer_encoding fields) (h.minor == 0 || has_field content_length fields) (has_field content_length fields)
    (is_chunked (values_of transfer_encoding fields)) (length_of_members (members_of content_length fields)) e

goes_on : (framing : Framing) (text wire : List ℕ) (used : ℕ) → HeadTells Requests text (Ok framing) → HoldsBody framing true wire used
    → HoldsBody framing false wire used
goes_on Empty text wire used tells h = h
goes_on (Length n) text wire used tells h = h
goes_on Chunked text wire used tells h = h
goes_on ToEnd text wire used tells h = absurd (ends_itself tells.0 tells.2)

-- a request stands first in its bytes, however they go on
asked_first : Cutting → (wire more : List ℕ) (message : RequestMessage) (ended : Bool) → IsRequest wire message
    → IsFirst Requests ended (wire ++ more) (Message (length wire))
unfolding stands_first
asked_first laws wire more message ended is =
    let whole = stands_first wire message is in
    let parts = parts_of_head wire is.skipped message.head.text is.front in
    let behind : length wire ≡ is.skipped + length message.head.text + length is.wire =
    omega (arith, parts.fits, length-drop is.skipped wire, ap (λ (t : List ℕ). length t) is.composed, length-append message.head.text is.wire) in
    laws.messages Requests ended wire more (length wire) (record {
      framing = whole.framing;
      end = whole.end;
      rest = whole.rest;
      body_len = whole.body_len;
      head = whole.head;
      body = goes_on whole.framing message.head.text whole.rest whole.body_len is.tells whole.body;
      used_is = behind ∙ whole.used_is;
    })

used_same : (n m : ℕ) → Message n ≡ Message m → n ≡ m
used_same n m e = cc

-- two requests that begin the same bytes
pub record SameAsked (m n : RequestMessage) (x y : List ℕ) : Type 0 where
  pub message : m ≡ n
  pub behind : x ≡ y

pub one_asked : Cutting → (w v x y : List ℕ) (m n : RequestMessage) → w ++ x ≡ v ++ y → IsRequest w m → IsRequest v n → SameAsked m n x y
one_asked laws w v x y m n e a b =
    let other : IsFirst Requests true (w ++ x) (Message (length v)) =
    subst (λ (t : List ℕ). IsFirst Requests true t (Message (length v))) (sym e) (asked_first laws v y n true b) in
    let long : length w ≡ length v = used_same (length w) (length v)
    (laws.firsts Requests true (w ++ x) (Message (length w)) (Message (length v)) (asked_first laws w x m true a) other) in
    let wire : w ≡ v = sym (take-append_seam w x) ∙ ap (λ k. take k (w ++ x)) long ∙ ap (λ (t : List ℕ). take (length v) t) e ∙ take-append_seam v y in
    record {
      message = one_message laws.payloads w m n a (subst (λ (t : List ℕ). IsRequest t n) (sym wire) b);
      behind = sym (drop-append_seam w x) ∙ ap (λ k. drop k (w ++ x)) long ∙ ap (λ (t : List ℕ). drop (length v) t) e ∙ drop-append_seam v y;
    }

-- ---- refusals

-- where a head begins the bytes, a fault is told at the head or behind it
at_or_behind : (stream : List ℕ) (head : RequestHead) (fault : MessageFault) → BeginsWithRequest stream head
    → first.IsRefused Requests stream fault → RefusesAtHead Requests stream fault ⊎ RefusesBehindHead Requests stream fault
at_or_behind stream head fault begins (inl (long, e)) = long_isnt_head stream head.text begins.skipped long begins.front
at_or_behind stream head fault begins (inr (inl (none, e))) =
    let same : head.text ≡ none.text = one_text stream head.text none.text begins.skipped none.skipped begins.front none.front in
    absurd (none.none begins.holds.0 (subst (λ (t : List ℕ). IsRequestHeadText t begins.holds.0) same begins.holds.1.reads))
at_or_behind stream head fault begins (inr (inr (inl at))) = inl at
at_or_behind stream head fault begins (inr (inr (inr behind))) = inr behind

-- what is refused stays refused, however it goes on
pub refused_stays : Cutting → (site : Site) (wire more : List ℕ) (head : Option RequestHead) (refusal : Refusal) → IsRefused site wire head refusal
    → IsRefused site (wire ++ more) head refusal
refused_stays laws site wire more None refusal (inl (long, e)) = inl (laws.too_long wire more long, e)
refused_stays laws site wire more None refusal (inr (none, e)) =
    inr (record { skipped = none.skipped; text = none.text; front = laws.heads wire more none.skipped none.text none.front; none = none.none }, e)
refused_stays laws site wire more (Some head) refusal (begins, inl nowhere) = (begins_stays laws.heads wire more head begins, inl nowhere)
refused_stays laws site wire more (Some head) refusal (begins, inr wrong) =
    let stays = begins_stays laws.heads wire more head begins in (
      stays,
      inr (
        wrong.0,
        wrong.1,
        at_or_behind (wire ++ more) head wrong.0 stays (laws.refusals Requests false wire more wrong.0 (refused_first wire wrong.0 wrong.2)),
        wrong.3,
      ),
    )

-- where a head goes, a refusal follows from that
abbrev GoesNowhere : Result Aim AimFault → Refusal → Type 0
GoesNowhere aim refusal =
    ((aim ≡ Err aim_fault.ConnectRefused) × (refusal ≡ ConnectRefused))
    ⊎ ((aim ≡ Err aim_fault.SecureRefused) × (refusal ≡ SecureRefused))
    ⊎ ((aim ≡ Err aim_fault.TargetRefused) × (refusal ≡ TargetRefused))

aim_refusal_once : (aim : Result Aim AimFault) (a b : Refusal) → GoesNowhere aim a → GoesNowhere aim b → a ≡ b
aim_refusal_once aim a b (inl (is, e)) (inl (also, d)) = e ∙ sym d
aim_refusal_once aim a b (inr (inl (is, e))) (inr (inl (also, d))) = e ∙ sym d
aim_refusal_once aim a b (inr (inr (is, e))) (inr (inr (also, d))) = e ∙ sym d
aim_refusal_once aim a b (inl (is, e)) (inr (inl (also, d))) = let bad : ⊥ = cc in absurd bad
aim_refusal_once aim a b (inl (is, e)) (inr (inr (also, d))) = let bad : ⊥ = cc in absurd bad
aim_refusal_once aim a b (inr (inl (is, e))) (inl (also, d)) = let bad : ⊥ = cc in absurd bad
aim_refusal_once aim a b (inr (inl (is, e))) (inr (inr (also, d))) = let bad : ⊥ = cc in absurd bad
aim_refusal_once aim a b (inr (inr (is, e))) (inl (also, d)) = let bad : ⊥ = cc in absurd bad
aim_refusal_once aim a b (inr (inr (is, e))) (inr (inl (also, d))) = let bad : ⊥ = cc in absurd bad

fault_once : (f g : MessageFault) → RefusedFirst f ≡ RefusedFirst g → f ≡ g
fault_once f g e = cc

none_told : {P : Type 0} (stream : List ℕ) (head : RequestHead) → BeginsWithRequest stream head → HasNoHead Requests stream → P
none_told stream head begins none =
    let same : head.text ≡ none.text = one_text stream head.text none.text begins.skipped none.skipped begins.front none.front in
    absurd (none.none begins.holds.0 (subst (λ (t : List ℕ). IsRequestHeadText t begins.holds.0) same begins.holds.1.reads))

-- it asks to go somewhere, and it or the body behind it is no message
abbrev IsNoMessage : Site → List ℕ → RequestHead → Refusal → Type 0
IsNoMessage site wire head refusal =
    (fault : MessageFault) × IsAimed site head × (RefusesAtHead Requests wire fault ⊎ RefusesBehindHead Requests wire fault) × (refusal ≡ refusal_of fault)

wrong_once : FirstsAreOne → (site : Site) (stream : List ℕ) (head : RequestHead) (a b : Refusal) → IsNoMessage site stream head a
    → IsNoMessage site stream head b → a ≡ b
wrong_once one site stream head a b h k =
    let same : h.0 ≡ k.0 = fault_once h.0 k.0
    (one Requests true stream (RefusedFirst h.0) (RefusedFirst k.0) (refused_first stream h.0 h.2) (refused_first stream k.0 k.2)) in
    h.3 ∙ ap refusal_of same ∙ sym k.3

behind_head_once : FirstsAreOne → (site : Site) (stream : List ℕ) (head : RequestHead) (a b : Refusal)
    → IsAimedNowhere site head a ⊎ IsNoMessage site stream head a → IsAimedNowhere site head b ⊎ IsNoMessage site stream head b → a ≡ b
behind_head_once one site stream head a b (inl h) (inl k) = aim_refusal_once (aim_of site head.method head.target) a b h k
behind_head_once one site stream head a b (inl h) (inr k) =
    let off = aims_nowhere site head a h in
    somewhere (aim_of site head.method head.target) (aim_of site head.method head.target) k.1.0 off.0 k.1.1 off.1 refl
behind_head_once one site stream head a b (inr h) (inl k) =
    let off = aims_nowhere site head b k in
    somewhere (aim_of site head.method head.target) (aim_of site head.method head.target) h.1.0 off.0 h.1.1 off.1 refl
behind_head_once one site stream head a b (inr h) (inr k) = wrong_once one site stream head a b h k

-- with which head, and why
pub record SameRefused (head other : Option RequestHead) (a b : Refusal) : Type 0 where
  pub head_is : head ≡ other
  pub refusal_is : a ≡ b

refused_once : FirstsAreOne → (site : Site) (stream : List ℕ) (head other : Option RequestHead) (a b : Refusal) → IsRefused site stream head a
    → IsRefused site stream other b → SameRefused head other a b
refused_once one site stream None None a b (inl (long, e)) (inl (too, d)) = record { head_is = refl; refusal_is = e ∙ sym d }
refused_once one site stream None None a b (inl (long, e)) (inr (none, d)) = long_isnt_head stream none.text none.skipped long none.front
refused_once one site stream None None a b (inr (none, e)) (inl (long, d)) = long_isnt_head stream none.text none.skipped long none.front
refused_once one site stream None None a b (inr (none, e)) (inr (too, d)) = record { head_is = refl; refusal_is = e ∙ sym d }
refused_once one site stream None (Some head) a b (inl (long, e)) (begins, why) = long_isnt_head stream head.text begins.skipped long begins.front
refused_once one site stream None (Some head) a b (inr (none, e)) (begins, why) = none_told stream head begins none
refused_once one site stream (Some head) None a b (begins, why) (inl (long, e)) = long_isnt_head stream head.text begins.skipped long begins.front
refused_once one site stream (Some head) None a b (begins, why) (inr (none, e)) = none_told stream head begins none
refused_once one site stream (Some head) (Some other) a b (begins, why) (also, reason) =
    let same : head ≡ other = one_head stream head other begins also in
    record {
      head_is = ap (λ (h : RequestHead). Some h) same;
      refusal_is = behind_head_once one site stream other a b
          (subst (λ (h : RequestHead). IsAimedNowhere site h a ⊎ IsNoMessage site stream h a) same why) reason;
    }

-- bytes that go on as others do are refused as those are
pub one_refused : Cutting → (site : Site) (w v x y : List ℕ) (head other : Option RequestHead) (a b : Refusal) → w ++ x ≡ v ++ y
    → IsRefused site w head a → IsRefused site v other b → SameRefused head other a b
one_refused laws site w v x y head other a b e h k =
    refused_once laws.firsts site (w ++ x) head other a b (refused_stays laws site w x head a h)
    (subst (λ (t : List ℕ). IsRefused site t other b) (sym e) (refused_stays laws site v y other b k))

message_isnt : {P : Type 0} (used : ℕ) (fault : MessageFault) → Message used ≡ RefusedFirst fault → P
message_isnt used fault e = let bad : ⊥ = cc in absurd bad

asked_or_refused : {P : Type 0} → Cutting → (site : Site) (w x : List ℕ) (m : RequestMessage) (aim : Aim) (head : Option RequestHead) (b : Refusal)
    → IsAsked site w m aim → IsRefused site (w ++ x) head b → P
asked_or_refused laws site w x m aim None b asked (inl (long, e)) =
    let begins = begins_stays laws.heads w x m.head (begins_of w m asked.is) in
    long_isnt_head (w ++ x) m.head.text begins.skipped long begins.front
asked_or_refused laws site w x m aim None b asked (inr (none, e)) =
    none_told (w ++ x) m.head (begins_stays laws.heads w x m.head (begins_of w m asked.is)) none
asked_or_refused laws site w x m aim (Some head) b asked (begins, inl nowhere) =
    let same : m.head ≡ head = one_head (w ++ x) m.head head (begins_stays laws.heads w x m.head (begins_of w m asked.is)) begins in
    let off = aims_nowhere site head b nowhere in
    somewhere (aim_of site m.head.method m.head.target) (aim_of site head.method head.target) aim off.0 asked.aimed off.1 (ap (λ (h : RequestHead). aim_of site h.method h.target) same)
asked_or_refused laws site w x m aim (Some head) b asked (begins, inr wrong) =
    message_isnt (length w) wrong.0 (laws.firsts Requests true (w ++ x) (Message (length w)) (RefusedFirst wrong.0)
    (asked_first laws w x m true asked.is) (refused_first (w ++ x) wrong.0 wrong.2))

-- a request isn't refused by bytes that it begins
pub asked_isnt_refused : {P : Type 0} → Cutting → (site : Site) (w v x y : List ℕ) (m : RequestMessage) (aim : Aim) (head : Option RequestHead) (b : Refusal)
    → w ++ x ≡ v ++ y → IsAsked site w m aim → IsRefused site v head b → P
asked_isnt_refused laws site w v x y m aim head b e asked refused =
    asked_or_refused laws site w x m aim head b asked
    (subst (λ (t : List ℕ). IsRefused site t head b) (sym e) (refused_stays laws site v y head b refused))

-- ---- what is undecided

-- no head stands first in bytes of which nothing is a request as yet
needs_no_head : {P : Type 0} (stream text : List ℕ) (skipped : ℕ) → NeedsHead Requests stream → front_of stream ≡ head_front.Head skipped text → P
needs_no_head stream text skipped (inl (nothing, other)) e = absurd (other refl)
needs_no_head stream text skipped (inr more) e = absurd (no_head_in_more skipped text (sym more ∙ e))

needed_isnt : {P : Type 0} (used : ℕ) → Message used ≡ BodyNeeded → P
needed_isnt used e = let bad : ⊥ = cc in absurd bad

fault_isnt : {P : Type 0} (fault : MessageFault) → RefusedFirst fault ≡ BodyNeeded → P
fault_isnt fault e = let bad : ⊥ = cc in absurd bad

pub asked_is_decided : {P : Type 0} → Cutting → (site : Site) (w x : List ℕ) (m : RequestMessage) → IsRequest w m → IsUndecided site (w ++ x) → P
asked_is_decided laws site w x m is (inl between) =
    let begins = begins_stays laws.heads w x m.head (begins_of w m is) in
    absurd (no_head_is_none begins.skipped m.head.text (sym between.0 ∙ begins.front))
asked_is_decided laws site w x m is (inr (inl needs)) =
    let begins = begins_stays laws.heads w x m.head (begins_of w m is) in
    needs_no_head (w ++ x) m.head.text begins.skipped needs begins.front
asked_is_decided laws site w x m is (inr (inr awaits)) =
    needed_isnt (length w) (laws.firsts Requests false (w ++ x) (Message (length w)) BodyNeeded (asked_first laws w x m false is) awaits.3)

long_isnt_nothing : {P : Type 0} (stream : List ℕ) → front_of stream ≡ head_front.TooLong → front_of stream ≡ head_front.Nothing → P
long_isnt_nothing stream e d = let bad : ⊥ = cc in absurd bad

long_isnt_more : {P : Type 0} (stream : List ℕ) → front_of stream ≡ head_front.TooLong → front_of stream ≡ head_front.More → P
long_isnt_more stream e d = let bad : ⊥ = cc in absurd bad

long_needs : {P : Type 0} (stream : List ℕ) → front_of stream ≡ head_front.TooLong → NeedsHead Requests stream → P
long_needs stream long (inl (nothing, other)) = absurd (other refl)
long_needs stream long (inr more) = long_isnt_more stream long more

decided_on : {P : Type 0} → FirstsAreOne → (site : Site) (stream : List ℕ) (head : Option RequestHead) (b : Refusal) → IsRefused site stream head b
    → IsUndecided site stream → P
decided_on one site stream None b (inl (long, e)) (inl between) = long_isnt_nothing stream long between.0
decided_on one site stream None b (inl (long, e)) (inr (inl needs)) = long_needs stream long needs
decided_on one site stream None b (inl (long, e)) (inr (inr awaits)) =
    long_isnt_head stream awaits.0.text awaits.1.skipped long awaits.1.front
decided_on one site stream None b (inr (none, e)) (inl between) = absurd (no_head_is_none none.skipped none.text (sym between.0 ∙ none.front))
decided_on one site stream None b (inr (none, e)) (inr (inl needs)) = needs_no_head stream none.text none.skipped needs none.front
decided_on one site stream None b (inr (none, e)) (inr (inr awaits)) = none_told stream awaits.0 awaits.1 none
decided_on one site stream (Some head) b (begins, why) (inl between) =
    absurd (no_head_is_none begins.skipped head.text (sym between.0 ∙ begins.front))
decided_on one site stream (Some head) b (begins, why) (inr (inl needs)) = needs_no_head stream head.text begins.skipped needs begins.front
decided_on one site stream (Some head) b (begins, inl nowhere) (inr (inr awaits)) =
    let off = aims_nowhere site head b nowhere in
    somewhere (aim_of site awaits.0.method awaits.0.target) (aim_of site head.method head.target) awaits.2.0 off.0 awaits.2.1 off.1
    (ap (λ (h : RequestHead). aim_of site h.method h.target) (one_head stream awaits.0 head awaits.1 begins))
decided_on one site stream (Some head) b (begins, inr wrong) (inr (inr awaits)) =
    fault_isnt wrong.0 (one Requests false stream (RefusedFirst wrong.0) BodyNeeded (refused_first stream wrong.0 wrong.2) awaits.3)

pub refused_is_decided : {P : Type 0} → Cutting → (site : Site) (w x : List ℕ) (head : Option RequestHead) (b : Refusal) → IsRefused site w head b
    → IsUndecided site (w ++ x) → P
refused_is_decided laws site w x head b refused undecided =
    decided_on laws.firsts site (w ++ x) head b (refused_stays laws site w x head b refused) undecided

-- ---- what is written before a body is read

interim_behind : (site : Site) (stream : List ℕ) (head : RequestHead) (text : List ℕ) → BeginsWithRequest stream head → IsInterim site stream text
    → text ≡ interim_of site head
interim_behind site stream head text begins (inl has) = has.2 ∙ ap (interim_of site) (one_head stream has.0 head has.1 begins)
interim_behind site stream head text begins (inr (none, e)) = absurd (none head begins)

no_interim : (site : Site) (stream text : List ℕ) → ((head : RequestHead) → ¬ (BeginsWithRequest stream head)) → IsInterim site stream text → text ≡ []
no_interim site stream text none (inl has) = absurd (none has.0 has.1)
no_interim site stream text none (inr (also, e)) = e

-- what bytes tell of it, by the head that they begin with
abbrev pub told_interim : Site → Option RequestHead → List ℕ
told_interim site None = []
told_interim site (Some head) = interim_of site head

pub interim_refused : (site : Site) (wire : List ℕ) (head : Option RequestHead) (refusal : Refusal) (text : List ℕ) → IsRefused site wire head refusal
    → IsInterim site wire text → text ≡ told_interim site head
interim_refused site wire None refusal text (inl (long, e)) interim =
    no_interim site wire text (λ head begins. long_isnt_head wire head.text begins.skipped long begins.front) interim
interim_refused site wire None refusal text (inr (none, e)) interim =
    no_interim site wire text (λ head begins. none_told wire head begins none) interim
interim_refused site wire (Some head) refusal text (begins, why) interim = interim_behind site wire head text begins interim

pub interim_asked : (site : Site) (wire : List ℕ) (message : RequestMessage) (text : List ℕ) → IsRequest wire message → IsInterim site wire text
    → text ≡ interim_of site message.head
interim_asked site wire message text is interim = interim_behind site wire message.head text (begins_of wire message is) interim
