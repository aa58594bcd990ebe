-- What storing the capture of an exchange makes of a round.
use Rattle.std.proofs.Common.{◌≡◌, inr, ℕ, ◌<◌, ◌≤◌, Bool, true, false, ◌||◌, IsTrue, IfOk, List, [], ◌∷◌, ◌++◌, length, Option, Result, Ok, Err, refl, sym, ◌∙◌, ap, subst, arith, Some, None}
use Rattle.archive_shelf.proofs.CallLaws.{leads_same, shown_itself}
use Rattle.archive_shelf.specs.Answers.{WritesNone}
use Rattle.archive_shelf.specs.Contents.{Contents, IsConsistent}
use Rattle.archive_shelf.specs.Openings.{IsEarlier}
use Rattle.archive_shelf.specs.declared.fault.StoreFault.{StoreFault}
use Rattle.archive_shelf.specs.declared.fault.StoreFault.TheVariants as store_fault
use Rattle.archive_shelf.specs.Told.{StoresOn, Told, WritesNothing}
use Rattle.archive_shelf.specs.declared.receipt.Receipt.{Receipt}
use Rattle.capture.specs.Captures.{HasPayload, IsPayloadOf, captures}
use Rattle.capture.specs.Methods.{asks_for_head}
use Rattle.capture.specs.Payload.{IsPayload}
use Rattle.capture.specs.declared.book.Book.{Book}
use Rattle.capture.specs.declared.limits.TheConstants.{BODY_LIMIT}
use Rattle.capture.specs.declared.memory.Memory.{Memory}
use Rattle.capture.specs.declared.refusal.Refusal.{Refusal}
use Rattle.capture.specs.declared.refusal.Refusal.TheVariants.{Full, DiskFault, Damaged}
use Rattle.capture.specs.declared.site.Site.{Site}
use Rattle.exchange.specs.Fetches.{IsFetched}
use Rattle.exchange.specs.Refusals.{refusal_text}
use Rattle.exchange.specs.Storing.{CanBeForwarded}
use Rattle.http_wire.specs.Messages.{IsOneResponse}
use Rattle.http_wire.specs.Storing.{CanBeStored}
use Rattle.exchange.specs.Texts.{answered}
use Rattle.exchange.specs.declared.fetching.FetchFault.TheVariants as fetch_fault
use Rattle.http_head.specs.declared.head.Received.{Received}
use Rattle.outside.specs.declared.dialer.Transcript.{Transcript}
use Rattle.time_text.specs.Texts.{InRange}
use Rattle.warc_text.specs.Fits.{Fits}
use Rattle.request_answer.specs.Exchanges.{Exchange, Fails, Fetched, HasRoom, Passes, taken_of}
use Rattle.request_answer.specs.steps.Declining.{IsRefusing}
use Rattle.request_answer.specs.steps.Exchanging.{asking_of, Around, Comes, FollowsStore, HasCome, Keeps, PassesOn, Replies, round_of, terms_in, traces_of}
use Rattle.request_answer.specs.Laws.{StoredCapturesHaveTheirPayload}
use Rattle.request_answer.specs.Traces.{IsConsistentView, view_of}
use Rattle.request_answer.specs.steps.Givens.{Given}
use Rattle.request_answer.proofs.ExchangeLaws.{lacking_comes, none_stored, refused_comes, untouched, unwritten}
use Rattle.request_answer.proofs.CountLaws.{none_met, sufficed}
use Rattle.request_answer.proofs.StoreLaws.{images_denied, images_stored}
use Rattle.request_answer.proofs.VisitLaws.{rose_met, stayed_met}

-- ---- the capture

-- the capture of an exchange can be stored
pub fits : (e : Exchange) (date : ℕ) (received : Received) → CanBeForwarded e.message e.target → CanBeStored received e.message.head.method
    → InRange date → length received.wire ≤ BODY_LIMIT → Fits (taken_of e date received)
fits e date received sent came in_range within = record {
  well_formed = record { target = sent.accepted; request = sent.whole; response = came.responds };
  date = in_range;
  short = record {
    uri = omega (arith, sent.short_uri);
    head = omega (arith, came.short);
    wire = omega (arith, within);
    request = sent.short;
  };
}

-- the response has the payload of its wire
has_payload : (received : Received) (method payload : List ℕ) → IsOneResponse (asks_for_head method) received
    → IsPayload received.cut received.framing received.wire payload
    → HasPayload received.cut method received.head.text received.wire payload
has_payload received method payload (stream, response) is = record {
  parsed = response.tells.0;
  framing = received.framing;
  whole = response.tells.1;
  framed = response.tells.2;
  wire_is = response.wire_is;
  decoded = is;
}

-- ---- the answer

-- a refusal closes where the request asks for it
refusing_closes : (answer : Given) (refusal : Refusal) (asks closes : Bool) → IsRefusing refusal asks closes (Ok answer) → IsTrue closes → IsTrue answer.closes
refusing_closes answer refusal asks closes refusing c =
    let same : answer ≡ record { text = refusal_text refusal asks closes; closes = closes } = cc in ap (λ (a : Given). a.closes) same ∙ c

-- an answer behind a store closes where the request asks for it
pub follows_close : (ready : Given) (asks closes : Bool) (said : Result Receipt StoreFault) (result : Result Given Memory)
    → FollowsStore ready asks closes said result → (IsTrue closes → IsTrue ready.closes)
    → IfOk result (λ answer. IsTrue closes → IsTrue answer.closes)
follows_close ready asks closes (Ok receipt) (Ok answer) same h = λ c. let e : answer.closes ≡ ready.closes = cc in e ∙ h c
follows_close ready asks closes (Err (store_fault.Full count limit)) (Ok answer) r h = refusing_closes answer (Full count limit) asks closes r
follows_close ready asks closes (Err store_fault.DiskFault) (Ok answer) r h = refusing_closes answer DiskFault asks closes r
follows_close ready asks closes (Err (store_fault.Damaged number kept found)) (Ok answer) r h =
    refusing_closes answer (Damaged number kept found) asks closes r
follows_close ready asks closes (Err store_fault.Memory) (Ok answer) err h = let bad : ⊥ = cc in absurd bad
follows_close ready asks closes said (Err memory) r h = tt

or_behind : (a b : Bool) → b ≡ true → (a || b) ≡ true
or_behind true b e = refl
or_behind false b e = e

-- the answer that passes a response on closes where the request asks for it
pub passes_close : (received : Received) (asks closes : Bool) (ready : Given) → PassesOn received asks closes ready → IsTrue closes → IsTrue ready.closes
passes_close received asks closes ready h c = h.closes_is ∙ or_behind received.cut closes c

-- what is shown stays consistent, by a disk that tells as it told
stays_consistent : (alone : Bool) (site : Site) (e : Exchange) (was is : Told) (faults : ℕ)
    → is.contents.tells ≡ was.contents.tells → IsConsistent alone is.contents
    → IsConsistentView (terms_in alone site e was) (view_of is.contents faults is.faults)
stays_consistent alone site e was is faults same h = λ is_alone tells. h.shown is_alone (same ∙ tells)

-- the numbers of a shelf's own captures
mine_stored : (a b : Contents) (m n : ℕ) → m ≡ n → b ≡ record a { seen = b.seen; shown = b.shown; mine = a.mine ++ m ∷ [] }
    → b ≡ record a { seen = b.seen; shown = b.shown; mine = a.mine ++ n ∷ [] }
mine_stored a b m n same h = h ∙ ap (λ (k : ℕ). record a { seen = b.seen; shown = b.shown; mine = a.mine ++ k ∷ [] }) same

-- ---- what the exchange left

-- a response came, and there was no memory to pass it on
lost : (e : Exchange) (received : Received) (t : Transcript) → IsFetched (asking_of e) t (Ok received) → IsFetched (asking_of e) t (Err fetch_fault.Memory)
lost e received t h = record { host = h.host; port = h.port; sent = h.sent; received = tt; faults = h.faults }

module _ (alone : Bool) (site : Site) (e : Exchange) (closes : Bool) (date : ℕ) (received : Received) (around : Around)
    (in_range : InRange date) (come : HasCome e date received around) where
  -- a response has come, over these traces
  abbrev fetched_in : (found : Book) (was is : Told) → Fetched e (Ok received) (traces_of alone site e around found was is)
  fetched_in found was is = record {
    date = date;
    timed = come.timed;
    in_range = in_range;
    t = come.t;
    linked = come.linked;
    fetched = come.fetched;
  }

  abbrev lost_in : (found : Book) (was is : Told) → Fetched e (Err fetch_fault.Memory) (traces_of alone site e around found was is)
  lost_in found was is = record {
    date = date;
    timed = come.timed;
    in_range = in_range;
    t = come.t;
    linked = come.linked;
    fetched = lost e received come.t come.fetched;
  }

  abbrev room_in : (found : Book) (was is : Told) → length (captures found) < was.contents.limits.captures
      → HasRoom (terms_in alone site e was) e (traces_of alone site e around found was is)
  room_in found was is room = record { received = received; fetched = fetched_in found was is; room = room }

  -- there was no memory for the answer
  pub unready : (shelf : Told) → IsEarlier shelf.crash → Replies alone site e true None around shelf shelf
  unready shelf earlier =
      untouched alone site e true None around shelf earlier refl refl (λ lacking. refl)
      (stayed_met around.faults_before around.faults_now come.steady) (none_met shelf.faults) (λ incoming text asked. (
        refl,
        record { book = refl; shown = shown_itself alone shelf.contents.shown },
        inr (e, asked, inr (lost_in shelf.contents.seen shelf shelf)),
      ))

  -- ---- nothing was written

  quiet_by : (said : Result Receipt StoreFault) (was is : Told) → StoresOn alone (taken_of e date received) was is said → WritesNone said
      → WritesNothing alone was is
  quiet_by said was is h none = record {
    reading = λ is_alone tells. (h.reading is_alone tells).0 none;
    crash = record { later = h.crash.later; moves = h.crash.quiet none; covered = h.crash.covered; kept = h.crash.kept };
  }

  -- the archive was full
  full_reply : (count limit : ℕ) (was is : Told) → IsEarlier is.crash
      → StoresOn alone (taken_of e date received) was is (Err (store_fault.Full count limit))
      → Replies alone site e false (Some (Fails (Full count limit))) around was is
  full_reply count limit was is earlier h =
      unwritten alone site e false (Some (Fails (Full count limit))) around was is earlier h.leaves.0
      (quiet_by (Err (store_fault.Full count limit)) was is h tt) refl refl sufficed
      (stayed_met around.faults_before around.faults_now come.steady) (stayed_met was.faults is.faults h.faults) (λ incoming text asked. (
        asked,
        (
          received,
          fetched_in is.contents.seen was is,
          h.leaves.2,
          h.leaves.3,
          omega (arith, h.leaves.1, h.leaves.2, h.leaves.3),
          record { book = refl; shown = h.leaves.0.shown },
        ),
      ))

  -- an earlier capture is damaged
  damaged_reply : (number : ℕ) (kept : List ℕ) (found : Option (List ℕ)) (was is : Told) → IsEarlier is.crash
      → StoresOn alone (taken_of e date received) was is (Err (store_fault.Damaged number kept found))
      → Replies alone site e false (Some (Fails (Damaged number kept found))) around was is
  damaged_reply number kept found was is earlier h =
      unwritten alone site e false (Some (Fails (Damaged number kept found))) around was is earlier h.leaves.0
      (quiet_by (Err (store_fault.Damaged number kept found)) was is h tt) refl refl sufficed
      (stayed_met around.faults_before around.faults_now come.steady) (stayed_met was.faults is.faults h.faults) (λ incoming text asked. (
        asked,
        (
          room_in is.contents.seen was is h.leaves.1,
          h.leaves.2,
          h.leaves.3,
          record { book = refl; shown = h.leaves.0.shown },
        ),
      ))

  -- there was no memory to store the capture
  unkept_reply : (was is : Told) → IsEarlier is.crash → StoresOn alone (taken_of e date received) was is (Err store_fault.Memory)
      → Replies alone site e true None around was is
  unkept_reply was is earlier h =
      unwritten alone site e true None around was is earlier h.leaves
      (quiet_by (Err store_fault.Memory) was is h tt) refl refl (λ lacking. refl)
      (stayed_met around.faults_before around.faults_now come.steady) (stayed_met was.faults is.faults h.faults) (λ incoming text asked. (
        refl,
        record { book = refl; shown = h.leaves.shown },
        inr (e, asked, inr (lost_in is.contents.seen was is)),
      ))

  -- ---- the disk

  -- the disk failed
  denied_reply : (was is : Told) → IsConsistent alone is.contents
      → StoresOn alone (taken_of e date received) was is (Err store_fault.DiskFault)
      → Replies alone site e false (Some (Fails DiskFault)) around was is
  denied_reply was is consistent h = record {
    found = h.leaves.0;
    led = h.leaves.1;
    by = λ incoming text asked. (
      asked,
      (
        room_in h.leaves.0 was is h.leaves.2,
        h.leaves.3,
        h.leaves.4,
        stays_consistent alone site e was is around.faults_now (ap (λ (x : Contents). x.tells) h.leaves.5) consistent,
      ),
    );
    lacking = sufficed;
    dialer = stayed_met around.faults_before around.faults_now come.steady;
    disk = rose_met was.faults is.faults h.faults.1;
    stored = none_stored was.contents is.contents [] refl h.leaves.5;
    images = λ incoming text. images_denied alone site
        (round_of alone site e incoming (Some (Fails DiskFault)) false (traces_of alone site e around h.leaves.0 was is) text) e was is
        (record {
          deed = refl;
          room = room_in h.leaves.0 was is h.leaves.2;
          found = λ is_alone. leads_same alone was.contents.seen h.leaves.0 is_alone h.leaves.1;
          after = refl;
          stores = h;
        });
  }

  -- ---- stored

  -- the payload of the capture that was stored
  there_is : (payload : List ℕ) (receipt : Receipt) (was is : Told) → StoredCapturesHaveTheirPayload
      → HasPayload received.cut e.message.head.method received.head.text received.wire payload
      → IsConsistent alone is.contents → (h : StoresOn alone (taken_of e date received) was is (Ok receipt)) → IsTrue was.contents.tells
      → IsPayloadOf is.contents.seen receipt.number payload
  there_is payload receipt was is law has consistent h tells =
      subst (λ (n : ℕ). IsPayloadOf is.contents.seen n payload) (sym h.leaves.number)
      (law was.contents.limits.volume_bytes h.leaves.found (taken_of e date received) receipt is.contents.seen payload
      (h.leaves.by_rule tells) has (consistent.sound (ap (λ (x : Contents). x.tells) h.leaves.others ∙ tells)).sound)

  -- the capture is stored, and the response is passed on
  stored_reply : (payload : List ℕ) (receipt : Receipt) (was is : Told) → StoredCapturesHaveTheirPayload
      → IsPayload received.cut received.framing received.wire payload
      → HasPayload received.cut e.message.head.method received.head.text received.wire payload
      → IsConsistent alone is.contents → StoresOn alone (taken_of e date received) was is (Ok receipt)
      → Replies alone site e false (Some (Passes received payload)) around was is
  stored_reply payload receipt was is law payload_is has consistent h = record {
    found = h.leaves.found;
    led = h.leaves.led;
    by = λ incoming text asked. (
      asked,
      record {
        fetched = fetched_in h.leaves.found was is;
        payload_is = payload_is;
        room = h.leaves.not_full;
        receipt = receipt;
        number_is = h.leaves.number;
        refers = h.leaves.refers;
        by_digest = h.leaves.by_digest;
        as_shown = h.leaves.as_shown;
        gained = h.leaves.gained;
        by_rule = h.leaves.by_rule;
        there = there_is payload receipt was is law has consistent h;
        shown = h.leaves.shown;
        consistent = stays_consistent alone site e was is around.faults_now (ap (λ (x : Contents). x.tells) h.leaves.others) consistent;
      },
    );
    lacking = sufficed;
    dialer = stayed_met around.faults_before around.faults_now come.steady;
    disk = stayed_met was.faults is.faults h.faults;
    stored = mine_stored was.contents is.contents receipt.number (length (captures h.leaves.found)) h.leaves.number h.leaves.others;
    images = λ incoming text. images_stored alone site
        (round_of alone site e incoming (Some (Passes received payload)) false (traces_of alone site e around h.leaves.found was is) text) e was is
        (record {
          room = room_in h.leaves.found was is h.leaves.not_full;
          deed = refl;
          found = λ is_alone. leads_same alone was.contents.seen h.leaves.found is_alone h.leaves.led;
          after = refl;
          receipt = receipt;
          stores = h;
        });
  }

  -- ---- by what the store said

  by_said : (ready : Given) (asks : Bool) (said : Result Receipt StoreFault) (result : Result Given Memory) (was is : Told)
      → StoredCapturesHaveTheirPayload → IsEarlier is.crash → asks ≡ asks_for_head e.message.head.method
      → IsOneResponse (asks_for_head e.message.head.method) received → PassesOn received asks closes ready
      → IsConsistent alone is.contents → StoresOn alone (taken_of e date received) was is said → FollowsStore ready asks closes said result
      → Comes alone site e around closes result was is
  by_said ready asks (Ok receipt) (Ok answer) was is law earlier same response passes consistent h follows =
      let e_is : answer ≡ ready = cc in
      rw e_is (record {
        reply = Passes received passes.payload;
        replies = stored_reply passes.payload receipt was is law passes.payload_is
            (has_payload received e.message.head.method passes.payload response passes.payload_is) consistent h;
        text_is = passes.text_is ∙ ap (λ (b : Bool). answered received passes.payload b (received.cut || closes)) same;
        closes_is = passes.closes_is;
      })
  by_said ready asks (Ok receipt) (Err memory) was is law earlier same response passes consistent h follows = let bad : ⊥ = cc in absurd bad
  by_said ready asks (Err (store_fault.Full count limit)) result was is law earlier same response passes consistent h follows =
      refused_comes alone site e (Full count limit) asks closes around result was is same (full_reply count limit was is earlier h) follows
  by_said ready asks (Err store_fault.DiskFault) result was is law earlier same response passes consistent h follows =
      refused_comes alone site e DiskFault asks closes around result was is same (denied_reply was is consistent h) follows
  by_said ready asks (Err (store_fault.Damaged number kept found)) result was is law earlier same response passes consistent h follows =
      refused_comes alone site e (Damaged number kept found) asks closes around result was is same
      (damaged_reply number kept found was is earlier h) follows
  by_said ready asks (Err store_fault.Memory) result was is law earlier same response passes consistent h follows =
      lacking_comes alone site e closes around result was is (unkept_reply was is earlier h) follows

  -- a response that was to be stored answers the request
  pub kept_comes : (ready : Given) (asks : Bool) (result : Result Given Memory) (was is : Told) → StoredCapturesHaveTheirPayload
      → IsEarlier is.crash → asks ≡ asks_for_head e.message.head.method → IsOneResponse (asks_for_head e.message.head.method) received
      → PassesOn received asks closes ready → Keeps alone (taken_of e date received) ready asks closes result was is
      → Comes alone site e around closes result was is
  kept_comes ready asks result was is law earlier same response passes k =
      by_said ready asks k.said result was is law earlier same response passes k.shows.consistent k.stores k.follows
