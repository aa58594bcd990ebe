-- What asking an origin makes of a round, where no response came.
use Rattle.std.proofs.Common.{◌≡◌, inl, inr, ℕ, ◌≤◌, Bool, true, false, List, [], ◌∷◌, ◌++◌, Result, Ok, Err, refl, sym, ◌∙◌, ap, subst, arith, Some, None}
use Rattle.std.proofs.lemmas.List.{append-nil}
use Rattle.archive_shelf.proofs.CallLaws.{shown_itself}
use Rattle.archive_shelf.specs.Openings.{IsEarlier}
use Rattle.archive_shelf.specs.Told.{Told}
use Rattle.capture.specs.Methods.{asks_for_head}
use Rattle.capture.specs.declared.memory.Memory.{Memory}
use Rattle.capture.specs.declared.refusal.Refusal.{Refusal}
use Rattle.capture.specs.declared.refusal.Refusal.TheVariants.{DialFault, OriginFault, OriginEnded, OriginMalformed, OriginTooLong, TooManyInterim}
use Rattle.capture.specs.declared.site.Site.{Site}
use Rattle.exchange.specs.Texts.{forwarded}
use Rattle.exchange.specs.Fetches.{Asking, CountsFetch, LogsFetch, LogsFetched}
use Rattle.exchange.specs.declared.fetching.FetchFault.{FetchFault}
use Rattle.exchange.specs.declared.fetching.FetchFault.TheVariants as fetch_fault
use Rattle.http_head.specs.declared.head.Received.{Received}
use Rattle.outside.specs.Records.{Links}
use Rattle.outside.specs.declared.dialer.Transcript.{Transcript}
use Rattle.time_text.specs.Texts.{InRange}
use Rattle.request_answer.specs.Exchanges.{Exchange, Fails, Fetched, IsReply}
use Rattle.request_answer.specs.steps.Declining.{Declines, IsRefusing, refusal_by_fetch}
use Rattle.request_answer.specs.steps.Exchanging.{asking_of, Around, Asks, terms_in, traces_of}
use Rattle.request_answer.specs.Images.{NoDeed, deed_of}
use Rattle.request_answer.specs.Rounds.{Exchanged, disk_fault, origin_fault}
use Rattle.request_answer.specs.Traces.{CountsMet, StaysView}
use Rattle.request_answer.specs.steps.Givens.{Given}
use Rattle.request_answer.proofs.ExchangeLaws.{lacking_comes, refused_comes, untouched}
use Rattle.request_answer.proofs.CountLaws.{none_met, sufficed}
use Rattle.request_answer.proofs.VisitLaws.{rose_met, stayed_met}

-- what clock and dialer tell of one exchange
abbrev dialed : ℕ → List Transcript → ℕ → ℕ → Around
dialed date transcripts before now = record { times = date ∷ []; transcripts = transcripts; faults_before = before; faults_now = now }

-- no link was made: the log is as it was
pub same_log : (old new : Links Transcript) → new ≡ old → new ≡ record old { log = old.log ++ [] }
same_log old new e = e ∙ ap (λ (l : List Transcript). record old { log = l }) (sym (append-nil old.log))

-- what was asked of the origin, by its parts
asking_is : (e : Exchange) (request : List ℕ) (asks : Bool) → request ≡ forwarded e.message e.target → asks ≡ asks_for_head e.message.head.method
    → record { target = e.target; request = request; answers_head = asks } ≡ asking_of e
asking_is e request asks sent same = λ i. record { target = e.target; request = sent i; answers_head = same i }

pub as_asked : (e : Exchange) (request : List ℕ) (asks : Bool) (outcome : Result Received FetchFault) (old new : Links Transcript)
    → request ≡ forwarded e.message e.target → asks ≡ asks_for_head e.message.head.method
    → LogsFetch (record { target = e.target; request = request; answers_head = asks }) outcome old new → LogsFetch (asking_of e) outcome old new
as_asked e request asks outcome old new sent same h =
    subst (λ (a : Asking). LogsFetch a outcome old new) (asking_is e request asks sent same) h

-- the count of faults doesn't fall
pub fetch_later : (before now : ℕ) (outcome : Result Received FetchFault) → CountsFetch before now outcome → before ≤ now
fetch_later before now (Ok received) h = omega (arith, h)
fetch_later before now (Err fetch_fault.DialFault) h = h.0
fetch_later before now (Err fetch_fault.OriginFault) h = h.0
fetch_later before now (Err fetch_fault.OriginEnded) h = omega (arith, h)
fetch_later before now (Err fetch_fault.OriginMalformed) h = omega (arith, h)
fetch_later before now (Err fetch_fault.OriginTooLong) h = omega (arith, h)
fetch_later before now (Err fetch_fault.TooManyInterim) h = omega (arith, h)
fetch_later before now (Err fetch_fault.Memory) h = omega (arith, h)

-- ---- no response came

module _ (alone : Bool) (site : Site) (e : Exchange) (closes : Bool) (date : ℕ) (result : Result Given Memory)
    (old new : Links Transcript) (before now : ℕ) (shelf : Told) (earlier : IsEarlier shelf.crash) (in_range : InRange date) (asks : Bool) (same : asks ≡ asks_for_head e.message.head.method) where
  -- what holds of the one link, by how it ended
  abbrev Vain : FetchFault → Transcript → Type 0
  Vain fault t =
      Fetched e (Err fault) (traces_of alone site e (dialed date (t ∷ []) before now) shelf.contents.seen shelf shelf)
      × StaysView (terms_in alone site e shelf) (traces_of alone site e (dialed date (t ∷ []) before now) shelf.contents.seen shelf shelf).before
      (traces_of alone site e (dialed date (t ∷ []) before now) shelf.contents.seen shelf shelf).after

  -- the link was hung up, and the request refused
  vain : (fault : FetchFault) (refusal : Refusal) → LogsFetched (asking_of e) (Err fault) old new → deed_of (Exchanged e (Fails refusal)) ≡ NoDeed
      → CountsMet (origin_fault (Exchanged e (Fails refusal))) before now → disk_fault (Exchanged e (Fails refusal)) ≡ 0
      → ((t : Transcript) → Vain fault t
      → IsReply (terms_in alone site e shelf) e (Fails refusal) (traces_of alone site e (dialed date (t ∷ []) before now) shelf.contents.seen shelf shelf))
      → IsRefusing refusal asks closes result
      → Asks alone site e closes date result (record { links = old; faults = before; shelf = shelf }) (record { links = new; faults = now; shelf = shelf })
  vain fault refusal logs deed dialer none is refuses = record {
    transcripts = logs.t ∷ [];
    logged = logs.gains;
    comes = refused_comes alone site e refusal asks closes (dialed date (logs.t ∷ []) before now) result shelf shelf same
        (untouched alone site e false (Some (Fails refusal)) (dialed date (logs.t ∷ []) before now) shelf earlier deed refl sufficed dialer
        (subst (λ (n : ℕ). CountsMet n shelf.faults shelf.faults) (sym none) (none_met shelf.faults))
        (λ incoming text asked. (
          asked,
          is logs.t (
            record { date = date; timed = refl; in_range = in_range; t = logs.t; linked = refl; fetched = logs.fetched },
            record { book = refl; shown = shown_itself alone shelf.contents.shown },
          ),
        ))) refuses;
  }

  -- by the fault
  pub fetch_failed : (fault : FetchFault) → LogsFetch (asking_of e) (Err fault) old new → CountsFetch before now (Err fault)
      → Declines (refusal_by_fetch fault) asks closes result
      → Asks alone site e closes date result (record { links = old; faults = before; shelf = shelf }) (record { links = new; faults = now; shelf = shelf })
  fetch_failed fetch_fault.DialFault logs counts fails = record {
    transcripts = [];
    logged = same_log old new logs;
    comes = refused_comes alone site e DialFault asks closes (dialed date [] before now) result shelf shelf same
        (untouched alone site e false (Some (Fails DialFault)) (dialed date [] before now) shelf earlier refl refl sufficed
        (rose_met before now counts.1) (none_met shelf.faults)
        (λ incoming text asked. (asked, (date, refl, in_range, refl, record { book = refl; shown = shown_itself alone shelf.contents.shown })))) fails;
  }
  fetch_failed fetch_fault.OriginFault logs counts fails =
      vain fetch_fault.OriginFault OriginFault logs refl (rose_met before now counts.1) refl (λ t h. h) fails
  fetch_failed fetch_fault.OriginEnded logs counts fails =
      vain fetch_fault.OriginEnded OriginEnded logs refl (stayed_met before now counts) refl (λ t h. h) fails
  fetch_failed fetch_fault.OriginMalformed logs counts fails =
      vain fetch_fault.OriginMalformed OriginMalformed logs refl (stayed_met before now counts) refl (λ t h. h) fails
  fetch_failed fetch_fault.OriginTooLong logs counts fails =
      vain fetch_fault.OriginTooLong OriginTooLong logs refl (stayed_met before now counts) refl (λ t h. h) fails
  fetch_failed fetch_fault.TooManyInterim logs counts fails =
      vain fetch_fault.TooManyInterim TooManyInterim logs refl (stayed_met before now counts) refl (λ t h. h) fails
  fetch_failed fetch_fault.Memory (inl none) counts fails = record {
    transcripts = [];
    logged = same_log old new none;
    comes = lacking_comes alone site e closes (dialed date [] before now) result shelf shelf
        (untouched alone site e true None (dialed date [] before now) shelf earlier refl refl (λ lacking. refl)
        (stayed_met before now counts) (none_met shelf.faults)
        (λ incoming text asked. (refl, record { book = refl; shown = shown_itself alone shelf.contents.shown }, inr (e, asked, inl (date, refl, refl))))) fails;
  }
  fetch_failed fetch_fault.Memory (inr logs) counts fails = record {
    transcripts = logs.t ∷ [];
    logged = logs.gains;
    comes = lacking_comes alone site e closes (dialed date (logs.t ∷ []) before now) result shelf shelf
        (untouched alone site e true None (dialed date (logs.t ∷ []) before now) shelf earlier refl refl (λ lacking. refl)
        (stayed_met before now counts) (none_met shelf.faults) (λ incoming text asked. (
          refl,
          record { book = refl; shown = shown_itself alone shelf.contents.shown },
          inr (e, asked, inr (record { date = date; timed = refl; in_range = in_range; t = logs.t; linked = refl; fetched = logs.fetched })),
        ))) fails;
  }
