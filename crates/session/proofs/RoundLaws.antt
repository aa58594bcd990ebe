-- Rounds that ask nothing of clock, origin and archive.
use Rattle.std.proofs.Common.{◌≡◌, ◌⊎◌, inl, inr, ℕ, true, false, List, [], ◌∷◌, ◌++◌, Option, Some, None, refl, sym, ◌∙◌, ap, subst, arith, Bool}
use Rattle.archive_shelf.proofs.CallLaws.{shown_itself}
use Rattle.archive_shelf.specs.Laws.{BooksLeadToThemselves}
use Rattle.archive_shelf.specs.Told.{Told}
use Rattle.capture.specs.declared.book.Book.{Book}
use Rattle.request_answer.specs.Gains.{Setting, World, Gains}
use Rattle.session.specs.steps.Stages.{Stage, IsRemainder}
use Rattle.request_answer.specs.steps.Making.{Gained, IsMade, terms_at, view_at, gains_by}
use Rattle.session.specs.steps.Endings.{client_at, heard_now}
use Rattle.session.specs.steps.Gaining.{no_gains}
use Rattle.request_answer.specs.Images.{Deed, NoDeed, deed_of, KeepsImages, OpensBehind}
use Rattle.capture.specs.declared.refusal.Refusal.{Refusal}
use Rattle.http_head.specs.declared.head.RequestHead.{RequestHead}
use Rattle.exchange.specs.Refusals.{refusal_text, memory_text}
use Rattle.outside.specs.Calls.{one_more}
use Rattle.outside.specs.declared.gate.Heard.{Heard}
use Rattle.session.specs.steps.Reads.{Client, HasTaken, answers_head}
use Rattle.session.specs.steps.Wire.{EndsRefusal, Tries}
use Rattle.request_answer.specs.Requests.{IsInterim, IsRefused}
use Rattle.request_answer.specs.Rounds.{Round, Undecided, Refused, IsRound, IsTextOf, is_from_shown}
use Rattle.request_answer.specs.Traces.{Terms, View, Traces}
use Rattle.session.specs.declared.served.Served.{Served}
use Rattle.session.specs.declared.served.Served.TheVariants.{Done, ClientBroke, ClientEndedEarly, ClientRefused, WantOfMemory}
use Rattle.session.proofs.CourseLaws.{part_behind}
use Rattle.session.proofs.EndingLaws.{last_whole, last_part, view_itself}
use Rattle.session.proofs.GainLaws.{gained_none}
use Rattle.request_answer.proofs.CountLaws.{none_met, sufficed}
use Rattle.session.proofs.SayLaws.{says_itself, says_then}

-- nothing was asked, and this is seen of the archive
abbrev pub idle_traces : View → Traces
idle_traces view = record { times = []; transcripts = []; before = view; after = view }

-- nothing is stored: what images do
images_quiet : (terms : Terms) (r : Round) (deed : Deed) (was : Told) → deed ≡ NoDeed
    → (x : Book) → was.crash.openings was.crash.moment x
    → OpensBehind terms r.traces deed (λ b. was.crash.openings was.crash.moment b) x
images_quiet terms r deed was e x o =
    subst (λ (d : Deed). OpensBehind terms r.traces d (λ b. was.crash.openings was.crash.moment b) x) (sym e) o

images_idle : (terms : Terms) (r : Round) (shelf : Told) → deed_of r.outcome ≡ NoDeed → KeepsImages terms (r ∷ []) shelf shelf
images_idle terms r shelf e = record {
  later = omega arith;
  covered = λ t le c. c;
  reading = λ is_alone tells none. refl;
  checkpoints = λ is_alone tells. refl;
  opened = λ is_alone ids t x le o. inl o;
  left = λ is_alone tells ids x o. images_quiet terms r (deed_of r.outcome) shelf e x o;
}

-- what is known of a round that asks nothing
pub record AsksNothing (r : Round) (view : View) : Type 0 where
  pub traces : r.traces ≡ idle_traces view
  pub gains : gains_by r ≡ no_gains
  pub deed : deed_of r.outcome ≡ NoDeed
  pub shown : is_from_shown r.outcome ≡ false

-- a lawful round that asks nothing was made where nothing but the client was heard
pub made_idle : (alone : Bool) (setting : Setting) (served : ℕ) (r : Round) (was : World) (now : Heard) → BooksLeadToThemselves
    → IsRound (terms_at alone setting was.shelf) served r → AsksNothing r (view_at was)
    → IsMade alone setting served r was (heard_now was now)
made_idle alone setting served r was now itself lawful h = record {
  lawful = lawful;
  leads = rw h.traces (view_itself (terms_at alone setting was.shelf) (view_at was) itself);
  knows = λ tells from. let bad : ⊥ = cc (h.shown, from) in absurd bad;
  left = rw h.traces refl;
  gained = subst (λ (g : Gains). Gained alone setting was (heard_now was now) g) (sym h.gains) (gained_none alone setting was now);
  images = images_idle (terms_at alone setting was.shelf) r was.shelf h.deed;
}

-- ---- want of memory

-- nothing was decided of these bytes, for want of memory
abbrev pub lacking_round : List ℕ → List ℕ → View → Round
lacking_round wire interim view = record {
  wire = wire;
  outcome = Undecided;
  lacked = true;
  traces = idle_traces view;
  interim = interim;
  text = memory_text;
}

lacking_lawful : (terms : Terms) (served : ℕ) (wire interim : List ℕ) (view : View)
    → IsInterim terms.site wire interim ⊎ (interim ≡ []) → IsRound terms served (lacking_round wire interim view)
lacking_lawful terms served wire interim view known = record {
  decided = (refl, record { book = refl; shown = shown_itself terms.alone view.shown }, inl (refl, refl));
  lacking = λ lacked. inl refl;
  dialer = none_met view.dialer_faults;
  disk = none_met view.disk_faults;
  interim_is = elim known [ inl is ↦ inl is | inr none ↦ inr (refl, none) ];
  text_is = refl;
}

-- the connection is given up with the text that says so
pub gave_up : (alone : Bool) (setting : Setting) (wire interim : List ℕ) (from : Stage) (to : Client) (now : Heard)
    → BooksLeadToThemselves → IsInterim setting.site wire interim ⊎ (interim ≡ [])
    → HasTaken (client_at from) wire interim to → Tries memory_text to.heard now
    → IsRemainder alone setting from (heard_now from.world now) WantOfMemory
gave_up alone setting wire interim from to now itself known taken tries = by_trying tries where
  r : Round
  r = lacking_round wire interim (view_at from.world)

  made : IsMade alone setting from.served r from.world (heard_now from.world now)
  made = made_idle alone setting from.served r from.world now itself
      (lacking_lawful (terms_at alone setting from.world.shelf) from.served wire interim (view_at from.world) known)
      (record { traces = refl; gains = refl; deed = refl; shown = refl })

  by_trying : Tries memory_text to.heard now → IsRemainder alone setting from (heard_now from.world now) WantOfMemory
  by_trying (inl w) = last_whole alone setting r to.pending from (heard_now from.world now) WantOfMemory itself (record {
    made = made;
    closed = refl;
    accounts = λ done e. w.same_given ∙ taken.accounts done e;
    said = says_then interim memory_text from.world.heard to.heard _ taken.said w;
    ends = λ all. (refl, inl all);
  })
  by_trying (inr broken) = last_part alone setting r to.pending from (heard_now from.world now) WantOfMemory itself (record {
    made = made;
    accounts = λ done e. broken.same_given ∙ taken.accounts done e;
    part = part_behind to.heard.written (from.world.heard.written ++ interim) now.written memory_text taken.said.written broken.part;
    unwritten = broken.unwritten ∙ ap one_more taken.said.unfailed;
    ends = λ cut. (refl, inr cut);
  })

-- given up before anything was read
pub gave_up_at_once : (alone : Bool) (setting : Setting) (from : Stage) (now : Heard) → BooksLeadToThemselves
    → Tries memory_text from.world.heard now → IsRemainder alone setting from (heard_now from.world now) WantOfMemory
gave_up_at_once alone setting from now itself tries =
    gave_up alone setting [] [] from (client_at from) now itself (inr refl)
    (record { accounts = λ done e. e; said = says_itself from.world.heard }) tries

-- ---- bytes that were refused

abbrev pub refusal_round : Option RequestHead → Refusal → List ℕ → List ℕ → View → Round
refusal_round head refusal wire interim view = record {
  wire = wire;
  outcome = Refused head refusal;
  lacked = false;
  traces = idle_traces view;
  interim = interim;
  text = refusal_text refusal (answers_head head) true;
}

refusal_text_is : (terms : Terms) (head : Option RequestHead) (refusal : Refusal)
    → IsTextOf terms (Refused head refusal) true (refusal_text refusal (answers_head head) true)
refusal_text_is terms None refusal = refl
refusal_text_is terms (Some head) refusal = refl

refusal_lawful : (terms : Terms) (served : ℕ) (head : Option RequestHead) (refusal : Refusal) (wire interim : List ℕ) (view : View)
    → IsRefused terms.site wire head refusal → IsInterim terms.site wire interim → IsRound terms served (refusal_round head refusal wire interim view)
refusal_lawful terms served head refusal wire interim view is known = record {
  decided = (is, record { times = refl; transcripts = refl; untouched = record { book = refl; shown = shown_itself terms.alone view.shown } });
  lacking = sufficed;
  dialer = none_met view.dialer_faults;
  disk = none_met view.disk_faults;
  interim_is = inl known;
  text_is = refusal_text_is terms head refusal;
}

-- the bytes are refused, by how the connection then ends
pub refused_bytes : (alone : Bool) (setting : Setting) (head : Option RequestHead) (refusal : Refusal) (wire interim : List ℕ)
    (from : Stage) (to : Client) (now : Heard) (result : Served) → BooksLeadToThemselves → IsRefused setting.site wire head refusal
    → IsInterim setting.site wire interim → HasTaken (client_at from) wire interim to
    → EndsRefusal refusal (refusal_text refusal (answers_head head) true) to.heard now result
    → IsRemainder alone setting from (heard_now from.world now) result
refused_bytes alone setting head refusal wire interim from to now result itself refused known taken ends = by_result result ends where
  r : Round
  r = refusal_round head refusal wire interim (view_at from.world)

  made : IsMade alone setting from.served r from.world (heard_now from.world now)
  made = made_idle alone setting from.served r from.world now itself
      (refusal_lawful (terms_at alone setting from.world.shelf) from.served head refusal wire interim (view_at from.world) refused known)
      (record { traces = refl; gains = refl; deed = refl; shown = refl })

  by_result : (result : Served) → EndsRefusal refusal (refusal_text refusal (answers_head head) true) to.heard now result
      → IsRemainder alone setting from (heard_now from.world now) result
  by_result (ClientRefused told) (e, w) = last_whole alone setting r to.pending from (heard_now from.world now) (ClientRefused told) itself (record {
    made = made;
    closed = refl;
    accounts = λ done given. w.same_given ∙ taken.accounts done given;
    said = says_then interim (refusal_text refusal (answers_head head) true) from.world.heard to.heard _ taken.said w;
    ends = λ all. (w.whole, refl, ([], r, head, refl, ap (λ (x : Refusal). Refused head x) (sym e)), all);
  })
  by_result ClientBroke broken = last_part alone setting r to.pending from (heard_now from.world now) ClientBroke itself (record {
    made = made;
    accounts = λ done given. broken.same_given ∙ taken.accounts done given;
    part = part_behind to.heard.written (from.world.heard.written ++ interim) now.written (refusal_text refusal (answers_head head) true) taken.said.written broken.part;
    unwritten = broken.unwritten ∙ ap one_more taken.said.unfailed;
    ends = λ cut. (broken.broke, refl, inl cut);
  })
  by_result Done h = absurd h
  by_result ClientEndedEarly h = absurd h
  by_result WantOfMemory h = absurd h
