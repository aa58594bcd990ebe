-- What the steps of serving make of a connection.
use Rattle.std.proofs.Common.{◌≡◌, ◌≢◌, inl, inr, ℕ, ◌+◌, ◌<◌, Bool, true, false, ◌||◌, ◌==◌, IsTrue, List, [], ◌++◌, refl, sym, ◌∙◌, ap, arith}
use Rattle.std.proofs.lemmas.Bool.{eqb-false}
use Rattle.archive_shelf.specs.Laws.{BooksLeadToThemselves}
use Rattle.capture.specs.declared.site.Site.{Site}
use Rattle.exchange.specs.Refusals.{memory_text}
use Rattle.exchange.specs.declared.aim.Aim.{Aim}
use Rattle.http_head.specs.declared.head.RequestMessage.{RequestMessage}
use Rattle.outside.specs.Calls.{one_more}
use Rattle.outside.specs.declared.gate.Heard.{Heard}
use Rattle.request_answer.specs.steps.Answering.{Incoming, MakesRound, IsAnswered}
use Rattle.request_answer.specs.Gains.{Setting, World}
use Rattle.session.specs.steps.Stages.{Stage, IsRemainder, closes}
use Rattle.session.specs.steps.Endings.{client_at, heard_now}
use Rattle.session.specs.steps.Reads.{Client, HasRead, HasTaken, ReadsNone, NoMore, Breaking, Refusing, GivingUp}
use Rattle.request_answer.specs.Rounds.{Round}
use Rattle.request_answer.specs.steps.Wire.{Breaks, Writes}
use Rattle.session.specs.steps.Wire.{Tries}
use Rattle.request_answer.specs.steps.Givens.{Given}
use Rattle.session.specs.declared.served.Served.{Served}
use Rattle.session.specs.declared.served.Served.TheVariants.{Done, ClientBroke, WantOfMemory}
use Rattle.session.proofs.CourseLaws.{none_unrefused, part_behind, then_on, unrefused_behind}
use Rattle.session.proofs.EndingLaws.{last_whole, last_part, no_round, broke_inside}
use Rattle.session.proofs.RoundLaws.{gave_up, refused_bytes}
use Rattle.session.proofs.SayLaws.{says_then}

-- a connection that reads no request
pub reading_ends : (alone : Bool) (setting : Setting) (from : Stage) (now : Heard) (end : Served) → BooksLeadToThemselves
    → ReadsNone setting.site (client_at from) now end → IsRemainder alone setting from (heard_now from.world now) end
reading_ends alone setting from now end itself (NoMore h) = no_round alone setting from now end itself h
reading_ends alone setting from now end itself (Breaking h) = rw h.ends (broke_inside alone setting from now end itself h)
reading_ends alone setting from now end itself (Refusing h) =
    refused_bytes alone setting h.head h.refusal h.wire h.interim from h.to now end itself h.refused h.interim_is h.taken h.ends
reading_ends alone setting from now end itself (GivingUp h) =
    rw h.ends (gave_up alone setting h.wire h.interim from h.to now itself h.interim_is h.taken h.tries)

-- a request that was read
abbrev pub incoming_of : {site : Site} {from : Client} {message : RequestMessage} {aim : Aim} {to : Client} → ℕ → HasRead site from message aim to → Incoming
incoming_of served read = record { served = served; wire = read.wire; interim = read.interim }

abbrev pub round_of : {alone : Bool} {setting : Setting} {incoming : Incoming} {lacked : Bool} {text : List ℕ} {was is : World}
    → MakesRound alone setting incoming lacked text was is → Round
round_of {alone} {setting} {incoming} {lacked} {text} makes = record {
  wire = incoming.wire;
  outcome = makes.outcome;
  lacked = lacked;
  traces = makes.traces;
  interim = incoming.interim;
  text = text;
}

-- there was no memory to answer it
pub answer_lacked : (alone : Bool) (setting : Setting) (from : Stage) (incoming : Incoming) (to : Client) (is : World)
    → BooksLeadToThemselves → incoming.served ≡ from.served → HasTaken (client_at from) incoming.wire incoming.interim to
    → MakesRound alone setting incoming true memory_text from.world is → Tries memory_text to.heard is.heard
    → IsRemainder alone setting from is WantOfMemory
answer_lacked alone setting from incoming to is itself same taken makes (inl w) =
    last_whole alone setting (round_of makes) to.pending from is WantOfMemory itself (record {
      made = rw same at makes.made;
      closed = refl;
      accounts = λ done e. w.same_given ∙ taken.accounts done e;
      said = says_then incoming.interim memory_text from.world.heard to.heard _ taken.said w;
      ends = λ all. (refl, inl all);
    })
answer_lacked alone setting from incoming to is itself same taken makes (inr broken) =
    last_part alone setting (round_of makes) to.pending from is WantOfMemory itself (record {
      made = rw same at makes.made;
      accounts = λ done e. broken.same_given ∙ taken.accounts done e;
      part = part_behind to.heard.written (from.world.heard.written ++ incoming.interim) is.heard.written memory_text taken.said.written broken.part;
      unwritten = broken.unwritten ∙ ap one_more taken.said.unfailed;
      ends = λ cut. (refl, inr cut);
    })

-- the answer was written in part
pub answer_broke : (alone : Bool) (setting : Setting) (from : Stage) (incoming : Incoming) (answer : Given) (to : Client) (is : World)
    → BooksLeadToThemselves → incoming.served ≡ from.served → HasTaken (client_at from) incoming.wire incoming.interim to
    → IsAnswered alone setting incoming answer from.world is → Breaks answer.text to.heard is.heard
    → IsRemainder alone setting from is ClientBroke
answer_broke alone setting from incoming answer to is itself same taken answered broken =
    last_part alone setting (round_of answered.makes) to.pending from is ClientBroke itself (record {
      made = rw same at answered.makes.made;
      accounts = λ done e. broken.same_given ∙ taken.accounts done e;
      part = part_behind to.heard.written (from.world.heard.written ++ incoming.interim) is.heard.written answer.text taken.said.written broken.part;
      unwritten = broken.unwritten ∙ ap one_more taken.said.unfailed;
      ends = λ cut. (broken.broke, refl, inl cut);
    })

-- the answer was written, and closes
pub answer_closed : (alone : Bool) (setting : Setting) (from : Stage) (incoming : Incoming) (answer : Given) (to : Client) (is : World)
    → BooksLeadToThemselves → incoming.served ≡ from.served → HasTaken (client_at from) incoming.wire incoming.interim to
    → IsAnswered alone setting incoming answer from.world is → Writes answer.text to.heard is.heard → answer.closes ≡ true
    → IsRemainder alone setting from is Done
answer_closed alone setting from incoming answer to is itself same taken answered w closed =
    let ends_it : closes from.served (round_of answered.makes) ≡ true = rw (sym same) (answered.closes_is ∙ closed) in
    last_whole alone setting (round_of answered.makes) to.pending from is Done itself (record {
      made = rw same at answered.makes.made;
      closed = ends_it;
      accounts = λ done e. w.same_given ∙ taken.accounts done e;
      said = says_then incoming.interim answer.text from.world.heard to.heard _ taken.said w;
      ends = λ all. (w.whole, refl, unrefused_behind (round_of answered.makes) [] answered.makes.unrefused none_unrefused, inl all);
    })

-- the answer was written, and the connection goes on
pub answer_said : (alone : Bool) (setting : Setting) (from : Stage) (incoming : Incoming) (answer : Given) (to : Client) (mid : World)
    (is : World) (result : Served) → incoming.served ≡ from.served → HasTaken (client_at from) incoming.wire incoming.interim to
    → IsAnswered alone setting incoming answer from.world mid → Writes answer.text to.heard mid.heard → answer.closes ≡ false
    → IsRemainder alone setting (record { served = from.served + 1; pending = to.pending; world = mid }) is result
    → IsRemainder alone setting from is result
answer_said alone setting from incoming answer to mid is result same taken answered w goes next =
    then_on alone setting (round_of answered.makes) from (record { served = from.served + 1; pending = to.pending; world = mid }) is result (record {
      made = rw same at answered.makes.made;
      stays = rw (sym same) (answered.closes_is ∙ goes);
      next = refl;
      accounts = λ done e. w.same_given ∙ taken.accounts done e;
      said = says_then incoming.interim answer.text from.world.heard to.heard _ taken.said w;
    }) next

-- an answer that doesn't close isn't the last
pub still_fewer : (served limit : ℕ) (last closes answered : Bool) → served < limit → closes ≡ (last || (served + 1 == limit))
    → (IsTrue closes → IsTrue answered) → answered ≡ false → served + 1 < limit
still_fewer served limit last closes answered below e keeps open_still = by_test (served + 1 == limit) last refl e where
  by_test : (test last : Bool) → (served + 1 == limit) ≡ test → closes ≡ (last || (served + 1 == limit)) → served + 1 < limit
  by_test test true t h = let bad : ⊥ = cc (keeps h, open_still) in absurd bad
  by_test true false t h = let bad : ⊥ = cc (keeps (h ∙ t), open_still) in absurd bad
  by_test false false t h = let n : served + 1 ≢ limit = eqb-false (served + 1) limit t in omega (arith, below, n)
