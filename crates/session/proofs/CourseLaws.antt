-- A lawful round and then a connection are a connection.
use Rattle.std.proofs.Common.{◌≡◌, ◌≢◌, ℕ, ◌+◌, inl, inr, Bool, true, false, ◌||◌, List, [], ◌∷◌, ◌++◌, Option, refl, sym, ◌∙◌, ap, append_assoc}
use Rattle.std.proofs.lemmas.List.{append-nil}
use Rattle.archive_shelf.specs.Contents.{Contents}
use Rattle.capture.specs.declared.refusal.Refusal.{Refusal}
use Rattle.capture.specs.declared.site.Site.{Site}
use Rattle.exchange.specs.Receiving.{StaysAccounted}
use Rattle.exchange.specs.Writing.{GrowsByProperFront}
use Rattle.http_head.specs.declared.head.RequestHead.{RequestHead}
use Rattle.outside.specs.Calls.{one_more}
use Rattle.outside.specs.declared.gate.Heard.{Heard}
use Rattle.session.specs.Connection.{IsConnection}
use Rattle.request_answer.specs.Gains.{Setting, World, gains_of}
use Rattle.session.specs.steps.Wire.{Says}
use Rattle.session.specs.steps.Stages.{Stage, IsRemainder, IsStep, closes}
use Rattle.request_answer.specs.steps.Making.{terms_at, gains_by}
use Rattle.request_answer.specs.Requests.{interim_of}
use Rattle.request_answer.specs.Rounds.{Round, Outcome, Refused, closes_outcome}
use Rattle.session.specs.Courses.{course_text, course_wire, is_closed, lacks}
use Rattle.session.specs.Stopping.{Course, Ends, IsClosed, IsCutInside, IsCutShort, IsLeftOver}
use Rattle.request_answer.specs.Traces.{terms_of}
use Rattle.session.specs.declared.served.Served.{Served}
use Rattle.session.specs.declared.served.Served.TheVariants.{Done, ClientBroke, ClientEndedEarly, ClientRefused, WantOfMemory}
use Rattle.session.proofs.GainLaws.{behind_text, gained_both}
use Rattle.session.proofs.ImageLaws.{images_both}

pub same_or : (b c : Bool) → b ≡ false → (b || c) ≡ c
same_or false c e = refl
same_or true c e = absurd (cc)

pub or_true : (b : Bool) → b ≡ true → (b || false) ≡ true
or_true true e = refl
or_true false e = absurd (cc)

pub or_false : (b : Bool) → b ≡ false → (b || false) ≡ false
or_false false e = refl
or_false true e = absurd (cc)

left_false : (b c : Bool) → (b || c) ≡ false → b ≡ false
left_false false c e = refl
left_false true c e = absurd (cc)

right_false : (b c : Bool) → (b || c) ≡ false → c ≡ false
right_false false c e = e
right_false true c e = absurd (cc)

-- bytes that were refused close
no_refusal : (served : ℕ) (outcome : Outcome) (head : Option RequestHead) (refusal : Refusal) → closes_outcome served outcome ≡ false
    → outcome ≢ Refused head refusal
no_refusal served outcome head refusal goes is =
    let bad : true ≡ false = sym (ap (λ (o : Outcome). closes_outcome served o) is) ∙ goes in absurd (cc)

-- ---- the last of some rounds

-- its bytes were refused, or weren't
abbrev pub EndsRefused : Refusal → List Round → Type 0
EndsRefused refusal rounds =
    (init : List Round) × (last : Round) × (head : Option RequestHead) × (rounds ≡ init ++ last ∷ []) × (last.outcome ≡ Refused head refusal)

abbrev pub EndsUnrefused : List Round → Type 0
EndsUnrefused rounds =
    (init : List Round) (last : Round) (head : Option RequestHead) (refusal : Refusal) → rounds ≡ init ++ last ∷ [] → last.outcome ≢ Refused head refusal

pub no_last : (init : List Round) (last : Round) → [] ≡ init ++ last ∷ [] → ⊥
no_last [] last e = cc
no_last (r ∷ init) last e = cc

pub none_unrefused : EndsUnrefused []
none_unrefused init last head refusal e is = no_last init last e

pub first_same : (a b : Round) (rounds others : List Round) → a ∷ rounds ≡ b ∷ others → a ≡ b
first_same a b rounds others e = cc

pub rest_same : (a b : Round) (rounds others : List Round) → a ∷ rounds ≡ b ∷ others → rounds ≡ others
rest_same a b rounds others e = cc

-- a round before others
pub unrefused_behind : (r : Round) (rounds : List Round) → ((head : Option RequestHead) (refusal : Refusal) → r.outcome ≢ Refused head refusal)
    → EndsUnrefused rounds → EndsUnrefused (r ∷ rounds)
unrefused_behind r rounds own others [] last head refusal e is =
    own head refusal (ap (λ (x : Round). x.outcome) (first_same r last rounds [] e) ∙ is)
unrefused_behind r rounds own others (x ∷ init) last head refusal e is =
    others init last head refusal (rest_same r x rounds (init ++ last ∷ []) e) is

pub refused_behind : (r : Round) (rounds : List Round) (refusal : Refusal) → EndsRefused refusal rounds → EndsRefused refusal (r ∷ rounds)
refused_behind r rounds refusal (init, last, head, e, is) = (r ∷ init, last, head, ap (λ (l : List Round). r ∷ l) e, is)

-- what stands in part behind a longer text
pub part_behind : (a b now text : List ℕ) → a ≡ b → GrowsByProperFront a now text → GrowsByProperFront b now text
part_behind a b now text e w = record { front = w.front; is_front = w.is_front; grown = w.grown ∙ ap (λ x. x ++ w.front) e }

-- ---- where a course stops, behind a first round that doesn't close

module _ (served : ℕ) (r : Round) (rounds : List Round) (rest : List ℕ) (then mid now : Heard)
    (said : Says (r.interim ++ r.text) then mid) where
  -- the rounds behind it, and all
  abbrev others : Course
  others = record { served = served + 1; rounds = rounds; rest = rest }

  abbrev all_of : Course
  all_of = record { served = served; rounds = r ∷ rounds; rest = rest }

  short_behind : IsCutShort others mid now → IsCutShort all_of then now
  short_behind cut =
      let said_text : List ℕ = r.interim ++ r.text in
      record {
        init = r ∷ cut.init;
        last = cut.last;
        are = ap (λ (l : List Round). r ∷ l) cut.are;
        part = part_behind (mid.written ++ (course_text cut.init ++ cut.last.interim)) (then.written ++ ((said_text ++ course_text cut.init) ++ cut.last.interim)) now.written cut.last.text
            (behind_text then.written mid.written said_text (course_text cut.init ++ cut.last.interim) said.written
            ∙ ap (λ x. then.written ++ x) (sym (append_assoc said_text (course_text cut.init) cut.last.interim))) cut.part;
        unwritten = cut.unwritten ∙ ap one_more said.unfailed;
      }

  inside_behind : (site : Site) → closes served r ≡ false → IsCutInside site others mid now → IsCutInside site all_of then now
  inside_behind site goes cut = record {
    not_closed = same_or (closes served r) (is_closed (served + 1) rounds) goes ∙ cut.not_closed;
    begun = cut.begun;
    unread = cut.unread;
    are = cut.are;
    head = cut.head;
    begins = cut.begins;
    part = part_behind (mid.written ++ course_text rounds) (then.written ++ ((r.interim ++ r.text) ++ course_text rounds)) now.written (interim_of site cut.head)
        (behind_text then.written mid.written (r.interim ++ r.text) (course_text rounds) said.written) cut.part;
    unwritten = cut.unwritten ∙ ap one_more said.unfailed;
  }

  closed_behind : closes served r ≡ false → IsClosed others mid now → IsClosed all_of then now
  closed_behind goes all = record {
    written = all.written ∙ behind_text then.written mid.written (r.interim ++ r.text) (course_text rounds) said.written;
    unfailed = all.unfailed ∙ said.unfailed;
    closed = same_or (closes served r) (is_closed (served + 1) rounds) goes ∙ all.closed;
  }

  left_behind : (site : Site) → closes served r ≡ false → IsLeftOver site others mid now → IsLeftOver site all_of then now
  left_behind site goes all = record {
    not_closed = same_or (closes served r) (is_closed (served + 1) rounds) goes ∙ all.not_closed;
    interim = all.interim;
    interim_is = all.interim_is;
    written = all.written ∙ behind_text then.written mid.written (r.interim ++ r.text) (course_text rounds ++ all.interim) said.written
        ∙ ap (λ x. then.written ++ x) (sym (append_assoc (r.interim ++ r.text) (course_text rounds) all.interim));
    unfailed = all.unfailed ∙ said.unfailed;
  }

  -- how it ends
  ends_behind : (result : Served) (site : Site) → closes served r ≡ false → r.lacked ≡ false
      → ((head : Option RequestHead) (refusal : Refusal) → r.outcome ≢ Refused head refusal)
      → Ends result site others mid now → Ends result site all_of then now
  ends_behind Done site goes has none (whole, enough, unrefused, inl all) = (
    whole,
    same_or r.lacked (lacks rounds) has ∙ enough,
    unrefused_behind r rounds none unrefused,
    inl (closed_behind goes all),
  )
  ends_behind Done site goes has none (whole, enough, unrefused, inr (met, between, left)) = (
    whole,
    same_or r.lacked (lacks rounds) has ∙ enough,
    unrefused_behind r rounds none unrefused,
    inr (met, between, left_behind site goes left),
  )
  ends_behind ClientBroke site goes has none (broke, enough, inl cut) =
      (broke, same_or r.lacked (lacks rounds) has ∙ enough, inl (short_behind cut))
  ends_behind ClientBroke site goes has none (broke, enough, inr (inl cut)) =
      (broke, same_or r.lacked (lacks rounds) has ∙ enough, inr (inl (inside_behind site goes cut)))
  ends_behind ClientBroke site goes has none (broke, enough, inr (inr (undecided, left))) =
      (broke, same_or r.lacked (lacks rounds) has ∙ enough, inr (inr (undecided, left_behind site goes left)))
  ends_behind ClientEndedEarly site goes has none (whole, enough, met, inside, left) =
      (whole, same_or r.lacked (lacks rounds) has ∙ enough, met, inside, left_behind site goes left)
  ends_behind (ClientRefused refusal) site goes has none (whole, enough, refused, all) = (
    whole,
    same_or r.lacked (lacks rounds) has ∙ enough,
    refused_behind r rounds refusal refused,
    closed_behind goes all,
  )
  ends_behind WantOfMemory site goes has none (lacking, inl all) = (same_or r.lacked (lacks rounds) has ∙ lacking, inl (closed_behind goes all))
  ends_behind WantOfMemory site goes has none (lacking, inr cut) = (same_or r.lacked (lacks rounds) has ∙ lacking, inr (short_behind cut))

-- the bytes of a round and then those of others
accounts_on : (given pending mid pending_mid now wire others rest : List ℕ) → StaysAccounted given pending mid (wire ++ pending_mid)
    → StaysAccounted mid pending_mid now (others ++ rest) → StaysAccounted given pending now ((wire ++ others) ++ rest)
accounts_on given pending mid pending_mid now wire others rest h k = λ done e.
    k (done ++ wire) (h done e ∙ sym (append_assoc done wire pending_mid))
    ∙ append_assoc done wire (others ++ rest)
    ∙ ap (λ x. done ++ x) (sym (append_assoc wire others rest))

-- what holds of a shelf for as long as the connection lasts
pub same_terms : (site : Site) (alone : Bool) (a b : Contents) (m : List ℕ) → b ≡ record a { seen = b.seen; shown = b.shown; mine = a.mine ++ m }
    → terms_of site alone b ≡ terms_of site alone a
same_terms site alone a b m e = ap (λ (c : Contents). terms_of site alone c) e

-- the law
pub then_on : (alone : Bool) (setting : Setting) (r : Round) (from to : Stage) (is : World) (result : Served)
    → IsStep alone setting r from to → IsRemainder alone setting to is result → IsRemainder alone setting from is result
then_on alone setting r from to is result step c =
    let same : terms_at alone setting to.world.shelf ≡ terms_at alone setting from.world.shelf =
    same_terms setting.site alone from.world.shelf.contents to.world.shelf.contents (gains_by r).numbers step.made.gained.stored in
    record {
      rounds = r ∷ c.rounds;
      rest = c.rest;
      accounts = accounts_on from.world.heard.given from.pending to.world.heard.given to.pending is.heard.given r.wire (course_wire c.rounds) c.rest
          step.accounts c.accounts;
      lawful = (
        step.made.lawful,
        step.made.leads,
        step.made.knows,
        (λ yes_it. let bad : ⊥ = cc (step.stays, yes_it) in absurd bad),
        rw (step.next, same, step.made.left) at c.lawful,
      );
      ends = ends_behind from.served r c.rounds c.rest from.world.heard to.world.heard is.heard step.said result setting.site step.stays
          (left_false r.lacked (closes_outcome from.served r.outcome) step.stays)
          (λ head refusal. no_refusal from.served r.outcome head refusal (right_false r.lacked (closes_outcome from.served r.outcome) step.stays)) (rw step.next at c.ends);
      gained = gained_both alone setting from.world to.world is (gains_by r) (gains_of c.rounds) step.made.gained c.gained;
      images = images_both (terms_at alone setting from.world.shelf) r c.rounds from.world.shelf to.world.shelf is.shelf step.made.images
          (rw same at c.images);
    }

-- what is left of a connection from its first stage on is all of it
pub whole_connection : (alone : Bool) (setting : Setting) (was is : World) (result : Served)
    → IsRemainder alone setting (record { served = 0; pending = []; world = was }) is result → IsConnection alone setting was is result
whole_connection alone setting was is result c = record {
  rounds = c.rounds;
  rest = c.rest;
  given = c.accounts was.heard.given (sym (append-nil was.heard.given));
  lawful = c.lawful;
  ends = c.ends;
  asked = c.gained.asked;
  logged = c.gained.logged;
  stored = c.gained.stored;
  images = c.images;
}
