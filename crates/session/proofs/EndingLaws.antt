-- The last step of a connection makes it one.
use Rattle.std.proofs.Common.{inl, inr, ℕ, Bool, List, [], ◌∷◌, ◌++◌, refl, sym, ◌∙◌, ap}
use Rattle.std.proofs.lemmas.List.{append-nil}
use Rattle.archive_shelf.proofs.CallLaws.{shown_itself}
use Rattle.archive_shelf.specs.Laws.{BooksLeadToThemselves}
use Rattle.capture.specs.declared.site.Site.{Site}
use Rattle.outside.specs.Calls.{one_more}
use Rattle.outside.specs.declared.gate.Heard.{Heard}
use Rattle.request_answer.specs.Gains.{Setting, World, gains_of}
use Rattle.session.specs.steps.Stages.{Stage, IsRemainder, closes}
use Rattle.request_answer.specs.steps.Making.{Gained, terms_at, view_at, gains_by}
use Rattle.session.specs.steps.Endings.{LastIsWhole, LastIsInPart, client_at, heard_now}
use Rattle.session.specs.steps.Gaining.{no_gains}
use Rattle.session.specs.steps.Reads.{BreaksInside, MeetsEnd, MeetsNoMore}
use Rattle.request_answer.specs.Requests.{IsUndecided, interim_of}
use Rattle.request_answer.specs.Rounds.{Round}
use Rattle.session.specs.Stopping.{Ends, IsLeftOver}
use Rattle.request_answer.specs.Traces.{Terms, View, LeadsView}
use Rattle.session.specs.declared.served.Served.{Served}
use Rattle.session.specs.declared.served.Served.TheVariants.{Done, ClientBroke, ClientEndedEarly, ClientRefused, WantOfMemory}
use Rattle.session.proofs.CourseLaws.{none_unrefused, or_true, part_behind}
use Rattle.session.proofs.GainLaws.{gained_both, gained_none}
use Rattle.session.proofs.ImageLaws.{images_none}

-- what is seen leads to itself
pub view_itself : (terms : Terms) (view : View) → BooksLeadToThemselves → LeadsView terms view view
view_itself terms view itself = record { book = itself terms.alone view.book; shown = shown_itself terms.alone view.shown; same_dialer = refl; same_disk = refl }

-- a round's gains alone
gained_one : (alone : Bool) (setting : Setting) (r : Round) (was is : World) → Gained alone setting was is (gains_by r)
    → Gained alone setting was is (gains_of (r ∷ []))
gained_one alone setting r was is h =
    gained_both alone setting was is is (gains_by r) no_gains h (gained_none alone setting is is.heard)

-- a round that closes, whose text was written
pub last_whole : (alone : Bool) (setting : Setting) (r : Round) (rest : List ℕ) (from : Stage) (is : World) (result : Served)
    → BooksLeadToThemselves → LastIsWhole alone setting r rest from is result → IsRemainder alone setting from is result
last_whole alone setting r rest from is result itself h = record {
  rounds = r ∷ [];
  rest = rest;
  accounts = λ done e. h.accounts done e ∙ ap (λ w. done ++ (w ++ rest)) (sym (append-nil r.wire));
  lawful = (h.made.lawful, h.made.leads, h.made.knows, (λ _. refl), rw h.made.left (view_itself (terms_at alone setting from.world.shelf) r.traces.after itself));
  ends = h.ends (record {
    written = h.said.written ∙ ap (λ t. from.world.heard.written ++ t) (sym (append-nil (r.interim ++ r.text)));
    unfailed = h.said.unfailed;
    closed = or_true (closes from.served r) h.closed;
  });
  gained = gained_one alone setting r from.world is h.made.gained;
  images = h.made.images;
}

-- a round whose text was written in part
pub last_part : (alone : Bool) (setting : Setting) (r : Round) (rest : List ℕ) (from : Stage) (is : World) (result : Served)
    → BooksLeadToThemselves → LastIsInPart alone setting r rest from is result → IsRemainder alone setting from is result
last_part alone setting r rest from is result itself h = record {
  rounds = r ∷ [];
  rest = rest;
  accounts = λ done e. h.accounts done e ∙ ap (λ w. done ++ (w ++ rest)) (sym (append-nil r.wire));
  lawful = (h.made.lawful, h.made.leads, h.made.knows, (λ _. refl), rw h.made.left (view_itself (terms_at alone setting from.world.shelf) r.traces.after itself));
  ends = h.ends (record {
    init = [];
    last = r;
    are = refl;
    part = h.part;
    unwritten = h.unwritten;
  });
  gained = gained_one alone setting r from.world is h.made.gained;
  images = h.made.images;
}

-- how a connection ends where no more comes
meets_end : (end : Served) (site : Site) (served : ℕ) (rest : List ℕ) (then now : Heard) → MeetsEnd end site rest now → IsUndecided site rest
    → IsLeftOver site (record { served = served; rounds = []; rest = rest }) then now
    → Ends end site (record { served = served; rounds = []; rest = rest }) then now
meets_end Done site served rest then now (met, between, whole) undecided left = (whole, refl, none_unrefused, inr (met, between, left))
meets_end ClientBroke site served rest then now broke undecided left = (broke, refl, inr (inr (undecided, left)))
meets_end ClientEndedEarly site served rest then now (met, inside, whole) undecided left = (whole, refl, met, inside, left)
meets_end (ClientRefused refusal) site served rest then now h undecided left = absurd h
meets_end WantOfMemory site served rest then now h undecided left = absurd h

-- no round, and no more comes
pub no_round : (alone : Bool) (setting : Setting) (from : Stage) (now : Heard) (end : Served)
    → BooksLeadToThemselves → MeetsNoMore setting.site (client_at from) now end → IsRemainder alone setting from (heard_now from.world now) end
no_round alone setting from now end itself h = record {
  rounds = [];
  rest = h.rest;
  accounts = λ done e. h.taken.accounts done e ∙ ap (λ x. done ++ x) (append-nil h.rest);
  lawful = view_itself (terms_at alone setting from.world.shelf) (view_at from.world) itself;
  ends = meets_end end setting.site from.served h.rest from.world.heard now h.meets h.undecided (record {
    not_closed = refl;
    interim = h.interim;
    interim_is = h.interim_is;
    written = h.taken.said.written;
    unfailed = h.taken.said.unfailed;
  });
  gained = gained_none alone setting from.world now;
  images = images_none (terms_at alone setting from.world.shelf) from.world.shelf;
}

-- the link failed in the middle of a request
pub broke_inside : (alone : Bool) (setting : Setting) (from : Stage) (now : Heard) (end : Served)
    → BooksLeadToThemselves → BreaksInside setting.site (client_at from) now end → IsRemainder alone setting from (heard_now from.world now) ClientBroke
broke_inside alone setting from now end itself h = record {
  rounds = [];
  rest = h.begun ++ h.to.pending;
  accounts = λ done e. h.broke.same_given ∙ h.taken.accounts done e;
  lawful = view_itself (terms_at alone setting from.world.shelf) (view_at from.world) itself;
  ends = (
    h.broke.broke,
    refl,
    inr (inl (record {
      not_closed = refl;
      begun = h.begun;
      unread = h.to.pending;
      are = refl;
      head = h.head;
      begins = h.begins;
      part = part_behind h.to.heard.written (from.world.heard.written ++ []) now.written (interim_of setting.site h.head) h.taken.said.written h.broke.part;
      unwritten = h.broke.unwritten ∙ ap one_more h.taken.said.unfailed;
    })),
  );
  gained = gained_none alone setting from.world now;
  images = images_none (terms_at alone setting from.world.shelf) from.world.shelf;
}
