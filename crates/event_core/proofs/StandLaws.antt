-- How an archive alone goes on standing in a state.
use Rattle.std.proofs.Common.{◌≡◌, ℕ, ◌-◌, ◌^◌, ◌<◌, true, IsTrue, List, length, Option, refl, sym, ap, subst, ◌∙◌, inl, ⊎_elim, arith}
use Rattle.capture.proofs.GrowthLaws.{grows_from_itself}
use Rattle.capture.specs.Captures.{captures}
use Rattle.capture.specs.Growth.{Grows}
use Rattle.capture.specs.declared.book.Book.{Book}
use Rattle.capture.specs.declared.limits.Limits.{Limits}
use Rattle.archive_shelf.specs.Contents.{Contents, IsConsistent}
use Rattle.archive_shelf.specs.Openings.{CrashStates, HasIds, IsEarlier, IsState, Keeps, KeepsCheckpoints, LeavesNoMore, OpensNext}
use Rattle.archive_shelf.specs.Told.{ShowsItsBook, Told}
use Rattle.warc_text.specs.Sound.{IsSound}
use Rattle.event_core.proofs.TallyLaws.{right_stays, sealed_grows, tally_stays}
use Rattle.event_core.specs.Events.{Steps}
use Rattle.event_core.specs.Machine.{sealed}
use Rattle.event_core.specs.Running.{AllIdsDiffer}
use Rattle.event_core.specs.declared.event.Event.{Event}
use Rattle.event_core.specs.declared.reply.Reply.{Reply}
use Rattle.event_core.specs.steps.Standing.{Answers, Standing, Stands, state_at}

-- ---- what may be opened

-- nothing more may be opened where nothing was written
pub quiet_keeps : (old new : CrashStates) (book : Book) → IsEarlier new → LeavesNoMore old new → Keeps old new book
quiet_keeps old new book earlier quiet = λ x opened.
    ⊎_elim (λ was. inl was) (λ bad. absurd bad)
    (quiet.moves old.moment x (omega arith) (earlier old.moment new.moment x quiet.later opened))

pub kept_state : (old new : CrashStates) (book : Book) (other : Option Book) → Keeps old new book → IsState old book other → IsState new book other
kept_state old new book other keeps state = λ x opened. ⊎_elim (λ was. state x was) (λ same. inl same) (keeps x opened)

-- ---- standing

module _ (limits : Limits) (namespace : List ℕ) where
  pub is_sound : (now : Told) (s : Standing) → Stands limits namespace now s → IsSound s.book
  is_sound now s stands = subst IsSound stands.book (stands.shows.consistent.sound stands.tells)

  -- the ids of a sound book in the namespace differ, and that of one more
  pub ids_of : (book : Book) → AllIdsDiffer namespace → book.namespace ≡ namespace → IsSound book → HasIds book
  ids_of book ids is sound =
      let few : length (captures book) < 2 ^ 32 - 1 = sound.sound.few in
      let here : AllIdsDiffer book.namespace = subst AllIdsDiffer (sym is) ids in
      λ m n lm ln e. here m n (omega (arith, few, lm)) (omega (arith, few, ln)) e

  pub has_ids : (now : Told) (s : Standing) → Stands limits namespace now s → HasIds now.contents.seen
  has_ids now s stands =
      ids_of now.contents.seen stands.ids (ap (λ (b : Book). b.namespace) stands.book ∙ stands.in_namespace)
      (stands.shows.consistent.sound stands.tells)

  -- with a book that has grown, or the same, and checkpoints that a crash might have left before
  pub record GoesTo (old new : Told) (was : Standing) (book : Book) (other : Option Book) : Type 0 where
    pub tells : new.contents.tells ≡ old.contents.tells
    pub limits_are : new.contents.limits ≡ old.contents.limits
    pub seen : new.contents.seen ≡ book
    pub grows : Grows was.book book
    pub opens : IsState new.crash book other
    pub kept : KeepsCheckpoints old.crash new.crash
    pub shows : ShowsItsBook true new

  pub stands_by : (old new : Told) (was : Standing) (book : Book) (other : Option Book) → Stands limits namespace old was → GoesTo old new was book other
      → Stands limits namespace new (record was { book = book; other = other })
  stands_by old new was book other stands goes = record {
    tells = subst IsTrue (sym goes.tells) stands.tells;
    limits_are = goes.limits_are ∙ stands.limits_are;
    book = goes.seen;
    in_namespace = goes.grows.namespace ∙ stands.in_namespace;
    opens = goes.opens;
    shows = goes.shows;
    ids = stands.ids;
    right = λ files left. right_stays was.book book files goes.grows (stands.right files (goes.kept files left));
    tallied = tally_stays old.crash.checkpoints new.crash.checkpoints (sealed was.book) (sealed book) was.tally goes.kept
        (sealed_grows was.book book goes.grows) stands.tallied;
  }

  -- after a call that left what it holds
  pub stands_on : (old new : Told) (was : Standing) → Stands limits namespace old was → new.contents ≡ old.contents
      → Keeps old.crash new.crash was.book → KeepsCheckpoints old.crash new.crash → ShowsItsBook true new → Stands limits namespace new was
  stands_on old new was stands same keeps kept shows = stands_by old new was was.book was.other stands (record {
    tells = ap (λ (c : Contents). c.tells) same;
    limits_are = ap (λ (c : Contents). c.limits) same;
    seen = ap (λ (c : Contents). c.seen) same ∙ stands.book;
    grows = grows_from_itself was.book;
    opens = kept_state old.crash new.crash was.book was.other keeps stands.opens;
    kept = kept;
    shows = shows;
  })

  -- a call that only looked shows what was shown
  pub still_shows : (old new : Told) → new.contents ≡ old.contents → ((book : Book) → Keeps old.crash new.crash book) → ShowsItsBook true old → ShowsItsBook true new
  still_shows old new same keeps shows = record {
    consistent = subst (λ (c : Contents). IsConsistent true c) (sym same) shows.consistent;
    next = λ ids.
        let seen : new.contents.seen ≡ old.contents.seen = ap (λ (c : Contents). c.seen) same in
        subst (λ (b : Book). OpensNext new.crash b) (sym seen)
        (λ x opened. ⊎_elim
        (λ was. shows.next (subst HasIds seen ids) x was)
        (λ is. record { room = old.contents.seen; roomy = inl (inl refl); is = inl is })
        (keeps old.contents.seen x opened));
  }

  -- a step that leaves the checkpoints as they are
  pub answers_by : (new : Told) (was : Standing) (event : Event) (reply : Reply) (book : Book) (other : Option Book)
      → Stands limits namespace new (record was { book = book; other = other })
      → ((n : ℕ) → Steps limits (state_at was n) event reply (state_at (record was { book = book; other = other }) n))
      → Answers limits namespace new was event reply
  answers_by new was event reply book other stands step = record {
    is = record was { book = book; other = other };
    stands = stands;
    steps = λ n may. (n, may, step n);
  }
