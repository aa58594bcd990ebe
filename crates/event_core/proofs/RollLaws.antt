-- What an archive promises where a volume is asked for is the machine's step.
use Rattle.std.proofs.Common.{◌≡◌, ℕ, Bool, true, false, if◌then◌else◌, List, [], ◌∷◌, ◌++◌, length, Option, Some, None, Result, Ok, Err, refl, sym, ap, subst, ◌∙◌, inl, inr, ⊎_elim}
use Rattle.std.specs.Prelude.{not, nat_eq, ⊤}
use Rattle.std.proofs.lemmas.Bool.{false≢true}
use Rattle.capture.proofs.GrowthLaws.{grows_from_itself}
use Rattle.capture.specs.Growth.{Grows}
use Rattle.capture.specs.declared.book.Book.{Book}
use Rattle.capture.specs.declared.book.Volume.{Volume}
use Rattle.capture.specs.declared.limits.Limits.{Limits}
use Rattle.disk_model.specs.declared.disk.Disk.{Ghosts}
use Rattle.archive_shelf.proofs.StoringLaws.{volume_grows}
use Rattle.archive_shelf.specs.Openings.{HasIds, IsState, Keeps}
use Rattle.archive_shelf.specs.Storing.{new_volume, rolled, rolled_in, with_volume}
use Rattle.archive_shelf.specs.Told.{ShowsItsBook}
use Rattle.archive_shelf.specs.declared.fault.RollFault.{RollFault}
use Rattle.archive_shelf.specs.declared.fault.RollFault.TheVariants as rolls
use Rattle.archive_volumes.specs.Held.{is_filled}
use Rattle.archive_core.specs.Holdings.{Holdings}
use Rattle.archive_taking.specs.Rolling.{MayBeRefused, Rolls, WritesNoVolume}
use Rattle.archive_core.specs.Told.{told_of}
use Rattle.event_core.proofs.StandLaws.{has_ids, kept_state, stands_by}
use Rattle.event_core.specs.Events.{roll_reply}
use Rattle.event_core.specs.Machine as machine
use Rattle.event_core.specs.Machine.{State}
use Rattle.event_core.specs.declared.event.Event.TheVariants as events
use Rattle.event_core.specs.steps.Standing.{Answers, Standing, Stands, state_at}

-- the volumes with one more, where the last holds a capture
rolled_more : (volumes : List Volume) (now : ℕ) → is_filled volumes ≡ true → rolled_in volumes now ≡ volumes ++ new_volume now ∷ []
rolled_more [] now filled = cc
rolled_more (last ∷ []) now filled = by (nat_eq (length last.captures) 0) filled
  where
    by : (b : Bool) → not b ≡ true → (if b then last ∷ [] else last ∷ new_volume now ∷ []) ≡ last ∷ new_volume now ∷ []
    by true e = cc
    by false e = refl
rolled_more (first ∷ next ∷ others) now filled = ap (λ (l : List Volume). first ∷ l) (rolled_more (next ∷ others) now filled)

rolled_is : (book : Book) (now : ℕ) → is_filled book.volumes ≡ true → with_volume book now ≡ rolled book now
rolled_is book now filled = λ i. record { namespace = book.namespace; volumes = sym (rolled_more book.volumes now filled) i }

-- where it goes, whatever the number of checkpoints
record RollsTo {D T : Type 0} (d : Ghosts D) (limits : Limits) (namespace : List ℕ) (is : Holdings D) (s : Standing) (now : ℕ) (result : Result T RollFault) : Type 0 where
  book : Book
  other : Option Book
  stands : Stands limits namespace (told_of d is) (record s { book = book; other = other })
  rolls : (n : ℕ) → machine.Rolls (state_at s n) now result (state_at (record s { book = book; other = other }) n)

module _ {D : Type 0} (d : Ghosts D) (was is : Holdings D) (now : ℕ) (limits : Limits) (namespace : List ℕ) (s : Standing)
    (stands : Stands limits namespace (told_of d was) s) where
  ids : HasIds was.book
  ids = has_ids limits namespace (told_of d was) s stands

  filled_as : (b : Bool) → is_filled s.book.volumes ≡ b → is_filled was.book.volumes ≡ b
  filled_as b filled = ap (λ (book : Book). is_filled book.volumes) stands.book ∙ filled

  -- nothing was done
  same_stands : is ≡ was → Stands limits namespace (told_of d is) s
  same_stands same = subst (λ (held : Holdings D). Stands limits namespace (told_of d held) s) (sym same) stands

  module _ {T : Type 0} (result : Result T RollFault) (h : Rolls d was is now result) (shows : ShowsItsBook true (told_of d is)) where
    -- the archive as it is but for its journal and its book
    abbrev here : Holdings D
    here = record was { journal = is.journal; book = is.book }

    goes : is_filled was.book.volumes ≡ true → (book : Book) (other : Option Book) → is.book ≡ book → Grows s.book book
        → IsState (told_of d here).crash book other
        → Stands limits namespace (told_of d is) (record s { book = book; other = other })
    goes filled book other seen grows opens =
        subst (λ (held : Holdings D). Stands limits namespace (told_of d held) (record s { book = book; other = other })) (sym h.others)
        (stands_by limits namespace (told_of d was) (told_of d here) s book other stands (record {
          tells = refl;
          limits_are = refl;
          seen = seen;
          grows = grows;
          opens = opens;
          kept = (h.makes filled).kept;
          shows = subst (λ (held : Holdings D). ShowsItsBook true (told_of d held)) h.others shows;
        }))

module _ {D : Type 0} (d : Ghosts D) (was is : Holdings D) (now : ℕ) (limits : Limits) (namespace : List ℕ) (s : Standing)
    (stands : Stands limits namespace (told_of d was) s) where
  rolls_to : {T : Type 0} (result : Result T RollFault) → Rolls d was is now result → ShowsItsBook true (told_of d is) → RollsTo {T = T} d limits namespace is s now result
  rolls_to {T} (Ok done) h shows = by (is_filled s.book.volumes) refl
    where
      by : (b : Bool) → is_filled s.book.volumes ≡ b → RollsTo {T = T} d limits namespace is s now (Ok done)
      by true filled =
          let yes_filled = filled_as d was is now limits namespace s stands true filled in
          let book : with_volume was.book now ≡ rolled s.book now =
          ap (λ (b : Book). with_volume b now) stands.book ∙ rolled_is s.book now filled in record {
            book = rolled s.book now;
            other = None;
            stands = goes d was is now limits namespace s stands (Ok done) h shows yes_filled (rolled s.book now) None
                (h.book ∙ ap (λ (b : Book). rolled b now) stands.book)
                (subst (Grows s.book) (rolled_is s.book now filled) (volume_grows s.book now))
                (subst (λ (b : Book). IsState (told_of d (here d was is now limits namespace s stands (Ok done) h shows)).crash b None) book
                ((h.makes yes_filled).only (ids d was is now limits namespace s stands)));
            rolls = λ n. sym (ap (λ (b : Bool). if b then record (state_at s n) { book = rolled s.book now; other = None } else state_at s n) filled);
          }
      by false empty = record {
        book = s.book;
        other = s.other;
        stands = same_stands d was is now limits namespace s stands
            (h.unwritten (subst (λ (b : Bool). WritesNoVolume {T = T} b (Ok done)) (sym (filled_as d was is now limits namespace s stands false empty)) tt));
        rolls = λ n. sym (ap (λ (b : Bool). if b then record (state_at s n) { book = rolled s.book now; other = None } else state_at s n) empty);
      }
  rolls_to {T} (Err rolls.DiskFault) h shows = by (is_filled s.book.volumes) refl
    where
      by : (b : Bool) → is_filled s.book.volumes ≡ b → RollsTo {T = T} d limits namespace is s now (Err rolls.DiskFault)
      by true filled =
          let yes_filled = filled_as d was is now limits namespace s stands true filled in
          let crash = (told_of d (here d was is now limits namespace s stands (Err rolls.DiskFault) h shows)).crash in
          ⊎_elim
          (λ keeps. record {
            book = s.book;
            other = s.other;
            stands = goes d was is now limits namespace s stands (Err rolls.DiskFault) h shows yes_filled s.book s.other
                (h.book ∙ stands.book) (grows_from_itself s.book)
                (kept_state (told_of d was).crash crash s.book s.other
                (subst (λ (b : Book). Keeps (told_of d was).crash crash b) stands.book keeps) stands.opens);
            rolls = λ n. record { filled = filled; other = inl refl; left = refl };
          })
          (λ state. record {
            book = s.book;
            other = Some (rolled s.book now);
            stands = goes d was is now limits namespace s stands (Err rolls.DiskFault) h shows yes_filled s.book (Some (rolled s.book now))
                (h.book ∙ stands.book) (grows_from_itself s.book)
                (subst (λ (b : Book). IsState crash s.book (Some b)) (rolled_is s.book now filled)
                (subst (λ (b : Book). IsState crash b (Some (with_volume b now))) stands.book state));
            rolls = λ n. record { filled = filled; other = inr (inr refl); left = refl };
          })
          ((h.makes yes_filled).refused (ids d was is now limits namespace s stands))
      by false empty =
          absurd (false≢true (subst (λ (b : Bool). MayBeRefused {T = T} b (Err rolls.DiskFault)) (filled_as d was is now limits namespace s stands false empty) h.refused))
  rolls_to {T} (Err rolls.Memory) h shows = record {
    book = s.book;
    other = s.other;
    stands = same_stands d was is now limits namespace s stands (by (is_filled was.book.volumes) h.unwritten);
    rolls = λ n. refl;
  }
    where
      by : (b : Bool) → (WritesNoVolume {T = T} b (Err rolls.Memory) → is ≡ was) → is ≡ was
      by true unwritten = unwritten tt
      by false unwritten = unwritten tt

  pub roll_answers : {T : Type 0} (result : Result T RollFault) (unit : Result ⊤ RollFault) → Rolls d was is now result → ShowsItsBook true (told_of d is)
      → ((a b : State) → machine.Rolls a now result b → machine.Rolls a now unit b)
      → Answers limits namespace (told_of d is) s (events.Roll now) (roll_reply unit)
  roll_answers result unit h shows same =
      let to = rolls_to result h shows in record {
        is = record s { book = to.book; other = to.other };
        stands = to.stands;
        steps = λ n may. (
          n,
          may,
          record {
            result = unit;
            answer = refl;
            rolls = same (state_at s n) (state_at (record s { book = to.book; other = to.other }) n) (to.rolls n);
          },
        );
      }
