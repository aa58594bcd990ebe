-- What a shelf alone promises of a store is the machine's step.
use Rattle.std.proofs.Common.{◌≡◌, ◌⊎◌, ℕ, ◌<◌, ◌≤◌, Bool, true, List, length, Option, Some, None, Result, Ok, Err, refl, sym, ap, subst, ◌∙◌, inl, inr, ⊎_elim, arith}
use Rattle.std.specs.Prelude.{OnOk}
use Rattle.std.proofs.lemmas.Bool.{false≢true}
use Rattle.capture.proofs.GrowthLaws.{grows_from_itself, growth_goes_on}
use Rattle.capture.specs.Captures.{captures}
use Rattle.capture.specs.Growth.{Grows}
use Rattle.capture.specs.declared.book.Book.{Book}
use Rattle.capture.specs.declared.captured.Taken.{Taken}
use Rattle.capture.specs.declared.limits.Limits.{Limits}
use Rattle.archive_shelf.proofs.StoringLaws.{gains_grow, storing_gains, volume_grows}
use Rattle.archive_shelf.specs.Answers.{HasStored, IsByRule, StoreLeaves, WritesNone, is_store_fault}
use Rattle.archive_shelf.specs.Contents.{Contents, Stays}
use Rattle.archive_shelf.specs.Laws.{CapturesAreStoredOneWay}
use Rattle.archive_shelf.specs.Openings.{HasIds, IsEarlier, IsRefused, IsState, Keeps}
use Rattle.archive_shelf.specs.Storing.{Storing, as_stored, stored_by, with_volume}
use Rattle.archive_shelf.specs.Told.{ShowsItsBook, StoresOn, Told}
use Rattle.archive_shelf.specs.declared.fault.StoreFault.{StoreFault}
use Rattle.archive_shelf.specs.declared.fault.StoreFault.TheVariants as stores
use Rattle.archive_shelf.specs.declared.receipt.Receipt.{Receipt}
use Rattle.event_core.proofs.StandLaws.{has_ids, kept_state, stands_by}
use Rattle.event_core.specs.Events.{store_reply}
use Rattle.event_core.specs.Machine as machine
use Rattle.event_core.specs.Machine.{State}
use Rattle.event_core.specs.declared.event.Event.TheVariants as events
use Rattle.event_core.specs.steps.Standing.{GoesOn, Standing, Stands, state_at}

-- ---- books

-- the volume that a capture needs is one that the book grows by
pub unfilled_grows : {limit : ℕ} {book : Book} {taken : Taken} (storing : Storing limit book taken) → Grows book storing.unfilled
unfilled_grows {limit} {book} {taken} storing = ⊎_elim
    (λ same. subst (Grows book) (sym same.1) (grows_from_itself book))
    (λ more. subst (Grows book) (sym more.1) (volume_grows book taken.date))
    storing.roomy

pub stored_grows : {limit : ℕ} {book : Book} {taken : Taken} (storing : Storing limit book taken) → Grows book (stored_by storing)
stored_grows {limit} {book} {taken} storing =
    gains_grow growth_goes_on book (stored_by storing) (as_stored taken storing.same) (storing_gains limit book taken storing)

-- ---- a store

-- the archive stands where the machine goes, whatever the number of checkpoints
pub record StoresTo (limits : Limits) (namespace : List ℕ) (now : Told) (was : Standing) (taken : Taken) (result : Result Receipt StoreFault) : Type 0 where
  pub book : Book
  pub other : Option Book
  pub stands : Stands limits namespace now (record was { book = book; other = other })
  pub stores : (n : ℕ) → machine.Stores limits (state_at was n) taken result (state_at (record was { book = book; other = other }) n)

module _ (namespace : List ℕ) (old new : Told) (was : Standing) where
  abbrev C : Contents
  C = old.contents

  abbrev C' : Contents
  C' = new.contents

  -- the same state, with the book that is seen
  abbrev s : Standing
  s = record was { book = C.seen }

  -- what stays of an archive in each case
  record Remains : Type 0 where
    tells : C'.tells ≡ C.tells
    limits_are : C'.limits ≡ C.limits

  module _ (one : CapturesAreStoredOneWay) (earlier : IsEarlier new.crash) (taken : Taken) (result : Result Receipt StoreFault)
      (on : StoresOn true taken old new result) (shows : ShowsItsBook true new) (stands : Stands C.limits namespace old s) where
    stands_in : Remains → (book : Book) (other : Option Book) → C'.seen ≡ book → Grows C.seen book → IsState new.crash book other
        → Stands C.limits namespace new (record s { book = book; other = other })
    stands_in remains book other seen grows state = stands_by C.limits namespace old new s book other stands (record {
      tells = remains.tells;
      limits_are = remains.limits_are;
      seen = seen;
      grows = grows;
      opens = state;
      kept = on.crash.kept;
      shows = shows;
    })

    -- where the book stayed and nothing more may be opened it stands in the same state
    stands_still : Remains → C'.seen ≡ C.seen → Keeps old.crash new.crash C.seen → Stands C.limits namespace new s
    stands_still remains seen keeps =
        stands_in remains C.seen s.other seen (grows_from_itself C.seen) (kept_state old.crash new.crash C.seen s.other keeps stands.opens)

    stays_remains : Stays true C C' → Remains
    stays_remains h = record { tells = ap (λ (c : Contents). c.tells) h.others; limits_are = ap (λ (c : Contents). c.limits) h.others }

    -- nothing was written
    no_more : WritesNone result → Keeps old.crash new.crash C.seen
    no_more none x opened = ⊎_elim (λ before. inl before) (λ bad. absurd bad)
        (on.crash.quiet none old.crash.moment x (omega arith) (earlier old.crash.moment new.crash.moment x on.crash.later opened))

    ids : HasIds C.seen
    ids = has_ids C.limits namespace old s stands

    stored_step : (receipt : Receipt) → HasStored true taken C C' receipt → IsState new.crash C'.seen None
        → StoresTo C.limits namespace new s taken (Ok receipt)
    stored_step receipt h only =
        let by : IsByRule C.limits.volume_bytes C.seen taken receipt C'.seen =
        subst (λ (b : Book). IsByRule C.limits.volume_bytes b taken receipt C'.seen) h.led (h.by_rule stands.tells) in
        let remains : Remains = record {
          tells = ap (λ (c : Contents). c.tells) h.others;
          limits_are = ap (λ (c : Contents). c.limits) h.others;
        } in record {
          book = stored_by by.0;
          other = None;
          stands = stands_in remains (stored_by by.0) None by.2 (stored_grows by.0)
              (subst (λ (b : Book). IsState new.crash b None) by.2 only);
          stores = λ n. record {
            room = subst (λ (b : Book). length (captures b) < C.limits.captures) h.led h.not_full;
            storing = by.0;
            number = h.number ∙ ap (λ (b : Book). length (captures b)) h.led;
            same_as = by.1;
            left = refl;
          };
        }

    refused_step : StoreLeaves true taken C C' (Err stores.DiskFault) → IsRefused old.crash new.crash C C' taken
        → StoresTo C.limits namespace new s taken (Err stores.DiskFault)
    refused_step h refused = ⊎_elim stays part refused
      where
        remains : Remains
        remains = record { tells = ap (λ (c : Contents). c.tells) h.5; limits_are = ap (λ (c : Contents). c.limits) h.5 }

        room : length (captures C.seen) < C.limits.captures
        room = subst (λ (b : Book). length (captures b) < C.limits.captures) h.1 h.2

        stays : (C'.seen ≡ C.seen) × Keeps old.crash new.crash C.seen → StoresTo C.limits namespace new s taken (Err stores.DiskFault)
        stays same = record {
          book = C.seen;
          other = s.other;
          stands = stands_still remains same.0 same.1;
          stores = λ n. (room, inl (record { other = inl refl; left = refl }));
        }

        -- the volume that is there without the capture is the one that it needs
        left_book : (storing : Storing C.limits.volume_bytes C.seen taken) → (C'.seen ≡ C.seen) ⊎ (C'.seen ≡ storing.unfilled)
        left_book storing = ⊎_elim
            (λ same. inl (same ∙ h.1))
            (λ alone.
            let needed = alone.needed stands.tells in
            let other : Storing C.limits.volume_bytes h.0 taken = record {
              same = needed.0;
              unfilled = with_volume h.0 taken.date;
              refers = needed.1;
              roomy = inr (needed.2, refl);
            } in
            let here : (o : Storing C.limits.volume_bytes C.seen taken) × (o.unfilled ≡ C'.seen) =
            subst (λ (b : Book). (o : Storing C.limits.volume_bytes b taken) × (o.unfilled ≡ C'.seen)) h.1 (other, sym alone.volume) in
            inr (sym here.1 ∙ (one C.limits.volume_bytes C.seen taken here.0 storing).unfilled))
            h.3

        grows_by : (storing : Storing C.limits.volume_bytes C.seen taken) → Grows C.seen C'.seen
        grows_by storing = ⊎_elim
            (λ same. subst (Grows C.seen) (sym same) (grows_from_itself C.seen))
            (λ more. subst (Grows C.seen) (sym more) (unfilled_grows storing))
            (left_book storing)

        leaves : (storing : Storing C.limits.volume_bytes C.seen taken) (other : Option Book)
            → (other ≡ None) ⊎ (other ≡ Some storing.unfilled) ⊎ (other ≡ Some (stored_by storing))
            → IsState new.crash C'.seen other → StoresTo C.limits namespace new s taken (Err stores.DiskFault)
        leaves storing other which state = record {
          book = C'.seen;
          other = other;
          stands = stands_in remains C'.seen other refl (grows_by storing) state;
          stores = λ n. (room, inr (storing, record { book = left_book storing; other = which; left = refl }));
        }

        part : ((storing : Storing C.limits.volume_bytes C.seen taken)
            × (IsState new.crash C'.seen (Some storing.unfilled) ⊎ IsState new.crash C'.seen (Some (stored_by storing))))
            → StoresTo C.limits namespace new s taken (Err stores.DiskFault)
        part begun = ⊎_elim
            (λ volume. leaves begun.0 (Some begun.0.unfilled) (inr (inl refl)) volume)
            (λ capture. leaves begun.0 (Some (stored_by begun.0)) (inr (inr refl)) capture)
            begun.1

    -- by what it answered
    by_result : (r : Result Receipt StoreFault) → r ≡ result → StoreLeaves true taken C C' r → StoresTo C.limits namespace new s taken r
    by_result (Ok receipt) is h =
        stored_step receipt h (subst (λ (r : Result Receipt StoreFault). OnOk r (IsState new.crash C'.seen None)) (sym is) (on.crash.only ids))
    by_result (Err (stores.Full count limit)) is h = record {
      book = C.seen;
      other = s.other;
      stands = stands_still (stays_remains h.0) h.0.seen (no_more (subst WritesNone is tt));
      stores = λ n. (
        subst (λ (b : Book). C.limits.captures ≤ length (captures b)) h.0.seen h.1,
        h.2 ∙ ap (λ (b : Book). length (captures b)) h.0.seen,
        h.3,
        refl,
      );
    }
    by_result (Err stores.DiskFault) is h =
        refused_step h (on.crash.refused refl stands.tells ids (ap is_store_fault (sym is)))
    by_result (Err (stores.Damaged number kept found)) is h = absurd (false≢true (sym h.3.untold ∙ stands.tells))
    by_result (Err stores.Memory) is h = record {
      book = C.seen;
      other = s.other;
      stands = stands_still (stays_remains h) h.seen (no_more (subst WritesNone is tt));
      stores = λ n. refl;
    }

pub stores_to : CapturesAreStoredOneWay → (old new : Told) (taken : Taken) (result : Result Receipt StoreFault) → IsEarlier new.crash
    → StoresOn true taken old new result → ShowsItsBook true new → (limits : Limits) (namespace : List ℕ) (was : Standing)
    → Stands limits namespace old was → StoresTo limits namespace new was taken result
stores_to one old new taken result earlier on shows limits namespace was stands =
    let seen : Standing = record was { book = old.contents.seen } in
    let same : seen ≡ was = λ i. record { book = stands.book i; other = was.other; tally = was.tally } in
    let here : Stands old.contents.limits namespace old seen =
    subst (λ (l : Limits). Stands l namespace old seen) (sym stands.limits_are)
    (subst (λ (t : Standing). Stands limits namespace old t) (sym same) stands) in
    subst (λ (l : Limits). StoresTo l namespace new was taken result) stands.limits_are
    (subst (λ (t : Standing). StoresTo old.contents.limits namespace new t taken result) same
    (by_result namespace old new was one earlier taken result on shows here result refl on.leaves))

pub store_goes_on : CapturesAreStoredOneWay → (alone : Bool) (old new : Told) (taken : Taken) (result : Result Receipt StoreFault) → IsEarlier new.crash
    → StoresOn alone taken old new result → ShowsItsBook alone new → alone ≡ true → (limits : Limits) (namespace : List ℕ)
    → GoesOn limits namespace old new (events.Store taken) (store_reply result)
store_goes_on one alone old new taken result earlier on shows is limits namespace was stands =
    let to = stores_to one old new taken result earlier (subst (λ (a : Bool). StoresOn a taken old new result) is on)
    (subst (λ (a : Bool). ShowsItsBook a new) is shows) limits namespace was stands in record {
      is = record was { book = to.book; other = to.other };
      stands = to.stands;
      steps = λ n may. (n, may, record { result = result; answer = refl; stores = to.stores n });
    }
