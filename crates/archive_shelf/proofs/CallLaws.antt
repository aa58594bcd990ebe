-- What follows from what a call of a shelf left, and how calls compose.
use Rattle.std.proofs.Common.{◌≡◌, ◌⊎◌, ℕ, ◌≤◌, Bool, true, false, IsTrue, List, [], ◌∷◌, ◌++◌, Result, Ok, Err, refl, sym, ◌∙◌, ap, subst, inl, inr, ⊎_elim, arith, append_assoc, append-nil}
use Rattle.std.specs.Prelude.{Some, None}
use Rattle.std.proofs.lemmas.Bool.{false≢true}
use Rattle.capture.proofs.GrowthLaws.{grows_from_itself, growth_goes_on}
use Rattle.capture.specs.declared.book.Book.{Book}
use Rattle.capture.specs.declared.captured.Taken.{Taken}
use Rattle.index_entry.specs.Facts.{Facts}
use Rattle.disk_model.specs.Image.{Image}
use Rattle.archive_shelf.proofs.StoringLaws.{leading_grows, leads_itself, stores_grow}
use Rattle.archive_shelf.specs.Answers.{CountsIf, LeavesReading, StoreLeaves, is_store_fault}
use Rattle.archive_shelf.specs.Contents.{Begins, Contents, IsConsistent, Leads, LeadsShown, Looks, Shows, Stays}
use Rattle.archive_shelf.specs.Openings.{CrashStates, IsEarlier, Keeps, LeavesNoMore}
use Rattle.archive_shelf.specs.Told.{CatchesUp, GoesOn, LooksOn, ReadsOn, StoreMayLeave, StoresOn, Told, WritesNothing}
use Rattle.archive_shelf.specs.declared.fault.StoreFault.{StoreFault}
use Rattle.archive_shelf.specs.declared.fault.StoreFault.TheVariants as stores
use Rattle.archive_shelf.specs.declared.receipt.Receipt.{Receipt}

-- ---- lists

begins_same : {A : Type 0} (a b : List A) → b ≡ a → Begins a b
begins_same a b e = record { rest = []; joined = e ∙ sym (append-nil a) }

pub begins_both : {A : Type 0} (a b c : List A) → Begins a b → Begins b c → Begins a c
begins_both {A} a b c h k = record {
  rest = h.rest ++ k.rest;
  joined = k.joined ∙ ap (λ (x : List A). x ++ k.rest) h.joined ∙ append_assoc a h.rest k.rest;
}

pub leads_begins : (alone : Bool) (a b : List Facts) → LeadsShown alone None a b → Begins a b
leads_begins true a b e = begins_same a b e
leads_begins false a b h = h

pub past_begins : (alone : Bool) (number : ℕ) (a b : List Facts) → LeadsShown alone (Some number) a b → Begins a b
past_begins true number a b (inl e) = begins_same a b e
past_begins true number a b (inr (entry, number_is, e)) = record { rest = entry ∷ []; joined = e }
past_begins false number a b h = h

-- ---- what is seen and shown

pub shown_itself : (alone : Bool) (shown : List Facts) → LeadsShown alone None shown shown
shown_itself true shown = refl
shown_itself false shown = begins_same shown shown refl

pub leads_same : (alone : Bool) (a b : Book) → IsTrue alone → Leads alone a b → b ≡ a
leads_same true a b t e = e
leads_same false a b t h = absurd (false≢true t)

pub shown_same : (alone : Bool) (a b : List Facts) → IsTrue alone → LeadsShown alone None a b → b ≡ a
shown_same true a b t e = e
shown_same false a b t h = absurd (false≢true t)

pub leads_both : (alone : Bool) (a b c : Book) → Leads alone a b → Leads alone b c → Leads alone a c
leads_both true a b c e f = f ∙ e
leads_both false a b c h k = growth_goes_on a b c h k

pub leads_shown_both : (alone : Bool) (a b c : List Facts) → LeadsShown alone None a b → LeadsShown alone None b c → LeadsShown alone None a c
leads_shown_both true a b c e f = f ∙ e
leads_shown_both false a b c h k = begins_both a b c h k

-- what a look leaves of the contents
pub same_seen : (was is : Contents) → is ≡ record was { shown = is.shown } → is.seen ≡ was.seen
same_seen was is e = ap (λ (x : Contents). x.seen) e

pub same_tells : (was is : Contents) → is ≡ record was { shown = is.shown } → is.tells ≡ was.tells
same_tells was is e = ap (λ (x : Contents). x.tells) e

pub looked_stays : (alone : Bool) (was is : Contents) → Looks alone was is → Stays alone was is
looked_stays alone was is h = record {
  seen = subst (λ (b : Book). Leads alone was.seen b) (sym (same_seen was is h.others)) (leads_itself grows_from_itself alone was.seen);
  shown = h.shown;
  others = h.others ∙ ap (λ (b : Book). record was { seen = b; shown = is.shown }) (sym (same_seen was is h.others));
}

pub stays_itself : (alone : Bool) (now : Contents) → Stays alone now now
stays_itself alone now = record {
  seen = leads_itself grows_from_itself alone now.seen;
  shown = shown_itself alone now.shown;
  others = refl;
}

pub stays_both : (alone : Bool) (was mid is : Contents) → Stays alone was mid → Stays alone mid is → Stays alone was is
stays_both alone was mid is h k = record {
  seen = leads_both alone was.seen mid.seen is.seen h.seen k.seen;
  shown = leads_shown_both alone was.shown mid.shown is.shown h.shown k.shown;
  others = k.others ∙ ap (λ (x : Contents). record x { seen = is.seen; shown = is.shown }) h.others;
}

pub stays_tells : (alone : Bool) (was is : Contents) → Stays alone was is → is.tells ≡ was.tells
stays_tells alone was is h = ap (λ (x : Contents). x.tells) h.others

pub looked_consistent : (alone : Bool) (was is : Contents) → Looks alone was is → IsConsistent alone was → IsConsistent alone is
looked_consistent alone was is h c = record {
  sound = λ tells. rw (same_seen was is h.others) (c.sound (rw (same_tells was is h.others) at tells));
  shown = λ a tells. rw (same_seen was is h.others, shown_same alone was.shown is.shown a h.shown)
      (c.shown a (rw (same_tells was is h.others) at tells));
}

-- ---- what a crash may leave

pub no_more : {P : Type 0} → P ⊎ ⊥ → P
no_more (inl p) = p
no_more (inr none) = absurd none

pub leaves_no_more_itself : (now : CrashStates) → LeavesNoMore now now
leaves_no_more_itself now = record { later = omega arith; moves = λ t x le o. inl o; covered = λ t le all. all; kept = λ files has. has }

pub leaves_no_more_both : (was mid is : CrashStates) → LeavesNoMore was mid → LeavesNoMore mid is → LeavesNoMore was is
leaves_no_more_both was mid is h k = record {
  later = omega (arith, h.later, k.later);
  moves = λ t x le o. h.moves t x le (no_more (k.moves t x (omega (arith, le, h.later)) o));
  covered = λ t le all. k.covered t (omega (arith, le, h.later)) (h.covered t le all);
  kept = λ files has. h.kept files (k.kept files has);
}

-- what may be opened now might have been before
pub opened_before : (was is : CrashStates) → IsEarlier is → LeavesNoMore was is → (x : Book) → is.openings is.moment x → was.openings was.moment x
opened_before was is earlier h x o = no_more (h.moves was.moment x (omega arith) (earlier was.moment is.moment x h.later o))

pub no_more_keeps : (was is : CrashStates) (book : Book) → IsEarlier is → LeavesNoMore was is → Keeps was is book
no_more_keeps was is book earlier h x o = inl (opened_before was is earlier h x o)

pub keeps_behind : (was mid is : CrashStates) (book : Book) → IsEarlier mid → LeavesNoMore was mid → Keeps mid is book → Keeps was is book
keeps_behind was mid is book earlier h keeps x o = ⊎_elim (λ before. no_more_keeps was mid book earlier h x before) (λ same. inr same) (keeps x o)

-- ---- nothing was written

pub writes_nothing_itself : (alone : Bool) (now : Told) → WritesNothing alone now now
writes_nothing_itself alone now = record { reading = λ _ _. refl; crash = leaves_no_more_itself now.crash }

pub writes_nothing_both : (alone : Bool) (was mid is : Told) → mid.contents.tells ≡ was.contents.tells → WritesNothing alone was mid
    → WritesNothing alone mid is → WritesNothing alone was is
writes_nothing_both alone was mid is same h k = record {
  reading = λ a tells. k.reading a (subst IsTrue (sym same) tells) ∙ h.reading a tells;
  crash = leaves_no_more_both was.crash mid.crash is.crash h.crash k.crash;
}

-- ---- counts

pub counted : (fault : Bool) (before now : ℕ) → CountsIf fault before now → before ≤ now
counted true before now h = h.0
counted false before now e = omega (arith, e)

-- ---- looks, and one read behind the other

pub looks_itself : (alone : Bool) (now : Told) → LooksOn alone now now
looks_itself alone now = record {
  looks = record { shown = shown_itself alone now.contents.shown; others = refl };
  faults = refl;
  unwritten = writes_nothing_itself alone now;
}

-- a look is a read that met no fault
pub looked_reads : (alone : Bool) (was is : Told) → LooksOn alone was is → ReadsOn alone false was is
looked_reads alone was is h = record {
  stays = looked_stays alone was.contents is.contents h.looks;
  faults = h.faults;
  unwritten = h.unwritten;
}

pub reads_itself : (alone : Bool) (now : Told) → ReadsOn alone false now now
reads_itself alone now = looked_reads alone now now (looks_itself alone now)

-- behind a read that met no fault, another one
pub read_both : (alone fault : Bool) (was mid is : Told) → ReadsOn alone false was mid → ReadsOn alone fault mid is → ReadsOn alone fault was is
read_both alone fault was mid is h k = record {
  stays = stays_both alone was.contents mid.contents is.contents h.stays k.stays;
  faults = subst (λ (n : ℕ). CountsIf fault n is.faults) h.faults k.faults;
  unwritten = writes_nothing_both alone was mid is (stays_tells alone was.contents mid.contents h.stays) h.unwritten k.unwritten;
}

-- ---- catching up

pub looked_catches : (alone : Bool) (was is : Told) → LooksOn alone was is → CatchesUp alone was is
looked_catches alone was is h = record {
  reads = looked_reads alone was is h;
  knows = λ tells shown knows. subst (λ (b : Book). Shows alone b shown) (same_seen was.contents is.contents h.looks.others) knows;
  consistent = looked_consistent alone was.contents is.contents h.looks;
}

pub catches_itself : (alone : Bool) (now : Told) → CatchesUp alone now now
catches_itself alone now = looked_catches alone now now (looks_itself alone now)

pub caught_both : (alone : Bool) (was mid is : Told) → CatchesUp alone was mid → CatchesUp alone mid is → CatchesUp alone was is
caught_both alone was mid is h k = record {
  reads = read_both alone false was mid is h.reads k.reads;
  knows = λ tells shown knows.
      h.knows tells shown (k.knows (subst (λ (b : Bool). IsTrue b) (sym (stays_tells alone was.contents mid.contents h.reads.stays)) tells) shown knows);
  consistent = λ before. k.consistent (h.consistent before);
}

-- ---- a store

-- a store that wrote nothing leaves nothing more
pub unwritten_store : (alone : Bool) (taken : Taken) (was is : Told) (fault : StoreFault) → is.contents.seen ≡ was.contents.seen → IsEarlier is.crash
    → LeavesNoMore was.crash is.crash → StoreMayLeave alone taken was is (Err fault)
unwritten_store alone taken was is fault same earlier h = record {
  later = h.later;
  moves = λ ids t x le o. inl (no_more (h.moves t x le o));
  only = λ ids. tt;
  refused = λ a tells ids denied. inl (same, no_more_keeps was.crash is.crash was.contents.seen earlier h);
  quiet = λ none. h.moves;
  covered = h.covered;
  kept = h.kept;
}

-- what it may leave where nothing was written before it
may_leave_behind : (alone : Bool) (taken : Taken) (was mid is : Told) (result : Result Receipt StoreFault) → mid.contents ≡ was.contents
    → IsEarlier mid.crash → LeavesNoMore was.crash mid.crash → StoreMayLeave alone taken (record mid { contents = was.contents }) is result
    → StoreMayLeave alone taken was is result
may_leave_behind alone taken was mid is result same earlier h k = record {
  later = omega (arith, h.later, k.later);
  moves = λ ids t x le o. ⊎_elim
      (λ before. inl (no_more (h.moves t x le before)))
      (λ may. inr may)
      (k.moves ids t x (omega (arith, le, h.later)) o);
  only = k.only;
  refused = λ a tells ids denied. ⊎_elim
      (λ (stays : (is.contents.seen ≡ was.contents.seen) × Keeps mid.crash is.crash was.contents.seen).
      inl (stays.0, keeps_behind was.crash mid.crash is.crash was.contents.seen earlier h stays.1))
      (λ other. inr other)
      (k.refused a tells ids denied);
  quiet = λ none t x le o. inl (no_more (h.moves t x le (no_more (k.quiet none t x (omega (arith, le, h.later)) o))));
  covered = λ t le all. k.covered t (omega (arith, le, h.later)) (h.covered t le all);
  kept = λ files has. h.kept files (k.kept files has);
}

-- behind calls that wrote nothing, met no fault and left the contents, a store is one from before them
pub stores_behind : (alone : Bool) (taken : Taken) (was mid is : Told) (result : Result Receipt StoreFault) → mid.contents ≡ was.contents
    → mid.faults ≡ was.faults → IsEarlier mid.crash → WritesNothing alone was mid → StoresOn alone taken mid is result
    → StoresOn alone taken was is result
stores_behind alone taken was mid is result same steady earlier h k =
    let l : StoresOn alone taken (record mid { contents = was.contents }) is result =
    subst (λ (c : Contents). StoresOn alone taken (record mid { contents = c }) is result) same k in
    record {
      leaves = l.leaves;
      faults = subst (λ (n : ℕ). CountsIf (is_store_fault result) n is.faults) steady l.faults;
      reading = λ a tells. subst (λ (image : Image). LeavesReading image is.reading result) (h.reading a tells) (l.reading a tells);
      crash = may_leave_behind alone taken was mid is result same earlier h.crash l.crash;
    }

-- ---- what holds through each call

pub goes_on_itself : (alone : Bool) (now : Told) → GoesOn alone now now
goes_on_itself alone now = record {
  grows = grows_from_itself now.contents.seen;
  shows = begins_same now.contents.shown now.contents.shown refl;
  mine = begins_same now.contents.mine now.contents.mine refl;
  same_tells = refl;
  same_limits = refl;
  consistent = λ c. c;
  faults = omega arith;
  later = omega arith;
  covered = λ t le c. c;
  kept = λ files has. has;
}

pub goes_on_both : (alone : Bool) (was mid is : Told) → GoesOn alone was mid → GoesOn alone mid is → GoesOn alone was is
goes_on_both alone was mid is h k = record {
  grows = growth_goes_on was.contents.seen mid.contents.seen is.contents.seen h.grows k.grows;
  shows = begins_both was.contents.shown mid.contents.shown is.contents.shown h.shows k.shows;
  mine = begins_both was.contents.mine mid.contents.mine is.contents.mine h.mine k.mine;
  same_tells = k.same_tells ∙ h.same_tells;
  same_limits = k.same_limits ∙ h.same_limits;
  consistent = λ c. k.consistent (h.consistent c);
  faults = omega (arith, h.faults, k.faults);
  later = omega (arith, h.later, k.later);
  covered = λ t le c. k.covered t (omega (arith, le, h.later)) (h.covered t le c);
  kept = λ files has. h.kept files (k.kept files has);
}

-- what stays goes on, where what is consistent stays so
stays_goes_on : (alone fault : Bool) (was is : Told) → (IsConsistent alone was.contents → IsConsistent alone is.contents) → Stays alone was.contents is.contents
    → CountsIf fault was.faults is.faults → LeavesNoMore was.crash is.crash → GoesOn alone was is
stays_goes_on alone fault was is consistent stays faults crash = record {
  grows = leading_grows grows_from_itself alone was.contents.seen is.contents.seen stays.seen;
  shows = leads_begins alone was.contents.shown is.contents.shown stays.shown;
  mine = begins_same was.contents.mine is.contents.mine (ap (λ (x : Contents). x.mine) stays.others);
  same_tells = ap (λ (x : Contents). x.tells) stays.others;
  same_limits = ap (λ (x : Contents). x.limits) stays.others;
  consistent = consistent;
  faults = counted fault was.faults is.faults faults;
  later = crash.later;
  covered = crash.covered;
  kept = crash.kept;
}

pub caught_goes_on : (alone : Bool) (was is : Told) → CatchesUp alone was is → GoesOn alone was is
caught_goes_on alone was is h = stays_goes_on alone false was is h.consistent h.reads.stays h.reads.faults h.reads.unwritten.crash

pub read_goes_on : (alone fault : Bool) (was is : Told) → IsConsistent alone is.contents → ReadsOn alone fault was is → GoesOn alone was is
read_goes_on alone fault was is consistent h = stays_goes_on alone fault was is (λ _. consistent) h.stays h.faults h.unwritten.crash

-- what a store leaves of the contents
shows_behind : (alone : Bool) (taken : Taken) (was is : Contents) (result : Result Receipt StoreFault) → StoreLeaves alone taken was is result
    → Begins was.shown is.shown
shows_behind alone taken was is (Ok receipt) h = past_begins alone receipt.number was.shown is.shown h.shown
shows_behind alone taken was is (Err (stores.Full count limit)) h = leads_begins alone was.shown is.shown h.0.shown
shows_behind alone taken was is (Err stores.DiskFault) h = leads_begins alone was.shown is.shown h.4
shows_behind alone taken was is (Err (stores.Damaged number kept found)) h = leads_begins alone was.shown is.shown h.0.shown
shows_behind alone taken was is (Err stores.Memory) h = leads_begins alone was.shown is.shown h.shown

mine_behind : (alone : Bool) (taken : Taken) (was is : Contents) (result : Result Receipt StoreFault) → StoreLeaves alone taken was is result
    → Begins was.mine is.mine
mine_behind alone taken was is (Ok receipt) h = record { rest = receipt.number ∷ []; joined = ap (λ (x : Contents). x.mine) h.others }
mine_behind alone taken was is (Err (stores.Full count limit)) h = begins_same was.mine is.mine (ap (λ (x : Contents). x.mine) h.0.others)
mine_behind alone taken was is (Err stores.DiskFault) h = begins_same was.mine is.mine (ap (λ (x : Contents). x.mine) h.5)
mine_behind alone taken was is (Err (stores.Damaged number kept found)) h = begins_same was.mine is.mine (ap (λ (x : Contents). x.mine) h.0.others)
mine_behind alone taken was is (Err stores.Memory) h = begins_same was.mine is.mine (ap (λ (x : Contents). x.mine) h.others)

pub stored_tells : (alone : Bool) (taken : Taken) (was is : Contents) (result : Result Receipt StoreFault) → StoreLeaves alone taken was is result
    → is.tells ≡ was.tells
stored_tells alone taken was is (Ok receipt) h = ap (λ (x : Contents). x.tells) h.others
stored_tells alone taken was is (Err (stores.Full count limit)) h = ap (λ (x : Contents). x.tells) h.0.others
stored_tells alone taken was is (Err stores.DiskFault) h = ap (λ (x : Contents). x.tells) h.5
stored_tells alone taken was is (Err (stores.Damaged number kept found)) h = ap (λ (x : Contents). x.tells) h.0.others
stored_tells alone taken was is (Err stores.Memory) h = ap (λ (x : Contents). x.tells) h.others

stored_limits : (alone : Bool) (taken : Taken) (was is : Contents) (result : Result Receipt StoreFault) → StoreLeaves alone taken was is result
    → is.limits ≡ was.limits
stored_limits alone taken was is (Ok receipt) h = ap (λ (x : Contents). x.limits) h.others
stored_limits alone taken was is (Err (stores.Full count limit)) h = ap (λ (x : Contents). x.limits) h.0.others
stored_limits alone taken was is (Err stores.DiskFault) h = ap (λ (x : Contents). x.limits) h.5
stored_limits alone taken was is (Err (stores.Damaged number kept found)) h = ap (λ (x : Contents). x.limits) h.0.others
stored_limits alone taken was is (Err stores.Memory) h = ap (λ (x : Contents). x.limits) h.others

pub stored_goes_on : (alone : Bool) (taken : Taken) (was is : Told) (result : Result Receipt StoreFault) → IsConsistent alone is.contents
    → StoresOn alone taken was is result → GoesOn alone was is
stored_goes_on alone taken was is result consistent h = record {
  grows = stores_grow grows_from_itself growth_goes_on alone taken was.contents is.contents result h.leaves;
  shows = shows_behind alone taken was.contents is.contents result h.leaves;
  mine = mine_behind alone taken was.contents is.contents result h.leaves;
  same_tells = stored_tells alone taken was.contents is.contents result h.leaves;
  same_limits = stored_limits alone taken was.contents is.contents result h.leaves;
  consistent = λ _. consistent;
  faults = counted (is_store_fault result) was.faults is.faults h.faults;
  later = h.crash.later;
  covered = h.crash.covered;
  kept = h.crash.kept;
}
