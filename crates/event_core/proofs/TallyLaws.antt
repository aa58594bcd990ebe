-- How many checkpoints may be finished, and how it goes on.
use Rattle.std.proofs.Common.{◌≡◌, ℕ, ◌+◌, ◌-◌, ◌<◌, ◌≤◌, List, Option, None, Some, refl, arith}
use Rattle.capture.proofs.GrowthLaws.{growth_keeps_captures}
use Rattle.capture.specs.Growth.{Grows}
use Rattle.capture.specs.declared.book.Book.{Book}
use Rattle.checkpoint.proofs.VolumeLaws.{sealed_lines_stay}
use Rattle.archive_settling.proofs.FinishedLaws.{sealed_later}
use Rattle.archive_settling.specs.Settling.{HasWithout}
use Rattle.event_core.proofs.CountLaws.{IsCutTo, cut_to, fewer, none_without}
use Rattle.event_core.specs.Machine.{sealed}
use Rattle.event_core.specs.steps.Standing.{AreRight, HasFinished, IsBound, IsTallied, MayBe, MayBeFinished, MayCount, Tally}

-- ---- a book that grows

pub right_stays : (was now : Book) (files : List (List ℕ)) → Grows was now → AreRight was files → AreRight now files
right_stays was now files grows right k lines is =
    let at = right k lines is in (
      omega (arith, at.0, sealed_later was now (k + 1) grows (omega (arith, at.0))),
      sealed_lines_stay growth_keeps_captures was now k lines grows at.0 at.1,
    )

-- how many are sealed doesn't fall
pub sealed_grows : (was now : Book) → Grows was now → sealed was ≤ sealed now
sealed_grows was now grows = sealed_later was now (sealed was) grows (omega arith)

bound_later : (most : Option ℕ) (upto old new : ℕ) → old ≤ new → IsBound most upto old → IsBound most upto new
bound_later None upto old new le is = tt
bound_later (Some most) upto old new le is = (is.0, omega (arith, le, is.1))

-- a crash leaves no other files, and no fewer volumes are sealed
pub tally_stays : (old new : List (List ℕ) → Type 0) (count more : ℕ) (tally : Tally) → ((files : List (List ℕ)) → new files → old files)
    → count ≤ more → IsTallied old count tally → IsTallied new more tally
tally_stays old new count more tally left le is = record {
  missing = is.missing;
  counted = is.counted;
  least_is = is.least_is;
  within = omega (arith, le, is.within);
  bound = bound_later tally.most tally.upto count more le is.bound;
  sure = λ files new_left. is.sure files (left files new_left);
  only = λ files new_left. is.only files (left files new_left);
}

-- the least number may be
pub least_may : (left : List (List ℕ) → Type 0) (count : ℕ) (tally : Tally) → IsTallied left count tally → MayBe tally tally.least
least_may left count tally is = by tally.most is.bound
  where
    by : (most : Option ℕ) → IsBound most tally.upto count → MayCount most tally.least tally.least
    by None bound = refl
    by (Some most) bound = (omega arith, omega (arith, bound.0, is.least_is))

-- no more may be than are sealed
pub least_within : (left : List (List ℕ) → Type 0) (count : ℕ) (tally : Tally) → IsTallied left count tally → tally.least ≤ count
least_within left count tally is = omega (arith, is.least_is, is.within)

-- ---- what is counted

-- where so many of the sealed volumes have none in files that a crash may leave, the others are a number that may be
pub counted_may : (left : List (List ℕ) → Type 0) (count : ℕ) (tally : Tally) (files : List (List ℕ)) (n : ℕ) → IsTallied left count tally → left files
    → HasWithout (HasFinished files) count n → MayBe tally (count - n) × (n ≤ count)
counted_may left count tally files n is now has = (by tally.most is.bound (is.only files now), all)
  where
    first : IsCutTo (HasFinished files) tally.upto count n
    first = cut_to (HasFinished files) tally.upto count n is.within has

    lower : n + tally.least ≤ count
    lower =
        let few : first.without ≤ is.missing =
        fewer (HasFinished tally.files) (HasFinished files) tally.upto is.missing first.without (is.sure files now) is.counted first.has in
        omega (arith, few, first.near, is.least_is)

    all : n ≤ count
    all = omega (arith, lower)

    by : (most : Option ℕ) → IsBound most tally.upto count → ((k : ℕ) → HasFinished files k → MayBeFinished most tally.files tally.upto k)
        → MayCount most tally.least (count - n)
    by None bound only =
        let few : is.missing ≤ first.without =
        fewer (HasFinished files) (HasFinished tally.files) tally.upto first.without is.missing (λ k less has_it. (only k has_it).1) first.has is.counted in
        let same : n + tally.upto ≡ first.without + count = first.all (λ k past has_it. omega (arith, past, (only k has_it).0)) in
        omega (arith, few, same, lower, is.least_is)
    by (Some most) bound only =
        let at = cut_to (HasFinished files) most count n bound.1 has in
        let same : n + most ≡ at.without + count = at.all (λ k past has_it. omega (arith, past, only k has_it)) in
        (omega (arith, lower), omega (arith, same))

-- ---- all checkpoints are written

-- the tally once each sealed volume has one
abbrev pub settled_tally : ℕ → List (List ℕ) → Tally
settled_tally count files = record { files = files; upto = count; least = count; most = None }

pub settled_tallied : (left : List (List ℕ) → Type 0) (count : ℕ) (files : List (List ℕ)) → left files
    → ((some : List (List ℕ)) → left some → (k : ℕ) → k < count → HasFinished some k)
    → ((some : List (List ℕ)) → left some → (k : ℕ) → HasFinished some k → k < count)
    → IsTallied left count (settled_tally count files)
settled_tallied left count files now all only = record {
  missing = 0;
  counted = none_without (HasFinished files) count (all files now);
  least_is = omega arith;
  within = omega arith;
  bound = tt;
  sure = λ some has k less was. all some has k less;
  only = λ some has k is.
      let less = only some has k is in (less, all files now k less);
}

-- or some were: those that were finished are, and no others but of sealed volumes
abbrev pub open_tally : ℕ → Tally → Tally
open_tally count tally = record tally { most = Some count }

pub open_tallied : (old new : List (List ℕ) → Type 0) (count : ℕ) (tally : Tally) → IsTallied old count tally
    → ((files : List (List ℕ)) → new files → (k : ℕ) → k < tally.upto → HasFinished tally.files k → HasFinished files k)
    → ((files : List (List ℕ)) → new files → (k : ℕ) → HasFinished files k → k < count)
    → IsTallied new count (open_tally count tally)
open_tallied old new count tally is sure only = record {
  missing = is.missing;
  counted = is.counted;
  least_is = is.least_is;
  within = is.within;
  bound = (is.within, omega arith);
  sure = sure;
  only = only;
}
