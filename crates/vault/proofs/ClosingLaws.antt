-- A vault is closed with all its passes.
use Rattle.std.proofs.Common.{◌≡◌, ℕ, zero, suc, ◌+◌, ◌<◌, Bool, List, [], ◌∷◌, ◌++◌, length, map, slice_get, IsTrue, Option, None, Some, IfSome, refl, sym, ap, subst, ◌∙◌, arith}
use Rattle.std.specs.List as list
use Rattle.capture.specs.Faults.{RoseBy}
use Rattle.capture.specs.declared.book.Book.{Book}
use Rattle.capture.specs.declared.limits.Limits.{Limits}
use Rattle.history_lock.specs.Known.{Known}
use Rattle.history_lock.specs.Seen.{Shows}
use Rattle.vault_turns.specs.Calm.{Crash}
use Rattle.vault.specs.Company.{Passing}
use Rattle.vault_turns.specs.History.{by_of, given_faults, is_told, sure_in, told_limits}
use Rattle.vault.specs.Members.{AreMembers, IsMember, IsMemberAt, VaultName}
use Rattle.vault_turns.specs.Own.{faults_since}
use Rattle.vault.specs.Passes.{IsLeft}
use Rattle.vault.specs.Sharing.{HasPart, IsLeftByAll, IsSharedOut, IsShownIn}
use Rattle.vault_turns.specs.declared.noted.Noted.{Noted}
use Rattle.vault_turns.specs.declared.noted.Sure.{Sure}
use Rattle.vault_turns.proofs.HistoryLaws.{given_stays, limits_append, sure_stays, told_stays}
use Rattle.vault.proofs.MemberLaws.{member_begun}
use Rattle.vault.proofs.PassLaws.{all_of}
use Rattle.vault.proofs.SeatLaws.{all_at, first_of}
use Rattle.vault.proofs.SharingLaws.{goes_on, parts_shown, shared}

-- ---- one pass more

-- what was shown of both is shown of the one that is made of them
module _ (history : List Noted) (joined pass all : Passing) (count : joined.known.passes ≡ pass.known.passes) (same : all.known.passes ≡ joined.known.passes)
    (numbers : all.known.numbers ≡ joined.known.numbers ++ pass.known.numbers) (shows : IsShownIn history all) where
  parts : Shows by_of joined.known.passes joined.known.numbers all.known.seen history × Shows by_of joined.known.passes pass.known.numbers all.known.seen history
  parts =
      parts_shown joined.known.passes joined.known.numbers pass.known.numbers all.known.seen history
      (subst (λ (ns : List ℕ). Shows by_of joined.known.passes ns all.known.seen history) numbers
      (subst (λ (n : ℕ). Shows by_of n all.known.numbers all.known.seen history) same shows))

  pub first_shown : Shows by_of joined.known.passes joined.known.numbers joined.known.seen all.known.seen → IsShownIn history joined
  first_shown before = goes_on joined.known.passes joined.known.numbers joined.known.seen all.known.seen history before parts.0

  pub other_shown : Shows by_of joined.known.passes pass.known.numbers pass.known.seen all.known.seen → IsShownIn history pass
  other_shown before =
      subst (λ (n : ℕ). Shows by_of n pass.known.numbers pass.known.seen history) count
      (goes_on joined.known.passes pass.known.numbers pass.known.seen all.known.seen history before parts.1)

-- ---- all of them

at_map : {A B : Type 0} (f : A → B) (Q : B → Type 0) (xs : List A) (k : ℕ) → IfSome (slice_get xs k) (λ x. Q (f x)) → IfSome (slice_get (map f xs) k) Q
at_map f Q [] k h = tt
at_map f Q (x ∷ xs) zero h = h
at_map f Q (x ∷ xs) (suc k) h = at_map f Q xs k h

map_length : {A B : Type 0} (f : A → B) (xs : List A) → length (map f xs) ≡ length xs
map_length f [] = refl
map_length f (x ∷ xs) = ap (λ (n : ℕ). suc n) (map_length f xs)

member_of : (vault : VaultName) (number : ℕ) (pass : Option Passing) → IfSome pass (IsMemberAt vault number) → IfSome pass (λ p. IsMember vault p.known)
member_of vault number None at = tt
member_of vault number (Some p) at = at.member

pub all_members : (vault : VaultName) (passes : List Passing) → AreMembers vault passes → list.All (λ (p : Passing). IsMember vault p.known) passes
all_members vault passes are =
    all_of (λ (p : Passing). IsMember vault p.known) passes (λ k. member_of vault (k + 1) (slice_get passes k) (are.each k))

module _ (vault : VaultName) (history : List Noted) where
  part_of : (number : ℕ) (p : Passing) → IsMemberAt vault number p → IsShownIn history p → HasPart vault.book vault.passes number history p.known
  part_of number p at shows = record {
    count = at.member.count;
    numbers = at.member.alone ∙ ap (λ (n : ℕ). n ∷ []) at.number_is;
    orderly = at.member.orderly;
    shows = shows;
  }

  part_if : (number : ℕ) (pass : Option Passing) → IfSome pass (IsMemberAt vault number) → IfSome pass (IsShownIn history)
      → IfSome pass (λ p. HasPart vault.book vault.passes number history p.known)
  part_if number None at shows = tt
  part_if number (Some p) at shows = part_of number p at shows

  module _ (passes : List Passing) (are : AreMembers vault passes) (some : 0 < vault.passes) (shown : list.All (IsShownIn history) passes) where
    abbrev knowns : List (Known Noted)
    knowns = map (λ (p : Passing). p.known) passes

    counted_so : length knowns ≡ vault.passes
    counted_so = map_length (λ (p : Passing). p.known) passes ∙ are.count

    each_part : (k : ℕ) → IfSome (slice_get knowns k) (HasPart vault.book (length knowns) (k + 1) history)
    each_part k =
        subst (λ (n : ℕ). IfSome (slice_get knowns k) (HasPart vault.book n (k + 1) history)) (sym counted_so)
        (at_map (λ (p : Passing). p.known) (HasPart vault.book vault.passes (k + 1) history) passes k
        (part_if (k + 1) (slice_get passes k) (are.each k) (all_at (IsShownIn history) passes shown k)))

    shared_so : IsSharedOut vault.book knowns history
    shared_so = shared vault.book knowns history (omega (arith, some, counted_so)) each_part

-- what a history tells of the archive that was given is as the first pass has seen it
module _ (vault : VaultName) (history : List Noted) (p : Passing) (member : IsMember vault p.known) (shows : IsShownIn history p) where
  limits_given : told_limits history ≡ vault.limits
  limits_given = ap told_limits shows.is_seen_and_more ∙ (limits_append p.known.seen shows.more (member_begun vault p.known member) ∙ member.limits_are)

  told_given : is_told history ≡ vault.tells
  told_given = ap is_told shows.is_seen_and_more ∙ (told_stays p.known.seen shows.more (member_begun vault p.known member) ∙ member.told)

  faults_given : given_faults history ≡ vault.faults
  faults_given = ap given_faults shows.is_seen_and_more ∙ (given_stays p.known.seen shows.more (member_begun vault p.known member) ∙ member.given)

  sure_given : sure_in history ≡ vault.sure
  sure_given = ap sure_in shows.is_seen_and_more ∙ (sure_stays p.known.seen shows.more (member_begun vault p.known member) ∙ member.sure)

first_if : (vault : VaultName) (passes : List Passing) → 0 < length passes → list.All (λ (p : Passing). IsMember vault p.known) passes → (history : List Noted)
    → list.All (IsShownIn history) passes → (told_limits history ≡ vault.limits) × (is_told history ≡ vault.tells) × (given_faults history ≡ vault.faults)
    × (sure_in history ≡ vault.sure)
first_if vault [] some members history shown = absurd (omega (arith, some))
first_if vault (p ∷ passes) some members history shown =
    let member : IsMember vault p.known = first_of (λ (q : Passing). IsMember vault q.known) p passes (p ∷ passes) refl members in
    let shows : IsShownIn history p = first_of (IsShownIn history) p passes (p ∷ passes) refl shown in
    (limits_given vault history p member shows, told_given vault history p member shows, faults_given vault history p member shows, sure_given vault history p member shows)

pub closed_by_all : (vault : VaultName) (passes : List Passing) → AreMembers vault passes → 0 < vault.passes → (all : Passing)
    → ((history : List Noted) → IsShownIn history all → list.All (IsShownIn history) passes)
    → (book : Book) (limits : Limits) (told : Bool) (faults : ℕ) (crash : Crash) → IsLeft all.known book limits told faults crash
    → IsLeftByAll vault (map (λ (p : Passing). p.known) passes) book limits told faults crash
closed_by_all vault passes are some all shown book limits told faults crash left =
    let shows = shown left.history left.shows in
    let count = are.count in
    let given = first_if vault passes (omega (arith, some, count)) (all_members vault passes are) left.history shows in
    let share = shared_so vault left.history passes are some shows in
    record {
      history = left.history;
      shared = share;
      book_is = left.book_is;
      limits_are = left.limits_are ∙ given.0;
      told_is = left.told_is ∙ given.1;
      counted = subst (λ (n : ℕ). RoseBy n vault.faults faults) share.faults
          (subst (λ (n : ℕ). RoseBy (faults_since left.history) n faults) given.2 left.counted);
      calm = λ t none. left.calm (subst (λ (s : Sure). IsTrue s.calm) (sym given.3) t) (share.faults ∙ none);
      right = λ t. left.right (subst (λ (s : Sure). IsTrue s.right) (sym given.3) t);
      lasts = subst (λ (s : Sure). IsTrue s.lasts → crash.lasts s.stood) given.3 left.lasts;
    }
