-- The table is made ready where the group refers to a capture, and then holds what it held.
use Rattle.std.proofs.Common.{rules, ◌≡◌, ℕ, List, length, refl, sym, subst, ◌∙◌, inl, inr}
use Rattle.std.specs.Prelude.{IfErr, IfOk, IsErrAnd, Result, Ok, Err}
use Rattle.capture.specs.Captures.{captures}
use Rattle.http_head.specs.Heads.{HoldsResponseParts}
use Rattle.archive_volumes.specs.Held.{book_of}
use Rattle.warc_journal.specs.Texts.{with_more}
use Rattle.archive_gathering.specs.Gathering.{IsInStepWith}
use Rattle.archive_gathering.specs.Reading.{IsDeadEnd}
use Rattle.archive_gathering.specs.declared.gathered.Refusal.{Refusal}
use Rattle.archive_gathering.specs.declared.gathered.Refusal.TheVariants.{Damaged, Memory}
use Rattle.archive_gathering.specs.Noting.{IsPast, IsWithin}
use Rattle.archive_gathering.proofs.TakenLaws.{lost_is_dead, may_refer, past_is_dead}
use Rattle.archive_gathering.proofs.gathered.Gathered.first_for.Goals as goal

pub original-requires-clause-steady : goal.original-requires-clause-steady
original-requires-clause-steady c =
    let was = c.args.self.now in
    subst (λ (kept : List (List ℕ × ℕ)). IsInStepWith (book_of was.held) was.spots.items kept was.lengths.items) (sym c.in_ok-settle_for.ensures.kept) c.requires.steady

-- want of memory isn't damage
memory_is_no_damage : Memory ≡ Damaged → ⊥
memory_is_no_damage is = cc

no_damage : {T : Type 0} (P : Type 0) (r : Result T Refusal) → IsErrAnd r (λ refusal. refusal ≡ Memory) → IfErr r (λ refusal. refusal ≡ Damaged → P)
no_damage P (Ok x) is = absurd is
no_damage P (Err refusal) is = λ damaged. absurd (memory_is_no_damage (sym is ∙ damaged))

pub returns-in_err-settle_for-clause-damaged : goal.returns-in_err-settle_for-clause-damaged
returns-in_err-settle_for-clause-damaged c = λ known texts text gathered at.
    no_damage (IsDeadEnd known (with_more texts text)) c.from_residual.result c.from_residual.ensures.1

pub returns-then-passes_bounds-clause-damaged : goal.returns-then-passes_bounds-clause-damaged
returns-then-passes_bounds-clause-damaged c = λ known texts text gathered at _.
    past_is_dead c.reading_laws.ensures (book_of c.args.self.now.held) texts known gathered.read text c.args.place.now c.args.read.now.group at c.len-number.result
    (search rules) (c.if-passes_bounds.ensures.past refl)

pub returns-then-passes_bounds-clause-unfit : goal.returns-then-passes_bounds-clause-unfit
returns-then-passes_bounds-clause-unfit c = λ _.
    let number : c.len-number.result ≡ length (captures (book_of c.args.self.now.held)) = search rules in
    inl (subst (λ (n : ℕ). IsPast n c.args.place.now c.args.read.now.group) number (c.if-passes_bounds.ensures.past refl))

weaker : {T : Type 0} {P Q : Refusal → Type 0} (r : Result T Refusal) → ((refusal : Refusal) → P refusal → Q refusal) → IfErr r P → IfErr r Q
weaker (Ok x) so is = tt
weaker (Err refusal) so is = so refusal is

pub returns-clause-damaged : goal.returns-clause-damaged
returns-clause-damaged c = λ known texts text gathered at.
    let read = c.args.read.now in
    let parts = c.requires.headed.head in
    let of : HoldsResponseParts read.group.stored.head parts.0 read.head = parts.1 in
    weaker c.original.result (λ refusal none is. lost_is_dead c.reading_laws.ensures (book_of c.args.self.now.held) texts known gathered.read text c.args.place.now read.group at (none is))
    (c.original.ensures.none known texts parts.0 gathered of c.requires.fits.number)

pub returns-clause-unfit : goal.returns-clause-unfit
returns-clause-unfit c = weaker c.original.result (λ refusal revisit is. inr revisit) c.original.ensures.revisit

pub returns-clause-found : goal.returns-clause-found
returns-clause-found c = λ known texts text gathered at stand.
    let read = c.args.read.now in
    let parts = c.requires.headed.head in
    let of : HoldsResponseParts read.group.stored.head parts.0 read.head = parts.1 in
    c.original.ensures.found known texts parts.0 gathered of c.requires.fits.number
    (may_refer c.reading_laws.ensures (book_of c.args.self.now.held) texts known gathered.read text c.args.place.now read.group at stand)

ok_with : {T : Type 0} (P : Type 0) (r : Result T Refusal) → P → IfOk r (λ _. P)
ok_with P (Ok x) is = is
ok_with P (Err refusal) is = tt

pub returns-clause-within : goal.returns-clause-within
returns-clause-within c =
    let was = c.args.self.now in
    let number : c.len-number.result ≡ length was.spots.items = search rules in
    ok_with (IsWithin (length was.spots.items) c.args.place.now c.args.read.now.group) c.original.result
    (subst (λ (n : ℕ). IsWithin n c.args.place.now c.args.read.now.group) number (c.if-passes_bounds.ensures.within refl))
