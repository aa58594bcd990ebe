-- What was found of the group before it was noted left all but the table as it was.
use Rattle.std.proofs.Common.{◌≡◌, ◌+◌, ◌^◌, ◌-◌, ◌<◌, ℕ, List, length, sym, subst, ◌∙◌}
use Rattle.http_head.specs.Heads.{HoldsResponseParts}
use Rattle.archive_volumes.specs.Held.{book_of}
use Rattle.archive_gathering.specs.Gathering.{HasAdded, IsInStepWith, IsSteady}
use Rattle.archive_gathering.specs.declared.gathered.Gathered.{Gathered}
use Rattle.archive_gathering.specs.declared.noting.Noted.{Noted}
use Rattle.archive_gathering.proofs.ShapeLaws.{taken_one}
use Rattle.archive_gathering.proofs.TakenLaws.{taken}
use Rattle.archive_gathering.proofs.gathered.Gathered.take.Goals as goal

pub add-requires-clause-steady : goal.add-requires-clause-steady
add-requires-clause-steady c =
    let was = c.args.self.now in
    subst IsSteady (sym c.first_for.ensures.others)
    (subst (λ (kept : List (List ℕ × ℕ)). IsInStepWith (book_of was.held) was.spots.items kept was.lengths.items) (sym c.in-Ok.ensures.kept) c.requires.steady)

pub add-requires-clause-volume : goal.add-requires-clause-volume
add-requires-clause-volume c = subst (λ (g : Gathered). 0 < length (book_of g.held).volumes) (sym c.first_for.ensures.others) c.requires.fits.volume

pub add-requires-clause-few : goal.add-requires-clause-few
add-requires-clause-few c = subst (λ (g : Gathered). length g.spots.items + 1 < 2 ^ 32 - 1) (sym c.first_for.ensures.others) c.in-Ok.ensures.within.few

-- what is added to what differs in the table alone
added_to : (was mid is : Gathered) (noted : Noted) → mid ≡ record was { table = mid.table } → HasAdded mid is noted → HasAdded was is noted
added_to was mid is noted others more =
    let same = subst (λ (g : Gathered). HasAdded g is noted) others more in
    record { book = same.book; spots = same.spots; lengths = same.lengths; entries = same.entries }

pub returns-in-Err-clause-damaged : goal.returns-in-Err-clause-damaged
returns-in-Err-clause-damaged c = c.in-Err.ensures.damaged

pub returns-in-Err-clause-unfit : goal.returns-in-Err-clause-unfit
returns-in-Err-clause-unfit c = c.in-Err.ensures.unfit

pub returns-in-Ok-add-clause-gathered : goal.returns-in-Ok-add-clause-gathered
returns-in-Ok-add-clause-gathered c = λ known texts text gathered at stand.
    let was = c.args.self.now in
    let parts = c.requires.headed.head in
    let of : HoldsResponseParts c.args.read.group.stored.head parts.0 c.args.read.head = parts.1 in
    taken c.reading_laws.ensures c.accepted_targets_have_keys.ensures known was c.add.new.self texts text c.args.place c.args.read.group (length was.spots.items)
    c.in-Ok.first parts.0 c.in-Ok-note.noted gathered at (c.requires.steady.lengths_too ∙ c.requires.steady.count) c.requires.steady.count
    c.in-Ok.ensures.within of.reads (c.in-Ok.ensures.found known texts text gathered at stand) (c.in-Ok-note.ensures parts.0 of)
    (added_to was c.first_for.new.self c.add.new.self c.in-Ok-note.noted c.first_for.ensures.others c.in-Ok-add.ensures.added)

pub returns-in-Ok-add-clause-taken : goal.returns-in-Ok-add-clause-taken
returns-in-Ok-add-clause-taken c =
    let was = c.args.self.now in
    let parts = c.requires.headed.head in
    let of : HoldsResponseParts c.args.read.group.stored.head parts.0 c.args.read.head = parts.1 in
    let some = c.requires.fits.some in
    taken_one was c.add.new.self c.args.place c.args.read.group some.namespace some.number some.text some.is c.in-Ok.first
    c.in-Ok.ensures.refers parts.0 c.in-Ok-note.noted (c.in-Ok-note.ensures parts.0 of) c.in-Ok.ensures.within c.requires.steady c.requires.fits.len
    c.requires.fits.volume c.requires.fits.number
    (added_to was c.first_for.new.self c.add.new.self c.in-Ok-note.noted c.first_for.ensures.others c.in-Ok-add.ensures.added) c.in-Ok.ensures.whole
