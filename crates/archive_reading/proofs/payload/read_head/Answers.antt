use Rattle.std.proofs.Common.{◌≡◌, ◌+◌, ◌<◌, ◌≤◌, Bool, true, false, List, ℕ, length, sym, subst, ◌∙◌, arith}
use Rattle.warc_journal.specs.Journals.{texts}
use Rattle.warc_journal.specs.declared.place.Place.{Place}
use Rattle.archive_reading.specs.Decoding.{IsHead}
use Rattle.archive_volumes.specs.Spots.{head_in, text_at}
use Rattle.archive_reading.proofs.payload.read_head.Goals as goal

pub read_part-requires-clause-there : goal.read_part-requires-clause-there
read_part-requires-clause-there g c tells =
    subst (λ (p : Place). p.volume < length (texts g.D.Disk c.args.volumes.now.journal)) (sym c.head_place.ensures) (c.requires.place tells).there

pub read_part-requires-clause-within : goal.read_part-requires-clause-within
read_part-requires-clause-within g c tells =
    let all = texts g.D.Disk c.args.volumes.now.journal in
    let place = c.requires.place tells in
    subst (λ (p : Place). p.at + p.len ≤ length (text_at all p.volume)) (sym c.head_place.ensures) (omega (arith, place.within))

pub returns-then-is_head-clause-parsed : goal.returns-then-is_head-clause-parsed
returns-then-is_head-clause-parsed g c =
    let is : IsHead c.as_slice.result.now true = subst (λ (b : Bool). IsHead c.as_slice.result.now b) c.if-is_head.true c.in_ok-is_head.ensures in
    subst (λ (h : List ℕ). IsHead h true) (c.as_slice.ensures.value ∙ sym c.of.ensures) is

pub returns-then-is_head-clause-head : goal.returns-then-is_head-clause-head
returns-then-is_head-clause-head g c tells = c.of.ensures ∙ (rw c.head_place.ensures at c.in_ok-head.ensures.bytes tells)

pub returns-clause-head : goal.returns-clause-head
returns-clause-head g c tells =
    let is : IsHead c.as_slice.result.now false = subst (λ (b : Bool). IsHead c.as_slice.result.now b) c.if-is_head.false c.in_ok-is_head.ensures in
    let head : c.in_ok-head.head.items ≡ head_in (texts g.D.Disk c.args.volumes.now.journal) c.args.spot.now =
    (rw c.head_place.ensures at c.in_ok-head.ensures.bytes tells) in
    subst (λ (h : List ℕ). IsHead h false) (c.as_slice.ensures.value ∙ head) is
