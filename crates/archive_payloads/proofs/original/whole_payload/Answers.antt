use Rattle.std.proofs.Common.{◌≡◌, ℕ, List, Option, false, sym, subst, ◌∙◌}
use Rattle.std.specs.Prelude.{IfSome}
use Rattle.sha1.specs.Sha1.{sha1}
use Rattle.warc_journal.specs.Journals.{texts}
use Rattle.archive_payloads.proofs.ChooseLaws.{its_bound, its_kept}
use Rattle.archive_reading.proofs.DigestLaws.{one_spot}
use Rattle.archive_volumes.proofs.GroupLaws.{got}
use Rattle.archive_reading.proofs.RereadLaws.{right_found, right_kept, whole_found, whole_kept_digest}
use Rattle.archive_volumes.specs.Held.{book_of}
use Rattle.archive_reading.specs.Rereading.{HasItsPayload, right_by}
use Rattle.archive_volumes.specs.Spots.{is_told_form}
use Rattle.archive_volumes.specs.declared.spot.Spot.{Spot}
use Rattle.archive_payloads.proofs.original.whole_payload.Goals as goal

pub bounds-spots-number : goal.bounds-spots-number
bounds-spots-number g c = its_bound (book_of c.args.volumes.now.held) c.args.spots.now c.requires.readable.are c.args.number c.requires.whole

pub reread_group-requires-clause-below : goal.reread_group-requires-clause-below
reread_group-requires-clause-below g c = its_bound (book_of c.args.volumes.now.held) c.args.spots.now c.requires.readable.are c.args.number c.requires.whole

pub returns-then-is_told-clause-kept : goal.returns-then-is_told-clause-kept
returns-then-is_told-clause-kept g c other at =
    subst (λ (f : Option (List ℕ)). IfSome f (λ payload. sha1 payload ≡ other.digest)) (sym c.whole_of.ensures)
    (whole_kept_digest other.digest c.in_ok-read.read (c.in_ok-read.ensures.read other at))

pub returns-then-is_told-clause-right : goal.returns-then-is_told-clause-right
returns-then-is_told-clause-right g c told keeps =
    let book = book_of c.args.volumes.now.held in
    subst (HasItsPayload book c.args.number) (sym c.whole_of.ensures)
    (whole_found book c.args.number keeps c.in_ok-read.read (c.in_ok-read.ensures.right told))

pub read_back-requires-clause-place : goal.read_back-requires-clause-place
read_back-requires-clause-place g c tells =
    let book = book_of c.args.volumes.now.held in
    let spot = c.index-spots-number.result in
    let below = its_bound book c.args.spots.now c.requires.readable.are c.args.number c.requires.whole in
    let here = got c.args.spots.now c.args.number spot below c.index-spots-number.is in
    (c.requires.readable.within tells).each c.args.number spot here

pub read_back-requires-clause-ends : goal.read_back-requires-clause-ends
read_back-requires-clause-ends g c =
    let book = book_of c.args.volumes.now.held in
    let spot = c.index-spots-number.result in
    let below = its_bound book c.args.spots.now c.requires.readable.are c.args.number c.requires.whole in
    let here = got c.args.spots.now c.args.number spot below c.index-spots-number.is in
    let its = c.requires.readable.are.each c.args.number spot here in
    its.ends

pub returns-clause-kept : goal.returns-clause-kept
returns-clause-kept g c other at =
    let book = book_of c.args.volumes.now.held in
    let spot = c.index-spots-number.result in
    let below = its_bound book c.args.spots.now c.requires.readable.are c.args.number c.requires.whole in
    let here = got c.args.spots.now c.args.number spot below c.index-spots-number.is in
    subst (λ (f : Option (List ℕ)). IfSome f (λ payload. sha1 payload ≡ other.digest)) (sym c.right_of.ensures)
    (subst (λ (s : Spot). IfSome (right_by c.in_ok-back.back) (λ payload. sha1 payload ≡ s.digest)) (one_spot c.args.spots.now c.args.number spot other here at)
    (right_kept spot.digest c.in_ok-back.back c.in_ok-back.ensures.checked))

pub returns-clause-right : goal.returns-clause-right
returns-clause-right g c told keeps =
    let book = book_of c.args.volumes.now.held in
    let spot = c.index-spots-number.result in
    let read : is_told_form spot.form ≡ false = sym c.is_told.ensures ∙ c.if-is_told.false in
    subst (HasItsPayload book c.args.number) (sym c.right_of.ensures)
    (right_found book c.args.number c.in_ok-back.back
    (c.in_ok-back.ensures.right c.args.number (c.requires.readable.holds.tells told)
    (its_kept book c.args.spots.now c.requires.readable.are c.args.number c.requires.whole spot c.index-spots-number.is read
    (texts g.D.Disk c.args.volumes.now.journal) (c.requires.readable.placed told))))
