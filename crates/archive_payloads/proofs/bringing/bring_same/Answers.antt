use Rattle.archive_payloads.specs.Damage.{TellsFound}
use Rattle.archive_payloads.proofs.FaultLaws.{counts_behind, read_brought, read_exit}
use Rattle.archive_shelf.specs.Answers.{is_bring_fault}
use Rattle.std.proofs.Common.{◌≡◌, ℕ, IsTrue, true, List, Option, None, Some, Ok, refl, sym, ap, subst, ◌∙◌, inl, inr, arith}
use Rattle.std.specs.Prelude.{IfSome, IfErr}
use Rattle.capture.specs.declared.book.Book.{Book}
use Rattle.capture.specs.declared.captured.Brought.{Brought}
use Rattle.warc_journal.specs.Journals.{texts, disk_of}
use Rattle.archive_reading.proofs.BringLaws.{damaged, damaged_read, has_head, keeper_keeps, keeps_payload, named, no_digest, readable_on, reads_itself, reads_then, refers_to, replayable, right_read, same_brought}
use Rattle.archive_payloads.proofs.DamageLaws.{found_on, keeper_found, other_found, revisit_found}
use Rattle.archive_reading.proofs.DigestLaws.{alike, differ, keeper_goes, one_spot, same_digest}
use Rattle.archive_volumes.proofs.GroupLaws.{got}
use Rattle.archive_reading.specs.Bringing.{BringsFrom, IsChecked, IsReadRight}
use Rattle.archive_reading.specs.Digests.{BringsDigest, GoesByKeeper}
use Rattle.archive_reading.specs.Decoding.{IsHead, IsHeadAt}
use Rattle.archive_volumes.specs.Held.{book_of}
use Rattle.archive_reading.specs.Rereading.{IsBackThere}
use Rattle.archive_volumes.specs.Spots.{head_in, is_same_form}
use Rattle.archive_reading.specs.declared.payload.ReadBack.{ReadBack}
use Rattle.archive_volumes.specs.declared.spot.Spot.{Spot}
use Rattle.archive_reading.specs.declared.part.ReadFault.TheVariants as reads
use Rattle.archive_payloads.proofs.bringing.bring_same.Goals as goal

pub bounds-spots-first : goal.bounds-spots-first
bounds-spots-first g c =
    let book = book_of c.args.volumes.now.held in
    let spot = c.index-spots-number.result in
    let here = got c.args.spots.now c.args.number spot c.requires.below c.index-spots-number.is in
    let its = c.requires.readable.are.each c.args.number spot here in
    let form = c.requires.form spot here in
    let refers = refers_to book c.args.number spot its c.args.first form in
    omega (arith, refers.0, c.requires.below)

pub read_head-requires-clause-place : goal.read_head-requires-clause-place
read_head-requires-clause-place g c tells =
    let spot = c.index-spots-number.result in
    let here = got c.args.spots.now c.args.number spot c.requires.below c.index-spots-number.is in
    (c.requires.readable.within tells).each c.args.number spot here

pub returns-then-ne-clause-reads : goal.returns-then-ne-clause-reads
returns-then-ne-clause-reads g c = reads_itself g.D.Disk c.args.volumes.now

pub read_own-requires-clause-below : goal.read_own-requires-clause-below
read_own-requires-clause-below g c =
    let book = book_of c.args.volumes.now.held in
    let spot = c.index-spots-number.result in
    let here = got c.args.spots.now c.args.number spot c.requires.below c.index-spots-number.is in
    let its = c.requires.readable.are.each c.args.number spot here in
    let form = c.requires.form spot here in
    let refers = refers_to book c.args.number spot its c.args.first form in
    omega (arith, refers.0, c.requires.below)

pub read_own-requires-clause-readable : goal.read_own-requires-clause-readable
read_own-requires-clause-readable g c =
    readable_on g.D.Disk c.args.told.now.value c.args.volumes.now c.read_head.new.volumes c.read_head.ensures.reads c.args.spots.now c.requires.readable

pub read_own-requires-clause-own : goal.read_own-requires-clause-own
read_own-requires-clause-own g c keeper at =
    let book = book_of c.args.volumes.now.held in
    let spot = c.index-spots-number.result in
    let here = got c.args.spots.now c.args.number spot c.requires.below c.index-spots-number.is in
    let its = c.requires.readable.are.each c.args.number spot here in
    let form = c.requires.form spot here in
    keeper_keeps book c.args.number spot its c.args.first form keeper (c.requires.readable.are.each c.args.first keeper at)

pub returns-in-None-clause-brings : goal.returns-in-None-clause-brings
returns-in-None-clause-brings g c =
    let book = book_of c.args.volumes.now.held in
    let spot = c.index-spots-number.result in
    let here = got c.args.spots.now c.args.number spot c.requires.below c.index-spots-number.is in
    let its = c.requires.readable.are.each c.args.number spot here in
    let form = c.requires.form spot here in
    let kept = c.index-spots-first.result.digest in
    let all = texts g.D.Disk c.args.volumes.now.journal in (
      omega arith,
      inl refl,
      damaged c.args.told.now.value kept None
          (λ told. has_head book c.args.number spot its c.args.first form all ((c.requires.readable.placed told).each c.args.number spot here)
          (head_in all spot) refl (c.requires.readable.holds.sound told)
          (subst (IsHeadAt (head_in all spot)) c.in-None.is (c.in_ok-head.ensures.head (c.requires.readable.holds.tells told))))
          (no_digest kept),
    )

pub returns-in_err-read-clause-reads : goal.returns-in_err-read-clause-reads
returns-in_err-read-clause-reads g c =
    reads_then g.D.Disk c.args.volumes.now c.read_head.new.volumes c.read_own.new.volumes c.read_head.ensures.reads c.read_own.ensures.reads

pub returns-in_err-brought-in-Ok-clause-reads : goal.returns-in_err-brought-in-Ok-clause-reads
returns-in_err-brought-in-Ok-clause-reads g c =
    reads_then g.D.Disk c.args.volumes.now c.read_head.new.volumes c.read_own.new.volumes c.read_head.ensures.reads c.read_own.ensures.reads

pub returns-in_ok-brought-in-Ok-clause-reads : goal.returns-in_ok-brought-in-Ok-clause-reads
returns-in_ok-brought-in-Ok-clause-reads g c =
    reads_then g.D.Disk c.args.volumes.now c.read_head.new.volumes c.read_own.new.volumes c.read_head.ensures.reads c.read_own.ensures.reads

pub returns-in-Err-clause-reads : goal.returns-in-Err-clause-reads
returns-in-Err-clause-reads g c =
    reads_then g.D.Disk c.args.volumes.now c.read_head.new.volumes c.read_own.new.volumes c.read_head.ensures.reads c.read_own.ensures.reads

pub returns-in_ok-brought-in-Ok-clause-brings : goal.returns-in_ok-brought-in-Ok-clause-brings
returns-in_ok-brought-in-Ok-clause-brings g c =
    let book = book_of c.args.volumes.now.held in
    let spot = c.index-spots-number.result in
    let here = got c.args.spots.now c.args.number spot c.requires.below c.index-spots-number.is in
    let its = c.requires.readable.are.each c.args.number spot here in
    let form = c.requires.form spot here in
    let right : IsTrue c.args.told.now.value → IsReadRight book c.args.first c.in_ok-read.read = λ told.
    subst (λ (b : Book). IsReadRight b c.args.first c.in_ok-read.read) (ap book_of c.read_head.ensures.reads.held) (c.in_ok-read.ensures.right told) in
    let all = texts g.D.Disk c.args.volumes.now.journal in
    let back = right_read c.in_ok-read.read c.in-Ok.payload (sym c.payload_of.ensures ∙ c.in-Ok.is) in
    let head = c.in-Some.head in
    let parsed : IsHead head true = subst (λ (f : Option (List ℕ)). IfSome f (λ h. IsHead h true)) c.in-Some.is c.in_ok-head.ensures.parsed in
    subst (λ (b : Brought). BringsFrom c.args.told.now.value book c.args.number (Ok b)) (sym c.in_ok-brought-in-Ok.ensures) (
      replayable book c.args.number spot its head c.in-Ok.payload parsed,
      named book c.args.number spot its head c.in-Ok.payload,
      λ told. same_brought book c.args.number spot its c.args.first form all ((c.requires.readable.placed told).each c.args.number spot here)
          head (subst (IsHeadAt (head_in all spot)) c.in-Some.is (c.in_ok-head.ensures.head (c.requires.readable.holds.tells told)))
          c.in-Ok.payload back.0 (subst (λ (r : ReadBack). IsReadRight book c.args.first r) back.1 (right told)),
    )

pub returns-in-Err-clause-brings : goal.returns-in-Err-clause-brings
returns-in-Err-clause-brings g c =
    let book = book_of c.args.volumes.now.held in
    let spot = c.index-spots-number.result in
    let here = got c.args.spots.now c.args.number spot c.requires.below c.index-spots-number.is in
    let its = c.requires.readable.are.each c.args.number spot here in
    let form = c.requires.form spot here in
    let refers = refers_to book c.args.number spot its c.args.first form in
    let keeper = c.index-spots-first.result in
    let there = got c.args.spots.now c.args.first keeper (omega (arith, refers.0, c.requires.below)) c.index-spots-first.is in
    let right : IsTrue c.args.told.now.value → IsReadRight book c.args.first c.in_ok-read.read = λ told.
    subst (λ (b : Book). IsReadRight b c.args.first c.in_ok-read.read) (ap book_of c.read_head.ensures.reads.held) (c.in_ok-read.ensures.right told) in (
      omega (arith, refers.0),
      keeps_payload book c.args.number spot its c.args.first form,
      damaged c.args.told.now.value keeper.digest c.in-Err.found
          (λ told. subst (λ (r : ReadBack). IsReadRight book c.args.first r) (damaged_read c.in_ok-read.read c.in-Err.found (sym c.payload_of.ensures ∙ c.in-Err.is)) (right told))
          (subst (λ (r : ReadBack). IsChecked keeper.digest r) (damaged_read c.in_ok-read.read c.in-Err.found (sym c.payload_of.ensures ∙ c.in-Err.is)) (c.in_ok-read.ensures.checked keeper there)),
    )

pub returns-in-None-clause-digest : goal.returns-in-None-clause-digest
returns-in-None-clause-digest g c other at =
    let book = book_of c.args.volumes.now.held in
    let spot = c.index-spots-number.result in
    let here = got c.args.spots.now c.args.number spot c.requires.below c.index-spots-number.is in
    let its = c.requires.readable.are.each c.args.number spot here in
    let form = c.requires.form spot here in
    let refers = refers_to book c.args.number spot its c.args.first form in
    let keeper = c.index-spots-first.result in
    let there = got c.args.spots.now c.args.first keeper (omega (arith, refers.0, c.requires.below)) c.index-spots-first.is in
    keeper_goes c.args.spots.now c.args.first keeper other there at c.args.number c.args.number None (inr (refl, refl))

pub returns-in_ok-brought-in-Ok-clause-digest : goal.returns-in_ok-brought-in-Ok-clause-digest
returns-in_ok-brought-in-Ok-clause-digest g c other at =
    subst (λ (b : Brought). GoesByKeeper c.args.number c.args.first other.digest (Ok b)) (sym c.in_ok-brought-in-Ok.ensures)
    (subst (λ (r : ReadBack). IsChecked other.digest r) (right_read c.in_ok-read.read c.in-Ok.payload (sym c.payload_of.ensures ∙ c.in-Ok.is)).1 (c.in_ok-read.ensures.checked other at)).1

pub returns-in-Err-clause-digest : goal.returns-in-Err-clause-digest
returns-in-Err-clause-digest g c other at =
    let book = book_of c.args.volumes.now.held in
    let spot = c.index-spots-number.result in
    let here = got c.args.spots.now c.args.number spot c.requires.below c.index-spots-number.is in
    let its = c.requires.readable.are.each c.args.number spot here in
    let form = c.requires.form spot here in
    let refers = refers_to book c.args.number spot its c.args.first form in
    let keeper = c.index-spots-first.result in
    let there = got c.args.spots.now c.args.first keeper (omega (arith, refers.0, c.requires.below)) c.index-spots-first.is in
    keeper_goes c.args.spots.now c.args.first keeper other there at c.args.number c.args.first c.in-Err.found (inl refl)

pub returns-then-ne-clause-brings : goal.returns-then-ne-clause-brings
returns-then-ne-clause-brings g c =
    let book = book_of c.args.volumes.now.held in
    let spot = c.index-spots-number.result in
    let here = got c.args.spots.now c.args.number spot c.requires.below c.index-spots-number.is in
    let its = c.requires.readable.are.each c.args.number spot here in
    let form = c.requires.form spot here in
    let refers = refers_to book c.args.number spot its c.args.first form in
    let keeper = c.index-spots-first.result in
    let there = got c.args.spots.now c.args.first keeper (omega (arith, refers.0, c.requires.below)) c.index-spots-first.is in
    let other = differ keeper.digest spot.digest c.ne.result c.ne.ensures c.if-ne.true in (
      omega (arith, refers.0),
      keeps_payload book c.args.number spot its c.args.first form,
      damaged c.args.told.now.value keeper.digest (Some spot.digest)
          (λ told. let placed = c.requires.readable.placed told in
          other (ap Some (sym (same_digest (texts g.D.Disk c.args.volumes.now.journal) book c.args.number c.args.first spot keeper its form
          (placed.each c.args.number spot here) (placed.each c.args.first keeper there)))))
          other,
    )

pub returns-then-ne-clause-digest : goal.returns-then-ne-clause-digest
returns-then-ne-clause-digest g c other at =
    let book = book_of c.args.volumes.now.held in
    let spot = c.index-spots-number.result in
    let here = got c.args.spots.now c.args.number spot c.requires.below c.index-spots-number.is in
    let its = c.requires.readable.are.each c.args.number spot here in
    let form = c.requires.form spot here in
    let refers = refers_to book c.args.number spot its c.args.first form in
    let keeper = c.index-spots-first.result in
    let there = got c.args.spots.now c.args.first keeper (omega (arith, refers.0, c.requires.below)) c.index-spots-first.is in
    keeper_goes c.args.spots.now c.args.first keeper other there at c.args.number c.args.first (Some spot.digest) (inl refl)

pub returns-in_ok-brought-in-Ok-clause-own : goal.returns-in_ok-brought-in-Ok-clause-own
returns-in_ok-brought-in-Ok-clause-own g c other at =
    let book = book_of c.args.volumes.now.held in
    let spot = c.index-spots-number.result in
    let here = got c.args.spots.now c.args.number spot c.requires.below c.index-spots-number.is in
    let its = c.requires.readable.are.each c.args.number spot here in
    let form = c.requires.form spot here in
    let refers = refers_to book c.args.number spot its c.args.first form in
    let keeper = c.index-spots-first.result in
    let there = got c.args.spots.now c.args.first keeper (omega (arith, refers.0, c.requires.below)) c.index-spots-first.is in
    let same : keeper.digest ≡ spot.digest = alike keeper.digest spot.digest c.ne.result c.ne.ensures c.if-ne.false in
    subst (λ (b : Brought). BringsDigest other.digest (Ok b)) (sym c.in_ok-brought-in-Ok.ensures)
    ((subst (λ (r : ReadBack). IsChecked keeper.digest r) (right_read c.in_ok-read.read c.in-Ok.payload (sym c.payload_of.ensures ∙ c.in-Ok.is)).1 (c.in_ok-read.ensures.checked keeper there)).1 ∙ same
    ∙ ap (λ (s : Spot). s.digest) (one_spot c.args.spots.now c.args.number spot other here at))

pub returns-then-ne-clause-found : goal.returns-then-ne-clause-found
returns-then-ne-clause-found g c tells =
    let book = book_of c.args.volumes.now.held in
    let spot = c.index-spots-number.result in
    let here = got c.args.spots.now c.args.number spot c.requires.below c.index-spots-number.is in
    let its = c.requires.readable.are.each c.args.number spot here in
    let form = c.requires.form spot here in
    let refers = refers_to book c.args.number spot its c.args.first form in
    let keeper = c.index-spots-first.result in
    let there = got c.args.spots.now c.args.first keeper (omega (arith, refers.0, c.requires.below)) c.index-spots-first.is in
    let own = keeper_keeps book c.args.number spot its c.args.first form keeper (c.requires.readable.are.each c.args.first keeper there) in
    other_found (texts g.D.Disk c.args.volumes.now.journal) book.namespace c.args.spots.now c.args.number spot here c.args.first keeper there own
    (λ same. differ keeper.digest spot.digest c.ne.result c.ne.ensures c.if-ne.true (ap Some (sym same)))

pub returns-in-None-clause-found : goal.returns-in-None-clause-found
returns-in-None-clause-found g c tells =
    let spot = c.index-spots-number.result in
    let here = got c.args.spots.now c.args.number spot c.requires.below c.index-spots-number.is in
    revisit_found (texts g.D.Disk c.args.volumes.now.journal) (book_of c.args.volumes.now.held).namespace c.args.spots.now c.args.number spot here
    (ap is_same_form (c.requires.form spot here))

pub returns-in-Err-clause-found : goal.returns-in-Err-clause-found
returns-in-Err-clause-found g c tells =
    let book = book_of c.args.volumes.now.held in
    let spot = c.index-spots-number.result in
    let here = got c.args.spots.now c.args.number spot c.requires.below c.index-spots-number.is in
    let its = c.requires.readable.are.each c.args.number spot here in
    let form = c.requires.form spot here in
    let refers = refers_to book c.args.number spot its c.args.first form in
    let keeper = c.index-spots-first.result in
    let there = got c.args.spots.now c.args.first keeper (omega (arith, refers.0, c.requires.below)) c.index-spots-first.is in
    let own = keeper_keeps book c.args.number spot its c.args.first form keeper (c.requires.readable.are.each c.args.first keeper there) in
    let later = c.read_head.new.volumes in
    let damaged_is = damaged_read c.in_ok-read.read c.in-Err.found (sym c.payload_of.ensures ∙ c.in-Err.is) in
    keeper_found (texts g.D.Disk c.args.volumes.now.journal) book.namespace c.args.spots.now c.args.number spot here c.args.first keeper there own
    (alike keeper.digest spot.digest c.ne.result c.ne.ensures c.if-ne.false) c.in-Err.found
    (found_on g.D.Disk c.args.volumes.now later c.read_head.ensures.reads tells c.args.spots.now c.args.first keeper c.in-Err.found
    (subst (IsBackThere (texts g.D.Disk later.journal) c.args.spots.now (book_of later.held).namespace c.args.first keeper) damaged_is
    (c.in_ok-read.ensures.there tells keeper there)))

-- ---- what is asked, and what stays at each exit

pub read_head-requires-clause-in_step : goal.read_head-requires-clause-in_step
read_head-requires-clause-in_step g c = c.requires.readable.holds.in_step

pub returns-in_err-head-clause-brings : goal.returns-in_err-head-clause-brings
returns-in_err-head-clause-brings g c =
    read_exit Brought (BringsFrom c.args.told.now.value (book_of c.args.volumes.now.held) c.args.number) c.in_err-head.field-0.0 c.from_residual.result c.from_residual.ensures.1 tt tt

pub returns-in_err-head-clause-digest : goal.returns-in_err-head-clause-digest
returns-in_err-head-clause-digest g c other at =
    read_exit Brought (GoesByKeeper c.args.number c.args.first other.digest) c.in_err-head.field-0.0 c.from_residual.result c.from_residual.ensures.1 tt tt

pub returns-in_err-head-clause-own : goal.returns-in_err-head-clause-own
returns-in_err-head-clause-own g c other at =
    read_exit Brought (BringsDigest other.digest) c.in_err-head.field-0.0 c.from_residual.result c.from_residual.ensures.1 tt tt

pub returns-in_err-head-clause-found : goal.returns-in_err-head-clause-found
returns-in_err-head-clause-found g c tells =
    read_exit Brought (λ r. IfErr r (TellsFound (texts g.D.Disk c.args.volumes.now.journal) (book_of c.args.volumes.now.held).namespace c.args.spots.now c.args.number)) c.in_err-head.field-0.0 c.from_residual.result c.from_residual.ensures.1 tt tt

pub returns-in_err-head-clause-reads : goal.returns-in_err-head-clause-reads
returns-in_err-head-clause-reads g c =
    c.read_head.ensures.reads

pub returns-in_err-head-clause-faults : goal.returns-in_err-head-clause-faults
returns-in_err-head-clause-faults g c =
    read_brought (Option (List ℕ)) Brought (g.D.Disk.faults (disk_of c.args.volumes.now.journal)) (g.D.Disk.faults (disk_of c.read_head.new.volumes.journal)) c.in_err-head.field-0.0 c.from_residual.result c.from_residual.ensures.1 c.in_err-head.ensures.faults

pub returns-in-None-clause-reads : goal.returns-in-None-clause-reads
returns-in-None-clause-reads g c = c.read_head.ensures.reads

pub returns-in-None-clause-faults : goal.returns-in-None-clause-faults
returns-in-None-clause-faults g c = c.in_ok-head.ensures.faults

pub returns-in_err-read-clause-brings : goal.returns-in_err-read-clause-brings
returns-in_err-read-clause-brings g c =
    read_exit Brought (BringsFrom c.args.told.now.value (book_of c.args.volumes.now.held) c.args.number) c.in_err-read.field-0.0 c.from_residual-in_err-read.result c.from_residual-in_err-read.ensures.1 tt tt

pub returns-in_err-read-clause-digest : goal.returns-in_err-read-clause-digest
returns-in_err-read-clause-digest g c other at =
    read_exit Brought (GoesByKeeper c.args.number c.args.first other.digest) c.in_err-read.field-0.0 c.from_residual-in_err-read.result c.from_residual-in_err-read.ensures.1 tt tt

pub returns-in_err-read-clause-own : goal.returns-in_err-read-clause-own
returns-in_err-read-clause-own g c other at =
    read_exit Brought (BringsDigest other.digest) c.in_err-read.field-0.0 c.from_residual-in_err-read.result c.from_residual-in_err-read.ensures.1 tt tt

pub returns-in_err-read-clause-found : goal.returns-in_err-read-clause-found
returns-in_err-read-clause-found g c tells =
    read_exit Brought (λ r. IfErr r (TellsFound (texts g.D.Disk c.args.volumes.now.journal) (book_of c.args.volumes.now.held).namespace c.args.spots.now c.args.number)) c.in_err-read.field-0.0 c.from_residual-in_err-read.result c.from_residual-in_err-read.ensures.1 tt tt

pub returns-in_err-read-clause-faults : goal.returns-in_err-read-clause-faults
returns-in_err-read-clause-faults g c =
    counts_behind (is_bring_fault c.from_residual-in_err-read.result) (g.D.Disk.faults (disk_of c.args.volumes.now.journal)) (g.D.Disk.faults (disk_of c.read_head.new.volumes.journal)) (g.D.Disk.faults (disk_of c.read_own.new.volumes.journal)) c.in_ok-head.ensures.faults
    (read_brought ReadBack Brought (g.D.Disk.faults (disk_of c.read_head.new.volumes.journal)) (g.D.Disk.faults (disk_of c.read_own.new.volumes.journal)) c.in_err-read.field-0.0 c.from_residual-in_err-read.result c.from_residual-in_err-read.ensures.1 c.in_err-read.ensures.faults)

pub returns-in_err-brought-in-Ok-clause-brings : goal.returns-in_err-brought-in-Ok-clause-brings
returns-in_err-brought-in-Ok-clause-brings g c =
    read_exit Brought (BringsFrom c.args.told.now.value (book_of c.args.volumes.now.held) c.args.number) reads.Memory c.from_residual-in_err-brought-in-Ok.result c.from_residual-in_err-brought-in-Ok.ensures.1 tt tt

pub returns-in_err-brought-in-Ok-clause-digest : goal.returns-in_err-brought-in-Ok-clause-digest
returns-in_err-brought-in-Ok-clause-digest g c other at =
    read_exit Brought (GoesByKeeper c.args.number c.args.first other.digest) reads.Memory c.from_residual-in_err-brought-in-Ok.result c.from_residual-in_err-brought-in-Ok.ensures.1 tt tt

pub returns-in_err-brought-in-Ok-clause-own : goal.returns-in_err-brought-in-Ok-clause-own
returns-in_err-brought-in-Ok-clause-own g c other at =
    read_exit Brought (BringsDigest other.digest) reads.Memory c.from_residual-in_err-brought-in-Ok.result c.from_residual-in_err-brought-in-Ok.ensures.1 tt tt

pub returns-in_err-brought-in-Ok-clause-found : goal.returns-in_err-brought-in-Ok-clause-found
returns-in_err-brought-in-Ok-clause-found g c tells =
    read_exit Brought (λ r. IfErr r (TellsFound (texts g.D.Disk c.args.volumes.now.journal) (book_of c.args.volumes.now.held).namespace c.args.spots.now c.args.number)) reads.Memory c.from_residual-in_err-brought-in-Ok.result c.from_residual-in_err-brought-in-Ok.ensures.1 tt tt

pub returns-in_err-brought-in-Ok-clause-faults : goal.returns-in_err-brought-in-Ok-clause-faults
returns-in_err-brought-in-Ok-clause-faults g c =
    read_brought ℕ Brought (g.D.Disk.faults (disk_of c.args.volumes.now.journal)) (g.D.Disk.faults (disk_of c.read_own.new.volumes.journal)) reads.Memory c.from_residual-in_err-brought-in-Ok.result c.from_residual-in_err-brought-in-Ok.ensures.1 (c.in_ok-read.ensures.faults ∙ c.in_ok-head.ensures.faults)

pub returns-in_ok-brought-in-Ok-clause-faults : goal.returns-in_ok-brought-in-Ok-clause-faults
returns-in_ok-brought-in-Ok-clause-faults g c = c.in_ok-read.ensures.faults ∙ c.in_ok-head.ensures.faults

pub returns-in-Err-clause-faults : goal.returns-in-Err-clause-faults
returns-in-Err-clause-faults g c = c.in_ok-read.ensures.faults ∙ c.in_ok-head.ensures.faults
