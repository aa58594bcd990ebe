use Rattle.archive_payloads.proofs.FaultLaws.{counts_behind, read_brought, read_exit}
use Rattle.archive_shelf.specs.Answers.{CountsIf, is_bring_fault}
use Rattle.archive_volumes.specs.declared.spot.Spot.{Spot}
use Rattle.archive_volumes.specs.Spots.{is_same_form}
use Rattle.archive_reading.proofs.RereadLaws.{revisit_read, same_brought_there}
use Rattle.std.proofs.Common.{◌≡◌, true, ℕ, Bool, IsTrue, List, Option, None, Ok, Err, Result, refl, sym, ap, subst, ◌∙◌, inl, arith}
use Rattle.std.specs.Prelude.{IfSome, IfOk}
use Rattle.sha1.specs.Sha1.{sha1}
use Rattle.capture.specs.declared.book.Book.{Book}
use Rattle.capture.specs.declared.captured.Brought.{Brought}
use Rattle.warc_journal.specs.Journals.{texts, disk_of}
use Rattle.archive_shelf.specs.declared.fault.BringFault.{BringFault}
use Rattle.archive_shelf.specs.declared.fault.BringFault.TheVariants as brings
use Rattle.archive_reading.proofs.BringLaws.{damaged, named, no_digest, readable_on, reads_then, replayable}
use Rattle.archive_payloads.proofs.ChooseLaws.{numbers_digest, numbers_whole}
use Rattle.archive_reading.proofs.DigestLaws.{line_goes, one_spot}
use Rattle.archive_volumes.proofs.GroupLaws.{got}
use Rattle.archive_payloads.proofs.OriginalLaws.{first_told, revisit_told, told_brought}
use Rattle.archive_reading.specs.Bringing.{BringsFrom, brought_of}
use Rattle.archive_reading.specs.Decoding.{IsHead}
use Rattle.archive_reading.specs.Digests.{GoesByLine}
use Rattle.archive_volumes.specs.Held.{book_of}
use Rattle.archive_reading.specs.Rereading.{HasItsPayload, IsFirstTold, IsReread, IsRereadOf, IsSameOf, IsBroughtThere, IsRereadThere}
use Rattle.archive_reading.specs.declared.reread.Reread.{Reread}
use Rattle.archive_reading.specs.declared.part.ReadFault.TheVariants as reads
use Rattle.archive_payloads.proofs.bringing.bring_told.Goals as goal

-- damage under its own number
as_told : (told : Bool) (book : Book) (number : ℕ) (kept : List ℕ) (result : Result Brought BringFault) → result ≡ Err (brings.Damaged number kept None)
    → (IsTrue told → ⊥) → BringsFrom told book number result
as_told told book number kept result is never =
    subst (BringsFrom told book number) (sym is) (omega arith, inl refl, damaged told kept None never (no_digest kept))

pub original_payload-requires-clause-readable : goal.original_payload-requires-clause-readable
original_payload-requires-clause-readable g c =
    readable_on g.D.Disk c.args.told.now.value c.args.volumes.now c.reread_group.new.volumes c.reread_group.ensures.reads c.args.spots.now c.requires.readable

pub original_payload-requires-clause-whole : goal.original_payload-requires-clause-whole
original_payload-requires-clause-whole g c =
    let spot = c.index-spots-number.result in
    let here = got c.args.spots.now c.args.number spot c.requires.below c.index-spots-number.is in
    numbers_whole spot.digest c.args.spots.now c.args.candidates.now (c.requires.candidates spot here)

pub returns-in-None-clause-brings : goal.returns-in-None-clause-brings
returns-in-None-clause-brings g c =
    let book = book_of c.args.volumes.now.held in
    let spot = c.index-spots-number.result in
    let here = got c.args.spots.now c.args.number spot c.requires.below c.index-spots-number.is in
    as_told c.args.told.now.value book c.args.number spot.digest c.not_as_told.result c.not_as_told.ensures
    (λ told. revisit_told book c.args.spots.now c.requires.readable.are (texts g.D.Disk c.args.volumes.now.journal) (c.requires.readable.placed told) c.args.number spot here
    (c.requires.form spot here) c.in_ok-read.read (sym c.revisit_in.ensures ∙ c.in-None.is) (c.in_ok-read.ensures.right told))

pub returns-in-None-clause-digest : goal.returns-in-None-clause-digest
returns-in-None-clause-digest g c other at =
    let spot = c.index-spots-number.result in
    let here = got c.args.spots.now c.args.number spot c.requires.below c.index-spots-number.is in
    subst (GoesByLine c.args.number other.digest) (sym c.not_as_told.ensures) (line_goes c.args.spots.now c.args.number spot other here at)

-- ---- what it refers to was looked for

pub returns-in_ok-brought-in-Some-found-clause-brings : goal.returns-in_ok-brought-in-Some-found-clause-brings
returns-in_ok-brought-in-Some-found-clause-brings g c =
    let book = book_of c.args.volumes.now.held in
    let spot = c.index-spots-number.result in
    let here = got c.args.spots.now c.args.number spot c.requires.below c.index-spots-number.is in
    let its = c.requires.readable.are.each c.args.number spot here in
    let told_texts = texts g.D.Disk c.args.volumes.now.journal in
    let stays : book_of c.reread_group.new.volumes.held ≡ book = ap book_of c.reread_group.ensures.reads.held in
    let right : IsTrue c.args.told.now.value → IsSameOf book c.args.number c.in-Some.revisit.head c.in-Some.revisit.same = λ told.
    subst (λ (r : Reread). IsRereadOf book c.args.number r) (revisit_read c.in_ok-read.read c.in-Some.revisit (sym c.revisit_in.ensures ∙ c.in-Some.is)) (c.in_ok-read.ensures.right told) in
    let found : (told : IsTrue c.args.told.now.value) → HasItsPayload book (right told).first c.in_ok-found.found = λ told.
    subst (λ (b : Book). HasItsPayload b (right told).first c.in_ok-found.found) stays
    (c.in_ok-found.ensures.right told (right told).first
    (subst (λ (b : Book). IsFirstTold b c.in-Some.revisit.same c.args.candidates.now (right told).first) (sym stays)
    (first_told book c.args.spots.now c.requires.readable.are told_texts (c.requires.readable.placed told) c.args.number spot here (c.requires.form spot here) c.in-Some.revisit.head
    c.in-Some.revisit.same (right told) c.args.candidates.now (c.requires.candidates spot here) c.requires.rising))) in
    let head : IsHead c.in-Some.revisit.head true = subst (λ (r : Reread). IsReread spot.digest r) (revisit_read c.in_ok-read.read c.in-Some.revisit (sym c.revisit_in.ensures ∙ c.in-Some.is)) (c.in_ok-read.ensures.read spot here) in
    subst (λ (b : Brought). BringsFrom c.args.told.now.value book c.args.number (Ok b)) (sym c.in_ok-brought-in-Some-found.ensures) (
      replayable book c.args.number spot its c.in-Some.revisit.head c.in-Some-found.payload head,
      named book c.args.number spot its c.in-Some.revisit.head c.in-Some-found.payload,
      λ told. told_brought book c.args.spots.now c.requires.readable.are told_texts (c.requires.readable.placed told) c.args.number spot here (c.requires.form spot here)
          c.in-Some.revisit.head c.in-Some.revisit.same (right told) c.in-Some-found.payload
          (subst (λ (f : Option (List ℕ)). HasItsPayload book (right told).first f) c.in-Some-found.is (found told)),
    )

pub returns-in_ok-brought-in-Some-found-clause-digest : goal.returns-in_ok-brought-in-Some-found-clause-digest
returns-in_ok-brought-in-Some-found-clause-digest g c other at =
    subst (λ (b : Brought). GoesByLine c.args.number other.digest (Ok b)) (sym c.in_ok-brought-in-Some-found.ensures)
    (subst (λ (f : Option (List ℕ)). IfSome f (λ payload. sha1 payload ≡ other.digest)) c.in-Some-found.is
    (c.in_ok-found.ensures.kept other.digest
    (numbers_digest other.digest c.args.spots.now c.args.candidates.now (c.requires.candidates other at))))

pub returns-in_ok-brought-in-Some-found-clause-reads : goal.returns-in_ok-brought-in-Some-found-clause-reads
returns-in_ok-brought-in-Some-found-clause-reads g c =
    reads_then g.D.Disk c.args.volumes.now c.reread_group.new.volumes c.original_payload.new.volumes c.reread_group.ensures.reads c.original_payload.ensures.reads

pub returns-in-None-found-clause-brings : goal.returns-in-None-found-clause-brings
returns-in-None-found-clause-brings g c =
    let book = book_of c.args.volumes.now.held in
    let spot = c.index-spots-number.result in
    let here = got c.args.spots.now c.args.number spot c.requires.below c.index-spots-number.is in
    let told_texts = texts g.D.Disk c.args.volumes.now.journal in
    let stays : book_of c.reread_group.new.volumes.held ≡ book = ap book_of c.reread_group.ensures.reads.held in
    let right : IsTrue c.args.told.now.value → IsSameOf book c.args.number c.in-Some.revisit.head c.in-Some.revisit.same = λ told.
    subst (λ (r : Reread). IsRereadOf book c.args.number r) (revisit_read c.in_ok-read.read c.in-Some.revisit (sym c.revisit_in.ensures ∙ c.in-Some.is)) (c.in_ok-read.ensures.right told) in
    let found : (told : IsTrue c.args.told.now.value) → HasItsPayload book (right told).first c.in_ok-found.found = λ told.
    subst (λ (b : Book). HasItsPayload b (right told).first c.in_ok-found.found) stays
    (c.in_ok-found.ensures.right told (right told).first
    (subst (λ (b : Book). IsFirstTold b c.in-Some.revisit.same c.args.candidates.now (right told).first) (sym stays)
    (first_told book c.args.spots.now c.requires.readable.are told_texts (c.requires.readable.placed told) c.args.number spot here (c.requires.form spot here) c.in-Some.revisit.head
    c.in-Some.revisit.same (right told) c.args.candidates.now (c.requires.candidates spot here) c.requires.rising))) in
    as_told c.args.told.now.value book c.args.number spot.digest c.not_as_told-in-None-found.result c.not_as_told-in-None-found.ensures
    (λ told. subst (λ (f : Option (List ℕ)). HasItsPayload book (right told).first f) c.in-None-found.is (found told))

pub returns-in-None-found-clause-digest : goal.returns-in-None-found-clause-digest
returns-in-None-found-clause-digest g c other at =
    let spot = c.index-spots-number.result in
    let here = got c.args.spots.now c.args.number spot c.requires.below c.index-spots-number.is in
    subst (GoesByLine c.args.number other.digest) (sym c.not_as_told-in-None-found.ensures) (line_goes c.args.spots.now c.args.number spot other here at)

pub returns-in-None-found-clause-reads : goal.returns-in-None-found-clause-reads
returns-in-None-found-clause-reads g c =
    reads_then g.D.Disk c.args.volumes.now c.reread_group.new.volumes c.original_payload.new.volumes c.reread_group.ensures.reads c.original_payload.ensures.reads

pub returns-in_err-found-clause-reads : goal.returns-in_err-found-clause-reads
returns-in_err-found-clause-reads g c =
    reads_then g.D.Disk c.args.volumes.now c.reread_group.new.volumes c.original_payload.new.volumes c.reread_group.ensures.reads c.original_payload.ensures.reads

pub returns-in_err-brought-in-Some-found-clause-reads : goal.returns-in_err-brought-in-Some-found-clause-reads
returns-in_err-brought-in-Some-found-clause-reads g c =
    reads_then g.D.Disk c.args.volumes.now c.reread_group.new.volumes c.original_payload.new.volumes c.reread_group.ensures.reads c.original_payload.ensures.reads

pub returns-in_ok-brought-in-Some-found-clause-there : goal.returns-in_ok-brought-in-Some-found-clause-there
returns-in_ok-brought-in-Some-found-clause-there g c tells other at =
    let spot = c.index-spots-number.result in
    let all = texts g.D.Disk c.args.volumes.now.journal in
    let namespace = (book_of c.args.volumes.now.held).namespace in
    let here = got c.args.spots.now c.args.number spot c.requires.below c.index-spots-number.is in
    subst (IsBroughtThere all namespace c.args.number other) (sym c.in_ok-brought-in-Some-found.ensures)
    (subst (λ (s : Spot). IsBroughtThere all namespace c.args.number s (brought_of spot c.in-Some.revisit.head c.in-Some-found.payload))
    (one_spot c.args.spots.now c.args.number spot other here at)
    (same_brought_there all c.args.spots.now namespace c.args.number spot c.in-Some.revisit.head c.in-Some-found.payload c.in-Some.revisit.same (ap is_same_form (c.requires.form spot here))
    (subst (IsRereadThere all c.args.spots.now namespace c.args.number spot) (revisit_read c.in_ok-read.read c.in-Some.revisit (sym c.revisit_in.ensures ∙ c.in-Some.is)) (c.in_ok-read.ensures.there tells spot here))))

-- ---- what is asked, and what stays at each exit

pub reread_group-requires-clause-readable : goal.reread_group-requires-clause-readable
reread_group-requires-clause-readable g c = c.requires.readable

pub reread_group-requires-clause-below : goal.reread_group-requires-clause-below
reread_group-requires-clause-below g c = c.requires.below

pub returns-in_err-read-clause-brings : goal.returns-in_err-read-clause-brings
returns-in_err-read-clause-brings g c =
    read_exit Brought (BringsFrom c.args.told.now.value (book_of c.args.volumes.now.held) c.args.number) c.in_err-read.field-0.0 c.from_residual.result c.from_residual.ensures.1 tt tt

pub returns-in_err-read-clause-digest : goal.returns-in_err-read-clause-digest
returns-in_err-read-clause-digest g c other at =
    read_exit Brought (GoesByLine c.args.number other.digest) c.in_err-read.field-0.0 c.from_residual.result c.from_residual.ensures.1 tt tt

pub returns-in_err-read-clause-there : goal.returns-in_err-read-clause-there
returns-in_err-read-clause-there g c tells other at =
    read_exit Brought (λ r. IfOk r (IsBroughtThere (texts g.D.Disk c.args.volumes.now.journal) (book_of c.args.volumes.now.held).namespace c.args.number other)) c.in_err-read.field-0.0 c.from_residual.result c.from_residual.ensures.1 tt tt

pub returns-in_err-read-clause-reads : goal.returns-in_err-read-clause-reads
returns-in_err-read-clause-reads g c =
    c.reread_group.ensures.reads

pub returns-in_err-read-clause-faults : goal.returns-in_err-read-clause-faults
returns-in_err-read-clause-faults g c =
    read_brought Reread Brought (g.D.Disk.faults (disk_of c.args.volumes.now.journal)) (g.D.Disk.faults (disk_of c.reread_group.new.volumes.journal)) c.in_err-read.field-0.0 c.from_residual.result c.from_residual.ensures.1 c.in_err-read.ensures.faults

pub returns-in_err-found-clause-brings : goal.returns-in_err-found-clause-brings
returns-in_err-found-clause-brings g c =
    read_exit Brought (BringsFrom c.args.told.now.value (book_of c.args.volumes.now.held) c.args.number) c.in_err-found.field-0.0 c.from_residual-in_err-found.result c.from_residual-in_err-found.ensures.1 tt tt

pub returns-in_err-found-clause-digest : goal.returns-in_err-found-clause-digest
returns-in_err-found-clause-digest g c other at =
    read_exit Brought (GoesByLine c.args.number other.digest) c.in_err-found.field-0.0 c.from_residual-in_err-found.result c.from_residual-in_err-found.ensures.1 tt tt

pub returns-in_err-found-clause-there : goal.returns-in_err-found-clause-there
returns-in_err-found-clause-there g c tells other at =
    read_exit Brought (λ r. IfOk r (IsBroughtThere (texts g.D.Disk c.args.volumes.now.journal) (book_of c.args.volumes.now.held).namespace c.args.number other)) c.in_err-found.field-0.0 c.from_residual-in_err-found.result c.from_residual-in_err-found.ensures.1 tt tt

pub returns-in_err-found-clause-faults : goal.returns-in_err-found-clause-faults
returns-in_err-found-clause-faults g c =
    counts_behind (is_bring_fault c.from_residual-in_err-found.result) (g.D.Disk.faults (disk_of c.args.volumes.now.journal)) (g.D.Disk.faults (disk_of c.reread_group.new.volumes.journal)) (g.D.Disk.faults (disk_of c.original_payload.new.volumes.journal)) c.in_ok-read.ensures.faults
    (read_brought (Option (List ℕ)) Brought (g.D.Disk.faults (disk_of c.reread_group.new.volumes.journal)) (g.D.Disk.faults (disk_of c.original_payload.new.volumes.journal)) c.in_err-found.field-0.0 c.from_residual-in_err-found.result c.from_residual-in_err-found.ensures.1 c.in_err-found.ensures.faults)

pub returns-in_err-brought-in-Some-found-clause-brings : goal.returns-in_err-brought-in-Some-found-clause-brings
returns-in_err-brought-in-Some-found-clause-brings g c =
    read_exit Brought (BringsFrom c.args.told.now.value (book_of c.args.volumes.now.held) c.args.number) reads.Memory c.from_residual-in_err-brought-in-Some-found.result c.from_residual-in_err-brought-in-Some-found.ensures.1 tt tt

pub returns-in_err-brought-in-Some-found-clause-digest : goal.returns-in_err-brought-in-Some-found-clause-digest
returns-in_err-brought-in-Some-found-clause-digest g c other at =
    read_exit Brought (GoesByLine c.args.number other.digest) reads.Memory c.from_residual-in_err-brought-in-Some-found.result c.from_residual-in_err-brought-in-Some-found.ensures.1 tt tt

pub returns-in_err-brought-in-Some-found-clause-there : goal.returns-in_err-brought-in-Some-found-clause-there
returns-in_err-brought-in-Some-found-clause-there g c tells other at =
    read_exit Brought (λ r. IfOk r (IsBroughtThere (texts g.D.Disk c.args.volumes.now.journal) (book_of c.args.volumes.now.held).namespace c.args.number other)) reads.Memory c.from_residual-in_err-brought-in-Some-found.result c.from_residual-in_err-brought-in-Some-found.ensures.1 tt tt

pub returns-in_err-brought-in-Some-found-clause-faults : goal.returns-in_err-brought-in-Some-found-clause-faults
returns-in_err-brought-in-Some-found-clause-faults g c =
    read_brought ℕ Brought (g.D.Disk.faults (disk_of c.args.volumes.now.journal)) (g.D.Disk.faults (disk_of c.original_payload.new.volumes.journal)) reads.Memory c.from_residual-in_err-brought-in-Some-found.result c.from_residual-in_err-brought-in-Some-found.ensures.1 (c.in_ok-found.ensures.faults ∙ c.in_ok-read.ensures.faults)

pub returns-in_ok-brought-in-Some-found-clause-faults : goal.returns-in_ok-brought-in-Some-found-clause-faults
returns-in_ok-brought-in-Some-found-clause-faults g c = c.in_ok-found.ensures.faults ∙ c.in_ok-read.ensures.faults

pub returns-in-None-clause-there : goal.returns-in-None-clause-there
returns-in-None-clause-there g c tells other at =
    subst (λ r. IfOk r (IsBroughtThere (texts g.D.Disk c.args.volumes.now.journal) (book_of c.args.volumes.now.held).namespace c.args.number other)) (sym c.not_as_told.ensures) tt

pub returns-in-None-clause-reads : goal.returns-in-None-clause-reads
returns-in-None-clause-reads g c = c.reread_group.ensures.reads

pub returns-in-None-clause-faults : goal.returns-in-None-clause-faults
returns-in-None-clause-faults g c =
    subst (λ r. CountsIf (is_bring_fault r) (g.D.Disk.faults (disk_of c.args.volumes.now.journal)) (g.D.Disk.faults (disk_of c.reread_group.new.volumes.journal))) (sym c.not_as_told.ensures) (c.in_ok-read.ensures.faults)

pub returns-in-None-found-clause-there : goal.returns-in-None-found-clause-there
returns-in-None-found-clause-there g c tells other at =
    subst (λ r. IfOk r (IsBroughtThere (texts g.D.Disk c.args.volumes.now.journal) (book_of c.args.volumes.now.held).namespace c.args.number other)) (sym c.not_as_told-in-None-found.ensures) tt

pub returns-in-None-found-clause-faults : goal.returns-in-None-found-clause-faults
returns-in-None-found-clause-faults g c =
    subst (λ r. CountsIf (is_bring_fault r) (g.D.Disk.faults (disk_of c.args.volumes.now.journal)) (g.D.Disk.faults (disk_of c.original_payload.new.volumes.journal))) (sym c.not_as_told-in-None-found.ensures) (c.in_ok-found.ensures.faults ∙ c.in_ok-read.ensures.faults)
