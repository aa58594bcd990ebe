use Rattle.std.proofs.Common.{◌≡◌, ℕ, List, Option, Some, None, sym, subst, ◌∙◌}
use Rattle.capture.proofs.PayloadLaws.{one_payload}
use Rattle.warc_journal.specs.Journals.{texts}
use Rattle.archive_reading.proofs.BringLaws.{kept_tells, read_right, reads_then, texts_stay}
use Rattle.archive_reading.proofs.FoundLaws.{checked_there, none_there}
use Rattle.archive_reading.specs.Bringing.{FindsThere, IsReadRight}
use Rattle.archive_reading.specs.Decoding.{HoldsPayload, TellsFraming}
use Rattle.archive_volumes.specs.Held.{book_of}
use Rattle.archive_volumes.specs.Spots.{head_in, is_cut_form, wire_in}
use Rattle.archive_reading.specs.declared.payload.ReadBack.{ReadBack}
use Rattle.archive_reading.proofs.payload.read_back.Goals as goal

pub returns-in_err-found-clause-reads : goal.returns-in_err-found-clause-reads
returns-in_err-found-clause-reads g c =
    reads_then g.D.Disk c.args.volumes.now c.read_part.new.volumes c.read_payload.new.volumes c.read_part.ensures.reads c.read_payload.ensures.reads

pub returns-clause-reads : goal.returns-clause-reads
returns-clause-reads g c =
    reads_then g.D.Disk c.args.volumes.now c.read_part.new.volumes c.read_payload.new.volumes c.read_part.ensures.reads c.read_payload.ensures.reads

pub returns-clause-right : goal.returns-clause-right
returns-clause-right g c number told kept =
    let spot = c.args.spot.now in
    let same = texts_stay g.D.Disk c.args.volumes.now c.read_part.new.volumes c.read_part.ensures.reads told in
    let head : c.in_ok-head.head.items ≡ head_in (texts g.D.Disk c.args.volumes.now.journal) spot =
    (rw c.head_place.ensures at c.in_ok-head.ensures.bytes told) in
    let tells : TellsFraming spot.method c.in_ok-head.head.items (Some c.in-Some.framing) =
    subst (λ (f : Option _). TellsFraming spot.method c.in_ok-head.head.items f) c.in-Some.is (rw c.as_slice-2.ensures.value at (rw c.as_slice.ensures.value at c.in_ok-framing.ensures)) in
    let holds : HoldsPayload (is_cut_form spot.form) c.in-Some.framing (wire_in (texts g.D.Disk c.args.volumes.now.journal) spot) c.in_ok-found.found =
    subst (λ (t : List (List ℕ)). HoldsPayload (is_cut_form spot.form) c.in-Some.framing (wire_in t spot) c.in_ok-found.found) same
    (c.in_ok-found.ensures.payload told) in
    subst (λ (r : ReadBack). IsReadRight (book_of c.args.volumes.now.held) number r) (sym c.checked.ensures)
    (read_right one_payload (texts g.D.Disk c.args.volumes.now.journal) (book_of c.args.volumes.now.held) number spot kept
    c.of.result (c.of.ensures ∙ head) c.in-Some.framing
    (subst (λ (h : List ℕ). TellsFraming spot.method h (Some c.in-Some.framing)) (sym c.of.ensures) tells) c.in_ok-found.found holds)

pub returns-in-None-clause-right : goal.returns-in-None-clause-right
returns-in-None-clause-right g c number told kept =
    let spot = c.args.spot.now in
    let head : c.in_ok-head.head.items ≡ head_in (texts g.D.Disk c.args.volumes.now.journal) spot =
    (rw c.head_place.ensures at c.in_ok-head.ensures.bytes told) in
    let tells : TellsFraming spot.method c.in_ok-head.head.items None =
    subst (λ (f : Option _). TellsFraming spot.method c.in_ok-head.head.items f) c.in-None.is (rw c.as_slice-2.ensures.value at (rw c.as_slice.ensures.value at c.in_ok-framing.ensures)) in
    kept_tells (texts g.D.Disk c.args.volumes.now.journal) (book_of c.args.volumes.now.held) number spot kept
    (subst (λ (h : List ℕ). TellsFraming spot.method h None) head tells)

pub returns-in-None-clause-found : goal.returns-in-None-clause-found
returns-in-None-clause-found g c told =
    let spot = c.args.spot.now in
    let tells : TellsFraming spot.method c.in_ok-head.head.items None =
    subst (λ (f : Option _). TellsFraming spot.method c.in_ok-head.head.items f) c.in-None.is (rw c.as_slice-2.ensures.value at (rw c.as_slice.ensures.value at c.in_ok-framing.ensures)) in
    none_there (texts g.D.Disk c.args.volumes.now.journal) spot c.in_ok-head.head.items (rw c.head_place.ensures at c.in_ok-head.ensures.bytes told)
    c.requires.ends tells

pub returns-clause-found : goal.returns-clause-found
returns-clause-found g c told =
    let spot = c.args.spot.now in
    let all = texts g.D.Disk c.args.volumes.now.journal in
    let same = texts_stay g.D.Disk c.args.volumes.now c.read_part.new.volumes c.read_part.ensures.reads told in
    let head : c.in_ok-head.head.items ≡ head_in all spot = (rw c.head_place.ensures at c.in_ok-head.ensures.bytes told) in
    let tells : TellsFraming spot.method c.in_ok-head.head.items (Some c.in-Some.framing) =
    subst (λ (f : Option _). TellsFraming spot.method c.in_ok-head.head.items f) c.in-Some.is (rw c.as_slice-2.ensures.value at (rw c.as_slice.ensures.value at c.in_ok-framing.ensures)) in
    subst (FindsThere all spot) (sym c.checked.ensures)
    (checked_there all spot c.of.result (c.of.ensures ∙ head) c.in-Some.framing
    (subst (λ (h : List ℕ). TellsFraming spot.method h (Some c.in-Some.framing)) (sym c.of.ensures) tells) c.in_ok-found.found
    (subst (λ (t : List (List ℕ)). HoldsPayload (is_cut_form spot.form) c.in-Some.framing (wire_in t spot) c.in_ok-found.found) same
    (c.in_ok-found.ensures.payload told)))
