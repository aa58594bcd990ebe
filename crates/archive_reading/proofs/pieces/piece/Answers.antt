use Rattle.std.proofs.Common.{◌≡◌, IsTrue, Ok, Err, refl, sym, ap, subst, ◌∙◌}
use Rattle.capture.specs.declared.book.Book.{Book}
use Rattle.warc_journal.specs.Journals.{texts}
use Rattle.archive_shelf.specs.declared.fault.BringFault.TheVariants as brings
use Rattle.archive_reading.proofs.BringLaws.{damaged, place_at}
use Rattle.archive_reading.proofs.DigestLaws.{one_spot, piece_by_digest, piece_by_keeper}
use Rattle.archive_volumes.proofs.GroupLaws.{got}
use Rattle.archive_reading.proofs.PieceAnswers.{never_other, other_bytes, piece_of, told_bytes}
use Rattle.archive_volumes.specs.Held.{book_of}
use Rattle.archive_reading.specs.KeptGroups.{HasFront, IsGroupOf, IsKeptGroup, IsSomeGroup, IsTold, bytes_by}
use Rattle.archive_reading.specs.declared.kept_group.KeptGroup.{KeptGroup}
use Rattle.archive_volumes.specs.declared.spot.Spot.{Spot}
use Rattle.archive_reading.proofs.pieces.piece.Goals as goal

pub returns-in-Err-clause-gives : goal.returns-in-Err-clause-gives
returns-in-Err-clause-gives g c =
    let book = book_of c.args.volumes.now.held in
    let spot = c.index-spots-number.result in
    let all = texts g.D.Disk c.args.volumes.now.journal in
    let is : bytes_by spot.digest c.in_ok-read.read ≡ Err c.in-Err.found = sym c.right_bytes.ensures ∙ c.in-Err.is in (
      refl,
      damaged c.args.told.now.value spot.digest c.in-Err.found
          (λ told. never_other book c.args.number all spot
          (place_at book c.args.spots.now c.args.number spot c.requires.below c.index-spots-number.is all (c.requires.readable.placed told))
          c.in_ok-read.read c.in-Err.found is (c.in_ok-read.ensures.exact told))
          (other_bytes spot.digest c.in_ok-read.read c.in-Err.found is),
    )

pub returns-in_ok-with_front-in-Ok-clause-gives : goal.returns-in_ok-with_front-in-Ok-clause-gives
returns-in_ok-with_front-in-Ok-clause-gives g c =
    let book = book_of c.args.volumes.now.held in
    let group = c.in-Ok.group in
    let piece = c.in_ok-with_front-in-Ok.field-0 in
    let tells = told_bytes c.index-spots-number.result.digest c.in_ok-read.read group (sym c.right_bytes.ensures ∙ c.in-Ok.is) in
    let told : IsTold book.namespace c.args.number group tells.0 =
    subst (λ (k : KeptGroup). IsSomeGroup book.namespace c.args.number k) tells.1 c.in_ok-read.ensures.some in
    let is : IsTrue c.args.told.now.value → IsGroupOf book c.args.number group tells.0 = λ so.
    subst (λ (k : KeptGroup). IsKeptGroup book c.args.number k) tells.1 (c.in_ok-read.ensures.exact so) in
    let front : HasFront book c.args.number group piece =
    subst (λ (b : Book). HasFront b c.args.number group piece) (ap book_of c.read_group.ensures.reads.held) c.in_ok-with_front-in-Ok.ensures in
    piece_of c.args.told.now.value book c.args.number group piece tells.0 told is front

pub returns-in-Err-clause-kept : goal.returns-in-Err-clause-kept
returns-in-Err-clause-kept g c other at =
    let spot = c.index-spots-number.result in
    ap (λ (s : Spot). s.digest) (one_spot c.args.spots.now c.args.number spot other
    (got c.args.spots.now c.args.number spot c.requires.below c.index-spots-number.is) at)

pub returns-in_ok-with_front-in-Ok-clause-kept : goal.returns-in_ok-with_front-in-Ok-clause-kept
returns-in_ok-with_front-in-Ok-clause-kept g c other at =
    let book = book_of c.args.volumes.now.held in
    let group = c.in-Ok.group in
    let piece = c.in_ok-with_front-in-Ok.field-0 in
    let spot = c.index-spots-number.result in
    let tells = told_bytes spot.digest c.in_ok-read.read group (sym c.right_bytes.ensures ∙ c.in-Ok.is) in
    let told : IsTold book.namespace c.args.number group tells.0 =
    subst (λ (k : KeptGroup). IsSomeGroup book.namespace c.args.number k) tells.1 c.in_ok-read.ensures.some in
    let front : HasFront book c.args.number group piece =
    subst (λ (b : Book). HasFront b c.args.number group piece) (ap book_of c.read_group.ensures.reads.held) c.in_ok-with_front-in-Ok.ensures in
    piece_by_digest book c.args.number other (c.requires.readable.are.each c.args.number other at) group piece tells.0 told front
    (tells.2 ∙ ap (λ (s : Spot). s.digest) (one_spot c.args.spots.now c.args.number spot other
    (got c.args.spots.now c.args.number spot c.requires.below c.index-spots-number.is) at))

pub returns-in-Err-clause-digests : goal.returns-in-Err-clause-digests
returns-in-Err-clause-digests g c =
    let spot = c.index-spots-number.result in
    let here = got c.args.spots.now c.args.number spot c.requires.below c.index-spots-number.is in
    piece_by_keeper (book_of c.args.volumes.now.held) c.args.number spot (c.requires.readable.are.each c.args.number spot here)
    (Err (brings.Damaged c.args.number spot.digest c.in-Err.found)) (returns-in-Err-clause-kept g c spot here)

pub returns-in_ok-with_front-in-Ok-clause-digests : goal.returns-in_ok-with_front-in-Ok-clause-digests
returns-in_ok-with_front-in-Ok-clause-digests g c =
    let spot = c.index-spots-number.result in
    let here = got c.args.spots.now c.args.number spot c.requires.below c.index-spots-number.is in
    piece_by_keeper (book_of c.args.volumes.now.held) c.args.number spot (c.requires.readable.are.each c.args.number spot here)
    (Ok c.in_ok-with_front-in-Ok.field-0) (returns-in_ok-with_front-in-Ok-clause-kept g c spot here)
