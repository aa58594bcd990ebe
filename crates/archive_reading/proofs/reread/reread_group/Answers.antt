use Rattle.std.proofs.Common.{rules, ◌≡◌, ℕ, List, subst}
use Rattle.warc_journal.specs.Journals.{texts}
use Rattle.archive_reading.proofs.DigestLaws.{one_spot}
use Rattle.archive_volumes.proofs.GroupLaws.{got}
use Rattle.archive_reading.proofs.RereadLaws.{reread_at, reread_right}
use Rattle.archive_volumes.specs.Held.{book_of}
use Rattle.archive_reading.specs.Rereading.{IsReread, IsRereadIn, IsRereadThere}
use Rattle.archive_volumes.specs.declared.held.Held.{Held}
use Rattle.archive_volumes.specs.declared.spot.Spot.{Spot}
use Rattle.archive_reading.proofs.reread.reread_group.Goals as goal

pub returns-clause-read : goal.returns-clause-read
returns-clause-read g c other at =
    let spot = c.index-spots-number.result in
    let here = got c.args.spots.now c.args.number spot c.requires.below c.index-spots-number.is in
    subst (λ (s : Spot). IsReread s.digest c.in_ok-read.read) (one_spot c.args.spots.now c.args.number spot other here at) c.in_ok-read.ensures.read

pub returns-clause-there : goal.returns-clause-there
returns-clause-there g c tells other at =
    let book = book_of c.args.volumes.now.held in
    let spot = c.index-spots-number.result in
    let all = texts g.D.Disk c.args.volumes.now.journal in
    let here = got c.args.spots.now c.args.number spot c.requires.below c.index-spots-number.is in
    let given : c.as_slice.result.now ≡ c.in_ok-bytes.bytes.items = search rules in
    let read : IsRereadIn book.namespace c.args.number c.in_ok-bytes.bytes.items spot c.in_ok-read.read =
    subst (λ (b : List ℕ). IsRereadIn book.namespace c.args.number b spot c.in_ok-read.read) given
    (subst (λ (h : Held). IsRereadIn h.namespace c.args.number c.as_slice.result.now spot c.in_ok-read.read) c.read_text.ensures.reads.held
    c.in_ok-read.ensures.by) in
    subst (λ (s : Spot). IsRereadThere all c.args.spots.now book.namespace c.args.number s c.in_ok-read.read) (one_spot c.args.spots.now c.args.number spot other here at)
    (reread_at all c.args.spots.now book.namespace c.args.number c.in_ok-bytes.bytes.items spot c.in_ok-read.read
    (c.in_ok-bytes.ensures.reaches tells spot here) (c.in_ok-bytes.ensures.bytes tells spot here) read)

pub returns-clause-right : goal.returns-clause-right
returns-clause-right g c told =
    let book = book_of c.args.volumes.now.held in
    let spot = c.index-spots-number.result in
    let here = got c.args.spots.now c.args.number spot c.requires.below c.index-spots-number.is in
    let place = (c.requires.readable.placed told).each c.args.number spot here in
    let given : c.as_slice.result.now ≡ c.in_ok-bytes.bytes.items = search rules in
    reread_right book (c.requires.readable.holds.sound told) c.args.number c.in_ok-bytes.bytes.items (c.in_ok-bytes.ensures.begins told) spot
    (c.requires.readable.are.each c.args.number spot here) place.payload place.has place.digest c.in_ok-read.read
    (subst (λ (b : List ℕ). IsRereadIn book.namespace c.args.number b spot c.in_ok-read.read) given
    (subst (λ (h : Held). IsRereadIn h.namespace c.args.number c.as_slice.result.now spot c.in_ok-read.read) c.read_text.ensures.reads.held
    c.in_ok-read.ensures.by))
