use Rattle.archive_reading.specs.Rereading.{IsBackThere}
use Rattle.warc_journal.specs.Journals.{texts}
use Rattle.std.proofs.Common.{◌≡◌, true, false, sym, subst, ◌∙◌, ap}
use Rattle.std.specs.Prelude.{IfOk}
use Rattle.archive_reading.proofs.FoundLaws.{back_there}
use Rattle.archive_reading.proofs.DigestLaws.{one_spot}
use Rattle.archive_volumes.proofs.GroupLaws.{got, if_ok_so}
use Rattle.archive_reading.proofs.RereadLaws.{own_checked, own_right, own_there}
use Rattle.archive_reading.specs.Bringing.{FindsThere, IsChecked, IsReadRight}
use Rattle.archive_volumes.specs.Held.{book_of}
use Rattle.archive_volumes.specs.Spots.{is_told_form}
use Rattle.archive_volumes.specs.declared.spot.Spot.{Spot}
use Rattle.archive_reading.proofs.reread.read_own.Goals as goal

pub returns-then-is_told-clause-checked : goal.returns-then-is_told-clause-checked
returns-then-is_told-clause-checked g c other at =
    subst (IsChecked other.digest) (sym c.own_read.ensures) (own_checked other.digest c.in_ok-read.read (c.in_ok-read.ensures.read other at))

pub returns-then-is_told-clause-right : goal.returns-then-is_told-clause-right
returns-then-is_told-clause-right g c told =
    let book = book_of c.args.volumes.now.held in
    let spot = c.index-spots-number.result in
    let here = got c.args.spots.now c.args.number spot c.requires.below c.index-spots-number.is in
    let its = c.requires.readable.are.each c.args.number spot here in
    subst (IsReadRight book c.args.number) (sym c.own_read.ensures)
    (own_right book c.args.number spot its (c.requires.own spot here) c.in_ok-read.read (c.in_ok-read.ensures.right told))

pub read_back-requires-clause-place : goal.read_back-requires-clause-place
read_back-requires-clause-place g c tells =
    let spot = c.index-spots-number.result in
    let here = got c.args.spots.now c.args.number spot c.requires.below c.index-spots-number.is in
    (c.requires.readable.within tells).each c.args.number spot here

pub read_back-requires-clause-ends : goal.read_back-requires-clause-ends
read_back-requires-clause-ends g c =
    let spot = c.index-spots-number.result in
    let here = got c.args.spots.now c.args.number spot c.requires.below c.index-spots-number.is in
    let its = c.requires.readable.are.each c.args.number spot here in
    its.ends

pub returns-clause-checked : goal.returns-clause-checked
returns-clause-checked g c other at =
    let spot = c.index-spots-number.result in
    let here = got c.args.spots.now c.args.number spot c.requires.below c.index-spots-number.is in
    subst (λ (s : Spot). IfOk c.read_back.result (IsChecked s.digest)) (one_spot c.args.spots.now c.args.number spot other here at) c.read_back.ensures.checked

pub returns-clause-right : goal.returns-clause-right
returns-clause-right g c told =
    let spot = c.index-spots-number.result in
    let here = got c.args.spots.now c.args.number spot c.requires.below c.index-spots-number.is in
    let its = c.requires.readable.are.each c.args.number spot here in
    let read : is_told_form spot.form ≡ false = sym c.is_told.ensures ∙ c.if-is_told.false in
    c.read_back.ensures.right c.args.number (c.requires.readable.holds.tells told)
    (record { is = its; placed = (c.requires.readable.placed told).each c.args.number spot here; own = c.requires.own spot here; read = read })

pub returns-then-is_told-clause-there : goal.returns-then-is_told-clause-there
returns-then-is_told-clause-there g c tells other at =
    let all = texts g.D.Disk c.args.volumes.now.journal in
    let book = book_of c.args.volumes.now.held in
    let spot = c.index-spots-number.result in
    let here = got c.args.spots.now c.args.number spot c.requires.below c.index-spots-number.is in
    let told : is_told_form other.form ≡ true =
    ap (λ (s : Spot). is_told_form s.form) (one_spot c.args.spots.now c.args.number other spot at here) ∙ sym c.is_told.ensures ∙ c.if-is_told.true in
    subst (IsBackThere all c.args.spots.now book.namespace c.args.number other) (sym c.own_read.ensures)
    (own_there all c.args.spots.now book.namespace c.args.number other told (c.requires.own other at) c.in_ok-read.read (c.in_ok-read.ensures.there tells other at))

pub returns-clause-there : goal.returns-clause-there
returns-clause-there g c tells other at =
    let all = texts g.D.Disk c.args.volumes.now.journal in
    let namespace = (book_of c.args.volumes.now.held).namespace in
    let spot = c.index-spots-number.result in
    let here = got c.args.spots.now c.args.number spot c.requires.below c.index-spots-number.is in
    let read : is_told_form spot.form ≡ false = sym c.is_told.ensures ∙ c.if-is_told.false in
    subst (λ (s : Spot). IfOk c.read_back.result (IsBackThere all c.args.spots.now namespace c.args.number s)) (one_spot c.args.spots.now c.args.number spot other here at)
    (if_ok_so (FindsThere all spot) (IsBackThere all c.args.spots.now namespace c.args.number spot) c.read_back.result (c.read_back.ensures.found tells)
    (back_there all c.args.spots.now namespace c.args.number spot read))
