use Rattle.archive_payloads.proofs.FaultLaws.{look_exit, not_done, read_looked}
use Rattle.warc_journal.specs.Journals.{texts, disk_of}
use Rattle.std.proofs.Common.{Bool, Err, IsTrue, ap, inl, inr, sym, subst, ◌∙◌}
use Rattle.std.proofs.lemmas.Bool.{false≢true}
use Rattle.std.specs.Prelude.{IsFalse, IfErr}
use Rattle.archive_shelf.specs.Comparing.{KeepsWire}
use Rattle.archive_shelf.specs.declared.fault.StoreFault.TheVariants as stores
use Rattle.archive_payloads.proofs.AskLaws.{cut_asked, damage_asked, revisit_asked, whole_asked}
use Rattle.archive_payloads.proofs.ChooseLaws.{its_bound, its_own}
use Rattle.archive_payloads.proofs.DamageLaws.{other_passed, stands_cut, told_damage}
use Rattle.archive_volumes.proofs.GroupLaws.{got}
use Rattle.archive_reading.proofs.RereadLaws.{no_revisit, no_revisit_there, own_chosen_there}
use Rattle.archive_payloads.specs.Choosing.{Asks}
use Rattle.archive_payloads.specs.Damage.{TellsDamage}
use Rattle.archive_volumes.specs.Held.{book_of}
use Rattle.archive_reading.specs.Rereading.{IsOwnOf, IsReread, IsRereadOf, IsRereadThere}
use Rattle.archive_volumes.specs.Spots.{is_same_form, is_told_form}
use Rattle.archive_reading.specs.declared.reread.Reread.{Reread}
use Rattle.archive_reading.specs.declared.reread.Reread.TheVariants as reread
use Rattle.archive_volumes.specs.declared.spot.Spot.{Spot}
use Rattle.archive_payloads.proofs.compare.has_told_payload.Goals as goal

pub bounds-spots-number : goal.bounds-spots-number
bounds-spots-number g c = its_bound (book_of c.args.volumes.now.held) c.args.spots.now c.requires.readable.are c.args.number c.requires.whole

pub reread_group-requires-clause-below : goal.reread_group-requires-clause-below
reread_group-requires-clause-below g c = its_bound (book_of c.args.volumes.now.held) c.args.spots.now c.requires.readable.are c.args.number c.requires.whole

pub returns-in-Own-default-default-false-clause-asks : goal.returns-in-Own-default-default-false-clause-asks
returns-in-Own-default-default-false-clause-asks g c payload is =
    let book = book_of c.args.volumes.now.held in
    let spot = c.index-spots-number.result in
    let below = its_bound book c.args.spots.now c.requires.readable.are c.args.number c.requires.whole in
    let here = got c.args.spots.now c.args.number spot below c.index-spots-number.is in
    let its = c.requires.readable.are.each c.args.number spot here in
    let own = its_own book c.args.spots.now c.requires.readable.are c.args.number c.requires.whole spot c.index-spots-number.is in
    let made : IsFalse c.args.told.now.value → KeepsWire book c.args.number = λ untold. (c.requires.made untold).each c.args.number spot here (c.requires.form spot here) in
    let right : IsTrue c.args.told.now.value → IsRereadOf book c.args.number c.in_ok-read.read = c.in_ok-read.ensures.right in
    whole_asked c.args.told.now.value book c.args.number spot its own made payload _ c.in-Own-default-default-false.payload
    (λ told. subst (λ (b : Bool). IsOwnOf book c.args.number c.in-Own-default-default-false.head c.in-Own-default-default-false.payload b) c.in-Own-default-default-false.cut-test
    (subst (λ (r : Reread). IsRereadOf book c.args.number r) c.in-Own-default-default-false.is (right told)))
    c.has_bytes.result (rw c.as_slice.ensures at (c.has_bytes.ensures payload is))

pub returns-in-Own-default-default-true-clause-asks : goal.returns-in-Own-default-default-true-clause-asks
returns-in-Own-default-default-true-clause-asks g c payload is =
    let book = book_of c.args.volumes.now.held in
    let spot = c.index-spots-number.result in
    let below = its_bound book c.args.spots.now c.requires.readable.are c.args.number c.requires.whole in
    let here = got c.args.spots.now c.args.number spot below c.index-spots-number.is in
    let its = c.requires.readable.are.each c.args.number spot here in
    let own = its_own book c.args.spots.now c.requires.readable.are c.args.number c.requires.whole spot c.index-spots-number.is in
    let made : IsFalse c.args.told.now.value → KeepsWire book c.args.number = λ untold. (c.requires.made untold).each c.args.number spot here (c.requires.form spot here) in
    let right : IsTrue c.args.told.now.value → IsRereadOf book c.args.number c.in_ok-read.read = c.in_ok-read.ensures.right in
    cut_asked c.args.told.now.value book c.args.number spot its own made payload _ _
    (λ told. subst (λ (b : Bool). IsOwnOf book c.args.number c.in-Own-default-default-true.head c.in-Own-default-default-true.payload b) c.in-Own-default-default-true.cut-test
    (subst (λ (r : Reread). IsRereadOf book c.args.number r) c.in-Own-default-default-true.is (right told)))

pub returns-in-Same-clause-asks : goal.returns-in-Same-clause-asks
returns-in-Same-clause-asks g c payload is =
    let book = book_of c.args.volumes.now.held in
    let spot = c.index-spots-number.result in
    let below = its_bound book c.args.spots.now c.requires.readable.are c.args.number c.requires.whole in
    let here = got c.args.spots.now c.args.number spot below c.index-spots-number.is in
    let its = c.requires.readable.are.each c.args.number spot here in
    let own = its_own book c.args.spots.now c.requires.readable.are c.args.number c.requires.whole spot c.index-spots-number.is in
    let right : IsTrue c.args.told.now.value → IsRereadOf book c.args.number c.in_ok-read.read = c.in_ok-read.ensures.right in
    revisit_asked c.args.told.now.value book c.args.number payload
    (λ told. no_revisit book c.args.number spot its own _ _ (subst (λ (r : Reread). IsRereadOf book c.args.number r) c.in-Same.is (right told)))

pub returns-in-Damaged-clause-asks : goal.returns-in-Damaged-clause-asks
returns-in-Damaged-clause-asks g c payload is =
    let book = book_of c.args.volumes.now.held in
    let spot = c.index-spots-number.result in
    let below = its_bound book c.args.spots.now c.requires.readable.are c.args.number c.requires.whole in
    let here = got c.args.spots.now c.args.number spot below c.index-spots-number.is in
    let right : IsTrue c.args.told.now.value → IsRereadOf book c.args.number c.in_ok-read.read = c.in_ok-read.ensures.right in
    subst (λ (s : Spot). Asks c.args.told.now.value book c.args.number payload (Err (stores.Damaged c.args.number s.digest c.in-Damaged.found))) c.index-spots-number.is
    (damage_asked c.args.told.now.value book c.args.number payload spot.digest c.in-Damaged.found
    (λ told. subst (λ (r : Reread). IsRereadOf book c.args.number r) c.in-Damaged.is (right told))
    (subst (λ (r : Reread). IsReread spot.digest r) c.in-Damaged.is (c.in_ok-read.ensures.read spot here)))

pub returns-in-Own-default-default-false-clause-there : goal.returns-in-Own-default-default-false-clause-there
returns-in-Own-default-default-false-clause-there g c tells payload is has =
    let all = texts g.D.Disk c.args.volumes.now.journal in
    let namespace = (book_of c.args.volumes.now.held).namespace in
    record {
      told = λ other at told.
          own_chosen_there all c.args.spots.now namespace c.args.number other c.in-Own-default-default-false.head c.in-Own-default-default-false.payload payload
          ((rw c.as_slice.ensures at (c.has_bytes.ensures payload is)).0 has)
          (subst (λ (b : Bool). IsRereadThere all c.args.spots.now namespace c.args.number other (reread.Own c.in-Own-default-default-false.head c.in-Own-default-default-false.payload b))
          c.in-Own-default-default-false.cut-test
          (subst (λ (r : Reread). IsRereadThere all c.args.spots.now namespace c.args.number other r) c.in-Own-default-default-false.is (c.in_ok-read.ensures.there tells other at)));
      read = λ other at read. absurd (false≢true (sym read ∙ ap is_told_form (c.requires.form other at)));
    }

pub returns-in-Damaged-clause-damage : goal.returns-in-Damaged-clause-damage
returns-in-Damaged-clause-damage g c =
    let book = book_of c.args.volumes.now.held in
    let spot = c.index-spots-number.result in
    let all = texts g.D.Disk c.args.volumes.now.journal in
    let here = got c.args.spots.now c.args.number spot (its_bound book c.args.spots.now c.requires.readable.are c.args.number c.requires.whole) c.index-spots-number.is in
    subst (λ (s : Spot). TellsDamage g.D.Disk.tells all book.namespace c.args.spots.now (stores.Damaged c.args.number s.digest c.in-Damaged.found))
    c.index-spots-number.is
    (told_damage all c.args.spots.now book.namespace c.args.number spot g.D.Disk.tells here c.in-Damaged.found (ap is_told_form (c.requires.form spot here))
    (λ tells. subst (IsRereadThere all c.args.spots.now book.namespace c.args.number spot) c.in-Damaged.is (c.in_ok-read.ensures.there tells spot here)))

pub returns-in-Own-default-default-false-clause-passes : goal.returns-in-Own-default-default-false-clause-passes
returns-in-Own-default-default-false-clause-passes g c payload is lacks other at =
    inl (other_passed other.digest c.in-Own-default-default-false.payload payload c.has_bytes.result (rw c.as_slice.ensures at (c.has_bytes.ensures payload is)) lacks
    (subst (λ (r : Reread). IsReread other.digest r) c.in-Own-default-default-false.is (c.in_ok-read.ensures.read other at)).1)

pub returns-in-Own-default-default-true-clause-passes : goal.returns-in-Own-default-default-true-clause-passes
returns-in-Own-default-default-true-clause-passes g c payload is lacks other at =
    let all = texts g.D.Disk c.args.volumes.now.journal in
    let namespace = (book_of c.args.volumes.now.held).namespace in
    inr (
      ap is_told_form (c.requires.form other at),
      λ tells. stands_cut all c.args.spots.now namespace c.args.number other c.in-Own-default-default-true.head c.in-Own-default-default-true.payload
          (subst (λ (b : Bool). IsRereadThere all c.args.spots.now namespace c.args.number other (reread.Own c.in-Own-default-default-true.head c.in-Own-default-default-true.payload b))
          c.in-Own-default-default-true.cut-test
          (subst (IsRereadThere all c.args.spots.now namespace c.args.number other) c.in-Own-default-default-true.is (c.in_ok-read.ensures.there tells other at))),
    )

pub returns-in-Same-clause-passes : goal.returns-in-Same-clause-passes
returns-in-Same-clause-passes g c payload is lacks other at =
    let all = texts g.D.Disk c.args.volumes.now.journal in
    let namespace = (book_of c.args.volumes.now.held).namespace in
    inr (
      ap is_told_form (c.requires.form other at),
      λ tells. absurd (no_revisit_there all c.args.spots.now namespace c.args.number other (ap is_same_form (c.requires.form other at)) _ _
          (subst (IsRereadThere all c.args.spots.now namespace c.args.number other) c.in-Same.is (c.in_ok-read.ensures.there tells other at))),
    )

-- ---- what is asked, and what stays at each exit

pub reread_group-requires-clause-readable : goal.reread_group-requires-clause-readable
reread_group-requires-clause-readable g c = c.requires.readable

pub returns-in_err-read-clause-asks : goal.returns-in_err-read-clause-asks
returns-in_err-read-clause-asks g c payload is =
    look_exit Bool (Asks c.args.told.now.value (book_of c.args.volumes.now.held) c.args.number payload) c.in_err-read.field-0.0 c.from_residual.result c.from_residual.ensures.1 tt tt

pub returns-in_err-read-clause-there : goal.returns-in_err-read-clause-there
returns-in_err-read-clause-there g c tells payload is =
    not_done _ c.from_residual.result c.from_residual.ensures.0

pub returns-in_err-read-clause-passes : goal.returns-in_err-read-clause-passes
returns-in_err-read-clause-passes g c payload is =
    not_done _ c.from_residual.result c.from_residual.ensures.0

pub returns-in_err-read-clause-damage : goal.returns-in_err-read-clause-damage
returns-in_err-read-clause-damage g c =
    look_exit Bool (λ r. IfErr r (TellsDamage g.D.Disk.tells (texts g.D.Disk c.args.volumes.now.journal) (book_of c.args.volumes.now.held).namespace c.args.spots.now)) c.in_err-read.field-0.0
    c.from_residual.result c.from_residual.ensures.1 tt tt

pub returns-in_err-read-clause-reads : goal.returns-in_err-read-clause-reads
returns-in_err-read-clause-reads g c = c.reread_group.ensures.reads

pub returns-in_err-read-clause-faults : goal.returns-in_err-read-clause-faults
returns-in_err-read-clause-faults g c =
    read_looked Reread Bool (g.D.Disk.faults (disk_of c.args.volumes.now.journal)) (g.D.Disk.faults (disk_of c.reread_group.new.volumes.journal)) c.in_err-read.field-0.0 c.from_residual.result c.from_residual.ensures.1 c.in_err-read.ensures.faults

pub returns-in-Own-default-default-false-clause-reads : goal.returns-in-Own-default-default-false-clause-reads
returns-in-Own-default-default-false-clause-reads g c = c.reread_group.ensures.reads

pub returns-in-Own-default-default-false-clause-faults : goal.returns-in-Own-default-default-false-clause-faults
returns-in-Own-default-default-false-clause-faults g c = c.in_ok-read.ensures.faults

pub returns-in-Own-default-default-true-clause-reads : goal.returns-in-Own-default-default-true-clause-reads
returns-in-Own-default-default-true-clause-reads g c = c.reread_group.ensures.reads

pub returns-in-Own-default-default-true-clause-faults : goal.returns-in-Own-default-default-true-clause-faults
returns-in-Own-default-default-true-clause-faults g c = c.in_ok-read.ensures.faults

pub returns-in-Same-clause-reads : goal.returns-in-Same-clause-reads
returns-in-Same-clause-reads g c = c.reread_group.ensures.reads

pub returns-in-Same-clause-faults : goal.returns-in-Same-clause-faults
returns-in-Same-clause-faults g c = c.in_ok-read.ensures.faults

pub returns-in-Damaged-clause-reads : goal.returns-in-Damaged-clause-reads
returns-in-Damaged-clause-reads g c = c.reread_group.ensures.reads

pub returns-in-Damaged-clause-faults : goal.returns-in-Damaged-clause-faults
returns-in-Damaged-clause-faults g c = c.in_ok-read.ensures.faults
