use Rattle.std.specs.Prelude.{IfErr}
use Rattle.archive_payloads.specs.Damage.{TellsDamage}
use Rattle.archive_payloads.proofs.FaultLaws.{look_exit, not_done, read_looked}
use Rattle.std.proofs.lemmas.Bool.{false≢true}
use Rattle.std.proofs.Common.{◌≡◌, IsTrue, false, inl, refl, sym, ap, subst, ◌∙◌, Bool}
use Rattle.std.proofs.lemmas.Option.{same_Some}
use Rattle.warc_journal.specs.Journals.{texts, disk_of}
use Rattle.archive_reading.proofs.BringLaws.{damaged, within_at}
use Rattle.archive_payloads.proofs.ChooseLaws.{has_whole, its_bound, its_kept, its_spot, its_told, its_whole, its_wire}
use Rattle.archive_payloads.proofs.DamageLaws.{read_damage}
use Rattle.archive_volumes.proofs.GroupLaws.{got}
use Rattle.archive_reading.specs.Bringing.{DecodesThere}
use Rattle.archive_payloads.specs.Choosing.{ComparesWith, IsComparison, IsOther, OnDamage, OnSame, Asks}
use Rattle.archive_reading.specs.Decoding.{Decodes}
use Rattle.archive_volumes.specs.Held.{book_of}
use Rattle.archive_volumes.specs.Spots.{head_in, is_told_form, wire_in}
use Rattle.archive_payloads.specs.declared.compare.Compared.{Compared}
use Rattle.archive_volumes.specs.declared.spot.Spot.{Spot}
use Rattle.archive_payloads.proofs.compare.has_payload.Goals as goal

pub bounds-spots-number : goal.bounds-spots-number
bounds-spots-number g c = its_bound (book_of c.args.volumes.now.held) c.args.spots.now c.requires.readable.are c.args.number c.requires.whole

pub compare_with-requires-clause-place : goal.compare_with-requires-clause-place
compare_with-requires-clause-place g c tells =
    let book = book_of c.args.volumes.now.held in
    within_at book c.args.spots.now c.args.number c.index-spots-number.result
    (its_bound book c.args.spots.now c.requires.readable.are c.args.number c.requires.whole) c.index-spots-number.is
    (texts g.D.Disk c.args.volumes.now.journal) (c.requires.readable.within tells)

pub compare_with-requires-clause-ends : goal.compare_with-requires-clause-ends
compare_with-requires-clause-ends g c =
    let its = its_spot (book_of c.args.volumes.now.held) c.args.spots.now c.requires.readable.are c.args.number c.requires.whole c.index-spots-number.result c.index-spots-number.is in
    its.ends

pub compare_with-requires-clause-whole : goal.compare_with-requires-clause-whole
compare_with-requires-clause-whole g c =
    its_whole (book_of c.args.volumes.now.held) c.args.spots.now c.requires.readable.are c.args.number c.requires.whole c.index-spots-number.result c.index-spots-number.is

pub has_told_payload-requires-clause-form : goal.has_told_payload-requires-clause-form
has_told_payload-requires-clause-form g c other at =
    let book = book_of c.args.volumes.now.held in
    let spot = c.index-spots-number.result in
    let here = got c.args.spots.now c.args.number spot (its_bound book c.args.spots.now c.requires.readable.are c.args.number c.requires.whole) c.index-spots-number.is in
    ap (λ (s : Spot). s.form) (same_Some other spot (sym at ∙ here))
    ∙ its_told book c.args.spots.now c.requires.readable.are c.args.number c.requires.whole spot c.index-spots-number.is (sym c.is_told.ensures ∙ c.if-is_told.true)

pub returns-in-Same-clause-asks : goal.returns-in-Same-clause-asks
returns-in-Same-clause-asks g c payload is =
    let book = book_of c.args.volumes.now.held in
    let read : is_told_form c.index-spots-number.result.form ≡ false = sym c.is_told.ensures ∙ c.if-is_told.false in
    let keeps = its_wire book c.args.spots.now c.requires.readable.are c.args.number c.requires.whole c.index-spots-number.result c.index-spots-number.is read in (
      keeps,
      λ told.
          let kept = its_kept book c.args.spots.now c.requires.readable.are c.args.number c.requires.whole c.index-spots-number.result c.index-spots-number.is read
          (texts g.D.Disk c.args.volumes.now.journal) (c.requires.readable.placed told) in
          has_whole book c.args.number payload keeps
          (subst (λ (r : Compared). ComparesWith book c.args.number payload r) c.in-Same.is
          (c.in_ok-answer.ensures.compares payload c.args.number is (c.requires.readable.holds.tells told) kept)),
    )

pub returns-in-Other-clause-asks : goal.returns-in-Other-clause-asks
returns-in-Other-clause-asks g c payload is told does =
    let book = book_of c.args.volumes.now.held in
    let read : is_told_form c.index-spots-number.result.form ≡ false = sym c.is_told.ensures ∙ c.if-is_told.false in
    let kept = its_kept book c.args.spots.now c.requires.readable.are c.args.number c.requires.whole c.index-spots-number.result c.index-spots-number.is read
    (texts g.D.Disk c.args.volumes.now.journal) (c.requires.readable.placed told) in
    subst (λ (r : Compared). ComparesWith book c.args.number payload r) c.in-Other.is
    (c.in_ok-answer.ensures.compares payload c.args.number is (c.requires.readable.holds.tells told) kept) does.has

pub returns-in-Damaged-clause-asks : goal.returns-in-Damaged-clause-asks
returns-in-Damaged-clause-asks g c payload is =
    let book = book_of c.args.volumes.now.held in
    let read : is_told_form c.index-spots-number.result.form ≡ false = sym c.is_told.ensures ∙ c.if-is_told.false in
    let never : IsTrue c.args.told.now.value → ⊥ = λ told.
    let kept = its_kept book c.args.spots.now c.requires.readable.are c.args.number c.requires.whole c.index-spots-number.result c.index-spots-number.is read
    (texts g.D.Disk c.args.volumes.now.journal) (c.requires.readable.placed told) in
    subst (λ (r : Compared). ComparesWith book c.args.number payload r) c.in-Damaged.is (c.in_ok-answer.ensures.compares payload c.args.number is (c.requires.readable.holds.tells told) kept) in (
      refl,
      damaged c.args.told.now.value c.index-spots-number.result.digest c.in-Damaged.found never
          (subst (λ (r : Compared). IsComparison c.index-spots-number.result.digest payload r) c.in-Damaged.is (c.in_ok-answer.ensures.comparison payload is)),
    )

pub returns-in-Same-clause-there : goal.returns-in-Same-clause-there
returns-in-Same-clause-there g c tells payload is has =
    let book = book_of c.args.volumes.now.held in
    let spot = c.index-spots-number.result in
    let all = texts g.D.Disk c.args.volumes.now.journal in
    let here = got c.args.spots.now c.args.number spot (its_bound book c.args.spots.now c.requires.readable.are c.args.number c.requires.whole) c.index-spots-number.is in
    let read : is_told_form spot.form ≡ false = sym c.is_told.ensures ∙ c.if-is_told.false in
    record {
      told = λ other at told. absurd (false≢true (sym read ∙ ap (λ (s : Spot). is_told_form s.form) (same_Some spot other (sym here ∙ at)) ∙ told));
      read = λ other at _.
          subst (λ (s : Spot). Decodes false s.method (head_in all s) (wire_in all s) payload) (same_Some spot other (sym here ∙ at))
          (subst (λ (r : Compared). OnSame r (Decodes false spot.method (head_in all spot) (wire_in all spot) payload)) c.in-Same.is
          (c.in_ok-answer.ensures.same tells payload is));
    }

pub returns-in-Damaged-clause-damage : goal.returns-in-Damaged-clause-damage
returns-in-Damaged-clause-damage g c =
    let book = book_of c.args.volumes.now.held in
    let spot = c.index-spots-number.result in
    let all = texts g.D.Disk c.args.volumes.now.journal in
    let here = got c.args.spots.now c.args.number spot (its_bound book c.args.spots.now c.requires.readable.are c.args.number c.requires.whole) c.index-spots-number.is in
    read_damage all c.args.spots.now book.namespace c.args.number spot g.D.Disk.tells here c.in-Damaged.found (sym c.is_told.ensures ∙ c.if-is_told.false)
    (λ tells. subst (λ (r : Compared). OnDamage r (DecodesThere all spot)) c.in-Damaged.is (c.in_ok-answer.ensures.damage tells))

pub returns-in-Other-clause-passes : goal.returns-in-Other-clause-passes
returns-in-Other-clause-passes g c payload is _ other at =
    let book = book_of c.args.volumes.now.held in
    let spot = c.index-spots-number.result in
    let here = got c.args.spots.now c.args.number spot (its_bound book c.args.spots.now c.requires.readable.are c.args.number c.requires.whole) c.index-spots-number.is in
    inl (subst (λ (s : Spot). IsOther s.digest payload) (same_Some spot other (sym here ∙ at))
    (subst (λ (r : Compared). IsComparison spot.digest payload r) c.in-Other.is (c.in_ok-answer.ensures.comparison payload is)))

-- ---- what is asked, and what stays at each exit

pub has_told_payload-requires-clause-readable : goal.has_told_payload-requires-clause-readable
has_told_payload-requires-clause-readable g c = c.requires.readable

pub has_told_payload-requires-clause-made : goal.has_told_payload-requires-clause-made
has_told_payload-requires-clause-made g c = c.requires.made

pub has_told_payload-requires-clause-whole : goal.has_told_payload-requires-clause-whole
has_told_payload-requires-clause-whole g c = c.requires.whole

pub compare_with-requires-clause-in_step : goal.compare_with-requires-clause-in_step
compare_with-requires-clause-in_step g c = c.requires.readable.holds.in_step

pub returns-then-is_told-clause-asks : goal.returns-then-is_told-clause-asks
returns-then-is_told-clause-asks g c = c.has_told_payload.ensures.asks

pub returns-then-is_told-clause-there : goal.returns-then-is_told-clause-there
returns-then-is_told-clause-there g c = c.has_told_payload.ensures.there

pub returns-then-is_told-clause-damage : goal.returns-then-is_told-clause-damage
returns-then-is_told-clause-damage g c = c.has_told_payload.ensures.damage

pub returns-then-is_told-clause-passes : goal.returns-then-is_told-clause-passes
returns-then-is_told-clause-passes g c = c.has_told_payload.ensures.passes

pub returns-then-is_told-clause-reads : goal.returns-then-is_told-clause-reads
returns-then-is_told-clause-reads g c = c.has_told_payload.ensures.reads

pub returns-then-is_told-clause-faults : goal.returns-then-is_told-clause-faults
returns-then-is_told-clause-faults g c = c.has_told_payload.ensures.faults

pub returns-in_err-answer-clause-asks : goal.returns-in_err-answer-clause-asks
returns-in_err-answer-clause-asks g c payload is =
    look_exit Bool (Asks c.args.told.now.value (book_of c.args.volumes.now.held) c.args.number payload) c.in_err-answer.field-0.0 c.from_residual.result c.from_residual.ensures.1 tt tt

pub returns-in_err-answer-clause-there : goal.returns-in_err-answer-clause-there
returns-in_err-answer-clause-there g c tells payload is =
    not_done _ c.from_residual.result c.from_residual.ensures.0

pub returns-in_err-answer-clause-passes : goal.returns-in_err-answer-clause-passes
returns-in_err-answer-clause-passes g c payload is =
    not_done _ c.from_residual.result c.from_residual.ensures.0

pub returns-in_err-answer-clause-damage : goal.returns-in_err-answer-clause-damage
returns-in_err-answer-clause-damage g c =
    look_exit Bool (λ r. IfErr r (TellsDamage g.D.Disk.tells (texts g.D.Disk c.args.volumes.now.journal) (book_of c.args.volumes.now.held).namespace c.args.spots.now)) c.in_err-answer.field-0.0
    c.from_residual.result c.from_residual.ensures.1 tt tt

pub returns-in_err-answer-clause-reads : goal.returns-in_err-answer-clause-reads
returns-in_err-answer-clause-reads g c = c.compare_with.ensures.reads

pub returns-in_err-answer-clause-faults : goal.returns-in_err-answer-clause-faults
returns-in_err-answer-clause-faults g c =
    read_looked Compared Bool (g.D.Disk.faults (disk_of c.args.volumes.now.journal)) (g.D.Disk.faults (disk_of c.compare_with.new.volumes.journal)) c.in_err-answer.field-0.0 c.from_residual.result c.from_residual.ensures.1 c.in_err-answer.ensures.faults

pub returns-in-Same-clause-reads : goal.returns-in-Same-clause-reads
returns-in-Same-clause-reads g c = c.compare_with.ensures.reads

pub returns-in-Same-clause-faults : goal.returns-in-Same-clause-faults
returns-in-Same-clause-faults g c = c.in_ok-answer.ensures.faults

pub returns-in-Other-clause-reads : goal.returns-in-Other-clause-reads
returns-in-Other-clause-reads g c = c.compare_with.ensures.reads

pub returns-in-Other-clause-faults : goal.returns-in-Other-clause-faults
returns-in-Other-clause-faults g c = c.in_ok-answer.ensures.faults

pub returns-in-Damaged-clause-reads : goal.returns-in-Damaged-clause-reads
returns-in-Damaged-clause-reads g c = c.compare_with.ensures.reads

pub returns-in-Damaged-clause-faults : goal.returns-in-Damaged-clause-faults
returns-in-Damaged-clause-faults g c = c.in_ok-answer.ensures.faults
