use Rattle.archive_reading.proofs.RereadLaws.{untold_there}
use Rattle.warc_journal.specs.Journals.{texts}
use Rattle.std.proofs.Common.{◌≡◌, false, true, ℕ, List, sym, ap, ◌∙◌, arith}
use Rattle.revisit_table.specs.Table.{numbers_of}
use Rattle.archive_reading.proofs.BringLaws.{refers_to}
use Rattle.archive_payloads.proofs.DamageLaws.{line_found}
use Rattle.archive_reading.proofs.DigestLaws.{form_at, line_brings, line_digests, line_goes_by_kept, line_names, one_spot, own_brings, own_digests, own_goes_by_kept, own_names, same_digests, same_form, same_goes_by_kept, same_names, told_form}
use Rattle.archive_volumes.proofs.GroupLaws.{got}
use Rattle.archive_reading.proofs.PieceFronts.{spot_there}
use Rattle.archive_volumes.specs.Held.{book_of}
use Rattle.archive_volumes.specs.Spots.{is_same_form, is_told_form, whole_from}
use Rattle.archive_volumes.specs.declared.spot.Form.TheVariants as forms
use Rattle.archive_volumes.specs.declared.spot.Spot.{Spot}
use Rattle.archive_payloads.proofs.bringing.bring.Goals as goal

pub bring_own-requires-clause-own : goal.bring_own-requires-clause-own
bring_own-requires-clause-own g c other at =
    let spot = c.index-spots-number.result in
    let here = got c.args.spots.now c.args.number spot c.requires.below c.index-spots-number.is in
    let own : is_same_form spot.form ≡ false = sym c.is_same.ensures ∙ c.if-not-is_same.true in
    ap is_same_form (form_at c.args.spots.now c.args.number spot other here at) ∙ own

pub returns-then-not-is_same-clause-names : goal.returns-then-not-is_same-clause-names
returns-then-not-is_same-clause-names g c =
    let book = book_of c.args.volumes.now.held in
    let spot = c.index-spots-number.result in
    let here = got c.args.spots.now c.args.number spot c.requires.below c.index-spots-number.is in
    let its = c.requires.readable.are.each c.args.number spot here in
    let own : is_same_form spot.form ≡ false = sym c.is_same.ensures ∙ c.if-not-is_same.true in
    own_names book c.args.number spot its own c.bring_own.result (c.bring_own.ensures.digest spot here)

pub returns-then-not-is_same-clause-kept : goal.returns-then-not-is_same-clause-kept
returns-then-not-is_same-clause-kept g c =
    let spot = c.index-spots-number.result in
    let here = got c.args.spots.now c.args.number spot c.requires.below c.index-spots-number.is in
    own_goes_by_kept c.args.spots.now c.args.number spot here c.bring_own.result (c.bring_own.ensures.digest spot here)

pub returns-then-not-is_same-clause-own : goal.returns-then-not-is_same-clause-own
returns-then-not-is_same-clause-own g c other at =
    own_brings c.args.number other.digest c.bring_own.result (c.bring_own.ensures.digest other at)

pub returns-then-not-is_same-clause-digests : goal.returns-then-not-is_same-clause-digests
returns-then-not-is_same-clause-digests g c =
    let book = book_of c.args.volumes.now.held in
    let spot = c.index-spots-number.result in
    let here = got c.args.spots.now c.args.number spot c.requires.below c.index-spots-number.is in
    let its = c.requires.readable.are.each c.args.number spot here in
    let own : is_same_form spot.form ≡ false = sym c.is_same.ensures ∙ c.if-not-is_same.true in
    own_digests book c.args.number spot its own c.bring_own.result (c.bring_own.ensures.digest spot here)

pub bring_same-requires-clause-form : goal.bring_same-requires-clause-form
bring_same-requires-clause-form g c other at =
    let spot = c.index-spots-number.result in
    let here = got c.args.spots.now c.args.number spot c.requires.below c.index-spots-number.is in
    let form : spot.form ≡ forms.Same c.in-Some.first = same_form spot.form c.in-Some.first (sym c.keeper.ensures ∙ c.in-Some.is) in
    form_at c.args.spots.now c.args.number spot other here at ∙ form

pub returns-in-Some-clause-names : goal.returns-in-Some-clause-names
returns-in-Some-clause-names g c =
    let book = book_of c.args.volumes.now.held in
    let spot = c.index-spots-number.result in
    let here = got c.args.spots.now c.args.number spot c.requires.below c.index-spots-number.is in
    let its = c.requires.readable.are.each c.args.number spot here in
    let form : spot.form ≡ forms.Same c.in-Some.first = same_form spot.form c.in-Some.first (sym c.keeper.ensures ∙ c.in-Some.is) in
    let refers = refers_to book c.args.number spot its c.in-Some.first form in
    let one = spot_there c.args.spots.now c.in-Some.first (omega (arith, refers.0, c.requires.below)) in
    same_names book c.args.number spot its c.in-Some.first form one.0.digest c.bring_same.result (c.bring_same.ensures.digest one.0 one.1)

pub returns-in-Some-clause-kept : goal.returns-in-Some-clause-kept
returns-in-Some-clause-kept g c =
    let book = book_of c.args.volumes.now.held in
    let spot = c.index-spots-number.result in
    let here = got c.args.spots.now c.args.number spot c.requires.below c.index-spots-number.is in
    let its = c.requires.readable.are.each c.args.number spot here in
    let form : spot.form ≡ forms.Same c.in-Some.first = same_form spot.form c.in-Some.first (sym c.keeper.ensures ∙ c.in-Some.is) in
    let refers = refers_to book c.args.number spot its c.in-Some.first form in
    let one = spot_there c.args.spots.now c.in-Some.first (omega (arith, refers.0, c.requires.below)) in
    same_goes_by_kept c.args.spots.now c.args.number spot here c.in-Some.first form one.0 one.1 c.bring_same.result
    (c.bring_same.ensures.digest one.0 one.1)

pub returns-in-Some-clause-there : goal.returns-in-Some-clause-there
returns-in-Some-clause-there g c tells other at =
    let spot = c.index-spots-number.result in
    let here = got c.args.spots.now c.args.number spot c.requires.below c.index-spots-number.is in
    let form : spot.form ≡ forms.Same c.in-Some.first = same_form spot.form c.in-Some.first (sym c.keeper.ensures ∙ c.in-Some.is) in
    untold_there (texts g.D.Disk c.args.volumes.now.journal) (book_of c.args.volumes.now.held).namespace c.args.number other
    (ap is_told_form (form_at c.args.spots.now c.args.number spot other here at ∙ form)) c.bring_same.result

pub returns-in-Some-clause-digests : goal.returns-in-Some-clause-digests
returns-in-Some-clause-digests g c =
    let book = book_of c.args.volumes.now.held in
    let spot = c.index-spots-number.result in
    let here = got c.args.spots.now c.args.number spot c.requires.below c.index-spots-number.is in
    let its = c.requires.readable.are.each c.args.number spot here in
    let form : spot.form ≡ forms.Same c.in-Some.first = same_form spot.form c.in-Some.first (sym c.keeper.ensures ∙ c.in-Some.is) in
    let refers = refers_to book c.args.number spot its c.in-Some.first form in
    let one = spot_there c.args.spots.now c.in-Some.first (omega (arith, refers.0, c.requires.below)) in
    let keeper = c.requires.readable.are.each c.in-Some.first one.0 one.1 in
    same_digests book c.args.number spot its c.in-Some.first form one.0 keeper c.bring_same.result (c.bring_same.ensures.digest one.0 one.1)

pub bring_told-requires-clause-form : goal.bring_told-requires-clause-form
bring_told-requires-clause-form g c other at =
    let spot = c.index-spots-number.result in
    let here = got c.args.spots.now c.args.number spot c.requires.below c.index-spots-number.is in
    let form : spot.form ≡ forms.Told true =
    told_form spot.form (sym c.is_same.ensures ∙ c.if-not-is_same.false) (sym c.keeper.ensures ∙ c.in-None.is) in
    form_at c.args.spots.now c.args.number spot other here at ∙ form

pub bring_told-requires-clause-candidates : goal.bring_told-requires-clause-candidates
bring_told-requires-clause-candidates g c other at =
    let spot = c.index-spots-number.result in
    let here = got c.args.spots.now c.args.number spot c.requires.below c.index-spots-number.is in
    c.candidates-candidates.ensures.numbers
    ∙ ap (λ (kept : List (List ℕ × ℕ)). numbers_of spot.digest kept) c.requires.table
    ∙ ap (λ (s : Spot). numbers_of s.digest (whole_from 0 c.args.spots.now)) (one_spot c.args.spots.now c.args.number spot other here at)

pub returns-in-None-clause-names : goal.returns-in-None-clause-names
returns-in-None-clause-names g c =
    let book = book_of c.args.volumes.now.held in
    let spot = c.index-spots-number.result in
    let here = got c.args.spots.now c.args.number spot c.requires.below c.index-spots-number.is in
    line_names book c.args.number spot.digest c.bring_told.result (c.bring_told.ensures.digest spot here)

pub returns-in-None-clause-kept : goal.returns-in-None-clause-kept
returns-in-None-clause-kept g c =
    let spot = c.index-spots-number.result in
    let here = got c.args.spots.now c.args.number spot c.requires.below c.index-spots-number.is in
    line_goes_by_kept c.args.spots.now c.args.number spot here c.bring_told.result (c.bring_told.ensures.digest spot here)

pub returns-in-None-clause-own : goal.returns-in-None-clause-own
returns-in-None-clause-own g c other at =
    line_brings c.args.number other.digest c.bring_told.result (c.bring_told.ensures.digest other at)

pub returns-in-None-clause-digests : goal.returns-in-None-clause-digests
returns-in-None-clause-digests g c =
    let book = book_of c.args.volumes.now.held in
    let spot = c.index-spots-number.result in
    let here = got c.args.spots.now c.args.number spot c.requires.below c.index-spots-number.is in
    let its = c.requires.readable.are.each c.args.number spot here in
    let form : spot.form ≡ forms.Told true =
    told_form spot.form (sym c.is_same.ensures ∙ c.if-not-is_same.false) (sym c.keeper.ensures ∙ c.in-None.is) in
    line_digests book c.args.number spot its (ap is_told_form form) c.bring_told.result (c.bring_told.ensures.digest spot here)

pub returns-in-None-clause-found : goal.returns-in-None-clause-found
returns-in-None-clause-found g c tells =
    let spot = c.index-spots-number.result in
    let here = got c.args.spots.now c.args.number spot c.requires.below c.index-spots-number.is in
    line_found (texts g.D.Disk c.args.volumes.now.journal) (book_of c.args.volumes.now.held).namespace c.args.spots.now c.args.number spot here
    (sym c.is_same.ensures ∙ c.if-not-is_same.false) c.bring_told.result (c.bring_told.ensures.digest spot here)

-- ---- what is asked, and what stays at each exit

pub bring_own-requires-clause-readable : goal.bring_own-requires-clause-readable
bring_own-requires-clause-readable g c = c.requires.readable

pub bring_own-requires-clause-below : goal.bring_own-requires-clause-below
bring_own-requires-clause-below g c = c.requires.below

pub bring_same-requires-clause-readable : goal.bring_same-requires-clause-readable
bring_same-requires-clause-readable g c = c.requires.readable

pub bring_same-requires-clause-below : goal.bring_same-requires-clause-below
bring_same-requires-clause-below g c = c.requires.below

pub bring_told-requires-clause-readable : goal.bring_told-requires-clause-readable
bring_told-requires-clause-readable g c = c.requires.readable

pub bring_told-requires-clause-below : goal.bring_told-requires-clause-below
bring_told-requires-clause-below g c = c.requires.below

pub bring_told-requires-clause-rising : goal.bring_told-requires-clause-rising
bring_told-requires-clause-rising g c = c.candidates-candidates.ensures.rising

pub returns-then-not-is_same-clause-brings : goal.returns-then-not-is_same-clause-brings
returns-then-not-is_same-clause-brings g c = c.bring_own.ensures.brings

pub returns-then-not-is_same-clause-there : goal.returns-then-not-is_same-clause-there
returns-then-not-is_same-clause-there g c = c.bring_own.ensures.there

pub returns-then-not-is_same-clause-found : goal.returns-then-not-is_same-clause-found
returns-then-not-is_same-clause-found g c = c.bring_own.ensures.found

pub returns-then-not-is_same-clause-reads : goal.returns-then-not-is_same-clause-reads
returns-then-not-is_same-clause-reads g c = c.bring_own.ensures.reads

pub returns-then-not-is_same-clause-faults : goal.returns-then-not-is_same-clause-faults
returns-then-not-is_same-clause-faults g c = c.bring_own.ensures.faults

pub returns-in-Some-clause-brings : goal.returns-in-Some-clause-brings
returns-in-Some-clause-brings g c = c.bring_same.ensures.brings

pub returns-in-Some-clause-own : goal.returns-in-Some-clause-own
returns-in-Some-clause-own g c = c.bring_same.ensures.own

pub returns-in-Some-clause-found : goal.returns-in-Some-clause-found
returns-in-Some-clause-found g c = c.bring_same.ensures.found

pub returns-in-Some-clause-reads : goal.returns-in-Some-clause-reads
returns-in-Some-clause-reads g c = c.bring_same.ensures.reads

pub returns-in-Some-clause-faults : goal.returns-in-Some-clause-faults
returns-in-Some-clause-faults g c = c.bring_same.ensures.faults

pub returns-in-None-clause-brings : goal.returns-in-None-clause-brings
returns-in-None-clause-brings g c = c.bring_told.ensures.brings

pub returns-in-None-clause-there : goal.returns-in-None-clause-there
returns-in-None-clause-there g c = c.bring_told.ensures.there

pub returns-in-None-clause-reads : goal.returns-in-None-clause-reads
returns-in-None-clause-reads g c = c.bring_told.ensures.reads

pub returns-in-None-clause-faults : goal.returns-in-None-clause-faults
returns-in-None-clause-faults g c = c.bring_told.ensures.faults
