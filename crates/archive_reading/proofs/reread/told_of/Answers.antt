use Rattle.std.proofs.Common.{◌<◌, ◌^◌, length, true, false, refl, sym, ap, subst}
use Rattle.capture.specs.Captures.{is_cut, kept_wire, HasPayload}
use Rattle.capture.specs.declared.captured.Kept.{Kept}
use Rattle.archive_reading.proofs.RereadLaws.{cut_has, own_is_reread, own_is_told, revisit_head, revisit_refers, short_wire, wire_has}
use Rattle.archive_reading.specs.Rereading.{IsReread, IsToldOf}
use Rattle.archive_volumes.specs.Spots.{form_of, is_same_form}
use Rattle.archive_reading.proofs.reread.told_of.Goals as goal

pub own-requires-clause-has : goal.own-requires-clause-has
own-requires-clause-has c =
    let there = wire_has _ _ _ c.args.group c.requires.is.3 c.in-Wire.wire c.in-Wire.is in
    (there.0, there.1)

pub own-requires-clause-short : goal.own-requires-clause-short
own-requires-clause-short c = subst (λ (k : Kept). length (kept_wire k) < 2 ^ 64) c.in-Wire.is (short_wire _ _ _ c.args.group c.requires.is.3)

pub returns-in-Wire-clause-read : goal.returns-in-Wire-clause-read
returns-in-Wire-clause-read c =
    let there = wire_has _ _ _ c.args.group c.requires.is.3 c.in-Wire.wire c.in-Wire.is in
    let has : HasPayload false c.args.group.stored.method c.args.group.stored.head (kept_wire c.args.group.stored.kept) there.0 =
    subst (λ (k : Kept). HasPayload false c.args.group.stored.method c.args.group.stored.head (kept_wire k) there.0) (sym c.in-Wire.is) there.1 in
    own_is_reread c.own.result c.args.group there.0 false has there.2 (c.own.ensures there.0 there.1)

pub returns-in-Wire-clause-tells : goal.returns-in-Wire-clause-tells
returns-in-Wire-clause-tells c =
    let there = wire_has _ _ _ c.args.group c.requires.is.3 c.in-Wire.wire c.in-Wire.is in
    let has : HasPayload false c.args.group.stored.method c.args.group.stored.head (kept_wire c.args.group.stored.kept) there.0 =
    subst (λ (k : Kept). HasPayload false c.args.group.stored.method c.args.group.stored.head (kept_wire k) there.0) (sym c.in-Wire.is) there.1 in
    own_is_told c.own.result c.args.group there.0 false has (sym (ap is_cut c.in-Wire.is)) (ap is_same_form (ap form_of c.in-Wire.is)) (c.own.ensures there.0 there.1)

pub own-requires-in-Cut-clause-has : goal.own-requires-in-Cut-clause-has
own-requires-in-Cut-clause-has c =
    let there = cut_has _ _ _ c.args.group c.requires.is.3 c.in-Cut.wire c.in-Cut.is in
    (there.0, there.1)

pub own-requires-in-Cut-clause-short : goal.own-requires-in-Cut-clause-short
own-requires-in-Cut-clause-short c = subst (λ (k : Kept). length (kept_wire k) < 2 ^ 64) c.in-Cut.is (short_wire _ _ _ c.args.group c.requires.is.3)

pub returns-clause-read : goal.returns-clause-read
returns-clause-read c =
    let there = cut_has _ _ _ c.args.group c.requires.is.3 c.in-Cut.wire c.in-Cut.is in
    let has : HasPayload true c.args.group.stored.method c.args.group.stored.head (kept_wire c.args.group.stored.kept) there.0 =
    subst (λ (k : Kept). HasPayload true c.args.group.stored.method c.args.group.stored.head (kept_wire k) there.0) (sym c.in-Cut.is) there.1 in
    own_is_reread c.own-in-Cut.result c.args.group there.0 true has there.2 (c.own-in-Cut.ensures there.0 there.1)

pub returns-clause-tells : goal.returns-clause-tells
returns-clause-tells c =
    let there = cut_has _ _ _ c.args.group c.requires.is.3 c.in-Cut.wire c.in-Cut.is in
    let has : HasPayload true c.args.group.stored.method c.args.group.stored.head (kept_wire c.args.group.stored.kept) there.0 =
    subst (λ (k : Kept). HasPayload true c.args.group.stored.method c.args.group.stored.head (kept_wire k) there.0) (sym c.in-Cut.is) there.1 in
    own_is_told c.own-in-Cut.result c.args.group there.0 true has (sym (ap is_cut c.in-Cut.is)) (ap is_same_form (ap form_of c.in-Cut.is)) (c.own-in-Cut.ensures there.0 there.1)

pub returns-in-Same-clause-read : goal.returns-in-Same-clause-read
returns-in-Same-clause-read c =
    let refers = revisit_refers _ _ _ c.args.group c.requires.is.3 _ c.in-Same.is in
    subst (IsReread c.args.group.digest) (sym (c.revisit_of.ensures refers.0 refers.1)) (revisit_head _ _ _ c.args.group c.requires.is.3 _ c.in-Same.is)

pub returns-in-Same-clause-tells : goal.returns-in-Same-clause-tells
returns-in-Same-clause-tells c =
    let refers = revisit_refers _ _ _ c.args.group c.requires.is.3 _ c.in-Same.is in
    subst (IsToldOf c.args.group) (sym (c.revisit_of.ensures refers.0 refers.1)) (refl, refers.1)
