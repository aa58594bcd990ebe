use Rattle.std.proofs.Common.{◌≡◌, ℕ, List, Option, Some, None, sym, ap, subst, ◌∙◌}
use Rattle.std.proofs.lemmas.Option.{same_Some}
use Rattle.capture.proofs.PayloadLaws.{one_payload}
use Rattle.capture.specs.declared.framing.Framing.{Framing}
use Rattle.archive_reading.proofs.BringLaws.{payload_found}
use Rattle.archive_reading.specs.Decoding.{HoldsPayload, TellsFraming}
use Rattle.archive_reading.specs.declared.reread.Reread.TheVariants as reread
use Rattle.archive_reading.proofs.reread.own.Goals as goal

none_some : (payload : List ℕ) → None ≡ Some payload → ⊥
none_some payload e = cc

pub unreachable-requires : goal.unreachable-requires
unreachable-requires c =
    let tells : TellsFraming c.args.method.now c.args.head None =
    subst (λ (f : Option Framing). TellsFraming c.args.method.now c.args.head f) c.in-None.is (rw c.as_slice-2.ensures at (rw c.as_slice.ensures.value at c.in_ok-framing.ensures)) in
    tells c.args.cut c.args.wire c.requires.has.0 c.requires.short c.requires.has.1

pub unreachable-requires-in-None-found : goal.unreachable-requires-in-None-found
unreachable-requires-in-None-found c =
    let tells : TellsFraming c.args.method.now c.args.head (Some c.in-Some.framing) =
    subst (λ (f : Option Framing). TellsFraming c.args.method.now c.args.head f) c.in-Some.is (rw c.as_slice-2.ensures at (rw c.as_slice.ensures.value at c.in_ok-framing.ensures)) in
    let holds : HoldsPayload c.args.cut c.in-Some.framing c.args.wire c.in_ok-found.found = rw c.into_vec.ensures at c.in_ok-found.ensures in
    none_some c.requires.has.0 (sym c.in-None-found.is
    ∙ payload_found one_payload c.args.cut c.args.method.now c.args.head c.args.wire c.requires.has.0 c.requires.has.1
    c.in-Some.framing tells c.in_ok-found.found holds)

pub returns : goal.returns
returns c payload has =
    let tells : TellsFraming c.args.method.now c.args.head (Some c.in-Some.framing) =
    subst (λ (f : Option Framing). TellsFraming c.args.method.now c.args.head f) c.in-Some.is (rw c.as_slice-2.ensures at (rw c.as_slice.ensures.value at c.in_ok-framing.ensures)) in
    let holds : HoldsPayload c.args.cut c.in-Some.framing c.args.wire c.in_ok-found.found = rw c.into_vec.ensures at c.in_ok-found.ensures in
    ap (λ (p : List ℕ). reread.Own c.args.head p c.args.cut)
    (same_Some c.in-Some-found.payload payload (sym c.in-Some-found.is
    ∙ payload_found one_payload c.args.cut c.args.method.now c.args.head c.args.wire payload has
    c.in-Some.framing tells c.in_ok-found.found holds))
