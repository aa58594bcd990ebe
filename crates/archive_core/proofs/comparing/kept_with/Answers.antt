-- The digest that is kept is this one, or it isn't.
use Rattle.std.proofs.Common.{length, Some, sym, ap, subst, ◌∙◌}
use Rattle.std.specs.Prelude.{IfSome, ◌<◌}
use Rattle.archive_payloads.specs.Choosing.{IsKeptWith}
use Rattle.archive_reading.proofs.DigestLaws.{alike, differ, one_spot}
use Rattle.archive_volumes.proofs.GroupLaws.{got}
use Rattle.archive_volumes.specs.declared.spot.Spot.{Spot}
use Rattle.archive_core.proofs.comparing.kept_with.Goals as goal

pub returns-then-ne-clause-all : goal.returns-then-ne-clause-all
returns-then-ne-clause-all c kept =
    let spots = c.args.spots.now in
    let number = c.in-Some.number in
    let spot = c.index-spots-number.result in
    let within : number < length spots = subst (λ o. IfSome o (λ n. n < length spots)) c.in-Some.is c.requires.below in
    let here = got spots number spot within c.index-spots-number.is in
    let its : IsKeptWith spots c.args.digest.now number = subst (λ o. IfSome o (IsKeptWith spots c.args.digest.now)) c.in-Some.is kept in
    absurd (differ spot.digest c.args.digest.now c.ne.result c.ne.ensures c.if-ne.true (ap Some (sym (its spot here))))

pub returns-else-ne-clause-kept : goal.returns-else-ne-clause-kept
returns-else-ne-clause-kept c other at =
    let spots = c.args.spots.now in
    let number = c.in-Some.number in
    let spot = c.index-spots-number.result in
    let within : number < length spots = subst (λ o. IfSome o (λ n. n < length spots)) c.in-Some.is c.requires.below in
    let here = got spots number spot within c.index-spots-number.is in
    ap (λ (s : Spot). s.digest) (one_spot spots number other spot at here) ∙ alike spot.digest c.args.digest.now c.ne.result c.ne.ensures c.if-ne.false
