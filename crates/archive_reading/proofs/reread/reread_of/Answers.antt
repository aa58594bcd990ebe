use Rattle.std.proofs.Common.{◌≡◌, List, ℕ, subst}
use Rattle.std.specs.Prelude.{IfOk}
use Rattle.archive_reading.proofs.DigestLaws.{alike}
use Rattle.archive_reading.proofs.RereadLaws.{other_is_by, told_is_by, unlike_is_by}
use Rattle.archive_reading.specs.Rereading.{IsReread}
use Rattle.archive_reading.proofs.reread.reread_of.Goals as goal

pub told_of-requires : goal.told_of-requires
told_of-requires c = record { is = c.requires.is }

pub returns-clause-read : goal.returns-clause-read
returns-clause-read c =
    let same : c.args.group.digest ≡ c.args.spot.now.digest = alike c.args.group.digest c.args.spot.now.digest c.ne.result c.ne.ensures c.if-ne.false in
    subst (λ (d : List ℕ). IfOk c.told_of.result (IsReread d)) same c.told_of.ensures.read

pub returns-clause-by : goal.returns-clause-by
returns-clause-by c =
    told_is_by c.told_of.result c.args.group c.args.spot.now (record {
      digest = alike c.args.group.digest c.args.spot.now.digest c.ne.result c.ne.ensures c.if-ne.false;
      stored = c.is_stored_of.ensures.met c.if-not-is_stored_of.false;
    }) c.told_of.ensures.tells

pub returns-then-ne-clause-by : goal.returns-then-ne-clause-by
returns-then-ne-clause-by c = other_is_by c.args.group c.args.spot.now c.ne.result c.ne.ensures c.if-ne.true

pub returns-then-not-is_stored_of-clause-by : goal.returns-then-not-is_stored_of-clause-by
returns-then-not-is_stored_of-clause-by c =
    unlike_is_by c.args.group c.args.spot.now (alike c.args.group.digest c.args.spot.now.digest c.ne.result c.ne.ensures c.if-ne.false)
    (c.is_stored_of.ensures.missed c.if-not-is_stored_of.true)
