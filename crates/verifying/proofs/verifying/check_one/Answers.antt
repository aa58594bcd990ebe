-- The line of the volume is noted behind those before it.
use Rattle.std.proofs.Common.{◌≡◌, ◌+◌, suc, nat_eq, length, arith}
use Rattle.verifying.proofs.VerifyLaws.{checked_more}
use Rattle.verifying.proofs.verifying.check_one.Goals as goal

pub returns-in-Ok-note-clause-checks : goal.returns-in-Ok-note-clause-checks
returns-in-Ok-note-clause-checks g c = λ others before.
    let number : c.from.result + 1 ≡ suc c.args.facts.volume = omega (arith, c.from.ensures) in
    let count : c.len.result ≡ length c.args.plan.now.volumes.items = omega (arith, c.len.ensures, c.args.plan.now.volumes.ok.0) in
    checked_more g.D.Disk.tells (g.D.Disk.reading c.args.disk.now) c.args.plan.now c.args.facts others c.args.report.now c.note.new.self _ c.in-Ok.verdict
    (λ i. nat_eq (number i) (count i)) c.in-Ok.ensures.verdict c.in-Ok-note.ensures.lines c.in-Ok-note.ensures.damaged before
