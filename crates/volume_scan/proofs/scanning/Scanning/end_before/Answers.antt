use Rattle.std.proofs.Common.{◌<◌, ℕ, subst, inl, inr, arith}
use Rattle.volume_scan.specs.Scannings.{files_in}
use Rattle.volume_scan.proofs.Parts.{comes_damaged}
use Rattle.volume_scan.proofs.Refused.{next_is_none}
use Rattle.volume_scan.proofs.scanning.Scanning.end_before.Goals as goal

pub returns-in-Skipped-clause-comes : goal.returns-in-Skipped-clause-comes
returns-in-Skipped-clause-comes g c =
    let d = g.D.Disk in
    let old = c.args.self.now in
    comes_damaged d old c.args.file 0 c.requires.in_place (λ told.
    let stands = c.requires.in_place.stands told in
    inr (inr (next_is_none old.position (files_in d old) c.args.file c.args.is_dirty c.args.further c.requires.file
    (subst (λ (n : ℕ). c.args.file < n) stands.count c.requires.there) (c.requires.behind told) (c.requires.holds told) (inr (inr c.in-Skipped.is)))))

pub returns-then-file-last-clause-comes : goal.returns-then-file-last-clause-comes
returns-then-file-last-clause-comes g c =
    let d = g.D.Disk in
    let old = c.args.self.now in
    comes_damaged d old c.args.file 0 c.requires.in_place (λ told.
    let stands = c.requires.in_place.stands told in
    inr (inr (next_is_none old.position (files_in d old) c.args.file c.args.is_dirty c.args.further c.requires.file
    (subst (λ (n : ℕ). c.args.file < n) stands.count c.requires.there) (c.requires.behind told) (c.requires.holds told)
    (inr (inl (omega (arith, c.if-file-last.true, stands.count)))))))
