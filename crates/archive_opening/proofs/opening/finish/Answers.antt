use Rattle.std.proofs.Common.{◌≡◌, List, ℕ, length, sym, ap, subst, arith}
use Rattle.std.specs.Prelude.{None}
use Rattle.warc_journal.specs.Journals.{volumes}
use Rattle.warc_journal.specs.declared.extent.Extent.{Extent}
use Rattle.archive_gathering.proofs.BeginLaws.{no_texts}
use Rattle.archive_opening.proofs.OpenedLaws.{cause_other, opened_by, some_volumes}
use Rattle.archive_volumes.specs.Held.{book_of}
use Rattle.archive_gathering.specs.Gathering.{IsGathered}
use Rattle.archive_opening.proofs.opening.finish.Goals as goal

pub returns-then-volumes-eq0-clause-opened : goal.returns-then-volumes-eq0-clause-opened
returns-then-volumes-eq0-clause-opened g c =
    let all : List (List ℕ) = c.requires.all.follows.texts in
    let none : 0 ≡ length all =
    omega (arith, c.if-volumes-eq0.true, c.volumes.ensures, ap (λ (e : Extent). e.volumes) c.finish-journal.ensures.extent, c.requires.all.follows.volumes) in
    opened_by g.D.Disk c.args.scanning c.args.gathered c.requires.all c.finish-journal.result c.finish-journal.ensures.disk c.finish-journal.ensures.extent
    c.args.asked.now c.in_namespace.result (subst (IsGathered None c.in_namespace.result) (sym (no_texts all none)) (c.in_namespace.ensures.gathered None))
    c.in_namespace.ensures.steady c.in_namespace.ensures.namespace c.finish-journal.ensures.in_step c.finish-journal.ensures.held

pub returns-in-None-clause-opened : goal.returns-in-None-clause-opened
returns-in-None-clause-opened g c =
    opened_by g.D.Disk c.args.scanning c.args.gathered c.requires.all c.finish-journal.result c.finish-journal.ensures.disk c.finish-journal.ensures.extent
    c.args.asked.now c.args.gathered c.requires.all.follows.gathered c.requires.steady c.in-None.ensures.none c.finish-journal.ensures.in_step c.finish-journal.ensures.held

pub returns-in-Some-clause-cause : goal.returns-in-Some-clause-cause
returns-in-Some-clause-cause g c = cause_other (book_of c.args.gathered.held) c.args.asked.now c.in-Some.fault c.in-Some.ensures.other

pub other_than-requires : goal.other_than-requires
other_than-requires g c = some_volumes g.D.Disk c.args.scanning c.args.gathered c.requires.all c.finish-journal.result c.finish-journal.ensures.disk c.finish-journal.ensures.extent
    (λ (none : volumes c.finish-journal.result ≡ 0). absurd (omega (arith, none, c.volumes.ensures, c.if-volumes-eq0.false)))
