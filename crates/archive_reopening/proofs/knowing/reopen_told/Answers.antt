use Rattle.std.proofs.Common.{Bool, subst, sym, ◌∙◌}
use Rattle.std.specs.Prelude.{IfOk}
use Rattle.archive_opening.specs.Opening.{IsUsable}
use Rattle.archive_volumes.proofs.ChangeLaws.{DiskLaws}
use Rattle.archive_reopening.specs.Making.{IsMadeOf}
use Rattle.archive_reopening.proofs.KnownLaws.{basis_told, entries_told, finished_told, may_be_known, refused_told, reopened_told, usable_told}
use Rattle.archive_reopening.proofs.ReopenLaws.{no_memory, none_known}
use Rattle.archive_reopening.proofs.StoodLaws.{keeps_made, stood_on}
use Rattle.warc_journal.specs.Journals.{disk_of}
use Rattle.archive_shelf.specs.declared.depth.Depth.TheVariants.{Checkpoints}
use Rattle.archive_reopening.specs.Known.{told_at}
use Rattle.archive_reopening.proofs.knowing.reopen_told.Given.{Over}
use Rattle.archive_reopening.proofs.knowing.reopen_told.Goals as goal

-- what is asked of the disk
disk_laws : (g : Over) → DiskLaws g.D.Disk
disk_laws g = record { earlier = g.met.D.Disk.earlier; now_counts = g.met.D.Disk.now_counts; now_only = g.met.D.Disk.now_only }

pub archive_of-requires-clause-usable : goal.archive_of-requires-clause-usable
archive_of-requires-clause-usable g c =
    subst (λ (told : Bool). IsUsable g.D.Disk told c.in-Ok.opened) (sym c.told_by-told.ensures)
    (usable_told g.D.Disk (disk_laws g) c.args.disk c.args.namespace c.args.limits c.args.known.now.value c.requires.known c.in-Ok.opened c.in-Ok.ensures.opened)

pub archive_of-requires-clause-numbered : goal.archive_of-requires-clause-numbered
archive_of-requires-clause-numbered g c = c.in-Ok.ensures.opened.numbered

pub archive_of-requires-clause-entries : goal.archive_of-requires-clause-entries
archive_of-requires-clause-entries g c = λ so.
    entries_told g.D.Disk (disk_laws g) c.args.disk c.args.namespace c.args.limits c.args.known.now.value c.requires.known c.in-Ok.opened c.in-Ok.ensures.opened
    (sym c.told_by-told.ensures ∙ so)

pub archive_of-requires-clause-finished : goal.archive_of-requires-clause-finished
archive_of-requires-clause-finished g c = λ so.
    finished_told g.D.Disk (disk_laws g) c.args.disk c.args.namespace c.args.limits c.args.known.now.value c.requires.known c.in-Ok.opened c.in-Ok.ensures.opened
    c.in-Ok.ensures.synced (sym c.told_by-told.ensures ∙ so)

pub returns-in-Ok-clause-reopened : goal.returns-in-Ok-clause-reopened
returns-in-Ok-clause-reopened g c =
    reopened_told g.D.Disk (disk_laws g) c.args.disk c.args.namespace c.args.limits c.args.known.now.value c.requires.known c.in-Ok.opened c.in-Ok.ensures.opened
    c.in-Ok.ensures.whole c.in-Ok.ensures.synced c.in-Ok.ensures.counts c.archive_of.result
    (subst (λ (told : Bool). IfOk c.archive_of.result (IsMadeOf c.in-Ok.opened c.args.limits told)) c.told_by-told.ensures c.archive_of.ensures.made)

pub returns-in-Ok-clause-refused : goal.returns-in-Ok-clause-refused
returns-in-Ok-clause-refused g c =
    none_known g.D.Disk (disk_laws g) c.args.disk c.args.namespace c.args.limits c.args.known.now.value
    (may_be_known g.D.Disk c.args.disk c.args.namespace c.args.known.now.value c.requires.known) c.archive_of.result
    (no_memory g.D.Disk (disk_laws g) c.args.disk c.args.namespace c.args.limits (told_at Checkpoints g.D.Disk.tells c.args.known.now.value) c.in-Ok.opened
    (basis_told g.D.Disk (disk_laws g) c.args.disk c.args.namespace c.args.limits c.args.known.now.value c.requires.known c.in-Ok.opened c.in-Ok.ensures.opened)
    c.archive_of.result c.archive_of.ensures.memory)

pub returns-in-Err-clause-refused : goal.returns-in-Err-clause-refused
returns-in-Err-clause-refused g c =
    refused_told g.D.Disk (disk_laws g) c.args.disk c.args.namespace c.args.limits c.args.known.now.value c.requires.known c.in-Err.refused c.in-Err.ensures.refused
    c.in-Err.ensures.cause c.in-Err.ensures.damage c.in-Err.ensures.other c.in-Err.ensures.borne_out c.in-Err.ensures.given_back c.in-Err.ensures.faults

-- what stood finished on the disk when it was opened stands in the archive's volumes
pub returns-in-Ok-clause-stood : goal.returns-in-Ok-clause-stood
returns-in-Ok-clause-stood g c =
    keeps_made g.D.Disk (disk_laws g) c.args.disk c.in-Ok.opened c.args.limits _ c.archive_of.result c.archive_of.ensures.made
    c.in-Ok.ensures.opened.usable.left
    (λ tells. stood_on g.D.Disk (disk_laws g) c.args.disk _ c.in-Ok.opened tells c.in-Ok.ensures.opened.usable (c.in-Ok.ensures.opened.rests tells)
    c.in-Ok.ensures.opened.faults (c.in-Ok.ensures.counts tells) (c.in-Ok.ensures.ends tells) (g.met.D.Disk.reading_is_image (disk_of c.in-Ok.opened.journal) tells))
