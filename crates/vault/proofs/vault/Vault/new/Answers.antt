use Rattle.std.proofs.Common.{ap, ◌+◌, ◌∙◌}
use Rattle.std.specs.Prelude.{slice_get}
use Rattle.warc_journal.specs.Journals.{disk_of}
use Rattle.vault_turns.specs.Guarded.{Publication}
use Rattle.vault.proofs.PassLaws.{all_of}
use Rattle.vault.proofs.SeatLaws.{listed_of, new_passes}
use Rattle.vault.proofs.vault.Vault.new.Goals as goal

pub seat_all-requires-clause-listed : goal.seat_all-requires-clause-listed
seat_all-requires-clause-listed g c = all_of _ c.in-Ok-new.made.items (λ k.
    listed_of c.in-Ok-new.lock c.args.passes (k + 1) c.in-Ok-begin.made.0.kept.history c.tell-listed.result.note c.tell-listed.result.whole
    (slice_get c.in-Ok-new.made.items k) c.tell-listed.ensures.listed (c.in-Ok-new.ensures.each k))

pub returns-in-Ok-new-clause-each : goal.returns-in-Ok-new-clause-each
returns-in-Ok-new-clause-each g c = λ k.
    new_passes c.growth_keeps_captures.ensures.keeps c.args.archive.told c.args.sure.value (g.D.Disk.faults (disk_of c.args.archive.journal)) c.in-Ok-new.lock c.args.passes (k + 1) c.args.archive.book c.args.archive.limits
    c.in-Ok-begin.made.0.kept.history c.in-Ok-begin.made.0.print c.tell-listed.result.note c.tell-listed.ensures.note c.in-Ok-begin.ensures.opens
    c.in-Ok-begin.ensures.told c.in-Ok-begin.ensures.given c.in-Ok-begin.ensures.sure c.in-Ok-begin.ensures.fits.0 c.in-Ok-begin.ensures.fits.2 c.in-Ok-begin.ensures.book.1
    c.seat_all.new.room.items c.in-Ok-new.made.items k c.seat_all.ensures.known c.seat_all.ensures.shown (c.in-Ok-new.ensures.each k)

pub returns-in-Err-new-clause-err : goal.returns-in-Err-new-clause-err
returns-in-Err-new-clause-err g c =
    c.into_archive.ensures.archive ∙ (ap (λ (p : Publication _). p.kept.holdings) c.in-Err-new.ensures.err ∙ c.in-Ok-begin.ensures.holds)
