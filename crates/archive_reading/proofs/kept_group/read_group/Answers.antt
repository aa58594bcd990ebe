use Rattle.std.proofs.Common.{subst}
use Rattle.archive_reading.proofs.KeptGroupLaws.{read_is}
use Rattle.archive_volumes.specs.Held.{book_of}
use Rattle.archive_reading.specs.KeptGroups.{IsFirstIn}
use Rattle.archive_volumes.specs.declared.held.Held.{Held}
use Rattle.archive_reading.proofs.kept_group.read_group.Goals as goal

pub returns-clause-exact : goal.returns-clause-exact
returns-clause-exact g c told =
    let book = book_of c.args.volumes.now.held in
    read_is book c.args.number (c.requires.readable.holds.sound told) c.in_ok-bytes.bytes.items (c.in_ok-bytes.ensures.begins told) c.in_ok-kept.kept
    (subst (λ (h : Held). IsFirstIn h.namespace c.args.number c.in_ok-bytes.bytes.items c.in_ok-kept.kept) c.read_text.ensures.reads.held c.in_ok-kept.ensures)
