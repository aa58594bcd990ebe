-- A capture was given as a piece, or not.
use Rattle.std.proofs.Common.{List, ap, subst, sym}
use Rattle.std.specs.Prelude.{Contains}
use Rattle.index_entry.specs.Facts.{Facts}
use Rattle.archive_shelf.specs.Answers.{is_bring_fault}
use Rattle.archive_shelf.specs.Contents.{Contents}
use Rattle.archive_core.proofs.ShelfLaws.{reads_on}
use Rattle.archive_core.proofs.LastingLaws.{stored_looks}
use Rattle.archive_index.specs.Shown.{numbered}
use Rattle.archive_volumes.proofs.ChangeLaws.{DiskLaws}
use Rattle.history_lock.specs.Seen.{Adds}
use Rattle.vault_turns.specs.Guarded.{Guarded, KeepsShown}
use Rattle.vault_turns.specs.History.{by_of, is_told}
use Rattle.vault_turns.specs.Noting.{failing}
use Rattle.vault_turns.specs.Turns.{GivesIt}
use Rattle.vault_turns.proofs.CalmLaws.{read_calm, read_right, roomy, stays_stood}
use Rattle.vault_turns.proofs.NotingLaws.{joined_by, values}
use Rattle.vault_turns.proofs.ReadLaws.{all_given}
use Rattle.vault_turns.proofs.keeping.Keeping.piece.Given.{Over}
use Rattle.vault_turns.proofs.keeping.Keeping.piece.Goals as goal

disk_laws : (g : Over) → DiskLaws g.D.Disk
disk_laws g = record { earlier = g.met.D.Disk.earlier; now_counts = g.met.D.Disk.now_counts; now_only = g.met.D.Disk.now_only }

pub invariant_of-self : goal.invariant_of-self
invariant_of-self g c = roomy g.D.Disk c.self.inside.archive c.self.inside.history.items c.reserve.new.self.items c.reserve.ensures.items c.self.invariant

pub invariant_of-self-2 : goal.invariant_of-self-2
invariant_of-self-2 g c =
    let reads = reads_on g.D.Disk (is_bring_fault c.piece_numbered-answer.result) c.self.inside.archive c.piece_numbered-answer.new.self c.piece_numbered-answer.ensures.looks c.piece_numbered-answer.ensures.faults in
    let joined = joined_by c.self.inside.history.items c.reserve.new.self.items c.note_fault.new.history.items c.args.by c.is_disk_fault.result (is_bring_fault c.piece_numbered-answer.result)
    c.reserve.ensures.items c.is_disk_fault.ensures c.note_fault.ensures in
    let both = (all_given g.D.Disk c.args.by (values c.self.inside.history.items) c.self.inside.archive c.piece_numbered-answer.new.self c.self.invariant.0 c.self.invariant.1
    reads.stays.seen (ap (λ (now : Contents). now.limits) reads.stays.others)
    (ap (λ (now : Contents). now.tells) reads.stays.others) c.args.number (values c.note_fault.new.history.items) c.piece_numbered-answer.result
    joined
    reads.faults c.piece_numbered-answer.ensures.gives c.piece_numbered-answer.ensures.digests c.shows_its_book-2.ensures.shows.consistent.sound).0 in (
      both.0,
      both.1,
      read_calm g.D.Disk (disk_laws g) (values c.self.inside.history.items) (failing c.args.by (is_bring_fault c.piece_numbered-answer.result)) (values c.note_fault.new.history.items)
          c.self.inside.archive c.piece_numbered-answer.new.self c.self.invariant.0.begun joined c.self.invariant.2
          reads.stays.seen reads.unwritten.crash,
      read_right g.D.Disk (values c.self.inside.history.items) (failing c.args.by (is_bring_fault c.piece_numbered-answer.result)) (values c.note_fault.new.history.items)
          c.self.inside.archive c.piece_numbered-answer.new.self c.self.invariant.0.begun joined
          reads.stays.seen reads.unwritten.crash c.self.invariant.3,
      stays_stood g.D.Disk (values c.self.inside.history.items) (failing c.args.by (is_bring_fault c.piece_numbered-answer.result)) (values c.note_fault.new.history.items)
          c.self.inside.archive c.piece_numbered-answer.new.self c.self.invariant.0.begun joined
          (λ tells. stored_looks g.D.Disk (disk_laws g) _ c.self.inside.archive c.piece_numbered-answer.new.self tells c.piece_numbered-answer.ensures.looks
          (is_bring_fault c.piece_numbered-answer.result) c.piece_numbered-answer.ensures.faults) c.self.invariant.4,
    )

pub returns-clause-adds : goal.returns-clause-adds
returns-clause-adds g c =
    let reads = reads_on g.D.Disk (is_bring_fault c.piece_numbered-answer.result) c.self.inside.archive c.piece_numbered-answer.new.self c.piece_numbered-answer.ensures.looks c.piece_numbered-answer.ensures.faults in
    subst (λ (kept : Guarded _). Adds by_of c.args.by kept.history (values c.note_fault.new.history.items)
    (λ added. GivesIt (is_told kept.history) (numbered c.piece_numbered-answer.new.self.index) c.args.number kept.history added c.piece_numbered-answer.result)) c.self.view_is
    (all_given g.D.Disk c.args.by (values c.self.inside.history.items) c.self.inside.archive c.piece_numbered-answer.new.self c.self.invariant.0 c.self.invariant.1
    reads.stays.seen (ap (λ (now : Contents). now.limits) reads.stays.others)
    (ap (λ (now : Contents). now.tells) reads.stays.others) c.args.number (values c.note_fault.new.history.items) c.piece_numbered-answer.result
    (joined_by c.self.inside.history.items c.reserve.new.self.items c.note_fault.new.history.items c.args.by c.is_disk_fault.result _
    c.reserve.ensures.items c.is_disk_fault.ensures c.note_fault.ensures)
    reads.faults c.piece_numbered-answer.ensures.gives c.piece_numbered-answer.ensures.digests c.shows_its_book-2.ensures.shows.consistent.sound).1

pub returns-clause-shows : goal.returns-clause-shows
returns-clause-shows g c =
    let reads = reads_on g.D.Disk (is_bring_fault c.piece_numbered-answer.result) c.self.inside.archive c.piece_numbered-answer.new.self c.piece_numbered-answer.ensures.looks c.piece_numbered-answer.ensures.faults in
    subst (λ (kept : Guarded _). KeepsShown kept.holdings c.piece_numbered-answer.new.self) c.self.view_is
    (λ e has. subst (λ (l : List Facts). Contains l e) (sym reads.stays.shown) has)
