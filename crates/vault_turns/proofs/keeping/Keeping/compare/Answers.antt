-- A payload was looked for.
use Rattle.std.proofs.Common.{ap, subst, sym}
use Rattle.std.specs.Prelude.{Contains}
use Rattle.archive_core.proofs.LastingLaws.{stored_looks}
use Rattle.archive_core.specs.Holdings.{Holdings}
use Rattle.archive_index.specs.Shown.{numbered}
use Rattle.archive_payloads.specs.Choosing.{is_look_fault}
use Rattle.archive_volumes.proofs.ChangeLaws.{DiskLaws}
use Rattle.history_lock.specs.Seen.{Adds}
use Rattle.vault_turns.specs.Guarded.{Guarded, KeepsShown}
use Rattle.vault_turns.specs.History.{by_of, is_told}
use Rattle.vault_turns.specs.Noting.{failing}
use Rattle.vault_turns.specs.Turns.{Compares}
use Rattle.vault_turns.proofs.CalmLaws.{read_calm, read_right, roomy, stays_stood}
use Rattle.vault_turns.proofs.NotingLaws.{joined_by, values}
use Rattle.vault_turns.proofs.ReadLaws.{all_compared}
use Rattle.vault_turns.proofs.keeping.Keeping.compare.Given.{Over}
use Rattle.vault_turns.proofs.keeping.Keeping.compare.Goals as goal

disk_laws : (g : Over) → DiskLaws g.D.Disk
disk_laws g = record { earlier = g.met.D.Disk.earlier; now_counts = g.met.D.Disk.now_counts; now_only = g.met.D.Disk.now_only }

pub invariant_of-self : goal.invariant_of-self
invariant_of-self g c = roomy g.D.Disk c.self.inside.archive c.self.inside.history.items c.reserve.new.self.items c.reserve.ensures.items c.self.invariant

pub invariant_of-self-2 : goal.invariant_of-self-2
invariant_of-self-2 g c =
    let joined = joined_by c.self.inside.history.items c.reserve.new.self.items c.note_fault.new.history.items c.args.by c.is_disk_fault.result (is_look_fault c.compare-answer.result)
    c.reserve.ensures.items c.is_disk_fault.ensures c.note_fault.ensures in
    let both = (all_compared g.D.Disk c.args.by (values c.self.inside.history.items) c.self.inside.archive c.compare-answer.new.self c.self.invariant.0 c.self.invariant.1
    (ap (λ (held : Holdings _). held.book) c.compare-answer.ensures.only_looks.others)
    (ap (λ (held : Holdings _). held.limits) c.compare-answer.ensures.only_looks.others)
    (ap (λ (held : Holdings _). held.told) c.compare-answer.ensures.only_looks.others)
    c.args.payload.now (values c.note_fault.new.history.items) c.compare-answer.result
    joined
    c.compare-answer.ensures.faults c.compare-answer.ensures.looks c.shows_its_book-2.ensures.shows.consistent.sound).0 in (
      both.0,
      both.1,
      read_calm g.D.Disk (disk_laws g) (values c.self.inside.history.items) (failing c.args.by (is_look_fault c.compare-answer.result)) (values c.note_fault.new.history.items)
          c.self.inside.archive c.compare-answer.new.self c.self.invariant.0.begun joined c.self.invariant.2
          (ap (λ (held : Holdings _). held.book) c.compare-answer.ensures.only_looks.others) c.compare-answer.ensures.only_looks.unwritten.crash,
      read_right g.D.Disk (values c.self.inside.history.items) (failing c.args.by (is_look_fault c.compare-answer.result)) (values c.note_fault.new.history.items)
          c.self.inside.archive c.compare-answer.new.self c.self.invariant.0.begun joined
          (ap (λ (held : Holdings _). held.book) c.compare-answer.ensures.only_looks.others) c.compare-answer.ensures.only_looks.unwritten.crash c.self.invariant.3,
      stays_stood g.D.Disk (values c.self.inside.history.items) (failing c.args.by (is_look_fault c.compare-answer.result)) (values c.note_fault.new.history.items)
          c.self.inside.archive c.compare-answer.new.self c.self.invariant.0.begun joined
          (λ tells. stored_looks g.D.Disk (disk_laws g) _ c.self.inside.archive c.compare-answer.new.self tells c.compare-answer.ensures.only_looks
          (is_look_fault c.compare-answer.result) c.compare-answer.ensures.faults) c.self.invariant.4,
    )

pub returns-clause-adds : goal.returns-clause-adds
returns-clause-adds g c =
    subst (λ (kept : Guarded _). Adds by_of c.args.by kept.history (values c.note_fault.new.history.items)
    (λ added. Compares (is_told kept.history) c.args.payload.now kept.history added c.compare-answer.result)) c.self.view_is
    (all_compared g.D.Disk c.args.by (values c.self.inside.history.items) c.self.inside.archive c.compare-answer.new.self c.self.invariant.0 c.self.invariant.1
    (ap (λ (held : Holdings _). held.book) c.compare-answer.ensures.only_looks.others)
    (ap (λ (held : Holdings _). held.limits) c.compare-answer.ensures.only_looks.others)
    (ap (λ (held : Holdings _). held.told) c.compare-answer.ensures.only_looks.others)
    c.args.payload.now (values c.note_fault.new.history.items) c.compare-answer.result
    (joined_by c.self.inside.history.items c.reserve.new.self.items c.note_fault.new.history.items c.args.by c.is_disk_fault.result _
    c.reserve.ensures.items c.is_disk_fault.ensures c.note_fault.ensures)
    c.compare-answer.ensures.faults c.compare-answer.ensures.looks c.shows_its_book-2.ensures.shows.consistent.sound).1

pub returns-clause-shows : goal.returns-clause-shows
returns-clause-shows g c =
    subst (λ (kept : Guarded _). KeepsShown kept.holdings c.compare-answer.new.self) c.self.view_is
    (λ e has. subst (λ (held : Holdings _). Contains (numbered held.index) e) (sym c.compare-answer.ensures.only_looks.others) has)
