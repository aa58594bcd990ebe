use Rattle.std.specs.Prelude.{◌≡◌, ◌-◌, ◌+◌, ◌*◌, ◌^◌, ◌≤◌, IsTrue}
use Rattle.fixity.specs.Verdicts.{StandsUpTo}
use Rattle.fixity.specs.steps.Batches.{AllFit, AreParts}
use Rattle.fixity.specs.steps.Files.{IsIn, file_in, volume_in}
use Rattle.fixity.proofs.groups.go_through.Given as goal

abbrev pub invariant-batches : goal.invariant-batches
invariant-batches g l = record {
  few : l.groups ≤ l.fn.plan.due.count;
  inside : l.place ≤ l.fn.plan.due.len;
  need : l.need ≤ l.fn.plan.due.len - l.place;
  there : IsTrue g.D.Disk.tells → IsIn (g.D.Disk.reading l.disk) l.fn.plan.due;
  stands : IsTrue g.D.Disk.tells → StandsUpTo (volume_in l.fn.plan.due l.fn.plan.namespace) (file_in (g.D.Disk.reading l.disk) l.fn.plan.due) l.groups l.place;
  parts : IsTrue g.D.Disk.tells → AreParts (file_in (g.D.Disk.reading l.disk) l.fn.plan.due) l.table;
  fit : AllFit l.fn.plan.due.len l.table;
  reading : IsTrue g.D.Disk.tells → g.D.Disk.reading l.disk ≡ g.D.Disk.reading l.fn.disk;
  faults : g.D.Disk.faults l.disk ≡ g.D.Disk.faults l.fn.disk;
}

abbrev pub decreases-batches : goal.decreases-batches
decreases-batches g l = (l.fn.plan.due.count - l.groups) * 2 ^ 64 + (l.fn.plan.due.len - l.need)
