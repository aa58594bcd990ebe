-- What a stop leaves is an image.
use Rattle.std.proofs.Common.{◌≡◌, List, sym, ap, ◌∙◌, subst}
use Rattle.disk_model.specs.Changes.{replayed, stopped_changes}
use Rattle.disk_model.specs.Device.{images_of}
use Rattle.disk_model.specs.Image.{Image}
use Rattle.disk_model.specs.declared.change.Change.{Change}
use Rattle.disk_model.proofs.Stops.{stopped_is_left}
use Rattle.disk_model.proofs.memory_disk.MemoryDisk.stop.Goals as goal

pub returns-clause-image : goal.returns-clause-image
returns-clause-image c =
    let image : replayed c.new.result.items c.in-Ok.first ≡ replayed (stopped_changes c.args.choice c.args.self.changes) c.args.self.first =
    ap (λ (l : List Change). replayed l c.in-Ok.first) c.new.ensures.items ∙ c.in-Ok.ensures in
    subst (λ (i : Image). images_of c.args.self i) (sym image) (stopped_is_left c.args.choice c.args.self.changes c.args.self.first)
