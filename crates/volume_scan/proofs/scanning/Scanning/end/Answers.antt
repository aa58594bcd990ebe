use Rattle.std.proofs.Common.{refl}
use Rattle.volume_scan.specs.Scannings.{files_in}
use Rattle.volume_scan.proofs.Places.{lies_at_end, moves_place}
use Rattle.volume_scan.proofs.Texts.{texts_held}
use Rattle.volume_scan.proofs.scanning.Scanning.end.Goals as goal

pub returns-clause-finds : goal.returns-clause-finds
returns-clause-finds g c =
    let d = g.D.Disk in
    let old = c.args.self.now in
    record {
      position = refl;
      not_skipped = c.requires.not_skipped;
      read = λ told. refl;
      held = λ told.
          let lies = (c.requires.in_place.stands told).lies in
          texts_held old.position.extent (files_in d old) c.args.is_dirty c.args.further lies.none lies.enough lies.within (c.requires.behind told) (c.requires.further told);
      behind = c.requires.behind;
      furthest = c.requires.further;
    }

pub returns-clause-moves : goal.returns-clause-moves
returns-clause-moves g c =
    let d = g.D.Disk in
    let old = c.args.self.now in
    moves_place d old _ refl refl refl c.requires.in_place
    (λ told. lies_at_end old.position (files_in d old) (c.requires.in_place.stands told).lies c.args.is_dirty c.args.further (c.requires.behind told) (c.requires.further told))
    (λ told k is. (c.requires.in_place.stands told).last k is)
