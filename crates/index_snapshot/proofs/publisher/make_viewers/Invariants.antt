use Rattle.std.proofs.Common.{◌≡◌, ◌≤◌, drop, length}
use Rattle.std.specs.List.{All}
use Rattle.left_right.specs.Sides.{view}
use Rattle.index_snapshot.specs.Edges.{Edge}
use Rattle.index_snapshot.proofs.publisher.make_viewers.Given as goal

abbrev pub invariant-loop-made : goal.invariant-loop-made
invariant-loop-made g l =
    record {
      count : length l.viewers.items ≡ l.made;
      within : l.made ≤ l.readers;
      viewers : All (λ (v : Edge _). v ≡ l.note) l.viewers.items;
      shown : l.copies.desk.shown ≡ l.fn.copies.desk.shown;
      pending : drop l.copies.behind l.copies.log.items ≡ drop l.fn.copies.behind l.fn.copies.log.items;
      known : view l.copies.desk.place ≡ view l.fn.copies.desk.place;
    }
