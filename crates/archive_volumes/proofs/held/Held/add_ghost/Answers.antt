use Rattle.std.proofs.Common.{◌≡◌, ◌++◌, ◌∷◌, [], List, map, Option, Some, option_to_list, refl, sym, ap, ◌∙◌}
use Rattle.capture.specs.declared.book.Volume.{Volume}
use Rattle.archive_volumes.specs.Held.{stored_in, volume_of}
use Rattle.archive_shelf.specs.Storing.{add_to_last}
use Rattle.archive_volumes.specs.declared.held.Shadow.{Shadow}
use Rattle.archive_volumes.proofs.HeldLaws.{capture_behind}
use Rattle.archive_volumes.proofs.held.Held.add_ghost.Goals as goal

pub returns-in-Some : goal.returns-in-Some
returns-in-Some c =
    let self = c.args.self.now in
    let last = c.in-Some.last in
    let items : c.push_reserved.new.self.items ≡ last.captures.items ++ c.args.stored ∷ [] = c.push_reserved.ensures.items in
    let is : self.last ≡ Some last = c.in-Some.is in
    let volumes = capture_behind self.sealed.items last.born last.captures.items c.push_reserved.new.self.items c.args.stored (stored_in c.args.stored) items refl in
    record {
      book = ap (λ (l : List Volume). record { namespace = self.namespace; volumes = l })
          (volumes ∙ ap (λ (o : Option Shadow). add_to_last (map volume_of self.sealed.items ++ map volume_of (option_to_list o)) (stored_in c.args.stored)) (sym is));
    }
