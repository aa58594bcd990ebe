-- The book that is held without its bytes.
use Rattle.std.specs.Prelude.{◌<◌, List, ◌++◌, map, option_to_list, vec_len, IsSome, IfSome, Bool, false, not, nat_eq, [], ◌∷◌, length}
use Rattle.std.specs.Vec.{vec_capacity}
use Rattle.capture.specs.declared.book.Book.{Book}
use Rattle.capture.specs.declared.book.Volume.{Volume}
use Rattle.capture.specs.declared.captured.Stored.{Stored}
use Rattle.archive_volumes.specs.declared.held.Held.{Held}
use Rattle.archive_volumes.specs.declared.held.Shadow.{Shadow}
use Rattle.archive_volumes.specs.declared.stored_ghost.StoredGhost.{StoredGhost}

-- the capture
abbrev pub stored_in : StoredGhost → Stored
stored_in ghost_of = ghost_of.shown.value

-- the volume that a shadow stands for
abbrev pub volume_of : Shadow → Volume
volume_of shadow = record { born = shadow.born; captures = map stored_in shadow.captures.items }

-- the book that is held
abbrev pub book_of : Held → Book
book_of held = record {
  namespace = held.namespace;
  volumes = map volume_of held.sealed.items ++ map volume_of (option_to_list held.last);
}

-- a capture can be added to the volume without taking memory
abbrev pub HasSpace : Shadow → Type 0
HasSpace shadow = vec_len shadow.captures < vec_capacity shadow.captures

-- the book has a last volume, to which a capture can be added so
abbrev pub TakesCapture : Held → Type 0
TakesCapture held = IsSome held.last × IfSome held.last HasSpace

-- a volume can be put behind the others without taking memory
abbrev pub TakesVolume : Held → Type 0
TakesVolume held = vec_len held.sealed < vec_capacity held.sealed

-- there is a last volume, and it holds a capture
abbrev pub is_filled : List Volume → Bool
is_filled [] = false
is_filled (last ∷ []) = not (nat_eq (length last.captures) 0)
is_filled (first ∷ next ∷ others) = is_filled (next ∷ others)
