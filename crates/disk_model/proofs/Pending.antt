-- Whether each change is pending, by its place.
use Rattle.std.proofs.Common.{◌≡◌, ◌<◌, ℕ, zero, suc, Bool, List, [], ◌∷◌, length, get_or, drop, refl, ap, arith}
use Rattle.disk_model.specs.Changes.{is_pending}
use Rattle.disk_model.specs.steps.Pending.{pending_of}
use Rattle.disk_model.specs.declared.change.Change.{Change}

pub length-pending_of : (changes : List Change) → length (pending_of changes) ≡ length changes
length-pending_of [] = refl
length-pending_of (change ∷ later) = ap suc (length-pending_of later)

pub get_or-pending_of : (changes : List Change) (i : ℕ) (c : Change) (d : Bool) → i < length changes → get_or (pending_of changes) i d ≡ is_pending (get_or changes i c) (drop (suc i) changes)
get_or-pending_of [] i c d inside = absurd (omega arith)
get_or-pending_of (change ∷ later) zero c d inside = refl
get_or-pending_of (change ∷ later) (suc i) c d inside = get_or-pending_of later i c d (omega arith)
