-- An entry that the maps of an index share.
use Rattle.std.specs.Arc.{arc_value}
use Rattle.cdxj_index.specs.declared.shared.Kept.{Kept}
use Rattle.cdxj_index.specs.declared.shared.Kept.TheVariants.{Alone, Among}
pub use Rattle.cdxj_index.specs.declared.shared.Shared.{Shared}
use Rattle.index_entry.specs.Facts.{Facts}

-- the entry that stands by itself or among others
abbrev pub entry_at : Kept → Facts
entry_at (Alone entry) = arc_value entry
entry_at (Among placed) = arc_value placed

abbrev pub entry_of : Shared → Facts
entry_of shared = entry_at shared.kept
