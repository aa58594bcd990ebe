-- How the mementos are written in one pass over the entries.
use Rattle.std.specs.Prelude.{ℕ, false, ◌==◌, List, [], ◌∷◌, ◌++◌, if◌then◌else◌}
use Rattle.index_entry.specs.Facts.{Facts}
use Rattle.timemap.specs.LinkList.{on_next_line}
use Rattle.timemap.specs.Mementos.{memento_link}

-- an entry behind one of the previous date, where the last one has this date
abbrev pub later_text : List ℕ → ℕ → ℕ → Facts → List ℕ
later_text base last previous entry =
    if entry.date == previous then [] else on_next_line (memento_link base false (entry.date == last) entry)

-- the entries behind one of the previous date
abbrev pub later_texts : List ℕ → ℕ → ℕ → List Facts → List ℕ
later_texts base last previous [] = []
later_texts base last previous (entry ∷ entries) =
    later_text base last previous entry ++ later_texts base last entry.date entries
