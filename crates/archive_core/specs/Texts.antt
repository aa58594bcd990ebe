-- The texts of an archive's volumes, with room for a capture.
use Rattle.std.specs.Prelude.{ℕ, List, [], ◌∷◌, ◌++◌, length, Option, Some, None}
use Rattle.disk_model.specs.declared.disk.Disk.{Ghosts}
use Rattle.warc_journal.specs.Journals.{texts}
use Rattle.warc_text.specs.Records.{info_text}
use Rattle.archive_core.specs.Holdings.{Holdings}

-- those that a read gives, with that of a volume which is begun, born at this time
abbrev pub texts_begun : {D : Type 0} → Ghosts D → Holdings D → ℕ → List (List ℕ)
texts_begun d held born = texts d held.journal ++ info_text held.book.namespace (length held.book.volumes) born ∷ []

-- or without, where none is begun
abbrev pub texts_room : {D : Type 0} → Ghosts D → Holdings D → Option ℕ → List (List ℕ)
texts_room d held None = texts d held.journal
texts_room d held (Some born) = texts d held.journal ++ info_text held.book.namespace (length held.book.volumes) born ∷ []
