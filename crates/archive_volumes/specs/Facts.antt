-- What is told of a book's volumes.
use Rattle.std.specs.Prelude.{ℕ, suc, ◌+◌, List, [], ◌∷◌, length}
use Rattle.capture.specs.declared.book.Book.{Book}
use Rattle.capture.specs.declared.book.Volume.{Volume}
use Rattle.archive_volumes.specs.declared.volume_facts.VolumeFacts.{VolumeFacts}

-- the volumes from a number on, before which so many captures stand: each with the count of its own
abbrev pub facts_from : ℕ → ℕ → List Volume → List VolumeFacts
facts_from volume first [] = []
facts_from volume first (v ∷ volumes) =
    record { volume = volume; first = first; count = length v.captures } ∷ facts_from (suc volume) (first + length v.captures) volumes

-- all of them
abbrev pub facts_of : Book → List VolumeFacts
facts_of book = facts_from 0 0 book.volumes
