-- What a clause sees of an archive.
use Rattle.archive_volumes.specs.Held.{book_of}
use Rattle.archive_core.specs.Holdings.{Holdings}
use Rattle.archive_core.specs.declared.archive.Archive.TheInside.{Inside}

abbrev pub holdings_of : {D : Type 0} → Inside D → Holdings D
holdings_of inside = record {
  journal = inside.volumes.journal;
  book = book_of inside.volumes.held;
  index = inside.index;
  table = inside.table;
  spots = inside.spots.items;
  limits = inside.limits;
  found = inside.found;
  revisits = inside.revisits;
  settled = inside.settled;
  told = inside.told.value;
}
