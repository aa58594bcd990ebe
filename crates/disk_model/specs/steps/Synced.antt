-- Which files are synced by the changes that were seen so far, from the last one back.
use Rattle.std.specs.Prelude.{◌≡◌, ℕ, Bool, false, List, get_or}
use Rattle.std.specs.List.{list_any}
use Rattle.disk_model.specs.Changes.{is_sync_of}
use Rattle.disk_model.specs.declared.change.Change.{Change}
use Rattle.disk_model.specs.declared.kind.Kind.{Kind}
use Rattle.disk_model.specs.declared.kind.Kind.TheVariants.{Warc, Cdxj}
use Rattle.disk_model.specs.declared.synced.Synced.{Synced}

-- whether a file is marked
abbrev pub is_marked : Synced → Kind → ℕ → Bool
is_marked synced Warc file = get_or synced.warc.items file false
is_marked synced Cdxj file = get_or synced.cdxj.items file false

-- the files that are marked are those that the changes sync
abbrev pub Marks : Synced → List Change → Type 0
Marks synced changes = (kind : Kind) (file : ℕ) → is_marked synced kind file ≡ list_any (is_sync_of kind file) changes
