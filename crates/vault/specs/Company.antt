-- What is told of a pass at its vault, as one of many shelves over an archive.
use Rattle.std.specs.Prelude.{◌∷◌}
use Rattle.disk_model.specs.Image.{no_files}
use Rattle.archive_shelf.specs.Contents.{Contents}
use Rattle.archive_shelf.specs.Openings.{CrashStates}
use Rattle.archive_shelf.specs.Told.{Told}
use Rattle.history_lock.specs.Known.{Known}
use Rattle.index_snapshot.specs.Edges.{Edge}
use Rattle.vault_lists.specs.Items.{shown_in}
use Rattle.vault_lists.specs.declared.item.Item.{Item}
use Rattle.vault_turns.specs.History.{is_told, told_book, told_limits}
use Rattle.vault_turns.specs.Own.{own_captures, own_faults}
use Rattle.vault_turns.specs.declared.noted.Noted.{Noted}

-- a pass of a vault: what its lock's pass knows, and the list that it has seen by date
pub record Passing : Type 0 where
  pub known : Known Noted
  pub shown : Edge Item

-- ---- what is told

-- Before the numbers of its captures stands the pass's own: whoever gets a shelf back knows by that which of the passes it is.
abbrev pub contents_at : Passing → Contents
contents_at pass = record {
  tells = is_told pass.known.seen;
  seen = told_book pass.known.seen;
  shown = shown_in pass.shown.items;
  mine = pass.known.number ∷ own_captures pass.known.numbers pass.known.seen;
  limits = told_limits pass.known.seen;
}

-- of what a crash may leave nothing is told
abbrev pub untold : CrashStates
untold = record { moment = 0; openings = λ t book. ⊥; covered = λ t. ⊥; checkpoints = λ files. ⊥ }

abbrev pub told_at : Passing → Told
told_at pass = record {
  contents = contents_at pass;
  faults = own_faults pass.known.numbers pass.known.seen;
  reading = no_files;
  crash = untold;
}
