-- A look of a pass at its vault.
use Rattle.std.proofs.Common.{◌≡◌, Bool, false, ◌∷◌, refl, ap, inl, arith}
use mathlib.Core.List.{IsPrefix}
use Rattle.capture.specs.GrowthLaws.{GrowsFromItself, GrowthGoesOn, GrowthKeepsCaptures}
use Rattle.archive_shelf.specs.Told.{KnowsBook, LooksOn}
use Rattle.history_lock.specs.Known.{Known}
use Rattle.index_snapshot.specs.Edges.{Edge}
use Rattle.vault_lists.specs.Finding.{HasSeen}
use Rattle.vault_lists.specs.Items.{shown_in}
use Rattle.vault_lists.specs.declared.item.Item.{Item}
use Rattle.vault.specs.Company.{Passing, contents_at, told_at}
use Rattle.vault_turns.specs.History.{is_told, told_book, told_limits}
use Rattle.vault_turns.specs.Listing.{IsListed}
use Rattle.vault_turns.specs.Own.{own_captures, own_faults}
use Rattle.vault_turns.specs.declared.noted.Noted.{Noted}
use Rattle.vault_turns.proofs.SeenLaws.{shown_begins}
use Rattle.vault.proofs.ShowingLaws.{knows_book}

pub looks_on : (was is : Passing) → is.known ≡ was.known → IsPrefix was.shown.items is.shown.items → LooksOn false (told_at was) (told_at is)
looks_on was is known more = record {
  looks = record {
    shown = shown_begins was.shown.items is.shown.items more;
    others = λ i. record {
      tells = is_told (known i).seen;
      seen = told_book (known i).seen;
      shown = shown_in is.shown.items;
      mine = (known i).number ∷ own_captures (known i).numbers (known i).seen;
      limits = told_limits (known i).seen;
    };
  };
  faults = ap (λ (k : Known Noted). own_faults k.numbers k.seen) known;
  unwritten = record {
    reading = λ alone told. refl;
    crash = record { later = omega arith; moves = λ t x le opened. inl opened; covered = λ t le all. all; kept = λ files has. has };
  };
}

pub knows_seen : GrowthKeepsCaptures → GrowsFromItself → GrowthGoesOn → (pass : Passing) (note : Edge Item) (whole : Bool) → IsListed pass.known.seen note whole
    → HasSeen note whole pass.shown.items → KnowsBook false (contents_at pass)
knows_seen keeps itself goes_on pass note whole listed seen told =
    knows_book keeps itself goes_on pass.known.seen note.items pass.shown.items seen.fits seen.begins (listed.book seen.all) listed.told told
