-- Each capture that is gathered was read: no line alone told of one.
use Rattle.std.proofs.Common.{◌≡◌, ℕ, false, List, ◌∷◌, [], ◌++◌, sym, ap, subst, ◌∙◌}
use Rattle.std.specs.Prelude.{Some, slice_get}
use Rattle.std.proofs.lemmas.Bool.{false≢true}
use Rattle.std.proofs.lemmas.List.Elements.{All-get_or, All-push}
use Rattle.std.proofs.lemmas.Option.{get_or_from_slice_get, slice_get_within}
use Rattle.capture.specs.declared.book.Book.{Book}
use Rattle.capture.specs.declared.captured.Stored.{Stored}
use Rattle.archive_gathering.specs.Gathering.{AreAllRead, GroupWasRead}
use Rattle.archive_volumes.proofs.SpotLaws.{form_read}
use Rattle.archive_volumes.specs.Spots.{AreHeldWhole, is_told_form, spot_of}
use Rattle.archive_volumes.specs.declared.spot.Spot.{Spot}

pub read_at : (spots : List Spot) → AreAllRead spots → (number : ℕ) (spot : Spot) → slice_get spots number ≡ Some spot → is_told_form spot.form ≡ false
read_at spots all number spot at =
    subst GroupWasRead (get_or_from_slice_get spots number spot spot at)
    (All-get_or GroupWasRead spots number spot (slice_get_within spots number spot at) all)

pub read_with : (spots : List Spot) → AreAllRead spots → (stored : Stored) (digest : List ℕ) (volume at head_at : ℕ)
    → AreAllRead (spots ++ spot_of stored digest volume at head_at ∷ [])
read_with spots all stored digest volume at head_at = All-push GroupWasRead spots (spot_of stored digest volume at head_at) all (form_read stored.kept)

pub none_made : (book : Book) (spots : List Spot) → AreAllRead spots → AreHeldWhole book spots
none_made book spots all = record {
  each = λ number spot at told. absurd (false≢true (sym (read_at spots all number spot at) ∙ ap is_told_form told));
}
