-- Which of the captures that are kept a revisit refers to.
use Rattle.std.specs.Prelude.{◌≡◌, ℕ, false, List, Contains, Some, slice_get, slice_index_or}
use Rattle.warc_scan.specs.declared.group.Revisited.{Revisited}
use Rattle.warc_text.specs.Ids.{id_of}
use Rattle.warc_text.specs.declared.id.IdKind.TheVariants.{Response}
use Rattle.archive_gathering.specs.Measuring.{Agrees}
use Rattle.archive_gathering.specs.declared.measuring.Told.{Told}
use Rattle.archive_volumes.specs.Spots.{is_told_form}
use Rattle.archive_volumes.specs.declared.spot.Spot.{Spot}

-- the capture has the id, the target, the date, and a payload of the length, where that is told, unless a line alone told of the capture
pub record IsMatch (namespace : List ℕ) (same : Revisited) (told : Told) (number : ℕ) (spot : Spot) (len : ℕ) : Type 0 where
  pub date : spot.date ≡ same.date
  pub uri : spot.uri ≡ same.uri
  pub id : id_of namespace Response number ≡ same.id
  pub long : is_told_form spot.form ≡ false → Agrees told len

-- it is one of the candidates
pub record IsMet (namespace : List ℕ) (same : Revisited) (told : Told) (candidates : List ℕ) (spots : List Spot) (lengths : List ℕ) (number : ℕ) : Type 0 where
  pub one : Contains candidates number
  pub spot : Spot
  pub kept : slice_get spots number ≡ Some spot
  pub matches : IsMatch namespace same told number spot (slice_index_or lengths number 0)
