-- What the opening of a response or revisit record says (ISO 28500, WARC 1.1, sections 5 and 6). The opening of a record is
-- all up to its block's length.
use Rattle.std.specs.Prelude.{◌≡◌, ℕ, Bool, false, List, Option, Some, None, option_map, IfSome, IsTrue}
use Rattle.digest32.specs.Base32.{IsDigest}
use Rattle.time_text.specs.Texts.{InRange}
use Rattle.capture.specs.Target.{is_accepted_uri}
use Rattle.warc_text.specs.Ids.{IsUuid}
use Rattle.warc_text.specs.Records.{response_opening, revisit_opening}
use Rattle.warc_text.specs.References.{Reference}
use Rattle.record_opening.specs.declared.opening.Opening.{Opening as OpeningParts}
use Rattle.record_opening.specs.declared.opening_parts.Refers.{Refers}

-- the capture's date and target, its payload's digest, whether its response was cut, and the record that a revisit refers to
pub record Opening : Type 0 where
  pub date : ℕ
  pub uri : List ℕ
  pub digest : List ℕ
  pub cut : Bool
  pub same : Option Reference

-- a response, or a revisit where it refers to a record
abbrev pub opening_by : List ℕ → Opening → Option Reference → List ℕ
opening_by id o None = response_opening id o.date o.uri o.digest o.cut
opening_by id o (Some reference) = revisit_opening id o.date o.uri o.digest reference

abbrev pub opening_text : List ℕ → Opening → List ℕ
opening_text id o = opening_by id o o.same

-- the reader's parts of it
abbrev pub reference_of : Refers → Reference
reference_of r = record { id = r.id; uri = r.uri.now; date = r.date }

abbrev pub opening_of : OpeningParts → Opening
opening_of o = record {
  date = o.date;
  uri = o.uri.now;
  digest = o.digest;
  cut = o.cut;
  same = option_map reference_of o.same;
}

-- an accepted target
abbrev pub IsTarget : List ℕ → Type 0
IsTarget uri = IsTrue (is_accepted_uri uri)

-- a UUID, an accepted target and a date that has a text
pub record IsRevisited (reference : Reference) : Type 0 where
  pub id_is : IsUuid reference.id
  pub target : IsTarget reference.uri
  pub date_is : InRange reference.date

-- each part is one that the record of a well formed capture may have
pub record IsOpening (o : Opening) : Type 0 where
  pub date_is : InRange o.date
  pub target : IsTarget o.uri
  pub digest_is : IsDigest o.digest
  pub refers : IfSome o.same IsRevisited
  -- a revisit isn't marked as cut
  pub whole : IfSome o.same (λ reference. o.cut ≡ false)
