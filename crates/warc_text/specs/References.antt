-- What a revisit refers to: the record of an earlier response (ISO 28500, WARC 1.1, section 6.7.2).
use Rattle.std.specs.Prelude.{ℕ, List, Option, Some, None}
use Rattle.warc_text.specs.declared.id.IdKind.TheVariants.{Response}
use Rattle.warc_text.specs.declared.same_of.SameOf.{SameOf}
use Rattle.warc_text.specs.Ids.{id_of}

-- the record's id, its target and its date
pub record Reference : Type 0 where
  pub id : List ℕ
  pub uri : List ℕ
  pub date : ℕ

-- a reference to a capture of the archive, whose record's id is that of its number
abbrev pub reference_to : List ℕ → SameOf → Reference
reference_to namespace same = record { id = id_of namespace Response same.number; uri = same.uri; date = same.date }

-- none, or a reference to a capture of the archive
abbrev pub reference_of : List ℕ → Option SameOf → Option Reference
reference_of namespace None = None
reference_of namespace (Some same) = Some (reference_to namespace same)
