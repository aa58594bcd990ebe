-- Which texts are one section of field lines with its empty line, which has no limits here (RFC 9112, sections 5 and
-- 7.1.2), and its fields in parts.
use Rattle.std.specs.Prelude.{◌≡◌, ℕ, List, [], map}
use Rattle.httparse.specs.Grammar.{LineEnd, ReadsSection}
use Rattle.httparse.specs.Grammar as grammar
use Rattle.capture.specs.Fields.{named_values}
use Rattle.http_head.specs.Heads.{named_value}
use Rattle.http_head.specs.declared.head.Field.{Field}

-- the text is one section of the grammar
pub record IsSection (text : List ℕ) : Type 0 where
  pub fields : List grammar.Field
  pub end : LineEnd
  pub reads : ReadsSection text fields end []

-- the parts are those of the fields of the one section that the text is
pub record HoldsFields (text : List ℕ) (parts : List Field) : Type 0 where
  pub section : IsSection text
  pub fields_are : map named_value parts ≡ named_values section.fields
