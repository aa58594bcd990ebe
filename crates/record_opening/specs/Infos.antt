-- The warcinfo with which a volume begins (ISO 28500, WARC 1.1, section 6.2).
use Rattle.std.specs.Prelude.{◌≡◌, ℕ, List, length}
use Rattle.time_text.specs.Texts.{InRange}
use Rattle.warc_text.specs.Ids.{IsUuid}
use Rattle.warc_text.specs.Records.{info_text}

-- the text is the warcinfo of the volume with this number, in this namespace and born at this date
pub record IsInfo (volume : ℕ) (text namespace : List ℕ) (born len : ℕ) : Type 0 where
  pub namespace_is : IsUuid namespace
  pub date : InRange born
  pub composed : text ≡ info_text namespace volume born
  pub len_is : len ≡ length text
