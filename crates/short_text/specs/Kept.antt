-- What a short text is, by where its bytes lie.
use Rattle.std.specs.Prelude.{ℕ, List}
use Rattle.short_text.specs.declared.short_text.Kept.{Kept}
use Rattle.short_text.specs.declared.short_text.Kept.TheVariants.{Here, Apart}

abbrev pub bytes_of : Kept → List ℕ
bytes_of (Here here) = here.bytes
bytes_of (Apart text) = text
