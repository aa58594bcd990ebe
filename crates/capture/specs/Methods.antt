-- Methods that the rules name (RFC 9110, section 9.3).
use Rattle.std.specs.Prelude.{ℕ, Bool, List, codes}
use Rattle.std.specs.Str.{bytes_eq}

-- a request of this method asks for a head alone
abbrev pub asks_for_head : List ℕ → Bool
asks_for_head method = bytes_eq method (codes "HEAD")
