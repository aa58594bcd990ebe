-- Texts that hold no space, and keys, which are such texts.
use Rattle.std.specs.Prelude.{◌≡◌, ℕ, ◌<◌, List, All, Some}
use Rattle.surt_key.specs.Key.{key_of}

-- no byte is a space or a control below it, so that a space behind the text ends it
abbrev pub HoldsNoSpace : List ℕ → Type 0
HoldsNoSpace text = All (λ b. 0x20 < b) text

-- a key holds no space
abbrev pub KeysHoldNoSpace : Type 0
KeysHoldNoSpace = (uri key : List ℕ) → key_of uri ≡ Some key → HoldsNoSpace key
