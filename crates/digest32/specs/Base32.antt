-- Base32 (RFC 4648, section 6) of bytes whose bits are whole groups of five, as a digest's 160 are.
use Rattle.std.specs.Prelude.{◌≡◌, ℕ, ◌+◌, ◌*◌, ◌/◌, ◌%◌, ◌<◌, List, [], ◌∷◌, length, slice_index, All, Contains, codes}
use Rattle.std.specs.List.{flat_map}

-- the characters for 0 to 31, in their order (table 3)
abbrev pub alphabet : List ℕ
alphabet = codes "ABCDEFGHIJKLMNOPQRSTUVWXYZ234567"

-- the character for a number below 32
unfoldable pub character : ℕ → ℕ
character number = slice_index alphabet number

-- the eight bits of a byte, the most significant first
abbrev pub bits : ℕ → List ℕ
bits byte =
    byte / 128 % 2 ∷ byte / 64 % 2 ∷ byte / 32 % 2 ∷ byte / 16 % 2 ∷ byte / 8 % 2 ∷ byte / 4 % 2
    ∷ byte / 2 % 2 ∷ byte % 2 ∷ []

-- a character for each group of five bits, the most significant first
unfoldable pub characters : List ℕ → List ℕ
characters (a ∷ b ∷ c ∷ d ∷ e ∷ rest) =
    character (16 * a + 8 * b + 4 * c + 2 * d + e) ∷ characters rest
characters _ = []

-- the text of some bytes
unfoldable pub base32 : List ℕ → List ℕ
base32 bytes = characters (flat_map bits bytes)

-- a digest: twenty bytes
pub record IsDigest (digest : List ℕ) : Type 0 where
  pub length_is : length digest ≡ 20
  pub bytes : All (λ byte. byte < 256) digest

-- the text of a digest: thirty-two characters of the alphabet
pub record IsDigestText (text : List ℕ) : Type 0 where
  pub length_is : length text ≡ 32
  pub in_alphabet : All (Contains alphabet) text
