-- An address whose path is long, and two with short paths in its place.
use Rattle.std.specs.Prelude.{◌≡◌, ℕ, zero, suc, ◌+◌, ◌==◌, true, List, [], ◌∷◌, ◌++◌, length, take, drop, codes, Option, None, Some, if◌then◌else◌}
use Rattle.std.specs.List.{repeat}
use Rattle.url.specs.declared.slicing.Position.TheVariants.{BeforePath}
use Rattle.url.specs.Parser.{with_path}
use Rattle.url.specs.Parts.{Parts, has_authority, offset, serialize}
use Rattle.html_rewrite.specs.declared.outline.Outline.{Outline}
use Rattle.html_rewrite.specs.Bytes.{begins, slash}
use Rattle.html_rewrite.specs.Links.{is_http}

abbrev pub slash_one : ℕ → ℕ
slash_one b = if b == slash then 1 else 0

-- how many slashes the path has
abbrev pub slashes : List ℕ → ℕ
slashes [] = 0
slashes (b ∷ path) = slash_one b + slashes path

-- the front of the path that has so many slashes: what stands before the next one
abbrev pub front_with : ℕ → List ℕ → List ℕ
front_with n [] = []
front_with zero (b ∷ path) = if b == slash then [] else b ∷ front_with zero path
front_with (suc n) (b ∷ path) = if b == slash then b ∷ front_with n path else b ∷ front_with (suc n) path

-- an address of the web, whose path begins with a slash
pub record IsRooted (base : Parts) : Type 0 where
  pub web : is_http base ≡ true
  pub authority : has_authority base ≡ true
  pub first : begins (λ b. b == slash) base.path ≡ true

-- the same address with a path of so many such segments, in place of one with so many slashes
abbrev pub with_segments : List ℕ → Parts → Parts
with_segments segment base = with_path base (repeat (slashes base.path) segment)

-- two addresses that take the place of this one
pub record IsOutline (base : Parts) (outline : Outline) : Type 0 where
  pub rooted : IsRooted base
  pub bare : outline.bare ≡ with_segments (codes "/") base
  pub lettered : outline.lettered ≡ with_segments (codes "/a") base

-- so does the outline, where there is one
abbrev pub IsOutlined : Option Parts → Option Outline → Type 0
IsOutlined base outline = (b : Parts) (o : Outline) → base ≡ Some b → outline ≡ Some o → IsOutline b o

abbrev pub len_of : Option Parts → ℕ
len_of None = 0
len_of (Some url) = length (serialize url)

-- the text of the URL, in which a front of this path takes the place of so many bytes of its own
abbrev pub put_back : List ℕ → Parts → ℕ → List ℕ
put_back path url kept =
    take (offset url BeforePath) (serialize url) ++ front_with kept path
    ++ drop (offset url BeforePath + kept) (serialize url)
