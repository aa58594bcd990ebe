-- An answer as clauses see it.
use Rattle.std.specs.Prelude.{ℕ, Bool, List, ◌++◌, codes, Option, Some, None}
use Rattle.head_lines.specs.Lines.{close_line_where, own_status_line, status_line, type_line}
use Rattle.head_lines.specs.declared.status.Status.TheVariants as status
use Rattle.httparse.specs.Ascii.{crlf_bytes}

-- the text that the client gets, and whether the connection closes behind it
pub record Given : Type 0 where
  pub text : List ℕ
  pub closes : Bool

-- a text, and what stands behind it
abbrev pub with_body : List ℕ → Option (List ℕ) → List ℕ
with_body head None = head
with_body head (Some body) = head ++ body

-- the status line of what is found, and its type
unfoldable pub found_start : List ℕ → List ℕ
found_start media_type = own_status_line status.Ok ++ type_line media_type

-- the answer that there is nothing as yet
abbrev pub nothing_text : Bool → List ℕ
nothing_text closes = status_line 204 (codes "No Content") ++ close_line_where closes ++ crlf_bytes
