-- What the openings of records begin with, and the lines of which they are.
use Rattle.std.specs.Prelude.{ℕ, List, ◌++◌, codes}
use Rattle.httparse.specs.Ascii.{crlf_bytes}
use Rattle.warc_text.specs.Lines.{date_line, digest_line, field, id_line, target_line, version_line}

-- a line of a mark, which is a name and what follows it, and a value
unfoldable pub marked : List ℕ → List ℕ → List ℕ
marked mark value = mark ++ value ++ crlf_bytes

-- what each record begins with, before its date
abbrev pub start_text : List ℕ → List ℕ → List ℕ
start_text word id = version_line ++ field (codes "WARC-Type") word ++ id_line id

-- what the openings of responses and revisits have in common
abbrev pub front_text : List ℕ → List ℕ → ℕ → List ℕ → List ℕ → List ℕ
front_text word id date uri digest = start_text word id ++ date_line date ++ target_line uri ++ digest_line digest
