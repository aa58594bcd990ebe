-- Where heads and sections of the grammar end: at the first empty line, whatever follows.
use Rattle.std.specs.Prelude.{◌≡◌, ℕ, List, ◌++◌, length, All, Some}
use Rattle.httparse.specs.Grammar.{LineEnd, Field, IsField, print_section, RequestHead, print_request, ResponseHead, print_response}
use Rattle.capture.specs.Head.{head_end, section_len}
use Rattle.capture.specs.Message.{BeginsWithRequest, BeginsWithResponse}

-- a request head ends exactly at the first empty line
abbrev pub RequestHeadsEnd : Type 0
RequestHeadsEnd =
    (text : List ℕ) (h : RequestHead) (rest : List ℕ) → BeginsWithRequest text h rest
    → head_end text ≡ Some (length (print_request h))

-- a response head ends exactly at the first empty line
abbrev pub ResponseHeadsEnd : Type 0
ResponseHeadsEnd =
    (text : List ℕ) (h : ResponseHead) (rest : List ℕ) → BeginsWithResponse text h rest
    → head_end text ≡ Some (length (print_response h))

-- a trailer section ends exactly at the first empty line, which may be its first line
abbrev pub SectionsEnd : Type 0
SectionsEnd =
    (fields : List Field) (last : LineEnd) (rest : List ℕ) → All IsField fields
    → section_len (print_section fields last ++ rest) ≡ Some (length (print_section fields last))
