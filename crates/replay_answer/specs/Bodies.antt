-- The body of a memento: the payload, or the page rewritten so that its links lead to the archive.
use Rattle.std.specs.Prelude.{◌≡◌, ℕ, Bool, not, ◌&&◌, List, codes, bytes_eq, Option, unwrap_or, MatchBool}
use Rattle.std.specs.List.{list_any}
use Rattle.capture.specs.Fields.{NamedValue, is_named}
use Rattle.capture.specs.declared.captured.Brought.{Brought}
use Rattle.cdxj_line.specs.MediaType.{media_type_of}
use Rattle.html_rewrite.specs.declared.page.TheConstants.{PAGE_LIMIT}
use Rattle.html_rewrite.specs.Links.{archive_prefix, link, page_url}
use Rattle.html_rewrite.specs.Rewritten.{IsRewritten}

-- the field tells a coding of the content (RFC 9110, section 8.4)
abbrev pub tells_coding : NamedValue → Bool
tells_coding field = is_named (codes "content-encoding") field && not (bytes_eq field.1 (codes "identity"))

-- the response is a page of HTML without a coding
abbrev pub is_page : List NamedValue → Bool
is_page fields = bytes_eq (media_type_of fields) (codes "text/html") && not (list_any tells_coding fields)

-- the page is rewritten, unless the capture is given as it was received
abbrev pub is_rewritten : Bool → List NamedValue → Bool
is_rewritten raw fields = not raw && is_page fields

-- the rewritten page, or the payload where that would be too long
pub record IsPageBody (base : List ℕ) (capture : Brought) (body : List ℕ) : Type 0 where
  pub page : Option (List ℕ)
  pub rewritten : IsRewritten PAGE_LIMIT (link (archive_prefix base capture.date) (page_url capture.uri)) capture.payload page
  pub shown : body ≡ unwrap_or page capture.payload

-- the body that a GET gets
abbrev pub IsBody : List ℕ → Brought → Bool → List NamedValue → List ℕ → Type 0
IsBody base capture raw fields body =
    MatchBool (is_rewritten raw fields) (IsPageBody base capture body) (body ≡ capture.payload)
