-- Lines of a memento's head.
use Rattle.std.specs.Prelude.{ℕ, List, [], ◌++◌, codes, if◌then◌else◌}
use Rattle.httparse.specs.Ascii.{crlf_bytes}
use Rattle.head_lines.specs.Lines.{length_line, tells_no_length}
use Rattle.replay_url.specs.Links.{original_link, gate_link, map_link}
use Rattle.time_text.specs.Texts.{http_date}

-- when it was captured (RFC 7089, section 2.1.1)
unfoldable pub datetime_line : ℕ → List ℕ
datetime_line date = codes "Memento-Datetime: " ++ http_date date ++ crlf_bytes

-- the URL itself, its gate, and the list of its captures (RFC 7089, section 2.2; RFC 8288, section 3)
unfoldable pub memento_links : List ℕ → List ℕ → List ℕ
memento_links base url =
    original_link url
    ++ codes ", " ++ gate_link base url
    ++ codes ", " ++ map_link (codes "timemap") base url

-- the length of the body that a GET gets
unfoldable pub length_line_where : ℕ → ℕ → List ℕ
length_line_where status n = if tells_no_length status then [] else length_line n
