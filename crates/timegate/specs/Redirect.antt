-- The answer that leads to a memento (RFC 9110, section 15.4.3; RFC 7089, section 4).
use Rattle.std.specs.Prelude.{ℕ, Bool, List, [], ◌++◌, codes, if◌then◌else◌}
use Rattle.httparse.specs.Ascii.{crlf_bytes}
use Rattle.index_entry.specs.Facts.{Facts}
use Rattle.head_lines.specs.Lines.{own_status_line, link_line, head_end}
use Rattle.head_lines.specs.declared.status.Status.TheVariants.{Found}
use Rattle.replay_url.specs.Forms.{memento_address}
use Rattle.replay_url.specs.Links.{original_link, map_link}
use Rattle.time_text.specs.Texts.{time_digits}

-- where a capture of this date and URL is replayed (RFC 9110, section 10.2.2)
unfoldable pub location_line : List ℕ → ℕ → Bool → List ℕ → List ℕ
location_line base date raw url =
    codes "Location: " ++ memento_address base (time_digits date) raw url ++ crlf_bytes

-- a gate's answer depends on the time that was asked for (RFC 7089, section 2.1.2)
unfoldable pub vary_line_where : Bool → List ℕ
vary_line_where by_gate = if by_gate then codes "Vary: accept-datetime" ++ crlf_bytes else []

-- the URL that was asked for, and the list of its captures (RFC 8288, section 3)
unfoldable pub redirect_links : List ℕ → List ℕ → List ℕ
redirect_links base url = original_link url ++ codes ", " ++ map_link (codes "timemap") base url

-- a redirect to the capture of an entry, by the base of the site and the URL that was asked for: whether the capture was
-- asked for as it was received, whether a gate answers, and whether the connection closes
unfoldable pub redirect_text : List ℕ → List ℕ → Facts → Bool → Bool → Bool → List ℕ
redirect_text base url entry raw by_gate closes =
    own_status_line Found
    ++ location_line base entry.date raw entry.uri
    ++ vary_line_where by_gate
    ++ link_line (redirect_links base url)
    ++ head_end 0 closes
