-- The fields of a captured response, as its memento has them (RFC 7089 leaves this to the archive).
use Rattle.std.specs.Prelude.{ℕ, Bool, false, not, ◌&&◌, List, ◌++◌, codes, Option, Some, None, if◌then◌else◌}
use Rattle.std.specs.List.{flat_map}
use Rattle.head_lines.specs.Lines.{field_line}
use Rattle.name_table.specs.HeaderFields.{is_kept}
use Rattle.capture.specs.Fields.{NamedValue, is_named}
use Rattle.capture.specs.declared.captured.Brought.{Brought}
use Rattle.html_rewrite.specs.Links.{web_target}
use Rattle.replay_url.specs.Forms.{memento_address}
use Rattle.time_text.specs.Texts.{time_digits}
use Rattle.url.specs.Parts.{Parts, serialize}

-- the field tells where else to go (RFC 9110, section 10.2.2)
abbrev pub is_location : NamedValue → Bool
is_location field = is_named (codes "location") field

-- the address of a target at the time of a capture; the value itself where it leads nowhere on the web
abbrev pub address_at : List ℕ → ℕ → List ℕ → Option Parts → List ℕ
address_at base date value None = value
address_at base date value (Some url) = memento_address base (time_digits date) false (serialize url)

-- a location leads to the archive, at the time of the capture
abbrev pub location_at : List ℕ → Brought → List ℕ → List ℕ
location_at base capture value = address_at base capture.date value (web_target capture.uri value)

-- the value of a field that keeps its name: a location leads to the archive, unless the capture is given as it was received
abbrev pub kept_value : List ℕ → Brought → Bool → NamedValue → List ℕ
kept_value base capture raw field =
    if not raw && is_location field then location_at base capture field.1 else field.1

-- the name of a field of the captured response that doesn't hold of its memento
unfoldable pub original_name : List ℕ → List ℕ
original_name name = codes "X-Archive-Orig-" ++ name

-- a field of the captured response, as the memento has it
unfoldable pub memento_field : List ℕ → Brought → Bool → NamedValue → List ℕ
memento_field base capture raw field =
    if is_kept field.0 then field_line (field.0, kept_value base capture raw field)
    else field_line (original_name field.0, field.1)

abbrev pub memento_fields : List ℕ → Brought → Bool → List NamedValue → List ℕ
memento_fields base capture raw fields = flat_map (memento_field base capture raw) fields
