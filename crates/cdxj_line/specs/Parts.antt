-- A line by parts that are lent.
use Rattle.cdxj_line.specs.declared.line.Line.{Line}
use Rattle.cdxj_line.specs.declared.line_parts.LineParts.{LineParts}

-- the line that the parts are of
abbrev pub line_of : LineParts → Line
line_of parts = record { key = parts.key.now; date = parts.date; digest = parts.digest.now; volume = parts.volume; length = parts.length; method = parts.method.now; mime = parts.mime.now; number = parts.number; offset = parts.offset; status = parts.status; url = parts.url.now }
