-- An entry, and the line of its capture.
use Rattle.std.specs.Prelude.{ℕ, List}
use Rattle.cdxj_line.specs.declared.line.Line.{Line}
use Rattle.index_entry.specs.Facts.{Facts}

-- what a line tells of its capture, but for the method
abbrev pub facts_of : Line → Facts
facts_of line = record { key = line.key; date = line.date; number = line.number; uri = line.url; mime = line.mime; status = line.status; digest = line.digest; volume = line.volume; offset = line.offset; length = line.length }

-- the line of an entry's capture, which was asked for by this method
abbrev pub line_at : Facts → List ℕ → Line
line_at entry method = record { key = entry.key; date = entry.date; digest = entry.digest; volume = entry.volume; length = entry.length; method = method; mime = entry.mime; number = entry.number; offset = entry.offset; status = entry.status; url = entry.uri }
