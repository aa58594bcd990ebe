-- What is kept of a capture of which a line alone told.
use Rattle.std.specs.Prelude.{Bool, bytes_eq, codes}
use Rattle.cdxj_line.specs.declared.line.Line.{Line}
use Rattle.archive_volumes.specs.declared.spot.Form.TheVariants.{Told}
use Rattle.archive_volumes.specs.declared.spot.Spot.{Spot}

-- the line is that of a revisit
abbrev pub is_revisit_line : Line → Bool
is_revisit_line line = bytes_eq line.mime (codes "warc/revisit")

-- what is kept of its capture, whose group begins where its first record does
abbrev pub told_spot : Line → Spot
told_spot line = record {
  method = line.method;
  uri = line.url;
  date = line.date;
  digest = line.digest;
  form = Told (is_revisit_line line);
  volume = line.volume;
  at = line.offset;
  head_at = 0;
  head_len = 0;
  wire_len = 0;
}
