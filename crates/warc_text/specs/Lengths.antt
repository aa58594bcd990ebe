-- Lengths of records, as sums, and what keeps them within a `u64`.
use Rattle.std.specs.Prelude.{ℕ, ◌+◌, ◌<◌, ◌^◌, length, decimal}
use Rattle.time_text.specs.Texts.{warc_date}
use Rattle.capture.specs.declared.captured.Taken.{Taken}
use Rattle.warc_text.specs.Lines.{cut_line}
use Rattle.warc_text.specs.References.{Reference}

-- a capture whose group has a length below 2^63
pub record IsShort (taken : Taken) : Type 0 where
  pub uri : length taken.uri < 2 ^ 58
  pub head : length taken.head < 2 ^ 58
  pub wire : length taken.wire < 2 ^ 58
  pub request : length taken.request < 2 ^ 34

-- a block with the length before it and the line ends round it
abbrev pub ended_length : ℕ → ℕ
ended_length block = 24 + length (decimal block) + block

abbrev pub info_block_length : ℕ → ℕ
info_block_length volume = 115 + length (decimal volume)

abbrev pub info_length : ℕ → ℕ → ℕ
info_length volume born = 148 + length (warc_date born) + ended_length (info_block_length volume)

abbrev pub response_length : Taken → ℕ
response_length taken =
    237 + length (warc_date taken.date) + length taken.uri + length (cut_line taken.cut)
    + ended_length (length taken.head + length taken.wire)

abbrev pub revisit_length : Taken → Reference → ℕ
revisit_length taken reference =
    457 + (length (warc_date taken.date) + length (warc_date reference.date))
    + (length taken.uri + length reference.uri) + ended_length (length taken.head)

abbrev pub request_length : Taken → ℕ
request_length taken =
    244 + length (warc_date taken.date) + length taken.uri + ended_length (length taken.request)
