-- What is gained in one step after another.
use Rattle.std.specs.Prelude.{[], ◌++◌}
use Rattle.request_answer.specs.Gains.{Gains}

-- nothing was gained
abbrev pub no_gains : Gains
no_gains = record { times = []; transcripts = []; numbers = [] }

-- one after the other
abbrev pub both_gains : Gains → Gains → Gains
both_gains first second = record {
  times = first.times ++ second.times;
  transcripts = first.transcripts ++ second.transcripts;
  numbers = first.numbers ++ second.numbers;
}
