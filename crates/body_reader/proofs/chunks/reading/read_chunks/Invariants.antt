use Rattle.std.proofs.Common.{◌-◌, ◌<◌, ◌≤◌, length, take}
use Rattle.capture.specs.Body.{IsCutWire}
use Rattle.capture.specs.declared.framing.Framing.TheVariants.{Chunked}
use Rattle.body_reader.specs.steps.ChunkPlaces.{StandsAt, IsGoing}
use Rattle.body_reader.proofs.chunks.reading.read_chunks.Given as goal

abbrev pub invariant-steps : goal.invariant-steps
invariant-steps l = record {
  stands : StandsAt l.place (take l.at l.text);
  low : l.fn.from ≤ l.at;
  fits : l.at ≤ length l.text;
  soonest : (IsGoing l.place → ⊥) → l.fn.from < l.at → IsCutWire Chunked (take (l.at - 1) l.text);
}

abbrev pub decreases-steps : goal.decreases-steps
decreases-steps l = length l.text - l.at
