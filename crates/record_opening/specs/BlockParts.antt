-- A block and what stands behind it, or why none is read.
use Rattle.std.specs.Prelude.{◌≡◌, ℕ, ◌<◌, ◌^◌, List, ◌++◌, length, ⊤}
use Rattle.warc_text.specs.Lines.{ended, length_lines}
use Rattle.record_opening.specs.OpenValues.{EndsInside}
use Rattle.record_opening.specs.Stops.{Refuses}
use Rattle.record_opening.specs.declared.block.Block.{Block}
use Rattle.record_opening.specs.declared.stop.Stop.{Stop}
use Rattle.record_opening.specs.declared.stop.Stop.TheVariants.{Open, Until, Wrong, Memory}
use Rattle.record_opening.specs.Blocks.{IsWord, EndsInsideBlock}

-- behind the opening the bytes go on with the block, its length before it
pub record HasBlock (opening bytes : List ℕ) (block : Block) : Type 0 where
  pub composed : bytes ≡ opening ++ ended block.block.now ++ block.rest.now
  pub short : length (opening ++ ended block.block.now) < 2 ^ 63

-- no block follows the opening, or one that goes on
abbrev pub RefusesBlock : Stop → List ℕ → List ℕ → Type 0
RefusesBlock stop opening bytes =
    (block : List ℕ) → length (opening ++ ended block) < 2 ^ 63 → Refuses stop bytes (opening ++ ended block)

-- why more is asked for: the bytes end inside the length of some block, or inside the block
abbrev pub AsksForBlock : List ℕ → List ℕ → Stop → Type 0
AsksForBlock opening bytes Open =
    (len : ℕ) × (come : List ℕ) × IsWord len × (bytes ≡ opening ++ come) × EndsInside (length_lines len) come
AsksForBlock opening bytes (Until n) = EndsInsideBlock opening bytes n
AsksForBlock opening bytes Wrong = ⊤
AsksForBlock opening bytes Memory = ⊤
