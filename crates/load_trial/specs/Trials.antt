-- What the command `trial` prints.
use Rattle.std.specs.Prelude.{◌≡◌, ◌⊎◌, ℕ, List, [], ◌∷◌, length, sum_by}
use Rattle.archive_shelf.specs.Storing.{counts_of}
use Rattle.capture.specs.Captures.{captures}
use Rattle.capture.specs.declared.book.Book.{Book}
use Rattle.load_shelf.specs.Loads.{HavePayloads, HoldsFirst}
use Rattle.command.specs.Printing.{LacksMemory, Prints}
use Rattle.command.specs.Texts.{trial_text}
use Rattle.command.specs.declared.status.Status.{Status}
use Rattle.command.specs.declared.status.Status.TheVariants.{Done}
use Rattle.outside.specs.declared.sink.Sink.{Ghosts as Sinks}
use Rattle.warc_text.specs.Books.{AreVolumeTexts}

-- how many bytes a volume has, unless one capture alone has more
abbrev pub trial_volume : ℕ
trial_volume = 1000000

-- the namespace of the archive: 6ba7b810-9dad-11d1-80b4-00c04fd430c8
abbrev pub trial_namespace : List ℕ
trial_namespace =
    107 ∷ 167 ∷ 184 ∷ 16 ∷ 157 ∷ 173 ∷ 17 ∷ 209 ∷ 128 ∷ 180 ∷ 0 ∷ 192 ∷ 79 ∷ 212 ∷ 48 ∷ 200 ∷ []

-- The text tells of the book that took the first so many exchanges of a load, one after the other, each by the rule of storing, with volumes of 1,000,000 bytes
-- and the namespace 6ba7b810-9dad-11d1-80b4-00c04fd430c8: what it holds, how many bytes its volumes have, and that each capture has the payload of its exchange.
pub record IsTried (count seed : ℕ) (text : List ℕ) : Type 0 where
  pub book : Book
  pub holds : HoldsFirst trial_volume trial_namespace seed count book
  pub all : length (captures book) ≡ count
  pub payloads : HavePayloads seed count book
  pub volumes : List (List ℕ)
  pub volumes_are : AreVolumeTexts book volumes
  pub text_is : text ≡ trial_text (counts_of book) (sum_by (λ (volume : List ℕ). length volume) volumes) count

-- The trial's text was printed, or there was no memory.
abbrev pub Tries : {O : Type 0} → Sinks O → (count seed : ℕ) → O → O → Status → Type 0
Tries sinks count seed out_was out_is status =
    ((text : List ℕ) × IsTried count seed text × Prints sinks Done text out_was out_is status)
    ⊎ LacksMemory sinks out_was out_is status
