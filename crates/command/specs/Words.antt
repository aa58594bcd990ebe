-- The words of the command line.
use Rattle.std.specs.Prelude.{ℕ, ◌-◌, ◌^◌, Bool, false, ◌&&◌, nat_le, List, [], ◌∷◌, codes, decimal, map, Option, Some, None, option_and_then, option_map, if◌then◌else◌}
use Rattle.std.specs.Borrow.{Bor}
use Rattle.std.specs.Str.{bytes_eq}
use Rattle.std.specs.Str.Parse.{digits_value}
use Rattle.uuid.specs.Text.{parsed, hyphenated_text, lower}
use Rattle.command.specs.declared.words.Command.{Command}
use Rattle.command.specs.declared.words.Command.TheVariants.{Check, Follow, Import, Pipe, Serve, Trial, Verify}

-- the texts of words
abbrev pub texts : List (Bor (List ℕ)) → List (List ℕ)
texts words = map (λ word. word.now) words

-- the UUID that is written so in lower case with hyphens
abbrev pub namespace_of : List ℕ → Option (List ℕ)
namespace_of text = option_and_then (λ u. if bytes_eq (hyphenated_text lower u) text then Some u else None) (parsed text)

-- the number that is written so in decimal, without a sign or leading zeros, up to a greatest one
abbrev pub number_of : (most : ℕ) → List ℕ → Option ℕ
number_of most text =
    if bytes_eq (decimal (digits_value 10 text)) text && nat_le (digits_value 10 text) most then Some (digits_value 10 text) else None

-- the first word is `pipe`
abbrev pub is_pipe : List (List ℕ) → Bool
is_pipe [] = false
is_pipe (word ∷ words) = bytes_eq word (codes "pipe")

-- the first word is `import`
abbrev pub is_import : List (List ℕ) → Bool
is_import [] = false
is_import (word ∷ words) = bytes_eq word (codes "import")

-- what one word asks for
abbrev pub command_of_one : List ℕ → Option Command
command_of_one name = if bytes_eq name (codes "check") then Some Check else None

-- how many there are: one or more, up to a greatest number
abbrev pub count_of : (most : ℕ) → List ℕ → Option ℕ
count_of most text = option_and_then (λ n. if nat_le 1 n then Some n else None) (number_of most text)

-- what two words ask for
abbrev pub command_of_two : List ℕ → List ℕ → Option Command
command_of_two name second =
    if bytes_eq name (codes "pipe") then option_map (λ u. Pipe u) (namespace_of second)
    else (if bytes_eq name (codes "import") then option_map (λ u. Import u) (namespace_of second)
    else (if bytes_eq name (codes "verify") then option_map (λ n. Verify n) (count_of 16 second) else None))

-- what three words ask for; of `follow` the third one is looked at apart
abbrev pub command_of_three : (name first second : List ℕ) → Option Command
command_of_three name first second =
    if bytes_eq name (codes "follow") then option_map (λ u. Follow u) (namespace_of first)
    else (if bytes_eq name (codes "trial")
    then option_and_then (λ n. option_map (λ s. Trial n s) (number_of (2 ^ 64 - 1) second)) (count_of 20000 first)
    else None)

-- what four words ask for, of which the third one is looked at apart
abbrev pub command_of_four : (name namespace workers : List ℕ) → Option Command
command_of_four name namespace workers =
    if bytes_eq name (codes "serve")
    then option_and_then (λ u. option_map (λ n. Serve u n) (count_of 16 workers)) (namespace_of namespace)
    else None

-- What the words ask for: `check` alone, `pipe` or `import` and a namespace, `verify` and a number of workers, `trial`, a count and a number,
-- `follow`, a namespace and a base, or `serve`, a namespace, a base and a number of workers.
abbrev pub command_of : List (List ℕ) → Option Command
command_of [] = None
command_of (name ∷ []) = command_of_one name
command_of (name ∷ namespace ∷ []) = command_of_two name namespace
command_of (name ∷ count ∷ seed ∷ []) = command_of_three name count seed
command_of (name ∷ namespace ∷ base ∷ workers ∷ []) = command_of_four name namespace workers
command_of (name ∷ namespace ∷ base ∷ workers ∷ other ∷ words) = None

-- the namespace in which a command opens the archive, if it names one
abbrev pub asked_of : Command → Option (List ℕ)
asked_of Check = None
asked_of (Follow namespace) = Some namespace
asked_of (Import namespace) = Some namespace
asked_of (Pipe namespace) = Some namespace
asked_of (Serve namespace workers) = Some namespace
asked_of (Trial count seed) = None
asked_of (Verify workers) = None

-- how many workers a command has, if it says so
abbrev pub workers_of : Command → Option ℕ
workers_of Check = None
workers_of (Follow namespace) = None
workers_of (Import namespace) = None
workers_of (Pipe namespace) = None
workers_of (Serve namespace workers) = Some workers
workers_of (Trial count seed) = None
workers_of (Verify workers) = Some workers
