-- Where the program meets its clients and its origins, and where it prints.
use Rattle.std.specs.Prelude.{ℕ, Bool, false, List, [], ◌∷◌, None, codes, if◌then◌else◌}
use Rattle.std.specs.Str.{bytes_eq}
use Rattle.command.specs.Base.{site_among}
use Rattle.command.specs.Words.{is_import, is_pipe}
use Rattle.real_outside.specs.declared.ends.Ends.{Ends}
use Rattle.real_outside.specs.declared.ends.Ends.TheVariants.{Network, Streams}

-- the first word is `serve`
abbrev pub is_server : List (List ℕ) → Bool
is_server [] = false
is_server (word ∷ words) = bytes_eq word (codes "serve")

-- At the standard streams for `pipe` and `import`, else by the network: a server's clients at its site.
abbrev pub ends_of : List (List ℕ) → Ends
ends_of words =
    if is_pipe words then Streams
    else (if is_import words then Streams
    else (if is_server words then Network (site_among words) else Network None))

-- whether it prints on standard error, by whether it was made to
abbrev pub prints_on_error : Bool → List (List ℕ) → Bool
prints_on_error made words = if is_import words then false else made
