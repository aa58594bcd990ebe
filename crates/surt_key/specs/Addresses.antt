-- The URL that an address asks for, which may leave its scheme out.
use Rattle.std.specs.Prelude.{ℕ, Bool, ◌||◌, List, ◌++◌, codes, take, if◌then◌else◌}
use Rattle.std.specs.Str.{str_eq_ignore_ascii_case}

-- the URL has a scheme of the web, in whatever case
abbrev pub has_scheme : List ℕ → Bool
has_scheme text =
    str_eq_ignore_ascii_case (take 7 text) (codes "http://") || str_eq_ignore_ascii_case (take 8 text) (codes "https://")

-- the URL, with a scheme
abbrev pub url_of : List ℕ → List ℕ
url_of text = if has_scheme text then text else codes "http://" ++ text
