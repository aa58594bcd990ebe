-- The labels of a domain, as a key has them.
use Rattle.std.specs.Prelude.{ℕ, ◌-◌, Bool, ◌&&◌, ◌==◌, nat_lt, List, [], codes, bytes_eq, take, drop, reverse, length, slice_index, slice_index_or, if◌then◌else◌}
use Rattle.std.specs.List.{slice_split}
use Rattle.url.specs.Ascii.{dot}

-- the domain without one final dot
abbrev pub without_final_dot : List ℕ → List ℕ
without_final_dot domain =
    if slice_index domain (length domain - 1) == dot then take (length domain - 1) domain else domain

-- the first label is `www`, and two or more follow it
abbrev pub begins_with_www : List (List ℕ) → Bool
begins_with_www labels = nat_lt 2 (length labels) && bytes_eq (slice_index_or labels 0 []) (codes "www")

-- the labels without that one
abbrev pub without_www : List (List ℕ) → List (List ℕ)
without_www labels = if begins_with_www labels then drop 1 labels else labels

-- the labels of a domain, the last one first
abbrev pub reversed_labels : List ℕ → List (List ℕ)
reversed_labels domain = reverse (without_www (slice_split (λ b. b == dot) (without_final_dot domain)))
