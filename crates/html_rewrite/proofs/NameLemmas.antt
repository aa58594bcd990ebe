-- A name that is longer than each row of a table has no row.
use Rattle.std.proofs.Common.{◌≡◌, ℕ, ◌+◌, ◌<◌, ◌≤◌, true, false, ◌||◌, nat_le, List, [], ◌∷◌, ◌++◌, length, codes, refl, ap, arith}
use Rattle.std.specs.Cmp.{first_so, second_so}
use Rattle.std.specs.Char.{to_ascii_lowercase}
use Rattle.std.specs.List.{list_all}
use Rattle.std.specs.Str.{str_eq_ignore_ascii_case, str_to_ascii_lowercase}
use Rattle.std.proofs.lemmas.Bool.{leb-true}
use Rattle.std.proofs.lemmas.List.{length-append, length-map}
use Rattle.std.proofs.lemmas.Slice.Eq.{bytes_eq-Decides}
use Rattle.name_table.specs.NameTable.{is_named}
use Rattle.html_rewrite.specs.Names.{is_link, link_attributes}

-- a text differs from a longer one
shorter_differs : (row name : List ℕ) → length row < length name → str_eq_ignore_ascii_case row name ≡ false
shorter_differs row name short =
    elim (str_eq_ignore_ascii_case row name) as (λ v. str_eq_ignore_ascii_case row name ≡ v → v ≡ false) [
      | true ↦ λ e.
          let same : str_to_ascii_lowercase row ≡ str_to_ascii_lowercase name = (bytes_eq-Decides (str_to_ascii_lowercase row) (str_to_ascii_lowercase name)).0 e in
          absurd (omega (arith, short, ap length same, length-map row to_ascii_lowercase, length-map name to_ascii_lowercase))
      | false ↦ λ e. refl
    ]
    refl

-- a table whose rows have so many bytes at most lacks a longer name
lacks_longer : (most : ℕ) (rows : List (List ℕ)) (name : List ℕ) → list_all (λ row. nat_le (length row) most) rows ≡ true → most < length name → is_named rows name ≡ false
unfolding is_named
lacks_longer most [] name within long = refl
lacks_longer most (row ∷ rows) name within long =
    let short : length row ≤ most = leb-true (length row) most (first_so _ _ within) in
    let first = shorter_differs row name (omega (arith, short, long)) in
    let others = lacks_longer most rows name (second_so _ _ within) long in
    λ i. first i || others i

rows_within : list_all (λ row. nat_le (length row) 15) link_attributes ≡ true
unfolding link_attributes
rows_within = refl

-- no attribute holds a link whose name and whose element's name are longer than each row
pub long_is_no_link : (element attribute : List ℕ) → 15 < length element + 1 + length attribute → is_link element attribute ≡ false
long_is_no_link element attribute long =
    lacks_longer 15 link_attributes (element ++ codes " " ++ attribute) rows_within (omega (arith, long, length-append (element ++ codes " ") attribute, length-append element (codes " ")))
