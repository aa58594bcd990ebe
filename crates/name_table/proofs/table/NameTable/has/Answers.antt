use Rattle.std.proofs.Common.{rules, ◌∙◌, ap}
use Rattle.std.specs.Cmp.Lexicographic.{slice_cmp}
use Rattle.std.specs.Ordering.{nat_cmp}
use Rattle.std.specs.Str.{str_to_ascii_lowercase}
use Rattle.std.proofs.lemmas.Fn.{always_returns_same}
use Rattle.name_table.specs.NameTable.{is_named}
use Rattle.name_table.proofs.Search.{search_is_named}
use Rattle.name_table.proofs.table.NameTable.has.Goals as goal

-- the closure compares a row with the name in lower case
pub returns : goal.returns
returns g c =
    let facts = c.binary_search_by.ensures in
    let compares = facts.position (λ row. slice_cmp nat_cmp (g.T.AsStr.text row) (str_to_ascii_lowercase c.args.name.now)) (always_returns_same _ _ _ (λ row o f called. search rules)) in
    c.is_ok.ensures.value ∙ search_is_named g.T.AsStr.text _ _ _ c.self.invariant facts.bound compares ∙ ap (λ rows. is_named rows c.args.name.now) c.self.view_is
