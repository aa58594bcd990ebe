use Rattle.std.proofs.Common.{Some, ap, ◌∙◌}
use Rattle.std.specs.Prelude.{option_map}
use Rattle.cdxj_index.specs.Maps.{entries_of, entry_of}
use Rattle.index_entry.specs.Queries.{with_number}
use Rattle.cdxj_index.proofs.Numbers.{numbered-is}
use Rattle.cdxj_index.proofs.index.Index.shared.Goals as goal

pub returns-in_ok-shared-in-Some : goal.returns-in_ok-shared-in-Some
returns-in_ok-shared-in-Some c =
    ap Some c.in_ok-shared-in-Some.ensures ∙ ap (option_map entry_of) c.in-Some.ensures.value
    ∙ numbered-is (entries_of c.self.inside.map.keys) c.self.inside.numbers c.args.number c.self.invariant.of_numbers ∙ ap (with_number c.args.number) c.self.view_is

pub returns-in-None : goal.returns-in-None
returns-in-None c =
    ap (option_map entry_of) c.in-None.ensures.value
    ∙ numbered-is (entries_of c.self.inside.map.keys) c.self.inside.numbers c.args.number c.self.invariant.of_numbers ∙ ap (with_number c.args.number) c.self.view_is
