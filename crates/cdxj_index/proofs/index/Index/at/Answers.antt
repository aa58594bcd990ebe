use Rattle.std.proofs.Common.{Some, ap, ◌∙◌}
use Rattle.std.specs.Prelude.{option_copied, option_map}
use Rattle.cdxj_index.specs.Maps.{entries_of, entry_of}
use Rattle.index_entry.specs.Queries.{with_number}
use Rattle.cdxj_index.proofs.Numbers.{numbered-is}
use Rattle.cdxj_index.proofs.index.Index.at.Goals as goal

pub returns-in_err-entry : goal.returns-in_err-entry
returns-in_err-entry c =
    ap option_copied c.from_residual.ensures ∙ ap (option_map entry_of) c.in_err-entry.ensures.value
    ∙ numbered-is (entries_of c.self.inside.map.keys) c.self.inside.numbers c.args.number c.self.invariant.of_numbers ∙ ap (with_number c.args.number) c.self.view_is

pub returns : goal.returns
returns c =
    ap Some c.facts.ensures ∙ ap (option_map entry_of) c.in_ok-entry.ensures.value
    ∙ numbered-is (entries_of c.self.inside.map.keys) c.self.inside.numbers c.args.number c.self.invariant.of_numbers ∙ ap (with_number c.args.number) c.self.view_is
