use Rattle.std.proofs.Common.{sym, subst}
use Rattle.time_text.specs.Texts.{InRange}
use Rattle.volume_lines.proofs.LineLaws.{asked_of}
use Rattle.volume_lines.proofs.line.entry_of.Goals as goal

pub told_entry-requires-clause-date : goal.told_entry-requires-clause-date
told_entry-requires-clause-date c =
    let told = c.requires.3 in
    subst InRange (sym told.told.date_is) told.is.date

pub told_entry-requires-clause-parsed : goal.told_entry-requires-clause-parsed
told_entry-requires-clause-parsed c =
    let told = c.requires.3 in
    (told.group.stored.head, told.told.head_is.0, told.told.head_is.1)

pub returns : goal.returns
returns c = λ namespace number bytes group is of.
    let asked = asked_of namespace number bytes group is c.args.outline.now of _ c.as_slice.ensures.value c.is_some.result c.is_some.ensures in
    c.told_entry.ensures group.stored group.stored.head of.head_is.0 asked of.head_is.1
