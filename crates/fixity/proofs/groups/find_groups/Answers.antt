use Rattle.fixity.proofs.groups.find_groups.Goals as goal

pub go_through-requires-clause-fit : goal.go_through-requires-clause-fit
go_through-requires-clause-fit g c κs within = c.in_ok-table.ensures.fit c.args.due.len
