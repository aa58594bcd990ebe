use Rattle.checkpoint.proofs.VolumeLaws.{one_list_of_lines, sealed_lines_stay}
use Rattle.checkpoint.proofs.laws.volumes_have_one_list_of_lines.Goals as goal

pub returns-clause-one : goal.returns-clause-one
returns-clause-one c = one_list_of_lines c.numbers_have_one_group.ensures

pub returns-clause-stay : goal.returns-clause-stay
returns-clause-stay c = sealed_lines_stay c.growth_keeps_captures.ensures.keeps
