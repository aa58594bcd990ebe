use Rattle.warc_text.proofs.OneTextLaws.{volumes_have_one_text}
use Rattle.volume_scan.proofs.GoingOn.{books_go_on_with_groups, books_go_on_with_infos}
use Rattle.volume_scan.proofs.laws.books_go_on_with_what_is_found.Goals as goal

pub returns-clause-infos : goal.returns-clause-infos
returns-clause-infos c = books_go_on_with_infos volumes_have_one_text

pub returns-clause-groups : goal.returns-clause-groups
returns-clause-groups c = books_go_on_with_groups volumes_have_one_text
