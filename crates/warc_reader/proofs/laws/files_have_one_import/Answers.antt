use Rattle.warc_reader.proofs.OneImport.{one_import}
use Rattle.warc_reader.proofs.laws.files_have_one_import.Goals as goal

pub returns : goal.returns
returns c =
    one_import c.decisions_are_one.ensures.firsts c.ended_bodies_are_cut.ensures.needs_body c.heads_end_at_the_first_empty_line.ensures.responses
