use Rattle.time_text.proofs.Earliest.{time_digits_injective}
use Rattle.time_text.proofs.DateLaws.{warc_date_injective}
use Rattle.time_text.proofs.laws.dates_are_told_by_their_texts.Goals as goal

pub returns-clause-digits : goal.returns-clause-digits
returns-clause-digits c = time_digits_injective

pub returns-clause-warc : goal.returns-clause-warc
returns-clause-warc c = warc_date_injective
