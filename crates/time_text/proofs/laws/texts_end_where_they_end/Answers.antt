use Rattle.time_text.proofs.DateLaws.{warc_date_front, time_digits_front}
use Rattle.time_text.proofs.laws.texts_end_where_they_end.Goals as goal

pub returns-clause-warc : goal.returns-clause-warc
returns-clause-warc c = warc_date_front

pub returns-clause-digits : goal.returns-clause-digits
returns-clause-digits c = time_digits_front
