use Rattle.time_text.proofs.DateLaws.{front_is_digits, time_is_digits, warc_date_is_visible, short}
use Rattle.time_text.proofs.laws.texts_have_no_blanks.Goals as goal

pub returns-clause-digits : goal.returns-clause-digits
returns-clause-digits c = front_is_digits

pub returns-clause-time : goal.returns-clause-time
returns-clause-time c = time_is_digits

pub returns-clause-warc : goal.returns-clause-warc
returns-clause-warc c = warc_date_is_visible

pub returns-clause-short : goal.returns-clause-short
returns-clause-short c = short
