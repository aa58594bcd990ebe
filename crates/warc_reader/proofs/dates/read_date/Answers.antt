use Rattle.warc_reader.proofs.DateTextLaws.{no_date_without_fraction, no_date_without_second, split_whole, too_short}
use Rattle.warc_reader.proofs.dates.read_date.Goals as goal

pub returns-then-text-lt-SECOND_LEN-clause-none : goal.returns-then-text-lt-SECOND_LEN-clause-none
returns-then-text-lt-SECOND_LEN-clause-none c = too_short c.args.text.now c.if-text-lt-SECOND_LEN.true

pub returns-in-None-fraction_digits-clause-none : goal.returns-in-None-fraction_digits-clause-none
returns-in-None-fraction_digits-clause-none c =
    no_date_without_fraction c.args.text.now c.split_at.result.0.now c.split_at.result.1.now
    (split_whole c.args.text.now c.split_at.result.0.now c.split_at.result.1.now 19 c.split_at.ensures.front c.split_at.ensures.back)
    c.split_at.ensures.front_len c.in-None-fraction_digits.ensures.none

pub returns-in-None-clause-none : goal.returns-in-None-clause-none
returns-in-None-clause-none c =
    no_date_without_second c.args.text.now c.split_at.result.0.now c.split_at.result.1.now
    (split_whole c.args.text.now c.split_at.result.0.now c.split_at.result.1.now 19 c.split_at.ensures.front c.split_at.ensures.back)
    c.split_at.ensures.front_len c.in-None.ensures.none
