use Rattle.std.proofs.Common.{refl, sym}
use Rattle.std.proofs.lemmas.Bool.{false≢true}
use Rattle.time_text.proofs.WarcLemmas.{length-warc_date_whole, length-warc_date_fraction}
use Rattle.time_text.proofs.warc.warc_len.Goals as goal

pub returns-then-is_multiple_of : goal.returns-then-is_multiple_of
returns-then-is_multiple_of c = sym (length-warc_date_whole c.args.date (c.if-is_multiple_of.ensures.0 refl))

pub returns-else-is_multiple_of : goal.returns-else-is_multiple_of
returns-else-is_multiple_of c = sym (length-warc_date_fraction c.args.date (λ whole. false≢true (c.if-is_multiple_of.ensures.1 whole)))
