use Rattle.warc_text.proofs.BookLaws as laws
use Rattle.warc_text.proofs.laws.files_stand_for_one_book.Goals as goal

pub returns-clause-one : goal.returns-clause-one
returns-clause-one c = laws.files_stand_for_one_book

pub returns-clause-no_volume : goal.returns-clause-no_volume
returns-clause-no_volume c = laws.files_stand_for_no_volume
