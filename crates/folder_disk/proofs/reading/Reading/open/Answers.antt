-- What was counted is there, and no file is open.
use Rattle.folder_disk.specs.steps.ReaderLaws.{is_read_in}
use Rattle.folder_disk.proofs.reading.Reading.open.Goals as goal

pub returns-clause-front : goal.returns-clause-front
returns-clause-front g c = λ told.
    is_read_in g.N.FileNames.name (g.F.Folder.past c.count_to_read.new.folder) c.in_ok-counts.counts.warc c.in_ok-counts.counts.cdxj
    c.in_ok-counts.ensures.few (c.in_ok-counts.ensures.warc told) (c.in_ok-counts.ensures.cdxj told) (c.in_ok-counts.ensures.no_more told)
