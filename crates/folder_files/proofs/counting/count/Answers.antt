-- Each file is there, and none beyond.
use Rattle.folder_files.specs.steps.CountLaws.{counted_after}
use Rattle.folder_files.proofs.counting.count.Goals as goal

pub returns-clause-counts : goal.returns-clause-counts
returns-clause-counts g c = λ told unfailed.
    let past = g.F.Folder.past in
    counted_after g.N.FileNames.name (past c.args.folder.now) (past c.listed.new.folder) (past c.check_there.new.folder) (past c.check_there-2.new.folder)
    c.in_ok-counts.counts.warc c.in_ok-counts.counts.cdxj c.in_ok-counts.ensures.warc c.in_ok-counts.ensures.cdxj unfailed
    (c.listed.ensures.past told) (c.check_there.ensures.past told) (c.check_there-2.ensures.past told)
    (c.in_ok-counts.ensures.no_more told) (c.in_ok-check_there.ensures.there told) (c.in_ok-check_there-2.ensures.there told)
