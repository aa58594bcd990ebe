-- What is done of a range that is written anew, cut and synced.
use Rattle.held_folder.specs.steps.SureLaws.{all_anew, mends_uncut, mends_unsynced, range_inside}
use Rattle.held_folder.proofs.mending.sync_anew.Goals as goal

pub set_len-requires : goal.set_len-requires
set_len-requires g c = λ told.
    range_inside (g.F.Folder.past c.args.folder.now) (g.F.Folder.past c.write_anew.new.folder) (g.F.Folder.name_of c.args.one.now.file) c.args.at c.args.len c.args.one.now.len
    (c.in_ok-write_anew.ensures.done told) (c.requires.end told)

pub returns-in-Err-clause-partial : goal.returns-in-Err-clause-partial
returns-in-Err-clause-partial g c = λ told.
    mends_uncut (g.F.Folder.past c.args.folder.now) (g.F.Folder.past c.write_anew.new.folder) (g.F.Folder.past c.set_len.new.self) (g.F.Folder.name_of c.args.one.now.file)
    c.args.at c.args.len c.args.one.now.len (c.in_ok-write_anew.ensures.done told) (c.requires.end told) (c.in-Err.ensures.partial told)

pub returns-in-Ok-sync_file-clause-done : goal.returns-in-Ok-sync_file-clause-done
returns-in-Ok-sync_file-clause-done g c = λ told.
    all_anew (g.F.Folder.past c.args.folder.now) (g.F.Folder.past c.write_anew.new.folder) (g.F.Folder.past c.set_len.new.self) (g.F.Folder.past c.sync_file.new.self) (g.F.Folder.name_of c.args.one.now.file)
    c.args.at c.args.len c.args.one.now.len (c.in_ok-write_anew.ensures.done told) (c.requires.end told) (c.in-Ok.ensures.cut told) (c.in-Ok-sync_file.ensures told)

pub returns-in-Err-sync_file-clause-partial : goal.returns-in-Err-sync_file-clause-partial
returns-in-Err-sync_file-clause-partial g c = λ told.
    mends_unsynced (g.F.Folder.past c.args.folder.now) (g.F.Folder.past c.write_anew.new.folder) (g.F.Folder.past c.set_len.new.self) (g.F.Folder.past c.sync_file.new.self) (g.F.Folder.name_of c.args.one.now.file)
    c.args.at c.args.len c.args.one.now.len (c.in_ok-write_anew.ensures.done told) (c.requires.end told) (c.in-Ok.ensures.cut told) (c.in-Err-sync_file.ensures told)
