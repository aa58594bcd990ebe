-- The file is made clean, and the text is put there.
use Rattle.std.proofs.Common.{inr}
use Rattle.gated_file.specs.Files.{KeepsFront}
use Rattle.gated_file.proofs.Appending.{append_adds, append_ended, append_only, append_reading, append_refused, ended_mid, length_mid}
use Rattle.gated_file.proofs.Mending.{stays_within}
use Rattle.gated_file.proofs.Putting.{front_stays_twice}
use Rattle.gated_file.proofs.Results.{on_err}
use Rattle.gated_file.proofs.RewriteLaws.{on_file_there}
use Rattle.gated_file.proofs.file.GatedFile.append.Goals as goal

pub put-requires-clause-there : goal.put-requires-clause-there
put-requires-clause-there g c told =
    let gated = c.args.self.now in
    on_file_there gated.kind gated.file (KeepsFront gated.end) (g.D.Disk.reading c.args.disk.now) (g.D.Disk.reading c.clean.new.disk) (c.requires.there told) (c.clean.ensures.stays told)

pub put-requires-clause-in_range : goal.put-requires-clause-in_range
put-requires-clause-in_range g c told =
    stays_within c.args.self.now (g.D.Disk.reading c.args.disk.now) (g.D.Disk.reading c.clean.new.disk) (c.requires.there told) (c.requires.in_range told) (c.clean.ensures.stays told)

pub returns-in_err-put-clause-stays : goal.returns-in_err-put-clause-stays
returns-in_err-put-clause-stays g c told =
    let d = g.D.Disk in
    let gated = c.args.self.now in
    let first = c.args.disk.now in
    let mid = c.clean.new.disk in
    let new = c.put.new.disk in
    front_stays_twice gated (d.reading first) (d.reading mid) (d.reading new) (c.requires.there told) (c.clean.ensures.stays told) (c.put.ensures.stays told)

pub returns-in_err-put-clause-leaves : goal.returns-in_err-put-clause-leaves
returns-in_err-put-clause-leaves g c told known =
    let d = g.D.Disk in
    let m = g.met.D.Disk in
    let gated = c.args.self.now in
    let more = c.args.text.now in
    let first = c.args.disk.now in
    let mid = c.clean.new.disk in
    let new = c.put.new.disk in
    append_adds d.moment d.images_since d.images d.reading m.now_counts m.now_only gated more first mid (c.requires.there told) (c.requires.in_range told) (c.in_ok-clean.ensures.mended told known) (c.in_ok-clean.ensures.only told known) (c.clean.ensures.leaves told) new
    (c.put.ensures.leaves told (ended_mid d.moment d.images_since d.images d.reading m.now_counts m.now_only gated more first mid (c.requires.there told) (c.requires.in_range told) (c.in_ok-clean.ensures.mended told known) (c.in_ok-clean.ensures.only told known) (c.clean.ensures.leaves told)))

pub returns-clause-stays : goal.returns-clause-stays
returns-clause-stays g c told =
    let d = g.D.Disk in
    let gated = c.args.self.now in
    let first = c.args.disk.now in
    let mid = c.clean.new.disk in
    let new = c.put.new.disk in
    front_stays_twice gated (d.reading first) (d.reading mid) (d.reading new) (c.requires.there told) (c.clean.ensures.stays told) (c.put.ensures.stays told)

pub returns-clause-leaves : goal.returns-clause-leaves
returns-clause-leaves g c told known =
    let d = g.D.Disk in
    let m = g.met.D.Disk in
    let gated = c.args.self.now in
    let more = c.args.text.now in
    let first = c.args.disk.now in
    let mid = c.clean.new.disk in
    let new = c.put.new.disk in
    append_adds d.moment d.images_since d.images d.reading m.now_counts m.now_only gated more first mid (c.requires.there told) (c.requires.in_range told) (c.in_ok-clean.ensures.mended told known) (c.in_ok-clean.ensures.only told known) (c.clean.ensures.leaves told) new
    (c.put.ensures.leaves told (ended_mid d.moment d.images_since d.images d.reading m.now_counts m.now_only gated more first mid (c.requires.there told) (c.requires.in_range told) (c.in_ok-clean.ensures.mended told known) (c.in_ok-clean.ensures.only told known) (c.clean.ensures.leaves told)))

pub returns-in_err-put-clause-refused : goal.returns-in_err-put-clause-refused
returns-in_err-put-clause-refused g c told known =
    let d = g.D.Disk in
    let m = g.met.D.Disk in
    let gated = c.args.self.now in
    let more = c.args.text.now in
    let first = c.args.disk.now in
    let mid = c.clean.new.disk in
    let new = c.put.new.disk in
    on_err _ c.from_residual-in_err-put.result (inr (append_refused d.moment d.images_since d.images d.reading m.now_counts m.now_only gated more first mid (c.requires.there told) (c.requires.in_range told) (c.in_ok-clean.ensures.mended told known) (c.in_ok-clean.ensures.only told known) (c.clean.ensures.leaves told) new
    (c.put.ensures.leaves told (ended_mid d.moment d.images_since d.images d.reading m.now_counts m.now_only gated more first mid (c.requires.there told) (c.requires.in_range told) (c.in_ok-clean.ensures.mended told known) (c.in_ok-clean.ensures.only told known) (c.clean.ensures.leaves told)))))

pub returns-clause-added : goal.returns-clause-added
returns-clause-added g c told known =
    let d = g.D.Disk in
    let m = g.met.D.Disk in
    let gated = c.args.self.now in
    let more = c.args.text.now in
    let first = c.args.disk.now in
    let mid = c.clean.new.disk in
    let new = c.put.new.disk in
    append_reading d.moment d.images_since d.images d.reading m.now_counts m.now_only gated more first mid (c.requires.there told) (c.requires.in_range told) (c.in_ok-clean.ensures.mended told known) (c.in_ok-clean.ensures.only told known) (c.clean.ensures.leaves told) new
    (c.in_ok-put.ensures.added told (length_mid d.moment d.images_since d.images d.reading m.now_counts m.now_only gated more first mid (c.requires.there told) (c.requires.in_range told) (c.in_ok-clean.ensures.mended told known) (c.in_ok-clean.ensures.only told known) (c.clean.ensures.leaves told)))

pub returns-clause-only : goal.returns-clause-only
returns-clause-only g c told known =
    let d = g.D.Disk in
    let m = g.met.D.Disk in
    let gated = c.args.self.now in
    let more = c.args.text.now in
    let first = c.args.disk.now in
    let mid = c.clean.new.disk in
    let new = c.put.new.disk in
    append_only d.moment d.images_since d.images d.reading m.now_counts m.now_only gated more first mid (c.requires.there told) (c.requires.in_range told) (c.in_ok-clean.ensures.mended told known) (c.in_ok-clean.ensures.only told known) (c.clean.ensures.leaves told) new
    (c.in_ok-put.ensures.only told (ended_mid d.moment d.images_since d.images d.reading m.now_counts m.now_only gated more first mid (c.requires.there told) (c.requires.in_range told) (c.in_ok-clean.ensures.mended told known) (c.in_ok-clean.ensures.only told known) (c.clean.ensures.leaves told)))

pub returns-clause-known : goal.returns-clause-known
returns-clause-known g c told known clean =
    let d = g.D.Disk in
    let m = g.met.D.Disk in
    let gated = c.args.self.now in
    let more = c.args.text.now in
    let first = c.args.disk.now in
    let mid = c.clean.new.disk in
    let new = c.put.new.disk in
    append_ended d.moment d.images_since d.images d.reading m.now_counts m.now_only gated more first mid (c.requires.there told) (c.requires.in_range told) (c.in_ok-clean.ensures.mended told known) (c.in_ok-clean.ensures.only told known) (c.clean.ensures.leaves told) new
    (append_reading d.moment d.images_since d.images d.reading m.now_counts m.now_only gated more first mid (c.requires.there told) (c.requires.in_range told) (c.in_ok-clean.ensures.mended told known) (c.in_ok-clean.ensures.only told known) (c.clean.ensures.leaves told) new
    (c.in_ok-put.ensures.added told (length_mid d.moment d.images_since d.images d.reading m.now_counts m.now_only gated more first mid (c.requires.there told) (c.requires.in_range told) (c.in_ok-clean.ensures.mended told known) (c.in_ok-clean.ensures.only told known) (c.clean.ensures.leaves told))))
    (append_only d.moment d.images_since d.images d.reading m.now_counts m.now_only gated more first mid (c.requires.there told) (c.requires.in_range told) (c.in_ok-clean.ensures.mended told known) (c.in_ok-clean.ensures.only told known) (c.clean.ensures.leaves told) new
    (c.in_ok-put.ensures.only told (ended_mid d.moment d.images_since d.images d.reading m.now_counts m.now_only gated more first mid (c.requires.there told) (c.requires.in_range told) (c.in_ok-clean.ensures.mended told known) (c.in_ok-clean.ensures.only told known) (c.clean.ensures.leaves told))))
