use Rattle.std.proofs.Common.{◌≡◌, ◌<◌, ◌+◌, ◌-◌, [], length, get_or, sym, ap, arith}
use Rattle.std.proofs.lemmas.List.{append-nil, length-drop}
use Rattle.volume_scan.specs.Scannings.{files_in}
use Rattle.volume_scan.specs.Unread.{unread}
use Rattle.volume_scan.proofs.Texts.{behind_is, texts_longer}
use Rattle.volume_scan.proofs.scanning.Scanning.skip.Goals as goal

pub returns-clause-read : goal.returns-clause-read
returns-clause-read g c told =
    let d = g.D.Disk in
    let old = c.args.self.now in
    let stands = c.requires.in_place.stands told in
    let extent = old.position.extent in
    let files = files_in d old in
    let some : 0 < extent.volumes = stands.lies.opened c.requires.opened in
    let k = extent.volumes - 1 in
    let at : k + 1 ≡ extent.volumes = omega (arith, some) in
    texts_longer extent files stands.lies.enough old.len (unread old.position files) [] some stands.lies.within
    (omega (arith, stands.last k at, stands.lies.within k at, ap length (behind_is extent files k at), length-drop extent.end (get_or files k [])))
    (sym (append-nil (unread old.position files)))
