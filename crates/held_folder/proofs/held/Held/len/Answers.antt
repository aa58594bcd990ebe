-- Nothing is changed.
use Rattle.std.proofs.Common.{◌≡◌, sym, subst}
use Rattle.folder_model.specs.Folder.{FolderPast}
use Rattle.held_folder.specs.Calls.{Looks}
use Rattle.held_folder.specs.Held.{state_of}
use Rattle.held_folder.specs.State.{State}
use Rattle.folder_files.specs.steps.OpenLaws.{remembered, kept_after}
use Rattle.held_folder.specs.steps.StateLaws.{looked, bytes_read}
use Rattle.held_folder.proofs.held.Held.len.Goals as goal

pub returns-in_err-one-clause-looks : goal.returns-in_err-one-clause-looks
returns-in_err-one-clause-looks g c =
    let tells = g.F.Folder.tells in
    let name = g.N.FileNames.name in
    let name_of = g.F.Folder.name_of in
    let past_of = g.F.Folder.past in
    let old : State = state_of past_of c.args.self.now in
    let rest = c.to_read.ensures.rest in
    let past : FolderPast = past_of c.to_read.new.self.timed.folder in
    let went : state_of past_of c.to_read.new.self ≡ record old { past = past } = λ i. record (state_of past_of (rest i)) { past = past } in
    subst (λ (s : State). Looks tells name old s) (sym went) (looked tells name old past c.to_read.ensures.same c.requires.known)

pub returns-clause-length : goal.returns-clause-length
returns-clause-length g c = λ told.
    let tells = g.F.Folder.tells in
    let name = g.N.FileNames.name in
    let name_of = g.F.Folder.name_of in
    let past_of = g.F.Folder.past in
    let old : State = state_of past_of c.args.self.now in
    let rest = c.to_read.ensures.rest in
    let past : FolderPast = past_of c.to_read.new.self.timed.folder in
    let went : state_of past_of c.to_read.new.self ≡ record old { past = past } = λ i. record (state_of past_of (rest i)) { past = past } in
    remembered name name_of past old.past _ c.args.kind c.args.file c.in_ok-one.one c.in_ok-one.ensures.this.0 c.in_ok-one.ensures.this.1 (c.to_read.ensures.same told)
    (bytes_read name old c.args.kind c.args.file (c.requires.known told) (c.requires.there told)) (c.in_ok-one.ensures.open told)

pub returns-clause-looks : goal.returns-clause-looks
returns-clause-looks g c =
    let tells = g.F.Folder.tells in
    let name = g.N.FileNames.name in
    let name_of = g.F.Folder.name_of in
    let past_of = g.F.Folder.past in
    let old : State = state_of past_of c.args.self.now in
    let rest = c.to_read.ensures.rest in
    let past : FolderPast = past_of c.to_read.new.self.timed.folder in
    let went : state_of past_of c.to_read.new.self ≡ record old { past = past } = λ i. record (state_of past_of (rest i)) { past = past } in
    subst (λ (s : State). Looks tells name old s) (sym went) (looked tells name old past c.to_read.ensures.same c.requires.known)

pub returns-clause-open : goal.returns-clause-open
returns-clause-open g c = λ told.
    let tells = g.F.Folder.tells in
    let name = g.N.FileNames.name in
    let name_of = g.F.Folder.name_of in
    let past_of = g.F.Folder.past in
    let old : State = state_of past_of c.args.self.now in
    let rest = c.to_read.ensures.rest in
    let past : FolderPast = past_of c.to_read.new.self.timed.folder in
    let went : state_of past_of c.to_read.new.self ≡ record old { past = past } = λ i. record (state_of past_of (rest i)) { past = past } in
    kept_after name name_of past c.to_read.new.self.files c.keep.new.self c.in_ok-one.one c.keep.ensures (c.to_read.ensures.others told) (c.in_ok-one.ensures.open told)
