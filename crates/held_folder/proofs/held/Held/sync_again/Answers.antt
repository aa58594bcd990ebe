-- The range was written anew and the file synced, or some of that, or nothing was done.
use Rattle.std.proofs.Common.{◌≡◌, ◌≤◌, ℕ, length, Err, IsTrue, true, List, sym, ap, ◌∙◌, subst}
use Rattle.std.specs.declared.io.Error.{Error}
use Rattle.folder_model.specs.File.{Synced}
use Rattle.folder_model.specs.Folder.{FolderPast, did_to, bytes_of}
use Rattle.folder_model.specs.Times.{goes_on}
use Rattle.folder_model.specs.Timed.{times_of}
use Rattle.held_folder.specs.Calls.{Syncs}
use Rattle.held_folder.specs.Doubts.{SyncedTo}
use Rattle.held_folder.specs.Held.{state_of}
use Rattle.held_folder.specs.Mending.{written_anew}
use Rattle.folder_model.specs.Ranges.{MendsIn}
use Rattle.folder_files.specs.OpenFiles.{AreOpen, IsOpen}
use Rattle.held_folder.specs.State.{State, next, trusted}
use Rattle.held_folder.specs.declared.trust.Trust.{Trust}
use Rattle.folder_files.specs.steps.OpenLaws.{open_named, all_same, one_same, none_open, open_len}
use Rattle.held_folder.specs.steps.StateLaws.{sync_not_begun, sync_answered, sync_behind, at_error}
use Rattle.held_folder.specs.steps.SureLaws.{is_torn, torn_inside, anew_done, anew_missed, anew_same}
use Rattle.held_folder.proofs.held.Held.sync_again.Goals as goal

pub returns-in_err-one-clause-syncs : goal.returns-in_err-one-clause-syncs
returns-in_err-one-clause-syncs g c =
    let tells = g.F.Folder.tells in
    let name = g.N.FileNames.name in
    let past_of = g.F.Folder.past in
    let old : State = state_of past_of c.args.self.now in
    let all = c.to_write.ensures.all in
    let now : State = state_of past_of c.to_write.new.self in
    let same : IsTrue tells → now ≡ old =
    λ told. (λ i. state_of past_of (all i)) ∙ (λ i. record old { past = c.to_write.ensures.same told i; trust = c.to_write.ensures.trusted told i }) in
    at_error (λ r. Syncs {E = Error} tells name c.args.kind c.args.file old now r)
    c.from_residual.result c.from_residual.ensures.0
    (λ e. sync_not_begun {E = Error} tells name c.args.kind c.args.file old now e same (λ i. times_of (all i).timed) c.requires.known)

pub sync_anew-requires-clause-inside : goal.sync_anew-requires-clause-inside
sync_anew-requires-clause-inside g c = λ told.
    let tells = g.F.Folder.tells in
    let name = g.N.FileNames.name in
    let name_of = g.F.Folder.name_of in
    let past_of = g.F.Folder.past in
    let old : State = state_of past_of c.args.self.now in
    let rest = c.in_ok-one.ensures.rest in
    let before : FolderPast = past_of c.to_write.new.self.timed.folder in
    let is = c.in_ok-one.ensures.this in
    let named : (told : IsTrue tells) → name_of c.in_ok-one.one.file ≡ name c.args.kind c.args.file =
    λ told. open_named name name_of c.args.kind c.args.file c.in_ok-one.one is.0 is.1 before (c.in_ok-one.ensures.open told) in
    subst (λ (n : List ℕ). c.args.at ≤ length (bytes_of before n)) (sym (named told))
    (subst (λ (p : FolderPast). c.args.at ≤ length (bytes_of p (name c.args.kind c.args.file))) (sym (c.to_write.ensures.same told))
    (torn_inside old.past (name c.args.kind c.args.file) c.args.at c.args.len
    (is_torn tells name g.met.N.FileNames.apart c.args.kind c.args.file c.ranges.file.fits old old.past c.requires.known c.requires.ours c.requires.going c.args.at c.args.len c.requires.doubt told)))

pub sync_anew-requires-clause-end : goal.sync_anew-requires-clause-end
sync_anew-requires-clause-end g c = λ told.
    let tells = g.F.Folder.tells in
    let name = g.N.FileNames.name in
    let name_of = g.F.Folder.name_of in
    let past_of = g.F.Folder.past in
    let old : State = state_of past_of c.args.self.now in
    let rest = c.in_ok-one.ensures.rest in
    let before : FolderPast = past_of c.to_write.new.self.timed.folder in
    let is = c.in_ok-one.ensures.this in
    let named : (told : IsTrue tells) → name_of c.in_ok-one.one.file ≡ name c.args.kind c.args.file =
    λ told. open_named name name_of c.args.kind c.args.file c.in_ok-one.one is.0 is.1 before (c.in_ok-one.ensures.open told) in
    open_len name name_of c.args.kind c.args.file c.in_ok-one.one is.0 is.1 before (c.in_ok-one.ensures.open told)
    ∙ ap (λ (n : List ℕ). length (bytes_of before n)) (sym (named told))

pub keep_at_name-requires-clause-others : goal.keep_at_name-requires-clause-others
keep_at_name-requires-clause-others g c = λ told.
    let tells = g.F.Folder.tells in
    let name = g.N.FileNames.name in
    let name_of = g.F.Folder.name_of in
    let past_of = g.F.Folder.past in
    let old : State = state_of past_of c.args.self.now in
    let rest = c.in_ok-one.ensures.rest in
    let before : FolderPast = past_of c.to_write.new.self.timed.folder in
    let past : FolderPast = past_of c.sync_anew.new.folder in
    let is = c.in_ok-one.ensures.this in
    let named : (told : IsTrue tells) → name_of c.in_ok-one.one.file ≡ name c.args.kind c.args.file =
    λ told. open_named name name_of c.args.kind c.args.file c.in_ok-one.one is.0 is.1 before (c.in_ok-one.ensures.open told) in
    subst (λ (p : FolderPast). AreOpen name name_of p c.to_write.new.self.files) (λ i. past_of (sym c.go_on.ensures.folder i))
    (all_same name name_of before past c.to_write.new.self.files
    (anew_same before past (name_of c.in_ok-one.one.file) c.args.at c.args.len (c.in-Ok.ensures.done told)) (c.to_write.ensures.others told))

pub keep_at_name-requires-clause-open : goal.keep_at_name-requires-clause-open
keep_at_name-requires-clause-open g c = λ told.
    let tells = g.F.Folder.tells in
    let name = g.N.FileNames.name in
    let name_of = g.F.Folder.name_of in
    let past_of = g.F.Folder.past in
    let old : State = state_of past_of c.args.self.now in
    let rest = c.in_ok-one.ensures.rest in
    let before : FolderPast = past_of c.to_write.new.self.timed.folder in
    let past : FolderPast = past_of c.sync_anew.new.folder in
    let is = c.in_ok-one.ensures.this in
    let named : (told : IsTrue tells) → name_of c.in_ok-one.one.file ≡ name c.args.kind c.args.file =
    λ told. open_named name name_of c.args.kind c.args.file c.in_ok-one.one is.0 is.1 before (c.in_ok-one.ensures.open told) in
    subst (λ (p : FolderPast). IsOpen name name_of p c.in_ok-one.one) (λ i. past_of (sym c.go_on.ensures.folder i))
    (one_same name name_of before past c.in_ok-one.one
    (anew_same before past (name_of c.in_ok-one.one.file) c.args.at c.args.len (c.in-Ok.ensures.done told)) (c.in_ok-one.ensures.open told))

pub returns-in-Ok-clause-syncs : goal.returns-in-Ok-clause-syncs
returns-in-Ok-clause-syncs g c =
    let tells = g.F.Folder.tells in
    let name = g.N.FileNames.name in
    let name_of = g.F.Folder.name_of in
    let past_of = g.F.Folder.past in
    let old : State = state_of past_of c.args.self.now in
    let rest = c.in_ok-one.ensures.rest in
    let before : FolderPast = past_of c.to_write.new.self.timed.folder in
    let past : FolderPast = past_of c.sync_anew.new.folder in
    let is = c.in_ok-one.ensures.this in
    let named : (told : IsTrue tells) → name_of c.in_ok-one.one.file ≡ name c.args.kind c.args.file =
    λ told. open_named name name_of c.args.kind c.args.file c.in_ok-one.one is.0 is.1 before (c.in_ok-one.ensures.open told) in
    let trust : Trust = c.synced.new.self in
    let on : SyncedTo c.args.kind c.args.file old.trust trust = subst (λ (t : Trust). SyncedTo c.args.kind c.args.file t trust) (λ i. (rest i).trust) c.synced.ensures in
    let times : times_of c.go_on.new.self ≡ goes_on old.times past = c.go_on.ensures.times ∙ (λ i. goes_on (times_of (rest i).timed) past) in
    let went : record { past = past_of c.go_on.new.self.folder; warc = c.to_write.new.self.warc; cdxj = c.to_write.new.self.cdxj; trust = trust; times = times_of c.go_on.new.self }
    ≡ trusted trust (next old past) =
    λ i. record {
      past = past_of (c.go_on.ensures.folder i);
      warc = (rest i).warc;
      cdxj = (rest i).cdxj;
      trust = trust;
      times = times i;
    } in
    let last : FolderPast = past_of c.keep_at_name.new.self.timed.folder in
    let behind : state_of past_of c.keep_at_name.new.self ≡ record (trusted trust (next old past)) { past = last } =
    (λ i. record (state_of past_of (c.keep_at_name.ensures.rest i)) { past = last }) ∙ ap (λ (s : State). record s { past = last }) went in
    subst (λ (s : State). Syncs {E = Error} tells name c.args.kind c.args.file old s c.keep_at_name.result) (sym behind)
    (sync_behind {E = Error} tells name c.args.kind c.args.file old (trusted trust (next old past)) last c.keep_at_name.result
    (λ told. c.keep_at_name.ensures.same told ∙ (λ i. past_of (c.go_on.ensures.folder i)))
    (sync_answered {E = Error} tells name c.args.kind c.args.file old (trusted trust (next old past)) c.keep_at_name.result
    (anew_done tells name g.met.N.FileNames.apart c.args.kind c.args.file c.ranges.file.fits old past c.requires.known c.requires.ours c.requires.going c.args.at c.args.len c.requires.doubt {E = Error} trust on
    (λ told. c.in-Ok.ensures.done told
    ∙ (λ i. did_to (written_anew (c.to_write.ensures.same told i) (named told i) c.args.at c.args.len) (named told i) (Synced true))))))

pub returns-in-Err-clause-syncs : goal.returns-in-Err-clause-syncs
returns-in-Err-clause-syncs g c =
    let tells = g.F.Folder.tells in
    let name = g.N.FileNames.name in
    let name_of = g.F.Folder.name_of in
    let past_of = g.F.Folder.past in
    let old : State = state_of past_of c.args.self.now in
    let rest = c.in_ok-one.ensures.rest in
    let before : FolderPast = past_of c.to_write.new.self.timed.folder in
    let past : FolderPast = past_of c.sync_anew.new.folder in
    let is = c.in_ok-one.ensures.this in
    let named : (told : IsTrue tells) → name_of c.in_ok-one.one.file ≡ name c.args.kind c.args.file =
    λ told. open_named name name_of c.args.kind c.args.file c.in_ok-one.one is.0 is.1 before (c.in_ok-one.ensures.open told) in
    let times : times_of c.go_on-in-Err.new.self ≡ goes_on old.times past = c.go_on-in-Err.ensures.times ∙ (λ i. goes_on (times_of (rest i).timed) past) in
    let went : record { past = past_of c.go_on-in-Err.new.self.folder; warc = c.to_write.new.self.warc; cdxj = c.to_write.new.self.cdxj; trust = c.to_write.new.self.trust; times = times_of c.go_on-in-Err.new.self }
    ≡ trusted old.trust (next old past) =
    λ i. record {
      past = past_of (c.go_on-in-Err.ensures.folder i);
      warc = (rest i).warc;
      cdxj = (rest i).cdxj;
      trust = (rest i).trust;
      times = times i;
    } in
    subst (λ (s : State). Syncs {E = Error} tells name c.args.kind c.args.file old s (Err c.in-Err.error)) (sym went)
    (anew_missed tells name g.met.N.FileNames.apart c.args.kind c.args.file c.ranges.file.fits old past c.requires.known c.requires.ours c.requires.going c.args.at c.args.len c.requires.doubt {E = Error} c.in-Err.error
    (λ told. subst (λ (p : FolderPast). MendsIn (name c.args.kind c.args.file) c.args.at c.args.len (bytes_of p (name c.args.kind c.args.file)) p past) (c.to_write.ensures.same told)
    (subst (λ (n : List ℕ). MendsIn n c.args.at c.args.len (bytes_of before n) before past) (named told) (c.in-Err.ensures.partial told))))

pub returns-in-Err-clause-open : goal.returns-in-Err-clause-open
returns-in-Err-clause-open g c = λ told.
    none_open g.N.FileNames.name g.F.Folder.name_of (g.F.Folder.past c.go_on-in-Err.new.self.folder) c.close_torn.new.self c.close_torn.ensures.written c.close_torn.ensures.read
