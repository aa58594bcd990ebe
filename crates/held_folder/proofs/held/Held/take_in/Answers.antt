-- The file, the folder and the folder around it were synced, or some of these failed.
use Rattle.std.proofs.Common.{◌≡◌, ℕ, List, Err, IsTrue, refl, sym, ap, ◌∙◌, subst, arith}
use Rattle.std.specs.Prelude.{⊤}
use Rattle.folder_model.specs.Folder.{FolderPast, contents_of, IsNameSureAt}
use Rattle.folder_model.specs.Times.{goes_on}
use Rattle.folder_model.specs.Timed.{times_of}
use Rattle.folder_model.specs.Whole.{OnlySyncs, OnListed, settled_durably}
use Rattle.folder_model.specs.steps.SyncLaws.{no_sync}
use Rattle.held_folder.specs.Calls.{Looks}
use Rattle.held_folder.specs.Doubts.{SyncedTo, further_of}
use Rattle.held_folder.specs.Held.{state_of}
use Rattle.folder_files.specs.Counting.{known_of}
use Rattle.held_folder.specs.State.{State, next, grown, trusted}
use Rattle.held_folder.specs.declared.trust.Further.TheVariants.{Absent}
use Rattle.held_folder.specs.declared.trust.Trust.{Trust}
use Rattle.held_folder.specs.steps.FurtherLaws.{further_with}
use Rattle.folder_files.specs.steps.OpenLaws.{none_open}
use Rattle.held_folder.specs.steps.SettleLaws.{grown_trust, settle_done, settle_missed, tried_now, tried_list_now, tried_list_ranges}
use Rattle.held_folder.specs.steps.StateLaws.{looked, grown_trusted}
use Rattle.held_folder.proofs.held.Held.take_in.Goals as goal

pub returns-in_default-clause-looks : goal.returns-in_default-clause-looks
returns-in_default-clause-looks g c =
    let old : State = state_of g.F.Folder.past c.args.self.now in
    looked g.F.Folder.tells g.N.FileNames.name old old.past (λ told. refl) c.requires.known

pub returns-in_default-clause-open : goal.returns-in_default-clause-open
returns-in_default-clause-open g c = λ told.
    none_open g.N.FileNames.name g.F.Folder.name_of (g.F.Folder.past c.args.self.now.timed.folder) c.args.self.now.files c.requires.written c.requires.read

pub returns-in-Ok-clause-looks : goal.returns-in-Ok-clause-looks
returns-in-Ok-clause-looks g c =
    let tells = g.F.Folder.tells in
    let name = g.N.FileNames.name in
    let past_of = g.F.Folder.past in
    let old : State = state_of past_of c.args.self.now in
    let past : FolderPast = past_of c.settle_durably.new.folder in
    let mid : Trust = c.synced.new.self in
    let trust : Trust = c.settled.new.self in
    let number : c.args.number ≡ known_of old.warc old.cdxj c.args.kind = c.requires.number in
    let on : SyncedTo c.args.kind (known_of old.warc old.cdxj c.args.kind) old.trust mid = subst (λ (k : ℕ). SyncedTo c.args.kind k old.trust mid) number c.synced.ensures in
    let named : IsTrue tells → g.F.Folder.name_of c.args.file.now ≡ name c.args.kind (known_of old.warc old.cdxj c.args.kind) =
    λ told. c.requires.named told ∙ ap (name c.args.kind) number in
    let went : state_of past_of c.set_known.new.self ≡ trusted trust (next (grown c.args.kind old) past) =
    c.set_known.ensures.state
    ∙ (λ i. grown c.args.kind (record old { past = past_of (c.go_on.ensures.folder i); trust = trust; times = c.go_on.ensures.times i }))
    ∙ grown_trusted c.args.kind old past trust in
    subst (λ (s : State). Looks tells name old s) (sym went)
    (settle_done tells name c.args.kind old past c.requires.known c.requires.unsettled g.met.N.FileNames.apart mid trust on c.settled.ensures c.requires.going
    (omega (arith, c.in-Some.ensures.0, number))
    (λ told none. c.requires.there told (ap (λ (k : ℕ). contents_of old.past (name c.args.kind k)) number ∙ none))
    (λ told. c.in-Ok.ensures.settled told ∙ (λ i. settled_durably (named told i) old.past))
    (λ told m sure. c.in-Ok.ensures.listed told m sure))

pub returns-in-Ok-clause-settled : goal.returns-in-Ok-clause-settled
returns-in-Ok-clause-settled g c =
    let old : State = state_of g.F.Folder.past c.args.self.now in
    let trust : Trust = c.settled.new.self in
    ap (λ (s : State). further_of s.trust c.args.kind) c.set_known.ensures.state
    ∙ ap (λ (t : Trust). further_of t c.args.kind)
    (grown_trust c.args.kind (record old { past = g.F.Folder.past c.go_on.new.self.folder; trust = trust; times = times_of c.go_on.new.self }))
    ∙ ap (λ (t : Trust). further_of t c.args.kind) c.settled.ensures ∙ further_with c.args.kind Absent c.synced.new.self

pub returns-in-Ok-clause-open : goal.returns-in-Ok-clause-open
returns-in-Ok-clause-open g c = λ told.
    none_open g.N.FileNames.name g.F.Folder.name_of (g.F.Folder.past c.set_known.new.self.timed.folder) c.set_known.new.self.files
    ((λ i. (c.set_known.ensures.files i).written) ∙ c.requires.written) ((λ i. (c.set_known.ensures.files i).read) ∙ c.requires.read)

pub returns-in-Err-Unlisted-clause-looks : goal.returns-in-Err-Unlisted-clause-looks
returns-in-Err-Unlisted-clause-looks g c =
    let tells = g.F.Folder.tells in
    let name = g.N.FileNames.name in
    let past_of = g.F.Folder.past in
    let old : State = state_of past_of c.args.self.now in
    let past : FolderPast = past_of c.settle_durably.new.folder in
    let trust : Trust = c.unlist.new.self in
    let named : IsTrue tells → g.F.Folder.name_of c.args.file.now ≡ name c.args.kind (known_of old.warc old.cdxj c.args.kind) =
    λ told. c.requires.named told ∙ ap (name c.args.kind) c.requires.number in
    let only : IsTrue tells → OnlySyncs (name c.args.kind (known_of old.warc old.cdxj c.args.kind)) old.past past =
    λ told. subst (λ (n : List ℕ). OnlySyncs n old.past past) (named told) (c.settle_durably.ensures.only told old.past (no_sync (g.F.Folder.name_of c.args.file.now) old.past)) in
    let times : times_of c.go_on-in-Err-Unlisted.new.self ≡ goes_on old.times past = c.go_on-in-Err-Unlisted.ensures.times in
    let went : record { past = past_of c.go_on-in-Err-Unlisted.new.self.folder; warc = old.warc; cdxj = old.cdxj; trust = trust; times = times_of c.go_on-in-Err-Unlisted.new.self } ≡ trusted trust (next old past) =
    λ i. record { past = past_of (c.go_on-in-Err-Unlisted.ensures.folder i); warc = old.warc; cdxj = old.cdxj; trust = trust; times = times i } in
    subst (λ (s : State). Looks tells name old s) (sym went)
    (settle_missed tells name c.args.kind old past c.requires.known c.requires.unsettled trust (tried_list_ranges old.trust trust c.unlist.ensures)
    (ap (λ (t : Trust). t.gave_up) c.unlist.ensures) only (λ told. tried_list_now name c.args.kind old past trust (c.requires.known told) (only told) c.unlist.ensures))

pub returns-in-Err-Unlisted-clause-open : goal.returns-in-Err-Unlisted-clause-open
returns-in-Err-Unlisted-clause-open g c = λ told.
    none_open g.N.FileNames.name g.F.Folder.name_of (g.F.Folder.past c.go_on-in-Err-Unlisted.new.self.folder) c.args.self.now.files c.requires.written c.requires.read

pub returns-in-Err-Unsettled-clause-looks : goal.returns-in-Err-Unsettled-clause-looks
returns-in-Err-Unsettled-clause-looks g c =
    let tells = g.F.Folder.tells in
    let name = g.N.FileNames.name in
    let past_of = g.F.Folder.past in
    let old : State = state_of past_of c.args.self.now in
    let past : FolderPast = past_of c.settle_durably.new.folder in
    let named : IsTrue tells → g.F.Folder.name_of c.args.file.now ≡ name c.args.kind (known_of old.warc old.cdxj c.args.kind) =
    λ told. c.requires.named told ∙ ap (name c.args.kind) c.requires.number in
    let only : IsTrue tells → OnlySyncs (name c.args.kind (known_of old.warc old.cdxj c.args.kind)) old.past past =
    λ told. subst (λ (n : List ℕ). OnlySyncs n old.past past) (named told) (c.settle_durably.ensures.only told old.past (no_sync (g.F.Folder.name_of c.args.file.now) old.past)) in
    let names : IsTrue tells → (m : List ℕ) → IsNameSureAt old.past m → IsNameSureAt past m =
    λ told m sure. subst (λ fault. OnListed {T = ⊤} (Err fault) (IsNameSureAt past m)) c.in-Err-Unsettled.field-0-is (c.in-Err-Unsettled.ensures.listed told m sure) in
    let times : times_of c.go_on-in-Err-Unsettled.new.self ≡ goes_on old.times past = c.go_on-in-Err-Unsettled.ensures.times in
    let went : record { past = past_of c.go_on-in-Err-Unsettled.new.self.folder; warc = old.warc; cdxj = old.cdxj; trust = old.trust; times = times_of c.go_on-in-Err-Unsettled.new.self } ≡ trusted old.trust (next old past) =
    λ i. record { past = past_of (c.go_on-in-Err-Unsettled.ensures.folder i); warc = old.warc; cdxj = old.cdxj; trust = old.trust; times = times i } in
    subst (λ (s : State). Looks tells name old s) (sym went)
    (settle_missed tells name c.args.kind old past c.requires.known c.requires.unsettled old.trust (λ k. refl) refl only
    (λ told. tried_now name c.args.kind old past old.trust (c.requires.known told) (only told) refl (names told)))

pub returns-in-Err-Unsettled-clause-open : goal.returns-in-Err-Unsettled-clause-open
returns-in-Err-Unsettled-clause-open g c = λ told.
    none_open g.N.FileNames.name g.F.Folder.name_of (g.F.Folder.past c.go_on-in-Err-Unsettled.new.self.folder) c.args.self.now.files c.requires.written c.requires.read
