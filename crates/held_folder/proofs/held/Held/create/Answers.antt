-- The next file was made, or may have been, or nothing was done.
use Rattle.std.proofs.Common.{◌≡◌, ℕ, Ok, Err, List, refl, sym, ap, ◌∙◌, subst, arith}
use Rattle.std.specs.declared.io.Error.{Error}
use Rattle.std.specs.Prelude.{Result, ⊤}
use Rattle.folder_model.specs.Folder.{FolderPast, IsNameSureAt}
use Rattle.folder_model.specs.Whole.{made_durably, MakesInPart, OnListed}
use Rattle.folder_model.specs.declared.durable.MakeFault.{MakeFault}
use Rattle.folder_model.specs.declared.durable.MakeFault.TheVariants.{Unlisted, Unsettled}
use Rattle.held_folder.specs.Calls.{Creates}
use Rattle.held_folder.specs.Held.{state_of}
use Rattle.held_folder.specs.State.{State, next, grown, trusted}
use Rattle.held_folder.specs.Doubts.{IsMissed}
use Rattle.held_folder.specs.declared.trust.Trust.{Trust}
use Rattle.folder_files.specs.steps.OpenLaws.{all_same, same_contents, none_open, made_open}
use Rattle.held_folder.specs.steps.StateLaws.{create_not_begun, create_unacknowledged, grown_trusted, at_error}
use Rattle.held_folder.specs.steps.SettleLaws.{made_told}
use Rattle.held_folder.proofs.held.Held.create.Goals as goal

pub returns-in_err-check_in_place-clause-creates : goal.returns-in_err-check_in_place-clause-creates
returns-in_err-check_in_place-clause-creates g c =
    let tells = g.F.Folder.tells in
    let name = g.N.FileNames.name in
    let name_of = g.F.Folder.name_of in
    let past_of = g.F.Folder.past in
    let old : State = state_of past_of c.args.self.now in
    let first : FolderPast = past_of c.check_in_place.new.folder in
    at_error (λ r. Creates {E = Error} tells name c.args.kind old (record old { past = first }) r)
    c.from_residual.result c.from_residual.ensures.0
    (λ e. create_not_begun {E = Error} tells name c.args.kind old first e c.check_in_place.ensures c.requires.known)

pub returns-in_err-check_in_place-clause-open : goal.returns-in_err-check_in_place-clause-open
returns-in_err-check_in_place-clause-open g c = λ told.
    let past_of = g.F.Folder.past in
    let was : FolderPast = past_of c.args.self.now.timed.folder in
    let first : FolderPast = past_of c.check_in_place.new.folder in
    all_same g.N.FileNames.name g.F.Folder.name_of was first c.args.self.now.files (same_contents was first (c.check_in_place.ensures told)) (c.requires.open told)

pub returns-in_err-name-clause-creates : goal.returns-in_err-name-clause-creates
returns-in_err-name-clause-creates g c =
    let tells = g.F.Folder.tells in
    let name = g.N.FileNames.name in
    let name_of = g.F.Folder.name_of in
    let past_of = g.F.Folder.past in
    let old : State = state_of past_of c.args.self.now in
    let first : FolderPast = past_of c.check_in_place.new.folder in
    at_error (λ r. Creates {E = Error} tells name c.args.kind old (record old { past = first }) r)
    c.from_residual-in_err-name.result c.from_residual-in_err-name.ensures.0
    (λ e. create_not_begun {E = Error} tells name c.args.kind old first e c.check_in_place.ensures c.requires.known)

pub returns-in_err-name-clause-open : goal.returns-in_err-name-clause-open
returns-in_err-name-clause-open g c = λ told.
    let past_of = g.F.Folder.past in
    let was : FolderPast = past_of c.args.self.now.timed.folder in
    let first : FolderPast = past_of c.check_in_place.new.folder in
    all_same g.N.FileNames.name g.F.Folder.name_of was first c.args.self.now.files (same_contents was first (c.check_in_place.ensures told)) (c.requires.open told)

pub keep_at_name-requires-clause-others : goal.keep_at_name-requires-clause-others
keep_at_name-requires-clause-others g c = λ told.
    none_open g.N.FileNames.name g.F.Folder.name_of (g.F.Folder.past c.set_known.new.self.timed.folder) c.set_known.new.self.files
    ((λ i. (c.set_known.ensures.files i).written) ∙ c.close.ensures.written) ((λ i. (c.set_known.ensures.files i).read) ∙ c.close.ensures.read)

pub keep_at_name-requires-clause-open : goal.keep_at_name-requires-clause-open
keep_at_name-requires-clause-open g c = λ told.
    let tells = g.F.Folder.tells in
    let name = g.N.FileNames.name in
    let name_of = g.F.Folder.name_of in
    let past_of = g.F.Folder.past in
    let old : State = state_of past_of c.args.self.now in
    let first : FolderPast = past_of c.check_in_place.new.folder in
    let past : FolderPast = past_of c.make_durably.new.folder in
    let called : c.as_str.result.now ≡ name c.args.kind c.known-number.result = c.as_str.ensures.value ∙ c.in_ok-name.ensures in
    let whole : past_of c.set_known.new.self.timed.folder ≡ made_durably (name c.args.kind c.known-number.result) first =
    (λ i. past_of (c.set_known.ensures.same i).folder) ∙ (λ i. past_of (c.go_on.ensures.folder i)) ∙ c.in-Ok.ensures.made told ∙ (λ i. made_durably (called i) first) in
    made_open name name_of _ first (past_of c.set_known.new.self.timed.folder) (omega (arith, c.in-Some.ensures.0)) refl (c.in-Ok.ensures.named told ∙ called) whole

pub returns-in_err-keep_at_name-in-Ok-clause-creates : goal.returns-in_err-keep_at_name-in-Ok-clause-creates
returns-in_err-keep_at_name-in-Ok-clause-creates g c =
    let tells = g.F.Folder.tells in
    let name = g.N.FileNames.name in
    let past_of = g.F.Folder.past in
    let old : State = state_of past_of c.args.self.now in
    let first : FolderPast = past_of c.check_in_place.new.folder in
    let past : FolderPast = past_of c.make_durably.new.folder in
    let trust : Trust = c.synced.new.self in
    let went : state_of past_of c.set_known.new.self ≡ trusted trust (next (grown c.args.kind old) past) =
    c.set_known.ensures.state
    ∙ (λ i. grown c.args.kind (record old { past = past_of (c.go_on.ensures.folder i); trust = trust; times = c.go_on.ensures.times i }))
    ∙ grown_trusted c.args.kind old past trust in
    let last : FolderPast = past_of c.keep_at_name.new.self.timed.folder in
    let behind : state_of past_of c.keep_at_name.new.self ≡ record (trusted trust (next (grown c.args.kind old) past)) { past = last } =
    (λ i. record (state_of past_of (c.keep_at_name.ensures.rest i)) { past = last }) ∙ ap (λ (s : State). record s { past = last }) went in
    let made = made_told {E = Error} tells name g.met.N.FileNames.apart c.args.kind old c.known-number.result c.as_str.result.now first past last trust c.requires.known c.if-self.false
    (c.has_further.ensures c.if-has_further.false) c.known-number.ensures (omega (arith, c.in-Some.ensures.0)) (c.as_str.ensures.value ∙ c.in_ok-name.ensures) c.synced.ensures
    c.check_in_place.ensures (λ told. c.in-Ok.ensures.made told)
    (λ told. c.keep_at_name.ensures.same told ∙ (λ i. past_of (c.set_known.ensures.same i).folder) ∙ (λ i. past_of (c.go_on.ensures.folder i))) in
    subst (λ (s : State). Creates {E = Error} tells name c.args.kind old s c.from_residual-in_err-keep_at_name-in-Ok.result) (sym behind)
    (at_error (λ r. Creates {E = Error} tells name c.args.kind old (record (trusted trust (next (grown c.args.kind old) past)) { past = last }) r)
    c.from_residual-in_err-keep_at_name-in-Ok.result c.from_residual-in_err-keep_at_name-in-Ok.ensures.0
    (λ e. create_unacknowledged {E = Error} tells name c.args.kind old (record (trusted trust (next (grown c.args.kind old) past)) { past = last }) c.known-number.result e made))

pub returns-in-Ok-clause-creates : goal.returns-in-Ok-clause-creates
returns-in-Ok-clause-creates g c =
    let tells = g.F.Folder.tells in
    let name = g.N.FileNames.name in
    let past_of = g.F.Folder.past in
    let old : State = state_of past_of c.args.self.now in
    let first : FolderPast = past_of c.check_in_place.new.folder in
    let past : FolderPast = past_of c.make_durably.new.folder in
    let trust : Trust = c.synced.new.self in
    let went : state_of past_of c.set_known.new.self ≡ trusted trust (next (grown c.args.kind old) past) =
    c.set_known.ensures.state
    ∙ (λ i. grown c.args.kind (record old { past = past_of (c.go_on.ensures.folder i); trust = trust; times = c.go_on.ensures.times i }))
    ∙ grown_trusted c.args.kind old past trust in
    let last : FolderPast = past_of c.keep_at_name.new.self.timed.folder in
    let behind : state_of past_of c.keep_at_name.new.self ≡ record (trusted trust (next (grown c.args.kind old) past)) { past = last } =
    (λ i. record (state_of past_of (c.keep_at_name.ensures.rest i)) { past = last }) ∙ ap (λ (s : State). record s { past = last }) went in
    let made = made_told {E = Error} tells name g.met.N.FileNames.apart c.args.kind old c.known-number.result c.as_str.result.now first past last trust c.requires.known c.if-self.false
    (c.has_further.ensures c.if-has_further.false) c.known-number.ensures (omega (arith, c.in-Some.ensures.0)) (c.as_str.ensures.value ∙ c.in_ok-name.ensures) c.synced.ensures
    c.check_in_place.ensures (λ told. c.in-Ok.ensures.made told)
    (λ told. c.keep_at_name.ensures.same told ∙ (λ i. past_of (c.set_known.ensures.same i).folder) ∙ (λ i. past_of (c.go_on.ensures.folder i))) in
    subst (λ (s : State). Creates {E = Error} tells name c.args.kind old s (Ok c.known-number.result)) (sym behind) made

pub returns-then-self-clause-creates : goal.returns-then-self-clause-creates
returns-then-self-clause-creates g c =
    let old : State = state_of g.F.Folder.past c.args.self.now in
    create_not_begun {E = Error} g.F.Folder.tells g.N.FileNames.name c.args.kind old old.past c.stopped.result (λ told. refl) c.requires.known

pub returns-then-has_further-clause-creates : goal.returns-then-has_further-clause-creates
returns-then-has_further-clause-creates g c =
    let old : State = state_of g.F.Folder.past c.args.self.now in
    create_not_begun {E = Error} g.F.Folder.tells g.N.FileNames.name c.args.kind old old.past _ (λ told. refl) c.requires.known

-- what the folder's sync still answers for doesn't go by what was to be made
listed_at : (T : Type 0) (fault : MakeFault) (P : Type 0) → OnListed {T = T} (Err fault) P → OnListed {T = ⊤} (Err fault) P
listed_at T (Unlisted error) P listed = tt
listed_at T (Unsettled error) P listed = listed

listed_of : {T : Type 0} (result : Result T MakeFault) (fault : MakeFault) (P : Type 0) → result ≡ Err fault → OnListed result P → OnListed {T = ⊤} (Err fault) P
listed_of {T} result fault P is listed = listed_at T fault P (subst (λ (r : Result T MakeFault). OnListed r P) is listed)

pub returns-clause-creates : goal.returns-clause-creates
returns-clause-creates g c =
    let name = g.N.FileNames.name c.args.kind c.known-number.result in
    let past_of = g.F.Folder.past in
    let old : State = state_of past_of c.args.self.now in
    let first : FolderPast = past_of c.check_in_place.new.folder in
    let past : FolderPast = past_of c.make_durably.new.folder in
    let called : c.as_str.result.now ≡ name = c.as_str.ensures.value ∙ c.in_ok-name.ensures in
    c.note_missed.ensures.creates old.past c.requires.known (λ told.
    subst (λ (p : FolderPast). IsMissed name c.in-Err.fault p past) (c.check_in_place.ensures told)
    (record {
      partial = subst (λ (n : List ℕ). MakesInPart n first past) called (c.make_durably.ensures.partial told);
      listed = λ m sure. listed_of c.make_durably.result c.in-Err.fault (IsNameSureAt past m) c.in-Err.is (c.make_durably.ensures.listed told m sure);
    }))
