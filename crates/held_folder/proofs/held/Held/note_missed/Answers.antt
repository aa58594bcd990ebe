-- The file may be there, or nothing was done.
use Rattle.std.proofs.Common.{◌≡◌, ℕ, Err, IsTrue, List, sym, ◌∙◌, subst}
use Rattle.std.specs.declared.io.Error.{Error}
use Rattle.std.specs.Prelude.{None, ⊤}
use Rattle.folder_model.specs.Folder.{FolderPast, contents_of, IsNameSureAt}
use Rattle.folder_model.specs.Times.{goes_on}
use Rattle.folder_model.specs.Timed.{times_of}
use Rattle.folder_model.specs.Whole.{MakesInPart, OnListed}
use Rattle.folder_model.specs.declared.durable.MakeFault.{MakeFault}
use Rattle.held_folder.specs.Calls.{Creates}
use Rattle.held_folder.specs.Doubts.{with_further, IsMissed}
use Rattle.held_folder.specs.Held.{state_of}
use Rattle.folder_files.specs.Counting.{known_of}
use Rattle.held_folder.specs.State.{State, next, trusted}
use Rattle.held_folder.specs.declared.trust.Further.TheVariants.{Unsettled}
use Rattle.held_folder.specs.declared.trust.Trust.{Trust}
use Rattle.folder_files.specs.steps.OpenLaws.{none_open}
use Rattle.held_folder.specs.steps.StateLaws.{create_missed, create_not_begun, nothing_made}
use Rattle.held_folder.specs.steps.SettleLaws.{missed_now, missed_list_now, missed_ranges, missed_list_ranges}
use Rattle.held_folder.proofs.held.Held.note_missed.Goals as goal

pub returns-in-Unlisted-clause-creates : goal.returns-in-Unlisted-clause-creates
returns-in-Unlisted-clause-creates g c = λ first known missed.
    let tells = g.F.Folder.tells in
    let name = g.N.FileNames.name in
    let apart = g.met.N.FileNames.apart in
    let past_of = g.F.Folder.past in
    let kind = c.args.kind in
    let now : State = state_of past_of c.args.self.now in
    let old : State = record now { past = first } in
    let past : FolderPast = now.past in
    let trust : Trust = c.missed_list.new.self in
    let went : record old { past = past_of c.go_on.new.self.folder; trust = trust; times = times_of c.go_on.new.self } ≡ trusted trust (next old past) =
    λ i. record old { past = past_of (c.go_on.ensures.folder i); trust = trust; times = c.go_on.ensures.times i } in
    let partial : IsTrue tells → MakesInPart (name kind (known_of old.warc old.cdxj kind)) first past =
    λ told. subst (λ (n : ℕ). MakesInPart (name kind n) first past) c.requires.number (missed told).partial in
    subst (λ (s : State). Creates {E = Error} tells name kind old s (Err c.in-Unlisted.error)) (sym went)
    (create_missed tells name apart kind old past trust (λ told. (known told, partial told)) c.requires.going c.requires.absent
    (missed_list_ranges kind old.trust trust c.missed_list.ensures)
    (λ told. missed_list_now name kind old past trust (known told) apart (partial told) c.missed_list.ensures)
    {E = Error} c.in-Unlisted.error)

pub returns-in-Unlisted-clause-open : goal.returns-in-Unlisted-clause-open
returns-in-Unlisted-clause-open g c = λ told.
    none_open g.N.FileNames.name g.F.Folder.name_of (g.F.Folder.past c.go_on.new.self.folder) c.args.self.now.files c.requires.written c.requires.read

pub returns-then-lacks-clause-creates : goal.returns-then-lacks-clause-creates
returns-then-lacks-clause-creates g c = λ first known missed.
    let tells = g.F.Folder.tells in
    let name = g.N.FileNames.name in
    let past_of = g.F.Folder.past in
    let kind = c.args.kind in
    let now : State = state_of past_of c.args.self.now in
    let old : State = record now { past = first } in
    let past : FolderPast = now.past in
    let last : FolderPast = past_of c.lacks.new.self.timed.folder in
    let none : IsTrue tells → contents_of past (name kind c.args.number) ≡ None =
    λ told. (λ i. contents_of (sym (c.lacks.ensures.same told) i) (name kind c.args.number)) ∙ c.lacks.ensures.none told c.if-lacks.true in
    let same : IsTrue tells → last ≡ first =
    λ told. c.lacks.ensures.same told ∙ nothing_made (name kind c.args.number) first past (none told) (missed told).partial in
    let went : state_of past_of c.lacks.new.self ≡ record old { past = last } = λ i. record (state_of past_of (c.lacks.ensures.rest i)) { past = last } in
    subst (λ (s : State). Creates {E = Error} tells name kind old s (Err c.in-Unsettled.error)) (sym went)
    (create_not_begun {E = Error} tells name kind old last c.in-Unsettled.error same known)

pub returns-then-lacks-clause-open : goal.returns-then-lacks-clause-open
returns-then-lacks-clause-open g c = λ told.
    none_open g.N.FileNames.name g.F.Folder.name_of (g.F.Folder.past c.lacks.new.self.timed.folder) c.lacks.new.self.files
    ((λ i. (c.lacks.ensures.rest i).files.written) ∙ c.requires.written) ((λ i. (c.lacks.ensures.rest i).files.read) ∙ c.requires.read)

pub returns-else-lacks-clause-creates : goal.returns-else-lacks-clause-creates
returns-else-lacks-clause-creates g c = λ first known missed.
    let tells = g.F.Folder.tells in
    let name = g.N.FileNames.name in
    let apart = g.met.N.FileNames.apart in
    let past_of = g.F.Folder.past in
    let kind = c.args.kind in
    let now : State = state_of past_of c.args.self.now in
    let old : State = record now { past = first } in
    let last : FolderPast = past_of c.lacks.new.self.timed.folder in
    let rest = c.lacks.ensures.rest in
    let trust : Trust = c.missed.new.self in
    let only : trust ≡ record (with_further kind Unsettled old.trust) { gave_up = trust.gave_up } =
    c.missed.ensures.only ∙ (λ i. record (with_further kind Unsettled (rest i).trust) { gave_up = trust.gave_up }) in
    let times : times_of c.go_on-in-Unsettled.new.self ≡ goes_on old.times last = c.go_on-in-Unsettled.ensures.times ∙ (λ i. goes_on (times_of (rest i).timed) last) in
    let went : record { past = past_of c.go_on-in-Unsettled.new.self.folder; warc = c.lacks.new.self.warc; cdxj = c.lacks.new.self.cdxj; trust = trust; times = times_of c.go_on-in-Unsettled.new.self } ≡ trusted trust (next old last) =
    λ i. record {
      past = past_of (c.go_on-in-Unsettled.ensures.folder i);
      warc = (rest i).warc;
      cdxj = (rest i).cdxj;
      trust = trust;
      times = times i;
    } in
    let named : IsTrue tells → IsMissed (name kind c.args.number) c.args.fault first last =
    λ told. subst (λ (p : FolderPast). IsMissed (name kind c.args.number) c.args.fault first p) (sym (c.lacks.ensures.same told)) (missed told) in
    let partial : IsTrue tells → MakesInPart (name kind (known_of old.warc old.cdxj kind)) first last =
    λ told. subst (λ (n : ℕ). MakesInPart (name kind n) first last) c.requires.number (named told).partial in
    let names : IsTrue tells → (m : List ℕ) → IsNameSureAt first m → IsNameSureAt last m =
    λ told m sure. subst (λ (fault : MakeFault). OnListed {T = ⊤} (Err fault) (IsNameSureAt last m)) c.in-Unsettled.is ((named told).listed m sure) in
    subst (λ (s : State). Creates {E = Error} tells name kind old s (Err c.is_there_already.result)) (sym went)
    (create_missed tells name apart kind old last trust (λ told. (known told, partial told)) c.requires.going c.requires.absent
    (missed_ranges kind trust.gave_up old.trust trust only)
    (λ told. missed_now name kind old last trust (known told) apart trust.gave_up (partial told) c.requires.absent only (names told))
    {E = Error} c.is_there_already.result)

pub returns-else-lacks-clause-open : goal.returns-else-lacks-clause-open
returns-else-lacks-clause-open g c = λ told.
    none_open g.N.FileNames.name g.F.Folder.name_of (g.F.Folder.past c.go_on-in-Unsettled.new.self.folder) c.lacks.new.self.files
    ((λ i. (c.lacks.ensures.rest i).files.written) ∙ c.requires.written) ((λ i. (c.lacks.ensures.rest i).files.read) ∙ c.requires.read)
