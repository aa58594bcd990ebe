-- The file isn't in the folder's list, or it is there and is taken in, or neither is known.
use Rattle.std.proofs.Common.{◌≡◌, ℕ, sym, ap, ◌∙◌, subst}
use Rattle.std.specs.Prelude.{None}
use Rattle.folder_model.specs.Folder.{FolderPast, contents_of}
use Rattle.folder_model.specs.Timed.{times_of}
use Rattle.held_folder.specs.Calls.{Looks}
use Rattle.held_folder.specs.Doubts.{further_of, with_further}
use Rattle.held_folder.specs.Held.{state_of}
use Rattle.folder_files.specs.Counting.{known_of}
use Rattle.held_folder.specs.State.{State, IsKnown}
use Rattle.held_folder.specs.declared.trust.Further.TheVariants.{Absent}
use Rattle.held_folder.specs.declared.trust.Trust.{Trust}
use Rattle.held_folder.specs.steps.FurtherLaws.{further_with}
use Rattle.folder_files.specs.steps.OpenLaws.{none_open, left_after}
use Rattle.held_folder.specs.steps.SettleLaws.{found_none}
use Rattle.held_folder.specs.steps.StateLaws.{looked, looks_before}
use Rattle.held_folder.proofs.held.Held.seek.Goals as goal

pub returns-then-lacks-clause-looks : goal.returns-then-lacks-clause-looks
returns-then-lacks-clause-looks g c =
    let tells = g.F.Folder.tells in
    let name = g.N.FileNames.name in
    let past_of = g.F.Folder.past in
    let old : State = state_of past_of c.args.self.now in
    let rest = c.lacks.ensures.rest in
    let last : FolderPast = past_of c.lacks.new.self.timed.folder in
    let trust : Trust = c.settled.new.self in
    let went : record { past = last; warc = c.lacks.new.self.warc; cdxj = c.lacks.new.self.cdxj; trust = trust; times = times_of c.lacks.new.self.timed } ≡ record old { past = last; trust = trust } =
    λ i. record { past = last; warc = (rest i).warc; cdxj = (rest i).cdxj; trust = trust; times = times_of (rest i).timed } in
    subst (λ (s : State). Looks tells name old s) (sym went)
    (found_none tells name c.args.kind old last trust (λ told. c.lacks.ensures.same told) c.requires.known
    (λ told. subst (λ (n : ℕ). contents_of last (name c.args.kind n) ≡ None) c.known-number.ensures (c.lacks.ensures.none told c.if-lacks.true))
    (c.settled.ensures ∙ (λ i. with_further c.args.kind Absent (rest i).trust)))

pub returns-then-lacks-clause-settled : goal.returns-then-lacks-clause-settled
returns-then-lacks-clause-settled g c = ap (λ (t : Trust). further_of t c.args.kind) c.settled.ensures ∙ further_with c.args.kind Absent c.lacks.new.self.trust

pub returns-then-lacks-clause-open : goal.returns-then-lacks-clause-open
returns-then-lacks-clause-open g c = λ told.
    none_open g.N.FileNames.name g.F.Folder.name_of (g.F.Folder.past c.lacks.new.self.timed.folder) c.lacks.new.self.files
    ((λ i. (c.lacks.ensures.rest i).files.written) ∙ c.close.ensures.written) ((λ i. (c.lacks.ensures.rest i).files.read) ∙ c.close.ensures.read)

pub take_in-done-requires-clause-known : goal.take_in-done-requires-clause-known
take_in-done-requires-clause-known g c = λ told.
    let name = g.N.FileNames.name in
    let past_of = g.F.Folder.past in
    let old : State = state_of past_of c.args.self.now in
    let last : FolderPast = past_of c.open_empty.new.folder in
    let went : record (state_of past_of c.lacks.new.self) { past = last } ≡ record old { past = last } = λ i. record (state_of past_of (c.lacks.ensures.rest i)) { past = last } in
    subst (IsKnown name) (sym went)
    (subst (λ (p : FolderPast). IsKnown name (record old { past = p })) (sym (c.open_empty.ensures.same told ∙ c.lacks.ensures.same told)) (c.requires.known told))

pub take_in-done-requires-clause-going : goal.take_in-done-requires-clause-going
take_in-done-requires-clause-going g c = (λ i. (c.lacks.ensures.rest i).trust.gave_up) ∙ c.requires.going

pub take_in-done-requires-clause-unsettled : goal.take_in-done-requires-clause-unsettled
take_in-done-requires-clause-unsettled g c =
    (λ i. further_of (c.lacks.ensures.rest i).trust c.args.kind) ∙ c.requires.unsettled

pub take_in-done-requires-clause-number : goal.take_in-done-requires-clause-number
take_in-done-requires-clause-number g c =
    c.known-number.ensures
    ∙ (λ i. known_of (sym c.lacks.ensures.rest i).warc (sym c.lacks.ensures.rest i).cdxj c.args.kind)

pub take_in-done-requires-clause-written : goal.take_in-done-requires-clause-written
take_in-done-requires-clause-written g c = (λ i. (c.lacks.ensures.rest i).files.written) ∙ c.close.ensures.written

pub take_in-done-requires-clause-read : goal.take_in-done-requires-clause-read
take_in-done-requires-clause-read g c = (λ i. (c.lacks.ensures.rest i).files.read) ∙ c.close.ensures.read

pub returns-in-Ok-clause-looks : goal.returns-in-Ok-clause-looks
returns-in-Ok-clause-looks g c =
    let tells = g.F.Folder.tells in
    let name = g.N.FileNames.name in
    let past_of = g.F.Folder.past in
    let old : State = state_of past_of c.args.self.now in
    let last : FolderPast = past_of c.open_empty.new.folder in
    let went : record (state_of past_of c.lacks.new.self) { past = last } ≡ record old { past = last } = λ i. record (state_of past_of (c.lacks.ensures.rest i)) { past = last } in
    looks_before tells name old (state_of past_of c.take_in-done.new.self) last (λ told. c.open_empty.ensures.same told ∙ c.lacks.ensures.same told)
    (subst (λ (s : State). Looks tells name s (state_of past_of c.take_in-done.new.self)) went c.take_in-done.ensures.looks)

pub returns-in-Err-clause-looks : goal.returns-in-Err-clause-looks
returns-in-Err-clause-looks g c =
    let tells = g.F.Folder.tells in
    let name = g.N.FileNames.name in
    let past_of = g.F.Folder.past in
    let old : State = state_of past_of c.args.self.now in
    let last : FolderPast = past_of c.open_empty.new.folder in
    let went : record (state_of past_of c.lacks.new.self) { past = last } ≡ record old { past = last } = λ i. record (state_of past_of (c.lacks.ensures.rest i)) { past = last } in
    subst (λ (s : State). Looks tells name old s) (sym went)
    (looked tells name old last (λ told. c.open_empty.ensures.same told ∙ c.lacks.ensures.same told) c.requires.known)

pub returns-in-Err-clause-open : goal.returns-in-Err-clause-open
returns-in-Err-clause-open g c = λ told.
    none_open g.N.FileNames.name g.F.Folder.name_of (g.F.Folder.past c.open_empty.new.folder) c.lacks.new.self.files
    ((λ i. (c.lacks.ensures.rest i).files.written) ∙ c.close.ensures.written)
    ((λ i. (c.lacks.ensures.rest i).files.read) ∙ c.close.ensures.read)

pub returns-in-Ok-clause-open : goal.returns-in-Ok-clause-open
returns-in-Ok-clause-open g c = λ told.
    left_after g.N.FileNames.name g.F.Folder.name_of (g.F.Folder.past c.take_in-done.new.self.timed.folder) c.take_in-done.new.self.files c.leave.new.self c.leave.ensures (c.take_in-done.ensures.open told)
