-- The file was cut, or some of it, or nothing was done.
use Rattle.std.proofs.Common.{◌≡◌, ◌+◌, Ok, Err, IsTrue, refl, sym, ◌∙◌, subst, arith}
use Rattle.std.specs.declared.io.Error.{Error}
use Rattle.folder_model.specs.File.{Shortened}
use Rattle.folder_model.specs.Folder.{FolderPast, did_to}
use Rattle.folder_model.specs.Times.{goes_on}
use Rattle.folder_model.specs.Timed.{times_of}
use Rattle.held_folder.specs.Calls.{Cuts}
use Rattle.held_folder.specs.Held.{state_of}
use Rattle.folder_files.specs.OpenFiles.{AreOpen}
use Rattle.held_folder.specs.State.{State, next, trusted}
use Rattle.folder_files.specs.steps.OpenLaws.{open_named, others_same, deed_others, cut_open, kept_after, left_after, none_open}
use Rattle.held_folder.specs.steps.StateLaws.{cut_ended, cut_not_begun, at_error}
use Rattle.held_folder.specs.steps.SureLaws.{cut_goes, cut_part_goes}
use Rattle.held_folder.specs.Doubts.{AfterCut, AfterCutPart, GoesOn}
use Rattle.held_folder.specs.declared.trust.Trust.{Trust}
use Rattle.held_folder.proofs.held.Held.cut.Goals as goal

pub returns-in_err-one-clause-cuts : goal.returns-in_err-one-clause-cuts
returns-in_err-one-clause-cuts g c =
    let tells = g.F.Folder.tells in
    let name = g.N.FileNames.name in
    let past_of = g.F.Folder.past in
    let old : State = state_of past_of c.args.self.now in
    let all = c.to_write.ensures.all in
    let now : State = state_of past_of c.to_write.new.self in
    let same : IsTrue tells → now ≡ old =
    λ told. (λ i. state_of past_of (all i)) ∙ (λ i. record old { past = c.to_write.ensures.same told i; trust = c.to_write.ensures.trusted told i }) in
    at_error (λ r. Cuts {E = Error} tells name c.args.kind c.args.file c.args.len old now r)
    c.from_residual.result c.from_residual.ensures.0
    (λ e. cut_not_begun {E = Error} tells name c.args.kind c.args.file c.args.len old now e same (λ i. times_of (all i).timed) c.requires.known)

pub returns-in-Err-clause-cuts : goal.returns-in-Err-clause-cuts
returns-in-Err-clause-cuts g c =
    let tells = g.F.Folder.tells in
    let name = g.N.FileNames.name in
    let past_of = g.F.Folder.past in
    let old : State = state_of past_of c.args.self.now in
    let rest = c.in_ok-one.ensures.rest in
    let now : State = state_of past_of c.to_write.new.self in
    let same : IsTrue tells → now ≡ old = λ told. (λ i. state_of past_of (rest i)) ∙ (λ i. record old { past = c.to_write.ensures.same told i }) in
    cut_not_begun {E = Error} tells name c.args.kind c.args.file c.args.len old now c.in-Err.error same (λ i. times_of (rest i).timed) c.requires.known

pub returns-in-Err-clause-open : goal.returns-in-Err-clause-open
returns-in-Err-clause-open g c = λ told.
    left_after g.N.FileNames.name g.F.Folder.name_of (g.F.Folder.past c.to_write.new.self.timed.folder) c.to_write.new.self.files c.leave.new.self c.leave.ensures (c.to_write.ensures.others told)

pub returns-in-Ok-set_len-clause-cuts : goal.returns-in-Ok-set_len-clause-cuts
returns-in-Ok-set_len-clause-cuts g c =
    let tells = g.F.Folder.tells in
    let name = g.N.FileNames.name in
    let name_of = g.F.Folder.name_of in
    let past_of = g.F.Folder.past in
    let old : State = state_of past_of c.args.self.now in
    let rest = c.in_ok-one.ensures.rest in
    let past : FolderPast = past_of c.set_len.new.self in
    let times : times_of c.go_on.new.self ≡ goes_on old.times past = c.go_on.ensures.times ∙ (λ i. goes_on (times_of (rest i).timed) past) in
    let trust : Trust = c.cut.new.self in
    let on : GoesOn c.args.kind (AfterCut c.args.file) old.trust trust =
    subst (λ (t : Trust). GoesOn c.args.kind (AfterCut c.args.file) t trust) (λ i. (rest i).trust) c.cut.ensures in
    let went : record { past = past_of c.go_on.new.self.folder; warc = c.to_write.new.self.warc; cdxj = c.to_write.new.self.cdxj; trust = trust; times = times_of c.go_on.new.self } ≡ trusted trust (next old past) =
    λ i. record {
      past = past_of (c.go_on.ensures.folder i);
      warc = (rest i).warc;
      cdxj = (rest i).cdxj;
      trust = trust;
      times = times i;
    } in
    let before : FolderPast = past_of c.to_write.new.self.timed.folder in
    let is = c.in_ok-one.ensures.this in
    let named : (told : IsTrue tells) → name_of c.in_ok-one.one.file ≡ name c.args.kind c.args.file =
    λ told. open_named name name_of c.args.kind c.args.file c.in_ok-one.one is.0 is.1 before (c.in_ok-one.ensures.open told) in
    let whole : c.args.len ≡ c.args.len + 0 = omega arith in
    subst (λ (s : State). Cuts {E = Error} tells name c.args.kind c.args.file c.args.len old s (Ok tt)) (sym went)
    (cut_ended tells name g.met.N.FileNames.apart c.args.kind c.args.file c.args.len old past trust
    (λ told. (c.requires.known told, c.is_unknown.ensures c.if-is_unknown.false))
    (λ told. cut_goes name g.met.N.FileNames.apart c.args.kind c.args.file c.ranges.file.fits old past trust (c.requires.known told) c.args.len (c.requires.there told)
    (c.requires.in_range told) (c.in-Ok-set_len.ensures.cut told ∙ (λ i. did_to (c.to_write.ensures.same told i) (named told i) (Shortened c.args.len 0))) on)
    {E = Error} (Ok tt)
    (λ told. (
      0,
      c.in-Ok-set_len.ensures.cut told ∙ (λ i. did_to (c.to_write.ensures.same told i) (named told i) (Shortened (whole i) 0)),
      refl,
    )))

pub returns-in-Err-set_len-clause-cuts : goal.returns-in-Err-set_len-clause-cuts
returns-in-Err-set_len-clause-cuts g c =
    let tells = g.F.Folder.tells in
    let name = g.N.FileNames.name in
    let name_of = g.F.Folder.name_of in
    let past_of = g.F.Folder.past in
    let old : State = state_of past_of c.args.self.now in
    let rest = c.in_ok-one.ensures.rest in
    let past : FolderPast = past_of c.set_len.new.self in
    let times : times_of c.go_on-in-Err-set_len.new.self ≡ goes_on old.times past = c.go_on-in-Err-set_len.ensures.times ∙ (λ i. goes_on (times_of (rest i).timed) past) in
    let trust : Trust = c.cut_part.new.self in
    let on : GoesOn c.args.kind (AfterCutPart c.args.file) old.trust trust =
    subst (λ (t : Trust). GoesOn c.args.kind (AfterCutPart c.args.file) t trust) (λ i. (rest i).trust) c.cut_part.ensures in
    let went : record { past = past_of c.go_on-in-Err-set_len.new.self.folder; warc = c.to_write.new.self.warc; cdxj = c.to_write.new.self.cdxj; trust = trust; times = times_of c.go_on-in-Err-set_len.new.self } ≡ trusted trust (next old past) =
    λ i. record {
      past = past_of (c.go_on-in-Err-set_len.ensures.folder i);
      warc = (rest i).warc;
      cdxj = (rest i).cdxj;
      trust = trust;
      times = times i;
    } in
    let before : FolderPast = past_of c.to_write.new.self.timed.folder in
    let is = c.in_ok-one.ensures.this in
    let named : (told : IsTrue tells) → name_of c.in_ok-one.one.file ≡ name c.args.kind c.args.file =
    λ told. open_named name name_of c.args.kind c.args.file c.in_ok-one.one is.0 is.1 before (c.in_ok-one.ensures.open told) in
    subst (λ (s : State). Cuts {E = Error} tells name c.args.kind c.args.file c.args.len old s (Err c.in-Err-set_len.error)) (sym went)
    (cut_ended tells name g.met.N.FileNames.apart c.args.kind c.args.file c.args.len old past trust
    (λ told. (c.requires.known told, c.is_unknown.ensures c.if-is_unknown.false))
    (λ told.
    let part = c.in-Err-set_len.ensures.partial told in
    cut_part_goes name g.met.N.FileNames.apart c.args.kind c.args.file c.ranges.file.fits old past trust (c.requires.known told) (Shortened (c.args.len + part.rest) part.rest)
    (part.whole ∙ (λ i. did_to (c.to_write.ensures.same told i) (named told i) (Shortened (c.args.len + part.rest) part.rest))) on)
    {E = Error} (Err c.in-Err-set_len.error)
    (λ told.
    let part = c.in-Err-set_len.ensures.partial told in (
      part.rest,
      part.whole ∙ (λ i. did_to (c.to_write.ensures.same told i) (named told i) (Shortened (c.args.len + part.rest) part.rest)),
      tt,
    )))

pub returns-in-Ok-set_len-clause-open : goal.returns-in-Ok-set_len-clause-open
returns-in-Ok-set_len-clause-open g c = λ told.
    let tells = g.F.Folder.tells in
    let name = g.N.FileNames.name in
    let name_of = g.F.Folder.name_of in
    let past_of = g.F.Folder.past in
    let old : State = state_of past_of c.args.self.now in
    let rest = c.in_ok-one.ensures.rest in
    let past : FolderPast = past_of c.set_len.new.self in
    let before : FolderPast = past_of c.to_write.new.self.timed.folder in
    let is = c.in_ok-one.ensures.this in
    let named : (told : IsTrue tells) → name_of c.in_ok-one.one.file ≡ name c.args.kind c.args.file =
    λ told. open_named name name_of c.args.kind c.args.file c.in_ok-one.one is.0 is.1 before (c.in_ok-one.ensures.open told) in
    let cut : past ≡ did_to before (name c.args.kind c.args.file) (Shortened c.args.len 0) =
    c.in-Ok-set_len.ensures.cut told ∙ (λ i. did_to before (named told i) (Shortened c.args.len 0)) in
    let others = others_same name name_of g.met.N.FileNames.apart c.args.kind c.args.file c.ranges.file.fits before past c.to_write.new.self.files
    (deed_others (name c.args.kind c.args.file) (Shortened c.args.len 0) before past cut) c.to_write.ensures.apart (c.to_write.ensures.others told) in
    let one = cut_open name name_of c.args.kind c.args.file c.in_ok-one.one is.0 is.1 c.args.len before past c.ranges.file.fits
    (c.in_ok-one.ensures.open told) cut (omega (arith, c.in-Ok.ensures)) in
    subst (λ (p : FolderPast). AreOpen name name_of p c.keep.new.self) (λ i. past_of (sym c.go_on.ensures.folder i))
    (kept_after name name_of past c.to_write.new.self.files c.keep.new.self _ c.keep.ensures others one)

pub returns-in-Err-set_len-clause-open : goal.returns-in-Err-set_len-clause-open
returns-in-Err-set_len-clause-open g c = λ told.
    none_open g.N.FileNames.name g.F.Folder.name_of (g.F.Folder.past c.go_on-in-Err-set_len.new.self.folder) c.close_torn.new.self c.close_torn.ensures.written c.close_torn.ensures.read

pub returns-then-is_unknown-clause-cuts : goal.returns-then-is_unknown-clause-cuts
returns-then-is_unknown-clause-cuts g c =
    let old : State = state_of g.F.Folder.past c.args.self.now in
    cut_not_begun {E = Error} g.F.Folder.tells g.N.FileNames.name c.args.kind c.args.file c.args.len old old _ (λ told. refl) refl c.requires.known

pub returns-then-self-clause-cuts : goal.returns-then-self-clause-cuts
returns-then-self-clause-cuts g c =
    let old : State = state_of g.F.Folder.past c.args.self.now in
    cut_not_begun {E = Error} g.F.Folder.tells g.N.FileNames.name c.args.kind c.args.file c.args.len old old c.stopped.result (λ told. refl) refl c.requires.known
