-- The file was written to, or nothing was done.
use Rattle.std.proofs.Common.{◌≡◌, ℕ, Ok, Err, IsTrue, List, length, sym, ◌∙◌, subst, refl}
use Rattle.std.specs.Prelude.{⊤}
use Rattle.std.specs.declared.io.Error.{Error}
use Rattle.folder_model.specs.Folder.{FolderPast}
use Rattle.folder_model.specs.Times.{goes_on}
use Rattle.folder_model.specs.Timed.{times_of}
use Rattle.folder_model.specs.Whole.{WritesWithin, IsWriting, Covers, OnTorn}
use Rattle.held_folder.specs.Calls.{WritesAt}
use Rattle.held_folder.specs.Held.{state_of}
use Rattle.folder_files.specs.OpenFiles.{AreOpen}
use Rattle.held_folder.specs.State.{State, next, trusted}
use Rattle.folder_files.specs.steps.OpenLaws.{open_named, others_same, writes_others, wrote_open, kept_after, left_after, none_open}
use Rattle.held_folder.specs.steps.StateLaws.{wrote, write_not_begun, at_error}
use Rattle.held_folder.specs.steps.SureLaws.{whole_goes, part_goes}
use Rattle.held_folder.specs.Doubts.{AfterWhole, AfterPart, GoesOn}
use Rattle.held_folder.specs.declared.trust.Trust.{Trust}
use Rattle.held_folder.proofs.held.Held.write_at.Goals as goal

pub returns-in_err-one-clause-writes : goal.returns-in_err-one-clause-writes
returns-in_err-one-clause-writes g c =
    let tells = g.F.Folder.tells in
    let name = g.N.FileNames.name in
    let past_of = g.F.Folder.past in
    let old : State = state_of past_of c.args.self.now in
    let all = c.to_write.ensures.all in
    let now : State = state_of past_of c.to_write.new.self in
    let same : IsTrue tells → now ≡ old =
    λ told. (λ i. state_of past_of (all i)) ∙ (λ i. record old { past = c.to_write.ensures.same told i; trust = c.to_write.ensures.trusted told i }) in
    at_error (λ r. WritesAt {E = Error} tells name c.args.kind c.args.file c.args.at c.args.bytes.now old now r)
    c.from_residual.result c.from_residual.ensures.0
    (λ e. write_not_begun {E = Error} tells name c.args.kind c.args.file c.args.at c.args.bytes.now old now e same (λ i. times_of (all i).timed) c.requires.known)

pub returns-in-Err-clause-writes : goal.returns-in-Err-clause-writes
returns-in-Err-clause-writes g c =
    let tells = g.F.Folder.tells in
    let name = g.N.FileNames.name in
    let past_of = g.F.Folder.past in
    let old : State = state_of past_of c.args.self.now in
    let rest = c.in_ok-one.ensures.rest in
    let now : State = state_of past_of c.to_write.new.self in
    let same : IsTrue tells → now ≡ old = λ told. (λ i. state_of past_of (rest i)) ∙ (λ i. record old { past = c.to_write.ensures.same told i }) in
    write_not_begun {E = Error} tells name c.args.kind c.args.file c.args.at c.args.bytes.now old now c.in-Err.error same (λ i. times_of (rest i).timed) c.requires.known

pub returns-in-Err-clause-open : goal.returns-in-Err-clause-open
returns-in-Err-clause-open g c = λ told.
    left_after g.N.FileNames.name g.F.Folder.name_of (g.F.Folder.past c.to_write.new.self.timed.folder) c.to_write.new.self.files c.leave.new.self c.leave.ensures (c.to_write.ensures.others told)

pub returns-in-Ok-write_whole-clause-writes : goal.returns-in-Ok-write_whole-clause-writes
returns-in-Ok-write_whole-clause-writes g c =
    let tells = g.F.Folder.tells in
    let name = g.N.FileNames.name in
    let name_of = g.F.Folder.name_of in
    let past_of = g.F.Folder.past in
    let old : State = state_of past_of c.args.self.now in
    let rest = c.in_ok-one.ensures.rest in
    let before : FolderPast = past_of c.to_write.new.self.timed.folder in
    let past : FolderPast = past_of c.write_whole.new.folder in
    let is = c.in_ok-one.ensures.this in
    let len : ℕ = length c.args.bytes.now in
    let named : (told : IsTrue tells) → name_of c.in_ok-one.one.file ≡ name c.args.kind c.args.file =
    λ told. open_named name name_of c.args.kind c.args.file c.in_ok-one.one is.0 is.1 before (c.in_ok-one.ensures.open told) in
    let within : IsTrue tells → WritesWithin (name c.args.kind c.args.file) c.args.at len old.past past =
    λ told. subst (λ (p : FolderPast). WritesWithin (name c.args.kind c.args.file) c.args.at len p past) (c.to_write.ensures.same told)
    (subst (λ (n : List ℕ). WritesWithin n c.args.at len before past) (named told) (c.write_whole.ensures.partial told)) in
    let trust : Trust = c.wrote.new.self in
    let times : times_of c.go_on.new.self ≡ goes_on old.times past = c.go_on.ensures.times ∙ (λ i. goes_on (times_of (rest i).timed) past) in
    let went : record { past = past_of c.go_on.new.self.folder; warc = c.to_write.new.self.warc; cdxj = c.to_write.new.self.cdxj; trust = trust; times = times_of c.go_on.new.self }
    ≡ trusted trust (next old past) =
    λ i. record {
      past = past_of (c.go_on.ensures.folder i);
      warc = (rest i).warc;
      cdxj = (rest i).cdxj;
      trust = trust;
      times = times i;
    } in
    let covers : IsTrue tells → Covers (name c.args.kind c.args.file) c.args.at len old.past past =
    λ told. subst (λ (p : FolderPast). Covers (name c.args.kind c.args.file) c.args.at len p past) (c.to_write.ensures.same told)
    (subst (λ (n : List ℕ). Covers n c.args.at len before past) (named told) ((c.in-Ok-write_whole.ensures.written told).covers)) in
    let on : GoesOn c.args.kind (AfterWhole c.args.file c.args.at len) old.trust trust =
    subst (λ (t : Trust). GoesOn c.args.kind (AfterWhole c.args.file c.args.at len) t trust) (λ i. (rest i).trust) c.wrote.ensures in
    subst (λ (s : State). WritesAt {E = Error} tells name c.args.kind c.args.file c.args.at c.args.bytes.now old s (Ok tt)) (sym went)
    (wrote tells name g.met.N.FileNames.apart c.args.kind c.args.file c.args.at c.args.bytes.now old past trust
    (λ told. (c.requires.known told, c.is_unknown.ensures c.if-is_unknown.false, within told))
    (λ told. whole_goes name g.met.N.FileNames.apart c.args.kind c.args.file c.ranges.file.fits old past trust (c.requires.known told) c.args.at len
    (c.requires.there told) (c.requires.in_range told) (within told) (covers told) on)
    (Ok tt)
    (λ told. subst (λ (p : FolderPast). IsWriting (name c.args.kind c.args.file) c.args.at c.args.bytes.now len p past) (c.to_write.ensures.same told)
    (subst (λ (n : List ℕ). IsWriting n c.args.at c.args.bytes.now len before past) (named told) (c.in-Ok-write_whole.ensures.written told))))

pub returns-in-Err-Torn-clause-writes : goal.returns-in-Err-Torn-clause-writes
returns-in-Err-Torn-clause-writes g c =
    let tells = g.F.Folder.tells in
    let name = g.N.FileNames.name in
    let name_of = g.F.Folder.name_of in
    let past_of = g.F.Folder.past in
    let old : State = state_of past_of c.args.self.now in
    let rest = c.in_ok-one.ensures.rest in
    let before : FolderPast = past_of c.to_write.new.self.timed.folder in
    let past : FolderPast = past_of c.write_whole.new.folder in
    let is = c.in_ok-one.ensures.this in
    let len : ℕ = length c.args.bytes.now in
    let named : (told : IsTrue tells) → name_of c.in_ok-one.one.file ≡ name c.args.kind c.args.file =
    λ told. open_named name name_of c.args.kind c.args.file c.in_ok-one.one is.0 is.1 before (c.in_ok-one.ensures.open told) in
    let within : IsTrue tells → WritesWithin (name c.args.kind c.args.file) c.args.at len old.past past =
    λ told. subst (λ (p : FolderPast). WritesWithin (name c.args.kind c.args.file) c.args.at len p past) (c.to_write.ensures.same told)
    (subst (λ (n : List ℕ). WritesWithin n c.args.at len before past) (named told) (c.write_whole.ensures.partial told)) in
    let trust : Trust = c.wrote-in-Err-Torn.new.self in
    let times : times_of c.go_on-in-Err-Torn.new.self ≡ goes_on old.times past = c.go_on-in-Err-Torn.ensures.times ∙ (λ i. goes_on (times_of (rest i).timed) past) in
    let went : record { past = past_of c.go_on-in-Err-Torn.new.self.folder; warc = c.to_write.new.self.warc; cdxj = c.to_write.new.self.cdxj; trust = trust; times = times_of c.go_on-in-Err-Torn.new.self }
    ≡ trusted trust (next old past) =
    λ i. record {
      past = past_of (c.go_on-in-Err-Torn.ensures.folder i);
      warc = (rest i).warc;
      cdxj = (rest i).cdxj;
      trust = trust;
      times = times i;
    } in
    let covers : IsTrue tells → Covers (name c.args.kind c.args.file) c.args.at len old.past past =
    λ told. subst (λ (p : FolderPast). Covers (name c.args.kind c.args.file) c.args.at len p past) (c.to_write.ensures.same told)
    (subst (λ (n : List ℕ). Covers n c.args.at len before past) (named told)
    (subst (λ fault. OnTorn {T = ⊤} (Err fault) (Covers (name_of c.in_ok-one.one.file) c.args.at len before past)) c.in-Err-Torn.field-0-is (c.in-Err-Torn.ensures.torn told))) in
    let on : GoesOn c.args.kind (AfterWhole c.args.file c.args.at len) old.trust trust =
    subst (λ (t : Trust). GoesOn c.args.kind (AfterWhole c.args.file c.args.at len) t trust) (λ i. (rest i).trust) c.wrote-in-Err-Torn.ensures in
    subst (λ (s : State). WritesAt {E = Error} tells name c.args.kind c.args.file c.args.at c.args.bytes.now old s (Err c.in-Err-Torn.error)) (sym went)
    (wrote tells name g.met.N.FileNames.apart c.args.kind c.args.file c.args.at c.args.bytes.now old past trust
    (λ told. (c.requires.known told, c.is_unknown.ensures c.if-is_unknown.false, within told))
    (λ told. whole_goes name g.met.N.FileNames.apart c.args.kind c.args.file c.ranges.file.fits old past trust (c.requires.known told) c.args.at len
    (c.requires.there told) (c.requires.in_range told) (within told) (covers told) on)
    (Err c.in-Err-Torn.error)
    (λ told. tt))

pub returns-in-Err-Stuck-clause-writes : goal.returns-in-Err-Stuck-clause-writes
returns-in-Err-Stuck-clause-writes g c =
    let tells = g.F.Folder.tells in
    let name = g.N.FileNames.name in
    let name_of = g.F.Folder.name_of in
    let past_of = g.F.Folder.past in
    let old : State = state_of past_of c.args.self.now in
    let rest = c.in_ok-one.ensures.rest in
    let before : FolderPast = past_of c.to_write.new.self.timed.folder in
    let past : FolderPast = past_of c.write_whole.new.folder in
    let is = c.in_ok-one.ensures.this in
    let len : ℕ = length c.args.bytes.now in
    let named : (told : IsTrue tells) → name_of c.in_ok-one.one.file ≡ name c.args.kind c.args.file =
    λ told. open_named name name_of c.args.kind c.args.file c.in_ok-one.one is.0 is.1 before (c.in_ok-one.ensures.open told) in
    let within : IsTrue tells → WritesWithin (name c.args.kind c.args.file) c.args.at len old.past past =
    λ told. subst (λ (p : FolderPast). WritesWithin (name c.args.kind c.args.file) c.args.at len p past) (c.to_write.ensures.same told)
    (subst (λ (n : List ℕ). WritesWithin n c.args.at len before past) (named told) (c.write_whole.ensures.partial told)) in
    let trust : Trust = c.wrote_part.new.self in
    let times : times_of c.go_on-in-Err-Stuck.new.self ≡ goes_on old.times past = c.go_on-in-Err-Stuck.ensures.times ∙ (λ i. goes_on (times_of (rest i).timed) past) in
    let went : record { past = past_of c.go_on-in-Err-Stuck.new.self.folder; warc = c.to_write.new.self.warc; cdxj = c.to_write.new.self.cdxj; trust = trust; times = times_of c.go_on-in-Err-Stuck.new.self }
    ≡ trusted trust (next old past) =
    λ i. record {
      past = past_of (c.go_on-in-Err-Stuck.ensures.folder i);
      warc = (rest i).warc;
      cdxj = (rest i).cdxj;
      trust = trust;
      times = times i;
    } in
    let on : GoesOn c.args.kind (AfterPart c.args.file c.args.at len) old.trust trust =
    subst (λ (t : Trust). GoesOn c.args.kind (AfterPart c.args.file c.args.at len) t trust) (λ i. (rest i).trust) c.wrote_part.ensures in
    subst (λ (s : State). WritesAt {E = Error} tells name c.args.kind c.args.file c.args.at c.args.bytes.now old s (Err c.in-Err-Stuck.error)) (sym went)
    (wrote tells name g.met.N.FileNames.apart c.args.kind c.args.file c.args.at c.args.bytes.now old past trust
    (λ told. (c.requires.known told, c.is_unknown.ensures c.if-is_unknown.false, within told))
    (λ told. part_goes name g.met.N.FileNames.apart c.args.kind c.args.file c.ranges.file.fits old past trust (c.requires.known told) c.args.at len (within told) on)
    (Err c.in-Err-Stuck.error)
    (λ told. tt))

pub returns-in-Ok-write_whole-clause-open : goal.returns-in-Ok-write_whole-clause-open
returns-in-Ok-write_whole-clause-open g c = λ told.
    let name = g.N.FileNames.name in
    let name_of = g.F.Folder.name_of in
    let past_of = g.F.Folder.past in
    let before : FolderPast = past_of c.to_write.new.self.timed.folder in
    let past : FolderPast = past_of c.write_whole.new.folder in
    let is = c.in_ok-one.ensures.this in
    let named : name_of c.in_ok-one.one.file ≡ name c.args.kind c.args.file =
    open_named name name_of c.args.kind c.args.file c.in_ok-one.one is.0 is.1 before (c.in_ok-one.ensures.open told) in
    let writing : IsWriting (name c.args.kind c.args.file) c.args.at c.args.bytes.now (length c.args.bytes.now) before past =
    subst (λ (n : List ℕ). IsWriting n c.args.at c.args.bytes.now (length c.args.bytes.now) before past) named (c.in-Ok-write_whole.ensures.written told) in
    let others = others_same name name_of g.met.N.FileNames.apart c.args.kind c.args.file c.ranges.file.fits before past c.to_write.new.self.files
    (writes_others (name c.args.kind c.args.file) c.args.at (length c.args.bytes.now) before past writing.within) c.to_write.ensures.apart (c.to_write.ensures.others told) in
    let one = wrote_open name name_of c.args.kind c.args.file c.in_ok-one.one is.0 is.1 c.args.at c.in-Ok.end c.args.bytes.now before past c.ranges.file.fits
    (c.in_ok-one.ensures.open told) writing c.in-Ok.ensures.inside c.in-Ok.ensures.end in
    subst (λ (p : FolderPast). AreOpen name name_of p c.keep.new.self) (λ i. past_of (sym c.go_on.ensures.folder i))
    (kept_after name name_of past c.to_write.new.self.files c.keep.new.self _ c.keep.ensures others one)

pub returns-in-Err-Torn-clause-open : goal.returns-in-Err-Torn-clause-open
returns-in-Err-Torn-clause-open g c = λ told.
    none_open g.N.FileNames.name g.F.Folder.name_of (g.F.Folder.past c.go_on-in-Err-Torn.new.self.folder) c.close_torn.new.self c.close_torn.ensures.written c.close_torn.ensures.read

pub returns-in-Err-Stuck-clause-open : goal.returns-in-Err-Stuck-clause-open
returns-in-Err-Stuck-clause-open g c = λ told.
    none_open g.N.FileNames.name g.F.Folder.name_of (g.F.Folder.past c.go_on-in-Err-Stuck.new.self.folder) c.close_torn-in-Err-Stuck.new.self c.close_torn-in-Err-Stuck.ensures.written c.close_torn-in-Err-Stuck.ensures.read

pub returns-then-is_unknown-clause-writes : goal.returns-then-is_unknown-clause-writes
returns-then-is_unknown-clause-writes g c =
    let old : State = state_of g.F.Folder.past c.args.self.now in
    write_not_begun {E = Error} g.F.Folder.tells g.N.FileNames.name c.args.kind c.args.file c.args.at c.args.bytes.now old old _ (λ told. refl) refl c.requires.known

pub returns-then-self-clause-writes : goal.returns-then-self-clause-writes
returns-then-self-clause-writes g c =
    let old : State = state_of g.F.Folder.past c.args.self.now in
    write_not_begun {E = Error} g.F.Folder.tells g.N.FileNames.name c.args.kind c.args.file c.args.at c.args.bytes.now old old c.stopped.result (λ told. refl) refl c.requires.known
