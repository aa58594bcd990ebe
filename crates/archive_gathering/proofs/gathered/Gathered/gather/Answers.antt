use Rattle.std.proofs.Common.{true, false, refl, sym, subst}
use Rattle.std.specs.Prelude.{None}
use Rattle.volume_scan.specs.Scannings.{IsHeaded}
use Rattle.volume_scan.specs.declared.found.Found.{Found}
use Rattle.archive_shelf.specs.declared.fault.ReopenFault.{ReopenFault}
use Rattle.archive_gathering.specs.Gathering.{FitsFound, Gathers, IsRefused, IsRefusedAt}
use Rattle.archive_gathering.specs.Refusing.{CountsFault, IsCause, IsUnfit, IsUnfitAt}
use Rattle.archive_gathering.specs.Shapes.{Shapes}
use Rattle.archive_volumes.specs.Held.{book_of}
use Rattle.archive_gathering.proofs.gathered.Gathered.gather.Goals as goal

pub returns-in-Ok-clause-gathers : goal.returns-in-Ok-clause-gathers
returns-in-Ok-clause-gathers c = λ known texts gathered.
    subst (λ (f : Found). Gathers known c.args.self.now c.begin.new.self texts f true) (sym c.in-Info.is)
    (refl, λ text at info. c.in-Ok.ensures.gathered known texts text gathered at info)

pub returns-in-Ok-take-clause-gathers : goal.returns-in-Ok-take-clause-gathers
returns-in-Ok-take-clause-gathers c = λ known texts gathered.
    subst (λ (f : Found). Gathers known c.args.self.now c.take.new.self texts f true) (sym c.in-Group.is)
    (refl, λ text at stand. c.in-Ok-take.ensures.gathered known texts text gathered at stand)

pub returns-in-Err-Damaged-take-clause-refused : goal.returns-in-Err-Damaged-take-clause-refused
returns-in-Err-Damaged-take-clause-refused c = λ known texts gathered.
    subst (λ (r : ReopenFault). IsRefused known c.args.self.now texts c.args.found r) (sym c.damaged-in-Err-Damaged-take.ensures) (
      refl,
      subst (λ (f : Found). IsRefusedAt known c.args.self.now texts f c.in-Group.place.volume c.in-Group.place.at) (sym c.in-Group.is)
          (refl, refl, λ text at. c.in-Err-Damaged-take.ensures.damaged known texts text gathered at c.in-Err-Damaged-take.field-0-is),
    )

pub returns-in-Ok-clause-shapes : goal.returns-in-Ok-clause-shapes
returns-in-Ok-clause-shapes c =
    subst (λ (f : Found). Shapes c.args.self.now c.begin.new.self f true) (sym c.in-Info.is) (refl, λ at. c.in-Ok.ensures.begun at)

pub returns-in-Ok-take-clause-shapes : goal.returns-in-Ok-take-clause-shapes
returns-in-Ok-take-clause-shapes c =
    subst (λ (f : Found). Shapes c.args.self.now c.take.new.self f true) (sym c.in-Group.is) (refl, c.in-Ok-take.ensures.taken)

pub returns-in-Err-Damaged-clause-unfit : goal.returns-in-Err-Damaged-clause-unfit
returns-in-Err-Damaged-clause-unfit c =
    let book = book_of c.args.self.now.held in
    subst (λ (r : ReopenFault). IsUnfit book c.args.found r) (sym c.damaged.ensures)
    (subst (λ (f : Found). IsUnfitAt book f c.in-Info.volume 0) (sym c.in-Info.is) (refl, refl, λ at. c.in-Err-Damaged.ensures.unfit at c.in-Err-Damaged.field-0-is))

pub returns-in-Err-Damaged-take-clause-unfit : goal.returns-in-Err-Damaged-take-clause-unfit
returns-in-Err-Damaged-take-clause-unfit c =
    let book = book_of c.args.self.now.held in
    subst (λ (r : ReopenFault). IsUnfit book c.args.found r) (sym c.damaged-in-Err-Damaged-take.ensures)
    (subst (λ (f : Found). IsUnfitAt book f c.in-Group.place.volume c.in-Group.place.at) (sym c.in-Group.is)
    (refl, refl, c.in-Err-Damaged-take.ensures.unfit c.in-Err-Damaged-take.field-0-is))

pub begin-requires-clause-uuid : goal.begin-requires-clause-uuid
begin-requires-clause-uuid c = (subst (λ (f : Found). FitsFound c.args.self.now f) c.in-Info.is c.requires.fits).0

pub begin-requires-clause-born : goal.begin-requires-clause-born
begin-requires-clause-born c = (subst (λ (f : Found). FitsFound c.args.self.now f) c.in-Info.is c.requires.fits).1

pub take-requires-clause-fits : goal.take-requires-clause-fits
take-requires-clause-fits c = subst (λ (f : Found). FitsFound c.args.self.now f) c.in-Group.is c.requires.fits

pub take-requires-clause-headed : goal.take-requires-clause-headed
take-requires-clause-headed c = subst (λ (f : Found). IsHeaded f) c.in-Group.is c.requires.headed

pub returns-in-Err-Damaged-clause-refused : goal.returns-in-Err-Damaged-clause-refused
returns-in-Err-Damaged-clause-refused c = λ known texts gathered.
    subst (λ (r : ReopenFault). IsRefused known c.args.self.now texts c.args.found r) (sym c.damaged.ensures) (
      refl,
      subst (λ (f : Found). IsRefusedAt known c.args.self.now texts f c.in-Info.volume 0) (sym c.in-Info.is)
          (refl, refl, λ text at info. c.in-Err-Damaged.ensures.damaged known texts text gathered at info c.in-Err-Damaged.field-0-is),
    )

pub returns-in-Err-Damaged-clause-cause : goal.returns-in-Err-Damaged-clause-cause
returns-in-Err-Damaged-clause-cause c = subst (λ (r : ReopenFault). IsCause None r) (sym c.damaged.ensures) refl

pub returns-in-Err-Damaged-take-clause-cause : goal.returns-in-Err-Damaged-take-clause-cause
returns-in-Err-Damaged-take-clause-cause c = subst (λ (r : ReopenFault). IsCause None r) (sym c.damaged-in-Err-Damaged-take.ensures) refl

pub returns-in-Err-Damaged-clause-still : goal.returns-in-Err-Damaged-clause-still
returns-in-Err-Damaged-clause-still c = λ count. subst (λ (r : ReopenFault). CountsFault count count r) (sym c.damaged.ensures) refl

pub returns-in-Err-Damaged-take-clause-still : goal.returns-in-Err-Damaged-take-clause-still
returns-in-Err-Damaged-take-clause-still c = λ count.
    subst (λ (r : ReopenFault). CountsFault count count r) (sym c.damaged-in-Err-Damaged-take.ensures) refl

pub returns-in-End-clause-gathers : goal.returns-in-End-clause-gathers
returns-in-End-clause-gathers c = λ known texts gathered.
    subst (λ (f : Found). Gathers known c.args.self.now c.args.self.now texts f false) (sym c.in-End.is) (refl, refl)

pub returns-in-End-clause-shapes : goal.returns-in-End-clause-shapes
returns-in-End-clause-shapes c = subst (λ (f : Found). Shapes c.args.self.now c.args.self.now f false) (sym c.in-End.is) (refl, refl)
