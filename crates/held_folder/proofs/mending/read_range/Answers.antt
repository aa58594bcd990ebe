-- The range, as far as the file goes.
use Rattle.std.proofs.Common.{◌≡◌, ◌-◌, ◌∙◌, ℕ, List, Ok, Err, length, min, arith}
use Rattle.std.specs.Prelude.{Result, IfOk}
use Rattle.folder_model.specs.Folder.{bytes_of}
use Rattle.held_folder.specs.steps.SureLaws.{range_short}
use Rattle.held_folder.proofs.mending.read_range.Goals as goal

pub returns-clause-bytes : goal.returns-clause-bytes
returns-clause-bytes g c = λ told.
    let bytes : List ℕ = bytes_of (g.F.Folder.past c.args.folder.now) (g.F.Folder.name_of c.args.one.now.file) in
    let many : c.least-many.result ≡ min c.args.len (length bytes - c.args.at) = omega (arith, c.least-many.ensures, c.saturating_sub.ensures, c.requires told) in
    if_ok c.read_bytes.result (λ v is. is ∙ range_short bytes c.args.at c.args.len c.least-many.result many) (c.read_bytes.ensures.bytes told)
  where
    if_ok : {T E : Type 0} {P Q : T → Type 0} (r : Result T E) → ((v : T) → P v → Q v) → IfOk r P → IfOk r Q
    if_ok (Ok v) gives holds = gives v holds
    if_ok (Err e) gives holds = tt
