-- A file that was made is there, and stays there when it is written.
use Rattle.std.proofs.Common.{◌≡◌, ℕ, ◌<◌, List, ap, ◌∙◌, arith}
use Rattle.disk_model.specs.Image.{Image, file_count, with_file, with_new}
use Rattle.disk_model.specs.steps.ImageLaws.{file_count-with_file, file_count-with_new}
use Rattle.disk_model.specs.declared.kind.Kind.{Kind}

pub is_there : (old new : Image) (kind : Kind) (file : ℕ) → file ≡ file_count old kind → new ≡ with_new old kind → file < file_count new kind
is_there old new kind file number is =
    omega (arith, number, ap (λ (image : Image). file_count image kind) is ∙ file_count-with_new old kind)

pub still_there : (old new : Image) (kind : Kind) (file : ℕ) (bytes : List ℕ) → new ≡ with_file old kind file bytes
    → file < file_count old kind → file < file_count new kind
still_there old new kind file bytes is there =
    omega (arith, there, ap (λ (image : Image). file_count image kind) is ∙ file_count-with_file old kind file bytes kind)
