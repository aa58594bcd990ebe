-- A file that isn't there has no bytes.
use Rattle.std.proofs.Common.{◌≡◌, ◌≤◌, ℕ, zero, suc, List, [], ◌∷◌, length, get_or, refl, arith}
use Rattle.disk_model.specs.Image.{Image, file_count, file_of, files_of}
use Rattle.disk_model.specs.declared.kind.Kind.TheVariants.{Cdxj}
use Rattle.checkpoint.specs.Checkpoints.{checkpoint_of}

missing : (files : List (List ℕ)) (k : ℕ) → length files ≤ k → get_or files k [] ≡ []
missing [] zero past = refl
missing [] (suc k) past = refl
missing (f ∷ files) zero past = absurd (omega (arith, past))
missing (f ∷ files) (suc k) past = missing files k (omega (arith, past))

pub missing_file : (image : Image) (volume : ℕ) → file_count image Cdxj ≤ volume → checkpoint_of image volume ≡ []
unfolding file_of
missing_file image volume past = missing (files_of image Cdxj) volume past
