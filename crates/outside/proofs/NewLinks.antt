-- Links as they were made, in lists.
use Rattle.std.proofs.Common.{◌≡◌, List, [], ◌∷◌, ◌++◌, Option, Some, None, refl}
use Rattle.std.specs.Prelude.{All}
use Rattle.std.specs.Option.{option_to_list}
use Rattle.std.proofs.lemmas.List.Elements.{All-head, All-rest}
use Rattle.outside.specs.MemoryDialer.{next_link}
use Rattle.outside.specs.MemoryLink.{LinkInMemory, IsNew}

-- what is given next is as it was made
pub IsNew-next_link : (links : List LinkInMemory) → All IsNew links → IsNew (next_link links)
IsNew-next_link [] all = refl
IsNew-next_link (link ∷ links) all = All-head IsNew link links all

-- what each has, each has that is left once the first was taken
pub All-left : {X : Type 0} (P : X → Type 0) (first : Option X) (all left : List X) →
    all ≡ option_to_list first ++ left → All P all → All P left
All-left P None all left split each = λ k d. rw (← split) (each k d)
All-left P (Some x) all left split each = All-rest P x left all split each
