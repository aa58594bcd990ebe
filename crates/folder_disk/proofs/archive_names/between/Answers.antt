-- A name's front and ending.
use Rattle.std.proofs.Common.{◌≡◌, ◌≢◌, ◌++◌, ◌∷◌, [], ℕ, List, MatchOption, Some, ◌∙◌, subst}
use Rattle.std.proofs.lemmas.Bool.Decides.{Decides-eqb}
use Rattle.std.proofs.lemmas.Slice.Eq.{strip_prefix_is, strip_suffix_is}
use Rattle.folder_disk.specs.NameTexts.{ending_of}
use Rattle.folder_disk.specs.steps.NameLaws.{stripped}
use Rattle.folder_disk.proofs.archive_names.between.Goals as goal

pub returns : goal.returns
returns c =
    let front : List ℕ = 118 ∷ 111 ∷ 108 ∷ 45 ∷ [] in
    let ending : c.as_bytes.result.now ≡ ending_of c.args.kind = c.as_bytes.ensures.value ∙ c.ending_of.ensures in
    subst (λ (e : List ℕ). MatchOption c.strip_suffix.result ((part : List ℕ) → c.args.name.now ≢ front ++ (part ++ e)) (λ part. c.args.name.now ≡ front ++ (part.now ++ e))) ending
    (stripped front c.as_bytes.result.now c.args.name.now c.in_ok-rest.rest.now c.strip_suffix.result
    (strip_prefix_is Decides-eqb c.args.name.now front (Some c.in_ok-rest.rest) c.in_ok-rest.ensures.cases)
    (strip_suffix_is Decides-eqb c.in_ok-rest.rest.now c.as_bytes.result.now c.strip_suffix.result c.strip_suffix.ensures.cases))
