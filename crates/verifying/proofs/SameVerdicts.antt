-- The verdicts on volumes whose counts the bytes bear out are one.
use Rattle.std.proofs.Common.{◌≡◌, ℕ, suc, ◌<◌, nat_eq, List, [], ◌∷◌, length, map, drop, All, refl, sym, ap, subst, ◌∙◌, arith}
use Rattle.std.specs.Prelude.{slice_get}
use Rattle.std.proofs.lemmas.List.Elements.{All-head, All-tail}
use Rattle.std.proofs.lemmas.Option.{same_Some}
use Rattle.archive_opening.proofs.OneCountLaws.{one_count_of_bytes}
use Rattle.archive_volumes.specs.Facts.{facts_of}
use Rattle.archive_volumes.specs.declared.volume_facts.VolumeFacts.{VolumeFacts}
use Rattle.disk_model.specs.Image.{Image, file_of}
use Rattle.disk_model.specs.declared.kind.Kind.TheVariants.{Warc}
use Rattle.fixity.proofs.OneVerdict.{one_verdict}
use Rattle.fixity.specs.Verdicts.{volume_of}
use Rattle.verifying.proofs.SoundVolumes.{facts_long}
use Rattle.verifying.specs.Verified.{VolumesVerifyOneWay}
use Rattle.verifying.specs.Verifies.{Checked, IsRight}

-- of the same volumes
same_verdicts : (namespace : List ℕ) (count : ℕ) (image : Image) (xs ys : List Checked)
    → map (λ (c : Checked). c.facts) xs ≡ map (λ (c : Checked). c.facts) ys
    → All (IsRight namespace count image) xs → All (IsRight namespace count image) ys → xs ≡ ys
same_verdicts namespace count image [] [] same a b = refl
same_verdicts namespace count image [] (y ∷ ys) same a b = absurd (omega (arith, ap length same))
same_verdicts namespace count image (x ∷ xs) [] same a b = absurd (omega (arith, ap length same))
same_verdicts namespace count image (x ∷ xs) (y ∷ ys) same a b =
    let P : Checked → Type 0 = IsRight namespace count image in
    let facts : x.facts ≡ y.facts = same_Some x.facts y.facts (ap (λ (l : List VolumeFacts). slice_get l 0) same) in
    let theirs : IsRight namespace count image (record { facts = x.facts; verdict = y.verdict }) =
    subst (λ (f : VolumeFacts). IsRight namespace count image (record { facts = f; verdict = y.verdict })) (sym facts) (All-head P y ys b) in
    let verdict : x.verdict ≡ y.verdict =
    one_verdict (volume_of x.facts.volume namespace x.facts.first x.facts.count (nat_eq (suc x.facts.volume) count)) (file_of image Warc x.facts.volume) x.verdict y.verdict (All-head P x xs a) theirs in
    let rest : xs ≡ ys = same_verdicts namespace count image xs ys (ap (drop 1) same) (All-tail P x xs a) (All-tail P y ys b) in
    λ i. record { facts = facts i; verdict = verdict i } ∷ rest i

pub volumes_verify_one_way : VolumesVerifyOneWay
volumes_verify_one_way image book other [] [] counts counts₂ all all₂ right right₂ = refl
volumes_verify_one_way image book other [] (y ∷ ys) counts counts₂ all all₂ right right₂ =
    let same = one_count_of_bytes image book other counts counts₂ in
    absurd (omega (arith, ap length (all ∙ same.facts ∙ sym all₂)))
volumes_verify_one_way image book other (x ∷ xs) ys counts counts₂ all all₂ right right₂ =
    let same = one_count_of_bytes image book other counts counts₂ in
    let some : 0 < length book.volumes = omega (arith, ap length all, facts_long 0 0 book.volumes) in
    let theirs : All (IsRight book.namespace (length (facts_of book)) image) ys =
    subst (λ (n : List ℕ). All (IsRight n (length (facts_of book)) image) ys) (sym (same.namespace some))
    (subst (λ (n : ℕ). All (IsRight other.namespace n image) ys) (sym (ap length same.facts)) right₂) in
    same_verdicts book.namespace (length (facts_of book)) image (x ∷ xs) ys (all ∙ same.facts ∙ sym all₂) right theirs
