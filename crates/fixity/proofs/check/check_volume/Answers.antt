use Rattle.std.proofs.Common.{◌≡◌, ℕ, List, drop, length, take, refl, sym, subst, ap, ◌∙◌, inl, inr, arith}
use Rattle.std.specs.Prelude.{MatchBool, min}
use Rattle.std.proofs.lemmas.List.{length-drop}
use Rattle.disk_model.specs.Image.{Image, file_of}
use Rattle.disk_model.specs.declared.kind.Kind.TheVariants.{Warc}
use Rattle.fixity.specs.Verdicts.{IsSoundRest, StandsUpTo, volume_of}
use Rattle.fixity.specs.steps.Nexts.{IsInfoEnd}
use Rattle.fixity.specs.steps.Runs.{IsFarthest}
use Rattle.fixity.proofs.check.check_volume.Goals as goal

pub returns-in_default-clause-verdict : goal.returns-in_default-clause-verdict
returns-in_default-clause-verdict g c = λ told.
    let read = subst (λ (i : Image). IsInfoEnd c.args.volume c.args.namespace.now (file_of i Warc c.args.volume) c.in_ok-start.field-0) (c.len.ensures.reading told)
    (c.in_ok-start.ensures.info told) in
    inl (refl, subst (λ o. IsInfoEnd c.args.volume c.args.namespace.now (file_of (g.D.Disk.reading c.args.disk.now) Warc c.args.volume) o) c.in_default.is read)

pub returns-then-found-count-clause-verdict : goal.returns-then-found-count-clause-verdict
returns-then-found-count-clause-verdict g c = λ told.
    let volume = volume_of c.args.volume c.args.namespace.now c.args.first c.args.count c.args.last in
    let found = c.in_ok-found.found in
    let far = subst (λ (i : Image). IsFarthest volume (file_of i Warc c.args.volume) found.groups found.place) (c.read_info.ensures.reading told ∙ c.len.ensures.reading told)
    (c.in_ok-found.ensures.found told) in
    elim far.far [
      | inl whole ↦ absurd (omega (arith, whole, c.if-found-count.true))
      | inr none ↦ inr (inl (found.groups, c.if-found-count.true, far.stands, none))
    ]

pub returns-clause-verdict : goal.returns-clause-verdict
returns-clause-verdict g c = λ told.
    let volume = volume_of c.args.volume c.args.namespace.now c.args.first c.args.count c.args.last in
    let file = file_of (g.D.Disk.reading c.args.disk.now) Warc c.args.volume in
    let found = c.in_ok-found.found in
    let first = c.read_info.ensures.reading told ∙ c.len.ensures.reading told in
    let far = subst (λ (i : Image). IsFarthest volume (file_of i Warc c.args.volume) found.groups found.place) first (c.in_ok-found.ensures.found told) in
    let all : found.groups ≡ c.args.count = omega (arith, c.in_ok-found.ensures.fits.0, c.if-found-count.false) in
    let bytes = c.in_ok-front.front.items in
    let shown : bytes ≡ take (length bytes) (drop found.place file) =
    subst (λ (i : Image). bytes ≡ take (length bytes) (drop found.place (file_of i Warc c.args.volume))) (c.find_groups.ensures.reading told ∙ first) (c.in_ok-front.ensures.bytes told) in
    let read = subst (λ (l : List ℕ). l ≡ take (length l) (drop found.place file)) (sym c.as_slice.ensures.value) shown in
    let long : length c.as_slice.result.now ≡ min 2 (length (drop found.place file)) =
    omega (arith, ap length c.as_slice.ensures.value, c.in_ok-front.ensures.len, length-drop found.place file, c.in_ok-len.ensures.length told) in
    let verdict = c.is_sound_rest.ensures (drop found.place file) long read in
    inr (inr (
      subst (λ n. StandsUpTo volume file n found.place) all far.stands,
      subst (λ b. MatchBool b (IsSoundRest c.args.last (drop found.place file)) (¬ (IsSoundRest c.args.last (drop found.place file)))) c.if-is_sound_rest.false verdict,
    ))
