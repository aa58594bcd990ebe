-- Groups that stand one behind the other, and a volume that stands up to them.
use Rattle.std.proofs.Common.{◌≡◌, ℕ, zero, suc, ◌+◌, List, drop, refl, sym, ap, subst, ◌∙◌, inl, inr, arith}
use Rattle.std.proofs.lemmas.List.{drop-drop}
use Rattle.warc_scan.specs.Answers.{BeginsWithGroup}
use Rattle.fixity.specs.Verdicts.{GroupStands, StandsUpTo, Volume}
use Rattle.fixity.specs.declared.next.Next.TheVariants.{Stands, Missing}
use Rattle.fixity.specs.steps.Nexts.{IsNextGroup}
use Rattle.fixity.specs.steps.Runs.{IsFarthest, NoneStandsAt, RunsTo}

-- ---- a run goes on with the next group, or ends before it

pub run_goes_on : (namespace : List ℕ) (number : ℕ) (bytes : List ℕ) (n len more : ℕ) → RunsTo namespace number bytes n len
    → IsNextGroup namespace (number + n) (drop len bytes) (Stands more) → RunsTo namespace number bytes (n + 1) (len + more)
run_goes_on namespace number bytes n len more runs next =
    let stands : GroupStands namespace (number + n) bytes len (len + more) = record { group = next.0; begins = next.1; ends = ap (λ k. len + k) next.2 } in
    let one : suc n ≡ n + 1 = omega arith in
    subst (λ k. RunsTo namespace number bytes k (len + more)) one (len, runs, stands)

pub none_stands : (namespace : List ℕ) (number : ℕ) (bytes : List ℕ) (len : ℕ) → IsNextGroup namespace number (drop len bytes) Missing → NoneStandsAt namespace number bytes len
none_stands namespace number bytes len none to stands = none stands.group stands.begins

-- ---- a run behind a place

pub group_behind : (namespace : List ℕ) (number : ℕ) (bytes : List ℕ) (m place n from to : ℕ) → GroupStands namespace (number + m + n) (drop place bytes) from to
    → GroupStands namespace (number + (m + n)) bytes (place + from) (place + to)
group_behind namespace number bytes m place n from to is = record {
  group = is.group;
  begins = subst (λ k. BeginsWithGroup namespace k (drop (place + from) bytes) is.group) (omega arith)
      (subst (λ l. BeginsWithGroup namespace (number + m + n) l is.group) (drop-drop from place bytes ∙ ap (λ k. drop k bytes) (omega arith)) is.begins);
  ends = omega (arith, is.ends);
}

-- a run, and one from its end on
pub runs_on : (namespace : List ℕ) (number : ℕ) (bytes : List ℕ) (m place n len : ℕ) → RunsTo namespace number bytes m place
    → RunsTo namespace (number + m) (drop place bytes) n len → RunsTo namespace number bytes (m + n) (place + len)
runs_on namespace number bytes m place zero len runs none =
    let same : m ≡ m + 0 = omega arith in
    let at : place ≡ place + len = omega (arith, none) in
    subst (λ k. RunsTo namespace number bytes k (place + len)) same (subst (λ p. RunsTo namespace number bytes m p) at runs)
runs_on namespace number bytes m place (suc n) len runs (from, before, group) =
    let next : suc (m + n) ≡ m + suc n = omega arith in
    subst (λ k. RunsTo namespace number bytes k (place + len)) next
    (place + from, runs_on namespace number bytes m place n from runs before, group_behind namespace number bytes m place n from len group)

-- ---- a volume that stands up to a place, and a run from there on

module _ (volume : Volume) (bytes : List ℕ) (m place : ℕ) (stands : StandsUpTo volume bytes m place) where
  pub stands_on : (n len : ℕ) → RunsTo volume.namespace (volume.first + m) (drop place bytes) n len → StandsUpTo volume bytes (m + n) (place + len)
  stands_on zero len none =
      let same : m ≡ m + 0 = omega arith in
      let at : place ≡ place + len = omega (arith, none) in
      subst (λ k. StandsUpTo volume bytes k (place + len)) same (subst (λ p. StandsUpTo volume bytes m p) at stands)
  stands_on (suc n) len (from, before, group) =
      let next : suc (m + n) ≡ m + suc n = omega arith in
      subst (λ k. StandsUpTo volume bytes k (place + len)) next (place + from, stands_on n from before, group_behind volume.namespace volume.first bytes m place n from len group)

  pub none_behind : (n len : ℕ) → NoneStandsAt volume.namespace (volume.first + m + n) (drop place bytes) len
      → NoneStandsAt volume.namespace (volume.first + (m + n)) bytes (place + len)
  none_behind n len none to is = none (len + is.group.len) (record {
    group = is.group;
    begins = subst (λ k. BeginsWithGroup volume.namespace k (drop len (drop place bytes)) is.group) (omega arith)
        (subst (λ l. BeginsWithGroup volume.namespace (volume.first + (m + n)) l is.group) (sym (drop-drop len place bytes ∙ ap (λ k. drop k bytes) (omega arith))) is.begins);
    ends = refl;
  })

  -- all groups stand
  pub all_stand : (n len : ℕ) → RunsTo volume.namespace (volume.first + m) (drop place bytes) n len → m + n ≡ volume.count → IsFarthest volume bytes (m + n) (place + len)
  all_stand n len runs whole = record { stands = stands_on n len runs; far = inl whole }

  -- or one is missing
  pub one_is_missing : (n len : ℕ) → RunsTo volume.namespace (volume.first + m) (drop place bytes) n len
      → NoneStandsAt volume.namespace (volume.first + m + n) (drop place bytes) len → IsFarthest volume bytes (m + n) (place + len)
  one_is_missing n len runs none = record { stands = stands_on n len runs; far = inr (none_behind n len none) }
