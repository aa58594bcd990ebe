-- Shares of a batch that were read as their groups.
use Rattle.std.proofs.Common.{◌≡◌, ◌≤◌, ℕ, zero, suc, ◌+◌, List, ◌++◌, length, take, drop, length-append, append_assoc, sym, ap, subst, ◌∙◌, arith}
use Rattle.std.proofs.lemmas.List.{drop-append-le, length-drop, take-append-drop}
use Rattle.fixity.specs.Verdicts.{GroupStands}
use Rattle.fixity.specs.steps.Runs.{RunsTo}
use Rattle.fixity.proofs.RunLaws.{runs_on}

-- a run ends inside the bytes
group_inside : (namespace : List ℕ) (number : ℕ) (bytes : List ℕ) (from to : ℕ) → from ≤ length bytes → GroupStands namespace number bytes from to → to ≤ length bytes
group_inside namespace number bytes from to inside is =
    let begins = is.begins in
    omega (arith, inside, is.ends, begins.is.places.len, ap length begins.composed, length-append begins.text begins.rest, length-drop from bytes)

pub runs_inside : (namespace : List ℕ) (number : ℕ) (bytes : List ℕ) (n place : ℕ) → RunsTo namespace number bytes n place → place ≤ length bytes
runs_inside namespace number bytes zero place none = omega (arith, none)
runs_inside namespace number bytes (suc n) place (from, before, group) =
    group_inside namespace (number + n) bytes from place (runs_inside namespace number bytes n from before) group

-- and stands where more follows
group_on : (namespace : List ℕ) (number : ℕ) (bytes after : List ℕ) (from to : ℕ) → from ≤ length bytes → GroupStands namespace number bytes from to
    → GroupStands namespace number (bytes ++ after) from to
group_on namespace number bytes after from to inside is = record {
  group = is.group;
  begins = record {
    text = is.begins.text;
    rest = is.begins.rest ++ after;
    composed = drop-append-le from bytes after inside ∙ ap (λ (t : List ℕ). t ++ after) is.begins.composed ∙ append_assoc is.begins.text is.begins.rest after;
    is = is.begins.is;
  };
  ends = is.ends;
}

runs_more : (namespace : List ℕ) (number : ℕ) (bytes after : List ℕ) (n place : ℕ) → RunsTo namespace number bytes n place → RunsTo namespace number (bytes ++ after) n place
runs_more namespace number bytes after zero place none = none
runs_more namespace number bytes after (suc n) place (from, before, group) =
    (from, runs_more namespace number bytes after n from before, group_on namespace (number + n) bytes after from place (runs_inside namespace number bytes n from before) group)

pub runs_in_all : (namespace : List ℕ) (number : ℕ) (bytes rest : List ℕ) (n place : ℕ) → bytes ≡ take (length bytes) rest → RunsTo namespace number bytes n place
    → RunsTo namespace number rest n place
runs_in_all namespace number bytes rest n place same runs =
    let all : bytes ++ drop (length bytes) rest ≡ rest = ap (λ (l : List ℕ). l ++ drop (length bytes) rest) same ∙ take-append-drop (length bytes) rest in
    subst (λ (l : List ℕ). RunsTo namespace number l n place) all (runs_more namespace number bytes (drop (length bytes) rest) n place runs)

-- a share that is read as its groups stands there
pub share_stands : (namespace : List ℕ) (number : ℕ) (bytes text : List ℕ) (at len groups : ℕ) → text ≡ take len (drop at bytes) → length text ≡ len
    → RunsTo namespace number text groups (length text) → RunsTo namespace number (drop at bytes) groups len
share_stands namespace number bytes text at len groups e long runs =
    let same : text ≡ take (length text) (drop at bytes) = subst (λ k. text ≡ take k (drop at bytes)) (sym long) e in
    subst (λ k. RunsTo namespace number (drop at bytes) groups k) long (runs_in_all namespace number text (drop at bytes) groups (length text) same runs)

-- one share more
pub front_goes_on : (namespace : List ℕ) (number : ℕ) (bytes : List ℕ) (n place before at groups len : ℕ) → RunsTo namespace number bytes n place
    → before ≡ n → at ≡ place → RunsTo namespace (number + before) (drop at bytes) groups len → RunsTo namespace number bytes (n + groups) (place + len)
front_goes_on namespace number bytes n place before at groups len runs first begins share =
    runs_on namespace number bytes n place groups len runs
    (subst (λ k. RunsTo namespace (number + k) (drop place bytes) groups len) first (subst (λ p. RunsTo namespace (number + before) (drop p bytes) groups len) begins share))

-- no groups have no length
pub no_run : (namespace : List ℕ) (number : ℕ) (bytes : List ℕ) (n place : ℕ) → n ≡ 0 → RunsTo namespace number bytes n place → place ≡ 0
no_run namespace number bytes zero place e none = none
no_run namespace number bytes (suc n) place e runs = absurd (omega (arith, e))
