-- What the scanner tells of the bytes that were read, of all that a file has there.
use Rattle.std.proofs.Common.{◌≡◌, ◌<◌, ◌≤◌, ℕ, Bool, true, false, List, [], ◌++◌, length, take, drop, nat_lt, slice_index, refl, sym, ap, subst, ◌∙◌, inl, inr, ⊎_elim, arith, length-append}
use Rattle.std.proofs.lemmas.Bool.{cases_eq, ltb-false, ltb-true}
use Rattle.std.proofs.lemmas.List.{append_assoc, drop_all, get_or_append_left, length-drop, take-append-drop}
use Rattle.capture.specs.Tails.{IsCommitted, IsTail}
use Rattle.warc_scan.specs.Answers.{BeginsWithGroup, GroupsReach, HasNoGroup}
use Rattle.record_opening.specs.InfoAnswers.{BeginsWithInfo, HasNoInfo, InfosReach}
use Rattle.record_opening.specs.Rests.{IsCommittedRest, IsEnd, IsUnfinished, MayFollow}
use Rattle.warc_scan.specs.declared.group.Group.{Group}
use Rattle.warc_text.specs.StandsFor.{commit_byte}
use Rattle.volume_scan.specs.steps.Next.{HasInfoText}
use Rattle.volume_scan.specs.Placed.{HasGroupText}

-- a text that begins the bytes isn't longer
pub group_fits : (namespace : List ℕ) (number : ℕ) (bytes : List ℕ) (room : ℕ) (group : Group) → length bytes ≤ room
    → BeginsWithGroup namespace number bytes group → HasGroupText namespace number room group
group_fits namespace number bytes room group within begins = record {
  text = begins.text;
  is = begins.is;
  fits = omega (arith, within, ap length begins.composed, length-append begins.text begins.rest);
}

pub info_fits : (volume : ℕ) (bytes namespace : List ℕ) (born len : ℕ) → BeginsWithInfo volume bytes namespace born len → HasInfoText volume namespace born len
info_fits volume bytes namespace born len begins = record { text = begins.text; is = begins.is }

-- the first byte of bytes, with more behind them
first_is : (bytes after : List ℕ) → 0 < length bytes → slice_index (bytes ++ after) 0 ≡ slice_index bytes 0
first_is bytes after some = get_or_append_left bytes after 0 0 some

committed_on : (bytes after : List ℕ) → IsCommitted commit_byte bytes → IsCommitted commit_byte (bytes ++ after)
committed_on bytes after is = record {
  begins = first_is bytes after (omega (arith, is.more)) ∙ is.begins;
  more = omega (arith, is.more, length-append bytes after);
}

tail_on : (bytes after : List ℕ) → 2 ≤ length bytes → IsTail commit_byte bytes → IsTail commit_byte (bytes ++ after)
tail_on bytes after two is = record {
  some = omega (arith, two, length-append bytes after);
  unfinished = ⊎_elim (λ other. inl (λ same. other (sym (first_is bytes after (omega (arith, two))) ∙ same))) (λ one. absurd (omega (arith, two, one))) is.unfinished;
}

-- what follows the bytes
follows_by : (more : Bool) (after : List ℕ) → (more ≡ true → 0 < length after) → (more ≡ false → after ≡ []) → MayFollow more after
follows_by true after some none = some refl
follows_by false after some none = none refl

nothing_follows : (more : Bool) (after : List ℕ) → more ≡ false → MayFollow more after → after ≡ []
nothing_follows true after is follows = cc is
nothing_follows false after is follows = follows

module _ (bytes rest : List ℕ) (room : ℕ) (long : length rest ≡ room) (same : bytes ≡ take (length bytes) rest) where
  abbrev more : Bool
  more = nat_lt (length bytes) room

  goes_on : nat_lt (length bytes) room ≡ true → length bytes < length rest
  goes_on is = omega (arith, ltb-true (length bytes) room is, long)

  ends : nat_lt (length bytes) room ≡ false → length rest ≤ length bytes
  ends is = omega (arith, ltb-false (length bytes) room is, long)

  abbrev after : List ℕ
  after = drop (length bytes) rest

  all : bytes ++ after ≡ rest
  all = ap (λ (l : List ℕ). l ++ after) same ∙ take-append-drop (length bytes) rest

  follows : MayFollow more after
  follows = follows_by more after (λ is. omega (arith, goes_on is, length-drop (length bytes) rest)) (λ is. drop_all (length bytes) rest (ends is))

  pub nothing_there : IsEnd (nat_lt (length bytes) room) bytes → rest ≡ []
  nothing_there is = sym all ∙ (λ i. is.0 i ++ nothing_follows more after is.1 follows i)

  pub tail_there : IsUnfinished (nat_lt (length bytes) room) bytes → IsTail commit_byte rest
  tail_there is = subst (IsTail commit_byte) all (is after follows)

  pub committed_there : IsCommittedRest (nat_lt (length bytes) room) bytes → IsCommitted commit_byte rest
  committed_there is = subst (IsCommitted commit_byte) all (is after follows)

  -- where they are no unfinished tail, two bytes begin with the commit byte
  pub committed_unless_tail : 2 ≤ length bytes → ¬ (IsUnfinished (nat_lt (length bytes) room) bytes) → IsCommitted commit_byte rest
  committed_unless_tail two no_tail =
      elim (cases_eq (slice_index bytes 0) commit_byte) [
        | inl same ↦ subst (IsCommitted commit_byte) all (committed_on bytes after (record { begins = same; more = omega (arith, two) }))
        | inr other ↦ absurd (no_tail (λ later follows. tail_on bytes later two (record { some = omega (arith, two); unfinished = inl other })))
      ]

  module _ (namespace : List ℕ) (number : ℕ) where
    pub group_there : (group : Group) → BeginsWithGroup namespace number bytes group → BeginsWithGroup namespace number rest group
    group_there group begins = record {
      text = begins.text;
      rest = begins.rest ++ after;
      composed = sym all ∙ ap (λ (l : List ℕ). l ++ after) begins.composed ∙ append_assoc begins.text begins.rest after;
      is = begins.is;
    }

    pub no_group_there : HasNoGroup namespace number (nat_lt (length bytes) room) bytes → (group : Group) → ¬ (BeginsWithGroup namespace number rest group)
    no_group_there none group begins = none after group follows (subst (λ (l : List ℕ). BeginsWithGroup namespace number l group) (sym all) begins)

    pub group_too_long : (n : ℕ) → GroupsReach namespace number bytes n → room < n → (group : Group) → ¬ (BeginsWithGroup namespace number rest group)
    group_too_long n reach short group begins =
        let reached = reach after group (subst (λ (l : List ℕ). BeginsWithGroup namespace number l group) (sym all) begins) in
        omega (arith, reached, short, long, begins.is.places.len, ap length begins.composed, length-append begins.text begins.rest)

  module _ (volume : ℕ) where
    pub info_there : (namespace : List ℕ) (born len : ℕ) → BeginsWithInfo volume bytes namespace born len → BeginsWithInfo volume rest namespace born len
    info_there namespace born len begins = record {
      text = begins.text;
      rest = begins.rest ++ after;
      composed = sym all ∙ ap (λ (l : List ℕ). l ++ after) begins.composed ∙ append_assoc begins.text begins.rest after;
      is = begins.is;
    }

    pub no_info_there : HasNoInfo volume (nat_lt (length bytes) room) bytes → (namespace : List ℕ) (born len : ℕ) → ¬ (BeginsWithInfo volume rest namespace born len)
    no_info_there none namespace born len begins = none after namespace born len follows (subst (λ (l : List ℕ). BeginsWithInfo volume l namespace born len) (sym all) begins)

    pub info_too_long : (n : ℕ) → InfosReach volume bytes n → room < n → (namespace : List ℕ) (born len : ℕ) → ¬ (BeginsWithInfo volume rest namespace born len)
    info_too_long n reach short namespace born len begins =
        let reached = reach after namespace born len (subst (λ (l : List ℕ). BeginsWithInfo volume l namespace born len) (sym all) begins) in
        omega (arith, reached, short, long, begins.is.len_is, ap length begins.composed, length-append begins.text begins.rest)
