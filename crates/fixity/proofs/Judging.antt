-- What the bytes that were read tell of all that a volume has there.
use Rattle.std.proofs.Common.{◌≡◌, ◌<◌, ◌≤◌, ℕ, ◌+◌, ◌-◌, Bool, true, false, List, [], ◌++◌, length, take, drop, nat_lt, slice_index, refl, sym, ap, subst, ◌∙◌, inl, inr, arith, length-append}
use Rattle.std.specs.Prelude.{min}
use Rattle.std.proofs.lemmas.Bool.{ltb-false, ltb-true}
use Rattle.std.proofs.lemmas.List.{append_assoc, drop_all, drop-take, get_or_append_left, length-drop, take-append-drop}
use Rattle.capture.specs.Captures.{taken_back}
use Rattle.capture.specs.Tails.{IsCommitted, IsRest, IsTail}
use Rattle.warc_scan.specs.Answers.{BeginsWithGroup, GroupsReach, HasNoGroup}
use Rattle.record_opening.specs.InfoAnswers.{BeginsWithInfo, HasNoInfo}
use Rattle.record_opening.specs.Rests.{IsEnd, IsUnfinished, MayFollow}
use Rattle.warc_scan.specs.Groups.{reference_in}
use Rattle.warc_scan.specs.Outlines.{BeginsWithOutline}
use Rattle.warc_scan.specs.declared.group.Group.{Group}
use Rattle.warc_scan.specs.declared.outline.Outline.{Outline}
use Rattle.warc_text.specs.Records.{info_most}
use Rattle.warc_text.specs.StandsFor.{commit_byte}
use Rattle.warc_text.proofs.GroupLaws.{groups_are_committed}
use Rattle.warc_text.proofs.InfoLaws.{info_front, infos_are_committed}
use Rattle.fixity.specs.Verdicts.{InfoEndsAt}

-- ---- what begins with a committed text is neither nothing nor a tail

rest_is_uncommitted : (text rest bytes : List ℕ) → bytes ≡ text ++ rest → IsCommitted commit_byte text → IsRest commit_byte bytes → ⊥
rest_is_uncommitted text rest bytes e is (inl none) = omega (arith, is.more, ap length e, ap length none, length-append text rest)
rest_is_uncommitted text rest bytes e is (inr tail) =
    let first : slice_index bytes 0 ≡ commit_byte = ap (λ (l : List ℕ). slice_index l 0) e ∙ get_or_append_left text rest 0 0 (omega (arith, is.more)) ∙ is.begins in
    elim tail.unfinished [
      | inl other ↦ other first
      | inr one ↦ omega (arith, one, is.more, ap length e, length-append text rest)
    ]

none_in_rest : (namespace : List ℕ) (number : ℕ) (bytes : List ℕ) → IsRest commit_byte bytes → (group : Group) → BeginsWithGroup namespace number bytes group → ⊥
none_in_rest namespace number bytes rest group begins =
    rest_is_uncommitted begins.text begins.rest bytes begins.composed
    (subst (IsCommitted commit_byte) (sym begins.is.composed) (groups_are_committed namespace number (taken_back group.stored) group.digest (reference_in group.same)))
    rest

no_info_in_rest : (volume : ℕ) (bytes namespace : List ℕ) (born len : ℕ) → IsRest commit_byte bytes → BeginsWithInfo volume bytes namespace born len → ⊥
no_info_in_rest volume bytes namespace born len rest begins =
    rest_is_uncommitted begins.text begins.rest bytes begins.composed
    (subst (IsCommitted commit_byte) (sym begins.is.composed) (infos_are_committed namespace volume born)) rest

-- ---- what follows the bytes

follows_by : (more : Bool) (after : List ℕ) → (more ≡ true → 0 < length after) → (more ≡ false → after ≡ []) → MayFollow more after
follows_by true after some none = some refl
follows_by false after some none = none refl

nothing_follows : (more : Bool) (after : List ℕ) → more ≡ false → MayFollow more after → after ≡ []
nothing_follows true after is follows = cc is
nothing_follows false after is follows = follows

module _ (bytes rest : List ℕ) (room : ℕ) (long : length rest ≡ room) (same : bytes ≡ take (length bytes) rest) where
  goes_on : nat_lt (length bytes) room ≡ true → length bytes < length rest
  goes_on is = omega (arith, ltb-true (length bytes) room is, long)

  ends : nat_lt (length bytes) room ≡ false → length rest ≤ length bytes
  ends is = omega (arith, ltb-false (length bytes) room is, long)

  abbrev after : List ℕ
  after = drop (length bytes) rest

  all : bytes ++ after ≡ rest
  all = ap (λ (l : List ℕ). l ++ after) same ∙ take-append-drop (length bytes) rest

  follows : MayFollow (nat_lt (length bytes) room) after
  follows = follows_by (nat_lt (length bytes) room) after (λ is. omega (arith, goes_on is, length-drop (length bytes) rest)) (λ is. drop_all (length bytes) rest (ends is))

  nothing_there : IsEnd (nat_lt (length bytes) room) bytes → IsRest commit_byte rest
  nothing_there is = inl (sym all ∙ (λ i. is.0 i ++ nothing_follows (nat_lt (length bytes) room) after is.1 follows i))

  tail_there : IsUnfinished (nat_lt (length bytes) room) bytes → IsRest commit_byte rest
  tail_there is = inr (subst (IsTail commit_byte) all (is after follows))

  module _ (namespace : List ℕ) (number : ℕ) where
    pub group_there : (outline : Outline) → BeginsWithOutline namespace number bytes outline → (group : Group) × BeginsWithGroup namespace number rest group × (outline.len ≡ group.len)
    group_there outline is =
        let begins = is.1 in (
          is.0,
          record {
            text = begins.text;
            rest = begins.rest ++ after;
            composed = sym all ∙ ap (λ (l : List ℕ). l ++ after) begins.composed ∙ append_assoc begins.text begins.rest after;
            is = begins.is;
          },
          is.2.len_is,
        )

    pub none_at_end : IsEnd (nat_lt (length bytes) room) bytes → (group : Group) → ¬ (BeginsWithGroup namespace number rest group)
    none_at_end is group begins = none_in_rest namespace number rest (nothing_there is) group begins

    pub none_at_tail : IsUnfinished (nat_lt (length bytes) room) bytes → (group : Group) → ¬ (BeginsWithGroup namespace number rest group)
    none_at_tail is group begins = none_in_rest namespace number rest (tail_there is) group begins

    pub none_there : HasNoGroup namespace number (nat_lt (length bytes) room) bytes → (group : Group) → ¬ (BeginsWithGroup namespace number rest group)
    none_there none group begins = none after group follows (subst (λ (l : List ℕ). BeginsWithGroup namespace number l group) (sym all) begins)

    pub too_long : (n : ℕ) → GroupsReach namespace number bytes n → room < n → (group : Group) → ¬ (BeginsWithGroup namespace number rest group)
    too_long n reach short group begins =
        let reached = reach after group (subst (λ (l : List ℕ). BeginsWithGroup namespace number l group) (sym all) begins) in
        omega (arith, reached, short, long, begins.is.places.len, ap length begins.composed, length-append begins.text begins.rest)

  module _ (volume : ℕ) where
    pub info_there : (namespace : List ℕ) (born len : ℕ) → BeginsWithInfo volume bytes namespace born len → InfoEndsAt volume namespace rest len
    info_there namespace born len begins = record {
      born = born;
      begins = record {
        text = begins.text;
        rest = begins.rest ++ after;
        composed = sym all ∙ ap (λ (l : List ℕ). l ++ after) begins.composed ∙ append_assoc begins.text begins.rest after;
        is = begins.is;
      };
    }

    -- of another namespace
    pub other_info_there : (found namespace : List ℕ) (born len : ℕ) → BeginsWithInfo volume bytes found born len → ¬ (found ≡ namespace)
        → (place : ℕ) → ¬ (InfoEndsAt volume namespace rest place)
    unfolding info_there
    other_info_there found namespace born len begins other place info =
        let here = (info_there found born len begins).begins in
        let there = info.begins in
        let apart = sym (here.composed ∙ ap (λ t. t ++ here.rest) here.is.composed) ∙ there.composed ∙ ap (λ t. t ++ there.rest) there.is.composed in
        other (info_front found namespace volume born info.born here.rest there.rest here.is.namespace_is there.is.namespace_is apart).0

    pub no_info_at_end : IsEnd (nat_lt (length bytes) room) bytes → (namespace : List ℕ) (place : ℕ) → ¬ (InfoEndsAt volume namespace rest place)
    no_info_at_end is namespace place info = no_info_in_rest volume rest namespace info.born place (nothing_there is) info.begins

    pub no_info_at_tail : IsUnfinished (nat_lt (length bytes) room) bytes → (namespace : List ℕ) (place : ℕ) → ¬ (InfoEndsAt volume namespace rest place)
    no_info_at_tail is namespace place info = no_info_in_rest volume rest namespace info.born place (tail_there is) info.begins

    pub no_info_there : HasNoInfo volume (nat_lt (length bytes) room) bytes → (namespace : List ℕ) (place : ℕ) → ¬ (InfoEndsAt volume namespace rest place)
    no_info_there none namespace place info =
        none after namespace info.born place follows (subst (λ (l : List ℕ). BeginsWithInfo volume l namespace info.born place) (sym all) info.begins)

-- a text that begins the bytes isn't longer
pub outline_fits : (namespace : List ℕ) (number : ℕ) (bytes : List ℕ) (outline : Outline) → BeginsWithOutline namespace number bytes outline → outline.len ≤ length bytes
outline_fits namespace number bytes outline is =
    omega (arith, is.2.len_is, is.1.is.places.len, ap length is.1.composed, length-append is.1.text is.1.rest)

pub info_fits : (volume : ℕ) (bytes namespace : List ℕ) (born len : ℕ) → BeginsWithInfo volume bytes namespace born len → len ≤ length bytes
info_fits volume bytes namespace born len begins =
    omega (arith, begins.is.len_is, ap length begins.composed, length-append begins.text begins.rest)

-- no more is asked for than a warcinfo may have, so that enough was read
pub info_is_read : (read room n : ℕ) → nat_lt read room ≡ true → min info_most room ≤ read → read < n → n ≤ info_most → ⊥
info_is_read read room n more enough needs little = omega (arith, ltb-true read room more, enough, needs, little)

-- what stands behind a place, of the bytes that were read and of all that there are
pub behind_place : (rest bytes : List ℕ) (place : ℕ) → place ≤ length bytes → bytes ≡ take (length bytes) rest
    → drop place bytes ≡ take (length (drop place bytes)) (drop place rest)
behind_place rest bytes place within same =
    let m = length bytes - place in
    let all : length bytes ≡ place + m = omega (arith, within) in
    ap (drop place) (same ∙ ap (λ (n : ℕ). take n rest) all) ∙ drop-take place m rest ∙ ap (λ (n : ℕ). take n (drop place rest)) (sym (length-drop place bytes))

pub record IsBehind (rest behind : List ℕ) (room place : ℕ) : Type 0 where
  pub long : length (drop place rest) ≡ room - place
  pub same : behind ≡ take (length behind) (drop place rest)

pub is_behind : (rest bytes behind : List ℕ) (room place : ℕ) → place ≤ length bytes → length rest ≡ room → bytes ≡ take (length bytes) rest → behind ≡ drop place bytes
    → IsBehind rest behind room place
is_behind rest bytes behind room place within long same e = record {
  long = omega (arith, length-drop place rest, long);
  same = subst (λ (l : List ℕ). l ≡ take (length l) (drop place rest)) (sym e) (behind_place rest bytes place within same);
}
