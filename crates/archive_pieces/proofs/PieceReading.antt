-- What is read of a piece by its bytes alone.
use Rattle.std.proofs.Common.{◌≡◌, ◌≢◌, ℕ, Bool, true, false, List, [], ◌∷◌, ◌++◌, length, drop, ⊎_elim, refl, sym, ap, subst, ◌∙◌, length-append, arith}
use mathlib.Core.Bool.{true≢false}
use Rattle.std.proofs.lemmas.List.{append-nil}
use Rattle.capture.specs.Captures.{taken_back}
use Rattle.capture.specs.Tails.{IsCommitted, IsTail}
use Rattle.time_text.specs.Texts.{InRange}
use Rattle.warc_text.specs.Ids.{IsUuid}
use Rattle.warc_text.specs.Records.{group_text, info_text}
use Rattle.warc_text.specs.StandsFor.{commit_byte}
use Rattle.warc_text.proofs.GroupLaws.{groups_are_committed}
use Rattle.warc_text.proofs.InfoLaws.{begins-append, begins-info, committed, info_front}
use Rattle.warc_text.proofs.PrefixLaws.{groups_are_prefix_free}
use Rattle.warc_scan.specs.Answers.{BeginsWithGroup, HasNoGroup}
use Rattle.record_opening.specs.InfoAnswers.{BeginsWithInfo, HasNoInfo}
use Rattle.record_opening.specs.Rests.{IsEnd, IsUnfinished}
use Rattle.warc_scan.specs.Groups.{IsGroup, reference_in}
use Rattle.warc_scan.specs.declared.group.Group.{Group}
use Rattle.warc_scan.proofs.FoundTexts.{found_writable}
use Rattle.archive_pieces.specs.PieceParts.{BeginsWithFront, HasNoFront, IsBegunBy, IsNoGroup, IsNotBegun}
use Rattle.archive_pieces.specs.declared.parts.Front.{Front}

-- ---- a committed text is neither nothing nor a tail

not_nothing : (more : Bool) (bytes : List ℕ) → IsCommitted commit_byte bytes → IsEnd more bytes → ⊥
not_nothing more bytes is ends = omega (arith, is.more, ap (λ (l : List ℕ). length l) ends.0)

not_unfinished : (bytes : List ℕ) → IsCommitted commit_byte bytes → IsUnfinished false bytes → ⊥
not_unfinished bytes is unfinished =
    let tail : IsTail commit_byte bytes = subst (λ (l : List ℕ). IsTail commit_byte l) (append-nil bytes) (unfinished [] refl) in
    ⊎_elim (λ other. other is.begins) (λ one. omega (arith, one, is.more)) tail.unfinished

no_more : {T : Type 0} → false ≡ true → T
no_more e = absurd (true≢false (sym e))

-- ---- a warcinfo

info_is_committed : (namespace : List ℕ) (volume born : ℕ) (bytes rest : List ℕ) → bytes ≡ info_text namespace volume born ++ rest
    → IsCommitted commit_byte bytes
info_is_committed namespace volume born bytes rest is =
    subst (λ (l : List ℕ). IsCommitted commit_byte l) (sym is)
    (committed (info_text namespace volume born ++ rest) (begins-append (info_text namespace volume born) rest (begins-info namespace volume born)))

module _ (namespace : List ℕ) (volume : ℕ) (bytes : List ℕ) where
  pub no_front_end : IsEnd false bytes → HasNoFront namespace volume bytes
  no_front_end ends born rest date is = not_nothing false bytes (info_is_committed namespace volume born bytes rest is) ends

  pub no_front_tail : IsUnfinished false bytes → HasNoFront namespace volume bytes
  no_front_tail tail born rest date is = not_unfinished bytes (info_is_committed namespace volume born bytes rest is) tail

  module _ (uuid : IsUuid namespace) where
    begins : (born : ℕ) (rest : List ℕ) → InRange born → bytes ≡ info_text namespace volume born ++ rest
        → BeginsWithInfo volume bytes namespace born (length (info_text namespace volume born))
    begins born rest date is = record {
      text = info_text namespace volume born;
      rest = rest;
      composed = is;
      is = record { namespace_is = uuid; date = date; composed = refl; len_is = refl };
    }

    pub no_front_damaged : HasNoInfo volume false bytes → HasNoFront namespace volume bytes
    no_front_damaged none born rest date is =
        none [] namespace born (length (info_text namespace volume born)) refl
        (subst (λ (l : List ℕ). BeginsWithInfo volume l namespace born (length (info_text namespace volume born))) (sym (append-nil bytes)) (begins born rest date is))

    pub no_front_other : (own : List ℕ) (born len : ℕ) → BeginsWithInfo volume bytes own born len → own ≢ namespace → HasNoFront namespace volume bytes
    no_front_other own born len found other born₂ rest date is =
        other (info_front own namespace volume born born₂ found.rest rest found.is.namespace_is uuid
        (ap (λ (l : List ℕ). l ++ found.rest) (sym found.is.composed) ∙ (sym found.composed ∙ is))).0

  pub front_found : (own : List ℕ) (born len : ℕ) → BeginsWithInfo volume bytes own born len → own ≡ namespace
      → BeginsWithFront namespace volume bytes (record { born = born; len = len })
  front_found own born len found same = record {
    date = found.is.date;
    rest = found.rest;
    composed = found.composed ∙ (ap (λ (l : List ℕ). l ++ found.rest) found.is.composed
        ∙ ap (λ (n : List ℕ). info_text n volume born ++ found.rest) same);
    len_is = found.is.len_is ∙ (ap (λ (l : List ℕ). length l) found.is.composed ∙ ap (λ (n : List ℕ). length (info_text n volume born)) same);
  }

-- ---- a group

module _ (namespace : List ℕ) (number : ℕ) (bytes : List ℕ) where
  pub group_is_committed : (group : Group) → IsGroup namespace number bytes group → IsCommitted commit_byte bytes
  group_is_committed group is =
      subst (λ (l : List ℕ). IsCommitted commit_byte l) (sym is.composed)
      (groups_are_committed namespace number (taken_back group.stored) group.digest (reference_in group.same))

  pub no_group_end : IsEnd false bytes → IsNoGroup namespace number bytes
  no_group_end ends group is = not_nothing false bytes (group_is_committed group is) ends

  pub no_group_tail : IsUnfinished false bytes → IsNoGroup namespace number bytes
  no_group_tail tail group is = not_unfinished bytes (group_is_committed group is) tail

  pub no_group_damaged : HasNoGroup namespace number false bytes → IsNoGroup namespace number bytes
  no_group_damaged none group is =
      none [] group refl (record { text = bytes; rest = []; composed = refl; is = is })

  -- one that goes on behind it isn't it
  pub no_group_longer : (found : Group) → BeginsWithGroup namespace number bytes found → found.len ≢ length bytes → IsNoGroup namespace number bytes
  no_group_longer found begins other group is =
      let both = groups_are_prefix_free namespace number (taken_back found.stored) (taken_back group.stored) found.digest group.digest
      (reference_in found.same) (reference_in group.same) begins.rest []
      (found_writable namespace number begins.text found begins.is) (found_writable namespace number bytes group is)
      (ap (λ (l : List ℕ). l ++ begins.rest) (sym begins.is.composed) ∙ (sym begins.composed
      ∙ (is.composed ∙ sym (append-nil (group_text namespace number (taken_back group.stored) group.digest (reference_in group.same)))))) in
      let text : begins.text ≡ bytes = begins.is.composed ∙ (both.0 ∙ sym is.composed) in
      other (begins.is.places.len ∙ ap (λ (l : List ℕ). length l) text)

  none_behind : (text rest : List ℕ) → length (text ++ rest) ≡ length text → rest ≡ []
  none_behind text [] same = refl
  none_behind text (x ∷ rest) same = absurd (omega (arith, same, length-append text (x ∷ rest)))

  pub group_found : (found : Group) → BeginsWithGroup namespace number bytes found → found.len ≡ length bytes → IsGroup namespace number bytes found
  group_found found begins whole =
      let long : length (begins.text ++ begins.rest) ≡ length begins.text
      = ap (λ (l : List ℕ). length l) (sym begins.composed) ∙ (sym whole ∙ begins.is.places.len) in
      let rest = none_behind begins.text begins.rest long in
      subst (λ (l : List ℕ). IsGroup namespace number l found)
      (sym (begins.composed ∙ (ap (λ (l : List ℕ). begins.text ++ l) rest ∙ append-nil begins.text))) begins.is

-- ---- both

module _ (namespace : List ℕ) (volume number : ℕ) (bytes : List ℕ) where
  -- what stands behind the warcinfo
  pub behind_front : (front : Front) → BeginsWithFront namespace volume bytes front → (rest : List ℕ) → rest ≡ drop front.len bytes
      → bytes ≡ info_text namespace volume front.born ++ rest
  behind_front front begins rest is =
      let info = info_text namespace volume front.born in
      let cut : drop front.len bytes ≡ begins.rest
      = (λ i. drop (begins.len_is i) (begins.composed i)) ∙ dropped info begins.rest in
      begins.composed ∙ ap (λ (l : List ℕ). info ++ l) (sym cut ∙ sym is) where
        dropped : (xs ys : List ℕ) → drop (length xs) (xs ++ ys) ≡ ys
        dropped [] ys = refl
        dropped (x ∷ xs) ys = dropped xs ys

  pub begun_found : (front : Front) → BeginsWithFront namespace volume bytes front → (rest : List ℕ) → rest ≡ drop front.len bytes
      → (group : Group) → IsGroup namespace number rest group
      → IsBegunBy namespace volume number bytes (record { born = front.born; at = front.len; group = group })
  begun_found front begins rest cut group is = record {
    date = begins.date;
    text = rest;
    composed = behind_front front begins rest cut;
    at_is = begins.len_is;
    is = is;
  }

  pub not_begun : HasNoFront namespace volume bytes → IsNotBegun namespace volume number bytes
  not_begun none born text group date is found = none born text date is

  pub not_begun_group : IsUuid namespace → (front : Front) → BeginsWithFront namespace volume bytes front → (rest : List ℕ) → rest ≡ drop front.len bytes
      → IsNoGroup namespace number rest → IsNotBegun namespace volume number bytes
  not_begun_group uuid front begins rest cut none born text group date is found =
      let same = info_front namespace namespace volume front.born born rest text uuid uuid (sym (behind_front front begins rest cut) ∙ is) in
      none group (subst (λ (l : List ℕ). IsGroup namespace number l group) (sym same.2) found)
