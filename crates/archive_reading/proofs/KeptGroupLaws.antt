-- The group of a capture, as it is read by its place.
use Rattle.std.proofs.Common.{◌≡◌, ℕ, suc, ◌+◌, ◌-◌, ◌^◌, ◌<◌, ◌≤◌, false, List, [], ◌∷◌, ◌++◌, length, Some, refl, sym, ap, subst, ◌∙◌, ⊎_elim, arith, append-nil, length-append, take}
use Rattle.std.specs.Prelude.{drop, slice_get}
use Rattle.std.proofs.lemmas.Option.{same_Some}
use Rattle.std.proofs.Math.Seq.{drop-append-add, take-append-add}
use Rattle.capture.proofs.GrowthLaws.{grows_from_itself}
use Rattle.capture.specs.Captures.{taken_back}
use Rattle.capture.specs.Tails.{IsCommitted, IsTail}
use Rattle.capture.specs.declared.book.Book.{Book}
use Rattle.warc_scan.specs.Groups.{IsGroup, reference_in}
use Rattle.warc_scan.specs.Answers.{BeginsWithGroup, HasNoGroup}
use Rattle.record_opening.specs.Rests.{IsUnfinished}
use Rattle.warc_scan.specs.declared.group.Group.{Group}
use Rattle.warc_scan.specs.declared.outline.Outline.{Outline}
use Rattle.warc_text.proofs.GroupLaws.{groups_are_committed}
use Rattle.warc_text.proofs.PrefixLaws.{groups_are_prefix_free, groups_tell_their_captures}
use Rattle.warc_text.specs.Books.{AreVolumeTexts, IsGroupText}
use Rattle.warc_text.specs.Groups.{IsWritable}
use Rattle.warc_text.specs.Records.{group_text}
use Rattle.warc_text.specs.Sound.{IsSound}
use Rattle.warc_text.specs.StandsFor.{commit_byte}
use Rattle.warc_scan.proofs.FoundGroups.{group_found, group_is_found}
use Rattle.warc_scan.proofs.FoundTexts.{found_writable}
use Rattle.archive_volumes.proofs.GroupPlaces.{each_ends, ends_in_text}
use Rattle.archive_reading.specs.KeptGroups.{EndsGroup, EndsWithin, IsFirstIn, IsFrontOf, IsGroupOf, IsKeptGroup, IsNextAt}
use Rattle.archive_reading.specs.Rereading.{BeginWithText, Reaches}
use Rattle.archive_volumes.specs.Spots.{ArePlaced, AreWithin, HasGroupAt, part, text_at}
use Rattle.archive_reading.specs.declared.kept_group.KeptGroup.{KeptGroup}
use Rattle.archive_reading.specs.declared.kept_group.KeptGroup.TheVariants as kept
use Rattle.archive_volumes.specs.declared.spot.Spot.{Spot}

-- ---- where a group ends

module _ (texts : List (List ℕ)) (spots : List Spot) (number : ℕ) (spot : Spot) (here : slice_get spots number ≡ Some spot) where
  pub within_next : AreWithin texts spots → (end : ℕ) → IsNextAt spots number spot.volume end → EndsWithin texts spots number end
  within_next are end behind =
      let next : Spot = behind.next in
      record {
        within = λ other at.
            let same : spot ≡ other = same_Some spot other (sym here ∙ at) in
            omega (
              arith,
              behind.is,
              (are.each (suc number) next behind.placed).begins,
              ap (λ (k : ℕ). length (text_at texts k)) (behind.same ∙ ap (λ (s : Spot). s.volume) same),
            );
        reaches = λ other at.
            let same : spot ≡ other = same_Some spot other (sym here ∙ at) in
            record {
              next = λ again there _. omega (arith, behind.is, ap (λ (s : Spot). s.at) (same_Some again next (sym there ∙ behind.placed)));
              last = λ none. absurd (none next behind.placed (behind.same ∙ ap (λ (s : Spot). s.volume) same));
            };
      }

  pub within_text : AreWithin texts spots → (end : ℕ) → end ≡ length (text_at texts spot.volume) → EndsWithin texts spots number end
  within_text are end is = record {
    within = λ other at.
        let same : spot ≡ other = same_Some spot other (sym here ∙ at) in
        omega (arith, is, ap (λ (s : Spot). length (text_at texts s.volume)) same);
    reaches = λ other at.
        let same : spot ≡ other = same_Some spot other (sym here ∙ at) in
        record {
          next = λ next there volume. omega (
            arith,
            is,
            (are.each (suc number) next there).begins,
            ap (λ (k : ℕ). length (text_at texts k)) (volume ∙ ap (λ (s : Spot). s.volume) (sym same)),
          );
          last = λ _. omega (arith, is, ap (λ (s : Spot). length (text_at texts s.volume)) same);
        };
  }

module _ (texts : List (List ℕ)) (book : Book) (spots : List Spot) (number : ℕ) (placed : ArePlaced texts book spots) (spot : Spot)
    (here : slice_get spots number ≡ Some spot) where
  at_of : (k : ℕ) (other : Spot) → slice_get spots k ≡ Some other → HasGroupAt book k (text_at texts other.volume) other.at
  at_of k other at = (placed.each k other at).group

  pub ends_at_next : (end : ℕ) → IsNextAt spots number spot.volume end → EndsGroup book spots number end
  ends_at_next end behind =
      let next : Spot = behind.next in
      record {
        reaches = λ other group at g.
            let same : spot ≡ other = same_Some spot other (sym here ∙ at) in
            omega (
              arith,
              behind.is,
              placed.apart number other next group at behind.placed (behind.same ∙ ap (λ (s : Spot). s.volume) same) g,
            );
      }

  pub ends_at_text : (end : ℕ) → end ≡ length (text_at texts spot.volume) → EndsGroup book spots number end
  ends_at_text end is = record {
    reaches = λ other group at g.
        let same : spot ≡ other = same_Some spot other (sym here ∙ at) in
        let text : List ℕ = text_at texts other.volume in
        let own : HasGroupAt book number text other.at = at_of number other at in
        omega (
          arith,
          each_ends book book number other.at (length text) text group (grows_from_itself book) own (ends_in_text book number other.at text own) g,
          is,
          ap (λ (s : Spot). length (text_at texts s.volume)) same,
        );
  }

-- ---- the group with which bytes begin

no_more : (xs : List ℕ) → xs ++ [] ≡ xs
no_more xs = append-nil xs

begins_committed : (namespace : List ℕ) (number : ℕ) (bytes : List ℕ) (group : Group) → BeginsWithGroup namespace number bytes group → IsCommitted commit_byte bytes
begins_committed namespace number bytes group begins =
    subst (IsCommitted commit_byte) (sym begins.composed)
    (goes_on begins.text begins.rest
    (subst (IsCommitted commit_byte) (sym begins.is.composed)
    (groups_are_committed namespace number (taken_back group.stored) group.digest (reference_in group.same))))
  where
    goes_on : (text after : List ℕ) → IsCommitted commit_byte text → IsCommitted commit_byte (text ++ after)
    goes_on [] after is = absurd (omega (arith, is.more))
    goes_on (b ∷ text) after is = record { begins = is.begins; more = omega (arith, is.more, length-append text after) }

pub none_in_nothing : (namespace : List ℕ) (number : ℕ) (bytes : List ℕ) → bytes ≡ [] → (group : Group) → BeginsWithGroup namespace number bytes group → ⊥
none_in_nothing namespace number bytes none group begins =
    omega (arith, ap length none, (begins_committed namespace number bytes group begins).more)

pub none_in_tail : (namespace : List ℕ) (number : ℕ) (bytes : List ℕ) → IsUnfinished false bytes → (group : Group) → BeginsWithGroup namespace number bytes group → ⊥
none_in_tail namespace number bytes unfinished group begins =
    let tail : IsTail commit_byte bytes = subst (IsTail commit_byte) (no_more bytes) (unfinished [] refl) in
    let is = begins_committed namespace number bytes group begins in
    ⊎_elim (λ other. other is.begins) (λ one. omega (arith, one, is.more)) tail.unfinished

pub none_in_damage : (namespace : List ℕ) (number : ℕ) (bytes : List ℕ) → HasNoGroup namespace number false bytes → (group : Group)
    → BeginsWithGroup namespace number bytes group → ⊥
none_in_damage namespace number bytes none group begins =
    none [] group refl (subst (λ (b : List ℕ). BeginsWithGroup namespace number b group) (sym (no_more bytes)) begins)

-- ---- where the disk tells

-- the bytes from a group's place to where it ends, or behind that, begin with it
part_begins : (text front group rest : List ℕ) (at end : ℕ) → text ≡ front ++ (group ++ rest) → at ≡ length front → at + length group ≤ end
    → part text at (end - at) ≡ group ++ take (end - at - length group) rest
part_begins text front group rest at end composed is reaches =
    let long : end - at ≡ length group + (end - at - length group) = omega (arith, reaches) in
    let from : at ≡ length front + 0 = omega (arith, is) in
    ap (λ (n : ℕ). take (end - at) (drop n text)) from
    ∙ ap (λ (t : List ℕ). take (end - at) (drop (length front + 0) t)) composed
    ∙ ap (take (end - at)) (drop-append-add front (group ++ rest) 0)
    ∙ ap (λ (n : ℕ). take n (group ++ rest)) long
    ∙ take-append-add group rest (end - at - length group)

module _ (book : Book) (sound : IsSound book) (number : ℕ) (group : List ℕ) (g : IsGroupText book number group) (short : length group < 2 ^ 63)
    (all rest : List ℕ) (composed : all ≡ group ++ rest) where
  abbrev found : Group
  found = group_found book sound number group g short

  found_is : IsGroup book.namespace number group found
  found_is = group_is_found book sound number group g short

  -- what is found there is that group
  same_as : (bytes : List ℕ) (outline : Outline) → IsFrontOf book.namespace number all bytes outline → IsGroupOf book number bytes outline
  same_as bytes outline front =
      let other : Group = front.is.group in
      let is = front.is.is in
      let writable : IsWritable (taken_back other.stored) other.digest (reference_in other.same) = found_writable book.namespace number bytes other is in
      let mine : IsWritable (taken_back found.stored) found.digest (reference_in found.same) = found_writable book.namespace number group found found_is in
      let alike : group_text book.namespace number (taken_back other.stored) other.digest (reference_in other.same) ++ front.rest
      ≡ group_text book.namespace number (taken_back found.stored) found.digest (reference_in found.same) ++ rest =
      ap (λ (t : List ℕ). t ++ front.rest) (sym is.composed) ∙ sym front.composed ∙ composed ∙ ap (λ (t : List ℕ). t ++ rest) found_is.composed in
      let one = groups_are_prefix_free book.namespace number (taken_back other.stored) (taken_back found.stored) other.digest found.digest
      (reference_in other.same) (reference_in found.same) front.rest rest writable mine alike in
      let texts : bytes ≡ group = is.composed ∙ one.0 ∙ sym found_is.composed in
      let says = groups_tell_their_captures book.namespace number (taken_back other.stored) (taken_back found.stored) other.digest found.digest
      (reference_in other.same) (reference_in found.same) writable mine one.0 in
      subst (λ (b : List ℕ). IsGroupOf book number b outline) (sym texts) (record { is = g; digest = front.is.told.digest_is ∙ says.payload_digest })

  pub kept_by : (result : KeptGroup) → IsFirstIn book.namespace number all result → IsKeptGroup book number result
  kept_by (kept.Right bytes outline) front = same_as bytes outline front
  kept_by kept.Damaged none = none found (record { text = group; rest = rest; composed = composed; is = found_is })

-- a place behind the end of a group is one too
pub reaches_on : (texts : List (List ℕ)) (spots : List Spot) (number : ℕ) (spot : Spot) (end further : ℕ) → Reaches texts spots number spot end
    → end ≤ further → Reaches texts spots number spot further
reaches_on texts spots number spot end further is behind = record {
  next = λ next there volume. omega (arith, is.next next there volume, behind);
  last = λ none. omega (arith, is.last none, behind);
}

-- what is read stands in the text
module _ (texts : List (List ℕ)) (spots : List Spot) (number : ℕ) (are : AreWithin texts spots) (spot : Spot)
    (here : slice_get spots number ≡ Some spot) where
  pub there : spot.volume < length texts
  there = (are.each number spot here).there

  pub within : (end : ℕ) → EndsWithin texts spots number end → spot.at + (end - spot.at) ≤ length (text_at texts spot.volume)
  within end ends = omega (arith, ends.within spot here, (are.each number spot here).begins)

module _ (book : Book) (texts : List (List ℕ)) (spots : List Spot) (number : ℕ) (placed : ArePlaced texts book spots) (spot : Spot)
    (here : slice_get spots number ≡ Some spot) (end : ℕ) (ends : EndsGroup book spots number end) where
  own_group : HasGroupAt book number (text_at texts spot.volume) spot.at
  own_group = (placed.each number spot here).group

  reach : spot.at + length own_group.group ≤ end
  reach = ends.reaches spot own_group.group here own_group.is

  -- what is read from its place on begins with the capture's group
  pub begins_is : IsSound book → AreVolumeTexts book texts → (bytes : List ℕ) → bytes ≡ part (text_at texts spot.volume) spot.at (end - spot.at)
      → BeginWithText book number bytes
  begins_is sound are bytes is =
      let text : List ℕ = text_at texts spot.volume in
      let short : length text < 2 ^ 62 = sound.short_texts spot.volume text (are.each spot.volume (placed.each number spot here).there) in
      let ended : spot.at + length own_group.group ≤ length text = ends_in_text book number spot.at text own_group in
      record {
        group = own_group.group;
        rest = take (end - spot.at - length own_group.group) own_group.rest;
        is = own_group.is;
        short = omega (arith, ended, short);
        composed = is ∙ part_begins text own_group.front own_group.group own_group.rest spot.at end own_group.composed own_group.behind reach;
      }

-- so it is that group
pub read_is : (book : Book) (number : ℕ) → IsSound book → (bytes : List ℕ) → BeginWithText book number bytes → (result : KeptGroup)
    → IsFirstIn book.namespace number bytes result → IsKeptGroup book number result
read_is book number sound bytes begins result first =
    kept_by book sound number begins.group begins.is begins.short bytes begins.rest begins.composed result first
