-- What bytes say of how many captures a volume has is one.
use Rattle.std.proofs.Common.{◌≡◌, ℕ, zero, suc, ◌+◌, ◌-◌, ◌<◌, ◌^◌, Bool, true, false, List, [], ◌∷◌, ◌++◌, length, drop, nat_eq, take, Some, refl, sym, ap, subst, ◌∙◌, inl, inr, ⊎_elim, arith, append_assoc, length-append}
use Rattle.std.specs.Prelude.{slice_get}
use Rattle.std.proofs.lemmas.Bool.{cases_eq, cases_lt}
use Rattle.std.proofs.lemmas.Option.{slice_get_within}
use Rattle.capture.specs.Captures.{captures_in, taken_back}
use Rattle.capture.specs.Tails.{IsCommitted, IsRest}
use Rattle.capture.specs.declared.book.Book.{Book}
use Rattle.capture.specs.declared.book.Volume.{Volume}
use Rattle.checkpoint.proofs.ReadingLaws.{one_list}
use Rattle.checkpoint.specs.Checkpoints.{checkpoint_of}
use Rattle.disk_model.specs.Image.{Image, file_of}
use Rattle.disk_model.specs.declared.kind.Kind.TheVariants.{Warc}
use Rattle.warc_text.specs.Ids.{id_of}
use Rattle.warc_text.specs.Lines.{ended, length_lines, record_end}
use Rattle.warc_text.specs.StandsFor.{commit_byte}
use Rattle.warc_text.specs.declared.id.IdKind.TheVariants as ids
use Rattle.warc_text.proofs.GroupLaws.{groups_are_committed}
use Rattle.warc_text.proofs.InfoLaws.{info_front}
use Rattle.warc_scan.specs.Answers.{BeginsWithGroup}
use Rattle.warc_scan.specs.Asking.{second_opening}
use Rattle.warc_scan.specs.Groups.{reference_in}
use Rattle.record_opening.specs.Openings.{opening_text}
use Rattle.warc_scan.specs.declared.group.Group.{Group}
use Rattle.record_opening.proofs.BlockTold.{block_told}
use Rattle.warc_scan.proofs.FindLaws.{Parts, first_text, parts_of}
use Rattle.record_opening.proofs.OpeningTold.{opening_told}
use Rattle.record_opening.proofs.Refusals.{same_behind}
use Rattle.archive_volumes.specs.Facts.{facts_from}
use Rattle.archive_opening.proofs.CountLaws.{rest_is_uncommitted}
use Rattle.archive_opening.specs.Counting.{BytesHaveOneCount, Counted, GroupStands, HasCountOf, HasCountsOf, HoldsJust, InfoEndsAt, IsSoundRest, StandsUpTo}

-- ---- a group that stands at a place has one length

block_is_short : (opening block : List ℕ) → length (opening ++ ended block) < 2 ^ 63 → length block < 2 ^ 64
unfolding ended
block_is_short opening block short =
    omega (arith, short, length-append opening (ended block), length-append (length_lines (length block) ++ block) record_end, length-append (length_lines (length block)) block)

records_are_short : (namespace : List ℕ) (number : ℕ) (text : List ℕ) (p : Parts namespace number text)
    → (length (first_text namespace number p.opening p.block) < 2 ^ 63) × (length (second_opening namespace number p.opening ++ ended p.request) < 2 ^ 63)
records_are_short namespace number text p =
    let sum = length-append (first_text namespace number p.opening p.block) (second_opening namespace number p.opening ++ ended p.request) in
    (omega (arith, p.short, ap length p.composed, sum), omega (arith, p.short, ap length p.composed, sum))

-- what follows groups of one number at one place
behind_groups : (namespace : List ℕ) (number : ℕ) (text other x y : List ℕ) → Parts namespace number text → Parts namespace number other
    → text ++ x ≡ other ++ y → x ≡ y
behind_groups namespace number text other x y p q e =
    let id = id_of namespace ids.Response number in
    let second = second_opening namespace number p.opening ++ ended p.request in
    let next = second_opening namespace number q.opening ++ ended q.request in
    let whole : (first_text namespace number p.opening p.block ++ second) ++ x ≡ (first_text namespace number q.opening q.block ++ next) ++ y =
    sym (ap (λ t. t ++ x) p.composed) ∙ e ∙ ap (λ t. t ++ y) q.composed in
    let apart : opening_text id p.opening ++ (ended p.block ++ (second ++ x)) ≡ opening_text id q.opening ++ (ended q.block ++ (next ++ y)) =
    sym (append_assoc (first_text namespace number p.opening p.block) second x ∙ append_assoc (opening_text id p.opening) (ended p.block) (second ++ x)) ∙ whole
    ∙ append_assoc (first_text namespace number q.opening q.block) next y ∙ append_assoc (opening_text id q.opening) (ended q.block) (next ++ y) in
    let openings = opening_told id p.opening p.right q.opening (ended p.block ++ (second ++ x)) (ended q.block ++ (next ++ y)) q.right apart in
    let long = records_are_short namespace number text p in
    let long₂ = records_are_short namespace number other q in
    let blocks = block_told p.block q.block (second ++ x) (next ++ y)
    (block_is_short (opening_text id p.opening) p.block long.0)
    (block_is_short (opening_text id q.opening) q.block long₂.0) openings.1 in
    let same : second ++ x ≡ (second_opening namespace number p.opening ++ ended q.request) ++ y =
    blocks.1 ∙ ap (λ o. (second_opening namespace number o ++ ended q.request) ++ y) (sym openings.0) in
    (block_told p.request q.request x y
    (block_is_short (second_opening namespace number p.opening) p.request long.1)
    (block_is_short (second_opening namespace number q.opening) q.request long₂.1)
    (same_behind (second_opening namespace number p.opening) (ended p.request) (ended q.request) x y same)).1

one_group : (namespace : List ℕ) (number : ℕ) (bytes : List ℕ) (g h : Group) → BeginsWithGroup namespace number bytes g → BeginsWithGroup namespace number bytes h
    → g.len ≡ h.len
one_group namespace number bytes g h a b =
    let behind = behind_groups namespace number a.text b.text a.rest b.rest (parts_of namespace number a.text g a.is) (parts_of namespace number b.text h b.is)
    (sym a.composed ∙ b.composed) in
    omega (arith, a.is.places.len, b.is.places.len, ap length a.composed, ap length b.composed, length-append a.text a.rest, length-append b.text b.rest, ap length behind)

-- ---- a warcinfo that stands has one namespace and one end

record SameInfo (namespace other : List ℕ) (p q : ℕ) : Type 0 where
  namespace_is : namespace ≡ other
  place : p ≡ q

one_info : (number : ℕ) (namespace other bytes : List ℕ) (p q : ℕ) → InfoEndsAt number namespace bytes p → InfoEndsAt number other bytes q
    → SameInfo namespace other p q
one_info number namespace other bytes p q x y =
    let a = x.begins in
    let b = y.begins in
    let apart = sym (a.composed ∙ ap (λ t. t ++ a.rest) a.is.composed) ∙ b.composed ∙ ap (λ t. t ++ b.rest) b.is.composed in
    let front = info_front namespace other number x.born y.born a.rest b.rest a.is.namespace_is b.is.namespace_is apart in
    record {
      namespace_is = front.0;
      place = omega (arith, a.is.len_is, b.is.len_is, ap length a.composed, ap length b.composed, length-append a.text a.rest, length-append b.text b.rest, ap length front.2);
    }

-- ---- the groups of a volume

module _ (number : ℕ) (namespace : List ℕ) (first : ℕ) (bytes : List ℕ) where
  one_end : (n from to other end : ℕ) → from ≡ other → GroupStands namespace n bytes from to → GroupStands namespace n bytes other end → to ≡ end
  one_end n from to other end same a b =
      let begins = subst (λ k. BeginsWithGroup namespace n (drop k bytes) a.group) same a.begins in
      omega (arith, a.ends, b.ends, same, one_group namespace n (drop other bytes) a.group b.group begins b.begins)

  one_place : (n p q : ℕ) → StandsUpTo number namespace first bytes n p → StandsUpTo number namespace first bytes n q → p ≡ q
  one_place zero p q a b = (one_info number namespace namespace bytes p q a b).place
  one_place (suc n) p q (from, a, g) (other, b, h) = one_end (first + n) from p other q (one_place n from other a b) g h

  -- it stands before, too
  stands_before : (d n place k : ℕ) → n ≡ d + k → StandsUpTo number namespace first bytes n place → (p : ℕ) × StandsUpTo number namespace first bytes k p
  stands_before zero n place k e stands =
      let same : n ≡ k = omega (arith, e) in
      (place, subst (λ j. StandsUpTo number namespace first bytes j place) same stands)
  stands_before (suc d) n place k e stands =
      let up : n ≡ suc (d + k) = omega (arith, e) in
      let last = subst (λ j. StandsUpTo number namespace first bytes j place) up stands in
      stands_before d (d + k) last.0 k refl last.1

  -- so that each group stands there that is one of those
  group_before : (n place k p : ℕ) → k < n → StandsUpTo number namespace first bytes n place → StandsUpTo number namespace first bytes k p
      → (to : ℕ) × GroupStands namespace (first + k) bytes p to
  group_before n place k p less stands here =
      let next = stands_before (n - suc k) n place (suc k) (omega (arith, less)) stands in
      let same : next.1.0 ≡ p = one_place k next.1.0 p next.1.1 here in
      (next.0, subst (λ f. GroupStands namespace (first + k) bytes f next.0) same next.1.2)

  -- and none behind the last
  none_behind : (last : Bool) (place to n : ℕ) → IsSoundRest last (drop place bytes) → GroupStands namespace n bytes place to → ⊥
  none_behind last place to n sound group =
      let begins = group.begins in
      rest_is_uncommitted begins.text begins.rest (drop place bytes) begins.composed
      (subst (IsCommitted commit_byte) (sym begins.is.composed)
      (groups_are_committed namespace n (taken_back group.group.stored) group.group.digest (reference_in group.group.same)))
      (rest_of last (drop place bytes) sound)
    where
      rest_of : (l : Bool) (rest : List ℕ) → IsSoundRest l rest → IsRest commit_byte rest
      rest_of true rest is = is
      rest_of false rest is = inl is

-- ---- one count

module _ (image : Image) (number : ℕ) (namespace : List ℕ) (first : ℕ) (last : Bool) where
  abbrev with_count : ℕ → Counted
  with_count count = record { number = number; namespace = namespace; first = first; count = count; last = last }

  abbrev file : List ℕ
  file = file_of image Warc number

  not_fewer : (c d : ℕ) → HoldsJust (with_count c) file → HoldsJust (with_count d) file → c < d → ⊥
  not_fewer c d a b less =
      let group = group_before number namespace first file d b.place c a.place less b.stands a.stands in
      none_behind number namespace first file last a.place group.0 (first + c) a.rest group.1

  one_count : (c d : ℕ) → HasCountOf image (with_count c) → HasCountOf image (with_count d) → c ≡ d
  one_count c d (inl a) (inl b) =
      let same = one_list number number a.lines b.lines (checkpoint_of image number) a.told.finished b.told.finished in
      a.count ∙ ap length same.1 ∙ sym b.count
  one_count c d (inl a) (inr b) = absurd (b.untold a.lines a.told)
  one_count c d (inr a) (inl b) = absurd (a.untold b.lines b.told)
  one_count c d (inr a) (inr b) = ⊎_elim (λ (less : c < d). absurd (not_fewer c d a.holds b.holds less))
      (λ most. ⊎_elim (λ (same : c ≡ d). same) (λ other. absurd (not_fewer d c b.holds a.holds (omega (arith, most, other)))) (cases_eq c d))
      (cases_lt c d)

-- ---- books

-- where each volume has as many captures, if so do those before it, so is what is told of them all
facts_same : (vs ws : List Volume) (k first : ℕ) → length vs ≡ length ws
    → ((j : ℕ) (v w : Volume) → slice_get vs j ≡ Some v → slice_get ws j ≡ Some w
    → length (captures_in (take j vs)) ≡ length (captures_in (take j ws)) → length v.captures ≡ length w.captures)
    → facts_from k first vs ≡ facts_from k first ws
facts_same [] [] k first long same = refl
facts_same [] (w ∷ ws) k first long same = absurd (omega (arith, long))
facts_same (v ∷ vs) [] k first long same = absurd (omega (arith, long))
facts_same (v ∷ vs) (w ∷ ws) k first long same =
    let count : length v.captures ≡ length w.captures = same 0 v w refl refl refl in
    let rest : facts_from (suc k) (first + length v.captures) vs ≡ facts_from (suc k) (first + length v.captures) ws =
    facts_same vs ws (suc k) (first + length v.captures) (omega (arith, long)) (λ j x y at there before.
    same (suc j) x y at there
    (omega (arith, count, before, length-append v.captures (captures_in (take j vs)), length-append w.captures (captures_in (take j ws))))) in
    let all : facts_from (suc k) (first + length v.captures) vs ≡ facts_from (suc k) (first + length w.captures) ws =
    rest ∙ ap (λ (n : ℕ). facts_from (suc k) (first + n) ws) count in
    λ i. record { volume = k; first = first; count = count i } ∷ all i

module _ (image : Image) (a b : Book) (x : HasCountsOf image a) (y : HasCountsOf image b) where
  not_more : length a.volumes < length b.volumes → ⊥
  not_more less = x.none (length a.volumes) b.namespace (omega arith) (y.infos (length a.volumes) less)

  same_namespace : 0 < length a.volumes → 0 < length b.volumes → a.namespace ≡ b.namespace
  same_namespace some some₂ =
      let mine = x.infos 0 some in
      let theirs = y.infos 0 some₂ in
      (one_info 0 a.namespace b.namespace (file_of image Warc 0) mine.0 theirs.0 mine.1 theirs.1).namespace_is

  module _ (long : length a.volumes ≡ length b.volumes) where
    same_count : (j : ℕ) (v w : Volume) → slice_get a.volumes j ≡ Some v → slice_get b.volumes j ≡ Some w
        → length (captures_in (take j a.volumes)) ≡ length (captures_in (take j b.volumes)) → length v.captures ≡ length w.captures
    same_count j v w at there before =
        let some = slice_get_within a.volumes j v at in
        let names = same_namespace (omega (arith, some)) (omega (arith, some, long)) in
        one_count image j a.namespace (length (captures_in (take j a.volumes))) (nat_eq (suc j) (length a.volumes)) (length v.captures) (length w.captures)
        (x.counts j v at)
        (subst (λ (n : List ℕ). HasCountOf image (with_count image j n (length (captures_in (take j a.volumes))) (nat_eq (suc j) (length a.volumes)) (length w.captures))) (sym names)
        (subst (λ (f : ℕ). HasCountOf image (with_count image j b.namespace f (nat_eq (suc j) (length a.volumes)) (length w.captures))) (sym before)
        (subst (λ (l : ℕ). HasCountOf image (with_count image j b.namespace (length (captures_in (take j b.volumes))) (nat_eq (suc j) l) (length w.captures))) (sym long)
        (y.counts j w there))))

pub one_count_of_bytes : BytesHaveOneCount
one_count_of_bytes image a b x y =
    let long : length a.volumes ≡ length b.volumes =
    ⊎_elim (λ (less : length a.volumes < length b.volumes). absurd (not_more image a b x y less))
    (λ most. ⊎_elim (λ (more : length b.volumes < length a.volumes). absurd (not_more image b a y x more)) (λ few. omega (arith, most, few))
    (cases_lt (length b.volumes) (length a.volumes)))
    (cases_lt (length a.volumes) (length b.volumes)) in
    record {
      facts = facts_same a.volumes b.volumes 0 0 long (same_count image a b x y long);
      namespace = λ some. same_namespace image a b x y some (omega (arith, some, long));
    }
