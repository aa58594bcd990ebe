-- A volume's bytes have one verdict.
use Rattle.std.proofs.Common.{◌≡◌, ◌⊎◌, ◌<◌, ◌^◌, ℕ, zero, suc, ◌+◌, ◌-◌, List, ◌++◌, length, drop, length-append, append_assoc, refl, sym, ap, subst, ◌∙◌, inl, inr, arith}
use Rattle.std.proofs.lemmas.Bool.{cases_eq, cases_lt}
use Rattle.warc_text.specs.Ids.{id_of}
use Rattle.warc_text.specs.Lines.{ended, length_lines, record_end}
use Rattle.warc_text.specs.declared.id.IdKind.TheVariants as ids
use Rattle.warc_text.proofs.InfoLaws.{info_front}
use Rattle.warc_scan.specs.Answers.{BeginsWithGroup}
use Rattle.warc_scan.specs.Asking.{second_opening}
use Rattle.record_opening.specs.Openings.{opening_text}
use Rattle.warc_scan.specs.declared.group.Group.{Group}
use Rattle.record_opening.proofs.BlockTold.{block_told}
use Rattle.warc_scan.proofs.FindLaws.{Parts, first_text, parts_of}
use Rattle.record_opening.proofs.OpeningTold.{opening_told}
use Rattle.record_opening.proofs.Refusals.{same_behind}
use Rattle.fixity.specs.Verdicts.{GroupStands, HasOtherRest, InfoEndsAt, IsSoundRest, LacksGroup, LacksInfo, StandsUpTo, Volume, VolumesHaveOneVerdict}
use Rattle.fixity.specs.declared.verdict.Verdict.TheVariants.{Sound, Damaged}

-- ---- a group that stands at a place has one length

block_is_short : (opening block : List ℕ) → length (opening ++ ended block) < 2 ^ 63 → length block < 2 ^ 64
unfolding ended
block_is_short opening block short =
    omega (arith, short, length-append opening (ended block), length-append (length_lines (length block) ++ block) record_end, length-append (length_lines (length block)) block)

records_are_short : (namespace : List ℕ) (number : ℕ) (text : List ℕ) (p : Parts namespace number text)
    → (length (first_text namespace number p.opening p.block) < 2 ^ 63) × (length (second_opening namespace number p.opening ++ ended p.request) < 2 ^ 63)
records_are_short namespace number text p =
    let sum = length-append (first_text namespace number p.opening p.block) (second_opening namespace number p.opening ++ ended p.request) in
    (omega (arith, p.short, ap length p.composed, sum), omega (arith, p.short, ap length p.composed, sum))

-- what follows groups of one number at one place
behind_groups : (namespace : List ℕ) (number : ℕ) (text other x y : List ℕ) → Parts namespace number text → Parts namespace number other
    → text ++ x ≡ other ++ y → x ≡ y
behind_groups namespace number text other x y p q e =
    let id = id_of namespace ids.Response number in
    let second = second_opening namespace number p.opening ++ ended p.request in
    let next = second_opening namespace number q.opening ++ ended q.request in
    let whole : (first_text namespace number p.opening p.block ++ second) ++ x ≡ (first_text namespace number q.opening q.block ++ next) ++ y =
    sym (ap (λ t. t ++ x) p.composed) ∙ e ∙ ap (λ t. t ++ y) q.composed in
    let apart : opening_text id p.opening ++ (ended p.block ++ (second ++ x)) ≡ opening_text id q.opening ++ (ended q.block ++ (next ++ y)) =
    sym (append_assoc (first_text namespace number p.opening p.block) second x ∙ append_assoc (opening_text id p.opening) (ended p.block) (second ++ x)) ∙ whole
    ∙ append_assoc (first_text namespace number q.opening q.block) next y ∙ append_assoc (opening_text id q.opening) (ended q.block) (next ++ y) in
    let openings = opening_told id p.opening p.right q.opening (ended p.block ++ (second ++ x)) (ended q.block ++ (next ++ y)) q.right apart in
    let long = records_are_short namespace number text p in
    let long₂ = records_are_short namespace number other q in
    let blocks = block_told p.block q.block (second ++ x) (next ++ y)
    (block_is_short (opening_text id p.opening) p.block long.0)
    (block_is_short (opening_text id q.opening) q.block long₂.0) openings.1 in
    let same : second ++ x ≡ (second_opening namespace number p.opening ++ ended q.request) ++ y =
    blocks.1 ∙ ap (λ o. (second_opening namespace number o ++ ended q.request) ++ y) (sym openings.0) in
    (block_told p.request q.request x y
    (block_is_short (second_opening namespace number p.opening) p.request long.1)
    (block_is_short (second_opening namespace number q.opening) q.request long₂.1)
    (same_behind (second_opening namespace number p.opening) (ended p.request) (ended q.request) x y same)).1

one_group : (namespace : List ℕ) (number : ℕ) (bytes : List ℕ) (g h : Group) → BeginsWithGroup namespace number bytes g → BeginsWithGroup namespace number bytes h
    → g.len ≡ h.len
one_group namespace number bytes g h a b =
    let behind = behind_groups namespace number a.text b.text a.rest b.rest (parts_of namespace number a.text g a.is) (parts_of namespace number b.text h b.is)
    (sym a.composed ∙ b.composed) in
    omega (arith, a.is.places.len, b.is.places.len, ap length a.composed, ap length b.composed, length-append a.text a.rest, length-append b.text b.rest, ap length behind)

-- ---- a volume stands up to one place for each number of groups

one_info : (number : ℕ) (namespace bytes : List ℕ) (p q : ℕ) → InfoEndsAt number namespace bytes p → InfoEndsAt number namespace bytes q → p ≡ q
one_info number namespace bytes p q x y =
    let a = x.begins in
    let b = y.begins in
    let apart = sym (a.composed ∙ ap (λ t. t ++ a.rest) a.is.composed) ∙ b.composed ∙ ap (λ t. t ++ b.rest) b.is.composed in
    let behind = (info_front namespace namespace number x.born y.born a.rest b.rest a.is.namespace_is b.is.namespace_is apart).2 in
    omega (arith, a.is.len_is, b.is.len_is, ap length a.composed, ap length b.composed, length-append a.text a.rest, length-append b.text b.rest, ap length behind)

module _ (volume : Volume) (bytes : List ℕ) where
  one_end : (number from to other end : ℕ) → from ≡ other → GroupStands volume.namespace number bytes from to → GroupStands volume.namespace number bytes other end → to ≡ end
  one_end number from to other end same a b =
      let begins = subst (λ k. BeginsWithGroup volume.namespace number (drop k bytes) a.group) same a.begins in
      omega (arith, a.ends, b.ends, same, one_group volume.namespace number (drop other bytes) a.group b.group begins b.begins)

  one_place : (n p q : ℕ) → StandsUpTo volume bytes n p → StandsUpTo volume bytes n q → p ≡ q
  one_place zero p q a b = one_info volume.number volume.namespace bytes p q a b
  one_place (suc n) p q (from, a, g) (other, b, h) = one_end (volume.first + n) from p other q (one_place n from other a b) g h

  -- it stands before, too
  stands_before : (d n place k : ℕ) → n ≡ d + k → StandsUpTo volume bytes n place → (p : ℕ) × StandsUpTo volume bytes k p
  stands_before zero n place k e stands = let same : n ≡ k = omega (arith, e) in (place, subst (λ j. StandsUpTo volume bytes j place) same stands)
  stands_before (suc d) n place k e stands =
      let up : n ≡ suc (d + k) = omega (arith, e) in
      let last = subst (λ j. StandsUpTo volume bytes j place) up stands in
      stands_before d (d + k) last.0 k refl last.1

  -- so that each group stands there that is one of those
  group_before : (n place k p : ℕ) → k < n → StandsUpTo volume bytes n place → StandsUpTo volume bytes k p → (to : ℕ) × GroupStands volume.namespace (volume.first + k) bytes p to
  group_before n place k p lt stands here =
      let next = stands_before (n - suc k) n place (suc k) (omega (arith, lt)) stands in
      let same : next.1.0 ≡ p = one_place k next.1.0 p next.1.1 here in
      (next.0, subst (λ f. GroupStands volume.namespace (volume.first + k) bytes f next.0) same next.1.2)

  has_info : (n place : ℕ) → StandsUpTo volume bytes n place → (p : ℕ) → ¬ (LacksInfo volume bytes p)
  has_info n place stands p lacks = let info = stands_before n n place 0 (omega arith) stands in lacks.1 info.0 info.1

  has_group : (n place : ℕ) → StandsUpTo volume bytes n place → (k p : ℕ) → k < n → StandsUpTo volume bytes k p
      → ¬ ((to : ℕ) → ¬ (GroupStands volume.namespace (volume.first + k) bytes p to))
  has_group n place stands k p lt here none = let group = group_before n place k p lt stands here in none group.0 group.1

  one_damage : (p q : ℕ) → (LacksInfo volume bytes p ⊎ LacksGroup volume bytes p ⊎ HasOtherRest volume bytes p)
      → (LacksInfo volume bytes q ⊎ LacksGroup volume bytes q ⊎ HasOtherRest volume bytes q) → p ≡ q
  one_damage p q (inl a) (inl b) = a.0 ∙ sym b.0
  one_damage p q (inl a) (inr (inl b)) = absurd (has_info b.0 q b.2 p a)
  one_damage p q (inl a) (inr (inr b)) = absurd (has_info volume.count q b.0 p a)
  one_damage p q (inr (inl a)) (inl b) = absurd (has_info a.0 p a.2 q b)
  one_damage p q (inr (inr a)) (inl b) = absurd (has_info volume.count p a.0 q b)
  one_damage p q (inr (inl a)) (inr (inl b)) =
      elim (cases_lt a.0 b.0) [
        | inl less ↦ absurd (has_group b.0 q b.2 a.0 p less a.2 a.3)
        | inr most ↦ elim (cases_eq a.0 b.0) [
          | inl same ↦ one_place b.0 p q (subst (λ j. StandsUpTo volume bytes j p) same a.2) b.2
          | inr other ↦ absurd (has_group a.0 p a.2 b.0 q (omega (arith, most, other)) b.2 b.3)
        ]
      ]
  one_damage p q (inr (inl a)) (inr (inr b)) = absurd (has_group volume.count q b.0 a.0 p a.1 a.2 a.3)
  one_damage p q (inr (inr a)) (inr (inl b)) = absurd (has_group volume.count p a.0 b.0 q b.1 b.2 b.3)
  one_damage p q (inr (inr a)) (inr (inr b)) = one_place volume.count p q a.0 b.0

  sound_is_undamaged : (p q : ℕ) → StandsUpTo volume bytes volume.count p → IsSoundRest volume.last (drop p bytes)
      → ¬ (LacksInfo volume bytes q ⊎ LacksGroup volume bytes q ⊎ HasOtherRest volume bytes q)
  sound_is_undamaged p q stands rest (inl b) = has_info volume.count p stands q b
  sound_is_undamaged p q stands rest (inr (inl b)) = has_group volume.count p stands b.0 q b.1 b.2 b.3
  sound_is_undamaged p q stands rest (inr (inr b)) =
      b.1 (subst (λ k. IsSoundRest volume.last (drop k bytes)) (one_place volume.count p q stands b.0) rest)

pub one_verdict : VolumesHaveOneVerdict
one_verdict volume bytes (Sound p) (Sound q) a b = ap Sound (one_place volume bytes volume.count p q a.0 b.0)
one_verdict volume bytes (Sound p) (Damaged q) a b = absurd (sound_is_undamaged volume bytes p q a.0 a.1 b)
one_verdict volume bytes (Damaged p) (Sound q) a b = absurd (sound_is_undamaged volume bytes q p b.0 b.1 a)
one_verdict volume bytes (Damaged p) (Damaged q) a b = ap Damaged (one_damage volume bytes p q a b)
