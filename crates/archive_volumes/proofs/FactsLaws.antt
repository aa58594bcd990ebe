-- What is told of volumes, one after the other.
use Rattle.std.proofs.Common.{◌≡◌, ℕ, zero, suc, ◌+◌, ◌<◌, ◌≤◌, List, [], ◌∷◌, ◌++◌, length, map, get_or, take, Option, Some, refl, sym, ap, ◌∙◌, arith, append-nil, length-append}
use Rattle.std.specs.Prelude.{drop, option_to_list}
use Rattle.std.proofs.lemmas.List.{length-map, map-append, take-append-drop, take_all, take_more}
use Rattle.capture.specs.Captures.{captures_in}
use Rattle.capture.specs.declared.book.Volume.{Volume}
use Rattle.warc_text.proofs.BookLaws.{captures_in-append}
use Rattle.archive_volumes.specs.Facts.{facts_from}
use Rattle.archive_volumes.specs.Held.{stored_in, volume_of}
use Rattle.archive_volumes.specs.declared.held.Shadow.{Shadow}
use Rattle.archive_volumes.specs.declared.volume_facts.VolumeFacts.{VolumeFacts}

abbrev fact : ℕ → ℕ → ℕ → VolumeFacts
fact volume first count = record { volume = volume; first = first; count = count }

-- a volume more
facts_push : (volume first : ℕ) (vs : List Volume) (w : Volume)
    → facts_from volume first (vs ++ w ∷ []) ≡ facts_from volume first vs ++ fact (volume + length vs) (first + length (captures_in vs)) (length w.captures) ∷ []
facts_push volume first [] w =
    let v : volume ≡ volume + 0 = omega arith in
    let f : first ≡ first + 0 = omega arith in
    λ i. fact (v i) (f i) (length w.captures) ∷ []
facts_push volume first (u ∷ us) w =
    let v : suc volume + length us ≡ volume + suc (length us) = omega arith in
    let f : first + length u.captures + length (captures_in us) ≡ first + length (u.captures ++ captures_in us) =
    omega (arith, length-append u.captures (captures_in us)) in
    ap (λ (l : List VolumeFacts). fact volume first (length u.captures) ∷ l)
    (facts_push (suc volume) (first + length u.captures) us w
    ∙ (λ i. facts_from (suc volume) (first + length u.captures) us ++ fact (v i) (f i) (length w.captures) ∷ []))

-- how long a volume's list of captures is
pub count_is : (shadow : Shadow) → length (volume_of shadow).captures ≡ length shadow.captures.items
count_is shadow = length-map shadow.captures.items stored_in

-- so many of the volumes were told of
pub record Told (sealed : List Shadow) (done first : ℕ) (facts : List VolumeFacts) : Type 0 where
  pub within : done ≤ length sealed
  pub count : length facts ≡ done
  pub before : first ≡ length (captures_in (map volume_of (take done sealed)))
  pub are : facts ≡ facts_from 0 0 (map volume_of (take done sealed))

one_more : (volumes : List Volume) (first done : ℕ) (facts after : List VolumeFacts) (w : Volume) (count : ℕ) → length volumes ≡ done → length facts ≡ done
    → first ≡ length (captures_in volumes) → facts ≡ facts_from 0 0 volumes → count ≡ length w.captures
    → after ≡ facts ++ fact (length facts) first count ∷ [] → after ≡ facts_from 0 0 (volumes ++ w ∷ [])
one_more volumes first done facts after w count long told before are is pushed =
    let v : length facts ≡ 0 + length volumes = omega (arith, long, told) in
    let f : first ≡ 0 + length (captures_in volumes) = omega (arith, before) in
    pushed ∙ (λ i. are i ++ fact (v i) (f i) (is i) ∷ []) ∙ sym (facts_push 0 0 volumes w)

module _ (sealed : List Shadow) (done first : ℕ) (facts : List VolumeFacts) (told : Told sealed done first facts) where
  abbrev front : List Volume
  front = map volume_of (take done sealed)

  front_long : length front ≡ done
  front_long = length-map (take done sealed) volume_of ∙ taken done sealed told.within
    where
      taken : (n : ℕ) (xs : List Shadow) → n ≤ length xs → length (take n xs) ≡ n
      taken zero [] le = refl
      taken zero (x ∷ xs) le = refl
      taken (suc n) [] le = absurd (omega (arith, le))
      taken (suc n) (x ∷ xs) le = ap suc (taken n xs (omega (arith, le)))

  pub told_more : (shadow : Shadow) (count : ℕ) (after : List VolumeFacts) → done < length sealed → shadow ≡ get_or sealed done shadow
      → count ≡ length shadow.captures.items → after ≡ facts ++ fact (length facts) first count ∷ [] → Told sealed (done + 1) (first + count) after
  told_more shadow count after less at is pushed =
      let more : take (done + 1) sealed ≡ take done sealed ++ shadow ∷ [] =
      take_more sealed done shadow less ∙ ap (λ (s : Shadow). take done sealed ++ s ∷ []) (sym at) in
      let volumes : map volume_of (take (done + 1) sealed) ≡ front ++ volume_of shadow ∷ [] =
      ap (map volume_of) more ∙ map-append volume_of (take done sealed) (shadow ∷ []) in
      let long : count ≡ length (volume_of shadow).captures = is ∙ sym (count_is shadow) in
      record {
        within = omega (arith, less);
        count = omega (arith, ap length pushed, length-append facts (fact (length facts) first count ∷ []), told.count);
        before = omega (
          arith,
          told.before,
          long,
          ap (λ (l : List Volume). length (captures_in l)) volumes,
          ap length (captures_in-append front (volume_of shadow ∷ [])),
          length-append (captures_in front) (captures_in (volume_of shadow ∷ [])),
          ap length (append-nil (volume_of shadow).captures),
        );
        are = one_more front first done facts after (volume_of shadow) count front_long told.count told.before told.are long pushed
            ∙ ap (facts_from 0 0) (sym volumes);
      }

  -- all but the last volume, and the last
  all_taken : length sealed ≤ done → take done sealed ≡ sealed
  all_taken le = take_all done sealed le

  pub told_last : (last : Option Shadow) (shadow : Shadow) (count : ℕ) (after : List VolumeFacts) → last ≡ Some shadow → length sealed ≤ done
      → count ≡ length shadow.captures.items → after ≡ facts ++ fact (length facts) first count ∷ []
      → after ≡ facts_from 0 0 (map volume_of sealed ++ map volume_of (option_to_list last))
  told_last last shadow count after some le is pushed =
      one_more front first done facts after (volume_of shadow) count front_long told.count told.before told.are (is ∙ sym (count_is shadow)) pushed
      ∙ ap (λ (l : List Shadow). facts_from 0 0 (map volume_of l ++ volume_of shadow ∷ [])) (all_taken le)
      ∙ ap (λ (o : Option Shadow). facts_from 0 0 (map volume_of sealed ++ map volume_of (option_to_list o))) (sym some)

-- so many captures stand in the volumes up to one of them
pub sum_within : (sealed : List Shadow) (others : List Volume) (done : ℕ) (shadow : Shadow) → done < length sealed → shadow ≡ get_or sealed done shadow
    → length (captures_in (map volume_of (take done sealed))) + length shadow.captures.items ≤ length (captures_in (map volume_of sealed ++ others))
sum_within sealed others done shadow less at =
    let front : List Shadow = take done sealed in
    let behind : List Shadow = drop (done + 1) sealed in
    let more : take (done + 1) sealed ≡ front ++ shadow ∷ [] =
    take_more sealed done shadow less ∙ ap (λ (s : Shadow). front ++ s ∷ []) (sym at) in
    let whole : sealed ≡ (front ++ shadow ∷ []) ++ behind = sym (take-append-drop (done + 1) sealed) ∙ ap (λ (l : List Shadow). l ++ behind) more in
    let volumes : map volume_of sealed ≡ (map volume_of front ++ volume_of shadow ∷ []) ++ map volume_of behind =
    ap (map volume_of) whole ∙ map-append volume_of (front ++ shadow ∷ []) behind
    ∙ ap (λ (l : List Volume). l ++ map volume_of behind) (map-append volume_of front (shadow ∷ [])) in
    omega (
      arith,
      count_is shadow,
      ap length (captures_in-append (map volume_of sealed) others),
      length-append (captures_in (map volume_of sealed)) (captures_in others),
      ap (λ (l : List Volume). length (captures_in l)) volumes,
      ap length (captures_in-append (map volume_of front ++ volume_of shadow ∷ []) (map volume_of behind)),
      length-append (captures_in (map volume_of front ++ volume_of shadow ∷ [])) (captures_in (map volume_of behind)),
      ap length (captures_in-append (map volume_of front) (volume_of shadow ∷ [])),
      length-append (captures_in (map volume_of front)) (captures_in (volume_of shadow ∷ [])),
      ap length (append-nil (volume_of shadow).captures),
    )
