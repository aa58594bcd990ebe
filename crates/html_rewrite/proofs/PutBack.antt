-- The text of a target, with the front of the page's own path in place of its outline's.
use Rattle.std.proofs.Common.{◌≡◌, ℕ, zero, suc, ◌+◌, ◌-◌, ◌<◌, ◌≤◌, Bool, true, false, cond, not, ◌==◌, ◌⊎◌, List, [], ◌∷◌, ◌++◌, length, take, drop, Some, None, refl, sym, ap, ◌∙◌, subst, inl, inr, arith, append_assoc, append-nil, length-append, take-append-drop, take_at, drop_at}
use Rattle.std.specs.Prelude.{Option, is_some, unwrap_or, option_map, codes, decimal}
use Rattle.std.specs.List.{concat, repeat}
use Rattle.std.proofs.lemmas.Bool.{and_left}
use Rattle.std.proofs.lemmas.Option.{none-some, same_Some}
use Rattle.url.specs.declared.slicing.Position.TheVariants.{BeforePath}
use Rattle.url.specs.Host.{host_text}
use Rattle.url.specs.Input.{is_empty, when}
use Rattle.url.specs.Parser.{with_path}
use Rattle.url.specs.Parts.{Parts, has_authority, has_credentials, host_or_empty, needs_guard, offset, pieces, serialize}
use Rattle.url.proofs.PiecesLemmas.{concat-split}
use Rattle.html_rewrite.specs.declared.outline.Outline.{Outline}
use Rattle.html_rewrite.specs.Bytes.{begins, slash}
use Rattle.html_rewrite.specs.Links.{target_from}
use Rattle.html_rewrite.specs.steps.Paths.{IsOutline, front_with, len_of, put_back, slashes}
use Rattle.html_rewrite.proofs.Fronts.{front_none, length_bare, length_lettered, slashes_bare, slashes_lettered, some_slash}
use Rattle.html_rewrite.proofs.Joins.{Target, nowhere, somewhere, target_way}
use Rattle.html_rewrite.proofs.Kept.{IsPath}

-- ---- the text before and behind a path

-- what stands before the path, with a guard or without one
abbrev before_path : Parts → Bool → List ℕ
before_path url guarded =
    concat (url.scheme
    ∷ (cond (has_authority url) (codes "://") (codes ":"))
    ∷ url.username
    ∷ when (not (is_empty url.password)) (codes ":")
    ∷ url.password
    ∷ when (has_credentials url) (codes "@")
    ∷ host_text (host_or_empty url)
    ∷ when (is_some url.port) (codes ":")
    ∷ unwrap_or (option_map decimal url.port) []
    ∷ when guarded (codes "/.")
    ∷ [])

abbrev behind_path : Parts → List ℕ
behind_path url = concat (drop 11 (pieces url))

no_guard : (url : Parts) (path : List ℕ) → has_authority url ≡ true → needs_guard (with_path url path) ≡ false
no_guard url path authority = and_left _ _ (and_left _ _ (ap not authority))

text_with : (url : Parts) (path : List ℕ) → has_authority url ≡ true → serialize (with_path url path) ≡ before_path url false ++ (path ++ behind_path url)
text_with url path authority =
    concat-split (pieces (with_path url path)) 10 ∙ ap (λ g. before_path url g ++ (path ++ behind_path url)) (no_guard url path authority)

offset_with : (url : Parts) (path : List ℕ) → has_authority url ≡ true → offset (with_path url path) BeforePath ≡ length (before_path url false)
offset_with url path authority = ap (λ g. length (before_path url g)) (no_guard url path authority)

-- ---- one front in place of another

-- where a front of the bare path is so many bytes long, another front takes its place
record PutsBack (path : List ℕ) (bare : Parts) (longer : ℕ) (text : List ℕ) : Type 0 where
  more : length (serialize bare) ≤ longer
  fits : longer - length (serialize bare) ≤ length bare.path
  is : put_back path bare (longer - length (serialize bare)) ≡ text

length_with : (url : Parts) (front tail : List ℕ) → has_authority url ≡ true → length (serialize (with_path url (front ++ tail))) ≡ length (before_path url false) + (length front + length tail + length (behind_path url))
length_with url front tail authority = ap length (text_with url (front ++ tail) authority) ∙ simp length-append refl

module _ (path : List ℕ) (url : Parts) (kept : ℕ) (bare lettered tail : List ℕ) (short : length bare ≡ kept) (long : length lettered ≡ kept + kept) where
  puts_back : has_authority url ≡ true → PutsBack path (with_path url (bare ++ tail)) (length (serialize (with_path url (lettered ++ tail)))) (serialize (with_path url (front_with kept path ++ tail)))
  puts_back authority =
      let head = before_path url false in
      let back = behind_path url in
      let text = serialize (with_path url (bare ++ tail)) in
      let longer = length (serialize (with_path url (lettered ++ tail))) in
      let one = length_with url bare tail authority in
      let two = length_with url lettered tail authority in
      let apart : longer - length text ≡ kept = omega (arith, one, two, short, long) in
      let spelled : text ≡ head ++ (bare ++ tail ++ back) = text_with url (bare ++ tail) authority in
      let nearer : head ++ (bare ++ tail ++ back) ≡ head ++ bare ++ (tail ++ back) = simp append_assoc refl in
      let place : offset (with_path url (bare ++ tail)) BeforePath ≡ length head = offset_with url (bare ++ tail) authority in
      let front : take (offset (with_path url (bare ++ tail)) BeforePath) text ≡ head = (λ i. take (place i) (spelled i)) ∙ take_at head (bare ++ tail ++ back) (length head) refl in
      let rest : drop (offset (with_path url (bare ++ tail)) BeforePath + kept) text ≡ tail ++ back = (λ i. drop (place i + kept) ((spelled ∙ nearer) i)) ∙ drop_at (head ++ bare) (tail ++ back) (length head + kept) (omega (arith, length-append head bare, short)) in
      let mine = front_with kept path in
      let moved : head ++ (mine ++ tail ++ back) ≡ head ++ mine ++ (tail ++ back) = simp append_assoc refl in
      record {
        more = omega (arith, one, two, short, long);
        fits = omega (arith, apart, length-append bare tail, short);
        is = ap (put_back path (with_path url (bare ++ tail))) apart ∙ (λ i. front i ++ mine ++ rest i) ∙ sym moved ∙ sym (text_with url (mine ++ tail) authority);
      }

-- where nothing of the path is kept, all three texts are one
puts_nothing : (path : List ℕ) (url : Parts) → begins (λ b. b == slash) path ≡ true → PutsBack path url (length (serialize url)) (serialize url)
puts_nothing path url first =
    let text = serialize url in
    let none : length text - length text ≡ 0 = omega arith in
    record {
      more = omega arith;
      fits = omega (arith, none);
      is = ap (put_back path url) none ∙ (λ i. take (offset url BeforePath) text ++ front_none path first i ++ drop (offset url BeforePath + 0) text) ∙ (λ i. append-nil (take (offset url BeforePath) text) i ++ drop (offset url BeforePath + 0) text) ∙ ap (λ n. take (offset url BeforePath) text ++ drop n text) (omega arith) ∙ take-append-drop (offset url BeforePath) text;
    }

-- ---- the page's own address and its outline

bare_path : (n : ℕ) → 0 < n → IsPath n (repeat n (codes "/"))
bare_path zero some = absurd (omega (arith, some))
bare_path (suc n) some = record { first = refl; count = slashes_bare (suc n) }

lettered_path : (n : ℕ) → 0 < n → IsPath n (repeat n (codes "/a"))
lettered_path zero some = absurd (omega (arith, some))
lettered_path (suc n) some = record { first = refl; count = slashes_lettered (suc n) }

-- what is made of the outline's target
pub record Spliced (path : List ℕ) (bare : Parts) (longer : ℕ) (address : Option (List ℕ)) : Type 0 where
  pub more : length (serialize bare) ≤ longer
  pub fits : longer - length (serialize bare) ≤ length bare.path
  pub is : Some (put_back path bare (longer - length (serialize bare))) ≡ address

module _ (base : Parts) (outline : Outline) (is_outline : IsOutline base outline) (reference : List ℕ) where
  -- the paths of the outline
  abbrev bare_segments : List ℕ
  bare_segments = repeat (slashes base.path) (codes "/")

  abbrev lettered_segments : List ℕ
  lettered_segments = repeat (slashes base.path) (codes "/a")

  own_path : IsPath (slashes base.path) base.path
  own_path = record { first = is_outline.rooted.first; count = refl }

  bare_is_path : IsPath (slashes base.path) bare_segments
  bare_is_path = bare_path (slashes base.path) (some_slash base.path is_outline.rooted.first)

  lettered_is_path : IsPath (slashes base.path) lettered_segments
  lettered_is_path = lettered_path (slashes base.path) (some_slash base.path is_outline.rooted.first)

  -- where the reference leads to from the address with this path
  abbrev from : List ℕ → Option Parts
  from p = target_from (Some (with_path base p)) reference

  from_bare : target_from (Some outline.bare) reference ≡ from bare_segments
  from_bare = ap (λ (u : Parts). target_from (Some u) reference) is_outline.bare

  from_lettered : target_from (Some outline.lettered) reference ≡ from lettered_segments
  from_lettered = ap (λ (u : Parts). target_from (Some u) reference) is_outline.lettered

  none_by : Target (slashes base.path) from → target_from (Some outline.bare) reference ≡ None → None ≡ option_map serialize (from base.path)
  none_by (nowhere is) none = ap (option_map serialize) (sym (is base.path own_path))
  none_by (somewhere url kept tail within headed is) none = absurd (none-some _ (sym none ∙ from_bare ∙ is _ bare_is_path))

  -- the URL with what is kept of this path
  abbrev keeping : Parts → ℕ → List ℕ → List ℕ → Parts
  keeping url kept tail p = with_path url (front_with kept p ++ tail)

  spliced_at : (url : Parts) (kept : ℕ) (tail : List ℕ) → kept ≤ slashes base.path → (kept ≡ 0) ⊎ (has_authority url ≡ true)
      → PutsBack base.path (keeping url kept tail bare_segments) (length (serialize (keeping url kept tail lettered_segments))) (serialize (keeping url kept tail base.path))
  spliced_at url kept tail within (inl none) =
      let with_front = λ (t : List ℕ). with_path url (t ++ tail) in
      let nothing = λ (p : List ℕ) (is : IsPath (slashes base.path) p). ap (λ k. front_with k p) none ∙ front_none p is.first in
      subst (λ t. PutsBack base.path (with_front t) (length (serialize (keeping url kept tail lettered_segments))) (serialize (keeping url kept tail base.path))) (sym (nothing bare_segments bare_is_path))
      (subst (λ t. PutsBack base.path (with_front []) (length (serialize (with_front t))) (serialize (keeping url kept tail base.path))) (sym (nothing lettered_segments lettered_is_path))
      (subst (λ t. PutsBack base.path (with_front []) (length (serialize (with_front []))) (serialize (with_front t))) (sym (nothing base.path own_path))
      (puts_nothing base.path (with_front []) is_outline.rooted.first)))
  spliced_at url kept tail within (inr authority) =
      puts_back base.path url kept (front_with kept bare_segments) (front_with kept lettered_segments) tail (length_bare kept (slashes base.path) within) (length_lettered kept (slashes base.path) within) authority

  spliced_by : Target (slashes base.path) from → (bare : Parts) → target_from (Some outline.bare) reference ≡ Some bare
      → Spliced base.path bare (len_of (target_from (Some outline.lettered) reference)) (option_map serialize (from base.path))
  spliced_by (nowhere is) bare some = absurd (none-some bare (sym (is _ bare_is_path) ∙ sym from_bare ∙ some))
  spliced_by (somewhere url kept tail within headed is) bare some =
      let short = keeping url kept tail bare_segments in
      let same : bare ≡ short = same_Some bare short (sym some ∙ from_bare ∙ is _ bare_is_path) in
      let longer = ap len_of (from_lettered ∙ is _ lettered_is_path) in
      let made = spliced_at url kept tail within headed in
      subst (λ (u : Parts). Spliced base.path u (len_of (target_from (Some outline.lettered) reference)) (option_map serialize (from base.path))) (sym same)
      (subst (λ n. Spliced base.path short n (option_map serialize (from base.path))) (sym longer)
      (subst (λ o. Spliced base.path short (length (serialize (keeping url kept tail lettered_segments))) (option_map serialize o)) (sym (is base.path own_path))
      (record { more = made.more; fits = made.fits; is = ap Some made.is })))

  pub none_there : target_from (Some outline.bare) reference ≡ None → None ≡ option_map serialize (target_from (Some base) reference)
  none_there none = none_by (target_way (slashes base.path) base reference is_outline.rooted) none

  pub spliced : (bare : Parts) → target_from (Some outline.bare) reference ≡ Some bare
      → Spliced base.path bare (len_of (target_from (Some outline.lettered) reference)) (option_map serialize (target_from (Some base) reference))
  spliced bare some = spliced_by (target_way (slashes base.path) base reference is_outline.rooted) bare some
