-- The mementos that are written in one pass are those of the list.
use Rattle.std.proofs.Common.{◌≡◌, ℕ, ◌<◌, true, false, eqb, List, [], ◌∷◌, ◌++◌, codes, filter, refl, ap, sym, ◌∙◌, subst, inl, inr, append_assoc, arith}
use Rattle.std.proofs.lemmas.Bool.{cases_eq, cond-true, cond-false, eq-eqb, ne_eqb}
use Rattle.std.specs.List.{flat_map}
use Rattle.std.specs.List.Sorted.{IsNonDecreasingBy}
use Rattle.index_entry.specs.Facts.{Facts}
use Rattle.replay_url.specs.Links.{original_link, gate_link}
use Rattle.timemap.specs.LinkList.{last_date, last_date_behind, on_next_line, self_link, timemap_text}
use Rattle.timemap.specs.Mementos.{each_date_once, has_other_date, is_last, memento_link, memento_links}
use Rattle.timemap.specs.Passing.{later_text, later_texts}
use Rattle.timemap.proofs.OnceLemmas.{Rises, rises_in_order, without_same, without_later, last_is_told}

later_texts_are : (base : List ℕ) (last date : ℕ) (entries : List Facts) → Rises date entries → last ≡ last_date_behind date entries → flat_map on_next_line (memento_links base false (filter (has_other_date date) (each_date_once entries))) ≡ later_texts base last date entries
later_texts_are base last date [] h is_last_date = refl
later_texts_are base last date (entry ∷ entries) h is_last_date =
    let links = λ (xs : List Facts). flat_map on_next_line (memento_links base false xs) in
    let line = on_next_line (memento_link base false (eqb entry.date last) entry) in
    let onward = later_texts base last entry.date entries in
    elim (cases_eq entry.date date) [
      | inl same ↦
          let rises : Rises date entries = subst (λ (d : ℕ). Rises d entries) same h.1 in
          let to_last : last ≡ last_date_behind date entries = is_last_date ∙ ap (λ d. last_date_behind d entries) same in
          let nothing : later_text base last date entry ≡ [] = cond-true (eqb entry.date date) [] line (eq-eqb entry.date date same) in
          ap links (without_same date entry entries same)
          ∙ later_texts_are base last date entries rises to_last
          ∙ ap (λ d. later_texts base last d entries) (sym same)
          ∙ sym (ap (λ t. t ++ onward) nothing)
      | inr differs ↦
          let later : date < entry.date = omega (arith, h.0, differs) in
          let others = filter (has_other_date entry.date) (each_date_once entries) in
          let told : is_last others ≡ eqb entry.date last = last_is_told entry.date entries h.1 ∙ ap (λ d. eqb entry.date d) (sym is_last_date) in
          let written : later_text base last date entry ≡ line = cond-false (eqb entry.date date) [] line (ne_eqb entry.date date differs) in
          ap links (without_later date entry entries later h.1)
          ∙ ap (λ b. on_next_line (memento_link base false b entry) ++ links others) told
          ∙ ap (λ t. line ++ t) (later_texts_are base last entry.date entries h.1 is_last_date)
          ∙ sym (ap (λ t. t ++ onward) written)
    ]

-- the list, as it is written piece by piece
pub list_is : (base url : List ℕ) (first : Facts) (others : List Facts) → Rises first.date others → timemap_text base url (first ∷ others) ≡ original_link url ++ on_next_line (self_link base url first.date (last_date (first ∷ others))) ++ on_next_line (gate_link base url) ++ on_next_line (memento_link base true (eqb first.date (last_date (first ∷ others))) first) ++ later_texts base (last_date (first ∷ others)) first.date others ++ codes "\n"
unfolding timemap_text
list_is base url first others rises =
    let last = last_date_behind first.date others in
    let rest = filter (has_other_date first.date) (each_date_once others) in
    let o = original_link url in
    let s = on_next_line (self_link base url first.date last) in
    let g = on_next_line (gate_link base url) in
    let m = λ (b : _). on_next_line (memento_link base true b first) in
    let later = later_texts base last first.date others in
    let mementos = ap (λ t. o ++ (s ++ (g ++ (m (is_last rest) ++ t))) ++ codes "\n") (later_texts_are base last first.date others rises refl) in
    let relation = ap (λ b. o ++ (s ++ (g ++ (m b ++ later))) ++ codes "\n") (last_is_told first.date others rises) in
    let flat = sym (append_assoc o s (g ++ (m (eqb first.date last) ++ later)))
    ∙ sym (append_assoc (o ++ s) g (m (eqb first.date last) ++ later))
    ∙ sym (append_assoc (o ++ s ++ g) (m (eqb first.date last)) later) in
    mementos ∙ relation ∙ ap (λ t. t ++ codes "\n") flat

-- the list was written so
pub list_written : (base url : List ℕ) (entries : List Facts) (first : Facts) (others : List Facts) (from until : ℕ) (o0 o1 o2 o3 o4 o5 o6 : List ℕ) → entries ≡ first ∷ others → IsNonDecreasingBy (λ (e : Facts). e.date) entries → from ≡ first.date → until ≡ last_date entries → o0 ≡ [] → o1 ≡ o0 ++ original_link url → o2 ≡ o1 ++ on_next_line (self_link base url from until) → o3 ≡ o2 ++ on_next_line (gate_link base url) → o4 ≡ o3 ++ on_next_line (memento_link base true (eqb from until) first) → o5 ≡ o4 ++ later_texts base until from others → o6 ≡ o5 ++ codes "\n" → o6 ≡ timemap_text base url entries
list_written base url entries first others from until o0 o1 o2 o3 o4 o5 o6 parts in_order at_first at_last h0 h1 h2 h3 h4 h5 h6 =
    let ordered = subst (λ (xs : List Facts). IsNonDecreasingBy (λ (e : Facts). e.date) xs) parts in_order in
    let whole = list_is base url first others (rises_in_order first others ordered) in
    let last : until ≡ last_date (first ∷ others) = at_last ∙ ap last_date parts in
    let p1 : o1 ≡ original_link url = h1 ∙ ap (λ t. t ++ original_link url) h0 in
    let p2 = h2 ∙ ap (λ t. t ++ on_next_line (self_link base url from until)) p1 in
    let p3 = h3 ∙ ap (λ t. t ++ on_next_line (gate_link base url)) p2 in
    let p4 = h4 ∙ ap (λ t. t ++ on_next_line (memento_link base true (eqb from until) first)) p3 in
    let p5 = h5 ∙ ap (λ t. t ++ later_texts base until from others) p4 in
    let p6 = h6 ∙ ap (λ t. t ++ codes "\n") p5 in
    let text = λ (a b : ℕ). original_link url ++ on_next_line (self_link base url a b) ++ on_next_line (gate_link base url) ++ on_next_line (memento_link base true (eqb a b) first) ++ later_texts base b a others ++ codes "\n" in
    p6 ∙ ap (λ a. text a until) at_first ∙ ap (λ b. text first.date b) last ∙ sym whole ∙ ap (timemap_text base url) (sym parts)
