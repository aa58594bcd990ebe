-- The path of so many segments that are alike, as a URL takes it.
use Rattle.std.proofs.Common.{◌≡◌, ℕ, zero, suc, ◌<◌, Bool, true, false, not, ◌⊎◌, List, [], ◌∷◌, ◌++◌, All, refl, sym, ap, ◌∙◌, subst, inl, inr, arith, append_assoc, append-nil, lit<}
use Rattle.std.specs.Prelude.{Ok, codes}
use Rattle.std.specs.List.{repeat}
use Rattle.std.proofs.lemmas.Bool.{cond-false, and_left, and_right}
use Rattle.std.proofs.lemmas.List.Elements.{All-nil, All-cons, filter-append}
use Rattle.percent_encoding.proofs.AsciiSetLemmas.{kept_from_outside}
use Rattle.percent_encoding.proofs.PercentLemmas.{percent_encode-nil, percent_encode_kept}
use Rattle.url.specs.declared.scheme.SchemeType.TheVariants.{SpecialNotFile}
use Rattle.url.specs.declared.sets.TheConstants.{PATH}
use Rattle.url.specs.Input.{strip_tabs_and_new_lines}
use Rattle.url.specs.Parser.{Parsed, with_path}
use Rattle.url.specs.Parts.{Parts}
use Rattle.url.specs.Path.{dot_count, parse_path, parse_path_start, push_segment}
use Rattle.url.specs.Setters.{new_path, set_path}
use Rattle.url.proofs.PathLemmas.{IsNoSlash, parse_path_last, parse_path_more}
use Rattle.html_rewrite.specs.Bytes.{slash}
use Rattle.html_rewrite.specs.steps.Paths.{IsRooted, slashes, with_segments}
use Rattle.html_rewrite.proofs.Fronts.{some_slash}
use Rattle.html_rewrite.proofs.Joins.{web_kind}

-- a segment that is put behind a path as it is
record IsPlain (segment : List ℕ) : Type 0 where
  whole : All (IsNoSlash SpecialNotFile) segment
  put : (path : List ℕ) (is_last : Bool) → push_segment SpecialNotFile path segment is_last ≡ path ++ slash ∷ segment
  kept : strip_tabs_and_new_lines (slash ∷ segment) ≡ slash ∷ segment

nothing_plain : IsPlain []
unfolding push_segment dot_count strip_tabs_and_new_lines
nothing_plain = record {
  whole = All-nil (IsNoSlash SpecialNotFile);
  put = λ path is_last. ap (λ t. path ++ slash ∷ t) (percent_encode-nil PATH);
  kept = refl;
}

letter_plain : IsPlain (97 ∷ [])
unfolding push_segment dot_count strip_tabs_and_new_lines
letter_plain = record {
  whole = All-cons (IsNoSlash SpecialNotFile) 97 [] refl (All-nil (IsNoSlash SpecialNotFile));
  put = λ path is_last. ap (λ t. path ++ slash ∷ t) (percent_encode_kept PATH 97 [] (kept_from_outside PATH 97 (lit< tt) refl) ∙ ap (λ t. 97 ∷ t) (percent_encode-nil PATH));
  kept = refl;
}

module _ (segment : List ℕ) (plain : IsPlain segment) where
  parsed_again : (n : ℕ) (path : List ℕ) → parse_path SpecialNotFile path (segment ++ repeat n (slash ∷ segment)) ≡ path ++ repeat (suc n) (slash ∷ segment)
  parsed_again zero path =
      ap (parse_path SpecialNotFile path) (append-nil segment) ∙ parse_path_last SpecialNotFile path segment plain.whole ∙ plain.put path true ∙ ap (λ t. path ++ t) (sym (append-nil (slash ∷ segment)))
  parsed_again (suc n) path =
      parse_path_more SpecialNotFile path segment slash (segment ++ repeat n (slash ∷ segment)) plain.whole refl
      ∙ ap (λ t. parse_path SpecialNotFile t (segment ++ repeat n (slash ∷ segment))) (plain.put path false)
      ∙ parsed_again n (path ++ slash ∷ segment)
      ∙ append_assoc path (slash ∷ segment) (repeat (suc n) (slash ∷ segment))

  stripped : (n : ℕ) → strip_tabs_and_new_lines (repeat n (slash ∷ segment)) ≡ repeat n (slash ∷ segment)
  unfolding strip_tabs_and_new_lines
  stripped zero = refl
  stripped (suc n) = simp filter-append refl ∙ (λ i. plain.kept i ++ stripped n i)

  path_again : (n : ℕ) → 0 < n → parse_path_start SpecialNotFile [] (repeat n (slash ∷ segment)) ≡ repeat n (slash ∷ segment)
  unfolding parse_path_start
  path_again zero some = absurd (omega (arith, some))
  path_again (suc n) some = cond-false _ _ _ (and_right _ _ refl) ∙ parsed_again n []

  set_again : (base : Parts) (n : ℕ) → IsRooted base → 0 < n → set_path base (repeat n (slash ∷ segment)) ≡ with_path base (repeat n (slash ∷ segment))
  set_again base n rooted some =
      ap (λ t. with_path base (new_path base t)) (stripped n)
      ∙ ap (with_path base) (cond-false _ _ _ (and_left _ _ (ap not rooted.authority)) ∙ cond-false _ _ _ (and_right _ _ (ap not rooted.authority)) ∙ ap (λ k. parse_path_start k [] (repeat n (slash ∷ segment))) (web_kind base rooted.web) ∙ path_again n some)

pub set_segments : (base : Parts) (segment : List ℕ) → IsRooted base → (segment ≡ codes "/") ⊎ (segment ≡ codes "/a") → set_path base (repeat (slashes base.path) segment) ≡ with_segments segment base
set_segments base segment rooted (inl bare) =
    subst (λ s. set_path base (repeat (slashes base.path) s) ≡ with_segments s base) (sym bare) (set_again [] nothing_plain base (slashes base.path) rooted (some_slash base.path rooted.first))
set_segments base segment rooted (inr lettered) =
    subst (λ s. set_path base (repeat (slashes base.path) s) ≡ with_segments s base) (sym lettered) (set_again (97 ∷ []) letter_plain base (slashes base.path) rooted (some_slash base.path rooted.first))

pub set_is : (new set : Parts) → ◌≡◌ {A = Parsed Parts} (Ok set) (Ok new) → new ≡ set
set_is new set e = cc
