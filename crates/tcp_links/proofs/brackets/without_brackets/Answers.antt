-- Both brackets are stripped, or one isn't there and the host is in none.
use Rattle.std.proofs.Common.{◌≡◌, ℕ, List, [], ◌∷◌, ◌++◌, ap, ◌∙◌, sym, inl, inr, refl, lit<}
use Rattle.std.proofs.lemmas.Str.Pattern.{strip_prefix_char, strip_suffix_char}
use Rattle.std.specs.Prelude.{Some, None}
use Rattle.tcp_links.proofs.brackets.without_brackets.Goals as goal

same_rest : (first : ℕ) (xs ys : List ℕ) → first ∷ xs ≡ first ∷ ys → xs ≡ ys
same_rest first xs ys e = cc

pub returns-in-Some-strip_suffix : goal.returns-in-Some-strip_suffix
returns-in-Some-strip_suffix c =
    inl (strip_prefix_char 91 c.args.host.now (Some c.in-Some.rest) c.in-Some.ensures.cases (lit< tt)
    ∙ ap (λ rest. 91 ∷ rest) (strip_suffix_char 93 c.in-Some.rest.now (Some c.in-Some-strip_suffix.address) c.in-Some-strip_suffix.ensures.cases (lit< tt)))

pub returns-in-None-strip_suffix : goal.returns-in-None-strip_suffix
returns-in-None-strip_suffix c =
    inr (
      refl,
      λ address e. strip_suffix_char 93 c.in-Some.rest.now None c.in-None-strip_suffix.ensures.cases (lit< tt) address
          (same_rest 91 c.in-Some.rest.now (address ++ 93 ∷ [])
          (sym (strip_prefix_char 91 c.args.host.now (Some c.in-Some.rest) c.in-Some.ensures.cases (lit< tt)) ∙ e)),
    )

pub returns-in-None : goal.returns-in-None
returns-in-None c =
    inr (refl, λ address. strip_prefix_char 91 c.args.host.now None c.in-None.ensures.cases (lit< tt) (address ++ 93 ∷ []))
