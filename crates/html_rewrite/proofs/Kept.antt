-- What becomes of an address's path, whichever path it is: a front of it with so many slashes, and what a reference puts behind.
use Rattle.std.proofs.Common.{◌≡◌, ℕ, zero, suc, ◌≤◌, Bool, true, false, cond, ◌==◌, ◌⊎◌, List, [], ◌∷◌, ◌++◌, refl, sym, ap, ◌∙◌, inl, inr, arith, append_assoc, append-nil}
use Rattle.std.specs.Prelude.{Some, unwrap_or}
use Rattle.std.proofs.lemmas.Bool.{cond-false, and_left}
use Rattle.percent_encoding.specs.Percent.{percent_encode}
use Rattle.url.specs.declared.sets.TheConstants.{PATH}
use Rattle.url.specs.declared.scheme.SchemeType.{SchemeType}
use Rattle.url.specs.Input.{when, rsplit_once}
use Rattle.url.specs.Path.{dot_count, parse_segments, push_segment, segment_text, shorten_path, without_last_segment}
use Rattle.url.specs.Scheme.{is_file, is_slash}
use Rattle.html_rewrite.specs.Bytes.{begins, slash}
use Rattle.html_rewrite.specs.steps.Paths.{front_with, slashes}
use Rattle.html_rewrite.proofs.Fronts.{IsTail, TailFront, front_all, front_none, front_shorter, slash_behind, tail_front, tail_with}

-- a path with so many slashes, of which the first byte is one
pub record IsPath (n : ℕ) (p : List ℕ) : Type 0 where
  pub first : begins (λ b. b == slash) p ≡ true
  pub count : slashes p ≡ n

-- of each such path a front is left, and one text is behind it
pub record Becomes (n : ℕ) (path : List ℕ → List ℕ) : Type 0 where
  pub kept : ℕ
  pub tail : List ℕ
  pub within : kept ≤ n
  pub is_tail : IsTail tail
  pub is : (p : List ℕ) → IsPath n p → path p ≡ front_with kept p ++ tail

same_path : (n : ℕ) (f g : List ℕ → List ℕ) → ((p : List ℕ) → g p ≡ f p) → Becomes n f → Becomes n g
same_path n f g same b = record {
  kept = b.kept;
  tail = b.tail;
  within = b.within;
  is_tail = b.is_tail;
  is = λ p h. same p ∙ b.is p h;
}

pub chosen : (n : ℕ) (f g : List ℕ → List ℕ) (test : Bool) → Becomes n f → Becomes n g → Becomes n (λ p. cond test (f p) (g p))
chosen n f g true x y = x
chosen n f g false x y = y

pub own : (n : ℕ) → Becomes n (λ p. p)
own n = record {
  kept = n;
  tail = [];
  within = omega arith;
  is_tail = inl refl;
  is = λ p h. sym (front_all n p h.count) ∙ sym (append-nil (front_with n p));
}

pub nothing : (n : ℕ) → Becomes n (λ p. [])
nothing n = record {
  kept = 0;
  tail = [];
  within = omega arith;
  is_tail = inl refl;
  is = λ p h. sym (ap (λ t. t ++ []) (front_none p h.first));
}

appended : (n : ℕ) (f : List ℕ → List ℕ) (more : List ℕ) → IsTail more → Becomes n f → Becomes n (λ p. f p ++ more)
appended n f more h b = record {
  kept = b.kept;
  tail = b.tail ++ more;
  within = b.within;
  is_tail = tail_with b.tail more b.is_tail h;
  is = λ p i. ap (λ t. t ++ more) (b.is p i) ∙ append_assoc (front_with b.kept p) b.tail more;
}

last_left : (p f : List ℕ) → (rsplit_once slash p).0 ≡ Some f → without_last_segment p ≡ f
last_left p f e = ap (λ o. unwrap_or o []) e

-- the text behind the front loses its last segment
shorter_tail : (n : ℕ) (f : List ℕ → List ℕ) (b : Becomes n f) (rest : List ℕ) → b.tail ≡ slash ∷ rest → Becomes n (λ p. without_last_segment (f p))
shorter_tail n f b rest e =
    let left : TailFront (slash ∷ rest) = tail_front rest in record {
      kept = b.kept;
      tail = left.front;
      within = b.within;
      is_tail = left.is_tail;
      is = λ p h. ap without_last_segment (b.is p h ∙ ap (λ t. front_with b.kept p ++ t) e) ∙ last_left _ _ (slash_behind (front_with b.kept p) (slash ∷ rest) left.front left.before);
    }

-- the front itself loses its last segment
shorter_front : (n : ℕ) (f : List ℕ → List ℕ) (kept : ℕ) (tail : List ℕ) → kept ≤ n → ((p : List ℕ) → IsPath n p → f p ≡ front_with kept p ++ tail) → tail ≡ [] → Becomes n (λ p. without_last_segment (f p))
unfolding rsplit_once
shorter_front n f zero tail within is e = record {
  kept = 0;
  tail = [];
  within = within;
  is_tail = inl refl;
  is = λ p h. ap without_last_segment (is p h ∙ ap (λ t. front_with 0 p ++ t) e ∙ ap (λ t. t ++ []) (front_none p h.first)) ∙ sym (ap (λ t. t ++ []) (front_none p h.first));
}
shorter_front n f (suc kept) tail within is e = record {
  kept = kept;
  tail = [];
  within = omega (arith, within);
  is_tail = inl refl;
  is = λ p h.
      let less : suc kept ≤ slashes p = omega (arith, within, h.count) in
      ap without_last_segment (is p h ∙ ap (λ t. front_with (suc kept) p ++ t) e ∙ append-nil (front_with (suc kept) p)) ∙ last_left (front_with (suc kept) p) (front_with kept p) (front_shorter kept p less) ∙ sym (append-nil (front_with kept p));
}

without_last : (n : ℕ) (f : List ℕ → List ℕ) (b : Becomes n f) → (b.tail ≡ []) ⊎ ((rest : List ℕ) × (b.tail ≡ slash ∷ rest)) → Becomes n (λ p. without_last_segment (f p))
without_last n f b (inl none) = shorter_front n f b.kept b.tail b.within b.is none
without_last n f b (inr some) = shorter_tail n f b some.0 some.1

module _ (n : ℕ) (kind : SchemeType) (not_file : is_file kind ≡ false) where
  pub shortened : (f : List ℕ → List ℕ) → Becomes n f → Becomes n (λ p. shorten_path kind (f p))
  unfolding shorten_path
  shortened f b = same_path n (λ p. without_last_segment (f p)) (λ p. shorten_path kind (f p)) (λ p. cond-false _ _ _ (and_left _ _ (and_left _ _ not_file))) (without_last n f b b.is_tail)

  slash_if : (is_last : Bool) → IsTail (when is_last (slash ∷ []))
  slash_if true = inr ([], refl)
  slash_if false = inl refl

  named : (f : List ℕ → List ℕ) (segment : List ℕ) → Becomes n f → Becomes n (λ p. f p ++ slash ∷ segment_text kind (f p) segment)
  named f segment b =
      same_path n (λ p. f p ++ slash ∷ percent_encode PATH segment) (λ p. f p ++ slash ∷ segment_text kind (f p) segment)
      (λ p. ap (λ t. f p ++ slash ∷ t) (cond-false _ _ _ (and_left _ _ (and_left _ _ not_file))))
      (appended n f (slash ∷ percent_encode PATH segment) (inr (percent_encode PATH segment, refl)) b)

  pushed : (f : List ℕ → List ℕ) (segment : List ℕ) (is_last : Bool) → Becomes n f → Becomes n (λ p. push_segment kind (f p) segment is_last)
  unfolding push_segment
  pushed f segment is_last b =
      let up = appended n (λ p. shorten_path kind (f p)) (when is_last (slash ∷ [])) (slash_if is_last) (shortened f b) in
      let here = appended n f (when is_last (slash ∷ [])) (slash_if is_last) b in
      let one = chosen n (λ p. f p ++ when is_last (slash ∷ [])) (λ p. f p ++ slash ∷ segment_text kind (f p) segment) (dot_count segment == 1) here (named f segment b) in
      chosen n (λ p. shorten_path kind (f p) ++ when is_last (slash ∷ [])) (λ p. cond (dot_count segment == 1) (f p ++ when is_last (slash ∷ [])) (f p ++ slash ∷ segment_text kind (f p) segment)) (dot_count segment == 2) up one

  pub parsed : (bytes : List ℕ) (f : List ℕ → List ℕ) (segment : List ℕ) → Becomes n f → Becomes n (λ p. parse_segments kind (f p) segment bytes)
  unfolding parse_segments
  parsed [] f segment b = pushed f segment true b
  parsed (x ∷ bytes) f segment b =
      chosen n (λ p. parse_segments kind (push_segment kind (f p) segment false) [] bytes) (λ p. parse_segments kind (f p) (segment ++ x ∷ []) bytes) (is_slash kind x)
      (parsed bytes (λ p. push_segment kind (f p) segment false) [] (pushed f segment false b))
      (parsed bytes f (segment ++ x ∷ []) b)
