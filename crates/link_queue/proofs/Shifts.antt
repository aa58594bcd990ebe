-- Links that are accepted and served one after the other.
use Rattle.std.proofs.Common.{◌≡◌, ℕ, suc, List, [], ◌∷◌, ◌++◌, length, map, take, drop, slice_get, IfSome, sym, refl, ap, ◌∙◌, subst, arith, Option, Some, append_assoc}
use Rattle.std.proofs.lemmas.List.{append-nil, take_all, map-append, drop_all}
use Rattle.link_queue.specs.Accounts.{IsWhole}
use Rattle.link_queue.specs.Serving.{all_of, Accepts, HasAccepted, Serves, IsShift, AreShifts, HasServed}

module _ {A K : Type 0} (accepts : A → Option K → A → Type 0) where
  -- one more is accepted at the end
  pub accepts_end : (a m b : A) (links : List K) (link : K) → Accepts accepts a links m → accepts m (Some link) b → Accepts accepts a (links ++ link ∷ []) b
  accepts_end a m b [] link so_far one = (b, subst (λ z. accepts z (Some link) b) so_far one, refl)
  accepts_end a m b (x ∷ xs) link so_far one = (so_far.0, so_far.1, accepts_end so_far.0 m b xs link so_far.2 one)

  -- nothing was accepted so far
  pub accepts_none : (a : A) (links : List K) → links ≡ [] → Accepts accepts a links a
  accepts_none a links none = subst (λ xs. Accepts accepts a xs a) (sym none) refl

module _ {W K : Type 0} (stays : W → W → Type 0) (serves : W → K → W → Type 0) where
  -- one more is served at the end
  pub serves_end : (a m n b : W) (links : List K) (link : K) → Serves stays serves a links m → stays m n → serves n link b → Serves stays serves a (links ++ link ∷ []) b
  serves_end a m n b [] link so_far stay one = (n, b, subst (λ z. stays z n) so_far stay, one, refl)
  serves_end a m n b (x ∷ xs) link so_far stay one = (so_far.0, so_far.1, so_far.2, so_far.3, serves_end so_far.1 m n b xs link so_far.4 stay one)

  -- nothing was served so far
  pub serves_none : (a : W) (links : List K) → links ≡ [] → Serves stays serves a links a
  serves_none a links none = subst (λ xs. Serves stays serves a xs a) (sym none) refl

  -- shifts at each place are the shifts of all
  pub shifts_of : {P : Type 0} (worker : P → W) (taken : P → List K) (xs ys : List P) → length xs ≡ length ys
      → ((i : ℕ) → IfSome (slice_get xs i) (λ p. IfSome (slice_get ys i) (λ q. IsShift stays serves (worker p) (taken q) (worker q))))
      → AreShifts stays serves (map worker xs) (map taken ys) (map worker ys)
  shifts_of worker taken [] [] same each = tt
  shifts_of worker taken [] (y ∷ ys) same each = absurd (omega (arith, same))
  shifts_of worker taken (x ∷ xs) [] same each = absurd (omega (arith, same))
  shifts_of worker taken (x ∷ xs) (y ∷ ys) same each = (each 0, shifts_of worker taken xs ys (omega (arith, same)) (λ i. each (suc i)))

-- what was written over the whole of a list
pub written : {A : Type 0} (n : ℕ) (xs ys : List A) → length xs ≡ n → length ys ≡ n → take n (xs ++ drop (length xs) ys) ≡ xs
written n xs ys long same =
    let none : drop (length xs) ys ≡ [] = drop_all (length xs) ys (omega (arith, long, same)) in
    ap (λ zs. take n (xs ++ zs)) none ∙ (ap (take n) (append-nil xs) ∙ take_all n xs (omega (arith, long)))

-- one more was made of the first that is left
pub made_of : {P W : Type 0} (worker : P → W) (ps : List P) (p : P) (w : W) (rest after all : List W) → map worker ps ++ rest ≡ all → rest ≡ w ∷ after → worker p ≡ w → map worker (ps ++ p ∷ []) ++ after ≡ all
made_of {P} {W} worker ps p w rest after all so_far first is =
    ap (λ zs. zs ++ after) (map-append worker ps (p ∷ [])) ∙ (append_assoc (map worker ps) (worker p ∷ []) after ∙ ((λ i. map worker ps ++ is i ∷ after) ∙ (ap (λ zs. map worker ps ++ zs) (sym first) ∙ so_far)))

-- the first that is left was moved behind the others
pub moved_on : {P W : Type 0} (worker : P → W) (ws : List W) (p : P) (rest after : List P) (all : List W) → ws ++ map worker rest ≡ all → rest ≡ p ∷ after → (ws ++ worker p ∷ []) ++ map worker after ≡ all
moved_on worker ws p rest after all so_far first =
    append_assoc ws (worker p ∷ []) (map worker after) ∙ (ap (λ zs. ws ++ map worker zs) (sym first) ∙ so_far)

-- the same of the links that were taken
pub added_on : {P K : Type 0} (taken : P → List K) (got : List K) (p : P) (rest after : List P) (all : List K) → got ++ all_of (map taken rest) ≡ all → rest ≡ p ∷ after → (got ++ taken p) ++ all_of (map taken after) ≡ all
added_on taken got p rest after all so_far first =
    append_assoc got (taken p) (all_of (map taken after)) ∙ (ap (λ zs. got ++ all_of (map taken zs)) (sym first) ∙ so_far)

-- what came of all
pub served_of : {P A W K : Type 0} (accepts : A → Option K → A → Type 0) (stays : W → W → Type 0) (serves : W → K → W → Type 0) (worker : P → W) (taken : P → List K)
    (a b : A) (before after : List W) (ps qs : List P) (last : Option K) (put put' got got' left : List K)
    → HasAccepted accepts a put last b → AreShifts stays serves (map worker ps) (map taken qs) (map worker qs) → map worker ps ≡ before → after ≡ map worker qs
    → put' ≡ put → got ≡ [] → got' ≡ got ++ all_of (map taken qs) → IsWhole put' got' left → HasServed accepts stays serves a b before after last left
served_of {P} {A} {W} {K} accepts stays serves worker taken a b before after ps qs last put put' got got' left accepted shifts first second same none all whole = record {
  put = put;
  shifts = map taken qs;
  accepted = accepted;
  served = subst (λ (z : List W × List W). AreShifts stays serves z.0 (map taken qs) z.1) (λ i. (first i, sym second i)) shifts;
  whole = subst (λ (z : List K × List K). IsWhole z.0 z.1 left) (λ i. (same i, (all ∙ ap (λ xs. xs ++ all_of (map taken qs)) none) i)) whole;
}
