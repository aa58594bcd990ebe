-- What is kept of addresses when one more comes.
use Rattle.std.proofs.Common.{◌≡◌, ◌⊎◌, inl, inr, ⊎_elim, ℕ, zero, suc, ◌+◌, ◌-◌, ◌≤◌, ◌<◌, List, [], ◌∷◌, ◌++◌, length, take, drop, set, refl, sym, ap, ◌∙◌, subst, arith}
use Rattle.std.specs.Prelude.{cond}
use Rattle.std.specs.List.{best_of}
use Rattle.std.specs.declared.net.socket_addr.SocketAddr.{SocketAddr}
use Rattle.std.proofs.lemmas.List.{append-nil, append_assoc, length-append, length-drop, take-append-drop, take-append-le, drop-append-le, drop-drop, drop_all, nil_from_length}
use Rattle.std.proofs.lemmas.List.Sums.{fold-append}
use Rattle.system_network.specs.Addresses.{goes_before, last_of, first_of, ArePut}

-- what has one element at most is what stands in the last place
short : (before left : List SocketAddr) → length left ≤ 1 → last_of before left ≡ left
short before [] le = refl
short before (x ∷ []) le = refl
short before (x ∷ y ∷ more) le = absurd (omega (arith, le))

-- as many as there are places for are kept whole
pub few : (places : ℕ) (came : List SocketAddr) → length came ≤ places → first_of places came ≡ came
few zero came le = sym (nil_from_length came (omega (arith, le)))
few (suc places) came le =
    ap (λ left. take places came ++ left) (short (take places came) (drop places came) (omega (arith, le, length-drop places came)))
    ∙ take-append-drop places came

-- of some one stands in the last place
there : (before left : List SocketAddr) → 0 < length left → (best : SocketAddr) × (last_of before left ≡ best ∷ [])
there before [] some = absurd (omega (arith, some))
there before (next ∷ more) some = (best_of (goes_before before) next more, refl)

-- of more than there are places for so many are kept
full : (places : ℕ) (came : List SocketAddr) → places ≤ length came → length (first_of places came) ≡ places
full zero came le = refl
full (suc places) came le =
    let best = there (take places came) (drop places came) (omega (arith, le, length-drop places came)) in
    let front : length (take places came) ≡ places = omega (arith, le, length-drop places came, ap length (take-append-drop places came), length-append (take places came) (drop places came)) in
    length-append (take places came) (last_of (take places came) (drop places came)) ∙ omega (arith, front, ap length best.1)

same_first : (x y : SocketAddr) → x ∷ [] ≡ y ∷ [] → x ≡ y
same_first x y e = cc

no_more : {A : Type 0} (x : SocketAddr) → [] ≡ x ∷ [] → A
no_more x e = absurd cc

-- one more takes the last place where it goes before the one that stood there
pushed : (before left : List SocketAddr) (a best : SocketAddr) → last_of before left ≡ best ∷ [] → last_of before (left ++ a ∷ []) ≡ cond (goes_before before a best) a best ∷ []
pushed before [] a best is = no_more best is
pushed before (next ∷ more) a best is =
    ap (λ x. x ∷ [])
    (fold-append (λ b x. cond (goes_before before x b) x b) next more (a ∷ [])
    ∙ ap (λ b. cond (goes_before before a b) a b) (same_first (best_of (goes_before before) next more) best is))

-- where all places are taken
over : (places : ℕ) (came now new : List SocketAddr) (a : SocketAddr) → places ≤ length came → now ≡ first_of places came → (now ≡ [] → new ≡ [])
    → ((before : List SocketAddr) (last : SocketAddr) → now ≡ before ++ last ∷ [] → new ≡ before ++ cond (goes_before before a last) a last ∷ [])
    → new ≡ first_of places (came ++ a ∷ [])
over zero came now new a le is none last = none is
over (suc places) came now new a le is none last =
    let best = there (take places came) (drop places came) (omega (arith, le, length-drop places came)) in
    let front = take-append-le places came (a ∷ []) (omega (arith, le)) in
    let left = drop-append-le places came (a ∷ []) (omega (arith, le)) in
    last (take places came) best.0 (is ∙ ap (λ xs. take places came ++ xs) best.1)
    ∙ ap (λ xs. take places came ++ xs) (sym (pushed (take places came) (drop places came) a best.0 best.1))
    ∙ sym (λ i. front i ++ last_of (front i) (left i))

-- what stands behind some is replaced at its beginning
replaced : (came rest : List SocketAddr) (a : SocketAddr) → 0 < length rest → set (came ++ rest) (length came) a ≡ came ++ a ∷ drop 1 rest
replaced [] [] a some = absurd (omega (arith, some))
replaced [] (x ∷ rest) a some = refl
replaced (c ∷ came) rest a some = ap (λ xs. c ∷ xs) (replaced came rest a some)

-- the last one is
pub last_replaced : (before : List SocketAddr) (last a : SocketAddr) (n : ℕ) → n + 1 ≡ length (before ++ last ∷ []) → set (before ++ last ∷ []) n a ≡ before ++ a ∷ []
last_replaced before last a n is =
    let at : n ≡ length before = omega (arith, is, length-append before (last ∷ [])) in
    ap (λ k. set (before ++ last ∷ []) k a) at ∙ replaced before (last ∷ []) a (omega arith)

-- a list ends in one way
pub same_end : (xs ys : List SocketAddr) (x y : SocketAddr) → xs ++ x ∷ [] ≡ ys ++ y ∷ [] → (xs ≡ ys) × (x ≡ y)
same_end [] [] x y e = (refl, same_first x y e)
same_end [] (b ∷ ys) x y e = absurd (omega (arith, ap length e, length-append ys (y ∷ [])))
same_end (a ∷ xs) [] x y e = absurd (omega (arith, ap length e, length-append xs (x ∷ [])))
same_end (a ∷ xs) (b ∷ ys) x y e =
    let tails : xs ++ x ∷ [] ≡ ys ++ y ∷ [] = cc in
    let heads : a ≡ b = cc in
    let rest = same_end xs ys x y tails in
    ((λ i. heads i ∷ rest.0 i), rest.1)

order : (m n : ℕ) → (m ≤ n) ⊎ (n < m)
order zero n = inl (omega arith)
order (suc m) zero = inr (omega arith)
order (suc m) (suc n) = ⊎_elim (λ le. inl (omega (arith, le))) (λ lt. inr (omega (arith, lt))) (order m n)

-- how many places there are and how many are taken, by lengths alone
long : (came was now : List SocketAddr) (n : ℕ) → ArePut came was now n → length now ≡ n + (length was - n)
long came was now n put =
    ap length put.front ∙ length-append (first_of (length was) came) (drop n was) ∙ omega (arith, put.count, length-drop n was)

pub within : (came was now : List SocketAddr) (n : ℕ) → ArePut came was now n → n ≤ length now
within came was now n put = omega (arith, long came was now n put)

pub none_put : (was : List SocketAddr) → ArePut [] was was 0
none_put was = record {
  front = ap (λ xs. xs ++ was) (sym (few (length was) [] (omega arith)));
  count = sym (ap length (few (length was) [] (omega arith)));
}

-- where a place is left
pub put_next : (came was now : List SocketAddr) (n : ℕ) (a : SocketAddr) → ArePut came was now n → n < length now → ArePut (came ++ a ∷ []) was (set now n a) (n + 1)
put_next came was now n a put lt = ⊎_elim none_left some_left (order (length was) (length came))
  where
    none_left : length was ≤ length came → ArePut (came ++ a ∷ []) was (set now n a) (n + 1)
    none_left le = absurd (omega (arith, lt, long came was now n put, put.count, full (length was) came le))

    some_left : length came < length was → ArePut (came ++ a ∷ []) was (set now n a) (n + 1)
    some_left fits =
        let kept : first_of (length was) came ≡ came = few (length was) came (omega (arith, fits)) in
        let many : length came ≡ n = sym (put.count ∙ ap length kept) in
        let kept_on : first_of (length was) (came ++ a ∷ []) ≡ came ++ a ∷ [] = few (length was) (came ++ a ∷ []) (omega (arith, fits, length-append came (a ∷ []))) in
        record {
          front = ap (λ xs. set xs n a) (put.front ∙ ap (λ xs. xs ++ drop n was) kept)
              ∙ subst (λ k. set (came ++ drop n was) k a ≡ came ++ a ∷ drop 1 (drop n was)) many (replaced came (drop n was) a (omega (arith, fits, many, length-drop n was)))
              ∙ ap (λ xs. came ++ a ∷ xs) (drop-drop 1 n was)
              ∙ sym (append_assoc came (a ∷ []) (drop (n + 1) was))
              ∙ ap (λ xs. xs ++ drop (n + 1) was) (sym kept_on);
          count = sym (ap length kept_on ∙ length-append came (a ∷ []) ∙ ap (λ k. k + 1) many);
        }

-- where none is left
pub put_over : (came was now new : List SocketAddr) (n : ℕ) (a : SocketAddr) → ArePut came was now n → length now ≤ n → (now ≡ [] → new ≡ [])
    → ((before : List SocketAddr) (last : SocketAddr) → now ≡ before ++ last ∷ [] → new ≡ before ++ cond (goes_before before a last) a last ∷ [])
    → ArePut (came ++ a ∷ []) was new n
put_over came was now new n a put le none last = ⊎_elim none_left some_left (order (length was) (length came))
  where
    some_left : length came < length was → ArePut (came ++ a ∷ []) was new n
    some_left fits = absurd (omega (arith, le, long came was now n put, put.count, ap length (few (length was) came (omega (arith, fits))), fits))

    none_left : length was ≤ length came → ArePut (came ++ a ∷ []) was new n
    none_left enough =
        let many : n ≡ length was = put.count ∙ full (length was) came enough in
        let behind : drop n was ≡ [] = drop_all n was (omega (arith, many)) in
        let is : now ≡ first_of (length was) came = put.front ∙ ap (λ xs. first_of (length was) came ++ xs) behind ∙ append-nil (first_of (length was) came) in
        let new_is : new ≡ first_of (length was) (came ++ a ∷ []) = over (length was) came now new a enough is none last in
        record {
          front = new_is ∙ sym (append-nil (first_of (length was) (came ++ a ∷ []))) ∙ ap (λ xs. first_of (length was) (came ++ a ∷ []) ++ xs) (sym behind);
          count = many ∙ sym (full (length was) (came ++ a ∷ []) (omega (arith, enough, length-append came (a ∷ []))));
        }
