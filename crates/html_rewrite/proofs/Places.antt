-- What stands at a place of a text.
use Rattle.std.proofs.Common.{◌≡◌, ℕ, ◌+◌, ◌<◌, ◌≤◌, Bool, true, false, ◌||◌, List, [], ◌∷◌, ◌++◌, length, take, drop, refl, sym, ◌∙◌, ap, subst, arith, codes, Some}
use Rattle.std.proofs.lemmas.List.{take-append-drop, drop_all, drop-drop, length-drop}
use Rattle.std.specs.List.{prefix_len, slice_get}
use Rattle.std.specs.Str.{str_eq_ignore_ascii_case}
use Rattle.html_rewrite.specs.Bytes.{greater, is_empty, is_gap, is_name_end, begins, begins_with, IsUpTo, IsRun}
use Rattle.html_rewrite.specs.Split.{IsThrough, ends_raw_text}
use Rattle.html_rewrite.specs.steps.Reading.{Closes}
use Rattle.html_rewrite.proofs.Runs.{run_at, up_to_at}

-- the first byte
pub get_first : (c : ℕ) (t : List ℕ) → slice_get t 0 ≡ Some c → t ≡ c ∷ drop 1 t
get_first c [] e = cc
get_first c (b ∷ t) e = let same : b ≡ c = cc in ap (λ x. x ∷ t) same

-- `>` behind the gap
pub closes_at : (t : List ℕ) → slice_get (drop (prefix_len is_gap t) t) 0 ≡ Some greater → length (take (prefix_len is_gap t) t) ≡ prefix_len is_gap t → Closes t (prefix_len is_gap t + 1)
closes_at t e len =
    let n = prefix_len is_gap t in
    let split : drop n t ≡ greater ∷ drop 1 (drop n t) = get_first greater (drop n t) e in
    record {
      gap = take n t;
      rest = drop 1 (drop n t);
      run = subst (λ (x : List ℕ). IsRun is_gap (take n t) x) split (run_at is_gap t);
      parts = sym (take-append-drop n t) ∙ ap (λ x. take n t ++ x) split;
      lasts = ap (λ x. x + 1) len;
    }

or_true : (a b : Bool) → b ≡ true → (a || b) ≡ true
or_true true b e = refl
or_true false b e = e

-- a front that ends at a place which passes the test
pub up_to_here : (stops : List ℕ → Bool) (n : ℕ) (t : List ℕ) → n ≤ length t → ((k : ℕ) → k < n → stops (drop k t) ≡ false) → stops (drop n t) ≡ true → IsUpTo stops (take n t) (drop n t)
up_to_here stops n t within before here = up_to_at stops n t within before (or_true (is_empty (drop n t)) (stops (drop n t)) here)

-- a front that is all of the text
pub up_to_end : (stops : List ℕ → Bool) (n : ℕ) (t : List ℕ) → n ≤ length t → ((k : ℕ) → k < n → stops (drop k t) ≡ false) → length t ≤ n → IsUpTo stops (take n t) (drop n t)
up_to_end stops n t within before all = up_to_at stops n t within before (rw (drop_all n t all) refl)

-- a text through its closer, by the lengths
pub through_at : (t : List ℕ) (opening len n : ℕ) (closer : List ℕ) → IsUpTo (begins_with closer) (take len (drop opening t)) (drop len (drop opening t)) → drop n t ≡ drop (length closer) (drop len (drop opening t)) → IsThrough opening closer (take n t) (drop n t)
through_at t opening len n closer first ends = record {
  inner = take len (drop opening t);
  behind = drop len (drop opening t);
  inside = ap (drop opening) (take-append-drop n t) ∙ sym (take-append-drop len (drop opening t));
  first = first;
  ends = ends;
}

-- the closer is there
pub through_closer : (t : List ℕ) (opening len : ℕ) (closer : List ℕ) → drop (opening + len + length closer) t ≡ drop (length closer) (drop len (drop opening t))
through_closer t opening len closer = sym (ap (drop (length closer)) (drop-drop len opening t) ∙ drop-drop (length closer) (opening + len) t)

-- the text ends first
pub through_end : (t : List ℕ) (opening len : ℕ) (closer : List ℕ) → length (drop opening t) ≤ len + length closer → drop (length t) t ≡ drop (length closer) (drop len (drop opening t))
through_end t opening len closer short =
    drop_all (length t) t (omega arith) ∙ sym (drop_all (length closer) (drop len (drop opening t)) (omega (arith, length-drop len (drop opening t), short)))

-- an end tag begins here where each of its parts does
pub ends_raw_is : (element t behind : List ℕ) (v : Bool) → begins_with (codes "</") t ≡ true → str_eq_ignore_ascii_case (take (length element) (drop 2 t)) element ≡ true → behind ≡ drop (length element) (drop 2 t) → v ≡ begins is_name_end behind → v ≡ ends_raw_text element t
ends_raw_is element t behind v opens named e ends =
    let same : behind ≡ drop (2 + length element) t = e ∙ drop-drop (length element) 2 t in
    rw opens (rw named (ends ∙ ap (begins is_name_end) same))
