-- A text that is written piece by piece.
use Rattle.std.proofs.Common.{◌≡◌, ℕ, ◌<◌, List, [], ◌++◌, length, take, drop, refl, sym, ap, ◌∙◌, append_assoc, rules}
use Rattle.std.proofs.lemmas.List.{take-append-drop}
use Rattle.exchange.specs.Writing.{GrowsByProperFront}

-- the bytes have grown by what stands before the rest of the text
pub record Sends (before now text rest : List ℕ) : Type 0 where
  pub front : List ℕ
  pub splits : text ≡ front ++ rest
  pub grown : now ≡ before ++ front

pub Sends-none : (before text : List ℕ) → Sends before before text text
Sends-none before text = record { front = []; splits = refl; grown = search rules }

pub Sends-more : (before now text rest : List ℕ) (n : ℕ) (next : List ℕ) → Sends before now text rest
    → next ≡ now ++ take n rest → Sends before next text (drop n rest)
Sends-more before now text rest n next sent more = record {
  front = sent.front ++ take n rest;
  splits = sent.splits ∙ rw append_assoc (ap (λ r. sent.front ++ r) (sym (take-append-drop n rest)));
  grown = more ∙ rw (sent.grown, append_assoc) refl;
}

pub Sends-all : (before now text rest : List ℕ) → rest ≡ [] → Sends before now text rest → now ≡ before ++ text
Sends-all before now text rest e sent = sent.grown ∙ ap (λ f. before ++ f) (search (rules, sent.splits, e))

pub Sends-front : (before now text rest : List ℕ) → Sends before now text rest → 0 < length rest → GrowsByProperFront before now text
Sends-front before now text rest sent more = record {
  front = sent.front;
  is_front = record { rest = rest; more = more; splits = sent.splits };
  grown = sent.grown;
}
