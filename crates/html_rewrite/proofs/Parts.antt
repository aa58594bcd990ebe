-- A part of a page that was read, and bytes that nothing opens at.
use Rattle.std.proofs.Common.{◌≡◌, ℕ, ◌+◌, ◌<◌, ◌≤◌, Bool, true, false, not, ◌==◌, List, [], ◌∷◌, ◌++◌, length, take, drop, refl, sym, ◌∙◌, ap, subst, arith}
use Rattle.std.proofs.Math.Numerals.{one-add}
use Rattle.std.proofs.lemmas.List.{append-nil, length-drop, take-append-drop}
use Rattle.std.proofs.lemmas.Bool.{false≢true}
use Rattle.std.specs.List.{flat_map, prefix_len}
use Rattle.html_rewrite.specs.declared.opening.Opening.{Opening}
use Rattle.html_rewrite.specs.declared.opening.Opening.TheVariants.{Other}
use Rattle.html_rewrite.specs.declared.rewriter.Rewriter.{Rewriter}
use Rattle.html_rewrite.specs.Bytes.{less, IsRun}
use Rattle.html_rewrite.specs.Pieces.{replaced}
use Rattle.html_rewrite.specs.Split.{IsRead, Part, Takes, Untouched, opening_at, part_pieces, part_text}
use Rattle.html_rewrite.specs.steps.Reading.{Passes, ReadsParts, ahead, done, grown}
use Rattle.html_rewrite.proofs.FirstBytes.{differs_back}
use Rattle.html_rewrite.proofs.Grown.{grown_twice}
use Rattle.html_rewrite.proofs.Runs.{run_at}
use Rattle.html_rewrite.proofs.Steps.{replaced-append}

-- the next part of the page was read
pub record ReadsPart (limit : ℕ) (link : List ℕ → List ℕ) (old new : Rewriter) : Type 0 where
  pub part : Part
  pub taken : Takes (opening_at (ahead old)) part (ahead new)
  pub parts : ahead old ≡ part_text part (ahead new)
  pub written : done limit new ≡ grown limit (done limit old) (replaced link (part_pieces part))
  pub shorter : length (ahead new) < length (ahead old)

pub one_part : (limit : ℕ) (link : List ℕ → List ℕ) (old new : Rewriter) → ReadsPart limit link old new → ReadsParts limit link old new
one_part limit link old new reads = record {
  onward = λ parts read. record {
    whole = reads.part ∷ parts;
    read = (ahead new, reads.parts, reads.taken, read);
    written =
        ap (grown limit (done limit old)) (replaced-append link (part_pieces reads.part) (flat_map part_pieces parts))
        ∙ sym (grown_twice limit (done limit old) (replaced link (part_pieces reads.part)) (replaced link (flat_map part_pieces parts)))
        ∙ ap (λ x. grown limit x (replaced link (flat_map part_pieces parts))) (sym reads.written);
  };
  shorter = reads.shorter;
}

-- bytes that stay as they are
pub reads_plain : (limit : ℕ) (link : List ℕ → List ℕ) (old new : Rewriter) (n : ℕ) (opening : Opening) → Passes n old new → n ≤ length (ahead old) → 0 < n → opening ≡ opening_at (ahead old) → Takes opening (Untouched (take n (ahead old))) (drop n (ahead old)) → ReadsParts limit link old new
reads_plain limit link old new n opening passes within some opens takes = one_part limit link old new (record {
  part = Untouched (take n (ahead old));
  taken = subst (λ (x : List ℕ). Takes (opening_at (ahead old)) (Untouched (take n (ahead old))) x) (sym passes.rest) (subst (λ (x : Opening). Takes x (Untouched (take n (ahead old))) (drop n (ahead old))) opens takes);
  parts = sym (take-append-drop n (ahead old)) ∙ ap (λ x. take n (ahead old) ++ x) (sym passes.rest);
  written = passes.written limit ∙ ap (grown limit (done limit old)) (sym (append-nil (take n (ahead old))));
  shorter = omega (arith, ap length passes.rest, length-drop n (ahead old));
})

-- each byte of a text as a part
ones : List ℕ → List Part
ones [] = []
ones (b ∷ text) = Untouched (b ∷ []) ∷ ones text

ones_written : (link : List ℕ → List ℕ) (text : List ℕ) (parts : List Part) → replaced link (flat_map part_pieces (ones text ++ parts)) ≡ text ++ replaced link (flat_map part_pieces parts)
unfolding ones
ones_written link [] parts = refl
ones_written link (b ∷ text) parts = ap (λ x. b ∷ x) (ones_written link text parts)

-- nothing opens at any place of the front
abbrev NothingOpens : List ℕ → List ℕ → Type 0
NothingOpens [] rest = Unit {0}
NothingOpens (b ∷ front) rest = (opening_at (b ∷ front ++ rest) ≡ Other) × NothingOpens front rest

ones_read : (front rest : List ℕ) (parts : List Part) → NothingOpens front rest → IsRead parts rest → IsRead (ones front ++ parts) (front ++ rest)
unfolding ones
ones_read [] rest parts none read = read
ones_read (b ∷ front) rest parts none read =
    let first : Part = Untouched (b ∷ []) in
    (front ++ rest, refl, subst (λ (x : Opening). Takes x first (front ++ rest)) (sym none.0) refl, ones_read front rest parts none.1 read)

-- nothing opens at another byte than `<`
other_byte : (b : ℕ) (text : List ℕ) → (b == less) ≡ false → opening_at (b ∷ text) ≡ Other
unfolding opening_at
other_byte b text e = let e' : (less == b) ≡ false = differs_back b less e in rw e' refl

not_twice : (v : Bool) → not (not v) ≡ false → v ≡ false
not_twice true e = absurd (false≢true (sym e))
not_twice false e = refl

run_opens_nothing : (front rest : List ℕ) → IsRun (λ b. not (b == less)) front rest → NothingOpens front rest
run_opens_nothing [] rest run = tt
run_opens_nothing (b ∷ front) rest run = (other_byte b (front ++ rest) (not_twice (b == less) run.0), run_opens_nothing front rest run.1)

nothing_opens : (text : List ℕ) → opening_at text ≡ Other → 0 < length text → NothingOpens (take (1 + prefix_len (λ b. not (b == less)) (drop 1 text)) text) (drop (1 + prefix_len (λ b. not (b == less)) (drop 1 text)) text)
nothing_opens [] opens some = absurd (omega (arith, some))
nothing_opens (b ∷ text) opens some =
    let n = prefix_len (λ c. not (c == less)) text in
    rw (one-add n) (rw (take-append-drop n text) opens, run_opens_nothing (take n text) (drop n text) (run_at (λ c. not (c == less)) text))

-- bytes up to the next `<` stay, each as a part
pub reads_text : (limit : ℕ) (link : List ℕ → List ℕ) (old new : Rewriter) (n : ℕ) → Passes n old new → n ≡ 1 + prefix_len (λ b. not (b == less)) (drop 1 (ahead old)) → 0 < length (ahead old) → opening_at (ahead old) ≡ Other → ReadsParts limit link old new
reads_text limit link old new n passes is some opens =
    let t = ahead old in
    let none : NothingOpens (take n t) (drop n t) = subst (λ (m : ℕ). NothingOpens (take m t) (drop m t)) (sym is) (nothing_opens t opens some) in
    record {
      onward = λ parts read. record {
        whole = ones (take n t) ++ parts;
        read = subst (IsRead (ones (take n t) ++ parts)) (take-append-drop n t) (ones_read (take n t) (drop n t) parts none (subst (IsRead parts) passes.rest read));
        written =
            ap (grown limit (done limit old)) (ones_written link (take n t) parts)
            ∙ sym (grown_twice limit (done limit old) (take n t) (replaced link (flat_map part_pieces parts)))
            ∙ ap (λ x. grown limit x (replaced link (flat_map part_pieces parts))) (sym (passes.written limit));
      };
      shorter = omega (arith, some, is, ap length passes.rest, length-drop n t);
    }
