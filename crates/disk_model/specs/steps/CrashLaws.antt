-- Laws of torn writes, of cuts and of time.
use Rattle.std.proofs.Common.{◌≡◌, ◌<◌, ◌≤◌, ◌+◌, ◌-◌, ℕ, min, List, [], ◌∷◌, ◌++◌, length, take, drop, get_or, refl, sym, ap, ◌∙◌, arith, inl, inr, ⊎_elim, append_assoc, length-append, length-take, length-drop, take-append-drop}
use Rattle.std.proofs.lemmas.Bool.{cases_lt}
use Rattle.std.proofs.lemmas.List.{append-nil, take_all, take_at, take_min, drop_all, take-take, take-append-le, drop-drop, drop_at, drop_more, drop-take}
use Rattle.disk_model.specs.Image.{Image, written, file_of}
use Rattle.disk_model.specs.steps.ImageLaws.{with_file-file_of}
use Rattle.disk_model.specs.Crash.{Torn, Cut, OnFile, Elapses}
use Rattle.disk_model.specs.declared.kind.Kind.{Kind}
use Rattle.disk_model.specs.Laws.{TornAppendStandsBehind, TornByteIsAlone, WrittenAtTheEndStandsBehind, WrittenByteIsAlone, CutLeavesAFrontBehind}

-- a write that wasn't begun
pub torn_none : (at n : ℕ) (old : List ℕ) → Torn at n old old
torn_none at n old = record {
  no_shorter = omega arith;
  no_longer = omega arith;
  before = ap (λ (l : List ℕ). take at l) (take_all (length old) old (omega arith));
  after = refl;
}

pub length-written : (old : List ℕ) (at : ℕ) (bytes : List ℕ) → length (written old at bytes) ≡ min at (length old) + length bytes + (length old - (at + length bytes))
length-written old at bytes =
    length-append (take at old ++ bytes) (drop (at + length bytes) old)
    ∙ omega (arith, length-append (take at old) bytes, length-take at old, length-drop (at + length bytes) old)

-- a write of some of the bytes, or of all of them
pub torn_written : (at n : ℕ) (old bytes : List ℕ) → length bytes ≤ n → Torn at n old (written old at bytes)
torn_written at n old bytes some = record {
  no_shorter = omega (arith, length-written old at bytes);
  no_longer = omega (arith, length-written old at bytes);
  before = ⊎_elim torn_past torn_within (cases_lt (length old) at);
  after = ⊎_elim dropped_past dropped_within (cases_lt (length old) at);
}
  where
    front : List ℕ
    front = take at old ++ bytes

    rest : List ℕ
    rest = drop (at + length bytes) old

    torn_past : length old < at → take at (take (length old) (front ++ rest)) ≡ take at old
    torn_past past =
        let whole : take at old ≡ old = take_all at old (omega arith) in
        ap (λ (l : List ℕ). take at l)
        (take-append-le (length old) front rest (omega (arith, length-append (take at old) bytes, length-take at old))
        ∙ take-append-le (length old) (take at old) bytes (omega (arith, length-take at old))
        ∙ ap (λ (l : List ℕ). take (length old) l) whole
        ∙ take_all (length old) old (omega arith))

    torn_within : at ≤ length old → take at (take (length old) (front ++ rest)) ≡ take at old
    torn_within in_file =
        take-take at (length old) (front ++ rest) in_file
        ∙ take-append-le at front rest (omega (arith, length-append (take at old) bytes, length-take at old))
        ∙ take-append-le at (take at old) bytes (omega (arith, length-take at old))
        ∙ take-take at at old (omega arith)

    dropped_past : length old < at → drop (at + n) (front ++ rest) ≡ drop (at + n) old
    dropped_past past = drop_all (at + n) (front ++ rest) (omega (arith, length-written old at bytes)) ∙ sym (drop_all (at + n) old (omega arith))

    dropped_within : at ≤ length old → drop (at + n) (front ++ rest) ≡ drop (at + n) old
    dropped_within in_file =
        let more = n - length bytes in
        let sum : at + length bytes + more ≡ at + n = omega arith in
        sym (ap (λ (k : ℕ). drop k (front ++ rest)) sum)
        ∙ sym (drop-drop more (at + length bytes) (front ++ rest))
        ∙ ap (λ (l : List ℕ). drop more l) (drop_at front rest (at + length bytes) (omega (arith, length-append (take at old) bytes, length-take at old)))
        ∙ drop-drop more (at + length bytes) old
        ∙ ap (λ (k : ℕ). drop k old) sum

-- the bytes before an offset that lies in the file stay
pub torn_before : (at n : ℕ) (old new : List ℕ) → at ≤ length old → Torn at n old new → take at new ≡ take at old
torn_before at n old new le torn = sym (take-take at (length old) new le) ∙ torn.before

pub torn_append : TornAppendStandsBehind
torn_append n old new torn = (
  drop (length old) new,
  sym (take-append-drop (length old) new)
      ∙ ap (λ (l : List ℕ). l ++ drop (length old) new) (torn_before (length old) n old new (omega arith) torn ∙ take_all (length old) old (omega arith)),
  omega (arith, length-drop (length old) new, torn.no_longer),
)

pub torn_byte : TornByteIsAlone
torn_byte at old new inside torn =
    let before : take at new ≡ take at old = torn_before at 1 old new (omega (arith, inside)) torn in
    let rest : drop at new ≡ get_or new at 0 ∷ drop (at + 1) old =
    drop_more new at 0 (omega (arith, inside, torn.no_shorter)) ∙ ap (λ (l : List ℕ). get_or new at 0 ∷ l) torn.after in
    (get_or new at 0, sym (take-append-drop at new) ∙ (λ i. before i ++ rest i))

pub written_at_end : WrittenAtTheEndStandsBehind
written_at_end old bytes =
    let front : take (length old) old ≡ old = take_all (length old) old (omega arith) in
    let rest : drop (length old + length bytes) old ≡ [] = drop_all (length old + length bytes) old (omega arith) in
    (λ i. front i ++ bytes ++ rest i) ∙ append-nil (old ++ bytes)

pub written_byte : WrittenByteIsAlone
written_byte old at byte = append_assoc (take at old) (byte ∷ []) (drop (at + 1) old)

-- a cut that wasn't begun
pub cut_none : (n : ℕ) (old : List ℕ) → Cut n old old
cut_none n old = record { no_shorter = omega arith; no_longer = omega arith; same = refl }

-- a cut that was done
pub cut_done : (n : ℕ) (old : List ℕ) → Cut n old (take n old)
cut_done n old = record {
  no_shorter = omega (arith, length-take n old);
  no_longer = omega (arith, length-take n old);
  same =
      take_all (length old) (take n old) (omega (arith, length-take n old))
      ∙ sym (ap (λ (k : ℕ). take k old) (length-take n old) ∙ take_min n old);
}

-- a cut of a file that is long enough leaves a front of it
pub cut_front : (n : ℕ) (old new : List ℕ) → n ≤ length old → Cut n old new → new ≡ take (length new) old
cut_front n old new le cut = sym (take_all (length old) new (omega (arith, cut.no_longer))) ∙ cut.same

pub cut_behind : CutLeavesAFrontBehind
cut_behind text rest new cut =
    let sum : length (text ++ rest) ≡ length text + length rest = length-append text rest in
    let k : ℕ = length new - length text in
    let long : length new ≡ length text + k = omega (arith, sum, cut.no_shorter) in (
      k,
      cut_front (length text) (text ++ rest) new (omega (arith, sum)) cut
          ∙ ap (λ (n : ℕ). take n (text ++ rest)) long
          ∙ sym (take-append-drop (length text) (take (length text + k) (text ++ rest)))
          ∙ (λ i. front k i ++ behind k i),
    )
  where
    front : (k : ℕ) → take (length text) (take (length text + k) (text ++ rest)) ≡ text
    front k = take-take (length text) (length text + k) (text ++ rest) (omega arith) ∙ take_at text rest (length text) refl

    behind : (k : ℕ) → drop (length text) (take (length text + k) (text ++ rest)) ≡ take k rest
    behind k = drop-take (length text) k (text ++ rest) ∙ ap (λ (l : List ℕ). take k l) (drop_at text rest (length text) refl)

-- a step that may do nothing to the file may do nothing to the image
pub on_file_none : (kind : Kind) (file : ℕ) (Step : List ℕ → List ℕ → Type 0) (image : Image) → Step (file_of image kind file) (file_of image kind file) → OnFile kind file Step image image
on_file_none kind file Step image none = record { bytes = file_of image kind file; step = none; whole = sym (with_file-file_of image kind file) }

-- of more images
pub elapses_weaker : (before now : ℕ) (past since : ℕ → Image → Type 0) (few more : Image → Type 0) → ((image : Image) → few image → more image)
    → Elapses before now past since few → Elapses before now past since more
elapses_weaker before now past since few more gives time = record {
  later = time.later;
  by_one = time.by_one;
  nothing_else = λ t image le left. ⊎_elim (λ was. inl was) (λ is. inr (gives image is)) (time.nothing_else t image le left);
  keeps = time.keeps;
}
