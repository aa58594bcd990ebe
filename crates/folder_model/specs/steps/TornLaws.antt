-- Writes that were done in two parts, and fronts of what they and cuts leave.
use Rattle.std.proofs.Common.{◌≡◌, ◌≤◌, ◌+◌, ◌-◌, ℕ, min, List, ◌++◌, length, take, drop, sym, ap, ◌∙◌, arith, ⊎_elim, length-take, length-drop, length-append, take-append-drop}
use Rattle.std.proofs.lemmas.Bool.{cases_lt}
use Rattle.std.proofs.lemmas.List.{take-take, take_all, take_at, take-append-le, drop_at, drop_all, drop-drop, drop-take}
use Rattle.disk_model.specs.Crash.{Torn, Cut}
use Rattle.disk_model.specs.steps.CrashLaws.{torn_none, cut_front}

-- a front of a front, whichever is longer
front_of_front : (m n : ℕ) (xs : List ℕ) → take m (take n xs) ≡ take (min m n) xs
front_of_front m n xs =
    ⊎_elim
    (λ past. let e : n ≡ min m n = omega (arith, past) in take_all m (take n xs) (omega (arith, length-take n xs, past)) ∙ ap (λ (k : ℕ). take k xs) e)
    (λ within. let e : m ≡ min m n = omega (arith, within) in take-take m n xs within ∙ ap (λ (k : ℕ). take k xs) e)
    (cases_lt n m)

-- a write that lies within a longer one
pub torn_wider : (at many place few : ℕ) (old new : List ℕ) → at ≤ place → place + few ≤ at + many → Torn place few old new → Torn at many old new
torn_wider at many place few old new le fits torn = record {
  no_shorter = torn.no_shorter;
  no_longer = omega (arith, torn.no_longer, fits);
  before =
      sym (take-take at place (take (length old) new) le) ∙ ap (take at) torn.before ∙ take-take at place old le;
  after =
      let more : ℕ = at + many - (place + few) in
      let sum : at + many ≡ place + few + more = omega (arith, fits) in
      ap (λ (n : ℕ). drop n new) sum ∙ sym (drop-drop more (place + few) new) ∙ ap (drop more) torn.after
      ∙ drop-drop more (place + few) old ∙ ap (λ (n : ℕ). drop n old) (sym sum);
}

-- one write after another within the same bytes
pub torn_again : (at many : ℕ) (old mid new : List ℕ) → Torn at many old mid → Torn at many mid new → Torn at many old new
torn_again at many old mid new first second = record {
  no_shorter = omega (arith, first.no_shorter, second.no_shorter);
  no_longer = omega (arith, first.no_longer, second.no_longer);
  before =
      let k : ℕ = min at (length old) in
      let j : ℕ = min at (length mid) in
      let late : take j new ≡ take at mid = sym (front_of_front at (length mid) new) ∙ second.before in
      let front : take k new ≡ take k mid =
      sym (take-take k j new (omega (arith, first.no_shorter))) ∙ ap (take k) late ∙ take-take k at mid (omega arith) in
      front_of_front at (length old) new ∙ front ∙ sym (front_of_front at (length old) mid) ∙ first.before;
  after = second.after ∙ first.after;
}

-- a write of nothing tears nothing
pub torn_nothing : (at : ℕ) (old new : List ℕ) → at ≤ length old → Torn at 0 old new → new ≡ old
torn_nothing at old new inside torn =
    let len : length new ≤ length old = omega (arith, torn.no_longer, inside) in
    let none : at + 0 ≡ at = omega arith in
    let front : take at new ≡ take at old = ap (take at) (sym (take_all (length old) new len)) ∙ torn.before in
    let back : drop at new ≡ drop at old = ap (λ (k : ℕ). drop k new) (sym none) ∙ torn.after ∙ ap (λ (k : ℕ). drop k old) none in
    sym (take-append-drop at new) ∙ (λ i. front i ++ back i) ∙ take-append-drop at old

-- what stands before a torn write
pub front_of_torn : (at many : ℕ) (old new : List ℕ) → at ≤ length old → Torn at many old new → take at new ≡ take at old
front_of_torn at many old new inside torn = sym (take-take at (length old) new inside) ∙ torn.before

-- a torn write is one of its first bytes, and then one of the others
pub torn_split : (at n m : ℕ) (old new : List ℕ) → at ≤ length old → Torn at (n + m) old new → (mid : List ℕ) × Torn at n old mid × Torn (at + n) m mid new
torn_split at n m old new inside torn =
    ⊎_elim
    (λ short. (
      new,
      record {
        no_shorter = torn.no_shorter;
        no_longer = omega (arith, short);
        before = torn.before;
        after = drop_all (at + n) new (omega (arith, short)) ∙ sym (drop_all (at + n) old (omega (arith, short, torn.no_shorter)));
      },
      torn_none (at + n) m new,
    ))
    (λ long.
    let front : List ℕ = take (at + n) new in
    let mid : List ℕ = front ++ drop (at + n) old in
    let len : length front ≡ at + n = omega (arith, length-take (at + n) new, long) in
    let all : length mid ≡ length front + length (drop (at + n) old) = length-append front (drop (at + n) old) in
    let rest : length (drop (at + n) old) ≡ length old - (at + n) = length-drop (at + n) old in
    let sum : at + n + m ≡ at + (n + m) = omega arith in (
      mid,
      record {
        no_shorter = omega (arith, all, len, rest);
        no_longer = omega (arith, all, len, rest);
        before =
            take-take at (length old) mid inside
            ∙ take-append-le at front (drop (at + n) old) (omega (arith, len))
            ∙ take-take at (at + n) new (omega arith)
            ∙ front_of_torn at (n + m) old new inside torn;
        after = drop_at front (drop (at + n) old) (at + n) len;
      },
      record {
        no_shorter = omega (arith, all, len, rest, long, torn.no_shorter);
        no_longer = omega (arith, all, len, rest, torn.no_longer);
        before =
            take-take (at + n) (length mid) new (omega (arith, all, len))
            ∙ sym (take_at front (drop (at + n) old) (at + n) len);
        after =
            ap (λ (k : ℕ). drop k new) sum ∙ torn.after ∙ ap (λ (k : ℕ). drop k old) (sym sum)
            ∙ sym (sym (drop-drop m (at + n) mid) ∙ ap (drop m) (drop_at front (drop (at + n) old) (at + n) len) ∙ drop-drop m (at + n) old);
      },
    ))
    (cases_lt (length new) (at + n))

-- fronts of torn bytes
pub torn_taken : (at many k : ℕ) (old new : List ℕ) → at ≤ k → at ≤ length old → Torn at many old new → Torn at many (take k old) (take k new)
torn_taken at many k old new within inside torn = record {
  no_shorter = omega (arith, length-take k old, length-take k new, torn.no_shorter);
  no_longer = omega (arith, length-take k old, length-take k new, torn.no_longer);
  before =
      take-take at (length (take k old)) (take k new) (omega (arith, length-take k old, within, inside))
      ∙ take-take at k new within
      ∙ front_of_torn at many old new inside torn
      ∙ sym (take-take at k old within);
  after =
      ⊎_elim
      (λ short.
      drop_all (at + many) (take k new) (omega (arith, length-take k new, short)) ∙ sym (drop_all (at + many) (take k old) (omega (arith, length-take k old, short))))
      (λ long.
      let m : ℕ = k - (at + many) in
      let sum : k ≡ at + many + m = omega (arith, long) in
      ap (λ (j : ℕ). drop (at + many) (take j new)) sum
      ∙ drop-take (at + many) m new
      ∙ ap (take m) torn.after
      ∙ sym (drop-take (at + many) m old)
      ∙ ap (λ (j : ℕ). drop (at + many) (take j old)) (sym sum))
      (cases_lt k (at + many));
}

-- What stands behind the range is the same, up to the end of what is read, also where that is torn in the range.
pub behind_torn : (at many : ℕ) (reading now bytes : List ℕ) → Torn at many reading now → drop (at + many) (take (length reading) bytes) ≡ drop (at + many) reading
    → drop (at + many) (take (length now) bytes) ≡ drop (at + many) now
behind_torn at many reading now bytes torn is =
    ⊎_elim
    (λ long.
    let same : length now ≡ length reading = omega (arith, long, torn.no_shorter, torn.no_longer) in
    ap (λ (k : ℕ). drop (at + many) (take k bytes)) same ∙ is ∙ sym torn.after)
    (λ short.
    drop_all (at + many) (take (length now) bytes) (omega (arith, length-take (length now) bytes, short)) ∙ sym (drop_all (at + many) now (omega (arith, short))))
    (cases_lt (at + many) (length now))

-- a front of what a cut leaves, not shorter than it was to be
pub cut_taken : (len k : ℕ) (old new : List ℕ) → len ≤ length old → len ≤ k → Cut len old new → Cut len old (take k new)
cut_taken len k old new inside within cut =
    let front : new ≡ take (length new) old = cut_front len old new inside cut in
    let few : length new ≤ length old = omega (arith, cut.no_longer, inside) in
    let size : length (take k new) ≡ min k (length new) = length-take k new in
    record {
      no_shorter = omega (arith, size, within, cut.no_shorter);
      no_longer = omega (arith, size, few);
      same =
          take_all (length old) (take k new) (omega (arith, size, few))
          ∙ ap (take k) front
          ∙ front_of_front k (length new) old
          ∙ ap (λ (j : ℕ). take j old) (sym size);
    }
