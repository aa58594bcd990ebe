-- What torn writes and cuts leave of a file of finished texts.
use Rattle.std.proofs.Common.{◌≡◌, ◌≢◌, ◌⊎◌, ◌<◌, ◌≤◌, ◌+◌, ℕ, zero, suc, List, [], ◌∷◌, ◌++◌, length, take, drop, refl, sym, ap, ◌∙◌, subst, arith, inl, inr, ⊎_elim, append_assoc, length-append, length-take, take-append-drop, get_or-take}
use Rattle.std.proofs.lemmas.Bool.{cases_eq, cases_lt}
use Rattle.std.proofs.lemmas.List.{append-nil, length_push, length-take-le, nil_from_length, take_all, take_at, take-take, drop_at}
use Rattle.disk_model.specs.Crash.{Torn, Cut}
use Rattle.disk_model.specs.steps.CrashLaws.{torn_before, torn_append, torn_byte, written_at_end, written_byte, cut_front, cut_behind}
use Rattle.disk_model.specs.Image.{written}
use Rattle.capture.specs.Tails.{IsCommitted, IsTail, IsRest, HoldsText}
use Rattle.gated_file.specs.Files.{KeepsFront}

-- a text with nothing behind it is held
pub holds_alone : (commit : ℕ) (text : List ℕ) → HoldsText commit text text
holds_alone commit text = record { rest = []; unfinished = inl refl; composed = sym (append-nil text) }

-- a text that is held begins the file
pub held_begins : (commit : ℕ) (text file : List ℕ) → HoldsText commit text file → take (length text) file ≡ text
held_begins commit text file holds = ap (λ (l : List ℕ). take (length text) l) holds.composed ∙ take_at text holds.rest (length text) refl

-- what isn't the commit byte begins a tail
pub tail_of : (commit byte : ℕ) (rest : List ℕ) → byte ≢ commit → IsTail commit (byte ∷ rest)
tail_of commit byte rest apart = record { some = omega arith; unfinished = inl apart }

pub holds_closed : (commit byte : ℕ) (text rest : List ℕ) → byte ≢ commit → HoldsText commit text (text ++ byte ∷ rest)
holds_closed commit byte text rest apart = record { rest = byte ∷ rest; unfinished = inr (tail_of commit byte rest apart); composed = refl }

-- one byte at most is nothing or a tail
short_rest : (commit : ℕ) (rest : List ℕ) → length rest ≤ 1 → IsRest commit rest
short_rest commit rest le =
    ⊎_elim
    (λ some. inr (record { some = some; unfinished = inr (omega (arith, some, le)) }))
    (λ none. inl (nil_from_length rest (omega (arith, none))))
    (cases_lt 0 (length rest))

-- one byte written at the end of the text
pub holds_one : (commit : ℕ) (text new : List ℕ) → Torn (length text) 1 text new → HoldsText commit text new
holds_one commit text new torn =
    let added = torn_append 1 text new torn in
    record { rest = added.0; unfinished = short_rest commit added.0 added.2; composed = added.1 }

-- bytes written behind the closed commit byte
pub holds_behind : (commit byte n : ℕ) (text new : List ℕ) → byte ≢ commit → Torn (length text + 1) n (text ++ byte ∷ []) new → HoldsText commit text new
holds_behind commit byte n text new apart torn =
    let at : length (text ++ byte ∷ []) ≡ length text + 1 = length_push text byte in
    let added = torn_append n (text ++ byte ∷ []) new (subst (λ (k : ℕ). Torn k n (text ++ byte ∷ []) new) (sym at) torn) in
    subst (HoldsText commit text) (sym (added.1 ∙ append_assoc text (byte ∷ []) added.0)) (holds_closed commit byte text added.0 apart)

-- two writes of one byte in a file are one
pub torn_twice : (at : ℕ) (old mid new : List ℕ) → at < length old → Torn at 1 old mid → Torn at 1 mid new → Torn at 1 old new
torn_twice at old mid new inside first second =
    let same : length mid ≡ length old = omega (arith, inside, first.no_shorter, first.no_longer) in
    let still : length new ≡ length old = omega (arith, inside, same, second.no_shorter, second.no_longer) in
    record {
      no_shorter = omega (arith, still);
      no_longer = omega (arith, still);
      before = ap (λ (n : ℕ). take at (take n new)) (sym same) ∙ second.before ∙ torn_before at 1 old mid (omega (arith, inside)) first;
      after = second.after ∙ first.after;
    }

-- what stands behind one byte more than the text
behind_one : (text rest : List ℕ) (byte : ℕ) → drop (length text + 1) (text ++ byte ∷ rest) ≡ rest
behind_one text rest byte =
    ap (λ (l : List ℕ). drop (length text + 1) l) (sym (append_assoc text (byte ∷ []) rest)) ∙ drop_at (text ++ byte ∷ []) rest (length text + 1) (length_push text byte)

-- one byte written over the first behind the text
pub one_byte : (text rest new : List ℕ) (byte : ℕ) → Torn (length text) 1 (text ++ byte ∷ rest) new → (b : ℕ) × (new ≡ text ++ b ∷ rest)
one_byte text rest new byte torn =
    let torn_one = torn_byte (length text) (text ++ byte ∷ rest) new (omega (arith, length-append text (byte ∷ rest))) torn in
    let front : take (length text) (text ++ byte ∷ rest) ≡ text = take_at text (byte ∷ rest) (length text) refl in
    (torn_one.0, torn_one.1 ∙ (λ i. front i ++ torn_one.0 ∷ behind_one text rest byte i))

-- with the commit byte the text behind is whole, and with another it is a tail
pub whole_or_tail : (commit byte : ℕ) (text rest : List ℕ) → HoldsText commit text (text ++ byte ∷ rest) ⊎ (text ++ byte ∷ rest ≡ text ++ commit ∷ rest)
whole_or_tail commit byte text rest =
    ⊎_elim
    (λ same. inr (ap (λ (b : ℕ). text ++ b ∷ rest) same))
    (λ apart. inl (holds_closed commit byte text rest apart))
    (cases_eq byte commit)

-- a front of what may stand behind a text may stand there
pub front_of_rest : (commit k : ℕ) (rest : List ℕ) → IsRest commit rest → IsRest commit (take k rest)
front_of_rest commit k rest (inl none) = inl (ap (λ (l : List ℕ). take k l) none ∙ take_all k [] (omega arith))
front_of_rest commit zero rest (inr tail) = inl refl
front_of_rest commit (suc k) rest (inr tail) = inr (record {
  some = omega (arith, tail.some, length-take (suc k) rest);
  unfinished = ⊎_elim
      (λ apart. inl (λ same. apart (sym (get_or-take (suc k) rest 0 0 (omega arith)) ∙ same)))
      (λ one. inr (omega (arith, one, length-take (suc k) rest)))
      tail.unfinished;
})

-- a cut at the end of the text
pub holds_cut : (commit : ℕ) (text file new : List ℕ) → HoldsText commit text file → Cut (length text) file new → HoldsText commit text new
holds_cut commit text file new holds cut =
    let left = cut_behind text holds.rest new (subst (λ (l : List ℕ). Cut (length text) l new) holds.composed cut) in
    record { rest = take left.0 holds.rest; unfinished = front_of_rest commit left.0 holds.rest holds.unfinished; composed = left.1 }

-- a text and what may stand behind it
pub holds_split : (commit end : ℕ) (bytes : List ℕ) → IsRest commit (drop end bytes) → HoldsText commit (take end bytes) bytes
holds_split commit end bytes rest = record { rest = drop end bytes; unfinished = rest; composed = sym (take-append-drop end bytes) }

-- a write at the end or behind it keeps the text
pub torn_keeps : (end at n : ℕ) (old new : List ℕ) → end ≤ at → at ≤ length old → Torn at n old new → KeepsFront end old new
torn_keeps end at n old new behind within torn =
    sym (take-take end at new behind)
    ∙ ap (λ (l : List ℕ). take end l) (torn_before at n old new within torn)
    ∙ take-take end at old behind

-- and so does a cut there
pub cut_keeps : (end : ℕ) (old new : List ℕ) → end ≤ length old → Cut end old new → KeepsFront end old new
cut_keeps end old new within cut =
    ap (λ (l : List ℕ). take end l) (cut_front end old new within cut)
    ∙ take-take end (length new) old (omega (arith, within, cut.no_shorter))

-- where the text is kept the file is long enough
pub kept_length : (end : ℕ) (old new : List ℕ) → end ≤ length old → KeepsFront end old new → end ≤ length new
kept_length end old new within keeps = omega (arith, within, length-take end old, length-take end new, ap length keeps)

-- `-` over what stands at the end leaves a tail there
pub closed_rest : (commit end : ℕ) (bytes : List ℕ) → (commit ≡ 45 → ⊥) → end ≤ length bytes → IsRest commit (drop end (written bytes end (45 ∷ [])))
closed_rest commit end bytes apart within =
    let rest = drop (end + 1) bytes in
    let is : drop end (written bytes end (45 ∷ [])) ≡ 45 ∷ rest =
    ap (λ (l : List ℕ). drop end l) (written_byte bytes end 45) ∙ drop_at (take end bytes) (45 ∷ rest) end (length-take-le end bytes within) in
    subst (IsRest commit) (sym is) (inr (tail_of commit 45 rest (λ same. apart (sym same))))

-- a committed text is its commit byte and the rest
pub committed_split : (commit : ℕ) (text : List ℕ) → IsCommitted commit text → text ≡ commit ∷ drop 1 text
committed_split commit [] committed = absurd (omega (arith, committed.more))
committed_split commit (x ∷ rest) committed = ap (λ (b : ℕ). b ∷ rest) committed.begins

-- what the three steps write behind a text
module _ (text : List ℕ) where
  pub written_first : (old : List ℕ) (byte : ℕ) → old ≡ text → written old (length text) (byte ∷ []) ≡ text ++ byte ∷ []
  written_first old byte is = ap (λ (l : List ℕ). written l (length text) (byte ∷ [])) is ∙ written_at_end text (byte ∷ [])

  pub written_second : (old rest : List ℕ) (byte : ℕ) → old ≡ text ++ byte ∷ [] → written old (length text + 1) rest ≡ text ++ byte ∷ rest
  written_second old rest byte is =
      ap (λ (l : List ℕ). written l (length text + 1) rest) is
      ∙ ap (λ (n : ℕ). written (text ++ byte ∷ []) n rest) (sym (length_push text byte))
      ∙ written_at_end (text ++ byte ∷ []) rest
      ∙ append_assoc text (byte ∷ []) rest

  pub written_third : (old rest : List ℕ) (closed byte : ℕ) → old ≡ text ++ closed ∷ rest → written old (length text) (byte ∷ []) ≡ text ++ byte ∷ rest
  written_third old rest closed byte is =
      let front : take (length text) (text ++ closed ∷ rest) ≡ text = take_at text (closed ∷ rest) (length text) refl in
      ap (λ (l : List ℕ). written l (length text) (byte ∷ [])) is
      ∙ written_byte (text ++ closed ∷ rest) (length text) byte
      ∙ (λ i. front i ++ byte ∷ behind_one text rest closed i)
