-- Texts that are refused, with more before them or behind them.
use Rattle.std.proofs.Common.{◌≡◌, ◌⊎◌, ℕ, ◌<◌, ◌≤◌, inl, inr, List, [], ◌++◌, length, take, drop, length-append, append_assoc, refl, sym, ap, subst, ◌∙◌, arith}
use Rattle.std.proofs.lemmas.List.{take_at, take-append-le, append-nil, take-append-drop}
use Rattle.warc_text.proofs.Fronts.{fronts}
use Rattle.record_opening.specs.OpenValues.{IsOpenValue, IsPartBehind, Begins, EndsInside}
use Rattle.record_opening.specs.Stops.{Leaves, Refuses, IsLineStop, Differs, NoneStands, NoValueStands}
use Rattle.record_opening.specs.declared.stop.Stop.{Stop}
use Rattle.record_opening.specs.declared.stop.Stop.TheVariants.{Open, Until, Wrong, Memory}

-- ---- a text with more behind it

leaves_more : (stop : Stop) (bytes a b : List ℕ) → Leaves stop bytes a → Leaves stop bytes (a ++ b)
leaves_more Open bytes a b left = omega (arith, length-append a b, left)
leaves_more (Until n) bytes a b left = (left.0, omega (arith, length-append a b, left.1))
leaves_more Wrong bytes a b left = left
leaves_more Memory bytes a b left = tt

pub refuses_more : (stop : Stop) (bytes a b : List ℕ) → Refuses stop bytes a → Refuses stop bytes (a ++ b)
refuses_more stop bytes a b refused = λ after other e. leaves_more stop bytes a b (refused after (b ++ other) (e ∙ append_assoc a b other))

pub begins_more : (a b bytes : List ℕ) → Begins a bytes → Begins (a ++ b) bytes
begins_more a b bytes is = record {
  behind = is.behind ++ b;
  composed = ap (λ t. t ++ b) is.composed ∙ append_assoc bytes is.behind b;
  more = omega (arith, length-append is.behind b, is.more);
}

-- bytes that a text begins with end inside it
pub begins_ends : (text bytes : List ℕ) → Begins text bytes → EndsInside text bytes
begins_ends text bytes is = record {
  given = bytes;
  part = [];
  behind = is.behind;
  begins = is.composed;
  more = is.more;
  composed = sym (append-nil bytes);
  value = inl refl;
}

pub ends_more : (a b bytes : List ℕ) → EndsInside a bytes → EndsInside (a ++ b) bytes
ends_more a b bytes ends = record {
  given = ends.given;
  part = ends.part;
  behind = ends.behind ++ b;
  begins = ap (λ t. t ++ b) ends.begins ∙ append_assoc ends.given ends.behind b;
  more = omega (arith, length-append ends.behind b, ends.more);
  composed = ends.composed;
  value = ends.value;
}

pub differs_more : (stop : Stop) (bytes a b : List ℕ) → Differs stop bytes a → Differs stop bytes (a ++ b)
differs_more stop bytes a b d = record {
  refuses = refuses_more stop bytes a b d.refuses;
  line = d.line;
  ends = λ is. begins_more a b bytes (d.ends is);
}

-- ---- a text behind a front that stands

pub leaves_behind : (stop : Stop) (front rest line : List ℕ) → IsLineStop stop → Leaves stop rest line → Leaves stop (front ++ rest) (front ++ line)
leaves_behind Open front rest line is left = omega (arith, length-append front rest, length-append front line, left)
leaves_behind (Until n) front rest line is left = absurd is
leaves_behind Wrong front rest line is left = left
leaves_behind Memory front rest line is left = tt

pub same_behind : (front rest line after other : List ℕ) → (front ++ rest) ++ after ≡ (front ++ line) ++ other → rest ++ after ≡ line ++ other
same_behind front rest line after other e =
    (fronts front front (rest ++ after) (line ++ other) refl (sym (append_assoc front rest after) ∙ e ∙ append_assoc front line other)).1

pub refuses_behind : (stop : Stop) (bytes front rest line : List ℕ) → IsLineStop stop → bytes ≡ front ++ rest → Refuses stop rest line → Refuses stop bytes (front ++ line)
refuses_behind stop bytes front rest line is composed refused =
    subst (λ b. Refuses stop b (front ++ line)) (sym composed)
    (λ after other e. leaves_behind stop front rest line is (refused after other (same_behind front rest line after other e)))

pub begins_behind : (bytes front rest line : List ℕ) → bytes ≡ front ++ rest → Begins line rest → Begins (front ++ line) bytes
begins_behind bytes front rest line composed is = record {
  behind = is.behind;
  composed = ap (λ t. front ++ t) is.composed ∙ sym (append_assoc front rest is.behind) ∙ ap (λ t. t ++ is.behind) (sym composed);
  more = is.more;
}

open_behind : (front given part : List ℕ) → (part ≡ []) ⊎ IsOpenValue given part → (part ≡ []) ⊎ IsOpenValue (front ++ given) part
open_behind front given part (inl none) = inl none
open_behind front given part (inr open_) = inr (record {
  before = front ++ open_.before;
  mark = open_.mark;
  ends = ap (λ t. front ++ t) open_.ends ∙ sym (append_assoc front open_.before open_.mark);
  value = open_.value;
})

pub ends_behind : (bytes front rest line : List ℕ) → bytes ≡ front ++ rest → EndsInside line rest → EndsInside (front ++ line) bytes
ends_behind bytes front rest line composed ends = record {
  given = front ++ ends.given;
  part = ends.part;
  behind = ends.behind;
  begins = ap (λ t. front ++ t) ends.begins ∙ sym (append_assoc front ends.given ends.behind);
  more = ends.more;
  composed = composed ∙ ap (λ t. front ++ t) ends.composed ∙ sym (append_assoc front ends.given ends.part);
  value = open_behind front ends.given ends.part ends.value;
}

pub differs_behind : (stop : Stop) (bytes front rest line : List ℕ) → bytes ≡ front ++ rest → Differs stop rest line → Differs stop bytes (front ++ line)
differs_behind stop bytes front rest line composed d = record {
  refuses = refuses_behind stop bytes front rest line d.line composed d.refuses;
  line = d.line;
  ends = λ is. begins_behind bytes front rest line composed (d.ends is);
}

-- ---- one text

pub wrong_is_not_open : (stop other : Stop) → stop ≡ Wrong → other ≡ Open → stop ≡ other → ⊥
wrong_is_not_open stop other p q e = cc

pub memory_is_not_open : (stop other : Stop) → stop ≡ Memory → other ≡ Open → stop ≡ other → ⊥
memory_is_not_open stop other p q e = cc

-- bytes that aren't the front of the text
pub other_front : (bytes text : List ℕ) → length bytes ≤ length text → ¬ (take (length bytes) text ≡ bytes) → Refuses Wrong bytes text
other_front bytes text fits other = λ after more e.
    other (sym (take-append-le (length bytes) text more fits) ∙ sym (ap (take (length bytes)) e) ∙ take_at bytes after (length bytes) refl)

-- a text that isn't the front of the bytes
pub other_text : (bytes text : List ℕ) → length text ≤ length bytes → ¬ (take (length text) bytes ≡ text) → Refuses Wrong bytes text
other_text bytes text fits other = λ after more e.
    other (sym (take-append-le (length text) bytes after fits) ∙ ap (take (length text)) e ∙ take_at text more (length text) refl)

pub differs_wrong : (bytes text : List ℕ) → Refuses Wrong bytes text → Differs Wrong bytes text
differs_wrong bytes text refused = record { refuses = refused; line = tt; ends = λ is. absurd (wrong_is_not_open Wrong Open refl refl is) }

front_stands : (bytes text : List ℕ) → take (length bytes) text ≡ bytes → text ≡ bytes ++ drop (length bytes) text
front_stands bytes text front = sym (take-append-drop (length bytes) text) ∙ ap (λ t. t ++ drop (length bytes) text) front

-- bytes that are the front of the text
pub differs_open : (bytes text : List ℕ) → length bytes < length text → take (length bytes) text ≡ bytes → Differs Open bytes text
differs_open bytes text short front = record {
  refuses = λ after other e. short;
  line = tt;
  ends = λ is. record {
    behind = drop (length bytes) text;
    composed = front_stands bytes text front;
    more = omega (arith, short, ap length (front_stands bytes text front), length-append bytes (drop (length bytes) text));
  };
}

-- ---- the texts of some values

-- without memory nothing is said
pub none_by_memory : {V : Type 0} (Is : V → Type 0) (text : V → List ℕ) (bytes : List ℕ) → NoneStands Is text Memory bytes
none_by_memory Is text bytes = record {
  refuses = λ v is after other e. tt;
  line = tt;
  ends = λ is. absurd (memory_is_not_open Memory Open refl refl is);
}

-- the texts in another form
pub none_same : {V : Type 0} (Is : V → Type 0) (text form : V → List ℕ) (stop : Stop) (bytes : List ℕ) → ((v : V) → text v ≡ form v)
    → NoneStands Is text stop bytes → NoneStands Is form stop bytes
none_same Is text form stop bytes same none = record {
  refuses = λ v is. subst (λ t. Refuses stop bytes t) (same v) (none.refuses v is);
  line = none.line;
  ends = λ open_. let some = none.ends open_ in (some.0, some.1, subst (λ t. EndsInside t bytes) (same some.0) some.2);
}

module _ {V : Type 0} (Is : V → Type 0) (text : V → List ℕ) (stop : Stop) (bytes : List ℕ) where
  -- with more behind each
  pub none_more : (b : List ℕ) → NoneStands Is text stop bytes → NoneStands Is (λ v. text v ++ b) stop bytes
  none_more b none = record {
    refuses = λ v is. refuses_more stop bytes (text v) b (none.refuses v is);
    line = none.line;
    ends = λ is. let some = none.ends is in (some.0, some.1, ends_more (text some.0) b bytes some.2);
  }

  -- behind a text that is refused
  pub none_first : (a : List ℕ) (v : V) → Is v → Differs stop bytes a → NoneStands Is (λ v. a ++ text v) stop bytes
  none_first a v is d = record {
    refuses = λ w _. refuses_more stop bytes a (text w) d.refuses;
    line = d.line;
    ends = λ open_. (v, is, ends_more a (text v) bytes (begins_ends a bytes (d.ends open_)));
  }

  -- behind a text that stands
  pub none_behind : (a rest : List ℕ) → bytes ≡ a ++ rest → NoneStands Is text stop rest → NoneStands Is (λ v. a ++ text v) stop bytes
  none_behind a rest composed none = record {
    refuses = λ v is. refuses_behind stop bytes a rest (text v) none.line composed (none.refuses v is);
    line = none.line;
    ends = λ is. let some = none.ends is in (some.0, some.1, ends_behind bytes a rest (text some.0) composed some.2);
  }

-- the value is told by its text, whatever follows
abbrev pub IsTold : {V : Type 0} (Is : V → Type 0) (text : V → List ℕ) → V → Type 0
IsTold Is text v = (w : _) (x y : List ℕ) → Is w → text v ++ x ≡ text w ++ y → (v ≡ w) × (x ≡ y)

-- a text behind a value's that stands
pub none_after : {V : Type 0} (Is : V → Type 0) (text : V → List ℕ) (stop : Stop) (bytes b rest : List ℕ) (v : V) → Is v → IsTold Is text v
    → bytes ≡ text v ++ rest → Differs stop rest b → NoneStands Is (λ v. text v ++ b) stop bytes
none_after Is text stop bytes b rest v is told composed d = record {
  refuses = λ w was after other e.
      let apart : text v ++ (rest ++ after) ≡ text w ++ (b ++ other) =
      sym (append_assoc (text v) rest after) ∙ sym (ap (λ t. t ++ after) composed) ∙ e ∙ append_assoc (text w) b other in
      let same = told w (rest ++ after) (b ++ other) was apart in
      let left : Leaves stop (text v ++ rest) (text v ++ b) = leaves_behind stop (text v) rest b d.line (d.refuses after other same.1) in
      subst (λ u. Leaves stop bytes (text u ++ b)) same.0 (subst (λ t. Leaves stop t (text v ++ b)) (sym composed) left);
  line = d.line;
  ends = λ open_. (v, is, ends_behind bytes (text v) rest b composed (begins_ends b rest (d.ends open_)));
}

-- ---- values alone

-- what may be a part of a value is one behind its mark
pub at_mark : (before mark part : List ℕ) → IsPartBehind mark part → IsOpenValue (before ++ mark) part
at_mark before mark part is = record { before = before; mark = mark; ends = refl; value = is }

part_ends : (a bytes text : List ℕ) → 0 < length text → IsOpenValue a bytes → EndsInside (a ++ text) (a ++ bytes)
part_ends a bytes text more open_ = record {
  given = a;
  part = bytes;
  behind = text;
  begins = refl;
  more = more;
  composed = refl;
  value = inr open_;
}

value_ends : (a bytes text : List ℕ) (IsPart : List ℕ → Type 0) → (IsPart bytes → IsOpenValue a bytes)
    → Begins text bytes ⊎ (IsPart bytes × (0 < length text)) → EndsInside (a ++ text) (a ++ bytes)
value_ends a bytes text IsPart fits (inl is) = begins_ends (a ++ text) (a ++ bytes) (begins_behind (a ++ bytes) a bytes text refl is)
value_ends a bytes text IsPart fits (inr part) = part_ends a bytes text part.1 (fits part.0)

-- values that don't stand, behind their mark
pub none_at : {V : Type 0} (Is : V → Type 0) (text : V → List ℕ) (IsPart : List ℕ → Type 0) (stop : Stop) (bytes a rest : List ℕ)
    → (IsPart rest → IsOpenValue a rest) → bytes ≡ a ++ rest → NoValueStands Is text IsPart stop rest → NoneStands Is (λ v. a ++ text v) stop bytes
none_at Is text IsPart stop bytes a rest fits composed none = record {
  refuses = λ v is. refuses_behind stop bytes a rest (text v) none.line composed (none.refuses v is);
  line = none.line;
  ends = λ open_.
      let some = none.ends open_ in
      (some.0, some.1, subst (λ t. EndsInside (a ++ text some.0) t) (sym composed) (value_ends a rest (text some.0) IsPart fits some.2));
}
