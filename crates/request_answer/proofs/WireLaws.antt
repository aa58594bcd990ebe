-- What a client's link tells of a text that was written in part, and of a word that changes nothing.
use Rattle.std.proofs.Common.{◌≡◌, ℕ, List, ◌++◌, Result, Ok, Err, sym, ap, ◌∙◌, arith, append_assoc, length-append, ◌≢◌, ◌+◌, ◌-◌}
use Rattle.std.specs.Prelude.{MatchResult}
use Rattle.capture.specs.Faults.{Rose}
use Rattle.exchange.specs.Writing.{GrowsByProperFront}
use Rattle.outside.specs.Calls.{one_more}
use Rattle.outside.specs.Gate.{heard_of}
use Rattle.outside.specs.Link.{Traffic}
use Rattle.outside.specs.declared.gate.Heard.{Heard}
use Rattle.request_answer.specs.steps.Wire.{Breaks, Writes}

-- a count that rose isn't 0
pub rose_above : (before now : ℕ) → Rose before now → now ≢ 0
rose_above before now rose = λ e. let bad : ⊥ = omega (arith, rose, e) in bad

-- a write failed
pub breaks : (text : List ℕ) (was is : Traffic) (before now : ℕ)
    → is ≡ record was { taken = is.taken; failed_writes = one_more was.failed_writes } → GrowsByProperFront was.taken is.taken text → Rose before now
    → Breaks text (heard_of was before) (heard_of is now)
breaks text was is before now e part rose = record {
  same_given = ap (λ (traffic : Traffic). traffic.given) e;
  part = part;
  broke = rose_above before now rose;
  unwritten = ap (λ (traffic : Traffic). traffic.failed_writes) e;
}

-- ---- two texts, one behind the other, are one

writes_both : (head body : List ℕ) (then mid now : Heard) → Writes head then mid → Writes body mid now → Writes (head ++ body) then now
writes_both head body then mid now first second = record {
  same_given = second.same_given ∙ first.same_given;
  same_end = second.same_end ∙ first.same_end;
  written = second.written ∙ ap (λ w. w ++ body) first.written ∙ append_assoc then.written head body;
  unfailed = second.unfailed ∙ first.unfailed;
  whole = second.whole;
}

breaks_behind : (head body : List ℕ) (then mid now : Heard) → Writes head then mid → Breaks body mid now → Breaks (head ++ body) then now
breaks_behind head body then mid now first second = record {
  same_given = second.same_given ∙ first.same_given;
  part = record {
    front = head ++ second.part.front;
    is_front = record {
      rest = second.part.is_front.rest;
      more = second.part.is_front.more;
      splits = ap (λ b. head ++ b) second.part.is_front.splits ∙ sym (append_assoc head second.part.front second.part.is_front.rest);
    };
    grown = second.part.grown ∙ ap (λ w. w ++ second.part.front) first.written ∙ append_assoc then.written head second.part.front;
  };
  broke = second.broke;
  unwritten = second.unwritten ∙ ap one_more first.unfailed;
}

-- the first of them was written in part
pub breaks_first : (head body : List ℕ) (then now : Heard) → Breaks head then now → Breaks (head ++ body) then now
breaks_first head body then now h = record {
  same_given = h.same_given;
  part = record {
    front = h.part.front;
    is_front = record {
      rest = h.part.is_front.rest ++ body;
      more = omega (arith, h.part.is_front.more, length-append h.part.is_front.rest body);
      splits = ap (λ t. t ++ body) h.part.is_front.splits ∙ append_assoc h.part.front h.part.is_front.rest body;
    };
    grown = h.part.grown;
  };
  broke = h.broke;
  unwritten = h.unwritten;
}

-- the first was written, and then the second or a part of it
pub said_both : {T E : Type 0} (head body : List ℕ) (then mid now : Heard) (result : Result T E) → Writes head then mid
    → MatchResult result (λ _. Writes body mid now) (λ _. Breaks body mid now)
    → MatchResult result (λ _. Writes (head ++ body) then now) (λ _. Breaks (head ++ body) then now)
said_both head body then mid now (Ok value) first second = writes_both head body then mid now first second
said_both head body then mid now (Err fault) first second = breaks_behind head body then mid now first second
