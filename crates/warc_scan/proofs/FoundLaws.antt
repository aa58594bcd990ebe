-- The openings, blocks and messages of a group make the group.
use Rattle.std.proofs.Common.{◌≡◌, ℕ, Bool, false, List, ◌++◌, Some, None, refl, sym, ap, ◌∙◌}
use Rattle.std.specs.Prelude.{Option, IfSome}
use Rattle.std.proofs.lemmas.List.{append-nil}
use Rattle.capture.specs.Captures.{is_cut, kept_wire, taken_back}
use Rattle.capture.specs.declared.captured.Kept.{Kept}
use Rattle.capture.specs.declared.captured.Kept.TheVariants.{Wire, Same, Cut}
use Rattle.capture.specs.declared.captured.Stored.{Stored}
use Rattle.warc_text.specs.Groups.{answer_block, answer_cut}
use Rattle.warc_text.specs.References.{Reference}
use Rattle.warc_scan.specs.Groups.{IsAnswer}

some_is_no_none : (r : Reference) (same : Option Reference) → same ≡ Some r → same ≡ None → ⊥
some_is_no_none r same p q = cc

-- the block of a response, by what is kept
pub block_by : (stored : Stored) (digest block : List ℕ) (same : Option Reference) (kept : Kept) → stored.kept ≡ kept
    → IsAnswer stored.method stored.head digest same kept → block ≡ stored.head ++ kept_wire kept
    → answer_block (taken_back stored) same ≡ block
block_by stored digest block None kept is answer composed = ap (λ (k : Kept). stored.head ++ kept_wire k) is ∙ sym composed
block_by stored digest block (Some r) (Wire wire) is answer composed = absurd (some_is_no_none r (Some r) refl answer.0)
block_by stored digest block (Some r) (Cut wire) is answer composed = absurd (some_is_no_none r (Some r) refl answer.0)
block_by stored digest block (Some r) (Same number) is answer composed = sym (append-nil stored.head) ∙ sym composed

-- whether it is marked as cut
pub cut_by : (stored : Stored) (same : Option Reference) (cut : Bool) → is_cut stored.kept ≡ cut → IfSome same (λ reference. cut ≡ false)
    → answer_cut (taken_back stored) same ≡ cut
cut_by stored None cut is whole = is
cut_by stored (Some r) cut is whole = sym whole
