-- Why no block follows an opening, or one that goes on.
use Rattle.std.proofs.Common.{◌≡◌, ℕ, ◌+◌, ◌^◌, ◌<◌, ◌≤◌, List, ◌++◌, length, length-append, append_assoc, refl, sym, ap, subst, ◌∙◌, arith}
use Rattle.warc_text.specs.Lines.{ended, length_lines, record_end}
use Rattle.warc_text.proofs.Fronts.{fronts}
use Rattle.record_opening.specs.BlockParts.{AsksForBlock, RefusesBlock}
use Rattle.record_opening.specs.Blocks.{EndsInsideBlock, IsWord}
use Rattle.record_opening.specs.Stops.{Differs, Leaves, NoneStands}
use Rattle.record_opening.specs.declared.stop.Stop.{Stop}
use Rattle.record_opening.specs.declared.stop.Stop.TheVariants.{Open, Until, Wrong, Memory}
use Rattle.record_opening.proofs.BlockTold.{length_told}
use Rattle.record_opening.proofs.Refusals.{differs_behind, refuses_behind, refuses_more, same_behind}

spread : (a b c x : List ℕ) → (a ++ b ++ c) ++ x ≡ a ++ (b ++ (c ++ x))
spread a b c x = append_assoc (a ++ b) c x ∙ append_assoc a b (c ++ x)

-- the parts of a record's length
length-record : (opening block : List ℕ) → length (opening ++ ended block) ≡ length opening + length (length_lines (length block)) + length block + 4
unfolding ended record_end
length-record opening block =
    omega (arith, length-append opening (ended block), length-append (length_lines (length block) ++ block) record_end, length-append (length_lines (length block)) block)

block_is_short : (opening block : List ℕ) → length (opening ++ ended block) < 2 ^ 63 → length block < 2 ^ 64
block_is_short opening block short = omega (arith, length-record opening block, short)

-- ---- no length follows

module _ (opening bytes behind : List ℕ) (stop : Stop) (composed : bytes ≡ opening ++ behind) (none : NoneStands IsWord length_lines stop behind) where
  pub no_length : RefusesBlock stop opening bytes
  unfolding ended
  no_length block short =
      let line = length_lines (length block) in
      refuses_behind stop bytes opening behind (ended block) none.line composed
      (refuses_more stop behind (line ++ block) record_end (refuses_more stop behind line block (none.refuses (length block) (block_is_short opening block short))))

-- why more is asked for, where a length goes on
pub asks_for_length : (opening bytes behind : List ℕ) (stop : Stop) → bytes ≡ opening ++ behind → NoneStands IsWord length_lines stop behind → AsksForBlock opening bytes stop
asks_for_length opening bytes behind Open composed none = let some = none.ends refl in (some.0, behind, some.1, composed, some.2)
asks_for_length opening bytes behind (Until n) composed none = absurd none.line
asks_for_length opening bytes behind Wrong composed none = tt
asks_for_length opening bytes behind Memory composed none = tt

-- ---- a length follows

-- it is told, and so much came behind it
pub record IsTelling (opening bytes come : List ℕ) (told : ℕ) : Type 0 where
  pub composed : bytes ≡ (opening ++ length_lines told) ++ come
  pub small : told < 2 ^ 64

pub telling : (opening bytes behind come : List ℕ) (told : ℕ) → told < 2 ^ 64 → bytes ≡ opening ++ behind → behind ≡ length_lines told ++ come → IsTelling opening bytes come told
telling opening bytes behind come told small e₁ e₂ = record {
  composed = e₁ ∙ ap (λ t. opening ++ t) e₂ ∙ sym (append_assoc opening (length_lines told) come);
  small = small;
}

module _ (opening bytes come : List ℕ) (told : ℕ) (is : IsTelling opening bytes come told) where
  pub length-told : length bytes ≡ length opening + length (length_lines told) + length come
  length-told = omega (arith, ap length is.composed, length-append (opening ++ length_lines told) come, length-append opening (length_lines told))

  -- each block that may stand there has this length
  pub told_block : (block after other : List ℕ) → length block < 2 ^ 64 → bytes ++ after ≡ (opening ++ ended block) ++ other
      → (told ≡ length block) × (come ++ after ≡ block ++ (record_end ++ other))
  unfolding ended
  told_block block after other small e =
      let whole : (opening ++ (length_lines told ++ come)) ++ after ≡ (opening ++ ended block) ++ other =
      ap (λ t. t ++ after) (sym (append_assoc opening (length_lines told) come)) ∙ sym (ap (λ t. t ++ after) is.composed) ∙ e in
      let lines : (length_lines told ++ come) ++ after ≡ ended block ++ other = same_behind opening (length_lines told ++ come) (ended block) after other whole in
      length_told told is.small (length block) (come ++ after) (block ++ (record_end ++ other)) small
      (sym (append_assoc (length_lines told) come after) ∙ lines ∙ spread (length_lines (length block)) block record_end other)

  pub length-whole : (block : List ℕ) → told ≡ length block → length (opening ++ ended block) + length come ≡ length bytes + told + 4
  length-whole block same =
      let lines : length (length_lines told) ≡ length (length_lines (length block)) = ap (λ n. length (length_lines n)) same in
      omega (arith, length-record opening block, length-told, lines, same)

  -- it reaches behind all memory
  pub too_long : (start : ℕ) → start + length come ≡ length bytes → 2 ^ 63 ≤ start + told + 4 → RefusesBlock Wrong opening bytes
  too_long start here long block short after other e =
      let same = (told_block block after other (block_is_short opening block short) e).0 in
      omega (arith, length-whole block same, here, long, short)

  -- the bytes end inside the block
  pub until : (start n : ℕ) → start + length come ≡ length bytes → n ≡ start + told + 4 → length bytes < n → RefusesBlock (Until n) opening bytes
  until start n here ends short block fits after other e =
      let same = (told_block block after other (block_is_short opening block fits) e).0 in
      (short, omega (arith, length-whole block same, here, ends))

  pub ends_inside_block : (start n : ℕ) → start + length come ≡ length bytes → n ≡ start + told + 4 → length bytes < n → n < 2 ^ 63
      → EndsInsideBlock opening bytes n
  ends_inside_block start n here ends inside short = record {
    len = told;
    come = come;
    composed = is.composed;
    whole = omega (arith, length-told, length-append opening (length_lines told), here, ends);
    inside = inside;
    short = short;
  }

  -- the block came whole
  module _ (block closing : List ℕ) (cut : come ≡ block ++ closing) (long : length block ≡ told) where
    pub up_to_end : bytes ≡ (opening ++ (length_lines (length block) ++ block)) ++ closing
    up_to_end =
        is.composed ∙ ap (λ m. (opening ++ length_lines m) ++ come) (sym long) ∙ ap (λ t. (opening ++ length_lines (length block)) ++ t) cut
        ∙ sym (append_assoc (opening ++ length_lines (length block)) block closing)
        ∙ ap (λ t. t ++ closing) (append_assoc opening (length_lines (length block)) block)

    pub whole_record : opening ++ ended block ≡ (opening ++ (length_lines (length block) ++ block)) ++ record_end
    unfolding ended
    whole_record = sym (append_assoc opening (length_lines (length block) ++ block) record_end)

    pub other_closing : (stop : Stop) → Differs stop closing record_end → RefusesBlock stop opening bytes
    other_closing stop d other_block short after other e =
        let told_ = told_block other_block after other (block_is_short opening other_block short) e in
        let apart : block ++ (closing ++ after) ≡ other_block ++ (record_end ++ other) =
        sym (append_assoc block closing after) ∙ sym (ap (λ t. t ++ after) cut) ∙ told_.1 in
        let same : block ≡ other_block = (fronts block other_block (closing ++ after) (record_end ++ other) (long ∙ told_.0) apart).0 in
        let refused = (differs_behind stop bytes (opening ++ (length_lines (length block) ++ block)) closing record_end up_to_end d).refuses in
        subst (λ b. Leaves stop bytes (opening ++ ended b)) same
        (subst (λ t. Leaves stop bytes t) (sym whole_record)
        (refused after other (e ∙ ap (λ b. (opening ++ ended b) ++ other) (sym same) ∙ ap (λ t. t ++ other) whole_record)))

    pub has_block : (rest : List ℕ) → closing ≡ record_end ++ rest → bytes ≡ (opening ++ ended block) ++ rest
    has_block rest closed =
        up_to_end ∙ ap (λ t. (opening ++ (length_lines (length block) ++ block)) ++ t) closed
        ∙ sym (append_assoc (opening ++ (length_lines (length block) ++ block)) record_end rest)
        ∙ ap (λ t. t ++ rest) (sym whole_record)

-- the line ends behind the block came whole, so that no more is asked for
pub asks_for_closing : (opening bytes closing : List ℕ) (stop : Stop) → 4 ≤ length closing → Differs stop closing record_end → AsksForBlock opening bytes stop
unfolding record_end
asks_for_closing opening bytes closing Open long d =
    let is = d.ends refl in
    absurd (omega (arith, long, ap length is.composed, length-append closing is.behind, is.more))
asks_for_closing opening bytes closing (Until n) long d = absurd d.line
asks_for_closing opening bytes closing Wrong long d = tt
asks_for_closing opening bytes closing Memory long d = tt
