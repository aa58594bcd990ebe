-- The opening of a group's first record, and what a refusal of all of them says.
use Rattle.std.proofs.Common.{◌≡◌, ℕ, ◌+◌, ◌≤◌, Bool, true, false, List, [], ◌++◌, length, length-append, drop, append_assoc, refl, sym, ap, subst, ◌∙◌, arith, ◌-◌}
use Rattle.std.specs.Prelude.{Option, Some, None}
use Rattle.warc_text.specs.Ids.{id_of}
use Rattle.warc_text.specs.Lines.{field, length_lines, opening, type_line, version_line}
use Rattle.warc_text.specs.Records.{response_opening, revisit_front, revisit_opening}
use Rattle.warc_text.specs.References.{Reference}
use Rattle.warc_text.specs.declared.id.IdKind.TheVariants as ids
use Rattle.record_opening.specs.Blocks.{IsWord}
use Rattle.record_opening.specs.FirstOpenings.{AsksForOpening, IsFirst, TellsNoOpening, first_lines, first_opening}
use Rattle.record_opening.specs.Fronts.{IsBegun}
use Rattle.record_opening.specs.Openings.{IsOpening, Opening, opening_by, opening_text}
use Rattle.record_opening.specs.OpenValues.{Begins}
use Rattle.record_opening.specs.Stops.{NoneStands, no_record_by}
use Rattle.record_opening.specs.declared.no_record.NoRecord.TheVariants as no_record
use Rattle.record_opening.specs.declared.stop.Stop.{Stop}
use Rattle.record_opening.specs.declared.stop.Stop.TheVariants.{Open, Until, Wrong, Memory}
use Rattle.record_opening.specs.Rests.{IsCommittedRest, IsUnfinished}
use Rattle.record_opening.proofs.OpeningTold.{opening_told}
use Rattle.record_opening.proofs.Refusals.{begins_ends, begins_more}
use Rattle.record_opening.proofs.Values.{first_refused, second_refused}
use Rattle.record_opening.proofs.RestLaws.{begun_begins, begun_is_no_tail, begun_is_short, no_tail}
use Rattle.record_opening.proofs.Samples.{some_opening, some_opening_is, some_text, some_text_begins, some_text_goes_on}

-- ---- pieces of bytes

pub length_before : (bytes front rest : List ℕ) → bytes ≡ front ++ rest → length bytes - length rest ≡ length front
length_before bytes front rest e = omega (arith, ap length e, length-append front rest)

-- pieces that stand one behind the other
pub behind_both : (bytes a r b rest : List ℕ) → bytes ≡ a ++ r → r ≡ b ++ rest → bytes ≡ (a ++ b) ++ rest
behind_both bytes a r b rest e f = e ∙ ap (λ t. a ++ t) f ∙ sym (append_assoc a b rest)

-- ---- as the reader has it

module _ (namespace : List ℕ) (number : ℕ) (bytes id : List ℕ) (id_is : id ≡ id_of namespace ids.Response number) where
  pub none_told : (stop : Stop) → NoneStands IsOpening (opening_text id) stop bytes
      → NoneStands IsOpening (opening_text (id_of namespace ids.Response number)) stop bytes
  none_told stop none = subst (λ i. NoneStands IsOpening (opening_text i) stop bytes) id_is none

  pub opening_told_by : (o : Opening) (rest : List ℕ) → bytes ≡ opening_text id o ++ rest → bytes ≡ opening_text (id_of namespace ids.Response number) o ++ rest
  opening_told_by o rest composed = subst (λ i. bytes ≡ opening_text i o ++ rest) id_is composed

-- ---- refusals

-- an opening has two bytes at least
two_bytes : (id : List ℕ) (o : Opening) (same : Option Reference) → 2 ≤ length (opening_by id o same)
unfolding response_opening revisit_opening revisit_front opening version_line type_line field
two_bytes id o None = omega arith
two_bytes id o (Some reference) = omega arith

module _ (namespace : List ℕ) (number : ℕ) (bytes : List ℕ) where
  abbrev id : List ℕ
  id = id_of namespace ids.Response number

  -- ---- the reader's stops

  abbrev pub Refused : Stop → Type 0
  Refused stop = NoneStands IsFirst (first_lines namespace number) stop bytes

  pub no_opening : (stop : Stop) → NoneStands IsOpening (opening_text id) stop bytes → Refused stop
  no_opening stop none = first_refused IsOpening (opening_text id) IsWord length_lines stop bytes 0 (omega arith) none

  pub no_length : (stop : Stop) (o : Opening) (rest : List ℕ) → IsOpening o → bytes ≡ opening_text id o ++ rest
      → NoneStands IsWord length_lines stop rest → Refused stop
  no_length stop o rest is composed none =
      second_refused IsOpening (opening_text id) IsWord length_lines stop bytes rest o is (opening_told id o is) composed none

  -- ---- what a stop comes to

  fits : (after : List ℕ) (first : Opening × ℕ) (rest : List ℕ) → after ≡ [] → bytes ++ after ≡ first_lines namespace number first ++ rest
      → length (first_lines namespace number first) ≤ length bytes
  fits after first rest none e =
      omega (arith, ap length e, length-append bytes after, length-append (first_lines namespace number first) rest, ap length none)

  pub tells_none : (stop : Stop) (more : Bool) → IsCommittedRest more bytes → Refused stop → TellsNoOpening namespace number more bytes (no_record_by stop more (length bytes))
  tells_none Open true committed none = (
    refl,
    omega arith,
    λ after first stands. let longer = none.refuses first stands.0 after stands.1.0 stands.1.1 in omega (arith, longer),
    no_tail true bytes committed,
  )
  tells_none Open false committed none = (
    committed,
    λ after first follows stands.
        let longer = none.refuses first stands.0 after stands.1.0 stands.1.1 in
        omega (arith, longer, fits after first stands.1.0 follows stands.1.1),
  )
  tells_none (Until n) more committed none = absurd none.line
  tells_none Wrong more committed none = (committed, λ after first follows stands. none.refuses first stands.0 after stands.1.0 stands.1.1)
  tells_none Memory more committed none = tt

  pub asks_none : (stop : Stop) (more : Bool) → Refused stop → AsksForOpening namespace number bytes (no_record_by stop more (length bytes))
  asks_none Open true none = (none.ends refl, refl)
  asks_none Open false none = tt
  asks_none (Until n) more none = absurd none.line
  asks_none Wrong more none = tt
  asks_none Memory more none = tt

  -- ---- before the commit byte has a byte behind it

  pub begun_tells : (more : Bool) → more ≡ true → IsBegun bytes → TellsNoOpening namespace number more bytes (no_record.Need (length bytes + 1))
  begun_tells more goes_on begun = (
    goes_on,
    omega arith,
    λ after first stands.
        omega (
          arith,
          begun_is_short bytes begun,
          two_bytes id first.0 first.0.same,
          length-append (first_opening namespace number first.0) (length_lines first.1),
        ),
    subst (λ m. ¬ (IsUnfinished m bytes)) (sym goes_on) (begun_is_no_tail bytes begun),
  )

  pub begun_asks : IsBegun bytes → AsksForOpening namespace number bytes (no_record.Need (length bytes + 1))
  begun_asks begun =
      let begins : Begins (some_text id) bytes =
      subst (λ t. Begins t bytes) (sym (some_text_begins id)) (begun_begins (drop 1 (some_text id)) bytes (some_text_goes_on id) begun) in
      let ends = begins_ends (some_text id ++ length_lines 0) bytes (begins_more (some_text id) (length_lines 0) bytes begins) in
      (((some_opening, 0), (some_opening_is, omega arith), ends), refl)
