-- What a refusal of all groups says of the rest of a volume.
use Rattle.std.proofs.Common.{◌≡◌, ℕ, ◌+◌, ◌<◌, ◌≤◌, inl, inr, Bool, true, false, List, [], ◌++◌, length, length-append, drop, refl, sym, ap, subst, arith}
use Rattle.capture.specs.Captures.{taken_back}
use Rattle.warc_text.specs.Ids.{id_of}
use Rattle.warc_text.specs.Records.{group_text}
use Rattle.warc_text.specs.StandsFor.{GroupsAreCommitted}
use Rattle.warc_text.specs.declared.id.IdKind.TheVariants as ids
use Rattle.record_opening.specs.Fronts.{IsBegun}
use Rattle.record_opening.specs.Rests.{IsCommittedRest, IsUnfinished}
use Rattle.record_opening.specs.OpenValues.{Begins}
use Rattle.record_opening.specs.Stops.{Refuses, no_record_by}
use Rattle.record_opening.specs.declared.no_record.NoRecord.{NoRecord}
use Rattle.record_opening.specs.declared.no_record.NoRecord.TheVariants as no_record
use Rattle.record_opening.specs.declared.stop.Stop.{Stop}
use Rattle.record_opening.specs.declared.stop.Stop.TheVariants.{Open, Until, Wrong, Memory}
use Rattle.record_opening.proofs.Refusals.{begins_ends}
use Rattle.record_opening.proofs.Samples.{some_opening, some_opening_is, some_text, some_text_begins, some_text_goes_on}
use Rattle.record_opening.proofs.RestLaws.{no_tail, begun_is_no_tail, begun_is_short, begun_begins}
use Rattle.warc_scan.specs.steps.Founds.{AsksByStop, no_group_by}
use Rattle.warc_scan.specs.Asking.{AsksForGroup, AsksForMore, IsAskedFor}
use Rattle.warc_scan.specs.Groups.{IsGroup, reference_in}
use Rattle.warc_scan.specs.Answers.{GroupsReach, HasNoGroup, TellsGroup, TellsNoGroup}
use Rattle.warc_scan.specs.declared.group.Group.{Group}
use Rattle.warc_scan.specs.declared.group_step.GroupStep.TheVariants as group_step

-- each group with this number is refused
abbrev pub RefusesGroups : List ℕ → ℕ → Stop → List ℕ → Type 0
RefusesGroups namespace number stop bytes = (text : List ℕ) (group : Group) → IsGroup namespace number text group → Refuses stop bytes text

module _ (namespace : List ℕ) (number : ℕ) (bytes : List ℕ) where
  pub wrong_is_damaged : (more : Bool) → RefusesGroups namespace number Wrong bytes → HasNoGroup namespace number more bytes
  wrong_is_damaged more refused after group follows begins = refused begins.text group begins.is after begins.rest begins.composed

  -- where nothing follows, a text that stands there isn't longer than the bytes
  fits : (after text rest : List ℕ) → after ≡ [] → bytes ++ after ≡ text ++ rest → length text ≤ length bytes
  fits after text rest none e =
      omega (arith, ap length e, length-append bytes after, length-append text rest, ap length none)

  open_is_damaged : RefusesGroups namespace number Open bytes → HasNoGroup namespace number false bytes
  open_is_damaged refused after group follows begins =
      let longer = refused begins.text group begins.is after begins.rest begins.composed in
      omega (arith, longer, fits after begins.text begins.rest follows begins.composed)

  until_is_damaged : (n : ℕ) → RefusesGroups namespace number (Until n) bytes → HasNoGroup namespace number false bytes
  until_is_damaged n refused after group follows begins =
      let longer = refused begins.text group begins.is after begins.rest begins.composed in
      omega (arith, longer.0, longer.1, fits after begins.text begins.rest follows begins.composed)

  open_reaches : RefusesGroups namespace number Open bytes → GroupsReach namespace number bytes (length bytes + 1)
  open_reaches refused after group begins =
      omega (arith, refused begins.text group begins.is after begins.rest begins.composed, begins.is.places.len)

  until_reaches : (n : ℕ) → RefusesGroups namespace number (Until n) bytes → GroupsReach namespace number bytes n
  until_reaches n refused after group begins =
      let longer = refused begins.text group begins.is after begins.rest begins.composed in
      omega (arith, longer.1, begins.is.places.len)

  -- ---- where more is asked for

  pub needs_one : (more : Bool) → more ≡ true → IsCommittedRest more bytes → RefusesGroups namespace number Open bytes
      → TellsGroup namespace number more bytes (group_step.Need (length bytes + 1))
  needs_one more goes_on committed refused = (goes_on, omega arith, open_reaches refused, no_tail more bytes committed)

  pub needs_record : (more : Bool) (n : ℕ) → more ≡ true → length bytes < n → IsCommittedRest more bytes → RefusesGroups namespace number (Until n) bytes
      → TellsGroup namespace number more bytes (group_step.Need n)
  needs_record more n goes_on inside committed refused = (goes_on, inside, until_reaches n refused, no_tail more bytes committed)

  -- where the file doesn't go on
  pub ends_open : (more : Bool) → more ≡ false → IsCommittedRest more bytes → RefusesGroups namespace number Open bytes
      → TellsGroup namespace number more bytes group_step.Damaged
  ends_open more ends committed refused = (committed, subst (λ m. HasNoGroup namespace number m bytes) (sym ends) (open_is_damaged refused))

  pub ends_until : (more : Bool) (n : ℕ) → more ≡ false → IsCommittedRest more bytes → RefusesGroups namespace number (Until n) bytes
      → TellsGroup namespace number more bytes group_step.Damaged
  ends_until more n ends committed refused = (committed, subst (λ m. HasNoGroup namespace number m bytes) (sym ends) (until_is_damaged n refused))

  -- ---- what a stop comes to

  pub tells_none : (stop : Stop) (more : Bool) → IsCommittedRest more bytes → RefusesGroups namespace number stop bytes → AsksByStop namespace number bytes stop
      → TellsNoGroup namespace number more bytes (no_record_by stop more (length bytes))
  tells_none Open true committed refused asks = needs_one true refl committed refused
  tells_none Open false committed refused asks = ends_open false refl committed refused
  tells_none (Until n) true committed refused asks = needs_record true n refl asks.block.inside committed refused
  tells_none (Until n) false committed refused asks = ends_until false n refl committed refused
  tells_none Wrong more committed refused asks = (committed, wrong_is_damaged more refused)
  tells_none Memory more committed refused asks = tt

  pub asks_none : (stop : Stop) (more : Bool) → AsksByStop namespace number bytes stop → AsksForMore namespace number bytes (no_record_by stop more (length bytes))
  asks_none Open true asks = inl asks
  asks_none Open false asks = tt
  asks_none (Until n) true asks = inr asks
  asks_none (Until n) false asks = tt
  asks_none Wrong more asks = tt
  asks_none Memory more asks = tt

  pub step_tells : (more : Bool) (why : NoRecord) → TellsNoGroup namespace number more bytes why → TellsGroup namespace number more bytes (no_group_by why)
  step_tells more no_record.End tells = tells
  step_tells more no_record.Unfinished tells = tells
  step_tells more no_record.Damaged tells = tells
  step_tells more (no_record.Need n) tells = tells
  step_tells more no_record.Memory tells = tt

  pub step_asks : (why : NoRecord) → AsksForMore namespace number bytes why → AsksForGroup namespace number bytes (no_group_by why)
  step_asks no_record.End asks = tt
  step_asks no_record.Unfinished asks = tt
  step_asks no_record.Damaged asks = tt
  step_asks (no_record.Need n) asks = asks
  step_asks no_record.Memory asks = tt

  -- ---- before the commit byte has a byte behind it

  begun_reaches : GroupsAreCommitted → length bytes < 2 → GroupsReach namespace number bytes (length bytes + 1)
  begun_reaches committed few after group begins =
      let text_is : begins.text ≡ group_text namespace number (taken_back group.stored) group.digest (reference_in group.same) = begins.is.composed in
      let some = (committed namespace number (taken_back group.stored) group.digest (reference_in group.same)).more in
      omega (arith, some, few, ap length text_is, begins.is.places.len)

  pub needs_second_byte : (more : Bool) → more ≡ true → GroupsAreCommitted → IsBegun bytes → TellsGroup namespace number more bytes (group_step.Need (length bytes + 1))
  needs_second_byte more goes_on committed begun =
      (goes_on, omega arith, begun_reaches committed (begun_is_short bytes begun), subst (λ m. ¬ (IsUnfinished m bytes)) (sym goes_on) (begun_is_no_tail bytes begun))

  pub begun_asks : IsBegun bytes → IsAskedFor namespace number bytes (length bytes + 1)
  begun_asks begun =
      let id = id_of namespace ids.Response number in
      let begins : Begins (some_text id) bytes =
      subst (λ t. Begins t bytes) (sym (some_text_begins id)) (begun_begins (drop 1 (some_text id)) bytes (some_text_goes_on id) begun) in
      inl (inl (record { o = some_opening; right = some_opening_is; ends = begins_ends (some_text id) bytes begins }), refl)
