-- What a refusal of all warcinfos says of a volume's file.
use Rattle.std.proofs.Common.{◌≡◌, ℕ, ◌<◌, ◌≤◌, inl, inr, Bool, true, false, List, [], ◌∷◌, ◌++◌, length, length-append, drop, refl, sym, ap, subst, arith}
use Rattle.time_text.specs.Calendar.{civil_at}
use Rattle.time_text.specs.Texts.{warc_date}
use Rattle.time_text.proofs.Moments.{millisecond-at}
use Rattle.time_text.proofs.WarcLemmas.{warc_cases}
use Rattle.warc_text.specs.Ids.{id_of}
use Rattle.warc_text.specs.Lines.{field, opening, type_line, version_line}
use Rattle.warc_text.specs.Records.{info_most, info_text}
use Rattle.warc_text.specs.declared.id.IdKind.TheVariants as ids
use Rattle.warc_text.proofs.LengthLaws.{length_of_info}
use Rattle.record_opening.specs.Fronts.{IsBegun}
use Rattle.record_opening.specs.InfoParts.{AsksForInfo, AsksForLittle, IsInfoAskedFor, IsInfoLen, info_front}
use Rattle.record_opening.specs.steps.InfoFronts.{IsAnswerTo, IsInfoFront, front_of_info}
use Rattle.record_opening.specs.InfoAnswers.{HasNoInfo, InfosReach, TellsInfo}
use Rattle.record_opening.specs.Rests.{IsCommittedRest, IsUnfinished}
use Rattle.record_opening.specs.OpenValues.{Begins}
use Rattle.record_opening.specs.Stops.{NoneStands}
use Rattle.record_opening.specs.declared.info_step.InfoStep.{InfoStep}
use Rattle.record_opening.specs.declared.info_step.InfoStep.TheVariants as info_step
use Rattle.record_opening.specs.declared.stop.Stop.{Stop}
use Rattle.record_opening.specs.declared.stop.Stop.TheVariants.{Open, Until, Wrong, Memory}
use Rattle.record_opening.proofs.DateFronts.{date_is_long}
use Rattle.record_opening.proofs.InfoStops.{RefusesInfos, front_ends, front_refuses}
use Rattle.record_opening.proofs.Refusals.{begins_ends}
use Rattle.record_opening.proofs.Samples.{some_id_is}
use Rattle.record_opening.proofs.RestLaws.{begun_begins, begun_is_no_tail, begun_is_short, no_tail}

-- ---- the least length

-- the text of the first date has the least length
first_date : length (warc_date 0) ≡ 20
unfolding warc_date
first_date = elim (warc_cases (civil_at 0)) [
  | inl is ↦ is.long
  | inr is ↦ absurd (is.second (millisecond-at 0))
]

-- and so has its warcinfo
least_length : (first namespace : List ℕ) (volume born : ℕ) → length (info_text first volume 0) ≤ length (info_text namespace volume born)
least_length first namespace volume born =
    omega (arith, length_of_info first volume 0, length_of_info namespace volume born, first_date, date_is_long born)

pub least_reaches : (volume n : ℕ) (bytes : List ℕ) → IsInfoLen volume 0 n → InfosReach volume bytes n
least_reaches volume n bytes is after namespace born len begins =
    omega (arith, is namespace, least_length namespace namespace volume born, ap length begins.is.composed, begins.is.len_is)

pub least_is_long : (volume n : ℕ) → IsInfoLen volume 0 n → 200 ≤ n
least_is_long volume n is = omega (arith, is [], length_of_info [] volume 0, first_date)

-- ---- the first byte

front_begins : (id : List ℕ) → info_front id 0 ≡ 87 ∷ drop 1 (info_front id 0)
unfolding opening version_line type_line field
front_begins id = refl

front_goes_on : (id : List ℕ) → 0 < length (drop 1 (info_front id 0))
unfolding opening version_line type_line field
front_goes_on id = omega arith

-- ---- where no warcinfo is read

module _ (volume : ℕ) (bytes : List ℕ) where
  -- where nothing follows, a text that stands there isn't longer than the bytes
  fits : (after text rest : List ℕ) → after ≡ [] → bytes ++ after ≡ text ++ rest → length text ≤ length bytes
  fits after text rest none e = omega (arith, ap length e, length-append bytes after, length-append text rest, ap length none)

  open_is_damaged : RefusesInfos volume Open bytes → HasNoInfo volume false bytes
  open_is_damaged refused after namespace born len follows begins =
      omega (arith, refused begins.text namespace born len begins.is after begins.rest begins.composed, fits after begins.text begins.rest follows begins.composed)

  wrong_is_damaged : (more : Bool) → RefusesInfos volume Wrong bytes → HasNoInfo volume more bytes
  wrong_is_damaged more refused after namespace born len follows begins =
      refused begins.text namespace born len begins.is after begins.rest begins.composed

  pub tells : (stop : Stop) (more : Bool) (len : ℕ) (step : InfoStep) → IsAnswerTo stop more len step → IsCommittedRest more bytes
      → RefusesInfos volume stop bytes → (stop ≡ Open → length bytes < len) → InfosReach volume bytes len → TellsInfo volume more bytes step
  tells Open true len step is committed refused inside reach =
      subst (TellsInfo volume true bytes) (sym is) (refl, inside refl, reach, no_tail true bytes committed)
  tells Open false len step is committed refused inside reach =
      subst (TellsInfo volume false bytes) (sym is) (committed, open_is_damaged refused)
  tells (Until n) more len step is committed refused inside reach = absurd is
  tells Wrong more len step is committed refused inside reach =
      subst (TellsInfo volume more bytes) (sym is) (committed, wrong_is_damaged more refused)
  tells Memory more len step is committed refused inside reach = subst (TellsInfo volume more bytes) (sym is) tt

  pub asks : (stop : Stop) (more : Bool) (len : ℕ) (step : InfoStep) → IsAnswerTo stop more len step → (stop ≡ Open → IsInfoAskedFor volume bytes len)
      → AsksForInfo volume bytes step
  asks Open true len step is why = subst (AsksForInfo volume bytes) (sym is) (why refl)
  asks Open false len step is why = subst (AsksForInfo volume bytes) (sym is) tt
  asks (Until n) more len step is why = absurd is
  asks Wrong more len step is why = subst (AsksForInfo volume bytes) (sym is) tt
  asks Memory more len step is why = subst (AsksForInfo volume bytes) (sym is) tt

  -- no lines up to a date stand
  pub front_tells : (stop : Stop) (more : Bool) (len : ℕ) (step : InfoStep) → IsAnswerTo stop more len step → IsCommittedRest more bytes
      → NoneStands IsInfoFront front_of_info stop bytes → (stop ≡ Open → length bytes < 200) → IsInfoLen volume 0 len → TellsInfo volume more bytes step
  front_tells stop more len step is committed none few least =
      tells stop more len step is committed (front_refuses volume bytes stop none) (λ open_. omega (arith, few open_, least_is_long volume len least))
      (least_reaches volume len bytes least)

  pub front_asks : (stop : Stop) (more : Bool) (len : ℕ) (step : InfoStep) → IsAnswerTo stop more len step → NoneStands IsInfoFront front_of_info stop bytes
      → IsInfoLen volume 0 len → AsksForInfo volume bytes step
  front_asks stop more len step is none least = asks stop more len step is (λ open_. inl (front_ends volume bytes stop open_ none, least))

  -- ---- before the commit byte has a byte behind it

  pub begun_tells : (more : Bool) (n : ℕ) → more ≡ true → IsBegun bytes → IsInfoLen volume 0 n → TellsInfo volume more bytes (info_step.Need n)
  begun_tells more n goes_on begun is = (
    goes_on,
    omega (arith, begun_is_short bytes begun, least_is_long volume n is),
    least_reaches volume n bytes is,
    subst (λ m. ¬ (IsUnfinished m bytes)) (sym goes_on) (begun_is_no_tail bytes begun),
  )

  pub begun_asks : (n : ℕ) → IsBegun bytes → IsInfoLen volume 0 n → IsInfoAskedFor volume bytes n
  begun_asks n begun is =
      let id = id_of [] ids.Info 0 in
      let begins : Begins (info_front id 0) bytes =
      subst (λ t. Begins t bytes) (sym (front_begins id)) (begun_begins (drop 1 (info_front id 0)) bytes (front_goes_on id) begun) in
      inl (record { id = id; born = 0; id_is = some_id_is; date = omega arith; ends = begins_ends (info_front id 0) bytes begins }, is)

pub little : (stop : Stop) (more : Bool) (len : ℕ) (step : InfoStep) → IsAnswerTo stop more len step → len ≤ info_most → AsksForLittle step
little Open true len step is few = subst AsksForLittle (sym is) few
little Open false len step is few = subst AsksForLittle (sym is) tt
little (Until n) more len step is few = absurd is
little Wrong more len step is few = subst AsksForLittle (sym is) tt
little Memory more len step is few = subst AsksForLittle (sym is) tt
