-- What the openings of responses and revisits have in common, at the front of bytes.
use Rattle.std.proofs.Common.{◌≡◌, ℕ, List, [], ◌++◌, refl, arith}
use Rattle.sha1.specs.Sha1.{sha1}
use Rattle.digest32.specs.Base32.{IsDigest}
use Rattle.time_text.specs.Texts.{InRange}
use Rattle.warc_text.specs.Lines.{date_line, digest_line, target_line}
use Rattle.record_opening.specs.Openings.{IsOpening, IsTarget, Opening}
use Rattle.record_opening.specs.steps.OpeningFronts.{front_text, start_text}
use Rattle.record_opening.specs.Stops.{Differs, NoneStands}
use Rattle.record_opening.specs.declared.stop.Stop.{Stop}
use Rattle.record_opening.proofs.FieldsTold.{date_line_told, digest_line_told, target_told}
use Rattle.record_opening.proofs.Pieces.{two}
use Rattle.record_opening.proofs.Refusals.{IsTold, none_behind, none_first, same_behind}
use Rattle.record_opening.proofs.Samples.{opening_with, some_digest_is, some_target, some_target_is}
use Rattle.record_opening.proofs.Values.{Both, both_texts, both_told, first_refused, none_of, second_refused}

module _ (word id : List ℕ) where
  -- the record's start and its date, and its target
  abbrev pub dated : ℕ → List ℕ
  dated date = start_text word id ++ date_line date

  abbrev pub Aimed : ℕ × List ℕ → Type 0
  Aimed = Both InRange dated IsTarget target_line

  abbrev pub aimed : ℕ × List ℕ → List ℕ
  aimed = both_texts InRange dated IsTarget target_line

  -- all that they have in common
  abbrev pub Common : (ℕ × List ℕ) × List ℕ → Type 0
  Common = Both Aimed aimed IsDigest digest_line

  abbrev pub common : (ℕ × List ℕ) × List ℕ → List ℕ
  common = both_texts Aimed aimed IsDigest digest_line

  -- the values in an opening
  abbrev pub values_of : Opening → (ℕ × List ℕ) × List ℕ
  values_of o = ((o.date, o.uri), o.digest)

  values_are : (v : (ℕ × List ℕ) × List ℕ) → Common v → IsOpening (opening_with v.0.0 v.0.1 v.1)
  values_are v is = record { date_is = is.0.0; target = is.0.1; digest_is = is.1; refers = tt; whole = tt }

  opening_of_values : (v : (ℕ × List ℕ) × List ℕ) → Common v → (o : Opening) × IsOpening o × (values_of o ≡ v)
  opening_of_values v is =
      (opening_with v.0.0 v.0.1 v.1, values_are v is, refl)

  common_of_values : (stop : Stop) (bytes : List ℕ) → NoneStands Common common stop bytes
      → NoneStands IsOpening (λ o. front_text word id o.date o.uri o.digest) stop bytes
  common_of_values stop bytes none =
      none_of Common common IsOpening values_of stop bytes
      (λ o is. ((is.date_is, is.target), is.digest_is)) opening_of_values none

  dates_refused : (stop : Stop) (bytes : List ℕ) → NoneStands InRange dated stop bytes → NoneStands IsOpening (λ o. front_text word id o.date o.uri o.digest) stop bytes
  dates_refused stop bytes none =
      common_of_values stop bytes
      (first_refused Aimed aimed IsDigest digest_line stop bytes (sha1 []) some_digest_is
      (first_refused InRange dated IsTarget target_line stop bytes some_target some_target_is none))

  dated_told : (date : ℕ) → IsTold InRange dated date
  dated_told date w x y was e = date_line_told date w x y was (same_behind (start_text word id) (date_line date) (date_line w) x y e)

  pub start_refused : (stop : Stop) (bytes : List ℕ) → Differs stop bytes (start_text word id) → NoneStands IsOpening (λ o. front_text word id o.date o.uri o.digest) stop bytes
  start_refused stop bytes d = dates_refused stop bytes (none_first InRange date_line stop bytes (start_text word id) 0 (omega arith) d)

  pub date_refused : (stop : Stop) (bytes rest : List ℕ) → bytes ≡ start_text word id ++ rest → NoneStands InRange date_line stop rest
      → NoneStands IsOpening (λ o. front_text word id o.date o.uri o.digest) stop bytes
  date_refused stop bytes rest e none = dates_refused stop bytes (none_behind InRange date_line stop bytes (start_text word id) rest e none)

  pub target_refused : (stop : Stop) (bytes r rest : List ℕ) (date : ℕ) → InRange date → bytes ≡ start_text word id ++ r → r ≡ date_line date ++ rest
      → NoneStands IsTarget target_line stop rest → NoneStands IsOpening (λ o. front_text word id o.date o.uri o.digest) stop bytes
  target_refused stop bytes r rest date is e₁ e₂ none =
      common_of_values stop bytes
      (first_refused Aimed aimed IsDigest digest_line stop bytes (sha1 []) some_digest_is
      (second_refused InRange dated IsTarget target_line stop bytes rest date is (dated_told date)
      (two (start_text word id) (date_line date) bytes r rest e₁ e₂) none))

  pub digest_refused : (stop : Stop) (bytes r s rest : List ℕ) (date : ℕ) (uri : List ℕ) → InRange date → IsTarget uri
      → bytes ≡ start_text word id ++ r → r ≡ date_line date ++ s → s ≡ target_line uri ++ rest
      → NoneStands IsDigest digest_line stop rest → NoneStands IsOpening (λ o. front_text word id o.date o.uri o.digest) stop bytes
  digest_refused stop bytes r s rest date uri is target e₁ e₂ e₃ none =
      common_of_values stop bytes
      (second_refused Aimed aimed IsDigest digest_line stop bytes rest (date, uri) (is, target)
      (both_told InRange dated IsTarget target_line date uri (dated_told date) (target_told uri target))
      (two (dated date) (target_line uri) bytes s rest (two (start_text word id) (date_line date) bytes r s e₁ e₂) e₃) none)

  pub common_told : (date : ℕ) (uri digest : List ℕ) → InRange date → IsTarget uri → IsDigest digest → IsTold Common common ((date, uri), digest)
  common_told date uri digest is target digest_is =
      both_told Aimed aimed IsDigest digest_line (date, uri) digest (both_told InRange dated IsTarget target_line date uri (dated_told date) (target_told uri target))
      (digest_line_told digest digest_is)

  -- what is refused of all openings is refused of their values
  pub values_refused : (stop : Stop) (bytes : List ℕ) → NoneStands IsOpening (λ o. front_text word id o.date o.uri o.digest) stop bytes → NoneStands Common common stop bytes
  values_refused stop bytes none = record {
    refuses = λ v is. none.refuses (opening_with v.0.0 v.0.1 v.1) (values_are v is);
    line = none.line;
    ends = λ open_. let some = none.ends open_ in (values_of some.0, ((some.1.date_is, some.1.target), some.1.digest_is), some.2);
  }
