-- The openings of responses and of revisits, at the front of bytes whose kind is known.
use Rattle.std.proofs.Common.{◌≡◌, ℕ, ◌<◌, inl, Bool, false, List, [], ◌∷◌, ◌++◌, length, length-append, append_assoc, get_or, drop, Some, None, refl, sym, ap, subst, ◌∙◌, arith}
use Rattle.std.specs.Prelude.{Option, IfSome, codes}
use Rattle.std.proofs.Math.ListN.{get_or-append}
use Rattle.sha1.specs.Sha1.{sha1}
use Rattle.digest32.specs.Base32.{IsDigest}
use Rattle.time_text.specs.Texts.{InRange}
use Rattle.warc_text.specs.Ids.{id_of}
use Rattle.warc_text.specs.Lines.{content_line, cut_line, field, opening, type_line, version_line}
use Rattle.warc_text.specs.Records.{response_opening, revisit_end, revisit_front, revisit_opening}
use Rattle.warc_text.specs.References.{Reference}
use Rattle.warc_text.specs.declared.id.IdKind.TheVariants.{Info}
use Rattle.warc_text.specs.declared.kind.RecordKind.TheVariants as kinds
use Rattle.record_opening.specs.steps.Kinds.{IsKind}
use Rattle.record_opening.specs.Openings.{IsOpening, IsRevisited, IsTarget, Opening, opening_by, opening_text}
use Rattle.record_opening.specs.steps.OpeningFronts.{front_text}
use Rattle.record_opening.specs.Stops.{Differs, NoneStands, Refuses}
use Rattle.record_opening.specs.OpenValues.{EndsInside}
use Rattle.record_opening.specs.declared.opening.AnswerKind.TheVariants.{Response, Revisit}
use Rattle.record_opening.specs.declared.stop.Stop.{Stop}
use Rattle.record_opening.specs.declared.stop.Stop.TheVariants.{Open, Wrong}
use Rattle.record_opening.proofs.CommonFronts.{Common, common, common_told, values_refused}
use Rattle.record_opening.proofs.CutLines.{IsCut, cut_text}
use Rattle.record_opening.proofs.Pieces.{two}
use Rattle.record_opening.proofs.Refusals.{begins_ends, ends_more, refuses_more, same_behind, wrong_is_not_open}
use Rattle.record_opening.proofs.Samples.{opening_with, some_digest_is, some_id_is, some_target, some_target_is}
use Rattle.record_opening.proofs.Values.{Both, both_texts, first_refused, second_refused}

-- ---- the third letter of the type

-- what both kinds begin with
abbrev pub kind_front : List ℕ
kind_front = codes "WARC/1.1\r\nWARC-Type: re"

begins : (id : List ℕ) (o : Opening) (same : Option Reference) → opening_by id o same ≡ kind_front ++ drop 23 (opening_by id o same)
unfolding response_opening revisit_opening revisit_front opening version_line type_line field
begins id o None = refl
begins id o (Some r) = refl

response_letter : (id : List ℕ) (o : Opening) (other : List ℕ) → get_or (drop 23 (opening_by id o None) ++ other) 0 0 ≡ 115
unfolding response_opening opening version_line type_line field
response_letter id o other = refl

revisit_letter : (id : List ℕ) (o : Opening) (r : Reference) (other : List ℕ) → get_or (drop 23 (opening_by id o (Some r)) ++ other) 0 0 ≡ 118
unfolding revisit_opening revisit_front opening version_line type_line field
revisit_letter id o r other = refl

goes_on : (id : List ℕ) (o : Opening) (same : Option Reference) → 0 < length (drop 23 (opening_by id o same))
unfolding response_opening revisit_opening revisit_front opening version_line type_line field
goes_on id o None = omega arith
goes_on id o (Some r) = omega arith

-- an opening
some_opening_is : IsOpening (opening_with 0 some_target (sha1 []))
some_opening_is = record { date_is = omega arith; target = some_target_is; digest_is = some_digest_is; refers = tt; whole = tt }

-- bytes that differ from the front of both
pub front_refused : (id : List ℕ) (stop : Stop) (bytes : List ℕ) → Differs stop bytes kind_front → NoneStands IsOpening (opening_text id) stop bytes
front_refused id stop bytes d = record {
  refuses = λ o is.
      subst (λ t. Refuses stop bytes t) (sym (begins id o o.same))
      (refuses_more stop bytes kind_front (drop 23 (opening_by id o o.same)) d.refuses);
  line = d.line;
  ends = λ open_.
      let o = opening_with 0 some_target (sha1 []) in
      (o, some_opening_is, subst (λ t. EndsInside t bytes) (sym (begins id o None)) (ends_more kind_front (drop 23 (opening_by id o None)) bytes (begins_ends kind_front bytes (d.ends open_))));
}

empty : (bytes : List ℕ) → length bytes ≡ 0 → bytes ≡ []
empty [] none = refl
empty (b ∷ bytes) none = absurd (omega (arith, none))

-- which end there
pub front_ends : (id bytes letter : List ℕ) → bytes ≡ kind_front ++ letter → length letter ≡ 0 → NoneStands IsOpening (opening_text id) Open bytes
front_ends id bytes letter e none = record {
  refuses = λ o is after other whole.
      omega (arith, none, ap length e, length-append kind_front letter, ap length (begins id o o.same), length-append kind_front (drop 23 (opening_by id o o.same)), goes_on id o o.same);
  line = tt;
  ends = λ open_.
      let o = opening_with 0 some_target (sha1 []) in (
        o,
        some_opening_is,
        record {
          given = kind_front;
          part = letter;
          behind = drop 23 (opening_by id o None);
          begins = begins id o None;
          more = goes_on id o None;
          composed = e;
          value = inl (empty letter none);
        },
      );
}

other_letter_by : (id letter after other : List ℕ) (o : Opening) (same : Option Reference) → 0 < length letter → ¬ (get_or letter 0 0 ≡ 115) → ¬ (get_or letter 0 0 ≡ 118)
    → letter ++ after ≡ drop 23 (opening_by id o same) ++ other → ⊥
other_letter_by id letter after other o None some no_response no_revisit e =
    no_response (sym (get_or-append letter after 0 0 some) ∙ ap (λ (l : List ℕ). get_or l 0 0) e ∙ response_letter id o other)
other_letter_by id letter after other o (Some r) some no_response no_revisit e =
    no_revisit (sym (get_or-append letter after 0 0 some) ∙ ap (λ (l : List ℕ). get_or l 0 0) e ∙ revisit_letter id o r other)

-- or go on with another letter
pub letter_refused : (id bytes letter : List ℕ) → bytes ≡ kind_front ++ letter → 0 < length letter → ¬ (get_or letter 0 0 ≡ 115) → ¬ (get_or letter 0 0 ≡ 118)
    → NoneStands IsOpening (opening_text id) Wrong bytes
letter_refused id bytes letter e some no_response no_revisit = record {
  refuses = λ o is after other whole.
      other_letter_by id letter after other o o.same some no_response no_revisit
      (same_behind kind_front letter (drop 23 (opening_by id o o.same)) after other
      (ap (λ t. t ++ after) (sym e) ∙ whole ∙ ap (λ t. t ++ other) (begins id o o.same)));
  line = tt;
  ends = λ is. absurd (wrong_is_not_open Wrong Open refl refl is);
}

-- the letter is there
pub response_is_there : (bytes letter : List ℕ) → bytes ≡ kind_front ++ letter → 0 < length letter → get_or letter 0 0 ≡ 115 → IsKind bytes Response
response_is_there bytes letter e some is = record {
  there = omega (arith, ap length e, length-append kind_front letter, some);
  letter_is = ap (λ (l : List ℕ). get_or l 23 0) e ∙ is;
}

pub revisit_is_there : (bytes letter : List ℕ) → bytes ≡ kind_front ++ letter → 0 < length letter → get_or letter 0 0 ≡ 118 → IsKind bytes Revisit
revisit_is_there bytes letter e some is = record {
  there = omega (arith, ap length e, length-append kind_front letter, some);
  letter_is = ap (λ (l : List ℕ). get_or l 23 0) e ∙ is;
}

-- ---- of the one kind no opening of the other stands there

no_revisit : (id bytes : List ℕ) (stop : Stop) (o : Opening) (r : Reference) → IsKind bytes Response → Refuses stop bytes (opening_by id o (Some r))
unfolding revisit_opening revisit_front opening version_line type_line field
no_revisit id bytes stop o r kind after other e =
    let left : get_or (bytes ++ after) 23 0 ≡ 115 = get_or-append bytes after 0 23 kind.there ∙ kind.letter_is in
    let right : get_or (opening_by id o (Some r) ++ other) 23 0 ≡ 118 = refl in
    absurd (omega (arith, left, right, ap (λ (l : List ℕ). get_or l 23 0) e))

no_response : (id bytes : List ℕ) (stop : Stop) (o : Opening) → IsKind bytes Revisit → Refuses stop bytes (opening_by id o None)
unfolding response_opening opening version_line type_line field
no_response id bytes stop o kind after other e =
    let left : get_or (bytes ++ after) 23 0 ≡ 118 = get_or-append bytes after 0 23 kind.there ∙ kind.letter_is in
    let right : get_or (opening_by id o None ++ other) 23 0 ≡ 115 = refl in
    absurd (omega (arith, left, right, ap (λ (l : List ℕ). get_or l 23 0) e))

-- ---- a response

module _ (id : List ℕ) where
  abbrev ResponseValues : ((ℕ × List ℕ) × List ℕ) × Bool → Type 0
  ResponseValues = Both (Common (codes "response") id) (common (codes "response") id) IsCut cut_text

  abbrev response_values : ((ℕ × List ℕ) × List ℕ) × Bool → List ℕ
  response_values = both_texts (Common (codes "response") id) (common (codes "response") id) IsCut cut_text

  response_is : (o : Opening) → response_values (((o.date, o.uri), o.digest), o.cut) ≡ opening_by id o None
  unfolding response_opening opening type_line
  response_is o = sym (append_assoc (front_text (codes "response") id o.date o.uri o.digest) (cut_line o.cut) (content_line kinds.Response))

  response_refused_by : (stop : Stop) (bytes : List ℕ) (o : Opening) (same : Option Reference) → IsKind bytes Response → IsOpening o
      → NoneStands ResponseValues response_values stop bytes → Refuses stop bytes (opening_by id o same)
  response_refused_by stop bytes o None kind is none =
      subst (λ t. Refuses stop bytes t) (response_is o) (none.refuses (((o.date, o.uri), o.digest), o.cut) (((is.date_is, is.target), is.digest_is), tt))
  response_refused_by stop bytes o (Some r) kind is none = no_revisit id bytes stop o r kind

  -- the opening of a response with these values
  abbrev pub whole_opening : ((ℕ × List ℕ) × List ℕ) × Bool → Opening
  whole_opening v = record { date = v.0.0.0; uri = v.0.0.1; digest = v.0.1; cut = v.1; same = None }

  response_refused : (stop : Stop) (bytes : List ℕ) → IsKind bytes Response → NoneStands ResponseValues response_values stop bytes → NoneStands IsOpening (opening_text id) stop bytes
  response_refused stop bytes kind none = record {
    refuses = λ o is. response_refused_by stop bytes o o.same kind is none;
    line = none.line;
    ends = λ open_.
        let some = none.ends open_ in
        let o = whole_opening some.0 in (
          o,
          record { date_is = some.1.0.0.0; target = some.1.0.0.1; digest_is = some.1.0.1; refers = tt; whole = tt },
          subst (λ t. EndsInside t bytes) (response_is o) some.2,
        );
  }

  pub response_front_refused : (stop : Stop) (bytes : List ℕ) → IsKind bytes Response
      → NoneStands IsOpening (λ o. front_text (codes "response") id o.date o.uri o.digest) stop bytes → NoneStands IsOpening (opening_text id) stop bytes
  response_front_refused stop bytes kind none =
      response_refused stop bytes kind
      (first_refused (Common (codes "response") id) (common (codes "response") id) IsCut cut_text stop bytes false tt (values_refused (codes "response") id stop bytes none))

  pub cut_refused : (stop : Stop) (bytes rest : List ℕ) (date : ℕ) (uri digest : List ℕ) → IsKind bytes Response → InRange date → IsTarget uri → IsDigest digest
      → bytes ≡ front_text (codes "response") id date uri digest ++ rest → NoneStands IsCut cut_text stop rest → NoneStands IsOpening (opening_text id) stop bytes
  cut_refused stop bytes rest date uri digest kind is target digest_is e none =
      response_refused stop bytes kind
      (second_refused (Common (codes "response") id) (common (codes "response") id) IsCut cut_text stop bytes rest ((date, uri), digest) ((is, target), digest_is)
      (common_told (codes "response") id date uri digest is target digest_is) e none)

  pub response_stands : (bytes r rest : List ℕ) (date : ℕ) (uri digest : List ℕ) (cut : Bool)
      → bytes ≡ front_text (codes "response") id date uri digest ++ r → r ≡ cut_text cut ++ rest → bytes ≡ response_opening id date uri digest cut ++ rest
  response_stands bytes r rest date uri digest cut e₁ e₂ =
      two (front_text (codes "response") id date uri digest) (cut_text cut) bytes r rest e₁ e₂
      ∙ ap (λ t. t ++ rest) (response_is (record { date = date; uri = uri; digest = digest; cut = cut; same = None }))

-- ---- a revisit

abbrev pub some_reference : Reference
some_reference = record { id = id_of [] Info 0; uri = some_target; date = 0 }

some_reference_is : IsRevisited some_reference
some_reference_is = record { id_is = some_id_is; target = some_target_is; date_is = omega arith }

module _ (id : List ℕ) where
  abbrev RevisitValues : ((ℕ × List ℕ) × List ℕ) × Reference → Type 0
  RevisitValues = Both (Common (codes "revisit") id) (common (codes "revisit") id) IsRevisited revisit_end

  abbrev revisit_values : ((ℕ × List ℕ) × List ℕ) × Reference → List ℕ
  revisit_values = both_texts (Common (codes "revisit") id) (common (codes "revisit") id) IsRevisited revisit_end

  pub revisit_is : (o : Opening) (r : Reference) → revisit_values (((o.date, o.uri), o.digest), r) ≡ opening_by id o (Some r)
  unfolding revisit_opening revisit_front opening type_line
  revisit_is o r = refl

  refers_by : (o : Opening) (r : Reference) → o.same ≡ Some r → IsOpening o → IsRevisited r
  refers_by o r same is = subst (λ (s : Option Reference). IfSome s IsRevisited) same is.refers

  revisit_refused_by : (stop : Stop) (bytes : List ℕ) (o : Opening) (same : Option Reference) → o.same ≡ same → IsKind bytes Revisit → IsOpening o
      → NoneStands RevisitValues revisit_values stop bytes → Refuses stop bytes (opening_by id o same)
  revisit_refused_by stop bytes o None same kind is none = no_response id bytes stop o kind
  revisit_refused_by stop bytes o (Some r) same kind is none =
      subst (λ t. Refuses stop bytes t) (revisit_is o r)
      (none.refuses (((o.date, o.uri), o.digest), r) (((is.date_is, is.target), is.digest_is), refers_by o r same is))

  -- the opening of a revisit with these values
  abbrev pub referring_opening : ((ℕ × List ℕ) × List ℕ) × Reference → Opening
  referring_opening v = record { date = v.0.0.0; uri = v.0.0.1; digest = v.0.1; cut = false; same = Some v.1 }

  revisit_refused : (stop : Stop) (bytes : List ℕ) → IsKind bytes Revisit → NoneStands RevisitValues revisit_values stop bytes → NoneStands IsOpening (opening_text id) stop bytes
  revisit_refused stop bytes kind none = record {
    refuses = λ o is. revisit_refused_by stop bytes o o.same refl kind is none;
    line = none.line;
    ends = λ open_.
        let some = none.ends open_ in
        let o = referring_opening some.0 in (
          o,
          record { date_is = some.1.0.0.0; target = some.1.0.0.1; digest_is = some.1.0.1; refers = some.1.1; whole = refl },
          subst (λ t. EndsInside t bytes) (revisit_is o some.0.1) some.2,
        );
  }

  pub revisit_front_refused : (stop : Stop) (bytes : List ℕ) → IsKind bytes Revisit
      → NoneStands IsOpening (λ o. front_text (codes "revisit") id o.date o.uri o.digest) stop bytes → NoneStands IsOpening (opening_text id) stop bytes
  revisit_front_refused stop bytes kind none =
      revisit_refused stop bytes kind
      (first_refused (Common (codes "revisit") id) (common (codes "revisit") id) IsRevisited revisit_end stop bytes some_reference some_reference_is
      (values_refused (codes "revisit") id stop bytes none))

  pub end_refused : (stop : Stop) (bytes rest : List ℕ) (date : ℕ) (uri digest : List ℕ) → IsKind bytes Revisit → InRange date → IsTarget uri → IsDigest digest
      → bytes ≡ front_text (codes "revisit") id date uri digest ++ rest → NoneStands IsRevisited revisit_end stop rest → NoneStands IsOpening (opening_text id) stop bytes
  end_refused stop bytes rest date uri digest kind is target digest_is e none =
      revisit_refused stop bytes kind
      (second_refused (Common (codes "revisit") id) (common (codes "revisit") id) IsRevisited revisit_end stop bytes rest ((date, uri), digest) ((is, target), digest_is)
      (common_told (codes "revisit") id date uri digest is target digest_is) e none)

  pub revisit_stands : (bytes r rest : List ℕ) (date : ℕ) (uri digest : List ℕ) (reference : Reference)
      → bytes ≡ front_text (codes "revisit") id date uri digest ++ r → r ≡ revisit_end reference ++ rest → bytes ≡ revisit_opening id date uri digest reference ++ rest
  revisit_stands bytes r rest date uri digest reference e₁ e₂ =
      two (front_text (codes "revisit") id date uri digest) (revisit_end reference) bytes r rest e₁ e₂
      ∙ ap (λ t. t ++ rest) (revisit_is (record { date = date; uri = uri; digest = digest; cut = false; same = Some reference }) reference)
