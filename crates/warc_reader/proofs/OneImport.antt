-- A file gives one list of outcomes.
use Rattle.std.proofs.Common.{◌≡◌, ℕ, ◌+◌, Bool, true, false, cond, List, [], ◌∷◌, ◌++◌, length, drop, Option, Some, None, inl, inr, refl, sym, ap, subst, ◌∙◌, append_assoc, true≢false}
use Rattle.std.specs.Prelude.{codes}
use Rattle.httparse.proofs.GrammarLemmas.{request_unique}
use Rattle.time_text.proofs.DateLaws.{warc_date_injective}
use Rattle.capture.specs.CutLaws.{CutResponsesNeedBody}
use Rattle.capture.specs.Fields.{NamedValue}
use Rattle.capture.specs.First.{Responses, Message, BodyNeeded}
use Rattle.capture.specs.Head.{head_end}
use Rattle.capture.specs.HeadLaws.{ResponseHeadsEnd}
use Rattle.capture.specs.Message.{BeginsWithResponse}
use Rattle.capture.specs.Methods.{asks_for_head}
use Rattle.capture.specs.declared.captured.Taken.{Taken}
use Rattle.http_wire.specs.Decisions.{FirstsAreOne}
use Rattle.warc_reader.specs.Blocks.{Answered, IsBlockOf, Parts}
use Rattle.warc_reader.specs.Dates.{IsDateText, milliseconds, print_fraction}
use Rattle.warc_reader.specs.Fields.{is_counted, kind_of}
use Rattle.warc_reader.specs.Imports.{AreOutcomes, IsDated, IsOutcome, IsResponseRecord, IsSkipped, IsTaken, answered_in, asked_of, parts_of}
use Rattle.warc_reader.specs.Laws.{ImportsAreOne}
use Rattle.warc_reader.specs.Requests.{Asked, IsAskedBy, IsAskedIn, Placed, fields_of, found_request, placed_from}
use Rattle.warc_reader.specs.declared.import.Outcome.{Outcome}
use Rattle.warc_reader.specs.declared.import.Outcome.TheVariants as outcome
use Rattle.warc_reader.specs.declared.import.Reason.{Reason}
use Rattle.warc_reader.specs.declared.import.Reason.TheVariants.{Revisit, ContentType, Target, Date, Message as NoMessage}
use Rattle.warc_reader.specs.declared.kind.Kind.{Kind}
use Rattle.warc_reader.specs.declared.kind.Kind.TheVariants as kind
use Rattle.warc_reader.proofs.BlockLaws.{final_head, first_by, printed}
use Rattle.warc_reader.proofs.DateTextLaws.{ends_with_z, front_len, split_date}
use Rattle.warc_reader.proofs.OneReading.{one_file}
use Rattle.warc_reader.proofs.OutcomeLaws.{same_value}
use Rattle.warc_reader.proofs.RecordLaws.{same_front}

-- ---- dates

same_fraction : (a b : List ℕ) → print_fraction a ≡ print_fraction b → a ≡ b
same_fraction [] [] e = refl
same_fraction [] (d ∷ b) e = absurd cc
same_fraction (d ∷ a) [] e = absurd cc
same_fraction (d ∷ a) (c ∷ b) e = ap (drop 1) e

one_date : (text : List ℕ) (a b : ℕ) → IsDateText text a → IsDateText text b → a ≡ b
one_date text a b first second =
    let behind = print_fraction first.digits ++ codes "Z" in
    let at = split_date text first.front behind (first.text_is ∙ append_assoc first.front (print_fraction first.digits) (codes "Z"))
    (front_len first.front first.second first.is_second) b second in
    let fractions = ends_with_z behind (print_fraction first.digits) (codes "Z") refl refl second.digits at.1 in
    let digits = same_fraction first.digits second.digits fractions.0 in
    let seconds = warc_date_injective first.second second.second
    (first.is_second.text_is ∙ ap (λ f. f ++ codes "Z") at.0 ∙ sym second.is_second.text_is) in
    first.date_is ∙ ap (λ s. s + milliseconds first.digits) seconds ∙ ap (λ d. second.second + milliseconds d) digits ∙ sym second.date_is

one_dated : (fields : List NamedValue) (a b : ℕ) → IsDated fields a → IsDated fields b → a ≡ b
one_dated fields a b first second =
    one_date first.0 a b first.2 (subst (λ t. IsDateText t b) (same_value second.0 first.0 (sym second.1 ∙ first.1)) second.2)

-- ---- requests

one_in : (block uri : List ℕ) (a b : Asked) → IsAskedIn block uri a → IsAskedIn block uri b → a ≡ b
one_in block uri a b (inl x) (inl y) = λ i. record { method = named i; text = texts i }
  where
    named : a.method ≡ b.method
    named =
        sym x.0.named
        ∙ ap (λ h. h.method) (request_unique block x.0.head y.0.head x.0.wire y.0.wire x.0.whole.head.reads y.0.whole.head.reads).0
        ∙ y.0.named

    texts : a.text ≡ b.text
    texts = x.1 ∙ sym y.1
one_in block uri a b (inl x) (inr y) = absurd (y.0 a.method x.0)
one_in block uri a b (inr x) (inl y) = absurd (x.0 b.method y.0)
one_in block uri a b (inr x) (inr y) = x.1 ∙ sym y.1

one_asked : (found : Option Placed) (uri : List ℕ) (a b : Asked) → IsAskedBy found uri a → IsAskedBy found uri b → a ≡ b
one_asked None uri a b first second = first ∙ sym second
one_asked (Some p) uri a b first second = one_in p.form.block uri a b first second

-- ---- blocks

record BlocksLaws : Type 0 where
  one : FirstsAreOne
  needs : CutResponsesNeedBody
  ends : ResponseHeadsEnd

head_ends : ResponseHeadsEnd → (a : Answered) (p : Parts) → IsBlockOf a p → head_end a.block ≡ Some (length p.head)
head_ends ends a p is =
    let final = final_head p.cut a.method p.head p.wire is.responds in
    let same = printed p.head final.0 final.1.whole in
    let here : BeginsWithResponse (p.head ++ p.wire) final.0 p.wire = record {
      reads = (final.1.whole.reads.0, ap (λ t. t ++ p.wire) same);
      at_once = final.1.whole.at_once;
      status = final.1.whole.status;
      no_switch = final.1.whole.no_switch;
    } in
    ap head_end is.composed ∙ ends (p.head ++ p.wire) final.0 p.wire here ∙ ap (λ t. Some (length t)) (sym same)

same_number : (n m : ℕ) → Some n ≡ Some m → n ≡ m
same_number n m e = cc

same_cut : (n : ℕ) (c d : Bool) → cond c BodyNeeded (Message n) ≡ cond d BodyNeeded (Message n) → c ≡ d
same_cut n true true e = refl
same_cut n false false e = refl
same_cut n true false e = absurd cc
same_cut n false true e = absurd cc

one_block : BlocksLaws → (a : Answered) (p q : Parts) → IsBlockOf a p → IsBlockOf a q → p ≡ q
one_block laws a p q first second = λ i. record { head = parts.0 i; wire = parts.1 i; cut = cuts i }
  where
    parts : (p.head ≡ q.head) × (p.wire ≡ q.wire)
    parts =
        same_front p.head q.head p.wire q.wire
        (same_number (length p.head) (length q.head) (sym (head_ends laws.ends a p first) ∙ head_ends laws.ends a q second))
        (sym first.composed ∙ second.composed)

    cuts : p.cut ≡ q.cut
    cuts =
        same_cut (length a.block) p.cut q.cut
        (laws.one (Responses (asks_for_head a.method)) true a.block (cond p.cut BodyNeeded (Message (length a.block)))
        (cond q.cut BodyNeeded (Message (length a.block))) (first_by laws.needs a p first p.cut refl) (first_by laws.needs a q second q.cut refl))

-- ---- a record

other_kind : (k : Kind) → k ≡ kind.Response → k ≡ kind.Revisit → ⊥
other_kind k e f = let both : kind.Response ≡ kind.Revisit = sym e ∙ f in cc

one_uri : (fields : List NamedValue) (uri other : List ℕ) → IsResponseRecord fields uri → IsResponseRecord fields other → uri ≡ other
one_uri fields uri other first second = same_value uri other (sym first.target.0 ∙ second.target.0)

asked_alike : (all : List Placed) (fields : List NamedValue) (uri other : List ℕ) (a b : Asked) → uri ≡ other
    → IsAskedBy (found_request all fields) uri a → IsAskedBy (found_request all fields) other b → a ≡ b
asked_alike all fields uri other a b same first second =
    one_asked (found_request all fields) other a b (subst (λ u. IsAskedBy (found_request all fields) u a) same first) second

one_taken : BlocksLaws → (all : List Placed) (fields : List NamedValue) (block : List ℕ) (a b : Taken) → IsTaken all fields block a → IsTaken all fields block b → a ≡ b
one_taken laws all fields block a b first second = λ i. record {
  method = named i;
  uri = uris i;
  date = dates i;
  request = texts i;
  head = heads i;
  wire = wires i;
  cut = cuts i;
}
  where
    uris : a.uri ≡ b.uri
    uris = one_uri fields a.uri b.uri first.response second.response

    dates : a.date ≡ b.date
    dates = one_dated fields a.date b.date first.dated second.dated

    asked : asked_of a ≡ asked_of b
    asked = asked_alike all fields a.uri b.uri (asked_of a) (asked_of b) uris first.asked second.asked

    named : a.method ≡ b.method
    named = ap (λ x. x.method) asked

    texts : a.request ≡ b.request
    texts = ap (λ x. x.text) asked

    parts : parts_of a ≡ parts_of b
    parts =
        one_block laws (answered_in fields block b.method) (parts_of a) (parts_of b)
        (subst (λ m. IsBlockOf (answered_in fields block m) (parts_of a)) named first.answers) second.answers

    heads : a.head ≡ b.head
    heads = ap (λ x. x.head) parts

    wires : a.wire ≡ b.wire
    wires = ap (λ x. x.wire) parts

    cuts : a.cut ≡ b.cut
    cuts = ap (λ x. x.cut) parts

-- what gives a capture isn't skipped
taken_is_not_skipped : (all : List Placed) (fields : List NamedValue) (block : List ℕ) (t : Taken) (reason : Reason) → IsTaken all fields block t
    → IsSkipped all fields block reason → ⊥
taken_is_not_skipped all fields block t Revisit is s = other_kind (kind_of fields) is.response.typed s
taken_is_not_skipped all fields block t ContentType is s = true≢false (sym is.response.http ∙ s.1)
taken_is_not_skipped all fields block t Target is s = s.2 t.uri is.response.target
taken_is_not_skipped all fields block t Date is s = s.2 t.date is.dated
taken_is_not_skipped all fields block t NoMessage is s =
    let same = asked_alike all fields t.uri s.uri (asked_of t) s.asked (one_uri fields t.uri s.uri is.response s.response) is.asked s.is_asked in
    elim s.none [
      | inl segmented ↦ absurd (true≢false (sym segmented ∙ is.whole))
      | inr none ↦ none (parts_of t) (subst (λ x. IsBlockOf (answered_in fields block x.method) (parts_of t)) same is.answers)
    ]

one_reason : (all : List Placed) (fields : List NamedValue) (block : List ℕ) (a b : Reason) → IsSkipped all fields block a → IsSkipped all fields block b → a ≡ b
one_reason all fields block Revisit Revisit x y = refl
one_reason all fields block Revisit ContentType x y = absurd (other_kind (kind_of fields) y.0 x)
one_reason all fields block Revisit Target x y = absurd (other_kind (kind_of fields) y.0 x)
one_reason all fields block Revisit Date x y = absurd (other_kind (kind_of fields) y.1.typed x)
one_reason all fields block Revisit NoMessage x y = absurd (other_kind (kind_of fields) y.response.typed x)
one_reason all fields block ContentType Revisit x y = absurd (other_kind (kind_of fields) x.0 y)
one_reason all fields block ContentType ContentType x y = refl
one_reason all fields block ContentType Target x y = absurd (true≢false (sym y.1 ∙ x.1))
one_reason all fields block ContentType Date x y = absurd (true≢false (sym y.1.http ∙ x.1))
one_reason all fields block ContentType NoMessage x y = absurd (true≢false (sym y.response.http ∙ x.1))
one_reason all fields block Target Revisit x y = absurd (other_kind (kind_of fields) x.0 y)
one_reason all fields block Target ContentType x y = absurd (true≢false (sym x.1 ∙ y.1))
one_reason all fields block Target Target x y = refl
one_reason all fields block Target Date x y = absurd (x.2 y.0 y.1.target)
one_reason all fields block Target NoMessage x y = absurd (x.2 y.uri y.response.target)
one_reason all fields block Date Revisit x y = absurd (other_kind (kind_of fields) x.1.typed y)
one_reason all fields block Date ContentType x y = absurd (true≢false (sym x.1.http ∙ y.1))
one_reason all fields block Date Target x y = absurd (y.2 x.0 x.1.target)
one_reason all fields block Date Date x y = refl
one_reason all fields block Date NoMessage x y = absurd (x.2 y.date y.dated)
one_reason all fields block NoMessage Revisit x y = absurd (other_kind (kind_of fields) x.response.typed y)
one_reason all fields block NoMessage ContentType x y = absurd (true≢false (sym x.response.http ∙ y.1))
one_reason all fields block NoMessage Target x y = absurd (y.2 x.uri x.response.target)
one_reason all fields block NoMessage Date x y = absurd (y.2 x.date x.dated)
one_reason all fields block NoMessage NoMessage x y = refl

-- what is skipped counts
skipped_counts : (all : List Placed) (fields : List NamedValue) (block : List ℕ) (reason : Reason) → IsSkipped all fields block reason
    → is_counted (kind_of fields) ≡ true
skipped_counts all fields block Revisit s = ap is_counted s
skipped_counts all fields block ContentType s = ap is_counted s.0
skipped_counts all fields block Target s = ap is_counted s.0
skipped_counts all fields block Date s = ap is_counted s.1.typed
skipped_counts all fields block NoMessage s = ap is_counted s.response.typed

one_outcome : BlocksLaws → (all : List Placed) (p : Placed) (a b : Outcome) → IsOutcome all p a → IsOutcome all p b → a ≡ b
one_outcome laws all p (outcome.Taken t) (outcome.Taken u) x y = ap outcome.Taken (one_taken laws all (fields_of p) p.form.block t u x y)
one_outcome laws all p (outcome.Taken t) (outcome.Skipped s) x y = absurd (taken_is_not_skipped all (fields_of p) p.form.block t s.reason x y.1)
one_outcome laws all p (outcome.Taken t) outcome.PassedOver x y = absurd (true≢false (sym (ap is_counted x.response.typed) ∙ y))
one_outcome laws all p (outcome.Skipped s) (outcome.Taken t) x y = absurd (taken_is_not_skipped all (fields_of p) p.form.block t s.reason y x.1)
one_outcome laws all p (outcome.Skipped s) (outcome.Skipped r) x y = λ i. outcome.Skipped (record { at = places i; reason = reasons i })
  where
    places : s.at ≡ r.at
    places = x.0 ∙ sym y.0

    reasons : s.reason ≡ r.reason
    reasons = one_reason all (fields_of p) p.form.block s.reason r.reason x.1 y.1
one_outcome laws all p (outcome.Skipped s) outcome.PassedOver x y =
    absurd (true≢false (sym (skipped_counts all (fields_of p) p.form.block s.reason x.1) ∙ y))
one_outcome laws all p outcome.PassedOver (outcome.Taken t) x y = absurd (true≢false (sym (ap is_counted y.response.typed) ∙ x))
one_outcome laws all p outcome.PassedOver (outcome.Skipped s) x y =
    absurd (true≢false (sym (skipped_counts all (fields_of p) p.form.block s.reason y.1) ∙ x))
one_outcome laws all p outcome.PassedOver outcome.PassedOver x y = refl

-- ---- a file

one_list : BlocksLaws → (all records : List Placed) (a b : List Outcome) → AreOutcomes all records a → AreOutcomes all records b → a ≡ b
one_list laws all [] a b x y = x ∙ sym y
one_list laws all (p ∷ records) a b x y =
    x.2 ∙ ap (λ o. o ∷ x.1) (one_outcome laws all p x.0 y.0 x.3 y.3) ∙ ap (λ os. y.0 ∷ os) (one_list laws all records x.1 y.1 x.4 y.4) ∙ sym y.2

pub one_import : FirstsAreOne → CutResponsesNeedBody → ResponseHeadsEnd → ImportsAreOne
one_import one needs ends file a b first second =
    one_list (record { one = one; needs = needs; ends = ends }) (placed_from 0 second.records) (placed_from 0 second.records) a b
    (subst (λ rs. AreOutcomes (placed_from 0 rs) (placed_from 0 rs) a) (one_file first.records second.records file first.is_file second.is_file) first.give)
    second.give
