-- No group's text is a proper prefix of another's of its number, and equal texts say the same.
use Rattle.std.proofs.Common.{◌≡◌, ℕ, List, ◌++◌, length, length-append, append_assoc, sym, ap, ◌∙◌, arith, refl}
use Rattle.std.specs.Prelude.{Option, Some, None, [], unwrap_or}
use Rattle.capture.specs.declared.captured.Taken.{Taken}
use Rattle.warc_text.specs.declared.id.IdKind.TheVariants as ids
use Rattle.warc_text.specs.Ids.{id_of}
use Rattle.warc_text.specs.Lines.{ended}
use Rattle.warc_text.specs.Records.{response_opening, response_text, revisit_opening, revisit_text, request_opening, request_text, answer_text, group_text}
use Rattle.warc_text.specs.References.{Reference, reference_to}
use Rattle.warc_text.specs.Groups.{IsWritable, answer_block, answer_cut, GroupsArePrefixFree, GroupsTellTheirCaptures, ReferencesTellTheirCaptures}
use Rattle.warc_text.proofs.Fronts.{fronts, ended_front}
use Rattle.warc_text.proofs.Openings.{response_opening_front, revisit_opening_front, request_opening_front, response_no_revisit}

-- what equal texts of two responses or revisits tell of them, and what stands behind both
pub record Told (x y : Taken) (d e : List ℕ) (s t : Option Reference) (after other : List ℕ) : Type 0 where
  pub date : x.date ≡ y.date
  pub target : x.uri ≡ y.uri
  pub payload_digest : d ≡ e
  pub refers : s ≡ t
  pub cut : answer_cut x s ≡ answer_cut y t
  pub block : answer_block x s ≡ answer_block y t
  pub behind : after ≡ other

answer_front : (id : List ℕ) (x y : Taken) (d e : List ℕ) (s t : Option Reference) (after other : List ℕ) → IsWritable x d s → IsWritable y e t
    → answer_text id x d s ++ after ≡ answer_text id y e t ++ other → Told x y d e s t after other
unfolding answer_text response_text revisit_text
answer_front id x y d e None None after other is is₂ same =
    let block = x.head ++ x.wire in
    let block₂ = y.head ++ y.wire in
    let apart = sym (append_assoc (response_opening id x.date x.uri d x.cut) (ended block) after) ∙ same ∙ append_assoc (response_opening id y.date y.uri e y.cut) (ended block₂) other in
    let parts = response_opening_front id id x.date y.date x.uri y.uri d e x.cut y.cut _ _ is.target is₂.target is.payload_digest is₂.payload_digest apart in
    let blocks = ended_front block block₂ after other (omega (arith, length-append x.head x.wire, is.head, is.wire)) (omega (arith, length-append y.head y.wire, is₂.head, is₂.wire)) parts.behind in
    record {
      date = parts.date;
      target = parts.target;
      payload_digest = parts.payload_digest;
      refers = refl;
      cut = parts.cut;
      block = blocks.0;
      behind = blocks.1;
    }
answer_front id x y d e (Some s) (Some t) after other is is₂ same =
    let apart = sym (append_assoc (revisit_opening id x.date x.uri d s) (ended x.head) after) ∙ same ∙ append_assoc (revisit_opening id y.date y.uri e t) (ended y.head) other in
    let parts = revisit_opening_front id id x.date y.date x.uri y.uri d e s t _ _ is.target is₂.target is.payload_digest is₂.payload_digest is.refers_to is₂.refers_to apart in
    let blocks = ended_front x.head y.head after other (omega (arith, is.head)) (omega (arith, is₂.head)) parts.behind in
    record {
      date = parts.date;
      target = parts.target;
      payload_digest = parts.payload_digest;
      refers = ap Some parts.refers;
      cut = refl;
      block = blocks.0;
      behind = blocks.1;
    }
answer_front id x y d e None (Some t) after other is is₂ same =
    let apart = sym (append_assoc (response_opening id x.date x.uri d x.cut) (ended (x.head ++ x.wire)) after) ∙ same ∙ append_assoc (revisit_opening id y.date y.uri e t) (ended y.head) other in
    absurd (response_no_revisit id id x.date y.date x.uri y.uri d e x.cut t _ _ apart)
answer_front id x y d e (Some s) None after other is is₂ same =
    let apart = sym (append_assoc (response_opening id y.date y.uri e y.cut) (ended (y.head ++ y.wire)) other) ∙ sym same ∙ append_assoc (revisit_opening id x.date x.uri d s) (ended x.head) after in
    absurd (response_no_revisit id id y.date x.date y.uri x.uri e d y.cut s _ _ apart)

request_front : (id answer_id : List ℕ) (x y : Taken) (d e : List ℕ) (s t : Option Reference) (after other : List ℕ) → IsWritable x d s → IsWritable y e t
    → request_text id answer_id x ++ after ≡ request_text id answer_id y ++ other → (x.request ≡ y.request) × (after ≡ other)
unfolding request_text
request_front id answer_id x y d e s t after other is is₂ same =
    let apart = sym (append_assoc (request_opening id answer_id x.date x.uri) (ended x.request) after) ∙ same ∙ append_assoc (request_opening id answer_id y.date y.uri) (ended y.request) other in
    let parts = request_opening_front id id answer_id answer_id x.date y.date x.uri y.uri _ _ is.target is₂.target apart in
    ended_front x.request y.request after other (omega (arith, is.request)) (omega (arith, is₂.request)) parts.2

-- texts with the same text behind them
same_before : (p q x y : List ℕ) → x ≡ y → p ++ x ≡ q ++ y → p ≡ q
same_before p q x y tails e =
    let long : length p ≡ length q = omega (arith, length-append p x, length-append q y, ap (λ (l : List ℕ). length l) e, ap (λ (l : List ℕ). length l) tails) in
    (fronts p q x y long e).0

group_told : (namespace : List ℕ) (number : ℕ) (x y : Taken) (d e : List ℕ) (s t : Option Reference) (after other : List ℕ) → IsWritable x d s → IsWritable y e t
    → group_text namespace number x d s ++ after ≡ group_text namespace number y e t ++ other
    → Told x y d e s t after other × (x.request ≡ y.request)
unfolding group_text
group_told namespace number x y d e s t after other is is₂ same =
    let id = id_of namespace ids.Response number in
    let request_id = id_of namespace ids.Request number in
    let request = request_text request_id id x in
    let request₂ = request_text request_id id y in
    let told = answer_front id x y d e s t (request ++ after) (request₂ ++ other) is is₂
    (sym (append_assoc (answer_text id x d s) request after) ∙ same ∙ append_assoc (answer_text id y e t) request₂ other) in
    let requests = request_front request_id id x y d e s t after other is is₂ told.behind in (
      record {
        date = told.date;
        target = told.target;
        payload_digest = told.payload_digest;
        refers = told.refers;
        cut = told.cut;
        block = told.block;
        behind = requests.1;
      },
      requests.0,
    )

pub groups_are_prefix_free : GroupsArePrefixFree
groups_are_prefix_free namespace number x y d e s t after other is is₂ same =
    let behind = (group_told namespace number x y d e s t after other is is₂ same).0.behind in
    (same_before (group_text namespace number x d s) (group_text namespace number y e t) after other behind same, behind)

pub groups_tell_their_captures : GroupsTellTheirCaptures
groups_tell_their_captures namespace number x y d e s t is is₂ same =
    let parts = group_told namespace number x y d e s t [] [] is is₂ (ap (λ (l : List ℕ). l ++ []) same) in
    let told = parts.0 in
    record {
      date = told.date;
      target = told.target;
      payload_digest = told.payload_digest;
      refers = told.refers;
      cut = told.cut;
      block = told.block;
      request = parts.1;
    }

-- references to captures of the archive
pub references_tell_their_captures : ReferencesTellTheirCaptures
references_tell_their_captures namespace count None None differ below below₂ same = refl
references_tell_their_captures namespace count (Some s) (Some t) differ below below₂ same =
    let first = ap (λ (o : Option Reference). unwrap_or o (reference_to namespace s)) same in
    let number : s.number ≡ t.number = differ s.number t.number below below₂ (ap (λ (r : Reference). r.id) first) in
    let uri : s.uri ≡ t.uri = ap (λ (r : Reference). r.uri) first in
    let date : s.date ≡ t.date = ap (λ (r : Reference). r.date) first in
    let one : s ≡ t = λ i. record { number = number i; uri = uri i; date = date i } in
    ap Some one
references_tell_their_captures namespace count None (Some t) differ below below₂ same = cc
references_tell_their_captures namespace count (Some s) None differ below below₂ same = cc
