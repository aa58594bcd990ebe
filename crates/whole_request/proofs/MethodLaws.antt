-- The method of a text that is one whole request.
use Rattle.std.proofs.Common.{true≢false, ◌≡◌, ℕ, Bool, true, false, ◌||◌, eqb, List, [], ◌∷◌, ◌++◌, length, Ok, Err, refl, sym, ap, subst, ◌∙◌, if◌then◌else◌, arith}
use Rattle.std.specs.Prelude.{Result}
use Rattle.std.proofs.lemmas.Bool.{eqb-true}
use Rattle.httparse.specs.Grammar as grammar
use Rattle.capture.specs.Body.{IsBody}
use Rattle.capture.specs.Fields.{named_values, has_field}
use Rattle.capture.specs.Framing.{request_framing, transfer_encoding, content_length}
use Rattle.capture.specs.Message.{IsRequestHeadText}
use Rattle.capture.specs.WellFormed.{IsRequestOf}
use Rattle.capture.specs.declared.framing.Framing.{Framing}
use Rattle.capture.specs.declared.framing.Framing.TheVariants.{Empty}
use Rattle.http_head.specs.Heads.{HoldsOutline, HoldsRequest, has_framing}
use Rattle.http_head.specs.declared.head.RequestHead.{RequestHead}
use Rattle.http_head.specs.declared.head.RequestOutline.{RequestOutline}
use Rattle.http_head.specs.declared.head.WireFault.{WireFault}
use Rattle.message_body.specs.Framings.{framing_answer, told_by_request}
use Rattle.message_body.proofs.ToldFramings.{ok_was_told}
use Rattle.whole_request.proofs.WholeLaws.{begins_with_rest, one_framing, parts_tell, same_head}

-- ---- a head in parts

pub method_of : (front wire : List ℕ) (head : RequestHead) (framing : Framing) → HoldsRequest front head
    → Ok framing ≡ framing_answer (told_by_request head) → IsBody framing wire → IsRequestOf head.method (front ++ wire)
method_of front wire head framing holds told body =
    let h = holds.0 in
    let of = holds.1 in
    record {
      head = h;
      framing = framing;
      wire = wire;
      whole = record {
        head = begins_with_rest front h wire of.reads;
        framed = parts_tell front h head of ∙ ok_was_told (told_by_request head) framing told;
        body = body;
      };
      named = sym of.method;
    }

abbrev method_err : WireFault → Result (List ℕ) WireFault
method_err fault = Err fault

pub same_err : (a b : WireFault) → method_err a ≡ method_err b → a ≡ b
same_err a b e = cc

-- ---- a head that tells no length

neither : {X : Type 0} (a b : Bool) (x y z : X) → (a || b) ≡ false → (if a then x else (if b then y else z)) ≡ z
neither true b x y z none = cc
neither false true x y z none = cc
neither false false x y z none = refl

no_body : (h : grammar.RequestHead) → has_framing (named_values h.fields) ≡ false → request_framing h ≡ Ok Empty
no_body h none =
    neither (has_field transfer_encoding (named_values h.fields)) (has_field content_length (named_values h.fields)) _ _ _ none

pub bare_method_of : (front wire : List ℕ) (outline : RequestOutline) → HoldsOutline front outline → outline.is_framed ≡ false
    → wire ≡ [] → IsRequestOf outline.method (front ++ wire)
bare_method_of front wire outline holds bare none =
    let h = holds.0 in
    let of = holds.1 in
    record {
      head = h;
      framing = Empty;
      wire = wire;
      whole = record {
        head = begins_with_rest front h wire of.reads;
        framed = no_body h (sym of.framed ∙ bare);
        body = none;
      };
      named = sym of.method;
    }

empty_body : (framing : Framing) (wire : List ℕ) → framing ≡ Empty → IsBody framing wire → wire ≡ []
empty_body framing wire is body = subst (λ f. IsBody f wire) is body

pub body_is_empty : (front wire : List ℕ) (outline : RequestOutline) (h : grammar.RequestHead) (framing : Framing)
    → HoldsOutline front outline → outline.is_framed ≡ false → IsRequestHeadText front h → request_framing h ≡ Ok framing
    → IsBody framing wire → wire ≡ []
body_is_empty front wire outline h framing holds bare reads told body =
    let same = same_head front h holds.0 reads holds.1.reads in
    let none : request_framing h ≡ Ok Empty = ap request_framing same ∙ no_body holds.0 (sym holds.1.framed ∙ bare) in
    empty_body framing wire (one_framing framing Empty (sym told ∙ none)) body

-- ---- nothing behind a head

pub no_bytes : (xs : List ℕ) → eqb (length xs) 0 ≡ true → xs ≡ []
no_bytes [] e = refl
no_bytes (x ∷ xs) e = absurd (omega (arith, eqb-true (length (x ∷ xs)) 0 e))

pub some_bytes : (xs : List ℕ) → eqb (length xs) 0 ≡ false → xs ≡ [] → ⊥
some_bytes xs e is = true≢false (sym (ap (λ ys. eqb (length ys) 0) is) ∙ e)
