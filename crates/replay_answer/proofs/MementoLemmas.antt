-- What was written is the memento.
use Rattle.std.proofs.Common.{◌≡◌, ℕ, Bool, List, ◌++◌, map, ap, sym, ◌∙◌, subst}
use Rattle.httparse.specs.Grammar as grammar
use Rattle.capture.specs.Fields.{NamedValue, named_values}
use Rattle.capture.specs.declared.captured.Brought.{Brought}
use Rattle.http_head.specs.Heads.{HoldsResponse, HoldsResponseParts, named_value}
use Rattle.http_head.specs.declared.head.Field.{Field}
use Rattle.http_head.specs.declared.head.ResponseHead.{ResponseHead}
use Rattle.replay_answer.specs.Bodies.{IsBody}
use Rattle.replay_answer.specs.Mementos.{IsMemento, Parts, answer_rest, capture_lines, delivery_of, parts_in, parts_of}

same_parts : (text : List ℕ) (h : grammar.ResponseHead) (head : ResponseHead) → HoldsResponseParts text h head → parts_in head ≡ parts_of h
same_parts text h head is = λ i. record { status = is.status i; reason = is.reason i; fields = is.fields i }

pub is_memento : (base : List ℕ) (capture : Brought) (raw answers_head closes : Bool) (head : ResponseHead) (fields : List Field) (body shown text : List ℕ) → HoldsResponse capture.head head → fields ≡ head.fields → IsBody base capture raw (map named_value fields) shown → body ≡ shown → text ≡ capture_lines base capture raw (parts_in head) ++ answer_rest head.status answers_head closes body → IsMemento base capture (delivery_of raw answers_head closes) text
is_memento base capture raw answers_head closes head fields body shown text holds of_head given is_shown text_is =
    let h = holds.0 in
    let is = holds.1 in
    let named : map named_value fields ≡ named_values h.fields = ap (map named_value) of_head ∙ is.fields in
    let same = same_parts capture.head h head is in
    let here : IsBody base capture raw (map named_value fields) body = subst (λ (t : List ℕ). IsBody base capture raw (map named_value fields) t) (sym is_shown) given in
    let rest = λ (status : ℕ). answer_rest status answers_head closes body in
    let lines = λ (parts : Parts). capture_lines base capture raw parts in
    record {
      head = h;
      read = is.reads;
      body = body;
      given = subst (λ (xs : List NamedValue). IsBody base capture raw xs body) named here;
      whole = text_is ∙ ap (λ parts. lines parts ++ rest parts.status) same;
    }
