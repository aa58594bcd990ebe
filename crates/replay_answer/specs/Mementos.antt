-- A memento: a captured response as the archive gives it (RFC 7089, sections 2.1.1 and 4).
use Rattle.std.specs.Prelude.{◌≡◌, ℕ, Bool, ◌||◌, List, ◌++◌, map, length}
use Rattle.httparse.specs.Ascii.{crlf_bytes}
use Rattle.httparse.specs.Grammar as grammar
use Rattle.head_lines.specs.Lines.{status_line, link_line, tells_no_length, close_line_where, body_unless}
use Rattle.capture.specs.Fields.{NamedValue, named_values}
use Rattle.capture.specs.Message.{IsResponseHeadText}
use Rattle.capture.specs.declared.captured.Brought.{Brought}
use Rattle.http_head.specs.Heads.{named_value}
use Rattle.http_head.specs.declared.head.ResponseHead.{ResponseHead}
use Rattle.replay_answer.specs.Bodies.{IsBody}
use Rattle.replay_answer.specs.Lines.{datetime_line, memento_links, length_line_where}
use Rattle.replay_answer.specs.StoredFields.{memento_fields}

-- what a memento has of the head that was received
pub record Parts : Type 0 where
  pub status : ℕ
  pub reason : List ℕ
  pub fields : List NamedValue

abbrev pub parts_of : grammar.ResponseHead → Parts
parts_of head = record {
  status = grammar.status_code head;
  reason = grammar.reason_phrase head.reason;
  fields = named_values head.fields;
}

-- the parts that a head in memory has
abbrev pub parts_in : ResponseHead → Parts
parts_in head = record { status = head.status; reason = head.reason; fields = map named_value head.fields }

-- what is told of the capture: its status, its fields, its date and its links
unfoldable pub capture_lines : List ℕ → Brought → Bool → Parts → List ℕ
capture_lines base capture raw parts =
    status_line parts.status parts.reason
    ++ memento_fields base capture raw parts.fields
    ++ datetime_line capture.date
    ++ link_line (memento_links base capture.uri)

-- the answer to HEAD has no body (RFC 9110, section 9.3.2)
abbrev pub sent_body : Bool → ℕ → List ℕ → List ℕ
sent_body answers_head status body = body_unless (answers_head || tells_no_length status) body

-- what is told of the answer itself: the length of the body that a GET gets, and whether the connection closes; and the
-- body
unfoldable pub answer_rest : ℕ → Bool → Bool → List ℕ → List ℕ
answer_rest status answers_head closes body =
    length_line_where status (length body)
    ++ close_line_where closes
    ++ crlf_bytes
    ++ sent_body answers_head status body

-- the text is the head of a response
abbrev pub IsHead : List ℕ → Type 0
IsHead text = (head : grammar.ResponseHead) × IsResponseHeadText text head

-- how a capture is delivered: whether it is given as it was received, whether HEAD is answered, and whether the connection closes
pub record Delivery : Type 0 where
  pub raw : Bool
  pub answers_head : Bool
  pub closes : Bool

abbrev pub delivery_of : (raw answers_head closes : Bool) → Delivery
delivery_of raw answers_head closes = record { raw = raw; answers_head = answers_head; closes = closes }

-- the memento of a capture, by the base of the site
pub record IsMemento (base : List ℕ) (capture : Brought) (delivery : Delivery) (text : List ℕ) : Type 0 where
  pub head : grammar.ResponseHead
  pub read : IsResponseHeadText capture.head head
  pub body : List ℕ
  pub given : IsBody base capture delivery.raw (named_values head.fields) body
  pub whole : text ≡ capture_lines base capture delivery.raw (parts_of head)
      ++ answer_rest (grammar.status_code head) delivery.answers_head delivery.closes body
