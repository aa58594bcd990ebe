-- What the spans of a head say of its text.
use Rattle.std.specs.Prelude.{ℕ, List, All, IsAscii}
use Rattle.httparse.specs.declared.spans.HeaderSpan.{HeaderSpan}
use Rattle.httparse.specs.declared.spans.RequestSpans.{RequestSpans}
use Rattle.httparse.specs.declared.spans.ResponseSpans.{ResponseSpans}
use Rattle.httparse.specs.Grammar.{RequestHead, ResponseHead}
use Rattle.httparse.specs.Spans.{span_bytes, AreFieldsAt, IsRequestAt, IsResponseAt}
use Rattle.capture.specs.Message.{IsRequestHeadText, IsResponseHeadText}
use Rattle.http_head.specs.Sections.{IsSection}

-- the text is a request head, and the spans cover its parts
abbrev pub SpansRequest : List ℕ → List HeaderSpan → RequestSpans → Type 0
SpansRequest text headers spans =
    (h : RequestHead) × IsRequestHeadText text h × IsRequestAt text headers spans h

-- the text is a response head, and the spans cover its parts
abbrev pub SpansResponse : List ℕ → List HeaderSpan → ResponseSpans → Type 0
SpansResponse text headers spans =
    (h : ResponseHead) × IsResponseHeadText text h × IsResponseAt text headers spans h

-- the text is a section of field lines, and the first count spans cover its fields
pub record SpansSection (text : List ℕ) (headers : List HeaderSpan) (count : ℕ) : Type 0 where
  pub section : IsSection text
  pub fields_are : AreFieldsAt text headers count section.fields

-- each header's name is ASCII
abbrev pub HasAsciiNames : List ℕ → List HeaderSpan → Type 0
HasAsciiNames text headers = All (λ header. IsAscii (span_bytes text header.name)) headers
