-- Which bytes are one message: a head, and the body whose length it tells, whole or cut (RFC 9112, sections 2.1 and
-- 6.3).
use Rattle.std.specs.Prelude.{◌≡◌, ◌≢◌, ℕ, ◌≤◌, Bool, List, [], Ok}
use Rattle.httparse.specs.Grammar.{RequestHead, ReadsRequest, ResponseHead, ReadsResponse, status_code}
use Rattle.capture.specs.Body.{IsBody, IsCutWire}
use Rattle.capture.specs.Framing.{request_framing, response_framing}
use Rattle.capture.specs.Head.{front_of}
use Rattle.capture.specs.Head as head
use Rattle.capture.specs.declared.framing.Framing.{Framing}

-- the text is the request head h, which begins with its first line, and then rest
pub record BeginsWithRequest (text : List ℕ) (h : RequestHead) (rest : List ℕ) : Type 0 where
  pub reads : ReadsRequest text h rest
  pub at_once : h.blank ≡ []

-- the text is the response head h, which begins with its first line, and then rest; no status is below 100, and
-- 101 would leave HTTP/1.1
pub record BeginsWithResponse (text : List ℕ) (h : ResponseHead) (rest : List ℕ) : Type 0 where
  pub reads : ReadsResponse text h rest
  pub at_once : h.blank ≡ []
  pub status : 100 ≤ status_code h
  pub no_switch : status_code h ≢ 101

-- the text is a request head alone
abbrev pub IsRequestHeadText : List ℕ → RequestHead → Type 0
IsRequestHeadText text h = BeginsWithRequest text h []

-- the text is a response head alone
abbrev pub IsResponseHeadText : List ℕ → ResponseHead → Type 0
IsResponseHeadText text h = BeginsWithResponse text h []

-- the text is one request, of this head and body; it has no limits
pub record IsWholeRequest (text : List ℕ) (h : RequestHead) (framing : Framing) (wire : List ℕ) : Type 0 where
  pub head : BeginsWithRequest text h wire
  pub framed : request_framing h ≡ Ok framing
  pub body : IsBody framing wire

-- the text is one response, to HEAD or to another method; it has no limits
pub record IsWholeResponse (answers_head : Bool) (text : List ℕ) (h : ResponseHead) (framing : Framing) (wire : List ℕ) : Type 0 where
  pub head : BeginsWithResponse text h wire
  pub framed : response_framing answers_head h ≡ Ok framing
  pub body : IsBody framing wire

-- the text is a head within the limits, which begins at once
abbrev pub IsShortHead : List ℕ → Type 0
IsShortHead text = front_of text ≡ head.Head 0 text

-- the head and the wire are a response within the limits, to HEAD or to another method, that ends inside its body
pub record IsCutResponse (answers_head : Bool) (head_text wire : List ℕ) (h : ResponseHead) (framing : Framing) : Type 0 where
  pub head : IsResponseHeadText head_text h
  pub short : IsShortHead head_text
  pub framed : response_framing answers_head h ≡ Ok framing
  pub body : IsCutWire framing wire
