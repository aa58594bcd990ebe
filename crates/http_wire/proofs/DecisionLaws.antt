-- What was decided of a stream stays so, however the stream goes on.
use Rattle.std.proofs.Common.{◌≡◌, ℕ, ◌≤◌, Bool, true, false, List, ◌∷◌, ◌++◌, length, Ok, inl, inr, sym, ap, ◌∙◌, arith, append_assoc, length-append}
use Rattle.std.specs.Prelude.{Result}
use Rattle.std.proofs.lemmas.List.{drop-append-le}
use Rattle.capture.specs.Chunks.{print_chunked, print_cut}
use Rattle.capture.specs.First.{Side, BehindHead, HoldsBody, RefusesBody}
use Rattle.capture.specs.declared.framing.Framing.{Framing}
use Rattle.capture.specs.declared.framing.Framing.TheVariants.{Empty, Length, Chunked, ToEnd}
use Rattle.capture.specs.declared.framing.FramingFault.{FramingFault}
use Rattle.capture.specs.declared.framing.MessageFault.{MessageFault}
use Rattle.http_wire.specs.Decisions.{MessagesStay, RefusalsStay}
use Rattle.http_head.specs.FrontLaws.{HeadsStay, TooLongStays}
use Rattle.http_wire.proofs.FrontParts.{parts_of_head}

pub behind_stays : HeadsStay → (side : Side) (stream more : List ℕ) (told : Result Framing FramingFault) (end : ℕ) (rest : List ℕ)
    → BehindHead side stream told end rest → BehindHead side (stream ++ more) told end (rest ++ more)
behind_stays stay side stream more told end rest head =
    let parts = parts_of_head stream head.skipped head.text head.front in
    let inside : end ≤ length stream = omega (arith, head.end_is, parts.fits) in
    record {
      skipped = head.skipped;
      text = head.text;
      front = stay stream more head.skipped head.text head.front;
      tells = head.tells;
      end_is = head.end_is;
      rest_is = ap (λ r. r ++ more) head.rest_is ∙ sym (drop-append-le end stream more inside);
    }

body_stays : (framing : Framing) (ended : Bool) (stream more : List ℕ) (used : ℕ) → HoldsBody framing false stream used
    → HoldsBody framing ended (stream ++ more) used
body_stays Empty ended stream more used body = body
body_stays (Length n) ended stream more used body = (body.0, omega (arith, body.1, length-append stream more), body.2)
body_stays Chunked ended stream more used body = record {
  body = body.body;
  rest = body.rest ++ more;
  valid = body.valid;
  composed = ap (λ t. t ++ more) body.composed ∙ append_assoc (print_chunked body.body) body.rest more;
  used_is = body.used_is;
  lines = body.lines;
  last = body.last;
  trailer = body.trailer;
  fits = body.fits;
}
body_stays ToEnd ended stream more used body = absurd (goes_on body.0)
  where
    goes_on : false ≡ true → ⊥
    goes_on e = cc

pub messages_stay : HeadsStay → MessagesStay
messages_stay stay side ended stream more used message = record {
  framing = message.framing;
  end = message.end;
  rest = message.rest ++ more;
  body_len = message.body_len;
  head = behind_stays stay side stream more (Ok message.framing) message.end message.rest message.head;
  body = body_stays message.framing ended message.rest more message.body_len message.body;
  used_is = message.used_is;
}

fault_stays : (framing : Framing) (stream more : List ℕ) (fault : MessageFault) → RefusesBody framing stream fault
    → RefusesBody framing (stream ++ more) fault
fault_stays Empty stream more fault body = absurd body
fault_stays (Length n) stream more fault body = absurd body
fault_stays Chunked stream more fault body = record {
  cut = body.cut;
  byte = body.byte;
  rest = body.rest ++ more;
  valid = body.valid;
  within = body.within;
  composed = ap (λ t. t ++ more) body.composed ∙ append_assoc (print_cut body.cut) (body.byte ∷ body.rest) more;
  due = body.due;
}
fault_stays ToEnd stream more fault body = (omega (arith, body.0, length-append stream more), body.1)

pub refusals_stay : HeadsStay → TooLongStays → RefusalsStay
refusals_stay stay long side ended stream more fault (inl too_long) = inl (long stream more too_long.0, too_long.1)
refusals_stay stay long side ended stream more fault (inr (inl none)) = inr (inl (
  record {
    skipped = none.0.skipped;
    text = none.0.text;
    front = stay stream more none.0.skipped none.0.text none.0.front;
    none = none.0.none;
  },
  none.1,
))
refusals_stay stay long side ended stream more fault (inr (inr (inl head))) = inr (inr (inl (record {
  framing = head.framing;
  end = head.end;
  rest = head.rest ++ more;
  head = behind_stays stay side stream more head.framing head.end head.rest head.head;
  told = head.told;
})))
refusals_stay stay long side ended stream more fault (inr (inr (inr body))) = inr (inr (inr (record {
  framing = body.framing;
  end = body.end;
  rest = body.rest ++ more;
  head = behind_stays stay side stream more (Ok body.framing) body.end body.rest body.head;
  body = fault_stays body.framing body.rest more fault body.body;
})))
