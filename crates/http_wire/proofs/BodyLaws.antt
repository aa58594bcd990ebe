-- A body of which nothing has come.
use Rattle.std.proofs.Common.{◌≡◌, ◌≢◌, ℕ, ◌-◌, ◌<◌, ◌≤◌, List, [], length, take, Ok, Err, inl, inr, refl, sym, ap, subst, ◌∙◌, arith}
use Rattle.std.specs.Prelude.{Result, IfOk}
use Rattle.std.proofs.lemmas.List.{append-nil}
use Rattle.std.proofs.lemmas.List.Elements.{All-nil}
use Rattle.capture.specs.Body.{IsCutWire, IsShortLine}
use Rattle.capture.specs.Chunks.{Chunk, IsChunk, InLine, CutBody}
use Rattle.capture.specs.declared.framing.Framing.{Framing}
use Rattle.capture.specs.declared.framing.Framing.TheVariants.{Chunked}
use Rattle.capture.specs.declared.framing.MessageFault.{MessageFault}
use Rattle.capture.specs.declared.memory.Memory.{Memory}
use Rattle.body_reader.specs.BodySoFar.{IsOpenBody}
use Rattle.body_reader.specs.BodyStream.{BodyStream, further_on}
use Rattle.body_reader.specs.declared.fed.BodyProgress.TheVariants.{More, Whole, Refused}
use Rattle.http_wire.specs.HeldBodies.{IsBegun, held_bytes, TakesBody, TakesSomeBody}
use Rattle.http_wire.specs.declared.held.Held.{Held}
use Rattle.http_wire.specs.declared.held.Held.TheVariants.{Open}

-- it may be a chunked one
nothing_of_chunks : IsCutWire Chunked []
nothing_of_chunks =
    let cut : CutBody = record { chunks = []; begun = InLine [] } in (
      cut,
      record { chunks = All-nil IsChunk; begun = All-nil (λ (b : ℕ). b ≢ 10) },
      record { lines = All-nil (λ (c : Chunk). IsShortLine c.line); begun = omega arith; fits = omega arith },
      refl,
    )

begun_at : (h : Held) → h ≡ Open (record { framing = Chunked; stream = [] }) → IsBegun Chunked h
begun_at h is = subst (IsBegun Chunked) (sym is) (refl, nothing_of_chunks)

pub begun_chunked : (framing : Framing) (r : Result Held Memory) → framing ≡ Chunked
    → IfOk r (λ h. h ≡ Open (record { framing = framing; stream = [] })) → IfOk r (IsBegun framing)
begun_chunked framing r is opened = subst (λ f. IfOk r (IsBegun f)) (sym is) (at_chunked r (subst (λ f. IfOk r (λ h. h ≡ Open (record { framing = f; stream = [] }))) is opened))
  where
    at_chunked : (q : Result Held Memory) → IfOk q (λ h. h ≡ Open (record { framing = Chunked; stream = [] })) → IfOk q (IsBegun Chunked)
    at_chunked (Ok h) e = begun_at h e
    at_chunked (Err m) e = e

-- ---- what came of a body

pub takes_more : (body : BodyStream) (piece : List ℕ) (used : ℕ) (now : BodyStream) → used ≤ length piece
    → now ≡ further_on body (take used piece) → IsOpenBody now → TakesBody body piece used (Open now)
takes_more body piece used now fits is open_now = record {
  fits = fits;
  bytes_are = ap (λ b. b.stream) is;
  soonest = inl (subst IsOpenBody is open_now);
}

pub takes_all : (body : BodyStream) (piece : List ℕ) (used : ℕ) (now : BodyStream) (h : Held) → used ≤ length piece
    → now ≡ further_on body (take used piece) → held_bytes h ≡ now.stream
    → (0 < used → IsOpenBody (further_on body (take (used - 1) piece))) → TakesBody body piece used h
takes_all body piece used now h fits is held_is before = record {
  fits = fits;
  bytes_are = held_is ∙ ap (λ b. b.stream) is;
  soonest = inr before;
}

pub takes_nothing : (body : BodyStream) (piece : List ℕ) (now : BodyStream) → now ≡ body → TakesSomeBody body piece (Open now)
takes_nothing body piece now is = (
  0,
  record {
    fits = omega arith;
    bytes_are = ap (λ b. b.stream) is ∙ sym (append-nil body.stream);
    soonest = inr (λ some. absurd (omega (arith, some)));
  },
)

pub whole_is_not_more : Whole ≡ More → ⊥
whole_is_not_more e = cc

pub refused_is_not_more : (fault : MessageFault) → Refused fault ≡ More → ⊥
refused_is_not_more fault e = cc
