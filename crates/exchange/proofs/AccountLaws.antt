-- The bytes that a link gave are those done, those of the message so far and those in the window.
use Rattle.std.proofs.Common.{◌≡◌, ℕ, List, ◌++◌, take, drop, refl, sym, ap, ◌∙◌, append_assoc}
use Rattle.std.proofs.lemmas.List.{take-append-drop}
use Rattle.exchange.specs.Receiving.{StaysAccounted, BeginsAccounted, IsFrontOf}

-- what was taken of the window and what is left of it are the window
pub split_window : (stream window stream_now window_now : List ℕ) (used : ℕ) → stream_now ≡ stream ++ take used window
    → window_now ≡ drop used window → stream_now ++ window_now ≡ stream ++ window
split_window stream window stream_now window_now used taken left =
    ap (λ s. s ++ window_now) taken ∙ append_assoc stream (take used window) window_now
    ∙ ap (λ w. stream ++ (take used window ++ w)) left ∙ ap (λ w. stream ++ w) (take-append-drop used window)

pub front_of_window : (stream window stream_now : List ℕ) (used : ℕ) → stream_now ≡ stream ++ take used window
    → IsFrontOf stream_now (stream ++ window)
front_of_window stream window stream_now used taken = record {
  rest = drop used window;
  splits = sym (split_window stream window stream_now (drop used window) used taken refl);
}

-- the window was taken whole, and the link gave more
pub accounts_more : (given pending now stream window stream_now next more : List ℕ) → StaysAccounted given pending now (stream ++ window)
    → stream_now ≡ stream ++ window → next ≡ now ++ more → StaysAccounted given pending next (stream_now ++ more)
accounts_more given pending now stream window stream_now next more accounts taken given_more =
    λ done split.
    given_more ∙ ap (λ g. g ++ more) (accounts done split ∙ ap (λ s. done ++ s) (sym taken)) ∙ append_assoc done stream_now more

pub accounts_same : (given pending now stream window stream_now window_now : List ℕ) → StaysAccounted given pending now (stream ++ window)
    → stream_now ++ window_now ≡ stream ++ window → StaysAccounted given pending now (stream_now ++ window_now)
accounts_same given pending now stream window stream_now window_now accounts same =
    λ done split. accounts done split ∙ ap (λ s. done ++ s) (sym same)

pub accounts_front : (given pending now stream window stream_now : List ℕ) → StaysAccounted given pending now (stream ++ window)
    → IsFrontOf stream_now (stream ++ window) → BeginsAccounted given pending now stream_now
accounts_front given pending now stream window stream_now accounts front =
    λ done split. record {
      rest = front.rest;
      splits = accounts done split ∙ ap (λ s. done ++ s) front.splits ∙ sym (append_assoc done stream_now front.rest);
    }

-- ---- loops

-- accounts compose
pub accounts_then : (given pending now pending_now next pending_next : List ℕ) → StaysAccounted given pending now pending_now
    → StaysAccounted now pending_now next pending_next → StaysAccounted given pending next pending_next
accounts_then given pending now pending_now next pending_next first second = λ done split. second done (first done split)
