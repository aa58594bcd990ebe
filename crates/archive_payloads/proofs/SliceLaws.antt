-- A payload that is walked over slice by slice, beside bytes that it is compared with.
use Rattle.std.proofs.Common.{◌≡◌, ◌≢◌, ℕ, Bool, true, false, IsTrue, List, [], ◌∷◌, ◌++◌, length, take, drop, refl, sym, ap, ◌∙◌, append_assoc}
use Rattle.std.specs.Prelude.{◌==◌, ◌↔◌}
use Rattle.std.specs.Str.{bytes_eq}
use Rattle.std.proofs.lemmas.Bool.{false≢true}
use Rattle.std.proofs.lemmas.List.{append_cancel_left, take-append-drop, take_at}
use Rattle.std.proofs.lemmas.Slice.Eq.{bytes_eq-Decides}
use Rattle.message_body.specs.Slices.{IsLeft, LeavesBehind}
use Rattle.archive_payloads.proofs.ChooseLaws.{no_bytes}

-- What was walked over is the same of both, and this is left of them.
pub record Walked (payload bytes : List ℕ) (chunked : Bool) (wire rest : List ℕ) : Type 0 where
  pub before : List ℕ
  pub left : List ℕ
  pub payload_is : payload ≡ before ++ left
  pub bytes_is : bytes ≡ before ++ rest
  pub is : IsLeft chunked wire left

pub walked_none : (payload bytes : List ℕ) (chunked : Bool) (wire : List ℕ) → IsLeft chunked wire payload → Walked payload bytes chunked wire bytes
walked_none payload bytes chunked wire is = record { before = []; left = payload; payload_is = refl; bytes_is = refl; is = is }

pub walked_on : (payload bytes slice rest behind : List ℕ) (chunked still : Bool) (wire next : List ℕ) → (walked : Walked payload bytes chunked wire rest)
    → LeavesBehind walked.left slice still next → rest ≡ slice ++ behind → Walked payload bytes still next behind
walked_on payload bytes slice rest behind chunked still wire next walked leaves rest_is = record {
  before = walked.before ++ slice;
  left = leaves.behind;
  payload_is = walked.payload_is ∙ ap (λ (l : List ℕ). walked.before ++ l) leaves.splits ∙ sym (append_assoc walked.before slice leaves.behind);
  bytes_is = walked.bytes_is ∙ ap (λ (l : List ℕ). walked.before ++ l) rest_is ∙ sym (append_assoc walked.before slice behind);
  is = leaves.is;
}

zero_long : (xs : List ℕ) → xs ≡ [] → (length xs == 0) ≡ true
zero_long xs is = ap (λ (l : List ℕ). length l == 0) is

same_rest : (payload bytes : List ℕ) (chunked : Bool) (wire rest : List ℕ) → (walked : Walked payload bytes chunked wire rest) → bytes ≡ payload → rest ≡ walked.left
same_rest payload bytes chunked wire rest walked same =
    append_cancel_left walked.before rest walked.left (sym walked.bytes_is ∙ same ∙ walked.payload_is)

-- nothing is left of the payload
pub at_end : (payload bytes : List ℕ) (chunked : Bool) (wire rest : List ℕ) → (walked : Walked payload bytes chunked wire rest) → walked.left ≡ []
    → (result : Bool) → result ≡ (length rest == 0) → (IsTrue result ↔ (bytes ≡ payload))
at_end payload bytes chunked wire rest walked none result is = (
  λ told. walked.bytes_is ∙ ap (λ (l : List ℕ). walked.before ++ l) (no_bytes rest (sym is ∙ told) ∙ sym none) ∙ sym walked.payload_is,
  λ same. is ∙ zero_long rest (same_rest payload bytes chunked wire rest walked same ∙ none),
)

-- the next slice isn't at the front of what is left of the bytes
pub at_other : (payload bytes slice rest : List ℕ) (chunked still : Bool) (wire next : List ℕ) → (walked : Walked payload bytes chunked wire rest)
    → LeavesBehind walked.left slice still next → take (length slice) rest ≢ slice → bytes ≢ payload
at_other payload bytes slice rest chunked still wire next walked leaves other same =
    other (ap (take (length slice)) (same_rest payload bytes chunked wire rest walked same ∙ leaves.splits) ∙ take_at slice leaves.behind (length slice) refl)

-- the first slice is empty at the end alone
pub ends_at_once : (payload slice : List ℕ) (still : Bool) (next : List ℕ) → LeavesBehind payload slice still next
    → (result : Bool) → result ≡ (length slice == 0) → (IsTrue result ↔ (payload ≡ []))
ends_at_once payload slice still next leaves result is = (
  λ told. leaves.end (no_bytes slice (sym is ∙ told)),
  λ none. is ∙ zero_long slice (front_none slice leaves.behind (sym leaves.splits ∙ none)),
)
  where
    front_none : (xs ys : List ℕ) → xs ++ ys ≡ [] → xs ≡ []
    front_none [] ys e = refl
    front_none (x ∷ xs) ys e = cc

-- a prefix was stripped, or it isn't there
pub stripped : (slice rest behind : List ℕ) → bytes_eq (take (length slice) rest) slice ≡ true → behind ≡ drop (length slice) rest → rest ≡ slice ++ behind
stripped slice rest behind there is =
    sym (take-append-drop (length slice) rest)
    ∙ ap (λ (l : List ℕ). l ++ drop (length slice) rest) ((bytes_eq-Decides (take (length slice) rest) slice).0 there)
    ∙ ap (λ (l : List ℕ). slice ++ l) (sym is)

pub unlike : (slice rest : List ℕ) → bytes_eq (take (length slice) rest) slice ≡ false → take (length slice) rest ≢ slice
unlike slice rest not same = false≢true (sym not ∙ (bytes_eq-Decides (take (length slice) rest) slice).1 same)
