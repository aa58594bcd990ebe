-- The digest of a payload that is walked over slice by slice.
use Rattle.std.proofs.Common.{◌≡◌, ℕ, Bool, List, [], ◌++◌, refl, sym, ap, subst, ◌∙◌, append_assoc, append-nil}
use Rattle.sha1.specs.Sha1.{Holds}
use Rattle.sha1.specs.declared.Sha1.{Sha1}
use Rattle.message_body.specs.Slices.{IsLeft, LeavesBehind}

-- The digest holds what was walked over, and this is left.
pub record Digested (payload : List ℕ) (chunked : Bool) (wire : List ℕ) (hasher : Sha1) : Type 0 where
  pub before : List ℕ
  pub left : List ℕ
  pub splits : payload ≡ before ++ left
  pub held : Holds hasher before
  pub is : IsLeft chunked wire left

pub digested_none : (payload : List ℕ) (chunked : Bool) (wire : List ℕ) (hasher : Sha1) → IsLeft chunked wire payload → Holds hasher []
    → Digested payload chunked wire hasher
digested_none payload chunked wire hasher is held = record { before = []; left = payload; splits = refl; held = held; is = is }

pub digested_on : (payload slice : List ℕ) (chunked still : Bool) (wire next : List ℕ) (was now : Sha1) → (digested : Digested payload chunked wire was)
    → LeavesBehind digested.left slice still next → ((m : List ℕ) → Holds was m → Holds now (m ++ slice)) → Digested payload still next now
digested_on payload slice chunked still wire next was now digested leaves goes = record {
  before = digested.before ++ slice;
  left = leaves.behind;
  splits = digested.splits ∙ ap (λ (l : List ℕ). digested.before ++ l) leaves.splits ∙ sym (append_assoc digested.before slice leaves.behind);
  held = goes digested.before digested.held;
  is = leaves.is;
}

pub digested_all : (payload : List ℕ) (chunked : Bool) (wire : List ℕ) (hasher : Sha1) → (digested : Digested payload chunked wire hasher)
    → digested.left ≡ [] → Holds hasher payload
digested_all payload chunked wire hasher digested none =
    subst (Holds hasher) (sym (digested.splits ∙ ap (λ (l : List ℕ). digested.before ++ l) none ∙ append-nil digested.before)) digested.held
