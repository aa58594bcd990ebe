-- What begins with a group is neither nothing nor a tail.
use Rattle.std.proofs.Common.{◌≡◌, ℕ, List, [], inl, inr, sym, subst}
use Rattle.capture.specs.Captures.{taken_back}
use Rattle.capture.specs.Tails.{IsCommitted, IsRest, IsTail}
use Rattle.warc_scan.specs.Groups.{reference_in}
use Rattle.warc_scan.specs.Answers.{BeginsWithGroup}
use Rattle.warc_scan.specs.declared.group.Group.{Group}
use Rattle.warc_text.specs.StandsFor.{commit_byte}
use Rattle.warc_text.proofs.GroupLaws.{groups_are_committed}
use Rattle.volume_scan.proofs.BookLaws.{committed_on, rest_is_uncommitted}

group_committed : (namespace : List ℕ) (number : ℕ) (bytes : List ℕ) (group : Group) → BeginsWithGroup namespace number bytes group → IsCommitted commit_byte bytes
group_committed namespace number bytes group begins =
    subst (IsCommitted commit_byte) (sym begins.composed)
    (committed_on begins.text begins.rest
    (subst (IsCommitted commit_byte) (sym begins.is.composed)
    (groups_are_committed namespace number (taken_back group.stored) group.digest (reference_in group.same))))

pub none_in_nothing : (namespace : List ℕ) (number : ℕ) (bytes : List ℕ) → bytes ≡ [] → (group : Group) → BeginsWithGroup namespace number bytes group → ⊥
none_in_nothing namespace number bytes none group begins = rest_is_uncommitted bytes (inl none) (group_committed namespace number bytes group begins)

pub none_in_tail : (namespace : List ℕ) (number : ℕ) (bytes : List ℕ) → IsTail commit_byte bytes → (group : Group) → BeginsWithGroup namespace number bytes group → ⊥
none_in_tail namespace number bytes tail group begins = rest_is_uncommitted bytes (inr tail) (group_committed namespace number bytes group begins)
