-- What asking for a piece answers, by the group that was read.
use Rattle.std.proofs.Common.{◌≡◌, ◌≢◌, ℕ, Bool, true, false, IsTrue, List, [], ◌++◌, Option, Some, None, Result, Ok, Err, if◌then◌else◌, refl, sym, ap, ◌∙◌}
use Rattle.std.specs.Str.{bytes_eq}
use Rattle.std.proofs.lemmas.Bool.{false≢true}
use Rattle.std.proofs.lemmas.Option.{same_Some}
use Rattle.std.proofs.lemmas.Slice.Eq.{bytes_eq-Decides}
use Rattle.sha1.specs.Sha1.{sha1}
use Rattle.capture.proofs.PayloadLaws.{captures_have_one}
use Rattle.capture.specs.Captures.{taken_back}
use Rattle.capture.specs.declared.book.Book.{Book}
use Rattle.warc_scan.specs.Groups.{reference_in}
use Rattle.warc_scan.specs.declared.outline.Outline.{Outline}
use Rattle.archive_reading.proofs.BringLaws.{no_digest}
use Rattle.archive_reading.specs.KeptGroups.{GivesPieceFrom, HasFront, IsGroupOf, IsKeptGroup, IsTold, bytes_by}
use Rattle.archive_volumes.specs.Spots.{IsPlaced}
use Rattle.archive_reading.specs.declared.kept_group.KeptGroup.{KeptGroup}
use Rattle.archive_reading.specs.declared.kept_group.KeptGroup.TheVariants as groups
use Rattle.archive_volumes.specs.declared.spot.Spot.{Spot}

-- the group with what stands before it
pub piece_of : (tells : Bool) (book : Book) (number : ℕ) (group bytes : List ℕ) (outline : Outline) → IsTold book.namespace number group outline
    → (IsTrue tells → IsGroupOf book number group outline) → HasFront book number group bytes → GivesPieceFrom tells book number (Ok bytes)
piece_of tells book number group bytes outline told is front = (
  record {
    front = front.front;
    taken = taken_back told.group.stored;
    digest = told.group.digest;
    same = reference_in told.group.same;
    before = front.before;
    composed = front.composed ∙ ap (λ (g : List ℕ). front.front ++ g) told.is.composed;
  },
  λ tells_so. record { front = front.front; group = group; before = front.before; is = (is tells_so).is; composed = front.composed },
)

-- ---- the digest that it tells

abbrev chosen : {T E : Type 0} → Bool → T → E → Result T E
chosen test value fault = if test then Ok value else Err fault

no_value : {T E : Type 0} (value : T) (fault : E) → chosen false value fault ≡ Ok value → ⊥
no_value value fault is = cc

no_fault : {T E : Type 0} (value : T) (fault : E) → chosen true value fault ≡ Err fault → ⊥
no_fault value fault is = cc

value_chosen : {T E : Type 0} (test : Bool) (value other : T) (fault : E) → chosen test value fault ≡ Ok other → (test ≡ true) × (value ≡ other)
value_chosen true value other fault is = (refl, cc)
value_chosen false value other fault is = absurd (no_value other fault is)

fault_chosen : {T E : Type 0} (test : Bool) (value : T) (fault other : E) → chosen test value fault ≡ Err other → (test ≡ false) × (fault ≡ other)
fault_chosen true value fault other is = absurd (no_fault value other is)
fault_chosen false value fault other is = (refl, cc)

-- a group that tells the digest which is kept
pub told_bytes : (digest : List ℕ) (read : KeptGroup) (bytes : List ℕ) → bytes_by digest read ≡ Ok bytes
    → (outline : Outline) × (read ≡ groups.Right bytes outline) × (outline.digest ≡ digest)
told_bytes digest (groups.Right group outline) bytes is =
    let both = value_chosen (bytes_eq outline.digest digest) group bytes (Some outline.digest) is in
    (outline, ap (λ (g : List ℕ). groups.Right g outline) both.1, (bytes_eq-Decides outline.digest digest).0 both.0)
told_bytes digest groups.Damaged bytes is = absurd (no_value bytes None is)

-- what another one tells, or none
pub other_bytes : (digest : List ℕ) (read : KeptGroup) (found : Option (List ℕ)) → bytes_by digest read ≡ Err found → found ≢ Some digest
other_bytes digest (groups.Right bytes outline) found is same =
    let both = fault_chosen (bytes_eq outline.digest digest) bytes (Some outline.digest) found is in
    false≢true (sym both.0 ∙ (bytes_eq-Decides outline.digest digest).1 (same_Some outline.digest digest (both.1 ∙ same)))
other_bytes digest groups.Damaged found is same = no_digest digest ((fault_chosen false [] None found is).1 ∙ same)

-- where the book is told, that isn't the group of the capture
pub never_other : (book : Book) (number : ℕ) (texts : List (List ℕ)) (spot : Spot) → IsPlaced texts book number spot → (read : KeptGroup) (found : Option (List ℕ))
    → bytes_by spot.digest read ≡ Err found → IsKeptGroup book number read → ⊥
never_other book number texts spot there (groups.Right bytes outline) found is of =
    let both = fault_chosen (bytes_eq outline.digest spot.digest) bytes (Some outline.digest) found is in
    false≢true (sym both.0 ∙ (bytes_eq-Decides outline.digest spot.digest).1 (of.digest
    ∙ ap sha1 (captures_have_one book number of.is.payload there.payload
    (record { stored = of.is.stored; placed = of.is.placed; by_kept = of.is.payload_is }) there.has)
    ∙ sym there.digest))
never_other book number texts spot there groups.Damaged found is of = of
