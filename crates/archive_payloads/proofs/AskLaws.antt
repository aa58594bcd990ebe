-- Whether a capture of which a line alone told has a payload, by what its group tells.
use Rattle.std.proofs.Common.{◌≡◌, ◌≢◌, ℕ, Bool, true, false, IsTrue, List, Option, Some, Ok, Err, refl, sym, ap, subst, ◌∙◌}
use Rattle.std.specs.Prelude.{◌↔◌, IsFalse}
use Rattle.std.proofs.lemmas.Bool.{false≢true}
use Rattle.std.proofs.lemmas.Option.{same_Some}
use Rattle.capture.proofs.PayloadLaws.{captures_have_one}
use Rattle.capture.specs.Captures.{is_cut}
use Rattle.capture.specs.declared.book.Book.{Book}
use Rattle.capture.specs.declared.captured.Stored.{Stored}
use Rattle.archive_shelf.specs.Comparing.{HasWhole, KeepsWire}
use Rattle.archive_shelf.specs.declared.fault.StoreFault.TheVariants as stores
use Rattle.archive_reading.proofs.BringLaws.{damaged}
use Rattle.archive_payloads.proofs.ChooseLaws.{whole_wire}
use Rattle.archive_payloads.specs.Choosing.{Asks}
use Rattle.archive_reading.specs.Rereading.{IsOwnOf}
use Rattle.archive_volumes.specs.Spots.{IsSpotOf, is_same_form}
use Rattle.archive_volumes.specs.declared.spot.Spot.{Spot}

module _ (told : Bool) (book : Book) (number : ℕ) (spot : Spot) (its : IsSpotOf book number spot) (own : is_same_form spot.form ≡ false)
    (made : IsFalse told → KeepsWire book number) (payload : List ℕ) where
  keeps_by : (b : Bool) → told ≡ b → (IsTrue told → HasWhole book number payload) → KeepsWire book number
  keeps_by true e has = whole_wire book number spot its own payload (has e)
  keeps_by false e has = made e

  -- one that keeps its whole wire
  module _ (head bytes : List ℕ) (is : IsTrue told → IsOwnOf book number head bytes false) where
    whole_of : bytes ≡ payload → IsTrue told → HasWhole book number payload
    whole_of same told_so =
        let one : IsOwnOf book number head bytes false = is told_so in
        subst (HasWhole book number) same (record { has = one.are.has; whole = sym one.cut_is })

    pub whole_asked : (b : Bool) → (IsTrue b ↔ (bytes ≡ payload)) → Asks told book number payload (Ok b)
    whole_asked true same = (keeps_by told refl (whole_of (same.0 refl)), whole_of (same.0 refl))
    whole_asked false same = λ told_so does.
        false≢true (same.1 (captures_have_one book number bytes payload (is told_so).are.has does.has))

  -- one that was cut
  pub cut_asked : (head bytes : List ℕ) → (IsTrue told → IsOwnOf book number head bytes true) → Asks told book number payload (Ok false)
  cut_asked head bytes is = λ told_so does.
      let one : IsOwnOf book number head bytes true = is told_so in
      let stored : one.are.has.stored ≡ does.has.stored = same_Some one.are.has.stored does.has.stored (sym one.are.has.placed ∙ does.has.placed) in
      false≢true (sym does.whole ∙ ap (λ (s : Stored). is_cut s.kept) (sym stored) ∙ sym one.cut_is)

-- one that is a revisit, or damaged: where the book is told there is none
pub revisit_asked : (told : Bool) (book : Book) (number : ℕ) (payload : List ℕ) → (IsTrue told → ⊥) → Asks told book number payload (Ok false)
revisit_asked told book number payload never = λ told_so does. never told_so

pub damage_asked : (told : Bool) (book : Book) (number : ℕ) (payload kept : List ℕ) (found : Option (List ℕ)) → (IsTrue told → ⊥) → found ≢ Some kept
    → Asks told book number payload (Err (stores.Damaged number kept found))
damage_asked told book number payload kept found never other = (refl, damaged told kept found never other)
