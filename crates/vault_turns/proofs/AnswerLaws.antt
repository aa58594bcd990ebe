-- What is answered of a capture is answered too by what else sees the same book, and shows no other entries.
use Rattle.std.proofs.Common.{◌≡◌, ℕ, ◌<◌, Bool, false, IsTrue, List, length, Option, Result, Ok, Err, refl, sym, ap, subst, ◌∙◌}
use Rattle.std.specs.Prelude.{Contains}
use Rattle.capture.specs.Captures.{captures}
use Rattle.capture.specs.declared.book.Book.{Book}
use Rattle.capture.specs.declared.captured.Brought.{Brought}
use Rattle.index_entry.specs.Facts.{Facts}
use Rattle.index_entry.specs.OfBook.{IsEntryOf}
use Rattle.archive_shelf.specs.Answers.{Brings, IsBrought, IsDamaged, IsNamed, KeepsPayloadOf, NamesKeeper, is_bring_fault}
use Rattle.archive_shelf.specs.Contents.{Contents}
use Rattle.archive_shelf.specs.Digests.{GoesByDigest, PieceGoesByDigest}
use Rattle.archive_shelf.specs.Pieces.{GivesPiece, IsPiece, IsShownPiece}
use Rattle.archive_shelf.specs.declared.fault.BringFault.{BringFault}
use Rattle.archive_shelf.specs.declared.fault.BringFault.TheVariants as brings
use Rattle.vault_turns.specs.Turns.{held_back}

module _ (a b : Contents) (seen : b.seen ≡ a.seen) (tells : b.tells ≡ a.tells) where
  told_too : IsTrue b.tells → IsTrue a.tells
  told_too told = subst (λ (t : Bool). IsTrue t) tells told

  below_too : (number : ℕ) → number < length (captures a.seen) → number < length (captures b.seen)
  below_too number less = subst (λ (k : Book). number < length (captures k)) (sym seen) less

  count_too : (count : ℕ) → count ≡ length (captures a.seen) → count ≡ length (captures b.seen)
  count_too count is = is ∙ ap (λ (k : Book). length (captures k)) (sym seen)

  damaged_too : (kept : List ℕ) (found : Option (List ℕ)) → IsDamaged a.tells kept found → IsDamaged b.tells kept found
  damaged_too kept found is = subst (λ (t : Bool). IsDamaged t kept found) (sym tells) is

  module _ (from : (e : Facts) → Contains b.shown e → Contains a.shown e) where
    pub brings_as : (number : ℕ) (result : Result Brought BringFault) → Brings a number result → Brings b number result
    brings_as number (Ok brought) h = (
      below_too number h.0,
      h.1,
      subst (λ (k : Book). IsNamed k number brought) (sym seen) h.2,
      (λ told.
          let known = h.3 (told_too told) in (
            subst (λ (k : Book). IsBrought k number brought) (sym seen) known.0,
            λ e has same. subst (λ (k : Book). IsEntryOf k number e) (sym seen) (known.1 e (from e has) same),
          )),
      λ e has. h.4 e (from e has),
    )
    brings_as number (Err (brings.NoSuch count)) h = (count_too count h.0, h.1, λ e has. h.2 e (from e has))
    brings_as number (Err brings.DiskFault) h = below_too number h
    brings_as number (Err (brings.Damaged at kept found)) h =
        (below_too number h.0, h.1, subst (λ (k : Book). KeepsPayloadOf k number at) (sym seen) h.2, damaged_too kept found h.3)
    brings_as number (Err brings.Memory) h = tt

    pub gives_as : (number : ℕ) (result : Result (List ℕ) BringFault) → GivesPiece a number result → GivesPiece b number result
    gives_as number (Ok bytes) h = (
      below_too number h.0,
      subst (λ (k : Book). IsShownPiece k b.shown number bytes) (sym seen) (shown_too h.1),
      λ told. subst (λ (k : Book). IsPiece k number bytes) (sym seen) (h.2 (told_too told)),
    )
      where
        shown_too : IsShownPiece a.seen a.shown number bytes → IsShownPiece a.seen b.shown number bytes
        shown_too is = record { piece = is.piece; digest = λ e has. is.digest e (from e has) }
    gives_as number (Err (brings.NoSuch count)) h = (count_too count h.0, h.1, λ e has. h.2 e (from e has))
    gives_as number (Err brings.DiskFault) h = below_too number h
    gives_as number (Err (brings.Damaged at kept found)) h = (below_too number h.0, h.1, damaged_too kept found h.2)
    gives_as number (Err brings.Memory) h = tt

  -- where nothing is said of what is shown
  pub brings_quiet : (number : ℕ) (answer : Result Brought BringFault) → Brings a number answer → Brings b number (held_back false answer)
  brings_quiet number (Ok brought) h = tt
  brings_quiet number (Err (brings.NoSuch count)) h = tt
  brings_quiet number (Err brings.DiskFault) h = below_too number h
  brings_quiet number (Err (brings.Damaged at kept found)) h =
      (below_too number h.0, h.1, subst (λ (k : Book). KeepsPayloadOf k number at) (sym seen) h.2, damaged_too kept found h.3)
  brings_quiet number (Err brings.Memory) h = tt

  pub gives_quiet : (number : ℕ) (answer : Result (List ℕ) BringFault) → GivesPiece a number answer → GivesPiece b number (held_back false answer)
  gives_quiet number (Ok bytes) h = tt
  gives_quiet number (Err (brings.NoSuch count)) h = tt
  gives_quiet number (Err brings.DiskFault) h = below_too number h
  gives_quiet number (Err (brings.Damaged at kept found)) h = (below_too number h.0, h.1, damaged_too kept found h.2)
  gives_quiet number (Err brings.Memory) h = tt

-- ---- what is held back

pub held_fault : {T : Type 0} (answer : Result T BringFault) → is_bring_fault (held_back false answer) ≡ is_bring_fault answer
held_fault (Ok value) = refl
held_fault (Err (brings.NoSuch count)) = refl
held_fault (Err brings.DiskFault) = refl
held_fault (Err (brings.Damaged at kept found)) = refl
held_fault (Err brings.Memory) = refl

pub held_names : (book : Book) (number : ℕ) (answer : Result Brought BringFault) → NamesKeeper book number answer → NamesKeeper book number (held_back false answer)
held_names book number (Ok brought) h = tt
held_names book number (Err (brings.NoSuch count)) h = tt
held_names book number (Err brings.DiskFault) h = tt
held_names book number (Err (brings.Damaged at kept found)) h = h
held_names book number (Err brings.Memory) h = tt

pub held_digests : (book : Book) (number : ℕ) (answer : Result Brought BringFault) → GoesByDigest book number answer → GoesByDigest book number (held_back false answer)
held_digests book number (Ok brought) h = tt
held_digests book number (Err (brings.NoSuch count)) h = tt
held_digests book number (Err brings.DiskFault) h = tt
held_digests book number (Err (brings.Damaged at kept found)) h = h
held_digests book number (Err brings.Memory) h = tt

pub held_piece_digests : (book : Book) (number : ℕ) (answer : Result (List ℕ) BringFault) → PieceGoesByDigest book number answer
    → PieceGoesByDigest book number (held_back false answer)
held_piece_digests book number (Ok bytes) h = tt
held_piece_digests book number (Err (brings.NoSuch count)) h = tt
held_piece_digests book number (Err brings.DiskFault) h = tt
held_piece_digests book number (Err (brings.Damaged at kept found)) h = h
held_piece_digests book number (Err brings.Memory) h = tt
