-- Where the taking of a source's pieces leads.
use Rattle.std.proofs.Common.{◌≡◌, ◌⊎◌, ℕ, ◌+◌, Bool, true, List, length, Option, Result, Ok, Err, sym, ap, subst, ◌∙◌, inl, inr, ⊎_elim, arith}
use Rattle.std.proofs.lemmas.Bool.{false≢true}
use Rattle.capture.proofs.GrowthLaws.{growth_goes_on}
use Rattle.capture.specs.Captures.{captures}
use Rattle.capture.specs.Growth.{Grows}
use Rattle.capture.specs.declared.book.Book.{Book}
use Rattle.capture.specs.declared.captured.Stored.{Stored}
use Rattle.disk_model.specs.declared.disk.Disk.{Ghosts}
use Rattle.warc_journal.specs.Journals.{disk_of}
use Rattle.warc_text.specs.Groups.{IdsDiffer}
use Rattle.archive_shelf.proofs.CallLaws.{no_more}
use Rattle.archive_shelf.proofs.StoringLaws.{capture_grows}
use Rattle.archive_shelf.specs.Contents.{Contents}
use Rattle.archive_shelf.specs.Openings.{HasIds, Moves, SameBook}
use Rattle.archive_shelf.specs.Storing.{with_capture}
use Rattle.archive_shelf.specs.Told.{WritesNothing}
use Rattle.archive_gathering.specs.Noting.{referring}
use Rattle.archive_pieces.specs.NextPieces.{LeadsOn, NextPiecesLeadOn, Takes}
use Rattle.archive_pieces.specs.PieceParts.{room_by}
use Rattle.archive_pieces.specs.declared.fault.PieceFault.{PieceFault}
use Rattle.archive_pieces.specs.declared.fault.PieceFault.TheVariants as pieces
use Rattle.archive_volumes.specs.Volumes.{crash_of, muted}
use Rattle.archive_volumes.specs.Writing.{Writes, books_as}
use Rattle.archive_core.specs.Holdings.{Holdings, contents_of}
use Rattle.archive_taking.specs.TakingPieces.{HasTaken, IsNextOf, IsNotRefused, IsUntaken, StaysBeginning, TakenPiecesLeadOn, TakesPiece}
use Rattle.archive_core.specs.Told.{told_of}
use Rattle.archive_taking.specs.steps.Taking.{disk_failed, took}

module _ {D : Type 0} (d : Ghosts D) (leads : NextPiecesLeadOn) (was is : Holdings D) (source : Book) (bytes : List ℕ) (next : IsNextOf was source bytes) where
  lead : LeadsOn was.book source bytes
  lead = leads was.book source bytes next.sound next.grown next.more next.piece

  -- the source has grown from any book that takes the piece
  grown_from : (after : Book) → Takes was.book bytes after → Grows after source
  grown_from after takes = subst (λ (b : Book). Grows b source) (sym (lead.only next.ids after takes)) lead.grown

  -- the ids of the book's responses differ, and that of one more
  ids_here : HasIds was.book
  ids_here =
      subst (λ (n : List ℕ). IdsDiffer n (length (captures was.book) + 1)) next.grown.namespace
      (λ m n less_m less_n same. next.ids m n (omega (arith, less_m, next.more)) (omega (arith, less_n, next.more)) same)

  -- nothing was written
  stays_by : is.book ≡ was.book → WritesNothing true (told_of d was) (told_of d is) → StaysBeginning d was is source
  stays_by same none = record {
    seen = subst (λ (b : Book). Grows b source) (sym same) next.grown;
    opened = λ t x le o. inl (no_more (none.crash.moves t x le o));
  }

  -- a capture was written, or refused by the disk
  stays_on : {T E : Type 0} (begins : Option ℕ) (stored : Stored) (result : Result T E) → is.told ≡ was.told
      → Takes was.book bytes (with_capture (room_by was.book begins) stored)
      → Writes {T = T} {E = E} (muted was.told d) (disk_of was.journal) (disk_of is.journal) (books_as was.book (room_by was.book begins)
      (with_capture (room_by was.book begins) stored) is.book) result
      → Grows is.book source → StaysBeginning d was is source
  stays_on begins stored result told takes writes seen =
      let room : Book = room_by was.book begins in
      let after : Book = with_capture room stored in
      let from_after : Grows after source = grown_from after takes in
      let from_room : Grows room source = growth_goes_on room after source (capture_grows room stored) from_after in
      record {
        seen = seen;
        opened = λ t x le o. ⊎_elim
            (λ before. inl before)
            (λ which. inr (⊎_elim
            (λ (same : SameBook x was.book). inl same)
            (λ new. inr (⊎_elim
            (λ (e : x ≡ room). subst (λ (b : Book). Grows b source) (sym e) from_room)
            (λ (e : x ≡ after). subst (λ (b : Book). Grows b source) (sym e) from_after)
            new))
            which))
            (writes.moves ids_here t x le (subst (λ (b : Bool). (crash_of (muted b d) (disk_of is.journal)).openings t x) told o));
      }

  told_by : contents_of is ≡ record (contents_of was) { seen = is.book } → is.told ≡ was.told
  told_by others = ap (λ (c : Contents). c.tells) others

  taken_stays : (number : ℕ) → HasTaken d was is bytes number → StaysBeginning d was is source
  taken_stays number t =
      let stored : Stored = referring t.group.stored t.first in
      let takes : Takes was.book bytes is.book = t.takes next.told in
      let told : is.told ≡ was.told = ap (λ (c : Contents). c.tells) t.put.others in
      stays_on t.begins stored (took number) told
      (subst (λ (b : Book). Takes was.book bytes b) t.put.book takes)
      (subst (λ (b : Book). Writes (muted was.told d) (disk_of was.journal) (disk_of is.journal) (books_as was.book (room_by was.book t.begins) b is.book) (took number))
      t.put.book t.put.writes)
      (grown_from is.book takes)

  untaken_stays : IsUntaken d was is bytes → StaysBeginning d was is source
  untaken_stays u =
      let stored : Stored = referring u.group.stored u.first in
      let room : Book = room_by was.book u.begins in
      let takes : Takes was.book bytes (with_capture room stored) = u.takes next.told in
      let from_room : Grows room source = growth_goes_on room (with_capture room stored) source (capture_grows room stored) (grown_from (with_capture room stored) takes) in
      stays_on u.begins stored disk_failed (told_by u.unput.others) takes u.unput.writes
      (⊎_elim
      (λ (same : is.book ≡ was.book). subst (λ (b : Book). Grows b source) (sym same) next.grown)
      (λ (more : is.book ≡ room). subst (λ (b : Book). Grows b source) (sym more) from_room)
      u.unput.left)

  leads_by : (result : Result ℕ PieceFault) → TakesPiece d was is bytes result → IsNotRefused result × StaysBeginning d was is source
  leads_by (Ok number) t = (tt, taken_stays number t.leaves.1)
  leads_by (Err (pieces.Full count limit)) t = (
    tt,
    record {
      seen = subst (λ (h : Holdings D). Grows h.book source) (sym t.leaves.3) next.grown;
      opened = subst (λ (h : Holdings D). Moves (told_of d was).crash (told_of d h).crash (λ x. SameBook x was.book ⊎ Grows x source)) (sym t.leaves.3)
          (λ moment x le o. inl o);
    },
  )
  leads_by (Err pieces.NotAPiece) t = absurd (t.leaves.2 next.told lead.next lead.takes)
  leads_by (Err pieces.DiskFault) t = (
    tt,
    ⊎_elim
        (λ looks. stays_by (ap (λ (h : Holdings D). h.book) looks.others) looks.unwritten)
        (λ untaken. untaken_stays untaken)
        t.leaves.1,
  )
  leads_by (Err (pieces.Damaged number kept found)) t = absurd (false≢true (sym t.leaves.3.untold ∙ next.told))
  leads_by (Err pieces.Memory) t = (tt, stays_by (ap (λ (c : Contents). c.seen) t.leaves.0) t.leaves.3)

pub taken_pieces : {D : Type 0} (d : Ghosts D) → NextPiecesLeadOn → TakenPiecesLeadOn d
taken_pieces d leads was is source bytes result next takes = leads_by d leads was is source bytes next result takes
