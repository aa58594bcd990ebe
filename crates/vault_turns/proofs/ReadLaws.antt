-- Turns that only read.
use Rattle.std.proofs.Common.{◌≡◌, ℕ, ◌<◌, ◌≤◌, Bool, true, false, IsTrue, List, ◌++◌, length, Result, Ok, Err, refl, sym, ap, subst, ◌∙◌}
use Rattle.std.specs.Prelude.{Contains}
use Rattle.capture.specs.Captures.{captures}
use Rattle.capture.specs.declared.book.Book.{Book}
use Rattle.capture.specs.declared.captured.Brought.{Brought}
use Rattle.capture.specs.declared.limits.Limits.{Limits}
use Rattle.index_entry.specs.Facts.{Facts}
use Rattle.disk_model.specs.declared.disk.Disk.{Ghosts}
use Rattle.warc_journal.specs.Journals.{disk_of}
use Rattle.warc_text.specs.Sound.{IsSound}
use Rattle.archive_shelf.specs.Answers.{Brings, CountsIf, NamesKeeper, is_bring_fault}
use Rattle.archive_shelf.specs.Comparing.{IsRight}
use Rattle.archive_shelf.specs.Digests.{GoesByDigest, PieceGoesByDigest}
use Rattle.archive_shelf.specs.Pieces.{GivesPiece}
use Rattle.archive_shelf.specs.declared.fault.BringFault.{BringFault}
use Rattle.archive_shelf.specs.declared.fault.StoreFault.{StoreFault}
use Rattle.archive_shelf.specs.declared.fault.StoreFault.TheVariants as stores
use Rattle.archive_shelf.specs.declared.looked.Looked.{Looked}
use Rattle.archive_payloads.specs.Choosing.{is_look_fault}
use Rattle.archive_core.specs.Holdings.{Holdings, contents_of}
use Rattle.archive_core.specs.Looking.{Looks}
use Rattle.archive_index.specs.Shown.{numbered}
use Rattle.history_lock.specs.Seen.{Adds, All}
use Rattle.vault_turns.specs.Guarded.{Stands}
use Rattle.vault_turns.specs.History.{by_of, is_told, showing, told_book, told_in, told_limits}
use Rattle.vault_turns.specs.Noting.{failing}
use Rattle.vault_turns.specs.Own.{AreCounted}
use Rattle.vault_turns.specs.Turns.{AddsFaultAlone, BringsIt, Compares, GivesIt}
use Rattle.vault_turns.specs.declared.noted.Noted.{Noted}
use Rattle.vault_turns.proofs.AnswerLaws.{brings_as, gives_as}
use Rattle.vault_turns.proofs.FaultLaws.{read_counted}
use Rattle.vault_turns.proofs.HistoryLaws.{as_told, begun_append, limits_append, told_append, told_stays}

-- ---- what a fault adds

adds_fault : (by : ℕ) (failed : Bool) → AddsFaultAlone failed (failing by failed)
adds_fault by true = refl
adds_fault by false = refl

all_failing : (by : ℕ) (failed : Bool) → All (λ (n : Noted). n.by ≡ by) (failing by failed)
all_failing by true = (refl, tt)
all_failing by false = tt

module _ {D : Type 0} (d : Ghosts D) (by : ℕ) (history : List Noted) (was is : Holdings D) (stands : Stands history was)
    (counted : AreCounted history (d.faults (disk_of was.journal))) (book_is : is.book ≡ was.book) (limits_is : is.limits ≡ was.limits) (told_is : is.told ≡ was.told) where
  to : is.book ≡ told_book history
  to = book_is ∙ stands.book

  limits_to : is.limits ≡ told_limits history
  limits_to = limits_is ∙ stands.limits

  told_to : is.told ≡ is_told history
  told_to = told_is ∙ stands.told

  told_then : (failed : Bool) → told_book (history ++ failing by failed) ≡ told_book history
  told_then true = told_append history (failing by true) stands.begun
  told_then false = told_append history (failing by false) stands.begun

  read_stands : (failed : Bool) → Stands (history ++ failing by failed) is
  read_stands failed = record {
    begun = begun_append history (failing by failed) stands.begun;
    book = to ∙ sym (told_then failed);
    limits = limits_to ∙ sym (limits_append history (failing by failed) stands.begun);
    told = told_to ∙ sym (told_stays history (failing by failed) stands.begun);
  }

  looks_told : (tells : Bool) (payload : List ℕ) (result : Result Looked StoreFault) → Looks (as_told tells is) payload result
      → Looks (told_in tells history) payload result
  looks_told tells payload (Ok looked) h = (
    subst (λ (l : Limits). length (captures (told_book history)) < l.captures) limits_to
        (subst (λ (b : Book). length (captures b) < is.limits.captures) to h.0),
    subst (λ (b : Book). IsRight tells b payload looked) to h.1,
    h.2 ∙ ap (λ (b : Book). length (captures b)) to,
  )
  looks_told tells payload (Err (stores.Full count limit)) h = (
    subst (λ (l : Limits). l.captures ≤ length (captures (told_book history))) limits_to
        (subst (λ (b : Book). is.limits.captures ≤ length (captures b)) to h.0),
    h.1 ∙ ap (λ (b : Book). length (captures b)) to,
    h.2 ∙ ap (λ (l : Limits). l.captures) limits_to,
  )
  looks_told tells payload (Err stores.DiskFault) h =
      subst (λ (l : Limits). length (captures (told_book history)) < l.captures) limits_to
      (subst (λ (b : Book). length (captures b) < is.limits.captures) to h)
  looks_told tells payload (Err (stores.Damaged at kept found)) h = (
    subst (λ (l : Limits). length (captures (told_book history)) < l.captures) limits_to
        (subst (λ (b : Book). length (captures b) < is.limits.captures) to h.0),
    subst (λ (b : Book). at < length (captures b)) to h.1,
    h.2,
  )
  looks_told tells payload (Err stores.Memory) h = tt

  sound_then : (failed : Bool) → (IsTrue is.told → IsSound is.book) → IsTrue (is_told history) → IsSound (told_book (history ++ failing by failed))
  sound_then failed sound told =
      subst IsSound (to ∙ sym (told_then failed)) (sound (subst (λ (t : Bool). IsTrue t) (sym told_to) told))

  -- what a turn leaves that read, and failed or didn't
  left_by : (failed : Bool) (after : List Noted) (then : List Noted → Type 0) → after ≡ history ++ failing by failed
      → CountsIf failed (d.faults (disk_of was.journal)) (d.faults (disk_of is.journal)) → then (failing by failed)
      → (Stands after is × AreCounted after (d.faults (disk_of is.journal))) × Adds by_of by history after then
  left_by failed after then joined counts done = (
    (
      subst (λ (l : List Noted). Stands l is) (sym joined) (read_stands failed),
      read_counted by history after failed (d.faults (disk_of was.journal)) (d.faults (disk_of is.journal)) stands.begun joined counts counted,
    ),
    record { added = failing by failed; is_before_and_added = joined; of_pass = all_failing by failed; done = done },
  )

  module _ (number : ℕ) (after : List Noted) where
    -- a turn that brought a capture, or failed to
    pub all_brought : (result : Result Brought BringFault) → after ≡ history ++ failing by (is_bring_fault result)
        → CountsIf (is_bring_fault result) (d.faults (disk_of was.journal)) (d.faults (disk_of is.journal))
        → Brings (contents_of is) number result → NamesKeeper is.book number result → GoesByDigest is.book number result → (IsTrue is.told → IsSound is.book)
        → (Stands after is × AreCounted after (d.faults (disk_of is.journal)))
        × Adds by_of by history after (λ added. BringsIt (is_told history) (numbered is.index) number history added result)
    all_brought result joined counts brought names digests sound =
        left_by (is_bring_fault result) after (λ added. BringsIt (is_told history) (numbered is.index) number history added result) joined counts (record {
          brings = brings_as (contents_of is) (showing (numbered is.index) (is_told history) history) (sym to) (sym told_to) (λ e has. has) number result brought;
          names = subst (λ (b : Book). NamesKeeper b number result) to names;
          digests = subst (λ (b : Book). GoesByDigest b number result) to digests;
          adds = adds_fault by (is_bring_fault result);
          sound = sound_then (is_bring_fault result) sound;
        })

    -- a turn that gave a capture as a piece, or failed to
    pub all_given : (result : Result (List ℕ) BringFault) → after ≡ history ++ failing by (is_bring_fault result)
        → CountsIf (is_bring_fault result) (d.faults (disk_of was.journal)) (d.faults (disk_of is.journal))
        → GivesPiece (contents_of is) number result → PieceGoesByDigest is.book number result → (IsTrue is.told → IsSound is.book)
        → (Stands after is × AreCounted after (d.faults (disk_of is.journal)))
        × Adds by_of by history after (λ added. GivesIt (is_told history) (numbered is.index) number history added result)
    all_given result joined counts given digests sound =
        left_by (is_bring_fault result) after (λ added. GivesIt (is_told history) (numbered is.index) number history added result) joined counts (record {
          gives = gives_as (contents_of is) (showing (numbered is.index) (is_told history) history) (sym to) (sym told_to) (λ e has. has) number result given;
          digests = subst (λ (b : Book). PieceGoesByDigest b number result) to digests;
          adds = adds_fault by (is_bring_fault result);
          sound = sound_then (is_bring_fault result) sound;
        })

  -- a turn that looked for a payload, or failed to
  pub all_compared : (payload : List ℕ) (after : List Noted) (result : Result Looked StoreFault) → after ≡ history ++ failing by (is_look_fault result)
      → CountsIf (is_look_fault result) (d.faults (disk_of was.journal)) (d.faults (disk_of is.journal))
      → Looks (contents_of is) payload result → (IsTrue is.told → IsSound is.book)
      → (Stands after is × AreCounted after (d.faults (disk_of is.journal)))
      × Adds by_of by history after (λ added. Compares (is_told history) payload history added result)
  all_compared payload after result joined counts looked sound =
      left_by (is_look_fault result) after (λ added. Compares (is_told history) payload history added result) joined counts (record {
        looks = looks_told (is_told history) payload result (subst (λ (t : Bool). Looks (as_told t is) payload result) told_to looked);
        adds = adds_fault by (is_look_fault result);
        sound = sound_then (is_look_fault result) sound;
      })

-- where fewer entries are shown
module _ (by : ℕ) (before after : List Noted) (tells : Bool) (more fewer : List Facts) (from : (e : Facts) → Contains fewer e → Contains more e) (number : ℕ) where
  adds_as : (P Q : List Noted → Type 0) → ((added : List Noted) → P added → Q added) → Adds by_of by before after P → Adds by_of by before after Q
  adds_as P Q so adds = record {
    added = adds.added;
    is_before_and_added = adds.is_before_and_added;
    of_pass = adds.of_pass;
    done = so adds.added adds.done;
  }

  pub adds_brought : (answer : Result Brought BringFault) → Adds by_of by before after (λ added. BringsIt tells more number before added answer)
      → Adds by_of by before after (λ added. BringsIt tells fewer number before added answer)
  adds_brought answer =
      adds_as (λ added. BringsIt tells more number before added answer) (λ added. BringsIt tells fewer number before added answer) (λ added h. record {
        brings = brings_as (showing more tells before) (showing fewer tells before) refl refl from number answer h.brings;
        names = h.names;
        digests = h.digests;
        adds = h.adds;
        sound = h.sound;
      })

  pub adds_given : (answer : Result (List ℕ) BringFault) → Adds by_of by before after (λ added. GivesIt tells more number before added answer)
      → Adds by_of by before after (λ added. GivesIt tells fewer number before added answer)
  adds_given answer =
      adds_as (λ added. GivesIt tells more number before added answer) (λ added. GivesIt tells fewer number before added answer) (λ added h. record {
        gives = gives_as (showing more tells before) (showing fewer tells before) refl refl from number answer h.gives;
        digests = h.digests;
        adds = h.adds;
        sound = h.sound;
      })
