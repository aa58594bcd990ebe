-- What is found has the payload as bytes stand in the volumes, from the comparison up to the receipt.
use Rattle.std.proofs.Common.{◌≡◌, ℕ, List, IsTrue, Option, Some, None, Result, Ok, Err, sym, subst}
use Rattle.std.specs.Prelude.{IfOk, IfSome}
use Rattle.sha1.specs.Sha1.{sha1}
use Rattle.capture.specs.declared.captured.Taken.{Taken}
use Rattle.disk_model.specs.declared.disk.Disk.{Ghosts}
use Rattle.warc_journal.specs.Journals.{texts}
use Rattle.archive_shelf.specs.declared.fault.StoreFault.{StoreFault}
use Rattle.archive_shelf.specs.declared.looked.Looked.{Looked}
use Rattle.archive_shelf.specs.declared.receipt.Receipt.{Receipt}
use Rattle.archive_payloads.specs.Choosing.{IsKeptWith}
use Rattle.archive_reading.specs.Rereading.{IsChosenThere}
use Rattle.archive_core.specs.Holdings.{Holdings}
use Rattle.archive_core.specs.Looking.{IsFoundThere, RefersThere}
use Rattle.archive_core.proofs.MatchLaws.{Has}

module _ {D : Type 0} (d : Ghosts D) (held : Holdings D) where
  found_by : (payload : List ℕ) (same : Option ℕ) → IfSome same (IsKeptWith held.spots (sha1 payload))
      → (IsTrue d.tells → IfSome same (IsChosenThere (texts d held.journal) held.book.namespace held.spots payload)) → IfSome same (IsFoundThere d held payload)
  found_by payload None kept there = tt
  found_by payload (Some number) kept there = record { kept = kept; there = there }

  -- what looking among the captures has found
  pub found_there : (payload : List ℕ) (r : Result Looked StoreFault) → IfOk r (λ now. IfSome now.same (IsKeptWith held.spots (sha1 payload)))
      → (IsTrue d.tells → IfOk r (λ now. IfSome now.same (IsChosenThere (texts d held.journal) held.book.namespace held.spots payload)))
      → IfOk r (λ now. IfSome now.same (IsFoundThere d held payload))
  found_there payload (Ok now) kept there = found_by payload now.same kept there
  found_there payload (Err fault) kept there = tt

  module _ (taken : Taken) where
    -- what a new capture may refer to
    pub refers_there : (r : Result (Option ℕ) StoreFault) → ((payload : List ℕ) → Has taken payload → IfOk r (λ same. IfSome same (IsFoundThere d held payload)))
        → IfOk r (RefersThere d held taken)
    refers_there (Ok same) all = all
    refers_there (Err fault) all = tt

    -- what its receipt tells
    pub receipt_there : (same : Option ℕ) (r : Result Receipt StoreFault) → IfOk r (λ receipt. receipt.same_as ≡ same) → RefersThere d held taken same
        → IfOk r (λ receipt. RefersThere d held taken receipt.same_as)
    receipt_there same (Ok receipt) is there = subst (RefersThere d held taken) (sym is) there
    receipt_there same (Err fault) is there = tt
