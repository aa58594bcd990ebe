-- How a comparison ends: full, or with what looking among all captures answers.
use Rattle.std.proofs.Common.{◌≡◌, ℕ, List, Result, Ok, Err, refl, sym, subst}
use Rattle.capture.specs.Captures.{captures}
use Rattle.std.specs.Prelude.{length, ◌<◌, IsErrAnd, OnOk, ⊤}
use Rattle.disk_model.specs.declared.disk.Disk.{Ghosts}
use Rattle.archive_shelf.specs.Answers.{CountsIf}
use Rattle.archive_shelf.specs.Contents.{Contents}
use Rattle.archive_shelf.specs.declared.fault.StoreFault.{StoreFault}
use Rattle.archive_shelf.specs.declared.fault.StoreFault.TheVariants as stores
use Rattle.archive_shelf.specs.declared.looked.Looked.{Looked}
use Rattle.archive_payloads.specs.Choosing.{LooksOn, is_look_fault}
use Rattle.archive_core.specs.Holdings.{Holdings, contents_of}
use Rattle.archive_core.specs.Looking.{Looks, OnlyLooks}
use Rattle.archive_core.specs.Stores.{Admits}

full_looks : (now : Contents) (payload : List ℕ) (fault : StoreFault) → Admits {T = ⊤} now (Err fault) → Looks now payload (Err fault)
full_looks now payload (stores.Full count limit) full = full
full_looks now payload stores.DiskFault full = absurd full
full_looks now payload (stores.Damaged at kept found) full = absurd full
full_looks now payload stores.Memory full = absurd full

-- it is full, which a `?` hands out
pub full_compares : (now : Contents) (payload : List ℕ) (fault : StoreFault) (answer : Result Looked StoreFault)
    → IsErrAnd answer (λ other. other ≡ fault) → Admits {T = ⊤} now (Err fault) → Looks now payload answer
full_compares now payload fault (Ok looked) is full = absurd is
full_compares now payload fault (Err other) is full =
    subst (λ (f : StoreFault). Looks now payload (Err f)) (sym is) (full_looks now payload fault full)

full_counts : (now : Contents) (fault : StoreFault) (faults : ℕ) → Admits {T = ⊤} now (Err fault)
    → CountsIf (is_look_fault {T = Looked} (Err fault)) faults faults
full_counts now (stores.Full count limit) faults full = refl
full_counts now stores.DiskFault faults full = absurd full
full_counts now (stores.Damaged at kept found) faults full = absurd full
full_counts now stores.Memory faults full = absurd full

-- no fault was met then
pub full_steady : (now : Contents) (fault : StoreFault) (answer : Result Looked StoreFault) (faults : ℕ)
    → IsErrAnd answer (λ other. other ≡ fault) → Admits {T = ⊤} now (Err fault) → CountsIf (is_look_fault answer) faults faults
full_steady now fault (Ok looked) faults is full = absurd is
full_steady now fault (Err other) faults is full =
    subst (λ (f : StoreFault). CountsIf (is_look_fault {T = Looked} (Err f)) faults faults) (sym is) (full_counts now fault faults full)

looks_by : (now : Contents) (payload : List ℕ) (answer : Result Looked StoreFault) → length (captures now.seen) < now.limits.captures
    → LooksOn now.tells now.seen payload answer → Looks now payload answer
looks_by now payload (Ok looked) not_full looks = (not_full, looks.0, looks.1)
looks_by now payload (Err (stores.Full count limit)) not_full looks = absurd looks
looks_by now payload (Err stores.DiskFault) not_full looks = not_full
looks_by now payload (Err (stores.Damaged at kept found)) not_full looks = (not_full, looks.0, looks.1)
looks_by now payload (Err stores.Memory) not_full looks = tt

-- it wasn't full before the call that looked
pub looks_after : {D : Type 0} (d : Ghosts D) (was is : Holdings D) (payload : List ℕ) (answer : Result Looked StoreFault) → OnlyLooks d was is
    → length (captures was.book) < was.limits.captures → LooksOn is.told is.book payload answer → Looks (contents_of is) payload answer
looks_after {D} d was is payload answer only not_full looks =
    looks_by (contents_of is) payload answer
    (subst (λ (held : Holdings D). length (captures held.book) < held.limits.captures) (sym only.others) not_full) looks

-- nothing is promised of an answer that a `?` hands out
pub on_no_ok : (fault : StoreFault) (answer : Result Looked StoreFault) (P : Type 0) → IsErrAnd answer (λ other. other ≡ fault) → OnOk answer P
on_no_ok fault (Ok looked) P is = absurd is
on_no_ok fault (Err other) P is = tt
