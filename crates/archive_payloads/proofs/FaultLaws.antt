-- What is said of the faults of the disk and of memory that a `?` hands out.
use Rattle.std.proofs.Common.{◌≡◌, ℕ, Bool, Some, None, Result, Ok, Err, IsErr, sym, subst}
use Rattle.std.specs.Prelude.{IfOk, IsErrAnd}
use Rattle.std.proofs.lemmas.Bool.{false≢true}
use Rattle.archive_shelf.specs.Answers.{CountsIf, is_bring_fault}
use Rattle.archive_shelf.specs.declared.fault.BringFault.{BringFault}
use Rattle.archive_shelf.specs.declared.fault.BringFault.TheVariants as brings
use Rattle.archive_shelf.specs.declared.fault.StoreFault.{StoreFault}
use Rattle.archive_shelf.specs.declared.fault.StoreFault.TheVariants as stores
use Rattle.archive_reading.specs.Bringing.{bring_fault_of, is_read_fault, store_fault_of}
use Rattle.archive_reading.specs.declared.part.ReadFault.{ReadFault}
use Rattle.archive_reading.specs.declared.part.ReadFault.TheVariants as reads
use Rattle.archive_payloads.specs.Choosing.{is_look_fault}

-- what is known of what succeeds says nothing of a refusal
pub not_done : {T E : Type 0} (P : T → Type 0) (answer : Result T E) → IsErr answer → IfOk answer P
not_done P (Ok value) failed = absurd (false≢true failed)
not_done P (Err fault) failed = tt

pub not_some : {A : Type 0} (x : A) → Some x ≡ None → ⊥
not_some x e = cc

-- ---- counts of faults

-- a call behind one that met no fault
pub counts_behind : (failed : Bool) (before mid now : ℕ) → mid ≡ before → CountsIf failed mid now → CountsIf failed before now
counts_behind failed before mid now same counts = subst (λ (n : ℕ). CountsIf failed n now) same counts

bring_of : (T U : Type 0) (before now : ℕ) (fault : ReadFault) → CountsIf (is_read_fault {T = T} (Err fault)) before now
    → CountsIf (is_bring_fault {T = U} (Err (bring_fault_of fault))) before now
bring_of T U before now reads.DiskFault counts = counts
bring_of T U before now reads.Memory counts = counts

pub read_brought : (T U : Type 0) (before now : ℕ) (fault : ReadFault) (answer : Result U BringFault) → IsErrAnd answer (λ other. other ≡ bring_fault_of fault)
    → CountsIf (is_read_fault {T = T} (Err fault)) before now → CountsIf (is_bring_fault answer) before now
read_brought T U before now fault (Ok value) is counts = absurd is
read_brought T U before now fault (Err other) is counts =
    subst (λ (f : BringFault). CountsIf (is_bring_fault {T = U} (Err f)) before now) (sym is) (bring_of T U before now fault counts)

looked_of : (T U : Type 0) (before now : ℕ) (fault : ReadFault) → CountsIf (is_read_fault {T = T} (Err fault)) before now
    → CountsIf (is_look_fault {T = U} (Err (store_fault_of fault))) before now
looked_of T U before now reads.DiskFault counts = counts
looked_of T U before now reads.Memory counts = counts

pub read_looked : (T U : Type 0) (before now : ℕ) (fault : ReadFault) (answer : Result U StoreFault) → IsErrAnd answer (λ other. other ≡ store_fault_of fault)
    → CountsIf (is_read_fault {T = T} (Err fault)) before now → CountsIf (is_look_fault answer) before now
read_looked T U before now fault (Ok value) is counts = absurd is
read_looked T U before now fault (Err other) is counts =
    subst (λ (f : StoreFault). CountsIf (is_look_fault {T = U} (Err f)) before now) (sym is) (looked_of T U before now fault counts)

-- the same fault, of another answer
read_of : (T U : Type 0) (before now : ℕ) (fault : ReadFault) → CountsIf (is_read_fault {T = T} (Err fault)) before now
    → CountsIf (is_read_fault {T = U} (Err fault)) before now
read_of T U before now reads.DiskFault counts = counts
read_of T U before now reads.Memory counts = counts

pub read_on : (T U : Type 0) (before now : ℕ) (fault : ReadFault) (answer : Result U ReadFault) → IsErrAnd answer (λ other. other ≡ fault)
    → CountsIf (is_read_fault {T = T} (Err fault)) before now → CountsIf (is_read_fault answer) before now
read_on T U before now fault (Ok value) is counts = absurd is
read_on T U before now fault (Err other) is counts =
    subst (λ (f : ReadFault). CountsIf (is_read_fault {T = U} (Err f)) before now) (sym is) (read_of T U before now fault counts)

same_of : (T U : Type 0) (before now : ℕ) (fault : StoreFault) → CountsIf (is_look_fault {T = T} (Err fault)) before now
    → CountsIf (is_look_fault {T = U} (Err fault)) before now
same_of T U before now (stores.Full count limit) counts = counts
same_of T U before now stores.DiskFault counts = counts
same_of T U before now (stores.Damaged at kept found) counts = counts
same_of T U before now stores.Memory counts = counts

pub looked_on : (T U : Type 0) (before now : ℕ) (fault : StoreFault) (answer : Result U StoreFault) → IsErrAnd answer (λ other. other ≡ fault)
    → CountsIf (is_look_fault {T = T} (Err fault)) before now → CountsIf (is_look_fault answer) before now
looked_on T U before now fault (Ok value) is counts = absurd is
looked_on T U before now fault (Err other) is counts =
    subst (λ (f : StoreFault). CountsIf (is_look_fault {T = U} (Err f)) before now) (sym is) (same_of T U before now fault counts)

-- ---- what holds of both faults

read_exit_of : (T : Type 0) (P : Result T BringFault → Type 0) (fault : ReadFault) → P (Err brings.DiskFault) → P (Err brings.Memory) → P (Err (bring_fault_of fault))
read_exit_of T P reads.DiskFault disk memory = disk
read_exit_of T P reads.Memory disk memory = memory

pub read_exit : (T : Type 0) (P : Result T BringFault → Type 0) (fault : ReadFault) (answer : Result T BringFault) → IsErrAnd answer (λ other. other ≡ bring_fault_of fault)
    → P (Err brings.DiskFault) → P (Err brings.Memory) → P answer
read_exit T P fault (Ok value) is disk memory = absurd is
read_exit T P fault (Err other) is disk memory = subst (λ (f : BringFault). P (Err f)) (sym is) (read_exit_of T P fault disk memory)

look_exit_of : (T : Type 0) (P : Result T StoreFault → Type 0) (fault : ReadFault) → P (Err stores.DiskFault) → P (Err stores.Memory) → P (Err (store_fault_of fault))
look_exit_of T P reads.DiskFault disk memory = disk
look_exit_of T P reads.Memory disk memory = memory

pub look_exit : (T : Type 0) (P : Result T StoreFault → Type 0) (fault : ReadFault) (answer : Result T StoreFault) → IsErrAnd answer (λ other. other ≡ store_fault_of fault)
    → P (Err stores.DiskFault) → P (Err stores.Memory) → P answer
look_exit T P fault (Ok value) is disk memory = absurd is
look_exit T P fault (Err other) is disk memory = subst (λ (f : StoreFault). P (Err f)) (sym is) (look_exit_of T P fault disk memory)
