-- It is full, or there is no memory, or a fault was met while the disk was read, or a store follows.
use Rattle.std.proofs.Common.{ℕ, List, refl, sym, ap, subst}
use Rattle.std.specs.Prelude.{length, ◌<◌, IfSome}
use Rattle.capture.specs.Captures.{captures}
use Rattle.capture.specs.Payload.{IsPayload}
use Rattle.archive_shelf.specs.declared.looked.Looked.{Looked}
use Rattle.archive_core.specs.Holdings.{Holdings}
use Rattle.archive_core.proofs.AfterLaws.{fault_exit, full_exit, stores_after}
use Rattle.archive_volumes.proofs.ChangeLaws.{DiskLaws}
use Rattle.archive_core.proofs.ExitLaws.{memory_exit}
use Rattle.archive_core.proofs.archive.Archive.store_new.Given.{Over}
use Rattle.archive_core.proofs.PayloadLaws.{has_one}
use Rattle.archive_core.proofs.ReferLaws.{kept_there}
use Rattle.archive_core.proofs.ThereLaws.{receipt_there}
use Rattle.archive_payloads.specs.Choosing.{IsKeptWith}
use Rattle.archive_core.proofs.archive.Archive.store_new.Goals as goal

-- what is asked of the disk
disk_laws : (g : Over) → DiskLaws g.D.Disk
disk_laws g = record { earlier = g.met.D.Disk.earlier; now_counts = g.met.D.Disk.now_counts; now_only = g.met.D.Disk.now_only }

pub returns-in_err-check_room-clause-stores : goal.returns-in_err-check_room-clause-stores
returns-in_err-check_room-clause-stores g c =
    full_exit g.D.Disk (disk_laws g) c.args.self.now c.args.taken.now c.in_err-check_room.field-0.0 c.from_residual.result c.from_residual.ensures.1
    c.in_err-check_room.ensures

pub returns-in_err-framing-clause-stores : goal.returns-in_err-framing-clause-stores
returns-in_err-framing-clause-stores g c =
    memory_exit g.D.Disk c.args.self.now c.args.self.now refl refl refl refl refl refl refl c.args.taken.now c.from_residual-in_err-framing.result
    c.from_residual-in_err-framing.ensures.1

pub same_by-requires-clause-digest : goal.same_by-requires-clause-digest
same_by-requires-clause-digest g c payload has =
    let taken = c.args.taken.now in
    c.digest_of_wire-digest.ensures taken.cut payload
    (subst (λ (w : List ℕ). IsPayload taken.cut c.in_ok-framing.framing w payload) (sym c.as_slice.ensures) (c.in_ok-framing.ensures.needs payload has))

pub same_by-requires-clause-right : goal.same_by-requires-clause-right
same_by-requires-clause-right g c payload has = c.none.ensures.right c.args.self.now.told c.args.self.now.book payload

pub returns-in_err-same-clause-stores : goal.returns-in_err-same-clause-stores
returns-in_err-same-clause-stores g c =
    fault_exit g.D.Disk (disk_laws g) c.args.self.now c.same_by.new.self c.args.taken.now c.in_err-same.field-0.0 c.from_residual-in_err-same.result
    c.from_residual-in_err-same.ensures.1 c.in_err-same.ensures.looks c.in_ok-check_room.ensures c.in_err-same.ensures.refers
    c.in_err-same.ensures.faults

pub store_compared-requires-clause-not_full : goal.store_compared-requires-clause-not_full
store_compared-requires-clause-not_full g c =
    subst (λ (held : Holdings _). length (captures held.book) < held.limits.captures) (sym c.in_ok-same.ensures.looks.others) c.in_ok-check_room.ensures

pub store_compared-requires-clause-digest : goal.store_compared-requires-clause-digest
store_compared-requires-clause-digest g c payload has =
    let taken = c.args.taken.now in
    c.digest_of_wire-digest.ensures taken.cut payload
    (subst (λ (w : List ℕ). IsPayload taken.cut c.in_ok-framing.framing w payload) (sym c.as_slice.ensures) (c.in_ok-framing.ensures.needs payload has))

pub store_compared-requires-clause-kept : goal.store_compared-requires-clause-kept
store_compared-requires-clause-kept g c =
    let taken = c.args.taken.now in
    let same = c.in_ok-same.same in
    let digest = c.digest_of_wire-digest.result in
    let there = has_one c.wires_have_one_payload.ensures.whole c.wires_have_one_payload.ensures.cut taken c.requires.fits in
    subst (λ (held : Holdings _). IfSome same (IsKeptWith held.spots digest)) (sym c.in_ok-same.ensures.looks.others)
    (kept_there g.D.Disk c.args.self.now taken there.payload digest same there.has (store_compared-requires-clause-digest g c)
    (c.in_ok-same.ensures.there (ap (λ (l : Looked). l.same) c.none.ensures.value)))

pub returns-clause-stores : goal.returns-clause-stores
returns-clause-stores g c =
    stores_after g.D.Disk (disk_laws g) c.args.self.now c.same_by.new.self c.store_compared.new.self c.args.taken.now c.store_compared.result
    c.in_ok-same.ensures.looks c.in_ok-same.ensures.faults c.store_compared.ensures.stores

pub returns-clause-there : goal.returns-clause-there
returns-clause-there g c =
    receipt_there g.D.Disk c.args.self.now c.args.taken.now c.in_ok-same.same c.store_compared.result c.store_compared.ensures.same
    (c.in_ok-same.ensures.there (ap (λ (l : Looked). l.same) c.none.ensures.value))
