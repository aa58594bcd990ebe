-- What stood on a disk is there to be named, also where the disk doesn't tell.
use Rattle.std.proofs.Common.{◌≡◌, Bool, true, false, IsTrue, refl, sym, ◌∙◌}
use Rattle.std.proofs.lemmas.Bool.{false≢true}
use Rattle.archive_core.specs.Holdings.{Holdings}
use Rattle.archive_core.specs.Lasting.{KeepsStored}
use Rattle.archive_core.specs.Stood.{Stood, none_stood}
use Rattle.archive_reopening.specs.Standing.{KeepsOn, StoodOn}
use Rattle.disk_model.specs.declared.disk.Disk.{Ghosts as Disks}

some_by : {D : Type 0} (disks : Disks D) (was : D) (held : Holdings D) → (IsTrue disks.tells → KeepsOn disks was held) → (tells : Bool) → disks.tells ≡ tells
    → (stood : Stood) × (IsTrue disks.tells → StoodOn disks was stood × KeepsStored disks stood held × (stood.book ≡ held.book))
some_by disks was held keeps true so = ((keeps so).stood, λ tells. ((keeps so).on, (keeps so).keeps, (keeps so).book_is))
some_by disks was held keeps false not_so = (none_stood, λ tells. absurd (false≢true (sym not_so ∙ tells)))

pub some_stood : {D : Type 0} (disks : Disks D) (was : D) (held : Holdings D) → (IsTrue disks.tells → KeepsOn disks was held)
    → (stood : Stood) × (IsTrue disks.tells → StoodOn disks was stood × KeepsStored disks stood held × (stood.book ≡ held.book))
some_stood disks was held keeps = some_by disks was held keeps disks.tells refl
