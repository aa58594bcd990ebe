use Rattle.std.proofs.Common.{refl, sym}
use Rattle.archive_volumes.proofs.entry.entry_of.Goals as goal

pub returns : goal.returns
returns c text h of =
    c.entry_by.ensures c.args.stored.now text h (record { method_is = sym c.as_slice.ensures.value; uri_is = refl; date_is = refl; revisit_is = c.is_revisit.ensures }) of
