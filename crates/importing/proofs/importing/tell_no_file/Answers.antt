-- The place at which no record stands, or want of memory.
use Rattle.std.proofs.Common.{refl, subst, inl, inr}
use Rattle.command.specs.Printing.{printed_as}
use Rattle.importing.proofs.ImportLaws.{broke_off}
use Rattle.importing.proofs.importing.tell_no_file.Goals as goal
use Rattle.warc_reader.specs.Files.{IsFileFault}

pub returns-in-Ok : goal.returns-in-Ok
returns-in-Ok g c file stored refused is =
    inr (inl (record {
      at = c.in-NotARecord.at;
      none = subst (IsFileFault file) c.in-NotARecord.is is;
      nothing = refl;
      told = rw c.in-Ok.ensures at (rw c.as_slice.ensures.value at c.print_as.ensures);
    }))

pub returns-in-Err : goal.returns-in-Err
returns-in-Err g c file stored refused is =
    broke_off g.O.Sink file stored refused (printed_as c.args.out.now c.args.out.now _) (record { status_is = refl; same = refl })

pub returns-in-Memory : goal.returns-in-Memory
returns-in-Memory g c file stored refused is = broke_off g.O.Sink file stored refused (printed_as c.args.out.now c.args.out.now _) (record { status_is = refl; same = refl })
