-- It has no files.
use Rattle.std.proofs.Common.{arith}
use Rattle.folder_disk.proofs.beginning.begin_in.Goals as goal

pub returns-in-Ok-open : goal.returns-in-Ok-open
returns-in-Ok-open g c =
    let new = c.in-Ok-open.ensures.new in (
      (λ told. record { known = c.in-Ok-open.ensures.known told; open_files = c.in-Ok-open.ensures.open }),
      record {
        warc_is = omega (arith, new.warc_is, c.if-counts-ne0.false);
        cdxj_is = omega (arith, new.cdxj_is, c.if-counts-ne0-2.false);
        fresh = new.fresh;
        first = new.first;
      },
    )
