use Rattle.std.proofs.Common.{◌∙◌}
use Rattle.std.proofs.lemmas.Result.{on_ok_weaker}
use Rattle.cdxj_line.proofs.FileNames.{name_put}
use Rattle.cdxj_line.proofs.file_name.put_file_name.Goals as goal

pub returns : goal.returns
returns c =
    on_ok_weaker c.put_all-4.result (λ last.
    name_put c.args.volume c.args.out.now.items c.put_all.new.out.items c.put_all-2.new.out.items c.put_all-3.new.out.items c.put_all-4.new.out.items c.zeros_before.result.now c.as_bytes-digits.result.now
    c.ranges.volume.fits (c.as_bytes-digits.ensures.value ∙ c.format.ensures.text) c.zeros_before.ensures c.in_ok-put_all.ensures c.in_ok-put_all-2.ensures c.in_ok-put_all-3.ensures last)
    c.put_all-4.ensures
