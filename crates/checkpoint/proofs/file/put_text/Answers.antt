use Rattle.checkpoint.proofs.PuttingLaws.{puts_after}
use Rattle.checkpoint.proofs.file.put_text.Goals as goal

pub returns-clause-puts : goal.returns-clause-puts
returns-clause-puts g c told =
    puts_after g.D.Disk c.args.volume c.args.text.now g.met.D.Disk.now_counts g.met.D.Disk.now_only c.args.disk.now c.make_file.new.disk c.write_file.new.disk
    (c.make_file.ensures.makes told) (c.write_file.ensures.puts told)
