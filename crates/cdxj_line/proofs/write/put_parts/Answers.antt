use Rattle.std.proofs.Common.{false, codes}
use Rattle.std.proofs.lemmas.Result.{on_ok_weaker}
use Rattle.time_text.specs.Texts.{time_digits}
use Rattle.cdxj_line.specs.Lines.{line_text, object_text}
use Rattle.cdxj_line.specs.Parts.{line_of}
use Rattle.cdxj_line.proofs.Cuts.{six_put}
use Rattle.cdxj_line.proofs.write.put_parts.Goals as goal

pub returns : goal.returns
unfolding line_text
returns c =
    let line = line_of c.args.parts.now in
    on_ok_weaker c.put_all-4.result (λ last.
    six_put line.key (codes " ") (time_digits line.date) (codes " ") (object_text false line) (codes "\n") c.args.out.now.items c.put_all.new.out.items c.put_all-2.new.out.items c.put_date.new.out.items c.put_all-3.new.out.items c.put_object.new.out.items c.put_all-4.new.out.items
    c.in_ok-put_all.ensures c.in_ok-put_all-2.ensures c.in_ok-put_date.ensures c.in_ok-put_all-3.ensures c.in_ok-put_object.ensures last)
    c.put_all-4.ensures
