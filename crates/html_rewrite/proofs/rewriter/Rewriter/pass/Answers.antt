-- Bytes that stay as they are join what was read.
use Rattle.std.proofs.Common.{◌∙◌, ap, sym, take, drop}
use Rattle.std.proofs.Math.Seq.{take-add}
use Rattle.std.proofs.lemmas.List.{drop-drop}
use Rattle.html_rewrite.specs.steps.Reading.{grown, text_of}
use Rattle.html_rewrite.proofs.Grown.{grown_twice}
use Rattle.html_rewrite.proofs.rewriter.Rewriter.pass.Goals as goal

pub returns : goal.returns
returns c =
    let run = c.args.self.now.run.now in
    let read = c.args.self.now.read in
    let text = text_of c.args.self.now.written in
    record {
      written = λ limit. ap (grown limit text) (take-add read c.args.n run) ∙ sym (grown_twice limit text (take read run) (take c.args.n (drop read run)));
      rest = sym (drop-drop c.args.n read run);
    }
