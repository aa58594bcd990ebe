use Rattle.std.proofs.Common.{◌≡◌, ◌+◌, ◌∙◌, ap, length, arith}
use Rattle.json.specs.Print.{quoted}
use Rattle.cdxj_line.specs.Lengths.{capped}
use Rattle.cdxj_line.specs.Lines.{file_name}
use Rattle.cdxj_line.proofs.LineLengths.{more, name_length}
use Rattle.cdxj_line.proofs.length.add_file_name.Goals as goal

pub returns : goal.returns
returns c = λ n e.
    let name : 11 + c.max.result ≡ length (quoted (file_name c.args.volume)) = omega (arith, c.max.ensures, ap length c.format-digits.ensures.text, name_length c.args.volume c.ranges.volume.fits) in
    more n c.args.len (11 + c.max.result) c.saturating_add.result e c.saturating_add.ensures ∙ ap (λ k. capped (n + k)) name
