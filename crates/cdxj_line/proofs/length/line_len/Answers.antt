use Rattle.std.proofs.Common.{◌+◌, length, arith}
use Rattle.cdxj_line.specs.Parts.{line_of}
use Rattle.cdxj_line.proofs.LineLengths.{more, line_total}
use Rattle.cdxj_line.proofs.length.line_len.Goals as goal

pub returns : goal.returns
returns c =
    let line = line_of c.args.parts.now in
    let key = more 91 91 (length line.key) c.saturating_add.result (omega arith) c.saturating_add.ensures in
    let date = more (91 + length line.key) c.saturating_add.result c.date_len.result c.saturating_add-len.result key c.saturating_add-len.ensures in
    let digest = c.add_quoted-len.ensures _ date in
    let name = c.add_file_name-len.ensures _ digest in
    let length_of = c.add_number-len.ensures _ name in
    let method = c.add_quoted-len-2.ensures _ length_of in
    let mime = c.add_quoted-len-3.ensures _ method in
    let number = c.add_number-len-2.ensures _ mime in
    let offset = c.add_number-len-3.ensures _ number in
    let status = c.add_number-len-4.ensures _ offset in
    let url = c.add_quoted.ensures _ status in
    line_total line c.add_quoted.result c.date_len.result c.from.result c.from-2.result c.base32_of.result c.date_len.ensures c.base32_of.ensures c.from.ensures c.from-2.ensures url
