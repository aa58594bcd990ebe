use Rattle.std.proofs.Common.{sym, subst}
use Rattle.std.specs.Prelude.{IsAscii}
use Rattle.http_head.proofs.ParseLaws.{request_method_is_ascii}
use Rattle.http_head.proofs.parse.copy_outline.Goals as goal

pub copy_text-requires : goal.copy_text-requires
copy_text-requires c =
    subst IsAscii (sym c.of.ensures)
    (request_method_is_ascii c.args.text.now c.args.headers.now c.args.spans c.requires.spans)
