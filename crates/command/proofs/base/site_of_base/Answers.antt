-- A base is ASCII, since it is printed so with its slash.
use Rattle.std.proofs.Common.{◌∙◌}
use Rattle.command.proofs.HostTexts.{IsAscii-base}
use Rattle.command.proofs.base.site_of_base.Goals as goal

pub site_of_url-requires : goal.site_of_url-requires
site_of_url-requires c =
    let printed = c.if-not-is_base.ensures.ascii cc in
    IsAscii-base c.args.base.now c.as_str-2.result.now (c.as_str-2.ensures.value ∙ c.in_ok-text.ensures) printed
