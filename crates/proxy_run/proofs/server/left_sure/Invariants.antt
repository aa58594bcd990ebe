-- It does.
use Rattle.std.proofs.Common.{true}
use Rattle.proxy_run.proofs.server.left_sure.Given as goal

abbrev pub ghost-told_by : goal.ghost-told_by
ghost-told_by g a = record { calm = true; right = true; lasts = true; stood = a.from.now.value }
