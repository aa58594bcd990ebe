-- ASCII is UTF-8, so the error can't come.
use Rattle.std.proofs.Common.{rules}
use Rattle.std.proofs.lemmas.Str.{IsUtf8-from_ascii}
use Rattle.capture.proofs.text.Text.of.Goals as goal

pub returns-clause-ascii : goal.returns-clause-ascii
returns-clause-ascii c = search (rules, IsUtf8-from_ascii)
