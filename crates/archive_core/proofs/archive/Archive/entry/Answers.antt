use Rattle.std.proofs.Common.{◌≡◌, subst}
use Rattle.std.specs.Prelude.{option_copied}
use Rattle.index_entry.specs.Queries.{with_number}
use Rattle.archive_core.specs.Holdings.{Holdings}
use Rattle.archive_core.proofs.ArchiveLaws as laws
use Rattle.archive_core.proofs.archive.Archive.entry.Goals as goal

pub returns-clause-shown : goal.returns-clause-shown
returns-clause-shown g c =
    laws.entry_shown c.args.self.now c.args.number (option_copied c.at.result)
    (subst (λ (held : Holdings _). option_copied c.at.result ≡ with_number c.args.number held.index) c.self.view_is c.at.ensures)

pub returns-clause-number : goal.returns-clause-number
returns-clause-number g c =
    laws.entry_number c.args.self.now c.args.number (option_copied c.at.result)
    (subst (λ (held : Holdings _). option_copied c.at.result ≡ with_number c.args.number held.index) c.self.view_is c.at.ensures)

pub returns-clause-none : goal.returns-clause-none
returns-clause-none g c =
    laws.no_entry_shown c.args.self.now c.args.number (option_copied c.at.result)
    (subst (λ (held : Holdings _). option_copied c.at.result ≡ with_number c.args.number held.index) c.self.view_is c.at.ensures)
