-- Nobody was asked for want of memory.
use Rattle.std.proofs.Common.{Err, refl, inl}
use Rattle.exchange.specs.declared.fetching.FetchFault.TheVariants.{Memory}
use Rattle.replica.proofs.asking.ask.Goals as goal

pub returns-in-Err-clause-asks : goal.returns-in-Err-clause-asks
returns-in-Err-clause-asks g c t = record { outcome = Err Memory; logs = inl refl; comes = refl }
