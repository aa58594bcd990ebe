use Rattle.std.proofs.Common.{rules, ◌≡◌, nat_eq, length}
use Rattle.archive_volumes.proofs.HeldLaws.{is_filled_last}
use Rattle.archive_volumes.proofs.held.Held.is_filled.Goals as goal

pub returns-in-Some : goal.returns-in-Some
returns-in-Some c =
    let empty : c.is_empty.result ≡ nat_eq (length c.in-Some.last.captures.items) 0 = search rules in
    is_filled_last c.args.self.now.sealed.items c.args.self.now.last c.in-Some.last c.is_empty.result c.in-Some.is empty
