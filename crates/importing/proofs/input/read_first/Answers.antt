-- The connection was read, or the gate gave none.
use Rattle.std.proofs.Common.{inl, inr}
use Rattle.importing.proofs.InputLaws.{if_err_by, if_ok_by}
use Rattle.importing.proofs.input.read_first.Goals as goal

pub returns-in-Connection-clause-input : goal.returns-in-Connection-clause-input
returns-in-Connection-clause-input g c t =
    if_ok_by _ _ c.read_connection.result (λ input of. inl (of (g.G.Gate.connections c.args.gate.now) (c.in-Connection.ensures.gives t))) (c.read_connection.ensures.input t)

pub returns-in-Connection-clause-none : goal.returns-in-Connection-clause-none
returns-in-Connection-clause-none g c t =
    if_err_by _ _ c.read_connection.result (λ fault of. inl (of (g.G.Gate.connections c.args.gate.now) (c.in-Connection.ensures.gives t))) (c.read_connection.ensures.none t)

pub returns-in-Closed-clause-input : goal.returns-in-Closed-clause-input
returns-in-Closed-clause-input g c t = inr (c.in-Closed.ensures.was_closed t, c.in-Closed.ensures.gives t, c.new.ensures.items)

pub returns-in-Failed-clause-none : goal.returns-in-Failed-clause-none
returns-in-Failed-clause-none g c t = inr (c.in-Failed.ensures.counts.1, c.in-Failed.ensures.gives t)

pub returns-in-Memory-clause-none : goal.returns-in-Memory-clause-none
returns-in-Memory-clause-none g c t = inr (tt, c.in-Memory.ensures.gives t)
