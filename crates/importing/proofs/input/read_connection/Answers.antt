-- What was heard on the connection stands in the gate's log.
use Rattle.importing.proofs.InputLaws.{if_err_by, if_ok_by}
use Rattle.command.proofs.GateLaws.{served_and_hung_up}
use Rattle.importing.proofs.input.read_connection.Goals as goal

pub returns-clause-input : goal.returns-clause-input
returns-clause-input g c t =
    if_ok_by _ _ c.read_to_end-read.result
    (λ input is before given. (_, served_and_hung_up before _ _ _ given (c.hang_up.ensures.logs t), is))
    (c.read_to_end-read.ensures.input t)

pub returns-clause-none : goal.returns-clause-none
returns-clause-none g c t =
    if_err_by _ _ c.read_to_end-read.result
    (λ fault is before given. (_, served_and_hung_up before _ _ _ given (c.hang_up.ensures.logs t), is))
    (c.read_to_end-read.ensures.none t)
