-- A folder that is held may move between threads where the folder and its files may.
use denote.RattleType.{RattleType}
use denote.Param.Send.{IsSend, sendable}
use denote.Param.SendFields.{declared_send}
use Rattle.std.proofs.Crossing.{crosses}
use Rattle.shown.specs.contracts.shown.Shown as shown
use Rattle.folder_model.specs.contracts.timed.Timed as timed
use Rattle.folder_files.proofs.Moving.{files_send}
use Rattle.held_folder.specs.contracts.trust.Trust as trust
use Rattle.held_folder.specs.contracts.held.Held as held

shown_send : (T : RattleType) → IsSend (shown.the_row T)
shown_send T = search (sendable, crosses) depth 40

timed_send : (F T : RattleType) → IsSend F → IsSend (timed.the_row F T)
timed_send F T f = let w = shown_send in search (sendable, crosses) depth 40

trust_send : IsSend trust.the_row
trust_send = search (sendable, crosses) depth 40

-- a fact for each field, in their order
pub held_send : (F N T P : RattleType) → IsSend F → IsSend T → IsSend (held.the_row F N T P)
held_send F N T P f t =
    declared_send (held.the_type F N T P) (
      timed_send F T f,
      (
        search (sendable, crosses) depth 20,
        (
          search sendable depth 20,
          (
            search sendable depth 20,
            (
              trust_send,
              (
                files_send T t,
                (search (sendable, crosses) depth 20, tt),
              ),
            ),
          ),
        ),
      ),
    )
