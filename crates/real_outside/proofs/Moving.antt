-- The program's disk may move between threads.
use denote.RattleType.{RattleType}
use denote.Param.Send.{IsSend, sendable}
use denote.Param.SendFields.{declared_send, variants_send}
use Rattle.std.proofs.Crossing.{crosses}
use Rattle.folder_model.specs.declared.folder.Folder.{Ghosts}
use Rattle.folder_model.specs.declared.folders.Folders.{Ghosts as Places}
use Rattle.folder_disk.proofs.Moving.{disk_send, reader_send}
use Rattle.real_outside.specs.contracts.real_disk.RealDisk as real
use Rattle.real_outside.specs.contracts.real_disk.Standing as standing
use Rattle.real_outside.specs.contracts.system_folder.SystemFile as file
use Rattle.real_outside.specs.contracts.system_folder.SystemFolder as folder
use Rattle.real_outside.specs.contracts.system_folder.SystemFolders as folders
use Rattle.real_outside.specs.contracts.system_folder.SystemFolderFolder.TheImpl.{ghosts}
use Rattle.real_outside.specs.contracts.system_folder.SystemFoldersFolders.TheImpl.{ghosts as places}

-- a fact for each variant's fields
standing_send : (S F T : RattleType) (w : Places S.Denot F.Denot T.Denot) (g : Ghosts F.Denot T.Denot) → IsSend S → IsSend F → IsSend T → IsSend (standing.the_row S F T w g)
standing_send S F T w g s f t =
    let d = disk_send in let r = reader_send in
    variants_send (standing.enum S F T w g) (
      (search (sendable, crosses) depth 20, tt),
      (
        (search (sendable, crosses) depth 20, tt),
        ((search (sendable, crosses) depth 20, tt), tt),
      ),
    )

-- a fact for each field, in their order
real_send : (S F T : RattleType) (w : Places S.Denot F.Denot T.Denot) (g : Ghosts F.Denot T.Denot) → IsSend S → IsSend F → IsSend T → IsSend (real.the_row S F T w g)
real_send S F T w g s f t =
    declared_send (real.the_type S F T w g) (
      search (sendable, crosses) depth 20,
      (
        search (sendable, crosses) depth 20,
        (
          standing_send S F T w g s f t,
          (search sendable depth 20, tt),
        ),
      ),
    )

folders_send : IsSend folders.the_row
folders_send = search (sendable, crosses) depth 40

folder_send : IsSend folder.the_row
folder_send = search (sendable, crosses) depth 40

file_send : IsSend file.the_row
file_send = search (sendable, crosses) depth 40

pub system_disk_send : IsSend (real.the_row folders.the_row folder.the_row file.the_row places ghosts)
system_disk_send = real_send folders.the_row folder.the_row file.the_row places ghosts folders_send folder_send file_send
