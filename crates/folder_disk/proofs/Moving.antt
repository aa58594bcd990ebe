-- A disk in a folder may move between threads where the folder, its files and what finds folders may.
use denote.RattleType.{RattleType}
use denote.Struct.Field.{row_field}
use denote.Param.Send.{IsSend, sendable}
use denote.Param.SendFields.{declared_send, variants_send, as_row_send}
use Rattle.std.proofs.Crossing.{crosses}
use Rattle.std.specs.declared.fmt.Display.{Ghosts as Displays}
use Rattle.folder_model.specs.declared.folder.Folder.{Ghosts as Folders}
use Rattle.folder_model.specs.declared.folders.Folders.{Ghosts as Places}
use Rattle.folder_files.proofs.Moving.{files_send}
use Rattle.held_folder.proofs.Moving.{held_send}
use Rattle.folder_files.specs.declared.names.FileNames.{Ghosts as Names}
use Rattle.folder_disk.specs.contracts.standing.Standing as standing
use Rattle.folder_disk.specs.contracts.folder_disk.FolderDisk as disk
use Rattle.folder_disk.specs.contracts.folder_disk.FolderDisk.TheInside as inside
use Rattle.folder_disk.specs.contracts.reading.Reading as reading
use Rattle.folder_disk.specs.contracts.reader.FolderReader as reader
use Rattle.folder_disk.specs.contracts.reader.FolderReader.TheInside as reader_inside

-- a fact for each variant's fields
standing_send : (S N F T P : RattleType) → IsSend F → IsSend T → IsSend (standing.the_row S N F T P)
standing_send S N F T P f t = variants_send (standing.enum S N F T P) ((held_send F N T P f t, tt), (tt, (tt, tt)))

inside_send : (S N F T P : RattleType) (w : Places S.Denot F.Denot T.Denot) (g : Folders F.Denot T.Denot) (n : Names N.Denot P.Denot) (p : Displays P.Denot) →
    IsSend S → IsSend F → IsSend T → IsSend (inside.the_row S N F T P w g n p)
inside_send S N F T P w g n p s f t =
    declared_send (inside.the_type S N F T P w g n p) (
      as_row_send (row_field S) s,
      (
        search (sendable, crosses) depth 20,
        (
          standing_send S N F T P f t,
          (search sendable depth 20, tt),
        ),
      ),
    )

pub disk_send : (S N F T P : RattleType) (w : Places S.Denot F.Denot T.Denot) (g : Folders F.Denot T.Denot) (n : Names N.Denot P.Denot) (p : Displays P.Denot) →
    IsSend S → IsSend F → IsSend T → IsSend (disk.the_row S N F T P w g n p)
disk_send S N F T P w g n p s f t = let i = inside_send S N F T P w g n p s f t in search (sendable, crosses) depth 20

reading_send : (F N T P : RattleType) → IsSend F → IsSend T → IsSend (reading.the_row F N T P)
reading_send F N T P f t =
    declared_send (reading.the_type F N T P) (
      as_row_send (row_field F) f,
      (
        search sendable depth 20,
        (
          search sendable depth 20,
          (
            files_send T t,
            (search (sendable, crosses) depth 20, tt),
          ),
        ),
      ),
    )

reader_inside_send : (S N F T P : RattleType) (w : Places S.Denot F.Denot T.Denot) (g : Folders F.Denot T.Denot) (n : Names N.Denot P.Denot) (p : Displays P.Denot) →
    IsSend S → IsSend F → IsSend T → IsSend (reader_inside.the_row S N F T P w g n p)
reader_inside_send S N F T P w g n p s f t =
    let r = reading_send F N T P f t in
    declared_send (reader_inside.the_type S N F T P w g n p) (
      as_row_send (row_field S) s,
      (
        search (sendable, crosses) depth 20,
        (search sendable depth 20, tt),
      ),
    )

pub reader_send : (S N F T P : RattleType) (w : Places S.Denot F.Denot T.Denot) (g : Folders F.Denot T.Denot) (n : Names N.Denot P.Denot) (p : Displays P.Denot) →
    IsSend S → IsSend F → IsSend T → IsSend (reader.the_row S N F T P w g n p)
reader_send S N F T P w g n p s f t = let i = reader_inside_send S N F T P w g n p s f t in search (sendable, crosses) depth 20
