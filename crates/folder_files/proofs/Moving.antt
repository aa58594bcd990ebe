-- Open files may move between threads where the file may.
use denote.RattleType.{RattleType}
use denote.Param.Send.{IsSend, sendable}
use Rattle.std.proofs.Crossing.{crosses}
use Rattle.folder_files.specs.contracts.left_files.LeftFile as left_one
use Rattle.folder_files.specs.contracts.left_files.LeftFiles as left
use Rattle.folder_files.specs.contracts.open_files.OpenFiles as files
use Rattle.folder_files.specs.contracts.open_files.OpenOne as one

one_send : (T : RattleType) → IsSend T → IsSend (one.the_row T)
one_send T t = search (sendable, crosses) depth 40

left_one_send : (T : RattleType) → IsSend T → IsSend (left_one.the_row T)
left_one_send T t = let o = one_send T t in search (sendable, crosses) depth 40

left_send : (T : RattleType) → IsSend T → IsSend (left.the_row T)
left_send T t = let l = left_one_send T t in search (sendable, crosses) depth 40

pub files_send : (T : RattleType) → IsSend T → IsSend (files.the_row T)
files_send T t = let o = one_send T t in let l = left_send T t in search (sendable, crosses) depth 40
