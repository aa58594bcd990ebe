-- What is left is what the files leave.
use Rattle.std.proofs.Common.{Option, Some, None, subst}
use Rattle.std.specs.Prelude.{IfSome}
use Rattle.folder_model.specs.Folder.{MayLeave}
use Rattle.memory_folder.specs.Past.{Recorded, past_of, left_past, IsSettled}
use Rattle.memory_folder.proofs.memory_folder.MemoryFolder.stop.Goals as goal

pub returns-in-Some : goal.returns-in-Some
returns-in-Some c =
    let settled : IsSettled c.in-Some.store = subst (λ (o : Option Recorded). IfSome o IsSettled) c.in-Some.is c.in_ok-store.ensures.settled in (
      subst (λ (o : Option Recorded). MayLeave (past_of c.args.self.now.store) (left_past o)) c.in-Some.is c.in_ok-store.ensures.left,
      (settled.there, settled.nothing),
    )

pub returns-in-None : goal.returns-in-None
returns-in-None c = (
  subst (λ (o : Option Recorded). MayLeave (past_of c.args.self.now.store) (left_past o)) c.in-None.is c.in_ok-store.ensures.left,
  tt,
)
