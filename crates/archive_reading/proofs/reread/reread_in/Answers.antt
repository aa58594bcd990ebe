use Rattle.std.proofs.Common.{false, refl, subst, inr}
use Rattle.warc_scan.specs.Answers.{BeginsWithGroup, TellsGroup}
use Rattle.warc_scan.specs.declared.group_step.GroupStep.{GroupStep}
use Rattle.archive_reading.proofs.KeptGroupLaws.{none_in_damage, none_in_nothing, none_in_tail}
use Rattle.archive_reading.proofs.RereadLaws.{reread_by_group}
use Rattle.archive_reading.proofs.reread.reread_in.Goals as goal

pub reread_of-requires : goal.reread_of-requires
reread_of-requires c =
    let begins : BeginsWithGroup c.args.namespace.now c.args.number c.args.bytes.now c.in-Group.group =
    subst (λ (s : GroupStep). TellsGroup c.args.namespace.now c.args.number false c.args.bytes.now s) c.in-Group.is c.next_group.ensures.tells in
    record { is = (c.args.namespace.now, c.args.number, begins.text, begins.is) }

pub returns-in-Group-clause-by : goal.returns-in-Group-clause-by
returns-in-Group-clause-by c =
    let begins : BeginsWithGroup c.args.namespace.now c.args.number c.args.bytes.now c.in-Group.group =
    subst (λ (s : GroupStep). TellsGroup c.args.namespace.now c.args.number false c.args.bytes.now s) c.in-Group.is c.next_group.ensures.tells in
    reread_by_group c.reread_of.result c.args.namespace.now c.args.number c.args.bytes.now c.args.spot.now c.in-Group.group begins c.reread_of.ensures.by

pub returns-in-End-clause-by : goal.returns-in-End-clause-by
returns-in-End-clause-by c = inr (
  none_in_nothing c.args.namespace.now c.args.number c.args.bytes.now
      (subst (λ (s : GroupStep). TellsGroup c.args.namespace.now c.args.number false c.args.bytes.now s) c.in-End.is c.next_group.ensures.tells).0,
  refl,
)

pub returns-in-Unfinished-clause-by : goal.returns-in-Unfinished-clause-by
returns-in-Unfinished-clause-by c = inr (
  none_in_tail c.args.namespace.now c.args.number c.args.bytes.now
      (subst (λ (s : GroupStep). TellsGroup c.args.namespace.now c.args.number false c.args.bytes.now s) c.in-Unfinished.is c.next_group.ensures.tells),
  refl,
)

pub returns-in-Damaged-clause-by : goal.returns-in-Damaged-clause-by
returns-in-Damaged-clause-by c = inr (
  none_in_damage c.args.namespace.now c.args.number c.args.bytes.now
      (subst (λ (s : GroupStep). TellsGroup c.args.namespace.now c.args.number false c.args.bytes.now s) c.in-Damaged.is c.next_group.ensures.tells).1,
  refl,
)
