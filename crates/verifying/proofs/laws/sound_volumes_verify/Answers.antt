-- Of the bytes that are there.
use Rattle.verifying.proofs.SameVerdicts.{volumes_verify_one_way}
use Rattle.verifying.proofs.SoundVolumes.{sound_volumes_verify}
use Rattle.verifying.proofs.laws.sound_volumes_verify.Goals as goal

pub returns : goal.returns
returns c = record {
  sound = sound_volumes_verify;
  one = volumes_verify_one_way;
}
