mod SameVerdicts
mod SoundVolumes
mod VerifyLaws
