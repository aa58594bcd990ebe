-- `verify` of an archive that is ready.
use Rattle.std.proofs.Common.{◌≡◌, ◌⊎◌, IsTrue, List, ◌++◌, Option, None, sym, ap, ◌∙◌, inl, inr, append-nil}
use Rattle.std.specs.Prelude.{Bool, if◌then◌else◌, map}
use Rattle.capture.specs.declared.book.Book.{Book}
use Rattle.archive_volumes.specs.Facts.{facts_of}
use Rattle.archive_volumes.specs.declared.volume_facts.VolumeFacts.{VolumeFacts}
use Rattle.archive_reopening.specs.Known.{by_checkpoints}
use Rattle.command.proofs.OpeningLaws.{opened_stands}
use Rattle.command.proofs.SettlingLaws.{told_tells}
use Rattle.proxy_run.proofs.CompleteLaws.{not_risen, printed_or_lacked, refused_known, refused_unsettled}
use Rattle.archive_shelf.specs.Openings.{ImageStandsFor}
use Rattle.proxy_run.specs.Complete.{NoFaults}
use Rattle.command.specs.Objects.{Kinds, Objects}
use Rattle.command.specs.Printing.{printed_as}
use Rattle.archive_shelf.specs.declared.depth.Depth.TheVariants.{Checkpoints}
use Rattle.proxy_run.specs.Pipes.{Refuses}
use Rattle.proxy_run.specs.Verified.{IsSureOf, VerifiesAreAnswered}
use Rattle.verifying.specs.Verified.{SoundVolumesVerify}
use Rattle.verifying.specs.Verifies.{Checked, ChecksVolumes, IsVerified, lines_of}
use Rattle.command.specs.declared.status.Status.{Status}
use Rattle.command.specs.declared.status.Status.TheVariants.{Archive, Done, Memory}

module _ {D G L P N M C O : Type 0} (kinds : Kinds D G L P N M C O) (sound_volumes_verify : SoundVolumesVerify) where
  checks_answered : (was is : Objects D G (List (N × C)) O) (status : Status) (book : Book) → IsTrue kinds.disks.tells → NoFaults kinds was is
      → ImageStandsFor (kinds.disks.reading was.disk) book
      → ChecksVolumes kinds.disks kinds.sinks book.namespace (facts_of book) was.disk is.disk was.out is.out status
      → (status ≡ Done) ⊎ (status ≡ Memory)
  checks_answered was is status book told steady stands (inl (checked, rest, front, right, inl all)) =
      let facts = map (λ (c : Checked). c.facts) checked in
      let whole : facts ≡ facts_of book = sym (append-nil facts) ∙ ap (λ (l : List VolumeFacts). facts ++ l) (sym all.0) ∙ front in
      let sound = sound_volumes_verify (kinds.disks.reading was.disk) book checked stands whole (right told) in
      elim (printed_or_lacked kinds.sinks _ (lines_of checked) was.out is.out status steady.out (inl all.2)) [
        | inl done ↦ inl (done ∙ ap (λ (b : Bool). if b then Archive else Done) sound)
        | inr memory ↦ inr memory
      ]
  checks_answered was is status book told steady stands (inl (checked, rest, front, right, inr failed)) =
      absurd (not_risen (kinds.disks.faults was.disk) (kinds.disks.faults is.disk) steady.disk failed.0)
  checks_answered was is status book told steady stands (inr lacks) = inr lacks.status_is

  verified_answered : (known : Option Book) (was is : Objects D G (List (N × C)) O) (status : Status) → IsSureOf kinds.disks known was.disk
      → NoFaults kinds was is →
      (IsVerified kinds.disks kinds.sinks (by_checkpoints was.disk None known) is.disk (printed_as was.out is.out status) × (is ≡ record was { disk = is.disk; out = is.out }))
      ⊎ Refuses kinds (by_checkpoints was.disk None known) was is status → (status ≡ Done) ⊎ (status ≡ Memory)
  verified_answered known was is status (inl told) steady (inl verifies) =
      let verified = verifies.0 in
      checks_answered was is status verified.held.book (told_tells Checkpoints kinds.disks.tells known told) steady
      (opened_stands kinds.disks verified.opened (verified.opened.is.told_is ∙ told)) verified.checked
  verified_answered known was is status (inr (tells, ready, whole)) steady (inl verifies) =
      let verified = verifies.0 in
      let read = verified.opened.is.unsettled tells whole in
      checks_answered was is status verified.held.book tells steady (record { for = read.stands tells; sound = read.sound }) verified.checked
  verified_answered known was is status (inl told) steady (inr refuses) = inr (refused_known kinds known None was is status told steady refuses)
  verified_answered known was is status (inr (tells, ready, whole)) steady (inr refuses) =
      inr (refused_unsettled kinds known was is status tells ready whole steady refuses)

  pub verifies_answered : VerifiesAreAnswered kinds
  verifies_answered workers was is status known sure steady site runs = verified_answered known was is status sure steady runs
