-- A disk without files.
use Rattle.std.proofs.Common.{◌≡◌, ℕ, None, List, [], refl, sym, ◌∙◌, arith}
use Rattle.cdxj_line.specs.declared.line.Line.{Line}
use Rattle.checkpoint.specs.Checkpoints.{checkpoint_of, checkpoint_text}
use Rattle.disk_model.specs.Image.{file_of, files_of, no_files}
use Rattle.warc_text.specs.Ids.{IsUuid}
use Rattle.archive_shelf.specs.Openings.{ImageStandsFor}
use Rattle.archive_shelf.specs.Storing.{empty_book}
use Rattle.archive_gathering.proofs.ReadingLaws.{nothing_read}
use Rattle.checkpoint.specs.OfVolume.{HasCheckpointsOf}
use Rattle.event_core.specs.Running.{NewDisksStart}

stands : (namespace : List ℕ) → IsUuid namespace → ImageStandsFor no_files (empty_book namespace)
unfolding files_of
stands namespace uuid = record {
  for = record {
    texts = [];
    are = (nothing_read None namespace uuid).are;
    held = record {
      enough = omega arith;
      one_more = omega arith;
      sealed = λ k less. absurd (omega (arith, less));
      last = λ k is. absurd (omega (arith, is));
      further = λ k less past. absurd (omega (arith, less));
    };
  };
  sound = (nothing_read None namespace uuid).sound;
}

no_text : (lines : List Line) → [] ≡ checkpoint_text lines → ⊥
unfolding checkpoint_text
no_text lines e = cc

no_bytes : (k : ℕ) → checkpoint_of no_files k ≡ []
unfolding file_of files_of
no_bytes k = refl

right : (namespace : List ℕ) → HasCheckpointsOf no_files (empty_book namespace)
right namespace = record { each = λ k lines is. absurd (no_text lines (sym (no_bytes k) ∙ is.text)) }

pub new_start : NewDisksStart
new_start fails namespace uuid = record {
  stands = stands namespace uuid;
  in_namespace = refl;
  alone = refl;
  right = right namespace;
  settled = omega arith;
  missing = refl;
}
