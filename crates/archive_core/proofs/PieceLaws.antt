-- What asking an archive for a piece answers.
use Rattle.std.proofs.Common.{ℕ, ◌<◌, List, length, Result, Ok, Err, sym, ap, ◌∙◌, arith}
use Rattle.std.proofs.lemmas.Option.{same_Some}
use Rattle.capture.specs.Captures.{captures}
use Rattle.disk_model.specs.declared.disk.Disk.{Ghosts}
use Rattle.archive_shelf.specs.Pieces.{GivesPiece}
use Rattle.archive_shelf.specs.declared.fault.BringFault.{BringFault}
use Rattle.archive_shelf.specs.declared.fault.BringFault.TheVariants as brings
use Rattle.archive_payloads.proofs.ChooseLaws.{there_is}
use Rattle.archive_reading.specs.KeptGroups.{GivesPieceFrom}
use Rattle.archive_volumes.specs.declared.spot.Spot.{Spot}
use Rattle.archive_core.proofs.NamedLaws.{digest_shown}
use Rattle.archive_core.specs.Bringing.{PieceTellsKept}
use Rattle.archive_core.specs.Holdings.{Holdings, IsArchive, contents_of}

pub gives_by : {D : Type 0} (d : Ghosts D) (held : Holdings D) (number : ℕ) (result : Result (List ℕ) BringFault) → IsArchive d held
    → number < length (captures held.book) → GivesPieceFrom held.told held.book number result → PieceTellsKept held number result
    → GivesPiece (contents_of held) number result
gives_by d held number (Ok bytes) is less from tells =
    let one = there_is held.spots number (omega (arith, less, is.spots.count)) in
    let by = tells one.0 one.1 in (
      less,
      record {
        piece = by.piece;
        digest = digest_shown d held number is by.piece.digest (λ spot at. by.is ∙ ap (λ (s : Spot). s.digest) (same_Some one.0 spot (sym one.1 ∙ at)));
      },
      from.1,
    )
gives_by d held number (Err (brings.NoSuch count)) is less from tells = absurd from
gives_by d held number (Err brings.DiskFault) is less from tells = less
gives_by d held number (Err (brings.Damaged at kept found)) is less from tells = (less, from.0, from.1)
gives_by d held number (Err brings.Memory) is less from tells = tt
