use Rattle.archive_core.proofs.comparing.payload_of_taken.Goals as goal

pub payload_by-requires : goal.payload_by-requires
payload_by-requires c = record { framed = c.in_ok-framing.ensures }
