use Rattle.std.proofs.Common.{◌≡◌, ◌≤◌, ◌+◌, ℕ, List, length, take, drop, sym, ap, ◌∙◌, arith}
use Rattle.warc_journal.specs.Journals.{texts}
use Rattle.warc_journal.specs.declared.place.Place.{Place}
use Rattle.archive_reading.proofs.BringLaws.{reads_itself, reads_then, texts_stay}
use Rattle.archive_reading.proofs.PieceLaws.{alike_more, all_alike, equal_by, piece_is, wire_long}
use Rattle.archive_volumes.specs.Spots.{part, text_at, wire_in}
use Rattle.archive_payloads.proofs.compare.keeps_bytes.Goals as goal

pub returns-in_err-piece-clause-reads : goal.returns-in_err-piece-clause-reads
returns-in_err-piece-clause-reads g c =
    reads_then g.D.Disk c.args.volumes.now c.comparing.volumes c.read_part.new.volumes c.comparing.invariant.reads c.read_part.ensures.reads

pub returns-then-ne-clause-reads : goal.returns-then-ne-clause-reads
returns-then-ne-clause-reads g c =
    reads_then g.D.Disk c.args.volumes.now c.comparing.volumes c.read_part.new.volumes c.comparing.invariant.reads c.read_part.ensures.reads

pub comparing-preserved : goal.comparing-preserved
comparing-preserved g c =
    let spot = c.args.spot.now in
    let bytes = c.args.bytes.now in
    let done = c.comparing.done in
    let next = c.split_at-in-comparing.result.0.now in
    let piece = c.in_ok-piece.piece.items in
    let within : done + length next ≤ length bytes =
    omega (arith, c.split_at-in-comparing.ensures.front_len, c.split_at-in-comparing.ensures.back_len, c.split_at.ensures.back_len) in
    let long : spot.wire_len ≡ length bytes = sym (ap (λ (p : Place). p.len) c.wire_place-wire.ensures) ∙ c.if-wire-bytes.false in
    record {
      within = within;
      reads = reads_then g.D.Disk c.args.volumes.now c.comparing.volumes c.read_part.new.volumes c.comparing.invariant.reads c.read_part.ensures.reads;
      faults = c.in_ok-piece.ensures.faults ∙ c.comparing.invariant.faults;
      alike = λ told.
          let all = texts g.D.Disk c.args.volumes.now.journal in
          let text = wire_in all spot in
          let stay : texts g.D.Disk c.comparing.volumes.journal ≡ all = texts_stay g.D.Disk c.args.volumes.now c.comparing.volumes c.comparing.invariant.reads told in
          let read : piece ≡ part (text_at (texts g.D.Disk c.comparing.volumes.journal) spot.volume) (spot.head_at + spot.head_len + done) (length next) =
          rw c.wire_place-wire.ensures at c.in_ok-piece.ensures.bytes told in
          let piece_at : piece ≡ take (length next) (drop done text) =
          read ∙ ap (λ (t : List (List ℕ)). part (text_at t spot.volume) (spot.head_at + spot.head_len + done) (length next)) stay
          ∙ piece_is (text_at all spot.volume) (spot.head_at + spot.head_len) spot.wire_len done (length next) (omega (arith, within, long)) in
          let next_at : next ≡ take (length next) (drop done bytes) =
          c.split_at-in-comparing.ensures.front ∙ ap (take c.min.result) c.split_at.ensures.back
          ∙ ap (λ (n : ℕ). take n (drop done bytes)) (sym c.split_at-in-comparing.ensures.front_len) in
          let same : piece ≡ next = sym c.as_slice.ensures.value ∙ equal_by c.as_slice.result.now next c.ne.result c.ne.ensures c.if-ne.false in
          alike_more text bytes piece done (length next) (c.comparing.invariant.alike told) piece_at (same ∙ next_at);
    }

pub returns-clause-keeps : goal.returns-clause-keeps
returns-clause-keeps g c told same =
    let spot = c.args.spot.now in
    let bytes = c.args.bytes.now in
    let text = wire_in (texts g.D.Disk c.args.volumes.now.journal) spot in
    let long : length text ≡ length bytes =
    wire_long (texts g.D.Disk c.args.volumes.now.journal) spot (c.requires.place told)
    ∙ sym (ap (λ (p : Place). p.len) c.wire_place-wire.ensures) ∙ c.if-wire-bytes.false in
    all_alike text bytes c.comparing.done long c.comparing-test.false (c.comparing.invariant.alike told)

pub returns-then-wire-bytes-clause-reads : goal.returns-then-wire-bytes-clause-reads
returns-then-wire-bytes-clause-reads g c = reads_itself g.D.Disk c.args.volumes.now
