use Rattle.std.proofs.Common.{◌≡◌, ℕ, ap, subst, ◌∙◌, arith}
use Rattle.std.specs.Prelude.{length}
use Rattle.std.proofs.lemmas.Option.{slice_get_within}
use Rattle.warc_journal.specs.Journals.{texts}
use Rattle.archive_reading.proofs.BringLaws.{reads_itself}
use Rattle.archive_volumes.proofs.GroupLaws.{if_ok_so}
use Rattle.archive_reading.proofs.KeptGroupLaws.{ends_at_next, ends_at_text, within_next, within_text}
use Rattle.archive_reading.proofs.PieceFronts.{spot_there}
use Rattle.archive_volumes.specs.Held.{book_of}
use Rattle.archive_reading.specs.KeptGroups.{EndsGroup, EndsWithin, IsNextAt}
use Rattle.archive_volumes.specs.Spots.{text_at}
use Rattle.archive_reading.proofs.kept_group.group_end.Goals as goal

pub text_len-requires-clause-there : goal.text_len-requires-clause-there
text_len-requires-clause-there g c =
    let one = spot_there c.args.spots.now c.args.number c.requires.below in
    let inside = (c.requires.readable.are.each c.args.number one.0 one.1).inside in
    let book = book_of c.args.volumes.now.held in
    omega (
      arith,
      slice_get_within book.volumes one.0.volume inside.of inside.placed,
      c.volume_at-volume.ensures one.0 one.1,
      c.requires.readable.measured.count,
    )

pub returns-in-Some-clause-within : goal.returns-in-Some-clause-within
returns-in-Some-clause-within g c tells =
    let one = spot_there c.args.spots.now c.args.number c.requires.below in
    let volume = c.volume_at-volume.ensures one.0 one.1 in
    within_next (texts g.D.Disk c.args.volumes.now.journal) c.args.spots.now c.args.number one.0 one.1 (c.requires.readable.within tells) c.in-Some.at
    (subst (λ (v : ℕ). IsNextAt c.args.spots.now c.args.number v c.in-Some.at) volume c.in-Some.ensures)

pub returns-in-None-clause-within : goal.returns-in-None-clause-within
returns-in-None-clause-within g c tells =
    let all = texts g.D.Disk c.args.volumes.now.journal in
    let one = spot_there c.args.spots.now c.args.number c.requires.below in
    let volume = c.volume_at-volume.ensures one.0 one.1 in
    if_ok_so (λ (len : ℕ). len ≡ length (text_at all c.volume_at-volume.result)) (EndsWithin all c.args.spots.now c.args.number) c.text_len.result
    (c.text_len.ensures.len tells)
    (λ len is. within_text all c.args.spots.now c.args.number one.0 one.1 (c.requires.readable.within tells) len (is ∙ ap (λ (v : ℕ). length (text_at all v)) volume))

pub returns-in-Some-clause-end : goal.returns-in-Some-clause-end
returns-in-Some-clause-end g c told =
    let book = book_of c.args.volumes.now.held in
    let all = texts g.D.Disk c.args.volumes.now.journal in
    let one = spot_there c.args.spots.now c.args.number c.requires.below in
    let volume = c.volume_at-volume.ensures one.0 one.1 in
    ends_at_next all book c.args.spots.now c.args.number (c.requires.readable.placed told) one.0 one.1 c.in-Some.at
    (subst (λ (v : ℕ). IsNextAt c.args.spots.now c.args.number v c.in-Some.at) volume c.in-Some.ensures)

pub returns-in-None-clause-end : goal.returns-in-None-clause-end
returns-in-None-clause-end g c told =
    let book = book_of c.args.volumes.now.held in
    let all = texts g.D.Disk c.args.volumes.now.journal in
    let one = spot_there c.args.spots.now c.args.number c.requires.below in
    let volume = c.volume_at-volume.ensures one.0 one.1 in
    if_ok_so (λ (len : ℕ). len ≡ length (text_at all c.volume_at-volume.result)) (EndsGroup book c.args.spots.now c.args.number) c.text_len.result
    (c.text_len.ensures.len (c.requires.readable.holds.tells told))
    (λ len is. ends_at_text all book c.args.spots.now c.args.number (c.requires.readable.placed told) one.0 one.1 len
    (is ∙ ap (λ (v : ℕ). length (text_at all v)) volume))

pub returns-in-Some-clause-reads : goal.returns-in-Some-clause-reads
returns-in-Some-clause-reads g c = reads_itself g.D.Disk c.args.volumes.now
