use Rattle.std.proofs.Common.{◌≡◌, ◌<◌, ◌+◌, ◌≤◌, ℕ, List, Some, arith, sym, ap, subst, ◌∙◌}
use Rattle.std.specs.Prelude.{length, slice_get}
use Rattle.warc_journal.specs.Journals.{texts}
use Rattle.archive_reading.proofs.BringLaws.{reads_then, texts_stay}
use Rattle.archive_reading.proofs.DigestLaws.{one_spot}
use Rattle.archive_volumes.proofs.GroupLaws.{got, if_ok_both, if_ok_so}
use Rattle.archive_reading.proofs.KeptGroupLaws.{begins_is, reaches_on, there, within}
use Rattle.archive_volumes.specs.Held.{book_of}
use Rattle.archive_reading.specs.Rereading.{BeginWithText, Reaches, from_place}
use Rattle.archive_volumes.specs.Spots.{part, text_at}
use Rattle.archive_volumes.specs.declared.spot.Spot.{Spot}
use Rattle.archive_reading.proofs.kept_group.read_text.Goals as goal

pub read_part-requires-clause-there : goal.read_part-requires-clause-there
read_part-requires-clause-there g c tells =
    let old = c.args.volumes.now in
    let spot = c.index-spots-number.result in
    let here : slice_get c.args.spots.now c.args.number ≡ Some spot = got c.args.spots.now c.args.number spot c.requires.below c.index-spots-number.is in
    let same = texts_stay g.D.Disk old c.group_end.new.volumes c.group_end.ensures.reads tells in
    subst (λ (all : List (List ℕ)). spot.volume < length all) (sym same)
    (there (texts g.D.Disk old.journal) c.args.spots.now c.args.number (c.requires.readable.within tells) spot here)

pub read_part-requires-clause-within : goal.read_part-requires-clause-within
read_part-requires-clause-within g c tells =
    let old = c.args.volumes.now in
    let spot = c.index-spots-number.result in
    let here : slice_get c.args.spots.now c.args.number ≡ Some spot = got c.args.spots.now c.args.number spot c.requires.below c.index-spots-number.is in
    let same = texts_stay g.D.Disk old c.group_end.new.volumes c.group_end.ensures.reads tells in
    subst (λ (all : List (List ℕ)). spot.at + c.saturating_sub.result ≤ length (text_at all spot.volume)) (sym same)
    (subst (λ (long : ℕ). spot.at + long ≤ length (text_at (texts g.D.Disk old.journal) spot.volume)) (sym c.saturating_sub.ensures)
    (within (texts g.D.Disk old.journal) c.args.spots.now c.args.number (c.requires.readable.within tells) spot here c.in_ok-end.end (c.in_ok-end.ensures.within tells)))

pub returns-clause-begins : goal.returns-clause-begins
returns-clause-begins g c told =
    let old = c.args.volumes.now in
    let book = book_of old.held in
    let spot = c.index-spots-number.result in
    let all = texts g.D.Disk old.journal in
    let tells = c.requires.readable.holds.tells told in
    let here : slice_get c.args.spots.now c.args.number ≡ Some spot = got c.args.spots.now c.args.number spot c.requires.below c.index-spots-number.is in
    let same = texts_stay g.D.Disk old c.group_end.new.volumes c.group_end.ensures.reads tells in
    if_ok_so _ (λ bytes. BeginWithText book c.args.number bytes.items) c.read_part.result (c.read_part.ensures.bytes tells)
    (λ bytes is. begins_is book all c.args.spots.now c.args.number (c.requires.readable.placed told) spot here c.in_ok-end.end (c.in_ok-end.ensures.end told)
    (c.requires.readable.holds.sound told) (c.requires.readable.holds.texts_are told) bytes.items
    (is ∙ ap (λ (t : List (List ℕ)). part (text_at t spot.volume) spot.at c.saturating_sub.result) same
    ∙ ap (part (text_at all spot.volume) spot.at) c.saturating_sub.ensures))

pub returns-clause-reads : goal.returns-clause-reads
returns-clause-reads g c =
    reads_then g.D.Disk c.args.volumes.now c.group_end.new.volumes c.read_part.new.volumes c.group_end.ensures.reads c.read_part.ensures.reads

pub returns-clause-bytes : goal.returns-clause-bytes
returns-clause-bytes g c tells other at =
    let old = c.args.volumes.now in
    let spot = c.index-spots-number.result in
    let all = texts g.D.Disk old.journal in
    let here : slice_get c.args.spots.now c.args.number ≡ Some spot = got c.args.spots.now c.args.number spot c.requires.below c.index-spots-number.is in
    let same = texts_stay g.D.Disk old c.group_end.new.volumes c.group_end.ensures.reads tells in
    let one : spot ≡ other = one_spot c.args.spots.now c.args.number spot other here at in
    if_ok_both _ _ (λ bytes. bytes.items ≡ from_place all other (length bytes.items)) c.read_part.result (c.read_part.ensures.bytes tells)
    c.read_part.ensures.length
    (λ bytes is long. is ∙ ap (λ (t : List (List ℕ)). part (text_at t spot.volume) spot.at c.saturating_sub.result) same
    ∙ ap (from_place all spot) (sym long) ∙ ap (λ (s : Spot). from_place all s (length bytes.items)) one)

pub returns-clause-reaches : goal.returns-clause-reaches
returns-clause-reaches g c tells other at =
    let spot = c.index-spots-number.result in
    let all = texts g.D.Disk c.args.volumes.now.journal in
    let here : slice_get c.args.spots.now c.args.number ≡ Some spot = got c.args.spots.now c.args.number spot c.requires.below c.index-spots-number.is in
    let one : spot ≡ other = one_spot c.args.spots.now c.args.number spot other here at in
    if_ok_so _ (λ bytes. Reaches all c.args.spots.now c.args.number other (other.at + length bytes.items)) c.read_part.result c.read_part.ensures.length
    (λ bytes long. reaches_on all c.args.spots.now c.args.number other c.in_ok-end.end (other.at + length bytes.items)
    ((c.in_ok-end.ensures.within tells).reaches other at)
    (omega (arith, long, c.saturating_sub.ensures, ap (λ (s : Spot). s.at) one)))
