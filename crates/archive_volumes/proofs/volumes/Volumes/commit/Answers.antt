use Rattle.std.proofs.Common.{◌≡◌, ◌+◌, ◌^◌, ◌<◌, List, [], ◌∷◌, ◌++◌, ℕ, length, Some, Ok, refl, sym, ap, subst, ◌∙◌}
use Rattle.capture.specs.Captures.{captures}
use Rattle.capture.specs.Tails.{IsCommitted}
use Rattle.capture.specs.declared.book.Book.{Book}
use Rattle.warc_journal.specs.Journals.{disk_of, last_len, texts}
use Rattle.warc_journal.specs.Texts.{with_more}
use Rattle.warc_journal.specs.declared.place.Place.{Place}
use Rattle.warc_text.specs.Books.{IsGroupText}
use Rattle.warc_text.specs.StandsFor.{commit_byte}
use Rattle.archive_volumes.specs.Held.{book_of, stored_in}
use Rattle.archive_volumes.specs.Ready.{book_with, room_of, spot_in}
use Rattle.archive_volumes.specs.Spots.{spot_of}
use Rattle.archive_volumes.specs.Volumes.{muted}
use Rattle.archive_volumes.specs.Writing.{end_with, texts_with}
use Rattle.archive_volumes.specs.Written.{WritesTexts, texts_as}
use Rattle.archive_volumes.specs.declared.spot.Spot.{Spot}
use Rattle.archive_volumes.proofs.ChangeLaws.{DiskLaws, laws_muted}
use Rattle.archive_volumes.proofs.ExitLaws.{counts_done, counts_refused, never_ok, on_refusal}
use Rattle.archive_volumes.proofs.KeepLaws.{kept_made, kept_placed, kept_spots, kept_within, made_left, placed_left, spots_left, within_left}
use Rattle.archive_volumes.proofs.StoreLaws.{writes_done, writes_refused}
use Rattle.archive_volumes.proofs.WrittenLaws.{texts_done, texts_refused}
use Rattle.archive_volumes.proofs.volumes.Volumes.commit.Given.{Over}
use Rattle.archive_volumes.proofs.volumes.Volumes.commit.Goals as goal

-- what is asked of the disk
disk_laws : (g : Over) → DiskLaws g.D.Disk
disk_laws g = record { earlier = g.met.D.Disk.earlier; now_counts = g.met.D.Disk.now_counts; now_only = g.met.D.Disk.now_only }

-- ---- it is written

pub write-requires-clause-room : goal.write-requires-clause-room
write-requires-clause-room g c = c.requires.ready.room

pub write-requires-clause-holds : goal.write-requires-clause-holds
write-requires-clause-holds g c = c.requires.readable.holds

pub write-requires-clause-measured : goal.write-requires-clause-measured
write-requires-clause-measured g c = c.requires.readable.measured

pub write-requires-clause-committed : goal.write-requires-clause-committed
write-requires-clause-committed g c = subst (λ (group : List ℕ). IsCommitted commit_byte group) (sym c.as_slice.ensures) c.requires.ready.committed

pub write-requires-clause-group : goal.write-requires-clause-group
write-requires-clause-group g c told =
    let room : Book = room_of c.args.self.now c.args.ready in
    subst (λ (group : List ℕ). IsGroupText (book_with c.args.self.now c.args.ready) (length (captures room)) group) (sym c.as_slice.ensures)
    (c.requires.ready.group told)

pub write-requires-clause-sound : goal.write-requires-clause-sound
write-requires-clause-sound g c = c.requires.ready.sound

pub write-requires-clause-fits : goal.write-requires-clause-fits
write-requires-clause-fits g c =
    let end : ℕ = end_with c.args.self.now c.args.ready.prepared in
    subst (λ (group : List ℕ). end + length group < 2 ^ 62) (sym c.as_slice.ensures) c.requires.ready.fits

-- ---- it is refused

pub returns-in_err-place-clause-stored : goal.returns-in_err-place-clause-stored
returns-in_err-place-clause-stored g c = never_ok _ c.from_residual.result c.from_residual.ensures.0

pub returns-in_err-place-clause-left : goal.returns-in_err-place-clause-left
returns-in_err-place-clause-left g c = on_refusal c.from_residual.result c.in_err-place.ensures.left

pub returns-in_err-place-clause-holds : goal.returns-in_err-place-clause-holds
returns-in_err-place-clause-holds g c = c.write.ensures.holds

pub returns-in_err-place-clause-measured : goal.returns-in_err-place-clause-measured
returns-in_err-place-clause-measured g c = c.write.ensures.measured

pub returns-in_err-place-clause-last_len : goal.returns-in_err-place-clause-last_len
returns-in_err-place-clause-last_len g c = never_ok _ c.from_residual.result c.from_residual.ensures.0

pub returns-in_err-place-clause-kept : goal.returns-in_err-place-clause-kept
returns-in_err-place-clause-kept g c = never_ok _ c.from_residual.result c.from_residual.ensures.0

pub returns-in_err-place-clause-unkept : goal.returns-in_err-place-clause-unkept
returns-in_err-place-clause-unkept g c = on_refusal c.from_residual.result refl

pub returns-in_err-place-clause-table : goal.returns-in_err-place-clause-table
returns-in_err-place-clause-table g c = c.requires.table

pub returns-in_err-place-clause-others : goal.returns-in_err-place-clause-others
returns-in_err-place-clause-others g c = c.write.ensures.others

pub returns-in_err-place-clause-faults : goal.returns-in_err-place-clause-faults
returns-in_err-place-clause-faults g c =
    let d = g.D.Disk in
    counts_refused (d.faults (disk_of c.args.self.now.journal)) (d.faults (disk_of c.write.new.self.journal)) c.in_err-place.field-0.0 c.from_residual.result
    c.from_residual.ensures.0 c.in_err-place.ensures.faults

pub returns-in_err-place-clause-spots : goal.returns-in_err-place-clause-spots
returns-in_err-place-clause-spots g c =
    spots_left (book_of c.args.self.now.held) (book_of c.write.new.self.held) c.args.ready.prepared c.args.spots.now.items
    c.in_err-place.ensures.left c.requires.readable.are

pub returns-in_err-place-clause-made : goal.returns-in_err-place-clause-made
returns-in_err-place-clause-made g c made =
    made_left (book_of c.args.self.now.held) (book_of c.write.new.self.held) c.args.ready.prepared c.args.spots.now.items
    c.in_err-place.ensures.left made

pub returns-in_err-place-clause-within : goal.returns-in_err-place-clause-within
returns-in_err-place-clause-within g c tells =
    within_left c.args.ready.prepared (texts g.D.Disk c.args.self.now.journal) (texts g.D.Disk c.write.new.self.journal) c.args.spots.now.items
    (c.in_err-place.ensures.texts_left tells) (c.requires.readable.within tells)

pub returns-in_err-place-clause-placed : goal.returns-in_err-place-clause-placed
returns-in_err-place-clause-placed g c told =
    let tells = c.requires.readable.holds.tells told in
    placed_left (book_of c.args.self.now.held) (book_of c.write.new.self.held) c.args.ready.prepared (texts g.D.Disk c.args.self.now.journal)
    (texts g.D.Disk c.write.new.self.journal) c.args.spots.now.items c.in_err-place.ensures.left (c.in_err-place.ensures.texts_left tells) (c.requires.readable.placed told)

pub returns-in_err-place-clause-writes : goal.returns-in_err-place-clause-writes
returns-in_err-place-clause-writes g c =
    writes_refused (muted c.args.told.now.value g.D.Disk) (laws_muted g.D.Disk c.args.told.now.value (disk_laws g)) (disk_of c.args.self.now.journal) (disk_of c.write.new.self.journal) (book_of c.args.self.now.held)
    (room_of c.args.self.now c.args.ready) (book_with c.args.self.now c.args.ready) (book_of c.write.new.self.held) c.in_err-place.field-0.0
    c.from_residual.result c.from_residual.ensures.0 c.in_err-place.ensures.writes

-- ---- it is kept

pub keep-requires-clause-room : goal.keep-requires-clause-room
keep-requires-clause-room g c = c.requires.space

pub keep-requires-clause-table : goal.keep-requires-clause-table
keep-requires-clause-table g c = c.requires.table

pub keep-requires-clause-few : goal.keep-requires-clause-few
keep-requires-clause-few g c = c.requires.few

pub keep-requires-clause-reserved : goal.keep-requires-clause-reserved
keep-requires-clause-reserved g c =
    let same : c.standing-spot.result.digest ≡ c.args.ready.digest =
    ap (λ (s : Spot). s.digest) c.standing-spot.ensures ∙ ap (λ (s : Spot). s.digest) c.requires.ready.kept in
    c.requires.reserved ∙ ap Some (sym same)

pub returns-clause-stored : goal.returns-clause-stored
returns-clause-stored g c = c.in_ok-place.ensures.stored

pub returns-clause-holds : goal.returns-clause-holds
returns-clause-holds g c = c.write.ensures.holds

pub returns-clause-measured : goal.returns-clause-measured
returns-clause-measured g c = c.write.ensures.measured

pub returns-clause-last_len : goal.returns-clause-last_len
returns-clause-last_len g c =
    let end : ℕ = end_with c.args.self.now c.args.ready.prepared in
    subst (λ (group : List ℕ). last_len c.write.new.self.journal ≡ end + length group) c.as_slice.ensures c.in_ok-place.ensures.last_len

pub returns-clause-table : goal.returns-clause-table
returns-clause-table g c = c.keep.ensures.table

pub returns-clause-others : goal.returns-clause-others
returns-clause-others g c = c.write.ensures.others

pub returns-clause-faults : goal.returns-clause-faults
returns-clause-faults g c =
    let d = g.D.Disk in
    counts_done (d.faults (disk_of c.args.self.now.journal)) (d.faults (disk_of c.write.new.self.journal)) c.in_ok-place.place tt c.in_ok-place.ensures.faults

pub returns-clause-writes : goal.returns-clause-writes
returns-clause-writes g c =
    writes_done (muted c.args.told.now.value g.D.Disk) (laws_muted g.D.Disk c.args.told.now.value (disk_laws g)) (disk_of c.args.self.now.journal) (disk_of c.write.new.self.journal) (book_of c.args.self.now.held)
    (room_of c.args.self.now c.args.ready) (book_with c.args.self.now c.args.ready) (book_of c.write.new.self.held) c.in_ok-place.place tt
    c.in_ok-place.ensures.writes

pub returns-clause-spots : goal.returns-clause-spots
returns-clause-spots g c =
    let is_spot : c.standing-spot.result ≡ spot_in c.args.self.now c.args.ready =
    c.standing-spot.ensures
    ∙ ap (λ (s : Spot). record s { volume = c.in_ok-place.place.volume; at = c.in_ok-place.place.at; head_at = c.in_ok-place.place.at + c.args.ready.layout.head_at }) c.requires.ready.kept
    ∙ ap (λ (p : Place). spot_of (stored_in c.args.ready.stored) c.args.ready.digest p.volume p.at (p.at + c.args.ready.layout.head_at)) c.in_ok-place.ensures.place in
    kept_spots g.D.Disk c.args.told.now.value c.args.self.now c.args.ready c.requires.ready (book_of c.write.new.self.held) c.args.spots.now.items c.keep.new.spots.items c.standing-spot.result
    c.requires.readable.are c.in_ok-place.ensures.stored c.keep.ensures.spots is_spot

pub returns-clause-made : goal.returns-clause-made
returns-clause-made g c made =
    let is_spot : c.standing-spot.result ≡ spot_in c.args.self.now c.args.ready =
    c.standing-spot.ensures
    ∙ ap (λ (s : Spot). record s { volume = c.in_ok-place.place.volume; at = c.in_ok-place.place.at; head_at = c.in_ok-place.place.at + c.args.ready.layout.head_at }) c.requires.ready.kept
    ∙ ap (λ (p : Place). spot_of (stored_in c.args.ready.stored) c.args.ready.digest p.volume p.at (p.at + c.args.ready.layout.head_at)) c.in_ok-place.ensures.place in
    kept_made g.D.Disk c.args.told.now.value c.args.self.now c.args.ready c.requires.ready (book_of c.write.new.self.held) c.args.spots.now.items c.keep.new.spots.items c.standing-spot.result
    made c.in_ok-place.ensures.stored c.keep.ensures.spots is_spot

pub returns-clause-within : goal.returns-clause-within
returns-clause-within g c tells =
    let is_spot : c.standing-spot.result ≡ spot_in c.args.self.now c.args.ready =
    c.standing-spot.ensures
    ∙ ap (λ (s : Spot). record s { volume = c.in_ok-place.place.volume; at = c.in_ok-place.place.at; head_at = c.in_ok-place.place.at + c.args.ready.layout.head_at }) c.requires.ready.kept
    ∙ ap (λ (p : Place). spot_of (stored_in c.args.ready.stored) c.args.ready.digest p.volume p.at (p.at + c.args.ready.layout.head_at)) c.in_ok-place.ensures.place in
    let all : List (List ℕ) = texts_with (texts g.D.Disk c.args.self.now.journal) c.args.ready.prepared in
    kept_within g.D.Disk c.args.told.now.value c.args.self.now c.args.ready c.requires.ready tells (texts g.D.Disk c.write.new.self.journal)
    c.args.spots.now.items c.keep.new.spots.items c.standing-spot.result (c.requires.readable.within tells)
    (c.in_ok-place.ensures.text tells ∙ ap (λ (t : List ℕ). with_more all t) c.as_slice.ensures) c.keep.ensures.spots is_spot

pub returns-clause-placed : goal.returns-clause-placed
returns-clause-placed g c told =
    let is_spot : c.standing-spot.result ≡ spot_in c.args.self.now c.args.ready =
    c.standing-spot.ensures
    ∙ ap (λ (s : Spot). record s { volume = c.in_ok-place.place.volume; at = c.in_ok-place.place.at; head_at = c.in_ok-place.place.at + c.args.ready.layout.head_at }) c.requires.ready.kept
    ∙ ap (λ (p : Place). spot_of (stored_in c.args.ready.stored) c.args.ready.digest p.volume p.at (p.at + c.args.ready.layout.head_at)) c.in_ok-place.ensures.place in
    let all : List (List ℕ) = texts_with (texts g.D.Disk c.args.self.now.journal) c.args.ready.prepared in
    kept_placed g.D.Disk c.args.told.now.value c.args.self.now c.args.ready c.requires.ready told c.requires.readable.holds (texts g.D.Disk c.write.new.self.journal) (book_of c.write.new.self.held)
    c.args.spots.now.items c.keep.new.spots.items c.standing-spot.result c.requires.readable.are (c.requires.readable.placed told)
    (c.in_ok-place.ensures.text (c.requires.readable.holds.tells told) ∙ ap (λ (t : List ℕ). with_more all t) c.as_slice.ensures)
    c.in_ok-place.ensures.stored c.keep.ensures.spots is_spot

pub returns-clause-kept : goal.returns-clause-kept
returns-clause-kept g c =
    let is_spot : c.standing-spot.result ≡ spot_in c.args.self.now c.args.ready =
    c.standing-spot.ensures
    ∙ ap (λ (s : Spot). record s { volume = c.in_ok-place.place.volume; at = c.in_ok-place.place.at; head_at = c.in_ok-place.place.at + c.args.ready.layout.head_at }) c.requires.ready.kept
    ∙ ap (λ (p : Place). spot_of (stored_in c.args.ready.stored) c.args.ready.digest p.volume p.at (p.at + c.args.ready.layout.head_at)) c.in_ok-place.ensures.place in
    c.keep.ensures.spots ∙ ap (λ (s : Spot). c.args.spots.now.items ++ s ∷ []) is_spot

pub returns-in_err-place-clause-bytes : goal.returns-in_err-place-clause-bytes
returns-in_err-place-clause-bytes g c tells =
    let old = c.args.self.now.journal in
    let new = c.write.new.self.journal in
    let room : List (List ℕ) = texts_with (texts g.D.Disk old) c.args.ready.prepared in
    subst (λ (group : List ℕ). WritesTexts g.D.Disk old new (texts_as room (with_more room group)) c.from_residual.result) c.as_slice.ensures
    (texts_refused g.D.Disk old new room (with_more room c.as_slice.result.now) c.in_err-place.field-0.0 c.from_residual.result c.from_residual.ensures.0
    (c.in_err-place.ensures.bytes tells))

pub returns-clause-bytes : goal.returns-clause-bytes
returns-clause-bytes g c tells =
    let old = c.args.self.now.journal in
    let new = c.write.new.self.journal in
    let room : List (List ℕ) = texts_with (texts g.D.Disk old) c.args.ready.prepared in
    subst (λ (group : List ℕ). WritesTexts g.D.Disk old new (texts_as room (with_more room group)) (Ok tt)) c.as_slice.ensures
    (texts_done g.D.Disk old new room (with_more room c.as_slice.result.now) c.in_ok-place.place tt (c.in_ok-place.ensures.bytes tells))
