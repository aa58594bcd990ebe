use Rattle.std.proofs.Common.{ℕ, ◌+◌, ◌^◌, ◌<◌, List, length, refl, sym, ap, subst, ◌∙◌, arith}
use Rattle.std.specs.Prelude.{IfSome}
use Rattle.capture.specs.declared.book.Book.{Book}
use Rattle.capture.specs.declared.captured.Stored.{Stored}
use Rattle.warc_journal.specs.Journals.{last_len}
use Rattle.archive_volumes.specs.Grouping.{IsGroupFor, StandsAt}
use Rattle.archive_volumes.specs.Held.{book_of}
use Rattle.archive_volumes.specs.Spots.{spot_of}
use Rattle.archive_volumes.specs.Writing.{IsDecided, end_with}
use Rattle.archive_volumes.proofs.ExitLaws.{not_done}
use Rattle.archive_volumes.proofs.KeepLaws.{refers_within}
use Rattle.archive_volumes.proofs.volumes.Volumes.make_ready.Goals as goal

-- ---- what is asked

pub group_of-requires-clause-spots : goal.group_of-requires-clause-spots
group_of-requires-clause-spots g c = c.requires.spots

pub group_of-requires-clause-few : goal.group_of-requires-clause-few
group_of-requires-clause-few g c = omega (arith, c.requires.few)

pub group_of-requires-clause-date : goal.group_of-requires-clause-date
group_of-requires-clause-date g c = c.requires.fits.date

pub group_of-requires-clause-same : goal.group_of-requires-clause-same
group_of-requires-clause-same g c =
    let book : Book = book_of c.args.self.now.held in
    subst (λ (n : ℕ). IfSome c.args.same (λ first. first < n)) (sym c.requires.spots.count)
    (refers_within c.args.taken.now.cut book c.args.same c.requires.refers)

pub layout_of-layout-requires-clause-short : goal.layout_of-layout-requires-clause-short
layout_of-layout-requires-clause-short g c = c.requires.fits.short

pub layout_of-layout-requires-clause-group : goal.layout_of-layout-requires-clause-group
layout_of-layout-requires-clause-group g c =
    let book : Book = book_of c.args.self.now.held in
    let payload : List ℕ = c.requires.payload.0 in (
      book,
      payload,
      subst (λ (text : List ℕ). IsGroupFor book c.args.taken.now payload c.args.same text) (sym c.as_slice.ensures)
          (c.in_ok-group.ensures.group payload c.requires.payload.1),
    )

pub make_room-requires-clause-measured : goal.make_room-requires-clause-measured
make_room-requires-clause-measured g c = c.requires.measured

pub make_room-requires-clause-few : goal.make_room-requires-clause-few
make_room-requires-clause-few g c = omega (arith, c.requires.few, c.requires.spots.count)

pub make_room-requires-clause-date : goal.make_room-requires-clause-date
make_room-requires-clause-date g c = c.requires.fits.date

pub make_room-requires-clause-group : goal.make_room-requires-clause-group
make_room-requires-clause-group g c =
    omega (arith, c.in_ok-group.ensures.short c.requires.fits.short c.requires.payload.0 c.requires.payload.1, ap length c.as_slice-2.ensures)

pub make_room-requires-clause-limit : goal.make_room-requires-clause-limit
make_room-requires-clause-limit g c = c.requires.limit

-- ---- without memory

pub returns-in_err-group-clause-ready : goal.returns-in_err-group-clause-ready
returns-in_err-group-clause-ready g c payload is = not_done _ c.from_residual.result c.from_residual.ensures.0

pub returns-in_err-spot-clause-ready : goal.returns-in_err-spot-clause-ready
returns-in_err-spot-clause-ready g c payload is = not_done _ c.from_residual-in_err-spot.result c.from_residual-in_err-spot.ensures.0

pub returns-in_err-prepared-clause-ready : goal.returns-in_err-prepared-clause-ready
returns-in_err-prepared-clause-ready g c payload is = not_done _ c.from_residual-in_err-prepared.result c.from_residual-in_err-prepared.ensures.0

pub returns-in_err-prepared-clause-book : goal.returns-in_err-prepared-clause-book
returns-in_err-prepared-clause-book g c = c.make_room.ensures.book

pub returns-in_err-prepared-clause-journal : goal.returns-in_err-prepared-clause-journal
returns-in_err-prepared-clause-journal g c = c.make_room.ensures.journal

-- ---- it is ready

pub returns-clause-book : goal.returns-clause-book
returns-clause-book g c = c.make_room.ensures.book

pub returns-clause-journal : goal.returns-clause-journal
returns-clause-journal g c = c.make_room.ensures.journal

pub returns-clause-ready : goal.returns-clause-ready
returns-clause-ready g c payload is = record {
  stored = c.of_taken-2.ensures;
  digest = refl;
  kept = c.in_ok-spot.ensures ∙ ap (λ (s : Stored). spot_of s c.args.digest.now 0 0 0) (sym c.of_taken-2.ensures);
  group = c.in_ok-group.ensures.group payload is;
  layout = subst (λ (text : List ℕ). StandsAt c.args.taken.now c.args.same text c.layout_of-layout.result) c.as_slice.ensures c.layout_of-layout.ensures;
  room = c.in_ok-prepared.ensures.room;
  decided = subst (λ (text : List ℕ). IsDecided c.args.limit (book_of c.args.self.now.held) (last_len c.args.self.now.journal) (length text) c.in_ok-prepared.prepared)
      c.as_slice-2.ensures c.in_ok-prepared.ensures.decided;
  born = c.in_ok-prepared.ensures.born;
  fits = subst (λ (text : List ℕ). end_with c.make_room.new.self c.in_ok-prepared.prepared + length text < 2 ^ 62) c.as_slice-2.ensures c.in_ok-prepared.ensures.fits;
}
