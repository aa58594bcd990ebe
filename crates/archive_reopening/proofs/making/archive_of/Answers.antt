use Rattle.std.proofs.Common.{◌≡◌, ◌-◌, ◌≤◌, IsTrue, length, refl, sym, ap, subst, ◌∙◌, arith}
use Rattle.std.specs.Prelude.{count_by}
use Rattle.capture.specs.declared.book.Book.{Book}
use Rattle.revisit_table.specs.Table.{LazyTable, Table}
use Rattle.warc_journal.specs.Journals.{disk_of, texts}
use Rattle.warc_text.specs.Books.{AreVolumeTexts}
use Rattle.warc_text.specs.Sound.{IsSound}
use Rattle.archive_volumes.specs.Held.{book_of}
use Rattle.archive_volumes.specs.Volumes.{IsMeasured}
use Rattle.archive_volumes.specs.declared.volumes.Volumes.{Volumes}
use Rattle.disk_model.specs.Crash.{Leaves}
use Rattle.archive_settling.specs.Finished.{AreLinedTo, FirstAreFinished}
use Rattle.archive_reopening.proofs.MadeLaws.{AreParts, entries_as, first_told, made_archive, named_by, parts_of, same_spot, shown_sorted}
use Rattle.archive_reopening.proofs.making.archive_of.Given.{Over}
use Rattle.archive_reopening.proofs.making.archive_of.Goals as goal

book_is : (g : Over) (c : goal.After-over g) → book_of c.over.result.held ≡ book_of c.args.opened.gathered.held
book_is g c = ap (λ (v : Volumes _). book_of v.held) c.over.ensures.value ∙ ap book_of c.into_parts-held.ensures.held

kept_is : (g : Over) (c : goal.After-over g) → c.in-Ok.tables.0.kept ≡ c.args.opened.gathered.table.kept
kept_is g c = ap (λ (t : Table). t.kept) c.in-Ok.ensures.table ∙ ap (λ (t : LazyTable). t.kept) c.into_parts-held.ensures.table

parts : (g : Over) (c : goal.After-over g) → AreParts g.D.Disk c.args.told.value c.over.result.journal (book_of c.over.result.held) c.into_parts-held.result.1.items
    c.in-Ok.tables.0.kept c.args.opened.gathered.lengths.items c.into_parts-held.result.3.items
parts g c =
    parts_of g.D.Disk c.args.told.value c.args.opened c.requires.usable c.requires.numbered c.requires.entries c.over.result.journal (book_of c.over.result.held) c.into_parts-held.result.1.items
    c.in-Ok.tables.0.kept c.into_parts-held.result.3.items (ap (λ (v : Volumes _). v.journal) c.over.ensures.value) (book_is g c)
    c.into_parts-held.ensures.spots (kept_is g c) c.into_parts-held.ensures.entries

pub over-requires-clause-tells : goal.over-requires-clause-tells
over-requires-clause-tells g c = c.requires.usable.tells

pub over-requires-clause-in_step : goal.over-requires-clause-in_step
over-requires-clause-in_step g c tells = c.requires.usable.in_step tells

pub over-requires-clause-left : goal.over-requires-clause-left
over-requires-clause-left g c tells = c.requires.usable.left tells

pub over-requires-clause-measured : goal.over-requires-clause-measured
over-requires-clause-measured g c =
    subst (IsMeasured c.args.opened.journal) (sym (ap book_of c.into_parts-held.ensures.held)) c.requires.usable.measured

pub over-requires-clause-texts_are : goal.over-requires-clause-texts_are
over-requires-clause-texts_are g c told =
    subst (λ (b : Book). AreVolumeTexts b (texts g.D.Disk c.args.opened.journal)) (sym (ap book_of c.into_parts-held.ensures.held))
    (c.requires.usable.texts_are told)

pub over-requires-clause-sound : goal.over-requires-clause-sound
over-requires-clause-sound g c told =
    subst IsSound (sym (ap book_of c.into_parts-held.ensures.held)) (c.requires.usable.sound told)

found_is : (g : Over) (c : goal.After-over g) → c.len-found.result ≡ length c.into_parts-held.result.1.items
found_is g c = omega (arith, c.len-found.ensures, c.into_parts-held.result.1.ok.0)

-- how many volumes are sealed, and of those lines told
sealed_is : (g : Over) (c : goal.After-over g) → c.lined_volumes-settled.result ≤ length (book_of c.over.result.held).volumes - 1
sealed_is g c = omega (
  arith,
  c.lined_volumes-settled.ensures.few,
  c.saturating_sub-sealed.ensures,
  c.volumes.ensures,
  c.requires.usable.measured.count,
  ap (λ (b : Book). length b.volumes) (book_is g c),
)

lined : (g : Over) (c : goal.After-over g) → AreLinedTo c.into_parts-held.result.1.items c.lined_volumes-settled.result
lined g c = rw c.as_slice-2.ensures.value at c.lined_volumes-settled.ensures.lined

first_is : (g : Over) (c : goal.After-over g) → IsTrue c.args.told.value
    → Leaves (g.D.Disk.images (disk_of c.over.result.journal)) (FirstAreFinished (book_of c.over.result.held) c.lined_volumes-settled.result)
first_is g c so =
    first_told g.D.Disk c.args.opened c.over.result.journal (book_of c.over.result.held) c.into_parts-held.result.1.items c.lined_volumes-settled.result
    (ap (λ (v : Volumes _). v.journal) c.over.ensures.value) (book_is g c) c.into_parts-held.ensures.spots (c.requires.finished so) (lined g c)

pub invariant_of-result : goal.invariant_of-result
invariant_of-result g c =
    made_archive g.D.Disk c.args.told.value c.over.result.journal (book_of c.over.result.held) c.into_parts-held.result.1.items c.in-Ok.tables.0
    c.args.opened.gathered.lengths.items c.into_parts-held.result.3.items c.in-Ok.tables.1 (parts g c) c.in-Ok.ensures.same c.in-Ok.ensures.index
    c.args.limits c.len-found.result c.revisits_among-revisits.result c.lined_volumes-settled.result
    c.over.ensures.holds c.over.ensures.measured c.requires.limits (found_is g c)
    (c.revisits_among-revisits.ensures ∙ ap (count_by same_spot) c.as_slice.ensures.value)
    (sealed_is g c) (λ so. first_is g c so)

pub returns-clause-made : goal.returns-clause-made
returns-clause-made g c =
    let book : book_of c.over.result.held ≡ book_of c.args.opened.gathered.held =
    ap (λ (v : Volumes _). book_of v.held) c.over.ensures.value ∙ ap book_of c.into_parts-held.ensures.held in
    let are : AreParts g.D.Disk c.args.told.value c.over.result.journal (book_of c.over.result.held) c.into_parts-held.result.1.items
    c.in-Ok.tables.0.kept c.args.opened.gathered.lengths.items c.into_parts-held.result.3.items =
    parts_of g.D.Disk c.args.told.value c.args.opened c.requires.usable c.requires.numbered c.requires.entries c.over.result.journal (book_of c.over.result.held) c.into_parts-held.result.1.items
    c.in-Ok.tables.0.kept c.into_parts-held.result.3.items (ap (λ (v : Volumes _). v.journal) c.over.ensures.value) book
    c.into_parts-held.ensures.spots (kept_is g c) c.into_parts-held.ensures.entries in
    let count : c.len-found.result ≡ length c.into_parts-held.result.1.items = found_is g c in
    record {
      journal_is = ap (λ (v : Volumes _). v.journal) c.over.ensures.value;
      book_is = book;
      spots_are = c.into_parts-held.ensures.spots;
      shown = λ entries.
          shown_sorted g.D.Disk c.args.told.value c.over.result.journal (book_of c.over.result.held) c.into_parts-held.result.1.items c.in-Ok.tables.0
          c.args.opened.gathered.lengths.items c.into_parts-held.result.3.items c.in-Ok.tables.1 are c.in-Ok.ensures.same c.in-Ok.ensures.index
          (entries_as (book_of c.args.opened.gathered.held) (book_of c.over.result.held) c.args.opened.gathered.entries.items c.into_parts-held.result.3.items
          book c.into_parts-held.ensures.entries entries);
      named = named_by g.D.Disk c.args.told.value c.over.result.journal (book_of c.over.result.held) c.into_parts-held.result.1.items c.in-Ok.tables.0
          c.args.opened.gathered.lengths.items c.into_parts-held.result.3.items c.in-Ok.tables.1 are c.in-Ok.ensures.same c.in-Ok.ensures.index;
      found = count ∙ are.0.count;
      limits_are = refl;
      told_is = refl;
      lined = lined g c;
    }
