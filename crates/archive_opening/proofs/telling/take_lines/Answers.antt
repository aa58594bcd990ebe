use Rattle.std.proofs.Common.{rules, ◌≡◌, ◌+◌, ◌<◌, ◌^◌, ◌-◌, ℕ, List, length, refl, sym, ap, subst, ◌∙◌, arith}
use Rattle.std.proofs.lemmas.List.Elements.{All-weaker}
use Rattle.std.proofs.lemmas.List.Sorted.{All-permutation}
use Rattle.cdxj_line.specs.Lines.{IsWritable}
use Rattle.cdxj_line.specs.declared.line.Line.{Line}
use Rattle.volume_scan.specs.Scannings.{captures_of, disk_of, position_of, texts as texts_read}
use Rattle.volume_scan.specs.declared.position.Position.{Position}
use Rattle.volume_scan.specs.declared.position.Stage.TheVariants.{Skipped}
use Rattle.archive_volumes.specs.Held.{book_of}
use Rattle.archive_opening.specs.Counting.{CountsOn}
use Rattle.archive_gathering.specs.Lines.{AreBehind, AreNext}
use Rattle.archive_opening.proofs.LinedLaws.{counts_lined, read_unfit}
use Rattle.archive_opening.proofs.SkipLaws.{few_next, goes_skipped, length_moved}
use Rattle.archive_opening.proofs.telling.take_lines.Given.{Over}
use Rattle.archive_opening.proofs.telling.take_lines.Goals as goal

next : (g : Over) (c : goal.After-len-count g) → AreNext (captures_of c.args.scanning.now) c.args.told.len c.by_number-lines.result.items
next g c =
    subst (λ (n : ℕ). AreNext n c.args.told.len c.by_number-lines.result.items) c.captures-first.ensures
    (subst (λ (l : List Line). AreNext c.captures-first.result c.args.told.len l) c.as_slice.ensures.value (c.if-not-are_next.ensures.next refl).0)

few : (g : Over) (c : goal.After-len-count g) → captures_of c.args.scanning.now + length c.by_number-lines.result.items < 2 ^ 32 - 1
few g c =
    few_next (captures_of c.args.scanning.now) c.args.told.len c.by_number-lines.result.items
    (omega (arith, c.requires.steady.few, c.requires.steady.count, c.requires.goes.count)) (next g c)

pub overflow_cast-count : goal.overflow_cast-count
overflow_cast-count g c = omega (arith, few g c, c.len-count.ensures)

pub add_lines-requires-clause-writable : goal.add_lines-requires-clause-writable
add_lines-requires-clause-writable g c = All-permutation IsWritable c.args.told.lines.items c.by_number-lines.result.items c.by_number-lines.ensures.moved c.requires.fit.writable

pub add_lines-requires-clause-of_volume : goal.add_lines-requires-clause-of_volume
add_lines-requires-clause-of_volume g c =
    let P : Line → Type 0 = λ l. l.volume ≡ c.args.told.volume in
    let all = All-permutation P c.args.told.lines.items c.by_number-lines.result.items c.by_number-lines.ensures.moved c.requires.fit.of_volume in
    All-weaker P (λ l. l.volume + 1 ≡ length (book_of c.args.gathered.now.held).volumes)
    (λ l is. omega (arith, is, c.requires.opens.volume_is, c.requires.goes.volumes)) c.by_number-lines.result.items all

pub returns-in-Ok-clause-goes : goal.returns-in-Ok-clause-goes
returns-in-Ok-clause-goes g c =
    let d = g.D.Disk in
    let lines = c.by_number-lines.result.items in
    let old = c.args.scanning.now in
    let next_is : AreNext (captures_of old) c.args.told.len lines =
    subst (λ (n : ℕ). AreNext n c.args.told.len lines) c.captures-first.ensures
    (subst (λ (l : List Line). AreNext c.captures-first.result c.args.told.len l) c.as_slice.ensures.value (c.if-not-are_next.ensures.next refl).0) in
    let new = c.skip.new.self in
    let count : c.len-count.result ≡ length lines = search rules in
    let position : position_of new ≡ record (position_of old) {
      extent = record (position_of old).extent { end = (position_of new).extent.end };
      captures = captures_of old + length lines;
      stage = Skipped;
    } =
    c.skip.ensures.position
    ∙ ap (λ (n : ℕ). record (position_of old) { extent = record (position_of old).extent { end = (position_of new).extent.end }; captures = captures_of old + n; stage = Skipped }) count in
    let some : 0 < length lines = omega (arith, c.requires.fit.some, length_moved c.args.told.lines.items lines c.by_number-lines.ensures.moved) in
    goes_skipped d c.args.known.now.value c.args.scanning.now c.skip.new.self c.args.gathered.now c.add_lines.new.self c.requires.goes c.requires.steady c.requires.in_place
    c.args.told c.requires.opens c.requires.fit c.requires.read lines c.by_number-lines.ensures.moved next_is c.in-Ok.ensures.more some position c.skip.ensures.read c.skip.ensures.disk
    c.in-Ok.ensures.spots c.reading_laws.ensures c.files_begin_with_what_was_read.ensures c.in-Ok.ensures.within c.in-Ok.ensures.made
    (λ b same so are. c.in-Ok.ensures.told b (texts_read d old) same so are)

pub returns-then-not-are_next-clause-counts : goal.returns-then-not-are_next-clause-counts
returns-then-not-are_next-clause-counts g c = λ tells.
    let old = c.args.scanning.now in
    let lines = c.by_number-lines.result.items in
    read_unfit g.D.Disk c.args.known.now.value old c.args.gathered.now c.requires.goes c.args.told.volume c.requires.opens (g.D.Disk.reading (disk_of old))
    (c.requires.counts tells) c.args.told refl (c.requires.read tells) lines c.by_number-lines.ensures.moved c.by_number-lines.ensures.in_order
    (λ next behind. c.if-not-are_next.ensures.other refl
    (subst (λ (n : ℕ). AreNext n c.args.told.len c.as_slice.result.now) (sym c.captures-first.ensures)
    (subst (λ (l : List Line). AreNext (captures_of old) c.args.told.len l) (sym c.as_slice.ensures.value) next))
    (subst (AreBehind 0) (sym c.as_slice.ensures.value) behind))

pub returns-in-Ok-clause-counts : goal.returns-in-Ok-clause-counts
returns-in-Ok-clause-counts g c = λ tells.
    let d = g.D.Disk in
    let old = c.args.scanning.now in
    let new = c.skip.new.self in
    let lines = c.by_number-lines.result.items in
    let next_is : AreNext (captures_of old) c.args.told.len lines =
    subst (λ (n : ℕ). AreNext n c.args.told.len lines) c.captures-first.ensures
    (subst (λ (l : List Line). AreNext c.captures-first.result c.args.told.len l) c.as_slice.ensures.value (c.if-not-are_next.ensures.next refl).0) in
    let behind : AreBehind 0 lines = subst (AreBehind 0) c.as_slice.ensures.value (c.if-not-are_next.ensures.next refl).1 in
    subst (λ (x : _). CountsOn (d.reading x) (position_of new) (book_of c.add_lines.new.self.held)) (sym c.skip.ensures.disk)
    (counts_lined d c.args.known.now.value old c.args.gathered.now c.requires.goes c.args.told.volume c.requires.opens (d.reading (disk_of old)) (c.requires.counts tells)
    c.args.told refl (c.requires.read tells) lines c.by_number-lines.ensures.moved new c.add_lines.new.self next_is behind c.in-Ok.ensures.more
    (ap (λ (p : Position). p.stage) c.skip.ensures.position) (omega (arith, c.requires.another, (c.requires.in_place.stands tells).count)))
