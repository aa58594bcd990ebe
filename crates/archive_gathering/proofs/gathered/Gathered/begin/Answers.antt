use Rattle.std.proofs.Common.{rules, ◌≡◌, ℕ, ◌<◌, false, length, sym, subst, ◌∙◌, inl, inr, arith}
use Rattle.std.specs.Prelude.{nat_eq}
use Rattle.std.specs.Cmp.Lexicographic.{other_text, pointwise, same_text}
use Rattle.std.proofs.lemmas.Bool.{not-false, not-true}
use Rattle.std.proofs.lemmas.Result.{on_ok_weaker}
use Rattle.capture.specs.declared.book.Book.{Book}
use Rattle.record_opening.specs.Infos.{IsInfo}
use Rattle.archive_gathering.specs.Gathering.{HasBegun, HasVolumeMore}
use Rattle.archive_volumes.specs.Held.{book_of}
use Rattle.archive_gathering.proofs.BeginLaws.{begun, begun_first, empty_by, filled_all, filled_by, not_zero}
use Rattle.archive_gathering.proofs.StartLaws.{begun_anew, begun_one}
use Rattle.archive_gathering.specs.Shapes.{HasBegunOne}
use Rattle.archive_gathering.proofs.RefusalLaws.{behind_an_empty_one, other_namespace}
use Rattle.archive_gathering.proofs.gathered.Gathered.begin.Goals as goal

pub returns-then-ne-clause-damaged : goal.returns-then-ne-clause-damaged
returns-then-ne-clause-damaged c = λ known texts text gathered at info _.
    let book : Book = book_of c.args.self.now.held in
    let apart : pointwise nat_eq c.args.namespace book.namespace ≡ false =
    not-true (pointwise nat_eq c.args.namespace book.namespace) (sym c.ne.ensures ∙ c.if-ne.true) in
    let some : 0 < length texts = omega (arith, not_zero c.args.volume (search rules), at) in
    other_namespace c.reading_laws.ensures book texts known gathered.read text c.args.namespace c.args.born some
    (subst (λ (v : ℕ). IsInfo v text c.args.namespace c.args.born (length text)) at info)
    (other_text c.args.namespace book.namespace (sym apart))

pub returns-then-not-is_filled-clause-damaged : goal.returns-then-not-is_filled-clause-damaged
returns-then-not-is_filled-clause-damaged c = λ known texts text gathered at info _.
    let book : Book = book_of c.args.self.now.held in
    let some : 0 < length texts = omega (arith, not_zero c.args.volume (search rules), at) in
    let empty = empty_by book (omega (arith, gathered.read.are.count, some)) (sym c.is_filled.ensures ∙ c.if-not-is_filled.true) in
    behind_an_empty_one c.reading_laws.ensures book texts known gathered.read text c.args.namespace c.args.born empty.number empty.volume
    (subst (λ (v : ℕ). IsInfo v text c.args.namespace c.args.born (length text)) at info) empty.last empty.placed empty.none

pub returns-clause-gathered : goal.returns-clause-gathered
returns-clause-gathered c = λ known texts text gathered at info.
    let was = c.args.self.now in
    let book : Book = book_of was.held in
    let same : c.args.namespace ≡ book.namespace =
    same_text c.args.namespace book.namespace (sym (not-false (pointwise nat_eq c.args.namespace book.namespace) (sym c.ne.ensures ∙ c.if-ne.false))) in
    on_ok_weaker {P = HasVolumeMore was c.add_volume-2.new.self c.args.born} {Q = HasBegun known was c.add_volume-2.new.self texts text c.args.namespace} c.add_volume-2.result
    (λ more. begun c.reading_laws.ensures known was c.add_volume-2.new.self texts text c.args.namespace c.args.born gathered
    (subst (λ (v : ℕ). IsInfo v text c.args.namespace c.args.born (length text)) at info) same
    (filled_by known book texts gathered.read (sym c.is_filled.ensures ∙ c.if-not-is_filled.false)) more)
    c.add_volume-2.ensures.added

pub returns-then-volume-eq0-clause-gathered : goal.returns-then-volume-eq0-clause-gathered
returns-then-volume-eq0-clause-gathered c = λ known texts text gathered at info.
    let first = c.new.result in
    let zero : 0 ≡ length texts = search rules in
    on_ok_weaker {P = HasVolumeMore first c.add_volume.new.self c.args.born} {Q = HasBegun known c.args.self.now c.add_volume.new.self texts text c.args.namespace} c.add_volume.result
    (λ more. begun_first c.reading_laws.ensures known c.args.self.now first c.add_volume.new.self texts text c.args.namespace c.args.volume c.args.born gathered
    zero at info c.new.ensures.book (c.new.ensures.gathered known) more)
    c.add_volume.ensures.added

pub returns-clause-begun : goal.returns-clause-begun
returns-clause-begun c = λ at.
    let was = c.args.self.now in
    let is = c.add_volume-2.new.self in
    let book : Book = book_of was.held in
    let same : c.args.namespace ≡ book.namespace =
    same_text c.args.namespace book.namespace (sym (not-false (pointwise nat_eq c.args.namespace book.namespace) (sym c.ne.ensures ∙ c.if-ne.false))) in
    on_ok_weaker {P = HasVolumeMore was is c.args.born} {Q = HasBegunOne was is c.args.namespace} c.add_volume-2.result
    (λ more. subst (HasBegunOne was is) (sym same)
    (begun_one was is c.args.born (λ before. filled_all book before (sym c.is_filled.ensures ∙ c.if-not-is_filled.false)) more))
    c.add_volume-2.ensures.added

pub returns-then-volume-eq0-clause-begun : goal.returns-then-volume-eq0-clause-begun
returns-then-volume-eq0-clause-begun c = λ at.
    let was = c.args.self.now in
    let first = c.new.result in
    let is = c.add_volume.new.self in
    let zero : c.args.volume ≡ 0 = search rules in
    on_ok_weaker {P = HasVolumeMore first is c.args.born} {Q = HasBegunOne was is c.args.namespace} c.add_volume.result
    (λ more. begun_anew was first is c.args.namespace c.args.born c.requires.steady (omega (arith, at, zero)) c.new.ensures.book c.new.ensures.spots c.new.ensures.entries more)
    c.add_volume.ensures.added

pub returns-then-ne-clause-unfit : goal.returns-then-ne-clause-unfit
returns-then-ne-clause-unfit c = λ at _.
    let book : Book = book_of c.args.self.now.held in
    let apart : pointwise nat_eq c.args.namespace book.namespace ≡ false =
    not-true (pointwise nat_eq c.args.namespace book.namespace) (sym c.ne.ensures ∙ c.if-ne.true) in
    (omega (arith, not_zero c.args.volume (search rules), at), inl (other_text c.args.namespace book.namespace (sym apart)))

pub returns-then-not-is_filled-clause-unfit : goal.returns-then-not-is_filled-clause-unfit
returns-then-not-is_filled-clause-unfit c = λ at _.
    let book : Book = book_of c.args.self.now.held in
    let some : 0 < length book.volumes = omega (arith, not_zero c.args.volume (search rules), at) in
    (some, inr (empty_by book some (sym c.is_filled.ensures ∙ c.if-not-is_filled.true)))
