use Rattle.std.proofs.Common.{◌≡◌, ◌+◌, ◌^◌, ◌<◌, ℕ, List, length, Option, Some, None, sym, ap, subst}
use Rattle.std.specs.Prelude.{IfOk, IfSome, slice_get}
use Rattle.capture.specs.declared.book.Book.{Book}
use Rattle.time_text.specs.Texts.{InRange}
use Rattle.warc_text.specs.Records.{group_text}
use Rattle.warc_text.specs.References.{reference_to}
use Rattle.warc_text.specs.declared.same_of.SameOf.{SameOf}
use Rattle.archive_volumes.specs.Grouping.{IsGroupFor}
use Rattle.archive_volumes.specs.Held.{book_of}
use Rattle.archive_volumes.proofs.GroupLaws.{group_for, if_ok_so, short_of_none, got, short_of_some, tells_by}
use Rattle.archive_volumes.proofs.volumes.Volumes.group_of.Goals as goal

pub group_text-requires-clause-same_date : goal.group_text-requires-clause-same_date
group_text-requires-clause-same_date g c =
    let within : c.in-Some.first < length c.args.spots.now =
    subst (λ (o : Option ℕ). IfSome o (λ first. first < length c.args.spots.now)) c.in-Some.is c.requires.same in
    let at : slice_get c.args.spots.now c.in-Some.first ≡ Some c.index-spots-first.result =
    got c.args.spots.now c.in-Some.first c.index-spots-first.result within c.index-spots-first.is in
    subst InRange (sym (ap (λ (s : SameOf). s.date) c.in_ok-same-in-Some.ensures)) (c.requires.spots.each c.in-Some.first c.index-spots-first.result at).in_range

pub returns-in_ok-same-in-Some-clause-group : goal.returns-in_ok-same-in-Some-clause-group
returns-in_ok-same-in-Some-clause-group g c payload digested =
    let book : Book = book_of c.args.self.now.held in
    let number : ℕ = length c.args.spots.now in
    let same : SameOf = c.in_ok-same-in-Some.same in
    let within : c.in-Some.first < length c.args.spots.now =
    subst (λ (o : Option ℕ). IfSome o (λ first. first < length c.args.spots.now)) c.in-Some.is c.requires.same in
    let at : slice_get c.args.spots.now c.in-Some.first ≡ Some c.index-spots-first.result =
    got c.args.spots.now c.in-Some.first c.index-spots-first.result within c.index-spots-first.is in
    subst (λ (o : Option ℕ). IfOk c.group_text.result (IsGroupFor book c.args.taken.now payload o)) (sym c.in-Some.is)
    (if_ok_so (λ (text : List ℕ). text ≡ group_text book.namespace number c.args.taken.now c.args.digest.now (Some (reference_to book.namespace same)))
    (IsGroupFor book c.args.taken.now payload (Some c.in-Some.first)) c.group_text.result c.group_text.ensures
    (λ text is. group_for book c.args.taken.now number c.args.digest.now payload (Some c.in-Some.first) (Some same) text
    (tells_by book c.args.spots.now c.in-Some.first c.index-spots-first.result same c.requires.spots at c.in_ok-same-in-Some.ensures)
    c.requires.spots.count digested is))

pub returns-in_ok-same-in-Some-clause-short : goal.returns-in_ok-same-in-Some-clause-short
returns-in_ok-same-in-Some-clause-short g c short payload digested =
    let book : Book = book_of c.args.self.now.held in
    let number : ℕ = length c.args.spots.now in
    let same : SameOf = c.in_ok-same-in-Some.same in
    let within : c.in-Some.first < length c.args.spots.now =
    subst (λ (o : Option ℕ). IfSome o (λ first. first < length c.args.spots.now)) c.in-Some.is c.requires.same in
    let at : slice_get c.args.spots.now c.in-Some.first ≡ Some c.index-spots-first.result =
    got c.args.spots.now c.in-Some.first c.index-spots-first.result within c.index-spots-first.is in
    if_ok_so (λ (text : List ℕ). text ≡ group_text book.namespace number c.args.taken.now c.args.digest.now (Some (reference_to book.namespace same)))
    (λ (text : List ℕ). length text < 2 ^ 61 + 2 ^ 60) c.group_text.result c.group_text.ensures
    (λ text is. short_of_some book c.args.spots.now c.in-Some.first c.index-spots-first.result same book.namespace number c.args.taken.now
    c.args.digest.now payload text c.requires.spots at c.in_ok-same-in-Some.ensures digested short is)

pub returns-in-None-clause-short : goal.returns-in-None-clause-short
returns-in-None-clause-short g c short payload digested =
    let book : Book = book_of c.args.self.now.held in
    let number : ℕ = length c.args.spots.now in
    if_ok_so (λ (text : List ℕ). text ≡ group_text book.namespace number c.args.taken.now c.args.digest.now None)
    (λ (text : List ℕ). length text < 2 ^ 61 + 2 ^ 60) c.group_text-in-None.result c.group_text-in-None.ensures
    (λ text is. short_of_none book.namespace number c.args.taken.now c.args.digest.now payload text digested short is)
