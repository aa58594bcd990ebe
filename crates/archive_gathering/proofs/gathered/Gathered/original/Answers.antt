use Rattle.std.proofs.Common.{◌≡◌, ℕ, List, length, sym, ap, subst, ◌∙◌, arith}
use Rattle.std.specs.Prelude.{Some, None}
use Rattle.std.proofs.lemmas.Option.{slice_get_within}
use Rattle.capture.specs.declared.book.Book.{Book}
use Rattle.revisit_table.specs.Table.{numbers_of}
use Rattle.warc_scan.specs.Groups.{reference_in}
use Rattle.warc_scan.specs.declared.group.Revisited.{Revisited}
use Rattle.archive_volumes.specs.Held.{book_of}
use Rattle.archive_gathering.specs.Originals.{IsMet}
use Rattle.archive_volumes.specs.declared.spot.Spot.{Spot}
use Rattle.archive_gathering.proofs.OriginalLaws.{candidates_within, met_is_whole, met_is_original, original_is_met, revisit_by, some_record}
use Rattle.archive_gathering.proofs.gathered.Gathered.original.Goals as goal

pub first_met-requires-clause-there : goal.first_met-requires-clause-there
first_met-requires-clause-there c = λ k less.
    let self = c.args.self.now in
    let are = c.candidates-candidates.ensures.numbers ∙ ap (numbers_of c.args.group.now.digest) c.requires.steady.table_is in
    omega (arith, candidates_within self.spots.items c.args.group.now.digest c.candidates-candidates.result.now are k less, ap length c.as_slice.ensures.value)

pub returns-in-Some-first_met-clause-found : goal.returns-in-Some-first_met-clause-found
returns-in-Some-first_met-clause-found c = λ known texts h gathered of number refer.
    let self = c.args.self.now in
    let group = c.args.group.now in
    let book : Book = book_of self.held in
    let are = c.candidates-candidates.ensures.numbers ∙ ap (numbers_of group.digest) c.requires.steady.table_is in
    let refers : group.same ≡ Some c.in-Some.same = c.in-Some.is in
    let revisit = revisit_by group.stored.method group.stored.head group.digest (reference_in group.same) _ group.stored.kept (ap reference_in refers) c.requires.found.is.answer in
    let met : IsMet book.namespace c.in-Some.same c.told_length.result c.candidates-candidates.result.now self.spots.items self.lengths.items c.in-Some-first_met.first =
    subst (λ (l : List ℕ). IsMet book.namespace c.in-Some.same c.told_length.result c.candidates-candidates.result.now self.spots.items l c.in-Some-first_met.first) c.as_slice-2.ensures.value
    (subst (λ (l : List Spot). IsMet book.namespace c.in-Some.same c.told_length.result c.candidates-candidates.result.now l c.as_slice-2.result.now c.in-Some-first_met.first) c.as_slice.ensures.value
    c.in-Some-first_met.ensures.met) in (
      some_record group.same c.in-Some.same refers,
      met_is_original c.captures_have_one_payload.ensures known book texts self.spots.items self.lengths.items self.entries.items gathered group c.in-Some.same refers c.told_length.result h
          of.reads (c.told_length.ensures group.stored.head h of) revisit c.candidates-candidates.result.now (c.requires.steady.lengths_too ∙ c.requires.steady.count) are
          c.in-Some-first_met.first refer met,
    )

pub returns-in-Some-first_met-clause-there : goal.returns-in-Some-first_met-clause-there
returns-in-Some-first_met-clause-there c =
    let met = c.in-Some-first_met.ensures.met in
    omega (arith, slice_get_within c.as_slice.result.now c.in-Some-first_met.first met.spot met.kept, ap length c.as_slice.ensures.value)

pub returns-in-None-clause-none : goal.returns-in-None-clause-none
returns-in-None-clause-none c = λ known texts h gathered of number damaged.
    let self = c.args.self.now in
    let group = c.args.group.now in
    let book : Book = book_of self.held in
    let are = c.candidates-candidates.ensures.numbers ∙ ap (numbers_of group.digest) c.requires.steady.table_is in
    let refers : group.same ≡ Some c.in-Some.same = c.in-Some.is in
    let revisit = revisit_by group.stored.method group.stored.head group.digest (reference_in group.same) _ group.stored.kept (ap reference_in refers) c.requires.found.is.answer in
    record {
      some = some_record group.same c.in-Some.same refers;
      none = λ first original.
          let met = original_is_met c.captures_have_one_payload.ensures known book texts self.spots.items self.lengths.items self.entries.items gathered group c.in-Some.same refers
          c.told_length.result h of.reads (c.told_length.ensures group.stored.head h of) revisit c.candidates-candidates.result.now
          (c.requires.steady.lengths_too ∙ c.requires.steady.count) are first original in
          c.in-None.ensures.none first
          (subst (λ (l : List ℕ). IsMet book.namespace c.in-Some.same c.told_length.result c.candidates-candidates.result.now c.as_slice.result.now l first) (sym c.as_slice-2.ensures.value)
          (subst (λ (l : List Spot). IsMet book.namespace c.in-Some.same c.told_length.result c.candidates-candidates.result.now l self.lengths.items first) (sym c.as_slice.ensures.value) met));
    }

pub returns-in-Some-first_met-clause-whole : goal.returns-in-Some-first_met-clause-whole
returns-in-Some-first_met-clause-whole c =
    let self = c.args.self.now in
    let are = c.candidates-candidates.ensures.numbers ∙ ap (numbers_of c.args.group.now.digest) c.requires.steady.table_is in
    met_is_whole self.spots.items c.args.group.now.digest c.candidates-candidates.result.now are c.in-Some-first_met.first c.in-Some-first_met.ensures.met.one

pub returns-in-None-clause-revisit : goal.returns-in-None-clause-revisit
returns-in-None-clause-revisit c = λ none. some_none c.in-Some.same (sym c.in-Some.is ∙ none)
  where
    some_none : (same : Revisited) → Some same ≡ None → ⊥
    some_none same e = cc
