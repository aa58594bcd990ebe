use Rattle.std.proofs.Common.{sym, ap, ◌∙◌, arith}
use Rattle.std.specs.Prelude.{Some, slice_index_or}
use Rattle.std.proofs.lemmas.List.Elements.{Contains-get_or}
use Rattle.std.proofs.lemmas.Option.{slice_get-get_or}
use Rattle.archive_volumes.specs.declared.spot.Spot.{Spot}
use Rattle.archive_gathering.proofs.OriginalLaws.{none_at_all, none_further}
use Rattle.archive_gathering.proofs.originals.first_met.Goals as goal

pub candidates-init : goal.candidates-init
candidates-init c = record {
  within = omega arith;
  none = λ k less met. absurd (omega (arith, less));
}

pub candidates-preserved : goal.candidates-preserved
candidates-preserved c =
    let less = c.candidates-test.true in
    let spot = c.index-spots-number.result in
    let placed = slice_get-get_or c.args.spots.now (slice_index_or c.args.candidates.now c.candidates.at 0) spot (c.requires.there c.candidates.at less)
    ∙ ap (λ (s : Spot). Some s) (sym c.index-spots-number.is) in
    record {
      within = omega (arith, less);
      none = none_further _ _ _ c.args.candidates.now c.args.spots.now c.args.lengths.now c.candidates.at c.candidates.invariant.none spot placed
          (c.is_met_by.ensures.missed c.if-is_met_by.false);
    }

pub returns-then-is_met_by-clause-met : goal.returns-then-is_met_by-clause-met
returns-then-is_met_by-clause-met c =
    let less = c.candidates-test.true in
    let spot = c.index-spots-number.result in
    record {
      one = Contains-get_or c.args.candidates.now c.candidates.at 0 less;
      spot = spot;
      kept = slice_get-get_or c.args.spots.now (slice_index_or c.args.candidates.now c.candidates.at 0) spot (c.requires.there c.candidates.at less)
          ∙ ap (λ (s : Spot). Some s) (sym c.index-spots-number.is);
      matches = c.is_met_by.ensures.met c.if-is_met_by.true;
    }

pub returns-clause-none : goal.returns-clause-none
returns-clause-none c =
    none_at_all _ _ _ c.args.candidates.now c.args.spots.now c.args.lengths.now c.candidates.at c.candidates.invariant.none (omega (arith, c.candidates-test.false))
