-- Records one after the other.
use Rattle.std.proofs.Common.{◌≡◌, ◌+◌, ◌<◌, ◌≤◌, ℕ, Bool, List, [], ◌∷◌, ◌++◌, length, map, Option, Some, None, sym, ap, subst, ◌∙◌, arith, append-nil, length-append}
use Rattle.std.specs.List.{flat_map}
use Rattle.std.proofs.lemmas.Grind.{flat_map-append}
use Rattle.std.proofs.lemmas.List.{length-map}
use Rattle.importing.proofs.KeepingLaws.{keeps_as, keeps_none}
use Rattle.archive_shelf.specs.Told.{Told}
use Rattle.archive_shelf.specs.declared.fault.StoreFault.{StoreFault}
use Rattle.capture.specs.declared.captured.Taken.{Taken}
use Rattle.importing.specs.Imports.{IsTellable, taken_in, takens_in}
use Rattle.importing.specs.Keeping.{Keeps, Step, intake_of}
use Rattle.importing.specs.Texts.{skip_in, skip_line, skips_in}
use Rattle.importing.specs.declared.tally.Tally.{Tally}
use Rattle.importing.specs.steps.Taking.{FitsIn, HasBegun, HasTaken, HasTakenAll, Stands}
use Rattle.warc_reader.proofs.InTurn.{GivesOne, given_all, given_few, given_more, given_none}
use Rattle.warc_reader.proofs.StorableLaws.{captures_can_be_stored}
use Rattle.warc_reader.specs.Files.{FileReading, Gives, HasGiven, IsBetween}
use Rattle.warc_reader.specs.Laws.{CanBeStored}
use Rattle.warc_reader.specs.Records.{IsFile, WarcRecord}
use Rattle.warc_reader.specs.declared.import.Outcome.{Outcome}
use Rattle.warc_reader.specs.declared.import.Outcome.TheVariants as outcome
use Rattle.warc_text.specs.Fits.{Fits}

-- ---- what a record gives

fits : (taken : Taken) → CanBeStored taken → Fits taken
fits taken is = record {
  well_formed = is.well_formed;
  date = is.date;
  short = record {
    uri = omega (arith, is.uri);
    head = omega (arith, is.response);
    wire = omega (arith, is.response);
    request = omega (arith, is.request);
  };
}

fits_by : (old new : FileReading) (outcomes : List Outcome) (o : Outcome) → GivesOne old new outcomes o → FitsIn o
fits_by old new outcomes (outcome.Taken taken) one =
    fits taken (captures_can_be_stored old.file one.records one.placed taken one.is_file one.valid one.is_outcome)
fits_by old new outcomes (outcome.Skipped skipped) one = tt
fits_by old new outcomes outcome.PassedOver one = tt

pub outcome_fits : (old new : FileReading) (o : Outcome) → Stands old
    → ((done rest : List WarcRecord) → IsBetween old done rest → Gives new done rest (Some o)) → FitsIn o
outcome_fits old new o stands gives = fits_by old new stands.0 o (given_more old new stands.0 o stands.1 gives)

pub goes_farther : (old new : FileReading) (o : Outcome) → Stands old
    → ((done rest : List WarcRecord) → IsBetween old done rest → Gives new done rest (Some o)) → old.at < new.at
goes_farther old new o stands gives = (given_more old new stands.0 o stands.1 gives).farther

-- ---- lists

takens_more : (outcomes : List Outcome) (o : Outcome) → takens_in (outcomes ++ o ∷ []) ≡ takens_in outcomes ++ taken_in o
takens_more outcomes o = flat_map-append taken_in outcomes (o ∷ []) ∙ ap (λ ts. takens_in outcomes ++ ts) (append-nil (taken_in o))

skips_more : (outcomes : List Outcome) (o : Outcome) → skips_in (outcomes ++ o ∷ []) ≡ skips_in outcomes ++ skip_in o
skips_more outcomes o = flat_map-append skip_in outcomes (o ∷ []) ∙ ap (λ ss. skips_in outcomes ++ ss) (append-nil (skip_in o))

few_takens : (outcomes : List Outcome) → length (takens_in outcomes) ≤ length outcomes
few_takens [] = omega arith
few_takens (o ∷ outcomes) = by o (few_takens outcomes)
  where
    by : (p : Outcome) → length (takens_in outcomes) ≤ length outcomes → length (taken_in p ++ takens_in outcomes) ≤ length (p ∷ outcomes)
    by (outcome.Taken taken) behind = omega (arith, behind)
    by (outcome.Skipped skipped) behind = omega (arith, behind)
    by outcome.PassedOver behind = omega (arith, behind)

few_skips : (outcomes : List Outcome) → length (skips_in outcomes) ≤ length outcomes
few_skips [] = omega arith
few_skips (o ∷ outcomes) = by o (few_skips outcomes)
  where
    by : (p : Outcome) → length (skips_in outcomes) ≤ length outcomes → length (skip_in p ++ skips_in outcomes) ≤ length (p ∷ outcomes)
    by (outcome.Taken taken) behind = omega (arith, behind)
    by (outcome.Skipped skipped) behind = omega (arith, behind)
    by outcome.PassedOver behind = omega (arith, behind)

-- ---- one record more

-- before the first record
pub taken_none : (alone : Bool) (reading : FileReading) (file : List ℕ) (tally : Tally) (now : Told) → reading ≡ record { file = file; at = 0 }
    → ((records : List WarcRecord) × IsFile records file) → tally.lines.items ≡ [] → tally.skipped ≡ 0 → tally.stored ≡ 0 → tally.refused ≡ None
    → HasTaken alone reading tally now now
taken_none alone reading file tally now starts is lines skipped stored refused = record {
  outcomes = [];
  given = subst (λ r. HasGiven r []) (sym starts) (given_none file is.0 is.1);
  skips = record { lines_are = lines; count_is = skipped };
  tellable = subst IsTellable (sym refused) tt;
  keeps = keeps_none alone tally.stored tally.refused now stored refused;
}

pub taken_more : (alone : Bool) (old new : FileReading) (before tally : Tally) (was mid is : Told) (o : Outcome)
    → ((done rest : List WarcRecord) → IsBetween old done rest → Gives new done rest (Some o)) → HasTaken alone old before was mid
    → ((takens : List Taken) → Keeps alone (intake_of takens before.stored before.refused) was mid → Keeps alone (intake_of (takens ++ taken_in o) tally.stored tally.refused) was is)
    → tally.lines.items ≡ before.lines.items ++ flat_map skip_line (skip_in o) → tally.skipped ≡ before.skipped + length (skip_in o)
    → (IsTellable before.refused → IsTellable tally.refused) → HasTaken alone new tally was is
taken_more alone old new before tally was mid is o gives taken keeps lines count tellable = record {
  outcomes = taken.outcomes ++ o ∷ [];
  given = (given_more old new taken.outcomes o taken.given gives).given;
  skips = record {
    lines_are = lines ∙ ap (λ ls. ls ++ flat_map skip_line (skip_in o)) taken.skips.lines_are
        ∙ sym (flat_map-append skip_line (skips_in taken.outcomes) (skip_in o)) ∙ sym (ap (flat_map skip_line) (skips_more taken.outcomes o));
    count_is = omega (arith, count, taken.skips.count_is, ap length (skips_more taken.outcomes o), length-append (skips_in taken.outcomes) (skip_in o));
  };
  tellable = tellable taken.tellable;
  keeps = subst (λ ts. Keeps alone (intake_of ts tally.stored tally.refused) was is) (sym (takens_more taken.outcomes o)) (keeps (takens_in taken.outcomes) taken.keeps);
}

pub begun_more : (alone : Bool) (old new : FileReading) (before tally : Tally) (was mid is : Told) (o : Outcome)
    → ((done rest : List WarcRecord) → IsBetween old done rest → Gives new done rest (Some o)) → HasTaken alone old before was mid
    → ((takens : List Taken) → Keeps alone (intake_of takens before.stored before.refused) was mid → Keeps alone (intake_of (takens ++ taken_in o) tally.stored tally.refused) was is)
    → HasBegun alone new.file was is
begun_more alone old new before tally was mid is o gives taken keeps = record {
  outcomes = taken.outcomes ++ o ∷ [];
  at = new.at;
  given = (given_more old new taken.outcomes o taken.given gives).given;
  stored = tally.stored;
  refused = tally.refused;
  keeps = subst (λ ts. Keeps alone (intake_of ts tally.stored tally.refused) was is) (sym (takens_more taken.outcomes o)) (keeps (takens_in taken.outcomes) taken.keeps);
}

pub begun_still : (alone : Bool) (old new : FileReading) (tally : Tally) (was is : Told) → new ≡ old → HasTaken alone old tally was is
    → HasBegun alone new.file was is
begun_still alone old new tally was is same taken = subst (λ (r : FileReading). HasBegun alone r.file was is) (sym same) (record {
  outcomes = taken.outcomes;
  at = old.at;
  given = taken.given;
  stored = tally.stored;
  refused = tally.refused;
  keeps = taken.keeps;
})

pub taken_all : (alone : Bool) (old new : FileReading) (tally : Tally) (was is : Told) → new.file ≡ old.file
    → ((done rest : List WarcRecord) → IsBetween old done rest → Gives new done rest None) → HasTaken alone old tally was is
    → HasTakenAll alone new.file tally was is
taken_all alone old new tally was is same gives taken = subst (λ f. HasTakenAll alone f tally was is) (sym same) (record {
  outcomes = taken.outcomes;
  import = given_all old new taken.outcomes taken.given gives;
  skips = taken.skips;
  tellable = taken.tellable;
  keeps = taken.keeps;
})

-- ---- numbers

-- there are no more of them than bytes
pub record IsFew (reading : FileReading) (tally : Tally) : Type 0 where
  pub stored : tally.stored ≤ reading.at
  pub skipped : tally.skipped ≤ reading.at
  pub within : reading.at ≤ length reading.file

pub taken_few : (alone : Bool) (reading : FileReading) (tally : Tally) (was is : Told) → HasTaken alone reading tally was is → IsFew reading tally
taken_few alone reading tally was is taken =
    let few = given_few reading taken.outcomes taken.given in
    let steps : List Taken = map (λ (step : Step). step.taken) taken.keeps.steps in
    record {
      stored = omega (
        arith,
        few.0,
        few_takens taken.outcomes,
        taken.keeps.count_is,
        ap length taken.keeps.in_order,
        length-append steps taken.keeps.rest,
        length-map taken.keeps.steps (λ (step : Step). step.taken),
      );
      skipped = omega (arith, few.0, few_skips taken.outcomes, taken.skips.count_is);
      within = few.1;
    }

-- the same counts
pub keeps_with : (alone : Bool) (takens : List Taken) (was is : Told) (before now : ℕ) (refused_before refused_now : Option StoreFault) → now ≡ before
    → refused_now ≡ refused_before → Keeps alone (intake_of takens before refused_before) was is → Keeps alone (intake_of (takens ++ []) now refused_now) was is
keeps_with alone takens was is before now refused_before refused_now count refused k =
    keeps_as alone takens now refused_now was is
    (subst (λ r. Keeps alone (intake_of takens now r) was is) (sym refused) (subst (λ n. Keeps alone (intake_of takens n refused_before) was is) (sym count) k))
