-- Outcomes one after the other are the import of a file.
use Rattle.std.proofs.Common.{◌≡◌, ℕ, ◌+◌, ◌<◌, ◌≤◌, List, [], ◌∷◌, ◌++◌, length, Option, Some, None, refl, sym, ap, subst, ◌∙◌, arith, append-nil, append_assoc, length-append}
use Rattle.std.specs.Prelude.{All}
use Rattle.std.proofs.lemmas.Grind.{flat_map-append}
use Rattle.std.proofs.lemmas.List.Elements.{All-append, All-head, All-nil}
use Rattle.warc_reader.specs.Files.{FileReading, Gives, GivesNext, HasGiven, IsBetween}
use Rattle.warc_reader.specs.Imports.{AreOutcomes, IsImport, IsOutcome}
use Rattle.warc_reader.specs.Records.{IsFile, IsRecord, WarcRecord, print_record, print_records}
use Rattle.warc_reader.specs.Requests.{Placed, placed_from}
use Rattle.warc_reader.specs.declared.import.Outcome.{Outcome}
use Rattle.warc_reader.proofs.FileLaws.{one_placed, place_is_within, placed_more, records_more}
use Rattle.warc_reader.proofs.OneReading.{record_has_bytes}

-- what all records but the last give, and what that gives
outcomes_more : (all done : List Placed) (p : Placed) (outcomes : List Outcome) (o : Outcome) → AreOutcomes all done outcomes → IsOutcome all p o
    → AreOutcomes all (done ++ p ∷ []) (outcomes ++ o ∷ [])
outcomes_more all [] p outcomes o are is = (o, [], ap (λ os. os ++ o ∷ []) are, is, refl)
outcomes_more all (q ∷ done) p outcomes o are is =
    (are.0, are.1 ++ o ∷ [], ap (λ os. os ++ o ∷ []) are.2, are.3, outcomes_more all done p are.1 o are.4 is)

file_between : (reading : FileReading) (done rest : List WarcRecord) → IsBetween reading done rest → IsFile (done ++ rest) reading.file
file_between reading done rest between =
    (All-append IsRecord done rest between.before between.behind, between.composed ∙ sym (flat_map-append print_record done rest))

-- a reader before the first record gave nothing
pub given_none : (file : List ℕ) (records : List WarcRecord) → IsFile records file → HasGiven (record { file = file; at = 0 }) []
given_none file records is = record {
  done = [];
  rest = records;
  between = record { before = All-nil IsRecord; behind = is.0; composed = is.1; place = refl };
  give = refl;
}

-- the record that was read, and what it gave
pub record GivesOne (old new : FileReading) (outcomes : List Outcome) (o : Outcome) : Type 0 where
  pub given : HasGiven new (outcomes ++ o ∷ [])
  pub farther : old.at < new.at
  pub records : List WarcRecord
  pub is_file : IsFile records old.file
  pub placed : Placed
  pub valid : IsRecord placed.form
  pub is_outcome : IsOutcome (placed_from 0 records) placed o

print_more : (done : List WarcRecord) (r : WarcRecord) → print_records (done ++ r ∷ []) ≡ print_records done ++ print_record r
print_more done r =
    sym (append-nil (print_records (done ++ r ∷ []))) ∙ records_more done r [] ∙ ap (λ t. print_records done ++ t) (append-nil (print_record r))

placed_behind : (done : List WarcRecord) (r : WarcRecord) → placed_from 0 (done ++ r ∷ []) ≡ placed_from 0 done ++ one_placed (length (print_records done)) r
placed_behind done r =
    let zero : 0 + length (print_records done) ≡ length (print_records done) = omega arith in
    placed_more 0 done r ∙ ap (λ n. placed_from 0 done ++ one_placed n r) zero

given_behind : (old new : FileReading) (outcomes : List Outcome) (o : Outcome) (done : List WarcRecord) (r : WarcRecord) (more : List WarcRecord)
    → IsBetween old done (r ∷ more) → AreOutcomes (placed_from 0 (done ++ r ∷ more)) (placed_from 0 done) outcomes → GivesNext new done r more o
    → GivesOne old new outcomes o
given_behind old new outcomes o done r more between give next = record {
  given = record {
    done = done ++ r ∷ [];
    rest = more;
    between = next.between;
    give = subst (λ rs. AreOutcomes (placed_from 0 rs) (placed_from 0 (done ++ r ∷ [])) (outcomes ++ o ∷ [])) (sym (append_assoc done (r ∷ []) more))
        (subst (λ ps. AreOutcomes (placed_from 0 (done ++ r ∷ more)) ps (outcomes ++ o ∷ [])) (sym (placed_behind done r))
        (outcomes_more (placed_from 0 (done ++ r ∷ more)) (placed_from 0 done) (record { at = length (print_records done); form = r }) outcomes o give next.gives));
  };
  farther = omega (
    arith,
    between.place,
    next.between.place,
    ap length (print_more done r),
    length-append (print_records done) (print_record r),
    record_has_bytes r,
  );
  records = done ++ r ∷ more;
  is_file = file_between old done (r ∷ more) between;
  placed = record { at = length (print_records done); form = r };
  valid = All-head IsRecord r more between.behind;
  is_outcome = next.gives;
}

-- a reader that stood behind these outcomes gave one more
pub given_more : (old new : FileReading) (outcomes : List Outcome) (o : Outcome) → HasGiven old outcomes
    → ((done rest : List WarcRecord) → IsBetween old done rest → Gives new done rest (Some o)) → GivesOne old new outcomes o
given_more old new outcomes o given gives = by given.rest refl
  where
    by : (rest : List WarcRecord) → given.rest ≡ rest → GivesOne old new outcomes o
    by [] same = absurd (gives given.done [] (subst (IsBetween old given.done) same given.between))
    by (r ∷ more) same =
        given_behind old new outcomes o given.done r more (subst (IsBetween old given.done) same given.between)
        (subst (λ rs. AreOutcomes (placed_from 0 (given.done ++ rs)) (placed_from 0 given.done) outcomes) same given.give)
        (gives given.done (r ∷ more) (subst (IsBetween old given.done) same given.between))

-- behind the last record they are the import of the file
pub given_all : (old new : FileReading) (outcomes : List Outcome) → HasGiven old outcomes
    → ((done rest : List WarcRecord) → IsBetween old done rest → Gives new done rest None) → IsImport old.file outcomes
given_all old new outcomes given gives = by given.rest refl
  where
    by : (rest : List WarcRecord) → given.rest ≡ rest → IsImport old.file outcomes
    by (r ∷ more) same = absurd (gives given.done (r ∷ more) (subst (IsBetween old given.done) same given.between))
    by [] same =
        let none : given.done ++ given.rest ≡ given.done = ap (λ rs. given.done ++ rs) same ∙ append-nil given.done in
        record {
          records = given.done;
          is_file = subst (λ rs. IsFile rs old.file) none (file_between old given.done given.rest given.between);
          give = subst (λ rs. AreOutcomes (placed_from 0 rs) (placed_from 0 given.done) outcomes) none given.give;
        }

-- the import of a file is what was given at its end
pub all_given : (file : List ℕ) (outcomes : List Outcome) → IsImport file outcomes → HasGiven (record { file = file; at = length file }) outcomes
all_given file outcomes is = record {
  done = is.records;
  rest = [];
  between = record {
    before = is.is_file.0;
    behind = All-nil IsRecord;
    composed = is.is_file.1 ∙ sym (append-nil (print_records is.records));
    place = ap length is.is_file.1;
  };
  give = subst (λ rs. AreOutcomes (placed_from 0 rs) (placed_from 0 is.records) outcomes) (sym (append-nil is.records)) is.give;
}

-- there are no more outcomes than bytes
few_outcomes : (all : List Placed) (at : ℕ) (done : List WarcRecord) (outcomes : List Outcome) → AreOutcomes all (placed_from at done) outcomes
    → length outcomes ≤ length (print_records done)
few_outcomes all at [] outcomes are = omega (arith, ap length are)
few_outcomes all at (r ∷ done) outcomes are =
    omega (
      arith,
      ap length are.2,
      few_outcomes all (at + length (print_record r)) done are.1 are.4,
      length-append (print_record r) (print_records done),
      record_has_bytes r,
    )

pub given_few : (reading : FileReading) (outcomes : List Outcome) → HasGiven reading outcomes → (length outcomes ≤ reading.at) × (reading.at ≤ length reading.file)
given_few reading outcomes given = (
  omega (arith, given.between.place, few_outcomes (placed_from 0 (given.done ++ given.rest)) 0 given.done outcomes given.give),
  place_is_within reading given.done given.rest given.between,
)
