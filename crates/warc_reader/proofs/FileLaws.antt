-- The records of a file by their places, and how far a reader has come.
use Rattle.std.proofs.Common.{◌≡◌, ◌≢◌, ◌==◌, ℕ, Bool, true, false, true≢false, ◌+◌, ◌-◌, ◌<◌, ◌≤◌, List, [], ◌∷◌, ◌++◌, length, drop, map, Some, None, refl, sym, ap, subst, ◌∙◌, arith, append_assoc, append-nil, length-append}
use Rattle.std.specs.Prelude.{All}
use Rattle.std.proofs.Math.Seq.{drop-append_seam}
use Rattle.std.proofs.lemmas.Bool.{eqb-true}
use Rattle.std.proofs.lemmas.Grind.{flat_map-append}
use Rattle.std.proofs.lemmas.List.Elements.{All-append, All-head, All-tail, All-nil, All-cons}
use Rattle.capture.specs.Fields.{named_values}
use Rattle.http_head.specs.Heads.{named_value}
use Rattle.warc_reader.specs.Files.{FileReading, Gives, GivesNext, IsBetween, IsReadTo, Knows, Reads}
use Rattle.warc_reader.specs.Imports.{IsOutcome}
use Rattle.warc_reader.specs.Records.{BeginsWithRecord, HasNoRecordAt, HoldsRecord, IsFile, IsRecord, WarcRecord, print_record, print_records}
use Rattle.warc_reader.specs.Requests.{Placed, placed_from}
use Rattle.warc_reader.specs.Tables.{HoldsRequests, Rises}
use Rattle.warc_reader.specs.declared.import.Outcome.{Outcome}
use Rattle.warc_reader.specs.declared.record.Record.{Record}
use Rattle.warc_reader.specs.declared.requests.Requests.{Requests}
use Rattle.warc_reader.proofs.OneReading.{one_record, record_has_bytes}

-- ---- places

abbrev pub one_placed : ℕ → WarcRecord → List Placed
one_placed at r = record { at = at; form = r } ∷ []

pub placed_more : (at : ℕ) (done : List WarcRecord) (r : WarcRecord)
    → placed_from at (done ++ r ∷ []) ≡ placed_from at done ++ one_placed (at + length (print_records done)) r
placed_more at [] r = ap (λ n. one_placed n r) (omega arith)
placed_more at (p ∷ done) r =
    let long = length-append (print_record p) (print_records done) in
    let place : at + length (print_record p) + length (print_records done) ≡ at + length (print_record p ++ print_records done) = omega (arith, long) in
    let head : Placed = record { at = at; form = p } in
    ap (λ ps. head ∷ ps) (placed_more (at + length (print_record p)) done r)
    ∙ ap (λ n. head ∷ (placed_from (at + length (print_record p)) done ++ one_placed n r)) place

-- one record more behind those that were read
pub records_more : (done : List WarcRecord) (r : WarcRecord) (rest : List ℕ)
    → print_records (done ++ r ∷ []) ++ rest ≡ print_records done ++ (print_record r ++ rest)
records_more done r rest =
    ap (λ t. t ++ rest) (flat_map-append print_record done (r ∷ [])) ∙ append_assoc (print_records done) (print_record r ++ []) rest
    ∙ ap (λ t. print_records done ++ (t ++ rest)) (append-nil (print_record r))

-- each stands at the first place or behind it
behind_first : (first at : ℕ) (records : List WarcRecord) → first ≤ at → All (λ (q : Placed). first ≤ q.at) (placed_from at records)
behind_first first at [] le = All-nil (λ (q : Placed). first ≤ q.at)
behind_first first at (r ∷ records) le =
    All-cons (λ (q : Placed). first ≤ q.at) (record { at = at; form = r }) (placed_from (at + length (print_record r)) records) le
    (behind_first first (at + length (print_record r)) records (omega (arith, le)))

pub places_rise : (at : ℕ) (records : List WarcRecord) → Rises (placed_from at records)
places_rise at [] = tt
places_rise at (r ∷ records) =
    (behind_first at (at + length (print_record r)) records (omega arith), places_rise (at + length (print_record r)) records)

-- a record stands at its place in the file
abbrev pub StandsIn : List ℕ → Placed → Type 0
StandsIn file p = IsRecord p.form × (p.at ≤ length file) × ((rest : List ℕ) × (drop p.at file ≡ print_record p.form ++ rest))

stand_behind : (file before : List ℕ) (records : List WarcRecord) → All IsRecord records → file ≡ before ++ print_records records
    → All (StandsIn file) (placed_from (length before) records)
stand_behind file before [] all is = All-nil (StandsIn file)
stand_behind file before (r ∷ records) all is =
    let behind = print_records records in
    let at = length before in
    let whole : file ≡ (before ++ print_record r) ++ behind = is ∙ sym (append_assoc before (print_record r) behind) in
    let there : drop at file ≡ print_record r ++ behind = ap (drop at) is ∙ drop-append_seam before (print_record r ++ behind) in
    let inside : at ≤ length file = omega (arith, ap length is, length-append before (print_record r ++ behind)) in
    let others : All (StandsIn file) (placed_from (length (before ++ print_record r)) records) =
    stand_behind file (before ++ print_record r) records (All-tail IsRecord r records all) whole in
    All-cons (StandsIn file) (record { at = at; form = r }) (placed_from (at + length (print_record r)) records)
    (All-head IsRecord r records all, inside, (behind, there))
    (subst (λ n. All (StandsIn file) (placed_from n records)) (length-append before (print_record r)) others)

pub records_stand : (file : List ℕ) (records : List WarcRecord) → IsFile records file → All (StandsIn file) (placed_from 0 records)
records_stand file records is = stand_behind file [] records is.0 is.1

-- ---- a first reading

pub read_nothing : (file : List ℕ) (requests : Requests) → HoldsRequests requests [] → IsReadTo file requests file
read_nothing file requests holds = record { done = []; before = All-nil IsRecord; composed = refl; holds = holds }

pub rest_is_within : (file rest : List ℕ) (requests : Requests) → IsReadTo file requests rest → length rest ≤ length file
rest_is_within file rest requests read = omega (arith, ap length read.composed, length-append (print_records read.done) rest)

place_of_rest : (file rest : List ℕ) (requests : Requests) (read : IsReadTo file requests rest) → length file - length rest ≡ length (print_records read.done)
place_of_rest file rest requests read = omega (arith, ap length read.composed, length-append (print_records read.done) rest)

place_from_none : (file rest : List ℕ) (requests : Requests) (read : IsReadTo file requests rest)
    → length file - length rest ≡ 0 + length (print_records read.done)
place_from_none file rest requests read = omega (arith, place_of_rest file rest requests read)

pub read_one : (file rest : List ℕ) (old new : Requests) (parts : Record) (read : IsReadTo file old rest) (holds : HoldsRecord rest parts)
    → ((done : List Placed) (form : WarcRecord) → HoldsRequests old done → map named_value parts.fields ≡ named_values form.fields
    → HoldsRequests new (done ++ one_placed (length file - length rest) form))
    → IsReadTo file new parts.rest.now
read_one file rest old new parts read holds added = record {
  done = read.done ++ holds.form ∷ [];
  before = All-append IsRecord read.done (holds.form ∷ []) read.before (All-cons IsRecord holds.form [] holds.valid (All-nil IsRecord));
  composed = read.composed ∙ ap (λ t. print_records read.done ++ t) holds.composed ∙ sym (records_more read.done holds.form parts.rest.now);
  holds = subst (HoldsRequests new) (ap (λ n. placed_from 0 read.done ++ one_placed n holds.form) (place_from_none file rest old read)
      ∙ sym (placed_more 0 read.done holds.form)) (added (placed_from 0 read.done) holds.form read.holds holds.fields_are);
}

pub rest_is_shorter : (rest : List ℕ) (parts : Record) → HoldsRecord rest parts → length parts.rest.now < length rest
rest_is_shorter rest parts holds =
    omega (arith, ap length holds.composed, length-append (print_record holds.form) parts.rest.now, record_has_bytes holds.form)

pub none_here : (file rest : List ℕ) (requests : Requests) (read : IsReadTo file requests rest) → rest ≢ [] → ¬ (BeginsWithRecord rest)
    → HasNoRecordAt file (length file - length rest)
none_here file rest requests read some none = record {
  records = read.done;
  rest = rest;
  before = read.before;
  composed = read.composed;
  place = place_of_rest file rest requests read;
  goes_on = some;
  none = none;
}

pub none_if : (n : ℕ) (b : Bool) → b ≡ (n == 0) → b ≡ true → n ≡ 0
none_if n b is told = eqb-true n 0 (sym is ∙ told)

no_bytes : (t : List ℕ) → length t ≡ 0 → t ≡ []
no_bytes [] none = refl
no_bytes (b ∷ t) none = absurd (omega (arith, none))

pub read_whole : (file rest : List ℕ) (requests : Requests) → IsReadTo file requests rest → length rest ≡ 0 → Knows file requests
read_whole file rest requests read none = record {
  records = read.done;
  is_file = (read.before, read.composed ∙ ap (λ t. print_records read.done ++ t) (no_bytes rest none) ∙ append-nil (print_records read.done));
  holds = read.holds;
}

-- ---- a second reading

pub reads_from_start : (file : List ℕ) (requests : Requests) → Knows file requests → Reads file requests 0
reads_from_start file requests known = record {
  done = [];
  rest = known.records;
  between = record { before = All-nil IsRecord; behind = known.is_file.0; composed = known.is_file.1; place = refl };
  holds = known.holds;
}

pub reads_known : (file : List ℕ) (requests : Requests) (at : ℕ) → Reads file requests at → Knows file requests
reads_known file requests at reads = record {
  records = reads.done ++ reads.rest;
  is_file = (
    All-append IsRecord reads.done reads.rest reads.between.before reads.between.behind,
    reads.between.composed ∙ sym (flat_map-append print_record reads.done reads.rest),
  );
  holds = reads.holds;
}

pub place_is_within : (reading : FileReading) (done rest : List WarcRecord) → IsBetween reading done rest → reading.at ≤ length reading.file
place_is_within reading done rest is =
    omega (arith, is.place, ap length is.composed, length-append (print_records done) (print_records rest))

pub behind_place : (reading : FileReading) (done rest : List WarcRecord) → IsBetween reading done rest → drop reading.at reading.file ≡ print_records rest
behind_place reading done rest is =
    ap (λ n. drop n reading.file) is.place ∙ ap (drop (length (print_records done))) is.composed
    ∙ drop-append_seam (print_records done) (print_records rest)

-- all were read
pub gives_none : (reading : FileReading) (done rest : List WarcRecord) → IsBetween reading done rest → drop reading.at reading.file ≡ []
    → Gives reading done rest None
gives_none reading done [] is none = is
gives_none reading done (r ∷ rest) is none =
    absurd (omega (arith, ap length (sym (behind_place reading done (r ∷ rest) is) ∙ none), length-append (print_record r) (print_records rest), record_has_bytes r))

-- what goes on begins with a record
pub record_behind : (reading : FileReading) (done rest : List WarcRecord) → IsBetween reading done rest → drop reading.at reading.file ≢ []
    → BeginsWithRecord (drop reading.at reading.file)
record_behind reading done [] is some = absurd (some (behind_place reading done [] is))
record_behind reading done (r ∷ rest) is some = (r, print_records rest, All-head IsRecord r rest is.behind, behind_place reading done (r ∷ rest) is)

pub begins_next : (file : List ℕ) (requests : Requests) (at : ℕ) → Reads file requests at → drop at file ≢ [] → BeginsWithRecord (drop at file)
begins_next file requests at reads some = record_behind (record { file = file; at = at }) reads.done reads.rest reads.between some

-- a text that was told not to be empty
pub some_bytes : (t u : List ℕ) (b : Bool) → b ≡ (length t == 0) → b ≡ false → t ≡ u → u ≢ []
some_bytes t u b is told same none = true≢false (sym (is ∙ ap (λ x. length x == 0) (same ∙ none)) ∙ told)

-- behind one record more
pub between_more : (reading new : FileReading) (done : List WarcRecord) (r : WarcRecord) (more : List WarcRecord) → IsBetween reading done (r ∷ more)
    → new.file ≡ reading.file → new.at ≡ length reading.file - length (print_records more) → IsBetween new (done ++ r ∷ []) more
between_more reading new done r more is same place = record {
  before = All-append IsRecord done (r ∷ []) is.before (All-cons IsRecord r [] (All-head IsRecord r more is.behind) (All-nil IsRecord));
  behind = All-tail IsRecord r more is.behind;
  composed = whole;
  place = place ∙ omega (arith, ap length (sym same ∙ whole), length-append (print_records (done ++ r ∷ [])) (print_records more));
}
  where
    whole : new.file ≡ print_records (done ++ r ∷ []) ++ print_records more
    whole = same ∙ is.composed ∙ sym (records_more done r (print_records more))

-- the record that was read is the next one
record IsNext (reading : FileReading) (parts : Record) (done rest : List WarcRecord) : Type 0 where
  form : WarcRecord
  more : List WarcRecord
  rest_is : rest ≡ form ∷ more
  fields_are : map named_value parts.fields ≡ named_values form.fields
  block_is : parts.block.now ≡ form.block
  behind : parts.rest.now ≡ print_records more

next_is : (reading : FileReading) (parts : Record) → HoldsRecord (drop reading.at reading.file) parts → (done rest : List WarcRecord)
    → IsBetween reading done rest → IsNext reading parts done rest
next_is reading parts holds done [] is =
    absurd (omega (
      arith,
      ap length (sym (behind_place reading done [] is) ∙ holds.composed),
      length-append (print_record holds.form) parts.rest.now,
      record_has_bytes holds.form,
    ))
next_is reading parts holds done (r ∷ more) is =
    let same = one_record holds.form r parts.rest.now (print_records more) holds.valid (All-head IsRecord r more is.behind)
    (sym holds.composed ∙ behind_place reading done (r ∷ more) is) in
    record {
      form = r;
      more = more;
      rest_is = refl;
      fields_are = holds.fields_are ∙ ap (λ f. named_values f.fields) same.0;
      block_is = holds.block_is ∙ ap (λ f. f.block) same.0;
      behind = same.1;
    }

pub gives_next : (reading new : FileReading) (parts : Record) (outcome : Outcome) → HoldsRecord (drop reading.at reading.file) parts
    → ((records : List WarcRecord) (form : WarcRecord) → IsFile records reading.file → map named_value parts.fields ≡ named_values form.fields
    → parts.block.now ≡ form.block → IsOutcome (placed_from 0 records) (record { at = reading.at; form = form }) outcome)
    → new.file ≡ reading.file → new.at ≡ length reading.file - length parts.rest.now → (done rest : List WarcRecord)
    → IsBetween reading done rest → Gives new done rest (Some outcome)
gives_next reading new parts outcome holds of same place done rest is =
    let next = next_is reading parts holds done rest is in
    subst (λ rs. Gives new done rs (Some outcome)) (sym next.rest_is)
    (given next.form next.more next.fields_are next.block_is next.behind (subst (IsBetween reading done) next.rest_is is))
  where
    given : (r : WarcRecord) (more : List WarcRecord) → map named_value parts.fields ≡ named_values r.fields → parts.block.now ≡ r.block
        → parts.rest.now ≡ print_records more → IsBetween reading done (r ∷ more) → GivesNext new done r more outcome
    given r more fields block behind between = record {
      gives = subst (λ n. IsOutcome (placed_from 0 (done ++ r ∷ more)) (record { at = n; form = r }) outcome) between.place
          (of (done ++ r ∷ more) r (
            All-append IsRecord done (r ∷ more) between.before between.behind,
            between.composed ∙ sym (flat_map-append print_record done (r ∷ more)),
          ) fields block);
      between = between_more reading new done r more between same (place ∙ ap (λ t. length reading.file - length t) behind);
    }

-- the same, of a reading that was seen
pub gives_seen : (file : List ℕ) (at : ℕ) (old new : FileReading) (parts : Record) (outcome : Outcome) → record { file = file; at = at } ≡ old
    → HoldsRecord (drop at file) parts
    → ((records : List WarcRecord) (form : WarcRecord) → IsFile records file → map named_value parts.fields ≡ named_values form.fields
    → parts.block.now ≡ form.block → IsOutcome (placed_from 0 records) (record { at = at; form = form }) outcome)
    → new.file ≡ file → new.at ≡ length file - length parts.rest.now → (done rest : List WarcRecord)
    → IsBetween old done rest → Gives new done rest (Some outcome)
gives_seen file at old new parts outcome seen holds of same place done rest is =
    gives_next (record { file = file; at = at }) new parts outcome holds of same place done rest (subst (λ r. IsBetween r done rest) (sym seen) is)

-- where nothing stands behind the place
pub gives_nothing : (file : List ℕ) (at : ℕ) (old : FileReading) → record { file = file; at = at } ≡ old → length (drop at file) ≡ 0
    → (done rest : List WarcRecord) → IsBetween old done rest → Gives old done rest None
gives_nothing file at old seen none done rest is =
    gives_none old done rest is (ap (λ (r : FileReading). drop r.at r.file) (sym seen) ∙ no_bytes (drop at file) none)

pub reads_next : (file : List ℕ) (requests : Requests) (at after : ℕ) (parts : Record) (reads : Reads file requests at) → HoldsRecord (drop at file) parts
    → after ≡ length file - length parts.rest.now → Reads file requests after
reads_next file requests at after parts reads holds place =
    let reading : FileReading = record { file = file; at = at } in
    let new : FileReading = record { file = file; at = after } in
    let next = next_is reading parts holds reads.done reads.rest reads.between in
    record {
      done = reads.done ++ next.form ∷ [];
      rest = next.more;
      between = between_more reading new reads.done next.form next.more (subst (IsBetween reading reads.done) next.rest_is reads.between) refl
          (place ∙ ap (λ t. length file - length t) next.behind);
      holds = subst (λ rs. HoldsRequests requests (placed_from 0 rs))
          (ap (λ rs. reads.done ++ rs) next.rest_is ∙ sym (append_assoc reads.done (next.form ∷ []) next.more)) reads.holds;
    }
