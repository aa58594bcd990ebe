-- The request of a response record, by the place that was found for it.
use Rattle.std.proofs.Common.{◌≡◌, ◌≢◌, ℕ, ◌≤◌, Bool, inl, inr, true, false, cond, List, [], ◌∷◌, ◌++◌, length, drop, Option, Some, None, refl, sym, ap, subst, ◌∙◌, append_assoc}
use Rattle.std.specs.Prelude.{All, Result, Ok, Err, OnOk}
use Rattle.std.proofs.lemmas.List.Elements.{All-head, All-tail}
use Rattle.capture.specs.Fields.{NamedValue}
use Rattle.capture.specs.Message.{IsWholeRequest}
use Rattle.capture.specs.declared.framing.Framing.{Framing}
use Rattle.httparse.specs.Grammar.{RequestHead as RequestForm}
use Rattle.http_head.specs.Heads.{IsHeadFault}
use Rattle.http_head.specs.declared.head.RequestMessage.{RequestMessage}
use Rattle.http_head.specs.declared.head.WireFault.{WireFault}
use Rattle.http_head.specs.declared.head.WireFault.TheVariants.{Malformed, HeadTooLong, BodyTooLong, CodingRefused, EndedEarly, Memory}
use Rattle.whole_request.specs.WholeRequests.{IsRequestText}
use Rattle.warc_reader.specs.Files.{Knows}
use Rattle.warc_reader.specs.Records.{BeginsWithRecord, HoldsRecord, IsFile, IsRecord, WarcRecord, print_record}
use Rattle.warc_reader.specs.Requests.{Asked, IsAskedBy, IsAskedFor, IsAskedIn, Placed, first_where, found_request, made, placed_from, stands_with}
use Rattle.warc_reader.specs.Tables.{HoldsRequests, Rises, place_of}
use Rattle.warc_reader.specs.declared.record.Record.{Record}
use Rattle.warc_reader.specs.declared.requests.Requests.{Requests}
use Rattle.warc_reader.proofs.FileLaws.{StandsIn, places_rise, records_stand}
use Rattle.warc_reader.proofs.OneReading.{one_file, one_record}

-- what holds of each record holds of the one that was found
pub found_is_one : (P : Placed → Type 0) (test : Placed → Bool) (all : List Placed) → All P all → (p : Placed) → first_where test all ≡ Some p → P p
found_is_one P test [] holds p is = absurd cc
found_is_one P test (q ∷ all) holds p is = by (test q) is (found_is_one P test all (All-tail P q all holds) p)
  where
    same : (a b : Placed) → Some a ≡ Some b → a ≡ b
    same a b e = cc

    by : (b : Bool) → cond b (Some q) (first_where test all) ≡ Some p → (first_where test all ≡ Some p → P p) → P p
    by true e others = subst P (same q p e) (All-head P q all holds)
    by false e others = others e

-- the tables hold the file's one list of records
holds_all : (file : List ℕ) (requests : Requests) → Knows file requests → (records : List WarcRecord) → IsFile records file
    → HoldsRequests requests (placed_from 0 records)
holds_all file requests known records is =
    subst (λ rs. HoldsRequests requests (placed_from 0 rs)) (one_file known.records records file known.is_file is) known.holds

-- the record at a place that was found
pub record AtPlace (file : List ℕ) (found : Option Placed) (at : ℕ) : Type 0 where
  pub placed : Placed
  pub is : found ≡ Some placed
  pub at_place : placed.at ≡ at
  pub stands : StandsIn file placed

pub place_found : (file : List ℕ) (test : Placed → Bool) (all : List Placed) → All (StandsIn file) all → (at : ℕ)
    → Some at ≡ place_of (first_where test all) → AtPlace file (first_where test all) at
place_found file test all stand at is = by (first_where test all) refl is
  where
    by : (found : Option Placed) → first_where test all ≡ found → Some at ≡ place_of found → AtPlace file (first_where test all) at
    by None same e = absurd cc
    by (Some p) same e = record { placed = p; is = same; at_place = sym (inner at p.at e); stands = found_is_one (StandsIn file) test all stand p same }
      where
        inner : (a b : ℕ) → Some a ≡ Some b → a ≡ b
        inner a b f = cc

pub begins_there : (file : List ℕ) (found : Option Placed) (at : ℕ) → AtPlace file found at → BeginsWithRecord (drop at file)
begins_there file found at there =
    subst (λ n. BeginsWithRecord (drop n file)) there.at_place
    (there.placed.form, there.stands.2.0, there.stands.0, there.stands.2.1)

pub asked_there : (file : List ℕ) (found : Option Placed) (at : ℕ) (uri : List ℕ) (asked : Asked) → AtPlace file found at
    → ((form : WarcRecord) (rest : List ℕ) → IsRecord form → drop at file ≡ print_record form ++ rest → IsAskedIn form.block uri asked)
    → IsAskedBy found uri asked
asked_there file found at uri asked there of =
    subst (λ f. IsAskedBy f uri asked) (sym there.is)
    (of there.placed.form there.stands.2.0 there.stands.0 (ap (λ n. drop n file) (sym there.at_place) ∙ there.stands.2.1))

pub asked_nowhere : (found : Option Placed) (uri : List ℕ) (asked : Asked) → None ≡ place_of found → asked ≡ made uri → IsAskedBy found uri asked
asked_nowhere None uri asked is e = e
asked_nowhere (Some p) uri asked is e = absurd cc

-- the request record that was found in the tables of a file
pub found_at : (file : List ℕ) (requests : Requests) (fields : List NamedValue) (at : ℕ) → Knows file requests
    → ((done : List Placed) → Rises done → HoldsRequests requests done → Some at ≡ place_of (found_request done fields))
    → (records : List WarcRecord) → IsFile records file → AtPlace file (found_request (placed_from 0 records) fields) at
found_at file requests fields at known found records is =
    place_found file (stands_with fields) (placed_from 0 records) (records_stand file records is) at
    (found (placed_from 0 records) (places_rise 0 records) (holds_all file requests known records is))

pub found_nowhere : (file : List ℕ) (requests : Requests) (fields : List NamedValue) (uri : List ℕ) (asked : Asked) → Knows file requests
    → ((done : List Placed) → Rises done → HoldsRequests requests done → None ≡ place_of (found_request done fields)) → asked ≡ made uri
    → (records : List WarcRecord) → IsFile records file → IsAskedFor (placed_from 0 records) fields uri asked
found_nowhere file requests fields uri asked known found is_made records is =
    asked_nowhere (found_request (placed_from 0 records) fields) uri asked
    (found (placed_from 0 records) (places_rise 0 records) (holds_all file requests known records is)) is_made

pub within_file : (file : List ℕ) (found : Option Placed) (at : ℕ) → AtPlace file found at → at ≤ length file
within_file file found at there = subst (λ n. n ≤ length file) there.at_place there.stands.1

-- of the one record at the place
pub asked_in_it : (text : List ℕ) (parts : Record) (uri : List ℕ) (asked : Asked) → HoldsRecord text parts → IsAskedIn parts.block.now uri asked
    → (form : WarcRecord) (rest : List ℕ) → IsRecord form → text ≡ print_record form ++ rest → IsAskedIn form.block uri asked
asked_in_it text parts uri asked holds is form rest valid split =
    let same = one_record holds.form form parts.rest.now rest holds.valid valid (sym holds.composed ∙ split) in
    subst (λ b. IsAskedIn b uri asked) (holds.block_is ∙ ap (λ f. f.block) same.0) is

-- ---- the request in a block

pub asked_block : (block uri : List ℕ) (message : RequestMessage) (asked : Asked) → IsRequestText block message → asked.method ≡ message.head.method
    → asked.text ≡ block → IsAskedIn block uri asked
asked_block block uri message asked is named text =
    inl (record { head = is.h; framing = message.framing; wire = is.wire; whole = is.whole; named = sym is.parts.method ∙ sym named }, text)

-- a block of which this was told is no request
pub not_asked : (block uri : List ℕ) (fault : WireFault) (asked : Asked) → IsHeadFault fault
    → (fault ≡ Malformed → (h : RequestForm) (framing : Framing) (wire : List ℕ) → ¬ (IsWholeRequest block h framing wire)) → fault ≢ Memory
    → asked ≡ made uri → IsAskedIn block uri asked
not_asked block uri Malformed asked f none some is = inr ((λ method of. none refl of.head of.framing of.wire of.whole), is)
not_asked block uri HeadTooLong asked f none some is = absurd f
not_asked block uri BodyTooLong asked f none some is = absurd f
not_asked block uri CodingRefused asked f none some is = absurd f
not_asked block uri EndedEarly asked f none some is = absurd f
not_asked block uri Memory asked f none some is = absurd (some refl)

-- ---- a request that is made

pub on_ok_by : {T E : Type 0} (P Q : Type 0) → (P → Q) → (r : Result T E) → OnOk r P → OnOk r Q
on_ok_by P Q f (Ok x) h = f h
on_ok_by P Q f (Err e) h = tt

pub put_made : (out uri a b c front end : List ℕ) → a ≡ out ++ front → b ≡ a ++ uri → c ≡ b ++ end → c ≡ out ++ (front ++ uri ++ end)
put_made out uri a b c front end first second third =
    third ∙ ap (λ t. t ++ end) (second ∙ ap (λ t. t ++ uri) first ∙ append_assoc out front uri) ∙ append_assoc out (front ++ uri) end
