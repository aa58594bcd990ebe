-- A capture that is made of a record of a file can be stored.
use Rattle.std.proofs.Common.{◌≡◌, ◌⊎◌, ℕ, zero, suc, ◌+◌, ◌-◌, ◌*◌, ◌%◌, ◌<◌, ◌≤◌, Bool, true, false, not, ◌&&◌, ◌==◌, cond, inl, inr, List, [], ◌∷◌, ◌++◌, length, drop, take, map, filter, flat_map, reverse, Option, Some, None, IsTrue, refl, sym, ap, subst, ◌∙◌, arith, append_assoc, append-nil, length-append, length-drop, if◌then◌else◌}
use Rattle.std.specs.Prelude.{All, IsUtf8, Ok, codes, nat_le, get_or, option_map, slice_get, slice_index_or}
use Rattle.std.specs.Char.{is_ascii_digit}
use Rattle.std.specs.List.{list_all, list_any}
use Rattle.std.proofs.lemmas.Bool.{and_parts, leb-true}
use Rattle.std.proofs.lemmas.Bool.Decides.{nat_tests}
use Rattle.std.proofs.lemmas.List.{length-reverse, length-take}
use Rattle.std.proofs.lemmas.List.Elements.{All-head, All-nil, All-tail, All-weaker}
use Rattle.std.proofs.lemmas.List.Sums.{AllPass-from_list_all}
use Rattle.std.proofs.lemmas.Str.{IsUtf8-from_ascii}
use Rattle.std.proofs.lemmas.Str.Ascii.{IsAscii-from_all}
use Rattle.httparse.specs.Ascii.{crlf_bytes}
use Rattle.httparse.specs.Grammar.{Field, IsToken, RequestHead, crlf, is_ows, is_token_byte, is_uri_byte, print_end, print_field, print_request, skip_ows, trim_ows}
use Rattle.httparse.specs.Spans.{name_and_value}
use Rattle.capture.specs.Fields.{NamedValue, is_named, named_values, values_of}
use Rattle.capture.specs.Message.{IsWholeRequest}
use Rattle.capture.specs.Target.{authority_of, begins_with_http, is_accepted_uri, is_http_target, is_plain_authority, is_target_byte, is_target_text}
use Rattle.capture.specs.WellFormed.{IsRequestOf, IsWellFormed}
use Rattle.capture.specs.declared.captured.Taken.{Taken}
use Rattle.capture.specs.declared.framing.Framing.TheVariants.{Empty}
use Rattle.capture.specs.declared.limits.TheConstants.{HEAD_LIMIT}
use Rattle.time_text.specs.Texts.{InRange}
use Rattle.time_text.specs.declared.TheConstants.{LATEST}
use Rattle.warc_reader.specs.Dates.{IsDateText, digit_at, milliseconds}
use Rattle.warc_reader.specs.Fields.{first_of, is_bracketed, target_uri, without_brackets}
use Rattle.warc_reader.specs.Imports.{IsDated, IsOutcome, IsTaken, asked_of}
use Rattle.warc_reader.specs.Laws.{CanBeStored, CapturesCanBeStored}
use Rattle.warc_reader.specs.Records.{IsFile, IsRecord, WarcRecord}
use Rattle.warc_reader.specs.Requests.{Asked, IsAskedBy, IsAskedIn, Placed, fields_of, found_request, first_where, made, made_end, made_front, made_request, placed_from, stands_with}
use Rattle.warc_reader.specs.declared.import.Outcome.TheVariants as outcome
use Rattle.warc_reader.specs.declared.record.TheConstants.{BLOCK_LIMIT}
use Rattle.warc_reader.proofs.AskLaws.{found_is_one}
use Rattle.warc_reader.proofs.FileLaws.{StandsIn, records_stand}

-- ---- a request that is made

abbrev IsTargetByte : ℕ → Type 0
IsTargetByte b = is_target_byte b ≡ true

between : (b : ℕ) (marked : Bool) → (nat_le 33 b && nat_le b 126 && not marked) ≡ true → (33 ≤ b) × (b ≤ 126)
between b marked h =
    let range = and_parts (nat_le 33 b) (nat_le b 126) (and_parts (nat_le 33 b && nat_le b 126) (not marked) h).0 in
    (leb-true 33 b range.0, leb-true b 126 range.1)

visible : (b : ℕ) → IsTargetByte b → (33 ≤ b) × (b ≤ 126)
visible b h = between b (list_any (λ c. c == b) (codes "\"<>\\#")) h

uri_byte : (b : ℕ) → IsTargetByte b → IsTrue (is_uri_byte b)
uri_byte b h = let range = visible b h in grind (arith, nat_tests)

ascii_byte : (b : ℕ) → IsTargetByte b → b < 128
ascii_byte b h = omega (arith, (visible b h).1)

parts_of_target : (uri : List ℕ) → IsTrue (is_accepted_uri uri) → (is_target_text uri ≡ true) × (begins_with_http uri ≡ true)
parts_of_target uri is =
    let http = and_parts (is_http_target uri) _ is in
    and_parts (is_target_text uri) (begins_with_http uri)
    (and_parts (is_target_text uri && begins_with_http uri) (is_plain_authority (authority_of uri)) http.0).0

target_bytes : (uri : List ℕ) → IsTrue (is_accepted_uri uri) → All IsTargetByte uri
target_bytes uri is = AllPass-from_list_all is_target_byte uri (parts_of_target uri is).0

has_bytes : (uri : List ℕ) → begins_with_http uri ≡ true → 0 < length uri
has_bytes [] begins = absurd cc
has_bytes (b ∷ uri) begins = omega arith

is_text : (uri : List ℕ) → All IsTargetByte uri → IsUtf8 uri
is_text uri all = IsUtf8-from_ascii uri (IsAscii-from_all uri (All-weaker IsTargetByte (λ b. b < 128) ascii_byte uri all))

get_is_token : IsToken (codes "GET")
unfolding is_token_byte
get_is_token = (omega arith, AllPass-from_list_all is_token_byte (codes "GET") refl)

made_head : List ℕ → RequestHead
made_head uri = record {
  blank = [];
  method = codes "GET";
  target = uri;
  minor = 0;
  line_end = crlf;
  fields = [];
  last = crlf;
}

regrouped : (front version first last : List ℕ) → front ++ (version ++ first ++ last) ≡ front ++ version ++ first ++ last ++ []
regrouped front version first last =
    sym (append_assoc front (version ++ first) last) ∙ ap (λ t. t ++ last) (sym (append_assoc front version first))
    ∙ sym (append-nil (front ++ version ++ first ++ last))

made_text : (uri : List ℕ) → made_request uri ≡ print_request (made_head uri) ++ []
unfolding made_head print_request made_front made_end
made_text uri = regrouped (codes "GET " ++ uri) (codes " HTTP/1.0") crlf_bytes crlf_bytes

made_is_whole : (uri : List ℕ) → IsTrue (is_accepted_uri uri) → IsRequestOf (codes "GET") (made_request uri)
unfolding made_head
made_is_whole uri is = record {
  head = made_head uri;
  framing = Empty;
  wire = [];
  whole = record {
    head = record {
      reads = (
        record {
          method = get_is_token;
          target = (has_bytes uri (parts_of_target uri is).1, All-weaker IsTargetByte (λ b. IsTrue (is_uri_byte b)) uri_byte uri (target_bytes uri is));
          target_text = is_text uri (target_bytes uri is);
          minor = omega arith;
          fields = All-nil _;
        },
        made_text uri,
      );
      at_once = refl;
    };
    framed = refl;
    body = refl;
  };
  named = refl;
}

-- ---- lengths

skip_step : (blank : Bool) (b : ℕ) (bytes : List ℕ) → length (skip_ows bytes) ≤ length bytes
    → length (if blank then skip_ows bytes else b ∷ bytes) ≤ length (b ∷ bytes)
skip_step true b bytes fits = omega (arith, fits)
skip_step false b bytes fits = omega arith

skip_fits : (bytes : List ℕ) → length (skip_ows bytes) ≤ length bytes
skip_fits [] = omega arith
skip_fits (b ∷ bytes) = skip_step (is_ows b) b bytes (skip_fits bytes)

trim_fits : (bytes : List ℕ) → length (trim_ows bytes) ≤ length bytes
unfolding trim_ows
trim_fits bytes =
    omega (
      arith,
      skip_fits bytes,
      length-reverse (skip_ows bytes),
      skip_fits (reverse (skip_ows bytes)),
      length-reverse (skip_ows (reverse (skip_ows bytes))),
    )

value_in_line : (f : Field) → length (trim_ows f.raw) ≤ length (print_field f)
value_in_line f =
    omega (
      arith,
      trim_fits f.raw,
      length-append (f.name ++ 58 ∷ f.raw) (print_end f.end),
      length-append f.name (58 ∷ f.raw),
    )

same_some : {A : Type 0} (a b : A) → Some a ≡ Some b → a ≡ b
same_some a b e = cc

-- a first value is no longer than the lines of the fields
value_fits : (name : List ℕ) (fields : List Field) (value : List ℕ) → first_of name (named_values fields) ≡ Some value
    → length value ≤ length (flat_map print_field fields)
value_fits name [] value is = absurd cc
value_fits name (f ∷ fields) value is =
    by (is_named name (name_and_value f)) (value_fits name fields value) is
  where
    lines : length (print_field f ++ flat_map print_field fields) ≡ length (print_field f) + length (flat_map print_field fields)
    lines = length-append (print_field f) (flat_map print_field fields)

    by : (named : Bool)
        → (slice_get (map (λ (v : NamedValue). v.1) (filter (is_named name) (named_values fields))) 0 ≡ Some value → length value ≤ length (flat_map print_field fields))
        → slice_get (map (λ (v : NamedValue). v.1) (if named then name_and_value f ∷ filter (is_named name) (named_values fields) else filter (is_named name) (named_values fields))) 0 ≡ Some value
        → length value ≤ length (print_field f ++ flat_map print_field fields)
    by true others e = omega (arith, lines, ap length (same_some (trim_ows f.raw) value e), value_in_line f)
    by false others e = omega (arith, lines, others e)

unbracketed_fits : (text : List ℕ) → length (without_brackets text) ≤ length text
unbracketed_fits text = by (is_bracketed text)
  where
    by : (bracketed : Bool) → length (if bracketed then take (length text - 2) (drop 1 text) else text) ≤ length text
    by true = omega (arith, length-take (length text - 2) (drop 1 text), length-drop 1 text)
    by false = omega arith

uri_fits : (fields : List Field) (uri : List ℕ) → option_map without_brackets (first_of target_uri (named_values fields)) ≡ Some uri
    → length uri ≤ length (flat_map print_field fields)
uri_fits fields uri is = by (first_of target_uri (named_values fields)) refl is
  where
    by : (found : Option (List ℕ)) → first_of target_uri (named_values fields) ≡ found → option_map without_brackets found ≡ Some uri
        → length uri ≤ length (flat_map print_field fields)
    by None same e = absurd cc
    by (Some text) same e =
        omega (arith, value_fits target_uri fields text same, unbracketed_fits text, ap length (same_some (without_brackets text) uri e))

block_fits : (r : WarcRecord) → IsRecord r → length r.block ≤ BLOCK_LIMIT
block_fits r is = is.1.tells.length_told.within

fields_fit : (r : WarcRecord) → IsRecord r → length (flat_map print_field r.fields) ≤ HEAD_LIMIT
fields_fit r is = omega (arith, is.1.short, length-append (flat_map print_field r.fields) (print_end r.end))

made_fits : (uri : List ℕ) → length uri ≤ HEAD_LIMIT → length (made_request uri) ≤ BLOCK_LIMIT
unfolding made_front made_end
made_fits uri fits =
    omega (arith, fits, length-append (codes "GET " ++ uri) (codes " HTTP/1.0\r\n\r\n"), length-append (codes "GET ") uri)

-- ---- dates

element_at : (P : ℕ → Type 0) (xs : List ℕ) (i d : ℕ) → P d → All P xs → P (get_or xs i d)
element_at P [] i d h all = h
element_at P (x ∷ xs) zero d h all = All-head P x xs all
element_at P (x ∷ xs) (suc i) d h all = element_at P xs i d h (All-tail P x xs all)

digit_within : (digits : List ℕ) (place : ℕ) → All (λ b. IsTrue (is_ascii_digit b)) digits → digit_at digits place ≤ 9
digit_within digits place all = by (slice_index_or digits place 48) (element_at (λ b. IsTrue (is_ascii_digit b)) digits place 48 refl all)
  where
    by : (b : ℕ) → IsTrue (is_ascii_digit b) → b - 48 ≤ 9
    by b h = grind (arith, nat_tests)

under_a_second : (digits : List ℕ) → list_all is_ascii_digit digits ≡ true → milliseconds digits ≤ 999
under_a_second digits are =
    let all = AllPass-from_list_all is_ascii_digit digits are in
    omega (arith, digit_within digits 0 all, digit_within digits 1 all, digit_within digits 2 all)

date_fits : (fields : List NamedValue) (date : ℕ) → IsDated fields date → InRange date
date_fits fields date is =
    let of = is.2 in
    omega (arith, of.date_is, of.is_second.in_range, of.is_second.whole, under_a_second of.digits of.is_fraction.are_digits)

-- ---- a capture

-- a request is whole, and short enough
record IsAskedWell (asked : Asked) : Type 0 where
  whole : IsRequestOf asked.method asked.text
  fits : length asked.text ≤ BLOCK_LIMIT

made_well : (uri : List ℕ) (asked : Asked) → IsTrue (is_accepted_uri uri) → length uri ≤ HEAD_LIMIT → asked ≡ made uri → IsAskedWell asked
made_well uri asked accepted fits is =
    subst IsAskedWell (sym is) (record { whole = made_is_whole uri accepted; fits = made_fits uri fits })

asked_well : (found : Option Placed) (uri : List ℕ) (asked : Asked) → IsTrue (is_accepted_uri uri) → length uri ≤ HEAD_LIMIT
    → ((p : Placed) → found ≡ Some p → IsRecord p.form) → IsAskedBy found uri asked → IsAskedWell asked
asked_well None uri asked accepted fits records is = made_well uri asked accepted fits is
asked_well (Some p) uri asked accepted fits records (inl own) = record {
  whole = subst (IsRequestOf asked.method) (sym own.1) own.0;
  fits = omega (arith, ap length own.1, block_fits p.form (records p refl));
}
asked_well (Some p) uri asked accepted fits records (inr none) = made_well uri asked accepted fits none.1

pub captures_can_be_stored : CapturesCanBeStored
captures_can_be_stored file records p taken is_file valid is =
    let uri : length taken.uri ≤ HEAD_LIMIT = omega (arith, uri_fits p.form.fields taken.uri is.response.target.0, fields_fit p.form valid) in
    let all : All (StandsIn file) (placed_from 0 records) = records_stand file records is_file in
    let asked = asked_well (found_request (placed_from 0 records) (fields_of p)) taken.uri (asked_of taken) is.response.target.1 uri
    (λ q found. (found_is_one (StandsIn file) (stands_with (fields_of p)) (placed_from 0 records) all q found).0) is.asked in
    record {
      well_formed = record { target = is.response.target.1; request = asked.whole; response = is.answers.responds };
      date = date_fits (fields_of p) taken.date is.dated;
      uri = uri;
      response = omega (arith, block_fits p.form valid, ap length is.answers.composed, length-append taken.head taken.wire);
      request = asked.fits;
    }
