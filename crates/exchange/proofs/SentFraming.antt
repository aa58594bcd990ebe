-- How the head of a request that goes to an origin is framed: by its length, where it has a body.
use Rattle.std.proofs.Common.{◌≡◌, ℕ, ◌^◌, ◌<◌, ◌≤◌, Bool, true, false, not, ◌&&◌, ◌||◌, List, [], ◌∷◌, ◌++◌, length, decimal, filter, map, reverse, eqb, Ok, Err, refl, sym, ap, ◌∙◌, arith, lit<, if◌then◌else◌}
use Rattle.std.specs.Char.{is_ascii_digit}
use Rattle.std.specs.List.{flat_map, list_any, list_all}
use Rattle.std.specs.Str.{bytes_eq, str_eq_ignore_ascii_case}
use Rattle.std.specs.Str.Parse.{digits_value}
use Rattle.std.proofs.lemmas.Bool.{and_parts, lt-ltb}
use Rattle.std.proofs.lemmas.Bool.Decides.{nat_tests}
use Rattle.std.proofs.lemmas.Fmt.{decimal_is_IsNumeral}
use Rattle.std.proofs.lemmas.List.{reverse-reverse, reverse-append}
use Rattle.std.proofs.lemmas.List.Elements.{All-from_get_or, filter-append}
use Rattle.std.proofs.lemmas.List.Folds.{list_any_at, list_any-append, list_all-append}
use Rattle.std.proofs.lemmas.List.Sums.{list_all-from_AllPass}
use Rattle.std.proofs.lemmas.Slice.Eq.{bytes_eq-Decides}
use Rattle.std.proofs.lemmas.Str.Parse.{digit_at}
use Rattle.httparse.specs.Ascii.{comma}
use Rattle.httparse.specs.Grammar.{is_ows, skip_ows, trim_ows}
use Rattle.name_table.specs.NameTable.{is_named as is_row_named}
use Rattle.name_table.specs.HeaderFields.{hop_by_hop, is_hop}
use Rattle.capture.specs.Fields.{NamedValue, named_values, is_named, has_field, values_of, members_of, split_at_commas, onto_first, lowered}
use Rattle.capture.specs.Framing.{transfer_encoding, content_length, is_number, length_of_members, framed_by_length, request_framing}
use Rattle.capture.specs.declared.framing.Framing.{Framing}
use Rattle.capture.specs.declared.framing.Framing.TheVariants.{Empty, Length, Chunked, ToEnd}
use Rattle.capture.specs.declared.framing.FramingFault.TheVariants.{Malformed}
use Rattle.exchange.specs.Texts.{host_name, goes_to_origin, is_passed_on, is_listed, listed_names}
use Rattle.exchange.specs.declared.aim.Target.{Target}
use Rattle.exchange.proofs.SentFields.{Parts, as_field, close_field, host_field, kept_fields, length_field, length_fields, sent_fields, sent_head, via_field}

never : (b : Bool) → (b ≡ true → ⊥) → b ≡ false
never true no_test = absurd (no_test refl)
never false no_test = refl

clash : (b : Bool) → b ≡ true → b ≡ false → ⊥
clash b passes fails = cc

not_true : (b : Bool) → not b ≡ true → b ≡ false
not_true true h = absurd cc
not_true false h = refl

-- ---- the fields that go on

-- Transfer-Encoding is a field of one connection
hop_transfer_encoding : (f : NamedValue) → is_named transfer_encoding f ≡ true → is_hop f.0 ≡ true
unfolding is_row_named hop_by_hop
hop_transfer_encoding f h =
    let same : lowered f.0 ≡ transfer_encoding = (bytes_eq-Decides (lowered f.0) transfer_encoding).0 h in
    list_any_at (λ row. str_eq_ignore_ascii_case row f.0) hop_by_hop 8 [] (lit< tt) (ap (λ name. bytes_eq (lowered transfer_encoding) name) same)

no_coding : (listed : List (List ℕ)) (f : NamedValue) → goes_to_origin listed f ≡ true → is_named transfer_encoding f ≡ false
no_coding listed f goes =
    let first = and_parts (is_passed_on listed f && not (is_named host_name f)) (not (is_named content_length f)) goes in
    let passed = and_parts (is_passed_on listed f) (not (is_named host_name f)) first.0 in
    let hop = not_true (is_hop f.0) (and_parts (not (is_hop f.0)) (not (is_listed listed f.0)) passed.0).0 in
    never (is_named transfer_encoding f) (λ is. clash (is_hop f.0) (hop_transfer_encoding f is) hop)

no_length : (listed : List (List ℕ)) (f : NamedValue) → goes_to_origin listed f ≡ true → is_named content_length f ≡ false
no_length listed f goes =
    not_true (is_named content_length f) (and_parts (is_passed_on listed f && not (is_named host_name f)) (not (is_named content_length f)) goes).1

one_pass : (test : NamedValue → Bool) (f : NamedValue) (others : List NamedValue) (passed : Bool) → (passed ≡ true → test f ≡ false)
    → list_any test others ≡ false → list_any test (if passed then f ∷ others else others) ≡ false
one_pass test f others true fails later = ap (λ b. b || list_any test others) (fails refl) ∙ later
one_pass test f others false fails later = later

none_pass : (test passes : NamedValue → Bool) → ((f : NamedValue) → passes f ≡ true → test f ≡ false) → (fields : List NamedValue)
    → list_any test (filter passes fields) ≡ false
none_pass test passes fails [] = refl
none_pass test passes fails (f ∷ fields) = one_pass test f (filter passes fields) (passes f) (fails f) (none_pass test passes fails fields)

-- ---- the fields that are sent

names_stay : (name : List ℕ) (fields : List NamedValue) → has_field name (named_values (map as_field fields)) ≡ has_field name fields
unfolding as_field
names_stay name [] = refl
names_stay name (f ∷ fields) = ap (λ later. is_named name f || later) (names_stay name fields)

-- a name that the proxy doesn't write is on no field
record IsOnNone (name : List ℕ) (parts : Parts) (target : Target) : Type 0 where
  host : is_named name (host_field target.host target.port) ≡ false
  kept : list_any (is_named name) (kept_fields parts.fields) ≡ false
  via : is_named name (via_field parts.minor) ≡ false
  lengths : list_any (is_named name) parts.lengths ≡ false
  close : is_named name close_field ≡ false

none_sent : (name : List ℕ) (parts : Parts) (target : Target) → IsOnNone name parts target
    → has_field name (named_values (map as_field (sent_fields parts target))) ≡ false
unfolding sent_fields
none_sent name parts target none =
    let test = is_named name in
    let kept = kept_fields parts.fields in
    let ends : List NamedValue = parts.lengths ++ close_field ∷ [] in
    let behind : List NamedValue = via_field parts.minor ∷ ends in
    names_stay name (sent_fields parts target)
    ∙ ap (λ b. b || list_any test (kept ++ behind)) none.host
    ∙ list_any-append test kept behind
    ∙ ap (λ b. b || list_any test behind) none.kept
    ∙ ap (λ b. b || list_any test ends) none.via
    ∙ list_any-append test parts.lengths (close_field ∷ [])
    ∙ ap (λ b. b || (test close_field || false)) none.lengths
    ∙ ap (λ b. b || false) none.close

no_coding_sent : (minor : ℕ) (fields lengths : List NamedValue) (target : Target) → list_any (is_named transfer_encoding) lengths ≡ false
    → IsOnNone transfer_encoding (record { minor = minor; fields = fields; lengths = lengths }) target
no_coding_sent minor fields lengths target none = record {
  host = unfold host_field in refl;
  kept = none_pass (is_named transfer_encoding) (goes_to_origin (listed_names fields)) (no_coding (listed_names fields)) fields;
  via = unfold via_field in refl;
  lengths = none;
  close = unfold close_field in refl;
}

no_coding_told : (n : ℕ) → list_any (is_named transfer_encoding) (length_field n ∷ []) ≡ false
unfolding length_field
no_coding_told n = refl

no_length_sent : (minor : ℕ) (fields : List NamedValue) (target : Target)
    → IsOnNone content_length (record { minor = minor; fields = fields; lengths = [] }) target
no_length_sent minor fields target = record {
  host = unfold host_field in refl;
  kept = none_pass (is_named content_length) (goes_to_origin (listed_names fields)) (no_length (listed_names fields)) fields;
  via = unfold via_field in refl;
  lengths = refl;
  close = unfold close_field in refl;
}

-- ---- the length that is told

digit_of : (b : ℕ) → 48 ≤ b → b ≤ 57 → is_ascii_digit b ≡ true
digit_of b low high = grind (arith, nat_tests)

digits : (n : ℕ) → n < 2 ^ 64 → list_all is_ascii_digit (decimal n) ≡ true
digits n fits =
    list_all-from_AllPass is_ascii_digit (decimal n)
    (All-from_get_or (λ b. is_ascii_digit b ≡ true) (decimal n) 0 λ i below.
    let digit = digit_at (decimal n) i (decimal_is_IsNumeral n fits).0.1 below in
    digit_of _ digit.0 digit.1)

digit_no_comma : (b : ℕ) → is_ascii_digit b ≡ true → eqb b comma ≡ false
digit_no_comma b h = grind (arith, nat_tests)

digit_no_blank : (b : ℕ) → is_ascii_digit b ≡ true → is_ows b ≡ false
digit_no_blank b h = grind (arith, nat_tests)

-- a text of digits has no comma
digits_alone : (text : List ℕ) → list_all is_ascii_digit text ≡ true → split_at_commas text ≡ text ∷ []
digits_alone [] h = refl
digits_alone (b ∷ text) h =
    let parts = and_parts (is_ascii_digit b) (list_all is_ascii_digit text) h in
    ap (λ ends. if ends then [] ∷ split_at_commas text else onto_first b (split_at_commas text)) (digit_no_comma b parts.0)
    ∙ ap (onto_first b) (digits_alone text parts.1)

-- and no blank
skip_no_digits : (text : List ℕ) → list_all is_ascii_digit text ≡ true → skip_ows text ≡ text
skip_no_digits [] h = refl
skip_no_digits (b ∷ text) h =
    ap (λ blank. if blank then skip_ows text else b ∷ text)
    (digit_no_blank b (and_parts (is_ascii_digit b) (list_all is_ascii_digit text) h).0)

digits_reversed : (text : List ℕ) → list_all is_ascii_digit text ≡ true → list_all is_ascii_digit (reverse text) ≡ true
digits_reversed [] h = refl
digits_reversed (b ∷ text) h =
    let parts = and_parts (is_ascii_digit b) (list_all is_ascii_digit text) h in
    ap (list_all is_ascii_digit) (reverse-append (b ∷ []) text)
    ∙ list_all-append is_ascii_digit (reverse text) (b ∷ [])
    ∙ ap (λ others. others && (is_ascii_digit b && true)) (digits_reversed text parts.1)
    ∙ ap (λ digit. digit && true) parts.0

trim_digits : (text : List ℕ) → list_all is_ascii_digit text ≡ true → trim_ows text ≡ text
unfolding trim_ows
trim_digits text h =
    ap (λ t. reverse (skip_ows (reverse t))) (skip_no_digits text h)
    ∙ ap reverse (skip_no_digits (reverse text) (digits_reversed text h)) ∙ reverse-reverse text

-- a blank before them is none of the value
trim_blank : (text : List ℕ) → list_all is_ascii_digit text ≡ true → trim_ows (32 ∷ text) ≡ text
unfolding trim_ows
trim_blank text h = trim_digits text h

value_stays : (test : Bool) (f : NamedValue) (sent others : List NamedValue) → map (λ x. x.1) sent ≡ map (λ x. trim_ows (32 ∷ x.1)) others
    → map (λ (x : NamedValue). x.1) (if test then (f.0, trim_ows (32 ∷ f.1)) ∷ sent else sent)
    ≡ map (λ (x : NamedValue). trim_ows (32 ∷ x.1)) (if test then f ∷ others else others)
value_stays true f sent others later = ap (λ values. trim_ows (32 ∷ f.1) ∷ values) later
value_stays false f sent others later = later

values_stay : (name : List ℕ) (fields : List NamedValue)
    → values_of name (named_values (map as_field fields)) ≡ map (λ (x : NamedValue). trim_ows (32 ∷ x.1)) (filter (is_named name) fields)
unfolding as_field
values_stay name [] = refl
values_stay name (f ∷ fields) =
    value_stays (is_named name f) f (filter (is_named name) (named_values (map as_field fields))) (filter (is_named name) fields)
    (values_stay name fields)

chosen : (test : NamedValue → Bool) (f : NamedValue) (others : List NamedValue) (passed : Bool) → list_any test (f ∷ others) ≡ false
    → test f ≡ passed → filter test others ≡ [] → (if passed then f ∷ filter test others else filter test others) ≡ []
chosen test f others true none is later = absurd (first (test f) (list_any test others) is none)
  where
    first : (a b : Bool) → a ≡ true → (a || b) ≡ false → ⊥
    first true b is none = cc
    first false b is none = cc
chosen test f others false none is later = later

filter_none : (test : NamedValue → Bool) (fields : List NamedValue) → list_any test fields ≡ false → filter test fields ≡ []
filter_none test [] none = refl
filter_none test (f ∷ fields) none =
    chosen test f fields (test f) none refl (filter_none test fields (later (test f) (list_any test fields) none))
  where
    later : (a b : Bool) → (a || b) ≡ false → b ≡ false
    later true b none = absurd cc
    later false b none = none

-- the one field that tells a length
length_sent : (n minor : ℕ) (fields : List NamedValue) (target : Target)
    → filter (is_named content_length) (sent_fields (record { minor = minor; fields = fields; lengths = length_field n ∷ [] }) target)
    ≡ length_field n ∷ []
unfolding sent_fields host_field via_field length_field close_field
length_sent n minor fields target =
    let test = is_named content_length in
    let behind : List NamedValue = via_field minor ∷ length_field n ∷ close_field ∷ [] in
    let none = filter_none test (kept_fields fields)
    (none_pass test (goes_to_origin (listed_names fields)) (no_length (listed_names fields)) fields) in
    filter-append test (kept_fields fields) behind ∙ ap (λ kept. kept ++ filter test behind) none

has_one : (name : List ℕ) (fields : List NamedValue) (value : NamedValue) → filter (is_named name) fields ≡ value ∷ [] → has_field name fields ≡ true
has_one name fields value is = by_test (has_field name fields) refl
  where
    nothing : [] ≡ value ∷ [] → ⊥
    nothing e = cc

    by_test : (has : Bool) → has_field name fields ≡ has → has_field name fields ≡ true
    by_test true e = e
    by_test false e = absurd (nothing (sym (filter_none (is_named name) fields e) ∙ is))

framed_by_number : (fields : List NamedValue) (n : ℕ) → n < 2 ^ 64 → values_of content_length fields ≡ decimal n ∷ []
    → framed_by_length fields ≡ Ok (Length n)
framed_by_number fields n fits one =
    let text = decimal n in
    let numeral = decimal_is_IsNumeral n fits in
    let all = digits n fits in
    let number : is_number text ≡ true = number_of text numeral.0.0 all in
    let members : members_of content_length fields ≡ text ∷ [] =
    ap (λ values. map trim_ows (flat_map split_at_commas values)) one ∙ ap (λ pieces. map trim_ows (pieces ++ [])) (digits_alone text all)
    ∙ ap (λ value. value ∷ []) (trim_digits text all) in
    let length_is : length_of_members (text ∷ []) ≡ Ok n =
    ap (λ is. if is && true then Ok (digits_value 10 text) else Err Malformed) number ∙ ap Ok numeral.1 in
    ap (λ r. elim r [ Ok k ↦ Ok (Length k) | Err e ↦ Err e ]) (ap length_of_members members ∙ length_is)
  where
    number_of : (text : List ℕ) → 0 < length text → list_all is_ascii_digit text ≡ true → is_number text ≡ true
    number_of text some all = rw (lt-ltb 0 (length text) some, all) refl

-- ---- the framing

-- how a message of this framing goes on
abbrev pub framing_sent : Framing → List ℕ → Framing
framing_sent Empty payload = Empty
framing_sent (Length n) payload = Length (length payload)
framing_sent Chunked payload = Length (length payload)
framing_sent ToEnd payload = Length (length payload)

value_sent : (n : ℕ) → n < 2 ^ 64 → trim_ows (32 ∷ (length_field n).1) ≡ decimal n
unfolding length_field
value_sent n fits = trim_blank (decimal n) (digits n fits)

told : (method : List ℕ) (payload : List ℕ) (minor : ℕ) (fields : List NamedValue) (target : Target) → length payload < 2 ^ 64
    → request_framing (sent_head method (record { minor = minor; fields = fields; lengths = length_field (length payload) ∷ [] }) target)
    ≡ Ok (Length (length payload))
unfolding sent_head
told method payload minor fields target fits =
    let n = length payload in
    let parts : Parts = record { minor = minor; fields = fields; lengths = length_field n ∷ [] } in
    let sent = sent_fields parts target in
    let one = length_sent n minor fields target in
    let te : has_field transfer_encoding (named_values (map as_field sent)) ≡ false =
    none_sent transfer_encoding parts target (no_coding_sent minor fields (length_field n ∷ []) target (no_coding_told n)) in
    let cl : has_field content_length (named_values (map as_field sent)) ≡ true =
    names_stay content_length sent ∙ has_one content_length sent (length_field n) one in
    let value : values_of content_length (named_values (map as_field sent)) ≡ decimal n ∷ [] =
    values_stay content_length sent ∙ ap (map (λ (x : NamedValue). trim_ows (32 ∷ x.1))) one
    ∙ ap (λ v. v ∷ []) (value_sent n fits) in
    rw (te, cl) (framed_by_number (named_values (map as_field sent)) n fits value)

pub framed_as_sent : (method : List ℕ) (framing : Framing) (payload : List ℕ) (minor : ℕ) (fields : List NamedValue) (target : Target)
    → length payload < 2 ^ 64
    → request_framing (sent_head method (record { minor = minor; fields = fields; lengths = length_fields framing payload }) target)
    ≡ Ok (framing_sent framing payload)
unfolding sent_head length_fields
framed_as_sent method Empty payload minor fields target fits =
    let parts : Parts = record { minor = minor; fields = fields; lengths = [] } in
    let te = none_sent transfer_encoding parts target (no_coding_sent minor fields [] target refl) in
    let cl = none_sent content_length parts target (no_length_sent minor fields target) in
    rw (te, cl) refl
framed_as_sent method (Length n) payload minor fields target fits = told method payload minor fields target fits
framed_as_sent method Chunked payload minor fields target fits = told method payload minor fields target fits
framed_as_sent method ToEnd payload minor fields target fits = told method payload minor fields target fits
