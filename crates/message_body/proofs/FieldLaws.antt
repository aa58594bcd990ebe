-- The fields of a head, one by one.
use Rattle.std.proofs.Common.{◌≡◌, ℕ, ◌+◌, ◌<◌, ◌≤◌, Bool, true, false, ◌||◌, List, [], ◌∷◌, ◌++◌, map, filter, length, drop, get_or, Option, Err, refl, sym, ap, ◌∙◌, if◌then◌else◌}
use Rattle.std.specs.List.{flat_map}
use Rattle.std.specs.Str.{bytes_eq}
use Rattle.std.specs.Prelude.{codes}
use Rattle.std.proofs.lemmas.List.{drop_more, drop_all, map-append}
use Rattle.httparse.specs.Grammar.{trim_ows}
use Rattle.capture.specs.Fields.{NamedValue, is_named, has_field, values_of, members_of, split_at_commas, lowered}
use Rattle.capture.specs.Framing.{is_chunked, transfer_encoding, content_length, length_of_members}
use Rattle.capture.specs.declared.framing.FramingFault.TheVariants.{Malformed}
use Rattle.http_head.specs.Heads.{named_value}
use Rattle.http_head.specs.declared.head.Field.{Field}
use Rattle.message_body.specs.Framings.{members, told_behind}

-- the fields from the i-th on, as names and values
abbrev pub fields_from : List Field → ℕ → List NamedValue
fields_from fields i = map named_value (drop i fields)

-- the i-th of them, and those behind it
pub field_at : (fields : List Field) (i : ℕ) (f : Field) → i < length fields → f ≡ get_or fields i f
    → fields_from fields i ≡ named_value f ∷ fields_from fields (i + 1)
field_at fields i f inside is =
    ap (map named_value) (drop_more fields i f inside ∙ ap (λ x. x ∷ drop (i + 1) fields) (sym is))

pub none_from : (fields : List Field) (i : ℕ) → length fields ≤ i → fields_from fields i ≡ []
none_from fields i past = ap (map named_value) (drop_all i fields past)

-- ---- whether one has a name

pub found_here : (name : List ℕ) (fields : List Field) (i : ℕ) (f : Field) → i < length fields → f ≡ get_or fields i f
    → is_named name (named_value f) ≡ true → has_field name (fields_from fields i) ≡ true
found_here name fields i f inside is named =
    ap (has_field name) (field_at fields i f inside is) ∙ ap (λ b. b || has_field name (fields_from fields (i + 1))) named

pub not_here : (name : List ℕ) (fields : List Field) (i : ℕ) (f : Field) → i < length fields → f ≡ get_or fields i f
    → is_named name (named_value f) ≡ false → has_field name (fields_from fields (i + 1)) ≡ has_field name (fields_from fields i)
not_here name fields i f inside is other =
    sym (ap (has_field name) (field_at fields i f inside is)
    ∙ ap (λ b. b || has_field name (fields_from fields (i + 1))) other)

pub not_found : (name : List ℕ) (fields : List Field) (i : ℕ) → length fields ≤ i → has_field name (fields_from fields i) ≡ false
not_found name fields i past = ap (has_field name) (none_from fields i past)

-- ---- the values of a name

one_value : (named : Bool) (f : NamedValue) (others : List NamedValue) → named ≡ true
    → map (λ x. x.1) (if named then f ∷ others else others) ≡ f.1 ∷ map (λ x. x.1) others
one_value named f others is = rw is refl

no_value : (named : Bool) (f : NamedValue) (others : List NamedValue) → named ≡ false
    → map (λ x. x.1) (if named then f ∷ others else others) ≡ map (λ x. x.1) others
no_value named f others is = rw is refl

pub value_here : (name : List ℕ) (fields : List Field) (i : ℕ) (f : Field) → i < length fields → f ≡ get_or fields i f
    → is_named name (named_value f) ≡ true → values_of name (fields_from fields i) ≡ f.value ∷ values_of name (fields_from fields (i + 1))
value_here name fields i f inside is named =
    ap (values_of name) (field_at fields i f inside is)
    ∙ one_value (is_named name (named_value f)) (named_value f) (filter (is_named name) (fields_from fields (i + 1))) named

pub no_value_here : (name : List ℕ) (fields : List Field) (i : ℕ) (f : Field) → i < length fields → f ≡ get_or fields i f
    → is_named name (named_value f) ≡ false → values_of name (fields_from fields i) ≡ values_of name (fields_from fields (i + 1))
no_value_here name fields i f inside is other =
    ap (values_of name) (field_at fields i f inside is)
    ∙ no_value (is_named name (named_value f)) (named_value f) (filter (is_named name) (fields_from fields (i + 1))) other

pub no_values : (name : List ℕ) (fields : List Field) (i : ℕ) → length fields ≤ i → values_of name (fields_from fields i) ≡ []
no_values name fields i past = ap (values_of name) (none_from fields i past)

-- ---- one value of a name

nothing_named : (name : List ℕ) (named : Bool) (f : NamedValue) (others : List NamedValue) → (named || has_field name others) ≡ false
    → map (λ x. x.1) (filter (is_named name) others) ≡ [] → map (λ x. x.1) (if named then f ∷ filter (is_named name) others else filter (is_named name) others) ≡ []
nothing_named name true f others none rest = cc
nothing_named name false f others none rest = rest

others_none : (a b : Bool) → (a || b) ≡ false → b ≡ false
others_none true b e = cc
others_none false b e = e

pub without_field : (name : List ℕ) (fields : List NamedValue) → has_field name fields ≡ false → values_of name fields ≡ []
without_field name [] none = refl
without_field name (f ∷ fields) none =
    nothing_named name (is_named name f) f fields none
    (without_field name fields (others_none (is_named name f) (has_field name fields) none))

-- ---- the members of lists

pub members_here : (name : List ℕ) (fields : List Field) (i : ℕ) (f : Field) → i < length fields → f ≡ get_or fields i f
    → is_named name (named_value f) ≡ true
    → members_of name (fields_from fields i) ≡ members f.value ++ members_of name (fields_from fields (i + 1))
members_here name fields i f inside is named =
    ap (λ values. map trim_ows (flat_map split_at_commas values)) (value_here name fields i f inside is named)
    ∙ map-append trim_ows (split_at_commas f.value) (flat_map split_at_commas (values_of name (fields_from fields (i + 1))))

pub no_members_here : (name : List ℕ) (fields : List Field) (i : ℕ) (f : Field) → i < length fields → f ≡ get_or fields i f
    → is_named name (named_value f) ≡ false → members_of name (fields_from fields i) ≡ members_of name (fields_from fields (i + 1))
no_members_here name fields i f inside is other =
    ap (λ values. map trim_ows (flat_map split_at_commas values)) (no_value_here name fields i f inside is other)

pub no_members : (name : List ℕ) (fields : List Field) (i : ℕ) → length fields ≤ i → members_of name (fields_from fields i) ≡ []
no_members name fields i past =
    ap (λ values. map trim_ows (flat_map split_at_commas values)) (no_values name fields i past)

-- ---- the length that the fields tell

-- the fields from the i-th on tell the length
abbrev pub Tells : Option ℕ → List Field → ℕ → Type 0
Tells known fields i =
    told_behind known (members_of content_length (fields_from fields i)) ≡ length_of_members (members_of content_length (map named_value fields))

pub tells_on : (known more : Option ℕ) (fields : List Field) (i : ℕ) (f : Field) (list : List ℕ) → i < length fields → f ≡ get_or fields i f
    → is_named content_length (named_value f) ≡ true → list ≡ f.value
    → ((others : List (List ℕ)) → told_behind known (members list ++ others) ≡ told_behind more others)
    → Tells known fields i → Tells more fields (i + 1)
tells_on known more fields i f list inside is named same goes so_far =
    let rest = members_of content_length (fields_from fields (i + 1)) in
    sym (goes rest) ∙ ap (λ v. told_behind known (members v ++ rest)) same
    ∙ sym (ap (told_behind known) (members_here content_length fields i f inside is named)) ∙ so_far

pub tells_nothing : (known : Option ℕ) (fields : List Field) (i : ℕ) (f : Field) (list : List ℕ) → i < length fields → f ≡ get_or fields i f
    → is_named content_length (named_value f) ≡ true → list ≡ f.value
    → ((others : List (List ℕ)) → told_behind known (members list ++ others) ≡ Err Malformed)
    → Tells known fields i → length_of_members (members_of content_length (map named_value fields)) ≡ Err Malformed
tells_nothing known fields i f list inside is named same goes so_far =
    let rest = members_of content_length (fields_from fields (i + 1)) in
    sym so_far ∙ ap (told_behind known) (members_here content_length fields i f inside is named)
    ∙ ap (λ v. told_behind known (members v ++ rest)) (sym same) ∙ goes rest

pub tells_behind_other : (known : Option ℕ) (fields : List Field) (i : ℕ) (f : Field) → i < length fields → f ≡ get_or fields i f
    → is_named content_length (named_value f) ≡ false → Tells known fields i → Tells known fields (i + 1)
tells_behind_other known fields i f inside is other so_far =
    sym (ap (told_behind known) (no_members_here content_length fields i f inside is other)) ∙ so_far

-- ---- the transfer coding that the fields tell

-- the fields from the i-th on tell whether it is `chunked` alone
abbrev pub TellsCoding : List Field → ℕ → Type 0
TellsCoding fields i =
    is_chunked (values_of transfer_encoding (fields_from fields i)) ≡ is_chunked (values_of transfer_encoding (map named_value fields))

pub tells_coding_on : (fields : List Field) (i : ℕ) (f : Field) → i < length fields → f ≡ get_or fields i f
    → is_named transfer_encoding (named_value f) ≡ false → TellsCoding fields i → TellsCoding fields (i + 1)
tells_coding_on fields i f inside is other so_far =
    sym (ap is_chunked (no_value_here transfer_encoding fields i f inside is other)) ∙ so_far

-- a value, and whether others stand behind it
two_values : (value : List ℕ) (values : List (List ℕ)) → (values ≡ [] → ⊥) → is_chunked (value ∷ values) ≡ false
two_values value [] some = absurd (some refl)
two_values value (other ∷ values) some = refl

named_value_there : (name : List ℕ) (named : Bool) (f : NamedValue) (others : List NamedValue) → (named || has_field name others) ≡ true
    → (has_field name others ≡ true → map (λ x. x.1) (filter (is_named name) others) ≡ [] → ⊥)
    → map (λ x. x.1) (if named then f ∷ filter (is_named name) others else filter (is_named name) others) ≡ [] → ⊥
named_value_there name true f others some rest none = cc
named_value_there name false f others some rest none = rest some none

with_field : (name : List ℕ) (fields : List NamedValue) → has_field name fields ≡ true → values_of name fields ≡ [] → ⊥
with_field name [] some none = cc
with_field name (f ∷ fields) some none =
    named_value_there name (is_named name f) f fields some (with_field name fields) none

pub second_value : (fields : List Field) (i : ℕ) (f : Field) (behind : List Field) → i < length fields → f ≡ get_or fields i f
    → is_named transfer_encoding (named_value f) ≡ true → behind ≡ drop (i + 1) fields
    → has_field transfer_encoding (map named_value behind) ≡ true → TellsCoding fields i
    → is_chunked (values_of transfer_encoding (map named_value fields)) ≡ false
second_value fields i f behind inside is named rest_is some so_far =
    let rest = fields_from fields (i + 1) in
    let some_there : has_field transfer_encoding rest ≡ true =
    ap (λ r. has_field transfer_encoding (map named_value r)) (sym rest_is) ∙ some in
    sym so_far ∙ ap is_chunked (value_here transfer_encoding fields i f inside is named)
    ∙ two_values f.value (values_of transfer_encoding rest) (with_field transfer_encoding rest some_there)

pub one_value_alone : (fields : List Field) (i : ℕ) (f : Field) (behind : List Field) → i < length fields → f ≡ get_or fields i f
    → is_named transfer_encoding (named_value f) ≡ true → behind ≡ drop (i + 1) fields
    → has_field transfer_encoding (map named_value behind) ≡ false → TellsCoding fields i
    → is_chunked (values_of transfer_encoding (map named_value fields)) ≡ bytes_eq (lowered f.value) (codes "chunked")
one_value_alone fields i f behind inside is named rest_is none so_far =
    let rest = fields_from fields (i + 1) in
    let none_there : has_field transfer_encoding rest ≡ false =
    ap (λ r. has_field transfer_encoding (map named_value r)) (sym rest_is) ∙ none in
    sym so_far ∙ ap is_chunked (value_here transfer_encoding fields i f inside is named)
    ∙ ap (λ values. is_chunked (f.value ∷ values)) (without_field transfer_encoding rest none_there)

pub no_coding_left : (fields : List Field) (i : ℕ) → length fields ≤ i → TellsCoding fields i
    → is_chunked (values_of transfer_encoding (map named_value fields)) ≡ false
no_coding_left fields i past so_far = sym so_far ∙ ap is_chunked (no_values transfer_encoding fields i past)
