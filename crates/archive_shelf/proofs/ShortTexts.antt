-- The texts of a sound book are short, also those that it gains.
use Rattle.std.proofs.Common.{◌≡◌, ◌≢◌, ℕ, zero, suc, ◌+◌, ◌-◌, ◌^◌, ◌<◌, ◌≤◌, Bool, true, false, List, [], ◌∷◌, ◌++◌, length, take, refl, sym, ap, subst, ◌∙◌, inl, inr, ⊎_elim, arith, append-nil, length-append}
use Rattle.std.specs.Prelude.{Option, Some, None, decimal, slice_get, slice_index_or}
use Rattle.std.proofs.lemmas.Bool.{cases_lt}
use Rattle.std.proofs.lemmas.Fmt.{length-decimal-le}
use Rattle.std.proofs.lemmas.Option.{same_Some, slice_get_within}
use Rattle.sha1.specs.Sha1.{sha1}
use Rattle.capture.specs.Captures.{captures, captures_in, first_number, taken_back}
use Rattle.capture.specs.declared.book.Book.{Book}
use Rattle.capture.specs.declared.book.Volume.{Volume}
use Rattle.capture.specs.declared.captured.Kept.{Kept}
use Rattle.capture.specs.declared.captured.Kept.TheVariants.{Wire, Same, Cut}
use Rattle.capture.specs.declared.captured.Stored.{Stored}
use Rattle.capture.specs.declared.captured.Taken.{Taken}
use Rattle.digest32.specs.Base32.{IsDigest}
use Rattle.time_text.proofs.DateLaws.{short}
use Rattle.time_text.specs.Texts.{warc_date}
use Rattle.warc_text.proofs.IdLaws.{sha1_length, sha1_small}
use Rattle.warc_text.proofs.LengthLaws.{length_of_info, response_group_length, revisit_group_length}
use Rattle.warc_text.specs.Books.{IsGroupText, IsVolumeText, RefersBy, joined, same_of}
use Rattle.warc_text.specs.Growth.{SoundVolumesHaveOneText}
use Rattle.warc_text.specs.Lengths.{IsShort, ended_length, info_block_length, info_length, request_length, response_length, revisit_length}
use Rattle.warc_text.specs.Lines.{cut_line, field}
use Rattle.warc_text.specs.Records.{group_text, info_text}
use Rattle.warc_text.specs.References.{Reference, reference_of, reference_to}
use Rattle.warc_text.specs.Sound.{IsSound}
use Rattle.warc_text.specs.declared.same_of.SameOf.{SameOf}

pub is_digest : (payload : List ℕ) → IsDigest (sha1 payload)
is_digest payload = record { length_is = sha1_length payload; bytes = sha1_small payload }

-- ---- a warcinfo

pub short_info : (namespace : List ℕ) (volume born : ℕ) → volume < 2 ^ 32 → length (info_text namespace volume born) ≤ 512
short_info namespace volume born small =
    let date : length (warc_date born) ≤ 24 = (short born).1 in
    let digits : length (decimal volume) ≤ 10 = length-decimal-le 10 volume (omega arith) (omega (arith, small)) (omega (arith, small)) in
    let block : length (decimal (info_block_length volume)) ≤ 3 =
    length-decimal-le 3 (info_block_length volume) (omega arith) (omega (arith, digits)) (omega (arith, digits)) in
    omega (arith, length_of_info namespace volume born, date, digits, block)

-- ---- a group, by what it refers to

short_cut : (cut : Bool) → length (cut_line cut) ≤ 28
unfolding cut_line field
short_cut true = omega arith
short_cut false = omega arith

pub response_short : (namespace : List ℕ) (number : ℕ) (taken : Taken) (payload : List ℕ) → IsShort taken
    → length (group_text namespace number taken (sha1 payload) None) < 2 ^ 61
response_short namespace number taken payload is =
    let date : length (warc_date taken.date) ≤ 24 = (short taken.date).1 in
    let cut : length (cut_line taken.cut) ≤ 28 = short_cut taken.cut in
    let block : length (decimal (length taken.head + length taken.wire)) ≤ 20 =
    length-decimal-le 20 (length taken.head + length taken.wire) (omega arith) (omega (arith, is.head, is.wire)) (omega (arith, is.head, is.wire)) in
    let asked : length (decimal (length taken.request)) ≤ 20 =
    length-decimal-le 20 (length taken.request) (omega arith) (omega (arith, is.request)) (omega (arith, is.request)) in
    omega (arith, response_group_length namespace number taken (sha1 payload) (is_digest payload), date, cut, block, asked, is.head, is.wire, is.uri, is.request)

pub revisit_short : (namespace : List ℕ) (number : ℕ) (taken : Taken) (payload : List ℕ) (reference : Reference) → IsShort taken
    → length reference.uri < 2 ^ 61
    → length (group_text namespace number taken (sha1 payload) (Some reference)) < 2 ^ 61 + 2 ^ 60
revisit_short namespace number taken payload reference is uri =
    let date : length (warc_date taken.date) ≤ 24 = (short taken.date).1 in
    let other : length (warc_date reference.date) ≤ 24 = (short reference.date).1 in
    let block : length (decimal (length taken.head)) ≤ 20 =
    length-decimal-le 20 (length taken.head) (omega arith) (omega (arith, is.head)) (omega (arith, is.head)) in
    let asked : length (decimal (length taken.request)) ≤ 20 =
    length-decimal-le 20 (length taken.request) (omega arith) (omega (arith, is.request)) (omega (arith, is.request)) in
    omega (arith, revisit_group_length namespace number taken (sha1 payload) reference (is_digest payload), date, other, block, asked, is.head, is.uri, is.request, uri)

-- a group has the target twice
group_has_target : (namespace : List ℕ) (number : ℕ) (taken : Taken) (payload : List ℕ) (same : Option SameOf)
    → length taken.uri + length taken.uri ≤ length (group_text namespace number taken (sha1 payload) (reference_of namespace same))
group_has_target namespace number taken payload None =
    omega (arith, response_group_length namespace number taken (sha1 payload) (is_digest payload))
group_has_target namespace number taken payload (Some same) =
    omega (arith, revisit_group_length namespace number taken (sha1 payload) (reference_to namespace same) (is_digest payload))

-- ---- a capture's group in its volume

-- where a capture stands: its volume, and its place there
pub record IsLocated (volumes : List Volume) (number : ℕ) (stored : Stored) : Type 0 where
  pub k : ℕ
  pub place : ℕ
  pub volume : Volume
  pub placed : slice_get volumes k ≡ Some volume
  pub numbered : number ≡ length (captures_in (take k volumes)) + place
  pub there : slice_get volume.captures place ≡ Some stored

behind : (xs ys : List Stored) (n : ℕ) → length xs ≤ n → slice_get (xs ++ ys) n ≡ slice_get ys (n - length xs)
behind [] ys n le = ap (slice_get ys) (omega arith)
behind (x ∷ xs) ys zero le = absurd (omega (arith, le))
behind (x ∷ xs) ys (suc n) le = behind xs ys n (omega (arith, le)) ∙ ap (slice_get ys) (omega arith)

before : (xs ys : List Stored) (n : ℕ) → n < length xs → slice_get (xs ++ ys) n ≡ slice_get xs n
before [] ys n less = absurd (omega (arith, less))
before (x ∷ xs) ys zero less = refl
before (x ∷ xs) ys (suc n) less = before xs ys n (omega (arith, less))

pub located : (volumes : List Volume) (number : ℕ) (stored : Stored) → slice_get (captures_in volumes) number ≡ Some stored
    → IsLocated volumes number stored
located [] number stored at = absurd (nowhere at)
  where
    nowhere : None ≡ Some stored → ⊥
    nowhere e = cc
located (v ∷ vs) number stored at = ⊎_elim
    (λ (first : number < length v.captures). record {
      k = 0;
      place = number;
      volume = v;
      placed = refl;
      numbered = omega arith;
      there = sym (before v.captures (captures_in vs) number first) ∙ at;
    })
    (λ (later : length v.captures ≤ number).
    let rest = located vs (number - length v.captures) stored (sym (behind v.captures (captures_in vs) number later) ∙ at) in
    let front : length (v.captures ++ captures_in (take rest.k vs)) ≡ length v.captures + length (captures_in (take rest.k vs))
    = length-append v.captures (captures_in (take rest.k vs)) in
    record {
      k = suc rest.k;
      place = rest.place;
      volume = rest.volume;
      placed = rest.placed;
      numbered = omega (arith, rest.numbered, later, front);
      there = rest.there;
    })
    (cases_lt number (length v.captures))

-- one of the texts is no longer than all joined
part_of_joined : (texts : List (List ℕ)) (j : ℕ) → j < length texts → length (slice_index_or texts j []) ≤ length (joined texts)
part_of_joined [] j less = absurd (omega (arith, less))
part_of_joined (t ∷ ts) zero less = omega (arith, length-append t (joined ts))
part_of_joined (t ∷ ts) (suc j) less = omega (arith, part_of_joined ts j (omega (arith, less)), length-append t (joined ts))

-- the target of a capture of a sound book is short
pub short_target : SoundVolumesHaveOneText → (book : Book) (number : ℕ) (stored : Stored) → IsSound book
    → slice_get (captures book) number ≡ Some stored → length stored.uri < 2 ^ 61
short_target one book number stored sound at =
    let is = located book.volumes number stored at in
    let text = one book is.k sound (slice_get_within book.volumes is.k is.volume is.placed) in
    let volume : text.is.volume ≡ is.volume = same_Some text.is.volume is.volume (sym text.is.placed ∙ is.placed) in
    let within : is.place < length text.is.groups =
    omega (arith, slice_get_within is.volume.captures is.place stored is.there, text.is.count, ap (λ (v : Volume). length v.captures) volume) in
    let group : IsGroupText book (first_number book is.k + is.place) (slice_index_or text.is.groups is.place []) = text.is.each is.place within in
    let same : group.stored ≡ stored = same_Some group.stored stored
    (sym group.placed ∙ ap (slice_get (captures book)) (sym is.numbered) ∙ at) in
    let long : length (slice_index_or text.is.groups is.place []) ≡ length (group_text book.namespace (first_number book is.k + is.place) (taken_back group.stored) (sha1 group.payload) (reference_of book.namespace group.same))
    = ap length group.composed in
    let all : length text.text ≡ length (info_text book.namespace is.k text.is.volume.born) + length (joined text.is.groups)
    = ap length text.is.composed ∙ length-append (info_text book.namespace is.k text.is.volume.born) (joined text.is.groups) in
    omega (
      arith,
      part_of_joined text.is.groups is.place within,
      long,
      all,
      sound.short_texts is.k text.text text.is,
      ap (λ (s : Stored). length s.uri) same,
      group_has_target book.namespace (first_number book is.k + is.place) (taken_back group.stored) group.payload group.same,
    )

-- ---- a new capture's group

group_short_by : SoundVolumesHaveOneText → (old new : Book) (number : ℕ) (stored : Stored) (payload : List ℕ) (kept : Kept) (same : Option SameOf)
    → IsSound old → ((n : ℕ) (s : Stored) → n < number → slice_get (captures new) n ≡ Some s → slice_get (captures old) n ≡ Some s)
    → ((first : ℕ) → kept ≡ Same first → first < number) → IsShort (taken_back stored) → RefersBy new kept same
    → length (group_text new.namespace number (taken_back stored) (sha1 payload) (reference_of new.namespace same)) < 2 ^ 61 + 2 ^ 60
group_short_by one old new number stored payload (Wire wire) same sound was earlier is refers =
    let text : length (group_text new.namespace number (taken_back stored) (sha1 payload) (reference_of new.namespace same)) ≡ length (group_text new.namespace number (taken_back stored) (sha1 payload) None)
    = ap (λ (s : Option SameOf). length (group_text new.namespace number (taken_back stored) (sha1 payload) (reference_of new.namespace s))) refers in
    omega (arith, text, response_short new.namespace number (taken_back stored) payload is)
group_short_by one old new number stored payload (Cut wire) same sound was earlier is refers =
    let text : length (group_text new.namespace number (taken_back stored) (sha1 payload) (reference_of new.namespace same)) ≡ length (group_text new.namespace number (taken_back stored) (sha1 payload) None)
    = ap (λ (s : Option SameOf). length (group_text new.namespace number (taken_back stored) (sha1 payload) (reference_of new.namespace s))) refers in
    omega (arith, text, response_short new.namespace number (taken_back stored) payload is)
group_short_by one old new number stored payload (Same first) same sound was earlier is refers =
    let uri : length refers.0.uri < 2 ^ 61 = short_target one old first refers.0 sound (was first refers.0 (earlier first refl) refers.1) in
    let reference : Reference = reference_to new.namespace (same_of first refers.0) in
    let text : length (group_text new.namespace number (taken_back stored) (sha1 payload) (reference_of new.namespace same)) ≡ length (group_text new.namespace number (taken_back stored) (sha1 payload) (Some reference))
    = ap (λ (s : Option SameOf). length (group_text new.namespace number (taken_back stored) (sha1 payload) (reference_of new.namespace s))) refers.2 in
    omega (arith, text, revisit_short new.namespace number (taken_back stored) payload reference is uri)

-- the group of a new capture, whatever it refers to
pub short_group : SoundVolumesHaveOneText → (old new : Book) (number : ℕ) (stored : Stored) (text : List ℕ) (of : IsGroupText new number text)
    → IsSound old → ((n : ℕ) (s : Stored) → n < number → slice_get (captures new) n ≡ Some s → slice_get (captures old) n ≡ Some s)
    → slice_get (captures new) number ≡ Some stored
    → ((first : ℕ) → stored.kept ≡ Same first → first < number) → IsShort (taken_back stored) → length text < 2 ^ 61 + 2 ^ 60
short_group one old new number stored text of sound was at earlier is =
    let same : stored ≡ of.stored = same_Some stored of.stored (sym at ∙ of.placed) in
    let less = group_short_by one old new number of.stored of.payload of.stored.kept of.same sound was
    (subst (λ (s : Stored). (first : ℕ) → s.kept ≡ Same first → first < number) same earlier)
    (subst (λ (s : Stored). IsShort (taken_back s)) same is) of.refers in
    omega (arith, less, ap length of.composed)
