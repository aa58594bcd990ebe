-- A sound book stays sound when a capture that fits is stored.
use Rattle.std.proofs.Common.{◌≡◌, ◌≢◌, ◌⊎◌, ℕ, suc, ◌+◌, ◌-◌, ◌^◌, ◌<◌, ◌≤◌, Bool, true, false, List, [], ◌∷◌, ◌++◌, length, refl, sym, ap, subst, ◌∙◌, inl, inr, ⊎_elim, arith, append-nil, length-append}
use Rattle.std.specs.Prelude.{Option, Some, None, slice_get, slice_index_or}
use Rattle.std.proofs.lemmas.Bool.{cases_lt}
use Rattle.std.proofs.lemmas.Option.{same_Some, slice_get_within}
use Rattle.httparse.proofs.GrammarLemmas.{response_unique}
use Rattle.httparse.specs.Grammar.{ResponseHead, status_code}
use Rattle.capture.specs.Body.{IsWire}
use Rattle.capture.specs.Captures.{HasPayload, captures, captures_in, first_number, kept_wire, taken_back}
use Rattle.capture.specs.Payload.{IsPayload}
use Rattle.capture.specs.Soundness.{IsSoundBy}
use Rattle.capture.specs.WellFormed.{IsHeadBefore, IsResponseTo, RespondsTo}
use Rattle.capture.specs.declared.book.Book.{Book}
use Rattle.capture.specs.declared.book.Volume.{Volume}
use Rattle.capture.specs.declared.captured.Kept.TheVariants.{Same}
use Rattle.capture.specs.declared.captured.Stored.{Stored}
use Rattle.capture.specs.declared.captured.Taken.{Taken}
use Rattle.capture.specs.declared.framing.Framing.{Framing}
use Rattle.capture.specs.declared.framing.Framing.TheVariants.{Empty, Length, Chunked, ToEnd}
use Rattle.time_text.specs.Texts.{InRange}
use Rattle.warc_text.proofs.BookLaws.{get_behind}
use Rattle.warc_text.specs.Books.{IsGroupText, IsVolumeText, joined}
use Rattle.warc_text.specs.Growth.{LastVolumeGoesOn, NumbersHaveOneGroup, SealedVolumesStay, SoundVolumesHaveOneText}
use Rattle.warc_text.specs.Lengths.{IsShort}
use Rattle.warc_text.specs.Records.{info_text}
use Rattle.warc_text.specs.Sound.{IsSound}
use Rattle.archive_shelf.proofs.ComparingLaws.{first_keeps_its_wire, placed_before}
use Rattle.archive_shelf.proofs.GainingSoundness.{captures_keep_soundness, keeps_later, no_volumes, volumes_keep_soundness}
use Rattle.archive_shelf.proofs.GainingTexts.{last_placed, number_in_last}
use Rattle.archive_shelf.proofs.OneWayLaws.{one_text}
use Rattle.archive_shelf.proofs.ShortTexts.{short_group, short_info}
use Rattle.archive_shelf.proofs.StoringLaws.{captures_more, captures_stay, IsUnfilled}
use Rattle.archive_shelf.specs.Comparing.{RefersBy}
use Rattle.archive_shelf.specs.Gaining.{AreFilled, StoringKeepsSoundness}
use Rattle.archive_shelf.specs.Storing.{HasLast, NeedsVolume, as_stored, kept_of, new_volume, with_capture, with_volume}

-- ---- what is kept is sound

-- a head before a payload that isn't empty tells of it
body_tells : (framing : Framing) (wire payload : List ℕ) → IsWire false framing wire → IsPayload false framing wire payload → payload ≢ []
    → (framing ≢ Empty) × ((n : ℕ) → framing ≡ Length n → length payload ≡ n)
body_tells Empty wire payload is of some = absurd (some (of ∙ is))
body_tells (Length m) wire payload is of some = ((λ e. cc), (λ n e. ap length of ∙ is ∙ same m n e))
  where
    same : (m n : ℕ) → Length m ≡ Length n → m ≡ n
    same m n e = cc
body_tells Chunked wire payload is of some = ((λ e. cc), (λ n e. cc))
body_tells ToEnd wire payload is of some = ((λ e. cc), (λ n e. cc))

head_before : (method head wire payload : List ℕ) → IsResponseTo method head wire → HasPayload false method head wire payload → payload ≢ []
    → IsHeadBefore method head payload
head_before method head wire payload response has some =
    let one : response.parsed ≡ has.parsed =
    (response_unique head response.parsed has.parsed [] [] response.head_is.whole.reads has.whole.reads).0 in
    let tells = body_tells has.framing wire payload has.wire_is has.decoded some in
    record {
      parsed = has.parsed;
      framing = has.framing;
      tells = record {
        head_is = record { whole = has.whole; final = subst (λ (h : ResponseHead). 200 ≤ status_code h) one response.head_is.final };
        framed = has.framed;
        some = tells.0;
      };
      told = tells.1;
    }

-- what is kept of a capture that fits, in the book with it
kept_sound : (book new : Book) (added : List Stored) (is : captures new ≡ captures book ++ added) (method uri : List ℕ) (date : ℕ) (request head wire payload : List ℕ)
    (cut : Bool) (same : Option ℕ) → IsSound book → RespondsTo cut method head wire → HasPayload cut method head wire payload
    → ((first : ℕ) → same ≡ Some first → cut ≡ false → RefersBy false book (length (captures book)) payload same)
    → IsSoundBy new (length (captures book)) (record { method = method; uri = uri; date = date; request = request; head = head; kept = kept_of cut wire same }) (kept_of cut wire same)
kept_sound book new added is method uri date request head wire payload true same sound responds has finds = responds
kept_sound book new added is method uri date request head wire payload false None sound responds has finds = responds
kept_sound book new added is method uri date request head wire payload false (Some first) sound responds has finds =
    let found = finds first refl refl in
    let original = first_keeps_its_wire book first payload sound.sound found.2 found.3 in
    record {
      earlier = found.1;
      original = original.stored;
      wire = original.wire;
      payload = payload;
      keeps = keeps_later book new added is first original.stored original.wire payload original.keeps;
      head = head_before method head wire payload responds has found.0;
    }

finds_by : (cut : Bool) (book : Book) (payload : List ℕ) (same : Option ℕ) → RefersBy cut book (length (captures book)) payload same
    → (first : ℕ) → same ≡ Some first → cut ≡ false → RefersBy false book (length (captures book)) payload same
finds_by true book payload same refers first is whole = cc
finds_by false book payload same refers first is whole = refers

-- ---- a capture that fits is short as it is kept

taken_short : (taken : Taken) (same : Option ℕ) → IsShort taken → IsShort (taken_back (as_stored taken same))
taken_short taken same is = record { uri = is.uri; head = is.head; wire = wire taken.cut same; request = is.request }
  where
    wire : (cut : Bool) (same : Option ℕ) → length (kept_wire (kept_of cut taken.wire same)) < 2 ^ 58
    wire true same = is.wire
    wire false None = is.wire
    wire false (Some first) = omega arith

kept_earlier : (cut : Bool) (wire : List ℕ) (same : Option ℕ) (first : ℕ) → kept_of cut wire same ≡ Same first → (same ≡ Some first) × (cut ≡ false)
kept_earlier true wire same first e = cc
kept_earlier false wire None first e = cc
kept_earlier false wire (Some other) first e = (ap Some (one other first e), refl)
  where
    one : (m n : ℕ) → Same m ≡ Same n → m ≡ n
    one m n e = cc

-- ---- the last volume's text

-- a volume of one capture has a short text
one_short : (namespace : List ℕ) (k born : ℕ) (text : List ℕ) (groups : List (List ℕ)) → k < 2 ^ 32 → length groups ≡ 1
    → text ≡ info_text namespace k born ++ joined groups → length (slice_index_or groups 0 []) < 2 ^ 61 + 2 ^ 60 → length text < 2 ^ 62
one_short namespace k born text [] small is composed less = absurd (omega (arith, is))
one_short namespace k born text (g ∷ []) small is composed less =
    let all : length text ≡ length (info_text namespace k born) + length (g ++ []) = ap length composed ∙ length-append (info_text namespace k born) (g ++ []) in
    let group : length (g ++ []) ≡ length g = ap length (append-nil g) in
    omega (arith, all, group, less, short_info namespace k born small)
one_short namespace k born text (g ∷ h ∷ gs) small is composed less = absurd (omega (arith, is))

last_short : NumbersHaveOneGroup → SoundVolumesHaveOneText → (room : Book) (stored : Stored) (k : ℕ) (text : List ℕ) (volume : Volume)
    → IsSound room → length room.volumes < 2 ^ 32 → k + 1 ≡ length room.volumes → slice_get room.volumes k ≡ Some volume → volume.captures ≡ []
    → captures (with_capture room stored) ≡ captures room ++ stored ∷ []
    → ((first : ℕ) → stored.kept ≡ Same first → first < length (captures room)) → IsShort (taken_back stored)
    → IsVolumeText (with_capture room stored) k text → length text < 2 ^ 62
last_short one has room stored k text volume sound small is_last at empty is earlier short of =
    let new : Book = with_capture room stored in
    let after : Volume = record { born = volume.born; captures = volume.captures ++ stored ∷ [] } in
    let same : of.volume ≡ after = same_Some of.volume after (sym of.placed ∙ last_placed room.volumes stored k volume is_last at) in
    let none : length volume.captures ≡ 0 = ap length empty in
    let count : length of.groups ≡ 1 =
    omega (arith, of.count, ap (λ (v : Volume). length v.captures) same, length-append volume.captures (stored ∷ []), none) in
    let number : first_number new k + 0 ≡ length (captures room) =
    omega (arith, number_in_last room stored k volume is_last at, none) in
    let group : IsGroupText new (length (captures room)) (slice_index_or of.groups 0 []) =
    subst (λ (n : ℕ). IsGroupText new n (slice_index_or of.groups 0 [])) number (of.each 0 (omega (arith, count))) in
    let placed : slice_get (captures new) (length (captures room)) ≡ Some stored =
    ap (λ (l : List Stored). slice_get l (length (captures room))) is ∙ get_behind (captures room ++ stored ∷ []) (captures room) stored [] (length (captures room)) refl refl in
    one_short new.namespace k of.volume.born text of.groups (omega (arith, is_last, small)) count of.composed
    (short_group has room new (length (captures room)) stored (slice_index_or of.groups 0 []) group sound
    (λ n s less e. placed_before room new (stored ∷ []) is n s less e) placed earlier short)

-- ---- storing

some_by : (volumes : List Volume) → volumes ≢ [] → 0 < length volumes
some_by [] some = absurd (some refl)
some_by (v ∷ vs) some = omega arith

some_captures : (captures : List Stored) → captures ≢ [] → 0 < length captures
some_captures [] some = absurd (some refl)
some_captures (c ∷ cs) some = omega arith

-- where a capture needs a volume, all others hold a capture
filled_by : (limit : ℕ) (book : Book) (stored : Stored) → IsSound book → NeedsVolume limit book stored true → AreFilled book
filled_by limit book stored sound (inl none) k volume at =
    absurd (omega (arith, slice_get_within book.volumes k volume at, ap length none))
filled_by limit book stored sound (inr needs) k volume at = ⊎_elim
    (λ (sealed : k + 1 < length book.volumes). sound.sound.filled k volume at sealed)
    (λ (behind : length book.volumes ≤ k + 1).
    let last = needs.0 in
    let same_k : k ≡ last.number = omega (arith, slice_get_within book.volumes k volume at, behind, last.is_last) in
    let same : volume ≡ last.volume = same_Some volume last.volume (sym at ∙ ap (slice_get book.volumes) same_k ∙ last.placed) in
    omega (arith, some_captures last.volume.captures needs.1, ap (λ (v : Volume). length v.captures) same))
    (cases_lt (k + 1) (length book.volumes))

-- the book with room is sound, has a volume, and the same captures
pub record IsRoomy (book room : Book) : Type 0 where
  pub sound : IsSound room
  pub some : 0 < length room.volumes
  pub same : captures room ≡ captures book

roomy : SealedVolumesStay → LastVolumeGoesOn → NumbersHaveOneGroup → SoundVolumesHaveOneText → (limit : ℕ) (book : Book) (stored : Stored) (room : Book)
    → IsSound book → InRange stored.date → IsUnfilled limit book stored room → IsRoomy book room
roomy stay goes_on one has limit book stored room sound in_range (inl stays) = record {
  sound = subst IsSound (sym stays.1) sound;
  some = omega (arith, stays.0.0.is_last, ap (λ (b : Book). length b.volumes) stays.1);
  same = ap captures stays.1;
}
roomy stay goes_on one has limit book stored room sound in_range (inr new) = record {
  sound = subst IsSound (sym new.1)
      (volumes_keep_soundness stay goes_on one has book stored.date sound (filled_by limit book stored sound new.0) in_range);
  some = omega (arith, ap (λ (b : Book). length b.volumes) new.1, length-append book.volumes (new_volume stored.date ∷ []));
  same = ap captures new.1 ∙ captures_stay book.volumes stored.date;
}

-- so few volumes has a book whose volumes hold captures, save the last
few_volumes_in : (volumes : List Volume)
    → ((k : ℕ) (volume : Volume) → slice_get volumes k ≡ Some volume → k + 1 < length volumes → 0 < length volume.captures)
    → length volumes ≤ length (captures_in volumes) + 1
few_volumes_in [] filled = omega arith
few_volumes_in (v ∷ []) filled = omega arith
few_volumes_in (v ∷ w ∷ others) filled =
    let behind = few_volumes_in (w ∷ others) (λ k volume at less. filled (suc k) volume at (omega (arith, less))) in
    omega (arith, behind, filled 0 v refl (omega arith), length-append v.captures (captures_in (w ∷ others)))

pub few_volumes : (book : Book) → IsSound book → length book.volumes ≤ length (captures book) + 1
few_volumes book sound = few_volumes_in book.volumes sound.sound.filled

-- the text of the last volume with the capture, in a book that had room for it
room_short : NumbersHaveOneGroup → SoundVolumesHaveOneText → (limit : ℕ) (book : Book) (stored : Stored) → IsSound book → limit < 2 ^ 62
    → length (captures book) + 1 < 2 ^ 32 - 1
    → ((first : ℕ) → stored.kept ≡ Same first → first < length (captures book)) → IsShort (taken_back stored)
    → NeedsVolume limit book stored false
    → (k : ℕ) (text : List ℕ) → k + 1 ≡ length book.volumes → IsVolumeText (with_capture book stored) k text → length text < 2 ^ 62
room_short one has limit book stored sound below few earlier short room k text is_last of =
    let last : HasLast book = room.0 in
    let at : k ≡ last.number = omega (arith, is_last, last.is_last) in
    ⊎_elim
    (λ (empty : last.volume.captures ≡ []).
    last_short one has book stored k text last.volume sound (omega (arith, few_volumes book sound, few)) is_last
    (ap (slice_get book.volumes) at ∙ last.placed) empty
    (captures_more book.volumes stored (no_volumes book.volumes (omega (arith, is_last)))) earlier short of)
    (λ (within : (other : List ℕ) × IsVolumeText (with_capture book stored) last.number other × (length other ≤ limit)).
    let here : IsVolumeText (with_capture book stored) last.number text = subst (λ (n : ℕ). IsVolumeText (with_capture book stored) n text) at of in
    let same : text ≡ within.0 = one_text one (with_capture book stored) last.number text within.0 here within.1 in
    omega (arith, ap length same, within.2, below))
    room.1

-- and in one that got a new volume
volume_short : SealedVolumesStay → LastVolumeGoesOn → NumbersHaveOneGroup → SoundVolumesHaveOneText → (book : Book) (stored : Stored) (born : ℕ)
    → IsSound (with_volume book born) → length (captures book) + 1 < 2 ^ 32 - 1
    → ((first : ℕ) → stored.kept ≡ Same first → first < length (captures book)) → IsShort (taken_back stored)
    → (k : ℕ) (text : List ℕ) → k + 1 ≡ length (book.volumes ++ new_volume born ∷ []) → IsVolumeText (with_capture (with_volume book born) stored) k text
    → length text < 2 ^ 62
volume_short stay goes_on one has book stored born sound few earlier short k text is_last of =
    let room : Book = with_volume book born in
    let same : captures room ≡ captures book = captures_stay book.volumes born in
    let count : length (captures room) ≡ length (captures book) = ap length same in
    let at : length book.volumes ≡ k = omega (arith, is_last, length-append book.volumes (new_volume born ∷ [])) in
    last_short one has room stored k text (new_volume born) sound (omega (arith, few_volumes room sound, count, few)) is_last
    (get_behind (book.volumes ++ new_volume born ∷ []) book.volumes (new_volume born) [] k refl at) refl
    (captures_more room.volumes stored (no_volumes room.volumes (omega (arith, is_last))))
    (λ first e. omega (arith, earlier first e, count)) short of

unfilled_short : SealedVolumesStay → LastVolumeGoesOn → NumbersHaveOneGroup → SoundVolumesHaveOneText → (limit : ℕ) (book : Book) (stored : Stored) (room : Book)
    → IsSound book → IsSound room → limit < 2 ^ 62 → length (captures book) + 1 < 2 ^ 32 - 1
    → ((first : ℕ) → stored.kept ≡ Same first → first < length (captures book)) → IsShort (taken_back stored)
    → IsUnfilled limit book stored room
    → (k : ℕ) (text : List ℕ) → k + 1 ≡ length room.volumes → IsVolumeText (with_capture room stored) k text → length text < 2 ^ 62
unfilled_short stay goes_on one has limit book stored room sound roomy_is below few earlier short (inl stays) k text is_last of =
    room_short one has limit book stored sound below few earlier short stays.0 k text
    (is_last ∙ ap (λ (b : Book). length b.volumes) stays.1)
    (subst (λ (b : Book). IsVolumeText (with_capture b stored) k text) stays.1 of)
unfilled_short stay goes_on one has limit book stored room sound roomy_is below few earlier short (inr new) k text is_last of =
    volume_short stay goes_on one has book stored stored.date (subst IsSound new.1 roomy_is) few earlier short k text
    (is_last ∙ ap (λ (b : Book). length b.volumes) new.1)
    (subst (λ (b : Book). IsVolumeText (with_capture b stored) k text) new.1 of)

earlier_by : (cut : Bool) (wire : List ℕ) (book : Book) (payload : List ℕ) (same : Option ℕ) → RefersBy cut book (length (captures book)) payload same
    → (first : ℕ) → kept_of cut wire same ≡ Same first → first < length (captures book)
earlier_by cut wire book payload same refers first e =
    let is = kept_earlier cut wire same first e in
    let found : RefersBy false book (length (captures book)) payload (Some first) =
    subst (λ (s : Option ℕ). RefersBy false book (length (captures book)) payload s) is.0 (finds_by cut book payload same refers first is.0 is.1) in
    found.1

pub storing_keeps_soundness : SealedVolumesStay → LastVolumeGoesOn → NumbersHaveOneGroup → SoundVolumesHaveOneText → StoringKeepsSoundness
storing_keeps_soundness stay goes_on one has limit book taken storing fits sound below few =
    let stored : Stored = as_stored taken storing.same in
    let room : Book = storing.unfilled in
    let is_roomy : IsRoomy book room = roomy stay goes_on one has limit book stored room sound fits.date storing.roomy in
    let count : length (captures room) ≡ length (captures book) = ap length is_roomy.same in
    let gains : captures (with_capture room stored) ≡ captures book ++ stored ∷ [] =
    captures_more room.volumes stored (no_volumes room.volumes is_roomy.some) ∙ ap (λ (l : List Stored). l ++ stored ∷ []) is_roomy.same in
    let earlier : (first : ℕ) → stored.kept ≡ Same first → first < length (captures book) =
    earlier_by taken.cut taken.wire book storing.refers.payload storing.same storing.refers.refers in
    let kept : IsSoundBy (with_capture room stored) (length (captures book)) stored stored.kept =
    kept_sound book (with_capture room stored) (stored ∷ []) gains taken.method taken.uri taken.date taken.request taken.head taken.wire storing.refers.payload
    taken.cut storing.same sound fits.well_formed.response storing.refers.has
    (finds_by taken.cut book storing.refers.payload storing.same storing.refers.refers) in (
      is_roomy.sound,
      captures_keep_soundness stay one has room stored is_roomy.sound (record {
        date = fits.date;
        request = fits.short.request;
        few = omega (arith, few, count);
        some = is_roomy.some;
        good = record {
          target = fits.well_formed.target;
          request = fits.well_formed.request;
          kept = subst (λ (n : ℕ). IsSoundBy (with_capture room stored) n stored stored.kept) (sym count) kept;
        };
        last = unfilled_short stay goes_on one has limit book stored room sound is_roomy.sound below few earlier (taken_short taken storing.same fits.short) storing.roomy;
      }),
    )
