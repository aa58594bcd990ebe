-- What is gathered of a known book goes on with the capture of which a line of its checkpoint tells.
use Rattle.std.proofs.Common.{◌≡◌, ℕ, suc, ◌+◌, ◌-◌, ◌^◌, ◌<◌, ◌≤◌, Bool, true, false, List, [], ◌∷◌, ◌++◌, length, get_or, refl, sym, ap, subst, ◌∙◌, ⊎_elim, arith, append_assoc, append-nil, length-append}
use Rattle.std.specs.Prelude.{All, bytes_eq, codes, not, ◌&&◌, ◌==◌, Option, Some, None, option_to_list, slice_get, slice_index_or}
use Rattle.std.specs.Char.{is_ascii_graphic}
use Rattle.std.specs.List.{list_all}
use Rattle.std.proofs.lemmas.Bool.{cases_lt, cond_both, false≢true}
use Rattle.std.proofs.lemmas.Grind.{flat_map-append}
use Rattle.std.proofs.lemmas.List.{get_or-append_right, get_or_append_left, length-set}
use Rattle.std.proofs.lemmas.List.Elements.{All-get_or}
use Rattle.std.proofs.lemmas.Option.{get_or_from_slice_get, same_Some, slice_get_within}
use Rattle.httparse.specs.Grammar.{status_code}
use Rattle.sha1.specs.Sha1.{sha1}
use Rattle.capture.specs.Captures.{IsPayloadBy, IsPayloadOf, KeepsPayload, captures, first_number, taken_back}
use Rattle.capture.specs.Fields.{NamedValue, named_values, values_of}
use Rattle.capture.specs.Soundness.{IsSoundBy, IsSoundCapture}
use Rattle.capture.specs.WellFormed.{IsHeadBefore}
use Rattle.capture.specs.declared.book.Book.{Book}
use Rattle.capture.specs.declared.book.Volume.{Volume}
use Rattle.capture.specs.declared.captured.Kept.{Kept}
use Rattle.capture.specs.declared.captured.Kept.TheVariants.{Wire, Same, Cut}
use Rattle.capture.specs.declared.captured.Stored.{Stored}
use Rattle.index_entry.specs.Facts.{Facts}
use Rattle.index_entry.specs.OfBook.{AreEntries, IsEntryOf, mime_by}
use Rattle.index_entry.specs.OfLine.{facts_of}
use Rattle.cdxj_line.specs.MediaType.{is_told, media_type, type_text}
use Rattle.cdxj_line.specs.declared.line.Line.{Line}
use Rattle.checkpoint.specs.OfVolume.{IsLineOf}
use Rattle.time_text.specs.Texts.{InRange}
use Rattle.volume_scan.specs.Books.{BeginsWith, IsReadUpTo}
use Rattle.warc_journal.specs.Texts.{with_more}
use Rattle.warc_text.specs.Books.{IsGroupText, IsVolumeText, RefersBy, joined, same_of}
use Rattle.warc_text.specs.Growth.{NumbersHaveOneGroup}
use Rattle.warc_text.specs.Ids.{id_of}
use Rattle.warc_text.specs.declared.id.IdKind.TheVariants.{Response}
use Rattle.warc_text.specs.Records.{answer_text, group_text, info_text}
use Rattle.warc_text.specs.References.{reference_of}
use Rattle.warc_text.specs.Sound.{IsSound}
use Rattle.warc_text.specs.StandsFor.{IdsDifferIn}
use Rattle.warc_text.specs.declared.same_of.SameOf.{SameOf}
use Rattle.archive_shelf.proofs.EntryLaws.{entries_are_all, new_entries}
use Rattle.archive_shelf.proofs.ShortTexts.{short_target}
use Rattle.archive_shelf.proofs.GainingSoundness.{IsTakeable, captures_keep_soundness, keeps_later, no_volumes}
use Rattle.archive_shelf.proofs.GainingTexts.{captures_add_their_group}
use Rattle.archive_shelf.proofs.OneWayLaws.{one_text}
use Rattle.archive_shelf.proofs.StoringLaws.{capture_grows, captures_more}
use Rattle.archive_shelf.specs.Storing.{with_capture}
use Rattle.warc_text.proofs.BookLaws.{get_behind}
use Rattle.archive_gathering.proofs.FrontLaws.{last_with_more}
use Rattle.archive_gathering.proofs.ReadingLaws.{shares_on}
use Rattle.archive_gathering.proofs.RevisitLaws.{IsAlso, also, one_at, payload_at}
use Rattle.archive_gathering.proofs.MeasuringLaws.{one_head}
use Rattle.archive_gathering.proofs.SpottedLaws.{go_on_more}
use Rattle.archive_gathering.proofs.TakeLaws.{entries_push, lengths_with}
use Rattle.archive_gathering.specs.Gathering.{TellsOf}
use Rattle.archive_gathering.specs.Lines.{EntersLine}
use Rattle.archive_volumes.proofs.GroupPlaces.{in_last_volume}
use Rattle.archive_volumes.proofs.SpotLaws.{placed_with, spots_with}
use Rattle.archive_volumes.specs.Lines.{told_spot}
use Rattle.archive_volumes.specs.Spots.{ArePlaced, AreSpotsOf, IsFoundById, IsInVolume, IsPlaced, IsSpotOf, form_of, is_same_form, text_at}
use Rattle.archive_volumes.specs.declared.spot.Spot.{Spot}
use Rattle.archive_gathering.specs.Reading.{IsBegunBy, IsRead, Laws, ShareGroup}

-- what a known book keeps of a capture, as the gathered one has it
pub record Moved (new : Book) (number : ℕ) (stored : Stored) (kept : Kept) (payload : List ℕ) (same : Option SameOf) : Type 0 where
  pub payload_is : IsPayloadBy new stored kept payload
  pub refers : RefersBy new kept same
  pub sound : IsSoundBy new number stored kept

-- one group more of the volume was read
goes_on_by : NumbersHaveOneGroup → (b : Book) (k n : ℕ) (t text : List ℕ) (volume : Volume) (groups : List (List ℕ)) → slice_get b.volumes k ≡ Some volume
    → n + length groups ≡ first_number b k + length volume.captures → ((j : ℕ) → j < length groups → IsGroupText b (n + j) (slice_index_or groups j []))
    → IsVolumeText b k (t ++ joined groups) → IsGroupText b n text → n < first_number b k + length volume.captures → IsReadUpTo b k (t ++ text) (n + 1)
goes_on_by one b k n t text volume [] placed count each whole group within = absurd (omega (arith, count, within))
goes_on_by one b k n t text volume (g ∷ gs) placed count each whole group within =
    let none : n + 0 ≡ n = omega arith in
    let same : g ≡ text = (one b n g text (subst (λ (m : ℕ). IsGroupText b m g) none (each 0 (omega arith))) group).texts in
    record {
      volume = volume;
      groups = gs;
      placed = placed;
      count = omega (arith, count);
      each = λ j less.
          let at : n + suc j ≡ n + 1 + j = omega arith in
          subst (λ (m : ℕ). IsGroupText b m (slice_index_or gs j [])) at (each (suc j) (omega (arith, less)));
      whole = subst (IsVolumeText b k) (ap (λ (x : List ℕ). t ++ (x ++ joined gs)) same ∙ sym (append_assoc t text (joined gs))) whole;
    }

-- a media type isn't that of a revisit
third_of : (x y z : Bool) → (x && y && not z) ≡ true → z ≡ false
third_of x y false e = refl
third_of false y true e = absurd (false≢true e)
third_of true false true e = absurd (false≢true e)
third_of true true true e = absurd (false≢true e)

apart_type : (value : Option (List ℕ)) → bytes_eq (media_type value) (codes "warc/revisit") ≡ false
apart_type None = refl
apart_type (Some value) =
    let text = type_text value in
    cond_both (is_told text) text (codes "unk") (λ (t : List ℕ). bytes_eq t (codes "warc/revisit") ≡ false)
    (λ told. third_of (not (length text == 0)) (list_all is_ascii_graphic text) (bytes_eq text (codes "warc/revisit")) told)
    (λ untold. refl)

-- a line is that of a revisit just where the capture is one
revisit_by : (kept : Kept) (fields : List NamedValue) → bytes_eq (mime_by kept fields) (codes "warc/revisit") ≡ is_same_form (form_of kept)
revisit_by (Wire wire) fields = apart_type (slice_get (values_of (codes "content-type") fields) 0)
revisit_by (Same first) fields = refl
revisit_by (Cut wire) fields = apart_type (slice_get (values_of (codes "content-type") fields) 0)

module _ (laws : Laws) (b : Book) (sound : IsSound b) (ids : IdsDifferIn b) (book : Book) (texts : List (List ℕ)) (is : IsRead (Some b) book texts)
    (some : 0 < length texts) (so_far : IsBegunBy book texts b) (line : Line) (of : IsLineOf b line.number line)
    (number_is : line.number ≡ length (captures book)) (volume_is : line.volume + 1 ≡ length texts) where
  abbrev number : ℕ
  number = length (captures book)

  abbrev group : IsGroupText b line.number of.entry.text
  group = of.entry.group

  abbrev stored : Stored
  stored = group.stored

  abbrev text : List ℕ
  text = of.entry.text

  abbrev new : Book
  new = with_capture book stored

  abbrev now : List (List ℕ)
  now = with_more texts text

  volumes : 0 < length book.volumes
  volumes = omega (arith, some, is.are.count)

  pub gains : captures new ≡ captures book ++ stored ∷ []
  gains = captures_more book.volumes stored (no_volumes book.volumes volumes)

  pub placed : slice_get (captures new) number ≡ Some stored
  placed = ap (λ (l : List Stored). slice_get l number) gains ∙ get_behind (captures book ++ stored ∷ []) (captures book) stored [] number refl refl

  namespaces : book.namespace ≡ b.namespace
  namespaces = so_far.begins.namespace_is some

  pub in_book : slice_get (captures b) number ≡ Some stored
  in_book = ap (slice_get (captures b)) (sym number_is) ∙ group.placed

  group_here : IsGroupText b number text
  group_here = subst (λ (n : ℕ). IsGroupText b n text) number_is group

  below : number < length (captures b)
  below = slice_get_within (captures b) number stored in_book

  moved_by : (kept : Kept) (payload : List ℕ) (same : Option SameOf) → IsSoundBy b number stored kept → RefersBy b kept same → IsPayloadBy b stored kept payload
      → Moved new number stored kept payload same
  moved_by (Wire wire) payload same s refers has = record { payload_is = has; refers = refers; sound = s }
  moved_by (Cut wire) payload same s refers has = record { payload_is = has; refers = refers; sound = s }
  moved_by (Same first) payload same s refers has =
      let original : Stored = has.0 in
      let wire = has.1 in
      let mine : IsAlso book b first original wire payload =
      also book b first original wire payload is.sound sound namespaces (so_far.shares first s.earlier) has.2 in
      let keeps : KeepsPayload new first mine.mine wire payload = keeps_later book new (stored ∷ []) gains first mine.mine wire payload mine.keeps in
      let one_original : refers.0 ≡ original = one_at (slice_get (captures b) first) refers.0 original refers.1 has.2.placed in
      let payloads : s.payload ≡ payload =
      laws.one_payload b first s.payload payload (payload_at b first s.original s.wire s.payload s.keeps) (payload_at b first original wire payload has.2) in
      record {
        payload_is = (mine.mine, wire, keeps);
        refers = (mine.mine, keeps.placed, refers.2 ∙ ap (λ (o : Stored). Some (same_of first o)) one_original ∙ ap (λ (o : SameOf). Some o) (sym mine.same));
        sound = record {
          earlier = s.earlier;
          original = mine.mine;
          wire = wire;
          payload = payload;
          keeps = keeps;
          head = subst (IsHeadBefore stored.method stored.head) payloads s.head;
        };
      }

  good_in_book : IsSoundCapture b number stored
  good_in_book = sound.sound.each number stored in_book

  pub moved : Moved new number stored stored.kept group.payload group.same
  moved = moved_by stored.kept group.payload group.same good_in_book.kept group.refers group.payload_is

  pub text_is : IsGroupText new number text
  text_is = record {
    stored = stored;
    payload = group.payload;
    same = group.same;
    placed = placed;
    payload_is = moved.payload_is;
    refers = moved.refers;
    composed = group.composed
        ∙ (λ i. group_text (sym namespaces i) (number_is i) (taken_back stored) (sha1 group.payload) (reference_of (sym namespaces i) group.same));
  }

  -- ---- where it stands

  abbrev last : List ℕ
  last = get_or texts line.volume []

  read_up : IsReadUpTo b line.volume last number
  read_up = so_far.begins.last line.volume volume_is

  same_volume : of.entry.behind.volume ≡ read_up.volume
  same_volume = one_at' of.entry.behind.volume read_up.volume of.entry.behind.placed read_up.placed
    where
      one_at' : (v w : Volume) → slice_get b.volumes line.volume ≡ Some v → slice_get b.volumes line.volume ≡ Some w → v ≡ w
      one_at' v w e f = same_Some v w (sym e ∙ f)

  in_volume : number < first_number b line.volume + length read_up.volume.captures
  in_volume = omega (arith, of.entry.numbered, number_is, of.entry.behind.within, ap (λ (v : Volume). length v.captures) same_volume)

  pub read_on : IsReadUpTo b line.volume (last ++ text) (number + 1)
  read_on = goes_on_by laws.one_group b line.volume number last text read_up.volume read_up.groups read_up.placed read_up.count read_up.each read_up.whole group_here in_volume

  -- the text so far is what the line says to stand before the record
  before_and : IsVolumeText b line.volume (of.entry.before ++ joined read_up.groups)
  before_and =
      let behind = of.entry.behind in
      let place = of.entry.place in
      let numbers : number ≡ first_number b line.volume + place = sym number_is ∙ of.entry.numbered in
      record {
        volume = behind.volume;
        groups = behind.groups ++ read_up.groups;
        placed = behind.placed;
        count = omega (arith, length-append behind.groups read_up.groups, behind.count, read_up.count, numbers, ap (λ (v : Volume). length v.captures) same_volume);
        each = λ j less. ⊎_elim
            (λ (front : j < length behind.groups).
            subst (IsGroupText b (first_number b line.volume + j)) (sym (get_or_append_left behind.groups read_up.groups [] j front))
            (behind.each j (omega (arith, front, behind.count))))
            (λ (later : length behind.groups ≤ j).
            let i = j - length behind.groups in
            let there : number + i ≡ first_number b line.volume + j = omega (arith, numbers, later, behind.count) in
            let fits : i < length read_up.groups = omega (arith, less, later, length-append behind.groups read_up.groups) in
            subst (IsGroupText b (first_number b line.volume + j)) (sym (get_or-append_right behind.groups read_up.groups (length behind.groups) j [] refl later))
            (subst (λ (n : ℕ). IsGroupText b n (slice_index_or read_up.groups i [])) there (read_up.each i fits)))
            (cases_lt j (length behind.groups));
        composed =
            ap (λ (t : List ℕ). t ++ joined read_up.groups) behind.composed
            ∙ append_assoc (info_text b.namespace line.volume behind.volume.born) (joined behind.groups) (joined read_up.groups)
            ∙ ap (λ (t : List ℕ). info_text b.namespace line.volume behind.volume.born ++ t)
            (sym (flat_map-append (λ (t : List ℕ). t) behind.groups read_up.groups));
      }

  pub offset_here : line.offset ≡ length last
  offset_here =
      let one = one_text laws.one_group b line.volume (last ++ joined read_up.groups) (of.entry.before ++ joined read_up.groups) read_up.whole before_and in
      omega (
        arith,
        of.entry.offset_is,
        ap length one,
        length-append last (joined read_up.groups),
        length-append of.entry.before (joined read_up.groups),
      )

  -- ---- the book takes it

  short_text : length last + length text < 2 ^ 62
  short_text =
      let whole = sound.short_texts line.volume ((last ++ text) ++ joined read_on.groups) read_on.whole in
      omega (arith, whole, length-append (last ++ text) (joined read_on.groups), length-append last text)

  pub date_good : InRange stored.date
  date_good = All-of (λ (s : Stored). InRange s.date) sound.dates
    where
      All-of : (P : Stored → Type 0) → All P (captures b) → P stored
      All-of P all = subst P (get_or_from_slice_get (captures b) number stored stored in_book) (All-get_or P (captures b) number stored below all)

  pub takeable : IsTakeable book stored
  takeable = record {
    date = date_good;
    request = subst (λ (s : Stored). length s.request < 2 ^ 34) (get_or_from_slice_get (captures b) number stored stored in_book)
        (All-get_or (λ (s : Stored). length s.request < 2 ^ 34) (captures b) number stored below sound.sound.short_requests);
    few = omega (arith, below, sound.sound.few);
    some = volumes;
    good = record { target = good_in_book.target; request = good_in_book.request; kept = moved.sound };
    last = λ k other at volume_text.
        let all = captures_add_their_group laws.sealed_stay laws.last_goes_on book stored texts text volumes is.are text_is in
        let here : k + 1 ≡ length texts = omega (arith, at, is.are.count) in
        let one : get_or now k [] ≡ other =
        one_text laws.one_group new k (get_or now k []) other
        (all.each k (omega (arith, here, length-set texts (length texts - 1) (get_or texts (length texts - 1) [] ++ text)))) volume_text in
        let k_is : k ≡ line.volume = omega (arith, here, volume_is) in
        omega (
          arith,
          short_text,
          ap length one,
          ap length (last_with_more texts text k here),
          length-append (get_or texts k []) text,
          ap (λ (j : ℕ). length (get_or texts j [])) k_is,
        );
  }

  count_new : length (captures new) ≡ number + 1
  count_new = ap length gains ∙ length-append (captures book) (stored ∷ [])

  begins : BeginsWith b now book.namespace (number + 1)
  begins = record {
    none = λ none. absurd (omega (arith, none, some, length-set texts (length texts - 1) (get_or texts (length texts - 1) [] ++ text)));
    enough = omega (arith, so_far.begins.enough, length-set texts (length texts - 1) (get_or texts (length texts - 1) [] ++ text));
    namespace_is = λ _. namespaces;
    last = λ k at.
        let here : k + 1 ≡ length texts = omega (arith, at, length-set texts (length texts - 1) (get_or texts (length texts - 1) [] ++ text)) in
        let k_is : line.volume ≡ k = omega (arith, here, volume_is) in
        subst (λ (t : List ℕ). IsReadUpTo b k t (number + 1)) (sym (last_with_more texts text k here))
        (subst (λ (j : ℕ). IsReadUpTo b j (get_or texts j [] ++ text) (number + 1)) k_is read_on);
  }

  pub begun_told : IsBegunBy new now b
  begun_told = record {
    begins = subst (λ (n : ℕ). BeginsWith b now book.namespace n) (sym count_new) begins;
    shares = λ n less. ⊎_elim
        (λ (before : n < number).
        shares_on laws book texts (Some b) is new b n (λ t old. laws.groups_stay book new n t (capture_grows book stored) old) (so_far.shares n before))
        (λ (behind : number ≤ n).
        let at : number ≡ n = omega (arith, less, behind, count_new) in
        subst (ShareGroup new b) at (record { text = text; short = omega (arith, short_text); mine = text_is; others = group_here }))
        (cases_lt n number);
  }

  -- what was read goes on with it
  pub read_told : IsRead (Some b) new now
  read_told = record {
    sound = captures_keep_soundness laws.sealed_stay laws.one_group laws.one_text book stored is.sound takeable;
    are = captures_add_their_group laws.sealed_stay laws.last_goes_on book stored texts text volumes is.are text_is;
    goes_on = λ files x may fronts sound_x stands. subst (IsBegunBy new now) (sym may) begun_told;
  }

  -- ---- what is kept of it

  abbrev spot : Spot
  spot = told_spot line

  stored_same : of.stored ≡ stored
  stored_same = same_Some of.stored stored (sym of.placed ∙ group.placed)

  has : IsPayloadOf new number group.payload
  has = record { stored = stored; placed = placed; by_kept = moved.payload_is }

  in_the_last : line.volume ≡ length book.volumes - 1
  in_the_last = omega (arith, volume_is, is.are.count)

  pub spot_is : IsSpotOf new number spot
  spot_is = record {
    stored = stored;
    placed = placed;
    method = of.method_is ∙ ap (λ (s : Stored). s.method) stored_same;
    uri = of.entry.uri_is;
    date = of.entry.date_is;
    form = λ read. absurd (false≢true (sym read));
    revisit = ap (λ (m : List ℕ). bytes_eq m (codes "warc/revisit")) of.entry.mime_is ∙ revisit_by stored.kept (named_values of.entry.head.fields);
    digest = λ read. absurd (false≢true (sym read));
    line = λ told request. (group.payload, has, of.entry.digest_is);
    refers = tt;
    inside = subst (IsInVolume new number) (sym in_the_last) (in_last_volume book stored volumes);
    in_range = subst InRange (sym of.entry.date_is) date_good;
    short = subst (λ (u : List ℕ). length u < 2 ^ 61) (sym of.entry.uri_is) (short_target laws.one_text new number stored read_told.sound placed);
    ends = omega arith;
  }

  found_by : (kept : Kept) → IsSoundBy b number stored kept → IsFoundById book.namespace kept
  found_by (Wire wire) s = tt
  found_by (Cut wire) s = tt
  found_by (Same first) s = λ other less same.
      let one = ids other first (omega (arith, less, s.earlier, below)) (omega (arith, s.earlier, below))
      (subst (λ (n : List ℕ). id_of n Response other ≡ id_of n Response first) namespaces same) in
      omega (arith, less, one)

  spot_placed : IsPlaced now new number spot
  unfolding has
  spot_placed = record {
    payload = group.payload;
    has = has;
    digest = of.entry.digest_is;
    there = omega (arith, volume_is, length-set texts (length texts - 1) (get_or texts (length texts - 1) [] ++ text));
    group = record {
      front = last;
      group = text;
      rest = [];
      is = text_is;
      composed = last_with_more texts text line.volume volume_is ∙ ap (λ (t : List ℕ). last ++ t) (sym (append-nil text));
      behind = offset_here;
    };
    within = omega arith;
    head = λ read. absurd (false≢true (sym read));
    wire = λ read. absurd (false≢true (sym read));
    found = λ told. found_by stored.kept good_in_book.kept;
  }

  pub spots_told : (spots : List Spot) → AreSpotsOf book spots → AreSpotsOf new (spots ++ spot ∷ [])
  spots_told spots are = spots_with book new stored gains (capture_grows book stored) spots spot are spot_is

  begins_behind : length (text_at texts line.volume) ≤ line.offset
  begins_behind = omega (arith, offset_here)

  pub places_told : (spots : List Spot) → AreSpotsOf book spots → ArePlaced texts book spots → ArePlaced now new (spots ++ spot ∷ [])
  places_told spots are there =
      placed_with texts now (go_on_more texts text some) book new (stored ∷ []) gains (capture_grows book stored) spots spot there
      (subst (λ (n : ℕ). IsPlaced now new n spot) (sym are.count) spot_placed) begins_behind

  -- ---- its entry

  ends_here : IsVolumeText book line.volume last
  ends_here = is.are.each line.volume (omega (arith, volume_is))

  entry_is : IsEntryOf new number (facts_of line)
  unfolding text_is
  entry_is = new_entries laws.keeps book stored (facts_of line) (record {
    head = of.entry.head;
    parsed = of.entry.parsed;
    keyed = of.entry.keyed;
    date_is = of.entry.date_is;
    number_is = number_is;
    uri_is = of.entry.uri_is;
    mime_is = of.entry.mime_is;
    status_is = of.entry.status_is;
    volume_is = omega (arith, volume_is, is.are.count);
    text = last;
    ends = ends_here;
    offset_is = offset_here;
    group_text = text;
    group = text_is;
    digest_is = of.entry.digest_is;
    length_is = of.entry.length_is
        ∙ (λ i. length (answer_text (id_of (sym namespaces i) Response (number_is i)) (taken_back stored) (sha1 group.payload) (reference_of (sym namespaces i) group.same)));
  })

  method_is : line.method ≡ stored.method
  method_is = of.method_is ∙ ap (λ (s : Stored). s.method) stored_same

  pub entries_told : (entries : List Facts) → AreEntries book entries → (entry : Option Facts) → EntersLine line entry
      → AreEntries new (entries ++ option_to_list entry)
  entries_told entries are (Some entry) enters =
      subst (λ (e : Facts). AreEntries new (entries ++ e ∷ [])) (sym enters.2)
      (entries_push laws.keeps book new stored entries (facts_of line) (capture_grows book stored) gains are
      (record { head = of.entry.head; parsed = of.entry.parsed; asked = sym method_is ∙ enters.0; told = λ is_so. enters.1 (of.entry.status_is ∙ is_so) })
      number_is entry_is)
  entries_told entries are None enters =
      subst (AreEntries new) (sym (append-nil entries)) (record {
        in_order = are.in_order;
        of_book = entries_are_all laws.keeps book new stored entries (capture_grows book stored) gains are.of_book
            (λ found.
            let head : of.entry.head ≡ found.head = one_head stored.head of.entry.head found.head of.entry.parsed found.parsed in
            enters (method_is ∙ found.asked) (λ is_so. found.told (sym (ap status_code head) ∙ sym of.entry.status_is ∙ is_so)));
      })

  -- all that is gathered goes on
  pub tells_told : (spots : List Spot) (lengths : List ℕ) (entries : List Facts) → length lengths ≡ length (captures book)
      → TellsOf (Some b) book texts spots lengths entries → (entry : Option Facts) → EntersLine line entry
      → TellsOf (Some b) new now (spots ++ spot ∷ []) (lengths ++ 0 ∷ []) (entries ++ option_to_list entry)
  tells_told spots lengths entries count tells entry enters = record {
    read = read_told;
    spots_are = spots_told spots tells.spots_are;
    placed = places_told spots tells.spots_are tells.placed;
    all_read = tt;
    lengths_are = lengths_with book new stored spots spot lengths 0 gains count tells.spots_are.count tells.lengths_are
        (λ read wire kept. absurd (false≢true (sym read))) (omega arith);
    entries_are = entries_told entries tells.entries_are entry enters;
  }
