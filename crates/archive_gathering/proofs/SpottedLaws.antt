-- What is kept of a capture that was taken, and where it stands.
use Rattle.std.proofs.Common.{◌≡◌, ◌≢◌, ℕ, ◌+◌, ◌-◌, ◌<◌, ◌≤◌, List, [], ◌∷◌, ◌++◌, length, get_or, refl, sym, ap, subst, ◌∙◌, arith, append-nil, append_assoc, length-append}
use Rattle.std.specs.Prelude.{nat_eq, if◌then◌else◌, IsTrue, Option, Some, None, option_to_list, slice_get}
use Rattle.std.proofs.lemmas.Bool.{cond_both, eqb-false, eqb-true, false≢true}
use Rattle.std.proofs.lemmas.List.{get_or-set_other, length-set}
use Rattle.httparse.specs.Grammar.{ResponseHead, status_code}
use Rattle.sha1.specs.Sha1.{sha1}
use Rattle.capture.specs.Captures.{IsPayloadOf, captures, kept_wire, taken_back}
use Rattle.capture.specs.Message.{IsResponseHeadText}
use Rattle.capture.specs.Target.{is_accepted_uri}
use Rattle.capture.specs.declared.book.Book.{Book}
use Rattle.capture.specs.declared.captured.Kept.{Kept}
use Rattle.capture.specs.declared.captured.Kept.TheVariants.{Wire, Same, Cut}
use Rattle.capture.specs.declared.captured.Stored.{Stored}
use Rattle.index_entry.specs.Facts.{Facts}
use Rattle.index_entry.specs.OfBook.{AreEntries, IsEntryOf, IsFoundByDate}
use Rattle.time_text.specs.Texts.{InRange}
use Rattle.warc_journal.specs.Texts.{with_more}
use Rattle.warc_journal.specs.declared.place.Place.{Place}
use Rattle.warc_scan.specs.Groups.{reference_in}
use Rattle.warc_scan.specs.declared.group.Group.{Group}
use Rattle.warc_text.specs.Books.{AreVolumeTexts, IsGroupText, IsVolumeText, RefersBy}
use Rattle.warc_text.specs.Groups.{answer_block}
use Rattle.warc_text.specs.Ids.{id_of}
use Rattle.warc_text.specs.Lengths.{request_length}
use Rattle.warc_text.specs.Records.{answer_text, group_text}
use Rattle.warc_text.specs.References.{reference_of}
use Rattle.warc_text.specs.Sound.{IsSound}
use Rattle.warc_text.specs.declared.id.IdKind.TheVariants as ids
use Rattle.warc_text.specs.declared.same_of.SameOf.{SameOf}
use Rattle.archive_shelf.proofs.EntryLaws.{entries_are_all, new_entries}
use Rattle.archive_shelf.proofs.GainingSoundness.{captures_keep_soundness, keeps_later}
use Rattle.archive_shelf.proofs.ShortTexts.{short_target}
use Rattle.archive_shelf.proofs.StoringLaws.{capture_grows}
use Rattle.archive_shelf.specs.Storing.{with_capture}
use Rattle.archive_gathering.proofs.CaptureLaws.{AgreesBy, agrees, composed_is, gains, placed, read_on, takeable, taken}
use Rattle.archive_gathering.proofs.FrontLaws.{last_with_more}
use Rattle.archive_gathering.proofs.MeasuringLaws.{one_head}
use Rattle.archive_gathering.proofs.PlaceLaws.{answer_and_request}
use Rattle.archive_volumes.proofs.SpotLaws.{GoOn, form_read, own_digest, placed_at, placed_with, spots_with}
use Rattle.archive_volumes.proofs.GroupPlaces.{in_last_volume}
use Rattle.archive_volumes.proofs.Places.{StandsIn, block_in_group}
use Rattle.archive_gathering.proofs.TakeLaws.{entries_push}
use Rattle.archive_volumes.specs.Entries.{EntersAs, HasNoEntry, IsEntryAt}
use Rattle.surt_key.specs.Targets.{TargetsHaveKeys}
use Rattle.archive_gathering.specs.Noting.{IsGroupAt, IsWithin, record_at}
use Rattle.archive_gathering.specs.Reading.{IsRead, Laws}
use Rattle.archive_gathering.specs.Revisits.{IsCaptureOf, IsKeptAs}
use Rattle.archive_volumes.specs.Spots.{ArePlaced, AreSpotsOf, HasGroupAt, IsInVolume, IsPlaced, IsSpotOf, RefersBack, form_of, spot_of, text_at}
use Rattle.archive_volumes.specs.declared.spot.Spot.{Spot}

-- what is behind the last text of those that go on
abbrev rest_at : ℕ → List ℕ → ℕ → List ℕ
rest_at last text k = if nat_eq k last then text else []

pub go_on_more : (texts : List (List ℕ)) (text : List ℕ) → 0 < length texts → GoOn texts (with_more texts text)
go_on_more texts text some =
    let l = length texts - 1 in
    let more = get_or texts l [] ++ text in
    record {
      count = omega (arith, length-set texts l more);
      rest = rest_at l text;
      each = λ k less. cond_both (nat_eq k l) text [] (λ (r : List ℕ). get_or (with_more texts text) k [] ≡ get_or texts k [] ++ r)
          (λ is. last_with_more texts text k (omega (arith, eqb-true k l is, some)))
          (λ is. get_or-set_other texts l k more [] (eqb-false k l is) ∙ sym (append-nil (get_or texts k [])));
    }

-- the block of the response is the head and the wire that is kept
block_is : (new : Book) (stored : Stored) (kept : Kept) (same : Option SameOf) (namespace : List ℕ) → RefersBy new kept same
    → answer_block (taken_back (record stored { kept = kept })) (reference_of namespace same) ≡ stored.head ++ kept_wire kept
block_is new stored (Wire wire) same namespace refers =
    ap (λ (o : Option SameOf). answer_block (taken_back (record stored { kept = Wire wire })) (reference_of namespace o)) refers
block_is new stored (Cut wire) same namespace refers =
    ap (λ (o : Option SameOf). answer_block (taken_back (record stored { kept = Cut wire })) (reference_of namespace o)) refers
block_is new stored (Same first) same namespace refers =
    ap (λ (o : Option SameOf). answer_block (taken_back (record stored { kept = Same first })) (reference_of namespace o)) refers.2
    ∙ sym (append-nil stored.head)

refers_back : (book new : Book) (added : List Stored) (is : captures new ≡ captures book ++ added) (number : ℕ) (group : Group) (found kept : Kept)
    → IsKeptAs book number group found kept → RefersBack new number (form_of kept)
refers_back book new added is number group (Wire wire) kept kept_as = subst (λ (k : Kept). RefersBack new number (form_of k)) (sym kept_as) tt
refers_back book new added is number group (Cut wire) kept kept_as = subst (λ (k : Kept). RefersBack new number (form_of k)) (sym kept_as) tt
refers_back book new added is number group (Same unknown) kept kept_as =
    let of = kept_as.2 in
    let keeps = keeps_later book new added is kept_as.0 of.original of.wire of.payload of.keeps in
    subst (λ (k : Kept). RefersBack new number (form_of k)) (sym kept_as.1) (
      of.earlier,
      record { stored = of.original; wire = of.wire; placed = keeps.placed; kept = keeps.kept },
    )

module _ (laws : Laws) (book : Book) (texts : List (List ℕ)) (sound : IsSound book) (texts_are : AreVolumeTexts book texts) (text : List ℕ) (place : Place) (group : Group)
    (at : IsGroupAt book texts text place group) (stored : Stored) (of_group : IsCaptureOf book (length (captures book)) group stored)
    (within : IsWithin (length (captures book)) place group) where
  abbrev new : Book
  new = with_capture book stored

  abbrev number : ℕ
  number = length (captures book)

  abbrev now : List (List ℕ)
  now = with_more texts text

  abbrev last : List ℕ
  last = get_or texts (length texts - 1) []

  pub sound_taken : IsSound new
  sound_taken =
      captures_keep_soundness laws.sealed_stay laws.one_group laws.one_text book stored sound
      (takeable laws book texts texts_are text group at.some at.is stored of_group within.request within.few (omega (arith, within.ends, at.at, at.len)))

  pub read_taken : (known : Option Book) → IsRead known book texts → IsRead known new now
  read_taken known is =
      read_on laws book texts texts_are text group at.some at.is stored of_group known is within.request within.few (omega (arith, within.ends, at.at, at.len))

  stands : slice_get (captures new) number ≡ Some stored
  stands = placed laws book texts texts_are text group at.some at.is stored of_group

  abbrev says : AgreesBy new number group stored stored.kept
  says = agrees laws book texts texts_are text group at.some at.is stored of_group

  abbrev spot : Spot
  spot = spot_of stored group.digest place.volume place.at (place.at + group.head_at)

  block : answer_block (taken_back stored) (reference_of book.namespace says.same) ≡ stored.head ++ kept_wire stored.kept
  block = block_is new stored stored.kept says.same book.namespace says.refers

  in_group : StandsIn (group_text book.namespace number (taken_back stored) (sha1 says.payload) (reference_of book.namespace says.same))
      (answer_block (taken_back stored) (reference_of book.namespace says.same)) (4 + request_length (taken_back stored))
  in_group = block_in_group book.namespace number (taken_back stored) (sha1 says.payload) (reference_of book.namespace says.same)

  composed : text ≡ in_group.front ++ (answer_block (taken_back stored) (reference_of book.namespace says.same) ++ in_group.rest)
  composed = composed_is laws book texts texts_are text group at.some at.is stored of_group ∙ in_group.composed

  same_taken : taken_back group.stored ≡ taken_back stored
  same_taken = taken laws book texts texts_are text group at.some at.is stored of_group

  same_block : answer_block (taken_back group.stored) (reference_in group.same) ≡ answer_block (taken_back stored) (reference_of book.namespace says.same)
  same_block = λ i. answer_block (same_taken i) (says.reference i)

  long : length text ≡ length (answer_text (id_of book.namespace ids.Response number) (taken_back group.stored) group.digest (reference_in group.same))
      + request_length (taken_back group.stored)
  long = ap length at.is.composed ∙ answer_and_request book.namespace number (taken_back group.stored) group.digest (reference_in group.same)

  all_long : length text ≡ length in_group.front + (length (answer_block (taken_back stored) (reference_of book.namespace says.same)) + length in_group.rest)
  all_long = omega (
    arith,
    ap length composed,
    length-append in_group.front (answer_block (taken_back stored) (reference_of book.namespace says.same) ++ in_group.rest),
    length-append (answer_block (taken_back stored) (reference_of book.namespace says.same)) in_group.rest,
  )

  head_at : group.head_at ≡ length in_group.front
  head_at = omega (arith, at.is.places.head, long, all_long, in_group.long, ap length same_block, ap request_length same_taken)

  wires : length (answer_block (taken_back stored) (reference_of book.namespace says.same)) ≡ length stored.head + length (kept_wire stored.kept)
  wires = ap length block ∙ length-append stored.head (kept_wire stored.kept)

  in_the_last : place.volume ≡ length book.volumes - 1
  in_the_last = omega (arith, at.volume, texts_are.count)

  pub spot_is : IsSpotOf new number spot
  spot_is = record {
    stored = stored;
    placed = stands;
    method = refl;
    uri = refl;
    date = refl;
    form = λ read. refl;
    revisit = refl;
    digest = λ read. own_digest new stored stored.kept says.payload group.digest says.payload_is says.digest;
    line = λ told some. absurd (false≢true (sym (form_read stored.kept) ∙ told));
    inside = subst (IsInVolume new number) (sym in_the_last) (in_last_volume book stored (omega (arith, at.some, texts_are.count)));
    refers = refers_back book new (stored ∷ []) (gains laws book texts texts_are text group at.some at.is stored of_group) number group group.stored.kept stored.kept of_group.kept;
    in_range = subst InRange (sym (ap (λ (s : Stored). s.date) of_group.others)) at.is.date;
    short = short_target laws.one_text new number stored sound_taken stands;
    ends = omega (arith, within.ends, at.len, head_at, all_long, wires);
  }

  has : IsPayloadOf new number says.payload
  has = record { stored = stored; placed = stands; by_kept = says.payload_is }

  volume : place.volume + 1 ≡ length texts
  volume = at.volume

  in_text : text_at now place.volume ≡ (last ++ in_group.front) ++ ((stored.head ++ kept_wire stored.kept) ++ in_group.rest)
  in_text =
      let here : place.volume ≡ length texts - 1 = omega (arith, at.volume) in
      last_with_more texts text place.volume at.volume
      ∙ ap (λ (k : ℕ). get_or texts k [] ++ text) here
      ∙ ap (λ (t : List ℕ). last ++ t) composed
      ∙ ap (λ (b : List ℕ). last ++ (in_group.front ++ (b ++ in_group.rest))) block
      ∙ sym (append_assoc last in_group.front ((stored.head ++ kept_wire stored.kept) ++ in_group.rest))

  front_long : length (last ++ in_group.front) ≡ place.at + group.head_at
  front_long = omega (arith, length-append last in_group.front, at.at, head_at)

  group_text_is : IsGroupText new number text
  group_text_is = record {
    stored = stored;
    payload = says.payload;
    same = says.same;
    placed = stands;
    payload_is = says.payload_is;
    refers = says.refers;
    composed = composed_is laws book texts texts_are text group at.some at.is stored of_group;
  }

  group_at : HasGroupAt new number (text_at now place.volume) place.at
  group_at = record {
    front = last;
    group = text;
    rest = [];
    is = group_text_is;
    composed = last_with_more texts text place.volume at.volume ∙ ap (λ (k : ℕ). get_or texts k [] ++ text) here_last
        ∙ ap (λ (t : List ℕ). last ++ t) (sym (append-nil text));
    behind = at.at;
  }
    where
      here_last : place.volume ≡ length texts - 1
      here_last = omega (arith, at.volume)

  pub spot_placed : IsPlaced now new number spot
  unfolding has
  spot_placed =
      subst (λ (d : List ℕ). IsPlaced now new number (spot_of stored d place.volume place.at (place.at + group.head_at))) (sym says.digest)
      (subst (λ (n : ℕ). IsPlaced now new number (spot_of stored (sha1 says.payload) place.volume place.at n)) front_long
      (placed_at now new number says.payload has place.volume place.at (last ++ in_group.front) in_group.rest
      (omega (arith, at.volume, length-set texts (length texts - 1) (last ++ text))) group_at in_text))

  pub spots_taken : (spots : List Spot) → AreSpotsOf book spots → AreSpotsOf new (spots ++ spot ∷ [])
  spots_taken spots are =
      spots_with book new stored (gains laws book texts texts_are text group at.some at.is stored of_group) (capture_grows book stored) spots spot are spot_is

  begins : length (text_at texts place.volume) ≤ place.at
  begins = omega (arith, at.at, ap (λ (k : ℕ). length (get_or texts k [])) last_text)
    where
      last_text : place.volume ≡ length texts - 1
      last_text = omega (arith, at.volume)

  pub places_taken : (spots : List Spot) → AreSpotsOf book spots → ArePlaced texts book spots → ArePlaced now new (spots ++ spot ∷ [])
  places_taken spots are there =
      placed_with texts now (go_on_more texts text at.some) book new (stored ∷ []) (gains laws book texts texts_are text group at.some at.is stored of_group)
      (capture_grows book stored) spots spot there (subst (λ (n : ℕ). IsPlaced now new n spot) (sym are.count) spot_placed) begins

  -- ---- its entry

  same_date : stored.date ≡ group.stored.date
  same_date = ap (λ (s : Stored). s.date) of_group.others

  module _ (head : ResponseHead) (parsed : IsResponseHeadText group.stored.head head) where
    here : IsResponseHeadText stored.head head
    here = subst (λ (h : List ℕ). IsResponseHeadText h head) (sym (ap (λ (s : Stored). s.head) of_group.others)) parsed

    entry_is : (entry : Facts) → IsEntryAt stored head (record_at place group) entry → IsEntryOf new number entry
    unfolding group_text_is
    entry_is entry of = new_entries laws.keeps book stored entry (record {
      head = head;
      parsed = here;
      keyed = of.keyed;
      date_is = of.date;
      number_is = of.number ∙ at.is.number_is;
      uri_is = of.uri;
      mime_is = of.mime;
      status_is = of.status;
      volume_is = omega (arith, of.volume, at.volume, texts_are.count);
      text = get_or texts place.volume [];
      ends = subst (λ (k : ℕ). IsVolumeText book k (get_or texts place.volume [])) (sym of.volume) (texts_are.each place.volume (omega (arith, at.volume)));
      offset_is = of.offset ∙ at.at ∙ ap (λ (k : ℕ). length (get_or texts k [])) (sym last_volume);
      group_text = text;
      group = group_text_is;
      digest_is = of.digest ∙ says.digest;
      length_is = of.len ∙ at.is.places.first_len
          ∙ (λ i. length (answer_text (id_of book.namespace ids.Response number) (same_taken i) (says.digest i) (says.reference i)));
    })
      where
        last_volume : place.volume ≡ length texts - 1
        last_volume = omega (arith, at.volume)

    by_date : (entry : Facts) → IsEntryAt stored head (record_at place group) entry → IsFoundByDate stored
    by_date entry of = record { head = head; parsed = here; asked = of.asked; told = of.told }

    not_by_date : TargetsHaveKeys → HasNoEntry stored head → IsFoundByDate stored → ⊥
    not_by_date keys none found =
        let same : found.head ≡ head = one_head stored.head found.head head found.parsed here in
        let target : IsTrue (is_accepted_uri stored.uri) = subst (λ (u : List ℕ). IsTrue (is_accepted_uri u)) (sym (ap (λ (s : Stored). s.uri) of_group.others)) at.is.target in
        keys stored.uri target (none.none found.asked (subst (λ (h : ResponseHead). status_code h ≢ 304) same found.told))

    pub entries_taken : TargetsHaveKeys → (entries : List Facts) → AreEntries book entries → (entry : Option Facts)
        → EntersAs stored head (record_at place group) entry → AreEntries new (entries ++ option_to_list entry)
    entries_taken keys entries are (Some entry) of =
        entries_push laws.keeps book new stored entries entry (capture_grows book stored) (gains laws book texts texts_are text group at.some at.is stored of_group)
        are (by_date entry of) (of.number ∙ at.is.number_is) (entry_is entry of)
    entries_taken keys entries are None none =
        subst (AreEntries new) (sym (append-nil entries)) (record {
          in_order = are.in_order;
          of_book = entries_are_all laws.keeps book new stored entries (capture_grows book stored) (gains laws book texts texts_are text group at.some at.is stored of_group)
              are.of_book (not_by_date keys none);
        })
