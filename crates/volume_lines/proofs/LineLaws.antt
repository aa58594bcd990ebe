-- The line of a group of a book is that of its capture, and the next group begins where it ends.
use Rattle.std.proofs.Common.{◌≡◌, ℕ, suc, ◌+◌, ◌<◌, ◌≤◌, Bool, List, [], ◌∷◌, ◌++◌, length, get_or, take, Option, Some, None, refl, sym, ap, subst, ◌∙◌, arith, append-nil, length-append}
use Rattle.std.specs.Prelude.{IfSome, is_some}
use Rattle.std.proofs.lemmas.Option.{same_Some}
use Rattle.std.proofs.lemmas.List.{get_or-take, length-take-le}
use Rattle.std.proofs.lemmas.List.Folds.{length-flat_map-take}
use Rattle.std.proofs.Math.Seq.{take-suc}
use Rattle.std.proofs.lemmas.Grind.{flat_map-append}
use Rattle.std.proofs.lemmas.List.Concat.{flat_map-cons}
use Rattle.httparse.specs.Grammar.{ResponseHead}
use Rattle.sha1.specs.Sha1.{sha1}
use Rattle.capture.specs.Captures.{first_number, taken_back}
use Rattle.capture.specs.Fields.{NamedValue, named_values}
use Rattle.capture.specs.Message.{IsResponseHeadText}
use Rattle.capture.specs.declared.book.Book.{Book}
use Rattle.capture.specs.declared.captured.Kept.{Kept}
use Rattle.capture.specs.declared.captured.Kept.TheVariants.{Wire, Same, Cut}
use Rattle.capture.specs.declared.captured.Stored.{Stored}
use Rattle.capture.specs.declared.captured.Taken.{Taken}
use Rattle.capture.proofs.PayloadLaws.{captures_have_one}
use Rattle.surt_key.specs.Key.{key_of}
use Rattle.surt_key.specs.Targets.{TargetsHaveKeys}
use Rattle.cdxj_line.specs.declared.line.Line.{Line}
use Rattle.index_entry.specs.OfBook.{IsBefore, IsEntryOf, mime_by}
use Rattle.index_entry.specs.Facts.{Facts}
use Rattle.index_entry.specs.OfLine.{facts_of, line_at}
use Rattle.warc_scan.specs.Groups.{IsGroup, reference_in}
use Rattle.warc_scan.specs.Outlines.{IsOutlineOf}
use Rattle.warc_scan.specs.declared.group.Group.{Group}
use Rattle.warc_scan.specs.declared.group.Revisited.{Revisited}
use Rattle.warc_scan.specs.declared.outline.Outline.{Outline}
use Rattle.warc_text.proofs.OneTextLaws.{one_group}
use Rattle.warc_text.specs.Books.{IsGroupText, IsVolumeText, joined}
use Rattle.warc_text.specs.Growth.{NumbersHaveOneGroup}
use Rattle.warc_text.specs.Ids.{id_of}
use Rattle.warc_text.specs.Records.{answer_text, info_text}
use Rattle.warc_text.specs.References.{Reference, reference_of}
use Rattle.warc_text.specs.Sound.{IsSound}
use Rattle.warc_text.specs.declared.id.IdKind.TheVariants as ids
use Rattle.warc_scan.proofs.FoundGroups.{kept_found}
use Rattle.archive_reading.proofs.SameGroup.{Goes, digest_is, goes, goes_by_answer, goes_in_book, refers, some_isnt, taken}
use Rattle.archive_volumes.specs.Entries.{IsAskedOf, IsToldAs, told_facts}
use Rattle.archive_volumes.specs.declared.entry.RecordAt.{RecordAt}
use Rattle.archive_volumes.specs.Spots.{IsPlaced, IsSpotOf, form_of, is_same_form}
use Rattle.archive_volumes.specs.declared.spot.Spot.{Spot}
use Rattle.checkpoint.specs.OfVolume.{IsLineOf}
use Rattle.volume_lines.specs.OfGroups.{GoesOnBy, IsLineAt, front_of, record_at, record_in}
use Rattle.volume_lines.specs.OfSpots.{TellsSpot}

-- ---- whether a capture is a revisit

pub revisit_by : (same : Option Reference) (kept : Kept) → Goes same kept → is_some same ≡ is_same_form (form_of kept)
revisit_by None (Wire wire) its = refl
revisit_by (Some r) (Wire wire) its = absurd (some_isnt r its)
revisit_by None (Same n) its = absurd (its refl)
revisit_by (Some r) (Same n) its = refl
revisit_by None (Cut wire) its = refl
revisit_by (Some r) (Cut wire) its = absurd (some_isnt r its)

mime_same : (same : Option Reference) (a b : Kept) (fields : List NamedValue) → Goes same a → Goes same (kept_found b) → mime_by a fields ≡ mime_by b fields
mime_same same (Wire v) (Wire w) fields its their = refl
mime_same same (Wire v) (Same n) fields its their = absurd (their its)
mime_same same (Wire v) (Cut w) fields its their = refl
mime_same same (Same n) (Wire w) fields its their = absurd (its their)
mime_same same (Same n) (Same m) fields its their = refl
mime_same same (Same n) (Cut w) fields its their = absurd (its their)
mime_same same (Cut v) (Wire w) fields its their = refl
mime_same same (Cut v) (Same n) fields its their = absurd (their its)
mime_same same (Cut v) (Cut w) fields its their = refl

-- ---- the group of a book's capture

module _ (book : Book) (sound : IsSound book) (number : ℕ) (bytes : List ℕ) (g : IsGroupText book number bytes) (group : Group)
    (is : IsGroup book.namespace number bytes group) where
  one_taken : taken_back group.stored ≡ taken_back g.stored
  one_taken = taken book sound number bytes g group is

  one_digest : group.digest ≡ sha1 g.payload
  one_digest = digest_is book sound number bytes g group is

  one_reference : reference_in group.same ≡ reference_of book.namespace g.same
  one_reference = refers book sound number bytes g group is

  abbrev Place : ℕ → ℕ → ℕ → List ℕ → Type 0
  Place k at place before = (number ≡ first_number book k + place) × IsBefore book k place before × (at ≡ length before)

  entry : (k at place : ℕ) (before : List ℕ) → Place k at place before → (head : ResponseHead) → IsResponseHeadText group.stored.head head
      → (key : List ℕ) → key_of group.stored.uri ≡ Some key → IsEntryOf book number (told_facts group.stored head (record_at group k at) key)
  entry k at place before there head parsed key keyed = record {
    text = bytes;
    group = g;
    head = head;
    parsed = subst (λ (h : List ℕ). IsResponseHeadText h head) (ap (λ (t : Taken). t.head) one_taken) parsed;
    keyed = ap key_of (sym (ap (λ (t : Taken). t.uri) one_taken)) ∙ keyed;
    date_is = ap (λ (t : Taken). t.date) one_taken;
    number_is = is.number_is;
    uri_is = ap (λ (t : Taken). t.uri) one_taken;
    mime_is = mime_same (reference_in group.same) group.stored.kept g.stored.kept (named_values head.fields)
        (goes book sound number bytes g group is) (goes_in_book book sound number bytes g group is);
    status_is = refl;
    digest_is = one_digest;
    place = place;
    before = before;
    numbered = there.0;
    behind = there.1;
    offset_is = there.2;
    length_is = is.places.first_len
        ∙ (λ i. length (answer_text (id_of book.namespace ids.Response number) (one_taken i) (one_digest i) (one_reference i)));
  }

  pub line_is_of : (k at place : ℕ) (before : List ℕ) → Place k at place before → (line : Line) → IsLineAt group k at line → IsLineOf book number line
  line_is_of k at place before there line at_line = record {
    stored = g.stored;
    placed = g.placed;
    entry = subst (λ (l : Line). IsEntryOf book number (facts_of l)) (sym at_line.is)
        (entry k at place before there at_line.head at_line.parsed at_line.key at_line.keyed);
    method_is = ap (λ (l : Line). l.method) at_line.is ∙ ap (λ (t : Taken). t.method) one_taken;
  }

-- ---- where a volume's text has come to

module _ {book : Book} {k : ℕ} {text : List ℕ} (is : IsVolumeText book k text) (place : ℕ) (within : place < length is.groups) where
  abbrev own : List ℕ
  own = get_or is.groups place []

  before : IsBefore book k place (front_of is place)
  before = record {
    volume = is.volume;
    groups = take place is.groups;
    placed = is.placed;
    within = omega (arith, within, is.count);
    count = length-take-le place is.groups (omega (arith, within));
    each = λ j less.
        let below : j < place = omega (arith, less, length-take-le place is.groups (omega (arith, within))) in
        subst (IsGroupText book (first_number book k + j)) (sym (get_or-take place is.groups j [] below)) (is.each j (omega (arith, below, within)));
    composed = refl;
  }

  longer : length (front_of is (suc place)) ≡ length (front_of is place) + length own
  longer =
      let more : joined (take (suc place) is.groups) ≡ joined (take place is.groups) ++ own =
      ap joined (take-suc is.groups place [] within) ∙ flat_map-append (λ (t : List ℕ). t) (take place is.groups) (own ∷ [])
      ∙ ap (λ (t : List ℕ). joined (take place is.groups) ++ t) (flat_map-cons (λ (t : List ℕ). t) own [] ∙ append-nil own) in
      omega (
        arith,
        length-append (info_text book.namespace k is.volume.born) (joined (take (suc place) is.groups)),
        length-append (info_text book.namespace k is.volume.born) (joined (take place is.groups)),
        ap length more,
        length-append (joined (take place is.groups)) own,
      )

  fits : length (front_of is place) + length own ≤ length text
  fits = omega (
    arith,
    ap length is.composed,
    length-append (info_text book.namespace k is.volume.born) (joined is.groups),
    length-append (info_text book.namespace k is.volume.born) (joined (take place is.groups)),
    length-flat_map-take (λ (t : List ℕ). t) is.groups place [] within,
  )

-- ---- what is read of it

-- a number has one group
pub one : NumbersHaveOneGroup
one = one_group captures_have_one

-- where the group of a place was read, the line is its capture's, and the text has come to the next place
pub goes_on : {book : Book} {k : ℕ} {text : List ℕ} (is : IsVolumeText book k text) → IsSound book → (place at number : ℕ)
    → place < length is.groups → number ≡ first_number book k + place → at ≡ length (front_of is place)
    → (bytes : List ℕ) → IsGroupText book number bytes → (group : Group) → IsGroup book.namespace number bytes group
    → (line : Line) → IsLineAt group k at line → (len : ℕ) → len ≡ group.len → GoesOnBy is place line (at + len)
goes_on {book} {k} is sound place at number within number_is here bytes g group found line at_line len len_is =
    let own : IsGroupText book number (own is place within) =
    subst (λ (n : ℕ). IsGroupText book n (get_or is.groups place [])) (sym number_is) (is.each place within) in
    let same : bytes ≡ get_or is.groups place [] = (one book number bytes (get_or is.groups place []) g own).texts in
    record {
      line_is = subst (λ (n : ℕ). IsLineOf book n line) number_is
          (line_is_of book sound number bytes g group found k at place (front_of is place) (number_is, before is place within, here) line at_line);
      ends = omega (arith, here, len_is, found.places.len, ap length same, longer is place within);
    }

-- the line of a book's capture tells what is kept of that
pub line_tells : (book : Book) (texts : List (List ℕ)) (number : ℕ) (spot : Spot) (line : Line) → IsSpotOf book number spot → IsPlaced texts book number spot
    → IsLineOf book number line → TellsSpot spot line
line_tells book texts number spot line its placed is =
    let own = is.entry.group in
    let one : own.stored ≡ its.stored = same_Some own.stored its.stored (sym own.placed ∙ its.placed) in
    let stored : is.stored ≡ its.stored = same_Some is.stored its.stored (sym is.placed ∙ its.placed) in
    record {
      url = is.entry.uri_is ∙ ap (λ (s : Stored). s.uri) one ∙ sym its.uri;
      date = is.entry.date_is ∙ ap (λ (s : Stored). s.date) one ∙ sym its.date;
      method = is.method_is ∙ ap (λ (s : Stored). s.method) stored ∙ sym its.method;
      digest = is.entry.digest_is ∙ ap sha1 (captures_have_one book number own.payload placed.payload
          (record { stored = own.stored; placed = own.placed; by_kept = own.payload_is }) placed.has) ∙ sym placed.digest;
    }

-- what holds of a line that is kept holds of what is answered
pub kept_can : {F : Type 0} (line_in : F → Line) (P Q : Line → Type 0) (found : Option F) (line : Line)
    → IfSome found (λ f. (line_in f ≡ line) × Q (line_in f)) → P line → IfSome found (λ f. P (line_in f))
kept_can line_in P Q None line some has = tt
kept_can line_in P Q (Some f) line some has = subst P (sym some.0) has

pub kept_only : {F : Type 0} (line_in : F → Line) (line : Line) (Q : Line → Type 0) (found : Option F)
    → IfSome found (λ f. (line_in f ≡ line) × Q (line_in f)) → IfSome found (λ f. Q (line_in f))
kept_only line_in line Q None some = tt
kept_only line_in line Q (Some f) some = some.1

-- and its group ends with the text at the latest
pub ends_within : {book : Book} {k : ℕ} {text : List ℕ} (is : IsVolumeText book k text) → (place at number : ℕ)
    → place < length is.groups → number ≡ first_number book k + place → at ≡ length (front_of is place)
    → (bytes : List ℕ) → IsGroupText book number bytes → at + length bytes ≤ length text
ends_within {book} {k} is place at number within number_is here bytes g =
    let own : IsGroupText book number (own is place within) =
    subst (λ (n : ℕ). IsGroupText book n (get_or is.groups place [])) (sym number_is) (is.each place within) in
    omega (arith, here, ap length (one book number bytes (get_or is.groups place []) g own).texts, fits is place within)

-- the target of a group has a key
pub has_key : TargetsHaveKeys → (namespace : List ℕ) (number : ℕ) (bytes : List ℕ) (group : Group) → IsGroup namespace number bytes group
    → key_of group.stored.uri ≡ None → ⊥
has_key keys namespace number bytes group is none = keys group.stored.uri is.target none

-- ---- a line, by its entry

-- this is told of the group's capture
pub asked_of : (namespace : List ℕ) (number : ℕ) (bytes : List ℕ) (group : Group) → IsGroup namespace number bytes group
    → (outline : Outline) → IsOutlineOf group outline → (method : List ℕ) → method ≡ outline.method
    → (revisit : Bool) → revisit ≡ is_some outline.same → IsAskedOf group.stored method outline.uri outline.date revisit
asked_of namespace number bytes group is outline of method same revisit some = record {
  method_is = sym (same ∙ of.method_is);
  uri_is = sym of.uri_is;
  date_is = sym of.date_is;
  revisit_is = some ∙ ap is_some of.same_is ∙ some_in group.same
      ∙ revisit_by (reference_in group.same) group.stored.kept
      (goes_by_answer group.stored.method group.stored.head group.digest (reference_in group.same) group.stored.kept is.answer);
}
  where
    some_in : (same : Option Revisited) → is_some same ≡ is_some (reference_in same)
    some_in None = refl
    some_in (Some r) = refl

-- its record stands there
pub record_of_outline : (group : Group) (outline : Outline) → IsOutlineOf group outline → (volume at : ℕ)
    → record_in outline volume at ≡ record_at group volume at
record_of_outline group outline of volume at i = record {
  number = of.number_is i;
  digest = of.digest_is i;
  volume = volume;
  offset = at;
  len = of.first_len_is i;
}

-- the line of an entry that tells of the group's capture
pub line_at_group : (group : Group) (volume at : ℕ) (head : ResponseHead) → IsResponseHeadText group.stored.head head → (method : List ℕ)
    → method ≡ group.stored.method → (at_record : RecordAt) → at_record ≡ record_at group volume at → (told_of : Facts)
    → IsToldAs group.stored head at_record (Some told_of) → (line : Line) → line ≡ line_at told_of method → IsLineAt group volume at line
line_at_group group volume at head parsed method method_is at_record record_is told_of told line line_is = record {
  head = head;
  parsed = parsed;
  key = told.0;
  keyed = told.1;
  is = line_is ∙ (λ i. line_at ((told.2 ∙ ap (λ (r : RecordAt). told_facts group.stored head r told.0) record_is) i) (method_is i));
}
