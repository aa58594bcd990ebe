-- A piece that a sound book has as its next capture's is read as one.
use Rattle.std.proofs.Common.{◌≡◌, ℕ, zero, suc, ◌+◌, ◌-◌, ◌<◌, ◌^◌, List, [], ◌∷◌, ◌++◌, length, get_or, slice_get, Option, Some, None, refl, sym, ap, subst, ◌∙◌, length-append, arith, ◌≢◌}
use Rattle.std.proofs.lemmas.List.{length-set}
use Rattle.capture.specs.declared.book.Volume.{Volume}
use Rattle.warc_text.specs.Records.{info_text}
use Rattle.archive_shelf.proofs.StoringLaws.{captures_stay}
use Rattle.std.proofs.lemmas.List.Elements.{All-get_or}
use Rattle.std.proofs.lemmas.Option.{get_or_from_slice_get, slice_get_within}
use Rattle.sha1.specs.Sha1.{sha1}
use Rattle.capture.specs.Captures.{captures, IsPayloadBy, taken_back}
use Rattle.capture.specs.WellFormed.{IsHeadBefore}
use Rattle.capture.proofs.GrowthLaws.{growth_keeps_captures}
use Rattle.capture.proofs.PayloadLaws.{captures_have_one}
use Rattle.warc_text.specs.References.{Reference, reference_of, reference_to}
use Rattle.warc_text.specs.declared.same_of.SameOf.{SameOf}
use Rattle.archive_gathering.specs.Revisits.{IsOriginalOf}
use Rattle.capture.specs.declared.book.Book.{Book}
use Rattle.capture.specs.declared.captured.Stored.{Stored}
use Rattle.warc_text.specs.Books.{AreVolumeTexts, IsGroupText, RefersBy, same_of}
use Rattle.warc_text.specs.Ids.{IsUuid}
use Rattle.warc_journal.specs.Texts.{with_more}
use Rattle.archive_shelf.specs.Gaining.{CapturesAddTheirGroup, VolumesAddTheirText}
use Rattle.archive_shelf.specs.Storing.{new_volume, with_capture}
use Rattle.warc_scan.specs.Groups.{IsGroup, reference_in}
use Rattle.warc_scan.specs.declared.group.Group.{Group}
use Rattle.warc_scan.proofs.FoundGroups.{group_found, group_is_found, revisited_of}
use Rattle.archive_pieces.specs.NextPieces.{Takes}
use Rattle.archive_gathering.proofs.FrontLaws.{last_with_more}
use Rattle.archive_gathering.proofs.RevisitLaws as revisits
use Rattle.archive_pieces.specs.PieceParts.{HasNoParts, IsNoPiece, IsReadAs, room_by}
use Rattle.archive_pieces.proofs.NextFronts.{front_by, group_is_short}
use Rattle.archive_pieces.proofs.NextPiece.{IsNext, next_of}
use Rattle.archive_pieces.proofs.NextSource.{IsGroupHere, fronts}

-- ---- the parts of a piece

pub record HasParts (book : Book) (bytes : List ℕ) (after : Book) : Type 0 where
  pub begins : Option ℕ
  pub at : ℕ
  pub group : Group
  pub is : IsReadAs book bytes begins at group
  pub stored : Stored
  pub next : IsNext book.volumes after.volumes stored begins
  -- the group is that of the capture which the book has gained
  pub capture : Stored
  pub placed : slice_get (captures after) (length (captures book)) ≡ Some capture
  pub request : group.stored.request ≡ capture.request
  pub method : group.stored.method ≡ capture.method
  pub head : group.stored.head ≡ capture.head
  pub of : IsGroupText after (length (captures book)) is.text
  pub of_capture : of.stored ≡ capture
  pub refers : reference_in group.same ≡ reference_of after.namespace of.same
  pub digest : group.digest ≡ sha1 of.payload

same_some : {A : Type 0} (x y : A) → Some x ≡ Some y → x ≡ y
same_some x y e = cc

found_refers : (namespace : List ℕ) (same : Option SameOf) → reference_in (revisited_of namespace same) ≡ reference_of namespace same
found_refers namespace None = refl
found_refers namespace (Some s) = refl

module _ (book after : Book) (bytes : List ℕ) (takes : Takes book bytes after) where
  pub parts : HasParts book bytes after
  parts =
      let next = next_of book after takes.grown takes.sound.sound.filled takes.last takes.count in
      let number = length (captures book) in
      let short = group_is_short after number takes.piece.group takes.sound takes.piece.is in
      let less : length takes.piece.group < 2 ^ 63 = omega (arith, short) in
      record {
        begins = next.begins;
        at = length takes.piece.front;
        group = group_found after takes.sound number takes.piece.group takes.piece.is less;
        is = record {
          front = takes.piece.front;
          text = takes.piece.group;
          composed = takes.piece.composed;
          is_front = front_by book after bytes takes next.begins next.stored next.is;
          at_is = refl;
          is = subst (λ (n : List ℕ). IsGroup n number takes.piece.group (group_found after takes.sound number takes.piece.group takes.piece.is less))
              takes.grown.namespace (group_is_found after takes.sound number takes.piece.group takes.piece.is less);
        };
        stored = next.stored;
        next = next.is;
        capture = takes.piece.is.stored;
        placed = takes.piece.is.placed;
        request = refl;
        method = refl;
        head = refl;
        of = takes.piece.is;
        of_capture = refl;
        refers = found_refers after.namespace takes.piece.is.same;
        digest = refl;
      }

-- bytes that are no such parts are no piece
pub no_piece : (book : Book) (bytes : List ℕ) → HasNoParts book bytes → IsNoPiece book bytes
no_piece book bytes none after takes = let p = parts book after bytes takes in none p.begins p.at p.group p.is

-- the texts of the volumes, with that of the one that is begun
abbrev pub more_texts : Book → List (List ℕ) → Option ℕ → List (List ℕ)
more_texts book texts None = texts
more_texts book texts (Some born) = texts ++ info_text book.namespace (length book.volumes) born ∷ []

-- ---- what was read is what a book has that takes it

module _ (book : Book) (uuid : IsUuid book.namespace) (bytes : List ℕ) (begins : Option ℕ) (at : ℕ) (group : Group)
    (read : IsReadAs book bytes begins at group) (after : Book) (takes : Takes book bytes after) where
  abbrev number : ℕ
  number = length (captures book)

  pub has : HasParts book bytes after
  has = parts book after bytes takes

  here : (text : List ℕ) (g : Group) → IsGroup book.namespace number text g → IsGroupHere book uuid number text
  here text g is = record { taken = taken_back g.stored; digest = g.digest; same = reference_in g.same; is = is.composed }

  pub one_reading : (begins ≡ has.begins) × (read.text ≡ has.is.text)
  one_reading = fronts book uuid number read.front read.text has.is.front has.is.text begins has.begins read.is_front has.is.is_front
      (here read.text group read.is) (here has.is.text has.group has.is.is) (sym read.composed ∙ has.is.composed)

  same_group : IsGroup book.namespace number read.text has.group
  same_group = subst (λ (l : List ℕ). IsGroup book.namespace number l has.group) (sym one_reading.1) has.is.is

  -- its request is short
  pub request_is_short : length group.stored.request < 2 ^ 34
  request_is_short =
      let same = ap (λ (l : List ℕ). length l) (revisits.parts book.namespace number read.text group has.group read.is same_group).request in
      let its = ap (λ (l : List ℕ). length l) has.request in
      let inside = slice_get_within (captures after) number has.capture has.placed in
      let short = All-get_or (λ (s : Stored). length s.request < 2 ^ 34) (captures after) number has.capture inside takes.sound.sound.short_requests in
      let is = ap (λ (s : Stored). length s.request) (get_or_from_slice_get (captures after) number has.capture has.capture has.placed) in
      omega (arith, same, its, short, is)

  -- ---- and its volume's text

  after_by : (b : Option ℕ) (stored : Stored) → IsNext book.volumes after.volumes stored b → after ≡ with_capture (room_by book b) stored
  after_by None stored is = λ i. record { namespace = takes.grown.namespace i; volumes = is.1 i }
  after_by (Some born) stored is = λ i. record { namespace = takes.grown.namespace i; volumes = is.1 i }

  some_volumes : (b : Option ℕ) (stored : Stored) → IsNext book.volumes after.volumes stored b → 0 < length (room_by book b).volumes
  some_volumes None stored is = some_by book.volumes is.0 where
    some_by : (volumes : List Volume) → volumes ≢ [] → 0 < length volumes
    some_by [] some = absurd (some refl)
    some_by (v ∷ vs) some = omega arith
  some_volumes (Some born) stored is = let a = length-append book.volumes (new_volume born ∷ []) in omega (arith, a)

  same_captures : (b : Option ℕ) → captures (room_by book b) ≡ captures book
  same_captures None = refl
  same_captures (Some born) = captures_stay book.volumes born

  texts_of_room : VolumesAddTheirText → (texts : List (List ℕ)) → AreVolumeTexts book texts → (b : Option ℕ) → AreVolumeTexts (room_by book b) (more_texts book texts b)
  texts_of_room add texts are None = are
  texts_of_room add texts are (Some born) = add book born texts are

  -- where the group is to stand its volume's text stays short
  pub text_is_short : VolumesAddTheirText → CapturesAddTheirGroup → (texts : List (List ℕ)) → AreVolumeTexts book texts
      → length (get_or (more_texts book texts begins) (length (more_texts book texts begins) - 1) []) + length read.text < 2 ^ 62
  text_is_short add_volume add_group texts are =
      let is : IsNext book.volumes after.volumes has.stored begins
      = subst (λ (b : Option ℕ). IsNext book.volumes after.volumes has.stored b) (sym one_reading.0) has.next in
      let room = room_by book begins in
      let all = more_texts book texts begins in
      let room_are = texts_of_room add_volume texts are begins in
      let some = some_volumes begins has.stored is in
      let same = after_by begins has.stored is in
      let group_is : IsGroupText (with_capture room has.stored) (length (captures room)) read.text
      = subst (λ (b : Book). IsGroupText b (length (captures room)) read.text) same
      (subst (λ (n : ℕ). IsGroupText after n read.text) (sym (ap (λ (l : List Stored). length l) (same_captures begins)))
      (subst (λ (l : List ℕ). IsGroupText after number l) (sym one_reading.1) has.of)) in
      let after_are : AreVolumeTexts after (with_more all read.text)
      = subst (λ (b : Book). AreVolumeTexts b (with_more all read.text)) (sym same) (add_group room has.stored all read.text some room_are group_is) in
      let count = room_are.count in
      let k = length all - 1 in
      let last : k + 1 ≡ length all = omega (arith, some, count) in
      let more = last_with_more all read.text k last in
      let within : k < length (with_more all read.text)
      = omega (arith, last, length-set all (length all - 1) (get_or all (length all - 1) [] ++ read.text)) in
      let short = takes.sound.short_texts k (get_or (with_more all read.text) k []) (after_are.each k within) in
      let long = ap (λ (l : List ℕ). length l) more in
      let sum = length-append (get_or all k []) read.text in
      omega (arith, short, long, sum)

  -- ---- and what it refers to

  in_book : (n : ℕ) (s : Stored) → n < number → slice_get (captures after) n ≡ Some s → slice_get (captures book) n ≡ Some s
  in_book n s less at =
      let more = growth_keeps_captures book after takes.grown in
      get_before (captures book) more.0 n s less (ap (λ (l : List Stored). slice_get l n) (sym more.1) ∙ at) where
        get_before : (xs ys : List Stored) (k : ℕ) (x : Stored) → k < length xs → slice_get (xs ++ ys) k ≡ Some x → slice_get xs k ≡ Some x
        get_before [] ys k x less e = absurd (omega (arith, less))
        get_before (y ∷ xs) ys zero x less e = e
        get_before (y ∷ xs) ys (suc k) x less e = get_before xs ys k x (omega (arith, less)) e

  told : reference_in group.same ≡ reference_of after.namespace has.of.same
  told = (revisits.say book.namespace number read.text group has.group read.is same_group).refers ∙ has.refers

  -- one that refers to a record refers to an earlier capture of the book
  pub has_original : (reference : Reference) → reference_in group.same ≡ Some reference → (first : ℕ) × IsOriginalOf book number group first
  has_original reference refers =
      let r = revisits.referred_by captures_have_one after number has.capture has.of.payload reference has.capture.kept has.of.same
      (takes.sound.sound.each number has.capture has.placed).kept
      (subst (λ (s : Stored). RefersBy after s.kept has.of.same) has.of_capture has.of.refers)
      (subst (λ (s : Stored). IsPayloadBy after s s.kept has.of.payload) has.of_capture has.of.payload_is)
      (found_refers after.namespace has.of.same ∙ (sym told ∙ refers)) in
      let both = revisits.parts book.namespace number read.text group has.group read.is same_group in
      let said = revisits.say book.namespace number read.text group has.group read.is same_group in (
        r.first,
        record {
          earlier = r.earlier;
          original = r.original;
          wire = r.wire;
          payload = has.of.payload;
          keeps = record { placed = in_book r.first r.original r.earlier r.keeps.placed; kept = r.keeps.kept; has = r.keeps.has };
          refers = refers ∙ (ap (λ (n : Reference). Some n) r.names
              ∙ (λ i. Some (reference_to (takes.grown.namespace i) (same_of r.first r.original))));
          digest = said.payload_digest ∙ has.digest;
          head = subst (λ (m : List ℕ). IsHeadBefore m group.stored.head has.of.payload) (sym (both.method ∙ has.method))
              (subst (λ (h : List ℕ). IsHeadBefore has.capture.method h has.of.payload) (sym (both.head ∙ has.head)) r.head);
        },
      )
