-- A group that is read where the book's one stands is that of the book's capture.
use Rattle.std.proofs.Common.{◌≡◌, ◌≢◌, ℕ, Bool, List, Option, Some, None, refl, sym, ap, subst, ◌∙◌, false}
use Rattle.std.specs.Prelude.{slice_get}
use Rattle.std.proofs.lemmas.Bool.{false≢true}
use Rattle.sha1.specs.Sha1.{sha1}
use Rattle.capture.specs.Captures.{captures, is_cut, kept_wire, taken_back, HasPayload, IsPayloadBy}
use Rattle.capture.specs.WellFormed.{RespondsTo}
use Rattle.capture.specs.declared.book.Book.{Book}
use Rattle.capture.specs.declared.captured.Kept.{Kept}
use Rattle.capture.specs.declared.captured.Kept.TheVariants.{Wire, Same, Cut}
use Rattle.capture.specs.declared.captured.Stored.{Stored}
use Rattle.capture.specs.declared.captured.Taken.{Taken}
use Rattle.warc_scan.specs.Groups.{IsAnswer, IsGroup, reference_in}
use Rattle.warc_scan.specs.declared.group.Group.{Group}
use Rattle.warc_scan.specs.declared.group.Revisited.{Revisited}
use Rattle.warc_text.proofs.EqualLaws.{equal_groups_are_of_equal_captures}
use Rattle.warc_text.specs.Books.{IsGroupText, RefersBy, same_of}
use Rattle.warc_text.specs.Groups.{AreOfEqualCaptures, AreOneCapture, HasMessages}
use Rattle.warc_text.specs.Ids.{id_of}
use Rattle.warc_text.specs.References.{Reference, reference_of}
use Rattle.warc_text.specs.Sound.{IsSound}
use Rattle.warc_text.specs.declared.id.IdKind.TheVariants.{Response}
use Rattle.warc_text.specs.declared.same_of.SameOf.{SameOf}
use Rattle.warc_scan.proofs.FoundGroups.{as_found, group_found, group_is_found, kept_found, revisited_of}
use Rattle.warc_scan.proofs.FoundTexts.{found_writable}
use Rattle.archive_reading.specs.Rereading.{IsOwnOf, IsSameOf}
use Rattle.archive_volumes.specs.Spots.{form_of, is_same_form}

-- ---- whether a capture is a revisit

-- what is kept goes with what is referred to
abbrev pub Goes : Option Reference → Kept → Type 0
Goes same (Wire wire) = same ≡ None
Goes same (Same number) = same ≢ None
Goes same (Cut wire) = same ≡ None

pub some_isnt : (r : Reference) → Some r ≡ None → ⊥
some_isnt r e = cc

pub goes_by_answer : (method head digest : List ℕ) (same : Option Reference) (kept : Kept) → IsAnswer method head digest same kept → Goes same kept
goes_by_answer method head digest same (Wire wire) is = is.0
goes_by_answer method head digest same (Same number) is = λ none. some_isnt is.1.reference (sym is.1.refers ∙ none)
goes_by_answer method head digest same (Cut wire) is = is.0

goes_by_reference : (book : Book) (kept : Kept) (same : Option SameOf) → RefersBy book kept same → Goes (reference_of book.namespace same) (kept_found kept)
goes_by_reference book (Wire wire) same is = ap (reference_of book.namespace) is
goes_by_reference book (Same first) same is = λ none. cc
goes_by_reference book (Cut wire) same is = ap (reference_of book.namespace) is

one_taken : (a b : Stored) (same : Option Reference) (ka kb : Kept)
    → AreOneCapture same (taken_back (record a { kept = ka })) (taken_back (record b { kept = kb })) → Goes same ka → Goes same kb
    → taken_back (record a { kept = ka }) ≡ taken_back (record b { kept = kb })
one_taken a b None ka kb is goes goes₂ = is
one_taken a b (Some r) (Wire wire) kb is goes goes₂ = absurd (some_isnt r goes)
one_taken a b (Some r) (Cut wire) kb is goes goes₂ = absurd (some_isnt r goes)
one_taken a b (Some r) (Same n) (Wire wire) is goes goes₂ = absurd (some_isnt r goes₂)
one_taken a b (Some r) (Same n) (Cut wire) is goes goes₂ = absurd (some_isnt r goes₂)
one_taken a b (Some r) (Same n) (Same m) is goes goes₂ = is

reference_found : (namespace : List ℕ) (same : Option SameOf) → reference_in (revisited_of namespace same) ≡ reference_of namespace same
reference_found namespace None = refl
reference_found namespace (Some s) = refl

taken_by : (stored : Stored) (kept : Kept) → taken_back (record stored { kept = kept_found kept }) ≡ taken_back (record stored { kept = kept })
taken_by stored (Wire wire) = refl
taken_by stored (Same number) = refl
taken_by stored (Cut wire) = refl

taken_found : (stored : Stored) → taken_back (as_found stored) ≡ taken_back stored
taken_found stored = taken_by stored stored.kept

-- ---- the messages of a group

responds_by : (method head digest : List ℕ) (same : Option Reference) (kept : Kept) → IsAnswer method head digest same kept
    → same ≡ None → RespondsTo (is_cut kept) method head (kept_wire kept)
responds_by method head digest same (Wire wire) is none = is.1.responds
responds_by method head digest same (Same number) is none = absurd (some_isnt is.1.reference (sym is.1.refers ∙ none))
responds_by method head digest same (Cut wire) is none = is.1.responds

messages : (namespace : List ℕ) (number : ℕ) (text : List ℕ) (group : Group) → IsGroup namespace number text group
    → HasMessages (taken_back group.stored) (reference_in group.same)
messages namespace number text group is = record {
  request = is.request;
  response = responds_by group.stored.method group.stored.head group.digest (reference_in group.same) group.stored.kept is.answer;
}

-- ---- by what is kept

own_by_none : (kept : Kept) → Goes None kept → is_same_form (form_of kept) ≡ false
own_by_none (Wire wire) goes = refl
own_by_none (Same number) goes = absurd (goes refl)
own_by_none (Cut wire) goes = refl

own_goes : (same : Option Reference) (kept : Kept) → is_same_form (form_of kept) ≡ false → Goes same kept → same ≡ None
own_goes same (Wire wire) own goes = goes
own_goes same (Same number) own goes = absurd (false≢true (sym own))
own_goes same (Cut wire) own goes = goes

unfound : (kept : Kept) → is_same_form (form_of (kept_found kept)) ≡ is_same_form (form_of kept)
unfound (Wire wire) = refl
unfound (Same number) = refl
unfound (Cut wire) = refl

by_own : (book : Book) (stored : Stored) (kept : Kept) (payload : List ℕ) → is_same_form (form_of kept) ≡ false
    → HasPayload (is_cut kept) stored.method stored.head (kept_wire kept) payload → IsPayloadBy book stored kept payload
by_own book stored (Wire wire) payload own has = has
by_own book stored (Same number) payload own has = absurd (false≢true (sym own))
by_own book stored (Cut wire) payload own has = has

same_by : (book : Book) (kept : Kept) (same : Option SameOf) → RefersBy book kept same → (r : Reference) → reference_of book.namespace same ≡ Some r
    → (first : ℕ) × (original : Stored) × (kept ≡ Same first) × (slice_get (captures book) first ≡ Some original)
    × (reference_of book.namespace (Some (same_of first original)) ≡ Some r)
same_by book (Wire wire) same refers r is = absurd (some_isnt r (sym is ∙ ap (reference_of book.namespace) refers))
same_by book (Cut wire) same refers r is = absurd (some_isnt r (sym is ∙ ap (reference_of book.namespace) refers))
same_by book (Same first) same refers r is = (first, refers.0, refl, refers.1, ap (reference_of book.namespace) (sym refers.2) ∙ is)

abbrev referred : Revisited → Reference
referred r = record { id = r.id; uri = r.uri; date = r.date }

same_reference : (a b : Reference) → Some a ≡ Some b → a ≡ b
same_reference a b e = cc

-- what goes with one reference is a revisit, or isn't
one_form : (same : Option Reference) (a b : Kept) → Goes same a → Goes same b → is_same_form (form_of a) ≡ is_same_form (form_of b)
one_form same (Wire wire) (Wire other) goes goes₂ = refl
one_form same (Wire wire) (Cut other) goes goes₂ = refl
one_form same (Wire wire) (Same number) goes goes₂ = absurd (goes₂ goes)
one_form same (Cut wire) (Wire other) goes goes₂ = refl
one_form same (Cut wire) (Cut other) goes goes₂ = refl
one_form same (Cut wire) (Same number) goes goes₂ = absurd (goes₂ goes)
one_form same (Same number) (Wire wire) goes goes₂ = absurd (goes goes₂)
one_form same (Same number) (Cut wire) goes goes₂ = absurd (goes goes₂)
one_form same (Same number) (Same other) goes goes₂ = refl

-- ---- the group of a book's capture

module _ (book : Book) (sound : IsSound book) (number : ℕ) (bytes : List ℕ) (g : IsGroupText book number bytes) (group : Group)
    (is : IsGroup book.namespace number bytes group) where
  abbrev found : Group
  found = group_found book sound number bytes g is.short

  found_is : IsGroup book.namespace number bytes found
  found_is = group_is_found book sound number bytes g is.short

  equal : AreOfEqualCaptures (taken_back group.stored) (taken_back found.stored) group.digest found.digest (reference_in group.same) (reference_in found.same)
  equal = equal_groups_are_of_equal_captures book.namespace number (taken_back group.stored) (taken_back found.stored) group.digest found.digest
      (reference_in group.same) (reference_in found.same) (found_writable book.namespace number bytes group is)
      (found_writable book.namespace number bytes found found_is) (messages book.namespace number bytes group is)
      (messages book.namespace number bytes found found_is) (sym is.composed ∙ found_is.composed)

  -- its digest is that of the capture's payload
  pub digest_is : group.digest ≡ sha1 g.payload
  digest_is = equal.payload_digest

  pub refers : reference_in group.same ≡ reference_of book.namespace g.same
  refers = equal.refers ∙ reference_found book.namespace g.same

  pub goes : Goes (reference_in group.same) group.stored.kept
  goes = goes_by_answer group.stored.method group.stored.head group.digest (reference_in group.same) group.stored.kept is.answer

  pub goes_in_book : Goes (reference_in group.same) (kept_found g.stored.kept)
  goes_in_book = subst (λ (s : Option Reference). Goes s (kept_found g.stored.kept)) (sym refers) (goes_by_reference book g.stored.kept g.same g.refers)

  pub taken : taken_back group.stored ≡ taken_back g.stored
  taken = one_taken group.stored g.stored (reference_in group.same) group.stored.kept (kept_found g.stored.kept) equal.captures goes goes_in_book
      ∙ taken_found g.stored

  pub same_forms : is_same_form (form_of group.stored.kept) ≡ is_same_form (form_of g.stored.kept)
  same_forms = one_form (reference_in group.same) group.stored.kept (kept_found g.stored.kept) goes goes_in_book ∙ unfound g.stored.kept

  -- the group of a capture that keeps its wire
  pub is_own : (head payload : List ℕ) (cut : Bool) → head ≡ group.stored.head
      → HasPayload cut group.stored.method group.stored.head (kept_wire group.stored.kept) payload → cut ≡ is_cut group.stored.kept
      → is_same_form (form_of group.stored.kept) ≡ false → IsOwnOf book number head payload cut
  is_own head payload cut head_is has cut_is own =
      let stored : Stored = g.stored in
      let none : reference_in group.same ≡ None = own_goes (reference_in group.same) group.stored.kept own goes in
      let own_in_book : is_same_form (form_of stored.kept) ≡ false =
      sym (unfound stored.kept) ∙ own_by_none (kept_found stored.kept) (subst (λ (s : Option Reference). Goes s (kept_found stored.kept)) none goes_in_book) in
      let cut_book : cut ≡ is_cut stored.kept = cut_is ∙ ap (λ (t : Taken). t.cut) taken in
      let there : HasPayload (is_cut stored.kept) stored.method stored.head (kept_wire stored.kept) payload =
      subst (λ (t : Taken). HasPayload t.cut t.method t.head t.wire payload) taken
      (subst (λ (b : Bool). HasPayload b group.stored.method group.stored.head (kept_wire group.stored.kept) payload) cut_is has) in
      record {
        are = record {
          has = record { stored = stored; placed = g.placed; by_kept = by_own book stored stored.kept payload own_in_book there };
          head_is = head_is ∙ ap (λ (t : Taken). t.head) taken;
        };
        own = own_in_book;
        cut_is = cut_book;
      }

  -- the group of a revisit
  pub is_same : (head : List ℕ) (same : Revisited) → head ≡ group.stored.head → group.same ≡ Some same → IsSameOf book number head same
  is_same head same head_is same_is =
      let r : Reference = referred same in
      let told : reference_of book.namespace g.same ≡ Some r = sym refers ∙ ap reference_in same_is in
      let by = same_by book g.stored.kept g.same g.refers r told in
      let is_r : record { id = id_of book.namespace Response by.0; uri = by.1.uri; date = by.1.date } ≡ r = same_reference _ r by.4 in
      record {
        stored = g.stored;
        first = by.0;
        placed = g.placed;
        kept = by.2;
        head_is = head_is ∙ ap (λ (t : Taken). t.head) taken;
        tells = record {
          original = by.1;
          placed = by.3;
          id_is = ap (λ (x : Reference). x.id) (sym is_r);
          uri_is = ap (λ (x : Reference). x.uri) (sym is_r);
          date_is = ap (λ (x : Reference). x.date) (sym is_r);
        };
      }
