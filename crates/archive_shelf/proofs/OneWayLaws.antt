-- A book takes a capture in one way.
use Rattle.std.proofs.Common.{◌≡◌, ◌≢◌, ◌⊎◌, ℕ, ◌+◌, ◌<◌, ◌≤◌, Bool, true, false, List, [], ◌∷◌, ◌++◌, length, get_or, Option, Some, None, refl, sym, ap, subst, ◌∙◌, inl, inr, ⊎_elim, arith}
use Rattle.std.specs.Prelude.{slice_get}
use Rattle.std.proofs.lemmas.List.{ext_get_or}
use Rattle.std.proofs.lemmas.Option.{same_Some}
use Rattle.capture.specs.BodyLaws.{CapturesHaveOnePayload}
use Rattle.capture.specs.Captures.{captures, first_number, HasPayload, IsPayloadOf}
use Rattle.capture.specs.declared.book.Book.{Book}
use Rattle.capture.specs.declared.book.Volume.{Volume}
use Rattle.capture.specs.declared.captured.Stored.{Stored}
use Rattle.capture.specs.declared.captured.Taken.{Taken}
use Rattle.warc_text.specs.Books.{IsVolumeText, joined}
use Rattle.warc_text.specs.Growth.{NumbersHaveOneGroup}
use Rattle.warc_text.specs.Records.{info_text}
use Rattle.archive_shelf.specs.Comparing.{RefersBy, IsSameAs}
use Rattle.archive_shelf.specs.Laws.{CapturesAreStoredOneWay, StoringLeavesNext}
use Rattle.archive_shelf.specs.Openings.{SameBook}
use Rattle.archive_shelf.specs.Storing.{HasLast, NeedsVolume, as_stored, kept_of, stored_by, with_capture, with_volume}
use Rattle.archive_shelf.proofs.StoringLaws.{IsUnfilled}

-- one element at one place
one_at : {X : Type 0} (o : Option X) (x y : X) → o ≡ Some x → o ≡ Some y → x ≡ y
one_at o x y e f = same_Some x y (sym e ∙ f)

-- ---- a volume has one text

pub one_text : NumbersHaveOneGroup → (book : Book) (k : ℕ) (text other : List ℕ) → IsVolumeText book k text → IsVolumeText book k other → text ≡ other
one_text one book k text other is is₂ =
    let volume : is.volume ≡ is₂.volume = one_at (slice_get book.volumes k) is.volume is₂.volume is.placed is₂.placed in
    let count : length is.groups ≡ length is₂.groups = is.count ∙ ap (λ (v : Volume). length v.captures) volume ∙ sym is₂.count in
    let groups : is.groups ≡ is₂.groups = ext_get_or [] is.groups is₂.groups count
    (λ j lt. (one book (first_number book k + j) (get_or is.groups j []) (get_or is₂.groups j []) (is.each j lt) (is₂.each j (omega (arith, lt, count)))).texts) in
    is.composed ∙ ap (λ (v : Volume). info_text book.namespace k v.born ++ joined is.groups) volume
    ∙ ap (λ (g : List (List ℕ)). info_text book.namespace k is₂.volume.born ++ joined g) groups ∙ sym is₂.composed

-- ---- a capture refers to one other

-- a book of one capture
abbrev alone_in : Stored → Book
alone_in stored = record { namespace = []; volumes = record { born = 0; captures = stored ∷ [] } ∷ [] }

abbrev of_wire : Bool → List ℕ → List ℕ → List ℕ → Stored
of_wire cut method head wire = record { method = method; uri = []; date = 0; request = []; head = head; kept = kept_of cut wire None }

payload_alone : (cut : Bool) (method head wire payload : List ℕ) → HasPayload cut method head wire payload
    → IsPayloadOf (alone_in (of_wire cut method head wire)) 0 payload
payload_alone true method head wire payload has = record { stored = of_wire true method head wire; placed = refl; by_kept = has }
payload_alone false method head wire payload has = record { stored = of_wire false method head wire; placed = refl; by_kept = has }

one_payload : CapturesHaveOnePayload → (cut : Bool) (method head wire payload other : List ℕ)
    → HasPayload cut method head wire payload → HasPayload cut method head wire other → payload ≡ other
one_payload one cut method head wire payload other has has₂ =
    one (alone_in (of_wire cut method head wire)) 0 payload other
    (payload_alone cut method head wire payload has) (payload_alone cut method head wire other has₂)

finds_one : (book : Book) (upto : ℕ) (payload : List ℕ) (s t : Option ℕ) → RefersBy false book upto payload s → RefersBy false book upto payload t → s ≡ t
finds_one book upto payload (Some n) (Some m) found found₂ =
    let le : n ≤ m = found.3 m found₂.2 in
    let ge : m ≤ n = found₂.3 n found.2 in
    let same : n ≡ m = omega (arith, le, ge) in
    ap Some same
finds_one book upto payload (Some n) None found none = absurd (none found.0 n found.1 found.2)
finds_one book upto payload None (Some m) none found = absurd (none found.0 m found.1 found.2)
finds_one book upto payload None None none none₂ = refl

refers_one : (cut : Bool) (book : Book) (payload : List ℕ) (s t : Option ℕ) → RefersBy cut book (length (captures book)) payload s → RefersBy cut book (length (captures book)) payload t → s ≡ t
refers_one true book payload s t is is₂ = is ∙ sym is₂
refers_one false book payload s t is is₂ = finds_one book (length (captures book)) payload s t is is₂

same_one : CapturesHaveOnePayload → (book : Book) (taken : Taken) (s t : Option ℕ) → IsSameAs book taken s → IsSameAs book taken t → s ≡ t
same_one one book taken s t is is₂ =
    let payload : is.payload ≡ is₂.payload = one_payload one taken.cut taken.method taken.head taken.wire is.payload is₂.payload is.has is₂.has in
    refers_one taken.cut book is₂.payload s t (subst (λ (p : List ℕ). RefersBy taken.cut book (length (captures book)) p s) payload is.refers) is₂.refers

-- ---- it needs a volume, or it doesn't

last_number : (book : Book) (a b : HasLast book) → a.number ≡ b.number
last_number book a b = omega (arith, a.is_last, b.is_last)

pub last_volume : (book : Book) (a b : HasLast book) → a.volume ≡ b.volume
last_volume book a b =
    one_at (slice_get book.volumes a.number) a.volume b.volume a.placed
    (ap (λ (k : ℕ). slice_get book.volumes k) (last_number book a b) ∙ b.placed)

too_long : NumbersHaveOneGroup → (limit : ℕ) (book : Book) (stored : Stored) (last last₂ : HasLast book)
    → (last.volume.captures ≡ []) ⊎ ((text : List ℕ) × IsVolumeText (with_capture book stored) last.number text × (length text ≤ limit))
    → last₂.volume.captures ≢ [] → (text : List ℕ) → IsVolumeText (with_capture book stored) last₂.number text → limit < length text → ⊥
too_long one limit book stored last last₂ (inl empty) some text of past =
    some (ap (λ (v : Volume). v.captures) (sym (last_volume book last last₂)) ∙ empty)
too_long one limit book stored last last₂ (inr within) some text of past =
    let is : IsVolumeText (with_capture book stored) last₂.number within.0 =
    subst (λ (k : ℕ). IsVolumeText (with_capture book stored) k within.0) (last_number book last last₂) within.1 in
    let same : within.0 ≡ text = one_text one (with_capture book stored) last₂.number within.0 text is of in
    omega (arith, within.2, past, ap length same)

not_both : NumbersHaveOneGroup → (limit : ℕ) (book : Book) (stored : Stored) → NeedsVolume limit book stored false → NeedsVolume limit book stored true → ⊥
not_both one limit book stored room (inl none) = omega (arith, room.0.is_last, ap length none)
not_both one limit book stored room (inr needs) = too_long one limit book stored room.0 needs.0 room.1 needs.1 needs.2 needs.3 needs.4

unfilled_one : NumbersHaveOneGroup → (limit : ℕ) (book : Book) (stored : Stored) (a b : Book)
    → IsUnfilled limit book stored a → IsUnfilled limit book stored b → a ≡ b
unfilled_one one limit book stored a b (inl room) (inl room₂) = room.1 ∙ sym room₂.1
unfilled_one one limit book stored a b (inl room) (inr needs) = absurd (not_both one limit book stored room.0 needs.0)
unfilled_one one limit book stored a b (inr needs) (inl room) = absurd (not_both one limit book stored room.0 needs.0)
unfilled_one one limit book stored a b (inr needs) (inr needs₂) = needs.1 ∙ sym needs₂.1

pub one_way : CapturesHaveOnePayload → NumbersHaveOneGroup → CapturesAreStoredOneWay
one_way payloads groups limit book taken a b =
    let same : a.same ≡ b.same = same_one payloads book taken a.same b.same a.refers b.refers in
    let roomy : IsUnfilled limit book (as_stored taken b.same) a.unfilled =
    subst (λ (s : Option ℕ). IsUnfilled limit book (as_stored taken s) a.unfilled) same a.roomy in
    let unfilled : a.unfilled ≡ b.unfilled = unfilled_one groups limit book (as_stored taken b.same) a.unfilled b.unfilled roomy b.roomy in
    record {
      same = same;
      unfilled = unfilled;
      stored = ap (λ (s : Option ℕ). with_capture a.unfilled (as_stored taken s)) same
          ∙ ap (λ (room : Book). with_capture room (as_stored taken b.same)) unfilled;
    }

-- ---- what may be left

unfilled_is_next : (limit : ℕ) (book : Book) (stored : Stored) (room : Book) → IsUnfilled limit book stored room
    → SameBook room book ⊎ ((born : ℕ) × (room ≡ with_volume book born))
unfilled_is_next limit book stored room (inl same) = inl (inl same.1)
unfilled_is_next limit book stored room (inr more) = inr (stored.date, more.1)

pub leaves_next : StoringLeavesNext
leaves_next limit was taken x (inl same) = record { room = was; roomy = inl (inl refl); is = inl same }
leaves_next limit was taken x (inr way) = record {
  room = way.0.unfilled;
  roomy = unfilled_is_next limit was (as_stored taken way.0.same) way.0.unfilled way.0.roomy;
  is = left way.1;
}
  where
    left : (x ≡ way.0.unfilled) ⊎ (x ≡ stored_by way.0)
        → SameBook x way.0.unfilled ⊎ ((stored : Stored) × (x ≡ with_capture way.0.unfilled stored))
    left (inl is) = inl (inl is)
    left (inr is) = inr (as_stored taken way.0.same, is)
