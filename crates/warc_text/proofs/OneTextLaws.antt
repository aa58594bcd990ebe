-- Each group of a sound book, and each of its volumes, has one text.
use Rattle.std.proofs.Common.{◌≡◌, ℕ, zero, suc, ◌+◌, ◌<◌, List, [], ◌∷◌, ◌++◌, length, length-append, append_assoc, get_or, take, take_at, refl, sym, ap, subst, ◌∙◌, arith}
use Rattle.std.specs.Prelude.{Option, Some, None, slice_get, slice_index_or}
use Rattle.std.proofs.lemmas.List.{ext_get_or}
use Rattle.std.proofs.lemmas.Option.{same_Some}
use Rattle.sha1.specs.Sha1.{sha1}
use Rattle.capture.specs.Captures.{captures_in, captures, first_number, taken_back, IsPayloadBy, IsPayloadOf}
use Rattle.capture.specs.Soundness.{IsSoundBy}
use Rattle.capture.specs.declared.book.Book.{Book}
use Rattle.capture.specs.declared.book.Volume.{Volume}
use Rattle.capture.specs.declared.captured.Kept.{Kept}
use Rattle.capture.specs.declared.captured.Kept.TheVariants.{Wire, Same, Cut}
use Rattle.capture.specs.declared.captured.Stored.{Stored}
use Rattle.capture.specs.BodyLaws.{BodiesHaveAPayload, CapturesHaveOnePayload, CutWiresHaveAPayload}
use Rattle.capture.proofs.PayloadLaws.{body_has_payload, captures_have_one, cut_has_payload}
use Rattle.warc_text.specs.declared.same_of.SameOf.{SameOf}
use Rattle.warc_text.specs.Records.{info_text, group_text}
use Rattle.warc_text.specs.References.{reference_of}
use Rattle.warc_text.specs.Books.{same_of, RefersBy, IsGroupText, joined, IsVolumeText}
use Rattle.warc_text.specs.Growth.{NumbersHaveOneGroup, SoundVolumesHaveOneText}
use Rattle.warc_text.specs.Sound.{IsSound}
use Rattle.warc_text.proofs.BookLaws.{get_behind, captures_in-append}

-- one element at one place
pub one_at : {X : Type 0} (o : Option X) (x y : X) → o ≡ Some x → o ≡ Some y → x ≡ y
one_at o x y e f = same_Some x y (sym e ∙ f)

-- ---- one text at most

refers_to_one : (book : Book) (kept : Kept) (s t : Option SameOf) → RefersBy book kept s → RefersBy book kept t → s ≡ t
refers_to_one book (Wire wire) s t is is₂ = is ∙ sym is₂
refers_to_one book (Cut wire) s t is is₂ = is ∙ sym is₂
refers_to_one book (Same first) s t is is₂ =
    let originals = one_at (slice_get (captures book) first) is.0 is₂.0 is.1 is₂.1 in
    is.2 ∙ ap (λ (o : Stored). Some (same_of first o)) originals ∙ sym is₂.2

pub one_group : CapturesHaveOnePayload → NumbersHaveOneGroup
one_group one book number text other g h =
    let stored : g.stored ≡ h.stored = one_at (slice_get (captures book) number) g.stored h.stored g.placed h.placed in
    let of : IsPayloadOf book number g.payload = record { stored = g.stored; placed = g.placed; by_kept = g.payload_is } in
    let of₂ : IsPayloadOf book number h.payload = record { stored = h.stored; placed = h.placed; by_kept = h.payload_is } in
    let payload : g.payload ≡ h.payload = one book number g.payload h.payload of of₂ in
    let refers : RefersBy book g.stored.kept h.same = subst (λ (s : Stored). RefersBy book s.kept h.same) (sym stored) h.refers in
    let same : g.same ≡ h.same = refers_to_one book g.stored.kept g.same h.same g.refers refers in
    let composed : (s : Stored) (p : List ℕ) (o : Option SameOf) → List ℕ = λ s p o. group_text book.namespace number (taken_back s) (sha1 p) (reference_of book.namespace o) in
    let texts = g.composed ∙ ap (λ (s : Stored). composed s g.payload g.same) stored ∙ ap (λ (p : List ℕ). composed h.stored p g.same) payload
    ∙ ap (λ (o : Option SameOf). composed h.stored h.payload o) same ∙ sym h.composed in
    record { stored = stored; payload = payload; refers = same; texts = texts }

pub one_volume_text : CapturesHaveOnePayload → (book : Book) (k : ℕ) (text other : List ℕ) → IsVolumeText book k text → IsVolumeText book k other → text ≡ other
one_volume_text one book k text other is is₂ =
    let volume : is.volume ≡ is₂.volume = one_at (slice_get book.volumes k) is.volume is₂.volume is.placed is₂.placed in
    let count : length is.groups ≡ length is₂.groups = is.count ∙ ap (λ (v : Volume). length v.captures) volume ∙ sym is₂.count in
    let groups : is.groups ≡ is₂.groups = ext_get_or [] is.groups is₂.groups count
    (λ j lt. (one_group one book (first_number book k + j) (get_or is.groups j []) (get_or is₂.groups j []) (is.each j lt) (is₂.each j (omega (arith, lt, count)))).texts) in
    is.composed ∙ ap (λ (v : Volume). info_text book.namespace k v.born ++ joined is.groups) volume
    ∙ ap (λ (g : List (List ℕ)). info_text book.namespace k is₂.volume.born ++ joined g) groups ∙ sym is₂.composed

-- ---- a text

-- wires have payloads, and captures have one
pub record HavePayloads : Type 0 where
  pub whole : BodiesHaveAPayload
  pub cut : CutWiresHaveAPayload
  pub one : CapturesHaveOnePayload

-- what the group of a capture is made from, by what it keeps
record PartsBy (book : Book) (stored : Stored) (kept : Kept) : Type 0 where
  payload : List ℕ
  same : Option SameOf
  payload_is : IsPayloadBy book stored kept payload
  refers : RefersBy book kept same

parts_by : HavePayloads → (book : Book) (number : ℕ) (stored : Stored) (kept : Kept) → IsSoundBy book number stored kept → PartsBy book stored kept
parts_by have book number stored (Wire wire) is =
    let payload = have.whole is.framing wire is.whole.body in
    record {
      payload = payload.0;
      same = None;
      payload_is = record { parsed = is.parsed; framing = is.framing; whole = is.head_is.whole; framed = is.whole.framed; wire_is = is.whole.body; decoded = payload.1 };
      refers = refl;
    }
parts_by have book number stored (Same first) is = record {
  payload = is.payload;
  same = Some (same_of first is.original);
  payload_is = (is.original, is.wire, is.keeps);
  refers = (is.original, is.keeps.placed, refl);
}
parts_by have book number stored (Cut wire) is =
    let payload = have.cut is.framing wire is.cut.body in
    record {
      payload = payload.0;
      same = None;
      payload_is = record { parsed = is.parsed; framing = is.framing; whole = is.head_is.whole; framed = is.cut.framed; wire_is = is.cut.body; decoded = payload.1 };
      refers = refl;
    }

-- a text of a group
pub record HasGroup (book : Book) (number : ℕ) : Type 0 where
  pub text : List ℕ
  pub is : IsGroupText book number text

pub has_group : HavePayloads → (book : Book) (number : ℕ) (stored : Stored) → IsSound book → slice_get (captures book) number ≡ Some stored → HasGroup book number
has_group have book number stored sound placed =
    let parts = parts_by have book number stored stored.kept (sound.sound.each number stored placed).kept in
    record {
      text = group_text book.namespace number (taken_back stored) (sha1 parts.payload) (reference_of book.namespace parts.same);
      is = record {
        stored = stored;
        payload = parts.payload;
        same = parts.same;
        placed = placed;
        payload_is = parts.payload_is;
        refers = parts.refers;
        composed = refl;
      };
    }

-- texts of groups, numbered from here on
record HasGroups (book : Book) (n count : ℕ) : Type 0 where
  groups : List (List ℕ)
  count_is : length groups ≡ count
  each : (j : ℕ) → j < length groups → IsGroupText book (n + j) (slice_index_or groups j [])

with_first : (book : Book) (n : ℕ) (groups : List (List ℕ)) → HasGroup book n → ((j : ℕ) → j < length groups → IsGroupText book (suc n + j) (slice_index_or groups j []))
    → HasGroups book n (suc (length groups))
with_first book n groups first others = record { groups = first.text ∷ groups; count_is = refl; each = each }
  where
    each : (j : ℕ) → j < length (first.text ∷ groups) → IsGroupText book (n + j) (slice_index_or (first.text ∷ groups) j [])
    each zero lt = subst (λ m. IsGroupText book m first.text) (omega arith) first.is
    each (suc j) lt = subst (λ m. IsGroupText book m (slice_index_or groups j [])) (omega arith) (others j (omega (arith, lt)))

has_groups : HavePayloads → (book : Book) (n : ℕ) (front cs behind : List Stored) → IsSound book → captures book ≡ front ++ (cs ++ behind) → length front ≡ n → HasGroups book n (length cs)
has_groups have book n front [] behind sound e long = record { groups = []; count_is = refl; each = λ j lt. absurd (omega (arith, lt)) }
has_groups have book n front (c ∷ cs) behind sound e long =
    let next : captures book ≡ (front ++ c ∷ []) ++ (cs ++ behind) = e ∙ sym (append_assoc front (c ∷ []) (cs ++ behind)) in
    let longer : length (front ++ c ∷ []) ≡ suc n = length-append front (c ∷ []) ∙ omega (arith, long) in
    let others = has_groups have book (suc n) (front ++ c ∷ []) cs behind sound next longer in
    let first = has_group have book n c sound (get_behind (captures book) front c (cs ++ behind) n e long) in
    subst (HasGroups book n) (omega (arith, others.count_is)) (with_first book n others.groups first others.each)

-- a list at one of its elements
pub record SplitAt {X : Type 0} (xs : List X) (k : ℕ) : Type 0 where
  pub front : List X
  pub at : X
  pub others : List X
  pub composed : xs ≡ front ++ at ∷ others
  pub long : length front ≡ k

pub split_at : {X : Type 0} (xs : List X) (k : ℕ) → k < length xs → SplitAt xs k
split_at [] k lt = absurd (omega (arith, lt))
split_at (x ∷ xs) zero lt = record { front = []; at = x; others = xs; composed = refl; long = refl }
split_at (x ∷ xs) (suc k) lt =
    let rest = split_at xs k (omega (arith, lt)) in
    record {
      front = x ∷ rest.front;
      at = rest.at;
      others = rest.others;
      composed = ap (λ l. x ∷ l) rest.composed;
      long = ap suc rest.long;
    }

-- the number of a volume's first capture, by the volumes before it
pub first_number-front : (book : Book) (k : ℕ) (s : SplitAt book.volumes k) → first_number book k ≡ length (captures_in s.front)
first_number-front book k s =
    ap (λ (l : List Volume). length (captures_in (take k l))) s.composed
    ∙ ap (λ (l : List Volume). length (captures_in l)) (take_at s.front (s.at ∷ s.others) k s.long)

has_volume_text : HavePayloads → (book : Book) (k : ℕ) → IsSound book → k < length book.volumes → (text : List ℕ) × IsVolumeText book k text
has_volume_text have book k sound within =
    let s = split_at book.volumes k within in
    let v : Volume = s.at in
    let all : captures book ≡ captures_in s.front ++ (v.captures ++ captures_in s.others) = ap captures_in s.composed ∙ captures_in-append s.front (v ∷ s.others) in
    let groups = has_groups have book (first_number book k) (captures_in s.front) v.captures (captures_in s.others) sound all (sym (first_number-front book k s)) in (
      info_text book.namespace k v.born ++ joined groups.groups,
      record {
        volume = v;
        groups = groups.groups;
        placed = get_behind book.volumes s.front v s.others k s.composed s.long;
        count = groups.count_is;
        each = groups.each;
        composed = refl;
      },
    )

pub sound_volumes_have_one_text : HavePayloads → SoundVolumesHaveOneText
sound_volumes_have_one_text have book k sound within =
    let one = has_volume_text have book k sound within in
    record { text = one.0; is = one.1; only = λ other is. one_volume_text have.one book k one.0 other one.1 is }

-- by what the payloads of wires and captures are
pub volumes_have_one_text : SoundVolumesHaveOneText
volumes_have_one_text = sound_volumes_have_one_text (record { whole = body_has_payload; cut = cut_has_payload; one = captures_have_one })
