-- A revisit that refers to no capture of what was read stands in no sound book that goes on from it.
use Rattle.std.proofs.Common.{◌≡◌, ℕ, ◌^◌, ◌<◌, ◌≤◌, false, List, length, sym, ap, subst, ◌∙◌, arith}
use Rattle.std.specs.Prelude.{Option, Some, None, slice_get, unwrap_or}
use Rattle.std.proofs.lemmas.Bool.{false≢true}
use Rattle.std.proofs.lemmas.List.Elements.{All-get_or}
use Rattle.std.proofs.lemmas.Option.{get_or_from_slice_get, same_Some, slice_get_within}
use Rattle.capture.specs.BodyLaws.{CapturesHaveOnePayload}
use Rattle.capture.specs.Captures.{HasPayload, IsPayloadBy, IsPayloadOf, KeepsPayload, captures, is_cut, kept_wire, taken_back}
use Rattle.capture.specs.Soundness.{IsSoundBy}
use Rattle.capture.specs.WellFormed.{IsHeadBefore, RespondsTo}
use Rattle.capture.specs.declared.book.Book.{Book}
use Rattle.capture.specs.declared.captured.Kept.{Kept}
use Rattle.capture.specs.declared.captured.Kept.TheVariants.{Wire, Same, Cut}
use Rattle.capture.specs.declared.captured.Stored.{Stored}
use Rattle.warc_scan.proofs.FoundGroups.{group_found, group_is_found, kept_found, revisited_of}
use Rattle.warc_scan.proofs.FoundTexts.{found_writable}
use Rattle.warc_journal.specs.Texts.{with_more}
use Rattle.warc_scan.specs.Groups.{IsAnswer, IsGroup, reference_in}
use Rattle.warc_scan.specs.declared.group.Group.{Group}
use Rattle.warc_text.specs.Books.{RefersBy, same_of}
use Rattle.warc_text.specs.Groups.{HasMessages, SayTheSame}
use Rattle.warc_text.specs.References.{Reference, reference_to}
use Rattle.warc_text.specs.Sound.{IsSound}
use Rattle.warc_text.specs.declared.same_of.SameOf.{SameOf}
use Rattle.warc_text.proofs.EqualLaws.{HasSameParts, same_parts}
use Rattle.warc_text.proofs.PrefixLaws.{groups_tell_their_captures}
use Rattle.archive_gathering.proofs.ReadingLaws.{has_next, HasNext}
use Rattle.archive_gathering.specs.Reading.{IsDeadEnd, IsRead, Laws, ShareGroup}
use Rattle.archive_gathering.specs.Revisits.{IsOriginalOf}

pub one_at : {X : Type 0} (o : Option X) (x y : X) → o ≡ Some x → o ≡ Some y → x ≡ y
one_at o x y e f = ap (λ p. unwrap_or p x) (sym e ∙ f)

-- ---- one text has one group

responds_by : (method head digest : List ℕ) (same : Option Reference) (kept : Kept) → IsAnswer method head digest same kept
    → same ≡ None → RespondsTo (is_cut kept) method head (kept_wire kept)
responds_by method head digest same (Wire wire) is none = is.1.responds
responds_by method head digest same (Same number) is none = absurd (some_is_none is.1.reference (sym is.1.refers ∙ none))
  where
    some_is_none : (r : Reference) → Some r ≡ None → ⊥
    some_is_none r e = cc
responds_by method head digest same (Cut wire) is none = is.1.responds

messages : (namespace : List ℕ) (number : ℕ) (text : List ℕ) (group : Group) → IsGroup namespace number text group
    → HasMessages (taken_back group.stored) (reference_in group.same)
messages namespace number text group is = record {
  request = is.request;
  response = responds_by group.stored.method group.stored.head group.digest (reference_in group.same) group.stored.kept is.answer;
}

module _ (namespace : List ℕ) (number : ℕ) (text : List ℕ) (a b : Group) (is : IsGroup namespace number text a) (is₂ : IsGroup namespace number text b) where
  pub say : SayTheSame (taken_back a.stored) (taken_back b.stored) a.digest b.digest (reference_in a.same) (reference_in b.same)
  say = groups_tell_their_captures namespace number (taken_back a.stored) (taken_back b.stored) a.digest b.digest (reference_in a.same) (reference_in b.same)
      (found_writable namespace number text a is) (found_writable namespace number text b is₂) (sym is.composed ∙ is₂.composed)

  pub parts : HasSameParts (taken_back a.stored) (taken_back b.stored) (reference_in a.same)
  parts = same_parts (taken_back a.stored) (taken_back b.stored) a.digest b.digest (reference_in a.same) (reference_in b.same)
      (messages namespace number text a is) (messages namespace number text b is₂) say

-- ---- what a revisit of a sound book refers to

pub record IsReferred (x : Book) (number : ℕ) (stored : Stored) (payload : List ℕ) (reference : Reference) : Type 0 where
  pub first : ℕ
  pub original : Stored
  pub wire : List ℕ
  pub earlier : first < number
  pub keeps : KeepsPayload x first original wire payload
  pub names : reference ≡ reference_to x.namespace (same_of first original)
  pub head : IsHeadBefore stored.method stored.head payload

pub payload_at : (x : Book) (number : ℕ) (stored : Stored) (wire payload : List ℕ) → KeepsPayload x number stored wire payload → IsPayloadOf x number payload
payload_at x number stored wire payload keeps = record {
  stored = stored;
  placed = keeps.placed;
  by_kept = subst (λ (k : Kept). IsPayloadBy x stored k payload) (sym keeps.kept) keeps.has;
}

none_is_some : {r : Reference} → None ≡ Some r → ⊥
none_is_some e = cc

pub referred_by : CapturesHaveOnePayload → (x : Book) (number : ℕ) (stored : Stored) (payload : List ℕ) (reference : Reference) (kept : Kept) (same : Option SameOf)
    → IsSoundBy x number stored kept → RefersBy x kept same → IsPayloadBy x stored kept payload
    → reference_in (revisited_of x.namespace same) ≡ Some reference → IsReferred x number stored payload reference
referred_by one x number stored payload reference (Wire wire) same sound refers has is =
    absurd (none_is_some (sym (ap (λ (o : Option SameOf). reference_in (revisited_of x.namespace o)) refers) ∙ is))
referred_by one x number stored payload reference (Cut wire) same sound refers has is =
    absurd (none_is_some (sym (ap (λ (o : Option SameOf). reference_in (revisited_of x.namespace o)) refers) ∙ is))
referred_by one x number stored payload reference (Same first) same sound refers has is =
    let original : Stored = has.0 in
    let wire = has.1 in
    let keeps : KeepsPayload x first original wire payload = has.2 in
    let one_original : refers.0 ≡ original = one_at (slice_get (captures x) first) refers.0 original refers.1 keeps.placed in
    let told : Some (reference_to x.namespace (same_of first refers.0)) ≡ Some reference =
    sym (ap (λ (o : Option SameOf). reference_in (revisited_of x.namespace o)) refers.2) ∙ is in
    let payloads : sound.payload ≡ payload =
    one x first sound.payload payload (payload_at x first sound.original sound.wire sound.payload sound.keeps) (payload_at x first original wire payload keeps) in
    record {
      first = first;
      original = original;
      wire = wire;
      earlier = sound.earlier;
      keeps = keeps;
      names = sym (same_Some (reference_to x.namespace (same_of first refers.0)) reference told)
          ∙ ap (λ (o : Stored). reference_to x.namespace (same_of first o)) one_original;
      head = subst (IsHeadBefore stored.method stored.head) payloads sound.head;
    }

-- ---- the same capture of another book

-- a capture of which the group refers to nothing, and isn't cut, keeps its whole wire
pub wire_by : (x : Book) (kept : Kept) (same : Option SameOf) (wire : List ℕ) → RefersBy x kept same → reference_in (revisited_of x.namespace same) ≡ None
    → kept_wire (kept_found kept) ≡ wire → is_cut (kept_found kept) ≡ false → kept ≡ Wire wire
wire_by x (Wire w) same wire refers none wires cut = ap Wire wires
wire_by x (Same first) same wire refers none wires cut =
    absurd (none_is_some (sym none ∙ ap (λ (o : Option SameOf). reference_in (revisited_of x.namespace o)) refers.2))
wire_by x (Cut w) same wire refers none wires cut = absurd (false≢true (sym cut))

-- it refers to nothing
pub refers_to_none : (x : Book) (kept : Kept) (same : Option SameOf) (wire : List ℕ) → kept ≡ Wire wire → RefersBy x kept same → same ≡ None
refers_to_none x (Wire w) same wire e refers = refers
refers_to_none x (Same first) same wire e refers = cc
refers_to_none x (Cut w) same wire e refers = refers

pub record IsAlso (book x : Book) (number : ℕ) (original : Stored) (wire payload : List ℕ) : Type 0 where
  pub mine : Stored
  pub keeps : KeepsPayload book number mine wire payload
  pub same : same_of number mine ≡ same_of number original

pub also : (book x : Book) (number : ℕ) (original : Stored) (wire payload : List ℕ) → IsSound book → IsSound x → book.namespace ≡ x.namespace
    → ShareGroup book x number → KeepsPayload x number original wire payload → IsAlso book x number original wire payload
also book x number original wire payload sound sound_x namespaces share keeps =
    let a : Group = group_found book sound number share.text share.mine share.short in
    let b : Group = group_found x sound_x number share.text share.others share.short in
    let is : IsGroup x.namespace number share.text a = subst (λ (n : List ℕ). IsGroup n number share.text a) namespaces (group_is_found book sound number share.text share.mine share.short) in
    let is₂ : IsGroup x.namespace number share.text b = group_is_found x sound_x number share.text share.others share.short in
    let told = say x.namespace number share.text a b is is₂ in
    let both = parts x.namespace number share.text a b is is₂ in
    let that : share.others.stored ≡ original = one_at (slice_get (captures x) number) share.others.stored original share.others.placed keeps.placed in
    let kept : share.others.stored.kept ≡ Wire wire = ap (λ (s : Stored). s.kept) that ∙ keeps.kept in
    let none : share.others.same ≡ None = refers_to_none x share.others.stored.kept share.others.same wire kept share.others.refers in
    let nothing : reference_in (revisited_of book.namespace share.mine.same) ≡ None =
    told.refers ∙ ap (λ (o : Option SameOf). reference_in (revisited_of x.namespace o)) none in
    let mine : Stored = share.mine.stored in
    let wires : kept_wire (kept_found mine.kept) ≡ wire = both.wire nothing ∙ ap (λ (k : Kept). kept_wire (kept_found k)) kept in
    let cuts : is_cut (kept_found mine.kept) ≡ false = both.cut nothing ∙ ap (λ (k : Kept). is_cut (kept_found k)) kept in
    let method : original.method ≡ mine.method = sym (both.method ∙ ap (λ (s : Stored). s.method) that) in
    let head : original.head ≡ mine.head = sym (both.head ∙ ap (λ (s : Stored). s.head) that) in
    let uri : mine.uri ≡ original.uri = both.uri ∙ ap (λ (s : Stored). s.uri) that in
    let date : mine.date ≡ original.date = both.date ∙ ap (λ (s : Stored). s.date) that in
    record {
      mine = mine;
      keeps = record {
        placed = share.mine.placed;
        kept = wire_by book mine.kept share.mine.same wire share.mine.refers nothing wires cuts;
        has = subst (λ (m : List ℕ). HasPayload false m mine.head wire payload) method
            (subst (λ (h : List ℕ). HasPayload false original.method h wire payload) head keeps.has);
      };
      same = λ i. record { number = number; uri = uri i; date = date i };
    }

-- the capture to which a group refers
pub record HasOriginal (book : Book) (number : ℕ) (group : Group) : Type 0 where
  pub first : ℕ
  pub of : IsOriginalOf book number group first

-- ---- refusals

module _ (laws : Laws) (book : Book) (texts : List (List ℕ)) (known : Option Book) (is : IsRead known book texts) (text : List ℕ) (group : Group) (some : 0 < length texts)
    (of : IsGroup book.namespace (length (captures book)) text group) where
  abbrev number : ℕ
  number = length (captures book)

  -- a group whose request is too long
  pub long_request : 2 ^ 34 ≤ length group.stored.request → IsDeadEnd known (with_more texts text)
  long_request long files fronts x may sound stands =
      let next = has_next laws book texts known is text group some of files x may fronts sound stands in
      let namespaces : book.namespace ≡ x.namespace = next.so_far.begins.namespace_is some in
      let told = say x.namespace number text group (group_found x sound number text next.next of.short)
      (subst (λ (n : List ℕ). IsGroup n number text group) namespaces of) (group_is_found x sound number text next.next of.short) in
      let stored = next.next.stored in
      let P : Stored → Type 0 = λ s. length s.request < 2 ^ 34 in
      let short : P stored = subst P (get_or_from_slice_get (captures x) number stored stored next.next.placed)
      (All-get_or P (captures x) number stored (slice_get_within (captures x) number stored next.next.placed) sound.sound.short_requests) in
      omega (arith, long, short, ap length told.request)

  -- what it refers to in a book that goes on with it
  pub original_by : (reference : Reference) → reference_in group.same ≡ Some reference → (x : Book) → IsSound x → HasNext laws book texts known is x text → HasOriginal book number group
  original_by reference refers x sound next =
      let namespaces : book.namespace ≡ x.namespace = next.so_far.begins.namespace_is some in
      let found : Group = group_found x sound number text next.next of.short in
      let of_x : IsGroup x.namespace number text group = subst (λ (n : List ℕ). IsGroup n number text group) namespaces of in
      let is_x : IsGroup x.namespace number text found = group_is_found x sound number text next.next of.short in
      let told = say x.namespace number text group found of_x is_x in
      let both = parts x.namespace number text group found of_x is_x in
      let stored : Stored = next.next.stored in
      let payload = next.next.payload in
      let referred : IsReferred x number stored payload reference =
      referred_by laws.one_payload x number stored payload reference stored.kept next.next.same
      (sound.sound.each number stored next.next.placed).kept next.next.refers next.next.payload_is (sym told.refers ∙ refers) in
      let mine : IsAlso book x referred.first referred.original referred.wire payload =
      also book x referred.first referred.original referred.wire payload is.sound sound namespaces (next.so_far.shares referred.first referred.earlier) referred.keeps in
      let names : reference ≡ reference_to book.namespace (same_of referred.first mine.mine) =
      referred.names ∙ (λ i. reference_to (sym namespaces i) (sym mine.same i)) in
      record {
        first = referred.first;
        of = record {
          earlier = referred.earlier;
          original = mine.mine;
          wire = referred.wire;
          payload = payload;
          keeps = mine.keeps;
          refers = refers ∙ ap Some names;
          digest = told.payload_digest;
          head = subst (λ (m : List ℕ). IsHeadBefore m group.stored.head payload) (sym both.method)
              (subst (λ (h : List ℕ). IsHeadBefore stored.method h payload) (sym both.head) referred.head);
        };
      }

  -- a revisit that refers to no capture
  pub no_original : (reference : Reference) → reference_in group.same ≡ Some reference → ((first : ℕ) → IsOriginalOf book number group first → ⊥)
      → IsDeadEnd known (with_more texts text)
  no_original reference refers none files fronts x may sound stands =
      let has = original_by reference refers x sound (has_next laws book texts known is text group some of files x may fronts sound stands) in
      none has.first has.of
