-- The capture of a group that was found, as a book takes it.
use Rattle.std.proofs.Common.{◌≡◌, ℕ, ◌+◌, ◌-◌, ◌^◌, ◌<◌, List, [], ◌∷◌, ◌++◌, length, get_or, refl, sym, ap, subst, ◌∙◌, arith, length-append}
use Rattle.std.specs.Prelude.{IsTrue, Option, Some, None, slice_get}
use Rattle.std.proofs.lemmas.List.{length-set}
use Rattle.sha1.specs.Sha1.{sha1}
use Rattle.capture.specs.Captures.{IsPayloadBy, KeepsPayload, captures, is_cut, kept_wire, taken_back}
use Rattle.capture.specs.Soundness.{IsSoundBy, IsSoundCapture}
use Rattle.capture.specs.Target.{is_accepted_uri}
use Rattle.capture.specs.WellFormed.{IsHeadBefore, IsRequestOf}
use Rattle.time_text.specs.Texts.{InRange}
use Rattle.capture.specs.declared.book.Book.{Book}
use Rattle.capture.specs.declared.captured.Kept.{Kept}
use Rattle.capture.specs.declared.captured.Kept.TheVariants.{Wire, Same, Cut}
use Rattle.capture.specs.declared.captured.Stored.{Stored}
use Rattle.warc_journal.specs.Texts.{with_more}
use Rattle.warc_scan.specs.Groups.{IsAnswer, IsGroup, reference_in}
use Rattle.warc_scan.specs.declared.group.Group.{Group}
use Rattle.warc_text.specs.Books.{AreVolumeTexts, IsGroupText, RefersBy, same_of}
use Rattle.warc_text.specs.Records.{group_text}
use Rattle.warc_text.specs.References.{reference_of}
use Rattle.warc_text.specs.declared.same_of.SameOf.{SameOf}
use Rattle.warc_text.proofs.BookLaws.{get_behind}
use Rattle.archive_shelf.proofs.GainingSoundness.{IsTakeable, keeps_later, no_volumes}
use Rattle.archive_shelf.proofs.GainingTexts.{captures_add_their_group}
use Rattle.archive_shelf.proofs.OneWayLaws.{one_text}
use Rattle.archive_shelf.proofs.StoringLaws.{captures_more}
use Rattle.archive_shelf.specs.Storing.{with_capture}
use Rattle.archive_gathering.proofs.FrontLaws.{last_with_more}
use Rattle.archive_gathering.proofs.ReadingLaws.{with_group}
use Rattle.archive_gathering.specs.Reading.{IsRead, Laws}
use Rattle.archive_gathering.specs.Revisits.{IsCaptureOf, IsKeptAs}

-- what a book says of a capture by what it keeps, and how that agrees with its group
pub record AgreesBy (new : Book) (number : ℕ) (group : Group) (stored : Stored) (kept : Kept) : Type 0 where
  pub payload : List ℕ
  pub same : Option SameOf
  pub payload_is : IsPayloadBy new stored kept payload
  pub refers : RefersBy new kept same
  pub digest : group.digest ≡ sha1 payload
  pub reference : reference_in group.same ≡ reference_of new.namespace same
  pub wire : kept_wire group.stored.kept ≡ kept_wire kept
  pub cut : is_cut group.stored.kept ≡ is_cut kept
  pub sound : IsSoundBy new number stored kept

-- the same by what was found
record AgreesAs (new : Book) (number : ℕ) (group : Group) (stored : Stored) (found kept : Kept) : Type 0 where
  payload : List ℕ
  same : Option SameOf
  payload_is : IsPayloadBy new stored kept payload
  refers : RefersBy new kept same
  digest : group.digest ≡ sha1 payload
  reference : reference_in group.same ≡ reference_of new.namespace same
  wire : kept_wire found ≡ kept_wire kept
  cut : is_cut found ≡ is_cut kept
  sound : IsSoundBy new number stored kept

agrees_as : (book new : Book) (added : List Stored) → new.namespace ≡ book.namespace → captures new ≡ captures book ++ added
    → (number : ℕ) (group : Group) (stored : Stored) → stored.method ≡ group.stored.method → stored.head ≡ group.stored.head
    → (found kept : Kept) → IsAnswer stored.method stored.head group.digest (reference_in group.same) found
    → IsKeptAs book number group found kept → AgreesAs new number group stored found kept
agrees_as book new added namespaces gains number group stored method head (Wire wire) kept is kept_as =
    subst (AgreesAs new number group stored (Wire wire)) (sym kept_as) (record {
      payload = is.1.payload;
      same = None;
      payload_is = is.1.has;
      refers = refl;
      digest = is.1.digest_is;
      reference = is.0;
      wire = refl;
      cut = refl;
      sound = is.1.responds;
    })
agrees_as book new added namespaces gains number group stored method head (Cut wire) kept is kept_as =
    subst (AgreesAs new number group stored (Cut wire)) (sym kept_as) (record {
      payload = is.1.payload;
      same = None;
      payload_is = is.1.has;
      refers = refl;
      digest = is.1.digest_is;
      reference = is.0;
      wire = refl;
      cut = refl;
      sound = is.1.responds;
    })
agrees_as book new added namespaces gains number group stored method head (Same unknown) kept is kept_as =
    let first = kept_as.0 in
    let of = kept_as.2 in
    let keeps : KeepsPayload new first of.original of.wire of.payload =
    keeps_later book new added gains first of.original of.wire of.payload of.keeps in
    subst (AgreesAs new number group stored (Same unknown)) (sym kept_as.1) (record {
      payload = of.payload;
      same = Some (same_of first of.original);
      payload_is = (of.original, of.wire, keeps);
      refers = (of.original, keeps.placed, refl);
      digest = of.digest;
      reference = of.refers ∙ ap (λ (n : List ℕ). reference_of n (Some (same_of first of.original))) (sym namespaces);
      wire = refl;
      cut = refl;
      sound = record {
        earlier = of.earlier;
        original = of.original;
        wire = of.wire;
        payload = of.payload;
        keeps = keeps;
        head = subst (λ (m : List ℕ). IsHeadBefore m stored.head of.payload) (sym method)
            (subst (λ (h : List ℕ). IsHeadBefore group.stored.method h of.payload) (sym head) of.head);
      };
    })

module _ (laws : Laws) (book : Book) (texts : List (List ℕ)) (are : AreVolumeTexts book texts) (text : List ℕ) (group : Group) (some : 0 < length texts)
    (of : IsGroup book.namespace (length (captures book)) text group) (stored : Stored) (of_group : IsCaptureOf book (length (captures book)) group stored) where
  abbrev new : Book
  new = with_capture book stored

  abbrev number : ℕ
  number = length (captures book)

  volumes : 0 < length book.volumes
  volumes = omega (arith, some, are.count)

  pub gains : captures new ≡ captures book ++ stored ∷ []
  gains = captures_more book.volumes stored (no_volumes book.volumes volumes)

  pub placed : slice_get (captures new) number ≡ Some stored
  placed = ap (λ (l : List Stored). slice_get l number) gains ∙ get_behind (captures book ++ stored ∷ []) (captures book) stored [] number refl refl

  method : stored.method ≡ group.stored.method
  method = ap (λ (s : Stored). s.method) of_group.others

  head : stored.head ≡ group.stored.head
  head = ap (λ (s : Stored). s.head) of_group.others

  answer : IsAnswer stored.method stored.head group.digest (reference_in group.same) group.stored.kept
  answer = subst (λ (m : List ℕ). IsAnswer m stored.head group.digest (reference_in group.same) group.stored.kept) (sym method)
      (subst (λ (h : List ℕ). IsAnswer group.stored.method h group.digest (reference_in group.same) group.stored.kept) (sym head) of.answer)

  pub agrees : AgreesBy new number group stored stored.kept
  agrees =
      let a = agrees_as book new (stored ∷ []) refl gains number group stored method head group.stored.kept stored.kept answer of_group.kept in
      record {
        payload = a.payload;
        same = a.same;
        payload_is = a.payload_is;
        refers = a.refers;
        digest = a.digest;
        reference = a.reference;
        wire = a.wire;
        cut = a.cut;
        sound = a.sound;
      }

  pub taken : taken_back group.stored ≡ taken_back stored
  taken = λ i. record {
    method = sym method i;
    uri = ap (λ (s : Stored). s.uri) (sym of_group.others) i;
    date = ap (λ (s : Stored). s.date) (sym of_group.others) i;
    request = ap (λ (s : Stored). s.request) (sym of_group.others) i;
    head = sym head i;
    wire = agrees.wire i;
    cut = agrees.cut i;
  }

  pub composed_is : text ≡ group_text book.namespace number (taken_back stored) (sha1 agrees.payload) (reference_of book.namespace agrees.same)
  composed_is = of.composed ∙ (λ i. group_text book.namespace number (taken i) (agrees.digest i) (agrees.reference i))

  -- its text is that of the group
  pub text_is : IsGroupText new number text
  text_is = record {
    stored = stored;
    payload = agrees.payload;
    same = agrees.same;
    placed = placed;
    payload_is = agrees.payload_is;
    refers = agrees.refers;
    composed = composed_is;
  }

  good : IsSoundCapture new number stored
  good = record {
    target = subst (λ (u : List ℕ). IsTrue (is_accepted_uri u)) (sym (ap (λ (s : Stored). s.uri) of_group.others)) of.target;
    request = subst (λ (m : List ℕ). IsRequestOf m stored.request) (sym method)
        (subst (λ (r : List ℕ). IsRequestOf group.stored.method r) (sym (ap (λ (s : Stored). s.request) of_group.others)) of.request);
    kept = agrees.sound;
  }

  -- the book takes it, where it is within the bounds
  pub takeable : length group.stored.request < 2 ^ 34 → number + 1 < 2 ^ 32 - 1
      → length (get_or texts (length texts - 1) []) + length text < 2 ^ 62 → IsTakeable book stored
  takeable request few ends = record {
    date = subst InRange (sym (ap (λ (s : Stored). s.date) of_group.others)) of.date;
    request = omega (arith, request, ap length (ap (λ (s : Stored). s.request) of_group.others));
    few = few;
    some = volumes;
    good = good;
    last = λ k other at volume_text.
        let all = captures_add_their_group laws.sealed_stay laws.last_goes_on book stored texts text volumes are text_is in
        let here : k + 1 ≡ length texts = omega (arith, at, are.count) in
        let one : get_or (with_more texts text) k [] ≡ other =
        one_text laws.one_group new k (get_or (with_more texts text) k []) other
        (all.each k (omega (arith, here, length-set texts (length texts - 1) (get_or texts (length texts - 1) [] ++ text)))) volume_text in
        let last : k ≡ length texts - 1 = omega (arith, here) in
        omega (
          arith,
          ends,
          ap length one,
          ap length (last_with_more texts text k here),
          length-append (get_or texts k []) text,
          ap (λ (j : ℕ). length (get_or texts j [])) last,
        );
  }

  pub read_on : (known : Option Book) → IsRead known book texts → length group.stored.request < 2 ^ 34 → number + 1 < 2 ^ 32 - 1
      → length (get_or texts (length texts - 1) []) + length text < 2 ^ 62 → IsRead known new (with_more texts text)
  read_on known is request few ends = with_group laws book texts known is text group stored some of text_is (takeable request few ends)
