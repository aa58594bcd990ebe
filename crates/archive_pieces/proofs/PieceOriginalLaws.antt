-- The capture to which the group of a piece refers is found by what was read of those that are kept.
use Rattle.std.proofs.Common.{◌≡◌, ℕ, ◌+◌, ◌<◌, ◌≤◌, ◌^◌, Bool, true, false, IsTrue, List, [], length, get_or, slice_get, Option, Some, None, Result, Ok, Err, refl, sym, ap, subst, ◌∙◌, ⊎_elim, arith}
use Rattle.std.specs.Prelude.{IfOk, IfSome, IsErrAnd, IsFalse, unwrap_or}
use Rattle.std.proofs.lemmas.Bool.{cases_lt, eq-eqb, eqb-true, false≢true}
use Rattle.std.proofs.lemmas.Option.{same_Some, slice_get-get_or, slice_get_within}
use Rattle.sha1.specs.Sha1.{sha1}
use Rattle.httparse.specs.Grammar.{ResponseHead}
use Rattle.capture.specs.Chunks.{CutBody, InLine, IsCutBody}
use Rattle.capture.specs.Captures.{HasPayload, IsPayloadBy, IsPayloadOf, captures, is_cut, kept_wire}
use Rattle.capture.specs.First.{HeadTells, Responses}
use Rattle.capture.specs.Methods.{asks_for_head}
use Rattle.capture.specs.WellFormed.{IsHeadBefore, TellsBody}
use Rattle.capture.specs.declared.book.Book.{Book}
use Rattle.capture.specs.declared.captured.Kept.{Kept}
use Rattle.capture.specs.declared.captured.Kept.TheVariants.{Wire, Same, Cut}
use Rattle.capture.specs.declared.captured.Stored.{Stored}
use Rattle.capture.specs.declared.framing.Framing.{Framing}
use Rattle.capture.specs.declared.framing.Framing.TheVariants as framings
use Rattle.capture.proofs.PayloadLaws.{captures_have_one}
use Rattle.revisit_table.specs.Table.{numbers_of}
use Rattle.warc_text.specs.Books.{IsGroupText, same_of}
use Rattle.warc_text.specs.References.{Reference, reference_to}
use Rattle.warc_text.specs.Sound.{IsSound}
use Rattle.warc_text.specs.declared.same_of.SameOf.{SameOf}
use Rattle.warc_scan.specs.Groups.{HasPayloadLen, IsAnswer, IsGroup, IsRevisit, reference_in}
use Rattle.warc_scan.specs.declared.group.Group.{Group}
use Rattle.warc_scan.specs.declared.group.Revisited.{Revisited}
use Rattle.warc_scan.proofs.FoundGroups.{group_found, group_is_found, kept_found, revisited_of}
use Rattle.archive_shelf.specs.Answers.{CountsIf}
use Rattle.archive_shelf.specs.Comparing.{HasDigestOf, HasRequest, KeepsWire}
use Rattle.archive_gathering.proofs.RevisitLaws as revisits
use Rattle.archive_gathering.specs.Revisits.{IsOriginalOf, RefersToNone}
use Rattle.archive_reading.proofs.BringLaws.{damaged}
use Rattle.archive_payloads.proofs.ChooseLaws.{its_own, may_be, there_is, whole_number}
use Rattle.archive_payloads.specs.Choosing.{IsKeptWith}
use Rattle.archive_reading.proofs.DecodeLaws.{one_framing}
use Rattle.archive_reading.proofs.DigestLaws.{has_own}
use Rattle.archive_volumes.specs.Spots.{AreHeldWhole, ArePlaced, AreSpotsOf, IsPlaced, IsSpotOf, MayBeWholeAt, form_of, is_told_form, may_be_whole, whole_from}
use Rattle.archive_reading.specs.Decoding.{TellsFraming}
use Rattle.archive_reading.specs.KeptGroups.{IsKeptGroup, IsSomeGroup}
use Rattle.archive_reading.specs.Rereading.{IsToldBy, TellsOf}
use Rattle.archive_reading.specs.declared.kept_group.KeptGroup.{KeptGroup}
use Rattle.archive_reading.specs.declared.kept_group.KeptGroup.TheVariants as kept_groups
use Rattle.archive_volumes.specs.declared.spot.Form.{Form}
use Rattle.archive_volumes.specs.declared.spot.Form.TheVariants as forms
use Rattle.archive_volumes.specs.declared.spot.Spot.{Spot}
use Rattle.archive_pieces.specs.PieceFaults.{is_take_fault}
use Rattle.archive_pieces.specs.PieceOriginals.{Agrees, AsksLength, AsksOriginal, ChoosesOriginal, IsFoundOriginal, IsLengthIn, KeepsSoLong, NoneIs, TellsSoLong, agrees_by, whole_len_by}
use Rattle.archive_pieces.specs.declared.fault.PieceFault.{PieceFault}
use Rattle.archive_pieces.specs.declared.fault.PieceFault.TheVariants as pieces

one_at : {X : Type 0} (o : Option X) (x y : X) → o ≡ Some x → o ≡ Some y → x ≡ y
one_at o x y e f = ap (λ p. unwrap_or p x) (sym e ∙ f)

none_is_some : (r : Reference) → None ≡ Some r → ⊥
none_is_some r e = cc

-- ---- a group that tells of its payload

record KeepsOwn (kept : Kept) : Type 0 where
  wire : List ℕ
  is : kept ≡ Wire wire

own_wire : (method head digest : List ℕ) (same : Option Reference) (kept : Kept) → IsAnswer method head digest same kept → same ≡ None → is_cut kept ≡ false
    → KeepsOwn kept
own_wire method head digest same (Wire wire) answer none whole = record { wire = wire; is = refl }
own_wire method head digest same (Same number) answer none whole =
    absurd (none_is_some answer.1.reference (sym none ∙ answer.1.refers))
own_wire method head digest same (Cut wire) answer none whole = absurd (false≢true (sym whole))

none_in : (same : Option Revisited) → reference_in same ≡ None → same ≡ None
none_in None e = refl
none_in (Some r) e = cc

module _ (book : Book) (sound : IsSound book) (number : ℕ) (bytes : List ℕ) (g : IsGroupText book number bytes) (group : Group)
    (is : IsGroup book.namespace number bytes group) where
  abbrev found : Group
  found = group_found book sound number bytes g is.short

  found_is : IsGroup book.namespace number bytes found
  found_is = group_is_found book sound number bytes g is.short

  keeps_long : group.same ≡ None → is_cut group.stored.kept ≡ false → group.payload_len < 2 ^ 64 → KeepsSoLong book number group.payload_len
  keeps_long none whole fits =
      let told = revisits.say book.namespace number bytes group found is found_is in
      let both = revisits.parts book.namespace number bytes group found is found_is in
      let nothing : reference_in group.same ≡ None = ap (λ (o : Option Revisited). reference_in o) none in
      let own : KeepsOwn group.stored.kept
      = own_wire group.stored.method group.stored.head group.digest (reference_in group.same) group.stored.kept is.answer nothing whole in
      let none_there : reference_in (revisited_of book.namespace g.same) ≡ None = sym told.refers ∙ nothing in
      let wires : kept_wire (kept_found g.stored.kept) ≡ own.wire = sym (both.wire nothing) ∙ ap (λ (k : Kept). kept_wire k) own.is in
      let cuts : is_cut (kept_found g.stored.kept) ≡ false = sym (both.cut nothing) ∙ whole in
      let long : HasPayloadLen group.stored.method group.stored.head (Wire own.wire) group.payload_len
      = subst (λ (k : Kept). HasPayloadLen group.stored.method group.stored.head k group.payload_len) own.is is.payload_len in
      record {
        stored = g.stored;
        wire = own.wire;
        payload = long.0;
        keeps = record {
          placed = g.placed;
          kept = revisits.wire_by book g.stored.kept g.same own.wire g.refers none_there wires cuts;
          has = subst (λ (m : List ℕ). HasPayload false m g.stored.head own.wire long.0) both.method
              (subst (λ (h : List ℕ). HasPayload false group.stored.method h own.wire long.0) both.head long.1);
        };
        long = long.2;
        fits = fits;
      }

  keeps_none : KeepsWire book number → (group.same ≡ None) × (is_cut group.stored.kept ≡ false)
  keeps_none keeps =
      let told = revisits.say book.namespace number bytes group found is found_is in
      let both = revisits.parts book.namespace number bytes group found is found_is in
      let that : g.stored ≡ keeps.stored = one_at (slice_get (captures book) number) g.stored keeps.stored g.placed keeps.placed in
      let kept : g.stored.kept ≡ Wire keeps.wire = ap (λ (s : Stored). s.kept) that ∙ keeps.kept in
      let none : g.same ≡ None = revisits.refers_to_none book g.stored.kept g.same keeps.wire kept g.refers in
      let nothing : reference_in group.same ≡ None = told.refers ∙ ap (λ (o : Option SameOf). reference_in (revisited_of book.namespace o)) none in
      (none_in group.same nothing, both.cut nothing ∙ ap (λ (k : Kept). is_cut (kept_found k)) kept)

  by_len : (same : Option Revisited) (cut : Bool) (len : ℕ) (answer : Option ℕ) → same ≡ group.same → cut ≡ is_cut group.stored.kept
      → len ≡ group.payload_len → len < 2 ^ 64 → answer ≡ whole_len_by same cut len → (told : Bool) → AsksLength told book number (Ok answer)
  by_len (Some r) cut len answer same_is cut_is len_is fits e told =
      subst (λ (a : Option ℕ). AsksLength told book number (Ok a)) (sym e) (λ so keeps. apart r (same_is ∙ (keeps_none keeps).0))
    where
      apart : (x : Revisited) → Some x ≡ None → ⊥
      apart x f = cc
  by_len None true len answer same_is cut_is len_is fits e told =
      subst (λ (a : Option ℕ). AsksLength told book number (Ok a)) (sym e)
      (λ so keeps. false≢true (sym (keeps_none keeps).1 ∙ sym cut_is))
  by_len None false len answer same_is cut_is len_is fits e told =
      subst (λ (a : Option ℕ). AsksLength told book number (Ok a)) (sym e)
      (λ so. subst (λ (n : ℕ). KeepsSoLong book number n) (sym len_is)
      (keeps_long (sym same_is) (sym cut_is) (subst (λ (n : ℕ). n < 2 ^ 64) len_is fits)))

-- ---- what asking a capture for it answers

digest_apart : (a b : List ℕ) → Some a ≡ Some b → a ≡ b
digest_apart a b e = cc

module _ (told : Bool) (book : Book) (number : ℕ) (texts : List (List ℕ)) (spot : Spot) (sound : IsTrue told → IsSound book)
    (placed : IsTrue told → IsPlaced texts book number spot) where
  untold_len : (answer : Option ℕ) → (IsTrue told → AsksLength true book number (Ok answer)) → AsksLength told book number (Ok answer)
  untold_len (Some len) by = λ so. by so refl
  untold_len None by = λ so. by so refl

  pub asks_by : (read : KeptGroup) (result : Result (Option ℕ) PieceFault) → IsSomeGroup book.namespace number read
      → (IsTrue told → IsKeptGroup book number read) → IsLengthIn number spot.digest read result → AsksLength told book number result
  asks_by (kept_groups.Right bytes outline) (Ok found) some exact len =
      untold_len found (λ so.
      by_len book (sound so) number bytes (exact so).is some.group some.is outline.same outline.cut outline.payload_len found some.told.same_is some.told.cut_is
      some.told.payload_len_is len.fits len.found_is true)
  asks_by (kept_groups.Right bytes outline) (Err fault) some exact len =
      subst (λ (f : PieceFault). AsksLength told book number (Err f)) (sym len.0) (
        refl,
        damaged told spot.digest (Some outline.digest)
            (λ so.
            let of = exact so in
            let there = placed so in
            len.1 (of.digest
            ∙ ap sha1 (captures_have_one book number of.is.payload there.payload
            (record { stored = of.is.stored; placed = of.is.placed; by_kept = of.is.payload_is }) there.has)
            ∙ sym there.digest))
            (λ e. len.1 (digest_apart outline.digest spot.digest e)),
      )
  asks_by kept_groups.Damaged (Ok found) some exact len = absurd len
  asks_by kept_groups.Damaged (Err fault) some exact len =
      subst (λ (f : PieceFault). AsksLength told book number (Err f)) (sym len)
      (refl, damaged told spot.digest None (λ so. exact so) (λ e. no_digest spot.digest e))
    where
      no_digest : (d : List ℕ) → None ≡ Some d → ⊥
      no_digest d e = cc

-- whatever the disk tells, the group that was read has the digest that is kept, and so long a payload
pub tells_long : (namespace : List ℕ) (number : ℕ) (kept : List ℕ) (read : KeptGroup) (result : Result (Option ℕ) PieceFault)
    → IsSomeGroup namespace number read → IsLengthIn number kept read result → IfOk result (λ found. IfSome found (TellsSoLong namespace number kept))
tells_long namespace number kept (kept_groups.Right bytes outline) (Ok (Some len)) some is =
    record { bytes = bytes; outline = outline; is = some; digest_is = is.digest_is; long = sym is.found_is }
tells_long namespace number kept (kept_groups.Right bytes outline) (Ok None) some is = tt
tells_long namespace number kept (kept_groups.Right bytes outline) (Err fault) some is = tt
tells_long namespace number kept kept_groups.Damaged (Ok _) some is = absurd is
tells_long namespace number kept kept_groups.Damaged (Err fault) some is = tt

-- ---- whether it is the one

-- a length that agrees with the framing is that which the head tells
told_len : (method head : List ℕ) (framing : Option Framing) (len : ℕ) → TellsFraming method head framing → agrees_by framing len ≡ true
    → (other : Framing) → HeadTells (Responses (asks_for_head method)) head (Ok other) → (n : ℕ) → other ≡ framings.Length n → len ≡ n
told_len method head None len tells does other it n is = absurd (false≢true does)
told_len method head (Some f) len tells does other it n is =
    by f does (one_framing (asks_for_head method) head f other tells it ∙ is) where
      by : (f : Framing) → agrees_by (Some f) len ≡ true → f ≡ framings.Length n → len ≡ n
      by framings.Empty does e = cc
      by (framings.Length m) does e = sym (eqb-true m len does) ∙ same m e where
        same : (m : ℕ) → framings.Length m ≡ framings.Length n → m ≡ n
        same m e = cc
      by framings.Chunked does e = cc
      by framings.ToEnd does e = cc

-- the beginning of a chunked body, of which nothing has come
abbrev nothing_come : CutBody
nothing_come = record { chunks = []; begun = InLine [] }

is_nothing : IsCutBody nothing_come
is_nothing = record { chunks = λ k d less. absurd (omega (arith, less)); begun = λ k d less. absurd (omega (arith, less)) }

-- behind the head of a payload that is left out a body may stand
body_behind : (method head payload : List ℕ) (parsed : ResponseHead) (f : Framing) → TellsBody method head parsed f
    → ((n : ℕ) → f ≡ framings.Length n → length payload ≡ n) → length payload < 2 ^ 64 → TellsFraming method head None → ⊥
body_behind method head payload parsed framings.Empty tells told fits none = tells.some refl
body_behind method head payload parsed (framings.Length n) tells told fits none =
    none false payload payload fits (record {
      parsed = parsed;
      framing = framings.Length n;
      whole = tells.head_is.whole;
      framed = tells.framed;
      wire_is = told n refl;
      decoded = refl;
    })
body_behind method head payload parsed framings.Chunked tells told fits none =
    none true [] [] (omega arith) (record {
      parsed = parsed;
      framing = framings.Chunked;
      whole = tells.head_is.whole;
      framed = tells.framed;
      wire_is = (nothing_come, is_nothing, record { lines = λ k d less. absurd (omega (arith, less)); begun = omega arith; fits = omega arith }, refl);
      decoded = (nothing_come, is_nothing, refl, refl);
    })
body_behind method head payload parsed framings.ToEnd tells told fits none =
    none false [] [] (omega arith) (record {
      parsed = parsed;
      framing = framings.ToEnd;
      whole = tells.head_is.whole;
      framed = tells.framed;
      wire_is = tt;
      decoded = refl;
    })

-- with its length agrees the framing that the head tells
before_agrees : (method head payload : List ℕ) → IsHeadBefore method head payload → (len : ℕ) → len ≡ length payload → len < 2 ^ 64
    → (framing : Option Framing) → TellsFraming method head framing → agrees_by framing len ≡ true
before_agrees method head payload before len long fits None tells =
    absurd (body_behind method head payload before.parsed before.framing before.tells before.told (omega (arith, long, fits)) tells)
before_agrees method head payload before len long fits (Some f) tells =
    by f (one_framing (asks_for_head method) head f before.framing tells (before.parsed, before.tells.head_is.whole, before.tells.framed)) where
      by : (g : Framing) → g ≡ before.framing → agrees_by (Some g) len ≡ true
      by framings.Empty e = refl
      by (framings.Length m) e = eq-eqb m len (omega (arith, before.told m (sym e), long))
      by framings.Chunked e = refl
      by framings.ToEnd e = refl

as_revisit : (method head digest : List ℕ) (same : Option Reference) (kept : Kept) → IsAnswer method head digest same kept → (r : Reference) → same ≡ Some r
    → IsRevisit method head digest same
as_revisit method head digest same (Wire wire) is r e = absurd (none_is_some r (sym is.0 ∙ e))
as_revisit method head digest same (Same number) is r e = is.1
as_revisit method head digest same (Cut wire) is r e = absurd (none_is_some r (sym is.0 ∙ e))

abbrev as_reference : Revisited → Reference
as_reference r = record { id = r.id; uri = r.uri; date = r.date }

module _ (book : Book) (text : List ℕ) (group : Group) (is : IsGroup book.namespace (length (captures book)) text group) (same : Revisited)
    (refers : group.same ≡ Some same) (number : ℕ) (spots : List Spot) (spot : Spot) (at : slice_get spots number ≡ Some spot)
    (are : AreSpotsOf book spots) where
  abbrev its : IsSpotOf book number spot
  its = are.each number spot at

  referring : reference_in group.same ≡ Some (as_reference same)
  referring = ap (λ (o : Option Revisited). reference_in o) refers

  revisit : IsRevisit group.stored.method group.stored.head group.digest (reference_in group.same)
  revisit = as_revisit group.stored.method group.stored.head group.digest (reference_in group.same) group.stored.kept is.answer (as_reference same) referring

  -- one that is named, and of which the length agrees
  pub named_is_original : (texts : List (List ℕ)) → IsPlaced texts book number spot → spot.digest ≡ group.digest → IsToldBy book.namespace same number spot
      → (len : ℕ) → KeepsSoLong book number len → Agrees group.stored.method group.stored.head len true
      → IsOriginalOf book (length (captures book)) group number
  named_is_original texts placed digest named len k agrees =
      let stored_is : its.stored ≡ k.stored = one_at (slice_get (captures book) number) its.stored k.stored its.placed k.keeps.placed in
      let uri : k.stored.uri ≡ same.uri = sym (its.uri ∙ ap (λ (s : Stored). s.uri) stored_is) ∙ named.uri in
      let date : k.stored.date ≡ same.date = sym (its.date ∙ ap (λ (s : Stored). s.date) stored_is) ∙ named.date in
      let its_payload : IsPayloadOf book number k.payload = record {
        stored = k.stored;
        placed = k.keeps.placed;
        by_kept = subst (λ (kept : Kept). IsPayloadBy book k.stored kept k.payload) (sym k.keeps.kept) k.keeps.has;
      } in
      record {
        earlier = slice_get_within (captures book) number k.stored k.keeps.placed;
        original = k.stored;
        wire = k.wire;
        payload = k.payload;
        keeps = k.keeps;
        refers = referring ∙ (λ i. Some (record { id = sym named.id i; uri = sym uri i; date = sym date i }));
        digest = sym digest ∙ placed.digest ∙ ap sha1 (captures_have_one book number placed.payload k.payload placed.has its_payload);
        head = record {
          parsed = revisit.parsed;
          framing = revisit.framing;
          tells = revisit.tells;
          told = λ n e. sym k.long
              ∙ told_len group.stored.method group.stored.head agrees.framing len agrees.tells (sym agrees.is) revisit.framing
              (revisit.parsed, revisit.tells.head_is.whole, revisit.tells.framed) n e;
        };
      }

  -- the one that it refers to is named
  pub original_named : IsOriginalOf book (length (captures book)) group number → IsToldBy book.namespace same number spot
  original_named of =
      let stored_is : its.stored ≡ of.original = one_at (slice_get (captures book) number) its.stored of.original its.placed of.keeps.placed in
      let reference : reference_to book.namespace (same_of number of.original) ≡ as_reference same
      = same_Some (reference_to book.namespace (same_of number of.original)) (as_reference same) (sym of.refers ∙ referring) in
      record {
        date = its.date ∙ ap (λ (s : Stored). s.date) stored_is ∙ ap (λ (r : Reference). r.date) reference;
        uri = its.uri ∙ ap (λ (s : Stored). s.uri) stored_is ∙ ap (λ (r : Reference). r.uri) reference;
        id = ap (λ (r : Reference). r.id) reference;
      }

  -- and the length agrees
  original_agrees : IsOriginalOf book (length (captures book)) group number → (len : ℕ) → KeepsSoLong book number len
      → Agrees group.stored.method group.stored.head len false → ⊥
  original_agrees of len k agrees =
      let mine : IsPayloadOf book number k.payload = record {
        stored = k.stored;
        placed = k.keeps.placed;
        by_kept = subst (λ (kept : Kept). IsPayloadBy book k.stored kept k.payload) (sym k.keeps.kept) k.keeps.has;
      } in
      let other : IsPayloadOf book number of.payload = record {
        stored = of.original;
        placed = of.keeps.placed;
        by_kept = subst (λ (kept : Kept). IsPayloadBy book of.original kept of.payload) (sym of.keeps.kept) of.keeps.has;
      } in
      let long : len ≡ length of.payload = k.long ∙ ap (λ (l : List ℕ). length l) (captures_have_one book number k.payload of.payload mine other) in
      false≢true (agrees.is ∙ before_agrees group.stored.method group.stored.head of.payload of.head len long k.fits agrees.framing agrees.tells)

  -- the group's record tells of it, whatever is told of the book
  tells_of : IsToldBy book.namespace same number spot → IfSome group.same (TellsOf book number)
  tells_of named =
      let tells : TellsOf book number same = record {
        original = its.stored;
        placed = its.placed;
        id_is = sym named.id;
        uri_is = sym named.uri ∙ its.uri;
        date_is = sym named.date ∙ its.date;
      } in
      subst (λ (o : Option Revisited). IfSome o (TellsOf book number)) (sym refers) tells

  pub answers_by : (told : Bool) (texts : List (List ℕ)) → (IsTrue told → IsPlaced texts book number spot) → spot.digest ≡ group.digest
      → IsToldBy book.namespace same number spot → (len : ℕ) → (IsTrue told → KeepsSoLong book number len) → TellsSoLong book.namespace number spot.digest len
      → (does : Bool) → Agrees group.stored.method group.stored.head len does → AsksOriginal told book group number (Ok does)
  answers_by told texts placed digest named len keeps tells true agrees = (
    record {
      tells = tells_of named;
      len = len;
      read = subst (λ (d : List ℕ). TellsSoLong book.namespace number d len) digest tells;
      agrees = agrees;
    },
    λ so. named_is_original texts (placed so) digest named len (keeps so) agrees,
  )
  answers_by told texts placed digest named len keeps tells false agrees = λ so of. original_agrees of len (keeps so) agrees

pub original_keeps : (book : Book) (number : ℕ) (group : Group) (first : ℕ) → IsOriginalOf book number group first → KeepsWire book first
original_keeps book number group first of = record { stored = of.original; wire = of.wire; placed = of.keeps.placed; kept = of.keeps.kept }

-- ---- of all candidates

whole_kept : (book : Book) (number : ℕ) (stored : Stored) → slice_get (captures book) number ≡ Some stored → (kept : Kept) → stored.kept ≡ kept
    → may_be_whole (form_of kept) ≡ true → KeepsWire book number
whole_kept book number stored placed (Wire wire) e whole = record { stored = stored; wire = wire; placed = placed; kept = e }
whole_kept book number stored placed (Same first) e whole = absurd (false≢true whole)
whole_kept book number stored placed (Cut wire) e whole = absurd (false≢true whole)

keeps_untold : (book : Book) (spots : List Spot) (number : ℕ) (spot : Spot) → slice_get spots number ≡ Some spot → IsSpotOf book number spot
    → AreHeldWhole book spots → (form : Form) → spot.form ≡ form → may_be_whole form ≡ true → KeepsWire book number
keeps_untold book spots number spot at of held forms.Whole e whole =
    let read : forms.Whole ≡ form_of of.stored.kept = sym e ∙ of.form (ap (λ (f : Form). is_told_form f) e) in
    whole_kept book number of.stored of.placed of.stored.kept refl (sym (ap (λ (f : Form). may_be_whole f) read))
keeps_untold book spots number spot at of held (forms.Same first) e whole = absurd (false≢true whole)
keeps_untold book spots number spot at of held forms.Cut e whole = absurd (false≢true whole)
keeps_untold book spots number spot at of held (forms.Told true) e whole = absurd (false≢true whole)
keeps_untold book spots number spot at of held (forms.Told false) e whole = held.each number spot at e

-- the digest that is kept of it is its own, where the book has its request
digest_untold : (book : Book) (spots : List Spot) (digest : List ℕ) (number : ℕ) → AreSpotsOf book spots → MayBeWholeAt spots number
    → IsKeptWith spots digest number → HasRequest book number → HasDigestOf book number digest
digest_untold book spots digest number are whole kept asked =
    let spot : Spot = whole.spot in
    let at : spot ≡ get_or spots number spot
    = same_Some spot (get_or spots number spot) (sym whole.placed ∙ slice_get-get_or spots number spot (slice_get_within spots number spot whole.placed)) in
    subst (λ (d : List ℕ). HasDigestOf book number d) (kept spot whole.placed)
    (has_own book number spot (are.each number spot whole.placed) (its_own book spots are number whole spot at) asked)

pub found_by : (told : Bool) (book : Book) (spots : List Spot) (group : Group) (number : ℕ) → AreSpotsOf book spots → (IsFalse told → AreHeldWhole book spots)
    → MayBeWholeAt spots number → IsKeptWith spots group.digest number → AsksOriginal told book group number (Ok true) → IsFoundOriginal told book group number
found_by true book spots group number are held whole kept asks = record {
  named = asks.0;
  keeps = original_keeps book (length (captures book)) group number (asks.1 refl);
  by_digest = digest_untold book spots group.digest number are whole kept;
  is = asks.1;
}
found_by false book spots group number are held whole kept asks = record {
  named = asks.0;
  keeps = keeps_untold book spots number whole.spot whole.placed (are.each number whole.spot whole.placed) (held refl) whole.spot.form refl whole.whole;
  by_digest = digest_untold book spots group.digest number are whole kept;
  is = asks.1;
}

-- one more isn't it
pub none_more : (book : Book) (group : Group) (candidates : List ℕ) (index : ℕ) → NoneIs book group candidates index
    → (IsOriginalOf book (length (captures book)) group (get_or candidates index 0) → ⊥) → NoneIs book group candidates (index + 1)
none_more book group candidates index none here k less of =
    ⊎_elim (λ (before : k < index). none k before of)
    (λ (behind : index ≤ k). here (subst (λ (n : ℕ). IsOriginalOf book (length (captures book)) group (get_or candidates n 0)) (same k index less behind) of))
    (cases_lt k index) where
      same : (k index : ℕ) → k < index + 1 → index ≤ k → k ≡ index
      same k index less behind = omega (arith, less, behind)

-- no capture is it, since it would be a candidate
pub none_at_all : (book : Book) (spots : List Spot) (texts : List (List ℕ)) (group : Group) (same : Revisited) (candidates : List ℕ) → group.same ≡ Some same
    → AreSpotsOf book spots → ArePlaced texts book spots → candidates ≡ numbers_of group.digest (whole_from 0 spots)
    → NoneIs book group candidates (length candidates) → RefersToNone book group
none_at_all book spots texts group same candidates refers are placed is none = record {
  some = λ e. some_apart same (sym e ∙ refers);
  none = λ first of.
      let there = there_is spots first (omega (arith, of.earlier, are.count)) in
      let spot : Spot = there.0 in
      let its : IsSpotOf book first spot = are.each first spot there.1 in
      let place : IsPlaced texts book first spot = placed.each first spot there.1 in
      let stored_is : its.stored ≡ of.original = one_at (slice_get (captures book) first) its.stored of.original its.placed of.keeps.placed in
      let whole : may_be_whole spot.form ≡ true
      = may_be spot.form its.stored.kept its.form its.revisit of.wire (ap (λ (s : Stored). s.kept) stored_is ∙ of.keeps.kept) in
      let other : IsPayloadOf book first of.payload = record {
        stored = of.original;
        placed = of.keeps.placed;
        by_kept = subst (λ (kept : Kept). IsPayloadBy book of.original kept of.payload) (sym of.keeps.kept) of.keeps.has;
      } in
      let digest : spot.digest ≡ group.digest
      = place.digest ∙ ap sha1 (captures_have_one book first place.payload of.payload place.has other) ∙ sym of.digest in
      let stands = whole_number group.digest 0 spots first spot there.1 whole digest in
      let there_is_it : 0 + first ≡ get_or candidates stands.place 0 = stands.is ∙ ap (λ (l : List ℕ). get_or l stands.place 0) (sym is) in
      let number : first ≡ get_or candidates stands.place 0 = omega (arith, there_is_it) in
      none stands.place (subst (λ (l : List ℕ). stands.place < length l) (sym is) stands.within)
      (subst (λ (n : ℕ). IsOriginalOf book (length (captures book)) group n) number of);
} where
  some_apart : (r : Revisited) → None ≡ Some r → ⊥
  some_apart r e = cc

-- a fault that was met at a candidate
pub fault_exit : (told : Bool) (book mid : Book) (group : Group) (candidates : List ℕ) (number : ℕ) → mid ≡ book → number < length (captures book)
    → (fault : PieceFault) (answer : Result (Option ℕ) PieceFault) → IsErrAnd answer (λ other. other ≡ fault)
    → AsksOriginal told mid group number (Err fault) → ChoosesOriginal told book group candidates answer
fault_exit told book mid group candidates number same below fault (Ok found) is asks = absurd is
fault_exit told book mid group candidates number same below fault (Err other) is asks =
    subst (λ (f : PieceFault). ChoosesOriginal told book group candidates (Err f)) (sym is) (by fault asks) where
      by : (f : PieceFault) → AsksOriginal told mid group number (Err f) → ChoosesOriginal told book group candidates (Err f)
      by (pieces.Full count limit) a = absurd a
      by pieces.NotAPiece a = absurd a
      by pieces.DiskFault a = tt
      by (pieces.Damaged at kept found) a = (omega (arith, a.0, below), a.1)
      by pieces.Memory a = tt

-- so is its answer, and the disk's count of faults rises by it alone
abbrev failed : (T : Type 0) → PieceFault → Result T PieceFault
failed T fault = Err fault

pub same_faults : (S T : Type 0) (fault : PieceFault) (answer : Result T PieceFault) (first mid now : ℕ) → IsErrAnd answer (λ other. other ≡ fault)
    → mid ≡ first → CountsIf (is_take_fault (failed S fault)) mid now → CountsIf (is_take_fault answer) first now
same_faults S T fault (Ok value) first mid now is same counts = absurd is
same_faults S T fault (Err other) first mid now is same counts =
    subst (λ (f : PieceFault). CountsIf (is_take_fault (failed T f)) first now) (sym is)
    (subst (λ (n : ℕ). CountsIf (is_take_fault (failed T fault)) n now) same (by fault counts)) where
      by : (f : PieceFault) → CountsIf (is_take_fault (failed S f)) mid now → CountsIf (is_take_fault (failed T f)) mid now
      by (pieces.Full count limit) c = c
      by pieces.NotAPiece c = c
      by pieces.DiskFault c = c
      by (pieces.Damaged at kept _) c = c
      by pieces.Memory c = c

-- the fault that was met at one capture
pub asks_exit : (told : Bool) (book : Book) (group : Group) (number : ℕ) (fault : PieceFault) (answer : Result Bool PieceFault)
    → IsErrAnd answer (λ other. other ≡ fault) → AsksLength told book number (Err fault) → AsksOriginal told book group number answer
asks_exit told book group number fault (Ok does) is asks = absurd is
asks_exit told book group number fault (Err other) is asks =
    subst (λ (f : PieceFault). AsksOriginal told book group number (Err f)) (sym is) (by fault asks) where
      by : (f : PieceFault) → AsksLength told book number (Err f) → AsksOriginal told book group number (Err f)
      by (pieces.Full count limit) a = a
      by pieces.NotAPiece a = a
      by pieces.DiskFault a = a
      by (pieces.Damaged at kept _) a = a
      by pieces.Memory a = a
