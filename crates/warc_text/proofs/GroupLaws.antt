-- What a sound book says of each of its groups, and that the texts of groups tell the captures.
use Rattle.std.proofs.Common.{◌≡◌, ℕ, ◌^◌, ◌<◌, ◌≤◌, List, [], ◌∷◌, ◌++◌, length, refl, sym, ap, subst, ◌∙◌, inl, inr, arith}
use Rattle.std.specs.Prelude.{Option, Some, None, IfSome, IsTrue, slice_get, slice_index, unwrap_or, true, false, ◌&&◌}
use Rattle.std.proofs.lemmas.Bool.{and_parts, false≢true}
use Rattle.std.proofs.lemmas.List.Elements.{All-cons, All-nil}
use Rattle.std.proofs.lemmas.Option.{slice_get_within}
use Rattle.sha1.specs.Sha1.{sha1}
use Rattle.digest32.specs.Base32.{IsDigest}
use Rattle.capture.specs.Captures.{captures, kept_wire, is_cut, taken_back}
use Rattle.capture.specs.Soundness.{IsSoundBy}
use Rattle.capture.specs.Target.{is_target_byte, is_target_text, begins_with_http, is_plain_authority, authority_of, is_http_target, is_accepted_uri}
use Rattle.capture.specs.WellFormed.{RespondsTo}
use Rattle.capture.specs.declared.book.Book.{Book}
use Rattle.capture.specs.declared.captured.Kept.{Kept}
use Rattle.capture.specs.declared.captured.Kept.TheVariants.{Wire, Same, Cut}
use Rattle.capture.specs.declared.captured.Stored.{Stored}
use Rattle.capture.specs.declared.captured.Taken.{Taken}
use Rattle.warc_text.specs.declared.id.IdKind.TheVariants as ids
use Rattle.warc_text.specs.declared.kind.RecordKind.TheVariants as kinds
use Rattle.warc_text.specs.declared.same_of.SameOf.{SameOf}
use Rattle.warc_text.specs.Ids.{id_of}
use Rattle.warc_text.specs.Records.{group_text, answer_text, response_text, response_opening, revisit_text, revisit_opening, revisit_front}
use Rattle.warc_text.specs.References.{Reference, reference_to, reference_of}
use Rattle.warc_text.specs.Groups.{IsOneLine, IsWritable, IdsDiffer, RefersBelow, HasMessages}
use Rattle.warc_text.specs.Books.{same_of, RefersBy, IsGroupText}
use Rattle.capture.specs.Tails.{IsRest}
use Rattle.warc_text.specs.Sound.{IsSound}
use Rattle.warc_text.specs.StandsFor.{commit_byte, GroupsAreCommitted, GroupsOfBooksTellTheirCaptures}
use Rattle.warc_text.proofs.LengthLaws.{response_group_length, revisit_group_length}
use Rattle.warc_text.proofs.IdLaws.{sha1_length, sha1_small, id_is_uuid}
use Rattle.warc_text.proofs.PrefixLaws.{groups_are_prefix_free, groups_tell_their_captures, references_tell_their_captures}
use Rattle.warc_text.proofs.EqualLaws.{same_parts}
use Rattle.warc_text.proofs.InfoLaws.{BeginsRecord, begins-append, begins-opening, committed}

-- ---- an accepted target is one line

return_is_no_target : is_target_byte 13 ≡ false
return_is_no_target = refl

one_line_target : (target : List ℕ) → is_target_text target ≡ true → IsOneLine target
one_line_target [] is = All-nil (λ byte. byte ≡ 13 → ⊥)
one_line_target (b ∷ target) is =
    let parts = and_parts (is_target_byte b) (is_target_text target) is in
    All-cons (λ byte. byte ≡ 13 → ⊥) b target
    (λ e. false≢true (sym return_is_no_target ∙ ap is_target_byte (sym e) ∙ parts.0)) (one_line_target target parts.1)

accepted_is_one_line : (target : List ℕ) → IsTrue (is_accepted_uri target) → IsOneLine target
accepted_is_one_line target is =
    let http = (and_parts (is_http_target target) _ is).0 in
    one_line_target target (and_parts (is_target_text target) (begins_with_http target) (and_parts (is_target_text target && begins_with_http target) (is_plain_authority (authority_of target)) http).0).0

-- ---- a group of a sound book

-- a group refers to the capture that has the payload, or to none, by what is kept
abbrev pub RefersAs : Kept → Option SameOf → Type 0
RefersAs (Wire wire) same = same ≡ None
RefersAs (Same first) same = (s : SameOf) × (same ≡ Some s) × (s.number ≡ first)
RefersAs (Cut wire) same = same ≡ None

-- the text is the group of the capture, whose messages are whole or cut, and which refers to an earlier one or to none
pub record IsGroupOf (namespace : List ℕ) (number : ℕ) (stored : Stored) (text : List ℕ) : Type 0 where
  pub payload : List ℕ
  pub same : Option SameOf
  pub refers : RefersAs stored.kept same
  pub below : RefersBelow number same
  pub target : IsOneLine stored.uri
  pub refers_to : IfSome same (λ s. IsOneLine s.uri)
  pub messages : HasMessages (taken_back stored) (reference_of namespace same)
  pub composed : text ≡ group_text namespace number (taken_back stored) (sha1 payload) (reference_of namespace same)

-- what a sound book says of a capture, by what it keeps
record FactsBy (namespace : List ℕ) (number : ℕ) (stored : Stored) (kept : Kept) (same : Option SameOf) : Type 0 where
  refers : RefersAs kept same
  below : RefersBelow number same
  refers_to : IfSome same (λ s. IsOneLine s.uri)
  response : reference_of namespace same ≡ None → RespondsTo (is_cut kept) stored.method stored.head (kept_wire kept)

target_at : (book : Book) (number : ℕ) (stored : Stored) → IsSound book → slice_get (captures book) number ≡ Some stored → IsOneLine stored.uri
target_at book number stored sound placed = accepted_is_one_line stored.uri (sound.sound.each number stored placed).target

facts_by : (book : Book) (number : ℕ) (stored : Stored) (kept : Kept) (same : Option SameOf) → IsSound book → IsSoundBy book number stored kept → RefersBy book kept same
    → FactsBy book.namespace number stored kept same
facts_by book number stored (Wire wire) same sound is refers = record {
  refers = refers;
  below = subst (RefersBelow number) (sym refers) tt;
  refers_to = subst (λ (o : Option SameOf). IfSome o (λ s. IsOneLine s.uri)) (sym refers) tt;
  response = λ none. is;
}
facts_by book number stored (Same first) same sound is refers =
    let s = same_of first refers.0 in
    record {
      refers = (s, refers.2, refl);
      below = subst (RefersBelow number) (sym refers.2) is.earlier;
      refers_to = subst (λ (o : Option SameOf). IfSome o (λ s. IsOneLine s.uri)) (sym refers.2) (target_at book first refers.0 sound refers.1);
      response = λ none. absurd (some_is_not_none (reference_to book.namespace s) (sym (ap (reference_of book.namespace) refers.2) ∙ none));
    }
  where
    some_is_not_none : (r : Reference) → Some r ≡ None → ⊥
    some_is_not_none r e = cc
facts_by book number stored (Cut wire) same sound is refers = record {
  refers = refers;
  below = subst (RefersBelow number) (sym refers) tt;
  refers_to = subst (λ (o : Option SameOf). IfSome o (λ s. IsOneLine s.uri)) (sym refers) tt;
  response = λ none. is;
}

one_capture : (o : Option Stored) (x y : Stored) → o ≡ Some x → o ≡ Some y → x ≡ y
one_capture o x y e f = ap (λ (p : Option Stored). unwrap_or p x) (sym e ∙ f)

pub group_of : (book : Book) (number : ℕ) (stored : Stored) (text : List ℕ) → IsSound book → slice_get (captures book) number ≡ Some stored → IsGroupText book number text
    → IsGroupOf book.namespace number stored text
group_of book number stored text sound placed g =
    subst (λ (s : Stored). IsGroupOf book.namespace number s text) (one_capture (slice_get (captures book) number) g.stored stored g.placed placed)
    (let well = sound.sound.each number g.stored g.placed in
    let facts = facts_by book number g.stored g.stored.kept g.same sound well.kept g.refers in
    record {
      payload = g.payload;
      same = g.same;
      refers = facts.refers;
      below = facts.below;
      target = target_at book number g.stored sound g.placed;
      refers_to = facts.refers_to;
      messages = record { request = well.request; response = facts.response };
      composed = g.composed;
    })

digest_is : (payload : List ℕ) → IsDigest (sha1 payload)
digest_is payload = record { length_is = sha1_length payload; bytes = sha1_small payload }

-- a revisit keeps no wire
no_wire : (kept : Kept) (s : SameOf) → RefersAs kept (Some s) → length (kept_wire kept) ≡ 0
no_wire (Wire wire) s refers = cc
no_wire (Same first) s refers = refl
no_wire (Cut wire) s refers = cc

-- the parts of a group are no longer than the group
writable : (namespace : List ℕ) (number : ℕ) (stored : Stored) (payload : List ℕ) (same : Option SameOf) → RefersAs stored.kept same
    → length (group_text namespace number (taken_back stored) (sha1 payload) (reference_of namespace same)) < 2 ^ 62
    → IsOneLine stored.uri → IfSome same (λ s. IsOneLine s.uri) → IsWritable (taken_back stored) (sha1 payload) (reference_of namespace same)
writable namespace number stored payload None refers short target uri =
    let long = response_group_length namespace number (taken_back stored) (sha1 payload) (digest_is payload) in
    record {
      target = target;
      payload_digest = digest_is payload;
      head = omega (arith, long, short);
      wire = omega (arith, long, short);
      request = omega (arith, long, short);
      refers_to = tt;
    }
writable namespace number stored payload (Some s) refers short target uri =
    let long = revisit_group_length namespace number (taken_back stored) (sha1 payload) (reference_to namespace s) (digest_is payload) in
    record {
      target = target;
      payload_digest = digest_is payload;
      head = omega (arith, long, short);
      wire = omega (arith, no_wire stored.kept s refers);
      request = omega (arith, long, short);
      refers_to = record { id = id_is_uuid namespace ids.Response s.number; uri = uri };
    }

pub group_writable : (namespace : List ℕ) (number : ℕ) (stored : Stored) (text : List ℕ) (g : IsGroupOf namespace number stored text) → length text < 2 ^ 62
    → IsWritable (taken_back stored) (sha1 g.payload) (reference_of namespace g.same)
group_writable namespace number stored text g short =
    writable namespace number stored g.payload g.same g.refers (subst (λ (l : List ℕ). length l < 2 ^ 62) g.composed short) g.target g.refers_to

-- ---- two groups

ids_differ_below : (namespace : List ℕ) (count number : ℕ) → number ≤ count → IdsDiffer namespace count → IdsDiffer namespace number
ids_differ_below namespace count number below differ m n lt lt₂ same = differ m n (omega (arith, below, lt)) (omega (arith, below, lt₂)) same

-- captures are kept alike where their groups refer alike, and have one wire where they refer to nothing
record AreAlike (k l : Kept) (s : Option SameOf) : Type 0 where
  wire : s ≡ None → kept_wire k ≡ kept_wire l
  cut : s ≡ None → is_cut k ≡ is_cut l

same_number : (s t : SameOf) → Some s ≡ Some t → s.number ≡ t.number
same_number s t e = ap (λ (o : Option SameOf). (unwrap_or o s).number) e

same_kept : (k l : Kept) (s t : Option SameOf) → s ≡ t → AreAlike k l s → RefersAs k s → RefersAs l t → k ≡ l
same_kept (Wire wire) (Wire body) s t same alike is is₂ = ap Wire (alike.wire is)
same_kept (Cut wire) (Cut body) s t same alike is is₂ = ap Cut (alike.wire is)
same_kept (Same m) (Same n) s t same alike is is₂ =
    ap Same (sym is.2 ∙ same_number is.0 is₂.0 (sym is.1 ∙ same ∙ is₂.1) ∙ is₂.2)
same_kept (Wire wire) (Cut body) s t same alike is is₂ = absurd (false≢true (alike.cut is))
same_kept (Cut wire) (Wire body) s t same alike is is₂ = absurd (false≢true (sym (alike.cut is)))
same_kept (Wire wire) (Same n) s t same alike is is₂ = let e : None ≡ Some is₂.0 = sym is ∙ same ∙ is₂.1 in cc
same_kept (Cut wire) (Same n) s t same alike is is₂ = let e : None ≡ Some is₂.0 = sym is ∙ same ∙ is₂.1 in cc
same_kept (Same m) (Wire body) s t same alike is is₂ = let e : Some is.0 ≡ None = sym is.1 ∙ same ∙ is₂ in cc
same_kept (Same m) (Cut body) s t same alike is is₂ = let e : Some is.0 ≡ None = sym is.1 ∙ same ∙ is₂ in cc

pub group_front : (namespace : List ℕ) (count number : ℕ) (a b : Stored) (g h x y : List ℕ) → IdsDiffer namespace count → number ≤ count
    → IsGroupOf namespace number a g → IsGroupOf namespace number b h → length g < 2 ^ 62 → length h < 2 ^ 62 → g ++ x ≡ h ++ y → (a ≡ b) × (x ≡ y)
group_front namespace count number a b g h x y differ within is is₂ short short₂ same =
    let first = taken_back a in
    let second = taken_back b in
    let s = reference_of namespace is.same in
    let t = reference_of namespace is₂.same in
    let write = group_writable namespace number a g is short in
    let write₂ = group_writable namespace number b h is₂ short₂ in
    let fronts = groups_are_prefix_free namespace number first second (sha1 is.payload) (sha1 is₂.payload) s t x y write write₂
    (ap (λ (l : List ℕ). l ++ x) (sym is.composed) ∙ same ∙ ap (λ (l : List ℕ). l ++ y) is₂.composed) in
    let say = groups_tell_their_captures namespace number first second (sha1 is.payload) (sha1 is₂.payload) s t write write₂ fronts.0 in
    let refers = references_tell_their_captures namespace number is.same is₂.same (ids_differ_below namespace count number within differ) is.below is₂.below say.refers in
    let parts = same_parts first second (sha1 is.payload) (sha1 is₂.payload) s t is.messages is₂.messages say in
    let alike : AreAlike a.kept b.kept is.same = record {
      wire = λ none. parts.wire (ap (reference_of namespace) none);
      cut = λ none. parts.cut (ap (reference_of namespace) none);
    } in
    let kept : a.kept ≡ b.kept = same_kept a.kept b.kept is.same is₂.same refers alike is.refers is₂.refers in
    let one : a ≡ b = λ i. record {
      method = parts.method i;
      uri = parts.uri i;
      date = parts.date i;
      request = parts.request i;
      head = parts.head i;
      kept = kept i;
    } in
    (one, fronts.1)

pub groups_of_books_tell_their_captures : GroupsOfBooksTellTheirCaptures
groups_of_books_tell_their_captures a b number x y g h after other sound sound₂ differ same placed placed₂ is is₂ short short₂ texts =
    let first = group_of a number x g sound placed is in
    let second = subst (λ (n : List ℕ). IsGroupOf n number y h) (sym same) (group_of b number y h sound₂ placed₂ is₂) in
    let within = slice_get_within (captures a) number x placed in
    group_front a.namespace (length (captures a)) number x y g h after other differ (omega (arith, within)) first second short short₂ texts

-- ---- a group's first bytes

begins-answer : (id : List ℕ) (taken : Taken) (digest : List ℕ) (same : Option Reference) → BeginsRecord (answer_text id taken digest same)
unfolding answer_text response_text response_opening revisit_text revisit_opening revisit_front
begins-answer id taken digest None =
    begins-append _ _ (begins-append _ _ (begins-append _ _ (begins-append _ _ (begins-append _ _ (begins-opening kinds.Response id taken.date)))))
begins-answer id taken digest (Some reference) =
    begins-append _ _ (begins-append _ _ (begins-append _ _ (begins-append _ _ (begins-opening kinds.Revisit id taken.date))))

begins-group_text : (namespace : List ℕ) (number : ℕ) (taken : Taken) (digest : List ℕ) (same : Option Reference) → BeginsRecord (group_text namespace number taken digest same)
unfolding group_text
begins-group_text namespace number taken digest same = begins-append _ _ (begins-answer (id_of namespace ids.Response number) taken digest same)

pub groups_are_committed : GroupsAreCommitted
groups_are_committed namespace number taken digest same = committed (group_text namespace number taken digest same) (begins-group_text namespace number taken digest same)

pub begins-group : (namespace : List ℕ) (number : ℕ) (stored : Stored) (text : List ℕ) → IsGroupOf namespace number stored text → BeginsRecord text
begins-group namespace number stored text g =
    subst BeginsRecord (sym g.composed) (begins-group_text namespace number (taken_back stored) (sha1 g.payload) (reference_of namespace g.same))

-- nothing and an unfinished tail begin no record
pub rest_begins_no_record : (text : List ℕ) → IsRest commit_byte text → BeginsRecord text → ⊥
rest_begins_no_record text (inl none) o = let e : [] ≡ 87 ∷ 65 ∷ o.0 = sym none ∙ o.1 in cc
rest_begins_no_record text (inr tail) o =
    elim tail.unfinished [
      | inl other ↦ other (ap (λ (l : List ℕ). slice_index l 0) o.1)
      | inr one ↦ omega (arith, one, ap (λ (l : List ℕ). length l) o.1)
    ]
