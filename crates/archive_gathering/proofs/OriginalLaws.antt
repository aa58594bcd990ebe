-- A capture that meets what a revisit tells is the one that it refers to, and the one that it refers to meets it.
use Rattle.std.proofs.Common.{◌≡◌, ◌≢◌, ℕ, zero, suc, ◌+◌, ◌^◌, ◌<◌, ◌≤◌, true, List, [], ◌∷◌, length, Ok, refl, sym, ap, subst, ◌∙◌, ⊎_elim, arith}
use Rattle.std.specs.Prelude.{Contains, IfNone, false, not, Option, Some, None, Result, slice_get, slice_index_or, unwrap_or}
use Rattle.std.proofs.lemmas.Bool.{cases_lt, false≢true}
use Rattle.std.proofs.lemmas.List.Elements.{Contains-get_or}
use Rattle.std.proofs.lemmas.Option.{same_Some, slice_get_within}
use Rattle.httparse.specs.Grammar.{ResponseHead}
use Rattle.sha1.specs.Sha1.{sha1}
use Rattle.capture.specs.BodyLaws.{CapturesHaveOnePayload}
use Rattle.capture.specs.Captures.{IsPayloadBy, KeepsPayload, captures}
use Rattle.capture.specs.Framing.{response_framing}
use Rattle.capture.specs.Message.{IsResponseHeadText}
use Rattle.capture.specs.Methods.{asks_for_head}
use Rattle.capture.specs.declared.book.Book.{Book}
use Rattle.capture.specs.declared.captured.Kept.{Kept}
use Rattle.capture.specs.declared.captured.Kept.TheVariants.{Wire, Same, Cut}
use Rattle.capture.specs.declared.captured.Stored.{Stored}
use Rattle.capture.specs.declared.framing.Framing.{Framing}
use Rattle.capture.specs.declared.framing.Framing.TheVariants.{Length}
use Rattle.capture.specs.declared.framing.FramingFault.{FramingFault}
use Rattle.index_entry.specs.Facts.{Facts}
use Rattle.revisit_table.specs.Table.{numbers_of}
use Rattle.warc_scan.specs.Groups.{IsAnswer, IsRevisit, reference_in}
use Rattle.warc_scan.specs.declared.group.Group.{Group}
use Rattle.warc_scan.specs.declared.group.Revisited.{Revisited}
use Rattle.warc_text.specs.Books.{same_of}
use Rattle.warc_text.specs.References.{Reference, reference_to}
use Rattle.archive_gathering.proofs.CandidateLaws.{from_numbers, to_numbers}
use Rattle.archive_gathering.proofs.MeasuringLaws.{one_head}
use Rattle.archive_gathering.proofs.KnownLaws.{read_at}
use Rattle.archive_gathering.specs.Gathering.{AreAllRead, GroupWasRead, TellsOf}
use Rattle.archive_gathering.specs.Measuring.{Agrees, TellsLength}
use Rattle.archive_gathering.specs.Originals.{IsMatch, IsMet}
use Rattle.archive_gathering.specs.Revisits.{HasItsOriginal, IsOriginalOf, MayRefer}
use Rattle.archive_volumes.specs.Spots.{IsPlaced, IsSpotOf, MayBeWholeAt, form_of, is_same_form, is_told_form, may_be_whole, whole_from}
use Rattle.archive_volumes.specs.declared.spot.Form.{Form}
use Rattle.archive_volumes.specs.declared.spot.Form.TheVariants as forms
use Rattle.archive_gathering.specs.declared.measuring.Told.{Told}
use Rattle.archive_gathering.specs.declared.measuring.Told.TheVariants.{Any, Exactly, TooMany}
use Rattle.archive_volumes.specs.declared.spot.Spot.{Spot}

one_at : {X : Type 0} (o : Option X) (x y : X) → o ≡ Some x → o ≡ Some y → x ≡ y
one_at o x y e f = ap (λ p. unwrap_or p x) (sym e ∙ f)

-- what keeps its whole wire
record KeepsWhole (kept : Kept) : Type 0 where
  wire : List ℕ
  is : kept ≡ Wire wire

whole_by : (kept : Kept) → may_be_whole (form_of kept) ≡ true → KeepsWhole kept
whole_by (Wire wire) e = record { wire = wire; is = refl }
whole_by (Same first) e = absurd (false≢true e)
whole_by (Cut wire) e = absurd (false≢true e)

-- what is kept of it may keep its whole wire
whole_as : (form : Form) (kept : Kept) (wire : List ℕ) → (is_told_form form ≡ false → form ≡ form_of kept) → is_same_form form ≡ is_same_form (form_of kept)
    → kept ≡ Wire wire → may_be_whole form ≡ true
whole_as (forms.Told revisit) kept wire form same is = ap not (same ∙ ap (λ (k : Kept). is_same_form (form_of k)) is)
whole_as forms.Whole kept wire form same is = refl
whole_as (forms.Same first) kept wire form same is = ap may_be_whole (form refl ∙ ap form_of is)
whole_as forms.Cut kept wire form same is = ap may_be_whole (form refl ∙ ap form_of is)

-- a group that refers to a record is a revisit
pub revisit_by : (method head digest : List ℕ) (same : Option Reference) (r : Reference) (kept : Kept) → same ≡ Some r → IsAnswer method head digest same kept
    → IsRevisit method head digest same
revisit_by method head digest same r (Wire wire) e is = absurd (apart r (sym is.0 ∙ e))
  where
    apart : (x : Reference) → None ≡ Some x → ⊥
    apart x f = cc
revisit_by method head digest same r (Same number) e is = is.1
revisit_by method head digest same r (Cut wire) e is = absurd (apart r (sym is.0 ∙ e))
  where
    apart : (x : Reference) → None ≡ Some x → ⊥
    apart x f = cc

-- the candidates are captures that are kept
pub candidates_within : (spots : List Spot) (digest : List ℕ) (candidates : List ℕ) → candidates ≡ numbers_of digest (whole_from 0 spots)
    → (k : ℕ) → k < length candidates → slice_index_or candidates k 0 < length spots
candidates_within spots digest candidates is k less =
    let one = from_numbers 0 spots digest (slice_index_or candidates k 0)
    (subst (λ (l : List ℕ). Contains l (slice_index_or candidates k 0)) is (Contains-get_or candidates k 0 less)) in
    omega (arith, one.number_is, slice_get_within spots one.place one.spot one.at)

pub some_record : (same : Option Revisited) (r : Revisited) → same ≡ Some r → same ≢ None
some_record same r is none = apart r (sym none ∙ is)
  where
    apart : (x : Revisited) → None ≡ Some x → ⊥
    apart x e = cc

-- each of which keeps its whole wire, or may do so
pub met_is_whole : (spots : List Spot) (digest : List ℕ) (candidates : List ℕ) → candidates ≡ numbers_of digest (whole_from 0 spots)
    → (number : ℕ) → Contains candidates number → MayBeWholeAt spots number
met_is_whole spots digest candidates is number has =
    let one = from_numbers 0 spots digest number (subst (λ (l : List ℕ). Contains l number) is has) in
    let at : one.place ≡ number = omega (arith, one.number_is) in
    record { spot = one.spot; placed = subst (λ (n : ℕ). slice_get spots n ≡ Some one.spot) at one.at; whole = one.whole }

-- ---- the first one

-- what stands within a list is the same whatever would stand behind it
same_default : (xs : List ℕ) (k d e : ℕ) → k < length xs → slice_index_or xs k d ≡ slice_index_or xs k e
same_default [] k d e less = absurd (omega (arith, less))
same_default (x ∷ xs) zero d e less = refl
same_default (x ∷ xs) (suc k) d e less = same_default xs k d e (omega (arith, less))

module _ (namespace : List ℕ) (same : Revisited) (told : Told) (candidates : List ℕ) (spots : List Spot) (lengths : List ℕ) (at : ℕ)
    (none : (k : ℕ) → k < at → IsMet namespace same told candidates spots lengths (slice_index_or candidates k 0) → ⊥) where
  -- the next candidate isn't the one either
  pub none_further : (spot : Spot) → slice_get spots (slice_index_or candidates at 0) ≡ Some spot
      → (IsMatch namespace same told (slice_index_or candidates at 0) spot (slice_index_or lengths (slice_index_or candidates at 0) 0) → ⊥)
      → (k : ℕ) → k < at + 1 → IsMet namespace same told candidates spots lengths (slice_index_or candidates k 0) → ⊥
  none_further spot placed missed k less met =
      ⊎_elim (λ (before : k < at). none k before met)
      (λ (behind : at ≤ k).
      let number : ℕ = slice_index_or candidates at 0 in
      let here : IsMet namespace same told candidates spots lengths number =
      subst (λ (n : ℕ). IsMet namespace same told candidates spots lengths (slice_index_or candidates n 0)) (last k less behind) met in
      missed (subst (λ (s : Spot). IsMatch namespace same told number s (slice_index_or lengths number 0))
      (one_at (slice_get spots number) here.spot spot here.kept placed) here.matches))
      (cases_lt k at) where
        last : (j : ℕ) → j < at + 1 → at ≤ j → j ≡ at
        last j less behind = omega (arith, less, behind)

  -- nor any behind the last one
  pub none_at_all : length candidates ≤ at → (number : ℕ) → IsMet namespace same told candidates spots lengths number → ⊥
  none_at_all all number met =
      none met.one.0 (omega (arith, met.one.1, all))
      (subst (λ (n : ℕ). IsMet namespace same told candidates spots lengths n)
      (sym met.one.2 ∙ same_default candidates met.one.0 number 0 met.one.1) met)

-- ---- lengths

abbrev told_ok : Framing → Result Framing FramingFault
told_ok f = Ok f

same_length : (m n : ℕ) → told_ok (Length m) ≡ told_ok (Length n) → m ≡ n
same_length m n e = cc

agrees_told : (method : List ℕ) (h : ResponseHead) (told : Told) (len n : ℕ) → TellsLength method h told → Agrees told len
    → response_framing (asks_for_head method) h ≡ Ok (Length n) → len ≡ n
agrees_told method h Any len n tells agrees framed = absurd (tells n framed)
agrees_told method h (Exactly t) len n tells agrees framed = sym agrees ∙ same_length t n (sym tells ∙ framed)
agrees_told method h TooMany len n tells agrees framed = absurd agrees

told_agrees : (method : List ℕ) (h : ResponseHead) (told : Told) (len : ℕ) → TellsLength method h told → len < 2 ^ 64
    → ((n : ℕ) → response_framing (asks_for_head method) h ≡ Ok (Length n) → len ≡ n) → Agrees told len
told_agrees method h Any len tells fits same = tt
told_agrees method h (Exactly t) len tells fits same = sym (same t tells)
told_agrees method h TooMany len tells fits same = absurd (omega (arith, same tells.0 tells.1, tells.2, fits))

same_framing : (f g : Framing) → told_ok f ≡ told_ok g → f ≡ g
same_framing f g e = cc

zero_and : (n : ℕ) → 0 + n ≡ n
zero_and n = omega arith

record HasSpot (spots : List Spot) (k : ℕ) : Type 0 where
  spot : Spot
  at : slice_get spots k ≡ Some spot

has_spot : (spots : List Spot) (k : ℕ) → k < length spots → HasSpot spots k
has_spot [] k less = absurd (omega (arith, less))
has_spot (s ∷ ss) zero less = record { spot = s; at = refl }
has_spot (s ∷ ss) (suc k) less = let later = has_spot ss k (omega (arith, less)) in record { spot = later.spot; at = later.at }

module _ (one : CapturesHaveOnePayload) (known : Option Book) (book : Book) (texts : List (List ℕ)) (spots : List Spot) (lengths : List ℕ) (entries : List Facts)
    (is : TellsOf known book texts spots lengths entries) (group : Group) (same : Revisited) (refers : group.same ≡ Some same) (told : Told) (h : ResponseHead)
    (parsed : IsResponseHeadText group.stored.head h) (tells : TellsLength group.stored.method h told)
    (revisit : IsRevisit group.stored.method group.stored.head group.digest (reference_in group.same)) (candidates : List ℕ)
    (lengths_count : length lengths ≡ length (captures book)) (are : candidates ≡ numbers_of group.digest (whole_from 0 spots)) (first : ℕ) where
  abbrev as_reference : Reference
  as_reference = record { id = same.id; uri = same.uri; date = same.date }

  -- one that was read and meets it
  read_is_original : IsMet book.namespace same told candidates spots lengths first → AreAllRead spots → IsOriginalOf book (length (captures book)) group first
  read_is_original met all =
      let read : GroupWasRead met.spot = read_at spots all first met.spot met.kept in
      let candidate = from_numbers 0 spots group.digest first (subst (λ (l : List ℕ). Contains l first) are met.one) in
      let here : slice_get spots candidate.place ≡ slice_get spots first = ap (slice_get spots) (sym (candidate.number_is ∙ zero_and candidate.place)) in
      let spot_same : candidate.spot ≡ met.spot = one_at (slice_get spots first) candidate.spot met.spot (sym here ∙ candidate.at) met.kept in
      let spot_of_book : IsSpotOf book first met.spot = is.spots_are.each first met.spot met.kept in
      let there : IsPlaced texts book first met.spot = is.placed.each first met.spot met.kept in
      let stored : Stored = spot_of_book.stored in
      let form : may_be_whole (form_of stored.kept) ≡ true = ap may_be_whole (sym (spot_of_book.form read)) ∙ ap (λ (s : Spot). may_be_whole s.form) (sym spot_same) ∙ candidate.whole in
      let whole = whole_by stored.kept form in
      let stored_same : there.has.stored ≡ stored = one_at (slice_get (captures book) first) there.has.stored stored there.has.placed spot_of_book.placed in
      let by_kept : IsPayloadBy book stored stored.kept there.payload = subst (λ (s : Stored). IsPayloadBy book s s.kept there.payload) stored_same there.has.by_kept in
      let keeps : KeepsPayload book first stored whole.wire there.payload = record {
        placed = spot_of_book.placed;
        kept = whole.is;
        has = subst (λ (k : Kept). IsPayloadBy book stored k there.payload) whole.is by_kept;
      } in
      let uri : stored.uri ≡ same.uri = sym spot_of_book.uri ∙ met.matches.uri in
      let date : stored.date ≡ same.date = sym spot_of_book.date ∙ met.matches.date in
      record {
        earlier = slice_get_within (captures book) first stored spot_of_book.placed;
        original = stored;
        wire = whole.wire;
        payload = there.payload;
        keeps = keeps;
        refers = ap reference_in refers ∙ (λ i. Some (record { id = sym met.matches.id i; uri = sym uri i; date = sym date i }));
        digest = sym candidate.digest_is ∙ ap (λ (s : Spot). s.digest) spot_same ∙ there.digest;
        head = record {
          parsed = revisit.parsed;
          framing = revisit.framing;
          tells = revisit.tells;
          told = λ n framing.
              let framed : response_framing (asks_for_head group.stored.method) h ≡ Ok (Length n) =
              ap (response_framing (asks_for_head group.stored.method)) (one_head group.stored.head h revisit.parsed parsed revisit.tells.head_is.whole)
              ∙ revisit.tells.framed ∙ ap told_ok framing in
              sym (is.lengths_are.each first stored whole.wire there.payload keeps met.spot met.kept read)
              ∙ agrees_told group.stored.method h told (slice_index_or lengths first 0) n tells (met.matches.long read) framed;
        };
      }

  named : (number : ℕ) (original : Stored) → reference_in group.same ≡ Some (reference_to book.namespace (same_of number original))
      → reference_to book.namespace (same_of number original) ≡ as_reference
  named number original is =
      same_Some (reference_to book.namespace (same_of number original)) as_reference (sym is ∙ ap reference_in refers)

  -- one that meets it, where the capture to which the group refers is known
  named_is_original : IsMet book.namespace same told candidates spots lengths first → HasItsOriginal book group → IsOriginalOf book (length (captures book)) group first
  named_is_original met its =
      let id = ap (λ (r : Reference). r.id) (named its.first its.of.original its.of.refers) in
      let within : first < length (captures book) = omega (arith, slice_get_within spots first met.spot met.kept, is.spots_are.count) in
      subst (IsOriginalOf book (length (captures book)) group) (sym (its.alone first within (met.matches.id ∙ sym id))) its.of

  -- one that meets it
  pub met_is_original : MayRefer known book group → IsMet book.namespace same told candidates spots lengths first → IsOriginalOf book (length (captures book)) group first
  met_is_original refer met = by known is.all_read refer
    where
      by : (k : Option Book) → IfNone k (AreAllRead spots) → MayRefer k book group → IsOriginalOf book (length (captures book)) group first
      by None all refer = read_is_original met all
      by (Some b) all refer = named_is_original met (refer (some_record group.same same refers))

  -- the one that it refers to
  pub original_is_met : IsOriginalOf book (length (captures book)) group first → IsMet book.namespace same told candidates spots lengths first
  original_is_met of =
      let count = is.spots_are.count in
      let kept = has_spot spots first (omega (arith, of.earlier, count)) in
      let spot : Spot = kept.spot in
      let spot_of_book : IsSpotOf book first spot = is.spots_are.each first spot kept.at in
      let there : IsPlaced texts book first spot = is.placed.each first spot kept.at in
      let stored_is : spot_of_book.stored ≡ of.original = one_at (slice_get (captures book) first) spot_of_book.stored of.original spot_of_book.placed of.keeps.placed in
      let wire : spot_of_book.stored.kept ≡ Wire of.wire = ap (λ (s : Stored). s.kept) stored_is ∙ of.keeps.kept in
      let whole : may_be_whole spot.form ≡ true = whole_as spot.form spot_of_book.stored.kept of.wire spot_of_book.form spot_of_book.revisit wire in
      let payload : there.payload ≡ of.payload = one book first there.payload of.payload there.has (record {
        stored = of.original;
        placed = of.keeps.placed;
        by_kept = subst (λ (k : Kept). IsPayloadBy book of.original k of.payload) (sym of.keeps.kept) of.keeps.has;
      }) in
      let digest : spot.digest ≡ group.digest = there.digest ∙ ap sha1 payload ∙ sym of.digest in
      let reference : reference_to book.namespace (same_of first of.original) ≡ as_reference = named first of.original of.refers in
      record {
        one = subst (λ (l : List ℕ). Contains l first) (sym are)
            (subst (Contains (numbers_of group.digest (whole_from 0 spots))) (zero_and first) (to_numbers 0 spots group.digest first spot kept.at whole digest));
        spot = spot;
        kept = kept.at;
        matches = record {
          date = spot_of_book.date ∙ ap (λ (s : Stored). s.date) stored_is ∙ ap (λ (r : Reference). r.date) reference;
          uri = spot_of_book.uri ∙ ap (λ (s : Stored). s.uri) stored_is ∙ ap (λ (r : Reference). r.uri) reference;
          id = ap (λ (r : Reference). r.id) reference;
          long = λ read. told_agrees group.stored.method h told (slice_index_or lengths first 0) tells (is.lengths_are.small first (omega (arith, lengths_count, of.earlier)))
              (λ n framed.
              let told_by : told_ok of.head.framing ≡ told_ok (Length n) =
              sym of.head.tells.framed ∙ ap (response_framing (asks_for_head group.stored.method)) (one_head group.stored.head of.head.parsed h of.head.tells.head_is.whole parsed) ∙ framed in
              is.lengths_are.each first of.original of.wire of.payload of.keeps spot kept.at read ∙ of.head.told n (same_framing of.head.framing (Length n) told_by));
        };
      }
