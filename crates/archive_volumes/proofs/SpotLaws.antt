-- What is kept of the captures stays when a book grows, and its texts go on.
use Rattle.std.proofs.Common.{◌≡◌, ℕ, zero, suc, ◌+◌, ◌-◌, ◌<◌, ◌≤◌, Bool, true, false, if◌then◌else◌, List, [], ◌∷◌, ◌++◌, length, take, Some, refl, sym, ap, subst, ◌∙◌, arith, append_assoc, length-append}
use Rattle.std.specs.Prelude.{All, drop, slice_get}
use Rattle.std.proofs.lemmas.Bool.{false≢true}
use Rattle.std.proofs.lemmas.List.Elements.{All-cons, All-nil}
use Rattle.std.proofs.Math.Seq.{drop-append-add, take-append_seam}
use Rattle.std.proofs.lemmas.List.{drop-append-le, length-drop, take-append-le}
use Rattle.sha1.specs.Sha1.{sha1}
use Rattle.capture.specs.Captures.{IsPayloadBy, IsPayloadOf, captures, kept_wire}
use Rattle.capture.specs.Growth.{Grows}
use Rattle.capture.specs.declared.book.Book.{Book}
use Rattle.capture.specs.declared.captured.Kept.{Kept}
use Rattle.capture.specs.declared.captured.Kept.TheVariants as keeps
use Rattle.capture.specs.declared.captured.Stored.{Stored}
use Rattle.archive_shelf.proofs.ComparingLaws.{payload_later, placed_later}
use Rattle.archive_shelf.specs.Comparing.{HasDigestOf, KeepsWire}
use Rattle.archive_volumes.proofs.GroupPlaces.{each_ends, ends_in_text, group_at_later, in_volume_later}
use Rattle.warc_text.specs.Books.{IsGroupText}
use Rattle.archive_volumes.specs.Spots.{AreHeldWhole, ArePlaced, AreSpotsOf, AreWithin, HasGroupAt, HasOwnDigest, HasPlace, IsFoundById, IsPlaced, IsSpotOf, RefersBack, form_of, is_told_form, may_be_whole, part, spot_of, text_at, whole_from}
use Rattle.archive_volumes.specs.declared.spot.Form.{Form}
use Rattle.archive_volumes.specs.declared.spot.Form.TheVariants as forms
use Rattle.archive_volumes.specs.declared.spot.Spot.{Spot}
use Rattle.capture.specs.declared.captured.Kept.TheVariants.{Cut, Same, Wire}

-- ---- places in lists

get_within : (spots : List Spot) (k : ℕ) (spot : Spot) → slice_get spots k ≡ Some spot → k < length spots
get_within [] k spot e = cc
get_within (s ∷ ss) zero spot e = omega arith
get_within (s ∷ ss) (suc k) spot e = omega (arith, get_within ss k spot e)

pub get_before : (spots : List Spot) (last : Spot) (number : ℕ) → number < length spots → slice_get (spots ++ last ∷ []) number ≡ slice_get spots number
get_before [] last number less = absurd (omega (arith, less))
get_before (s ∷ ss) last zero less = refl
get_before (s ∷ ss) last (suc n) less = get_before ss last n (omega (arith, less))

-- what stands in a list with one more at its end stood there, or is that one
data Stands (spots : List Spot) (last : Spot) (k : ℕ) (spot : Spot) : Type 0 where
  before : slice_get spots k ≡ Some spot → Stands spots last k spot
  behind : k ≡ length spots → spot ≡ last → Stands spots last k spot

later : (s : Spot) (ss : List Spot) (last : Spot) (k : ℕ) (spot : Spot) → Stands ss last k spot → Stands (s ∷ ss) last (suc k) spot
later s ss last k spot (before at) = before at
later s ss last k spot (behind is same) = behind (ap suc is) same

stands_in : (spots : List Spot) (last : Spot) (k : ℕ) (spot : Spot) → slice_get (spots ++ last ∷ []) k ≡ Some spot → Stands spots last k spot
stands_in [] last zero spot e = behind refl (same last spot e)
  where
    same : (a b : Spot) → Some a ≡ Some b → b ≡ a
    same a b e = cc
stands_in [] last (suc k) spot e = cc
stands_in (s ∷ ss) last zero spot e = before e
stands_in (s ∷ ss) last (suc k) spot e = later s ss last k spot (stands_in ss last k spot e)

-- ---- a book that gained captures

module _ (old new : Book) (added : List Stored) (gains : captures new ≡ captures old ++ added) (grow : Grows old new) where
  refers_stay : (number : ℕ) (form : Form) → RefersBack old number form → RefersBack new number form
  refers_stay number forms.Whole is = is
  refers_stay number (forms.Same first) is = (
    is.0,
    record {
      stored = is.1.stored;
      wire = is.1.wire;
      placed = placed_later old new added gains first is.1.stored is.1.placed;
      kept = is.1.kept;
    },
  )
  refers_stay number forms.Cut is = is
  refers_stay number (forms.Told revisit) is = is

  payload_stays : (number : ℕ) (payload : List ℕ) → IsPayloadOf old number payload → IsPayloadOf new number payload
  payload_stays number payload has = record {
    stored = has.stored;
    placed = placed_later old new added gains number has.stored has.placed;
    by_kept = payload_later old new added gains has.stored has.stored.kept payload has.by_kept;
  }

  digest_stays : (number : ℕ) (digest : List ℕ) → HasDigestOf old number digest → HasDigestOf new number digest
  digest_stays number digest is = (is.0, payload_stays number is.0 is.1, is.2)

  pub spot_stays : (number : ℕ) (spot : Spot) → IsSpotOf old number spot → IsSpotOf new number spot
  spot_stays number spot is = record {
    stored = is.stored;
    placed = placed_later old new added gains number is.stored is.placed;
    method = is.method;
    uri = is.uri;
    date = is.date;
    form = is.form;
    revisit = is.revisit;
    digest = is.digest;
    line = λ told some. digest_stays number spot.digest (is.line told some);
    refers = refers_stay number spot.form is.refers;
    inside = in_volume_later old new number spot.volume grow is.inside;
    in_range = is.in_range;
    short = is.short;
    ends = is.ends;
  }

  -- who keeps its whole wire goes on to do so
  wire_stays : (number : ℕ) → KeepsWire old number → KeepsWire new number
  wire_stays number own = record {
    stored = own.stored;
    wire = own.wire;
    placed = placed_later old new added gains number own.stored own.placed;
    kept = own.kept;
  }

  pub made_stay : (spots : List Spot) → AreHeldWhole old spots → AreHeldWhole new spots
  made_stay spots are = record { each = λ number spot at told. wire_stays number (are.each number spot at told) }

  -- with one more, of which no line told
  pub made_with : (spots : List Spot) (spot : Spot) → AreHeldWhole old spots → is_told_form spot.form ≡ false → AreHeldWhole new (spots ++ spot ∷ [])
  made_with spots spot are read = record { each = λ number other at told. by number other (stands_in spots spot number other at) told }
    where
      by : (number : ℕ) (other : Spot) → Stands spots spot number other → other.form ≡ forms.Told false → KeepsWire new number
      by number other (before at) told = wire_stays number (are.each number other at told)
      by number other (behind last same) told =
          absurd (false≢true (sym read ∙ ap (λ (s : Spot). is_told_form s.form) (sym same) ∙ ap is_told_form told))

-- as many captures, and the same ones
pub spots_stay : (old new : Book) → captures new ≡ captures old → Grows old new → (spots : List Spot) → AreSpotsOf old spots → AreSpotsOf new spots
spots_stay old new same grow spots are = record {
  count = are.count ∙ ap length (sym same);
  each = λ number spot at. spot_stays old new [] (same ∙ sym (no_more (captures old))) grow number spot (are.each number spot at);
}
  where
    no_more : (xs : List Stored) → xs ++ [] ≡ xs
    no_more [] = refl
    no_more (x ∷ xs) = ap (λ (l : List Stored). x ∷ l) (no_more xs)

-- one capture more
pub spots_with : (old new : Book) (stored : Stored) → captures new ≡ captures old ++ stored ∷ [] → Grows old new → (spots : List Spot) (spot : Spot)
    → AreSpotsOf old spots → IsSpotOf new (length (captures old)) spot → AreSpotsOf new (spots ++ spot ∷ [])
spots_with old new stored gains grow spots spot are is = record {
  count = omega (arith, are.count, ap length gains, length-append spots (spot ∷ []), length-append (captures old) (stored ∷ []));
  each = λ number other at. by number other (stands_in spots spot number other at);
}
  where
    by : (number : ℕ) (other : Spot) → Stands spots spot number other → IsSpotOf new number other
    by number other (before at) = spot_stays old new (stored ∷ []) gains grow number other (are.each number other at)
    by number other (behind last same) =
        subst (λ (s : Spot). IsSpotOf new number s) (sym same) (subst (λ (n : ℕ). IsSpotOf new n spot) (sym (last ∙ are.count)) is)

-- ---- texts that go on

-- each text that was there is the beginning of the one with its number
pub record GoOn (was now : List (List ℕ)) : Type 0 where
  pub count : length was ≤ length now
  pub rest : ℕ → List ℕ
  pub each : (k : ℕ) → k < length was → text_at now k ≡ text_at was k ++ rest k

-- a part stays when the text goes on
part_stays : (text more : List ℕ) (at long : ℕ) → at + long ≤ length text → part (text ++ more) at long ≡ part text at long
part_stays text more at long within =
    let rest : length (drop at text) ≡ length text - at = length-drop at text in
    ap (take long) (drop-append-le at text more (omega (arith, within)))
    ∙ take-append-le long (drop at text) more (omega (arith, within, rest))

-- what is within a text is within one that goes on from it
module _ (was now : List (List ℕ)) (on : GoOn was now) where
  place_within : (spot : Spot) → HasPlace was spot → HasPlace now spot
  place_within spot is =
      let text : List ℕ = text_at was spot.volume in
      let more : text_at now spot.volume ≡ text ++ on.rest spot.volume = on.each spot.volume is.there in
      record {
        there = omega (arith, is.there, on.count);
        begins = omega (arith, is.begins, ap length more, length-append text (on.rest spot.volume));
        within = omega (arith, is.within, ap length more, length-append text (on.rest spot.volume));
      }

  pub within_stay : (spots : List Spot) → AreWithin was spots → AreWithin now spots
  within_stay spots are = record { each = λ number spot at. place_within spot (are.each number spot at) }

  pub within_with : (spots : List Spot) (spot : Spot) → AreWithin was spots → HasPlace now spot → AreWithin now (spots ++ spot ∷ [])
  within_with spots spot are is = record { each = λ number other at. by number other (stands_in spots spot number other at) }
    where
      by : (number : ℕ) (other : Spot) → Stands spots spot number other → HasPlace now other
      by number other (before at) = place_within other (are.each number other at)
      by number other (behind last same) = subst (HasPlace now) (sym same) is

module _ (was now : List (List ℕ)) (on : GoOn was now) (old new : Book) (added : List Stored) (gains : captures new ≡ captures old ++ added) (grow : Grows old new) where
  pub place_stays : (number : ℕ) (spot : Spot) → IsPlaced was old number spot → IsPlaced now new number spot
  unfolding payload_stays
  place_stays number spot is =
      let text : List ℕ = text_at was spot.volume in
      let more : text_at now spot.volume ≡ text ++ on.rest spot.volume = on.each spot.volume is.there in
      record {
        payload = is.payload;
        has = payload_stays old new added gains grow number is.payload is.has;
        digest = is.digest;
        there = omega (arith, is.there, on.count);
        group = group_at_later old new number spot.at text (on.rest spot.volume) (text_at now spot.volume) grow more is.group;
        within = omega (arith, is.within, ap length more, length-append text (on.rest spot.volume));
        head = λ read. ap (λ (t : List ℕ). part t spot.head_at spot.head_len) more
            ∙ part_stays text (on.rest spot.volume) spot.head_at spot.head_len (omega (arith, is.within)) ∙ is.head read;
        wire = λ read. ap (λ (t : List ℕ). part t (spot.head_at + spot.head_len) spot.wire_len) more
            ∙ part_stays text (on.rest spot.volume) (spot.head_at + spot.head_len) spot.wire_len (omega (arith, is.within)) ∙ is.wire read;
        found = λ told. subst (λ (n : List ℕ). IsFoundById n is.has.stored.kept) (sym grow.namespace) (is.found told);
      }

  pub placed_stay : (spots : List Spot) → ArePlaced was old spots → ArePlaced now new spots
  placed_stay spots are = record {
    each = λ number spot at. place_stays number spot (are.each number spot at);
    apart = λ number spot next group at after same is.
        let there = are.each number spot at in
        let own : HasGroupAt old number (text_at was spot.volume) spot.at = there.group in
        each_ends old new number spot.at next.at (text_at was spot.volume) group grow own (are.apart number spot next own.group at after same own.is) is;
  }

  own_at : (spots : List Spot) → ArePlaced was old spots → (number : ℕ) (other : Spot) → slice_get spots number ≡ Some other
      → HasGroupAt old number (text_at was other.volume) other.at
  own_at spots are number other at = (are.each number other at).group

  -- where the last one begins behind what stood in its volume, each still ends before the next one begins
  last_begins : (other spot next : Spot) → next ≡ spot → next.volume ≡ other.volume → length (text_at was spot.volume) ≤ spot.at
      → length (text_at was other.volume) ≤ next.at
  last_begins other spot next last same begins =
      let volume : spot.volume ≡ other.volume = sym (ap (λ (s : Spot). s.volume) last) ∙ same in
      omega (arith, begins, ap (λ (k : ℕ). length (text_at was k)) volume, ap (λ (s : Spot). s.at) last)

  between : (spots : List Spot) (spot : Spot) → ArePlaced was old spots → length (text_at was spot.volume) ≤ spot.at
      → (number : ℕ) (other next : Spot) (group : List ℕ) → Stands spots spot number other → Stands spots spot (suc number) next
      → next.volume ≡ other.volume → IsGroupText new number group → other.at + length group ≤ next.at
  between spots spot are begins number other next group (before at) (before after) same g =
      let own = own_at spots are number other at in
      each_ends old new number other.at next.at (text_at was other.volume) group grow own (are.apart number other next own.group at after same own.is) g
  between spots spot are begins number other next group (before at) (behind last is_last) same g =
      let own = own_at spots are number other at in
      each_ends old new number other.at next.at (text_at was other.volume) group grow own
      (omega (arith, ends_in_text old number other.at (text_at was other.volume) own, last_begins other spot next is_last same begins)) g
  between spots spot are begins number other next group (behind at is_other) (before after) same g =
      absurd (omega (arith, at, get_within spots (suc number) next after))
  between spots spot are begins number other next group (behind at is_other) (behind last is_last) same g = absurd (omega (arith, at, last))

  -- one capture more, whose group begins behind what stood in its volume
  pub placed_with : (spots : List Spot) (spot : Spot) → ArePlaced was old spots → IsPlaced now new (length spots) spot
      → length (text_at was spot.volume) ≤ spot.at → ArePlaced now new (spots ++ spot ∷ [])
  placed_with spots spot are is begins = record {
    each = λ number other at. by number other (stands_in spots spot number other at);
    apart = λ number other next group at after same g.
        between spots spot are begins number other next group (stands_in spots spot number other at) (stands_in spots spot (suc number) next after) same g;
  }
    where
      by : (number : ℕ) (other : Spot) → Stands spots spot number other → IsPlaced now new number other
      by number other (before at) = place_stays number other (are.each number other at)
      by number other (behind last same) =
          subst (λ (s : Spot). IsPlaced now new number s) (sym same) (subst (λ (n : ℕ). IsPlaced now new n spot) (sym last) is)

-- ---- a new place

part_behind : (front text : List ℕ) (at long : ℕ) → part (front ++ text) (length front + at) long ≡ part text at long
part_behind front text at long = ap (take long) (drop-append-add front text at)

no_more_at : (n : ℕ) → n + 0 ≡ n
no_more_at n = omega arith

-- what stands first behind a front
first_part : (front block rest : List ℕ) → part (front ++ (block ++ rest)) (length front) (length block) ≡ block
first_part front block rest =
    ap (λ (n : ℕ). part (front ++ (block ++ rest)) n (length block)) (sym (no_more_at (length front)))
    ∙ part_behind front (block ++ rest) 0 (length block) ∙ take-append_seam block rest

-- what is kept of a capture is no line's
pub form_read : (kept : Kept) → is_told_form (form_of kept) ≡ false
form_read (keeps.Wire wire) = refl
form_read (keeps.Same first) = refl
form_read (keeps.Cut wire) = refl

-- a head and a wire that stand between a front and a rest
pub placed_at : (texts : List (List ℕ)) (book : Book) (number : ℕ) (payload : List ℕ) (has : IsPayloadOf book number payload) (volume at : ℕ)
    (front rest : List ℕ) → volume < length texts → HasGroupAt book number (text_at texts volume) at
    → text_at texts volume ≡ front ++ ((has.stored.head ++ kept_wire has.stored.kept) ++ rest)
    → IsPlaced texts book number (spot_of has.stored (sha1 payload) volume at (length front))
placed_at texts book number payload has volume at front rest there group composed =
    let head : List ℕ = has.stored.head in
    let wire : List ℕ = kept_wire has.stored.kept in
    let text : List ℕ = text_at texts volume in
    let as_head : text ≡ front ++ (head ++ (wire ++ rest)) = composed ∙ ap (λ (t : List ℕ). front ++ t) (append_assoc head wire rest) in
    let as_wire : text ≡ (front ++ head) ++ (wire ++ rest) = as_head ∙ sym (append_assoc front head (wire ++ rest)) in
    record {
      payload = payload;
      has = has;
      digest = refl;
      there = there;
      group = group;
      within = omega (arith, ap length composed, length-append front ((head ++ wire) ++ rest), length-append (head ++ wire) rest, length-append head wire);
      head = λ read. ap (λ (t : List ℕ). part t (length front) (length head)) as_head ∙ first_part front head (wire ++ rest);
      wire = λ read. ap (λ (n : ℕ). part text n (length wire)) (sym (length-append front head))
          ∙ ap (λ (t : List ℕ). part t (length (front ++ head)) (length wire)) as_wire ∙ first_part (front ++ head) wire rest;
      found = λ told. absurd (false≢true (sym (form_read has.stored.kept) ∙ told));
    }

-- ---- the captures that keep their whole wire

if_more : (b : Bool) (x : List ℕ × ℕ) (xs ys : List (List ℕ × ℕ)) → (if b then x ∷ (xs ++ ys) else xs ++ ys) ≡ (if b then x ∷ xs else xs) ++ ys
if_more true x xs ys = refl
if_more false x xs ys = refl

whole_behind : (from : ℕ) (spots : List Spot) (spot : Spot)
    → whole_from from (spots ++ spot ∷ []) ≡ whole_from from spots ++ (if may_be_whole spot.form then (spot.digest, from + length spots) ∷ [] else [])
whole_behind from [] spot = ap (λ (n : ℕ). if may_be_whole spot.form then (spot.digest, n) ∷ [] else []) (sym (no_more_at from))
whole_behind from (s ∷ ss) spot =
    let last : List (List ℕ × ℕ) = if may_be_whole spot.form then (spot.digest, suc from + length ss) ∷ [] else [] in
    let step : suc from + length ss ≡ from + suc (length ss) = omega arith in
    ap (λ (l : List (List ℕ × ℕ)). if may_be_whole s.form then (s.digest, from) ∷ l else l) (whole_behind (suc from) ss spot)
    ∙ if_more (may_be_whole s.form) (s.digest, from) (whole_from (suc from) ss) last
    ∙ ap (λ (n : ℕ). whole_from from (s ∷ ss) ++ (if may_be_whole spot.form then (spot.digest, n) ∷ [] else [])) step

pub table_with : (spots : List Spot) (spot : Spot)
    → whole_from 0 (spots ++ spot ∷ []) ≡ whole_from 0 spots ++ (if may_be_whole spot.form then (spot.digest, length spots) ∷ [] else [])
table_with spots spot = whole_behind 0 spots spot ∙ ap (λ (n : ℕ). whole_from 0 spots ++ (if may_be_whole spot.form then (spot.digest, n) ∷ [] else [])) (none (length spots))
  where
    none : (n : ℕ) → 0 + n ≡ n
    none n = omega arith

below_by : (b : Bool) (from : ℕ) (digest : List ℕ) (bound : ℕ) (others : List (List ℕ × ℕ)) → from < bound → All (λ (entry : List ℕ × ℕ). entry.1 < bound) others
    → All (λ (entry : List ℕ × ℕ). entry.1 < bound) (if b then (digest, from) ∷ others else others)
below_by true from digest bound others less all = All-cons (λ (entry : List ℕ × ℕ). entry.1 < bound) (digest, from) others less all
below_by false from digest bound others less all = all

whole_below_from : (from : ℕ) (spots : List Spot) (bound : ℕ) → from + length spots ≤ bound → All (λ (entry : List ℕ × ℕ). entry.1 < bound) (whole_from from spots)
whole_below_from from [] bound le = All-nil (λ (entry : List ℕ × ℕ). entry.1 < bound)
whole_below_from from (s ∷ ss) bound le =
    below_by (may_be_whole s.form) from s.digest bound (whole_from (suc from) ss) (omega (arith, le)) (whole_below_from (suc from) ss bound (omega (arith, le)))

pub whole_below : (spots : List Spot) → All (λ (entry : List ℕ × ℕ). entry.1 < length spots) (whole_from 0 spots)
whole_below spots = whole_below_from 0 spots (length spots) (omega arith)

-- ---- places in texts

pub place_of : (texts : List (List ℕ)) (book : Book) (number : ℕ) (spot : Spot) → IsPlaced texts book number spot → HasPlace texts spot
place_of texts book number spot placed = record {
  there = placed.there;
  begins = omega (arith, ends_in_text book number spot.at (text_at texts spot.volume) placed.group);
  within = placed.within;
}

-- where the book is known all are within the texts
pub within_of : (texts : List (List ℕ)) (book : Book) (spots : List Spot) → ArePlaced texts book spots → AreWithin texts spots
within_of texts book spots are = record { each = λ number spot at. place_of texts book number spot (are.each number spot at) }

-- a digest is a capture's own where its payload has it
pub own_digest : (book : Book) (stored : Stored) (kept : Kept) (payload digest : List ℕ) → IsPayloadBy book stored kept payload → digest ≡ sha1 payload
    → HasOwnDigest stored kept digest
own_digest book stored (Wire wire) payload digest has is = (payload, has, is)
own_digest book stored (Same first) payload digest has is = tt
own_digest book stored (Cut wire) payload digest has is = (payload, has, is)
