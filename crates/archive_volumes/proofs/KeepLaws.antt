-- What is kept of a capture that was written, and where it stands.
use Rattle.std.proofs.Common.{◌≡◌, ℕ, ◌+◌, ◌-◌, ◌^◌, ◌<◌, ◌≤◌, Bool, true, false, IsTrue, List, [], ◌∷◌, ◌++◌, length, Option, Some, None, refl, sym, ap, subst, ◌∙◌, inl, inr, ⊎_elim, ◌⊎◌, arith, append-nil, append_assoc, length-append}
use Rattle.std.specs.Prelude.{IfSome, drop, slice_get}
use Rattle.std.proofs.lemmas.Bool.{cases_lt, false≢true}
use Rattle.std.proofs.lemmas.List.{get_or_append_left, get_or-set_other, length-set, length_push}
use Rattle.std.proofs.lemmas.Grind.{get_or-set_at}
use Rattle.std.proofs.lemmas.Option.{slice_get_within}
use Rattle.std.proofs.Math.Seq.{drop-append-add}
use Rattle.sha1.specs.Sha1.{sha1}
use Rattle.capture.proofs.GrowthLaws.{grows_from_itself, growth_goes_on}
use Rattle.capture.specs.Captures.{captures, kept_wire, HasPayload, IsPayloadBy, IsPayloadOf}
use Rattle.capture.specs.Growth.{Grows}
use Rattle.capture.specs.declared.book.Book.{Book}
use Rattle.capture.specs.declared.captured.Stored.{Stored}
use Rattle.capture.specs.declared.captured.Taken.{Taken}
use Rattle.disk_model.specs.declared.disk.Disk.{Ghosts}
use Rattle.warc_journal.specs.Journals.{texts}
use Rattle.warc_journal.specs.Texts.{with_more}
use Rattle.warc_text.proofs.BookLaws.{get_behind}
use Rattle.warc_text.specs.Books.{IsGroupText}
use Rattle.warc_text.specs.Fits.{Fits}
use Rattle.warc_text.specs.Sound.{IsSound}
use Rattle.archive_shelf.proofs.ComparingLaws.{first_keeps_its_wire, placed_later}
use Rattle.archive_shelf.proofs.StoringLaws.{capture_grows, volume_grows}
use Rattle.archive_shelf.specs.Comparing.{CanRefer, RefersBy}
use Rattle.archive_shelf.specs.Laws.{IsOriginal}
use Rattle.archive_shelf.specs.Storing.{as_stored, kept_of, with_capture}
use Rattle.archive_volumes.proofs.GroupPlaces.{begins_behind, has_volume}
use Rattle.archive_volumes.proofs.WayLaws.{room_captures}
use Rattle.archive_volumes.specs.Held.{book_of, stored_in}
use Rattle.archive_volumes.specs.Ready.{CanCommit, book_with, spot_in}
use Rattle.archive_volumes.proofs.SpotLaws.{GoOn, form_read, made_stay, made_with, placed_at, placed_stay, placed_with, spots_stay, spots_with, within_stay, within_with}
use Rattle.archive_volumes.specs.Grouping.{StandsAt, block_of}
use Rattle.archive_volumes.specs.Spots.{AreHeldWhole, ArePlaced, AreSpotsOf, AreWithin, HasGroupAt, HasOwnDigest, IsInVolume, IsPlaced, IsSpotOf, RefersBack, form_of, spot_of, text_at}
use Rattle.archive_volumes.specs.Volumes.{HoldsBook}
use Rattle.archive_volumes.specs.Writing.{texts_with, with_prepared}
use Rattle.archive_volumes.specs.declared.group.Layout.{Layout}
use Rattle.archive_volumes.specs.declared.room.Prepared.{Prepared}
use Rattle.archive_volumes.specs.declared.ready.Ready.{Ready}
use Rattle.archive_volumes.specs.declared.spot.Spot.{Spot}
use Rattle.archive_volumes.specs.declared.volumes.Volumes.{Volumes}

no_other : (first : ℕ) → Some first ≡ None → ⊥
no_other first e = cc

-- what is referred to is earlier
pub refers_within : (cut : Bool) (book : Book) (same : Option ℕ) → CanRefer cut book same → IfSome same (λ first. first < length (captures book))
refers_within true book None refers = tt
refers_within true book (Some first) refers = absurd (no_other first refers)
refers_within false book None refers = tt
refers_within false book (Some first) refers = slice_get_within (captures book) first refers.stored refers.placed

-- the head and the wire that is kept are the block of the first record
block_by : (book : Book) (cut : Bool) (head wire : List ℕ) (same : Option ℕ) (taken : Taken) → taken.head ≡ head → taken.wire ≡ wire → CanRefer cut book same
    → head ++ kept_wire (kept_of cut wire same) ≡ block_of taken same
block_by book true head wire None taken is_head is_wire refers = ap (λ (h : List ℕ). h ++ wire) (sym is_head) ∙ ap (λ (w : List ℕ). taken.head ++ w) (sym is_wire)
block_by book true head wire (Some first) taken is_head is_wire refers = absurd (no_other first refers)
block_by book false head wire None taken is_head is_wire refers = ap (λ (h : List ℕ). h ++ wire) (sym is_head) ∙ ap (λ (w : List ℕ). taken.head ++ w) (sym is_wire)
block_by book false head wire (Some first) taken is_head is_wire refers = append-nil head ∙ sym is_head

pub kept_block : (book : Book) (taken : Taken) (same : Option ℕ) → CanRefer taken.cut book same
    → taken.head ++ kept_wire (kept_of taken.cut taken.wire same) ≡ block_of taken same
kept_block book taken same refers = block_by book taken.cut taken.head taken.wire same taken refl refl refers

-- ---- whatever the disk tells

module _ (old new : Book) (taken : Taken) (same : Option ℕ) (gains : captures new ≡ captures old ++ as_stored taken same ∷ []) where
  refers_by : (cut : Bool) (wire : List ℕ) (other : Option ℕ) → CanRefer cut old other → RefersBack new (length (captures old)) (form_of (kept_of cut wire other))
  refers_by true wire other refers = tt
  refers_by false wire None refers = tt
  refers_by false wire (Some first) refers = (
    slice_get_within (captures old) first refers.stored refers.placed,
    record {
      stored = refers.stored;
      wire = refers.wire;
      placed = placed_later old new (as_stored taken same ∷ []) gains first refers.stored refers.placed;
      kept = refers.kept;
    },
  )

  pub new_placed : slice_get (captures new) (length (captures old)) ≡ Some (as_stored taken same)
  new_placed =
      let number : ℕ = length (captures old) in
      ap (λ (l : List Stored). slice_get l number) gains
      ∙ get_behind (captures old ++ as_stored taken same ∷ []) (captures old) (as_stored taken same) [] number refl refl

  -- what is kept of the new capture, whose payload has this digest, is that
  pub spot_is : (digest payload : List ℕ) → HasPayload taken.cut taken.method taken.head taken.wire payload → digest ≡ sha1 payload
      → (volume at head_at : ℕ) → Fits taken → CanRefer taken.cut old same → head_at + length (block_of taken same) < 2 ^ 62
      → IsInVolume new (length (captures old)) volume → IsSpotOf new (length (captures old)) (spot_of (as_stored taken same) digest volume at head_at)
  spot_is digest payload has digested volume at head_at fits refers ends inside =
      let wire : List ℕ = kept_wire (kept_of taken.cut taken.wire same) in
      record {
        stored = as_stored taken same;
        placed = new_placed;
        method = refl;
        uri = refl;
        date = refl;
        form = λ read. refl;
        revisit = refl;
        digest = λ read. own_by taken.cut taken.wire same has;
        line = λ told some. absurd (false≢true (sym (form_read (as_stored taken same).kept) ∙ told));
        refers = refers_by taken.cut taken.wire same refers;
        inside = inside;
        in_range = fits.date;
        short = omega (arith, fits.short.uri);
        ends = omega (arith, ends, ap length (kept_block old taken same refers), length-append taken.head wire);
      }
    where
      own_by : (cut : Bool) (wire : List ℕ) (other : Option ℕ) → HasPayload cut taken.method taken.head wire payload
          → HasOwnDigest (as_stored taken same) (kept_of cut wire other) digest
      own_by true wire other has = (payload, has, digested)
      own_by false wire None has = (payload, has, digested)
      own_by false wire (Some first) has = tt

  -- ---- where the disk tells

  payload_by : (method head wire payload : List ℕ) (cut : Bool) (other : Option ℕ) (stored : Stored) → stored.method ≡ method → stored.head ≡ head → IsSound old
      → HasPayload cut method head wire payload → RefersBy cut old (length (captures old)) payload other → IsPayloadBy new stored (kept_of cut wire other) payload
  payload_by method head wire payload true other stored is_method is_head sound has refers =
      subst (λ (m : List ℕ). HasPayload true m stored.head wire payload) (sym is_method)
      (subst (λ (h : List ℕ). HasPayload true method h wire payload) (sym is_head) has)
  payload_by method head wire payload false None stored is_method is_head sound has refers =
      subst (λ (m : List ℕ). HasPayload false m stored.head wire payload) (sym is_method)
      (subst (λ (h : List ℕ). HasPayload false method h wire payload) (sym is_head) has)
  payload_by method head wire payload false (Some first) stored is_method is_head sound has refers =
      let is : IsOriginal old first payload = first_keeps_its_wire old first payload sound.sound refers.2 refers.3 in (
        is.stored,
        is.wire,
        record {
          placed = placed_later old new (as_stored taken same ∷ []) gains first is.stored is.keeps.placed;
          kept = is.keeps.kept;
          has = is.keeps.has;
        },
      )

  -- it stands behind the last text, in its group
  pub spot_placed : (texts : List (List ℕ)) (group payload : List ℕ) (layout : Layout) (end : ℕ) → 0 < length texts
      → length (text_at texts (length texts - 1)) ≡ end → StandsAt taken same group layout → IsSound old → CanRefer taken.cut old same
      → HasPayload taken.cut taken.method taken.head taken.wire payload → RefersBy taken.cut old (length (captures old)) payload same → IsGroupText new (length (captures old)) group
      → IsPlaced (with_more texts group) new (length (captures old)) (spot_of (as_stored taken same) (sha1 payload) (length texts - 1) end (end + layout.head_at))
  spot_placed texts group payload layout end some is_end at sound refers has by is_group =
      let k : ℕ = length texts - 1 in
      let text : List ℕ = text_at texts k in
      let stored : Stored = as_stored taken same in
      let kept : List ℕ = taken.head ++ kept_wire (kept_of taken.cut taken.wire same) in
      let more : text_at (with_more texts group) k ≡ text ++ group = get_or-set_at texts k k (text ++ group) [] refl (omega (arith, some)) in
      let composed : text_at (with_more texts group) k ≡ (text ++ at.front) ++ (kept ++ at.rest) =
      more
      ∙ ap (λ (g : List ℕ). text ++ g) at.composed
      ∙ ap (λ (b : List ℕ). text ++ (at.front ++ (b ++ at.rest))) (sym (kept_block old taken same refers))
      ∙ sym (append_assoc text at.front (kept ++ at.rest)) in
      let is_payload : IsPayloadOf new (length (captures old)) payload = record {
        stored = stored;
        placed = new_placed;
        by_kept = payload_by taken.method taken.head taken.wire payload taken.cut same stored refl refl sound has by;
      } in
      let there : HasGroupAt new (length (captures old)) (text_at (with_more texts group) k) end = record {
        front = text;
        group = group;
        rest = [];
        is = is_group;
        composed = more ∙ ap (λ (g : List ℕ). text ++ g) (sym (append-nil group));
        behind = sym is_end;
      } in
      subst (λ (n : ℕ). IsPlaced (with_more texts group) new (length (captures old)) (spot_of stored (sha1 payload) k end n))
      (length-append text at.front ∙ omega (arith, is_end, at.head_at))
      (placed_at (with_more texts group) new (length (captures old)) payload is_payload k end (text ++ at.front) at.rest
      (omega (arith, some, length-set texts k (text ++ group))) there composed)

-- ---- the texts go on

go_on : (was now : List (List ℕ)) → length was ≤ length now → ((k : ℕ) → k < length was → (more : List ℕ) × (text_at now k ≡ text_at was k ++ more)) → GoOn was now
go_on was now count goes = record {
  count = count;
  rest = λ k. drop (length (text_at was k)) (text_at now k);
  each = λ k less.
      let on = goes k less in
      on.1 ∙ ap (λ (r : List ℕ). text_at was k ++ r) (sym (ap (λ (t : List ℕ). drop (length (text_at was k)) t) on.1 ∙ behind (text_at was k) on.0));
}
  where
    no_more : (n : ℕ) → n ≡ n + 0
    no_more n = omega arith

    behind : (front rest : List ℕ) → drop (length front) (front ++ rest) ≡ rest
    behind front rest = ap (λ (n : ℕ). drop n (front ++ rest)) (no_more (length front)) ∙ drop-append-add front rest 0

go_with : (texts : List (List ℕ)) (prepared : Option Prepared) → (k : ℕ) → k < length texts → text_at (texts_with texts prepared) k ≡ text_at texts k
go_with texts None k less = refl
go_with texts (Some p) k less = get_or_append_left texts (p.info ∷ []) [] k less

with_count : (texts : List (List ℕ)) (prepared : Option Prepared) → length texts ≤ length (texts_with texts prepared)
with_count texts None = omega arith
with_count texts (Some p) = omega (arith, length_push texts p.info)

pub texts_go_with : (texts : List (List ℕ)) (prepared : Option Prepared) → GoOn texts (texts_with texts prepared)
texts_go_with texts prepared = go_on texts (texts_with texts prepared) (with_count texts prepared)
    (λ k less. ([], go_with texts prepared k less ∙ sym (append-nil (text_at texts k))))

pub texts_go_more : (texts : List (List ℕ)) (prepared : Option Prepared) (group : List ℕ) → GoOn texts (with_more (texts_with texts prepared) group)
texts_go_more texts prepared group =
    let mid : List (List ℕ) = texts_with texts prepared in
    let n : ℕ = length mid - 1 in
    let last : List ℕ = text_at mid n ++ group in
    go_on texts (with_more mid group) (omega (arith, with_count texts prepared, length-set mid n last))
    (λ k less. ⊎_elim
    (λ (before : k < n). (
      [],
      get_or-set_other mid n k last [] (λ (e : k ≡ n). omega (arith, e, before)) ∙ go_with texts prepared k less ∙ sym (append-nil (text_at texts k)),
    ))
    (λ (behind : n ≤ k).
    let at : k ≡ n = omega (arith, behind, less, with_count texts prepared) in (
      group,
      get_or-set_at mid n k last [] at (omega (arith, less, with_count texts prepared))
          ∙ ap (λ (m : ℕ). text_at mid m ++ group) (sym at)
          ∙ ap (λ (t : List ℕ). t ++ group) (go_with texts prepared k less),
    ))
    (cases_lt k n))

-- ---- once it is written

-- the book has grown with it
ready_grows : (book : Book) (prepared : Option Prepared) (stored : Stored) → Grows book (with_capture (with_prepared book prepared) stored)
ready_grows book None stored = capture_grows book stored
ready_grows book (Some p) stored =
    growth_goes_on book (with_prepared book (Some p)) (with_capture (with_prepared book (Some p)) stored) (volume_grows book p.shadow.born)
    (capture_grows (with_prepared book (Some p)) stored)

module _ {D : Type 0} (d : Ghosts D) (told : Bool) (before : Volumes D) (ready : Ready) (can : CanCommit d told before ready) where
  pub kept_spots : (now : Book) (spots items : List Spot) (spot : Spot) → AreSpotsOf (book_of before.held) spots → now ≡ book_with before ready
      → items ≡ spots ++ spot ∷ [] → spot ≡ spot_in before ready → AreSpotsOf now items
  kept_spots now spots items spot are is all is_spot =
      subst (AreSpotsOf now) (sym (all ∙ ap (λ (s : Spot). spots ++ s ∷ []) is_spot))
      (subst (λ (b : Book). AreSpotsOf b (spots ++ spot_in before ready ∷ [])) (sym is)
      (spots_with (book_of before.held) (book_with before ready) (stored_in ready.stored) can.gains (ready_grows (book_of before.held) ready.prepared (stored_in ready.stored)) spots
      (spot_in before ready) are can.spot))

  pub kept_made : (now : Book) (spots items : List Spot) (spot : Spot) → AreHeldWhole (book_of before.held) spots → now ≡ book_with before ready
      → items ≡ spots ++ spot ∷ [] → spot ≡ spot_in before ready → AreHeldWhole now items
  kept_made now spots items spot are is all is_spot =
      subst (AreHeldWhole now) (sym (all ∙ ap (λ (s : Spot). spots ++ s ∷ []) is_spot))
      (subst (λ (b : Book). AreHeldWhole b (spots ++ spot_in before ready ∷ [])) (sym is)
      (made_with (book_of before.held) (book_with before ready) (stored_in ready.stored ∷ []) can.gains
      (ready_grows (book_of before.held) ready.prepared (stored_in ready.stored)) spots (spot_in before ready) are (form_read (stored_in ready.stored).kept)))

  pub kept_within : IsTrue d.tells → (texts_now : List (List ℕ)) (spots items : List Spot) (spot : Spot) → AreWithin (texts d before.journal) spots
      → texts_now ≡ with_more (texts_with (texts d before.journal) ready.prepared) ready.group
      → items ≡ spots ++ spot ∷ [] → spot ≡ spot_in before ready → AreWithin texts_now items
  kept_within tells texts_now spots items spot within is_texts all is_spot =
      subst (AreWithin texts_now) (sym (all ∙ ap (λ (s : Spot). spots ++ s ∷ []) is_spot))
      (subst (λ (t : List (List ℕ)). AreWithin t (spots ++ spot_in before ready ∷ [])) (sym is_texts)
      (within_with (texts d before.journal) (with_more (texts_with (texts d before.journal) ready.prepared) ready.group)
      (texts_go_more (texts d before.journal) ready.prepared ready.group) spots (spot_in before ready) within (can.within tells)))

  pub kept_placed : IsTrue told → HoldsBook d told before.journal (book_of before.held) → (texts_now : List (List ℕ)) (now : Book) (spots items : List Spot) (spot : Spot)
      → AreSpotsOf (book_of before.held) spots
      → ArePlaced (texts d before.journal) (book_of before.held) spots → texts_now ≡ with_more (texts_with (texts d before.journal) ready.prepared) ready.group
      → now ≡ book_with before ready → items ≡ spots ++ spot ∷ [] → spot ≡ spot_in before ready → ArePlaced texts_now now items
  kept_placed so holds texts_now now spots items spot are placed is_texts is all is_spot =
      let all_texts : List (List ℕ) = with_more (texts_with (texts d before.journal) ready.prepared) ready.group in
      subst (ArePlaced texts_now now) (sym (all ∙ ap (λ (s : Spot). spots ++ s ∷ []) is_spot))
      (subst (λ (b : Book). ArePlaced texts_now b (spots ++ spot_in before ready ∷ [])) (sym is)
      (subst (λ (t : List (List ℕ)). ArePlaced t (book_with before ready) (spots ++ spot_in before ready ∷ [])) (sym is_texts)
      (placed_with (texts d before.journal) all_texts (texts_go_more (texts d before.journal) ready.prepared ready.group)
      (book_of before.held) (book_with before ready) ((stored_in ready.stored) ∷ []) can.gains (ready_grows (book_of before.held) ready.prepared (stored_in ready.stored))
      spots (spot_in before ready) placed
      (subst (λ (n : ℕ). IsPlaced all_texts (book_with before ready) n (spot_in before ready)) (sym are.count) (can.placed so))
      (begins_behind d before ready.prepared so holds
      (has_volume (with_prepared (book_of before.held) ready.prepared) (stored_in ready.stored) (length (captures (book_of before.held))) can.spot.inside)))))

-- ---- where it is refused

pub captures_left : (book now : Book) (prepared : Option Prepared) → (now ≡ book) ⊎ (now ≡ with_prepared book prepared) → captures now ≡ captures book
captures_left book now prepared (inl is) = ap (λ (b : Book). captures b) is
captures_left book now prepared (inr is) = ap (λ (b : Book). captures b) is ∙ room_captures book prepared

texts_left : (was now : List (List ℕ)) (prepared : Option Prepared) → (now ≡ was) ⊎ (now ≡ texts_with was prepared) → GoOn was now
texts_left was now prepared (inl is) = subst (GoOn was) (sym is) (texts_go_with was None)
texts_left was now prepared (inr is) = subst (GoOn was) (sym is) (texts_go_with was prepared)

grows_left : (book now : Book) (prepared : Option Prepared) → (now ≡ book) ⊎ (now ≡ with_prepared book prepared) → Grows book now
grows_left book now prepared (inl is) = subst (Grows book) (sym is) (grows_from_itself book)
grows_left book now None (inr is) = subst (Grows book) (sym is) (grows_from_itself book)
grows_left book now (Some p) (inr is) = subst (Grows book) (sym is) (volume_grows book p.shadow.born)

pub spots_left : (book now : Book) (prepared : Option Prepared) (spots : List Spot) → (now ≡ book) ⊎ (now ≡ with_prepared book prepared)
    → AreSpotsOf book spots → AreSpotsOf now spots
spots_left book now prepared spots left are = spots_stay book now (captures_left book now prepared left) (grows_left book now prepared left) spots are

pub made_left : (book now : Book) (prepared : Option Prepared) (spots : List Spot) → (now ≡ book) ⊎ (now ≡ with_prepared book prepared)
    → AreHeldWhole book spots → AreHeldWhole now spots
made_left book now prepared spots left are =
    made_stay book now [] (captures_left book now prepared left ∙ sym (append-nil (captures book))) (grows_left book now prepared left) spots are

pub within_left : (prepared : Option Prepared) (was texts_now : List (List ℕ)) (spots : List Spot)
    → (texts_now ≡ was) ⊎ (texts_now ≡ texts_with was prepared) → AreWithin was spots → AreWithin texts_now spots
within_left prepared was texts_now spots goes are = within_stay was texts_now (texts_left was texts_now prepared goes) spots are

pub placed_left : (book now : Book) (prepared : Option Prepared) (was texts_now : List (List ℕ)) (spots : List Spot)
    → (now ≡ book) ⊎ (now ≡ with_prepared book prepared) → (texts_now ≡ was) ⊎ (texts_now ≡ texts_with was prepared)
    → ArePlaced was book spots → ArePlaced texts_now now spots
placed_left book now prepared was texts_now spots left goes are =
    placed_stay was texts_now (texts_left was texts_now prepared goes) book now []
    (captures_left book now prepared left ∙ sym (append-nil (captures book))) (grows_left book now prepared left) spots are
