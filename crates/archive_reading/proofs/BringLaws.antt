-- Calls that only read, one after another, and what they read where the disk tells.
use Rattle.std.proofs.Common.{◌≡◌, ℕ, ◌+◌, ◌<◌, ◌≤◌, ◌≢◌, Bool, true, false, IsTrue, if◌then◌else◌, List, length, take, get_or, Option, Some, None, Ok, Err, refl, sym, ap, subst, ◌∙◌, inr, ⊎_elim, arith}
use Rattle.std.specs.Prelude.{IsFalse, drop, slice_get}
use Rattle.std.specs.Str.{bytes_eq}
use Rattle.std.proofs.lemmas.Bool.{false≢true}
use Rattle.std.proofs.lemmas.List.{length-take}
use Rattle.std.proofs.lemmas.Option.{same_Some, slice_get-get_or}
use Rattle.std.proofs.lemmas.Slice.Eq.{bytes_eq-Decides}
use Rattle.sha1.specs.Sha1.{sha1}
use Rattle.capture.specs.BodyLaws.{WiresHaveOnePayload}
use Rattle.capture.specs.Body.{IsWire}
use Rattle.capture.specs.Captures.{kept_wire, HasPayload, IsPayloadBy}
use Rattle.capture.specs.Message.{IsResponseHeadText}
use Rattle.capture.specs.Methods.{asks_for_head}
use Rattle.capture.specs.Payload.{IsPayload}
use Rattle.capture.specs.Soundness.{IsSoundBy}
use Rattle.capture.specs.declared.book.Book.{Book}
use Rattle.capture.specs.declared.captured.Kept.{Kept}
use Rattle.capture.specs.declared.captured.Kept.TheVariants.{Wire, Same, Cut}
use Rattle.capture.specs.declared.captured.Stored.{Stored}
use Rattle.capture.specs.declared.framing.Framing.{Framing}
use Rattle.disk_model.proofs.MomentLaws.{joined, none_added}
use Rattle.disk_model.specs.Image.{Image}
use Rattle.disk_model.specs.declared.disk.Disk.{Ghosts}
use Rattle.warc_journal.specs.Extents.{texts_in, warc_files}
use Rattle.warc_journal.specs.Journals.{Rests, disk_of, extent_of, texts}
use Rattle.warc_journal.specs.declared.extent.Extent.{Extent}
use Rattle.warc_text.specs.Sound.{IsSound}
use Rattle.archive_shelf.proofs.CallLaws.{leaves_no_more_itself}
use Rattle.archive_shelf.specs.Answers.{IsBrought, IsDamaged, IsNamed, IsReplayable, KeepsPayloadOf}
use Rattle.archive_shelf.specs.Comparing.{KeepsWire}
use Rattle.archive_reading.proofs.DecodeLaws.{one_framing}
use Rattle.archive_reading.specs.Bringing.{AreOf, IsKept, IsReadRight, OnlyReads, brought_of, checked_by, payload_by}
use Rattle.archive_volumes.specs.Volumes.{CanReadBy, IsQuiet, crash_of}
use Rattle.archive_reading.specs.Decoding.{HoldsPayload, IsHead, TellsFraming}
use Rattle.archive_volumes.specs.Held.{book_of}
use Rattle.archive_volumes.specs.Spots.{AreHeldWhole, ArePlaced, AreSpotsOf, AreWithin, HasPlace, IsPlaced, IsSpotOf, RefersBack, form_of, head_in, is_cut_form, is_same_form, is_told_form, text_at, wire_in}
use Rattle.archive_reading.specs.declared.payload.ReadBack.{ReadBack}
use Rattle.archive_reading.specs.declared.payload.ReadBack.TheVariants as back
use Rattle.archive_volumes.specs.declared.spot.Form.{Form}
use Rattle.archive_volumes.specs.declared.spot.Form.TheVariants as forms
use Rattle.archive_volumes.specs.declared.spot.Spot.{Spot}
use Rattle.archive_volumes.specs.declared.volumes.Volumes.{Volumes}

-- ---- one call after another

quiet_then : {D : Type 0} (d : Ghosts D) (old mid new : D) → IsQuiet d old mid → IsQuiet d mid new → IsQuiet d old new
quiet_then d old mid new first second = record {
  later = omega (arith, first.later, second.later);
  moves = λ t x le o. ⊎_elim
      (λ was. first.moves t x le was)
      (λ none. absurd none)
      (second.moves t x (omega (arith, le, first.later)) o);
  covered = λ t le all. second.covered t (omega (arith, le, first.later)) (first.covered t le all);
  kept = λ files has. first.kept files (second.kept files has);
}

rests_then : {D : Type 0} (d : Ghosts D) (old mid new : D) → Rests d old mid → Rests d mid new → Rests d old new
rests_then d old mid new first second = record {
  read = second.read ∙ first.read;
  crash = λ image there. first.crash image (second.crash image there);
  leaves = joined d.moment d.images_since old mid new (λ image. ⊥) first.leaves second.leaves;
}

pub reads_then : {D : Type 0} (d : Ghosts D) (old mid new : Volumes D) → OnlyReads d old mid → OnlyReads d mid new → OnlyReads d old new
reads_then d old mid new first second = record {
  held = second.held ∙ first.held;
  extent = second.extent ∙ first.extent;
  reading = λ told. second.reading told ∙ first.reading told;
  rests = λ told. rests_then d (disk_of old.journal) (disk_of mid.journal) (disk_of new.journal) (first.rests told) (second.rests told);
  in_step = λ in_step. second.in_step (first.in_step in_step);
  holds = λ told holds. second.holds told (first.holds told holds);
  measured = λ measured. second.measured (first.measured measured);
  quiet = quiet_then d (disk_of old.journal) (disk_of mid.journal) (disk_of new.journal) first.quiet second.quiet;
}

-- before the first one
pub reads_itself : {D : Type 0} (d : Ghosts D) (volumes_now : Volumes D) → OnlyReads d volumes_now volumes_now
reads_itself d volumes_now = record {
  held = refl;
  extent = refl;
  reading = λ tells. refl;
  rests = λ tells. record {
    read = refl;
    crash = λ image now. now;
    leaves = none_added d.moment d.images_since (disk_of volumes_now.journal) (λ image. ⊥);
  };
  in_step = λ in_step. in_step;
  holds = λ told holds. holds;
  measured = λ measured. measured;
  quiet = leaves_no_more_itself (crash_of d (disk_of volumes_now.journal));
}

-- the texts stay
pub texts_stay : {D : Type 0} (d : Ghosts D) (old new : Volumes D) → OnlyReads d old new → IsTrue d.tells
    → texts d new.journal ≡ texts d old.journal
texts_stay d old new reads told =
    ap (λ (e : Extent). texts_in e (warc_files (d.reading (disk_of new.journal)))) reads.extent
    ∙ ap (λ (i : Image). texts_in (extent_of old.journal) (warc_files i)) (reads.reading told)

-- ---- a capture that keeps its wire

-- the capture by its place is the one by its number
stored_is : (texts : List (List ℕ)) (book : Book) (number : ℕ) (spot : Spot) (kept : IsKept texts book number spot) → kept.placed.has.stored ≡ kept.is.stored
stored_is texts book number spot kept = same_Some kept.placed.has.stored kept.is.stored (sym kept.placed.has.placed ∙ kept.is.placed)

no_same : (book : Book) (stored : Stored) (kept : Kept) (payload : List ℕ) → is_same_form (form_of kept) ≡ false → IsPayloadBy book stored kept payload
    → HasPayload (is_cut_form (form_of kept)) stored.method stored.head (kept_wire kept) payload
no_same book stored (Wire wire) payload own has = has
no_same book stored (Same first) payload own has = cc
no_same book stored (Cut wire) payload own has = has

-- and stays so
pub kept_on : {D : Type 0} (d : Ghosts D) (old new : Volumes D) → OnlyReads d old new → IsTrue d.tells → (number : ℕ) (spot : Spot)
    → IsKept (texts d old.journal) (book_of old.held) number spot → IsKept (texts d new.journal) (book_of new.held) number spot
kept_on d old new reads told number spot kept =
    subst (λ (t : List (List ℕ)). IsKept t (book_of new.held) number spot) (sym (texts_stay d old new reads told))
    (subst (λ (b : Book). IsKept (texts d old.journal) b number spot) (sym (ap book_of reads.held)) kept)

-- it has its payload by what is kept of it
pub kept_payload : (texts : List (List ℕ)) (book : Book) (number : ℕ) (spot : Spot) (kept : IsKept texts book number spot)
    → HasPayload (is_cut_form spot.form) spot.method (head_in texts spot) (wire_in texts spot) kept.placed.payload
kept_payload texts book number spot kept =
    let stored : Stored = kept.placed.has.stored in
    let same : stored ≡ kept.is.stored = stored_is texts book number spot kept in
    let form : spot.form ≡ form_of stored.kept = kept.is.form kept.read ∙ ap (λ (s : Stored). form_of s.kept) (sym same) in
    let method : spot.method ≡ stored.method = kept.is.method ∙ ap (λ (s : Stored). s.method) (sym same) in
    let payload : List ℕ = kept.placed.payload in
    let has : HasPayload (is_cut_form (form_of stored.kept)) stored.method stored.head (kept_wire stored.kept) payload =
    no_same book stored stored.kept payload (ap is_same_form (sym form) ∙ kept.own) kept.placed.has.by_kept in
    subst (λ (f : Form). HasPayload (is_cut_form f) spot.method (head_in texts spot) (wire_in texts spot) payload) (sym form)
    (subst (λ (m : List ℕ). HasPayload (is_cut_form (form_of stored.kept)) m (head_in texts spot) (wire_in texts spot) payload) (sym method)
    (subst (λ (h : List ℕ). HasPayload (is_cut_form (form_of stored.kept)) stored.method h (wire_in texts spot) payload) (sym (kept.placed.head kept.read))
    (subst (λ (w : List ℕ). HasPayload (is_cut_form (form_of stored.kept)) stored.method stored.head w payload) (sym (kept.placed.wire kept.read)) has)))

pub short_take : (n : ℕ) (xs : List ℕ) → length (take n xs) ≤ n
short_take n xs = omega (arith, length-take n xs)

-- its head tells a framing
pub kept_tells : (texts : List (List ℕ)) (book : Book) (number : ℕ) (spot : Spot) → IsKept texts book number spot
    → TellsFraming spot.method (head_in texts spot) None → ⊥
kept_tells texts book number spot kept none =
    none (is_cut_form spot.form) (wire_in texts spot) kept.placed.payload
    (omega (arith, kept.is.ends, short_take spot.wire_len (drop (spot.head_at + spot.head_len) (text_at texts spot.volume))))
    (kept_payload texts book number spot kept)

-- behind a head that tells a framing stands the payload
pub payload_found : WiresHaveOnePayload → (cut : Bool) (method head wire payload : List ℕ) → HasPayload cut method head wire payload → (framing : Framing)
    → TellsFraming method head (Some framing) → (found : Option (List ℕ)) → HoldsPayload cut framing wire found → found ≡ Some payload
payload_found one cut method head wire payload has framing tells found holds =
    let same = one_framing (asks_for_head method) head has.framing framing (has.parsed, has.whole, has.framed) tells in
    by_found (subst (λ (f : Framing). IsWire cut f wire) same has.wire_is) (subst (λ (f : Framing). IsPayload cut f wire payload) same has.decoded) found holds
  where
    by_found : IsWire cut framing wire → IsPayload cut framing wire payload → (found : Option (List ℕ)) → HoldsPayload cut framing wire found
        → found ≡ Some payload
    by_found wire_is is None holds = absurd (holds wire_is)
    by_found wire_is is (Some other) holds = ap Some (one cut framing wire other payload holds is)

-- and its wire is its payload by that framing
pub found_is : WiresHaveOnePayload → (texts : List (List ℕ)) (book : Book) (number : ℕ) (spot : Spot) (kept : IsKept texts book number spot)
    → (framing : Framing) → TellsFraming spot.method (head_in texts spot) (Some framing)
    → (found : Option (List ℕ)) → HoldsPayload (is_cut_form spot.form) framing (wire_in texts spot) found → found ≡ Some kept.placed.payload
found_is one texts book number spot kept framing tells found holds =
    payload_found one (is_cut_form spot.form) spot.method (head_in texts spot) (wire_in texts spot) kept.placed.payload (kept_payload texts book number spot kept)
    framing tells found holds

-- so it is read back
pub read_right : WiresHaveOnePayload → (texts : List (List ℕ)) (book : Book) (number : ℕ) (spot : Spot) (kept : IsKept texts book number spot)
    → (head : List ℕ) → head ≡ head_in texts spot → (framing : Framing) → TellsFraming spot.method head (Some framing)
    → (found : Option (List ℕ)) → HoldsPayload (is_cut_form spot.form) framing (wire_in texts spot) found
    → IsReadRight book number (checked_by spot.digest head found)
read_right one texts book number spot kept head is framing tells found holds =
    let there : TellsFraming spot.method (head_in texts spot) (Some framing) = subst (λ (h : List ℕ). TellsFraming spot.method h (Some framing)) is tells in
    let found_so : found ≡ Some kept.placed.payload = found_is one texts book number spot kept framing there found holds in
    subst (λ (f : Option (List ℕ)). IsReadRight book number (checked_by spot.digest head f)) (sym found_so)
    (by_test (bytes_eq (sha1 kept.placed.payload) spot.digest) ((bytes_eq-Decides (sha1 kept.placed.payload) spot.digest).1 (sym kept.placed.digest)))
  where
    right : AreOf book number head kept.placed.payload
    right = record { has = kept.placed.has; head_is = is ∙ kept.placed.head kept.read }

    by_test : (b : Bool) → b ≡ true
        → IsReadRight book number (if b then back.Right head kept.placed.payload else back.Damaged (Some (sha1 kept.placed.payload)))
    by_test true e = right
    by_test false e = absurd (false≢true e)

-- what was read, by its payload
pub right_read : (read : ReadBack) (payload : List ℕ) → payload_by read ≡ Ok payload → (head : List ℕ) × (read ≡ back.Right head payload)
right_read (back.Right head other) payload is = (head, cc)
right_read (back.Damaged found) payload is = absurd (no_payload found payload is)
  where
    no_payload : (found : Option (List ℕ)) (payload : List ℕ) → payload_by (back.Damaged found) ≡ Ok payload → ⊥
    no_payload found payload is = cc

pub damaged_read : (read : ReadBack) (found : Option (List ℕ)) → payload_by read ≡ Err found → read ≡ back.Damaged found
damaged_read (back.Right head payload) found is = cc
damaged_read (back.Damaged other) found is = cc

-- ---- a capture by its number

-- what stands at a place of a list
at_index : (spots : List Spot) (k : ℕ) (spot : Spot) → k < length spots → spot ≡ get_or spots k spot → slice_get spots k ≡ Some spot
at_index spots k spot less is = slice_get-get_or spots k spot less ∙ ap Some (sym is)

module _ (book : Book) (spots : List Spot) (number : ℕ) (spot : Spot) (below : number < length spots) (at : spot ≡ get_or spots number spot) where
  pub spot_at : AreSpotsOf book spots → IsSpotOf book number spot
  spot_at are = are.each number spot (at_index spots number spot below at)

  pub place_at : (texts : List (List ℕ)) → ArePlaced texts book spots → IsPlaced texts book number spot
  place_at texts are = are.each number spot (at_index spots number spot below at)

  pub within_at : (texts : List (List ℕ)) → AreWithin texts spots → HasPlace texts spot
  within_at texts are = are.each number spot (at_index spots number spot below at)

module _ (book : Book) (number : ℕ) (spot : Spot) (is : IsSpotOf book number spot) where
  -- of the same payload as an earlier capture, which keeps its wire
  module _ (first : ℕ) (form : spot.form ≡ forms.Same first) where
    pub refers_to : (first < number) × KeepsWire book first
    refers_to = subst (λ (f : Form). RefersBack book number f) form is.refers

    was_read : is_told_form spot.form ≡ false
    was_read = ap is_told_form form

    pub keeps_same : is.stored.kept ≡ Same first
    keeps_same = by_form is.stored.kept (sym (is.form was_read) ∙ form)
      where
        by_form : (kept : Kept) → form_of kept ≡ forms.Same first → kept ≡ Same first
        by_form (Wire wire) e = cc
        by_form (Same other) e = cc
        by_form (Cut wire) e = cc

    pub keeps_payload : KeepsPayloadOf book number first
    keeps_payload = inr (is.stored, is.placed, keeps_same)

    pub keeper_keeps : (keeper : Spot) → IsSpotOf book first keeper → is_same_form keeper.form ≡ false
    keeper_keeps keeper its =
        let keeps : KeepsWire book first = refers_to.1 in
        let same : its.stored ≡ keeps.stored = same_Some its.stored keeps.stored (sym its.placed ∙ keeps.placed) in
        its.revisit ∙ ap is_same_form (ap (λ (s : Stored). form_of s.kept) same ∙ ap form_of keeps.kept)

    same_payload : (head payload : List ℕ) → AreOf book first head payload → IsPayloadBy book is.stored (Same first) payload
    same_payload head payload are =
        let keeps : KeepsWire book first = refers_to.1 in
        let original : Stored = are.has.stored in
        let same : keeps.stored ≡ original = same_Some keeps.stored original (sym keeps.placed ∙ are.has.placed) in
        let kept : original.kept ≡ Wire keeps.wire = ap (λ (s : Stored). s.kept) (sym same) ∙ keeps.kept in (
          original,
          keeps.wire,
          record {
            placed = are.has.placed;
            kept = kept;
            has = subst (λ (k : Kept). IsPayloadBy book original k payload) kept are.has.by_kept;
          },
        )

    module _ (texts : List (List ℕ)) (placed : IsPlaced texts book number spot) (head : List ℕ) (read : head ≡ head_in texts spot) where
      own_head : head ≡ is.stored.head
      own_head = read ∙ placed.head was_read
          ∙ ap (λ (s : Stored). s.head) (same_Some placed.has.stored is.stored (sym placed.has.placed ∙ is.placed))

      pub same_brought : (payload other : List ℕ) → AreOf book first other payload → IsBrought book number (brought_of spot head payload)
      same_brought payload other are = record {
        has = record {
          stored = is.stored;
          placed = is.placed;
          by_kept = subst (λ (k : Kept). IsPayloadBy book is.stored k payload) (sym keeps_same) (same_payload other payload are);
        };
        method = is.method;
        uri = is.uri;
        date = is.date;
        head = own_head;
      }

      -- its own head is a response's
      pub has_head : IsSound book → IsHead head false → ⊥
      has_head sound none =
          let good : IsSoundBy book number is.stored (Same first) =
          subst (λ (k : Kept). IsSoundBy book number is.stored k) keeps_same (sound.sound.each number is.stored is.placed).kept in
          none good.head.parsed (subst (λ (h : List ℕ). IsResponseHeadText h good.head.parsed) (sym own_head) good.head.tells.head_is.whole)

  module _ (head payload : List ℕ) where
    pub replayable : IsHead head true → IsReplayable (brought_of spot head payload)
    replayable parsed = record { head = parsed.0; parsed = parsed.1; in_range = is.in_range }

    pub named : IsNamed book number (brought_of spot head payload)
    named = record { stored = is.stored; placed = is.placed; method = is.method; uri = is.uri; date = is.date }

    pub own_brought : AreOf book number head payload → IsBrought book number (brought_of spot head payload)
    own_brought are =
        let same : is.stored ≡ are.has.stored = same_Some is.stored are.has.stored (sym is.placed ∙ are.has.placed) in
        record {
          has = are.has;
          method = is.method ∙ ap (λ (s : Stored). s.method) same;
          uri = is.uri ∙ ap (λ (s : Stored). s.uri) same;
          date = is.date ∙ ap (λ (s : Stored). s.date) same;
          head = are.head_is;
        }

-- what is never so where the disk tells
pub untold : (tells : Bool) → (IsTrue tells → ⊥) → IsFalse tells
untold true never = absurd (never refl)
untold false never = refl

-- no digest is none of those that are kept
pub no_digest : (kept : List ℕ) → None ≢ Some kept
no_digest kept e = cc

pub damaged : (tells : Bool) (kept : List ℕ) (found : Option (List ℕ)) → (IsTrue tells → ⊥) → found ≢ Some kept → IsDamaged tells kept found
damaged tells kept found never other = record { untold = untold tells never; other = other }

-- ---- the spots stay

pub spots_on : {D : Type 0} (d : Ghosts D) (old new : Volumes D) → OnlyReads d old new → (spots : List Spot)
    → AreSpotsOf (book_of old.held) spots → AreSpotsOf (book_of new.held) spots
spots_on d old new reads spots are = subst (λ (b : Book). AreSpotsOf b spots) (sym (ap book_of reads.held)) are

pub within_on : {D : Type 0} (d : Ghosts D) (old new : Volumes D) → OnlyReads d old new → IsTrue d.tells → (spots : List Spot)
    → AreWithin (texts d old.journal) spots → AreWithin (texts d new.journal) spots
within_on d old new reads told spots are = subst (λ (t : List (List ℕ)). AreWithin t spots) (sym (texts_stay d old new reads told)) are

pub placed_on : {D : Type 0} (d : Ghosts D) (old new : Volumes D) → OnlyReads d old new → IsTrue d.tells → (spots : List Spot)
    → ArePlaced (texts d old.journal) (book_of old.held) spots → ArePlaced (texts d new.journal) (book_of new.held) spots
placed_on d old new reads told spots are =
    subst (λ (t : List (List ℕ)). ArePlaced t (book_of new.held) spots) (sym (texts_stay d old new reads told))
    (subst (λ (b : Book). ArePlaced (texts d old.journal) b spots) (sym (ap book_of reads.held)) are)

pub readable_on : {D : Type 0} (d : Ghosts D) (told : Bool) (old new : Volumes D) → OnlyReads d old new → (spots : List Spot)
    → CanReadBy d told old.journal (book_of old.held) spots → CanReadBy d told new.journal (book_of new.held) spots
readable_on d told old new reads spots can = record {
  holds = reads.holds told can.holds;
  measured = reads.measured can.measured;
  are = spots_on d old new reads spots can.are;
  within = λ tells. within_on d old new reads tells spots (can.within tells);
  placed = λ is. placed_on d old new reads (can.holds.tells is) spots (can.placed is);
}

pub made_on : {D : Type 0} (d : Ghosts D) (old new : Volumes D) → OnlyReads d old new → (spots : List Spot)
    → AreHeldWhole (book_of old.held) spots → AreHeldWhole (book_of new.held) spots
made_on d old new reads spots are = subst (λ (b : Book). AreHeldWhole b spots) (sym (ap book_of reads.held)) are
