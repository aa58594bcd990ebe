-- How a book takes a capture, by what is found, by the room that is made and by its group.
use Rattle.std.proofs.Common.{◌≡◌, ℕ, ◌+◌, ◌-◌, ◌^◌, ◌<◌, Bool, true, IsTrue, List, [], ◌∷◌, ◌++◌, length, Option, Some, None, refl, sym, ap, subst, ◌∙◌, inl, inr, ⊎_elim, arith, length-append}
use Rattle.std.specs.Prelude.{IfSome}
use Rattle.std.proofs.lemmas.Bool.{false≢true}
use Rattle.capture.specs.Captures.{captures, HasPayload}
use Rattle.capture.specs.declared.book.Book.{Book}
use Rattle.capture.specs.declared.book.Volume.{Volume}
use Rattle.capture.specs.declared.captured.Stored.{Stored}
use Rattle.capture.specs.declared.captured.Taken.{Taken}
use Rattle.disk_model.specs.declared.disk.Disk.{Ghosts}
use Rattle.warc_journal.specs.Journals.{last_len, volumes}
use Rattle.warc_journal.specs.declared.journal.Journal.{Journal}
use Rattle.warc_text.specs.Books.{IsGroupText}
use Rattle.warc_text.specs.Fits.{Fits}
use Rattle.warc_text.specs.Sound.{IsSound}
use Rattle.archive_shelf.proofs.GainingSoundness.{no_volumes}
use Rattle.archive_shelf.proofs.StoringLaws.{captures_more, captures_stay, IsUnfilled}
use Rattle.archive_shelf.specs.Comparing.{IsSameAs, RefersBy}
use Rattle.archive_shelf.specs.Gaining.{CapturesAddTheirGroup, StoringKeepsSoundness}
use Rattle.archive_shelf.specs.Answers.{IsByRule}
use Rattle.archive_shelf.specs.Storing.{NeedsVolume, as_stored, new_volume, with_capture, with_volume}
use Rattle.archive_shelf.specs.declared.receipt.Receipt.{Receipt}
use Rattle.archive_volumes.proofs.ChangeLaws.{no_volumes_by}
use Rattle.archive_volumes.proofs.RoomLaws.{room_past, room_within}
use Rattle.archive_volumes.proofs.TakenGroup.{IsGroupWith, group_by}
use Rattle.archive_volumes.specs.Grouping.{IsGroupFor}
use Rattle.archive_volumes.specs.Held.{is_filled}
use Rattle.archive_volumes.specs.Writing.{IsDecided, IsWay, with_prepared}
use Rattle.archive_volumes.specs.Volumes.{HoldsBook, muted}
use Rattle.archive_volumes.specs.declared.room.Prepared.{Prepared}

some_filled : (volumes : List Volume) → is_filled volumes ≡ true → 0 < length volumes
some_filled [] is = absurd (false≢true is)
some_filled (v ∷ vs) is = omega arith

-- there is a volume for the capture
pub room_some : (limit : ℕ) (book : Book) (end group : ℕ) (prepared : Option Prepared) → IsDecided limit book end group prepared
    → 0 < length (with_prepared book prepared).volumes
room_some limit book end group None decided = decided.0
room_some limit book end group (Some p) decided = omega (arith, length-append book.volumes (new_volume p.shadow.born ∷ []))

-- the captures of the book with room
pub room_captures : (book : Book) (prepared : Option Prepared) → captures (with_prepared book prepared) ≡ captures book
room_captures book None = refl
room_captures book (Some p) = captures_stay book.volumes p.shadow.born

pub room_namespace : (book : Book) (prepared : Option Prepared) → (with_prepared book prepared).namespace ≡ book.namespace
room_namespace book None = refl
room_namespace book (Some p) = refl

-- and those with the capture
pub room_gains : (book : Book) (prepared : Option Prepared) (stored : Stored) → 0 < length (with_prepared book prepared).volumes
    → captures (with_capture (with_prepared book prepared) stored) ≡ captures book ++ stored ∷ []
room_gains book prepared stored some =
    captures_more (with_prepared book prepared).volumes stored (no_volumes (with_prepared book prepared).volumes some)
    ∙ ap (λ (l : List Stored). l ++ stored ∷ []) (room_captures book prepared)

-- where a volume was begun for the capture it needed that
pub needed_by : {D : Type 0} (d : Ghosts D) (limit : ℕ) (book : Book) (taken : Taken) (born : ℕ) (after : Book)
    → IsWay d limit book taken (with_volume book born) after
    → (same : Option ℕ) × IsSameAs book taken same × NeedsVolume limit book (as_stored taken same) true
needed_by d limit book taken born after way_is = by way_is.storing.roomy
  where
    by : IsUnfilled limit book (as_stored taken way_is.storing.same) way_is.storing.unfilled
        → (same : Option ℕ) × IsSameAs book taken same × NeedsVolume limit book (as_stored taken same) true
    by (inl room) = absurd (omega (arith, ap (λ (b : Book). length b.volumes) (way_is.unfilled ∙ room.1), length-append book.volumes (new_volume born ∷ [])))
    by (inr needs) = (way_is.storing.same, way_is.storing.refers, needs.0)

module _ {D : Type 0} (d : Ghosts D) (journal : Journal D) (book : Book) (taken : Taken) (payload : List ℕ) (same : Option ℕ) (group : List ℕ)
    {known : Bool} (told : IsTrue known) (holds : HoldsBook d known journal book) (has : HasPayload taken.cut taken.method taken.head taken.wire payload)
    (refers : RefersBy taken.cut book (length (captures book)) payload same) (is : IsGroupFor book taken payload same group) where
  abbrev stored : Stored
  stored = as_stored taken same

  -- the group is that of the capture, with its payload, in each book that gains it
  pub group_with : (new : Book) → new.namespace ≡ book.namespace → captures new ≡ captures book ++ as_stored taken same ∷ []
      → IsGroupWith new (length (captures book)) payload group
  group_with new namespace gains =
      group_by book new taken.method taken.uri taken.date taken.request taken.head taken.wire payload (holds.sound told) namespace
      taken.cut same is.other group gains has refers is.tells is.composed

  group_in : (new : Book) → new.namespace ≡ book.namespace → captures new ≡ captures book ++ as_stored taken same ∷ []
      → IsGroupText new (length (captures book)) group
  group_in new namespace gains = (group_with new namespace gains).is

  pub group_in_room : (prepared : Option Prepared) → 0 < length (with_prepared book prepared).volumes
      → IsGroupText (with_capture (with_prepared book prepared) (as_stored taken same)) (length (captures (with_prepared book prepared))) group
  group_in_room prepared some =
      subst (λ (n : ℕ). IsGroupText (with_capture (with_prepared book prepared) stored) n group) (sym (ap length (room_captures book prepared)))
      (group_in (with_capture (with_prepared book prepared) stored) (room_namespace book prepared) (room_gains book prepared stored some))

  -- the group in the book without a new volume
  here : 0 < length book.volumes → IsGroupText (with_capture book stored) (length (captures book)) group
  here some = group_in (with_capture book stored) refl (captures_more book.volumes stored (no_volumes book.volumes some))

  unfilled : CapturesAddTheirGroup → volumes journal ≡ length book.volumes → (limit : ℕ) (prepared : Option Prepared)
      → IfSome prepared (λ (p : Prepared). p.shadow.born ≡ taken.date) → IsDecided limit book (last_len journal) (length group) prepared
      → IsUnfilled limit book stored (with_prepared book prepared)
  unfilled add count limit None born decided =
      inl (room_within d journal book stored group told holds count decided.0 add (here decided.0) limit decided.1, refl)
  unfilled add count limit (Some p) born decided = inr (
    ⊎_elim
        (λ (none : length book.volumes ≡ 0). inl (no_volumes_by book.volumes none))
        (λ (full : (is_filled book.volumes ≡ true) × (limit < last_len journal + length group)).
        let some : 0 < length book.volumes = some_filled book.volumes full.0 in
        room_past d journal book stored group told holds count some add (here some) limit full.0 full.1)
        decided,
    ap (with_volume book) born,
  )

  -- the book takes the capture so
  pub way : CapturesAddTheirGroup → volumes journal ≡ length book.volumes → (limit : ℕ) (prepared : Option Prepared)
      → IfSome prepared (λ (p : Prepared). p.shadow.born ≡ taken.date) → IsDecided limit book (last_len journal) (length group) prepared
      → IsWay (muted known d) limit book taken (with_prepared book prepared) (with_capture (with_prepared book prepared) (as_stored taken same))
  way add count limit prepared born decided = record {
    told = told;
    storing = record {
      same = same;
      unfilled = with_prepared book prepared;
      refers = record { payload = payload; has = has; refers = refers };
      roomy = unfilled add count limit prepared born decided;
    };
    unfilled = refl;
    stored = refl;
  }

  -- which is the rule
  pub by_rule : CapturesAddTheirGroup → volumes journal ≡ length book.volumes → (limit : ℕ) (prepared : Option Prepared)
      → IfSome prepared (λ (p : Prepared). p.shadow.born ≡ taken.date) → IsDecided limit book (last_len journal) (length group) prepared
      → (receipt : Receipt) (after : Book) → receipt.same_as ≡ same
      → after ≡ with_capture (with_prepared book prepared) (as_stored taken same) → IsByRule limit book taken receipt after
  by_rule add count limit prepared born decided receipt after names stored_is = (
    record {
      same = same;
      unfilled = with_prepared book prepared;
      refers = record { payload = payload; has = has; refers = refers };
      roomy = unfilled add count limit prepared born decided;
    },
    names,
    stored_is,
  )

  -- and it stays sound
  pub sound_after : CapturesAddTheirGroup → StoringKeepsSoundness → volumes journal ≡ length book.volumes → (limit : ℕ) (prepared : Option Prepared)
      → IfSome prepared (λ (p : Prepared). p.shadow.born ≡ taken.date) → IsDecided limit book (last_len journal) (length group) prepared
      → Fits taken → limit < 2 ^ 62 → length (captures book) + 1 < 2 ^ 32 - 1
      → IsSound (with_capture (with_prepared book prepared) (as_stored taken same))
  sound_after add keep count limit prepared born decided fits small few =
      (keep limit book taken (record {
        same = same;
        unfilled = with_prepared book prepared;
        refers = record { payload = payload; has = has; refers = refers };
        roomy = unfilled add count limit prepared born decided;
      }) fits (holds.sound told) small few).1
