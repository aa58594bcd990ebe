-- A capture that is ready can be written and kept.
use Rattle.std.proofs.Common.{◌≡◌, ℕ, ◌+◌, ◌-◌, ◌^◌, ◌<◌, ◌≤◌, Bool, IsTrue, List, [], ◌∷◌, ◌++◌, length, get_or, Option, Some, None, refl, sym, ap, subst, ◌∙◌, arith, length-append}
use Rattle.std.proofs.lemmas.Grind.{get_or-set_at}
use Rattle.std.proofs.lemmas.List.{get_or_push, length-set, length_push}
use Rattle.sha1.specs.Sha1.{sha1}
use Rattle.capture.specs.Captures.{captures, kept_wire, HasPayload}
use Rattle.capture.specs.Tails.{IsCommitted}
use Rattle.capture.specs.declared.book.Book.{Book}
use Rattle.capture.specs.declared.captured.Stored.{Stored}
use Rattle.disk_model.specs.declared.disk.Disk.{Ghosts}
use Rattle.warc_journal.specs.Journals.{IsInStep, last_len, texts, volumes}
use Rattle.warc_journal.specs.Texts.{with_more}
use Rattle.warc_journal.specs.declared.journal.Journal.{Journal}
use Rattle.warc_text.specs.Books.{IsGroupText}
use Rattle.warc_text.specs.Fits.{Fits}
use Rattle.warc_text.specs.References.{reference_of}
use Rattle.warc_text.specs.Sound.{IsSound}
use Rattle.warc_text.specs.StandsFor.{GroupsAreCommitted, commit_byte}
use Rattle.archive_shelf.specs.Comparing.{CanRefer, RefersBy}
use Rattle.archive_shelf.specs.Gaining.{CapturesAddTheirGroup, StoringKeepsSoundness}
use Rattle.archive_shelf.specs.Storing.{as_stored, kept_of, new_volume, with_capture}
use Rattle.archive_volumes.proofs.GroupPlaces.{in_last_volume}
use Rattle.archive_volumes.proofs.KeepLaws.{kept_block, spot_is, spot_placed}
use Rattle.archive_volumes.proofs.RoomLaws.{last_long, texts_count}
use Rattle.archive_volumes.proofs.WayLaws.{group_in_room, room_captures, room_gains, room_some, sound_after}
use Rattle.archive_volumes.specs.Grouping.{IsGroupFor, block_of}
use Rattle.archive_volumes.specs.Held.{book_of, stored_in}
use Rattle.archive_volumes.specs.Ready.{CanCommit, Incoming, IsReady}
use Rattle.archive_volumes.specs.Spots.{HasPlace, IsInVolume, IsPlaced, IsSpotOf, spot_of, text_at}
use Rattle.archive_volumes.specs.Writing.{IsDecided, end_with, texts_with, with_prepared}
use Rattle.archive_volumes.specs.Volumes.{HoldsBook, IsMeasured}
use Rattle.archive_volumes.specs.declared.room.Prepared.{Prepared}
use Rattle.archive_volumes.specs.declared.ready.Ready.{Ready}
use Rattle.archive_volumes.specs.declared.volumes.Volumes.{Volumes}

-- room was made in the same volumes
pub ready_now : {D : Type 0} (old now : Volumes D) (limit : ℕ) (incoming : Incoming) (payload : List ℕ) (ready : Ready)
    → book_of now.held ≡ book_of old.held → now.journal ≡ old.journal → IsReady old now limit incoming payload ready → IsReady now now limit incoming payload ready
ready_now {D} old now limit incoming payload ready book journal is = record {
  stored = is.stored;
  digest = is.digest;
  kept = is.kept;
  group = subst (λ (b : Book). IsGroupFor b incoming.taken payload incoming.same ready.group) (sym book) is.group;
  layout = is.layout;
  room = is.room;
  decided = subst (λ (b : Book). IsDecided limit b (last_len now.journal) (length ready.group) ready.prepared) (sym book)
      (subst (λ (j : Journal D). IsDecided limit (book_of old.held) (last_len j) (length ready.group) ready.prepared) (sym journal) is.decided);
  born = is.born;
  fits = is.fits;
}

-- the texts with the volume that was prepared are as many as the volumes with it
pub with_count : (book : Book) (all : List (List ℕ)) (prepared : Option Prepared) → length all ≡ length book.volumes
    → length (texts_with all prepared) ≡ length (with_prepared book prepared).volumes
with_count book all None count = count
with_count book all (Some p) count = omega (arith, count, length_push all p.info, length-append book.volumes (new_volume p.shadow.born ∷ []))

-- the last of them ends there
pub with_end : {D : Type 0} (d : Ghosts D) (now : Volumes D) (book : Book) (prepared : Option Prepared) → IsInStep d now.journal
    → volumes now.journal ≡ length book.volumes → 0 < length (with_prepared book prepared).volumes
    → length (text_at (texts_with (texts d now.journal) prepared) (length (texts_with (texts d now.journal) prepared) - 1)) ≡ end_with now prepared
with_end d now book None step counted some =
    let all : List (List ℕ) = texts d now.journal in
    let count : length all ≡ volumes now.journal = texts_count d now.journal step in
    ap (λ (n : ℕ). length (get_or all (n - 1) [])) count
    ∙ last_long d now.journal step (omega (arith, some, counted))
with_end d now book (Some p) step counted some =
    let all : List (List ℕ) = texts d now.journal in
    ap length (get_or_push all p.info [] (length (all ++ p.info ∷ []) - 1) (omega (arith, length_push all p.info)))

module _ {D : Type 0} (d : Ghosts D) (known : Bool) (now : Volumes D) (limit : ℕ) (incoming : Incoming) (payload : List ℕ) (ready : Ready)
    (is : IsReady now now limit incoming payload ready) (holds : HoldsBook d known now.journal (book_of now.held))
    (measured : IsMeasured now.journal (book_of now.held)) (fits : Fits incoming.taken)
    (refers : CanRefer incoming.taken.cut (book_of now.held) incoming.same) (digested : incoming.digest ≡ sha1 payload)
    (has : HasPayload incoming.taken.cut incoming.taken.method incoming.taken.head incoming.taken.wire payload)
    (finds : IsTrue known → RefersBy incoming.taken.cut (book_of now.held) (length (captures (book_of now.held))) payload incoming.same) where
  abbrev book : Book
  book = book_of now.held

  abbrev room : Book
  room = with_prepared book ready.prepared

  abbrev stored : Stored
  stored = as_stored incoming.taken incoming.same

  some : 0 < length room.volumes
  some = room_some limit book (last_len now.journal) (length ready.group) ready.prepared is.decided

  ends : (end_with now ready.prepared + ready.layout.head_at) + length (block_of incoming.taken incoming.same) < 2 ^ 62
  ends =
      let block : List ℕ = block_of incoming.taken incoming.same in
      omega (arith, is.fits, ap length is.layout.composed, length-append is.layout.front (block ++ is.layout.rest), length-append block is.layout.rest, is.layout.head_at)

  gains : captures (with_capture room stored) ≡ captures book ++ stored ∷ []
  gains = room_gains book ready.prepared stored some

  -- the head and the wire are within the text that is to stand there
  place : IsInStep d now.journal → HasPlace (with_more (texts_with (texts d now.journal) ready.prepared) ready.group)
      (spot_of stored ready.digest (length room.volumes - 1) (end_with now ready.prepared) (end_with now ready.prepared + ready.layout.head_at))
  place step =
      let all : List (List ℕ) = texts_with (texts d now.journal) ready.prepared in
      let counted : length (texts d now.journal) ≡ length book.volumes = texts_count d now.journal step ∙ measured.count in
      let count : length all ≡ length room.volumes = with_count book (texts d now.journal) ready.prepared counted in
      let k : ℕ = length all - 1 in
      let text : List ℕ = text_at all k in
      let end : ℕ = end_with now ready.prepared in
      let at : ℕ = end + ready.layout.head_at in
      let long : length text ≡ end = with_end d now book ready.prepared step measured.count some in
      let more : text_at (with_more all ready.group) k ≡ text ++ ready.group = get_or-set_at all k k (text ++ ready.group) [] refl (omega (arith, some, count)) in
      let block : List ℕ = block_of incoming.taken incoming.same in
      let wire : List ℕ = kept_wire (kept_of incoming.taken.cut incoming.taken.wire incoming.same) in
      let reach : length (text_at (with_more all ready.group) k) ≡ end + length ready.group =
      omega (arith, ap length more, length-append text ready.group, long) in
      let kept : length incoming.taken.head + length wire ≡ length block =
      sym (length-append incoming.taken.head wire) ∙ ap length (kept_block book incoming.taken incoming.same refers) in
      let fits_in : ready.layout.head_at + length block ≤ length ready.group =
      omega (arith, ap length is.layout.composed, length-append is.layout.front (block ++ is.layout.rest), length-append block is.layout.rest, is.layout.head_at) in
      subst (λ (n : ℕ). HasPlace (with_more all ready.group) (spot_of stored ready.digest (n - 1) end at)) count (record {
        there = omega (arith, length-set all k (text ++ ready.group), some, count);
        begins = omega (arith, reach);
        within = omega (arith, reach, kept, fits_in);
      })

  placed : CapturesAddTheirGroup → IsTrue known
      → IsPlaced (with_more (texts_with (texts d now.journal) ready.prepared) ready.group) (with_capture room stored) (length (captures book))
      (spot_of stored ready.digest (length room.volumes - 1) (end_with now ready.prepared) (end_with now ready.prepared + ready.layout.head_at))
  placed add told =
      let all : List (List ℕ) = texts_with (texts d now.journal) ready.prepared in
      let count : length all ≡ length room.volumes = with_count book (texts d now.journal) ready.prepared (holds.texts_are told).count in
      let end : ℕ = end_with now ready.prepared in
      let at : ℕ = end + ready.layout.head_at in
      subst (λ (n : ℕ). IsPlaced (with_more all ready.group) (with_capture room stored) (length (captures book)) (spot_of stored ready.digest (n - 1) end at)) count
      (subst (λ (digest : List ℕ). IsPlaced (with_more all ready.group) (with_capture room stored) (length (captures book)) (spot_of stored digest (length all - 1) end at))
      (sym (is.digest ∙ digested))
      (spot_placed book (with_capture room stored) incoming.taken incoming.same gains all ready.group payload ready.layout (end_with now ready.prepared)
      (omega (arith, some, count)) (with_end d now book ready.prepared (holds.in_step (holds.tells told)) measured.count some) is.layout (holds.sound told) refers has (finds told)
      (subst (λ (all : List Stored). IsGroupText (with_capture room stored) (length all) ready.group) (room_captures book ready.prepared)
      (group_in_room d now.journal book incoming.taken payload incoming.same ready.group told holds has (finds told) is.group ready.prepared some))))

  pub can_commit : GroupsAreCommitted → CapturesAddTheirGroup → StoringKeepsSoundness → limit < 2 ^ 62 → length (captures (book_of now.held)) + 1 < 2 ^ 32 - 1
      → CanCommit d known now ready
  can_commit committed add keep small few = record {
    room = is.room;
    kept = is.kept;
    committed = subst (IsCommitted commit_byte) (sym is.group.composed)
        (committed book.namespace (length (captures book)) incoming.taken (sha1 payload) (reference_of book.namespace is.group.other));
    fits = is.fits;
    gains = room_gains book ready.prepared (stored_in ready.stored) some;
    spot = subst (λ (s : Stored). IsSpotOf (with_capture room s) (length (captures book))
        (spot_of s ready.digest (length room.volumes - 1) (end_with now ready.prepared) (end_with now ready.prepared + ready.layout.head_at))) (sym is.stored)
        (spot_is book (with_capture room stored) incoming.taken incoming.same gains ready.digest payload has (is.digest ∙ digested) (length room.volumes - 1)
        (end_with now ready.prepared) (end_with now ready.prepared + ready.layout.head_at) fits refers ends
        (subst (λ (all : List Stored). IsInVolume (with_capture room stored) (length all) (length room.volumes - 1)) (room_captures book ready.prepared)
        (in_last_volume room stored some)));
    group = λ told. subst (λ (s : Stored). IsGroupText (with_capture room s) (length (captures room)) ready.group) (sym is.stored)
        (group_in_room d now.journal book incoming.taken payload incoming.same ready.group told holds has (finds told) is.group ready.prepared some);
    sound = λ told. subst (λ (s : Stored). IsSound (with_capture room s)) (sym is.stored)
        (sound_after d now.journal book incoming.taken payload incoming.same ready.group told holds has (finds told) is.group add keep measured.count limit
        ready.prepared is.born is.decided fits small few);
    within = λ tells. subst (λ (s : Stored). HasPlace (with_more (texts_with (texts d now.journal) ready.prepared) ready.group)
        (spot_of s ready.digest (length room.volumes - 1) (end_with now ready.prepared) (end_with now ready.prepared + ready.layout.head_at))) (sym is.stored)
        (place (holds.in_step tells));
    placed = λ told. subst (λ (s : Stored). IsPlaced (with_more (texts_with (texts d now.journal) ready.prepared) ready.group) (with_capture room s)
        (length (captures book)) (spot_of s ready.digest (length room.volumes - 1) (end_with now ready.prepared)
        (end_with now ready.prepared + ready.layout.head_at))) (sym is.stored)
        (placed add told);
  }
