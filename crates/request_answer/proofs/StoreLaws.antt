-- What images do in a round that asks the shelf, by what its calls promise.
use Rattle.std.proofs.Common.{◌≡◌, ◌≢◌, ◌⊎◌, inl, inr, ℕ, Bool, [], ◌∷◌, Option, Some, None, refl, sym, ◌∙◌, ap, subst, lit<}
use Rattle.std.specs.Prelude.{unwrap_or}
use Rattle.archive_shelf.proofs.CallLaws.{no_more, opened_before}
use Rattle.archive_shelf.specs.Openings.{HasIds, IsEarlier, SameBook}
use Rattle.archive_shelf.specs.Storing.{Storing, stored_by}
use Rattle.archive_shelf.specs.Told.{Told, WritesNothing}
use Rattle.capture.specs.declared.book.Book.{Book}
use Rattle.capture.specs.declared.captured.Taken.{Taken}
use Rattle.capture.specs.declared.site.Site.{Site}
use Rattle.http_head.specs.declared.head.Received.{Received}
use Rattle.warc_journal.specs.Extents.{cdxj_files}
use Rattle.request_answer.specs.Exchanges.{Exchange, HasRoom, taken_of}
use Rattle.request_answer.specs.Images.{Deed, NoDeed, Stores, IsDenied, deed_of, OpensBehind, KeepsImages}
use Rattle.request_answer.specs.Rounds.{Round}
use Rattle.request_answer.specs.steps.Shelving.{HasKept, WasDenied}
use Rattle.request_answer.specs.Traces.{Terms, Traces, terms_of}

-- ---- nothing was written

-- a round in which nothing was written
pub images_unwritten : (alone : Bool) (site : Site) (r : Round) (was is : Told) → deed_of r.outcome ≡ NoDeed → IsEarlier is.crash
    → WritesNothing alone was is → KeepsImages (terms_of site alone was.contents) (r ∷ []) was is
images_unwritten alone site r was is deed earlier h = record {
  later = h.crash.later;
  covered = h.crash.covered;
  reading = λ is_alone tells none. h.reading is_alone tells;
  checkpoints = λ is_alone tells. ap cdxj_files (h.reading is_alone tells);
  opened = λ is_alone ids t x le o. inl (no_more (h.crash.moves t x le o));
  left = λ is_alone tells ids x o.
      subst (λ (d : Deed). OpensBehind (terms_of site alone was.contents) r.traces d (λ b. was.crash.openings was.crash.moment b) x) (sym deed)
      (opened_before was.crash is.crash earlier h.crash x o);
}

-- ---- a capture was stored

-- what a store may leave, of the book that it found
leaves_of : (limit : ℕ) (taken : Taken) (x a b : Book) → b ≡ a
    → SameBook x a ⊎ ((storing : Storing limit a taken) × ((x ≡ storing.unfilled) ⊎ (x ≡ stored_by storing)))
    → SameBook x b ⊎ ((storing : Storing limit b taken) × ((x ≡ storing.unfilled) ⊎ (x ≡ stored_by storing)))
leaves_of limit taken x a b e h =
    subst (λ (book : Book). SameBook x book ⊎ ((storing : Storing limit book taken) × ((x ≡ storing.unfilled) ⊎ (x ≡ stored_by storing)))) (sym e) h

no_other : {A : Type 0} {x : A} {P : Type 0} → None ≡ Some x → P
no_other e = let bad : ⊥ = cc in absurd bad

stored_some : {P : Type 0} (deed : Deed) (e : Exchange) (received : Received) → deed ≡ Stores e received → deed ≡ NoDeed → P
stored_some deed e received h none = let bad : ⊥ = cc in absurd bad

ids_stored : (deed : Deed) (e : Exchange) (received : Received) (book : Book) → deed ≡ Stores e received → (deed ≢ NoDeed → HasIds book)
    → HasIds book
ids_stored deed e received book h ids = ids (λ none. stored_some deed e received h none)

-- a round that stored the capture of its exchange
pub images_stored : (alone : Bool) (site : Site) (r : Round) (e : Exchange) (was is : Told)
    → HasKept alone site r e was is → KeepsImages (terms_of site alone was.contents) (r ∷ []) was is
images_stored alone site r e was is h =
    let terms : Terms = terms_of site alone was.contents in
    let crash = h.stores.crash in
    record {
      later = crash.later;
      covered = crash.covered;
      reading = λ is_alone tells none. stored_some (deed_of r.outcome) e h.room.received h.deed (none r (0, lit< tt, refl));
      checkpoints = λ is_alone tells. (h.stores.reading is_alone tells).1;
      opened = λ is_alone ids t x le o. elim (crash.moves (rw (sym (h.found is_alone)) (ids_stored (deed_of r.outcome) e h.room.received r.traces.before.book h.deed ids.0)) t x le o) [
        | inl p ↦ inl p
        | inr m ↦ inr (inl (
          e,
          h.room,
          inl h.deed,
          leaves_of was.contents.limits.volume_bytes (taken_of e h.room.fetched.date h.room.received) x was.contents.seen r.traces.before.book (h.found is_alone) m,
        ))
      ];
      left = λ is_alone tells ids x o. subst (λ (d : Deed). OpensBehind terms r.traces d (λ b. was.crash.openings was.crash.moment b) x) (sym h.deed)
          (elim (crash.only (rw (sym (h.found is_alone)) (ids_stored (deed_of r.outcome) e h.room.received r.traces.before.book h.deed ids.0)) x o) [
            | inl same ↦ rw h.after same
            | inr bad ↦ no_other bad
          ]);
    }

-- ---- the disk refused the store

denied_of : (terms : Terms) (e : Exchange) (traces : Traces) (room : HasRoom terms e traces) (x a : Book) → traces.before.book ≡ a
    → (storing : Storing terms.limits.volume_bytes a (taken_of e room.fetched.date room.received)) → (x ≡ storing.unfilled) ⊎ (x ≡ stored_by storing)
    → (its_room : HasRoom terms e traces)
    × (s : Storing terms.limits.volume_bytes traces.before.book (taken_of e its_room.fetched.date its_room.received))
    × ((x ≡ s.unfilled) ⊎ (x ≡ stored_by s))
denied_of terms e traces room x a same storing is =
    let told : (s : Storing terms.limits.volume_bytes traces.before.book (taken_of e room.fetched.date room.received)) × ((x ≡ s.unfilled) ⊎ (x ≡ stored_by s)) =
    subst (λ (book : Book). (s : Storing terms.limits.volume_bytes book (taken_of e room.fetched.date room.received)) × ((x ≡ s.unfilled) ⊎ (x ≡ stored_by s))) (sym same) (storing, is) in
    (room, told.0, told.1)

just_this : (x y : Book) → Some y ≡ Some x → x ≡ y
just_this x y e = sym (ap (λ (o : Option Book). unwrap_or o y) e)

denied_some : {P : Type 0} (deed : Deed) (e : Exchange) → deed ≡ IsDenied e → deed ≡ NoDeed → P
denied_some deed e h none = let bad : ⊥ = cc in absurd bad

ids_denied : (deed : Deed) (e : Exchange) (book : Book) → deed ≡ IsDenied e → (deed ≢ NoDeed → HasIds book) → HasIds book
ids_denied deed e book h ids = ids (λ none. denied_some deed e h none)

-- a round whose store the disk refused
pub images_denied : (alone : Bool) (site : Site) (r : Round) (e : Exchange) (was is : Told)
    → WasDenied alone site r e was is → KeepsImages (terms_of site alone was.contents) (r ∷ []) was is
images_denied alone site r e was is h =
    let terms : Terms = terms_of site alone was.contents in
    let crash = h.stores.crash in
    record {
      later = crash.later;
      covered = crash.covered;
      reading = λ is_alone tells none. denied_some (deed_of r.outcome) e h.deed (none r (0, lit< tt, refl));
      checkpoints = λ is_alone tells. (h.stores.reading is_alone tells).1;
      opened = λ is_alone ids t x le o. elim (crash.moves (rw (sym (h.found is_alone)) (ids_denied (deed_of r.outcome) e r.traces.before.book h.deed ids.0)) t x le o) [
        | inl p ↦ inl p
        | inr m ↦ inr (inl (
          e,
          h.room,
          inr h.deed,
          leaves_of was.contents.limits.volume_bytes (taken_of e h.room.fetched.date h.room.received) x was.contents.seen r.traces.before.book (h.found is_alone) m,
        ))
      ];
      left = λ is_alone tells ids x o. subst (λ (d : Deed). OpensBehind terms r.traces d (λ b. was.crash.openings was.crash.moment b) x) (sym h.deed)
          (elim (crash.refused is_alone tells (rw (sym (h.found is_alone)) (ids_denied (deed_of r.outcome) e r.traces.before.book h.deed ids.0)) refl) [
            | inl (stays, keeps) ↦ elim (keeps x o) [
              | inl p ↦ inl (h.after ∙ stays ∙ sym (h.found is_alone), p)
              | inr same ↦ inr (inl (rw (h.after, stays) same))
            ]
            | inr (storing, state) ↦ elim state [
              | inl unfilled ↦ elim (unfilled x o) [
                | inl same ↦ inr (inl (rw h.after same))
                | inr other ↦ inr (inr (denied_of terms e r.traces h.room x was.contents.seen (h.found is_alone) storing (inl (just_this x storing.unfilled other))))
              ]
              | inr stored ↦ elim (stored x o) [
                | inl same ↦ inr (inl (rw h.after same))
                | inr other ↦ inr (inr (denied_of terms e r.traces h.room x was.contents.seen (h.found is_alone) storing (inr (just_this x (stored_by storing) other))))
              ]
            ]
          ]);
    }
