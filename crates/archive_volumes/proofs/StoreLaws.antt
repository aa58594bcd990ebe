-- What a store leaves to be opened, by where it ends.
use Rattle.std.proofs.Common.{◌≡◌, ◌⊎◌, ℕ, ◌≤◌, IsTrue, [], ◌∷◌, length, length-append, Some, None, Result, Ok, Err, OnErr, OnOk, IsErr, is_ok, if◌then◌else◌, refl, sym, ap, subst, ◌∙◌, inl, inr, ⊎_elim, arith}
use Rattle.std.proofs.lemmas.Bool.{false≢true}
use Rattle.capture.specs.Captures.{captures}
use Rattle.capture.specs.declared.book.Book.{Book}
use Rattle.capture.specs.declared.captured.Taken.{Taken}
use Rattle.disk_model.specs.declared.disk.Disk.{Ghosts}
use Rattle.archive_shelf.proofs.CallLaws.{keeps_behind, leaves_no_more_both, leaves_no_more_itself, no_more_keeps}
use Rattle.archive_shelf.proofs.StoringLaws.{captures_stay}
use Rattle.archive_shelf.specs.Contents.{Contents}
use Rattle.archive_shelf.specs.Openings.{HasIds, IsEarlier, IsRefused, IsState, Keeps, KeepsCheckpoints, MayLeave, Moves, SameBook, StaysCovered}
use Rattle.archive_shelf.specs.Storing.{new_volume, with_volume}
use Rattle.archive_volumes.proofs.ChangeLaws.{DiskLaws}
use Rattle.archive_volumes.specs.Writing.{TakesSo, Writes, books_as}
use Rattle.archive_volumes.specs.Volumes.{IsQuiet, Makes, crash_of}

-- a book that is kept where a call is refused
pub stays_refused : {T E : Type 0} (result : Result T E) (now before after : Book) → now ≡ (if is_ok result then after else before) → OnErr result (now ≡ before)
stays_refused (Ok v) now before after is = tt
stays_refused (Err e) now before after is = is

-- what is there once a call is done, and what where it is refused: what was there, or what it made ready first
pub done_is : {A T E : Type 0} (result : Result T E) (now before after : A) → now ≡ (if is_ok result then after else before) → OnOk result (now ≡ after)
done_is (Ok v) now before after is = is
done_is (Err e) now before after is = tt

pub left_ready : {A T E : Type 0} (result : Result T E) (now was before after : A) → now ≡ (if is_ok result then after else before)
    → OnErr result ((now ≡ was) ⊎ (now ≡ before))
left_ready (Ok v) now was before after is = tt
left_ready (Err e) now was before after is = inr is

module _ {D : Type 0} (d : Ghosts D) (laws : DiskLaws d) where
  -- ---- quiet calls

  pub quiet_itself : (disk : D) → IsQuiet d disk disk
  quiet_itself disk = leaves_no_more_itself (crash_of d disk)

  pub quiet_on : (old mid new : D) → IsQuiet d old mid → IsQuiet d mid new → IsQuiet d old new
  quiet_on old mid new first second = leaves_no_more_both (crash_of d old) (crash_of d mid) (crash_of d new) first second

  -- what may be opened since a moment may be since an earlier one
  pub opens_earlier : (disk : D) → IsEarlier (crash_of d disk)
  opens_earlier disk t s book le o = (o.0, o.1, laws.earlier disk t s o.1 le o.2, o.3)

  -- what may be opened after a quiet call might have been before it
  pub quiet_keeps : (old new : D) (book : Book) → IsQuiet d old new → Keeps (crash_of d old) (crash_of d new) book
  quiet_keeps old new book quiet = no_more_keeps (crash_of d old) (crash_of d new) book (opens_earlier new) quiet

  -- after quiet calls what is kept is kept from before them
  pub keeps_from : (old mid new : D) (book : Book) → IsQuiet d old mid → Keeps (crash_of d mid) (crash_of d new) book → Keeps (crash_of d old) (crash_of d new) book
  keeps_from old mid new book quiet keeps = keeps_behind (crash_of d old) (crash_of d mid) (crash_of d new) book (opens_earlier mid) quiet keeps

  -- ---- writing

  -- the ids of a book with a new volume differ as well
  ids_room : (book : Book) (born : ℕ) → HasIds book → HasIds (with_volume book born)
  ids_room book born ids m n less less₂ e =
      let same : length (captures (with_volume book born)) ≡ length (captures book) = ap length (captures_stay book.volumes born) in
      ids m n (omega (arith, less, same)) (omega (arith, less₂, same)) e

  -- a book with a volume is the same as another one where they are equal
  same_room : (book x : Book) (born : ℕ) → SameBook x (with_volume book born) → x ≡ with_volume book born
  same_room book x born (inl is) = is
  same_room book x born (inr none) = absurd (omega (arith, ap length none.1, length-append book.volumes (new_volume born ∷ [])))

  on_err_both : {T E P Q R : Type 0} (result : Result T E) → OnErr result P → OnErr result Q → (P → Q → R) → OnErr result R
  on_err_both (Ok v) p q f = tt
  on_err_both (Err e) p q f = f p q

  -- there is room for the capture
  pub writes_at : {T E : Type 0} (old new : D) (book after now : Book) (result : Result T E)
      → Makes d old new book after result → OnErr result (now ≡ book) → Writes d old new (books_as book book after now) result
  writes_at old new book after now result made stays = record {
    later = made.later;
    moves = λ ids t x le o. ⊎_elim
        (λ was. inl was)
        (λ which. inr (⊎_elim (λ (same : SameBook x book). inl same) (λ (is : x ≡ after). inr (inr is)) which))
        (made.moves ids t x le o);
    only = made.only;
    refused = λ ids. on_err_both result (made.refused ids) stays
        (λ which same. ⊎_elim
        (λ (keeps : Keeps (crash_of d old) (crash_of d new) book). inl (same, keeps))
        (λ (state : IsState (crash_of d new) book (Some after)). inr (inr (subst (λ (b : Book). IsState (crash_of d new) b (Some after)) (sym same) state)))
        which);
    covered = made.covered;
    kept = made.kept;
    just = made.just;
  }

  -- the volume is refused
  pub writes_none : {T E S F : Type 0} (old new : D) (book room after : Book) (fault : E) (answer : Result S F) → IsErr answer
      → Makes {T = T} d old new book room (Err fault) → Writes d old new (books_as book room after book) answer
  writes_none old new book room after fault (Ok v) failed made = absurd (false≢true failed)
  writes_none old new book room after fault (Err f) failed made = record {
    later = made.later;
    moves = λ ids t x le o. ⊎_elim
        (λ was. inl was)
        (λ which. inr (⊎_elim (λ (same : SameBook x book). inl same) (λ (is : x ≡ room). inr (inl is)) which))
        (made.moves ids t x le o);
    only = λ ids. tt;
    refused = λ ids. ⊎_elim
        (λ (keeps : Keeps (crash_of d old) (crash_of d new) book). inl (refl, keeps))
        (λ (state : IsState (crash_of d new) book (Some room)). inr (inl state))
        (made.refused ids);
    covered = made.covered;
    kept = made.kept;
    just = tt;
  }

  -- a volume is begun, and then the capture is added or refused
  pub writes_behind : {T E S F : Type 0} (old mid new : D) (book after now : Book) (born : ℕ) (value : T) (result : Result S F)
      → Makes {E = E} d old mid book (with_volume book born) (Ok value) → Makes d mid new (with_volume book born) after result
      → OnErr result (now ≡ with_volume book born) → Writes d old new (books_as book (with_volume book born) after now) result
  writes_behind old mid new book after now born value result first second stays =
      let room : Book = with_volume book born in
      record {
        later = omega (arith, first.later, second.later);
        moves = λ ids t x le o. ⊎_elim
            (λ was. ⊎_elim
            (λ before. inl before)
            (λ which. inr (⊎_elim (λ (same : SameBook x book). inl same) (λ (is : x ≡ room). inr (inl is)) which))
            (first.moves ids t x le was))
            (λ which. inr (inr (⊎_elim (λ (same : SameBook x room). inl (same_room book x born same)) (λ (is : x ≡ after). inr is) which)))
            (second.moves (ids_room book born ids) t x (omega (arith, le, first.later)) o);
        only = λ ids. second.only (ids_room book born ids);
        refused = λ ids. on_err_both result (second.refused (ids_room book born ids)) stays
            (λ which same. inr (⊎_elim
            (λ (keeps : Keeps (crash_of d mid) (crash_of d new) room). inl (λ x o. ⊎_elim
            (λ (before : (crash_of d mid).openings (crash_of d mid).moment x). ⊎_elim
            (λ (e : SameBook x room). inl (subst (SameBook x) (sym same) e))
            (λ (none : None ≡ Some x). cc)
            (first.only ids x before))
            (λ (e : SameBook x room). inl (subst (SameBook x) (sym same) e))
            (keeps x o)))
            (λ (state : IsState (crash_of d new) room (Some after)).
            inr (subst (λ (b : Book). IsState (crash_of d new) b (Some after)) (sym same) state))
            which));
        covered = λ t le all. second.covered t (omega (arith, le, first.later)) (first.covered t le all);
        kept = λ files has. first.kept files (second.kept files has);
        just = second.just;
      }

  -- a refusal is handed out as another one
  pub writes_refused : {T E S F : Type 0} (old new : D) (book room after now : Book) (fault : E) (answer : Result S F) → IsErr answer
      → Writes {T = T} d old new (books_as book room after now) (Err fault) → Writes d old new (books_as book room after now) answer
  writes_refused old new book room after now fault (Ok v) failed writes = absurd (false≢true failed)
  writes_refused old new book room after now fault (Err f) failed writes = record {
    later = writes.later;
    moves = writes.moves;
    only = λ ids. tt;
    refused = writes.refused;
    covered = writes.covered;
    kept = writes.kept;
    just = tt;
  }

  -- and what was done as what was done
  pub writes_done : {T E S F : Type 0} (old new : D) (book room after now : Book) (value : T) (done : S)
      → Writes {E = E} d old new (books_as book room after now) (Ok value) → Writes {E = F} d old new (books_as book room after now) (Ok done)
  writes_done old new book room after now value done writes = record {
    later = writes.later;
    moves = writes.moves;
    only = writes.only;
    refused = λ ids. tt;
    covered = writes.covered;
    kept = writes.kept;
    just = writes.just;
  }

  -- ---- a store: what only reads, and then writes

  module _ {T E : Type 0} (old mid new : D) (was is : Contents) (taken : Taken) (room after : Book) (result : Result T E)
      (takes : TakesSo d was.limits.volume_bytes was.seen taken room after) (quiet : IsQuiet d old mid)
      (writes : Writes d mid new (books_as was.seen room after is.seen) result) where
    pub store_later : (crash_of d old).moment ≤ (crash_of d new).moment
    store_later = omega (arith, quiet.later, writes.later)

    pub store_covered : StaysCovered (crash_of d old) (crash_of d new)
    store_covered t le all = writes.covered t (omega (arith, le, quiet.later)) (quiet.covered t le all)

    pub store_kept : KeepsCheckpoints (crash_of d old) (crash_of d new)
    store_kept files has = quiet.kept files (writes.kept files has)

    pub store_moves : HasIds was.seen → Moves (crash_of d old) (crash_of d new) (MayLeave was.limits.volume_bytes was.seen taken)
    store_moves ids t x le o = ⊎_elim
        (λ before. ⊎_elim (λ first. inl first) (λ none. absurd none) (quiet.moves t x le before))
        (λ which. inr (⊎_elim
        (λ (same : SameBook x was.seen). inl same)
        (λ other. inr (
          (takes o.0).storing,
          ⊎_elim
              (λ (e : x ≡ room). inl (e ∙ (takes o.0).unfilled))
              (λ (e : x ≡ after). inr (e ∙ (takes o.0).stored))
              other,
        ))
        which))
        (writes.moves ids t x (omega (arith, le, quiet.later)) o)

    pub store_refused : IsTrue d.tells → HasIds was.seen → OnErr result (IsRefused (crash_of d old) (crash_of d new) was is taken)
    store_refused told ids = on_err_both result (writes.refused ids) (on_err result)
        (λ which done. ⊎_elim
        (λ stays. inl (stays.0, keeps_from old mid new was.seen quiet stays.1))
        (λ state. inr (
          (takes told).storing,
          ⊎_elim
              (λ (s : IsState (crash_of d new) is.seen (Some room)).
              inl (subst (λ (b : Book). IsState (crash_of d new) is.seen (Some b)) (takes told).unfilled s))
              (λ (s : IsState (crash_of d new) is.seen (Some after)).
              inr (subst (λ (b : Book). IsState (crash_of d new) is.seen (Some b)) (takes told).stored s))
              state,
        ))
        which)
      where
        on_err : (r : Result T E) → OnErr r (0 ≤ 0)
        on_err (Ok v) = tt
        on_err (Err e) = omega arith
