-- The committing turn of a store.
use Rattle.std.proofs.Common.{◌≡◌, ◌≢◌, ◌⊎◌, ℕ, suc, ◌+◌, ◌<◌, ◌≤◌, Bool, true, false, not, IsTrue, List, [], ◌∷◌, ◌++◌, length, Option, Result, Ok, Err, refl, sym, ap, subst, ◌∙◌, inl, inr, arith}
use Rattle.std.specs.Prelude.{Contains, IfOk, MatchBool, Some, None}
use Rattle.std.proofs.lemmas.List.Elements.{Contains-append_left}
use Rattle.std.proofs.lemmas.List.{length-append}
use Rattle.capture.specs.Captures.{captures}
use Rattle.capture.specs.declared.book.Book.{Book}
use Rattle.capture.specs.declared.book.Volume.{Volume}
use Rattle.capture.specs.declared.captured.Stored as captured
use Rattle.capture.specs.declared.captured.Taken.{Taken}
use Rattle.capture.specs.declared.limits.Limits.{Limits}
use Rattle.disk_model.specs.declared.disk.Disk.{Ghosts}
use Rattle.warc_journal.specs.Journals.{disk_of}
use Rattle.warc_text.specs.Sound.{IsSound}
use Rattle.archive_shelf.specs.Answers.{HasVolumeAlone, IsByRule, StoreLeaves}
use Rattle.archive_shelf.specs.Contents.{Contents, LeadsShown}
use Rattle.archive_shelf.specs.Comparing.{CanRefer, RefersAsShown, RefersByDigest}
use Rattle.archive_shelf.specs.Storing.{Gains, add_to_last, as_stored, new_volume, with_capture, with_volume}
use Rattle.archive_shelf.specs.declared.fault.StoreFault.{StoreFault}
use Rattle.archive_shelf.specs.declared.fault.StoreFault.TheVariants as stores
use Rattle.archive_shelf.specs.declared.receipt.Receipt.{Receipt}
use Rattle.archive_core.specs.Holdings.{Holdings, contents_of}
use Rattle.archive_core.specs.Stores.{Stores}
use Rattle.archive_index.specs.Shown.{numbered}
use Rattle.index_entry.specs.Facts.{Facts}
use Rattle.history_lock.specs.Seen.{Adds, All}
use Rattle.vault_turns.specs.Guarded.{Stands}
use Rattle.vault_turns.specs.History.{after_kind, book_after, by_of, is_told, told_book, told_limits}
use Rattle.vault_turns.specs.Noting.{IsNoteOf, Notes, Noting, beginning, failing}
use Rattle.vault_turns.specs.Own.{AreCounted}
use Rattle.vault_turns.specs.Turns.{BeginsAtMost, CommitAnswers, Commits, IsStoring}
use Rattle.vault_turns.specs.declared.noted.Kind.{Kind}
use Rattle.vault_turns.specs.declared.noted.Kind.TheVariants.{Opened, Began, Stored, Failed}
use Rattle.vault_turns.specs.declared.noted.Noted.{Noted}
use Rattle.vault_turns.proofs.FaultLaws.{store_counted}
use Rattle.vault_turns.proofs.HistoryLaws.{as_told, begun_append, limits_append, told_append, told_stays}

-- ---- whether a volume was begun

-- what a comparison of two counts told
pub differs_by : (b : Bool) (m n now before : ℕ) → (b ≡ true → m ≡ n) → (b ≡ false → m ≢ n) → m ≡ now → n ≡ before
    → MatchBool (not b) (now ≢ before) (now ≡ before)
differs_by true m n now before same other is was = sym is ∙ (same refl ∙ was)
differs_by false m n now before same other is was = λ e. other refl (is ∙ (e ∙ sym was))

-- the book with a volume begun, or without
abbrev begun_book : Bool → Book → ℕ → Book
begun_book true book at = with_volume book at
begun_book false book at = book

add_length : (volumes : List Volume) (stored : captured.Stored) → length (add_to_last volumes stored) ≡ length volumes
add_length [] stored = refl
add_length (last ∷ []) stored = refl
add_length (first ∷ next ∷ others) stored = ap (λ (n : ℕ). suc n) (add_length (next ∷ others) stored)

more_length : (volumes : List Volume) (at : ℕ) → length (volumes ++ new_volume at ∷ []) ≡ length volumes + 1
more_length volumes at = length-append volumes (new_volume at ∷ [])

module _ (old new : Book) where
  abbrev Tells : Bool → Type 0
  Tells began = MatchBool began (length new.volumes ≢ length old.volumes) (length new.volumes ≡ length old.volumes)

  same_room : (stored : captured.Stored) (gains : Gains old stored new) → gains.room ≡ old → new ≡ with_capture old stored
  same_room stored gains is = gains.gained ∙ ap (λ (b : Book). with_capture b stored) is

  more_room : (stored : captured.Stored) (gains : Gains old stored new) → gains.room ≡ with_volume old stored.date
      → new ≡ with_capture (with_volume old stored.date) stored
  more_room stored gains is = gains.gained ∙ ap (λ (b : Book). with_capture b stored) is

  same_length : (stored : captured.Stored) → new ≡ with_capture old stored → length new.volumes ≡ length old.volumes
  same_length stored is = ap (λ (b : Book). length b.volumes) is ∙ add_length old.volumes stored

  other_length : (stored : captured.Stored) → new ≡ with_capture (with_volume old stored.date) stored
      → length new.volumes ≡ length old.volumes + 1
  other_length stored is = ap (λ (b : Book). length b.volumes) is
      ∙ (add_length (old.volumes ++ new_volume stored.date ∷ []) stored ∙ more_length old.volumes stored.date)

  room_by : (stored : captured.Stored) (gains : Gains old stored new) (began : Bool)
      → ((old.volumes ≢ []) × (gains.room ≡ old)) ⊎ (gains.room ≡ with_volume old stored.date) → Tells began
      → new ≡ with_capture (begun_book began old stored.date) stored
  room_by stored gains true (inl same) tells = absurd (tells (same_length stored (same_room stored gains same.1)))
  room_by stored gains true (inr more) tells = more_room stored gains more
  room_by stored gains false (inl same) tells = same_room stored gains same.1
  room_by stored gains false (inr more) tells =
      let grown = other_length stored (more_room stored gains more) in absurd (omega (arith, grown, tells))

  gained_by : (stored : captured.Stored) (began : Bool) → Gains old stored new → Tells began
      → new ≡ with_capture (begun_book began old stored.date) stored
  gained_by stored began gains tells = room_by stored gains began gains.roomy tells

  left_by : (at : ℕ) (began : Bool) → (new ≡ old) ⊎ (new ≡ with_volume old at) → Tells began → new ≡ begun_book began old at
  left_by at true (inl same) tells = absurd (tells (ap (λ (b : Book). length b.volumes) same))
  left_by at true (inr more) tells = more
  left_by at false (inl same) tells = same
  left_by at false (inr more) tells =
      let grown : length new.volumes ≡ length old.volumes + 1 = ap (λ (b : Book). length b.volumes) more ∙ more_length old.volumes at in
      absurd (omega (arith, grown, tells))

-- ---- the book that the history tells

storing_kind : (book : Book) (taken : Taken) (same : Option ℕ) (kind : Kind) → IsStoring taken same kind
    → after_kind book kind ≡ with_capture book (as_stored taken same)
storing_kind book taken same (Opened held limits told list faults sure) is = absurd is
storing_kind book taken same (Began at) is = absurd is
storing_kind book taken same (Stored stored as_same) is =
    ap (λ (t : Taken). with_capture book (as_stored t as_same)) is.0 ∙ ap (λ (o : Option ℕ). with_capture book (as_stored taken o)) is.1
storing_kind book taken same Failed is = absurd is

begun_after : (book : Book) (by at : ℕ) (began : Bool) (noted : Noted)
    → book_after book (beginning by at began ++ noted ∷ []) ≡ after_kind (begun_book began book at) noted.kind
begun_after book by at true noted = refl
begun_after book by at false noted = refl

begins_at_most : (by at : ℕ) (began : Bool) → BeginsAtMost at (beginning by at began)
begins_at_most by at true = refl
begins_at_most by at false = tt

all_by : (by at : ℕ) (began : Bool) (noted : Noted) → noted.by ≡ by → All (λ (n : Noted). n.by ≡ by) (beginning by at began ++ noted ∷ [])
all_by by at true noted is = (refl, (is, tt))
all_by by at false noted is = (is, tt)

-- ---- by what the store answered

-- what the turn added, and what holds of that
pub record Committed {D : Type 0} (tells : Bool) (by : ℕ) (taken : Taken) (history added : List Noted) (is : Holdings D)
    (result : Result Receipt StoreFault) : Type 0 where
  pub stands : Stands (history ++ added) is
  pub of_pass : All (λ (n : Noted). n.by ≡ by) added
  pub answers : CommitAnswers tells taken history added result

module _ {D : Type 0} (tells : Bool) (by : ℕ) (taken : Taken) (history : List Noted) (was is : Holdings D) (stands : Stands history was)
    (began : Bool) (counted : Tells was.book is.book began) (limits_is : is.limits ≡ was.limits) (told_is : is.told ≡ was.told) where
  goes_on : (added : List Noted) → is.book ≡ book_after (told_book history) added → Stands (history ++ added) is
  goes_on added book = record {
    begun = begun_append history added stands.begun;
    book = book ∙ sym (told_append history added stands.begun);
    limits = limits_is ∙ (stands.limits ∙ sym (limits_append history added stands.begun));
    told = told_is ∙ (stands.told ∙ sym (told_stays history added stands.begun));
  }

  -- with another added list that is the same
  with_list : (added other : List Noted) (result : Result Receipt StoreFault) → other ≡ added
      → Committed tells by taken history added is result → Committed tells by taken history other is result
  with_list added other result same c = subst (λ (l : List Noted). Committed tells by taken history l is result) (sym same) c

  -- nothing was added
  stays : (result : Result Receipt StoreFault) → is.book ≡ was.book → CommitAnswers tells taken history [] result
      → Committed tells by taken history [] is result
  stays result same answers = record { stands = goes_on [] (same ∙ stands.book); of_pass = tt; answers = answers }

  stored_so : (receipt : Receipt) (noted : Noted) → IsNoteOf by taken receipt.same_as noted
      → StoreLeaves true taken (as_told tells was) (as_told tells is) (Ok receipt)
      → Committed tells by taken history (beginning by taken.date began ++ noted ∷ []) is (Ok receipt)
  stored_so receipt noted note left =
      let added : List Noted = beginning by taken.date began ++ noted ∷ [] in
      let stored : captured.Stored = as_stored taken receipt.same_as in
      let from : left.found ≡ told_book history = left.led ∙ stands.book in
      let gains : Gains was.book stored is.book = subst (λ (b : Book). Gains b stored is.book) left.led left.gained in
      let after : is.book ≡ book_after (told_book history) added =
      gained_by was.book is.book stored began gains counted
      ∙ (ap (λ (b : Book). with_capture (begun_book began b taken.date) stored) stands.book
      ∙ (sym (storing_kind (begun_book began (told_book history) taken.date) taken receipt.same_as noted.kind note.1)
      ∙ sym (begun_after (told_book history) by taken.date began noted))) in
      let book : is.book ≡ told_book (history ++ added) = after ∙ sym (told_append history added stands.begun) in
      record {
        stands = goes_on added after;
        of_pass = all_by by taken.date began noted note.0;
        answers = record {
          adds = record { begun = beginning by taken.date began; stored = noted; all = refl; begins = begins_at_most by taken.date began; stores = note.1 };
          not_full = subst (λ (l : Limits). length (captures (told_book history)) < l.captures) stands.limits
              (subst (λ (b : Book). length (captures b) < was.limits.captures) from left.not_full);
          number = left.number ∙ ap (λ (b : Book). length (captures b)) from;
          refers = subst (λ (b : Book). CanRefer taken.cut b receipt.same_as) from left.refers;
          by_digest = subst (λ (b : Book). RefersByDigest b taken receipt.same_as) from left.by_digest;
          gained = subst (λ (b : Book). Gains (told_book history) stored b) book (subst (λ (b : Book). Gains b stored is.book) from left.gained);
          by_rule = λ told. subst (λ (b : Book). IsByRule (told_limits history).volume_bytes (told_book history) taken receipt b) book
              (subst (λ (l : Limits). IsByRule l.volume_bytes (told_book history) taken receipt is.book) stands.limits
              (subst (λ (b : Book). IsByRule was.limits.volume_bytes b taken receipt is.book) from (left.by_rule told)));
        };
      }

  -- the book is left, or it with a volume
  left_so : (found : Book) → (is.book ≡ found) ⊎ HasVolumeAlone tells was.limits.volume_bytes found taken is.book
      → (is.book ≡ found) ⊎ (is.book ≡ with_volume found taken.date)
  left_so found (inl same) = inl same
  left_so found (inr more) = inr more.volume

  -- of the lists
  told_left : (found after : Book) → found ≡ told_book history → is.book ≡ after
      → (is.book ≡ found) ⊎ HasVolumeAlone tells was.limits.volume_bytes found taken is.book
      → (after ≡ told_book history) ⊎ HasVolumeAlone tells (told_limits history).volume_bytes (told_book history) taken after
  told_left found after from to (inl same) = inl (sym to ∙ (same ∙ from))
  told_left found after from to (inr more) = inr
      (subst (λ (b : Book). HasVolumeAlone tells (told_limits history).volume_bytes (told_book history) taken b) to
      (subst (λ (l : Limits). HasVolumeAlone tells l.volume_bytes (told_book history) taken is.book) stands.limits
      (subst (λ (b : Book). HasVolumeAlone tells was.limits.volume_bytes b taken is.book) from more)))

  failed_so : StoreLeaves true taken (as_told tells was) (as_told tells is) (Err stores.DiskFault)
      → Committed tells by taken history (beginning by taken.date began ++ failing by true) is (Err stores.DiskFault)
  failed_so left =
      let noted : Noted = record { by = by; kind = Failed } in
      let added : List Noted = beginning by taken.date began ++ failing by true in
      let from : left.0 ≡ told_book history = left.1 ∙ stands.book in
      let ways : (is.book ≡ was.book) ⊎ (is.book ≡ with_volume was.book taken.date) =
      subst (λ (b : Book). (is.book ≡ b) ⊎ (is.book ≡ with_volume b taken.date)) left.1 (left_so left.0 left.3) in
      let after : is.book ≡ book_after (told_book history) added =
      left_by was.book is.book taken.date began ways counted
      ∙ (ap (λ (b : Book). begun_book began b taken.date) stands.book
      ∙ sym (begun_after (told_book history) by taken.date began noted)) in
      let book : is.book ≡ told_book (history ++ added) = after ∙ sym (told_append history added stands.begun) in
      record {
        stands = goes_on added after;
        of_pass = all_by by taken.date began noted refl;
        answers = record {
          adds = record { begun = beginning by taken.date began; failed = noted; all = refl; begins = begins_at_most by taken.date began; fails = refl };
          not_full = subst (λ (l : Limits). length (captures (told_book history)) < l.captures) stands.limits
              (subst (λ (b : Book). length (captures b) < was.limits.captures) from left.2);
          left = told_left left.0 (told_book (history ++ added)) from book left.3;
        };
      }

  full_so : (count limit : ℕ) → StoreLeaves true taken (as_told tells was) (as_told tells is) (Err (stores.Full count limit))
      → Committed tells by taken history [] is (Err (stores.Full count limit))
  full_so count limit left =
      let to : is.book ≡ told_book history = left.0.seen ∙ stands.book in
      stays (Err (stores.Full count limit)) left.0.seen (
        refl,
        subst (λ (l : Limits). l.captures ≤ length (captures (told_book history))) stands.limits
            (subst (λ (b : Book). was.limits.captures ≤ length (captures b)) to left.1),
        left.2 ∙ ap (λ (b : Book). length (captures b)) to,
        left.3 ∙ ap (λ (l : Limits). l.captures) stands.limits,
      )

  damaged_so : (number : ℕ) (kept : List ℕ) (found : Option (List ℕ))
      → StoreLeaves true taken (as_told tells was) (as_told tells is) (Err (stores.Damaged number kept found))
      → Committed tells by taken history [] is (Err (stores.Damaged number kept found))
  damaged_so number kept found left =
      let to : is.book ≡ told_book history = left.0.seen ∙ stands.book in
      stays (Err (stores.Damaged number kept found)) left.0.seen (
        refl,
        subst (λ (l : Limits). length (captures (told_book history)) < l.captures) stands.limits
            (subst (λ (b : Book). length (captures b) < was.limits.captures) to left.1),
        subst (λ (b : Book). number < length (captures b)) to left.2,
        left.3,
      )

  -- what was noted of the answer, whatever that is
  pub committed : (result : Result Receipt StoreFault) (added : List Noted) → Notes by taken began result added
      → StoreLeaves true taken (as_told tells was) (as_told tells is) result
      → Committed tells by taken history added is result
  committed (Ok receipt) added notes left =
      with_list (beginning by taken.date began ++ notes.0 ∷ []) added (Ok receipt) notes.1 (stored_so receipt notes.0 notes.2 left)
  committed (Err (stores.Full count limit)) added notes left =
      with_list [] added (Err (stores.Full count limit)) notes (full_so count limit left)
  committed (Err stores.DiskFault) added notes left =
      with_list (beginning by taken.date began ++ failing by true) added (Err stores.DiskFault) notes (failed_so left)
  committed (Err (stores.Damaged number kept found)) added notes left =
      with_list [] added (Err (stores.Damaged number kept found)) notes (damaged_so number kept found left)
  committed (Err stores.Memory) added notes left = with_list [] added (Err stores.Memory) notes (stays (Err stores.Memory) left.seen refl)

-- limits stay through a store, and what is told
limits_left : {D : Type 0} (taken : Taken) (was is : Holdings D) (result : Result Receipt StoreFault)
    → StoreLeaves true taken (contents_of was) (contents_of is) result → is.limits ≡ was.limits
limits_left taken was is (Ok receipt) left = ap (λ (c : Contents). c.limits) left.others
limits_left taken was is (Err (stores.Full count limit)) left = ap (λ (c : Contents). c.limits) left.0.others
limits_left taken was is (Err stores.DiskFault) left = ap (λ (c : Contents). c.limits) left.5
limits_left taken was is (Err (stores.Damaged number kept found)) left = ap (λ (c : Contents). c.limits) left.0.others
limits_left taken was is (Err stores.Memory) left = ap (λ (c : Contents). c.limits) left.others

tells_left : {D : Type 0} (taken : Taken) (was is : Holdings D) (result : Result Receipt StoreFault)
    → StoreLeaves true taken (contents_of was) (contents_of is) result → is.told ≡ was.told
tells_left taken was is (Ok receipt) left = ap (λ (c : Contents). c.tells) left.others
tells_left taken was is (Err (stores.Full count limit)) left = ap (λ (c : Contents). c.tells) left.0.others
tells_left taken was is (Err stores.DiskFault) left = ap (λ (c : Contents). c.tells) left.5
tells_left taken was is (Err (stores.Damaged number kept found)) left = ap (λ (c : Contents). c.tells) left.0.others
tells_left taken was is (Err stores.Memory) left = ap (λ (c : Contents). c.tells) left.others

-- ---- where fewer entries are shown

refers_fewer : (taken : Taken) (same : Option ℕ) (more fewer : List Facts) → ((e : Facts) → Contains fewer e → Contains more e)
    → RefersAsShown more taken same → RefersAsShown fewer taken same
refers_fewer taken None more fewer from refers = λ payload has. tt
refers_fewer taken (Some number) more fewer from refers = λ payload has entry shown at. refers payload has entry (from entry shown) at

shown_fewer : (taken : Taken) (result : Result Receipt StoreFault) (more fewer : List Facts) → ((e : Facts) → Contains fewer e → Contains more e)
    → IfOk result (λ receipt. RefersAsShown more taken receipt.same_as) → IfOk result (λ receipt. RefersAsShown fewer taken receipt.same_as)
shown_fewer taken (Ok receipt) more fewer from refers = refers_fewer taken receipt.same_as more fewer from refers
shown_fewer taken (Err fault) more fewer from refers = tt

pub commits_fewer : (by : ℕ) (before after : List Noted) (tells : Bool) (taken : Taken) (result : Result Receipt StoreFault) (more fewer : List Facts)
    → ((e : Facts) → Contains fewer e → Contains more e) → Adds by_of by before after (λ added. Commits tells more taken before added result)
    → Adds by_of by before after (λ added. Commits tells fewer taken before added result)
commits_fewer by before after tells taken result more fewer from adds = record {
  added = adds.added;
  is_before_and_added = adds.is_before_and_added;
  of_pass = adds.of_pass;
  done = record {
    answers = adds.done.answers;
    shown = shown_fewer taken result more fewer from adds.done.shown;
    sound = adds.done.sound;
  };
}

-- what was shown before is shown still
shown_still : (number : ℕ) (old new : List Facts) → LeadsShown true (Some number) old new → (e : Facts) → Contains old e → Contains new e
shown_still number old new (inl same) e has = subst (λ (l : List Facts). Contains l e) (sym same) has
shown_still number old new (inr more) e has = subst (λ (l : List Facts). Contains l e) (sym more.2) (Contains-append_left old (more.0 ∷ []) e has)

shown_left : {D : Type 0} (taken : Taken) (was is : Holdings D) (result : Result Receipt StoreFault)
    → StoreLeaves true taken (contents_of was) (contents_of is) result → IfOk result (λ receipt. RefersAsShown (numbered was.index) taken receipt.same_as)
shown_left taken was is (Ok receipt) left =
    refers_fewer taken receipt.same_as (numbered is.index) (numbered was.index) (shown_still receipt.number (numbered was.index) (numbered is.index) left.shown)
    left.as_shown
shown_left taken was is (Err fault) left = tt

module _ {D : Type 0} (d : Ghosts D) (by : ℕ) (taken : Taken) (history after : List Noted) (was is : Holdings D)
    (result : Result Receipt StoreFault) (began : Bool) (stands : Stands history was) (met : AreCounted history (d.faults (disk_of was.journal))) where
  -- a store that was made, noted
  pub all_committed : Stores d was is taken result → Tells was.book is.book began → (IsTrue is.told → IsSound is.book)
      → Noting history after (λ added. Notes by taken began result added)
      → (Stands after is × AreCounted after (d.faults (disk_of is.journal)))
      × Adds by_of by history after (λ added. Commits (is_told history) (numbered was.index) taken history added result)
  all_committed store counted sound noting =
      let told_is : is.told ≡ was.told = tells_left taken was is result store.told.leaves in
      let left : StoreLeaves true taken (as_told (is_told history) was) (as_told (is_told history) is) result =
      subst (λ (t : Bool). StoreLeaves true taken (as_told t was) (as_told t is) result) stands.told
      (subst (λ (t : Bool). StoreLeaves true taken (contents_of was) (as_told t is) result) told_is store.told.leaves) in
      let c = committed (is_told history) by taken history was is stands began counted (limits_left taken was is result store.told.leaves) told_is
      result noting.added noting.done left in (
        (
          subst (λ (l : List Noted). Stands l is) (sym noting.joined) c.stands,
          store_counted by taken began result history after (d.faults (disk_of was.journal)) (d.faults (disk_of is.journal)) stands.begun noting
              store.told.faults met,
        ),
        record {
          added = noting.added;
          is_before_and_added = noting.joined;
          of_pass = c.of_pass;
          done = record {
            answers = c.answers;
            shown = shown_left taken was is result store.told.leaves;
            sound = λ told. subst IsSound c.stands.book (sound (subst (λ (t : Bool). IsTrue t) (sym (told_is ∙ stands.told)) told));
          };
        },
      )
