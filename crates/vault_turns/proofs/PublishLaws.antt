-- The list that is published goes with the archive and its history.
use Rattle.std.proofs.Common.{append_assoc, ◌≡◌, ℕ, ◌+◌, ◌<◌, ◌≤◌, Bool, true, false, not, IsTrue, List, [], ◌∷◌, ◌++◌, length, Result, Ok, Err, refl, sym, ap, subst, ◌∙◌, inl, inr, ⊎_elim, arith}
use Rattle.std.specs.Prelude.{Contains, Option, Some, None, IfNone, IfOk, IfSome, option_to_list}
use Rattle.std.specs.List.Sorted.{IsStrictlySortedBy}
use Rattle.std.proofs.lemmas.Bool.{cases_lt}
use Rattle.std.proofs.lemmas.List.{append-nil, length-append}
use Rattle.std.proofs.lemmas.Option.{slice_get_within}
use Rattle.capture.specs.Captures.{captures}
use Rattle.capture.specs.Growth.{Grows}
use Rattle.capture.specs.GrowthLaws.{GrowsFromItself, GrowthGoesOn, GrowthKeepsCaptures}
use Rattle.capture.specs.declared.book.Book.{Book}
use Rattle.capture.specs.declared.captured.Stored as captured
use Rattle.capture.specs.declared.captured.Taken.{Taken}
use Rattle.index_entry.specs.Facts.{Facts}
use Rattle.index_entry.specs.OfBook.{AreEntries, AreOf, by_number}
use Rattle.index_entry.specs.Queries.{IsIndex}
use Rattle.index_entry.proofs.Members.{Among-append, Among-append_left, Among-append_right, among_from_contains, contains_from_among}
use Rattle.archive_shelf.proofs.ComparingLaws.{placed_before}
use Rattle.archive_shelf.proofs.EntryLaws.{entries_stay}
use Rattle.archive_shelf.proofs.StoringLaws.{captures_stay, gains_stand_behind}
use Rattle.archive_shelf.specs.Answers.{HasVolumeAlone}
use Rattle.archive_shelf.specs.Storing.{as_stored}
use Rattle.archive_shelf.specs.declared.fault.StoreFault.{StoreFault}
use Rattle.archive_shelf.specs.declared.fault.StoreFault.TheVariants as stores
use Rattle.archive_shelf.specs.declared.receipt.Receipt.{Receipt}
use Rattle.archive_core.specs.Holdings.{Holdings}
use Rattle.archive_index.specs.Shown.{numbered}
use Rattle.index_snapshot.specs.Entries.{IsNew, entries_in}
use Rattle.index_snapshot.specs.Edges.{Edge}
use Rattle.index_snapshot.specs.Publishing.{Print, full_of}
use Rattle.logbook.specs.Pages.{Book as LogBook}
use Rattle.vault_lists.specs.Items.{AreItems, GoesBehind, book_in, brings_of, last_book, tells_in}
use Rattle.vault_lists.specs.declared.item.Item.{Item}
use Rattle.vault_lists.proofs.ItemLaws.{all_below, all_of_last, behind_joined, last_joined, none_above, sorted_place}
use Rattle.vault_turns.specs.Guarded.{AreShown, KeepsShown, Publishes, Stands}
use Rattle.vault_turns.specs.History.{IsBegun, Names, after_kind, is_told, told_book}
use Rattle.vault_turns.specs.Listing.{HasBook, IsListed}
use Rattle.vault_turns.specs.Taking.{IsGathered, TakesItem}
use Rattle.vault_turns.specs.Turns.{AddsFaultAlone, CommitAnswers, changes}
use Rattle.vault_turns.specs.declared.noted.Kind.{Kind}
use Rattle.vault_turns.specs.declared.noted.Kind.TheVariants.{Failed}
use Rattle.vault_turns.specs.declared.noted.Noted.{Noted}
use Rattle.vault_turns.proofs.HistoryLaws.{told_append, told_grows, told_stays}

-- ---- an item more

in_place : (place : Option Facts) (P : Facts → Type 0) → IfSome place P → (e : Facts) → Contains (option_to_list place) e → P e
in_place None P p e has = absurd (omega (arith, has.1))
in_place (Some f) P p e has = elim (among_from_contains (f ∷ []) e has) [ inl same ↦ subst P same p | inr none ↦ absurd none ]

new_by : (entries : List Facts) (n m : ℕ) (place : Option Facts) → IfSome place (λ e. (e.number ≡ n) × (n < m)) → ((e : Facts) → Contains entries e → e.number < n)
    → IsNew entries place
new_by entries n m None below all = tt
new_by entries n m (Some e) below all = none_above entries e.number (λ f has. subst (λ (k : ℕ). f.number < k) (sym below.0) (all f has))

items_more : (items : List Item) (item : Item) → 0 < length items → AreItems items
    → GoesBehind (tells_in items) (last_book items) (entries_in brings_of items) item → AreItems (items ++ item ∷ [])
items_more [] item some are goes = absurd (omega (arith, some))
items_more (first ∷ others) item some are goes =
    (are.0, behind_joined first.told.value (book_in first) (brings_of first) others (item ∷ []) are.1 (goes, tt))

entries_more : (items : List Item) (item : Item) → entries_in brings_of (items ++ item ∷ []) ≡ entries_in brings_of items ++ brings_of item
entries_more [] item = append-nil (brings_of item)
entries_more (first ∷ others) item =
    ap (λ (l : List Facts). brings_of first ++ l) (entries_more others item)
    ∙ sym (append_assoc (brings_of first) (entries_in brings_of others) (brings_of item))

last_more : (items : List Item) (item : Item) → last_book (items ++ item ∷ []) ≡ book_in item
last_more [] item = refl
last_more (first ∷ others) item = last_joined (book_in first) others (item ∷ [])

tells_more : (items : List Item) (item : Item) → 0 < length items → tells_in (items ++ item ∷ []) ≡ tells_in items
tells_more [] item some = absurd (omega (arith, some))
tells_more (first ∷ others) item some = refl

module _ (keeps : GrowthKeepsCaptures) (itself : GrowsFromItself) {D : Type 0} (tells : Bool) (history : List Noted) (held : Holdings D) (print : Print Item)
    (whole : Bool) (appended : ℕ) (is : Publishes tells history held print whole appended) (item : Item) (place : Option Facts)
    (takes : TakesItem tells held appended item place) where
  abbrev last : Book
  last = last_book print.full

  abbrev entries : List Facts
  entries = entries_in brings_of print.full

  low : (e : Facts) → Contains entries e → e.number < length (captures last)
  low e has = all_below keeps print.full is.fits e has

  pub next_new : IsNew entries place
  next_new = new_by entries appended (length (captures held.book)) place takes.below (λ e has. subst (λ (n : ℕ). e.number < n) is.count (low e has))

  -- where the entry of the last capture stands
  abbrev HasIt : ℕ → Type 0
  HasIt number = (entry : Facts) × Contains (entries ++ option_to_list place) entry × (entry.number ≡ number)

  from_place : (p : Option Facts) → p ≡ place → IfSome p (λ e. (e.number ≡ appended) × (appended < length (captures held.book)))
      → IfNone p (appended < length (captures held.book) → (entry : Facts) → Contains (numbered held.index) entry → entry.number ≡ appended → ⊥)
      → (entry : Facts) → Contains (numbered held.index) entry → entry.number ≡ appended → appended < length (captures held.book) → HasIt appended
  from_place None same below none entry shown here within = absurd (none within entry shown here)
  from_place (Some e) same below none entry shown here within = (
    e,
    subst (λ (o : Option Facts). Contains (entries ++ option_to_list o) e) same
        (contains_from_among (entries ++ e ∷ []) e (Among-append_right entries (e ∷ []) e (inl refl))),
    below.0,
  )

  all_of : IsTrue tells → AreOf held.book (entries ++ option_to_list place)
  all_of told =
      let was : AreOf last entries = all_of_last print.full is.fits (subst (λ (b : Bool). IsTrue b) (sym is.list_told) told) in
      let shown = (takes.entries told).of_book in
      let kept = keeps last held.book is.grows in
      record {
        each = λ e has. elim (Among-append entries (option_to_list place) e (among_from_contains (entries ++ option_to_list place) e has)) [
          | inl a ↦ entries_stay keeps last held.book e.number e is.grows (was.each e (contains_from_among entries e a))
          | inr b ↦ shown.each e (in_place place (λ f. Contains (numbered held.index) f) takes.shown e (contains_from_among (option_to_list place) e b))
        ];
        found = λ e stored has at. elim (Among-append entries (option_to_list place) e (among_from_contains (entries ++ option_to_list place) e has)) [
          | inl a ↦ let here = contains_from_among entries e a in
              was.found e stored here (placed_before last held.book kept.0 kept.1 e.number stored (low e here) at)
          | inr b ↦ shown.found e stored (in_place place (λ f. Contains (numbered held.index) f) takes.shown e (contains_from_among (option_to_list place) e b)) at
        ];
        all = λ number stored at by_date. ⊎_elim
            (λ (less : number < length (captures last)).
            let one = was.all number stored (placed_before last held.book kept.0 kept.1 number stored less at) by_date in
            (one.0, contains_from_among (entries ++ option_to_list place) one.0 (Among-append_left entries (option_to_list place) one.0 (among_from_contains entries one.0 one.1)), one.2))
            (λ (above : length (captures last) ≤ number).
            let within : number < length (captures held.book) = slice_get_within (captures held.book) number stored at in
            let here : number ≡ appended = omega (arith, above, within, is.count, is.few) in
            let one = shown.all number stored at by_date in
            let there = from_place place refl takes.below takes.none one.0 one.1 (one.2 ∙ here) (subst (λ (n : ℕ). n < length (captures held.book)) here within) in
            (there.0, there.1, there.2 ∙ sym here))
            (cases_lt number (length (captures last)));
      }

  brought : (e : Facts) → Contains (brings_of item) e → Contains (option_to_list place) e
  brought e has = subst (λ (l : List Facts). Contains l e) takes.brings has

  goes : GoesBehind (tells_in print.full) last entries item
  goes = record {
    grows = subst (λ (b : Book). Grows last b) (sym takes.book) is.grows;
    from = λ e has.
        let at = in_place place (λ f. (f.number ≡ appended) × (appended < length (captures held.book))) takes.below e (brought e has) in
        omega (arith, at.0, is.count);
    below = λ e has.
        let at = in_place place (λ f. (f.number ≡ appended) × (appended < length (captures held.book))) takes.below e (brought e has) in
        subst (λ (b : Book). e.number < length (captures b)) (sym takes.book) (omega (arith, at.0, at.1));
    in_order = subst (λ (l : List Facts). IsStrictlySortedBy by_number l) (sym takes.brings) (sorted_place place);
    of_book = λ told.
        subst (λ (b : Book). AreOf b (entries ++ brings_of item)) (sym takes.book)
        (subst (λ (l : List Facts). AreOf held.book (entries ++ l)) (sym takes.brings) (all_of (subst (λ (b : Bool). IsTrue b) is.list_told told)));
  }

  pub next_fits : AreItems (print.full ++ item ∷ [])
  next_fits = items_more print.full item is.some is.fits goes

  here : last_book (print.full ++ item ∷ []) ≡ held.book
  here = last_more print.full item ∙ takes.book

  -- the list has the archive's book then
  pub next_publishes : (now : Print Item) (count : ℕ) → now ≡ record print { full = print.full ++ item ∷ [] } → count ≡ length (captures held.book)
      → Publishes tells history held now true count
  next_publishes now count now_is count_is =
      subst (λ (p : Print Item). Publishes tells history held p true count) (sym now_is) (record {
        named = is.named;
        told = is.told;
        list_told = tells_more print.full item is.some ∙ is.list_told;
        fits = next_fits;
        shown = λ e has.
            subst (λ (l : List Facts). Contains l e → Contains (numbered held.index) e) (sym (entries_more print.full item))
            (λ there. elim (Among-append entries (brings_of item) e (among_from_contains (entries ++ brings_of item) e there)) [
              | inl a ↦ is.shown e (contains_from_among entries e a)
              | inr b ↦ in_place place (λ f. Contains (numbered held.index) f) takes.shown e (brought e (contains_from_among (brings_of item) e b))
            ]) has;
        some = omega (arith, is.some, length-append print.full (item ∷ []));
        grows = subst (λ (b : Book). Grows b held.book) (sym here) (itself held.book);
        count = ap (λ (b : Book). length (captures b)) here ∙ sym count_is;
        few = omega (arith, count_is);
        same = λ t. here;
      })

-- ---- a history that goes on

pub names_append : (xs ys : List Noted) (log : LogBook) → Names xs log → Names (xs ++ ys) log
names_append [] ys log names = absurd names
names_append (x ∷ xs) ys log names = names

pub names_begun : (history : List Noted) (log : LogBook) → Names history log → IsBegun history
names_begun [] log names = absurd names
names_begun (x ∷ xs) log names = tt

pub nothing_added : (history added : List Noted) → added ≡ [] → told_book (history ++ added) ≡ told_book history
nothing_added history added none = ap (λ (l : List Noted). told_book (history ++ l)) none ∙ ap told_book (append-nil history)

failed_same : (book : Book) (kind : Kind) → kind ≡ Failed → after_kind book kind ≡ book
failed_same book kind is = ap (λ (k : Kind). after_kind book k) is

pub fault_added : (history : List Noted) → IsBegun history → (failed : Bool) (added : List Noted) → AddsFaultAlone failed added
    → told_book (history ++ added) ≡ told_book history
fault_added history begun true [] adds = absurd adds
fault_added history begun true (x ∷ []) adds = told_append history (x ∷ []) begun ∙ failed_same (told_book history) x.kind adds
fault_added history begun true (x ∷ y ∷ others) adds = absurd adds
fault_added history begun false added adds = nothing_added history added adds

-- ---- after a store

-- the book has one capture more at most
few_more : (tells : Bool) (taken : Taken) (history added : List Noted) (result : Result Receipt StoreFault) → CommitAnswers tells taken history added result
    → length (captures (told_book (history ++ added))) ≤ length (captures (told_book history)) + 1
few_more tells taken history added (Ok receipt) h =
    let behind = gains_stand_behind (told_book history) (told_book (history ++ added)) (as_stored taken receipt.same_as) h.gained in
    omega (arith, ap (λ (l : List captured.Stored). length l) behind, length-append (captures (told_book history)) (as_stored taken receipt.same_as ∷ []))
few_more tells taken history added (Err (stores.Full count limit)) h =
    omega (arith, ap (λ (b : Book). length (captures b)) (nothing_added history added h.0))
few_more tells taken history added (Err stores.DiskFault) h = ⊎_elim
    (λ (same : told_book (history ++ added) ≡ told_book history). omega (arith, ap (λ (b : Book). length (captures b)) same))
    (λ (more : HasVolumeAlone tells _ (told_book history) taken (told_book (history ++ added))).
    omega (
      arith,
      ap (λ (b : Book). length (captures b)) more.volume,
      ap (λ (l : List captured.Stored). length l) (captures_stay (told_book history).volumes taken.date),
    ))
    h.left
few_more tells taken history added (Err (stores.Damaged number kept digest)) h =
    omega (arith, ap (λ (b : Book). length (captures b)) (nothing_added history added h.0))
few_more tells taken history added (Err stores.Memory) h = omega (arith, ap (λ (b : Book). length (captures b)) (nothing_added history added h))

unchanged : (tells : Bool) (taken : Taken) (history added : List Noted) (result : Result Receipt StoreFault) → CommitAnswers tells taken history added result
    → changes result ≡ false → told_book (history ++ added) ≡ told_book history
unchanged tells taken history added (Ok receipt) h none = absurd (cc none)
unchanged tells taken history added (Err (stores.Full count limit)) h none = nothing_added history added h.0
unchanged tells taken history added (Err stores.DiskFault) h none = absurd (cc none)
unchanged tells taken history added (Err (stores.Damaged number kept digest)) h none = nothing_added history added h.0
unchanged tells taken history added (Err stores.Memory) h none = nothing_added history added h

not_true : (b : Bool) → not b ≡ true → b ≡ false
not_true true is = absurd (cc is)
not_true false is = refl

module _ (itself : GrowsFromItself) (goes_on : GrowthGoesOn) {D : Type 0} (history after : List Noted) (held now : Holdings D)
    (print : Print Item) (appended : ℕ) (was : Stands history held) (is : Stands after now) (added : List Noted) (joined : after ≡ history ++ added) where
  -- the book is the same
  pub publishes_same : (whole : Bool) → Publishes (is_told history) history held print whole appended → KeepsShown held now
      → told_book (history ++ added) ≡ told_book history → Publishes (is_told after) after now print whole appended
  publishes_same whole p keeps same =
      let book : now.book ≡ held.book = is.book ∙ (ap told_book joined ∙ (same ∙ sym was.book)) in
      record {
        named = subst (λ (l : List Noted). Names l print.of) (sym joined) (names_append history added print.of p.named);
        told = refl;
        list_told = p.list_told ∙ sym (ap is_told joined ∙ told_stays history added was.begun);
        fits = p.fits;
        shown = λ e has. keeps e (p.shown e has);
        some = p.some;
        grows = subst (λ (b : Book). Grows (last_book print.full) b) (sym book) p.grows;
        count = p.count;
        few = subst (λ (b : Book). length (captures b) ≤ appended + 1) (sym book) p.few;
        same = λ t. p.same t ∙ sym book;
      }

  pub publishes_after : (taken : Taken) (t : Bool) (result : Result Receipt StoreFault) (whole : Bool) → Publishes (is_told history) history held print true appended
      → KeepsShown held now → CommitAnswers t taken history added result → whole ≡ not (changes result)
      → Publishes (is_told after) after now print whole appended
  publishes_after taken t result whole p keeps answers whole_is =
      let last : last_book print.full ≡ told_book history = p.same refl ∙ was.book in
      let book : now.book ≡ told_book (history ++ added) = is.book ∙ ap told_book joined in
      record {
        named = subst (λ (l : List Noted). Names l print.of) (sym joined) (names_append history added print.of p.named);
        told = refl;
        list_told = p.list_told ∙ sym (ap is_told joined ∙ told_stays history added was.begun);
        fits = p.fits;
        shown = λ e has. keeps e (p.shown e has);
        some = p.some;
        grows = subst (λ (b : Book). Grows b now.book) (sym last) (subst (λ (b : Book). Grows (told_book history) b) (sym book) (told_grows itself goes_on history added was.begun));
        count = p.count;
        few = omega (arith, ap (λ (b : Book). length (captures b)) book, few_more t taken history added result answers, p.count, ap (λ (b : Book). length (captures b)) last);
        same = λ now_whole. last ∙ (sym (unchanged t taken history added result answers (not_true (changes result) (sym whole_is ∙ now_whole))) ∙ sym book);
      }

-- ---- what is told, and the beginning

has_book : (history : List Noted) (items : List Item) → 0 < length items → last_book items ≡ told_book history → HasBook history items
has_book history [] some is = absurd (omega (arith, some))
has_book history (first ∷ others) some is = record { first = first; others = others; begins = ([], append-nil (first ∷ others)); book_is = is }

pub listed_now : {D : Type 0} (tells : Bool) (history : List Noted) (held : Holdings D) (print : Print Item) (whole : Bool) (appended : ℕ)
    → Publishes tells history held print whole appended → Stands history held
    → (IsTrue held.told → AreEntries held.book (numbered held.index)) → (note : Edge Item) → note ≡ full_of print → IsListed history note whole
listed_now tells history held print whole appended p stands shows note note_is =
    subst (λ (n : Edge Item). IsListed history n whole) (sym note_is) (record {
      named = p.named;
      told = p.list_told ∙ sym p.told;
      book = λ t. has_book history print.full p.some (p.same t ∙ stands.book);
      entries = λ t. (
        numbered held.index,
        subst (λ (b : Book). AreEntries b (numbered held.index)) stands.book (shows (subst (λ (b : Bool). IsTrue b) (sym stands.told) t)),
      );
    })

pub opens_so : (tells : Bool) (book : Book) (source index : List Facts) (item : Item) → IsGathered tells book source index → item.told.value ≡ tells → book_in item ≡ book
    → brings_of item ≡ index → AreItems (item ∷ [])
opens_so tells book source index item of told_is book_is brings_is = (
  record {
    indexed = subst (λ (l : List Facts). IsIndex l) (sym brings_is) of.indexed;
    below = λ e has. subst (λ (b : Book). e.number < length (captures b)) (sym book_is) (of.below e (subst (λ (l : List Facts). Contains l e) brings_is has));
    of_book = λ told.
        subst (λ (b : Book). AreOf b (brings_of item)) (sym book_is)
        (subst (λ (l : List Facts). AreOf book l) (sym brings_is) (of.of_book (subst (λ (b : Bool). IsTrue b) told_is told)));
  },
  tt,
)

-- what the first item brings is what the archive shows
pub first_shown : {D : Type 0} (held : Holdings D) (items : List Item) (index : List Facts) (item : Item) → IsGathered held.told held.book held.index index
    → brings_of item ≡ index → items ≡ item ∷ [] → AreShown (entries_in brings_of items) held
first_shown held items index item of brings_is items_are e has =
    of.shown e (subst (λ (l : List Facts). Contains l e) (append-nil index)
    (subst (λ (l : List Facts). Contains (l ++ []) e) brings_is
    (subst (λ (l : List Item). Contains (entries_in brings_of l) e) items_are has)))

pub on_shown : {D E : Type 0} {T : Type 0} (held : Holdings D) (index : List Facts) (item : Item) → IsGathered held.told held.book held.index index → brings_of item ≡ index
    → (result : Result (Print Item × T) E) → IfOk result (λ r. (r.0.published ≡ item ∷ []) × (r.0.full ≡ item ∷ []))
    → IfOk result (λ r. AreShown (entries_in brings_of r.0.full) held)
on_shown held index item of brings_is (Ok r) is = first_shown held r.0.full index item of brings_is is.1
on_shown held index item of brings_is (Err e) is = tt

pub first_publishes : GrowsFromItself → {D : Type 0} (tells : Bool) (history : List Noted) (held : Holdings D) (print : Print Item) (appended : ℕ)
    → Names history print.of → is_told history ≡ tells → tells_in print.full ≡ tells → AreItems print.full × (0 < length print.full)
    → AreShown (entries_in brings_of print.full) held
    → last_book print.full ≡ held.book → appended ≡ length (captures held.book) → Publishes tells history held print true appended
first_publishes itself tells history held print appended names told list_told fits shown book_is count = record {
  named = names;
  told = told;
  list_told = list_told;
  fits = fits.0;
  shown = shown;
  some = fits.1;
  grows = subst (λ (b : Book). Grows b held.book) (sym book_is) (itself held.book);
  count = ap (λ (b : Book). length (captures b)) book_is ∙ sym count;
  few = omega (arith, count);
  same = λ t. book_is;
}
