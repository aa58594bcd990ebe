-- A group that was found is gathered, or no sound book goes on with it.
use Rattle.warc_text.specs.declared.id.IdKind.TheVariants.{Response}
use Rattle.warc_text.specs.Ids.{id_of}
use Rattle.std.proofs.lemmas.Option.{slice_get_within}
use Rattle.archive_gathering.proofs.ReadingLaws.{has_next}
use Rattle.capture.specs.declared.captured.Stored.{Stored}
use Rattle.std.proofs.Common.{◌≡◌, ◌≢◌, ℕ, ◌+◌, ◌-◌, ◌^◌, ◌≤◌, List, [], ◌∷◌, ◌++◌, length, refl, sym, ap, subst, ◌∙◌, ⊎_elim, arith, length-append, ◌<◌}
use Rattle.std.specs.Prelude.{Option, Some, None, option_to_list, IfNone}
use Rattle.httparse.specs.Grammar.{ResponseHead}
use Rattle.capture.specs.Captures.{captures}
use Rattle.capture.specs.Message.{IsResponseHeadText}
use Rattle.capture.specs.declared.book.Book.{Book}
use Rattle.capture.specs.declared.captured.Kept.{Kept}
use Rattle.capture.specs.declared.captured.Kept.TheVariants.{Wire, Same, Cut}
use Rattle.index_entry.specs.Facts.{Facts}
use Rattle.warc_journal.specs.Texts.{with_more}
use Rattle.warc_journal.specs.declared.place.Place.{Place}
use Rattle.warc_scan.specs.Groups.{IsAnswer, reference_in}
use Rattle.warc_scan.specs.declared.group.Group.{Group}
use Rattle.warc_scan.specs.declared.group.Revisited.{Revisited}
use Rattle.warc_text.specs.References.{Reference}
use Rattle.archive_shelf.specs.Storing.{with_capture}
use Rattle.archive_gathering.proofs.CaptureLaws.{gains}
use Rattle.archive_gathering.proofs.RefusalLaws.{too_long, too_many}
use Rattle.archive_gathering.proofs.KnownLaws.{read_with}
use Rattle.archive_gathering.proofs.RevisitLaws.{long_request, no_original, original_by}
use Rattle.archive_gathering.proofs.SpottedLaws.{entries_taken, places_taken, read_taken, spots_taken}
use Rattle.archive_gathering.proofs.TakeLaws.{captured, lengths_with}
use Rattle.surt_key.specs.Targets.{TargetsHaveKeys}
use Rattle.archive_gathering.specs.Gathering.{HasAdded, HasTaken, IsGathered, TellsOf, AreAllRead, MayStand, StandsBehind}
use Rattle.archive_volumes.specs.Held.{book_of}
use Rattle.archive_gathering.specs.Noting.{IsGroupAt, IsNoted, IsPast, IsWithin}
use Rattle.archive_gathering.specs.Reading.{IsDeadEnd, IsRead, Laws, MayBe}
use Rattle.archive_gathering.specs.Revisits.{IsCaptureOf, RefersRight, RefersToNone, HasItsOriginal, MayRefer}
use Rattle.archive_volumes.specs.Spots.{spot_of}
use Rattle.archive_gathering.specs.declared.gathered.Gathered.{Gathered}
use Rattle.archive_gathering.specs.declared.noting.Noted.{Noted}
use Rattle.archive_volumes.specs.declared.spot.Spot.{Spot}

-- the head of a group's response
pub record HasHead (text : List ℕ) : Type 0 where
  pub head : ResponseHead
  pub is : IsResponseHeadText text head

head_by : (method head digest : List ℕ) (same : Option Reference) (kept : Kept) → IsAnswer method head digest same kept → HasHead head
head_by method head digest same (Wire wire) is = record { head = is.1.responds.parsed; is = is.1.responds.head_is.whole }
head_by method head digest same (Same number) is = record { head = is.1.parsed; is = is.1.tells.head_is.whole }
head_by method head digest same (Cut wire) is = record { head = is.1.responds.parsed; is = is.1.responds.head_is.whole }

-- a record that is referred to
pub record HasReference (same : Option Revisited) : Type 0 where
  pub reference : Reference
  pub is : reference_in same ≡ Some reference

reference_by : (same : Option Revisited) → same ≢ None → HasReference same
reference_by None some = absurd (some refl)
reference_by (Some r) some = record { reference = record { id = r.id; uri = r.uri; date = r.date }; is = refl }

module _ (laws : Laws) (book : Book) (texts : List (List ℕ)) (known : Option Book) (is : IsRead known book texts) (text : List ℕ) (place : Place) (group : Group)
    (at : IsGroupAt book texts text place group) where
  -- it passes a bound
  pub past_is_dead : (number : ℕ) → number ≡ length (captures book) → IsPast number place group → IsDeadEnd known (with_more texts text)
  past_is_dead number count past = ⊎_elim
      (λ (many : 2 ^ 32 - 1 ≤ number + 1). too_many laws book texts known is text group at.some at.is (omega (arith, many, count)))
      (⊎_elim
      (λ (long : 2 ^ 34 ≤ length group.stored.request). long_request laws book texts known is text group at.some at.is long)
      (λ (long : 2 ^ 62 ≤ place.at + place.len). too_long laws book texts known is text group at.some at.is (omega (arith, long, at.at, at.len))))
      past

  pub headless_is_dead : ((h : ResponseHead) → IsResponseHeadText group.stored.head h → ⊥) → IsDeadEnd known (with_more texts text)
  headless_is_dead none =
      let head = head_by group.stored.method group.stored.head group.digest (reference_in group.same) group.stored.kept at.is.answer in
      absurd (none head.head head.is)

  pub lost_is_dead : RefersToNone book group → IsDeadEnd known (with_more texts text)
  lost_is_dead none =
      let reference = reference_by group.same none.some in
      no_original laws book texts known is text group at.some at.is reference.reference reference.is none.none

  -- where a book is known for which files stand that go on with it, a revisit has its original
  its_original : (k : Book) → known ≡ Some k → StandsBehind k (with_more texts text) → group.same ≢ None → HasItsOriginal book group
  its_original k known_is behind some =
      let reference = reference_by group.same some in
      let may : MayBe known k = subst (λ (o : Option Book). MayBe o k) (sym known_is) refl in
      let next = has_next laws book texts known is text group at.some at.is behind.files k may behind.fronts behind.sound behind.stands in
      let has = original_by laws book texts known is text group at.some at.is reference.reference reference.is k behind.sound next in
      let namespaces : book.namespace ≡ k.namespace = next.so_far.begins.namespace_is at.some in
      let below : length (captures book) < length (captures k) = slice_get_within (captures k) (length (captures book)) next.next.stored next.next.placed in
      record {
        first = has.first;
        of = has.of;
        alone = λ number less same. behind.ids number has.first (omega (arith, less, below)) (omega (arith, has.of.earlier, below))
            (subst (λ (n : List ℕ). id_of n Response number ≡ id_of n Response has.first) namespaces same);
      }

  pub may_refer : MayStand known (with_more texts text) → MayRefer known book group
  may_refer stand = by known refl stand
    where
      by : (o : Option Book) → known ≡ o → MayStand o (with_more texts text) → MayRefer o book group
      by None known_is stand = tt
      by (Some k) known_is stand = its_original k known_is stand

read_by : (known : Option Book) (spots : List Spot) → IfNone known (AreAllRead spots) → (stored : Stored) (digest : List ℕ) (volume at head_at : ℕ)
    → IfNone known (AreAllRead (spots ++ spot_of stored digest volume at head_at ∷ []))
read_by None spots all stored digest volume at head_at = read_with spots all stored digest volume at head_at
read_by (Some book) spots all stored digest volume at head_at = tt

-- it is gathered
pub taken : Laws → TargetsHaveKeys → (known : Option Book) (was is : Gathered) (texts : List (List ℕ)) (text : List ℕ) (place : Place) (group : Group) (number : ℕ)
    (first : Option ℕ) (head : ResponseHead) (noted : Noted) → IsGathered known was texts → (at : IsGroupAt (book_of was.held) texts text place group)
    → length was.lengths.items ≡ length (captures (book_of was.held)) → number ≡ length (captures (book_of was.held)) → IsWithin number place group
    → IsResponseHeadText group.stored.head head → RefersRight (book_of was.held) group first → IsNoted head place group first noted → HasAdded was is noted
    → HasTaken known was is texts text
taken laws keys known was is texts text place group number first head noted tells at lengths count within_number parsed right n added =
    let book : Book = book_of was.held in
    let within : IsWithin (length (captures book)) place group = subst (λ (k : ℕ). IsWithin k place group) count within_number in
    let of_group : IsCaptureOf book (length (captures book)) group noted.stored =
    subst (IsCaptureOf book (length (captures book)) group) (sym n.stored) (captured book group text at.is first right) in
    let new : Book = with_capture book noted.stored in
    let now : List (List ℕ) = with_more texts text in
    let more = gains laws book texts tells.read.are text group at.some at.is noted.stored of_group in
    let spot_is : spot_of noted.stored group.digest place.volume place.at (place.at + group.head_at)
    ≡ spot_of noted.stored noted.digest noted.volume noted.at noted.head_at =
    (λ i. spot_of noted.stored (sym n.digest i) (sym n.volume i) (sym n.at i) (sym n.head_at i)) in
    let spots : List Spot = was.spots.items ++ spot_of noted.stored group.digest place.volume place.at (place.at + group.head_at) ∷ [] in
    let entered = entries_taken laws book texts tells.read.sound tells.read.are text place group at noted.stored of_group within head parsed keys was.entries.items tells.entries_are noted.entry n.entry in
    let all : TellsOf known new now spots (was.lengths.items ++ noted.length ∷ []) (was.entries.items ++ option_to_list noted.entry) = record {
      read = read_taken laws book texts tells.read.sound tells.read.are text place group at noted.stored of_group within known tells.read;
      spots_are = spots_taken laws book texts tells.read.sound tells.read.are text place group at noted.stored of_group within was.spots.items tells.spots_are;
      placed = places_taken laws book texts tells.read.sound tells.read.are text place group at noted.stored of_group within was.spots.items tells.spots_are tells.placed;
      all_read = read_by known was.spots.items tells.all_read noted.stored group.digest place.volume place.at (place.at + group.head_at);
      lengths_are = lengths_with book new noted.stored was.spots.items (spot_of noted.stored group.digest place.volume place.at (place.at + group.head_at)) was.lengths.items
          noted.length more lengths tells.spots_are.count tells.lengths_are (λ read. n.length) n.fits;
      entries_are = entered;
    } in
    let spots_same : spots ≡ is.spots.items = ap (λ (s : Spot). was.spots.items ++ s ∷ []) spot_is ∙ sym added.spots in
    record {
      gathered =
          subst (λ (b : Book). TellsOf known b now is.spots.items is.lengths.items is.entries.items) (sym added.book)
          (subst (λ (x : List Spot). TellsOf known new now x is.lengths.items is.entries.items) spots_same
          (subst (λ (x : List ℕ). TellsOf known new now spots x is.entries.items) (sym added.lengths)
          (subst (λ (x : List Facts). TellsOf known new now spots (was.lengths.items ++ noted.length ∷ []) x) (sym added.entries) all)));
      namespace_is = ap (λ (b : Book). b.namespace) added.book;
      count = ap (λ (b : Book). length (captures b)) added.book ∙ ap length more ∙ length-append (captures book) (noted.stored ∷ []);
    }
