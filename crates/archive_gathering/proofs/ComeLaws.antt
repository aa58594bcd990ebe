-- What is gathered of a volume's lines, one after the other.
use Rattle.std.proofs.Common.{◌≡◌, ◌≢◌, ℕ, suc, ◌+◌, ◌-◌, ◌^◌, ◌<◌, ◌≤◌, Bool, true, false, List, [], ◌∷◌, ◌++◌, length, get_or, refl, sym, ap, subst, ◌∙◌, ⊎_elim, arith, append-nil, length-append}
use Rattle.std.specs.Prelude.{if◌then◌else◌, IfSome, Option, Some, None, option_to_list, slice_get, unwrap_or}
use Rattle.std.proofs.lemmas.List.{get_or-set_other, length-set}
use Rattle.std.proofs.lemmas.Option.{same_Some, slice_get_within}
use Rattle.std.proofs.lemmas.Bool.{cases_lt, false≢true}
use Rattle.capture.specs.Captures.{captures}
use Rattle.capture.specs.declared.book.Book.{Book}
use Rattle.capture.specs.declared.captured.Stored.{Stored}
use Rattle.index_entry.specs.Facts.{Facts}
use Rattle.cdxj_line.specs.declared.line.Line.{Line}
use Rattle.warc_journal.specs.Texts.{with_more}
use Rattle.archive_shelf.proofs.GainingSoundness.{no_volumes}
use Rattle.archive_shelf.proofs.StoringLaws.{captures_more}
use Rattle.archive_shelf.specs.Storing.{with_capture}
use Rattle.archive_volumes.specs.Held.{book_of}
use Rattle.archive_volumes.specs.Lines.{told_spot}
use Rattle.archive_volumes.specs.declared.spot.Spot.{Spot}
use Rattle.capture.specs.Growth.{Grows}
use Rattle.capture.specs.declared.captured.Kept.TheVariants.{Wire, Same}
use Rattle.time_text.specs.Texts.{InRange}
use Rattle.warc_text.proofs.BookLaws.{get_behind}
use Rattle.archive_shelf.proofs.StoringLaws.{capture_grows}
use Rattle.archive_volumes.proofs.GroupPlaces.{in_last_volume}
use Rattle.archive_volumes.proofs.SpotLaws.{GoOn, get_before, made_stay, spots_with, within_with}
use Rattle.archive_volumes.specs.Lines.{is_revisit_line}
use Rattle.archive_volumes.specs.Spots.{AreHeldWhole, AreSpotsOf, AreWithin, HasPlace, IsInVolume, IsSpotOf, form_of, is_same_form}
use Rattle.archive_volumes.specs.declared.spot.Form.TheVariants as forms
use Rattle.archive_gathering.proofs.ShapeLaws.{IsEntryFor, last_some, numbered_with, requested_with, same_length, sealed_at}
use Rattle.archive_gathering.proofs.SealedLaws.{sealed_with}
use Rattle.archive_gathering.specs.Shapes.{AreFilledBefore, AreNumbered, AreRequested, IsMadeUp, sealed_in}
use Rattle.archive_gathering.proofs.ToldLaws.{begun_told, tells_told}
use Rattle.archive_gathering.specs.Gathering.{IsSteady, TellsOf}
use Rattle.archive_gathering.specs.Lines.{Comes, EntersLine, HasAddedLine, IsLastFilled, capture_by, made_of}
use Rattle.archive_gathering.specs.Reading.{IsBegunBy, Laws}
use Rattle.archive_gathering.specs.declared.gathered.Gathered.{Gathered}

-- the first of the lines that were left
pub left_is : (result : Option Line) (old new : List Line) (line : Line) → old ≡ option_to_list result ++ new → result ≡ Some line → old ≡ line ∷ new
left_is result old new line items is = items ∙ ap (λ (o : Option Line). option_to_list o ++ new) is

captured_so : (b : Book) (line : Line) (stored : Stored) → slice_get (captures b) line.number ≡ Some stored → capture_by (Some b) line ≡ stored
captured_so b line stored at = ap (λ (o : Option Stored). unwrap_or o (made_of line)) at

-- with a line more there is one capture more
pub record HasOneMore (was is : Gathered) : Type 0 where
  pub captures_are : length (captures (book_of is.held)) ≡ length (captures (book_of was.held)) + 1
  pub volumes : length (book_of is.held).volumes ≡ length (book_of was.held).volumes
  pub sealed : sealed_in (book_of is.held).volumes ≡ sealed_in (book_of was.held).volumes
  pub namespace : (book_of is.held).namespace ≡ (book_of was.held).namespace
  pub spots : length is.spots.items ≡ suc (length was.spots.items)
  pub filled : AreFilledBefore (book_of was.held) → AreFilledBefore (book_of is.held)
  pub last : IsLastFilled (book_of is.held)
  pub numbered : AreNumbered was → AreNumbered is
  pub requested : AreRequested was → AreRequested is

entry_for : (line : Line) (n : ℕ) → line.number ≡ n → (entry : Option Facts) → EntersLine line entry → IfSome entry (IsEntryFor n (told_spot line))
entry_for line n is None enters = tt
entry_for line n is (Some e) enters = record {
  number_is = ap (λ (f : Facts). f.number) enters.2 ∙ is;
  named = record {
    uri = ap (λ (f : Facts). f.uri) enters.2;
    date = ap (λ (f : Facts). f.date) enters.2;
    digest = ap (λ (f : Facts). f.digest) enters.2;
  };
}

pub more_captures : (was is : Gathered) (stored : Stored) (line : Line) → IsSteady was → line.number ≡ length was.spots.items → 0 < length (book_of was.held).volumes
    → HasAddedLine was is stored line → HasOneMore was is
more_captures was is stored line steady number some added =
    let book : Book = book_of was.held in
    let new : Book = with_capture book stored in
    let count : length (captures (book_of is.held)) ≡ length (captures book) + 1 =
    ap (λ (b : Book). length (captures b)) added.book ∙ ap length (captures_more book.volumes stored (no_volumes book.volumes some))
    ∙ length-append (captures book) (stored ∷ []) in
    record {
      captures_are = count;
      volumes = ap (λ (b : Book). length b.volumes) added.book ∙ same_length book.volumes stored;
      sealed = ap (λ (b : Book). sealed_in b.volumes) added.book ∙ sealed_with book.volumes stored;
      namespace = ap (λ (b : Book). b.namespace) added.book;
      spots = omega (arith, ap length added.spots, length-append was.spots.items (told_spot line ∷ []));
      filled = λ filled. subst AreFilledBefore (sym added.book) (λ k volume at less.
          filled k volume (sealed_at book.volumes stored k volume at less) (omega (arith, less, same_length book.volumes stored)));
      last = λ k volume at placed none.
          last_some book.volumes stored some k volume (at ∙ ap (λ (b : Book). length b.volumes) added.book)
          (sym (ap (λ (b : Book). slice_get b.volumes k) added.book) ∙ placed) none;
      numbered = λ numbered.
          numbered_with was is (told_spot line) steady numbered added.spots count added.entry added.entries
          (entry_for line (length (captures book)) (number ∙ steady.count) added.entry added.enters);
      requested = λ are.
          requested_with was is stored (told_spot line) steady are
          (ap (λ (b : Book). captures b) added.book ∙ captures_more book.volumes stored (no_volumes book.volumes some)) added.spots
          (λ read. absurd (false≢true (sym read)));
    }

go_on_itself : (texts : List (List ℕ)) → GoOn texts texts
go_on_itself texts = record { count = omega arith; rest = λ k. []; each = λ k less. sym (append-nil (get_or texts k [])) }

pub within_line : (was is : Gathered) (stored : Stored) (line : Line) → HasAddedLine was is stored line → (texts : List (List ℕ)) → AreWithin texts was.spots.items
    → HasPlace texts (told_spot line) → AreWithin texts is.spots.items
within_line was is stored line added texts within place =
    subst (AreWithin texts) (sym added.spots) (within_with texts texts (go_on_itself texts) was.spots.items (told_spot line) within place)

-- ---- where no book is known

made_kept : (revisit : Bool) → revisit ≡ is_same_form (form_of (if revisit then Same 0 else Wire []))
made_kept true = refl
made_kept false = refl

kept_wire_of : (revisit : Bool) → forms.Told revisit ≡ forms.Told false → (if revisit then Same 0 else Wire []) ≡ Wire []
kept_wire_of false e = refl
kept_wire_of true e = absurd (apart e)
  where
    apart : forms.Told true ≡ forms.Told false → ⊥
    apart f = cc

pub made_line : (was is : Gathered) (line : Line) → IsSteady was → line.number ≡ length was.spots.items → line.volume + 1 ≡ length (book_of was.held).volumes
    → InRange line.date → length line.url < 2 ^ 61 → HasAddedLine was is (made_of line) line → IsMadeUp was → IsMadeUp is
made_line was is line steady number volume date short added made =
    let book : Book = book_of was.held in
    let stored : Stored = made_of line in
    let new : Book = with_capture book stored in
    let some : 0 < length book.volumes = omega (arith, volume) in
    let gains : captures new ≡ captures book ++ stored ∷ [] = captures_more book.volumes stored (no_volumes book.volumes some) in
    let count = length (captures book) in
    let placed : slice_get (captures new) count ≡ Some stored =
    ap (λ (l : List Stored). slice_get l count) gains ∙ get_behind (captures book ++ stored ∷ []) (captures book) stored [] count refl refl in
    let last : length book.volumes - 1 ≡ line.volume = omega (arith, volume) in
    let spot_is : IsSpotOf new count (told_spot line) = record {
      stored = stored;
      placed = placed;
      method = refl;
      uri = refl;
      date = refl;
      form = λ read. absurd (false≢true (sym read));
      revisit = made_kept (is_revisit_line line);
      digest = λ read. absurd (false≢true (sym read));
      line = λ told request. absurd (request refl);
      refers = tt;
      inside = subst (IsInVolume new count) last (in_last_volume book stored some);
      in_range = date;
      short = short;
      ends = omega arith;
    } in
    record {
      spots = subst (λ (b : Book). AreSpotsOf b is.spots.items) (sym added.book)
          (subst (AreSpotsOf new) (sym added.spots)
          (spots_with book new stored gains (capture_grows book stored) was.spots.items (told_spot line) made.spots spot_is));
      made = subst (λ (b : Book). AreHeldWhole b is.spots.items) (sym added.book)
          (subst (AreHeldWhole new) (sym added.spots)
          (held_with book new stored gains (capture_grows book stored) was.spots.items line made.spots.count placed made.made));
    }
  where
    held_with : (book new : Book) (stored : Stored) (gains : captures new ≡ captures book ++ stored ∷ []) (grow : Grows book new) (spots : List Spot) (line : Line)
        → length spots ≡ length (captures book) → slice_get (captures new) (length (captures book)) ≡ Some (made_of line)
        → AreHeldWhole book spots → AreHeldWhole new (spots ++ told_spot line ∷ [])
    held_with book new stored gains grow spots line count placed held = record {
      each = λ number spot at told. ⊎_elim
          (λ (before : number < length spots).
          (made_stay book new (stored ∷ []) gains grow spots held).each number spot (sym (get_before spots (told_spot line) number before) ∙ at) told)
          (λ (behind : length spots ≤ number).
          let within = slice_get_within (spots ++ told_spot line ∷ []) number spot at in
          let here : length spots ≡ number = omega (arith, behind, within, length-append spots (told_spot line ∷ [])) in
          let same : told_spot line ≡ spot = same_Some (told_spot line) spot (sym (get_behind (spots ++ told_spot line ∷ []) spots (told_spot line) [] number refl here) ∙ at) in
          record {
            stored = made_of line;
            wire = [];
            placed = subst (λ (n : ℕ). slice_get (captures new) n ≡ Some (made_of line)) (sym count ∙ here) placed;
            kept = kept_wire_of (is_revisit_line line) (ap (λ (s : Spot). s.form) same ∙ told);
          })
          (cases_lt number (length spots));
    }

-- one line more
pub come_on : Laws → (b : Book) (texts : List (List ℕ)) (was is : Gathered) (line : Line) (rest : List Line) → IsSteady was → line.number ≡ length was.spots.items
    → HasAddedLine was is (capture_by (Some b) line) line → Comes b texts was (line ∷ rest) → Comes b texts is rest
come_on laws b texts was is line rest steady number added comes =
    let come = comes.come in
    let so = come.so_far in
    let book : Book = book_of was.held in
    let of = comes.left.0.of in
    let volume : line.volume + 1 ≡ length come.now = comes.left.0.volume_is ∙ sym come.count in
    let number_is : line.number ≡ length (captures book) = number ∙ steady.count in
    let stored : Stored = of.entry.group.stored in
    let book_is : book_of is.held ≡ with_capture book stored =
    added.book ∙ ap (with_capture book) (captured_so b line stored of.entry.group.placed) in
    let now : List (List ℕ) = with_more come.now of.entry.text in
    let tells = tells_told laws b so.sound so.ids book come.now so.gathered.read so.some so.begun line of number_is volume was.spots.items was.lengths.items was.entries.items
    (steady.lengths_too ∙ steady.count) so.gathered added.entry added.enters in
    let begun = begun_told laws b so.sound so.ids book come.now so.gathered.read so.some so.begun line of number_is volume in
    let count : length now ≡ length come.now =
    length-set come.now (length come.now - 1) (get_or come.now (length come.now - 1) [] ++ of.entry.text) in
    record {
      come = record {
        now = now;
        so_far = record {
          sound = so.sound;
          ids = so.ids;
          some = omega (arith, so.some, count);
          gathered =
              subst (λ (x : Book). TellsOf (Some b) x now is.spots.items is.lengths.items is.entries.items) (sym book_is)
              (subst (λ (x : List Spot). TellsOf (Some b) (with_capture book stored) now x is.lengths.items is.entries.items) (sym added.spots)
              (subst (λ (x : List ℕ). TellsOf (Some b) (with_capture book stored) now (was.spots.items ++ told_spot line ∷ []) x is.entries.items) (sym added.lengths)
              (subst (λ (x : List Facts). TellsOf (Some b) (with_capture book stored) now (was.spots.items ++ told_spot line ∷ []) (was.lengths.items ++ 0 ∷ []) x) (sym added.entries) tells)));
          begun = subst (λ (x : Book). IsBegunBy x now b) (sym book_is) begun;
        };
        count = count ∙ come.count;
        others = λ k less.
            let other : k ≢ length come.now - 1 = (λ e. omega (arith, e, less, come.count)) in
            get_or-set_other come.now (length come.now - 1) k (get_or come.now (length come.now - 1) [] ++ of.entry.text) [] other ∙ come.others k less;
      };
      left = comes.left.1;
    }
