-- The lines of a volume stand for the rest of its file, which isn't read.
use Rattle.std.proofs.Common.{◌≡◌, ◌≢◌, ℕ, zero, suc, ◌+◌, ◌-◌, ◌^◌, ◌<◌, ◌≤◌, IsTrue, List, [], ◌∷◌, ◌++◌, length, get_or, map, take, drop, true, refl, sym, ap, subst, ◌∙◌, ⊎_elim, arith, append-nil, length-append}
use Rattle.std.specs.Prelude.{All, Contains, IfNone, IfSome, Option, Some, None, slice_index_or}
use Rattle.std.specs.List.Sorted.{IsPermutation}
use Rattle.std.proofs.lemmas.Bool.{cases_lt}
use Rattle.std.proofs.lemmas.List.{get_or-set_other, get_or-take, get_or_default, length-drop, length-set, same_lists}
use Rattle.std.proofs.lemmas.List.Elements.{All-append, All-contains, All-contains_itself, All-head, All-map, All-tail, All-weaker}
use Rattle.std.proofs.lemmas.List.Sorted.{All-permutation, Contains-permutation, length_permutation}
use Rattle.capture.specs.declared.book.Book.{Book}
use Rattle.cdxj_line.specs.declared.line.Line.{Line}
use Rattle.checkpoint.specs.Checkpoints.{AreLinesFor, IsCheckpoint, checkpoint_of}
use Rattle.checkpoint.specs.OfVolume.{AreLinesOf}
use Rattle.disk_model.specs.Image.{Image, file_of}
use Rattle.disk_model.specs.declared.disk.Disk.{Ghosts}
use Rattle.disk_model.specs.declared.kind.Kind.TheVariants.{Warc}
use Rattle.volume_scan.specs.Books.{FilesBeginWithWhatWasRead}
use Rattle.volume_scan.specs.Scannings.{IsInPlace, captures_of, disk_of, files_in, position_of, texts as texts_read}
use Rattle.volume_scan.specs.Unread.{unread}
use Rattle.volume_scan.specs.declared.position.Position.{Position}
use Rattle.volume_scan.specs.declared.position.Stage.TheVariants as stages
use Rattle.volume_scan.specs.declared.scanning.Scanning.{Scanning}
use Rattle.warc_journal.specs.Extents.{warc_files}
use Rattle.warc_journal.specs.Texts.{with_more}
use Rattle.warc_text.specs.Books.{IsVolumeText, joined}
use Rattle.archive_shelf.proofs.OneWayLaws.{one_text}
use Rattle.archive_volumes.proofs.SpotLaws.{within_stay}
use Rattle.archive_volumes.specs.Lines.{told_spot}
use Rattle.archive_volumes.specs.Spots.{AreWithin, is_told_form}
use Rattle.archive_volumes.specs.declared.spot.Spot.{Spot}
use Rattle.archive_gathering.proofs.FrontLaws.{last_with_more}
use Rattle.archive_gathering.proofs.SpottedLaws.{go_on_more}
use Rattle.archive_opening.proofs.TellLaws.{last_long, length_texts}
use Rattle.archive_gathering.specs.Gathering.{IsGathered, IsSteady}
use Rattle.archive_gathering.specs.Lines.{AreLinesIn, AreNext, ArePlacedIn, HasCome, HasMoreCaptures, IsSoFar}
use Rattle.archive_opening.specs.Telling.{AreReadOrTold, GoesWith, IsOfLine, IsReadOf, IsSettledFor, IsTold, OpensAt}
use Rattle.archive_gathering.specs.Reading.{Laws}
use Rattle.archive_gathering.specs.Shapes.{IsMadeUp}
use Rattle.archive_gathering.specs.declared.gathered.Gathered.{Gathered}
use Rattle.archive_opening.specs.declared.telling.FileLines.{FileLines}

-- ---- the lines, whatever is known

-- a file of an image
pub file_is : (image : Image) (k : ℕ) → file_of image Warc k ≡ get_or (warc_files image) k []
unfolding file_of
file_is image k = refl

-- what wasn't read of the last volume's file
pub rest_is_drop : (position : Position) (files : List (List ℕ)) (k : ℕ) → k + 1 ≡ position.extent.volumes
    → unread position files ≡ drop position.extent.end (get_or files k [])
rest_is_drop position files k is =
    let at : position.extent.volumes - 1 ≡ k = omega (arith, is) in
    ap (λ (i : ℕ). drop position.extent.end (get_or (take position.extent.volumes files) i [])) at
    ∙ ap (λ (f : List ℕ). drop position.extent.end f) (get_or-take position.extent.volumes files k [] (omega (arith, is)))

pub few_next : (first len : ℕ) (lines : List Line) → first < 2 ^ 32 - 1 → AreNext first len lines → first + length lines < 2 ^ 32 - 1
few_next first len [] few are = omega (arith, few)
few_next first len (line ∷ lines) few are = omega (arith, few_next (suc first) len lines (omega (arith, are.0.few)) are.1)

-- a line's number is below the end
below_end : (first len : ℕ) (lines : List Line) (line : Line) → AreNext first len lines → Contains lines line → line.number < first + length lines
below_end first len [] line are has = absurd (omega (arith, has.1))
below_end first len (l ∷ ls) line are (zero, less, same) = omega (arith, are.0.number_is, ap (λ (x : Line). x.number) same)
below_end first len (l ∷ ls) line are (suc k, less, same) =
    omega (arith, below_end (suc first) len ls line are.1 (k, omega (arith, less), same))

placed_all : (texts : List (List ℕ)) (k first len : ℕ) (lines : List Line) → k < length texts → length (get_or texts k []) ≡ len
    → All (λ (line : Line). line.volume ≡ k) lines → AreNext first len lines → ArePlacedIn texts lines
placed_all texts k first len [] within long volumes are = tt
placed_all texts k first len (line ∷ lines) within long volumes are =
    let volume = All-head (λ (l : Line). l.volume ≡ k) line lines volumes in
    let same = ap (λ (j : ℕ). length (get_or texts j [])) volume in (
      record { there = omega (arith, volume, within); begins = omega (arith, are.0.within, long, same); within = omega arith },
      placed_all texts k (suc first) len lines within long (All-tail (λ (l : Line). l.volume ≡ k) line lines volumes) are.1,
    )

lines_in : (b : Book) (texts : List (List ℕ)) (k : ℕ) (all lines : List Line) → k + 1 ≡ length texts → AreLinesOf b k all
    → All (Contains all) lines → AreLinesIn b texts lines
lines_in b texts k all [] at of from = tt
lines_in b texts k all (line ∷ lines) at of from =
    let has = All-head (Contains all) line lines from in (
      record { of = of.each line has; volume_is = omega (arith, of.of_volume line has, at) },
      lines_in b texts k all lines at of (All-tail (Contains all) line lines from),
    )

module _ {D : Type 0} (d : Ghosts D) (known : Option Book) (old new : Scanning D) (was is : Gathered) (goes : GoesWith d known old was) (steady : IsSteady was)
    (was_in : IsInPlace d old) (told : FileLines) (opens : OpensAt old told.volume) (fit : AreLinesFor told.volume told.lines.items)
    (read_of : IsTrue d.tells → IsReadOf (d.reading (disk_of old)) told) (lines : List Line) (moved : IsPermutation told.lines.items lines)
    (next : AreNext (captures_of old) told.len lines) (more : HasMoreCaptures was is (length lines)) (some_lines : 0 < length lines)
    (position : position_of new ≡ record (position_of old) {
      extent = record (position_of old).extent { end = (position_of new).extent.end };
      captures = captures_of old + length lines;
      stage = stages.Skipped;
    })
    (read : IsTrue d.tells → texts_read d new ≡ with_more (texts_read d old) (unread (position_of old) (files_in d old)))
    (disk : disk_of new ≡ disk_of old) (spots : is.spots.items ≡ was.spots.items ++ map (λ (line : Line). told_spot line) lines) where
  abbrev ts : List (List ℕ)
  ts = texts_read d old

  abbrev k : ℕ
  k = told.volume

  abbrev rest : List ℕ
  rest = unread (position_of old) (files_in d old)

  volumes_of : All (λ (line : Line). line.volume ≡ k) lines
  volumes_of = All-permutation (λ (line : Line). line.volume ≡ k) told.lines.items lines moved fit.of_volume

  count_ts : IsTrue d.tells → length ts ≡ (position_of old).extent.volumes
  count_ts tells = length_texts (position_of old).extent (files_in d old) (was_in.stands tells).lies.enough

  at_last : IsTrue d.tells → k + 1 ≡ length ts
  at_last tells = omega (arith, opens.volume_is, count_ts tells)

  -- with the rest it is all that the file holds
  whole : IsTrue d.tells → get_or (with_more ts rest) k [] ≡ get_or ts k [] ++ rest
  whole tells = last_with_more ts rest k (at_last tells)

  rest_is : rest ≡ drop (position_of old).extent.end (get_or (files_in d old) k [])
  rest_is = rest_is_drop (position_of old) (files_in d old) k opens.volume_is

  file_long : IsTrue d.tells → length (get_or (files_in d old) k []) ≡ told.len
  file_long tells = sym ((read_of tells).len_is ∙ ap length (file_is (d.reading (disk_of old)) k))

  long : IsTrue d.tells → length (get_or (with_more ts rest) k []) ≡ told.len
  long tells =
      let lies = (was_in.stands tells).lies in
      let end = last_long (position_of old).extent (files_in d old) k opens.volume_is lies.enough (lies.within k opens.volume_is) in
      omega (
        arith,
        ap length (whole tells),
        length-append (get_or ts k []) rest,
        end,
        ap length rest_is,
        length-drop (position_of old).extent.end (get_or (files_in d old) k []),
        lies.within k opens.volume_is,
        file_long tells,
      )

  count_more : length (with_more ts rest) ≡ length ts
  count_more = length-set ts (length ts - 1) (get_or ts (length ts - 1) [] ++ rest)

  within_new : ((texts : List (List ℕ)) → AreWithin texts was.spots.items → ArePlacedIn texts lines → AreWithin texts is.spots.items)
      → IsTrue d.tells → AreWithin (texts_read d new) is.spots.items
  within_new within tells =
      subst (λ (t : List (List ℕ)). AreWithin t is.spots.items) (sym (read tells))
      (within (with_more ts rest)
      (within_stay ts (with_more ts rest) (go_on_more ts rest (omega (arith, at_last tells))) was.spots.items (goes.within tells))
      (placed_all (with_more ts rest) k (captures_of old) told.len lines (omega (arith, at_last tells, count_more)) (long tells) volumes_of next))

  from_all : All (Contains told.lines.items) lines
  from_all = All-permutation (Contains told.lines.items) told.lines.items lines moved (All-contains_itself told.lines.items)

  lined_new : IsTrue d.tells → AreReadOrTold (d.reading (disk_of new)) is.spots.items
  lined_new tells =
      let image : Image = d.reading (disk_of old) in
      let P : Spot → Type 0 = λ x. is_told_form x.form ≡ true → IsOfLine image x in
      let own : All (λ (line : Line). P (told_spot line)) lines =
      All-weaker (Contains told.lines.items) (λ (line : Line). P (told_spot line)) (λ line has told_form. record {
        lines = told.lines.items;
        finished = subst (λ (v : ℕ). IsCheckpoint v told.lines.items (checkpoint_of image v))
            (sym (All-contains (λ (l : Line). l.volume ≡ k) told.lines.items line fit.of_volume has)) (read_of tells).checkpoint;
        line = line;
        one = has;
        is = refl;
      }) lines from_all in
      subst (λ (x : D). AreReadOrTold (d.reading x) is.spots.items) (sym disk)
      (subst (AreReadOrTold image) (sym spots)
      (All-append P was.spots.items (map (λ (line : Line). told_spot line) lines) (goes.lined tells) (All-map P (λ (line : Line). told_spot line) lines own)))

  -- ---- where the book is known

  module _ (laws : Laws) (begin : FilesBeginWithWhatWasRead) (b : Book) (was_told : IsTold d b old was)
      (comes : IsSoFar b was ts → AreLinesIn b ts lines → HasCome b is ts) where
    abbrev tells : IsTrue d.tells
    tells = was_told.tells

    abbrev settled : IsSettledFor (d.reading (disk_of old)) b
    settled = was_told.settled

    lines_of : (k + 1 < length b.volumes) × AreLinesOf b k told.lines.items
    lines_of = settled.checkpoints.each k told.lines.items (read_of tells).checkpoint

    so_far : IsSoFar b was ts
    so_far = record {
      sound = settled.stands.sound;
      ids = settled.ids;
      some = omega (arith, at_last tells);
      gathered = was_told.gathered;
      begun = was_told.gathered.read.goes_on (files_in d old) b refl (begin (position_of old) (files_in d old) (was_in.stands tells).lies)
          settled.stands.sound settled.stands.for;
    }

    come : HasCome b is ts
    come = comes so_far (lines_in b ts k told.lines.items lines (at_last tells) lines_of.1 from_all)

    now_whole : get_or come.now k [] ≡ get_or (files_in d old) k []
    now_whole =
        let up = come.so_far.begun.begins.last k (omega (arith, at_last tells, come.count)) in
        let filled = settled.stands.sound.sound.filled k up.volume up.placed lines_of.0 in
        let last = lines_of.1.all up.volume (length up.volume.captures - 1) up.placed (omega (arith, filled)) in
        let there : Contains lines last.0 = Contains-permutation told.lines.items lines last.0 moved last.1 in
        let below = below_end (captures_of old) told.len lines last.0 next there in
        let none : length up.groups ≡ 0 =
        omega (arith, up.count, below, last.2, filled, more.captures_are, goes.count) in
        let nothing : joined up.groups ≡ [] = no_joined up.groups none in
        let of_book : IsVolumeText b k (get_or come.now k []) =
        subst (IsVolumeText b k) (ap (λ (t : List ℕ). get_or come.now k [] ++ t) nothing ∙ append-nil (get_or come.now k [])) up.whole in
        let yours = settled.stands.for.are.each k (omega (arith, lines_of.0, settled.stands.for.are.count)) in
        one_text laws.one_group b k (get_or come.now k []) (slice_index_or settled.stands.for.texts k []) of_book yours
        ∙ sym (settled.stands.for.held.sealed k (omega (arith, lines_of.0, settled.stands.for.are.count)))
      where
        no_joined : (groups : List (List ℕ)) → length groups ≡ 0 → joined groups ≡ []
        no_joined [] e = refl
        no_joined (x ∷ xs) e = absurd (omega (arith, e))

    text_whole : get_or (with_more ts rest) k [] ≡ get_or (files_in d old) k []
    text_whole =
        let fronts = begin (position_of old) (files_in d old) (was_in.stands tells).lies in
        let front = fronts.last k (at_last tells) in
        let lies = (was_in.stands tells).lies in
        let end = last_long (position_of old).extent (files_in d old) k opens.volume_is lies.enough (lies.within k opens.volume_is) in
        whole tells
        ∙ ap (λ (r : List ℕ). get_or ts k [] ++ r) (rest_is ∙ ap (λ (f : List ℕ). drop (position_of old).extent.end f) front.1
        ∙ ap (λ (n : ℕ). drop n (get_or ts k [] ++ front.0)) (sym end) ∙ drop_front (get_or ts k []) front.0)
        ∙ sym front.1
      where
        drop_front : (xs ys : List ℕ) → drop (length xs) (xs ++ ys) ≡ ys
        drop_front [] ys = refl
        drop_front (x ∷ xs) ys = drop_front xs ys

    now_is : come.now ≡ texts_read d new
    now_is =
        same_lists come.now (with_more ts rest) (come.count ∙ sym count_more) (λ j e less.
        get_or_default come.now j e [] less
        ∙ ⊎_elim
        (λ (before : j + 1 < length ts).
        let other : j ≢ length ts - 1 = (λ same. omega (arith, same, before)) in
        come.others j before ∙ sym (get_or-set_other ts (length ts - 1) j (get_or ts (length ts - 1) [] ++ rest) [] other))
        (λ (last : length ts ≤ j + 1).
        let at : k ≡ j = omega (arith, last, less, come.count, at_last tells) in
        subst (λ (i : ℕ). get_or come.now i [] ≡ get_or (with_more ts rest) i []) at (now_whole ∙ sym text_whole))
        (cases_lt (j + 1) (length ts))
        ∙ get_or_default (with_more ts rest) j [] e (omega (arith, less, come.count, count_more)))
        ∙ sym (read tells)

    told_new : IsTold d b new is
    told_new = record {
      tells = tells;
      settled = subst (λ (x : D). IsSettledFor (d.reading x) b) (sym disk) settled;
      gathered = subst (IsGathered (Some b) is) now_is come.so_far.gathered;
      behind = λ skipped. omega (arith, lines_of.0, opens.volume_is, ap (λ (p : Position). p.extent.volumes) position);
    }

  -- ---- all

  pub goes_skipped : Laws → FilesBeginWithWhatWasRead
      → ((texts : List (List ℕ)) → AreWithin texts was.spots.items → ArePlacedIn texts lines → AreWithin texts is.spots.items)
      → (known ≡ None → IsMadeUp was → IsMadeUp is)
      → ((b : Book) → known ≡ Some b → IsSoFar b was ts → AreLinesIn b ts lines → HasCome b is ts)
      → GoesWith d known new is
  goes_skipped laws begin within made comes = record {
    volumes = ap (λ (p : Position). p.extent.volumes) position ∙ goes.volumes ∙ sym more.volumes;
    none = λ none. absurd (omega (arith, none, ap (λ (p : Position). p.extent.volumes) position, opens.volume_is));
    count = omega (arith, ap (λ (p : Position). p.captures) position, goes.count, more.captures_are);
    namespace = λ some. ap (λ (p : Position). p.namespace) position ∙ goes.namespace (omega (arith, some, more.volumes)) ∙ sym more.namespace;
    filled = more.filled goes.filled;
    begins = λ j v last at empty. absurd (more.last some_lines j v last at empty);
    within = within_new within;
    lined = lined_new;
    numbered = more.numbered goes.numbered;
    requested = more.requested goes.requested;
    made = made_new known refl goes.made;
    told = told_by known refl goes.told;
  }
    where
      made_new : (o : Option Book) → known ≡ o → IfNone o (IsMadeUp was) → IfNone o (IsMadeUp is)
      made_new None same was_made = made same was_made
      made_new (Some b) same was_made = tt

      told_by : (o : Option Book) → known ≡ o → IfSome o (λ b. IsTold d b old was) → IfSome o (λ b. IsTold d b new is)
      told_by None same was_told = tt
      told_by (Some b) same was_told = told_new laws begin b was_told (comes b same)

pub length_moved : (lines moved : List Line) → IsPermutation lines moved → length lines ≡ length moved
length_moved lines moved is = omega (arith, length_permutation lines moved is)
