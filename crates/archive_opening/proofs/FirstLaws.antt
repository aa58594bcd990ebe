-- Before the first step: nothing is read, and nothing is gathered.
use Rattle.std.proofs.Common.{◌≡◌, ◌≢◌, ℕ, Bool, true, false, IsTrue, List, [], length, refl, sym, ap, subst, ◌∙◌, arith}
use Rattle.std.specs.Prelude.{IfNone, IfSome, Option, Some, None, slice_get}
use Rattle.std.proofs.lemmas.Option.{slice_get_within}
use Rattle.capture.specs.Captures.{captures}
use Rattle.capture.specs.declared.book.Book.{Book}
use Rattle.disk_model.specs.Image.{Image}
use Rattle.disk_model.specs.declared.disk.Disk.{Ghosts}
use Rattle.volume_scan.specs.Scannings.{begins_at, captures_of, disk_of, files_in, position_of, texts as texts_read}
use Rattle.volume_scan.specs.declared.position.Position.{Position}
use Rattle.volume_scan.specs.declared.position.Stage.TheVariants.{Within, Skipped}
use Rattle.volume_scan.specs.declared.scanning.Scanning.{Scanning}
use Rattle.warc_journal.specs.Extents.{texts_in}
use Rattle.warc_journal.specs.Journals.{Rests}
use Rattle.archive_volumes.specs.Held.{book_of}
use Rattle.archive_volumes.specs.declared.spot.Spot.{Spot}
use Rattle.archive_gathering.proofs.StartLaws.{no_captures, none_left}
use Rattle.archive_opening.proofs.TellLaws.{settled_on}
use Rattle.archive_gathering.specs.Gathering.{IsGathered}
use Rattle.archive_opening.specs.Following.{Follows}
use Rattle.archive_opening.specs.Telling.{AreReadOrTold, GoesWith, IsAskedFor, IsReadWhole, IsSettledFor, IsTold, MayBeSettled, ReadsWhole, known_to}
use Rattle.archive_gathering.specs.Shapes.{IsMadeUp}
use Rattle.archive_gathering.specs.declared.gathered.Gathered.{Gathered}

not_skipped : Within ≢ Skipped
not_skipped e = cc

module _ {D : Type 0} (d : Ghosts D) (s : Scanning D) (g : Gathered) (begins : position_of s ≡ begins_at) (gathered : (known : Option Book) → IsGathered known g []) where
  none_there : length (book_of g.held).volumes ≡ 0
  none_there = sym (gathered None).read.are.count

  none_captured : length (captures (book_of g.held)) ≡ 0
  none_captured = ap length (no_captures (book_of g.held) none_there)

  count_is : captures_of s ≡ length (captures (book_of g.held))
  count_is = ap (λ (p : Position). p.captures) begins ∙ sym none_captured

  none_read : texts_read d s ≡ []
  none_read = ap (λ (p : Position). texts_in p.extent (files_in d s)) begins

  stage_is : (position_of s).stage ≢ Skipped
  stage_is skipped = not_skipped (sym (ap (λ (p : Position). p.stage) begins) ∙ skipped)

  pub follows_first : Follows d s g
  follows_first = record {
    texts = [];
    gathered = gathered None;
    volumes = ap (λ (p : Position). p.extent.volumes) begins;
    none = λ none. ap (λ (p : Position). p.extent.end) begins;
    ends = λ k last. absurd (omega (arith, last));
    count = count_is;
    namespace = λ some. absurd (omega (arith, some));
    whole = stage_is;
    read = λ tells. none_read;
  }

  no_spot : (number : ℕ) (spot : Spot) → slice_get g.spots.items number ≡ Some spot → ⊥
  no_spot number spot at = omega (arith, slice_get_within g.spots.items number spot at, (gathered None).spots_are.count, none_captured)

  none_kept : length g.spots.items ≡ 0
  none_kept = omega (arith, (gathered None).spots_are.count, none_captured)

  made_first : (known : Option Book) → IfNone known (IsMadeUp g)
  made_first None = record { spots = (gathered None).spots_are; made = record { each = λ number spot at told. absurd (no_spot number spot at) } }
  made_first (Some b) = tt

  told_first : (known : Option Book) → IfSome known (λ b. IsTrue d.tells × IsSettledFor (d.reading (disk_of s)) b) → IfSome known (λ b. IsTold d b s g)
  told_first None settled = tt
  told_first (Some b) settled = record {
    tells = settled.0;
    settled = settled.1;
    gathered = subst (IsGathered (Some b) g) (sym none_read) (gathered (Some b));
    behind = λ skipped. absurd (stage_is skipped);
  }

  pub goes_first : (known : Option Book) → IfSome known (λ b. IsTrue d.tells × IsSettledFor (d.reading (disk_of s)) b) → GoesWith d known s g
  goes_first known settled = record {
    volumes = ap (λ (p : Position). p.extent.volumes) begins ∙ sym none_there;
    none = λ none. ap (λ (p : Position). p.extent.end) begins;
    count = count_is;
    namespace = λ some. absurd (omega (arith, some, none_there));
    filled = λ k volume at less. absurd (omega (arith, less, none_there));
    begins = λ k volume last at empty. absurd (omega (arith, last, none_there));
    within = λ tells. record { each = λ number spot at. absurd (no_spot number spot at) };
    lined = λ tells. subst (AreReadOrTold (d.reading (disk_of s))) (sym (none_left g.spots.items none_kept)) (λ k x less. absurd (omega (arith, less)));
    numbered = record {
      in_order = (gathered None).entries_are.in_order;
      below = λ e has.
          let of = (gathered None).entries_are.of_book.each e has in
          slice_get_within (captures (book_of g.held)) e.number of.group.stored of.group.placed;
      named = λ e has spot at. absurd (no_spot e.number spot at);
    };
    requested = record { each = λ number spot at. absurd (no_spot number spot at) };
    made = made_first known;
    told = told_first known settled;
  }

  pub whole_first : (disk : D) → (IsTrue d.tells → Rests d disk (disk_of s)) → IsTrue d.tells → IsReadWhole (d.reading disk) → ReadsWhole d s g
  whole_first disk rests tells whole = record {
    tells = tells;
    whole = subst (λ (i : Image). IsReadWhole i) (sym (rests tells).read) whole;
    follows = follows_first;
  }

-- ---- what may be known

only_told : (t : Bool) (known : Option Book) (P : Book → Type 0) → IfSome known (λ b. IsTrue t → P b) → IfSome (known_to t known) (λ b. IsTrue t × P b)
only_told false known P has = tt
only_told true None P has = tt
only_told true (Some b) P has = (refl, has refl)

-- what is asked of a book that is known
abbrev IsMeant : {D : Type 0} → Ghosts D → D → Option (List ℕ) → Book → Type 0
IsMeant d disk asked b = IsSettledFor (d.reading disk) b × IsAskedFor asked b

settled_by : {D : Type 0} (d : Ghosts D) (disk : D) (s : Scanning D) (asked : Option (List ℕ)) (known : Option Book) → (IsTrue d.tells → Rests d disk (disk_of s))
    → IfSome known (λ b. IsTrue d.tells × IsMeant d disk asked b) → IfSome known (λ b. IsTrue d.tells × IsSettledFor (d.reading (disk_of s)) b)
settled_by d disk s asked None rests has = tt
settled_by d disk s asked (Some b) rests has = (has.0, settled_on d disk (disk_of s) b (rests has.0) has.1.0)

pub settled_first : {D : Type 0} (d : Ghosts D) (disk : D) (s : Scanning D) (asked : Option (List ℕ)) (known : Option Book)
    → (IsTrue d.tells → Rests d disk (disk_of s)) → MayBeSettled d disk asked known
    → IfSome (known_to d.tells known) (λ b. IsTrue d.tells × IsSettledFor (d.reading (disk_of s)) b)
settled_first d disk s asked known rests may =
    settled_by d disk s asked (known_to d.tells known) rests (only_told d.tells known (IsMeant d disk asked) may)

asked_by : {D : Type 0} (d : Ghosts D) (disk : D) (asked : Option (List ℕ)) (known : Option Book)
    → IfSome known (λ b. IsTrue d.tells × IsMeant d disk asked b) → IfSome known (IsAskedFor asked)
asked_by d disk asked None has = tt
asked_by d disk asked (Some b) has = has.1.1

pub asked_first : {D : Type 0} (d : Ghosts D) (disk : D) (asked : Option (List ℕ)) (known : Option Book) → MayBeSettled d disk asked known
    → IfSome (known_to d.tells known) (IsAskedFor asked)
asked_first d disk asked known may = asked_by d disk asked (known_to d.tells known) (only_told d.tells known (IsMeant d disk asked) may)
