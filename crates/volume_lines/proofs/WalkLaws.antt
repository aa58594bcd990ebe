-- The lines of a volume, as they are read one behind the other, and sorted.
use Rattle.std.proofs.Common.{◌≡◌, ◌⊎◌, ℕ, zero, suc, ◌+◌, ◌<◌, ◌≤◌, List, [], ◌∷◌, ◌++◌, length, get_or, refl, sym, ap, subst, ◌∙◌, ⊎_elim, inl, inr, arith, length-append}
use Rattle.std.proofs.Math.ListN.{get_or-append}
use Rattle.std.specs.Prelude.{◌-◌, Contains, IfSome, IsSomeAnd, Option, Some, slice_get}
use Rattle.std.proofs.lemmas.List.Folds.{length-flat_map-take}
use Rattle.std.proofs.lemmas.Option.{get_or_from_slice_get, same_Some, slice_get_within}
use Rattle.std.specs.Cmp.{nat_cmp_is}
use Rattle.std.specs.declared.cmp.Ordering.TheVariants.{Less}
use Rattle.std.specs.List.Sorted.{IsPermutation, IsStrictlySortedBy}
use Rattle.std.proofs.lemmas.List.Sorted.{Contains-permutation, IsPermutation-sym, length_permutation}
use Rattle.std.proofs.Math.Seq.{get_or-append_seam}
use Rattle.capture.specs.Captures.{captures, first_number}
use Rattle.capture.specs.declared.book.Book.{Book}
use Rattle.capture.specs.declared.book.Volume.{Volume}
use Rattle.archive_volumes.specs.declared.volume_facts.VolumeFacts.{VolumeFacts}
use Rattle.cdxj_line.specs.declared.line.Line.{Line}
use Rattle.index_entry.proofs.Members.{all_from_among, contains_from_among}
use Rattle.warc_text.specs.Books.{AreVolumeTexts, IsVolumeText}
use Rattle.archive_volumes.specs.Held.{book_of}
use Rattle.archive_volumes.specs.Spots.{text_at}
use Rattle.archive_volumes.specs.declared.held.Held.{Held}
use Rattle.archive_volumes.specs.declared.spot.Spot.{Spot}
use Rattle.checkpoint.specs.Checkpoints.{AreLinesFor, line_order}
use Rattle.checkpoint.specs.OfVolume.{AreLinesOf, IsLineOf}
use Rattle.volume_lines.specs.OfGroups.{CanBeIn, GoesOnBy, IsFactsOf, front_of, line_numbers}
use Rattle.volume_lines.specs.OfSpots.{AreLinesOfSpots, TellsKept}

-- So many lines of a volume were read, whose first capture has this number: each is of the capture at its place.
pub record HasWalked (k first : ℕ) (lines : List Line) (done : ℕ) : Type 0 where
  pub count : length lines ≡ done
  pub fit : (j : ℕ) (d : Line) → j < done → CanBeIn k (first + j) (get_or lines j d)

-- Where the disk tells, they are of the book's captures, and the volume's text has come to here.
pub record HasTold {book : Book} {k : ℕ} {text : List ℕ} (is : IsVolumeText book k text) (lines : List Line) (done at : ℕ) : Type 0 where
  pub here : at ≡ length (front_of is done)
  pub each : (j : ℕ) (d : Line) → j < done → IsLineOf book (first_number book k + j) (get_or lines j d)

-- Whatever the disk tells, each tells what is kept of the capture at its place.
abbrev pub HaveTold : List Spot → ℕ → List Line → ℕ → Type 0
HaveTold spots first lines done = (j : ℕ) (d : Line) → j < done → TellsKept spots (first + j) (get_or lines j d)

-- ---- one line more

one_more : (n : ℕ) → suc n ≡ n + 1
one_more n = omega arith

at_or_before : (P : Line → Type 0) (lines : List Line) (line : Line) (j : ℕ) (d : Line) → j < suc (length lines)
    → (j < length lines → P (get_or lines j d)) → (j ≡ length lines → P line) → P (get_or (lines ++ line ∷ []) j d)
at_or_before P lines line j d less before last = ⊎_elim
    (λ (b : j < length lines). subst P (sym (get_or-append lines (line ∷ []) d j b)) (before b))
    (λ (e : j ≡ length lines). subst P (sym (ap (λ (n : ℕ). get_or (lines ++ line ∷ []) n d) e ∙ get_or-append_seam lines line [] d)) (last e))
    (below_or_at j (length lines) less)
  where
    below_or_at : (j n : ℕ) → j < suc n → (j < n) ⊎ (j ≡ n)
    below_or_at zero zero less = inr refl
    below_or_at zero (suc n) less = inl (omega arith)
    below_or_at (suc j) zero less = absurd (omega (arith, less))
    below_or_at (suc j) (suc n) less = ⊎_elim (λ b. inl (omega (arith, b))) (λ e. inr (ap suc e)) (below_or_at j n (omega (arith, less)))

pub walked_none : (k first : ℕ) (lines : List Line) → lines ≡ [] → HasWalked k first lines 0
walked_none k first lines none = record { count = ap length none; fit = λ j d less. absurd (omega (arith, less)) }

pub walked_more : (k first : ℕ) (lines after : List Line) (line : Line) (done : ℕ) → HasWalked k first lines done → CanBeIn k (first + done) line
    → after ≡ lines ++ line ∷ [] → HasWalked k first after (done + 1)
walked_more k first lines after line done is fits pushed =
    subst (λ (l : List Line). HasWalked k first l (done + 1)) (sym pushed) (record {
      count = omega (arith, length-append lines (line ∷ []), is.count);
      fit = λ j d less. at_or_before (CanBeIn k (first + j)) lines line j d (omega (arith, less, is.count))
          (λ b. is.fit j d (omega (arith, b, is.count)))
          (λ e. subst (λ (n : ℕ). CanBeIn k (first + n) line) (sym (e ∙ is.count)) fits);
    })

pub kept_next : (spots : List Spot) (first : ℕ) (lines after : List Line) (line : Line) (number : ℕ) → first ≤ number → length lines ≡ number - first
    → HaveTold spots first lines (number - first) → TellsKept spots number line → after ≡ lines ++ line ∷ [] → HaveTold spots first after (number + 1 - first)
kept_next spots first lines after line number from count told tells pushed =
    subst (λ (l : List Line). HaveTold spots first l (number + 1 - first)) (sym pushed)
    (λ j d less. at_or_before (TellsKept spots (first + j)) lines line j d (omega (arith, less, count, from))
    (λ b. told j d (omega (arith, b, count)))
    (λ e. subst (λ (n : ℕ). TellsKept spots n line) (omega (arith, e, count, from)) tells))

pub told_none : {book : Book} {k : ℕ} {text : List ℕ} (is : IsVolumeText book k text) (lines : List Line) (at : ℕ) → at ≡ length (front_of is 0)
    → HasTold is lines 0 at
told_none is lines at here = record { here = here; each = λ j d less. absurd (omega (arith, less)) }

pub told_more : {book : Book} {k : ℕ} {text : List ℕ} (is : IsVolumeText book k text) (lines after : List Line) (line : Line) (done at next : ℕ)
    → length lines ≡ done → HasTold is lines done at → GoesOnBy is done line next → after ≡ lines ++ line ∷ [] → HasTold is after (done + 1) next
told_more {book} {k} is lines after line done at next count told goes pushed =
    subst (λ (l : List Line). HasTold is l (done + 1) next) (sym pushed) (record {
      here = goes.ends ∙ ap (λ (n : ℕ). length (front_of is n)) (one_more done);
      each = λ j d less. at_or_before (IsLineOf book (first_number book k + j)) lines line j d (omega (arith, less, count))
          (λ b. told.each j d (omega (arith, b, count)))
          (λ e. subst (λ (n : ℕ). IsLineOf book (first_number book k + n) line) (sym (e ∙ count)) goes.line_is);
    })

-- ---- sorted

rising : (first : ℕ) (lines : List Line) → ((j : ℕ) (d : Line) → j < length lines → (get_or lines j d).number ≡ first + j)
    → IsStrictlySortedBy line_numbers lines
unfolding IsStrictlySortedBy
rising first [] is = tt
rising first (line ∷ lines) is = (
  all_from_among (λ (l : Line). line_numbers line l ≡ Less) lines (λ l among.
      let at = contains_from_among lines l among in
      let other : l.number ≡ first + suc at.0 = ap (λ (x : Line). x.number) (sym at.2) ∙ is (suc at.0) l (omega (arith, at.1)) in
      sym (nat_cmp_is line.number l.number Less (omega (arith, is 0 line (omega arith), other)))),
  rising (suc first) lines (λ j d less. is (suc j) d (omega (arith, less)) ∙ omega arith),
)

pub numbered : (k first : ℕ) (lines : List Line) (done : ℕ) → HasWalked k first lines done → IsStrictlySortedBy line_numbers lines
numbered k first lines done is = rising first lines (λ j d less. (is.fit j d (omega (arith, less, is.count))).number_is)

-- what stands at a place, whatever is asked for where nothing does
same_within : (xs : List Line) (i : ℕ) (a b : Line) → i < length xs → get_or xs i a ≡ get_or xs i b
same_within [] i a b below = absurd (omega (arith, below))
same_within (x ∷ xs) zero a b below = refl
same_within (x ∷ xs) (suc i) a b below = same_within xs i a b (omega (arith, below))

has_at : (xs : List Line) (j : ℕ) (d : Line) → j < length xs → Contains xs (get_or xs j d)
has_at xs j d less = (j, less, same_within xs j (get_or xs j d) d less)

-- a line, where there is one
line_in : (xs : List Line) → 0 < length xs → Line
line_in [] some = absurd (omega (arith, some))
line_in (x ∷ xs) some = x

module _ (k first : ℕ) (lines sorted : List Line) (done : ℕ) (is : HasWalked k first lines done) (same : IsPermutation lines sorted)
    (in_order : IsStrictlySortedBy line_order sorted) where
  -- each line was read
  from : (line : Line) → Contains sorted line → (j : ℕ) × (j < done) × (get_or lines j line ≡ line)
  from line has =
      let was = Contains-permutation sorted lines line (IsPermutation-sym lines sorted same) has in
      (was.0, omega (arith, was.1, is.count), was.2)

  fits : (line : Line) → Contains sorted line → (n : ℕ) × CanBeIn k n line
  fits line has = let at = from line has in (first + at.0, subst (CanBeIn k (first + at.0)) at.2 (is.fit at.0 line at.1))

  pub lines_fit : 0 < done → AreLinesFor k sorted
  lines_fit some = record {
    some =
        let more : 0 < length lines = omega (arith, some, is.count) in
        let any : Line = line_in lines more in
        let has = Contains-permutation lines sorted (get_or lines 0 any) same (has_at lines 0 any more) in
        omega (arith, has.1);
    writable = λ j d less. (fits (get_or sorted j d) (has_at sorted j d less)).1.writable;
    of_volume = λ j d less. (fits (get_or sorted j d) (has_at sorted j d less)).1.of_volume;
    in_order = in_order;
  }

  pub lines_of_spots : (spots : List Spot) → HaveTold spots first lines done → AreLinesOfSpots spots first done sorted
  lines_of_spots spots told = record {
    count_is = omega (arith, length_permutation lines sorted same, is.count);
    each = λ line has.
        let at = from line has in
        let number : line.number ≡ first + at.0 = ap (λ (l : Line). l.number) (sym at.2) ∙ (is.fit at.0 line at.1).number_is in (
          omega (arith, number),
          omega (arith, number, at.1),
          subst (λ (n : ℕ). TellsKept spots n line) (sym number) (subst (TellsKept spots (first + at.0)) at.2 (told at.0 line at.1)),
        );
    all = λ place less.
        let any : Line = line_in lines (omega (arith, less, is.count)) in
        let line : Line = get_or lines place any in
        (line, Contains-permutation lines sorted line same (has_at lines place any (omega (arith, less, is.count))), (is.fit place any less).number_is);
  }

  pub lines_of_volume : {book : Book} {text : List ℕ} (t : IsVolumeText book k text) (at : ℕ) → HasTold t lines done at → first ≡ first_number book k
      → done ≡ length t.volume.captures → AreLinesOf book k sorted
  lines_of_volume {book} t at told first_is done_is = record {
    in_order = in_order;
    of_volume = λ line has. (fits line has).1.of_volume;
    each = λ line has.
        let at = from line has in
        let number : line.number ≡ first + at.0 = ap (λ (l : Line). l.number) (sym at.2) ∙ (is.fit at.0 line at.1).number_is in
        subst (λ (l : Line). IsLineOf book l.number l) at.2
        (subst (λ (n : ℕ). IsLineOf book n (get_or lines at.0 line)) (sym (ap (λ (l : Line). l.number) at.2 ∙ number ∙ ap (λ (n : ℕ). n + at.0) first_is))
        (told.each at.0 line at.1));
    all = λ volume place placed less.
        let one : volume ≡ t.volume = same_Some volume t.volume (sym placed ∙ t.placed) in
        let below : place < done = omega (arith, less, done_is, ap (λ (v : Volume). length v.captures) one) in
        let any : Line = line_in lines (omega (arith, below, is.count)) in
        let line : Line = get_or lines place any in (
          line,
          Contains-permutation lines sorted line same (has_at lines place any (omega (arith, below, is.count))),
          (is.fit place any below).number_is ∙ ap (λ (n : ℕ). n + place) first_is,
        );
  }

-- ---- a volume of the book

pub facts_within : (book : Book) (facts : VolumeFacts) → IsFactsOf book facts → facts.first + facts.count ≤ length (captures book)
facts_within book facts is =
    let k : ℕ = facts.volume in
    let below : k < length book.volumes = slice_get_within book.volumes k is.of is.placed in
    let here : get_or book.volumes k is.of ≡ is.of = get_or_from_slice_get book.volumes k is.of is.of is.placed in
    omega (
      arith,
      is.first,
      is.count,
      length-flat_map-take (λ (v : Volume). v.captures) book.volumes k is.of below,
      ap (λ (v : Volume). length v.captures) here,
    )

-- what reading the line of a capture gives, wherever the volume's text has come to with those before it
abbrev pub ReadsOn : {F : Type 0} → (F → Line) → (F → ℕ) → Book → (volume end number at : ℕ) → Option F → Type 0
ReadsOn line next book volume end number at found =
    (place : ℕ) (text : List ℕ) (is : IsVolumeText book volume text) → number ≡ first_number book volume + place → place < length is.groups
    → at ≡ length (front_of is place) → length text ≤ end → IsSomeAnd found (λ f. GoesOnBy is place (line f) (next f))

pub goes_next : {F : Type 0} (line : F → Line) (next : F → ℕ) (book : Book) (facts : VolumeFacts) → IsFactsOf book facts → (end number at : ℕ) (found : Option F)
    → ReadsOn line next book facts.volume end number at found → (text : List ℕ) (is : IsVolumeText book facts.volume text) → length text ≤ end
    → facts.first ≤ number → number < facts.first + facts.count → at ≡ length (front_of is (number - facts.first))
    → IsSomeAnd found (λ f. GoesOnBy is (number - facts.first) (line f) (next f))
goes_next line next book facts of end number at found reads text is ends from to here =
    let one : is.volume ≡ of.of = same_Some is.volume of.of (sym is.placed ∙ of.placed) in
    reads (number - facts.first) text is (omega (arith, of.first, from))
    (omega (arith, is.count, of.count, to, from, ap (λ (v : Volume). length v.captures) one)) here ends

-- and so of what is held again
pub goes_from : {F : Type 0} (line : F → Line) (next : F → ℕ) (was now : Held) → now ≡ was → (facts : VolumeFacts) → IsFactsOf (book_of was) facts
    → (end number at : ℕ) (found : Option F) → ReadsOn line next (book_of now) facts.volume end number at found
    → (text : List ℕ) (is : IsVolumeText (book_of was) facts.volume text) → length text ≤ end → facts.first ≤ number → number < facts.first + facts.count
    → at ≡ length (front_of is (number - facts.first)) → IsSomeAnd found (λ f. GoesOnBy is (number - facts.first) (line f) (next f))
goes_from line next was now same facts of end number at found reads =
    goes_next line next (book_of was) facts of end number at found (subst (λ (h : Held). ReadsOn line next (book_of h) facts.volume end number at found) same reads)

-- the text of a volume
pub text_of : (book : Book) (texts : List (List ℕ)) → AreVolumeTexts book texts → (facts : VolumeFacts) → IsFactsOf book facts
    → IsVolumeText book facts.volume (text_at texts facts.volume)
text_of book texts are facts is =
    are.each facts.volume (omega (arith, are.count, slice_get_within book.volumes facts.volume is.of is.placed))

pub walked_next : (k first : ℕ) (lines after : List Line) (line : Line) (number : ℕ) → first ≤ number → HasWalked k first lines (number - first)
    → CanBeIn k number line → after ≡ lines ++ line ∷ [] → HasWalked k first after (number + 1 - first)
walked_next k first lines after line number from is fits pushed =
    let same : number ≡ first + (number - first) = omega (arith, from) in
    let more : (number - first) + 1 ≡ number + 1 - first = omega (arith, from) in
    subst (HasWalked k first after) more
    (walked_more k first lines after line (number - first) is (subst (λ (n : ℕ). CanBeIn k n line) same fits) pushed)

pub told_next : {book : Book} {k : ℕ} {text : List ℕ} (is : IsVolumeText book k text) (first : ℕ) (lines after : List Line) (line : Line) (number at next : ℕ)
    → first ≤ number → length lines ≡ number - first → HasTold is lines (number - first) at → GoesOnBy is (number - first) line next
    → after ≡ lines ++ line ∷ [] → HasTold is after (number + 1 - first) next
told_next is first lines after line number at next from count told goes pushed =
    let more : (number - first) + 1 ≡ number + 1 - first = omega (arith, from) in
    subst (λ (n : ℕ). HasTold is after n next) more (told_more is lines after line (number - first) at next count told goes pushed)

-- all its captures were read
pub all_of : (book : Book) (facts : VolumeFacts) → IsFactsOf book facts → (number : ℕ) → facts.first + facts.count ≤ number → number ≤ facts.first + facts.count
    → (text : List ℕ) (is : IsVolumeText book facts.volume text) → number - facts.first ≡ length is.volume.captures
all_of book facts of number past to text is =
    omega (arith, past, to, of.count, ap (λ (v : Volume). length v.captures) (same_Some is.volume of.of (sym is.placed ∙ of.placed)))
