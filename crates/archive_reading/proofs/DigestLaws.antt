-- What goes by the digest that is kept of a capture goes by that of its payload.
use Rattle.std.proofs.Common.{◌≡◌, ◌≢◌, ◌⊎◌, ℕ, ◌<◌, ◌++◌, Bool, true, not, List, [], Option, None, Result, Ok, Err, Some, false, refl, sym, ap, subst, ◌∙◌, inl, inr, ⊎_elim, arith}
use Rattle.std.specs.Prelude.{slice_get}
use Rattle.std.specs.Str.{bytes_eq}
use Rattle.std.proofs.lemmas.Bool.{false≢true}
use Rattle.std.proofs.lemmas.Option.{same_Some}
use Rattle.std.proofs.lemmas.Slice.Eq.{bytes_eq-Decides}
use Rattle.sha1.specs.Sha1.{sha1}
use Rattle.capture.specs.Captures.{IsPayloadBy, IsPayloadOf, taken_back}
use Rattle.capture.proofs.PayloadLaws.{captures_have_one}
use Rattle.capture.specs.declared.book.Book.{Book}
use Rattle.capture.specs.declared.captured.Brought.{Brought}
use Rattle.capture.specs.declared.captured.Kept.{Kept}
use Rattle.capture.specs.declared.captured.Kept.TheVariants.{Wire, Same, Cut}
use Rattle.capture.specs.declared.captured.Stored.{Stored}
use Rattle.warc_scan.specs.Groups.{reference_in}
use Rattle.warc_scan.specs.declared.outline.Outline.{Outline}
use Rattle.archive_shelf.specs.Answers.{IsKeeperOf, NamesKeeper, keeper_by}
use Rattle.archive_shelf.specs.Comparing.{HasDigestOf, HasRequest, KeepsWire}
use Rattle.archive_shelf.specs.Digests.{GoesByDigest, PieceGoesByDigest, WasRead}
use Rattle.archive_shelf.specs.declared.fault.BringFault.{BringFault}
use Rattle.archive_shelf.specs.declared.fault.BringFault.TheVariants as brings
use Rattle.archive_reading.proofs.BringLaws.{keeper_keeps, keeps_same, refers_to}
use Rattle.archive_reading.specs.Digests.{BringsDigest, GoesByKeeper, GoesByKept, GoesByLine, GoesByOwn, HasKeptDigest, IsKeptAt}
use Rattle.archive_reading.specs.KeptGroups.{HasFront, IsTold, PieceGoesByKept, TellsDigest}
use Rattle.archive_volumes.specs.Spots.{HasOwnDigest, IsPlaced, IsSpotOf, form_of, is_same_form, is_told_form, keeper_in}
use Rattle.archive_volumes.specs.declared.spot.Form.{Form}
use Rattle.archive_volumes.specs.declared.spot.Form.TheVariants as forms
use Rattle.archive_volumes.specs.declared.spot.Spot.{Spot}

-- two texts of which a test says that they don't differ
pub alike : (a b : List ℕ) (t : Bool) → t ≡ not (bytes_eq a b) → t ≡ false → a ≡ b
alike a b t is e = (bytes_eq-Decides a b).0 (by (bytes_eq a b) (sym is ∙ e))
  where
    by : (x : Bool) → not x ≡ false → x ≡ true
    by true e = refl
    by false e = cc

keeps_own : (kept : Kept) (number : ℕ) → is_same_form (form_of kept) ≡ false → number ≡ keeper_by kept number
keeps_own (Wire wire) number own = refl
keeps_own (Same first) number own = cc
keeps_own (Cut wire) number own = refl

by_own : (book : Book) (stored : Stored) (kept : Kept) (digest : List ℕ) → is_same_form (form_of kept) ≡ false → HasOwnDigest stored kept digest
    → (payload : List ℕ) × IsPayloadBy book stored kept payload × (digest ≡ sha1 payload)
by_own book stored (Wire wire) digest own has = has
by_own book stored (Same first) digest own has = cc
by_own book stored (Cut wire) digest own has = has

module _ (book : Book) (number : ℕ) (spot : Spot) (is : IsSpotOf book number spot) where
  -- the book has its request
  asked_here : HasRequest book number → is.stored.request ≢ []
  asked_here asked none = asked.2 (ap (λ (s : Stored). s.request) (same_Some asked.0 is.stored (sym asked.1 ∙ is.placed)) ∙ none)

  -- one that a line alone told of
  pub has_told : is_told_form spot.form ≡ true → HasRequest book number → HasDigestOf book number spot.digest
  has_told told asked = is.line told (asked_here asked)

  by_told : HasRequest book number → (is_told_form spot.form ≡ false → HasDigestOf book number spot.digest) → (told : Bool) → is_told_form spot.form ≡ told
      → HasDigestOf book number spot.digest
  by_told asked read true e = has_told e asked
  by_told asked read false e = read e

  pub line_digests : is_told_form spot.form ≡ true → (result : Result Brought BringFault) → GoesByLine number spot.digest result → GoesByDigest book number result
  line_digests told (Ok brought) by = λ read. subst (λ (d : List ℕ). HasDigestOf book number d) (sym by) (has_told told read.own)
  line_digests told (Err (brings.NoSuch count)) by = tt
  line_digests told (Err brings.DiskFault) by = tt
  line_digests told (Err (brings.Damaged at kept found)) by =
      λ read. subst (λ (d : List ℕ). HasDigestOf book number d) (sym by.2) (has_told told read.own)
  line_digests told (Err brings.Memory) by = tt

  -- a capture that keeps its wire
  module _ (own : is_same_form spot.form ≡ false) where
    own_form : is_same_form (form_of is.stored.kept) ≡ false
    own_form = sym is.revisit ∙ own

    has_read : is_told_form spot.form ≡ false → HasDigestOf book number spot.digest
    has_read read =
        let found = by_own book is.stored is.stored.kept spot.digest own_form (is.digest read) in
        (found.0, record { stored = is.stored; placed = is.placed; by_kept = found.1 }, found.2)

    pub has_own : HasRequest book number → HasDigestOf book number spot.digest
    has_own asked = by_told asked has_read (is_told_form spot.form) refl

    pub own_names : (result : Result Brought BringFault) → GoesByOwn number spot.digest result → NamesKeeper book number result
    own_names (Ok brought) by = tt
    own_names (Err (brings.NoSuch count)) by = tt
    own_names (Err brings.DiskFault) by = tt
    own_names (Err (brings.Damaged at kept found)) by =
        inl (record { stored = is.stored; placed = is.placed; is = by.0 ∙ keeps_own is.stored.kept number own_form })
    own_names (Err brings.Memory) by = tt

    pub own_digests : (result : Result Brought BringFault) → GoesByOwn number spot.digest result → GoesByDigest book number result
    own_digests (Ok brought) by = λ read. subst (λ (d : List ℕ). HasDigestOf book number d) (sym by) (has_own read.own)
    own_digests (Err (brings.NoSuch count)) by = tt
    own_digests (Err brings.DiskFault) by = tt
    own_digests (Err (brings.Damaged at kept found)) by =
        λ read. subst (λ (d : List ℕ). HasDigestOf book number d) (sym by.1) (has_own read.own)
    own_digests (Err brings.Memory) by = tt

module _ (book : Book) (number : ℕ) (spot : Spot) (is : IsSpotOf book number spot) where
  -- one whose payload another one keeps
  module _ (first : ℕ) (form : spot.form ≡ forms.Same first) where
    other_keeps : first ≡ keeper_by is.stored.kept number
    other_keeps = sym (ap (λ (k : Kept). keeper_by k number) (keeps_same book number spot is first form))

    pub same_names : (digest : List ℕ) (result : Result Brought BringFault) → GoesByKeeper number first digest result → NamesKeeper book number result
    same_names digest (Ok brought) by = tt
    same_names digest (Err (brings.NoSuch count)) by = tt
    same_names digest (Err brings.DiskFault) by = tt
    same_names digest (Err (brings.Damaged at kept found)) by =
        ⊎_elim
        (λ other. inl (record { stored = is.stored; placed = is.placed; is = other ∙ other_keeps }))
        (λ head. inr (head.0, head.1))
        by.0
    same_names digest (Err brings.Memory) by = tt

    same_payload : (payload : List ℕ) → IsPayloadOf book first payload → IsPayloadBy book is.stored (Same first) payload
    same_payload payload has =
        let keeps : KeepsWire book first = (refers_to book number spot is first form).1 in
        let original : Stored = has.stored in
        let same : keeps.stored ≡ original = same_Some keeps.stored original (sym keeps.placed ∙ has.placed) in
        let kept : original.kept ≡ Wire keeps.wire = ap (λ (s : Stored). s.kept) (sym same) ∙ keeps.kept in (
          original,
          keeps.wire,
          record {
            placed = has.placed;
            kept = kept;
            has = subst (λ (k : Kept). IsPayloadBy book original k payload) kept has.by_kept;
          },
        )

    -- the book has the request of the one that keeps it
    keeper_asked : WasRead book number → HasRequest book first
    keeper_asked read =
        let same : read.keeps.stored ≡ is.stored = same_Some read.keeps.stored is.stored (sym read.keeps.placed ∙ is.placed) in
        subst (HasRequest book) (read.keeps.is ∙ ap (λ (s : Stored). keeper_by s.kept number) same ∙ sym other_keeps) read.kept

    module _ (keeper : Spot) (its : IsSpotOf book first keeper) where
      has_same : WasRead book number → HasDigestOf book number keeper.digest
      has_same read =
          let kept : HasDigestOf book first keeper.digest =
          has_own book first keeper its (keeper_keeps book number spot is first form keeper its) (keeper_asked read) in (
            kept.0,
            record {
              stored = is.stored;
              placed = is.placed;
              by_kept = subst (λ (k : Kept). IsPayloadBy book is.stored k kept.0) (sym (keeps_same book number spot is first form))
                  (same_payload kept.0 kept.1);
            },
            kept.2,
          )

      pub same_digests : (result : Result Brought BringFault) → GoesByKeeper number first keeper.digest result → GoesByDigest book number result
      same_digests (Ok brought) by = λ read. subst (λ (d : List ℕ). HasDigestOf book number d) (sym by) (has_same read)
      same_digests (Err (brings.NoSuch count)) by = tt
      same_digests (Err brings.DiskFault) by = tt
      same_digests (Err (brings.Damaged at kept found)) by =
          λ read. subst (λ (d : List ℕ). HasDigestOf book number d) (sym by.1) (has_same read)
      same_digests (Err brings.Memory) by = tt

  -- ---- a piece

  -- a capture that keeps its own payload keeps its wire
  own_kept : (kept : Kept) → number ≡ keeper_by kept number → ((first : ℕ) → kept ≡ Same first → first < number) → is_same_form (form_of kept) ≡ false
  own_kept (Wire wire) keeps before = refl
  own_kept (Same first) keeps before = absurd (below first number keeps (before first refl))
    where
      below : (a b : ℕ) → b ≡ a → a < b → ⊥
      below a b e less = omega (arith, e, less)
  own_kept (Cut wire) keeps before = refl

  read_keeper : IsKeeperOf book number number → is_told_form spot.form ≡ false → HasDigestOf book number spot.digest
  read_keeper keeps read =
      let same : keeps.stored ≡ is.stored = same_Some keeps.stored is.stored (sym keeps.placed ∙ is.placed) in
      has_read book number spot is (is.revisit
      ∙ own_kept is.stored.kept (keeps.is ∙ ap (λ (s : Stored). keeper_by s.kept number) same)
      (λ first kept. (refers_to book number spot is first (is.form read ∙ ap form_of kept)).0)) read

  pub keeper_digest : HasRequest book number → IsKeeperOf book number number → HasDigestOf book number spot.digest
  keeper_digest asked keeps = by_told book number spot is asked (read_keeper keeps) (is_told_form spot.form) refl

  -- the piece around a group that tells the digest which is kept
  pub piece_by_digest : (group bytes : List ℕ) (outline : Outline) → IsTold book.namespace number group outline → HasFront book number group bytes
      → outline.digest ≡ spot.digest → TellsDigest book number spot.digest bytes
  piece_by_digest group bytes outline told front same = record {
    piece = record {
      front = front.front;
      taken = taken_back told.group.stored;
      digest = told.group.digest;
      same = reference_in told.group.same;
      before = front.before;
      composed = front.composed ∙ ap (λ (g : List ℕ). front.front ++ g) told.is.composed;
    };
    is = sym told.told.digest_is ∙ same;
  }

  pub piece_by_keeper : (result : Result (List ℕ) BringFault) → PieceGoesByKept book number spot.digest result → PieceGoesByDigest book number result
  piece_by_keeper (Ok bytes) by = λ asked keeps. record {
    piece = by.piece;
    tells = subst (λ (d : List ℕ). HasDigestOf book number d) (sym by.is) (keeper_digest asked keeps);
  }
  piece_by_keeper (Err (brings.NoSuch count)) by = tt
  piece_by_keeper (Err brings.DiskFault) by = tt
  piece_by_keeper (Err (brings.Damaged at kept found)) by = λ asked keeps.
      subst (λ (d : List ℕ). HasDigestOf book number d) (sym by) (keeper_digest asked keeps)
  piece_by_keeper (Err brings.Memory) by = tt

-- ---- what stands at a place of the spots

pub one_spot : (spots : List Spot) (number : ℕ) (spot other : Spot) → slice_get spots number ≡ Some spot → slice_get spots number ≡ Some other → spot ≡ other
one_spot spots number spot other here at = same_Some spot other (sym here ∙ at)

pub form_at : (spots : List Spot) (number : ℕ) (spot other : Spot) → slice_get spots number ≡ Some spot → slice_get spots number ≡ Some other
    → other.form ≡ spot.form
form_at spots number spot other here at = ap (λ (s : Spot). s.form) (sym (one_spot spots number spot other here at))

-- the form of one whose payload another one keeps: where that is known, and where a line alone told of it
pub same_form : (form : Form) (first : ℕ) → keeper_in form ≡ Some first → form ≡ forms.Same first
same_form forms.Whole first is = cc
same_form (forms.Same other) first is = ap (λ (n : ℕ). forms.Same n) (same_Some other first is)
same_form forms.Cut first is = cc
same_form (forms.Told revisit) first is = cc

pub told_form : (form : Form) → is_same_form form ≡ true → keeper_in form ≡ None → form ≡ forms.Told true
told_form forms.Whole same none = cc
told_form (forms.Same first) same none = cc
told_form forms.Cut same none = cc
told_form (forms.Told revisit) same none = ap (λ (b : Bool). forms.Told b) same

pub own_goes : (spots : List Spot) (number : ℕ) (spot other : Spot) → slice_get spots number ≡ Some spot → slice_get spots number ≡ Some other
    → (found : Option (List ℕ)) → GoesByOwn number other.digest (Err (brings.Damaged number spot.digest found))
own_goes spots number spot other here at found = (refl, ap (λ (s : Spot). s.digest) (one_spot spots number spot other here at))

pub keeper_goes : (spots : List Spot) (first : ℕ) (keeper other : Spot) → slice_get spots first ≡ Some keeper → slice_get spots first ≡ Some other
    → (number at : ℕ) (found : Option (List ℕ)) → (at ≡ first) ⊎ ((at ≡ number) × (found ≡ None))
    → GoesByKeeper number first other.digest (Err (brings.Damaged at keeper.digest found))
keeper_goes spots first keeper other there is number at found which = (which, ap (λ (s : Spot). s.digest) (one_spot spots first keeper other there is))

pub line_goes : (spots : List Spot) (number : ℕ) (spot other : Spot) → slice_get spots number ≡ Some spot → slice_get spots number ≡ Some other
    → GoesByLine number other.digest (Err (brings.Damaged number spot.digest None))
line_goes spots number spot other here at = (refl, refl, ap (λ (s : Spot). s.digest) (one_spot spots number spot other here at))

-- what goes by the digest that is kept of the capture itself has just that
pub own_brings : (number : ℕ) (digest : List ℕ) (result : Result Brought BringFault) → GoesByOwn number digest result → BringsDigest digest result
own_brings number digest (Ok brought) by = by
own_brings number digest (Err fault) by = tt

pub line_brings : (number : ℕ) (digest : List ℕ) (result : Result Brought BringFault) → GoesByLine number digest result → BringsDigest digest result
line_brings number digest (Ok brought) by = by
line_brings number digest (Err fault) by = tt

-- where the book is told, a capture has the digest of the one that keeps its payload
pub same_digest : (texts : List (List ℕ)) (book : Book) (number first : ℕ) (spot keeper : Spot) (is : IsSpotOf book number spot) (form : spot.form ≡ forms.Same first)
    → IsPlaced texts book number spot → IsPlaced texts book first keeper → keeper.digest ≡ spot.digest
same_digest texts book number first spot keeper is form here there =
    let stored : Stored = is.stored in
    let by : IsPayloadBy book stored stored.kept there.payload =
    subst (λ (k : Kept). IsPayloadBy book stored k there.payload) (sym (keeps_same book number spot is first form))
    (same_payload book number spot is first form there.payload there.has) in
    let has : IsPayloadOf book number there.payload = record { stored = stored; placed = is.placed; by_kept = by } in
    there.digest ∙ ap sha1 (captures_have_one book number there.payload here.payload has here.has) ∙ sym here.digest

-- two texts of which a test says that they differ
pub differ : (a b : List ℕ) (t : Bool) → t ≡ not (bytes_eq a b) → t ≡ true → Some b ≢ Some a
differ a b t is e same = absurd (false≢true (sym (ap not ((bytes_eq-Decides a b).1 (sym (same_Some b a same)))) ∙ sym is ∙ e))

-- ---- which digest is kept

module _ (spots : List Spot) (number : ℕ) (spot : Spot) (here : slice_get spots number ≡ Some spot) where
  own_kept_digest : (digest : List ℕ) → digest ≡ spot.digest → HasKeptDigest spots number digest
  own_kept_digest digest is = record { at = number; spot = spot; kept = inl refl; placed = here; is = is }

  pub own_goes_by_kept : (result : Result Brought BringFault) → GoesByOwn number spot.digest result → GoesByKept spots number result
  own_goes_by_kept (Ok brought) by = own_kept_digest (sha1 brought.payload) by
  own_goes_by_kept (Err (brings.NoSuch count)) by = tt
  own_goes_by_kept (Err brings.DiskFault) by = tt
  own_goes_by_kept (Err (brings.Damaged at kept found)) by = own_kept_digest kept by.1
  own_goes_by_kept (Err brings.Memory) by = tt

  pub line_goes_by_kept : (result : Result Brought BringFault) → GoesByLine number spot.digest result → GoesByKept spots number result
  line_goes_by_kept (Ok brought) by = own_kept_digest (sha1 brought.payload) by
  line_goes_by_kept (Err (brings.NoSuch count)) by = tt
  line_goes_by_kept (Err brings.DiskFault) by = tt
  line_goes_by_kept (Err (brings.Damaged at kept found)) by = own_kept_digest kept by.2
  line_goes_by_kept (Err brings.Memory) by = tt

  module _ (first : ℕ) (form : spot.form ≡ forms.Same first) (keeper : Spot) (there : slice_get spots first ≡ Some keeper) where
    pub same_kept_at : IsKeptAt spots number first
    same_kept_at = inr (spot, here, form)

    same_kept_digest : (digest : List ℕ) → digest ≡ keeper.digest → HasKeptDigest spots number digest
    same_kept_digest digest is = record { at = first; spot = keeper; kept = same_kept_at; placed = there; is = is }

    pub same_goes_by_kept : (result : Result Brought BringFault) → GoesByKeeper number first keeper.digest result → GoesByKept spots number result
    same_goes_by_kept (Ok brought) by = same_kept_digest (sha1 brought.payload) by
    same_goes_by_kept (Err (brings.NoSuch count)) by = tt
    same_goes_by_kept (Err brings.DiskFault) by = tt
    same_goes_by_kept (Err (brings.Damaged at kept found)) by = same_kept_digest kept by.1
    same_goes_by_kept (Err brings.Memory) by = tt

pub line_names : (book : Book) (number : ℕ) (digest : List ℕ) (result : Result Brought BringFault) → GoesByLine number digest result → NamesKeeper book number result
line_names book number digest (Ok brought) by = tt
line_names book number digest (Err (brings.NoSuch count)) by = tt
line_names book number digest (Err brings.DiskFault) by = tt
line_names book number digest (Err (brings.Damaged at kept found)) by = inr (by.0, by.1)
line_names book number digest (Err brings.Memory) by = tt
