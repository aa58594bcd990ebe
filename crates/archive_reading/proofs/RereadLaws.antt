-- What is read of a capture of which a line alone told.
use Rattle.std.proofs.Common.{◌≡◌, ℕ, ◌+◌, ◌^◌, ◌<◌, Bool, true, false, List, length, Option, Some, None, Result, Ok, Err, refl, sym, ap, subst, ◌∙◌, inl, ⊎_elim, arith, ◌++◌}
use Rattle.std.specs.Prelude.{IfOk, IfSome, IsTrue, if◌then◌else◌, not}
use Rattle.std.specs.Str.{bytes_eq}
use Rattle.std.proofs.lemmas.Bool.{false≢true}
use Rattle.std.proofs.lemmas.Option.{same_Some}
use Rattle.std.proofs.lemmas.Slice.Eq.{bytes_eq-Decides}
use Rattle.sha1.specs.Sha1.{sha1}
use Rattle.capture.proofs.PayloadLaws.{captures_have_one}
use Rattle.capture.specs.Captures.{is_cut, kept_wire, taken_back, HasPayload, IsPayloadOf}
use Rattle.capture.specs.declared.book.Book.{Book}
use Rattle.capture.specs.declared.captured.Kept.{Kept}
use Rattle.capture.specs.declared.captured.Kept.TheVariants.{Wire, Same, Cut}
use Rattle.capture.specs.declared.captured.Brought.{Brought}
use Rattle.capture.specs.declared.captured.Stored.{Stored}
use Rattle.capture.specs.declared.captured.Taken.{Taken}
use Rattle.disk_model.specs.declared.disk.Disk.{Ghosts}
use Rattle.warc_journal.specs.Journals.{texts}
use Rattle.warc_scan.specs.Answers.{BeginsWithGroup}
use Rattle.warc_scan.specs.Groups.{IsAnswer, IsGroup, reference_in}
use Rattle.warc_scan.specs.declared.group.Group.{Group}
use Rattle.warc_scan.specs.declared.group.Revisited.{Revisited}
use Rattle.warc_text.proofs.PrefixLaws.{groups_are_prefix_free}
use Rattle.warc_text.specs.Books.{IsGroupText}
use Rattle.warc_text.specs.References.{Reference}
use Rattle.warc_text.specs.Sound.{IsSound}
use Rattle.warc_scan.proofs.FoundGroups.{group_found, group_is_found}
use Rattle.warc_scan.proofs.FoundTexts.{found_writable}
use Rattle.archive_shelf.specs.Comparing.{KeepsWire}
use Rattle.archive_reading.proofs.BringLaws.{no_digest, texts_stay}
use Rattle.archive_reading.proofs.FoundLaws.{told_found}
use Rattle.archive_reading.proofs.SameGroup.{digest_is, is_own, is_same, same_forms, taken}
use Rattle.archive_reading.specs.Bringing.{IsChecked, IsReadRight, OnlyReads, brought_of}
use Rattle.archive_reading.specs.Decoding.{IsHead}
use Rattle.archive_volumes.specs.Held.{book_of}
use Rattle.archive_reading.specs.Rereading.{BeginWithText, IsAsKept, IsBackThere, IsBroughtThere, IsChosenThere, IsReread, IsRereadBy, HasItsPayload, Reaches, IsRereadIn, IsRereadOf, IsRereadThere, IsSameOf, IsStoredOf, IsToldOf, StandsThere, from_place, own_by, revisit_by, right_by, whole_by}
use Rattle.archive_volumes.specs.Spots.{IsSpotOf, form_of, is_same_form, is_told_form}
use Rattle.archive_volumes.specs.declared.held.Held.{Held}
use Rattle.archive_reading.specs.declared.payload.ReadBack.{ReadBack}
use Rattle.archive_reading.specs.declared.payload.ReadBack.TheVariants as back
use Rattle.archive_reading.specs.declared.reread.Reread.{Reread}
use Rattle.archive_reading.specs.declared.reread.Reread.TheVariants as reread
use Rattle.archive_reading.specs.declared.reread.Revisit.{Revisit}
use Rattle.archive_volumes.specs.declared.spot.Spot.{Spot}
use Rattle.archive_volumes.specs.declared.volumes.Volumes.{Volumes}

-- ---- by what a group keeps

module _ (namespace : List ℕ) (number : ℕ) (text : List ℕ) (group : Group) (is : IsGroup namespace number text group) where
  answer_of : (kept : Kept) → group.stored.kept ≡ kept → IsAnswer group.stored.method group.stored.head group.digest (reference_in group.same) kept
  answer_of kept e = subst (λ (k : Kept). IsAnswer group.stored.method group.stored.head group.digest (reference_in group.same) k) e is.answer

  pub wire_has : (wire : List ℕ) → group.stored.kept ≡ Wire wire
      → (payload : List ℕ) × HasPayload false group.stored.method group.stored.head wire payload × (group.digest ≡ sha1 payload)
  wire_has wire e = let answer = answer_of (Wire wire) e in (answer.1.payload, answer.1.has, answer.1.digest_is)

  pub cut_has : (wire : List ℕ) → group.stored.kept ≡ Cut wire
      → (payload : List ℕ) × HasPayload true group.stored.method group.stored.head wire payload × (group.digest ≡ sha1 payload)
  cut_has wire e = let answer = answer_of (Cut wire) e in (answer.1.payload, answer.1.has, answer.1.digest_is)

  pub short_wire : length (kept_wire group.stored.kept) < 2 ^ 64
  short_wire = omega (arith, (found_writable namespace number text group is).wire)

  pub revisit_head : (other : ℕ) → group.stored.kept ≡ Same other → IsHead group.stored.head true
  revisit_head other e = let answer = answer_of (Same other) e in (answer.1.parsed, answer.1.tells.head_is.whole)

  pub revisit_refers : (other : ℕ) → group.stored.kept ≡ Same other → (same : Revisited) × (group.same ≡ Some same)
  revisit_refers other e = by group.same refl ((answer_of (Same other) e).1.refers)
    where
      by : (same : Option Revisited) → group.same ≡ same → {reference : Reference} → reference_in same ≡ Some reference → (r : Revisited) × (group.same ≡ Some r)
      by None here is_some = cc
      by (Some r) here is_some = (r, here)

-- what a group tells of a capture that keeps its wire
pub own_is_reread : {E : Type 0} (r : Result Reread E) (group : Group) (payload : List ℕ) (cut : Bool)
    → HasPayload cut group.stored.method group.stored.head (kept_wire group.stored.kept) payload → group.digest ≡ sha1 payload
    → IfOk r (λ read. read ≡ reread.Own group.stored.head payload cut) → IfOk r (IsReread group.digest)
own_is_reread (Ok read) group payload cut has is own = subst (IsReread group.digest) (sym own) ((has.parsed, has.whole), sym is)
own_is_reread (Err e) group payload cut has is own = tt

pub own_is_told : {E : Type 0} (r : Result Reread E) (group : Group) (payload : List ℕ) (cut : Bool)
    → HasPayload cut group.stored.method group.stored.head (kept_wire group.stored.kept) payload
    → cut ≡ is_cut group.stored.kept → is_same_form (form_of group.stored.kept) ≡ false
    → IfOk r (λ read. read ≡ reread.Own group.stored.head payload cut) → IfOk r (IsToldOf group)
own_is_told (Ok read) group payload cut has whole keeps own = subst (IsToldOf group) (sym own) (refl, has, whole, keeps)
own_is_told (Err e) group payload cut has whole keeps own = tt

-- where it tells what is kept of that
pub told_is_by : {E : Type 0} (r : Result Reread E) (group : Group) (spot : Spot) → IsAsKept group spot → IfOk r (IsToldOf group) → IfOk r (IsRereadBy group spot)
told_is_by (Ok (reread.Own head payload cut)) group spot as_kept told = (told.0, told.1, told.2, told.3, as_kept)
told_is_by (Ok (reread.Same head same)) group spot as_kept told = (told.0, told.1, as_kept)
told_is_by (Ok (reread.Damaged found)) group spot as_kept told = absurd told
told_is_by (Err e) group spot as_kept told = tt

pub reread_by_group : {E : Type 0} (r : Result Reread E) (namespace : List ℕ) (number : ℕ) (bytes : List ℕ) (spot : Spot) (group : Group)
    → BeginsWithGroup namespace number bytes group → IfOk r (IsRereadBy group spot) → IfOk r (IsRereadIn namespace number bytes spot)
reread_by_group (Ok read) namespace number bytes spot group begins by = inl (group, begins, by)
reread_by_group (Err e) namespace number bytes spot group begins by = tt

-- a group of another digest doesn't tell what is kept, and one of this digest that differs neither
pub other_is_by : (group : Group) (spot : Spot) (t : Bool) → t ≡ not (bytes_eq group.digest spot.digest) → t ≡ true
    → IsRereadBy group spot (reread.Damaged (Some group.digest))
other_is_by group spot t is e =
    let differ : bytes_eq group.digest spot.digest ≡ false = by (bytes_eq group.digest spot.digest) (sym is ∙ e) in (
      λ as_kept. false≢true (sym differ ∙ (bytes_eq-Decides group.digest spot.digest).1 as_kept.digest),
      ap (λ (b : Bool). if b then None else Some group.digest) (sym differ),
    )
  where
    by : (x : Bool) → not x ≡ true → x ≡ false
    by true e = cc
    by false e = refl

pub unlike_is_by : (group : Group) (spot : Spot) → group.digest ≡ spot.digest → (IsStoredOf group.stored spot → ⊥) → IsRereadBy group spot (reread.Damaged None)
unlike_is_by group spot same unlike = (
  λ as_kept. unlike as_kept.stored,
  ap (λ (b : Bool). if b then None else Some group.digest) (sym ((bytes_eq-Decides group.digest spot.digest).1 same)),
)

-- what is read of the bytes that stand somewhere
pub reread_at : (texts : List (List ℕ)) (spots : List Spot) (namespace : List ℕ) (number : ℕ) (bytes : List ℕ) (spot : Spot) (read : Reread)
    → Reaches texts spots number spot (spot.at + length bytes) → bytes ≡ from_place texts spot (length bytes) → IsRereadIn namespace number bytes spot read → IsRereadThere texts spots namespace number spot read
reread_at texts spots namespace number bytes spot read reaches is by = record {
  long = length bytes;
  reaches = reaches;
  is = subst (λ (b : List ℕ). IsRereadIn namespace number b spot read) is by;
}

-- ---- where the book is told

module _ (book : Book) (sound : IsSound book) (number : ℕ) (bytes : List ℕ) (begins : BeginWithText book number bytes) (spot : Spot)
    (its : IsSpotOf book number spot) (payload : List ℕ) (has : IsPayloadOf book number payload) (told : spot.digest ≡ sha1 payload) where
  -- the group with which the bytes begin
  same_text : (group : Group) (front : BeginsWithGroup book.namespace number bytes group) → front.text ≡ begins.group
  same_text group front =
      let found : Group = group_found book sound number begins.group begins.is begins.short in
      let found_is : IsGroup book.namespace number begins.group found = group_is_found book sound number begins.group begins.is begins.short in
      let one = groups_are_prefix_free book.namespace number (taken_back group.stored) (taken_back found.stored) group.digest found.digest
      (reference_in group.same) (reference_in found.same) front.rest begins.rest
      (found_writable book.namespace number front.text group front.is) (found_writable book.namespace number begins.group found found_is)
      (ap (λ (t : List ℕ). t ++ front.rest) (sym front.is.composed) ∙ sym front.composed ∙ begins.composed
      ∙ ap (λ (t : List ℕ). t ++ begins.rest) found_is.composed) in
      front.is.composed ∙ one.0 ∙ sym found_is.composed

  same_digest : (g : IsGroupText book number begins.group) → sha1 g.payload ≡ spot.digest
  same_digest g =
      ap sha1 (captures_have_one book number g.payload payload (record { stored = g.stored; placed = g.placed; by_kept = g.payload_is }) has) ∙ sym told

  -- it tells what is kept of the capture
  as_kept : (group : Group) → IsGroup book.namespace number begins.group group → IsAsKept group spot
  as_kept group is =
      let g : IsGroupText book number begins.group = begins.is in
      let taken : taken_back group.stored ≡ taken_back g.stored = taken book sound number begins.group g group is in
      let one : g.stored ≡ its.stored = same_Some g.stored its.stored (sym g.placed ∙ its.placed) in
      record {
        digest = digest_is book sound number begins.group g group is ∙ same_digest g;
        stored = record {
          method = ap (λ (t : Taken). t.method) taken ∙ ap (λ (s : Stored). s.method) one ∙ sym its.method;
          uri = ap (λ (t : Taken). t.uri) taken ∙ ap (λ (s : Stored). s.uri) one ∙ sym its.uri;
          date = ap (λ (t : Taken). t.date) taken ∙ ap (λ (s : Stored). s.date) one ∙ sym its.date;
          revisit = same_forms book sound number begins.group g group is ∙ ap (λ (s : Stored). is_same_form (form_of s.kept)) one ∙ sym its.revisit;
        };
      }

  by_group : (group : Group) → IsGroup book.namespace number begins.group group → (read : Reread) → IsRereadBy group spot read → IsRereadOf book number read
  by_group group is (reread.Own head own cut) by =
      is_own book sound number begins.group begins.is group is head own cut by.0 by.1 by.2 by.3
  by_group group is (reread.Same head same) by = is_same book sound number begins.group begins.is group is head same by.0 by.1
  by_group group is (reread.Damaged found) by = by.0 (as_kept group is)

  pub reread_right : (read : Reread) → IsRereadIn book.namespace number bytes spot read → IsRereadOf book number read
  reread_right read is = ⊎_elim
      (λ (some : (group : Group) × BeginsWithGroup book.namespace number bytes group × IsRereadBy group spot read).
      by_group some.0 (subst (λ (t : List ℕ). IsGroup book.namespace number t some.0) (same_text some.0 some.1) some.1.is) read some.2)
      (λ (none : ((group : Group) → BeginsWithGroup book.namespace number bytes group → ⊥) × (read ≡ reread.Damaged None)).
      absurd (none.0 (group_found book sound number begins.group begins.is begins.short)
      (record { text = begins.group; rest = begins.rest; composed = begins.composed; is = group_is_found book sound number begins.group begins.is begins.short })))
      is

-- a capture that keeps its wire is no revisit
pub no_revisit : (book : Book) (number : ℕ) (spot : Spot) → IsSpotOf book number spot → is_same_form spot.form ≡ false → (head : List ℕ) (same : Revisited)
    → IsSameOf book number head same → ⊥
no_revisit book number spot its own head same is =
    let stored : its.stored ≡ is.stored = same_Some its.stored is.stored (sym its.placed ∙ is.placed) in
    false≢true (sym own ∙ its.revisit ∙ ap is_same_form (ap (λ (s : Stored). form_of s.kept) stored ∙ ap form_of is.kept))

-- ---- a capture that is to keep its wire

pub own_checked : (digest : List ℕ) (read : Reread) → IsReread digest read → IsChecked digest (own_by read)
own_checked digest (reread.Own head payload cut) is = is
own_checked digest (reread.Same head same) is = no_digest digest
own_checked digest (reread.Damaged found) is = is

-- a group of a capture that keeps its wire refers to none
refers : (revisited : Revisited) → reference_in (Some revisited) ≡ None → ⊥
refers revisited is = cc

unreferred : (method head digest : List ℕ) (same : Option Revisited) (kept : Kept) → IsAnswer method head digest (reference_in same) kept
    → is_same_form (form_of kept) ≡ false → (revisited : Revisited) → same ≡ Some revisited → ⊥
unreferred method head digest same (Wire wire) answer own revisited is = refers revisited (sym (ap reference_in is) ∙ answer.0)
unreferred method head digest same (Same first) answer own revisited is = absurd (false≢true (sym own))
unreferred method head digest same (Cut wire) answer own revisited is = refers revisited (sym (ap reference_in is) ∙ answer.0)

pub no_revisit_there : (texts : List (List ℕ)) (spots : List Spot) (namespace : List ℕ) (number : ℕ) (spot : Spot) → is_same_form spot.form ≡ false → (head : List ℕ)
    (same : Revisited) → IsRereadThere texts spots namespace number spot (reread.Same head same) → ⊥
no_revisit_there texts spots namespace number spot own head same there = ⊎_elim
    (λ (some : (group : Group) × BeginsWithGroup namespace number (from_place texts spot there.long) group
    × IsRereadBy group spot (reread.Same head same)).
    unreferred some.0.stored.method some.0.stored.head some.0.digest some.0.same some.0.stored.kept some.1.is.answer (some.2.2.stored.revisit ∙ own)
    same some.2.1)
    (λ (none : ((group : Group) → BeginsWithGroup namespace number (from_place texts spot there.long) group → ⊥)
    × (reread.Same head same ≡ reread.Damaged None)). cc)
    there.is

-- what is read of a capture that a line told of, where the disk tells
pub own_there : (texts : List (List ℕ)) (spots : List Spot) (namespace : List ℕ) (number : ℕ) (spot : Spot) → is_told_form spot.form ≡ true → is_same_form spot.form ≡ false
    → (read : Reread) → IsRereadThere texts spots namespace number spot read → IsBackThere texts spots namespace number spot (own_by read)
own_there texts spots namespace number spot told keeps (reread.Own head payload cut) there = λ _. ⊎_elim
    (λ (some : (group : Group) × BeginsWithGroup namespace number (from_place texts spot there.long) group
    × IsRereadBy group spot (reread.Own head payload cut)). (
      some.0,
      record { long = there.long; begins = some.1; as_kept = some.2.4 },
      record {
        head_is = some.2.0;
        own = some.2.3;
        has = subst (λ (b : Bool). HasPayload b some.0.stored.method some.0.stored.head (kept_wire some.0.stored.kept) payload) some.2.2 some.2.1;
      },
    ))
    (λ (none : ((group : Group) → BeginsWithGroup namespace number (from_place texts spot there.long) group → ⊥)
    × (reread.Own head payload cut ≡ reread.Damaged None)). cc)
    there.is
own_there texts spots namespace number spot told keeps (reread.Same head same) there = absurd (no_revisit_there texts spots namespace number spot keeps head same there)
own_there texts spots namespace number spot told keeps (reread.Damaged found) there = told_found texts spots namespace number spot told found there

-- what is brought of it
pub own_brought_there : (texts : List (List ℕ)) (spots : List Spot) (namespace : List ℕ) (number : ℕ) (spot : Spot) (head payload : List ℕ)
    → IsBackThere texts spots namespace number spot (back.Right head payload)
    → IsBroughtThere texts namespace number spot (brought_of spot head payload)
own_brought_there texts spots namespace number spot head payload there told =
    let is = there told in (
      is.0,
      is.1,
      record {
        method = sym is.1.as_kept.stored.method;
        uri = sym is.1.as_kept.stored.uri;
        date = sym is.1.as_kept.stored.date;
        head = is.2.head_is;
        payload = λ own. is.2.has;
      },
    )

-- and of a revisit
pub revisit_read : (read : Reread) (revisit : Revisit) → revisit_by read ≡ Some revisit → read ≡ reread.Same revisit.head revisit.same
revisit_read (reread.Own head payload cut) revisit is = cc
revisit_read (reread.Same head same) revisit is = ap (λ (r : Revisit). reread.Same r.head r.same) (same_Some (record { head = head; same = same }) revisit is)
revisit_read (reread.Damaged found) revisit is = cc

pub same_brought_there : (texts : List (List ℕ)) (spots : List Spot) (namespace : List ℕ) (number : ℕ) (spot : Spot) (head payload : List ℕ) (same : Revisited)
    → is_same_form spot.form ≡ true → IsRereadThere texts spots namespace number spot (reread.Same head same)
    → IsBroughtThere texts namespace number spot (brought_of spot head payload)
same_brought_there texts spots namespace number spot head payload same revisit there told = ⊎_elim
    (λ (some : (group : Group) × BeginsWithGroup namespace number (from_place texts spot there.long) group
    × IsRereadBy group spot (reread.Same head same)). (
      some.0,
      record { long = there.long; begins = some.1; as_kept = some.2.2 },
      record {
        method = sym some.2.2.stored.method;
        uri = sym some.2.2.stored.uri;
        date = sym some.2.2.stored.date;
        head = some.2.0;
        payload = λ own. absurd (false≢true (sym own ∙ some.2.2.stored.revisit ∙ revisit));
      },
    ))
    (λ (none : ((group : Group) → BeginsWithGroup namespace number (from_place texts spot there.long) group → ⊥)
    × (reread.Same head same ≡ reread.Damaged None)). cc)
    there.is

-- a payload that is found in it
pub own_chosen_there : (texts : List (List ℕ)) (spots : List Spot) (namespace : List ℕ) (number : ℕ) (spot : Spot) (head own payload : List ℕ) → own ≡ payload
    → IsRereadThere texts spots namespace number spot (reread.Own head own false)
    → (group : Group) × StandsThere texts namespace number spot group × HasPayload false group.stored.method group.stored.head (kept_wire group.stored.kept) payload
own_chosen_there texts spots namespace number spot head own payload same there = ⊎_elim
    (λ (some : (group : Group) × BeginsWithGroup namespace number (from_place texts spot there.long) group
    × IsRereadBy group spot (reread.Own head own false)). (
      some.0,
      record { long = there.long; begins = some.1; as_kept = some.2.4 },
      subst (λ (p : List ℕ). HasPayload false some.0.stored.method some.0.stored.head (kept_wire some.0.stored.kept) p) same some.2.1,
    ))
    (λ (none : ((group : Group) → BeginsWithGroup namespace number (from_place texts spot there.long) group → ⊥)
    × (reread.Own head own false ≡ reread.Damaged None)). cc)
    there.is

-- a call that only reads before it changes nothing of it
pub chosen_on : {D : Type 0} (d : Ghosts D) (old new : Volumes D) → OnlyReads d old new → IsTrue d.tells → (spots : List Spot) (payload : List ℕ) (number : ℕ)
    → IsChosenThere (texts d new.journal) (book_of new.held).namespace spots payload number
    → IsChosenThere (texts d old.journal) (book_of old.held).namespace spots payload number
chosen_on d old new reads tells spots payload number there =
    subst (λ (h : Held). IsChosenThere (texts d old.journal) (book_of h).namespace spots payload number) reads.held
    (subst (λ (t : List (List ℕ)). IsChosenThere t (book_of new.held).namespace spots payload number) (texts_stay d old new reads tells) there)

-- of a capture whose records were read when the volumes were opened nothing is said
pub untold_there : {E : Type 0} (texts : List (List ℕ)) (namespace : List ℕ) (number : ℕ) (spot : Spot) → is_told_form spot.form ≡ false
    → (r : Result Brought E) → IfOk r (IsBroughtThere texts namespace number spot)
untold_there texts namespace number spot read (Ok brought) = λ told. absurd (false≢true (sym read ∙ told))
untold_there texts namespace number spot read (Err e) = tt

pub own_right : (book : Book) (number : ℕ) (spot : Spot) → IsSpotOf book number spot → is_same_form spot.form ≡ false → (read : Reread)
    → IsRereadOf book number read → IsReadRight book number (own_by read)
own_right book number spot its own (reread.Own head payload cut) is = is.are
own_right book number spot its own (reread.Same head same) is = no_revisit book number spot its own head same is
own_right book number spot its own (reread.Damaged found) is = is

-- ---- a capture that keeps its whole wire, or may do so

pub whole_kept_digest : (digest : List ℕ) (read : Reread) → IsReread digest read → IfSome (whole_by read) (λ payload. sha1 payload ≡ digest)
whole_kept_digest digest (reread.Own head payload false) is = is.1
whole_kept_digest digest (reread.Own head payload true) is = tt
whole_kept_digest digest (reread.Same head same) is = tt
whole_kept_digest digest (reread.Damaged found) is = tt

pub whole_found : (book : Book) (number : ℕ) → KeepsWire book number → (read : Reread) → IsRereadOf book number read → HasItsPayload book number (whole_by read)
whole_found book number keeps (reread.Own head payload false) is = is.are.has
whole_found book number keeps (reread.Own head payload true) is =
    let stored : is.are.has.stored ≡ keeps.stored = same_Some is.are.has.stored keeps.stored (sym is.are.has.placed ∙ keeps.placed) in
    absurd (false≢true (sym (is.cut_is ∙ ap (λ (s : Stored). is_cut s.kept) stored ∙ ap is_cut keeps.kept)))
whole_found book number keeps (reread.Same head same) is =
    let stored : is.stored ≡ keeps.stored = same_Some is.stored keeps.stored (sym is.placed ∙ keeps.placed) in
    absurd (no_wire is.first keeps.wire (sym is.kept ∙ ap (λ (s : Stored). s.kept) stored ∙ keeps.kept))
  where
    no_wire : (first : ℕ) (wire : List ℕ) → Same first ≡ Wire wire → ⊥
    no_wire first wire e = cc
whole_found book number keeps (reread.Damaged found) is = absurd is

pub right_kept : (digest : List ℕ) (read : ReadBack) → IsChecked digest read → IfSome (right_by read) (λ payload. sha1 payload ≡ digest)
right_kept digest (back.Right head payload) is = is.1
right_kept digest (back.Damaged found) is = tt

pub right_found : (book : Book) (number : ℕ) (read : ReadBack) → IsReadRight book number read → HasItsPayload book number (right_by read)
right_found book number (back.Right head payload) is = is.has
right_found book number (back.Damaged found) is = absurd is
