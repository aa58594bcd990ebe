-- What damage is told with, and which candidates are passed over.
use Rattle.std.proofs.Common.{◌≡◌, ℕ, ◌+◌, ◌<◌, ◌≤◌, Bool, true, false, IsTrue, List, get_or, Option, Some, None, Result, Ok, Err, refl, sym, ap, subst, ◌∙◌, inl, inr, ⊎_elim, arith}
use Rattle.std.specs.Prelude.{◌↔◌, IfErr, IfOk, IsErrAnd, IsFalse, slice_get}
use Rattle.std.proofs.lemmas.Bool.{cases_lt, false≢true}
use Rattle.sha1.specs.Sha1.{sha1}
use Rattle.capture.specs.declared.captured.Brought.{Brought}
use Rattle.capture.specs.declared.framing.Framing.{Framing}
use Rattle.disk_model.specs.declared.disk.Disk.{Ghosts}
use Rattle.warc_journal.specs.Journals.{texts}
use Rattle.warc_scan.specs.Answers.{BeginsWithGroup}
use Rattle.warc_scan.specs.declared.group.Group.{Group}
use Rattle.archive_shelf.specs.declared.fault.BringFault.{BringFault}
use Rattle.archive_shelf.specs.declared.fault.BringFault.TheVariants as brings
use Rattle.archive_shelf.specs.declared.fault.StoreFault.{StoreFault}
use Rattle.archive_shelf.specs.declared.fault.StoreFault.TheVariants as stores
use Rattle.archive_reading.proofs.FoundLaws.{digest_there, holds_digest, read_found, told_found}
use Rattle.archive_reading.proofs.BringLaws.{texts_stay}
use Rattle.archive_reading.proofs.DigestLaws.{one_spot}
use Rattle.archive_volumes.proofs.GroupLaws.{if_ok_so}
use Rattle.archive_reading.specs.Bringing.{DecodesThere, OnlyReads}
use Rattle.archive_payloads.specs.Choosing.{IsOther, OnDamage}
use Rattle.archive_payloads.specs.Damage.{ArePassedOver, IsFoundOf, IsPassedOver, StandsCut, TellsDamage, TellsFound}
use Rattle.archive_reading.specs.Decoding.{HoldsDigest, HoldsPayload, TellsFraming, digest_in}
use Rattle.archive_reading.specs.Digests.{GoesByLine}
use Rattle.archive_volumes.specs.Held.{book_of}
use Rattle.archive_reading.specs.Rereading.{IsFoundThere, IsRereadBy, IsRereadThere, from_place}
use Rattle.archive_volumes.specs.Spots.{head_in, is_cut_form, is_same_form, is_told_form, wire_in}
use Rattle.archive_payloads.specs.declared.compare.Compared.{Compared}
use Rattle.archive_payloads.specs.declared.compare.Compared.TheVariants as compares
use Rattle.archive_volumes.specs.declared.held.Held.{Held}
use Rattle.archive_reading.specs.declared.part.ReadFault.{ReadFault}
use Rattle.archive_reading.specs.declared.reread.Reread.TheVariants as reread
use Rattle.archive_volumes.specs.declared.spot.Spot.{Spot}
use Rattle.archive_volumes.specs.declared.volumes.Volumes.{Volumes}

-- ---- by head and wire

on_damage : (compared : Compared) (P Q : Option (List ℕ) → Type 0) → ((found : Option (List ℕ)) → P found → Q found) → OnDamage compared P
    → OnDamage compared Q
on_damage compares.Same P Q f p = tt
on_damage compares.Other P Q f p = tt
on_damage (compares.Damaged found) P Q f p = f found p

-- what was decoded and compared
pub damage_found : (compared : Compared) (cut : Bool) (framing : Framing) (wire : List ℕ) (found : Option (List ℕ)) → HoldsPayload cut framing wire found
    → OnDamage compared (λ digest. digest ≡ digest_in found) → OnDamage compared (HoldsDigest cut framing wire)
damage_found compared cut framing wire found holds damage =
    on_damage compared (λ digest. digest ≡ digest_in found) (HoldsDigest cut framing wire)
    (λ digest is. subst (HoldsDigest cut framing wire) (sym is) (holds_digest cut framing wire found holds)) damage

module _ (texts : List (List ℕ)) (spot : Spot) (head : List ℕ) (is : head ≡ head_in texts spot) where
  module _ (framing : Framing) (tells : TellsFraming spot.method head (Some framing)) where
    -- what was read and compared
    pub damage_there : (later : List (List ℕ)) → later ≡ texts → (r : Result Compared ReadFault)
        → IfOk r (λ compared. OnDamage compared (HoldsDigest (is_cut_form spot.form) framing (wire_in later spot)))
        → IfOk r (λ compared. OnDamage compared (DecodesThere texts spot))
    damage_there later stay r so =
        if_ok_so (λ compared. OnDamage compared (HoldsDigest (is_cut_form spot.form) framing (wire_in later spot)))
        (λ compared. OnDamage compared (DecodesThere texts spot)) r so
        (λ compared one. on_damage compared (HoldsDigest (is_cut_form spot.form) framing (wire_in later spot)) (DecodesThere texts spot)
        (λ found holds. digest_there texts spot head is framing tells found
        (subst (λ (t : List (List ℕ)). HoldsDigest (is_cut_form spot.form) framing (wire_in t spot) found) stay holds)) one)

-- ---- by the bytes that stand there

module _ (texts : List (List ℕ)) (spots : List Spot) (namespace : List ℕ) (number : ℕ) (spot : Spot) where
  module _ (tells : Bool) (here : slice_get spots number ≡ Some spot) (found : Option (List ℕ)) where
    damage_of : (IsTrue tells → IsFoundThere texts spots namespace number spot found)
        → TellsDamage tells texts namespace spots (stores.Damaged number spot.digest found)
    damage_of there other at =
        let one : spot ≡ other = one_spot spots number spot other here at in
        (ap (λ (s : Spot). s.digest) one, λ t. subst (λ (s : Spot). IsFoundThere texts spots namespace number s found) one (there t))

    pub read_damage : is_told_form spot.form ≡ false → (IsTrue tells → DecodesThere texts spot found)
        → TellsDamage tells texts namespace spots (stores.Damaged number spot.digest found)
    read_damage read there = damage_of (λ t. read_found texts spots namespace number spot read found (there t))

    pub told_damage : is_told_form spot.form ≡ true → (IsTrue tells → IsRereadThere texts spots namespace number spot (reread.Damaged found))
        → TellsDamage tells texts namespace spots (stores.Damaged number spot.digest found)
    told_damage told there = damage_of (λ t. told_found texts spots namespace number spot told found (there t))

-- ---- a capture that is brought

module _ (texts : List (List ℕ)) (namespace : List ℕ) (spots : List Spot) (number : ℕ) (spot : Spot) (here : slice_get spots number ≡ Some spot) where
  -- a revisit's own records
  pub revisit_found : is_same_form spot.form ≡ true → IsFoundOf texts namespace spots number number None
  revisit_found revisit = record {
    revisit = λ other at same. refl;
    other = λ asked keeper at there differ. absurd (differ (ap (λ (s : Spot). s.digest) (one_spot spots number keeper asked there at)));
    there = λ asked keeper at there own same.
        absurd (false≢true (sym own ∙ ap (λ (s : Spot). is_same_form s.form) (one_spot spots number keeper spot there here) ∙ revisit));
  }

  pub line_found : is_same_form spot.form ≡ true → (result : Result Brought BringFault) → GoesByLine number spot.digest result
      → IfErr result (TellsFound texts namespace spots number)
  line_found revisit (Ok brought) by = tt
  line_found revisit (Err (brings.NoSuch count)) by = tt
  line_found revisit (Err brings.DiskFault) by = tt
  line_found revisit (Err (brings.Damaged at kept found)) by =
      subst (λ (a : ℕ). IsFoundOf texts namespace spots number a found) (sym by.0)
      (subst (λ (f : Option (List ℕ)). IsFoundOf texts namespace spots number number f) (sym by.1) (revisit_found revisit))
  line_found revisit (Err brings.Memory) by = tt

  -- the capture that keeps the payload
  module _ (at : ℕ) (keeper : Spot) (there : slice_get spots at ≡ Some keeper) (own : is_same_form keeper.form ≡ false) where
    no_revisit : (other : Spot) → slice_get spots at ≡ Some other → is_same_form other.form ≡ true → ⊥
    no_revisit other is revisit =
        false≢true (sym own ∙ ap (λ (s : Spot). is_same_form s.form) (one_spot spots at keeper other there is) ∙ revisit)

    one_digest : (asked other : Spot) → slice_get spots number ≡ Some asked → slice_get spots at ≡ Some other → other.digest ≡ asked.digest
        → keeper.digest ≡ spot.digest
    one_digest asked other first second same =
        ap (λ (s : Spot). s.digest) (one_spot spots at keeper other there second) ∙ same
        ∙ ap (λ (s : Spot). s.digest) (one_spot spots number asked spot first here)

    also_digest : (asked other : Spot) → slice_get spots number ≡ Some asked → slice_get spots at ≡ Some other → keeper.digest ≡ spot.digest
        → other.digest ≡ asked.digest
    also_digest asked other first second same =
        ap (λ (s : Spot). s.digest) (one_spot spots at other keeper second there) ∙ same
        ∙ ap (λ (s : Spot). s.digest) (one_spot spots number spot asked here first)

    pub keeper_found : keeper.digest ≡ spot.digest → (found : Option (List ℕ)) → IsFoundThere texts spots namespace at keeper found
        → IsFoundOf texts namespace spots number at found
    keeper_found same found is = record {
      revisit = λ other second revisit. absurd (no_revisit other second revisit);
      other = λ asked other first second differ. absurd (differ (also_digest asked other first second same));
      there = λ asked other first second _ _.
          subst (λ (s : Spot). IsFoundThere texts spots namespace at s found) (one_spot spots at keeper other there second) is;
    }

    -- one of which another digest is kept
    pub other_found : (keeper.digest ≡ spot.digest → ⊥) → IsFoundOf texts namespace spots number at (Some spot.digest)
    other_found differ = record {
      revisit = λ other second revisit. absurd (no_revisit other second revisit);
      other = λ asked other first second _. ap (λ (s : Spot). Some s.digest) (one_spot spots number spot asked here first);
      there = λ asked other first second _ same. absurd (differ (one_digest asked other first second same));
    }

-- ---- candidates that are passed over

pub other_passed : (digest own payload : List ℕ) (has : Bool) → (IsTrue has ↔ (own ≡ payload)) → IsFalse has → sha1 own ≡ digest → IsOther digest payload
other_passed digest own payload has tells lacks same = (own, same, λ is. false≢true (sym lacks ∙ tells.1 is))

-- one that turns out to be cut
pub stands_cut : (texts : List (List ℕ)) (spots : List Spot) (namespace : List ℕ) (number : ℕ) (spot : Spot) (head own : List ℕ)
    → IsRereadThere texts spots namespace number spot (reread.Own head own true) → StandsCut texts namespace number spot
stands_cut texts spots namespace number spot head own there = ⊎_elim
    (λ (some : (group : Group) × BeginsWithGroup namespace number (from_place texts spot there.long) group
    × IsRereadBy group spot (reread.Own head own true)). record {
      group = some.0;
      stands = record { long = there.long; begins = some.1; as_kept = some.2.4 };
      cut = sym some.2.2;
    })
    (λ (none : ((group : Group) → BeginsWithGroup namespace number (from_place texts spot there.long) group → ⊥)
    × (reread.Own head own true ≡ reread.Damaged None)). cc)
    there.is

-- one candidate more
pub passed_more : (tells : Bool) (texts : List (List ℕ)) (namespace : List ℕ) (spots : List Spot) (candidates payload : List ℕ) (k : ℕ)
    → ArePassedOver tells texts namespace spots candidates payload k → IsPassedOver tells texts namespace spots payload (get_or candidates k 0)
    → ArePassedOver tells texts namespace spots candidates payload (k + 1)
passed_more tells texts namespace spots candidates payload k before here j less = ⊎_elim
    (λ (front : j < k). before j front)
    (λ (behind : k ≤ j). subst (λ (i : ℕ). IsPassedOver tells texts namespace spots payload (get_or candidates i 0)) (both k j less behind) here)
    (cases_lt j k)
  where
    both : (a b : ℕ) → b < a + 1 → a ≤ b → a ≡ b
    both a b x y = omega (arith, x, y)

-- ---- calls that only read before it

module _ {D : Type 0} (d : Ghosts D) (old new : Volumes D) (reads : OnlyReads d old new) where
  pub found_on : IsTrue d.tells → (spots : List Spot) (number : ℕ) (spot : Spot) (found : Option (List ℕ))
      → IsFoundThere (texts d new.journal) spots (book_of new.held).namespace number spot found
      → IsFoundThere (texts d old.journal) spots (book_of old.held).namespace number spot found
  found_on tells spots number spot found there =
      subst (λ (h : Held). IsFoundThere (texts d old.journal) spots (book_of h).namespace number spot found) reads.held
      (subst (λ (t : List (List ℕ)). IsFoundThere t spots (book_of new.held).namespace number spot found) (texts_stay d old new reads tells) there)

  pub damage_on : (spots : List Spot) (fault : StoreFault) → TellsDamage d.tells (texts d new.journal) (book_of new.held).namespace spots fault
      → TellsDamage d.tells (texts d old.journal) (book_of old.held).namespace spots fault
  damage_on spots (stores.Full count limit) damage = tt
  damage_on spots stores.DiskFault damage = tt
  damage_on spots (stores.Damaged at kept found) damage = λ spot here.
      ((damage spot here).0, λ tells. found_on tells spots at spot found ((damage spot here).1 tells))
  damage_on spots stores.Memory damage = tt

  pub passed_on : (spots : List Spot) (payload : List ℕ) (number : ℕ)
      → IsPassedOver d.tells (texts d new.journal) (book_of new.held).namespace spots payload number
      → IsPassedOver d.tells (texts d old.journal) (book_of old.held).namespace spots payload number
  passed_on spots payload number passed spot here = ⊎_elim
      (λ (other : IsOther spot.digest payload). inl other)
      (λ (cut : (is_told_form spot.form ≡ true) × (IsTrue d.tells → StandsCut (texts d new.journal) (book_of new.held).namespace number spot)).
      inr (
        cut.0,
        λ tells.
            subst (λ (h : Held). StandsCut (texts d old.journal) (book_of h).namespace number spot) reads.held
            (subst (λ (t : List (List ℕ)). StandsCut t (book_of new.held).namespace number spot) (texts_stay d old new reads tells) (cut.1 tells)),
      ))
      (passed spot here)

-- what a `?` hands out
pub damage_exit : (T : Type 0) (tells : Bool) (texts : List (List ℕ)) (namespace : List ℕ) (spots : List Spot) (fault : StoreFault) (r : Result T StoreFault)
    → IsErrAnd r (λ other. other ≡ fault) → TellsDamage tells texts namespace spots fault → IfErr r (TellsDamage tells texts namespace spots)
damage_exit T tells texts namespace spots fault (Ok value) is damage = tt
damage_exit T tells texts namespace spots fault (Err other) is damage = subst (TellsDamage tells texts namespace spots) (sym is) damage
