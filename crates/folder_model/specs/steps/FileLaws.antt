-- Laws of one file: what a deed adds to what the disk may hold of it.
use Rattle.std.proofs.Common.{◌≡◌, ◌≢◌, ◌≤◌, ◌+◌, ◌-◌, ℕ, Bool, true, false, not, IsTrue, Option, Some, None, is_some, List, [], ◌∷◌, length, take, refl, sym, ap, ◌∙◌, subst, arith, ⊎_elim, length-take, true≢false, ◌++◌, drop, length-drop, take-append-drop}
use Rattle.std.proofs.lemmas.Bool.{cases_Bool}
use Rattle.std.proofs.lemmas.List.{take_all, take_min, take-take, drop_all, append-nil}
use Rattle.std.proofs.lemmas.Option.{none-some, same_Some}
use Rattle.std.specs.Option.{option_map}
use Rattle.disk_model.specs.Image.{written}
use Rattle.disk_model.specs.Crash.{Torn, Cut}
use Rattle.disk_model.specs.steps.CrashLaws.{torn_written}
use Rattle.folder_model.specs.File.{FileDeed, Made, Wrote, Shortened, Synced, Listed, After, Sync, Crash, read_of, MayHold, may_lack, IsLeft, AreBytesSure, AreBytesLeft, IsNameSure}

-- a cut of which some was done
pub cut_begun : (len rest : ℕ) (old : List ℕ) → Cut (len - rest) old (take len old)
cut_begun len rest old = record {
  no_shorter = omega (arith, length-take len old);
  no_longer = omega (arith, length-take len old);
  same =
      take_all (length old) (take len old) (omega (arith, length-take len old))
      ∙ sym (ap (λ (k : ℕ). take k old) (length-take len old) ∙ take_min len old);
}

-- what a sync leaves a crash may leave
pub sync_then_crash : (first : Option (List ℕ)) (deeds : List FileDeed) (bytes : List ℕ) → MayHold first deeds Sync bytes → MayHold first deeds Crash bytes
sync_then_crash first [] bytes holds = holds
sync_then_crash first (Made ∷ earlier) bytes holds = holds
sync_then_crash first (Wrote at some rest ∷ earlier) bytes holds = (
  holds.0,
  sync_then_crash first earlier holds.0 holds.1,
  subst (Torn at (length some + rest) holds.0) (sym holds.2) (torn_written at (length some + rest) holds.0 some (omega arith)),
)
sync_then_crash first (Shortened len rest ∷ earlier) bytes holds = (
  holds.0,
  sync_then_crash first earlier holds.0 holds.1,
  subst (Cut (len - rest) holds.0) (sym holds.2) (cut_begun len rest holds.0),
)
sync_then_crash first (Synced true ∷ earlier) bytes holds = holds
sync_then_crash first (Synced false ∷ earlier) bytes holds = holds
sync_then_crash first (Listed done ∷ earlier) bytes holds = sync_then_crash first earlier bytes holds

pub lack_then_crash : (first : Option (List ℕ)) (deeds : List FileDeed) → IsTrue (may_lack first deeds Sync) → IsTrue (may_lack first deeds Crash)
lack_then_crash first [] lacks = lacks
lack_then_crash first (Made ∷ earlier) lacks = refl
lack_then_crash first (Wrote at bytes rest ∷ earlier) lacks = lack_then_crash first earlier lacks
lack_then_crash first (Shortened len rest ∷ earlier) lacks = lack_then_crash first earlier lacks
lack_then_crash first (Synced done ∷ earlier) lacks = lack_then_crash first earlier lacks
lack_then_crash first (Listed true ∷ earlier) lacks = lacks
lack_then_crash first (Listed false ∷ earlier) lacks = lacks

-- where a function of what there is gives something, it was there
from_some : (f : List ℕ → List ℕ) (o : Option (List ℕ)) (bytes : List ℕ) → option_map f o ≡ Some bytes → (old : List ℕ) × (o ≡ Some old) × (bytes ≡ f old)
from_some f None bytes e = absurd (none-some bytes e)
from_some f (Some old) bytes e = (old, refl, sym (same_Some (f old) bytes e))

-- and where it gives nothing, nothing was there
from_none : (f : List ℕ → List ℕ) (o : Option (List ℕ)) → option_map f o ≡ None → o ≡ None
from_none f None e = refl
from_none f (Some old) e = absurd (none-some (f old) (sym e))

-- what reads find may be on the disk, after a sync and after a crash
pub read_is_held : (first : Option (List ℕ)) (deeds : List FileDeed) (bytes : List ℕ) → read_of first deeds ≡ Some bytes → MayHold first deeds Sync bytes
read_is_held first [] bytes is = is
read_is_held first (Made ∷ earlier) bytes is = sym (same_Some [] bytes is)
read_is_held first (Wrote at some rest ∷ earlier) bytes is =
    let was = from_some (λ old. written old at some) (read_of first earlier) bytes is in
    (was.0, read_is_held first earlier was.0 was.1, was.2)
read_is_held first (Shortened len rest ∷ earlier) bytes is =
    let was = from_some (take len) (read_of first earlier) bytes is in
    (was.0, read_is_held first earlier was.0 was.1, was.2)
read_is_held first (Synced true ∷ earlier) bytes is = read_is_held first earlier bytes is
read_is_held first (Synced false ∷ earlier) bytes is = sync_then_crash first earlier bytes (read_is_held first earlier bytes is)
read_is_held first (Listed done ∷ earlier) bytes is = read_is_held first earlier bytes is

-- a name that reads don't find may be lacking on the disk
pub none_may_lack : (first : Option (List ℕ)) (deeds : List FileDeed) → read_of first deeds ≡ None → IsTrue (may_lack first deeds Sync)
none_may_lack first [] is = ap (λ (o : Option (List ℕ)). not (is_some o)) is
none_may_lack first (Made ∷ earlier) is = absurd (none-some [] (sym is))
none_may_lack first (Wrote at some rest ∷ earlier) is = none_may_lack first earlier (from_none (λ old. written old at some) (read_of first earlier) is)
none_may_lack first (Shortened len rest ∷ earlier) is = none_may_lack first earlier (from_none (take len) (read_of first earlier) is)
none_may_lack first (Synced done ∷ earlier) is = none_may_lack first earlier is
none_may_lack first (Listed true ∷ earlier) is = none_may_lack first earlier is
none_may_lack first (Listed false ∷ earlier) is = lack_then_crash first earlier (none_may_lack first earlier is)

-- what reads find is one of what a crash may leave
pub read_is_left : (first : Option (List ℕ)) (deeds : List FileDeed) (found : Option (List ℕ)) → read_of first deeds ≡ found → IsLeft first deeds found
read_is_left first deeds None is = lack_then_crash first deeds (none_may_lack first deeds is)
read_is_left first deeds (Some bytes) is = sync_then_crash first deeds bytes (read_is_held first deeds bytes is)

-- of a file that the disk may hold reads find something
pub held_is_read : (first : Option (List ℕ)) (deeds : List FileDeed) (after : After) (bytes : List ℕ) → MayHold first deeds after bytes → read_of first deeds ≢ None
held_is_read first [] after bytes holds none = none-some bytes (sym none ∙ holds)
held_is_read first (Made ∷ earlier) after bytes holds none = none-some [] (sym none)
held_is_read first (Wrote at some rest ∷ earlier) Sync bytes holds none = held_is_read first earlier Sync holds.0 holds.1 (from_none (λ old. written old at some) (read_of first earlier) none)
held_is_read first (Wrote at some rest ∷ earlier) Crash bytes holds none = held_is_read first earlier Crash holds.0 holds.1 (from_none (λ old. written old at some) (read_of first earlier) none)
held_is_read first (Shortened len rest ∷ earlier) Sync bytes holds none = held_is_read first earlier Sync holds.0 holds.1 (from_none (take len) (read_of first earlier) none)
held_is_read first (Shortened len rest ∷ earlier) Crash bytes holds none = held_is_read first earlier Crash holds.0 holds.1 (from_none (take len) (read_of first earlier) none)
held_is_read first (Synced true ∷ earlier) after bytes holds none = held_is_read first earlier Sync bytes holds none
held_is_read first (Synced false ∷ earlier) after bytes holds none = held_is_read first earlier Crash bytes holds none
held_is_read first (Listed done ∷ earlier) after bytes holds none = held_is_read first earlier after bytes holds none

-- so of a name that reads don't find a crash leaves nothing
pub none_is_left : (first : Option (List ℕ)) (deeds : List FileDeed) (left : Option (List ℕ)) → read_of first deeds ≡ None → IsLeft first deeds left → left ≡ None
none_is_left first deeds None none is = refl
none_is_left first deeds (Some bytes) none is = absurd (held_is_read first deeds Crash bytes is none)

-- a name that is on the disk has a file on it
pub named_is_left : (first : Option (List ℕ)) (deeds : List FileDeed) (left : Option (List ℕ)) → may_lack first deeds Crash ≡ false → IsLeft first deeds left → (bytes : List ℕ) × (left ≡ Some bytes)
named_is_left first deeds None named is = absurd (true≢false (sym is ∙ named))
named_is_left first deeds (Some bytes) named is = (bytes, refl)

-- a sync of a file, done or failed, adds nothing to what a crash may leave
pub synced_adds_none : (first : Option (List ℕ)) (deeds : List FileDeed) (done : Bool) (left : Option (List ℕ)) → IsLeft first (Synced done ∷ deeds) left → IsLeft first deeds left
synced_adds_none first deeds done None is = is
synced_adds_none first deeds true (Some bytes) is = sync_then_crash first deeds bytes is
synced_adds_none first deeds false (Some bytes) is = is

-- nor does one of the folder
pub listed_adds_none : (first : Option (List ℕ)) (deeds : List FileDeed) (done : Bool) (left : Option (List ℕ)) → IsLeft first (Listed done ∷ deeds) left → IsLeft first deeds left
listed_adds_none first deeds true None is = lack_then_crash first deeds is
listed_adds_none first deeds false None is = is
listed_adds_none first deeds done (Some bytes) is = is

-- ---- what syncs answer for

pub bytes_sure-first : (first : Option (List ℕ)) → AreBytesSure first []
bytes_sure-first first bytes holds = holds

pub bytes_sure-made : (first : Option (List ℕ)) (deeds : List FileDeed) → AreBytesSure first (Made ∷ deeds)
bytes_sure-made first deeds bytes holds = ap (λ (b : List ℕ). Some b) (sym holds)

pub bytes_sure-wrote : (first : Option (List ℕ)) (deeds : List FileDeed) (at : ℕ) (some : List ℕ) (rest : ℕ) → AreBytesSure first deeds → AreBytesSure first (Wrote at some rest ∷ deeds)
bytes_sure-wrote first deeds at some rest sure bytes holds =
    ap (λ (o : Option (List ℕ)). option_map (λ old. written old at some) o) (sure holds.0 holds.1) ∙ ap (λ (b : List ℕ). Some b) (sym holds.2)

pub bytes_sure-shortened : (first : Option (List ℕ)) (deeds : List FileDeed) (len rest : ℕ) → AreBytesSure first deeds → AreBytesSure first (Shortened len rest ∷ deeds)
bytes_sure-shortened first deeds len rest sure bytes holds =
    ap (λ (o : Option (List ℕ)). option_map (take len) o) (sure holds.0 holds.1) ∙ ap (λ (b : List ℕ). Some b) (sym holds.2)

pub bytes_sure-synced : (first : Option (List ℕ)) (deeds : List FileDeed) → AreBytesSure first deeds → AreBytesSure first (Synced true ∷ deeds)
bytes_sure-synced first deeds sure bytes holds = sure bytes holds

pub bytes_sure-listed : (first : Option (List ℕ)) (deeds : List FileDeed) (done : Bool) → AreBytesSure first deeds → AreBytesSure first (Listed done ∷ deeds)
bytes_sure-listed first deeds done sure bytes holds = sure bytes holds

-- ---- what a crash leaves of the bytes is what reads find

pub bytes_left-made : (first : Option (List ℕ)) (deeds : List FileDeed) → AreBytesLeft first (Made ∷ deeds)
bytes_left-made first deeds bytes holds = ap (λ (b : List ℕ). Some b) (sym holds)

pub bytes_left-synced : (first : Option (List ℕ)) (deeds : List FileDeed) (done : Bool) → AreBytesLeft first deeds → AreBytesLeft first (Synced done ∷ deeds)
bytes_left-synced first deeds true left bytes holds = left bytes (sync_then_crash first deeds bytes holds)
bytes_left-synced first deeds false left bytes holds = left bytes holds

pub bytes_left-listed : (first : Option (List ℕ)) (deeds : List FileDeed) (done : Bool) → AreBytesLeft first deeds → AreBytesLeft first (Listed done ∷ deeds)
bytes_left-listed first deeds done left bytes holds = left bytes holds

-- then syncs answer for them
pub bytes_left-sure : (first : Option (List ℕ)) (deeds : List FileDeed) → AreBytesLeft first deeds → AreBytesSure first deeds
bytes_left-sure first deeds left bytes holds = left bytes (sync_then_crash first deeds bytes holds)

pub name_sure-first : (first : Option (List ℕ)) → IsNameSure first []
name_sure-first None lacks = refl
name_sure-first (Some bytes) lacks = absurd (true≢false (sym lacks))

pub name_sure-made : (first : Option (List ℕ)) (deeds : List FileDeed) → IsNameSure first (Made ∷ deeds)
name_sure-made first deeds lacks = absurd (true≢false (sym lacks))

pub name_sure-wrote : (first : Option (List ℕ)) (deeds : List FileDeed) (at : ℕ) (some : List ℕ) (rest : ℕ) → IsNameSure first deeds → IsNameSure first (Wrote at some rest ∷ deeds)
name_sure-wrote first deeds at some rest sure lacks = ap (λ (o : Option (List ℕ)). option_map (λ old. written old at some) o) (sure lacks)

pub name_sure-shortened : (first : Option (List ℕ)) (deeds : List FileDeed) (len rest : ℕ) → IsNameSure first deeds → IsNameSure first (Shortened len rest ∷ deeds)
name_sure-shortened first deeds len rest sure lacks = ap (λ (o : Option (List ℕ)). option_map (take len) o) (sure lacks)

pub name_sure-synced : (first : Option (List ℕ)) (deeds : List FileDeed) (done : Bool) → IsNameSure first deeds → IsNameSure first (Synced done ∷ deeds)
name_sure-synced first deeds done sure lacks = sure lacks

pub name_sure-listed : (first : Option (List ℕ)) (deeds : List FileDeed) → IsNameSure first deeds → IsNameSure first (Listed true ∷ deeds)
name_sure-listed first deeds sure lacks = sure lacks

-- once the folder is synced the name is on the disk
pub listed_is_named : (first : Option (List ℕ)) (deeds : List FileDeed) (bytes : List ℕ) → IsNameSure first deeds → read_of first deeds ≡ Some bytes → may_lack first (Listed true ∷ deeds) Crash ≡ false
listed_is_named first deeds bytes sure is =
    ⊎_elim (λ lacks. absurd (none-some bytes (sym (sure lacks) ∙ is))) (λ named. named) (cases_Bool (may_lack first deeds Sync))

-- ---- what is written anew

-- a front that is the same, and all behind it written over
front_and_rest : (p : ℕ) (old reading : List ℕ) → p ≤ length reading → take p old ≡ take p reading → written (take (length reading) old) p (drop p reading) ≡ reading
front_and_rest p old reading inside same =
    let len : ℕ = length reading in
    let front : take p (take len old) ≡ take p reading = take-take p len old inside ∙ same in
    let none : drop (p + length (drop p reading)) (take len old) ≡ [] =
    drop_all (p + length (drop p reading)) (take len old) (omega (arith, length-take len old, length-drop p reading, inside)) in
    (λ i. front i ++ drop p reading ++ none i) ∙ append-nil (take p reading ++ drop p reading) ∙ take-append-drop p reading

-- Where the disk has the same as reads up to a place, whatever a sync leaves, a sync answers for the file again once it was cut at its length
-- and written anew from that place on.
pub written_anew : (first : Option (List ℕ)) (deeds : List FileDeed) (p : ℕ) (reading : List ℕ) → read_of first deeds ≡ Some reading → p ≤ length reading
    → ((old : List ℕ) → MayHold first deeds Sync old → take p old ≡ take p reading)
    → AreBytesSure first (Wrote p (drop p reading) 0 ∷ Shortened (length reading) 0 ∷ deeds)
written_anew first deeds p reading is inside same bytes holds =
    let held = holds.1 in
    ap (λ (o : Option (List ℕ)). option_map (λ old. written old p (drop p reading)) (option_map (take (length reading)) o)) is
    ∙ ap (λ (b : List ℕ). Some b)
    (front_and_rest p reading reading inside refl
    ∙ sym (front_and_rest p held.0 reading inside (same held.0 held.1))
    ∙ ap (λ (mid : List ℕ). written mid p (drop p reading)) (sym held.2)
    ∙ sym holds.2)
