-- What a step says, from its parts: reading on keeps the position, and the answer is said of it.
use Rattle.std.proofs.Common.{◌≡◌, ◌<◌, ◌≤◌, ℕ, ◌+◌, List, [], ◌∷◌, ◌++◌, length, refl, sym, ap, subst, ◌∙◌, inl, ⊎_elim, arith}
use Rattle.std.specs.Prelude.{IsTrue, Result, Ok, Err}
use Rattle.disk_model.specs.Crash.{Elapses, Within as StaysWithin}
use Rattle.disk_model.specs.Image.{Image}
use Rattle.disk_model.proofs.MomentLaws.{joined}
use Rattle.disk_model.specs.declared.disk.Disk.{Ghosts}
use Rattle.warc_journal.specs.Extents.{texts_in, warc_files}
use Rattle.warc_journal.specs.Journals.{Rests}
use Rattle.warc_journal.specs.Texts.{Hold, with_more}
use Rattle.warc_scan.specs.Groups.{IsGroup}
use Rattle.volume_scan.specs.Damage.{IsDamagedAt}
use Rattle.volume_scan.specs.Scannings.{CountsFault, Finds, IsDamage, IsInPlace, disk_of, files_in, position_of, texts}
use Rattle.volume_scan.specs.steps.Moves.{Comes, Keeps, Moves}
use Rattle.volume_scan.specs.Unread.{IsBehind, IsFurthest, unread}
use Rattle.volume_scan.specs.steps.Readings.{IsReadFault}
use Rattle.volume_scan.specs.declared.fault.ScanFault.{ScanFault}
use Rattle.volume_scan.specs.declared.fault.ScanFault.TheVariants.{Damaged, DiskFault, Memory}
use Rattle.volume_scan.specs.declared.found.Found.{Found}
use Rattle.volume_scan.specs.declared.found.Found.TheVariants.{Info, Group, End}
use Rattle.volume_scan.specs.declared.position.Position.{Position}
use Rattle.volume_scan.specs.declared.position.Stage.TheVariants.{Opened, Within, Done}
use Rattle.volume_scan.specs.declared.scanning.Scanning.{Scanning}

-- nothing was changed before, and nothing after
pub rests_joined : {D : Type 0} (d : Ghosts D) (old mid new : D) → Rests d old mid → Rests d mid new → Rests d old new
rests_joined d old mid new first second = record {
  read = second.read ∙ first.read;
  crash = λ image left. first.crash image (second.crash image left);
  leaves = joined d.moment d.images_since old mid new (λ image. ⊥) first.leaves second.leaves;
}

-- a call of the disk that only reads
pub rests_by : {D : Type 0} (d : Ghosts D) (counts : (disk : D) (t : ℕ) (image : Image) → t ≤ d.moment disk → d.images disk image → d.images_since disk t image)
    (old new : D) → d.reading new ≡ d.reading old → StaysWithin (d.images old) (d.images new)
    → Elapses (d.moment old) (d.moment new) (d.images_since old) (d.images_since new) (d.images new) → Rests d old new
rests_by d counts old new read crash time = record {
  read = read;
  crash = crash;
  leaves = record {
    later = time.later;
    adds = λ t image le left. ⊎_elim (λ was. inl was) (λ now. inl (counts old t image le (crash image now))) (time.nothing_else t image le left);
  };
}

pub rests_still : {D : Type 0} (d : Ghosts D) (disk : D) → Rests d disk disk
rests_still d disk = record {
  read = refl;
  crash = λ image left. left;
  leaves = record { later = omega arith; adds = λ t image le left. inl left };
}

-- reading alone counts as a step does
counts_read : (before now : ℕ) (fault : ScanFault) → IsReadFault before now fault → CountsFault before now fault
counts_read before now (Damaged file place) is = absurd is
counts_read before now DiskFault is = is
counts_read before now Memory is = is

module _ {D : Type 0} (d : Ghosts D) where
  no_damage : (old : Scanning D) (before now : ℕ) (fault : ScanFault) → IsReadFault before now fault → IsDamage d old fault
  no_damage old before now (Damaged file place) is = absurd is
  no_damage old before now DiskFault is = tt
  no_damage old before now Memory is = tt

  -- a step that is refused while it reads
  pub comes_unread : (old new : Scanning D) (fault : ScanFault) → Keeps d old new → IsReadFault (d.faults (disk_of old)) (d.faults (disk_of new)) fault
      → Comes d old new (Err fault)
  comes_unread old new fault keeps is = record {
    finds = tt;
    damage = no_damage old (d.faults (disk_of old)) (d.faults (disk_of new)) fault is;
    stays = keeps.position;
    in_place = keeps.in_place;
    count = keeps.count;
    rests = keeps.rests;
    faults = record { steady = tt; rose = counts_read (d.faults (disk_of old)) (d.faults (disk_of new)) fault is };
  }

  module _ (old mid new : Scanning D) (keeps : Keeps d old mid) where
    files_same : IsTrue d.tells → files_in d mid ≡ files_in d old
    files_same told = ap warc_files (keeps.rests told).read

    texts_same : IsTrue d.tells → texts d mid ≡ texts d old
    texts_same told = λ i. texts_in (keeps.position i).extent (files_same told i)

    unread_same : IsTrue d.tells → unread (position_of mid) (files_in d mid) ≡ unread (position_of old) (files_in d old)
    unread_same told = λ i. unread (keeps.position i) (files_same told i)

    -- what is found behind the position that was kept
    finds_from : (found : Found) → Finds d mid new found → Finds d old new found
    finds_from (Info volume namespace born) f = record {
      text = f.text;
      is = f.is;
      number = f.number ∙ ap (λ (p : Position). p.extent.volumes) keeps.position;
      there = subst (λ (n : ℕ). volume < n) keeps.count f.there;
      position = f.position ∙ ap (λ (p : Position). record {
        extent = record p.extent { volumes = volume + 1; end = length f.text };
        captures = p.captures;
        namespace = namespace;
        stage = Opened;
      }) keeps.position;
      read = λ told. f.read told ∙ ap (λ (l : List (List ℕ)). l ++ f.text ∷ []) (texts_same told);
    }
    finds_from (Group place read) f = record {
      text = f.text;
      is = subst (λ (p : Position). IsGroup p.namespace p.captures f.text read.group) keeps.position f.is;
      volume = f.volume ∙ ap (λ (p : Position). p.extent.volumes) keeps.position;
      at = f.at ∙ ap (λ (p : Position). p.extent.end) keeps.position;
      len = f.len;
      position = f.position ∙ ap (λ (p : Position). record p {
        extent = record p.extent { end = place.at + length f.text };
        captures = p.captures + 1;
        stage = Within;
      }) keeps.position;
      read = λ told. f.read told ∙ ap (λ (l : List (List ℕ)). with_more l f.text) (texts_same told);
    }
    finds_from End f = record {
      position = f.position ∙ ap (λ (p : Position). record p {
        extent = record p.extent {
          is_dirty = (position_of new).extent.is_dirty;
          further = (position_of new).extent.further;
        };
        stage = Done;
      }) keeps.position;
      not_skipped = λ told is. f.not_skipped told (ap (λ (p : Position). p.stage) keeps.position ∙ is);
      read = λ told. f.read told ∙ texts_same told;
      held = λ told. subst (λ (l : List (List ℕ)). Hold l (files_in d old)) (texts_same told) (subst (Hold (texts d mid)) (files_same told) (f.held told));
      behind = λ told. subst (IsBehind (position_of new).extent.is_dirty) (unread_same told) (f.behind told);
      furthest = λ told. subst (IsFurthest (position_of new).extent.further (position_of old).extent.volumes) (files_same told)
          (subst (λ (p : Position). IsFurthest (position_of new).extent.further p.extent.volumes (files_in d mid)) keeps.position (f.furthest told));
    }

    damage_from : (fault : ScanFault) → IsDamage d mid fault → IsDamage d old fault
    damage_from (Damaged file place) is = λ told.
        subst (λ (l : List (List ℕ)). IsDamagedAt (position_of old) l file place) (files_same told)
        (subst (λ (p : Position). IsDamagedAt p (files_in d mid) file place) keeps.position (is told))
    damage_from DiskFault is = tt
    damage_from Memory is = tt

    counts_from : (fault : ScanFault) → d.faults (disk_of mid) ≡ d.faults (disk_of old)
        → CountsFault (d.faults (disk_of mid)) (d.faults (disk_of new)) fault → CountsFault (d.faults (disk_of old)) (d.faults (disk_of new)) fault
    counts_from fault same is = subst (λ (n : ℕ). CountsFault n (d.faults (disk_of new)) fault) same is

    -- a step after reading on
    pub comes_from : (result : Result Found ScanFault) → d.faults (disk_of mid) ≡ d.faults (disk_of old) → Comes d mid new result → Comes d old new result
    comes_from (Ok found) same comes = record {
      finds = finds_from found comes.finds;
      damage = tt;
      stays = tt;
      in_place = comes.in_place;
      count = comes.count ∙ keeps.count;
      rests = λ told. rests_joined d (disk_of old) (disk_of mid) (disk_of new) (keeps.rests told) (comes.rests told);
      faults = record { steady = comes.faults.steady ∙ same; rose = tt };
    }
    comes_from (Err fault) same comes = record {
      finds = tt;
      damage = damage_from fault comes.damage;
      stays = comes.stays ∙ keeps.position;
      in_place = comes.in_place;
      count = comes.count ∙ keeps.count;
      rests = λ told. rests_joined d (disk_of old) (disk_of mid) (disk_of new) (keeps.rests told) (comes.rests told);
      faults = record { steady = tt; rose = counts_from fault same comes.faults.rose };
    }

  -- a step without reading
  pub comes_found : (old new : Scanning D) (found : Found) → Finds d old new found → Moves d old new → Comes d old new (Ok found)
  comes_found old new found finds moves = record {
    finds = finds;
    damage = tt;
    stays = tt;
    in_place = moves.in_place;
    count = moves.count;
    rests = λ told. subst (Rests d (disk_of old)) (sym moves.disk) (rests_still d (disk_of old));
    faults = record { steady = ap d.faults moves.disk; rose = tt };
  }

  pub comes_damaged : (old : Scanning D) (file place : ℕ) → IsInPlace d old
      → (IsTrue d.tells → IsDamagedAt (position_of old) (files_in d old) file place) → Comes d old old (Err (Damaged file place))
  comes_damaged old file place in_place is = record {
    finds = tt;
    damage = is;
    stays = refl;
    in_place = in_place;
    count = refl;
    rests = λ told. rests_still d (disk_of old);
    faults = record { steady = tt; rose = refl };
  }
