-- Where a scan stands, after it read on or its position moved on.
use Rattle.std.proofs.Common.{◌≡◌, ◌<◌, ◌≤◌, ℕ, ◌+◌, ◌-◌, Bool, List, [], ◌++◌, length, get_or, sym, ap, subst, ◌∙◌, arith, length-append}
use Rattle.std.specs.Prelude.{IsTrue}
use Rattle.std.proofs.lemmas.List.{drop_all, length-drop}
use Rattle.disk_model.specs.declared.disk.Disk.{Ghosts}
use Rattle.warc_journal.specs.Extents.{AreVolumesSynced, warc_files}
use Rattle.warc_journal.specs.Journals.{Rests}
use Rattle.volume_scan.specs.Scannings.{IsInPlace, LiesIn, Stands, disk_of, file_count, files_in, position_of}
use Rattle.volume_scan.specs.steps.Moves.{Keeps, Moves}
use Rattle.volume_scan.specs.Unread.{IsBehind, IsFurthest, file_at, unread}
use Rattle.volume_scan.specs.Windows.{IsInside, Shows}
use Rattle.volume_scan.specs.declared.position.Position.{Position}
use Rattle.volume_scan.specs.declared.position.Stage.TheVariants.{Done, Opened, Skipped, Within}
use Rattle.volume_scan.specs.declared.window.Window.{Window}
use Rattle.warc_journal.specs.declared.extent.Further.{Further}
use Rattle.volume_scan.specs.declared.scanning.Scanning.{Scanning}
use Rattle.volume_scan.proofs.Texts.{behind_is, texts_found}

module _ {D : Type 0} (d : Ghosts D) where
  stands_on : (old new : Scanning D) → position_of new ≡ position_of old → file_count new ≡ file_count old → new.len ≡ old.len
      → Stands d old → Rests d (disk_of old) (disk_of new) → Shows new.window (files_in d new) → Stands d new
  stands_on old new position count len stands rests shows =
      let files : files_in d new ≡ files_in d old = ap warc_files rests.read in
      record {
        synced = λ image left. stands.synced image (rests.crash image left) ∙ sym files;
        count = count ∙ stands.count ∙ sym (ap length files);
        lies = subst (LiesIn (position_of new)) (sym files) (subst (λ (p : Position). LiesIn p (files_in d old)) (sym position) stands.lies);
        last = λ k is. len ∙ stands.last k (is ∙ ap (λ (p : Position). p.extent.volumes) position) ∙ sym (ap (λ (l : List (List ℕ)). length (file_at l k)) files);
        shows = shows;
      }

  -- it read on
  pub keeps_place : (old new : Scanning D) → position_of new ≡ position_of old → file_count new ≡ file_count old → new.len ≡ old.len
      → IsInPlace d old → (IsTrue d.tells → Rests d (disk_of old) (disk_of new)) → IsInside new.window → (IsTrue d.tells → Shows new.window (files_in d new))
      → Keeps d old new
  keeps_place old new position count len in_place rests inside shows = record {
    position = position;
    count = count;
    len = len;
    in_place = record {
      inside = inside;
      stands = λ told. stands_on old new position count len (in_place.stands told) (rests told) (shows told);
    };
    rests = rests;
  }

  -- its position moved on over the same disk
  pub moves_place : (old new : Scanning D) → disk_of new ≡ disk_of old → file_count new ≡ file_count old → new.window ≡ old.window → IsInPlace d old
      → (IsTrue d.tells → LiesIn (position_of new) (files_in d old))
      → (IsTrue d.tells → (k : ℕ) → k + 1 ≡ (position_of new).extent.volumes → new.len ≡ length (file_at (files_in d old) k))
      → Moves d old new
  moves_place old new disk count window in_place lies last =
      let files : files_in d new ≡ files_in d old = ap (λ (x : D). warc_files (d.reading x)) disk in
      record {
        disk = disk;
        count = count;
        in_place = record {
          inside = subst IsInside (sym window) in_place.inside;
          stands = λ told. let stands = in_place.stands told in record {
            synced = subst (λ (x : D). AreVolumesSynced (d.reading x) (d.images x)) (sym disk) stands.synced;
            count = count ∙ stands.count ∙ sym (ap length files);
            lies = subst (LiesIn (position_of new)) (sym files) (lies told);
            last = λ k is. last told k is ∙ sym (ap (λ (l : List (List ℕ)). length (file_at l k)) files);
            shows = subst (Shows new.window) (sym files) (subst (λ (w : Window). Shows w (files_in d old)) (sym window) stands.shows);
          };
        };
      }

module _ (position : Position) (files : List (List ℕ)) (lies : LiesIn position files) where
  -- behind a group
  pub lies_behind_group : (end captures : ℕ) (text rest : List ℕ) → 0 < position.extent.volumes → end ≡ position.extent.end + length text
      → unread position files ≡ text ++ rest
      → LiesIn (record position { extent = record position.extent { end = end }; captures = captures; stage = Within }) files
  lies_behind_group end captures text rest some is here = record {
    none = λ none. absurd (omega (arith, some, none));
    enough = lies.enough;
    within = λ k at. omega (
      arith,
      is,
      lies.within k at,
      ap length (sym (behind_is position.extent files k at) ∙ here),
      length-drop position.extent.end (get_or files k []),
      length-append text rest,
    );
    opened = λ e. cc e;
    skipped = λ e. cc e;
    done = λ e. cc e;
    behind = λ e. cc e;
    furthest = λ e. cc e;
  }

  -- behind a warcinfo
  pub lies_behind_info : (len : ℕ) (namespace : List ℕ) → position.extent.volumes < length files → len ≤ length (file_at files position.extent.volumes)
      → LiesIn (record position { extent = record position.extent { volumes = position.extent.volumes + 1; end = len }; namespace = namespace; stage = Opened }) files
  lies_behind_info len namespace there fits = record {
    none = λ none. absurd (omega (arith, none));
    enough = omega (arith, there);
    within = λ k at. let same : position.extent.volumes ≡ k = omega (arith, at) in subst (λ (i : ℕ). len ≤ length (file_at files i)) same fits;
    opened = λ e. omega arith;
    skipped = λ e. cc e;
    done = λ e. cc e;
    behind = λ e. cc e;
    furthest = λ e. cc e;
  }

  -- at the end of a volume that is skipped
  pub lies_past : (end captures : ℕ) → 0 < position.extent.volumes → position.extent.volumes < length files
      → ((k : ℕ) → k + 1 ≡ position.extent.volumes → end ≡ length (file_at files k))
      → LiesIn (record position { extent = record position.extent { end = end }; captures = captures; stage = Skipped }) files
  lies_past end captures some there is =
      let k = position.extent.volumes - 1 in
      let at : k + 1 ≡ position.extent.volumes = omega (arith, some) in
      record {
        none = λ none. absurd (omega (arith, some, none));
        enough = lies.enough;
        within = λ j that. omega (arith, is j that);
        opened = λ e. cc e;
        skipped = λ e. (there, behind_is (record position.extent { end = end }) files k at ∙ drop_all end (get_or files k []) (omega (arith, is k at)));
        done = λ e. cc e;
        behind = λ e. cc e;
        furthest = λ e. cc e;
      }

  -- at the end
  pub lies_at_end : (is_dirty : Bool) (further : Further) → IsBehind is_dirty (unread position files) → IsFurthest further position.extent.volumes files
      → LiesIn (record position { extent = record position.extent { is_dirty = is_dirty; further = further }; stage = Done }) files
  lies_at_end is_dirty further rest furthest = record {
    none = lies.none;
    enough = lies.enough;
    within = lies.within;
    opened = λ e. cc e;
    skipped = λ e. cc e;
    done = λ e. texts_found position.extent files is_dirty further lies.none lies.enough lies.within rest furthest;
    behind = λ e. rest;
    furthest = λ e. furthest;
  }
