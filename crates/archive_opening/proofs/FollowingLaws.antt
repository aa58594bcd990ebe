-- What was gathered follows the scan: after each step, where it is damaged, and at the end.
use Rattle.std.specs.Prelude.{None}
use Rattle.std.proofs.Common.{◌≡◌, ◌≢◌, ℕ, ◌+◌, ◌-◌, ◌^◌, ◌<◌, IsTrue, List, [], ◌∷◌, ◌++◌, length, get_or, refl, sym, ap, subst, ◌∙◌, inl, inr, arith, length-append}
use Rattle.std.proofs.lemmas.List.{get_or_push, length-set, length_push}
use Rattle.capture.specs.Captures.{captures}
use Rattle.disk_model.specs.Image.{Image}
use Rattle.disk_model.proofs.MomentLaws.{joined}
use Rattle.disk_model.specs.declared.disk.Disk.{Ghosts}
use Rattle.disk_model.specs.declared.kind.Kind.TheVariants.{Warc}
use Rattle.volume_scan.specs.Books.{AreFronts, BeginsWith, DamagedFilesStandForNoBook, FilesBeginWithWhatWasRead}
use Rattle.volume_scan.specs.Damage.{IsDamagedAt}
use Rattle.volume_scan.specs.Scannings.{BeginsOne, Ends, GoesOnWith, IsInPlace, LiesIn, captures_of, disk_of, file_count, files_in, position_of, texts as texts_read}
use Rattle.volume_scan.specs.declared.position.Position.{Position}
use Rattle.volume_scan.specs.declared.position.Stage.{Stage}
use Rattle.volume_scan.specs.declared.position.Stage.TheVariants.{Within, Opened, Skipped, Done}
use Rattle.volume_scan.specs.declared.scanning.Scanning.{Scanning}
use Rattle.warc_journal.specs.Extents.{warc_files}
use Rattle.warc_journal.specs.Journals.{Rests}
use Rattle.warc_journal.specs.Texts.{Hold, with_more}
use Rattle.warc_journal.specs.declared.place.Place.{Place}
use Rattle.warc_scan.specs.Groups.{IsGroup}
use Rattle.record_opening.specs.Infos.{IsInfo}
use Rattle.warc_scan.specs.declared.group.Group.{Group as GroupFound}
use Rattle.archive_shelf.specs.declared.fault.ReopenFault.TheVariants as faults
use Rattle.archive_gathering.proofs.FrontLaws.{last_with_more}
use Rattle.archive_gathering.specs.Gathering.{IsGathered}
use Rattle.archive_opening.specs.Following.{Follows, HasAll, left}
use Rattle.archive_volumes.specs.Held.{book_of}
use Rattle.archive_opening.specs.Opening.{IsDamageIn, IsReadFrom, StandForNone}
use Rattle.archive_gathering.specs.Reading.{IsDeadEnd}
use Rattle.archive_gathering.specs.declared.gathered.Gathered.{Gathered}

other_stage : Opened ≢ Skipped
other_stage e = cc

within_stage : Within ≢ Skipped
within_stage e = cc

done_stage : Done ≢ Skipped
done_stage e = cc

module _ {D : Type 0} (d : Ghosts D) (old new : Scanning D) (was is : Gathered) (follows : Follows d old was) where
  -- a volume more
  pub follows_info : (volume : ℕ) (namespace : List ℕ) (born : ℕ) (one : BeginsOne d old new volume namespace born)
      → IsGathered None is (follows.texts ++ one.text ∷ []) → length (captures (book_of is.held)) ≡ length (captures (book_of was.held))
      → (book_of is.held).namespace ≡ namespace → Follows d new is
  follows_info volume namespace born one gathered same in_it =
      let count = length_push follows.texts one.text in
      let place : (position_of new).extent.volumes ≡ volume + 1 = ap (λ (p : Position). p.extent.volumes) one.position in
      record {
        texts = follows.texts ++ one.text ∷ [];
        gathered = gathered;
        volumes = omega (arith, place, one.number, follows.volumes, count);
        none = λ none. absurd (omega (arith, none, count));
        ends = λ k last.
            ap (λ (p : Position). p.extent.end) one.position
            ∙ ap length (sym (get_or_push follows.texts one.text [] k (omega (arith, last, count))));
        count = ap (λ (p : Position). p.captures) one.position ∙ follows.count ∙ sym same;
        namespace = λ some. ap (λ (p : Position). p.namespace) one.position ∙ sym in_it;
        whole = subst (λ (s : Stage). s ≢ Skipped) (sym (ap (λ (p : Position). p.stage) one.position)) other_stage;
        read = λ told. one.read told ∙ ap (λ (t : List (List ℕ)). t ++ one.text ∷ []) (follows.read told);
      }

  pub fewer_info : (volume : ℕ) (namespace : List ℕ) (born : ℕ) (one : BeginsOne d old new volume namespace born) → file_count new ≡ file_count old
      → left new < left old
  fewer_info volume namespace born one files =
      let place : (position_of new).extent.volumes ≡ volume + 1 = ap (λ (p : Position). p.extent.volumes) one.position in
      let count : captures_of new ≡ captures_of old = ap (λ (p : Position). p.captures) one.position in
      omega (arith, place, count, one.number, one.there, files)

  -- a capture more
  pub follows_group : (place : Place) (group : GroupFound) (on : GoesOnWith d old new place group) → 0 < length follows.texts
      → IsGathered None is (with_more follows.texts on.text) → length (captures (book_of is.held)) ≡ length (captures (book_of was.held)) + 1
      → (book_of is.held).namespace ≡ (book_of was.held).namespace → Follows d new is
  follows_group place group on some gathered more in_it =
      let count : length (with_more follows.texts on.text) ≡ length follows.texts = length-set follows.texts (length follows.texts - 1) _ in
      record {
        texts = with_more follows.texts on.text;
        gathered = gathered;
        volumes = ap (λ (p : Position). p.extent.volumes) on.position ∙ follows.volumes ∙ sym count;
        none = λ none. absurd (omega (arith, none, count, some));
        ends = λ k last.
            let here : k + 1 ≡ length follows.texts = omega (arith, last, count) in
            let at : (position_of new).extent.end ≡ place.at + length on.text = ap (λ (p : Position). p.extent.end) on.position in
            omega (
              arith,
              at,
              on.at,
              follows.ends k here,
              ap length (last_with_more follows.texts on.text k here),
              length-append (get_or follows.texts k []) on.text,
            );
        count = omega (arith, ap (λ (p : Position). p.captures) on.position, follows.count, more);
        namespace = λ _. ap (λ (p : Position). p.namespace) on.position ∙ follows.namespace some ∙ sym in_it;
        whole = subst (λ (s : Stage). s ≢ Skipped) (sym (ap (λ (p : Position). p.stage) on.position)) within_stage;
        read = λ told. on.read told ∙ ap (λ (t : List (List ℕ)). with_more t on.text) (follows.read told);
      }

  -- there is a volume in which it stands
  pub some_texts : (place : Place) (group : GroupFound) → GoesOnWith d old new place group → 0 < length follows.texts
  some_texts place group on = omega (arith, on.volume, follows.volumes)

  pub fewer_group : (place : Place) (group : GroupFound) (on : GoesOnWith d old new place group) → file_count new ≡ file_count old
      → captures_of old < 2 ^ 32 → left new < left old
  fewer_group place group on files few =
      omega (arith, ap (λ (p : Position). p.extent.volumes) on.position, ap (λ (p : Position). p.captures) on.position, files, few)

-- the end
pub has_all : {D : Type 0} (d : Ghosts D) (old new : Scanning D) (g : Gathered) → (IsTrue d.tells → Rests d (disk_of old) (disk_of new))
    → Follows d old g → Ends d old new → HasAll d new g
has_all d old new g rests follows ends = record {
  follows = record {
    texts = follows.texts;
    gathered = follows.gathered;
    volumes = ap (λ (p : Position). p.extent.volumes) ends.position ∙ follows.volumes;
    none = λ none. ap (λ (p : Position). p.extent.end) ends.position ∙ follows.none none;
    ends = λ k last. ap (λ (p : Position). p.extent.end) ends.position ∙ follows.ends k last;
    count = ap (λ (p : Position). p.captures) ends.position ∙ follows.count;
    namespace = λ some. ap (λ (p : Position). p.namespace) ends.position ∙ follows.namespace some;
    whole = subst (λ (s : Stage). s ≢ Skipped) (sym (ap (λ (p : Position). p.stage) ends.position)) done_stage;
    read = λ told. ends.read told ∙ follows.read told;
  };
  held = λ told.
      subst (λ (t : List (List ℕ)). Hold t (files_in d new)) (follows.read told)
      (subst (λ (i : Image). Hold (texts_read d old) (warc_files i)) (sym (rests told).read) (ends.held told));
}

-- ---- damage

module _ {D : Type 0} (d : Ghosts D) (scanning : Scanning D) (g : Gathered) (follows : Follows d scanning g) (in_place : IsInPlace d scanning)
    (begin : FilesBeginWithWhatWasRead) (none : DamagedFilesStandForNoBook) (told : IsTrue d.tells) where
  abbrev files : List (List ℕ)
  files = files_in d scanning

  lies : LiesIn (position_of scanning) files
  lies = (in_place.stands told).lies

  pub fronts : AreFronts follows.texts files
  fronts = subst (λ (t : List (List ℕ)). AreFronts t files) (follows.read told) (begin (position_of scanning) files lies)

  pub read_from : IsReadFrom files (book_of g.held) follows.texts
  read_from = record { sound = follows.gathered.read.sound; are = follows.gathered.read.are; fronts = fronts }

  -- where what follows is a dead end
  pub none_by : (texts : List (List ℕ)) → AreFronts texts files → IsDeadEnd None texts → StandForNone files
  none_by texts these dead = λ x sound stands. dead files these x tt sound stands

  -- where the scan is damaged
  pub stands_for_none : (file place : ℕ) → IsDamagedAt (position_of scanning) files file place → StandForNone files
  stands_for_none file place damaged x sound stands =
      let so_far = (follows.gathered.read.goes_on files x tt fronts sound stands).begins in
      let these : BeginsWith x follows.texts (position_of scanning).namespace (length (captures (book_of g.held))) = record {
        none = so_far.none;
        enough = so_far.enough;
        namespace_is = λ some. follows.namespace some ∙ so_far.namespace_is some;
        last = so_far.last;
      } in
      none (position_of scanning) files x file place sound stands follows.whole lies.enough
      (subst (λ (n : ℕ). BeginsWith x (texts_read d scanning) (position_of scanning).namespace n) (sym follows.count)
      (subst (λ (t : List (List ℕ)). BeginsWith x t (position_of scanning).namespace (length (captures (book_of g.held)))) (sym (follows.read told)) these))
      damaged

  pub damage_of_scan : (file place : ℕ) → IsDamagedAt (position_of scanning) files file place → IsDamageIn files (faults.Damaged Warc file place)
  damage_of_scan file place damaged = (
    refl,
    stands_for_none file place damaged,
    record {
      book = book_of g.held;
      texts = follows.texts;
      read = read_from;
      cause = inl (record {
        position = position_of scanning;
        read = follows.read told;
        count = follows.count;
        namespace = λ some. follows.namespace (omega (arith, some, follows.volumes));
        damaged = damaged;
      });
    },
  )

-- where a volume is refused
pub damage_of_volume : {D : Type 0} (d : Ghosts D) (old new : Scanning D) (g : Gathered) (follows : Follows d old g) → IsInPlace d old → IsInPlace d new
    → FilesBeginWithWhatWasRead → DamagedFilesStandForNoBook → IsTrue d.tells → Rests d (disk_of old) (disk_of new)
    → (volume : ℕ) (namespace : List ℕ) (born : ℕ) (one : BeginsOne d old new volume namespace born)
    → IsInfo (length follows.texts) one.text namespace born (length one.text)
    → IsDeadEnd None (follows.texts ++ one.text ∷ []) → IsDamageIn (files_in d old) (faults.Damaged Warc volume 0)
damage_of_volume d old new g follows was in_place begin none told rests volume namespace born one info dead =
    let after : List (List ℕ) = follows.texts ++ one.text ∷ [] in
    let read : texts_read d new ≡ after = one.read told ∙ ap (λ (t : List (List ℕ)). t ++ one.text ∷ []) (follows.read told) in
    let these : AreFronts after (files_in d old) =
    subst (λ (i : Image). AreFronts after (warc_files i)) rests.read
    (subst (λ (t : List (List ℕ)). AreFronts t (files_in d new)) read (begin (position_of new) (files_in d new) (in_place.stands told).lies)) in (
      refl,
      (λ x sound stands. dead (files_in d old) these x tt sound stands),
      record {
        book = book_of g.held;
        texts = follows.texts;
        read = read_from d old g follows was begin none told;
        cause = inr (inl (record {
          namespace = namespace;
          born = born;
          text = one.text;
          file_is = one.number ∙ follows.volumes;
          place_is = refl;
          info = info;
          stands = these;
          none = dead;
        }));
      },
    )

-- where a group is refused
pub damage_of_group : {D : Type 0} (d : Ghosts D) (old new : Scanning D) (g : Gathered) (follows : Follows d old g) → IsInPlace d old → IsInPlace d new
    → FilesBeginWithWhatWasRead → DamagedFilesStandForNoBook → IsTrue d.tells → Rests d (disk_of old) (disk_of new)
    → (place : Place) (group : GroupFound) (on : GoesOnWith d old new place group)
    → IsGroup (book_of g.held).namespace (length (captures (book_of g.held))) on.text group
    → IsDeadEnd None (with_more follows.texts on.text) → IsDamageIn (files_in d old) (faults.Damaged Warc place.volume place.at)
damage_of_group d old new g follows was in_place begin none told rests place group on of dead =
    let after : List (List ℕ) = with_more follows.texts on.text in
    let read : texts_read d new ≡ after = on.read told ∙ ap (λ (t : List (List ℕ)). with_more t on.text) (follows.read told) in
    let here : place.volume + 1 ≡ length follows.texts = omega (arith, on.volume, follows.volumes) in
    let these : AreFronts after (files_in d old) =
    subst (λ (i : Image). AreFronts after (warc_files i)) rests.read
    (subst (λ (t : List (List ℕ)). AreFronts t (files_in d new)) read (begin (position_of new) (files_in d new) (in_place.stands told).lies)) in (
      refl,
      (λ x sound stands. dead (files_in d old) these x tt sound stands),
      record {
        book = book_of g.held;
        texts = follows.texts;
        read = read_from d old g follows was begin none told;
        cause = inr (inr (record {
          text = on.text;
          group = group;
          file_is = here;
          place_is = on.at ∙ follows.ends place.volume here;
          is = of;
          stands = these;
          none = dead;
        }));
      },
    )

-- two calls that only read, one after the other
pub rests_on : {D : Type 0} (d : Ghosts D) (old mid new : D) → Rests d old mid → Rests d mid new → Rests d old new
rests_on d old mid new first second = record {
  read = second.read ∙ first.read;
  crash = λ image left. first.crash image (second.crash image left);
  leaves = joined d.moment d.images_since old mid new (λ image. ⊥) first.leaves second.leaves;
}
