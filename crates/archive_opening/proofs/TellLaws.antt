-- What was gathered goes with the scan, where checkpoints are used: after each step, and where it is refused.
use Rattle.std.proofs.Common.{◌≡◌, ◌≢◌, ℕ, ◌+◌, ◌-◌, ◌^◌, ◌<◌, ◌≤◌, Bool, IsTrue, List, [], ◌∷◌, ◌++◌, length, get_or, take, refl, sym, ap, subst, ◌∙◌, arith, length-append}
use Rattle.std.specs.Prelude.{IfNone, IfSome, Option, Some, None}
use Rattle.std.proofs.lemmas.List.{length-set, length-take-le}
use Rattle.std.proofs.Common.{get_or-set_same, true}
use Rattle.std.proofs.lemmas.Bool.{false≢true}
use Rattle.std.proofs.lemmas.List.Elements.{All-push}
use Rattle.capture.specs.Captures.{captures}
use Rattle.capture.specs.declared.book.Book.{Book}
use Rattle.disk_model.specs.Image.{Image}
use Rattle.disk_model.specs.declared.disk.Disk.{Ghosts}
use Rattle.volume_scan.specs.Books.{AreFronts, BeginsWith, DamageBehindSkippedIsOfNoBook, DamagedFilesStandForNoBook, FilesBeginWithWhatWasRead}
use Rattle.volume_scan.specs.Damage.{IsDamagedAt}
use Rattle.volume_scan.specs.Scannings.{BeginsOne, Ends, Finds, GoesOnWith, IsInPlace, captures_of, disk_of, file_count, files_in, position_of, texts as texts_read}
use Rattle.volume_scan.specs.declared.found.Found.{Found}
use Rattle.volume_scan.specs.declared.found.Found.TheVariants.{Info, Group, End}
use Rattle.volume_scan.specs.declared.position.Position.{Position}
use Rattle.volume_scan.specs.declared.position.Stage.{Stage}
use Rattle.volume_scan.specs.declared.position.Stage.TheVariants as stages
use Rattle.volume_scan.specs.declared.scanning.Scanning.{Scanning}
use Rattle.warc_journal.specs.Extents.{texts_in, warc_files}
use Rattle.warc_journal.specs.Journals.{Rests}
use Rattle.warc_journal.specs.Texts.{Hold, with_more}
use Rattle.warc_journal.specs.declared.extent.Extent.{Extent}
use Rattle.warc_journal.specs.declared.place.Place.{Place}
use Rattle.warc_scan.specs.Groups.{IsGroup}
use Rattle.record_opening.specs.Infos.{IsInfo}
use Rattle.warc_scan.specs.declared.group.Group.{Group as GroupFound}
use Rattle.archive_shelf.proofs.ShortTexts.{short_info}
use Rattle.archive_shelf.specs.declared.fault.ReopenFault.{ReopenFault}
use Rattle.archive_shelf.specs.declared.fault.ReopenFault.TheVariants as faults
use Rattle.archive_volumes.proofs.SpotLaws.{within_stay, within_with}
use Rattle.archive_volumes.specs.Held.{book_of}
use Rattle.archive_volumes.specs.Spots.{AreWithin, HasPlace, is_told_form}
use Rattle.archive_volumes.specs.declared.spot.Spot.{Spot}
use Rattle.archive_gathering.proofs.BeginLaws.{go_on_push}
use Rattle.archive_gathering.proofs.FrontLaws.{last_with_more}
use Rattle.archive_gathering.proofs.SpottedLaws.{go_on_more}
use Rattle.archive_gathering.specs.Gathering.{Gathers, HasBegun, HasTaken, IsGathered, IsRefused, IsSteady, MayStand, StandsBehind}
use Rattle.archive_gathering.specs.Noting.{IsGroupAt}
use Rattle.archive_opening.specs.Opening.{IsOutside}
use Rattle.archive_opening.specs.Telling.{AreReadOrTold, GoesWith, HasAllOf, IsOfLine, IsSmall, IsSettledFor, IsTold, OpensAt, StepsOn, step_of}
use Rattle.archive_gathering.specs.Shapes.{HasBegunOne, HasTakenOne, IsMadeUp, Shapes}
use Rattle.archive_gathering.specs.declared.gathered.Gathered.{Gathered}

-- ---- texts

pub length_texts : (extent : Extent) (files : List (List ℕ)) → extent.volumes ≤ length files → length (texts_in extent files) ≡ extent.volumes
length_texts extent files enough =
    length-set (take extent.volumes files) (extent.volumes - 1) (take extent.end (get_or files (extent.volumes - 1) []))
    ∙ length-take-le extent.volumes files enough

pub last_long : (extent : Extent) (files : List (List ℕ)) (k : ℕ) → k + 1 ≡ extent.volumes → extent.volumes ≤ length files
    → extent.end ≤ length (get_or files k []) → length (get_or (texts_in extent files) k []) ≡ extent.end
last_long extent files k is enough within =
    let at : k ≡ extent.volumes - 1 = omega (arith, is) in
    let same : get_or (texts_in extent files) k [] ≡ take extent.end (get_or files k []) =
    ap (λ (i : ℕ). get_or (texts_in extent files) i []) at
    ∙ get_or-set_same (take extent.volumes files) (extent.volumes - 1) (take extent.end (get_or files (extent.volumes - 1) [])) [] (omega (arith, is, length-take-le extent.volumes files enough))
    ∙ ap (λ (i : ℕ). take extent.end (get_or files i [])) (sym at) in
    ap length same ∙ length-take-le extent.end (get_or files k []) within

-- ---- by what is known

pub made_by : (known : Option Book) (was is : Gathered) → (IsMadeUp was → IsMadeUp is) → IfNone known (IsMadeUp was) → IfNone known (IsMadeUp is)
made_by None was is on made = on made
made_by (Some b) was is on made = tt

pub told_by : {D : Type 0} (d : Ghosts D) (known : Option Book) (old new : Scanning D) (was is : Gathered)
    → ((b : Book) → IsTold d b old was → IsTold d b new is) → IfSome known (λ b. IsTold d b old was) → IfSome known (λ b. IsTold d b new is)
told_by d None old new was is on told = tt
told_by d (Some b) old new was is on told = on b told

opened_stage : stages.Opened ≢ stages.Skipped
opened_stage e = cc

within_stage : stages.Within ≢ stages.Skipped
within_stage e = cc

done_stage : stages.Done ≢ stages.Skipped
done_stage e = cc

pub settled_on : {D : Type 0} (d : Ghosts D) (old new : D) (b : Book) → Rests d old new → IsSettledFor (d.reading old) b → IsSettledFor (d.reading new) b
settled_on d old new b rests settled = subst (λ (i : Image). IsSettledFor i b) (sym rests.read) settled

module _ {D : Type 0} (d : Ghosts D) (known : Option Book) (old new : Scanning D) (was is : Gathered) (goes : GoesWith d known old was)
    (was_in : IsInPlace d old) (in_place : IsInPlace d new) (rests : IsTrue d.tells → Rests d (disk_of old) (disk_of new)) where
  abbrev texts : List (List ℕ)
  texts = texts_read d old

  pub count_texts : IsTrue d.tells → length texts ≡ (position_of old).extent.volumes
  count_texts tells = length_texts (position_of old).extent (files_in d old) (was_in.stands tells).lies.enough

  -- nothing was written
  lined_still : IsTrue d.tells → AreReadOrTold (d.reading (disk_of new)) was.spots.items
  lined_still tells = subst (λ (i : Image). AreReadOrTold i was.spots.items) (sym (rests tells).read) (goes.lined tells)

  end_is : IsTrue d.tells → (k : ℕ) → k + 1 ≡ (position_of old).extent.volumes → length (get_or texts k []) ≡ (position_of old).extent.end
  end_is tells k is =
      let lies = (was_in.stands tells).lies in
      last_long (position_of old).extent (files_in d old) k is lies.enough (lies.within k is)

  pub group_found : (place : Place) (group : GroupFound) (on : GoesOnWith d old new place group) (b : Book) → IsTold d b old was
      → IsGroupAt (book_of was.held) texts on.text place group
  group_found place group on b told = record {
    some = omega (arith, on.volume, count_texts told.tells);
    is = subst (λ (n : List ℕ). IsGroup n (length (captures (book_of was.held))) on.text group) (goes.namespace (omega (arith, on.volume, goes.volumes)))
        (subst (λ (n : ℕ). IsGroup (position_of old).namespace n on.text group) goes.count on.is);
    volume = on.volume ∙ sym (count_texts told.tells);
    at = omega (arith, on.at, end_is told.tells (length texts - 1) (omega (arith, on.volume, count_texts told.tells)));
    len = on.len;
  }

  -- ---- a volume

  module _ (volume : ℕ) (namespace : List ℕ) (born : ℕ) (one : BeginsOne d old new volume namespace born) (begun : HasBegunOne was is namespace) (small : volume < 2 ^ 32)
      (gathers : (b : Book) (ts : List (List ℕ)) → IsGathered (Some b) was ts → (text : List ℕ) → volume ≡ length ts
      → IsInfo volume text namespace born (length text) → HasBegun (Some b) was is ts text namespace) where
    place : (position_of new).extent.volumes ≡ volume + 1
    place = ap (λ (p : Position). p.extent.volumes) one.position

    end_info : (position_of new).extent.end ≤ 512
    end_info = omega (arith, ap (λ (p : Position). p.extent.end) one.position, ap length one.is.composed, short_info namespace volume born small)

    pub goes_info : GoesWith d known new is
    goes_info = record {
      volumes = omega (arith, place, one.number, goes.volumes, begun.volumes);
      none = λ none. absurd (omega (arith, none, place));
      count = ap (λ (p : Position). p.captures) one.position ∙ goes.count ∙ ap length (sym begun.captures_are);
      namespace = λ some. ap (λ (p : Position). p.namespace) one.position ∙ sym begun.namespace_is;
      filled = begun.filled goes.filled;
      begins = λ k v last at empty. end_info;
      within = λ tells.
          subst (AreWithin (texts_read d new)) (sym begun.spots)
          (subst (λ (t : List (List ℕ)). AreWithin t was.spots.items) (sym (one.read tells))
          (within_stay texts (texts ++ one.text ∷ []) (go_on_push texts one.text) was.spots.items (goes.within tells)));
      lined = λ tells. subst (AreReadOrTold (d.reading (disk_of new))) (sym begun.spots) (lined_still tells);
      numbered = begun.numbered goes.numbered;
      requested = begun.requested goes.requested;
      made = made_by known was is begun.made goes.made;
      told = told_by d known old new was is (λ b told. record {
        tells = told.tells;
        settled = settled_on d (disk_of old) (disk_of new) b (rests told.tells) told.settled;
        gathered = subst (IsGathered (Some b) is) (sym (one.read told.tells))
            (gathers b texts told.gathered one.text (one.number ∙ sym (count_texts told.tells)) one.is).gathered;
        behind = λ skipped. absurd (opened_stage (sym (ap (λ (p : Position). p.stage) one.position) ∙ skipped));
      }) goes.told;
    }

    pub opens : file_count new ≡ file_count old → OpensAt new volume
    opens files = record {
      stage = ap (λ (p : Position). p.stage) one.position;
      volume_is = sym place;
      there = omega (arith, one.there, files);
    }

  -- ---- a capture

  module _ (place : Place) (group : GroupFound) (on : GoesOnWith d old new place group) (taken : HasTakenOne was is place) (begin : FilesBeginWithWhatWasRead)
      (gathers : (b : Book) (ts : List (List ℕ)) → IsGathered (Some b) was ts → (text : List ℕ) → IsGroupAt (book_of was.held) ts text place group
      → MayStand (Some b) (with_more ts text) → HasTaken (Some b) was is ts text) where
    some : IsTrue d.tells → 0 < length texts
    some tells = omega (arith, on.volume, count_texts tells)

    now : List (List ℕ)
    now = with_more texts on.text

    in_text : IsTrue d.tells → get_or (with_more texts on.text) place.volume [] ≡ get_or texts place.volume [] ++ on.text
    in_text tells = last_with_more texts on.text place.volume (on.volume ∙ sym (count_texts tells))

    has_place : IsTrue d.tells → HasPlace (with_more texts on.text) taken.spot
    has_place tells =
        let long = length-append (get_or texts place.volume []) on.text in
        let at = end_is tells place.volume on.volume in
        let here = ap (λ (v : ℕ). length (get_or (with_more texts on.text) v [])) taken.volume_is in
        record {
          there = omega (arith, taken.volume_is, on.volume, count_texts tells, length-set texts (length texts - 1) (get_or texts (length texts - 1) [] ++ on.text));
          begins = omega (arith, taken.at_is, on.at, at, long, ap length (in_text tells), here);
          within = omega (arith, taken.within, on.at, on.len, at, long, ap length (in_text tells), here);
        }

    stand : (b : Book) → IsTold d b old was → StandsBehind b (with_more texts on.text)
    stand b told =
        let settled = settled_on d (disk_of old) (disk_of new) b (rests told.tells) told.settled in
        record {
          files = files_in d new;
          fronts = subst (λ (t : List (List ℕ)). AreFronts t (files_in d new)) (on.read told.tells)
              (begin (position_of new) (files_in d new) (in_place.stands told.tells).lies);
          sound = settled.stands.sound;
          stands = settled.stands.for;
          ids = settled.ids;
        }

    pub goes_group : GoesWith d known new is
    goes_group = record {
      volumes = ap (λ (p : Position). p.extent.volumes) on.position ∙ goes.volumes ∙ sym taken.volumes;
      none = λ none. absurd (omega (arith, none, ap (λ (p : Position). p.extent.volumes) on.position, on.volume));
      count = omega (arith, ap (λ (p : Position). p.captures) on.position, goes.count, taken.captures_are);
      namespace = λ some. ap (λ (p : Position). p.namespace) on.position ∙ goes.namespace (omega (arith, on.volume, goes.volumes)) ∙ sym taken.namespace;
      filled = taken.filled goes.filled;
      begins = λ k v last at empty. absurd (taken.last k v last at empty);
      within = λ tells.
          subst (AreWithin (texts_read d new)) (sym taken.spots)
          (subst (λ (t : List (List ℕ)). AreWithin t (was.spots.items ++ taken.spot ∷ [])) (sym (on.read tells))
          (within_with texts (with_more texts on.text) (go_on_more texts on.text (some tells)) was.spots.items taken.spot (goes.within tells) (has_place tells)));
      lined = λ tells.
          subst (AreReadOrTold (d.reading (disk_of new))) (sym taken.spots)
          (All-push (λ (x : Spot). is_told_form x.form ≡ true → IsOfLine (d.reading (disk_of new)) x) was.spots.items taken.spot (lined_still tells)
          (λ told. absurd (false≢true (sym taken.read ∙ told))));
      numbered = taken.numbered goes.numbered;
      requested = taken.requested goes.requested;
      made = made_by known was is (taken.made (on.volume ∙ goes.volumes)) goes.made;
      told = told_by d known old new was is (λ b told. record {
        tells = told.tells;
        settled = settled_on d (disk_of old) (disk_of new) b (rests told.tells) told.settled;
        gathered = subst (IsGathered (Some b) is) (sym (on.read told.tells))
            (gathers b texts told.gathered on.text (group_found place group on b told) (stand b told)).gathered;
        behind = λ skipped. absurd (within_stage (sym (ap (λ (p : Position). p.stage) on.position) ∙ skipped));
      }) goes.told;
    }

  -- ---- the end

  pub has_all_of : Ends d old new → is ≡ was → HasAllOf d known new is
  has_all_of ends same = subst (HasAllOf d known new) (sym same) (record {
    goes = record {
      volumes = ap (λ (p : Position). p.extent.volumes) ends.position ∙ goes.volumes;
      none = λ none. ap (λ (p : Position). p.extent.end) ends.position ∙ goes.none (sym (ap (λ (p : Position). p.extent.volumes) ends.position) ∙ none);
      count = ap (λ (p : Position). p.captures) ends.position ∙ goes.count;
      namespace = λ some. ap (λ (p : Position). p.namespace) ends.position ∙ goes.namespace some;
      filled = goes.filled;
      begins = λ k v last at empty. omega (arith, goes.begins k v last at empty, ap (λ (p : Position). p.extent.end) ends.position);
      within = λ tells. subst (λ (t : List (List ℕ)). AreWithin t was.spots.items) (sym (ends.read tells)) (goes.within tells);
      lined = lined_still;
      numbered = goes.numbered;
      requested = goes.requested;
      made = goes.made;
      told = told_by d known old new was was (λ b told. record {
        tells = told.tells;
        settled = settled_on d (disk_of old) (disk_of new) b (rests told.tells) told.settled;
        gathered = subst (IsGathered (Some b) was) (sym (ends.read told.tells)) told.gathered;
        behind = λ skipped. absurd (done_stage (sym (ap (λ (p : Position). p.stage) ends.position) ∙ skipped));
      }) goes.told;
    };
    held = λ tells.
        subst (λ (t : List (List ℕ)). Hold t (files_in d new)) (sym (ends.read tells))
        (subst (λ (i : Image). Hold texts (warc_files i)) (sym (rests tells).read) (ends.held tells));
  })

-- ---- damage, where a book is known: there is none

module _ {D : Type 0} (d : Ghosts D) (known : Option Book) (old : Scanning D) (was : Gathered) (goes : GoesWith d known old was) (was_in : IsInPlace d old)
    (begin : FilesBeginWithWhatWasRead) (b : Book) (told : IsTold d b old was) where
  abbrev here : List (List ℕ)
  here = files_in d old

  fronts : AreFronts (texts_read d old) here
  fronts = begin (position_of old) here (was_in.stands told.tells).lies

  so_far : BeginsWith b (texts_read d old) (book_of was.held).namespace (length (captures (book_of was.held)))
  so_far = (told.gathered.read.goes_on here b refl fronts told.settled.stands.sound told.settled.stands.for).begins

  begins : BeginsWith b (texts_in (position_of old).extent here) (position_of old).namespace (position_of old).captures
  begins = subst (λ (n : ℕ). BeginsWith b (texts_read d old) (position_of old).namespace n) (sym goes.count) (record {
    none = so_far.none;
    enough = so_far.enough;
    namespace_is = λ some. goes.namespace (omega (arith, some, told.gathered.read.are.count)) ∙ so_far.namespace_is some;
    last = so_far.last;
  })

  pub undamaged : DamagedFilesStandForNoBook → DamageBehindSkippedIsOfNoBook → (file place : ℕ) → IsDamagedAt (position_of old) here file place → ⊥
  undamaged none skipped file place damaged = by (position_of old).stage refl
    where
      at_stage : ((position_of old).stage ≢ stages.Skipped) → ⊥
      at_stage other = none (position_of old) here b file place told.settled.stands.sound told.settled.stands.for other (was_in.stands told.tells).lies.enough begins damaged

      by : (stage : Stage) → (position_of old).stage ≡ stage → ⊥
      by stages.Skipped is = skipped (position_of old) here b file place told.settled.stands.sound told.settled.stands.for is (was_in.stands told.tells).lies (told.behind is) damaged
      by stages.Opened is = at_stage (λ e. opened_stage (sym is ∙ e))
      by stages.Within is = at_stage (λ e. within_stage (sym is ∙ e))
      by stages.Done is = at_stage (λ e. done_stage (sym is ∙ e))

-- ---- a step

module _ {D : Type 0} (d : Ghosts D) (known : Option Book) (old new : Scanning D) (was is : Gathered) (goes : GoesWith d known old was)
    (was_in : IsInPlace d old) (in_place : IsInPlace d new) (rests : IsTrue d.tells → Rests d (disk_of old) (disk_of new)) (begin : FilesBeginWithWhatWasRead) where
  pub steps_by : file_count new ≡ file_count old → captures_of old < 2 ^ 32 - 1 → (found : Found) (more : Bool) → Finds d old new found → Shapes was is found more
      → IsSmall (step_of found) → ((b : Book) (ts : List (List ℕ)) → IsGathered (Some b) was ts → Gathers (Some b) was is ts found more) → IsSteady is
      → StepsOn d known old new is (step_of found)
  steps_by files few (Info volume namespace born) more one shapes small gathers steady =
      let begun = shapes.1 (one.number ∙ goes.volumes) in (
        goes_info d known old new was is goes was_in in_place rests volume namespace born one begun small (λ b ts g. (gathers b ts g).1),
        steady,
        omega (
          arith,
          ap (λ (p : Position). p.extent.volumes) one.position,
          ap (λ (p : Position). p.captures) one.position,
          one.number,
          one.there,
          files,
        ),
        opens d known old new was is goes was_in in_place rests volume namespace born one begun small (λ b ts g. (gathers b ts g).1) files,
      )
  steps_by files few (Group place read) more on shapes small gathers steady = (
    goes_group d known old new was is goes was_in in_place rests place read.group on shapes.1 begin (λ b ts g. (gathers b ts g).1),
    steady,
    omega (arith, ap (λ (p : Position). p.extent.volumes) on.position, ap (λ (p : Position). p.captures) on.position, files, few),
  )
  steps_by files few End more ends shapes small gathers steady = (
    has_all_of d known old new was is goes was_in in_place rests ends shapes.1,
    ap (λ (p : Position). p.stage) ends.position,
    steady,
  )

  -- what is found of a known book is gathered, or there is no memory
  pub outside_by : (found : Found) (fault : ReopenFault) → Finds d old new found → (b : Book) → IsTold d b old was → IsRefused (Some b) was (texts_read d old) found fault
      → IsOutside fault
  outside_by (Info volume namespace born) (faults.Damaged kind file offset) one b told refused =
      let settled = settled_on d (disk_of old) (disk_of new) b (rests told.tells) told.settled in
      let there : AreFronts (texts_read d old ++ one.text ∷ []) (files_in d new) =
      subst (λ (t : List (List ℕ)). AreFronts t (files_in d new)) (one.read told.tells) (begin (position_of new) (files_in d new) (in_place.stands told.tells).lies) in
      refused.1.2 one.text (one.number ∙ sym (count_texts d known old new was is goes was_in in_place rests told.tells)) one.is (files_in d new) there b refl settled.stands.sound settled.stands.for
  outside_by (Group at read) (faults.Damaged kind file offset) on b told refused =
      let settled = settled_on d (disk_of old) (disk_of new) b (rests told.tells) told.settled in
      let there : AreFronts (with_more (texts_read d old) on.text) (files_in d new) =
      subst (λ (t : List (List ℕ)). AreFronts t (files_in d new)) (on.read told.tells) (begin (position_of new) (files_in d new) (in_place.stands told.tells).lies) in
      refused.1.2 on.text (group_found d known old new was is goes was_in in_place rests at read.group on b told) (files_in d new) there b refl settled.stands.sound settled.stands.for
  outside_by End (faults.Damaged kind file offset) ends b told refused = refused.1
  outside_by found (faults.OtherNamespace other) finds b told refused = refused
  outside_by found faults.DiskFault finds b told refused = tt
  outside_by found faults.Memory finds b told refused = tt
