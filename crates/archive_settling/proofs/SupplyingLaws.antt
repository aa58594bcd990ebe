-- The checkpoints of volumes, written one behind the other: what that leaves on a disk.
use Rattle.std.proofs.Common.{◌≡◌, ◌≢◌, ◌⊎◌, ℕ, zero, suc, ◌+◌, ◌<◌, ◌≤◌, Bool, true, false, IsTrue, List, length, Result, Ok, Err, refl, sym, ap, subst, ◌∙◌, inl, inr, ⊎_elim, arith}
use Rattle.std.proofs.lemmas.Bool.{cases_order}
use Rattle.capture.specs.declared.book.Book.{Book}
use Rattle.capture.specs.Tails.{IsRest}
use Rattle.disk_model.specs.Crash.{Leaves}
use Rattle.disk_model.specs.Image.{Image, file_count}
use Rattle.disk_model.proofs.MomentLaws.{joined, none_added, now_has, weakened}
use Rattle.disk_model.specs.declared.disk.Disk.{Ghosts}
use Rattle.disk_model.specs.declared.kind.Kind.TheVariants.{Cdxj}
use Rattle.warc_journal.specs.Extents.{warc_files}
use Rattle.warc_journal.specs.Journals.{Rests}
use Rattle.cdxj_line.specs.declared.line.Line.{Line}
use Rattle.checkpoint.specs.Checkpoints.{IsCheckpoint, checkpoint_of}
use Rattle.checkpoint.specs.OfVolume.{VolumesHaveOneListOfLines}
use Rattle.checkpoint.specs.Putting.{HasPut, HoldsCheckpoint, IsBeside, IsWrittenFrom, Puts, commit_byte}
use Rattle.checkpoint.specs.declared.fault.CheckpointFault.{CheckpointFault}
use Rattle.checkpoint.specs.declared.fault.CheckpointFault.TheVariants as checkpoints
use Rattle.archive_volumes.proofs.ChangeLaws.{DiskLaws}
use Rattle.archive_settling.proofs.FinishedLaws.{has_still}
use Rattle.archive_settling.proofs.MissingLaws.{is_there}
use Rattle.archive_settling.specs.Finished.{FirstAreFinished, HasCheckpoint}
use Rattle.archive_settling.specs.Settling.{GoesWith, HasWithout, IsMissing, LeavesCheckpoints, Shelved, StaysFinished, Supplies, WritesMissing}
use Rattle.archive_settling.specs.Supplying.{GoesTo, Stopped, Went, AreLinesFrom, HasSupplied, IsAsBefore}

-- ---- checkpoints that go with those from before

pub goes_itself : (shelved : Shelved) (upto : ℕ) (first image : Image) → GoesWith shelved upto first image image
goes_itself shelved upto first image = record { warc = refl; each = λ k. inl refl; no_fewer = omega arith; no_more = inl refl }

-- more volumes may have been gone through
goes_wider : (shelved : Shelved) (upto more : ℕ) (first before image : Image) → upto ≤ more
    → GoesWith shelved upto first before image → GoesWith shelved more first before image
goes_wider shelved upto more first before image le goes = record {
  warc = goes.warc;
  each = λ k. ⊎_elim (λ e. inl e) (λ s. inr (omega (arith, le, s.0), s.1, s.2, s.3)) (goes.each k);
  no_fewer = goes.no_fewer;
  no_more = goes.no_more;
}

supplied_wider : (shelved : Shelved) (upto more : ℕ) (first : Image) (images : Image → Type 0) (image : Image) → upto ≤ more
    → HasSupplied shelved upto first images image → HasSupplied shelved more first images image
supplied_wider shelved upto more first images image le has =
    (has.0, has.1, goes_wider shelved upto more first has.0 image le has.2)

count_rises : (k m i : ℕ) → (i ≡ m) ⊎ ((m ≡ k) × (i ≡ k + 1)) → m ≤ i
count_rises k m i (inl e) = omega (arith, e)
count_rises k m i (inr e) = omega (arith, e.0, e.1)

module _ (shelved : Shelved) (upto : ℕ) (first : Image) (k : ℕ) (lines : List Line)
    (is : IsMissing shelved first k lines) (within : k < upto) where
  -- what stands in the file of a volume, as it was or as it is supplied
  abbrev Stands : Image → Image → ℕ → Type 0
  Stands before image j = (checkpoint_of image j ≡ checkpoint_of before j)
      ⊎ ((j < upto) × (own : List Line) × IsMissing shelved first j own
      × (IsRest commit_byte (checkpoint_of image j) ⊎ IsCheckpoint j own (checkpoint_of image j)))

  other_put : (before mid image : Image) (j : ℕ) → checkpoint_of image j ≡ checkpoint_of mid j → Stands before mid j → Stands before image j
  other_put before mid image j same was = ⊎_elim
      (λ e. inl (same ∙ e))
      (λ s. inr (s.0, s.1, s.2, subst (λ (bytes : List ℕ). IsRest commit_byte bytes ⊎ IsCheckpoint j s.1 bytes) (sym same) s.3))
      was

  own_put : (before mid image : Image) → IsWrittenFrom k lines mid image → Stands before mid k → Stands before image k
  own_put before mid image (inl same) was = other_put before mid image k same was
  own_put before mid image (inr (inl rest)) was = inr (within, lines, is, inl rest)
  own_put before mid image (inr (inr done)) was = inr (within, lines, is, inr done)

  apart_below : (j : ℕ) → j < k → j ≢ k
  apart_below j less same = omega (arith, less, same)

  apart_above : (j : ℕ) → k < j → j ≢ k
  apart_above j more same = omega (arith, more, same)

  counted_more : (b m i : ℕ) → (i ≡ m) ⊎ ((m ≡ k) × (i ≡ k + 1)) → (m ≡ b) ⊎ (m < length shelved.book.volumes) → (i ≡ b) ⊎ (i < length shelved.book.volumes)
  counted_more b m i (inl e) (inl f) = inl (e ∙ f)
  counted_more b m i (inl e) (inr l) = inr (omega (arith, e, l))
  counted_more b m i (inr e) was = inr (omega (arith, e.1, is.sealed))

  goes_put : (before mid image : Image) → IsBeside k mid image → IsWrittenFrom k lines mid image → GoesWith shelved upto first before mid
      → GoesWith shelved upto first before image
  goes_put before mid image beside own goes = record {
    warc = beside.warc ∙ goes.warc;
    each = λ j. each j (cases_order j k);
    no_fewer = omega (arith, goes.no_fewer, count_rises k (file_count mid Cdxj) (file_count image Cdxj) beside.count);
    no_more = counted_more (file_count before Cdxj) (file_count mid Cdxj) (file_count image Cdxj) beside.count goes.no_more;
  }
    where
      each : (j : ℕ) → (j ≡ k) ⊎ ((j < k) ⊎ (k < j)) → Stands before image j
      each j (inl same) = subst (Stands before image) (sym same) (own_put before mid image own (goes.each k))
      each j (inr (inl less)) = other_put before mid image j (beside.others j (apart_below j less)) (goes.each j)
      each j (inr (inr more)) = other_put before mid image j (beside.others j (apart_above j more)) (goes.each j)

  supplied_put : (images mids : Image → Type 0) → ((mid : Image) → mids mid → HasSupplied shelved upto first images mid) → (image : Image)
      → HasPut k lines mids image → HasSupplied shelved upto first images image
  supplied_put images mids so_far image has =
      let before = so_far has.before has.was in
      (before.0, before.1, goes_put before.0 has.before image has.beside has.own before.2)

-- ---- how many were missing

without_more : (P : ℕ → Type 0) (k n : ℕ) → P k → HasWithout P k n → HasWithout P (suc k) n
without_more P k zero has so_far = (has, so_far)
without_more P k (suc n) has so_far = inl (has, so_far)

one_more : (k : ℕ) → suc k ≡ k + 1
one_more k = omega arith

pub counts_one : (P : ℕ → Type 0) (k n : ℕ) → P k → HasWithout P k n → HasWithout P (k + 1) n
counts_one P k n has so_far = subst (λ (m : ℕ). HasWithout P m n) (one_more k) (without_more P k n has so_far)

pub misses_one : (P : ℕ → Type 0) (k n : ℕ) → (P k → ⊥) → HasWithout P k n → HasWithout P (k + 1) (n + 1)
misses_one P k n hasnt so_far =
    subst (λ (m : ℕ). HasWithout P m (n + 1)) (one_more k) (subst (HasWithout P (suc k)) (one_more n) (inr (hasnt, so_far)))

-- what has P has Q, and the other way round
counts_so : (P Q : ℕ → Type 0) (k n : ℕ) → ((j : ℕ) → j < k → P j → Q j) → ((j : ℕ) → j < k → Q j → P j) → HasWithout P k n → HasWithout Q k n
counts_so P Q zero n to back has = has
counts_so P Q (suc k) zero to back has =
    (to k (omega arith) has.0, counts_so P Q k zero (λ j l. to j (omega (arith, l))) (λ j l. back j (omega (arith, l))) has.1)
counts_so P Q (suc k) (suc n) to back has = ⊎_elim
    (λ own. inl (to k (omega arith) own.0, counts_so P Q k (suc n) (λ j l. to j (omega (arith, l))) (λ j l. back j (omega (arith, l))) own.1))
    (λ other. inr (λ q. other.0 (back k (omega arith) q), counts_so P Q k n (λ j l. to j (omega (arith, l))) (λ j l. back j (omega (arith, l))) other.1))
    has

-- where all have P, none hasn't
none_without : (P : ℕ → Type 0) (k : ℕ) → ((j : ℕ) → j < k → P j) → HasWithout P k 0
none_without P zero all = refl
none_without P (suc k) all = (all k (omega arith), none_without P k (λ j less. all j (omega (arith, less))))

-- where the first checkpoints are finished, their files are there
all_there : (book : Book) (image : Image) (k : ℕ) → FirstAreFinished book k image → k ≤ file_count image Cdxj
all_there book image zero first = omega arith
all_there book image (suc k) first = omega (arith, (first k (omega arith)).holds.there)

-- where the book is told, it had no finished checkpoint of its lines
missing_in_book : (shelved : Shelved) (first : Image) (k : ℕ) (lines : List Line) → VolumesHaveOneListOfLines → IsTrue shelved.told
    → IsMissing shelved first k lines → HasCheckpoint shelved.book k first → ⊥
missing_in_book shelved first k lines one so is has = is.missing
    (subst (λ (all : List Line). IsCheckpoint k all (checkpoint_of first k)) (one shelved.book k has.lines lines has.are (is.are so)) has.holds.finished)

-- ---- on a disk

module _ {D : Type 0} (d : Ghosts D) (laws : DiskLaws d) (tells : IsTrue d.tells) where
  rests_none : (at : D) → Rests d at at
  rests_none at = record { read = refl; crash = λ image now. now; leaves = none_added d.moment d.images_since at (λ image. ⊥) }

  rests_then : (old mid new : D) → Rests d old mid → Rests d mid new → Rests d old new
  rests_then old mid new run next = record {
    read = next.read ∙ run.read;
    crash = λ image now. run.crash image (next.crash image now);
    leaves = joined d.moment d.images_since old mid new (λ image. ⊥) run.leaves next.leaves;
  }

  put_images : (volume : ℕ) (lines : List Line) (old new : D) → Puts d volume lines old new → (image : Image) → d.images new image
      → d.images old image ⊎ HasPut volume lines (d.images old) image
  put_images volume lines old new puts image now =
      now_has d.moment d.images_since old new (d.images old) (HasPut volume lines (d.images old)) (d.images new)
      (λ i left. laws.now_counts new (d.moment old) i puts.leaves.later left) (laws.now_only old) puts.leaves image now

  module _ (shelved : Shelved) (from : D) where
    abbrev Supplied : ℕ → Image → Type 0
    Supplied upto = HasSupplied shelved upto (d.reading from) (d.images from)

    -- what a read gives of a checkpoint: what it gave, or it was missing
    abbrev Reads : ℕ → D → ℕ → Type 0
    Reads upto new j = (checkpoint_of (d.reading new) j ≡ checkpoint_of (d.reading from) j)
        ⊎ ((j < upto) × (lines : List Line) × IsMissing shelved (d.reading from) j lines)

    left_wider : (upto more : ℕ) (now : D) → upto ≤ more → LeavesCheckpoints d shelved upto from now
        → LeavesCheckpoints d shelved more from now
    left_wider upto more now le left = record {
      warc = left.warc;
      reading = λ k. ⊎_elim (λ e. inl e) (λ m. inr (omega (arith, le, m.0), m.1, m.2)) (left.reading k);
      leaves = weakened d.moment d.images_since from now (Supplied upto) (Supplied more)
          (λ image has. supplied_wider shelved upto more (d.reading from) (d.images from) image le has) left.leaves;
      images = λ image now. supplied_wider shelved upto more (d.reading from) (d.images from) image le (left.images image now);
    }

    left_still : (upto : ℕ) (mid new : D) → Rests d mid new → LeavesCheckpoints d shelved upto from mid
        → LeavesCheckpoints d shelved upto from new
    left_still upto mid new rests left = record {
      warc = ap warc_files rests.read ∙ left.warc;
      reading = λ k. ⊎_elim
          (λ e. inl (ap (λ (i : Image). checkpoint_of i k) rests.read ∙ e))
          (λ m. inr m)
          (left.reading k);
      leaves = joined d.moment d.images_since from mid new (Supplied upto) left.leaves
          (weakened d.moment d.images_since mid new (λ image. ⊥) (Supplied upto) (λ image none. absurd none) rests.leaves);
      images = λ image now. left.images image (rests.crash image now);
    }

    left_put : (upto k : ℕ) (lines : List Line) (mid new : D) → IsMissing shelved (d.reading from) k lines → k < upto → Puts d k lines mid new
        → LeavesCheckpoints d shelved upto from mid → LeavesCheckpoints d shelved upto from new
    left_put upto k lines mid new is within puts left = record {
      warc = puts.reading.warc ∙ left.warc;
      reading = λ j. read j (cases_order j k);
      leaves = joined d.moment d.images_since from mid new (Supplied upto) left.leaves
          (weakened d.moment d.images_since mid new (HasPut k lines (d.images mid)) (Supplied upto) put puts.leaves);
      images = λ image now. ⊎_elim (left.images image) (put image) (put_images k lines mid new puts image now);
    }
      where
        put : (image : Image) → HasPut k lines (d.images mid) image → Supplied upto image
        put = supplied_put shelved upto (d.reading from) k lines is within (d.images from) (d.images mid) left.images

        apart : (j : ℕ) → j ≢ k → Reads upto new j
        apart j other = ⊎_elim (λ e. inl (puts.reading.others j other ∙ e)) (λ m. inr m) (left.reading j)

        read : (j : ℕ) → (j ≡ k) ⊎ ((j < k) ⊎ (k < j)) → Reads upto new j
        read j (inl same) = subst (Reads upto new) (sym same) (inr (within, lines, is))
        read j (inr (inl less)) = apart j (λ e. omega (arith, less, e))
        read j (inr (inr more)) = apart j (λ e. omega (arith, more, e))

    -- ---- one volume

    -- those that are as they were stay so
    wrote_still : (k n : ℕ) (mid new : D) → d.reading new ≡ d.reading mid → HasWithout (IsAsBefore (d.reading from) (d.reading mid)) k n
        → HasWithout (IsAsBefore (d.reading from) (d.reading new)) k n
    wrote_still k n mid new same = subst (λ (i : Image). HasWithout (IsAsBefore (d.reading from) i) k n) (sym same)

    pub went_still : (k n : ℕ) (mid new : D) → Rests d mid new → Went d shelved k n from mid → Went d shelved k n from new
    went_still k n mid new rests went = record {
      left = left_still k mid new rests went.left;
      ahead = λ j le. ap (λ (i : Image). checkpoint_of i j) rests.read ∙ went.ahead j le;
      settled = λ so image now. went.settled so image (rests.crash image now);
      there = λ so. omega (arith, went.there so, ap (λ (i : Image). file_count i Cdxj) rests.read);
      counted = went.counted;
      wrote = wrote_still k n mid new rests.read went.wrote;
      none = λ zero_is. rests_then from mid new (went.none zero_is) rests;
    }

    -- nothing is known of the book, so no more has to be said than that it is as it was
    pub went_past : (k n : ℕ) (mid : D) → (IsTrue shelved.told → ⊥) → Went d shelved k n from mid → Went d shelved (k + 1) n from mid
    went_past k n mid untold went = record {
      left = left_wider k (k + 1) mid (omega arith) went.left;
      ahead = λ j le. went.ahead j (omega (arith, le));
      settled = λ so. absurd (untold so);
      there = λ so. absurd (untold so);
      counted = λ so. absurd (untold so);
      wrote = counts_one (IsAsBefore (d.reading from) (d.reading mid)) k n (went.ahead k (omega arith)) went.wrote;
      none = went.none;
    }

    -- refused before anything was written
    stopped_at : (k n : ℕ) (fault : CheckpointFault) (now : D) → Went d shelved k n from now → Stopped d shelved k fault from now
    stopped_at k n checkpoints.DiskFault now went = record { left = left_wider k (k + 1) now (omega arith) went.left; settled = went.settled }
    stopped_at k n checkpoints.Memory now went = record { left = went.left; settled = went.settled }

    below_or_at : (j k : ℕ) → j < k + 1 → (j < k) ⊎ (j ≡ k)
    below_or_at j k less = ⊎_elim (λ e. inr e) (λ other. inl (⊎_elim (λ l. l) (λ m. absurd (omega (arith, less, m))) other)) (cases_order j k)

    module _ (k n : ℕ) (lines : List Line) (mid new : D) (own : AreLinesFrom shelved k lines) (went : Went d shelved k n from mid) where
      -- it was finished
      pub went_kept : Rests d mid new → (k ≤ file_count (d.reading mid) Cdxj → StaysFinished d k lines mid new) → Went d shelved (k + 1) n from new
      went_kept rests stays =
          let so_far = went_still k n mid new rests went in
          record {
            left = left_wider k (k + 1) new (omega arith) so_far.left;
            ahead = λ j le. so_far.ahead j (omega (arith, le));
            settled = λ so image now j less. ⊎_elim
                (λ l. so_far.settled so image now j l)
                (λ e. subst (λ (m : ℕ). HasCheckpoint shelved.book m image) (sym e)
                (record { lines = lines; holds = (stays (went.there so)).is image now; are = own.are so }))
                (below_or_at j k less);
            there = λ so. omega (arith, (stays (went.there so)).was.there, ap (λ (i : Image). file_count i Cdxj) rests.read);
            counted = λ so. counts_one (λ j. HasCheckpoint shelved.book j (d.reading from)) k n
                (record {
                  lines = lines;
                  holds = record {
                    there = first_there (stays (went.there so)).was;
                    finished = subst (λ (bytes : List ℕ). IsCheckpoint k lines bytes) (went.ahead k (omega arith)) (stays (went.there so)).was.finished;
                  };
                  are = own.are so;
                })
                (went.counted so);
            wrote = counts_one (IsAsBefore (d.reading from) (d.reading new)) k n (so_far.ahead k (omega arith)) so_far.wrote;
            none = so_far.none;
          }
        where
          first_there : HoldsCheckpoint k lines (d.reading mid) → k < file_count (d.reading from) Cdxj
          first_there was = is_there k lines (d.reading from)
              (subst (λ (bytes : List ℕ). IsCheckpoint k lines bytes) (went.ahead k (omega arith)) was.finished)

      module _ (one : VolumesHaveOneListOfLines) (sealed : k + 1 < length shelved.book.volumes) (writes : WritesMissing d k lines mid new) where
        missed : IsMissing shelved (d.reading from) k lines
        missed = record {
          sealed = sealed;
          of = own.of;
          placed = own.placed;
          kept = own.kept;
          are = own.are;
          missing = λ was. writes.missing (subst (λ (bytes : List ℕ). IsCheckpoint k lines bytes) (sym (went.ahead k (omega arith))) was);
        }

        -- it was written, or that was refused
        left_writes : LeavesCheckpoints d shelved (k + 1) from new
        left_writes = left_put (k + 1) k lines mid new missed (omega arith) writes.puts (left_wider k (k + 1) mid (omega arith) went.left)

        -- those before it stay finished
        first_put : IsTrue shelved.told → Leaves (d.images new) (FirstAreFinished shelved.book k)
        first_put so image now j less = ⊎_elim
            (λ was. went.settled so image was j less)
            (λ has. has_still shelved.book j has.before image (has.beside.others j (λ e. omega (arith, less, e)))
            (count_rises k (file_count has.before Cdxj) (file_count image Cdxj) has.beside.count)
            (went.settled so has.before has.was j less))
            (put_images k lines mid new writes.puts image now)

        pub stopped_writes : Stopped d shelved k checkpoints.DiskFault from new
        stopped_writes = record { left = left_writes; settled = first_put }

        -- those before it are as they were where they were so
        wrote_put : HasWithout (IsAsBefore (d.reading from) (d.reading mid)) k n → HasWithout (IsAsBefore (d.reading from) (d.reading new)) k n
        wrote_put = counts_so (IsAsBefore (d.reading from) (d.reading mid)) (IsAsBefore (d.reading from) (d.reading new)) k n
            (λ j less e. writes.puts.reading.others j (λ s. omega (arith, less, s)) ∙ e)
            (λ j less e. sym (writes.puts.reading.others j (λ s. omega (arith, less, s))) ∙ e)

        pub went_written : Leaves (d.images new) (HoldsCheckpoint k lines) → d.images new (d.reading new) → Went d shelved (k + 1) (n + 1) from new
        went_written only read = record {
          left = left_writes;
          ahead = λ j le. writes.puts.reading.others j (λ e. omega (arith, le, e)) ∙ went.ahead j (omega (arith, le));
          settled = λ so image now j less. ⊎_elim
              (first_put so image now j)
              (λ e. subst (λ (m : ℕ). HasCheckpoint shelved.book m image) (sym e) (record { lines = lines; holds = only image now; are = own.are so }))
              (below_or_at j k less);
          there = λ so. omega (arith, (only (d.reading new) read).there);
          counted = λ so. misses_one (λ j. HasCheckpoint shelved.book j (d.reading from)) k n
              (missing_in_book shelved (d.reading from) k lines one so missed) (went.counted so);
          wrote = misses_one (IsAsBefore (d.reading from) (d.reading new)) k n
              (λ same. missed.missing (subst (λ (bytes : List ℕ). IsCheckpoint k lines bytes) same (only (d.reading new) read).finished)) (wrote_put went.wrote);
          none = λ zero_is. absurd (omega (arith, zero_is));
        }

    -- a volume more, by what was done of its checkpoint
    pub goes_supplied : (k n : ℕ) (lines : List Line) (mid new : D) (result : Result Bool CheckpointFault) → VolumesHaveOneListOfLines
        → k + 1 < length shelved.book.volumes → AreLinesFrom shelved k lines → d.images new (d.reading new) → Went d shelved k n from mid
        → Supplies d k lines mid new result → GoesTo d shelved k n from new result
    goes_supplied k n lines mid new (Ok true) one sealed own read went supplied =
        went_written k n lines mid new own went one sealed supplied.0 supplied.1 read
    goes_supplied k n lines mid new (Ok false) one sealed own read went supplied = went_kept k n lines mid new own went supplied.0 supplied.1
    goes_supplied k n lines mid new (Err checkpoints.DiskFault) one sealed own read went supplied = ⊎_elim
        (λ rests. stopped_at k n checkpoints.DiskFault new (went_still k n mid new rests went))
        (λ writes. stopped_writes k n lines mid new own went one sealed writes)
        supplied
    goes_supplied k n lines mid new (Err checkpoints.Memory) one sealed own read went supplied =
        stopped_at k n checkpoints.Memory new (went_still k n mid new supplied went)

    -- refused before anything was written
    pub goes_refused : (k n : ℕ) (mid new : D) (fault : CheckpointFault) → Rests d mid new → Went d shelved k n from mid
        → GoesTo d shelved k n from new (Err fault)
    goes_refused k n mid new fault rests went = stopped_at k n fault new (went_still k n mid new rests went)

  -- at first those were gone through that are known to be finished
  pub went_none : (shelved : Shelved) (k : ℕ) (from : D) → d.images from (d.reading from)
      → (IsTrue shelved.told → Leaves (d.images from) (FirstAreFinished shelved.book k)) → Went d shelved k 0 from from
  went_none shelved k from read first = record {
    left = record {
      warc = refl;
      reading = λ j. inl refl;
      leaves = none_added d.moment d.images_since from (HasSupplied shelved k (d.reading from) (d.images from));
      images = λ image now. (image, now, goes_itself shelved k (d.reading from) image);
    };
    ahead = λ j le. refl;
    settled = first;
    there = λ so. all_there shelved.book (d.reading from) k (first so (d.reading from) read);
    counted = λ so. none_without (λ j. HasCheckpoint shelved.book j (d.reading from)) k (first so (d.reading from) read);
    wrote = none_without (IsAsBefore (d.reading from) (d.reading from)) k (λ j less. refl);
    none = λ zero_is. rests_none from;
  }
