-- Laws of what a disk over a folder knows: each of its calls is what `Disk` says of it.
use Rattle.std.proofs.Common.{◌^◌, ◌≡◌, ◌≢◌, ◌⊎◌, ◌<◌, ◌≤◌, ◌+◌, ◌-◌, ℕ, zero, suc, Bool, true, false, if◌then◌else◌, Option, Some, is_some, List, [], ◌∷◌, ◌++◌, map, length, take, drop, refl, sym, ap, ◌∙◌, subst, inl, inr, ⊎_elim, true≢false, arith, append_assoc}
use Rattle.std.specs.Option.{option_map}
use Rattle.std.proofs.lemmas.Bool.{cases_lt}
use Rattle.std.proofs.lemmas.List.{length_push, drop_all, drop-append-le}
use Rattle.std.proofs.lemmas.Option.{same_Some}
use Rattle.disk_model.specs.declared.kind.Kind.{Kind}
use Rattle.disk_model.specs.declared.kind.Kind.TheVariants.{Warc, Cdxj}
use Rattle.disk_model.specs.Image.{Image, files_of, file_count, file_of, with_file, with_new, written, IsApart}
use Rattle.disk_model.specs.Crash.{Torn, Cut, OnFile, MayCreate, Follows, Stepped, Elapses}
use Rattle.disk_model.specs.steps.CrashLaws.{torn_none, torn_written}
use Rattle.disk_model.specs.steps.ImageLaws.{same_kind, file_of-with_file, with_file-with_file, with_file-file_of, file_count-with_file, file_count-with_new, file_count-with_new_kind, count_grows, same_or_apart, same_kind_or_other}
use Rattle.folder_model.specs.File.{FileDeed, Made, Wrote, Shortened, Synced, Listed, Crash, MayHold, may_lack, AreBytesSure, AreBytesLeft}
use Rattle.folder_model.specs.Folder.{Contents, Deed, Did, SyncedFolder, SyncedAround, FolderPast, did, did_to, deeds_of, contents_of, MayLeave, IsUnfailed, AreBytesLeftAt}
use Rattle.folder_model.specs.Seen.{NamesApart, IsSeen, images_of, IsNamed, IsPlaced, FolderIs}
use Rattle.folder_model.specs.Times.{Times, moment_of, IsTimed, goes_on, images_since_of}
use Rattle.folder_model.specs.Known.{bytes_or_none, reading_of, IsInDoubt, Knows}
use Rattle.folder_model.specs.DiskCalls.{WriteLeaves, CutLeaves, SyncDone, SyncsLeave, CreateDone, CreateFailed}
use Rattle.folder_model.specs.Whole.{done_to, AreWrites, WritesWithin, IsWriting, AreSyncs, MakesInPart, made_durably}
use Rattle.folder_model.specs.steps.FileLaws.{cut_begun, bytes_sure-wrote, bytes_sure-synced, bytes_sure-shortened, bytes_sure-listed, bytes_left-made, bytes_left-sure}
use Rattle.folder_model.specs.steps.FolderLaws.{deeds_of-same, deeds_of-other, names_cases}
use Rattle.folder_model.specs.steps.ReadingLaws.{image_of-count, image_of-file, folder_is-changed, folder_is-synced, folder_is-listed, folder_is-around, folder_is-made, is_named-did, is_named-other}
use Rattle.folder_model.specs.steps.SeenLaws.{file_is_durable, synced_within, cut_follows}
use Rattle.folder_model.specs.steps.SureLaws.{on_deed, file_sync_is_durable, opened_is_disk, opened_is_named, unfailed_bytes}
use Rattle.folder_model.specs.steps.SyncLaws.{syncs_within, fewer_syncs, syncs_named, syncs_left, syncs_sure}
use Rattle.folder_model.specs.steps.MadeLaws.{made_follows}
use Rattle.folder_model.specs.steps.TimeLaws.{goes_on_timed, deeds_elapse}
use Rattle.folder_model.specs.steps.TornLaws.{torn_wider, torn_again}
use Rattle.folder_model.specs.steps.WholeLaws.{writes_follow, writes_keep, all_written}

-- ---- what reads find

-- images with the same files of both kinds are one
same_image : (one two : Image) → files_of one Warc ≡ files_of two Warc → files_of one Cdxj ≡ files_of two Cdxj → one ≡ two
unfolding files_of
same_image one two warc cdxj = λ i. record { warc = warc i; cdxj = cdxj i }

-- the reading is the image that the folder is seen as, where that has as many files as are known or one more
pub reading_is : (name : Kind → ℕ → List ℕ) (past : FolderPast) (known : Kind → ℕ) (image : Image) → IsSeen name (contents_of past) image
    → ((kind : Kind) → known kind < 2 ^ 32) → ((kind : Kind) → known kind ≤ file_count image kind) → ((kind : Kind) → file_count image kind ≤ known kind + 1)
    → reading_of name past known ≡ image
reading_is name past known image seen numbers no_fewer one_more = same_image (reading_of name past known) image (files Warc) (files Cdxj)
  where
    entry : Kind → ℕ → Option (List ℕ)
    entry kind file = contents_of past (name kind file)

    found : (kind : Kind) → (if is_some (contents_of past (name kind (known kind))) then known kind + 1 else known kind) ≡ file_count image kind
    found kind =
        ⊎_elim
        (λ last.
        let there : is_some (contents_of past (name kind (known kind))) ≡ true =
        ap (λ (o : Option (List ℕ)). is_some o) (seen.there kind (known kind) last) in
        ap (λ (b : Bool). if b then known kind + 1 else known kind) there ∙ omega (arith, last, one_more kind))
        (λ none.
        let lacks : is_some (contents_of past (name kind (known kind))) ≡ false =
        ap (λ (o : Option (List ℕ)). is_some o) (seen.no_more kind (known kind) none (numbers kind)) in
        ap (λ (b : Bool). if b then known kind + 1 else known kind) lacks ∙ omega (arith, none, no_fewer kind))
        (cases_lt (known kind) (file_count image kind))

    counts : (kind : Kind) → file_count (reading_of name past known) kind ≡ file_count image kind
    counts kind =
        image_of-count (λ k f. contents_of past (name k f)) (λ k. if is_some (contents_of past (name k (known k))) then known k + 1 else known k) kind
        ∙ found kind

    files : (kind : Kind) → files_of (reading_of name past known) kind ≡ files_of image kind
    files kind = same_kind (reading_of name past known) image kind (counts kind) (λ file there.
        let inside : file < file_count image kind = omega (arith, there, counts kind) in
        image_of-file (λ k f. contents_of past (name k f)) (λ k. if is_some (contents_of past (name k (known k))) then known k + 1 else known k) kind file
        (omega (arith, inside, found kind))
        ∙ ap bytes_or_none (seen.there kind file inside))

-- one of two that still holds, or what follows of the other
pub or_still : {D A B : Type 0} → (A → B) → D ⊎ A → D ⊎ B
or_still gives (inl doubt) = inl doubt
or_still gives (inr is) = inr (gives is)

-- ---- a change of one file's bytes

-- one deed that changes a file's bytes, over what is known
module _ (name : Kind → ℕ → List ℕ) (apart : NamesApart name) (kind : Kind) (file : ℕ) where
  -- writes leave a disk, with other bytes in the file
  pub writes_folder_is : (past : FolderPast) (image : Image) (at many : ℕ) (deeds : List FileDeed) → FolderIs name past image → file < file_count image kind
      → AreWrites at many deeds
      → (bytes : List ℕ) × FolderIs name (done_to past (name kind file) deeds) (with_file image kind file bytes) × Torn at many (file_of image kind file) bytes
  writes_folder_is past image at many [] is there writes =
      (file_of image kind file, subst (FolderIs name past) (sym (with_file-file_of image kind file)) is, torn_none at many (file_of image kind file))
  writes_folder_is past image at many (Made ∷ earlier) is there writes = absurd writes
  writes_folder_is past image at many (Wrote place some rest ∷ earlier) is there writes =
      let n : List ℕ = name kind file in
      let was = writes_folder_is past image at many earlier is there writes.2 in
      let mid : FolderPast = done_to past n earlier in
      let inside : file < file_count (with_file image kind file was.0) kind = omega (arith, there, file_count-with_file image kind file was.0 kind) in
      let found : contents_of mid n ≡ Some was.0 = was.1.seen.there kind file inside ∙ ap (λ (b : List ℕ). Some b) (file_of-with_file image kind file was.0 there) in
      let bytes : List ℕ = written was.0 place some in
      let next = folder_is-changed name apart mid (with_file image kind file was.0) kind file (Wrote place some rest) bytes (λ e. cc) was.1 inside
      (ap (λ (o : Option (List ℕ)). option_map (λ old. written old place some) o) found) in (
        bytes,
        subst (FolderIs name (done_to past n (Wrote place some rest ∷ earlier))) (with_file-with_file image kind file was.0 bytes) next,
        torn_again at many (file_of image kind file) was.0 bytes was.2
            (torn_wider at many place (length some) was.0 bytes writes.0 (omega (arith, writes.1)) (torn_written place (length some) was.0 some (omega arith))),
      )
  writes_folder_is past image at many (Shortened len rest ∷ earlier) is there writes = absurd writes
  writes_folder_is past image at many (Synced done ∷ earlier) is there writes = absurd writes
  writes_folder_is past image at many (Listed done ∷ earlier) is there writes = absurd writes

-- they leave each name on the disk
writes_named : (past : FolderPast) (n m : List ℕ) (at many : ℕ) (deeds : List FileDeed) → AreWrites at many deeds → IsNamed past m → IsNamed (done_to past n deeds) m
writes_named past n m at many [] writes named = named
writes_named past n m at many (Made ∷ earlier) writes named = absurd writes
writes_named past n m at many (Wrote place some rest ∷ earlier) writes named =
    is_named-did (done_to past n earlier) n m (Wrote place some rest) (λ e. cc) (writes_named past n m at many earlier writes.2 named)
writes_named past n m at many (Shortened len rest ∷ earlier) writes named = absurd writes
writes_named past n m at many (Synced done ∷ earlier) writes named = absurd writes
writes_named past n m at many (Listed done ∷ earlier) writes named = absurd writes

-- and what syncs answer for
writes_sure : (past : FolderPast) (n m : List ℕ) (at many : ℕ) (deeds : List FileDeed) → AreWrites at many deeds
    → AreBytesSure (past.first m) (deeds_of m past.deeds) → AreBytesSure ((done_to past n deeds).first m) (deeds_of m (done_to past n deeds).deeds)
writes_sure past n m at many [] writes sure = sure
writes_sure past n m at many (Made ∷ earlier) writes sure = absurd writes
writes_sure past n m at many (Wrote place some rest ∷ earlier) writes sure =
    let mid : FolderPast = done_to past n earlier in
    let before = writes_sure past n m at many earlier writes.2 sure in
    on_deed (AreBytesSure (mid.first m)) m n (Wrote place some rest) mid.deeds (bytes_sure-wrote (mid.first m) (deeds_of m mid.deeds) place some rest before) before
writes_sure past n m at many (Shortened len rest ∷ earlier) writes sure = absurd writes
writes_sure past n m at many (Synced done ∷ earlier) writes sure = absurd writes
writes_sure past n m at many (Listed done ∷ earlier) writes sure = absurd writes

-- the past with deeds on a file, as the past with more deeds
pub done_deeds : (past : FolderPast) (n : List ℕ) (deeds : List FileDeed) → done_to past n deeds ≡ record past { deeds = map (λ d. Did n d) deeds ++ past.deeds }
done_deeds past n [] = refl
done_deeds past n (deed ∷ earlier) = ap (λ (p : FolderPast). did_to p n deed) (done_deeds past n earlier)

-- the writes without the last ones
fewer_writes : (at many k : ℕ) (deeds : List FileDeed) → AreWrites at many deeds → AreWrites at many (drop k deeds)
fewer_writes at many zero deeds writes = writes
fewer_writes at many (suc k) [] writes = writes
fewer_writes at many (suc k) (Made ∷ earlier) writes = absurd writes
fewer_writes at many (suc k) (Wrote place some rest ∷ earlier) writes = fewer_writes at many k earlier writes.2
fewer_writes at many (suc k) (Shortened len rest ∷ earlier) writes = absurd writes
fewer_writes at many (suc k) (Synced done ∷ earlier) writes = absurd writes
fewer_writes at many (suc k) (Listed done ∷ earlier) writes = absurd writes

pub drop_map : (n : List ℕ) (k : ℕ) (deeds : List FileDeed) → drop k (map (λ d. Did n d) deeds) ≡ map (λ d. Did n d) (drop k deeds)
drop_map n zero deeds = refl
drop_map n (suc k) [] = refl
drop_map n (suc k) (d ∷ deeds) = drop_map n k deeds

-- what a crash leaves after some of the writes it may leave after all
rest_of_writes : (past : FolderPast) (n : List ℕ) (at many k : ℕ) (deeds : List FileDeed) (contents : Contents) → AreWrites at many deeds
    → MayLeave (done_to past n (drop k deeds)) contents → MayLeave (done_to past n deeds) contents
rest_of_writes past n at many zero deeds contents writes left = left
rest_of_writes past n at many (suc k) [] contents writes left = left
rest_of_writes past n at many (suc k) (Made ∷ earlier) contents writes left = absurd writes
rest_of_writes past n at many (suc k) (Wrote place some rest ∷ earlier) contents writes left =
    writes_keep (done_to past n earlier) n place (length some + rest) (Wrote place some rest ∷ []) contents (omega arith, omega arith, tt)
    (rest_of_writes past n at many k earlier contents writes.2 left)
rest_of_writes past n at many (suc k) (Shortened len rest ∷ earlier) contents writes left = absurd writes
rest_of_writes past n at many (suc k) (Synced done ∷ earlier) contents writes left = absurd writes
rest_of_writes past n at many (suc k) (Listed done ∷ earlier) contents writes left = absurd writes

pub write_leaves : (name : Kind → ℕ → List ℕ) → NamesApart name → (kind : Kind) (file at many : ℕ) (old new : FolderPast) (known : Kind → ℕ) (gave_up : Bool) (doubts : Kind → Option ℕ) (times : Times) (reading : Image)
    → Knows name old known gave_up doubts times reading → file < file_count reading kind → WritesWithin (name kind file) at many old new
    → WriteLeaves name kind file at many old new known gave_up doubts times reading
write_leaves name apart kind file at many old new known gave_up doubts times reading knows there within =
    let n : List ℕ = name kind file in
    let left = writes_folder_is name apart kind file old reading at many within.deeds knows.is there within.writes in
    let whole : done_to old n within.deeds ≡ new = sym within.whole in
    let counts : (k : Kind) → file_count (with_file reading kind file left.0) k ≡ file_count reading k = file_count-with_file reading kind file left.0 in
    let added : List Deed = map (λ d. Did n d) within.deeds in
    let more : new ≡ record old { deeds = added ++ old.deeds } = within.whole ∙ done_deeds old n within.deeds in
    record {
      bytes = left.0;
      torn = left.2;
      knows = record {
        is = subst (λ (p : FolderPast). FolderIs name p (with_file reading kind file left.0)) whole left.1;
        timed = subst (λ (p : FolderPast). IsTimed (goes_on times p) p) (sym more) (goes_on_timed times old added knows.timed);
        numbers = knows.numbers;
        no_fewer = λ k. omega (arith, knows.no_fewer k, counts k);
        one_more = λ k. omega (arith, knows.one_more k, counts k);
        named = λ k f inside.
            subst (λ (p : FolderPast). IsNamed p (name k f)) whole (writes_named old n (name k f) at many within.deeds within.writes (knows.named k f inside));
        sure = λ goes m. or_still (λ sure. subst (λ (p : FolderPast). AreBytesSure (p.first m) (deeds_of m p.deeds)) whole (writes_sure old n m at many within.deeds within.writes sure)) (knows.sure goes m);
      };
      follows = subst (λ (p : FolderPast). Follows (OnFile kind file (Torn at many)) (images_of name old) (images_of name p)) whole
          (writes_follow name apart kind file (omega (arith, there, knows.is.seen.few kind)) old at many within.deeds within.writes);
      time = subst (λ (p : FolderPast). Elapses (moment_of times) (moment_of (goes_on times p)) (images_since_of name old times) (images_since_of name p (goes_on times p)) (images_of name p)) (sym more)
          (deeds_elapse name old times added (images_of name (record old { deeds = added ++ old.deeds })) knows.timed (λ k image left_then.
          inr (all_of within.deeds n k image within.writes left_then)));
    }
  where
    all_of : (deeds : List FileDeed) (n : List ℕ) (k : ℕ) (image : Image) → AreWrites at many deeds
        → images_of name (record old { deeds = drop k (map (λ d. Did n d) deeds) ++ old.deeds }) image
        → images_of name (record old { deeds = map (λ d. Did n d) deeds ++ old.deeds }) image
    all_of deeds n k image writes left =
        let some : record old { deeds = drop k (map (λ d. Did n d) deeds) ++ old.deeds } ≡ done_to old n (drop k deeds) =
        ap (λ (ds : List Deed). record old { deeds = ds ++ old.deeds }) (drop_map n k deeds) ∙ sym (done_deeds old n (drop k deeds)) in (
          left.0,
          subst (λ (p : FolderPast). MayLeave p left.0) (done_deeds old n deeds)
              (rest_of_writes old n at many k deeds left.0 writes (subst (λ (p : FolderPast). MayLeave p left.0) some left.1)),
          left.2,
        )

-- ---- syncs

-- time goes on by one deed
pub one_deed_elapses : (name : Kind → ℕ → List ℕ) (past : FolderPast) (times : Times) (deed : Deed) → IsTimed times past
    → Elapses (moment_of times) (moment_of (goes_on times (did past deed))) (images_since_of name past times)
    (images_since_of name (did past deed) (goes_on times (did past deed))) (images_of name (did past deed))
one_deed_elapses name past times deed timed = deeds_elapse name past times (deed ∷ []) (images_of name (did past deed)) timed each
  where
    each : (k : ℕ) (image : Image) → images_of name (record past { deeds = drop k (deed ∷ []) ++ past.deeds }) image
        → images_of name past image ⊎ images_of name (did past deed) image
    each zero image left = inr left
    each (suc zero) image left = inl left
    each (suc (suc k)) image left = inl left

-- what a sync of a file that was done leaves of the doubts
pub settled_sure : (old : FolderPast) (n : List ℕ) (doubts left : List ℕ → Type 0) (m : List ℕ)
    → doubts m ⊎ AreBytesSure (old.first m) (deeds_of m old.deeds) → (doubts m → (m ≡ n) ⊎ left m) → AreBytesSure (old.first n) (deeds_of n old.deeds)
    → left m ⊎ AreBytesSure (old.first m) (deeds_of m (did_to old n (Synced true)).deeds)
settled_sure old n doubts left m (inl doubt) settles sure =
    ⊎_elim
    (λ same. inr (subst (λ (k : List ℕ). AreBytesSure (old.first k) (deeds_of k (did_to old n (Synced true)).deeds)) (sym same)
    (on_deed (AreBytesSure (old.first n)) n n (Synced true) old.deeds (bytes_sure-synced (old.first n) (deeds_of n old.deeds) sure) sure)))
    (λ still. inl still)
    (settles doubt)
settled_sure old n doubts left m (inr is) settles sure =
    inr (on_deed (AreBytesSure (old.first m)) m n (Synced true) old.deeds (bytes_sure-synced (old.first m) (deeds_of m old.deeds) is) is)

-- a sync that was done, of a file that syncs answer for; from then on it isn't in doubt
sync_done_now : (name : Kind → ℕ → List ℕ) (kind : Kind) (file : ℕ) (old : FolderPast) (known : Kind → ℕ) (doubts left : Kind → Option ℕ) (times : Times) (reading : Image)
    → Knows name old known false doubts times reading → file < known kind
    → AreBytesSure (old.first (name kind file)) (deeds_of (name kind file) old.deeds)
    → ((m : List ℕ) → IsInDoubt name doubts m → (m ≡ name kind file) ⊎ IsInDoubt name left m)
    → SyncDone name kind file old (did_to old (name kind file) (Synced true)) known left times reading
sync_done_now name kind file old known doubts left times reading knows ours sure settles =
    let n : List ℕ = name kind file in
    let there : file < file_count reading kind = omega (arith, ours, knows.no_fewer kind) in
    let new : FolderPast = did_to old n (Synced true) in
    record {
      knows = record {
        is = folder_is-synced name old reading n true knows.is;
        timed = goes_on_timed times old (Did n (Synced true) ∷ []) knows.timed;
        numbers = knows.numbers;
        no_fewer = knows.no_fewer;
        one_more = knows.one_more;
        named = λ k f inside. is_named-did old n (name k f) (Synced true) (λ e. cc) (knows.named k f inside);
        sure = λ goes m. settled_sure old n (IsInDoubt name doubts) (IsInDoubt name left) m (knows.sure goes m) (settles m) sure;
      };
      durable = file_sync_is_durable name old reading kind file knows.is there (knows.named kind file ours) sure;
      within = synced_within name old n true;
      time = one_deed_elapses name old times (Did n (Synced true)) knows.timed;
    }

pub sync_done : (name : Kind → ℕ → List ℕ) (kind : Kind) (file : ℕ) (old new : FolderPast) (known : Kind → ℕ) (doubts left : Kind → Option ℕ) (times : Times) (reading : Image)
    → Knows name old known false doubts times reading → file < known kind
    → AreBytesSure (old.first (name kind file)) (deeds_of (name kind file) old.deeds)
    → ((m : List ℕ) → IsInDoubt name doubts m → (m ≡ name kind file) ⊎ IsInDoubt name left m)
    → new ≡ did_to old (name kind file) (Synced true)
    → SyncDone name kind file old new known left times reading
sync_done name kind file old new known doubts left times reading knows ours sure settles whole =
    subst (λ (p : FolderPast). SyncDone name kind file old p known left times reading) (sym whole)
    (sync_done_now name kind file old known doubts left times reading knows ours sure settles)

-- a sync that failed, so that the disk gives up
sync_failed_now : (name : Kind → ℕ → List ℕ) (n : List ℕ) (old : FolderPast) (known : Kind → ℕ) (gave_up : Bool) (doubts left : Kind → Option ℕ) (times : Times) (reading : Image)
    → Knows name old known gave_up doubts times reading → SyncsLeave name old (did_to old n (Synced false)) known true left times reading
sync_failed_now name n old known gave_up doubts left times reading knows = record {
  knows = record {
    is = folder_is-synced name old reading n false knows.is;
    timed = goes_on_timed times old (Did n (Synced false) ∷ []) knows.timed;
    numbers = knows.numbers;
    no_fewer = knows.no_fewer;
    one_more = knows.one_more;
    named = λ k f inside. is_named-did old n (name k f) (Synced false) (λ e. cc) (knows.named k f inside);
    sure = λ goes. absurd (true≢false goes);
  };
  within = synced_within name old n false;
  time = one_deed_elapses name old times (Did n (Synced false)) knows.timed;
}

pub sync_failed : (name : Kind → ℕ → List ℕ) (n : List ℕ) (old new : FolderPast) (known : Kind → ℕ) (gave_up : Bool) (doubts left : Kind → Option ℕ) (times : Times) (reading : Image)
    → Knows name old known gave_up doubts times reading → new ≡ did_to old n (Synced false) → SyncsLeave name old new known true left times reading
sync_failed name n old new known gave_up doubts left times reading knows whole =
    subst (λ (p : FolderPast). SyncsLeave name old p known true left times reading) (sym whole) (sync_failed_now name n old known gave_up doubts left times reading knows)

-- a sync that failed, so that its file is in doubt
sync_doubted_now : (name : Kind → ℕ → List ℕ) (n : List ℕ) (old : FolderPast) (known : Kind → ℕ) (gave_up : Bool) (doubts left : Kind → Option ℕ) (times : Times) (reading : Image)
    → Knows name old known gave_up doubts times reading → ((m : List ℕ) → IsInDoubt name doubts m → IsInDoubt name left m) → IsInDoubt name left n
    → SyncsLeave name old (did_to old n (Synced false)) known gave_up left times reading
sync_doubted_now name n old known gave_up doubts left times reading knows more this = record {
  knows = record {
    is = folder_is-synced name old reading n false knows.is;
    timed = goes_on_timed times old (Did n (Synced false) ∷ []) knows.timed;
    numbers = knows.numbers;
    no_fewer = knows.no_fewer;
    one_more = knows.one_more;
    named = λ k f inside. is_named-did old n (name k f) (Synced false) (λ e. cc) (knows.named k f inside);
    sure = λ goes m.
        ⊎_elim
        (λ same. inl (subst (IsInDoubt name left) (sym same.0) this))
        (λ apart.
        ⊎_elim
        (λ doubt. inl (more m doubt))
        (λ sure. inr (subst (AreBytesSure (old.first m)) (sym (deeds_of-other m n (Synced false) old.deeds apart.0)) sure))
        (knows.sure goes m))
        (names_cases m n);
  };
  within = synced_within name old n false;
  time = one_deed_elapses name old times (Did n (Synced false)) knows.timed;
}

pub sync_doubted : (name : Kind → ℕ → List ℕ) (n : List ℕ) (old new : FolderPast) (known : Kind → ℕ) (gave_up : Bool) (doubts left : Kind → Option ℕ) (times : Times) (reading : Image)
    → Knows name old known gave_up doubts times reading → ((m : List ℕ) → IsInDoubt name doubts m → IsInDoubt name left m) → IsInDoubt name left n → new ≡ did_to old n (Synced false)
    → SyncsLeave name old new known gave_up left times reading
sync_doubted name n old new known gave_up doubts left times reading knows more this whole =
    subst (λ (p : FolderPast). SyncsLeave name old p known gave_up left times reading) (sym whole)
    (sync_doubted_now name n old known gave_up doubts left times reading knows more this)

-- ---- a file that is made

-- syncs leave a disk
pub syncs_folder_is : (name : Kind → ℕ → List ℕ) (synced : List ℕ) (past : FolderPast) (image : Image) (deeds : List Deed) → AreSyncs synced deeds → FolderIs name past image
    → FolderIs name (record past { deeds = deeds ++ past.deeds }) image
syncs_folder_is name synced past image [] syncs is = is
syncs_folder_is name synced past image (Did n Made ∷ earlier) syncs is = absurd syncs
syncs_folder_is name synced past image (Did n (Wrote at bytes rest) ∷ earlier) syncs is = absurd syncs
syncs_folder_is name synced past image (Did n (Shortened len rest) ∷ earlier) syncs is = absurd syncs
syncs_folder_is name synced past image (Did n (Synced done) ∷ earlier) syncs is =
    folder_is-synced name (record past { deeds = earlier ++ past.deeds }) image n done (syncs_folder_is name synced past image earlier syncs.1 is)
syncs_folder_is name synced past image (Did n (Listed done) ∷ earlier) syncs is = absurd syncs
syncs_folder_is name synced past image (SyncedFolder done ∷ earlier) syncs is =
    folder_is-listed name (record past { deeds = earlier ++ past.deeds }) image done (syncs_folder_is name synced past image earlier syncs is)
syncs_folder_is name synced past image (SyncedAround done ∷ earlier) syncs is =
    folder_is-around name (record past { deeds = earlier ++ past.deeds }) image done (syncs_folder_is name synced past image earlier syncs is)

-- The disk's next file was made, with nothing but syncs behind it.
module _ (name : Kind → ℕ → List ℕ) (apart : NamesApart name) (kind : Kind) (old : FolderPast) (known : Kind → ℕ) (doubts : Kind → Option ℕ) (times : Times) (reading : Image)
    (knows : Knows name old known false doubts times reading) (all : file_count reading kind ≡ known kind) where
  room : file_count reading kind < 2 ^ 32
  room = omega (arith, all, knows.numbers kind)

  -- images that are left behind some of the syncs
  images_behind : (deeds : List Deed) → AreSyncs (name kind (file_count reading kind)) deeds → (image : Image)
      → images_of name (record old { deeds = deeds ++ Did (name kind (file_count reading kind)) Made ∷ old.deeds }) image
      → Stepped (MayCreate kind (file_count reading kind)) (images_of name old) image
  images_behind deeds syncs image left =
      made_follows name apart old reading kind room knows.is.seen image
      (left.0, syncs_within (name kind (file_count reading kind)) (did_to old (name kind (file_count reading kind)) Made) deeds left.0 syncs left.1, left.2)

  time_behind : (deeds : List Deed) → AreSyncs (name kind (file_count reading kind)) deeds
      → Elapses (moment_of times) (moment_of (goes_on times (record old { deeds = deeds ++ Did (name kind (file_count reading kind)) Made ∷ old.deeds })))
      (images_since_of name old times)
      (images_since_of name (record old { deeds = deeds ++ Did (name kind (file_count reading kind)) Made ∷ old.deeds })
      (goes_on times (record old { deeds = deeds ++ Did (name kind (file_count reading kind)) Made ∷ old.deeds })))
      (Stepped (MayCreate kind (file_count reading kind)) (images_of name old))
  time_behind deeds syncs =
      let n : List ℕ = name kind (file_count reading kind) in
      let whole : record old { deeds = (deeds ++ Did n Made ∷ []) ++ old.deeds } ≡ record old { deeds = deeds ++ Did n Made ∷ old.deeds } =
      ap (λ (ds : List Deed). record old { deeds = ds }) (append_assoc deeds (Did n Made ∷ []) old.deeds) in
      subst (λ (p : FolderPast). Elapses (moment_of times) (moment_of (goes_on times p)) (images_since_of name old times) (images_since_of name p (goes_on times p))
      (Stepped (MayCreate kind (file_count reading kind)) (images_of name old))) whole
      (deeds_elapse name old times (deeds ++ Did n Made ∷ []) (Stepped (MayCreate kind (file_count reading kind)) (images_of name old)) knows.timed each)
    where
      each : (k : ℕ) (image : Image)
          → images_of name (record old { deeds = drop k (deeds ++ Did (name kind (file_count reading kind)) Made ∷ []) ++ old.deeds }) image
          → images_of name old image ⊎ Stepped (MayCreate kind (file_count reading kind)) (images_of name old) image
      each k image left =
          let n : List ℕ = name kind (file_count reading kind) in
          ⊎_elim
          (λ beyond.
          let none : drop k (deeds ++ Did n Made ∷ []) ≡ [] = drop_all k (deeds ++ Did n Made ∷ []) (omega (arith, beyond, length_push deeds (Did n Made))) in
          inl (subst (λ (ds : List Deed). images_of name (record old { deeds = ds ++ old.deeds }) image) none left))
          (λ inside.
          let some : drop k (deeds ++ Did n Made ∷ []) ++ old.deeds ≡ drop k deeds ++ Did n Made ∷ old.deeds =
          ap (λ (ds : List Deed). ds ++ old.deeds) (drop-append-le k deeds (Did n Made ∷ []) inside) ∙ append_assoc (drop k deeds) (Did n Made ∷ []) old.deeds in
          inr (images_behind (drop k deeds) (fewer_syncs n deeds k syncs) image (subst (λ (ds : List Deed). images_of name (record old { deeds = ds }) image) some left)))
          (cases_lt (length deeds) k)

  -- what is read then
  made_folder_is : (deeds : List Deed) → AreSyncs (name kind (file_count reading kind)) deeds
      → FolderIs name (record old { deeds = deeds ++ Did (name kind (file_count reading kind)) Made ∷ old.deeds }) (with_new reading kind)
  made_folder_is deeds syncs =
      syncs_folder_is name (name kind (file_count reading kind)) (did_to old (name kind (file_count reading kind)) Made) (with_new reading kind) deeds syncs
      (folder_is-made name apart old reading kind room knows.is (λ f inside. knows.named kind f (omega (arith, inside, all))))

  -- another file than the new one, by its number
  is_another : (k : Kind) (f : ℕ) → f < known k → IsApart kind (file_count reading kind) k f
  is_another k f inside =
      ⊎_elim
      (λ same. inr (λ e. omega (arith, inside, e, all, ap known same)))
      (λ differs. inl differs)
      (same_kind_or_other k kind)

  -- names that were on the disk still are
  made_named : (deeds : List Deed) → AreSyncs (name kind (file_count reading kind)) deeds → (k : Kind) (f : ℕ) → f < known k
      → IsNamed (record old { deeds = deeds ++ Did (name kind (file_count reading kind)) Made ∷ old.deeds }) (name k f)
  made_named deeds syncs k f inside =
      let n : List ℕ = name kind (file_count reading kind) in
      syncs_named n (did_to old n Made) deeds (name k f) syncs
      (is_named-other old n (name k f) Made
      (apart kind (file_count reading kind) k f room (omega (arith, inside, knows.numbers k)) (is_another k f inside)) (knows.named k f inside))

  -- a crash leaves of the new file no bytes
  pub made_left : (deeds : List Deed) → AreSyncs (name kind (file_count reading kind)) deeds
      → AreBytesLeftAt (record old { deeds = deeds ++ Did (name kind (file_count reading kind)) Made ∷ old.deeds }) (name kind (file_count reading kind))
  made_left deeds syncs =
      let n : List ℕ = name kind (file_count reading kind) in
      syncs_left n (did_to old n Made) deeds n syncs
      (subst (AreBytesLeft (old.first n)) (sym (deeds_of-same n Made old.deeds)) (bytes_left-made (old.first n) (deeds_of n old.deeds)))

  -- syncs answer for all that they did, and for the new file, which is empty
  made_sure : (deeds : List Deed) → AreSyncs (name kind (file_count reading kind)) deeds → (m : List ℕ)
      → IsInDoubt name doubts m ⊎ AreBytesSure (old.first m) (deeds_of m (deeds ++ Did (name kind (file_count reading kind)) Made ∷ old.deeds))
  made_sure deeds syncs m =
      let n : List ℕ = name kind (file_count reading kind) in
      ⊎_elim
      (λ same. inr (subst (λ (k : List ℕ). AreBytesSure (old.first k) (deeds_of k (deeds ++ Did n Made ∷ old.deeds))) (sym same.0)
      (bytes_left-sure (old.first n) (deeds_of n (deeds ++ Did n Made ∷ old.deeds)) (made_left deeds syncs))))
      (λ other. or_still (λ sure. syncs_sure n (did_to old n Made) deeds m syncs other.0
      (subst (AreBytesSure (old.first m)) (sym (deeds_of-other m n Made old.deeds other.0)) sure)) (knows.sure refl m))
      (names_cases m n)

  create_failed_now : (deeds : List Deed) → AreSyncs (name kind (file_count reading kind)) deeds
      → CreateFailed name kind old (record old { deeds = deeds ++ Did (name kind (file_count reading kind)) Made ∷ old.deeds }) known doubts times reading
  create_failed_now deeds syncs = record {
    image = with_new reading kind;
    knows = record {
      is = made_folder_is deeds syncs;
      timed =
          let n : List ℕ = name kind (file_count reading kind) in
          subst (λ (ds : List Deed). IsTimed (goes_on times (record old { deeds = ds })) (record old { deeds = ds }))
          (append_assoc deeds (Did n Made ∷ []) old.deeds) (goes_on_timed times old (deeds ++ Did n Made ∷ []) knows.timed);
      numbers = knows.numbers;
      no_fewer = λ k. omega (arith, knows.no_fewer k, count_grows reading kind k);
      one_more = λ k.
          ⊎_elim
          (λ same. omega (arith, all, ap known same, ap (λ (kk : Kind). file_count (with_new reading kind) kk) same, ap (λ (kk : Kind). file_count reading kk) same, file_count-with_new reading kind))
          (λ differs. omega (arith, knows.one_more k, file_count-with_new_kind reading kind k differs))
          (same_kind_or_other k kind);
      named = made_named deeds syncs;
      sure = λ goes m. made_sure deeds syncs m;
    };
    partial = inr (refl, refl);
    follows = images_behind deeds syncs;
    time = time_behind deeds syncs;
  }

  -- a call that failed and did nothing
  create_nothing : CreateFailed name kind old old known doubts times reading
  create_nothing = record {
    image = reading;
    knows = record {
      is = knows.is;
      timed = goes_on_timed times old [] knows.timed;
      numbers = knows.numbers;
      no_fewer = knows.no_fewer;
      one_more = knows.one_more;
      named = knows.named;
      sure = knows.sure;
    };
    partial = inl refl;
    follows = λ image left. (image, left, inl refl);
    time = deeds_elapse name old times [] (Stepped (MayCreate kind (file_count reading kind)) (images_of name old)) knows.timed nothing;
  }
    where
      nothing : (k : ℕ) (image : Image) → images_of name (record old { deeds = drop k [] ++ old.deeds }) image
          → images_of name old image ⊎ Stepped (MayCreate kind (file_count reading kind)) (images_of name old) image
      nothing zero image left = inl left
      nothing (suc k) image left = inl left

  pub create_failed : (new : FolderPast) → MakesInPart (name kind (file_count reading kind)) old new → CreateFailed name kind old new known doubts times reading
  create_failed new (inl same) = subst (λ (p : FolderPast). CreateFailed name kind old p known doubts times reading) (sym same) create_nothing
  create_failed new (inr is_made) =
      subst (λ (p : FolderPast). CreateFailed name kind old p known doubts times reading) (sym is_made.synced.whole) (create_failed_now is_made.synced.deeds is_made.synced.syncs)

  -- the name of the new file is on the disk, and it is empty there
  new_is_named : IsNamed (made_durably (name kind (file_count reading kind)) old) (name kind (file_count reading kind))
  new_is_named =
      let n : List ℕ = name kind (file_count reading kind) in
      let its : deeds_of n (Did n (Synced true) ∷ Did n Made ∷ old.deeds) ≡ Synced true ∷ Made ∷ deeds_of n old.deeds =
      deeds_of-same n (Synced true) (Did n Made ∷ old.deeds) ∙ ap (λ (ds : List FileDeed). Synced true ∷ ds) (deeds_of-same n Made old.deeds) in
      subst (λ (ds : List FileDeed). may_lack (old.first n) (Listed true ∷ ds) Crash ≡ false) (sym its) refl

  new_is_empty : (held : List ℕ)
      → MayHold (old.first (name kind (file_count reading kind))) (deeds_of (name kind (file_count reading kind)) (made_durably (name kind (file_count reading kind)) old).deeds) Crash held
      → held ≡ []
  new_is_empty held holds =
      let n : List ℕ = name kind (file_count reading kind) in
      let its : deeds_of n (Did n (Synced true) ∷ Did n Made ∷ old.deeds) ≡ Synced true ∷ Made ∷ deeds_of n old.deeds =
      deeds_of-same n (Synced true) (Did n Made ∷ old.deeds) ∙ ap (λ (ds : List FileDeed). Synced true ∷ ds) (deeds_of-same n Made old.deeds) in
      subst (λ (ds : List FileDeed). MayHold (old.first n) (Listed true ∷ ds) Crash held) its holds

  syncs_of_all : AreSyncs (name kind (file_count reading kind)) (SyncedAround true ∷ SyncedFolder true ∷ Did (name kind (file_count reading kind)) (Synced true) ∷ [])
  syncs_of_all = (refl, tt)

  create_done_now : (more : Kind → ℕ) → ((k : Kind) → more k < 2 ^ 32) → more kind ≡ known kind + 1 → ((k : Kind) → k ≢ kind → more k ≡ known k)
      → CreateDone name kind old (made_durably (name kind (file_count reading kind)) old) more doubts times reading
  create_done_now more numbers one others = record {
    knows = record {
      is = made_folder_is (SyncedAround true ∷ SyncedFolder true ∷ Did (name kind (file_count reading kind)) (Synced true) ∷ []) syncs_of_all;
      timed = goes_on_timed times old (SyncedAround true ∷ SyncedFolder true ∷ Did (name kind (file_count reading kind)) (Synced true) ∷ Did (name kind (file_count reading kind)) Made ∷ []) knows.timed;
      numbers = numbers;
      no_fewer = λ k.
          ⊎_elim
          (λ same. subst (λ (kk : Kind). more kk ≤ file_count (with_new reading kind) kk) (sym same) (omega (arith, file_count-with_new reading kind, one, all)))
          (λ differs. omega (arith, file_count-with_new_kind reading kind k differs, others k differs, knows.no_fewer k))
          (same_kind_or_other k kind);
      one_more = λ k.
          ⊎_elim
          (λ same. subst (λ (kk : Kind). file_count (with_new reading kind) kk ≤ more kk + 1) (sym same) (omega (arith, file_count-with_new reading kind, one, all)))
          (λ differs. omega (arith, file_count-with_new_kind reading kind k differs, others k differs, knows.one_more k))
          (same_kind_or_other k kind);
      named = names;
      sure = λ goes m. made_sure (SyncedAround true ∷ SyncedFolder true ∷ Did (name kind (file_count reading kind)) (Synced true) ∷ []) syncs_of_all m;
    };
    durable =
        file_is_durable name (made_durably (name kind (file_count reading kind)) old) kind (file_count reading kind) [] room placed new_is_named new_is_empty;
    follows = images_behind (SyncedAround true ∷ SyncedFolder true ∷ Did (name kind (file_count reading kind)) (Synced true) ∷ []) syncs_of_all;
    time = time_behind (SyncedAround true ∷ SyncedFolder true ∷ Did (name kind (file_count reading kind)) (Synced true) ∷ []) syncs_of_all;
  }
    where
      placed : IsPlaced (made_durably (name kind (file_count reading kind)) old)
      placed = (made_folder_is (SyncedAround true ∷ SyncedFolder true ∷ Did (name kind (file_count reading kind)) (Synced true) ∷ []) syncs_of_all).placed

      names : (k : Kind) (f : ℕ) → f < more k → IsNamed (made_durably (name kind (file_count reading kind)) old) (name k f)
      names k f inside =
          let n : List ℕ = name kind (file_count reading kind) in
          ⊎_elim
          (λ same. subst (λ (kk : Kind). IsNamed (made_durably n old) (name kk f)) (sym same.0)
          (subst (λ (ff : ℕ). IsNamed (made_durably n old) (name kind ff)) (sym same.1) new_is_named))
          (λ other. made_named (SyncedAround true ∷ SyncedFolder true ∷ Did n (Synced true) ∷ []) syncs_of_all k f (earlier k f other inside))
          (same_or_apart kind (file_count reading kind) k f)
        where
          earlier : (k : Kind) (f : ℕ) → IsApart kind (file_count reading kind) k f → f < more k → f < known k
          earlier k f (inl differs) inside = omega (arith, inside, others k differs)
          earlier k f (inr differs) inside =
              ⊎_elim
              (λ same.
              let here : more k ≡ more kind = ap more same in
              let was : known k ≡ known kind = ap known same in
              ⊎_elim (λ before. omega (arith, before, was, all)) (λ past. absurd (differs (omega (arith, past, inside, here, one, all)))) (cases_lt f (file_count reading kind)))
              (λ apart_kind. omega (arith, inside, others k apart_kind))
              (same_kind_or_other k kind)

  pub create_done : (new : FolderPast) (more : Kind → ℕ) → new ≡ made_durably (name kind (file_count reading kind)) old
      → ((k : Kind) → more k < 2 ^ 32) → more kind ≡ known kind + 1 → ((k : Kind) → k ≢ kind → more k ≡ known k)
      → CreateDone name kind old new more doubts times reading
  create_done new more whole numbers one others =
      subst (λ (p : FolderPast). CreateDone name kind old p more doubts times reading) (sym whole) (create_done_now more numbers one others)

-- ---- a cut

cut_leaves_now : (name : Kind → ℕ → List ℕ) → NamesApart name → (kind : Kind) (file len rest : ℕ) (old : FolderPast) (known : Kind → ℕ) (gave_up : Bool) (doubts : Kind → Option ℕ) (times : Times) (reading : Image)
    → Knows name old known gave_up doubts times reading → file < file_count reading kind
    → CutLeaves name kind file len rest old (did_to old (name kind file) (Shortened (len + rest) rest)) known gave_up doubts times reading
cut_leaves_now name apart kind file len rest old known gave_up doubts times reading knows there =
    let n : List ℕ = name kind file in
    let deed : FileDeed = Shortened (len + rest) rest in
    let bytes : List ℕ = take (len + rest) (file_of reading kind file) in
    let asked : (len + rest) - rest ≡ len = omega arith in
    let counts : (k : Kind) → file_count (with_file reading kind file bytes) k ≡ file_count reading k = file_count-with_file reading kind file bytes in
    record {
      cut = subst (λ (to : ℕ). Cut to (file_of reading kind file) bytes) asked (cut_begun (len + rest) rest (file_of reading kind file));
      knows = record {
        is = folder_is-changed name apart old reading kind file deed bytes (λ e. cc) knows.is there
            (ap (λ (o : Option (List ℕ)). option_map (take (len + rest)) o) (knows.is.seen.there kind file there));
        timed = goes_on_timed times old (Did n deed ∷ []) knows.timed;
        numbers = knows.numbers;
        no_fewer = λ k. omega (arith, knows.no_fewer k, counts k);
        one_more = λ k. omega (arith, knows.one_more k, counts k);
        named = λ k f inside. is_named-did old n (name k f) deed (λ e. cc) (knows.named k f inside);
        sure = λ goes m.
            or_still (λ sure. on_deed (AreBytesSure (old.first m)) m n deed old.deeds (bytes_sure-shortened (old.first m) (deeds_of m old.deeds) (len + rest) rest sure) sure) (knows.sure goes m);
      };
      follows = subst (λ (to : ℕ). Follows (OnFile kind file (Cut to)) (images_of name old) (images_of name (did_to old n deed))) asked
          (cut_follows name apart kind file (omega (arith, there, knows.is.seen.few kind)) old (len + rest) rest);
      time = one_deed_elapses name old times (Did n deed) knows.timed;
    }

pub cut_leaves : (name : Kind → ℕ → List ℕ) → NamesApart name → (kind : Kind) (file len rest : ℕ) (old new : FolderPast) (known : Kind → ℕ) (gave_up : Bool) (doubts : Kind → Option ℕ) (times : Times) (reading : Image)
    → Knows name old known gave_up doubts times reading → file < file_count reading kind → new ≡ did_to old (name kind file) (Shortened (len + rest) rest)
    → CutLeaves name kind file len rest old new known gave_up doubts times reading
cut_leaves name apart kind file len rest old new known gave_up doubts times reading knows there whole =
    subst (λ (p : FolderPast). CutLeaves name kind file len rest old p known gave_up doubts times reading) (sym whole)
    (cut_leaves_now name apart kind file len rest old known gave_up doubts times reading knows there)

-- ---- a folder that is opened

-- a disk that counted the files of a folder, and then synced it and the one around it, knows of them
pub opened_knows : (name : Kind → ℕ → List ℕ) (past : FolderPast) (known : Kind → ℕ) (doubts : Kind → Option ℕ) (image : Image)
    → IsUnfailed past → IsSeen name (contents_of past) image → ((kind : Kind) → known kind < 2 ^ 32) → ((kind : Kind) → file_count image kind ≡ known kind)
    → Knows name (did (did past (SyncedFolder true)) (SyncedAround true)) known false doubts
    (record { made = length (did (did past (SyncedFolder true)) (SyncedAround true)).deeds; begun = [] }) image
opened_knows name past known doubts image unfailed seen numbers counted = record {
  is = opened_is_disk name past image unfailed seen;
  timed = record { rises = tt; now = refl };
  numbers = numbers;
  no_fewer = λ kind. omega (arith, counted kind);
  one_more = λ kind. omega (arith, counted kind);
  named = λ kind file inside. opened_is_named name past image kind file unfailed seen (omega (arith, inside, counted kind));
  sure = λ goes n. inr (bytes_sure-listed (past.first n) (deeds_of n past.deeds) true (unfailed_bytes past.first past.deeds n unfailed));
}

-- ---- a write that succeeded

-- once all bytes are written reads find them in their place
pub written_is_read : (name : Kind → ℕ → List ℕ) (kind : Kind) (file at : ℕ) (bytes now : List ℕ) (old new : FolderPast) (reading : Image)
    → FolderIs name old reading → file < file_count reading kind
    → FolderIs name new (with_file reading kind file now)
    → IsWriting (name kind file) at bytes (length bytes) old new
    → now ≡ written (file_of reading kind file) at bytes
written_is_read name kind file at bytes now old new reading is there is_now writing =
    let inside : file < file_count (with_file reading kind file now) kind = omega (arith, there, file_count-with_file reading kind file now kind) in
    let was : writing.before ≡ file_of reading kind file = same_Some writing.before (file_of reading kind file) (sym writing.was ∙ is.seen.there kind file there) in
    sym (file_of-with_file reading kind file now there)
    ∙ same_Some (file_of (with_file reading kind file now) kind file) (written writing.before at bytes)
    (sym (is_now.seen.there kind file inside) ∙ all_written (name kind file) at bytes old new writing)
    ∙ ap (λ (b : List ℕ). written b at bytes) was
