-- Laws of what syncs answer for, in a folder.
use Rattle.std.proofs.Common.{◌^◌, ◌≡◌, ◌<◌, ℕ, Bool, true, false, IsTrue, ◌&&◌, Some, List, [], ◌∷◌, refl, sym, ◌∙◌, subst, ⊎_elim, true≢false, arith}
use Rattle.std.specs.List.{list_all}
use Rattle.std.proofs.lemmas.Option.{same_Some}
use Rattle.disk_model.specs.declared.kind.Kind.{Kind}
use Rattle.disk_model.specs.Image.{Image, file_count, file_of}
use Rattle.disk_model.specs.Crash.{HasFile, Leaves}
use Rattle.folder_model.specs.File.{FileDeed, Made, Wrote, Shortened, Synced, Listed, Sync, Crash, MayHold, may_lack, AreBytesSure, IsNameSure}
use Rattle.folder_model.specs.Folder.{Contents, Deed, Did, SyncedFolder, SyncedAround, FolderPast, did, did_to, deeds_of, contents_of, may_miss, IsUnfailed, is_no_failed_sync}
use Rattle.folder_model.specs.Seen.{IsSeen, images_of, IsNamed, IsPlaced, FolderIs}
use Rattle.folder_model.specs.steps.FileLaws.{listed_is_named, bytes_sure-first, bytes_sure-made, bytes_sure-wrote, bytes_sure-shortened, bytes_sure-synced, bytes_sure-listed, name_sure-first, name_sure-made, name_sure-wrote, name_sure-shortened, name_sure-synced, name_sure-listed}
use Rattle.folder_model.specs.steps.FolderLaws.{deeds_of-same, deeds_of-other, names_cases}
use Rattle.folder_model.specs.steps.SeenLaws.{file_is_durable}
use Rattle.folder_model.specs.steps.ReadingLaws.{seen-same}

-- both of two tests
both : (a b : Bool) → IsTrue (a && b) → IsTrue a × IsTrue b
both true true is = (refl, refl)
both true false is = (refl, is)
both false b is = absurd (true≢false (sym is))

-- what holds of the deeds on a file and of those with one more on any file
pub on_deed : (P : List FileDeed → Type 0) (n other : List ℕ) (deed : FileDeed) (earlier : List Deed)
    → P (deed ∷ deeds_of n earlier) → P (deeds_of n earlier) → P (deeds_of n (Did other deed ∷ earlier))
on_deed P n other deed earlier more same =
    ⊎_elim
    (λ one. subst (λ (o : List ℕ). P (deeds_of n (Did o deed ∷ earlier))) one.0 (subst P (sym (deeds_of-same n deed earlier)) more))
    (λ apart. subst P (sym (deeds_of-other n other deed earlier apart.0)) same)
    (names_cases n other)

-- where no sync has failed, a sync answers for each file's bytes
pub unfailed_bytes : (first : Contents) (deeds : List Deed) (n : List ℕ) → IsTrue (list_all is_no_failed_sync deeds) → AreBytesSure (first n) (deeds_of n deeds)
unfailed_bytes first [] n is = bytes_sure-first (first n)
unfailed_bytes first (Did other Made ∷ earlier) n is =
    on_deed (AreBytesSure (first n)) n other Made earlier (bytes_sure-made (first n) (deeds_of n earlier)) (unfailed_bytes first earlier n is)
unfailed_bytes first (Did other (Wrote at bytes rest) ∷ earlier) n is =
    let sure = unfailed_bytes first earlier n is in
    on_deed (AreBytesSure (first n)) n other (Wrote at bytes rest) earlier (bytes_sure-wrote (first n) (deeds_of n earlier) at bytes rest sure) sure
unfailed_bytes first (Did other (Shortened len rest) ∷ earlier) n is =
    let sure = unfailed_bytes first earlier n is in
    on_deed (AreBytesSure (first n)) n other (Shortened len rest) earlier (bytes_sure-shortened (first n) (deeds_of n earlier) len rest sure) sure
unfailed_bytes first (Did other (Synced true) ∷ earlier) n is =
    let sure = unfailed_bytes first earlier n is in
    on_deed (AreBytesSure (first n)) n other (Synced true) earlier (bytes_sure-synced (first n) (deeds_of n earlier) sure) sure
unfailed_bytes first (Did other (Synced false) ∷ earlier) n is = absurd (true≢false (sym is))
unfailed_bytes first (Did other (Listed done) ∷ earlier) n is =
    let sure = unfailed_bytes first earlier n (both done (list_all is_no_failed_sync earlier) is).1 in
    on_deed (AreBytesSure (first n)) n other (Listed done) earlier (bytes_sure-listed (first n) (deeds_of n earlier) done sure) sure
unfailed_bytes first (SyncedFolder done ∷ earlier) n is =
    bytes_sure-listed (first n) (deeds_of n earlier) done (unfailed_bytes first earlier n (both done (list_all is_no_failed_sync earlier) is).1)
unfailed_bytes first (SyncedAround done ∷ earlier) n is = unfailed_bytes first earlier n (both done (list_all is_no_failed_sync earlier) is).1

-- and for each name
pub unfailed_name : (first : Contents) (deeds : List Deed) (n : List ℕ) → IsTrue (list_all is_no_failed_sync deeds) → IsNameSure (first n) (deeds_of n deeds)
unfailed_name first [] n is = name_sure-first (first n)
unfailed_name first (Did other Made ∷ earlier) n is =
    on_deed (IsNameSure (first n)) n other Made earlier (name_sure-made (first n) (deeds_of n earlier)) (unfailed_name first earlier n is)
unfailed_name first (Did other (Wrote at bytes rest) ∷ earlier) n is =
    let sure = unfailed_name first earlier n is in
    on_deed (IsNameSure (first n)) n other (Wrote at bytes rest) earlier (name_sure-wrote (first n) (deeds_of n earlier) at bytes rest sure) sure
unfailed_name first (Did other (Shortened len rest) ∷ earlier) n is =
    let sure = unfailed_name first earlier n is in
    on_deed (IsNameSure (first n)) n other (Shortened len rest) earlier (name_sure-shortened (first n) (deeds_of n earlier) len rest sure) sure
unfailed_name first (Did other (Synced done) ∷ earlier) n is =
    let sure = unfailed_name first earlier n (both done (list_all is_no_failed_sync earlier) is).1 in
    on_deed (IsNameSure (first n)) n other (Synced done) earlier (name_sure-synced (first n) (deeds_of n earlier) done sure) sure
unfailed_name first (Did other (Listed true) ∷ earlier) n is =
    let sure = unfailed_name first earlier n is in
    on_deed (IsNameSure (first n)) n other (Listed true) earlier (name_sure-listed (first n) (deeds_of n earlier) sure) sure
unfailed_name first (Did other (Listed false) ∷ earlier) n is = absurd (true≢false (sym is))
unfailed_name first (SyncedFolder true ∷ earlier) n is = name_sure-listed (first n) (deeds_of n earlier) (unfailed_name first earlier n is)
unfailed_name first (SyncedFolder false ∷ earlier) n is = absurd (true≢false (sym is))
unfailed_name first (SyncedAround done ∷ earlier) n is = unfailed_name first earlier n (both done (list_all is_no_failed_sync earlier) is).1

-- and for the folder's place
pub unfailed_place : (there : Bool) (deeds : List Deed) → IsTrue (list_all is_no_failed_sync deeds) → may_miss there deeds Sync ≡ false
unfailed_place there [] is = refl
unfailed_place there (Did n Made ∷ earlier) is = unfailed_place there earlier is
unfailed_place there (Did n (Wrote at bytes rest) ∷ earlier) is = unfailed_place there earlier is
unfailed_place there (Did n (Shortened len rest) ∷ earlier) is = unfailed_place there earlier is
unfailed_place there (Did n (Synced done) ∷ earlier) is = unfailed_place there earlier (both done (list_all is_no_failed_sync earlier) is).1
unfailed_place there (Did n (Listed done) ∷ earlier) is = unfailed_place there earlier (both done (list_all is_no_failed_sync earlier) is).1
unfailed_place there (SyncedFolder done ∷ earlier) is = unfailed_place there earlier (both done (list_all is_no_failed_sync earlier) is).1
unfailed_place there (SyncedAround true ∷ earlier) is = unfailed_place there earlier is
unfailed_place there (SyncedAround false ∷ earlier) is = absurd (true≢false (sym is))

-- ---- what a sync makes durable

-- once the folder is synced, each name that a sync answers for is on the disk
pub folder_sync_names : (past : FolderPast) (n bytes : List ℕ) → IsNameSure (past.first n) (deeds_of n past.deeds) → contents_of past n ≡ Some bytes → IsNamed (did past (SyncedFolder true)) n
folder_sync_names past n bytes sure is = listed_is_named (past.first n) (deeds_of n past.deeds) bytes sure is

-- Once a file is synced a crash leaves what reads find of it, where its name and the folder are on the disk and no sync of it failed,
-- or what that was to write was written anew.
pub file_sync_is_durable : (name : Kind → ℕ → List ℕ) (past : FolderPast) (reading : Image) (kind : Kind) (file : ℕ)
    → FolderIs name past reading → file < file_count reading kind → IsNamed past (name kind file)
    → AreBytesSure (past.first (name kind file)) (deeds_of (name kind file) past.deeds)
    → Leaves (images_of name (did_to past (name kind file) (Synced true))) (HasFile kind file (file_of reading kind file))
file_sync_is_durable name past reading kind file is there named sure =
    let n : List ℕ = name kind file in
    file_is_durable name (did_to past n (Synced true)) kind file (file_of reading kind file) (omega (arith, there, is.seen.few kind)) is.placed
    (subst (λ (deeds : List FileDeed). may_lack (past.first n) deeds Crash ≡ false) (sym (deeds_of-same n (Synced true) past.deeds)) named)
    (λ held holds.
    same_Some held (file_of reading kind file)
    (sym (sure held (subst (λ (deeds : List FileDeed). MayHold (past.first n) deeds Crash held) (deeds_of-same n (Synced true) past.deeds) holds))
    ∙ is.seen.there kind file there))

-- A folder of which no sync has failed is a disk once it and the folder around it were synced, with each name on the disk.
pub opened_is_disk : (name : Kind → ℕ → List ℕ) (past : FolderPast) (reading : Image) → IsUnfailed past → IsSeen name (contents_of past) reading
    → FolderIs name (did (did past (SyncedFolder true)) (SyncedAround true)) reading
opened_is_disk name past reading unfailed seen = record {
  seen = seen-same name (contents_of past) (contents_of (did (did past (SyncedFolder true)) (SyncedAround true))) reading (λ n. refl) seen;
  placed = unfailed_place past.there past.deeds unfailed;
  named = λ kind file inside.
      folder_sync_names past (name kind file) (file_of reading kind file) (unfailed_name past.first past.deeds (name kind file) unfailed)
      (seen.there kind file (omega (arith, inside)));
}

pub opened_is_named : (name : Kind → ℕ → List ℕ) (past : FolderPast) (reading : Image) (kind : Kind) (file : ℕ)
    → IsUnfailed past → IsSeen name (contents_of past) reading → file < file_count reading kind
    → IsNamed (did (did past (SyncedFolder true)) (SyncedAround true)) (name kind file)
opened_is_named name past reading kind file unfailed seen there =
    folder_sync_names past (name kind file) (file_of reading kind file) (unfailed_name past.first past.deeds (name kind file) unfailed) (seen.there kind file there)

-- A file that is made in a folder that is on the disk, and the folder then synced, is there after a crash, with the bytes that a crash
-- may leave of it: none.
pub new_file_is_durable : (name : Kind → ℕ → List ℕ) (past : FolderPast) (reading : Image) (kind : Kind)
    → file_count reading kind < 2 ^ 32 → IsPlaced past
    → Leaves (images_of name (did (did_to past (name kind (file_count reading kind)) Made) (SyncedFolder true))) (HasFile kind (file_count reading kind) [])
new_file_is_durable name past reading kind room placed =
    let n : List ℕ = name kind (file_count reading kind) in
    file_is_durable name (did (did_to past n Made) (SyncedFolder true)) kind (file_count reading kind) [] room placed
    (subst (λ (deeds : List FileDeed). may_lack (past.first n) (Listed true ∷ deeds) Crash ≡ false) (sym (deeds_of-same n Made past.deeds)) refl)
    (λ held holds. subst (λ (deeds : List FileDeed). MayHold (past.first n) (Listed true ∷ deeds) Crash held) (deeds_of-same n Made past.deeds) holds)
