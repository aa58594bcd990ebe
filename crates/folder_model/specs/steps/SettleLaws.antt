-- Laws of a file that was to be made and may be there: it, the folder and the folder around it are synced.
use Rattle.std.proofs.Common.{◌^◌, ◌≡◌, ◌≢◌, ◌⊎◌, ◌<◌, ◌≤◌, ◌+◌, ℕ, Bool, true, false, Option, List, [], ◌∷◌, ◌++◌, drop, refl, sym, ap, ◌∙◌, subst, inl, inr, ⊎_elim, arith}
use Rattle.std.proofs.lemmas.Bool.{cases_lt}
use Rattle.disk_model.specs.declared.kind.Kind.{Kind}
use Rattle.disk_model.specs.Image.{Image, IsApart, file_count, file_of}
use Rattle.disk_model.specs.Crash.{Elapses}
use Rattle.disk_model.specs.steps.ImageLaws.{same_or_apart, same_kind_or_other}
use Rattle.folder_model.specs.File.{Synced, AreBytesSure}
use Rattle.folder_model.specs.Folder.{Deed, Did, SyncedFolder, SyncedAround, FolderPast, did_to, deeds_of, IsNameSureAt, AreBytesLeftAt}
use Rattle.folder_model.specs.Seen.{images_of, IsNamed}
use Rattle.folder_model.specs.Times.{Times, moment_of, goes_on, images_since_of}
use Rattle.folder_model.specs.Known.{IsInDoubt, Knows}
use Rattle.folder_model.specs.DiskCalls.{SyncsLeave}
use Rattle.folder_model.specs.Whole.{AreSyncs, OnlySyncs, settled_durably}
use Rattle.folder_model.specs.steps.FileLaws.{bytes_left-sure}
use Rattle.folder_model.specs.steps.FolderLaws.{names_cases}
use Rattle.folder_model.specs.steps.KnownLaws.{syncs_folder_is}
use Rattle.folder_model.specs.steps.ReadingLaws.{contents_of-same}
use Rattle.folder_model.specs.steps.SureLaws.{folder_sync_names}
use Rattle.folder_model.specs.steps.SyncLaws.{syncs_within, fewer_syncs, syncs_named, syncs_left, syncs_sure, names_synced}
use Rattle.folder_model.specs.steps.TimeLaws.{goes_on_timed, deeds_elapse}

module _ (name : Kind → ℕ → List ℕ) (kind : Kind) (old : FolderPast) (known : Kind → ℕ) (gave_up : Bool) (doubts : Kind → Option ℕ) (times : Times) (reading : Image)
    (knows : Knows name old known gave_up doubts times reading) (left : AreBytesLeftAt old (name kind (known kind))) where
  -- nothing is left that wasn't left before
  still_left : (deeds : List Deed) → AreSyncs (name kind (known kind)) deeds → (image : Image) → images_of name (record old { deeds = deeds ++ old.deeds }) image → images_of name old image
  still_left deeds syncs image is = (is.0, syncs_within (name kind (known kind)) old deeds is.0 syncs is.1, is.2)

  settle_time : (deeds : List Deed) → AreSyncs (name kind (known kind)) deeds
      → Elapses (moment_of times) (moment_of (goes_on times (record old { deeds = deeds ++ old.deeds }))) (images_since_of name old times)
      (images_since_of name (record old { deeds = deeds ++ old.deeds }) (goes_on times (record old { deeds = deeds ++ old.deeds })))
      (images_of name (record old { deeds = deeds ++ old.deeds }))
  settle_time deeds syncs = deeds_elapse name old times deeds (images_of name (record old { deeds = deeds ++ old.deeds })) knows.timed
      (λ k image is. inl (still_left (drop k deeds) (fewer_syncs (name kind (known kind)) deeds k syncs) image is))

  -- syncs answer for the file, as for all before
  settle_sure : (deeds : List Deed) → AreSyncs (name kind (known kind)) deeds → (remaining : Kind → Option ℕ)
      → ((m : List ℕ) → IsInDoubt name doubts m → (m ≡ name kind (known kind)) ⊎ IsInDoubt name remaining m) → gave_up ≡ false → (m : List ℕ)
      → IsInDoubt name remaining m ⊎ AreBytesSure (old.first m) (deeds_of m (deeds ++ old.deeds))
  settle_sure deeds syncs remaining settles goes m =
      let n : List ℕ = name kind (known kind) in
      ⊎_elim
      (λ same. inr (subst (λ (k : List ℕ). AreBytesSure (old.first k) (deeds_of k (deeds ++ old.deeds))) (sym same.0)
      (bytes_left-sure (old.first n) (deeds_of n (deeds ++ old.deeds)) (syncs_left n old deeds n syncs left))))
      (λ other.
      ⊎_elim
      (λ doubt. ⊎_elim (λ this. absurd (other.0 this)) (λ still. inl still) (settles m doubt))
      (λ sure. inr (syncs_sure n old deeds m syncs other.0 sure))
      (knows.sure goes m))
      (names_cases m n)

  syncs_leave_now : (deeds : List Deed) → AreSyncs (name kind (known kind)) deeds
      → SyncsLeave name old (record old { deeds = deeds ++ old.deeds }) known gave_up doubts times reading
  syncs_leave_now deeds syncs = record {
    knows = record {
      is = syncs_folder_is name (name kind (known kind)) old reading deeds syncs knows.is;
      timed = goes_on_timed times old deeds knows.timed;
      numbers = knows.numbers;
      no_fewer = knows.no_fewer;
      one_more = knows.one_more;
      named = λ k f inside. syncs_named (name kind (known kind)) old deeds (name k f) syncs (knows.named k f inside);
      sure = λ goes m. settle_sure deeds syncs doubts (λ m doubt. inr doubt) goes m;
    };
    within = still_left deeds syncs;
    time = settle_time deeds syncs;
  }

  -- whatever syncs of it were done
  pub syncs_leave : (new : FolderPast) → OnlySyncs (name kind (known kind)) old new → SyncsLeave name old new known gave_up doubts times reading
  syncs_leave new only = subst (λ (p : FolderPast). SyncsLeave name old p known gave_up doubts times reading) (sym only.whole) (syncs_leave_now only.deeds only.syncs)

  -- its name is on the disk then
  settled_is_named : known kind < file_count reading kind → IsNameSureAt old (name kind (known kind)) → IsNamed (settled_durably (name kind (known kind)) old) (name kind (known kind))
  settled_is_named there sure =
      let n : List ℕ = name kind (known kind) in
      folder_sync_names (did_to old n (Synced true)) n (file_of reading kind (known kind)) (names_synced old (did_to old n (Synced true)) n n true refl sure)
      (contents_of-same old n (Synced true) ∙ knows.is.seen.there kind (known kind) there)

  -- all of it was done: the disk knows of the file from then on
  pub settled_leaves : (new : FolderPast) (more : Kind → ℕ) (remaining : Kind → Option ℕ) → new ≡ settled_durably (name kind (known kind)) old
      → known kind < file_count reading kind → IsNameSureAt old (name kind (known kind))
      → ((m : List ℕ) → IsInDoubt name doubts m → (m ≡ name kind (known kind)) ⊎ IsInDoubt name remaining m)
      → ((k : Kind) → more k < 2 ^ 32) → more kind ≡ known kind + 1 → ((k : Kind) → k ≢ kind → more k ≡ known k)
      → SyncsLeave name old new more gave_up remaining times reading
  settled_leaves new more remaining whole there sure settles numbers one others =
      subst (λ (p : FolderPast). SyncsLeave name old p more gave_up remaining times reading) (sym whole) (record {
        knows = record {
          is = syncs_folder_is name n old reading deeds (refl, tt) knows.is;
          timed = goes_on_timed times old deeds knows.timed;
          numbers = numbers;
          no_fewer = λ k.
              ⊎_elim
              (λ same. subst (λ (kk : Kind). more kk ≤ file_count reading kk) (sym same) (omega (arith, one, there)))
              (λ differs. omega (arith, others k differs, knows.no_fewer k))
              (same_kind_or_other k kind);
          one_more = λ k.
              ⊎_elim
              (λ same. subst (λ (kk : Kind). file_count reading kk ≤ more kk + 1) (sym same) (omega (arith, one, knows.one_more kind)))
              (λ differs. omega (arith, others k differs, knows.one_more k))
              (same_kind_or_other k kind);
          named = names;
          sure = λ goes m. settle_sure deeds (refl, tt) remaining settles goes m;
        };
        within = still_left deeds (refl, tt);
        time = settle_time deeds (refl, tt);
      })
    where
      n : List ℕ
      n = name kind (known kind)

      deeds : List Deed
      deeds = SyncedAround true ∷ SyncedFolder true ∷ Did (name kind (known kind)) (Synced true) ∷ []

      names : (k : Kind) (f : ℕ) → f < more k → IsNamed (settled_durably (name kind (known kind)) old) (name k f)
      names k f inside =
          ⊎_elim
          (λ same. subst (λ (kk : Kind). IsNamed (settled_durably n old) (name kk f)) (sym same.0)
          (subst (λ (ff : ℕ). IsNamed (settled_durably n old) (name kind ff)) (sym same.1) (settled_is_named there sure)))
          (λ other. syncs_named n old deeds (name k f) (refl, tt) (knows.named k f (earlier other)))
          (same_or_apart kind (known kind) k f)
        where
          earlier : IsApart kind (known kind) k f → f < known k
          earlier (inl differs) = omega (arith, inside, others k differs)
          earlier (inr differs) =
              ⊎_elim
              (λ same.
              let here : more k ≡ more kind = ap more same in
              let was : known k ≡ known kind = ap known same in
              ⊎_elim (λ before. omega (arith, before, was)) (λ past. absurd (differs (omega (arith, past, inside, here, one)))) (cases_lt f (known kind)))
              (λ apart_kind. omega (arith, inside, others k apart_kind))
              (same_kind_or_other k kind)
