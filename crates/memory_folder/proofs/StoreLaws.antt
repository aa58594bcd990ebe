-- That the entries keep what was done, from deed to deed.
use Rattle.std.proofs.Common.{◌≡◌, ◌≢◌, ◌≤◌, ◌+◌, ◌-◌, ◌⊎◌, ℕ, Bool, true, false, not, ◌||◌, ◌&&◌, if◌then◌else◌, IsTrue, Option, Some, None, is_some, List, [], ◌∷◌, ◌++◌, length, take, get_or, refl, sym, ap, ◌∙◌, subst, arith, ⊎_elim, inl, inr, true≢false}
use Rattle.std.specs.Option.{option_map, unwrap_or}
use Rattle.std.specs.Str.{bytes_eq, IsUtf8}
use Rattle.std.proofs.lemmas.List.{take_all}
use Rattle.std.proofs.lemmas.Option.{none-some, same_Some}
use Rattle.disk_model.specs.Image.{written}
use Rattle.disk_model.specs.Crash.{Torn, Cut}
use Rattle.disk_model.specs.steps.CrashLaws.{torn_none, cut_none}
use Rattle.folder_model.specs.Calls.{Lists}
use Rattle.folder_model.specs.File.{FileDeed, Made, Wrote, Shortened, Synced, Listed, Sync, Crash, read_of, MayHold, may_lack, IsLeft}
use Rattle.folder_model.specs.Folder.{FolderPast, Deed, Did, SyncedFolder, SyncedAround, did, did_to, deeds_of, contents_of, may_miss, MayLeave, IsUnfailed, is_no_failed_sync}
use Rattle.folder_model.specs.steps.FileLaws.{none_may_lack, lack_then_crash}
use Rattle.folder_model.specs.steps.FolderLaws.{names_cases, deeds_of-same, deeds_of-other}
use Rattle.memory_folder.specs.Standing.{is_sure, after_sync}
use Rattle.memory_folder.specs.Entry.{Entry, left, steps_synced, found, changed, with_step, entry_synced, entry_listed, all_listed, names_of, AreApart, is_left, left_entry, left_entries, leaves_names, reading, no_entry, IsPlace}
use Rattle.memory_folder.specs.Past.{Keeps, Matches, IsOf, past_of, nothing_done, all_settled, entry_bound, bound}
use Rattle.memory_folder.specs.declared.budget.Budget.{Budget}
use Rattle.memory_folder.specs.declared.budget.Budget.TheVariants.{All}
use Rattle.memory_folder.specs.declared.standing.Standing.{Standing}
use Rattle.memory_folder.specs.declared.standing.Standing.TheVariants.{Fresh, Sure}
use Rattle.memory_folder.specs.declared.step.Step.{Step}
use Rattle.memory_folder.specs.declared.step.Step.TheVariants.{Write, Truncate}
use Rattle.memory_folder.proofs.StepLaws.{rest_of, left_push, left_all-push, write_torn, truncate_cut, written_none, named_twice, after_failed, steps_twice, steps_synced-push, left_all-synced, left-failed, left_bound, bound-synced}
use Rattle.memory_folder.proofs.EntriesLaws.{KeepsName, found-changed, found-others, found-listed, found-push_new, found-push_other, found-left, left_found, found-place, apart-changed, apart-listed, apart-push, apart-left, named_is_found, found_is_named, names_distinct}

-- ---- one file

pub keeps-wrote : (entry : Entry) (first : Option (List ℕ)) (deeds : List FileDeed) (at : ℕ) (some : List ℕ) (rest : ℕ) → Keeps entry first deeds
    → Keeps (with_step (Write at some Fresh) entry) first (Wrote at some rest ∷ deeds)
keeps-wrote entry first deeds at some rest keeps = record {
  read =
      ap (λ (o : Option (List ℕ)). option_map (λ (old : List ℕ). written old at some) o) keeps.read
      ∙ ap (λ (xs : List ℕ). Some xs) (sym (left_all-push entry.steps (Write at some Fresh) entry.base));
  crash = λ budget. (
    left budget entry.steps entry.base,
    keeps.crash budget,
    subst (Torn at (length some + rest) (left budget entry.steps entry.base)) (sym (left_push budget entry.steps (Write at some Fresh) entry.base))
        (write_torn (rest_of budget entry.steps) at some rest (left budget entry.steps entry.base)),
  );
  sync = λ budget. (
    left budget (steps_synced true entry.steps) entry.base,
    keeps.sync budget,
    ap (λ (steps : List Step). left budget steps entry.base) (steps_synced-push true entry.steps (Write at some Fresh))
        ∙ left_push budget (steps_synced true entry.steps) (Write at some Sure) entry.base,
  );
  lacking = keeps.lacking;
  doubted = keeps.doubted;
}

pub keeps-shortened : (entry : Entry) (first : Option (List ℕ)) (deeds : List FileDeed) (len : ℕ) → Keeps entry first deeds
    → Keeps (with_step (Truncate len Fresh) entry) first (Shortened len 0 ∷ deeds)
keeps-shortened entry first deeds len keeps = record {
  read =
      ap (λ (o : Option (List ℕ)). option_map (take len) o) keeps.read
      ∙ ap (λ (xs : List ℕ). Some xs) (sym (left_all-push entry.steps (Truncate len Fresh) entry.base));
  crash = λ budget. (
    left budget entry.steps entry.base,
    keeps.crash budget,
    subst (Cut (len - 0) (left budget entry.steps entry.base)) (sym (left_push budget entry.steps (Truncate len Fresh) entry.base))
        (truncate_cut (rest_of budget entry.steps) len (left budget entry.steps entry.base)),
  );
  sync = λ budget. (
    left budget (steps_synced true entry.steps) entry.base,
    keeps.sync budget,
    ap (λ (steps : List Step). left budget steps entry.base) (steps_synced-push true entry.steps (Truncate len Fresh))
        ∙ left_push budget (steps_synced true entry.steps) (Truncate len Sure) entry.base,
  );
  lacking = keeps.lacking;
  doubted = keeps.doubted;
}

-- where nothing was written
pub keeps-wrote_none : (entry : Entry) (first : Option (List ℕ)) (deeds : List FileDeed) (at rest : ℕ) → Keeps entry first deeds → Keeps entry first (Wrote at [] rest ∷ deeds)
keeps-wrote_none entry first deeds at rest keeps = record {
  read =
      ap (λ (o : Option (List ℕ)). option_map (λ (old : List ℕ). written old at []) o) keeps.read
      ∙ ap (λ (xs : List ℕ). Some xs) (written_none (left All entry.steps entry.base) at);
  crash = λ budget. (left budget entry.steps entry.base, keeps.crash budget, torn_none at (length {A = ℕ} [] + rest) (left budget entry.steps entry.base));
  sync = λ budget. (left budget (steps_synced true entry.steps) entry.base, keeps.sync budget, sym (written_none (left budget (steps_synced true entry.steps) entry.base) at));
  lacking = keeps.lacking;
  doubted = keeps.doubted;
}

-- and where nothing was cut
pub keeps-shortened_none : (entry : Entry) (first : Option (List ℕ)) (deeds : List FileDeed) (len rest : ℕ) → bound entry.steps (length entry.base) ≤ len → Keeps entry first deeds
    → Keeps entry first (Shortened len rest ∷ deeds)
keeps-shortened_none entry first deeds len rest long keeps = record {
  read = ap (λ (o : Option (List ℕ)). option_map (take len) o) keeps.read ∙ ap (λ (xs : List ℕ). Some xs) (all All entry.steps (omega (arith, long)));
  crash = λ budget. (left budget entry.steps entry.base, keeps.crash budget, cut_none (len - rest) (left budget entry.steps entry.base));
  sync = λ budget. (
    left budget (steps_synced true entry.steps) entry.base,
    keeps.sync budget,
    sym (all budget (steps_synced true entry.steps) (omega (arith, long, bound-synced true entry.steps (length entry.base)))),
  );
  lacking = keeps.lacking;
  doubted = keeps.doubted;
}
  where
    all : (budget : Budget) (steps : List Step) → bound steps (length entry.base) ≤ len → take len (left budget steps entry.base) ≡ left budget steps entry.base
    all budget steps short = take_all len (left budget steps entry.base) (omega (arith, short, left_bound budget steps entry.base (length entry.base) (omega arith)))

pub keeps-synced : (entry : Entry) (first : Option (List ℕ)) (deeds : List FileDeed) (done : Bool) → Keeps entry first deeds → Keeps (entry_synced done entry) first (Synced done ∷ deeds)
keeps-synced entry first deeds true keeps = record {
  read = keeps.read ∙ ap (λ (xs : List ℕ). Some xs) (sym (left_all-synced true entry.steps entry.base));
  crash = keeps.sync;
  sync = λ budget. subst (λ (steps : List Step). MayHold first deeds Sync (left budget steps entry.base)) (sym (steps_twice true entry.steps)) (keeps.sync budget);
  lacking = keeps.lacking;
  doubted = keeps.doubted;
}
keeps-synced entry first deeds false keeps = record {
  read = keeps.read ∙ ap (λ (xs : List ℕ). Some xs) (sym (left_all-synced false entry.steps entry.base));
  crash = λ budget. subst (MayHold first deeds Crash) (sym (left-failed budget entry.steps entry.base)) (keeps.crash budget);
  sync = λ budget. subst (MayHold first deeds Crash)
      (sym (ap (λ (steps : List Step). left budget steps entry.base) (steps_twice false entry.steps) ∙ left-failed budget entry.steps entry.base)) (keeps.crash budget);
  lacking = keeps.lacking;
  doubted = keeps.doubted;
}

pub keeps-listed : (entry : Entry) (first : Option (List ℕ)) (deeds : List FileDeed) (done : Bool) → Keeps entry first deeds → Keeps (entry_listed done entry) first (Listed done ∷ deeds)
keeps-listed entry first deeds true keeps = record {
  read = keeps.read;
  crash = keeps.crash;
  sync = keeps.sync;
  lacking = keeps.doubted;
  doubted = λ unsure. keeps.doubted (sym (named_twice true entry.named) ∙ unsure);
}
keeps-listed entry first deeds false keeps = record {
  read = keeps.read;
  crash = keeps.crash;
  sync = keeps.sync;
  lacking = λ unsure. keeps.lacking (sym (after_failed entry.named) ∙ unsure);
  doubted = λ unsure. keeps.lacking (sym (after_failed entry.named) ∙ sym (named_twice false entry.named) ∙ unsure);
}

pub keeps-made : (name : List ℕ) (first : Option (List ℕ)) (deeds : List FileDeed) → Keeps (record { name = name; base = []; steps = []; named = Fresh }) first (Made ∷ deeds)
keeps-made name first deeds = record {
  read = refl;
  crash = λ budget. refl;
  sync = λ budget. refl;
  lacking = λ unsure. refl;
  doubted = λ unsure. absurd (true≢false unsure);
}

-- ---- no file

abbrev pub LeavesNone : FileDeed → Type 0
LeavesNone deed = (first : Option (List ℕ)) (deeds : List FileDeed) → read_of first deeds ≡ None → read_of first (deed ∷ deeds) ≡ None

pub none-wrote : (at : ℕ) (some : List ℕ) (rest : ℕ) → LeavesNone (Wrote at some rest)
none-wrote at some rest first deeds none = ap (λ (o : Option (List ℕ)). option_map (λ (old : List ℕ). written old at some) o) none

pub none-shortened : (len rest : ℕ) → LeavesNone (Shortened len rest)
none-shortened len rest first deeds none = ap (λ (o : Option (List ℕ)). option_map (take len) o) none

-- ---- the folder

pub matches_more : (deed : FileDeed) (change : Entry → Entry) (o : Option Entry) (first : Option (List ℕ)) (deeds : List FileDeed) → LeavesNone deed
    → ((entry : Entry) → o ≡ Some entry → Keeps entry first deeds → Keeps (change entry) first (deed ∷ deeds)) → Matches o first deeds → Matches (option_map change o) first (deed ∷ deeds)
matches_more deed change None first deeds none some is = none first deeds is
matches_more deed change (Some entry) first deeds none some is = some entry refl is

pub unfailed-more : (past : FolderPast) (deed : Deed) (failed : Bool) → is_no_failed_sync deed ≡ true → (failed ≡ false → IsUnfailed past) → failed ≡ false → IsUnfailed (did past deed)
unfailed-more past deed failed no_sync unfailed is = both (is_no_failed_sync deed) _ no_sync (unfailed is)
  where
    both : (a b : Bool) → a ≡ true → IsTrue b → IsTrue (a && b)
    both true b is holds = holds
    both false b is holds = absurd (true≢false (sym is))

pub unfailed-synced : (past : FolderPast) (deed : Deed) (done failed : Bool) → is_no_failed_sync deed ≡ done → (failed ≡ false → IsUnfailed past) → (failed || not done) ≡ false → IsUnfailed (did past deed)
unfailed-synced past deed true failed is unfailed none = unfailed-more past deed failed is unfailed (or_false failed none)
  where
    or_false : (b : Bool) → (b || false) ≡ false → b ≡ false
    or_false true is = is
    or_false false is = refl
unfailed-synced past deed false failed is unfailed none = absurd (true≢false (sym (or_true failed) ∙ none))
  where
    or_true : (b : Bool) → (b || true) ≡ true
    or_true true = refl
    or_true false = refl

-- after a deed to one file, where the entries are others for it alone
pub is_of-did : (old new : List Entry) (placed : Standing) (before now : Bool) (past : FolderPast) (name : List ℕ) (deed : FileDeed)
    → IsOf old placed before past → AreApart new → ((m : List ℕ) → m ≢ name → found new m ≡ found old m)
    → Matches (found new name) (past.first name) (deed ∷ deeds_of name past.deeds) → (now ≡ false → IsUnfailed (did_to past name deed))
    → IsOf new placed now (did_to past name deed)
is_of-did old new placed before now past name deed is apart others same unfailed = record {
  files = λ m. ⊎_elim
      (λ it. subst (λ (n : List ℕ). Matches (found new n) (past.first n) (deeds_of n (Did name deed ∷ past.deeds))) (sym it.0)
      (subst (Matches (found new name) (past.first name)) (sym (deeds_of-same name deed past.deeds)) same))
      (λ other. subst (λ (o : Option Entry). Matches o (past.first m) (deeds_of m (Did name deed ∷ past.deeds))) (sym (others m other.0))
      (subst (Matches (found old m) (past.first m)) (sym (deeds_of-other m name deed past.deeds other.0)) (is.files m)))
      (names_cases m name);
  apart = apart;
  missing = is.missing;
  unplaced = is.unplaced;
  unfailed = unfailed;
}

-- where one entry was changed
pub is_of-changed : (entries : List Entry) (placed : Standing) (before now : Bool) (past : FolderPast) (name : List ℕ) (deed : FileDeed) (change : Entry → Entry)
    → KeepsName change → LeavesNone deed → ((entry : Entry) → Keeps entry (past.first name) (deeds_of name past.deeds) → Keeps (change entry) (past.first name) (deed ∷ deeds_of name past.deeds))
    → (now ≡ false → IsUnfailed (did_to past name deed)) → IsOf entries placed before past → IsOf (changed change name entries) placed now (did_to past name deed)
is_of-changed entries placed before now past name deed change keeps none some unfailed is =
    is_of-did entries (changed change name entries) placed before now past name deed is (apart-changed change keeps entries name is.apart)
    (found-others change keeps entries name)
    (subst (λ (o : Option Entry). Matches o (past.first name) (deed ∷ deeds_of name past.deeds)) (sym (found-changed change keeps entries name))
    (matches_more deed change (found entries name) (past.first name) (deeds_of name past.deeds) none (λ entry found. some entry) (is.files name)))
    unfailed

-- where none was
pub is_of-same : (entries : List Entry) (placed : Standing) (before now : Bool) (past : FolderPast) (name : List ℕ) (deed : FileDeed)
    → LeavesNone deed → ((entry : Entry) → found entries name ≡ Some entry → Keeps entry (past.first name) (deeds_of name past.deeds) → Keeps entry (past.first name) (deed ∷ deeds_of name past.deeds))
    → (now ≡ false → IsUnfailed (did_to past name deed)) → IsOf entries placed before past → IsOf entries placed now (did_to past name deed)
is_of-same entries placed before now past name deed none some unfailed is =
    is_of-did entries entries placed before now past name deed is is.apart (λ m other. refl)
    (subst (λ (o : Option Entry). Matches o (past.first name) (deed ∷ deeds_of name past.deeds)) (map_same (found entries name))
    (matches_more deed (λ entry. entry) (found entries name) (past.first name) (deeds_of name past.deeds) none some (is.files name)))
    unfailed
  where
    map_same : (o : Option Entry) → option_map (λ (entry : Entry). entry) o ≡ o
    map_same None = refl
    map_same (Some entry) = refl

pub is_of-wrote : (entries : List Entry) (placed : Standing) (failed : Bool) (past : FolderPast) (name : List ℕ) (at : ℕ) (some : List ℕ) (rest : ℕ)
    → IsOf entries placed failed past → IsOf (changed (with_step (Write at some Fresh)) name entries) placed failed (did_to past name (Wrote at some rest))
is_of-wrote entries placed failed past name at some rest is =
    is_of-changed entries placed failed failed past name (Wrote at some rest) (with_step (Write at some Fresh)) (λ entry. refl) (none-wrote at some rest)
    (λ entry. keeps-wrote entry (past.first name) (deeds_of name past.deeds) at some rest)
    (unfailed-more past (Did name (Wrote at some rest)) failed refl is.unfailed) is

pub is_of-wrote_none : (entries : List Entry) (placed : Standing) (failed : Bool) (past : FolderPast) (name : List ℕ) (at rest : ℕ)
    → IsOf entries placed failed past → IsOf entries placed failed (did_to past name (Wrote at [] rest))
is_of-wrote_none entries placed failed past name at rest is =
    is_of-same entries placed failed failed past name (Wrote at [] rest) (none-wrote at [] rest)
    (λ entry there. keeps-wrote_none entry (past.first name) (deeds_of name past.deeds) at rest)
    (unfailed-more past (Did name (Wrote at [] rest)) failed refl is.unfailed) is

pub is_of-shortened : (entries : List Entry) (placed : Standing) (failed : Bool) (past : FolderPast) (name : List ℕ) (len : ℕ)
    → IsOf entries placed failed past → IsOf (changed (with_step (Truncate len Fresh)) name entries) placed failed (did_to past name (Shortened len 0))
is_of-shortened entries placed failed past name len is =
    is_of-changed entries placed failed failed past name (Shortened len 0) (with_step (Truncate len Fresh)) (λ entry. refl) (none-shortened len 0)
    (λ entry. keeps-shortened entry (past.first name) (deeds_of name past.deeds) len)
    (unfailed-more past (Did name (Shortened len 0)) failed refl is.unfailed) is

pub is_of-shortened_none : (entries : List Entry) (placed : Standing) (failed : Bool) (past : FolderPast) (name : List ℕ) (len : ℕ)
    → IsOf entries placed failed past → IsOf entries placed failed (did_to past name (Shortened (len + entry_bound (found entries name)) (entry_bound (found entries name))))
is_of-shortened_none entries placed failed past name len is =
    let rest = entry_bound (found entries name) in
    is_of-same entries placed failed failed past name (Shortened (len + rest) rest) (none-shortened (len + rest) rest)
    (λ entry there. keeps-shortened_none entry (past.first name) (deeds_of name past.deeds) (len + rest) rest (omega (arith, ap entry_bound there)))
    (unfailed-more past (Did name (Shortened (len + rest) rest)) failed refl is.unfailed) is

pub is_of-synced : (entries : List Entry) (placed : Standing) (failed : Bool) (past : FolderPast) (name : List ℕ) (done : Bool)
    → IsOf entries placed failed past → IsOf (changed (entry_synced done) name entries) placed (failed || not done) (did_to past name (Synced done))
is_of-synced entries placed failed past name done is =
    is_of-changed entries placed failed (failed || not done) past name (Synced done) (entry_synced done) (λ entry. refl) (λ first deeds none. none)
    (λ entry. keeps-synced entry (past.first name) (deeds_of name past.deeds) done)
    (unfailed-synced past (Did name (Synced done)) done failed refl is.unfailed) is

pub is_of-listed : (entries : List Entry) (placed : Standing) (failed : Bool) (past : FolderPast) (done : Bool)
    → IsOf entries placed failed past → IsOf (all_listed done entries) placed (failed || not done) (did past (SyncedFolder done))
is_of-listed entries placed failed past done is = record {
  files = λ m. subst (λ (o : Option Entry). Matches o (past.first m) (Listed done ∷ deeds_of m past.deeds)) (sym (found-listed done entries m))
      (matches_more (Listed done) (entry_listed done) (found entries m) (past.first m) (deeds_of m past.deeds) (λ first deeds none. none)
      (λ entry there. keeps-listed entry (past.first m) (deeds_of m past.deeds) done) (is.files m));
  apart = apart-listed done entries is.apart;
  missing = is.missing;
  unplaced = is.unplaced;
  unfailed = unfailed-synced past (SyncedFolder done) done failed refl is.unfailed;
}

pub is_of-placed : (entries : List Entry) (placed : Standing) (failed : Bool) (past : FolderPast) (done : Bool)
    → IsOf entries placed failed past → IsOf entries (after_sync done placed) (failed || not done) (did past (SyncedAround done))
is_of-placed entries placed failed past true is = record {
  files = is.files;
  apart = is.apart;
  missing = is.unplaced;
  unplaced = λ unsure. is.unplaced (sym (named_twice true placed) ∙ unsure);
  unfailed = unfailed-synced past (SyncedAround true) true failed refl is.unfailed;
}
is_of-placed entries placed failed past false is = record {
  files = is.files;
  apart = is.apart;
  missing = λ unsure. is.missing (sym (after_failed placed) ∙ unsure);
  unplaced = λ unsure. is.missing (sym (after_failed placed) ∙ sym (named_twice false placed) ∙ unsure);
  unfailed = unfailed-synced past (SyncedAround false) false failed refl is.unfailed;
}

-- what there is by what is found
pub contents_none : (o : Option Entry) (first : Option (List ℕ)) (deeds : List FileDeed) → Matches o first deeds → read_of first deeds ≡ None → o ≡ None
contents_none None first deeds is none = refl
contents_none (Some entry) first deeds is none = absurd (none-some (left All entry.steps entry.base) (sym none ∙ is.read))

pub contents_some : (o : Option Entry) (first : Option (List ℕ)) (deeds : List FileDeed) (entry : Entry) → Matches o first deeds → o ≡ Some entry → read_of first deeds ≡ Some (left All entry.steps entry.base)
contents_some o first deeds entry is there = (subst (λ (p : Option Entry). Matches p first deeds) there is).read

pub is_of-made : (entries : List Entry) (placed : Standing) (failed : Bool) (past : FolderPast) (name : List ℕ) → contents_of past name ≡ None
    → IsOf entries placed failed past → IsOf (entries ++ record { name = name; base = []; steps = []; named = Fresh } ∷ []) placed failed (did_to past name Made)
is_of-made entries placed failed past name none is =
    let entry : Entry = record { name = name; base = []; steps = []; named = Fresh } in
    let new : found entries name ≡ None = contents_none (found entries name) (past.first name) (deeds_of name past.deeds) (is.files name) none in
    is_of-did entries (entries ++ entry ∷ []) placed failed failed past name Made is (apart-push entries entry new is.apart)
    (found-push_other entries entry)
    (subst (λ (o : Option Entry). Matches o (past.first name) (Made ∷ deeds_of name past.deeds)) (sym (found-push_new entries entry new)) (keeps-made name (past.first name) (deeds_of name past.deeds)))
    (unfailed-more past (Did name Made) failed refl is.unfailed)

pub is_of-new : (there : Bool) (placed : Standing) → is_sure placed ≡ there → is_sure (after_sync true placed) ≡ true → IsOf [] placed false (past_of (nothing_done there))
is_of-new there placed is sure = record {
  files = λ name. refl;
  apart = tt;
  missing = λ unsure. ap not (sym is ∙ unsure);
  unplaced = λ unsure. absurd (true≢false (sym sure ∙ unsure));
  unfailed = λ failed. refl;
}

-- ---- what a stop leaves

settled_match : (budget : Budget) (o : Option Entry) → Matches (left_found budget o) (option_map (λ (entry : Entry). entry.base) (left_found budget o)) []
settled_match budget None = refl
settled_match budget (Some entry) = by_left (is_left budget entry)
  where
    by_left : (b : Bool) → Matches (if b then Some (left_entry budget entry) else None) (option_map (λ (e : Entry). e.base) (if b then Some (left_entry budget entry) else None)) []
    by_left true = record {
      read = refl;
      crash = λ other. refl;
      sync = λ other. refl;
      lacking = λ unsure. absurd (true≢false unsure);
      doubted = λ unsure. absurd (true≢false unsure);
    }
    by_left false = refl

pub is_of-settled : (budget : Budget) (entries : List Entry) → AreApart entries → IsOf (left_entries budget entries) Sure false (past_of (all_settled (left_entries budget entries)))
is_of-settled budget entries apart = record {
  files = λ name. subst (λ (o : Option Entry). Matches o (option_map (λ (entry : Entry). entry.base) o) []) (sym (found-left budget entries apart name)) (settled_match budget (found entries name));
  apart = apart-left budget entries apart;
  missing = λ unsure. absurd (true≢false unsure);
  unplaced = λ unsure. absurd (true≢false unsure);
  unfailed = λ failed. refl;
}

left_is_left : (budget : Budget) (o : Option Entry) (first : Option (List ℕ)) (deeds : List FileDeed) → Matches o first deeds
    → IsLeft first deeds (option_map (λ (entry : Entry). entry.base) (left_found budget o))
left_is_left budget None first deeds is = lack_then_crash first deeds (none_may_lack first deeds is)
left_is_left budget (Some entry) first deeds is = by_left (is_left budget entry) refl
  where
    unsure : (a b : Bool) → (a || b) ≡ false → b ≡ false
    unsure true b is = absurd (true≢false is)
    unsure false b is = is

    by_left : (b : Bool) → is_left budget entry ≡ b → IsLeft first deeds (option_map (λ (e : Entry). e.base) (if b then Some (left_entry budget entry) else None))
    by_left true left = is.crash budget
    by_left false gone = is.lacking (unsure (leaves_names budget) (is_sure entry.named) gone)

pub stop_leaves : (budget : Budget) (entries : List Entry) (placed : Standing) (failed : Bool) (past : FolderPast) → IsOf entries placed failed past
    → MayLeave past (contents_of (past_of (all_settled (left_entries budget entries))))
stop_leaves budget entries placed failed past is =
    inr (λ name. subst (λ (o : Option Entry). IsLeft (past.first name) (deeds_of name past.deeds) (option_map (λ (entry : Entry). entry.base) o)) (sym (found-left budget entries is.apart name))
    (left_is_left budget (found entries name) (past.first name) (deeds_of name past.deeds) (is.files name)))

pub gone_leaves : (entries : List Entry) (placed : Standing) (failed : Bool) (past : FolderPast) → is_sure placed ≡ false → IsOf entries placed failed past → MayLeave past (λ name. None)
gone_leaves entries placed failed past unsure is = inl (is.missing unsure, λ name. refl)

-- ---- a list

pub listed_names : (entries : List Entry) (placed : Standing) (failed : Bool) (past : FolderPast) (old new : List (List ℕ)) → IsOf entries placed failed past → new ≡ old ++ names_of entries
    → Lists (contents_of past) old new
listed_names entries placed failed past old new is further = record {
  names = names_of entries;
  further = further;
  there = λ name has none. named_is_found entries name has (contents_none (found entries name) (past.first name) (deeds_of name past.deeds) (is.files name) none);
  each = λ name text some. found_is_named entries name (λ none. some (absent (found entries name) (past.first name) (deeds_of name past.deeds) (is.files name) none));
  once = names_distinct entries is.apart;
}
  where
    absent : (o : Option Entry) (first : Option (List ℕ)) (deeds : List FileDeed) → Matches o first deeds → o ≡ None → read_of first deeds ≡ None
    absent None first deeds is none = is
    absent (Some entry) first deeds is none = absurd (none-some entry (sym none))

-- ---- as the code finds it

pub moved : {old new : List Entry} {placed stands : Standing} {before now : Bool} {past later : FolderPast} → new ≡ old → stands ≡ placed → now ≡ before → later ≡ past
    → IsOf old placed before past → IsOf new stands now later
moved {old} {new} {placed} {stands} {before} {now} {past} {later} entries standing failed deeds is =
    subst (λ (es : List Entry). IsOf es stands now later) (sym entries)
    (subst (λ (s : Standing). IsOf old s now later) (sym standing)
    (subst (λ (b : Bool). IsOf old placed b later) (sym failed)
    (subst (λ (p : FolderPast). IsOf old placed before p) (sym deeds) is)))

pub found_at : (entries : List Entry) (placed : Standing) (failed : Bool) (past : FolderPast) (name : List ℕ) (i : ℕ) → IsOf entries placed failed past → IsPlace entries name i
    → contents_of past name ≡ Some (reading (get_or entries i no_entry))
found_at entries placed failed past name i is place =
    contents_some (found entries name) (past.first name) (deeds_of name past.deeds) (get_or entries i no_entry) (is.files name) (found-place entries name i no_entry place)

pub found_none : (entries : List Entry) (placed : Standing) (failed : Bool) (past : FolderPast) (name : List ℕ) → IsOf entries placed failed past → found entries name ≡ None
    → contents_of past name ≡ None
found_none entries placed failed past name is none = subst (λ (o : Option Entry). Matches o (past.first name) (deeds_of name past.deeds)) none (is.files name)
