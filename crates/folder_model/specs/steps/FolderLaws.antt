-- Laws of a folder: what a deed adds to what a crash may leave of it.
use Rattle.std.proofs.Common.{◌≡◌, ◌≢◌, ◌⊎◌, ◌+◌, ◌-◌, ℕ, Bool, true, false, IsTrue, if◌then◌else◌, Option, Some, None, List, [], ◌∷◌, length, refl, sym, ap, ◌∙◌, subst, inl, inr, ⊎_elim, true≢false}
use Rattle.std.specs.Str.{bytes_eq}
use Rattle.std.proofs.lemmas.Bool.{cases_Bool}
use Rattle.std.proofs.lemmas.Slice.Eq.{bytes_eq-Decides}
use Rattle.disk_model.specs.Crash.{Torn, Cut}
use Rattle.disk_model.specs.steps.CrashLaws.{torn_none, cut_none}
use Rattle.folder_model.specs.File.{FileDeed, Wrote, Shortened, Synced, Sync, Crash, IsLeft, OnEntry}
use Rattle.folder_model.specs.Folder.{Contents, Deed, Did, SyncedFolder, SyncedAround, FolderPast, did, did_to, deeds_of, may_miss, MayLeave, put_at}
use Rattle.folder_model.specs.steps.FileLaws.{synced_adds_none, listed_adds_none}

-- two names are one, or they aren't
pub names_cases : (a b : List ℕ) → ((a ≡ b) × (bytes_eq a b ≡ true)) ⊎ ((a ≢ b) × (bytes_eq a b ≡ false))
names_cases a b =
    ⊎_elim
    (λ same. inl ((bytes_eq-Decides a b).0 same, same))
    (λ apart. inr ((λ same. true≢false (sym ((bytes_eq-Decides a b).1 same) ∙ apart)), apart))
    (cases_Bool (bytes_eq a b))

same_name : (name : List ℕ) → bytes_eq name name ≡ true
same_name name = (bytes_eq-Decides name name).1 refl

other_name : (a b : List ℕ) → a ≢ b → bytes_eq a b ≡ false
other_name a b apart = ⊎_elim (λ same. absurd (apart same.0)) (λ other. other.1) (names_cases a b)

pub deeds_of-same : (name : List ℕ) (deed : FileDeed) (earlier : List Deed) → deeds_of name (Did name deed ∷ earlier) ≡ deed ∷ deeds_of name earlier
deeds_of-same name deed earlier = ap (λ (b : Bool). if b then deed ∷ deeds_of name earlier else deeds_of name earlier) (same_name name)

pub deeds_of-other : (name other : List ℕ) (deed : FileDeed) (earlier : List Deed) → name ≢ other → deeds_of name (Did other deed ∷ earlier) ≡ deeds_of name earlier
deeds_of-other name other deed earlier apart = ap (λ (b : Bool). if b then deed ∷ deeds_of name earlier else deeds_of name earlier) (other_name name other apart)

pub put_at-same : (name : List ℕ) (entry : Option (List ℕ)) (contents : Contents) → put_at name entry contents name ≡ entry
put_at-same name entry contents = ap (λ (b : Bool). if b then entry else contents name) (same_name name)

pub put_at-other : (name other : List ℕ) (entry : Option (List ℕ)) (contents : Contents) → other ≢ name → put_at name entry contents other ≡ contents other
put_at-other name other entry contents apart = ap (λ (b : Bool). if b then entry else contents other) (other_name other name apart)

-- what a crash left after a deed on a file, seen before it
pub record Before (past : FolderPast) (name : List ℕ) (Step : Option (List ℕ) → Option (List ℕ) → Type 0) (contents : Contents) : Type 0 where
  pub before : Contents
  pub left : MayLeave past before
  pub step : Step (before name) (contents name)
  pub others : (other : List ℕ) → other ≢ name → before other ≡ contents other

pub before_deed : (past : FolderPast) (name : List ℕ) (deed : FileDeed) (Step : Option (List ℕ) → Option (List ℕ) → Type 0)
    → Step None None
    → ((left : Option (List ℕ)) → IsLeft (past.first name) (deed ∷ deeds_of name past.deeds) left
    → (was : Option (List ℕ)) × IsLeft (past.first name) (deeds_of name past.deeds) was × Step was left)
    → (contents : Contents) → MayLeave (did_to past name deed) contents → Before past name Step contents
before_deed past name deed Step nothing back contents (inl missing) = record {
  before = contents;
  left = inl missing;
  step = subst (λ (o : Option (List ℕ)). Step o o) (sym (missing.1 name)) nothing;
  others = λ other apart. refl;
}
before_deed past name deed Step nothing back contents (inr each) =
    let was = back (contents name) (subst (λ (deeds : List FileDeed). IsLeft (past.first name) deeds (contents name)) (deeds_of-same name deed past.deeds) (each name)) in
    record {
      before = put_at name was.0 contents;
      left = inr (λ other.
          ⊎_elim
          (λ same. subst (λ (n : List ℕ). IsLeft (past.first n) (deeds_of n past.deeds) (put_at name was.0 contents n)) (sym same.0)
          (subst (λ (o : Option (List ℕ)). IsLeft (past.first name) (deeds_of name past.deeds) o) (sym (put_at-same name was.0 contents)) was.1))
          (λ apart. subst (λ (o : Option (List ℕ)). IsLeft (past.first other) (deeds_of other past.deeds) o) (sym (put_at-other name other was.0 contents apart.0))
          (subst (λ (deeds : List FileDeed). IsLeft (past.first other) deeds (contents other)) (deeds_of-other other name deed past.deeds apart.0) (each other)))
          (names_cases other name));
      step = subst (λ (o : Option (List ℕ)). Step o (contents name)) (sym (put_at-same name was.0 contents)) was.2;
      others = λ other apart. put_at-other name other was.0 contents apart;
    }

-- of a file
pub wrote_back : (first : Option (List ℕ)) (deeds : List FileDeed) (at : ℕ) (some : List ℕ) (rest : ℕ) (left : Option (List ℕ))
    → IsLeft first (Wrote at some rest ∷ deeds) left
    → (was : Option (List ℕ)) × IsLeft first deeds was × OnEntry (Torn at (length some + rest)) was left
wrote_back first deeds at some rest None is = (None, is, tt)
wrote_back first deeds at some rest (Some bytes) is = (Some is.0, is.1, is.2)

pub shortened_back : (first : Option (List ℕ)) (deeds : List FileDeed) (len rest : ℕ) (left : Option (List ℕ))
    → IsLeft first (Shortened len rest ∷ deeds) left
    → (was : Option (List ℕ)) × IsLeft first deeds was × OnEntry (Cut (len - rest)) was left
shortened_back first deeds len rest None is = (None, is, tt)
shortened_back first deeds len rest (Some bytes) is = (Some is.0, is.1, is.2)

-- a write and a cut take nothing away from what a crash may leave
pub wrote_keeps : (first : Option (List ℕ)) (deeds : List FileDeed) (at : ℕ) (some : List ℕ) (rest : ℕ) (left : Option (List ℕ)) → IsLeft first deeds left → IsLeft first (Wrote at some rest ∷ deeds) left
wrote_keeps first deeds at some rest None is = is
wrote_keeps first deeds at some rest (Some bytes) is = (bytes, is, torn_none at (length some + rest) bytes)

pub shortened_keeps : (first : Option (List ℕ)) (deeds : List FileDeed) (len rest : ℕ) (left : Option (List ℕ)) → IsLeft first deeds left → IsLeft first (Shortened len rest ∷ deeds) left
shortened_keeps first deeds len rest None is = is
shortened_keeps first deeds len rest (Some bytes) is = (bytes, is, cut_none (len - rest) bytes)

-- a deed that adds nothing to what a crash may leave of its file adds nothing
pub adds_none : (past : FolderPast) (name : List ℕ) (deed : FileDeed)
    → ((left : Option (List ℕ)) → IsLeft (past.first name) (deed ∷ deeds_of name past.deeds) left → IsLeft (past.first name) (deeds_of name past.deeds) left)
    → (contents : Contents) → MayLeave (did_to past name deed) contents → MayLeave past contents
adds_none past name deed back contents (inl missing) = inl missing
adds_none past name deed back contents (inr each) = inr (λ other.
    ⊎_elim
    (λ same. subst (λ (n : List ℕ). IsLeft (past.first n) (deeds_of n past.deeds) (contents n)) (sym same.0)
    (back (contents name) (subst (λ (deeds : List FileDeed). IsLeft (past.first name) deeds (contents name)) (deeds_of-same name deed past.deeds) (each name))))
    (λ apart. subst (λ (deeds : List FileDeed). IsLeft (past.first other) deeds (contents other)) (deeds_of-other other name deed past.deeds apart.0) (each other))
    (names_cases other name))

-- and one that takes nothing away takes nothing away
pub takes_none : (past : FolderPast) (name : List ℕ) (deed : FileDeed)
    → ((left : Option (List ℕ)) → IsLeft (past.first name) (deeds_of name past.deeds) left → IsLeft (past.first name) (deed ∷ deeds_of name past.deeds) left)
    → (contents : Contents) → MayLeave past contents → MayLeave (did_to past name deed) contents
takes_none past name deed on contents (inl missing) = inl missing
takes_none past name deed on contents (inr each) = inr (λ other.
    ⊎_elim
    (λ same. subst (λ (n : List ℕ). IsLeft (past.first n) (deeds_of n (Did name deed ∷ past.deeds)) (contents n)) (sym same.0)
    (subst (λ (deeds : List FileDeed). IsLeft (past.first name) deeds (contents name)) (sym (deeds_of-same name deed past.deeds)) (on (contents name) (each name))))
    (λ apart. subst (λ (deeds : List FileDeed). IsLeft (past.first other) deeds (contents other)) (sym (deeds_of-other other name deed past.deeds apart.0)) (each other))
    (names_cases other name))

-- a sync of a file, of the folder or of the one around it, done or failed, adds nothing
pub synced_file : (past : FolderPast) (name : List ℕ) (done : Bool) (contents : Contents) → MayLeave (did_to past name (Synced done)) contents → MayLeave past contents
synced_file past name done = adds_none past name (Synced done) (synced_adds_none (past.first name) (deeds_of name past.deeds) done)

pub synced_folder : (past : FolderPast) (done : Bool) (contents : Contents) → MayLeave (did past (SyncedFolder done)) contents → MayLeave past contents
synced_folder past done contents (inl missing) = inl missing
synced_folder past done contents (inr each) = inr (λ name. listed_adds_none (past.first name) (deeds_of name past.deeds) done (contents name) (each name))

-- what may be missing after a sync may be missing after a crash
pub miss_then_crash : (there : Bool) (deeds : List Deed) → IsTrue (may_miss there deeds Sync) → IsTrue (may_miss there deeds Crash)
miss_then_crash there [] misses = absurd (true≢false (sym misses))
miss_then_crash there (Did name deed ∷ earlier) misses = miss_then_crash there earlier misses
miss_then_crash there (SyncedFolder done ∷ earlier) misses = miss_then_crash there earlier misses
miss_then_crash there (SyncedAround true ∷ earlier) misses = misses
miss_then_crash there (SyncedAround false ∷ earlier) misses = misses

pub synced_around : (past : FolderPast) (done : Bool) (contents : Contents) → MayLeave (did past (SyncedAround done)) contents → MayLeave past contents
synced_around past true contents (inl missing) = inl (miss_then_crash past.there past.deeds missing.0, missing.1)
synced_around past false contents (inl missing) = inl missing
synced_around past true contents (inr each) = inr each
synced_around past false contents (inr each) = inr each
