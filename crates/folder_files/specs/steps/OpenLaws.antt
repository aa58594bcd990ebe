-- Laws of files that stay open.
use Rattle.std.proofs.Common.{◌≡◌, ◌≢◌, ◌⊎◌, ◌<◌, ◌≤◌, ◌^◌, ◌+◌, ℕ, Bool, true, false, List, [], ◌∷◌, length, take, refl, sym, ap, ◌∙◌, subst, inl, inr, ⊎_elim, arith, length-take}
use Rattle.std.specs.Prelude.{if◌then◌else◌, Option, Some, None, IfSome, Result, Ok, Err, IfOk, OnOk, OnErr, max, ⊤}
use Rattle.std.specs.Option.{option_map, unwrap_or}
use Rattle.disk_model.specs.Image.{written}
use Rattle.disk_model.specs.declared.kind.Kind.{Kind}
use Rattle.disk_model.specs.steps.CrashLaws.{length-written}
use Rattle.folder_model.specs.File.{FileDeed, Made, Shortened, Synced, Listed, read_of}
use Rattle.folder_model.specs.Folder.{FolderPast, did_to, contents_of, bytes_of}
use Rattle.folder_model.specs.Seen.{NamesApart}
use Rattle.folder_model.specs.Whole.{done_to, WritesWithin, IsWriting, made_durably}
use Rattle.folder_model.specs.steps.FolderLaws.{deeds_of-same, names_cases}
use Rattle.folder_model.specs.steps.ReadingLaws.{contents_of-same, contents_of-other}
use Rattle.folder_model.specs.steps.WholeLaws.{all_written}
use Rattle.folder_files.specs.OpenFiles.{IsOpen, AreOpen, IsOther, AreOthers, IsLeftIn, kept}
use Rattle.folder_files.specs.declared.open_files.OpenOne.{OpenOne}
use Rattle.folder_files.specs.declared.open_files.OpenFiles.{OpenFiles}

-- ---- what is taken out and put back

-- what holds of a file holds of the one that a call passes on
pub passed_on : {T E : Type 0} (P : T → Type 0) (result : Result T E) (one : T) → IfOk result (λ it. it ≡ one) → P one → IfOk result P
passed_on P (Ok it) one is holds = subst P (sym is) holds
passed_on P (Err e) one is holds = tt

module _ {T : Type 0} (P : OpenOne T → Type 0) where
  -- what was in a place
  in_place : (place : Option (OpenOne T)) (one : OpenOne T) → place ≡ Some one → IfSome place P → P one
  in_place place one is holds = subst (λ (o : Option (OpenOne T)). IfSome o P) is holds

  -- a place that is empty, or has what it had
  left_in : (old new : Option (OpenOne T)) → (new ≡ None) ⊎ (new ≡ old) → IfSome old P → IfSome new P
  left_in old new (inl none) holds = subst (λ (o : Option (OpenOne T)). IfSome o P) (sym none) tt
  left_in old new (inr same) holds = subst (λ (o : Option (OpenOne T)). IfSome o P) (sym same) holds

-- a place that has what it had has another file
other_in : {T : Type 0} (kind : Kind) (file : ℕ) (old new : Option (OpenOne T)) → IsLeftIn kind file old new → IsOther kind file new
other_in {T} kind file old new (inl none) = subst (λ (o : Option (OpenOne T)). IsOther kind file o) (sym none) tt
other_in {T} kind file old new (inr same) = subst (λ (o : Option (OpenOne T)). IsOther kind file o) (sym same.0) same.1

left_of : {T : Type 0} (kind : Kind) (file : ℕ) (old new : Option (OpenOne T)) → IsLeftIn kind file old new → (new ≡ None) ⊎ (new ≡ old)
left_of kind file old new (inl none) = inl none
left_of kind file old new (inr same) = inr same.0

-- after a file was taken to be written no place has it
pub taken_apart : {T : Type 0} (kind : Kind) (file : ℕ) (old new : OpenFiles T)
    → IsLeftIn kind file old.written new.written → IsLeftIn kind file old.read new.read → AreOthers kind file new
taken_apart kind file old new written read =
    (other_in kind file old.written new.written written, other_in kind file old.read new.read read)

module _ {T : Type 0} (name : Kind → ℕ → List ℕ) (name_of : T → List ℕ) where
  pub taken_open : (past : FolderPast) (kind : Kind) (file : ℕ) (old new : OpenFiles T) → AreOpen name name_of past old
      → IsLeftIn kind file old.written new.written → IsLeftIn kind file old.read new.read → AreOpen name name_of past new
  taken_open past kind file old new are written read = (
    left_in (IsOpen name name_of past) old.written new.written (left_of kind file old.written new.written written) are.0,
    left_in (IsOpen name name_of past) old.read new.read (left_of kind file old.read new.read read) are.1,
  )

  pub read_open : (past : FolderPast) (old new : OpenFiles T) → AreOpen name name_of past old
      → (new.written ≡ None) ⊎ (new.written ≡ old.written) → (new.read ≡ None) ⊎ (new.read ≡ old.read) → AreOpen name name_of past new
  read_open past old new are written read = (
    left_in (IsOpen name name_of past) old.written new.written written are.0,
    left_in (IsOpen name name_of past) old.read new.read read are.1,
  )

  pub was_written : (past : FolderPast) (files : OpenFiles T) (one : OpenOne T) → AreOpen name name_of past files → files.written ≡ Some one → IsOpen name name_of past one
  was_written past files one are is = in_place (IsOpen name name_of past) files.written one is are.0

  pub was_in : (past : FolderPast) (files : OpenFiles T) (one : OpenOne T) → AreOpen name name_of past files
      → (files.written ≡ Some one) ⊎ (files.read ≡ Some one) → IsOpen name name_of past one
  was_in past files one are (inl is) = in_place (IsOpen name name_of past) files.written one is are.0
  was_in past files one are (inr is) = in_place (IsOpen name name_of past) files.read one is are.1

  -- none is open
  pub none_open : (past : FolderPast) (files : OpenFiles T) → files.written ≡ None → files.read ≡ None → AreOpen name name_of past files
  none_open past files written read = (
    subst (λ (o : Option (OpenOne T)). IfSome o (IsOpen name name_of past)) (sym written) tt,
    subst (λ (o : Option (OpenOne T)). IfSome o (IsOpen name name_of past)) (sym read) tt,
  )

  -- one more is kept
  pub kept_open : (past : FolderPast) (files : OpenFiles T) (one : OpenOne T) → AreOpen name name_of past files → IsOpen name name_of past one
      → AreOpen name name_of past (kept one files)
  kept_open past files one are is = by one.for_writing
    where
      by : (b : Bool) → AreOpen name name_of past (if b then record files { written = Some one } else record files { read = Some one })
      by true = (is, are.1)
      by false = (are.0, is)

  -- ---- after deeds

  -- a folder where each file has the bytes that it had
  open_same : (old new : FolderPast) (one : OpenOne T) → contents_of new (name one.kind one.number) ≡ contents_of old (name one.kind one.number)
      → IsOpen name name_of old one → IsOpen name name_of new one
  open_same old new one same is = record {
    fits = is.fits;
    named = is.named;
    len = is.len ∙ sym (ap (λ (o : Option (List ℕ)). length (unwrap_or o [])) same);
  }

  place_same : (old new : FolderPast) (place : Option (OpenOne T)) → ((n : List ℕ) → contents_of new n ≡ contents_of old n)
      → IfSome place (IsOpen name name_of old) → IfSome place (IsOpen name name_of new)
  place_same old new None same is = tt
  place_same old new (Some one) same is = open_same old new one (same (name one.kind one.number)) is

  pub all_same : (old new : FolderPast) (files : OpenFiles T) → ((n : List ℕ) → contents_of new n ≡ contents_of old n)
      → AreOpen name name_of old files → AreOpen name name_of new files
  all_same old new files same are = (place_same old new files.written same are.0, place_same old new files.read same are.1)

  pub one_same : (old new : FolderPast) (one : OpenOne T) → ((n : List ℕ) → contents_of new n ≡ contents_of old n)
      → IsOpen name name_of old one → IsOpen name name_of new one
  one_same old new one same is = open_same old new one (same (name one.kind one.number)) is

  -- one where each other file has
  place_others : NamesApart name → (kind : Kind) (file : ℕ) → file < 2 ^ 32 → (old new : FolderPast) (place : Option (OpenOne T))
      → ((n : List ℕ) → n ≢ name kind file → contents_of new n ≡ contents_of old n)
      → IsOther kind file place → IfSome place (IsOpen name name_of old) → IfSome place (IsOpen name name_of new)
  place_others apart kind file small old new None others other is = tt
  place_others apart kind file small old new (Some one) others other is =
      open_same old new one (others (name one.kind one.number) (apart kind file one.kind one.number small is.fits other)) is

  pub others_same : NamesApart name → (kind : Kind) (file : ℕ) → file < 2 ^ 32 → (old new : FolderPast) (files : OpenFiles T)
      → ((n : List ℕ) → n ≢ name kind file → contents_of new n ≡ contents_of old n)
      → AreOthers kind file files → AreOpen name name_of old files → AreOpen name name_of new files
  others_same apart kind file small old new files others apart_files are = (
    place_others apart kind file small old new files.written others apart_files.0 are.0,
    place_others apart kind file small old new files.read others apart_files.1 are.1,
  )

-- ---- which files deeds leave

done_to_others : (past : FolderPast) (n m : List ℕ) (deeds : List FileDeed) → m ≢ n → contents_of (done_to past n deeds) m ≡ contents_of past m
done_to_others past n m [] apart = refl
done_to_others past n m (deed ∷ earlier) apart = contents_of-other (done_to past n earlier) n m deed apart ∙ done_to_others past n m earlier apart

pub writes_others : (n : List ℕ) (at many : ℕ) (old new : FolderPast) → WritesWithin n at many old new → (m : List ℕ) → m ≢ n → contents_of new m ≡ contents_of old m
writes_others n at many old new within m apart =
    ap (λ (p : FolderPast). contents_of p m) within.whole ∙ done_to_others old n m within.deeds apart

pub deed_others : (n : List ℕ) (deed : FileDeed) (old new : FolderPast) → new ≡ did_to old n deed → (m : List ℕ) → m ≢ n → contents_of new m ≡ contents_of old m
deed_others n deed old new whole m apart = ap (λ (p : FolderPast). contents_of p m) whole ∙ contents_of-other old n m deed apart

-- a sync leaves all
pub sync_all_same : (n : List ℕ) (done : Bool) (old new : FolderPast) → new ≡ did_to old n (Synced done) → (m : List ℕ) → contents_of new m ≡ contents_of old m
sync_all_same n done old new whole m =
    ap (λ (p : FolderPast). contents_of p m) whole
    ∙ ⊎_elim
    (λ same. ap (contents_of (did_to old n (Synced done))) same.0 ∙ contents_of-same old n (Synced done) ∙ sym (ap (contents_of old) same.0))
    (λ other. contents_of-other old n m (Synced done) other.0)
    (names_cases m n)

pub same_contents : (old new : FolderPast) → new ≡ old → (n : List ℕ) → contents_of new n ≡ contents_of old n
same_contents old new same n = ap (λ (p : FolderPast). contents_of p n) same

-- ---- the file of the call

module _ {T : Type 0} (name : Kind → ℕ → List ℕ) (name_of : T → List ℕ) (kind : Kind) (file : ℕ) (one : OpenOne T) (its_kind : one.kind ≡ kind) (its_number : one.number ≡ file) where
  its_name : name one.kind one.number ≡ name kind file
  its_name i = name (its_kind i) (its_number i)

  -- it is called so
  pub open_named : (past : FolderPast) → IsOpen name name_of past one → name_of one.file ≡ name kind file
  open_named past is = is.named ∙ its_name

  -- its length is the file's
  pub open_len : (past : FolderPast) → IsOpen name name_of past one → one.len ≡ length (bytes_of past (name kind file))
  open_len past is = is.len ∙ ap (λ (n : List ℕ). length (bytes_of past n)) its_name

  -- with another length
  with_len : (past : FolderPast) (len : ℕ) → file < 2 ^ 32 → name_of one.file ≡ name kind file → len ≡ length (bytes_of past (name kind file))
      → IsOpen name name_of past (record one { len = len })
  with_len past len small named is = record {
    fits = omega (arith, its_number, small);
    named = named ∙ sym its_name;
    len = is ∙ sym (ap (λ (n : List ℕ). length (bytes_of past n)) its_name);
  }

  pub wrote_open : (at end : ℕ) (bytes : List ℕ) (old new : FolderPast) → file < 2 ^ 32 → IsOpen name name_of old one
      → IsWriting (name kind file) at bytes (length bytes) old new → at ≤ one.len → end ≡ max one.len (at + length bytes)
      → IsOpen name name_of new (record one { len = end })
  wrote_open at end bytes old new small is writing inside is_end =
      let was : length (bytes_of old (name kind file)) ≡ length writing.before = ap (λ (o : Option (List ℕ)). length (unwrap_or o [])) writing.was in
      let now : length (bytes_of new (name kind file)) ≡ length (written writing.before at bytes) =
      ap (λ (o : Option (List ℕ)). length (unwrap_or o [])) (all_written (name kind file) at bytes old new writing) in
      with_len new end small (open_named old is)
      (omega (arith, is_end, inside, was, now, open_len old is, length-written writing.before at bytes))

  pub cut_open : (len : ℕ) (old new : FolderPast) → file < 2 ^ 32 → IsOpen name name_of old one
      → new ≡ did_to old (name kind file) (Shortened len 0) → len ≤ one.len
      → IsOpen name name_of new (record one { len = len })
  cut_open len old new small is whole inside =
      let now : contents_of new (name kind file) ≡ option_map (take len) (contents_of old (name kind file)) =
      ap (λ (p : FolderPast). contents_of p (name kind file)) whole ∙ contents_of-same old (name kind file) (Shortened len 0) in
      with_len new len small (open_named old is)
      (shorter (contents_of old (name kind file)) (omega (arith, inside, open_len old is)) ∙ sym (ap (λ (o : Option (List ℕ)). length (unwrap_or o [])) now))
    where
      shorter : (found : Option (List ℕ)) → len ≤ length (unwrap_or found []) → len ≡ length (unwrap_or (option_map (take len) found) [])
      shorter None le = omega (arith, le)
      shorter (Some bytes) le = omega (arith, le, length-take len bytes)

-- a file that was just made
pub made_open : {T : Type 0} (name : Kind → ℕ → List ℕ) (name_of : T → List ℕ) (one : OpenOne T) (old new : FolderPast)
    → one.number < 2 ^ 32 → one.len ≡ 0 → name_of one.file ≡ name one.kind one.number → new ≡ made_durably (name one.kind one.number) old → IsOpen name name_of new one
made_open name name_of one old new small none named whole = record {
  fits = small;
  named = named;
  len = none ∙ sym (ap (λ (o : Option (List ℕ)). length (unwrap_or o [])) empty);
}
  where
    empty : contents_of new (name one.kind one.number) ≡ Some []
    empty =
        ap (λ (p : FolderPast). contents_of p (name one.kind one.number)) whole
        ∙ ap (λ (ds : List FileDeed). read_of (old.first (name one.kind one.number)) (Listed true ∷ ds))
        (deeds_of-same (name one.kind one.number) (Synced true) (did_to old (name one.kind one.number) Made).deeds
        ∙ ap (λ (ds : List FileDeed). Synced true ∷ ds) (deeds_of-same (name one.kind one.number) Made old.deeds))

-- what is remembered of a file's length is that of the reading
pub remembered : {T : Type 0} (name : Kind → ℕ → List ℕ) (name_of : T → List ℕ) (past before : FolderPast) (bytes : List ℕ) (kind : Kind) (file : ℕ) (one : OpenOne T)
    → one.kind ≡ kind → one.number ≡ file → past ≡ before → bytes_of before (name kind file) ≡ bytes → IsOpen name name_of past one → one.len ≡ length bytes
remembered name name_of past before bytes kind file one its_kind its_number same read is =
    open_len name name_of kind file one its_kind its_number past is
    ∙ ap (λ (p : FolderPast). length (bytes_of p (name kind file))) same
    ∙ ap length read

-- one more is kept, as the call says it
pub kept_after : {T : Type 0} (name : Kind → ℕ → List ℕ) (name_of : T → List ℕ) (past : FolderPast) (files new : OpenFiles T) (one : OpenOne T)
    → new ≡ record (kept one files) { left = new.left } → AreOpen name name_of past files → IsOpen name name_of past one → AreOpen name name_of past new
kept_after {T} name name_of past files new one whole are is =
    subst (λ (fs : OpenFiles T). AreOpen name name_of past fs) (sym whole) (kept_open name name_of past files one are is)

-- a file was left
pub left_after : {T : Type 0} (name : Kind → ℕ → List ℕ) (name_of : T → List ℕ) (past : FolderPast) (files new : OpenFiles T)
    → new ≡ record files { left = new.left } → AreOpen name name_of past files → AreOpen name name_of past new
left_after {T} name name_of past files new whole are = subst (λ (fs : OpenFiles T). AreOpen name name_of past fs) (sym whole) are

-- a file is kept behind a call that was done, and else left
pub kept_behind : {T E : Type 0} (name : Kind → ℕ → List ℕ) (name_of : T → List ℕ) (past : FolderPast) (files new : OpenFiles T) (one : OpenOne T) (done : Result ⊤ E)
    → OnOk done (new ≡ record (kept one files) { left = new.left }) → OnErr done (new ≡ record files { left = new.left })
    → AreOpen name name_of past files → IsOpen name name_of past one → AreOpen name name_of past new
kept_behind name name_of past files new one (Ok x) whole left are is = kept_after name name_of past files new one whole are is
kept_behind name name_of past files new one (Err e) whole left are is = left_after name name_of past files new left are
