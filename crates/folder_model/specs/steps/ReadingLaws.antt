-- Laws of what reads find: a folder that is a disk stays one, and each that a crash leaves is one.
use Rattle.std.proofs.Common.{◌^◌, ◌≡◌, ◌≢◌, ◌<◌, ◌≤◌, ◌+◌, ◌-◌, ℕ, zero, suc, Bool, true, false, if◌then◌else◌, Option, Some, None, is_some, List, [], ◌∷◌, length, get_or, refl, sym, ap, ◌∙◌, subst, inl, inr, ⊎_elim, true≢false, arith}
use Rattle.std.proofs.lemmas.Bool.{cases_Bool, cases_lt}
use Rattle.std.proofs.lemmas.List.{length_push, get_or_push, get_or_append_left}
use Rattle.disk_model.specs.declared.kind.Kind.{Kind}
use Rattle.disk_model.specs.declared.kind.Kind.TheVariants.{Warc, Cdxj}
use Rattle.disk_model.specs.Image.{Image, files_of, file_count, file_of, with_file, with_new, IsApart}
use Rattle.disk_model.specs.steps.ImageLaws.{same_or_apart, others_stay, bytes_stay, count_grows, file_of-with_file, file_of-with_new, file_count-with_file, file_count-with_new, file_count-with_new_kind, same_kind_or_other}
use Rattle.folder_model.specs.File.{FileDeed, Made, Wrote, Shortened, Synced, Listed, Sync, Crash, read_of, may_lack, IsLeft}
use Rattle.folder_model.specs.Folder.{Contents, SyncedFolder, SyncedAround, FolderPast, did, did_to, deeds_of, contents_of, may_miss, MayLeave}
use Rattle.folder_model.specs.Seen.{NamesApart, IsSeen, IsNamed, FolderIs}
use Rattle.folder_model.specs.Known.{files_up_to, bytes_or_none, image_of}
use Rattle.folder_model.specs.steps.FileLaws.{none_is_left, named_is_left, lack_then_crash}
use Rattle.folder_model.specs.steps.FolderLaws.{deeds_of-same, deeds_of-other, names_cases, miss_then_crash}

-- ---- each folder that a crash leaves is a disk

length_up_to : (bytes : ℕ → List ℕ) (n : ℕ) → length (files_up_to bytes n) ≡ n
length_up_to bytes zero = refl
length_up_to bytes (suc n) = length_push (files_up_to bytes n) (bytes n) ∙ omega (arith, length_up_to bytes n)

get_or_up_to : (bytes : ℕ → List ℕ) (n file : ℕ) → file < n → get_or (files_up_to bytes n) file [] ≡ bytes file
get_or_up_to bytes zero file inside = absurd (omega (arith, inside))
get_or_up_to bytes (suc n) file inside =
    ⊎_elim
    (λ before. get_or_append_left (files_up_to bytes n) (bytes n ∷ []) [] file (omega (arith, before, length_up_to bytes n)) ∙ get_or_up_to bytes n file before)
    (λ last.
    let is : file ≡ n = omega (arith, inside, last) in
    get_or_push (files_up_to bytes n) (bytes n) [] file (omega (arith, is, length_up_to bytes n)) ∙ ap bytes (sym is))
    (cases_lt file n)

some_bytes : (entry : Option (List ℕ)) → is_some entry ≡ true → entry ≡ Some (bytes_or_none entry)
some_bytes None is = absurd (true≢false (sym is))
some_bytes (Some bytes) is = refl

no_bytes : (entry : Option (List ℕ)) → is_some entry ≡ false → entry ≡ None
no_bytes None is = refl
no_bytes (Some bytes) is = absurd (true≢false is)

some_is : (entry : Option (List ℕ)) (bytes : List ℕ) → entry ≡ Some bytes → is_some entry ≡ true
some_is entry bytes is = ap (λ (o : Option (List ℕ)). is_some o) is

-- how many files of a kind are left, where only the last of so many may be lacking
abbrev pub how_many : (ℕ → Option (List ℕ)) → ℕ → ℕ
how_many entry count = if is_some (entry (count - 1)) then count else count - 1

no_more_than : (entry : ℕ → Option (List ℕ)) (count : ℕ) → how_many entry count ≤ count
no_more_than entry count =
    ⊎_elim
    (λ whole. omega (arith, ap (λ (b : Bool). if b then count else count - 1) whole))
    (λ lacking. omega (arith, ap (λ (b : Bool). if b then count else count - 1) lacking))
    (cases_Bool (is_some (entry (count - 1))))

-- those are there, and no others
record AreLeft (entry : ℕ → Option (List ℕ)) (n : ℕ) : Type 0 where
  there : (file : ℕ) → file < n → entry file ≡ Some (bytes_or_none (entry file))
  no_more : (file : ℕ) → n ≤ file → file < 2 ^ 32 → entry file ≡ None

count_left : (entry : ℕ → Option (List ℕ)) (count : ℕ)
    → ((file : ℕ) → file + 1 < count → is_some (entry file) ≡ true)
    → ((file : ℕ) → count ≤ file → file < 2 ^ 32 → entry file ≡ None)
    → AreLeft entry (how_many entry count)
count_left entry count named none =
    ⊎_elim
    (λ whole. subst (AreLeft entry) (sym (ap (λ (b : Bool). if b then count else count - 1) whole)) (record {
      there = λ file inside.
          ⊎_elim
          (λ before. some_bytes (entry file) (named file before))
          (λ last.
          let is : file ≡ count - 1 = omega (arith, inside, last) in
          some_bytes (entry file) (ap (λ (n : ℕ). is_some (entry n)) is ∙ whole))
          (cases_lt (file + 1) count);
      no_more = none;
    }))
    (λ lacking. subst (AreLeft entry) (sym (ap (λ (b : Bool). if b then count else count - 1) lacking)) (record {
      there = λ file inside. some_bytes (entry file) (named file (omega (arith, inside)));
      no_more = λ file outside in_range.
          ⊎_elim
          (λ inside.
          let is : file ≡ count - 1 = omega (arith, inside, outside) in
          no_bytes (entry file) (ap (λ (n : ℕ). is_some (entry n)) is ∙ lacking))
          (λ past. none file past in_range)
          (cases_lt file count);
    }))
    (cases_Bool (is_some (entry (count - 1))))

pub image_of-count : (entry : Kind → ℕ → Option (List ℕ)) (count : Kind → ℕ) (kind : Kind) → file_count (image_of entry count) kind ≡ count kind
unfolding image_of files_of
image_of-count entry count Warc = length_up_to (λ file. bytes_or_none (entry Warc file)) (count Warc)
image_of-count entry count Cdxj = length_up_to (λ file. bytes_or_none (entry Cdxj file)) (count Cdxj)

pub image_of-file : (entry : Kind → ℕ → Option (List ℕ)) (count : Kind → ℕ) (kind : Kind) (file : ℕ) → file < count kind → file_of (image_of entry count) kind file ≡ bytes_or_none (entry kind file)
unfolding image_of files_of file_of
image_of-file entry count Warc file inside = get_or_up_to (λ file. bytes_or_none (entry Warc file)) (count Warc) file inside
image_of-file entry count Cdxj file inside = get_or_up_to (λ file. bytes_or_none (entry Cdxj file)) (count Cdxj) file inside

-- whatever a crash leaves of a folder that is a disk is a disk
pub each_is_seen : (name : Kind → ℕ → List ℕ) (past : FolderPast) (reading : Image) (contents : Contents)
    → FolderIs name past reading → MayLeave past contents → (image : Image) × IsSeen name contents image
each_is_seen name past reading contents is (inl missing) = absurd (true≢false (sym missing.0 ∙ is.placed))
each_is_seen name past reading contents is (inr each) = (
  image_of (entry contents) (count contents),
  record {
    there = λ kind file inside.
        let within : file < count contents kind = omega (arith, inside, image_of-count (entry contents) (count contents) kind) in
        (left contents each kind).there file within ∙ ap (λ (b : List ℕ). Some b) (sym (image_of-file (entry contents) (count contents) kind file within));
    few = λ kind. omega (arith, image_of-count (entry contents) (count contents) kind, no_more_than (λ file. contents (name kind file)) (file_count reading kind), is.seen.few kind);
    no_more = λ kind file outside in_range. (left contents each kind).no_more file (omega (arith, outside, image_of-count (entry contents) (count contents) kind)) in_range;
  },
)
  where
    entry : Contents → Kind → ℕ → Option (List ℕ)
    entry c kind file = c (name kind file)

    count : Contents → Kind → ℕ
    count c kind = how_many (λ file. c (name kind file)) (file_count reading kind)

    left : (c : Contents) → ((n : List ℕ) → IsLeft (past.first n) (deeds_of n past.deeds) (c n)) → (kind : Kind)
        → AreLeft (λ file. c (name kind file)) (how_many (λ file. c (name kind file)) (file_count reading kind))
    left c each kind = count_left (λ file. c (name kind file)) (file_count reading kind)
        (λ file inside.
        let found = named_is_left (past.first (name kind file)) (deeds_of (name kind file) past.deeds) (c (name kind file)) (is.named kind file inside) (each (name kind file)) in
        some_is (c (name kind file)) found.0 found.1)
        (λ file outside in_range. none_is_left (past.first (name kind file)) (deeds_of (name kind file) past.deeds) (c (name kind file)) (is.seen.no_more kind file outside in_range) (each (name kind file)))

-- ---- what reads find after a deed

pub contents_of-same : (past : FolderPast) (n : List ℕ) (deed : FileDeed) → contents_of (did_to past n deed) n ≡ read_of (past.first n) (deed ∷ deeds_of n past.deeds)
contents_of-same past n deed = ap (read_of (past.first n)) (deeds_of-same n deed past.deeds)

pub contents_of-other : (past : FolderPast) (n other : List ℕ) (deed : FileDeed) → other ≢ n → contents_of (did_to past n deed) other ≡ contents_of past other
contents_of-other past n other deed apart = ap (read_of (past.first other)) (deeds_of-other other n deed past.deeds apart)

-- a folder with the same contents is seen as the same
pub seen-same : (name : Kind → ℕ → List ℕ) (old new : Contents) (image : Image) → ((n : List ℕ) → new n ≡ old n) → IsSeen name old image → IsSeen name new image
seen-same name old new image same seen = record {
  there = λ kind file inside. same (name kind file) ∙ seen.there kind file inside;
  few = seen.few;
  no_more = λ kind file outside in_range. same (name kind file) ∙ seen.no_more kind file outside in_range;
}

-- with other bytes in a file
pub seen-with_file : (name : Kind → ℕ → List ℕ) → NamesApart name → (old new : Contents) (image : Image) (kind : Kind) (file : ℕ) (bytes : List ℕ)
    → IsSeen name old image → file < file_count image kind → new (name kind file) ≡ Some bytes
    → ((other : List ℕ) → other ≢ name kind file → new other ≡ old other)
    → IsSeen name new (with_file image kind file bytes)
seen-with_file name apart old new image kind file bytes seen there is others = record {
  few = λ k. omega (arith, seen.few k, file_count-with_file image kind file bytes k);
  there = λ k f inside.
      ⊎_elim
      (λ same. subst (λ (kk : Kind). new (name kk f) ≡ Some (file_of (with_file image kind file bytes) kk f)) (sym same.0)
      (subst (λ (ff : ℕ). new (name kind ff) ≡ Some (file_of (with_file image kind file bytes) kind ff)) (sym same.1)
      (is ∙ ap (λ (b : List ℕ). Some b) (sym (file_of-with_file image kind file bytes there)))))
      (λ other. others (name k f) (apart kind file k f number (omega (arith, inside, file_count-with_file image kind file bytes k, seen.few k)) other)
      ∙ seen.there k f (omega (arith, inside, file_count-with_file image kind file bytes k))
      ∙ ap (λ (b : List ℕ). Some b) (sym (others_stay image kind file bytes k f other)))
      (same_or_apart kind file k f);
  no_more = λ k f outside in_range.
      ⊎_elim
      (λ same. absurd (beyond k f same.0 same.1 outside))
      (λ other. others (name k f) (apart kind file k f number in_range other) ∙ seen.no_more k f (omega (arith, outside, file_count-with_file image kind file bytes k)) in_range)
      (same_or_apart kind file k f);
}
  where
    number : file < 2 ^ 32
    number = omega (arith, there, seen.few kind)

    beyond : (k : Kind) (f : ℕ) → k ≡ kind → f ≡ file → file_count (with_file image kind file bytes) k ≤ f → ⊥
    beyond k f same number outside =
        omega (arith, there, number, outside, file_count-with_file image kind file bytes k, ap (λ (kk : Kind). file_count image kk) same)

-- with a file more
pub seen-with_new : (name : Kind → ℕ → List ℕ) → NamesApart name → (old new : Contents) (image : Image) (kind : Kind)
    → file_count image kind < 2 ^ 32 → IsSeen name old image → new (name kind (file_count image kind)) ≡ Some []
    → ((other : List ℕ) → other ≢ name kind (file_count image kind) → new other ≡ old other)
    → IsSeen name new (with_new image kind)
seen-with_new name apart old new image kind room seen is others = record {
  few = λ k.
      ⊎_elim
      (λ same. omega (arith, room, ap (λ (kk : Kind). file_count (with_new image kind) kk) same, file_count-with_new image kind))
      (λ differs. omega (arith, seen.few k, file_count-with_new_kind image kind k differs))
      (same_kind_or_other k kind);
  there = λ k f inside.
      ⊎_elim
      (λ same. subst (λ (kk : Kind). new (name kk f) ≡ Some (file_of (with_new image kind) kk f)) (sym same.0)
      (subst (λ (ff : ℕ). new (name kind ff) ≡ Some (file_of (with_new image kind) kind ff)) (sym same.1)
      (is ∙ ap (λ (b : List ℕ). Some b) (sym (file_of-with_new image kind)))))
      (λ other. others (name k f) (apart kind (file_count image kind) k f room (omega (arith, within k f other inside, seen.few k)) other)
      ∙ seen.there k f (within k f other inside)
      ∙ ap (λ (b : List ℕ). Some b) (sym (bytes_stay image kind k f)))
      (same_or_apart kind (file_count image kind) k f);
  no_more = λ k f outside in_range.
      ⊎_elim
      (λ same. absurd (beyond k f same.0 same.1 outside))
      (λ other. others (name k f) (apart kind (file_count image kind) k f room in_range other) ∙ seen.no_more k f (omega (arith, outside, count_grows image kind k)) in_range)
      (same_or_apart kind (file_count image kind) k f);
}
  where
    beyond : (k : Kind) (f : ℕ) → k ≡ kind → f ≡ file_count image kind → file_count (with_new image kind) k ≤ f → ⊥
    beyond k f same number outside =
        omega (arith, number, outside, file_count-with_new image kind, ap (λ (kk : Kind). file_count (with_new image kind) kk) same)

    within : (k : Kind) (f : ℕ) → IsApart kind (file_count image kind) k f → f < file_count (with_new image kind) k → f < file_count image k
    within k f (inl other) inside = omega (arith, inside, file_count-with_new_kind image kind k other)
    within k f (inr other) inside =
        ⊎_elim
        (λ same.
        let counts : file_count image k ≡ file_count image kind = ap (λ (kk : Kind). file_count image kk) same in
        let more : file_count (with_new image kind) k ≡ file_count image kind + 1 =
        ap (λ (kk : Kind). file_count (with_new image kind) kk) same ∙ file_count-with_new image kind in
        ⊎_elim (λ before. omega (arith, before, counts)) (λ last. absurd (other (omega (arith, last, inside, more)))) (cases_lt f (file_count image kind)))
        (λ differs. omega (arith, inside, file_count-with_new_kind image kind k differs))
        (same_kind_or_other k kind)

-- ---- a folder that is a disk stays one

-- a name on the disk stays there
named-deed : (first : Option (List ℕ)) (deeds : List FileDeed) (deed : FileDeed) → deed ≢ Made → may_lack first deeds Crash ≡ false → may_lack first (deed ∷ deeds) Crash ≡ false
named-deed first deeds Made other named = absurd (other refl)
named-deed first deeds (Wrote at bytes rest) other named = named
named-deed first deeds (Shortened len rest) other named = named
named-deed first deeds (Synced done) other named = named
named-deed first deeds (Listed true) other named =
    ⊎_elim (λ lacks. absurd (true≢false (sym (lack_then_crash first deeds lacks) ∙ named))) (λ is. is) (cases_Bool (may_lack first deeds Sync))
named-deed first deeds (Listed false) other named = named

pub is_named-did : (past : FolderPast) (n other : List ℕ) (deed : FileDeed) → deed ≢ Made → IsNamed past other → IsNamed (did_to past n deed) other
is_named-did past n other deed change named =
    ⊎_elim
    (λ same. subst (λ (m : List ℕ). IsNamed (did_to past n deed) m) (sym same.0)
    (subst (λ (deeds : List FileDeed). may_lack (past.first n) deeds Crash ≡ false) (sym (deeds_of-same n deed past.deeds))
    (named-deed (past.first n) (deeds_of n past.deeds) deed change (subst (IsNamed past) same.0 named))))
    (λ apart. subst (λ (deeds : List FileDeed). may_lack (past.first other) deeds Crash ≡ false) (sym (deeds_of-other other n deed past.deeds apart.0)) named)
    (names_cases other n)

pub is_named-other : (past : FolderPast) (n other : List ℕ) (deed : FileDeed) → other ≢ n → IsNamed past other → IsNamed (did_to past n deed) other
is_named-other past n other deed apart named =
    subst (λ (deeds : List FileDeed). may_lack (past.first other) deeds Crash ≡ false) (sym (deeds_of-other other n deed past.deeds apart)) named

pub is_named-listed : (past : FolderPast) (n : List ℕ) (done : Bool) → IsNamed past n → IsNamed (did past (SyncedFolder done)) n
is_named-listed past n done named = named-deed (past.first n) (deeds_of n past.deeds) (Listed done) (λ e. cc) named

-- after a change of a file's bytes
pub folder_is-changed : (name : Kind → ℕ → List ℕ) → NamesApart name → (past : FolderPast) (reading : Image) (kind : Kind) (file : ℕ) (deed : FileDeed) (bytes : List ℕ)
    → deed ≢ Made → FolderIs name past reading → file < file_count reading kind
    → read_of (past.first (name kind file)) (deed ∷ deeds_of (name kind file) past.deeds) ≡ Some bytes
    → FolderIs name (did_to past (name kind file) deed) (with_file reading kind file bytes)
folder_is-changed name apart past reading kind file deed bytes change is there read = record {
  seen = seen-with_file name apart (contents_of past) (contents_of (did_to past (name kind file) deed)) reading kind file bytes is.seen there
      (contents_of-same past (name kind file) deed ∙ read) (λ other differs. contents_of-other past (name kind file) other deed differs);
  placed = is.placed;
  named = λ k f inside. is_named-did past (name kind file) (name k f) deed change (is.named k f (omega (arith, inside, file_count-with_file reading kind file bytes k)));
}

-- after a sync of a file
pub folder_is-synced : (name : Kind → ℕ → List ℕ) (past : FolderPast) (reading : Image) (n : List ℕ) (done : Bool)
    → FolderIs name past reading → FolderIs name (did_to past n (Synced done)) reading
folder_is-synced name past reading n done is = record {
  seen = seen-same name (contents_of past) (contents_of (did_to past n (Synced done))) reading (λ other. same other) is.seen;
  placed = is.placed;
  named = λ k f inside. is_named-did past n (name k f) (Synced done) (λ e. cc) (is.named k f inside);
}
  where
    same : (other : List ℕ) → contents_of (did_to past n (Synced done)) other ≡ contents_of past other
    same other =
        ⊎_elim
        (λ one. subst (λ (m : List ℕ). contents_of (did_to past n (Synced done)) m ≡ contents_of past m) (sym one.0) (contents_of-same past n (Synced done)))
        (λ differs. contents_of-other past n other (Synced done) differs.0)
        (names_cases other n)

-- after a sync of the folder
pub folder_is-listed : (name : Kind → ℕ → List ℕ) (past : FolderPast) (reading : Image) (done : Bool)
    → FolderIs name past reading → FolderIs name (did past (SyncedFolder done)) reading
folder_is-listed name past reading done is = record {
  seen = seen-same name (contents_of past) (contents_of (did past (SyncedFolder done))) reading (λ other. refl) is.seen;
  placed = is.placed;
  named = λ k f inside. is_named-listed past (name k f) done (is.named k f inside);
}

-- after a file was made, where all names of its kind were on the disk
pub folder_is-made : (name : Kind → ℕ → List ℕ) → NamesApart name → (past : FolderPast) (reading : Image) (kind : Kind)
    → file_count reading kind < 2 ^ 32 → FolderIs name past reading → ((f : ℕ) → f < file_count reading kind → IsNamed past (name kind f))
    → FolderIs name (did_to past (name kind (file_count reading kind)) Made) (with_new reading kind)
folder_is-made name apart past reading kind room is all_named = record {
  seen = seen-with_new name apart (contents_of past) (contents_of (did_to past (name kind (file_count reading kind)) Made)) reading kind room is.seen
      (contents_of-same past (name kind (file_count reading kind)) Made) (λ other differs. contents_of-other past (name kind (file_count reading kind)) other Made differs);
  placed = is.placed;
  named = λ k f inside.
      let before : f < file_count reading k = within k f inside in
      is_named-other past (name kind (file_count reading kind)) (name k f) Made (apart kind (file_count reading kind) k f room (omega (arith, before, is.seen.few k)) (is_apart k f before)) (still k f inside);
}
  where
    within : (k : Kind) (f : ℕ) → f + 1 < file_count (with_new reading kind) k → f < file_count reading k
    within k f inside =
        ⊎_elim
        (λ same. omega (arith, inside, ap (λ (kk : Kind). file_count (with_new reading kind) kk) same, ap (λ (kk : Kind). file_count reading kk) same, file_count-with_new reading kind))
        (λ differs. omega (arith, inside, file_count-with_new_kind reading kind k differs))
        (same_kind_or_other k kind)

    still : (k : Kind) (f : ℕ) → f + 1 < file_count (with_new reading kind) k → IsNamed past (name k f)
    still k f inside =
        ⊎_elim
        (λ same.
        subst (λ (kk : Kind). IsNamed past (name kk f)) (sym same)
        (all_named f (omega (arith, within k f inside, ap (λ (kk : Kind). file_count reading kk) same))))
        (λ differs. is.named k f (omega (arith, inside, file_count-with_new_kind reading kind k differs)))
        (same_kind_or_other k kind)

    is_apart : (k : Kind) (f : ℕ) → f < file_count reading k → IsApart kind (file_count reading kind) k f
    is_apart k f before =
        ⊎_elim
        (λ same. inr (λ e. omega (arith, before, e, ap (λ (kk : Kind). file_count reading kk) same)))
        (λ differs. inl differs)
        (same_kind_or_other k kind)

-- after a sync of the folder around
pub folder_is-around : (name : Kind → ℕ → List ℕ) (past : FolderPast) (reading : Image) (done : Bool)
    → FolderIs name past reading → FolderIs name (did past (SyncedAround done)) reading
folder_is-around name past reading true is = record {
  seen = seen-same name (contents_of past) (contents_of (did past (SyncedAround true))) reading (λ other. refl) is.seen;
  placed =
      ⊎_elim (λ misses. absurd (true≢false (sym (miss_then_crash past.there past.deeds misses) ∙ is.placed))) (λ placed. placed)
      (cases_Bool (may_miss past.there past.deeds Sync));
  named = is.named;
}
folder_is-around name past reading false is = record {
  seen = seen-same name (contents_of past) (contents_of (did past (SyncedAround false))) reading (λ other. refl) is.seen;
  placed = is.placed;
  named = is.named;
}
