-- Laws of images: what a change of one file does to it, and that it leaves the other files.
use Rattle.std.proofs.Common.{◌≡◌, ◌≢◌, ◌⊎◌, ◌<◌, ◌≤◌, ◌+◌, ◌-◌, ℕ, zero, suc, List, [], ◌∷◌, ◌++◌, length, get_or, refl, sym, ap, ◌∙◌, subst, inl, inr, ⊎_elim, arith, get_or-set_same, get_or-set_other}
use Rattle.std.proofs.lemmas.List.{length-set, set-set, set-get_or, set_past, get_or_push, length_push, same_lists, get_or_default}
use Rattle.std.proofs.lemmas.Bool.{cases_eq, cases_lt}
use lib.ListN.{set}
use Rattle.disk_model.specs.Image.{Image, files_of, with_files, file_count, file_of, with_file, with_new, IsApart}
use Rattle.disk_model.specs.Crash.{OnFile, HasFile, MayCreate}
use Rattle.disk_model.specs.declared.kind.Kind.{Kind}
use Rattle.disk_model.specs.declared.kind.Kind.TheVariants.{Warc, Cdxj}
use Rattle.disk_model.specs.Laws.{OtherFilesStay, NewFileChangesNoBytes, SyncedKindIsAsRead}

pub files_of-with_files : (image : Image) (kind : Kind) (files : List (List ℕ)) → files_of (with_files image kind files) kind ≡ files
unfolding files_of with_files
files_of-with_files image Warc files = refl
files_of-with_files image Cdxj files = refl

pub files_of-with_files_other : (image : Image) (kind other : Kind) (files : List (List ℕ)) → other ≢ kind → files_of (with_files image kind files) other ≡ files_of image other
unfolding files_of with_files
files_of-with_files_other image Warc Warc files apart = absurd (apart refl)
files_of-with_files_other image Warc Cdxj files apart = refl
files_of-with_files_other image Cdxj Warc files apart = refl
files_of-with_files_other image Cdxj Cdxj files apart = absurd (apart refl)

-- a file that is written over has the new bytes
pub file_of-with_file : (image : Image) (kind : Kind) (file : ℕ) (bytes : List ℕ) → file < file_count image kind → file_of (with_file image kind file bytes) kind file ≡ bytes
unfolding file_of with_file
file_of-with_file image kind file bytes there =
    ap (λ (files : List (List ℕ)). get_or files file []) (files_of-with_files image kind (set (files_of image kind) file bytes))
    ∙ get_or-set_same (files_of image kind) file bytes [] there

-- the other files of the kind stay
pub file_of-with_file_number : (image : Image) (kind : Kind) (file : ℕ) (bytes : List ℕ) (other : ℕ) → other ≢ file → file_of (with_file image kind file bytes) kind other ≡ file_of image kind other
unfolding file_of with_file
file_of-with_file_number image kind file bytes other apart =
    ap (λ (files : List (List ℕ)). get_or files other []) (files_of-with_files image kind (set (files_of image kind) file bytes))
    ∙ get_or-set_other (files_of image kind) file other bytes [] apart

-- and so do the files of the other kind
pub files_of-with_file_kind : (image : Image) (kind : Kind) (file : ℕ) (bytes : List ℕ) (other : Kind) → other ≢ kind → files_of (with_file image kind file bytes) other ≡ files_of image other
unfolding with_file
files_of-with_file_kind image kind file bytes other apart = files_of-with_files_other image kind other (set (files_of image kind) file bytes) apart

-- no file is made or lost
pub file_count-with_file : (image : Image) (kind : Kind) (file : ℕ) (bytes : List ℕ) (other : Kind) → file_count (with_file image kind file bytes) other ≡ file_count image other
unfolding files_of with_files with_file
file_count-with_file image Warc file bytes Warc = length-set image.warc file bytes
file_count-with_file image Warc file bytes Cdxj = refl
file_count-with_file image Cdxj file bytes Warc = refl
file_count-with_file image Cdxj file bytes Cdxj = length-set image.cdxj file bytes

-- the last of two changes of one file counts
pub with_file-with_file : (image : Image) (kind : Kind) (file : ℕ) (one two : List ℕ) → with_file (with_file image kind file one) kind file two ≡ with_file image kind file two
unfolding files_of with_files with_file
with_file-with_file image Warc file one two = ap (λ (files : List (List ℕ)). with_files image Warc files) (set-set image.warc file one two)
with_file-with_file image Cdxj file one two = ap (λ (files : List (List ℕ)). with_files image Cdxj files) (set-set image.cdxj file one two)

-- a file with its own bytes is the same
pub with_file-file_of : (image : Image) (kind : Kind) (file : ℕ) → with_file image kind file (file_of image kind file) ≡ image
unfolding files_of with_files with_file file_of
with_file-file_of image Warc file = ap (λ (files : List (List ℕ)). with_files image Warc files) (set-get_or image.warc file [])
with_file-file_of image Cdxj file = ap (λ (files : List (List ℕ)). with_files image Cdxj files) (set-get_or image.cdxj file [])

-- a file that isn't there can't be changed
pub with_file_past : (image : Image) (kind : Kind) (file : ℕ) (bytes : List ℕ) → file_count image kind ≤ file → with_file image kind file bytes ≡ image
unfolding files_of with_files with_file
with_file_past image Warc file bytes past = ap (λ (files : List (List ℕ)). with_files image Warc files) (set_past image.warc file bytes past)
with_file_past image Cdxj file bytes past = ap (λ (files : List (List ℕ)). with_files image Cdxj files) (set_past image.cdxj file bytes past)

-- a new file comes last
pub files_of-with_new : (image : Image) (kind : Kind) → files_of (with_new image kind) kind ≡ files_of image kind ++ [] ∷ []
unfolding with_new
files_of-with_new image kind = files_of-with_files image kind (files_of image kind ++ [] ∷ [])

-- and the files of the other kind stay
pub files_of-with_new_kind : (image : Image) (kind other : Kind) → other ≢ kind → files_of (with_new image kind) other ≡ files_of image other
unfolding with_new
files_of-with_new_kind image kind other apart = files_of-with_files_other image kind other (files_of image kind ++ [] ∷ []) apart

pub file_count-with_new : (image : Image) (kind : Kind) → file_count (with_new image kind) kind ≡ file_count image kind + 1
file_count-with_new image kind = ap length (files_of-with_new image kind) ∙ length_push (files_of image kind) []

pub file_count-with_new_kind : (image : Image) (kind other : Kind) → other ≢ kind → file_count (with_new image kind) other ≡ file_count image other
file_count-with_new_kind image kind other apart = ap length (files_of-with_new_kind image kind other apart)

-- the new file is empty
pub file_of-with_new : (image : Image) (kind : Kind) → file_of (with_new image kind) kind (file_count image kind) ≡ []
unfolding file_of
file_of-with_new image kind =
    ap (λ (files : List (List ℕ)). get_or files (file_count image kind) []) (files_of-with_new image kind)
    ∙ get_or_push (files_of image kind) [] [] (file_count image kind) refl

-- images with as many files of a kind, and the same bytes in each, have the same files of that kind
pub same_kind : (one two : Image) (kind : Kind) → file_count one kind ≡ file_count two kind
    → ((file : ℕ) → file < file_count one kind → file_of one kind file ≡ file_of two kind file)
    → files_of one kind ≡ files_of two kind
unfolding file_of
same_kind one two kind counts files =
    same_lists (files_of one kind) (files_of two kind) counts (λ file d there.
    get_or_default (files_of one kind) file d [] there
    ∙ files file there
    ∙ get_or_default (files_of two kind) file [] d (omega (arith, there, counts)))

-- two files are one, or apart
pub same_or_apart : (kind : Kind) (file : ℕ) (k : Kind) (f : ℕ) → ((k ≡ kind) × (f ≡ file)) ⊎ IsApart kind file k f
same_or_apart Warc file Warc f = ⊎_elim (λ same. inl (refl, same)) (λ apart. inr (inr apart)) (cases_eq f file)
same_or_apart Warc file Cdxj f = inr (inl (λ same. cc))
same_or_apart Cdxj file Warc f = inr (inl (λ same. cc))
same_or_apart Cdxj file Cdxj f = ⊎_elim (λ same. inl (refl, same)) (λ apart. inr (inr apart)) (cases_eq f file)

-- two kinds are one, or differ
pub same_kind_or_other : (k kind : Kind) → (k ≡ kind) ⊎ (k ≢ kind)
same_kind_or_other Warc Warc = inl refl
same_kind_or_other Warc Cdxj = inr (λ same. cc)
same_kind_or_other Cdxj Warc = inr (λ same. cc)
same_kind_or_other Cdxj Cdxj = inl refl

pub others_stay : OtherFilesStay
unfolding file_of
others_stay image kind file bytes k f (inl apart) = ap (λ (files : List (List ℕ)). get_or files f []) (files_of-with_file_kind image kind file bytes k apart)
others_stay image kind file bytes k f (inr apart) =
    ⊎_elim
    (λ same. subst (λ (kk : Kind). file_of (with_file image kind file bytes) kk f ≡ file_of image kk f) (sym same) (file_of-with_file_number image kind file bytes f apart))
    (λ other. ap (λ (files : List (List ℕ)). get_or files f []) (files_of-with_file_kind image kind file bytes k other))
    (same_kind_or_other k kind)

pub bytes_stay : NewFileChangesNoBytes
unfolding file_of
bytes_stay image kind k f =
    ⊎_elim
    (λ same. subst (λ (kk : Kind). get_or (files_of (with_new image kind) kk) f [] ≡ get_or (files_of image kk) f []) (sym same)
    (ap (λ (files : List (List ℕ)). get_or files f []) (files_of-with_new image kind) ∙ push_empty (files_of image kind) f))
    (λ other. ap (λ (files : List (List ℕ)). get_or files f []) (files_of-with_new_kind image kind k other))
    (same_kind_or_other k kind)
  where
    push_empty : (files : List (List ℕ)) (n : ℕ) → get_or (files ++ [] ∷ []) n [] ≡ get_or files n []
    push_empty [] zero = refl
    push_empty [] (suc n) = refl
    push_empty (x ∷ files) zero = refl
    push_empty (x ∷ files) (suc n) = push_empty files n

-- nor does it take a file away
pub count_grows : (image : Image) (kind other : Kind) → file_count image other ≤ file_count (with_new image kind) other
count_grows image kind other =
    ⊎_elim
    (λ same. subst (λ (k : Kind). file_count image k ≤ file_count (with_new image kind) k) (sym same) (omega (arith, file_count-with_new image kind)))
    (λ apart. omega (arith, file_count-with_new_kind image kind other apart))
    (same_kind_or_other other kind)

-- a file that an image has is kept by a step on another file
pub has_file-on_file : (kind : Kind) (file : ℕ) (Step : List ℕ → List ℕ → Type 0) (k : Kind) (f : ℕ) (bytes : List ℕ) (old new : Image)
    → IsApart kind file k f → OnFile kind file Step old new → HasFile k f bytes old → HasFile k f bytes new
has_file-on_file kind file Step k f bytes old new apart on has = record {
  there = omega (arith, has.there, ap (λ (image : Image). file_count image k) on.whole, file_count-with_file old kind file on.bytes k);
  same = ap (λ (image : Image). file_of image k f) on.whole ∙ others_stay old kind file on.bytes k f apart ∙ has.same;
}

-- and by a file that is made, or isn't
pub has_file-may_create : (kind : Kind) (number : ℕ) (k : Kind) (f : ℕ) (bytes : List ℕ) (old new : Image)
    → MayCreate kind number old new → HasFile k f bytes old → HasFile k f bytes new
has_file-may_create kind number k f bytes old new (inl same) has = subst (HasFile k f bytes) (sym same) has
has_file-may_create kind number k f bytes old new (inr made) has = record {
  there = omega (arith, has.there, count_grows old kind k, ap (λ (image : Image). file_count image k) made.1);
  same = ap (λ (image : Image). file_of image k f) made.1 ∙ bytes_stay old kind k f ∙ has.same;
}

-- a step on a file leaves the files of the other kind
pub other_kind-on_file : (kind : Kind) (file : ℕ) (Step : List ℕ → List ℕ → Type 0) (other : Kind) (old new : Image)
    → other ≢ kind → OnFile kind file Step old new → files_of new other ≡ files_of old other
other_kind-on_file kind file Step other old new apart on =
    ap (λ (image : Image). files_of image other) on.whole ∙ files_of-with_file_kind old kind file on.bytes other apart

-- and so does a file that is made, or isn't
pub other_kind-may_create : (kind : Kind) (number : ℕ) (other : Kind) (old new : Image)
    → other ≢ kind → MayCreate kind number old new → files_of new other ≡ files_of old other
other_kind-may_create kind number other old new apart (inl same) = ap (λ (image : Image). files_of image other) same
other_kind-may_create kind number other old new apart (inr made) =
    ap (λ (image : Image). files_of image other) made.1 ∙ files_of-with_new_kind old kind other apart

pub as_read : SyncedKindIsAsRead
as_read reading image kind has fewer = same_kind image reading kind count (λ file there. (has file (omega (arith, there, fewer))).same)
  where
    count : file_count image kind ≡ file_count reading kind
    count =
        ⊎_elim
        (λ some. omega (arith, fewer, some, (has (file_count reading kind - 1) (omega (arith, some))).there))
        (λ none. omega (arith, none, fewer))
        (cases_lt 0 (file_count reading kind))
