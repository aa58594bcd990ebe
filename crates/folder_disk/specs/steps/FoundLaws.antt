-- Laws of a disk whose folder is found again.
use Rattle.std.proofs.Common.{◌≡◌, ◌<◌, ◌≤◌, ◌^◌, ℕ, List, refl, sym, ap, ◌∙◌, subst, inr, ⊎_elim, arith}
use Rattle.std.proofs.lemmas.Bool.{cases_lt}
use Rattle.std.proofs.lemmas.Option.{none-some, same_Some}
use Rattle.std.specs.Prelude.{Some, None}
use Rattle.disk_model.specs.Image.{Image, no_files, files_of, file_count, file_of}
use Rattle.disk_model.specs.steps.ImageLaws.{same_kind}
use Rattle.disk_model.specs.declared.kind.Kind.{Kind}
use Rattle.disk_model.specs.declared.kind.Kind.TheVariants.{Warc, Cdxj}
use Rattle.folder_model.specs.Folder.{Contents, contents_of}
use Rattle.folder_model.specs.Found.{contents_found}
use Rattle.folder_model.specs.Seen.{IsSeen}
use Rattle.folder_model.specs.steps.KnownLaws.{reading_is}
use Rattle.folder_model.specs.steps.ReadingLaws.{each_is_seen}
use Rattle.folder_disk.specs.Gaps.{IsGap, IsSeenFilled}
use Rattle.folder_disk.specs.Laws.{CrashedIsImage, LetGoIsRead, CrashedVolumesAreRead, LetGoVolumesAreRead}
use Rattle.folder_disk.specs.Reader.{IsReadIn}
use Rattle.folder_files.specs.Counting.{known_of}
use Rattle.held_folder.specs.State.{reading}

no_counts : (kind : Kind) → file_count no_files kind ≡ 0
unfolding files_of
no_counts Warc = refl
no_counts Cdxj = refl

-- where nothing is there is no file
nothing_seen : (name : Kind → ℕ → List ℕ) → IsSeen name (λ n. None) no_files
nothing_seen name = record {
  few = λ kind. omega (arith, no_counts kind);
  there = λ kind file inside. absurd (omega (arith, inside, no_counts kind));
  no_more = λ kind file outside small. refl;
}

-- a folder that is seen as a disk has no gap
no_gap : (name : Kind → ℕ → List ℕ) (contents : Contents) (image : Image) (file : ℕ) → IsSeen name contents image → IsGap name contents file → ⊥
no_gap name contents image file seen gap =
    ⊎_elim
    (λ within. none-some (file_of image Cdxj file) (sym gap.none ∙ seen.there Cdxj file (omega (arith, gap.above, within))))
    (λ past. gap.there (seen.no_more Cdxj gap.greater past gap.small))
    (cases_lt gap.greater (file_count image Cdxj))

-- so what is seen of it, once missing checkpoints are there, is seen of it
unfilled : (name : Kind → ℕ → List ℕ) (old : Contents) (was image : Image) → IsSeen name old was → IsSeenFilled name old image → IsSeen name old image
unfilled name old was image whole (contents, filled, seen) = record {
  few = seen.few;
  there = λ kind file inside. sym (same (name kind file)) ∙ seen.there kind file inside;
  no_more = λ kind file outside small. sym (same (name kind file)) ∙ seen.no_more kind file outside small;
}
  where
    same : (n : List ℕ) → contents n ≡ old n
    same n = ⊎_elim (λ it. it) (λ made. absurd (no_gap name old was made.file whole made.gap)) (filled n)

pub crashed_is_image : CrashedIsImage
crashed_is_image name s None image known (left, settled) is =
    (refl, inr (known, (contents_found None, left, subst (IsSeen name (λ n. None)) (sym is) (nothing_seen name))))
crashed_is_image name s (Some past) image known (left, settled) filled =
    let was = each_is_seen name s.past (reading name s) (contents_of past) known.knows.is left in
    (refl, inr (known, (contents_found (Some past), left, unfilled name (contents_of past) was.0 image was.1 filled)))

-- images that are seen in the same contents have as many files
no_fewer_seen : (name : Kind → ℕ → List ℕ) (contents : Contents) (one two : Image) (kind : Kind) → IsSeen name contents one → IsSeen name contents two
    → file_count two kind ≤ file_count one kind
no_fewer_seen name contents one two kind seen also =
    ⊎_elim
    (λ more.
    let small : file_count one kind < 2 ^ 32 = omega (arith, more, also.few kind) in
    absurd (none-some (file_of two kind (file_count one kind))
    (sym (seen.no_more kind (file_count one kind) (omega arith) small) ∙ also.there kind (file_count one kind) more)))
    (λ fewer. fewer)
    (cases_lt (file_count one kind) (file_count two kind))

pub let_go_is_read : LetGoIsRead
unfolding reading
let_go_is_read name s image known filled =
    let seen = unfilled name (contents_of s.past) (reading name s) image known.knows.is.seen filled in
    sym (reading_is name s.past (known_of s.warc s.cdxj) image seen known.knows.numbers
    (λ kind. omega (arith, known.knows.no_fewer kind, no_fewer_seen name _ image (reading name s) kind seen known.knows.is.seen))
    (λ kind. omega (arith, known.knows.one_more kind, no_fewer_seen name _ (reading name s) image kind known.knows.is.seen seen)))

-- ---- a disk that only reads

no_volume_less : (name : Kind → ℕ → List ℕ) (contents : Contents) (was image : Image) → IsSeen name contents was → IsReadIn name contents image
    → file_count was Warc ≤ file_count image Warc
no_volume_less name contents was image seen read =
    ⊎_elim
    (λ fewer. absurd (none-some (file_of was Warc (file_count image Warc))
    (sym (read.no_more (file_count image Warc) (omega arith) (omega (arith, fewer, seen.few Warc))) ∙ seen.there Warc (file_count image Warc) fewer)))
    (λ all. all)
    (cases_lt (file_count image Warc) (file_count was Warc))

no_volume_more : (name : Kind → ℕ → List ℕ) (contents : Contents) (was image : Image) → IsSeen name contents was → IsReadIn name contents image
    → file_count image Warc ≤ file_count was Warc
no_volume_more name contents was image seen read =
    ⊎_elim
    (λ more. absurd (none-some (file_of image Warc (file_count was Warc))
    (sym (seen.no_more Warc (file_count was Warc) (omega arith) (omega (arith, more, read.few))) ∙ read.there Warc (file_count was Warc) more)))
    (λ all. all)
    (cases_lt (file_count was Warc) (file_count image Warc))

-- it has all volumes of a folder that is seen as a disk
volumes_are_read : (name : Kind → ℕ → List ℕ) (contents : Contents) (was image : Image) → IsSeen name contents was → IsReadIn name contents image
    → files_of image Warc ≡ files_of was Warc
volumes_are_read name contents was image seen read =
    let less = no_volume_less name contents was image seen read in
    let more = no_volume_more name contents was image seen read in
    same_kind image was Warc (omega (arith, less, more))
    (λ file inside. same_Some (file_of image Warc file) (file_of was Warc file) (sym (read.there Warc file inside) ∙ seen.there Warc file (omega (arith, inside, more))))

pub crashed_volumes_are_read : CrashedVolumesAreRead
crashed_volumes_are_read name s None image known (left, settled) is = (
  no_files,
  (refl, inr (known, (contents_found None, left, nothing_seen name))),
  ap (λ (i : Image). files_of i Warc) is,
)
crashed_volumes_are_read name s (Some past) image known (left, settled) read =
    let was = each_is_seen name s.past (reading name s) (contents_of past) known.knows.is left in (
      was.0,
      (refl, inr (known, (contents_found (Some past), left, was.1))),
      volumes_are_read name (contents_of past) was.0 image was.1 read,
    )

pub let_go_volumes_are_read : LetGoVolumesAreRead
let_go_volumes_are_read name s image known read = volumes_are_read name (contents_of s.past) (reading name s) image known.knows.is.seen read
