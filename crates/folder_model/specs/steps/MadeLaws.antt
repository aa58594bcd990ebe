-- Laws of a file that is made: what a crash may leave then, and that it leaves a disk.
use Rattle.std.proofs.Common.{◌^◌, ◌≡◌, ◌≢◌, ◌⊎◌, ◌<◌, ◌≤◌, ◌+◌, ℕ, Option, Some, None, List, [], ◌∷◌, ◌++◌, length, take, drop, get_or, refl, sym, ap, ◌∙◌, subst, inl, inr, ⊎_elim, arith, take-append-drop}
use Rattle.std.proofs.lemmas.Bool.{cases_lt}
use Rattle.std.proofs.lemmas.List.{drop_more, drop_all}
use Rattle.std.proofs.lemmas.Option.{none-some, same_Some}
use Rattle.disk_model.specs.declared.kind.Kind.{Kind}
use Rattle.disk_model.specs.declared.kind.Kind.TheVariants.{Warc, Cdxj}
use Rattle.disk_model.specs.Image.{Image, files_of, with_files, file_count, file_of, with_new, IsApart}
use Rattle.disk_model.specs.Crash.{MayCreate, Follows, Stepped}
use Rattle.disk_model.specs.steps.ImageLaws.{same_or_apart, bytes_stay, count_grows, file_count-with_new, file_count-with_new_kind, same_kind_or_other}
use Rattle.folder_model.specs.File.{FileDeed, Made, IsLeft}
use Rattle.folder_model.specs.Folder.{Contents, Did, FolderPast, did_to, deeds_of, contents_of, MayLeave, put_at}
use Rattle.folder_model.specs.Seen.{NamesApart, IsSeen, images_of}
use Rattle.folder_model.specs.steps.FileLaws.{none_may_lack, lack_then_crash}
use Rattle.folder_model.specs.steps.FolderLaws.{deeds_of-same, deeds_of-other, put_at-same, put_at-other, names_cases}
use Rattle.folder_model.specs.steps.SeenLaws.{there_is, nothing_is_left}

-- an image whose last file of a kind is empty has one file more than another
without_last : (image : Image) (kind : Kind) (number : ℕ) → file_count image kind ≡ number + 1 → file_of image kind number ≡ []
    → (fewer : Image) × (with_new fewer kind ≡ image)
unfolding files_of with_files file_of with_new
without_last image Warc number count empty = (
  record { warc = take number image.warc; cdxj = image.cdxj },
  λ i. record { warc = last image.warc number count empty i; cdxj = image.cdxj },
)
  where
    last : (files : List (List ℕ)) (n : ℕ) → length files ≡ n + 1 → get_or files n [] ≡ [] → take n files ++ [] ∷ [] ≡ files
    last files n len is =
        let back : drop n files ≡ [] ∷ [] =
        drop_more files n [] (omega (arith, len)) ∙ (λ i. is i ∷ drop_all (n + 1) files (omega (arith, len)) i) in
        ap (λ (xs : List (List ℕ)). take n files ++ xs) (sym back) ∙ take-append-drop n files
without_last image Cdxj number count empty = (
  record { warc = image.warc; cdxj = take number image.cdxj },
  λ i. record { warc = image.warc; cdxj = last image.cdxj number count empty i },
)
  where
    last : (files : List (List ℕ)) (n : ℕ) → length files ≡ n + 1 → get_or files n [] ≡ [] → take n files ++ [] ∷ [] ≡ files
    last files n len is =
        let back : drop n files ≡ [] ∷ [] =
        drop_more files n [] (omega (arith, len)) ∙ (λ i. is i ∷ drop_all (n + 1) files (omega (arith, len)) i) in
        ap (λ (xs : List (List ℕ)). take n files ++ xs) (sym back) ∙ take-append-drop n files

-- of a file that was made a crash leaves none, or an empty one
made_cases : (first : Option (List ℕ)) (deeds : List FileDeed) (left : Option (List ℕ)) → IsLeft first (Made ∷ deeds) left → (left ≡ None) ⊎ (left ≡ Some [])
made_cases first deeds None is = inl refl
made_cases first deeds (Some bytes) is = inr (ap (λ (b : List ℕ). Some b) is)

-- what was left of the folder before a file was made
before_made : (past : FolderPast) (n : List ℕ) (contents : Contents) → contents_of past n ≡ None
    → ((other : List ℕ) → IsLeft (past.first other) (deeds_of other (Did n Made ∷ past.deeds)) (contents other))
    → MayLeave past (put_at n None contents)
before_made past n contents none each = inr (λ other.
    ⊎_elim
    (λ same. subst (λ (m : List ℕ). IsLeft (past.first m) (deeds_of m past.deeds) (put_at n None contents m)) (sym same.0)
    (subst (λ (o : Option (List ℕ)). IsLeft (past.first n) (deeds_of n past.deeds) o) (sym (put_at-same n None contents))
    (lack_then_crash (past.first n) (deeds_of n past.deeds) (none_may_lack (past.first n) (deeds_of n past.deeds) none))))
    (λ apart. subst (λ (o : Option (List ℕ)). IsLeft (past.first other) (deeds_of other past.deeds) o) (sym (put_at-other n other None contents apart.0))
    (subst (λ (deeds : List FileDeed). IsLeft (past.first other) deeds (contents other)) (deeds_of-other other n Made past.deeds apart.0) (each other)))
    (names_cases other n))

module _ (name : Kind → ℕ → List ℕ) (apart : NamesApart name) (past : FolderPast) (reading : Image) (kind : Kind) (room : file_count reading kind < 2 ^ 32) (seen : IsSeen name (contents_of past) reading) where
  next : List ℕ
  next = name kind (file_count reading kind)

  next_is_none : contents_of past (name kind (file_count reading kind)) ≡ None
  next_is_none = seen.no_more kind (file_count reading kind) (omega arith) room

  -- a crash left no new file
  not_made : (contents : Contents) (image : Image)
      → MayLeave past (put_at (name kind (file_count reading kind)) None contents)
      → contents (name kind (file_count reading kind)) ≡ None → IsSeen name contents image
      → Stepped (MayCreate kind (file_count reading kind)) (images_of name past) image
  not_made contents image before none is = (
    image,
    (
      put_at (name kind (file_count reading kind)) None contents,
      before,
      record {
        there = λ k f inside. as_before (name k f) ∙ is.there k f inside;
        few = is.few;
        no_more = λ k f outside in_range. as_before (name k f) ∙ is.no_more k f outside in_range;
      },
    ),
    inl refl,
  )
    where
      as_before : (n : List ℕ) → put_at (name kind (file_count reading kind)) None contents n ≡ contents n
      as_before n =
          ⊎_elim
          (λ same. subst (λ (m : List ℕ). put_at (name kind (file_count reading kind)) None contents m ≡ contents m) (sym same.0)
          (put_at-same (name kind (file_count reading kind)) None contents ∙ sym none))
          (λ other. put_at-other (name kind (file_count reading kind)) n None contents other.0)
          (names_cases n (name kind (file_count reading kind)))

  -- no file of a further number is left
  no_further : (contents : Contents) (image : Image)
      → MayLeave past (put_at (name kind (file_count reading kind)) None contents) → IsSeen name contents image
      → file_count image kind ≤ file_count reading kind + 1
  no_further contents image before is =
      ⊎_elim
      (λ more. absurd (none-some (file_of image kind further)
      (sym (sym (put_at-other (name kind (file_count reading kind)) (name kind further) None contents (apart kind (file_count reading kind) kind further room (omega (arith, more, is.few kind)) (inr differ)))
      ∙ nothing_is_left past (put_at (name kind (file_count reading kind)) None contents) (name kind further) (seen.no_more kind further (omega arith) (omega (arith, more, is.few kind))) before)
      ∙ is.there kind further more)))
      (λ fewer. fewer)
      (cases_lt further (file_count image kind))
    where
      further : ℕ
      further = file_count reading kind + 1

      differ : file_count reading kind + 1 ≢ file_count reading kind
      differ e = omega (arith, e)

  -- a crash left the new file
  is_made : (contents : Contents) (image : Image)
      → MayLeave past (put_at (name kind (file_count reading kind)) None contents)
      → contents (name kind (file_count reading kind)) ≡ Some [] → IsSeen name contents image
      → Stepped (MayCreate kind (file_count reading kind)) (images_of name past) image
  is_made contents image before some is =
      let number : ℕ = file_count reading kind in
      let there : number < file_count image kind = there_is name contents image kind number [] is room some in
      let most : file_count image kind ≤ number + 1 = no_further contents image before is in
      let count : file_count image kind ≡ number + 1 = omega (arith, there, most) in
      let empty : file_of image kind number ≡ [] = same_Some (file_of image kind number) [] (sym (is.there kind number there) ∙ some) in
      let fewer = without_last image kind number count empty in
      let ends : file_count fewer.0 kind ≡ number = omega (arith, count, sym (ap (λ (i : Image). file_count i kind) fewer.1) ∙ file_count-with_new fewer.0 kind) in (
        fewer.0,
        (
          put_at (name kind (file_count reading kind)) None contents,
          before,
          record {
            there = λ k f inside.
                ⊎_elim
                (λ same. absurd (impossible number k f fewer.0 ends same.0 same.1 inside))
                (λ other.
                put_at-other (name kind number) (name k f) None contents (apart kind number k f room (omega (arith, inside, count_grows fewer.0 kind k, ap (λ (i : Image). file_count i k) fewer.1, is.few k)) other)
                ∙ is.there k f (omega (arith, inside, count_grows fewer.0 kind k, ap (λ (i : Image). file_count i k) fewer.1))
                ∙ ap (λ (b : List ℕ). Some b) (ap (λ (i : Image). file_of i k f) (sym fewer.1) ∙ bytes_stay fewer.0 kind k f))
                (same_or_apart kind number k f);
            few = λ k. omega (arith, is.few k, count_grows fewer.0 kind k, ap (λ (i : Image). file_count i k) fewer.1);
            no_more = λ k f outside in_range.
                ⊎_elim
                (λ same. subst (λ (kk : Kind). put_at (name kind number) None contents (name kk f) ≡ None) (sym same.0)
                (subst (λ (ff : ℕ). put_at (name kind number) None contents (name kind ff) ≡ None) (sym same.1) (put_at-same (name kind number) None contents)))
                (λ other.
                put_at-other (name kind number) (name k f) None contents (apart kind number k f room in_range other)
                ∙ is.no_more k f (beyond number k f fewer.0 image fewer.1 ends other outside) in_range)
                (same_or_apart kind number k f);
          },
        ),
        inr (ends, sym fewer.1),
      )
    where
      impossible : (number : ℕ) (k : Kind) (f : ℕ) (fewer : Image) → file_count fewer kind ≡ number → k ≡ kind → f ≡ number → f < file_count fewer k → ⊥
      impossible number k f fewer ends same is_number inside = omega (arith, ends, is_number, inside, ap (λ (kk : Kind). file_count fewer kk) same)

      beyond : (number : ℕ) (k : Kind) (f : ℕ) (fewer image : Image) → with_new fewer kind ≡ image → file_count fewer kind ≡ number → IsApart kind number k f → file_count fewer k ≤ f → file_count image k ≤ f
      beyond number k f fewer image whole ends (inl other) outside =
          omega (arith, outside, sym (ap (λ (i : Image). file_count i k) whole) ∙ file_count-with_new_kind fewer kind k other)
      beyond number k f fewer image whole ends (inr other) outside =
          ⊎_elim
          (λ same.
          let counts : file_count fewer k ≡ file_count fewer kind = ap (λ (kk : Kind). file_count fewer kk) same in
          let more : file_count image k ≡ file_count fewer kind + 1 =
          ap (λ (kk : Kind). file_count image kk) same ∙ sym (ap (λ (i : Image). file_count i kind) whole) ∙ file_count-with_new fewer kind in
          ⊎_elim
          (λ is. absurd (other (omega (arith, is, ends, counts, outside))))
          (λ past. omega (arith, past, more, ends))
          (cases_lt f (number + 1)))
          (λ differs. omega (arith, outside, sym (ap (λ (i : Image). file_count i k) whole) ∙ file_count-with_new_kind fewer kind k differs))
          (same_kind_or_other k kind)

  pub made_follows : Follows (MayCreate kind (file_count reading kind)) (images_of name past) (images_of name (did_to past (name kind (file_count reading kind)) Made))
  made_follows image left = by_left left.0 left.1 left.2
    where
      by_left : (contents : Contents) → MayLeave (did_to past (name kind (file_count reading kind)) Made) contents → IsSeen name contents image
          → Stepped (MayCreate kind (file_count reading kind)) (images_of name past) image
      by_left contents (inl missing) is = (image, (contents, inl missing, is), inl refl)
      by_left contents (inr each) is =
          let n : List ℕ = name kind (file_count reading kind) in
          let before : MayLeave past (put_at n None contents) = before_made past n contents next_is_none each in
          ⊎_elim
          (λ none. not_made contents image before none is)
          (λ some. is_made contents image before some is)
          (made_cases (past.first n) (deeds_of n past.deeds) (contents n)
          (subst (λ (deeds : List FileDeed). IsLeft (past.first n) deeds (contents n)) (deeds_of-same n Made past.deeds) (each n)))
