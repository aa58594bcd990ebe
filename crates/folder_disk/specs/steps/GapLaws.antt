-- Laws of checkpoints that are missing, and that are made.
use Rattle.std.proofs.Common.{◌≡◌, ◌≢◌, ◌⊎◌, ◌<◌, ◌≤◌, ◌^◌, ◌+◌, ℕ, List, [], ◌∷◌, refl, sym, ap, ◌∙◌, subst, inl, inr, ⊎_elim, arith}
use Rattle.std.specs.Prelude.{Option, Some, None}
use Rattle.std.proofs.lemmas.Bool.{cases_lt}
use Rattle.std.proofs.lemmas.Option.{none-some}
use Rattle.disk_model.specs.declared.kind.Kind.{Kind}
use Rattle.disk_model.specs.declared.kind.Kind.TheVariants.{Warc, Cdxj}
use Rattle.disk_model.specs.steps.ImageLaws.{same_or_apart}
use Rattle.folder_model.specs.Calls.{MayMake}
use Rattle.folder_model.specs.File.{FileDeed, Made, IsLeft, read_of}
use Rattle.folder_model.specs.Folder.{Contents, FolderPast, did_to, deeds_of, contents_of, IsUnfailed}
use Rattle.folder_model.specs.Seen.{NamesApart}
use Rattle.folder_model.specs.steps.FileLaws.{read_is_left}
use Rattle.folder_model.specs.steps.FolderLaws.{Before, before_deed, names_cases}
use Rattle.folder_model.specs.steps.ReadingLaws.{contents_of-same, contents_of-other}
use Rattle.folder_files.specs.Counting.{HasBelow, HasNoMore, IsCounted, known_of}
use Rattle.folder_disk.specs.Gaps.{IsGap, IsMadeGap, IsFilled, with_made, AreGaps, OnlyFills, LeavesFilled}
use Rattle.folder_files.specs.steps.CountLaws.{is_counted}

-- ---- what is there stays so

-- behind the making of a file
made_stays : (past : FolderPast) (n m : List ℕ) → contents_of past m ≢ None → contents_of (did_to past n Made) m ≢ None
made_stays past n m there =
    ⊎_elim
    (λ same lacks. none-some [] (sym (subst (λ (k : List ℕ). contents_of (did_to past n Made) k ≡ None) same.0 lacks) ∙ contents_of-same past n Made))
    (λ apart lacks. there (sym (contents_of-other past n m Made apart.0) ∙ lacks))
    (names_cases m n)

-- behind a file that was made, or nothing
pub may_make_stays : (n m : List ℕ) (old new : FolderPast) → MayMake n old new → contents_of old m ≢ None → contents_of new m ≢ None
may_make_stays n m old new (inl same) there = subst (λ (p : FolderPast). contents_of p m ≢ None) (sym same) there
may_make_stays n m old new (inr made) there = subst (λ (p : FolderPast). contents_of p m ≢ None) (sym made.1) (made_stays old n m there)

module _ (name : Kind → ℕ → List ℕ) (past : FolderPast) where
  -- Where missing checkpoints were made each name has what it had, or is one of them.
  made_filled : (files : List ℕ) → AreGaps name past files → IsFilled name (contents_of past) (contents_of (with_made name files past))
  made_filled [] gaps n = inl refl
  made_filled (file ∷ earlier) gaps n =
      let mid : FolderPast = with_made name earlier past in
      ⊎_elim
      (λ same. inr (record {
        file = file;
        gap = gaps.0;
        named = same.0;
        empty = ap (contents_of (did_to mid (name Cdxj file) Made)) same.0 ∙ contents_of-same mid (name Cdxj file) Made;
      }))
      (λ apart.
      let kept : contents_of (did_to mid (name Cdxj file) Made) n ≡ contents_of mid n = contents_of-other mid (name Cdxj file) n Made apart.0 in
      ⊎_elim
      (λ was. inl (kept ∙ was))
      (λ (made : IsMadeGap name (contents_of past) (contents_of mid) n). inr (record { file = made.file; gap = made.gap; named = made.named; empty = kept ∙ made.empty }))
      (made_filled earlier gaps.2 n))
      (names_cases n (name Cdxj file))

  -- no sync has failed
  made_unfailed : (files : List ℕ) → IsUnfailed past → IsUnfailed (with_made name files past)
  made_unfailed [] unfailed = unfailed
  made_unfailed (file ∷ earlier) unfailed = made_unfailed earlier unfailed

pub only_filled : (name : Kind → ℕ → List ℕ) (old new : FolderPast) → OnlyFills name old new → IsFilled name (contents_of old) (contents_of new)
only_filled name old new fills =
    subst (λ (p : FolderPast). IsFilled name (contents_of old) (contents_of p)) (sym fills.whole) (made_filled name old fills.files fills.gaps)

pub only_fills_unfailed : (name : Kind → ℕ → List ℕ) (old new : FolderPast) → OnlyFills name old new → IsUnfailed old → IsUnfailed new
only_fills_unfailed name old new fills unfailed = subst IsUnfailed (sym fills.whole) (made_unfailed name old fills.files unfailed)

-- ---- one after the other

-- nothing was done
pub none_filled : (name : Kind → ℕ → List ℕ) (old new : FolderPast) → new ≡ old → OnlyFills name old new
none_filled name old new same = record { files = []; gaps = tt; whole = same }

-- what is missing now was missing before
pub was_none : (name : Kind → ℕ → List ℕ) (old new : FolderPast) (n : List ℕ) → OnlyFills name old new → contents_of new n ≡ None → contents_of old n ≡ None
was_none name old new n fills none =
    ⊎_elim
    (λ same. sym same ∙ none)
    (λ (made : IsMadeGap name (contents_of old) (contents_of new) n). absurd (none-some [] (sym none ∙ made.empty)))
    (only_filled name old new fills n)

-- one more, of a volume and below a checkpoint that were there at first
pub one_filled : (name : Kind → ℕ → List ℕ) (file greater : ℕ) (first old new : FolderPast) → file < greater → greater < 2 ^ 32
    → contents_of first (name Warc file) ≢ None → contents_of first (name Cdxj greater) ≢ None → OnlyFills name first old → MayMake (name Cdxj file) old new → OnlyFills name first new
one_filled name file greater first old new above small volume there fills (inl same) = subst (OnlyFills name first) (sym same) fills
one_filled name file greater first old new above small volume there fills (inr made) = record {
  files = file ∷ fills.files;
  gaps = (record { none = was_none name first old (name Cdxj file) fills made.0; volume = volume; greater = greater; above = above; small = small; there = there }, sym (ap (λ (p : FolderPast). contents_of p (name Cdxj file)) fills.whole) ∙ made.0, fills.gaps);
  whole = made.1 ∙ ap (λ (p : FolderPast). did_to p (name Cdxj file) Made) fills.whole;
}

-- behind deeds that left the past as it was
pub filled_since : (name : Kind → ℕ → List ℕ) (first old new : FolderPast) → old ≡ first → OnlyFills name old new → OnlyFills name first new
filled_since name first old new same = subst (λ (p : FolderPast). OnlyFills name p new) same

-- ---- what a crash leaves

-- of a file that reads don't find, once it was made
abbrev MadeOrNot : Option (List ℕ) → Option (List ℕ) → Type 0
MadeOrNot was left = (was ≡ None) × ((left ≡ None) ⊎ (left ≡ Some []))

made_back : (first : Option (List ℕ)) (deeds : List FileDeed) → read_of first deeds ≡ None → (left : Option (List ℕ)) → IsLeft first (Made ∷ deeds) left
    → (was : Option (List ℕ)) × IsLeft first deeds was × MadeOrNot was left
made_back first deeds none None is = (None, read_is_left first deeds None none, (refl, inl refl))
made_back first deeds none (Some bytes) is = (None, read_is_left first deeds None none, (refl, inr (ap (λ (b : List ℕ). Some b) is)))

module _ (name : Kind → ℕ → List ℕ) (past : FolderPast) where
  -- under one name
  abbrev LeftFilled : Contents → Contents → List ℕ → Type 0
  LeftFilled was left n = (left n ≡ was n) ⊎ ((was n ≡ None) × IsMadeGap name (contents_of past) left n)

  -- under that of the last one that was made
  left_made : (file : ℕ) (was mid left : Contents) → IsGap name (contents_of past) file
      → MadeOrNot (mid (name Cdxj file)) (left (name Cdxj file)) → LeftFilled was mid (name Cdxj file) → LeftFilled was left (name Cdxj file)
  left_made file was mid left gap step before =
      let none : was (name Cdxj file) ≡ None = ⊎_elim (λ same. sym same ∙ step.0) (λ made. made.0) before in
      ⊎_elim
      (λ lacks. inl (lacks ∙ sym none))
      (λ empty. inr (none, record { file = file; gap = gap; named = refl; empty = empty }))
      step.1

  -- and under another one
  left_other : (n : List ℕ) (was mid left : Contents) → mid n ≡ left n → LeftFilled was mid n → LeftFilled was left n
  left_other n was mid left same (inl is) = inl (sym same ∙ is)
  left_other n was mid left same (inr made) =
      inr (made.0, record { file = made.1.file; gap = made.1.gap; named = made.1.named; empty = sym same ∙ made.1.empty })

  made_leave : (files : List ℕ) → AreGaps name past files → LeavesFilled name past (with_made name files past)
  made_leave [] gaps left is = (left, is, λ n. inl refl)
  made_leave (file ∷ earlier) gaps left is =
      let mid : FolderPast = with_made name earlier past in
      let n : List ℕ = name Cdxj file in
      let before : Before mid n MadeOrNot left = before_deed mid n Made MadeOrNot (refl, inl refl) (made_back (mid.first n) (deeds_of n mid.deeds) gaps.1) left is in
      let was = made_leave earlier gaps.2 before.before before.left in (
        was.0,
        was.1,
        λ m.
            ⊎_elim
            (λ same. subst (LeftFilled was.0 left) (sym same.0) (left_made file was.0 before.before left gaps.0 before.step (was.2 n)))
            (λ apart. left_other m was.0 before.before left (before.others m apart.0) (was.2 m))
            (names_cases m n),
      )

pub only_fills_leave : (name : Kind → ℕ → List ℕ) (old new : FolderPast) → OnlyFills name old new → LeavesFilled name old new
only_fills_leave name old new fills =
    subst (λ (p : FolderPast). LeavesFilled name old p) (sym fills.whole) (made_leave name old fills.files fills.gaps)

-- ---- the count

-- one more is there
pub one_above : (name : Kind → ℕ → List ℕ) (past : FolderPast) (file : ℕ) → HasBelow name past Cdxj file → contents_of past (name Cdxj file) ≢ None
    → HasBelow name past Cdxj (file + 1)
one_above name past file before there k below =
    ⊎_elim
    (λ (under : k < file). before k under)
    (λ (over : file ≤ k). let is : k ≡ file = omega (arith, over, below) in subst (λ (f : ℕ). contents_of past (name Cdxj f) ≢ None) (sym is) there)
    (cases_lt k file)

-- a folder whose missing checkpoints were made is counted
module _ (name : Kind → ℕ → List ℕ) (apart : NamesApart name) (old new : FolderPast) (warc cdxj : ℕ) (fills : OnlyFills name old new) (no_more : HasNoMore name old warc cdxj) where
  no_more_filled : HasNoMore name new warc cdxj
  no_more_filled kind file beyond small =
      ⊎_elim
      (λ same. same ∙ no_more kind file beyond small)
      (λ (made : IsMadeGap name (contents_of old) (contents_of new) (name kind file)). absurd (is_below made))
      (only_filled name old new fills (name kind file))
    where
      below_greatest : (gap_file : ℕ) → (gap : IsGap name (contents_of old) gap_file) → gap_file < cdxj
      below_greatest gap_file gap =
          ⊎_elim
          (λ (below : gap.greater < cdxj). omega (arith, below, gap.above))
          (λ (past_it : cdxj ≤ gap.greater). absurd (gap.there (no_more Cdxj gap.greater past_it gap.small)))
          (cases_lt gap.greater cdxj)

      is_below : IsMadeGap name (contents_of old) (contents_of new) (name kind file) → ⊥
      is_below made =
          ⊎_elim
          (λ same.
          let known : known_of warc cdxj kind ≡ cdxj = ap (known_of warc cdxj) same.0 in
          omega (arith, known, same.1, beyond, below_greatest made.file made.gap))
          (λ differs. apart Cdxj made.file kind file (omega (arith, made.gap.above, made.gap.small)) small differs made.named)
          (same_or_apart Cdxj made.file kind file)

  pub filled_counted : warc < 2 ^ 32 → cdxj < 2 ^ 32 → IsUnfailed old → HasBelow name old Warc warc → HasBelow name new Cdxj cdxj → IsCounted name new warc cdxj
  filled_counted few fewer unfailed of_warc of_cdxj =
      is_counted name new warc cdxj few fewer (only_fills_unfailed name old new fills unfailed) no_more_filled there
    where
      there : (kind : Kind) (file : ℕ) → file < known_of warc cdxj kind → contents_of new (name kind file) ≢ None
      there Warc file below = λ lacks. of_warc file below (was_none name old new (name Warc file) fills lacks)
      there Cdxj file below = of_cdxj file below

-- one in which none was made, as none is missing below `whole`
pub whole_counted : (name : Kind → ℕ → List ℕ) → NamesApart name → (old new : FolderPast) (warc cdxj whole : ℕ) → new ≡ old → HasNoMore name old warc cdxj
    → warc < 2 ^ 32 → cdxj < 2 ^ 32 → IsUnfailed old → HasBelow name old Warc warc → HasBelow name old Cdxj whole → cdxj ≤ whole → IsCounted name new warc cdxj
whole_counted name apart old new warc cdxj whole same no_more few fewer unfailed of_warc of_cdxj reach =
    filled_counted name apart old new warc cdxj (none_filled name old new same) no_more few fewer unfailed of_warc
    (λ file below. subst (λ (p : FolderPast). contents_of p (name Cdxj file) ≢ None) (sym same) (of_cdxj file (omega (arith, below, reach))))
