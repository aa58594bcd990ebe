-- Laws of a record of changes.
use Rattle.std.proofs.Common.{◌≡◌, ◌≢◌, ◌≤◌, ◌+◌, ℕ, Bool, true, false, if◌then◌else◌, List, [], ◌∷◌, ◌++◌, length, take, refl, sym, ap, ◌∙◌, subst, arith, inl, inr, ⊎_elim, ◌<◌}
use Rattle.std.specs.Prelude.{◌==◌}
use Rattle.std.proofs.lemmas.Bool.{cases_lt, cases_eq, eqb-true, eq-eqb, ne_eqb}
use Rattle.std.proofs.lemmas.List.{take_all, length_push, take-append-le}
use Rattle.disk_model.specs.Image.{Image, file_count, file_of, with_new, written}
use Rattle.disk_model.specs.steps.ImageLaws.{file_count-with_file, file_count-with_new, file_count-with_new_kind, same_kind_or_other, bytes_stay, count_grows}
use Rattle.disk_model.specs.Crash.{Elapses, MayCreate}
use Rattle.disk_model.specs.steps.CrashLaws.{torn_written, cut_done}
use Rattle.disk_model.specs.Changes.{done, replayed, left_by, left_after, may_leave, left_since}
use Rattle.disk_model.specs.declared.kind.Kind.{Kind}
use Rattle.disk_model.specs.declared.change.Change.{Change}
use Rattle.disk_model.specs.declared.change.Change.TheVariants.{Wrote, Shortened, Made, HalfMade, Synced}

-- one change more comes last
pub replayed-push : (changes : List Change) (change : Change) (first : Image) → replayed (changes ++ change ∷ []) first ≡ done change (replayed changes first)
replayed-push [] change first = refl
replayed-push (c ∷ changes) change first = replayed-push changes change (done c first)

-- what was left before a change leads to what is left after it
pub left_after-push : (changes : List Change) (change : Change) (reading : Image) (images : Image → Type 0) (image : Image)
    → left_after (changes ++ change ∷ []) reading images image → left_by change (replayed changes reading) (left_after changes reading images) image
left_after-push [] change reading images image left = left
left_after-push (c ∷ changes) change reading images image left = left_after-push changes change (done c reading) (left_by c reading images) image left

-- what holds of both branches
pub on_if : {A : Type 0} (P : A → Type 0) (b : Bool) (xs ys : A) → (b ≡ true → P xs) → (b ≡ false → P ys) → P (if b then xs else ys)
on_if P true xs ys holds fails = holds refl
on_if P false xs ys holds fails = fails refl

-- a file that is half made changes no bytes
pub half_bytes : (image : Image) (kind : Kind) (file : ℕ) (k : Kind) (n : ℕ) → file_of (done (HalfMade kind file) image) k n ≡ file_of image k n
half_bytes image kind file k n =
    on_if (λ (i : Image). file_of i k n ≡ file_of image k n) (file == file_count image kind) (with_new image kind) image (λ is. bytes_stay image kind k n) (λ is. refl)

-- it is made, or nothing is done
pub half_may_create : (image : Image) (kind : Kind) (file : ℕ) → MayCreate kind file image (done (HalfMade kind file) image)
half_may_create image kind file =
    on_if (λ (i : Image). MayCreate kind file image i) (file == file_count image kind) (with_new image kind) image (λ is. inr (sym (eqb-true file (file_count image kind) is), refl)) (λ is. inl refl)

-- the next file is made
pub half_next : (image : Image) (kind : Kind) (file : ℕ) → file ≡ file_count image kind → done (HalfMade kind file) image ≡ with_new image kind
half_next image kind file next = ap (λ (b : Bool). if b then with_new image kind else image) (eq-eqb file (file_count image kind) next)

-- and another isn't
pub half_past : (image : Image) (kind : Kind) (file : ℕ) → file ≢ file_count image kind → done (HalfMade kind file) image ≡ image
half_past image kind file other = ap (λ (b : Bool). if b then with_new image kind else image) (ne_eqb file (file_count image kind) other)

pub half_count : (image : Image) (kind : Kind) (file : ℕ) → file ≡ file_count image kind → file_count (done (HalfMade kind file) image) kind ≡ file_count image kind + 1
half_count image kind file next = ap (λ (i : Image). file_count i kind) (half_next image kind file next) ∙ file_count-with_new image kind

pub half_count_kind : (image : Image) (kind : Kind) (file : ℕ) (other : Kind) → other ≢ kind → file_count (done (HalfMade kind file) image) other ≡ file_count image other
half_count_kind image kind file other apart =
    on_if (λ (i : Image). file_count i other ≡ file_count image other) (file == file_count image kind) (with_new image kind) image (λ is. file_count-with_new_kind image kind other apart) (λ is. refl)

-- it takes no file away
pub half_grows : (image : Image) (kind : Kind) (file : ℕ) (other : Kind) → file_count image other ≤ file_count (done (HalfMade kind file) image) other
half_grows image kind file other =
    on_if (λ (i : Image). file_count image other ≤ file_count i other) (file == file_count image kind) (with_new image kind) image (λ is. count_grows image kind other) (λ is. omega arith)

-- a change that is done is one of what a crash may leave of it
pub done_is_left : (change : Change) (reading : Image) (images : Image → Type 0) → images reading → left_by change reading images (done change reading)
done_is_left (Wrote kind file at bytes) reading images is = (reading, is, record { bytes = _; step = torn_written at (length bytes) (file_of reading kind file) bytes (omega arith); whole = refl })
done_is_left (Shortened kind file len) reading images is = (reading, is, record { bytes = _; step = cut_done len (file_of reading kind file); whole = refl })
done_is_left (Made kind) reading images is = (reading, is, refl, refl)
done_is_left (HalfMade kind file) reading images is = (reading, is, half_may_create reading kind file)
done_is_left (Synced kind file) reading images is = (is, (λ there. there), refl)

-- what a read gives is one of the images
pub replayed_is_left : (changes : List Change) (reading : Image) (images : Image → Type 0) → images reading → left_after changes reading images (replayed changes reading)
replayed_is_left [] reading images is = is
replayed_is_left (c ∷ changes) reading images is = replayed_is_left changes (done c reading) (left_by c reading images) (done_is_left c reading images is)

-- where one image has no more files than another, it has no more with one more in both
pub fewer-with_new : (one two : Image) (kind other : Kind) → file_count one other ≤ file_count two other → file_count (with_new one kind) other ≤ file_count (with_new two kind) other
fewer-with_new one two kind other fewer =
    ⊎_elim
    (λ same. subst (λ (k : Kind). file_count (with_new one kind) k ≤ file_count (with_new two kind) k) (sym same)
    (omega (arith, file_count-with_new one kind, file_count-with_new two kind, subst (λ (k : Kind). file_count one k ≤ file_count two k) same fewer)))
    (λ apart. omega (arith, file_count-with_new_kind one kind other apart, file_count-with_new_kind two kind other apart, fewer))
    (same_kind_or_other other kind)

-- a number that is the less and not the more is below it
strictly : (less more file : ℕ) → less ≤ more → file ≡ less → (file ≡ more → ⊥) → less < more
strictly less more file le next past = ⊎_elim (λ is. is) (λ most. absurd (past (omega (arith, le, next, most)))) (cases_lt less more)

-- nor with a file half made in both
pub fewer-half : (one two : Image) (kind : Kind) (file : ℕ) (other : Kind) → file_count one other ≤ file_count two other → file_count (done (HalfMade kind file) one) other ≤ file_count (done (HalfMade kind file) two) other
fewer-half one two kind file other fewer =
    ⊎_elim
    (λ same. subst (λ (k : Kind). file_count (done (HalfMade kind file) one) k ≤ file_count (done (HalfMade kind file) two) k) (sym same)
    (here (subst (λ (k : Kind). file_count one k ≤ file_count two k) same fewer)))
    (λ apart. omega (arith, half_count_kind one kind file other apart, half_count_kind two kind file other apart, fewer))
    (same_kind_or_other other kind)
  where
    here : file_count one kind ≤ file_count two kind → file_count (done (HalfMade kind file) one) kind ≤ file_count (done (HalfMade kind file) two) kind
    here less =
        ⊎_elim
        (λ next. ⊎_elim
        (λ both. omega (arith, half_count one kind file next, half_count two kind file both, less))
        (λ past. omega (arith, half_count one kind file next, half_grows two kind file kind, next, strictly (file_count one kind) (file_count two kind) file less next past))
        (cases_eq file (file_count two kind)))
        (λ past. omega (arith, ap (λ (i : Image). file_count i kind) (half_past one kind file past), half_grows two kind file kind, less))
        (cases_eq file (file_count one kind))

-- no image has more files of a kind than the reading
abbrev pub HasMost : Image → (Image → Type 0) → Type 0
HasMost reading images = (image : Image) (kind : Kind) → images image → file_count image kind ≤ file_count reading kind

pub most_by : (change : Change) (reading : Image) (images : Image → Type 0) → HasMost reading images → HasMost (done change reading) (left_by change reading images)
most_by (Wrote kind file at bytes) reading images most image other left =
    omega (arith, ap (λ (i : Image). file_count i other) left.2.whole, file_count-with_file left.0 kind file left.2.bytes other, most left.0 other left.1, file_count-with_file reading kind file (written (file_of reading kind file) at bytes) other)
most_by (Shortened kind file len) reading images most image other left =
    omega (arith, ap (λ (i : Image). file_count i other) left.2.whole, file_count-with_file left.0 kind file left.2.bytes other, most left.0 other left.1, file_count-with_file reading kind file (take len (file_of reading kind file)) other)
most_by (Made kind) reading images most image other left =
    omega (arith, ap (λ (i : Image). file_count i other) left.3, fewer-with_new left.0 reading kind other (most left.0 other left.1))
most_by (HalfMade kind file) reading images most image other left =
    ⊎_elim
    (λ same. omega (arith, ap (λ (i : Image). file_count i other) same, most left.0 other left.1, half_grows reading kind file other))
    (λ made. omega (arith, ap (λ (i : Image). file_count i other) (made.1 ∙ sym (half_next left.0 kind file (sym made.0))), fewer-half left.0 reading kind file other (most left.0 other left.1)))
    left.2
most_by (Synced kind file) reading images most image other left = most image other left.0

pub most_after : (changes : List Change) (reading : Image) (images : Image → Type 0) → HasMost reading images → HasMost (replayed changes reading) (left_after changes reading images)
most_after [] reading images most = most
most_after (c ∷ changes) reading images most = most_after changes (done c reading) (left_by c reading images) (most_by c reading images most)

pub no_more_left : (changes : List Change) (first image : Image) (kind : Kind) → may_leave changes first image → file_count image kind ≤ file_count (replayed changes first) kind
no_more_left changes first image kind left =
    most_after changes first (λ image. image ≡ first) (λ image kind is. omega (arith, ap (λ (i : Image). file_count i kind) is)) image kind left

-- an image now is an image since each earlier moment
pub left_now : (changes : List Change) (first : Image) (t : ℕ) (image : Image) → t ≤ length changes → may_leave changes first image → left_since changes first t image
left_now changes first t image le left =
    (length changes, le, omega arith, subst (λ (some : List Change). may_leave some first image) (sym (take_all (length changes) changes (omega arith))) left)

-- an image since now is an image now
pub left_only_now : (changes : List Change) (first : Image) (image : Image) → left_since changes first (length changes) image → may_leave changes first image
left_only_now changes first image left =
    subst (λ (some : List Change). may_leave some first image) (take_all left.0 changes left.1) left.3

-- an image since a later moment is one since an earlier moment
pub left_earlier : (changes : List Change) (first : Image) (t s : ℕ) (image : Image) → t ≤ s → left_since changes first s image → left_since changes first t image
left_earlier changes first t s image le left = (left.0, omega (arith, le, left.1), left.2, left.3)

-- a change is one moment more
pub elapses-push : (changes : List Change) (change : Change) (first : Image)
    → Elapses (length changes) (length (changes ++ change ∷ [])) (left_since changes first) (left_since (changes ++ change ∷ []) first) (may_leave (changes ++ change ∷ []) first)
elapses-push changes change first = record {
  later = omega (arith, length_push changes change);
  by_one = omega (arith, length_push changes change);
  nothing_else = λ t image le left. ⊎_elim (λ now. inr (last t image left now)) (λ past. inl (earlier t image left past)) (cases_lt (length changes) left.0);
  keeps = λ t image le left.
      (left.0, left.1, omega (arith, length_push changes change, left.2), subst (λ (some : List Change). may_leave some first image) (sym (take-append-le left.0 changes (change ∷ []) left.2)) left.3);
}
  where
    last : (t : ℕ) (image : Image) (left : left_since (changes ++ change ∷ []) first t image) → length changes < left.0 → may_leave (changes ++ change ∷ []) first image
    last t image left now = subst (λ (some : List Change). may_leave some first image) (take_all left.0 (changes ++ change ∷ []) (omega (arith, length_push changes change, now))) left.3

    earlier : (t : ℕ) (image : Image) (left : left_since (changes ++ change ∷ []) first t image) → left.0 ≤ length changes → left_since changes first t image
    earlier t image left past = (left.0, left.1, past, subst (λ (some : List Change). may_leave some first image) (take-append-le left.0 changes (change ∷ []) past) left.3)
