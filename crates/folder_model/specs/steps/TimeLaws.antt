-- Laws of a disk's moments in a folder.
use Rattle.std.proofs.Common.{◌≡◌, ◌⊎◌, ◌≤◌, ◌+◌, ◌-◌, ℕ, Bool, if◌then◌else◌, List, [], ◌∷◌, ◌++◌, length, drop, refl, sym, ap, ◌∙◌, subst, inl, inr, ⊎_elim, arith, length-append}
use Rattle.std.proofs.Math.Seq.{drop-append-add}
use Rattle.std.proofs.lemmas.Bool.{cases_lt, le-leb, lt-leb}
use Rattle.std.proofs.lemmas.List.{drop-append-le}
use Rattle.disk_model.specs.declared.kind.Kind.{Kind}
use Rattle.disk_model.specs.Image.{Image}
use Rattle.disk_model.specs.Crash.{Elapses}
use Rattle.folder_model.specs.Folder.{Deed, FolderPast}
use Rattle.folder_model.specs.Seen.{images_of}
use Rattle.folder_model.specs.Times.{Times, moment_of, newest, begun_at, Rises, IsTimed, goes_on, past_at, images_since_of}

-- when the newest moment began, and each that is to come
begun_late : (made n : ℕ) (earlier : List ℕ) (t : ℕ) → length (n ∷ earlier) ≤ t → begun_at made (n ∷ earlier) t ≡ n
begun_late made n earlier t le = ap (λ (b : Bool). if b then n else begun_at made earlier t) (le-leb (length (n ∷ earlier)) t le)

-- when an earlier one began
begun_before : (made n : ℕ) (earlier : List ℕ) (t : ℕ) → t ≤ length earlier → begun_at made (n ∷ earlier) t ≡ begun_at made earlier t
begun_before made n earlier t le =
    ap (λ (b : Bool). if b then n else begun_at made earlier t) (lt-leb (length (n ∷ earlier)) t (omega (arith, le)))

begun_newest : (made : ℕ) (begun : List ℕ) (t : ℕ) → length begun ≤ t → begun_at made begun t ≡ newest made begun
begun_newest made [] t le = refl
begun_newest made (n ∷ earlier) t le = begun_late made n earlier t le

-- none began after the newest
begun_by_now : (made : ℕ) (begun : List ℕ) (t : ℕ) → Rises made begun → begun_at made begun t ≤ newest made begun
begun_by_now made [] t rises = omega arith
begun_by_now made (n ∷ earlier) t rises =
    ⊎_elim
    (λ before. omega (arith, begun_before made n earlier t (omega (arith, before)), begun_by_now made earlier t rises.1, rises.0))
    (λ late. omega (arith, begun_late made n earlier t late))
    (cases_lt t (length (n ∷ earlier)))

-- none began after a later one
begun_in_order : (made : ℕ) (begun : List ℕ) (t s : ℕ) → Rises made begun → t ≤ s → begun_at made begun t ≤ begun_at made begun s
begun_in_order made [] t s rises le = omega arith
begun_in_order made (n ∷ earlier) t s rises le =
    ⊎_elim
    (λ before.
    omega (arith, begun_before made n earlier s (omega (arith, before)), begun_before made n earlier t (omega (arith, before, le)), begun_in_order made earlier t s rises.1 le))
    (λ late. omega (arith, begun_late made n earlier s late, begun_by_now made (n ∷ earlier) t rises))
    (cases_lt s (length (n ∷ earlier)))

-- the past after all deeds is the past
pub past_now : (past : FolderPast) → past_at past (length past.deeds) ≡ past
past_now past =
    let none : length past.deeds - length past.deeds ≡ 0 = omega arith in
    ap (λ (n : ℕ). record past { deeds = drop n past.deeds }) none

-- an image now is an image since each moment
pub image_now : (name : Kind → ℕ → List ℕ) (past : FolderPast) (times : Times) (t : ℕ) (image : Image)
    → IsTimed times past → images_of name past image → images_since_of name past times t image
image_now name past times t image timed left = (
  length past.deeds,
  omega (arith, begun_by_now times.made times.begun t timed.rises, timed.now),
  omega arith,
  subst (λ (p : FolderPast). images_of name p image) (sym (past_now past)) left,
)

-- an image since now is an image now
pub image_only_now : (name : Kind → ℕ → List ℕ) (past : FolderPast) (times : Times) (image : Image)
    → IsTimed times past → images_since_of name past times (moment_of times) image → images_of name past image
image_only_now name past times image timed left =
    let all : left.0 ≡ length past.deeds = omega (arith, left.1, left.2, begun_newest times.made times.begun (length times.begun) (omega arith), timed.now) in
    subst (λ (p : FolderPast). images_of name p image) (ap (past_at past) all ∙ past_now past) left.3

-- an image since a later moment is one since an earlier moment
pub image_earlier : (name : Kind → ℕ → List ℕ) (past : FolderPast) (times : Times) (t s : ℕ) (image : Image)
    → IsTimed times past → t ≤ s → images_since_of name past times s image → images_since_of name past times t image
image_earlier name past times t s image timed le left =
    (left.0, omega (arith, left.1, begun_in_order times.made times.begun t s timed.rises le), left.2, left.3)

-- a clock that goes on is that of the folder after further deeds
pub goes_on_timed : (times : Times) (past : FolderPast) (added : List Deed) → IsTimed times past
    → IsTimed (goes_on times (record past { deeds = added ++ past.deeds })) (record past { deeds = added ++ past.deeds })
goes_on_timed times past added timed = record {
  rises = (omega (arith, timed.now, length-append added past.deeds), timed.rises);
  now = refl;
}

-- Time goes on by one over deeds between which a crash leaves what it might have left before them, or one of these images.
module _ (name : Kind → ℕ → List ℕ) (past : FolderPast) (times : Times) (added : List Deed) where
  after : FolderPast
  after = record past { deeds = added ++ past.deeds }

  -- what was there before the deeds
  before_deeds : (n : ℕ) → n ≤ length past.deeds → past_at (record past { deeds = added ++ past.deeds }) n ≡ past_at past n
  before_deeds n le =
      let all : length (added ++ past.deeds) ≡ length added + length past.deeds = length-append added past.deeds in
      let sum : length (added ++ past.deeds) - n ≡ length added + (length past.deeds - n) = omega (arith, all, le) in
      ap (λ (deeds : List Deed). record past { deeds = deeds })
      (ap (λ (k : ℕ). drop k (added ++ past.deeds)) sum ∙ drop-append-add added past.deeds (length past.deeds - n))

  -- what was there after some of them
  between_deeds : (n : ℕ) → length past.deeds ≤ n → past_at (record past { deeds = added ++ past.deeds }) n
      ≡ record past { deeds = drop (length (added ++ past.deeds) - n) added ++ past.deeds }
  between_deeds n le =
      let all : length (added ++ past.deeds) ≡ length added + length past.deeds = length-append added past.deeds in
      ap (λ (deeds : List Deed). record past { deeds = deeds })
      (drop-append-le (length (added ++ past.deeds) - n) added past.deeds (omega (arith, all, le)))

  pub deeds_elapse : (target : Image → Type 0)
      → IsTimed times past
      → ((k : ℕ) (image : Image) → images_of name (record past { deeds = drop k added ++ past.deeds }) image → images_of name past image ⊎ target image)
      → Elapses (moment_of times) (moment_of (goes_on times (record past { deeds = added ++ past.deeds })))
      (images_since_of name past times)
      (images_since_of name (record past { deeds = added ++ past.deeds }) (goes_on times (record past { deeds = added ++ past.deeds })))
      target
  deeds_elapse target timed each = record {
    later = omega arith;
    by_one = omega arith;
    nothing_else = λ t image le left.
        let began : begun_at times.made (length (added ++ past.deeds) ∷ times.begun) t ≡ begun_at times.made times.begun t =
        begun_before times.made (length (added ++ past.deeds)) times.begun t le in
        ⊎_elim
        (λ further. ⊎_elim
        (λ was. inl (image_now name past times t image timed was))
        (λ is. inr is)
        (each (length (added ++ past.deeds) - left.0) image
        (subst (λ (p : FolderPast). images_of name p image) (between_deeds left.0 (omega (arith, further))) left.3)))
        (λ early. inl (left.0, omega (arith, left.1, began), early, subst (λ (p : FolderPast). images_of name p image) (before_deeds left.0 early) left.3))
        (cases_lt (length past.deeds) left.0);
    keeps = λ t image le left.
        let began : begun_at times.made (length (added ++ past.deeds) ∷ times.begun) t ≡ begun_at times.made times.begun t =
        begun_before times.made (length (added ++ past.deeds)) times.begun t le in (
          left.0,
          omega (arith, left.1, began),
          omega (arith, left.2, length-append added past.deeds),
          subst (λ (p : FolderPast). images_of name p image) (sym (before_deeds left.0 left.2)) left.3,
        );
  }
