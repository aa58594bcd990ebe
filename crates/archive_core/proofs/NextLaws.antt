-- What may be opened between calls is next to the book that is seen.
use Rattle.std.proofs.Common.{◌≡◌, ◌⊎◌, ℕ, ◌+◌, ◌<◌, ◌≤◌, IsTrue, List, [], ◌∷◌, ◌++◌, length, sym, ap, subst, ◌∙◌, inl, inr, ⊎_elim, arith, length-append}
use Rattle.std.proofs.lemmas.Bool.{cases_lt}
use Rattle.capture.proofs.GrowthLaws.{grows_from_itself, growth_goes_on}
use Rattle.capture.specs.Captures.{captures}
use Rattle.capture.specs.Growth.{Grows}
use Rattle.capture.specs.declared.book.Book.{Book}
use Rattle.capture.specs.declared.book.Volume.{Volume}
use Rattle.capture.specs.declared.captured.Stored.{Stored}
use Rattle.disk_model.specs.Image.{Image}
use Rattle.disk_model.specs.declared.disk.Disk.{Ghosts}
use Rattle.warc_journal.specs.Extents.{warc_files}
use Rattle.warc_text.proofs.BookLaws.{files_stand_for_no_volume}
use Rattle.warc_text.specs.Ids.{id_of}
use Rattle.warc_text.specs.StandsFor.{IdsDifferIn}
use Rattle.warc_text.specs.declared.id.IdKind.TheVariants.{Response}
use Rattle.archive_shelf.proofs.GainingSoundness.{no_volumes}
use Rattle.archive_shelf.proofs.GainingTexts.{same_length}
use Rattle.archive_shelf.proofs.StoringLaws.{capture_grows, captures_more, captures_stay, volume_grows}
use Rattle.archive_shelf.specs.Openings.{HasIds, ImageStandsFor, IsNext, OpensNext, SameBook}
use Rattle.archive_shelf.specs.Storing.{add_to_last, new_volume, with_capture, with_volume}
use Rattle.archive_volumes.proofs.ChangeLaws.{DiskLaws, no_volumes_by, now_image, one_with}
use Rattle.archive_volumes.specs.Volumes.{OpensNear, crash_of}

-- what a book with a volume that is next to another one has of it
pub record IsLike (book x : Book) : Type 0 where
  pub namespace : x.namespace ≡ book.namespace
  pub count : length (captures x) ≤ length (captures book) + 1

like_same : (book x : Book) → SameBook x book → 0 < length x.volumes → IsLike book x
like_same book x (inl is) some = record {
  namespace = ap (λ (b : Book). b.namespace) is;
  count = omega (arith, ap (λ (b : Book). length (captures b)) is);
}
like_same book x (inr none) some = absurd (omega (arith, some, ap length none.0))

-- a book with room is like it and has as many captures
pub record IsRoomLike (book room : Book) : Type 0 where
  pub namespace : room.namespace ≡ book.namespace
  pub count : length (captures room) ≡ length (captures book)

room_like : (book room : Book) → SameBook room book ⊎ ((born : ℕ) × (room ≡ with_volume book born)) → 0 < length room.volumes → IsRoomLike book room
room_like book room (inl (inl is)) some = record { namespace = ap (λ (b : Book). b.namespace) is; count = ap (λ (b : Book). length (captures b)) is }
room_like book room (inl (inr none)) some = absurd (omega (arith, some, ap length none.0))
room_like book room (inr more) some = record {
  namespace = ap (λ (b : Book). b.namespace) more.1;
  count = ap (λ (b : Book). length (captures b)) more.1 ∙ ap length (captures_stay book.volumes more.0);
}

pub like_by : (book x room : Book) → (SameBook room book ⊎ ((born : ℕ) × (room ≡ with_volume book born)))
    → SameBook x room ⊎ ((stored : Stored) × (x ≡ with_capture room stored)) → 0 < length x.volumes → IsLike book x
like_by book x room roomy (inl (inl is)) some =
    let like = room_like book room roomy (omega (arith, some, ap (λ (b : Book). length b.volumes) is)) in
    record {
      namespace = ap (λ (b : Book). b.namespace) is ∙ like.namespace;
      count = omega (arith, ap (λ (b : Book). length (captures b)) is, like.count);
    }
like_by book x room roomy (inl (inr none)) some = absurd (omega (arith, some, ap length none.0))
like_by book x room roomy (inr more) some =
    let has : 0 < length room.volumes =
    omega (arith, some, ap (λ (b : Book). length b.volumes) more.1, same_length room.volumes more.0) in
    let like = room_like book room roomy has in
    record {
      namespace = ap (λ (b : Book). b.namespace) more.1 ∙ like.namespace;
      count = omega (
        arith,
        ap (λ (b : Book). length (captures b)) more.1,
        ap length (captures_more room.volumes more.0 (no_volumes room.volumes has)),
        length-append (captures room) (more.0 ∷ []),
        like.count,
      );
    }

pub ids_like : (book x : Book) → IsLike book x → HasIds book → IdsDifferIn x
ids_like book x like ids m n less less₂ e =
    ids m n (omega (arith, less, like.count)) (omega (arith, less₂, like.count))
    (subst (λ (ns : List ℕ). id_of ns Response m ≡ id_of ns Response n) like.namespace e)

-- a book without volumes is next where another one is
none_by : (y x room : Book) → y.volumes ≡ [] → x.volumes ≡ [] → SameBook y room ⊎ ((stored : Stored) × (y ≡ with_capture room stored))
    → SameBook x room ⊎ ((stored : Stored) × (x ≡ with_capture room stored))
none_by y x room none none₂ (inl (inl is)) = inl (inr (none₂, ap (λ (b : Book). b.volumes) (sym is) ∙ none))
none_by y x room none none₂ (inl (inr both)) = inl (inr (none₂, both.1))
none_by y x room none none₂ (inr more) =
    inl (inr (none₂, no_volumes_by room.volumes (omega (arith, ap length none, ap (λ (b : Book). length b.volumes) more.1, same_length room.volumes more.0))))

pub next_by : (image : Image) (seen y x : Book) → HasIds seen → IsNext seen y → ImageStandsFor image y → ImageStandsFor image x → IsNext seen x
next_by image seen y x ids next for_y for_x = ⊎_elim
    (λ (some : 0 < length y.volumes).
    let like = like_by seen y next.room next.roomy next.is some in
    subst (IsNext seen) (sym (one_with image x y for_x for_y (ids_like seen y like ids) some)) next)
    (λ (none : length y.volumes ≤ 0).
    let empty : length y.volumes ≡ 0 = omega (arith, none) in
    let empty_x : length x.volumes ≡ 0 = files_stand_for_no_volume (warc_files image) y x for_y.for for_x.for empty in
    record {
      room = next.room;
      roomy = next.roomy;
      is = none_by y x next.room (no_volumes_by y.volumes empty) (no_volumes_by x.volumes empty_x) next.is;
    })
    (cases_lt 0 (length y.volumes))

-- where each image is near the book, what may be opened is next to it
pub opens_next : {D : Type 0} (d : Ghosts D) (laws : DiskLaws d) (disk : D) (seen : Book) → (IsTrue d.tells → OpensNear d disk seen)
    → HasIds seen → OpensNext (crash_of d disk) seen
opens_next d laws disk seen near ids x o =
    let y = near o.0 o.1 (now_image d laws disk x o) in
    next_by o.1 seen y.0 x ids y.2 y.1 o.3

-- ---- books that grow

some_volumes : (volumes : List Volume) (v : Volume) → volumes ++ v ∷ [] ≡ [] → ⊥
some_volumes [] v e = cc
some_volumes (first ∷ others) v e = cc

-- both have no volumes
abbrev pub AreEmpty : Book → Book → Type 0
AreEmpty x book = (x.volumes ≡ []) × (book.volumes ≡ [])

-- a book that is next to one has grown from it, or neither has volumes
pub next_grows : (book x : Book) → IsNext book x → AreEmpty x book ⊎ Grows book x
next_grows book x next = ⊎_elim
    (λ same. ⊎_elim
    (λ (is : next.room ≡ book). ⊎_elim
    (λ here. ⊎_elim
    (λ (x_is : x ≡ next.room). inr (subst (Grows book) (sym (x_is ∙ is)) (grows_from_itself book)))
    (λ both. inl (both.0, sym (ap (λ (b : Book). b.volumes) is) ∙ both.1))
    here)
    (λ more. inr (subst (Grows book) (sym (more.1 ∙ ap (λ (b : Book). with_capture b more.0) is)) (capture_grows book more.0)))
    next.is)
    (λ both. ⊎_elim
    (λ here. ⊎_elim
    (λ (x_is : x ≡ next.room). inl (ap (λ (b : Book). b.volumes) x_is ∙ both.0, both.1))
    (λ too. inl (too.0, both.1))
    here)
    (λ more. inl (
      ap (λ (b : Book). b.volumes) more.1 ∙ ap (λ (l : List Volume). add_to_last l more.0) both.0,
      both.1,
    ))
    next.is)
    same)
    (λ rolled. ⊎_elim
    (λ here. ⊎_elim
    (λ (x_is : x ≡ next.room). inr (subst (Grows book) (sym (x_is ∙ rolled.1)) (volume_grows book rolled.0)))
    (λ both. absurd (some_volumes book.volumes (new_volume rolled.0) (sym (ap (λ (b : Book). b.volumes) rolled.1) ∙ both.1)))
    here)
    (λ more. inr (subst (Grows book) (sym (more.1 ∙ ap (λ (b : Book). with_capture b more.0) rolled.1))
    (growth_goes_on book (with_volume book rolled.0) (with_capture (with_volume book rolled.0) more.0) (volume_grows book rolled.0)
    (capture_grows (with_volume book rolled.0) more.0))))
    next.is)
    next.roomy
