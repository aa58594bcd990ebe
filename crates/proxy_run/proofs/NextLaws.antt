-- Books that are next to a book open in its namespace.
use Rattle.std.proofs.Common.{◌≡◌, ◌⊎◌, ℕ, ◌-◌, ◌<◌, ◌≤◌, List, [], ◌∷◌, ◌++◌, length, Some, refl, sym, ap, subst, ◌∙◌, inl, inr, ⊎_elim, arith}
use Rattle.std.proofs.lemmas.Bool.{cases_lt}
use Rattle.std.proofs.lemmas.List.{append-nil}
use Rattle.std.proofs.lemmas.Option.{same_Some, slice_get_within}
use Rattle.archive_shelf.proofs.StoringLaws.{captures_more, captures_stay}
use Rattle.archive_settling.proofs.FinishedLaws.{checkpoints_later, volume_at}
use Rattle.archive_core.proofs.NextLaws.{AreEmpty, ids_like, like_by, next_grows}
use Rattle.archive_shelf.specs.Openings.{HasIds, ImageStandsFor, IsNext, SameBook}
use Rattle.archive_shelf.specs.Storing.{with_capture, with_volume}
use Rattle.capture.specs.Captures.{captures}
use Rattle.capture.specs.Growth.{Grows}
use Rattle.capture.specs.declared.book.Book.{Book}
use Rattle.capture.specs.declared.book.Volume.{Volume}
use Rattle.capture.specs.declared.captured.Stored.{Stored}
use Rattle.command.proofs.OpeningLaws.{ids_differ}
use Rattle.disk_model.specs.Image.{Image}
use Rattle.checkpoint.specs.OfVolume.{HasCheckpointsOf}
use Rattle.proxy_run.specs.Complete.{HoldsAll, IsReadied}
use Rattle.warc_journal.specs.Extents.{warc_files}
use Rattle.warc_text.specs.Sound.{IsSound}
use Rattle.warc_text.specs.StandsFor.{FilesStandForNoVolume, FilesStandForOneBook, IdsDifferIn}

pub none_by_length : (volumes : List Volume) → length volumes ≡ 0 → volumes ≡ []
none_by_length [] e = refl
none_by_length (volume ∷ volumes) e = absurd (omega (arith, e))

-- without volumes there are no captures, whose ids might be equal
no_captures : (book : Book) → book.volumes ≡ [] → IdsDifferIn book
no_captures book none m n less less₂ e = absurd (omega (arith, less, ap (λ (b : List Volume). length (captures (record book { volumes = b }))) none))

ids_next : (seen x : Book) → HasIds seen → IsNext seen x → 0 < length x.volumes → IdsDifferIn x
ids_next seen x ids next some =
    ids_like seen x (like_by seen x next.room next.roomy next.is some) ids

pub next_ids : (seen x : Book) → HasIds seen → IsNext seen x → IdsDifferIn x
next_ids seen x ids next = ⊎_elim
    (λ (some : 0 < length x.volumes). ids_next seen x ids next some)
    (λ (few : length x.volumes ≤ 0). no_captures x (none_by_length x.volumes (omega (arith, few))))
    (cases_lt 0 (length x.volumes))

-- of books without volumes an image stands for each sound one
pub stands_same : (image : Image) (x book : Book) → SameBook x book → IsSound book → ImageStandsFor image x → ImageStandsFor image book
stands_same image x book (inl is) sound stands = subst (λ (b : Book). ImageStandsFor image b) is stands
stands_same image x book (inr (none, none₂)) sound stands = record {
  for = record {
    texts = stands.for.texts;
    are = record {
      count = stands.for.are.count ∙ ap (λ (v : List Volume). length v) (none ∙ sym none₂);
      each = λ k less. absurd (omega (arith, less, stands.for.are.count, ap (λ (v : List Volume). length v) none));
    };
    held = stands.for.held;
  };
  sound = sound;
}

none_before : (was now : Book) → Grows was now → now.volumes ≡ [] → was.volumes ≡ []
none_before was now grows none = ⊎_elim
    (λ (some : 0 < length was.volumes).
    let v = volume_at was.volumes (length was.volumes - 1) (omega (arith, some)) in
    let at = grows.last (length was.volumes - 1) v.0 (omega (arith, some)) v.1 in
    absurd (omega (
      arith,
      slice_get_within now.volumes (length was.volumes - 1) at.volume at.placed,
      ap (λ (l : List Volume). length l) none,
    )))
    (λ (few : length was.volumes ≤ 0). none_by_length was.volumes (omega (arith, few)))
    (cases_lt 0 (length was.volumes))

-- a book without volumes that has grown from one is that one
pub sound_still : (was now : Book) → Grows was now → IsSound was → now.volumes ≡ [] → IsSound now
sound_still was now grows sound none =
    let namespace : was.namespace ≡ now.namespace = sym grows.namespace in
    let volumes : was.volumes ≡ now.volumes = none_before was now grows none ∙ sym none in
    let same : was ≡ now = λ i. record { namespace = namespace i; volumes = volumes i } in
    subst IsSound same sound

-- ---- the next run

settled_by : (namespace : List ℕ) (image : Image) (seen x : Book) → seen.namespace ≡ namespace → (seen.volumes ≡ [] → IsSound seen) → HasIds seen → IsNext seen x
    → ImageStandsFor image x → HasCheckpointsOf image seen → AreEmpty x seen ⊎ Grows seen x → IsReadied (Some namespace) image
settled_by namespace image seen x named sound ids next stands right (inl (none, none₂)) = record {
  book = seen;
  settled = record { stands = stands_same image x seen (inr (none, none₂)) (sound none₂) stands; ids = ids_differ seen ids; checkpoints = right };
  asked_for = λ ns is. named ∙ same_Some namespace ns is;
}
settled_by namespace image seen x named sound ids next stands right (inr grows) = record {
  book = x;
  settled = record { stands = stands; ids = next_ids seen x ids next; checkpoints = checkpoints_later seen x image grows right };
  asked_for = λ ns is. grows.namespace ∙ named ∙ same_Some namespace ns is;
}

-- an image that is left is settled for a book that the next run may know
pub settled_next : (namespace : List ℕ) (image : Image) (seen x : Book) → seen.namespace ≡ namespace → (seen.volumes ≡ [] → IsSound seen) → HasIds seen → IsNext seen x
    → ImageStandsFor image x → HasCheckpointsOf image seen → IsReadied (Some namespace) image
settled_next namespace image seen x named sound ids next stands right =
    settled_by namespace image seen x named sound ids next stands right (next_grows seen x next)

-- ---- captures

no_more : (book x : Book) → captures x ≡ captures book → HoldsAll book x
no_more book x same = record { more = []; few = omega arith; are = same ∙ sym (append-nil (captures book)) }

none_in : (a b : Book) → a.volumes ≡ [] → b.volumes ≡ [] → captures a ≡ captures b
none_in a b none none₂ =
    ap (λ (v : List Volume). captures (record a { volumes = v })) none ∙ sym (ap (λ (v : List Volume). captures (record b { volumes = v })) none₂)

same_captures : (a b : Book) → SameBook a b → captures a ≡ captures b
same_captures a b (inl is) = ap captures is
same_captures a b (inr both) = none_in a b both.0 both.1

room_captures : (book room : Book) → SameBook room book ⊎ ((born : ℕ) × (room ≡ with_volume book born)) → captures room ≡ captures book
room_captures book room (inl same) = same_captures room book same
room_captures book room (inr more) = ap captures more.1 ∙ captures_stay book.volumes more.0

with_one : (volumes : List Volume) (namespace : List ℕ) (stored : Stored) → HoldsAll (record { namespace = namespace; volumes = volumes })
    (with_capture (record { namespace = namespace; volumes = volumes }) stored)
with_one [] namespace stored = record { more = []; few = omega arith; are = refl }
with_one (first ∷ others) namespace stored = record { more = stored ∷ []; few = omega arith; are = captures_more (first ∷ others) stored (λ e. cc) }

behind : (book room x : Book) → captures room ≡ captures book → HoldsAll room x → HoldsAll book x
behind book room x same all = record { more = all.more; few = all.few; are = all.are ∙ ap (λ (front : List Stored). front ++ all.more) same }

holds_next : (book room x : Book) → captures room ≡ captures book → SameBook x room ⊎ ((stored : Stored) × (x ≡ with_capture room stored)) → HoldsAll book x
holds_next book room x same (inl is) = no_more book x (same_captures x room is ∙ same)
holds_next book room x same (inr more) =
    behind book room x same (subst (λ (b : Book). HoldsAll room b) (sym more.1) (with_one room.volumes room.namespace more.0))

-- a book for which the image of a book that is next to another one stands
pub all_next : FilesStandForOneBook → FilesStandForNoVolume → (image : Image) (seen y x : Book) → HasIds seen → IsNext seen y → ImageStandsFor image y
    → ImageStandsFor image x → HoldsAll seen x
all_next one no_volume image seen y x ids next for_y for_x =
    let all = holds_next seen next.room y (room_captures seen next.room next.roomy) next.is in
    let same : captures x ≡ captures y = ⊎_elim
    (λ (some : 0 < length y.volumes).
    ap captures (sym (one (warc_files image) y x for_y.sound for_x.sound (ids_next seen y ids next some) for_y.for for_x.for some)))
    (λ (few : length y.volumes ≤ 0).
    let none : length y.volumes ≡ 0 = omega (arith, few) in
    none_in x y (none_by_length x.volumes (no_volume (warc_files image) y x for_y.for for_x.for none)) (none_by_length y.volumes none))
    (cases_lt 0 (length y.volumes)) in
    record { more = all.more; few = all.few; are = same ∙ all.are }
