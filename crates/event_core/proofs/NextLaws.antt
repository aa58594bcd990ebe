-- Books next to one another, and images that stand for them.
use Rattle.std.proofs.Common.{◌≡◌, ℕ, List, [], length, sym, ap, subst, ◌∙◌, ⊎_elim, arith}
use Rattle.capture.proofs.GrowthLaws.{grows_from_itself}
use Rattle.capture.specs.Growth.{Grows}
use Rattle.capture.specs.declared.book.Book.{Book}
use Rattle.capture.specs.declared.book.Volume.{Volume}
use Rattle.disk_model.specs.Image.{Image}
use Rattle.warc_text.specs.Books.{AreVolumeTexts}
use Rattle.warc_text.specs.Sound.{IsSound}
use Rattle.archive_core.proofs.NextLaws.{AreEmpty, next_grows}
use Rattle.archive_shelf.specs.Openings.{ImageStandsFor, IsNext, SameBook}

-- without volumes and in one namespace they are one
pub empty_is : (x book : Book) → x.namespace ≡ book.namespace → AreEmpty x book → x ≡ book
empty_is x book namespace none = λ i. record { namespace = namespace i; volumes = (none.0 ∙ sym none.1) i }

pub same_is : (x book : Book) → x.namespace ≡ book.namespace → SameBook x book → x ≡ book
same_is x book namespace same = ⊎_elim (λ is. is) (λ none. empty_is x book namespace none) same

pub next_in_namespace : (book x : Book) → x.namespace ≡ book.namespace → IsNext book x → Grows book x
next_in_namespace book x namespace next = ⊎_elim
    (λ none. subst (Grows book) (sym (empty_is x book namespace none)) (grows_from_itself book))
    (λ grows. grows)
    (next_grows book x next)

-- files that stand for a book without volumes stand for each sound one
empty_texts : (book : Book) (texts : List (List ℕ)) → book.volumes ≡ [] → length texts ≡ 0 → AreVolumeTexts book texts
empty_texts book texts none few = record {
  count = few ∙ sym (ap (λ (l : List Volume). length l) none);
  each = λ k less. absurd (omega (arith, few, less));
}

pub empty_stands : (image : Image) (x book : Book) → ImageStandsFor image x → IsSound book → AreEmpty x book → ImageStandsFor image book
empty_stands image x book stands sound none = record {
  for = record {
    texts = stands.for.texts;
    are = empty_texts book stands.for.texts none.1 (stands.for.are.count ∙ ap (λ (l : List Volume). length l) none.0);
    held = stands.for.held;
  };
  sound = sound;
}

pub same_stands_for : (image : Image) (x book : Book) → ImageStandsFor image x → IsSound book → SameBook x book → ImageStandsFor image book
same_stands_for image x book stands sound same = ⊎_elim
    (λ is. subst (ImageStandsFor image) is stands)
    (λ none. empty_stands image x book stands sound none)
    same
