-- What a filled archive tells of a trial.
use Rattle.std.proofs.Common.{◌≡◌, ℕ, zero, suc, ◌+◌, List, [], ◌∷◌, ◌++◌, length, sum_by, min, refl, sym, ap, subst, ◌∙◌, inl, inr, arith}
use Rattle.std.proofs.lemmas.List.Sums.{sum_by-append}
use Rattle.archive_shelf.specs.Openings.{HasJust}
use Rattle.archive_shelf.specs.Storing.{counts_of, empty_book}
use Rattle.archive_shelf.specs.Told.{Told}
use Rattle.archive_shelf.specs.declared.counts.Counts.{Counts}
use Rattle.archive_shelf.proofs.StoringLaws.{IsUnfilled}
use Rattle.capture.specs.declared.book.Book.{Book}
use Rattle.capture.specs.declared.book.Volume.{Volume}
use Rattle.capture.specs.declared.captured.Stored.{Stored}
use Rattle.disk_model.specs.Image.{Image, files_of, no_files}
use Rattle.load_shelf.specs.Loads.{HoldsFirst, IsFilled}
use Rattle.command.specs.Texts.{trial_text}
use Rattle.load_trial.specs.Trials.{IsTried}
use Rattle.load_trial.specs.Trials.{trial_namespace, trial_volume}
use Rattle.warc_journal.specs.Extents.{warc_files}
use Rattle.warc_journal.specs.Texts.{AreJust}

none_of : (volumes : List Volume) → length volumes ≡ 0 → volumes ≡ []
none_of [] e = refl
none_of (x ∷ xs) e = absurd (omega (arith, e))

-- a book without volumes
pub empty_of : (book : Book) → length book.volumes ≡ 0 → book ≡ empty_book book.namespace
empty_of book none = λ i. record { namespace = book.namespace; volumes = (none_of book.volumes none) i }

same_in : (limit : ℕ) (book : Book) (stored : Stored) (room : Book) → IsUnfilled limit book stored room → room.namespace ≡ book.namespace
same_in limit book stored room (inl has) = ap (λ (b : Book). b.namespace) has.1
same_in limit book stored room (inr needs) = ap (λ (b : Book). b.namespace) needs.1

-- a book that took a load keeps its namespace
holds_namespace : (limit : ℕ) (namespace : List ℕ) (seed count : ℕ) (book : Book) → HoldsFirst limit namespace seed count book
    → book.namespace ≡ namespace
holds_namespace limit namespace seed zero book is = ap (λ (b : Book). b.namespace) is
holds_namespace limit namespace seed (suc count) book (before, held, storing, is) =
    ap (λ (b : Book). b.namespace) is ∙ same_in limit before _ storing.unfilled storing.roomy
    ∙ holds_namespace limit namespace seed count before held

-- an empty file adds nothing
just_sum : (texts files : List (List ℕ)) → AreJust texts files
    → sum_by (λ (text : List ℕ). length text) files ≡ sum_by (λ (text : List ℕ). length text) texts
just_sum texts files (inl e) = ap (sum_by (λ (text : List ℕ). length text)) e
just_sum texts files (inr e) =
    let joined : sum_by (λ (text : List ℕ). length text) (texts ++ [] ∷ []) ≡ sum_by (λ (text : List ℕ). length text) texts + 0 =
    sum_by-append (λ (text : List ℕ). length text) texts ([] ∷ []) in
    ap (sum_by (λ (text : List ℕ). length text)) e ∙ joined ∙ omega arith

pub no_warc_files : warc_files no_files ≡ []
unfolding files_of
no_warc_files = refl

-- a new archive has no volumes and no files of them
pub new_has_just : (image : Image) (book : Book) → length book.volumes ≡ 0 → warc_files image ≡ [] → HasJust image book
new_has_just image book none files = ([], record { count = sym none; each = λ k lt. absurd (omega (arith, lt)) }, inl files)

-- what is below the greatest number isn't held down to it
pub not_held : (sum most bytes : ℕ) → bytes ≡ min sum most → (bytes ≡ most → ⊥) → bytes ≡ sum
not_held sum most bytes is below = omega (arith, is, below)

-- what is printed of a filled archive
pub tried_by : (told : Told) (seed count bytes : ℕ) (counts : Counts) (text : List ℕ) → IsFilled told seed count count
    → told.contents.limits.volume_bytes ≡ trial_volume → told.contents.seen.namespace ≡ trial_namespace
    → (counts_of told.contents.seen).captures ≡ count → counts ≡ counts_of told.contents.seen
    → bytes ≡ sum_by (λ (text : List ℕ). length text) (warc_files told.reading) → text ≡ trial_text counts bytes count
    → IsTried count seed text
tried_by told seed count bytes counts text filled volume namespace all are sum text_is =
    let book = told.contents.seen in
    let in_namespace : filled.namespace ≡ trial_namespace =
    sym (holds_namespace _ filled.namespace seed count book filled.holds) ∙ namespace in
    record {
      book = book;
      holds = subst (λ n. HoldsFirst trial_volume n seed count book) in_namespace
          (subst (λ v. HoldsFirst v filled.namespace seed count book) volume filled.holds);
      all = all;
      payloads = filled.payloads;
      volumes = filled.just.0;
      volumes_are = filled.just.1;
      text_is =
          text_is ∙ ap (λ c. trial_text c bytes count) are
          ∙ ap (λ (n : ℕ). trial_text (counts_of book) n count) (sum ∙ just_sum filled.just.0 (warc_files told.reading) filled.just.2);
    }
