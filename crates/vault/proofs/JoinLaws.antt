-- One pass for two.
use Rattle.std.proofs.Common.{◌≡◌, ◌⊎◌, ℕ, Bool, IsTrue, List, ◌∷◌, ◌++◌, sym, ap, subst, ◌∙◌, ⊎_elim, append_assoc}
use mathlib.Core.List.{IsPrefix}
use Rattle.history_lock.specs.Seen.{Shows}
use Rattle.index_snapshot.specs.Edges.{Edge}
use Rattle.logbook.specs.Pages.{Book as LogBook}
use Rattle.vault_lists.specs.Items.{tells_in}
use Rattle.vault_lists.specs.declared.item.Item.{Item}
use Rattle.vault_turns.specs.History.{Names, by_of, is_told, told_book}
use Rattle.vault_turns.specs.Listing.{HasBook, HasEntries, IsListed}
use Rattle.vault_turns.specs.declared.noted.Noted.{Noted}
use Rattle.vault_turns.proofs.PublishLaws.{names_append, names_begun}
use Rattle.vault_turns.proofs.TellingLaws.{told_shown}

pub prefix_on : {A : Type 0} (xs ys zs : List A) → IsPrefix xs ys → IsPrefix ys zs → IsPrefix xs zs
prefix_on xs ys zs p q = (p.0 ++ q.0, sym (append_assoc xs p.0 q.0) ∙ (ap (λ l. l ++ q.0) p.1 ∙ q.1))

pub shown_names : (passes : ℕ) (numbers : List ℕ) (seen found : List Noted) (log : LogBook) → Shows by_of passes numbers seen found → Names seen log → Names found log
shown_names passes numbers seen found log shows names =
    subst (λ (l : List Noted). Names l log) (sym shows.is_seen_and_more) (names_append seen shows.more log names)

book_on : (seen was : List Noted) (items more : List Item) → seen ≡ was → IsPrefix items more → HasBook was items → HasBook seen more
book_on seen was items more same begins has = record {
  first = has.first;
  others = has.others;
  begins = prefix_on (has.first ∷ has.others) items more has.begins begins;
  book_is = has.book_is ∙ ap told_book (sym same);
}

entries_on : (seen was : List Noted) → seen ≡ was → (IsTrue (is_told was) → HasEntries (told_book was)) → IsTrue (is_told seen) → HasEntries (told_book seen)
entries_on seen was same has = subst (λ (l : List Noted). IsTrue (is_told l) → HasEntries (told_book l)) (sym same) has

module _ (passes : ℕ) (numbers others : List ℕ) (a b seen : List Noted) (one : (seen ≡ a) ⊎ (seen ≡ b)) (shows_a : Shows by_of passes numbers a seen)
    (shows_b : Shows by_of passes others b seen) (na nb note : Edge Item) (wa wb whole : Bool) (listed_a : IsListed a na wa) (listed_b : IsListed b nb wb)
    (of : note.of ≡ na.of) (which : (note ≡ na) ⊎ (note ≡ nb)) (first : IsPrefix na.items note.items) (second : IsPrefix nb.items note.items)
    (both : IsTrue whole → IsTrue wa × IsTrue wb) where
  pub joined_listed : IsListed seen note whole
  joined_listed = record {
    named = subst (λ (log : LogBook). Names seen log) (sym of) (shown_names passes numbers a seen na.of shows_a listed_a.named);
    told = ⊎_elim
        (λ (same : note ≡ na). ap (λ (e : Edge Item). tells_in e.items) same
        ∙ (listed_a.told ∙ sym (told_shown passes numbers a seen (names_begun a na.of listed_a.named) shows_a)))
        (λ (same : note ≡ nb). ap (λ (e : Edge Item). tells_in e.items) same
        ∙ (listed_b.told ∙ sym (told_shown passes others b seen (names_begun b nb.of listed_b.named) shows_b)))
        which;
    book = λ t. ⊎_elim
        (λ (same : seen ≡ a). book_on seen a na.items note.items same first (listed_a.book (both t).0))
        (λ (same : seen ≡ b). book_on seen b nb.items note.items same second (listed_b.book (both t).1))
        one;
    entries = λ t. ⊎_elim
        (λ (same : seen ≡ a). entries_on seen a same listed_a.entries t)
        (λ (same : seen ≡ b). entries_on seen b same listed_b.entries t)
        one;
  }
