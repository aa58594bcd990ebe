-- What is shown begins with the entries of the book that a pass has seen.
use Rattle.std.proofs.Common.{◌≡◌, Bool, IsTrue, List, ◌∷◌, ◌++◌, false, sym, ap, subst, ◌∙◌, append_assoc}
use mathlib.Core.List.{IsPrefix}
use Rattle.capture.specs.Growth.{Grows}
use Rattle.capture.specs.GrowthLaws.{GrowsFromItself, GrowthGoesOn, GrowthKeepsCaptures}
use Rattle.capture.specs.declared.book.Book.{Book}
use Rattle.index_entry.specs.Facts.{Facts}
use Rattle.index_entry.proofs.Members.{among_from_contains}
use Rattle.archive_shelf.specs.Contents.{Shows}
use Rattle.archive_index.specs.Shown.{numbered}
use Rattle.index_snapshot.specs.Entries.{entries_in}
use Rattle.index_snapshot.proofs.Bringing.{entries_joined}
use Rattle.vault_lists.specs.Items.{AreItems, book_in, brings_of, last_book, last_from, shown_in, tells_in}
use Rattle.vault_lists.specs.declared.item.Item.{Item}
use Rattle.vault_lists.proofs.ItemLaws.{behind_front, behind_rest, from_on, grows_last, last_joined, shown_entries, shown_sorted}
use Rattle.vault_turns.specs.History.{is_told, told_book}
use Rattle.vault_turns.specs.Listing.{HasBook}
use Rattle.vault_turns.specs.declared.noted.Noted.{Noted}
use Rattle.vault.proofs.JoinLaws.{prefix_on}

shown_joined : (first : Item) (others more : List Item)
    → shown_in (first ∷ others ++ more) ≡ shown_in (first ∷ others) ++ entries_in brings_of more
shown_joined first others more =
    ap (λ (l : List Facts). numbered (brings_of first) ++ l) (entries_joined brings_of others more)
    ∙ sym (append_assoc (numbered (brings_of first)) (entries_in brings_of others) (entries_in brings_of more))

module _ (keeps : GrowthKeepsCaptures) (itself : GrowsFromItself) (goes_on : GrowthGoesOn) where
  begins_so : (first : Item) (others more : List Item) → AreItems (first ∷ others ++ more) → IsTrue first.told.value
      → Shows false (last_from (book_in first) others) (shown_in (first ∷ others ++ more))
  begins_so first others more are told =
      let rest = behind_rest first.told.value (book_in first) (brings_of first) others more are.1 in (
        shown_in (first ∷ others),
        shown_entries keeps (first ∷ others) (are.0, behind_front first.told.value (book_in first) (brings_of first) others more are.1) told,
        record { rest = entries_in brings_of more; joined = shown_joined first others more },
        shown_sorted keeps (first ∷ others ++ more) are,
        λ e there.
            from_on keeps first.told.value (last_from (book_in first) others) (brings_of first ++ entries_in brings_of others) more rest e
            (among_from_contains (entries_in brings_of more) e there),
        last_book (first ∷ others ++ more),
        subst (λ (b : Book). Grows (last_from (book_in first) others) b) (sym (last_joined (book_in first) others more))
            (grows_last itself goes_on first.told.value (last_from (book_in first) others) (brings_of first ++ entries_in brings_of others) more rest),
        shown_entries keeps (first ∷ others ++ more) are told,
      )

  pub knows_book : (history : List Noted) (note items : List Item) → AreItems items → IsPrefix note items → HasBook history note → tells_in note ≡ is_told history
      → IsTrue (is_told history) → Shows false (told_book history) (shown_in items)
  knows_book history note items are begins has told_is told =
      let front : List Item = has.first ∷ has.others in
      let all = prefix_on front note items has.begins begins in
      let flag : has.first.told.value ≡ is_told history = ap tells_in has.begins.1 ∙ told_is in
      subst (λ (b : Book). Shows false b (shown_in items)) has.book_is
      (subst (λ (l : List Item). Shows false (last_from (book_in has.first) has.others) (shown_in l)) all.1
      (begins_so has.first has.others all.0 (subst AreItems (sym all.1) are) (subst (λ (b : Bool). IsTrue b) (sym flag) told)))
