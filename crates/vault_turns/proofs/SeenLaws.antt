-- A list that was seen, beside the one that is published.
use Rattle.std.proofs.Common.{◌≡◌, Bool, true, false, List, [], ◌∷◌, ◌++◌, refl, sym, ap, subst, ◌∙◌, append_assoc}
use mathlib.Core.List.{IsPrefix}
use mathlib.Core.Bool.{true≢false}
use Rattle.std.specs.Prelude.{Contains, MatchBool}
use Rattle.index_entry.specs.Facts.{Facts}
use Rattle.index_entry.proofs.Members.{Among-append_left, among_from_contains, contains_from_among}
use Rattle.archive_index.specs.Shown.{numbered}
use Rattle.archive_shelf.specs.Contents.{Begins}
use Rattle.index_snapshot.specs.Entries.{entries_in}
use Rattle.index_snapshot.proofs.Bringing.{entries_joined}
use Rattle.logbook.specs.Pages.{Book as LogBook}
use Rattle.vault_lists.specs.Items.{brings_of, shown_in}
use Rattle.vault_lists.specs.declared.item.Item.{Item}
use Rattle.vault_lists.proofs.ItemLaws.{shows_same}
use Rattle.vault_turns.specs.History.{Names, NamesIn}
use Rattle.vault_turns.specs.declared.noted.Kind.{Kind}
use Rattle.vault_turns.specs.declared.noted.Kind.TheVariants.{Opened, Began, Stored, Failed}
use Rattle.vault_turns.specs.declared.noted.Noted.{Noted}

-- ---- one list

names_by : (kind : Kind) (a b : LogBook) → NamesIn kind a → NamesIn kind b → b ≡ a
names_by (Opened held limits told list faults sure) a b one other = sym other ∙ one
names_by (Began at) a b one other = absurd one
names_by (Stored taken same) a b one other = absurd one
names_by Failed a b one other = absurd one

pub names_one : (history : List Noted) (a b : LogBook) → Names history a → Names history b → b ≡ a
names_one [] a b one other = absurd one
names_one (noted ∷ others) a b one other = names_by noted.kind a b one other

-- what a comparison of two beginnings told
pub prefix_if : (b : Bool) (xs ys : List Item) → MatchBool b (IsPrefix xs ys) (IsPrefix ys xs) → b ≡ true → IsPrefix xs ys
prefix_if true xs ys is t = is
prefix_if false xs ys is t = absurd (true≢false (sym t))

-- ---- what is shown of a beginning of the list

shown_on : (items more : List Item) → Begins (shown_in items) (shown_in (items ++ more))
shown_on [] more = record { rest = shown_in more; joined = refl }
shown_on (first ∷ others) more = record {
  rest = entries_in brings_of more;
  joined = ap (λ (l : List Facts). numbered (brings_of first) ++ l) (entries_joined brings_of others more)
      ∙ sym (append_assoc (numbered (brings_of first)) (entries_in brings_of others) (entries_in brings_of more));
}

pub shown_begins : (was is : List Item) → IsPrefix was is → Begins (shown_in was) (shown_in is)
shown_begins was is begins = subst (λ (l : List Item). Begins (shown_in was) (shown_in l)) begins.1 (shown_on was begins.0)

pub shown_there : (note shown : List Item) → IsPrefix shown note → (e : Facts) → Contains (shown_in shown) e → Contains (entries_in brings_of note) e
shown_there note shown begins e has =
    let more = shown_begins shown note begins in
    shows_same note e (subst (λ (l : List Facts). Contains l e) (sym more.joined)
    (contains_from_among (shown_in shown ++ more.rest) e (Among-append_left (shown_in shown) more.rest e (among_from_contains (shown_in shown) e has))))
