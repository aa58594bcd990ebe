-- Where a scan is damaged, the files stand for no sound book that begins with what was read.
use Rattle.std.proofs.Common.{◌≡◌, ◌≢◌, ◌<◌, ◌≤◌, ℕ, ◌+◌, ◌^◌, List, [], ◌∷◌, ◌++◌, length, get_or, sym, ap, subst, ◌∙◌, inl, inr, ⊎_elim, arith, length-append}
use Rattle.std.specs.Prelude.{slice_index_or}
use Rattle.std.proofs.lemmas.Bool.{cases_lt}
use Rattle.std.proofs.lemmas.List.{take-append-drop}
use Rattle.capture.specs.declared.book.Book.{Book}
use Rattle.warc_journal.specs.Extents.{texts_in}
use Rattle.warc_scan.specs.Answers.{BeginsWithGroup}
use Rattle.warc_text.specs.Books.{IsGroupText, joined}
use Rattle.warc_text.specs.Growth.{SoundVolumesHaveOneText}
use Rattle.warc_text.specs.Sound.{IsSound}
use Rattle.warc_text.specs.StandsFor.{StandsFor}
use Rattle.volume_scan.specs.Books.{BeginsWith, DamageBehindSkippedIsOfNoBook, DamagedFilesStandForNoBook}
use Rattle.volume_scan.specs.Damage.{GroupIsDamaged, NextIsNoVolume, TailIsFollowed}
use Rattle.volume_scan.specs.Unread.{unread}
use Rattle.volume_scan.specs.declared.position.Position.{Position}
use Rattle.volume_scan.specs.declared.position.Stage.TheVariants.{Skipped}
use Rattle.volume_scan.proofs.BookLaws.{begins_with_info, first_behind, further_is_rest, info_committed, one_further, rest_is_uncommitted, tail_is_last}
use Rattle.warc_scan.proofs.FoundGroups.{group_found, group_is_found}
use Rattle.volume_scan.proofs.Texts.{behind_is, length_texts, text_last}

-- an element of a list is no longer than all of them joined
first_short : (first : List ℕ) (others : List (List ℕ)) (text : List ℕ) (groups : List (List ℕ)) → groups ≡ first ∷ others
    → length (text ++ joined groups) < 2 ^ 62 → length first < 2 ^ 63
first_short first others text groups all short =
    omega (arith, short, length-append text (joined groups), ap length (ap joined all), length-append first (joined others))

module _ (one : SoundVolumesHaveOneText) (position : Position) (files : List (List ℕ)) (book : Book) (sound : IsSound book) (stands : StandsFor files book)
    (enough : position.extent.volumes ≤ length files)
    (begins : BeginsWith book (texts_in position.extent files) position.namespace position.captures) where
  abbrev v : ℕ
  v = position.extent.volumes

  abbrev texts : List (List ℕ)
  texts = texts_in position.extent files

  count : length texts ≡ v
  count = length_texts position.extent files enough

  -- the last volume's file is what was read and what wasn't
  split : (k : ℕ) → k + 1 ≡ v → get_or files k [] ≡ get_or texts k [] ++ unread position files
  split k is =
      sym (take-append-drop position.extent.end (get_or files k []))
      ∙ sym (λ i. text_last position.extent files k is enough i ++ behind_is position.extent files k is i)

  module _ (k : ℕ) (is : k + 1 ≡ v) where
    abbrev at : k + 1 ≡ length texts
    at = is ∙ sym count

    short : length (get_or texts k [] ++ joined (begins.last k at).groups) < 2 ^ 62
    short = sound.short_texts k (get_or texts k [] ++ joined (begins.last k at).groups) (begins.last k at).whole

    no_damaged_group : (place : ℕ) → GroupIsDamaged position files k place → ⊥
    no_damaged_group place damaged =
        let read = begins.last k at in
        let here = first_behind book files sound stands one texts position.namespace position.captures begins k at (unread position files) (split k is) damaged.committed in
        let zeroth : position.captures + 0 ≡ position.captures = omega arith in
        let group : IsGroupText book position.captures here.first =
        subst (λ (n : ℕ). IsGroupText book n here.first) zeroth
        (subst (λ (l : List (List ℕ)). IsGroupText book (position.captures + 0) (slice_index_or l 0 [])) here.all
        (read.each 0 (omega (arith, ap length here.all)))) in
        let fits = first_short here.first here.others (get_or texts k []) read.groups here.all short in
        let found = group_found book sound position.captures here.first group fits in
        let begin : BeginsWithGroup book.namespace position.captures (unread position files) found = record {
          text = here.first;
          rest = joined here.others ++ _;
          composed = here.composed;
          is = group_is_found book sound position.captures here.first group fits;
        } in
        damaged.none found (subst (λ (n : List ℕ). BeginsWithGroup n position.captures (unread position files) found) (sym (begins.namespace_is (omega (arith, at)))) begin)

    no_followed_tail : (place : ℕ) → TailIsFollowed position files k place → ⊥
    no_followed_tail place damaged =
        let last = tail_is_last book files sound stands one texts position.namespace position.captures begins k at (unread position files) (split k is) damaged.tail.some (inr damaged.tail) in
        let follows = damaged.follows in
        rest_is_uncommitted (get_or files v [])
        (further_is_rest book files sound stands one v (omega (arith, last, is)) damaged.there)
        (info_committed v (get_or files v []) follows.namespace follows.born follows.len follows.info)

  no_missing_volume : position.stage ≢ Skipped → (file place : ℕ) → NextIsNoVolume position files file place → ⊥
  no_missing_volume kept file place damaged =
      elim (cases_lt file (length book.volumes)) [
        | inl less ↦ let is = stands.are.each file (omega (arith, less, stands.are.count)) in
            damaged.none book.namespace is.volume.born _ (begins_with_info book files sound stands one file _ less is)
        | inr past ↦ ⊎_elim
            (λ committed. rest_is_uncommitted (get_or files file []) (further_is_rest book files sound stands one file past damaged.there) committed)
            (⊎_elim
            (λ more. omega (arith, more, past, one_further book files sound stands one))
            (λ skipped. kept skipped))
            damaged.cause
      ]

pub damaged_stand_for_no_book : SoundVolumesHaveOneText → DamagedFilesStandForNoBook
damaged_stand_for_no_book one position files book file place sound stands kept enough begins damaged =
    ⊎_elim
    (λ group. no_damaged_group one position files book sound stands enough begins file group.file_is place group)
    (⊎_elim
    (λ tail. no_followed_tail one position files book sound stands enough begins file tail.file_is place tail)
    (λ next. no_missing_volume one position files book sound stands enough begins kept file place next))
    damaged

-- where a volume was skipped nothing stands behind it in its file, and a book that goes on has the next one
pub damage_behind_skipped : SoundVolumesHaveOneText → DamageBehindSkippedIsOfNoBook
damage_behind_skipped one position files book file place sound stands skipped lies more damaged =
    let none = (lies.skipped skipped).1 in
    ⊎_elim
    (λ group. rest_is_uncommitted (unread position files) (inl none) group.committed)
    (⊎_elim
    (λ tail. omega (arith, ap length none, tail.tail.some))
    (λ next.
    let less : file < length book.volumes = omega (arith, next.file_is, more) in
    let is = stands.are.each file (omega (arith, less, stands.are.count)) in
    next.none book.namespace is.volume.born _ (begins_with_info book files sound stands one file _ less is)))
    damaged
