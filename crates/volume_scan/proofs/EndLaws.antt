-- What a sound book for which the files stand has behind a volume that is skipped, and at the end.
use Rattle.std.proofs.Common.{◌≡◌, ◌<◌, ℕ, suc, zero, ◌+◌, ◌-◌, List, [], ◌∷◌, ◌++◌, length, get_or, refl, sym, ap, subst, ◌∙◌, inl, inr, arith, get_or-set_same}
use Rattle.std.specs.Prelude.{Some, slice_get}
use Rattle.std.proofs.lemmas.Bool.{cases_lt}
use Rattle.std.proofs.lemmas.List.{append-nil, get_or_append_left, get_or_push, length-set, length_push, take_all}
use lib.ListN.{set}
use Rattle.capture.specs.Captures.{captures, captures_in, first_number}
use Rattle.capture.specs.Tails.{IsCommitted}
use Rattle.capture.specs.declared.book.Book.{Book}
use Rattle.capture.specs.declared.book.Volume.{Volume}
use Rattle.warc_journal.specs.Texts.{Hold, with_more}
use Rattle.warc_text.specs.Books.{IsVolumeText, joined}
use Rattle.warc_text.specs.Growth.{SoundVolumesHaveOneText}
use Rattle.warc_text.specs.Sound.{IsSound}
use Rattle.warc_text.specs.StandsFor.{StandsFor, commit_byte}
use Rattle.warc_text.proofs.InfoLaws.{infos_are_committed}
use Rattle.volume_scan.specs.Books.{BeginsWith, BooksEndWithWhatWasRead, BooksGoOnWithSkipped, IsReadUpTo}
use Rattle.volume_scan.proofs.BookLaws.{begins_with_info, behind, committed_on, further_is_rest, info_committed, none_behind, rest_is_uncommitted, tail_of}
use Rattle.volume_scan.proofs.GoingOn.{first_more}

module _ (one : SoundVolumesHaveOneText) (book : Book) (files : List (List ℕ)) (sound : IsSound book) (stands : StandsFor files book)
    (texts : List (List ℕ)) (namespace : List ℕ) (number : ℕ) (begins : BeginsWith book texts namespace number) where
  -- ---- at the end

  -- a further volume's file would begin with a warcinfo
  no_further_volume : Hold texts files → length texts < length book.volumes → ⊥
  no_further_volume held less =
      let v = length texts in
      let is = stands.are.each v (omega (arith, less, stands.are.count)) in
      let there : v < length files = omega (arith, less, stands.held.enough, stands.are.count) in
      rest_is_uncommitted (get_or files v []) (held.further v there (omega arith))
      (info_committed v (get_or files v []) book.namespace is.volume.born _ (begins_with_info book files sound stands one v _ less is))

  volumes_end : Hold texts files → length book.volumes ≡ length texts
  volumes_end held = elim (cases_lt (length texts) (length book.volumes)) [
    | inl less ↦ absurd (no_further_volume held less)
    | inr past ↦ omega (arith, past, begins.enough)
  ]

  -- the captures before the next volume are all that were read
  number_is : Hold texts files → (n : ℕ) → n ≡ length texts → number ≡ first_number book n
  number_is held zero e = begins.none (sym e)
  number_is held (suc k) e =
      let at : k + 1 ≡ length texts = omega (arith, e) in
      let read = begins.last k at in
      let last = held.last k at in
      let none = none_behind book files sound stands one texts namespace number begins k at last.rest last.composed last.unfinished in
      let count : number ≡ first_number book k + length read.volume.captures = omega (arith, read.count, ap length none.0) in
      let one_more : k + 1 ≡ suc k = omega arith in
      count ∙ sym (first_more book k read.volume read.placed) ∙ ap (first_number book) one_more

  pub no_more : Hold texts files → (length book.volumes ≡ length texts) × (length (captures book) ≡ number)
  no_more held =
      let all = volumes_end held in (
        all,
        sym (number_is held (length texts) refl ∙ ap (λ (l : List Volume). length (captures_in l)) (take_all (length texts) book.volumes (omega (arith, all)))),
      )

  -- ---- behind a volume that is skipped

  module _ (k : ℕ) (volume : Volume) (rest : List ℕ) (skipped : ℕ) (at : k + 1 ≡ length texts) (placed : slice_get book.volumes k ≡ Some volume)
      (count : number + skipped ≡ first_number book k + length volume.captures)
      (here : get_or files k [] ≡ get_or texts k [] ++ rest) (more : k + 1 < length book.volumes) where
    abbrev read : IsReadUpTo book k (get_or texts k []) number
    read = begins.last k at

    rest_is : rest ≡ joined read.groups
    rest_is =
        behind book files sound stands one texts namespace number begins k at rest here
        ∙ ap (λ (l : List ℕ). joined read.groups ++ l) ((tail_of book files sound stands one texts namespace number begins k at rest here).sealed more)
        ∙ append-nil (joined read.groups)

    whole : IsReadUpTo book k (get_or texts k [] ++ rest) (number + skipped)
    whole = record {
      volume = volume;
      groups = [];
      placed = placed;
      count = omega (arith, count);
      each = λ j less. absurd (omega (arith, less));
      whole = subst (IsVolumeText book k) (ap (λ (l : List ℕ). get_or texts k [] ++ l) (sym rest_is) ∙ sym (append-nil (get_or texts k [] ++ rest))) read.whole;
    }

    pub goes_on_with_skipped : BeginsWith book (with_more texts rest) namespace (number + skipped)
    goes_on_with_skipped =
        let l = length texts - 1 in
        let text = get_or texts l [] ++ rest in
        let length_is = length-set texts l text in
        record {
          none = λ none. absurd (omega (arith, none, length_is, at));
          enough = omega (arith, length_is, begins.enough);
          namespace_is = λ some. begins.namespace_is (omega (arith, at));
          last = λ j is.
              let this : k ≡ j = omega (arith, is, length_is, at) in
              let that : l ≡ k = omega (arith, at) in
              let text_is : get_or texts k [] ++ rest ≡ get_or (set texts l text) j [] =
              sym (ap (λ (i : ℕ). get_or (set texts l text) i []) (sym (that ∙ this))
              ∙ get_or-set_same texts l text [] (omega (arith, at))
              ∙ ap (λ (i : ℕ). get_or texts i [] ++ rest) that) in
              subst (λ (t : List ℕ). IsReadUpTo book j t (number + skipped)) text_is
              (subst (λ (i : ℕ). IsReadUpTo book i (get_or texts k [] ++ rest) (number + skipped)) this whole);
        }

-- ---- the laws

pub books_end : SoundVolumesHaveOneText → BooksEndWithWhatWasRead
books_end one files book texts namespace number sound stands begins held = no_more one book files sound stands texts namespace number begins held

pub books_go_on_with_skipped : SoundVolumesHaveOneText → BooksGoOnWithSkipped
books_go_on_with_skipped one files book texts namespace number k volume rest skipped text other born sound stands begins at placed count is fronts =
    let l = length texts - 1 in
    let that : l ≡ k = omega (arith, at) in
    let longer = get_or texts l [] ++ rest in
    let texts₂ = set texts l longer in
    let long = length-set texts l longer in
    let pushed = length_push texts₂ text in
    let v = length texts₂ in
    let last = fronts.last v (omega (arith, pushed)) in
    let next : get_or files v [] ≡ text ++ last.0 = last.1 ∙ ap (λ (l : List ℕ). l ++ last.0) (get_or_push texts₂ text [] v refl) in
    let there : v < length files = omega (arith, fronts.enough, pushed) in
    let committed : IsCommitted commit_byte (get_or files v []) =
    subst (IsCommitted commit_byte) (sym next)
    (committed_on text last.0 (subst (IsCommitted commit_byte) (sym is.composed) (infos_are_committed other (length texts) born))) in
    let more : k + 1 < length book.volumes = elim (cases_lt v (length book.volumes)) [
      | inl less ↦ omega (arith, less, long, at)
      | inr past ↦ absurd (rest_is_uncommitted (get_or files v []) (further_is_rest book files sound stands one v past there) committed)
    ] in
    let here : get_or files k [] ≡ get_or texts k [] ++ rest =
    fronts.sealed k (omega (arith, at, long, pushed)) ∙ get_or_append_left texts₂ (text ∷ []) [] k (omega (arith, at, long))
    ∙ ap (λ (i : ℕ). get_or texts₂ i []) (sym that) ∙ get_or-set_same texts l longer [] (omega (arith, at))
    ∙ ap (λ (i : ℕ). get_or texts i [] ++ rest) that in
    goes_on_with_skipped one book files sound stands texts namespace number begins k volume rest skipped at placed count here more
