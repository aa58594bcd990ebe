-- A warcinfo or a group that a scan finds is the next one of each sound book for which the files stand and which begins with
-- what was read.
use Rattle.std.proofs.Common.{◌≡◌, ◌<◌, ℕ, suc, zero, ◌+◌, ◌-◌, ◌^◌, List, [], ◌∷◌, ◌++◌, length, get_or, take, refl, sym, ap, subst, ◌∙◌, inl, inr, arith, length-append, append_assoc, get_or-set_same}
use Rattle.std.specs.Prelude.{Option, Some, slice_get, slice_index_or, unwrap_or}
use Rattle.std.proofs.lemmas.Bool.{cases_lt}
use Rattle.std.proofs.lemmas.List.{append-nil, get_or_append_left, get_or_push, length-set, length_push, take_more}
use Rattle.std.proofs.lemmas.Option.{get_or_from_slice_get, slice_get_within}
use lib.ListN.{set}
use Rattle.sha1.specs.Sha1.{sha1}
use Rattle.capture.specs.Captures.{captures_in, first_number, taken_back}
use Rattle.capture.specs.Tails.{IsCommitted}
use Rattle.capture.specs.declared.book.Book.{Book}
use Rattle.capture.specs.declared.book.Volume.{Volume}
use Rattle.capture.specs.declared.captured.Stored.{Stored}
use Rattle.warc_journal.specs.Texts.{with_more}
use Rattle.warc_scan.specs.Groups.{IsGroup, reference_in}
use Rattle.record_opening.specs.Infos.{IsInfo}
use Rattle.warc_scan.specs.declared.group.Group.{Group}
use Rattle.warc_text.specs.Books.{IsGroupText, IsVolumeText, joined}
use Rattle.warc_text.specs.Growth.{SoundVolumesHaveOneText}
use Rattle.warc_text.specs.Records.{info_text}
use Rattle.warc_text.specs.References.{reference_of}
use Rattle.warc_text.specs.Sound.{IsSound}
use Rattle.warc_text.specs.StandsFor.{StandsFor, commit_byte}
use Rattle.warc_text.proofs.BookLaws.{captures_in-append}
use Rattle.warc_text.proofs.GroupLaws.{group_of, group_writable, groups_are_committed}
use Rattle.warc_text.proofs.InfoLaws.{info_front, infos_are_committed}
use Rattle.warc_text.proofs.PrefixLaws.{groups_are_prefix_free}
use Rattle.volume_scan.specs.Books.{BeginsWith, BooksGoOnWithGroups, BooksGoOnWithInfos, IsReadUpTo, IsVolumeOf}
use Rattle.volume_scan.proofs.BookLaws.{HasFirst, committed_on, first_behind, further_is_rest, has_rest, none_behind, rest_is_uncommitted, tail_of}
use Rattle.warc_scan.proofs.FoundTexts.{found_writable}

-- the captures before a volume, with those of the volume
pub first_more : (book : Book) (k : ℕ) (volume : Volume) → slice_get book.volumes k ≡ Some volume → first_number book (k + 1) ≡ first_number book k + length volume.captures
first_more book k volume placed =
    ap (λ (l : List Volume). length (captures_in l))
    (take_more book.volumes k volume (slice_get_within book.volumes k volume placed)
    ∙ ap (λ (v : Volume). take k book.volumes ++ v ∷ []) (get_or_from_slice_get book.volumes k volume volume placed))
    ∙ ap length (captures_in-append (take k book.volumes) (volume ∷ []))
    ∙ length-append (captures_in (take k book.volumes)) (volume.captures ++ [])
    ∙ ap (λ (l : List Stored). first_number book k + length l) (append-nil volume.captures)

module _ (one : SoundVolumesHaveOneText) (book : Book) (files : List (List ℕ)) (sound : IsSound book) (stands : StandsFor files book)
    (texts : List (List ℕ)) (namespace : List ℕ) (number : ℕ) (begins : BeginsWith book texts namespace number) where
  -- ---- a group

  module _ (text after : List ℕ) (group : Group) (is : IsGroup namespace number text group)
      (k : ℕ) (at : k + 1 ≡ length texts) (here : get_or files k [] ≡ get_or texts k [] ++ (text ++ after)) where
    abbrev read : IsReadUpTo book k (get_or texts k []) number
    read = begins.last k at

    namespaces : namespace ≡ book.namespace
    namespaces = begins.namespace_is (omega (arith, at))

    abbrev tail : List ℕ
    tail = (tail_of book files sound stands one texts namespace number begins k at (text ++ after) here).rest

    first : HasFirst read.groups tail (text ++ after)
    first =
        first_behind book files sound stands one texts namespace number begins k at (text ++ after) here
        (committed_on text after (subst (IsCommitted commit_byte) (sym is.composed) (groups_are_committed namespace number (taken_back group.stored) group.digest (reference_in group.same))))

    first_is : IsGroupText book number first.first
    first_is =
        let zeroth : number + 0 ≡ number = omega arith in
        subst (λ (n : ℕ). IsGroupText book n first.first) zeroth
        (subst (λ (l : List (List ℕ)). IsGroupText book (number + 0) (slice_index_or l 0 [])) first.all (read.each 0 (omega (arith, ap length first.all))))

    short : length first.first < 2 ^ 62
    short =
        omega (arith, sound.short_texts k (get_or texts k [] ++ joined read.groups) read.whole, length-append (get_or texts k []) (joined read.groups), ap length (ap joined first.all), length-append first.first (joined first.others))

    same : first.first ≡ text
    same =
        let of = group_of book number first_is.stored first.first sound first_is.placed first_is in
        let is₂ = subst (λ (n : List ℕ). IsGroup n number text group) namespaces is in
        let texts₂ = groups_are_prefix_free book.namespace number (taken_back first_is.stored) (taken_back group.stored) (sha1 of.payload) group.digest
        (reference_of book.namespace of.same) (reference_in group.same) (joined first.others ++ tail) after
        (group_writable book.namespace number first_is.stored first.first of short)
        (found_writable book.namespace number text group is₂)
        (ap (λ (l : List ℕ). l ++ (joined first.others ++ tail)) (sym of.composed) ∙ sym first.composed ∙ ap (λ (l : List ℕ). l ++ after) is₂.composed) in
        of.composed ∙ texts₂.0 ∙ sym is₂.composed

    -- it is the book's
    pub group_is_next : IsGroupText book number text
    group_is_next = subst (IsGroupText book number) same first_is

    whole_on : get_or texts k [] ++ joined read.groups ≡ (get_or texts k [] ++ text) ++ joined first.others
    whole_on =
        ap (λ (l : List (List ℕ)). get_or texts k [] ++ joined l) first.all
        ∙ sym (append_assoc (get_or texts k []) first.first (joined first.others))
        ∙ ap (λ (l : List ℕ). (get_or texts k [] ++ l) ++ joined first.others) same

    on : IsReadUpTo book k (get_or texts k [] ++ text) (number + 1)
    on = record {
      volume = read.volume;
      groups = first.others;
      placed = read.placed;
      count = omega (arith, read.count, ap length first.all);
      each = λ j less.
          subst (λ (n : ℕ). IsGroupText book n (slice_index_or first.others j [])) (omega arith)
          (subst (λ (l : List (List ℕ)). IsGroupText book (number + suc j) (slice_index_or l (suc j) [])) first.all (read.each (suc j) (omega (arith, less, ap length first.all))));
      whole = subst (IsVolumeText book k) whole_on read.whole;
    }

    -- and the book begins with it too
    pub goes_on_with_group : BeginsWith book (with_more texts text) namespace (number + 1)
    goes_on_with_group =
        let l = length texts - 1 in
        let more = get_or texts l [] ++ text in
        let count = length-set texts l more in
        record {
          none = λ none. absurd (omega (arith, none, count, at));
          enough = omega (arith, count, begins.enough);
          namespace_is = λ _. namespaces;
          last = λ j is.
              let this : k ≡ j = omega (arith, is, count, at) in
              let that : l ≡ k = omega (arith, at) in
              let text_is : get_or texts k [] ++ text ≡ get_or (set texts l more) j [] =
              sym (ap (λ (i : ℕ). get_or (set texts l more) i []) (sym (that ∙ this))
              ∙ get_or-set_same texts l more [] (omega (arith, at))
              ∙ ap (λ (i : ℕ). get_or texts i [] ++ text) that) in
              subst (λ (t : List ℕ). IsReadUpTo book j t (number + 1)) text_is
              (subst (λ (i : ℕ). IsReadUpTo book i (get_or texts k [] ++ text) (number + 1)) this on);
        }

  -- ---- a warcinfo

  module _ (text after : List ℕ) (other : List ℕ) (born : ℕ) (is : IsInfo (length texts) text other born (length text))
      (there : length texts < length files) (here : get_or files (length texts) [] ≡ text ++ after)
      (sealed : (k : ℕ) → k + 1 ≡ length texts → get_or files k [] ≡ get_or texts k []) where
    abbrev v : ℕ
    v = length texts

    in_book : v < length book.volumes
    in_book = elim (cases_lt v (length book.volumes)) [
      | inl less ↦ less
      | inr past ↦ absurd (rest_is_uncommitted (get_or files v []) (further_is_rest book files sound stands one v past there)
          (subst (IsCommitted commit_byte) (sym here) (committed_on text after (subst (IsCommitted commit_byte) (sym is.composed) (infos_are_committed other v born)))))
    ]

    volume_text : IsVolumeText book v (slice_index_or stands.texts v [])
    volume_text = stands.are.each v (omega (arith, in_book, stands.are.count))

    front : (other ≡ book.namespace) × (born ≡ volume_text.volume.born) × (after ≡ joined volume_text.groups ++ (has_rest book files sound stands one v (slice_index_or stands.texts v []) in_book volume_text).rest)
    front =
        let whole = has_rest book files sound stands one v (slice_index_or stands.texts v []) in_book volume_text in
        info_front other book.namespace v born volume_text.volume.born after (joined volume_text.groups ++ whole.rest) is.namespace_is sound.namespace_is
        (ap (λ (l : List ℕ). l ++ after) (sym is.composed) ∙ sym here ∙ whole.composed
        ∙ ap (λ (l : List ℕ). l ++ whole.rest) volume_text.composed
        ∙ append_assoc (info_text book.namespace v volume_text.volume.born) (joined volume_text.groups) whole.rest)

    text_is : text ≡ info_text book.namespace v volume_text.volume.born
    text_is = is.composed ∙ (λ i. info_text (front.0 i) v (front.1 i))

    number_at : (n : ℕ) → n ≡ length texts → number ≡ first_number book n
    number_at zero e = begins.none (sym e)
    number_at (suc k) e =
        let at : k + 1 ≡ length texts = omega (arith, e) in
        let read = begins.last k at in
        let none = none_behind book files sound stands one texts namespace number begins k at [] (sealed k at ∙ sym (append-nil (get_or texts k []))) (inl refl) in
        let count : number ≡ first_number book k + length read.volume.captures = omega (arith, read.count, ap length none.0) in
        let one_more : k + 1 ≡ suc k = omega arith in
        count ∙ sym (first_more book k read.volume read.placed) ∙ ap (first_number book) one_more

    on_info : IsReadUpTo book v text number
    on_info =
        let first : first_number book v ≡ number = sym (number_at v refl) in
        record {
          volume = volume_text.volume;
          groups = volume_text.groups;
          placed = volume_text.placed;
          count = omega (arith, first, volume_text.count);
          each = λ j less. subst (λ (n : ℕ). IsGroupText book (n + j) (slice_index_or volume_text.groups j [])) first (volume_text.each j less);
          whole = subst (IsVolumeText book v) (volume_text.composed ∙ ap (λ (l : List ℕ). l ++ joined volume_text.groups) (sym text_is)) volume_text;
        }

    pub goes_on_with_info : BeginsWith book (texts ++ text ∷ []) other number
    goes_on_with_info = record {
      none = λ none. absurd (omega (arith, none, length_push texts text));
      enough = omega (arith, in_book, length_push texts text);
      namespace_is = λ _. front.0;
      last = λ j at.
          let this : v ≡ j = omega (arith, at, length_push texts text) in
          subst (λ (t : List ℕ). IsReadUpTo book j t number) (sym (get_or_push texts text [] j this))
          (subst (λ (i : ℕ). IsReadUpTo book i text number) this on_info);
    }

    pub info_is_next : IsVolumeOf book (length texts) other born
    info_is_next = record {
      namespace_is = front.0;
      there = in_book;
      birth = λ w placed. sym (front.1 ∙ ap (λ (o : Option Volume). (unwrap_or o w).born) (sym volume_text.placed ∙ placed));
    }

-- ---- the laws

pub books_go_on_with_infos : SoundVolumesHaveOneText → BooksGoOnWithInfos
books_go_on_with_infos one files book texts namespace number text other born sound stands begins is fronts =
    let v = length texts in
    let count = length_push texts text in
    let last = fronts.last v (omega (arith, count)) in
    let here : get_or files v [] ≡ text ++ last.0 = last.1 ∙ ap (λ (l : List ℕ). l ++ last.0) (get_or_push texts text [] v refl) in
    let sealed : (k : ℕ) → k + 1 ≡ length texts → get_or files k [] ≡ get_or texts k [] =
    (λ k at. fronts.sealed k (omega (arith, at, count)) ∙ get_or_append_left texts (text ∷ []) [] k (omega (arith, at))) in
    let there : length texts < length files = omega (arith, fronts.enough, count) in (
      goes_on_with_info one book files sound stands texts namespace number begins text last.0 other born is there here sealed,
      info_is_next one book files sound stands texts namespace number begins text last.0 other born is there here sealed,
    )

pub books_go_on_with_groups : SoundVolumesHaveOneText → BooksGoOnWithGroups
books_go_on_with_groups one files book texts namespace number text group sound stands begins some is fronts =
    let k = length texts - 1 in
    let at : k + 1 ≡ length texts = omega (arith, some) in
    let more = get_or texts k [] ++ text in
    let last = fronts.last k (at ∙ sym (length-set texts k more)) in
    let here : get_or files k [] ≡ get_or texts k [] ++ (text ++ last.0) =
    last.1 ∙ ap (λ (l : List ℕ). l ++ last.0) (get_or-set_same texts k more [] (omega (arith, some))) ∙ append_assoc (get_or texts k []) text last.0 in (
      goes_on_with_group one book files sound stands texts namespace number begins text last.0 group is k at here,
      group_is_next one book files sound stands texts namespace number begins text last.0 group is k at here,
    )
