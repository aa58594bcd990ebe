-- What stands behind what was read, with which no sound book goes on.
use Rattle.std.proofs.Common.{◌≡◌, ◌≢◌, ℕ, ◌+◌, ◌-◌, ◌^◌, ◌<◌, ◌≤◌, List, [], ◌∷◌, ◌++◌, length, get_or, refl, sym, ap, subst, ◌∙◌, arith, length-append}
use Rattle.std.specs.Prelude.{Some, slice_get, slice_index_or, Option}
use Rattle.std.proofs.lemmas.List.{get_or_append_left, length-set, length_push}
use Rattle.std.proofs.lemmas.Option.{get_or_from_slice_get, slice_get_within}
use Rattle.capture.specs.Captures.{captures}
use Rattle.capture.specs.Tails.{IsCommitted}
use Rattle.capture.specs.declared.book.Book.{Book}
use Rattle.capture.specs.declared.book.Volume.{Volume}
use Rattle.warc_journal.specs.Texts.{with_more}
use Rattle.warc_scan.specs.Groups.{IsGroup}
use Rattle.record_opening.specs.Infos.{IsInfo}
use Rattle.warc_scan.specs.declared.group.Group.{Group}
use Rattle.warc_text.specs.Books.{IsGroupText, joined}
use Rattle.warc_text.specs.Sound.{IsSound}
use Rattle.warc_text.specs.StandsFor.{commit_byte}
use Rattle.warc_text.proofs.GroupLaws.{groups_are_committed}
use Rattle.warc_text.proofs.InfoLaws.{info_front}
use Rattle.archive_gathering.proofs.FrontLaws.{fronts_before, last_with_more}
use Rattle.archive_gathering.proofs.ReadingLaws.{HasNext, has_next}
use Rattle.archive_gathering.specs.Reading.{IsDeadEnd, IsRead, Laws}

-- joined texts, of which the first is committed, are some bytes
some_joined : (groups : List (List ℕ)) → 0 < length groups → 0 < length (slice_index_or groups 0 []) → 0 < length (joined groups)
some_joined [] some first = absurd (omega (arith, some))
some_joined (g ∷ gs) some first = omega (arith, first, length-append g (joined gs))

pub none_joined : (groups : List (List ℕ)) → length groups ≡ 0 → joined groups ≡ []
none_joined [] is = refl
none_joined (g ∷ gs) is = absurd (omega (arith, is))

-- a group of a book is some bytes
group_is_some : (book : Book) (number : ℕ) (text : List ℕ) → IsGroupText book number text → 0 < length text
group_is_some book number text is =
    let committed : IsCommitted commit_byte text = subst (IsCommitted commit_byte) (sym is.composed) (groups_are_committed book.namespace number _ _ _) in
    omega (arith, committed.more)

module _ (laws : Laws) (book : Book) (texts : List (List ℕ)) (known : Option Book) (is : IsRead known book texts) where
  -- ---- volumes

  -- of another namespace
  pub other_namespace : (text other : List ℕ) (born : ℕ) → 0 < length texts → IsInfo (length texts) text other born (length text)
      → other ≢ book.namespace → IsDeadEnd known (texts ++ text ∷ [])
  other_namespace text other born some info differs files fronts x may sound stands =
      let so_far = is.goes_on files x may (fronts_before texts files text fronts) sound stands in
      let on = laws.infos files x texts book.namespace (length (captures book)) text other born sound stands so_far.begins info fronts in
      differs (on.1.namespace_is ∙ sym (so_far.begins.namespace_is some))

  -- behind one without a capture
  pub behind_an_empty_one : (text other : List ℕ) (born : ℕ) (k : ℕ) (volume : Volume) → IsInfo (length texts) text other born (length text)
      → k + 1 ≡ length book.volumes → slice_get book.volumes k ≡ Some volume → volume.captures ≡ [] → IsDeadEnd known (texts ++ text ∷ [])
  behind_an_empty_one text other born k volume info last placed none files fronts x may sound stands =
      let count = length_push texts text in
      let so_far = is.goes_on files x may (fronts_before texts files text fronts) sound stands in
      let on = laws.infos files x texts book.namespace (length (captures book)) text other born sound stands so_far.begins info fronts in
      let followed : k + 1 < length x.volumes = omega (arith, on.0.enough, count, last, is.are.count) in
      let mine = is.are.each k (omega (arith, last, is.are.count)) in
      let yours = stands.are.each k (omega (arith, followed, stands.are.count)) in
      let same_volume : mine.volume ≡ volume =
      sym (get_or_from_slice_get book.volumes k mine.volume volume mine.placed) ∙ get_or_from_slice_get book.volumes k volume volume placed in
      let empty : joined mine.groups ≡ [] = none_joined mine.groups (mine.count ∙ ap (λ (v : Volume). length v.captures) same_volume ∙ ap length none) in
      let filled : 0 < length yours.groups = omega (arith, yours.count, sound.sound.filled k yours.volume yours.placed followed) in
      let bytes : 0 < length (joined yours.groups) =
      some_joined yours.groups filled (group_is_some x _ (slice_index_or yours.groups 0 []) (yours.each 0 filled)) in
      let one_file : slice_index_or texts k [] ≡ slice_index_or stands.texts k [] =
      sym (get_or_append_left texts (text ∷ []) [] k (omega (arith, last, is.are.count)))
      ∙ sym (fronts.sealed k (omega (arith, last, is.are.count, count)))
      ∙ stands.held.sealed k (omega (arith, followed, stands.are.count)) in
      let rest = info_front book.namespace x.namespace k mine.volume.born yours.volume.born (joined mine.groups) (joined yours.groups)
      is.sound.namespace_is sound.namespace_is (sym mine.composed ∙ one_file ∙ yours.composed) in
      omega (arith, bytes, ap length (sym rest.2), ap length empty)

  -- ---- groups

  module _ (text : List ℕ) (group : Group) (some : 0 < length texts) (of : IsGroup book.namespace (length (captures book)) text group) where
    abbrev after : List (List ℕ)
    after = with_more texts text

    -- the last text isn't longer than that of a sound book's volume
    pub short_after : (x : Book) → IsSound x → HasNext laws book texts known is x text → length (get_or texts (length texts - 1) []) + length text < 2 ^ 62
    short_after x sound next =
        let k = length texts - 1 in
        let at : k + 1 ≡ length after = omega (arith, some, length-set texts k (get_or texts k [] ++ text)) in
        let read = next.begins.last k at in
        let whole = sound.short_texts k (slice_index_or after k [] ++ joined read.groups) read.whole in
        let text_is : slice_index_or after k [] ≡ get_or texts k [] ++ text = last_with_more texts text k (omega (arith, some)) in
        omega (arith, whole, length-append (slice_index_or after k []) (joined read.groups), ap length text_is, length-append (get_or texts k []) text)

    -- with which a volume is too long
    pub too_long : 2 ^ 62 ≤ length (get_or texts (length texts - 1) []) + length text → IsDeadEnd known after
    too_long long files fronts x may sound stands =
        omega (arith, long, short_after x sound (has_next laws book texts known is text group some of files x may fronts sound stands))

    -- with which there are too many
    pub too_many : 2 ^ 32 - 1 ≤ length (captures book) + 1 → IsDeadEnd known after
    too_many many files fronts x may sound stands =
        let next = has_next laws book texts known is text group some of files x may fronts sound stands in
        omega (arith, many, sound.sound.few, slice_get_within (captures x) (length (captures book)) next.next.stored next.next.placed)
