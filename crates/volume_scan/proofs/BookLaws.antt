-- What was read, of a sound book for which the files stand: what follows is the book's next volume or group.
use Rattle.std.proofs.Common.{◌≡◌, ◌<◌, ◌≤◌, ℕ, ◌+◌, List, [], ◌∷◌, ◌++◌, length, get_or, refl, sym, ap, subst, ◌∙◌, inl, inr, ⊎_elim, arith, length-append, append_assoc}
use Rattle.std.specs.Prelude.{Some, slice_get, slice_index_or}
use Rattle.std.proofs.lemmas.Bool.{cases_lt}
use Rattle.std.proofs.lemmas.List.{append-nil, append_cancel_left}
use Rattle.std.proofs.lemmas.List.Elements.{All-get_or}
use Rattle.std.proofs.lemmas.Option.{get_or_from_slice_get, slice_get_within}
use Rattle.time_text.specs.Texts.{InRange}
use Rattle.capture.specs.Tails.{IsCommitted, IsRest}
use Rattle.capture.specs.declared.book.Book.{Book}
use Rattle.capture.specs.declared.book.Volume.{Volume}
use Rattle.record_opening.specs.InfoAnswers.{BeginsWithInfo}
use Rattle.warc_text.specs.Books.{IsGroupText, IsVolumeText, joined}
use Rattle.warc_text.specs.Growth.{SoundVolumesHaveOneText}
use Rattle.warc_text.specs.Records.{info_text}
use Rattle.warc_text.specs.Sound.{IsSound}
use Rattle.warc_text.specs.StandsFor.{StandsFor, commit_byte}
use Rattle.warc_text.proofs.GroupLaws.{groups_are_committed}
use Rattle.warc_text.proofs.InfoLaws.{infos_are_committed}
use Rattle.volume_scan.specs.Books.{BeginsWith}

-- nothing and a tail begin with no committed text
pub rest_is_uncommitted : (rest : List ℕ) → IsRest commit_byte rest → IsCommitted commit_byte rest → ⊥
rest_is_uncommitted rest (inl none) is = omega (arith, ap length none, is.more)
rest_is_uncommitted rest (inr tail) is =
    ⊎_elim (λ other. other is.begins) (λ one. omega (arith, one, is.more)) tail.unfinished

pub committed_on : (text after : List ℕ) → IsCommitted commit_byte text → IsCommitted commit_byte (text ++ after)
committed_on [] after is = absurd (omega (arith, is.more))
committed_on (b ∷ text) after is = record { begins = is.begins; more = omega (arith, is.more, length-append text after) }

-- a file that begins with a warcinfo begins with the commit byte and more
pub info_committed : (volume : ℕ) (file namespace : List ℕ) (born len : ℕ) → BeginsWithInfo volume file namespace born len → IsCommitted commit_byte file
info_committed volume file namespace born len begins =
    subst (IsCommitted commit_byte) (sym begins.composed)
    (committed_on begins.text begins.rest (subst (IsCommitted commit_byte) (sym begins.is.composed) (infos_are_committed namespace volume born)))

-- the file of a volume: its text, and what a stop left behind the last one's
pub record HasRest (book : Book) (files : List (List ℕ)) (k : ℕ) (text : List ℕ) : Type 0 where
  pub rest : List ℕ
  pub unfinished : IsRest commit_byte rest
  pub composed : get_or files k [] ≡ text ++ rest
  pub sealed : k + 1 < length book.volumes → rest ≡ []

module _ (book : Book) (files : List (List ℕ)) (sound : IsSound book) (stands : StandsFor files book) (one : SoundVolumesHaveOneText) where
  count : length stands.texts ≡ length book.volumes
  count = stands.are.count

  one_text : (k : ℕ) (text other : List ℕ) → k < length book.volumes → IsVolumeText book k text → IsVolumeText book k other → text ≡ other
  one_text k text other there is is₂ = let only = one book k sound there in sym (only.only text is) ∙ only.only other is₂

  pub has_rest : (k : ℕ) (text : List ℕ) → k < length book.volumes → IsVolumeText book k text → HasRest book files k text
  has_rest k text there is =
      let held = get_or stands.texts k [] in
      let same : held ≡ text = one_text k held text there (stands.are.each k (omega (arith, there, count))) is in
      elim (cases_lt (k + 1) (length stands.texts)) [
        | inl less ↦ record {
          rest = [];
          unfinished = inl refl;
          composed = stands.held.sealed k less ∙ same ∙ sym (append-nil text);
          sealed = λ _. refl;
        }
        | inr past ↦ let last = stands.held.last k (omega (arith, past, there, count)) in record {
          rest = last.rest;
          unfinished = last.unfinished;
          composed = last.composed ∙ ap (λ (l : List ℕ). l ++ last.rest) same;
          sealed = λ less. absurd (omega (arith, past, less, count));
        }
      ]

  -- behind all volumes there is one file at most, which holds nothing or a tail
  pub further_is_rest : (k : ℕ) → length book.volumes ≤ k → k < length files → IsRest commit_byte (get_or files k [])
  further_is_rest k past there = stands.held.further k there (omega (arith, past, count))

  pub one_further : length files ≤ length book.volumes + 1
  one_further = omega (arith, stands.held.one_more, count)

  -- each volume's file begins with its warcinfo
  born_in_range : (k : ℕ) (volume : Volume) → slice_get book.volumes k ≡ Some volume → InRange volume.born
  born_in_range k volume placed =
      subst (λ (v : Volume). InRange v.born) (get_or_from_slice_get book.volumes k volume volume placed)
      (All-get_or (λ (v : Volume). InRange v.born) book.volumes k volume (slice_get_within book.volumes k volume placed) sound.births)

  pub begins_with_info : (k : ℕ) (text : List ℕ) → k < length book.volumes → (is : IsVolumeText book k text)
      → BeginsWithInfo k (get_or files k []) book.namespace is.volume.born (length (info_text book.namespace k is.volume.born))
  begins_with_info k text there is =
      let here = has_rest k text there is in
      let info = info_text book.namespace k is.volume.born in
      record {
        text = info;
        rest = joined is.groups ++ here.rest;
        composed = here.composed ∙ ap (λ (l : List ℕ). l ++ here.rest) is.composed ∙ append_assoc info (joined is.groups) here.rest;
        is = record {
          namespace_is = sound.namespace_is;
          date = born_in_range k is.volume is.placed;
          composed = refl;
          len_is = refl;
        };
      }

  group_committed : (number : ℕ) (text : List ℕ) → IsGroupText book number text → IsCommitted commit_byte text
  group_committed number text is = subst (IsCommitted commit_byte) (sym is.composed) (groups_are_committed book.namespace number _ _ _)

-- ---- what stands behind what was read of a volume

-- there is a group, and what follows it
pub record HasFirst (groups : List (List ℕ)) (tail rest : List ℕ) : Type 0 where
  pub first : List ℕ
  pub others : List (List ℕ)
  pub all : groups ≡ first ∷ others
  pub composed : rest ≡ first ++ (joined others ++ tail)

pub first_of : (groups : List (List ℕ)) (tail rest : List ℕ) → IsRest commit_byte tail → rest ≡ joined groups ++ tail → IsCommitted commit_byte rest → HasFirst groups tail rest
first_of [] tail rest unfinished e committed = absurd (rest_is_uncommitted tail unfinished (subst (IsCommitted commit_byte) e committed))
first_of (g ∷ gs) tail rest unfinished e committed = record {
  first = g;
  others = gs;
  all = refl;
  composed = e ∙ append_assoc g (joined gs) tail;
}

-- there is none
pub none_of : (groups : List (List ℕ)) (tail rest : List ℕ) → ((j : ℕ) → j < length groups → IsCommitted commit_byte (slice_index_or groups j []))
    → rest ≡ joined groups ++ tail → IsRest commit_byte rest → (groups ≡ []) × (rest ≡ tail)
none_of [] tail rest each e unfinished = (refl, e)
none_of (g ∷ gs) tail rest each e unfinished =
    absurd (rest_is_uncommitted rest unfinished
    (subst (IsCommitted commit_byte) (sym (e ∙ append_assoc g (joined gs) tail)) (committed_on g (joined gs ++ tail) (each 0 (omega arith)))))

module _ (book : Book) (files : List (List ℕ)) (sound : IsSound book) (stands : StandsFor files book) (one : SoundVolumesHaveOneText)
    (texts : List (List ℕ)) (namespace : List ℕ) (number : ℕ) (begins : BeginsWith book texts namespace number)
    (k : ℕ) (is : k + 1 ≡ length texts) (rest : List ℕ) (here : get_or files k [] ≡ get_or texts k [] ++ rest) where
  pub there : k < length book.volumes
  there = omega (arith, is, begins.enough)

  pub tail_of : HasRest book files k (get_or texts k [] ++ joined (begins.last k is).groups)
  tail_of = has_rest book files sound stands one k (get_or texts k [] ++ joined (begins.last k is).groups) there (begins.last k is).whole

  pub behind : rest ≡ joined (begins.last k is).groups ++ tail_of.rest
  behind =
      append_cancel_left (get_or texts k []) rest (joined (begins.last k is).groups ++ tail_of.rest)
      (sym here ∙ tail_of.composed ∙ append_assoc (get_or texts k []) (joined (begins.last k is).groups) tail_of.rest)

  pub first_behind : IsCommitted commit_byte rest → HasFirst (begins.last k is).groups tail_of.rest rest
  first_behind committed = first_of (begins.last k is).groups tail_of.rest rest tail_of.unfinished behind committed

  pub none_behind : IsRest commit_byte rest → ((begins.last k is).groups ≡ []) × (rest ≡ tail_of.rest)
  none_behind unfinished =
      none_of (begins.last k is).groups tail_of.rest rest
      (λ j less. group_committed book files sound stands one (number + j) (slice_index_or (begins.last k is).groups j []) ((begins.last k is).each j less))
      behind unfinished

  -- a tail stands behind the last volume alone
  pub tail_is_last : 0 < length rest → IsRest commit_byte rest → length book.volumes ≤ k + 1
  tail_is_last some unfinished =
      elim (cases_lt (k + 1) (length book.volumes)) [
        | inl less ↦ absurd (omega (arith, some, ap length ((none_behind unfinished).1 ∙ tail_of.sealed less)))
        | inr past ↦ past
      ]
