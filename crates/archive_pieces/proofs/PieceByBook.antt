-- What a piece is by the book that is to take it.
use Rattle.std.proofs.Common.{◌≡◌, ◌≢◌, ◌⊎◌, ℕ, ◌+◌, true, false, List, [], ◌∷◌, ◌++◌, length, slice_get, Some, None, inl, inr, ⊎_elim, refl, sym, ap, subst, ◌∙◌, arith}
use mathlib.Core.Bool.{true≢false}
use Rattle.capture.specs.Captures.{captures}
use Rattle.capture.specs.declared.book.Book.{Book}
use Rattle.capture.specs.declared.book.Volume.{Volume}
use Rattle.time_text.specs.Texts.{InRange}
use Rattle.warc_text.specs.Ids.{IsUuid}
use Rattle.warc_text.specs.Records.{info_text}
use Rattle.warc_text.proofs.InfoLaws.{info_front}
use Rattle.warc_scan.specs.Groups.{IsGroup}
use Rattle.warc_scan.specs.declared.group.Group.{Group}
use Rattle.archive_volumes.specs.Held.{is_filled}
use Rattle.archive_gathering.proofs.BeginLaws.{empty_by}
use Rattle.archive_gathering.specs.Refusing.{HasEmptyLast}
use Rattle.archive_pieces.specs.NextPieces.{IsOfEmpty, MayBegin}
use Rattle.archive_pieces.specs.PieceParts.{HasNoParts, IsBegunBy, IsNoGroup, IsNotBegun, IsReadAs}
use Rattle.archive_pieces.specs.declared.parts.Begun.{Begun}
use Rattle.archive_pieces.proofs.NextPiece.{empty_is_unfilled}

no_volumes : (volumes : List Volume) → length volumes ≡ 0 → volumes ≡ []
no_volumes [] none = refl
no_volumes (v ∷ vs) none = absurd (omega (arith, none))

no_true : {A : Type 0} → false ≡ true → A
no_true e = absurd (true≢false (sym e))

module _ (book : Book) (bytes : List ℕ) (number : ℕ) (number_is : number ≡ length (captures book)) where
  group_next : (text : List ℕ) (group : Group) → IsGroup book.namespace number text group → IsGroup book.namespace (length (captures book)) text group
  group_next text group is = subst (λ (n : ℕ). IsGroup book.namespace n text group) number_is is

  group_back : (text : List ℕ) (group : Group) → IsGroup book.namespace (length (captures book)) text group → IsGroup book.namespace number text group
  group_back text group is = subst (λ (n : ℕ). IsGroup book.namespace n text group) (sym number_is) is

  -- a volume more
  pub reads_begun : (volume : ℕ) → volume ≡ length book.volumes → MayBegin book → (begun : Begun) → IsBegunBy book.namespace volume number bytes begun
      → IsReadAs book bytes (Some begun.born) begun.at begun.group
  reads_begun volume volume_is may begun is = record {
    front = info_text book.namespace volume begun.born;
    text = is.text;
    composed = is.composed;
    is_front = (may, is.date, ap (λ (k : ℕ). info_text book.namespace k begun.born) volume_is);
    at_is = is.at_is;
    is = group_next is.text begun.group is.is;
  }

  -- a group alone
  pub reads_group : is_filled book.volumes ≡ true → (group : Group) → IsGroup book.namespace number bytes group → IsReadAs book bytes None 0 group
  reads_group filled group is = record {
    front = [];
    text = bytes;
    composed = refl;
    is_front = inl (filled, refl);
    at_is = refl;
    is = group_next bytes group is;
  }

  no_begun : (volume : ℕ) → volume ≡ length book.volumes → IsNotBegun book.namespace volume number bytes → (born at : ℕ) (group : Group)
      → IsReadAs book bytes (Some born) at group → ⊥
  no_begun volume volume_is none born at group read =
      none born read.text group read.is_front.1
      (read.composed ∙ ap (λ (l : List ℕ). l ++ read.text) (read.is_front.2 ∙ ap (λ (k : ℕ). info_text book.namespace k born) (sym volume_is)))
      (group_back read.text group read.is)

  behind_by : is_filled book.volumes ≡ true → IsNoGroup book.namespace number bytes → (at : ℕ) (group : Group) (read : IsReadAs book bytes None at group)
      → ((is_filled book.volumes ≡ true) × (read.front ≡ [])) ⊎ IsOfEmpty book read.front → ⊥
  behind_by filled none at group read (inl f) =
      none group (subst (λ (l : List ℕ). IsGroup book.namespace number l group) (sym (read.composed ∙ ap (λ (l : List ℕ). l ++ read.text) f.1))
      (group_back read.text group read.is))
  behind_by filled none at group read (inr e) =
      true≢false (sym filled ∙ empty_is_unfilled book.volumes e.number e.volume e.last e.placed e.none)

  pub nothing_behind : is_filled book.volumes ≡ true → (volume : ℕ) → volume ≡ length book.volumes → IsNotBegun book.namespace volume number bytes
      → IsNoGroup book.namespace number bytes → HasNoParts book bytes
  nothing_behind filled volume volume_is none no_group None at group read = behind_by filled no_group at group read read.is_front
  nothing_behind filled volume volume_is none no_group (Some born) at group read = no_begun volume volume_is none born at group read

  -- ---- the first volume

  pub may_first : length book.volumes ≡ 0 → MayBegin book
  may_first empty_book = inl (no_volumes book.volumes empty_book)

  first_by : length book.volumes ≡ 0 → (front : List ℕ) → ((is_filled book.volumes ≡ true) × (front ≡ [])) ⊎ IsOfEmpty book front → ⊥
  first_by empty_book front (inl f) = no_true (ap is_filled (sym (no_volumes book.volumes empty_book)) ∙ f.0)
  first_by empty_book front (inr e) = let l = e.last in omega (arith, l, empty_book)

  pub nothing_first : length book.volumes ≡ 0 → IsNotBegun book.namespace 0 number bytes → HasNoParts book bytes
  nothing_first empty_book none None at group read = first_by empty_book read.front read.is_front
  nothing_first empty_book none (Some born) at group read = no_begun 0 (sym empty_book) none born at group read

  -- ---- the first capture of the last volume

  module _ (last : ℕ) (last_is : last + 1 ≡ length book.volumes) (unfilled : is_filled book.volumes ≡ false) (born : ℕ)
      (born_is : (v : Volume) → slice_get book.volumes last ≡ Some v → born ≡ v.born) where
    empty : HasEmptyLast book
    empty = empty_by book (omega (arith, last_is)) unfilled

    number_of : empty.number ≡ last
    number_of = let l = empty.last in omega (arith, l, last_is)

    born_of : born ≡ empty.volume.born
    born_of = born_is empty.volume (ap (λ (k : ℕ). slice_get book.volumes k) (sym number_of) ∙ empty.placed)

    pub reads_into : (begun : Begun) → IsBegunBy book.namespace last number bytes begun → begun.born ≡ born
        → IsReadAs book bytes None begun.at begun.group
    reads_into begun is same = record {
      front = info_text book.namespace last begun.born;
      text = is.text;
      composed = is.composed;
      is_front = inr (record {
        number = empty.number;
        volume = empty.volume;
        last = empty.last;
        placed = empty.placed;
        none = empty.none;
        info = λ i. info_text book.namespace (sym number_of i) ((same ∙ born_of) i);
      });
      at_is = is.at_is;
      is = group_next is.text begun.group is.is;
    }

    not_more : (other at : ℕ) (group : Group) → IsReadAs book bytes (Some other) at group → ⊥
    not_more other at group read =
        ⊎_elim (λ none. let l = ap (λ (vs : List Volume). length vs) none in omega (arith, l, last_is)) (λ filled. no_true (sym unfilled ∙ filled)) read.is_front.0

    -- what such a piece begins with
    into_by : (front : List ℕ) → ((is_filled book.volumes ≡ true) × (front ≡ [])) ⊎ IsOfEmpty book front → front ≡ info_text book.namespace last born
    into_by front (inl f) = no_true (sym unfilled ∙ f.0)
    into_by front (inr e) =
        let l = e.last in
        let k : e.number ≡ last = omega (arith, l, last_is) in
        let b : e.volume.born ≡ born
        = sym (born_is e.volume (ap (λ (n : ℕ). slice_get book.volumes n) (sym k) ∙ e.placed)) in
        e.info ∙ (λ i. info_text book.namespace (k i) (b i))

    pub nothing_into : InRange born → IsNotBegun book.namespace last number bytes → HasNoParts book bytes
    nothing_into date none None at group read =
        none born read.text group date (read.composed ∙ ap (λ (l : List ℕ). l ++ read.text) (into_by read.front read.is_front)) (group_back read.text group read.is)
    nothing_into date none (Some other) at group read = not_more other at group read

    pub born_apart : IsUuid book.namespace → (begun : Begun) → IsBegunBy book.namespace last number bytes begun → begun.born ≢ born → HasNoParts book bytes
    born_apart uuid begun is apart None at group read =
        apart (info_front book.namespace book.namespace last begun.born born is.text read.text uuid uuid
        (sym is.composed ∙ (read.composed ∙ ap (λ (l : List ℕ). l ++ read.text) (into_by read.front read.is_front)))).1
    born_apart uuid begun is apart (Some other) at group read = not_more other at group read
