-- What is read goes on: with a volume, and with a capture.
use Rattle.std.specs.Prelude.{Option}
use Rattle.std.proofs.Common.{◌≡◌, ℕ, ◌+◌, ◌^◌, ◌<◌, ◌≤◌, List, [], ◌∷◌, ◌++◌, length, refl, sym, ap, subst, ◌∙◌, ⊎_elim, arith, length-append}
use Rattle.std.proofs.lemmas.Bool.{cases_lt}
use Rattle.std.proofs.lemmas.List.Elements.{All-nil}
use Rattle.std.proofs.lemmas.Option.{slice_get_within}
use Rattle.capture.specs.Captures.{captures}
use Rattle.capture.specs.declared.book.Book.{Book}
use Rattle.capture.specs.declared.book.Volume.{Volume}
use Rattle.capture.specs.declared.captured.Stored.{Stored}
use Rattle.time_text.specs.Texts.{InRange}
use Rattle.volume_scan.specs.Books.{AreFronts, BeginsWith}
use Rattle.warc_journal.specs.Texts.{with_more}
use Rattle.warc_scan.specs.Groups.{IsGroup}
use Rattle.record_opening.specs.Infos.{IsInfo}
use Rattle.warc_scan.specs.declared.group.Group.{Group}
use Rattle.warc_text.specs.Books.{AreVolumeTexts, IsGroupText}
use Rattle.warc_text.specs.Ids.{IsUuid}
use Rattle.warc_text.specs.Records.{info_text}
use Rattle.warc_text.specs.Sound.{IsSound}
use Rattle.warc_text.specs.StandsFor.{StandsFor}
use Rattle.archive_shelf.proofs.GainingSoundness.{IsTakeable, captures_keep_soundness, no_volumes, volumes_keep_soundness}
use Rattle.archive_shelf.proofs.GainingTexts.{captures_add_their_group, volumes_add_their_text}
use Rattle.archive_shelf.proofs.StoringLaws.{captures_more, captures_stay, capture_grows, volume_grows}
use Rattle.archive_shelf.specs.Gaining.{AreFilled}
use Rattle.archive_shelf.specs.Storing.{empty_book, with_capture, with_volume}
use Rattle.archive_gathering.proofs.FrontLaws.{fronts_before, fronts_before_more}
use Rattle.archive_gathering.specs.Reading.{IsBegunBy, IsRead, Laws, ShareGroup, MayBe}

-- ---- nothing

empty_is_sound : (namespace : List ℕ) → IsUuid namespace → IsSound (empty_book namespace)
empty_is_sound namespace is = record {
  namespace_is = is;
  births = All-nil (λ (v : Volume). InRange v.born);
  dates = All-nil (λ (s : Stored). InRange s.date);
  sound = record {
    few = omega arith;
    short_requests = All-nil (λ (s : Stored). length s.request < 2 ^ 34);
    filled = λ k volume at less. absurd (omega (arith, slice_get_within [] k volume at));
    each = λ number stored at. absurd (omega (arith, slice_get_within [] number stored at));
  };
  short_texts = λ k text of. absurd (omega (arith, slice_get_within [] k of.volume of.placed));
}

pub nothing_read : (known : Option Book) (namespace : List ℕ) → IsUuid namespace → IsRead known (empty_book namespace) []
nothing_read known namespace is = record {
  sound = empty_is_sound namespace is;
  are = record { count = refl; each = λ k less. absurd (omega (arith, less)) };
  goes_on = λ files x may fronts sound stands. record {
    begins = record {
      none = λ none. refl;
      enough = omega arith;
      namespace_is = λ some. absurd (omega (arith, some));
      last = λ k at. absurd (omega (arith, at));
    };
    shares = λ number less. absurd (omega (arith, less));
  };
}

module _ (laws : Laws) (book : Book) (texts : List (List ℕ)) (known : Option Book) (is : IsRead known book texts) where
  -- groups that are shared stay so when the book grows
  pub shares_on : (new x : Book) (number : ℕ) → ((text : List ℕ) → IsGroupText book number text → IsGroupText new number text)
      → ShareGroup book x number → ShareGroup new x number
  shares_on new x number stay share = record {
    text = share.text;
    short = share.short;
    mine = stay share.text share.mine;
    others = share.others;
  }

  -- ---- a volume

  pub with_info : (text : List ℕ) (born : ℕ) → IsInfo (length texts) text book.namespace born (length text) → AreFilled book
      → IsRead known (with_volume book born) (texts ++ text ∷ [])
  with_info text born info filled =
      let new : Book = with_volume book born in
      let same : captures new ≡ captures book = captures_stay book.volumes born in
      let count : length (captures new) ≡ length (captures book) = ap length same in
      let text_is : info_text book.namespace (length book.volumes) born ≡ text =
      ap (λ (k : ℕ). info_text book.namespace k born) (sym is.are.count) ∙ sym info.composed in
      record {
        sound = volumes_keep_soundness laws.sealed_stay laws.last_goes_on laws.one_group laws.one_text book born is.sound filled info.date;
        are = subst (λ (t : List ℕ). AreVolumeTexts new (texts ++ t ∷ [])) text_is
            (volumes_add_their_text laws.sealed_stay laws.last_goes_on book born texts is.are);
        goes_on = λ files x may fronts sound stands.
            let so_far = is.goes_on files x may (fronts_before texts files text fronts) sound stands in
            let on = laws.infos files x texts book.namespace (length (captures book)) text book.namespace born sound stands so_far.begins info fronts in
            record {
              begins = subst (λ (n : ℕ). BeginsWith x (texts ++ text ∷ []) book.namespace n) (sym count) on.0;
              shares = λ number less.
                  shares_on new x number (λ t of. laws.groups_stay book new number t (volume_grows book born) of)
                  (so_far.shares number (omega (arith, less, count)));
            };
      }

  -- ---- a group

  -- each sound book that goes on with a group has it under the next number
  pub record HasNext (x : Book) (text : List ℕ) : Type 0 where
    pub so_far : IsBegunBy book texts x
    pub begins : BeginsWith x (with_more texts text) book.namespace (length (captures book) + 1)
    pub next : IsGroupText x (length (captures book)) text

  pub has_next : (text : List ℕ) (group : Group) → 0 < length texts → IsGroup book.namespace (length (captures book)) text group
      → (files : List (List ℕ)) (x : Book) → MayBe known x → AreFronts (with_more texts text) files → IsSound x → StandsFor files x → HasNext x text
  has_next text group some of files x may fronts sound stands =
      let so_far = is.goes_on files x may (fronts_before_more texts files text some fronts) sound stands in
      let on = laws.groups files x texts book.namespace (length (captures book)) text group sound stands so_far.begins some of fronts in
      record { so_far = so_far; begins = on.0; next = on.1 }

  pub with_group : (text : List ℕ) (group : Group) (stored : Stored) → 0 < length texts → IsGroup book.namespace (length (captures book)) text group
      → IsGroupText (with_capture book stored) (length (captures book)) text → IsTakeable book stored
      → IsRead known (with_capture book stored) (with_more texts text)
  with_group text group stored some of group_text takeable =
      let new : Book = with_capture book stored in
      let number = length (captures book) in
      let count : length (captures new) ≡ number + 1 =
      ap length (captures_more book.volumes stored (no_volumes book.volumes takeable.some)) ∙ length-append (captures book) (stored ∷ []) in
      record {
        sound = captures_keep_soundness laws.sealed_stay laws.one_group laws.one_text book stored is.sound takeable;
        are = captures_add_their_group laws.sealed_stay laws.last_goes_on book stored texts text takeable.some is.are group_text;
        goes_on = λ files x may fronts sound stands.
            let next = has_next text group some of files x may fronts sound stands in
            record {
              begins = subst (λ (n : ℕ). BeginsWith x (with_more texts text) book.namespace n) (sym count) next.begins;
              shares = λ n less. ⊎_elim
                  (λ (before : n < number).
                  shares_on new x n (λ t old. laws.groups_stay book new n t (capture_grows book stored) old) (next.so_far.shares n before))
                  (λ (behind : number ≤ n).
                  let last : number ≡ n = omega (arith, less, behind, count) in
                  subst (ShareGroup new x) last (record { text = text; short = of.short; mine = group_text; others = next.next }))
                  (cases_lt n number);
            };
      }
