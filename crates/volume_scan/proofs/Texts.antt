-- The texts that were read of files, as the position in them moves on.
use Rattle.std.proofs.Common.{◌≡◌, ◌<◌, ◌≤◌, ℕ, ◌+◌, ◌-◌, Bool, true, false, List, [], ◌∷◌, ◌++◌, length, get_or, take, drop, refl, sym, ap, subst, ◌∙◌, inl, inr, ⊎_elim, arith, get_or-set_same, get_or-set_other}
use Rattle.std.proofs.Math.Seq.{take-add}
use Rattle.std.proofs.lemmas.Bool.{cases_lt}
use Rattle.std.proofs.lemmas.List.{get_or-take, get_or_append_left, get_or_default, get_or_push, length-drop, length-set, length-take-le, length_push, same_lists, take-append-drop, take_all, take_at}
use lib.ListN.{set}
use Rattle.capture.specs.Tails.{IsRest}
use Rattle.disk_model.specs.Image.{Image, file_of}
use Rattle.disk_model.specs.declared.kind.Kind.TheVariants.{Warc}
use Rattle.warc_journal.specs.Extents.{IsFound, texts_in, warc_files}
use Rattle.warc_journal.specs.Texts.{Hold, with_more}
use Rattle.warc_journal.specs.declared.extent.Extent.{Extent}
use Rattle.warc_journal.specs.declared.extent.Further.{Further}
use Rattle.warc_journal.specs.declared.extent.Further.TheVariants.{Absent, Empty, Unknown}
use Rattle.warc_text.specs.StandsFor.{commit_byte}
use Rattle.volume_scan.specs.Books.{FilesBeginWithWhatWasRead}
use Rattle.volume_scan.specs.Unread.{IsBehind, IsFurthest, file_at}

-- a Warc file of an image
pub file_is : (image : Image) (k : ℕ) → file_of image Warc k ≡ file_at (warc_files image) k
unfolding file_of
file_is image k = refl

-- how many texts there are, and what each of them is
pub length_texts : (extent : Extent) (files : List (List ℕ)) → extent.volumes ≤ length files → length (texts_in extent files) ≡ extent.volumes
length_texts extent files enough =
    length-set (take extent.volumes files) (extent.volumes - 1) (take extent.end (get_or files (extent.volumes - 1) []))
    ∙ length-take-le extent.volumes files enough

pub text_sealed : (extent : Extent) (files : List (List ℕ)) (k : ℕ) → k + 1 < extent.volumes → get_or (texts_in extent files) k [] ≡ get_or files k []
text_sealed extent files k less =
    get_or-set_other (take extent.volumes files) (extent.volumes - 1) k (take extent.end (get_or files (extent.volumes - 1) [])) [] (omega arith)
    ∙ get_or-take extent.volumes files k [] (omega arith)

pub text_last : (extent : Extent) (files : List (List ℕ)) (k : ℕ) → k + 1 ≡ extent.volumes → extent.volumes ≤ length files
    → get_or (texts_in extent files) k [] ≡ take extent.end (get_or files k [])
text_last extent files k is enough =
    let at : k ≡ extent.volumes - 1 = omega arith in
    ap (λ (i : ℕ). get_or (texts_in extent files) i []) at
    ∙ get_or-set_same (take extent.volumes files) (extent.volumes - 1) (take extent.end (get_or files (extent.volumes - 1) [])) [] (omega (arith, length-take-le extent.volumes files enough))
    ∙ ap (λ (i : ℕ). take extent.end (get_or files i [])) (sym at)

-- these tell them
texts_told : (extent : Extent) (files texts : List (List ℕ)) → extent.volumes ≤ length files → length texts ≡ extent.volumes
    → ((k : ℕ) → k + 1 < extent.volumes → get_or texts k [] ≡ get_or files k [])
    → ((k : ℕ) → k + 1 ≡ extent.volumes → get_or texts k [] ≡ take extent.end (get_or files k []))
    → texts_in extent files ≡ texts
texts_told extent files texts enough count sealed last =
    same_lists (texts_in extent files) texts (length_texts extent files enough ∙ sym count) (λ k d less.
    get_or_default (texts_in extent files) k d [] less
    ∙ ⊎_elim
    (λ before. text_sealed extent files k before ∙ sym (sealed k before))
    (λ at. let is : k + 1 ≡ extent.volumes = omega (arith, at, less, length_texts extent files enough) in text_last extent files k is enough ∙ sym (last k is))
    (cases_lt (k + 1) extent.volumes)
    ∙ get_or_default texts k [] d (omega (arith, less, length_texts extent files enough, count)))

-- what stands behind what was read of the last volume, where there is one
abbrev behind : Extent → List (List ℕ) → List ℕ
behind extent files = drop extent.end (file_at (take extent.volumes files) (extent.volumes - 1))

pub behind_is : (extent : Extent) (files : List (List ℕ)) (k : ℕ) → k + 1 ≡ extent.volumes
    → drop extent.end (file_at (take extent.volumes files) (extent.volumes - 1)) ≡ drop extent.end (get_or files k [])
behind_is extent files k is =
    let at : extent.volumes - 1 ≡ k = omega (arith, is) in
    ap (λ (i : ℕ). drop extent.end (get_or (take extent.volumes files) i [])) at
    ∙ ap (λ (file : List ℕ). drop extent.end file) (get_or-take extent.volumes files k [] (omega (arith, is)))

-- where nothing stands behind it, all was read
read_all : (end : ℕ) (file : List ℕ) → drop end file ≡ [] → take end file ≡ file
read_all end file none = take_all end file (omega (arith, ap length none, length-drop end file))

module _ (extent : Extent) (files : List (List ℕ)) (enough : extent.volumes ≤ length files) where
  last_whole : behind extent files ≡ [] → (k : ℕ) → k + 1 ≡ extent.volumes → take extent.end (get_or files k []) ≡ get_or files k []
  last_whole none k is = read_all extent.end (get_or files k []) (sym (behind_is extent files k is) ∙ none)

  all_whole : behind extent files ≡ [] → (k : ℕ) → k < extent.volumes → get_or (texts_in extent files) k [] ≡ get_or files k []
  all_whole none k less =
      ⊎_elim
      (λ before. text_sealed extent files k before)
      (λ at. let is : k + 1 ≡ extent.volumes = omega (arith, at, less) in text_last extent files k is enough ∙ last_whole none k is)
      (cases_lt (k + 1) extent.volumes)

  -- a warcinfo more, with nothing behind the volume before it
  pub texts_opened : (len : ℕ) → extent.volumes < length files
      → drop extent.end (file_at (take extent.volumes files) (extent.volumes - 1)) ≡ []
      → texts_in (record extent { volumes = extent.volumes + 1; end = len }) files
      ≡ texts_in extent files ++ take len (get_or files extent.volumes []) ∷ []
  texts_opened len there none =
      let v = extent.volumes in
      let texts = texts_in extent files in
      let text = take len (get_or files v []) in
      let count : length texts ≡ v = length_texts extent files enough in
      texts_told (record extent { volumes = v + 1; end = len }) files (texts ++ text ∷ []) (omega (arith, there))
      (length_push texts text ∙ ap (λ (n : ℕ). n + 1) count)
      (λ k less. get_or_append_left texts (text ∷ []) [] k (omega (arith, less, count)) ∙ all_whole none k (omega (arith, less)))
      (λ k is. let at : k ≡ v = omega (arith, is) in
      get_or_push texts text [] k (omega (arith, at, count)) ∙ ap (λ (i : ℕ). take len (get_or files i [])) (sym at))

  -- a text more, which stands behind what was read of the last volume
  pub texts_longer : (end : ℕ) (text rest : List ℕ) → 0 < extent.volumes
      → ((k : ℕ) → k + 1 ≡ extent.volumes → extent.end ≤ length (get_or files k []))
      → end ≡ extent.end + length text
      → drop extent.end (file_at (take extent.volumes files) (extent.volumes - 1)) ≡ text ++ rest
      → texts_in (record extent { end = end }) files ≡ with_more (texts_in extent files) text
  texts_longer end text rest some within is here =
      let v = extent.volumes in
      let texts = texts_in extent files in
      let count : length texts ≡ v = length_texts extent files enough in
      let more = get_or texts (length texts - 1) [] ++ text in
      let longer : (k : ℕ) → k + 1 ≡ v → take (extent.end + length text) (get_or files k []) ≡ take extent.end (get_or files k []) ++ text =
      (λ k at. take-add extent.end (length text) (get_or files k [])
      ∙ ap (λ (l : List ℕ). take extent.end (get_or files k []) ++ l)
      (ap (λ (l : List ℕ). take (length text) l) (sym (behind_is extent files k at) ∙ here) ∙ take_at text rest (length text) refl)) in
      texts_told (record extent { end = end }) files (set texts (length texts - 1) more) enough
      (length-set texts (length texts - 1) more ∙ count)
      (λ k less. get_or-set_other texts (length texts - 1) k more [] (omega (arith, less, count)) ∙ text_sealed extent files k less)
      (λ k at. let l : length texts - 1 ≡ k = omega (arith, at, count) in
      ap (λ (i : ℕ). get_or (set texts (length texts - 1) more) i []) (sym l)
      ∙ get_or-set_same texts (length texts - 1) more [] (omega (arith, some, count))
      ∙ ap (λ (i : ℕ). get_or texts i [] ++ text) l
      ∙ ap (λ (l : List ℕ). l ++ text) (text_last extent files k at enough)
      ∙ sym (longer k at)
      ∙ ap (λ (n : ℕ). take n (get_or files k [])) (sym is))

-- nothing, or a tail
pub rest_of : (is_dirty : Bool) (rest : List ℕ) → IsBehind is_dirty rest → IsRest commit_byte rest
rest_of false rest is = inl is
rest_of true rest is = inr is

-- there is one further file at most, and it holds nothing or a tail
one_further : (further : Further) (v : ℕ) (files : List (List ℕ)) → IsFurthest further v files → length files ≤ v + 1
one_further Absent v files is = omega (arith, is)
one_further Empty v files is = omega (arith, is.0)
one_further Unknown v files is = omega (arith, is.0)

further_rest : (further : Further) (v : ℕ) (files : List (List ℕ)) → IsFurthest further v files → v < length files → IsRest commit_byte (get_or files v [])
further_rest Absent v files is there = absurd (omega (arith, is, there))
further_rest Empty v files is there = inl is.1
further_rest Unknown v files is there = inr is.1

further_absent : (further : Further) (v : ℕ) (files : List (List ℕ)) → v ≤ length files → IsFurthest further v files → further ≡ Absent → length files ≡ v
further_absent Absent v files enough is e = omega (arith, enough, is)
further_absent Empty v files enough is e = cc e
further_absent Unknown v files enough is e = cc e

further_there : (further : Further) (v : ℕ) (files : List (List ℕ)) → IsFurthest further v files → further ≡ Empty → (length files ≡ v + 1) × (get_or files v [] ≡ [])
further_there Absent v files is e = cc e
further_there Empty v files is e = is
further_there Unknown v files is e = cc e

clean_rest : (is_dirty : Bool) (rest : List ℕ) → IsBehind is_dirty rest → is_dirty ≡ false → rest ≡ []
clean_rest false rest is e = is
clean_rest true rest is e = cc e

module _ (extent : Extent) (files : List (List ℕ)) (is_dirty : Bool) (further : Further)
    (none : extent.volumes ≡ 0 → extent.end ≡ 0) (enough : extent.volumes ≤ length files)
    (within : (k : ℕ) → k + 1 ≡ extent.volumes → extent.end ≤ length (get_or files k []))
    (rest : IsBehind is_dirty (drop extent.end (file_at (take extent.volumes files) (extent.volumes - 1))))
    (furthest : IsFurthest further extent.volumes files) where
  -- the files hold what was read
  pub texts_held : Hold (texts_in extent files) files
  texts_held =
      let count : length (texts_in extent files) ≡ extent.volumes = length_texts extent files enough in
      record {
        enough = omega (arith, count, enough);
        one_more = omega (arith, count, one_further further extent.volumes files furthest);
        sealed = λ k less. sym (text_sealed extent files k (omega (arith, less, count)));
        last = λ k is. let at : k + 1 ≡ extent.volumes = omega (arith, is, count) in record {
          rest = drop extent.end (get_or files k []);
          unfinished = subst (IsRest commit_byte) (behind_is extent files k at) (rest_of is_dirty (behind extent files) rest);
          composed = sym (take-append-drop extent.end (get_or files k []))
              ∙ ap (λ (l : List ℕ). l ++ drop extent.end (get_or files k [])) (sym (text_last extent files k at enough));
        };
        further = λ k less past. let at : extent.volumes ≡ k = omega (arith, less, past, count, one_further further extent.volumes files furthest) in
            subst (λ (i : ℕ). IsRest commit_byte (get_or files i [])) at (further_rest further extent.volumes files furthest (omega (arith, less, at)));
      }

  -- what stands behind it is as the extent says
  pub texts_found : IsFound (record extent { is_dirty = is_dirty; further = further }) files
  texts_found =
      let count : length (texts_in extent files) ≡ extent.volumes = length_texts extent files enough in
      record {
        none = none;
        enough = enough;
        within = within;
        held = texts_held;
        clean = λ is k at. let last : k + 1 ≡ extent.volumes = omega (arith, at, count) in
            sym (text_last extent files k last enough ∙ last_whole extent files enough (clean_rest is_dirty (behind extent files) rest is) k last);
        absent = further_absent further extent.volumes files enough furthest;
        there = λ is. (further_there further extent.volumes files furthest is).0;
        empty = λ is k less past. let at : extent.volumes ≡ k = omega (arith, less, past, count, one_further further extent.volumes files furthest) in
            ap (λ (i : ℕ). get_or files i []) (sym at) ∙ (further_there further extent.volumes files furthest is).1;
      }

-- the files begin with the texts
pub read_is_front : FilesBeginWithWhatWasRead
read_is_front position files lies =
    let extent = position.extent in
    let count : length (texts_in extent files) ≡ extent.volumes = length_texts extent files lies.enough in
    record {
      enough = omega (arith, count, lies.enough);
      sealed = λ k less. sym (text_sealed extent files k (omega (arith, less, count)));
      last = λ k is. (
        drop extent.end (get_or files k []),
        sym (take-append-drop extent.end (get_or files k []))
            ∙ ap (λ (l : List ℕ). l ++ drop extent.end (get_or files k [])) (sym (text_last extent files k (omega (arith, is, count)) lies.enough)),
      );
    }
