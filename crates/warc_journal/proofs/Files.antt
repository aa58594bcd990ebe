-- The files of volumes: what a change of one of them leaves of the texts.
use Rattle.std.proofs.Common.{◌≡◌, ◌<◌, ◌≤◌, ℕ, ◌+◌, ◌-◌, List, [], ◌∷◌, ◌++◌, length, get_or, take, refl, sym, ap, subst, ◌∙◌, inl, inr, ⊎_elim, arith, get_or-set_same, get_or-set_other}
use Rattle.std.proofs.lemmas.Bool.{cases_lt}
use Rattle.std.proofs.lemmas.List.{append-nil, get_or-take, get_or_append_left, get_or_default, get_or_push, length-set, length-take-le, length_push, same_lists}
use lib.ListN.{set}
use Rattle.capture.specs.Tails.{HoldsText, IsRest}
use Rattle.warc_text.specs.StandsFor.{commit_byte}
use Rattle.warc_journal.specs.Extents.{texts_in}
use Rattle.warc_journal.specs.Texts.{AreJust, AreSealed, Hold, IsFurtherEmpty, IsLastJust, with_more}
use Rattle.warc_journal.specs.declared.extent.Extent.{Extent}

module _ (extent : Extent) where
  abbrev v : ℕ
  v = extent.volumes

  -- how many texts there are, and what each of them is
  pub length_texts : (files : List (List ℕ)) → extent.volumes ≤ length files → length (texts_in extent files) ≡ extent.volumes
  length_texts files enough = length-set (take v files) (v - 1) (take extent.end (get_or files (v - 1) [])) ∙ length-take-le v files enough

  pub text_sealed : (files : List (List ℕ)) (k : ℕ) → k + 1 < extent.volumes → get_or (texts_in extent files) k [] ≡ get_or files k []
  text_sealed files k less =
      get_or-set_other (take v files) (v - 1) k (take extent.end (get_or files (v - 1) [])) [] (omega arith)
      ∙ get_or-take v files k [] (omega arith)

  pub text_last : (files : List (List ℕ)) (k : ℕ) → k + 1 ≡ extent.volumes → extent.volumes ≤ length files → get_or (texts_in extent files) k [] ≡ take extent.end (get_or files k [])
  text_last files k is enough =
      let at : k ≡ v - 1 = omega arith in
      ap (λ (i : ℕ). get_or (texts_in extent files) i []) at
      ∙ get_or-set_same (take v files) (v - 1) (take extent.end (get_or files (v - 1) [])) [] (omega (arith, length-take-le v files enough))
      ∙ ap (λ (i : ℕ). take extent.end (get_or files i [])) (sym at)

  -- these tell them
  pub texts_told : (files texts : List (List ℕ)) → extent.volumes ≤ length files → length texts ≡ extent.volumes
      → ((k : ℕ) → k + 1 < extent.volumes → get_or texts k [] ≡ get_or files k [])
      → ((k : ℕ) → k + 1 ≡ extent.volumes → get_or texts k [] ≡ take extent.end (get_or files k []))
      → texts_in extent files ≡ texts
  texts_told files texts enough count sealed last =
      same_lists (texts_in extent files) texts (length_texts files enough ∙ sym count) (λ k d less.
      get_or_default (texts_in extent files) k d [] less
      ∙ ⊎_elim
      (λ before. text_sealed files k before ∙ sym (sealed k before))
      (λ at. let is : k + 1 ≡ v = omega (arith, at, less, length_texts files enough) in text_last files k is enough ∙ sym (last k is))
      (cases_lt (k + 1) v)
      ∙ get_or_default texts k [] d (omega (arith, less, length_texts files enough, count)))

  -- they stay where the sealed files stay, and the front of the last one
  pub texts_stay : (old new : List (List ℕ)) → extent.volumes ≤ length old → extent.volumes ≤ length new
      → ((k : ℕ) → k + 1 < extent.volumes → get_or new k [] ≡ get_or old k [])
      → ((k : ℕ) → k + 1 ≡ extent.volumes → take extent.end (get_or new k []) ≡ take extent.end (get_or old k []))
      → texts_in extent new ≡ texts_in extent old
  texts_stay old new enough still sealed last =
      texts_told new (texts_in extent old) still (length_texts old enough)
      (λ k less. text_sealed old k less ∙ sym (sealed k less))
      (λ k is. text_last old k is enough ∙ sym (last k is))

  -- so they do where another file is written
  pub texts_beside : (files : List (List ℕ)) (file : ℕ) (bytes : List ℕ) → extent.volumes ≤ length files → extent.volumes ≤ file → texts_in extent (set files file bytes) ≡ texts_in extent files
  texts_beside files file bytes enough behind =
      texts_stay files (set files file bytes) enough (omega (arith, enough, length-set files file bytes))
      (λ k less. get_or-set_other files file k bytes [] (omega (arith, less, behind)))
      (λ k is. ap (λ (l : List ℕ). take extent.end l) (get_or-set_other files file k bytes [] (omega (arith, is, behind))))

  -- where the last file is, and keeps its front
  pub texts_front : (files : List (List ℕ)) (file : ℕ) (bytes : List ℕ) → extent.volumes ≤ length files → file + 1 ≡ extent.volumes
      → take extent.end bytes ≡ take extent.end (get_or files file []) → texts_in extent (set files file bytes) ≡ texts_in extent files
  texts_front files file bytes enough is front =
      texts_stay files (set files file bytes) enough (omega (arith, enough, length-set files file bytes))
      (λ k less. get_or-set_other files file k bytes [] (omega (arith, less, is)))
      (λ k at. let same : k ≡ file = omega (arith, at, is) in
      ap (λ (i : ℕ). take extent.end (get_or (set files file bytes) i [])) same
      ∙ ap (λ (l : List ℕ). take extent.end l) (get_or-set_same files file bytes [] (omega (arith, enough, is)))
      ∙ front
      ∙ ap (λ (i : ℕ). take extent.end (get_or files i [])) (sym same))

  -- and where a file is made
  pub texts_pushed : (files : List (List ℕ)) → extent.volumes ≤ length files → texts_in extent (files ++ [] ∷ []) ≡ texts_in extent files
  texts_pushed files enough =
      texts_stay files (files ++ [] ∷ []) enough (omega (arith, enough, length_push files []))
      (λ k less. get_or_append_left files ([] ∷ []) [] k (omega (arith, less, enough)))
      (λ k is. ap (λ (l : List ℕ). take extent.end l) (get_or_append_left files ([] ∷ []) [] k (omega (arith, is, enough))))

module _ (texts files : List (List ℕ)) (are : AreSealed texts files) where
  -- the sealed files stay where a later one is written, or made
  pub sealed_set : (file : ℕ) (bytes : List ℕ) → length texts ≤ file + 1 → AreSealed texts (set files file bytes)
  sealed_set file bytes late = record {
    enough = omega (arith, are.enough, length-set files file bytes);
    one_more = omega (arith, are.one_more, length-set files file bytes);
    sealed = λ k less. get_or-set_other files file k bytes [] (omega (arith, less, late)) ∙ are.sealed k less;
  }

  pub sealed_pushed : length files ≤ length texts → AreSealed texts (files ++ [] ∷ [])
  sealed_pushed count = record {
    enough = omega (arith, are.enough, length_push files []);
    one_more = omega (arith, count, length_push files []);
    sealed = λ k less. get_or_append_left files ([] ∷ []) [] k (omega (arith, less, are.enough)) ∙ are.sealed k less;
  }

  -- the last file stays where the further one is written
  pub last_beside : (file : ℕ) (bytes : List ℕ) → length texts ≤ file → IsLastJust texts files → IsLastJust texts (set files file bytes)
  last_beside file bytes behind just k is = get_or-set_other files file k bytes [] (omega (arith, is, behind)) ∙ just k is

  pub last_pushed : IsLastJust texts files → IsLastJust texts (files ++ [] ∷ [])
  last_pushed just k is = get_or_append_left files ([] ∷ []) [] k (omega (arith, is, are.enough)) ∙ just k is

  pub last_set : (file : ℕ) (bytes : List ℕ) → file + 1 ≡ length texts → bytes ≡ get_or texts file [] → IsLastJust texts (set files file bytes)
  last_set file bytes at same k is =
      let one : k ≡ file = omega (arith, is, at) in
      ap (λ (i : ℕ). get_or (set files file bytes) i []) one
      ∙ get_or-set_same files file bytes [] (omega (arith, at, are.enough))
      ∙ same
      ∙ ap (λ (i : ℕ). get_or texts i []) (sym one)

  -- the further one stays where the last one is written
  pub further_beside : (file : ℕ) (bytes : List ℕ) → file < length texts → IsFurtherEmpty texts files → IsFurtherEmpty texts (set files file bytes)
  further_beside file bytes before empty k less behind =
      get_or-set_other files file k bytes [] (omega (arith, before, behind)) ∙ empty k (omega (arith, less, length-set files file bytes)) behind

  pub further_set : (file : ℕ) (bytes : List ℕ) → file ≡ length texts → bytes ≡ [] → IsFurtherEmpty texts (set files file bytes)
  further_set file bytes at same k less behind =
      let one : k ≡ file = omega (arith, less, behind, at, are.one_more, length-set files file bytes) in
      ap (λ (i : ℕ). get_or (set files file bytes) i []) one
      ∙ get_or-set_same files file bytes [] (omega (arith, less, one, length-set files file bytes))
      ∙ same

  pub further_pushed : length files ≤ length texts → IsFurtherEmpty texts (files ++ [] ∷ [])
  further_pushed count k less behind = get_or_push files [] [] k (omega (arith, less, behind, count, are.enough, length_push files []))

  -- files that are sealed hold the texts where the last one does, with a further one that is empty or unfinished
  pub hold_of : ((k : ℕ) → k + 1 ≡ length texts → HoldsText commit_byte (get_or texts k []) (get_or files k []))
      → ((k : ℕ) → k < length files → length texts ≤ k → IsRest commit_byte (get_or files k [])) → Hold texts files
  hold_of last further = record { enough = are.enough; one_more = are.one_more; sealed = are.sealed; last = last; further = further }

  -- with nothing behind the texts they hold them, and are just these
  pub hold_just : IsLastJust texts files → IsFurtherEmpty texts files → Hold texts files
  hold_just just empty =
      hold_of (λ k is. record { rest = []; unfinished = inl refl; composed = just k is ∙ sym (append-nil (get_or texts k [])) })
      (λ k less behind. inl (empty k less behind))

  pub are_just : IsLastJust texts files → IsFurtherEmpty texts files → AreJust texts files
  are_just just empty = ⊎_elim alone (λ more. inr (with_empty more)) (cases_lt (length files) (length texts + 1))
    where
      same : (k : ℕ) → k < length texts → get_or files k [] ≡ get_or texts k []
      same k less = ⊎_elim (λ before. are.sealed k before) (λ at. just k (omega (arith, at, less))) (cases_lt (k + 1) (length texts))

      alone : length files < length texts + 1 → AreJust texts files
      alone less = inl (same_lists files texts (omega (arith, less, are.enough)) (λ k d there.
          get_or_default files k d [] there ∙ same k (omega (arith, there, less)) ∙ get_or_default texts k [] d (omega (arith, there, less))))

      with_empty : length texts + 1 ≤ length files → files ≡ texts ++ [] ∷ []
      with_empty more =
          let count : length files ≡ length (texts ++ [] ∷ []) = omega (arith, more, are.one_more, length_push texts []) in
          same_lists files (texts ++ [] ∷ []) count (λ k d there.
          get_or_default files k d [] there
          ∙ ⊎_elim
          (λ before. same k before ∙ sym (get_or_append_left texts ([] ∷ []) [] k before))
          (λ behind. empty k there behind ∙ sym (get_or_push texts [] [] k (omega (arith, there, behind, are.one_more))))
          (cases_lt k (length texts))
          ∙ get_or_default (texts ++ [] ∷ []) k [] d (omega (arith, there, count)))

  -- a last file that is written holds its text and perhaps a tail, beside an empty further one
  pub hold_last : (file : ℕ) (bytes : List ℕ) → file + 1 ≡ length texts → IsFurtherEmpty texts files → HoldsText commit_byte (get_or texts file []) bytes → Hold texts (set files file bytes)
  hold_last file bytes at empty holds = record {
    enough = (sealed_set file bytes (omega (arith, at))).enough;
    one_more = (sealed_set file bytes (omega (arith, at))).one_more;
    sealed = (sealed_set file bytes (omega (arith, at))).sealed;
    last = λ k is. let one : file ≡ k = omega (arith, is, at) in
        subst (λ (i : ℕ). HoldsText commit_byte (get_or texts i []) (get_or (set files file bytes) i [])) one
        (subst (λ (b : List ℕ). HoldsText commit_byte (get_or texts file []) b) (sym (get_or-set_same files file bytes [] (omega (arith, at, are.enough)))) holds);
    further = λ k less behind. inl (further_beside file bytes (omega (arith, at)) empty k less behind);
  }

  -- a further file that is written is empty or unfinished, behind a last one that holds its text
  pub hold_further : (file : ℕ) (bytes : List ℕ) → file ≡ length texts
      → ((k : ℕ) → k + 1 ≡ length texts → HoldsText commit_byte (get_or texts k []) (get_or files k []))
      → IsRest commit_byte bytes → Hold texts (set files file bytes)
  hold_further file bytes at last rest = record {
    enough = (sealed_set file bytes (omega (arith, at))).enough;
    one_more = (sealed_set file bytes (omega (arith, at))).one_more;
    sealed = (sealed_set file bytes (omega (arith, at))).sealed;
    last = λ k is. subst (λ (b : List ℕ). HoldsText commit_byte (get_or texts k []) b) (sym (get_or-set_other files file k bytes [] (omega (arith, is, at)))) (last k is);
    further = λ k less behind. let one : k ≡ file = omega (arith, less, behind, at, are.one_more, length-set files file bytes) in
        subst (IsRest commit_byte)
        (sym (ap (λ (i : ℕ). get_or (set files file bytes) i []) one ∙ get_or-set_same files file bytes [] (omega (arith, less, one, length-set files file bytes))))
        rest;
  }

-- the last text goes on, and so does its file
module _ (texts files : List (List ℕ)) (are : AreSealed texts files) (file : ℕ) (bytes : List ℕ) (at : file + 1 ≡ length texts) where
  pub more_sealed : AreSealed (set texts file bytes) (set files file bytes)
  more_sealed = record {
    enough = omega (arith, are.enough, length-set texts file bytes, length-set files file bytes);
    one_more = omega (arith, are.one_more, length-set texts file bytes, length-set files file bytes);
    sealed = λ k less.
        let before : k + 1 < length texts = omega (arith, less, length-set texts file bytes) in
        get_or-set_other files file k bytes [] (omega (arith, before, at)) ∙ are.sealed k before ∙ sym (get_or-set_other texts file k bytes [] (omega (arith, before, at)));
  }

  pub more_last : IsLastJust (set texts file bytes) (set files file bytes)
  more_last k is =
      let one : k ≡ file = omega (arith, is, at, length-set texts file bytes) in
      ap (λ (i : ℕ). get_or (set files file bytes) i []) one
      ∙ get_or-set_same files file bytes [] (omega (arith, at, are.enough))
      ∙ sym (get_or-set_same texts file bytes [] (omega (arith, at)))
      ∙ ap (λ (i : ℕ). get_or (set texts file bytes) i []) (sym one)

  pub more_further : IsFurtherEmpty texts files → IsFurtherEmpty (set texts file bytes) (set files file bytes)
  more_further empty k less behind = further_beside texts files are file bytes (omega (arith, at)) empty k less (omega (arith, behind, length-set texts file bytes))

-- where the last text is
pub with_more_is : (texts : List (List ℕ)) (file : ℕ) (more : List ℕ) → file + 1 ≡ length texts → with_more texts more ≡ set texts file (get_or texts file [] ++ more)
with_more_is texts file more at =
    let same : length texts - 1 ≡ file = omega (arith, at) in
    ap (λ (i : ℕ). set texts i (get_or texts i [] ++ more)) same

-- a text more, in the further file
module _ (texts files : List (List ℕ)) (are : AreSealed texts files) (file : ℕ) (text : List ℕ) (at : file ≡ length texts) (there : file < length files) where
  pub new_sealed : IsLastJust texts files → AreSealed (texts ++ text ∷ []) (set files file text)
  new_sealed just = record {
    enough = omega (arith, there, at, length_push texts text, length-set files file text);
    one_more = omega (arith, are.one_more, length_push texts text, length-set files file text);
    sealed = λ k less.
        let before : k < length texts = omega (arith, less, length_push texts text) in
        get_or-set_other files file k text [] (omega (arith, before, at))
        ∙ ⊎_elim (λ earlier. are.sealed k earlier) (λ last. just k (omega (arith, last, before))) (cases_lt (k + 1) (length texts))
        ∙ sym (get_or_append_left texts (text ∷ []) [] k before);
  }

  pub new_last : IsLastJust (texts ++ text ∷ []) (set files file text)
  new_last k is =
      let one : k ≡ file = omega (arith, is, at, length_push texts text) in
      ap (λ (i : ℕ). get_or (set files file text) i []) one
      ∙ get_or-set_same files file text [] there
      ∙ sym (get_or_push texts text [] k (omega (arith, one, at)))

  pub new_further : IsFurtherEmpty (texts ++ text ∷ []) (set files file text)
  new_further k less behind = absurd (omega (arith, less, behind, are.one_more, length_push texts text, length-set files file text))
