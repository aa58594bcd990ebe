-- Volumes that are counted, and how far the last one was gathered.
use Rattle.std.proofs.Common.{◌≡◌, ◌≢◌, ◌⊎◌, ℕ, ◌<◌, ◌≤◌, Bool, false, List, [], ◌∷◌, ◌++◌, length, take, Some, refl, sym, subst, ◌∙◌, inl, inr, ⊎_elim, arith, length-append}
use Rattle.std.specs.Prelude.{slice_get}
use Rattle.std.proofs.lemmas.Bool.{cases_lt}
use Rattle.std.proofs.lemmas.List.{take-append-le}
use Rattle.std.proofs.lemmas.Option.{same_Some, slice_get_within}
use Rattle.std.proofs.Math.Seq.{take-append_seam}
use Rattle.capture.specs.Captures.{captures_in}
use Rattle.capture.specs.declared.book.Volume.{Volume}
use Rattle.disk_model.specs.Image.{Image, file_of}
use Rattle.disk_model.specs.declared.kind.Kind.TheVariants.{Warc}
use Rattle.volume_scan.specs.declared.position.Stage.{Stage}
use Rattle.volume_scan.specs.declared.position.Stage.TheVariants as stages
use Rattle.warc_text.proofs.BookLaws.{get_behind}
use Rattle.archive_gathering.proofs.StartLaws.{before_new}
use Rattle.archive_opening.specs.Counting.{AreCounted, Counted, HasCountOf, Reaches, StandsUpTo}

-- ---- each is counted

-- a volume that has a number of its own, and whether it is the last by that
module _ (image : Image) (namespace : List ℕ) (sealed : List Volume) (last : Volume) (is_last : ℕ → Bool) where
  abbrev all : List Volume
  all = sealed ++ last ∷ []

  abbrev counted : List Volume → ℕ → Volume → Bool → Counted
  counted volumes k volume flag = record {
    number = k;
    namespace = namespace;
    first = length (captures_in (take k volumes));
    count = length volume.captures;
    last = flag;
  }

  pub counted_by : AreCounted image namespace sealed → ((k : ℕ) → k < length sealed → is_last k ≡ false)
      → HasCountOf image (record { number = length sealed; namespace = namespace; first = length (captures_in sealed); count = length last.captures; last = is_last (length sealed) })
      → (k : ℕ) (volume : Volume) → slice_get all k ≡ Some volume → HasCountOf image (counted all k volume (is_last k))
  counted_by are others here k volume at = ⊎_elim
      (λ (before : k < length sealed).
      let front : take k all ≡ take k sealed = take-append-le k sealed (last ∷ []) (omega (arith, before)) in
      subst (λ (l : List Volume). HasCountOf image (record { number = k; namespace = namespace; first = length (captures_in l); count = length volume.captures; last = is_last k })) (sym front)
      (subst (λ (b : Bool). HasCountOf image (counted sealed k volume b)) (sym (others k before)) (are k volume (before_new sealed last volume k at before))))
      (λ (behind : length sealed ≤ k).
      let within = slice_get_within all k volume at in
      let e : length sealed ≡ k = omega (arith, behind, within, length-append sealed (last ∷ [])) in
      let same : last ≡ volume = same_Some last volume (sym (get_behind all sealed last [] k refl e) ∙ at) in
      let front : take (length sealed) all ≡ sealed = take-append_seam sealed (last ∷ []) in
      subst (λ (n : ℕ). HasCountOf image (counted all n volume (is_last n))) e
      (subst (λ (v : Volume). HasCountOf image (counted all (length sealed) v (is_last (length sealed)))) same
      (subst (λ (l : List Volume). HasCountOf image (record { number = length sealed; namespace = namespace; first = length (captures_in l); count = length last.captures; last = is_last (length sealed) })) (sym front) here)))
      (cases_lt k (length sealed))

-- ---- how far a volume was gathered

pub is_skipped : (stage : Stage) → (stage ≡ stages.Skipped) ⊎ (stage ≢ stages.Skipped)
is_skipped stages.Skipped = inl refl
is_skipped stages.Opened = inr (λ e. cc)
is_skipped stages.Within = inr (λ e. cc)
is_skipped stages.Done = inr (λ e. cc)

-- where it wasn't skipped, its groups stand so far
pub stood : (image : Image) (volume : Counted) (place : ℕ) (stage : Stage) → stage ≢ stages.Skipped → Reaches stage image volume place
    → StandsUpTo volume.number volume.namespace volume.first (file_of image Warc volume.number) volume.count place
stood image volume place stages.Skipped other reaches = absurd (other refl)
stood image volume place stages.Opened other reaches =
    subst (λ (n : ℕ). StandsUpTo volume.number volume.namespace volume.first (file_of image Warc volume.number) n place) (sym reaches.0) reaches.1
stood image volume place stages.Within other reaches = reaches
stood image volume place stages.Done other reaches = reaches
