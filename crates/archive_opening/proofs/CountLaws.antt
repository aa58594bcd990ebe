-- How many captures each volume has, after each step of a scan.
use Rattle.std.proofs.Common.{◌≡◌, ◌≢◌, ℕ, zero, suc, ◌+◌, ◌-◌, ◌<◌, ◌≤◌, Bool, true, false, IsTrue, List, [], ◌∷◌, ◌++◌, length, drop, get_or, take, nat_eq, Some, refl, sym, ap, subst, ◌∙◌, inl, inr, ⊎_elim, arith, eq-eqb, ne_eqb, append_assoc, length-append}
use Rattle.std.specs.Prelude.{Option, slice_get, slice_index}
use Rattle.std.proofs.lemmas.Bool.{cases_lt}
use Rattle.std.proofs.lemmas.List.{drop_all, get_or_append_left, length-set, length_push}
use Rattle.std.proofs.lemmas.Option.{slice_get_within}
use Rattle.std.proofs.Math.Seq.{drop-append_seam, get_or-append_seam}
use Rattle.capture.specs.Captures.{captures, captures_in, taken_back}
use Rattle.capture.specs.Tails.{IsCommitted, IsRest}
use Rattle.capture.specs.declared.book.Book.{Book}
use Rattle.capture.specs.declared.book.Volume.{Volume}
use Rattle.disk_model.specs.Image.{Image, file_of}
use Rattle.disk_model.specs.declared.disk.Disk.{Ghosts}
use Rattle.disk_model.specs.declared.kind.Kind.TheVariants.{Warc}
use Rattle.volume_scan.specs.Books.{AreFronts, FilesBeginWithWhatWasRead}
use Rattle.volume_scan.specs.Scannings.{BeginsOne, Ends, Finds, GoesOnWith, IsInPlace, captures_of, disk_of, files_in, position_of, texts as texts_read}
use Rattle.volume_scan.specs.Unread.{unread}
use Rattle.volume_scan.specs.declared.found.Found.{Found}
use Rattle.volume_scan.specs.declared.found.Found.TheVariants.{Info, Group, End}
use Rattle.volume_scan.specs.declared.position.Position.{Position}
use Rattle.volume_scan.specs.declared.position.Stage.{Stage}
use Rattle.volume_scan.specs.declared.position.Stage.TheVariants as stages
use Rattle.volume_scan.specs.declared.scanning.Scanning.{Scanning}
use Rattle.warc_journal.specs.Extents.{warc_files}
use Rattle.warc_journal.specs.Journals.{Rests}
use Rattle.warc_journal.specs.Texts.{Hold, with_more}
use Rattle.warc_journal.specs.declared.place.Place.{Place}
use Rattle.warc_scan.specs.Groups.{IsGroup, reference_in}
use Rattle.warc_scan.specs.declared.group.Group.{Group as GroupFound}
use Rattle.warc_text.proofs.GroupLaws.{groups_are_committed}
use Rattle.warc_text.proofs.InfoLaws.{infos_are_committed}
use Rattle.warc_text.specs.StandsFor.{commit_byte}
use Rattle.archive_volumes.specs.Held.{book_of}
use Rattle.archive_opening.proofs.CountedLaws.{counted_by, is_skipped, stood}
use Rattle.archive_gathering.proofs.FrontLaws.{last_with_more}
use Rattle.archive_gathering.proofs.SealedLaws.{sum_at_least, sum_with_last, with_last}
use Rattle.archive_opening.proofs.SkipLaws.{file_is, rest_is_drop}
use Rattle.archive_opening.proofs.TellLaws.{last_long, length_texts}
use Rattle.archive_opening.specs.Counting.{AreCounted, CountsOn, CountsTo, CountsUpTo, GroupStands, HasCountOf, HasCountsOf, HasInfo, HasItsLines, InfoEndsAt, IsSoundRest, IsUntold, LastEndsAt, Reaches, StandsUpTo, last_counted}
use Rattle.archive_opening.specs.Telling.{GoesWith, step_of}
use Rattle.archive_gathering.specs.Shapes.{HasBegunOne, HasTakenOne, Shapes, sealed_in}
use Rattle.archive_gathering.specs.declared.gathered.Gathered.{Gathered}

-- ---- what begins with a committed text is neither nothing nor a tail

pub rest_is_uncommitted : (text rest bytes : List ℕ) → bytes ≡ text ++ rest → IsCommitted commit_byte text → IsRest commit_byte bytes → ⊥
rest_is_uncommitted text rest bytes e is (inl none) = omega (arith, is.more, ap length e, ap length none, length-append text rest)
rest_is_uncommitted text rest bytes e is (inr tail) =
    let first : slice_index bytes 0 ≡ commit_byte = ap (λ (l : List ℕ). slice_index l 0) e ∙ get_or_append_left text rest 0 0 (omega (arith, is.more)) ∙ is.begins in
    ⊎_elim (λ other. other first) (λ one. omega (arith, one, is.more, ap length e, length-append text rest)) tail.unfinished

no_info_in_rest : (image : Image) (namespace : List ℕ) (volume : ℕ) → IsRest commit_byte (file_of image Warc volume) → HasInfo image namespace volume → ⊥
no_info_in_rest image namespace volume rest info =
    let begins = info.1.begins in
    rest_is_uncommitted begins.text begins.rest (file_of image Warc volume) begins.composed
    (subst (IsCommitted commit_byte) (sym begins.is.composed) (infos_are_committed namespace volume info.1.born)) rest

module _ {D : Type 0} (d : Ghosts D) (known : Option Book) (old new : Scanning D) (was is : Gathered) (goes : GoesWith d known old was)
    (was_in : IsInPlace d old) (in_place : IsInPlace d new) (rests : Rests d (disk_of old) (disk_of new)) (tells : IsTrue d.tells) (begin : FilesBeginWithWhatWasRead)
    (counts : CountsOn (d.reading (disk_of old)) (position_of old) (book_of was.held)) where
  abbrev image : Image
  image = d.reading (disk_of new)

  abbrev book : Book
  book = book_of was.held

  abbrev texts : List (List ℕ)
  texts = texts_read d old

  abbrev end : ℕ
  end = (position_of old).extent.end

  here : CountsOn image (position_of old) book
  here = subst (λ (i : Image). CountsOn i (position_of old) book) (sym rests.read) counts

  fronts : AreFronts (texts_read d new) (warc_files image)
  fronts = begin (position_of new) (files_in d new) (in_place.stands tells).lies

  count_texts : length texts ≡ (position_of old).extent.volumes
  count_texts = length_texts (position_of old).extent (files_in d old) (was_in.stands tells).lies.enough

  end_is : (k : ℕ) → k + 1 ≡ length texts → length (get_or texts k []) ≡ end
  end_is k is =
      let lies = (was_in.stands tells).lies in
      let at : k + 1 ≡ (position_of old).extent.volumes = is ∙ count_texts in
      last_long (position_of old).extent (files_in d old) k at lies.enough (lies.within k at)

  -- the last volume's groups so far, where it isn't skipped
  groups_so_far : (k : ℕ) → k + 1 ≡ length book.volumes → (position_of old).stage ≢ stages.Skipped
      → StandsUpTo k book.namespace (length (captures_in (sealed_in book.volumes))) (file_of image Warc k) (length (captures book) - length (captures_in (sealed_in book.volumes))) end
  groups_so_far k at other = stood image (last_counted book k) end (position_of old).stage other (here.0.last k at)

  -- that volume, with what stands behind its groups
  module _ (last : Volume) (all : book.volumes ≡ sealed_in book.volumes ++ last ∷ []) (is_last : Bool) where
    abbrev k : ℕ
    k = length (sealed_in book.volumes)

    abbrev first : ℕ
    first = length (captures_in (sealed_in book.volumes))

    at_last : k + 1 ≡ length book.volumes
    at_last = omega (arith, ap length all, length_push (sealed_in book.volumes) last)

    left : length (captures book) - first ≡ length last.captures
    left = omega (arith, sum_with_last book.volumes last all)

    last_by_lines : (position_of old).stage ≡ stages.Skipped
        → HasCountOf image (record { number = k; namespace = book.namespace; first = first; count = length last.captures; last = is_last })
    last_by_lines skipped =
        let reached : HasItsLines image (last_counted book k) = subst (λ (s : Stage). Reaches s image (last_counted book k) end) skipped (here.0.last k at_last) in
        inl (record { lines = reached.lines; told = reached.told; count = sym left ∙ reached.count })

    last_by_groups : (position_of old).stage ≢ stages.Skipped → IsSoundRest is_last (drop end (file_of image Warc k))
        → HasCountOf image (record { number = k; namespace = book.namespace; first = first; count = length last.captures; last = is_last })
    last_by_groups other rest = inr (record {
      untold = here.1 k at_last other;
      holds = record {
        place = end;
        stands = subst (λ (n : ℕ). StandsUpTo k book.namespace first (file_of image Warc k) n end) left (groups_so_far k at_last other);
        rest = rest;
      };
    })

  -- ---- a volume

  module _ (volume : ℕ) (namespace : List ℕ) (born : ℕ) (one : BeginsOne d old new volume namespace born) where
    at : volume ≡ length texts
    at = one.number ∙ sym count_texts

    volumes_are : volume ≡ length book.volumes
    volumes_are = one.number ∙ goes.volumes

    fronts_now : AreFronts (texts ++ one.text ∷ []) (warc_files image)
    fronts_now = subst (λ (t : List (List ℕ)). AreFronts t (warc_files image)) (one.read tells) fronts

    pub info : InfoEndsAt volume namespace (file_of image Warc volume) (length one.text)
    info =
        let front = fronts_now.last volume (omega (arith, at, length_push texts one.text)) in
        let text : get_or (texts ++ one.text ∷ []) volume [] ≡ one.text =
        ap (λ (n : ℕ). get_or (texts ++ one.text ∷ []) n []) at ∙ get_or-append_seam texts one.text [] [] in
        record {
          born = born;
          begins = record {
            text = one.text;
            rest = front.0;
            composed = file_is image volume ∙ front.1 ∙ ap (λ (t : List ℕ). t ++ front.0) text;
            is = one.is;
          };
        }

    whole : (k : ℕ) → k + 1 ≡ length texts → drop end (file_of image Warc k) ≡ []
    whole k last =
        let same : file_of image Warc k ≡ get_or texts k [] =
        file_is image k ∙ fronts_now.sealed k (omega (arith, last, length_push texts one.text)) ∙ get_or_append_left texts (one.text ∷ []) [] k (omega (arith, last)) in
        drop_all end (file_of image Warc k) (omega (arith, ap length same, end_is k last))

    -- the volumes before it are counted
    pub before : AreCounted image book.namespace book.volumes
    before = by (length book.volumes) refl
      where
        by : (n : ℕ) → length book.volumes ≡ n → AreCounted image book.namespace book.volumes
        by zero none = λ k v placed. absurd (omega (arith, none, slice_get_within book.volumes k v placed))
        by (suc n) some =
            let last = with_last book.volumes (omega (arith, some)) in
            let at_end = at_last last.0 last.1 false in
            subst (AreCounted image book.namespace) (sym last.1)
            (counted_by image book.namespace (sealed_in book.volumes) last.0 (λ k. false) here.0.sealed (λ k less. refl)
            (⊎_elim (λ skipped. last_by_lines last.0 last.1 false skipped)
            (λ other. last_by_groups last.0 last.1 false other (whole (length (sealed_in book.volumes)) (omega (arith, at_end, at, volumes_are))))
            (is_skipped (position_of old).stage)))

    module _ (begun : HasBegunOne was is namespace) where
      abbrev now : Book
      now = book_of is.held

      same_namespace : 0 < length book.volumes → book.namespace ≡ now.namespace
      same_namespace some = sym (begun.namespace_stays some)

      nothing_yet : length (captures now) - length (captures_in (sealed_in now.volumes)) ≡ 0
      nothing_yet = omega (arith, ap length begun.captures_are, ap (λ (l : List Volume). length (captures_in l)) begun.sealed)

      pub counts_info : CountsUpTo image (position_of new) now
      counts_info = record {
        infos = λ k less. ⊎_elim
            (λ (before_it : k < length book.volumes).
            subst (λ (n : List ℕ). HasInfo image n k) (same_namespace (omega (arith, before_it))) (here.0.infos k before_it))
            (λ (behind : length book.volumes ≤ k).
            let e : volume ≡ k = omega (arith, behind, less, begun.volumes, volumes_are) in
            subst (HasInfo image now.namespace) e (subst (λ (n : List ℕ). HasInfo image n volume) (sym begun.namespace_is) (length one.text, info)))
            (cases_lt k (length book.volumes));
        sealed = subst (AreCounted image now.namespace) (sym begun.sealed) (by (length book.volumes) refl);
        last = λ k last.
            let e : volume ≡ k = omega (arith, last, begun.volumes, volumes_are) in
            let stage : stages.Opened ≡ (position_of new).stage = sym (ap (λ (p : Position). p.stage) one.position) in
            let place : length one.text ≡ (position_of new).extent.end = sym (ap (λ (p : Position). p.extent.end) one.position) in
            subst (λ (s : Stage). Reaches s image (last_counted now k) (position_of new).extent.end) stage
            (subst (λ (p : ℕ). Reaches stages.Opened image (last_counted now k) p) place (
              nothing_yet,
              subst (λ (n : ℕ). InfoEndsAt n now.namespace (file_of image Warc n) (length one.text)) e
                  (subst (λ (n : List ℕ). InfoEndsAt volume n (file_of image Warc volume) (length one.text)) (sym begun.namespace_is) info),
            ));
      }
        where
          by : (n : ℕ) → length book.volumes ≡ n → AreCounted image now.namespace book.volumes
          by zero none = λ k v placed. absurd (omega (arith, none, slice_get_within book.volumes k v placed))
          by (suc n) some = subst (λ (x : List ℕ). AreCounted image x book.volumes) (same_namespace (omega (arith, some))) before

  -- ---- a capture

  module _ (place : Place) (group : GroupFound) (on : GoesOnWith d old new place group) where
    abbrev volume_is : ℕ
    volume_is = place.volume

    last_text : volume_is + 1 ≡ length texts
    last_text = on.volume ∙ sym count_texts

    count_more : length (with_more texts on.text) ≡ length texts
    count_more = length-set texts (length texts - 1) (get_or texts (length texts - 1) [] ++ on.text)

    -- its text stands behind what was read
    pub front : (rest : List ℕ) × (file_of image Warc volume_is ≡ get_or texts volume_is [] ++ (on.text ++ rest))
    front =
        let there = (subst (λ (t : List (List ℕ)). AreFronts t (warc_files image)) (on.read tells) fronts).last volume_is (omega (arith, last_text, count_more)) in (
          there.0,
          file_is image volume_is ∙ there.1 ∙ ap (λ (t : List ℕ). t ++ there.0) (last_with_more texts on.text volume_is last_text)
              ∙ append_assoc (get_or texts volume_is []) on.text there.0,
        )

    pub behind : drop end (file_of image Warc volume_is) ≡ on.text ++ front.0
    behind =
        ap (drop end) front.1
        ∙ ap (λ (n : ℕ). drop n (get_or texts volume_is [] ++ (on.text ++ front.0))) (sym (end_is volume_is last_text))
        ∙ drop-append_seam (get_or texts volume_is []) (on.text ++ front.0)

    some : 1 < length on.text
    some = (subst (IsCommitted commit_byte) (sym on.is.composed)
        (groups_are_committed (position_of old).namespace (captures_of old) (taken_back group.stored) group.digest (reference_in group.same))).more

    -- so the volume wasn't skipped
    not_skipped : (position_of old).stage ≢ stages.Skipped
    not_skipped skipped =
        let nothing = ((was_in.stands tells).lies.skipped skipped).1 in
        let rest : unread (position_of old) (files_in d old) ≡ drop end (get_or (files_in d old) volume_is []) =
        rest_is_drop (position_of old) (files_in d old) volume_is on.volume in
        let same : drop end (file_of image Warc volume_is) ≡ [] =
        ap (drop end) (file_is image volume_is) ∙ ap (λ (i : Image). drop end (get_or (warc_files i) volume_is [])) rests.read ∙ sym rest ∙ nothing in
        omega (arith, some, ap length behind, length-append on.text front.0, ap length same)

    at_volume : volume_is + 1 ≡ length book.volumes
    at_volume = on.volume ∙ goes.volumes

    abbrev first_is : ℕ
    first_is = length (captures_in (sealed_in book.volumes))

    number : captures_of old ≡ first_is + (length (captures book) - first_is)
    number = omega (arith, goes.count, sum_at_least book.volumes)

    stands : GroupStands book.namespace (first_is + (length (captures book) - first_is)) (file_of image Warc volume_is) end (end + length on.text)
    stands = record {
      group = group;
      begins = record {
        text = on.text;
        rest = front.0;
        composed = behind;
        is = subst (λ (n : ℕ). IsGroup book.namespace n on.text group) number
            (subst (λ (n : List ℕ). IsGroup n (captures_of old) on.text group) (goes.namespace (omega (arith, at_volume))) on.is);
      };
      ends = ap (λ (n : ℕ). end + n) (sym on.is.places.len);
    }

    longer : StandsUpTo volume_is book.namespace first_is (file_of image Warc volume_is) (suc (length (captures book) - first_is)) (end + length on.text)
    longer = (end, groups_so_far volume_is at_volume not_skipped, stands)

    module _ (taken : HasTakenOne was is place) where
      abbrev with_it : Book
      with_it = book_of is.held

      first_same : first_is ≡ length (captures_in (sealed_in with_it.volumes))
      first_same = ap (λ (l : List Volume). length (captures_in l)) (sym taken.sealed)

      count_is : suc (length (captures book) - first_is) ≡ length (captures with_it) - length (captures_in (sealed_in with_it.volumes))
      count_is = omega (arith, first_same, taken.captures_are, sum_at_least book.volumes)

      place_is : end + length on.text ≡ (position_of new).extent.end
      place_is = omega (arith, on.at, ap (λ (p : Position). p.extent.end) on.position)

      reached : StandsUpTo volume_is with_it.namespace (length (captures_in (sealed_in with_it.volumes))) (file_of image Warc volume_is)
          (length (captures with_it) - length (captures_in (sealed_in with_it.volumes))) (position_of new).extent.end
      reached =
          subst (λ (p : ℕ). StandsUpTo volume_is with_it.namespace (length (captures_in (sealed_in with_it.volumes))) (file_of image Warc volume_is)
          (length (captures with_it) - length (captures_in (sealed_in with_it.volumes))) p) place_is
          (subst (λ (c : ℕ). StandsUpTo volume_is with_it.namespace (length (captures_in (sealed_in with_it.volumes))) (file_of image Warc volume_is) c (end + length on.text)) count_is
          (subst (λ (f : ℕ). StandsUpTo volume_is with_it.namespace f (file_of image Warc volume_is) (suc (length (captures book) - first_is)) (end + length on.text)) first_same
          (subst (λ (n : List ℕ). StandsUpTo volume_is n first_is (file_of image Warc volume_is) (suc (length (captures book) - first_is)) (end + length on.text)) (sym taken.namespace) longer)))

      pub counts_group : CountsOn image (position_of new) with_it
      counts_group = (
        record {
          infos = λ k less. subst (λ (n : List ℕ). HasInfo image n k) (sym taken.namespace) (here.0.infos k (omega (arith, less, taken.volumes)));
          sealed = subst (AreCounted image with_it.namespace) (sym taken.sealed)
              (subst (λ (n : List ℕ). AreCounted image n (sealed_in book.volumes)) (sym taken.namespace) here.0.sealed);
          last = λ k last.
              let e : volume_is ≡ k = omega (arith, last, taken.volumes, at_volume) in
              let stage : stages.Within ≡ (position_of new).stage = sym (ap (λ (p : Position). p.stage) on.position) in
              subst (λ (s : Stage). Reaches s image (last_counted with_it k) (position_of new).extent.end) stage
              (subst (λ (n : ℕ). StandsUpTo n with_it.namespace (length (captures_in (sealed_in with_it.volumes))) (file_of image Warc n)
              (length (captures with_it) - length (captures_in (sealed_in with_it.volumes))) (position_of new).extent.end) e reached);
        },
        λ k last other. subst (IsUntold image k) first_same (here.1 k (omega (arith, last, taken.volumes)) not_skipped),
      )

  -- ---- the end

  module _ (ends : Ends d old new) where
    held : Hold texts (warc_files image)
    held = subst (λ (i : Image). Hold texts (warc_files i)) (sym rests.read) (ends.held tells)

    no_further : (k : ℕ) → length book.volumes ≤ k → IsRest commit_byte (file_of image Warc k)
    no_further k behind_all = ⊎_elim
        (λ (there : k < length (warc_files image)).
        subst (IsRest commit_byte) (sym (file_is image k)) (held.further k there (omega (arith, behind_all, count_texts, goes.volumes))))
        (λ (past : length (warc_files image) ≤ k). inl (file_is image k ∙ get_or_past (warc_files image) k past))
        (cases_lt k (length (warc_files image)))
      where
        get_or_past : (files : List (List ℕ)) (n : ℕ) → length files ≤ n → get_or files n [] ≡ []
        get_or_past [] n past = refl
        get_or_past (f ∷ fs) zero past = absurd (omega (arith, past))
        get_or_past (f ∷ fs) (suc n) past = get_or_past fs n (omega (arith, past))

    sound_rest : (k : ℕ) → k + 1 ≡ length book.volumes → IsRest commit_byte (drop end (file_of image Warc k))
    sound_rest k last =
        let at_end : k + 1 ≡ length texts = omega (arith, last, count_texts, goes.volumes) in
        let holds = held.last k at_end in
        let same : drop end (file_of image Warc k) ≡ holds.rest =
        ap (drop end) (file_is image k ∙ holds.composed)
        ∙ ap (λ (n : ℕ). drop n (get_or texts k [] ++ holds.rest)) (sym (end_is k at_end)) ∙ drop-append_seam (get_or texts k []) holds.rest in
        subst (IsRest commit_byte) (sym same) holds.unfinished

    pub last_end : LastEndsAt image book (position_of new).extent.end
    last_end k last =
        subst (λ (n : ℕ). StandsUpTo k book.namespace (length (captures_in (sealed_in book.volumes))) (file_of image Warc k)
        (length (captures book) - length (captures_in (sealed_in book.volumes))) n) (sym (ap (λ (p : Position). p.extent.end) ends.position))
        (groups_so_far k last (ends.not_skipped tells))

    abbrev by_number : List Volume → ℕ → Bool
    by_number volumes k = nat_eq (suc k) (length volumes)

    pub counts_end : HasCountsOf image book
    counts_end = record {
      infos = here.0.infos;
      none = λ k namespace behind_all info. no_info_in_rest image namespace k (no_further k behind_all) info;
      counts = by (length book.volumes) refl;
    }
      where
        by : (n : ℕ) → length book.volumes ≡ n → (k : ℕ) (v : Volume) → slice_get book.volumes k ≡ Some v → HasCountOf image (record {
          number = k;
          namespace = book.namespace;
          first = length (captures_in (take k book.volumes));
          count = length v.captures;
          last = nat_eq (suc k) (length book.volumes);
        })
        by zero none = λ k v placed. absurd (omega (arith, none, slice_get_within book.volumes k v placed))
        by (suc n) some =
            let last = with_last book.volumes (omega (arith, some)) in
            let at_end = at_last last.0 last.1 true in
            let all = sealed_in book.volumes ++ last.0 ∷ [] in
            let long : length all ≡ suc (length (sealed_in book.volumes)) = omega (arith, length_push (sealed_in book.volumes) last.0) in
            let is_true : nat_eq (suc (length (sealed_in book.volumes))) (length all) ≡ true = eq-eqb (suc (length (sealed_in book.volumes))) (length all) (sym long) in
            subst (λ (vs : List Volume). (k : ℕ) (v : Volume) → slice_get vs k ≡ Some v → HasCountOf image (record {
              number = k;
              namespace = book.namespace;
              first = length (captures_in (take k vs));
              count = length v.captures;
              last = nat_eq (suc k) (length vs);
            })) (sym last.1)
            (counted_by image book.namespace (sealed_in book.volumes) last.0 (by_number all) here.0.sealed
            (λ k less. ne_eqb (suc k) (length all) (λ e. omega (arith, e, less, long)))
            (subst (λ (b : Bool). HasCountOf image (record {
              number = length (sealed_in book.volumes);
              namespace = book.namespace;
              first = length (captures_in (sealed_in book.volumes));
              count = length last.0.captures;
              last = b;
            })) (sym is_true)
            (last_by_groups last.0 last.1 true (ends.not_skipped tells) (sound_rest (length (sealed_in book.volumes)) at_end))))

  -- ---- a step

  pub counts_by : (found : Found) (more : Bool) → Finds d old new found → Shapes was is found more → CountsTo image (position_of new) (book_of is.held) (step_of found)
  counts_by (Info volume namespace born) more one shapes = counts_info volume namespace born one (shapes.1 (one.number ∙ goes.volumes))
  counts_by (Group place read) more on shapes = counts_group place read.group on shapes.1
  counts_by End more ends shapes =
      subst (λ (g : Gathered). HasCountsOf image (book_of g.held) × LastEndsAt image (book_of g.held) (position_of new).extent.end) (sym shapes.1)
      (counts_end ends, last_end ends)
