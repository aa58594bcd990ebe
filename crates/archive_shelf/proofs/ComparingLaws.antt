-- What was found of a payload, as a book grows.
use Rattle.std.proofs.Common.{◌≡◌, ℕ, zero, suc, ◌<◌, ◌≤◌, false, List, [], ◌∷◌, ◌++◌, length, Option, Some, None, refl, sym, ap, subst, ◌∙◌, ⊎_elim, arith, length-append}
use Rattle.std.specs.Prelude.{IfSome, slice_get}
use Rattle.std.proofs.lemmas.Bool.{cases_lt}
use Rattle.capture.specs.Captures.{captures, is_cut, IsPayloadBy}
use Rattle.capture.specs.GrowthLaws.{GrowthKeepsCaptures}
use Rattle.capture.specs.Soundness.{HasSoundCaptures, IsSoundBy}
use Rattle.capture.specs.declared.book.Book.{Book}
use Rattle.capture.specs.declared.captured.Kept.{Kept}
use Rattle.capture.specs.declared.captured.Kept.TheVariants.{Wire, Same, Cut}
use Rattle.capture.specs.declared.captured.Stored.{Stored}
use Rattle.archive_shelf.specs.Comparing.{RefersBy, HasWhole, KeepsWire}
use Rattle.archive_shelf.specs.Laws.{FirstKeepsItsWire, IsOriginal, LookedStaysRight}

-- what stands in a list stands there when the list goes on
get_later : (xs ys : List Stored) (k : ℕ) (x : Stored) → slice_get xs k ≡ Some x → slice_get (xs ++ ys) k ≡ Some x
get_later [] ys k x e = cc
get_later (y ∷ xs) ys zero x e = e
get_later (y ∷ xs) ys (suc k) x e = get_later xs ys k x e

-- and what stands below the length of its front stood in the front
get_before : (xs ys : List Stored) (k : ℕ) (x : Stored) → k < length xs → slice_get (xs ++ ys) k ≡ Some x → slice_get xs k ≡ Some x
get_before [] ys k x less e = absurd (omega (arith, less))
get_before (y ∷ xs) ys zero x less e = e
get_before (y ∷ xs) ys (suc k) x less e = get_before xs ys k x (omega (arith, less)) e

-- a book whose captures are those of another one, and others behind them
module _ (old new : Book) (added : List Stored) (is : captures new ≡ captures old ++ added) where
  pub placed_later : (k : ℕ) (x : Stored) → slice_get (captures old) k ≡ Some x → slice_get (captures new) k ≡ Some x
  placed_later k x e = ap (λ (all : List Stored). slice_get all k) is ∙ get_later (captures old) added k x e

  pub placed_before : (k : ℕ) (x : Stored) → k < length (captures old) → slice_get (captures new) k ≡ Some x → slice_get (captures old) k ≡ Some x
  placed_before k x less e = get_before (captures old) added k x less (sym (ap (λ (all : List Stored). slice_get all k) is) ∙ e)

  pub payload_later : (stored : Stored) (kept : Kept) (payload : List ℕ) → IsPayloadBy old stored kept payload → IsPayloadBy new stored kept payload
  payload_later stored (Wire wire) payload has = has
  payload_later stored (Same first) payload has = (
    has.0,
    has.1,
    record { placed = placed_later first has.0 has.2.placed; kept = has.2.kept; has = has.2.has },
  )
  payload_later stored (Cut wire) payload has = has

  payload_before : (number : ℕ) (stored : Stored) (kept : Kept) (payload : List ℕ) → number < length (captures old)
      → IsSoundBy old number stored kept → IsPayloadBy new stored kept payload → IsPayloadBy old stored kept payload
  payload_before number stored (Wire wire) payload less sound has = has
  payload_before number stored (Same first) payload less sound has = (
    has.0,
    has.1,
    record { placed = placed_before first has.0 (omega (arith, sound.earlier, less)) has.2.placed; kept = has.2.kept; has = has.2.has },
  )
  payload_before number stored (Cut wire) payload less sound has = has

  whole_later : (number : ℕ) (payload : List ℕ) → HasWhole old number payload → HasWhole new number payload
  whole_later number payload was = record {
    has = record {
      stored = was.has.stored;
      placed = placed_later number was.has.stored was.has.placed;
      by_kept = payload_later was.has.stored was.has.stored.kept payload was.has.by_kept;
    };
    whole = was.whole;
  }

  whole_before : (number : ℕ) (payload : List ℕ) → HasSoundCaptures old → number < length (captures old) → HasWhole new number payload → HasWhole old number payload
  whole_before number payload sound less is_now =
      let placed : slice_get (captures old) number ≡ Some is_now.has.stored = placed_before number is_now.has.stored less is_now.has.placed in
      record {
        has = record {
          stored = is_now.has.stored;
          placed = placed;
          by_kept = payload_before number is_now.has.stored is_now.has.stored.kept payload less
              (sound.each number is_now.has.stored placed).kept is_now.has.by_kept;
        };
        whole = is_now.whole;
      }

  earlier_later : (upto : ℕ) (same : Option ℕ) → IfSome same (λ number. (number < upto) × KeepsWire old number)
      → IfSome same (λ number. (number < upto) × KeepsWire new number)
  earlier_later upto None was = was
  earlier_later upto (Some number) was = (
    was.0,
    record { stored = was.1.stored; wire = was.1.wire; placed = placed_later number was.1.stored was.1.placed; kept = was.1.kept },
  )

  finds_later : (upto : ℕ) (payload : List ℕ) (same : Option ℕ) → HasSoundCaptures old → upto ≤ length (captures old)
      → RefersBy false old upto payload same → RefersBy false new upto payload same
  finds_later upto payload (Some number) sound within found = (
    found.0,
    found.1,
    whole_later number payload found.2,
    λ other does. ⊎_elim
        (λ (less : other < number). found.3 other (whole_before other payload sound (omega (arith, less, within, found.1)) does))
        (λ (le : number ≤ other). le)
        (cases_lt other number),
  )
  finds_later upto payload None sound within found =
      λ some number less does. found some number less (whole_before number payload sound (omega (arith, less, within)) does)

pub looked_stays_right : GrowthKeepsCaptures → LookedStaysRight
looked_stays_right keeps tells old new payload looked sound grow right =
    let more = keeps old new grow in record {
      within = omega (arith, right.within, ap length more.1, length-append (captures old) more.0);
      earlier = earlier_later old new more.0 more.1 looked.upto looked.same right.earlier;
      finds = λ told. finds_later old new more.0 more.1 looked.upto payload looked.same (sound told) right.within (right.finds told);
    }

-- what the first capture with a payload keeps is its wire: where it kept a number, that capture would come before it
original_by : (book : Book) (number : ℕ) (payload : List ℕ) (stored : Stored) → HasSoundCaptures book
    → ((other : ℕ) → HasWhole book other payload → number ≤ other) → slice_get (captures book) number ≡ Some stored
    → (kept : Kept) → stored.kept ≡ kept → IsSoundBy book number stored kept → IsPayloadBy book stored kept payload → is_cut kept ≡ false
    → IsOriginal book number payload
original_by book number payload stored sound first placed (Wire wire) is good has whole =
    record { stored = stored; wire = wire; keeps = record { placed = placed; kept = is; has = has } }
original_by book number payload stored sound first placed (Same earlier) is good has whole =
    let le : number ≤ earlier = first earlier (record {
      has = record {
        stored = has.0;
        placed = has.2.placed;
        by_kept = subst (λ (kept : Kept). IsPayloadBy book has.0 kept payload) (sym has.2.kept) has.2.has;
      };
      whole = ap is_cut has.2.kept;
    }) in
    absurd (omega (arith, le, good.earlier))
original_by book number payload stored sound first placed (Cut wire) is good has whole = cc

pub first_keeps_its_wire : FirstKeepsItsWire
first_keeps_its_wire book number payload sound is first =
    let has = is.has in
    original_by book number payload has.stored sound first has.placed has.stored.kept refl
    (sound.each number has.stored has.placed).kept has.by_kept is.whole
