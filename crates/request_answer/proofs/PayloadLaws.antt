-- A capture that was stored has its payload, under its number.
use Rattle.std.proofs.Common.{◌≡◌, ℕ, Bool, true, false, List, [], ◌∷◌, ◌++◌, length, Option, Some, None, refl, sym, ◌∙◌, ap, arith, length-append}
use Rattle.std.specs.Prelude.{slice_get}
use Rattle.std.proofs.lemmas.Option.{slice_get_read}
use Rattle.std.proofs.Math.Seq.{get_or-append_seam}
use Rattle.archive_shelf.specs.Comparing.{RefersBy}
use Rattle.archive_shelf.specs.Laws.{GainsGrow, GainsStandBehind, StoringGains}
use Rattle.archive_shelf.specs.Storing.{Storing, as_stored, kept_of, stored_by}
use Rattle.capture.specs.BodyLaws.{CapturesHaveOnePayload}
use Rattle.capture.specs.Captures.{captures, HasPayload, IsPayloadOf, IsPayloadBy, KeepsPayload}
use Rattle.capture.specs.Growth.{Grows}
use Rattle.capture.specs.GrowthLaws.{GrowthKeepsPayloads}
use Rattle.capture.specs.Soundness.{HasSoundCaptures}
use Rattle.capture.specs.declared.book.Book.{Book}
use Rattle.capture.specs.declared.captured.Kept.TheVariants.{Wire}
use Rattle.capture.specs.declared.captured.Stored.{Stored}
use Rattle.capture.specs.declared.captured.Taken.{Taken}
use Rattle.request_answer.specs.Laws.{StoredCapturesHaveTheirPayload}

-- what lower crates promise of captures and payloads
pub record Storage : Type 0 where
  pub storing : StoringGains
  pub behind : GainsStandBehind
  pub grow : GainsGrow
  pub payloads : GrowthKeepsPayloads
  pub one : CapturesHaveOnePayload

-- ---- a whole wire has one payload

abbrev alone : Taken → Book
alone taken = record {
  namespace = [];
  volumes = record {
    born = 0;
    captures = record {
      method = taken.method;
      uri = taken.uri;
      date = taken.date;
      request = taken.request;
      head = taken.head;
      kept = Wire taken.wire;
    } ∷ [];
  } ∷ [];
}

whole_of : (taken : Taken) (payload : List ℕ) → HasPayload false taken.method taken.head taken.wire payload → IsPayloadOf (alone taken) 0 payload
whole_of taken payload has = record { stored = _; placed = refl; by_kept = has }

one_whole : Storage → (taken : Taken) (payload other : List ℕ) → HasPayload false taken.method taken.head taken.wire payload
    → HasPayload false taken.method taken.head taken.wire other → payload ≡ other
one_whole laws taken payload other has has_other =
    laws.one (alone taken) 0 payload other (whole_of taken payload has) (whole_of taken other has_other)

-- ---- the place of the capture

at_seam : (xs : List Stored) (y : Stored) → slice_get (xs ++ y ∷ []) (length xs) ≡ Some y
at_seam xs y = slice_get_read (xs ++ y ∷ []) (length (xs ++ y ∷ [])) (length xs) y refl (omega (arith, length-append xs (y ∷ []))) (sym (get_or-append_seam xs y [] y))

placed_at : (book after : Book) (stored : Stored) → captures after ≡ captures book ++ stored ∷ []
    → slice_get (captures after) (length (captures book)) ≡ Some stored
placed_at book after stored e = ap (λ (xs : List Stored). slice_get xs (length (captures book))) e ∙ at_seam (captures book) stored

-- ---- what is kept

-- a capture that keeps another one's number
abbrev as_revisit : Taken → ℕ → Stored
as_revisit taken first = as_stored (record taken { cut = false }) (Some first)

-- a capture that refers to another one, which a sound book keeps
revisit_has : Storage → (book after : Book) (taken : Taken) (first : ℕ) (payload : List ℕ) → Grows book after → HasSoundCaptures after
    → slice_get (captures after) (length (captures book)) ≡ Some (as_revisit taken first)
    → (known : List ℕ) → HasPayload false taken.method taken.head taken.wire known → IsPayloadOf book first known
    → HasPayload false taken.method taken.head taken.wire payload
    → (original : Stored) × (wire : List ℕ) × KeepsPayload after first original wire payload
revisit_has laws book after taken first payload grown sound placed known has_known of_first has =
    let revisit = (sound.each (length (captures book)) (as_revisit taken first) placed).kept in
    let same : revisit.payload ≡ payload =
    laws.one after first revisit.payload known (record { stored = revisit.original; placed = revisit.keeps.placed; by_kept = rw revisit.keeps.kept revisit.keeps.has })
    (laws.payloads book after first known grown of_first)
    ∙ one_whole laws taken known payload has_known has in
    (revisit.original, revisit.wire, rw same at revisit.keeps)

kept_has : Storage → (book after : Book) (taken : Taken) (cut : Bool) (same : Option ℕ) (payload known : List ℕ) → taken.cut ≡ cut
    → Grows book after → HasSoundCaptures after
    → slice_get (captures after) (length (captures book)) ≡ Some (record (as_stored taken same) { kept = kept_of cut taken.wire same })
    → HasPayload cut taken.method taken.head taken.wire known → RefersBy cut book (length (captures book)) known same
    → HasPayload cut taken.method taken.head taken.wire payload
    → IsPayloadBy after (record (as_stored taken same) { kept = kept_of cut taken.wire same }) (kept_of cut taken.wire same) payload
kept_has laws book after taken true same payload known e grown sound placed has_known refers has = has
kept_has laws book after taken false None payload known e grown sound placed has_known refers has = has
kept_has laws book after taken false (Some first) payload known e grown sound placed has_known refers has =
    revisit_has laws book after taken first payload grown sound placed known has_known refers.2.has has

by_rule : Storage → (limit : ℕ) (book : Book) (taken : Taken) (storing : Storing limit book taken) (after : Book) (payload : List ℕ)
    → after ≡ stored_by storing → HasPayload taken.cut taken.method taken.head taken.wire payload → HasSoundCaptures after
    → IsPayloadOf after (length (captures book)) payload
by_rule laws limit book taken storing after payload e has sound =
    let gains = rw (sym e) at (laws.storing limit book taken storing) in
    let placed : slice_get (captures after) (length (captures book)) ≡ Some (as_stored taken storing.same) =
    placed_at book after (as_stored taken storing.same) (laws.behind book after (as_stored taken storing.same) gains) in
    record {
      stored = as_stored taken storing.same;
      placed = placed;
      by_kept = kept_has laws book after taken taken.cut storing.same payload storing.refers.payload refl
          (laws.grow book after (as_stored taken storing.same) gains) sound placed storing.refers.has storing.refers.refers has;
    }

pub stored_payloads : Storage → StoredCapturesHaveTheirPayload
stored_payloads laws limit book taken receipt after payload rule has sound =
    by_rule laws limit book taken rule.0 after payload rule.2 has sound
