-- What images do in one step after another.
use Rattle.std.proofs.Common.{◌≡◌, ◌⊎◌, inl, inr, ℕ, ◌≤◌, IsTrue, List, [], ◌∷◌, refl, ◌∙◌, ap, arith}
use Rattle.std.proofs.lemmas.List.Elements.{Contains-append_left, Contains-append_right}
use Rattle.archive_shelf.proofs.CallLaws.{no_more, opened_before}
use Rattle.archive_shelf.specs.Openings.{IsEarlier, LeavesNoMore}
use Rattle.archive_shelf.specs.Told.{Told}
use Rattle.capture.specs.declared.book.Book.{Book}
use Rattle.warc_journal.specs.Extents.{cdxj_files}
use Rattle.request_answer.specs.Images.{Deed, NoDeed, Stores, IsDenied, deed_of, OpensBehind, OpensAtLast, KeepsImages}
use Rattle.request_answer.specs.Rounds.{Round}
use Rattle.request_answer.specs.Traces.{Terms, Traces}

up : (a b c : ℕ) → a ≤ b → b ≤ c → a ≤ c
up a b c h k = omega (arith, h, k)

-- of more books before, more may be opened behind
behind_more : (terms : Terms) (traces : Traces) (deed : Deed) (P Q : Book → Type 0) → ((x : Book) → P x → Q x)
    → (x : Book) → OpensBehind terms traces deed P x → OpensBehind terms traces deed Q x
behind_more terms traces NoDeed P Q f x h = f x h
behind_more terms traces (Stores e received) P Q f x h = h
behind_more terms traces (IsDenied e) P Q f x (inl (stays, h)) = inl (stays, f x h)
behind_more terms traces (IsDenied e) P Q f x (inr h) = inr h

pub opens_more : (terms : Terms) (rounds : List Round) (P Q : Book → Type 0) → ((x : Book) → P x → Q x)
    → (x : Book) → OpensAtLast terms P rounds x → OpensAtLast terms Q rounds x
opens_more terms [] P Q f x h = f x h
opens_more terms (r ∷ rounds) P Q f x h =
    opens_more terms rounds (OpensBehind terms r.traces (deed_of r.outcome) P) (OpensBehind terms r.traces (deed_of r.outcome) Q)
    (behind_more terms r.traces (deed_of r.outcome) P Q f) x h

passed_on : {P Q R T : Type 0} → P ⊎ T → (P → Q ⊎ (R ⊎ ⊥)) → Q ⊎ (R ⊎ T)
passed_on (inl p) f = elim (f p) [ inl q ↦ inl q | inr x ↦ elim x [ inl r ↦ inr (inl r) | inr bad ↦ absurd bad ] ]
passed_on (inr t) f = inr (inr t)

-- images through a round, and then through others
pub images_both : (terms : Terms) (r : Round) (rounds : List Round) (was mid is : Told)
    → KeepsImages terms (r ∷ []) was mid → KeepsImages terms rounds mid is → KeepsImages terms (r ∷ rounds) was is
images_both terms r rounds was mid is h k = record {
  later = up was.crash.moment mid.crash.moment is.crash.moment h.later k.later;
  covered = λ t le c. k.covered t (up t was.crash.moment mid.crash.moment le h.later) (h.covered t le c);
  reading = λ is_alone tells none. k.reading is_alone tells (λ x there. none x (Contains-append_right (r ∷ []) rounds x there))
      ∙ h.reading is_alone tells (λ x there. none x (Contains-append_left (r ∷ []) rounds x there));
  checkpoints = λ is_alone tells. k.checkpoints is_alone tells ∙ h.checkpoints is_alone tells;
  opened = λ is_alone ids t x le o. passed_on (k.opened is_alone ids.1 t x (up t was.crash.moment mid.crash.moment le h.later) o)
      (λ p. h.opened is_alone (ids.0, tt) t x le p);
  left = λ is_alone tells ids x o. opens_more terms rounds (λ b. mid.crash.openings mid.crash.moment b)
      (OpensBehind terms r.traces (deed_of r.outcome) (λ b. was.crash.openings was.crash.moment b))
      (λ b p. h.left is_alone tells (ids.0, tt) b p) x (k.left is_alone tells ids.1 x o);
}

-- nothing was done
pub images_none : (terms : Terms) (shelf : Told) → KeepsImages terms [] shelf shelf
images_none terms shelf = record {
  later = omega arith;
  covered = λ t le c. c;
  reading = λ is_alone tells none. refl;
  checkpoints = λ is_alone tells. refl;
  opened = λ is_alone ids t x le o. inl o;
  left = λ is_alone tells ids x o. o;
}

-- images from before a call that wrote nothing
pub images_behind : (terms : Terms) (rounds : List Round) (was mid is : Told) → IsEarlier mid.crash
    → (IsTrue terms.alone → IsTrue terms.tells → mid.reading ≡ was.reading) → LeavesNoMore was.crash mid.crash
    → KeepsImages terms rounds mid is → KeepsImages terms rounds was is
images_behind terms rounds was mid is earlier reading h k = record {
  later = up was.crash.moment mid.crash.moment is.crash.moment h.later k.later;
  covered = λ t le c. k.covered t (up t was.crash.moment mid.crash.moment le h.later) (h.covered t le c);
  reading = λ is_alone tells none. k.reading is_alone tells none ∙ reading is_alone tells;
  checkpoints = λ is_alone tells. k.checkpoints is_alone tells ∙ ap cdxj_files (reading is_alone tells);
  opened = λ is_alone ids t x le o. elim (k.opened is_alone ids t x (up t was.crash.moment mid.crash.moment le h.later) o) [
    | inl p ↦ inl (no_more (h.moves t x le p))
    | inr m ↦ inr m
  ];
  left = λ is_alone tells ids x o. opens_more terms rounds (λ b. mid.crash.openings mid.crash.moment b) (λ b. was.crash.openings was.crash.moment b)
      (opened_before was.crash mid.crash earlier h) x (k.left is_alone tells ids x o);
}
