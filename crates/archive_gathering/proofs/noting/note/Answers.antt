use Rattle.std.proofs.Common.{◌≡◌, ℕ, ◌+◌, List, Option, Some, None, refl, sym, ap, subst, ◌∙◌, arith}
use Rattle.std.specs.Prelude.{IfOk, Result, Ok, Err}
use Rattle.httparse.specs.Grammar as grammar
use Rattle.capture.specs.Target.{IsAcceptedAs}
use Rattle.capture.specs.declared.captured.Stored.{Stored}
use Rattle.index_entry.specs.Facts.{Facts}
use Rattle.warc_journal.specs.declared.place.Place.{Place}
use Rattle.warc_scan.specs.declared.group.Group.{Group}
use Rattle.archive_volumes.specs.Entries.{EntersAs}
use Rattle.archive_volumes.specs.declared.entry.RecordAt.{RecordAt}
use Rattle.archive_gathering.specs.Noting.{IsNoted, noted_by, record_at, referring}
use Rattle.archive_gathering.specs.declared.noting.Noted.{Noted}
use Rattle.archive_gathering.proofs.MeasuringLaws.{kept_length}
use Rattle.archive_gathering.proofs.PlaceLaws.{first_within}
use Rattle.archive_gathering.proofs.noting.note.Goals as goal

pub overflow_add-head_at : goal.overflow_add-head_at
overflow_add-head_at c =
    let places = c.requires.found.is.places in
    omega (arith, c.requires.ends, places.head, places.first_len, places.len, first_within c.requires.found.namespace c.requires.found.number c.requires.found.text c.args.read.group c.requires.found.is)

-- what was noted with the entry that was made
noted_with : {E : Type 0} (h : grammar.ResponseHead) (place : Place) (group : Group) (first : Option ℕ) (stored : Stored) (at : RecordAt) (head_at len : ℕ)
    (entry : Result (Option Facts) E) (result : Result Noted E) → IfOk entry (EntersAs stored h at)
    → ((made : Option Facts) → EntersAs stored h at made → IsNoted h place group first (noted_by stored at head_at len made))
    → IfOk result (λ noted. entry ≡ Ok noted.entry) → IfOk result (λ noted. noted ≡ noted_by stored at head_at len noted.entry)
    → IfOk result (IsNoted h place group first)
noted_with {E} h place group first stored at head_at len entry (Ok noted) enters makes entered made =
    subst (λ (n : Noted). IsNoted h place group first n) (sym made)
    (makes noted.entry (subst (λ (r : Result (Option Facts) E). IfOk r (EntersAs stored h at)) entered enters))
noted_with {E} h place group first stored at head_at len entry (Err fault) enters makes entered made = tt

pub returns : goal.returns
returns c = λ h of.
    let place = c.args.place.now in
    let group = c.args.read.group in
    let stored = c.refer-stored.result in
    noted_with h place group c.args.first stored (record_at place group) (place.at + group.head_at) group.payload_len c.entry_of-entry.result c.noted_of.result
    (c.entry_of-entry.ensures group.stored.head h of)
    (λ made enters. record {
      stored = c.refer-stored.ensures;
      digest = refl;
      volume = refl;
      at = refl;
      head_at = refl;
      length = λ wire kept. kept_length c.wires_have_one_payload.ensures.one group c.requires.found.is.payload_len c.args.first _ c.refer-stored.ensures wire kept;
      fits = omega arith;
      entry = enters;
    })
    c.noted_of.ensures.entered c.noted_of.ensures.made

-- a capture that refers to another has its own target
same_target : (stored : Stored) (first : Option ℕ) → (referring stored first).uri ≡ stored.uri
same_target stored None = refl
same_target stored (Some first) = refl

pub entry_of-entry-requires-clause-target : goal.entry_of-entry-requires-clause-target
entry_of-entry-requires-clause-target c =
    let own = c.args.read.group.stored in
    let same : c.refer-stored.result.uri ≡ own.uri = ap (λ (s : Stored). s.uri) c.refer-stored.ensures ∙ same_target own c.args.first in
    subst (λ (u : List ℕ). IsAcceptedAs u c.args.read.url) (sym same) c.requires.parsed.target
