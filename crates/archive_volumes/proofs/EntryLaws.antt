-- An entry, as it is made of what is told of its capture.
use Rattle.std.proofs.Common.{◌≡◌, ◌≢◌, ℕ, Bool, true, false, not, List, bytes_eq, codes, Option, Some, None, Result, Ok, Err, refl, sym, ap, ◌∙◌}
use Rattle.std.proofs.lemmas.Slice.Eq.{bytes_eq-Decides}
use Rattle.std.specs.Prelude.{IfOk}
use Rattle.httparse.specs.Grammar.{ResponseHead, status_code}
use Rattle.capture.specs.Fields.{named_values}
use Rattle.capture.specs.declared.captured.Stored.{Stored}
use Rattle.index_entry.specs.Facts.{Facts}
use Rattle.index_entry.specs.OfBook.{mime_by}
use Rattle.archive_volumes.specs.Entries.{EntersAs, IsToldAs, told_facts}
use Rattle.archive_volumes.specs.declared.entry.RecordAt.{RecordAt}

pub told_so : (stored : Stored) (head : ResponseHead) (at : RecordAt) (key : List ℕ) (date : ℕ) (uri mime : List ℕ) (status : ℕ)
    → date ≡ stored.date → uri ≡ stored.uri → mime ≡ mime_by stored.kept (named_values head.fields) → status ≡ status_code head
    → record {
      key = key;
      date = date;
      number = at.number;
      uri = uri;
      mime = mime;
      status = status;
      digest = at.digest;
      volume = at.volume;
      offset = at.offset;
      length = at.len;
    } ≡ told_facts stored head at key
told_so stored head at key date uri mime status date_is uri_is mime_is status_is i = record {
  key = key;
  date = date_is i;
  number = at.number;
  uri = uri_is i;
  mime = mime_is i;
  status = status_is i;
  digest = at.digest;
  volume = at.volume;
  offset = at.offset;
  length = at.len;
}

enters_told : (stored : Stored) (head : ResponseHead) (at : RecordAt) (entry : Option Facts) → stored.method ≡ codes "GET" → status_code head ≢ 304
    → IsToldAs stored head at entry → EntersAs stored head at entry
enters_told stored head at (Some entry) get changed told =
    let is = told.2 in
    record {
      asked = get;
      told = changed;
      keyed = told.1 ∙ ap (λ (f : Facts). Some f.key) (sym is);
      date = ap (λ (f : Facts). f.date) is;
      number = ap (λ (f : Facts). f.number) is;
      uri = ap (λ (f : Facts). f.uri) is;
      mime = ap (λ (f : Facts). f.mime) is;
      status = ap (λ (f : Facts). f.status) is;
      digest = ap (λ (f : Facts). f.digest) is;
      volume = ap (λ (f : Facts). f.volume) is;
      offset = ap (λ (f : Facts). f.offset) is;
      len = ap (λ (f : Facts). f.length) is;
    }
enters_told stored head at None get changed none = record { none = λ asked told. none }

pub enters : {E : Type 0} (stored : Stored) (head : ResponseHead) (at : RecordAt) (result : Result (Option Facts) E) → stored.method ≡ codes "GET"
    → status_code head ≢ 304 → IfOk result (IsToldAs stored head at) → IfOk result (EntersAs stored head at)
enters stored head at (Ok entry) get changed told = enters_told stored head at entry get changed told
enters stored head at (Err fault) get changed told = tt

-- a method that isn't another than GET
same_unless_other : (b : Bool) → false ≡ not b → b ≡ true
same_unless_other true is = refl
same_unless_other false is = is

pub is_get : (method get : List ℕ) → get ≡ codes "GET" → false ≡ not (bytes_eq method get) → method ≡ codes "GET"
is_get method get is other = (bytes_eq-Decides method get).0 (same_unless_other (bytes_eq method get) other) ∙ is
