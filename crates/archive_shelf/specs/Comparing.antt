-- Which earlier capture has a payload that is to be stored. Payloads are equal byte for byte; digests decide nothing.
use Rattle.std.specs.Prelude.{◌≡◌, ◌≢◌, ℕ, ◌<◌, ◌≤◌, Bool, true, false, IsTrue, IfSome, List, [], length, slice_get, Contains, Option, Some, None}
use Rattle.sha1.specs.Sha1.{sha1}
use Rattle.capture.specs.Captures.{captures, is_cut, HasPayload, IsPayloadOf}
use Rattle.capture.specs.declared.book.Book.{Book}
use Rattle.capture.specs.declared.captured.Kept.TheVariants.{Wire}
use Rattle.capture.specs.declared.captured.Stored.{Stored}
use Rattle.capture.specs.declared.captured.Taken.{Taken}
use Rattle.index_entry.specs.Facts.{Facts}
use Rattle.archive_shelf.specs.declared.looked.Looked.{Looked}

-- the capture with this number has the payload, and wasn't cut
pub record HasWhole (book : Book) (number : ℕ) (payload : List ℕ) : Type 0 where
  pub has : IsPayloadOf book number payload
  pub whole : is_cut has.stored.kept ≡ false

-- Which capture one refers to: none where it was cut; else, among those below a number, the first with its payload, or there is none. An empty
-- payload isn't looked for.
abbrev pub RefersBy : Bool → Book → ℕ → List ℕ → Option ℕ → Type 0
RefersBy true book upto payload same = same ≡ None
RefersBy false book upto payload (Some number) =
    (payload ≢ []) × (number < upto) × HasWhole book number payload × ((other : ℕ) → HasWhole book other payload → number ≤ other)
RefersBy false book upto payload None = payload ≢ [] → (number : ℕ) → number < upto → HasWhole book number payload → ⊥

-- the capture with this number keeps its whole wire
pub record KeepsWire (book : Book) (number : ℕ) : Type 0 where
  pub stored : Stored
  pub wire : List ℕ
  pub placed : slice_get (captures book) number ≡ Some stored
  pub kept : stored.kept ≡ Wire wire

-- What was found of a payload so far is right, where the disk tells what it holds; of each disk it is at most an earlier
-- capture that keeps its whole wire.
pub record IsRight (tells : Bool) (book : Book) (payload : List ℕ) (looked : Looked) : Type 0 where
  pub within : looked.upto ≤ length (captures book)
  pub earlier : IfSome looked.same (λ number. (number < looked.upto) × KeepsWire book number)
  pub finds : IsTrue tells → RefersBy false book looked.upto payload looked.same

-- what a capture may refer to, whatever the disk tells: nothing where it was cut, else a capture that keeps its whole wire
abbrev pub CanRefer : Bool → Book → Option ℕ → Type 0
CanRefer true book same = same ≡ None
CanRefer false book same = IfSome same (λ number. KeepsWire book number)

-- the capture of the book that this one refers to, if there is one
pub record IsSameAs (book : Book) (taken : Taken) (same : Option ℕ) : Type 0 where
  pub payload : List ℕ
  pub has : HasPayload taken.cut taken.method taken.head taken.wire payload
  pub refers : RefersBy taken.cut book (length (captures book)) payload same

-- ---- by digests, whatever the disk tells

-- the digest is that of the payload which the capture with this number has in the book
abbrev pub HasDigestOf : Book → ℕ → List ℕ → Type 0
HasDigestOf book number digest = (payload : List ℕ) × IsPayloadOf book number payload × (digest ≡ sha1 payload)

-- the book has the request of the capture with this number: it has none of one of which a line of a checkpoint alone told
abbrev pub HasRequest : Book → ℕ → Type 0
HasRequest book number = (stored : Stored) × (slice_get (captures book) number ≡ Some stored) × (stored.request ≢ [])

-- What a new capture refers to has the digest of its payload: the book's capture has, where the book has the request of that;
abbrev pub RefersByDigest : Book → Taken → Option ℕ → Type 0
RefersByDigest book taken same =
    (payload : List ℕ) → HasPayload taken.cut taken.method taken.head taken.wire payload
    → IfSome same (λ number. HasRequest book number → HasDigestOf book number (sha1 payload))

-- and each of these entries under its number tells it.
abbrev pub RefersAsShown : List Facts → Taken → Option ℕ → Type 0
RefersAsShown entries taken same =
    (payload : List ℕ) → HasPayload taken.cut taken.method taken.head taken.wire payload
    → IfSome same (λ number. (entry : Facts) → Contains entries entry → entry.number ≡ number → entry.digest ≡ sha1 payload)
