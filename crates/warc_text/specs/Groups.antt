-- What tells a group from another of its number.
use Rattle.std.specs.Prelude.{◌≡◌, ◌≢◌, ℕ, ◌<◌, ◌^◌, Bool, false, List, [], ◌++◌, length, All, Option, Some, None, IfSome}
use Rattle.httparse.specs.Ascii.{carriage_return}
use Rattle.digest32.specs.Base32.{IsDigest}
use Rattle.capture.specs.WellFormed.{IsRequestOf, RespondsTo}
use Rattle.capture.specs.declared.captured.Taken.{Taken}
use Rattle.warc_text.specs.declared.same_of.SameOf.{SameOf}
use Rattle.warc_text.specs.declared.id.IdKind.TheVariants.{Response}
use Rattle.warc_text.specs.Ids.{IsUuid, id_of}
use Rattle.warc_text.specs.Records.{group_text}
use Rattle.warc_text.specs.References.{Reference, reference_of}

-- no end of a line stands in the text
abbrev pub IsOneLine : List ℕ → Type 0
IsOneLine text = All (λ byte. byte ≢ carriage_return) text

-- a reference as a revisit has it
pub record IsReference (reference : Reference) : Type 0 where
  pub id : IsUuid reference.id
  pub uri : IsOneLine reference.uri

-- a capture, a digest and what is referred to, as a group has them
pub record IsWritable (taken : Taken) (digest : List ℕ) (same : Option Reference) : Type 0 where
  pub target : IsOneLine taken.uri
  pub payload_digest : IsDigest digest
  pub head : length taken.head < 2 ^ 63
  pub wire : length taken.wire < 2 ^ 63
  pub request : length taken.request < 2 ^ 63
  pub refers_to : IfSome same IsReference

-- the block of a capture's response or revisit
abbrev pub answer_block : Taken → Option Reference → List ℕ
answer_block taken None = taken.head ++ taken.wire
answer_block taken (Some reference) = taken.head

-- whether its response is marked as cut
abbrev pub answer_cut : Taken → Option Reference → Bool
answer_cut taken None = taken.cut
answer_cut taken (Some reference) = false

-- all that a group says of two captures is the same
pub record SayTheSame (x y : Taken) (d e : List ℕ) (s t : Option Reference) : Type 0 where
  pub date : x.date ≡ y.date
  pub target : x.uri ≡ y.uri
  pub payload_digest : d ≡ e
  pub refers : s ≡ t
  pub cut : answer_cut x s ≡ answer_cut y t
  pub block : answer_block x s ≡ answer_block y t
  pub request : x.request ≡ y.request

-- group texts of one number are equal only where they say the same
abbrev pub GroupsTellTheirCaptures : Type 0
GroupsTellTheirCaptures =
    (namespace : List ℕ) (number : ℕ) (x y : Taken) (d e : List ℕ) (s t : Option Reference)
    → IsWritable x d s → IsWritable y e t
    → group_text namespace number x d s ≡ group_text namespace number y e t
    → SayTheSame x y d e s t

-- the request is whole, and of a group that refers to nothing the response is whole, or cut, as is told
pub record HasMessages (taken : Taken) (same : Option Reference) : Type 0 where
  pub request : IsRequestOf taken.method taken.request
  pub response : same ≡ None → RespondsTo taken.cut taken.method taken.head taken.wire

-- a capture without its wire, which is all that a revisit has of it
abbrev pub without_wire : Taken → Taken
without_wire taken = record taken { wire = []; cut = false }

-- the captures are equal, but for the wire where they refer to another
abbrev pub AreOneCapture : Option Reference → Taken → Taken → Type 0
AreOneCapture None x y = x ≡ y
AreOneCapture (Some reference) x y = without_wire x ≡ without_wire y

-- the groups are of equal captures, with one digest, and refer to one record or to none
pub record AreOfEqualCaptures (x y : Taken) (d e : List ℕ) (s t : Option Reference) : Type 0 where
  pub captures : AreOneCapture s x y
  pub payload_digest : d ≡ e
  pub refers : s ≡ t

-- where the messages are whole or cut, group texts of one number are equal only for equal captures
abbrev pub EqualGroupsAreOfEqualCaptures : Type 0
EqualGroupsAreOfEqualCaptures =
    (namespace : List ℕ) (number : ℕ) (x y : Taken) (d e : List ℕ) (s t : Option Reference)
    → IsWritable x d s → IsWritable y e t → HasMessages x s → HasMessages y t
    → group_text namespace number x d s ≡ group_text namespace number y e t
    → AreOfEqualCaptures x y d e s t

-- with the number given, no group's text is a proper prefix of another's: where texts that begin with one are equal,
-- the groups are equal, and so is what follows them
abbrev pub GroupsArePrefixFree : Type 0
GroupsArePrefixFree =
    (namespace : List ℕ) (number : ℕ) (x y : Taken) (d e : List ℕ) (s t : Option Reference) (after other : List ℕ)
    → IsWritable x d s → IsWritable y e t
    → group_text namespace number x d s ++ after ≡ group_text namespace number y e t ++ other
    → (group_text namespace number x d s ≡ group_text namespace number y e t) × (after ≡ other)

-- the ids of the responses of the first so many captures differ
abbrev pub IdsDiffer : List ℕ → ℕ → Type 0
IdsDiffer namespace count =
    (m n : ℕ) → m < count → n < count → id_of namespace Response m ≡ id_of namespace Response n → m ≡ n

-- what is referred to is one of the first so many captures
abbrev pub RefersBelow : ℕ → Option SameOf → Type 0
RefersBelow count same = IfSome same (λ s. s.number < count)

-- where the ids differ, references are equal only to one capture
abbrev pub ReferencesTellTheirCaptures : Type 0
ReferencesTellTheirCaptures =
    (namespace : List ℕ) (count : ℕ) (s t : Option SameOf) → IdsDiffer namespace count
    → RefersBelow count s → RefersBelow count t
    → reference_of namespace s ≡ reference_of namespace t → s ≡ t
