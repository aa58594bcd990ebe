-- A group that is found by its openings and its blocks, and the group that these make.
use Rattle.std.specs.Prelude.{◌≡◌, ℕ, ◌+◌, ◌<◌, ◌≤◌, ◌^◌, List, ◌++◌, length, ⊤}
use Rattle.capture.specs.Target.{IsAcceptedAs}
use Rattle.capture.specs.WellFormed.{IsRequestOf}
use Rattle.warc_text.specs.Ids.{id_of}
use Rattle.warc_text.specs.Lines.{ended}
use Rattle.warc_text.specs.Records.{request_opening}
use Rattle.warc_text.specs.declared.id.IdKind.TheVariants as ids
use Rattle.record_opening.specs.Openings.{IsOpening, opening_of, opening_text}
use Rattle.record_opening.specs.declared.no_record.NoRecord.{NoRecord}
use Rattle.record_opening.specs.declared.no_record.NoRecord.TheVariants as no_record
use Rattle.record_opening.specs.declared.stop.Stop.{Stop}
use Rattle.record_opening.specs.declared.stop.Stop.TheVariants.{Open, Until, Wrong, Memory}
use Rattle.warc_scan.specs.steps.Responses.{IsAnswerOf, IsRead, kept_by}
use Rattle.warc_scan.specs.Groups.{HasPayloadLen, reference_in}
use Rattle.warc_scan.specs.declared.group.Group.{Group}
use Rattle.warc_scan.specs.declared.answer.Answer.{Answer}
use Rattle.warc_scan.specs.declared.copy.Copies.{Copies}
use Rattle.warc_scan.specs.declared.find.Found.{Found}
use Rattle.warc_scan.specs.declared.find.Read.{Read}
use Rattle.warc_scan.specs.declared.group_step.GroupStep.{GroupStep}
use Rattle.warc_scan.specs.declared.group_step.GroupStep.TheVariants as group_step
use Rattle.warc_scan.specs.Asking.{EndsInOpening, EndsInBlock}
use Rattle.warc_scan.specs.declared.outline.Outline.{Outline}
use Rattle.warc_scan.specs.Outlines.{IsOutlineOf}

-- its response or revisit record
abbrev pub first_record : List ℕ → ℕ → Found → List ℕ
first_record namespace number found =
    opening_text (id_of namespace ids.Response number) (opening_of found.opening) ++ ended found.answer.now

-- its request record
abbrev pub second_record : List ℕ → ℕ → Found → List ℕ
second_record namespace number found =
    request_opening (id_of namespace ids.Request number) (id_of namespace ids.Response number)
    found.opening.date found.opening.uri.now
    ++ ended found.request.now

-- the bytes begin with its two records
pub record IsFoundIn (namespace : List ℕ) (number : ℕ) (bytes : List ℕ) (found : Found) : Type 0 where
  pub rest : List ℕ
  pub composed : bytes ≡ first_record namespace number found ++ second_record namespace number found ++ rest
  pub opening : IsOpening (opening_of found.opening)
  pub target : IsAcceptedAs found.opening.uri.now found.opening.url
  pub first_len : found.first_len ≡ length (first_record namespace number found)
  pub len : found.len ≡ length (first_record namespace number found ++ second_record namespace number found)
  pub short : found.len < 2 ^ 63

-- its opening is right, and its response or revisit record holds the block and two line ends behind it
pub record IsFound (found : Found) : Type 0 where
  pub opening : IsOpening (opening_of found.opening)
  pub target : IsAcceptedAs found.opening.uri.now found.opening.url
  pub places : length found.answer.now + 4 ≤ found.first_len
  pub short : found.first_len < 2 ^ 63

-- the group that these parts make
pub record IsGroupIn (number : ℕ) (found : Found) (group : Group) : Type 0 where
  pub number_is : group.number ≡ number
  pub date : group.stored.date ≡ found.opening.date
  pub target : group.stored.uri ≡ found.opening.uri.now
  pub digest : group.digest ≡ found.opening.digest
  pub same : reference_in group.same ≡ (opening_of found.opening).same
  pub request_is : group.stored.request ≡ found.request.now
  pub request : IsRequestOf group.stored.method found.request.now
  pub answer : IsAnswerOf group.stored.method found.answer.now found.opening group.stored.head group.stored.kept
  pub payload_len : HasPayloadLen group.stored.method group.stored.head group.stored.kept group.payload_len
  pub len : group.len ≡ found.len
  pub first_len : group.first_len ≡ found.first_len
  pub head_at : group.head_at + length found.answer.now + 4 ≡ found.first_len
  pub body_at : group.body_at ≡ group.head_at + length group.stored.head

-- the messages in its blocks, as they were read
pub record HasMessages (found : Found) (method : List ℕ) (answer : Answer) : Type 0 where
  pub request : IsRequestOf method found.request.now
  pub answer_is : IsRead method found.answer.now found.opening answer

-- what a group keeps of these parts, of which this is the response
pub record AreCopies (found : Found) (answer : Answer) (copies : Copies) : Type 0 where
  pub uri : copies.uri ≡ found.opening.uri.now
  pub request : copies.request ≡ found.request.now
  pub head : copies.head ≡ answer.head.now
  pub same : reference_in copies.same ≡ (opening_of found.opening).same
  pub kept : copies.kept ≡ kept_by answer.form answer.wire.now

-- the bytes begin with a group that was read
pub record IsReadIn (namespace : List ℕ) (number : ℕ) (bytes : List ℕ) (read : Read) : Type 0 where
  pub found : IsFoundIn namespace number bytes read.found
  pub messages : HasMessages read.found read.method read.answer

-- the same of a stop
abbrev pub AsksByStop : List ℕ → ℕ → List ℕ → Stop → Type 0
AsksByStop namespace number bytes Open = EndsInOpening namespace number bytes (length bytes + 1)
AsksByStop namespace number bytes (Until n) = EndsInBlock namespace number bytes n
AsksByStop namespace number bytes Wrong = ⊤
AsksByStop namespace number bytes Memory = ⊤

-- the parts make a group of which this is told
abbrev pub MakesOutline : ℕ → Found → Outline → Type 0
MakesOutline number found outline = (group : Group) × IsGroupIn number found group × IsOutlineOf group outline

-- the answer where no group is told
abbrev pub no_group_by : NoRecord → GroupStep
no_group_by no_record.End = group_step.End
no_group_by no_record.Unfinished = group_step.Unfinished
no_group_by no_record.Damaged = group_step.Damaged
no_group_by (no_record.Need n) = group_step.Need n
no_group_by no_record.Memory = group_step.Memory
