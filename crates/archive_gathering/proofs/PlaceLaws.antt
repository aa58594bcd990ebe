-- Where things stand in a group.
use Rattle.std.proofs.Common.{◌≡◌, ℕ, ◌+◌, ◌≤◌, List, length, ap, arith, length-append}
use Rattle.std.specs.Prelude.{Option}
use Rattle.capture.specs.Captures.{taken_back}
use Rattle.capture.specs.declared.captured.Taken.{Taken}
use Rattle.warc_scan.specs.Groups.{IsGroup, reference_in}
use Rattle.warc_scan.specs.declared.group.Group.{Group}
use Rattle.warc_text.proofs.LengthLaws.{length-request_text}
use Rattle.warc_text.specs.Ids.{id_of}
use Rattle.warc_text.specs.Lengths.{request_length}
use Rattle.warc_text.specs.Records.{answer_text, group_text, request_text}
use Rattle.warc_text.specs.References.{Reference}
use Rattle.warc_text.specs.declared.id.IdKind.TheVariants as ids

-- the first record is no longer than the group
answer_within : (namespace : List ℕ) (number : ℕ) (taken : Taken) (digest : List ℕ) (same : Option Reference)
    → length (answer_text (id_of namespace ids.Response number) taken digest same) ≤ length (group_text namespace number taken digest same)
unfolding group_text
answer_within namespace number taken digest same =
    omega (
      arith,
      length-append (answer_text (id_of namespace ids.Response number) taken digest same)
          (request_text (id_of namespace ids.Request number) (id_of namespace ids.Response number) taken),
    )

pub first_within : (namespace : List ℕ) (number : ℕ) (text : List ℕ) (group : Group) → IsGroup namespace number text group → group.first_len ≤ group.len
first_within namespace number text group is =
    omega (
      arith,
      is.places.first_len,
      is.places.len,
      ap length is.composed,
      answer_within namespace number (taken_back group.stored) group.digest (reference_in group.same),
    )

pub answer_and_request : (namespace : List ℕ) (number : ℕ) (taken : Taken) (digest : List ℕ) (same : Option Reference)
    → length (group_text namespace number taken digest same)
    ≡ length (answer_text (id_of namespace ids.Response number) taken digest same) + request_length taken
unfolding group_text
answer_and_request namespace number taken digest same =
    let id = id_of namespace ids.Response number in
    omega (
      arith,
      length-append (answer_text id taken digest same) (request_text (id_of namespace ids.Request number) id taken),
      length-request_text (id_of namespace ids.Request number) id taken,
    )
