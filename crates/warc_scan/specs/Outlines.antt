-- What is told of a group without the bodies of its messages.
use Rattle.std.specs.Prelude.{◌≡◌, ℕ, List, length, ◌+◌}
use Rattle.capture.specs.Captures.{is_cut, kept_wire}
use Rattle.http_head.specs.Heads.{HoldsResponse}
use Rattle.record_opening.specs.Openings.{opening_of}
use Rattle.record_opening.specs.declared.first_opening.FirstOpening.{FirstOpening}
use Rattle.warc_scan.specs.Answers.{BeginsWithGroup}
use Rattle.warc_scan.specs.declared.group.Group.{Group}
use Rattle.warc_scan.specs.declared.outline.Outline.{Outline}
use Rattle.warc_scan.specs.Groups.{reference_in}

-- it is that of this group
pub record IsOutlineOf (group : Group) (outline : Outline) : Type 0 where
  pub number_is : outline.number ≡ group.number
  pub method_is : outline.method ≡ group.stored.method
  pub uri_is : outline.uri ≡ group.stored.uri
  pub date_is : outline.date ≡ group.stored.date
  pub head_is : HoldsResponse group.stored.head outline.head
  pub cut_is : outline.cut ≡ is_cut group.stored.kept
  pub digest_is : outline.digest ≡ group.digest
  pub payload_len_is : outline.payload_len ≡ group.payload_len
  pub same_is : outline.same ≡ group.same
  pub request_len : outline.request_len ≡ length group.stored.request
  pub wire_len : outline.wire_len ≡ length (kept_wire group.stored.kept)
  pub head_at_is : outline.head_at ≡ group.head_at
  pub body_at_is : outline.body_at ≡ group.body_at
  pub first_len_is : outline.first_len ≡ group.first_len
  pub len_is : outline.len ≡ group.len

-- the bytes begin with a group of which this is told
abbrev pub BeginsWithOutline : List ℕ → ℕ → List ℕ → Outline → Type 0
BeginsWithOutline namespace number bytes outline = (group : Group) × BeginsWithGroup namespace number bytes group × IsOutlineOf group outline

-- an opening is that of a group's first record
pub record IsOpeningOf (group : Group) (first : FirstOpening) : Type 0 where
  pub date : first.opening.date ≡ group.stored.date
  pub uri : first.opening.uri.now ≡ group.stored.uri
  pub digest : first.opening.digest ≡ group.digest
  pub cut : first.opening.cut ≡ is_cut group.stored.kept
  pub same : (opening_of first.opening).same ≡ reference_in group.same
  pub block_at : first.block_at ≡ group.head_at
  pub block_len : first.block_at + first.block_len + 4 ≡ group.first_len
