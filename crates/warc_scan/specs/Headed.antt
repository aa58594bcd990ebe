-- A group with what is parsed to find it.
use Rattle.capture.specs.Target.{IsAcceptedAs}
use Rattle.http_head.specs.Heads.{HoldsResponse}
use Rattle.warc_scan.specs.declared.group.HeadedGroup.{HeadedGroup}

-- the parts beside the group are those of its head, and the URL is that of its target
pub record HasItsParts (read : HeadedGroup) : Type 0 where
  pub head : HoldsResponse read.group.stored.head read.head
  pub target : IsAcceptedAs read.group.stored.uri read.url
