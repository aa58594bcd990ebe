use Rattle.warc_text.proofs.PrefixLaws as laws
use Rattle.warc_text.proofs.laws.groups_tell_their_captures.Goals as goal

pub returns-clause-groups : goal.returns-clause-groups
returns-clause-groups c = laws.groups_tell_their_captures

pub returns-clause-references : goal.returns-clause-references
returns-clause-references c = laws.references_tell_their_captures
