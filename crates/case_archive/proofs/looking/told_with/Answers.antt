-- The digest of the payload is that of the capture.
use Rattle.case_archive.proofs.looking.told_with.Goals as goal

pub store_after-requires-clause-digest : goal.store_after-requires-clause-digest
store_after-requires-clause-digest g c =
    rw c.requires.digest (c.compared_payloads_serve_later.ensures.digest c.args.prepared.now.taken c.args.prepared.now.payload c.requires.prepared.has)
