-- What was found is taken with the digest of the payload, and else nothing.
use Rattle.std.proofs.Common.{◌≡◌, ℕ, List, length, sym, ap, subst, ◌∙◌}
use Rattle.std.specs.Prelude.{IfSome, ◌<◌}
use Rattle.capture.specs.Captures.{captures}
use Rattle.archive_payloads.specs.Choosing.{IsKeptWith}
use Rattle.archive_volumes.specs.declared.spot.Spot.{Spot}
use Rattle.archive_core.specs.Holdings.{Holdings, IsArchive}
use Rattle.archive_core.proofs.ReferLaws.{refers_still}
use Rattle.archive_core.proofs.archive.Archive.still_found.Goals as goal

pub kept_with-requires : goal.kept_with-requires
kept_with-requires g c =
    let many : length c.self.inside.spots.items ≡ length (captures c.args.self.now.book) =
    subst (λ (held : Holdings _). length c.self.inside.spots.items ≡ length (captures held.book)) c.self.view_is c.self.invariant.spots.count in
    let same : length (captures c.args.self.now.book) ≡ length c.as_slice.result.now =
    sym many ∙ ap (λ (l : List Spot). length l) (sym c.as_slice.ensures.value) in
    record { below = subst (λ (n : ℕ). IfSome c.args.found (λ number. number < n)) same c.requires.below }

pub returns-clause-kept : goal.returns-clause-kept
returns-clause-kept g c =
    subst (λ (held : Holdings _). IfSome c.kept_with.result (IsKeptWith held.spots c.args.digest.now)) c.self.view_is
    (subst (λ (l : List Spot). IfSome c.kept_with.result (IsKeptWith l c.args.digest.now)) c.as_slice.ensures.value c.kept_with.ensures.kept)

pub returns-clause-refers : goal.returns-clause-refers
returns-clause-refers g c taken of refers =
    refers_still g.D.Disk c.args.self.now (subst (λ (held : Holdings _). IsArchive g.D.Disk held) c.self.view_is c.self.invariant) taken
    c.args.digest.now of c.args.found c.kept_with.result c.kept_with.ensures.one
    (λ kept. c.kept_with.ensures.all
    (subst (λ (l : List Spot). IfSome c.args.found (IsKeptWith l c.args.digest.now)) (sym c.as_slice.ensures.value)
    (subst (λ (held : Holdings _). IfSome c.args.found (IsKeptWith held.spots c.args.digest.now)) (sym c.self.view_is) kept)))
    refers
