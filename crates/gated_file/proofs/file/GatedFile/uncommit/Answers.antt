use Rattle.std.proofs.Common.{◌⊎◌, ℕ, List, refl, sym, subst, inl, inr, ⊎_elim}
use Rattle.disk_model.specs.Crash.{OnFile, Stepped, Torn}
use Rattle.disk_model.specs.Image.{Image}
use Rattle.disk_model.proofs.MomentLaws.{joined, weakened, absorbed}
use Rattle.capture.specs.Tails.{IsCommitted}
use Rattle.gated_file.specs.Files.{HoldsBefore, KeepsFront, Rewrites, bytes_of}
use Rattle.gated_file.specs.steps.Mending.{IsSynced, rest_of}
use Rattle.gated_file.proofs.Closing.{uncommitted}
use Rattle.gated_file.proofs.RewriteLaws.{on_file_same, rewrites_weaker}
use Rattle.gated_file.proofs.file.GatedFile.uncommit.Goals as goal

pub returns-in_err-is_committed-clause-stays : goal.returns-in_err-is_committed-clause-stays
returns-in_err-is_committed-clause-stays g c told =
    on_file_same c.args.self.now.kind c.args.self.now.file (KeepsFront c.args.self.now.end) (g.D.Disk.reading c.args.disk.now) (g.D.Disk.reading c.is_committed.new.disk) refl (c.is_committed.ensures.reading told)

pub returns-clause-stays : goal.returns-clause-stays
returns-clause-stays g c told =
    on_file_same c.args.self.now.kind c.args.self.now.file (KeepsFront c.args.self.now.end) (g.D.Disk.reading c.args.disk.now) (g.D.Disk.reading c.is_committed.new.disk) refl (c.is_committed.ensures.reading told)

pub returns-then-branch-clause-leaves : goal.returns-then-branch-clause-leaves
returns-then-branch-clause-leaves g c told synced =
    let gated = c.args.self.now in
    let d = g.D.Disk in
    let start = c.args.disk.now in
    let mid = c.is_committed.new.disk in
    let new = c.close.new.disk in
    let first : Image → Type 0 = d.images start in
    let holds : List ℕ → Type 0 = HoldsBefore gated (d.reading start) in
    let Both : Image → Type 0 = λ i. first i ⊎ Rewrites gated.kind gated.file first holds i in
    let Step : Image → Type 0 = Stepped (OnFile gated.kind gated.file (Torn gated.end 1)) (d.images mid) in
    let committed : IsCommitted gated.commit (rest_of gated (d.reading start)) = (c.in_ok-is_committed.ensures.committed told).0 c.if-branch.true in
    let committed_mid : IsCommitted gated.commit (rest_of gated (d.reading mid)) = subst (λ (r : Image). IsCommitted gated.commit (rest_of gated r)) (sym (c.is_committed.ensures.reading told)) committed in
    let synced_mid : IsSynced gated (d.reading mid) (d.images mid) = subst (λ (r : Image). IsSynced gated r (d.images mid)) (sym (c.is_committed.ensures.reading told)) (λ i left. synced i (c.is_committed.ensures.crash i left)) in
    let gives : (i : Image) → Step i → Both i = λ i stepped.
    ⊎_elim
    (λ was. inl (c.is_committed.ensures.crash i was))
    (λ is. inr (rewrites_weaker gated (d.images mid) first holds holds i c.is_committed.ensures.crash (λ b has. has) is))
    (uncommitted gated (bytes_of gated (d.reading start)) (d.images mid) i committed (λ j left. synced j (c.is_committed.ensures.crash j left)) stepped) in
    absorbed d.moment d.images_since start new first (Rewrites gated.kind gated.file first holds)
    (λ t i le was. g.met.D.Disk.now_counts start t i le was)
    (joined d.moment d.images_since start mid new Both
    (weakened d.moment d.images_since start mid first Both (λ i was. inl was) c.is_committed.ensures.leaves)
    (weakened d.moment d.images_since mid new Step Both gives (c.close.ensures.leaves told committed_mid synced_mid)))
