-- A file that isn't dirty is the text in each image.
use Rattle.std.proofs.Common.{◌≡◌, [], List, ℕ, refl, sym, ap, ◌∙◌}
use Rattle.std.proofs.lemmas.List.{append-nil}
use Rattle.disk_model.specs.Image.{Image, with_file}
use Rattle.disk_model.specs.steps.ImageLaws.{with_file-file_of}
use Rattle.gated_file.specs.Files.{HoldsAfter, KeepsFront, bytes_of, text_of}
use Rattle.gated_file.proofs.RewriteLaws.{on_file_same, rewrites_none}
use Rattle.gated_file.proofs.file.GatedFile.clean.Goals as goal

pub returns-clause-mended : goal.returns-clause-mended
returns-clause-mended g c told known =
    let gated = c.args.self.now in
    let reading : Image = g.D.Disk.reading c.args.disk.now in
    let is : bytes_of gated reading ≡ text_of gated reading = (known c.if-self.false reading (g.met.D.Disk.reading_is_image c.args.disk.now told)).same in
    sym (with_file-file_of reading gated.kind gated.file) ∙ ap (λ (bytes : List ℕ). with_file reading gated.kind gated.file bytes) is

pub returns-clause-stays : goal.returns-clause-stays
returns-clause-stays g c told =
    let gated = c.args.self.now in
    on_file_same gated.kind gated.file (KeepsFront gated.end) (g.D.Disk.reading c.args.disk.now) (g.D.Disk.reading c.args.disk.now) refl refl

pub returns-clause-only : goal.returns-clause-only
returns-clause-only g c told known image left =
    let gated = c.args.self.now in
    let reading : Image = g.D.Disk.reading c.args.disk.now in
    let ended = known c.if-self.false image left in
    rewrites_none gated (g.D.Disk.images c.args.disk.now) (HoldsAfter gated reading []) image left ended.there (ended.same ∙ sym (append-nil (text_of gated reading)))
