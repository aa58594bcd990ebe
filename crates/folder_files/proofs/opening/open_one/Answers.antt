-- The file is called so, and its length is asked for.
use Rattle.std.proofs.Common.{◌∙◌, List, ℕ, length, ap, sym}
use Rattle.folder_model.specs.Folder.{FolderPast, bytes_of}
use Rattle.folder_files.proofs.opening.open_one.Goals as goal

pub returns-clause-open : goal.returns-clause-open
returns-clause-open g c = λ told.
    let named = c.in_ok-file.ensures.named told in
    let before : FolderPast = g.F.Folder.past c.open_file.new.folder in
    record {
      fits = c.ranges.number.fits;
      named = named;
      len = c.in_ok-len.ensures.length told
          ∙ ap (λ (n : List ℕ). length (bytes_of before n)) named
          ∙ ap (λ (p : FolderPast). length (bytes_of p (g.N.FileNames.name c.args.kind c.args.number))) (sym (c.len.ensures.past told));
    }
