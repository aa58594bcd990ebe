use Rattle.std.proofs.Common.{◌<◌, ◌+◌, ◌++◌, ◌∷◌, ℕ, List, [], length, take, sym, ap, subst, ◌∙◌}
use Rattle.std.proofs.lemmas.List.{take_at}
use Rattle.warc_journal.specs.Extents.{texts_in}
use Rattle.record_opening.specs.Infos.{IsInfo}
use Rattle.volume_scan.specs.Scannings.{files_in}
use Rattle.volume_scan.specs.Unread.{file_at}
use Rattle.volume_scan.specs.declared.position.Stage.TheVariants.{Opened}
use Rattle.volume_scan.proofs.Texts.{texts_opened}
use Rattle.volume_scan.proofs.scanning.Scanning.open.Goals as goal

pub returns-clause-finds : goal.returns-clause-finds
returns-clause-finds g c =
    let d = g.D.Disk in
    let old = c.args.self.now in
    let extent = old.position.extent in
    let files = files_in d old in
    let f = c.requires.fits in
    let len = c.args.len in
    record {
      text = f.text;
      is = subst (IsInfo c.args.volume f.text c.args.namespace c.args.born) f.is.len_is f.is;
      number = c.requires.volume;
      there = c.requires.there;
      position = ap (λ (n : ℕ). record {
        extent = record extent { volumes = c.args.volume + 1; end = n };
        captures = old.position.captures;
        namespace = c.args.namespace;
        stage = Opened;
      }) f.is.len_is;
      read = λ told.
          let stands = c.requires.in_place.stands told in
          let b = c.requires.next told in
          let volume = c.requires.volume in
          ap (λ (v : ℕ). texts_in (record extent { volumes = v + 1; end = len }) files) volume
          ∙ texts_opened extent files stands.lies.enough len (subst (λ (v : ℕ). v < length files) volume (subst (λ (n : ℕ). c.args.volume < n) stands.count c.requires.there)) (c.requires.whole told)
          ∙ ap (λ (t : List ℕ). texts_in extent files ++ t ∷ [])
          (ap (λ (v : ℕ). take len (file_at files v)) (sym volume) ∙ ap (λ (l : List ℕ). take len l) b.composed
          ∙ take_at b.text b.rest len (sym b.is.len_is) ∙ b.is.composed ∙ sym f.is.composed);
    }
