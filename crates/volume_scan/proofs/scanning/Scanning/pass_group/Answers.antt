use Rattle.std.proofs.Common.{◌+◌, ◌++◌, ℕ, List, refl, sym, ap, ◌∙◌, arith}
use Rattle.volume_scan.specs.Scannings.{files_in}
use Rattle.volume_scan.specs.declared.position.Stage.TheVariants.{Within}
use Rattle.volume_scan.proofs.Places.{lies_behind_group, moves_place}
use Rattle.volume_scan.proofs.Texts.{texts_longer}
use Rattle.volume_scan.proofs.scanning.Scanning.pass_group.Goals as goal

pub overflow_add-self : goal.overflow_add-self
overflow_add-self g c = omega (arith, c.requires.fits.fits, c.requires.fits.is.places.len)

pub returns-clause-finds : goal.returns-clause-finds
returns-clause-finds g c =
    let d = g.D.Disk in
    let old = c.args.self.now in
    let f = c.requires.fits in
    record {
      text = f.text;
      is = f.is;
      volume = c.requires.last;
      at = refl;
      len = f.is.places.len;
      position = ap (λ (n : ℕ). record old.position {
        extent = record old.position.extent { end = old.position.extent.end + n };
        captures = old.position.captures + 1;
        stage = Within;
      }) f.is.places.len;
      read = λ told.
          let b = c.requires.next told in
          let lies = (c.requires.in_place.stands told).lies in
          texts_longer old.position.extent (files_in d old) lies.enough _ f.text b.rest (omega (arith, c.requires.last)) lies.within
          (ap (λ (n : ℕ). old.position.extent.end + n) f.is.places.len)
          (b.composed ∙ ap (λ (l : List ℕ). l ++ b.rest) (b.is.composed ∙ sym f.is.composed));
    }

pub returns-clause-moves : goal.returns-clause-moves
returns-clause-moves g c =
    let d = g.D.Disk in
    let old = c.args.self.now in
    moves_place d old _ refl refl refl c.requires.in_place
    (λ told.
    let b = c.requires.next told in
    lies_behind_group old.position (files_in d old) (c.requires.in_place.stands told).lies _ _ b.text b.rest (omega (arith, c.requires.last))
    (ap (λ (n : ℕ). old.position.extent.end + n) b.is.places.len) b.composed)
    (λ told k is. (c.requires.in_place.stands told).last k is)
