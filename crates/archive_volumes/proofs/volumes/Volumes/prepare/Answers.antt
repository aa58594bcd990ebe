use Rattle.std.proofs.Common.{◌≡◌, ◌≤◌, ℕ, List, length, sym, ap, subst, ◌∙◌, arith}
use Rattle.capture.specs.declared.book.Book.{Book}
use Rattle.capture.specs.declared.book.Volume.{Volume}
use Rattle.warc_text.specs.Records.{info_text}
use Rattle.archive_shelf.proofs.ShortTexts.{short_info}
use Rattle.archive_shelf.specs.Storing.{new_volume}
use Rattle.archive_volumes.specs.Held.{book_of}
use Rattle.archive_volumes.proofs.volumes.Volumes.prepare.Goals as goal

pub returns-clause-born : goal.returns-clause-born
returns-clause-born g c = ap (λ (v : Volume). v.born) c.in_ok-shadow.ensures.volume

pub returns-clause-space : goal.returns-clause-space
returns-clause-space g c = c.in_ok-shadow.ensures.room

pub returns-clause-book : goal.returns-clause-book
returns-clause-book g c = c.prepare_volume.ensures.book

pub returns-clause-prepared : goal.returns-clause-prepared
returns-clause-prepared g c =
    let book : Book = book_of c.args.self.now.held in
    let volume = c.in_ok-shadow.ensures.volume in
    let text : c.in_ok-info.info ≡ info_text book.namespace (length book.volumes) c.args.born =
    c.in_ok-info.ensures ∙ ap (λ (n : ℕ). info_text book.namespace n c.args.born) (c.volumes-number.ensures ∙ c.requires.measured.count) in
    record {
      empty = volume ∙ sym (ap (λ (v : Volume). new_volume v.born) volume);
      space = c.in_ok-shadow.ensures.space;
      info = text ∙ sym (ap (λ (v : Volume). info_text book.namespace (length book.volumes) v.born) volume);
      short = subst (λ (t : List ℕ). length t ≤ 512) (sym c.in_ok-info.ensures) (short_info book.namespace c.volumes-number.result c.args.born (omega arith));
    }
