-- A scan stays where it stands beside work on files of another kind.
use Rattle.std.proofs.Common.{◌≡◌, ℕ, List, length, sym, ap, subst, ◌∙◌}
use Rattle.disk_model.specs.declared.disk.Disk.{Ghosts}
use Rattle.warc_journal.specs.Extents.{warc_files}
use Rattle.volume_scan.specs.Scannings.{LiesIn, ScansStayBesideOtherWork, disk_of, position_of, window_of}
use Rattle.volume_scan.specs.Unread.{file_at}
use Rattle.volume_scan.specs.Windows.{Shows}

pub in_place_beside : {D : Type 0} (d : Ghosts D) → ScansStayBesideOtherWork d
in_place_beside d old disk read from in_place = record {
  inside = in_place.inside;
  stands = λ tells.
      let was = in_place.stands tells in
      let same : warc_files (d.reading (disk_of old)) ≡ warc_files (d.reading disk) = sym (read tells) in
      record {
        synced = λ image left.
            let before = from tells image left in
            before.same ∙ was.synced before.before before.was ∙ same;
        count = was.count ∙ ap length same;
        lies = subst (LiesIn (position_of old)) same was.lies;
        last = λ k is. was.last k is ∙ ap (λ (files : List (List ℕ)). length (file_at files k)) same;
        shows = subst (Shows (window_of old)) same was.shows;
      };
}
