-- Where a scan is refused for what a file holds.
use Rattle.std.proofs.Common.{◌≡◌, ◌<◌, ℕ, Bool, List, length, refl, inl, inr}
use Rattle.capture.specs.Tails.{IsRest}
use Rattle.warc_journal.specs.declared.extent.Further.{Further}
use Rattle.warc_journal.specs.declared.extent.Further.TheVariants.{Absent, Empty, Unknown}
use Rattle.warc_text.specs.StandsFor.{commit_byte}
use Rattle.volume_scan.specs.Damage.{IsNoFurther, NextIsNoVolume}
use Rattle.volume_scan.specs.Unread.{IsBehind, file_at, unread}
use Rattle.volume_scan.specs.steps.Next.{IsFurther}
use Rattle.volume_scan.specs.declared.position.Position.{Position}
use Rattle.volume_scan.proofs.BookLaws.{info_committed, rest_is_uncommitted}
use Rattle.volume_scan.proofs.Texts.{rest_of}

-- a further file holds nothing or a tail
further_file : (further : Further) (file : List ℕ) → IsFurther further file → IsRest commit_byte file
further_file Absent file is = absurd is
further_file Empty file is = inl is
further_file Unknown file is = inr is

-- the next file holds no volume, and may not be a further one
pub next_is_none : (position : Position) (files : List (List ℕ)) (file : ℕ) (is_dirty : Bool) (further : Further)
    → file ≡ position.extent.volumes → file < length files → IsBehind is_dirty (unread position files)
    → IsFurther further (file_at files file) → IsNoFurther position files file → NextIsNoVolume position files file 0
next_is_none position files file is_dirty further is there behind holds cause = record {
  file_is = is;
  place_is = refl;
  there = there;
  before = rest_of is_dirty (unread position files) behind;
  none = λ namespace born len begins.
      rest_is_uncommitted (file_at files file) (further_file further (file_at files file) holds) (info_committed file (file_at files file) namespace born len begins);
  cause = cause;
}
