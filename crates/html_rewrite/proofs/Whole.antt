-- Reading a page from its front to its end.
use Rattle.std.proofs.Common.{◌≡◌, ℕ, List, [], refl, sym, ◌∙◌, ap, subst, inl, inr, false, None}
use Rattle.std.specs.List.{flat_map}
use Rattle.html_rewrite.specs.declared.rewriter.Rewriter.{Rewriter}
use Rattle.html_rewrite.specs.Pieces.{replaced}
use Rattle.html_rewrite.specs.Split.{IsRead, Part, part_pieces}
use Rattle.html_rewrite.specs.steps.Reading.{IsDone, IsUnread, ReadsParts, ahead, done, grown}
use Rattle.html_rewrite.specs.Rewritten.{IsRewritten, within}
use Rattle.html_rewrite.proofs.Grown.{done_still, grown_none}
use Rattle.html_rewrite.proofs.PageLemmas.{read_joined}
use Rattle.html_rewrite.proofs.SomeSplit.{parts_of}

-- the page, read from its front
pub record FromFront (limit : ℕ) (link : List ℕ → List ℕ) (page : List ℕ) (rewriter : Rewriter) (parts : List Part) : Type 0 where
  pub whole : List Part
  pub read : IsRead whole page
  pub written : within limit (replaced link (flat_map part_pieces whole)) ≡ grown limit (done limit rewriter) (replaced link (flat_map part_pieces parts))

-- how the page goes on from here, it goes on from its front
pub record ReadsOn (limit : ℕ) (link : List ℕ → List ℕ) (page : List ℕ) (rewriter : Rewriter) : Type 0 where
  pub onward : (parts : List Part) → IsRead parts (ahead rewriter) → FromFront limit link page rewriter parts

pub reads_none : (limit : ℕ) (link : List ℕ → List ℕ) (page : List ℕ) (rewriter : Rewriter) → IsUnread page rewriter → ReadsOn limit link page rewriter
reads_none limit link page rewriter unread = record {
  onward = λ parts read. record {
    whole = parts;
    read = subst (IsRead parts) unread.rest read;
    written = ap (λ x. grown limit x (replaced link (flat_map part_pieces parts))) (sym (unread.written limit));
  };
}

pub reads_more : (limit : ℕ) (link : List ℕ → List ℕ) (page : List ℕ) (old new : Rewriter) → ReadsOn limit link page old → ReadsParts limit link old new → ReadsOn limit link page new
reads_more limit link page old new first second = record {
  onward = λ parts read.
      let later = second.onward parts read in
      let found = first.onward later.whole later.read in
      record { whole = found.whole; read = found.read; written = found.written ∙ later.written };
}

-- what is done is the page's text, if it is within the limit
written_as : (limit : ℕ) (link : List ℕ → List ℕ) (page : List ℕ) (rewriter : Rewriter) (parts : List Part) (found : FromFront limit link page rewriter parts) → done limit rewriter ≡ grown limit (done limit rewriter) (replaced link (flat_map part_pieces parts)) → IsRewritten limit link page (done limit rewriter)
written_as limit link page rewriter parts found same = record {
  pieces = flat_map part_pieces found.whole;
  split = record { parts = found.whole; read = found.read; of_parts = refl; joins = read_joined found.whole page found.read };
  text = same ∙ sym found.written;
}

none_done : (limit : ℕ) (rewriter : Rewriter) → rewriter.written.fits ≡ false → done limit rewriter ≡ None
none_done limit rewriter e = rw e refl

pub reads_all : (limit : ℕ) (link : List ℕ → List ℕ) (page : List ℕ) (rewriter : Rewriter) → ReadsOn limit link page rewriter → IsDone rewriter → IsRewritten limit link page (done limit rewriter)
reads_all limit link page rewriter reads is =
    elim is [
      | inl over ↦
          let rest = parts_of (ahead rewriter) in
          let none = none_done limit rewriter over in
          written_as limit link page rewriter rest.parts (reads.onward rest.parts rest.read) (none ∙ sym (grown_none limit (done limit rewriter) (replaced link (flat_map part_pieces rest.parts)) none))
      | inr end ↦
          let nothing : List Part = [] in
          written_as limit link page rewriter nothing (reads.onward nothing end) (sym (done_still limit rewriter))
    ]
