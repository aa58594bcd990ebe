use Rattle.std.proofs.Common.{◌≡◌, ℕ, true, List, ◌++◌, length, take, sym, ap, subst, ◌∙◌}
use Rattle.std.proofs.Math.Seq.{take-append_seam}
use Rattle.message_body.specs.Slices.{IsLeft}
use Rattle.message_body.proofs.InPlaceLaws.{known_cut}
use Rattle.message_body.proofs.in_place.data_in_place.Goals as goal

-- what is written back is all there is
written : (bytes rest : List ℕ) (len : ℕ) → length bytes ≡ len → take len (bytes ++ rest) ≡ bytes
written bytes rest len e = subst (λ n. take n (bytes ++ rest) ≡ bytes) e (take-append_seam bytes rest)

pub returns-in-Last : goal.returns-in-Last
returns-in-Last c = λ payload is.
    c.front_of.ensures
    ∙ ap (take c.in-Last.len) (written c.gather.new.bytes _ c.args.wire.len (c.gather.ensures.len ∙ c.as_mut_slice.ensures.len))
    ∙ c.in-Last.ensures.gathered.0.known payload (subst (λ wire. IsLeft true wire payload) (sym c.as_mut_slice.ensures.value) is)

pub returns-in-Cut : goal.returns-in-Cut
returns-in-Cut c = λ payload is.
    c.front_of-in-Cut.ensures
    ∙ ap (take c.in-Cut.len) (written c.gather.new.bytes _ c.args.wire.len (c.gather.ensures.len ∙ c.as_mut_slice.ensures.len))
    ∙ known_cut c.as_mut_slice.result.now payload _ (subst (λ wire. IsLeft true wire payload) (sym c.as_mut_slice.ensures.value) is)
    c.in-Cut.ensures.gathered
