-- A member more is of the kind that is asked for.
use Rattle.std.proofs.Common.{◌≡◌, ◌∙◌, List, [], ◌∷◌, ◌++◌, ◌+◌, Bool, All, subst, sym, ap}
use Rattle.std.proofs.lemmas.List.Elements.{All-push}
use Rattle.real_outside.specs.Dialers.{is_echo}
use Rattle.real_outside.proofs.made.make_members.Goals as goal

one_more : {D C : Type 0} (echo : D → Bool) (streams : Bool) (xs ys : List (D × C)) (x : D × C)
    → All (λ member. echo member.0 ≡ streams) xs → echo x.0 ≡ streams → ys ≡ xs ++ x ∷ []
    → All (λ member. echo member.0 ≡ streams) ys
one_more {D} {C} echo streams xs ys x kind last e =
    let P : D × C → Type 0 = λ member. echo member.0 ≡ streams
    in let Q : List (D × C) → Type 0 = λ zs. All P zs
    in subst Q (sym e) (All-push P xs x kind last)

pub loop-preserved : goal.loop-preserved
loop-preserved g c = (
  c.in_ok-push.ensures.len ∙ ap (λ n. n + 1) c.loop.invariant.0,
  one_more is_echo c.args.streams c.loop.members.items _ (c.in_ok-make_dialer.field-0, c.new.result) c.loop.invariant.1
      c.in_ok-make_dialer.ensures.kind c.in_ok-push.ensures.items,
)
