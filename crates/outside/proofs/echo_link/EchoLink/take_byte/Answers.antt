use Rattle.std.proofs.Common.{◌≡◌, ◌∙◌, sym, true, false, rules, drop, ◌++◌, ◌∷◌, [], length, ap}
use Rattle.outside.specs.Echo.{answer, ends_head}
use Rattle.outside.proofs.Echoes.{IsEcho-answered, IsEcho-goes_on}
use Rattle.outside.proofs.echo_link.EchoLink.take_byte.Goals as goal

pub invariant_of-self-then-is_whole : goal.invariant_of-self-then-is_whole
invariant_of-self-then-is_whole c =
    let link = c.self.inside in
    let begun : c.split_at.result.1.now ≡ drop link.place link.taken.items =
    c.split_at.ensures.back ∙ ap (drop link.place) (c.as_slice.ensures.value ∙ c.reserve.ensures.items) in
    let ends : ends_head (drop link.place link.taken.items) c.args.byte ≡ true =
    rw (← begun) (sym c.is_whole.ensures ∙ c.if-is_whole.true) in
    let echo = IsEcho-answered link.taken.items link.answers.given link.answers.left link.place c.args.byte c.self.invariant ends in
    let taken : c.push_reserved.new.self.items ≡ link.taken.items ++ c.args.byte ∷ [] = rw c.push_reserved.ensures.items (rw c.reserve.ensures.items) in
    let place : c.len-self-inside.result ≡ length (link.taken.items ++ c.args.byte ∷ []) = rw (← taken) (search rules) in
    let given : c.add.new.self.given ≡ link.answers.given = rw c.in_ok-add.ensures.ok in
    let left : c.add.new.self.left ≡ link.answers.left ++ answer (drop link.place link.taken.items) =
    rw (c.in_ok-add.ensures.ok, c.as_slice-then-is_whole.ensures.value, c.in_ok-answer.ensures, begun) in
    rw (taken, place, given, left) echo

pub invariant_of-self-else-is_whole : goal.invariant_of-self-else-is_whole
invariant_of-self-else-is_whole c =
    let link = c.self.inside in
    let begun : c.split_at.result.1.now ≡ drop link.place link.taken.items =
    c.split_at.ensures.back ∙ ap (drop link.place) (c.as_slice.ensures.value ∙ c.reserve.ensures.items) in
    let goes_on : ends_head (drop link.place link.taken.items) c.args.byte ≡ false =
    rw (← begun) (sym c.is_whole.ensures ∙ c.if-is_whole.false) in
    let taken : c.push_reserved-else-is_whole.new.self.items ≡ link.taken.items ++ c.args.byte ∷ [] =
    rw c.push_reserved-else-is_whole.ensures.items (rw c.reserve.ensures.items) in
    rw taken (IsEcho-goes_on link.taken.items link.answers.given link.answers.left link.place c.args.byte c.self.invariant goes_on)

pub returns-in_ok-add-clause-echoes : goal.returns-in_ok-add-clause-echoes
returns-in_ok-add-clause-echoes c =
    let link = c.self.inside in
    let begun : c.split_at.result.1.now ≡ drop link.place link.taken.items =
    c.split_at.ensures.back ∙ ap (drop link.place) (c.as_slice.ensures.value ∙ c.reserve.ensures.items) in
    let ends : ends_head (drop link.place link.taken.items) c.args.byte ≡ true =
    rw (← begun) (sym c.is_whole.ensures ∙ c.if-is_whole.true) in
    let echo = IsEcho-answered link.taken.items link.answers.given link.answers.left link.place c.args.byte c.self.invariant ends in
    let taken : c.push_reserved.new.self.items ≡ link.taken.items ++ c.args.byte ∷ [] = rw c.push_reserved.ensures.items (rw c.reserve.ensures.items) in
    let given : c.add.new.self.given ≡ link.answers.given = rw c.in_ok-add.ensures.ok in
    let left : c.add.new.self.left ≡ link.answers.left ++ answer (drop link.place link.taken.items) =
    rw (c.in_ok-add.ensures.ok, c.as_slice-then-is_whole.ensures.value, c.in_ok-answer.ensures, begun) in
    rw (taken, given, left) echo.answers

pub returns-else-is_whole-clause-echoes : goal.returns-else-is_whole-clause-echoes
returns-else-is_whole-clause-echoes c =
    let link = c.self.inside in
    let begun : c.split_at.result.1.now ≡ drop link.place link.taken.items =
    c.split_at.ensures.back ∙ ap (drop link.place) (c.as_slice.ensures.value ∙ c.reserve.ensures.items) in
    let goes_on : ends_head (drop link.place link.taken.items) c.args.byte ≡ false =
    rw (← begun) (sym c.is_whole.ensures ∙ c.if-is_whole.false) in
    let taken : c.push_reserved-else-is_whole.new.self.items ≡ link.taken.items ++ c.args.byte ∷ [] =
    rw c.push_reserved-else-is_whole.ensures.items (rw c.reserve.ensures.items) in
    let echo = IsEcho-goes_on link.taken.items link.answers.given link.answers.left link.place c.args.byte c.self.invariant goes_on in
    rw taken echo.answers
