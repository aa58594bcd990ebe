use Rattle.std.proofs.Common.{ℕ, List, Bor, ◌∙◌, rules, tests}
use Rattle.std.proofs.lemmas.Iterator.{YieldsList-from_slice}
use Rattle.std.proofs.lemmas.Iterator.Search.{any_from_yields_List}
use Rattle.exchange.specs.Texts.{is_same_name}
use Rattle.exchange.proofs.MemberLemmas.{any_now}
use Rattle.exchange.proofs.connection_names.is_listed.Goals as goal

pub returns : goal.returns
returns c =
    any_from_yields_List (λ (m : Bor (List ℕ)). is_same_name m.now c.args.name.now) _ _ _ c.any.ensures.ran (YieldsList-from_slice c.args.listed.now cc) (λ x b q k. search (rules, tests))
    ∙ any_now (λ (member : List ℕ). is_same_name member c.args.name.now) c.args.listed.now
