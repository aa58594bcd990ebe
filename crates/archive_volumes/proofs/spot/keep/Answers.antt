use Rattle.std.proofs.Common.{◌≡◌, ◌++◌, ◌∷◌, [], ◌<◌, ℕ, List, length, All, sym, ap, subst, ◌∙◌, if◌then◌else◌, arith}
use Rattle.archive_volumes.specs.Spots.{may_be_whole, whole_from}
use Rattle.archive_volumes.specs.declared.spot.Spot.{Spot}
use Rattle.archive_volumes.proofs.SpotLaws.{table_with, whole_below}
use Rattle.archive_volumes.proofs.spot.keep.Goals as goal

pub note_whole-requires-clause-above : goal.note_whole-requires-clause-above
note_whole-requires-clause-above c =
    let long : c.len.result ≡ length c.args.spots.now.items = omega (arith, c.len.ensures, c.args.spots.now.ok.0) in
    subst (λ (n : ℕ). All (λ (entry : List ℕ × ℕ). entry.1 < n) c.args.table.now.kept) (sym long)
    (subst (λ (kept : List (List ℕ × ℕ)). All (λ (entry : List ℕ × ℕ). entry.1 < length c.args.spots.now.items) kept) (sym c.requires.table)
    (whole_below c.args.spots.now.items))

pub returns-clause-table : goal.returns-clause-table
returns-clause-table c =
    let spots : List Spot = c.args.spots.now.items in
    let long : c.len.result ≡ length spots = omega (arith, c.len.ensures, c.args.spots.now.ok.0) in
    let items : c.push_reserved.new.self.items ≡ spots ++ c.args.spot ∷ [] = c.push_reserved.ensures.items in
    c.note_whole.ensures
    ∙ ap (λ (kept : List (List ℕ × ℕ)). kept ++ (if may_be_whole c.args.spot.form then (c.args.spot.digest, c.len.result) ∷ [] else [])) c.requires.table
    ∙ ap (λ (n : ℕ). whole_from 0 spots ++ (if may_be_whole c.args.spot.form then (c.args.spot.digest, n) ∷ [] else [])) long
    ∙ sym (table_with spots c.args.spot)
    ∙ ap (λ (l : List Spot). whole_from 0 l) (sym items)
