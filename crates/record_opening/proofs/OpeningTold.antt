-- An opening tells what it says, whatever follows it.
use Rattle.std.proofs.Common.{◌≡◌, ℕ, false, List, ◌++◌, Some, None, refl, sym, ap, subst, ◌∙◌}
use Rattle.std.specs.Prelude.{Option, IfSome}
use Rattle.warc_text.specs.Groups.{IsReference}
use Rattle.warc_text.specs.References.{Reference}
use Rattle.warc_text.proofs.Openings.{response_opening_front, revisit_opening_front, response_no_revisit}
use Rattle.record_opening.specs.Openings.{IsOpening, IsRevisited, Opening, opening_by, opening_text}
use Rattle.record_opening.proofs.Refusals.{IsTold}
use Rattle.record_opening.proofs.Targets.{target_is_one_line}

reference_is : (reference : Reference) → IsRevisited reference → IsReference reference
reference_is reference is = record { id = is.id_is; uri = target_is_one_line reference.uri is.target }

uncut_by : (o : Opening) (reference : Reference) → IsOpening o → o.same ≡ Some reference → o.cut ≡ false
uncut_by o reference is same = subst (λ (s : Option Reference). IfSome s (λ r. o.cut ≡ false)) same is.whole

revisited_by : (o : Opening) (reference : Reference) → IsOpening o → o.same ≡ Some reference → IsReference reference
revisited_by o reference is same = reference_is reference (subst (λ (s : Option Reference). IfSome s IsRevisited) same is.refers)

by_same : (id : List ℕ) (o w : Opening) (x y : List ℕ) (same other : Option Reference) → IsOpening o → IsOpening w → o.same ≡ same → w.same ≡ other
    → opening_by id o same ++ x ≡ opening_by id w other ++ y → (o ≡ w) × (x ≡ y)
by_same id o w x y None None is was p q e =
    let told = response_opening_front id id o.date w.date o.uri w.uri o.digest w.digest o.cut w.cut x y
    (target_is_one_line o.uri is.target) (target_is_one_line w.uri was.target) is.digest_is was.digest_is e in
    let sames : o.same ≡ w.same = p ∙ sym q in
    let one : o ≡ w = λ i. record { date = told.date i; uri = told.target i; digest = told.payload_digest i; cut = told.cut i; same = sames i } in
    (one, told.behind)
by_same id o w x y (Some r) (Some s) is was p q e =
    let told = revisit_opening_front id id o.date w.date o.uri w.uri o.digest w.digest r s x y
    (target_is_one_line o.uri is.target) (target_is_one_line w.uri was.target) is.digest_is was.digest_is
    (revisited_by o r is p) (revisited_by w s was q) e in
    let sames : o.same ≡ w.same = p ∙ ap (λ (t : Reference). Some t) told.refers ∙ sym q in
    let cuts : o.cut ≡ w.cut = uncut_by o r is p ∙ sym (uncut_by w s was q) in
    let one : o ≡ w = λ i. record { date = told.date i; uri = told.target i; digest = told.payload_digest i; cut = cuts i; same = sames i } in
    (one, told.behind)
by_same id o w x y None (Some s) is was p q e = absurd (response_no_revisit id id o.date w.date o.uri w.uri o.digest w.digest o.cut s x y e)
by_same id o w x y (Some r) None is was p q e = absurd (response_no_revisit id id w.date o.date w.uri o.uri w.digest o.digest w.cut r y x (sym e))

pub opening_told : (id : List ℕ) (o : Opening) → IsOpening o → IsTold IsOpening (opening_text id) o
opening_told id o is w x y was e = by_same id o w x y o.same w.same is was refl refl e
