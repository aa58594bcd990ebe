use Rattle.std.proofs.Common.{◌≡◌, length, rules, sym, ap, ◌∙◌, subst, map, IfSome, slice_get, ℕ}
use Rattle.link_queue.specs.Serving.{AreShifts, IsShift}
use Rattle.link_queue.proofs.Shifts.{shifts_of, written}
use Rattle.link_queue.proofs.serving.work_all.Goals as goal

pub returns-clause-shifts : goal.returns-clause-shifts
returns-clause-shifts g c =
    let old = c.args.posts.now.items in
    let new = c.work_each.new.posts in
    let value : c.as_mut_slice.result.now ≡ old = c.as_mut_slice.ensures.value in
    let long : length new ≡ length old = c.work_each.ensures.count ∙ ap length value in
    let same : length old ≡ c.args.posts.now.len = search rules in
    let is = written c.args.posts.now.len new old (long ∙ same) same in
    let each : (i : ℕ) → IfSome (slice_get old i) (λ p. IfSome (slice_get new i) (λ q. IsShift g.W.Worker.stays g.W.Worker.serves p.worker q.share.taken q.worker)) = subst (λ xs. (i : ℕ) → IfSome (slice_get xs i) (λ p. IfSome (slice_get new i) (λ q. IsShift g.W.Worker.stays g.W.Worker.serves p.worker q.share.taken q.worker))) value c.work_each.ensures.each in
    subst (λ zs. AreShifts g.W.Worker.stays g.W.Worker.serves (map (λ p. p.worker) old) (map (λ p. p.share.taken) zs) (map (λ p. p.worker) zs)) (sym is) (shifts_of g.W.Worker.stays g.W.Worker.serves (λ p. p.worker) (λ p. p.share.taken) old new (sym long) each)
