-- A write that was done adds its bytes to the part so far, and one that failed leaves the part.
use Rattle.std.proofs.Common.{◌≡◌, ◌+◌, ℕ, List, length, take, ◌∙◌, ap, sym, subst, arith, length-append}
use Rattle.folder_model.specs.File.{Wrote}
use Rattle.folder_model.specs.Folder.{did_to}
use Rattle.folder_model.specs.Whole.{IsWriting}
use Rattle.folder_model.specs.steps.WholeLaws.{part_written, part_failed, failed_covers, writing_inside}
use Rattle.folder_model.proofs.whole.write_some.Goals as goal

pub write_at-requires : goal.write_at-requires
write_at-requires g c = λ tells.
    let so_far = c.requires.so_far tells in
    writing_inside (g.F.Folder.name_of c.args.file.now) so_far.1 c.args.bytes.now c.args.done c.args.place so_far.0 (g.F.Folder.past c.loop.folder)
    so_far.2 (c.loop.invariant tells so_far.0 so_far.1 so_far.2 so_far.3)

pub returns-in-Ok-clause-takes : goal.returns-in-Ok-clause-takes
returns-in-Ok-clause-takes g c = λ tells old at is_place writing.
    let n = g.F.Folder.name_of c.args.file.now in
    part_written n at c.args.bytes.now c.args.done c.in-Ok.n c.args.place old (g.F.Folder.past c.loop.folder) (g.F.Folder.past c.write_at.new.self)
    (omega (arith, c.in-Ok.ensures.bound, c.split_at.ensures.back_len, c.requires.inside)) is_place
    (c.loop.invariant tells old at is_place writing)
    (c.in-Ok.ensures.takes tells
    ∙ ap (λ (xs : List ℕ). did_to (g.F.Folder.past c.loop.folder) n (Wrote c.args.place (take c.in-Ok.n xs) 0)) c.split_at.ensures.back)

-- a write that took nothing leaves the part
pub returns-in-Ok-eq0-clause-fails : goal.returns-in-Ok-eq0-clause-fails
returns-in-Ok-eq0-clause-fails g c = λ tells old at is_place writing.
    let n = g.F.Folder.name_of c.args.file.now in
    let none : c.args.done + c.in-Ok-eq0.field-0 ≡ c.args.done = omega (arith, c.in-Ok-eq0.field-0-is) in
    subst (λ (k : ℕ). IsWriting n at c.args.bytes.now k old (g.F.Folder.past c.write_at.new.self)) none
    (part_written n at c.args.bytes.now c.args.done c.in-Ok-eq0.field-0 c.args.place old (g.F.Folder.past c.loop.folder) (g.F.Folder.past c.write_at.new.self)
    (omega (arith, c.in-Ok-eq0.ensures.bound, c.split_at.ensures.back_len, c.requires.inside)) is_place
    (c.loop.invariant tells old at is_place writing)
    (c.in-Ok-eq0.ensures.takes tells
    ∙ ap (λ (xs : List ℕ). did_to (g.F.Folder.past c.loop.folder) n (Wrote c.args.place (take c.in-Ok-eq0.field-0 xs) 0)) c.split_at.ensures.back))

pub returns-then-ne-clause-fails : goal.returns-then-ne-clause-fails
returns-then-ne-clause-fails g c = λ tells old at is_place writing.
    let n = g.F.Folder.name_of c.args.file.now in
    let part = c.in-Err.ensures.partial tells in
    part_failed n at c.args.bytes.now c.args.done c.args.place part.bytes (length part.rest) old (g.F.Folder.past c.loop.folder) (g.F.Folder.past c.write_at.new.self)
    (omega (arith, c.requires.inside)) is_place (sym (length-append part.bytes part.rest) ∙ ap length part.all ∙ ap length c.split_at.ensures.back)
    (c.loop.invariant tells old at is_place writing) part.whole

pub returns-then-ne-clause-torn : goal.returns-then-ne-clause-torn
returns-then-ne-clause-torn g c = λ tells old at is_place writing.
    failed_covers (g.F.Folder.name_of c.args.file.now) at c.args.bytes.now c.args.done c.args.place _ old (g.F.Folder.past c.loop.folder) (g.F.Folder.past c.write_at.new.self)
    (omega (arith, c.requires.inside)) is_place c.split_at.ensures.back (c.loop.invariant tells old at is_place writing).covers (c.in-Err.ensures.partial tells)

pub loop-preserved : goal.loop-preserved
loop-preserved g c = λ tells old at is_place writing.
    let n = g.F.Folder.name_of c.args.file.now in
    let part = c.in-Err.ensures.partial tells in
    part_failed n at c.args.bytes.now c.args.done c.args.place part.bytes (length part.rest) old (g.F.Folder.past c.loop.folder) (g.F.Folder.past c.write_at.new.self)
    (omega (arith, c.requires.inside)) is_place (sym (length-append part.bytes part.rest) ∙ ap length part.all ∙ ap length c.split_at.ensures.back)
    (c.loop.invariant tells old at is_place writing) part.whole
