-- The entry at the place has the name, or one entry more hasn't.
use Rattle.std.proofs.Common.{◌≡◌, ◌<◌, ℕ, None, ap, ◌∙◌, sym, subst, take, length, arith, add-one}
use Rattle.std.specs.Str.{bytes_eq}
use Rattle.memory_folder.specs.Entry.{Entry, found}
use Rattle.memory_folder.proofs.EntriesLaws.{place_from_before, none_before}
use Rattle.memory_folder.proofs.entries.place_of.Goals as goal

pub returns-then-is_named-clause-place : goal.returns-then-is_named-clause-place
returns-then-is_named-clause-place c =
    place_from_before c.args.entries.now c.args.name.now c.loop-i.i _ (omega (arith, c.loop-i-test.true)) c.loop-i.invariant
    (ap (λ (e : Entry). bytes_eq c.args.name.now e.name) (sym c.index-entries-i.is) ∙ sym c.is_named.ensures ∙ c.if-is_named.true)

pub loop-i-preserved : goal.loop-i-preserved
loop-i-preserved c =
    subst (λ (n : ℕ). found (take n c.args.entries.now) c.args.name.now ≡ None) (sym (add-one c.loop-i.i))
    (none_before c.args.entries.now c.args.name.now c.loop-i.i _ (omega (arith, c.loop-i-test.true)) c.loop-i.invariant
    (ap (λ (e : Entry). bytes_eq c.args.name.now e.name) (sym c.index-entries-i.is) ∙ sym c.is_named.ensures ∙ c.if-is_named.false))
